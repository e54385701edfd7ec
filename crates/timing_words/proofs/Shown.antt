-- What is shown of the arguments of a parser is what the grammar has.
use Rattle.std.proofs.Common.{◌≡◌, ◌∙◌, refl, ap, List, [], ◌∷◌, ◌++◌, map, true, false, Bool, codes}
use Rattle.std.specs.List.{flat_map}
use Rattle.clap.specs.Words.{App, Rule}
use Rattle.clap.specs.Walk.{rule_of}
use Rattle.clap.specs.declared.builder.arg.Arg.{Arg}
use Rattle.timing_words.specs.Clap.{app, names_told, told as told_rule}
use Rattle.timing_words.specs.Line.{Sort, Text}
use Rattle.timing_words.specs.declared.command.Command.{Command}
use Rattle.timing_words.specs.Help.{told, word}
use Rattle.timing_words.specs.Parsers.{told_in, word_in}

-- the texts of `help` over their parts
abbrev pub framed : (usage about lines printed example : Text) → Text
framed usage about lines printed example =
    usage ++ (codes "\n" ++ (about ++ (codes "\n\n" ++ (lines ++ (codes "\n" ++ (printed ++ (codes "Example: " ++ (example ++ codes "\n"))))))))

pub framed-same : (u a l p e usage about lines printed example : Text) → u ≡ usage → a ≡ about → l ≡ lines → p ≡ printed → e ≡ example
    → framed u a l p e ≡ framed usage about lines printed example
framed-same u a l p e usage about lines printed example is_u is_a is_l is_p is_e = rw (is_u, is_a, is_l, is_p, is_e) refl

pub three-same : (a b c a2 b2 c2 : Text) → a ≡ a2 → b ≡ b2 → c ≡ c2 → a ++ (b ++ c) ≡ a2 ++ (b2 ++ c2)
three-same a b c a2 b2 c2 is_a is_b is_c = rw (is_a, is_b, is_c) refl

over-rules : (g : Rule → Text) (args : List Arg) → flat_map (λ a. g (rule_of a)) args ≡ flat_map g (map rule_of args)
over-rules g [] = refl
over-rules g (a ∷ args) = ap (λ t. g (rule_of a) ++ t) (over-rules g args)

-- a function of what `clap` is told shows nothing of the names, and of an option or a flag what another shows of it
pub record Shows (g : Rule → Text) (f : Sort → Text) : Type 0 where
  pub names : g names_told ≡ []
  pub sorts : (b : Bool) (n : Text) → g (told_rule b n) ≡ f (record { name = n; valued = b })

words-told : (c : Command) (b : Bool) (n : Text) → word_in c (told_rule b n) ≡ word c (record { name = n; valued = b })
words-told c true n = refl
words-told c false n = refl

lines-told : (b : Bool) (n : Text) → told_in (told_rule b n) ≡ told (record { name = n; valued = b })
lines-told true n = refl
lines-told false n = refl

pub shows-words : (c : Command) → Shows (word_in c) (word c)
shows-words c = record { names = refl; sorts = words-told c }

pub shows-lines : Shows told_in told
shows-lines = record { names = refl; sorts = lines-told }

abbrev rules_of : List Sort → List Rule
rules_of sorts = map (λ s. told_rule s.valued s.name) sorts ++ names_told ∷ []

of-sorts : (g : Rule → Text) (f : Sort → Text) (sorts : List Sort) → Shows g f → flat_map g (rules_of sorts) ≡ flat_map f sorts
of-sorts g f [] shows = ap (λ t. t ++ []) shows.names
of-sorts g f (s ∷ rest) shows = ap (λ t. t ++ flat_map g (rules_of rest)) (shows.sorts s.valued s.name) ∙ ap (λ t. f s ++ t) (of-sorts g f rest shows)

-- the arguments of a parser that was told of these
pub shown-sorts : (g : Rule → Text) (f : Sort → Text) (a : App) (args : List Arg) (sorts : List Sort) → Shows g f → map rule_of args ≡ a.top.rules
    → a ≡ app sorts
    → flat_map (λ a. g (rule_of a)) args ≡ flat_map f sorts
shown-sorts g f a args sorts shows are is =
    over-rules g args ∙ ap (flat_map g) (are ∙ ap (λ (b : App). b.top.rules) is) ∙ of-sorts g f sorts shows
