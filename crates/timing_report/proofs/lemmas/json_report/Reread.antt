-- The text of a value that its text keeps, with a line end after it, reads as the value.
use Rattle.std.proofs.Common.{◌≡◌, ◌≤◌, ℕ, Bool, true, false, cond, ◌&&◌, List, [], ◌∷◌, ◌++◌, Some, option_and_then, refl, sym, ap, ap₂, ◌∙◌, append_assoc}
use Rattle.std.proofs.Common.{append-nil}
use Rattle.std.specs.Prelude.{codes}
use Rattle.json.specs.Json as json
use Rattle.json.specs.Lex.{Lexeme, token, comma, colon, string_token, lex, between, fresh, punctuate, tokens}
use Rattle.json.specs.Print.{escape, quoted, token_text, begins, ends, print_from, print, IsPrintable, ArePrintable}
use Rattle.json.specs.Token.{Token, begin_object, end_object, begin_array, end_array, key, string, number, boolean, null, bad}
use Rattle.json.specs.Tree.{json_tokens, depth}
use Rattle.json.specs.Word.{ends_word, word}
use Rattle.json.proofs.Printed.Numbers.{lex-number, in_word-ended}
use Rattle.json.proofs.Printed.Strings.{content-escape, lex-escape}
use Rattle.json.proofs.Printed.Tokens.{tokens-print}
use Rattle.json.proofs.Printed.Trees.{value-json_tokens, ArePrintable-json_tokens}
use Rattle.serde_json.specs.Data.{Data}
use Rattle.serde_json.specs.Read.{of_json, max_depth, read}
use Rattle.serde_json.specs.Written.{outline, compact_text}
use Rattle.serde_json.proofs.Texts.{print-outline}
use Rattle.timing_report.proofs.lemmas.json_report.Kept.{Kept, of_json-outline, HasNumbers-outline}

-- the lexemes of a token
abbrev lexemes_of : Token → List Lexeme
lexemes_of begin_object = token begin_object ∷ []
lexemes_of end_object = token end_object ∷ []
lexemes_of begin_array = token begin_array ∷ []
lexemes_of end_array = token end_array ∷ []
lexemes_of (key s) = token (string s) ∷ colon ∷ []
lexemes_of (string s) = token (string s) ∷ []
lexemes_of (number s) = token (number s) ∷ []
lexemes_of (boolean b) = token (boolean b) ∷ []
lexemes_of null = token null ∷ []
lexemes_of bad = []

lex-quoted : (s r : List ℕ) → lex between (quoted s ++ r) ≡ token (string s) ∷ lex between r
unfolding lex
lex-quoted s r =
    ap (λ l. lex between (34 ∷ l)) (append_assoc (escape s) (34 ∷ []) r) ∙ ap₂ (λ o l. token (string_token o) ∷ l) (content-escape s r) (lex-escape s r)

lex-token : (t : Token) (r : List ℕ) → IsPrintable t → (ends t ≡ true → ends_word r ≡ true) → lex between (token_text t ++ r) ≡ lexemes_of t ++ lex between r
unfolding lex word
lex-token begin_object r h ended = refl
lex-token end_object r h ended = refl
lex-token begin_array r h ended = refl
lex-token end_array r h ended = refl
lex-token (key s) r h ended = ap (lex between) (append_assoc (quoted s) (58 ∷ []) r) ∙ lex-quoted s (58 ∷ r)
lex-token (string s) r h ended = lex-quoted s r
lex-token (number s) r h ended = lex-number s r h (ended refl)
lex-token (boolean true) r h ended = ap₂ (λ b l. token (cond b (boolean true) bad) ∷ l) (ended refl) (in_word-ended r (ended refl))
lex-token (boolean false) r h ended = ap₂ (λ b l. token (cond b (boolean false) bad) ∷ l) (ended refl) (in_word-ended r (ended refl))
lex-token null r h ended = ap₂ (λ b l. token (cond b null bad) ∷ l) (ended refl) (in_word-ended r (ended refl))
lex-token bad r h ended = absurd h

lex-separator : (b : Bool) (r : List ℕ) → lex between (cond b (44 ∷ []) [] ++ r) ≡ cond b (comma ∷ []) [] ++ lex between r
unfolding lex
lex-separator true r = refl
lex-separator false r = refl

-- after a value stands a comma, a closing bracket, a line end or nothing
value_ends : (line : List ℕ) → ends_word line ≡ true → (ts : List Token) → ends_word (print_from true ts ++ line) ≡ true
unfolding print_from
value_ends line e [] = e
value_ends line e (begin_object ∷ ts) = refl
value_ends line e (end_object ∷ ts) = refl
value_ends line e (begin_array ∷ ts) = refl
value_ends line e (end_array ∷ ts) = refl
value_ends line e (key s ∷ ts) = refl
value_ends line e (string s ∷ ts) = refl
value_ends line e (number s ∷ ts) = refl
value_ends line e (boolean b ∷ ts) = refl
value_ends line e (null ∷ ts) = refl
value_ends line e (bad ∷ ts) = refl

-- the lexemes of tokens that are printed, with commas
abbrev lexemes : Bool → List Token → List Lexeme
lexemes c [] = []
lexemes c (t ∷ ts) = cond (c && begins t) (comma ∷ []) [] ++ (lexemes_of t ++ lexemes (ends t) ts)

-- whatever stands after a printed text and holds no lexeme
lex-printed : (line : List ℕ) → ends_word line ≡ true → lex between line ≡ [] → (c : Bool) (ts : List Token) → ArePrintable ts
    → lex between (print_from c ts ++ line) ≡ lexemes c ts
unfolding print_from ArePrintable
lex-printed line e none c [] h = none
lex-printed line e none c (t ∷ ts) h =
    let comma_text = cond (c && begins t) (44 ∷ []) [] in
    let rest = print_from (ends t) ts in
    ap (lex between) (append_assoc comma_text (token_text t ++ rest) line ∙ ap (λ l. comma_text ++ l) (append_assoc (token_text t) rest line))
    ∙ lex-separator (c && begins t) (token_text t ++ (rest ++ line))
    ∙ ap (λ l. cond (c && begins t) (comma ∷ []) [] ++ l)
    (lex-token t (rest ++ line) h.0 (λ f. ap (λ b. ends_word (print_from b ts ++ line)) f ∙ value_ends line e ts)
    ∙ ap (λ l. lexemes_of t ++ l) (lex-printed line e none (ends t) ts h.1))

lex-nothing : lex between [] ≡ []
unfolding lex
lex-nothing = refl

lex-line : lex between (codes "\n") ≡ []
unfolding lex
lex-line = refl

-- a line end after a printed text changes nothing
tokens-line : (ts : List Token) → ArePrintable ts → tokens (print ts ++ codes "\n") ≡ ts
tokens-line ts h =
    ap (punctuate fresh)
    (lex-printed (codes "\n") refl lex-line false ts h ∙ sym (lex-printed [] refl lex-nothing false ts h) ∙ ap (lex between) (append-nil (print ts)))
    ∙ tokens-print ts h

-- the text of a value that its text keeps reads as the value
pub read_line : (d : Data) → Kept d → depth (outline d) ≤ max_depth → read (compact_text d ++ codes "\n") ≡ Some d
read_line d kept shallow =
    let ts = json_tokens (outline d) in
    let told : tokens (compact_text d ++ codes "\n") ≡ ts
    = ap (λ s. tokens (s ++ codes "\n")) (sym (print-outline d)) ∙ tokens-line ts (ArePrintable-json_tokens (outline d) (HasNumbers-outline d kept)) in
    ap (λ us. option_and_then of_json (option_and_then (λ p. json.if_last p.0 p.1) (json.value max_depth us))) (told ∙ sym (append-nil ts))
    ∙ ap (λ r. option_and_then of_json (option_and_then (λ p. json.if_last p.0 p.1) r)) (value-json_tokens (outline d) max_depth [] shallow)
    ∙ of_json-outline d kept
