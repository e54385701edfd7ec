-- One word of `clap`'s walk over a command that it was told of.
use Rattle.std.proofs.Common.{◌≡◌, ◌∙◌, ◌||◌, ◌&&◌, ◌==◌, Bool, true, false, cond, refl, sym, ap, ap₂, subst, List, [], ◌∷◌, Option, Some, None, option_map, ℕ}
use Rattle.std.proofs.Common.{suc, length, drop, arith}
use Rattle.std.specs.Prelude.{find, slice_get, IsUtf8, encode_utf8_all, option_and_then, nat_lt}
use Rattle.std.specs.List.{before_first}
use Rattle.std.specs.Option.{option_map_or}
use Rattle.std.specs.Char.{encode_utf8}
use Rattle.std.specs.Str.{bytes_eq, chars}
use Rattle.std.proofs.lemmas.Bool.Decides.{Decides-eqb}
use Rattle.std.proofs.lemmas.Slice.Eq.{bytes_eq-Decides}
use Rattle.std.proofs.lemmas.Str.{encodes-chars}
use Rattle.clap.specs.Kinds.{Kinds, or_else}
use Rattle.clap.specs.Lexer.{long_of, long_of_rest, short_of, short_of_rest, strip_byte}
use Rattle.clap.specs.Simple.{Shape, built}
use Rattle.clap.specs.Walk.{after_step, long_or_other, option_word, pushed, short_or_plain, after_flag, subcommand_or_other, Held, Row, Rule, Waiting, Walk}
use Rattle.clap.specs.Walk.{arg_by_id, arg_by_long, arg_by_short, idle, is_pending, long_met, next, option as awaits, plain_word, positional, settled}
use Rattle.clap.specs.Walk.{settled_rows, subcommand_met, to_positional, trailing, used, value, walked, word_met}
use Rattle.clap.specs.Faults.{bundle_fault, bundle_step_fault, short_fault, flag_word_fault, other_fault, step_fault, flags_fault, long_fault, positional_fault}
use Rattle.clap.specs.Faults.{settle_fault, stray_fault, turn_fault, use_fault, word_fault}
use Rattle.clap.specs.declared.error.kind.ErrorKind.{ErrorKind}
use Rattle.clap.specs.declared.error.kind.ErrorKind.TheVariants.{UnknownArgument, TooManyValues}
use Rattle.timing_words.specs.Line.{Sort, Text, Word, option, dashes, flag, name, named, opens, sorted, whole, wrong, long_word, hyphened, is_hyphened}
use Rattle.timing_words.specs.Line.{value_in}
use Rattle.timing_words.specs.Clap.{app, names_id}
use Rattle.timing_words.proofs.Rules.{by_id, by_index, by_long, found_again, names_rule, rule, rules, sort_rule}

-- the built command
abbrev pub shape : List Sort → Shape
shape sorts = record (built (app sorts)).top { rules = rules sorts }

-- what is held
abbrev pub holding : List Row → Option (Text × List Text) → Held
holding rows pend = record { rows = rows; pending = pend; skip = 0 }

-- where the walk stands
abbrev pub at : List Row → Option (Text × List Text) → Waiting → Bool → Walk
at rows pend wt is_trailing =
    record { held = holding rows pend; waiting = wt; position = 1; is_trailing = is_trailing; stopped = None }

and_no : (a : Bool) → (a && false) ≡ false
and_no true = refl
and_no false = refl

pub or_else_nil : (k : Kinds) → or_else k [] ≡ k
or_else_nil [] = refl
or_else_nil (x ∷ xs) = refl

-- no word names a subcommand
no_sub : (wt : Waiting) (w : Text) → subcommand_met [] wt w ≡ None
no_sub idle w = refl
no_sub (awaits id) w = refl
no_sub positional w = refl

-- a word that is no flag
pub record Plain (w : Text) : Type 0 where
  pub dashes : bytes_eq w (45 ∷ 45 ∷ []) ≡ false
  pub long : long_of w ≡ None
  pub short : short_of w ≡ None

pub plain_is : (w : Text) → is_hyphened w ≡ false → Plain w
plain_is [] e = record { dashes = refl; long = refl; short = refl }
plain_is (x ∷ []) e = record {
  dashes = and_no (x == 45);
  long = lone_long (x == 45);
  short = lone_short (x == 45);
}
  where
    lone_long : (b : Bool) → option_and_then long_of_rest (option_and_then (strip_byte 45) (cond b (Some []) None)) ≡ None
    lone_long true = refl
    lone_long false = refl

    lone_short : (b : Bool) → option_and_then short_of_rest (cond b (Some []) None) ≡ None
    lone_short true = refl
    lone_short false = refl
plain_is (x ∷ y ∷ rest) e = record { dashes = rw e refl; long = rw e refl; short = rw e refl }

-- text that begins with a hyphen and is longer spells a character after it
pub next_char : (y : ℕ) (rest : Text) → IsUtf8 (45 ∷ y ∷ rest) → (c : ℕ) × (slice_get (chars (y ∷ rest)) 0 ≡ Some c)
unfolding chars encode_utf8
next_char y rest u = go (chars (y ∷ rest)) refl
  where
    go : (cs : List ℕ) → chars (y ∷ rest) ≡ cs → (c : ℕ) × (slice_get (chars (y ∷ rest)) 0 ≡ Some c)
    go [] e =
        let whole : encode_utf8_all (45 ∷ chars (y ∷ rest)) ≡ 45 ∷ y ∷ rest = encodes-chars (45 ∷ y ∷ rest) u in
        let bad : encode_utf8_all (45 ∷ []) ≡ 45 ∷ y ∷ rest = subst (λ ds. encode_utf8_all (45 ∷ ds) ≡ 45 ∷ y ∷ rest) e whole in
        let lengths : 1 ≡ suc (suc (length rest)) = ap length bad in
        absurd (omega arith)
    go (c ∷ cs) e = (c, ap (λ ds. slice_get ds 0) e)

-- what is done with what was pending
abbrev pub settle_kinds : List Rule → List Row → Option (Text × List Text) → Kinds
settle_kinds c rows pend = settle_fault c false (holding rows pend)

module _ (sorts : List Sort) where
  no_short_one : (b : Bool) (n : Text) (xs : List Rule) (x : ℕ) → arg_by_short (rule b n ∷ xs) x ≡ arg_by_short xs x
  no_short_one true n xs x = refl
  no_short_one false n xs x = refl

  no_short : (ss : List Sort) (x : ℕ) → arg_by_short (rules ss) x ≡ None
  no_short [] x = refl
  no_short (s ∷ rest) x = no_short_one s.valued s.name (rules rest) x ∙ no_short rest x

  -- the word goes to the names
  pub names_turn : (rows : List Row) (pend : Option (Text × List Text)) (wt : Waiting) (t : Bool) (w : Text)
      → word_met (rules sorts) [] t wt 1 w (holding rows pend) ≡ (holding rows pend, value)
      → word_fault (shape sorts) [] t wt w (holding rows pend) ≡ []
      → (turn_fault (shape sorts) [] (at rows pend wt t) w ≡ settle_kinds (rules sorts) rows pend)
      × (walked (rules sorts) [] (at rows pend wt t) w ≡ at (settled_rows (rules sorts) pend rows) (Some (names_id, w ∷ [])) positional t)
  unfolding walked
  names_turn rows pend wt t w met fault = (
    ap₂ (λ k m. or_else k (step_fault (shape sorts) 1 m.0 m.1)) fault met
        ∙ ap (λ o. option_map_or (λ a. positional_fault (rules sorts) false a (holding rows pend)) o (stray_fault (shape sorts))) (by_index sorts)
        ∙ ap (λ b. cond b [] (settle_kinds (rules sorts) rows pend)) (and_no (is_pending names_rule pend)),
    ap (λ m. after_step (rules sorts) w (at rows pend wt t) m.0 m.1) met
        ∙ ap (λ o. to_positional (rules sorts) o w (at rows pend wt t) (holding rows pend)) (by_index sorts)
        ∙ kept (is_pending names_rule pend) t,
  )
    where
      kept : (b t : Bool) → ◌≡◌ {A = Walk} (record {
        held = pushed names_id w (cond (b && false) (holding rows pend) (settled (rules sorts) (holding rows pend)));
        waiting = positional;
        position = 1;
        is_trailing = t || false;
        stopped = None;
      }) (at (settled_rows (rules sorts) pend rows) (Some (names_id, w ∷ [])) positional t)
      kept true true = refl
      kept false true = refl
      kept true false = refl
      kept false false = refl

  -- after `--` each word is a name
  pub trailing_turn : (rows : List Row) (pend : Option (Text × List Text)) (wt : Waiting) (w : Text)
      → (turn_fault (shape sorts) [] (at rows pend wt true) w ≡ settle_kinds (rules sorts) rows pend)
      × (walked (rules sorts) [] (at rows pend wt true) w ≡ at (settled_rows (rules sorts) pend rows) (Some (names_id, w ∷ [])) positional true)
  trailing_turn rows pend wt w = names_turn rows pend wt true w refl refl

  -- where no value is due
  pub data IsFree : Waiting → Type 0 where
    is_idle : IsFree idle
    is_positional : IsFree positional

  free_plain : (wt : Waiting) → IsFree wt → (rows : List Row) (pend : Option (Text × List Text)) (w : Text)
      → plain_word (rules sorts) wt w (holding rows pend) ≡ (holding rows pend, value)
  free_plain idle f rows pend w = refl
  free_plain positional f rows pend w = refl
  free_plain (awaits n) f rows pend w = elim f [ ]

  plain_met : (rows : List Row) (pend : Option (Text × List Text)) (wt : Waiting) (w : Text) → Plain w
      → word_met (rules sorts) [] false wt 1 w (holding rows pend) ≡ plain_word (rules sorts) wt w (holding rows pend)
  plain_met rows pend wt w p =
      ap (λ o. subcommand_or_other (rules sorts) o wt 1 w (holding rows pend)) (no_sub wt w)
      ∙ ap (λ b. cond b (holding rows pend, trailing 1) (long_or_other (rules sorts) wt w (long_of w) (holding rows pend))) p.dashes
      ∙ ap (λ o. long_or_other (rules sorts) wt w o (holding rows pend)) p.long
      ∙ ap (λ o. short_or_plain (rules sorts) wt w o (holding rows pend)) p.short

  plain_fault : (rows : List Row) (pend : Option (Text × List Text)) (wt : Waiting) (w : Text) → Plain w
      → word_fault (shape sorts) [] false wt w (holding rows pend) ≡ []
  plain_fault rows pend wt w p =
      ap (λ o. other_fault (shape sorts) o w (holding rows pend)) (no_sub wt w)
      ∙ ap (λ b. cond b [] (flag_word_fault (rules sorts) false (long_of w) w (holding rows pend))) p.dashes
      ∙ ap (λ o. flag_word_fault (rules sorts) false o w (holding rows pend)) p.long
      ∙ ap (λ o. option_map_or (λ flags. bundle_fault (rules sorts) false flags (holding rows pend)) o []) p.short

  -- a name
  pub name_turn : (rows : List Row) (pend : Option (Text × List Text)) (wt : Waiting) (w : Text) → IsFree wt → is_hyphened w ≡ false
      → (turn_fault (shape sorts) [] (at rows pend wt false) w ≡ settle_kinds (rules sorts) rows pend)
      × (walked (rules sorts) [] (at rows pend wt false) w ≡ at (settled_rows (rules sorts) pend rows) (Some (names_id, w ∷ [])) positional false)
  name_turn rows pend wt w free e =
      let p = plain_is w e in
      names_turn rows pend wt false w (plain_met rows pend wt w p ∙ free_plain wt free rows pend w) (plain_fault rows pend wt w p)

  -- the value of an option that is open
  pub value_turn : (rows : List Row) (n w : Text) → arg_by_id (rules sorts) n ≡ Some (rule true n) → is_hyphened w ≡ false
      → (turn_fault (shape sorts) [] (at rows (Some (n, [])) (awaits n) false) w ≡ [])
      × (walked (rules sorts) [] (at rows (Some (n, [])) (awaits n) false) w ≡ at rows (Some (n, w ∷ [])) idle false)
  unfolding walked
  value_turn rows n w found e =
      let p = plain_is w e in
      let same : bytes_eq n n ≡ true = (bytes_eq-Decides n n).1 refl in
      let met : word_met (rules sorts) [] false (awaits n) 1 w (holding rows (Some (n, []))) ≡ (holding rows (Some (n, w ∷ [])), next idle) =
      plain_met rows (Some (n, [])) (awaits n) w p
      ∙ ap (λ o. ((option_word o n w (holding rows (Some (n, [])))).0, next (option_word o n w (holding rows (Some (n, [])))).1)) found
      ∙ ap (λ b. (holding rows (Some (n, w ∷ [])), next (cond (nat_lt (cond b 1 0) 1) (awaits n) idle))) same in (
        ap₂ (λ k m. or_else k (step_fault (shape sorts) 1 m.0 m.1)) (plain_fault rows (Some (n, [])) (awaits n) w p) met,
        ap (λ m. after_step (rules sorts) w (at rows (Some (n, [])) (awaits n) false) m.0 m.1) met,
      )

  -- what a hyphened word does to the walk, by what it is
  abbrev pub Turns : List Row → Option (Text × List Text) → Waiting → Text → Word → Type 0
  Turns rows pend wt w (whole (option n v)) =
      (turn_fault (shape sorts) [] (at rows pend wt false) w
      ≡ or_else (settle_kinds (rules sorts) rows pend) (use_fault false (rule true n) (v ∷ []) (settled_rows (rules sorts) pend rows)))
      × (walked (rules sorts) [] (at rows pend wt false) w ≡ at (used (rule true n) (v ∷ []) (settled_rows (rules sorts) pend rows)) None idle false)
      × (arg_by_id (rules sorts) n ≡ Some (rule true n))
  Turns rows pend wt w (whole (flag n)) =
      (turn_fault (shape sorts) [] (at rows pend wt false) w
      ≡ or_else (settle_kinds (rules sorts) rows pend) (use_fault false (rule false n) [] (settled_rows (rules sorts) pend rows)))
      × (walked (rules sorts) [] (at rows pend wt false) w ≡ at (used (rule false n) [] (settled_rows (rules sorts) pend rows)) None idle false)
      × (arg_by_id (rules sorts) n ≡ Some (rule false n))
  Turns rows pend wt w (whole (name v)) = ⊥
  Turns rows pend wt w (opens n) =
      (turn_fault (shape sorts) [] (at rows pend wt false) w ≡ settle_kinds (rules sorts) rows pend)
      × (walked (rules sorts) [] (at rows pend wt false) w ≡ at (settled_rows (rules sorts) pend rows) (Some (n, [])) (awaits n) false)
      × (arg_by_id (rules sorts) n ≡ Some (rule true n))
  Turns rows pend wt w dashes =
      (turn_fault (shape sorts) [] (at rows pend wt false) w ≡ [])
      × (walked (rules sorts) [] (at rows pend wt false) w ≡ at rows pend wt true)
  Turns rows pend wt w wrong = turn_fault (shape sorts) [] (at rows pend wt false) w ≡ [] → ⊥

  -- a word that is `--name` or `--name=value`, and what was found under the name
  module _ (rows : List Row) (pend : Option (Text × List Text)) (wt : Waiting) (w n : Text) (v : Option Text)
      (no_dashes : bytes_eq w (45 ∷ 45 ∷ []) ≡ false) (long : long_of w ≡ Some (n, v)) where
    long_met_is : (o : Option Rule) → arg_by_long (rules sorts) n ≡ o
        → word_met (rules sorts) [] false wt 1 w (holding rows pend)
        ≡ after_flag (rules sorts) wt w (long_met (rules sorts) o v (holding rows pend)).0 (long_met (rules sorts) o v (holding rows pend)).1
    long_met_is o found =
        ap (λ o. subcommand_or_other (rules sorts) o wt 1 w (holding rows pend)) (no_sub wt w)
        ∙ ap (λ b. cond b (holding rows pend, trailing 1) (long_or_other (rules sorts) wt w (long_of w) (holding rows pend))) no_dashes
        ∙ ap (λ o. long_or_other (rules sorts) wt w o (holding rows pend)) long
        ∙ ap (λ o. after_flag (rules sorts) wt w (long_met (rules sorts) o v (holding rows pend)).0 (long_met (rules sorts) o v (holding rows pend)).1) found

    long_fault_is : (o : Option Rule) → arg_by_long (rules sorts) n ≡ o
        → word_fault (shape sorts) [] false wt w (holding rows pend) ≡ long_fault (rules sorts) false o v (holding rows pend)
    long_fault_is o found =
        ap (λ o. other_fault (shape sorts) o w (holding rows pend)) (no_sub wt w)
        ∙ ap (λ b. cond b [] (flag_word_fault (rules sorts) false (long_of w) w (holding rows pend))) no_dashes
        ∙ ap (λ o. flag_word_fault (rules sorts) false o w (holding rows pend)) long
        ∙ ap (λ o. long_fault (rules sorts) false o v (holding rows pend)) found

    turn_is : (o : Option Rule) → arg_by_long (rules sorts) n ≡ o → (h : Held) (next_waits : Waiting) (k : Kinds)
        → after_flag (rules sorts) wt w (long_met (rules sorts) o v (holding rows pend)).0 (long_met (rules sorts) o v (holding rows pend)).1
        ≡ (h, next next_waits)
        → long_fault (rules sorts) false o v (holding rows pend) ≡ k
        → (turn_fault (shape sorts) [] (at rows pend wt false) w ≡ k)
        × (walked (rules sorts) [] (at rows pend wt false) w ≡ record (at rows pend wt false) { held = h; waiting = next_waits })
    unfolding walked
    turn_is o found h next_waits k met fault = (
      ap₂ (λ k m. or_else k (step_fault (shape sorts) 1 m.0 m.1)) (long_fault_is o found ∙ fault) (long_met_is o found ∙ met) ∙ or_else_nil k,
      ap (λ m. after_step (rules sorts) w (at rows pend wt false) m.0 m.1) (long_met_is o found ∙ met),
    )

    refused_turn : (o : Option Rule) → arg_by_long (rules sorts) n ≡ o → (k : ErrorKind) → long_fault (rules sorts) false o v (holding rows pend) ≡ k ∷ []
        → turn_fault (shape sorts) [] (at rows pend wt false) w ≡ [] → ⊥
    refused_turn o found k fault none =
        let met = word_met (rules sorts) [] false wt 1 w (holding rows pend) in
        let is : or_else (k ∷ []) (step_fault (shape sorts) 1 met.0 met.1) ≡ [] =
        sym (ap (λ k. or_else k (step_fault (shape sorts) 1 met.0 met.1)) (long_fault_is o found ∙ fault)) ∙ none in
        cc

    sorted_turn : (b : Bool) (m : Text) (u : Option Text) → u ≡ v → arg_by_long (rules sorts) n ≡ Some (rule b m) → arg_by_id (rules sorts) m ≡ Some (rule b m)
        → Turns rows pend wt w (sorted b m u)
    sorted_turn true m (Some t) same found own =
        let o = Some (rule true m) in
        let turn = turn_is o found (holding (used (rule true m) (t ∷ []) (settled_rows (rules sorts) pend rows)) None) idle
        (or_else (settle_kinds (rules sorts) rows pend) (use_fault false (rule true m) (t ∷ []) (settled_rows (rules sorts) pend rows)))
        (ap (λ x. after_flag (rules sorts) wt w (long_met (rules sorts) o x (holding rows pend)).0 (long_met (rules sorts) o x (holding rows pend)).1)
        (sym same))
        (ap (λ x. long_fault (rules sorts) false o x (holding rows pend)) (sym same)) in
        (turn.0, turn.1, own)
    sorted_turn true m None same found own =
        let o = Some (rule true m) in
        let turn = turn_is o found (holding (settled_rows (rules sorts) pend rows) (Some (m, []))) (awaits m)
        (settle_kinds (rules sorts) rows pend)
        (ap (λ x. after_flag (rules sorts) wt w (long_met (rules sorts) o x (holding rows pend)).0 (long_met (rules sorts) o x (holding rows pend)).1)
        (sym same))
        (ap (λ x. long_fault (rules sorts) false o x (holding rows pend)) (sym same)) in
        (turn.0, turn.1, own)
    sorted_turn false m None same found own =
        let o = Some (rule false m) in
        let turn = turn_is o found (holding (used (rule false m) [] (settled_rows (rules sorts) pend rows)) None) idle
        (or_else (settle_kinds (rules sorts) rows pend) (use_fault false (rule false m) [] (settled_rows (rules sorts) pend rows)))
        (ap (λ x. after_flag (rules sorts) wt w (long_met (rules sorts) o x (holding rows pend)).0 (long_met (rules sorts) o x (holding rows pend)).1)
        (sym same))
        (ap (λ x. long_fault (rules sorts) false o x (holding rows pend)) (sym same)) in
        (turn.0, turn.1, own)
    sorted_turn false m (Some t) same found own =
        refused_turn (Some (rule false m)) found TooManyValues (ap (λ x. long_fault (rules sorts) false (Some (rule false m)) x (holding rows pend)) (sym same))

    pub named_turn : (o : Option Sort) → find (λ s. bytes_eq s.name n) sorts ≡ o → Turns rows pend wt w (named o v)
    named_turn None e = refused_turn None (by_long sorts n ∙ ap (option_map sort_rule) e) UnknownArgument refl
    named_turn (Some s) e =
        sorted_turn s.valued s.name v refl (by_long sorts n ∙ ap (option_map sort_rule) e) (by_id sorts s.name s (found_again sorts n s e))

  -- a word of one hyphen and more
  short_turn : (rows : List Row) (pend : Option (Text × List Text)) (wt : Waiting) (y : ℕ) (rest : Text) → (y == 45) ≡ false → IsUtf8 (45 ∷ y ∷ rest)
      → turn_fault (shape sorts) [] (at rows pend wt false) (45 ∷ y ∷ rest) ≡ [] → ⊥
  unfolding flags_fault
  short_turn rows pend wt y rest second text none =
      let w = 45 ∷ y ∷ rest in
      let char = next_char y rest text in
      let long : long_of w ≡ None = ap (λ b. option_and_then long_of_rest (cond b (Some rest) None)) second in
      let short : short_of w ≡ Some (y ∷ rest) = ap (λ b. cond b None (Some (y ∷ rest))) second in
      let no_dashes : bytes_eq w (45 ∷ 45 ∷ []) ≡ false = ap (λ b. b && bytes_eq rest []) second in
      let fault : word_fault (shape sorts) [] false wt w (holding rows pend) ≡ UnknownArgument ∷ [] =
      ap (λ o. other_fault (shape sorts) o w (holding rows pend)) (no_sub wt w)
      ∙ ap (λ b. cond b [] (flag_word_fault (rules sorts) false (long_of w) w (holding rows pend))) no_dashes
      ∙ ap (λ o. flag_word_fault (rules sorts) false o w (holding rows pend)) long
      ∙ ap (λ o. option_map_or (λ flags. bundle_fault (rules sorts) false flags (holding rows pend)) o []) short
      ∙ ap (λ o. bundle_step_fault (rules sorts) false o (y ∷ rest) 0 (holding rows pend) (flags_fault (rules sorts) false (length rest))) char.1
      ∙ ap (λ o. short_fault (rules sorts) false o (drop (length (encode_utf8 char.0)) (y ∷ rest)) (holding rows pend)
      (flags_fault (rules sorts) false (length rest) (drop (length (encode_utf8 char.0)) (y ∷ rest)) 0)) (no_short sorts char.0) in
      let met = word_met (rules sorts) [] false wt 1 w (holding rows pend) in
      let is : or_else (UnknownArgument ∷ []) (step_fault (shape sorts) 1 met.0 met.1) ≡ [] =
      sym (ap (λ k. or_else k (step_fault (shape sorts) 1 met.0 met.1)) fault) ∙ none in
      cc

  dashes_turn : (rows : List Row) (pend : Option (Text × List Text)) (wt : Waiting) → Turns rows pend wt (45 ∷ 45 ∷ []) dashes
  unfolding walked
  dashes_turn rows pend wt = (
    ap₂ (λ f o. or_else (other_fault (shape sorts) f (45 ∷ 45 ∷ []) (holding rows pend))
        (step_fault (shape sorts) 1 (subcommand_or_other (rules sorts) o wt 1 (45 ∷ 45 ∷ []) (holding rows pend)).0
        (subcommand_or_other (rules sorts) o wt 1 (45 ∷ 45 ∷ []) (holding rows pend)).1)) (no_sub wt (45 ∷ 45 ∷ [])) (no_sub wt (45 ∷ 45 ∷ [])),
    ap (λ o. after_step (rules sorts) (45 ∷ 45 ∷ []) (at rows pend wt false)
        (subcommand_or_other (rules sorts) o wt 1 (45 ∷ 45 ∷ []) (holding rows pend)).0
        (subcommand_or_other (rules sorts) o wt 1 (45 ∷ 45 ∷ []) (holding rows pend)).1) (no_sub wt (45 ∷ 45 ∷ [])),
  )

  long_turn : (rows : List Row) (pend : Option (Text × List Text)) (wt : Waiting) (rest : Text) → Turns rows pend wt (45 ∷ 45 ∷ rest) (long_word sorts rest)
  long_turn rows pend wt [] = dashes_turn rows pend wt
  long_turn rows pend wt (z ∷ zs) = named_turn rows pend wt (45 ∷ 45 ∷ z ∷ zs) (before_first (λ b. b == 61) (z ∷ zs)) (value_in (z ∷ zs)) refl refl _ refl

  -- and any hyphened word
  pub hyphened_turn : (rows : List Row) (pend : Option (Text × List Text)) (wt : Waiting) (w : Text) → is_hyphened w ≡ true → IsUtf8 w
      → Turns rows pend wt w (hyphened sorts w)
  hyphened_turn rows pend wt [] e text = cc
  hyphened_turn rows pend wt (x ∷ []) e text = cc
  hyphened_turn rows pend wt (x ∷ y ∷ rest) e text =
      let first : x ≡ 45 = (Decides-eqb x 45).0 e in
      subst (λ a. Turns rows pend wt (a ∷ y ∷ rest) (cond (y == 45) (long_word sorts rest) wrong)) (sym first)
      (go (y == 45) refl (subst (λ a. IsUtf8 (a ∷ y ∷ rest)) first text))
    where
      go : (b : Bool) → (y == 45) ≡ b → IsUtf8 (45 ∷ y ∷ rest) → Turns rows pend wt (45 ∷ y ∷ rest) (cond (y == 45) (long_word sorts rest) wrong)
      go true second text =
          let is : y ≡ 45 = (Decides-eqb y 45).0 second in
          subst (λ a. Turns rows pend wt (45 ∷ a ∷ rest) (cond (a == 45) (long_word sorts rest) wrong)) (sym is) (long_turn rows pend wt rest)
      go false second text =
          subst (λ b. Turns rows pend wt (45 ∷ y ∷ rest) (cond b (long_word sorts rest) wrong)) (sym second) (short_turn rows pend wt y rest second text)
