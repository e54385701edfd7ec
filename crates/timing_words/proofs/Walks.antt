-- `clap`'s walk over all the words of a line, and the parts that the line is cut into.
use Rattle.std.proofs.Common.{◌≡◌, ◌∙◌, Bool, true, false, cond, refl, sym, ap, ap₂, subst, List, [], ◌∷◌, map, Option, Some, None}
use Rattle.std.specs.Prelude.{fold, IsUtf8, ⊤}
use Rattle.std.specs.Option.{option_map_or}
use Rattle.clap.specs.Kinds.{Kinds, or_else}
use Rattle.clap.specs.Walk.{Row, Rule, Waiting, Walk, arg_by_id, idle, option as awaits, positional, settled, settled_rows, used, used_by_id, walked}
use Rattle.clap.specs.Faults.{settle_fault, turn_fault, use_fault, walk_fault}
use Rattle.clap.specs.declared.error.kind.ErrorKind.TheVariants.{InvalidValue}
use Rattle.timing_words.specs.Line.{Part, Sort, Text, Word, before, cut, dashes, flag, from_word, hyphened, is_hyphened, name, opens, option, whole, wrong}
use Rattle.timing_words.specs.Clap.{AreTexts, names_id}
use Rattle.timing_words.proofs.Rules.{rule, rules}
use Rattle.timing_words.proofs.Turns.{IsFree, Turns, at, hyphened_turn, is_idle, is_positional, name_turn, or_else_nil, settle_kinds, shape, trailing_turn}
use Rattle.timing_words.proofs.Turns.{value_turn}

pub or_else_assoc : (a b c : Kinds) → or_else (or_else a b) c ≡ or_else a (or_else b c)
or_else_assoc [] b c = refl
or_else_assoc (x ∷ xs) b c = refl

-- a fault stays, whatever comes before it or after it
pub later_fault : (a b : Kinds) → (b ≡ [] → ⊥) → or_else a b ≡ [] → ⊥
later_fault [] b bad none = bad none
later_fault (x ∷ xs) b bad none = cc

pub first_fault : (a b : Kinds) → (a ≡ [] → ⊥) → or_else a b ≡ [] → ⊥
first_fault [] b bad none = bad refl
first_fault (x ∷ xs) b bad none = cc

-- a use of an argument: its id and its values
abbrev pub use_of : Part → Text × List Text
use_of (option n v) = (n, v ∷ [])
use_of (flag n) = (n, [])
use_of (name w) = (names_id, w ∷ [])

-- the rows after these parts
abbrev pub play : List Rule → List Row → List Part → List Row
play c rows [] = rows
play c rows (p ∷ ps) = play c (settled_rows c (Some (use_of p)) rows) ps

-- and what is wrong with them
abbrev pub play_kinds : List Rule → List Row → List Part → Kinds
play_kinds c rows [] = []
play_kinds c rows (p ∷ ps) = or_else (settle_kinds c rows (Some (use_of p))) (play_kinds c (settled_rows c (Some (use_of p)) rows) ps)

-- the option and the flag are the command's
abbrev pub IsKnownPart : List Rule → Part → Type 0
IsKnownPart c (option n v) = arg_by_id c n ≡ Some (rule true n)
IsKnownPart c (flag n) = arg_by_id c n ≡ Some (rule false n)
IsKnownPart c (name w) = ⊤

abbrev pub AreKnown : List Rule → List Part → Type 0
AreKnown c [] = ⊤
AreKnown c (p ∷ ps) = IsKnownPart c p × AreKnown c ps

module _ (sorts : List Sort) where
  -- the faults of the walk from here, and of what is pending at its end
  abbrev pub kinds_from : Walk → List Text → Kinds
  kinds_from w words = or_else (walk_fault (shape sorts) [] w words) (settle_fault (rules sorts) false (fold (walked (rules sorts) []) w words).held)

  -- the rows at its end
  abbrev pub rows_from : Walk → List Text → List Row
  rows_from w words = (settled (rules sorts) (fold (walked (rules sorts) []) w words).held).rows

  kinds_step : (w : Walk) (x : Text) (xs : List Text) → kinds_from w (x ∷ xs)
      ≡ or_else (turn_fault (shape sorts) [] w x) (kinds_from (walked (rules sorts) [] w x) xs)
  unfolding walk_fault
  kinds_step w x xs = or_else_assoc (turn_fault (shape sorts) [] w x) (walk_fault (shape sorts) [] (walked (rules sorts) [] w x) xs)
      (settle_fault (rules sorts) false (fold (walked (rules sorts) []) w (x ∷ xs)).held)

  -- the walk comes to what the parts come to, once what was pending is done with
  abbrev pub Agrees : Option (List Part) → Kinds → List Row → List Row → Option (Text × List Text) → Type 0
  Agrees None kinds end rows pend = kinds ≡ [] → ⊥
  Agrees (Some ps) kinds end rows pend =
      (kinds ≡ or_else (settle_kinds (rules sorts) rows pend) (play_kinds (rules sorts) (settled_rows (rules sorts) pend rows) ps))
      × (end ≡ play (rules sorts) (settled_rows (rules sorts) pend rows) ps)
      × AreKnown (rules sorts) ps

  -- the same of the walk from a place
  abbrev pub AgreesAt : Option (List Part) → Walk → List Text → List Row → Option (Text × List Text) → Type 0
  AgreesAt o w words rows pend = Agrees o (kinds_from w words) (rows_from w words) rows pend

  advance_kinds : (w v : Walk) (x : Text) (xs : List Text) (k : Kinds) → turn_fault (shape sorts) [] w x ≡ k → walked (rules sorts) [] w x ≡ v
      → kinds_from w (x ∷ xs) ≡ or_else k (kinds_from v xs)
  advance_kinds w v x xs k turn to = kinds_step w x xs ∙ ap₂ (λ a b. or_else a (kinds_from b xs)) turn to

  advance_rows : (w v : Walk) (x : Text) (xs : List Text) → walked (rules sorts) [] w x ≡ v → rows_from w (x ∷ xs) ≡ rows_from v xs
  advance_rows w v x xs to = ap (λ b. rows_from b xs) to

  -- a part that is pending next, after what was pending
  push_pending : (o : Option (List Part)) (p : Part) (k l : Kinds) (end now rows : List Row) (pend : Option (Text × List Text)) → IsKnownPart (rules sorts) p
      → Agrees o k end (settled_rows (rules sorts) pend rows) (Some (use_of p))
      → l ≡ or_else (settle_kinds (rules sorts) rows pend) k → now ≡ end → Agrees (before p o) l now rows pend
  push_pending None p k l end now rows pend known agrees is same = λ none.
      later_fault (settle_kinds (rules sorts) rows pend) k agrees (sym is ∙ none)
  push_pending (Some ps) p k l end now rows pend known agrees is same = (
    is ∙ ap (λ x. or_else (settle_kinds (rules sorts) rows pend) x) agrees.0,
    same ∙ agrees.1,
    (known, agrees.2),
  )

  -- a part that is done with at once
  push_done : (o : Option (List Part)) (p : Part) (a : Rule) (k l : Kinds) (end now rows : List Row) (pend : Option (Text × List Text))
      → IsKnownPart (rules sorts) p
      → arg_by_id (rules sorts) (use_of p).0 ≡ Some a
      → Agrees o k end (used a (use_of p).1 (settled_rows (rules sorts) pend rows)) None
      → l ≡ or_else (or_else (settle_kinds (rules sorts) rows pend) (use_fault false a (use_of p).1 (settled_rows (rules sorts) pend rows))) k → now ≡ end
      → Agrees (before p o) l now rows pend
  push_done None p a k l end now rows pend known found agrees is same = λ none. later_fault _ k agrees (sym is ∙ none)
  push_done (Some ps) p a k l end now rows pend known found agrees is same =
      let before_p = settled_rows (rules sorts) pend rows in
      let settles = settle_kinds (rules sorts) rows pend in
      let uses = use_fault false a (use_of p).1 before_p in (
        is ∙ ap (λ x. or_else (or_else settles uses) x) agrees.0
            ∙ or_else_assoc settles uses (play_kinds (rules sorts) (used a (use_of p).1 before_p) ps)
            ∙ ap (λ x. or_else settles (or_else (option_map_or (λ y. use_fault false y (use_of p).1 before_p) x [])
            (play_kinds (rules sorts) (used_by_id x (use_of p).1 before_p) ps))) (sym found),
        same ∙ agrees.1 ∙ ap (λ x. play (rules sorts) (used_by_id x (use_of p).1 before_p) ps) (sym found),
        (known, agrees.2),
      )

  -- after `--`
  trailing_agrees : (ws : List Text) (rows : List Row) (pend : Option (Text × List Text)) (wt : Waiting)
      → AgreesAt (Some (map name ws)) (at rows pend wt true) ws rows pend
  unfolding walk_fault
  trailing_agrees [] rows pend wt = (sym (or_else_nil (settle_kinds (rules sorts) rows pend)), refl, tt)
  trailing_agrees (w ∷ ws) rows pend wt =
      let turn = trailing_turn sorts rows pend wt w in
      let now = at rows pend wt true in
      let after = at (settled_rows (rules sorts) pend rows) (Some (names_id, w ∷ [])) positional true in
      push_pending (Some (map name ws)) (name w) (kinds_from after ws) (kinds_from now (w ∷ ws)) (rows_from after ws) (rows_from now (w ∷ ws)) rows pend tt
      (trailing_agrees ws (settled_rows (rules sorts) pend rows) (Some (names_id, w ∷ [])) positional)
      (advance_kinds now after w ws _ turn.0 turn.1) (advance_rows now after w ws turn.1)

  -- where no value is due, and where one is
  abbrev PlainAgrees : List Text → Type 0
  PlainAgrees ws = (rows : List Row) (pend : Option (Text × List Text)) (wt : Waiting) → IsFree sorts wt
      → AgreesAt (cut sorts ws None) (at rows pend wt false) ws rows pend

  abbrev DueAgrees : List Text → Type 0
  DueAgrees ws = (rows : List Row) (n : Text) → arg_by_id (rules sorts) n ≡ Some (rule true n)
      → AgreesAt (cut sorts ws (Some n)) (at rows (Some (n, [])) (awaits n) false) ws rows None

  -- an option that is open has no value yet
  open_fault : (rows : List Row) (n : Text) → arg_by_id (rules sorts) n ≡ Some (rule true n) → settle_kinds (rules sorts) rows (Some (n, [])) ≡ [] → ⊥
  open_fault rows n found none =
      let is : settle_kinds (rules sorts) rows (Some (n, [])) ≡ InvalidValue ∷ [] = ap (λ x. option_map_or (λ a. use_fault false a [] rows) x []) found in
      let bad : InvalidValue ∷ [] ≡ [] = sym is ∙ none in
      cc

  -- what was pending is done with before the parts
  pass_on : (o : Option (List Part)) (k l : Kinds) (end now rows : List Row) (pend : Option (Text × List Text))
      → Agrees o k end (settled_rows (rules sorts) pend rows) None
      → l ≡ or_else (settle_kinds (rules sorts) rows pend) k → now ≡ end → Agrees o l now rows pend
  pass_on None k l end now rows pend agrees is same = λ none. later_fault (settle_kinds (rules sorts) rows pend) k agrees (sym is ∙ none)
  pass_on (Some ps) k l end now rows pend agrees is same = (
    is ∙ ap (λ x. or_else (settle_kinds (rules sorts) rows pend) x) agrees.0,
    same ∙ agrees.1,
    agrees.2,
  )

  -- a hyphened word, where no value is due
  word_agrees : (w : Text) (ws : List Text) → PlainAgrees ws → DueAgrees ws → (rows : List Row) (pend : Option (Text × List Text)) (wt : Waiting)
      → (x : Word) → Turns sorts rows pend wt w x → AgreesAt (from_word x (cut sorts ws) ws) (at rows pend wt false) (w ∷ ws) rows pend
  word_agrees w ws plain due rows pend wt (whole (option n v)) turn =
      let now = at rows pend wt false in
      let after = at (used (rule true n) (v ∷ []) (settled_rows (rules sorts) pend rows)) None idle false in
      push_done (cut sorts ws None) (option n v) (rule true n) (kinds_from after ws) (kinds_from now (w ∷ ws)) (rows_from after ws)
      (rows_from now (w ∷ ws)) rows pend turn.2 turn.2
      (plain (used (rule true n) (v ∷ []) (settled_rows (rules sorts) pend rows)) None idle is_idle)
      (advance_kinds now after w ws _ turn.0 turn.1) (advance_rows now after w ws turn.1)
  word_agrees w ws plain due rows pend wt (whole (flag n)) turn =
      let now = at rows pend wt false in
      let after = at (used (rule false n) [] (settled_rows (rules sorts) pend rows)) None idle false in
      push_done (cut sorts ws None) (flag n) (rule false n) (kinds_from after ws) (kinds_from now (w ∷ ws)) (rows_from after ws)
      (rows_from now (w ∷ ws)) rows pend turn.2 turn.2
      (plain (used (rule false n) [] (settled_rows (rules sorts) pend rows)) None idle is_idle)
      (advance_kinds now after w ws _ turn.0 turn.1) (advance_rows now after w ws turn.1)
  word_agrees w ws plain due rows pend wt (whole (name v)) turn = absurd turn
  word_agrees w ws plain due rows pend wt (opens n) turn =
      let now = at rows pend wt false in
      let after = at (settled_rows (rules sorts) pend rows) (Some (n, [])) (awaits n) false in
      pass_on (cut sorts ws (Some n)) (kinds_from after ws) (kinds_from now (w ∷ ws)) (rows_from after ws) (rows_from now (w ∷ ws)) rows pend
      (due (settled_rows (rules sorts) pend rows) n turn.2)
      (advance_kinds now after w ws _ turn.0 turn.1) (advance_rows now after w ws turn.1)
  word_agrees w ws plain due rows pend wt dashes turn =
      let now = at rows pend wt false in
      let after = at rows pend wt true in
      let rest = trailing_agrees ws rows pend wt in (
        advance_kinds now after w ws _ turn.0 turn.1 ∙ rest.0,
        advance_rows now after w ws turn.1 ∙ rest.1,
        rest.2,
      )
  word_agrees w ws plain due rows pend wt wrong turn = λ none.
      first_fault _ _ turn (sym (kinds_step (at rows pend wt false) w ws) ∙ none)

  -- a hyphened word, where one is
  open_agrees : (w : Text) (ws : List Text) (rows : List Row) (n : Text) → arg_by_id (rules sorts) n ≡ Some (rule true n)
      → (x : Word) → Turns sorts rows (Some (n, [])) (awaits n) w x → kinds_from (at rows (Some (n, [])) (awaits n) false) (w ∷ ws) ≡ [] → ⊥
  open_agrees w ws rows n found x turn none =
      go x turn (sym (kinds_step (at rows (Some (n, [])) (awaits n) false) w ws) ∙ none)
    where
      now : Walk
      now = at rows (Some (n, [])) (awaits n) false

      settles : Kinds
      settles = settle_kinds (rules sorts) rows (Some (n, []))

      go : (x : Word) → Turns sorts rows (Some (n, [])) (awaits n) w x
          → or_else (turn_fault (shape sorts) [] now w) (kinds_from (walked (rules sorts) [] now w) ws) ≡ [] → ⊥
      go (whole (option m v)) turn none = first_fault _ _ (λ z. first_fault settles _ (open_fault rows n found) (sym turn.0 ∙ z)) none
      go (whole (flag m)) turn none = first_fault _ _ (λ z. first_fault settles _ (open_fault rows n found) (sym turn.0 ∙ z)) none
      go (whole (name m)) turn none = absurd turn
      go (opens m) turn none = first_fault _ _ (λ z. open_fault rows n found (sym turn.0 ∙ z)) none
      go dashes turn none = later_fault _ _ (λ z. first_fault settles _ (open_fault rows n found)
          (sym (trailing_agrees ws rows (Some (n, [])) (awaits n)).0 ∙ (sym (ap (λ v. kinds_from v ws) turn.1) ∙ z))) none
      go wrong turn none = first_fault _ _ turn none

  plain_turns : (w : Text) (ws : List Text) → IsUtf8 w → PlainAgrees ws → DueAgrees ws → PlainAgrees (w ∷ ws)
  plain_turns w ws text plain due rows pend wt free = go (is_hyphened w) refl
    where
      go : (b : Bool) → is_hyphened w ≡ b
          → AgreesAt (from_word (cond (is_hyphened w) (hyphened sorts w) (whole (name w))) (cut sorts ws) ws) (at rows pend wt false) (w ∷ ws) rows pend
      go true e = subst (λ b. AgreesAt (from_word (cond b (hyphened sorts w) (whole (name w))) (cut sorts ws) ws) (at rows pend wt false) (w ∷ ws) rows pend)
          (sym e)
          (word_agrees w ws plain due rows pend wt (hyphened sorts w) (hyphened_turn sorts rows pend wt w e text))
      go false e =
          let turn = name_turn sorts rows pend wt w free e in
          let now = at rows pend wt false in
          let after = at (settled_rows (rules sorts) pend rows) (Some (names_id, w ∷ [])) positional false in
          subst (λ b. AgreesAt (from_word (cond b (hyphened sorts w) (whole (name w))) (cut sorts ws) ws) (at rows pend wt false) (w ∷ ws) rows pend) (sym e)
          (push_pending (cut sorts ws None) (name w) (kinds_from after ws) (kinds_from now (w ∷ ws)) (rows_from after ws) (rows_from now (w ∷ ws)) rows pend tt
          (plain (settled_rows (rules sorts) pend rows) (Some (names_id, w ∷ [])) positional is_positional)
          (advance_kinds now after w ws _ turn.0 turn.1) (advance_rows now after w ws turn.1))

  due_turns : (w : Text) (ws : List Text) → IsUtf8 w → PlainAgrees ws → DueAgrees (w ∷ ws)
  due_turns w ws text plain rows n found = go (is_hyphened w) refl
    where
      go : (b : Bool) → is_hyphened w ≡ b
          → AgreesAt (cond (is_hyphened w) None (before (option n w) (cut sorts ws None))) (at rows (Some (n, [])) (awaits n) false) (w ∷ ws) rows None
      go true e = subst (λ b. AgreesAt (cond b None (before (option n w) (cut sorts ws None))) (at rows (Some (n, [])) (awaits n) false) (w ∷ ws) rows None)
          (sym e)
          (open_agrees w ws rows n found (hyphened sorts w) (hyphened_turn sorts rows (Some (n, [])) (awaits n) w e text))
      go false e =
          let turn = value_turn sorts rows n w found e in
          let now = at rows (Some (n, [])) (awaits n) false in
          let after = at rows (Some (n, w ∷ [])) idle false in
          subst (λ b. AgreesAt (cond b None (before (option n w) (cut sorts ws None))) (at rows (Some (n, [])) (awaits n) false) (w ∷ ws) rows None) (sym e)
          (push_pending (cut sorts ws None) (option n w) (kinds_from after ws) (kinds_from now (w ∷ ws)) (rows_from after ws)
          (rows_from now (w ∷ ws)) rows None found
          (plain rows (Some (n, w ∷ [])) idle is_idle)
          (advance_kinds now after w ws _ turn.0 turn.1) (advance_rows now after w ws turn.1))

  both_agree : (ws : List Text) → AreTexts ws → PlainAgrees ws × DueAgrees ws
  unfolding walk_fault
  both_agree [] texts = (
    λ rows pend wt free. (sym (or_else_nil (settle_kinds (rules sorts) rows pend)), refl, tt),
    λ rows n found. open_fault rows n found,
  )
  both_agree (w ∷ ws) texts =
      let rest = both_agree ws texts.1 in
      (plain_turns w ws texts.0 rest.0 rest.1, due_turns w ws texts.0 rest.0)

  -- the walk over a whole line comes to the parts that it is cut into, played in turn
  pub line_agrees : (ws : List Text) → AreTexts ws → AgreesAt (cut sorts ws None) (at [] None idle false) ws [] None
  line_agrees ws texts = (both_agree ws texts).0 [] None idle is_idle
