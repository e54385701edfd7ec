-- What `clap` says of a line, and what the line's grammar does.
use Rattle.std.proofs.Common.{◌≡◌, ◌∙◌, ◌||◌, ◌&&◌, Bool, true, false, not, cond, refl, sym, ap, ap₂, List, [], ◌∷◌, map, Option, Some, None, option_map}
use Rattle.std.proofs.Common.{is_some}
use Rattle.std.specs.Prelude.{find, fold, slice_get, option_and_then, unwrap_or}
use Rattle.std.specs.List.{list_any}
use Rattle.std.specs.Str.{bytes_eq}
use Rattle.std.specs.Borrow.{Bor}
use Rattle.clap.specs.Facts.{Entry}
use Rattle.clap.specs.Kinds.{Kinds, or_else}
use Rattle.clap.specs.Matches.{matched_of, raw_values}
use Rattle.clap.specs.Simple.{App, built, entered, matches_of}
use Rattle.clap.specs.Takes.{is_given}
use Rattle.clap.specs.Walk.{Row, Rule, all_of, first_of, finished, has_row, idle, is_empty, nothing_held, row_of, rows_after, rows_of, settled, walk}
use Rattle.clap.specs.Walk.{with_default}
use Rattle.clap.specs.Faults.{built_fault, check_fault, default_fault, given_default_fault, defaults_fault, entered_fault, fault_of, level_fault, settle_fault}
use Rattle.clap.specs.Faults.{walk_fault}
use Rattle.clap.specs.declared.parser.matches.Found.{Found}
use Rattle.clap.specs.declared.error.kind.ErrorKind.TheVariants.{MissingRequiredArgument}
use Rattle.timing_words.specs.Line.{Part, Sort, Text, cut, is_once, line, once}
use Rattle.timing_words.specs.Clap.{AreTexts, IsLine, IsTold, Says, app, names_id}
use Rattle.timing_words.proofs.Rules.{built_rules, by_id, names_rule, rule, rules}
use Rattle.timing_words.proofs.Turns.{at, or_else_nil, shape}
use Rattle.timing_words.proofs.Walks.{Agrees, AreKnown, kinds_from, line_agrees, play, play_kinds, rows_from}
use Rattle.timing_words.proofs.Lookups.{Passes, head_of, first_of-all_of, flag_some, names_joined, once_passes, option_head, play_reads}

or_yes : (b : Bool) → (b || true) ≡ true
or_yes true = refl
or_yes false = refl

-- ---- the entries of a parse

first_value-rows : (es : List Entry) (n : Text) → option_and_then (λ a. option_map (λ s. s.now) (slice_get a.vals.items 0))
    (option_map (λ e. e.1) (find (λ e. bytes_eq e.0.now n) es))
    ≡ first_of n (map row_of es)
first_value-rows [] n = refl
first_value-rows (e ∷ es) n = go (bytes_eq e.0.now n) (first_value-rows es n)
  where
    head : (vs : List (Bor Text)) → option_map (λ s. s.now) (slice_get vs 0) ≡ slice_get (map (λ s. s.now) vs) 0
    head [] = refl
    head (v ∷ vs) = refl

    go : (b : Bool) → option_and_then (λ a. option_map (λ s. s.now) (slice_get a.vals.items 0)) (option_map (λ e. e.1) (find (λ e. bytes_eq e.0.now n) es))
        ≡ first_of n (map row_of es)
        → option_and_then (λ a. option_map (λ s. s.now) (slice_get a.vals.items 0))
        (option_map (λ (x : Entry). x.1) (cond b (Some e) (find (λ e. bytes_eq e.0.now n) es)))
        ≡ option_and_then (λ (r : Row). slice_get r.values 0) (cond b (Some (row_of e)) (find (λ r. bytes_eq r.id n) (map row_of es)))
    go true rest = head e.1.vals.items
    go false rest = rest

raw_values-rows : (es : List Entry) (n : Text) → option_map raw_values (option_map (λ e. e.1) (find (λ e. bytes_eq e.0.now n) es)) ≡ all_of n (map row_of es)
raw_values-rows [] n = refl
raw_values-rows (e ∷ es) n = go (bytes_eq e.0.now n) (raw_values-rows es n)
  where
    go : (b : Bool) → option_map raw_values (option_map (λ e. e.1) (find (λ e. bytes_eq e.0.now n) es)) ≡ all_of n (map row_of es)
        → option_map raw_values (option_map (λ (x : Entry). x.1) (cond b (Some e) (find (λ e. bytes_eq e.0.now n) es)))
        ≡ option_map (λ (r : Row). r.values) (cond b (Some (row_of e)) (find (λ r. bytes_eq r.id n) (map row_of es)))
    go true rest = refl
    go false rest = rest

is_some-map : {A B : Type 0} (f : A → B) (o : Option A) → is_some (option_map f o) ≡ is_some o
is_some-map f None = refl
is_some-map f (Some x) = refl

module _ (sorts : List Sort) where
  -- ---- defaults and requirements: there are none

  no_default : (b : Bool) (n : Text) (rows : List Row) → with_default rows (rule b n) ≡ rows
  no_default true n rows = go (has_row n rows)
    where
      go : (t : Bool) → cond t rows rows ≡ rows
      go true = refl
      go false = refl
  no_default false n rows = go (has_row n rows)
    where
      go : (t : Bool) → cond t rows rows ≡ rows
      go true = refl
      go false = refl

  names_default : (rows : List Row) → with_default rows names_rule ≡ rows
  names_default rows = go (has_row names_id rows)
    where
      go : (t : Bool) → cond t rows rows ≡ rows
      go true = refl
      go false = refl

  no_defaults : (ss : List Sort) (rows : List Row) → fold with_default rows (rules ss) ≡ rows
  no_defaults [] rows = names_default rows
  no_defaults (s ∷ ss) rows = ap (λ x. fold with_default x (rules ss)) (no_default s.valued s.name rows) ∙ no_defaults ss rows

  default_none : (a : Rule) (rows : List Row) → a.defaults ≡ [] → default_fault rows a ≡ []
  default_none a rows e =
      ap (λ ds. cond (has_row a.id rows || is_empty ds) [] (given_default_fault a ds)) e
      ∙ ap (λ t. cond t [] (given_default_fault a [])) (or_yes (has_row a.id rows))

  rule_defaults : (b : Bool) (n : Text) → (rule b n).defaults ≡ []
  rule_defaults true n = refl
  rule_defaults false n = refl

  no_default_kinds : (ss : List Sort) (rows : List Row) → defaults_fault rows (rules ss) ≡ []
  unfolding defaults_fault
  no_default_kinds [] rows = ap (λ k. or_else k []) (default_none names_rule rows refl)
  no_default_kinds (s ∷ ss) rows =
      ap (λ k. or_else k (defaults_fault (with_default rows (rule s.valued s.name)) (rules ss)))
      (default_none (rule s.valued s.name) rows (rule_defaults s.valued s.name))
      ∙ no_default_kinds ss (with_default rows (rule s.valued s.name))

  no_wants : (ss : List Sort) (rows : List Row) → list_any (λ a. a.required && not (is_given a.id rows)) (rules ss) ≡ false
  no_wants [] rows = refl
  no_wants (s ∷ ss) rows = ap₂ (λ a b. (a && not (is_given (rule s.valued s.name).id rows)) || b) (go s.valued) (no_wants ss rows)
    where
      go : (b : Bool) → (rule b s.name).required ≡ false
      go true = refl
      go false = refl

  -- ---- one level of the parse is the walk

  abbrev whole_app : List Rule → App
  whole_app rs = record { top = record (built (app sorts)).top { rules = rs }; subs = [] }

  no_entry : (rs : List Rule) (stop : Option (Text × List Text)) → (is_some (entered (whole_app rs) stop) ≡ false) × (entered_fault (whole_app rs) stop ≡ [])
  no_entry rs None = (refl, refl)
  no_entry rs (Some p) = (refl, refl)

  fault_is : (ws : List Text) → fault_of (app sorts) ws ≡ kinds_from sorts (at [] None idle false) ws
  fault_is ws =
      let end = (walk (rules sorts) [] nothing_held ws).held in
      let entry = no_entry (rules sorts) (walk (rules sorts) [] nothing_held ws).stopped in
      let walks = walk_fault (shape sorts) [] (at [] None idle false) ws in
      let settles = settle_fault (rules sorts) false end in
      ap (λ rs. built_fault (whole_app rs) nothing_held ws) (built_rules sorts)
      ∙ ap₂ (λ has below. level_fault (shape sorts) [] nothing_held ws has below) entry.0 entry.1
      ∙ ap (λ x. or_else walks (or_else settles (or_else x (check_fault (shape sorts) (finished (rules sorts) end) false))))
      (no_default_kinds sorts (settled (rules sorts) end).rows)
      ∙ ap (λ b. or_else walks (or_else settles (cond b (MissingRequiredArgument ∷ []) []))) (no_wants sorts (finished (rules sorts) end))
      ∙ ap (λ x. or_else walks x) (or_else_nil settles)

  rows_are : (ws : List Text) → matches_of (app sorts) ws ≡ rows_from sorts (at [] None idle false) ws
  rows_are ws =
      ap (λ rs. rows_after rs [] ws) (built_rules sorts)
      ∙ no_defaults sorts (settled (rules sorts) (walk (rules sorts) [] nothing_held ws).held).rows

  -- ---- a line

  -- what a parse of the words comes to, where they are a line or not
  abbrev Comes : Option (List Part) → Kinds → List Row → Type 0
  Comes None kinds rows = kinds ≡ [] → ⊥
  Comes (Some ps) kinds rows = (kinds ≡ []) × AreKnown (rules sorts) ps × (rows ≡ play (rules sorts) [] ps) × (play_kinds (rules sorts) [] ps ≡ [])

  line_comes : IsTold sorts → (ws : List Text) → AreTexts ws → Comes (line sorts ws) (fault_of (app sorts) ws) (matches_of (app sorts) ws)
  line_comes told ws texts = go (cut sorts ws None) (line_agrees sorts ws texts)
    where
      go : (o : Option (List Part)) → Agrees sorts o (kinds_from sorts (at [] None idle false) ws) (rows_from sorts (at [] None idle false) ws) [] None
          → Comes (option_and_then once o) (fault_of (app sorts) ws) (matches_of (app sorts) ws)
      go None bad = λ none. bad (sym (fault_is ws) ∙ none)
      go (Some ps) agrees = by_once (is_once [] ps) (once_passes sorts told.1 ps [] [] agrees.2 (λ m own. refl))
        where
          by_once : (b : Bool) → Passes sorts told.1 b (play_kinds (rules sorts) [] ps)
              → Comes (cond b (Some ps) None) (fault_of (app sorts) ws) (matches_of (app sorts) ws)
          by_once true passes = (fault_is ws ∙ agrees.0 ∙ passes, agrees.2, rows_are ws ∙ agrees.1, passes)
          by_once false fails = λ none. fails (sym agrees.0 ∙ sym (fault_is ws) ∙ none)

  -- what the entries say, where they are the rows of the parts
  entries_say : IsTold sorts → (found : Found) (ps : List Part) → rows_of found ≡ play (rules sorts) [] ps → AreKnown (rules sorts) ps
      → play_kinds (rules sorts) [] ps ≡ [] → Says sorts found ps
  entries_say told found ps are known none =
      let reads = λ (n : Text). ap (all_of n) are ∙ play_reads sorts told.1 ps n [] known none in
      record {
        value = λ n takes. first_value-rows found.entries.items n ∙ first_of-all_of n (rows_of found)
            ∙ ap (head_of sorts told.1) (reads n) ∙ option_head sorts told.1 ps n (by_id sorts n _ takes) known;
        flag = λ n takes. sym (is_some-map raw_values (matched_of found n)) ∙ ap is_some (raw_values-rows found.entries.items n ∙ reads n)
            ∙ flag_some sorts told.1 ps n (by_id sorts n _ takes) known;
        names = ap (λ o. unwrap_or o []) (raw_values-rows found.entries.items names_id ∙ reads names_id) ∙ names_joined sorts told.1 ps None known;
      }

  -- a parse of words that are no line fails by its words
  pub no_line_fails : IsTold sorts → (ws : List Text) → AreTexts ws → fault_of (app sorts) ws ≡ [] → line sorts ws ≡ None → ⊥
  no_line_fails told ws texts none e = go (line sorts ws) e (line_comes told ws texts)
    where
      go : (o : Option (List Part)) → o ≡ None → Comes o (fault_of (app sorts) ws) (matches_of (app sorts) ws) → ⊥
      go None e bad = bad none
      go (Some ps) e comes = cc

  -- one that passes says what the line says
  pub passed_says : IsTold sorts → (ws : List Text) → AreTexts ws → fault_of (app sorts) ws ≡ [] → (found : Found) → rows_of found ≡ matches_of (app sorts) ws
      → IsLine sorts ws found
  passed_says told ws texts none found are = go (line sorts ws) refl (line_comes told ws texts)
    where
      go : (o : Option (List Part)) → line sorts ws ≡ o → Comes o (fault_of (app sorts) ws) (matches_of (app sorts) ws) → IsLine sorts ws found
      go None e bad = absurd (bad none)
      go (Some ps) e comes = record { parts = ps; are = e; says = entries_say told found ps (are ∙ comes.2) comes.1 comes.3 }

  -- and one that fails by its words was of no line
  pub failed_none : IsTold sorts → (ws : List Text) → AreTexts ws → (fault_of (app sorts) ws ≡ [] → ⊥) → line sorts ws ≡ None
  failed_none told ws texts bad = go (line sorts ws) (line_comes told ws texts)
    where
      go : (o : Option (List Part)) → Comes o (fault_of (app sorts) ws) (matches_of (app sorts) ws) → o ≡ None
      go None comes = refl
      go (Some ps) comes = absurd (bad comes.0)
