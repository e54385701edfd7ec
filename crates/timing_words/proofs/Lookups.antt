-- What stands in the rows of a line, by the parts that the line is cut into.
use Rattle.std.proofs.Common.{◌≡◌, ◌∙◌, ◌||◌, ◌&&◌, Bool, true, false, not, cond, refl, sym, ap, subst, List, [], ◌∷◌, ◌++◌, Option, Some, None, option_map}
use Rattle.std.proofs.Common.{is_some, ℕ, append_assoc, arith}
use Rattle.std.specs.Prelude.{find, slice_get, option_and_then, unwrap_or}
use Rattle.std.specs.Option.{option_map_or}
use Rattle.std.specs.Str.{bytes_eq}
use Rattle.std.proofs.lemmas.Slice.Eq.{bytes_eq-Decides}
use Rattle.std.proofs.lemmas.List.{append-nil}
use Rattle.clap.specs.Kinds.{Kinds, or_else}
use Rattle.clap.specs.Walk.{Row, Rule, all_of, arg_by_id, at_row, first_of, has_row, more_values, most_values, settled_rows, stronger, used_by_id, with_values}
use Rattle.clap.specs.Faults.{use_fault}
use Rattle.clap.specs.declared.error.kind.ErrorKind.{ErrorKind}
use Rattle.clap.specs.declared.error.kind.ErrorKind.TheVariants.{ArgumentConflict}
use Rattle.clap.specs.declared.builder.value_parser.Reading.{Reading}
use Rattle.clap.specs.declared.parser.matches.ValueSource.{ValueSource}
use Rattle.timing_words.specs.Line.{Part, Sort, Text, flag, has_flag, is_among, is_once, name, names_of, option, value_of}
use Rattle.timing_words.specs.Clap.{names_id}
use Rattle.timing_words.proofs.Rules.{names_by_id, names_rule, rule, rules}
use Rattle.timing_words.proofs.Turns.{settle_kinds, or_else_nil}
use Rattle.timing_words.proofs.Walks.{AreKnown, IsKnownPart, first_fault, play, play_kinds, use_of}

same_text : (a b : Text) → bytes_eq a b ≡ true → a ≡ b
same_text a b e = (bytes_eq-Decides a b).0 e

text_same : (a : Text) → bytes_eq a a ≡ true
text_same a = (bytes_eq-Decides a a).1 refl

-- what is found under m, once `vs` were added under n
abbrev pub added : Text → List Text → Text → Option (List Text) → Option (List Text)
added n vs m o = cond (bytes_eq n m) (Some (unwrap_or o [] ++ vs)) o

module _ (n m : Text) (how : Reading) (s : ValueSource) (vs : List Text) where
  -- adding values under n changes what stands under n, and nothing else
  all_of-with_values : (rows : List Row) → all_of m (with_values n how s vs rows) ≡ added n vs m (all_of m rows)
  all_of-with_values [] = go (bytes_eq n m)
    where
      go : (b : Bool) → option_map (λ (r : Row). r.values) (cond b (Some (record { id = n; values = vs; count = None; source = Some s; reading = how })) None)
          ≡ cond b (Some vs) None
      go true = refl
      go false = refl
  all_of-with_values (r ∷ rs) = by_head (bytes_eq r.id n) refl (all_of-with_values rs)
    where
      values : Option Row → Option (List Text)
      values = option_map (λ (x : Row). x.values)

      same_head : (q : Bool) (o : Option Row)
          → option_map (λ (x : Row). x.values) (cond q (Some (record r { values = r.values ++ vs; source = Some (stronger r.source s) })) o)
          ≡ cond q (Some (unwrap_or (option_map (λ (x : Row). x.values) (cond q (Some r) o)) [] ++ vs)) (option_map (λ (x : Row). x.values) (cond q (Some r) o))
      same_head true o = refl
      same_head false o = refl

      other_head : (q t : Bool) → (q ≡ true → t ≡ false) → (x y : Option Row)
          → option_map (λ (x : Row). x.values) x ≡ cond t (Some (unwrap_or (option_map (λ (x : Row). x.values) y) [] ++ vs))
          (option_map (λ (x : Row). x.values) y)
          → option_map (λ (x : Row). x.values) (cond q (Some r) x)
          ≡ cond t (Some (unwrap_or (option_map (λ (x : Row). x.values) (cond q (Some r) y)) [] ++ vs)) (option_map (λ (x : Row). x.values) (cond q (Some r) y))
      other_head true t apart x y e = ap (λ b. cond b (Some (r.values ++ vs)) (Some r.values)) (sym (apart refl))
      other_head false t apart x y e = e

      not_true : (b : Bool) → (b ≡ true → ⊥) → b ≡ false
      not_true true h = absurd (h refl)
      not_true false h = refl

      by_head : (p : Bool) → bytes_eq r.id n ≡ p → all_of m (with_values n how s vs rs) ≡ added n vs m (all_of m rs)
          → option_map (λ (x : Row). x.values) (find (λ x. bytes_eq x.id m) (cond (bytes_eq r.id n) (more_values s vs r ++ rs) (r ∷ with_values n how s vs rs)))
          ≡ added n vs m (all_of m (r ∷ rs))
      by_head true t e =
          let is : r.id ≡ n = same_text r.id n t in
          ap (λ b. option_map (λ (x : Row). x.values) (find (λ x. bytes_eq x.id m) (cond b (more_values s vs r ++ rs) (r ∷ with_values n how s vs rs)))) t
          ∙ same_head (bytes_eq r.id m) (find (λ x. bytes_eq x.id m) rs)
          ∙ ap (λ a. cond (bytes_eq a m) (Some (unwrap_or (all_of m (r ∷ rs)) [] ++ vs)) (all_of m (r ∷ rs))) is
      by_head false t e =
          ap (λ b. option_map (λ (x : Row). x.values) (find (λ x. bytes_eq x.id m) (cond b (more_values s vs r ++ rs) (r ∷ with_values n how s vs rs)))) t
          ∙ other_head (bytes_eq r.id m) (bytes_eq n m)
          (λ q. not_true (bytes_eq n m) (λ both.
          let one : r.id ≡ n = same_text r.id m q ∙ sym (same_text n m both) in
          let yes : bytes_eq r.id n ≡ true = ap (λ a. bytes_eq r.id a) (sym one) ∙ text_same r.id in
          let bad : true ≡ false = sym yes ∙ t in
          cc))
          (find (λ x. bytes_eq x.id m) (with_values n how s vs rs)) (find (λ x. bytes_eq x.id m) rs) e

-- where n has no row, adding one puts it last
at_row-absent : (n : Text) (change : Row → List Row) (missing rows : List Row) → has_row n rows ≡ false → at_row n change missing rows ≡ rows ++ missing
at_row-absent n change missing [] e = refl
at_row-absent n change missing (r ∷ rs) e = go (bytes_eq r.id n) refl (at_row-absent n change missing rs)
  where
    go : (b : Bool) → bytes_eq r.id n ≡ b → (has_row n rs ≡ false → at_row n change missing rs ≡ rs ++ missing)
        → cond (bytes_eq r.id n) (change r ++ rs) (r ∷ at_row n change missing rs) ≡ r ∷ (rs ++ missing)
    go true t rest =
        let bad : true ≡ false = sym (ap (λ b. b || has_row n rs) t) ∙ e in
        cc
    go false t rest =
        ap (λ b. cond b (change r ++ rs) (r ∷ at_row n change missing rs)) t
        ∙ ap (λ xs. r ∷ xs) (rest (sym (ap (λ b. b || has_row n rs) t) ∙ e))

pub has_row-all_of : (n : Text) (rows : List Row) → has_row n rows ≡ is_some (all_of n rows)
has_row-all_of n [] = refl
has_row-all_of n (r ∷ rs) = go (bytes_eq r.id n) (has_row-all_of n rs)
  where
    go : (b : Bool) → has_row n rs ≡ is_some (all_of n rs) → (b || has_row n rs)
        ≡ is_some (option_map (λ (r : Row). r.values) (cond b (Some r) (find (λ r. bytes_eq r.id n) rs)))
    go true e = refl
    go false e = e

pub first_of-all_of : (n : Text) (rows : List Row) → first_of n rows ≡ option_and_then (λ vs. slice_get vs 0) (all_of n rows)
first_of-all_of n rows = go (find (λ r. bytes_eq r.id n) rows)
  where
    go : (o : Option Row) → option_and_then (λ (r : Row). slice_get r.values 0) o
        ≡ option_and_then (λ vs. slice_get vs 0) (option_map (λ (r : Row). r.values) o)
    go None = refl
    go (Some r) = refl

-- ---- one part

-- the values of a part
abbrev pub values_in : Part → List Text
values_in (option n v) = v ∷ []
values_in (flag n) = []
values_in (name w) = w ∷ []

-- the id of an argument that takes no name of the line
own_id : (sorts : List Sort) → find (λ x. bytes_eq x.name names_id) sorts ≡ None → (b : Bool) (n : Text)
    → arg_by_id (rules sorts) n ≡ Some (rule b n) → bytes_eq names_id n ≡ false
own_id sorts apart b n found = go (bytes_eq names_id n) refl
  where
    longs : Option Rule → Option (Option Text)
    longs = option_map (λ (a : Rule). a.long)

    long_is : (b : Bool) → (rule b n).long ≡ Some n
    long_is true = refl
    long_is false = refl

    go : (t : Bool) → bytes_eq names_id n ≡ t → t ≡ false
    go false e = refl
    go true e =
        let here : arg_by_id (rules sorts) n ≡ Some names_rule = ap (arg_by_id (rules sorts)) (sym (same_text names_id n e)) ∙ names_by_id sorts apart in
        let same : Some (rule b n) ≡ Some names_rule = sym found ∙ here in
        let bad : Some (Some n) ≡ Some None = ap (λ t. Some t) (sym (long_is b)) ∙ ap (option_map (λ (a : Rule). a.long)) same in
        cc

other_id : (sorts : List Sort) → find (λ x. bytes_eq x.name names_id) sorts ≡ None → (b : Bool) (n : Text)
    → arg_by_id (rules sorts) n ≡ Some (rule b n) → bytes_eq n names_id ≡ false
other_id sorts apart b n found = go (bytes_eq n names_id) refl
  where
    go : (t : Bool) → bytes_eq n names_id ≡ t → t ≡ false
    go false e = refl
    go true e = sym (ap (λ a. bytes_eq names_id a) (same_text n names_id e) ∙ text_same names_id) ∙ own_id sorts apart b n found

-- two sorts of argument
two_sorts : (sorts : List Sort) (n : Text) → arg_by_id (rules sorts) n ≡ Some (rule true n) → arg_by_id (rules sorts) n ≡ Some (rule false n) → ⊥
two_sorts sorts n first second =
    let same : Some (rule true n) ≡ Some (rule false n) = sym first ∙ second in
    apart (ap most same)
  where
    most : Option Rule → ℕ
    most = λ o. option_map_or most_values o 0

    apart : ◌≡◌ {A = ℕ} 1 0 → ⊥
    apart bad = absurd (omega arith)

and_yes : (b : Bool) → (b && true) ≡ b
and_yes true = refl
and_yes false = refl

-- a use of an option or a flag fails exactly where it has a row
option_kinds : (n v : Text) (rows : List Row) → use_fault false (rule true n) (v ∷ []) rows ≡ cond (has_row n rows) (ArgumentConflict ∷ []) []
option_kinds n v rows = or_else_nil _ ∙ ap (λ b. cond b (ArgumentConflict ∷ []) []) (and_yes (has_row n rows))

flag_kinds : (n : Text) (rows : List Row) → use_fault false (rule false n) [] rows ≡ cond (has_row n rows) (ArgumentConflict ∷ []) []
flag_kinds n rows = or_else_nil _ ∙ ap (λ b. cond b (ArgumentConflict ∷ []) []) (and_yes (has_row n rows))

-- values in place of none
set_reads : (n m : Text) (how : Reading) (s : ValueSource) (vs : List Text) (rows : List Row) → has_row n rows ≡ false
    → all_of m (with_values n how s vs (at_row n (λ _. []) [] rows)) ≡ added n vs m (all_of m rows)
set_reads n m how s vs rows none =
    all_of-with_values n m how s vs (at_row n (λ _. []) [] rows)
    ∙ ap (λ rs. added n vs m (all_of m rs)) (at_row-absent n (λ _. []) [] rows none ∙ append-nil rows)

no_row : (b : Bool) (k : ErrorKind) → cond b (k ∷ []) [] ≡ [] → b ≡ false
no_row true k e = cc
no_row false k e = refl

pub both_none : (a b : Kinds) → or_else a b ≡ [] → (a ≡ []) × (b ≡ [])
both_none [] b e = (refl, e)
both_none (x ∷ xs) b e = cc

module _ (sorts : List Sort) (apart : find (λ x. bytes_eq x.name names_id) sorts ≡ None) where
  abbrev part_kinds : List Row → Part → Kinds
  part_kinds rows p = settle_kinds (rules sorts) rows (Some (use_of p))

  abbrev part_rows : List Row → Part → List Row
  part_rows rows p = settled_rows (rules sorts) (Some (use_of p)) rows

  -- what a part that passes adds
  part_reads : (p : Part) (m : Text) (rows : List Row) → IsKnownPart (rules sorts) p → part_kinds rows p ≡ []
      → all_of m (part_rows rows p) ≡ added (use_of p).0 (values_in p) m (all_of m rows)
  part_reads (option n v) m rows known none =
      let kinds : use_fault false (rule true n) (v ∷ []) rows ≡ [] = sym (ap (λ o. option_map_or (λ a. use_fault false a (v ∷ []) rows) o []) known) ∙ none in
      ap (λ o. all_of m (used_by_id o (v ∷ []) rows)) known
      ∙ set_reads n m _ _ (v ∷ []) rows (no_row (has_row n rows) ArgumentConflict (sym (option_kinds n v rows) ∙ kinds))
  part_reads (flag n) m rows known none =
      let kinds : use_fault false (rule false n) [] rows ≡ [] = sym (ap (λ o. option_map_or (λ a. use_fault false a [] rows) o []) known) ∙ none in
      ap (λ o. all_of m (used_by_id o [] rows)) known
      ∙ set_reads n m _ _ [] rows (no_row (has_row n rows) ArgumentConflict (sym (flag_kinds n rows) ∙ kinds))
  part_reads (name w) m rows known none =
      ap (λ o. all_of m (used_by_id o (w ∷ []) rows)) (names_by_id sorts apart)
      ∙ all_of-with_values names_id m _ _ (w ∷ []) rows

  -- ---- all the parts

  -- what stands under m in the end
  abbrev pub joined : Text → Option (List Text) → List Part → Option (List Text)
  joined m o [] = o
  joined m o (p ∷ ps) = joined m (added (use_of p).0 (values_in p) m o) ps

  pub play_reads : (ps : List Part) (m : Text) (rows : List Row) → AreKnown (rules sorts) ps → play_kinds (rules sorts) rows ps ≡ []
      → all_of m (play (rules sorts) rows ps) ≡ joined m (all_of m rows) ps
  play_reads [] m rows known none = refl
  play_reads (p ∷ ps) m rows known none =
      let parts = both_none (part_kinds rows p) (play_kinds (rules sorts) (part_rows rows p) ps) none in
      play_reads ps m (part_rows rows p) known.1 parts.1 ∙ ap (λ o. joined m o ps) (part_reads p m rows known.0 parts.0)

  -- no part stands twice exactly where no use fails
  abbrev pub Passes : Bool → Kinds → Type 0
  Passes true k = k ≡ []
  Passes false k = k ≡ [] → ⊥

  abbrev pub HasRowsOf : List Text → List Row → Type 0
  HasRowsOf seen rows = (m : Text) → bytes_eq names_id m ≡ false → has_row m rows ≡ is_among m seen

  is_some-added : (n m : Text) (vs : List Text) (o : Option (List Text)) → is_some (added n vs m o) ≡ (bytes_eq n m || is_some o)
  is_some-added n m vs o = go (bytes_eq n m)
    where
      go : (b : Bool) → is_some (cond b (Some (unwrap_or o [] ++ vs)) o) ≡ (b || is_some o)
      go true = refl
      go false = refl

  rows_next : (n : Text) (vs : List Text) (seen : List Text) (rows next : List Row) → ((m : Text) → all_of m next ≡ added n vs m (all_of m rows))
      → HasRowsOf seen rows → HasRowsOf (n ∷ seen) next
  rows_next n vs seen rows next reads has m own =
      has_row-all_of m next ∙ ap is_some (reads m) ∙ is_some-added n m vs (all_of m rows)
      ∙ ap (λ b. bytes_eq n m || b) (sym (has_row-all_of m rows) ∙ has m own)

  rows_stay : (vs : List Text) (seen : List Text) (rows next : List Row) → ((m : Text) → all_of m next ≡ added names_id vs m (all_of m rows))
      → HasRowsOf seen rows → HasRowsOf seen next
  rows_stay vs seen rows next reads has m own =
      has_row-all_of m next ∙ ap is_some (reads m) ∙ ap (λ b. is_some (cond b (Some (unwrap_or (all_of m rows) [] ++ vs)) (all_of m rows))) own
      ∙ sym (has_row-all_of m rows) ∙ has m own

  own_passes : (p : Part) (n : Text) (seen : List Text) (ps : List Part) (rows : List Row) → HasRowsOf seen rows → bytes_eq names_id n ≡ false
      → part_kinds rows p ≡ cond (has_row n rows) (ArgumentConflict ∷ []) []
      → (part_kinds rows p ≡ [] → Passes (is_once (n ∷ seen) ps) (play_kinds (rules sorts) (part_rows rows p) ps))
      → Passes (not (is_among n seen) && is_once (n ∷ seen) ps) (or_else (part_kinds rows p) (play_kinds (rules sorts) (part_rows rows p) ps))
  own_passes p n seen ps rows has own kinds rest = go (is_among n seen) refl
    where
      go : (b : Bool) → is_among n seen ≡ b → Passes (not (is_among n seen) && is_once (n ∷ seen) ps)
          (or_else (part_kinds rows p) (play_kinds (rules sorts) (part_rows rows p) ps))
      go true t =
          let is : part_kinds rows p ≡ ArgumentConflict ∷ [] = kinds ∙ ap (λ b. cond b (ArgumentConflict ∷ []) []) (has n own ∙ t) in
          subst (λ b. Passes (not b && is_once (n ∷ seen) ps) (or_else (part_kinds rows p) (play_kinds (rules sorts) (part_rows rows p) ps))) (sym t)
          (first_fault _ _ (λ z. let bad : ArgumentConflict ∷ [] ≡ [] = sym is ∙ z in cc))
      go false t =
          let is : part_kinds rows p ≡ [] = kinds ∙ ap (λ b. cond b (ArgumentConflict ∷ []) []) (has n own ∙ t) in
          subst (λ b. Passes (not b && is_once (n ∷ seen) ps) (or_else (part_kinds rows p) (play_kinds (rules sorts) (part_rows rows p) ps))) (sym t)
          (subst (λ k. Passes (is_once (n ∷ seen) ps) (or_else k (play_kinds (rules sorts) (part_rows rows p) ps))) (sym is) (rest is))

  pub once_passes : (ps : List Part) (seen : List Text) (rows : List Row) → AreKnown (rules sorts) ps → HasRowsOf seen rows
      → Passes (is_once seen ps) (play_kinds (rules sorts) rows ps)
  once_passes [] seen rows known has = refl
  once_passes (option n v ∷ ps) seen rows known has =
      own_passes (option n v) n seen ps rows has (own_id sorts apart true n known.0)
      (ap (λ o. option_map_or (λ a. use_fault false a (v ∷ []) rows) o []) known.0 ∙ option_kinds n v rows)
      (λ none. once_passes ps (n ∷ seen) (part_rows rows (option n v)) known.1
      (rows_next n (v ∷ []) seen rows (part_rows rows (option n v)) (λ m. part_reads (option n v) m rows known.0 none) has))
  once_passes (flag n ∷ ps) seen rows known has =
      own_passes (flag n) n seen ps rows has (own_id sorts apart false n known.0)
      (ap (λ o. option_map_or (λ a. use_fault false a [] rows) o []) known.0 ∙ flag_kinds n rows)
      (λ none. once_passes ps (n ∷ seen) (part_rows rows (flag n)) known.1
      (rows_next n [] seen rows (part_rows rows (flag n)) (λ m. part_reads (flag n) m rows known.0 none) has))
  once_passes (name w ∷ ps) seen rows known has =
      let none : part_kinds rows (name w) ≡ [] = ap (λ o. option_map_or (λ a. use_fault false a (w ∷ []) rows) o []) (names_by_id sorts apart) in
      subst (λ k. Passes (is_once seen ps) (or_else k (play_kinds (rules sorts) (part_rows rows (name w)) ps))) (sym none)
      (once_passes ps seen (part_rows rows (name w)) known.1
      (rows_stay (w ∷ []) seen rows (part_rows rows (name w)) (λ m. part_reads (name w) m rows known.0 none) has))

  -- ---- what is looked up at the end

  abbrev pub head_of : Option (List Text) → Option Text
  head_of o = option_and_then (λ vs. slice_get vs 0) o

  -- a first value stays
  head_stays : (ps : List Part) (n v : Text) (vs : List Text) → head_of (joined n (Some (v ∷ vs)) ps) ≡ Some v
  head_stays [] n v vs = refl
  head_stays (p ∷ ps) n v vs = go (bytes_eq (use_of p).0 n) (head_stays ps n v)
    where
      go : (b : Bool) → ((ws : List Text) → head_of (joined n (Some (v ∷ ws)) ps) ≡ Some v)
          → head_of (joined n (cond b (Some ((v ∷ vs) ++ values_in p)) (Some (v ∷ vs))) ps) ≡ Some v
      go true rest = rest (vs ++ values_in p)
      go false rest = rest vs

  -- the value of an option
  pub option_head : (ps : List Part) (n : Text) → arg_by_id (rules sorts) n ≡ Some (rule true n) → AreKnown (rules sorts) ps
      → head_of (joined n None ps) ≡ value_of n ps
  option_head [] n is known = refl
  option_head (option m v ∷ ps) n is known = go (bytes_eq m n) (option_head ps n is known.1)
    where
      go : (b : Bool) → head_of (joined n None ps) ≡ value_of n ps → head_of (joined n (cond b (Some (v ∷ [])) None) ps) ≡ cond b (Some v) (value_of n ps)
      go true rest = head_stays ps n v []
      go false rest = rest
  option_head (flag m ∷ ps) n is known = go (bytes_eq m n) refl (option_head ps n is known.1)
    where
      go : (b : Bool) → bytes_eq m n ≡ b → head_of (joined n None ps) ≡ value_of n ps → head_of (joined n (cond b (Some []) None) ps) ≡ value_of n ps
      go true e rest = absurd (two_sorts sorts n is (subst (λ k. arg_by_id (rules sorts) k ≡ Some (rule false k)) (same_text m n e) known.0))
      go false e rest = rest
  option_head (name w ∷ ps) n is known =
      ap (λ b. head_of (joined n (cond b (Some (w ∷ [])) None) ps)) (own_id sorts apart true n is) ∙ option_head ps n is known.1

  -- the values under an id stay
  some_stays : (ps : List Part) (n : Text) (vs : List Text) → is_some (joined n (Some vs) ps) ≡ true
  some_stays [] n vs = refl
  some_stays (p ∷ ps) n vs = go (bytes_eq (use_of p).0 n) (some_stays ps n)
    where
      go : (b : Bool) → ((ws : List Text) → is_some (joined n (Some ws) ps) ≡ true) → is_some (joined n (cond b (Some (vs ++ values_in p)) (Some vs)) ps) ≡ true
      go true rest = rest (vs ++ values_in p)
      go false rest = rest vs

  -- whether a flag stands
  pub flag_some : (ps : List Part) (n : Text) → arg_by_id (rules sorts) n ≡ Some (rule false n) → AreKnown (rules sorts) ps
      → is_some (joined n None ps) ≡ has_flag n ps
  flag_some [] n is known = refl
  flag_some (flag m ∷ ps) n is known = go (bytes_eq m n) (flag_some ps n is known.1)
    where
      go : (b : Bool) → is_some (joined n None ps) ≡ has_flag n ps → is_some (joined n (cond b (Some []) None) ps) ≡ cond b true (has_flag n ps)
      go true rest = some_stays ps n []
      go false rest = rest
  flag_some (option m v ∷ ps) n is known = go (bytes_eq m n) refl (flag_some ps n is known.1)
    where
      go : (b : Bool) → bytes_eq m n ≡ b → is_some (joined n None ps) ≡ has_flag n ps → is_some (joined n (cond b (Some (v ∷ [])) None) ps) ≡ has_flag n ps
      go true e rest = absurd (two_sorts sorts n (subst (λ k. arg_by_id (rules sorts) k ≡ Some (rule true k)) (same_text m n e) known.0) is)
      go false e rest = rest
  flag_some (name w ∷ ps) n is known =
      ap (λ b. is_some (joined n (cond b (Some (w ∷ [])) None) ps)) (own_id sorts apart false n is) ∙ flag_some ps n is known.1

  -- the names
  pub names_joined : (ps : List Part) (o : Option (List Text)) → AreKnown (rules sorts) ps → unwrap_or (joined names_id o ps) [] ≡ unwrap_or o [] ++ names_of ps
  names_joined [] o known = sym (append-nil (unwrap_or o []))
  names_joined (option n v ∷ ps) o known =
      ap (λ b. unwrap_or (joined names_id (cond b (Some (unwrap_or o [] ++ v ∷ [])) o) ps) []) (other_id sorts apart true n known.0) ∙ names_joined ps o known.1
  names_joined (flag n ∷ ps) o known =
      ap (λ b. unwrap_or (joined names_id (cond b (Some (unwrap_or o [] ++ [])) o) ps) []) (other_id sorts apart false n known.0) ∙ names_joined ps o known.1
  names_joined (name w ∷ ps) o known =
      names_joined ps (Some (unwrap_or o [] ++ w ∷ [])) known.1 ∙ append_assoc (unwrap_or o []) (w ∷ []) (names_of ps)
