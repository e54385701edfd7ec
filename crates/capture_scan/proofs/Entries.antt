-- The entries of a map whose keys are told apart by a test.
use Rattle.std.proofs.Common.{◌≡◌, ℕ, zero, suc, ◌+◌, ◌≤◌, ◌<◌, Bool, cond, List, [], ◌∷◌, ◌++◌, map, filter_map, length, set, get_or, slice_get, position, All}
use Rattle.std.proofs.Common.{Option, Some, None, Bor, refl, sym, ap, subst, ◌∙◌, arith, eqb-true, eq-eqb}
use Rattle.std.specs.List.{cons_option}
use Rattle.std.specs.Map.{keys_of, lookup, values_of}
use Rattle.std.specs.Map.Iter.{deref_pair}
use Rattle.std.specs.Option.{option_map}
use Rattle.std.proofs.lemmas.Bool.{and_from, and_parts}
use Rattle.std.proofs.lemmas.List.{length-map, map_push}
use Rattle.std.proofs.lemmas.List.Elements.{All-head, All-push, All-set, All-tail}
use Rattle.std.proofs.lemmas.List.Quantifiers.{position-Some}
use Rattle.std.proofs.lemmas.Map.Entries.{lookup_from_place}
use Rattle.std.proofs.lemmas.Option.{slice_get-get_or, slice_get-map}
use Rattle.timing_base.proofs.Targets.{same-target, target-itself}
use Rattle.timing_base.specs.Targets.{is_same_target}
use Rattle.indexmap.specs.IndexMap.{IndexMap, IsUnique, Updates, get, with_value_at}
use Rattle.indexmap.specs.Layout.{set_value_at}
use Rattle.indexmap.proofs.CallerLemmas.{keys-with_value_at, updates-with_value_at}
use Rattle.capture_scan.proofs.Counting.{none_some, some_same}
use Rattle.capture_scan.proofs.Groups.{TellsApart, equivalence, stand-found, stand-full, stand-new}
use Rattle.capture_scan.specs.Groups.{HaveItems, items_of, told}
use Rattle.capture_scan.specs.Scans.{is_same_stream}

-- streams and targets are told apart by their keys
pub streams_apart : TellsApart is_same_stream
streams_apart = record {
  itself = λ k. and_from _ _ (target-itself k.target) (eq-eqb k.ssrc k.ssrc refl);
  equal = λ j k h.
      let parts = and_parts (is_same_target j.target k.target) _ h in
      let target : j.target ≡ k.target = same-target j.target k.target parts.0 in
      let ssrc : j.ssrc ≡ k.ssrc = eqb-true j.ssrc k.ssrc parts.1 in
      λ i. record { target = target i; ssrc = ssrc i };
}

pub targets_apart : TellsApart is_same_target
targets_apart = record { itself = target-itself; equal = same-target }

module _ {K V : Type 0} where
  -- an entry with this key stands at a place where the keys have it
  entry-from_key : (es : List (K × V)) (i : ℕ) (k : K) → option_map (λ e. e.0) (slice_get es i) ≡ Some k
      → (v : V) × (slice_get es i ≡ Some (k, v))
  entry-from_key es i k is = by (slice_get es i) is
    where
      by : (o : Option (K × V)) → option_map (λ e. e.0) o ≡ Some k → (v : V) × (o ≡ Some (k, v))
      by None e = none_some k e
      by (Some x) e =
          let same : Some x.0 ≡ Some k = e in
          let key : x.0 ≡ k = cc in
          (x.1, ap (λ (j : K). Some (j, x.1)) key)

  -- and at the place where a key is found
  pub entry-found : {same : K → K → Bool} (laws : TellsApart same) (es : List (K × V)) (i : ℕ) (k : K)
      → Some i ≡ position (same k) (keys_of es) → (v : V) × (slice_get es i ≡ Some (k, v))
  entry-found {same = same} laws es i k is =
      let found = position-Some (same k) (keys_of es) i k (sym is) in
      let own : k ≡ get_or (keys_of es) i k = laws.equal k (get_or (keys_of es) i k) found.1 in
      entry-from_key es i k (sym (slice_get-map (λ e. e.0) es i) ∙ (slice_get-get_or (keys_of es) i k found.0 ∙ ap (λ (j : K). Some j) (sym own)))

  -- equal entries have equal keys
  pub key-same : (j k : K) (v w : V) (o : Option (K × V)) → o ≡ Some (j, v) → o ≡ Some (k, w) → j ≡ k
  key-same j k v w o one other =
      let both : Some (j, v) ≡ Some (k, w) = sym one ∙ other in
      let pairs : (j, v) ≡ (k, w) = cc in
      ap (λ (p : K × V). p.0) pairs

  -- the value at a place
  pub all-at : (P : V → Type 0) (es : List (K × V)) (i : ℕ) (k : K) (v : V) → slice_get es i ≡ Some (k, v) → All P (values_of es) → P v
  all-at P [] i k v at all = none_some (k, v) at
  all-at P (e ∷ es) zero k v at all =
      subst P (ap (λ (p : K × V). p.1) (some_same e (k, v) at)) (All-head P e.1 (values_of es) all)
  all-at P (e ∷ es) (suc i) k v at all = all-at P es i k v at (All-tail P e.1 (values_of es) all)

  -- the values after one was written, and after an entry was put at the end
  pub values-set : (es : List (K × V)) (i : ℕ) (w : V) → values_of (set_value_at es i w) ≡ set (values_of es) i w
  values-set [] i w = refl
  values-set (e ∷ es) zero w = refl
  values-set (e ∷ es) (suc i) w = ap (λ (l : List V). e.1 ∷ l) (values-set es i w)

  pub all-set : (P : V → Type 0) (es : List (K × V)) (i : ℕ) (w : V) → P w → All P (values_of es) → All P (values_of (set_value_at es i w))
  all-set P es i w here all = subst (All P) (sym (values-set es i w)) (All-set P (values_of es) i w here all)

  pub all-push : (P : V → Type 0) (es : List (K × V)) (k : K) (w : V) → P w → All P (values_of es) → All P (values_of (es ++ (k, w) ∷ []))
  all-push P es k w here all = subst (All P) (sym (map_push (λ (e : K × V). e.1) es (k, w))) (All-push P (values_of es) w all here)

module _ {K V S X : Type 0} {same : K → K → Bool} (laws : TellsApart same) (key : X → K) (most : ℕ) (For : V → List X → Type 0)
    (m : IndexMap K V S) (more : ℕ) (xs : List X) (x : X)
    (s : HaveItems same key most For m.entries more xs) where
  -- a value was written that takes the item
  pub have-written : (i : ℕ) (k : K) (v w : V) → IsUnique same m → slice_get m.entries i ≡ Some (k, v) → k ≡ key x
      → ((ys : List X) → For v ys → For w (ys ++ x ∷ [])) → HaveItems same key most For (with_value_at m i w).entries more (xs ++ x ∷ [])
  have-written i k v w unique at own takes =
      let here : slice_get m.entries i ≡ Some (key x, v) = at ∙ ap (λ (j : K). Some (j, v)) own in
      stand-found laws key most For m.entries (with_value_at m i w).entries more xs x s v w
      (lookup_from_place (equivalence laws) m.entries i (key x) v unique here)
      (updates-with_value_at m i w (equivalence laws) unique (key x) v here).0
      (keys-with_value_at m i w)
      takes

  -- an entry was put at the end, whose value stands for the item
  pub have-pushed : (n : IndexMap K V S) (k : K) (w : V) → k ≡ key x → get same m k ≡ None → Updates same m n k (Some w) → n.entries ≡ m.entries ++ (k, w) ∷ []
      → length m.entries < most → For w (x ∷ []) → HaveItems same key most For n.entries more (xs ++ x ∷ [])
  have-pushed n k w own none updates entries room first =
      stand-new laws key most For m.entries n.entries more xs x s w
      (ap (λ (j : K). lookup (same j) m.entries) (sym own) ∙ none)
      (λ q. updates.0 q ∙ ap (λ (j : K). cond (same j q) (Some w) (lookup (same q) m.entries)) own)
      (ap keys_of entries ∙ (map_push (λ (e : K × V). e.0) m.entries (k, w) ∙ ap (λ (j : K). keys_of m.entries ++ j ∷ []) own))
      (omega (arith, room, length-map m.entries (λ (e : K × V). e.0)))
      first

  -- there was no room for one
  pub have-full : (k : K) → k ≡ key x → get same m k ≡ None → most ≤ length m.entries → HaveItems same key most For m.entries (more + 1) (xs ++ x ∷ [])
  have-full k own none full =
      stand-full laws key most For m.entries m.entries more xs x s
      (ap (λ (j : K). lookup (same j) m.entries) (sym own) ∙ none)
      (omega (arith, full, length-map m.entries (λ (e : K × V). e.0)))

module _ {K V Y : Type 0} where
  -- what is made of the entries is what is made of their keys
  map-keys : (f : K × V → Y) (g : K → Y) (es : List (K × V)) → ((i : ℕ) (k : K) (v : V) → slice_get es i ≡ Some (k, v) → f (k, v) ≡ g k)
      → map f es ≡ map g (keys_of es)
  map-keys f g [] h = refl
  map-keys f g (e ∷ es) h = λ i. h 0 e.0 e.1 refl i ∷ map-keys f g es (λ j k v at. h (suc j) k v at) i

  filter_map-keys : (f : K × V → Y) (g : K → Option Y) (es : List (K × V)) → ((i : ℕ) (k : K) (v : V) → slice_get es i ≡ Some (k, v) → Some (f (k, v)) ≡ g k)
      → map f es ≡ filter_map g (keys_of es)
  filter_map-keys f g [] h = refl
  filter_map-keys f g (e ∷ es) h =
      ap (λ (l : List Y). f e ∷ l) (filter_map-keys f g es (λ j k v at. h (suc j) k v at))
      ∙ ap (λ (o : Option Y). cons_option o (filter_map g (keys_of es))) (h 0 e.0 e.1 refl)

module _ {K V S X : Type 0} {same : K → K → Bool} (laws : TellsApart same) (key : X → K) (most : ℕ) (For : V → List X → Type 0)
    (m : IndexMap K V S) (more : ℕ) (xs : List X)
    (s : HaveItems same key most For m.entries more xs) (unique : IsUnique same m) where
  each-at : (i : ℕ) (k : K) (v : V) → slice_get m.entries i ≡ Some (k, v) → For v (items_of same key most xs k)
  each-at i k v at = s.each k v (lookup_from_place (equivalence laws) m.entries i k v unique at)

  pub map-told : {Y : Type 0} (f : K × V → Y) (g : K → Y) → ((k : K) (v : V) → For v (items_of same key most xs k) → f (k, v) ≡ g k)
      → map f m.entries ≡ map g (told same key most xs)
  map-told f g is = map-keys f g m.entries (λ i k v at. is k v (each-at i k v at)) ∙ ap (map g) s.keys_are

  pub filter_map-told : {Y : Type 0} (f : K × V → Y) (g : K → Option Y) → ((k : K) (v : V) → For v (items_of same key most xs k) → Some (f (k, v)) ≡ g k)
      → map f m.entries ≡ filter_map g (told same key most xs)
  filter_map-told f g is = filter_map-keys f g m.entries (λ i k v at. is k v (each-at i k v at)) ∙ ap (filter_map g) s.keys_are

-- what is made of entries that were shown
pub map-shown : {K V Y : Type 0} (f : K × V → Y) (es : List (Bor K × Bor V)) → map (λ e. f (e.0.now, e.1.now)) es ≡ map f (map deref_pair es)
map-shown f [] = refl
map-shown {Y = Y} f (e ∷ es) = ap (λ (l : List Y). f (e.0.now, e.1.now) ∷ l) (map-shown f es)
