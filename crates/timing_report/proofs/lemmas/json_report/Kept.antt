-- Values that their text keeps: whole numbers below 2^64, and in each object keys that rise.
use Rattle.std.proofs.Common.{◌≡◌, ◌<◌, ◌^◌, ℕ, List, [], ◌∷◌, ◌++◌, Some, Ordering, Less, Equal, Greater, nat_cmp, option_map, option_and_then, refl, sym, ap}
use Rattle.std.proofs.Common.{◌∙◌}
use Rattle.std.specs.Prelude.{⊤}
use Rattle.std.specs.Cmp.Lexicographic.{slice_cmp}
use Rattle.std.specs.Ordering.{match_ordering, ordering_reverse}
use Rattle.std.proofs.lemmas.Cmp.{nat_list_cmp_total}
use Rattle.json.specs.Tree.{HasNumbers, ItemsHaveNumbers, MembersHaveNumbers}
use Rattle.json.proofs.Printed.Decimals.{IsNumber-decimal}
use Rattle.serde_json.specs.Data.{Num, unsigned, negative, float, Data, null, boolean, number, string, array, object, Items, no_items, item, Members}
use Rattle.serde_json.specs.Data.{no_members, member, put}
use Rattle.serde_json.specs.Read.{of_json, of_items, of_members}
use Rattle.serde_json.specs.Written.{outline, items_outline, members_outline}
use Rattle.serde_json.proofs.Numbers.{number_of-decimal}
use Rattle.timing_report.specs.json_report.Json.{Member, with_members}

-- one key is below another
abbrev pub KeyBelow : List ℕ → List ℕ → Type 0
KeyBelow k l = slice_cmp nat_cmp k l ≡ Less

-- all keys of the members are above this one
abbrev pub Above : List ℕ → Members → Type 0
Above k no_members = ⊤
Above k (member l e ms) = KeyBelow k l × Above k ms

-- the keys rise
abbrev pub Rising : Members → Type 0
Rising no_members = ⊤
Rising (member k d ms) = Above k ms × Rising ms

-- a whole number below 2^64
abbrev pub IsWhole : Num → Type 0
IsWhole (unsigned n) = n < 2 ^ 64
IsWhole (negative z) = ⊥
IsWhole (float x) = ⊥

abbrev mutual
  pub Kept : Data → Type 0
  Kept null = ⊤
  Kept (boolean b) = ⊤
  Kept (number n) = IsWhole n
  Kept (string s) = ⊤
  Kept (array ds) = ItemsKept ds
  Kept (object ms) = Rising ms × MembersKept ms

  pub ItemsKept : Items → Type 0
  ItemsKept no_items = ⊤
  ItemsKept (item d ds) = Kept d × ItemsKept ds

  pub MembersKept : Members → Type 0
  MembersKept no_members = ⊤
  MembersKept (member k d ms) = Kept d × MembersKept ms

-- ---- what is put in keeps the keys rising

one_of : (P : Members → Type 0) (o : Ordering) (a b c : Members) → P a → P b → P c → P (match_ordering o a b c)
one_of P Less a b c h k l = h
one_of P Equal a b c h k l = k
one_of P Greater a b c h k l = l

turned : (k l : List ℕ) → slice_cmp nat_cmp k l ≡ Greater → KeyBelow l k
turned k l e = nat_list_cmp_total.antisymm l k ∙ ap ordering_reverse e

Above-put : (k q : List ℕ) (d : Data) (ms : Members) → KeyBelow k q → Above k ms → Above k (put q d ms)
Above-put k q d no_members h a = (h, tt)
Above-put k q d (member l e ms) h a =
    one_of (Above k) (slice_cmp nat_cmp q l) _ _ _ (h, a) (a.0, a.1) (a.0, Above-put k q d ms h a.1)

Above-below : (k l : List ℕ) (ms : Members) → KeyBelow k l → Above l ms → Above k ms
Above-below k l no_members h a = tt
Above-below k l (member m e ms) h a = (nat_list_cmp_total.trans k l m h a.0, Above-below k l ms h a.1)

Rising-put_at : (o : Ordering) (k l : List ℕ) (d e : Data) (ms : Members) → slice_cmp nat_cmp k l ≡ o → Above l ms → Rising ms → Rising (put k d ms)
    → Rising (match_ordering o (member k d (member l e ms)) (member l d ms) (member l e (put k d ms)))
Rising-put_at Less k l d e ms is a r later = ((is, Above-below k l ms is a), (a, r))
Rising-put_at Equal k l d e ms is a r later = (a, r)
Rising-put_at Greater k l d e ms is a r later = (Above-put l k d ms (turned k l is) a, later)

Rising-put : (k : List ℕ) (d : Data) (ms : Members) → Rising ms → Rising (put k d ms)
Rising-put k d no_members r = (tt, tt)
Rising-put k d (member l e ms) r = Rising-put_at _ k l d e ms refl r.0 r.1 (Rising-put k d ms r.1)

MembersKept-put : (k : List ℕ) (d : Data) (ms : Members) → Kept d → MembersKept ms → MembersKept (put k d ms)
MembersKept-put k d no_members h m = (h, tt)
MembersKept-put k d (member l e ms) h m =
    one_of MembersKept (slice_cmp nat_cmp k l) _ _ _ (h, m) (h, m.1) (m.0, MembersKept-put k d ms h m.1)

-- the values of a list of members
abbrev pub AllKept : List Member → Type 0
AllKept [] = ⊤
AllKept (m ∷ ms) = Kept m.1 × AllKept ms

pub AllKept-append : (xs ys : List Member) → AllKept xs → AllKept ys → AllKept (xs ++ ys)
AllKept-append [] ys h k = k
AllKept-append (x ∷ xs) ys h k = (h.0, AllKept-append xs ys h.1 k)

with_members-kept : (ms : List Member) (found : Members) → AllKept ms → Rising found × MembersKept found
    → Rising (with_members ms found) × MembersKept (with_members ms found)
with_members-kept [] found h k = k
with_members-kept (m ∷ ms) found h k = with_members-kept ms (put m.0 m.1 found) h.1 (Rising-put m.0 m.1 found k.0, MembersKept-put m.0 m.1 found h.0 k.1)

-- an object is kept where its values are
pub object-kept : (ms : List Member) → AllKept ms → Kept (object (with_members ms no_members))
object-kept ms h = with_members-kept ms no_members h (tt, tt)

-- ---- what is written for a kept value reads as it

-- members after others
abbrev then : Members → Members → Members
then no_members later = later
then (member k d ms) later = member k d (then ms later)

then-no_members : (ms : Members) → then ms no_members ≡ ms
then-no_members no_members = refl
then-no_members (member k d ms) = ap (member k d) (then-no_members ms)

then-member : (done : Members) (k : List ℕ) (d : Data) (ms : Members) → then (then done (member k d no_members)) ms ≡ then done (member k d ms)
then-member no_members k d ms = refl
then-member (member l e done) k d ms = ap (member l e) (then-member done k d ms)

-- each key of the first is below each of the second
abbrev AllBelow : Members → Members → Type 0
AllBelow no_members later = ⊤
AllBelow (member k d ms) later = Above k later × AllBelow ms later

AllBelow-next : (done : Members) (k : List ℕ) (d : Data) (ms : Members) → AllBelow done (member k d ms) → Above k ms
    → AllBelow (then done (member k d no_members)) ms
AllBelow-next no_members k d ms h a = (a, tt)
AllBelow-next (member l e done) k d ms h a = (h.0.1, AllBelow-next done k d ms h.1 a)

above_it : (k l : List ℕ) → KeyBelow l k → slice_cmp nat_cmp k l ≡ Greater
above_it k l h = nat_list_cmp_total.antisymm k l ∙ ap ordering_reverse h

put_last : (k : List ℕ) (d : Data) (done ms : Members) → AllBelow done (member k d ms) → put k d done ≡ then done (member k d no_members)
put_last k d no_members ms h = refl
put_last k d (member l e done) ms h =
    ap (λ o. match_ordering o (member k d (member l e done)) (member l d done) (member l e (put k d done))) (above_it k l h.0.0)
    ∙ ap (member l e) (put_last k d done ms h.1)

number_kept : (n : Num) → IsWhole n → of_json (outline (number n)) ≡ Some (number n)
number_kept (unsigned n) h = ap (option_map number) (number_of-decimal n h)
number_kept (negative z) h = absurd h
number_kept (float x) h = absurd h

mutual
  pub of_json-outline : (d : Data) → Kept d → of_json (outline d) ≡ Some d
  of_json-outline null h = refl
  of_json-outline (boolean b) h = refl
  of_json-outline (number n) h = number_kept n h
  of_json-outline (string s) h = refl
  of_json-outline (array ds) h = ap (option_map array) (of_items-outline ds h)
  of_json-outline (object ms) h = ap (option_map object) (of_members-outline ms no_members h.0 h.1 tt)

  of_items-outline : (ds : Items) → ItemsKept ds → of_items (items_outline ds) ≡ Some ds
  of_items-outline no_items h = refl
  of_items-outline (item d ds) h =
      ap (option_and_then (λ e. option_map (item e) (of_items (items_outline ds)))) (of_json-outline d h.0) ∙ ap (option_map (item d)) (of_items-outline ds h.1)

  of_members-outline : (ms done : Members) → Rising ms → MembersKept ms → AllBelow done ms → of_members (members_outline ms) done ≡ Some (then done ms)
  of_members-outline no_members done r h b = ap Some (sym (then-no_members done))
  of_members-outline (member k d ms) done r h b =
      ap (option_and_then (λ e. of_members (members_outline ms) (put k e done))) (of_json-outline d h.0)
      ∙ ap (of_members (members_outline ms)) (put_last k d done ms b)
      ∙ of_members-outline ms (then done (member k d no_members)) r.1 h.1 (AllBelow-next done k d ms b r.0)
      ∙ ap Some (then-member done k d ms)

number_printed : (n : Num) → IsWhole n → HasNumbers (outline (number n))
number_printed (unsigned n) h = IsNumber-decimal n h
number_printed (negative z) h = absurd h
number_printed (float x) h = absurd h

mutual
  pub HasNumbers-outline : (d : Data) → Kept d → HasNumbers (outline d)
  HasNumbers-outline null h = tt
  HasNumbers-outline (boolean b) h = tt
  HasNumbers-outline (number n) h = number_printed n h
  HasNumbers-outline (string s) h = tt
  HasNumbers-outline (array ds) h = ItemsHaveNumbers-outline ds h
  HasNumbers-outline (object ms) h = MembersHaveNumbers-outline ms h.1

  ItemsHaveNumbers-outline : (ds : Items) → ItemsKept ds → ItemsHaveNumbers (items_outline ds)
  ItemsHaveNumbers-outline no_items h = tt
  ItemsHaveNumbers-outline (item d ds) h = (HasNumbers-outline d h.0, ItemsHaveNumbers-outline ds h.1)

  MembersHaveNumbers-outline : (ms : Members) → MembersKept ms → MembersHaveNumbers (members_outline ms)
  MembersHaveNumbers-outline no_members h = tt
  MembersHaveNumbers-outline (member k d ms) h = (HasNumbers-outline d h.0, MembersHaveNumbers-outline ms h.1)
