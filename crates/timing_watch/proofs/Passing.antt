-- A type passes exactly if no complete frame or field breaks it.
use Rattle.std.specs.Prelude.{◌==◌, ◌||◌}
use Rattle.std.proofs.Common.{◌≡◌, ◌<◌, ◌≤◌, ◌+◌, ◌*◌, ◌/◌, ◌%◌, ◌∷◌, ℕ, zero, suc, Bool, true, false, List, [], length, inl, inr}
use Rattle.std.proofs.Common.{◌∙◌, ap, sym, refl, arith}
use Rattle.std.proofs.Math.Nat.{mul-le-mul_right, mul_comm, suc-mul}
use Rattle.std.proofs.lemmas.Bool.{cases_lt, eq-eqb, ne_eqb}
use Rattle.std.proofs.lemmas.List.{length-map}
use Rattle.std.proofs.lemmas.Nat.{div-add-mod', mod_below}
use Rattle.timing_base.specs.Judged.{stamp_of}
use Rattle.timing_base.specs.Media.{Media}
use Rattle.timing_base.specs.Shifts.{Shift}
use Rattle.timing_base.specs.Verdicts.{Judged}
use Rattle.timing_base.specs.declared.media.Kind.TheVariants.{N, NL, W}
use Rattle.timing_base.specs.declared.packet.FlowPacket.{FlowPacket}
use Rattle.timing_base.specs.declared.row.KindVerdict.{KindVerdict}
use Rattle.timing_base.specs.declared.row.KindVerdict.TheVariants.{Fail, Pass}
use Rattle.run_meter.specs.Runs.{IsJudgedOf, NameFirst, NamesFirst, RunOf, is_broken, stamps_of}
use Rattle.timing_report.specs.Outcomes.{is_pass, verdict_on}
use Rattle.flow_measure.specs.Broken.{any_of, broken_groups, group_breaks}
use Rattle.flow_measure.proofs.Counted.{count_of-none, none-count_of}
use Rattle.flow_watch.specs.Stretches.{IsStretch, broken_of_types}
use Rattle.flow_watch.specs.declared.stretch.PerType.{PerType}
use Rattle.flow_watch.specs.declared.stretch.Stretch.{Stretch}
use Rattle.timing_watch.specs.Agreeing.{Agrees}

not-both : (b : Bool) → b ≡ true → b ≡ false → ⊥
not-both b h k = cc

-- no place of a frame or field passes the test
abbrev BothFalse : Bool → Bool → Type 0
BothFalse a b = (a ≡ false) × (b ≡ false)

both-false : (a b : Bool) → a || b ≡ false → BothFalse a b
both-false true b e = absurd (not-both true refl e)
both-false false b e = (refl, e)

any-none : (test : ℕ → Bool) (count : ℕ) → any_of test count ≡ false → (i : ℕ) → i < count → test i ≡ false
any-none test zero e i few = absurd (omega (arith, few))
any-none test (suc count) e i few =
    let both = both-false (any_of test count) (test count) e in
    elim (cases_lt i count) as (λ _. test i ≡ false) [
      | inl low ↦ any-none test count both.0 i low
      | inr high ↦ let last : i ≡ count = omega (arith, few, high) in ap test last ∙ both.1
    ]

none-any : (test : ℕ → Bool) (count : ℕ) → ((i : ℕ) → i < count → test i ≡ false) → any_of test count ≡ false
none-any test zero none = refl
none-any test (suc count) none =
    ap (λ x. x || test count) (none-any test count (λ i few. none i (omega (arith, few)))) ∙ none count (omega arith)

-- no frame or field has a broken packet exactly if no packet is broken
none-broken : (n frames count : ℕ) (broken : ℕ → Bool) → count ≡ n * frames → broken_groups n broken frames ≡ 0
    → (i : ℕ) → i < count → broken i ≡ false
none-broken zero frames count broken whole none i few =
    let empty : 0 * frames ≡ 0 = omega arith in
    absurd (omega (arith, whole, few, empty))
none-broken (suc k) frames count broken whole none i few =
    let n = suc k in
    let split = div-add-mod' i n in
    let turned = mul_comm n frames in
    let place : i % n < n = mod_below i n (omega arith) in
    let low : i / n < frames = elim (cases_lt (i / n) frames) as (λ _. i / n < frames) [
      | inl less ↦ less
      | inr high ↦ let most : frames * n ≤ i / n * n = mul-le-mul_right n high in absurd (omega (arith, most, split, few, whole, turned))
    ] in
    let group = count_of-none (group_breaks n broken) frames none (i / n) low in
    ap broken (sym split) ∙ any-none (λ j. broken (i / n * n + j)) n group (i % n) place

none-breaks : (n frames count : ℕ) (broken : ℕ → Bool) → count ≡ n * frames → ((i : ℕ) → i < count → broken i ≡ false)
    → broken_groups n broken frames ≡ 0
none-breaks n frames count broken whole none =
    none-count_of (group_breaks n broken) frames
    (λ k low.
    let end : suc k * n ≤ frames * n = mul-le-mul_right n low in
    let turned = mul_comm n frames in
    none-any (λ j. broken (k * n + j)) n (λ j few. none (k * n + j) (omega (arith, few, end, suc-mul k n, whole, turned))))

-- a verdict that names the first broken packet is a pass exactly if no frame or field has one
zero-pass : (n frames count : ℕ) (broken : ℕ → Bool) (v : KindVerdict) → count ≡ n * frames → NamesFirst broken count v
    → is_pass v ≡ (broken_groups n broken frames == 0)
zero-pass n frames count broken Pass whole names =
    sym (eq-eqb (broken_groups n broken frames) 0 (none-breaks n frames count broken whole names))
zero-pass n frames count broken (Fail proof) whole names =
    sym (ne_eqb (broken_groups n broken frames) 0
    (λ none. not-both (broken proof.to) names.1 (none-broken n frames count broken whole none proof.to names.0)))

-- ---- the three types

record ArePasses (values : Judged) (broken : PerType) : Type 0 where
  narrow : is_pass (verdict_on values N) ≡ (broken.narrow == 0)
  narrow_linear : is_pass (verdict_on values NL) ≡ (broken.narrow_linear == 0)
  wide : is_pass (verdict_on values W) ≡ (broken.wide == 0)

abbrev with_kinds : Judged → List KindVerdict → Judged
with_kinds values kinds = record {
  n = values.n;
  frames = values.frames;
  packets = values.packets;
  head = values.head;
  tail = values.tail;
  bucket_peak = values.bucket_peak;
  gapped_peak = values.gapped_peak;
  linear_peak = values.linear_peak;
  kinds = kinds;
}

by-kinds : (m : Media) (n frames : ℕ) (stamps : List ℕ) (values : Judged) (kinds : List KindVerdict) → length stamps ≡ n * frames
    → NameFirst m n stamps kinds → ArePasses (with_kinds values kinds) (broken_of_types m n stamps frames)
by-kinds m n frames stamps values (narrow ∷ narrow_linear ∷ wide ∷ []) whole h = record {
  narrow = zero-pass n frames (length stamps) (is_broken m n stamps N) narrow whole h.0;
  narrow_linear = zero-pass n frames (length stamps) (is_broken m n stamps NL) narrow_linear whole h.1;
  wide = zero-pass n frames (length stamps) (is_broken m n stamps W) wide whole h.2;
}
by-kinds m n frames stamps values [] whole h = absurd h
by-kinds m n frames stamps values (one ∷ []) whole h = absurd h
by-kinds m n frames stamps values (one ∷ two ∷ []) whole h = absurd h
by-kinds m n frames stamps values (one ∷ two ∷ three ∷ four ∷ rest) whole h = absurd h

-- a stretch up to the last complete frame or field agrees with the result of the run
pub all-agree : (m : Media) (shift : Shift) (r : RunOf) (packets : List FlowPacket) (values : Judged) (from : ℕ) (s : Stretch)
    → IsJudgedOf m shift r packets values → IsStretch m r.number r.n (stamps_of shift packets) from values.frames s → Agrees values s
all-agree m shift r packets values from s judged is =
    let stamps = stamps_of shift packets in
    let long : length stamps ≡ length packets = length-map packets (stamp_of shift) in
    let are = by-kinds m r.n values.frames stamps values values.kinds (long ∙ judged.whole) judged.names in
    record {
      ends = is.to_is;
      narrow = are.narrow ∙ ap (λ (b : PerType). b.narrow == 0) (sym is.broken);
      narrow_linear = are.narrow_linear ∙ ap (λ (b : PerType). b.narrow_linear == 0) (sym is.broken);
      wide = are.wide ∙ ap (λ (b : PerType). b.wide == 0) (sym is.broken);
    }
