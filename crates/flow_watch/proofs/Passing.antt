-- No frame or field breaks a type exactly if the type passes.
use Rattle.std.proofs.Common.{◌≡◌, ◌<◌, ◌≤◌, ◌+◌, ◌*◌, ◌/◌, ◌%◌, ◌||◌, ◌↔◌, ◌∷◌, ℕ, zero, suc, Bool, true, false, List, [], length, inl, inr}
use Rattle.std.proofs.Common.{◌∙◌, ap, sym, subst, refl, arith}
use Rattle.std.specs.Prelude.{slice_index_or}
use Rattle.std.proofs.Math.Nat.{mul-le-mul_right, mul_comm, suc-mul}
use Rattle.std.proofs.lemmas.Bool.{cases_lt}
use Rattle.std.proofs.lemmas.List.{length-map}
use Rattle.std.proofs.lemmas.Nat.{div-add-mod', mod_below}
use Rattle.timing_base.specs.Judged.{stamp_of}
use Rattle.timing_base.specs.Media.{Media}
use Rattle.timing_base.specs.Shifts.{Shift}
use Rattle.timing_base.specs.Verdicts.{Judged}
use Rattle.timing_base.specs.declared.fail.FailProof.{FailProof}
use Rattle.timing_base.specs.declared.media.Kind.TheVariants.{N, NL, W}
use Rattle.timing_base.specs.declared.packet.FlowPacket.{FlowPacket}
use Rattle.timing_base.specs.declared.row.KindVerdict.{KindVerdict}
use Rattle.timing_base.specs.declared.row.KindVerdict.TheVariants as kind_verdict
use Rattle.timing_base.specs.declared.row.KindVerdict.TheVariants.{Fail, Pass}
use Rattle.run_meter.specs.Runs.{IsJudgedOf, NameFirst, NamesFirst, RunOf, is_broken, stamps_of}
use Rattle.flow_measure.specs.Broken.{any_of, broken_groups, group_breaks}
use Rattle.flow_measure.proofs.Counted.{count_of-none, none-count_of}
use Rattle.flow_watch.specs.Stretches.{IsStretch, broken_of_types}
use Rattle.flow_watch.specs.declared.stretch.PerType.{PerType}
use Rattle.flow_watch.specs.declared.stretch.Stretch.{Stretch}

not-both : (b : Bool) → b ≡ true → b ≡ false → ⊥
not-both b h k = cc

-- no place of a frame or field passes the test
abbrev BothFalse : Bool → Bool → Type 0
BothFalse a b = (a ≡ false) × (b ≡ false)

both-false : (a b : Bool) → a || b ≡ false → BothFalse a b
both-false true b e = absurd (not-both true refl e)
both-false false b e = (refl, e)

any-none : (test : ℕ → Bool) (count : ℕ) → any_of test count ≡ false → (i : ℕ) → i < count → test i ≡ false
any-none test zero e i few = absurd (omega (arith, few))
any-none test (suc count) e i few =
    let both = both-false (any_of test count) (test count) e in
    elim (cases_lt i count) as (λ _. test i ≡ false) [
      | inl low ↦ any-none test count both.0 i low
      | inr high ↦ let last : i ≡ count = omega (arith, few, high) in ap test last ∙ both.1
    ]

none-any : (test : ℕ → Bool) (count : ℕ) → ((i : ℕ) → i < count → test i ≡ false) → any_of test count ≡ false
none-any test zero none = refl
none-any test (suc count) none =
    ap (λ x. x || test count) (none-any test count (λ i few. none i (omega (arith, few)))) ∙ none count (omega arith)

-- no frame or field has a broken packet exactly if no packet is broken
none-broken : (n frames count : ℕ) (broken : ℕ → Bool) → count ≡ n * frames → broken_groups n broken frames ≡ 0
    → (i : ℕ) → i < count → broken i ≡ false
none-broken zero frames count broken whole none i few =
    let empty : 0 * frames ≡ 0 = omega arith in
    absurd (omega (arith, whole, few, empty))
none-broken (suc k) frames count broken whole none i few =
    let n = suc k in
    let split = div-add-mod' i n in
    let turned = mul_comm n frames in
    let place : i % n < n = mod_below i n (omega arith) in
    let low : i / n < frames = elim (cases_lt (i / n) frames) as (λ _. i / n < frames) [
      | inl less ↦ less
      | inr high ↦ let most : frames * n ≤ i / n * n = mul-le-mul_right n high in absurd (omega (arith, most, split, few, whole, turned))
    ] in
    let group = count_of-none (group_breaks n broken) frames none (i / n) low in
    ap broken (sym split) ∙ any-none (λ j. broken (i / n * n + j)) n group (i % n) place

none-breaks : (n frames count : ℕ) (broken : ℕ → Bool) → count ≡ n * frames → ((i : ℕ) → i < count → broken i ≡ false)
    → broken_groups n broken frames ≡ 0
none-breaks n frames count broken whole none =
    none-count_of (group_breaks n broken) frames
    (λ k low.
    let end : suc k * n ≤ frames * n = mul-le-mul_right n low in
    let turned = mul_comm n frames in
    none-any (λ j. broken (k * n + j)) n (λ j few. none (k * n + j) (omega (arith, few, end, suc-mul k n, whole, turned))))

differ : (v : KindVerdict) (proof : FailProof) → v ≡ Fail proof → v ≡ Pass → ⊥
differ v proof h k = cc

-- so if the verdict names the first broken packet
pub zero-pass : (n frames count : ℕ) (broken : ℕ → Bool) (v : KindVerdict) → count ≡ n * frames → NamesFirst broken count v
    → (broken_groups n broken frames ≡ 0) ↔ (v ≡ kind_verdict.Pass)
zero-pass n frames count broken Pass whole names = (λ none. refl, λ pass. none-breaks n frames count broken whole names)
zero-pass n frames count broken (Fail proof) whole names = (
  λ none. absurd (not-both (broken proof.to) names.1 (none-broken n frames count broken whole none proof.to names.0)),
  λ pass. absurd (differ (Fail proof) proof refl pass),
)

-- ---- the three types

-- a type that passes has no broken frame or field, and no other type has none
abbrev pub IsZeroPass : (count : ℕ) → KindVerdict → Type 0
IsZeroPass count v = (count ≡ 0) ↔ (v ≡ kind_verdict.Pass)

pub record AreZeroPass (counts : PerType) (kinds : List KindVerdict) : Type 0 where
  pub narrow : IsZeroPass counts.narrow (slice_index_or kinds 0 kind_verdict.Pass)
  pub narrow_linear : IsZeroPass counts.narrow_linear (slice_index_or kinds 1 kind_verdict.Pass)
  pub wide : IsZeroPass counts.wide (slice_index_or kinds 2 kind_verdict.Pass)

by-kinds : (m : Media) (n frames : ℕ) (stamps : List ℕ) (kinds : List KindVerdict) → length stamps ≡ n * frames → NameFirst m n stamps kinds
    → AreZeroPass (broken_of_types m n stamps frames) kinds
by-kinds m n frames stamps (narrow ∷ narrow_linear ∷ wide ∷ []) whole h = record {
  narrow = zero-pass n frames (length stamps) (is_broken m n stamps N) narrow whole h.0;
  narrow_linear = zero-pass n frames (length stamps) (is_broken m n stamps NL) narrow_linear whole h.1;
  wide = zero-pass n frames (length stamps) (is_broken m n stamps W) wide whole h.2;
}
by-kinds m n frames stamps [] whole h = absurd h
by-kinds m n frames stamps (one ∷ []) whole h = absurd h
by-kinds m n frames stamps (one ∷ two ∷ []) whole h = absurd h
by-kinds m n frames stamps (one ∷ two ∷ three ∷ four ∷ rest) whole h = absurd h

pub all-pass : (m : Media) (shift : Shift) (r : RunOf) (packets : List FlowPacket) (values : Judged) (from : ℕ) (s : Stretch)
    → IsJudgedOf m shift r packets values → IsStretch m r.number r.n (stamps_of shift packets) from values.frames s → AreZeroPass s.broken values.kinds
all-pass m shift r packets values from s judged is =
    let long : length (stamps_of shift packets) ≡ length packets = length-map packets (stamp_of shift) in
    subst (λ (b : PerType). AreZeroPass b values.kinds) (sym is.broken)
    (by-kinds m r.n values.frames (stamps_of shift packets) values.kinds (long ∙ judged.whole) judged.names)
