-- A verdict says whether the packets keep the limits, and a fail is confirmed.
use Rattle.std.proofs.Common.{◌≡◌, ◌≤◌, ◌<◌, ℕ, zero, suc, Bool, true, false, List, length, slice_index, Option, Some, None, refl, arith, ap, ◌∙◌, sym, subst}
use Rattle.std.proofs.Common.{inl, inr}
use Rattle.std.specs.Prelude.{if◌then◌else◌, ◌==◌, ◌||◌}
use Rattle.std.proofs.lemmas.Bool.{cases_lt, le-ltb, ltb-false, ltb-true}
use Rattle.std.proofs.lemmas.Bool.Decides.{nat_tests}
use Rattle.std.proofs.lemmas.Int.{ints}
use Rattle.fraction128.specs.Fractions.{AtMost, Below, whole}
use Rattle.timing_base.specs.Media.{IsMedia, Media}
use Rattle.timing_base.specs.declared.fail.FailProof.{FailProof}
use Rattle.timing_base.specs.declared.fail.Broken.{Broken}
use Rattle.timing_base.specs.declared.fail.Broken.TheVariants.{Bucket, Over, Empty}
use Rattle.timing_base.specs.declared.media.Kind.{Kind}
use Rattle.timing_base.specs.declared.row.KindVerdict.{KindVerdict}
use Rattle.timing_base.specs.declared.row.KindVerdict.TheVariants.{Pass, Fail}
use Rattle.sender_params.specs.Keeps.{BreaksLimit, Confirms, Keeps, arrived, arrived_by_read, held_at, is_empty, is_over}
use Rattle.sender_params.specs.Limits.{c_max_of, gapped_of, vrx_full_of}
use Rattle.sender_params.specs.Reads.{anchor_of, read_of}
use Rattle.sender_params.specs.Ticks.{NeverFall, load_of}
use Rattle.drain_bucket.specs.Word.{bucket_of}
use Rattle.drain_bucket.proofs.Prefix.{keeps_bucket, keeps_bucket-counts}
use Rattle.drain_bucket.proofs.Reich.{count_is_load}
use Rattle.vrx_buffer.proofs.Instants.{arrived-is, came-some, keep-empty, keep-over, packets-keep}
use Rattle.run_meter.specs.Runs.{NamesFirst, is_broken}
use Rattle.fail_interval.specs.Fails.{broken_at, is_overfull, kind_verdict, latest_up_to, proof_at, proof_if, verdict_below, verdict_next}
use Rattle.fail_interval.proofs.Verdicts.{arrived-first, broken_by, by_read, none-broken, pass-before}

-- where the verdict is Pass the limits are kept
pub pass-keeps : (m : Media) (n : ℕ) (stamps : List ℕ) (kind : Kind) → IsMedia m → 1 ≤ n → NeverFall stamps → kind_verdict m n stamps kind ≡ Pass
    → Keeps m n stamps kind
pass-keeps m n stamps kind is some falls e =
    let none = λ (i : ℕ) (few : i < length stamps). none-broken m n stamps kind i (pass-before m n stamps kind (length stamps) i e few) in
    record {
      bucket = keeps_bucket m n stamps kind falls (λ i few. ltb-false (c_max_of m n kind) (bucket_of m n stamps i) (none i few).0);
      buffer = packets-keep m n stamps kind is some falls (λ i few. ((none i few).1, (none i few).2));
    }

-- a packet breaks no model where no test says so
tests-none : (full over late : Bool) → full ≡ false → over ≡ false → late ≡ false → broken_by full over late ≡ None
tests-none true over late e f g = cc
tests-none false true late e f g = cc
tests-none false false true e f g = cc
tests-none false false false e f g = refl

pass-all : (m : Media) (n : ℕ) (stamps : List ℕ) (kind : Kind) (count : ℕ) → ((i : ℕ) → i < count → broken_at m n stamps kind i ≡ None)
    → verdict_below m n stamps kind count ≡ Pass
pass-all m n stamps kind zero none = refl
pass-all m n stamps kind (suc i) none =
    ap (λ v. verdict_next v (proof_if m n stamps kind i (broken_at m n stamps kind i))) (pass-all m n stamps kind i (λ j low. none j (omega (arith, low))))
    ∙ ap (λ b. verdict_next Pass (proof_if m n stamps kind i b)) (none i (omega arith))

-- and where the limits are kept the verdict is Pass
pub keeps-pass : (m : Media) (n : ℕ) (stamps : List ℕ) (kind : Kind) → IsMedia m → 1 ≤ n → NeverFall stamps → Keeps m n stamps kind
    → kind_verdict m n stamps kind ≡ Pass
keeps-pass m n stamps kind is some falls keeps =
    pass-all m n stamps kind (length stamps) (λ i few.
    tests-none (is_overfull m n stamps kind i) (is_over m n stamps kind i) (is_empty m n stamps kind i)
    (le-ltb (c_max_of m n kind) (bucket_of m n stamps i) (keeps_bucket-counts m n stamps kind falls keeps.bucket i few))
    (keep-over m n stamps kind i is some falls keeps.buffer few) (keep-empty m n stamps kind i is some falls keeps.buffer few))

-- the first packet that breaks a model
record FirstBroken (m : Media) (n : ℕ) (stamps : List ℕ) (kind : Kind) (count : ℕ) (f : FailProof) : Type 0 where
  index : ℕ
  model : Broken
  within : index < count
  breaks : broken_at m n stamps kind index ≡ Some model
  is : f ≡ proof_at m n stamps kind index model
  before : (j : ℕ) → j < index → broken_at m n stamps kind j ≡ None

first-case : (m : Media) (n : ℕ) (stamps : List ℕ) (kind : Kind) (i : ℕ) (f : FailProof) (before : KindVerdict) (here : Option Broken)
    → verdict_below m n stamps kind i ≡ before → broken_at m n stamps kind i ≡ here
    → verdict_next before (proof_if m n stamps kind i here) ≡ Fail f
    → (before ≡ Fail f → FirstBroken m n stamps kind i f)
    → FirstBroken m n stamps kind (suc i) f
first-case m n stamps kind i f (Fail g) here e b is earlier =
    let old = earlier is in
    record { index = old.index; model = old.model; within = omega (arith, old.within); breaks = old.breaks; is = old.is; before = old.before }
first-case m n stamps kind i f Pass None e b is earlier = cc
first-case m n stamps kind i f Pass (Some model) e b is earlier = record {
  index = i;
  model = model;
  within = omega arith;
  breaks = b;
  is = cc;
  before = λ j low. pass-before m n stamps kind i j e low;
}

first-broken : (m : Media) (n : ℕ) (stamps : List ℕ) (kind : Kind) (count : ℕ) (f : FailProof) → verdict_below m n stamps kind count ≡ Fail f
    → FirstBroken m n stamps kind count f
first-broken m n stamps kind zero f e = cc
first-broken m n stamps kind (suc i) f e =
    first-case m n stamps kind i f (verdict_below m n stamps kind i) (broken_at m n stamps kind i) refl refl e (first-broken m n stamps kind i f)

test_equal : (a b : ℕ) → (a == b) ≡ true → a ≡ b
test_equal a b e = grind (arith, nat_tests)

test_differs : (a b : ℕ) → (a == b) ≡ false → a ≡ b → ⊥
test_differs a b e f = grind (arith, nat_tests)

-- a start of an interval whose load is the count is found
record IsStart (m : Media) (n : ℕ) (stamps : List ℕ) (i start : ℕ) : Type 0 where
  order : start ≤ i
  load : load_of m n stamps start i ≡ bucket_of m n stamps i

found-case : (m : Media) (n : ℕ) (stamps : List ℕ) (i j k : ℕ) (b : Bool) → (load_of m n stamps (suc j) i == bucket_of m n stamps i) ≡ b → suc j ≤ i → k ≤ suc j
    → load_of m n stamps k i ≡ bucket_of m n stamps i
    → (k ≤ j → IsStart m n stamps i (latest_up_to m n stamps i j))
    → IsStart m n stamps i (if b then suc j else latest_up_to m n stamps i j)
found-case m n stamps i j k true e few low load earlier = record { order = few; load = test_equal (load_of m n stamps (suc j) i) (bucket_of m n stamps i) e }
found-case m n stamps i j k false e few low load earlier =
    elim (cases_lt k (suc j)) as (λ _. IsStart m n stamps i (latest_up_to m n stamps i j)) [
      | inl before ↦ earlier (omega (arith, before))
      | inr here ↦
          let same : k ≡ suc j = omega (arith, here, low) in
          absurd (test_differs (load_of m n stamps (suc j) i) (bucket_of m n stamps i) e (ap (λ x. load_of m n stamps x i) (sym same) ∙ load))
    ]

latest-found : (m : Media) (n : ℕ) (stamps : List ℕ) (i j k : ℕ) → j ≤ i → k ≤ j → load_of m n stamps k i ≡ bucket_of m n stamps i
    → IsStart m n stamps i (latest_up_to m n stamps i j)
latest-found m n stamps i zero k few low load =
    let none : k ≡ 0 = omega (arith, low) in
    record { order = few; load = ap (λ x. load_of m n stamps x i) (sym none) ∙ load }
latest-found m n stamps i (suc j) k few low load =
    found-case m n stamps i j k (load_of m n stamps (suc j) i == bucket_of m n stamps i) refl few low load
    (λ before. latest-found m n stamps i j k (omega (arith, few)) before load)

model-full : (full over late : Bool) → broken_by full over late ≡ Some Bucket → full ≡ true
model-full true over late e = refl
model-full false true late e = cc
model-full false false true e = cc
model-full false false false e = cc

model-over : (full over late : Bool) → broken_by full over late ≡ Some Over → over ≡ true
model-over true over late e = cc
model-over false true late e = refl
model-over false false true e = cc
model-over false false false e = cc

model-late : (full over late : Bool) → broken_by full over late ≡ Some Empty → late ≡ true
model-late true over late e = cc
model-late false true late e = cc
model-late false false true e = refl
model-late false false false e = cc

-- the interval at the first packet that breaks a model is confirmed
confirms-at : (m : Media) (n : ℕ) (stamps : List ℕ) (kind : Kind) (i : ℕ) (model : Broken) → IsMedia m → 1 ≤ n → NeverFall stamps → i < length stamps
    → broken_at m n stamps kind i ≡ Some model
    → ((j : ℕ) → j < i → broken_at m n stamps kind j ≡ None)
    → Confirms m n stamps kind (proof_at m n stamps kind i model)
confirms-at m n stamps kind i Bucket is some falls few e before =
    let reached = (count_is_load m n stamps i falls few).reached in
    let start = latest-found m n stamps i i reached.0 (omega arith) reached.1 reached.2 in
    let over = ltb-true (c_max_of m n kind) (bucket_of m n stamps i) (model-full _ (is_over m n stamps kind i) (is_empty m n stamps kind i) e) in
    record { ordered = start.order; judged = few; breaks = (refl, sym start.load, over) }
confirms-at m n stamps kind i Over is some falls few e before =
    let over = ltb-true (vrx_full_of m n kind) (held_at m n stamps (gapped_of kind) i)
    (model-over (is_overfull m n stamps kind i) _ (is_empty m n stamps kind i) e) in
    record { ordered = omega arith; judged = few; breaks = (refl, refl, refl, over) }
confirms-at m n stamps kind i Empty is some falls few e before =
    let late = model-late (is_overfull m n stamps kind i) (is_over m n stamps kind i) (is_empty m n stamps kind i) e in
    let count = arrived-first m n stamps kind i is some falls few (λ j low. (none-broken m n stamps kind j (before j low)).2) late in
    record { ordered = omega arith; judged = few; breaks = (refl, refl, refl, omega (arith, count)) }

-- so is the interval of a fail
pub fail-confirms : (m : Media) (n : ℕ) (stamps : List ℕ) (kind : Kind) (f : FailProof) → IsMedia m → 1 ≤ n → NeverFall stamps
    → kind_verdict m n stamps kind ≡ Fail f → Confirms m n stamps kind f
fail-confirms m n stamps kind f is some falls e =
    let first = first-broken m n stamps kind (length stamps) f e in
    subst (Confirms m n stamps kind) (sym first.is)
    (confirms-at m n stamps kind first.index first.model is some falls first.within first.breaks first.before)

-- packet i breaks a model where a test says so
some-broken : (full over late : Bool) (model : Broken) → broken_by full over late ≡ Some model → ((full || over) || late) ≡ true
some-broken true over late model e = refl
some-broken false true late model e = refl
some-broken false false true model e = refl
some-broken false false false model e = cc

no-test : (full over late : Bool) → full ≡ false → over ≡ false → late ≡ false → ((full || over) || late) ≡ false
no-test true over late e f g = cc
no-test false true late e f g = cc
no-test false false true e f g = cc
no-test false false false e f g = refl

not-broken : (m : Media) (n : ℕ) (stamps : List ℕ) (kind : Kind) (i : ℕ) → broken_at m n stamps kind i ≡ None → is_broken m n stamps kind i ≡ false
not-broken m n stamps kind i e =
    let none = none-broken m n stamps kind i e in
    no-test (is_overfull m n stamps kind i) (is_over m n stamps kind i) (is_empty m n stamps kind i) none.0 none.1 none.2

proof-at : (m : Media) (n : ℕ) (stamps : List ℕ) (kind : Kind) (i : ℕ) (model : Broken) → (proof_at m n stamps kind i model).to ≡ i
proof-at m n stamps kind i Bucket = refl
proof-at m n stamps kind i Over = refl
proof-at m n stamps kind i Empty = refl

names-case : (m : Media) (n : ℕ) (stamps : List ℕ) (kind : Kind) (told : KindVerdict) → kind_verdict m n stamps kind ≡ told
    → NamesFirst (is_broken m n stamps kind) (length stamps) told
names-case m n stamps kind Pass e = λ i few. not-broken m n stamps kind i (pass-before m n stamps kind (length stamps) i e few)
names-case m n stamps kind (Fail f) e =
    let first = first-broken m n stamps kind (length stamps) f e in
    let there : f.to ≡ first.index = ap (λ (g : FailProof). g.to) first.is ∙ proof-at m n stamps kind first.index first.model in
    let breaks : is_broken m n stamps kind first.index ≡ true =
    some-broken (is_overfull m n stamps kind first.index) (is_over m n stamps kind first.index) (is_empty m n stamps kind first.index) first.model
    first.breaks in (
      omega (arith, there, first.within),
      ap (is_broken m n stamps kind) there ∙ breaks,
      λ i low. not-broken m n stamps kind i (first.before i (omega (arith, there, low))),
    )

-- a verdict names the first packet that breaks a model
pub names-first : (m : Media) (n : ℕ) (stamps : List ℕ) (kind : Kind)
    → NamesFirst (is_broken m n stamps kind) (length stamps) (kind_verdict m n stamps kind)
names-first m n stamps kind = names-case m n stamps kind (kind_verdict m n stamps kind) refl

-- the packets up to one that came by its read came by it
arrived-most : (m : Media) (n : ℕ) (stamps : List ℕ) (kind : Kind) (i : ℕ) → NeverFall stamps → i < length stamps → is_empty m n stamps kind i ≡ false
    → i < arrived_by_read m n stamps kind i
arrived-most m n stamps kind i falls few e =
    let read = read_of m n (anchor_of m (slice_index stamps 0)) (gapped_of kind) i in
    let came = came-some stamps read falls in
    let count : arrived stamps read ≡ came.0 = arrived-is stamps read came.0 came.1 in
    let by : AtMost (whole (slice_index stamps i)) read = by_read m n stamps kind i e in
    elim (cases_lt i came.0) as (λ _. i < arrived_by_read m n stamps kind i) [
      | inl within ↦ omega (arith, within, count)
      | inr after ↦
          let late : Below read (whole (slice_index stamps i)) = came.1.ahead i after few in
          absurd (omega (arith, ints, by, late))
    ]

refutes-by : (m : Media) (n : ℕ) (stamps : List ℕ) (kind : Kind) (f : FailProof) (model : Broken) → IsMedia m → 1 ≤ n → NeverFall stamps → f.from ≤ f.to
    → f.to < length stamps
    → BreaksLimit m n stamps kind f model
    → Keeps m n stamps kind → ⊥
refutes-by m n stamps kind f Bucket is some falls order few b keeps = omega (arith, b.0, b.1, b.2, keeps.bucket f.from f.to order few)
refutes-by m n stamps kind f Over is some falls order few b keeps =
    let most = ltb-false (vrx_full_of m n kind) (held_at m n stamps (gapped_of kind) f.to) (keep-over m n stamps kind f.to is some falls keeps.buffer few) in
    omega (arith, b.0, b.2, b.3, most)
refutes-by m n stamps kind f Empty is some falls order few b keeps =
    omega (arith, b.0, b.2, b.3, arrived-most m n stamps kind f.to falls few (keep-empty m n stamps kind f.to is some falls keeps.buffer few))

-- and whatever is confirmed, the limits aren't kept
pub confirmed-refutes : (m : Media) (n : ℕ) (stamps : List ℕ) (kind : Kind) (f : FailProof) → IsMedia m → 1 ≤ n → NeverFall stamps → Confirms m n stamps kind f
    → Keeps m n stamps kind → ⊥
confirmed-refutes m n stamps kind f is some falls c keeps = refutes-by m n stamps kind f f.model is some falls c.ordered c.judged c.breaks keeps
