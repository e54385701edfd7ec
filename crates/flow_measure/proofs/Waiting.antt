-- The meters of the two models, with packets that wait.
use Rattle.std.proofs.Common.{◌≡◌, ◌≤◌, ◌<◌, ◌+◌, ℕ, ℤ, pos, Bool, true, false, ◌&&◌, nat_eq, int_eq, inl, inr, refl, ap, ap₂, ◌∙◌, sym, subst, arith}
use Rattle.std.proofs.Math.Bool.{beq}
use Rattle.std.proofs.lemmas.Bool.{and_parts, cases_eq, eqb-true}
use Rattle.std.proofs.lemmas.Bool.Decides.{Decides-int_eq}
use Rattle.timing_base.specs.declared.media.Kind.{Kind}
use Rattle.timing_base.specs.declared.media.Kind.TheVariants.{N, NL, W}
use Rattle.vrx_buffer.specs.declared.held.Held.{Held}
use Rattle.run_meter.specs.declared.level.Level.{Level}
use Rattle.flow_measure.specs.Fed.{AreLike, CountsLate, Finds, IsLike, MeasuresBuffer, MeasuresKind, MeasuresType, StandsAt, buffer_in, held_in, kind_in}
use Rattle.flow_measure.specs.Kinds.{Packets}
use Rattle.flow_measure.specs.Stands.{Summarizes}
use Rattle.flow_measure.specs.declared.buffer.BufferMeter.{BufferMeter}
use Rattle.flow_measure.specs.declared.kind.KindMeter.{KindMeter}
use Rattle.flow_measure.specs.declared.models.ModelMeters.{ModelMeters}
use Rattle.flow_measure.specs.declared.numbers.Place.{Place}

-- all meters were fed as many packets
pub kind-seen : (kind : Kind) (x : ModelMeters) → (kind_in kind x).bucket.seen ≡ x.bucket.seen
kind-seen N x = x.narrow_is
kind-seen NL x = x.narrow_linear_is
kind-seen W x = x.wide_is

pub buffer-seen : (kind : Kind) (x : ModelMeters) → (buffer_in kind x).occupancy.seen ≡ x.bucket.seen
buffer-seen N x = x.gapped_is
buffer-seen NL x = x.linear_is
buffer-seen W x = x.linear_is

-- the same meters have the same of each type
pub kind-same : (kind : Kind) (b c : ModelMeters) → c.narrow ≡ b.narrow → c.narrow_linear ≡ b.narrow_linear → c.wide ≡ b.wide
    → kind_in kind c ≡ kind_in kind b
kind-same N b c narrow narrow_linear wide = narrow
kind-same NL b c narrow narrow_linear wide = narrow_linear
kind-same W b c narrow narrow_linear wide = wide

pub buffer-same : (kind : Kind) (b c : ModelMeters) → c.gapped ≡ b.gapped → c.linear ≡ b.linear → buffer_in kind c ≡ buffer_in kind b
buffer-same N b c gapped linear = gapped
buffer-same NL b c gapped linear = linear
buffer-same W b c gapped linear = linear

-- what holds of each type's meters holds of them
pub each-kind : (kind : Kind) (x : ModelMeters) (Is : Kind → KindMeter → Type 0) → Is N x.narrow → Is NL x.narrow_linear → Is W x.wide
    → Is kind (kind_in kind x)
each-kind N x Is narrow narrow_linear wide = narrow
each-kind NL x Is narrow narrow_linear wide = narrow_linear
each-kind W x Is narrow narrow_linear wide = wide

pub each-buffer : (kind : Kind) (x : ModelMeters) (Is : BufferMeter → Type 0) → Is x.gapped → Is x.linear → Is (buffer_in kind x)
each-buffer N x Is gapped linear = gapped
each-buffer NL x Is gapped linear = linear
each-buffer W x Is gapped linear = linear

-- before the first packet
pub at-first : (kind : Kind) (n : ℕ) (c_max full : Kind → ℕ) (x : ModelMeters) (p : Packets) → x.waits ≡ 0
    → Summarizes x.bucket p.bucket → MeasuresBuffer x.gapped p → MeasuresBuffer x.linear p
    → MeasuresKind n (c_max N) (full N) x.narrow p → MeasuresKind n (c_max NL) (full NL) x.narrow_linear p → MeasuresKind n (c_max W) (full W) x.wide p
    → MeasuresType kind n (c_max kind) (full kind) x p
at-first kind n c_max full x p none bucket gapped linear narrow narrow_linear wide = record {
  filled = bucket;
  held_is = each-buffer kind x (λ b. MeasuresBuffer b p) gapped linear;
  fed = each-kind kind x (λ k m. MeasuresKind n (c_max k) (full k) m p) narrow narrow_linear wide;
  like = λ i from few. absurd (omega (arith, from, few, none));
  first = λ some. absurd (omega (arith, some, none));
}

-- what `==` says of levels
same-test : (x y : Bool) → beq x y ≡ true → x ≡ y
same-test true true e = refl
same-test true false e = sym e
same-test false true e = e
same-test false false e = refl

same-held : (a b : Held) → int_eq a.occupancy b.occupancy && beq a.late b.late ≡ true → a ≡ b
same-held a b e =
    let parts = and_parts (int_eq a.occupancy b.occupancy) (beq a.late b.late) e in
    let occupancy : a.occupancy ≡ b.occupancy = (Decides-int_eq a.occupancy b.occupancy).0 parts.0 in
    ap₂ (λ (x : ℤ) (y : Bool). record { occupancy = x; late = y }) occupancy (same-test a.late b.late parts.1)

abbrev level_of : ℕ → Held → Held → Level
level_of bucket gapped linear = record { bucket = bucket; gapped = gapped; linear = linear }

pub same-level : (a b : Level)
    → nat_eq a.bucket b.bucket && ((int_eq a.gapped.occupancy b.gapped.occupancy && beq a.gapped.late b.gapped.late)
    && (int_eq a.linear.occupancy b.linear.occupancy && beq a.linear.late b.linear.late)) ≡ true
    → a ≡ b
same-level a b e =
    let gapped_test = int_eq a.gapped.occupancy b.gapped.occupancy && beq a.gapped.late b.gapped.late in
    let linear_test = int_eq a.linear.occupancy b.linear.occupancy && beq a.linear.late b.linear.late in
    let parts = and_parts (nat_eq a.bucket b.bucket) (gapped_test && linear_test) e in
    let rest = and_parts gapped_test linear_test parts.1 in
    let first : a ≡ level_of b.bucket a.gapped a.linear = ap (λ x. level_of x a.gapped a.linear) (eqb-true a.bucket b.bucket parts.0) in
    let second : level_of b.bucket a.gapped a.linear ≡ b = ap₂ (level_of b.bucket) (same-held a.gapped b.gapped rest.0) (same-held a.linear b.linear rest.1) in
    first ∙ second

-- one packet more waits
pub one-more : (c_max full : ℕ) (p : Packets) (seen waits bucket : ℕ) (held : Held)
    → AreLike c_max full p seen (seen + waits) bucket held
    → IsLike c_max full p (seen + waits) bucket held
    → AreLike c_max full p seen (seen + (waits + 1)) bucket held
one-more c_max full p seen waits bucket held before last i from few = elim (cases_eq i (seen + waits)) as (λ _. IsLike c_max full p i bucket held) [
  | inl same ↦ subst (λ k. IsLike c_max full p k bucket held) (sym same) last
  | inr other ↦ before i from (omega (arith, few, other))
]

-- one waits alone
pub one-alone : (c_max full : ℕ) (p : Packets) (seen bucket : ℕ) (held : Held) → IsLike c_max full p seen bucket held
    → AreLike c_max full p seen (seen + 1) bucket held
one-alone c_max full p seen bucket held here i from few =
    let same : seen ≡ i = omega (arith, from, few) in subst (λ k. IsLike c_max full p k bucket held) same here

-- what the meter of a schedule, and that of a type, take in
pub record TakesHeld (old new : BufferMeter) (times : ℕ) (held : Held) : Type 0 where
  pub occupancies : (numbers : ℕ → ℤ) → Summarizes old.occupancy numbers
      → ((j : ℕ) → j < times → numbers (old.occupancy.seen + j) ≡ held.occupancy) → Summarizes new.occupancy numbers
  pub lates : (late : ℕ → Bool) → CountsLate old late → ((j : ℕ) → j < times → late (old.occupancy.seen + j) ≡ held.late) → CountsLate new late

abbrev pub TakesKind : (old new : KindMeter) → (times bucket : ℕ) → Held → Place → Type 0
TakesKind old new times bucket held place = (n c_max full : ℕ) (p : Packets) → MeasuresKind n c_max full old p
    → AreLike c_max full p old.bucket.seen (old.bucket.seen + times) bucket held → StandsAt p old.bucket.seen place → MeasuresKind n c_max full new p

-- those of each type
pub held-taken : (kind : Kind) (b c : ModelMeters) → TakesHeld b.gapped c.gapped b.waits b.level.gapped → TakesHeld b.linear c.linear b.waits b.level.linear
    → TakesHeld (buffer_in kind b) (buffer_in kind c) b.waits (held_in kind b.level)
held-taken N b c gapped linear = gapped
held-taken NL b c gapped linear = linear
held-taken W b c gapped linear = linear

pub kind-taken : (kind : Kind) (b c : ModelMeters)
    → TakesKind b.narrow c.narrow b.waits b.level.bucket b.level.gapped b.place
    → TakesKind b.narrow_linear c.narrow_linear b.waits b.level.bucket b.level.linear b.place
    → TakesKind b.wide c.wide b.waits b.level.bucket b.level.linear b.place
    → TakesKind (kind_in kind b) (kind_in kind c) b.waits b.level.bucket (held_in kind b.level) b.place
kind-taken N b c narrow narrow_linear wide = narrow
kind-taken NL b c narrow narrow_linear wide = narrow_linear
kind-taken W b c narrow narrow_linear wide = wide

-- those that wait are fed
pub settled : (kind : Kind) (n c_max full : ℕ) (b c : ModelMeters) (p : Packets)
    → 0 < b.waits → c.waits ≡ 0
    → ((numbers : ℕ → ℤ) → Summarizes b.bucket numbers → ((j : ℕ) → j < b.waits → numbers (b.bucket.seen + j) ≡ pos b.level.bucket)
    → Summarizes c.bucket numbers)
    → TakesHeld (buffer_in kind b) (buffer_in kind c) b.waits (held_in kind b.level)
    → TakesKind (kind_in kind b) (kind_in kind c) b.waits b.level.bucket (held_in kind b.level) b.place
    → MeasuresType kind n c_max full b p
    → MeasuresType kind n c_max full c p
settled kind n c_max full b c p some none buckets held kinds h =
    let seen = b.bucket.seen in
    let level = held_in kind b.level in
    let like : (j : ℕ) → j < b.waits → IsLike c_max full p (seen + j) b.level.bucket level = λ j few. h.like (seen + j) (omega arith) (omega (arith, few)) in
    let there : (buffer_in kind b).occupancy.seen ≡ seen = buffer-seen kind b in
    let here : seen ≡ (kind_in kind b).bucket.seen = sym (kind-seen kind b) in
    record {
      filled = buckets p.bucket h.filled (λ j few. (like j few).bucket_is);
      held_is = record {
        occupancy = held.occupancies p.occupancy h.held_is.occupancy (λ j few. ap (λ k. p.occupancy (k + j)) there ∙ (like j few).occupancy_is);
        late_are = held.lates p.empty h.held_is.late_are (λ j few. ap (λ k. p.empty (k + j)) there ∙ (like j few).empty_is);
      };
      fed = kinds n c_max full p h.fed (subst (λ k. AreLike c_max full p k (k + b.waits) b.level.bucket level) here h.like)
          (subst (λ k. StandsAt p k b.place) here (h.first some));
      like = λ i from few. absurd (omega (arith, from, few, none));
      first = λ more. absurd (omega (arith, more, none));
    }

-- a meter of a type, at the end of a group
abbrev pub EndsGroup : (n : ℕ) → (old new : KindMeter) → Type 0
EndsGroup n old new = (c_max full : ℕ) (p : Packets) → MeasuresKind n c_max full old p → MeasuresKind n c_max full new p

pub ended : (kind : Kind) (n : ℕ) (b c : ModelMeters) → EndsGroup n b.narrow c.narrow → EndsGroup n b.narrow_linear c.narrow_linear
    → EndsGroup n b.wide c.wide → EndsGroup n (kind_in kind b) (kind_in kind c)
ended N n b c narrow narrow_linear wide = narrow
ended NL n b c narrow narrow_linear wide = narrow_linear
ended W n b c narrow narrow_linear wide = wide
