-- A packet that is known to be quiet by its stamp.
use Rattle.std.proofs.Common.{◌≡◌, ◌≤◌, ◌<◌, ◌-◌, ℕ, refl, Option, Some, None, List, [], ◌∷◌, ◌++◌, length, slice_index, sym, inl, inr, ◌∙◌, arith}
use Rattle.std.proofs.lemmas.Bool.{cases_lt}
use Rattle.std.proofs.lemmas.Int.{ints}
use Rattle.fraction128.specs.Fractions.{whole}
use Rattle.sender_params.specs.Limits.{gapped_of}
use Rattle.sender_params.specs.Reads.{AreDue, anchor_of}
use Rattle.sender_params.specs.declared.params.Params.{Params}
use Rattle.read_schedule.proofs.Rising.{due-some}
use Rattle.read_schedule.specs.Stands.{is_on_time}
use Rattle.read_schedule.specs.declared.schedule.Due.{Due}
use Rattle.vrx_buffer.specs.Faults.{BreaksNowhere, IsFirstFault, fault_at}
use Rattle.vrx_buffer.specs.Quiet.{IsQuiet}
use Rattle.vrx_buffer.specs.Stands.{StandsFor}
use Rattle.vrx_buffer.specs.declared.vrx.Vrx.{Vrx}
use Rattle.vrx_buffer.specs.declared.vrx.VrxFault.{VrxFault}
use Rattle.vrx_buffer.proofs.Fed.{after-stands, quiet-at, quiet-more}
use Rattle.vrx_buffer.proofs.Instants.{none-first}

-- the reads that are due when the packet comes
abbrev Reads : Params → Vrx → List ℕ → ℕ → ℕ → Type 0
Reads params v stamps at count = AreDue params.media params.n (anchor_of params.media (slice_index (stamps ++ at ∷ []) 0)) (gapped_of v.kind) (whole at) count

reads-some : (params : Params) (v : Vrx) (stamps : List ℕ) (at : ℕ) → (count : ℕ) × Reads params v stamps at count
reads-some params v stamps at = due-some params.media params.n (anchor_of params.media (slice_index (stamps ++ at ∷ []) 0)) (gapped_of v.kind)
    (whole at) params.media_is params.n_some (omega arith)

abbrev due_of : Params → Vrx → List ℕ → ℕ → ℕ → Due
due_of params v stamps at count = record {
  count = count;
  on_time = is_on_time params.media params.n
      (anchor_of params.media (slice_index (stamps ++ at ∷ []) 0)) (gapped_of v.kind) at count;
}

-- they are more than those that make room
reads-more : (params : Params) (v : Vrx) (stamps : List ℕ) (at count : ℕ) → IsQuiet params v stamps at → Reads params v stamps at count
    → length stamps - v.peak < count
reads-more params v stamps at count quiet are =
    elim (cases_lt (length stamps - v.peak) count) as (λ _. length stamps - v.peak < count) [
      | inl more ↦ more
      | inr few ↦ absurd (omega (arith, ints, quiet.due, are.ahead (length stamps - v.peak) few))
    ]

-- and no more than the packets before it
reads-few : (params : Params) (v : Vrx) (stamps : List ℕ) (at count : ℕ) → v.fault ≡ None → IsQuiet params v stamps at → Reads params v stamps at count
    → count ≤ length stamps
reads-few params v stamps at count none quiet are =
    elim (cases_lt (length stamps) count) as (λ _. count ≤ length stamps) [
      | inl more ↦ absurd (omega (arith, ints, quiet.ahead none, are.due (length stamps) more))
      | inr few ↦ few
    ]

quiet-by : (params : Params) (v : Vrx) (stamps : List ℕ) (at : ℕ) (fault : Option VrxFault) → v.fault ≡ fault
    → StandsFor params v stamps
    → IsQuiet params v stamps at
    → StandsFor params v (stamps ++ at ∷ [])
quiet-by params v stamps at None e s quiet =
    let reads = reads-some params v stamps at in
    let more = reads-more params v stamps at reads.0 quiet reads.1 in
    let few = reads-few params v stamps at reads.0 e quiet reads.1 in
    quiet-more params v stamps at (due_of params v stamps at reads.0) None e s (record { count = reads.1; on_time = refl }) few (omega (arith, more, few))
quiet-by params v stamps at (Some first) e s quiet =
    let reads = reads-some params v stamps at in
    let more = reads-more params v stamps at reads.0 quiet reads.1 in
    after-stands params v v stamps at reads.0 first s reads.1 e refl (omega (arith, more)) refl

-- the buffer stands for it too
pub known-stands : (params : Params) (v : Vrx) (stamps : List ℕ) (at : ℕ)
    → StandsFor params v stamps
    → IsQuiet params v stamps at
    → StandsFor params v (stamps ++ at ∷ [])
known-stands params v stamps at s quiet = quiet-by params v stamps at v.fault refl s quiet

-- no fault was seen where no packet breaks the model
no-fault : (params : Params) (v : Vrx) (stamps : List ℕ) (fault : Option VrxFault)
    → IsFirstFault params.media params.n stamps v.kind fault
    → BreaksNowhere params.media params.n stamps v.kind
    → fault ≡ None
no-fault params v stamps None is nowhere = refl
no-fault params v stamps (Some first) is nowhere =
    let none = none-first params.media params.n stamps v.kind nowhere is.0 is.1.within in
    absurd (let e : Some first ≡ None = sym is.1.breaks ∙ none in cc)

pub unseen : (params : Params) (v : Vrx) (stamps : List ℕ) → StandsFor params v stamps → BreaksNowhere params.media params.n stamps v.kind → v.fault ≡ None
unseen params v stamps s nowhere = no-fault params v stamps v.fault s.fault nowhere

-- and the packet has none
pub known-none : (params : Params) (v : Vrx) (stamps : List ℕ) (at : ℕ)
    → StandsFor params v stamps
    → IsQuiet params v stamps at
    → BreaksNowhere params.media params.n stamps v.kind
    → fault_at params.media params.n (stamps ++ at ∷ []) v.kind (length stamps) ≡ None
known-none params v stamps at s quiet nowhere =
    let reads = reads-some params v stamps at in
    let more = reads-more params v stamps at reads.0 quiet reads.1 in
    let few = reads-few params v stamps at reads.0 (unseen params v stamps s nowhere) quiet reads.1 in
    quiet-at params v stamps at (due_of params v stamps at reads.0) s (record { count = reads.1; on_time = refl }) nowhere few (omega (arith, more, few))
