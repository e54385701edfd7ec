-- A buffer stands for one packet more after it is fed.
use Rattle.std.proofs.Common.{◌≡◌, ◌≤◌, ◌<◌, ◌+◌, ◌-◌, ℕ, Bool, nat_lt, max, false, refl, if◌then◌else◌, Option, Some, None, List, [], ◌∷◌, ◌++◌, length}
use Rattle.std.proofs.Common.{slice_index, sym, ap, subst, inl, inr, ◌∙◌, arith, length-append}
use Rattle.std.proofs.Math.Seq.{get_or-append_seam}
use Rattle.std.proofs.lemmas.List.{get_or_append_left}
use Rattle.std.proofs.lemmas.Bool.{cases_lt, le-ltb, ltb-false}
use Rattle.fraction128.specs.Fractions.{below, whole}
use Rattle.timing_base.specs.Media.{Media}
use Rattle.timing_base.specs.declared.media.Kind.{Kind}
use Rattle.sender_params.specs.Keeps.{due_among, held_at, is_empty}
use Rattle.sender_params.specs.Limits.{gapped_of, vrx_full_of}
use Rattle.sender_params.specs.Reads.{AreDue, anchor_of, read_of}
use Rattle.sender_params.specs.declared.params.Params.{Params}
use Rattle.read_schedule.specs.Stands.{IsDueAt}
use Rattle.read_schedule.specs.declared.schedule.Due.{Due}
use Rattle.read_schedule.proofs.Held.{held_at-is}
use Rattle.vrx_buffer.specs.Faults.{BreaksNowhere, IsFirstFault, fault_at}
use Rattle.vrx_buffer.specs.Stands.{StandsFor}
use Rattle.vrx_buffer.specs.Taking.{IsWithin, Took, earlier, fault_by}
use Rattle.vrx_buffer.proofs.Instants.{first-none}
use Rattle.vrx_buffer.proofs.Lateness.{late-fewer}
use Rattle.vrx_buffer.specs.declared.vrx.Vrx.{Vrx}
use Rattle.vrx_buffer.specs.declared.vrx.VrxFault.{VrxFault}
use Rattle.vrx_buffer.specs.declared.vrx.VrxFault.TheVariants.{Over, Empty}

-- what is held when a packet at `at` comes, of a flow that begins at a0
abbrev held_from : Media → ℕ → Bool → ℕ → ℕ → ℕ → ℕ
held_from m n gapped i a0 at = (i + 1) - due_among m n (anchor_of m a0) gapped (i + 1) (whole at)

-- how that packet breaks the model
abbrev fault_from : Media → ℕ → Kind → ℕ → ℕ → ℕ → Option VrxFault
fault_from m n kind i a0 at =
    if nat_lt (vrx_full_of m n kind) (held_from m n (gapped_of kind) i a0 at) then Some (Over i (held_from m n (gapped_of kind) i a0 at))
    else if below (read_of m n (anchor_of m a0) (gapped_of kind) i) (whole at) then Some (Empty i)
    else None

-- a packet more changes nothing for those before it
pub held_at-append : (m : Media) (n : ℕ) (stamps : List ℕ) (at : ℕ) (gapped : Bool) (k : ℕ)
    → k < length stamps
    → held_at m n (stamps ++ at ∷ []) gapped k ≡ held_at m n stamps gapped k
held_at-append m n stamps at gapped k few =
    let first : slice_index (stamps ++ at ∷ []) 0 ≡ slice_index stamps 0 = get_or_append_left stamps (at ∷ []) 0 0 (omega (arith, few)) in
    let here : slice_index (stamps ++ at ∷ []) k ≡ slice_index stamps k = get_or_append_left stamps (at ∷ []) 0 k few in
    ap (λ a. held_from m n gapped k a (slice_index (stamps ++ at ∷ []) k)) first
    ∙ ap (held_from m n gapped k (slice_index stamps 0)) here

pub fault_at-append : (m : Media) (n : ℕ) (stamps : List ℕ) (at : ℕ) (kind : Kind) (k : ℕ)
    → k < length stamps
    → fault_at m n (stamps ++ at ∷ []) kind k ≡ fault_at m n stamps kind k
fault_at-append m n stamps at kind k few =
    let first : slice_index (stamps ++ at ∷ []) 0 ≡ slice_index stamps 0 = get_or_append_left stamps (at ∷ []) 0 0 (omega (arith, few)) in
    let here : slice_index (stamps ++ at ∷ []) k ≡ slice_index stamps k = get_or_append_left stamps (at ∷ []) 0 k few in
    ap (λ a. fault_from m n kind k a (slice_index (stamps ++ at ∷ []) k)) first
    ∙ ap (fault_from m n kind k (slice_index stamps 0)) here

-- the fault of a packet, by what is held and whether it is late
pub fault_at-is : (m : Media) (n : ℕ) (stamps : List ℕ) (kind : Kind) (i held : ℕ) (late : Bool)
    → held_at m n stamps (gapped_of kind) i ≡ held
    → is_empty m n stamps kind i ≡ late
    → fault_at m n stamps kind i ≡ (if nat_lt (vrx_full_of m n kind) held then Some (Over i held) else if late then Some (Empty i) else None)
fault_at-is m n stamps kind i held late eh el =
    ap (λ h. if nat_lt (vrx_full_of m n kind) h then Some (Over i h) else if is_empty m n stamps kind i then Some (Empty i) else None) eh
    ∙ ap (λ l. if nat_lt (vrx_full_of m n kind) held then Some (Over i held) else if l then Some (Empty i) else None) el

-- the first fault of one packet more
pub first-more : (m : Media) (n : ℕ) (stamps : List ℕ) (at : ℕ) (kind : Kind) (fault here : Option VrxFault)
    → fault_at m n (stamps ++ at ∷ []) kind (length stamps) ≡ here
    → IsFirstFault m n stamps kind fault
    → IsFirstFault m n (stamps ++ at ∷ []) kind (earlier fault here)
first-more m n stamps at kind (Some fault) here e h =
    let long : length (stamps ++ at ∷ []) ≡ length stamps + 1 = length-append stamps (at ∷ []) in
    let begins = h.1 in (
      h.0,
      record {
        within = omega (arith, begins.within, long);
        breaks = fault_at-append m n stamps at kind h.0 begins.within ∙ begins.breaks;
        first = λ j low. fault_at-append m n stamps at kind j (omega (arith, low, begins.within)) ∙ begins.first j low;
      },
    )
first-more m n stamps at kind None None e h =
    let long : length (stamps ++ at ∷ []) ≡ length stamps + 1 = length-append stamps (at ∷ []) in
    λ i few. elim (cases_lt i (length stamps)) as (λ _. fault_at m n (stamps ++ at ∷ []) kind i ≡ None) [
      | inl before ↦ fault_at-append m n stamps at kind i before ∙ h i before
      | inr last ↦
          let same : i ≡ length stamps = omega (arith, last, few, long) in
          ap (fault_at m n (stamps ++ at ∷ []) kind) same ∙ e
    ]
first-more m n stamps at kind None (Some fault) e h =
    let long : length (stamps ++ at ∷ []) ≡ length stamps + 1 = length-append stamps (at ∷ []) in (
      length stamps,
      record {
        within = omega (arith, long);
        breaks = e;
        first = λ j low. fault_at-append m n stamps at kind j low ∙ h j low;
      },
    )

-- what the packet is found to be
pub took-fault : (params : Params) (v w : Vrx) (stamps : List ℕ) (at count : ℕ) (late : Bool) (answer : Option VrxFault)
    → StandsFor params v stamps
    → AreDue params.media params.n (anchor_of params.media (slice_index (stamps ++ at ∷ []) 0)) (gapped_of v.kind) (whole at) count
    → below (read_of params.media params.n (anchor_of params.media (slice_index (stamps ++ at ∷ []) 0)) (gapped_of v.kind) (length stamps)) (whole at) ≡ late
    → Took params v w (length stamps) count late answer
    → answer ≡ fault_at params.media params.n (stamps ++ at ∷ []) v.kind (length stamps)
took-fault params v w stamps at count late answer s are is took =
    let m = params.media in
    let n = params.n in
    let new = stamps ++ at ∷ [] in
    let last : slice_index new (length stamps) ≡ at = get_or-append_seam stamps at [] 0 in
    let i = length stamps in
    let due = subst (λ a. AreDue m n (anchor_of m (slice_index new 0)) (gapped_of v.kind) (whole a) count) (sym last) are in
    let held = held_at-is m n new (gapped_of v.kind) i count due in
    let lateness : is_empty m n new v.kind i ≡ late =
    ap (λ a. below (read_of m n (anchor_of m (slice_index new 0)) (gapped_of v.kind) i) (whole a)) last ∙ is in
    took.answer_is ∙ sym (fault_at-is m n new v.kind i ((i + 1) - count) late held lateness)

-- after the packet the buffer stands for one more
pub took-stands : (params : Params) (v w : Vrx) (stamps : List ℕ) (at count : ℕ) (late : Bool) (answer : Option VrxFault)
    → StandsFor params v stamps
    → AreDue params.media params.n (anchor_of params.media (slice_index (stamps ++ at ∷ []) 0)) (gapped_of v.kind) (whole at) count
    → below (read_of params.media params.n (anchor_of params.media (slice_index (stamps ++ at ∷ []) 0)) (gapped_of v.kind) (length stamps)) (whole at) ≡ late
    → Took params v w (length stamps) count late answer
    → StandsFor params w (stamps ++ at ∷ [])
took-stands params v w stamps at count late answer s are is took =
    let m = params.media in
    let n = params.n in
    let g = gapped_of v.kind in
    let new = stamps ++ at ∷ [] in
    let i = length stamps in
    let long : length new ≡ i + 1 = length-append stamps (at ∷ []) in
    let last : slice_index new i ≡ at = get_or-append_seam stamps at [] 0 in
    let due = subst (λ a. AreDue m n (anchor_of m (slice_index new 0)) g (whole a) count) (sym last) are in
    let held : held_at m n new g i ≡ (i + 1) - count = held_at-is m n new g i count due in
    let before = λ (k : ℕ) (few : k < i). held_at-append m n stamps at g k few in
    let fault = first-more m n stamps at v.kind v.fault answer (sym (took-fault params v w stamps at count late answer s are is took)) s.fault in
    record {
      peak_most = λ k few. subst (λ kind. held_at m n new (gapped_of kind) k ≤ w.peak) (sym took.kind)
          (elim (cases_lt k i) as (λ _. held_at m n new g k ≤ w.peak) [
            | inl early ↦ omega (arith, before k early, s.peak_most k early, took.peak)
            | inr late_on ↦
                let same : k ≡ i = omega (arith, late_on, few, long) in
                omega (arith, ap (held_at m n new g) same, held, took.peak)
          ]);
      peak_reached = λ some. subst (λ kind. (k : ℕ) × (k < length new) × (held_at m n new (gapped_of kind) k ≡ w.peak)) (sym took.kind)
          (elim (cases_lt v.peak ((i + 1) - count)) as (λ _. (k : ℕ) × (k < length new) × (held_at m n new g k ≡ w.peak)) [
            | inl above ↦ (i, omega (arith, long), omega (arith, held, took.peak, above))
            | inr kept ↦
                let old = s.peak_reached (omega (arith, some, took.peak, kept)) in
                (old.0, omega (arith, old.1, long), omega (arith, before old.0 old.1, old.2, took.peak, kept))
          ]);
      fault = subst (IsFirstFault m n new w.kind) (sym took.fault) (subst (λ kind. IsFirstFault m n new kind (earlier v.fault answer)) (sym took.kind) fault);
    }

-- where no packet breaks the model, no more was held than may be
pub nowhere-within : (params : Params) (v : Vrx) (stamps : List ℕ)
    → StandsFor params v stamps
    → BreaksNowhere params.media params.n stamps v.kind
    → v.peak ≤ vrx_full_of params.media params.n v.kind
nowhere-within params v stamps s breaks =
    let m = params.media in
    let n = params.n in
    elim (cases_lt 0 v.peak) as (λ _. v.peak ≤ vrx_full_of m n v.kind) [
      | inr empty ↦ omega (arith, empty)
      | inl some ↦
          let top = s.peak_reached some in
          let fits : held_at m n stamps (gapped_of v.kind) top.0 ≤ vrx_full_of m n v.kind =
          ltb-false (vrx_full_of m n v.kind) (held_at m n stamps (gapped_of v.kind) top.0) (breaks top.0 top.1).0 in
          omega (arith, fits, top.2)
    ]

-- as long as there is no fault, no more was held than may be
pub stands-within : (params : Params) (v : Vrx) (stamps : List ℕ) → StandsFor params v stamps → IsWithin params v
stands-within params v stamps s = record {
  within = λ none. nowhere-within params v stamps s
      (first-none params.media params.n stamps v.kind (subst (IsFirstFault params.media params.n stamps v.kind) none s.fault));
}

-- a packet that raises nothing and comes in time has no fault
quiet-fault : (params : Params) (kind : Kind) (packet held : ℕ) (late : Bool)
    → held ≤ vrx_full_of params.media params.n kind
    → late ≡ false
    → None ≡ fault_by params kind packet held late
quiet-fault params kind packet held late fits in_time =
    sym (ap (λ b. if b then Some (Over packet held) else if late then Some (Empty packet) else None) (le-ltb (vrx_full_of params.media params.n kind) held fits)
    ∙ ap (λ l. if l then Some (Empty packet) else None) in_time)

pub quiet-took : (params : Params) (v w : Vrx) (packet count held : ℕ) (late : Bool)
    → IsWithin params v
    → held ≡ (packet + 1) - count
    → held ≤ v.peak
    → late ≡ false
    → v.fault ≡ None
    → w.kind ≡ v.kind
    → w.peak ≡ v.peak
    → w.fault ≡ v.fault
    → Took params v w packet count late None
quiet-took params v w packet count held late within is low in_time none kind peak fault =
    record {
      kind = kind;
      peak = omega (arith, peak, is, low);
      fault = fault ∙ none ∙ sym (ap (λ o. earlier o None) none);
      answer_is = quiet-fault params v.kind packet ((packet + 1) - count) late (omega (arith, is, low, within.within none)) in_time;
    }

-- after a fault the buffer stands for one packet more, whatever comes
pub after-stands : (params : Params) (v w : Vrx) (stamps : List ℕ) (at count : ℕ) (first : VrxFault)
    → StandsFor params v stamps
    → AreDue params.media params.n (anchor_of params.media (slice_index (stamps ++ at ∷ []) 0)) (gapped_of v.kind) (whole at) count
    → v.fault ≡ Some first
    → w.kind ≡ v.kind
    → w.peak ≡ max v.peak ((length stamps + 1) - count)
    → w.fault ≡ v.fault
    → StandsFor params w (stamps ++ at ∷ [])
after-stands params v w stamps at count first s are some kind peak fault =
    let i = length stamps in
    let late = below (read_of params.media params.n (anchor_of params.media (slice_index (stamps ++ at ∷ []) 0)) (gapped_of v.kind) i) (whole at) in
    let answer = fault_by params v.kind (length stamps) ((length stamps + 1) - count) late in
    took-stands params v w stamps at count late answer s are refl
    record { kind = kind; peak = peak; fault = fault ∙ some ∙ sym (ap (λ o. earlier o answer) some); answer_is = refl }

-- a packet that raises nothing and comes in time has no fault, where none before it breaks the model
pub quiet-at : (params : Params) (v : Vrx) (stamps : List ℕ) (at : ℕ) (due : Due)
    → StandsFor params v stamps
    → IsDueAt params.media params.n (anchor_of params.media (slice_index (stamps ++ at ∷ []) 0)) (gapped_of v.kind) at due
    → BreaksNowhere params.media params.n stamps v.kind
    → due.count ≤ length stamps
    → length stamps - due.count < v.peak
    → fault_at params.media params.n (stamps ++ at ∷ []) v.kind (length stamps) ≡ None
quiet-at params v stamps at due s are nowhere few low =
    let held = (length stamps + 1) - due.count in
    let answer = fault_by params v.kind (length stamps) held false in
    let w : Vrx = record { kind = v.kind; peak = max v.peak held; fault = earlier v.fault answer } in
    let late = late-fewer params.media params.n _ (gapped_of v.kind) at (length stamps) due.count are.count few in
    let fits = nowhere-within params v stamps s nowhere in
    sym (quiet-fault params v.kind (length stamps) held false (omega (arith, few, low, fits)) refl
    ∙ took-fault params v w stamps at due.count false answer s are.count late record { kind = refl; peak = refl; fault = refl; answer_is = refl })

-- the buffer stands for that packet too, whether one before had a fault or not
pub quiet-more : (params : Params) (v : Vrx) (stamps : List ℕ) (at : ℕ) (due : Due) (fault : Option VrxFault)
    → v.fault ≡ fault
    → StandsFor params v stamps
    → IsDueAt params.media params.n (anchor_of params.media (slice_index (stamps ++ at ∷ []) 0)) (gapped_of v.kind) at due
    → due.count ≤ length stamps
    → length stamps - due.count < v.peak
    → StandsFor params v (stamps ++ at ∷ [])
quiet-more params v stamps at due None e s are few low =
    let late = late-fewer params.media params.n _ (gapped_of v.kind) at (length stamps) due.count are.count few in
    took-stands params v v stamps at due.count false None s are.count late
    (quiet-took params v v (length stamps) due.count ((length stamps + 1) - due.count) false (stands-within params v stamps s) refl (omega (arith, few, low))
    refl e refl refl refl)
quiet-more params v stamps at due (Some first) e s are few low =
    after-stands params v v stamps at due.count first s are.count e refl (omega (arith, few, low)) refl

pub quiet-stands : (params : Params) (v : Vrx) (stamps : List ℕ) (at : ℕ) (due : Due)
    → StandsFor params v stamps
    → IsDueAt params.media params.n (anchor_of params.media (slice_index (stamps ++ at ∷ []) 0)) (gapped_of v.kind) at due
    → due.count ≤ length stamps
    → length stamps - due.count < v.peak
    → StandsFor params v (stamps ++ at ∷ [])
quiet-stands params v stamps at due s are few low = quiet-more params v stamps at due v.fault refl s are few low
