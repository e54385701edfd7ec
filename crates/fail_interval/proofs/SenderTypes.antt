-- A sender type is fed one packet.
use Rattle.std.proofs.Common.{◌≡◌, ◌≤◌, ◌<◌, ◌+◌, ◌-◌, ℕ, Bool, true, false, nat_lt, List, [], ◌∷◌, ◌++◌, length, length-append, slice_index}
use Rattle.std.proofs.Common.{Option, Some, None, refl, arith, ap, ◌∙◌, subst, sym}
use Rattle.std.specs.Prelude.{if◌then◌else◌, is_some}
use Rattle.std.proofs.lemmas.Bool.Decides.{nat_tests}
use Rattle.fraction128.specs.Fractions.{whole}
use Rattle.timing_base.specs.Media.{Media}
use Rattle.timing_base.specs.declared.fail.FailProof.{FailProof}
use Rattle.timing_base.specs.declared.fail.Broken.{Broken}
use Rattle.timing_base.specs.declared.fail.Broken.TheVariants as broken
use Rattle.timing_base.specs.declared.media.Kind.{Kind}
use Rattle.timing_base.specs.declared.row.KindVerdict.{KindVerdict}
use Rattle.timing_base.specs.declared.row.KindVerdict.TheVariants.{Pass, Fail}
use Rattle.sender_params.specs.Keeps.{held_at, is_empty, is_over}
use Rattle.sender_params.specs.Limits.{c_max_of, gapped_of, vrx_full_of}
use Rattle.sender_params.specs.Reads.{anchor_of}
use Rattle.sender_params.specs.declared.params.Params.{Params}
use Rattle.drain_bucket.specs.Stands.{IsAfter}
use Rattle.drain_bucket.specs.Word.{bucket_of}
use Rattle.drain_bucket.specs.declared.bucket.Bucket.{Bucket}
use Rattle.read_schedule.specs.Stands.{IsDueAt, is_on_time}
use Rattle.read_schedule.specs.declared.schedule.Due.{Due}
use Rattle.read_schedule.proofs.Rising.{due-some}
use Rattle.vrx_buffer.specs.Faults.{BreaksNowhere, fault_at}
use Rattle.vrx_buffer.specs.Stands.{StandsFor as VrxStandsFor}
use Rattle.vrx_buffer.specs.declared.vrx.Vrx.{Vrx}
use Rattle.vrx_buffer.specs.declared.vrx.VrxFault.{VrxFault}
use Rattle.vrx_buffer.specs.declared.vrx.VrxFault.TheVariants.{Over, Empty}
use Rattle.vrx_buffer.proofs.Quiet.{known-none, known-stands}
use Rattle.fail_interval.specs.Early.{early_at, early_by}
use Rattle.fail_interval.specs.Fails.{is_overfull, kind_verdict, latest_start, verdict_next}
use Rattle.fail_interval.specs.Kinds.{ComesNext, PassesBy, StandsFor}
use Rattle.fail_interval.specs.declared.kind.KindMeter.{KindMeter}
use Rattle.fail_interval.proofs.Prefixes.{latest-is, verdict-more}
use Rattle.fail_interval.proofs.Verdicts.{broken_by, none-broken, pass-before}

-- an interval by its parts
abbrev proof_by : Broken → ℕ → ℕ → ℕ → ℕ → FailProof
proof_by model from to count limit = record { model = model; from = from; to = to; count = count; limit = limit }

proof-same : (model : Broken) (from also to : ℕ) (count more limit most : ℕ) → from ≡ also → count ≡ more → limit ≡ most
    → Some (proof_by model from to count limit) ≡ Some (proof_by model also to more most)
proof-same model from also to count more limit most e f g = cc

over_test : (limit count : ℕ) → limit < count → nat_lt limit count ≡ true
over_test limit count h = grind (arith, nat_tests)

within_test : (limit count : ℕ) → count ≤ limit → nat_lt limit count ≡ false
within_test limit count h = grind (arith, nat_tests)

-- the packet breaks the bucket's model
pub full-is : (params : Params) (bucket : Bucket) (stamps : List ℕ) (kind : Kind) (i limit : ℕ) → IsAfter params bucket stamps i
    → limit ≡ c_max_of params.media params.n kind → limit < bucket.count
    → Some (proof_by broken.Bucket bucket.begin i bucket.count limit) ≡ early_at params.media params.n stamps kind i
full-is params bucket stamps kind i limit after e over =
    let m = params.media in
    let n = params.n in
    let test : is_overfull m n stamps kind i ≡ true = over_test (c_max_of m n kind) (bucket_of m n stamps i) (omega (arith, e, over, after.count)) in
    let latest : latest_start m n stamps i ≡ bucket.begin =
    latest-is m n stamps i bucket.begin after.begins (after.begin_load ∙ after.count) (λ k low load. after.latest k low (load ∙ sym after.count)) in
    proof-same broken.Bucket bucket.begin (latest_start m n stamps i) i bucket.count (bucket_of m n stamps i) limit (c_max_of m n kind)
    (sym latest) after.count e
    ∙ sym (ap (λ b. early_by m n stamps kind i (broken_by b (is_over m n stamps kind i) (is_empty m n stamps kind i))) test)

not_full : (params : Params) (bucket : Bucket) (stamps : List ℕ) (kind : Kind) (i limit : ℕ) → IsAfter params bucket stamps i
    → limit ≡ c_max_of params.media params.n kind → bucket.count ≤ limit
    → is_overfull params.media params.n stamps kind i ≡ false
not_full params bucket stamps kind i limit after e within =
    within_test (c_max_of params.media params.n kind) (bucket_of params.media params.n stamps i) (omega (arith, e, within, after.count))

-- how a packet breaks the buffer's model, by the tests
abbrev fault_by : ℕ → ℕ → Bool → Bool → Option VrxFault
fault_by i held over late = if over then Some (Over i held) else if late then Some (Empty i) else None

over-case : (i held packet more : ℕ) (over late : Bool) → Some (Over packet more) ≡ fault_by i held over late
    → (broken_by false over late ≡ Some broken.Over) × (more ≡ held)
over-case i held packet more true late e = (refl, cc)
over-case i held packet more false true e = cc
over-case i held packet more false false e = cc

empty-case : (i held packet : ℕ) (over late : Bool) → Some (Empty packet) ≡ fault_by i held over late → broken_by false over late ≡ Some broken.Empty
empty-case i held packet true late e = cc
empty-case i held packet false true e = refl
empty-case i held packet false false e = cc

none-case : (i held : ℕ) (over late : Bool) → None ≡ fault_by i held over late → broken_by false over late ≡ None
none-case i held true late e = cc
none-case i held false true e = cc
none-case i held false false e = refl

-- the packet breaks the buffer's model alone
pub over-is : (params : Params) (bucket : Bucket) (stamps : List ℕ) (kind : Kind) (i limit packet held full : ℕ) → IsAfter params bucket stamps i
    → limit ≡ c_max_of params.media params.n kind → bucket.count ≤ limit
    → Some (Over packet held) ≡ fault_at params.media params.n stamps kind i → full ≡ vrx_full_of params.media params.n kind
    → Some (proof_by broken.Over 0 i held full) ≡ early_at params.media params.n stamps kind i
over-is params bucket stamps kind i limit packet held full after e within fault f =
    let m = params.media in
    let n = params.n in
    let told = over-case i (held_at m n stamps (gapped_of kind) i) packet held (is_over m n stamps kind i) (is_empty m n stamps kind i) fault in
    proof-same broken.Over 0 0 i held (held_at m n stamps (gapped_of kind) i) full (vrx_full_of m n kind) refl told.1 f
    ∙ sym (ap (λ b. early_by m n stamps kind i (broken_by b (is_over m n stamps kind i) (is_empty m n stamps kind i)))
    (not_full params bucket stamps kind i limit after e within)
    ∙ ap (early_by m n stamps kind i) told.0)

pub empty-is : (params : Params) (bucket : Bucket) (stamps : List ℕ) (kind : Kind) (i limit packet : ℕ) → IsAfter params bucket stamps i
    → limit ≡ c_max_of params.media params.n kind → bucket.count ≤ limit
    → Some (Empty packet) ≡ fault_at params.media params.n stamps kind i
    → Some (proof_by broken.Empty i i i (i + 1)) ≡ early_at params.media params.n stamps kind i
empty-is params bucket stamps kind i limit packet after e within fault =
    let m = params.media in
    let n = params.n in
    let told = empty-case i (held_at m n stamps (gapped_of kind) i) packet (is_over m n stamps kind i) (is_empty m n stamps kind i) fault in
    sym (ap (λ b. early_by m n stamps kind i (broken_by b (is_over m n stamps kind i) (is_empty m n stamps kind i)))
    (not_full params bucket stamps kind i limit after e within)
    ∙ ap (early_by m n stamps kind i) told)

-- the packet breaks no model
pub none-is : (params : Params) (bucket : Bucket) (stamps : List ℕ) (kind : Kind) (i limit : ℕ) → IsAfter params bucket stamps i
    → limit ≡ c_max_of params.media params.n kind → bucket.count ≤ limit
    → None ≡ fault_at params.media params.n stamps kind i
    → None ≡ early_at params.media params.n stamps kind i
none-is params bucket stamps kind i limit after e within fault =
    let m = params.media in
    let n = params.n in
    let told = none-case i (held_at m n stamps (gapped_of kind) i) (is_over m n stamps kind i) (is_empty m n stamps kind i) fault in
    sym (ap (λ b. early_by m n stamps kind i (broken_by b (is_over m n stamps kind i) (is_empty m n stamps kind i)))
    (not_full params bucket stamps kind i limit after e within)
    ∙ ap (early_by m n stamps kind i) told)

-- what is found of the packet, by its number
pub found : (params : Params) (bucket : Bucket) (due : Due) (kind : Kind) (stamps : List ℕ) (at seen : ℕ) (fault : Option VrxFault) (here : Option FailProof)
    → seen ≡ length stamps
    → ComesNext params bucket due kind stamps at
    → fault ≡ fault_at params.media params.n (stamps ++ at ∷ []) kind (length stamps)
    → ((all : List ℕ) → IsAfter params bucket all seen → fault ≡ fault_at params.media params.n all kind seen
    → here ≡ early_at params.media params.n all kind seen)
    → here ≡ early_at params.media params.n (stamps ++ at ∷ []) kind (length stamps)
found params bucket due kind stamps at seen fault here e next is says =
    let all = stamps ++ at ∷ [] in
    let long : length all ≡ seen + 1 = omega (arith, length-append stamps (at ∷ []), e) in
    says all (next.bucket_is.fed seen long) (is ∙ ap (fault_at params.media params.n all kind) (sym e)) ∙ ap (early_at params.media params.n all kind) e

-- the verdict where the last packet is the first that breaks a model
pub found-verdict : (params : Params) (bucket : Bucket) (due : Due) (kind : Kind) (stamps : List ℕ) (at seen : ℕ) (fault : Option VrxFault)
    (before here : KindVerdict)
    → before ≡ Pass
    → seen ≡ length stamps
    → ComesNext params bucket due kind stamps at
    → fault ≡ fault_at params.media params.n (stamps ++ at ∷ []) kind (length stamps)
    → ((all : List ℕ) → IsAfter params bucket all seen → fault ≡ fault_at params.media params.n all kind seen
    → here ≡ verdict_next Pass (early_at params.media params.n all kind seen))
    → here ≡ verdict_next before (early_at params.media params.n (stamps ++ at ∷ []) kind (length stamps))
found-verdict params bucket due kind stamps at seen fault before here pass e next is says =
    let all = stamps ++ at ∷ [] in
    let long : length all ≡ seen + 1 = omega (arith, length-append stamps (at ∷ []), e) in
    says all (next.bucket_is.fed seen long) (is ∙ ap (fault_at params.media params.n all kind) (sym e))
    ∙ (ap (λ i. verdict_next Pass (early_at params.media params.n all kind i)) e
    ∙ ap (λ v. verdict_next v (early_at params.media params.n all kind (length stamps))) (sym pass))

no-fault : (fault : Option VrxFault) → is_some fault ≡ false → None ≡ fault
no-fault None e = refl
no-fault (Some f) e = cc

-- nothing is found
pub next-none : (before : KindVerdict) (found_here here : Option FailProof) → before ≡ Pass → found_here ≡ None → found_here ≡ here
    → before ≡ verdict_next before here
next-none before found_here here e f g = e ∙ (ap (verdict_next Pass) (sym f ∙ g) ∙ ap (λ v. verdict_next v here) (sym e))

-- a packet that breaks no model leaves the verdict
pub unbroken-verdict : (params : Params) (bucket : Bucket) (due : Due) (kind : Kind) (stamps : List ℕ) (at limit : ℕ) (fault : Option VrxFault)
    (before : KindVerdict)
    → before ≡ Pass
    → ComesNext params bucket due kind stamps at
    → fault ≡ fault_at params.media params.n (stamps ++ at ∷ []) kind (length stamps)
    → limit ≡ c_max_of params.media params.n kind → bucket.count ≤ limit
    → is_some fault ≡ false
    → before ≡ verdict_next before (early_at params.media params.n (stamps ++ at ∷ []) kind (length stamps))
unbroken-verdict params bucket due kind stamps at limit fault before pass next is e within none =
    let all = stamps ++ at ∷ [] in
    let after = next.bucket_is.fed (length stamps) (length-append stamps (at ∷ [])) in
    next-none before None (early_at params.media params.n all kind (length stamps)) pass refl
    (none-is params bucket all kind (length stamps) limit after e within (no-fault fault none ∙ is))

-- the verdict after it
pub next-some : (before : KindVerdict) (proof : FailProof) (found_here here : Option FailProof) → before ≡ Pass → found_here ≡ Some proof → found_here ≡ here
    → Fail proof ≡ verdict_next before here
next-some before proof found_here here e f g = ap (verdict_next Pass) (sym f ∙ g) ∙ ap (λ v. verdict_next v here) (sym e)

pub next-kept : (before : KindVerdict) (here : Option FailProof) → (before ≡ Pass → ⊥) → before ≡ verdict_next before here
next-kept Pass here not_pass = absurd (not_pass refl)
next-kept (Fail proof) here not_pass = refl

-- a meter by its parts
abbrev meter_by : Vrx → KindVerdict → ℕ → KindMeter
meter_by vrx verdict c_max = record { vrx = vrx; verdict = verdict; c_max = c_max }

-- the meter stands for one packet more
pub kind-more : (params : Params) (meter : KindMeter) (vrx : Vrx) (verdict : KindVerdict) (bucket : Bucket) (due : Due) (stamps : List ℕ) (at : ℕ)
    → StandsFor params meter stamps
    → ComesNext params bucket due meter.vrx.kind stamps at
    → vrx.kind ≡ meter.vrx.kind
    → VrxStandsFor params vrx (stamps ++ at ∷ [])
    → verdict ≡ verdict_next meter.verdict (early_at params.media params.n (stamps ++ at ∷ []) meter.vrx.kind (length stamps))
    → StandsFor params (meter_by vrx verdict meter.c_max) (stamps ++ at ∷ [])
kind-more params meter vrx verdict bucket due stamps at s next kind stands is = record {
  vrx = stands;
  verdict =
      is
      ∙ (ap (λ v. verdict_next v (early_at params.media params.n (stamps ++ at ∷ []) meter.vrx.kind (length stamps))) s.verdict
      ∙ (sym (verdict-more params.media params.n stamps at meter.vrx.kind params.media_is params.n_some next.ordered)
      ∙ ap (kind_verdict params.media params.n (stamps ++ at ∷ [])) (sym kind)));
  c_max = s.c_max ∙ ap (c_max_of params.media params.n) (sym kind);
}

-- as long as the verdict is Pass, no packet breaks the buffer's model
pub pass-nowhere : (params : Params) (meter : KindMeter) (stamps : List ℕ) → StandsFor params meter stamps → meter.verdict ≡ Pass
    → BreaksNowhere params.media params.n stamps meter.vrx.kind
pass-nowhere params meter stamps s pass i few =
    let m = params.media in
    let n = params.n in
    let kind = meter.vrx.kind in
    let none = none-broken m n stamps kind i (pass-before m n stamps kind (length stamps) i (sym s.verdict ∙ pass) few) in
    (none.1, none.2)

-- a packet with no fault leaves the verdict, where the bucket is within its limit
pub quiet-verdict : (params : Params) (bucket : Bucket) (due : Due) (kind : Kind) (stamps : List ℕ) (at limit : ℕ) (before : KindVerdict)
    → ComesNext params bucket due kind stamps at
    → limit ≡ c_max_of params.media params.n kind
    → bucket.count ≤ limit
    → (before ≡ Pass → fault_at params.media params.n (stamps ++ at ∷ []) kind (length stamps) ≡ None)
    → before ≡ verdict_next before (early_at params.media params.n (stamps ++ at ∷ []) kind (length stamps))
quiet-verdict params bucket due kind stamps at limit Pass next e within none =
    unbroken-verdict params bucket due kind stamps at limit None Pass refl next (sym (none refl)) e within refl
quiet-verdict params bucket due kind stamps at limit (Fail proof) next e within none = refl

-- what the bucket decides of packet `seen`, where it has no fault in the buffer
abbrev pub Fills : Params → Bucket → Kind → ℕ → (before here : KindVerdict) → Type 0
Fills params bucket kind seen before here =
    (all : List ℕ) → IsAfter params bucket all seen → (before ≡ Pass → None ≡ fault_at params.media params.n all kind seen)
    → here ≡ verdict_next before (early_at params.media params.n all kind seen)

pub filled-verdict : (params : Params) (bucket : Bucket) (due : Due) (kind : Kind) (stamps : List ℕ) (at seen : ℕ) (before here : KindVerdict)
    → seen ≡ length stamps
    → ComesNext params bucket due kind stamps at
    → (before ≡ Pass → fault_at params.media params.n (stamps ++ at ∷ []) kind (length stamps) ≡ None)
    → Fills params bucket kind seen before here
    → here ≡ verdict_next before (early_at params.media params.n (stamps ++ at ∷ []) kind (length stamps))
filled-verdict params bucket due kind stamps at seen before here e next none says =
    let all = stamps ++ at ∷ [] in
    let long : length all ≡ seen + 1 = omega (arith, length-append stamps (at ∷ []), e) in
    says all (next.bucket_is.fed seen long) (λ pass. sym (none pass) ∙ ap (fault_at params.media params.n all kind) (sym e))
    ∙ ap (λ i. verdict_next before (early_at params.media params.n all kind i)) e

-- after a verdict of Pass
pub next-pass : (before found_here : KindVerdict) (here : Option FailProof) → before ≡ Pass → found_here ≡ verdict_next Pass here
    → found_here ≡ verdict_next before here
next-pass before found_here here e is = is ∙ ap (λ v. verdict_next v here) (sym e)

-- the meter stands for one packet more, where its parts are known by equations
pub filled-more : (params : Params) (meter new : KindMeter) (vrx : Vrx) (bucket : Bucket) (due : Due) (stamps : List ℕ) (at : ℕ)
    → StandsFor params meter stamps
    → ComesNext params bucket due meter.vrx.kind stamps at
    → vrx.kind ≡ meter.vrx.kind
    → VrxStandsFor params vrx (stamps ++ at ∷ [])
    → new.vrx ≡ vrx
    → new.c_max ≡ meter.c_max
    → new.verdict ≡ verdict_next meter.verdict (early_at params.media params.n (stamps ++ at ∷ []) meter.vrx.kind (length stamps))
    → StandsFor params new (stamps ++ at ∷ [])
filled-more params meter new vrx bucket due stamps at s next kind stands same_vrx same_max is =
    let all = stamps ++ at ∷ [] in
    let stood = kind-more params meter vrx new.verdict bucket due stamps at s next kind stands is in
    subst (λ c. StandsFor params (meter_by new.vrx new.verdict c) all) (sym same_max)
    (subst (λ v. StandsFor params (meter_by v new.verdict meter.c_max) all) (sym same_vrx) stood)

-- what is due at an instant
due-some-at : (params : Params) (kind : Kind) (stamps : List ℕ) (at : ℕ)
    → (due : Due) × IsDueAt params.media params.n (anchor_of params.media (slice_index (stamps ++ at ∷ []) 0)) (gapped_of kind) at due
due-some-at params kind stamps at =
    let anchor = anchor_of params.media (slice_index (stamps ++ at ∷ []) 0) in
    let reads = due-some params.media params.n anchor (gapped_of kind) (whole at) params.media_is params.n_some (omega arith) in
    (record { count = reads.0; on_time = is_on_time params.media params.n anchor (gapped_of kind) at reads.0 }, record { count = reads.1; on_time = refl })

-- a packet that has no fault leaves the verdict, where the bucket is within its limit as long as that is Pass
passed-verdict : (params : Params) (bucket : Bucket) (due : Due) (kind : Kind) (stamps : List ℕ) (at limit : ℕ) (before : KindVerdict)
    → ComesNext params bucket due kind stamps at
    → limit ≡ c_max_of params.media params.n kind
    → (before ≡ Pass → bucket.count ≤ limit)
    → (before ≡ Pass → fault_at params.media params.n (stamps ++ at ∷ []) kind (length stamps) ≡ None)
    → before ≡ verdict_next before (early_at params.media params.n (stamps ++ at ∷ []) kind (length stamps))
passed-verdict params bucket due kind stamps at limit Pass next e within none =
    quiet-verdict params bucket due kind stamps at limit Pass next e (within refl) none
passed-verdict params bucket due kind stamps at limit (Fail proof) next e within none = refl

-- a packet that passes by changes nothing of the meter
pub passes-by : (params : Params) (meter : KindMeter) (bucket : Bucket) (stamps : List ℕ) (at : ℕ)
    → StandsFor params meter stamps
    → PassesBy params bucket meter stamps at
    → StandsFor params meter (stamps ++ at ∷ [])
passes-by params meter bucket stamps at s passes =
    let due = due-some-at params meter.vrx.kind stamps at in
    let next : ComesNext params bucket due.0 meter.vrx.kind stamps at = record { ordered = passes.ordered; bucket_is = passes.bucket_is; due_is = due.1 } in
    kind-more params meter meter.vrx meter.verdict bucket due.0 stamps at s next refl (known-stands params meter.vrx stamps at s.vrx passes.quiet)
    (passed-verdict params bucket due.0 meter.vrx.kind stamps at meter.c_max meter.verdict next s.c_max passes.within
    (λ pass. known-none params meter.vrx stamps at s.vrx passes.quiet (pass-nowhere params meter stamps s pass)))

-- the number of the packet that comes next
pub next-number : (params : Params) (bucket : Bucket) (due : Due) (kind : Kind) (stamps : List ℕ) (at : ℕ) → ComesNext params bucket due kind stamps at
    → bucket.seen - 1 ≡ length stamps
next-number params bucket due kind stamps at next = omega (arith, next.bucket_is.seen, length-append stamps (at ∷ []))

-- the fault of the packet of this number
pub fault-number : (m : Media) (n : ℕ) (stamps : List ℕ) (kind : Kind) (packet i : ℕ) (fault : Option VrxFault) → packet ≡ i
    → fault ≡ fault_at m n stamps kind packet
    → fault ≡ fault_at m n stamps kind i
fault-number m n stamps kind packet i fault same is = is ∙ ap (fault_at m n stamps kind) same

-- a packet of this number that has no fault
pub quiet-none : (m : Media) (n : ℕ) (stamps : List ℕ) (kind : Kind) (packet i : ℕ) → packet ≡ i → fault_at m n stamps kind packet ≡ None
    → fault_at m n stamps kind i ≡ None
quiet-none m n stamps kind packet i same none = sym (fault-number m n stamps kind packet i None same (sym none))
