-- What a record does to the flows: those that it goes to take it, and the others stay as they were.
use Rattle.std.proofs.Common.{◌≡◌, ◌≤◌, ◌<◌, ◌+◌, ℕ, zero, suc, List, [], ◌∷◌, length, get_or, set, Option, Some, None, if◌then◌else◌, refl, sym, ap}
use Rattle.std.proofs.Common.{◌∙◌, subst, arith}
use Rattle.std.specs.Prelude.{All, Bool, IfOk, Result, Ok, Err, true, false}
use Rattle.std.specs.List.{AllZip}
use Rattle.std.proofs.lemmas.List.Elements.{All-from_get_or, All-head, All-tail, All-weaker}
use Rattle.timing_base.proofs.Targets.{same-target}
use Rattle.timing_base.specs.Captures.{Record}
use Rattle.timing_base.specs.Media.{Media}
use Rattle.timing_base.specs.Targets.{HaveOwnTargets, target_of}
use Rattle.timing_base.specs.declared.packet.Rtp.{Rtp}
use Rattle.timing_base.specs.declared.packet.FlowPacket.{FlowPacket}
use Rattle.udp_rtp.specs.Flow.{datagram_packet, flow_packet, is_same_target}
use Rattle.udp_rtp.specs.Frames.{Datagram, datagram_of}
use Rattle.udp_rtp.specs.Reading.{reading}
use Rattle.flow_demux.specs.Awaits.{AwaitsExpected}
use Rattle.flow_demux.specs.Steps.{StepsOn}
use Rattle.flow_demux.specs.Takings.{GoesTo, TakesAll, TakesFlow, media_in}
use Rattle.flow_demux.specs.declared.media_flow.MediaFlow.{MediaFlow}
use Rattle.flow_demux.proofs.Owning.{differs-by, media-at, own-first, own-rest}
use Rattle.flow_demux.proofs.Stepping.{zip-each, zip-then}

-- a record that goes elsewhere is no packet of the flow
none-packet : (m : Media) (r : Record) (d : Datagram) → datagram_of r.bytes ≡ Some d → (target_of m ≡ d.target → ⊥) → flow_packet m r ≡ None
none-packet m r d is differs =
    ap (datagram_packet m r.number r.stamp) is
    ∙ ap (λ b. if b then Some (record { rec = r.number; at = r.stamp; rtp = reading d.payload }) else None)
    (differs-by d.target (target_of m) differs)

-- a record that is a packet of the flow goes there
kept : (b : Bool) (x y : FlowPacket) → (if b then Some x else None) ≡ Some y → b ≡ true
kept true x y e = refl
kept false x y e = cc

goes-by : (m : Media) (r : Record) (p : FlowPacket) (o : Option Datagram) → datagram_of r.bytes ≡ o → datagram_packet m r.number r.stamp o ≡ Some p
    → GoesTo m r.bytes
goes-by m r p None is e = cc
goes-by m r p (Some d) is e = (d, is, same-target d.target (target_of m) (kept (is_same_target d.target (target_of m)) _ p e))

pub packet-goes : (m : Media) (r : Record) (p : FlowPacket) → flow_packet m r ≡ Some p → GoesTo m r.bytes
packet-goes m r p e = goes-by m r p (datagram_of r.bytes) refl e

-- a packet of the flow has the timestamp of its record
packet-of : (b : Bool) (x y : FlowPacket) → (if b then Some x else None) ≡ Some y → x ≡ y
packet-of true x y e = cc
packet-of false x y e = cc

stamp-by : (m : Media) (r : Record) (p : FlowPacket) (o : Option Datagram) → datagram_packet m r.number r.stamp o ≡ Some p → r.stamp ≡ p.at
stamp-by m r p None e = cc
stamp-by m r p (Some d) e = ap (λ (q : FlowPacket). q.at) (packet-of (is_same_target d.target (target_of m)) _ p e)

pub packet-stamp : (m : Media) (r : Record) (p : FlowPacket) → flow_packet m r ≡ Some p → r.stamp ≡ p.at
packet-stamp m r p e = stamp-by m r p (datagram_of r.bytes) e

-- what follows from an answer
pub if-ok : {T E : Type 0} {P Q : T → Type 0} (result : Result T E) → ((x : T) → P x → Q x) → IfOk result P → IfOk result Q
if-ok (Ok x) next h = next x h
if-ok (Err e) next h = tt

-- by the laws of what takes a flow
module _ {F : Type 0} (takes : Media → F → F → List Record → Type 0) (room : ℕ → F → Type 0) (expects : F → Option Rtp)
    (other : (m : Media) (x : F) (r : Record) → flow_packet m r ≡ None → takes m x x (r ∷ []))
    (less : (few many : ℕ) (x : F) → few ≤ many → room many x → room few x) where
  -- a flow of which the record is no packet
  stays : (r : Record) (f : MediaFlow F) → flow_packet f.media r ≡ None → AwaitsExpected expects f → StepsOn takes room expects r f f
  stays r f none h = record {
    taken = record { media = refl; fed = other f.media f.taker r none };
    leaves = λ count has. less count (count + 1) f.taker (omega arith) has;
    awaited = h;
  }

  all-stay : (r : Record) (fs : List (MediaFlow F)) → All (λ (f : MediaFlow F). flow_packet f.media r ≡ None) fs → All (AwaitsExpected expects) fs
      → AllZip (StepsOn takes room expects r) fs fs
  all-stay r [] none h = tt
  all-stay r (f ∷ fs) none h = (
    stays r f (All-head (λ (x : MediaFlow F). flow_packet x.media r ≡ None) f fs none) (All-head (AwaitsExpected expects) f fs h),
    all-stay r fs (All-tail (λ (x : MediaFlow F). flow_packet x.media r ≡ None) f fs none) (All-tail (AwaitsExpected expects) f fs h),
  )

  -- a frame without a datagram
  pub nothing-steps : (r : Record) (fs : List (MediaFlow F)) → datagram_of r.bytes ≡ None → All (AwaitsExpected expects) fs
      → AllZip (StepsOn takes room expects r) fs fs
  nothing-steps r fs is h =
      all-stay r fs
      (All-weaker (AwaitsExpected expects) (λ (f : MediaFlow F). flow_packet f.media r ≡ None)
      (λ f _. ap (datagram_packet f.media r.number r.stamp) is) fs h) h

  -- the flow in place k takes it, and no other
  pub one-steps : (r : Record) (fs : List (MediaFlow F)) (k : ℕ) (old new : MediaFlow F) → HaveOwnTargets (media_in fs) → k < length fs
      → get_or fs k old ≡ old → GoesTo old.media r.bytes → StepsOn takes room expects r old new → All (AwaitsExpected expects) fs
      → AllZip (StepsOn takes room expects r) fs (set fs k new)
  one-steps r [] k old new own within at goes step h = absurd (omega arith)
  one-steps r (f ∷ fs) zero old new own within at goes step h =
      let d = goes.0 in (
        subst (λ (x : MediaFlow F). StepsOn takes room expects r x new) (sym at) step,
        all-stay r fs
            (All-from_get_or (λ (x : MediaFlow F). flow_packet x.media r ≡ None) fs f
            (λ j few. none-packet (get_or fs j f).media r d goes.1
            (λ e. own-first f.media (get_or fs j f).media (media_in fs) j own (media-at fs j f few)
            (ap (λ (x : MediaFlow F). target_of x.media) at ∙ sym goes.2 ∙ sym e))))
            (All-tail (AwaitsExpected expects) f fs h),
      )
  one-steps r (f ∷ fs) (suc k) old new own within at goes step h =
      let d = goes.0 in
      let few : k < length fs = omega arith in
      let here = media-at fs k old few ∙ ap (λ (x : MediaFlow F). Some x.media) at in (
        stays r f (none-packet f.media r d goes.1 (λ e. own-first f.media old.media (media_in fs) k own here (e ∙ goes.2)))
            (All-head (AwaitsExpected expects) f fs h),
        one-steps r fs k old new (own-rest f.media (media_in fs) own) few at goes step (All-tail (AwaitsExpected expects) f fs h),
      )

  -- so where a packet was taken, and memory was there
  pub packet-steps : {T E : Type 0} (result : Result T E) (r : Record) (p : FlowPacket) (fs : List (MediaFlow F)) (k : ℕ) (old new : MediaFlow F)
      → HaveOwnTargets (media_in fs)
      → k < length fs
      → get_or fs k old ≡ old
      → flow_packet old.media r ≡ Some p
      → IfOk result (λ _. (s : Record) → flow_packet old.media s ≡ Some p → s.bytes ≡ r.bytes → TakesFlow takes old new (s ∷ []))
      → ((count : ℕ) → IfOk result (λ _. room (count + 1) old.taker → room count new.taker))
      → AwaitsExpected expects new
      → All (AwaitsExpected expects) fs
      → IfOk result (λ _. AllZip (StepsOn takes room expects r) fs (set fs k new))
  packet-steps (Err e) r p fs k old new own within at is taken leaves awaited h = tt
  packet-steps (Ok x) r p fs k old new own within at is taken leaves awaited h =
      one-steps r fs k old new own within at (packet-goes old.media r p is)
      record { taken = taken r is refl; leaves = leaves; awaited = awaited } h

-- what follows where each flow has gone on
module _ {F : Type 0} (takes : Media → F → F → List Record → Type 0) (room : ℕ → F → Type 0) (expects : F → Option Rtp) (r : Record)
    (olds news : List (MediaFlow F)) (h : AllZip (StepsOn takes room expects r) olds news) where
  pub all-take : TakesAll takes olds news (r ∷ [])
  all-take = zip-then (StepsOn takes room expects r) (λ (o n : MediaFlow F). TakesFlow takes o n (r ∷ [])) olds news (λ o n step. step.taken) h

  pub all-leave : (count : ℕ) → All (λ (f : MediaFlow F). room (count + 1) f.taker) olds → All (λ (f : MediaFlow F). room count f.taker) news
  all-leave count has =
      zip-each (StepsOn takes room expects r) (λ (f : MediaFlow F). room (count + 1) f.taker) (λ (f : MediaFlow F). room count f.taker) olds news
      (λ o n step. step.leaves count) h has
