-- What the judge of a flow and the output of its meters say of the packets before the next one, whatever that is.
use Rattle.std.specs.Prelude.{is_some, string_bytes}
use Rattle.std.proofs.Common.{◌≡◌, ◌<◌, ◌-◌, ◌+◌, ◌++◌, ◌∷◌, ℕ, zero, suc, Bool, true, false, List, [], length, Option, Some, None}
use Rattle.std.proofs.Common.{◌∙◌, ap, sym, subst, refl, arith, append-nil}
use Rattle.timing_base.specs.Flows.{FirstFault, first_fault, first_fault_below, markers, packet}
use Rattle.timing_base.specs.Keys.{key_of}
use Rattle.timing_base.specs.Media.{Media}
use Rattle.timing_base.specs.Numbered.{counted_packet, last_counted, numbered}
use Rattle.timing_base.specs.Shifts.{FlowOptions, Shift}
use Rattle.timing_base.specs.declared.packet.FlowPacket.{FlowPacket}
use Rattle.timing_base.proofs.Numberings.{length-numbered, numbered-push}
use Rattle.fail_interval.specs.Flowing.{OpensAt}
use Rattle.fail_interval.specs.Measured.{StateTells, TellsSoFar}
use Rattle.fail_interval.specs.Meterings.{IsFed}
use Rattle.fail_interval.specs.Parts.{open_before, parts_before, sound_before}
use Rattle.fail_interval.specs.SoFar.{SoFar}
use Rattle.fail_interval.specs.States.{IsAt}
use Rattle.fail_interval.specs.Telling.{TellsAt}
use Rattle.fail_interval.specs.declared.flow.OpenRun.{OpenRun}
use Rattle.fail_interval.specs.declared.judge.State.{State}
use Rattle.fail_interval.specs.declared.judge.State.TheVariants.{Going, Refused, Spent}
use Rattle.timing_base.specs.declared.row.Run.{Run}
use Rattle.flow_watch.specs.Watched.{AreLinesSoFar, PastLines, Tells}
use Rattle.flow_watch.specs.declared.lines.WatchLines.{WatchLines}
use Rattle.flow_watch.specs.declared.meter.WatchMeter.{WatchMeter}
use Rattle.flow_watch.specs.making.Meters.{StandsFor as MeterStandsFor}
use Rattle.timing_watch.specs.Watched.{Watching, last_told}
use Rattle.timing_watch.specs.making.Flows.{IsAtOpen, StandsFor, past_of}
use Rattle.timing_watch.specs.making.Steps.{AreLinesBefore, HasTaken, IsAhead}
use Rattle.timing_watch.specs.declared.flow.WatchFlow.{WatchFlow}
use Rattle.timing_watch.proofs.Fronts.{open-front}

-- ---- the number of the next packet

-- the packets with their numbers, with one more
abbrev pub HasNext : (seq16 : Bool) → List FlowPacket → FlowPacket → Type 0
HasNext seq16 packets p = (q : FlowPacket) × (numbered seq16 (packets ++ p ∷ []) ≡ numbered seq16 packets ++ q ∷ []) × (q.at ≡ p.at)

pub has-next : (seq16 : Bool) (packets : List FlowPacket) (p : FlowPacket) → HasNext seq16 packets p
has-next false packets p = (p, refl, refl)
has-next true packets p = (counted_packet (last_counted None packets) p, numbered-push packets p, refl)

-- ---- the state of the judge

-- the meters' output contains the lines of the packets before the next one, and whether one of them has a fault stays
record IsBefore (past : PastLines) (m : Media) (shift : Shift) (packets : List FlowPacket) (q : FlowPacket) (out : WatchLines) : Type 0 where
  pub fault_is : is_some (first_fault packets m.pt) ≡ is_some (first_fault_below (packets ++ q ∷ []) m.pt (length packets))
  pub told : TellsSoFar Tells past m shift (packets ++ q ∷ []) (length packets) out

abbrev TellsBefore : PastLines → Media → Shift → List FlowPacket → (n : ℕ) → WatchLines → Type 0
TellsBefore past m shift packets n out = Tells past out m shift (parts_before m packets shift n) (open_before packets shift n)

open-before : (past : PastLines) (m : Media) (shift : Shift) (packets : List FlowPacket) (n : ℕ) (so_far : SoFar) (done : List Run)
    (open_run : Option (OpenRun WatchMeter)) (out : WatchLines) → OpensAt m shift packets n so_far done open_run
    → TellsAt MeterStandsFor Tells past m shift packets n open_run out → TellsBefore past m shift packets n out
open-before past m shift packets zero so_far done None out o t = t
open-before past m shift packets (suc n) so_far done None out o t = absurd (omega (arith, o.0))
open-before past m shift packets n so_far done (Some open_run) out o t = t.out_tells

state-before : (past : PastLines) (m : Media) (shift : Shift) (packets : List FlowPacket) (q : FlowPacket) (state : State WatchMeter) (out : WatchLines)
    → IsAt m shift packets state → StateTells MeterStandsFor Tells past m shift packets state out → IsBefore past m shift packets q out
state-before past m shift packets q (Going flow) out is t =
    let n = length packets in
    let all = packets ++ q ∷ [] in
    let same_pt : flow.media.pt ≡ m.pt = ap (λ (k : Media). k.pt) is.0 in
    let here : first_fault packets m.pt ≡ None =
    subst (λ pt. first_fault packets pt ≡ None) same_pt
    (subst (λ (l : List FlowPacket). first_fault_below l flow.media.pt n ≡ None) (append-nil packets) (is.2.sound [])) in
    let there : first_fault_below all m.pt n ≡ None = subst (λ pt. first_fault_below all pt n ≡ None) same_pt (is.2.sound (q ∷ [])) in
    let opens : OpensAt m shift all n is.2.so_far flow.done.items flow.open =
    subst (λ (k : Media). OpensAt k shift all n is.2.so_far flow.done.items flow.open) is.0
    (subst (λ (s : Shift). OpensAt flow.media s all n is.2.so_far flow.done.items flow.open) is.1 (is.2.runs (q ∷ []))) in
    record {
      fault_is = ap is_some here ∙ sym (ap is_some there);
      told = subst (λ o. TellsBefore past m shift all (sound_before o n) out) (sym there)
          (open-before past m shift all n is.2.so_far flow.done.items flow.open out opens (t (q ∷ [])));
    }
state-before past m shift packets q (Refused rec fault) out is t =
    let n = length packets in
    let first : FirstFault = record { index = is.index; fault = fault } in
    let here = subst (λ (l : List FlowPacket). first_fault_below l m.pt n ≡ Some first) (append-nil packets) (is.first []) in
    record { fault_is = ap is_some here ∙ sym (ap is_some (is.first (q ∷ []))); told = t (q ∷ []) }
state-before past m shift packets q Spent out is t = absurd is

-- ---- the flow

-- the flow's own numbers are the same
pub record KeepsNumbers (old new : WatchFlow) : Type 0 where
  pub media_is : new.media ≡ old.media
  pub run_is : new.run ≡ old.run
  pub before_is : new.before ≡ old.before
  pub since_is : new.since ≡ old.since
  pub refused_is : new.refused ≡ old.refused

pub lines-before : (w : Watching) (m : Media) (shift : Shift) (packets : List FlowPacket) (n : ℕ) (gone : List ℕ) (out : WatchLines)
    → string_bytes out.text ≡ [] → TellsSoFar Tells (past_of w gone) m shift packets n out → AreLinesBefore w m shift packets n gone out.open
lines-before w m shift packets n gone out none t =
    let sound = sound_before (first_fault_below packets m.pt n) n in
    let put : t.put ≡ gone = sym t.text_is ∙ ap (λ s. gone ++ s) none ∙ append-nil gone in
    subst (λ s. AreLinesSoFar w.form w.every m shift (parts_before m packets shift sound) (open_before packets shift sound) s out.open) put t.are

open-same : (packets : List FlowPacket) (n : ℕ) (old new : WatchFlow) → KeepsNumbers old new → IsAtOpen packets n old → IsAtOpen packets n new
open-same packets n old new same h = record {
  none = λ e. same.run_is ∙ h.none e;
  run = λ some.
      let was = h.run some in
      record {
        run_is = same.run_is ∙ was.run_is;
        before_is = same.before_is ∙ was.before_is;
        since_is = λ few.
            same.since_is
            ∙ was.since_is (subst (λ b. length (markers packets b n) < 2) same.before_is few)
            ∙ ap (λ b. (packet packets (last_told packets b (n - (b + 1)))).at) (sym same.before_is);
      };
}

-- a packet was taken by the meters alone
pub has-taken : (w : Watching) (m : Media) (options : FlowOptions) (old new : WatchFlow) (packets : List FlowPacket) (p : FlowPacket) → KeepsNumbers old new
    → (h : StandsFor w m options old packets)
    → IsFed true MeterStandsFor Tells (past_of w h.gone) m (key_of 0 w.form.media) options new.metered (packets ++ p ∷ [])
    → HasTaken w m options new packets p
has-taken w m options old new packets p same h fed =
    let counted = numbered options.seq16 packets in
    let next = has-next options.seq16 packets p in
    let long : length counted ≡ length packets = length-numbered options.seq16 packets in
    let q = next.0 in
    let out = old.metered.out in
    let before = state-before (past_of w h.gone) m options.shift counted q old.metered.judge.state out h.fed.judge_is.state (h.fed.told refl) in
    let ahead : IsAhead w m options.shift new (counted ++ q ∷ []) (length counted) h.gone = record {
      refused_is = same.refused_is ∙ h.refused_is ∙ before.fault_is;
      left = out.open;
      before_are = lines-before w m options.shift (counted ++ q ∷ []) (length counted) h.gone out h.moved before.told;
      open_is = λ going.
          let was : IsAtOpen counted (length counted) old =
          subst (λ n. IsAtOpen counted n old) (sym long) (h.open_is (sym same.refused_is ∙ going)) in
          open-same (counted ++ q ∷ []) (length counted) old new same (open-front counted (q ∷ []) (length counted) old (omega arith) was);
    } in
    record {
      media_is = same.media_is ∙ h.media_is;
      gone = h.gone;
      fed = fed;
      ahead = subst (λ n. IsAhead w m options.shift new (numbered options.seq16 (packets ++ p ∷ [])) n h.gone) long
          (subst (λ (l : List FlowPacket). IsAhead w m options.shift new l (length counted) h.gone) (sym next.1) ahead);
    }
