-- A packet was taken by the meters of a flow, and then its lines were added: the flow of a packet record was taken.
use Rattle.std.specs.Prelude.{string_bytes}
use Rattle.std.proofs.Common.{◌≡◌, ◌++◌, ◌∷◌, true, List, [], Option, Some, ◌∙◌, ap, sym, subst, refl, append-nil}
use Rattle.std.specs.List.{cons_option}
use Rattle.timing_base.specs.Captures.{Record}
use Rattle.timing_base.specs.Keys.{key_of}
use Rattle.timing_base.specs.Media.{Media}
use Rattle.timing_base.specs.declared.packet.FlowPacket.{FlowPacket}
use Rattle.udp_rtp.specs.Flow.{flow_packet}
use Rattle.fail_interval.specs.Meterings.{Feeds, IsFed}
use Rattle.flow_watch.specs.Watched.{Tells}
use Rattle.flow_watch.specs.making.Meters.{StandsFor as MeterStandsFor}
use Rattle.timing_watch.specs.Watched.{AreFlowLines, Watching}
use Rattle.timing_base.specs.Shifts.{FlowOptions}
use Rattle.timing_watch.specs.making.Flows.{StandsFor, TakesOn, past_of}
use Rattle.timing_watch.specs.making.Steps.{HasTaken, TookPacket}
use Rattle.timing_watch.specs.declared.flow.WatchFlow.{WatchFlow}
use Rattle.timing_watch.proofs.Ahead.{KeepsNumbers, has-taken}

-- what is so of the lines that a call added
abbrev pub AddsLines : (mid new : WatchFlow) → FlowPacket → Type 0
AddsLines mid new p = (w : Watching) (m : Media) (options : FlowOptions) (packets : List FlowPacket) → HasTaken w m options mid packets p
    → TookPacket w m options mid new packets p

-- the flow of the record was taken
pub takes-record : (m : Media) (old mid new : WatchFlow) (r : Record) (p : FlowPacket) → flow_packet m r ≡ Some p → KeepsNumbers old mid
    → mid.text ≡ old.text → Feeds true MeterStandsFor Tells m old.metered mid.metered (r ∷ []) → AddsLines mid new p → TakesOn m old new (r ∷ [])
takes-record m old mid new r p is same text feeds adds w options packets h =
    let fed : IsFed true MeterStandsFor Tells (past_of w h.gone) m (key_of 0 w.form.media) options mid.metered (packets ++ p ∷ []) =
    subst (λ (o : Option FlowPacket). IsFed true MeterStandsFor Tells (past_of w h.gone) m (key_of 0 w.form.media) options mid.metered
    (packets ++ cons_option o [])) is (feeds (past_of w h.gone) (key_of 0 w.form.media) options packets h.fed) in
    let took = adds w m options packets (has-taken w m options old mid packets p same h fed) in
    record {
      more = took.more;
      text_is = took.text_is ∙ ap (λ t. string_bytes t ++ took.more) text;
      lines = subst (λ (o : Option FlowPacket). AreFlowLines w m options packets (cons_option o []) took.more) (sym is)
          (took.more, [], sym (append-nil took.more), took.adds, refl);
      stands = subst (λ (o : Option FlowPacket). StandsFor w m options new (packets ++ cons_option o [])) (sym is) took.stands;
    }
