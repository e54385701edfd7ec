-- The lines of a `Watch` that are ready are printed.
use Rattle.std.proofs.Common.{◌≡◌, ◌++◌, [], ap, ◌∙◌, sym, subst, append-nil}
use Rattle.flow_demux.specs.Rooms.{flows_of}
use Rattle.flow_demux.specs.declared.demux.Demux.{Demux}
use Rattle.timing_watch.specs.Watches.{AreLines}
use Rattle.timing_watch.specs.making.Watches.{AreFlows, GoesOn, StandsFor, text_of}
use Rattle.timing_watch.specs.declared.flow.WatchFlow.{WatchFlow}
use Rattle.timing_watch.specs.declared.watch.Watch.{Watch}

-- all lines that weren't printed yet were printed, and the flows are the same
pub printed-all : (old new : Watch) → text_of new ≡ [] → new.demux ≡ old.demux → GoesOn old new (text_of old) []
printed-all old new none same job first media gone items h =
    let text : (gone ++ text_of old) ++ text_of new ≡ gone ++ text_of old =
    ap (λ t. (gone ++ text_of old) ++ t) none ∙ append-nil (gone ++ text_of old) in
    subst (StandsFor job first media (gone ++ text_of old) new) (sym (append-nil items))
    (record {
      lines_are = subst (AreLines job first media items) (sym text) h.lines_are;
      flows_are = subst (λ (d : Demux WatchFlow). AreFlows job items first media (flows_of d)) (sym same) h.flows_are;
    })
