-- A packet record is taken by the flows of all media, and their lines are moved.
use Rattle.std.proofs.Common.{◌≡◌, ◌+◌, ◌++◌, ◌∷◌, ℕ, List, [], Option, Some, None, refl, ap, ap₂, ◌∙◌, sym, subst, append-nil, append_assoc}
use Rattle.std.specs.List.{cons_option}
use Rattle.std.specs.Prelude.{Err, IfOk, Ok, Result}
use Rattle.std.proofs.lemmas.List.Elements.{filter_map-append}
use Rattle.timing_base.specs.Captures.{Record}
use Rattle.timing_base.specs.Jobs.{WatchJob}
use Rattle.timing_base.specs.Media.{Media}
use Rattle.timing_base.specs.declared.packet.FlowPacket.{FlowPacket}
use Rattle.udp_rtp.specs.Flow.{flow, flow_packet}
use Rattle.flow_demux.specs.Rooms.{flows_of}
use Rattle.flow_demux.specs.Takings.{TakesAll, TakesFlow}
use Rattle.flow_demux.specs.Texts.{MovesAll, MovesFlow, texts_of}
use Rattle.flow_demux.specs.declared.media_flow.MediaFlow.{MediaFlow}
use Rattle.timing_watch.specs.Watched.{AddsPacket, AreFlowLines}
use Rattle.timing_watch.specs.Watches.{AddsIf, AddsRecord, AreLinesAfter, watching_of}
use Rattle.timing_watch.specs.making.Flows.{MovesText, StandsFor as FlowStandsFor, TakesOn, text_in}
use Rattle.timing_watch.specs.making.Watches.{AreFlows, GoesOn, IsFlowOf, text_of}
use Rattle.timing_watch.specs.declared.flow.WatchFlow.{WatchFlow}
use Rattle.timing_watch.specs.declared.watch.Watch.{Watch}
use Rattle.timing_watch.proofs.Lines.{lines-joined}

-- ---- one flow

-- the lines of one packet, or of none
lines-if : (job : WatchJob) (number : ℕ) (m : Media) (items : List Record) (o : Option FlowPacket) (text : List ℕ)
    → AreFlowLines (watching_of job number m) m job.flows.options (flow items m) (cons_option o []) text → AddsIf job number m items o text
lines-if job number m items None text h = h
lines-if job number m items (Some p) text h =
    let same : text ≡ h.0 = h.2 ∙ ap (λ x. h.0 ++ x) h.4 ∙ append-nil h.0 in
    subst (AddsPacket (watching_of job number m) m job.flows.options (flow items m) p) (sym same) h.3

-- what a record adds to the lines of a media, and the flow after it
abbrev TookOne : WatchJob → List Record → Record → (number : ℕ) → Media → (mid new : MediaFlow WatchFlow) → Type 0
TookOne job items r number m mid new = AddsIf job number m items (flow_packet m r) (text_in mid.taker) × IsFlowOf job (items ++ r ∷ []) number m new

took-one : (job : WatchJob) (items : List Record) (r : Record) (number : ℕ) (m : Media) (old mid new : MediaFlow WatchFlow) → IsFlowOf job items number m old
    → TakesFlow TakesOn old mid (r ∷ []) → MovesFlow MovesText mid new → TookOne job items r number m mid new
took-one job items r number m old mid new h takes moves =
    let w = watching_of job number m in
    let options = job.flows.options in
    let takes_m = subst (λ (v : Media). TakesOn v old.taker mid.taker (r ∷ [])) h.media_is takes.fed in
    let took = takes_m w options (flow items m) h.stands in
    let text : text_in mid.taker ≡ took.more = took.text_is ∙ ap (λ x. x ++ took.more) h.moved in
    let all : flow (items ++ r ∷ []) m ≡ flow items m ++ flow (r ∷ []) m = filter_map-append (flow_packet m) items (r ∷ []) in (
      subst (AddsIf job number m items (flow_packet m r)) (sym text) (lines-if job number m items (flow_packet m r) took.more took.lines),
      record {
        media_is = moves.media ∙ takes.media ∙ h.media_is;
        stands = subst (FlowStandsFor w m options new.taker) (sym all) (moves.moved.stands w m options (flow items m ++ flow (r ∷ []) m) took.stands);
        moved = moves.moved.none;
      },
    )

-- ---- all flows

abbrev TookEach : WatchJob → List Record → Record → (number : ℕ) → List Media → (mids news : List (MediaFlow WatchFlow)) → Type 0
TookEach job items r number media mids news =
    AddsRecord job number media items r (texts_of text_in mids) × AreFlows job (items ++ r ∷ []) number media news

took-each : (job : WatchJob) (items : List Record) (r : Record) (number : ℕ) (media : List Media) (olds mids news : List (MediaFlow WatchFlow))
    → AreFlows job items number media olds → TakesAll TakesOn olds mids (r ∷ []) → MovesAll MovesText mids news → TookEach job items r number media mids news
took-each job items r number [] [] [] [] h takes moves = (refl, tt)
took-each job items r number [] [] [] (n ∷ news) h takes moves = absurd moves
took-each job items r number [] [] (d ∷ mids) news h takes moves = absurd takes
took-each job items r number [] (o ∷ olds) mids news h takes moves = absurd h
took-each job items r number (m ∷ media) [] mids news h takes moves = absurd h
took-each job items r number (m ∷ media) (o ∷ olds) [] news h takes moves = absurd takes
took-each job items r number (m ∷ media) (o ∷ olds) (d ∷ mids) [] h takes moves = absurd moves
took-each job items r number (m ∷ media) (o ∷ olds) (d ∷ mids) (n ∷ news) h takes moves =
    let one = took-one job items r number m o d n h.0 takes.0 moves.0 in
    let rest = took-each job items r (number + 1) media olds mids news h.1 takes.1 moves.1 in
    ((text_in d.taker, texts_of text_in mids, refl, one.0, rest.0), (one.1, rest.1))

-- ---- the whole

-- what follows from both clauses of a call that returned
pub both-ok : {T E : Type 0} {P Q R : T → Type 0} (result : Result T E) → ((x : T) → P x → Q x → R x) → IfOk result P → IfOk result Q → IfOk result R
both-ok (Ok x) next p q = next x p q
both-ok (Err e) next p q = tt

-- what follows from a clause of a call that returned
pub if-ok : {T E : Type 0} {P Q : T → Type 0} (result : Result T E) → ((x : T) → P x → Q x) → IfOk result P → IfOk result Q
if-ok (Ok x) next p = next x p
if-ok (Err e) next p = tt

-- what is so of each value that a call may return
pub ok-always : {T E : Type 0} {P : T → Type 0} (result : Result T E) → ((x : T) → P x) → IfOk result P
ok-always (Ok x) h = h x
ok-always (Err e) h = tt

-- the flows of a `Watch` took a record, and their lines stand behind those that weren't printed yet
pub took-record : (old new : Watch) (mids : List (MediaFlow WatchFlow)) (r : Record) → TakesAll TakesOn (flows_of old.demux) mids (r ∷ [])
    → MovesAll MovesText mids (flows_of new.demux) → text_of new ≡ text_of old ++ texts_of text_in mids → GoesOn old new [] (r ∷ [])
took-record old new mids r takes moves text job first media gone items h =
    let more = texts_of text_in mids in
    let took = took-each job items r first media (flows_of old.demux) mids (flows_of new.demux) h.flows_are takes moves in
    let one : AreLinesAfter job first media items (r ∷ []) more = (more, [], sym (append-nil more), took.0, refl) in
    let all = lines-joined job first media [] items (r ∷ []) (gone ++ text_of old) more h.lines_are one in
    let same : (gone ++ []) ++ text_of new ≡ (gone ++ text_of old) ++ more =
    ap₂ (λ g t. g ++ t) (append-nil gone) text ∙ sym (append_assoc gone (text_of old) more) in
    record {
      lines_are = subst (AreLinesAfter job first media [] (items ++ r ∷ [])) (sym same) all;
      flows_are = took.1;
    }
