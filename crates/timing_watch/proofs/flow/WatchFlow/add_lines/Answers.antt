use Rattle.std.proofs.Common.{◌≡◌, ◌++◌, ◌∷◌, [], List, Option, sym, ◌∙◌, subst}
use Rattle.timing_base.specs.Keys.{key_of}
use Rattle.timing_base.specs.Numbered.{numbered}
use Rattle.timing_base.specs.Media.{Media}
use Rattle.timing_base.specs.declared.key.FlowKey.{FlowKey}
use Rattle.timing_base.specs.declared.row.Unjudged.{Unjudged}
use Rattle.fail_interval.specs.declared.current.RunSoFar.{RunSoFar}
use Rattle.timing_base.specs.Shifts.{FlowOptions}
use Rattle.timing_base.specs.declared.packet.FlowPacket.{FlowPacket}
use Rattle.fail_interval.specs.Current.{open_run_of, refusal_of}
use Rattle.fail_interval.specs.Stands.{StandsFor as JudgeStandsFor}
use Rattle.fail_interval.specs.declared.judge.FlowJudge.{FlowJudge}
use Rattle.flow_watch.specs.declared.meter.WatchMeter.{WatchMeter}
use Rattle.timing_watch.specs.Watched.{Watching}
use Rattle.timing_watch.specs.making.Steps.{HasTaken, MovesStretches}
use Rattle.timing_watch.specs.declared.flow.WatchFlow.{WatchFlow}
use Rattle.timing_watch.proofs.Packets.{some-run, sound-after, took-begin, took-more, took-nothing, took-refusal}
use Rattle.timing_watch.proofs.Taking.{if-ok}
use Rattle.timing_watch.proofs.flow.WatchFlow.add_lines.Goals as goal

-- the judge was fed the packets, also after the lines of the meters were moved
judge-moved : (w : Watching) (m : Media) (options : FlowOptions) (old mid : WatchFlow) (packets : List FlowPacket) (p : FlowPacket)
    → HasTaken w m options old packets p
    → MovesStretches old mid → JudgeStandsFor m (key_of 0 w.form.media) options mid.metered.judge (packets ++ p ∷ [])
judge-moved w m options old mid packets p h moves =
    subst (λ (j : FlowJudge WatchMeter). JudgeStandsFor m (key_of 0 w.form.media) options j (packets ++ p ∷ [])) (sym moves.judge_is) h.fed.judge_is

-- the reason that the judge gives, and its open run
reason-is : (w : Watching) (m : Media) (options : FlowOptions) (old mid : WatchFlow) (packets : List FlowPacket) (p : FlowPacket)
    → HasTaken w m options old packets p → MovesStretches old mid → (o : Option Unjudged)
    → ((m : Media) (key : FlowKey) (options : FlowOptions) (packets : List FlowPacket) → JudgeStandsFor m key options mid.metered.judge packets
    → o ≡ refusal_of (numbered options.seq16 packets) m.pt)
    → refusal_of (numbered options.seq16 (packets ++ p ∷ [])) m.pt ≡ o
reason-is w m options old mid packets p h moves o is =
    sym (is m (key_of 0 w.form.media) options (packets ++ p ∷ []) (judge-moved w m options old mid packets p h moves))

run-is : (w : Watching) (m : Media) (options : FlowOptions) (old mid : WatchFlow) (packets : List FlowPacket) (p : FlowPacket)
    → HasTaken w m options old packets p → MovesStretches old mid → (o : Option RunSoFar)
    → ((m : Media) (key : FlowKey) (options : FlowOptions) (packets : List FlowPacket) → JudgeStandsFor m key options mid.metered.judge packets
    → o ≡ open_run_of (numbered options.seq16 packets) m.pt)
    → open_run_of (numbered options.seq16 (packets ++ p ∷ [])) m.pt ≡ o
run-is w m options old mid packets p h moves o is =
    sym (is m (key_of 0 w.form.media) options (packets ++ p ∷ []) (judge-moved w m options old mid packets p h moves))

pub returns-then-self-clause-adds : goal.returns-then-self-clause-adds
returns-then-self-clause-adds c w m options packets p at h = took-nothing w m options c.args.self.now packets p h c.if-self.true

pub returns-in-Some-clause-adds : goal.returns-in-Some-clause-adds
returns-in-Some-clause-adds c =
    if-ok c.add_refusal.result
    (λ _ adds w m options packets p at h.
    let old = c.args.self.now in
    let mid = c.add_stretches.new.self in
    let moves = c.in_ok-add_stretches.ensures in
    let why = reason-is w m options old mid packets p h moves c.refusal.result c.refusal.ensures ∙ c.in-Some.is in
    took-refusal w m options old packets p h mid c.add_refusal.new.self c.in-Some.reason c.if-self.false moves why adds) c.add_refusal.ensures

pub returns-in-None-clause-adds : goal.returns-in-None-clause-adds
returns-in-None-clause-adds c w m options packets p at h =
    let old = c.args.self.now in
    let mid = c.add_stretches.new.self in
    let moves = c.in_ok-add_stretches.ensures in
    let sound = sound-after w m options old packets p h
    (reason-is w m options old mid packets p h moves c.refusal.result c.refusal.ensures ∙ c.in_default.is) in
    absurd (some-run w m options old packets p h sound
    (run-is w m options old mid packets p h moves c.open_run.result c.open_run.ensures ∙ c.in-None.is))

pub returns-in-Some-open_run-clause-adds : goal.returns-in-Some-open_run-clause-adds
returns-in-Some-open_run-clause-adds c =
    if-ok c.begin_run.result
    (λ _ begins w m options packets p at h.
    let old = c.args.self.now in
    let mid = c.add_stretches.new.self in
    let moves = c.in_ok-add_stretches.ensures in
    let sound = sound-after w m options old packets p h
    (reason-is w m options old mid packets p h moves c.refusal.result c.refusal.ensures ∙ c.in_default.is) in
    let run = run-is w m options old mid packets p h moves c.open_run.result c.open_run.ensures ∙ c.in-Some-open_run.is in
    took-begin w m options old packets p h mid c.begin_run.new.self c.in-Some-open_run.run' c.args.at at c.if-self.false moves sound run c.if-run-self.true
    begins) c.begin_run.ensures

pub returns-in-Some-2-clause-adds : goal.returns-in-Some-2-clause-adds
returns-in-Some-2-clause-adds c =
    if-ok c.add_waiting.result
    (λ _ adds w m options packets p at h.
    let old = c.args.self.now in
    let mid = c.add_stretches.new.self in
    let moves = c.in_ok-add_stretches.ensures in
    let sound = sound-after w m options old packets p h
    (reason-is w m options old mid packets p h moves c.refusal.result c.refusal.ensures ∙ c.in_default.is) in
    let run = run-is w m options old mid packets p h moves c.open_run.result c.open_run.ensures ∙ c.in-Some-open_run.is in
    took-more w m options old packets p h mid c.add_waiting.new.self c.in-Some-open_run.run' c.args.at at c.if-self.false moves sound run c.if-run-self.false
    adds)
    c.add_waiting.ensures
