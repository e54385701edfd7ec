use Rattle.std.proofs.Common.{◌≤◌, subst, sym, ◌∙◌, arith}
use Rattle.std.specs.List.{All}
use Rattle.std.specs.Map.{values_of}
use Rattle.indexmap.proofs.CallerLemmas.{insert_entry-new}
use Rattle.capture_scan.proofs.Entries.{all-push, have-full, have-pushed, streams_apart}
use Rattle.capture_scan.specs.Scans.{is_same_stream, most_told, stream_key}
use Rattle.capture_scan.specs.Stands.{Counts}
use Rattle.capture_scan.proofs.streams.Streams.begin.Goals as goal

-- there is no room for one stream more
pub returns-then-len-ge-MOST-clause-stands : goal.returns-then-len-ge-MOST-clause-stands
returns-then-len-ge-MOST-clause-stands c = λ ps s.
    have-full streams_apart stream_key most_told Counts c.args.self.now.counters c.args.self.now.more ps c.args.packet.now s
    c.args.key c.requires.key c.requires.absent (omega (arith, c.len.ensures.len, c.if-len-ge-MOST.true))

-- a new stream stands last
pub invariant_of-self-2-clause-few : goal.invariant_of-self-2-clause-few
invariant_of-self-2-clause-few c =
    let pushed = c.in_ok-insert.ensures.entries ∙ insert_entry-new is_same_stream c.args.self.now.counters c.args.key c.first.result c.requires.absent in
    subst (λ es. All (λ v. v.stream.packets ≤ c.args.self.now.taken) (values_of es)) (sym pushed)
    (all-push (λ v. v.stream.packets ≤ c.args.self.now.taken) c.args.self.now.counters.entries c.args.key c.first.result
    (omega (arith, c.first.ensures.one, c.requires.few)) c.args.self.now.few)

pub returns-clause-stands : goal.returns-clause-stands
returns-clause-stands c = λ ps s.
    have-pushed streams_apart stream_key most_told Counts c.args.self.now.counters c.args.self.now.more ps c.args.packet.now s
    c.insert.new.self c.args.key c.first.result c.requires.key c.requires.absent c.in_ok-insert.ensures.updates
    (c.in_ok-insert.ensures.entries ∙ insert_entry-new is_same_stream c.args.self.now.counters c.args.key c.first.result c.requires.absent)
    (omega (arith, c.len.ensures.len, c.if-len-ge-MOST.false)) c.first.ensures.counts
