use Rattle.std.proofs.Common.{◌≤◌, ◌+◌, ◌∙◌, arith}
use Rattle.std.specs.Map.{values_of}
use Rattle.std.proofs.lemmas.List.Elements.{All-weaker}
use Rattle.capture_scan.proofs.Entries.{all-at, all-set, have-written, key-same, streams_apart}
use Rattle.capture_scan.specs.Scans.{most_told, stream_key}
use Rattle.capture_scan.specs.Stands.{Counts}
use Rattle.capture_scan.proofs.streams.Streams.take.Goals as goal

-- no stream has more packets than were taken
pub take-requires : goal.take-requires
take-requires c =
    let few = all-at (λ v. v.stream.packets ≤ c.args.self.now.taken) c.args.self.now.counters.entries _ _ _ c.pair_mut-counter.ensures.value
    c.args.self.now.few in
    record { few = omega (arith, few, c.requires.few) }

pub invariant_of-self-in-Some : goal.invariant_of-self-in-Some
invariant_of-self-in-Some c =
    let taken = c.args.self.now.taken in
    let few = all-at (λ v. v.stream.packets ≤ taken) c.args.self.now.counters.entries _ _ _ c.pair_mut-counter.ensures.value
    c.args.self.now.few in
    record {
      few = all-set (λ v. v.stream.packets ≤ taken + 1) c.args.self.now.counters.entries c.in-Some.place c.take.new.self
          (omega (arith, few, c.take.ensures.packets))
          (All-weaker (λ v. v.stream.packets ≤ taken) (λ v. v.stream.packets ≤ taken + 1) (λ v h. omega (arith, h))
          (values_of c.args.self.now.counters.entries) c.args.self.now.few);
      few_more = omega (arith, c.args.self.now.few_more);
    }

-- the counter of the stream takes the packet
pub returns-in-Some-clause-stands : goal.returns-in-Some-clause-stands
returns-in-Some-clause-stands c = λ ps s.
    have-written streams_apart stream_key most_told Counts c.args.self.now.counters c.args.self.now.more ps c.args.packet.now s
    c.in-Some.place _ c.pair_mut-counter.result.1.now c.take.new.self c.pair_mut-counter.ensures.unique c.pair_mut-counter.ensures.value
    (key-same _ _ _ _ _ c.pair_mut-counter.ensures.value c.in-Some.ensures.some.1 ∙ c.of-key.ensures)
    c.take.ensures.counts
