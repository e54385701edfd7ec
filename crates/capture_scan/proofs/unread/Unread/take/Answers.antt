use Rattle.std.proofs.Common.{◌≡◌, ◌≤◌, ◌+◌, ℕ, length, ap, sym, ◌∙◌, arith}
use Rattle.std.specs.Map.{values_of}
use Rattle.std.proofs.lemmas.List.{length_push}
use Rattle.std.proofs.lemmas.List.Elements.{All-weaker}
use Rattle.capture_scan.proofs.Entries.{all-at, all-set, have-written, key-same, targets_apart}
use Rattle.capture_scan.specs.Scans.{most_told}
use Rattle.capture_scan.proofs.unread.Unread.take.Goals as goal

-- no target has more packets than were taken
pub overflow_add-count : goal.overflow_add-count
overflow_add-count c =
    let few = all-at (λ n. n ≤ c.args.self.now.taken) c.args.self.now.counts.entries _ _ _ c.pair_mut-count.ensures.value c.args.self.now.few in
    omega (arith, few, c.requires.few)

pub invariant_of-self-in-Some : goal.invariant_of-self-in-Some
invariant_of-self-in-Some c =
    let taken = c.args.self.now.taken in
    let few = all-at (λ n. n ≤ taken) c.args.self.now.counts.entries _ _ _ c.pair_mut-count.ensures.value c.args.self.now.few in
    record {
      few = all-set (λ n. n ≤ taken + 1) c.args.self.now.counts.entries c.in-Some.place (c.pair_mut-count.result.1.now + 1) (omega (arith, few))
          (All-weaker (λ n. n ≤ taken) (λ n. n ≤ taken + 1) (λ n h. omega (arith, h)) (values_of c.args.self.now.counts.entries) c.args.self.now.few);
      few_more = omega (arith, c.args.self.now.few_more);
    }

-- the count of the target goes on
pub returns-in-Some-clause-stands : goal.returns-in-Some-clause-stands
returns-in-Some-clause-stands c = λ ts s.
    have-written targets_apart (λ t. t) most_told (λ n items. n ≡ length items) c.args.self.now.counts c.args.self.now.more ts c.args.target s
    c.in-Some.place _ c.pair_mut-count.result.1.now (c.pair_mut-count.result.1.now + 1) c.pair_mut-count.ensures.unique c.pair_mut-count.ensures.value
    (key-same _ _ _ _ _ c.pair_mut-count.ensures.value c.in-Some.ensures.some.1)
    (λ items e. ap (λ (n : ℕ). n + 1) e ∙ sym (length_push items c.args.target))
