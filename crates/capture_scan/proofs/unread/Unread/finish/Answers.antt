use Rattle.std.proofs.Common.{◌≡◌, ℕ, ap, length, map, rules, ◌∙◌}
use Rattle.std.specs.Map.Iter.{deref_pair}
use Rattle.std.proofs.lemmas.Map.Iter.{iter_end}
use Rattle.timing_base.specs.declared.target.Target.{Target}
use Rattle.capture_scan.proofs.Entries.{map-shown, map-told, targets_apart}
use Rattle.capture_scan.specs.Scans.{most_told, unread_of}
use Rattle.capture_scan.specs.declared.found.UnreadTarget.{UnreadTarget}
use Rattle.capture_scan.proofs.unread.Unread.finish.Goals as goal

-- what is told of an entry
abbrev told_of : Target × ℕ → UnreadTarget
told_of e = record { target = e.0; packets = e.1 }

-- what is told of all entries is what is told of the targets
pub returns : goal.returns
returns c = λ ts s.
    let shown : map deref_pair c.loop-target.yielded ≡ c.args.self.now.counts.entries = search (rules, iter_end) in
    c.loop-target.invariant ∙ (map-shown told_of c.loop-target.yielded ∙ (ap (map told_of) shown
    ∙ map-told targets_apart (λ t. t) most_told (λ n items. n ≡ length items) c.args.self.now.counts c.args.self.now.more ts s c.iter-target-items.ensures.unique
    told_of (unread_of ts) (λ k n h. ap (λ (m : ℕ). told_of (k, m)) h)))
