use Rattle.std.proofs.Common.{◌≡◌, ℕ, Option, Some, None, IfSome, position}
use Rattle.std.specs.Map.{keys_of}
use Rattle.timing_base.specs.Targets.{is_same_target}
use Rattle.timing_base.specs.declared.target.Target.{Target}
use Rattle.capture_scan.proofs.Entries.{entry-found, targets_apart}
use Rattle.capture_scan.specs.Places.{HasTarget}
use Rattle.capture_scan.specs.declared.unread.Unread.{Unread}
use Rattle.capture_scan.proofs.unread.Unread.place_of.Goals as goal

by_place : (u : Unread) (target : Target) (o : Option ℕ) → o ≡ position (is_same_target target) (keys_of u.counts.entries) → IfSome o (HasTarget u target)
by_place u target None is = tt
by_place u target (Some i) is = entry-found targets_apart u.counts.entries i target is

-- the entry at the place that was found has the key
pub returns-clause-some : goal.returns-clause-some
returns-clause-some c = by_place c.args.self.now c.args.target c.get_index_of.result c.get_index_of.ensures.index
