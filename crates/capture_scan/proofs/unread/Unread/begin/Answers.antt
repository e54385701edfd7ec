use Rattle.std.proofs.Common.{◌≡◌, ◌≤◌, length, refl, subst, sym, ◌∙◌, arith}
use Rattle.timing_base.specs.Targets.{is_same_target}
use Rattle.std.specs.Map.{values_of}
use Rattle.std.specs.List.{All}
use Rattle.indexmap.proofs.CallerLemmas.{insert_entry-new}
use Rattle.capture_scan.proofs.Entries.{all-push, have-full, have-pushed, targets_apart}
use Rattle.capture_scan.specs.Scans.{most_told}
use Rattle.capture_scan.proofs.unread.Unread.begin.Goals as goal

-- there is no room for one target more
pub returns-then-len-ge-MOST-clause-stands : goal.returns-then-len-ge-MOST-clause-stands
returns-then-len-ge-MOST-clause-stands c = λ ts s.
    have-full targets_apart (λ t. t) most_told (λ n items. n ≡ length items) c.args.self.now.counts c.args.self.now.more ts c.args.target s
    c.args.target refl c.requires.absent (omega (arith, c.len.ensures.len, c.if-len-ge-MOST.true))

-- a new target stands last
pub invariant_of-self-2-clause-few : goal.invariant_of-self-2-clause-few
invariant_of-self-2-clause-few c =
    let pushed = c.in_ok-insert.ensures.entries ∙ insert_entry-new is_same_target c.args.self.now.counts c.args.target 1 c.requires.absent in
    subst (λ es. All (λ n. n ≤ c.args.self.now.taken) (values_of es)) (sym pushed)
    (all-push (λ n. n ≤ c.args.self.now.taken) c.args.self.now.counts.entries c.args.target 1 (omega (arith, c.requires.few)) c.args.self.now.few)

pub returns-clause-stands : goal.returns-clause-stands
returns-clause-stands c = λ ts s.
    have-pushed targets_apart (λ t. t) most_told (λ n items. n ≡ length items) c.args.self.now.counts c.args.self.now.more ts c.args.target s
    c.insert.new.self c.args.target 1 refl c.requires.absent c.in_ok-insert.ensures.updates
    (c.in_ok-insert.ensures.entries ∙ insert_entry-new is_same_target c.args.self.now.counts c.args.target 1 c.requires.absent)
    (omega (arith, c.len.ensures.len, c.if-len-ge-MOST.false)) refl
