use Rattle.std.proofs.Common.{◌≡◌, ◌≤◌, ◌-◌, false, None, ◌∙◌, sym, arith}
use Rattle.timing_base.specs.Flows.{is_cut, packet}
use Rattle.frame_group.proofs.Faults.{cut-none, order-timestamp}
use Rattle.frame_group.proofs.before.Before.order_fault.Goals as goal
use Rattle.frame_group.proofs.before.Before.order_fault.Goals.{in_default-via-in-Some+else-so_far-ge-MOST_CUTS, in_default-via-in-None}

pub returns-in-None : goal.returns-in-None
returns-in-None c = λ packets i after read cut counted.
    let same : c.args.cut ≡ None = elim c.in_default.branch [
      | in_default-via-in-Some+else-so_far-ge-MOST_CUTS w ↦ cc
      | in_default-via-in-None w ↦ sym w.cut-is ∙ c.in-None.is
    ] in
    let none : is_cut packets i ≡ false = cut-none packets i (sym cut ∙ same) in
    let order : (packet packets (i - 1)).at ≤ (packet packets i).at = omega (arith, after.at, read.at) in
    c.timestamp_fault.ensures packets i c.args.at after read none ∙ sym (order-timestamp packets i none order)
