use Rattle.std.proofs.Common.{◌≡◌, ◌+◌, ◌-◌, take, drop, rules, ap, ◌∙◌}
use Rattle.timing_outside.proofs.Fronts.{piece_copied}
use Rattle.timing_outside.proofs.text.Text.give.Goals as goal

pub returns-clause-bytes : goal.returns-clause-bytes
returns-clause-bytes c =
    let t = c.args.self.now in
    let n = c.min-count.result in
    let copied : c.copy_from_slice.new.self ≡ take ((t.at + n) - t.at) (drop t.at t.bytes.items) =
    c.copy_from_slice.ensures.after ∙ ap (λ b. take ((t.at + n) - t.at) (drop t.at b)) c.deref.ensures.value in
    piece_copied t.bytes.items c.copy_from_slice.new.self _ t.at n copied (search rules)
