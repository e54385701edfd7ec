use Rattle.std.proofs.Common.{◌+◌, ◌*◌, ap, ◌∙◌, sym}
use Rattle.timing_base.specs.declared.media.Kind.TheVariants.{N, NL, W}
use Rattle.sender_params.specs.Limits.{c_max_of}
use Rattle.timing_explain.proofs.details.overfull.OverfullMeters.end_group.Goals as goal

pub returns-clause-stands : goal.returns-clause-stands
returns-clause-stands c = λ m n bucket rec stamp seen h all.
    let s = c.args.self.now in
    record {
      narrow_counts = c.end_group.ensures.stands n (c_max_of m n N) bucket rec stamp seen h.narrow_counts all;
      linear_counts = c.end_group-2.ensures.stands n (c_max_of m n NL) bucket rec stamp seen h.linear_counts
          (all ∙ ap (λ k. k * n + n) (sym s.same_linear));
      wide_counts = c.end_group-3.ensures.stands n (c_max_of m n W) bucket rec stamp seen h.wide_counts (all ∙ ap (λ k. k * n + n) (sym s.same_wide));
    }
