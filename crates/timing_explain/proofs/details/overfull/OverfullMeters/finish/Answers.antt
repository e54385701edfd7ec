use Rattle.std.proofs.Common.{subst}
use Rattle.timing_base.specs.declared.media.Kind.TheVariants.{N, NL, W}
use Rattle.sender_params.specs.Limits.{c_max_of}
use Rattle.timing_explain.specs.details.Overfull.{FindsOverfull}
use Rattle.timing_explain.proofs.details.overfull.OverfullMeters.finish.Goals as goal

pub returns : goal.returns
returns c = λ m n bucket rec stamp seen h.
    let s = c.args.self.now in (
      c.finish.ensures n (c_max_of m n N) bucket rec stamp seen h.narrow_counts,
      subst (λ k. FindsOverfull n (c_max_of m n NL) bucket rec stamp seen k c.finish-2.result) s.same_linear
          (c.finish-2.ensures n (c_max_of m n NL) bucket rec stamp seen h.linear_counts),
      subst (λ k. FindsOverfull n (c_max_of m n W) bucket rec stamp seen k c.finish-3.result) s.same_wide
          (c.finish-3.ensures n (c_max_of m n W) bucket rec stamp seen h.wide_counts),
    )
