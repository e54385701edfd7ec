use Rattle.std.proofs.Common.{rules, ap, sym, ◌∙◌}
use Rattle.sender_params.specs.Limits.{c_max_of}
use Rattle.fail_interval.proofs.kind.KindMeter.new.Goals as goal

pub returns-clause-stands : goal.returns-clause-stands
returns-clause-stands c =
    let p = c.args.params.now in
    record {
      vrx = c.new.ensures.stands p;
      verdict = search rules;
      c_max = c.c_max.ensures ∙ ap (c_max_of p.media p.n) (sym c.new.ensures.kind);
    }
