use Rattle.std.proofs.Common.{◌∙◌, map, refl, Some}
use Rattle.std.specs.Prelude.{string_bytes}
use Rattle.timing_steps.specs.Ran.{output_of}
use Rattle.st2110_timing.proofs.start.start.Goals as goal

-- src/start.rt:58:1
pub returns-clause-started : goal.returns-clause-started
returns-clause-started g c = record {
  arguments = Some (map string_bytes c.deref.result.now);
  ends = c.run-status.result;
  line = output_of g.K.Sink c.args.err.now c.run-status.new.err;
  ran = c.run-status.ensures.ran;
  begins = refl;
  more = c.explain_status.ensures.0;
  explained = c.explain_status.ensures.1;
  code_is = c.from-2.ensures ∙ c.code-2.ensures;
}
