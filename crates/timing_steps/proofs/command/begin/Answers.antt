use Rattle.std.proofs.Common.{rules}
use Rattle.timing_steps.specs.Answers.{seen_of}
use Rattle.timing_steps.proofs.Beginnings.{settled-early, settled-refused}
use Rattle.timing_steps.proofs.command.begin.Goals as goal

pub returns-in-Err-clause-settled : goal.returns-in-Err-clause-settled
returns-in-Err-clause-settled g c =
    settled-refused (g.C.Command.query c.args.command.now) (seen_of g.H.Shelf c.args.shelf.now c.fetch_session.new.shelf) c.in-Err.fault c.silent.result
    (search rules) c.silent.ensures

pub returns-in-Some-clause-settled : goal.returns-in-Some-clause-settled
returns-in-Some-clause-settled g c =
    settled-early (g.C.Command.query c.args.command.now) (seen_of g.H.Shelf c.args.shelf.now c.fetch_session.new.shelf) c.in-Ok.session
    c.in-Some.answer (search rules) (search rules) (search rules)

pub returns-in-None-clause-begun : goal.returns-in-None-clause-begun
returns-in-None-clause-begun g c = record {
  read = search rules;
  targets = search rules;
  unsettled = search rules;
}
