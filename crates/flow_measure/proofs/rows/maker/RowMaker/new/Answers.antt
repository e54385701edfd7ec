use Rattle.std.proofs.Common.{refl}
use Rattle.flow_measure.proofs.lemmas.rows.Grouping.{rows-none}
use Rattle.flow_measure.proofs.rows.maker.RowMaker.new.Goals as goal

pub returns : goal.returns
returns c = λ shift.
    rows-none c.args.params.now.media shift c.args.run c.args.params.now.n _ refl c.new.ensures.n c.new.ensures.seen c.new.ensures.place
    c.new.ensures.group refl
