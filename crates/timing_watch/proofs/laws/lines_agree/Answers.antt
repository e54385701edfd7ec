use Rattle.timing_watch.proofs.Agreeing.{end-says, packet-says}
use Rattle.timing_watch.proofs.laws.lines_agree.Goals as goal

pub returns-clause-packet : goal.returns-clause-packet
returns-clause-packet c = λ w m options before p text h. packet-says w m options before p text h

pub returns-clause-end : goal.returns-clause-end
returns-clause-end c = λ w m options packets text h. end-says w m options packets text h
