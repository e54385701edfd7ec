use Rattle.timing_watch.proofs.Peaks.{open-peaks}
use Rattle.timing_watch.proofs.laws.peaks_agree.Goals as goal

pub returns : goal.returns
returns c = λ w m options packets part stretches opens are. open-peaks w m options packets part stretches opens are
