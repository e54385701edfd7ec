use Rattle.std.proofs.Common.{◌≤◌, ◌++◌, ◌∷◌, [], sym, subst}
use Rattle.run_meter.specs.Runs.{part_of}
use Rattle.timing_explain.specs.details.Told.{Finds, IsFoundRun}
use Rattle.timing_explain.proofs.Found.{found-more, found-part}
use Rattle.timing_explain.proofs.details.meter.DetailsMeterRunMeter.close.Goals as goal

pub returns : goal.returns
returns c = λ past shift r over fed committed size judged h tells.
    let params = c.args._params.now in
    let m = params.media in
    let s = c.args.self in
    let part = part_of r c.args._judged.now committed in
    let some : 1 ≤ r.n = subst (λ n. 1 ≤ n) (sym size) params.n_some in
    let found = found-part m shift r c.args._judged.now committed s.committed c.finish.result params.media_is some judged h.committed_are c.finish.ensures in
    let named = subst (λ k. IsFoundRun m shift part (record { run = k; packets = s.committed.walk.seen; details = c.finish.result })) (sym h.run_is) found in
    subst (Finds m shift (over ++ part ∷ [])) (sym c.take.ensures) (found-more m shift over part c.args.out.now.found _ tells named)
