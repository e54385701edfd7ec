use Rattle.std.proofs.Common.{◌≤◌, length, arith}
use Rattle.std.proofs.lemmas.List.{length-map}
use Rattle.std.specs.Prelude.{map}
use Rattle.timing_top.proofs.Rows.{job-fits}
use Rattle.timing_top.proofs.laws.rows_have_words.Goals as goal

pub returns : goal.returns
returns c = λ job media text files notes is records.
    let few : length (map text job.captures) ≤ 16 = omega (arith, length-map job.captures text, is.job_is.captures_are.few) in
    job-fits job media (map text job.captures) files notes is.job_is.options_are few is.media_are is.bytes records
