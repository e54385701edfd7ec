use Rattle.flow_worker.proofs.crew.reading.read_one.Goals as goal

pub intake-done-requires-clause-limits : goal.intake-done-requires-clause-limits
intake-done-requires-clause-limits g c = λ κs outlives. record {
  file_is = c.requires.job.file;
  some_media = c.requires.run.some_media;
  few_media = c.requires.run.few_media;
  some_lanes = c.requires.run.some_workers;
  few_lanes = c.requires.run.few_workers;
}

pub returns : goal.returns
returns g c =
    let told = c.intake-done.ensures in
    record { passes = told.passes; told = told.told; name_is = told.name; later = told.later; failed = told.failed }
