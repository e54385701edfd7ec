use Rattle.std.proofs.Common.{◌≡◌, ◌∙◌, sym, ap, subst, length, List, arith}
use Rattle.std.proofs.lemmas.Option.{IfSome_then}
use Rattle.ruled_intake.specs.Lanes.{LaneId}
use Rattle.timing_base.specs.Keys.{keys_of}
use Rattle.flow_worker.specs.crew.Reading.{AreIntakeJobs}
use Rattle.flow_worker.specs.crew.Threads.{AreWorkJobs}
use Rattle.flow_worker.proofs.lemmas.crew.Finding.{each_long, found, if_all, keys-found, made_on, posted_count, read_on, run_is, some_posted}
use Rattle.flow_worker.proofs.lemmas.crew.Running.{can_close}
use Rattle.flow_worker.proofs.lemmas.crew.Starting.{intake_jobs, rows_are, sources_back, work_jobs}
use Rattle.flow_worker.proofs.crew.judge.judge_files.Goals as goal

pub run_threads-requires-clause-run : goal.run_threads-requires-clause-run
run_threads-requires-clause-run g c κs within =
    let count : length c.args.sources.items ≡ c.len-files.result = omega (arith, c.args.sources.ok.0, c.len-files.ensures) in
    let lanes : length c.deref.result.now ≡ c.args.workers = ap length c.deref.ensures.value ∙ c.in_ok-lanes.ensures.made.lane_count in
    record {
      some_media = c.requires.some_media;
      few_media = c.requires.few_media;
      some_files = omega (arith, c.requires.some_files, count);
      few_files = omega (arith, c.requires.few_files, count);
      some_workers = omega (arith, c.requires.some_workers, lanes);
      few_workers = omega (arith, c.requires.few_workers, lanes);
    }

pub run_threads-requires-clause-workers : goal.run_threads-requires-clause-workers
run_threads-requires-clause-workers g c κs within =
    subst (λ (l : List LaneId). AreWorkJobs l c.in_ok-lanes.field-0.workers.items) (sym c.deref.ensures.value)
    (work_jobs _ _ c.in_ok-lanes.field-0.lanes.items c.in_ok-lanes.field-0.workers.items _ c.in_ok-lanes.ensures.made)

pub run_threads-requires-clause-intakes : goal.run_threads-requires-clause-intakes
run_threads-requires-clause-intakes g c κs within =
    let count : length c.args.sources.items ≡ c.len-files.result = omega (arith, c.args.sources.ok.0, c.len-files.ensures) in
    subst (λ (l : List LaneId). AreIntakeJobs l c.in_ok-intakes.intakes.items) (sym c.deref.ensures.value)
    (intake_jobs _ _ c.in_ok-lanes.field-0.lanes.items _ _ c.args.sources.items c.in_ok-intakes.intakes.items c.in_ok-lanes.ensures.made c.in_ok-intakes.ensures
    count
    (omega (arith, c.requires.few_files, count)))

pub deal_all-requires : goal.deal_all-requires
deal_all-requires g c =
    let made = made_on _ _ _ c.deref.result.now _ _ c.deref.ensures.value c.in_ok-lanes.ensures.made in
    each_long c.in_ok-lanes.field-0.lanes.items (length c.deref.result.now) c.in_ok-sources.field-0.rows.items made.lane_count
    (rows_are g.S.Source.name g.S.Source.left g.S.Source.faults _ c.in_ok-lanes.field-0.lanes.items _ c.args.sources.items c.in_ok-intakes.intakes.items
    c.in_ok-worked.read.items c.in_ok-sources.field-0.rows.items
    c.in_ok-intakes.ensures (read_on _ _ _ _ _ _ _ _ c.deref.ensures.value c.in_ok-worked.ensures.read) c.in_ok-sources.ensures.rows)

pub found_whole-found-requires : goal.found_whole-found-requires
found_whole-found-requires g c =
    let count : length c.args.sources.items ≡ c.len-files.result = omega (arith, c.args.sources.ok.0, c.len-files.ensures) in
    let made = made_on _ _ _ c.deref.result.now _ _ c.deref.ensures.value c.in_ok-lanes.ensures.made in
    let lanes : length c.deref.result.now ≡ c.args.workers = ap length c.deref.ensures.value ∙ c.in_ok-lanes.ensures.made.lane_count in
    record {
      few_media = c.requires.few_media;
      few_files = omega (arith, c.requires.few_files, count);
      some_workers = omega (arith, c.requires.some_workers, lanes);
      few_workers = omega (arith, c.requires.few_workers, lanes);
      count = posted_count _ _ _ _ _ _ _ _ made c.in_ok-worked.ensures.worked c.in-Ok.ensures.posted;
      row_for = _;
      posted_are = some_posted _ _ _ _ _ _ _ _ made c.in_ok-worked.ensures.worked c.in-Ok.ensures.posted;
    }

pub close_all-requires : goal.close_all-requires
close_all-requires g c =
    let count : length c.args.sources.items ≡ c.len-files.result = omega (arith, c.args.sources.ok.0, c.len-files.ensures) in
    let made = made_on _ _ _ c.deref.result.now _ _ c.deref.ensures.value c.in_ok-lanes.ensures.made in
    can_close _ _ _ _ _ _
    (run_is g.S.Source.name g.S.Source.left g.S.Source.faults _ _ _ _ _ c.args.sources.items _ _ _ _ _ _ _
    made c.in_ok-intakes.ensures count c.in_ok-worked.ensures.worked c.in-Ok.ensures.takers
    (read_on _ _ _ _ _ _ _ _ c.deref.ensures.value c.in_ok-worked.ensures.read) c.in_ok-sources.ensures.rows c.in-Ok-deal_all.ensures)

pub returns-clause-back : goal.returns-clause-back
returns-clause-back g c =
    sources_back g.S.Source.name g.S.Source.left g.S.Source.faults _ _ _ _ _ _ _ _ c.in_ok-intakes.ensures c.in_ok-worked.ensures.read
    c.in_ok-sources.ensures.notes c.in_ok-sources.ensures.sources

pub returns-in_default-clause-back : goal.returns-in_default-clause-back
returns-in_default-clause-back g c =
    sources_back g.S.Source.name g.S.Source.left g.S.Source.faults _ _ _ _ _ _ _ _ c.in_ok-intakes.ensures c.in_ok-worked.ensures.read
    (c.unfound.ensures.notes ∙ c.in_ok-sources.ensures.notes) (c.unfound.ensures.sources ∙ c.in_ok-sources.ensures.sources)

pub returns-in_default-deal_all-clause-back : goal.returns-in_default-deal_all-clause-back
returns-in_default-deal_all-clause-back g c =
    sources_back g.S.Source.name g.S.Source.left g.S.Source.faults _ _ _ _ _ _ _ _ c.in_ok-intakes.ensures c.in_ok-worked.ensures.read
    (c.unfound-in_default-deal_all.ensures.notes ∙ c.in_ok-sources.ensures.notes)
    (c.unfound-in_default-deal_all.ensures.sources ∙ c.in_ok-sources.ensures.sources)

pub returns-clause-notes : goal.returns-clause-notes
returns-clause-notes g c =
    IfSome_then c.found_whole-found.result c.found_whole-found.ensures.notes (λ _ notes. notes ∙ c.deref-3.ensures.value)

pub returns-clause-keys : goal.returns-clause-keys
returns-clause-keys g c =
    let count : length c.args.sources.items ≡ c.len-files.result = omega (arith, c.args.sources.ok.0, c.len-files.ensures) in
    let made = made_on _ _ _ c.deref.result.now _ _ c.deref.ensures.value c.in_ok-lanes.ensures.made in
    IfSome_then c.found_whole-found.result c.found_whole-found.ensures.rows
    (λ found are.
    keys-found _ _ _ _ _ _ _ _ found.rows.items made c.in_ok-worked.ensures.worked c.in-Ok.ensures.posted are
    ∙ ap (λ n. keys_of c.args.joined n (length c.args.media.now)) (sym count))

pub returns-clause-told : goal.returns-clause-told
returns-clause-told g c =
    let count : length c.args.sources.items ≡ c.len-files.result = omega (arith, c.args.sources.ok.0, c.len-files.ensures) in
    let made = made_on _ _ _ c.deref.result.now _ _ c.deref.ensures.value c.in_ok-lanes.ensures.made in
    let lanes : length c.deref.result.now ≡ c.args.workers = ap length c.deref.ensures.value ∙ c.in_ok-lanes.ensures.made.lane_count in
    if_all c.found_whole-found.result _ _ _ _ c.found_whole-found.ensures.notes c.found_whole-found.ensures.whole c.found_whole-found.ensures.rows
    (λ whole notes are_whole are texts are_texts.
    found g.S.Source.name g.S.Source.left g.S.Source.faults _ _ _ _ _ c.args.sources.items _ _ _ _ _ _ whole.notes.items _ _ whole.rows.items texts
    (record { some = omega (arith, c.requires.some_workers, lanes); targets = c.requires.targets })
    made c.in_ok-intakes.ensures count c.in_ok-worked.ensures.worked c.in-Ok.ensures.takers c.in-Ok.ensures.posted
    (read_on _ _ _ _ _ _ _ _ c.deref.ensures.value c.in_ok-worked.ensures.read)
    (notes ∙ c.deref-3.ensures.value ∙ c.in_ok-sources.ensures.notes) c.in_ok-sources.ensures.rows
    c.in-Ok-deal_all.ensures
    c.close_all.ensures are_whole are are_texts)
