use Rattle.std.proofs.Common.{rules, arith, ap, length, ◌≡◌, ℕ, Err, sym, subst}
use Rattle.std.specs.Prelude.{IfErr}
use Rattle.pcapng_reader.specs.Classic.{classic_texts}
use Rattle.pcapng_reader.specs.Sources.{faults_of, left_of, name_of}
use Rattle.timing_base.specs.Targets.{HaveOwnTargets}
use Rattle.timing_report.specs.declared.status.Input.TheVariants as input
use Rattle.timing_steps.specs.Answers.{AreThere, CaptureRose, OnReadFault, seen_of}
use Rattle.timing_steps.specs.Fetched.{AreFetched}
use Rattle.timing_steps.specs.Queries.{FollowsCaptures}
use Rattle.timing_steps.proofs.Readings.{fetched-fresh, fetched-length}
use Rattle.timing_top.specs.Report.{check_query}
use Rattle.timing_top.proofs.Choosing.{chosen-targets}
use Rattle.timing_top.proofs.Begun.{follows-failed, follows-report, judged-rose}
use Rattle.timing_top.proofs.check.answer_many.Goals as goal

pub judge_many-requires-clause-ready : goal.judge_many-requires-clause-ready
judge_many-requires-clause-ready g c κs within =
    let texts = classic_texts (g.H.Shelf.text c.args.shelf.now) in
    let long = fetched-length (name_of g.H.Source.Source.name) (left_of g.H.Source.Source.left) (faults_of g.H.Source.Source.faults) texts
    c.as_slice.result.now c.in_ok-sources.sources.items c.in_ok-sources.ensures.fetched in
    record {
      few = omega (arith, long, ap length c.as_slice.ensures, c.job.invariant.captures_are.few);
      fresh =
          fetched-fresh (name_of g.H.Source.Source.name) (left_of g.H.Source.Source.left) (faults_of g.H.Source.Source.faults) texts
          c.as_slice.result.now c.in_ok-sources.sources.items c.in_ok-sources.ensures.fetched;
      few_media = c.judged_media-media.ensures.few;
    }

pub judge_many-requires-clause-some : goal.judge_many-requires-clause-some
judge_many-requires-clause-some g c κs within =
    let long = fetched-length (name_of g.H.Source.Source.name) (left_of g.H.Source.Source.left) (faults_of g.H.Source.Source.faults)
    (classic_texts (g.H.Shelf.text c.args.shelf.now)) c.as_slice.result.now c.in_ok-sources.sources.items c.in_ok-sources.ensures.fetched in
    omega (arith, long, ap length c.as_slice.ensures, c.job.invariant.captures_are.some)

pub judge_many-requires-clause-some_media : goal.judge_many-requires-clause-some_media
judge_many-requires-clause-some_media g c κs within =
    c.judged_media-media.ensures.some c.requires.unsettled

pub judge_many-requires-clause-targets : goal.judge_many-requires-clause-targets
judge_many-requires-clause-targets g c κs within =
    subst HaveOwnTargets (sym c.judged_media-media.ensures.are) (chosen-targets c.args.job.now.media c.args.session.now c.requires.targets)

pub returns-in_err-found-clause-follows : goal.returns-in_err-found-clause-follows
returns-in_err-found-clause-follows g c =
    let texts = classic_texts (g.H.Shelf.text c.args.shelf.now) in
    let asked : c.as_slice.result.now ≡ c.args.job.now.captures = search rules in
    let failed : c.from_residual-in_err-found.result ≡ Err c.in_err-found.field-0.0 = search rules in
    subst (FollowsCaptures (check_query c.args.job.now) c.args.session.now (seen_of g.H.Shelf c.args.shelf.now c.judge_many.new.shelf)) (sym failed)
    (follows-failed g.H.Shelf g.H.Source.Source c.args.job.now c.args.shelf.now c.fetch_captures.new.shelf c.judge_many.new.shelf c.args.session.now
    c.in_ok-sources.sources.items _ _ c.judge_many.result
    (subst (AreThere (g.H.Shelf.lacks c.args.shelf.now)) asked c.in_ok-sources.ensures.there)
    (subst (λ names. AreFetched (name_of g.H.Source.Source.name) (left_of g.H.Source.Source.left) (faults_of g.H.Source.Source.faults) texts names
    c.in_ok-sources.sources.items) asked c.in_ok-sources.ensures.fetched)
    c.fetch_captures.ensures.stays c.judge_many.ensures.judged c.in_err-found.field-0.0 c.in_err-found.was)

pub returns-in_err-found-clause-cause : goal.returns-in_err-found-clause-cause
returns-in_err-found-clause-cause g c =
    let texts = classic_texts (g.H.Shelf.text c.args.shelf.now) in
    let asked : c.as_slice.result.now ≡ c.args.job.now.captures = search rules in
    let failed : c.from_residual-in_err-found.result ≡ Err c.in_err-found.field-0.0 = search rules in
    subst (λ r. IfErr r (λ e. OnReadFault e (λ x. (number : ℕ) × (x ≡ input.Capture number) × CaptureRose (g.H.Shelf.faults c.args.shelf.now)
    (g.H.Shelf.faults c.judge_many.new.shelf) c.args.job.now.captures number))) (sym failed)
    (judged-rose g.H.Shelf g.H.Source.Source c.args.job.now c.args.shelf.now c.fetch_captures.new.shelf c.judge_many.new.shelf c.args.session.now
    c.in_ok-sources.sources.items _ _ c.judge_many.result
    (subst (AreThere (g.H.Shelf.lacks c.args.shelf.now)) asked c.in_ok-sources.ensures.there)
    (subst (λ names. AreFetched (name_of g.H.Source.Source.name) (left_of g.H.Source.Source.left) (faults_of g.H.Source.Source.faults) texts names
    c.in_ok-sources.sources.items) asked c.in_ok-sources.ensures.fetched)
    c.fetch_captures.ensures.stays c.judge_many.ensures.judged c.in_err-found.field-0.0 c.in_err-found.was)

pub returns-clause-follows : goal.returns-clause-follows
returns-clause-follows g c =
    let texts = classic_texts (g.H.Shelf.text c.args.shelf.now) in
    let asked : c.as_slice.result.now ≡ c.args.job.now.captures = search rules in
    follows-report g.H.Shelf g.H.Source.Source c.args.job.now c.args.shelf.now c.fetch_captures.new.shelf c.judge_many.new.shelf c.args.session.now
    c.in_ok-sources.sources.items _ _ c.judge_many.result
    (subst (AreThere (g.H.Shelf.lacks c.args.shelf.now)) asked c.in_ok-sources.ensures.there)
    (subst (λ names. AreFetched (name_of g.H.Source.Source.name) (left_of g.H.Source.Source.left) (faults_of g.H.Source.Source.faults) texts names
    c.in_ok-sources.sources.items) asked c.in_ok-sources.ensures.fetched)
    c.fetch_captures.ensures.stays c.judge_many.ensures.judged c.report_chosen.result c.in_ok-found.found c.in_ok-found.was (search rules)
    c.report_chosen.ensures.text c.report_chosen.ensures.status c.report_chosen.ensures.memory
