use Rattle.std.proofs.Common.{arith, ap, length, ◌≡◌, ◌∙◌, ℕ, List, sym, subst}
use Rattle.std.proofs.lemmas.Result.{IfOk-from_err}
use Rattle.pcapng_reader.specs.Classic.{classic_texts}
use Rattle.pcapng_reader.specs.Sources.{faults_of, left_of, name_of}
use Rattle.timing_base.specs.Jobs.{SkewJob}
use Rattle.timing_steps.specs.Answers.{AreThere, AreTold}
use Rattle.timing_steps.proofs.Readings.{fetched-fresh, fetched-length}
use Rattle.timing_steps.proofs.Seeing.{stays-then}
use Rattle.timing_reach.specs.skew.Comparing.{IsComparedIn}
use Rattle.timing_reach.proofs.Comparings.{cause-before, cause-passed, on-ok}
use Rattle.timing_reach.proofs.Takings.{if-ok}
use Rattle.timing_reach.proofs.skew.compare.compare.Goals as goal

pub fetch_captures-requires : goal.fetch_captures-requires
fetch_captures-requires g c = record { few = omega (arith, ap length c.as_slice.ensures, c.job.invariant.few) }

pub returns-in_err-sources-clause-told : goal.returns-in_err-sources-clause-told
returns-in_err-sources-clause-told g c =
    IfOk-from_err c.from_residual.result (λ compared. (read : List (List ℕ))
    → AreTold (classic_texts (g.H.Shelf.text c.args.shelf.now)) c.args.job.now.captures read
    → IsComparedIn read c.args.first.now c.args.second.now compared)
    c.from_residual.ensures.0

pub returns-in_err-sources-clause-cause : goal.returns-in_err-sources-clause-cause
returns-in_err-sources-clause-cause g c =
    let asked : c.as_slice.result.now ≡ c.args.job.now.captures = c.as_slice.ensures ∙ ap (λ (job : SkewJob). job.captures) c.job.view_is in
    cause-passed c.from_residual.result c.in_err-sources.field-0.0 (g.H.Shelf.faults c.args.shelf.now)
    (g.H.Shelf.faults c.fetch_captures.new.shelf) c.as_slice.result.now c.args.job.now.captures asked
    c.from_residual.ensures.1 c.in_err-sources.ensures.cause

pub returns-in_err-sources-clause-there : goal.returns-in_err-sources-clause-there
returns-in_err-sources-clause-there g c =
    IfOk-from_err c.from_residual.result (λ _. AreThere (g.H.Shelf.lacks c.args.shelf.now) c.args.job.now.captures) c.from_residual.ensures.0

pub returns-in_err-sources-clause-stays : goal.returns-in_err-sources-clause-stays
returns-in_err-sources-clause-stays g c = c.fetch_captures.ensures.stays

pub read_each-requires-clause-few : goal.read_each-requires-clause-few
read_each-requires-clause-few g c =
    let long = fetched-length (name_of g.H.Source.Source.name) (left_of g.H.Source.Source.left) (faults_of g.H.Source.Source.faults)
    (classic_texts (g.H.Shelf.text c.args.shelf.now)) c.as_slice.result.now c.in_ok-sources.sources.items
    c.in_ok-sources.ensures.fetched in
    omega (arith, long, ap length c.as_slice.ensures, c.job.invariant.few)

pub read_each-requires-clause-fresh : goal.read_each-requires-clause-fresh
read_each-requires-clause-fresh g c =
    fetched-fresh (name_of g.H.Source.Source.name) (left_of g.H.Source.Source.left) (faults_of g.H.Source.Source.faults)
    (classic_texts (g.H.Shelf.text c.args.shelf.now)) c.as_slice.result.now c.in_ok-sources.sources.items
    c.in_ok-sources.ensures.fetched

pub returns-clause-told : goal.returns-clause-told
returns-clause-told g c =
    let texts = classic_texts (g.H.Shelf.text c.args.shelf.now) in
    let asked : c.as_slice.result.now ≡ c.args.job.now.captures = c.as_slice.ensures ∙ ap (λ (job : SkewJob). job.captures) c.job.view_is in
    if-ok c.read_each.result
    (λ compared told read t. told texts c.as_slice.result.now read c.in_ok-sources.ensures.fetched
    (subst (λ (names : List (List ℕ)). AreTold texts names read) (sym asked) t)) c.read_each.ensures.told

pub returns-clause-cause : goal.returns-clause-cause
returns-clause-cause g c =
    let asked : c.as_slice.result.now ≡ c.args.job.now.captures = c.as_slice.ensures ∙ ap (λ (job : SkewJob). job.captures) c.job.view_is in
    cause-before c.read_each.result (g.H.Shelf.faults c.args.shelf.now) (g.H.Shelf.faults c.fetch_captures.new.shelf)
    (g.H.Shelf.faults c.read_each.new.shelf) c.as_slice.result.now c.args.job.now.captures asked
    c.fetch_captures.ensures.stays.later (c.read_each.ensures.cause (classic_texts (g.H.Shelf.text c.args.shelf.now)) c.as_slice.result.now
    c.in_ok-sources.ensures.fetched)

pub returns-clause-there : goal.returns-clause-there
returns-clause-there g c =
    let asked : c.as_slice.result.now ≡ c.args.job.now.captures = c.as_slice.ensures ∙ ap (λ (job : SkewJob). job.captures) c.job.view_is in
    on-ok c.read_each.result (AreThere (g.H.Shelf.lacks c.args.shelf.now) c.args.job.now.captures)
    (subst (λ (names : List (List ℕ)). AreThere (g.H.Shelf.lacks c.args.shelf.now) names) asked c.in_ok-sources.ensures.there)

pub returns-clause-stays : goal.returns-clause-stays
returns-clause-stays g c =
    stays-then g.H.Shelf.text g.H.Shelf.lacks g.H.Shelf.faults c.args.shelf.now c.fetch_captures.new.shelf c.read_each.new.shelf c.fetch_captures.ensures.stays
    c.read_each.ensures.stays
