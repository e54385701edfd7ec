-- What follows for `check` from captures that were fetched and judged.
use Rattle.std.proofs.Common.{◌≡◌, ℕ, List, ap, ◌∙◌, subst, inl}
use Rattle.std.specs.Prelude.{IfErr, IfOk, Result, Ok, Err, map}
use Rattle.std.specs.Option.{option_map}
use Rattle.timing_base.specs.Captures.{Record}
use Rattle.timing_base.specs.Choices.{chosen, first_chosen, row_from}
use Rattle.timing_base.specs.Jobs.{CheckJob}
use Rattle.timing_base.specs.Media.{Media}
use Rattle.timing_base.specs.declared.capture.FileNote.{FileNote}
use Rattle.timing_base.specs.declared.row.Row.{Row}
use Rattle.timing_outside.specs.Shelves.{StaysAs}
use Rattle.timing_outside.specs.declared.shelf.Shelf as shelf
use Rattle.timing_outside.specs.declared.source.Source as source
use Rattle.fail_interval.specs.Found.{AreFound}
use Rattle.fail_interval.specs.Rows.{rows_over}
use Rattle.pcapng_reader.specs.Classic.{classic, classic_texts}
use Rattle.pcapng_reader.specs.Sources.{faults_of, left_of, name_of}
use Rattle.pcapng_reader.specs.declared.source.Classic.{Classic}
use Rattle.timing_report.specs.Outcomes.{status_of}
use Rattle.timing_report.specs.declared.status.Input.TheVariants as input
use Rattle.timing_steps.specs.Answers.{Answer, AreThere, AreTold, CaptureRose, OnReadFault, seen_of}
use Rattle.timing_steps.specs.Fetched.{AreFetched}
use Rattle.timing_steps.specs.Queries.{FollowsCaptures}
use Rattle.timing_steps.specs.declared.failure.Failure.{Failure}
use Rattle.timing_steps.specs.declared.failure.Failure.TheVariants as failure
use Rattle.timing_steps.proofs.Capturing.{reads-all}
use Rattle.timing_top.specs.Found.{Judges}
use Rattle.timing_top.specs.Report.{HasReport, check_query, printed}
use Rattle.timing_top.specs.declared.captures.Found.{Found}
use Rattle.timing_steps.proofs.Following.{capture-earlier, fetched-same, told-same}

-- the results of a job, of those that were found, whose media count from the first one that was judged
abbrev pub renumbered : CheckJob → List Row → List Row
renumbered job found = map (row_from (first_chosen job.media)) found

-- captures with these contents have this report
has-report : (job : CheckJob) (media : List Media) (texts : List (List ℕ)) (answer : Answer) (notes : List FileNote) (found : List Row)
    → AreFound texts (rows_over job.joined job.options (chosen job.media media)) notes found → answer.text ≡ printed job media notes (renumbered job found)
    → answer.status ≡ status_of media notes (renumbered job found)
    → HasReport job media texts answer
has-report job media texts answer notes found f text_is status_is = record {
  files = f.files;
  notes = notes;
  records = f.records;
  defined = record {
    text_is = text_is ∙ ap (λ l. printed job media notes (renumbered job l)) f.rows_are;
    status_is = status_is ∙ ap (λ l. status_of media notes (renumbered job l)) f.rows_are;
  };
}

-- what a shelf and its sources tell, of the captures of a job that were fetched from the shelf `old`, and judged on it
-- as `mid`
module _ {H S : Type 0} (tells : shelf.Ghosts H S) (from : source.Ghosts S) where
  module _ (job : CheckJob) (old mid new : H) (media : List Media) (sources : List (Classic S)) (table : List (List Record) → List Row) (listed : List Media)
      (found : Result Found Failure) (there : AreThere (tells.lacks old) job.captures)
      (fetched : AreFetched (name_of from.name) (left_of from.left) (faults_of from.faults) (classic_texts (tells.text old)) job.captures sources)
      (stays : StaysAs tells.text tells.lacks tells.faults old mid)
      (judged : Judges table listed tells from mid new sources found) where
    later : (n : List ℕ) → classic_texts (tells.text mid) n ≡ classic_texts (tells.text old) n
    later n = ap (option_map classic) (stays.texts n)

    fetched-later : AreFetched (name_of from.name) (left_of from.left) (faults_of from.faults) (classic_texts (tells.text mid)) job.captures sources
    fetched-later = fetched-same (name_of from.name) (left_of from.left) (faults_of from.faults) (classic_texts (tells.text old))
        (classic_texts (tells.text mid)) job.captures sources later fetched

    -- where a capture's read fails while they are judged, its count has risen
    pub judged-rose : (e : Failure) → found ≡ Err e
        → OnReadFault e (λ x. (number : ℕ) × (x ≡ input.Capture number) × CaptureRose (tells.faults old) (tells.faults new) job.captures number)
    judged-rose e is =
        capture-earlier (tells.faults old) (tells.faults mid) (tells.faults new) job.captures e stays.later
        (subst (λ r. IfErr r (λ e. OnReadFault e (λ x. (number : ℕ) × (x ≡ input.Capture number) × CaptureRose (tells.faults mid) (tells.faults new)
        job.captures number))) is
        (judged.cause job.captures fetched-later))

    pub follows-failed : (e : Failure) → found ≡ Err e → FollowsCaptures (check_query job) media (seen_of tells old new) (Err e)
    follows-failed e is = reads-all (check_query job) media (seen_of tells old new) (Err e) tt tt (judged-rose e is)

    -- what was found in the captures is the report
    pub follows-report : (outcome : Result Answer Failure) (f : Found) → found ≡ Ok f → table ≡ rows_over job.joined job.options (chosen job.media media)
        → IfOk outcome (λ answer. answer.text ≡ printed job media f.notes.items (renumbered job f.rows.items))
        → IfOk outcome (λ answer. answer.status ≡ status_of media f.notes.items (renumbered job f.rows.items))
        → IfErr outcome (λ e. e ≡ failure.OutOfMemory)
        → FollowsCaptures (check_query job) media (seen_of tells old new) outcome
    follows-report (Err e) f is same text status memory = inl (ap Err memory)
    follows-report (Ok answer) f is same text status memory =
        let told : (names texts : List (List ℕ)) → AreFetched (name_of from.name) (left_of from.left) (faults_of from.faults) (classic_texts (tells.text mid))
        names sources
        → AreTold (classic_texts (tells.text mid)) names texts → AreFound texts table f.notes.items f.rows.items =
        subst (λ r. IfOk r (λ x. (names texts : List (List ℕ)) → AreFetched (name_of from.name) (left_of from.left) (faults_of from.faults)
        (classic_texts (tells.text mid)) names sources
        → AreTold (classic_texts (tells.text mid)) names texts → AreFound texts table x.notes.items x.rows.items)) is judged.told in
        reads-all (check_query job) media (seen_of tells old new) (Ok answer) there
        (λ texts t. has-report job media texts answer f.notes.items f.rows.items
        (subst (λ (g : List (List Record) → List Row). AreFound texts g f.notes.items f.rows.items) same
        (told job.captures texts fetched-later
        (told-same (classic_texts (tells.text old)) (classic_texts (tells.text mid)) job.captures texts later t))) text status) tt
