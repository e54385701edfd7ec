-- What the threads of a run begin with, and what they leave, place by place.
use Rattle.std.proofs.Common.{◌≡◌, ◌≤◌, ◌<◌, ℕ, suc, List, [], ◌∷◌, length, map, slice_index_or, refl, sym, ap, ◌∙◌, subst, arith, Vec, Global}
use Rattle.std.specs.Prelude.{Option, Some, None, drop}
use Rattle.std.proofs.lemmas.List.{length-map}
use Rattle.timing_base.specs.declared.capture.FileNote.{FileNote}
use Rattle.ruled_intake.specs.Lanes.{LaneId, Sender, Taker}
use Rattle.ruled_intake.specs.declared.passes.SendPass.{SendPass}
use Rattle.verdict_book.specs.declared.book.Book.{Book}
use Rattle.flow_worker.specs.Intakes.{AreOfFile, HaveSentNothing}
use Rattle.flow_worker.specs.Opening.{Setting}
use Rattle.flow_worker.specs.declared.intakes.IntakeDone.{IntakeDone}
use Rattle.flow_worker.specs.declared.workers.WorkDone.{WorkDone}
use Rattle.flow_worker.specs.declared.crew.jobs.IntakeJob.{IntakeJob}
use Rattle.flow_worker.specs.declared.crew.jobs.WorkJob.{WorkJob}
use Rattle.flow_worker.specs.crew.Jobs.{AreIntakes, AreMade, new_pass, numbers}
use Rattle.flow_worker.specs.crew.Judging.{AreBack}
use Rattle.flow_worker.specs.crew.Reading.{AreIntakeJobs, AreRead, HasRead}
use Rattle.flow_worker.specs.crew.Threads.{AreWorkJobs, AreWorked}
use Rattle.flow_worker.proofs.lemmas.crew.Lists.{at_map, numbers-at, some_item}

-- each worker's job is that of its place
pub work_count : (files workers : ℕ) (lanes : List LaneId) (jobs : List WorkJob) (columns : List (List Sender)) → AreMade files workers lanes jobs columns
    → length jobs ≡ length lanes
work_count files workers lanes jobs columns made =
    sym (length-map jobs (λ (j : WorkJob). j.pass)) ∙ ap length made.worker_passes ∙ length-map lanes (new_pass files)

pub job_number : (files workers : ℕ) (lanes : List LaneId) (jobs : List WorkJob) (columns : List (List Sender)) (w : ℕ) (j : WorkJob)
    → AreMade files workers lanes jobs columns → w < length jobs
    → (slice_index_or jobs w j).worker ≡ w
job_number files workers lanes jobs columns w j made h =
    let below : w < workers = let a = work_count files workers lanes jobs columns made in omega (arith, h, a, made.lane_count) in
    sym (at_map (λ (k : WorkJob). k.worker) jobs (numbers workers) w j 0 (sym made.worker_numbers) h) ∙ numbers-at workers w 0 below

job_pass : (files workers : ℕ) (lanes : List LaneId) (jobs : List WorkJob) (columns : List (List Sender)) (w : ℕ) (j : WorkJob) (l : LaneId)
    → AreMade files workers lanes jobs columns → w < length jobs
    → (slice_index_or jobs w j).pass ≡ new_pass files (slice_index_or lanes w l)
job_pass files workers lanes jobs columns w j l made h =
    let below : w < length lanes = let a = work_count files workers lanes jobs columns made in omega (arith, h, a) in
    sym (at_map (λ (k : WorkJob). k.pass) jobs (map (new_pass files) lanes) w j (new_pass files l) (sym made.worker_passes) h)
    ∙ at_map (new_pass files) lanes (map (new_pass files) lanes) w l (new_pass files l) refl below

-- what is made are jobs of workers
pub work_jobs : (files workers : ℕ) (lanes : List LaneId) (jobs : List WorkJob) (columns : List (List Sender)) → AreMade files workers lanes jobs columns
    → AreWorkJobs lanes jobs
work_jobs files workers lanes jobs columns made = λ w j h.
    let number = job_number files workers lanes jobs columns w j made h in
    let a = work_count files workers lanes jobs columns made in
    record {
      number = omega (arith, h, a, number);
      pass = λ l.
          let is : (slice_index_or jobs w j).pass ≡ new_pass files (slice_index_or lanes (slice_index_or jobs w j).worker l) =
          job_pass files workers lanes jobs columns w j l made h ∙ ap (λ n. new_pass files (slice_index_or lanes n l)) (sym number) in
          (ap (λ (t : Taker). t.lane) is, ap (λ (t : Taker). t.taken) is);
    }

-- there is an intake for each source
intake_count : {S : Type 0} (sources : List S) (columns : List (List Sender)) (jobs : List (IntakeJob S)) → AreIntakes sources columns jobs
    → length jobs ≡ length sources
intake_count {S} sources columns jobs are = sym (length-map jobs (λ (j : IntakeJob S). j.source)) ∙ ap length are.file_sources

file_number : {S : Type 0} (sources : List S) (columns : List (List Sender)) (jobs : List (IntakeJob S)) (f : ℕ) (j : IntakeJob S)
    → AreIntakes sources columns jobs → f < length jobs
    → (slice_index_or jobs f j).file ≡ f
file_number {S} sources columns jobs f j are h =
    let below : f < length sources = let a = intake_count sources columns jobs are in omega (arith, h, a) in
    sym (at_map (λ (k : IntakeJob S). k.file) jobs (numbers (length sources)) f j 0 (sym are.file_numbers) h) ∙ numbers-at (length sources) f 0 below

-- what is made are jobs of intakes
pub intake_jobs : {S : Type 0} (files workers : ℕ) (lanes : List LaneId) (wjobs : List WorkJob) (columns : List (List Sender)) (sources : List S)
    (jobs : List (IntakeJob S))
    → AreMade files workers lanes wjobs columns → AreIntakes sources columns jobs → length sources ≡ files → files ≤ 16 → AreIntakeJobs lanes jobs
intake_jobs {S} files workers lanes wjobs columns sources jobs made are long few = λ f j h.
    let number = file_number sources columns jobs f j are h in
    let below : f < files = let a = intake_count sources columns jobs are in omega (arith, h, a, long) in
    let passes : slice_index_or columns f [] ≡ (slice_index_or jobs f j).passes.items =
    at_map (λ (k : IntakeJob S). k.passes.items) jobs columns f j [] (sym are.file_passes) h in
    record {
      file = omega (arith, number, below, few);
      passes = subst (λ (n : ℕ). HaveSentNothing n lanes (slice_index_or jobs f j).passes.items) (sym number)
          (subst (HaveSentNothing f lanes) passes (made.file_passes f below));
    }

-- the passes that the intakes leave, one row for each file
abbrev pub AreRows : List LaneId → List (List Sender) → Type 0
AreRows lanes rows = (f : ℕ) → f < length rows → AreOfFile f lanes (slice_index_or rows f [])

-- each lane's taker
abbrev pub AreTakers : (files : ℕ) → List LaneId → List Taker → Type 0
AreTakers files lanes takers = (w : ℕ) (l : LaneId) (t : Taker) → w < length lanes
    → ((slice_index_or takers w t).lane ≡ slice_index_or lanes w l) × ((slice_index_or takers w t).senders ≡ files)

pub taker_count : (files workers : ℕ) (s : Setting) (book : Book) (lanes : List LaneId) (jobs : List WorkJob) (columns : List (List Sender))
    (dones : List WorkDone) (takers : List Taker)
    → AreMade files workers lanes jobs columns → AreWorked s files book jobs dones → takers ≡ map (λ d. d.pass) dones → length takers ≡ length lanes
taker_count files workers s book lanes jobs columns dones takers made worked e =
    ap length e ∙ length-map dones (λ (d : WorkDone). d.pass) ∙ worked.count ∙ work_count files workers lanes jobs columns made

pub takers_are : (files workers : ℕ) (s : Setting) (book : Book) (lanes : List LaneId) (jobs : List WorkJob) (columns : List (List Sender))
    (dones : List WorkDone) (takers : List Taker)
    → AreMade files workers lanes jobs columns → AreWorked s files book jobs dones → takers ≡ map (λ d. d.pass) dones → AreTakers files lanes takers
takers_are files workers s book lanes jobs columns dones takers made worked e = λ w l t h.
    let a = work_count files workers lanes jobs columns made in
    let here : w < length jobs = omega (arith, a, h) in
    let there : w < length dones = let b = worked.count in omega (arith, b, here) in
    let j : WorkJob = some_item jobs w here in
    let d : WorkDone = some_item dones w there in
    let has = worked.each w j d here in
    let is : slice_index_or takers w t ≡ (slice_index_or dones w d).pass = at_map (λ (k : WorkDone). k.pass) dones takers w d t e there in
    let pass = job_pass files workers lanes jobs columns w j l made here in (
      ap (λ (k : Taker). k.lane) is ∙ has.lane_is ∙ ap (λ (k : Taker). k.lane) pass,
      ap (λ (k : Taker). k.senders) is ∙ has.senders_is ∙ ap (λ (k : Taker). k.senders) pass,
    )

-- there is a row for each file
pub row_count : {S : Type 0} (name : S → List ℕ) (left : S → Option (List ℕ)) (faults : S → ℕ) (s : Setting) (lanes : List LaneId)
    (columns : List (List Sender)) (sources : List S)
    (jobs : List (IntakeJob S)) (dones : List (IntakeDone S)) (rows : List (Vec SendPass Global))
    → AreIntakes sources columns jobs → AreRead name left faults s lanes jobs dones → rows ≡ map (λ d. d.passes) dones → length rows ≡ length sources
row_count {S} name left faults s lanes columns sources jobs dones rows are read e =
    ap length e ∙ length-map dones (λ (d : IntakeDone S). d.passes) ∙ read.count ∙ intake_count sources columns jobs are

-- the row of a file
pub row_at : {S : Type 0} (dones : List (IntakeDone S)) (rows : List (Vec SendPass Global)) (f : ℕ) (d : IntakeDone S) → rows ≡ map (λ d. d.passes) dones
    → f < length dones
    → slice_index_or (map (λ v. v.items) rows) f [] ≡ (slice_index_or dones f d).passes.items
row_at {S} dones rows f d e h =
    let long : length rows ≡ length dones = ap length e ∙ length-map dones (λ (k : IntakeDone S). k.passes) in
    at_map (λ (v : Vec SendPass Global). v.items) rows (map (λ v. v.items) rows) f d.passes [] refl (omega (arith, h, long))
    ∙ ap (λ (v : Vec SendPass Global). v.items) (at_map (λ (k : IntakeDone S). k.passes) dones rows f d d.passes e h)

-- what a file's intake leaves
pub read_at : {S : Type 0} (name : S → List ℕ) (left : S → Option (List ℕ)) (faults : S → ℕ) (s : Setting) (lanes : List LaneId) (columns : List (List Sender))
    (sources : List S)
    (jobs : List (IntakeJob S)) (dones : List (IntakeDone S)) (f : ℕ) (j : IntakeJob S) (d : IntakeDone S)
    → AreIntakes sources columns jobs → AreRead name left faults s lanes jobs dones → f < length sources
    → (f < length jobs) × (f < length dones) × ((slice_index_or jobs f j).file ≡ f)
    × HasRead name left faults s lanes (slice_index_or jobs f j) (slice_index_or dones f d)
read_at {S} name left faults s lanes columns sources jobs dones f j d are read h =
    let a = intake_count sources columns jobs are in
    let here : f < length jobs = omega (arith, a, h) in
    let there : f < length dones = let b = read.count in omega (arith, b, here) in
    (here, there, file_number sources columns jobs f j are here, read.each f j d here)

pub rows_are : {S : Type 0} (name : S → List ℕ) (left : S → Option (List ℕ)) (faults : S → ℕ) (s : Setting) (lanes : List LaneId) (columns : List (List Sender))
    (sources : List S)
    (jobs : List (IntakeJob S)) (dones : List (IntakeDone S)) (rows : List (Vec SendPass Global))
    → AreIntakes sources columns jobs → AreRead name left faults s lanes jobs dones → rows ≡ map (λ d. d.passes) dones → AreRows lanes (map (λ v. v.items) rows)
rows_are {S} name left faults s lanes columns sources jobs dones rows are read e = λ f h.
    let below : f < length sources =
    let a = length-map rows (λ (v : Vec SendPass Global). v.items) in let b = row_count name left faults s lanes columns sources jobs dones rows are read e in
    omega (arith, h, a, b) in
    let here : f < length jobs = let a = intake_count sources columns jobs are in omega (arith, a, below) in
    let there : f < length dones = let b = read.count in omega (arith, b, here) in
    let j : IntakeJob S = some_item jobs f here in
    let d : IntakeDone S = some_item dones f there in
    let has = read_at name left faults s lanes columns sources jobs dones f j d are read below in
    subst (AreOfFile f lanes) (sym (row_at dones rows f d e there))
    (subst (λ (n : ℕ). AreOfFile n lanes (slice_index_or dones f d).passes.items) has.2 has.3.passes)

-- the notes that intakes have
abbrev pub AreNotes : {S : Type 0} → List FileNote → List (IntakeDone S) → Type 0
AreNotes {S} notes dones = map Some notes ≡ map (λ (d : IntakeDone S). d.note) dones

-- as far as they have any
abbrev pub AreEnds : {S : Type 0} → List (Option FileNote) → List (IntakeDone S) → Type 0
AreEnds {S} ends dones = ends ≡ map (λ (d : IntakeDone S). d.note) dones

-- the sources come back
back_by : {S : Type 0} (name : S → List ℕ) (left : S → Option (List ℕ)) (faults : S → ℕ) (s : Setting) (lanes : List LaneId)
    (jobs : List (IntakeJob S)) (notes : List (Option FileNote)) (dones : List (IntakeDone S)) → length dones ≡ length jobs → AreEnds notes dones
    → ((f : ℕ) (j : IntakeJob S) (d : IntakeDone S) → f < length jobs → HasRead name left faults s lanes (slice_index_or jobs f j) (slice_index_or dones f d))
    → AreBack name faults (map (λ j. j.source) jobs) notes (map (λ d. d.source) dones)
back_by name left faults s lanes [] [] [] long are each = tt
back_by name left faults s lanes [] (n ∷ ns) [] long are each = absurd (omega (arith, ap length are))
back_by name left faults s lanes [] ns (d ∷ ds) long are each = absurd (omega (arith, long))
back_by name left faults s lanes (j ∷ js) ns [] long are each = absurd (omega (arith, long))
back_by name left faults s lanes (j ∷ js) [] (d ∷ ds) long are each = absurd (omega (arith, ap length are))
back_by name left faults s lanes (j ∷ js) (n ∷ ns) (d ∷ ds) long are each =
    let has = each 0 j d (omega arith) in
    let here : n ≡ d.note = ap (λ (l : List (Option FileNote)). slice_index_or l 0 None) are in
    let later : AreEnds ns ds = ap (λ (l : List (Option FileNote)). drop 1 l) are in (
      has.name_is,
      has.later,
      λ is. has.failed (sym here ∙ is),
      back_by name left faults s lanes js ns ds (omega (arith, long)) later (λ f k e h. each (suc f) k e (omega (arith, h))),
    )

pub sources_back : {S : Type 0} (name : S → List ℕ) (left : S → Option (List ℕ)) (faults : S → ℕ) (s : Setting) (lanes : List LaneId)
    (columns : List (List Sender)) (olds news : List S) (notes : List (Option FileNote)) (jobs : List (IntakeJob S)) (dones : List (IntakeDone S))
    → AreIntakes olds columns jobs → AreRead name left faults s lanes jobs dones → AreEnds notes dones → news ≡ map (λ d. d.source) dones
    → AreBack name faults olds notes news
sources_back {S} name left faults s lanes columns olds news notes jobs dones are read a b =
    subst (λ (l : List S). AreBack name faults l notes news) are.file_sources
    (subst (λ (l : List S). AreBack name faults (map (λ j. j.source) jobs) notes l) (sym b)
    (back_by name left faults s lanes jobs notes dones read.count a read.each))
