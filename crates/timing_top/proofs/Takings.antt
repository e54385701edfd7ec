-- Captures that are taken and judged one by one.
use Rattle.std.proofs.Common.{◌≡◌, ◌≤◌, ◌<◌, ◌+◌, ℕ, List, [], ◌∷◌, ◌++◌, length, Option, Some, arith, ap, ◌∙◌, sym, subst, append_assoc, append-nil}
use Rattle.std.specs.Prelude.{All, IfOk, Result, Ok, Err}
use Rattle.std.proofs.lemmas.List.Elements.{All-nil, All-cons, All-append}
use Rattle.timing_base.specs.Captures.{Record, joined}
use Rattle.timing_base.specs.Shifts.{FlowOptions}
use Rattle.timing_base.specs.Media.{Media}
use Rattle.timing_base.specs.declared.capture.FileNote.{FileNote}
use Rattle.timing_base.specs.declared.row.Row.{Row}
use Rattle.pcap_reader.specs.Records.{AreRecords}
use Rattle.pcap_reader.specs.declared.records.Taken.{Taken}
use Rattle.pcap_reader.proofs.Captures.{files-length, map-raised, records-push}
use Rattle.fail_interval.specs.BankStands.{Feeds, StandsFor}
use Rattle.fail_interval.specs.Found.{AreFound}
use Rattle.fail_interval.specs.Rows.{rows_from, rows_of, rows_of_files}
use Rattle.fail_interval.specs.declared.bank.Bank.{Bank}
use Rattle.timing_report.specs.Outcomes.{AreOfSession}
use Rattle.timing_steps.specs.Taken.{TakesText, TakesTexts}
use Rattle.timing_steps.specs.declared.captures.TakenCaptures.{TakenCaptures}
use Rattle.timing_steps.specs.declared.failure.Failure.{Failure}
use Rattle.timing_top.specs.Found.{FindsNext}

-- media with these numbers are below a count
rows-within : (options : FlowOptions) (file number count : ℕ) (media : List Media) (items : List Record) → number + length media ≤ count
    → All (λ (row : Row). row.key.media < count) (rows_from options file number media items)
rows-within options file number count [] items h = All-nil (λ (row : Row). row.key.media < count)
rows-within options file number count (m ∷ ms) items h =
    All-cons (λ (row : Row). row.key.media < count) _ (rows_from options file (number + 1) ms items) (omega (arith, h))
    (rows-within options file (number + 1) count ms items (omega (arith, h)))

-- rows of the media of a session are put to rows of the session
pub rows-of_session : (options : FlowOptions) (file : ℕ) (media : List Media) (items : List Record) (old new : List Row)
    → new ≡ old ++ rows_of options file media items
    → AreOfSession media old → AreOfSession media new
rows-of_session options file media items old new e h =
    subst (AreOfSession media) (sym e)
    (All-append (λ (row : Row). row.key.media < length media) old (rows_of options file media items) h
    (rows-within options file 0 (length media) media items (omega arith)))

-- a capture that was taken into a fresh bank has these rows, and its note
pub finds-next : (text : List ℕ) (media : List Media) (options : FlowOptions) (file : ℕ) (old new : Bank) (taken : Taken) (old_notes new_notes : List FileNote)
    (old_rows new_rows : List Row)
    → TakesText Feeds text 0 old new taken → StandsFor media file options old [] → new_notes ≡ old_notes ++ taken.note ∷ []
    → ((items : List Record) → StandsFor media file options new items → new_rows ≡ old_rows ++ rows_of options file media items)
    → FindsNext text media options file old_notes new_notes old_rows new_rows
finds-next text media options file old new taken old_notes new_notes old_rows new_rows t fresh notes rows = record {
  items = t.items;
  note = taken.note;
  records = t.records;
  notes = notes;
  rows = rows t.items (subst (StandsFor media file options new) (map-raised t.items) (t.fed media file options [] fresh));
}

rows-push : (options : FlowOptions) (first : ℕ) (media : List Media) (files : List (List Record)) (items : List Record)
    → rows_of_files options first media (files ++ items ∷ []) ≡ rows_of_files options first media files ++ rows_of options (first + length files) media items
rows-push options first media [] items =
    let same : first + 0 ≡ first = omega arith in
    append-nil (rows_of options first media items) ∙ sym (ap (λ f. rows_of options f media items) same)
rows-push options first media (x ∷ xs) items =
    let same : first + length (x ∷ xs) ≡ (first + 1) + length xs = omega arith in
    ap (λ l. rows_of options first media x ++ l) (rows-push options (first + 1) media xs items)
    ∙ sym (append_assoc (rows_of options first media x) (rows_of_files options (first + 1) media xs) (rows_of options ((first + 1) + length xs) media items))
    ∙ ap (λ f. (rows_of options first media x ++ rows_of_files options (first + 1) media xs) ++ rows_of options f media items) (sym same)

-- nothing was judged yet
pub found-none : (media : List Media) (options : FlowOptions) (notes : List FileNote) (found : List Row) → notes ≡ [] → found ≡ []
    → AreFound [] (rows_of_files options 0 media) notes found
found-none media options notes found no_notes no_rows = record { files = []; records = subst (AreRecords [] []) (sym no_notes) tt; rows_are = no_rows }

-- one capture more was judged
pub found-more : (texts : List (List ℕ)) (text : List ℕ) (media : List Media) (options : FlowOptions) (old_notes new_notes : List FileNote)
    (old_rows new_rows : List Row)
    → AreFound texts (rows_of_files options 0 media) old_notes old_rows → FindsNext text media options (length old_notes) old_notes new_notes old_rows new_rows
    → AreFound (texts ++ text ∷ []) (rows_of_files options 0 media) new_notes new_rows
found-more texts text media options old_notes new_notes old_rows new_rows found next = record {
  files = found.files ++ next.items ∷ [];
  records = subst (AreRecords (texts ++ text ∷ []) (found.files ++ next.items ∷ [])) (sym next.notes)
      (records-push texts found.files old_notes text next.items next.note found.records next.records);
  rows_are =
      let same : 0 + length found.files ≡ length found.files = omega arith in
      next.rows ∙ ap (λ l. l ++ rows_of options (length old_notes) media next.items) found.rows_are
      ∙ ap (λ f. rows_of_files options 0 media found.files ++ rows_of options f media next.items) (sym (files-length texts found.files old_notes found.records))
      ∙ ap (λ f. rows_of_files options 0 media found.files ++ rows_of options f media next.items) (sym same)
      ∙ sym (rows-push options 0 media found.files next.items);
}

-- the rows of captures that were taken as one into a fresh bank
pub found-joined : (texts : List (List ℕ)) (media : List Media) (options : FlowOptions) (old new : Bank) (taken : TakenCaptures) (found : List Row)
    → TakesTexts Feeds texts old new taken → StandsFor media 0 options old []
    → ((items : List Record) → StandsFor media 0 options new items → found ≡ rows_of options 0 media items)
    → AreFound texts (λ files. rows_of options 0 media (joined files)) taken.notes.items found
found-joined texts media options old new taken found t fresh rows_are =
    record { files = t.files; records = t.records; rows_are = rows_are (joined t.files) (t.fed media 0 options [] fresh) }

-- rows that come behind none
pub rows-alone : (options : FlowOptions) (media : List Media) (items : List Record) (old new : List Row) → old ≡ []
    → new ≡ old ++ rows_of options 0 media items → new
    ≡ rows_of options 0 media items
rows-alone options media items old new none e = e ∙ ap (λ l. l ++ rows_of options 0 media items) none

-- one capture more was judged, where it was read
pub found-if_read : (o : Result (Unit {0}) Failure) (left : Option (List ℕ)) (media : List Media) (options : FlowOptions) (old_notes new_notes : List FileNote)
    (old_rows new_rows : List Row)
    → IfOk o (λ _. (text : List ℕ) → left ≡ Some text → FindsNext text media options (length old_notes) old_notes new_notes old_rows new_rows)
    → IfOk o (λ _. (read : List (List ℕ)) (text : List ℕ) → left ≡ Some text → AreFound read (rows_of_files options 0 media) old_notes old_rows
    → AreFound (read ++ text ∷ []) (rows_of_files options 0 media) new_notes new_rows)
found-if_read (Ok u) left media options old_notes new_notes old_rows new_rows h = λ read text whole found.
    found-more read text media options old_notes new_notes old_rows new_rows found (h text whole)
found-if_read (Err e) left media options old_notes new_notes old_rows new_rows h = tt
