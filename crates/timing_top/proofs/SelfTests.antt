-- What `selftest` prints: there is one text, and what its steps say of it.
use Rattle.std.proofs.Common.{◌≡◌, ◌^◌, ℕ, zero, suc, Bool, true, false, nat_le, if◌then◌else◌, List, [], ◌∷◌, ◌++◌, length, take, Some, Option, codes, refl}
use Rattle.std.proofs.Common.{arith, ap, ◌∙◌, sym, subst}
use Rattle.std.specs.Option.{option_map}
use Rattle.std.specs.Prelude.{◌&&◌, ◌==◌, Result, Ok, Err}
use Rattle.timing_base.specs.Shifts.{no_options}
use Rattle.timing_base.specs.Captures.{Record}
use Rattle.timing_base.specs.Examples.{plain_media}
use Rattle.timing_base.specs.Media.{Media}
use Rattle.timing_base.specs.declared.capture.FileNote.{FileNote}
use Rattle.timing_base.specs.declared.row.Row.{Row}
use Rattle.timing_outside.specs.Causes.{Rose}
use Rattle.timing_outside.specs.SteadyShelves.{left_of, name_of}
use Rattle.timing_outside.specs.declared.steady_shelf.SteadySource.{SteadySource}
use Rattle.sdp_reader.specs.Session.{session}
use Rattle.sdp_reader.specs.declared.fault.SdpFault.{SdpFault}
use Rattle.pcapng_reader.specs.Classic.{begins_section, blocks, classic, classic_texts, no_section, number as number_at}
use Rattle.pcapng_reader.specs.Sources.{faults_of as classic_faults, left_of as classic_left, name_of as classic_name}
use Rattle.pcapng_reader.specs.declared.block.Order.TheVariants.{Big}
use Rattle.pcapng_reader.specs.declared.source.Classic.{Classic}
use Rattle.pcap_reader.specs.Header.{header}
use Rattle.pcap_reader.specs.Records.{AreRecords, Records}
use Rattle.pcap_reader.proofs.Lists.{only_by, some_by}
use Rattle.fail_interval.specs.Rows.{rows_of, rows_of_files, rows_over}
use Rattle.capture_gen.specs.Capture.{capture}
use Rattle.pcap_reader.specs.WrittenHeads.{file_head}
use Rattle.capture_gen.specs.Sdp.{sdp_text}
use Rattle.timing_report.specs.declared.status.Input.{Input}
use Rattle.timing_report.specs.declared.status.Status.TheVariants as status
use Rattle.timing_steps.specs.Answers.{Answer, AreTold, OnReadFault}
use Rattle.timing_steps.specs.Fetched.{AreFetched}
use Rattle.timing_steps.specs.declared.failure.Failure.{Failure}
use Rattle.timing_steps.specs.declared.failure.Failure.TheVariants as failure
use Rattle.fail_interval.specs.Found.{AreFound}
use Rattle.timing_top.specs.SelfTest.{HasLine, HasLines, HasSelfTest, flaw_line}
use Rattle.timing_steps.proofs.Following.{fetched-same}

-- a made capture is its own classic text
and-false : (a b : Bool) → b ≡ false → (a && b) ≡ false
and-false true b e = e
and-false false b e = refl

not-section : (number frames flaw : ℕ) → begins_section (capture number frames flaw) ≡ false
unfolding capture
not-section number frames flaw = and-false (nat_le 4 (length (capture number frames flaw))) (number_at Big 4 0 (capture number frames flaw) == 0x0a0d0d0a) refl

pub classic-capture : (number frames flaw : ℕ) → classic (capture number frames flaw) ≡ capture number frames flaw
unfolding classic
classic-capture number frames flaw =
    ap (λ b. if b then file_head ++ blocks no_section (take (2 ^ 41) (capture number frames flaw)) else capture number frames flaw)
    (not-section number frames flaw)

-- the description is that of the plain media
pub session-plain : session sdp_text ≡ Ok (plain_media ∷ [])
session-plain = refl

-- the row of the one flow of a capture
pub one-row : (media : Media) (items : List Record) → (row : Row) × (rows_of no_options 0 (media ∷ []) items ≡ row ∷ [])
one-row media items = (_, refl)

-- there is one line of each flaw
some-line : (frames flaw : ℕ) → (line : List ℕ) × HasLine frames flaw line
some-line frames flaw =
    let all = some_by (header (capture frames frames flaw)) (2 ^ 40) (capture frames frames flaw) in
    let only = one-row plain_media all.0 in (
      flaw_line flaw plain_media all.1 only.0,
      record { media = plain_media; items = all.0; note = all.1; row = only.0; session_is = session-plain; records = all.2; row_is = only.1; line_is = refl },
    )

some-lines : (frames count : ℕ) → (text : List ℕ) × HasLines frames count text
some-lines frames zero = ([], refl)
some-lines frames (suc flaw) =
    let before = some-lines frames flaw in
    let line = some-line frames flaw in
    (before.0 ++ line.0, (before.0, line.0, refl, before.1, line.1))

pub some-self_test : (frames : ℕ) → (answer : Answer) × HasSelfTest frames answer
some-self_test frames =
    let all = some-lines frames 5 in
    (record { text = all.0; status = status.Pass }, record { lines = all.1; status_is = refl })

-- and there are not two
same-media : (m n : Media) (s : Result (List Media) SdpFault) → s ≡ Ok (m ∷ []) → s ≡ Ok (n ∷ []) → m ≡ n
same-media m n s h k = cc

same-row : (r s : Row) (l : List Row) → l ≡ r ∷ [] → l ≡ s ∷ [] → r ≡ s
same-row r s l h k = cc

only-line : (frames flaw : ℕ) (a b : List ℕ) → HasLine frames flaw a → HasLine frames flaw b → a ≡ b
only-line frames flaw a b h k =
    let media = same-media h.media k.media (session sdp_text) h.session_is k.session_is in
    let same = only_by (header (capture frames frames flaw)) (2 ^ 40) (capture frames frames flaw) h.items k.items h.note k.note h.records k.records in
    let row = same-row h.row k.row _ (h.row_is) (ap (λ m. rows_of no_options 0 (m ∷ []) h.items) media ∙ ap (λ l. rows_of no_options 0 (k.media ∷ []) l)
    same.0 ∙ k.row_is) in
    h.line_is ∙ ap (λ m. flaw_line flaw m h.note h.row) media
    ∙ ap (λ n. flaw_line flaw k.media n h.row) same.1
    ∙ ap (λ r. flaw_line flaw k.media k.note r) row
    ∙ sym k.line_is

only-lines : (frames count : ℕ) (a b : List ℕ) → HasLines frames count a → HasLines frames count b → a ≡ b
only-lines frames zero a b h k = h ∙ sym k
only-lines frames (suc flaw) a b h k =
    h.2 ∙ ap (λ x. x ++ h.1) (only-lines frames flaw h.0 k.0 h.3 k.3) ∙ ap (λ x. k.0 ++ x) (only-line frames flaw h.1 k.1 h.4 k.4) ∙ sym k.2

pub only-self_test : (frames : ℕ) (a b : Answer) → HasSelfTest frames a → HasSelfTest frames b → a ≡ b
only-self_test frames a b h k =
    let text = only-lines frames 5 a.text b.text h.lines k.lines in
    let status : a.status ≡ b.status = h.status_is ∙ sym k.status_is in
    ap (λ t. record { text = t; status = a.status }) text ∙ ap (λ s. record { text = b.text; status = s }) status

-- what was found in one capture: its records, how it ends, and its row
pub record OneFound (text : List ℕ) (media : Media) (notes : List FileNote) (found : List Row) : Type 0 where
  pub items : List Record
  pub note : FileNote
  pub row : Row
  pub records : Records text (2 ^ 40) items note
  pub notes_are : notes ≡ note ∷ []
  pub found_is : found ≡ row ∷ []
  pub row_is : rows_of no_options 0 (media ∷ []) items ≡ row ∷ []

pub one-found : (text : List ℕ) (media : Media) (notes : List FileNote) (found : List Row)
    → AreFound (text ∷ []) (rows_of_files no_options 0 (media ∷ [])) notes found
    → OneFound text media notes found
unfolding one-row
one-found text media notes found h = by-files h.files notes h.records h.rows_are
  where
    by-files : (files : List (List Record)) (notes : List FileNote) → AreRecords (text ∷ []) files notes → found ≡ rows_of_files no_options 0 (media ∷ []) files
        → OneFound text media notes found
    by-files [] notes r e = absurd r
    by-files (f ∷ fs) [] r e = absurd r
    by-files (f ∷ []) (n ∷ []) r e =
        let only = one-row media f in
        record { items = f; note = n; row = only.0; records = r.0; notes_are = refl; found_is = e; row_is = only.1 }
    by-files (f ∷ []) (n ∷ m ∷ ms) r e = absurd r.1
    by-files (f ∷ g ∷ gs) (n ∷ []) r e = absurd r.1
    by-files (f ∷ g ∷ gs) (n ∷ m ∷ ms) r e = absurd r.1

-- a failure that no input has caused is want of memory
pub no-cause : (e : Failure) (P : Input → Type 0) → ((i : Input) → ¬ P i) → OnReadFault e P → e ≡ failure.OutOfMemory
no-cause (failure.ReadFault i) P none h = absurd (none i h)
no-cause failure.WriteFault P none h = absurd h
no-cause failure.OutOfMemory P none h = refl

-- a count that is 0 hasn't risen
pub never-rose : ¬ Rose 0 0
never-rose h = omega (arith, h)

-- one line more
pub lines-push : (frames flaw : ℕ) (before line text : List ℕ) → HasLines frames flaw before → HasLine frames flaw line → text ≡ before ++ line
    → HasLines frames (suc flaw) text
lines-push frames flaw before line text h l e = (before, line, e, h, l)

-- the plain description has no fault
pub no-fault : (fault : SdpFault) → session sdp_text ≡ Err fault → ⊥
no-fault fault h = let plain : session sdp_text ≡ Ok (plain_media ∷ []) = session-plain in cc

-- its one media
pub session-is : (media : List Media) → session sdp_text ≡ Ok media → media ≡ plain_media ∷ []
session-is media h = let plain : session sdp_text ≡ Ok (plain_media ∷ []) = session-plain in cc

-- what a shelf of made texts tells of its sources
abbrev pub steady_name : Classic SteadySource → List ℕ
steady_name = classic_name name_of

abbrev pub steady_left : Classic SteadySource → Option (List ℕ)
steady_left = classic_left (λ s. Some (left_of s))

abbrev pub steady_faults : Classic SteadySource → ℕ
steady_faults = classic_faults (λ s. 0)

-- what was found in a made capture, by what a shelf told before and after each of two steps
pub found-made : (frames flaw : ℕ) (bytes mid last : List ℕ → List ℕ)
    (asked : List ℕ) (sources : List (Classic SteadySource))
    (media listed : List Media) (notes : List FileNote) (found : List Row)
    → bytes (codes "made.pcap") ≡ capture frames frames flaw
    → asked ≡ codes "made.pcap"
    → ((n : List ℕ) → Some (mid n) ≡ Some (bytes n))
    → ((n : List ℕ) → Some (last n) ≡ Some (mid n))
    → AreFetched steady_name steady_left steady_faults (classic_texts (λ n. Some (mid n))) (asked ∷ []) sources
    → session sdp_text ≡ Ok media
    → listed ≡ media
    → ((names texts : List (List ℕ)) → AreFetched steady_name steady_left steady_faults (classic_texts (λ n. Some (last n))) names sources
    → AreTold (classic_texts (λ n. Some (last n))) names texts
    → AreFound texts (rows_over false no_options listed) notes found)
    → AreFound (capture frames frames flaw ∷ []) (rows_of_files no_options 0 (plain_media ∷ [])) notes found
found-made frames flaw bytes mid last asked sources media listed notes found made named early late fetched plain same told =
    let whole : Some (last asked) ≡ Some (capture frames frames flaw) = late asked ∙ early asked ∙ ap (λ n. Some (bytes n)) named ∙ ap Some made in
    let text : classic_texts (λ n. Some (last n)) asked ≡ Some (capture frames frames flaw) = ap (option_map classic) whole ∙ ap Some
    (classic-capture frames frames flaw) in
    subst (λ (m : List Media). AreFound (capture frames frames flaw ∷ []) (rows_over false no_options m) notes found) (same ∙ session-is media plain)
    (told (asked ∷ []) (capture frames frames flaw ∷ [])
    (fetched-same steady_name steady_left steady_faults (classic_texts (λ n. Some (mid n))) (classic_texts (λ n. Some (last n))) (asked ∷ []) sources
    (λ n. ap (option_map classic) (late n)) fetched)
    (text, tt))

-- the line of what was found
pub has-line : (frames flaw : ℕ) (line : List ℕ) (notes : List FileNote) (found : List Row)
    → AreFound (capture frames frames flaw ∷ []) (rows_of_files no_options 0 (plain_media ∷ [])) notes found
    → ((note : FileNote) (row : Row) → notes ≡ note ∷ [] → found ≡ row ∷ [] → line ≡ flaw_line flaw plain_media note row) → HasLine frames flaw line
has-line frames flaw line notes found h told =
    let one = one-found (capture frames frames flaw) plain_media notes found h in
    record {
      media = plain_media;
      items = one.items;
      note = one.note;
      row = one.row;
      session_is = session-plain;
      records = one.records;
      row_is = one.row_is;
      line_is = told one.note one.row one.notes_are one.found_is;
    }
