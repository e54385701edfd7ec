-- The state of a worker's judges after what it took, if files are judged each by itself, and if they are joined. Files
-- and workers count from 0.
use Rattle.std.specs.Prelude.{◌≡◌, ◌≤◌, ◌<◌, ◌+◌, ◌*◌, ◌^◌, ℕ, Bool, true, false, List, ◌++◌, ◌∷◌, [], IsTrue, length}
use Rattle.std.specs.Prelude.{map, min, Option, Some, None}
use Rattle.timing_base.specs.declared.key.FlowKey.{FlowKey}
use Rattle.timing_base.specs.declared.packet.FlowPacket.{FlowPacket}
use Rattle.ruled_intake.specs.Lanes.{IsWithin}
use Rattle.ruled_intake.specs.Messages.{FileEnd}
use Rattle.ruled_intake.specs.declared.message.Message.{Message}
use Rattle.verdict_book.specs.Receipts.{row_of}
use Rattle.verdict_book.specs.declared.book.Receipt.{Receipt}
use Rattle.flow_worker.specs.Messages.{file_packets, has_end, records_told}
use Rattle.flow_worker.specs.Opening.{Setting}
use Rattle.flow_worker.specs.Posting.{has_ends, joined_packets, own_keys, taken_packets, taken_row, told_by}
use Rattle.flow_worker.specs.Judging.{AreFed, EachFrom, batched}
use Rattle.flow_worker.specs.declared.apart_files.Apart.{Apart}
use Rattle.flow_worker.specs.declared.apart_files.OneFile.{OneFile}
use Rattle.flow_worker.specs.declared.joined_files.Joined.{Joined}
use Rattle.flow_worker.specs.declared.joined_files.Waiting.{Waiting}
use Rattle.flow_worker.specs.declared.judging.Judging.{Judging}
use Rattle.flow_worker.specs.declared.judging.Judging.TheVariants as judging

-- a file that is judged by itself: whether its end was taken, and judges that were fed what was taken of it
pub record IsFile (s : Setting) (files worker : ℕ) (taken : List Message) (file : ℕ) (one : OneFile) : Type 0 where
  pub ended : one.ended ≡ has_end file taken
  pub fed : AreFed s worker file (taken_packets s files taken) one.judges

-- the files are judged each by itself, and their judges were fed what was taken
pub record ApartStandsFor (s : Setting) (files worker : ℕ) (taken : List Message) (apart : Apart) : Type 0 where
  pub alone : s.joined ≡ false
  pub count : length apart.files.items ≡ files
  pub each : EachFrom (IsFile s files worker taken) 0 apart.files.items

-- the end of a file that was taken first, if one was
abbrev pub IsFirstEnd : List Message → (file : ℕ) → Option FileEnd → Type 0
IsFirstEnd taken file None = has_end file taken ≡ false
IsFirstEnd taken file (Some end) = (has_end file taken ≡ true) × (end.records ≡ records_told file taken)

-- a file of joined files: its end, and if it comes after the next file, all packets of it that were taken
pub record IsWaiting (next : ℕ) (taken : List Message) (file : ℕ) (waiting : Waiting) : Type 0 where
  pub end : IsFirstEnd taken file waiting.end
  pub waits : next < file → batched waiting.batches.items ≡ file_packets file taken

-- the packets of a flow in the first of joined files
abbrev pub of_first : (files : ℕ) → List Message → FlowKey → List FlowPacket
of_first files taken key = joined_packets key.media 0 0 files taken

-- the files are judged as one, and the judges were fed what was taken of the files up to the next one; all files before
-- that have ended
pub record JoinedIsAt (s : Setting) (files worker : ℕ) (taken : List Message) (joined : Joined) : Type 0 where
  pub one : s.joined ≡ true
  pub few : files ≤ 16
  pub count : length joined.files.items ≡ files
  pub next : joined.next ≤ files
  pub done : IsTrue (has_ends joined.next taken)
  pub before : joined.before ≡ told_by 0 joined.next taken
  pub below : joined.before ≤ joined.next * 2 ^ 37
  pub each : EachFrom (IsWaiting joined.next taken) 0 joined.files.items
  pub fed : AreFed s worker 0 (of_first (min (joined.next + 1) files) taken) joined.judges

-- the files are judged as one, and the next file hasn't ended
pub record JoinedStandsFor (s : Setting) (files worker : ℕ) (taken : List Message) (joined : Joined) : Type 0 where
  pub at : JoinedIsAt s files worker taken joined
  pub going : joined.next < files → has_end joined.next taken ≡ false

-- the file exists, and the first end of it that was taken has this number of packet records
pub record HasEnded (files : ℕ) (taken : List Message) (file records : ℕ) : Type 0 where
  pub there : file < files
  pub ended : has_end file taken ≡ true
  pub told : records ≡ records_told file taken
  pub few : records < 2 ^ 37

-- the judges of a worker were fed exactly what was taken
abbrev pub StandsFor : Setting → (files worker : ℕ) → List Message → Judging → Type 0
StandsFor s files worker taken (judging.Apart apart) = ApartStandsFor s files worker taken apart
StandsFor s files worker taken (judging.Joined joined) = JoinedStandsFor s files worker taken joined

-- with this message, what was taken is within the limits of a lane
abbrev pub IsFew : List Message → Message → Type 0
IsFew taken message = IsWithin (2 ^ 41) (taken ++ message ∷ [])

-- this message was taken, after those before
abbrev pub Takes : {X : Type 0} → (Setting → ℕ → ℕ → List Message → X → Type 0) → Message → (old new : X) → Type 0
Takes Stands message old new = (s : Setting) (files worker : ℕ) (taken : List Message)
    → Stands s files worker taken old → Stands s files worker (taken ++ message ∷ []) new

-- the state is that after some messages, and with this one they are within the limits of a lane
abbrev pub MayTake : {X : Type 0} → (Setting → ℕ → ℕ → List Message → X → Type 0) → Message → X → Type 0
MayTake Stands message x = (s : Setting) × (files : ℕ) × (worker : ℕ) × (taken : List Message)
    × Stands s files worker taken x × IsFew taken message

-- `ended` is whether an end of each file is among the messages taken
abbrev pub TellsEnds : {X : Type 0} → (Setting → ℕ → ℕ → List Message → X → Type 0) → X → Bool → Type 0
TellsEnds Stands x ended = (s : Setting) (files worker : ℕ) (taken : List Message)
    → Stands s files worker taken x → ended ≡ has_ends files taken

-- the receipts have the results of the worker's flows, by file and then by media, if an end of each file was taken
abbrev pub HasRows : {X : Type 0} → (Setting → ℕ → ℕ → List Message → X → Type 0) → X → List Receipt → Type 0
HasRows Stands x receipts = (s : Setting) (files worker : ℕ) (taken : List Message)
    → Stands s files worker taken x → IsTrue (has_ends files taken)
    → map row_of receipts ≡ map (taken_row s files taken) (own_keys s files worker)
