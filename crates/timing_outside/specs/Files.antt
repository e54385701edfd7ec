-- The faults of the files and streams of the system, and which names were fetched from a `FileShelf`.
use Rattle.std.specs.Prelude.{ℕ, List, Bool, Option, None, ◌&&◌, ◌||◌, not, is_some, string_bytes}
use Rattle.std.specs.Option.{option_map_or}
use Rattle.std.specs.BTreeMap.{get_by_text}
use Rattle.std.specs.Str.{bytes_eq}
use Rattle.timing_outside.specs.Counts.{raised_if}
use Rattle.timing_outside.specs.declared.files.FileFault.{FileFault}
use Rattle.timing_outside.specs.declared.files.FileShelf.{FileShelf}
use Rattle.timing_outside.specs.declared.files.FileSource.{FileSource}
use Rattle.timing_outside.specs.declared.files.StdSink.{StdSink}

-- this name was fetched before
abbrev pub is_known : {R : Type 0} → FileShelf R → List ℕ → Bool
is_known shelf name = is_some (get_by_text shelf.names name)

-- the number of faults of this name; the names that weren't fetched share one count
abbrev pub count_of : {R : Type 0} → FileShelf R → List ℕ → ℕ
count_of shelf name = option_map_or (λ c. c.faults) (get_by_text shelf.names name) shelf.others

-- the last fault of this name, if it was fetched and has failed
abbrev pub fault_of : {R : Type 0} → FileShelf R → List ℕ → Option FileFault
fault_of shelf name = option_map_or (λ c. c.fault) (get_by_text shelf.names name) None

-- both are the same name, or neither was fetched
abbrev pub share_count : {R : Type 0} → FileShelf R → List ℕ → List ℕ → Bool
share_count shelf m n = bytes_eq m n || (not (is_known shelf m) && not (is_known shelf n))

-- the count of the name n after a call for the name m that failed or succeeded
abbrev pub count_after : {R : Type 0} → Bool → FileShelf R → List ℕ → List ℕ → ℕ
count_after failed shelf m n = raised_if (failed && share_count shelf m n) (count_of shelf n)

-- the name of an open file
abbrev pub name_of : {F : Type 0} → FileSource F → List ℕ
name_of s = string_bytes s.name

-- the file of a source
abbrev pub file_of : {F : Type 0} → FileSource F → F
file_of s = s.file

-- the number of reads of an open file that failed
abbrev pub source_faults : {F : Type 0} → FileSource F → ℕ
source_faults s = s.faults

-- the stream of a sink
abbrev pub stream_of : {C W : Type 0} → StdSink C W → W
stream_of s = s.stream

-- the number of writes to a stream that failed
abbrev pub sink_faults : {C W : Type 0} → StdSink C W → ℕ
sink_faults s = s.faults
