-- The results of captures: one for each media, over the packets of its flow. Files and media count from 0.
use Rattle.std.specs.Prelude.{◌+◌, ℕ, Bool, if◌then◌else◌, List, [], ◌∷◌, ◌++◌}
use Rattle.timing_base.specs.Shifts.{FlowOptions}
use Rattle.timing_base.specs.Captures.{Record, joined as joined_records}
use Rattle.timing_base.specs.Keys.{key_of}
use Rattle.timing_base.specs.Media.{Media}
use Rattle.timing_base.specs.declared.row.Row.{Row}
use Rattle.udp_rtp.specs.Flow.{flow}
use Rattle.fail_interval.specs.Row.{row}

-- the results of these media, the first of them with this number, over the packet records of one file
abbrev pub rows_from : (options : FlowOptions) (file number : ℕ) → List Media → List Record → List Row
rows_from options file number [] items = []
rows_from options file number (m ∷ ms) items =
    row (flow items m) (key_of file number) m options ∷ rows_from options file (number + 1) ms items

-- the results of all media over the packet records of one file
abbrev pub rows_of : (options : FlowOptions) (file : ℕ) → List Media → List Record → List Row
rows_of options file media items = rows_from options file 0 media items

-- the results of files, the first of them with this number, by file and then by media
abbrev pub rows_of_files : (options : FlowOptions) (first : ℕ) → List Media → List (List Record) → List Row
rows_of_files options first media [] = []
rows_of_files options first media (items ∷ files) =
    rows_of options first media items ++ rows_of_files options (first + 1) media files

-- the results over files: of each by itself, or if they are joined, of all as one
abbrev pub rows_over : (joined : Bool) → (options : FlowOptions) → List Media → List (List Record) → List Row
rows_over joined options media files =
    if joined then rows_of options 0 media (joined_records files) else rows_of_files options 0 media files
