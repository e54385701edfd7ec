-- The result that a worker makes for a flow of its own, from the messages that it took, and the right result. Files and
-- media count from 0, packet records from 1.
use Rattle.std.specs.Prelude.{ℕ, zero, suc, Bool, true, ◌&&◌, ◌==◌, ◌+◌, filter, nat_lt, if◌then◌else◌, List, [], ◌∷◌}
use Rattle.std.specs.Prelude.{◌++◌, length, map, slice_get, Option, Some, None}
use Rattle.timing_base.specs.Captures.{Record, joined}
use Rattle.timing_base.specs.declared.key.FlowKey.{FlowKey}
use Rattle.timing_base.specs.declared.packet.FlowPacket.{FlowPacket}
use Rattle.timing_base.specs.declared.row.Row.{Row}
use Rattle.udp_rtp.specs.Flow.{flow}
use Rattle.fail_interval.specs.Row.{row}
use Rattle.timing_base.specs.Keys.{keys_of, media_of}
use Rattle.ruled_intake.specs.declared.message.Message.{Message}
use Rattle.flow_worker.specs.Messages.{file_packets, has_end, media_packets, records_told}
use Rattle.flow_worker.specs.Opening.{Capture, Setting, media_lane}

-- whether this is the key of a flow of a run with so many files; joined files are one
abbrev pub is_key : Setting → (files : ℕ) → FlowKey → Bool
is_key s files key = nat_lt key.file (if s.joined then 1 else files) && nat_lt key.media (length s.media)

-- lane of a flow
abbrev pub key_lane : Setting → FlowKey → ℕ
key_lane s key = media_lane s key.file key.media

-- a packet with `before` added to its packet record
abbrev pub raised_packet : ℕ → FlowPacket → FlowPacket
raised_packet before p = record { rec = before + p.rec; at = p.at; rtp = p.rtp }

-- the packets of a media in `count` files from `file` on, by file, each file's in order and before its first end;
-- packet records are raised by the number of those of the files before, as their ends have it
abbrev pub joined_packets : (media before file count : ℕ) → List Message → List FlowPacket
joined_packets media before file zero taken = []
joined_packets media before file (suc n) taken =
    map (raised_packet before) (media_packets media (file_packets file taken))
    ++ joined_packets media (before + records_told file taken) (file + 1) n taken

-- number of packet records in `count` files from `file` on, as their ends have it
abbrev pub told_by : (file count : ℕ) → List Message → ℕ
told_by file zero taken = 0
told_by file (suc n) taken = records_told file taken + told_by (file + 1) n taken

-- the packets of a flow that were taken: those of its file, or if files are joined, of all files
abbrev pub taken_packets : Setting → (files : ℕ) → List Message → FlowKey → List FlowPacket
taken_packets s files taken key =
    if s.joined then joined_packets key.media 0 0 files taken else media_packets key.media (file_packets key.file taken)

-- the result for these packets of a flow
abbrev pub row_over : Setting → FlowKey → List FlowPacket → Row
row_over s key packets = row packets key (media_of s.media key) s.options

-- the result that a worker makes of what it took
abbrev pub taken_row : Setting → (files : ℕ) → List Message → FlowKey → Row
taken_row s files taken key = row_over s key (taken_packets s files taken key)

-- whether an end of each of the first files was taken
abbrev pub has_ends : (files : ℕ) → List Message → Bool
has_ends zero taken = true
has_ends (suc f) taken = has_ends f taken && has_end f taken

-- whether an end of each file that the flow is in was taken
abbrev pub is_whole : Setting → (files : ℕ) → List Message → FlowKey → Bool
is_whole s files taken key = if s.joined then has_ends files taken else has_end key.file taken

-- packet records of a file, if it exists
abbrev pub records_if : Option Capture → List Record
records_if None = []
records_if (Some c) = c.records

-- packet records that a flow is in: those of its file, or if files are joined, of all files as one
abbrev pub key_records : Setting → List Capture → FlowKey → List Record
key_records s captures key = if s.joined then joined (map (λ c. c.records) captures)
    else records_if (slice_get captures key.file)

-- the right result of a flow: that for its packets in these records
abbrev pub key_row : Setting → List Capture → FlowKey → Row
key_row s captures key = row_over s key (flow (key_records s captures key) (media_of s.media key))

-- keys of a run with so many files
abbrev pub keys : Setting → (files : ℕ) → List FlowKey
keys s files = keys_of s.joined files (length s.media)

-- keys of the flows that are dealt to this lane
abbrev pub own_keys : Setting → (files lane : ℕ) → List FlowKey
own_keys s files lane = filter (λ key. key_lane s key == lane) (keys s files)

-- the files as they are judged: each by itself, or all as one
abbrev pub judged_files : Setting → List Capture → List (List Record)
judged_files s captures =
    let files = map (λ (c : Capture). c.records) captures in
    if s.joined then joined files ∷ [] else files
