-- The video streams of a session description, or its first fault (RFC 4566, SMPTE ST 2110-20 and ST 2110-21; the
-- limits and the numbers of the causes are this project's profile).
use Rattle.std.specs.Prelude.{ℕ, ◌-◌, nat_lt, Bool, true, false, if◌then◌else◌, List, [], ◌∷◌, ◌++◌, length}
use Rattle.std.specs.Prelude.{drop, take, map, Option, Some, None, Result, Ok, Err}
use Rattle.std.specs.Option.{option_map}
use Rattle.std.specs.List.{flat_map, filter_map}
use Rattle.timing_base.specs.Media.{Media}
use Rattle.timing_base.specs.Targets.{is_same_target}
use Rattle.timing_base.specs.declared.address.Address.{Address}
use Rattle.timing_base.specs.declared.target.Target.{Target}
use Rattle.sdp_reader.specs.Fault.{least, IsAmong}
use Rattle.sdp_reader.specs.Lines.{TextLine, lines, at, repeats, line_faults, version_faults}
use Rattle.sdp_reader.specs.Parts.{parts, own_lines, connection_line, RawPart, raw_of, good_address, part_faults}
use Rattle.sdp_reader.specs.Parts.{media_of}
use Rattle.sdp_reader.specs.declared.fault.SdpCause.{SdpCause}
use Rattle.sdp_reader.specs.declared.fault.SdpCause.TheVariants.{SameTarget, TooManyMedia, NoVideo, TooLarge}
use Rattle.sdp_reader.specs.declared.fault.SdpFault.{SdpFault}
use Rattle.sdp_reader.specs.declared.part.Destination.{Destination}

-- the raw parts, in order
abbrev pub raw_parts : List TextLine → List RawPart
raw_parts ls = filter_map (raw_of (connection_line (own_lines ls))) (parts ls)

-- the streams that these lines describe: those of the raw parts that have all that a stream needs
abbrev pub media_in : List TextLine → List Media
media_in ls = filter_map media_of (raw_parts ls)

-- the lines before the one with this number, counted from 1; none before line 0
abbrev pub lines_before : ℕ → List TextLine → List TextLine
lines_before line ls = take (line - 1) ls

-- the target with this address, if there is one, and this port
abbrev pub target_at : Option Address → ℕ → Option Target
target_at address port = option_map (λ a. record { address = a; port = port }) address

-- the first line of a raw part, and its target
abbrev pub destination_of : RawPart → Destination
destination_of r = record { line = r.line; target = target_at (good_address r) r.video.port }

-- both targets are there and equal
abbrev pub are_same : Option Target → Option Target → Bool
are_same None own = false
are_same (Some t) None = false
are_same (Some t) (Some own) = is_same_target own t

-- a part and a later one have the same target
abbrev pub have_one_target : Destination → Destination → Bool
have_one_target part later = are_same later.target part.target

-- SameTarget: an earlier raw part has the same address and port
abbrev pub target_faults : List Destination → List SdpFault
target_faults parts = repeats (λ part. part.line) SameTarget have_one_target parts

-- TooManyMedia: on the first of these parts
abbrev pub first_too_many : List Destination → List SdpFault
first_too_many [] = []
first_too_many (t ∷ ts) = at t.line TooManyMedia true

-- TooManyMedia: on the 65th part, if there is one
abbrev pub too_many_faults : List Destination → List SdpFault
too_many_faults ts = first_too_many (drop 64 ts)

-- the faults with the causes 5 to 14
abbrev pub raw_faults : List RawPart → List SdpFault
raw_faults rs = flat_map part_faults rs ++ (target_faults (map destination_of rs)
    ++ too_many_faults (map destination_of rs))

-- all faults, each on its line
abbrev pub faults : List TextLine → List SdpFault
faults ls = version_faults ls ++ (flat_map line_faults ls ++ raw_faults (raw_parts ls))

-- there is a fault of this cause on the line
abbrev pub StandsOn : SdpCause → List TextLine → ℕ → Type 0
StandsOn cause ls line = IsAmong (record { line = line; what = cause }) (faults ls)

-- the result if no line has a fault: the streams of the raw parts in order, or NoVideo
abbrev pub streams : List RawPart → Result (List Media) SdpFault
streams [] = Err (record { line = 0; what = NoVideo })
streams (r ∷ rs) = Ok (filter_map media_of (r ∷ rs))

-- the first fault, or the rest if there is none
abbrev pub unless_fault : Option SdpFault → Result (List Media) SdpFault → Result (List Media) SdpFault
unless_fault (Some fault) rest = Err fault
unless_fault None rest = rest

-- the result for the lines of a session description that isn't too large
abbrev pub answer : List TextLine → Result (List Media) SdpFault
answer ls = unless_fault (least (faults ls)) (streams (raw_parts ls))

-- the session of a session description: its video streams, or its first fault
abbrev pub session : List ℕ → Result (List Media) SdpFault
session bytes = if nat_lt 1048576 (length bytes) then Err (record { line = 0; what = TooLarge })
    else answer (lines bytes)
