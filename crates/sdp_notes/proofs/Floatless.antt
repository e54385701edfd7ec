-- No value of a description has a float.
use Rattle.std.proofs.Common.{◌≡◌, ◌+◌, ◌++◌, ℕ, Bool, true, false, List, [], ◌∷◌, refl}
use Rattle.std.specs.Prelude.{codes, map, Option, Some, None, if◌then◌else◌}
use Rattle.serde_json.specs.View.{items_of}
use Rattle.serde_json.specs.Written.{has_float, items_have_float}
use Rattle.timing_base.specs.Media.{Media}
use Rattle.timing_report.specs.json_report.Json.{count, interlaced_members, list_of}
use Rattle.timing_report.proofs.lemmas.json_report.Floatless.{neither, any_float, any_float-append, object-floatless, list-floatless}
use Rattle.sdp_reader.specs.declared.fault.SdpFault.{SdpFault}
use Rattle.sdp_notes.specs.Described.{Described}
use Rattle.sdp_notes.specs.Notes.{Note, comma, near, not_raw, other_format, other_section, unknown}
use Rattle.sdp_notes.specs.report.Json.{all_media_data, described_data, described_members, fault_members, field_members, media_data, media_members}
use Rattle.sdp_notes.specs.report.Json.{note_data, note_members, number_members, picture_members, sender_members, shown_data, time_members}
use Rattle.sdp_notes.specs.report.Times.{group_ns}

number-floatless : (key : List ℕ) (n : Option ℕ) → any_float (number_members key n) ≡ false
number-floatless key None = refl
number-floatless key (Some n) = refl

interlaced-floatless : (b : Bool) → any_float (interlaced_members b) ≡ false
interlaced-floatless true = refl
interlaced-floatless false = refl

field-floatless : (m : Media) → any_float (field_members m) ≡ false
field-floatless m = elim m.interlaced as (λ b. any_float (if b then (codes "field", count (group_ns m)) ∷ [] else []) ≡ false) [ true ↦ refl | false ↦ refl ]

sender-floatless : (m : Media) → any_float (sender_members m) ≡ false
sender-floatless m =
    any_float-append (number_members (codes "cmax") m.cmax) (number_members (codes "troff") m.troff) (number-floatless (codes "cmax") m.cmax)
    (number-floatless (codes "troff") m.troff)

media-floatless : (number : ℕ) (m : Media) → has_float (media_data number m) ≡ false
media-floatless number m =
    object-floatless (media_members number m)
    (any_float-append (picture_members m) (sender_members m ++ time_members m) (interlaced-floatless m.interlaced)
    (any_float-append (sender_members m) (time_members m) (sender-floatless m) (field-floatless m)))

all_media-floatless : (number : ℕ) (ms : List Media) → items_have_float (items_of (all_media_data number ms)) ≡ false
all_media-floatless number [] = refl
all_media-floatless number (m ∷ ms) = neither (has_float (media_data number m)) _ (media-floatless number m) (all_media-floatless (number + 1) ms)

names-floatless : (names : List (List ℕ)) → has_float (list_of (map shown_data names)) ≡ false
names-floatless names = list-floatless shown_data (λ n. refl) names

members-floatless : (note : Note) → any_float (note_members note) ≡ false
members-floatless (other_section line kind) = refl
members-floatless (not_raw line format) = refl
members-floatless (other_format line attribute) = refl
members-floatless (unknown line names) = neither (has_float (list_of (map shown_data names))) _ (names-floatless names) refl
members-floatless (near line name known) = refl
members-floatless (comma line name) = refl

note-floatless : (note : Note) → has_float (note_data note) ≡ false
note-floatless note = object-floatless (note_members note) (members-floatless note)

fault-floatless : (fault : Option SdpFault) → any_float (fault_members fault) ≡ false
fault-floatless None = refl
fault-floatless (Some fault) = refl

-- the whole
pub described-floatless : (d : Described) → has_float (described_data d) ≡ false
described-floatless d =
    object-floatless (described_members d)
    (neither (has_float (list_of (all_media_data 1 d.media))) _ (all_media-floatless 1 d.media)
    (neither (has_float (list_of (map note_data d.notes))) _ (list-floatless note_data note-floatless d.notes) (fault-floatless d.fault)))
