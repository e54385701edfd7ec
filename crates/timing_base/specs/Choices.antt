-- The media that a call judges: all of a session, or a chosen one, which keeps its number in the session. Media count
-- from 0.
use Rattle.std.specs.Prelude.{ℕ, ◌+◌, Bool, List, length, map, drop, take, Option, None, Some}
use Rattle.timing_base.specs.Keys.{key_of, keys_of}
use Rattle.timing_base.specs.Media.{Media}
use Rattle.timing_base.specs.declared.key.FlowKey.{FlowKey}
use Rattle.timing_base.specs.declared.row.Row.{Row}

-- the media that are judged: all of a session, or the one with this number; none where there is no such media
abbrev pub chosen : (only : Option ℕ) → List Media → List Media
chosen None session = session
chosen (Some number) session = take 1 (drop number session)

-- the number of the first of the media that are judged
abbrev pub first_chosen : (only : Option ℕ) → ℕ
first_chosen None = 0
first_chosen (Some number) = number

-- a key whose media was counted from this number on
abbrev pub key_from : (first : ℕ) → FlowKey → FlowKey
key_from first key = key_of key.file (first + key.media)

-- the keys of a call: of all media of the session, or of the chosen one
abbrev pub keys_chosen : (only : Option ℕ) → (joined : Bool) → (files : ℕ) → List Media → List FlowKey
keys_chosen only joined files session =
    map (key_from (first_chosen only)) (keys_of joined files (length (chosen only session)))

-- the result of a flow whose media was counted from this number on
abbrev pub row_from : (first : ℕ) → Row → Row
row_from first row = record { key = key_from first row.key; verdict = row.verdict }
