-- The lines of a flow as JSON objects (RFC 8259), without spaces. The members of each object stand in the byte order of
-- their keys. Media, runs, frames, fields and packet records count from 1; the media of a `LineForm` counts from 0.
-- `stamp` is nanoseconds of TAI. The other numbers are packets, frames or fields. This project's profile: all objects.
use Rattle.std.specs.Prelude.{ℕ, ◌+◌, Bool, true, false, List, ◌∷◌, ◌++◌, codes}
use Rattle.std.specs.Fmt.{decimal, signed_decimal}
use Rattle.serde_json.specs.Data.{string}
use Rattle.serde_json.specs.Written.{compact_text}
use Rattle.timing_base.specs.declared.row.Unjudged.{Unjudged}
use Rattle.timing_report.specs.json_report.Json.{Member, count, object_of, unjudged_members}
use Rattle.flow_watch.specs.declared.form.Gap.{Gap}
use Rattle.flow_watch.specs.declared.form.LineForm.{LineForm}
use Rattle.flow_watch.specs.declared.form.Waiting.{Waiting}
use Rattle.flow_watch.specs.declared.peaks.BufferRange.{BufferRange}
use Rattle.flow_watch.specs.declared.stretch.PerType.{PerType}
use Rattle.flow_watch.specs.declared.stretch.Stretch.{Stretch}

-- true or false
abbrev pub flag_text : Bool → List ℕ
flag_text true = codes "true"
flag_text false = codes "false"

-- the numbers of N, NL and W, in this order
abbrev pub types_list : PerType → List ℕ
types_list k =
    codes "[" ++ (decimal k.narrow ++ (codes "," ++ (decimal k.narrow_linear ++ (codes "," ++ (decimal k.wide
    ++ codes "]")))))

-- the numbers of N, NL and W, each by the name of its type
abbrev pub types_object : PerType → List ℕ
types_object k =
    codes "{\"N\":" ++ (decimal k.narrow ++ (codes ",\"NL\":" ++ (decimal k.narrow_linear ++ (codes ",\"W\":"
    ++ (decimal k.wide ++ codes "}")))))

-- the occupancy of the buffer, and its late packets
abbrev pub range_object : BufferRange → List ℕ
range_object r =
    codes "{\"greatest\":" ++ (signed_decimal r.greatest ++ (codes ",\"late\":" ++ (decimal r.late
    ++ (codes ",\"least\":" ++ (signed_decimal r.least ++ codes "}")))))

-- the members of a stretch up to `from`, with the bracket before them
abbrev pub stretch_front : Stretch → List ℕ
stretch_front s =
    codes "{\"broken\":" ++ (types_object s.broken ++ (codes ",\"bucket\":" ++ (decimal s.peaks.bucket
    ++ (codes ",\"c_max\":" ++ (types_list s.c_max ++ (codes ",\"event\":\"frames\",\"from\":" ++ decimal s.from))))))

-- the members of a stretch about its buffer, each with the comma before it
abbrev pub stretch_buffer : (interlaced : Bool) → Stretch → List ℕ
stretch_buffer interlaced s =
    codes ",\"gapped\":" ++ (range_object s.peaks.gapped ++ (codes ",\"interlaced\":" ++ (flag_text interlaced
    ++ (codes ",\"linear\":" ++ range_object s.peaks.linear))))

-- a stretch
abbrev pub stretch_object : LineForm → Stretch → List ℕ
stretch_object form s =
    stretch_front s ++ (stretch_buffer form.interlaced s ++ (codes ",\"media\":" ++ (decimal (form.media + 1)
    ++ (codes ",\"run\":" ++ (decimal s.run ++ (codes ",\"stamp\":" ++ (decimal s.stamp ++ (codes ",\"to\":"
    ++ (decimal s.to ++ codes "}")))))))))

-- a gap
abbrev pub gap_object : LineForm → Gap → List ℕ
gap_object form gap =
    codes "{\"event\":\"gap\",\"expected\":" ++ (decimal gap.expected ++ (codes ",\"got\":" ++ (decimal gap.got
    ++ (codes ",\"media\":" ++ (decimal (form.media + 1) ++ (codes ",\"record\":"
    ++ (decimal gap.rec ++ codes "}")))))))

-- a run without a complete frame or field
abbrev pub waiting_object : LineForm → Waiting → List ℕ
waiting_object form waiting =
    codes "{\"event\":\"waiting\",\"media\":" ++ (decimal (form.media + 1) ++ (codes ",\"packets\":"
    ++ (decimal waiting.packets ++ (codes ",\"record\":" ++ (decimal waiting.rec ++ codes "}")))))

-- the members of a flow that isn't judged, for this reason: those of the report's flow beside its target
abbrev pub refused_members : (number : ℕ) → Unjudged → List Member
refused_members number reason =
    (codes "event", string (codes "refused")) ∷ (codes "media", count (number + 1)) ∷ unjudged_members reason

-- a flow that isn't judged, for this reason, with the line end
abbrev pub refused_object : (number : ℕ) → Unjudged → List ℕ
refused_object number reason = compact_text (object_of (refused_members number reason)) ++ codes "\n"
