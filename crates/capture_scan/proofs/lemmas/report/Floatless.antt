-- No value of a scan has a float.
use Rattle.std.proofs.Common.{◌≡◌, ℕ, List, [], ◌∷◌, true, false, refl, ◌^◌}
use Rattle.std.specs.Prelude.{codes, map, Some, None, Option, nat_lt, if◌then◌else◌}
use Rattle.serde_json.specs.Data.{boolean}
use Rattle.serde_json.specs.Written.{has_float}
use Rattle.timing_base.specs.declared.capture.FileNote.{FileNote}
use Rattle.timing_report.specs.json_report.Json.{count, list_of}
use Rattle.timing_report.proofs.lemmas.json_report.Floatless.{neither, any_float, any_float-append, object-floatless, list-floatless}
use Rattle.capture_scan.specs.declared.found.Span.{Span}
use Rattle.capture_scan.specs.declared.found.UnreadTarget.{UnreadTarget}
use Rattle.capture_scan.specs.declared.stream.Lines.{Lines}
use Rattle.capture_scan.specs.declared.stream.Pace.{Pace}
use Rattle.capture_scan.specs.declared.stream.Rate.{Rate}
use Rattle.capture_scan.specs.declared.stream.Stream.{Stream}
use Rattle.capture_scan.specs.report.Contents.{Contents}
use Rattle.capture_scan.specs.report.Json.{contents_data, contents_members, file_members, held_members, lines_members, pace_members}
use Rattle.capture_scan.specs.report.Json.{rate_data, rate_members, span_members, stream_data, stream_members, unread_data, unread_members}

rate-floatless : (rate : Rate) → any_float (rate_members rate) ≡ false
rate-floatless rate =
    elim (nat_lt rate.ticks (2 ^ 64)) as (λ b. any_float (if b then (codes "rate", rate_data rate) ∷ [] else []) ≡ false) [ true ↦ refl | false ↦ refl ]

pace-floatless : (pace : Option Pace) → any_float (pace_members pace) ≡ false
pace-floatless None = refl
pace-floatless (Some pace) = rate-floatless pace.rate

lines-floatless : (lines : Option Lines) → any_float (lines_members lines) ≡ false
lines-floatless None = refl
lines-floatless (Some lines) =
    elim lines.fits as (λ b. any_float (if b then (codes "line", count lines.greatest) ∷ (codes "second_field", boolean lines.second_field) ∷ [] else []) ≡
    false)
    [ true ↦ refl | false ↦ refl ]

stream-floatless : (s : Stream) → has_float (stream_data s) ≡ false
stream-floatless s =
    object-floatless (stream_members s)
    (any_float-append (pace_members s.pace) (lines_members s.lines) (pace-floatless s.pace) (lines-floatless s.lines))

unread-floatless : (u : UnreadTarget) → has_float (unread_data u) ≡ false
unread-floatless u = object-floatless (unread_members u) refl

span-floatless : (span : Option Span) → any_float (span_members span) ≡ false
span-floatless None = refl
span-floatless (Some span) = refl

held-floatless : (c : Contents) → any_float (held_members c) ≡ false
held-floatless c =
    neither (has_float (list_of (map unread_data c.unread))) _ (list-floatless unread_data unread-floatless c.unread)
    (neither (has_float (list_of (map stream_data c.streams))) _ (list-floatless stream_data stream-floatless c.streams) refl)

-- the whole
pub contents-floatless : (name : List ℕ) (note : FileNote) (c : Contents) → has_float (contents_data name note c) ≡ false
contents-floatless name note c =
    object-floatless (contents_members name note c)
    (any_float-append (file_members name note c) (held_members c) (span-floatless c.span) (held-floatless c))
