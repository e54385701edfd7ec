-- The lines of a flow while it is watched, as text or as JSON, each with its line end. Fields are separated by one
-- space. Media, runs, frames, fields and packet records count from 1; the media of a `LineForm` counts from 0. Capture
-- timestamps are seconds of TAI with nine decimals. The other numbers are packets, frames or fields. This project's
-- profile: all lines.
use Rattle.std.specs.Prelude.{ℕ, ◌+◌, ◌/◌, ◌%◌, if◌then◌else◌, List, ◌++◌, codes}
use Rattle.std.specs.Fmt.{decimal, signed_decimal}
use Rattle.timing_base.specs.Media.{Media}
use Rattle.timing_base.specs.declared.row.Unjudged.{Unjudged}
use Rattle.timing_base.specs.declared.row.Verdict.TheVariants as verdict
use Rattle.timing_report.specs.Verdict.{verdict_text}
use Rattle.timing_report.specs.Words.{group_name}
use Rattle.flow_watch.specs.Objects.{gap_object, refused_object, stretch_object, waiting_object}
use Rattle.flow_watch.specs.declared.form.Gap.{Gap}
use Rattle.flow_watch.specs.declared.form.LineForm.{LineForm}
use Rattle.flow_watch.specs.declared.form.Waiting.{Waiting}
use Rattle.flow_watch.specs.declared.peaks.BufferRange.{BufferRange}
use Rattle.flow_watch.specs.declared.peaks.Peaks.{Peaks}
use Rattle.flow_watch.specs.declared.stretch.PerType.{PerType}
use Rattle.flow_watch.specs.declared.stretch.Stretch.{Stretch}

-- the last three digits of a number
abbrev pub three : ℕ → List ℕ
three n = decimal (n / 100 % 10) ++ (decimal (n / 10 % 10) ++ decimal (n % 10))

-- nanoseconds as seconds, with nine decimals
abbrev pub seconds_text : ℕ → List ℕ
seconds_text ns =
    decimal (ns / 1000000000) ++ (codes "." ++ (three (ns / 1000000 % 1000) ++ (three (ns / 1000 % 1000)
    ++ three (ns % 1000))))

-- `L to G late X`: the least and the greatest occupancy of the buffer, and the late packets
abbrev pub range_text : BufferRange → List ℕ
range_text r =
    signed_decimal r.least ++ (codes " to " ++ (signed_decimal r.greatest ++ (codes " late " ++ decimal r.late)))

-- `bucket C of N NL W gapped L to G late X linear L to G late X`, with C_MAX of each type behind `of`
abbrev pub peaks_text : Peaks → (c_max : PerType) → List ℕ
peaks_text p c_max =
    codes "bucket " ++ (decimal p.bucket ++ (codes " of " ++ (decimal c_max.narrow ++ (codes " "
    ++ (decimal c_max.narrow_linear ++ (codes " " ++ (decimal c_max.wide ++ (codes " gapped "
    ++ (range_text p.gapped ++ (codes " linear " ++ range_text p.linear))))))))))

-- `N broken K NL broken K W broken K`: the frames or fields that break each type
abbrev pub broken_text : PerType → List ℕ
broken_text k =
    codes "N broken " ++ (decimal k.narrow ++ (codes " NL broken " ++ (decimal k.narrow_linear
    ++ (codes " W broken " ++ decimal k.wide))))

-- `MEDIA run R frames A to B at S`, with `fields` if the video is interlaced
abbrev pub place_text : LineForm → Stretch → List ℕ
place_text form s =
    decimal (form.media + 1) ++ (codes " run " ++ (decimal s.run ++ (codes " " ++ (group_name form.interlaced
    ++ (codes "s " ++ (decimal s.from ++ (codes " to " ++ (decimal s.to ++ (codes " at "
    ++ seconds_text s.stamp)))))))))

-- the line of a stretch, without its end
abbrev pub stretch_text : LineForm → Stretch → List ℕ
stretch_text form s =
    place_text form s ++ (codes " " ++ (peaks_text s.peaks s.c_max ++ (codes " " ++ broken_text s.broken)))

-- `MEDIA gap at record R expected E got G`
abbrev pub gap_text : LineForm → Gap → List ℕ
gap_text form gap =
    decimal (form.media + 1) ++ (codes " gap at record " ++ (decimal gap.rec ++ (codes " expected "
    ++ (decimal gap.expected ++ (codes " got " ++ decimal gap.got)))))

-- `MEDIA waiting for a marker, P packets since record R`
abbrev pub waiting_text : LineForm → Waiting → List ℕ
waiting_text form waiting =
    decimal (form.media + 1) ++ (codes " waiting for a marker, " ++ (decimal waiting.packets
    ++ (codes " packets since record " ++ decimal waiting.rec)))

-- `MEDIA VERDICT`, the verdict as in the report, with the line end
abbrev pub refused_text : (number : ℕ) → Media → Unjudged → List ℕ
refused_text number m reason =
    decimal (number + 1) ++ (codes " " ++ (verdict_text m (verdict.Unjudged reason) ++ codes "\n"))

-- the line of a stretch
abbrev pub stretch_line : LineForm → Stretch → List ℕ
stretch_line form s = (if form.json then stretch_object form s else stretch_text form s) ++ codes "\n"

-- the line of a gap
abbrev pub gap_line : LineForm → Gap → List ℕ
gap_line form gap = (if form.json then gap_object form gap else gap_text form gap) ++ codes "\n"

-- the line of a run without a complete frame or field
abbrev pub waiting_line : LineForm → Waiting → List ℕ
waiting_line form waiting = (if form.json then waiting_object form waiting else waiting_text form waiting) ++ codes "\n"

-- the line of a flow of this media that isn't judged, for this reason
abbrev pub refused_line : LineForm → Media → Unjudged → List ℕ
refused_line form m reason =
    if form.json then refused_object form.media reason else refused_text form.media m reason
