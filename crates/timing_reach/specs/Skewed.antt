-- The output and status of `skew`, by the contents of its inputs, in the order in which these are read: the SDP, then
-- one capture or two. Two flows that carry the same packets on two paths (SMPTE ST 2022-7; RFC 7104) are compared. The
-- first flow is in the first capture, the second in the last. Captures and media count from 0, packet records from 1;
-- skews are nanoseconds. This project's profile.
use Rattle.std.specs.Prelude.{◌≡◌, ◌+◌, ◌-◌, ◌==◌, ◌||◌, if◌then◌else◌, ℕ, Bool, false, List, [], ◌++◌, length}
use Rattle.std.specs.Prelude.{slice_get, slice_index_or, Option, Some, None, codes}
use Rattle.std.specs.Fmt.{decimal, signed_decimal}
use Rattle.std.specs.List.{list_any}
use Rattle.timing_base.specs.Captures.{Record}
use Rattle.timing_base.specs.Jobs.{SkewJob}
use Rattle.timing_base.specs.Media.{Media}
use Rattle.timing_base.specs.declared.capture.FileNote.{FileNote}
use Rattle.path_skew.specs.Pair.{skew}
use Rattle.path_skew.specs.declared.row.Extreme.{Extreme}
use Rattle.path_skew.specs.declared.row.SkewRow.{SkewRow}
use Rattle.udp_rtp.specs.Flow.{flow}
use Rattle.timing_report.specs.Outcomes.{is_refused}
use Rattle.timing_report.specs.Text.{files_lines, text_of_lines}
use Rattle.timing_report.specs.declared.status.Status.{Status}
use Rattle.timing_report.specs.declared.status.Status.TheVariants as status
use Rattle.timing_steps.specs.Answers.{Answer}
use Rattle.timing_steps.specs.Flows.{OnMedia, no_media, no_such_media}
use Rattle.timing_steps.specs.Queries.{Query}

-- `pair 1.A F.B: `; F is the number of captures
abbrev pub pair_head : SkewJob → List ℕ
pair_head job = codes "pair 1." ++ (decimal (job.media + 1)
    ++ (codes " " ++ (decimal (length job.captures) ++ (codes "."
    ++ (decimal (job.pair + 1) ++ codes ": ")))))

-- `matched M, first only X, second only Y, repeated Z, unread U`, with the newline
abbrev pub counts_text : SkewRow → List ℕ
counts_text row = codes "matched " ++ (decimal row.matched
    ++ (codes ", first only " ++ (decimal row.first_only ++ (codes ", second only "
    ++ (decimal row.second_only ++ (codes ", repeated " ++ (decimal row.repeated
    ++ (codes ", unread " ++ (decimal row.unread ++ codes "\n")))))))))

-- `WORD D ns at records R and T`, with the newline; empty if no number is matched
abbrev pub extreme_line : List ℕ → Option Extreme → List ℕ
extreme_line word None = []
extreme_line word (Some e) =
    word ++ (codes " " ++ (signed_decimal e.skew ++ (codes " ns at records " ++ (decimal e.first_rec
    ++ (codes " and " ++ (decimal e.second_rec ++ codes "\n"))))))

-- the lines of the pair
abbrev pub row_text : SkewJob → SkewRow → List ℕ
row_text job row = pair_head job ++ (counts_text row ++ (extreme_line (codes "least") row.least
    ++ extreme_line (codes "greatest") row.greatest))

-- 4 if no number is matched, or a capture was refused as malformed; else 0
abbrev pub skew_status : (refused : Bool) → SkewRow → Status
skew_status refused row = if (row.matched == 0) || refused then status.NotAllJudged else status.Pass

-- the answer for captures that end in these ways and this comparison: a line for each capture, and the lines of the
-- pair
abbrev pub skewed : SkewJob → List FileNote → SkewRow → Answer
skewed job notes row = record {
  text = text_of_lines (files_lines 0 job.captures notes) ++ row_text job row;
  status = skew_status (list_any is_refused notes) row;
}

-- the packet records of the first capture
abbrev pub first_of : List (List Record) → List Record
first_of files = slice_index_or files 0 []

-- the packet records of the last capture
abbrev pub last_of : List (List Record) → List Record
last_of files = slice_index_or files (length files - 1) []

-- the answer if the SDP doesn't have one of the media
abbrev pub no_pair : (first second : Option Media) → Option Answer
no_pair None second = Some no_such_media
no_pair (Some a) second = no_media second

-- what `skew` asks: the captures are read if the SDP has both media
abbrev pub skew_query : SkewJob → Query
skew_query job = record {
  sdp = job.sdp;
  captures = job.captures;
  early = λ media. no_pair (slice_get media job.media) (slice_get media job.pair);
  Defines = λ media files notes answer.
      OnMedia (slice_get media job.media) (λ a. OnMedia (slice_get media job.pair) (λ b.
      answer ≡ skewed job notes (skew (flow (first_of files) a) (flow (last_of files) b))));
  checks = false;
}
