-- The measurements of a run as tables: the summaries, the sender types, and the judged runs of the flow with one row
-- each. The cell of a missing number is empty. This project's own format.
use Rattle.std.specs.Prelude.{ℕ, ℤ, List, [], ◌++◌, codes, Option, Some, None}
use Rattle.std.specs.Fmt.{decimal, signed_decimal}
use Rattle.std.specs.List.{flat_map}
use Rattle.timing_base.specs.Media.{Media}
use Rattle.timing_base.specs.Verdicts.{Judged}
use Rattle.timing_report.specs.Outcomes.{first_passing}
use Rattle.timing_report.specs.Words.{class_name, group_name, kind_name}
use Rattle.flow_measure.specs.declared.numbers.Gaps.{Gaps}
use Rattle.flow_measure.specs.declared.numbers.MeasuredRun.{MeasuredRun}
use Rattle.flow_measure.specs.declared.numbers.RunNumbers.{RunNumbers}
use Rattle.flow_measure.specs.declared.summary.Summary.{Summary}
use Rattle.flow_page.specs.Media.{table_close}
use Rattle.flow_page.specs.Words.{sign_text}
use Rattle.flow_page.specs.declared.shown.TypeShown.{TypeShown}

-- a cell that may be empty
abbrev pub cell_if : Option ℕ → List ℕ
cell_if None = codes "<td></td>"
cell_if (Some n) = codes "<td>" ++ (decimal n ++ codes "</td>")

-- a row of the least, the greatest and the sum of a summary
abbrev pub level_row : (name : List ℕ) → Summary → List ℕ
level_row name s =
    codes "<tr><th>" ++ (name ++ (codes "</th><td>" ++ (signed_decimal s.least ++ (codes "</td><td>"
    ++ (signed_decimal s.greatest ++ (codes "</td><td></td><td></td><td>" ++ (signed_decimal s.sum
    ++ codes "</td></tr>\n")))))))

-- two cells
unfoldable pub pair_cells : (first second : ℤ) → List ℕ
pair_cells first second =
    codes "<td>" ++ (signed_decimal first ++ (codes "</td><td>" ++ (signed_decimal second ++ codes "</td>")))

-- a row of a whole summary
abbrev pub summary_row : (name : List ℕ) → Summary → List ℕ
summary_row name s =
    codes "<tr><th>" ++ (name ++ (codes "</th>" ++ (pair_cells s.least s.greatest ++ (pair_cells s.first s.last
    ++ (codes "<td>" ++ (signed_decimal s.sum ++ codes "</td></tr>\n"))))))

-- the row of the steps of the RTP timestamp, if there are two frames or fields
abbrev pub step_row : Option Summary → List ℕ
step_row None = []
step_row (Some s) =
    codes "<tr><th>step of the RTP timestamp, ticks</th><td>" ++ (signed_decimal s.least ++ (codes "</td><td>"
    ++ (signed_decimal s.greatest ++ codes "</td><td></td><td></td><td></td></tr>\n")))

-- the row of the times between packets, if there are two packets
abbrev pub gap_row : Option Gaps → List ℕ
gap_row None = []
gap_row (Some g) = level_row (codes "from packet to packet, ns") g.summary

-- the start of the table of summaries
unfoldable pub numbers_open : List ℕ
numbers_open =
    codes "<h3>Numbers</h3>\n<div class=\"scroll\"><table><thead><tr><th>of the run</th><th>least</th>"
    ++ codes "<th>greatest</th><th>first</th><th>last</th><th>sum</th></tr></thead><tbody>\n"

-- the rows of the levels of bucket and buffer
abbrev pub level_rows : RunNumbers → List ℕ
level_rows n =
    level_row (codes "packets in the bucket") n.bucket
    ++ (level_row (codes "packets in the buffer, gapped reads") n.gapped.occupancy
    ++ level_row (codes "packets in the buffer, linear reads") n.linear.occupancy)

-- a row of a whole summary that is counted from the instant at which each frame or field begins
unfoldable pub after_row : (what group unit : List ℕ) → Summary → List ℕ
after_row what group unit s =
    codes "<tr><th>" ++ (what ++ (codes " after the " ++ (group ++ (codes " begins, " ++ (unit ++ (codes "</th>"
    ++ (pair_cells s.least s.greatest ++ (pair_cells s.first s.last ++ (codes "<td>" ++ (signed_decimal s.sum
    ++ codes "</td></tr>\n"))))))))))

-- the row of TR_OFFSET, at which the first packet of a frame or field is due
abbrev pub target_row : (target : ℕ) → List ℕ
target_row target =
    codes "<tr><th>target of the first packet (TR_OFFSET), ns</th><td colspan=\"5\">"
    ++ (decimal target ++ codes "</td></tr>\n")

-- the rows of the times of packets and of the RTP timestamps; `group` is "frame" or "field"
abbrev pub time_rows : (group : List ℕ) → RunNumbers → List ℕ
time_rows group n =
    after_row (codes "first packet") group (codes "ns") n.first
    ++ (target_row n.target ++ (after_row (codes "last packet") group (codes "ns") n.last
    ++ (gap_row n.gap ++ (step_row n.step ++ (after_row (codes "RTP timestamp") group (codes "ticks") n.offset
    ++ summary_row (codes "from RTP timestamp to first packet, ticks") n.latency)))))

-- all rows of the table of summaries
unfoldable pub number_rows : (group : List ℕ) → RunNumbers → List ℕ
number_rows group n = level_rows n ++ time_rows group n

-- the table of summaries
abbrev pub numbers_table : Media → RunNumbers → List ℕ
numbers_table m n = numbers_open ++ (number_rows (group_name m.interlaced) n ++ table_close)

-- the start of the table of types
unfoldable pub types_open : (group : List ℕ) → List ℕ
types_open group =
    codes "<div class=\"scroll\"><table><thead><tr><th>of the type</th><th>outcome</th><th>" ++ (group
    ++ (codes "s that break it</th><th>bucket at most</th><th>peak</th><th>packets above</th><th>first</th>"
    ++ (codes "<th>buffer at most</th><th>peak</th><th>packets above</th><th>first</th><th>below 0</th>"
    ++ codes "<th>packets late</th><th>first</th><th>slack, ns</th></tr></thead><tbody>\n")))

-- the cells of a type for the bucket
abbrev pub bucket_cells : TypeShown → List ℕ
bucket_cells t =
    codes "<td>" ++ (decimal t.c_max ++ (codes "</td><td>" ++ (decimal t.bucket_peak ++ (codes "</td><td>"
    ++ (decimal t.above_bucket ++ (codes "</td>" ++ cell_if t.first_bucket))))))

-- the cells of a type for the buffer
abbrev pub buffer_cells : TypeShown → List ℕ
buffer_cells t =
    codes "<td>" ++ (decimal t.vrx_full ++ (codes "</td><td>" ++ (decimal t.buffer_peak ++ (codes "</td><td>"
    ++ (decimal t.above_buffer ++ (codes "</td>" ++ (cell_if t.first_over ++ (codes "<td>" ++ (decimal t.below_buffer
    ++ codes "</td>")))))))))

-- the cells of a type for late packets
abbrev pub read_cells : TypeShown → List ℕ
read_cells t =
    codes "<td>" ++ (decimal t.late ++ (codes "</td>" ++ (cell_if t.first_empty ++ (codes "<td>"
    ++ (signed_decimal t.slack ++ codes "</td>")))))

-- the row of a type
abbrev pub type_row : TypeShown → List ℕ
type_row t =
    codes "<tr><th>" ++ (kind_name t.kind ++ (codes "</th><td>" ++ (sign_text t.verdict ++ (codes "</td><td>"
    ++ (decimal t.groups_broken ++ (codes "</td>" ++ (bucket_cells t ++ (buffer_cells t ++ (read_cells t
    ++ codes "</tr>\n")))))))))

-- the table of types
abbrev pub types_table : Media → List TypeShown → List ℕ
types_table m types = types_open (group_name m.interlaced) ++ (flat_map type_row types ++ table_close)

-- the start of the table of runs
unfoldable pub runs_open : (group : List ℕ) → List ℕ
runs_open group =
    codes "<div class=\"scroll\"><table><thead><tr><th>judged run</th><th>record</th><th>number</th><th>packets</th>"
    ++ (codes "<th>in a " ++ (group ++ (codes "</th><th>" ++ (group
    ++ (codes "s</th><th>head</th><th>tail</th><th>class</th><th>bucket</th>"
    ++ codes "<th>buffer, gapped</th><th>buffer, linear</th></tr></thead><tbody>\n")))))

-- the start of a run's row: its number, its first packet record, and the 32-bit sequence number of that packet
abbrev pub run_open : (run place number : ℕ) → List ℕ
run_open run place number =
    codes "<tr><th>" ++ (decimal run ++ (codes "</th><td>" ++ (decimal place ++ (codes "</td><td>" ++ (decimal number
    ++ codes "</td>")))))

-- the cells of the packets of a run
abbrev pub run_packets : Judged → List ℕ
run_packets j =
    codes "<td>" ++ (decimal j.packets ++ (codes "</td><td>" ++ (decimal j.n ++ (codes "</td><td>" ++ (decimal j.frames
    ++ (codes "</td><td>" ++ (decimal j.head ++ (codes "</td><td>" ++ (decimal j.tail ++ codes "</td>")))))))))

-- the cells of the class and the peaks of a run
abbrev pub run_peaks : Judged → List ℕ
run_peaks j =
    codes "<td>" ++ (class_name (first_passing j) ++ (codes "</td><td>" ++ (decimal j.bucket_peak ++ (codes "</td><td>"
    ++ (decimal j.gapped_peak ++ (codes "</td><td>" ++ (decimal j.linear_peak ++ codes "</td></tr>\n")))))))

-- the row of a run
abbrev pub run_row : MeasuredRun → List ℕ
run_row r = run_open r.run r.«record» r.number ++ (run_packets r.judged ++ run_peaks r.judged)

-- the table of runs
abbrev pub runs_table : Media → List MeasuredRun → List ℕ
runs_table m runs = runs_open (group_name m.interlaced) ++ (flat_map run_row runs ++ table_close)
