-- The whole page of a capture, or of several that were taken as one: the table of the media, for each flow with a
-- judged run the pictures and the measurements of one run, and the other contents of the captures. Capture timestamps
-- are nanoseconds. Media count from 1 in the text. This project's own format.
use Rattle.std.specs.Prelude.{ℕ, ◌+◌, List, [], ◌++◌, codes, Option, Some, None}
use Rattle.std.specs.Fmt.{decimal}
use Rattle.std.specs.List.{flat_map}
use Rattle.timing_base.specs.Shifts.{Shift}
use Rattle.timing_base.specs.Media.{Media}
use Rattle.timing_base.specs.Targets.{target_of, target_text}
use Rattle.timing_base.specs.declared.capture.FileNote.{FileNote}
use Rattle.timing_base.specs.declared.target.Target.{Target}
use Rattle.timing_report.specs.Words.{group_name}
use Rattle.flow_measure.specs.declared.numbers.MeasuredFlow.{MeasuredFlow}
use Rattle.flow_measure.specs.declared.numbers.MeasuredRun.{MeasuredRun}
use Rattle.flow_page.specs.chart.Figures.{told}
use Rattle.flow_page.specs.Around.{around_figures}
use Rattle.flow_page.specs.Head.{legend, notes_part, page_end, page_start}
use Rattle.flow_page.specs.Levels.{level_figures}
use Rattle.flow_page.specs.Media.{flow_media, media_table}
use Rattle.flow_page.specs.Numbers.{numbers_table, runs_table, types_table}
use Rattle.flow_page.specs.Often.{gap_figure, often_from}
use Rattle.flow_page.specs.Shown.{types_shown}
use Rattle.flow_page.specs.Timings.{period_of, steps_line, timing_figures}
use Rattle.flow_page.specs.Times.{epoch_text, file_time}
use Rattle.flow_page.specs.Words.{type_words}
use Rattle.flow_page.specs.declared.levels.View.TheVariants.{Eye, WholeRun}
use Rattle.flow_page.specs.declared.shown.FlowPage.{FlowPage}
use Rattle.flow_page.specs.declared.shown.ShownRun.{ShownRun}
use Rattle.flow_page.specs.declared.shown.TypeShown.{TypeShown}

-- the heading of a flow
abbrev pub flow_heading : (number : ℕ) → Target → List ℕ
flow_heading number target =
    codes "<h2>Flow " ++ (decimal number ++ (codes ", " ++ (target_text target ++ codes "</h2>\n")))

-- the line that names a run, with the capture timestamps of its first and last judged packet as the file has them
abbrev pub run_heading : (run place first last : ℕ) → List ℕ
run_heading run place first last =
    codes "<p>Run " ++ (decimal run ++ (codes ", from record " ++ (decimal place
    ++ (codes "; capture timestamps of judged packets " ++ (epoch_text first ++ (codes " to " ++ (epoch_text last
    ++ codes " s.</p>\n")))))))

-- the list of the results of all types, in words
abbrev pub words_list : List TypeShown → (group : List ℕ) → (shift : Shift) → List ℕ
words_list types group shift =
    codes "<ul class=\"words\">\n" ++ (flat_map (λ t. type_words t group shift) types ++ codes "</ul>\n")

-- the pictures of a run, in a grid
unfoldable pub run_grid : Media → ShownRun → List TypeShown → List ℕ
run_grid media s types =
    codes "<div class=\"grid\">\n" ++ (level_figures media s types WholeRun ++ (level_figures media s types Eye
    ++ (timing_figures media (period_of media) s ++ (often_from s.run.numbers 0 s.run.numbers.kinds
    ++ (gap_figure s.run.numbers.gap ++ (around_figures types s.regions ++ codes "</div>\n"))))))

-- the tables of a run: its measurements, its types, and all judged runs of its flow
unfoldable pub run_tables : Media → ShownRun → List TypeShown → List MeasuredRun → List ℕ
run_tables media s types runs =
    numbers_table media s.run.numbers ++ (types_table media types ++ runs_table media runs)

-- the part of a run
unfoldable pub run_part : (shift : Shift) → Media → MeasuredFlow → ShownRun → List TypeShown → List ℕ
run_part shift media flow s types =
    flow_heading (flow.media + 1) (target_of media)
    ++ (run_heading s.run.run s.run.«record» (file_time shift s.first_at) (file_time shift s.last_at)
    ++ (words_list types (group_name media.interlaced) shift
    ++ (steps_line media s.run.judged.frames s.run.numbers.step
    ++ (run_grid media s types ++ run_tables media s types flow.runs))))

-- the part of a flow, if a run is shown
abbrev pub part_if : (shift : Shift) → Media → MeasuredFlow → Option ShownRun → List ℕ
part_if shift media flow None = []
part_if shift media flow (Some s) = run_part shift media flow s (types_shown s.run.judged s.run.numbers)

-- the part of a flow of the page
abbrev pub flow_part : (shift : Shift) → Media → FlowPage → List ℕ
flow_part shift media f = part_if shift media f.flow f.shown

-- the parts of all flows
abbrev pub flow_parts : (shift : Shift) → List Media → List FlowPage → List ℕ
flow_parts shift session flows = flat_map (λ f. flow_part shift (flow_media session f) f) flows

-- the start of the section on what the capture contains, with these lines
abbrev pub contents_told : List ℕ → List ℕ
contents_told lines = told (codes "<h2>What the capture holds</h2>\n<div class=\"scroll\"><pre>") lines

-- the section on what the capture contains
unfoldable pub contents_part : List ℕ → List ℕ
contents_part lines = contents_told lines ++ codes "</pre></div>\n"

-- the page of the captures with these names and these ends, in their order; `lines` is what the captures contain
abbrev pub page_of : List (List ℕ) → List FileNote → (shift : Shift) → List Media → List FlowPage → List ℕ → List ℕ
page_of names notes shift session flows lines =
    page_start names ++ (notes_part names notes ++ (media_table session flows ++ (legend
    ++ (flow_parts shift session flows ++ (contents_part lines ++ page_end)))))
