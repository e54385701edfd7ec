-- The text of one verdict: its line, and the lines of the sender types below it. Lines are given without their
-- newlines. Counts and limits are packets. Packet records count from 1, and the packets of a judged run from 0. In the
-- line of a judged run the packets of one frame or field come first, and then the number of frames or fields.
use Rattle.std.specs.Prelude.{ℕ, ◌+◌, ◌-◌, List, [], ◌∷◌, ◌++◌, length, Option, Some, None, codes}
use Rattle.std.specs.Fmt.{decimal}
use Rattle.timing_base.specs.Media.{Media}
use Rattle.timing_base.specs.Verdicts.{Judged}
use Rattle.timing_base.specs.declared.fail.FailProof.{FailProof}
use Rattle.timing_base.specs.declared.media.Kind.{Kind}
use Rattle.timing_base.specs.declared.media.Kind.TheVariants.{N, NL, W}
use Rattle.timing_base.specs.declared.row.KindVerdict.{KindVerdict}
use Rattle.timing_base.specs.declared.row.KindVerdict.TheVariants as kind_verdict
use Rattle.timing_base.specs.declared.row.Run.{Run}
use Rattle.timing_base.specs.declared.row.RunVerdict.{RunVerdict}
use Rattle.timing_base.specs.declared.row.RunVerdict.TheVariants as run_verdict
use Rattle.timing_base.specs.declared.row.Unjudged.{Unjudged}
use Rattle.timing_base.specs.declared.row.Unjudged.TheVariants as unjudged
use Rattle.timing_base.specs.declared.row.Verdict.{Verdict}
use Rattle.timing_base.specs.declared.row.Verdict.TheVariants as verdict
use Rattle.sender_params.specs.Limits.{c_max_of, vrx_full_of}
use Rattle.timing_report.specs.Outcomes.{verdict_on, first_passing, buffer_peak}
use Rattle.timing_report.specs.Words.{kind_name, declared_name, class_name, model_name, group_name, packet_fault_text}

-- `no whole frame, head H`: H packets up to the first marker
abbrev pub no_whole_frame_text : ℕ → List ℕ
no_whole_frame_text head = codes "no whole frame, head " ++ decimal head

-- the text of a flow that was not judged
abbrev pub unjudged_text : Unjudged → List ℕ
unjudged_text unjudged.Absent = codes "absent"
unjudged_text (unjudged.NoWholeFrame head) = no_whole_frame_text head
unjudged_text (unjudged.Refused rec fault) =
    codes "refused at record " ++ (decimal rec ++ (codes ": " ++ packet_fault_text fault))
unjudged_text (unjudged.Gap rec expected got) =
    codes "gap at record " ++ (decimal rec ++ (codes ": expected "
    ++ (decimal expected ++ (codes ", got " ++ decimal got))))

-- `judged: N per frame, F frames, P packets`, or with `field` if interlaced
abbrev pub counts_text : Media → Judged → List ℕ
counts_text media judged =
    let group = group_name media.interlaced in
    codes "judged: " ++ (decimal judged.n ++ (codes " per "
    ++ (group ++ (codes ", " ++ (decimal judged.frames ++ (codes " "
    ++ (group ++ (codes "s, " ++ (decimal judged.packets ++ codes " packets")))))))))

-- `, head H, tail T, class C, declared D`: packets before and after the judged ones, first type that passes, type of
-- the SDP
abbrev pub places_text : Media → Judged → List ℕ
places_text media judged = codes ", head " ++ (decimal judged.head ++ (codes ", tail " ++ (decimal judged.tail
    ++ (codes ", class " ++ (class_name (first_passing judged)
    ++ (codes ", declared " ++ declared_name media.declared))))))

-- `judged: N per frame, F frames, P packets, head H, tail T, class C, declared D`
abbrev pub judged_text : Media → Judged → List ℕ
judged_text media judged = counts_text media judged ++ places_text media judged

-- `gaps X, runs Y`
abbrev pub runs_text : List Run → List ℕ
runs_text runs = codes "gaps " ++ (decimal (length runs - 1) ++ (codes ", runs " ++ decimal (length runs)))

-- the text of a verdict, without the lines below it
abbrev pub verdict_text : Media → Verdict → List ℕ
verdict_text media (verdict.Unjudged unjudged) = unjudged_text unjudged
verdict_text media (verdict.Judged judged) = judged_text media judged
verdict_text media (verdict.Runs runs) = runs_text runs

-- `MODEL FROM to TO count COUNT limit LIMIT`, the text of a violation
abbrev pub proof_text : FailProof → List ℕ
proof_text proof = model_name proof.model ++ (codes " " ++ (decimal proof.from ++ (codes " to " ++ (decimal proof.to
    ++ (codes " count " ++ (decimal proof.count ++ (codes " limit " ++ decimal proof.limit)))))))

-- `pass`, or `fail` and the violation
abbrev pub outcome_text : KindVerdict → List ℕ
outcome_text kind_verdict.Pass = codes "pass"
outcome_text (kind_verdict.Fail proof) = codes "fail " ++ proof_text proof

-- `K OUTCOME, bucket B of CMAX, buffer V of FULL`: the peaks over the whole run, and the limits of this type
abbrev pub type_text : Media → Judged → Kind → List ℕ
type_text media judged kind = kind_name kind ++ (codes " " ++ (outcome_text (verdict_on judged kind)
    ++ (codes ", bucket " ++ (decimal judged.bucket_peak ++ (codes " of " ++ (decimal (c_max_of media judged.n kind)
    ++ (codes ", buffer " ++ (decimal (buffer_peak judged kind)
    ++ (codes " of " ++ decimal (vrx_full_of media judged.n kind))))))))))

-- the lines of the three types, each behind this indentation
abbrev pub type_lines : List ℕ → Media → Judged → List (List ℕ)
type_lines space media judged =
    (space ++ type_text media judged N) ∷ (space ++ type_text media judged NL) ∷ (space ++ type_text media judged W)
    ∷ []

-- the text of the verdict on a run between gaps
abbrev pub run_verdict_text : Media → RunVerdict → List ℕ
run_verdict_text media (run_verdict.NoWholeFrame head) = no_whole_frame_text head
run_verdict_text media (run_verdict.Judged judged) = judged_text media judged

-- ` expected E`: the extended sequence number that would have continued the run before; empty for the first run
abbrev pub expected_text : Option ℕ → List ℕ
expected_text None = []
expected_text (Some expected) = codes " expected " ++ decimal expected

-- `  run R from record A number B expected E: `; `index` counts runs from 0, the text from 1
abbrev pub run_head : ℕ → Run → List ℕ
run_head index run = codes "  run " ++ (decimal (index + 1) ++ (codes " from record " ++ (decimal run.rec
    ++ (codes " number " ++ (decimal run.number ++ (expected_text run.expected ++ codes ": "))))))

-- the line of a run
abbrev pub run_text : Media → ℕ → Run → List ℕ
run_text media index run = run_head index run ++ run_verdict_text media run.verdict

-- the lines of the types below the line of a run
abbrev pub lines_below_run : Media → RunVerdict → List (List ℕ)
lines_below_run media (run_verdict.NoWholeFrame head) = []
lines_below_run media (run_verdict.Judged judged) = type_lines (codes "    ") media judged

-- the line of a run, and the lines below it
abbrev pub run_lines : Media → ℕ → Run → List (List ℕ)
run_lines media index run = run_text media index run ∷ lines_below_run media run.verdict

-- the lines of the runs from number `index` on
abbrev pub runs_lines : Media → ℕ → List Run → List (List ℕ)
runs_lines media index [] = []
runs_lines media index (run ∷ rest) = run_lines media index run ++ runs_lines media (index + 1) rest

-- the lines below the line of a flow
abbrev pub lines_below : Media → Verdict → List (List ℕ)
lines_below media (verdict.Unjudged unjudged) = []
lines_below media (verdict.Judged judged) = type_lines (codes "  ") media judged
lines_below media (verdict.Runs runs) = runs_lines media 0 runs
