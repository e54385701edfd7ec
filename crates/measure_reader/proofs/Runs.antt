-- A judged run is read back.
use Rattle.std.proofs.Common.{◌≡◌, ◌∙◌, ℕ, Bool, true, false, List, ◌++◌, refl, ap, append_assoc}
use Rattle.std.specs.Prelude.{Option, Some, None, codes}
use Rattle.std.specs.Fmt.{decimal}
use Rattle.timing_base.specs.Media.{Media}
use Rattle.flow_measure.specs.report.Json.{buffer_text, flag_text, gap_member, kinds_text, level_text, run_text, step_member, summary_text}
use Rattle.flow_measure.specs.report.Told.{ToldRun}
use Rattle.report_reader.proofs.Numbers.{number_back}
use Rattle.measure_reader.specs.Fits.{FitsRun}
use Rattle.measure_reader.specs.Reading.{flag, run}
use Rattle.measure_reader.specs.Told.{ReadRun, run_read}
use Rattle.measure_reader.proofs.Numbers.{buffer_back, gap_back, level_back, step_back, summary_back, target_back}
use Rattle.measure_reader.proofs.Types.{kinds_back}

flag_back : {B : Type 0} (next : Bool → List ℕ → Option B) (b : Bool) (rest : List ℕ) → flag next (flag_text b ++ rest) ≡ next b rest
unfolding flag
flag_back next true rest = refl
flag_back next false rest = refl

-- the text of a run in its pieces
run_is : (media : Media) (r : ToldRun) (rest : List ℕ) → run_text media r ++ rest
    ≡ codes "{\"bucket\":" ++ (level_text r.numbers.bucket ++ (codes ",\"first\":" ++ (summary_text r.numbers.first (Some r.numbers.target)
    ++ (codes ",\"frames\":" ++ (decimal r.judged.frames ++ (codes "," ++ (gap_member r.numbers.gap
    ++ (codes "\"gapped\":" ++ (buffer_text r.numbers.gapped ++ (codes ",\"head\":" ++ (decimal r.judged.head
    ++ (codes ",\"interlaced\":" ++ (flag_text media.interlaced ++ (codes ",\"last\":" ++ (summary_text r.numbers.last None
    ++ (codes ",\"latency\":" ++ (summary_text r.numbers.latency None ++ (codes ",\"linear\":" ++ (buffer_text r.numbers.linear
    ++ (codes ",\"n\":" ++ (decimal r.judged.n ++ (codes ",\"number\":" ++ (decimal r.number
    ++ (codes ",\"offset\":" ++ (summary_text r.numbers.offset None ++ (codes ",\"packets\":" ++ (decimal r.judged.packets
    ++ (codes ",\"record\":" ++ (decimal r.rec ++ (codes ",\"run\":" ++ (decimal r.run ++ (codes "," ++ (step_member r.numbers.step
    ++ (codes "\"tail\":" ++ (decimal r.judged.tail ++ (codes ",\"types\":" ++ (kinds_text r.judged r.numbers.kinds
    ++ (codes "}" ++ rest))))))))))))))))))))))))))))))))))))))
unfolding run_text
run_is media r rest = simp append_assoc

-- a judged run
pub run_back : {B : Type 0} (next : ReadRun → List ℕ → Option B) (media : Media) (r : ToldRun) (rest : List ℕ) → FitsRun r
    → run next (run_text media r ++ rest) ≡ next (run_read media r) rest
unfolding run
run_back next media r rest f =
    ap (run next) (run_is media r rest) ∙ level_back _ r.numbers.bucket _ f.numbers.bucket
    ∙ target_back _ r.numbers.first r.numbers.target _ f.numbers.first f.numbers.target ∙ number_back _ r.judged.frames _ f.judged.frames refl
    ∙ gap_back _ r.numbers.gap _ f.numbers.gap ∙ buffer_back _ r.numbers.gapped _ f.numbers.gapped ∙ number_back _ r.judged.head _ f.judged.head refl
    ∙ flag_back _ media.interlaced _ ∙ summary_back _ r.numbers.last _ f.numbers.last ∙ summary_back _ r.numbers.latency _ f.numbers.latency
    ∙ buffer_back _ r.numbers.linear _ f.numbers.linear ∙ number_back _ r.judged.n _ f.judged.n refl ∙ number_back _ r.number _ f.number refl
    ∙ summary_back _ r.numbers.offset _ f.numbers.offset ∙ number_back _ r.judged.packets _ f.judged.packets refl ∙ number_back _ r.rec _ f.rec refl
    ∙ number_back _ r.run _ f.run refl ∙ step_back _ r.numbers.step _ f.numbers.step ∙ number_back _ r.judged.tail _ f.judged.tail refl
    ∙ kinds_back _ r.judged r.numbers.kinds _ f.judged.narrow f.judged.linear f.judged.wide f.numbers.kinds f.numbers.three
