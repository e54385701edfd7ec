use Rattle.std.proofs.Common.{◌≡◌, ℕ, List, [], ◌++◌, ap, append_assoc, append-nil}
use Rattle.std.specs.Prelude.{codes}
use Rattle.timing_base.specs.Examples.{plain_media}
use Rattle.flow_measure.specs.report.Json.{run_text}
use Rattle.flow_measure.proofs.lemmas.report.Numerals.{measure_texts}
use Rattle.flow_measure.proofs.report.laws.runs_by_hand.Goals as goal

-- one item of a list, and what stands behind the list
one_item : (item rest : List ℕ) → (((item ++ []) ++ codes "]") ++ codes ",") ++ rest ≡ item ++ (codes "]," ++ rest)
one_item item rest = simp (append_assoc, append-nil)

pub returns-clause-one : goal.returns-clause-one
unfolding measure_texts
returns-clause-one c = λ r.
    ap (λ s. codes "{\"media\":1,\"packets\":40,\"runs\":[" ++ s)
    (one_item (run_text plain_media r) (codes "\"ssrc\":\"00000001\",\"target\":\"239.0.0.1:50000\",\"verdict\":\"runs\"}"))
