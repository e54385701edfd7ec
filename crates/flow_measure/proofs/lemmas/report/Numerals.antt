-- What is opened to compute texts that are worked by hand.
use Rattle.std.specs.Fmt.{char_count, digits, padded_integral}
use Rattle.std.specs.Prelude.{⊤}
use Rattle.serde_json.proofs.OnLiterals.{serde_json_on_literals}
use Rattle.flow_measure.specs.report.Json.{judged_text, kind_text, run_text}

-- JSON texts, and numerals in them
unfoldable pub measure_texts : ⊤
unfolding digits padded_integral char_count serde_json_on_literals judged_text kind_text run_text
measure_texts = tt
