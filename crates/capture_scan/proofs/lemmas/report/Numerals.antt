-- What is opened to compute texts that are worked by hand.
use Rattle.std.specs.Fmt.{char_count, digits, padded_integral}
use Rattle.std.specs.Prelude.{⊤}
use Rattle.capture_scan.specs.report.Rates.{denominator_from}
use Rattle.serde_json.proofs.OnLiterals.{serde_json_on_literals}

-- JSON texts, and numerals in them
unfoldable pub scan_texts : ⊤
unfolding digits padded_integral char_count serde_json_on_literals denominator_from
scan_texts = tt
