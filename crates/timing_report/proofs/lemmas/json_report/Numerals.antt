-- What is opened to compute JSON texts that are worked by hand.
use Rattle.std.specs.Fmt.{digits}
use Rattle.std.specs.Prelude.{⊤}
use Rattle.serde_json.proofs.OnLiterals.{serde_json_on_literals}

-- JSON texts, and decimal numerals in them
unfoldable pub json_texts : ⊤
unfolding digits serde_json_on_literals
json_texts = tt
