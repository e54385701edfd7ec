-- What is opened to compute texts that are worked by hand.
use Rattle.std.specs.Fmt.{char_count, digits, padded_integral}
use Rattle.std.specs.Prelude.{⊤}
use Rattle.serde_json.proofs.OnLiterals.{serde_json_on_literals}

-- JSON texts, and numerals in them
unfoldable pub note_texts : ⊤
unfolding digits padded_integral char_count serde_json_on_literals
note_texts = tt
