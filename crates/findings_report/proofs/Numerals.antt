-- What is opened to compute texts that are worked by hand.
use Rattle.std.specs.Fmt.{char_count, digits, padded_integral}
use Rattle.std.specs.Prelude.{⊤}
use Rattle.serde_json.proofs.OnLiterals.{serde_json_on_literals}

-- texts and JSON, and numerals in them
unfoldable pub explained_texts : ⊤
unfolding digits padded_integral char_count serde_json_on_literals
explained_texts = tt
