-- What is opened to compute texts that are worked by hand.
use Rattle.std.specs.Fmt.{char_count, digits, padded_integral}
use Rattle.std.specs.Prelude.{⊤}

-- decimal numerals
unfoldable pub numerals : ⊤
unfolding digits
numerals = tt

-- numerals with zeros before them
unfoldable pub padded_numerals : ⊤
unfolding digits padded_integral char_count
padded_numerals = tt
