-- Complete lines of text.
use Rattle.std.specs.Prelude.{ℕ, ◌==◌, ◌-◌, ◌&&◌, ◌||◌, not, nat_le, Bool, true, List, length, slice_get}
use Rattle.std.specs.Option.{option_map_or}

-- the text is empty, or its last byte is a line feed (10)
abbrev pub ends_line : List ℕ → Bool
ends_line text = option_map_or (λ b. b == 10) (slice_get text (length text - 1)) true

-- the byte is a line feed, or no ASCII control character
abbrev pub is_line_byte : ℕ → Bool
is_line_byte b = (b == 10) || (nat_le 32 b && not (b == 127))
