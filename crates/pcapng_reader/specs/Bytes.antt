-- Contents that consist of bytes. A file is a list of numbers here.
use Rattle.std.specs.Prelude.{◌<◌, ℕ, List, All}

-- each number is a byte
abbrev pub AreBytes : List ℕ → Type 0
AreBytes text = All (λ byte. byte < 256) text
