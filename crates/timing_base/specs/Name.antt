-- The file names that a command line may have, as bytes. This project's profile.
use Rattle.std.specs.Prelude.{ℕ, ◌==◌, ◌&&◌, nat_le, Bool, not, List, length}
use Rattle.std.specs.List.{list_all}

-- a byte that a name may hold: no control character
abbrev pub is_name_byte : ℕ → Bool
is_name_byte b = nat_le 32 b && not (b == 127)

-- a file name: 1 to 4,096 such bytes
abbrev pub is_file_name : List ℕ → Bool
is_file_name name = nat_le 1 (length name) && (nat_le (length name) 4096 && list_all is_name_byte name)
