-- The destination of the packets of a media, and its printed form.
use Rattle.std.specs.Prelude.{◌≡◌, ℕ, ◌==◌, ◌&&◌, Bool, List, ◌++◌, codes, slice_get, Some}
use Rattle.std.specs.Fmt.{decimal}
use Rattle.timing_base.specs.Addresses.{address_text, is_same_address}
use Rattle.timing_base.specs.Media.{Media}
use Rattle.timing_base.specs.declared.target.Target.{Target}

-- the printed form of a target, as `239.0.0.1:50000`
abbrev pub target_text : Target → List ℕ
target_text target = address_text target.address ++ (codes ":" ++ decimal target.port)

-- whether two targets have the same address and port
abbrev pub is_same_target : Target → Target → Bool
is_same_target a b = is_same_address a.address b.address && (a.port == b.port)

-- the target of a media
abbrev pub target_of : Media → Target
target_of media = record { address = media.address; port = media.port }

-- no two media have the same target
abbrev pub HaveOwnTargets : List Media → Type 0
HaveOwnTargets media = (i j : ℕ) (m n : Media) → slice_get media i ≡ Some m → slice_get media j ≡ Some n
    → target_of m ≡ target_of n → i ≡ j
