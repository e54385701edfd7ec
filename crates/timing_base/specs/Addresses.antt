-- IPv4 addresses (RFC 791, section 3.2): four octets, as one number with the first octet in its most significant byte.
use Rattle.std.specs.Prelude.{ℕ, ◌+◌, ◌*◌, ◌/◌, ◌%◌, ◌^◌, ◌==◌, Bool, List, [], ◌∷◌, ◌++◌, codes}
use Rattle.std.specs.Fmt.{decimal}
use Rattle.timing_base.specs.declared.address.Address.{Address}

-- the address `a.b.c.d`
abbrev pub ipv4 : (a b c d : ℕ) → Address
ipv4 a b c d = record { bits = a * 2 ^ 24 + b * 2 ^ 16 + c * 2 ^ 8 + d }

-- the four octets of an address, the first one first
abbrev pub octets_of : Address → List ℕ
octets_of address =
    (address.bits / 2 ^ 24) ∷ (address.bits / 2 ^ 16 % 2 ^ 8) ∷ (address.bits / 2 ^ 8 % 2 ^ 8)
    ∷ (address.bits % 2 ^ 8) ∷ []

-- the printed form of an address, as `239.0.0.1`
abbrev pub address_text : Address → List ℕ
address_text address =
    decimal (address.bits / 2 ^ 24) ++ (codes "." ++ (decimal (address.bits / 2 ^ 16 % 2 ^ 8) ++ (codes "."
    ++ (decimal (address.bits / 2 ^ 8 % 2 ^ 8) ++ (codes "." ++ decimal (address.bits % 2 ^ 8))))))

-- whether two addresses are equal
abbrev pub is_same_address : Address → Address → Bool
is_same_address a b = a.bits == b.bits
