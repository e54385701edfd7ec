-- Targets that are told to be equal are equal.
use Rattle.std.proofs.Common.{◌≡◌, ◌==◌, true, eqb-true, eq-eqb, refl}
use Rattle.std.proofs.lemmas.Bool.{and_from, and_parts}
use Rattle.timing_base.specs.Addresses.{is_same_address}
use Rattle.timing_base.specs.Targets.{is_same_target}
use Rattle.timing_base.specs.declared.address.Address.{Address}
use Rattle.timing_base.specs.declared.target.Target.{Target}

-- an address is equal to itself, and to no other
pub address-itself : (a : Address) → is_same_address a a ≡ true
address-itself a = eq-eqb a.bits a.bits refl

pub same-address : (a b : Address) → is_same_address a b ≡ true → a ≡ b
same-address a b h =
    let bits : a.bits ≡ b.bits = eqb-true a.bits b.bits h in
    λ i. record { bits = bits i }

-- and so is a target
pub target-itself : (t : Target) → is_same_target t t ≡ true
target-itself t = and_from _ _ (address-itself t.address) (eq-eqb t.port t.port refl)

pub same-target : (a b : Target) → is_same_target a b ≡ true → a ≡ b
same-target a b h =
    let parts = and_parts (is_same_address a.address b.address) (a.port == b.port) h in
    let address : a.address ≡ b.address = same-address a.address b.address parts.0 in
    let port : a.port ≡ b.port = eqb-true a.port b.port parts.1 in
    λ i. record { address = address i; port = port i }
