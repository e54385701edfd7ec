-- Lemmas on where so many bytes end.
use Rattle.std.proofs.Common.{◌≡◌, ◌≤◌, ◌<◌, ◌+◌, ◌-◌, ◌*◌, ℕ, ap, ◌∙◌, arith}
use Rattle.std.proofs.lemmas.Nat.{mod-mul-add, mod_below, div-add-mod'}
use Rattle.std.specs.Prelude.{◌/◌, ◌%◌}

-- they end where a page does
pub ends-page : (place held pages : ℕ) → place + held ≡ pages * 4096 + 4080 → (place + held) % 4096 ≡ 4080
ends-page place held pages e = ap (λ n. n % 4096) e ∙ mod-mul-add pages 4096 4080 (omega arith)

-- in the page where the last of them stands, or in the next one
pub ends-same : (held : ℕ) → held % 4096 ≤ 4080 → ((4080 - held % 4096) + held) % 4096 ≡ 4080
ends-same held l = ends-page (4080 - held % 4096) held (held / 4096) (omega (arith, l, div-add-mod' held 4096))

pub ends-next : (held : ℕ) → 4080 < held % 4096 → (((4080 + 4096) - held % 4096) + held) % 4096 ≡ 4080
ends-next held l =
    ends-page ((4080 + 4096) - held % 4096) held (held / 4096 + 1) (omega (arith, l, mod_below held 4096 (omega arith), div-add-mod' held 4096))
