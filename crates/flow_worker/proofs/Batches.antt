-- Packets that are cut into batches: what one packet more does to the batches and to what is left.
use Rattle.std.proofs.Common.{◌≡◌, ◌≤◌, ◌<◌, ◌+◌, ◌-◌, ◌*◌, ◌/◌, ◌%◌, ℕ, Bool, if◌then◌else◌, List, [], ◌∷◌, ◌++◌, length, drop, ap, ap₂, ◌∙◌, inl, inr, eq-eqb}
use Rattle.std.proofs.Common.{ne_eqb, append-nil, div-add-mod', arith}
use Rattle.std.specs.Prelude.{flat_map}
use Rattle.std.proofs.lemmas.Bool.{cases_lt}
use Rattle.std.proofs.lemmas.List.{drop-append-le, drop_all, length_push, length-drop}
use Rattle.std.proofs.lemmas.Nat.{mod-mul-add, mod_below}
use Rattle.ruled_intake.specs.Packets.{Packet}
use Rattle.flow_worker.specs.Opening.{filled, rest}

-- one more, short of the next multiple
mod-more : (n s : ℕ) → n % s + 1 < s → (n + 1) % s ≡ n % s + 1
mod-more n s h =
    let e : n + 1 ≡ n / s * s + (n % s + 1) = omega (arith, div-add-mod' n s) in
    ap (λ (x : ℕ). x % s) e ∙ mod-mul-add (n / s) s (n % s + 1) h

-- one more, which makes it a multiple
mod-full : (n s : ℕ) → n % s + 1 ≡ s → (n + 1) % s ≡ 0
mod-full n s h =
    let e : n + 1 ≡ (n / s + 1) * s + 0 = omega (arith, div-add-mod' n s) in
    ap (λ (x : ℕ). x % s) e ∙ mod-mul-add (n / s + 1) s 0 (omega arith)

-- fewer packets than a batch has are left
pub length-rest : (size : ℕ) (xs : List Packet) → length (rest size xs) ≡ length xs % size
length-rest size xs =
    let le : length xs % size ≤ length xs = omega (arith, div-add-mod' (length xs) size) in
    length-drop (length xs - length xs % size) xs ∙ omega arith

-- nothing is left of nothing
pub rest-nil : (size : ℕ) → rest size [] ≡ []
rest-nil size = drop_all (0 - 0 % size) [] (omega arith)

-- one packet more fills no batch: it stays with what is left
pub rest-more : (size : ℕ) (xs : List Packet) (p : Packet) → length (rest size xs) + 1 < size
    → (filled size (xs ++ p ∷ []) ≡ []) × (rest size (xs ++ p ∷ []) ≡ rest size xs ++ p ∷ [])
rest-more size xs p h =
    let n = length xs in
    let few : n % size + 1 < size = omega (arith, length-rest size xs) in
    let e : length (xs ++ p ∷ []) % size ≡ n % size + 1 = ap (λ (x : ℕ). x % size) (length_push xs p) ∙ mod-more n size few in
    let le : n % size ≤ n = omega (arith, div-add-mod' n size) in
    let at : length (xs ++ p ∷ []) - length (xs ++ p ∷ []) % size ≡ n - n % size = omega (arith, length_push xs p) in (
      ap (λ (b : Bool). if b then drop (length (xs ++ p ∷ []) - size) (xs ++ p ∷ []) ∷ [] else [])
          (ne_eqb (length (xs ++ p ∷ []) % size) 0 (λ z. absurd (omega arith))),
      ap (λ (i : ℕ). drop i (xs ++ p ∷ [])) at ∙ drop-append-le (n - n % size) xs (p ∷ []) (omega arith),
    )

-- one packet more fills a batch with what was left, and nothing is left then
pub rest-full : (size : ℕ) (xs : List Packet) (p : Packet) → length (rest size xs) + 1 ≡ size
    → (filled size (xs ++ p ∷ []) ≡ (rest size xs ++ p ∷ []) ∷ []) × (rest size (xs ++ p ∷ []) ≡ [])
rest-full size xs p h =
    let n = length xs in
    let full : n % size + 1 ≡ size = omega (arith, length-rest size xs) in
    let e : length (xs ++ p ∷ []) % size ≡ 0 = ap (λ (x : ℕ). x % size) (length_push xs p) ∙ mod-full n size full in
    let le : n % size ≤ n = omega (arith, div-add-mod' n size) in
    let at : length (xs ++ p ∷ []) - size ≡ n - n % size = omega (arith, length_push xs p) in (
      ap (λ (b : Bool). if b then drop (length (xs ++ p ∷ []) - size) (xs ++ p ∷ []) ∷ [] else []) (eq-eqb (length (xs ++ p ∷ []) % size) 0 e)
          ∙ ap (λ (i : ℕ). drop i (xs ++ p ∷ []) ∷ []) at ∙ ap (λ l. l ∷ []) (drop-append-le (n - n % size) xs (p ∷ []) (omega arith)),
      drop_all (length (xs ++ p ∷ []) - length (xs ++ p ∷ []) % size) (xs ++ p ∷ []) (omega arith),
    )

-- either way no packet is lost, and the order stays
pub filled-rest : (size : ℕ) (xs : List Packet) (p : Packet) → 1 ≤ size
    → flat_map (λ (b : List Packet). b) (filled size (xs ++ p ∷ [])) ++ rest size (xs ++ p ∷ []) ≡ rest size xs ++ p ∷ []
filled-rest size xs p some =
    elim (cases_lt (length (rest size xs) + 1) size) [
      | inl h ↦
          let t = rest-more size xs p h in
          ap₂ (λ (f : List (List Packet)) (r : List Packet). flat_map (λ (b : List Packet). b) f ++ r) t.0 t.1
      | inr h ↦
          let full : length (rest size xs) + 1 ≡ size = omega (arith, length-rest size xs, mod_below (length xs) size some) in
          let t = rest-full size xs p full in
          ap₂ (λ (f : List (List Packet)) (r : List Packet). flat_map (λ (b : List Packet). b) f ++ r) t.0 t.1
          ∙ append-nil ((rest size xs ++ p ∷ []) ++ []) ∙ append-nil (rest size xs ++ p ∷ [])
    ]
