-- Lemmas on the options of an interface's description: one option, and then the others.
use Rattle.std.proofs.Common.{refl, ◌≡◌, ◌≤◌, ◌<◌, ◌+◌, ℕ, zero, suc, Bool, true, false, List, [], ◌∷◌, length, take, drop, None, Some, sym, ap, ◌∙◌, arith}
use Rattle.std.proofs.Common.{length-drop}
use Rattle.std.proofs.lemmas.Bool.Decides.{nat_tests}
use Rattle.std.specs.Prelude.{◌==◌, nat_lt, ◌&&◌, ◌||◌, if◌then◌else◌, slice_index, Option}
use Rattle.std.specs.Option.{option_map, option_map_or, unwrap_or}
use Rattle.std.specs.List.{list_all}
use Rattle.pcapng_reader.specs.declared.block.Order.{Order}
use Rattle.pcapng_reader.specs.declared.block.Interface.{Interface}
use Rattle.pcapng_reader.specs.declared.stage.Found.{Found}
use Rattle.pcapng_reader.specs.Classic.{number, BlockOption, padded, is_formed, first_value, options_by, options}
use Rattle.pcapng_reader.specs.Converting.{found_with, found_by, found_interface}

-- the option at the front of these bytes
abbrev pub option_at : Order → List ℕ → BlockOption
option_at o b = record { code = number o 2 0 b; value = take (number o 2 2 b) (drop 4 b) }

-- what stands behind it
abbrev pub behind : Order → List ℕ → List ℕ
behind o b = drop (4 + padded (number o 2 2 b)) b

abbrev step_by : Order → List ℕ → Option (List BlockOption) → Option (List BlockOption)
step_by o b later =
    if nat_lt (length b) 4 || (number o 2 0 b == 0) then Some []
    else if nat_lt (length b) (4 + number o 2 2 b) then None
    else option_map (λ os. option_at o b ∷ os) later

-- a bound of the number of options that is no bound
options_by-more : (n m : ℕ) (o : Order) (b : List ℕ) → length b ≤ n → length b ≤ m → options_by n o b ≡ options_by m o b
options_by-more zero zero o b h l = refl
options_by-more zero (suc m) o [] h l = refl
options_by-more zero (suc m) o (x ∷ xs) h l = absurd (omega arith)
options_by-more (suc n) zero o [] h l = refl
options_by-more (suc n) zero o (x ∷ xs) h l = absurd (omega arith)
options_by-more (suc n) (suc m) o b h l =
    ap (step_by o b)
    (options_by-more n m o (behind o b)
    (omega (arith, length-drop (4 + padded (number o 2 2 b)) b))
    (omega (arith, length-drop (4 + padded (number o 2 2 b)) b)))

options-step : (o : Order) (b : List ℕ) → options o b ≡ step_by o b (options o (behind o b))
unfolding options
options-step o [] = refl
options-step o (x ∷ xs) =
    let b = x ∷ xs in
    ap (step_by o b)
    (options_by-more (length xs) (length (behind o b)) o (behind o b)
    (omega (arith, length-drop (4 + padded (number o 2 2 b)) b)) (omega arith))

-- no option
pub options-none : (o : Order) (b : List ℕ) → length b < 4 → options o b ≡ Some []
options-none o b h =
    let short : nat_lt (length b) 4 ≡ true = grind (arith, nat_tests) in
    options-step o b ∙ ap (λ c. if c || (number o 2 0 b == 0) then Some []
    else if nat_lt (length b) (4 + number o 2 2 b) then None
    else option_map (λ os. option_at o b ∷ os) (options o (behind o b))) short

or_true : (c d : Bool) → d ≡ true → (c || d) ≡ true
or_true true d h = refl
or_true false d h = h

or_false : (c d : Bool) → c ≡ false → d ≡ false → (c || d) ≡ false
or_false c d g h = ap (λ x. x || d) g ∙ h

-- the last option
pub options-end : (o : Order) (b : List ℕ) → number o 2 0 b ≡ 0 → options o b ≡ Some []
options-end o b e =
    let last : (number o 2 0 b == 0) ≡ true = grind (arith, nat_tests) in
    options-step o b ∙ ap (λ c. if c then Some []
    else if nat_lt (length b) (4 + number o 2 2 b) then None
    else option_map (λ os. option_at o b ∷ os) (options o (behind o b))) (or_true (nat_lt (length b) 4) (number o 2 0 b == 0) last)

options-some : (o : Order) (b : List ℕ) → 4 ≤ length b → 0 < number o 2 0 b
    → options o b ≡ (if nat_lt (length b) (4 + number o 2 2 b) then None else option_map (λ os. option_at o b ∷ os) (options o (behind o b)))
options-some o b h p =
    let long : nat_lt (length b) 4 ≡ false = grind (arith, nat_tests) in
    let not_last : (number o 2 0 b == 0) ≡ false = grind (arith, nat_tests) in
    options-step o b ∙ ap (λ c. if c then Some []
    else if nat_lt (length b) (4 + number o 2 2 b) then None
    else option_map (λ os. option_at o b ∷ os) (options o (behind o b))) (or_false (nat_lt (length b) 4) (number o 2 0 b == 0) long not_last)

-- an option that passes the end
pub options-past : (o : Order) (b : List ℕ) → 4 ≤ length b → 0 < number o 2 0 b → length b < 4 + number o 2 2 b → options o b ≡ None
options-past o b h p l =
    let past : nat_lt (length b) (4 + number o 2 2 b) ≡ true = grind (arith, nat_tests) in
    options-some o b h p ∙ ap (λ c. if c then None else option_map (λ os. option_at o b ∷ os) (options o (behind o b))) past

-- an option, and then the others
pub options-more : (o : Order) (b : List ℕ) → 4 ≤ length b → 0 < number o 2 0 b → 4 + number o 2 2 b ≤ length b
    → options o b ≡ option_map (λ os. option_at o b ∷ os) (options o (behind o b))
options-more o b h p l =
    let within : nat_lt (length b) (4 + number o 2 2 b) ≡ false = grind (arith, nat_tests) in
    options-some o b h p ∙ ap (λ c. if c then None else option_map (λ os. option_at o b ∷ os) (options o (behind o b))) within

-- the interface, after what one option says
abbrev pub then_found : Order → Option Found → Option (List BlockOption) → Option Interface
then_found o None os = None
then_found o (Some f) os = found_by o f os

then_found-none : (o : Order) (w : Option Found) → then_found o w None ≡ None
then_found-none o None = refl
then_found-none o (Some f) = refl

-- the same for an option whose code is that of a resolution or not, of an offset or not
found_step : (o : Order) (f : Found) (v : List ℕ) (os : List BlockOption) (is_unit is_offset unit_formed offset_formed : Bool)
    → (is_unit ≡ true → is_offset ≡ false)
    → (if (if is_unit then unit_formed else if is_offset then offset_formed else true) && list_all is_formed os then Some (record {
      offset = unwrap_or f.offset (option_map_or (number o 8 0) (if is_offset then Some v else first_value 14 os) 0);
      link = f.link;
      resolution = unwrap_or f.resolution (option_map_or (λ value. slice_index value 0) (if is_unit then Some v else first_value 9 os) 6);
    }) else None)
    ≡ then_found o
    (if is_unit then
    (if unit_formed then Some (record { offset = f.offset; link = f.link; resolution = Some (unwrap_or f.resolution (slice_index v 0)) }) else None)
    else if is_offset then
    (if offset_formed then Some (record { offset = Some (unwrap_or f.offset (number o 8 0 v)); link = f.link; resolution = f.resolution }) else None)
    else Some f) (Some os)
found_step o f v os true true uf of h = let no : true ≡ false = h refl in cc
found_step o f v os true false true of h = refl
found_step o f v os true false false of h = refl
found_step o f v os false true uf true h = refl
found_step o f v os false true uf false h = refl
found_step o f v os false false uf of h = refl

apart : (n : ℕ) → (n == 9) ≡ true → (n == 14) ≡ false
apart n h = grind (arith, nat_tests)

found_by-next : (o : Order) (f : Found) (x : BlockOption) (os : Option (List BlockOption)) → found_by o f (option_map (λ later. x ∷ later) os)
    ≡ then_found o (found_with o x f) os
found_by-next o f x None = sym (then_found-none o (found_with o x f))
found_by-next o f x (Some os) =
    found_step o f x.value os (x.code == 9) (x.code == 14) (length x.value == 1) (length x.value == 8) (apart x.code)

-- where no option is left
pub found_by-none : (o : Order) (f : Found) → found_by o f (Some []) ≡ Some (found_interface f)
found_by-none o f = refl

-- one option, and then the others
pub found-more : (o : Order) (f : Found) (b : List ℕ) → 4 ≤ length b → 0 < number o 2 0 b → 4 + number o 2 2 b ≤ length b
    → found_by o f (options o b) ≡ then_found o (found_with o (option_at o b) f) (options o (behind o b))
found-more o f b h p l = ap (found_by o f) (options-more o b h p l) ∙ found_by-next o f (option_at o b) (options o (behind o b))
