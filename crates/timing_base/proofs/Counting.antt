-- Counted numbers keep sequence numbers, and so gaps, up to a multiple of 65,536.
use Rattle.std.proofs.Common.{◌≡◌, ◌<◌, ◌+◌, ◌-◌, ◌%◌, ◌^◌, ℕ, zero, suc, Bool, true, false, List, [], ◌∷◌, ◌++◌, length, Option, Some, None, refl, arith, ap, ◌∙◌}
use Rattle.std.proofs.Common.{sym}
use Rattle.std.specs.Prelude.{Result, Ok, Err, nat_lt, not, ◌&&◌, ◌==◌, if◌then◌else◌, nat_le}
use Rattle.std.proofs.lemmas.Bool.Decides.{nat_tests}
use Rattle.std.proofs.lemmas.List.Elements.{All-head, All-tail}
use Rattle.timing_base.specs.declared.packet.FlowPacket.{FlowPacket}
use Rattle.timing_base.specs.declared.packet.PacketFault.{PacketFault}
use Rattle.timing_base.specs.declared.packet.Rtp.{Rtp}
use Rattle.timing_base.specs.Flows.{cuts, is_cut, next_number, places, read_or_zeros, rtp}
use Rattle.timing_base.specs.Numbered.{AreRead, IsRead, LosesNoRound, ahead_of, counted, counted_from, counted_rtp, is_jump, missing, number_after, numbered, sequence}

sequence-counted : (before : Option ℕ) (n : ℕ) → sequence (counted before n) ≡ sequence n
sequence-counted None n = omega arith
sequence-counted (Some before) n = omega arith

first-sequence : (before : Option ℕ) (x : Result Rtp PacketFault) → IsRead x
    → sequence (read_or_zeros (counted_rtp before x)).number ≡ sequence (read_or_zeros x).number
first-sequence before (Ok r) ok = sequence-counted before r.number
first-sequence before (Err fault) ok = absurd ok

sequence-from : (before : Option ℕ) (packets : List FlowPacket) (i : ℕ) → AreRead packets → i < length packets
    → sequence (rtp (counted_from before packets) i).number ≡ sequence (rtp packets i).number
sequence-from before [] i read h = absurd (omega arith)
sequence-from before (p ∷ ps) zero read h = first-sequence before p.rtp (All-head (λ (p : FlowPacket). IsRead p.rtp) p ps read)
sequence-from before (p ∷ ps) (suc i) read h =
    sequence-from (number_after before (counted_rtp before p.rtp)) ps i (All-tail (λ (p : FlowPacket). IsRead p.rtp) p ps read) (omega arith)

-- a counted number has the sequence number of its packet
pub sequence-at : (packets : List FlowPacket) (i : ℕ) → AreRead packets → i < length packets
    → sequence (rtp (numbered true packets) i).number ≡ sequence (rtp packets i).number
sequence-at packets i read h = sequence-from None packets i read h

second-number : (before : Option ℕ) (x y : Result Rtp PacketFault) → IsRead x → IsRead y
    → (read_or_zeros (counted_rtp (number_after before (counted_rtp before x)) y)).number
    ≡ counted (Some (read_or_zeros (counted_rtp before x)).number) (read_or_zeros y).number
second-number before (Ok r) (Ok s) x y = refl
second-number before (Err fault) y ok other = absurd ok
second-number before (Ok r) (Err fault) other ok = absurd ok

number-from : (before : Option ℕ) (packets : List FlowPacket) (i : ℕ) → AreRead packets → suc i < length packets
    → (rtp (counted_from before packets) (suc i)).number ≡ counted (Some (rtp (counted_from before packets) i).number) (rtp packets (suc i)).number
number-from before [] i read h = absurd (omega arith)
number-from before (p ∷ []) i read h = absurd (omega arith)
number-from before (p ∷ q ∷ ps) zero read h =
    let rest = All-tail (λ (p : FlowPacket). IsRead p.rtp) p (q ∷ ps) read in
    second-number before p.rtp q.rtp (All-head (λ (p : FlowPacket). IsRead p.rtp) p (q ∷ ps) read) (All-head (λ (p : FlowPacket). IsRead p.rtp) q ps rest)
number-from before (p ∷ q ∷ ps) (suc i) read h =
    number-from (number_after before (counted_rtp before p.rtp)) (q ∷ ps) i (All-tail (λ (p : FlowPacket). IsRead p.rtp) p (q ∷ ps) read) (omega arith)

-- a counted number counts on from the one before
pub number-at : (packets : List FlowPacket) (i : ℕ) → AreRead packets → suc i < length packets
    → (rtp (numbered true packets) (suc i)).number ≡ counted (Some (rtp (numbered true packets) i).number) (rtp packets (suc i)).number
number-at packets i read h = number-from None packets i read h

below-case : (x : Result Rtp PacketFault) → IsRead x → (read_or_zeros x).number < 2 ^ 32
below-case (Ok r) h = h
below-case (Err fault) h = absurd h

-- a packet number has 32 bits
pub number-below : (packets : List FlowPacket) (i : ℕ) → AreRead packets → i < length packets → (rtp packets i).number < 2 ^ 32
number-below [] i read h = absurd (omega arith)
number-below (p ∷ ps) zero read h = below-case p.rtp (All-head (λ (p : FlowPacket). IsRead p.rtp) p ps read)
number-below (p ∷ ps) (suc i) read h = number-below ps i (All-tail (λ (p : FlowPacket). IsRead p.rtp) p ps read) (omega arith)

equal : (a b : ℕ) → a ≡ b → (a == b) ≡ true
equal a b e = grind (arith, nat_tests)

unequal : (a b : ℕ) → (a ≡ b → ⊥) → (a == b) ≡ false
unequal a b e = grind (arith, nat_tests)

is_equal : (a b : ℕ) → (a == b) ≡ true → a ≡ b
is_equal a b e = grind (arith, nat_tests)

isnt_equal : (a b : ℕ) → (a == b) ≡ false → a ≡ b → ⊥
isnt_equal a b e = grind (arith, nat_tests)

one-ahead : (before ahead : ℕ) (b : Bool) → ahead < 2 ^ 16 → (ahead == 1) ≡ b → ((before + ahead) % 2 ^ 32 == (before + 1) % 2 ^ 32) ≡ b
one-ahead before ahead true few e = equal _ _ (let one = is_equal ahead 1 e in omega (arith, one))
one-ahead before ahead false few e = unequal _ _ (λ same. isnt_equal ahead 1 e (omega (arith, same, few)))

next-gap : (packets : List FlowPacket) (i : ℕ) → AreRead packets → suc i < length packets
    → ((rtp (numbered true packets) (suc i)).number == next_number (rtp (numbered true packets) i).number)
    ≡ (ahead_of (rtp packets i).number (rtp packets (suc i)).number == 1)
next-gap packets i read h =
    let before = (rtp (numbered true packets) i).number in
    let same : ahead_of before (rtp packets (suc i)).number ≡ ahead_of (rtp packets i).number (rtp packets (suc i)).number =
    ap (λ s. (sequence (rtp packets (suc i)).number + 2 ^ 16 - s) % 2 ^ 16) (sequence-at packets i read (omega arith)) in
    ap (λ n. n == next_number before) (number-at packets i read h)
    ∙ (one-ahead before (ahead_of before (rtp packets (suc i)).number) _ (omega arith) refl ∙ ap (λ a. a == 1) same)

-- a flow with counted numbers has a gap where a sequence number isn't the next one
pub gap-at : (packets : List FlowPacket) (i : ℕ) → AreRead packets → i < length packets → is_cut (numbered true packets) i ≡ is_jump packets i
gap-at packets zero read h = refl
gap-at packets (suc i) read h =
    let before : suc i - 1 ≡ i = omega arith in
    rw before (ap (λ b. nat_lt 0 (suc i) && not b) (next-gap packets i read h))

-- as many packets are missing, up to a multiple of 65,536
pub missing-at : (packets : List FlowPacket) (i : ℕ) → AreRead packets → 0 < i → i < length packets
    → missing (numbered true packets) i % 2 ^ 16 ≡ missing packets i % 2 ^ 16
missing-at packets zero read some h = absurd (omega arith)
missing-at packets (suc i) read some h =
    let before : suc i - 1 ≡ i = omega arith in
    let here = sequence-at packets (suc i) read h in
    let last = sequence-at packets i read (omega arith) in
    rw before (omega (arith, here, last))

places-alike : (f g : ℕ → Bool) (n : ℕ) → ((i : ℕ) → i < n → f i ≡ g i) → places f 0 n ≡ places g 0 n
places-alike f g zero h = refl
places-alike f g (suc n) h =
    ap (λ before. before ++ (if nat_le 0 n && f n then n ∷ [] else [])) (places-alike f g n (λ i l. h i (omega arith)))
    ∙ ap (λ b. places g 0 n ++ (if nat_le 0 n && b then n ∷ [] else [])) (h n (omega arith))

none-missing : (before here ahead : ℕ) (b : Bool) → here < 2 ^ 32 → ahead ≡ ahead_of before here
    → ((here + 2 ^ 32 - next_number before) % 2 ^ 32 % 2 ^ 16 ≡ 0 → (here + 2 ^ 32 - next_number before) % 2 ^ 32 ≡ 0)
    → (ahead == 1) ≡ b → (here == next_number before) ≡ b
none-missing before here ahead true small is round e =
    equal _ _ (let one = is_equal ahead 1 e in let none = round (omega (arith, one, is)) in omega (arith, none, small))
none-missing before here ahead false small is round e = unequal _ _ (λ same. isnt_equal ahead 1 e (omega (arith, same, is, small)))

cut-alike : (packets : List FlowPacket) (i : ℕ) → AreRead packets → LosesNoRound packets → i < length packets → is_cut packets i ≡ is_jump packets i
cut-alike packets zero read round h = refl
cut-alike packets (suc i) read round h =
    let before : suc i - 1 ≡ i = omega arith in
    let none = rw before at (round (suc i) (omega arith) h) in
    rw before (ap (λ b. nat_lt 0 (suc i) && not b)
    (none-missing (rtp packets i).number (rtp packets (suc i)).number _ _ (number-below packets (suc i) read h) refl none refl))

-- the same gaps, where no multiple of 65,536 packets is lost
pub cuts-alike : (packets : List FlowPacket) → AreRead packets → LosesNoRound packets → cuts (numbered true packets) (length packets) ≡ cuts packets (length packets)
cuts-alike packets read round =
    places-alike (is_cut (numbered true packets)) (is_cut packets) (length packets)
    (λ i h. gap-at packets i read h ∙ sym (cut-alike packets i read round h))
