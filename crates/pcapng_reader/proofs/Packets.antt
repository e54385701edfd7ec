-- Lemmas on what a packet's block gives, by what its head tells.
use Rattle.std.proofs.Common.{refl, ◌≡◌, ◌≤◌, ◌+◌, ◌-◌, ◌*◌, ◌^◌, ℕ, Bool, true, false, List, ◌++◌, length, take, drop, None, Some, sym, ap, ◌∙◌, arith}
use Rattle.std.proofs.Common.{append-nil, length-drop}
use Rattle.std.proofs.lemmas.Bool.Decides.{nat_tests}
use Rattle.std.proofs.lemmas.List.{length-take-le, take-append-le, drop-append-le, drop-take, take-take}
use Rattle.std.specs.Prelude.{◌==◌, nat_lt, ◌||◌, if◌then◌else◌, slice_get, Option}
use Rattle.pcap_reader.specs.WrittenHeads.{record_head}
use Rattle.pcapng_reader.specs.declared.block.Order.{Order}
use Rattle.pcapng_reader.specs.declared.block.Interface.{Interface}
use Rattle.pcapng_reader.specs.declared.block.Kind.TheVariants as kind
use Rattle.pcapng_reader.specs.declared.packet.Fate.{Fate}
use Rattle.pcapng_reader.specs.declared.packet.Fate.TheVariants as fate
use Rattle.pcapng_reader.specs.Classic.{number, Section, Given, broken, late, gives, nanos, is_late, record_by, packet_by, content}
use Rattle.pcapng_reader.specs.Converting.{fate_by, fate_given}
use Rattle.pcapng_reader.proofs.Numbers.{number-front, number-take}

-- the record, by whether its bytes count
record_step : (n c : ℕ) (bytes : List ℕ) (s : Section) (block : List ℕ) (is_ethernet : Bool) → bytes ≡ take c (drop 28 block) → length bytes ≡ c
    → gives (if is_ethernet then record_head n (length bytes) ++ bytes else record_head n 0) s
    ≡ gives (record_head n (if is_ethernet then c else 0) ++ take (if is_ethernet then c else 0) (drop 28 block)) s
record_step n c bytes s block true e l = ap (λ k. gives (record_head n k ++ bytes) s) l ∙ ap (λ b. gives (record_head n c ++ b) s) e
record_step n c bytes s block false e l = ap (λ b. gives b s) (sym (append-nil (record_head n 0)))

packet_step : (n c : ℕ) (s : Section) (block : List ℕ) (is_broken is_late is_ethernet : Bool) (x : Given)
    → (is_broken ≡ false → x ≡ gives (record_head n (if is_ethernet then c else 0) ++ take (if is_ethernet then c else 0) (drop 28 block)) s)
    → (if is_broken then broken else if is_late then late else x)
    ≡ fate_given (if is_broken then fate.Broken else if is_late then fate.Late else fate.Record n (if is_ethernet then c else 0)) s block
packet_step n c s block true l e x h = refl
packet_step n c s block false true e x h = refl
packet_step n c s block false false e x h = h refl

or_right : (b c : Bool) → (b || c) ≡ false → c ≡ false
or_right true c h = cc
or_right false c h = h

within : (c size : ℕ) → nat_lt (size - 4) (28 + c) ≡ false → c ≤ size - 28
within c size h = grind (arith, nat_tests)

-- what a block gives, by what its head tells
pub packet-fate : (found : Option Interface) (o : Order) (s : Section) (block : List ℕ) → packet_by found o s block
    ≡ fate_given (fate_by found o (length block) block) s block
packet-fate None o s block = refl
packet-fate (Some i) o s block =
    let stamp = number o 4 12 block * 2 ^ 32 + number o 4 16 block in
    let c = number o 4 20 block in
    packet_step (nanos i stamp) c s block (nat_lt 262144 c || nat_lt (length block - 4) (28 + c)) (is_late i stamp) (i.link == 1)
    (gives (record_by i stamp (take c (drop 28 block))) s)
    (λ h.
    let fits : c ≤ length block - 28 = within c (length block) (or_right (nat_lt 262144 c) _ h) in
    record_step (nanos i stamp) c (take c (drop 28 block)) s block (i.link == 1) refl
    (length-take-le c (drop 28 block) (omega (arith, length-drop 28 block))))

-- the head of a block is in what is held of it
fate-front : (found : Option Interface) (o : Order) (total : ℕ) (b h : List ℕ) → number o 4 12 b ≡ number o 4 12 h → number o 4 16 b ≡ number o 4 16 h
    → number o 4 20 b ≡ number o 4 20 h
    → fate_by found o total b ≡ fate_by found o total h
fate-front None o total b h p q r = refl
fate-front (Some i) o total b h p q r =
    let next : ℕ → ℕ → Fate = λ stamp c.
    if nat_lt 262144 c || nat_lt (total - 4) (28 + c) then fate.Broken
    else if is_late i stamp then fate.Late
    else fate.Record (nanos i stamp) (if i.link == 1 then c else 0) in
    ap (λ x. next (x * 2 ^ 32 + number o 4 16 b) (number o 4 20 b)) p
    ∙ ap (λ x. next (number o 4 12 h * 2 ^ 32 + x) (number o 4 20 b)) q
    ∙ ap (λ x. next (number o 4 12 h * 2 ^ 32 + number o 4 16 h) x) r

-- a number of a block's head
number-held : (o : Order) (p total : ℕ) (h r : List ℕ) → p + 4 ≤ length h → p + 4 ≤ total → total ≤ length (h ++ r) → number o 4 p (take total (h ++ r))
    ≡ number o 4 p h
number-held o p total h r m l t = number-take o 4 p total (h ++ r) l t ∙ number-front o 4 p h r m

-- what a packet's block gives, by what is held of it
pub packet-content : (o : Order) (s : Section) (total : ℕ) (h r : List ℕ) → 28 ≤ length h → 32 ≤ total → total ≤ length (h ++ r)
    → content kind.Packet o s (take total (h ++ r)) ≡ fate_given (fate_by (slice_get s.interfaces (number o 4 8 h)) o total h) s (take total (h ++ r))
packet-content o s total h r m l t =
    let block = take total (h ++ r) in
    ap (λ n. packet_by (slice_get s.interfaces n) o s block) (number-held o 8 total h r (omega arith) (omega arith) t)
    ∙ packet-fate (slice_get s.interfaces (number o 4 8 h)) o s block
    ∙ ap (λ n. fate_given (fate_by (slice_get s.interfaces (number o 4 8 h)) o n block) s block) (length-take-le total (h ++ r) t)
    ∙ ap (λ f. fate_given f s block)
    (fate-front (slice_get s.interfaces (number o 4 8 h)) o total block h
    (number-held o 12 total h r (omega arith) (omega arith) t) (number-held o 16 total h r (omega arith) (omega arith) t)
    (number-held o 20 total h r (omega arith) (omega arith) t))

-- the data of a packet that is held
pub block-data : (total n : ℕ) (h r : List ℕ) → 28 + n ≤ length h → 32 + n ≤ total → take n (drop 28 (take total (h ++ r))) ≡ take n (drop 28 h)
block-data total n h r m l =
    let e : 28 + (total - 28) ≡ total = omega arith in
    ap (λ k. take n (drop 28 (take k (h ++ r)))) (sym e) ∙ ap (take n) (drop-take 28 (total - 28) (h ++ r))
    ∙ take-take n (total - 28) (drop 28 (h ++ r)) (omega arith)
    ∙ ap (take n) (drop-append-le 28 h r (omega arith)) ∙ take-append-le n (drop 28 h) r (omega (arith, length-drop 28 h))
