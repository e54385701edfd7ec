-- Each record is counted once: as a frame of its class, as an unread packet or as a packet, and each of these in its
-- stream or its target, or as one more.
use Rattle.std.proofs.Common.{◌≡◌, ℕ, suc, ◌+◌, cond, List, [], ◌∷◌, map, length, sum_by, Option, Some, None, refl, sym, ap, ◌∙◌, arith}
use Rattle.std.specs.List.{cons_option}
use Rattle.std.proofs.lemmas.List.Sums.{sum_by-cons}
use Rattle.timing_base.specs.Captures.{Record}
use Rattle.timing_base.specs.Targets.{is_same_target}
use Rattle.timing_base.specs.declared.target.Target.{Target}
use Rattle.capture_scan.proofs.Entries.{streams_apart, targets_apart}
use Rattle.capture_scan.proofs.Once.{sum-filter_map, told-once}
use Rattle.capture_scan.specs.Frames.{seen}
use Rattle.capture_scan.specs.Groups.{told}
use Rattle.capture_scan.specs.Scans.{count_of, count_passed, is_of_class, is_same_stream, more_packets, more_unread, most_told}
use Rattle.capture_scan.specs.Scans.{packet_seen, packets, packets_of, passed_over, stream_key, streams, unread, unread_of, unread_seen}
use Rattle.capture_scan.specs.Scans.{unread_targets}
use Rattle.capture_scan.specs.Streams.{stream_from, stream_of}
use Rattle.udp_rtp.specs.declared.class.FrameClass.TheVariants.{Empty, Tags, Ipv6, Other, NotUdp, Fragment, Broken}
use Rattle.capture_scan.specs.declared.packet.Packet.{Packet}
use Rattle.capture_scan.specs.declared.packet.Seen.{Seen}
use Rattle.capture_scan.specs.declared.packet.Seen.TheVariants.{PassedOver, Unread, Read}

-- 1 where there is one
one_in : {X : Type 0} → Option X → ℕ
one_in None = 0
one_in (Some x) = 1

length-cons_option : {X : Type 0} (o : Option X) (xs : List X) → length (cons_option o xs) ≡ one_in o + length xs
unfolding one_in
length-cons_option None xs = omega arith
length-cons_option (Some x) xs = omega arith

-- what is seen counts once
seen-once : (s : Seen) → cond (is_of_class Empty s) 1 0 + cond (is_of_class Tags s) 1 0 + cond (is_of_class Ipv6 s) 1 0
    + cond (is_of_class Other s) 1 0 + cond (is_of_class NotUdp s) 1 0 + cond (is_of_class Fragment s) 1 0
    + cond (is_of_class Broken s) 1 0 + one_in (packet_seen s) + one_in (unread_seen s) ≡ 1
unfolding one_in
seen-once (PassedOver Empty) = refl
seen-once (PassedOver Tags) = refl
seen-once (PassedOver Ipv6) = refl
seen-once (PassedOver Other) = refl
seen-once (PassedOver NotUdp) = refl
seen-once (PassedOver Fragment) = refl
seen-once (PassedOver Broken) = refl
seen-once (Unread target) = refl
seen-once (Read packet) = refl

pub records-once : (records : List Record) → count_of Empty records + count_of Tags records + count_of Ipv6 records
    + count_of Other records + count_of NotUdp records + count_of Fragment records + count_of Broken records
    + length (packets records) + length (unread records) ≡ length records
records-once [] = refl
records-once (r ∷ rs) =
    let s = seen r in
    let one = seen-once s in
    let rest = records-once rs in
    let empty = sum_by-cons (λ x. cond (is_of_class Empty (seen x)) 1 0) r rs in
    let tags = sum_by-cons (λ x. cond (is_of_class Tags (seen x)) 1 0) r rs in
    let ipv6 = sum_by-cons (λ x. cond (is_of_class Ipv6 (seen x)) 1 0) r rs in
    let other = sum_by-cons (λ x. cond (is_of_class Other (seen x)) 1 0) r rs in
    let not_udp = sum_by-cons (λ x. cond (is_of_class NotUdp (seen x)) 1 0) r rs in
    let fragment = sum_by-cons (λ x. cond (is_of_class Fragment (seen x)) 1 0) r rs in
    let broken = sum_by-cons (λ x. cond (is_of_class Broken (seen x)) 1 0) r rs in
    let read = length-cons_option (packet_seen s) (packets rs) in
    let missed = length-cons_option (unread_seen s) (unread rs) in
    adds _ _ _ _ _ _ _ _ _ _ _ _ _ _ _ _ _ _ _ _ _ _ _ _ _ _ _ _ empty tags ipv6 other not_udp fragment broken read missed one rest
  where
    adds : (a b c d e f g h i ra rb rc rd re rf rg rh ri na nb nc nd ne nf ng nh ni n : ℕ)
        → na ≡ a + ra → nb ≡ b + rb → nc ≡ c + rc → nd ≡ d + rd → ne ≡ e + re → nf ≡ f + rf → ng ≡ g + rg → nh ≡ h + rh → ni ≡ i + ri
        → a + b + c + d + e + f + g + h + i ≡ 1 → ra + rb + rc + rd + re + rf + rg + rh + ri ≡ n
        → na + nb + nc + nd + ne + nf + ng + nh + ni ≡ suc n
    adds a b c d e f g h i ra rb rc rd re rf rg rh ri na nb nc nd ne nf ng nh ni n p q r s t u v w x one rest = omega arith

-- the packets of a stream are counted in it
count-stream : (ps : List Packet) → sum_by (λ s. s.packets) (cons_option (stream_of ps) []) ≡ length ps
count-stream [] = refl
count-stream (p ∷ ps) = sum_by-cons (λ s. s.packets) (stream_from p ps) [] ∙ plus-zero (length (p ∷ ps))
  where
    plus-zero : (n : ℕ) → n + 0 ≡ n
    plus-zero n = omega arith

sum-map : {X Y : Type 0} (f : Y → ℕ) (g : X → Y) (xs : List X) → sum_by f (map g xs) ≡ sum_by (λ x. f (g x)) xs
sum-map f g [] = refl
sum-map f g (x ∷ xs) =
    sum_by-cons f (g x) (map g xs) ∙ (ap (λ (n : ℕ). f (g x) + n) (sum-map f g xs) ∙ sym (sum_by-cons (λ y. f (g y)) x xs))

pub packets-once : (ps : List Packet) → sum_by (λ s. s.packets) (streams ps) + more_packets ps ≡ length ps
packets-once ps =
    ap (λ (n : ℕ). n + more_packets ps)
    (sum-filter_map (λ s. s.packets) (λ k. stream_of (packets_of ps k)) (λ k. length (packets_of ps k)) (told is_same_stream stream_key most_told ps)
    (λ k. count-stream (packets_of ps k)))
    ∙ told-once streams_apart stream_key most_told ps

pub unread-once : (ts : List Target) → sum_by (λ u. u.packets) (unread_targets ts) + more_unread ts ≡ length ts
unread-once ts =
    ap (λ (n : ℕ). n + more_unread ts) (sum-map (λ u. u.packets) (unread_of ts) (told is_same_target (λ t. t) most_told ts))
    ∙ told-once targets_apart (λ t. t) most_told ts

pub records-counted : (records : List Record) → count_passed (passed_over records)
    + (sum_by (λ s. s.packets) (streams (packets records)) + (sum_by (λ u. u.packets) (unread_targets (unread records))
    + (more_packets (packets records) + more_unread (unread records)))) ≡ length records
records-counted records =
    adds _ _ _ _ _ _ _ _ (records-once records) (packets-once (packets records)) (unread-once (unread records))
  where
    adds : (passed p u s t m n k : ℕ) → passed + p + u ≡ k → s + m ≡ p → t + n ≡ u → passed + (s + (t + (m + n))) ≡ k
    adds passed p u s t m n k e f g = omega arith
