-- The videos of streams are at most 64, have the ranges of a description, and targets of their own.
use Rattle.std.proofs.Common.{◌≡◌, ◌∙◌, ℕ, zero, suc, ◌+◌, ◌*◌, ◌/◌, ◌<◌, ◌≤◌, Bool, true, false, ◌==◌, ◌&&◌, ◌||◌, List, [], ◌∷◌, ◌++◌, length, refl, ap, ap₂}
use Rattle.std.proofs.Common.{arith, Some, None, Option}
use Rattle.std.specs.Prelude.{⊤, All, fold, if◌then◌else◌, max, min, nat_le, nat_lt, not}
use Rattle.std.proofs.lemmas.List.{length_push}
use Rattle.std.proofs.lemmas.List.Elements.{All-cons, All-head, All-nil, All-tail}
use Rattle.std.proofs.lemmas.Bool.Decides.{nat_tests}
use Rattle.timing_base.specs.Targets.{is_same_target}
use Rattle.capture_scan.specs.declared.stream.Lines.{Lines}
use Rattle.capture_scan.specs.declared.stream.Pace.{Pace}
use Rattle.capture_scan.specs.declared.stream.Rate.{Rate}
use Rattle.capture_scan.specs.declared.stream.Stream.{Stream}
use Rattle.capture_scan.specs.report.Draft.{are_of_fields, can_be_drafted, has_target, height_of, is_added, is_near, is_raw, near_height, near_or, rate_of}
use Rattle.capture_scan.specs.report.Draft.{seen_height}
use Rattle.capture_scan.specs.report.Draft.{video_of, videos_of, width_of, with_stream}
use Rattle.capture_scan.specs.report.Rates.{denominator_from, exact, faster, frames_in, is_known, is_slow, is_whole_in, limited, limited_by, measured}
use Rattle.capture_scan.specs.report.Rates.{measured_or, nearest, nearest_from, ratio_of, ratio_with, slowed, slowest}
use Rattle.capture_scan.specs.report.ReadBack.{HasBits, HaveOwnTargets, IsDrafted}
use Rattle.capture_scan.specs.declared.report.draft.DraftVideo.{DraftVideo}
use Rattle.capture_scan.specs.declared.report.rate.FrameRate.{FrameRate}
use Rattle.capture_scan.specs.declared.report.rate.Ratio.{Ratio}
use Rattle.capture_scan.proofs.lemmas.report.Cutting.{both_true}
use Rattle.capture_scan.proofs.lemmas.report.DraftLines.{IsLimited}

-- ---- sizes

abbrev IsSize : ℕ → Type 0
IsSize n = (1 ≤ n) × (n ≤ 32767)

abbrev IsSizeSome : Option ℕ → Type 0
IsSizeSome None = ⊤
IsSizeSome (Some n) = 1 ≤ n

either : (b : Bool) (x y : ℕ) → IsSize x → IsSize y → IsSize (if b then x else y)
either true x y h k = h
either false x y h k = k

least-of : (n : ℕ) → 1 ≤ n → IsSize (min 32767 n)
least-of n some = (omega (arith, some), omega arith)

greatest-of : (n : ℕ) → IsSize (max 1 (min 32767 n))
greatest-of n = (omega arith, omega arith)

size-near : (n : ℕ) (o : Option ℕ) → 1 ≤ n → IsSizeSome o → 1 ≤ near_or n o
size-near n None some h = some
size-near n (Some height) some h = h

-- a height in use is no empty one
near-some : (n : ℕ) → IsSizeSome (near_height n)
near-some n =
    pick (is_near n 480) 480 _ (omega arith) (pick (is_near n 486) 486 _ (omega arith) (pick (is_near n 576) 576 _ (omega arith)
    (pick (is_near n 720) 720 _ (omega arith) (pick (is_near n 1080) 1080 _ (omega arith) (pick (is_near n 2160) 2160 None (omega arith) tt)))))
  where
    pick : (b : Bool) (height : ℕ) (o : Option ℕ) → 1 ≤ height → IsSizeSome o → IsSizeSome (if b then Some height else o)
    pick true height o h k = h
    pick false height o h k = k

size-height : (lines : Option Lines) → IsSize (height_of lines)
size-height None = (omega arith, omega arith)
size-height (Some lines) =
    let seen = seen_height lines in
    least-of (near_or seen (near_height seen)) (size-near seen (near_height seen) (some (lines.second_field && are_of_fields (lines.greatest + 1)))
    (near-some seen))
  where
    some : (b : Bool) → 1 ≤ (if b then 2 * (lines.greatest + 1) else lines.greatest + 1)
    some true = omega arith
    some false = omega arith

size-width : (height : ℕ) → IsSize (width_of height)
size-width h =
    either (h == 2160) 3840 _ (omega arith, omega arith) (either (h == 1080) 1920 _ (omega arith, omega arith)
    (either (h == 720) 1280 _ (omega arith, omega arith) (either (h == 576) 720 _ (omega arith, omega arith)
    (either (h == 486) 720 _ (omega arith, omega arith) (either (h == 480) 720 _ (omega arith, omega arith) (greatest-of (16 * h / 9)))))))

-- ---- rates

abbrev IsKnown : FrameRate → Type 0
IsKnown r = (1 ≤ r.whole) × (r.whole ≤ 240)

abbrev AreKnown : List FrameRate → Type 0
AreKnown [] = ⊤
AreKnown (r ∷ rest) = IsKnown r × AreKnown rest

known-from : (fields : Bool) (rate : Rate) (slow : FrameRate) (rest : List FrameRate) → IsKnown slow → AreKnown rest
    → IsKnown (nearest_from fields rate slow rest)
known-from fields rate slow [] h k = h
known-from fields rate slow (next ∷ rest) h k = by-test (is_slow fields rate slow next) (known-from fields rate next rest k.0 k.1)
  where
    by-test : (b : Bool) → IsKnown (nearest_from fields rate next rest) → IsKnown (if b then slow else nearest_from fields rate next rest)
    by-test true later = h
    by-test false later = later

hundreds-are : AreKnown (exact 100 7200 ∷ slowed 120 6006 ∷ exact 120 6000 ∷ [])
hundreds-are = ((omega arith, omega arith), ((omega arith, omega arith), ((omega arith, omega arith), tt)))

fast-are : AreKnown (exact 50 14400 ∷ slowed 60 12012 ∷ exact 60 12000 ∷ exact 100 7200 ∷ slowed 120 6006 ∷ exact 120 6000 ∷ [])
fast-are = ((omega arith, omega arith), ((omega arith, omega arith), ((omega arith, omega arith), hundreds-are)))

faster-are : AreKnown faster
faster-are = ((omega arith, omega arith), ((omega arith, omega arith), ((omega arith, omega arith), ((omega arith, omega arith), fast-are))))

known-limited : (r : FrameRate) → IsKnown r → IsLimited (ratio_of r)
known-limited r k = by-test r.slowed
  where
    by-test : (b : Bool) → IsLimited (ratio_with (if b then r.whole * 1000 else r.whole) (if b then 1001 else 1))
    by-test true = record {
      some = omega (arith, k.0);
      most = omega (arith, k.1);
      whole = omega arith;
      seconds = omega arith;
    }
    by-test false = record { some = k.0; most = omega (arith, k.1); whole = omega arith; seconds = omega arith }

-- a measured one
abbrev AreLimits : Option Ratio → Type 0
AreLimits None = ⊤
AreLimits (Some r) = IsLimited r

limited-limits : (p q : ℕ) → 1 ≤ q → q ≤ 1001 → AreLimits (limited p q)
limited-limits p q some few = by-test (nat_le 1 p && nat_le p (240 * q)) refl
  where
    by-test : (b : Bool) → (nat_le 1 p && nat_le p (240 * q)) ≡ b → AreLimits (if b then Some (ratio_with p q) else None)
    by-test false e = tt
    by-test true e =
        let both = both_true (nat_le 1 p) (nat_le p (240 * q)) e in
        let least = both.0 in
        let most = both.1 in
        record { some = grind (arith, nat_tests); most = grind (arith, nat_tests); whole = some; seconds = few }

-- a denominator of so many from one on
abbrev IsFrom : ℕ → ℕ → Option ℕ → Type 0
IsFrom many q None = ⊤
IsFrom many q (Some n) = (q ≤ n) × (n < q + many)

from-less : (many q : ℕ) (o : Option ℕ) → IsFrom many (q + 1) o → IsFrom (suc many) q o
from-less many q None h = tt
from-less many q (Some n) h = (omega (arith, h.0), omega (arith, h.1))

denominator-from : (many q frames ticks : ℕ) → IsFrom many q (denominator_from many q frames ticks)
unfolding denominator_from
denominator-from zero q frames ticks = tt
denominator-from (suc many) q frames ticks = by-test (is_whole_in frames ticks q) (denominator-from many (q + 1) frames ticks)
  where
    by-test : (b : Bool) → IsFrom many (q + 1) (denominator_from many (q + 1) frames ticks)
        → IsFrom (suc many) q (if b then Some q else denominator_from many (q + 1) frames ticks)
    by-test true later = (omega arith, omega arith)
    by-test false later = from-less many q (denominator_from many (q + 1) frames ticks) later

by-limits : (frames ticks : ℕ) (o : Option ℕ) → IsFrom 1001 1 o → AreLimits (limited_by frames ticks o)
by-limits frames ticks None h = tt
by-limits frames ticks (Some q) h = limited-limits (q * frames / ticks) q h.0 (omega (arith, h.1))

measured-limits : (fields : Bool) (rate : Rate) → AreLimits (measured fields rate)
measured-limits fields rate = by-test (rate.ticks == 0)
  where
    found : Option ℕ
    found = denominator_from 1001 1 (frames_in fields rate) rate.ticks

    by-test : (b : Bool) → AreLimits (if b then None else limited_by (frames_in fields rate) rate.ticks found)
    by-test true = tt
    by-test false = by-limits (frames_in fields rate) rate.ticks found (denominator-from 1001 1 (frames_in fields rate) rate.ticks)

or-limits : (r : Ratio) (o : Option Ratio) → IsLimited r → AreLimits o → IsLimited (measured_or r o)
or-limits r None h k = h
or-limits r (Some m) h k = k

rate-limits : (fields : Bool) (pace : Option Pace) → IsLimited (rate_of fields pace)
rate-limits fields None = known-limited slowest (omega arith, omega arith)
rate-limits fields (Some pace) = by-test (is_known fields pace.rate)
  where
    near : IsLimited (ratio_of (nearest fields pace.rate))
    near = known-limited (nearest fields pace.rate) (known-from fields pace.rate slowest faster (omega arith, omega arith) faster-are)

    by-test : (b : Bool) → IsLimited (if b then ratio_of (nearest fields pace.rate)
        else measured_or (ratio_of (nearest fields pace.rate)) (measured fields pace.rate))
    by-test true = near
    by-test false = or-limits (ratio_of (nearest fields pace.rate)) (measured fields pace.rate) near (measured-limits fields pace.rate)

-- ---- targets

or_false : (a b : Bool) → (a || b) ≡ false → (a ≡ false) × (b ≡ false)
or_false true b h = cc
or_false false b h = (refl, h)

same-turned : (a b : ℕ) → (a == b) ≡ (b == a)
same-turned a b = grind (arith, nat_tests)

target-push : (v w : DraftVideo) (rest : List DraftVideo) → has_target w.target rest ≡ false
    → is_same_target v.target w.target ≡ false → has_target w.target (rest ++ v ∷ []) ≡ false
target-push v w [] h k = ap (λ b. b || false) k
target-push v w (u ∷ rest) h k =
    let o = or_false (is_same_target u.target w.target) (has_target w.target rest) h in
    ap₂ (λ a b. a || b) o.0 (target-push v w rest o.1 k)

own-push : (v : DraftVideo) (videos : List DraftVideo) → HaveOwnTargets videos → has_target v.target videos ≡ false → HaveOwnTargets (videos ++ v ∷ [])
own-push v [] own h = (refl, tt)
own-push v (w ∷ rest) own h =
    let o = or_false (is_same_target w.target v.target) (has_target v.target rest) h in
    let turned = ap₂ (λ a b. a && b) (same-turned v.target.address.bits w.target.address.bits) (same-turned v.target.port w.target.port) in
    (target-push v w rest own.0 (turned ∙ o.0), own-push v rest own.1 o.1)

-- ---- one stream more

all-push : (v : DraftVideo) (videos : List DraftVideo) → All IsDrafted videos → IsDrafted v → All IsDrafted (videos ++ v ∷ [])
all-push v [] are is = All-cons IsDrafted v [] is (All-nil IsDrafted)
all-push v (w ∷ rest) are is = All-cons IsDrafted w (rest ++ v ∷ []) (All-head IsDrafted w rest are) (all-push v rest (All-tail IsDrafted w rest are) is)

video-drafted : (s : Stream) → HasBits s → nat_lt 0 s.target.port ≡ true → IsDrafted (video_of s)
video-drafted s bits some =
    let width = size-width (height_of s.lines) in
    let height = size-height s.lines in
    let rate = rate-limits (video_of s).interlaced s.pace in
    record {
      address = bits.address;
      port_some = grind (arith, nat_tests);
      port = omega (arith, bits.port);
      pt = omega (arith, bits.pt);
      width_some = width.0;
      width = width.1;
      height_some = height.0;
      height = height.1;
      rate_some = rate.some;
      rate = rate.most;
      seconds_some = rate.whole;
      seconds = rate.seconds;
    }

not_true : (b : Bool) → not b ≡ true → b ≡ false
not_true true h = cc
not_true false h = refl

-- what it says that a stream is added
record IsAdded (videos : List DraftVideo) (s : Stream) : Type 0 where
  room : length videos < 64
  port : nat_lt 0 s.target.port ≡ true
  apart : has_target s.target videos ≡ false

added : (videos : List DraftVideo) (s : Stream) → is_added videos s ≡ true → IsAdded videos s
added videos s e =
    let b = both_true (nat_lt (length videos) 64) (can_be_drafted s && not (has_target s.target videos)) e in
    let c = both_true (can_be_drafted s) (not (has_target s.target videos)) b.1 in
    let room : nat_lt (length videos) 64 ≡ true = b.0 in
    record {
      room = grind (arith, nat_tests);
      port = (both_true (nat_lt 0 s.target.port) (is_raw s.lines) (both_true (nat_le 3 s.markers) (nat_lt 0 s.target.port && is_raw s.lines) c.0).1).0;
      apart = not_true (has_target s.target videos) c.1;
    }

-- at most 64, with targets of their own
pub record AreApart (videos : List DraftVideo) : Type 0 where
  pub own : HaveOwnTargets videos
  pub few : length videos ≤ 64

one-apart : (videos : List DraftVideo) (s : Stream) → AreApart videos → AreApart (with_stream videos s)
one-apart videos s d = by-test (is_added videos s) refl
  where
    by-test : (b : Bool) → is_added videos s ≡ b → AreApart (if b then videos ++ (video_of s ∷ []) else videos)
    by-test false e = d
    by-test true e =
        let a = added videos s e in
        let l = length_push videos (video_of s) in
        record { own = own-push (video_of s) videos d.own a.apart; few = omega (arith, l, a.room) }

all-apart : (videos : List DraftVideo) (streams : List Stream) → AreApart videos → AreApart (fold with_stream videos streams)
all-apart videos [] d = d
all-apart videos (s ∷ rest) d = all-apart (with_stream videos s) rest (one-apart videos s d)

pub drafts-apart : (streams : List Stream) → AreApart (videos_of streams)
drafts-apart streams = all-apart [] streams (record { own = tt; few = omega arith })

one-drafted : (videos : List DraftVideo) (s : Stream) → HasBits s → All IsDrafted videos → All IsDrafted (with_stream videos s)
one-drafted videos s bits d = by-test (is_added videos s) refl
  where
    by-test : (b : Bool) → is_added videos s ≡ b → All IsDrafted (if b then videos ++ (video_of s ∷ []) else videos)
    by-test false e = d
    by-test true e = all-push (video_of s) videos d (video-drafted s bits (added videos s e).port)

all-drafted : (videos : List DraftVideo) (streams : List Stream) → All HasBits streams → All IsDrafted videos → All IsDrafted (fold with_stream videos streams)
all-drafted videos [] bits d = d
all-drafted videos (s ∷ rest) bits d =
    all-drafted (with_stream videos s) rest (All-tail HasBits s rest bits) (one-drafted videos s (All-head HasBits s rest bits) d)

pub drafts-are : (streams : List Stream) → All HasBits streams → All IsDrafted (videos_of streams)
drafts-are streams bits = all-drafted [] streams bits (All-nil IsDrafted)
