-- What a draft says that is a guess, and what isn't one.
use Rattle.std.proofs.Common.{◌≡◌, ◌∙◌, ℕ, Bool, true, false, ◌==◌, ◌||◌, ◌⊎◌, inl, inr, refl, sym, ap, subst, arith, Some}
use Rattle.std.specs.Prelude.{min, nat_le, nat_lt, not, List, ◌∷◌, ◌&&◌, length}
use Rattle.std.specs.List.{list_any}
use Rattle.std.proofs.lemmas.Bool.Decides.{nat_tests}
use Rattle.capture_scan.specs.declared.stream.Lines.{Lines}
use Rattle.capture_scan.specs.declared.stream.Pace.{Pace}
use Rattle.capture_scan.specs.declared.stream.Stream.{Stream}
use Rattle.capture_scan.specs.report.Draft.{has_fields, has_target, height_of, is_added, is_height_guessed, is_in_use, is_rate_guessed, is_raw, near_height}
use Rattle.capture_scan.specs.report.Draft.{near_or, seen_height}
use Rattle.capture_scan.specs.report.Draft.{video_of}
use Rattle.capture_scan.specs.declared.report.draft.DraftVideo.{DraftVideo}
use Rattle.capture_scan.specs.report.Rates.{faster, is_within, slowest}
use Rattle.capture_scan.proofs.lemmas.report.Nearest.{known-any}

-- the height where so many lines were seen
abbrev Stays : ℕ → Type 0
Stays n = min 32767 (near_or n (near_height n)) ≡ n

either_true : (a b : Bool) → (a || b) ≡ true → (a ≡ true) ⊎ (b ≡ true)
either_true true b h = inl refl
either_true false b h = inr h

the-height : (n c : ℕ) → (n == c) ≡ true → Stays c → Stays n
the-height n c h stays = let e : c ≡ n = grind (arith, nat_tests) in subst Stays e stays

or-height : (n c : ℕ) (b : Bool) → ((n == c) || b) ≡ true → Stays c → (b ≡ true → Stays n) → Stays n
or-height n c b h stays rest = by (either_true (n == c) b h)
  where
    by : ((n == c) ≡ true) ⊎ (b ≡ true) → Stays n
    by (inl e) = the-height n c e stays
    by (inr e) = rest e

in-use-stays : (n : ℕ) → is_in_use n ≡ true → Stays n
in-use-stays n h =
    or-height n 2160 ((n == 1080) || ((n == 720) || ((n == 576) || ((n == 486) || (n == 480))))) h refl
    (λ h1. or-height n 1080 ((n == 720) || ((n == 576) || ((n == 486) || (n == 480)))) h1 refl
    (λ h2. or-height n 720 ((n == 576) || ((n == 486) || (n == 480))) h2 refl
    (λ h3. or-height n 576 ((n == 486) || (n == 480)) h3 refl
    (λ h4. or-height n 486 (n == 480) h4 refl (λ h5. the-height n 480 h5 refl)))))

not_false : (b : Bool) → not b ≡ false → b ≡ true
not_false true h = refl
not_false false h = cc

-- a height that isn't a guess is that of the lines that were seen
pub height-seen : (s : Stream) (lines : Lines) → s.lines ≡ Some lines → (video_of s).guesses.height ≡ false
    → (video_of s).height ≡ seen_height lines
height-seen s lines is h =
    ap height_of is ∙ in-use-stays (seen_height lines) (not_false (is_in_use (seen_height lines)) (sym (ap is_height_guessed is) ∙ h))

-- the rate is a guess exactly where the step of no known one is within a hundredth of the mean
pub rate-guessed : (s : Stream) (pace : Pace) → s.pace ≡ Some pace
    → (video_of s).guesses.rate ≡ not (list_any (is_within (has_fields s.lines) pace.rate) (slowest ∷ faster))
rate-guessed s pace is = ap (is_rate_guessed (has_fields s.lines)) is ∙ ap not (known-any (has_fields s.lines) pace.rate)

and_no : (a : Bool) → (a && false) ≡ false
and_no true = refl
and_no false = refl

-- a stream that isn't raw video adds none
pub never-added : (videos : List DraftVideo) (s : Stream) → is_raw s.lines ≡ false → is_added videos s ≡ false
never-added videos s h =
    let room = nat_lt (length videos) 64 in
    let apart = not (has_target s.target videos) in
    ap (λ b. room && ((nat_le 3 s.markers && (nat_lt 0 s.target.port && b)) && apart)) h
    ∙ ap (λ b. room && ((nat_le 3 s.markers && b) && apart)) (and_no (nat_lt 0 s.target.port))
    ∙ ap (λ b. room && (b && apart)) (and_no (nat_le 3 s.markers)) ∙ and_no room
