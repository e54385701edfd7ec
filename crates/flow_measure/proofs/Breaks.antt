-- The groups that have a broken packet, with one packet more.
use Rattle.std.proofs.Common.{◌≡◌, ◌<◌, ◌≤◌, ◌+◌, ◌-◌, ◌*◌, ◌/◌, ◌%◌, ℕ, zero, suc, Bool, true, false, cond, ◌||◌, refl, ap, ◌∙◌, sym, arith}
use Rattle.std.proofs.Math.Nat.{add-mul}
use Rattle.std.proofs.lemmas.Nat.{div-add-mod', div-mul-add, mod-mul-add}
use Rattle.flow_measure.specs.Broken.{any_of, broken_groups, group_breaks}
use Rattle.flow_measure.specs.Stands.{CountsBroken}
use Rattle.flow_measure.specs.declared.broken.BrokenGroups.{BrokenGroups}
use Rattle.flow_measure.proofs.Counted.{count_of-more}

-- so many packets further in a group, and at its end
pub within-group : (x n times : ℕ) → x % n + times < n → ((x + times) / n ≡ x / n) × ((x + times) % n ≡ x % n + times)
within-group x n times inside =
    let split : (x / n) * n + (x % n + times) ≡ x + times = omega (arith, div-add-mod' x n) in
    (sym (ap (λ y. y / n) split) ∙ div-mul-add (x / n) n (x % n + times) inside, sym (ap (λ y. y % n) split) ∙ mod-mul-add (x / n) n (x % n + times) inside)

pub end-of-group : (x n times : ℕ) → 1 ≤ times → x % n + times ≡ n → ((x + times) / n ≡ x / n + 1) × ((x + times) % n ≡ 0)
end-of-group x n times few outside =
    let split : (x / n + 1) * n + 0 ≡ x + times = omega (arith, div-add-mod' x n, add-mul (x / n) 1 n, outside) in
    let some : 0 < n = omega (arith, few, outside) in
    (sym (ap (λ y. y / n) split) ∙ div-mul-add (x / n + 1) n 0 some, sym (ap (λ y. y % n) split) ∙ mod-mul-add (x / n + 1) n 0 some)

or-again : (x y : Bool) → (x || y) || y ≡ x || y
or-again true y = refl
or-again false true = refl
or-again false false = refl

-- one of so many places passes, where the last of them all pass or don't
any_of-times : (test : ℕ → Bool) (place times : ℕ) (x : Bool)
    → ((j : ℕ) → j < suc times → test (place + j) ≡ x)
    → any_of test (place + suc times) ≡ any_of test place || x
any_of-times test place zero x h =
    let next : place + suc zero ≡ suc place = omega arith in
    let here : place + 0 ≡ place = omega arith in
    ap (any_of test) next ∙ ap (λ y. any_of test place || y) (ap test (sym here) ∙ h 0 (omega arith))
any_of-times test place (suc k) x h =
    let next : place + suc (suc k) ≡ suc (place + suc k) = omega arith in
    let before = any_of-times test place k x (λ j few. h j (omega (arith, few))) in
    ap (any_of test) next
    ∙ ap (λ y. any_of test (place + suc k) || y) (h (suc k) (omega arith))
    ∙ ap (λ y. y || x) before
    ∙ or-again (any_of test place) x

-- whether the group that goes on is broken with so many packets more
pub here-more : (n : ℕ) (b : BrokenGroups) (broken : ℕ → Bool) (seen times : ℕ) (is_broken : Bool)
    → 1 ≤ times
    → CountsBroken n b broken seen
    → ((j : ℕ) → j < times → broken (seen + j) ≡ is_broken)
    → b.here || is_broken ≡ any_of (λ j. broken (b.whole * n + j)) (seen + times - b.whole * n)
here-more n b broken seen times is_broken some h all =
    let test = λ (j : ℕ). broken (b.whole * n + j) in
    let place = seen - b.whole * n in
    let k = times - 1 in
    let size : seen + times - b.whole * n ≡ place + suc k = omega (arith, some, h.begun) in
    let last : (j : ℕ) → j < suc k → test (place + j) ≡ is_broken =
    λ j few. let here : b.whole * n + (place + j) ≡ seen + j = omega (arith, h.begun) in ap broken here ∙ all j (omega (arith, few, some)) in
    ap (λ (x : Bool). x || is_broken) h.here_is ∙ sym (any_of-times test place k is_broken last) ∙ sym (ap (any_of test) size)

-- so many packets more
pub broken-more : (n : ℕ) (b c : BrokenGroups) (broken : ℕ → Bool) (seen times : ℕ) (is_broken : Bool)
    → 1 ≤ times
    → c.whole ≡ b.whole
    → c.broken ≡ b.broken
    → c.here ≡ b.here || is_broken
    → CountsBroken n b broken seen
    → ((j : ℕ) → j < times → broken (seen + j) ≡ is_broken)
    → CountsBroken n c broken (seen + times)
broken-more n b c broken seen times is_broken some whole count here h all = record {
  over = count ∙ h.over ∙ ap (broken_groups n broken) (sym whole);
  here_is = here ∙ here-more n b broken seen times is_broken some h all
      ∙ ap (λ k. any_of (λ j. broken (k * n + j)) (seen + times - k * n)) (sym whole);
  begun = omega (arith, h.begun, ap (λ k. k * n) whole);
}

-- the group is over
pub group-over : (n : ℕ) (b c : BrokenGroups) (broken : ℕ → Bool) (seen : ℕ)
    → c.whole ≡ b.whole + 1
    → c.broken ≡ b.broken + cond b.here 1 0
    → c.here ≡ false
    → CountsBroken n b broken seen
    → seen ≡ b.whole * n + n
    → CountsBroken n c broken seen
group-over n b c broken seen whole count here h all =
    let last : seen - b.whole * n ≡ n = omega (arith, all) in
    let next : c.whole * n ≡ seen = ap (λ k. k * n) whole ∙ add-mul b.whole 1 n ∙ omega (arith, all) in
    let breaks : b.here ≡ group_breaks n broken b.whole = h.here_is ∙ ap (any_of (λ j. broken (b.whole * n + j))) last in
    let none : seen - c.whole * n ≡ 0 = omega (arith, next) in
    record {
      over = count ∙ ap (λ k. k + cond b.here 1 0) h.over
          ∙ ap (λ (x : Bool). broken_groups n broken b.whole + cond x 1 0) breaks
          ∙ sym (count_of-more (group_breaks n broken) b.whole)
          ∙ ap (broken_groups n broken) (sym whole);
      here_is = here ∙ sym (ap (any_of (λ j. broken (c.whole * n + j))) none);
      begun = omega (arith, next);
    }
