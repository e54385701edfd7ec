-- What a claimed interval confirms, and the stamps of its packets.
use Rattle.std.proofs.Common.{◌≡◌, ◌≤◌, ◌<◌, ◌-◌, ◌↔◌, ℕ, Bool, true, List, length, ap, sym, ◌∙◌, subst, arith}
use Rattle.std.specs.Prelude.{IsTrue, slice_index, ◌==◌}
use Rattle.std.proofs.lemmas.Bool.Decides.{nat_tests}
use Rattle.timing_base.specs.Shifts.{Shift, shifted}
use Rattle.timing_base.specs.Media.{Media}
use Rattle.timing_base.specs.declared.fail.FailProof.{FailProof}
use Rattle.timing_base.specs.declared.fail.Broken.{Broken}
use Rattle.timing_base.specs.declared.media.Kind.{Kind}
use Rattle.sender_params.specs.Keeps.{BreaksLimit, Confirms}
use Rattle.interval_checker.specs.Samples.{AreSampled}
use Rattle.interval_checker.specs.declared.sample.Sample.{Sample}

-- an interval of judged packets confirms what breaks the limit of its model
pub confirms-by : (m other : Media) (n size : ℕ) (stamps : List ℕ) (kind : Kind) (f : FailProof) (model : Broken) (b : Bool) → other ≡ m → size ≡ n
    → f.model ≡ model
    → f.from ≤ f.to → f.to < length stamps → (IsTrue b ↔ BreaksLimit other size stamps kind f model) → IsTrue b ↔ Confirms m n stamps kind f
confirms-by m other n size stamps kind f model b em en e order within h =
    let at_media = subst (λ x. IsTrue b ↔ BreaksLimit x size stamps kind f model) em h in
    let at_size = subst (λ x. IsTrue b ↔ BreaksLimit m x stamps kind f model) en at_media in
    let at_model = subst (λ x. IsTrue b ↔ BreaksLimit m n stamps kind f x) (sym e) at_size in
    (λ t. record { ordered = order; judged = within; breaks = at_model.0 t }, λ c. at_model.1 c.breaks)

same_of : (a b : ℕ) → (a == b) ≡ true → a ≡ b
same_of a b e = grind (arith, nat_tests)

of_same : (a b : ℕ) → a ≡ b → (a == b) ≡ true
of_same a b e = grind (arith, nat_tests)

-- whether two numbers are one
pub eq-says : (a b x y : ℕ) → a ≡ x → b ≡ y → IsTrue (a == b) ↔ (x ≡ y)
eq-says a b x y ea eb = (λ t. sym ea ∙ (same_of a b t ∙ eb), λ e. of_same a b (ea ∙ (e ∙ sym eb)))

-- the stamps of the packets that a claim speaks of
pub sampled-to : (f : FailProof) (shift : Shift) (stamps : List ℕ) (s : Sample) → AreSampled f shift stamps s → f.to < length stamps
    → shifted shift s.to ≡ slice_index stamps f.to
sampled-to f shift stamps s h l = ap (shifted shift) (h.sample.to l) ∙ sym (h.after f.to l)

pub sampled-counted : (f : FailProof) (shift : Shift) (stamps : List ℕ) (s : Sample) → AreSampled f shift stamps s → 0 < f.count → f.count ≤ length stamps
    → shifted shift s.last_counted ≡ slice_index stamps (f.count - 1)
sampled-counted f shift stamps s h some l =
    ap (shifted shift) (h.sample.last_counted some l) ∙ sym (h.after (f.count - 1) (omega (arith, some, l)))

pub sampled-behind : (f : FailProof) (shift : Shift) (stamps : List ℕ) (s : Sample) → AreSampled f shift stamps s → f.count < length stamps
    → shifted shift s.behind ≡ slice_index stamps f.count
sampled-behind f shift stamps s h l = ap (shifted shift) (h.sample.behind l) ∙ sym (h.after f.count l)
