use Rattle.std.proofs.Common.{◌≡◌, ◌+◌, ℕ, List, ap, ◌∙◌, sym, subst}
use Rattle.timing_base.specs.Media.{Media}
use Rattle.timing_base.specs.declared.fail.Broken.{Broken}
use Rattle.timing_base.specs.declared.fail.Broken.TheVariants.{Bucket, Over, Empty}
use Rattle.timing_base.specs.declared.fail.FailProof.{FailProof}
use Rattle.timing_base.specs.declared.media.Kind.{Kind}
use Rattle.sender_params.specs.Keeps.{BreaksLimit, arrived_by_read, held_at}
use Rattle.sender_params.specs.Limits.{gapped_of}
use Rattle.sender_params.specs.Ticks.{load_of}
use Rattle.sender_params.proofs.laws.confirmed_once.Goals as goal

-- the count and the limit follow from the model and the interval
once : (m : Media) (n : ℕ) (stamps : List ℕ) (kind : Kind) (f g : FailProof) (model : Broken)
    → BreaksLimit m n stamps kind f model → BreaksLimit m n stamps kind g model
    → f.from ≡ g.from → f.to ≡ g.to → (f.count ≡ g.count) × (f.limit ≡ g.limit)
once m n stamps kind f g Bucket a b from to =
    (a.1 ∙ (ap (λ j. load_of m n stamps j f.to) from ∙ (ap (λ i. load_of m n stamps g.from i) to ∙ sym b.1)), a.0 ∙ sym b.0)
once m n stamps kind f g Over a b from to =
    (a.2 ∙ (ap (λ i. held_at m n stamps (gapped_of kind) i) to ∙ sym b.2), a.0 ∙ sym b.0)
once m n stamps kind f g Empty a b from to =
    (a.2 ∙ (ap (λ i. arrived_by_read m n stamps kind i) to ∙ sym b.2), a.0 ∙ (ap (λ i. i + 1) to ∙ sym b.0))

pub returns-clause-count : goal.returns-clause-count
returns-clause-count c = λ m n stamps kind f g a b same from to.
    (once m n stamps kind f g f.model a.breaks (subst (λ x. BreaksLimit m n stamps kind g x) (sym same) b.breaks) from to).0

pub returns-clause-limit : goal.returns-clause-limit
returns-clause-limit c = λ m n stamps kind f g a b same from to.
    (once m n stamps kind f g f.model a.breaks (subst (λ x. BreaksLimit m n stamps kind g x) (sym same) b.breaks) from to).1
