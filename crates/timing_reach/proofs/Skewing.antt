-- What follows for `skew` from what its steps found, and that its captures have one answer.
use Rattle.std.proofs.Common.{◌≡◌, ℕ, List, Option, Some, None, refl, ap, ◌∙◌, sym, subst}
use Rattle.std.specs.Prelude.{slice_get}
use Rattle.timing_base.specs.Jobs.{SkewJob}
use Rattle.timing_base.specs.Media.{Media}
use Rattle.path_skew.specs.Pair.{skew}
use Rattle.udp_rtp.specs.Flow.{flow}
use Rattle.timing_steps.specs.Answers.{Answer}
use Rattle.timing_steps.specs.Flows.{OnMedia, no_media, no_such_media}
use Rattle.timing_steps.specs.Queries.{HasAnswer}
use Rattle.timing_steps.proofs.Capturing.{some-none}
use Rattle.timing_steps.proofs.Onces.{DefinesOnce, DefinesSome}
use Rattle.timing_reach.specs.skew.Comparing.{IsComparedIn}
use Rattle.timing_reach.specs.Skewed.{first_of, last_of, no_pair, skew_query, skewed}
use Rattle.timing_reach.specs.declared.skew.compare.Compared.{Compared}

-- the SDP has the first media, or both
pub pair-first : (first second : Option Media) → no_pair first second ≡ None → no_media first ≡ None
pair-first None second h = h
pair-first (Some a) second h = refl

pub pair-second : (first second : Option Media) → no_pair first second ≡ None → no_media second ≡ None
pair-second None second h = absurd (some-none no_such_media h)
pair-second (Some a) second h = h

-- the answer of the first media, or of the second
pub early-first : (first second : Option Media) (answer : Answer) → Some answer ≡ no_media first → Some answer ≡ no_pair first second
early-first None second answer h = h
early-first (Some a) second answer h = absurd (some-none answer h)

pub early-second : (first second : Option Media) (found : Option Answer) → None ≡ no_media first → found ≡ no_media second → found ≡ no_pair first second
early-second None second found none h = absurd (some-none no_such_media (sym none))
early-second (Some a) second found none h = h

-- the answer on what was found
pub has-skew : (job : SkewJob) (media : List Media) (a b : Media) (texts : List (List ℕ)) (c : Compared) (answer : Answer) → slice_get media job.media ≡ Some a
    → slice_get media job.pair ≡ Some b → IsComparedIn texts a b c → answer ≡ skewed job c.notes.items c.row → HasAnswer (skew_query job) media texts answer
has-skew job media a b texts c answer first second h is = record {
  files = h.files;
  notes = c.notes.items;
  records = h.records;
  defined =
      subst (λ x. OnMedia x (λ m. OnMedia (slice_get media job.pair) (λ n.
      answer ≡ skewed job c.notes.items (skew (flow (first_of h.files) m) (flow (last_of h.files) n))))) (sym first)
      (subst (λ x. OnMedia x (λ n. answer ≡ skewed job c.notes.items (skew (flow (first_of h.files) a) (flow (last_of h.files) n)))) (sym second)
      (is ∙ ap (skewed job c.notes.items) h.row_is));
}

-- the captures have one answer
pub once-skew : (job : SkewJob) → DefinesOnce (skew_query job)
once-skew job media files notes x y h k = both (slice_get media job.media) (slice_get media job.pair) h k
  where
    both : (first second : Option Media)
        → OnMedia first (λ a. OnMedia second (λ b. x ≡ skewed job notes (skew (flow (first_of files) a) (flow (last_of files) b))))
        → OnMedia first (λ a. OnMedia second (λ b. y ≡ skewed job notes (skew (flow (first_of files) a) (flow (last_of files) b)))) → x ≡ y
    both None second h k = absurd h
    both (Some a) None h k = absurd h
    both (Some a) (Some b) h k = h ∙ sym k

pub some-skew : (job : SkewJob) (texts : List (List ℕ)) → DefinesSome (skew_query job) texts
some-skew job texts media files notes are unsettled records = both (slice_get media job.media) (slice_get media job.pair) unsettled
  where
    both : (first second : Option Media) → no_pair first second ≡ None
        → (answer : Answer) × OnMedia first (λ a. OnMedia second (λ b.
        answer ≡ skewed job notes (skew (flow (first_of files) a) (flow (last_of files) b))))
    both None second h = absurd (some-none no_such_media h)
    both (Some a) None h = absurd (some-none no_such_media h)
    both (Some a) (Some b) h = (skewed job notes (skew (flow (first_of files) a) (flow (last_of files) b)), refl)
