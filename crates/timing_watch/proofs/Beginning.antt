-- The flows of media before the first packet record.
use Rattle.std.proofs.Common.{◌≡◌, ◌<◌, ◌+◌, ◌++◌, ◌∷◌, ℕ, List, [], length, take, get_or, ◌∙◌, ap, sym, subst, arith}
use Rattle.std.proofs.lemmas.List.{length-take-le, take_more}
use Rattle.timing_base.specs.Captures.{Record}
use Rattle.timing_base.specs.Jobs.{WatchJob}
use Rattle.timing_base.specs.Media.{Media}
use Rattle.flow_demux.specs.declared.media_flow.MediaFlow.{MediaFlow}
use Rattle.timing_watch.specs.making.Watches.{AreFlows, IsFlowOf}
use Rattle.timing_watch.specs.declared.flow.WatchFlow.{WatchFlow}

-- the flows of media and of one more
flows-append : (job : WatchJob) (items : List Record) (number : ℕ) (ms : List Media) (fs : List (MediaFlow WatchFlow)) (m : Media) (f : MediaFlow WatchFlow)
    → AreFlows job items number ms fs → IsFlowOf job items (number + length ms) m f → AreFlows job items number (ms ++ m ∷ []) (fs ++ f ∷ [])
flows-append job items number [] [] m f h is = (subst (λ (n : ℕ). IsFlowOf job items n m f) (omega arith) is, tt)
flows-append job items number [] (g ∷ fs) m f h is = absurd h
flows-append job items number (l ∷ ms) [] m f h is = absurd h
flows-append job items number (l ∷ ms) (g ∷ fs) m f h is =
    let far : number + length (l ∷ ms) ≡ number + 1 + length ms = omega arith in
    (h.0, flows-append job items (number + 1) ms fs m f h.1 (subst (λ (n : ℕ). IsFlowOf job items n m f) far is))

-- the flows of the first media, and that of the next one
pub flows-more : (job : WatchJob) (first n : ℕ) (media : List Media) (fs more : List (MediaFlow WatchFlow)) (m : Media) (f : MediaFlow WatchFlow)
    → n < length media → get_or media n m ≡ m → AreFlows job [] first (take n media) fs → IsFlowOf job [] (first + n) m f → more ≡ fs ++ f ∷ []
    → AreFlows job [] first (take (n + 1) media) more
flows-more job first n media fs more m f within at h is e =
    let long : first + length (take n media) ≡ first + n = omega (arith, length-take-le n media (omega (arith, within))) in
    let next : take (n + 1) media ≡ take n media ++ m ∷ [] = take_more media n m within ∙ ap (λ (x : Media). take n media ++ x ∷ []) at in
    subst (λ (l : List Media). AreFlows job [] first l more) (sym next)
    (subst (λ (l : List (MediaFlow WatchFlow)). AreFlows job [] first (take n media ++ m ∷ []) l) (sym e)
    (flows-append job [] first (take n media) fs m f h (subst (λ (x : ℕ). IsFlowOf job [] x m f) (sym long) is)))
