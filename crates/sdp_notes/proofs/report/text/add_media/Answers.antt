use Rattle.std.proofs.Common.{◌≡◌, ◌<◌, ◌+◌, ◌++◌, ℕ, suc, List, ◌∷◌, length, get_or, drop, sym, ap, ◌∙◌, append_assoc, add-one, drop-cons, arith}
use Rattle.timing_base.specs.Media.{Media}
use Rattle.sdp_notes.specs.report.Text.{media_text, video_text}
use Rattle.sdp_notes.proofs.report.text.add_media.Goals as goal

-- one video more
media-step : (old new : List ℕ) (n i : ℕ) (xs : List Media) (x : Media) → i < length xs → x ≡ get_or xs i x → new ≡ old ++ video_text n x
    → new ++ media_text (n + 1) (drop (i + 1) xs) ≡ old ++ media_text n (drop i xs)
media-step old new n i xs x h is e =
    let rest : List ℕ = media_text (n + 1) (drop (i + 1) xs) in
    let next : drop i xs ≡ x ∷ drop (i + 1) xs = rw add-one (drop-cons xs i x h ∙ ap (λ y. y ∷ drop (suc i) xs) (sym is)) in
    ap (λ t. t ++ rest) e ∙ append_assoc old (video_text n x) rest ∙ ap (λ l. old ++ media_text n l) (sym next)

pub loop-index-preserved : goal.loop-index-preserved
loop-index-preserved c =
    media-step _ _ _ c.loop-index.index c.args.videos.now c.index-videos-index.result (omega arith) c.index-videos-index.is c.in_ok-add_video.ensures
    ∙ c.loop-index.invariant
