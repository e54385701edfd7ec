use Rattle.std.proofs.Common.{◌≡◌, ℕ, List, ◌++◌, ap, subst, ◌∙◌}
use Rattle.std.specs.Prelude.{IfOk, string_bytes}
use Rattle.timing_base.specs.Media.{Media}
use Rattle.timing_base.specs.Targets.{target_of}
use Rattle.timing_report.proofs.Appends.{two_ok}
use Rattle.sdp_notes.specs.report.Text.{picture_text, place_text, sender_text}
use Rattle.sdp_notes.proofs.report.text.add_read.Goals as goal

pub returns : goal.returns
returns c =
    let m = c.args.media.now in
    let n = c.args.number in
    let r = c.add_sender.result in
    let a : List ℕ = place_text n c.target.result c.video.inside.line c.video.inside.pt in
    let b : List ℕ = picture_text m in
    let d : List ℕ = sender_text m in
    let place : a ≡ place_text n (target_of m) m.line m.pt =
    ap (λ t. place_text n t c.video.inside.line c.video.inside.pt) c.target.ensures
    ∙ ap (λ (v : Media). place_text n (target_of m) v.line v.pt) c.video.view_is in
    subst (λ p. IfOk r (λ _. string_bytes c.add_sender.new.text ≡ string_bytes c.args.text.now ++ (p ++ (b ++ d)))) place
    (two_ok r (string_bytes c.args.text.now) a (b ++ d) _ _ c.in_ok-add_place.ensures
    (two_ok r _ b d _ _ c.in_ok-add_picture.ensures c.add_sender.ensures))
