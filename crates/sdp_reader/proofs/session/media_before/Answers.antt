use Rattle.std.proofs.Common.{◌≡◌, ◌-◌, ℕ, List, length, map, min, take, ap, sym, subst, ◌∙◌}
use Rattle.std.specs.Prelude.{IfOk}
use Rattle.std.proofs.lemmas.List.{take_min, take-map}
use Rattle.sdp_reader.specs.Lines.{lines}
use Rattle.sdp_reader.specs.Plain.{plain}
use Rattle.sdp_reader.specs.Session.{lines_before, media_in}
use Rattle.sdp_reader.proofs.session.media_before.Goals as goal

-- the first of these lines, of which there are at most as many as there are
first_lines : {A B : Type 0} (f : A → B) (n count few : ℕ) (xs : List A) → few ≡ min n count → count ≡ length xs → map f (take few xs) ≡ take n (map f xs)
first_lines f n count few xs a b = ap (λ k. map f (take k xs)) (a ∙ ap (min n) b) ∙ ap (map f) (take_min n xs) ∙ sym (take-map f n xs)

pub returns : goal.returns
returns c =
    let found = c.as_slice.result.now in
    let before : map plain (take c.min.result found) ≡ lines_before c.args.line (lines c.args.bytes.now) =
    first_lines plain (c.args.line - 1) c.len.result c.min.result found (c.min.ensures ∙ ap (λ n. min n c.len.result) c.saturating_sub-count.ensures)
    (c.len.ensures ∙ sym c.as_slice.ensures.len)
    ∙ ap (take (c.args.line - 1)) (ap (map plain) c.as_slice.ensures.value ∙ c.in_ok-lines.ensures) in
    subst (λ ls. IfOk c.media_in.result (λ media. media.items ≡ media_in ls)) before c.media_in.ensures
