use Rattle.std.proofs.Common.{◌==◌, ◌++◌, ◌+◌, ◌∷◌, [], map, arith, ap, ◌∙◌}
use Rattle.std.specs.List.{slice_split}
use Rattle.std.proofs.lemmas.List.{map-append}
use Rattle.sdp_reader.specs.Bytes.{trim_end}
use Rattle.sdp_reader.specs.Lines.{numbered}
use Rattle.sdp_reader.specs.Plain.{plain}
use Rattle.sdp_reader.proofs.Numbering.{numbered-line}
use Rattle.sdp_reader.proofs.line.read_lines.Goals as goal

pub loop-piece-preserved : goal.loop-piece-preserved
loop-piece-preserved c = record {
  count = omega (arith, c.in-Some.ensures.shorter);
  told =
      let items = c.loop-piece.lines.items in
      let n = c.loop-piece.number in
      let rest = numbered (n + 1) (slice_split (λ x. x == 10) c.in-Some.after.now) in
      ap (λ l. map plain l ++ rest) c.in_ok-push.ensures.items
      ∙ ap (λ l. l ++ rest) (map-append plain items (record { number = n; text = c.trim_end.result } ∷ []))
      ∙ ap (λ t. (map plain items ++ record { number = n; text = t } ∷ []) ++ rest) (c.trim_end.ensures.value ∙ ap trim_end c.without_cr.ensures.value)
      ∙ numbered-line (map plain items) n c.loop-piece.rest.now c.in-Some.piece.now c.in-Some.after.now c.in-Some.ensures.pieces
      ∙ c.loop-piece.invariant.told;
}
