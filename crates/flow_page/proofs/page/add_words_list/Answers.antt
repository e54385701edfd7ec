use Rattle.std.proofs.Common.{List, ℕ, ◌++◌}
use Rattle.std.specs.List.{flat_map}
use Rattle.std.specs.Prelude.{codes, string_bytes}
use Rattle.timing_report.proofs.Appends.{two_ok}
use Rattle.flow_page.specs.Words.{type_words}
use Rattle.flow_page.specs.declared.shown.TypeShown.{TypeShown}
use Rattle.flow_page.proofs.page.add_words_list.Goals as goal

pub returns : goal.returns
returns c =
    let r = c.add_markup-2.result in
    let words : List ℕ = flat_map (λ (t : TypeShown). type_words t c.args.group.now c.args.shift) c.args.types.now in
    let end : List ℕ = codes "</ul>\n" in
    two_ok r (string_bytes c.args.text.now) (codes "<ul class=\"words\">\n") (words ++ end) _ _ c.in_ok-add_markup.ensures
    (two_ok r _ words end _ _ c.in_ok-add_words.ensures c.add_markup-2.ensures)
