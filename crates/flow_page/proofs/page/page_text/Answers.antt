use Rattle.std.proofs.Common.{List, ℕ, ◌++◌, ap, ◌∙◌}
use Rattle.timing_report.proofs.Appends.{two}
use Rattle.flow_page.specs.Head.{legend, notes_part, page_end, page_start}
use Rattle.flow_page.specs.Media.{media_table}
use Rattle.flow_page.specs.Page.{contents_part, flow_parts}
use Rattle.flow_page.proofs.page.page_text.Goals as goal

pub returns : goal.returns
returns c =
    let session = c.args.session.now in
    let flows = c.args.flows.now in
    let a : List ℕ = page_start c.args.names.now in
    let b : List ℕ = notes_part c.args.names.now c.args.notes.now in
    let d : List ℕ = media_table session flows in
    let e : List ℕ = legend in
    let f : List ℕ = flow_parts c.args.shift session flows in
    let g : List ℕ = contents_part c.args.contents.now in
    let h : List ℕ = page_end in
    two _ a (b ++ (d ++ (e ++ (f ++ (g ++ h))))) _ _ c.in_ok-add_page_start.ensures
    (two _ b (d ++ (e ++ (f ++ (g ++ h)))) _ _ c.in_ok-add_notes.ensures
    (two _ d (e ++ (f ++ (g ++ h))) _ _ c.in_ok-add_media_table.ensures
    (two _ e (f ++ (g ++ h)) _ _ c.in_ok-add_legend.ensures
    (two _ f (g ++ h) _ _ c.in_ok-add_flow_parts.ensures
    (two _ g h _ _ c.in_ok-add_contents_part.ensures c.in_ok-add_page_end.ensures)))))
    ∙ ap (λ (s : List ℕ). s ++ (a ++ (b ++ (d ++ (e ++ (f ++ (g ++ h))))))) c.new-text.ensures.bytes
