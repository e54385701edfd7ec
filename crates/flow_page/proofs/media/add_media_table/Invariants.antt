use Rattle.std.proofs.Common.{◌≡◌, ◌++◌, drop}
use Rattle.std.specs.Prelude.{string_bytes}
use Rattle.std.specs.List.{flat_map}
use Rattle.flow_page.specs.Media.{flow_media, media_open, media_row}
use Rattle.flow_page.proofs.media.add_media_table.Given as goal

abbrev pub invariant-loop-page : goal.invariant-loop-page
invariant-loop-page l =
    string_bytes l.text ++ flat_map (λ f. media_row (flow_media l.session f) f) (drop l.page-index l.flows)
    ≡ string_bytes l.fn.text ++ (media_open ++ flat_map (λ f. media_row (flow_media l.session f) f) l.flows)
