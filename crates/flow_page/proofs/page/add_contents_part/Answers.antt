use Rattle.std.specs.Prelude.{codes, string_bytes}
use Rattle.timing_report.proofs.Appends.{two_ok}
use Rattle.flow_page.specs.Page.{contents_part, contents_told}
use Rattle.flow_page.proofs.page.add_contents_part.Goals as goal

pub returns : goal.returns
unfolding contents_part
returns c = two_ok c.add_markup.result (string_bytes c.args.text.now) (contents_told c.args.contents.now) (codes "</pre></div>\n") _ _
    c.in_ok-add_contents.ensures c.add_markup.ensures
