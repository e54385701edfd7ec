use Rattle.std.proofs.Common.{ap}
use Rattle.std.specs.Prelude.{string_bytes}
use Rattle.timing_base.specs.declared.media.Kind.{Kind}
use Rattle.flow_page.specs.Often.{often_kind}
use Rattle.flow_page.proofs.Texts.{added_ok}
use Rattle.flow_page.proofs.often.add_often_at.Goals as goal

pub returns : goal.returns
returns c =
    added_ok c.add_often_kind.result (string_bytes c.args.text.now) _ _ _ c.add_often_kind.ensures
    (ap (λ (kind : Kind). often_kind c.args.numbers.now kind c.args.k.now) c.kind_at.ensures)
