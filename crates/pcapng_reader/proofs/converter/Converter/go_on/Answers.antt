use Rattle.std.proofs.Common.{refl, ◌∙◌, ◌++◌, take, ap}
use Rattle.pcapng_reader.specs.Windows.{kept_bytes, held_bytes}
use Rattle.pcapng_reader.specs.declared.stage.Stage.TheVariants as stage
use Rattle.pcapng_reader.specs.Described.{list_of}
use Rattle.pcapng_reader.specs.Classic.{Section, blocks}
use Rattle.pcapng_reader.proofs.Texts.{text-at_block}
use Rattle.pcapng_reader.proofs.converter.Converter.go_on.Goals as goal

pub returns-clause-text : goal.returns-clause-text
returns-clause-text c =
    let w = c.args.self.now in
    let f = c.forget.new.self in
    let s : Section = record { order = c.args.order; interfaces = list_of w.interfaces } in
    λ left.
    text-at_block stage.Block s (kept_bytes f) (held_bytes f ++ take w.budget left) (held_bytes f ++ left) refl c.forget.ensures.kept
    ∙ ap (λ x. blocks s (x ++ take w.budget left)) c.forget.ensures.held
