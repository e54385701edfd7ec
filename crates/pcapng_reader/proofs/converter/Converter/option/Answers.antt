use Rattle.std.proofs.Common.{take, sym, ap, ◌∙◌, arith}
use Rattle.pcapng_reader.specs.Texts.{section_of}
use Rattle.pcapng_reader.specs.Windows.{held_bytes}
use Rattle.pcapng_reader.specs.Classic.{broken}
use Rattle.pcapng_reader.proofs.Steps.{option-waits, options-broken, steps-option, steps-settled, steps-unformed}
use Rattle.pcapng_reader.proofs.converter.Converter.option.Goals as goal

pub returns-then-from-body : goal.returns-then-from-body
returns-then-from-body c =
    let w = c.args.self.now in
    let at = c.requires.option in
    steps-settled w c.settle.new.self c.args.body c.args.found broken at.stage_is
    (λ left. options-broken (section_of w) (held_bytes w.window) (take w.budget left) c.args.body c.args.found at.held at.left
    (omega (arith, at.code_is, at.some)) (omega (arith, at.size_is)))
    c.settle.ensures.text c.settle.ensures.work c.settle.ensures.budget

pub returns-then-len-count : goal.returns-then-len-count
returns-then-len-count c =
    option-waits c.args.self.now c.wait.new.self c.wait.result c.args.body c.args.found c.wait.ensures c.requires.option.stage_is c.requires.option.given
    (omega arith)
    (omega arith)

pub returns-in-Some : goal.returns-in-Some
returns-in-Some c =
    steps-option c.args.self.now c.pass_option.new.self c.args.body c.args.found c.in-Some.found c.args.code c.args.size _ c.min-count.result _
    c.requires.option
    (omega arith) (omega arith) c.min-count.ensures c.padded.ensures.value c.peek.ensures (sym c.with.ensures ∙ c.in-Some.is)
    c.pass_option.ensures.text c.pass_option.ensures.work c.pass_option.ensures.budget

pub returns-in-None : goal.returns-in-None
returns-in-None c =
    steps-unformed c.args.self.now c.settle-in-None.new.self c.args.body c.args.found c.args.code c.args.size _ c.min-count.result _ c.requires.option
    (omega arith) (omega arith) c.min-count.ensures c.padded.ensures.value c.peek.ensures (sym c.with.ensures ∙ c.in-None.is)
    c.settle-in-None.ensures.text c.settle-in-None.ensures.work c.settle-in-None.ensures.budget
