use Rattle.std.proofs.Common.{◌∙◌, take, ap, sym, arith, Some}
use Rattle.pcapng_reader.specs.Texts.{section_of, ahead}
use Rattle.pcapng_reader.specs.Windows.{held_bytes}
use Rattle.pcapng_reader.specs.Classic.{number, add_interface}
use Rattle.pcapng_reader.proofs.Steps.{option-waits, options-over, options-last, steps-settled}
use Rattle.pcapng_reader.proofs.converter.Converter.options.Goals as goal

pub returns-then-body-lt4 : goal.returns-then-body-lt4
returns-then-body-lt4 c =
    let w = c.args.self.now in
    steps-settled w c.settle.new.self c.args.body c.args.found (add_interface (section_of w) (Some c.interface.result)) c.requires.stage
    (λ left. options-over (section_of w) (ahead w left) c.args.body c.args.found (omega arith)
    ∙ ap (λ i. add_interface (section_of w) (Some i)) (sym c.interface.ensures))
    c.settle.ensures.text c.settle.ensures.work c.settle.ensures.budget

pub returns-then-len-lt4 : goal.returns-then-len-lt4
returns-then-len-lt4 c =
    option-waits c.args.self.now c.wait.new.self c.wait.result c.args.body c.args.found c.wait.ensures c.requires.stage c.requires.given (omega arith)
    (omega arith)

pub returns-then-code-eq0 : goal.returns-then-code-eq0
returns-then-code-eq0 c =
    let w = c.args.self.now in
    let b = c.args.body in
    let code = sym (c.read_u16-code.ensures ∙ ap (number b.order 2 0) c.peek.ensures) in
    steps-settled w c.settle-then-code-eq0.new.self b c.args.found (add_interface (section_of w) (Some c.interface-then-code-eq0.result)) c.requires.stage
    (λ left. options-last (section_of w) (held_bytes w.window) (take w.budget left) b c.args.found (omega arith) (omega arith) (omega (arith, code))
    ∙ ap (λ i. add_interface (section_of w) (Some i)) (sym c.interface-then-code-eq0.ensures))
    c.settle-then-code-eq0.ensures.text c.settle-then-code-eq0.ensures.work c.settle-then-code-eq0.ensures.budget
