use Rattle.std.proofs.Common.{◌≤◌, ◌∙◌, ◌++◌, length, take, ap, sym, arith, length-append, length-drop}
use Rattle.pcapng_reader.specs.Texts.{section_of, ahead, whole}
use Rattle.pcapng_reader.specs.Windows.{kept_bytes, held_bytes}
use Rattle.pcapng_reader.specs.Stages.{rank}
use Rattle.pcapng_reader.specs.Classic.{blocks, go_on}
use Rattle.pcapng_reader.specs.Converting.{content_given, after}
use Rattle.pcapng_reader.proofs.Blocks.{after-short, after-end}
use Rattle.pcapng_reader.proofs.Texts.{text-at_passing}
use Rattle.pcapng_reader.proofs.Steps.{closing-number, steps-unclosed, steps-waits, ahead_end, ahead_pass, kept_few}
use Rattle.pcapng_reader.proofs.converter.Converter.close.Goals as goal

pub returns-then-len-lt4 : goal.returns-then-len-lt4
returns-then-len-lt4 c =
    let w = c.args.self.now in
    let h = held_bytes w.window in
    let b = c.args.body in
    let few = kept_few w.window in
    steps-waits w c.wait.new.self c.wait.result c.wait.ensures (omega (arith, few)) (omega (arith, ap rank c.requires.stage))
    (λ left z.
    text-at_passing w.stage (section_of w) (kept_bytes w.window) (ahead w left) (whole w left) b c.args.content c.requires.stage
    ∙ ap (λ a. after b a (content_given c.args.content b.order (kept_bytes w.window) (section_of w))) (ahead_end h w.budget left z)
    ∙ after-short b h (content_given c.args.content b.order (kept_bytes w.window) (section_of w)) (omega arith))

pub returns-then-read_u32-body : goal.returns-then-read_u32-body
returns-then-read_u32-body c =
    let w = c.args.self.now in
    let h = held_bytes w.window in
    let g = held_bytes c.pass.new.self in
    let b = c.args.body in
    let x = c.args.content in
    let s = section_of w in
    let len : 4 ≤ length h = omega arith in
    record {
      text = λ left.
          let r = take w.budget left in
          let a = h ++ r in
          let given = content_given x b.order (kept_bytes w.window) s in
          c.finish.ensures.text left
          ∙ ap (λ k. go_on (λ next. blocks next (g ++ r)) (content_given x b.order k s)) c.pass.ensures.kept
          ∙ ap (λ y. go_on (λ next. blocks next y) given) (ahead_pass 4 h g r c.pass.ensures.held len)
          ∙ sym (text-at_passing w.stage s (kept_bytes w.window) a (whole w left) b x c.requires.stage
          ∙ after-end b a given c.requires.left (omega (arith, length-append h r))
          (closing-number b c.read_u32.result _ h r c.read_u32.ensures c.peek.ensures len ∙ c.if-read_u32-body.true));
      tells = omega (arith, c.finish.ensures.work, ap rank c.requires.stage, ap length c.pass.ensures.kept, ap length c.pass.ensures.held, length-drop 4 h);
      budget = c.finish.ensures.budget;
    }

pub returns-else-read_u32-body : goal.returns-else-read_u32-body
returns-else-read_u32-body c =
    steps-unclosed c.args.self.now c.end.new.self c.args.body c.args.content c.read_u32.result _ c.requires.stage c.requires.left (omega arith)
    c.read_u32.ensures c.peek.ensures c.if-read_u32-body.false c.end.ensures.text c.end.ensures.work c.end.ensures.budget
