use Rattle.std.proofs.Common.{refl, ◌≤◌, ◌<◌, ◌∙◌, ◌-◌, ◌++◌, length, take, ap, sym, arith, length-append, length-drop}
use Rattle.pcapng_reader.specs.Texts.{section_of, ahead, whole}
use Rattle.pcapng_reader.specs.Windows.{kept_bytes, held_bytes}
use Rattle.pcapng_reader.specs.Stages.{rank}
use Rattle.pcapng_reader.specs.declared.stage.Body.{Body}
use Rattle.pcapng_reader.specs.Converting.{content_given, after}
use Rattle.pcapng_reader.proofs.Blocks.{after-short, after-passes}
use Rattle.pcapng_reader.proofs.Texts.{text-at_passing}
use Rattle.pcapng_reader.proofs.Steps.{steps-waits, ahead_end, text-passed, kept_few}
use Rattle.pcapng_reader.proofs.converter.Converter.pass.Goals as goal

pub returns-then-held-eq0 : goal.returns-then-held-eq0
returns-then-held-eq0 c =
    let w = c.args.self.now in
    let h = held_bytes w.window in
    let b = c.args.body in
    let few = kept_few w.window in
    steps-waits w c.wait.new.self c.wait.result c.wait.ensures (omega (arith, few)) (omega (arith, ap rank c.requires))
    (λ left z.
    text-at_passing w.stage (section_of w) (kept_bytes w.window) (ahead w left) (whole w left) b c.args.content c.requires
    ∙ ap (λ a. after b a (content_given c.args.content b.order (kept_bytes w.window) (section_of w))) (ahead_end h w.budget left z)
    ∙ after-short b h (content_given c.args.content b.order (kept_bytes w.window) (section_of w)) (omega arith))

pub returns : goal.returns
returns c =
    let w = c.args.self.now in
    let h = held_bytes w.window in
    let g = held_bytes c.pass.new.self in
    let b = c.args.body in
    let s = section_of w in
    let n = c.min-count.result in
    let len : n ≤ length h = omega arith in
    let within : n ≤ b.left = omega arith in
    let some : 0 < n = omega arith in
    let next : Body = record { order = b.order; total = b.total; left = b.left - n } in
    record {
      text = λ left.
          let r = take w.budget left in
          let given = content_given c.args.content b.order (kept_bytes w.window) s in
          text-passed _ s (kept_bytes w.window) (kept_bytes c.pass.new.self) h g r (g ++ left) n next c.args.content refl c.pass.ensures.kept
          c.pass.ensures.held len
          ∙ sym (text-at_passing w.stage s (kept_bytes w.window) (h ++ r) (whole w left) b c.args.content c.requires
          ∙ after-passes b n (h ++ r) given within (omega (arith, length-append h r)));
      tells = omega (arith, some, len, ap rank c.requires, ap length c.pass.ensures.kept, ap length c.pass.ensures.held, length-drop n h);
      budget = refl;
    }
