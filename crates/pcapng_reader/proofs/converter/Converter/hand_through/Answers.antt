use Rattle.std.proofs.Common.{refl, ◌≡◌, ◌<◌, ◌∙◌, [], ◌++◌, length, take, ap, arith, length-append}
use Rattle.pcapng_reader.specs.Texts.{section_of, ahead}
use Rattle.pcapng_reader.specs.Windows.{kept_bytes, held_bytes}
use Rattle.pcapng_reader.proofs.Texts.{text-at_through, text-handed_on}
use Rattle.std.proofs.lemmas.List.{nil_from_length}
use Rattle.pcapng_reader.proofs.converter.Converter.hand_through.Goals as goal

pub returns-then-len-eq0 : goal.returns-then-len-eq0
returns-then-len-eq0 c =
    let w = c.args.self.now in
    let h = held_bytes w.window in
    let none : h ≡ [] = nil_from_length h (omega arith) in
    record {
      text = λ left. refl;
      tells = λ left.
          text-at_through w.stage (section_of w) (kept_bytes w.window) (ahead w left) (h ++ left) c.requires.stage ∙ ap (λ k. k ++ (h ++ left)) c.requires.given
          ∙ ap (λ l. l ++ left) none;
      budget = refl;
    }

pub returns : goal.returns
returns c =
    let w = c.args.self.now in
    let h = held_bytes w.window in
    let k = kept_bytes c.keep_front.new.self in
    let g = held_bytes c.keep_front.new.self in
    let some : 0 < length h = omega arith in
    let kept = c.keep_front.ensures.some some in
    record {
      text = λ left.
          text-handed_on w.stage (section_of w) (kept_bytes w.window) h k g left (ahead w left) (g ++ take w.budget left) c.requires.stage c.requires.given
          c.keep_front.ensures.held;
      tells = omega (arith, kept, ap length c.keep_front.ensures.held, length-append k g);
      budget = refl;
    }
