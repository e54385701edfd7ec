use Rattle.std.proofs.Common.{refl, ◌≡◌, ◌≤◌, ◌⊎◌, inl, inr, ◌∙◌, [], ◌++◌, length, take, ap, sym, arith, length-append}
use Rattle.pcapng_reader.specs.Texts.{section_of}
use Rattle.pcapng_reader.specs.Windows.{kept_bytes, held_bytes}
use Rattle.pcapng_reader.specs.Stages.{is_start, rank}
use Rattle.pcapng_reader.specs.Described.{list_of}
use Rattle.pcapng_reader.specs.Classic.{begins_section}
use Rattle.pcapng_reader.proofs.Texts.{text-begun, text-handed}
use Rattle.pcapng_reader.proofs.converter.Converter.begin.Goals.{else-len-lt4-via-then-len-lt4+else-self-gt0, else-len-lt4-via-else-len-lt4}
use Rattle.pcapng_reader.proofs.converter.Converter.begin.Goals as goal

pub returns-then-begins_section : goal.returns-then-begins_section
returns-then-begins_section c =
    let w = c.args.self.now in
    let h = held_bytes w.window in
    record {
      text = λ left.
          text-begun w.stage (section_of w) (kept_bytes w.window) h (take w.budget left) (h ++ left) (list_of c.clear.new.self) c.requires
          (ap begins_section (sym c.peek.ensures) ∙ sym c.begins_section.ensures ∙ c.if-begins_section.true) (w.begins (ap is_start c.requires))
          c.clear.ensures;
      tells = omega (arith, ap rank c.requires);
      budget = refl;
    }

pub returns-else-begins_section : goal.returns-else-begins_section
returns-else-begins_section c =
    let w = c.args.self.now in
    let h = held_bytes w.window in
    let k = kept_bytes c.keep_front.new.self in
    let g = held_bytes c.keep_front.new.self in
    record {
      text = λ left.
          let known : (4 ≤ length h) ⊎ (take w.budget left ≡ []) =
          elim c.else-len-lt4.branch [
            | else-len-lt4-via-then-len-lt4+else-self-gt0 v ↦ inr (let z : w.budget ≡ 0 = omega arith in ap (λ n. take n left) z)
            | else-len-lt4-via-else-len-lt4 v ↦ inl (omega arith)
          ] in
          text-handed w.stage (section_of w) (kept_bytes w.window) h k g (take w.budget left) left (g ++ take w.budget left) c.requires
          (ap begins_section (sym c.peek.ensures) ∙ sym c.begins_section.ensures ∙ c.if-begins_section.false) known c.keep_front.ensures.held;
      tells = omega (arith, ap rank c.requires, ap length c.keep_front.ensures.held, length-append k g);
      budget = refl;
    }
