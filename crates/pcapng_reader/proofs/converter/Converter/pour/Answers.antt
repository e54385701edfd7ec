use Rattle.std.proofs.Common.{refl, rules, ◌≡◌, ◌≤◌, ◌∙◌, ◌-◌, ◌++◌, length, take, ap, sym, arith, length-append, true}
use Rattle.pcapng_reader.specs.Texts.{section_of, ahead, whole}
use Rattle.pcapng_reader.specs.Windows.{kept_bytes}
use Rattle.pcapng_reader.specs.Stages.{is_due}
use Rattle.pcapng_reader.proofs.Steps.{text-poured, front-written}
use Rattle.std.proofs.lemmas.List.{places, nil_from_length, length-take-le}
use Rattle.pcapng_reader.proofs.converter.Converter.pour.Goals as goal

pub returns : goal.returns
returns c =
    let w = c.args.self.now in
    let out = c.args.out.now in
    let o = c.give.new.out in
    let n = c.give.result in
    let at = c.args.at in
    let due : is_due w.stage ≡ true = sym c.is_due.ensures ∙ c.if-not-is_due.false in
    let long : length o ≡ length out - at = c.give.ensures.len ∙ search (rules, places) in
    let fits : n ≤ length o = omega (arith, long, c.give.ensures.count) in
    let split = ap length c.give.ensures.bytes in
    let total = length-append (take n o) (kept_bytes c.give.new.self) in
    let part = length-take-le n o fits in
    record {
      fills = record {
        same_length = search (rules, places);
        least = omega arith;
        most = omega arith;
        text = λ left.
            text-poured w.stage (section_of w) (kept_bytes w.window) (kept_bytes c.give.new.self) o out _ (ahead w left) _ (whole w left) _ at n due
            c.give.ensures.bytes
            (ap (λ h. h ++ take w.budget left) c.give.ensures.held) (ap (λ h. h ++ left) c.give.ensures.held)
            (front-written at n out o _ c.requires fits);
        stage = refl;
        budget = refl;
        work = omega (arith, split, total, part, ap length c.give.ensures.held);
      };
      given = λ l d. nil_from_length (kept_bytes c.give.new.self) (omega (arith, split, total, part, c.give.ensures.count, long));
    }
