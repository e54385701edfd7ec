use Rattle.std.proofs.Common.{refl, ◌++◌, length, take, ap, arith, length-drop}
use Rattle.pcapng_reader.specs.Texts.{section_of, whole}
use Rattle.pcapng_reader.specs.Windows.{kept_bytes, held_bytes}
use Rattle.pcapng_reader.proofs.Steps.{text-put}
use Rattle.pcapng_reader.proofs.converter.Converter.put_record.Goals as goal

pub returns-clause-puts : goal.returns-clause-puts
returns-clause-puts c =
    let w = c.args.self.now in
    let h = held_bytes w.window in
    let g = held_bytes c.give_record.new.self in
    record {
      fills = record {
        same_length = c.give_record.ensures.len;
        least = omega arith;
        most = omega (arith, c.requires.room, c.give_record.ensures.len);
        text = λ left.
            text-put w.stage (section_of w) (kept_bytes w.window) (kept_bytes c.give_record.new.self) h g (take w.budget left) (whole w left) (g ++ left)
            c.args.packet c.args.at _ c.args.out.now _ _ c.requires.stage c.requires.given c.requires.whole c.give_record.ensures.kept
            c.give_record.ensures.held c.record_head.ensures c.give_record.ensures.given;
        stage = refl;
        budget = refl;
        work = omega (
          arith,
          ap length c.give_record.ensures.kept,
          ap length c.give_record.ensures.held,
          length-drop c.args.packet.total h,
        );
      };
      order = refl;
      kept = c.give_record.ensures.kept;
    }

pub returns-clause-less : goal.returns-clause-less
returns-clause-less c =
    let h = held_bytes c.args.self.now.window in
    omega (
      arith,
      c.requires.whole.within,
      c.requires.whole.fits.2,
      ap length c.give_record.ensures.kept,
      ap length c.give_record.ensures.held,
      length-drop c.args.packet.total h,
    )

pub record_head-requires : goal.record_head-requires
record_head-requires c = omega (arith, c.requires.whole.fits.0)

pub give_record-requires-clause-held : goal.give_record-requires-clause-held
give_record-requires-clause-held c = c.requires.whole.within

pub give_record-requires-clause-data : goal.give_record-requires-clause-data
give_record-requires-clause-data c = omega (arith, c.requires.whole.fits.2)
