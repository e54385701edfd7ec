use Rattle.std.proofs.Common.{◌^◌, [], List, rules, sym, subst, take_all}
use Rattle.std.specs.Prelude.{All}
use Rattle.timing_base.specs.Media.{Media}
use Rattle.interval_checker.specs.Readings.{HaveRead, HaveRoom}
use Rattle.interval_checker.specs.declared.asked.Asked.{Asked}
use Rattle.interval_checker.specs.declared.reading.Reading.{Reading}
use Rattle.timing_top.specs.verify.Found.{AreAsked, Asks}
use Rattle.timing_top.proofs.lemmas.verify.Served.{asked-more, none-more, room-more}
use Rattle.timing_top.proofs.verify.asks.readings_of.Goals as goal

pub loop-number-init : goal.loop-number-init
loop-number-init c = record {
  asked = subst (λ (l : List Reading). AreAsked c.args.options c.args.claims.now c.args.file 0 [] l) (sym c.new-readings.ensures.items) tt;
  none = subst (λ (l : List Reading). HaveRead l []) (sym c.new-readings.ensures.items) tt;
  room = subst (HaveRoom (2 ^ 40)) (sym c.new-readings.ensures.items) tt;
}

pub loop-number-preserved : goal.loop-number-preserved
loop-number-preserved c = record {
  asked = asked-more c.args.options c.args.claims.now c.args.file c.loop-number.number c.args.media.now c.loop-number.readings.items c.push.new.self.items
      c.index-media-number.result c.new.result (search rules) (sym c.index-media-number.is) c.loop-number.invariant.asked
      record {
        media = c.new.ensures.media;
        options_are = c.new.ensures.options;
        asks = subst (λ (a : Asked). All (Asks a c.args.file c.loop-number.number) c.args.claims.now) (sym c.new.ensures.asked) c.in_ok-asked.ensures;
      } c.in_ok-push.ensures.items;
  none = none-more c.loop-number.readings.items c.push.new.self.items c.new.result c.in_ok-push.ensures.items c.loop-number.invariant.none
      c.new.ensures.read;
  room = room-more c.loop-number.readings.items c.push.new.self.items c.new.result c.in_ok-push.ensures.items c.loop-number.invariant.room
      c.new.ensures.none;
}

pub returns-clause-asked : goal.returns-clause-asked
returns-clause-asked c =
    subst (λ (l : List Media). AreAsked c.args.options c.args.claims.now c.args.file 0 l c.loop-number.readings.items)
    (take_all c.loop-number.number c.args.media.now c.loop-number-test.false) c.loop-number.invariant.asked

pub returns-clause-none : goal.returns-clause-none
returns-clause-none c = c.loop-number.invariant.none

pub returns-clause-room : goal.returns-clause-room
returns-clause-room c = c.loop-number.invariant.room
