use Rattle.std.proofs.Common.{◌≡◌, sym, ◌∙◌}
use Rattle.flow_shaper.proofs.Fed.{bound-next, never-order, none_in_time, stands-next}
use Rattle.flow_shaper.proofs.shaper.Shaper.feed.Goals as goal

pub returns-then-departure-self-clause-late : goal.returns-then-departure-self-clause-late
returns-then-departure-self-clause-late c = λ arrivals departures st can late is.
    let e = c.next-departure.ensures in
    let named : c.args.self.now.seen ≡ late.packet = cc in (
      sym named ∙ st.seen,
      none_in_time c.args.params.now c.args.self.now arrivals departures c.args.at c.next-departure.result st can c.requires.in_time
          (record { first = e.first; later = e.later }) c.if-departure-self.true,
    )

pub returns-clause-bound : goal.returns-clause-bound
returns-clause-bound c = λ arrivals departures st can.
    let e = c.next-departure.ensures in
    bound-next c.args.params.now c.args.self.now arrivals departures c.args.at c.next-departure.result st can
    (record { first = e.first; later = e.later }) c.if-departure-self.false

pub returns-clause-order : goal.returns-clause-order
returns-clause-order c = λ arrivals departures st can.
    let e = c.next-departure.ensures in
    never-order c.args.params.now c.args.self.now arrivals departures c.args.at c.next-departure.result st can
    (record { first = e.first; later = e.later })

pub returns-clause-stands : goal.returns-clause-stands
returns-clause-stands c = λ arrivals departures st can.
    let e = c.next-departure.ensures in
    let p = c.pass.ensures in
    stands-next c.args.params.now c.args.self.now c.pass.new.self arrivals departures c.args.at c.next-departure.result st can c.requires.in_time
    (record { first = e.first; later = e.later }) c.if-departure-self.false
    (record { kind = p.kind; n0 = p.n0; origin = p.origin; end = p.end; seen = p.seen; late = p.late; first = p.first; later = p.later })
