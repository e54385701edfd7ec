use Rattle.std.proofs.Common.{◌≡◌, ◌+◌, ◌-◌, ◌∷◌, [], ◌++◌, length, refl, ◌∙◌, arith, length-append}
use Rattle.sender_params.specs.Limits.{vrx_full_of}
use Rattle.offset_window.specs.Moves.{IsLowerBy, IsUpperBy}
use Rattle.offset_window.specs.Parts.{comes_after, comes_before}
use Rattle.offset_window.specs.Quiets.{early_of, late_of}
use Rattle.offset_window.proofs.Fed.{full-is, grid-same, lower-fed, upper-fed}
use Rattle.offset_window.proofs.Quiets.{lower-quiet, quiet-after, quiet-before, quiet-next, upper-quiet}
use Rattle.offset_window.proofs.meter.WindowMeter.feed.Goals as goal

pub invariant_of-self : goal.invariant_of-self
invariant_of-self c =
    let v = c.args.self.now in
    let g = c.go_on.ensures in
    record {
      few = omega (arith, c.requires.few);
      quiet_is = λ more. quiet-next v.grid (late_of v.lower) (early_of v.upper) v.seen v.quiet c.go_on.new.self
          (v.quiet_is (c.has.ensures c.if-has.true).lasts) (omega (arith, more, g.until)) g.until g.front g.step g.width g.back;
    }

pub returns-then-has-clause-stands : goal.returns-then-has-clause-stands
returns-then-has-clause-stands c = λ kind anchor stamps s.
    let p = c.args.params.now in
    let v = c.args.self.now in
    let q = v.quiet in
    let here = c.has.ensures c.if-has.true in
    let quiet = v.quiet_is here.lasts in
    let long : length (stamps ++ c.args.at ∷ []) ≡ length stamps + 1 = length-append stamps (c.args.at ∷ []) in
    let full : q.back ≡ vrx_full_of p.media p.n kind = s.back here.lasts in
    let after = comes_after v.grid v.seen c.args.at in
    let before = comes_before v.grid (v.seen - q.back) c.args.at in
    record {
      kind_is = s.kind_is;
      seen = omega (arith, s.seen, long);
      grid = s.grid;
      back = λ _. c.go_on.ensures.back ∙ full;
      lower = lower-fed p.media p.n anchor stamps c.args.at kind v.grid v.seen v.seen v.lower v.lower s.grid s.seen s.seen s.lower
          (lower-quiet (IsLowerBy after v.seen) after v.lower (quiet-after v.grid (late_of v.lower) (early_of v.upper) v.seen c.args.at q quiet here));
      upper = upper-fed p.media p.n anchor stamps c.args.at kind v.grid (v.seen - q.back) v.seen q.back v.upper v.upper
          p.media_is p.n_some s.grid full (omega (arith, s.seen, full)) s.seen s.upper (λ _. refl)
          (λ _. upper-quiet (IsUpperBy before v.seen) before v.upper
          (quiet-before v.grid (late_of v.lower) (early_of v.upper) v.seen c.args.at q quiet here));
    }

pub returns-else-has-clause-stands : goal.returns-else-has-clause-stands
returns-else-has-clause-stands c = λ kind anchor stamps s.
    let p = c.args.params.now in
    let v = c.args.self.now in
    let f = c.measure.ensures in
    let new = c.measure.new.self in
    let long : length (stamps ++ c.args.at ∷ []) ≡ length stamps + 1 = length-append stamps (c.args.at ∷ []) in
    let full = full-is p.media p.n v.kind kind c.vrx_full.result s.kind_is c.vrx_full.ensures in
    record {
      kind_is = f.kind ∙ s.kind_is;
      seen = omega (arith, f.seen, s.seen, long);
      grid = grid-same p.media p.n anchor _ _ v.grid new.grid refl f.grid s.grid;
      back = λ more. f.back more ∙ full;
      lower = lower-fed p.media p.n anchor stamps c.args.at kind v.grid v.seen v.seen v.lower new.lower s.grid s.seen s.seen s.lower f.lower;
      upper = upper-fed p.media p.n anchor stamps c.args.at kind v.grid (v.seen - c.vrx_full.result) v.seen c.vrx_full.result v.upper new.upper
          p.media_is p.n_some s.grid full (omega (arith, s.seen, full)) s.seen s.upper (λ few. f.room (omega (arith, few)))
          (λ more. f.moves (omega (arith, more)));
    }
