use Rattle.std.proofs.Common.{◌≡◌, ◌≤◌, ◌*◌, ap, arith, subst}
use Rattle.std.proofs.Math.Nat.{mul-le-mul_right}
use Rattle.timing_base.specs.Media.{IsMedia}
use Rattle.sender_params.specs.Times.{groups_of}
use Rattle.sender_params.proofs.Anchors.{group_time-most}
use Rattle.sender_params.proofs.Parts.{groups-most}
use Rattle.sender_params.proofs.Floors.{within-part, within-troff}
use Rattle.sender_params.proofs.rules.offset.Goals as goal

pub returns-in-Some-clause-within : goal.returns-in-Some-clause-within
returns-in-Some-clause-within c =
    let m = c.args.media.now in
    let is : IsMedia m = subst IsMedia c.media.view_is c.media.invariant in
    let most : c.in-Some.micros ≤ 1000000 = c.media.invariant.troff_most c.in-Some.micros c.in-Some.is in
    omega (arith, within-troff c.from.result (groups_of m * m.p) (m.q) (omega (arith, most)) (group_time-most m is))

pub returns-in-None-clause-within : goal.returns-in-None-clause-within
returns-in-None-clause-within c =
    let m = c.args.media.now in
    let a = c.offset_share-share.result.num in
    let b = c.offset_share-share.result.den in
    let few : a * groups_of m ≤ 43 * groups_of m = mul-le-mul_right (groups_of m) c.offset_share-share.ensures.num_most in
    let part : a * groups_of m ≤ 480 * b = omega (arith, few, groups-most m) in
    let all = within-part a b (groups_of m) (m.p) (m.q * 1000000000) part in
    let p : c.media.inside.p ≡ m.p = ap (λ x. x.p) c.media.view_is in
    let q : c.media.inside.q ≡ m.q = ap (λ x. x.q) c.media.view_is in
    rw (c.from-in-None.ensures, c.from-in-None-2.ensures, p, q) all
