use Rattle.std.proofs.Common.{◌≡◌, ◌<◌, arith, length, rules, sym, subst}
use Rattle.std.proofs.lemmas.Grind.{common_steps}
use Rattle.std.proofs.lemmas.List.Elements.{All-push}
use Rattle.std.specs.Prelude.{All, Err}
use Rattle.pcapng_reader.specs.Classic.{classic_texts}
use Rattle.timing_steps.specs.Answers.{seen_of}
use Rattle.timing_top.specs.verify.Found.{IsChecked}
use Rattle.timing_steps.proofs.Seeing.{stays-then}
use Rattle.timing_top.proofs.lemmas.verify.Served.{needed-rose}
use Rattle.timing_top.proofs.verify.needs.check_each.Goals as goal

pub loop-claim-preserved : goal.loop-claim-preserved
loop-claim-preserved g c =
    let texts = classic_texts (g.H.Shelf.text c.args.shelf.now) in
    let lacks = g.H.Shelf.lacks c.args.shelf.now in
    let i = c.loop-claim.invariant in
    record {
      checked =
          subst (All (IsChecked texts lacks c.args.job.now c.args.media.now)) (sym c.in_ok-push.ensures.items)
          (All-push (IsChecked texts lacks c.args.job.now c.args.media.now) c.loop-claim.checked.items
          (record { claim = _; finding = c.in_ok-finding.finding }) i.checked
          (c.in_ok-finding.ensures.found c.args.shelf.now i.stays i.served));
      claims = grind (arith, common_steps, c.in_ok-push.ensures.items, i.claims);
      served = c.in_ok-finding.ensures.served c.args.shelf.now i.stays i.served;
      stays = stays-then g.H.Shelf.text g.H.Shelf.lacks g.H.Shelf.faults _ _ _ i.stays c.find.ensures.stays;
    }

pub returns-in_err-finding-clause-cause : goal.returns-in_err-finding-clause-cause
returns-in_err-finding-clause-cause g c =
    let failed : c.from_residual.result ≡ Err c.in_err-finding.field-0.0 = search rules in
    let within : c.loop-claim.claim-index < length c.args.claims.now = search rules in
    needed-rose (seen_of g.H.Shelf c.args.shelf.now c.find.new.shelf) (g.H.Shelf.faults c.loop-claim.shelf) c.args.job.now c.args.media.now
    c.args.claims.now c.loop-claim.claim-index _ c.in_err-finding.field-0.0 c.from_residual.result failed within
    c.loop-claim.invariant.stays.later c.in_err-finding.ensures.cause
