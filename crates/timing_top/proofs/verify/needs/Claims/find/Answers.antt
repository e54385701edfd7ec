use Rattle.std.proofs.Common.{◌≡◌, Some, None, rules, sym}
use Rattle.pcapng_reader.specs.Classic.{classic_texts}
use Rattle.timing_steps.proofs.Readings.{if_ok-map}
use Rattle.timing_top.specs.verify.Asked.{media_for}
use Rattle.timing_top.specs.verify.Found.{IsChecked, IsFound}
use Rattle.timing_top.proofs.lemmas.verify.Served.{checked-none, checked-there, media-there}
use Rattle.timing_top.proofs.verify.needs.Claims.find.Goals as goal

pub returns-in-Some-clause-found : goal.returns-in-Some-clause-found
returns-in-Some-clause-found g c = λ first stays served.
    let claim = c.args.claim.now in
    let job = c.args.self.now.job.now in
    let media = c.args.self.now.media.now in
    let texts = classic_texts (g.H.Shelf.text first) in
    let lacks = g.H.Shelf.lacks first in
    let m = c.in-Some.field-0.now in
    let there : media_for job media claim.key ≡ Some m = sym c.in-Some.ensures in
    if_ok-map c.find_there.result (IsFound texts lacks job m claim) (λ finding. IsChecked texts lacks job media record { claim = claim; finding = finding })
    (λ finding is. checked-there texts lacks job media claim m finding there is)
    (c.find_there.ensures.found m (media-there job media claim.key m there) first stays served)

pub returns-in-None-clause-found : goal.returns-in-None-clause-found
returns-in-None-clause-found g c = λ first stays served.
    let job = c.args.self.now.job.now in
    let media = c.args.self.now.media.now in
    let none : media_for job media c.args.claim.now.key ≡ None = search rules in
    checked-none (classic_texts (g.H.Shelf.text first)) (g.H.Shelf.lacks first) job media c.args.claim.now none

pub returns-in-None-clause-served : goal.returns-in-None-clause-served
returns-in-None-clause-served g c = λ first stays served. served
