use Rattle.std.proofs.Common.{sym, subst}
use Rattle.std.proofs.lemmas.List.Elements.{All-contains}
use Rattle.std.specs.Prelude.{Contains}
use Rattle.pcapng_reader.specs.Classic.{classic_texts}
use Rattle.timing_top.specs.verify.Found.{IsServed}
use Rattle.timing_top.proofs.lemmas.verify.Served.{found-of, served-push, served-read}
use Rattle.timing_top.proofs.verify.needs.Claims.find_there.Goals as goal

pub returns-in-Some-clause-found : goal.returns-in-Some-clause-found
returns-in-Some-clause-found g c = λ m there first stays served.
    let texts = classic_texts (g.H.Shelf.text first) in
    let lacks = g.H.Shelf.lacks first in
    let all = c.args.self.now in
    let read = c.in-Some.read.now in
    let contains = subst (λ l. Contains l read) c.deref.ensures.value c.in-Some.ensures.there in
    found-of texts lacks all.job.now all.media.now all.list.now read c.args.claim.now m c.answer.result
    (All-contains (IsServed texts lacks all.job.now all.media.now all.list.now) c.args.reads.now.items read served contains) c.in-Some.ensures.file
    (λ text s. c.answer.ensures all.job.now all.media.now all.list.now text m s (sym c.in-Some.ensures.file) c.requires.reported there)

pub returns-clause-found : goal.returns-clause-found
returns-clause-found g c = λ m there first stays served.
    let all = c.args.self.now in
    let read = c.in_ok-read in
    found-of (classic_texts (g.H.Shelf.text first)) (g.H.Shelf.lacks first) all.job.now all.media.now all.list.now read.read c.args.claim.now m
    c.answer-finding.result
    (served-read g.H.Shelf.text g.H.Shelf.lacks g.H.Shelf.faults first c.args.shelf.now all.job.now all.media.now all.list.now _ read.read stays
    read.ensures.file read.ensures.tells.there read.ensures.tells.told)
    read.ensures.file
    (λ text s. c.answer-finding.ensures all.job.now all.media.now all.list.now text m s (sym read.ensures.file) c.requires.reported there)

pub returns-clause-served : goal.returns-clause-served
returns-clause-served g c = λ first stays served.
    let all = c.args.self.now in
    let read = c.in_ok-read in
    served-push (classic_texts (g.H.Shelf.text first)) (g.H.Shelf.lacks first) all.job.now all.media.now all.list.now c.args.reads.now.items
    c.push.new.self.items read.read c.in_ok-push.ensures.items served
    (served-read g.H.Shelf.text g.H.Shelf.lacks g.H.Shelf.faults first c.args.shelf.now all.job.now all.media.now all.list.now _ read.read stays
    read.ensures.file read.ensures.tells.there read.ensures.tells.told)
