use Rattle.std.proofs.Common.{◌≡◌, List, [], ◌∷◌, ◌++◌, sym, ap, ◌∙◌, subst}
use Rattle.ruled_intake.specs.Lanes.{messages}
use Rattle.ruled_intake.specs.declared.message.Message.{Message}
use Rattle.flow_worker.specs.Opening.{Setting}
use Rattle.flow_worker.specs.Settings.{setting_of}
use Rattle.flow_worker.specs.Standing.{StandsFor}
use Rattle.flow_worker.proofs.TakerPasses.{judged_if, taken-few, taken-more}
use Rattle.flow_worker.proofs.workers.judged.Goals as goal

pub take-requires : goal.take-requires
take-requires g c =
    let s : Setting = setting_of c.args.run.now in
    let old = c.args.pass.now in
    let none : messages old.taken ≡ [] = ap messages c.requires.pass.1 in
    record {
      few = (
        s,
        c.args.run.now.files,
        c.args.worker,
        messages old.taken,
        subst (λ (l : List Message). StandsFor s c.args.run.now.files c.args.worker l c.in_ok-judging.judging) (sym none) c.in_ok-judging.ensures.stands,
        taken-few old c.next_message.new.pass c.in_ok-first.first c.in_ok-first.ensures.taken c.in_ok-first.ensures.few,
      );
    }

pub take_all-requires-clause-stands : goal.take_all-requires-clause-stands
take_all-requires-clause-stands g c =
    let s : Setting = setting_of c.args.run.now in
    let old = c.args.pass.now in
    let new = c.next_message.new.pass in
    let first = c.in_ok-first.first in
    let none : messages old.taken ≡ [] = ap messages c.requires.pass.1 in
    let took : messages new.taken ≡ [] ++ first ∷ [] = taken-more old new first c.in_ok-first.ensures.taken ∙ ap (λ (l : List Message). l ++ first ∷ []) none
    in (
      s,
      c.args.run.now.files,
      c.args.worker,
      subst (λ (l : List Message). StandsFor s c.args.run.now.files c.args.worker l c.take.new.self) (sym took)
          (c.in_ok-take.ensures.stands s c.args.run.now.files c.args.worker [] c.in_ok-judging.ensures.stands),
    )

pub returns-clause-receipts : goal.returns-clause-receipts
returns-clause-receipts g c =
    let s : Setting = setting_of c.args.run.now in
    let old = c.args.pass.now in
    let new = c.next_message.new.pass in
    let first = c.in_ok-first.first in
    let none : messages old.taken ≡ [] = ap messages c.requires.pass.1 in
    let took : messages new.taken ≡ [] ++ first ∷ [] = taken-more old new first c.in_ok-first.ensures.taken ∙ ap (λ (l : List Message). l ++ first ∷ []) none in
    let began = subst (λ (l : List Message). StandsFor s c.args.run.now.files c.args.worker l c.take.new.self) (sym took)
    (c.in_ok-take.ensures.stands s c.args.run.now.files c.args.worker [] c.in_ok-judging.ensures.stands) in
    let all = c.in_ok-take_all.ensures.stands s c.args.run.now.files c.args.worker began in
    judged_if c.post.result s c.args.run.now.files c.args.worker c.take_all.new.pass c.args.book.now c.take_all.new.judging all.0 all.1 c.post.ensures.posted
    c.post.ensures.rows
