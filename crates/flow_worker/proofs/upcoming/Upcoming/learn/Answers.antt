use Rattle.std.proofs.Common.{◌≡◌, subst, sym}
use Rattle.std.specs.Prelude.{Some}
use Rattle.flow_worker.specs.Targeted.{media_to}
use Rattle.flow_worker.proofs.Expecting.{expected-put}
use Rattle.flow_worker.proofs.upcoming.Upcoming.learn.Goals as goal

pub returns : goal.returns
returns c = record {
  expected = λ all is h. expected-put all c.follow.new.self.each c.args.media _
      (λ t p e. subst (λ s. media_to s 0 all ≡ Some c.args.media) (sym (c.after.ensures t p e)) is) (c.follow.ensures.expected all h);
}
