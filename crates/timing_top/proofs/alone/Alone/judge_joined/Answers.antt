use Rattle.std.proofs.Common.{rules, []}
use Rattle.timing_top.proofs.Takings.{found-joined, rows-alone, rows-of_session}
use Rattle.timing_top.proofs.alone.Alone.judge_joined.Goals as goal

pub returns-clause-judged : goal.returns-clause-judged
returns-clause-judged g c = record {
  told = λ names texts fetched told.
      found-joined texts c.args.self.now.media.now c.args.self.now.options c.in-Ok.bank c.take_sources.new.taker c.in_ok-taken.taken c.finish.new.rows.items
      (c.in_ok-taken.ensures.told names texts fetched told) c.in-Ok.ensures.stands
      (λ items stands. rows-alone c.args.self.now.options c.args.self.now.media.now items c.new-rows.result.items c.finish.new.rows.items
      c.new-rows.ensures.items
      (c.in_ok-finish.ensures.rows c.args.self.now.media.now 0 c.args.self.now.options items stands));
  count = c.in_ok-taken.ensures.count;
  of_session =
      let fed = c.in_ok-taken.ensures.fed in
      rows-of_session c.args.self.now.options 0 c.args.self.now.media.now fed.items c.new-rows.result.items c.finish.new.rows.items
      (c.in_ok-finish.ensures.rows c.args.self.now.media.now 0 c.args.self.now.options fed.items
      (fed.taken c.args.self.now.media.now 0 c.args.self.now.options [] c.in-Ok.ensures.stands)) (search rules);
  cause = λ names fetched. tt;
}
