use Rattle.std.proofs.Common.{◌≡◌, [], subst, true}
use Rattle.timing_base.specs.Captures.{joined}
use Rattle.timing_measure.proofs.Taken.{flows-end}
use Rattle.timing_explain.specs.Captures.{known_of}
use Rattle.timing_explain.specs.Ends.{EndsKnown, PairStandsFor, TellsPair}
use Rattle.timing_explain.specs.Known.{IsKnownFlow}
use Rattle.timing_explain.proofs.Known.{known-is}
use Rattle.timing_explain.proofs.captures.read_captures.Goals as goal

pub returns-clause-told : goal.returns-clause-told
returns-clause-told g c = λ texts whole.
    let taken = c.in_ok-taken.ensures.told texts whole in
    record {
      files = taken.files;
      records = taken.records;
      are = flows-end true PairStandsFor TellsPair (tt, tt) EndsKnown IsKnownFlow c.args.job.now.options c.args.first c.args.media.now (joined taken.files)
          c.in_ok-taken.taken.flows.items c.in_ok-flows.flows.items (λ f e ends m number packets h. ends m number c.args.job.now.options packets h)
          taken.are c.in_ok-flows.ensures;
      known_is = known-is c.args.job.now.options.seq16 (joined taken.files) c.in_ok-found.found c.in_ok-taken.taken.beside.second c.known_of.result
          (subst (λ q. c.known_of.result ≡ known_of c.in_ok-found.found c.in_ok-taken.taken.beside.second q) c.seq16_of.ensures c.known_of.ensures)
          (c.in_ok-found.ensures (joined taken.files) (taken.beside.0 [] c.new.ensures.stands))
          (taken.beside.1 [] c.new-2.ensures);
    }

pub returns-clause-some : goal.returns-clause-some
returns-clause-some g c =
    let taken = c.in_ok-taken.ensures.some in
    record {
      items = taken.items;
      are = flows-end true PairStandsFor TellsPair (tt, tt) EndsKnown IsKnownFlow c.args.job.now.options c.args.first c.args.media.now taken.items
          c.in_ok-taken.taken.flows.items c.in_ok-flows.flows.items (λ f e ends m number packets h. ends m number c.args.job.now.options packets h)
          taken.are c.in_ok-flows.ensures;
    }
