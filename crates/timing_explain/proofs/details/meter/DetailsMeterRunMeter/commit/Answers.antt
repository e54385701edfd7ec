use Rattle.std.proofs.Common.{[], append-nil, sym}
use Rattle.timing_explain.proofs.Found.{detailed-kept}
use Rattle.timing_explain.proofs.details.meter.DetailsMeterRunMeter.commit.Goals as goal

pub returns-clause-stands : goal.returns-clause-stands
returns-clause-stands c = λ shift r fed committed size whole h.
    let s = c.args.self.now in
    record {
      run_is = h.run_is;
      rest = [];
      whole = sym (append-nil fed);
      all_are = h.all_are;
      committed_are = detailed-kept c.args._params.now.media r.n shift s.committed s.all c.keep.new.self fed committed h.rest h.whole
          c.keep.ensures.details h.committed_are h.all_are;
    }
