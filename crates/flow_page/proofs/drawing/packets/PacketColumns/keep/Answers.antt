use Rattle.std.proofs.Common.{◌≡◌, ◌≤◌, ◌+◌, ◌++◌, true, false, length, arith, length-append}
use Rattle.flow_page.proofs.lemmas.drawing.Keeping.{buckets-before, occupancies-before}
use Rattle.flow_page.proofs.drawing.packets.PacketColumns.keep.Goals as goal

pub returns-clause-draws : goal.returns-clause-draws
returns-clause-draws c = λ m n stamps more h k.
    let s = c.args.self.now in
    let o = c.args.other.now in
    let long : length (stamps ++ more) ≡ length stamps + length more = length-append stamps more in
    let rises : s.seen ≤ o.seen = omega (arith, h.seen_is, k.seen_is, long) in
    record {
      n_is = h.n_is;
      seen_is = k.seen_is;
      bucket_draws = λ level are. c.keep.ensures.draws level (omega (arith, rises, s.bucket_is, o.bucket_is))
          (h.bucket_draws level (buckets-before m n stamps more level are)) (k.bucket_draws level are);
      gapped_draws = λ level are. c.keep-2.ensures.draws level (omega (arith, rises, s.gapped_is, o.gapped_is))
          (h.gapped_draws level (occupancies-before m n true stamps more level are)) (k.gapped_draws level are);
      linear_draws = λ level are. c.keep-3.ensures.draws level (omega (arith, rises, s.linear_is, o.linear_is))
          (h.linear_draws level (occupancies-before m n false stamps more level are)) (k.linear_draws level are);
    }
