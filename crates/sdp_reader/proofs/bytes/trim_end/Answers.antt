use Rattle.std.proofs.Common.{◌≡◌, take, arith, sym, ap, ◌∙◌}
use Rattle.sdp_reader.specs.Bytes.{trim_end}
use Rattle.sdp_reader.proofs.Trims.{trim_end-blank, trim_end-other}
use Rattle.sdp_reader.proofs.bytes.trim_end.Goals as goal
use Rattle.sdp_reader.proofs.bytes.trim_end.Goals.{then-loop-end-test+else-is_blank, else-loop-end-test}

pub loop-end-preserved : goal.loop-end-preserved
loop-end-preserved c = record {
  inside = omega arith;
  same = sym (trim_end-blank c.args.text.now c.loop-end.end (omega arith) (omega arith) (sym c.is_blank.ensures ∙ c.if-is_blank.true))
      ∙ c.loop-end.invariant.same;
}

pub returns-clause-value : goal.returns-clause-value
returns-clause-value c =
    elim c.loop-end-test.branch [
      | then-loop-end-test+else-is_blank w ↦ sym (trim_end-other c.args.text.now c.loop-end.end (omega arith) (omega arith)
          (sym w.is_blank.ensures ∙ w.if-is_blank.false)) ∙ c.loop-end.invariant.same
      | else-loop-end-test w ↦ let e : c.loop-end.end ≡ 0 =
          omega arith in ap (λ n. take n c.args.text.now) e ∙ sym (ap (λ n. trim_end (take n c.args.text.now)) e) ∙ c.loop-end.invariant.same
    ]
