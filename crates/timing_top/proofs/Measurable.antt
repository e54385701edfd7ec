-- Captures whose contents are bytes have stamps.
use Rattle.std.proofs.Common.{◌≤◌, ◌^◌, ◌+◌, ◌*◌, ℕ, List, [], ◌∷◌, length, arith, subst}
use Rattle.std.specs.Prelude.{All, map}
use Rattle.std.proofs.lemmas.List.{length-map}
use Rattle.std.proofs.lemmas.List.Elements.{All-tail, All-weaker}
use Rattle.timing_base.specs.Captures.{IsStamp, Record, joined}
use Rattle.pcapng_reader.specs.Bytes.{AreBytes}
use Rattle.pcapng_reader.specs.Classic.{classic}
use Rattle.pcapng_reader.proofs.Bytes.{each-bytes}
use Rattle.timing_steps.specs.Answers.{AreTold, Inputs}
use Rattle.timing_steps.specs.Queries.{Query, inputs_of}
use Rattle.timing_steps.proofs.Onces.{told-once}
use Rattle.timing_measure.proofs.Held.{HaveStamps}
use Rattle.timing_top.proofs.Headlines.{told-length}
use Rattle.timing_top.proofs.Small.{IsSmall, joined-small}

-- the records of texts of bytes, at most 16
stamps-of : (texts : List (List ℕ)) → length texts ≤ 16 → All AreBytes texts → HaveStamps texts
stamps-of texts most bytes files notes records =
    let small = joined-small 0 texts files notes bytes records in
    record {
      few = omega (arith, small.few, most);
      stamps = All-weaker (IsSmall (0 + 2 ^ 36 * length texts)) (λ (r : Record). IsStamp r.stamp) (λ r s. s.stamp) (joined files) small.each;
    }

-- those of the captures of a command, if all its inputs are bytes
pub have-stamps : (query : Query) (i : Inputs) (told texts : List (List ℕ)) → length query.captures ≤ 16 → AreTold i.texts (inputs_of query) told
    → AreTold i.texts query.captures texts → All AreBytes told → HaveStamps (map classic texts)
have-stamps query i [] texts most are read bytes = absurd are
have-stamps query i (sdp ∷ told) texts most are read bytes =
    let many = told-length i.texts query.captures texts read in
    stamps-of (map classic texts) (omega (arith, length-map texts classic, many, most))
    (each-bytes texts (subst (All AreBytes) (told-once i.texts query.captures told texts are.1 read) (All-tail AreBytes sdp told bytes)))
