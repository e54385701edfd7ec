use Rattle.sender_params.specs.Limits.{c_max_of, vrx_full_of}
use Rattle.std.proofs.Common.{refl}
use Rattle.flow_measure.proofs.Waiting.{at-first}
use Rattle.flow_measure.proofs.models.ModelMeters.new.Goals as goal

pub returns-clause-stands : goal.returns-clause-stands
returns-clause-stands c = λ kind packets.
    let m = c.args.params.now.media in
    let n = c.args.params.now.n in
    at-first kind n (c_max_of m n) (vrx_full_of m n) _ packets refl (c.new.ensures.stands packets.bucket)
    (record { occupancy = c.new-2.ensures.occupancy packets.occupancy; late_are = c.new-2.ensures.late packets.empty })
    (record { occupancy = c.new-3.ensures.occupancy packets.occupancy; late_are = c.new-3.ensures.late packets.empty })
    (c.new-4.ensures.stands packets) (c.new-5.ensures.stands packets) (c.new-6.ensures.stands packets)
