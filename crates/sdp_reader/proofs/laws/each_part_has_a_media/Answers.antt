use Rattle.sdp_reader.proofs.Sessions.{media-each}
use Rattle.sdp_reader.proofs.laws.each_part_has_a_media.Goals as goal

pub returns : goal.returns
returns c = λ bytes media h. media-each bytes media h
