use Rattle.std.proofs.Common.{◌≡◌, ◌++◌, List, ℕ, ap, ◌∙◌, replicate}
use borrow.Rule.Slice.PartMut.{put_mid}
use Rattle.pcap_reader.specs.WrittenHeads.{record_head}
use Rattle.capture_gen.specs.Packets.{ethernet_header, ipv4_header, udp_header, extended_number, record_of, rtp_header}
use Rattle.capture_gen.specs.declared.packet.Packet.{Packet}
use Rattle.capture_gen.proofs.packet.Packet.record.Goals as goal

record_joined : (p : Packet) (head shared rtp : List ℕ) → head ≡ record_head p.at 56 → shared ≡ ethernet_header ++ ipv4_header ++ udp_header
    → rtp ≡ rtp_header p ++ extended_number p → put_mid 58 14 (put_mid 16 42 (head ++ replicate 56 0) shared) rtp ≡ record_of p
unfolding record_of
record_joined p head shared rtp e f g =
    ap (λ x. put_mid 58 14 (put_mid 16 42 (x ++ replicate 56 0) shared) rtp) e
    ∙ ap (λ x. put_mid 58 14 (put_mid 16 42 (record_head p.at 56 ++ replicate 56 0) x) rtp) f
    ∙ ap (λ x. put_mid 58 14 (put_mid 16 42 (record_head p.at 56 ++ replicate 56 0) (ethernet_header ++ ipv4_header ++ udp_header)) x) g

pub returns : goal.returns
returns c = record_joined c.args.self.now _ _ _ (c.copy_from_slice.ensures.after ∙ c.record_head.ensures) c.copy_from_slice-2.ensures.after
    (c.copy_from_slice-3.ensures.after ∙ c.rtp.ensures)
