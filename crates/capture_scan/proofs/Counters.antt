-- A counter that has counted some packets has counted one more.
use Rattle.std.proofs.Common.{◌≡◌, ℕ, ◌+◌, List, [], ◌∷◌, ◌++◌, map, length, Option, Some, None, sym, ap, ◌∙◌, arith}
use Rattle.std.specs.List.{last_or}
use Rattle.std.proofs.lemmas.List.{length-map, map_push}
use Rattle.timing_base.specs.declared.packet.Rtp.{Rtp}
use Rattle.capture_scan.proofs.Counting.{last_mark, last_or-push, marks_from-push, none_some, some_same, stream_from-push}
use Rattle.capture_scan.specs.Counting.{mark_next, mark_of, stream_next}
use Rattle.capture_scan.specs.Stands.{Counts}
use Rattle.capture_scan.specs.Streams.{marks_from, stream_from}
use Rattle.capture_scan.specs.declared.counter.Counter.{Counter}
use Rattle.capture_scan.specs.declared.mark.Mark.{Mark}
use Rattle.capture_scan.specs.declared.packet.Packet.{Packet}
use Rattle.capture_scan.specs.declared.stream.Stream.{Stream}

pub counts-push : (c d : Counter) (ps : List Packet) (q : Packet) → Counts c ps → d.stream ≡ stream_next c.stream c.number c.mark q
    → d.number ≡ q.rtp.number → d.mark ≡ mark_next c.mark (mark_of c.stream.packets q.rtp) → Counts d (ps ++ q ∷ [])
counts-push c d [] q h stream number mark = none_some c.stream h.stream
counts-push c d (p ∷ ps) q h stream number mark =
    let same : stream_from p ps ≡ c.stream = some_same (stream_from p ps) c.stream h.stream in
    let rtps = map (λ (x : Packet). x.rtp) (p ∷ ps) in
    let numbers = map (λ (x : Packet). x.rtp.number) (p ∷ ps) in
    let place : length (p ∷ ps) ≡ 0 + length rtps = omega (arith, length-map (p ∷ ps) (λ (x : Packet). x.rtp)) in
    record {
      stream = ap (λ (s : Stream). Some s) (stream_from-push p ps q c.number c.mark h.number h.mark
          ∙ (ap (λ (s : Stream). stream_next s c.number c.mark q) same ∙ sym stream));
      number = ap (last_or None) (map_push (λ (x : Packet). x.rtp.number) (p ∷ ps) q)
          ∙ (last_or-push None numbers q.rtp.number ∙ ap (λ (n : ℕ). Some n) (sym number));
      mark = ap (λ (rs : List Rtp). last_or None (marks_from 0 rs)) (map_push (λ (x : Packet). x.rtp) (p ∷ ps) q)
          ∙ (ap (last_or None) (marks_from-push 0 (length (p ∷ ps)) rtps q.rtp place)
          ∙ (last_mark (marks_from 0 rtps) (mark_of (length (p ∷ ps)) q.rtp)
          ∙ (ap (λ (m : Option Mark). mark_next m (mark_of (length (p ∷ ps)) q.rtp)) h.mark
          ∙ (ap (λ (s : Stream). mark_next c.mark (mark_of s.packets q.rtp)) same ∙ sym mark))));
    }
