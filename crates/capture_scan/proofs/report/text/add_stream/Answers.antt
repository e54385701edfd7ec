use Rattle.std.proofs.Common.{ℕ, List, ◌++◌}
use Rattle.std.specs.Prelude.{codes, string_bytes}
use Rattle.timing_report.proofs.Appends.{two_ok}
use Rattle.capture_scan.specs.report.Draft.{has_fields}
use Rattle.capture_scan.specs.report.Text.{frame_told, key_text, lines_told, loss_text, packets_text, rate_told, stream_line}
use Rattle.capture_scan.proofs.report.text.add_stream.Goals as goal

pub returns : goal.returns
returns c =
    let s = c.args.stream.now in
    let n = c.args.number in
    let r = c.add_lines.result in
    let a : List ℕ = stream_line n (codes " from    ") (key_text s) in
    let b : List ℕ = stream_line n (codes " packets ") (packets_text s) in
    let d : List ℕ = stream_line n (codes " rate    ") (rate_told (has_fields s.lines) s.pace) in
    let e : List ℕ = stream_line n (codes " frame   ") (frame_told s.pace) in
    let f : List ℕ = stream_line n (codes " lost    ") (loss_text s) in
    let g : List ℕ = stream_line n (codes " lines   ") (lines_told s.lines) in
    two_ok r (string_bytes c.args.text.now) a (b ++ (d ++ (e ++ (f ++ g)))) _ _ c.in_ok-add_key.ensures
    (two_ok r _ b (d ++ (e ++ (f ++ g))) _ _ c.in_ok-add_packets.ensures
    (two_ok r _ d (e ++ (f ++ g)) _ _ c.in_ok-add_rate.ensures
    (two_ok r _ e (f ++ g) _ _ c.in_ok-add_frame.ensures
    (two_ok r _ f g _ _ c.in_ok-add_loss.ensures c.add_lines.ensures))))
