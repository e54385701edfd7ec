use Rattle.std.proofs.Common.{◌++◌}
use Rattle.std.specs.Prelude.{string_bytes}
use Rattle.timing_report.proofs.Appends.{two_ok}
use Rattle.capture_scan.specs.report.Draft.{connection_line, guess_line, map_line, media_line, parameter_line}
use Rattle.capture_scan.proofs.report.draft.add_video.Goals as goal

pub returns : goal.returns
returns c =
    let v = c.args.video.now in
    let r = c.add_parameters.result in
    two_ok r (string_bytes c.args.text.now) (media_line v) (guess_line v ++ (connection_line v ++ (map_line v ++ parameter_line v))) _ _
    c.in_ok-add_media.ensures
    (two_ok r _ (guess_line v) (connection_line v ++ (map_line v ++ parameter_line v)) _ _ c.in_ok-add_guesses.ensures
    (two_ok r _ (connection_line v) (map_line v ++ parameter_line v) _ _ c.in_ok-add_connection.ensures
    (two_ok r _ (map_line v) (parameter_line v) _ _ c.in_ok-add_map.ensures c.add_parameters.ensures)))
