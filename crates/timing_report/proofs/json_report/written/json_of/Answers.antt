use Rattle.std.proofs.Common.{◌≡◌, ℕ, List, ◌++◌, false, sym, ap, ◌∙◌, subst, rules}
use Rattle.std.specs.Prelude.{string_bytes, codes, map}
use Rattle.std.specs.Fmt.{decimal}
use Rattle.serde_json.specs.View.{items_of}
use Rattle.serde_json.specs.Written.{compact_text, items_text}
use Rattle.timing_report.proofs.lemmas.json_report.Frame.{frame, parts}
use Rattle.timing_report.specs.json_report.Json.{list_of, files_data, row_data}
use Rattle.timing_report.specs.declared.status.Status.{Status}
use Rattle.timing_report.specs.Outcomes.{status_of}
use Rattle.timing_report.specs.Status.{code_of}
use Rattle.timing_report.proofs.json_report.written.json_of.Goals as goal

pub returns : goal.returns
returns c =
    let names : c.as_slice.result.now ≡ c.args.job.now.captures = search rules in
    let Files : List (List ℕ) → Type 0 =
    λ ns. string_bytes c.add_files.new.text ≡ string_bytes c.push_str.new.self ++ compact_text (list_of (files_data ns c.args.notes.now)) in
    let files = list_of (files_data c.args.job.now.captures c.args.notes.now) in
    let flows = items_of (map (row_data c.args.session.now) c.args.rows.now) in
    let Ends : Status → Type 0 = λ s. string_bytes c.add_status.new.text
    ≡ string_bytes c.add_flows.new.text ++ (codes "]" ++ (codes ",\"status\":" ++ (decimal (code_of s) ++ (codes "}" ++ codes "\n")))) in
    let code = code_of (status_of c.args.session.now c.args.notes.now c.args.rows.now) in
    parts (codes "{\"files\":") (compact_text files) (codes ",\"flows\":[") (items_text false flows) (codes ",\"status\":") (decimal code) (codes "}")
    (codes "\n")
    _ _ _ _ _
    (c.in_ok-push_str.ensures.bytes ∙ ap (λ s. s ++ codes "{\"files\":") c.new-text.ensures.bytes)
    (subst Files names c.in_ok-add_files.ensures)
    c.in_ok-push_str-2.ensures.bytes
    c.in_ok-add_flows.ensures
    (subst Ends c.status_of.ensures c.in_ok-add_status.ensures)
    ∙ ap (λ s. s ++ codes "\n") (sym (frame files flows code))
