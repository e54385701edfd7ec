-- The whole of a report, about its captures and its flows.
use Rattle.std.proofs.Common.{◌≡◌, ℕ, List, [], ◌∷◌, ◌++◌, false, refl, sym, ap, ◌∙◌, append_assoc}
use Rattle.std.specs.Prelude.{codes}
use Rattle.std.specs.Fmt.{decimal}
use Rattle.serde_json.specs.Data.{Data, array, Items}
use Rattle.serde_json.specs.Written.{compact_text, items_text}
use Rattle.serde_json.proofs.OnLiterals.{serde_json_on_literals}
use Rattle.timing_report.specs.json_report.Json.{object_of, count}

-- the text of the whole, from its parts
pub frame : (files : Data) (flows : Items) (code : ℕ)
    → compact_text (object_of ((codes "files", files) ∷ (codes "flows", array flows) ∷ (codes "status", count code) ∷ []))
    ≡ codes "{\"files\":" ++ (compact_text files ++ (codes ",\"flows\":[" ++ (items_text false flows ++ (codes ",\"status\":" ++ (decimal code ++ codes "}")))))
unfolding serde_json_on_literals
frame files flows code = refl

-- the parts, one after another; the flows end with a bracket that is written with what follows
pub parts : (head files mid flows status digits close end first second third fourth whole : List ℕ)
    → first ≡ head → second ≡ first ++ files → third ≡ second ++ mid → fourth ++ codes "]" ≡ third ++ flows
    → whole ≡ fourth ++ (codes "]" ++ (status ++ (digits ++ (close ++ end))))
    → whole ≡ (head ++ (files ++ (mid ++ (flows ++ (status ++ (digits ++ close)))))) ++ end
parts head files mid flows status digits close end first second third fourth whole a b c d e =
    let rest = status ++ (digits ++ (close ++ end)) in
    let open_end : (head ++ (files ++ (mid ++ (flows ++ (status ++ (digits ++ close)))))) ++ end ≡ head ++ (files ++ (mid ++ (flows ++ rest))) =
    simp append_assoc in
    e ∙ sym (append_assoc fourth (codes "]") rest) ∙ ap (λ s. s ++ rest) d ∙ append_assoc third flows rest
    ∙ ap (λ s. s ++ (flows ++ rest)) c ∙ append_assoc second mid (flows ++ rest)
    ∙ ap (λ s. s ++ (mid ++ (flows ++ rest))) b ∙ append_assoc first files (mid ++ (flows ++ rest))
    ∙ ap (λ s. s ++ (files ++ (mid ++ (flows ++ rest)))) a ∙ sym open_end
