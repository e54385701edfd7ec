use Rattle.std.proofs.Common.{◌≡◌, ℕ, ◌++◌, subst}
use Rattle.std.specs.Prelude.{string_bytes, codes, IfOk}
use Rattle.std.specs.Fmt.{decimal}
use Rattle.timing_report.proofs.json_report.written.add_status.Goals as goal

pub returns : goal.returns
returns c =
    let P : ℕ → Type 0 = λ code. IfOk c.writeln.result (λ _. string_bytes c.writeln.new.self
    ≡ string_bytes c.args.text.now ++ (codes "],\"status\":" ++ (decimal code ++ codes "}\n"))) in
    subst P c.code.ensures c.writeln.ensures.bytes
