use Rattle.std.proofs.Common.{◌≡◌, ◌++◌, drop}
use Rattle.std.specs.Prelude.{string_bytes}
use Rattle.flow_page.specs.Page.{flow_parts}
use Rattle.flow_page.proofs.page.add_flow_parts.Given as goal

abbrev pub invariant-loop-page : goal.invariant-loop-page
invariant-loop-page l =
    string_bytes l.text ++ flow_parts l.shift l.session (drop l.page-index l.flows)
    ≡ string_bytes l.fn.text ++ flow_parts l.shift l.session l.flows
