use Rattle.std.proofs.Common.{ℕ, List, ◌++◌}
use Rattle.std.specs.Prelude.{codes, string_bytes}
use Rattle.timing_report.proofs.Appends.{two_ok}
use Rattle.findings_report.specs.Text.{class_text}
use Rattle.findings_report.proofs.sentences.add_passed_over.Goals as goal

pub returns : goal.returns
returns c =
    let n = c.args.classes.now in
    let r = c.add_class-7.result in
    let empty : List ℕ = class_text n.empty (codes "no byte, or a packet of another link") in
    let tags : List ℕ = class_text n.tags (codes "more than one VLAN tag, or a provider's") in
    let ipv6 : List ℕ = class_text n.ipv6 (codes "IPv6") in
    let other : List ℕ = class_text n.other (codes "neither IPv4 nor IPv6") in
    let not_udp : List ℕ = class_text n.not_udp (codes "IPv4, but not UDP") in
    let fragment : List ℕ = class_text n.fragment (codes "a fragment of a UDP datagram") in
    let broken : List ℕ = class_text n.broken (codes "IPv4 in a bad form, or cut short") in
    two_ok r (string_bytes c.args.text.now) empty (tags ++ (ipv6 ++ (other ++ (not_udp ++ (fragment ++ broken))))) _ _ c.in_ok-add_class.ensures
    (two_ok r _ tags (ipv6 ++ (other ++ (not_udp ++ (fragment ++ broken)))) _ _ c.in_ok-add_class-2.ensures
    (two_ok r _ ipv6 (other ++ (not_udp ++ (fragment ++ broken))) _ _ c.in_ok-add_class-3.ensures
    (two_ok r _ other (not_udp ++ (fragment ++ broken)) _ _ c.in_ok-add_class-4.ensures
    (two_ok r _ not_udp (fragment ++ broken) _ _ c.in_ok-add_class-5.ensures
    (two_ok r _ fragment broken _ _ c.in_ok-add_class-6.ensures c.add_class-7.ensures)))))
