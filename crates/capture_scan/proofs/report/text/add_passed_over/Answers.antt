use Rattle.std.proofs.Common.{ℕ, List, ◌++◌}
use Rattle.std.specs.Prelude.{codes, string_bytes}
use Rattle.timing_report.proofs.Appends.{two_ok}
use Rattle.capture_scan.specs.report.Text.{class_text}
use Rattle.capture_scan.proofs.report.text.add_passed_over.Goals as goal

pub returns : goal.returns
returns c =
    let n = c.args.classes.now in
    let r = c.add_class-7.result in
    let e1 : List ℕ = class_text n.empty (codes "no byte, or a packet of another link") in
    let e2 : List ℕ = class_text n.tags (codes "more than one VLAN tag, or a provider's") in
    let e3 : List ℕ = class_text n.ipv6 (codes "IPv6") in
    let e4 : List ℕ = class_text n.other (codes "neither IPv4 nor IPv6") in
    let e5 : List ℕ = class_text n.not_udp (codes "IPv4, but not UDP") in
    let e6 : List ℕ = class_text n.fragment (codes "a fragment of a UDP datagram") in
    let e7 : List ℕ = class_text n.broken (codes "IPv4 in a bad form, or cut short") in
    two_ok r (string_bytes c.args.text.now) e1 (e2 ++ (e3 ++ (e4 ++ (e5 ++ (e6 ++ e7))))) _ _ c.in_ok-add_class.ensures
    (two_ok r _ e2 (e3 ++ (e4 ++ (e5 ++ (e6 ++ e7)))) _ _ c.in_ok-add_class-2.ensures
    (two_ok r _ e3 (e4 ++ (e5 ++ (e6 ++ e7))) _ _ c.in_ok-add_class-3.ensures
    (two_ok r _ e4 (e5 ++ (e6 ++ e7)) _ _ c.in_ok-add_class-4.ensures
    (two_ok r _ e5 (e6 ++ e7) _ _ c.in_ok-add_class-5.ensures
    (two_ok r _ e6 e7 _ _ c.in_ok-add_class-6.ensures c.add_class-7.ensures)))))
