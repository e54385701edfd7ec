use Rattle.std.proofs.Common.{◌∷◌, [], ◌++◌, List, Some, ap, refl, sym}
use Rattle.timing_base.specs.declared.target.Target.{Target}
use Rattle.capture_scan.proofs.Scanning.{on_ok-more, same-missed, same-taken, stands-push}
use Rattle.capture_scan.specs.Scans.{packets, unread}
use Rattle.capture_scan.specs.Stands.{HaveMissed, HaveTaken}
use Rattle.capture_scan.specs.declared.found.Span.{Span}
use Rattle.capture_scan.specs.declared.packet.Packet.{Packet}
use Rattle.capture_scan.specs.declared.packet.Seen.TheVariants.{PassedOver, Unread, Read}
use Rattle.capture_scan.proofs.scan.Scan.take.Goals as goal

-- a packet goes to its stream
pub returns-in-Read-clause-takes : goal.returns-in-Read-clause-takes
returns-in-Read-clause-takes c =
    on_ok-more c.take.result
    ((ps : List Packet) → HaveTaken c.args.self.now.streams ps → HaveTaken c.take.new.self (ps ++ c.in-Read.packet ∷ [])) _
    (λ stands rs h. stands-push c.args.self.now _ rs (record { number = c.args.number; stamp = c.args.at; bytes = c.args.frame.now })
    (Read c.in-Read.packet) (sym c.in-Read.ensures) h refl (ap (λ (s : Span). Some s) c.with.ensures) refl
    (stands (packets rs) h.streams_are) (same-missed c.args.self.now (unread rs) h.unread_are))
    c.take.ensures.stands

-- an unread packet goes to its target
pub returns-in-Unread-clause-takes : goal.returns-in-Unread-clause-takes
returns-in-Unread-clause-takes c =
    on_ok-more c.take-in-Unread.result
    ((ts : List Target) → HaveMissed c.args.self.now.unread ts → HaveMissed c.take-in-Unread.new.self (ts ++ c.in-Unread.target ∷ [])) _
    (λ stands rs h. stands-push c.args.self.now _ rs (record { number = c.args.number; stamp = c.args.at; bytes = c.args.frame.now })
    (Unread c.in-Unread.target) (sym c.in-Unread.ensures) h refl (ap (λ (s : Span). Some s) c.with.ensures) refl
    (same-taken c.args.self.now (packets rs) h.streams_are) (stands (unread rs) h.unread_are))
    c.take-in-Unread.ensures.stands

-- and a frame without a target counts in its class
pub returns-in-PassedOver-clause-takes : goal.returns-in-PassedOver-clause-takes
returns-in-PassedOver-clause-takes c = λ rs h.
    stands-push c.args.self.now _ rs (record { number = c.args.number; stamp = c.args.at; bytes = c.args.frame.now })
    (PassedOver c.in-PassedOver.class) (sym c.in-PassedOver.ensures) h refl (ap (λ (s : Span). Some s) c.with.ensures) c.count.ensures
    (same-taken c.args.self.now (packets rs) h.streams_are) (same-missed c.args.self.now (unread rs) h.unread_are)
