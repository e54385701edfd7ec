-- A scan that was given some records was given one more.
use Rattle.std.proofs.Common.{◌≡◌, ℕ, ◌+◌, cond, List, [], ◌∷◌, ◌++◌, Option, Some, Result, Ok, Err, IfOk, OnOk, refl, sym, ap, subst, ◌∙◌, arith}
use Rattle.std.specs.List.{cons_option}
use Rattle.std.proofs.lemmas.List.{append-nil, length_push}
use Rattle.std.proofs.lemmas.List.Elements.{filter_map-append}
use Rattle.std.proofs.lemmas.List.Sums.{sum_by_push}
use Rattle.timing_base.specs.Captures.{Record}
use Rattle.timing_base.specs.declared.target.Target.{Target}
use Rattle.capture_scan.proofs.Counting.{last_from-push}
use Rattle.capture_scan.specs.Counting.{passed_with, span_with}
use Rattle.capture_scan.specs.Frames.{seen}
use Rattle.capture_scan.specs.Scans.{count_of, is_of_class, packet_seen, packets, passed_over, span_of, unread, unread_seen}
use Rattle.capture_scan.specs.Stands.{HaveMissed, HaveTaken, StandsFor}
use Rattle.udp_rtp.specs.declared.class.FrameClass.{FrameClass}
use Rattle.udp_rtp.specs.declared.class.FrameClass.TheVariants.{Empty, Tags, Ipv6, Other, NotUdp, Fragment, Broken}
use Rattle.capture_scan.specs.declared.found.PassedOver.{PassedOver as ClassCounts}
use Rattle.capture_scan.specs.declared.found.Span.{Span}
use Rattle.capture_scan.specs.declared.packet.Packet.{Packet}
use Rattle.capture_scan.specs.declared.packet.Seen.{Seen}
use Rattle.capture_scan.specs.declared.packet.Seen.TheVariants.{PassedOver, Unread, Read}
use Rattle.capture_scan.specs.declared.scan.Scan.{Scan}

span-push : (rs : List Record) (r : Record) → span_of (rs ++ r ∷ []) ≡ Some (span_with (span_of rs) r.stamp)
span-push [] r = refl
span-push (x ∷ xs) r = λ i. Some (record { first = x.stamp; last = (last_from-push x xs r i).stamp })

-- the frames that are passed over, with what is seen of one record more
abbrev pub passed_seen : ClassCounts → Seen → ClassCounts
passed_seen n (PassedOver class) = passed_with n class
passed_seen n (Unread target) = n
passed_seen n (Read packet) = n

-- each count with one record more
abbrev counted : ClassCounts → Seen → ClassCounts
counted n s = record {
  empty = n.empty + cond (is_of_class Empty s) 1 0;
  tags = n.tags + cond (is_of_class Tags s) 1 0;
  ipv6 = n.ipv6 + cond (is_of_class Ipv6 s) 1 0;
  other = n.other + cond (is_of_class Other s) 1 0;
  not_udp = n.not_udp + cond (is_of_class NotUdp s) 1 0;
  fragment = n.fragment + cond (is_of_class Fragment s) 1 0;
  broken = n.broken + cond (is_of_class Broken s) 1 0;
}

-- where nothing is added to most of them
same_counts : (m n : ClassCounts) → m.empty ≡ n.empty → m.tags ≡ n.tags → m.ipv6 ≡ n.ipv6 → m.other ≡ n.other → m.not_udp ≡ n.not_udp
    → m.fragment ≡ n.fragment → m.broken ≡ n.broken → m ≡ n
same_counts m n a b c d e f g = λ i. record {
  empty = a i;
  tags = b i;
  ipv6 = c i;
  other = d i;
  not_udp = e i;
  fragment = f i;
  broken = g i;
}

none_more : (n : ℕ) → n + 0 ≡ n
none_more n = omega arith

counted-seen : (n : ClassCounts) (s : Seen) → counted n s ≡ passed_seen n s
counted-seen n (PassedOver Empty) =
    same_counts _ _ refl (none_more n.tags) (none_more n.ipv6) (none_more n.other) (none_more n.not_udp) (none_more n.fragment) (none_more n.broken)
counted-seen n (PassedOver Tags) =
    same_counts _ _ (none_more n.empty) refl (none_more n.ipv6) (none_more n.other) (none_more n.not_udp) (none_more n.fragment) (none_more n.broken)
counted-seen n (PassedOver Ipv6) =
    same_counts _ _ (none_more n.empty) (none_more n.tags) refl (none_more n.other) (none_more n.not_udp) (none_more n.fragment) (none_more n.broken)
counted-seen n (PassedOver Other) =
    same_counts _ _ (none_more n.empty) (none_more n.tags) (none_more n.ipv6) refl (none_more n.not_udp) (none_more n.fragment) (none_more n.broken)
counted-seen n (PassedOver NotUdp) =
    same_counts _ _ (none_more n.empty) (none_more n.tags) (none_more n.ipv6) (none_more n.other) refl (none_more n.fragment) (none_more n.broken)
counted-seen n (PassedOver Fragment) =
    same_counts _ _ (none_more n.empty) (none_more n.tags) (none_more n.ipv6) (none_more n.other) (none_more n.not_udp) refl (none_more n.broken)
counted-seen n (PassedOver Broken) =
    same_counts _ _ (none_more n.empty) (none_more n.tags) (none_more n.ipv6) (none_more n.other) (none_more n.not_udp) (none_more n.fragment) refl
counted-seen n (Unread target) =
    same_counts _ _ (none_more n.empty) (none_more n.tags) (none_more n.ipv6) (none_more n.other) (none_more n.not_udp)
    (none_more n.fragment) (none_more n.broken)
counted-seen n (Read packet) =
    same_counts _ _ (none_more n.empty) (none_more n.tags) (none_more n.ipv6) (none_more n.other) (none_more n.not_udp)
    (none_more n.fragment) (none_more n.broken)

passed-push : (rs : List Record) (r : Record) → passed_over (rs ++ r ∷ []) ≡ passed_seen (passed_over rs) (seen r)
passed-push rs r = all ∙ counted-seen (passed_over rs) (seen r)
  where
    one : (c : FrameClass) → count_of c (rs ++ r ∷ []) ≡ count_of c rs + cond (is_of_class c (seen r)) 1 0
    one c = sum_by_push (λ x. cond (is_of_class c (seen x)) 1 0) rs r

    all : passed_over (rs ++ r ∷ []) ≡ counted (passed_over rs) (seen r)
    all = λ i. record {
      empty = one Empty i;
      tags = one Tags i;
      ipv6 = one Ipv6 i;
      other = one Other i;
      not_udp = one NotUdp i;
      fragment = one Fragment i;
      broken = one Broken i;
    }

-- one record more, by what is seen of it
pub stands-push : (old new : Scan) (rs : List Record) (r : Record) (s : Seen) → seen r ≡ s → StandsFor old rs → new.records ≡ old.records + 1
    → new.span ≡ Some (span_with old.span r.stamp) → new.passed_over ≡ passed_seen old.passed_over s
    → HaveTaken new.streams (packets rs ++ cons_option (packet_seen s) []) → HaveMissed new.unread (unread rs ++ cons_option (unread_seen s) [])
    → StandsFor new (rs ++ r ∷ [])
stands-push old new rs r s is stands records span passed taken missed =
    let read : packets (rs ++ r ∷ []) ≡ packets rs ++ cons_option (packet_seen s) [] =
    filter_map-append (λ x. packet_seen (seen x)) rs (r ∷ []) ∙ ap (λ (t : Seen). packets rs ++ cons_option (packet_seen t) []) is in
    let not_read : unread (rs ++ r ∷ []) ≡ unread rs ++ cons_option (unread_seen s) [] =
    filter_map-append (λ x. unread_seen (seen x)) rs (r ∷ []) ∙ ap (λ (t : Seen). unread rs ++ cons_option (unread_seen t) []) is in
    record {
      records_are = records ∙ (ap (λ (n : ℕ). n + 1) stands.records_are ∙ sym (length_push rs r));
      span_is = span ∙ (ap (λ (o : Option Span). Some (span_with o r.stamp)) stands.span_is ∙ sym (span-push rs r));
      passed_over_are = passed ∙ (ap (λ (n : ClassCounts). passed_seen n s) stands.passed_over_are
          ∙ (ap (λ (t : Seen). passed_seen (passed_over rs) t) (sym is) ∙ sym (passed-push rs r)));
      streams_are = subst (λ (ps : List Packet). HaveTaken new.streams ps) (sym read) taken;
      unread_are = subst (λ (ts : List Target). HaveMissed new.unread ts) (sym not_read) missed;
    }

-- nothing more
pub same-taken : (scan : Scan) (ps : List Packet) → HaveTaken scan.streams ps → HaveTaken scan.streams (ps ++ [])
same-taken scan ps h = subst (λ (l : List Packet). HaveTaken scan.streams l) (sym (append-nil ps)) h

pub same-missed : (scan : Scan) (ts : List Target) → HaveMissed scan.unread ts → HaveMissed scan.unread (ts ++ [])
same-missed scan ts h = subst (λ (l : List Target). HaveMissed scan.unread l) (sym (append-nil ts)) h

pub on_ok-more : {T E : Type 0} (r : Result T E) (P Q : Type 0) → (P → Q) → OnOk r P → IfOk r (λ _. Q)
on_ok-more (Ok x) P Q more p = more p
on_ok-more (Err e) P Q more p = tt
