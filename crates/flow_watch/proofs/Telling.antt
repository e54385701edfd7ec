-- The lines of a flow when frames or fields of its open run are added, and when the run ends.
use Rattle.std.proofs.Common.{◌≡◌, ◌<◌, ◌≤◌, ◌+◌, ◌*◌, ◌/◌, ◌^◌, ◌++◌, ◌∷◌, ℕ, List, [], length, Some, None}
use Rattle.std.proofs.Common.{◌∙◌, ap, sym, subst, refl, arith, append-nil, append_assoc}
use Rattle.std.specs.Prelude.{string_bytes}
use Rattle.std.proofs.Math.Nat.{mul-div_cancel_left, mul-le-mul_right, mul_comm}
use Rattle.std.proofs.lemmas.List.{length-map}
use Rattle.std.proofs.lemmas.Nat.{div-add-mod'}
use Rattle.timing_base.specs.Judged.{stamp_of}
use Rattle.timing_base.specs.Media.{IsMedia, Media}
use Rattle.timing_base.specs.Shifts.{Shift}
use Rattle.timing_base.specs.Verdicts.{Judged}
use Rattle.timing_base.specs.declared.packet.FlowPacket.{FlowPacket}
use Rattle.run_meter.specs.Runs.{JudgedPart, RunOf, part_of, stamps_of}
use Rattle.flow_watch.specs.Watched.{AreAllLines, AreLinesOf, PastLines, RunPart, Tells, ended_part, groups_in, left_line, open_part}
use Rattle.flow_watch.specs.making.Lines.{AddsEach, EndsOpen}
use Rattle.flow_watch.specs.making.Meters.{AreGroups, StandsFor}
use Rattle.flow_watch.specs.declared.form.LineForm.{LineForm}
use Rattle.flow_watch.specs.declared.lines.WatchLines.{WatchLines}
use Rattle.flow_watch.specs.declared.meter.WatchMeter.{WatchMeter}
use Rattle.flow_watch.specs.declared.stretch.Stretch.{Stretch}
use Rattle.flow_watch.proofs.Adding.{AreLinesUpTo, all-of-left, group-added, left-of-all, longer, up-to-longer}

-- ---- a run ends

-- the lines of one run more
lines-of-more : (form : LineForm) (every : ℕ) (m : Media) (shift : Shift) (over : List JudgedPart) (part : JudgedPart) (text rest : List ℕ)
    → AreLinesOf form every m shift over text → AreAllLines form every m shift (ended_part part) rest
    → AreLinesOf form every m shift (over ++ part ∷ []) (text ++ rest)
lines-of-more form every m shift [] part text rest none next = (rest, [], ap (λ t. t ++ rest) none ∙ sym (append-nil rest), next, refl)
lines-of-more form every m shift (one ∷ over) part text rest h next = (
  h.0,
  h.1 ++ rest,
  ap (λ t. t ++ rest) h.2 ∙ append_assoc h.0 h.1 rest,
  h.3,
  lines-of-more form every m shift over part h.1 rest h.4 next,
)

pub run-ended : (past : PastLines) (old new : WatchLines) (m : Media) (shift : Shift) (over : List JudgedPart) (r : RunOf) (values : Judged)
    (packets : List FlowPacket)
    → values.n ≡ r.n → EndsOpen old new → Tells past old m shift over (Some (record { run = r; packets = packets }))
    → Tells past new m shift (over ++ part_of r values packets ∷ []) None
run-ended past old new m shift over r values packets same ends h =
    let run : RunPart = open_part (record { run = r; packets = packets }) in
    let before = h.are.0 in
    let here = h.are.1 in
    let left = left_line past.form old.open in
    let all : AreAllLines past.form past.every m shift run (here ++ left) = (here, left, refl, h.are.4, (old.open, h.are.5, refl)) in
    let ended : AreAllLines past.form past.every m shift (ended_part (part_of r values packets)) (here ++ left) =
    subst (λ n. AreAllLines past.form past.every m shift (record { number = r.number; n = n; packets = packets }) (here ++ left)) (sym same) all in
    let added : string_bytes new.text ≡ string_bytes old.text ++ left =
    ends.text_is ∙ ap (λ f. string_bytes old.text ++ left_line f old.open) h.form_is in
    record {
      form_is = ends.form_is ∙ h.form_is;
      every_is = ends.every_is ∙ h.every_is;
      put = before ++ (here ++ left);
      are = (lines-of-more past.form past.every m shift over (part_of r values packets) before (here ++ left) h.are.3 ended, ends.open_is);
      text_is = ap (λ t. past.gone ++ t) added ∙ sym (append_assoc past.gone (string_bytes old.text) left) ∙ ap (λ t. t ++ left) (h.text_is ∙ h.are.2)
          ∙ append_assoc before here left;
    }

-- ---- frames or fields of the open run are added

-- the lines of so many more
record AddedAll (form : LineForm) (every : ℕ) (m : Media) (shift : Shift) (part : RunPart) (g : ℕ) (text : List ℕ) (old new : WatchLines) : Type 0 where
  pub form_is : new.form ≡ form
  pub every_is : new.every ≡ every
  pub more : List ℕ
  pub text_is : string_bytes new.text ≡ string_bytes old.text ++ more
  pub lines : AreLinesUpTo form every m shift part g (text ++ more) new.open

groups-added : (form : LineForm) (every : ℕ) (m : Media) (shift : Shift) (part : RunPart) (g : ℕ) (kept : List Stretch) (text : List ℕ) (old new : WatchLines)
    → 1 ≤ every → (g + length kept) * part.n ≤ length (stamps_of shift part.packets) → length (stamps_of shift part.packets) ≤ 2 ^ 41
    → g + length kept ≤ 2 ^ 41 → old.form ≡ form → old.every ≡ every → AreGroups m part.number part.n (stamps_of shift part.packets) g kept
    → AddsEach kept old new → AreLinesUpTo form every m shift part g text old.open → AddedAll form every m shift part (g + length kept) text old new
groups-added form every m shift part g [] text old new some within few most form_is every_is are same h =
    let none : g + 0 ≡ g = omega arith in
    record {
      form_is = ap (λ (x : WatchLines). x.form) same ∙ form_is;
      every_is = ap (λ (x : WatchLines). x.every) same ∙ every_is;
      more = [];
      text_is = ap (λ (x : WatchLines). string_bytes x.text) same ∙ sym (append-nil (string_bytes old.text));
      lines = subst (λ (x : WatchLines). AreLinesUpTo form every m shift part (g + 0) (text ++ []) x.open) (sym same)
          (subst (λ t. AreLinesUpTo form every m shift part (g + 0) t old.open) (sym (append-nil text))
          (subst (λ k. AreLinesUpTo form every m shift part k text old.open) (sym none) h));
    }
groups-added form every m shift part g (group ∷ kept) text old new some within few most form_is every_is are adds h =
    let between = adds.0 in
    let next : g + length (group ∷ kept) ≡ g + 1 + length kept = omega arith in
    let later : (g + 1 + length kept) * part.n ≤ length (stamps_of shift part.packets) =
    subst (λ k. k * part.n ≤ length (stamps_of shift part.packets)) next within in
    let front : (g + 1) * part.n ≤ (g + 1 + length kept) * part.n = mul-le-mul_right part.n (omega arith) in
    let one =
    group-added form every m shift part g text old between group some (omega (arith, front, later)) few (omega (arith, next, most)) form_is every_is are.0
    adds.1 h in
    let all =
    groups-added form every m shift part (g + 1) kept (text ++ one.0) between new some later few (omega (arith, next, most)) (adds.1.form_is ∙ form_is)
    (adds.1.every_is ∙ every_is) are.1 adds.2 one.2 in
    record {
      form_is = all.form_is;
      every_is = all.every_is;
      more = one.0 ++ all.more;
      text_is = all.text_is ∙ ap (λ t. t ++ all.more) one.1 ∙ append_assoc (string_bytes old.text) one.0 all.more;
      lines = subst (λ k. AreLinesUpTo form every m shift part k (text ++ (one.0 ++ all.more)) new.open) (sym next)
          (subst (λ t. AreLinesUpTo form every m shift part (g + 1 + length kept) t new.open) (append_assoc text one.0 all.more) all.lines);
    }

-- the packets that were committed are so many frames or fields
pub done-groups : (n done : ℕ) (packets : List FlowPacket) → 1 ≤ n → length packets ≡ done * n → length packets / n ≡ done
done-groups n done packets some whole =
    let positive : 0 < n = omega (arith, some) in
    ap (λ k. k / n) (whole ∙ mul_comm done n) ∙ mul-div_cancel_left done positive

-- the meter commits what it kept
pub committed : (past : PastLines) (x : WatchMeter) (old new : WatchLines) (m : Media) (shift : Shift) (over : List JudgedPart) (r : RunOf)
    (fed before : List FlowPacket)
    → IsMedia m → 1 ≤ r.n → AddsEach x.kept.items old new → StandsFor x m shift r fed before
    → Tells past old m shift over (Some (record { run = r; packets = before })) → Tells past new m shift over (Some (record { run = r; packets = fed }))
committed past x old new m shift over r fed before is some adds h tells =
    let part : RunPart = open_part (record { run = r; packets = before }) in
    let whole : fed ≡ before ++ h.rest = h.whole in
    let all : RunPart = longer part h.rest in
    let long : length (stamps_of shift fed) ≡ length fed = length-map fed (stamp_of shift) in
    let short : length (stamps_of shift before) ≡ length before = length-map before (stamp_of shift) in
    let groups : groups_in part ≡ h.done = done-groups r.n h.done before some h.committed_are in
    let start : AreLinesUpTo past.form past.every m shift part h.done tells.are.1 old.open =
    subst (λ g. AreLinesUpTo past.form past.every m shift part g tells.are.1 old.open) groups
    (record { lines = tells.are.4; left_is = all-of-left past.every m shift part old.open tells.are.5 }) in
    let each : 1 ≤ past.every = subst (λ k. 1 ≤ k) tells.every_is old.some in
    let first : AreLinesUpTo past.form past.every m shift all h.done tells.are.1 old.open =
    up-to-longer past.form past.every m shift part h.rest h.done tells.are.1 old.open is some each (omega (arith, short, h.committed_are)) start in
    let end : AreLinesUpTo past.form past.every m shift (open_part (record { run = r; packets = fed })) h.done tells.are.1 old.open =
    subst (λ l. AreLinesUpTo past.form past.every m shift (record { number = r.number; n = r.n; packets = l }) h.done tells.are.1 old.open) (sym whole) first in
    let full : groups_in (open_part (record { run = r; packets = fed })) ≡ h.done + length x.kept.items =
    sym (h.kept_count ∙ x.walk.group_is ∙ ap (λ k. k / x.walk.n) h.seen ∙ ap (λ n. length fed / n) h.n_is) in
    let split = div-add-mod' (length fed) r.n in
    let fits : (h.done + length x.kept.items) * r.n ≤ length (stamps_of shift fed) =
    subst (λ g. g * r.n ≤ length (stamps_of shift fed)) full (omega (arith, split, long)) in
    let few : length (stamps_of shift fed) ≤ 2 ^ 41 = omega (arith, long, h.seen, x.walk.few) in
    let most : h.done + length x.kept.items ≤ 2 ^ 41 = omega (arith, h.kept_count, x.walk.group_few, x.walk.few) in
    let added =
    groups-added past.form past.every m shift (open_part (record { run = r; packets = fed })) h.done x.kept.items tells.are.1 old new each fits few most
    tells.form_is tells.every_is h.kept_are adds end in
    let lines = subst (λ g. AreLinesUpTo past.form past.every m shift (open_part (record { run = r; packets = fed })) g (tells.are.1 ++ added.more) new.open)
    (sym full) added.lines in
    record {
      form_is = added.form_is;
      every_is = added.every_is;
      put = tells.are.0 ++ (tells.are.1 ++ added.more);
      are = (
        tells.are.0,
        tells.are.1 ++ added.more,
        refl,
        tells.are.3,
        lines.lines,
        left-of-all past.every m shift (open_part (record { run = r; packets = fed })) new.open lines.left_is,
      );
      text_is = ap (λ t. past.gone ++ t) added.text_is ∙ sym (append_assoc past.gone (string_bytes old.text) added.more)
          ∙ ap (λ t. t ++ added.more) (tells.text_is ∙ tells.are.2) ∙ append_assoc tells.are.0 tells.are.1 added.more;
    }
