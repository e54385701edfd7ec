-- The rows that the judges of a file give, by rising media.
use Rattle.std.proofs.Common.{◌≡◌, ◌+◌, ℕ, Bool, true, false, cond, List, [], ◌∷◌, ◌++◌, length, map, Some, None, sym, ap, ◌∙◌, subst, append_assoc, append-nil}
use Rattle.std.specs.Prelude.{Option, filter}
use Rattle.timing_base.specs.Shifts.{FlowOptions}
use Rattle.timing_base.specs.Media.{Media}
use Rattle.timing_base.specs.Keys.{key_of, keys_of_file, media_of}
use Rattle.timing_base.specs.declared.key.FlowKey.{FlowKey}
use Rattle.timing_base.specs.declared.packet.FlowPacket.{FlowPacket}
use Rattle.timing_base.specs.declared.row.Row.{Row}
use Rattle.fail_interval.specs.Row.{row}
use Rattle.fail_interval.specs.Stands.{StandsFor}
use Rattle.flow_worker.specs.Opening.{Setting}
use Rattle.flow_worker.specs.Posting.{row_over}
use Rattle.flow_worker.specs.Judging.{AreFed, EachFrom, IsPlace, PlainJudge, is_own}
use Rattle.flow_worker.specs.declared.judges.Judges.{Judges}

-- the rows of those of the flows that are the worker's own
abbrev pub own_rows : Setting → (worker : ℕ) → (FlowKey → List FlowPacket) → List FlowKey → List Row
own_rows s worker fed keys = map (λ key. row_over s key (fed key)) (filter (is_own s worker) keys)

-- with the rows of the places that are left, these are the rows of the file behind those that were there before
pub record HasRows (s : Setting) (worker file : ℕ) (fed : FlowKey → List FlowPacket) (before rows : List Row) (left : List (Option PlainJudge)) : Type 0 where
  pub number : ℕ
  pub each : EachFrom (λ n. IsPlace s worker (key_of file n) (fed (key_of file n))) number left
  pub whole : rows ++ own_rows s worker fed (keys_of_file file number (length left)) ≡ before ++ own_rows s worker fed (keys_of_file file 0 (length s.media))

-- the row of a flow that is the worker's own
own_rows-own : (s : Setting) (worker : ℕ) (fed : FlowKey → List FlowPacket) (key : FlowKey) (keys : List FlowKey) → is_own s worker key ≡ true
    → own_rows s worker fed (key ∷ keys) ≡ row_over s key (fed key) ∷ own_rows s worker fed keys
own_rows-own s worker fed key keys e =
    ap (λ (b : Bool). map (λ key. row_over s key (fed key)) (cond b (key ∷ filter (is_own s worker) keys) (filter (is_own s worker) keys))) e

-- and none of another
own_rows-other : (s : Setting) (worker : ℕ) (fed : FlowKey → List FlowPacket) (key : FlowKey) (keys : List FlowKey) → is_own s worker key ≡ false
    → own_rows s worker fed (key ∷ keys) ≡ own_rows s worker fed keys
own_rows-other s worker fed key keys e =
    ap (λ (b : Bool). map (λ key. row_over s key (fed key)) (cond b (key ∷ filter (is_own s worker) keys) (filter (is_own s worker) keys))) e

-- no row is posted yet
pub rows-first : (s : Setting) (worker file : ℕ) (fed : FlowKey → List FlowPacket) (judges : Judges) (before : List Row) (left : List (Option PlainJudge))
    → left ≡ judges.places.items
    → AreFed s worker file fed judges → HasRows s worker file fed before before left
rows-first s worker file fed judges before left e h = record {
  number = 0;
  each = subst (EachFrom (λ n. IsPlace s worker (key_of file n) (fed (key_of file n))) 0) (sym e) h.each;
  whole = ap (λ (n : ℕ). before ++ own_rows s worker fed (keys_of_file file 0 n)) (ap length e ∙ h.count);
}

-- a place without a judge
pub rows-none : (s : Setting) (worker file : ℕ) (fed : FlowKey → List FlowPacket) (before rows : List Row) (place : Option PlainJudge)
    (left later : List (Option PlainJudge))
    → left ≡ place ∷ later → place ≡ None → HasRows s worker file fed before rows left → HasRows s worker file fed before rows later
rows-none s worker file fed before rows place left later e none h =
    let P : ℕ → Option PlainJudge → Type 0 = λ n. IsPlace s worker (key_of file n) (fed (key_of file n)) in
    let each = subst (EachFrom P h.number) e h.each in
    let other : is_own s worker (key_of file h.number) ≡ false = subst (P h.number) none each.0 in
    record {
      number = h.number + 1;
      each = each.1;
      whole = ap (λ (l : List Row). rows ++ l)
          (sym (own_rows-other s worker fed (key_of file h.number) (keys_of_file file (h.number + 1) (length later)) other))
          ∙ ap (λ (n : ℕ). rows ++ own_rows s worker fed (keys_of_file file h.number n)) (sym (ap length e)) ∙ h.whole;
    }

-- the judge of a place gives its row
pub rows-some : (s : Setting) (worker file : ℕ) (fed : FlowKey → List FlowPacket) (before rows more : List Row) (place : Option PlainJudge) (judge : PlainJudge)
    (left later : List (Option PlainJudge)) (r : Row)
    → left ≡ place ∷ later → place ≡ Some judge
    → ((m : Media) (key : FlowKey) (options : FlowOptions) (packets : List FlowPacket) → StandsFor m key options judge packets → r ≡ row packets key m options)
    → more ≡ rows ++ r ∷ [] → HasRows s worker file fed before rows left → HasRows s worker file fed before more later
rows-some s worker file fed before rows more place judge left later r e some gives pushed h =
    let P : ℕ → Option PlainJudge → Type 0 = λ n. IsPlace s worker (key_of file n) (fed (key_of file n)) in
    let each = subst (EachFrom P h.number) e h.each in
    let key = key_of file h.number in
    let own = subst (P h.number) some each.0 in
    let is : r ≡ row_over s key (fed key) = gives (media_of s.media key) key s.options (fed key) own.1 in
    let rest : List Row = own_rows s worker fed (keys_of_file file (h.number + 1) (length later)) in
    record {
      number = h.number + 1;
      each = each.1;
      whole = ap (λ (l : List Row). l ++ rest) pushed ∙ append_assoc rows (r ∷ []) rest ∙ ap (λ (x : Row). rows ++ x ∷ rest) is
          ∙ ap (λ (l : List Row). rows ++ l) (sym (own_rows-own s worker fed key (keys_of_file file (h.number + 1) (length later)) own.0))
          ∙ ap (λ (n : ℕ). rows ++ own_rows s worker fed (keys_of_file file h.number n)) (sym (ap length e)) ∙ h.whole;
    }

-- no place is left
pub rows-all : (s : Setting) (worker file : ℕ) (fed : FlowKey → List FlowPacket) (before rows : List Row) (left : List (Option PlainJudge)) → length left ≡ 0
    → HasRows s worker file fed before rows left → rows ≡ before ++ own_rows s worker fed (keys_of_file file 0 (length s.media))
rows-all s worker file fed before rows left e h =
    sym (append-nil rows) ∙ ap (λ (n : ℕ). rows ++ own_rows s worker fed (keys_of_file file h.number n)) (sym e) ∙ h.whole
