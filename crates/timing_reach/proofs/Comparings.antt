-- Captures of two flows that are read one after the other.
use Rattle.std.specs.Prelude.{IfErr, IfOk, Result, Ok, Err, slice_index_or, ◌==◌}
use Rattle.std.specs.Result.{IsErrAnd}
use Rattle.std.proofs.Common.{◌≡◌, ◌≢◌, ◌≤◌, ◌⊎◌, ◌<◌, ◌+◌, ℕ, true, false, List, [], ◌∷◌, ◌++◌, length, Option, Some, refl, arith, ap, ◌∙◌, sym, subst}
use Rattle.std.proofs.Common.{append-nil, length-append, inl, inr}
use Rattle.std.proofs.Math.Seq.{get_or-append_seam}
use Rattle.std.proofs.lemmas.Bool.{eq-eqb}
use Rattle.std.proofs.lemmas.Bool.Decides.{eqb_tells}
use Rattle.timing_base.specs.Captures.{Record}
use Rattle.timing_base.specs.Media.{Media}
use Rattle.timing_base.specs.declared.packet.FlowPacket.{FlowPacket}
use Rattle.path_skew.specs.Pair.{skew}
use Rattle.path_skew.specs.Stands.{StandsFor}
use Rattle.path_skew.specs.declared.skew.Skew.{Skew}
use Rattle.pcap_reader.specs.Records.{AreRecords}
use Rattle.pcap_reader.specs.declared.records.Taken.{Taken}
use Rattle.pcap_reader.proofs.Captures.{files-length, records-push}
use Rattle.timing_report.specs.declared.status.Input.TheVariants as input
use Rattle.timing_steps.specs.Answers.{CaptureRose, OnReadFault}
use Rattle.timing_steps.specs.Taken.{TakesText}
use Rattle.timing_steps.specs.declared.failure.Failure.{Failure}
use Rattle.timing_steps.specs.declared.failure.Failure.TheVariants as failure
use Rattle.timing_steps.proofs.Seeing.{rose-within}
use Rattle.udp_rtp.specs.Flow.{flow}
use Rattle.timing_reach.specs.skew.Added.{Adds, taken_of}
use Rattle.timing_reach.specs.skew.Comparing.{AreCompared, ComparesNext, IsComparedIn}
use Rattle.timing_reach.specs.skew.Paired.{packets_in}
use Rattle.timing_reach.specs.skew.Pairs.{PairsOn, taken-none}
use Rattle.timing_reach.specs.Skewed.{first_of, last_of}
use Rattle.timing_reach.specs.declared.skew.compare.Compared.{Compared}
use Rattle.timing_reach.specs.declared.skew.compare.Comparing.{Comparing}
use Rattle.timing_reach.specs.declared.skew.pairing.Pairing.{Pairing}
use Rattle.timing_reach.proofs.Takings.{fed-alone}

eqb-other : (x y : ℕ) → x ≢ y → (x == y) ≡ false
eqb-other x y h = by-case (eqb_tells x y)
  where
    by-case : ((x == y) ≡ true) × (x ≡ y) ⊎ ((x == y) ≡ false) × (x ≢ y) → (x == y) ≡ false
    by-case (inl is) = absurd (h is.1)
    by-case (inr is) = is.0

-- the first flow is of the first capture
first-more : (files : List (List Record)) (items : List Record) (a : Media)
    → flow (first_of files) a ++ taken_of (length files == 0) a items ≡ flow (first_of (files ++ items ∷ [])) a
first-more [] items a = refl
first-more (f ∷ fs) items a =
    ap (λ b. flow f a ++ taken_of b a items) (eqb-other (length (f ∷ fs)) 0 (omega arith)) ∙ append-nil (flow f a)

-- and the second of the last
last-more : (files : List (List Record)) (items : List Record) (b : Media) (count : ℕ) → length files < count
    → taken_of (length files == count) b (last_of files) ++ taken_of (length files + 1 == count) b items
    ≡ taken_of (length (files ++ items ∷ []) == count) b (last_of (files ++ items ∷ []))
last-more files items b count within =
    let long : length (files ++ items ∷ []) ≡ length files + 1 = length-append files (items ∷ []) in
    let last : last_of (files ++ items ∷ []) ≡ items =
    ap (λ n. slice_index_or (files ++ items ∷ []) n []) (omega (arith, long)) ∙ get_or-append_seam files items [] [] in
    ap (λ x. taken_of x b (last_of files) ++ taken_of (length files + 1 == count) b items) (eqb-other (length files) count (omega (arith, within)))
    ∙ ap (λ n. taken_of (n == count) b items) (sym long) ∙ ap (taken_of (length (files ++ items ∷ []) == count) b) (sym last)

-- no capture was read yet
pub compared-none : (a b : Media) (count : ℕ) (c : Comparing) → c.notes.items ≡ [] → c.pairing.first.media ≡ a → c.pairing.second.media ≡ b
    → StandsFor c.pairing.skew [] [] → AreCompared [] a b count c
compared-none a b count c none first second stands = record {
  files = [];
  records = subst (AreRecords [] []) (sym none) tt;
  first = first;
  second = second;
  stands = subst (StandsFor c.pairing.skew []) (sym (taken-none (0 == count) b)) stands;
}

-- one capture more was read
compared-more : (texts : List (List ℕ)) (text : List ℕ) (a b : Media) (count : ℕ) (old new : Comparing) → length old.notes.items < count
    → AreCompared texts a b count old → ComparesNext text count old new
    → AreCompared (texts ++ text ∷ []) a b count new
compared-more texts text a b count old new within h next =
    let long : length h.files ≡ length old.notes.items = files-length texts h.files old.notes.items h.records in
    let first : taken_of (length old.notes.items == 0) old.pairing.first.media next.items ≡ taken_of (length h.files == 0) a next.items =
    ap (λ n. taken_of (n == 0) old.pairing.first.media next.items) (sym long) ∙ ap (λ (m : Media). taken_of (length h.files == 0) m next.items) h.first in
    let second : taken_of (length old.notes.items + 1 == count) old.pairing.second.media next.items ≡ taken_of (length h.files + 1 == count) b next.items =
    ap (λ n. taken_of (n + 1 == count) old.pairing.second.media next.items) (sym long)
    ∙ ap (λ (m : Media). taken_of (length h.files + 1 == count) m next.items) h.second in
    record {
      files = h.files ++ next.items ∷ [];
      records = subst (AreRecords (texts ++ text ∷ []) (h.files ++ next.items ∷ [])) (sym next.notes)
          (records-push texts h.files old.notes.items text next.items next.note h.records next.records);
      first = next.first ∙ h.first;
      second = next.second ∙ h.second;
      stands =
          subst (λ f. StandsFor new.pairing.skew f (taken_of (length (h.files ++ next.items ∷ []) == count) b (last_of (h.files ++ next.items ∷ []))))
          (ap (λ l. flow (first_of h.files) a ++ l) first ∙ first-more h.files next.items a)
          (subst (StandsFor new.pairing.skew (flow (first_of h.files) a ++ taken_of (length old.notes.items == 0) old.pairing.first.media next.items))
          (ap (λ l. taken_of (length h.files == count) b (last_of h.files) ++ l) second ∙ last-more h.files next.items b count (omega (arith, long, within)))
          (next.adds (flow (first_of h.files) a) (taken_of (length h.files == count) b (last_of h.files)) h.stands));
    }

pub compared-next : (outcome : Result (Unit {0}) Failure) (left : Option (List ℕ)) (a b : Media) (count : ℕ) (old new : Comparing)
    → length old.notes.items < count
    → IfOk outcome (λ _. (text : List ℕ) → left ≡ Some text → ComparesNext text count old new)
    → IfOk outcome (λ _. (read : List (List ℕ)) (text : List ℕ) → left ≡ Some text → AreCompared read a b count old
    → AreCompared (read ++ text ∷ []) a b count new)
compared-next (Ok u) left a b count old new within h = λ read text whole are. compared-more read text a b count old new within are (h text whole)
compared-next (Err e) left a b count old new within h = tt

-- all captures were read
pub compared-all : (texts : List (List ℕ)) (a b : Media) (count : ℕ) (c : Comparing) (done : Compared) → AreCompared texts a b count c
    → length c.notes.items ≡ count → done.notes.items ≡ c.notes.items
    → ((f g : List FlowPacket) → StandsFor c.pairing.skew f g → done.row ≡ skew f g) → IsComparedIn texts a b done
compared-all texts a b count c done h all notes row =
    let long : length h.files ≡ count = files-length texts h.files c.notes.items h.records ∙ all in
    record {
      files = h.files;
      records = subst (AreRecords texts h.files) (sym notes) h.records;
      row_is = row (flow (first_of h.files) a) (flow (last_of h.files) b)
          (subst (λ x. StandsFor c.pairing.skew (flow (first_of h.files) a) (taken_of x b (last_of h.files))) (eq-eqb (length h.files) count long) h.stands);
    }

-- a capture's records were taken
pub compares-next : (text : List ℕ) (count : ℕ) (old new : Comparing) (turned taken : Pairing) (read : Taken)
    → turned.first.media ≡ old.pairing.first.media → turned.second.media ≡ old.pairing.second.media
    → turned.first.is_here ≡ (length old.notes.items == 0) → turned.second.is_here ≡ (length old.notes.items + 1 == count) → turned.skew ≡ old.pairing.skew
    → TakesText PairsOn text 0 turned taken read → new.notes.items ≡ old.notes.items ++ read.note ∷ [] → new.pairing ≡ taken → ComparesNext text count old new
compares-next text count old new turned taken read first second first_here second_here kept t notes is =
    let items = t.items in
    let fed = fed-alone PairsOn text turned taken read t in
    let one : packets_in turned.first items ≡ taken_of (length old.notes.items == 0) old.pairing.first.media items =
    ap (λ b. taken_of b turned.first.media items) first_here ∙ ap (λ (m : Media). taken_of (length old.notes.items == 0) m items) first in
    let two : packets_in turned.second items ≡ taken_of (length old.notes.items + 1 == count) old.pairing.second.media items =
    ap (λ b. taken_of b turned.second.media items) second_here ∙ ap (λ (m : Media). taken_of (length old.notes.items + 1 == count) m items) second in
    record {
      items = items;
      note = read.note;
      records = t.records;
      notes = notes;
      first = ap (λ (p : Pairing). p.first.media) is ∙ fed.first.media ∙ first;
      second = ap (λ (p : Pairing). p.second.media) is ∙ fed.second.media ∙ second;
      adds =
          let last = taken_of (length old.notes.items + 1 == count) old.pairing.second.media items in
          subst (λ (s : Skew). Adds s new.pairing.skew (taken_of (length old.notes.items == 0) old.pairing.first.media items) last) kept
          (subst (λ (p : Pairing). Adds turned.skew p.skew (taken_of (length old.notes.items == 0) old.pairing.first.media items) last) (sym is)
          (subst (λ f. Adds turned.skew taken.skew f last) one (subst (Adds turned.skew taken.skew (packets_in turned.first items)) two fed.adds)));
    }

-- what holds whatever the value is
pub on-ok : {T E : Type 0} (result : Result T E) (P : Type 0) → P → IfOk result (λ _. P)
on-ok (Ok x) P h = h
on-ok (Err e) P h = tt

-- a capture's count rose in a part of the run, which asked by the names of the job
pub cause-before : {T : Type 0} (result : Result T Failure) (before mid now : List ℕ → ℕ) (names asked : List (List ℕ)) → names ≡ asked
    → ((n : List ℕ) → before n ≤ mid n)
    → IfErr result (λ e. OnReadFault e (λ i. (number : ℕ) × (i ≡ input.Capture number) × CaptureRose mid now names number))
    → IfErr result (λ e. OnReadFault e (λ i. (number : ℕ) × (i ≡ input.Capture number) × CaptureRose before now asked number))
cause-before (Ok x) before mid now names asked same earlier h = tt
cause-before (Err (failure.ReadFault i)) before mid now names asked same earlier h =
    let n = slice_index_or names h.0 [] in (
      h.0,
      h.1,
      subst (λ (l : List (List ℕ)). CaptureRose before now l h.0) same
          (record { within = h.2.within; rose = rose-within (before n) (mid n) (now n) (now n) (earlier n) (omega arith) h.2.rose }),
    )
cause-before (Err failure.WriteFault) before mid now names asked same earlier h = h
cause-before (Err failure.OutOfMemory) before mid now names asked same earlier h = tt

-- a fault that is passed on, where the job has the names that were asked
pub cause-passed : {T : Type 0} (result : Result T Failure) (e : Failure) (before now : List ℕ → ℕ) (names asked : List (List ℕ)) → names ≡ asked
    → IsErrAnd result (λ x. x ≡ e)
    → OnReadFault e (λ i. (number : ℕ) × (i ≡ input.Capture number) × CaptureRose before now names number)
    → IfErr result (λ e. OnReadFault e (λ i. (number : ℕ) × (i ≡ input.Capture number) × CaptureRose before now asked number))
cause-passed (Ok x) e before now names asked same is h = absurd is
cause-passed (Err x) e before now names asked same is h =
    subst (λ (l : List (List ℕ)). OnReadFault x (λ i. (number : ℕ) × (i ≡ input.Capture number) × CaptureRose before now l number)) same
    (subst (λ (y : Failure). OnReadFault y (λ i. (number : ℕ) × (i ≡ input.Capture number) × CaptureRose before now names number)) (sym is) h)
