-- Lemmas on what a window reads of a text, and on what is then still to be given.
use Rattle.std.proofs.Common.{subst, refl, ◌≡◌, ◌≤◌, ◌<◌, ◌+◌, ℕ, List, [], ◌∷◌, length, take, drop, None, Some, Ok, sym, ap, ◌∙◌, arith, length-append}
use Rattle.std.specs.Prelude.{Option}
use Rattle.std.specs.Io.KnownBytes.{Keeps, IsAtEnd, prepend_known}
use Rattle.std.proofs.KnownBytes.{Keeps-trans}
use Rattle.timing_base.specs.Captures.{Record}
use Rattle.timing_base.specs.declared.capture.PcapFault.TheVariants as fault
use Rattle.pcap_reader.specs.declared.layout.Layout.{Layout}
use Rattle.pcap_reader.specs.declared.stage.Head.{Head}
use Rattle.pcap_reader.specs.declared.stage.Stage.{Stage}
use Rattle.pcap_reader.specs.declared.stage.Stage.TheVariants as stage
use Rattle.pcap_reader.specs.declared.window.Window.{Window}
use Rattle.timing_base.specs.declared.capture.FileNote.{FileNote}
use Rattle.timing_base.specs.declared.capture.FileNote.TheVariants.{End, Cut, Refused}
use Rattle.pcap_reader.specs.Windows.{held_bytes, last_bytes, SameRecord, front_note}
use Rattle.pcap_reader.specs.Records.{captured, stamp, note_at, record_of, RecordsFrom, UnlessReadFault}
use Rattle.pcap_reader.specs.Readers.{StageGives}
use Rattle.pcap_reader.specs.Finding.{FoundGives}
use Rattle.pcap_reader.proofs.Texts.{note_at-none, note_at-short, note_at-read, captured-read, stamp-read, bytes-read, ahead-let_go, text_at_end, known_text}

-- what holds of each note holds of each that is no failed read
pub unless_read_fault : (e : FileNote) (P : Type 0) → P → UnlessReadFault e P
unless_read_fault (Refused fault.ReadFault) P p = tt
unless_read_fault e P p = p

-- and so does what follows from it
pub unless-map : (e : FileNote) (P Q : Type 0) → (P → Q) → UnlessReadFault e P → UnlessReadFault e Q
unless-map (Refused fault.ReadFault) P Q f p = tt
unless-map e P Q f p = f p

-- what a window that holds a record's head says of the text's note
pub note_at-front_note : (l : Layout) (v w : Window) (a b : Option (List ℕ)) (text : List ℕ) → SameRecord v w → Keeps a (prepend_known (held_bytes w) b)
    → a ≡ Some text → 16 ≤ length (held_bytes w)
    → note_at l v.most (v.count + 1) v.place text ≡ front_note l w (length text)
note_at-front_note l v w a b text same p e m =
    ap (λ k. note_at l k (v.count + 1) v.place text) (sym same.most) ∙ ap (λ k. note_at l w.most (k + 1) v.place text) (sym same.count)
    ∙ ap (λ k. note_at l w.most (w.count + 1) k text) (sym same.place) ∙ note_at-read l w.most (w.count + 1) w.place a b (held_bytes w) text p e m

-- a text that ends within a record
pub note_at-cut : (l : Layout) (v w1 w2 : Window) (a b c : Option (List ℕ)) (text : List ℕ) (n : ℕ) → SameRecord v w1 → SameRecord w1 w2
    → Keeps a (prepend_known (held_bytes w1) b) → Keeps (prepend_known (held_bytes w1) b) (prepend_known (held_bytes w2) c) → a ≡ Some text
    → 16 ≤ length (held_bytes w1)
    → IsAtEnd c → length (held_bytes w2) < 16 + n → ((long : ℕ) → long < 16 + n → front_note l w1 long ≡ Some (Cut w1.place))
    → note_at l v.most (v.count + 1) v.place text ≡ Some (Cut w2.place)
note_at-cut l v w1 w2 a b c text n same1 same2 p q e m end few cut =
    let t : text ≡ held_bytes w2 = text_at_end a c (held_bytes w2) text (Keeps-trans a _ _ p q) e end in
    let short : length text < 16 + n = subst (λ k. length k < 16 + n) (sym t) few in
    note_at-front_note l v w1 a b text same1 p e m ∙ cut (length text) short ∙ ap (λ k. Some (Cut k)) (sym same2.place)

-- a text that ends right here
pub note_at-here : (l : Layout) (v w : Window) (a b : Option (List ℕ)) (text : List ℕ) → Keeps a (prepend_known (held_bytes w) b) → a ≡ Some text → IsAtEnd b
    → length (held_bytes w) ≡ 0
    → note_at l v.most (v.count + 1) v.place text ≡ Some End
note_at-here l v w a b text p e end none =
    note_at-none l v.most (v.count + 1) v.place text (ap length (text_at_end a b (held_bytes w) text p e end) ∙ none)

-- a text that ends within the head of a record
pub note_at-in_head : (l : Layout) (v w : Window) (a b : Option (List ℕ)) (text : List ℕ) → SameRecord v w → Keeps a (prepend_known (held_bytes w) b)
    → a ≡ Some text
    → IsAtEnd b → 0 < length (held_bytes w) → length (held_bytes w) < 16 → note_at l v.most (v.count + 1) v.place text ≡ Some (Cut w.place)
note_at-in_head l v w a b text same p e end some few =
    let long : length text ≡ length (held_bytes w) = ap length (text_at_end a b (held_bytes w) text p e end) in
    note_at-short l v.most (v.count + 1) v.place text (omega (arith, long, some)) (omega (arith, long, few)) ∙ ap (λ k. Some (Cut k)) (sym same.place)

-- nothing is no note
pub none_some : (e : FileNote) → None ≡ Some e → ⊥
none_some e p = cc

-- a text is at least as long as what is held of it
long_enough : (a b : Option (List ℕ)) (h text : List ℕ) (n : ℕ) → Keeps a (prepend_known h b) → a ≡ Some text → n ≤ length h → n ≤ length text
long_enough a b h text n p e m = let k = known_text a b h text p e in subst (λ t. n ≤ length t) (sym k.2) (omega (arith, length-append h k.0, m))

-- the record that was let go is the next of the text, and what is behind it is still to come
abbrev IsNext : Layout → (old new : Window) → List ℕ → Option (List ℕ) → Head → Type 0
IsNext layout old new text rest head =
    (note_at layout old.most (old.count + 1) old.place text ≡ None)
    × (record_of layout (old.count + 1) text ≡ record { number = new.count; stamp = head.at; bytes = last_bytes head.captured new })
    × (new.place ≡ old.place + 16 + captured layout text)
    × (rest ≡ Some (drop (16 + captured layout text) text))

-- a record of these parts
abbrev pub make : ℕ → ℕ → List ℕ → Record
make a b c = record { number = a; stamp = b; bytes = c }

-- equal parts make equal records
pub record_is : (n m s t : ℕ) (xs ys : List ℕ) → n ≡ m → s ≡ t → xs ≡ ys
    → make n s xs ≡ make m t ys
record_is n m s t xs ys e f g =
    ap (λ a. make a s xs) e ∙ ap (λ b. make m b xs) f ∙ ap (λ c. make m t c) g

-- a record that was let go is the next of the text
pub reads_record : (l : Layout) (v w1 w2 new : Window) (a b c : Option (List ℕ)) (text : List ℕ) (head : Head) → SameRecord v w1 → SameRecord w1 w2
    → Keeps a (prepend_known (held_bytes w1) b) → Keeps (prepend_known (held_bytes w1) b) (prepend_known (held_bytes w2) c) → a ≡ Some text
    → 16 ≤ length (held_bytes w1)
    → 16 + head.captured ≤ length (held_bytes w2) → head.at ≡ stamp l (held_bytes w1) → head.captured ≡ captured l (held_bytes w1)
    → ((long : ℕ) → 16 + head.captured ≤ long → front_note l w1 long ≡ None)
    → held_bytes new ≡ drop (16 + head.captured) (held_bytes w2) → last_bytes head.captured new ≡ take head.captured (drop 16 (held_bytes w2))
    → new.place ≡ w2.place + 16 + head.captured → new.count ≡ w2.count + 1
    → IsNext l v new text (prepend_known (held_bytes new) c) head
reads_record l v w1 w2 new a b c text head same1 same2 p q e m long at cap whole rest bytes place count =
    let pq = Keeps-trans a _ _ p q in
    let n : captured l text ≡ head.captured = captured-read l a b (held_bytes w1) text p e m ∙ sym cap in
    let full : 16 + head.captured ≤ length text = long_enough a c (held_bytes w2) text (16 + head.captured) pq e long in
    let here : w2.place ≡ v.place = same2.place ∙ same1.place in
    let counted : w2.count ≡ v.count = same2.count ∙ same1.count in (
      note_at-front_note l v w1 a b text same1 p e m ∙ whole (length text) full,
      record_is _ _ _ _ _ _ (ap (λ k. k + 1) (sym counted) ∙ sym count) (stamp-read l a b (held_bytes w1) text p e m ∙ sym at)
          (ap (λ k. take k (drop 16 text)) n ∙ bytes-read a c (held_bytes w2) text head.captured pq e long ∙ sym bytes),
      place ∙ ap (λ k. k + 16 + head.captured) here ∙ ap (λ k. v.place + 16 + k) (sym n),
      ahead-let_go a c (held_bytes w2) (held_bytes new) text (16 + head.captured) pq e long rest ∙ ap (λ k. Some (drop (16 + k) text)) (sym n),
    )

-- a note is known from its option
pub some-injective : (x y : FileNote) → Some x ≡ Some y → x ≡ y
some-injective x y e = cc

-- what is to be given at a stage that is known
pub gives-at : (s t : Stage) (w : Window) (known : Option (List ℕ)) (items : List Record) (end : FileNote) → s ≡ t → StageGives s w known items end
    → StageGives t w known items end
gives-at s t w known items end e p = subst (λ k. StageGives k w known items end) e p

-- a record that was read is the first of those that were to be given
pub gives-frame : (l : Layout) (old new : Window) (text : List ℕ) (rest : Option (List ℕ)) (head : Head) (items : List Record) (end : FileNote)
    → IsNext l old new text rest head → new.count ≡ old.count + 1 → new.most ≡ old.most → RecordsFrom l old.most (old.count + 1) old.place text items end
    → new.stage ≡ stage.Records l → FoundGives new rest (Ok head) items end
gives-frame l old new text rest head [] end r count most p s = absurd (none_some end (sym r.0 ∙ p))
gives-frame l old new text rest head (item ∷ items) end r count most p s =
    let later = p.2 in
    let at : List ℕ = drop (16 + captured l text) text in
    let moved : RecordsFrom l new.most (new.count + 1) new.place at items end =
    subst (λ k. RecordsFrom l new.most (new.count + 1) k at items end) (sym r.2)
    (subst (λ k. RecordsFrom l new.most (k + 1) (old.place + 16 + captured l text) at items end) (sym count)
    (subst (λ k. RecordsFrom l k (old.count + 1 + 1) (old.place + 16 + captured l text) at items end) (sym most) later)) in
    (items, ap (λ i. i ∷ items) (p.1 ∙ r.1), gives-at _ _ new rest items end (sym s) (at, r.3, moved))

-- where none is read, nothing was to be given but that end
pub gives-note : (l : Layout) (old : Window) (text : List ℕ) (e : FileNote) (items : List Record) (end : FileNote)
    → UnlessReadFault e (note_at l old.most (old.count + 1) old.place text ≡ Some e) → RecordsFrom l old.most (old.count + 1) old.place text items end
    → UnlessReadFault e ((items ≡ []) × (end ≡ e))
gives-note l old text e [] end r p = unless-map e _ _ (λ q. (refl, some-injective end e (sym p ∙ q))) r
gives-note l old text e (item ∷ items) end r p = unless-map e _ _ (λ q. absurd (none_some e (sym p.0 ∙ q))) r
