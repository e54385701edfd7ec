-- What messages say of one file: whether its end is among them, what comes before it, and what it tells. All of it is a
-- matter of the file's own messages, and a list that begins all of them and has the end is all of them.
use Rattle.std.proofs.Common.{◌≡◌, ℕ, Bool, true, false, cond, eqb, ◌||◌, if◌then◌else◌, List, [], ◌∷◌, ◌++◌, refl, sym, ap, ap₂, ◌∙◌, eq-eqb}
use Rattle.std.proofs.lemmas.Bool.{false≢true}
use Rattle.timing_base.specs.declared.capture.FileNote.{FileNote}
use Rattle.ruled_intake.specs.Packets.{Packet}
use Rattle.ruled_intake.specs.declared.message.Message.{Message}
use Rattle.ruled_intake.specs.declared.message.Message.TheVariants.{Batch, End}
use Rattle.flow_worker.specs.Messages.{before_end, has_end, of_file, packets_in, records_told, batch, ending}
use Rattle.flow_worker.specs.Cut.{AreBatches}

-- of a message that is kept or not
either : (P : List Message → Type 0) (b : Bool) (m : Message) (ms : List Message) → P (m ∷ ms) → P ms → P (cond b (m ∷ ms) ms)
either P true m ms h k = h
either P false m ms h k = k

has_end-ending : (f g : ℕ) (note : FileNote) (n : ℕ) (xs ms : List Message) (b : Bool) → eqb g f ≡ b → has_end f xs ≡ has_end f ms
    → has_end f (cond b (ending g note n ∷ xs) xs) ≡ (b || has_end f ms)
has_end-ending f g note n xs ms true e more = ap (λ (c : Bool). c || has_end f xs) e
has_end-ending f g note n xs ms false e more = more

-- whether the end is among the messages
pub has_end-of_file : (f : ℕ) (ms : List Message) → has_end f (of_file f ms) ≡ has_end f ms
has_end-of_file f [] = refl
has_end-of_file f (Batch one ∷ ms) =
    either (λ l. has_end f l ≡ has_end f ms) (eqb one.file f) (batch one.file one.packets) (of_file f ms) (has_end-of_file f ms) (has_end-of_file f ms)
has_end-of_file f (End one ∷ ms) = has_end-ending f one.file one.note one.records (of_file f ms) ms (eqb one.file f) refl (has_end-of_file f ms)

before_end-batch : (f g : ℕ) (ps : List Packet) (xs ms : List Message) (b : Bool) → of_file f xs ≡ before_end f ms
    → cond b (batch g ps ∷ of_file f xs) (of_file f xs) ≡ before_end f (cond b (batch g ps ∷ ms) ms)
before_end-batch f g ps xs ms true more = ap (λ (l : List Message). batch g ps ∷ l) more
before_end-batch f g ps xs ms false more = more

before_end-ending : (f g : ℕ) (note : FileNote) (n : ℕ) (xs ms : List Message) (b : Bool) → eqb g f ≡ b → of_file f xs ≡ before_end f ms
    → of_file f (cond b [] (ending g note n ∷ xs)) ≡ before_end f (cond b (ending g note n ∷ ms) ms)
before_end-ending f g note n xs ms true e more = sym (ap (λ (c : Bool). cond c [] (ending g note n ∷ before_end f ms)) e)
before_end-ending f g note n xs ms false e more = ap (λ (c : Bool). cond c (ending g note n ∷ of_file f xs) (of_file f xs)) e ∙ more

-- what comes before the end
pub before_end-of_file : (f : ℕ) (ms : List Message) → of_file f (before_end f ms) ≡ before_end f (of_file f ms)
before_end-of_file f [] = refl
before_end-of_file f (Batch one ∷ ms) = before_end-batch f one.file one.packets (before_end f ms) (of_file f ms) (eqb one.file f) (before_end-of_file f ms)
before_end-of_file f (End one ∷ ms) =
    before_end-ending f one.file one.note one.records (before_end f ms) (of_file f ms) (eqb one.file f) refl (before_end-of_file f ms)

records_told-ending : (f g : ℕ) (note : FileNote) (n : ℕ) (xs ms : List Message) (b : Bool) → eqb g f ≡ b → records_told f xs ≡ records_told f ms
    → records_told f (cond b (ending g note n ∷ xs) xs) ≡ (if b then n else records_told f ms)
records_told-ending f g note n xs ms true e more = ap (λ (c : Bool). if c then n else records_told f xs) e
records_told-ending f g note n xs ms false e more = more

-- what the end tells
pub records_told-of_file : (f : ℕ) (ms : List Message) → records_told f (of_file f ms) ≡ records_told f ms
records_told-of_file f [] = refl
records_told-of_file f (Batch one ∷ ms) =
    either (λ l. records_told f l ≡ records_told f ms) (eqb one.file f) (batch one.file one.packets) (of_file f ms) (records_told-of_file f ms)
    (records_told-of_file f ms)
records_told-of_file f (End one ∷ ms) = records_told-ending f one.file one.note one.records (of_file f ms) ms (eqb one.file f) refl (records_told-of_file f ms)

-- where the end is among messages that begin batches and an end, all batches come before it
pub before_end-whole : (f : ℕ) (note : FileNote) (n : ℕ) (xs bs more : List Message) → AreBatches f bs → xs ++ more ≡ bs ++ ending f note n ∷ []
    → has_end f xs ≡ true → (packets_in (before_end f xs) ≡ packets_in bs) × (records_told f xs ≡ n)
before_end-whole f note n [] bs more are e ended = absurd (false≢true ended)
before_end-whole f note n (Batch one ∷ xs) [] more are e ended = cc
before_end-whole f note n (End one ∷ xs) [] more are e ended =
    let file : one.file ≡ f = cc in
    let told : one.records ≡ n = cc in (
      ap (λ (b : Bool). packets_in (cond b [] (ending one.file one.note one.records ∷ before_end f xs))) (eq-eqb one.file f file),
      ap (λ (b : Bool). if b then one.records else records_told f xs) (eq-eqb one.file f file) ∙ told,
    )
before_end-whole f note n (Batch one ∷ xs) (Batch other ∷ bs) more are e ended =
    let tail : xs ++ more ≡ bs ++ ending f note n ∷ [] = cc in
    let same : one.packets ≡ other.packets = cc in
    let t = before_end-whole f note n xs bs more are.1 tail ended in
    (ap₂ (λ (k l : List Packet). k ++ l) same t.0, t.1)
before_end-whole f note n (End one ∷ xs) (Batch other ∷ bs) more are e ended = cc
before_end-whole f note n (Batch one ∷ xs) (End other ∷ bs) more are e ended = absurd are
before_end-whole f note n (End one ∷ xs) (End other ∷ bs) more are e ended = absurd are
