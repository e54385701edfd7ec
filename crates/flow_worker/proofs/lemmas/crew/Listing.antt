-- The keys of a run, and the receipts for their rows.
use Rattle.std.proofs.Common.{◌≡◌, ◌≤◌, ◌<◌, ◌+◌, ℕ, zero, suc, Bool, true, false, List, [], ◌∷◌, length, map, slice_index_or, Some, None, if◌then◌else◌, sym}
use Rattle.std.proofs.Common.{ap, ◌∙◌, subst, refl, arith, Vec, Global}
use Rattle.std.specs.Prelude.{All, Option}
use Rattle.std.proofs.lemmas.List.{length-map}
use Rattle.std.proofs.lemmas.List.Elements.{All-append, All-cons, All-nil}
use Rattle.timing_base.specs.Keys.{key_of, keys_of, keys_of_file, keys_of_files}
use Rattle.timing_base.specs.declared.key.FlowKey.{FlowKey}
use Rattle.timing_base.specs.declared.row.Row.{Row}
use Rattle.verdict_book.specs.declared.book.Book.{Book}
use Rattle.verdict_book.specs.declared.book.Receipt.{Receipt}
use Rattle.flow_worker.specs.crew.Ends.{receipts_in}
use Rattle.flow_worker.specs.crew.Gathering.{AreQueued, ArePosted, IsKeyOf}

-- what holds of each media of a file holds of its keys
file_keys : (P : FlowKey → Type 0) (file first n : ℕ) → ((m : ℕ) → m < first + n → P (key_of file m)) → All P (keys_of_file file first n)
file_keys P file first zero each = All-nil P
file_keys P file first (suc n) each =
    All-cons P (key_of file first) (keys_of_file file (first + 1) n) (each first (omega arith))
    (file_keys P file (first + 1) n (λ m h. each m (omega (arith, h))))

files_keys : (P : FlowKey → Type 0) (first n media : ℕ) → ((f m : ℕ) → f < first + n → m < media → P (key_of f m)) → All P (keys_of_files first n media)
files_keys P first zero media each = All-nil P
files_keys P first (suc n) media each =
    All-append P (keys_of_file first 0 media) (keys_of_files (first + 1) n media)
    (file_keys P first 0 media (λ m h. each first m (omega arith) (omega (arith, h))))
    (files_keys P (first + 1) n media (λ f m h k. each f m (omega (arith, h)) k))

-- what holds of each media of each file holds of the keys of the run
pub keys-all : (P : FlowKey → Type 0) (joined : Bool) (files media : ℕ) → ((f m : ℕ) → f < (if joined then 1 else files) → m < media → P (key_of f m))
    → All P (keys_of joined files media)
keys-all P joined files media each = files_keys P 0 (if joined then 1 else files) media (λ f m h k. each f m (omega (arith, h)) k)

one_or : (joined : Bool) (files f : ℕ) → files ≤ 16 → f < (if joined then 1 else files) → f < 16
one_or true files f h k = omega (arith, k)
one_or false files f h k = omega (arith, h, k)

-- the keys that are listed are those of the run
pub keys-are : (joined : Bool) (files media count : ℕ) (listed : List FlowKey) → count ≡ (if joined then 1 else files) → listed ≡ keys_of_files 0 count media
    → listed ≡ keys_of joined files media
keys-are joined files media count listed a b = b ∙ ap (λ n. keys_of_files 0 n media) a

-- so each is a key of one of 16 files
pub keys-within : (joined : Bool) (files media : ℕ) (listed : List FlowKey) → files ≤ 16 → listed ≡ keys_of joined files media → All (IsKeyOf media) listed
keys-within joined files media listed few e =
    subst (All (IsKeyOf media)) (sym e) (keys-all (IsKeyOf media) joined files media (λ f m h k. record { file = one_or joined files f few h; media_is = k }))

receipts_at : {A : Type 0} (f : A → List Receipt) (qs : List A) (n : ℕ) → n < length qs
    → slice_index_or (map (λ q. Some (f q)) qs) n None ≡ Some (slice_index_or (map f qs) n [])
receipts_at f [] n h = absurd (omega (arith, h))
receipts_at f (q ∷ qs) zero h = refl
receipts_at f (q ∷ qs) (suc n) h = receipts_at f qs n (omega (arith, h))

-- receipts that are there for all workers are queued
pub queued_by : {A : Type 0} (f : A → List Receipt) (book : Book) (row_for : FlowKey → Row) (media workers : ℕ) (keys listed : List FlowKey)
    (posted : List (Option (Vec Receipt Global))) (queues : List A)
    → map receipts_in posted ≡ map (λ q. Some (f q)) queues → listed ≡ keys → ArePosted book row_for media workers keys posted
    → AreQueued book row_for media workers listed (map f queues)
queued_by f book row_for media workers keys listed posted queues e same are =
    subst (λ (l : List FlowKey). AreQueued book row_for media workers l (map f queues)) (sym same)
    (λ w below.
    let here : w < length queues = let a = length-map queues f in omega (arith, below, a) in
    let long : length posted ≡ length queues = sym (length-map posted receipts_in) ∙ ap length e ∙ length-map queues (λ q. Some (f q)) in
    are w (omega (arith, here, long)) (slice_index_or (map f queues) w []) (ap (λ l. slice_index_or l w None) e ∙ receipts_at f queues w here))
