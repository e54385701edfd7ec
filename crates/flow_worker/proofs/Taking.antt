-- What one message more, or more of them, makes of what was taken. Citations for a worker that goes through its messages.
use Rattle.std.proofs.Common.{◌≡◌, ◌<◌, ◌+◌, ℕ, zero, suc, Bool, true, false, cond, if◌then◌else◌, eqb, ◌||◌, List, [], ◌∷◌, ◌++◌, map, refl, sym, ap, ap₂, ◌∙◌}
use Rattle.std.proofs.Common.{eq-eqb, append_assoc, append-nil, arith}
use Rattle.std.proofs.lemmas.Bool.{both_ways, false≢true}
use Rattle.std.proofs.lemmas.List.Elements.{filter-append}
use Rattle.timing_base.specs.declared.capture.FileNote.{FileNote}
use Rattle.timing_base.specs.declared.packet.FlowPacket.{FlowPacket}
use Rattle.ruled_intake.specs.Packets.{Packet}
use Rattle.ruled_intake.specs.declared.message.Message.{Message}
use Rattle.ruled_intake.specs.declared.message.Message.TheVariants.{Batch, End}
use Rattle.flow_worker.specs.Messages.{before_end, file_of, file_packets, has_end, media_packets, of_file, packets_in, records_told, batch, ending}
use Rattle.flow_worker.specs.Posting.{has_ends, joined_packets, raised_packet, told_by}
use Rattle.flow_worker.proofs.Lanes.{packets_in-append}
use Rattle.flow_worker.proofs.Rows.{has_ends-at}
use Rattle.flow_worker.proofs.Steps.{of_file-push_other}

-- whether the end is among these or those
pub has_end-append : (f : ℕ) (xs ys : List Message) → has_end f (xs ++ ys) ≡ (has_end f xs || has_end f ys)
has_end-append f [] ys = refl
has_end-append f (Batch one ∷ xs) ys = has_end-append f xs ys
has_end-append f (End one ∷ xs) ys =
    elim (eqb one.file f) as (λ b. (b || has_end f (xs ++ ys)) ≡ (b || has_end f xs || has_end f ys)) [ true ↦ refl | false ↦ has_end-append f xs ys ]

ended-ending : (f g : ℕ) (o : FileNote) (k : ℕ) (xs ys : List Message) (b : Bool) → eqb g f ≡ b
    → (has_end f xs ≡ true → before_end f (xs ++ ys) ≡ before_end f xs)
    → (b || has_end f xs) ≡ true → before_end f (ending g o k ∷ (xs ++ ys)) ≡ before_end f (ending g o k ∷ xs)
ended-ending f g o k xs ys true e more ended =
    ap (λ (b : Bool). cond b [] (ending g o k ∷ before_end f (xs ++ ys))) e ∙ sym (ap (λ (b : Bool). cond b [] (ending g o k ∷ before_end f xs)) e)
ended-ending f g o k xs ys false e more ended = ap (λ (l : List Message). cond (eqb g f) [] (ending g o k ∷ l)) (more ended)

-- nothing that comes behind the end counts
before_end-ended : (f : ℕ) (xs ys : List Message) → has_end f xs ≡ true → before_end f (xs ++ ys) ≡ before_end f xs
before_end-ended f [] ys ended = absurd (false≢true ended)
before_end-ended f (Batch one ∷ xs) ys ended = ap (λ (l : List Message). batch one.file one.packets ∷ l) (before_end-ended f xs ys ended)
before_end-ended f (End one ∷ xs) ys ended = ended-ending f one.file one.note one.records xs ys (eqb one.file f) refl (before_end-ended f xs ys) ended

open-ending : (f g : ℕ) (o : FileNote) (k : ℕ) (xs ys : List Message) (b : Bool) → eqb g f ≡ b
    → (has_end f xs ≡ false → before_end f (xs ++ ys) ≡ xs ++ before_end f ys)
    → (b || has_end f xs) ≡ false → before_end f (ending g o k ∷ (xs ++ ys)) ≡ ending g o k ∷ (xs ++ before_end f ys)
open-ending f g o k xs ys true e more none = absurd (both_ways true none refl)
open-ending f g o k xs ys false e more none =
    ap (λ (b : Bool). cond b [] (ending g o k ∷ before_end f (xs ++ ys))) e ∙ ap (λ (l : List Message). ending g o k ∷ l) (more none)

-- before the end all counts
before_end-open : (f : ℕ) (xs ys : List Message) → has_end f xs ≡ false → before_end f (xs ++ ys) ≡ xs ++ before_end f ys
before_end-open f [] ys none = refl
before_end-open f (Batch one ∷ xs) ys none = ap (λ (l : List Message). batch one.file one.packets ∷ l) (before_end-open f xs ys none)
before_end-open f (End one ∷ xs) ys none = open-ending f one.file one.note one.records xs ys (eqb one.file f) refl (before_end-open f xs ys) none

-- a file's packets, once its end was taken
pub file_packets-ended : (f : ℕ) (taken more : List Message) → has_end f taken ≡ true → file_packets f (taken ++ more) ≡ file_packets f taken
file_packets-ended f taken more ended = ap (λ (l : List Message). packets_in (of_file f l)) (before_end-ended f taken more ended)

-- and before
pub file_packets-open : (f : ℕ) (taken more : List Message) → has_end f taken ≡ false → file_packets f (taken ++ more) ≡ file_packets f taken
    ++ file_packets f more
file_packets-open f taken more none =
    let all : before_end f taken ≡ taken = ap (before_end f) (sym (append-nil taken)) ∙ before_end-open f taken [] none ∙ append-nil taken in
    ap (λ (l : List Message). packets_in (of_file f l)) (before_end-open f taken more none)
    ∙ ap packets_in (filter-append (λ (x : Message). eqb (file_of x) f) taken (before_end f more))
    ∙ packets_in-append (of_file f taken) (of_file f (before_end f more))
    ∙ ap (λ (l : List Message). packets_in (of_file f l) ++ file_packets f more) (sym all)

-- a batch of the file is taken
pub file_packets-batch : (f : ℕ) (taken : List Message) (ps : List Packet) → has_end f taken ≡ false → file_packets f (taken ++ batch f ps ∷ [])
    ≡ file_packets f taken ++ ps
file_packets-batch f taken ps none =
    file_packets-open f taken (batch f ps ∷ []) none
    ∙ ap (λ (b : Bool). file_packets f taken ++ packets_in (cond b (batch f ps ∷ []) [])) (eq-eqb f f refl)
    ∙ ap (λ (l : List Packet). file_packets f taken ++ l) (append-nil ps)

ending_has_none : (f g : ℕ) (o : FileNote) (k : ℕ) (b c : Bool) → packets_in (of_file f (cond b [] (ending g o k ∷ []))) ≡ []
ending_has_none f g o k true c = refl
ending_has_none f g o k false c = elim (eqb g f) as (λ b. packets_in (cond b (ending g o k ∷ []) []) ≡ []) [ true ↦ refl | false ↦ refl ]

of_whether : (f : ℕ) (taken more : List Message) (b : Bool) → has_end f taken ≡ b → file_packets f more ≡ [] → file_packets f (taken ++ more)
    ≡ file_packets f taken
of_whether f taken more true e none = file_packets-ended f taken more e
of_whether f taken more false e none =
    file_packets-open f taken more e ∙ ap (λ (l : List Packet). file_packets f taken ++ l) none ∙ append-nil (file_packets f taken)

-- an end is taken, of the file or another
pub file_packets-ending : (f g : ℕ) (o : FileNote) (k : ℕ) (taken : List Message) → file_packets f (taken ++ ending g o k ∷ []) ≡ file_packets f taken
file_packets-ending f g o k taken = of_whether f taken (ending g o k ∷ []) (has_end f taken) refl (ending_has_none f g o k (eqb g f) true)

-- a batch of another file is taken
pub file_packets-other : (f g : ℕ) (ps : List Packet) (taken : List Message) → (g ≡ f → ⊥) → file_packets f (taken ++ batch g ps ∷ []) ≡ file_packets f taken
file_packets-other f g ps taken n =
    of_whether f taken (batch g ps ∷ []) (has_end f taken) refl (ap packets_in (of_file-push_other f [] (batch g ps) n))

told-ending : (f g : ℕ) (o : FileNote) (k : ℕ) (xs ys : List Message) (b : Bool) → eqb g f ≡ b
    → (has_end f xs ≡ true → records_told f (xs ++ ys) ≡ records_told f xs)
    → (b || has_end f xs) ≡ true → records_told f (ending g o k ∷ (xs ++ ys)) ≡ records_told f (ending g o k ∷ xs)
told-ending f g o k xs ys true e more ended =
    ap (λ (b : Bool). if b then k else records_told f (xs ++ ys)) e ∙ sym (ap (λ (b : Bool). if b then k else records_told f xs) e)
told-ending f g o k xs ys false e more ended = ap (λ (n : ℕ). if eqb g f then k else n) (more ended)

-- what the first end tells stays
pub records_told-ended : (f : ℕ) (taken more : List Message) → has_end f taken ≡ true → records_told f (taken ++ more) ≡ records_told f taken
records_told-ended f [] more ended = absurd (false≢true ended)
records_told-ended f (Batch one ∷ xs) more ended = records_told-ended f xs more ended
records_told-ended f (End one ∷ xs) more ended = told-ending f one.file one.note one.records xs more (eqb one.file f) refl (records_told-ended f xs more) ended

first-ending : (f g : ℕ) (o : FileNote) (k : ℕ) (xs ys : List Message) (b : Bool) → eqb g f ≡ b
    → (has_end f xs ≡ false → records_told f (xs ++ ys) ≡ records_told f ys)
    → (b || has_end f xs) ≡ false → records_told f (ending g o k ∷ (xs ++ ys)) ≡ records_told f ys
first-ending f g o k xs ys true e more none = absurd (both_ways true none refl)
first-ending f g o k xs ys false e more none = ap (λ (b : Bool). if b then k else records_told f (xs ++ ys)) e ∙ more none

records_told-open : (f : ℕ) (taken more : List Message) → has_end f taken ≡ false → records_told f (taken ++ more) ≡ records_told f more
records_told-open f [] more none = refl
records_told-open f (Batch one ∷ xs) more none = records_told-open f xs more none
records_told-open f (End one ∷ xs) more none = first-ending f one.file one.note one.records xs more (eqb one.file f) refl (records_told-open f xs more) none

-- the first end of the file is taken
pub records_told-ending : (f : ℕ) (o : FileNote) (k : ℕ) (taken : List Message) → has_end f taken ≡ false → records_told f (taken ++ ending f o k ∷ []) ≡ k
records_told-ending f o k taken none =
    records_told-open f taken (ending f o k ∷ []) none ∙ ap (λ (b : Bool). if b then k else 0) (eq-eqb f f refl)

-- one file more of those that are joined
pub joined_packets-more : (media before file n : ℕ) (taken : List Message)
    → joined_packets media before file (n + 1) taken
    ≡ joined_packets media before file n taken ++ map (raised_packet (before + told_by file n taken)) (media_packets media (file_packets (file + n) taken))
joined_packets-more media before file zero taken =
    let here : 0 + 1 ≡ 1 = omega arith in
    let b : before ≡ before + 0 = omega arith in
    let f : file ≡ file + 0 = omega arith in
    append-nil (map (raised_packet before) (media_packets media (file_packets file taken)))
    ∙ ap₂ (λ (x y : ℕ). map (raised_packet x) (media_packets media (file_packets y taken))) b f
joined_packets-more media before file (suc n) taken =
    let head : List FlowPacket = map (raised_packet before) (media_packets media (file_packets file taken)) in
    let after = before + records_told file taken in
    let s : suc n + 1 ≡ suc (n + 1) = omega arith in
    let b : after + told_by (file + 1) n taken ≡ before + (records_told file taken + told_by (file + 1) n taken) = omega arith in
    let f : file + 1 + n ≡ file + suc n = omega arith in
    ap (λ (x : ℕ). joined_packets media before file x taken) s
    ∙ ap (λ (l : List FlowPacket). head ++ l) (joined_packets-more media after (file + 1) n taken)
    ∙ sym (append_assoc head (joined_packets media after (file + 1) n taken)
    (map (raised_packet (after + told_by (file + 1) n taken)) (media_packets media (file_packets (file + 1 + n) taken))))
    ∙ ap₂ (λ (x y : ℕ). (head ++ joined_packets media after (file + 1) n taken) ++ map (raised_packet x) (media_packets media (file_packets y taken))) b f

-- the records of one file more
pub told_by-more : (file n : ℕ) (taken : List Message) → told_by file (n + 1) taken ≡ told_by file n taken + records_told (file + n) taken
told_by-more file zero taken =
    let f : file ≡ file + 0 = omega arith in
    let z : records_told file taken ≡ records_told (file + 0) taken = ap (λ (x : ℕ). records_told x taken) f in
    omega arith
told_by-more file (suc n) taken =
    let s : suc n + 1 ≡ suc (n + 1) = omega arith in
    let f : file + 1 + n ≡ file + suc n = omega arith in
    let more = told_by-more (file + 1) n taken in
    let z : records_told (file + 1 + n) taken ≡ records_told (file + suc n) taken = ap (λ (x : ℕ). records_told x taken) f in
    let e : records_told file taken + told_by (file + 1) (n + 1) taken ≡ (records_told file taken + told_by (file + 1) n taken)
    + records_told (file + suc n) taken = omega arith in
    ap (λ (x : ℕ). told_by file x taken) s ∙ e

-- files whose ends were taken are done with
joined_packets-kept : (media before file n : ℕ) (taken more : List Message) → ((i : ℕ) → i < n → has_end (file + i) taken ≡ true)
    → joined_packets media before file n (taken ++ more) ≡ joined_packets media before file n taken
joined_packets-kept media before file zero taken more ended = refl
joined_packets-kept media before file (suc n) taken more ended =
    let z : file + 0 ≡ file = omega arith in
    let here : has_end file taken ≡ true = ap (λ (x : ℕ). has_end x taken) (sym z) ∙ ended 0 (omega arith) in
    ap₂ (λ (ps : List Packet) (k : ℕ). map (raised_packet before) (media_packets media ps) ++ joined_packets media (before + k) (file + 1) n (taken ++ more))
    (file_packets-ended file taken more here) (records_told-ended file taken more here)
    ∙ ap (λ (l : List FlowPacket). map (raised_packet before) (media_packets media (file_packets file taken)) ++ l)
    (joined_packets-kept media (before + records_told file taken) (file + 1) n taken more
    (λ i h. let s : file + suc i ≡ file + 1 + i = omega arith in ap (λ (x : ℕ). has_end x taken) (sym s) ∙ ended (suc i) (omega arith)))

pub joined_packets-ended : (media n : ℕ) (taken more : List Message) → has_ends n taken ≡ true
    → joined_packets media 0 0 n (taken ++ more) ≡ joined_packets media 0 0 n taken
joined_packets-ended media n taken more ended =
    joined_packets-kept media 0 0 n taken more (λ i h. let z : 0 + i ≡ i = omega arith in ap (λ (x : ℕ). has_end x taken) z ∙ has_ends-at n i taken ended h)

told_by-kept : (file n : ℕ) (taken more : List Message) → ((i : ℕ) → i < n → has_end (file + i) taken ≡ true)
    → told_by file n (taken ++ more) ≡ told_by file n taken
told_by-kept file zero taken more ended = refl
told_by-kept file (suc n) taken more ended =
    let z : file + 0 ≡ file = omega arith in
    let here : has_end file taken ≡ true = ap (λ (x : ℕ). has_end x taken) (sym z) ∙ ended 0 (omega arith) in
    ap₂ (λ (j k : ℕ). j + k) (records_told-ended file taken more here)
    (told_by-kept (file + 1) n taken more
    (λ i h. let s : file + suc i ≡ file + 1 + i = omega arith in ap (λ (x : ℕ). has_end x taken) (sym s) ∙ ended (suc i) (omega arith)))

-- and so are their records
pub told_by-ended : (n : ℕ) (taken more : List Message) → has_ends n taken ≡ true → told_by 0 n (taken ++ more) ≡ told_by 0 n taken
told_by-ended n taken more ended =
    told_by-kept 0 n taken more (λ i h. let z : 0 + i ≡ i = omega arith in ap (λ (x : ℕ). has_end x taken) z ∙ has_ends-at n i taken ended h)
