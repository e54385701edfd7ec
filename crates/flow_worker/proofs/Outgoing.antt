-- What a step of an intake does to its outboxes.
use Rattle.std.proofs.Common.{◌≡◌, ◌<◌, ◌≤◌, ◌+◌, ℕ, suc, zero, List, [], ◌∷◌, ◌++◌, length, map, set, inl, inr, refl, sym, ap, ap₂, ◌∙◌, subst, arith}
use Rattle.std.proofs.Common.{append-nil, append_assoc, length-append}
use Rattle.std.specs.Prelude.{slice_index_or, Result, Ok, Err, IfErr, IfOk, MatchResult, OnErr}
use Rattle.std.proofs.lemmas.Bool.{cases_eq, cases_lt}
use Rattle.std.proofs.lemmas.List.{set-get_or}
use Rattle.std.proofs.lemmas.List.Sums.{sum_by_push}
use Rattle.timing_base.specs.declared.capture.FileNote.{FileNote}
use Rattle.ruled_intake.specs.Lanes.{LaneId, Sender, count_of, packets, sent_of as sent_by, with_sent}
use Rattle.ruled_intake.specs.Packets.{Packet}
use Rattle.ruled_intake.specs.declared.message.Message.{Message}
use Rattle.flow_worker.specs.Cut.{HasCut}
use Rattle.flow_worker.specs.Intakes.{HaveSent}
use Rattle.flow_worker.specs.Messages.{IsPrefix, batch, ending}
use Rattle.flow_worker.specs.Opening.{unless_empty}
use Rattle.flow_worker.specs.Sending.{AreOutboxes, AreSame, Cuts, HaveAllFew, HaveFew, Puts, Sends, Stays, open_for, sent_to, with_end, with_rest}
use Rattle.flow_worker.specs.declared.outboxes.Outboxes.{Outboxes}
use Rattle.flow_worker.proofs.Cutting.{HasCut-full, HasCut-more, HasCut-other}
use Rattle.flow_worker.proofs.Passes.{HaveSent-set, sent_of-at, sent_of-set_same, sent_of-set_other}

-- of a result that may be an error
pub on_err : {A E : Type 0} (r : Result A E) (P : Type 0) → P → OnErr r P
on_err (Ok x) P h = tt
on_err (Err e) P h = h

pub on_err-then : {A E : Type 0} (r : Result A E) (P Q : Type 0) → (P → Q) → OnErr r P → OnErr r Q
on_err-then (Ok x) P Q f h = tt
on_err-then (Err e) P Q f h = f h

-- of one that is an error
pub match_err : {A E : Type 0} (r : Result A E) (e : E) (P : A → Type 0) (Q : E → Type 0) → r ≡ Err e → Q e → MatchResult r P Q
match_err {A = A} {E = E} r e P Q is h = let F : Result A E → Type 0 = λ x. MatchResult x P Q in subst F (sym is) h

-- of one that may be a value
pub if_ok : {A E : Type 0} (r : Result A E) (P Q : A → Type 0) (R : E → Type 0) → ((x : A) → P x → Q x) → MatchResult r P R → IfOk r Q
if_ok (Ok x) P Q R f h = f x h
if_ok (Err e) P Q R f h = tt

-- of one that may be an error
pub if_err : {A E : Type 0} (r : Result A E) (P : A → Type 0) (R Q : E → Type 0) → ((e : E) → R e → Q e) → MatchResult r P R → IfErr r Q
if_err (Ok x) P R Q f h = tt
if_err (Err e) P R Q f h = f e h

-- one batch more without a packet
none-push : (xs : List (List Packet)) (b : List Packet) → ((w : ℕ) → slice_index_or xs w [] ≡ []) → b ≡ [] → (w : ℕ) → slice_index_or (xs ++ b ∷ []) w [] ≡ []
none-push [] b none empty zero = empty
none-push [] b none empty (suc w) = refl
none-push (x ∷ xs) b none empty zero = none zero
none-push (x ∷ xs) b none empty (suc w) = none-push xs b (λ v. none (suc v)) empty w

pub none-more : (xs ys : List (List Packet)) (b : List Packet) → ((w : ℕ) → slice_index_or xs w [] ≡ []) → b ≡ [] → ys ≡ xs ++ b ∷ []
    → (w : ℕ) → slice_index_or ys w [] ≡ []
none-more xs ys b none empty all w = ap (λ (l : List (List Packet)). slice_index_or l w []) all ∙ none-push xs b none empty w

-- outboxes of which only the passes' use is seen
AreOutboxes-as : (a b : Outboxes) → b.file ≡ a.file → b.lanes.now ≡ a.lanes.now → b.passes.items ≡ a.passes.items
    → length b.batches.items ≡ length a.batches.items → AreOutboxes a → AreOutboxes b
AreOutboxes-as a b file lanes passes long h =
    let first : HaveSent b.file a.lanes.now (sent_by a.passes.items) a.passes.items =
    subst (λ (f : ℕ). HaveSent f a.lanes.now (sent_by a.passes.items) a.passes.items) (sym file) h.passes in
    let second : HaveSent b.file b.lanes.now (sent_by a.passes.items) a.passes.items =
    subst (λ (l : List LaneId). HaveSent b.file l (sent_by a.passes.items) a.passes.items) (sym lanes) first in
    record {
      passes = subst (λ (ps : List Sender). HaveSent b.file b.lanes.now (sent_by ps) ps) (sym passes) second;
      batch_count = long ∙ h.batch_count ∙ ap length (sym lanes);
    }

-- the same outboxes
pub AreSame-refl : (o : Outboxes) → AreOutboxes o → AreSame o o
AreSame-refl o h = record { are = h; file = refl; lanes = refl }

pub AreSame-then : (a b c : Outboxes) → AreSame a b → AreSame b c → AreSame a c
AreSame-then a b c x y = record { are = y.are; file = y.file ∙ x.file; lanes = y.lanes ∙ x.lanes }

-- a pass is used
same-set : (old new : Outboxes) (k : ℕ) (before s : Sender) → AreOutboxes old → k < length old.lanes.now → new.file ≡ old.file → new.lanes.now ≡ old.lanes.now
    → new.batches.items ≡ old.batches.items → new.passes.items ≡ set old.passes.items k s → before ≡ slice_index_or old.passes.items k before
    → s.lane ≡ before.lane → s.from ≡ before.from → AreSame old new
same-set old new k before s h here file lanes batches passes read lane from =
    let put : HaveSent old.file old.lanes.now (sent_by (set old.passes.items k s)) (set old.passes.items k s) =
    HaveSent-set old.file old.lanes.now old.passes.items k before s here h.passes read lane from in
    let first : HaveSent new.file old.lanes.now (sent_by (set old.passes.items k s)) (set old.passes.items k s) =
    subst (λ (f : ℕ). HaveSent f old.lanes.now (sent_by (set old.passes.items k s)) (set old.passes.items k s)) (sym file) put in
    let second : HaveSent new.file new.lanes.now (sent_by (set old.passes.items k s)) (set old.passes.items k s) =
    subst (λ (l : List LaneId). HaveSent new.file l (sent_by (set old.passes.items k s)) (set old.passes.items k s)) (sym lanes) first in
    record {
      are = record {
        passes = subst (λ (ps : List Sender). HaveSent new.file new.lanes.now (sent_by ps) ps) (sym passes) second;
        batch_count = ap length batches ∙ h.batch_count ∙ ap length (sym lanes);
      };
      file = file;
      lanes = lanes;
    }

-- a message is sent by a pass
pub sends-one : (old new : Outboxes) (k : ℕ) (m : Message) (before s : Sender) → AreOutboxes old → k < length old.lanes.now → new.file ≡ old.file
    → new.lanes.now ≡ old.lanes.now
    → new.batches.items ≡ old.batches.items → new.passes.items ≡ set old.passes.items k s → before ≡ slice_index_or old.passes.items k before
    → s ≡ with_sent before m → Sends old new k m
sends-one old new k m before s h here file lanes batches passes read sent =
    let within : k < length old.passes.items = omega (arith, h.passes.count) in
    let was : before.sent ≡ sent_to old k =
    ap (λ (x : Sender). x.sent) read ∙ sym (sent_of-at old.passes.items k before within) in
    record {
      same = same-set old new k before s h here file lanes batches passes read (ap (λ (x : Sender). x.lane) sent) (ap (λ (x : Sender). x.from) sent);
      here =
          ap (λ (ps : List Sender). sent_by ps k) passes ∙ sent_of-set_same old.passes.items k s within ∙ ap (λ (x : Sender). x.sent) sent
          ∙ ap (λ (l : List Message). l ++ m ∷ []) was;
      others = λ w n. ap (λ (ps : List Sender). sent_by ps w) passes ∙ sent_of-set_other old.passes.items k w s n;
      open_same = λ w. ap (λ (l : List (List Packet)). slice_index_or l w []) batches;
    }

-- or it isn't
pub stays-same : (old new : Outboxes) → AreOutboxes old → new.file ≡ old.file → new.lanes.now ≡ old.lanes.now → length new.batches.items
    ≡ length old.batches.items
    → new.passes.items ≡ old.passes.items → Stays old new
stays-same old new h file lanes batches passes = record {
  same = record { are = AreOutboxes-as old new file lanes passes batches h; file = file; lanes = lanes };
  sent = λ w. ap (λ (ps : List Sender). sent_by ps w) passes;
}

-- a pass is put back as it was
pub set-same : (ps : List Sender) (k : ℕ) (before s : Sender) → before ≡ slice_index_or ps k before → s ≡ before → set ps k s ≡ ps
set-same ps k before s read same = ap (λ (x : Sender). set ps k x) (same ∙ read) ∙ set-get_or ps k before

-- a message was sent, and then nothing more is seen
pub sends-then : (old mid new : Outboxes) (k : ℕ) (m : Message) → Sends old mid k m → new.file ≡ mid.file → new.lanes.now ≡ mid.lanes.now
    → new.batches.items ≡ mid.batches.items → new.passes.items ≡ mid.passes.items → Sends old new k m
sends-then old mid new k m h file lanes batches passes =
    let same : (w : ℕ) → sent_to new w ≡ sent_to mid w = λ w. ap (λ (ps : List Sender). sent_by ps w) passes in
    record {
      same = record {
        are = AreOutboxes-as mid new file lanes passes (ap length batches) h.same.are;
        file = file ∙ h.same.file;
        lanes = lanes ∙ h.same.lanes;
      };
      here = same k ∙ h.here;
      others = λ w n. same w ∙ h.others w n;
      open_same = λ w. ap (λ (l : List (List Packet)). slice_index_or l w []) batches ∙ h.open_same w;
    }

-- counts of a packet that fills no batch
few-more : (n : ℕ) (sent now : List Message) (left left_now : List Packet) (p : Packet) → now ≡ sent → left_now ≡ left ++ p ∷ []
    → length sent ≤ n → packets sent + length left ≤ n → (length now ≤ n + 1) × (packets now + length left_now ≤ n + 1)
few-more n sent now left left_now p s l few small =
    let long : length left_now ≡ length left + 1 = ap length l ∙ length-append left (p ∷ []) in
    (omega (arith, ap length s), omega (arith, ap packets s, long))

-- counts of a packet that fills a batch
few-full : (n file : ℕ) (sent now : List Message) (left left_now : List Packet) (p : Packet) → now ≡ sent ++ batch file (left ++ p ∷ []) ∷ [] → left_now ≡ []
    → length sent ≤ n → packets sent + length left ≤ n → (length now ≤ n + 1) × (packets now + length left_now ≤ n + 1)
few-full n file sent now left left_now p s l few small =
    let long : length now ≡ length sent + 1 = ap length s ∙ length-append sent (batch file (left ++ p ∷ []) ∷ []) in
    let put : length (left ++ p ∷ []) ≡ length left + 1 = length-append left (p ∷ []) in
    let all : packets now ≡ packets sent + length (left ++ p ∷ []) = ap packets s ∙ sum_by_push count_of sent (batch file (left ++ p ∷ [])) in
    (omega (arith, long), omega (arith, all, put, ap length l))

-- a packet more, of those that are counted
pub puts-few : (old new : Outboxes) (k : ℕ) (p : Packet) (n : ℕ) → Puts old new k p → HaveAllFew n old → HaveAllFew (n + 1) new
puts-few old new k p n h few = λ w below.
    let within : w < length old.lanes.now = omega (arith, ap length h.same.lanes) in
    let was = few w within in
    elim (cases_eq k w) as (λ _. HaveFew (n + 1) new w) [
      | inl e ↦
          let first : length (sent_to old k) ≤ n = subst (λ (v : ℕ). length (sent_to old v) ≤ n) (sym e) was.messages in
          let second : packets (sent_to old k) + length (open_for old k) ≤ n = subst (λ (v : ℕ). packets (sent_to old v) + length (open_for old v) ≤ n) (sym e)
          was.all_packets in
          elim (cases_lt (length (open_for old k) + 1) 256) as (λ _. HaveFew (n + 1) new w) [
            | inl less ↦
                let t = h.more less in
                let counts = few-more n (sent_to old k) (sent_to new k) (open_for old k) (open_for new k) p t.0 t.1 first second in
                subst (λ (v : ℕ). HaveFew (n + 1) new v) e (record { messages = counts.0; all_packets = counts.1 })
            | inr most ↦
                let t = h.full (omega (arith, most, h.within)) in
                let counts = few-full n old.file (sent_to old k) (sent_to new k) (open_for old k) (open_for new k) p t.0 t.1 first second in
                subst (λ (v : ℕ). HaveFew (n + 1) new v) e (record { messages = counts.0; all_packets = counts.1 })
          ]
      | inr other ↦
          let t = h.others w other in
          record {
            messages = omega (arith, ap length t.0, was.messages);
            all_packets = omega (arith, ap packets t.0, ap length t.1, was.all_packets);
          }
    ]

-- what was cut, under another name of the file and with what is equal
cut-as : (lane : Packet → ℕ) (w f g : ℕ) (ps : List Packet) (sent now : List Message) (left left_now : List Packet) → g ≡ f → now ≡ sent → left_now ≡ left
    → HasCut 256 f lane w ps sent left → HasCut 256 g lane w ps now left_now
cut-as lane w f g ps sent now left left_now file s l h =
    let first : HasCut 256 g lane w ps sent left = subst (λ (x : ℕ). HasCut 256 x lane w ps sent left) (sym file) h in
    let second : HasCut 256 g lane w ps now left = subst (λ (x : List Message). HasCut 256 g lane w ps x left) (sym s) first in
    subst (λ (x : List Packet). HasCut 256 g lane w ps now x) (sym l) second

-- a packet more is cut
pub puts-cut : (old new : Outboxes) (lane : Packet → ℕ) (k : ℕ) (p : Packet) → lane p ≡ k → Puts old new k p → Cuts lane old new (p ∷ [])
puts-cut old new lane k p e h ps cut w below =
    let within : w < length old.lanes.now = omega (arith, ap length h.same.lanes) in
    let was = cut w within in
    let goal_at : ℕ → Type 0 = λ (v : ℕ). HasCut 256 new.file lane v (ps ++ p ∷ []) (sent_to new v) (open_for new v) in
    elim (cases_eq k w) as (λ _. HasCut 256 new.file lane w (ps ++ p ∷ []) (sent_to new w) (open_for new w)) [
      | inl same ↦
          let here : HasCut 256 old.file lane k ps (sent_to old k) (open_for old k) =
          subst (λ (v : ℕ). HasCut 256 old.file lane v ps (sent_to old v) (open_for old v)) (sym same) was in
          elim (cases_lt (length (open_for old k) + 1) 256) as (λ _. HasCut 256 new.file lane w (ps ++ p ∷ []) (sent_to new w) (open_for new w)) [
            | inl less ↦
                let t = h.more less in
                subst goal_at same (cut-as lane k old.file new.file (ps ++ p ∷ []) (sent_to old k) (sent_to new k) (open_for old k ++ p ∷ []) (open_for new k)
                h.same.file t.0 t.1
                (HasCut-more 256 old.file lane k ps (sent_to old k) (open_for old k) p e less here))
            | inr most ↦
                let full : length (open_for old k) + 1 ≡ 256 = omega (arith, most, h.within) in
                let t = h.full full in
                subst goal_at same (cut-as lane k old.file new.file (ps ++ p ∷ []) (sent_to old k ++ batch old.file (open_for old k ++ p ∷ []) ∷ [])
                (sent_to new k) [] (open_for new k) h.same.file t.0 t.1
                (HasCut-full 256 old.file lane k ps (sent_to old k) (open_for old k) p e full here))
          ]
      | inr other ↦
          let t = h.others w other in
          cut-as lane w old.file new.file (ps ++ p ∷ []) (sent_to old w) (sent_to new w) (open_for old w) (open_for new w) h.same.file t.0 t.1
          (HasCut-other 256 old.file lane w ps (sent_to old w) (open_for old w) p (λ x. other (sym e ∙ x)) was)
    ]

-- of lanes below one each was sent what fills no batch, and the others are as they were
pub record RestsUpTo (old now : Outboxes) (i : ℕ) : Type 0 where
  pub same : AreSame old now
  pub done : (w : ℕ) → w < i → sent_to now w ≡ with_rest old w
  pub todo : (w : ℕ) → i ≤ w → (sent_to now w ≡ sent_to old w) × (open_for now w ≡ open_for old w)

-- where it stops, what was sent begins what was to be sent
pub rests-stopped : (old now next : Outboxes) (i : ℕ) → RestsUpTo old now i → Stays now next → (w : ℕ) → IsPrefix (sent_to next w) (with_rest old w)
rests-stopped old now next i h stays w =
    elim (cases_lt w i) as (λ _. IsPrefix (sent_to next w) (with_rest old w)) [
      | inl below ↦ ([], append-nil (sent_to next w) ∙ stays.sent w ∙ h.done w below)
      | inr above ↦
          let more = map (batch old.file) (unless_empty (open_for old w)) in
          (more, ap (λ (l : List Message). l ++ more) (stays.sent w ∙ (h.todo w above).0))
    ]

-- of lanes below one each was sent a message, and the others are as they were
pub record EndsUpTo (old now : Outboxes) (m : Message) (i : ℕ) : Type 0 where
  pub same : AreSame old now
  pub done : (w : ℕ) → w < i → sent_to now w ≡ sent_to old w ++ m ∷ []
  pub todo : (w : ℕ) → i ≤ w → sent_to now w ≡ sent_to old w

pub ends-stopped : (old now next : Outboxes) (m : Message) (i : ℕ) → EndsUpTo old now m i → Stays now next → (w : ℕ)
    → IsPrefix (sent_to next w) (sent_to old w ++ m ∷ [])
ends-stopped old now next m i h stays w =
    elim (cases_lt w i) as (λ _. IsPrefix (sent_to next w) (sent_to old w ++ m ∷ [])) [
      | inl below ↦ ([], append-nil (sent_to next w) ∙ stays.sent w ∙ h.done w below)
      | inr above ↦ (m ∷ [], ap (λ (l : List Message). l ++ m ∷ []) (stays.sent w ∙ h.todo w above))
    ]

-- or a part of it: while the last batches were sent
pub finish-begun : (old new : Outboxes) (note : FileNote) (records : ℕ) → ((w : ℕ) → IsPrefix (sent_to new w) (with_rest old w))
    → (w : ℕ) → IsPrefix (sent_to new w) (with_end old note records w)
finish-begun old new note records begun w =
    let h = begun w in
    let end = ending old.file note records ∷ [] in
    (h.0 ++ end, sym (append_assoc (sent_to new w) h.0 end) ∙ ap (λ (l : List Message). l ++ end) h.1)

-- and while the ends were
pub finish-ending : (old mid new : Outboxes) (note : FileNote) (records : ℕ) → AreSame old mid
    → ((w : ℕ) → w < length old.lanes.now → sent_to mid w ≡ with_rest old w)
    → ((w : ℕ) → IsPrefix (sent_to new w) (sent_to mid w ++ ending mid.file note records ∷ []))
    → (w : ℕ) → w < length old.lanes.now → IsPrefix (sent_to new w) (with_end old note records w)
finish-ending old mid new note records same rests begun w below =
    let h = begun w in
    (h.0, h.1 ∙ ap₂ (λ (l : List Message) (f : ℕ). l ++ ending f note records ∷ []) (rests w below) same.file)
