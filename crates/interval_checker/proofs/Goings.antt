-- Sources that are read one after the other, and handed back.
use Rattle.std.proofs.Common.{◌≡◌, ◌≤◌, ◌<◌, ◌+◌, ◌-◌, ◌*◌, ◌^◌, ℕ, suc, true, false, List, [], ◌∷◌, ◌++◌, length, map, refl, sym, ap, ◌∙◌, subst}
use Rattle.std.proofs.Common.{append_assoc, append-nil, length-append, arith}
use Rattle.std.specs.Prelude.{if◌then◌else◌, ⊤, Option, Some, Result, Ok, Err, IfOk, IfErr, IsOk, is_ok}
use Rattle.timing_base.specs.Captures.{Record, joined, joined_after, raised}
use Rattle.timing_base.specs.declared.capture.FileNote.{FileNote}
use Rattle.timing_outside.specs.Causes.{Rose}
use Rattle.pcap_reader.specs.Records.{AreRecords, Records}
use Rattle.interval_checker.specs.Checked.{IfReadFault}
use Rattle.interval_checker.specs.Readings.{AreSame, HaveRead, HaveRoom, ReadOn, asked_by}
use Rattle.interval_checker.specs.Sources.{AreBack, RoseAt, TellTexts}
use Rattle.interval_checker.specs.Taking.{Goes, Hands}
use Rattle.interval_checker.specs.declared.fault.CheckFault.{CheckFault}
use Rattle.interval_checker.specs.declared.fault.CheckFault.TheVariants as check_fault
use Rattle.interval_checker.specs.declared.reading.Reading.{Reading}
use Rattle.interval_checker.proofs.Asks.{no_less-more, no_less-same}

-- the readings were given what they read more
have-read : (os ns : List Reading) (items more : List Record) → ReadOn os ns more → HaveRead os items → HaveRead ns (items ++ more)
have-read [] [] items more on h = tt
have-read [] (n ∷ ns) items more on h = absurd on
have-read (o ∷ os) [] items more on h = absurd on
have-read (o ∷ os) (n ∷ ns) items more on h = (on.0.reads items h.0, have-read os ns items more on.1 h.1)

-- and are the same readings
pub same-read : (os ns : List Reading) (more : List Record) → ReadOn os ns more → AreSame os ns
same-read [] [] more on = tt
same-read [] (n ∷ ns) more on = absurd on
same-read (o ∷ os) [] more on = absurd on
same-read (o ∷ os) (n ∷ ns) more on =
    (record { media = on.0.media; options = on.0.options; asked = on.0.asked }, same-read os ns more on.1)

pub same-none : (rs : List Reading) → AreSame rs rs
same-none [] = tt
same-none (r ∷ rs) = (record { media = refl; options = refl; asked = no_less-same (asked_by r) }, same-none rs)

pub same-more : (xs ys zs : List Reading) → AreSame xs ys → AreSame ys zs → AreSame xs zs
same-more [] [] zs ab bc = bc
same-more [] (b ∷ ys) zs ab bc = absurd ab
same-more (a ∷ xs) [] zs ab bc = absurd ab
same-more (a ∷ xs) (b ∷ ys) [] ab bc = absurd bc
same-more (a ∷ xs) (b ∷ ys) (c ∷ zs) ab bc = (
  record {
    media = bc.0.media ∙ ab.0.media;
    options = bc.0.options ∙ ab.0.options;
    asked = no_less-more (asked_by a) (asked_by b) (asked_by c) ab.0.asked bc.0.asked;
  },
  same-more xs ys zs ab.1 bc.1,
)

-- all records of a capture were given to the readings with their numbers raised, and counted on; or a read failed
abbrev pub TakesAll : (before : ℕ) → (old new : List Reading) → Result ℕ CheckFault → List Record → Type 0
TakesAll before old new (Ok after) items = (after ≡ before + length items) × ReadOn old new (map (raised before) items)
TakesAll before old new (Err fault) items = ⊤

-- one source more was read, whose text is told
goes-taken : {S : Type 0} (left : S → Option (List ℕ)) (rest : List S) (all done : List Record) (before : ℕ) (items : List Record)
    (texts : List (List ℕ)) (files : List (List Record)) (notes : List FileNote)
    (old new : List Reading) (taken : Result ℕ CheckFault)
    → TellTexts left rest texts → AreRecords texts files notes → all ≡ done ++ (map (raised before) items ++ joined_after (before + length items) files)
    → HaveRead old done
    → TakesAll before old new taken items → Goes left rest all new taken
goes-taken left rest all done before items texts files notes old new (Ok after) tell are whole have takes =
    let e : all ≡ (done ++ map (raised before) items) ++ joined_after after files =
    whole ∙ (sym (append_assoc done (map (raised before) items) (joined_after (before + length items) files))
    ∙ ap (λ n. (done ++ map (raised before) items) ++ joined_after n files) (sym takes.0)) in
    (done ++ map (raised before) items, texts, files, notes, tell, are, e, have-read old new done (map (raised before) items) takes.1 have)
goes-taken left rest all done before items texts files notes old new (Err fault) tell are whole have takes = tt

goes-told : {S : Type 0} (left : S → Option (List ℕ)) (source : S) (rest : List S) (all done : List Record) (before : ℕ) (texts : List (List ℕ))
    (files : List (List Record)) (notes : List FileNote)
    (old new : List Reading) (taken : Result ℕ CheckFault)
    → TellTexts left (source ∷ rest) texts → AreRecords texts files notes → all ≡ done ++ joined_after before files → HaveRead old done
    → ((text : List ℕ) (items : List Record) (note : FileNote) → left source ≡ Some text → Records text (2 ^ 40) items note
    → TakesAll before old new taken items)
    → Goes left rest all new taken
goes-told left source rest all done before [] files notes old new taken tell are whole stands takes = absurd tell
goes-told left source rest all done before (t ∷ ts) [] notes old new taken tell are whole stands takes = absurd are
goes-told left source rest all done before (t ∷ ts) (f ∷ fs) [] old new taken tell are whole stands takes = absurd are
goes-told left source rest all done before (t ∷ ts) (f ∷ fs) (n ∷ ns) old new taken tell are whole stands takes =
    goes-taken left rest all done before f ts fs ns old new taken tell.1 are.1 whole stands (takes t f n tell.0 are.0)

-- one source more was read
pub goes-next : {S : Type 0} (left : S → Option (List ℕ)) (source : S) (rest : List S) (all : List Record) (before : ℕ)
    (outcome taken : Result ℕ CheckFault) (old new : List Reading)
    → outcome ≡ Ok before
    → ((text : List ℕ) (items : List Record) (note : FileNote) → left source ≡ Some text → Records text (2 ^ 40) items note
    → TakesAll before old new taken items)
    → Goes left (source ∷ rest) all old outcome → Goes left rest all new taken
goes-next left source rest all before outcome taken old new e takes g =
    let h = subst (λ (o : Result ℕ CheckFault). Goes left (source ∷ rest) all old o) e g in
    goes-told left source rest all h.0 before h.1 h.2 h.3 old new taken h.4 h.5 h.6 h.7 takes

-- a cause is known, and stays
pub goes-stopped : {S : Type 0} (left : S → Option (List ℕ)) (source : S) (rest : List S) (all : List Record) (fault : CheckFault)
    (outcome : Result ℕ CheckFault) (old : List Reading)
    → outcome ≡ Err fault → Goes left (source ∷ rest) all old outcome → Goes left rest all old (Err fault)
goes-stopped left source rest all fault outcome old e g = subst (λ (o : Result ℕ CheckFault). Goes left (source ∷ rest) all old o) e g

-- nothing is handed back yet
pub hands-none : {S : Type 0} (name : S → List ℕ) (faults : S → ℕ) (all back rest : List S) → back ≡ [] → rest ≡ all → Hands name faults all back rest
hands-none name faults all back rest none same =
    subst (λ (b : List _). Hands name faults all b rest) (sym none)
    (subst (λ (r : List _). Hands name faults all [] r) (sym same) record {
      back_are = λ news h. h;
      rose = λ news k h. let e : k ≡ 0 + k = omega arith in subst (RoseAt faults all news) e h;
    })

-- one source more is handed back
pub hands-next : {S : Type 0} (name : S → List ℕ) (faults : S → ℕ) (all back rest : List S) (s n : S) → name n ≡ name s → faults s ≤ faults n
    → Hands name faults all back (s ∷ rest) → Hands name faults all (back ++ n ∷ []) rest
hands-next name faults all back rest s n named later h = record {
  back_are = λ news are. subst (AreBack name faults all) (sym (append_assoc back (n ∷ []) news)) (h.back_are (n ∷ news) (named, later, are));
  rose = λ news k r.
      let place : length back + suc k ≡ length (back ++ n ∷ []) + k = omega (arith, length-append back (n ∷ [])) in
      subst (λ x. RoseAt faults all ((back ++ n ∷ []) ++ news) x) place
      (subst (λ l. RoseAt faults all l (length back + suc k)) (sym (append_assoc back (n ∷ []) news)) (h.rose (n ∷ news) (suc k) r));
}

-- all are handed back
pub hands-all : {S : Type 0} (name : S → List ℕ) (faults : S → ℕ) (all back rest : List S) → rest ≡ [] → Hands name faults all back rest
    → AreBack name faults all back
hands-all name faults all back rest none h =
    subst (AreBack name faults all) (append-nil back) (h.back_are [] (subst (λ (r : List _). AreBack name faults r []) (sym none) tt))

-- nothing was read
pub back-same : {S : Type 0} (name : S → List ℕ) (faults : S → ℕ) (all : List S) → AreBack name faults all all
back-same name faults [] = tt
back-same name faults (s ∷ ss) = (refl, omega arith, back-same name faults ss)

-- of a failed read: its source's count rose, whatever becomes of the sources to come
abbrev pub FailedAt : {S : Type 0} → (faults : S → ℕ) → (all back : List S) → Result ℕ CheckFault → Type 0
FailedAt faults all back outcome = IfReadFault outcome (λ k. (news : List _) → RoseAt faults all (back ++ news) k)

failed-stays : {S : Type 0} (faults : S → ℕ) (all back : List S) (n : S) (fault : CheckFault) → FailedAt faults all back (Err fault)
    → FailedAt faults all (back ++ n ∷ []) (Err fault)
failed-stays faults all back n (check_fault.ReadFault k) h = λ news. subst (λ l. RoseAt faults all l k) (sym (append_assoc back (n ∷ []) news)) (h (n ∷ news))
failed-stays faults all back n check_fault.OutOfMemory h = tt

failed-here : {S : Type 0} (name : S → List ℕ) (faults : S → ℕ) (all back rest : List S) (s n : S) (number : ℕ) (taken : Result ℕ CheckFault)
    → number ≡ length back
    → IfReadFault taken (λ k. (k ≡ number) × Rose (faults s) (faults n)) → Hands name faults all back (s ∷ rest) → FailedAt faults all (back ++ n ∷ []) taken
failed-here name faults all back rest s n number (Ok after) place cause h = tt
failed-here name faults all back rest s n number (Err (check_fault.ReadFault k)) place cause h = λ news.
    let e : length back + 0 ≡ k = omega (arith, place, cause.0) in
    subst (λ l. RoseAt faults all l k) (sym (append_assoc back (n ∷ []) news))
    (subst (λ x. RoseAt faults all (back ++ n ∷ news) x) e (h.rose (n ∷ news) 0 cause.1))
failed-here name faults all back rest s n number (Err check_fault.OutOfMemory) place cause h = tt

-- one source more was read, or passed over
pub failed-next : {S : Type 0} (name : S → List ℕ) (faults : S → ℕ) (all back rest : List S) (s n : S) (number : ℕ) (outcome taken : Result ℕ CheckFault)
    → number ≡ length back
    → IfReadFault taken (λ k. IfOk outcome (λ _. (k ≡ number) × Rose (faults s) (faults n))) → IfErr outcome (λ fault. taken ≡ Err fault)
    → Hands name faults all back (s ∷ rest) → FailedAt faults all back outcome → FailedAt faults all (back ++ n ∷ []) taken
failed-next name faults all back rest s n number (Ok before) taken place cause kept h failed =
    failed-here name faults all back rest s n number taken place cause h
failed-next name faults all back rest s n number (Err fault) taken place cause kept h failed =
    subst (λ (o : Result ℕ CheckFault). FailedAt faults all (back ++ n ∷ []) o) (sym kept) (failed-stays faults all back n fault failed)

-- the records before the source after the next
pub before-next : (outcome taken : Result ℕ CheckFault) (back more : ℕ) → more ≡ back + 1
    → IfOk taken (λ after. IfOk outcome (λ before. after ≤ before + 2 ^ 36)) → IfErr outcome (λ fault. taken ≡ Err fault)
    → IfOk outcome (λ before. before ≤ 2 ^ 36 * back) → IfOk taken (λ after. after ≤ 2 ^ 36 * more)
before-next (Ok before) (Ok after) back more one few kept most = omega (arith, one, few, most)
before-next (Ok before) (Err fault) back more one few kept most = tt
before-next (Err fault) taken back more one few kept most = subst (λ (o : Result ℕ CheckFault). IfOk o (λ after. after ≤ 2 ^ 36 * more)) (sym kept) tt

pub before-few : (outcome : Result ℕ CheckFault) (back : ℕ) → back < 16 → IfOk outcome (λ before. before ≤ 2 ^ 36 * back)
    → IfOk outcome (λ before. before ≤ 2 ^ 40)
before-few (Ok before) back few most = omega (arith, few, most)
before-few (Err fault) back few most = tt

-- there was room for it
pub pushed : {S T E : Type 0} (result : Result T E) (old new : List S) (s : S) → IsOk result → new ≡ (if is_ok result then old ++ s ∷ [] else old)
    → new ≡ old ++ s ∷ []
pushed (Ok x) old new s ok e = e
pushed (Err x) old new s ok e = absurd (differ ok)
  where
    differ : (false ≡ true) → ⊥
    differ e = cc

-- no record is taken yet
pub goes-none : {S : Type 0} (left : S → Option (List ℕ)) (sources rest : List S) (texts : List (List ℕ)) (files : List (List Record))
    (notes : List FileNote) (w : List Reading)
    → rest ≡ sources → HaveRead w [] → TellTexts left sources texts → AreRecords texts files notes → Goes left rest (joined files) w (Ok 0)
goes-none left sources rest texts files notes w same none tell are =
    ([], texts, files, notes, subst (λ (r : List _). TellTexts left r texts) (sym same) tell, are, refl, none)

no_text : {S : Type 0} (left : S → Option (List ℕ)) (texts : List (List ℕ)) → TellTexts left [] texts → texts ≡ []
no_text left [] tell = refl
no_text left (t ∷ ts) tell = absurd tell

no_file : (texts : List (List ℕ)) (files : List (List Record)) (notes : List FileNote) → texts ≡ [] → AreRecords texts files notes → files ≡ []
no_file [] [] notes e are = refl
no_file [] (f ∷ fs) notes e are = absurd are
no_file (t ∷ ts) files notes e are = cc

-- all records were read, where no read failed
pub goes-all : {S : Type 0} (left : S → Option (List ℕ)) (rest : List S) (all : List Record) (w : List Reading) (before : ℕ) (outcome : Result ℕ CheckFault)
    → outcome ≡ Ok before → rest ≡ []
    → Goes left rest all w outcome → HaveRead w all
goes-all left rest all w before (Ok x) is none g =
    let texts : g.1 ≡ [] = no_text left g.1 (subst (λ (r : List _). TellTexts left r g.1) none g.4) in
    let files : g.2 ≡ [] = no_file g.1 g.2 g.3 texts g.5 in
    let whole : all ≡ g.0 = g.6 ∙ (ap (λ (fs : List (List Record)). g.0 ++ joined_after x fs) files ∙ append-nil g.0) in
    subst (HaveRead w) (sym whole) g.7
goes-all left rest all w before (Err fault) is none g = cc

-- a failed read has its cause, where all were handed back
pub failed-all : {S : Type 0} (A : Type 0) (faults : S → ℕ) (all back : List S) (outcome : Result ℕ CheckFault) (fault : CheckFault)
    (result : Result A CheckFault)
    → result ≡ Err fault → outcome ≡ Err fault
    → FailedAt faults all back outcome
    → IfReadFault result (RoseAt faults all back)
failed-all A faults all back (Ok before) fault result e is h = cc
failed-all A faults all back (Err (check_fault.ReadFault k)) (check_fault.ReadFault n) result e is h =
    let same : k ≡ n = number k n is in
    subst (λ (r : Result A CheckFault). IfReadFault r (RoseAt faults all back)) (sym e)
    (subst (λ x. RoseAt faults all back x) same (subst (λ l. RoseAt faults all l k) (append-nil back) (h [])))
  where
    number : (x y : ℕ) → (let r : Result ℕ CheckFault = Err (check_fault.ReadFault x) in r) ≡ Err (check_fault.ReadFault y) → x ≡ y
    number x y e = cc
failed-all A faults all back (Err check_fault.OutOfMemory) (check_fault.ReadFault n) result e is h = cc
failed-all A faults all back (Err fault) check_fault.OutOfMemory result e is h =
    subst (λ (r : Result A CheckFault). IfReadFault r (RoseAt faults all back)) (sym e) tt

pub none-left : {S : Type 0} (xs : List S) → length xs ≡ 0 → xs ≡ []
none-left [] e = refl
none-left (x ∷ xs) e = absurd (omega (arith, e))

-- sources that are left, by an equation
pub goes-at : {S : Type 0} (left : S → Option (List ℕ)) (some rest : List S) (all : List Record) (w : List Reading) (outcome : Result ℕ CheckFault)
    → some ≡ rest
    → Goes left some all w outcome → Goes left rest all w outcome
goes-at left some rest all w outcome same g = subst (λ (r : List _). Goes left r all w outcome) same g

pub hands-more : {S : Type 0} (name : S → List ℕ) (faults : S → ℕ) (all back some new rest : List S) (s n : S) → some ≡ s ∷ rest → new ≡ back ++ n ∷ []
    → name n ≡ name s → faults s ≤ faults n
    → Hands name faults all back some → Hands name faults all new rest
hands-more name faults all back some new rest s n same pushed named later h =
    subst (λ (b : List _). Hands name faults all b rest) (sym pushed)
    (hands-next name faults all back rest s n named later (subst (λ (r : List _). Hands name faults all back r) same h))

pub failed-more : {S : Type 0} (name : S → List ℕ) (faults : S → ℕ) (all back some new rest : List S) (s n : S) (number : ℕ)
    (outcome taken : Result ℕ CheckFault) → some ≡ s ∷ rest → new ≡ back ++ n ∷ []
    → number ≡ length back → IfReadFault taken (λ k. IfOk outcome (λ _. (k ≡ number) × Rose (faults s) (faults n))) → IfErr outcome (λ fault. taken ≡ Err fault)
    → Hands name faults all back some → FailedAt faults all back outcome → FailedAt faults all new taken
failed-more name faults all back some new rest s n number outcome taken same pushed place cause kept h failed =
    subst (λ (b : List _). FailedAt faults all b taken) (sym pushed)
    (failed-next name faults all back rest s n number outcome taken place cause kept (subst (λ (r : List _). Hands name faults all back r) same h) failed)

pub cons-length : {S : Type 0} (xs : List S) (x : S) (ys : List S) → xs ≡ x ∷ ys → length xs ≡ length ys + 1
cons-length xs x ys e = let h : length xs ≡ length (x ∷ ys) = ap length e in omega (arith, h)

pub pushed-length : {T E : Type 0} (result : Result T E) (old new : ℕ) → IsOk result → new ≡ (if is_ok result then old + 1 else old) → new ≡ old + 1
pushed-length (Ok x) old new ok e = e
pushed-length (Err x) old new ok e = absurd (differ ok)
  where
    differ : (false ≡ true) → ⊥
    differ e = cc

-- room after one source more
pub room-next : (old new : List Reading) (outcome taken : Result ℕ CheckFault) (back more : ℕ) → back < 16 → more ≡ back + 1
    → ((count : ℕ) → IfOk taken (λ _. HaveRoom (2 ^ 36 + count) old → HaveRoom count new)) → IfErr outcome (λ fault. taken ≡ Err fault)
    → IfOk outcome (λ _. HaveRoom (2 ^ 36 * (16 - back)) old) → IfOk taken (λ _. HaveRoom (2 ^ 36 * (16 - more)) new)
room-next old new (Ok before) (Ok after) back more low one next kept room =
    next (2 ^ 36 * (16 - more)) (subst (λ n. HaveRoom n old) (omega (arith, low, one)) room)
room-next old new (Ok before) (Err fault) back more low one next kept room = tt
room-next old new (Err fault) taken back more low one next kept room =
    subst (λ (o : Result ℕ CheckFault). IfOk o (λ _. HaveRoom (2 ^ 36 * (16 - more)) new)) (sym kept) tt

-- the same readings after one source more
pub same-next : (first old new : List Reading) (outcome taken : Result ℕ CheckFault)
    → IfOk taken (λ _. AreSame old new) → IfErr outcome (λ fault. taken ≡ Err fault)
    → IfOk outcome (λ _. AreSame first old) → IfOk taken (λ _. AreSame first new)
same-next first old new (Ok before) (Ok after) next kept same = same-more first old new same next
same-next first old new (Ok before) (Err fault) next kept same = tt
same-next first old new (Err fault) taken next kept same =
    subst (λ (o : Result ℕ CheckFault). IfOk o (λ _. AreSame first new)) (sym kept) tt

-- room for a source
pub room-source : (rs : List Reading) (few many : ℕ) → few ≤ many → HaveRoom many rs → HaveRoom few rs
room-source [] few many less room = tt
room-source (r ∷ rs) few many less room = (omega (arith, less, room.0), room-source rs few many less room.1)

pub room-if : (rs : List Reading) (few many : ℕ) (outcome : Result ℕ CheckFault) → few ≤ many → IfOk outcome (λ _. HaveRoom many rs)
    → IfOk outcome (λ _. HaveRoom few rs)
room-if rs few many (Ok x) less room = room-source rs few many less room
room-if rs few many (Err fault) less room = tt

-- what is known where no read failed
pub if-ok : {A : Type 0} (outcome : Result A CheckFault) (x : A) (P : Type 0) → outcome ≡ Ok x → IfOk outcome (λ _. P) → P
if-ok (Ok y) x P is h = h
if-ok (Err fault) x P is h = cc

-- what was taken is of the same readings, and leaves room
pub same-taken : (result : Result ℕ CheckFault) (old new : List Reading) (more : List Record) → ReadOn old new more → IfOk result (λ _. AreSame old new)
same-taken (Ok x) old new more on = same-read old new more on
same-taken (Err fault) old new more on = tt

pub room-taken : (result : Result ℕ CheckFault) (old new : List Reading) (records count : ℕ) → records ≤ 2 ^ 36
    → (HaveRoom (records + count) old → HaveRoom count new) → IfOk result (λ _. HaveRoom (2 ^ 36 + count) old → HaveRoom count new)
room-taken (Ok x) old new records count few next = λ room. next (room-source old (records + count) (2 ^ 36 + count) (omega (arith, few)) room)
room-taken (Err fault) old new records count few next = tt
