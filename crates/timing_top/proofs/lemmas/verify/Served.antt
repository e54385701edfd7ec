-- The readings of a file, with what the claims ask of them, and the files that were read.
use Rattle.std.proofs.Common.{◌≡◌, ◌≤◌, ◌<◌, ◌+◌, ◌^◌, ℕ, zero, suc, List, [], ◌∷◌, ◌++◌, length, take, get_or, Option, Some, None, refl, sym, ap, ◌∙◌, subst}
use Rattle.std.proofs.Common.{arith}
use Rattle.std.proofs.lemmas.List.{length-take-le, take_more}
use Rattle.std.proofs.lemmas.List.Elements.{All-contains, All-contains_itself, All-get_or, All-nil, All-push, All-weaker}
use Rattle.std.specs.Option.{option_map}
use Rattle.std.specs.Prelude.{All, Bool, true, false, if◌then◌else◌, nat_lt, Contains, IfErr, Result, Ok, Err, map, slice_get, slice_index_or}
use Rattle.timing_base.specs.Shifts.{FlowOptions}
use Rattle.timing_base.specs.Captures.{Record}
use Rattle.timing_base.specs.Jobs.{ReportJob}
use Rattle.timing_base.specs.Media.{Media}
use Rattle.timing_base.specs.declared.key.FlowKey.{FlowKey}
use Rattle.timing_base.specs.declared.row.Unjudged.{Unjudged}
use Rattle.timing_outside.specs.Shelves.{StaysAs}
use Rattle.pcap_reader.specs.Records.{AreRecords}
use Rattle.pcapng_reader.specs.Classic.{classic, classic_texts}
use Rattle.interval_checker.specs.Asking.{AsksNoLess}
use Rattle.interval_checker.specs.Readings.{AreSame, HasRead, HaveRead, HaveRoom, asked_by, count_taken}
use Rattle.interval_checker.specs.declared.asked.Asked.{Asked}
use Rattle.interval_checker.specs.declared.reading.Reading.{Reading}
use Rattle.interval_checker.proofs.Asks.{asked-no_less}
use Rattle.timing_report.specs.declared.json_report.reading.ReportProof.{ReportProof}
use Rattle.timing_report.specs.declared.status.Input.TheVariants as the_input
use Rattle.timing_steps.specs.Answers.{AreThere, Inputs, OnReadFault}
use Rattle.timing_steps.specs.declared.failure.Failure.{Failure}
use Rattle.timing_steps.specs.declared.failure.Failure.TheVariants as failure
use Rattle.timing_top.specs.verify.Asked.{AreTexts, FindsOf, NeededRose, captures_for, captures_of, file_count, media_for, needed}
use Rattle.timing_top.specs.verify.Findings.{Finds}
use Rattle.timing_top.specs.verify.Found.{AreAsked, AreServed, Asks, FailedNeeded, IsAskedAll, IsChecked, IsFound, IsReadFor, IsServed, Serves, key_at}
use Rattle.timing_top.specs.declared.verify.read.FileRead.{FileRead}

asks-no_less : (a b : Asked) (file media : ℕ) → AsksNoLess a b → (claim : ReportProof) → Asks a file media claim → Asks b file media claim
asks-no_less a b file media less claim h = λ f m. asked-no_less a b claim.run claim.proof less (h f m)

-- one claim more has asked
pub asks-more : (a b : Asked) (file media n : ℕ) (claims : List ReportProof) (d : ReportProof) → n < length claims → AsksNoLess a b
    → All (Asks a file media) (take n claims) → Asks b file media (get_or claims n d) → All (Asks b file media) (take (n + 1) claims)
asks-more a b file media n claims d within less h here =
    subst (All (Asks b file media)) (sym (take_more claims n d within))
    (All-push (Asks b file media) (take n claims) (get_or claims n d)
    (All-weaker (Asks a file media) (Asks b file media) (asks-no_less a b file media less) (take n claims) h) here)

asked-append : (options : FlowOptions) (claims : List ReportProof) (file number : ℕ) (ms : List Media) (rs : List Reading) (m : Media) (r : Reading)
    → AreAsked options claims file number ms rs
    → IsAskedAll options claims file (number + length ms) m r → AreAsked options claims file number (ms ++ m ∷ []) (rs ++ r ∷ [])
asked-append options claims file number [] [] m r h is = (subst (λ (n : ℕ). IsAskedAll options claims file n m r) (omega arith) is, tt)
asked-append options claims file number [] (x ∷ rs) m r h is = absurd h
asked-append options claims file number (l ∷ ms) [] m r h is = absurd h
asked-append options claims file number (l ∷ ms) (x ∷ rs) m r h is =
    let far : number + length (l ∷ ms) ≡ number + 1 + length ms = omega arith in
    (h.0, asked-append options claims file (number + 1) ms rs m r h.1 (subst (λ (n : ℕ). IsAskedAll options claims file n m r) far is))

-- the readings of the first media, and that of the next one
pub asked-more : (options : FlowOptions) (claims : List ReportProof) (file n : ℕ) (media : List Media) (rs more : List Reading) (m : Media) (r : Reading)
    → n < length media → get_or media n m ≡ m
    → AreAsked options claims file 0 (take n media) rs → IsAskedAll options claims file n m r → more ≡ rs ++ r ∷ []
    → AreAsked options claims file 0 (take (n + 1) media) more
asked-more options claims file n media rs more m r within at h is e =
    let long : 0 + length (take n media) ≡ n = omega (arith, length-take-le n media (omega (arith, within))) in
    let next : take (n + 1) media ≡ take n media ++ m ∷ [] = take_more media n m within ∙ ap (λ (x : Media). take n media ++ x ∷ []) at in
    subst (λ (l : List Media). AreAsked options claims file 0 l more) (sym next)
    (subst (λ (l : List Reading). AreAsked options claims file 0 (take n media ++ m ∷ []) l) (sym e)
    (asked-append options claims file 0 (take n media) rs m r h (subst (λ (x : ℕ). IsAskedAll options claims file x m r) (sym long) is)))

-- a reading more that isn't begun
none-append : (rs : List Reading) (r : Reading) → HaveRead rs [] → HasRead r [] → HaveRead (rs ++ r ∷ []) []
none-append [] r h here = (here, tt)
none-append (x ∷ rs) r h here = (h.0, none-append rs r h.1 here)

pub none-more : (rs more : List Reading) (r : Reading) → more ≡ rs ++ r ∷ [] → HaveRead rs [] → HasRead r [] → HaveRead more []
none-more rs more r e h here = subst (λ (l : List Reading). HaveRead l []) (sym e) (none-append rs r h here)

room-append : (rs : List Reading) (r : Reading) → HaveRoom (2 ^ 40) rs → count_taken r ≡ 0 → HaveRoom (2 ^ 40) (rs ++ r ∷ [])
room-append [] r h none = (omega (arith, none), tt)
room-append (x ∷ rs) r h none = (h.0, room-append rs r h.1 none)

pub room-more : (rs more : List Reading) (r : Reading) → more ≡ rs ++ r ∷ [] → HaveRoom (2 ^ 40) rs → count_taken r ≡ 0 → HaveRoom (2 ^ 40) more
room-more rs more r e h none = subst (HaveRoom (2 ^ 40)) (sym e) (room-append rs r h none)

-- the readings of all media, where they have read on
pub asked-same : (options : FlowOptions) (claims : List ReportProof) (file number : ℕ) (ms : List Media) (olds news : List Reading)
    → AreAsked options claims file number ms olds → AreSame olds news → AreAsked options claims file number ms news
asked-same options claims file number [] [] [] h same = tt
asked-same options claims file number [] [] (n ∷ ns) h same = absurd same
asked-same options claims file number [] (o ∷ os) news h same = absurd h
asked-same options claims file number (m ∷ ms) [] news h same = absurd h
asked-same options claims file number (m ∷ ms) (o ∷ os) [] h same = absurd same
asked-same options claims file number (m ∷ ms) (o ∷ os) (n ∷ ns) h same = (
  record {
    media = same.0.media ∙ h.0.media;
    options_are = same.0.options ∙ h.0.options_are;
    asks = All-weaker (Asks (asked_by o) file number) (Asks (asked_by n) file number) (asks-no_less (asked_by o) (asked_by n) file number same.0.asked) claims
        h.0.asks;
  },
  asked-same options claims file (number + 1) ms os ns h.1 same.1,
)

-- the reading of a media
asked-at : (options : FlowOptions) (claims : List ReportProof) (file number k : ℕ) (ms : List Media) (rs : List Reading) (m : Media)
    → AreAsked options claims file number ms rs → slice_get ms k ≡ Some m
    → (r : Reading) × (slice_get rs k ≡ Some r) × IsAskedAll options claims file (number + k) m r
asked-at options claims file number k [] rs m h e = cc
asked-at options claims file number k (l ∷ ms) [] m h e = absurd h
asked-at options claims file number zero (l ∷ ms) (r ∷ rs) m h e =
    let same : l ≡ m = cc in (
      r,
      refl,
      subst (λ (x : Media). IsAskedAll options claims file (number + 0) x r) same
          (subst (λ (n : ℕ). IsAskedAll options claims file n l r) (omega arith) h.0),
    )
asked-at options claims file number (suc k) (l ∷ ms) (r ∷ rs) m h e =
    let there = asked-at options claims file (number + 1) k ms rs m h.1 e in
    (there.0, there.1, subst (λ (n : ℕ). IsAskedAll options claims file n m there.0) (omega arith) there.2)

read-at : (rs : List Reading) (k : ℕ) (r : Reading) (items : List Record) → HaveRead rs items → slice_get rs k ≡ Some r → HasRead r items
read-at [] k r items h e = cc
read-at (x ∷ rs) zero r items h e = let same : x ≡ r = cc in subst (λ (y : Reading). HasRead y items) same h.0
read-at (x ∷ rs) (suc k) r items h e = read-at rs k r items h.1 e

-- what a file that was read answers on a claim
pub serves-finds : (job : ReportJob) (media : List Media) (claims : List ReportProof) (text : List ℕ → List ℕ) (read : FileRead) (claim : ReportProof)
    (m : Media) (finding : Result Bool Unjudged) → Serves job media claims text read → claim.key.file ≡ read.file → Contains claims claim
    → slice_get media claim.key.media ≡ Some m
    → ((x : Media) (t : FlowOptions) (l : List (List ℕ)) (r : Reading) → slice_get read.readings.items claim.key.media ≡ Some r → IsReadFor x t l claim r
    → Finds x claim t l finding)
    → Finds m claim job.options (map text (captures_of job claim.key)) finding
serves-finds job media claims text read claim m finding s same reported there finds =
    let at = asked-at job.options claims read.file 0 claim.key.media media read.readings.items m s.asked there in
    let names : captures_of job (key_at read.file) ≡ captures_of job claim.key = ap (λ f. captures_of job (key_at f)) (sym same) in
    finds m job.options (map text (captures_of job claim.key)) at.0 at.1 record {
      media = at.2.media;
      options_are = at.2.options_are;
      asked = All-contains (Asks (asked_by at.0) read.file (0 + claim.key.media)) claims claim at.2.asks reported same (omega arith);
      read = λ files notes records.
          read-at read.readings.items claim.key.media at.0 _
          (s.readings files notes (subst (λ n. AreRecords (map text n) files notes) (sym names) records)) at.1;
    }

-- a file that was read over a shelf that is seen later
served-since : (texts also : List ℕ → Option (List ℕ)) (lacks later : List ℕ → Type 0) (job : ReportJob) (media : List Media) (claims : List ReportProof)
    (read : FileRead) → ((n : List ℕ) → also n ≡ texts n) → ((n : List ℕ) → lacks n → later n) → IsServed also later job media claims read
    → IsServed texts lacks job media claims read
served-since texts also lacks later job media claims read same kept h = record {
  there = λ k d within lack. h.there k d within (kept _ lack);
  serves = λ text told. h.serves text (λ k d within. same _ ∙ told k d within);
}

-- a file that was just read
served-new : (texts : List ℕ → Option (List ℕ)) (lacks : List ℕ → Type 0) (job : ReportJob) (media : List Media) (claims : List ReportProof)
    (file : ℕ) (read : FileRead) → read.file ≡ file → AreThere lacks (captures_of job (key_at file))
    → ((text : List ℕ → List ℕ) → AreTexts texts text (captures_of job (key_at file)) → Serves job media claims text read)
    → IsServed texts lacks job media claims read
served-new texts lacks job media claims file read same there serves =
    let names : captures_of job (key_at file) ≡ captures_of job (key_at read.file) = ap (λ f. captures_of job (key_at f)) (sym same) in
    record {
      there = subst (AreThere lacks) names there;
      serves = λ text told. serves text (subst (AreTexts texts text) (sym names) told);
    }

-- and over one that is seen later
pub served-read : {H : Type 0} (text : H → List ℕ → Option (List ℕ)) (lacks : H → List ℕ → Type 0) (faults : H → List ℕ → ℕ) (first now : H)
    (job : ReportJob) (media : List Media) (claims : List ReportProof) (file : ℕ) (read : FileRead) → StaysAs text lacks faults first now
    → read.file ≡ file → AreThere (lacks now) (captures_of job (key_at file))
    → ((x : List ℕ → List ℕ) → AreTexts (classic_texts (text now)) x (captures_of job (key_at file)) → Serves job media claims x read)
    → IsServed (classic_texts (text first)) (lacks first) job media claims read
served-read text lacks faults first now job media claims file read stays same there serves =
    served-since (classic_texts (text first)) (classic_texts (text now)) (lacks first) (lacks now) job media claims read
    (λ n. ap (option_map classic) (stays.texts n)) stays.lacks
    (served-new (classic_texts (text now)) (lacks now) job media claims file read same there serves)

-- one file more that was read
pub served-push : (texts : List ℕ → Option (List ℕ)) (lacks : List ℕ → Type 0) (job : ReportJob) (media : List Media) (claims : List ReportProof)
    (reads more : List FileRead) (read : FileRead) → more ≡ reads ++ read ∷ [] → AreServed texts lacks job media claims reads
    → IsServed texts lacks job media claims read → AreServed texts lacks job media claims more
served-push texts lacks job media claims reads more read e all here =
    subst (All (IsServed texts lacks job media claims)) (sym e) (All-push (IsServed texts lacks job media claims) reads read all here)

-- what a file that was read says of a claim
pub found-of : (texts : List ℕ → Option (List ℕ)) (lacks : List ℕ → Type 0) (job : ReportJob) (media : List Media) (claims : List ReportProof)
    (read : FileRead) (claim : ReportProof) (m : Media) (finding : Result Bool Unjudged) → IsServed texts lacks job media claims read
    → read.file ≡ claim.key.file
    → ((text : List ℕ → List ℕ) → Serves job media claims text read → Finds m claim job.options (map text (captures_of job claim.key)) finding)
    → IsFound texts lacks job m claim finding
found-of texts lacks job media claims read claim m finding served same finds =
    let names : captures_of job (key_at read.file) ≡ captures_of job claim.key = ap (λ f. captures_of job (key_at f)) same in
    record {
      there = subst (AreThere lacks) names served.there;
      finds = λ text told. finds text (served.serves text (subst (AreTexts texts text) (sym names) told));
    }

-- a claim is checked, by what is found where its flow is there
pub checked-there : (texts : List ℕ → Option (List ℕ)) (lacks : List ℕ → Type 0) (job : ReportJob) (media : List Media) (claim : ReportProof) (m : Media)
    (finding : Result Bool Unjudged) → media_for job media claim.key ≡ Some m → IsFound texts lacks job m claim finding
    → IsChecked texts lacks job media record { claim = claim; finding = finding }
checked-there texts lacks job media claim m finding e is = record {
  there = subst (λ o. AreThere lacks (captures_for o job claim.key)) (sym e) is.there;
  finds = λ text told.
      subst (λ o. FindsOf o job claim text finding) (sym e)
      (is.finds text (subst (λ o. AreTexts texts text (captures_for o job claim.key)) e told));
}

-- where it isn't, it is not confirmed
pub checked-none : (texts : List ℕ → Option (List ℕ)) (lacks : List ℕ → Type 0) (job : ReportJob) (media : List Media) (claim : ReportProof)
    → media_for job media claim.key ≡ None → IsChecked texts lacks job media record { claim = claim; finding = Ok false }
checked-none texts lacks job media claim e = record {
  there = subst (λ o. AreThere lacks (captures_for o job claim.key)) (sym e) (All-nil (λ (name : List ℕ). ¬ lacks name));
  finds = λ text told. subst (λ o. FindsOf o job claim text (Ok false)) (sym e) refl;
}

-- the media of a claim whose flow is there
pub media-there : (job : ReportJob) (media : List Media) (key : FlowKey) (m : Media) → media_for job media key ≡ Some m → slice_get media key.media ≡ Some m
media-there job media key m e = by-file (nat_lt key.file (file_count job)) e
  where
    by-file : (b : Bool) → (if b then slice_get media key.media else None) ≡ Some m → slice_get media key.media ≡ Some m
    by-file true f = f
    by-file false f = cc

-- the capture that couldn't be read is one that some claim of the report needs
rose-by : (i : Inputs) (mid : List ℕ → ℕ) (job : ReportJob) (media : List Media) (claims : List ReportProof) (claim : ReportProof) (e : Failure)
    → Contains claims claim → ((n : List ℕ) → i.before n ≤ mid n) → FailedNeeded mid i.now job (needed job media claim) e
    → OnReadFault e (λ x. (number : ℕ) × (x ≡ the_input.Capture number) × NeededRose i job media claims number)
rose-by i mid job media claims claim (failure.ReadFault x) reported earlier h = (
  h.0,
  h.1,
  record {
    claim = claim;
    reported = reported;
    needs = h.3;
    rose = record { within = h.2.within; rose = omega (arith, earlier (slice_index_or job.captures h.0 []), h.2.rose) };
  },
)
rose-by i mid job media claims claim failure.WriteFault reported earlier h = h
rose-by i mid job media claims claim failure.OutOfMemory reported earlier h = tt

-- of a claim by its place in the report
pub needed-rose : {T : Type 0} (i : Inputs) (mid : List ℕ → ℕ) (job : ReportJob) (media : List Media) (claims : List ReportProof) (k : ℕ) (d : ReportProof)
    (e : Failure) (result : Result T Failure) → result ≡ Err e → k < length claims → ((n : List ℕ) → i.before n ≤ mid n)
    → FailedNeeded mid i.now job (needed job media (get_or claims k d)) e
    → IfErr result (λ x. OnReadFault x (λ input. (number : ℕ) × (input ≡ the_input.Capture number) × NeededRose i job media claims number))
needed-rose i mid job media claims k d e result failed within earlier h =
    let reported : Contains claims (get_or claims k d) = All-get_or (Contains claims) claims k d within (All-contains_itself claims) in
    subst (λ (r : Result _ Failure). IfErr r (λ x. OnReadFault x (λ input. (number : ℕ) × (input ≡ the_input.Capture number)
    × NeededRose i job media claims number))) (sym failed) (rose-by i mid job media claims (get_or claims k d) e reported earlier h)
