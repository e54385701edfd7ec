-- The value of a report is kept by its text: numbers have 64 bits, keys rise, and objects and lists are few in one another.
use Rattle.std.proofs.Common.{◌≡◌, ◌<◌, ◌≤◌, ℕ, suc, List, [], ◌∷◌, ◌++◌, length, Bool, true, false, Some, None, Ordering, Less, Equal, Greater, nat_cmp, refl}
use Rattle.std.proofs.Common.{arith}
use Rattle.std.specs.Prelude.{All, map, codes, Option, IsUtf8, ⊤}
use Rattle.std.specs.Cmp.Lexicographic.{slice_cmp}
use Rattle.std.specs.Option.{ForSome}
use Rattle.std.specs.Ordering.{match_ordering}
use Rattle.std.proofs.Math.Nat.{max-le}
use Rattle.json.proofs.Printed.Utf8.{are_ascii}
use Rattle.json.specs.Tree.{depth, items_depth, members_depth}
use Rattle.serde_json.specs.Data.{Data, string, boolean, array, Items, item, Members, no_members, member, put}
use Rattle.serde_json.specs.View.{items_of}
use Rattle.serde_json.specs.Written.{outline, items_outline, members_outline}
use Rattle.timing_base.specs.Media.{Media, IsMedia}
use Rattle.timing_base.specs.Verdicts.{Judged}
use Rattle.timing_base.specs.declared.capture.FileNote.{FileNote}
use Rattle.timing_base.specs.declared.fail.FailProof.{FailProof}
use Rattle.timing_base.specs.declared.media.Kind.{Kind}
use Rattle.timing_base.specs.declared.media.Kind.TheVariants.{N, NL, W}
use Rattle.timing_base.specs.declared.row.KindVerdict.{KindVerdict}
use Rattle.timing_base.specs.declared.row.KindVerdict.TheVariants as kind_verdict
use Rattle.timing_base.specs.declared.row.Row.{Row}
use Rattle.timing_base.specs.declared.row.Run.{Run}
use Rattle.timing_base.specs.declared.row.RunVerdict.{RunVerdict}
use Rattle.timing_base.specs.declared.row.RunVerdict.TheVariants as run_verdict
use Rattle.timing_base.specs.declared.row.Unjudged.{Unjudged}
use Rattle.timing_base.specs.declared.row.Unjudged.TheVariants as unjudged
use Rattle.timing_base.specs.declared.row.Verdict.{Verdict}
use Rattle.timing_base.specs.declared.row.Verdict.TheVariants as verdict
use Rattle.timing_base.specs.Jobs.{CheckJob}
use Rattle.timing_report.specs.Outcomes.{verdict_on, first_passing, buffer_peak, status_of}
use Rattle.timing_base.specs.Keys.{media_of, no_media}
use Rattle.timing_base.specs.Targets.{target_of, target_text}
use Rattle.timing_report.specs.Words.{kind_name, class_name, declared_name, model_name, packet_fault_text, note_text}
use Rattle.timing_report.specs.json_report.Fails.{IsWord, AreWords, FitsKind, FitsJudged, FitsRunVerdict, FitsRun, FitsUnjudged, FitsVerdict}
use Rattle.timing_report.specs.json_report.Json.{Member, with_members, object_of, list_of, count, proof_members, proof_data, outcome_members, type_members}
use Rattle.timing_report.specs.json_report.Json.{type_data}
use Rattle.timing_report.specs.json_report.Json.{types_data, interlaced_members, judged_numbers, judged_words, judged_members, no_whole_frame_members}
use Rattle.timing_report.specs.json_report.Json.{unjudged_members}
use Rattle.timing_report.specs.json_report.Json.{expected_members, run_verdict_members, run_members, whole_run_members, run_data, verdict_members, flow_members}
use Rattle.timing_report.specs.json_report.Json.{flow_data}
use Rattle.timing_report.specs.json_report.Json.{row_data, file_members, file_data, files_data, report_members, report_data}
use Rattle.timing_report.proofs.lemmas.json_report.Kept.{Kept, ItemsKept, AllKept, object-kept}
use Rattle.timing_report.proofs.lemmas.json_report.Texts.{HasTexts, ItemsHaveTexts, MembersHaveTexts, ascii, class_utf8, declared_utf8, kind_utf8, model_utf8}
use Rattle.timing_report.proofs.lemmas.json_report.Texts.{note_utf8}
use Rattle.timing_report.proofs.lemmas.json_report.Texts.{packet_fault_utf8, put_texts, target_utf8}
use Rattle.timing_report.proofs.lemmas.json_report.Limits.{c_max_small, vrx_full_small, code_small}

-- a value that its text keeps, with at most so many objects and lists in one another, and with UTF-8 in its texts
abbrev pub Fits : ℕ → Data → Type 0
Fits most d = Kept d × (depth (outline d) ≤ most) × HasTexts d

abbrev AllFit : ℕ → List Member → Type 0
AllFit most [] = ⊤
AllFit most (m ∷ ms) = (IsUtf8 m.0 × Fits most m.1) × AllFit most ms

AllFit-append : (most : ℕ) (xs ys : List Member) → AllFit most xs → AllFit most ys → AllFit most (xs ++ ys)
AllFit-append most [] ys h k = k
AllFit-append most (x ∷ xs) ys h k = (h.0, AllFit-append most xs ys h.1 k)

kept_of : (most : ℕ) (ms : List Member) → AllFit most ms → AllKept ms
kept_of most [] h = tt
kept_of most (m ∷ ms) h = (h.0.1.0, kept_of most ms h.1)

texts_of : (most : ℕ) (ms : List Member) (found : Members) → AllFit most ms → MembersHaveTexts found → MembersHaveTexts (with_members ms found)
texts_of most [] found h t = t
texts_of most (m ∷ ms) found h t = texts_of most ms (put m.0 m.1 found) h.1 (put_texts m.0 m.1 found h.0.0 h.0.1.2 t)

put-depth_at : (most : ℕ) (o : Ordering) (a b c : Members) → members_depth (members_outline a) ≤ most → members_depth (members_outline b) ≤ most
    → members_depth (members_outline c) ≤ most → members_depth (members_outline (match_ordering o a b c)) ≤ most
put-depth_at most Less a b c h k l = h
put-depth_at most Equal a b c h k l = k
put-depth_at most Greater a b c h k l = l

put-depth : (most : ℕ) (k : List ℕ) (d : Data) (ms : Members) → depth (outline d) ≤ most → members_depth (members_outline ms) ≤ most
    → members_depth (members_outline (put k d ms)) ≤ most
put-depth most k d no_members h m = max-le h (omega arith)
put-depth most k d (member l e ms) h m =
    let first : depth (outline e) ≤ most = omega (arith, m) in
    let later : members_depth (members_outline ms) ≤ most = omega (arith, m) in
    put-depth_at most (slice_cmp nat_cmp k l) _ _ _ (max-le h m) (max-le h later) (max-le first (put-depth most k d ms h later))

with_members-depth : (most : ℕ) (ms : List Member) (found : Members) → AllFit most ms → members_depth (members_outline found) ≤ most
    → members_depth (members_outline (with_members ms found)) ≤ most
with_members-depth most [] found h f = f
with_members-depth most (m ∷ ms) found h f = with_members-depth most ms (put m.0 m.1 found) h.1 (put-depth most m.0 m.1 found h.0.1.1 f)

-- an object fits where its values do
object_fits : (most : ℕ) (ms : List Member) → AllFit most ms → Fits (suc most) (object_of ms)
object_fits most ms h =
    let shallow : members_depth (members_outline (with_members ms no_members)) ≤ most = with_members-depth most ms no_members h (omega arith) in
    (object-kept ms (kept_of most ms h), omega (arith, shallow), texts_of most ms no_members h tt)

-- the same of items
abbrev ItemsFit : ℕ → Items → Type 0
ItemsFit most ds = ItemsKept ds × (items_depth (items_outline ds) ≤ most) × ItemsHaveTexts ds

one_more_fits : (most : ℕ) (d : Data) (ds : Items) → Fits most d → ItemsFit most ds → ItemsFit most (item d ds)
one_more_fits most d ds h k = ((h.0, k.0), max-le h.1 k.1, (h.2, k.2))

items_fit : {X : Type 0} (most : ℕ) (f : X → Data) (P : X → Type 0) → ((x : X) → P x → Fits most (f x)) → (xs : List X) → All P xs
    → ItemsFit most (items_of (map f xs))
items_fit most f P each [] h = (tt, omega arith, tt)
items_fit most f P each (x ∷ xs) h =
    one_more_fits most (f x) (items_of (map f xs)) (each x (h 0 x (omega arith))) (items_fit most f P each xs (λ k d lt. h (suc k) d (omega arith)))

array_fits : (most : ℕ) (ds : Items) → ItemsFit most ds → Fits (suc most) (array ds)
array_fits most ds h = (h.0, omega (arith, h.1), h.2)

-- a list fits where its items do
list_fits : {X : Type 0} (most : ℕ) (f : X → Data) (P : X → Type 0) → ((x : X) → P x → Fits most (f x)) → (xs : List X) → All P xs
    → Fits (suc most) (list_of (map f xs))
list_fits most f P each xs h = array_fits most (items_of (map f xs)) (items_fit most f P each xs h)

-- members: a number, a text, and true or false
number_at : (key : List ℕ) → are_ascii key ≡ true → (most n : ℕ) → IsWord n → IsUtf8 key × Fits most (count n)
number_at key e most n h = (ascii key e, (h, omega arith, tt))

text_at : (key : List ℕ) → are_ascii key ≡ true → (most : ℕ) (s : List ℕ) → IsUtf8 s → IsUtf8 key × Fits most (string s)
text_at key e most s h = (ascii key e, (tt, omega arith, h))

flag_at : (key : List ℕ) → are_ascii key ≡ true → (most : ℕ) (b : Bool) → IsUtf8 key × Fits most (boolean b)
flag_at key e most b = (ascii key e, (tt, omega arith, tt))

value_at : (key : List ℕ) → are_ascii key ≡ true → (most : ℕ) (d : Data) → Fits most d → IsUtf8 key × Fits most d
value_at key e most d h = (ascii key e, h)

proof_fits : (proof : FailProof) → AreWords proof → Fits 1 (proof_data proof)
proof_fits proof h = object_fits 0 (proof_members proof) (
  number_at (codes "count") refl 0 proof.count h.count,
  (
    number_at (codes "from") refl 0 proof.from h.from,
    (
      number_at (codes "limit") refl 0 proof.limit h.limit,
      (text_at (codes "model") refl 0 (model_name proof.model) (model_utf8 proof.model), (number_at (codes "to") refl 0 proof.to h.to, tt)),
    ),
  ),
)

outcome_fits : (v : KindVerdict) → FitsKind v → AllFit 1 (outcome_members v)
outcome_fits kind_verdict.Pass h = (flag_at (codes "pass") refl 1 true, tt)
outcome_fits (kind_verdict.Fail proof) h = (flag_at (codes "pass") refl 1 false, (value_at (codes "proof") refl 1 (proof_data proof) (proof_fits proof h), tt))

peak_fits : (judged : Judged) (kind : Kind) → FitsJudged judged → IsWord (buffer_peak judged kind)
peak_fits judged N h = h.gapped_peak
peak_fits judged NL h = h.linear_peak
peak_fits judged W h = h.linear_peak

kind_fits : (judged : Judged) (kind : Kind) → FitsJudged judged → FitsKind (verdict_on judged kind)
kind_fits judged N h = h.n
kind_fits judged NL h = h.nl
kind_fits judged W h = h.w

type_fits : (media : Media) (judged : Judged) → IsMedia media → FitsJudged judged → (kind : Kind) → Fits 2 (type_data media judged kind)
type_fits media judged is h kind = object_fits 1 (type_members media judged kind (verdict_on judged kind)) (
  number_at (codes "bucket_limit") refl 1 _ (c_max_small media judged.n kind is h.is.n_most),
  (
    number_at (codes "bucket_peak") refl 1 judged.bucket_peak h.bucket_peak,
    (
      number_at (codes "buffer_limit") refl 1 _ (vrx_full_small media judged.n kind is h.is.n_most),
      (
        number_at (codes "buffer_peak") refl 1 _ (peak_fits judged kind h),
        (text_at (codes "type") refl 1 (kind_name kind) (kind_utf8 kind), outcome_fits (verdict_on judged kind) (kind_fits judged kind h)),
      ),
    ),
  ),
)

types_fit : (media : Media) (judged : Judged) → IsMedia media → FitsJudged judged → Fits 3 (types_data media judged)
types_fit media judged is h =
    list_fits 2 (type_data media judged) (λ kind. ⊤) (λ kind t. type_fits media judged is h kind) (N ∷ NL ∷ W ∷ []) (λ k d lt. tt)

interlaced_fits : (b : Bool) → AllFit 3 (interlaced_members b)
interlaced_fits true = (flag_at (codes "interlaced") refl 3 true, tt)
interlaced_fits false = tt

small_n : (n : ℕ) → n ≤ 262144 → IsWord n
small_n n h = omega arith

numbers_fit : (judged : Judged) → FitsJudged judged → AllFit 3 (judged_numbers judged)
numbers_fit judged h = (
  number_at (codes "frames") refl 3 judged.frames h.frames,
  (
    number_at (codes "head") refl 3 judged.head h.head,
    (
      number_at (codes "n") refl 3 judged.n (small_n judged.n h.is.n_most),
      (
        number_at (codes "packets") refl 3 judged.packets h.packets,
        (number_at (codes "tail") refl 3 judged.tail h.tail, tt),
      ),
    ),
  ),
)

words_fit : (media : Media) (judged : Judged) → IsMedia media → FitsJudged judged → AllFit 3 (judged_words media judged)
words_fit media judged is h = (
  text_at (codes "class") refl 3 (class_name (first_passing judged)) (class_utf8 (first_passing judged)),
  (
    text_at (codes "declared") refl 3 (declared_name media.declared) (declared_utf8 media.declared),
    (
      value_at (codes "types") refl 3 (types_data media judged) (types_fit media judged is h),
      (text_at (codes "verdict") refl 3 (codes "judged") (ascii (codes "judged") refl), interlaced_fits media.interlaced),
    ),
  ),
)

judged_fits : (media : Media) (judged : Judged) → IsMedia media → FitsJudged judged → AllFit 3 (judged_members media judged)
judged_fits media judged is h = AllFit-append 3 (judged_numbers judged) (judged_words media judged) (numbers_fit judged h) (words_fit media judged is h)

word_at : (most : ℕ) (s : List ℕ) → are_ascii s ≡ true → IsUtf8 (codes "verdict") × Fits most (string s)
word_at most s e = text_at (codes "verdict") refl most s (ascii s e)

no_whole_frame_fits : (most head : ℕ) → IsWord head → AllFit most (no_whole_frame_members head)
no_whole_frame_fits most head h = (number_at (codes "head") refl most head h, (word_at most (codes "no whole frame") refl, tt))

run_verdict_fits : (media : Media) (v : RunVerdict) → IsMedia media → FitsRunVerdict v → AllFit 3 (run_verdict_members media v)
run_verdict_fits media (run_verdict.NoWholeFrame head) is h = no_whole_frame_fits 3 head h
run_verdict_fits media (run_verdict.Judged judged) is h = judged_fits media judged is h

expected_fits : (expected : Option ℕ) → ForSome expected IsWord → AllFit 3 (expected_members expected)
expected_fits None h = tt
expected_fits (Some number) h = (number_at (codes "expected") refl 3 number (h number refl), tt)

run_fits : (media : Media) → IsMedia media → (run : Run) → FitsRun run → Fits 4 (run_data media run)
run_fits media is run h = object_fits 3 (whole_run_members media run)
    (AllFit-append 3 (run_members run) (run_verdict_members media run.verdict)
    (number_at (codes "number") refl 3 run.number h.number, (number_at (codes "record") refl 3 run.rec h.rec, expected_fits run.expected h.expected))
    (run_verdict_fits media run.verdict is h.outcome))

unjudged_fits : (u : Unjudged) → FitsUnjudged u → AllFit 5 (unjudged_members u)
unjudged_fits unjudged.Absent h = (word_at 5 (codes "absent") refl, tt)
unjudged_fits (unjudged.NoWholeFrame head) h = no_whole_frame_fits 5 head h
unjudged_fits (unjudged.Refused rec fault) h = (
  text_at (codes "fault") refl 5 (packet_fault_text fault) (packet_fault_utf8 fault),
  (number_at (codes "record") refl 5 rec h, (word_at 5 (codes "refused") refl, tt)),
)
unjudged_fits (unjudged.Gap rec expected got) h = (
  number_at (codes "expected") refl 5 expected h.1,
  (
    number_at (codes "got") refl 5 got h.2,
    (number_at (codes "record") refl 5 rec h.0, (word_at 5 (codes "gap") refl, tt)),
  ),
)

more : (d : Data) → Fits 3 d → Fits 5 d
more d h = (h.0, omega (arith, h.1), h.2)

all_more : (ms : List Member) → AllFit 3 ms → AllFit 5 ms
all_more [] h = tt
all_more (m ∷ ms) h = ((h.0.0, more m.1 h.0.1), all_more ms h.1)

verdict_fits : (media : Media) (v : Verdict) → IsMedia media → FitsVerdict v → AllFit 5 (verdict_members media v)
verdict_fits media (verdict.Unjudged u) is h = unjudged_fits u h
verdict_fits media (verdict.Judged judged) is h = all_more (judged_members media judged) (judged_fits media judged is h)
verdict_fits media (verdict.Runs runs) is h = (
  value_at (codes "runs") refl 5 (list_of (map (run_data media) runs)) (list_fits 4 (run_data media) FitsRun (run_fits media is) runs h.1),
  (word_at 5 (codes "runs") refl, tt),
)

-- a flow, whose file and media are few
pub flow_fits : (media : Media) (row : Row) → IsMedia media → row.key.file < 16 → row.key.media < 64 → FitsVerdict row.verdict → Fits 6 (flow_data media row)
flow_fits media row is file number h = object_fits 5 (flow_members media row.key row.verdict) (
  number_at (codes "file") refl 5 _ (omega (arith, file)),
  (
    number_at (codes "media") refl 5 _ (omega (arith, number)),
    (text_at (codes "target") refl 5 (target_text (target_of media)) (target_utf8 (target_of media)), verdict_fits media row.verdict is h),
  ),
)

file_fits : (name : List ℕ) (note : FileNote) → IsUtf8 name → Fits 1 (file_data name note)
file_fits name note h =
    object_fits 0 (file_members name note) (text_at (codes "end") refl 0 (note_text note) (note_utf8 note), (text_at (codes "name") refl 0 name h, tt))

files_fit : (names : List (List ℕ)) (notes : List FileNote) → All IsUtf8 names → ItemsFit 1 (items_of (files_data names notes))
files_fit [] notes h = (tt, omega arith, tt)
files_fit (name ∷ names) [] h = (tt, omega arith, tt)
files_fit (name ∷ names) (note ∷ notes) h =
    one_more_fits 1 (file_data name note) (items_of (files_data names notes)) (file_fits name note (h 0 name (omega arith)))
    (files_fit names notes (λ k d lt. h (suc k) d (omega arith)))

no_deeper : (d : Data) → Fits 2 d → Fits 7 d
no_deeper d h = (h.0, omega (arith, h.1), h.2)

-- a row that a report can tell
abbrev pub Tellable : List Media → Row → Type 0
Tellable session row = (row.key.file < 16) × (row.key.media < length session) × FitsVerdict row.verdict

row_fits : (session : List Media) → length session ≤ 64 → All IsMedia session → (row : Row) → Tellable session row → Fits 6 (row_data session row)
row_fits session few media row h = flow_fits (media_of session row.key) row (media row.key.media no_media h.1) h.0 (omega (arith, h.1)) h.2

-- a report
pub report_fits : (job : CheckJob) (session : List Media) (notes : List FileNote) (rows : List Row) → All IsUtf8 job.captures → length session ≤ 64
    → All IsMedia session
    → All (Tellable session) rows → Fits 8 (report_data job session notes rows)
report_fits job session notes rows names few media tell = object_fits 7 (report_members job session notes rows) (
  value_at (codes "files") refl 7 (list_of (files_data job.captures notes))
      (no_deeper (list_of (files_data job.captures notes)) (array_fits 1 (items_of (files_data job.captures notes)) (files_fit job.captures notes names))),
  (
    value_at (codes "flows") refl 7 (list_of (map (row_data session) rows))
        (list_fits 6 (row_data session) (Tellable session) (row_fits session few media) rows tell),
    (number_at (codes "status") refl 7 _ (code_small (status_of session notes rows)), tt),
  ),
)
