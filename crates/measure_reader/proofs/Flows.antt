-- A judged flow is read back.
use Rattle.std.proofs.Common.{◌≡◌, ◌∙◌, ℕ, zero, suc, ◌+◌, ◌-◌, ◌*◌, ◌<◌, ◌≤◌, ◌^◌, Bool, true, false, List, [], ◌∷◌, ◌++◌, length}
use Rattle.std.proofs.Common.{refl, ap, append_assoc, append-nil, sym, arith}
use Rattle.std.specs.Prelude.{All, Option, Some, None, codes, map, nat_lt, replicate}
use Rattle.std.specs.Char.{digit_value}
use Rattle.std.specs.Fmt.{decimal, digits, format_spec, number_padding, padded_integral}
use Rattle.std.specs.Option.{IfSome}
use Rattle.std.specs.Str.Parse.{AllDigits, digits_value_after}
use Rattle.std.proofs.lemmas.Bool.Decides.{nat_tests}
use Rattle.std.proofs.lemmas.Fmt.{digits_is_IsNumeral}
use Rattle.std.proofs.lemmas.List.{length-append}
use Rattle.std.proofs.lemmas.List.Elements.{All-head, All-tail}
use Rattle.sdp_reader.specs.Bytes.{after_prefix}
use Rattle.timing_base.specs.Keys.{key_of, media_of}
use Rattle.timing_base.specs.Media.{Media}
use Rattle.timing_base.specs.Targets.{target_of, target_text}
use Rattle.timing_base.specs.declared.row.Verdict.{Verdict}
use Rattle.timing_base.specs.declared.row.Verdict.TheVariants as verdict
use Rattle.timing_report.specs.Words.{ssrc_text}
use Rattle.flow_measure.specs.report.Json.{flow_text, items_text, judged_text, run_text, runs_member, ssrc_member, verdict_flow}
use Rattle.flow_measure.specs.report.Told.{ToldFlow, ToldRun}
use Rattle.report_reader.specs.Pieces.{after, at_end}
use Rattle.report_reader.specs.Reported.{FitsMedia}
use Rattle.report_reader.proofs.Flows.{target_back}
use Rattle.report_reader.proofs.Numbers.{number_back}
use Rattle.measure_reader.specs.Fits.{FitsFlow, FitsRun}
use Rattle.measure_reader.specs.Reading.{flow, hex_after, more_runs, run, runs_or_none, ssrc_or_none}
use Rattle.measure_reader.specs.Reading.{verdict as verdict_of}
use Rattle.measure_reader.specs.Told.{ReadFlow, ReadRun, flow_read, judged_in_one, run_read}
use Rattle.measure_reader.proofs.Numbers.{items_long}
use Rattle.measure_reader.proofs.Runs.{run_back}

-- the runs behind the first one
item_is : (media : Media) (r : ToldRun) (rs : List ToldRun) (rest : List ℕ) → items_text (run_text media) true (r ∷ rs) ++ (codes "]" ++ rest)
    ≡ codes "," ++ (run_text media r ++ (items_text (run_text media) true rs ++ (codes "]" ++ rest)))
item_is media r rs rest = simp append_assoc

more_back : {B : Type 0} (next : List ReadRun → List ℕ → Option B) (media : Media) (rs : List ToldRun) (most : ℕ) (rest : List ℕ)
    → All FitsRun rs → length rs ≤ most
    → more_runs most next (items_text (run_text media) true rs ++ (codes "]" ++ rest)) ≡ next (map (run_read media) rs) rest
more_back next media [] zero rest f l = refl
more_back next media [] (suc most) rest f l = refl
more_back next media (r ∷ rs) zero rest f l = absurd (omega (arith, l))
more_back next media (r ∷ rs) (suc most) rest f l =
    let fewer : length rs ≤ most = omega (arith, l) in
    ap (more_runs (suc most) next) (item_is media r rs rest) ∙ run_back _ media r _ (All-head FitsRun r rs f)
    ∙ more_back (λ others. next (run_read media r ∷ others)) media rs most rest (All-tail FitsRun r rs f) fewer

runs_is : (media : Media) (r : ToldRun) (rs : List ToldRun) (rest : List ℕ) → runs_member media (r ∷ rs) ++ rest
    ≡ codes "\"runs\":[" ++ (run_text media r ++ (items_text (run_text media) true rs ++ (codes "]" ++ (codes "," ++ rest))))
runs_is media r rs rest = simp append_assoc

runs_long : (start front later rest : List ℕ) (n : ℕ) → n ≤ length later → n ≤ length (start ++ (front ++ (later ++ rest)))
runs_long start front later rest n l =
    omega (arith, l, length-append start (front ++ (later ++ rest)), length-append front (later ++ rest), length-append later rest)

-- the runs stand before the SSRC, or before the target
runs_back : {B : Type 0} (next : List ReadRun → List ℕ → Option B) (media : Media) (rs : List ToldRun) (rest : List ℕ)
    → after_prefix (codes "\"runs\":[") rest ≡ None → All FitsRun rs → runs_or_none next (runs_member media rs ++ rest) ≡ next (map (run_read media) rs) rest
unfolding runs_or_none
runs_back next media [] rest e f = rw e refl
runs_back next media (r ∷ rs) rest e f =
    let later = items_text (run_text media) true rs in
    let most = length (codes "\"runs\":[" ++ (run_text media r ++ (later ++ (codes "]" ++ (codes "," ++ rest))))) in
    ap (runs_or_none next) (runs_is media r rs rest)
    ∙ run_back (λ first. more_runs most (λ others tail. after (codes ",") (next (first ∷ others)) tail)) media r _ (All-head FitsRun r rs f)
    ∙ more_back (λ others tail. after (codes ",") (next (run_read media r ∷ others)) tail) media rs most (codes "," ++ rest) (All-tail FitsRun r rs f)
    (runs_long (codes "\"runs\":[") (run_text media r) later (codes "]" ++ (codes "," ++ rest)) (length rs) (items_long (run_text media) rs))

below : (a b : ℕ) → a < b → nat_lt a b ≡ true
below a b h = grind (arith, nat_tests)

-- hexadecimal digits up to a quote
hex_back : {B : Type 0} (value : ℕ) (next : ℕ → List ℕ → Option B) (ds rest : List ℕ) → AllDigits 16 ds
    → hex_after value next (ds ++ (codes "\"," ++ rest)) ≡ next (digits_value_after 16 value ds) (codes "\"," ++ rest)
hex_back value next [] rest h = refl
hex_back value next (d ∷ ds) rest h = rw (below (digit_value d) 16 h.0) (hex_back (value * 16 + digit_value d) next ds rest h.1)

all_zeros : (k : ℕ) (ds : List ℕ) → AllDigits 16 ds → AllDigits 16 (replicate k 48 ++ ds)
all_zeros zero ds h = h
all_zeros (suc k) ds h = (omega arith, all_zeros k ds h)

value_zeros : (k : ℕ) (ds : List ℕ) → digits_value_after 16 0 (replicate k 48 ++ ds) ≡ digits_value_after 16 0 ds
value_zeros zero ds = refl
value_zeros (suc k) ds = value_zeros k ds

-- an SSRC is its digits with zeros before them
padded_is : (ds : List ℕ) → padded_integral (format_spec 32 0 4 8 (2 ^ 64 - 1)) false [] ds
    ≡ replicate (number_padding (format_spec 32 0 4 8 (2 ^ 64 - 1)) false [] (length ds)) 48 ++ ds
unfolding padded_integral
padded_is ds = simp append-nil

hex_number_back : {B : Type 0} (next : ℕ → List ℕ → Option B) (n : ℕ) (rest : List ℕ) → n < 2 ^ 32
    → hex_after 0 next (ssrc_text n ++ (codes "\"," ++ rest)) ≡ next n (codes "\"," ++ rest)
hex_number_back next n rest small =
    let numeral = digits_is_IsNumeral 16 false (omega arith) (omega arith) n (omega (arith, small)) in
    let k = number_padding (format_spec 32 0 4 8 (2 ^ 64 - 1)) false [] (length (digits 16 false n)) in
    ap (λ ds. hex_after 0 next (ds ++ (codes "\"," ++ rest))) (padded_is (digits 16 false n))
    ∙ hex_back 0 next (replicate k 48 ++ digits 16 false n) rest (all_zeros k (digits 16 false n) numeral.0.1)
    ∙ ap (λ m. next m (codes "\"," ++ rest)) (value_zeros k (digits 16 false n) ∙ numeral.1)

ssrc_is : (ssrc : ℕ) (rest : List ℕ) → ssrc_member (Some ssrc) ++ rest ≡ codes "\"ssrc\":\"" ++ (ssrc_text ssrc ++ (codes "\"," ++ rest))
ssrc_is ssrc rest = append_assoc (codes "\"ssrc\":\"") (ssrc_text ssrc ++ codes "\",") rest
    ∙ ap (λ t. codes "\"ssrc\":\"" ++ t) (append_assoc (ssrc_text ssrc) (codes "\",") rest)

-- the SSRC stands before the target
ssrc_back : {B : Type 0} (next : Option ℕ → List ℕ → Option B) (ssrc : Option ℕ) (rest : List ℕ) → IfSome ssrc (λ n. n < 2 ^ 32)
    → ssrc_or_none next (ssrc_member ssrc ++ (codes "\"target\":" ++ rest)) ≡ next ssrc (codes "\"target\":" ++ rest)
unfolding ssrc_or_none
ssrc_back next None rest f = refl
ssrc_back next (Some n) rest f =
    ap (ssrc_or_none next) (ssrc_is n (codes "\"target\":" ++ rest)) ∙ hex_number_back _ n (codes "\"target\":" ++ rest) f

-- the word of a flow's verdict
abbrev verdict_word : (in_one_run : Bool) → List ℕ
verdict_word true = codes "judged"
verdict_word false = codes "runs"

verdict_back : {B : Type 0} (next : Bool → List ℕ → Option B) (one : Bool) (rest : List ℕ) → verdict_of next (verdict_word one ++ rest) ≡ next one rest
unfolding verdict_of
verdict_back next true rest = refl
verdict_back next false rest = refl

no_runs : (ssrc : Option ℕ) (rest : List ℕ) → after_prefix (codes "\"runs\":[") (ssrc_member ssrc ++ (codes "\"target\":" ++ rest)) ≡ None
no_runs None rest = refl
no_runs (Some n) rest = refl

-- the text of a flow in its pieces
flow_is : (media : Media) (f : ToldFlow) (one : Bool) (rest : List ℕ) → judged_text media f (verdict_word one) ++ rest
    ≡ codes "{\"media\":" ++ (decimal (f.media + 1) ++ (codes ",\"packets\":" ++ (decimal f.packets ++ (codes ","
    ++ (runs_member media f.runs ++ (ssrc_member f.ssrc ++ (codes "\"target\":" ++ (codes "\"" ++ (target_text (target_of media)
    ++ (codes "\",\"verdict\":\"" ++ (verdict_word one ++ (codes "\"}" ++ rest))))))))))))
unfolding judged_text
flow_is media f one rest = simp append_assoc

media_is : (f : ToldFlow) → f.media + 1 - 1 ≡ f.media
media_is f = omega arith

-- a judged flow
pub flow_back : {B : Type 0} (next : ReadFlow → List ℕ → Option B) (media : Media) (f : ToldFlow) (one : Bool) (rest : List ℕ)
    → FitsMedia media → FitsFlow f → flow next (judged_text media f (verdict_word one) ++ rest) ≡ next (flow_read media f one) rest
unfolding flow
flow_back next media f one rest m fits =
    ap (flow next) (flow_is media f one rest) ∙ number_back _ (f.media + 1) _ (omega (arith, fits.media)) refl
    ∙ number_back _ f.packets _ fits.packets refl ∙ runs_back _ media f.runs _ (no_runs f.ssrc _) fits.runs ∙ ssrc_back _ f.ssrc _ fits.ssrc
    ∙ target_back _ (target_of media) _ m.address m.port refl ∙ verdict_back _ one _
    ∙ ap (λ place. next record {
      media = place;
      packets = f.packets;
      runs = map (run_read media) f.runs;
      ssrc = f.ssrc;
      target = target_of media;
      in_one_run = one;
    } rest) (media_is f)

same_some : {X : Type 0} (a b : X) → Some a ≡ Some b → a ≡ b
same_some a b h = cc

-- the text of a flow that was judged
text_is : (media : Media) (f : ToldFlow) (found : Verdict) (one : Bool) → judged_in_one found ≡ Some one
    → verdict_flow media f found ≡ judged_text media f (verdict_word one)
text_is media f (verdict.Unjudged unjudged) one e = cc
text_is media f (verdict.Judged judged) one e = ap (λ b. judged_text media f (verdict_word b)) (same_some true one e)
text_is media f (verdict.Runs runs) one e = ap (λ b. judged_text media f (verdict_word b)) (same_some false one e)

-- the same of a flow of a session
pub session_back : (session : List Media) (f : ToldFlow) (one : Bool) → judged_in_one f.verdict ≡ Some one
    → FitsMedia (media_of session (key_of 0 f.media)) → FitsFlow f
    → flow at_end (flow_text session f) ≡ Some (flow_read (media_of session (key_of 0 f.media)) f one)
session_back session f one e m fits =
    let media = media_of session (key_of 0 f.media) in
    ap (flow at_end) (text_is media f f.verdict one e ∙ sym (append-nil (judged_text media f (verdict_word one))))
    ∙ flow_back at_end media f one [] m fits

pub same_flows : (session other_session : List Media) (f other : ToldFlow) (one other_one : Bool)
    → judged_in_one f.verdict ≡ Some one → judged_in_one other.verdict ≡ Some other_one
    → FitsMedia (media_of session (key_of 0 f.media)) → FitsMedia (media_of other_session (key_of 0 other.media)) → FitsFlow f → FitsFlow other
    → flow_text session f ≡ flow_text other_session other
    → flow_read (media_of session (key_of 0 f.media)) f one ≡ flow_read (media_of other_session (key_of 0 other.media)) other other_one
same_flows session other_session f other one other_one e e' m m' fits fits' t =
    same_some _ _ (sym (session_back session f one e m fits) ∙ ap (flow at_end) t ∙ session_back other_session other other_one e' m' fits')

whole_run : (media : Media) (r : ToldRun) → FitsRun r → run at_end (run_text media r) ≡ Some (run_read media r)
whole_run media r f = ap (run at_end) (sym (append-nil (run_text media r))) ∙ run_back at_end media r [] f

pub same_runs : (media other_media : Media) (r other : ToldRun) → FitsRun r → FitsRun other
    → run_text media r ≡ run_text other_media other → run_read media r ≡ run_read other_media other
same_runs media other_media r other f f' t = same_some _ _ (sym (whole_run media r f) ∙ ap (run at_end) t ∙ whole_run other_media other f')
