-- The measurements against the limits of each sender type are read back.
use Rattle.std.proofs.Common.{◌≡◌, ◌∙◌, ℕ, ◌<◌, ◌^◌, List, [], ◌∷◌, ◌++◌, length, refl, ap, append_assoc, arith}
use Rattle.std.specs.Prelude.{All, Option, Some, None, codes}
use Rattle.std.specs.Fmt.{decimal}
use Rattle.std.specs.Option.{IfSome}
use Rattle.std.proofs.lemmas.List.Elements.{All-head, All-tail}
use Rattle.timing_base.specs.Verdicts.{Judged}
use Rattle.timing_base.specs.declared.fail.Broken.{Broken}
use Rattle.timing_base.specs.declared.fail.Broken.TheVariants.{Bucket, Over, Empty}
use Rattle.timing_base.specs.declared.fail.FailProof.{FailProof}
use Rattle.timing_base.specs.declared.media.Kind.{Kind}
use Rattle.timing_base.specs.declared.media.Kind.TheVariants.{N, NL, W}
use Rattle.timing_base.specs.declared.row.KindVerdict.{KindVerdict}
use Rattle.timing_base.specs.declared.row.KindVerdict.TheVariants as kind_verdict
use Rattle.timing_report.specs.Outcomes.{verdict_on}
use Rattle.timing_report.specs.Words.{kind_name}
use Rattle.timing_report.specs.json_report.Fails.{FitsKind}
use Rattle.flow_measure.specs.report.Json.{bins_text, kind_text, kinds_text, member_if, outcome_text, place_members, proof_text, troff_text, list_text}
use Rattle.flow_measure.specs.report.Told.{ToldBins, ToldKind, ToldOffsets, ToldPlace}
use Rattle.report_reader.specs.Pieces.{after}
use Rattle.report_reader.proofs.Numbers.{number_back}
use Rattle.measure_reader.specs.Fits.{FitsBins, FitsOffsets, FitsPlace, FitsToldKind}
use Rattle.table_reader.specs.Fits.{IsWord}
use Rattle.measure_reader.specs.Reading.{bins, breaks, kind, kinds, member_or_none, outcome, place_or_none, proof, window}
use Rattle.measure_reader.specs.Told.{ReadBins, ReadKind, bins_read, kind_read, kinds_read, place_read}
use Rattle.measure_reader.proofs.Numbers.{counts_back}

-- the member `below` stands before the counts, if it is there
below_back : {B : Type 0} (next : Option ℕ → List ℕ → Option B) (below : Option ℕ) (rest : List ℕ) → IfSome below IsWord
    → member_or_none (codes "\"below\":") next (member_if (codes "below") below ++ (codes "\"counts\":" ++ rest)) ≡ next below (codes "\"counts\":" ++ rest)
unfolding member_or_none
below_back next None rest f = refl
below_back next (Some n) rest f =
    let h : n < 2 ^ 64 = f in
    simp (append_assoc, number_back)

bins_is : (b : ToldBins) (below : Option ℕ) (rest : List ℕ) → bins_text b below ++ rest ≡ codes "{\"above\":" ++ (decimal b.above ++ (codes ","
    ++ (member_if (codes "below") below ++ (codes "\"counts\":" ++ (list_text decimal b.counts ++ (codes ",\"limit\":" ++ (decimal b.limit
    ++ (codes ",\"width\":" ++ (decimal b.width ++ (codes "}" ++ rest))))))))))
bins_is b below rest = simp append_assoc

pub bins_back : {B : Type 0} (next : ReadBins → List ℕ → Option B) (b : ToldBins) (below : Option ℕ) (rest : List ℕ) → FitsBins b → IfSome below IsWord
    → bins next (bins_text b below ++ rest) ≡ next (bins_read b below) rest
unfolding bins
bins_back next b below rest f l =
    ap (bins next) (bins_is b below rest) ∙ number_back _ b.above _ f.above refl ∙ below_back _ below _ l ∙ counts_back _ b.counts _ f.counts
    ∙ number_back _ b.limit _ f.limit refl ∙ number_back _ b.width _ f.width refl

-- the place stands before packet `to`, if it is there
place_back : {B : Type 0} (next : Option ToldPlace → List ℕ → Option B) (place : Option ToldPlace) (to : ℕ) (rest : List ℕ) → IfSome place FitsPlace
    → place_or_none next (place_members place ++ (codes "\"to\":" ++ rest)) ≡ next place (codes "\"to\":" ++ rest)
unfolding place_or_none
place_back next None to rest f = refl
place_back next (Some p) to rest f =
    let r : p.rec < 2 ^ 64 = f.rec in
    let s : p.stamp < 2 ^ 64 = f.stamp in
    simp (append_assoc, number_back)

proof_at : {B : Type 0} (next : FailProof → Option ToldPlace → List ℕ → Option B) (broken : Broken) (from to count limit : ℕ)
    (place : Option ToldPlace) (rest : List ℕ) → from < 2 ^ 64 → to < 2 ^ 64 → count < 2 ^ 64 → limit < 2 ^ 64 → IfSome place FitsPlace
    → proof next (proof_text record { model = broken; from = from; to = to; count = count; limit = limit } place ++ rest)
    ≡ next record { model = broken; from = from; to = to; count = count; limit = limit } place rest
unfolding proof place_or_none
proof_at next Bucket from to count limit None rest f t c l p = simp (append_assoc, number_back)
proof_at next Over from to count limit None rest f t c l p = simp (append_assoc, number_back)
proof_at next Empty from to count limit None rest f t c l p = simp (append_assoc, number_back)
proof_at next Bucket from to count limit (Some place) rest f t c l p =
    let r : place.rec < 2 ^ 64 = p.rec in let s : place.stamp < 2 ^ 64 = p.stamp in simp (append_assoc, number_back)
proof_at next Over from to count limit (Some place) rest f t c l p =
    let r : place.rec < 2 ^ 64 = p.rec in let s : place.stamp < 2 ^ 64 = p.stamp in simp (append_assoc, number_back)
proof_at next Empty from to count limit (Some place) rest f t c l p =
    let r : place.rec < 2 ^ 64 = p.rec in let s : place.stamp < 2 ^ 64 = p.stamp in simp (append_assoc, number_back)

pub outcome_back : {B : Type 0} (next : KindVerdict → Option ToldPlace → List ℕ → Option B) (found : KindVerdict) (place : Option ToldPlace) (rest : List ℕ)
    → FitsKind found → IfSome place FitsPlace → outcome next (outcome_text found place ++ rest) ≡ next found (place_read found place) rest
unfolding outcome
outcome_back next kind_verdict.Pass place rest f p = refl
outcome_back next (kind_verdict.Fail found) place rest f p =
    proof_at (λ seen where_to. next (kind_verdict.Fail seen) where_to) found.model found.from found.to found.count found.limit place rest
    f.from f.to f.count f.limit p

-- the ends of a window
window_at : {B : Type 0} (next : ToldOffsets → List ℕ → Option B) (least greatest : Option ℕ) (rest : List ℕ) → IfSome least IsWord → IfSome greatest IsWord
    → window next (troff_text record { least = least; greatest = greatest } ++ rest) ≡ next record { least = least; greatest = greatest } rest
unfolding window
window_at next None None rest l g = refl
window_at next None (Some greatest) rest l g =
    let h : greatest < 2 ^ 64 = g in simp (append_assoc, number_back)
window_at next (Some least) None rest l g =
    let h : least < 2 ^ 64 = l in simp (append_assoc, number_back)
window_at next (Some least) (Some greatest) rest l g =
    let h : least < 2 ^ 64 = l in let k : greatest < 2 ^ 64 = g in simp (append_assoc, number_back)

pub window_back : {B : Type 0} (next : ToldOffsets → List ℕ → Option B) (t : ToldOffsets) (rest : List ℕ) → FitsOffsets t
    → window next (troff_text t ++ rest) ≡ next t rest
window_back next t rest f = window_at next t.least t.greatest rest f.least f.greatest

-- the first packets that break the limits
breaks_at : {B : Type 0} (next : Option ℕ → Option ℕ → Option ℕ → ℕ → List ℕ → Option B) (bucket empty over : Option ℕ) (broken : ℕ) (rest : List ℕ)
    → IfSome bucket IsWord → IfSome empty IsWord → IfSome over IsWord → broken < 2 ^ 64
    → breaks next (member_if (codes "first_bucket") bucket ++ (member_if (codes "first_empty") empty ++ (member_if (codes "first_over") over
    ++ (codes "\"frames_broken\":" ++ (decimal broken ++ (codes "," ++ rest)))))) ≡ next bucket empty over broken (codes "," ++ rest)
unfolding breaks member_or_none
breaks_at next None None None broken rest b e o h = simp number_back
breaks_at next None None (Some over) broken rest b e o h =
    let k : over < 2 ^ 64 = o in simp (append_assoc, number_back)
breaks_at next None (Some empty) None broken rest b e o h =
    let j : empty < 2 ^ 64 = e in simp (append_assoc, number_back)
breaks_at next None (Some empty) (Some over) broken rest b e o h =
    let j : empty < 2 ^ 64 = e in let k : over < 2 ^ 64 = o in simp (append_assoc, number_back)
breaks_at next (Some bucket) None None broken rest b e o h =
    let i : bucket < 2 ^ 64 = b in simp (append_assoc, number_back)
breaks_at next (Some bucket) None (Some over) broken rest b e o h =
    let i : bucket < 2 ^ 64 = b in let k : over < 2 ^ 64 = o in simp (append_assoc, number_back)
breaks_at next (Some bucket) (Some empty) None broken rest b e o h =
    let i : bucket < 2 ^ 64 = b in let j : empty < 2 ^ 64 = e in simp (append_assoc, number_back)
breaks_at next (Some bucket) (Some empty) (Some over) broken rest b e o h =
    let i : bucket < 2 ^ 64 = b in let j : empty < 2 ^ 64 = e in let k : over < 2 ^ 64 = o in simp (append_assoc, number_back)

-- the text of a type in its pieces
kind_is : (of : Kind) (found : KindVerdict) (k : ToldKind) (rest : List ℕ) → kind_text of found k ++ rest
    ≡ codes "{\"bucket\":" ++ (bins_text k.bucket None ++ (codes ",\"buffer\":" ++ (bins_text k.buffer (Some k.buffer.below) ++ (codes ","
    ++ (member_if (codes "first_bucket") k.first_bucket ++ (member_if (codes "first_empty") k.first_empty
    ++ (member_if (codes "first_over") k.first_over ++ (codes "\"frames_broken\":" ++ (decimal k.groups_broken ++ (codes ","
    ++ (outcome_text found k.named ++ (codes ",\"troff\":" ++ (troff_text k.troff
    ++ (codes ",\"type\":\"" ++ (kind_name of ++ (codes "\"}" ++ rest))))))))))))))))
unfolding kind_text
kind_is of found k rest = simp append_assoc

-- the name of a type
name_back : {B : Type 0} (next : List ℕ → Option B) (of : Kind) (rest : List ℕ) → after (kind_name of) next (kind_name of ++ rest) ≡ next rest
name_back next N rest = refl
name_back next NL rest = refl
name_back next W rest = refl

-- a sender type
pub kind_back : {B : Type 0} (next : ReadKind → List ℕ → Option B) (of : Kind) (found : KindVerdict) (k : ToldKind) (rest : List ℕ)
    → FitsKind found → FitsToldKind k → kind (kind_name of) next (kind_text of found k ++ rest) ≡ next (kind_read found k) rest
unfolding kind
kind_back next of found k rest v f =
    ap (kind (kind_name of) next) (kind_is of found k rest) ∙ bins_back _ k.bucket None _ f.bucket tt
    ∙ bins_back _ k.buffer (Some k.buffer.below) _ f.buffer f.buffer.below
    ∙ breaks_at _ k.first_bucket k.first_empty k.first_over k.groups_broken _ f.first_bucket f.first_empty f.first_over f.groups_broken
    ∙ outcome_back _ found k.named _ v f.named ∙ window_back _ k.troff _ f.troff ∙ name_back _ of _

kinds_are : (judged : Judged) (a b c : ToldKind) (rest : List ℕ) → kinds_text judged (a ∷ b ∷ c ∷ []) ++ rest
    ≡ codes "[" ++ (kind_text N (verdict_on judged N) a ++ (codes "," ++ (kind_text NL (verdict_on judged NL) b
    ++ (codes "," ++ (kind_text W (verdict_on judged W) c ++ (codes "]" ++ rest))))))
kinds_are judged a b c rest = simp append_assoc

-- the types N, NL and W
pub kinds_back : {B : Type 0} (next : List ReadKind → List ℕ → Option B) (judged : Judged) (ks : List ToldKind) (rest : List ℕ)
    → FitsKind (verdict_on judged N) → FitsKind (verdict_on judged NL) → FitsKind (verdict_on judged W) → All FitsToldKind ks → length ks ≡ 3
    → kinds next (kinds_text judged ks ++ rest) ≡ next (kinds_read judged 0 ks) rest
unfolding kinds
kinds_back next judged [] rest n nl w f e = absurd (omega (arith, e))
kinds_back next judged (a ∷ []) rest n nl w f e = absurd (omega (arith, e))
kinds_back next judged (a ∷ b ∷ []) rest n nl w f e = absurd (omega (arith, e))
kinds_back next judged (a ∷ b ∷ c ∷ []) rest n nl w f e =
    let later = All-tail FitsToldKind a (b ∷ c ∷ []) f in
    let last = All-tail FitsToldKind b (c ∷ []) later in
    ap (kinds next) (kinds_are judged a b c rest) ∙ kind_back _ N (verdict_on judged N) a _ n (All-head FitsToldKind a (b ∷ c ∷ []) f)
    ∙ kind_back _ NL (verdict_on judged NL) b _ nl (All-head FitsToldKind b (c ∷ []) later)
    ∙ kind_back _ W (verdict_on judged W) c _ w (All-head FitsToldKind c [] last)
kinds_back next judged (a ∷ b ∷ c ∷ d ∷ more) rest n nl w f e = absurd (omega (arith, e))
