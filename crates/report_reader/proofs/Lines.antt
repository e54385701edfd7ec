-- The lines of a report are read back, one after another.
use Rattle.std.proofs.Common.{◌≡◌, ◌∙◌, ℕ, ◌^◌, ◌<◌, ◌==◌, Bool, true, false, List, [], ◌∷◌, ◌++◌, refl, ap}
use Rattle.std.proofs.Common.{arith, append_assoc}
use Rattle.std.specs.Prelude.{Option, Some, None, codes}
use Rattle.std.specs.Fmt.{decimal}
use Rattle.std.proofs.lemmas.Bool.Decides.{nat_tests}
use Rattle.timing_base.specs.Media.{Media, IsMedia}
use Rattle.timing_base.specs.Verdicts.{Judged}
use Rattle.timing_base.specs.declared.fail.Broken.{Broken}
use Rattle.timing_base.specs.declared.fail.Broken.TheVariants.{Bucket, Over, Empty}
use Rattle.timing_base.specs.declared.fail.FailProof.{FailProof}
use Rattle.timing_base.specs.declared.media.Kind.{Kind}
use Rattle.timing_base.specs.declared.media.Kind.TheVariants.{N, NL, W}
use Rattle.timing_base.specs.declared.packet.PacketFault.{PacketFault}
use Rattle.timing_base.specs.declared.packet.PacketFault.TheVariants as packet
use Rattle.timing_base.specs.declared.row.KindVerdict.{KindVerdict}
use Rattle.timing_base.specs.declared.row.KindVerdict.TheVariants.{Pass, Fail}
use Rattle.timing_report.specs.Outcomes.{first_passing}
use Rattle.timing_report.specs.Verdict.{proof_text, outcome_text, type_lines as lines_of_types, judged_text}
use Rattle.timing_report.specs.Words.{class_name, declared_name, group_name, packet_fault_text}
use Rattle.timing_report.specs.Text.{text_of_lines}
use Rattle.timing_report.specs.json_report.Fails.{AreWords, FitsKind, FitsJudged}
use Rattle.timing_report.proofs.lemmas.json_report.Limits.{c_max_small, vrx_full_small}
use Rattle.report_reader.specs.Pieces.{after, begins_with_digit}
use Rattle.report_reader.specs.Reading.{class_word, declared_word, group_word, groups_word, judged_lines, outcome, packet_fault, type_line, type_lines}
use Rattle.report_reader.specs.Reading.{violation}
use Rattle.report_reader.specs.Told.{ToldJudged, ToldType, told_fault, told_judged, told_type}
use Rattle.report_reader.specs.Reported.{FitsFault}
use Rattle.report_reader.proofs.Numbers.{number_back}

violation_at : {B : Type 0} (next : FailProof → List ℕ → Option B) (broken : Broken) (from to count limit : ℕ) (rest : List ℕ)
    → from < 2 ^ 64 → to < 2 ^ 64 → count < 2 ^ 64 → limit < 2 ^ 64 → begins_with_digit rest ≡ false
    → violation next (proof_text record { model = broken; from = from; to = to; count = count; limit = limit } ++ rest)
    ≡ next record { model = broken; from = from; to = to; count = count; limit = limit } rest
unfolding violation
violation_at next Bucket from to count limit rest f t c l e = simp (append_assoc, number_back)
violation_at next Over from to count limit rest f t c l e = simp (append_assoc, number_back)
violation_at next Empty from to count limit rest f t c l e = simp (append_assoc, number_back)

pub violation_back : {B : Type 0} (next : FailProof → List ℕ → Option B) (proof : FailProof) (rest : List ℕ)
    → AreWords proof → begins_with_digit rest ≡ false → violation next (proof_text proof ++ rest) ≡ next proof rest
violation_back next proof rest fits e = violation_at next proof.model proof.from proof.to proof.count proof.limit rest fits.from fits.to fits.count fits.limit e

pub outcome_back : {B : Type 0} (next : KindVerdict → List ℕ → Option B) (verdict : KindVerdict) (rest : List ℕ)
    → FitsKind verdict → begins_with_digit rest ≡ false → outcome next (outcome_text verdict ++ rest) ≡ next verdict rest
unfolding outcome
outcome_back next Pass rest fits e = refl
outcome_back next (Fail proof) rest fits e = violation_back (λ p. next (Fail p)) proof rest fits e

pub fault_back : {B : Type 0} (next : PacketFault → List ℕ → Option B) (fault : PacketFault) (rest : List ℕ)
    → FitsFault fault → begins_with_digit rest ≡ false → packet_fault next (packet_fault_text fault ++ rest) ≡ next (told_fault fault) rest
unfolding packet_fault
fault_back next packet.Short rest fits e = refl
fault_back next packet.Version rest fits e = refl
fault_back next packet.PayloadType rest fits e = refl
fault_back next packet.SecondSource rest fits e = refl
fault_back next (packet.Number expected got) rest fits e = refl
fault_back next (packet.StampBack before got) rest fits e = simp (append_assoc, number_back, fits.0, fits.1)
fault_back next packet.NoMarker rest fits e = refl
fault_back next packet.SameStamp rest fits e = refl
fault_back next (packet.FrameSize want got) rest fits e = simp (append_assoc, number_back, fits.0, fits.1)
fault_back next packet.FrameTooLarge rest fits e = refl

same : (p : ℕ) → (p == p) ≡ true
same p = grind (arith, nat_tests)

-- a verdict, peaks and limits, as they stand after the name of a type
abbrev told_text : ToldType → List ℕ → List ℕ
told_text told rest =
    outcome_text told.verdict ++ (codes ", bucket " ++ (decimal told.bucket ++ (codes " of " ++ (decimal told.bucket_limit
    ++ (codes ", buffer " ++ (decimal told.buffer ++ (codes " of " ++ (decimal told.buffer_limit ++ (codes "\n" ++ rest)))))))))

-- the numbers of the line of a type have 64 bits
record Fits (told : ToldType) : Type 0 where
  verdict : FitsKind told.verdict
  bucket : told.bucket < 2 ^ 64
  bucket_limit : told.bucket_limit < 2 ^ 64
  buffer : told.buffer < 2 ^ 64
  buffer_limit : told.buffer_limit < 2 ^ 64

-- a piece that is known
pub after_back : {B : Type 0} (piece : List ℕ) (next : List ℕ → Option B) (rest : List ℕ) → after piece next (piece ++ rest) ≡ next rest
after_back [] next rest = refl
after_back (p ∷ ps) next rest = rw (same p) (after_back ps next rest)

-- the line after its name
type_at : {B : Type 0} (start : List ℕ) (next : ToldType → List ℕ → Option B) (verdict : KindVerdict) (a b c d : ℕ) (rest : List ℕ) → FitsKind verdict
    → a < 2 ^ 64 → b < 2 ^ 64 → c < 2 ^ 64 → d < 2 ^ 64
    → type_line start next (start ++ told_text record { verdict = verdict; bucket = a; bucket_limit = b; buffer = c; buffer_limit = d } rest)
    ≡ next record { verdict = verdict; bucket = a; bucket_limit = b; buffer = c; buffer_limit = d } rest
unfolding type_line
type_at start next verdict a b c d rest fits ha hb hc hd =
    after_back start _ _ ∙ outcome_back _ verdict _ fits refl ∙ simp number_back

type_back : {B : Type 0} (start : List ℕ) (next : ToldType → List ℕ → Option B) (told : ToldType) (rest : List ℕ) → Fits told
    → type_line start next (start ++ told_text told rest) ≡ next told rest
type_back start next told rest fits =
    type_at start next told.verdict told.bucket told.bucket_limit told.buffer told.buffer_limit rest fits.verdict fits.bucket fits.bucket_limit fits.buffer
    fits.buffer_limit

-- the numbers of the line of a type have 64 bits
narrow_fits : (media : Media) (judged : Judged) → IsMedia media → FitsJudged judged → Fits (told_type media judged N)
narrow_fits media judged is fits = record {
  verdict = fits.n;
  bucket = fits.bucket_peak;
  bucket_limit = c_max_small media judged.n N is fits.is.n_most;
  buffer = fits.gapped_peak;
  buffer_limit = vrx_full_small media judged.n N is fits.is.n_most;
}

linear_fits : (media : Media) (judged : Judged) → IsMedia media → FitsJudged judged → Fits (told_type media judged NL)
linear_fits media judged is fits = record {
  verdict = fits.nl;
  bucket = fits.bucket_peak;
  bucket_limit = c_max_small media judged.n NL is fits.is.n_most;
  buffer = fits.linear_peak;
  buffer_limit = vrx_full_small media judged.n NL is fits.is.n_most;
}

wide_fits : (media : Media) (judged : Judged) → IsMedia media → FitsJudged judged → Fits (told_type media judged W)
wide_fits media judged is fits = record {
  verdict = fits.w;
  bucket = fits.bucket_peak;
  bucket_limit = c_max_small media judged.n W is fits.is.n_most;
  buffer = fits.linear_peak;
  buffer_limit = vrx_full_small media judged.n W is fits.is.n_most;
}

-- the text of three types, one after another
types_are : (space : List ℕ) (media : Media) (judged : Judged) (rest : List ℕ) → text_of_lines (lines_of_types space media judged) ++ rest
    ≡ (space ++ codes "N ") ++ told_text (told_type media judged N) ((space ++ codes "NL ") ++ told_text (told_type media judged NL)
    ((space ++ codes "W ") ++ told_text (told_type media judged W) rest))
types_are space media judged rest = simp append_assoc

pub types_back : {B : Type 0} (space : List ℕ) (next : ToldType → ToldType → ToldType → List ℕ → Option B) (media : Media) (judged : Judged) (rest : List ℕ)
    → IsMedia media → FitsJudged judged
    → type_lines space next (text_of_lines (lines_of_types space media judged) ++ rest)
    ≡ next (told_type media judged N) (told_type media judged NL) (told_type media judged W) rest
unfolding type_lines
types_back space next media judged rest is fits =
    ap (type_lines space next) (types_are space media judged rest)
    ∙ type_back (space ++ codes "N ") _ (told_type media judged N) _ (narrow_fits media judged is fits)
    ∙ type_back (space ++ codes "NL ") _ (told_type media judged NL) _ (linear_fits media judged is fits)
    ∙ type_back (space ++ codes "W ") _ (told_type media judged W) rest (wide_fits media judged is fits)

group_back : {B : Type 0} (next : Bool → List ℕ → Option B) (interlaced : Bool) (rest : List ℕ)
    → group_word next (codes " per " ++ (group_name interlaced ++ (codes ", " ++ rest))) ≡ next interlaced rest
unfolding group_word
group_back next true rest = refl
group_back next false rest = refl

groups_back : {B : Type 0} (next : List ℕ → Option B) (interlaced : Bool) (rest : List ℕ)
    → groups_word next (codes " " ++ (group_name interlaced ++ (codes "s, " ++ rest))) ≡ next rest
unfolding groups_word
groups_back next true rest = refl
groups_back next false rest = refl

class_back : {B : Type 0} (next : Option Kind → List ℕ → Option B) (class : Option Kind) (rest : List ℕ)
    → class_word next (codes ", class " ++ (class_name class ++ (codes ", declared " ++ rest))) ≡ next class rest
unfolding class_word
class_back next (Some N) rest = refl
class_back next (Some NL) rest = refl
class_back next (Some W) rest = refl
class_back next None rest = refl

declared_back : {B : Type 0} (next : Option Kind → List ℕ → Option B) (declared : Option Kind) (rest : List ℕ)
    → declared_word next (declared_name declared ++ (codes "\n" ++ rest)) ≡ next declared rest
unfolding declared_word
declared_back next (Some N) rest = refl
declared_back next (Some NL) rest = refl
declared_back next (Some W) rest = refl
declared_back next None rest = refl

-- the line of a judged run after its first word, and the text after it
abbrev pub judged_rest : Media → Judged → List ℕ → List ℕ
judged_rest media judged below =
    decimal judged.n ++ (codes " per " ++ (group_name media.interlaced ++ (codes ", " ++ (decimal judged.frames ++ (codes " "
    ++ (group_name media.interlaced ++ (codes "s, " ++ (decimal judged.packets ++ (codes " packets, head " ++ (decimal judged.head ++ (codes ", tail "
    ++ (decimal judged.tail ++ (codes ", class " ++ (class_name (first_passing judged) ++ (codes ", declared " ++ (declared_name media.declared
    ++ (codes "\n" ++ below)))))))))))))))))

pub judged_is : (media : Media) (judged : Judged) (below : List ℕ)
    → judged_text media judged ++ (codes "\n" ++ below) ≡ codes "judged: " ++ judged_rest media judged below
judged_is media judged below = simp append_assoc

pub judged_back : {B : Type 0} (space : List ℕ) (next : ToldJudged → List ℕ → Option B) (media : Media) (judged : Judged) (rest : List ℕ)
    → IsMedia media → FitsJudged judged
    → judged_lines space next (judged_rest media judged (text_of_lines (lines_of_types space media judged) ++ rest)) ≡ next (told_judged media judged) rest
unfolding judged_lines
judged_back space next media judged rest is fits =
    number_back _ judged.n _ (omega (arith, fits.is.n_most)) refl ∙ group_back _ media.interlaced _
    ∙ number_back _ judged.frames _ fits.frames refl ∙ groups_back _ media.interlaced _
    ∙ number_back _ judged.packets _ fits.packets refl ∙ number_back _ judged.head _ fits.head refl ∙ number_back _ judged.tail _ fits.tail refl
    ∙ class_back _ (first_passing judged) _ ∙ declared_back _ media.declared _ ∙ types_back space _ media judged rest is fits
