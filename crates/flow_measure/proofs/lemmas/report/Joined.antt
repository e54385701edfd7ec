-- Texts that are put together from pieces that are known otherwise.
use Rattle.std.proofs.Common.{◌≡◌, ◌≤◌, ℕ, List, [], ◌∷◌, ◌++◌, drop, length, false, refl, ap, ◌∙◌, sym, append-nil, append_assoc, true≢false}
use Rattle.std.specs.Prelude.{Result, Ok, Err, Some, None, IfOk, codes, map, ◌==◌}
use Rattle.std.specs.Fmt.{decimal}
use Rattle.std.proofs.lemmas.List.{at_drop_all}
use Rattle.timing_base.specs.Media.{Media}
use Rattle.flow_measure.specs.declared.numbers.MeasuredRun.{MeasuredRun}
use Rattle.flow_measure.specs.report.Json.{buffer_text, level_text, list_text, run_text, runs_member, step_member, summary_text}
use Rattle.flow_measure.specs.report.Told.{ToldNumbers, ToldRun, run_told}

-- a text that is another one
pub text_ok : {T E : Type 0} (r : Result T E) (f : T → List ℕ) (a b : List ℕ) → IfOk r (λ s. f s ≡ a) → a ≡ b → IfOk r (λ s. f s ≡ b)
text_ok (Ok s) f a b h e = h ∙ e
text_ok (Err x) f a b h e = tt

-- what was added is another text
pub added_ok : {T E : Type 0} (r : Result T E) (old new a b : List ℕ) → IfOk r (λ _. new ≡ old ++ a) → a ≡ b → IfOk r (λ _. new ≡ old ++ b)
added_ok (Ok s) old new a b h e = h ∙ ap (λ s. old ++ s) e
added_ok (Err x) old new a b h e = tt

-- a type
abbrev pub kind_pieces : (bucket buffer breaks outcome name : List ℕ) → List ℕ
kind_pieces bucket buffer breaks outcome name =
    codes "{\"bucket\":" ++ (bucket ++ (codes ",\"buffer\":" ++ (buffer ++ (codes "," ++ (breaks ++ (codes "," ++ (outcome ++ (codes ",\"type\":\""
    ++ (name ++ codes "\"}")))))))))

pub kind-is : (a b c d e f g h i k : List ℕ) → a ≡ b → c ≡ d → e ≡ f → g ≡ h → i ≡ k → kind_pieces a c e g i ≡ kind_pieces b d f h k
kind-is a b c d e f g h i k bucket buffer breaks outcome name =
    ap (λ x. kind_pieces x c e g i) bucket ∙ ap (λ x. kind_pieces b x e g i) buffer ∙ ap (λ x. kind_pieces b d x g i) breaks
    ∙ ap (λ x. kind_pieces b d f x i) outcome ∙ ap (λ x. kind_pieces b d f h x) name

-- the front of a run
abbrev pub front_pieces : ToldNumbers → (frames : ℕ) (gap : List ℕ) → List ℕ
front_pieces n frames gap =
    codes "{\"bucket\":" ++ (level_text n.bucket ++ (codes ",\"first\":" ++ (summary_text n.first (Some n.target) ++ (codes ",\"frames\":"
    ++ (decimal frames ++ (codes "," ++ gap))))))

pub front-is : (n : ToldNumbers) (a b : ℕ) (e f : List ℕ) → a ≡ b → e ≡ f → front_pieces n a e ≡ front_pieces n b f
front-is n a b e f frames gap = ap (λ x. front_pieces n x e) frames ∙ ap (λ x. front_pieces n b x) gap

-- the middle of a run
abbrev pub middle_pieces : ToldNumbers → (head : ℕ) (interlaced : List ℕ) → List ℕ
middle_pieces n head interlaced =
    codes "\"gapped\":" ++ (buffer_text n.gapped ++ (codes ",\"head\":" ++ (decimal head ++ (codes ",\"interlaced\":" ++ (interlaced
    ++ (codes ",\"last\":" ++ (summary_text n.last None ++ (codes ",\"latency\":" ++ summary_text n.latency None))))))))

pub middle-is : (n : ToldNumbers) (a b : ℕ) (e f : List ℕ) → a ≡ b → e ≡ f → middle_pieces n a e ≡ middle_pieces n b f
middle-is n a b e f head interlaced = ap (λ x. middle_pieces n x e) head ∙ ap (λ x. middle_pieces n b x) interlaced

-- what comes after the middle
abbrev pub rest_pieces : ToldRun → (n packets : ℕ) → List ℕ
rest_pieces r n packets =
    codes ",\"linear\":" ++ (buffer_text r.numbers.linear ++ (codes ",\"n\":" ++ (decimal n ++ (codes ",\"number\":" ++ (decimal r.number
    ++ (codes ",\"offset\":" ++ (summary_text r.numbers.offset None ++ (codes ",\"packets\":" ++ decimal packets))))))))

pub rest-is : (r : ToldRun) (a b c d : ℕ) → a ≡ b → c ≡ d → rest_pieces r a c ≡ rest_pieces r b d
rest-is r a b c d n packets = ap (λ x. rest_pieces r x c) n ∙ ap (λ x. rest_pieces r b x) packets

-- the end of a run
abbrev pub end_pieces : ToldRun → (tail : ℕ) (types : List ℕ) → List ℕ
end_pieces r tail types =
    codes ",\"record\":" ++ (decimal r.rec ++ (codes ",\"run\":" ++ (decimal r.run ++ (codes "," ++ (step_member r.numbers.step ++ (codes "\"tail\":"
    ++ (decimal tail ++ (codes ",\"types\":" ++ (types ++ codes "}")))))))))

pub end-is : (r : ToldRun) (a b : ℕ) (g h : List ℕ) → a ≡ b → g ≡ h → end_pieces r a g ≡ end_pieces r b h
end-is r a b g h tail types = ap (λ x. end_pieces r x g) tail ∙ ap (λ x. end_pieces r b x) types

-- what a loop over a list has added once it is past the end
pub whole_list : {X : Type 0} (F : List X → List ℕ) (text start all : List ℕ) (i : ℕ) (xs : List X) → F [] ≡ [] → length xs ≤ i
    → text ++ F (drop i xs) ≡ start ++ all → text ≡ start ++ all
whole_list F text start all i xs none past e =
    sym (append-nil text) ∙ (ap (λ t. text ++ t) (sym (at_drop_all F xs i past ∙ none)) ∙ e)

-- a list of runs, and the member that it is
listed : (old items s1 s2 s3 : List ℕ) → s1 ≡ old ++ codes "\"runs\":[" → s2 ≡ s1 ++ items → s3 ≡ s2 ++ codes "],"
    → s3 ≡ old ++ (codes "\"runs\":" ++ ((codes "[" ++ (items ++ codes "]")) ++ codes ","))
listed old items s1 s2 s3 e f g =
    let all : ((old ++ codes "\"runs\":[") ++ items) ++ codes "]," ≡ old ++ (codes "\"runs\":" ++ ((codes "[" ++ (items ++ codes "]")) ++ codes ",")) =
    simp append_assoc in
    g ∙ ap (λ s. s ++ codes "],") (f ∙ ap (λ s. s ++ items) e) ∙ all

pub listed_ok : {T E : Type 0} (r : Result T E) (old items s1 s2 s3 : List ℕ) → s1 ≡ old ++ codes "\"runs\":[" → s2 ≡ s1 ++ items
    → IfOk r (λ _. s3 ≡ s2 ++ codes "],") → IfOk r (λ _. s3 ≡ old ++ (codes "\"runs\":" ++ ((codes "[" ++ (items ++ codes "]")) ++ codes ",")))
listed_ok (Ok v) old items s1 s2 s3 e f g = listed old items s1 s2 s3 e f g
listed_ok (Err x) old items s1 s2 s3 e f g = tt

pub some_runs : (media : Media) (rs : List MeasuredRun) → (length rs == 0) ≡ false
    → codes "\"runs\":" ++ (list_text (run_text media) (map run_told rs) ++ codes ",") ≡ runs_member media (map run_told rs)
some_runs media [] some = absurd (true≢false some)
some_runs media (r ∷ rs) some = refl
