-- What is escaped is read back as it was, and none of it is markup.
use Rattle.std.proofs.Common.{◌≡◌, ℕ, Bool, true, false, ◌==◌, ◌&&◌, ◌||◌, if◌then◌else◌, List, [], ◌∷◌, ◌++◌, refl, sym, ap, ◌∙◌, eqb-true}
use Rattle.std.proofs.lemmas.List.Folds.{list_any-append}
use Rattle.std.proofs.lemmas.Str.{encodes-append}
use Rattle.std.specs.List.{flat_map, list_any}
use Rattle.std.specs.Prelude.{codes, encode_utf8_all}
use Rattle.flow_page.specs.chart.Escapes.{all_written, begins_with, is_markup, read_on, written}

-- how characters are written that aren't `&`, nor `<`, `>` or `"` besides
after_amp : ℕ → List ℕ
after_amp c =
    if c == 60 then codes "&lt;" else if c == 62 then codes "&gt;" else if c == 34 then codes "&quot;"
    else if c == 39 then codes "&#39;" else c ∷ []

after_lt : ℕ → List ℕ
after_lt c = if c == 62 then codes "&gt;" else if c == 34 then codes "&quot;" else if c == 39 then codes "&#39;" else c ∷ []

after_gt : ℕ → List ℕ
after_gt c = if c == 34 then codes "&quot;" else if c == 39 then codes "&#39;" else c ∷ []

after_quot : ℕ → List ℕ
after_quot c = if c == 39 then codes "&#39;" else c ∷ []

-- one character is read back
step : (c k : ℕ) (reference other rest : List ℕ) (same : Bool) → (c == k) ≡ same → read_on 0 (reference ++ rest) ≡ k ∷ read_on 0 rest
    → (same ≡ false → read_on 0 (other ++ rest) ≡ c ∷ read_on 0 rest)
    → read_on 0 ((if same then reference else other) ++ rest) ≡ c ∷ read_on 0 rest
step c k reference other rest true e one more = one ∙ ap (λ n. n ∷ read_on 0 rest) (sym (eqb-true c k e))
step c k reference other rest false e one more = more refl

-- what isn't `&` begins no reference
plain : (c : ℕ) (rest : List ℕ) → (c == 38) ≡ false → read_on 0 (c ∷ rest) ≡ c ∷ read_on 0 rest
plain c rest e =
    ap (λ amp. if amp && begins_with (codes "amp;") rest then 38 ∷ read_on 4 rest
    else if amp && begins_with (codes "lt;") rest then 60 ∷ read_on 3 rest
    else if amp && begins_with (codes "gt;") rest then 62 ∷ read_on 3 rest
    else if amp && begins_with (codes "quot;") rest then 34 ∷ read_on 5 rest
    else if amp && begins_with (codes "#39;") rest then 39 ∷ read_on 4 rest
    else c ∷ read_on 0 rest) e

read_one : (c : ℕ) (rest : List ℕ) → read_on 0 (written c ++ rest) ≡ c ∷ read_on 0 rest
unfolding after_amp after_lt after_gt after_quot
read_one c rest =
    step c 38 (codes "&amp;") (after_amp c) rest (c == 38) refl refl (λ no.
    step c 60 (codes "&lt;") (after_lt c) rest (c == 60) refl refl (λ _.
    step c 62 (codes "&gt;") (after_gt c) rest (c == 62) refl refl (λ _.
    step c 34 (codes "&quot;") (after_quot c) rest (c == 34) refl refl (λ _.
    step c 39 (codes "&#39;") (c ∷ []) rest (c == 39) refl refl (λ _. plain c rest no)))))

-- `written c` before others
written_first : (c : ℕ) (cs : List ℕ) → all_written (c ∷ cs) ≡ written c ++ all_written cs
written_first c cs = refl

-- all of them are read back
pub reads_back : (cs : List ℕ) → read_on 0 (all_written cs) ≡ cs
reads_back [] = refl
reads_back (c ∷ cs) = read_one c (all_written cs) ∙ ap (λ xs. c ∷ xs) (reads_back cs)

-- no character is written as markup
clean : (c k : ℕ) (reference other : List ℕ) (same : Bool) → (c == k) ≡ same → list_any is_markup reference ≡ false
    → (same ≡ false → list_any is_markup other ≡ false) → list_any is_markup (if same then reference else other) ≡ false
clean c k reference other true e one more = one
clean c k reference other false e one more = more refl

none : (a b d e : Bool) → a ≡ false → b ≡ false → d ≡ false → e ≡ false → ((a || b || d || e) || false) ≡ false
none a b d e p q r s =
    ap (λ x. (x || b || d || e) || false) p ∙ ap (λ x. (false || x || d || e) || false) q
    ∙ ap (λ x. (false || false || x || e) || false) r ∙ ap (λ x. (false || false || false || x) || false) s

clean_one : (c : ℕ) → list_any is_markup (written c) ≡ false
unfolding after_amp after_lt after_gt after_quot
clean_one c =
    clean c 38 (codes "&amp;") (after_amp c) (c == 38) refl refl (λ _.
    clean c 60 (codes "&lt;") (after_lt c) (c == 60) refl refl (λ lt.
    clean c 62 (codes "&gt;") (after_gt c) (c == 62) refl refl (λ gt.
    clean c 34 (codes "&quot;") (after_quot c) (c == 34) refl refl (λ quot.
    clean c 39 (codes "&#39;") (c ∷ []) (c == 39) refl refl (λ apos. none (c == 60) (c == 62) (c == 34) (c == 39) lt gt quot apos)))))

pub none_is_markup : (cs : List ℕ) → list_any is_markup (all_written cs) ≡ false
none_is_markup [] = refl
none_is_markup (c ∷ cs) =
    list_any-append is_markup (written c) (all_written cs) ∙ ap (λ b. b || list_any is_markup (all_written cs)) (clean_one c)
    ∙ none_is_markup cs

-- the bytes of characters that are written, one after another
pub each_written : (cs : List ℕ) → flat_map (λ c. encode_utf8_all (written c)) cs ≡ encode_utf8_all (all_written cs)
each_written [] = refl
each_written (c ∷ cs) =
    ap (λ s. encode_utf8_all (written c) ++ s) (each_written cs) ∙ sym (encodes-append (written c) (all_written cs))
