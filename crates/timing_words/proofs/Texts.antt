-- The texts behind words.
use Rattle.std.proofs.Common.{◌≡◌, ◌∙◌, ◌<◌, ◌+◌, sym, ap, ap₂, subst, List, [], ◌∷◌, ◌++◌, map, length, take, ℕ}
use Rattle.std.specs.Prelude.{IsUtf8}
use Rattle.std.specs.Borrow.{Bor}
use Rattle.std.specs.List.{slice_index_or}
use Rattle.std.proofs.lemmas.List.{map-append, take_more}
use Rattle.timing_words.specs.Line.{Text}
use Rattle.timing_words.specs.Clap.{AreTexts}

-- the texts are those of the words, in order
pub record IsTexts {W : Type 0} (bytes : W → Text) (texts : List (Bor Text)) (words : List W) : Type 0 where
  pub same : map (λ s. s.now) texts ≡ map bytes words
  pub are : AreTexts (map (λ s. s.now) texts)

are_more : (ts : List Text) (t : Text) → AreTexts ts → IsUtf8 t → AreTexts (ts ++ t ∷ [])
are_more [] t are u = (u, tt)
are_more (s ∷ ss) t are u = (are.0, are_more ss t are.1 u)

-- one word more
pub texts_more : {W : Type 0} (bytes : W → Text) (ws : List W) (i : ℕ) (d : W) (texts : List (Bor Text)) (x : Bor Text) → i < length ws
    → x.now ≡ bytes (slice_index_or ws i d) → IsUtf8 x.now → IsTexts bytes texts (take i ws) → IsTexts bytes (texts ++ x ∷ []) (take (i + 1) ws)
texts_more bytes ws i d texts x lt is text so_far = record {
  same = map-append (λ (s : Bor Text). s.now) texts (x ∷ [])
      ∙ ap₂ (λ a b. a ++ b ∷ []) so_far.same is
      ∙ sym (map-append bytes (take i ws) (slice_index_or ws i d ∷ []))
      ∙ sym (ap (map bytes) (take_more ws i d lt));
  are = subst AreTexts (sym (map-append (λ (s : Bor Text). s.now) texts (x ∷ []))) (are_more (map (λ s. s.now) texts) x.now so_far.are text);
}
