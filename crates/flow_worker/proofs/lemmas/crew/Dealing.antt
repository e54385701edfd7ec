-- Rows that are dealt out, one item after the other.
use Rattle.std.proofs.Common.{◌≡◌, ◌≤◌, ◌<◌, ℕ, zero, suc, List, [], ◌∷◌, ◌++◌, length, map, replicate, slice_set, slice_index_or, refl, sym, ap, ◌∙◌, subst}
use Rattle.std.proofs.Common.{arith}
use Rattle.std.specs.Prelude.{All}
use Rattle.std.proofs.lemmas.List.{get_or-map, length-append, length-map, length-replicate, map-append, map-set}
use Rattle.flow_worker.specs.crew.Columns.{dealt, dealt_all}

-- one item more
dealt-more : {X : Type 0} (row : List X) (x : X) (lists : List (List X)) → length row < length lists
    → dealt (row ++ x ∷ []) lists ≡ slice_set (dealt row lists) (length row) (slice_index_or lists (length row) [] ++ x ∷ [])
dealt-more [] x [] h = absurd (omega (arith, h))
dealt-more [] x (l ∷ ls) h = refl
dealt-more (y ∷ row) x [] h = absurd (omega (arith, h))
dealt-more (y ∷ row) x (l ∷ ls) h = ap (λ k. (l ++ y ∷ []) ∷ k) (dealt-more row x ls (omega (arith, h)))

-- the lists behind the row are as they were
dealt-behind : {X : Type 0} (row : List X) (lists : List (List X)) (n : ℕ) → length row ≤ n → slice_index_or (dealt row lists) n [] ≡ slice_index_or lists n []
dealt-behind [] lists n h = refl
dealt-behind (y ∷ row) [] n h = refl
dealt-behind (y ∷ row) (l ∷ ls) zero h = absurd (omega (arith, h))
dealt-behind (y ∷ row) (l ∷ ls) (suc n) h = dealt-behind row ls n (omega (arith, h))

pub length-dealt : {X : Type 0} (row : List X) (lists : List (List X)) → length (dealt row lists) ≡ length lists
length-dealt [] lists = refl
length-dealt (y ∷ row) [] = refl
length-dealt (y ∷ row) (l ∷ ls) = ap suc (length-dealt row ls)

-- there is a list for the next item
pub deal_room : {A X : Type 0} (f : A → List X) (olds news : List A) (row done rest : List X) (x : X) → map f news ≡ dealt done (map f olds)
    → length row ≤ length olds → row ≡ done ++ x ∷ rest → length done < length news
deal_room f olds news row done rest x e h whole =
    let a : length news ≡ length olds = sym (length-map news f) ∙ ap length e ∙ length-dealt done (map f olds) ∙ length-map olds f in
    let b : length row ≡ length (done ++ x ∷ rest) = ap length whole in
    omega (arith, a, b, h, length-append done (x ∷ rest))

-- the next item is put at the end of its list
pub deal_step : {A X : Type 0} (f : A → List X) (olds news : List A) (row done rest : List X) (x : X) (old new : A) → map f news ≡ dealt done (map f olds)
    → length row ≤ length olds → row ≡ done ++ x ∷ rest → old ≡ slice_index_or news (length done) old → f new ≡ f old ++ x ∷ []
    → map f (slice_set news (length done) new) ≡ dealt (done ++ x ∷ []) (map f olds)
deal_step f olds news row done rest x old new e h whole at put =
    let room : length done < length (map f olds) =
    let a : length (map f olds) ≡ length olds = length-map olds f in
    let b : length row ≡ length (done ++ x ∷ rest) = ap length whole in
    omega (arith, a, b, h, length-append done (x ∷ rest)) in
    let here : length done < length news = deal_room f olds news row done rest x e h whole in
    let was : f old ≡ slice_index_or (map f olds) (length done) [] =
    ap f at ∙ sym (get_or-map f news (length done) old [] here) ∙ ap (λ l. slice_index_or l (length done) []) e
    ∙ dealt-behind done (map f olds) (length done) (omega arith) in
    map-set f news (length done) new
    ∙ ap (λ l. slice_set l (length done) (f new)) e
    ∙ ap (λ l. slice_set (dealt done (map f olds)) (length done) l) (put ∙ ap (λ l. l ++ x ∷ []) was)
    ∙ sym (dealt-more done x (map f olds) room)

-- what each list has then
pub dealt-at : {X : Type 0} (row : List X) (lists : List (List X)) (n : ℕ) (d : X) → n < length row → length row ≤ length lists
    → slice_index_or (dealt row lists) n [] ≡ slice_index_or lists n [] ++ slice_index_or row n d ∷ []
dealt-at [] lists n d h k = absurd (omega (arith, h))
dealt-at (x ∷ row) [] n d h k = absurd (omega (arith, k))
dealt-at (x ∷ row) (l ∷ ls) zero d h k = refl
dealt-at (x ∷ row) (l ∷ ls) (suc n) d h k = dealt-at row ls n d (omega (arith, h)) (omega (arith, k))

-- one row more
pub dealt_all-more : {X : Type 0} (rows : List (List X)) (row : List X) (lists : List (List X))
    → dealt_all (rows ++ row ∷ []) lists ≡ dealt row (dealt_all rows lists)
dealt_all-more [] row lists = refl
dealt_all-more (r ∷ rows) row lists = dealt_all-more rows row (dealt r lists)

pub length-dealt_all : {X : Type 0} (rows : List (List X)) (lists : List (List X)) → length (dealt_all rows lists) ≡ length lists
length-dealt_all [] lists = refl
length-dealt_all (r ∷ rows) lists = length-dealt_all rows (dealt r lists) ∙ length-dealt r lists

-- the next row is dealt out
pub deal_next : {A X : Type 0} (f : A → List X) (n : ℕ) (rows : List A) (row : A) (olds news : List A) → map f olds ≡ dealt_all (map f rows) (replicate n [])
    → map f news ≡ dealt (f row) (map f olds) → (map f news ≡ dealt_all (map f (rows ++ row ∷ [])) (replicate n [])) × (length news ≡ n)
deal_next f n rows row olds news e now =
    let is : map f news ≡ dealt_all (map f (rows ++ row ∷ [])) (replicate n []) =
    now ∙ ap (dealt (f row)) e ∙ sym (dealt_all-more (map f rows) (f row) (replicate n []))
    ∙ ap (λ l. dealt_all l (replicate n [])) (sym (map-append f rows (row ∷ []))) in
    (is, sym (length-map news f) ∙ ap length is ∙ length-dealt_all (map f (rows ++ row ∷ [])) (replicate n []) ∙ length-replicate n [])

-- what holds of each holds of each behind the first
pub behind_first : {A : Type 0} (P : A → Type 0) (x : A) (xs all : List A) → all ≡ x ∷ xs → All P all → All P xs
behind_first P x xs all e each =
    let whole : All P (x ∷ xs) = subst (All P) e each in
    λ k d m. whole (suc k) d (omega (arith, m))
