-- Keys that are listed one after the other.
use Rattle.std.proofs.Common.{◌≡◌, ◌+◌, ℕ, zero, suc, List, [], ◌∷◌, ◌++◌, sym, ap, ◌∙◌, append_assoc, append-nil, arith}
use Rattle.timing_base.specs.Keys.{key_of, keys_of_file, keys_of_files}
use Rattle.timing_base.specs.declared.key.FlowKey.{FlowKey}

file_more : (file first n : ℕ) → keys_of_file file first (suc n) ≡ keys_of_file file first n ++ key_of file (first + n) ∷ []
file_more file first zero = let e : first ≡ first + 0 = omega arith in ap (λ m. key_of file m ∷ []) e
file_more file first (suc n) =
    let e : first + 1 + n ≡ first + suc n = omega arith in
    ap (λ l. key_of file first ∷ l) (file_more file (first + 1) n ∙ ap (λ m. keys_of_file file (first + 1) n ++ key_of file m ∷ []) e)

-- one media more
pub push_key : (olds news before : List FlowKey) (file n : ℕ) → before ≡ olds ++ keys_of_file file 0 n → news ≡ before ++ key_of file n ∷ []
    → news ≡ olds ++ keys_of_file file 0 (n + 1)
push_key olds news before file n e now =
    let s : n + 1 ≡ suc n = omega arith in
    let z : 0 + n ≡ n = omega arith in
    now ∙ ap (λ l. l ++ key_of file n ∷ []) e ∙ append_assoc olds (keys_of_file file 0 n) (key_of file n ∷ [])
    ∙ ap (λ l. olds ++ l) (ap (λ m. keys_of_file file 0 n ++ key_of file m ∷ []) (sym z) ∙ sym (file_more file 0 n) ∙ ap (keys_of_file file 0) (sym s))

files_more : (first n media : ℕ) → keys_of_files first (suc n) media ≡ keys_of_files first n media ++ keys_of_file (first + n) 0 media
files_more first zero media =
    let e : first ≡ first + 0 = omega arith in append-nil (keys_of_file first 0 media) ∙ ap (λ f. keys_of_file f 0 media) e
files_more first (suc n) media =
    let e : first + 1 + n ≡ first + suc n = omega arith in
    ap (λ l. keys_of_file first 0 media ++ l) (files_more (first + 1) n media ∙ ap (λ f. keys_of_files (first + 1) n media ++ keys_of_file f 0 media) e)
    ∙ sym (append_assoc (keys_of_file first 0 media) (keys_of_files (first + 1) n media) (keys_of_file (first + suc n) 0 media))

-- one file more
pub push_file : (olds news : List FlowKey) (n media : ℕ) → olds ≡ keys_of_files 0 n media → news ≡ olds ++ keys_of_file n 0 media
    → news ≡ keys_of_files 0 (n + 1) media
push_file olds news n media e now =
    let s : n + 1 ≡ suc n = omega arith in
    let z : 0 + n ≡ n = omega arith in
    now ∙ ap (λ l. l ++ keys_of_file n 0 media) e
    ∙ (ap (λ f. keys_of_files 0 n media ++ keys_of_file f 0 media) (sym z) ∙ sym (files_more 0 n media) ∙ ap (λ f. keys_of_files 0 f media) (sym s))
