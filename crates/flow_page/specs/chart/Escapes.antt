-- Escaped text for HTML and SVG. The five characters with a meaning there are written as references (HTML Standard,
-- section 13.1.4, "Character references"), so that a text is read as it is. Characters are Unicode scalar values. Texts
-- are UTF-8.
use Rattle.std.specs.Prelude.{ℕ, zero, suc, ◌==◌, ◌&&◌, ◌||◌, Bool, true, false, if◌then◌else◌}
use Rattle.std.specs.Prelude.{List, [], ◌∷◌, codes, chars, encode_utf8_all}
use Rattle.std.specs.List.{flat_map}

-- a character as written; `&`, `<`, `>`, `"` and `'` become references
abbrev pub written : ℕ → List ℕ
written c =
    if c == 38 then codes "&amp;" else if c == 60 then codes "&lt;" else if c == 62 then codes "&gt;"
    else if c == 34 then codes "&quot;" else if c == 39 then codes "&#39;" else c ∷ []

-- characters as written
abbrev pub all_written : List ℕ → List ℕ
all_written = flat_map written

-- the bytes of a text as written
abbrev pub escaped : List ℕ → List ℕ
escaped text = encode_utf8_all (all_written (chars text))

-- a character that HTML or SVG reads as markup anywhere; `&` begins a reference instead
abbrev pub is_markup : ℕ → Bool
is_markup c = c == 60 || c == 62 || c == 34 || c == 39

-- the characters begin with these ones
abbrev pub begins_with : List ℕ → List ℕ → Bool
begins_with [] cs = true
begins_with (p ∷ ps) [] = false
begins_with (p ∷ ps) (c ∷ cs) = c == p && begins_with ps cs

-- the characters as read back, after the first `passed` of them, which belong to a reference already read: a reference
-- gives its character, and any other character gives itself
abbrev pub read_on : ℕ → List ℕ → List ℕ
read_on (suc passed) [] = []
read_on (suc passed) (c ∷ cs) = read_on passed cs
read_on zero [] = []
read_on zero (c ∷ cs) =
    if begins_with (codes "&amp;") (c ∷ cs) then 38 ∷ read_on 4 cs
    else if begins_with (codes "&lt;") (c ∷ cs) then 60 ∷ read_on 3 cs
    else if begins_with (codes "&gt;") (c ∷ cs) then 62 ∷ read_on 3 cs
    else if begins_with (codes "&quot;") (c ∷ cs) then 34 ∷ read_on 5 cs
    else if begins_with (codes "&#39;") (c ∷ cs) then 39 ∷ read_on 4 cs
    else c ∷ read_on 0 cs

-- characters as read back
abbrev pub unescaped : List ℕ → List ℕ
unescaped cs = read_on 0 cs
