-- The start and the end of a picture: its title, the text beside it, and its size. There are wide pictures, and others
-- in pairs, side by side. The title and the text beside a picture are also given for screen readers (SVG, `title` and
-- `desc`). The text beside it is HTML. This project's own format.
use Rattle.std.specs.Prelude.{ℕ, Bool, true, false, List, ◌++◌, codes}
use Rattle.flow_page.specs.chart.Escapes.{escaped}

-- markup, and then an escaped text
abbrev pub told : List ℕ → List ℕ → List ℕ
told markup text = markup ++ escaped text

-- the start of a picture
abbrev pub figure_open : Bool → List ℕ
figure_open true = codes "<figure class=\"wide\"><figcaption>"
figure_open false = codes "<figure><figcaption>"

-- the start of the SVG, with its size in SVG units
unfoldable pub svg_open : Bool → List ℕ
svg_open true =
    codes "</span></figcaption><div class=\"scroll\"><svg class=\"wide\" viewBox=\"0 0 1300 220\""
    ++ codes " role=\"img\"><title>"
svg_open false =
    codes "</span></figcaption><div class=\"scroll\"><svg viewBox=\"0 0 640 220\" role=\"img\"><title>"

-- the start of a picture, up to its first mark
abbrev pub figure_start : (wide : Bool) → (title detail : List ℕ) → List ℕ
figure_start wide title detail =
    told (figure_open wide) title ++ (codes " <span>" ++ (detail ++ (told (svg_open wide) title
    ++ (codes "</title><desc>" ++ (detail ++ codes "</desc>")))))

-- the end of a picture
abbrev pub figure_end : List ℕ
figure_end = codes "</svg></div></figure>\n"
