-- The head of the page with all styles, its heading, the lines on how the captures end, the legend of the pictures, and
-- the end of the page. The page has no script and loads no other file. A name is escaped, and has its own text
-- direction (HTML Standard, `bdi`). This project's own format.
use Rattle.std.specs.Prelude.{ℕ, zero, suc, List, [], ◌∷◌, ◌++◌, codes, length}
use Rattle.std.specs.Fmt.{decimal}
use Rattle.timing_base.specs.declared.capture.FileNote.{FileNote}
use Rattle.timing_report.specs.Words.{note_text}
use Rattle.flow_page.specs.chart.Figures.{told}

-- the end of the title, and the styles
unfoldable pub styles : List ℕ
styles =
    codes ": sender timing</title><style>:root{color-scheme:light dark;--ink:#1b1f24;--soft:#59636e;--line:#d1"
    ++ (codes "d9e0;--bg:#fff;--card:#f6f8fa;--band:#3b78c4;--peak:#1d4f91;--lim:#b3261e;--wide:#8a5a00;--ok:#1163"
    ++ (codes "29;--hit:#b3261e22;--edge:#1b1f2466}@media (prefers-color-scheme:dark){:root{--ink:#e6edf3;--soft:#"
    ++ (codes "9198a1;--line:#3d444d;--bg:#0d1117;--card:#151b23;--band:#4f8fdd;--peak:#a5cbff;--lim:#ff8b82;--wid"
    ++ (codes "e:#e0b050;--ok:#57c46c;--hit:#ff8b8233;--edge:#e6edf38c}}@media print{:root{--ink:#000;--soft:#333;"
    ++ (codes "--line:#999;--bg:#fff;--card:#fff;--band:#3b78c4;--peak:#1d4f91;--lim:#b3261e;--wide:#8a5a00;--ok:#"
    ++ (codes "116329;--hit:#b3261e22}figure,tr{break-inside:avoid}.scroll{overflow:visible!important;background:n"
    ++ (codes "one!important}svg{min-width:0!important}table{font-size:.6rem}th,td{padding:.1rem .25rem!important;"
    ++ (codes "white-space:normal!important}pre{white-space:pre-wrap!important}}*{box-sizing:border-box}body{margi"
    ++ (codes "n:0 auto;max-width:1400px;padding:1.2rem;font:15px/1.45 system-ui,sans-serif;color:var(--ink);backg"
    ++ (codes "round:var(--bg)}h1{font-size:1.35rem;margin:.2rem 0;overflow-wrap:anywhere}h2{font-size:1.1rem;marg"
    ++ (codes "in:2rem 0 .4rem}h3{font-size:1rem;margin:1.2rem 0 .2rem}p{margin:.3rem 0;color:var(--soft);overflow"
    ++ (codes "-wrap:anywhere}.scroll{--hide:var(--bg);overflow-x:auto;max-width:100%;background:linear-gradient(9"
    ++ (codes "0deg,var(--hide) 40%,transparent) local,linear-gradient(270deg,var(--hide) 40%,transparent) right l"
    ++ (codes "ocal,linear-gradient(90deg,var(--edge),transparent),linear-gradient(270deg,var(--edge),transparent)"
    ++ (codes " right;background-size:40px 100%,40px 100%,12px 100%,12px 100%;background-repeat:no-repeat}figure ."
    ++ (codes "scroll{--hide:var(--card)}table{border-collapse:collapse;font-variant-numeric:tabular-nums;margin:."
    ++ (codes "6rem 0}th,td{padding:.3rem .4rem;border-bottom:1px solid var(--line);text-align:right;white-space:n"
    ++ (codes "owrap}thead th{white-space:normal;vertical-align:bottom}th{font-weight:600;color:var(--soft)}th:fir"
    ++ (codes "st-child,td[colspan]{text-align:left}.pass{color:var(--ok)}.fail{color:var(--lim)}.words{padding-le"
    ++ (codes "ft:1.1rem;margin:.4rem 0 1rem}.words li{margin:.25rem 0}pre{font:13px/1.5 ui-monospace,monospace;ma"
    ++ (codes "rgin:.4rem 0}.grid{display:grid;grid-template-columns:repeat(auto-fit,minmax(min(100%,520px),1fr));"
    ++ (codes "gap:.8rem}.grid>*{min-width:0}.grid>.wide{grid-column:1/-1}figure{margin:0;padding:.6rem .7rem;back"
    ++ (codes "ground:var(--card);border:1px solid var(--line);border-radius:8px}figcaption{font-weight:600;margin"
    ++ (codes "-bottom:.2rem}figcaption span{font-weight:400;color:var(--soft)}svg{width:100%;min-width:460px;heig"
    ++ (codes "ht:auto;display:block}svg.wide{min-width:900px}svg.key{display:inline-block;width:28px;min-width:0;"
    ++ (codes "height:12px}svg text{font:12px system-ui,sans-serif;fill:var(--soft)}.ax{stroke:var(--line);stroke-"
    ++ (codes "width:1;fill:none}.fr{stroke:var(--line);stroke-width:.7;stroke-dasharray:2 3}.band{fill:var(--band"
    ++ (codes ");fill-opacity:.45;stroke:var(--peak);stroke-width:1;stroke-linejoin:round}.hit{fill:var(--hit);str"
    ++ (codes "oke:var(--lim);stroke-width:.7}path.lim{stroke:var(--lim);stroke-width:1.4;stroke-dasharray:7 4;fil"
    ++ (codes "l:none}path.w{stroke:var(--wide);stroke-dasharray:2 3}text.lim{fill:var(--lim);paint-order:stroke;s"
    ++ (codes "troke:var(--card);stroke-width:4px;stroke-linejoin:round}text.w{fill:var(--wide)}.bar{fill:var(--ba"
    ++ (codes "nd);stroke:var(--band);stroke-width:1}.bar.over{fill:var(--lim);stroke:var(--lim)}</style></head><b"
    ++ codes "ody><h1>Sender timing: <bdi>"
    ))))))))))))))))))))))))))))))))

-- the first bytes of the page, up to the title
unfoldable pub front : List ℕ
front =
    codes "<!DOCTYPE html><html lang=\"en\"><head><meta charset=\"utf-8\"><meta name=\"viewport\""
    ++ codes " content=\"width=device-width,initial-scale=1\"><title>"

-- how many captures there are beside the one that is named, if there are more
abbrev pub more_text : (more : ℕ) → List ℕ
more_text zero = []
more_text (suc more) = codes " and " ++ (decimal (suc more) ++ codes " more")

-- the start of the page of a capture with this name, and of this many more
abbrev pub start_with : List ℕ → (more : ℕ) → List ℕ
start_with name more =
    told front name ++ (more_text more ++ (told styles name ++ (codes "</bdi>" ++ (more_text more
    ++ codes "</h1>\n"))))

-- the start of the page of the captures with these names
abbrev pub page_start : List (List ℕ) → List ℕ
page_start [] = start_with [] 0
page_start (name ∷ names) = start_with name (length names)

-- the line on how one capture ends
abbrev pub note_line : FileNote → List ℕ
note_line note =
    codes "<p>By SMPTE ST 2110-21. How the capture ends: " ++ (note_text note ++ codes ".</p>\n")

-- one of several captures, and how it ends
abbrev pub note_item : List ℕ → FileNote → List ℕ
note_item name note = told (codes "<li><bdi>") name ++ (codes "</bdi>: " ++ (note_text note ++ codes "</li>"))

-- several captures in their order; if the lists differ in length, the shorter one counts
abbrev pub note_items : List (List ℕ) → List FileNote → List ℕ
note_items (name ∷ names) (note ∷ notes) = note_item name note ++ note_items names notes
note_items [] notes = []
note_items (name ∷ names) [] = []

-- the list of several captures, and how each of them ends
abbrev pub notes_list : List (List ℕ) → List FileNote → List ℕ
notes_list names notes =
    codes "<p>By SMPTE ST 2110-21. How the captures end:</p>\n<ol>" ++ (note_items names notes ++ codes "</ol>\n")

-- how the captures with these names end
abbrev pub notes_part : List (List ℕ) → List FileNote → List ℕ
notes_part (name ∷ []) (note ∷ []) = note_line note
notes_part names notes = notes_list names notes

-- the legend of the pictures
unfoldable pub legend : List ℕ
legend =
    codes "<p class=\"legend\">In the curves each mark spans the least and the greatest number of its packets"
    ++ (codes ", frames or fields <svg class=\"key\" viewBox=\"0 0 28 12\" aria-hidden=\"true\"><path class=\"ban"
    ++ (codes "d\" d=\"M2 3H26V9H2Z\"/></svg>, so no peak is hidden. Limits are lines with their names at the rig"
    ++ (codes "ht: those of N and NL are dashed <svg class=\"key\" viewBox=\"0 0 28 12\" aria-hidden=\"true\"><pa"
    ++ (codes "th class=\"lim\" d=\"M0 6H28\"/></svg>, those of W dotted <svg class=\"key\" viewBox=\"0 0 28 12\""
    ++ (codes " aria-hidden=\"true\"><path class=\"lim w\" d=\"M0 6H28\"/></svg>; faint uprights are the ends of "
    ++ (codes "frames or fields. In the bars what is beyond a limit stands behind the limit's line, or before 0, "
    ++ codes "and is named so. Packets, frames and fields count from 0, records from 1.</p>\n"))))))

-- the end of the page
abbrev pub page_end : List ℕ
page_end = codes "</body></html>\n"
