-- A table is read back row by row.
use Rattle.std.proofs.Common.{◌≡◌, ◌∙◌, ℕ, zero, suc, ◌<◌, ◌≤◌, List, [], ◌∷◌, ◌++◌, length, refl, ap, sym, arith}
use Rattle.std.specs.Prelude.{All, Option, Some, codes, option_map}
use Rattle.std.specs.List.{flat_map}
use Rattle.std.specs.Fmt.{decimal}
use Rattle.std.proofs.lemmas.List.{length-append}
use Rattle.std.proofs.lemmas.List.Elements.{All-head, All-tail}
use Rattle.std.proofs.lemmas.Fmt.{decimal_nonempty}
use Rattle.flow_measure.specs.declared.report.rows.GroupRow.{GroupRow}
use Rattle.flow_measure.specs.declared.report.rows.PacketRow.{PacketRow}
use Rattle.flow_measure.specs.report.Rows.{group_header_text, group_row_text, packet_header_text, packet_row_text}
use Rattle.report_reader.proofs.Lines.{after_back}
use Rattle.table_reader.specs.Fits.{FitsGroupRow, FitsPacketRow}
use Rattle.table_reader.specs.Rows.{group_row, groups_read, packet_row, packets_read, rows_within, unless_end}
use Rattle.table_reader.proofs.Fields.{group_back, packet_back}

-- text that isn't at its end
unless_back : {R : Type 0} (read : Option (List R)) (text : List ℕ) → 0 < length text → unless_end read text ≡ read
unless_back read [] l = absurd (omega arith)
unless_back read (byte ∷ rest) l = refl

-- the rows of a table, each of which isn't empty and is read back
rows_back : {R : Type 0} (row : (R → List ℕ → Option (List R)) → List ℕ → Option (List R)) (text : R → List ℕ) (Fits : R → Type 0)
    → ((next : R → List ℕ → Option (List R)) (r : R) (rest : List ℕ) → Fits r → row next (text r ++ rest) ≡ next r rest)
    → ((r : R) → Fits r → 0 < length (text r)) → (rows : List R) (most : ℕ) → All Fits rows → length (flat_map text rows) ≤ most
    → rows_within row most (flat_map text rows) ≡ Some rows
rows_back row text Fits back some [] zero fits l = refl
rows_back row text Fits back some [] (suc most) fits l = refl
rows_back row text Fits back some (r ∷ rs) zero fits l =
    absurd (omega (arith, l, some r (All-head Fits r rs fits), length-append (text r) (flat_map text rs)))
rows_back row text Fits back some (r ∷ rs) (suc most) fits l =
    let f = All-head Fits r rs fits in
    let long = some r f in
    let sum = length-append (text r) (flat_map text rs) in
    let fewer : length (flat_map text rs) ≤ most = omega (arith, l, long, sum) in
    let whole : 0 < length (text r ++ flat_map text rs) = omega (arith, long, sum) in
    unless_back _ (text r ++ flat_map text rs) whole
    ∙ back (λ first rest. option_map (λ others. first ∷ others) (rows_within row most rest)) r (flat_map text rs) f
    ∙ ap (option_map (λ others. r ∷ others)) (rows_back row text Fits back some rs most (All-tail Fits r rs fits) fewer)

-- what begins with some text isn't empty
longer : (xs ys zs : List ℕ) → 0 < length xs → 0 < length ((xs ++ ys) ++ zs)
longer xs ys zs l = omega (arith, l, length-append (xs ++ ys) zs, length-append xs ys)

some_packet : (r : PacketRow) → FitsPacketRow r → 0 < length (packet_row_text r)
some_packet r f = longer (decimal r.run) (codes ",") _ (decimal_nonempty r.run f.run)

some_group : (r : GroupRow) → FitsGroupRow r → 0 < length (group_row_text r)
some_group r f = longer (decimal r.run) (codes ",") _ (decimal_nonempty r.run f.run)

pub packets_back : (rows : List PacketRow) → All FitsPacketRow rows → rows_within packet_row (length (flat_map packet_row_text rows))
    (flat_map packet_row_text rows) ≡ Some rows
packets_back rows fits = rows_back packet_row packet_row_text FitsPacketRow packet_back some_packet rows _ fits (omega arith)

pub groups_back : (rows : List GroupRow) → All FitsGroupRow rows → rows_within group_row (length (flat_map group_row_text rows))
    (flat_map group_row_text rows) ≡ Some rows
groups_back rows fits = rows_back group_row group_row_text FitsGroupRow group_back some_group rows _ fits (omega arith)

same_some : {X : Type 0} (a b : X) → Some a ≡ Some b → a ≡ b
same_some a b h = cc

pub same_packets : (rows others : List PacketRow) → All FitsPacketRow rows → All FitsPacketRow others
    → flat_map packet_row_text rows ≡ flat_map packet_row_text others → rows ≡ others
same_packets rows others fits these e =
    same_some rows others (sym (packets_back rows fits) ∙ ap (λ text. rows_within packet_row (length text) text) e ∙ packets_back others these)

pub same_groups : (rows others : List GroupRow) → All FitsGroupRow rows → All FitsGroupRow others
    → flat_map group_row_text rows ≡ flat_map group_row_text others → rows ≡ others
same_groups rows others fits these e =
    same_some rows others (sym (groups_back rows fits) ∙ ap (λ text. rows_within group_row (length text) text) e ∙ groups_back others these)

pub packets_table : (rows : List PacketRow) → All FitsPacketRow rows → packets_read (packet_header_text ++ flat_map packet_row_text rows) ≡ Some rows
packets_table rows fits =
    after_back packet_header_text (λ text. rows_within packet_row (length text) text) (flat_map packet_row_text rows) ∙ packets_back rows fits

pub groups_table : (rows : List GroupRow) → All FitsGroupRow rows → groups_read (group_header_text ++ flat_map group_row_text rows) ≡ Some rows
groups_table rows fits =
    after_back group_header_text (λ text. rows_within group_row (length text) text) (flat_map group_row_text rows) ∙ groups_back rows fits
