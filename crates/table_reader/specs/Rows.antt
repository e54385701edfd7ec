-- The reader of the tables of `series` (RFC 4180): a header, and a row for each packet, or for each frame or field.
-- A reader of a piece is given what is to be done with its value and the text after it, as in `Pieces` of
-- `report_reader`.
use Rattle.std.specs.Prelude.{ℕ, zero, suc, ℤ, negsuc, pos, List, [], ◌∷◌, length, Option, Some, None, codes}
use Rattle.std.specs.Prelude.{option_map}
use Rattle.flow_measure.specs.declared.report.rows.GroupRow.{GroupRow}
use Rattle.flow_measure.specs.declared.report.rows.PacketRow.{PacketRow}
use Rattle.flow_measure.specs.report.Rows.{group_header_text, packet_header_text}
use Rattle.report_reader.specs.Pieces.{after, at_end, either, number}

-- the number that has this size and is not above 0
abbrev pub not_above : ℕ → ℤ
not_above zero = pos zero
not_above (suc n) = negsuc n

-- a whole number, with `-` before its digits if it is below 0
unfoldable pub signed : {B : Type 0} → (ℤ → List ℕ → Option B) → List ℕ → Option B
signed next text = either (codes "-") (number (λ n. next (not_above n))) (number (λ n. next (pos n))) text

-- a field without a sign, and the comma after it
abbrev pub word_field : {B : Type 0} → (ℕ → List ℕ → Option B) → List ℕ → Option B
word_field next text = number (λ n. after (codes ",") (next n)) text

-- a field with a sign, and the comma after it
abbrev pub whole_field : {B : Type 0} → (ℤ → List ℕ → Option B) → List ℕ → Option B
whole_field next text = signed (λ z. after (codes ",") (next z)) text

-- a field that may be empty, and the comma after it
unfoldable pub field_or_none : {B : Type 0} → (Option ℕ → List ℕ → Option B) → List ℕ → Option B
field_or_none next text = either (codes ",") (next None) (word_field (λ n. next (Some n))) text

-- the last field of a row, and the end of its line
abbrev pub last_field : {B : Type 0} → (ℤ → List ℕ → Option B) → List ℕ → Option B
last_field next text = signed (λ z. after (codes "\n") (next z)) text

-- the row of a packet
unfoldable pub packet_row : {B : Type 0} → (PacketRow → List ℕ → Option B) → List ℕ → Option B
packet_row next text =
    word_field (λ run. word_field (λ packet. word_field (λ rec. word_field (λ stamp. word_field (λ group.
    word_field (λ place. word_field (λ bucket. whole_field (λ gapped. last_field (λ linear. next record {
      run = run;
      packet = packet;
      rec = rec;
      stamp = stamp;
      group = group;
      place = place;
      bucket = bucket;
      gapped = gapped;
      linear = linear;
    }))))))))) text

-- the row of a frame or field
unfoldable pub group_row : {B : Type 0} → (GroupRow → List ℕ → Option B) → List ℕ → Option B
group_row next text =
    word_field (λ run. word_field (λ group. word_field (λ rec. word_field (λ stamp. whole_field (λ first.
    whole_field (λ last. word_field (λ timestamp. field_or_none (λ step. whole_field (λ offset. whole_field (λ latency.
    word_field (λ bucket. whole_field (λ gapped_least. whole_field (λ gapped. whole_field (λ linear_least.
    last_field (λ linear. next record {
      run = run;
      group = group;
      rec = rec;
      stamp = stamp;
      first = first;
      last = last;
      timestamp = timestamp;
      step = step;
      offset = offset;
      latency = latency;
      bucket = bucket;
      gapped_least = gapped_least;
      gapped = gapped;
      linear_least = linear_least;
      linear = linear;
    }))))))))))))))) text

-- no rows at the end of the text, and else what is read of it
abbrev pub unless_end : {R : Type 0} → Option (List R) → List ℕ → Option (List R)
unless_end read [] = Some []
unless_end read (byte ∷ rest) = read

-- the rows up to the end of the text, each read by `row`; at most this many
abbrev pub rows_within : {R : Type 0} → (row : (R → List ℕ → Option (List R)) → List ℕ → Option (List R))
    → (most : ℕ) → List ℕ → Option (List R)
rows_within row zero text = at_end [] text
rows_within row (suc most) text =
    unless_end (row (λ first rest. option_map (λ others. first ∷ others) (rows_within row most rest)) text) text

-- the rows behind the header; a table has at most as many as it has bytes
abbrev pub table_read : {R : Type 0} → (header : List ℕ)
    → (row : (R → List ℕ → Option (List R)) → List ℕ → Option (List R)) → List ℕ → Option (List R)
table_read header row text = after header (λ rows. rows_within row (length rows) rows) text

-- the table of packets
abbrev pub packets_read : List ℕ → Option (List PacketRow)
packets_read text = table_read packet_header_text packet_row text

-- the table of frames or fields
abbrev pub groups_read : List ℕ → Option (List GroupRow)
groups_read text = table_read group_header_text group_row text
