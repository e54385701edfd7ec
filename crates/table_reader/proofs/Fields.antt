-- The fields of a row are read back, one after another.
use Rattle.std.proofs.Common.{◌≡◌, ◌∙◌, ℕ, suc, ℤ, pos, negsuc, ◌<◌, ◌≤◌, ◌^◌, ◌+◌, ◌%◌, ◌==◌, ◌&&◌, Bool, true, false, List, [], ◌∷◌, ◌++◌, refl, ap}
use Rattle.std.proofs.Common.{append_assoc, arith}
use Rattle.std.specs.Prelude.{Option, Some, None, codes, nat_le}
use Rattle.std.specs.Fmt.{decimal, signed_decimal}
use Rattle.std.specs.Option.{IfSome}
use Rattle.std.specs.Int.Signed.{mag}
use Rattle.std.proofs.lemmas.Bool.{false≢true}
use Rattle.std.proofs.lemmas.Bool.Decides.{nat_tests}
use Rattle.sdp_reader.specs.Bytes.{after_prefix, is_digit}
use Rattle.flow_measure.specs.declared.report.rows.GroupRow.{GroupRow}
use Rattle.flow_measure.specs.declared.report.rows.PacketRow.{PacketRow}
use Rattle.flow_measure.specs.report.Rows.{field_if, group_row_text, packet_row_text}
use Rattle.report_reader.specs.Pieces.{after, begins_with_digit}
use Rattle.report_reader.proofs.Numbers.{begins_decimal, both_true, number_back, wide_back}
use Rattle.table_reader.specs.Fits.{FitsGroupRow, FitsPacketRow, IsWord}
use Rattle.table_reader.specs.Rows.{field_or_none, group_row, packet_row, signed}

not_below : (b c : ℕ) → c < 48 → nat_le 48 b ≡ true → (b == c) ≡ false
not_below b c l h = grind (arith, nat_tests)

-- and so with no byte below the digits
no_byte : (c : ℕ) (ds rest : List ℕ) → c < 48 → begins_with_digit ds ≡ true → after_prefix (c ∷ []) (ds ++ rest) ≡ None
no_byte c [] rest l h = absurd (false≢true h)
no_byte c (d ∷ ds) rest l h = rw (not_below d c l (both_true (nat_le 48 d) (nat_le d 57) h).0) refl

-- a number with its sign
pub signed_back : {B : Type 0} (next : ℤ → List ℕ → Option B) (z : ℤ) (rest : List ℕ) → mag z < 2 ^ 127 → begins_with_digit rest ≡ false
    → signed next (signed_decimal z ++ rest) ≡ next z rest
unfolding signed
signed_back next (pos n) rest small e =
    let l : n < 10 ^ 64 = omega (arith, small) in
    rw (no_byte 45 (decimal n) rest (omega arith) (begins_decimal n l)) (wide_back (λ m. next (pos m)) n rest l e)
signed_back next (negsuc n) rest small e =
    let l : suc n < 10 ^ 64 = omega (arith, small) in
    wide_back _ (suc n) rest l e

-- a field that may be empty
pub field_or_none_back : {B : Type 0} (next : Option ℕ → List ℕ → Option B) (found : Option ℕ) (rest : List ℕ) → IfSome found IsWord
    → field_or_none next (field_if found ++ rest) ≡ next found rest
unfolding field_or_none
field_or_none_back next None rest fits = refl
field_or_none_back next (Some n) rest fits =
    ap (λ text. field_or_none next text) (append_assoc (decimal n) (codes ",") rest)
    ∙ rw (no_byte 44 (decimal n) (codes "," ++ rest) (omega arith) (begins_decimal n (omega (arith, fits))))
    (number_back (λ m. after (codes ",") (next (Some m))) n (codes "," ++ rest) fits refl)

packet_at : {B : Type 0} (next : PacketRow → List ℕ → Option B) (run packet rec stamp group place bucket : ℕ) (gapped linear : ℤ) (rest : List ℕ)
    → run < 2 ^ 64 → packet < 2 ^ 64 → rec < 2 ^ 64 → stamp < 2 ^ 64 → group < 2 ^ 64 → place < 2 ^ 64 → bucket < 2 ^ 64
    → mag gapped < 2 ^ 127 → mag linear < 2 ^ 127
    → packet_row next (packet_row_text record {
      run = run;
      packet = packet;
      rec = rec;
      stamp = stamp;
      group = group;
      place = place;
      bucket = bucket;
      gapped = gapped;
      linear = linear;
    } ++ rest) ≡ next record {
      run = run;
      packet = packet;
      rec = rec;
      stamp = stamp;
      group = group;
      place = place;
      bucket = bucket;
      gapped = gapped;
      linear = linear;
    } rest
unfolding packet_row
packet_at next run packet rec stamp group place bucket gapped linear rest h1 h2 h3 h4 h5 h6 h7 h8 h9 = simp (append_assoc, number_back, signed_back)

-- the row of a packet
pub packet_back : {B : Type 0} (next : PacketRow → List ℕ → Option B) (r : PacketRow) (rest : List ℕ) → FitsPacketRow r
    → packet_row next (packet_row_text r ++ rest) ≡ next r rest
packet_back next r rest f =
    packet_at next r.run r.packet r.rec r.stamp r.group r.place r.bucket r.gapped r.linear rest f.run f.packet f.rec f.stamp f.group f.place f.bucket f.gapped
    f.linear

group_at : {B : Type 0} (next : GroupRow → List ℕ → Option B) (run group rec stamp timestamp bucket : ℕ) (step : Option ℕ)
    (first last offset latency gapped_least gapped linear_least linear : ℤ) (rest : List ℕ)
    → run < 2 ^ 64 → group < 2 ^ 64 → rec < 2 ^ 64 → stamp < 2 ^ 64 → timestamp < 2 ^ 64 → bucket < 2 ^ 64 → IfSome step IsWord
    → mag first < 2 ^ 127 → mag last < 2 ^ 127 → mag offset < 2 ^ 127 → mag latency < 2 ^ 127
    → mag gapped_least < 2 ^ 127 → mag gapped < 2 ^ 127 → mag linear_least < 2 ^ 127 → mag linear < 2 ^ 127
    → group_row next (group_row_text record {
      run = run;
      group = group;
      rec = rec;
      stamp = stamp;
      first = first;
      last = last;
      timestamp = timestamp;
      step = step;
      offset = offset;
      latency = latency;
      bucket = bucket;
      gapped_least = gapped_least;
      gapped = gapped;
      linear_least = linear_least;
      linear = linear;
    } ++ rest) ≡ next record {
      run = run;
      group = group;
      rec = rec;
      stamp = stamp;
      first = first;
      last = last;
      timestamp = timestamp;
      step = step;
      offset = offset;
      latency = latency;
      bucket = bucket;
      gapped_least = gapped_least;
      gapped = gapped;
      linear_least = linear_least;
      linear = linear;
    } rest
unfolding group_row
group_at next run group rec stamp timestamp bucket step first last offset latency gapped_least gapped linear_least linear rest
    h1 h2 h3 h4 h5 h6 h7 i1 i2 i3 i4 i5 i6 i7 i8 =
    simp (append_assoc, number_back, signed_back, field_or_none_back)

-- the row of a frame or field
pub group_back : {B : Type 0} (next : GroupRow → List ℕ → Option B) (r : GroupRow) (rest : List ℕ) → FitsGroupRow r
    → group_row next (group_row_text r ++ rest) ≡ next r rest
group_back next r rest f =
    group_at next r.run r.group r.rec r.stamp r.timestamp r.bucket r.step r.first r.last r.offset r.latency r.gapped_least r.gapped r.linear_least r.linear
    rest f.run f.group f.rec f.stamp f.timestamp f.bucket f.step f.first f.last f.offset f.latency f.gapped_least f.gapped f.linear_least f.linear
