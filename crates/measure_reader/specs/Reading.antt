-- The reader of a judged flow in the JSON of `measure`, as the program prints it: without spaces, each object with its
-- members in the byte order of their keys. A reader is given what is to be done with its value and the text after it
-- (`Pieces` of `report_reader`).
use Rattle.std.specs.Prelude.{ℕ, zero, suc, ◌+◌, ◌-◌, ◌*◌, nat_lt, ℤ, Bool, true, false, if◌then◌else◌, List, [], ◌∷◌}
use Rattle.std.specs.Prelude.{length, Option, Some, None, codes}
use Rattle.std.specs.Char.{digit_value}
use Rattle.timing_base.specs.declared.fail.Broken.TheVariants as model
use Rattle.timing_base.specs.declared.fail.FailProof.{FailProof}
use Rattle.timing_base.specs.declared.row.KindVerdict.{KindVerdict}
use Rattle.timing_base.specs.declared.row.KindVerdict.TheVariants as kind_verdict
use Rattle.flow_measure.specs.report.Told.{ToldOffsets, ToldPlace}
use Rattle.report_reader.specs.Pieces.{after, either, number, word}
use Rattle.report_reader.specs.Reading.{destination}
use Rattle.table_reader.specs.Rows.{signed}
use Rattle.measure_reader.specs.Told.{ReadBins, ReadBuffer, ReadFlow, ReadGap, ReadKind, ReadLevel, ReadRun, ReadStep}
use Rattle.measure_reader.specs.Told.{ReadSummary}

-- true or false
unfoldable pub flag : {B : Type 0} → (Bool → List ℕ → Option B) → List ℕ → Option B
flag next text = word ((codes "true", true) ∷ (codes "false", false) ∷ []) next text

-- a number behind this piece
abbrev pub count_after : {B : Type 0} → (piece : List ℕ) → (ℕ → List ℕ → Option B) → List ℕ → Option B
count_after piece next text = after piece (number next) text

-- a number with its sign behind this piece
abbrev pub whole_after : {B : Type 0} → (piece : List ℕ) → (ℤ → List ℕ → Option B) → List ℕ → Option B
whole_after piece next text = after piece (signed next) text

-- numbers behind the first one of a list, each after a comma, up to its end; at most this many
abbrev pub more_counts : {B : Type 0} → (most : ℕ) → (List ℕ → List ℕ → Option B) → List ℕ → Option B
more_counts zero next text = after (codes "]") (next []) text
more_counts (suc most) next text =
    either (codes ",") (number (λ n. more_counts most (λ others. next (n ∷ others)))) (after (codes "]") (next [])) text

-- a list of numbers; it has fewer than the text has bytes
unfoldable pub counts : {B : Type 0} → (List ℕ → List ℕ → Option B) → List ℕ → Option B
counts next text =
    after (codes "[") (either (codes "]") (next [])
    (number (λ n. more_counts (length text) (λ others. next (n ∷ others))))) text

-- a member that may be missing, with the comma after it: this key
unfoldable pub member_or_none : {B : Type 0} → (key : List ℕ) → (Option ℕ → List ℕ → Option B) → List ℕ → Option B
member_or_none key next text =
    either key (number (λ n. after (codes ",") (next (Some n)))) (next None) text

-- the least, the greatest and the sum of numbers
unfoldable pub level : {B : Type 0} → (ReadLevel → List ℕ → Option B) → List ℕ → Option B
level next text =
    whole_after (codes "{\"greatest\":") (λ greatest. whole_after (codes ",\"least\":") (λ least.
    whole_after (codes ",\"sum\":") (λ sum. after (codes "}")
    (next record { greatest = greatest; least = least; sum = sum })))) text

-- the buffer by one kind of reads
unfoldable pub buffer : {B : Type 0} → (ReadBuffer → List ℕ → Option B) → List ℕ → Option B
buffer next text =
    whole_after (codes "{\"greatest\":") (λ greatest. count_after (codes ",\"late\":") (λ late.
    whole_after (codes ",\"least\":") (λ least. whole_after (codes ",\"slack\":") (λ slack.
    whole_after (codes ",\"sum\":") (λ sum. after (codes "}")
    (next record { greatest = greatest; late = late; least = least; slack = slack; sum = sum })))))) text

-- a whole summary, up to its sum
unfoldable pub summary_front : {B : Type 0} → (ReadSummary → List ℕ → Option B) → List ℕ → Option B
summary_front next text =
    whole_after (codes "{\"first\":") (λ first. whole_after (codes ",\"greatest\":") (λ greatest.
    whole_after (codes ",\"last\":") (λ last. whole_after (codes ",\"least\":") (λ least.
    whole_after (codes ",\"sum\":") (λ sum.
    next record { first = first; greatest = greatest; last = last; least = least; sum = sum }))))) text

-- a whole summary
unfoldable pub summary : {B : Type 0} → (ReadSummary → List ℕ → Option B) → List ℕ → Option B
summary next text = summary_front (λ s. after (codes "}") (next s)) text

-- a whole summary with the value to compare with
unfoldable pub summary_and_target : {B : Type 0} → (ReadSummary → ℕ → List ℕ → Option B) → List ℕ → Option B
summary_and_target next text =
    summary_front (λ s. count_after (codes ",\"target\":") (λ target. after (codes "}") (next s target))) text

-- the steps of the RTP timestamp, if there are some
unfoldable pub step_or_none : {B : Type 0} → (Option ReadStep → List ℕ → Option B) → List ℕ → Option B
step_or_none next text =
    either (codes "\"step\":{\"greatest\":") (signed (λ greatest. whole_after (codes ",\"least\":") (λ least.
    after (codes "},") (next (Some record { greatest = greatest; least = least }))))) (next None) text

-- the times between packets, if there are some
unfoldable pub gap_or_none : {B : Type 0} → (Option ReadGap → List ℕ → Option B) → List ℕ → Option B
gap_or_none next text =
    either (codes "\"gap\":{\"classes\":") (counts (λ classes. whole_after (codes ",\"greatest\":") (λ greatest.
    whole_after (codes ",\"least\":") (λ least. whole_after (codes ",\"sum\":") (λ sum. after (codes "},")
    (next (Some record { classes = classes; greatest = greatest; least = least; sum = sum })))))))
    (next None) text

-- a histogram
unfoldable pub bins : {B : Type 0} → (ReadBins → List ℕ → Option B) → List ℕ → Option B
bins next text =
    count_after (codes "{\"above\":") (λ above. after (codes ",") (member_or_none (codes "\"below\":") (λ below.
    after (codes "\"counts\":") (counts (λ counts_of. count_after (codes ",\"limit\":") (λ limit.
    count_after (codes ",\"width\":") (λ width. after (codes "}")
    (next record { above = above; below = below; counts = counts_of; limit = limit; width = width })))))))) text

-- the place of packet `to` of a violation, if it is told
unfoldable pub place_or_none : {B : Type 0} → (Option ToldPlace → List ℕ → Option B) → List ℕ → Option B
place_or_none next text =
    either (codes "\"record\":") (number (λ rec. count_after (codes ",\"stamp\":") (λ stamp. after (codes ",")
    (next (Some record { rec = rec; stamp = stamp }))))) (next None) text

-- a violation
unfoldable pub proof : {B : Type 0} → (FailProof → Option ToldPlace → List ℕ → Option B) → List ℕ → Option B
proof next text =
    count_after (codes "{\"count\":") (λ count. count_after (codes ",\"from\":") (λ from.
    count_after (codes ",\"limit\":") (λ limit. after (codes ",\"model\":\"")
    (word ((codes "Bucket", model.Bucket) ∷ (codes "Over", model.Over) ∷ (codes "Empty", model.Empty) ∷ []) (λ broken.
    after (codes "\",") (place_or_none (λ place. count_after (codes "\"to\":") (λ to. after (codes "}")
    (next record { model = broken; from = from; to = to; count = count; limit = limit } place))))))))) text

-- whether a type passes, and its violation if it fails
unfoldable pub outcome : {B : Type 0} → (KindVerdict → Option ToldPlace → List ℕ → Option B) → List ℕ → Option B
outcome next text =
    either (codes "\"pass\":true") (next kind_verdict.Pass None)
    (after (codes "\"pass\":false,\"proof\":") (proof (λ found place. next (kind_verdict.Fail found) place))) text

-- the ends of a window; one that is absent has no member
unfoldable pub window : {B : Type 0} → (ToldOffsets → List ℕ → Option B) → List ℕ → Option B
window next text =
    either (codes "{}") (next record { least = None; greatest = None })
    (either (codes "{\"least\":") (number (λ least. after (codes "}")
    (next record { least = Some least; greatest = None })))
    (count_after (codes "{\"greatest\":") (λ greatest.
    either (codes ",\"least\":") (number (λ least. after (codes "}")
    (next record { least = Some least; greatest = Some greatest })))
    (after (codes "}") (next record { least = None; greatest = Some greatest }))))) text

-- the first packets that break each limit, and the count of broken frames or fields
unfoldable pub breaks : {B : Type 0} → (Option ℕ → Option ℕ → Option ℕ → ℕ → List ℕ → Option B) → List ℕ → Option B
breaks next text =
    member_or_none (codes "\"first_bucket\":") (λ first_bucket.
    member_or_none (codes "\"first_empty\":") (λ first_empty.
    member_or_none (codes "\"first_over\":") (λ first_over.
    count_after (codes "\"frames_broken\":") (next first_bucket first_empty first_over)))) text

-- a sender type with this name
unfoldable pub kind : {B : Type 0} → (name : List ℕ) → (ReadKind → List ℕ → Option B) → List ℕ → Option B
kind name next text =
    after (codes "{\"bucket\":") (bins (λ bucket. after (codes ",\"buffer\":") (bins (λ held. after (codes ",")
    (breaks (λ first_bucket first_empty first_over broken.
    after (codes ",") (outcome (λ verdict place. after (codes ",\"troff\":") (window (λ troff.
    after (codes ",\"type\":\"") (after name (after (codes "\"}") (next record {
      bucket = bucket;
      buffer = held;
      first_bucket = first_bucket;
      first_empty = first_empty;
      first_over = first_over;
      groups_broken = broken;
      outcome = verdict;
      place = place;
      troff = troff;
    }))))))))))))) text

-- the types N, NL and W
unfoldable pub kinds : {B : Type 0} → (List ReadKind → List ℕ → Option B) → List ℕ → Option B
kinds next text =
    after (codes "[") (kind (codes "N") (λ narrow. after (codes ",") (kind (codes "NL") (λ linear. after (codes ",")
    (kind (codes "W") (λ wide. after (codes "]") (next (narrow ∷ linear ∷ wide ∷ [])))))))) text

-- a judged run
unfoldable pub run : {B : Type 0} → (ReadRun → List ℕ → Option B) → List ℕ → Option B
run next text =
    after (codes "{\"bucket\":") (level (λ bucket. after (codes ",\"first\":") (summary_and_target (λ first target.
    count_after (codes ",\"frames\":") (λ frames. after (codes ",") (gap_or_none (λ gap.
    after (codes "\"gapped\":") (buffer (λ gapped. count_after (codes ",\"head\":") (λ head.
    after (codes ",\"interlaced\":") (flag (λ interlaced.
    after (codes ",\"last\":") (summary (λ last. after (codes ",\"latency\":") (summary (λ latency.
    after (codes ",\"linear\":") (buffer (λ linear. count_after (codes ",\"n\":") (λ n.
    count_after (codes ",\"number\":") (λ packet. after (codes ",\"offset\":") (summary (λ offset.
    count_after (codes ",\"packets\":") (λ packets. count_after (codes ",\"record\":") (λ rec.
    count_after (codes ",\"run\":") (λ place. after (codes ",") (step_or_none (λ step.
    count_after (codes "\"tail\":") (λ tail. after (codes ",\"types\":") (kinds (λ types. after (codes "}")
    (next record {
      bucket = bucket;
      first = first;
      target = target;
      frames = frames;
      gap = gap;
      gapped = gapped;
      head = head;
      interlaced = interlaced;
      last = last;
      latency = latency;
      linear = linear;
      n = n;
      number = packet;
      offset = offset;
      packets = packets;
      rec = rec;
      run = place;
      step = step;
      tail = tail;
      kinds = types;
    }))))))))))))))))))))))))))))))) text

-- runs behind the first one of a list, each after a comma, up to its end; at most this many
abbrev pub more_runs : {B : Type 0} → (most : ℕ) → (List ReadRun → List ℕ → Option B) → List ℕ → Option B
more_runs zero next text = after (codes "]") (next []) text
more_runs (suc most) next text =
    either (codes ",") (run (λ r. more_runs most (λ others. next (r ∷ others)))) (after (codes "]") (next [])) text

-- the judged runs, if there is one; there are fewer than the text has bytes
unfoldable pub runs_or_none : {B : Type 0} → (List ReadRun → List ℕ → Option B) → List ℕ → Option B
runs_or_none next text =
    either (codes "\"runs\":[") (run (λ first. more_runs (length text) (λ others rest.
    after (codes ",") (next (first ∷ others)) rest))) (next []) text

-- a number in hexadecimal digits, of all digits that the text begins with, after those that have this value
abbrev pub hex_after : {B : Type 0} → (value : ℕ) → (ℕ → List ℕ → Option B) → List ℕ → Option B
hex_after value next [] = next value []
hex_after value next (b ∷ rest) =
    if nat_lt (digit_value b) 16 then hex_after (value * 16 + digit_value b) next rest else next value (b ∷ rest)

-- the SSRC, if a packet was read
unfoldable pub ssrc_or_none : {B : Type 0} → (Option ℕ → List ℕ → Option B) → List ℕ → Option B
ssrc_or_none next text =
    either (codes "\"ssrc\":\"") (hex_after 0 (λ ssrc. after (codes "\",") (next (Some ssrc)))) (next None) text

-- whether a flow was judged in one run
unfoldable pub verdict : {B : Type 0} → (Bool → List ℕ → Option B) → List ℕ → Option B
verdict next text = word ((codes "judged", true) ∷ (codes "runs", false) ∷ []) next text

-- a judged flow
unfoldable pub flow : {B : Type 0} → (ReadFlow → List ℕ → Option B) → List ℕ → Option B
flow next text =
    count_after (codes "{\"media\":") (λ media. count_after (codes ",\"packets\":") (λ packets. after (codes ",")
    (runs_or_none (λ runs. ssrc_or_none (λ ssrc. after (codes "\"target\":\"") (destination (λ target.
    after (codes "\",\"verdict\":\"") (verdict (λ in_one_run. after (codes "\"}") (next record {
      media = media - 1;
      packets = packets;
      runs = runs;
      ssrc = ssrc;
      target = target;
      in_one_run = in_one_run;
    })))))))))) text
