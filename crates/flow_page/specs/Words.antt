-- The result of each sender type in words. Packets count from 0 and packet records from 1. Pass and fail have a sign
-- and a word. This project's own format.
use Rattle.std.specs.Prelude.{ℕ, ℤ, pos, nat_le, ◌==◌, unsigned_abs, if◌then◌else◌, List, [], ◌++◌, codes}
use Rattle.std.specs.Prelude.{Option, Some, None}
use Rattle.std.specs.Fmt.{decimal, signed_decimal}
use Rattle.std.specs.Ordering.{int_eq}
use Rattle.timing_base.specs.Shifts.{Shift}
use Rattle.timing_base.specs.declared.fail.FailProof.{FailProof}
use Rattle.timing_base.specs.declared.row.KindVerdict.{KindVerdict}
use Rattle.timing_base.specs.declared.row.KindVerdict.TheVariants.{Pass, Fail}
use Rattle.timing_report.specs.Words.{kind_name}
use Rattle.flow_measure.specs.declared.numbers.Place.{Place}
use Rattle.flow_page.specs.Times.{epoch_text, file_time, micro_text, minus_of, span_text}
use Rattle.flow_page.specs.declared.shown.TypeShown.{TypeShown}

-- pass or fail
abbrev pub sign_text : KindVerdict → List ℕ
sign_text Pass = codes "<span class=\"pass\">&#10003; pass</span>"
sign_text (Fail proof) = codes "<span class=\"fail\">&#10007; fail</span>"

-- the plural ending of a noun with this count
abbrev pub noun_end : (count : ℤ) → List ℕ
noun_end count = if int_eq count (pos 1) then [] else codes "s"

-- a count with its noun
unfoldable pub counted : (count : ℤ) → (noun : List ℕ) → List ℕ
counted count noun = signed_decimal count ++ (codes " " ++ (noun ++ noun_end count))

-- the text on how many packets exceed a limit and which is the first, if there is one
abbrev pub above_text : (what : List ℕ) → (count : ℕ) → (first : Option ℕ) → List ℕ
above_text what count None = []
above_text what count (Some first) =
    codes "; after " ++ (counted (pos count) (codes "packet") ++ (codes " the " ++ (what
    ++ (codes " is above its limit, first after packet " ++ decimal first))))

-- the text on the greatest lateness of a packet
unfoldable pub worst_text : (slack : ℤ) → List ℕ
worst_text slack = codes ", at worst " ++ (span_text (unsigned_abs slack) ++ codes " late")

-- the text on how many packets are late and which is the first, if there is one
abbrev pub late_text : (late : ℕ) → (slack : ℤ) → (first : Option ℕ) → List ℕ
late_text late slack None = []
late_text late slack (Some first) =
    codes "; " ++ (counted (pos late) (codes "packet") ++ (codes " too late for the reads, first packet "
    ++ (decimal first ++ worst_text slack)))

-- the text on the place in the capture of the last packet of the violation: its packet record and its capture timestamp
-- as the file has it
abbrev pub named_text : (to : ℕ) (shift : Shift) → Option Place → List ℕ
named_text to shift None = []
named_text to shift (Some place) =
    codes ". Packet " ++ (decimal to ++ (codes ", with which the verdict's fail ends, is record "
    ++ (decimal place.«record» ++ (codes ", capture timestamp " ++ epoch_text (file_time shift place.stamp)))))

-- the text on how many frames or fields break the type
unfoldable pub broken_text : TypeShown → (group : List ℕ) → List ℕ
broken_text t group =
    codes "; broken by " ++ (decimal t.groups_broken ++ (codes " of " ++ counted (pos t.groups) group))

-- the text on the packets that exceed a limit
unfoldable pub over_text : TypeShown → List ℕ
over_text t =
    above_text (codes "bucket") t.above_bucket t.first_bucket ++ above_text (codes "buffer") t.above_buffer t.first_over

-- the text on the offsets from `least` to `greatest` microseconds, with which the buffer would pass, beside that of the
-- SDP in nanoseconds; or that there is none
abbrev pub offsets_text : (least greatest : Option ℕ) → (offset : ℕ) → List ℕ
offsets_text (Some least) (Some greatest) offset =
    if nat_le least greatest then codes ". With an offset of " ++ (decimal least ++ (codes " to "
    ++ (decimal greatest ++ (codes " &#181;s its buffer would pass; the description's is "
    ++ (micro_text offset ++ codes " &#181;s"))))) else codes ". With no offset would its buffer pass"
offsets_text _ _ offset = codes ". With no offset would its buffer pass"

-- that text, for a type whose bucket passes
unfoldable pub troff_words : TypeShown → List ℕ
troff_words t = if t.above_bucket == 0 then offsets_text t.least t.greatest t.offset else []

-- the text on how a type fails
abbrev pub breaks_text : TypeShown → (group : List ℕ) → (shift : Shift) → FailProof → List ℕ
breaks_text t group shift proof =
    broken_text t group ++ (over_text t ++ (late_text t.late t.slack t.first_empty
    ++ (named_text proof.to shift t.named ++ troff_words t)))

-- the text on the slack of a type that passes
unfoldable pub later_text : (slack : ℤ) → List ℕ
later_text slack =
    codes "; each packet may come " ++ (minus_of slack ++ (span_text (unsigned_abs slack) ++ codes " later"))

-- the slack of a type that passes, or how it fails
abbrev pub outcome_words : TypeShown → (group : List ℕ) → (shift : Shift) → KindVerdict → List ℕ
outcome_words t group shift Pass = later_text t.slack
outcome_words t group shift (Fail proof) = breaks_text t group shift proof

-- the peaks and the limits of a type
abbrev pub peaks_words : TypeShown → List ℕ
peaks_words t =
    codes "</b>: bucket " ++ (decimal t.bucket_peak ++ (codes " of " ++ (decimal t.c_max ++ (codes ", buffer "
    ++ (decimal t.buffer_peak ++ (codes " of " ++ decimal t.vrx_full))))))

-- the result of a type
abbrev pub type_words : TypeShown → (group : List ℕ) → (shift : Shift) → List ℕ
type_words t group shift =
    codes "<li>" ++ (sign_text t.verdict ++ (codes " <b>" ++ (kind_name t.kind ++ (peaks_words t
    ++ (outcome_words t group shift t.verdict ++ codes ".</li>\n")))))
