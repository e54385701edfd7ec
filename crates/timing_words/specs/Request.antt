-- The request of a command line: each command's options, flags and positional arguments, their ranges, and which of
-- them are optional or exclude each other. This project's profile.
-- Media count from 1 in the arguments and from 0 in the jobs; `--tai` is in seconds, and `--delay` in nanoseconds.
use Rattle.std.specs.Prelude.{ℕ, ◌&&◌, ◌-◌, ◌^◌, Bool, true, false, List, [], ◌∷◌, length, codes}
use Rattle.std.specs.Prelude.{◌++◌, map, Option, Some, None, option_map, if◌then◌else◌, nat_le, nat_lt}
use Rattle.std.specs.List.{list_all}
use Rattle.std.specs.Char.{is_ascii_digit}
use Rattle.std.specs.Str.{bytes_eq}
use Rattle.std.specs.Str.Parse.{digits_value}
use Rattle.timing_base.specs.Shifts.{FlowOptions}
use Rattle.timing_base.specs.Jobs.{CaptureJob, CheckJob, FlowJob, ReportJob, ScanJob, SelfTestJob, ShapeJob, SkewJob}
use Rattle.timing_base.specs.Jobs.{ExplainJob, SdpJob, SeriesJob, VerifyJob, WatchJob}
use Rattle.timing_base.specs.Name.{is_file_name}
use Rattle.timing_base.specs.declared.fail.Broken.{Broken}
use Rattle.timing_base.specs.declared.fail.Broken.TheVariants as broken
use Rattle.timing_base.specs.declared.fail.FailProof.{FailProof}
use Rattle.timing_words.specs.declared.request.Request.{Request}
use Rattle.timing_words.specs.declared.request.Request.TheVariants as asks
use Rattle.timing_base.specs.declared.job.ScanForm.{ScanForm}
use Rattle.timing_base.specs.declared.job.ScanForm.TheVariants as form
use Rattle.timing_base.specs.declared.media.Kind.{Kind}
use Rattle.timing_base.specs.declared.media.Kind.TheVariants as kind
use Rattle.timing_words.specs.declared.command.Command.{Command}
use Rattle.timing_words.specs.declared.command.Command.TheVariants as command
use Rattle.timing_words.specs.Line.{Sort, Stands, Text, line, stands}

-- ---- values

-- the result of f, or nothing if its argument is missing
abbrev pub need : {A B : Type 0} → Option A → (A → Option B) → Option B
need None f = None
need (Some a) f = f a

-- the value, if the condition is true
abbrev pub passing : {A : Type 0} → Bool → A → Option A
passing b a = if b then Some a else None

-- one to twenty decimal digits
abbrev pub is_numeral : Text → Bool
is_numeral text = nat_le 1 (length text) && (nat_le (length text) 20 && list_all is_ascii_digit text)

-- the number of one to twenty decimal digits, if it is below 2^64
abbrev pub written : Text → Option ℕ
written text =
    let n = digits_value 10 text in
    passing (is_numeral text && nat_lt n (2 ^ 64)) n

-- the number of one to twenty decimal digits, if it is from low to high
abbrev pub number : ℕ → ℕ → Text → Option ℕ
number low high text = need (written text) (λ n. passing (nat_le low n && nat_le n high) n)

-- a file name
abbrev pub file_name : Text → Option Text
file_name text = passing (is_file_name text) text

-- one to `most` file names
abbrev pub file_names : ℕ → List Text → Option (List Text)
file_names most names =
    passing (nat_le 1 (length names) && (nat_le (length names) most && list_all is_file_name names)) names

-- the entry of a table for a text
abbrev pub chosen : {A : Type 0} → List (Text × A) → Text → Option A
chosen [] text = None
chosen ((n, a) ∷ rows) text = if bytes_eq text n then Some a else chosen rows text

-- the sender type of this name
abbrev pub kind_named : Text → Option Kind
kind_named = chosen ((codes "N", kind.N) ∷ (codes "NL", kind.NL) ∷ (codes "W", kind.W) ∷ [])

-- the limit of this name that a sender breaks
abbrev pub model_named : Text → Option Broken
model_named = chosen ((codes "Bucket", broken.Bucket) ∷ (codes "Over", broken.Over) ∷ (codes "Empty", broken.Empty)
    ∷ [])

-- a media, counted from 1 in the text and from 0 here
abbrev pub media : Text → Option ℕ
media text = option_map (λ n. n - 1) (number 1 64 text)

-- a count, or the number of a packet
abbrev pub count : Text → Option ℕ
count text = number 0 (2 ^ 64 - 1) text

-- the seconds that are added to capture timestamps; 0 without the option
abbrev pub tai : Option Text → Option ℕ
tai None = Some 0
tai (Some text) = number 0 1000 text

-- the nanoseconds that are then subtracted from them; 0 without the option
abbrev pub delay : Option Text → Option ℕ
delay None = Some 0
delay (Some text) = number 0 999999999 text

-- the media that is judged alone, if the option is given
abbrev pub only_media : Option Text → Option (Option ℕ)
only_media None = Some None
only_media (Some text) = option_map (λ n. Some n) (media text)

-- the frames or fields of a stretch, if the option is given
abbrev pub every : Option Text → Option (Option ℕ)
every None = Some None
every (Some text) = option_map (λ n. Some n) (number 1 1000000 text)

-- the number of workers of `check`: 4 without an option, and 0, for one thread, with `--serial`; `--workers` and
-- `--serial` exclude each other
abbrev pub check_workers : Option Text → Bool → Option ℕ
check_workers None false = Some 4
check_workers None true = Some 0
check_workers (Some text) false = number 1 16 text
check_workers (Some text) true = None

-- the number of workers of `selftest`; 0, for one thread, without the option
abbrev pub test_workers : Option Text → Option ℕ
test_workers None = Some 0
test_workers (Some text) = number 1 16 text

-- the output form of `scan`: lines without a flag; `--json` and `--draft` exclude each other
abbrev pub scan_form : (json draft : Bool) → Option ScanForm
scan_form false false = Some form.Lines
scan_form true false = Some form.Json
scan_form false true = Some form.Draft
scan_form true true = None

-- one file name, or 1 to 16 if the captures are joined
abbrev pub inputs : Bool → List Text → Option (List Text)
inputs joined names = file_names (if joined then 16 else 1) names

-- the only positional argument
abbrev pub sole : List Text → Option Text
sole [] = None
sole (w ∷ []) = Some w
sole (w ∷ v ∷ rest) = None

-- a required option, read by f
abbrev pub given : {A : Type 0} → Text → Stands → (Text → Option A) → Option A
given n l f = need (l.value n) f

-- how the packets of a flow are timed and numbered
abbrev pub options_asked : Stands → Option FlowOptions
options_asked l =
    need (tai (l.value (codes "tai"))) (λ seconds.
    need (delay (l.value (codes "delay"))) (λ nanoseconds.
    Some (record { shift = record { tai = seconds; delay = nanoseconds }; seq16 = l.flag (codes "seq16") })))

-- ---- commands

-- the options with the first names, and the flags with the others
abbrev pub takes : List Text → List Text → List Sort
takes options flags = map (λ n. record { name = n; valued = true }) options
    ++ map (λ n. record { name = n; valued = false }) flags

-- the options and flags of `check`
abbrev pub check_sorts : List Sort
check_sorts = takes
    (codes "sdp" ∷ codes "workers" ∷ codes "tai" ∷ codes "delay" ∷ codes "media" ∷ [])
    (codes "serial" ∷ codes "json" ∷ codes "joined" ∷ codes "seq16" ∷ [])

-- the job of `check`
abbrev pub check_asked : Stands → Option CheckJob
check_asked l =
    need (given (codes "sdp") l file_name) (λ sdp.
    need (check_workers (l.value (codes "workers")) (l.flag (codes "serial"))) (λ workers.
    need (options_asked l) (λ options.
    need (only_media (l.value (codes "media"))) (λ m.
    need (file_names 16 l.names) (λ captures.
    Some (record {
      sdp = sdp;
      captures = captures;
      workers = workers;
      options = options;
      json = l.flag (codes "json");
      joined = l.flag (codes "joined");
      media = m;
    }))))))

-- the options and flags of `verify`
abbrev pub verify_sorts : List Sort
verify_sorts = takes
    (codes "sdp" ∷ codes "media" ∷ codes "type" ∷ codes "model"
    ∷ codes "from" ∷ codes "to" ∷ codes "count" ∷ codes "limit" ∷ codes "tai" ∷ codes "delay" ∷ [])
    (codes "joined" ∷ codes "seq16" ∷ [])

-- the violation that `verify` is to check
abbrev pub proof_asked : Stands → Option FailProof
proof_asked l =
    need (given (codes "model") l model_named) (λ model.
    need (given (codes "from") l count) (λ from.
    need (given (codes "to") l count) (λ to.
    need (given (codes "count") l count) (λ counted.
    need (given (codes "limit") l count) (λ limit.
    Some (record { model = model; from = from; to = to; count = counted; limit = limit }))))))

-- the job of `verify`
abbrev pub verify_asked : Stands → Option VerifyJob
verify_asked l =
    need (given (codes "sdp") l file_name) (λ sdp.
    need (given (codes "media") l media) (λ m.
    need (given (codes "type") l kind_named) (λ k.
    need (proof_asked l) (λ proof.
    need (options_asked l) (λ options.
    need (inputs (l.flag (codes "joined")) l.names) (λ captures.
    Some (record {
      sdp = sdp;
      media = m;
      kind = k;
      proof = proof;
      options = options;
      captures = captures;
      joined = l.flag (codes "joined");
    })))))))

-- the options and flags of `verify-report`
abbrev pub report_sorts : List Sort
report_sorts = takes
    (codes "sdp" ∷ codes "report" ∷ codes "tai" ∷ codes "delay" ∷ codes "media" ∷ [])
    (codes "joined" ∷ codes "seq16" ∷ [])

-- the job of `verify-report`
abbrev pub report_asked : Stands → Option ReportJob
report_asked l =
    need (given (codes "sdp") l file_name) (λ sdp.
    need (given (codes "report") l file_name) (λ rep.
    need (options_asked l) (λ options.
    need (only_media (l.value (codes "media"))) (λ m.
    need (file_names 16 l.names) (λ captures.
    Some (record {
      sdp = sdp;
      report = rep;
      options = options;
      captures = captures;
      joined = l.flag (codes "joined");
      media = m;
    }))))))

-- the options and flags of `selftest`
abbrev pub self_test_sorts : List Sort
self_test_sorts = takes (codes "workers" ∷ []) []

-- the job of `selftest`; the positional argument is the number of frames
abbrev pub self_test_asked : Stands → Option SelfTestJob
self_test_asked l =
    need (need (sole l.names) (number 2 20000)) (λ frames.
    need (test_workers (l.value (codes "workers"))) (λ workers.
    Some (record { frames = frames; workers = workers })))

-- the flow in the job of `window`, `shape` or `series`
abbrev pub flow_asked : Stands → Option FlowJob
flow_asked l =
    need (given (codes "sdp") l file_name) (λ sdp.
    need (given (codes "media") l media) (λ m.
    need (options_asked l) (λ options.
    need (inputs (l.flag (codes "joined")) l.names) (λ captures.
    Some (record {
      sdp = sdp;
      media = m;
      options = options;
      captures = captures;
      joined = l.flag (codes "joined");
    })))))

-- the options and flags of `window`
abbrev pub window_sorts : List Sort
window_sorts = takes
    (codes "sdp" ∷ codes "media" ∷ codes "tai" ∷ codes "delay" ∷ [])
    (codes "joined" ∷ codes "seq16" ∷ [])

-- the options and flags of `shape`
abbrev pub shape_sorts : List Sort
shape_sorts = takes
    (codes "sdp" ∷ codes "media" ∷ codes "type" ∷ codes "tai" ∷ codes "delay" ∷ [])
    (codes "list" ∷ codes "joined" ∷ codes "seq16" ∷ [])

-- the job of `shape`
abbrev pub shape_asked : Stands → Option ShapeJob
shape_asked l =
    need (flow_asked l) (λ flow.
    need (given (codes "type") l kind_named) (λ k.
    Some (record { flow = flow; kind = k; list = l.flag (codes "list") })))

-- the options and flags of `skew`
abbrev pub skew_sorts : List Sort
skew_sorts = takes (codes "sdp" ∷ codes "media" ∷ codes "pair" ∷ []) []

-- the job of `skew`
abbrev pub skew_asked : Stands → Option SkewJob
skew_asked l =
    need (given (codes "sdp") l file_name) (λ sdp.
    need (given (codes "media") l media) (λ first.
    need (given (codes "pair") l media) (λ second.
    need (file_names 2 l.names) (λ captures.
    Some (record { sdp = sdp; media = first; pair = second; captures = captures })))))

-- the options and flags of `scan`
abbrev pub scan_sorts : List Sort
scan_sorts = takes [] (codes "json" ∷ codes "draft" ∷ [])

-- the job of `scan`
abbrev pub scan_asked : Stands → Option ScanJob
scan_asked l =
    need (scan_form (l.flag (codes "json")) (l.flag (codes "draft"))) (λ printed.
    need (need (sole l.names) file_name) (λ capture.
    Some (record { capture = capture; form = printed })))

-- the options and flags of `measure` and of `page`
abbrev pub capture_sorts : List Sort
capture_sorts = takes
    (codes "sdp" ∷ codes "tai" ∷ codes "delay" ∷ codes "media" ∷ [])
    (codes "joined" ∷ codes "seq16" ∷ [])

-- the job of `measure` or `page`, and the flows of `explain` or `watch`
abbrev pub capture_asked : Stands → Option CaptureJob
capture_asked l =
    need (given (codes "sdp") l file_name) (λ sdp.
    need (options_asked l) (λ options.
    need (only_media (l.value (codes "media"))) (λ m.
    need (inputs (l.flag (codes "joined")) l.names) (λ captures.
    Some (record {
      sdp = sdp;
      options = options;
      captures = captures;
      joined = l.flag (codes "joined");
      media = m;
    })))))

-- the options and flags of `explain`
abbrev pub explain_sorts : List Sort
explain_sorts = takes
    (codes "sdp" ∷ codes "tai" ∷ codes "delay" ∷ codes "media" ∷ [])
    (codes "json" ∷ codes "joined" ∷ codes "seq16" ∷ [])

-- the job of `explain`
abbrev pub explain_asked : Stands → Option ExplainJob
explain_asked l =
    need (capture_asked l) (λ flows. Some (record { flows = flows; json = l.flag (codes "json") }))

-- the options and flags of `watch`
abbrev pub watch_sorts : List Sort
watch_sorts = takes
    (codes "sdp" ∷ codes "tai" ∷ codes "delay" ∷ codes "media" ∷ codes "every" ∷ [])
    (codes "joined" ∷ codes "seq16" ∷ codes "json" ∷ [])

-- the job of `watch`
abbrev pub watch_asked : Stands → Option WatchJob
watch_asked l =
    need (capture_asked l) (λ flows.
    need (every (l.value (codes "every"))) (λ frames.
    Some (record { flows = flows; every = frames; json = l.flag (codes "json") })))

-- the options and flags of `series`
abbrev pub series_sorts : List Sort
series_sorts = takes
    (codes "sdp" ∷ codes "media" ∷ codes "tai" ∷ codes "delay" ∷ [])
    (codes "frames" ∷ codes "joined" ∷ codes "seq16" ∷ [])

-- the job of `series`
abbrev pub series_asked : Stands → Option SeriesJob
series_asked l =
    need (flow_asked l) (λ flow.
    Some (record { flow = flow; frames = l.flag (codes "frames") }))

-- the options and flags of `sdp`
abbrev pub sdp_sorts : List Sort
sdp_sorts = takes [] (codes "json" ∷ [])

-- the job of `sdp`
abbrev pub sdp_asked : Stands → Option SdpJob
sdp_asked l =
    need (need (sole l.names) file_name) (λ sdp. Some (record { sdp = sdp; json = l.flag (codes "json") }))

-- ---- the whole command line

-- the command of this name
abbrev pub command_named : Text → Option Command
command_named = chosen (
    (codes "check", command.Check) ∷ (codes "verify", command.Verify) ∷ (codes "verify-report", command.VerifyReport)
    ∷ (codes "selftest", command.SelfTest) ∷ (codes "window", command.Window) ∷ (codes "shape", command.Shape)
    ∷ (codes "skew", command.Skew)
    ∷ (codes "scan", command.Scan)
    ∷ (codes "measure", command.Measure)
    ∷ (codes "series", command.Series)
    ∷ (codes "sdp", command.Sdp)
    ∷ (codes "page", command.Page)
    ∷ (codes "explain", command.Explain)
    ∷ (codes "watch", command.Watch)
    ∷ [])

-- the options and flags of a command
abbrev pub sorts : Command → List Sort
sorts command.Check = check_sorts
sorts command.Verify = verify_sorts
sorts command.VerifyReport = report_sorts
sorts command.SelfTest = self_test_sorts
sorts command.Window = window_sorts
sorts command.Shape = shape_sorts
sorts command.Skew = skew_sorts
sorts command.Scan = scan_sorts
sorts command.Measure = capture_sorts
sorts command.Series = series_sorts
sorts command.Sdp = sdp_sorts
sorts command.Page = capture_sorts
sorts command.Explain = explain_sorts
sorts command.Watch = watch_sorts

-- the request of a command, from the contents of the command line
abbrev pub asked : Command → Stands → Option Request
asked command.Check l = option_map asks.Check (check_asked l)
asked command.Verify l = option_map asks.Verify (verify_asked l)
asked command.VerifyReport l = option_map asks.VerifyReport (report_asked l)
asked command.SelfTest l = option_map asks.SelfTest (self_test_asked l)
asked command.Window l = option_map asks.Window (flow_asked l)
asked command.Shape l = option_map asks.Shape (shape_asked l)
asked command.Skew l = option_map asks.Skew (skew_asked l)
asked command.Scan l = option_map asks.Scan (scan_asked l)
asked command.Measure l = option_map asks.Measure (capture_asked l)
asked command.Series l = option_map asks.Series (series_asked l)
asked command.Sdp l = option_map asks.Sdp (sdp_asked l)
asked command.Page l = option_map asks.Page (capture_asked l)
asked command.Explain l = option_map asks.Explain (explain_asked l)
asked command.Watch l = option_map asks.Watch (watch_asked l)

-- the request of the arguments after a command
abbrev pub asked_by : Command → List Text → Option Request
asked_by c words = need (line (sorts c) words) (λ ps. asked c (stands ps))

-- the request of the arguments after `help`: of all commands, or of one
abbrev pub help_asked : List Text → Option Request
help_asked [] = Some (asks.Help None)
help_asked (w ∷ []) = option_map (λ c. asks.Help (Some c)) (command_named w)
help_asked (w ∷ v ∷ rest) = None

-- the request of a command line; none if the command line is invalid. The first argument is the command, or `help`
abbrev pub request : List Text → Option Request
request [] = None
request (w ∷ words) =
    if bytes_eq w (codes "help") then help_asked words else need (command_named w) (λ c. asked_by c words)
