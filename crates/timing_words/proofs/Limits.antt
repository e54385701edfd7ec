-- The jobs that words ask for are within their limits.
use Rattle.std.proofs.Common.{◌≡◌, ◌≤◌, ◌<◌, ◌-◌, ◌&&◌, Bool, true, false, refl, subst, List, [], ◌∷◌, length, Some, None, Option, ℕ, arith}
use Rattle.std.specs.Prelude.{codes, if◌then◌else◌, nat_le, option_map, IfSome}
use Rattle.std.specs.List.{list_all}
use Rattle.std.specs.Str.{bytes_eq}
use Rattle.std.proofs.lemmas.Bool.{leb-true}
use Rattle.timing_base.specs.Shifts.{FlowOptions, AreFlowOptions}
use Rattle.timing_base.specs.Jobs.{AreInputs, CaptureJob, CheckJob, FlowJob, IsCaptureJob, IsCheckJob, IsChoice, IsFlowJob, IsReportJob, IsSelfTestJob}
use Rattle.timing_base.specs.Jobs.{ExplainJob, IsEvery, IsSkewJob, IsVerifyJob, IsWatchJob, ReportJob, SelfTestJob, SeriesJob, ShapeJob}
use Rattle.timing_base.specs.Jobs.{SkewJob, VerifyJob, WatchJob}
use Rattle.timing_base.specs.Name.{is_file_name}
use Rattle.timing_words.specs.declared.request.Request.{Request}
use Rattle.timing_words.specs.declared.request.Request.TheVariants as asks
use Rattle.timing_words.specs.declared.command.Command.{Command}
use Rattle.timing_words.specs.declared.command.Command.TheVariants as command
use Rattle.timing_words.specs.Limits.{IsWithinLimits}
use Rattle.timing_words.specs.Line.{Stands, Text, line, stands}
use Rattle.timing_words.specs.Request.{asked, asked_by, capture_asked, check_asked, check_workers, command_named, explain_asked, file_name, file_names}
use Rattle.timing_words.specs.Request.{flow_asked, given, help_asked, kind_named, media, need, number, passing}
use Rattle.timing_words.specs.Request.{proof_asked, report_asked, request, scan_asked, sdp_asked, self_test_asked, series_asked, shape_asked, skew_asked}
use Rattle.timing_words.specs.Request.{delay, every, inputs, only_media, options_asked, sole, sorts, tai, test_workers, verify_asked, watch_asked, written}
use Rattle.timing_words.proofs.Checks.{both_true}

-- a step that was needed gave something
record Needed {A B : Type 0} (o : Option A) (f : A → Option B) (b : B) : Type 0 where
  a : A
  gave : o ≡ Some a
  rest : f a ≡ Some b

needed : {A B : Type 0} (o : Option A) (f : A → Option B) (b : B) → need o f ≡ Some b → Needed o f b
needed None f b e = cc
needed (Some a) f b e = record { a = a; gave = refl; rest = e }

passed : {A : Type 0} (b : Bool) (x y : A) → passing b x ≡ Some y → (b ≡ true) × (x ≡ y)
passed true x y e = (refl, cc)
passed false x y e = cc

same : {A : Type 0} (x y : A) → Some x ≡ Some y → x ≡ y
same x y e = cc

mapped : {A B : Type 0} (f : A → B) (o : Option A) (b : B) → option_map f o ≡ Some b → (a : A) × (o ≡ Some a) × (f a ≡ b)
mapped f None b e = cc
mapped f (Some a) b e = (a, refl, same (f a) b e)

-- ---- values

within : (low high : ℕ) (t : Text) (n : ℕ) → number low high t ≡ Some n → (low ≤ n) × (n ≤ high)
within low high t n e =
    let w = needed (written t) (λ m. passing (nat_le low m && nat_le m high) m) n e in
    let p = passed (nat_le low w.a && nat_le w.a high) w.a n w.rest in
    let k = both_true (nat_le low w.a) (nat_le w.a high) p.0 in
    subst (λ m. (low ≤ m) × (m ≤ high)) p.1 (leb-true low w.a k.0, leb-true w.a high k.1)

media-few : (t : Text) (m : ℕ) → media t ≡ Some m → m < 64
media-few t m e =
    let n = mapped (λ n. n - 1) (number 1 64 t) m e in
    let k = within 1 64 t n.0 n.1 in
    omega (arith, k.0, k.1, n.2)

only-few : (o : Option Text) (only : Option ℕ) → only_media o ≡ Some only → IsChoice only
only-few None only e = subst IsChoice (same None only e) tt
only-few (Some t) only e =
    let m = mapped (λ n. Some n) (media t) only e in
    subst IsChoice m.2 (media-few t m.0 m.1)

tai-most : (o : Option Text) (n : ℕ) → tai o ≡ Some n → n ≤ 1000
tai-most None n e = subst (λ m. m ≤ 1000) (same 0 n e) (omega arith)
tai-most (Some t) n e = (within 0 1000 t n e).1

delay-most : (o : Option Text) (n : ℕ) → delay o ≡ Some n → n ≤ 999999999
delay-most None n e = subst (λ m. m ≤ 999999999) (same 0 n e) (omega arith)
delay-most (Some t) n e = (within 0 999999999 t n e).1

options-within : (l : Stands) (options : FlowOptions) → options_asked l ≡ Some options → AreFlowOptions options
options-within l options e =
    let a = needed (tai (l.value (codes "tai"))) _ options e in
    let b = needed (delay (l.value (codes "delay"))) _ options a.rest in
    subst AreFlowOptions (same _ options b.rest) record {
      tai_most = tai-most (l.value (codes "tai")) a.a a.gave;
      delay_most = delay-most (l.value (codes "delay")) b.a b.gave;
    }

workers-few : (o : Option Text) (b : Bool) (n : ℕ) → check_workers o b ≡ Some n → n ≤ 16
workers-few None false n e = subst (λ m. m ≤ 16) (same 4 n e) (omega arith)
workers-few None true n e = subst (λ m. m ≤ 16) (same 0 n e) (omega arith)
workers-few (Some t) false n e = (within 1 16 t n e).1
workers-few (Some t) true n e = cc

testers-few : (o : Option Text) (n : ℕ) → test_workers o ≡ Some n → n ≤ 16
testers-few None n e = subst (λ m. m ≤ 16) (same 0 n e) (omega arith)
testers-few (Some t) n e = (within 1 16 t n e).1

names-few : (most : ℕ) (names captures : List Text) → file_names most names ≡ Some captures → (1 ≤ length captures) × (length captures ≤ most)
names-few most names captures e =
    let p = passed (nat_le 1 (length names) && (nat_le (length names) most && list_all is_file_name names)) names captures e in
    let k = both_true (nat_le 1 (length names)) _ p.0 in
    let l = both_true (nat_le (length names) most) (list_all is_file_name names) k.1 in
    subst (λ (c : List Text). (1 ≤ length c) × (length c ≤ most)) p.1 (leb-true 1 (length names) k.0, leb-true (length names) most l.0)

-- joined captures are up to 16, and else there is one
captures-most : (joined : Bool) (n : ℕ) → n ≤ (if joined then 16 else 1) → (n ≤ 16) × (joined ≡ false → n ≤ 1)
captures-most true n e = (e, λ h. cc)
captures-most false n e = (omega arith, λ h. e)

inputs-are : (joined : Bool) (names captures : List Text) → inputs joined names ≡ Some captures → AreInputs joined captures
inputs-are joined names captures e =
    let few = names-few (if joined then 16 else 1) names captures e in
    let most = captures-most joined (length captures) few.1 in
    record {
      captures_are = record { some = few.0; few = most.0 };
      alone = λ unjoined. let one = most.1 unjoined in omega (arith, one, few.0);
    }

-- ---- commands

check-within : (l : Stands) (job : CheckJob) → check_asked l ≡ Some job → IsCheckJob job
check-within l job e =
    let a = needed (given (codes "sdp") l file_name) _ job e in
    let b = needed (check_workers (l.value (codes "workers")) (l.flag (codes "serial"))) _ job a.rest in
    let c = needed (options_asked l) _ job b.rest in
    let d = needed (only_media (l.value (codes "media"))) _ job c.rest in
    let f = needed (file_names 16 l.names) _ job d.rest in
    let few = names-few 16 l.names f.a f.gave in
    subst IsCheckJob (same _ job f.rest) record {
      captures_are = record { some = few.0; few = few.1 };
      workers_few = workers-few (l.value (codes "workers")) (l.flag (codes "serial")) b.a b.gave;
      options_are = options-within l c.a c.gave;
      media_few = only-few (l.value (codes "media")) d.a d.gave;
    }

verify-within : (l : Stands) (job : VerifyJob) → verify_asked l ≡ Some job → IsVerifyJob job
verify-within l job e =
    let a = needed (given (codes "sdp") l file_name) _ job e in
    let b = needed (given (codes "media") l media) _ job a.rest in
    let c = needed (given (codes "type") l kind_named) _ job b.rest in
    let d = needed (proof_asked l) _ job c.rest in
    let f = needed (options_asked l) _ job d.rest in
    let g = needed (inputs (l.flag (codes "joined")) l.names) _ job f.rest in
    let m = needed (l.value (codes "media")) media b.a b.gave in
    subst IsVerifyJob (same _ job g.rest) record {
      media_few = media-few m.a b.a m.rest;
      options_are = options-within l f.a f.gave;
      inputs = inputs-are (l.flag (codes "joined")) l.names g.a g.gave;
    }

report-within : (l : Stands) (job : ReportJob) → report_asked l ≡ Some job → IsReportJob job
report-within l job e =
    let a = needed (given (codes "sdp") l file_name) _ job e in
    let b = needed (given (codes "report") l file_name) _ job a.rest in
    let c = needed (options_asked l) _ job b.rest in
    let d = needed (only_media (l.value (codes "media"))) _ job c.rest in
    let f = needed (file_names 16 l.names) _ job d.rest in
    let few = names-few 16 l.names f.a f.gave in
    subst IsReportJob (same _ job f.rest) record {
      options_are = options-within l c.a c.gave;
      captures_are = record { some = few.0; few = few.1 };
      media_few = only-few (l.value (codes "media")) d.a d.gave;
    }

self_test-within : (l : Stands) (job : SelfTestJob) → self_test_asked l ≡ Some job → IsSelfTestJob job
self_test-within l job e =
    let a = needed (need (sole l.names) (number 2 20000)) _ job e in
    let b = needed (test_workers (l.value (codes "workers"))) _ job a.rest in
    let c = needed (sole l.names) (number 2 20000) a.a a.gave in
    let frames = within 2 20000 c.a a.a c.rest in
    subst IsSelfTestJob (same _ job b.rest) record {
      frames_some = frames.0;
      frames_few = frames.1;
      workers_few = testers-few (l.value (codes "workers")) b.a b.gave;
    }

flow-within : (l : Stands) (job : FlowJob) → flow_asked l ≡ Some job → IsFlowJob job
flow-within l job e =
    let a = needed (given (codes "sdp") l file_name) _ job e in
    let b = needed (given (codes "media") l media) _ job a.rest in
    let c = needed (options_asked l) _ job b.rest in
    let d = needed (inputs (l.flag (codes "joined")) l.names) _ job c.rest in
    let m = needed (l.value (codes "media")) media b.a b.gave in
    subst IsFlowJob (same _ job d.rest) record {
      media_few = media-few m.a b.a m.rest;
      options_are = options-within l c.a c.gave;
      inputs = inputs-are (l.flag (codes "joined")) l.names d.a d.gave;
    }

shape-within : (l : Stands) (job : ShapeJob) → shape_asked l ≡ Some job → IsFlowJob job.flow
shape-within l job e =
    let a = needed (flow_asked l) _ job e in
    let b = needed (given (codes "type") l kind_named) _ job a.rest in
    subst (λ (j : ShapeJob). IsFlowJob j.flow) (same _ job b.rest) (flow-within l a.a a.gave)

skew-within : (l : Stands) (job : SkewJob) → skew_asked l ≡ Some job → IsSkewJob job
skew-within l job e =
    let a = needed (given (codes "sdp") l file_name) _ job e in
    let b = needed (given (codes "media") l media) _ job a.rest in
    let c = needed (given (codes "pair") l media) _ job b.rest in
    let d = needed (file_names 2 l.names) _ job c.rest in
    let m = needed (l.value (codes "media")) media b.a b.gave in
    let n = needed (l.value (codes "pair")) media c.a c.gave in
    let few = names-few 2 l.names d.a d.gave in
    subst IsSkewJob (same _ job d.rest)
    record { media_few = media-few m.a b.a m.rest; pair_few = media-few n.a c.a n.rest; some = few.0; few = few.1 }

series-within : (l : Stands) (job : SeriesJob) → series_asked l ≡ Some job → IsFlowJob job.flow
series-within l job e =
    let a = needed (flow_asked l) _ job e in
    subst (λ (j : SeriesJob). IsFlowJob j.flow) (same _ job a.rest) (flow-within l a.a a.gave)

capture-within : (l : Stands) (job : CaptureJob) → capture_asked l ≡ Some job → IsCaptureJob job
capture-within l job e =
    let a = needed (given (codes "sdp") l file_name) _ job e in
    let b = needed (options_asked l) _ job a.rest in
    let c = needed (only_media (l.value (codes "media"))) _ job b.rest in
    let d = needed (inputs (l.flag (codes "joined")) l.names) _ job c.rest in
    subst IsCaptureJob (same _ job d.rest) record {
      options_are = options-within l b.a b.gave;
      inputs = inputs-are (l.flag (codes "joined")) l.names d.a d.gave;
      media_few = only-few (l.value (codes "media")) c.a c.gave;
    }

explain-within : (l : Stands) (job : ExplainJob) → explain_asked l ≡ Some job → IsCaptureJob job.flows
explain-within l job e =
    let a = needed (capture_asked l) _ job e in
    subst (λ (j : ExplainJob). IsCaptureJob j.flows) (same _ job a.rest) (capture-within l a.a a.gave)

every-is : (o : Option Text) (found : Option ℕ) → every o ≡ Some found → IfSome found IsEvery
every-is None found e = subst (λ x. IfSome x IsEvery) (same None found e) tt
every-is (Some text) found e =
    let m = mapped (λ n. Some n) (number 1 1000000 text) found e in
    let r = within 1 1000000 text m.0 m.1 in
    subst (λ x. IfSome x IsEvery) m.2 record { some = r.0; few = r.1 }

watch-within : (l : Stands) (job : WatchJob) → watch_asked l ≡ Some job → IsWatchJob job
watch-within l job e =
    let a = needed (capture_asked l) _ job e in
    let b = needed (every (l.value (codes "every"))) _ job a.rest in
    subst IsWatchJob (same _ job b.rest)
    record { flows_are = capture-within l a.a a.gave; every_is = every-is (l.value (codes "every")) b.a b.gave }

-- ---- the whole line

asked-within : (c : Command) (l : Stands) (r : Request) → asked c l ≡ Some r → IsWithinLimits r
asked-within command.Check l r e =
    let m = mapped asks.Check (check_asked l) r e in
    subst IsWithinLimits m.2 (check-within l m.0 m.1)
asked-within command.Verify l r e =
    let m = mapped asks.Verify (verify_asked l) r e in
    subst IsWithinLimits m.2 (verify-within l m.0 m.1)
asked-within command.VerifyReport l r e =
    let m = mapped asks.VerifyReport (report_asked l) r e in
    subst IsWithinLimits m.2 (report-within l m.0 m.1)
asked-within command.SelfTest l r e =
    let m = mapped asks.SelfTest (self_test_asked l) r e in
    subst IsWithinLimits m.2 (self_test-within l m.0 m.1)
asked-within command.Window l r e =
    let m = mapped asks.Window (flow_asked l) r e in
    subst IsWithinLimits m.2 (flow-within l m.0 m.1)
asked-within command.Shape l r e =
    let m = mapped asks.Shape (shape_asked l) r e in
    subst IsWithinLimits m.2 (shape-within l m.0 m.1)
asked-within command.Skew l r e =
    let m = mapped asks.Skew (skew_asked l) r e in
    subst IsWithinLimits m.2 (skew-within l m.0 m.1)
asked-within command.Scan l r e =
    let m = mapped asks.Scan (scan_asked l) r e in
    subst IsWithinLimits m.2 tt
asked-within command.Measure l r e =
    let m = mapped asks.Measure (capture_asked l) r e in
    subst IsWithinLimits m.2 (capture-within l m.0 m.1)
asked-within command.Series l r e =
    let m = mapped asks.Series (series_asked l) r e in
    subst IsWithinLimits m.2 (series-within l m.0 m.1)
asked-within command.Sdp l r e =
    let m = mapped asks.Sdp (sdp_asked l) r e in
    subst IsWithinLimits m.2 tt
asked-within command.Page l r e =
    let m = mapped asks.Page (capture_asked l) r e in
    subst IsWithinLimits m.2 (capture-within l m.0 m.1)
asked-within command.Explain l r e =
    let m = mapped asks.Explain (explain_asked l) r e in
    subst IsWithinLimits m.2 (explain-within l m.0 m.1)
asked-within command.Watch l r e =
    let m = mapped asks.Watch (watch_asked l) r e in
    subst IsWithinLimits m.2 (watch-within l m.0 m.1)

by-within : (c : Command) (words : List Text) (r : Request) → asked_by c words ≡ Some r → IsWithinLimits r
by-within c words r e =
    let a = needed (line (sorts c) words) (λ ps. asked c (stands ps)) r e in
    asked-within c (stands a.a) r a.rest

help-within : (words : List Text) (r : Request) → help_asked words ≡ Some r → IsWithinLimits r
help-within [] r e = subst IsWithinLimits (same (asks.Help None) r e) tt
help-within (w ∷ []) r e =
    let m = mapped (λ c. asks.Help (Some c)) (command_named w) r e in
    subst IsWithinLimits m.2 tt
help-within (w ∷ v ∷ rest) r e = cc

either-within : (b : Bool) (w : Text) (words : List Text) (r : Request)
    → (if b then help_asked words else need (command_named w) (λ c. asked_by c words)) ≡ Some r → IsWithinLimits r
either-within true w words r e = help-within words r e
either-within false w words r e =
    let c = needed (command_named w) (λ c. asked_by c words) r e in
    by-within c.a words r c.rest

pub request-within : (words : List Text) (r : Request) → request words ≡ Some r → IsWithinLimits r
request-within [] r e = cc
request-within (w ∷ words) r e = either-within (bytes_eq w (codes "help")) w words r e
