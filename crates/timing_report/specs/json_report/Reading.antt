-- The violations that are read back from a JSON report, each with its flow and run. A text in another form is refused.
-- Keys that are not named here are ignored, and of two equal keys in an object the last counts (RFC 8259 leaves that
-- open). Captures, media and runs count from 0 here; captures and media count from 1 in the report.
use Rattle.std.specs.Prelude.{◌≡◌, ◌≤◌, ℕ, ◌+◌, ◌-◌, ◌&&◌, nat_le, if◌then◌else◌, is_some, List, [], ◌∷◌, ◌++◌, length}
use Rattle.std.specs.Prelude.{Option, Some, None, codes, option_map, option_and_then, bytes_eq, IsUtf8}
use Rattle.serde_json.specs.Data.{Data, Items, no_items, item}
use Rattle.serde_json.specs.Events.{items_len}
use Rattle.serde_json.specs.Find.{get, as_array, as_object, as_str, as_number, as_u64}
use Rattle.serde_json.specs.Read.{read}
use Rattle.timing_base.specs.declared.fail.Broken.{Broken}
use Rattle.timing_base.specs.declared.fail.Broken.TheVariants.{Bucket, Over, Empty}
use Rattle.timing_base.specs.declared.fail.FailProof.{FailProof}
use Rattle.timing_base.specs.declared.key.FlowKey.{FlowKey}
use Rattle.timing_base.specs.declared.media.Kind.{Kind}
use Rattle.timing_base.specs.declared.media.Kind.TheVariants.{N, NL, W}
use Rattle.timing_report.specs.declared.json_report.reading.ReportProof.{ReportProof}

-- a number written in digits alone, without sign, point or exponent; below 2^64
abbrev pub whole_number : Data → Option ℕ
whole_number d = option_and_then as_u64 (as_number d)

-- a position in the report, from 1 to `most`, as a position from 0
abbrev pub place_up_to : ℕ → Data → Option ℕ
place_up_to most d = option_and_then (λ n. if nat_le 1 n && nat_le n most then Some (n - 1) else None) (whole_number d)

-- the number of a member; none if there is no such member
abbrev pub number_in : List ℕ → Data → Option ℕ
number_in key d = option_and_then whole_number (get key d)

-- the position that a member gives, as a position from 0
abbrev pub place_in : List ℕ → ℕ → Data → Option ℕ
place_in key most d = option_and_then (place_up_to most) (get key d)

-- the text of a member
abbrev pub text_in : List ℕ → Data → Option (List ℕ)
text_in key d = option_and_then as_str (get key d)

-- the value of the first choice with this name
abbrev pub named : {X : Type 0} → List ℕ → List (List ℕ × X) → Option X
named text [] = None
named text (choice ∷ rest) = if bytes_eq text choice.0 then Some choice.1 else named text rest

-- the sender type with this name
abbrev pub kind_named : List ℕ → Option Kind
kind_named text = named text ((codes "N", N) ∷ (codes "NL", NL) ∷ (codes "W", W) ∷ [])

-- the model with this name
abbrev pub model_named : List ℕ → Option Broken
model_named text = named text ((codes "Bucket", Bucket) ∷ (codes "Over", Over) ∷ (codes "Empty", Empty) ∷ [])

-- the value that is read from a member; `missing` if the member is absent
abbrev pub where_present : {X : Type 0} → X → (Data → Option X) → Option Data → Option X
where_present missing reads None = Some missing
where_present missing reads (Some d) = reads d

-- the violation in an object
abbrev pub proof_of : Data → Option FailProof
proof_of d =
    option_and_then (λ model. option_and_then (λ from. option_and_then (λ to. option_and_then (λ count.
    option_map (λ limit. record { model = model; from = from; to = to; count = count; limit = limit })
    (number_in (codes "limit") d)) (number_in (codes "count") d)) (number_in (codes "to") d))
    (number_in (codes "from") d))
    (option_and_then model_named (text_in (codes "model") d))

-- the violation of a type, if it has one
abbrev pub proof_in : Data → Option (Option FailProof)
proof_in d = where_present None (λ p. option_map Some (proof_of p)) (get (codes "proof") d)

-- a type, and its violation, if it has one
abbrev pub type_of : Data → Option (Kind × Option FailProof)
type_of d = option_and_then (λ kind. option_map (λ proof. (kind, proof)) (proof_in d))
    (option_and_then kind_named (text_in (codes "type") d))

-- the violation of a type as an entry of the list that is read
abbrev pub told : FlowKey → ℕ → Kind → Option FailProof → List ReportProof
told key run kind None = []
told key run kind (Some proof) = record { key = key; run = run; kind = kind; proof = proof } ∷ []

-- the violations in an array of types
abbrev pub types_from : FlowKey → ℕ → Items → Option (List ReportProof)
types_from key run no_items = Some []
types_from key run (item d ds) =
    option_and_then (λ t. option_map (λ more. told key run t.0 t.1 ++ more) (types_from key run ds)) (type_of d)

-- the violations in the types of a flow or of a run
abbrev pub types_in : FlowKey → ℕ → Data → Option (List ReportProof)
types_in key run d =
    where_present [] (λ types. option_and_then (types_from key run) (as_array types)) (get (codes "types") d)

-- the violations of a run, which has to be an object
abbrev pub run_of : FlowKey → ℕ → Data → Option (List ReportProof)
run_of key run d = if is_some (as_object d) then types_in key run d else None

-- the violations in an array of runs, the first of which has number `run`
abbrev pub runs_from : FlowKey → ℕ → Items → Option (List ReportProof)
runs_from key run no_items = Some []
runs_from key run (item d ds) =
    option_and_then (λ here. option_map (λ more. here ++ more) (runs_from key (run + 1) ds)) (run_of key run d)

-- the violations in an array of runs, at most 1,025
abbrev pub runs_of : FlowKey → Items → Option (List ReportProof)
runs_of key runs = if nat_le (items_len runs) 1025 then runs_from key 0 runs else None

-- the violations in the runs of a flow
abbrev pub runs_in : FlowKey → Data → Option (List ReportProof)
runs_in key d = where_present [] (λ runs. option_and_then (runs_of key) (as_array runs)) (get (codes "runs") d)

-- the flow that an object names: one of 64 media of one of 16 captures
abbrev pub key_of : Data → Option FlowKey
key_of d = option_and_then (λ file. option_map (λ media. record { file = file; media = media })
    (place_in (codes "media") 64 d)) (place_in (codes "file") 16 d)

-- the violations of a flow: those in its own types, as of run 0, and then those in its runs
abbrev pub flow_of : Data → Option (List ReportProof)
flow_of d = option_and_then (λ key. option_and_then (λ own. option_map (λ later. own ++ later) (runs_in key d))
    (types_in key 0 d)) (key_of d)

-- the violations in an array of flows
abbrev pub flows_from : Items → Option (List ReportProof)
flows_from no_items = Some []
flows_from (item d ds) = option_and_then (λ here. option_map (λ more. here ++ more) (flows_from ds)) (flow_of d)

-- the violations in a report
abbrev pub report_of : Data → Option (List ReportProof)
report_of d = option_and_then flows_from (option_and_then as_array (get (codes "flows") d))

-- the bytes are a report with these violations: at most 16,777,216 bytes, in UTF-8, of one JSON value
pub record IsReport (bytes : List ℕ) (proofs : List ReportProof) : Type 0 where
  pub few : length bytes ≤ 16777216
  pub utf8 : IsUtf8 bytes
  pub tells : option_and_then report_of (read bytes) ≡ Some proofs
