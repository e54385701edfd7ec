-- The output of a run of a request, and its cause. `series` and `watch` print while they read; every other request
-- prints its answer once it is whole.
use Rattle.std.specs.Prelude.{◌≡◌, Bool, true, false, not, ℕ, List, [], Option, Some, None}
use Rattle.timing_words.specs.declared.request.Request.{Request}
use Rattle.timing_words.specs.declared.request.Request.TheVariants as request
use Rattle.timing_report.specs.declared.status.Status.{Status}
use Rattle.timing_steps.specs.Answers.{Inputs}
use Rattle.timing_steps.specs.Queries.{BeginsQuery}
use Rattle.timing_steps.specs.Ran.{Output, Ran}
use Rattle.timing_steps.specs.Streams.{Streams}
use Rattle.timing_top.specs.Asked.{Follows, InputRose, query_of}

-- the request prints while it reads: `series` and `watch`
abbrev pub streams_of : Option Request → Bool
streams_of (Some (request.Series job)) = true
streams_of (Some (request.Watch job)) = true
streams_of asked = false

-- the request prints its answer once it is whole: all but `series` and `watch`
abbrev pub prints_whole : Option Request → Bool
prints_whole asked = not (streams_of asked)

-- what may be printed of a request that prints while it reads, if its answer isn't printed whole
abbrev pub Begins : Option Request → Inputs → (front : List ℕ) → Type 0
Begins None i front = front ≡ []
Begins (Some asked) i front = BeginsQuery (query_of asked) i front

-- a run of a request that prints while it reads, or once its answer is whole
abbrev pub RunBy : (streams : Bool) → Option Request → Inputs → (o e : Output) → Status → Type 0
RunBy true asked i o e ends = Streams (Follows asked i) (Begins asked i) (InputRose asked i) o e ends
RunBy false asked i o e ends = Ran (Follows asked i) (InputRose asked i) o e ends

-- a run of a request on the inputs that it saw on its shelf
abbrev pub RanAs : Option Request → Inputs → (o e : Output) → Status → Type 0
RanAs asked i o e ends = RunBy (streams_of asked) asked i o e ends
