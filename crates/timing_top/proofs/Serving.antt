-- What the run of a command is to the request that asks for it.
use Rattle.std.proofs.Common.{◌≡◌, ◌≤◌, Bool, true, false, [], Some, None, Option, refl, ap, sym, subst, inl, inr}
use Rattle.std.proofs.lemmas.Bool.{false≢true}
use Rattle.std.specs.Prelude.{Ok, Err, not}
use Rattle.timing_words.specs.declared.request.Request.{Request}
use Rattle.timing_words.specs.declared.request.Request.TheVariants as request
use Rattle.timing_report.specs.declared.status.Status.{Status}
use Rattle.timing_report.specs.declared.status.Status.TheVariants as status
use Rattle.timing_steps.specs.Answers.{Answer, Inputs, silent}
use Rattle.timing_steps.specs.Ran.{IsAnswered, Leaves, Output, Ran, TellsLine}
use Rattle.timing_steps.specs.declared.failure.Failure.TheVariants as failure
use Rattle.timing_steps.proofs.Endings.{kept-none}
use Rattle.timing_top.specs.Asked.{Follows, InputRose}
use Rattle.timing_top.specs.Runs.{Begins, RanAs, RunBy, prints_whole, streams_of}

-- what a request asked for was run
pub serves : (asked run : Request) (i : Inputs) (o e : Output) (ends : Status) → asked ≡ run → RanAs (Some run) i o e ends → RanAs (Some asked) i o e ends
serves asked run i o e ends is ran = subst (λ r. RanAs (Some r) i o e ends) (sym is) ran

-- words that are no request
refused-words : (i : Inputs) (o e : Output) (ends : Status) (answer : Answer) → answer ≡ silent status.Usage
    → Leaves o (Ok answer) ends → TellsLine e ends → o.before ≤ o.now → e.before ≤ e.now → Ran (Follows None i) (InputRose None i) o e ends
refused-words i o e ends answer is printed told later_out later_err = record {
  outcome = Ok answer;
  follows = inr (answer, refl, is);
  cause = subst IsAnswered (sym (ap (λ (a : Answer). a.status) is)) tt;
  printed = printed;
  told = told;
  later_out = later_out;
  later_err = later_err;
}

pub refuses-words : (asked : Option Request) (i : Inputs) (o e : Output) (ends : Status) (answer : Answer) → asked ≡ None → answer ≡ silent status.Usage
    → Leaves o (Ok answer) ends → TellsLine e ends → o.before ≤ o.now → e.before ≤ e.now → RanAs asked i o e ends
refuses-words asked i o e ends answer none is printed told later_out later_err =
    subst (λ (a : Option Request). RanAs a i o e ends) (sym none) (refused-words i o e ends answer is printed told later_out later_err)

-- memory ran out, with nothing printed
record Lacks (o e : Output) (ends : Status) : Type 0 where
  printed : Leaves o (Err failure.OutOfMemory) ends
  told : TellsLine e ends
  later_out : o.before ≤ o.now
  later_err : e.before ≤ e.now

-- whatever is asked, memory may run out
follows-memory : (asked : Option Request) (i : Inputs) → Follows asked i (Err failure.OutOfMemory)
follows-memory None i = inl refl
follows-memory (Some (request.VerifyReport job)) i = inl refl
follows-memory (Some (request.SelfTest job)) i = inl refl
follows-memory (Some (request.Scan job)) i = inl refl
follows-memory (Some (request.Sdp job)) i = inl refl
follows-memory (Some (request.Help named)) i = inl refl
follows-memory (Some command) i = inl refl

-- and nothing may be printed
begins-none : (asked : Option Request) (i : Inputs) → Begins asked i []
begins-none None i = refl
begins-none (Some asked) i = λ sdp media is reads texts told. inl refl

memory-runs : (streams : Bool) (asked : Option Request) (i : Inputs) (o e : Output) (ends : Status) → Lacks o e ends → RunBy streams asked i o e ends
memory-runs true asked i o e ends h = record {
  outcome = Err failure.OutOfMemory;
  follows = inr (follows-memory asked i);
  cause = tt;
  printed = (h.printed.0, [], kept-none o.old o.new h.printed.1, begins-none asked i);
  told = h.told;
  later_out = h.later_out;
  later_err = h.later_err;
}
memory-runs false asked i o e ends h = record {
  outcome = Err failure.OutOfMemory;
  follows = follows-memory asked i;
  cause = tt;
  printed = h.printed;
  told = h.told;
  later_out = h.later_out;
  later_err = h.later_err;
}

pub lacks-memory : (asked : Option Request) (i : Inputs) (o e : Output) (ends : Status)
    → Leaves o (Err failure.OutOfMemory) ends → TellsLine e ends → o.before ≤ o.now → e.before ≤ e.now → RanAs asked i o e ends
lacks-memory asked i o e ends printed told later_out later_err =
    memory-runs (streams_of asked) asked i o e ends (record { printed = printed; told = told; later_out = later_out; later_err = later_err })

-- what isn't `series` is printed whole
pub runs-whole : (asked : Option Request) (i : Inputs) (o e : Output) (ends : Status) → prints_whole asked ≡ true → RanAs asked i o e ends
    → Ran (Follows asked i) (InputRose asked i) o e ends
runs-whole asked i o e ends whole ran = subst (λ b. RunBy b asked i o e ends) (is-false (streams_of asked) whole) ran
  where
    is-false : (b : Bool) → not b ≡ true → b ≡ false
    is-false true h = absurd (false≢true h)
    is-false false h = refl
