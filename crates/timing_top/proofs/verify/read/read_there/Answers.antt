use Rattle.std.proofs.Common.{rules, ◌≡◌, ◌<◌, ◌+◌, ◌∙◌, if◌then◌else◌, length, true, false, ap, subst, Ok}
use Rattle.std.specs.Prelude.{slice_range}
use Rattle.pcapng_reader.specs.Classic.{classic_texts}
use Rattle.timing_steps.specs.Answers.{AreThere}
use Rattle.timing_steps.proofs.Readings.{if_ok-map}
use Rattle.timing_top.specs.verify.Asked.{captures_of}
use Rattle.timing_top.specs.verify.Found.{ReadAs, key_at}
use Rattle.timing_top.proofs.lemmas.verify.Needing.{apart-names, joined-names, told-captures}
use Rattle.timing_top.proofs.verify.read.read_there.Goals as goal

pub returns-then-job-clause-tells : goal.returns-then-job-clause-tells
returns-then-job-clause-tells g c =
    let captures : c.as_slice-captures.result.now ≡ c.args.job.now.captures = search rules in
    let joined : c.args.job.now.joined ≡ true = search rules in
    let key = key_at c.args.file in
    let names : c.as_slice-captures.result.now ≡ captures_of c.args.job.now key = captures ∙ joined-names c.args.job.now key joined in
    record {
      told =
          told-captures (classic_texts (g.H.Shelf.text c.args.shelf.now)) (λ read t. ReadAs read.items t) c.as_slice-captures.result.now
          (captures_of c.args.job.now key) c.read_captures.result names c.read_captures.ensures.told;
      cause = search rules;
      there = if_ok-map c.read_captures.result _ (λ _. AreThere (g.H.Shelf.lacks c.args.shelf.now) (captures_of c.args.job.now key))
          (λ _ there. subst (AreThere (g.H.Shelf.lacks c.args.shelf.now)) names there) c.read_captures.ensures.there;
    }

pub returns-in-Ok-clause-tells : goal.returns-in-Ok-clause-tells
returns-in-Ok-clause-tells g c =
    let file = c.args.file in
    let job = c.args.job.now in
    let captures : c.as_slice-captures.result.now ≡ job.captures = search rules in
    let apart : job.joined ≡ false = search rules in
    let within : file < length job.captures = subst (λ b. file < (if b then 1 else length job.captures)) apart c.requires.within in
    let names : slice_range c.as_slice-captures.result.now file (file + 1) ≡ captures_of job (key_at file) =
    ap (λ l. slice_range l file (file + 1)) captures ∙ apart-names job (key_at file) apart within in
    record {
      told = told-captures (classic_texts (g.H.Shelf.text c.args.shelf.now)) (λ read t. ReadAs read.items t)
          (slice_range c.as_slice-captures.result.now file (file + 1)) (captures_of job (key_at file)) (Ok c.in-Ok.read) names c.in-Ok.ensures.told;
      cause = tt;
      there = subst (AreThere (g.H.Shelf.lacks c.args.shelf.now)) names c.in-Ok.ensures.there;
    }
