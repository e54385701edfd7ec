use Rattle.std.proofs.Common.{◌≡◌, ◌∙◌, ap}
use Rattle.timing_words.specs.Request.{sorts}
use Rattle.usage_hints.specs.Options.{names_in, option_names}
use Rattle.usage_hints.proofs.Sorts.{names_same}
use Rattle.usage_hints.proofs.nearest.nearest_option.Goals as goal

pub returns : goal.returns
returns c =
    let same = names_same c.in_ok-choices.choices.items (sorts c.args.command) c.in_ok-choices.ensures in
    let e : names_in c.as_slice.result.now ≡ option_names c.args.command = ap names_in c.as_slice.ensures.value ∙ same in
    rw (← e) c.nearest_in.ensures
