use Rattle.std.proofs.Common.{rules, ◌≡◌, ◌∙◌, sym, ap, refl, subst, length, []}
use Rattle.std.specs.Prelude.{slice_index_or}
use Rattle.std.proofs.lemmas.List.{get_or_read_under}
use Rattle.std.specs.Option.{option_map}
use Rattle.pcapng_reader.specs.Classic.{classic, classic_texts}
use Rattle.pcapng_reader.specs.Sources.{faults_of, left_of, name_of}
use Rattle.timing_steps.specs.Answers.{AreThere}
use Rattle.timing_steps.specs.Fetched.{AreFetched}
use Rattle.timing_steps.proofs.Fetches.{err-of, not-err, there-push, fetch-cause, fetched-push, take-next}
use Rattle.timing_steps.proofs.Seeing.{stays-then}
use Rattle.timing_steps.proofs.fetch.fetch_each.Goals as goal

pub returns-in-Err-clause-cause : goal.returns-in-Err-clause-cause
returns-in-Err-clause-cause g c =
    let named : slice_index_or c.args.names.now c.loop-number.number [] ≡ c.index-names-number.result =
    sym (get_or_read_under c.args.names.now c.loop-number.number (length c.args.names.now) c.index-names-number.result [] c.index-names-number.is (search rules)
    refl) in
    fetch-cause _ (g.H.Shelf.faults c.loop-number.shelf) _ _ c.loop-number.number _ c.as_str.result.now c.in-Err.fault _ (search rules) named
    c.as_str.ensures.text c.loop-number.invariant.stays.later
    (λ failed. c.fetch_classic.ensures.failed (err-of c.fetch_classic.result c.in-Err.fault c.in-Err.is failed)) c.of_input.ensures

pub loop-number-preserved : goal.loop-number-preserved
loop-number-preserved g c =
    let named : slice_index_or c.args.names.now c.loop-number.number [] ≡ c.index-names-number.result =
    sym (get_or_read_under c.args.names.now c.loop-number.number (length c.args.names.now) c.index-names-number.result [] c.index-names-number.is (search rules)
    refl) in
    let name : c.as_str.result.now ≡ slice_index_or c.args.names.now c.loop-number.number [] = c.as_str.ensures.text ∙ sym named in
    record {
      within = search rules;
      fetched =
          subst (λ names. AreFetched (name_of g.H.Source.Source.name) (left_of g.H.Source.Source.left) (faults_of g.H.Source.Source.faults)
          (classic_texts (g.H.Shelf.text c.args.shelf.now)) names c.push.new.self.items)
          (sym (take-next c.args.names.now c.loop-number.number (search rules)))
          (subst (AreFetched (name_of g.H.Source.Source.name) (left_of g.H.Source.Source.left) (faults_of g.H.Source.Source.faults)
          (classic_texts (g.H.Shelf.text c.args.shelf.now)) _) (sym c.in_default.ensures.items)
          (fetched-push _ _ _ _ _ _ _ c.in-Ok.source c.loop-number.invariant.fetched (c.in-Ok.ensures.named ∙ name)
          (c.in-Ok.ensures.whole ∙ ap (option_map classic) (c.loop-number.invariant.stays.texts _ ∙ ap (g.H.Shelf.text c.args.shelf.now) name))
          c.in-Ok.ensures.fresh));
      there =
          subst (AreThere (g.H.Shelf.lacks c.args.shelf.now)) (sym (take-next c.args.names.now c.loop-number.number (search rules)))
          (there-push (g.H.Shelf.lacks c.args.shelf.now) (g.H.Shelf.lacks c.loop-number.shelf) _ _ c.loop-number.invariant.there
          c.loop-number.invariant.stays.lacks
          (λ lacks. not-err c.fetch_classic.result c.in-Ok.source c.in-Ok.is
          (c.fetch_classic.ensures.missing (subst (g.H.Shelf.lacks c.loop-number.shelf) (sym name) lacks))));
      stays = stays-then g.H.Shelf.text g.H.Shelf.lacks g.H.Shelf.faults _ _ _ c.loop-number.invariant.stays c.fetch_classic.ensures.stays;
    }
