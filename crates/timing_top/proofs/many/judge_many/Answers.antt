use Rattle.std.proofs.Common.{◌≡◌, ◌<◌, ℕ, List, length, map, slice_index_or, sym, ap, subst, ◌∙◌, refl, arith, Option, Some}
use Rattle.std.proofs.lemmas.List.{length-map}
use Rattle.timing_base.specs.Keys.{keys_of}
use Rattle.timing_base.specs.declared.capture.FileNote.{FileNote}
use Rattle.timing_base.specs.declared.capture.FileNote.TheVariants.{Refused}
use Rattle.timing_base.specs.declared.capture.PcapFault.TheVariants.{ReadFault}
use Rattle.timing_base.specs.declared.row.Row.{Row}
use Rattle.fail_interval.specs.Found.{AreFound}
use Rattle.fail_interval.specs.Rows.{rows_over}
use Rattle.flow_worker.specs.crew.Judging.{AreTexts}
use Rattle.pcapng_reader.specs.Classic.{classic_texts}
use Rattle.pcapng_reader.specs.Sources.{faults_of, left_of, name_of}
use Rattle.timing_top.proofs.Crewing.{back-length, fetched-texts, keys-of_session, some-at, unread-rose}
use Rattle.timing_top.proofs.many.judge_many.Goals as goal

pub first_unread-requires : goal.first_unread-requires
first_unread-requires g c = record {
  few =
      let long = back-length (name_of g.H.Source.Source.name) (faults_of g.H.Source.Source.faults) c.args.sources.items c.in_ok-sources.field-0.notes.items
      c.in_ok-sources.field-0.sources.items c.in_ok-sources.ensures.back in
      omega (arith, long, c.requires.ready.few, ap length c.deref.ensures.value);
}

pub returns-in-Some-clause-judged : goal.returns-in-Some-clause-judged
returns-in-Some-clause-judged g c = record {
  told = tt;
  count = tt;
  of_session = tt;
  cause = λ names fetched.
      let notes = c.in_ok-sources.field-0.notes.items in
      let unread : (c.in-Some.number < length notes) × ((d : Option FileNote) → slice_index_or notes c.in-Some.number d ≡ Some (Refused ReadFault)) =
      subst (λ (l : List (Option FileNote)). (c.in-Some.number < length l)
      × ((d : Option FileNote) → slice_index_or l c.in-Some.number d ≡ Some (Refused ReadFault)))
      c.deref.ensures.value c.in-Some.ensures in (
        c.in-Some.number,
        refl,
        unread-rose (name_of g.H.Source.Source.name) (left_of g.H.Source.Source.left) (faults_of g.H.Source.Source.faults)
            (classic_texts (g.H.Shelf.text c.args.shelf.now)) (g.H.Shelf.faults c.args.shelf.now) (g.H.Shelf.faults c.give_back_all.new.shelf)
            names c.args.sources.items notes c.in_ok-sources.field-0.sources.items c.in-Some.number fetched c.in_ok-sources.ensures.back
            c.give_back_all.ensures.raised unread.0 unread.1,
      );
}

pub returns-in-Some-found-clause-judged : goal.returns-in-Some-found-clause-judged
returns-in-Some-found-clause-judged g c = record {
  told = λ names texts fetched told.
      some-at c.in_ok-sources.field-0.found c.in-Some-found.found
      (λ found. (read : List (List ℕ)) → AreTexts (left_of g.H.Source.Source.left) read c.args.sources.items
      → AreFound read (rows_over c.args.joined c.args.options c.args.media.now) found.notes.items found.rows.items)
      c.in-Some-found.is c.in_ok-sources.ensures.told texts
      (fetched-texts (name_of g.H.Source.Source.name) (left_of g.H.Source.Source.left) (faults_of g.H.Source.Source.faults)
      (classic_texts (g.H.Shelf.text c.args.shelf.now)) names texts c.args.sources.items fetched told);
  count =
      let notes = c.in-Some-found.found.notes.items in
      let ends = c.in_ok-sources.field-0.notes.items in
      sym (length-map notes (λ (n : FileNote). Some n))
      ∙ ap (λ (l : List (Option FileNote)). length l)
      (some-at c.in_ok-sources.field-0.found c.in-Some-found.found (λ found. map Some found.notes.items ≡ ends) c.in-Some-found.is
      c.in_ok-sources.ensures.notes)
      ∙ back-length (name_of g.H.Source.Source.name) (faults_of g.H.Source.Source.faults) c.args.sources.items ends c.in_ok-sources.field-0.sources.items
      c.in_ok-sources.ensures.back;
  of_session =
      keys-of_session c.args.joined (length c.args.sources.items) c.args.media.now c.in-Some-found.found.rows.items c.requires.ready.few
      (some-at c.in_ok-sources.field-0.found c.in-Some-found.found
      (λ found. map (λ (r : Row). r.key) found.rows.items ≡ keys_of c.args.joined (length c.args.sources.items) (length c.args.media.now))
      c.in-Some-found.is c.in_ok-sources.ensures.keys);
  cause = λ names fetched. tt;
}
