use Rattle.std.proofs.Common.{◌≡◌, ◌/◌, Some, slice_get, refl, sym, ◌∙◌}
use Rattle.std.specs.Vec.{with_item}
use Rattle.std.proofs.lemmas.List.{length-set}
use Rattle.std.proofs.lemmas.Option.{slice_get_read, slice_get_within}
use Rattle.path_skew.specs.Listed.{pages_of}
use Rattle.path_skew.specs.declared.pages.Pages.{Pages}
use Rattle.path_skew.proofs.Views.{if_ok-more, meets-written, same-meets}
use Rattle.path_skew.proofs.pages.Pages.meet.Goals as goal

-- the page of the number was written to
pub returns : goal.returns
returns c =
    let m = c.come_to.new.self in
    let place = c.come_to.new.near in
    let stands = c.in_ok-come_to.ensures.at in
    let here : slice_get m.pages.items place ≡ Some c.index_mut.result.now = slice_get_read m.pages.items _ place c.index_mut.result.now m.listed
    (slice_get_within (pages_of m.directory) place (c.args.number / 32) stands) c.index_mut.ensures.value
    in
    let n : Pages = record {
      directory = m.directory;
      pages = with_item m.pages place c.meet.new.self;
      alloc = m.alloc;
      listed = m.listed ∙ sym (length-set m.pages.items place c.meet.new.self);
    } in
    record {
      meets = if_ok-more c.meet.result _ _ (λ r met.
          same-meets _ _ _ c.args.number c.args.arrival r (c.in_ok-come_to.ensures.same c.args.side)
          (meets-written m n place (c.args.number / 32) c.index_mut.result.now c.meet.new.self m.directory.found stands here refl refl c.args.side
          c.args.number c.args.arrival r refl met)) c.meet.ensures.meets;
    }
