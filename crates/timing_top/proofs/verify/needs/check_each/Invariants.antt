use Rattle.std.proofs.Common.{◌≡◌}
use Rattle.std.specs.Prelude.{All, map, take}
use Rattle.timing_outside.specs.Shelves.{StaysAs}
use Rattle.pcapng_reader.specs.Classic.{classic_texts}
use Rattle.timing_top.specs.verify.Found.{AreServed, IsChecked}
use Rattle.timing_top.specs.declared.verify.checked.Checked.{Checked}
use Rattle.timing_top.proofs.verify.needs.check_each.Given as goal

abbrev pub invariant-loop-claim : goal.invariant-loop-claim
invariant-loop-claim g l = record {
  checked : All (IsChecked (classic_texts (g.H.Shelf.text l.fn.shelf)) (g.H.Shelf.lacks l.fn.shelf) l.job l.media) l.checked.items;
  claims : map (λ (c : Checked). c.claim) l.checked.items ≡ take l.claim-index l.claims;
  served : AreServed (classic_texts (g.H.Shelf.text l.fn.shelf)) (g.H.Shelf.lacks l.fn.shelf) l.job l.media l.claims l.reads.items;
  stays : StaysAs g.H.Shelf.text g.H.Shelf.lacks g.H.Shelf.faults l.fn.shelf l.shelf;
}
