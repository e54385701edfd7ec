use Rattle.std.proofs.Common.{◌≡◌, ap, ◌∙◌, ◌++◌, ◌∷◌, [], length, arith}
use Rattle.std.proofs.lemmas.List.{length_push}
use Rattle.path_skew.specs.Listed.{pages_of}
use Rattle.path_skew.specs.declared.pages.Pages.{Pages}
use Rattle.path_skew.proofs.Searches.{entered-last}
use Rattle.path_skew.proofs.Views.{same-opened_page}
use Rattle.path_skew.proofs.pages.Pages.turn.Goals as goal

-- a page was opened
pub returns-in_ok-push-clause-same : goal.returns-in_ok-push-clause-same
returns-in_ok-push-clause-same c =
    let m = c.args.self.now in
    let last = entered-last (pages_of m.directory) (pages_of c.enter.new.self) c.args.page c.in_ok-place.place c.in_ok-place.ensures.enters
    (omega (arith, c.if-place-len.true, c.len.ensures, c.reserve.ensures.len, m.pages.ok.0, m.listed)) in
    let pushed : c.push.new.self.items ≡ m.pages.items ++ c.new.result ∷ [] =
    c.in_ok-push.ensures.items ∙ ap (λ xs. xs ++ c.new.result ∷ []) c.reserve.ensures.items
    in
    let n : Pages = record {
      directory = c.enter.new.self;
      pages = c.push.new.self;
      alloc = m.alloc;
      listed = omega (arith, ap length last, ap length pushed, length_push (pages_of m.directory) c.args.page, length_push m.pages.items c.new.result, m.listed);
    } in
    same-opened_page m n c.args.page c.new.result c.enter.new.self.found m.listed last pushed c.new.ensures
