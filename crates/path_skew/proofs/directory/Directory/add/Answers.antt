use Rattle.std.proofs.Common.{sym, subst, arith}
use Rattle.std.proofs.Math.Logic.{∥∥₁_map}
use Rattle.path_skew.specs.Search.{IsFound, IsLinked}
use Rattle.path_skew.proofs.Searches.{added-below, added-first}
use Rattle.path_skew.proofs.directory.Directory.add.Goals as goal

-- the page stands below an entry
pub invariant_of-self-then-end-place : goal.invariant_of-self-then-end-place
invariant_of-self-then-end-place c =
    let es = c.args.self.now.entries in
    let added = added-below es.items c.push.new.self.items c.args.page c.args.end.place c.args.end.digits c.in-Ok.link c.index.result.now c.with_below.result
    c.requires.end c.requires.other (omega (arith, es.ok.0, c.len-place.ensures, c.if-end-place.true)) c.in_ok-push.ensures.items c.index.ensures
    c.with_below.ensures (omega (arith, es.ok.0, c.len-place.ensures, c.in-Ok.ensures.1)) in
    record { linked = added.0 c.args.self.now.linked; found = ∥∥₁_map c.args.self.now.found added.1 }

pub returns-then-end-place-clause-pages : goal.returns-then-end-place-clause-pages
returns-then-end-place-clause-pages c =
    let es = c.args.self.now.entries in
    (added-below es.items c.push.new.self.items c.args.page c.args.end.place c.args.end.digits c.in-Ok.link c.index.result.now c.with_below.result
    c.requires.end c.requires.other (omega (arith, es.ok.0, c.len-place.ensures, c.if-end-place.true)) c.in_ok-push.ensures.items c.index.ensures
    c.with_below.ensures (omega (arith, es.ok.0, c.len-place.ensures, c.in-Ok.ensures.1))).2

-- or it is the first
pub invariant_of-self-else-end-place : goal.invariant_of-self-else-end-place
invariant_of-self-else-end-place c =
    let es = c.args.self.now.entries in
    let added = added-first es.items c.push.new.self.items c.args.page c.args.end.place c.args.end.digits c.args.self.now.linked c.requires.end
    (omega (arith, es.ok.0, c.len-place.ensures, c.if-end-place.false)) c.in_ok-push.ensures.items in
    record { linked = added.0; found = ∥∥₁_map c.args.self.now.found (λ _. added.1) }

-- or there was no memory
pub invariant_of-self : goal.invariant_of-self
invariant_of-self c =
    let same = sym c.in_err-push.ensures.items in
    record {
      linked = subst IsLinked same c.args.self.now.linked;
      found = subst (λ es. ∥ IsFound es ∥₁) same c.args.self.now.found;
    }
