use Rattle.std.proofs.Common.{◌≡◌, ◌∙◌, ◌&&◌, Bool, true, false, refl, sym, ap, subst, [], map, inl, inr}
use Rattle.clap.specs.Words.{App, app_of, fault_of, found_of, kind_of, is_simple_and_free, matches_of, rows_of}
use Rattle.clap.specs.Kinds.{HasKind, IsAmong, Kinds}
use Rattle.timing_words.specs.Clap.{app}
use Rattle.timing_words.specs.Request.{sorts}
use Rattle.timing_words.proofs.Lines.{failed_none, passed_says}
use Rattle.timing_words.proofs.Says.{is_told}
use Rattle.timing_words.proofs.line.cut.Goals as goal

first_true : (a b : Bool) → (a && b) ≡ true → a ≡ true
first_true true b e = refl
first_true false b e = cc

pub returns-in-Ok-clause-taken : goal.returns-in-Ok-clause-taken
returns-in-Ok-clause-taken c =
    let words = map (λ s. s.now) c.args.words.now in
    let takes = sorts c.args.command in
    let is : app_of c.in_ok-parser.parser ≡ app takes = c.in_ok-parser.ensures in
    let free : is_simple_and_free (app_of c.in_ok-parser.parser) ≡ true = ap is_simple_and_free is ∙ (is_told c.args.command).0 in
    let none : fault_of (app takes) words ≡ [] = sym (ap (λ (a : App). fault_of a words) is) ∙ c.in-Ok.ensures.kinds free in
    let rows : rows_of (found_of c.in-Ok.matches) ≡ matches_of (app takes) words =
    (c.in-Ok.ensures.matches (first_true _ _ free)).0 ∙ ap (λ (a : App). matches_of a words) is in
    passed_says takes (is_told c.args.command) words c.requires.texts none (found_of c.in-Ok.matches) rows

pub returns-in-Err-clause-refused : goal.returns-in-Err-clause-refused
returns-in-Err-clause-refused c = λ usage.
    let words = map (λ s. s.now) c.args.words.now in
    let takes = sorts c.args.command in
    let is : app_of c.in_ok-parser.parser ≡ app takes = c.in_ok-parser.ensures in
    let free : is_simple_and_free (app_of c.in_ok-parser.parser) ≡ true = ap is_simple_and_free is ∙ (is_told c.args.command).0 in
    let fails : HasKind (fault_of (app takes) words) c.in-Err.error =
    subst (λ (a : App). HasKind (fault_of a words) c.in-Err.error) is (c.in-Err.ensures.kinds free) in
    elim fails [
      | inl memory ↦ absurd (c.fault_of.ensures usage memory)
      | inr among ↦ failed_none takes (is_told c.args.command) words c.requires.texts
          (λ none. subst (λ (k : Kinds). IsAmong (kind_of c.in-Err.error) k) none among)
    ]
