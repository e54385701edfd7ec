-- Lemmas on the text that comes at each stage, and on the bytes that follow.
use Rattle.std.proofs.Common.{refl, ◌≡◌, ◌≤◌, ◌<◌, ◌^◌, ◌⊎◌, inl, inr, lit≤, ℕ, true, false, List, [], ◌++◌, length, take, drop, sym, ap, ◌∙◌, arith}
use Rattle.std.proofs.Common.{append_assoc, append-nil}
use Rattle.std.proofs.lemmas.Bool.{cases_lt}
use Rattle.std.proofs.lemmas.Bool.Decides.{nat_tests}
use Rattle.std.proofs.lemmas.List.{take-append-drop, length-take}
use Rattle.std.specs.Prelude.{if◌then◌else◌}
use Rattle.pcap_reader.specs.WrittenHeads.{file_head}
use Rattle.pcapng_reader.specs.declared.block.Order.TheVariants.{Little}
use Rattle.pcapng_reader.specs.declared.block.Interface.{Interface}
use Rattle.pcapng_reader.specs.declared.stage.Stage.{Stage}
use Rattle.pcapng_reader.specs.declared.stage.Stage.TheVariants as stage
use Rattle.pcapng_reader.specs.declared.stage.Body.{Body}
use Rattle.pcapng_reader.specs.declared.stage.Found.{Found}
use Rattle.pcapng_reader.specs.declared.stage.Content.{Content}
use Rattle.pcapng_reader.specs.Classic.{Section, begins_section, no_section, blocks, classic}
use Rattle.pcapng_reader.specs.Converting.{content_given, options_text, after}
use Rattle.pcapng_reader.specs.Stages.{is_due}
use Rattle.pcapng_reader.specs.Texts.{text_by}
use Rattle.pcapng_reader.proofs.Numbers.{begins-front}

module _ (s : Section) (kept near far : List ℕ) where
  pub text-start : text_by stage.Start s kept near far ≡ (if begins_section near then file_head ++ blocks no_section near else far)
  unfolding text_by
  text-start = refl

  pub text-through : text_by stage.Through s kept near far ≡ kept ++ far
  unfolding text_by
  text-through = refl

  pub text-block : text_by stage.Block s kept near far ≡ kept ++ blocks s near
  unfolding text_by
  text-block = refl

  pub text-options : (b : Body) (f : Found) → text_by (stage.Options b f) s kept near far ≡ options_text b f s near
  unfolding text_by
  text-options b f = refl

  pub text-passing : (b : Body) (x : Content) → text_by (stage.Passing b x) s kept near far ≡ after b near (content_given x b.order kept s)
  unfolding text_by
  text-passing b x = refl

  pub text-over : text_by stage.Over s kept near far ≡ kept
  unfolding text_by
  text-over = refl

-- fewer than four bytes begin no section
pub begins-short : (b : List ℕ) → length b < 4 → begins_section b ≡ false
begins-short b h = grind (arith, nat_tests)

-- the bytes that count tell whether a section begins
pub begins-take : (n : ℕ) (b : List ℕ) → 4 ≤ n → begins_section (take n b) ≡ begins_section b
begins-take n b h =
    elim (cases_lt (length (take n b)) 4) as (λ _. begins_section (take n b) ≡ begins_section b) [
      | inl short ↦
          let few : length b < 4 = omega (arith, length-take n b) in
          begins-short (take n b) short ∙ sym (begins-short b few)
      | inr long ↦ sym (begins-front (take n b) (drop n b) long) ∙ ap begins_section (take-append-drop n b)
    ]

begins-true : (h r : List ℕ) → begins_section h ≡ true → begins_section (h ++ r) ≡ true
begins-true h r e =
    elim (cases_lt (length h) 4) as (λ _. begins_section (h ++ r) ≡ true) [
      | inl short ↦ let no : begins_section h ≡ false = begins-short h short in cc
      | inr long ↦ begins-front h r long ∙ e
    ]

begins-false : (h r : List ℕ) → begins_section h ≡ false → (4 ≤ length h) ⊎ (r ≡ []) → begins_section (h ++ r) ≡ false
begins-false h r e (inl long) = begins-front h r long ∙ e
begins-false h r e (inr none) = ap (λ l. begins_section (h ++ l)) none ∙ ap begins_section (append-nil h) ∙ e

-- before the first byte is read
pub text-new : (s : Section) (kept h left : List ℕ) → h ≡ [] → text_by stage.Start s kept (h ++ take (2 ^ 41) left) (h ++ left) ≡ classic left
unfolding text_by classic
text-new s kept h left e =
    ap (λ x. text_by stage.Start s kept (x ++ take (2 ^ 41) left) (x ++ left)) e
    ∙ ap (λ b. if b then file_head ++ blocks no_section (take (2 ^ 41) left) else left) (begins-take (2 ^ 41) left (lit≤ tt))

-- a section begins the file
pub text-begun : (st : Stage) (s : Section) (kept h r far : List ℕ) (is : List Interface) → st ≡ stage.Start → begins_section h ≡ true → kept ≡ file_head → is
    ≡ []
    → text_by stage.Block (record { order = Little; interfaces = is }) kept (h ++ r) far ≡ text_by st s kept (h ++ r) far
text-begun st s kept h r far is a e k n =
    ap (λ x. text_by stage.Block (record { order = Little; interfaces = x }) kept (h ++ r) far) n
    ∙ text-block no_section kept (h ++ r) far ∙ ap (λ l. l ++ blocks no_section (h ++ r)) k
    ∙ sym (ap (λ x. text_by x s kept (h ++ r) far) a ∙ text-start s kept (h ++ r) far ∙ ap (λ b. if b then file_head ++ blocks no_section (h ++ r) else far)
    (begins-true h r e))

-- no section begins it
pub text-handed : (st : Stage) (s : Section) (kept h k g r left near : List ℕ) → st ≡ stage.Start → begins_section h ≡ false → (4 ≤ length h) ⊎ (r ≡ []) → h ≡ k
    ++ g
    → text_by stage.Through s k near (g ++ left) ≡ text_by st s kept (h ++ r) (h ++ left)
text-handed st s kept h k g r left near a e w split =
    text-through s k near (g ++ left) ∙ sym (append_assoc k g left) ∙ ap (λ l. l ++ left) (sym split)
    ∙ sym (ap (λ x. text_by x s kept (h ++ r) (h ++ left)) a ∙ text-start s kept (h ++ r) (h ++ left) ∙ ap
    (λ b. if b then file_head ++ blocks no_section (h ++ r) else (h ++ left)) (begins-false h r e w))

-- what a file of another layout has left
pub text-at_through : (st : Stage) (s : Section) (kept near far : List ℕ) → st ≡ stage.Through → text_by st s kept near far ≡ kept ++ far
text-at_through st s kept near far e = ap (λ x. text_by x s kept near far) e ∙ text-through s kept near far

-- more of it is kept
pub text-handed_on : (st : Stage) (s : Section) (kept h k g left near near' : List ℕ) → st ≡ stage.Through → kept ≡ [] → h ≡ k ++ g
    → text_by st s k near' (g ++ left) ≡ text_by st s kept near (h ++ left)
text-handed_on st s kept h k g left near near' e n split =
    text-at_through st s k near' (g ++ left) e ∙ sym (append_assoc k g left) ∙ ap (λ l. l ++ left) (sym split) ∙ ap (λ l. l ++ (h ++ left)) (sym n)
    ∙ sym (text-at_through st s kept near (h ++ left) e)

-- where nothing is kept, the text of the blocks
pub text-at_block : (st : Stage) (s : Section) (kept near far : List ℕ) → st ≡ stage.Block → kept ≡ [] → text_by st s kept near far ≡ blocks s near
text-at_block st s kept near far e n = ap (λ x. text_by x s kept near far) e ∙ text-block s kept near far ∙ ap (λ l. l ++ blocks s near) n

-- in a block of which no byte is read any more
pub text-at_passing : (st : Stage) (s : Section) (kept near far : List ℕ) (b : Body) (x : Content) → st ≡ stage.Passing b x
    → text_by st s kept near far ≡ after b near (content_given x b.order kept s)
text-at_passing st s kept near far b x e = ap (λ y. text_by y s kept near far) e ∙ text-passing s kept near far b x

-- what is kept comes first, where it is to be given
pub text-due : (st : Stage) (s : Section) (kept near far : List ℕ) → is_due st ≡ true → text_by st s kept near far ≡ kept ++ text_by st s [] near far
unfolding text_by
text-due stage.Start s kept near far e = cc
text-due stage.Through s kept near far e = refl
text-due stage.Block s kept near far e = refl
text-due (stage.Options b f) s kept near far e = cc
text-due (stage.Passing b x) s kept near far e = cc
text-due stage.Over s kept near far e = sym (append-nil kept)

-- where all was given
pub text-at_over : (st : Stage) (s : Section) (kept near far : List ℕ) → st ≡ stage.Over → text_by st s kept near far ≡ kept
text-at_over st s kept near far e = ap (λ x. text_by x s kept near far) e ∙ text-over s kept near far
