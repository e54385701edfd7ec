-- Lemmas on the steps of a converter: each leaves the text that is still to be given.
use Rattle.std.proofs.Common.{refl, subst, ◌≡◌, ◌≤◌, ◌<◌, ◌+◌, ◌-◌, ◌^◌, inl, inr, ℕ, min}
use Rattle.std.proofs.Common.{Bool, true, false, List, [], ◌∷◌, ◌++◌, length, take, drop, None, Some}
use Rattle.std.proofs.Common.{sym, ap, ◌∙◌, arith, append-nil, append_assoc, length-append, length-drop}
use Rattle.std.proofs.Math.Seq.{take-append-add}
use Rattle.std.proofs.lemmas.Bool.{cases_lt}
use Rattle.std.proofs.lemmas.Bool.Decides.{nat_tests}
use Rattle.std.proofs.lemmas.List.{drop-append-le, take-append-le, length-take, drop-take, take-take, length-take-le, nil_from_length, take_all}
use Rattle.std.specs.Prelude.{◌==◌, ◌%◌, if◌then◌else◌, slice_get, Option}
use Rattle.pcap_reader.specs.WrittenHeads.{record_head}
use Rattle.pcapng_reader.specs.declared.block.Interface.{Interface}
use Rattle.pcapng_reader.specs.declared.block.Order.{Order}
use Rattle.pcapng_reader.specs.declared.block.Kind.{Kind}
use Rattle.pcapng_reader.specs.declared.block.Kind.TheVariants as kind
use Rattle.pcapng_reader.specs.declared.packet.Fate.{Fate}
use Rattle.pcapng_reader.specs.declared.packet.Fate.TheVariants as fate
use Rattle.pcapng_reader.specs.declared.packet.Whole.{Whole}
use Rattle.pcapng_reader.specs.declared.stage.Stage.{Stage}
use Rattle.pcapng_reader.specs.declared.stage.Stage.TheVariants as stage
use Rattle.pcapng_reader.specs.declared.stage.Body.{Body}
use Rattle.pcapng_reader.specs.declared.stage.Found.{Found}
use Rattle.pcapng_reader.specs.declared.stage.Content.{Content}
use Rattle.pcapng_reader.specs.declared.stage.Content.TheVariants as content
use Rattle.pcapng_reader.specs.declared.step.Step.{Step}
use Rattle.pcapng_reader.specs.declared.step.Step.TheVariants as step
use Rattle.pcapng_reader.specs.declared.converter.Converter.{Converter}
use Rattle.pcapng_reader.specs.declared.window.Window.{Window}
use Rattle.pcapng_reader.specs.Classic.{number, begins_section, order_of, kind_of, Section, Given, bare_head, broken, gives, options}
use Rattle.pcapng_reader.specs.Classic.{padded, interface_by, body_from, add_interface, content, is_length, blocks}
use Rattle.pcapng_reader.specs.Converting.{found_by, found_with, found_interface, fate_by, fate_given, content_given, options_text, after, head_text}
use Rattle.pcapng_reader.specs.Texts.{text_by, section_of, ahead, whole, text_of, work, HasRoom, Steps, Waits, IsHead, AtBlock, AtOption, Fills, Pours, Puts}
use Rattle.pcapng_reader.specs.Wholes.{IsWhole}
use Rattle.pcapng_reader.specs.Windows.{kept_bytes, held_bytes}
use Rattle.pcapng_reader.proofs.Numbers.{number-front, number-take}
use Rattle.pcapng_reader.proofs.Blocks.{blocks-head, head-short, head-whole, head-passes, after-broken, after-short, after-passes, total-least}
use Rattle.pcapng_reader.proofs.Options.{option_at, behind, then_found, options-none, options-end, options-past, found-more}
use Rattle.pcapng_reader.proofs.Packets.{packet-content, block-data}
use Rattle.std.specs.Option.{option_map}
use Rattle.std.specs.Io.KnownBytes.{Consumes, Keeps}
use Rattle.pcapng_reader.specs.Described.{list_of}
use Rattle.pcapng_reader.specs.Stages.{is_due, rank}
use Rattle.pcapng_reader.proofs.Texts.{text-at_block, text-at_passing, text-options, text-passing, text-due}

-- nothing is ahead but what is held, where the source has ended
pub ahead_end : (h : List ℕ) (n : ℕ) (left : List ℕ) → n ≡ 0 → h ++ take n left ≡ h
ahead_end h n left e = ap (λ k. h ++ take k left) e ∙ append-nil h

-- where more is wanted than is held
pub steps-waits : (old new : Converter) (answer : Step) → Waits old new answer → HasRoom old → 1 < work old
    → ((left : List ℕ) → old.budget ≡ 0 → text_of old left ≡ 0 ∷ []) → Steps old new answer
steps-waits old new step.Moved w room more cut = record {
  text = λ left. w.1 left ∙ sym (cut left w.0);
  tells = omega (arith, w.2);
  budget = w.3;
}
steps-waits old new step.Hungry w room more cut = record {
  text = λ left. ap (λ c. text_of c left) w.0;
  tells = (w.1, subst HasRoom (sym w.0) room);
  budget = ap (λ c. c.budget) w.0;
}
steps-waits old new step.Through w room more cut = absurd w
steps-waits old new step.Over w room more cut = absurd w

-- the file ends in a block whose length is known
pub head-cut : (c : Converter) (o : Order) (k : Kind) (total : ℕ) → IsHead o k total c → is_length k total ≡ true → length (held_bytes c.window) < total
    → (left : List ℕ) → c.budget ≡ 0 → text_of c left ≡ 0 ∷ []
head-cut c o k total is e m left z =
    is left ∙ ap (head_text o k total (section_of c)) (ahead_end (held_bytes c.window) c.budget left z) ∙ head-short o k total (section_of c)
    (held_bytes c.window) e m

-- a block of which more is wanted than is held
pub block-waits : (old new : Converter) (answer : Step) (o : Order) (k : Kind) (total : ℕ) → Waits old new answer → AtBlock o k total old
    → length (held_bytes old.window) ≤ 262172 → length (held_bytes old.window) < total → Steps old new answer
block-waits old new answer o k total waits at few short =
    steps-waits old new answer waits (omega (arith, few, ap length at.given)) (omega (arith, ap rank at.stage_is))
    (head-cut old o k total at.head at.total_is short)

-- the first bytes of a block are let go
pub steps-entered : (old new : Converter) (o : Order) (k : Kind) (total n rest : ℕ) (x : List ℕ → Given) → IsHead o k total old → is_length k total ≡ true
    → n + 4 ≤ total → n ≤ length (held_bytes old.window) → rest ≡ (total - 4) - n
    → ((left : List ℕ) → total ≤ length (ahead old left) → content k o (section_of old) (take total (ahead old left)) ≡ x left)
    → ((left : List ℕ) → text_of new left ≡ after (record { order = o; total = total; left = rest }) (drop n (ahead old left)) (x left))
    → work new < work old → new.budget ≡ old.budget → Steps old new step.Moved
steps-entered old new o k total n rest x is e m l left_is same text fewer budget = record {
  text = λ left.
      text left ∙ ap (λ b. after (record { order = o; total = total; left = b }) (drop n (ahead old left)) (x left)) left_is
      ∙ sym (is left ∙ head-passes o k total n (section_of old) (ahead old left) (x left) e m
      (omega (arith, length-append (held_bytes old.window) (take old.budget left))) (same left));
  tells = fewer;
  budget = budget;
}

-- what is ahead when the first held bytes are let go
pub ahead_pass : (n : ℕ) (h g r : List ℕ) → g ≡ drop n h → n ≤ length h → g ++ r ≡ drop n (h ++ r)
ahead_pass n h g r e l = ap (λ x. x ++ r) e ∙ sym (drop-append-le n h r l)

-- the second total length of a block, as it was read
pub closing-number : (b : Body) (n : ℕ) (seen h r : List ℕ) → n ≡ number b.order 4 0 seen → seen ≡ h → 4 ≤ length h → number b.order 4 0 (h ++ r) ≡ n
closing-number b n seen h r is same held = number-front b.order 4 0 h r held ∙ sym (is ∙ ap (number b.order 4 0) same)

other_number : (m n : ℕ) → (m ≡ n → ⊥) → (m == n) ≡ false
other_number m n h = grind (arith, nat_tests)

-- a block whose second total length isn't its first is broken
pub steps-unclosed : (old new : Converter) (b : Body) (x : Content) (n : ℕ) (seen : List ℕ) → old.stage ≡ stage.Passing b x → b.left ≡ 0
    → 4 ≤ length (held_bytes old.window) → n ≡ number b.order 4 0 seen → seen ≡ held_bytes old.window → (n ≡ b.total → ⊥)
    → ((left : List ℕ) → text_of new left ≡ bare_head 0 (2 ^ 32 - 1)) → work new ≡ 16 → new.budget ≡ old.budget → Steps old new step.Moved
steps-unclosed old new b x n seen at none held is same other text few budget = record {
  text = λ left.
      let r = take old.budget left in
      text left
      ∙ sym (text-at_passing old.stage (section_of old) (kept_bytes old.window) (ahead old left) (whole old left) b x at
      ∙ after-broken b (ahead old left) (content_given x b.order (kept_bytes old.window) (section_of old)) none
      (omega (arith, held, length-append (held_bytes old.window) r))
      (ap (λ k. k == b.total) (closing-number b n seen (held_bytes old.window) r is same held) ∙ other_number n b.total other));
  tells = omega (arith, few, ap rank at);
  budget = budget;
}

-- in a block of which no byte is read any more
pub text-passed : (st : Stage) (s : Section) (kept k h g r far : List ℕ) (n : ℕ) (b : Body) (x : Content) → st ≡ stage.Passing b x → k ≡ kept → g ≡ drop n h → n
    ≤ length h
    → text_by st s k (g ++ r) far ≡ after b (drop n (h ++ r)) (content_given x b.order kept s)
text-passed st s kept k h g r far n b x e same i l =
    ap (λ y. text_by y s k (g ++ r) far) e ∙ text-passing s k (g ++ r) far b x ∙ ap (λ a. after b a (content_given x b.order k s)) (ahead_pass n h g r i l)
    ∙ ap (λ y. after b (drop n (h ++ r)) (content_given x b.order y s)) same

-- a number of a block's head
pub number-held : (o : Order) (n p total : ℕ) (h r : List ℕ) → p + n ≤ length h → p + n ≤ total → total ≤ length (h ++ r) → number o n p (take total (h ++ r))
    ≡ number o n p h
number-held o n p total h r m l t = number-take o n p total (h ++ r) l t ∙ number-front o n p h r m

section_by : (o : Order) (s : Section) (kept : List ℕ) (b : Bool)
    → (if b then gives [] (record { order = o; interfaces = [] }) else broken) ≡ content_given (if b then content.Section else content.Broken) o kept s
section_by o s kept true = refl
section_by o s kept false = refl

-- what a section gives, by what is held of it
pub section-content : (o : Order) (s : Section) (kept : List ℕ) (total : ℕ) (h r : List ℕ) (x : Content) → 16 ≤ length h → 28 ≤ total
    → x ≡ (if number o 2 12 h == 1 then content.Section else content.Broken)
    → total ≤ length (h ++ r) → content kind.Section o s (take total (h ++ r)) ≡ content_given x o kept s
section-content o s kept total h r x m l e t =
    ap (λ n. if n == 1 then gives [] (record { order = o; interfaces = [] }) else broken) (number-held o 2 12 total h r (omega arith) (omega arith) t)
    ∙ section_by o s kept (number o 2 12 h == 1) ∙ ap (λ y. content_given y o kept s) (sym e)

interface-found : (o : Order) (link : ℕ) (os : Option _) → interface_by o link os ≡ found_by o (record { offset = None; link = link; resolution = None }) os
interface-found o link None = refl
interface-found o link (Some os) = refl

body-front : (total : ℕ) (a : List ℕ) → 20 ≤ total → total ≤ length a → body_from 16 (take total a) ≡ take ((total - 4) - 16) (drop 16 a)
body-front total a l t =
    let e : 16 + (total - 16) ≡ total = omega arith in
    ap (λ n. take ((n - 4) - 16) (drop 16 (take total a))) (length-take-le total a t)
    ∙ ap (λ k. take ((total - 4) - 16) (drop 16 (take k a))) (sym e) ∙ ap (take ((total - 4) - 16)) (drop-take 16 (total - 16) a)
    ∙ take-take ((total - 4) - 16) (total - 16) (drop 16 a) (omega arith)

-- what an interface's description gives
pub interface-content : (o : Order) (s : Section) (total rest : ℕ) (h r : List ℕ) (f : Found) → 16 ≤ length h → 20 ≤ total → rest ≡ (total - 4) - 16
    → f ≡ record { offset = None; link = number o 2 8 h; resolution = None } → total ≤ length (h ++ r)
    → content kind.Interface o s (take total (h ++ r)) ≡ add_interface s (found_by o f (options o (take rest (drop 16 (h ++ r)))))
interface-content o s total rest h r f m l k e t =
    let block = take total (h ++ r) in
    ap (λ n. add_interface s (interface_by o n (options o (body_from 16 block)))) (number-held o 2 8 total h r (omega arith) (omega arith) t)
    ∙ ap (λ b. add_interface s (interface_by o (number o 2 8 h) (options o b))) (body-front total (h ++ r) l t)
    ∙ ap (add_interface s) (interface-found o (number o 2 8 h) (options o (take ((total - 4) - 16) (drop 16 (h ++ r)))))
    ∙ ap (λ g. add_interface s (found_by o g (options o (take ((total - 4) - 16) (drop 16 (h ++ r)))))) (sym e)
    ∙ ap (λ n. add_interface s (found_by o f (options o (take n (drop 16 (h ++ r)))))) (sym k)

-- what a packet gives that is broken or late
pub packet-given : (o : Order) (s : Section) (total : ℕ) (h r : List ℕ) (f : Fate) → 28 ≤ length h → 32 ≤ total
    → fate_by (slice_get s.interfaces (number o 4 8 h)) o total h ≡ f
    → total ≤ length (h ++ r) → content kind.Packet o s (take total (h ++ r)) ≡ fate_given f s (take total (h ++ r))
packet-given o s total h r f m l e t = packet-content o s total h r m l t ∙ ap (λ g. fate_given g s (take total (h ++ r))) e

-- a packet without a record is entered, by its fate
pub steps-refused : (old new : Converter) (o : Order) (total : ℕ) (f : Fate) (given : Given) → AtBlock o kind.Packet total old
    → 28 ≤ length (held_bytes old.window)
    → fate_by (slice_get (list_of old.interfaces) (number o 4 8 (held_bytes old.window))) o total (held_bytes old.window) ≡ f
    → ((block : List ℕ) → fate_given f (section_of old) block ≡ given)
    → ((left : List ℕ) → text_of new left ≡ after (record { order = o; total = total; left = (total - 4) - 28 }) (drop 28 (ahead old left)) given)
    → work new < work old → new.budget ≡ old.budget → Steps old new step.Moved
steps-refused old new o total f given at held e is text fewer budget =
    let least : 32 ≤ total = total-least kind.Packet total at.total_is in
    steps-entered old new o kind.Packet total 28 ((total - 4) - 28) (λ left. given) at.head at.total_is (omega arith) held refl
    (λ left t. packet-given o (section_of old) total (held_bytes old.window) (take old.budget left) f held least e t ∙ is (take total (ahead old left)))
    text fewer budget

-- what a packet gives whose data are held
pub record-given : (o : Order) (s : Section) (total at len : ℕ) (h r kept : List ℕ) → 28 + len ≤ length h → 32 + len ≤ total
    → fate_by (slice_get s.interfaces (number o 4 8 h)) o total h ≡ fate.Record at len
    → kept ≡ record_head at len ++ take len (drop 28 h)
    → total ≤ length (h ++ r) → content kind.Packet o s (take total (h ++ r)) ≡ gives kept s
record-given o s total at len h r kept m l e k t =
    packet-given o s total h r (fate.Record at len) (omega arith) (omega arith) e t
    ∙ ap (λ b. gives (record_head at len ++ b) s) (block-data total len h r m l) ∙ ap (λ b. gives b s) (sym k)

-- the text at an option
pub text-at_option : (st : Stage) (s : Section) (kept near far : List ℕ) (b : Body) (f : Found) → st ≡ stage.Options b f
    → text_by st s kept near far ≡ after b near (add_interface s (found_by b.order f (options b.order (take b.left near))))
unfolding options_text
text-at_option st s kept near far b f e = ap (λ y. text_by y s kept near far) e ∙ text-options s kept near far b f

-- the text at an option, after another was let go
pub text-option_passed : (st : Stage) (s : Section) (kept h g r far : List ℕ) (n : ℕ) (b : Body) (f : Found) → st ≡ stage.Options b f → g ≡ drop n h → n
    ≤ length h
    → text_by st s kept (g ++ r) far ≡ options_text b f s (drop n (h ++ r))
text-option_passed st s kept h g r far n b f e i l =
    ap (λ y. text_by y s kept (g ++ r) far) e ∙ text-options s kept (g ++ r) far b f ∙ ap (options_text b f s) (ahead_pass n h g r i l)

-- the text at the first option
pub text-option_entered : (st : Stage) (s : Section) (kept h g r far : List ℕ) (n : ℕ) (b : Body) (f : Found) → st ≡ stage.Options b f → g ≡ drop n h → n
    ≤ length h
    → text_by st s kept (g ++ r) far ≡ after b (drop n (h ++ r)) (add_interface s (found_by b.order f (options b.order (take b.left (drop n (h ++ r))))))
unfolding options_text
text-option_entered st s kept h g r far n b f e i l = text-option_passed st s kept h g r far n b f e i l

-- the file ends among the options
pub option-cut : (st : Stage) (s : Section) (kept h left far : List ℕ) (n : ℕ) (b : Body) (f : Found) → st ≡ stage.Options b f → length h < b.left + 4 → n ≡ 0
    → text_by st s kept (h ++ take n left) far ≡ 0 ∷ []
option-cut st s kept h left far n b f e m z =
    text-at_option st s kept (h ++ take n left) far b f e
    ∙ ap (λ a. after b a (add_interface s (found_by b.order f (options b.order (take b.left (h ++ take n left)))))) (ahead_end h n left z)
    ∙ after-short b h _ m

-- an option of which more is wanted than is held
pub option-waits : (old new : Converter) (answer : Step) (b : Body) (f : Found) → Waits old new answer → old.stage ≡ stage.Options b f → kept_bytes old.window
    ≡ []
    → length (held_bytes old.window) ≤ 262172 → length (held_bytes old.window) < b.left + 4 → Steps old new answer
option-waits old new answer b f waits at given few short =
    steps-waits old new answer waits (omega (arith, few, ap length given)) (omega (arith, ap rank at))
    (λ left z. option-cut old.stage (section_of old) (kept_bytes old.window) (held_bytes old.window) left (whole old left) old.budget b f at short z)

-- what is left of an interface's description is passed over
pub steps-settled : (old new : Converter) (b : Body) (f : Found) (given : Given) → old.stage ≡ stage.Options b f
    → ((left : List ℕ) → add_interface (section_of old) (found_by b.order f (options b.order (take b.left (ahead old left)))) ≡ given)
    → ((left : List ℕ) → text_of new left ≡ after b (ahead old left) given) → work new < work old → new.budget ≡ old.budget → Steps old new step.Moved
steps-settled old new b f given at is text fewer budget = record {
  text = λ left.
      text left ∙ ap (after b (ahead old left)) (sym (is left))
      ∙ sym (text-at_option old.stage (section_of old) (kept_bytes old.window) (ahead old left) (whole old left) b f at);
  tells = fewer;
  budget = budget;
}

-- the bytes of an option with what pads them, as they are counted
pub option-count : (count left rounded size n : ℕ) → count ≡ min left (4 + rounded) → rounded ≡ padded size → size ≡ n → count ≡ min left (4 + padded n)
option-count count left rounded size n is round same = is ∙ ap (λ x. min left (4 + x)) (round ∙ ap padded same)

-- the value of an option, as it is cut out of what is looked at
pub option-value : (size n : ℕ) (seen h : List ℕ) → size ≡ n → seen ≡ h → take ((4 + size) - 4) (drop 4 seen) ≡ take n (drop 4 h)
option-value size n seen h same is =
    let bare : (4 + size) - 4 ≡ n = omega (arith, same) in
    ap (λ k. take k (drop 4 seen)) bare ∙ ap (λ x. take n (drop 4 x)) is

-- the fate of a packet, by what was looked at
pub fate-is : (items : List Interface) (o : Order) (total place : ℕ) (found : Option Interface) (f g : Fate) (seen again h : List ℕ)
    → found ≡ slice_get items place → place ≡ number o 4 8 seen → seen ≡ h → f ≡ fate_by found o total again → again ≡ h → f ≡ g
    → fate_by (slice_get items (number o 4 8 h)) o total h ≡ g
fate-is items o total place found f g seen again h found_is place_is seen_is f_is again_is is =
    sym (f_is ∙ ap (λ x. fate_by x o total again) (found_is ∙ ap (slice_get items) (place_is ∙ ap (number o 4 8) seen_is)) ∙ ap
    (fate_by (slice_get items (number o 4 8 h)) o total) again_is) ∙ is

-- numbers in the options that are left
number-left : (o : Order) (n p left : ℕ) (h r : List ℕ) → p + n ≤ left → p + n ≤ length h → number o n p (take left (h ++ r)) ≡ number o n p h
number-left o n p left h r l m =
    elim (cases_lt (length (h ++ r)) left) as (λ _. number o n p (take left (h ++ r)) ≡ number o n p h) [
      | inl short ↦ ap (number o n p) (take_all left (h ++ r) (omega arith)) ∙ number-front o n p h r m
      | inr long ↦ number-take o n p left (h ++ r) l long ∙ number-front o n p h r m
    ]

-- no option is left
pub options-over : (s : Section) (near : List ℕ) (b : Body) (f : Found) → b.left < 4
    → add_interface s (found_by b.order f (options b.order (take b.left near))) ≡ add_interface s (Some (found_interface f))
options-over s near b f l =
    ap (λ os. add_interface s (found_by b.order f os)) (options-none b.order (take b.left near) (omega (arith, length-take b.left near)))

-- the last option
pub options-last : (s : Section) (h r : List ℕ) (b : Body) (f : Found) → 4 ≤ length h → 4 ≤ b.left → number b.order 2 0 h ≡ 0
    → add_interface s (found_by b.order f (options b.order (take b.left (h ++ r)))) ≡ add_interface s (Some (found_interface f))
options-last s h r b f m l e =
    ap (λ os. add_interface s (found_by b.order f os))
    (options-end b.order (take b.left (h ++ r)) (number-left b.order 2 0 b.left h r (omega arith) (omega arith) ∙ e))

-- an option that passes the end
pub options-broken : (s : Section) (h r : List ℕ) (b : Body) (f : Found) → 4 ≤ length h → 4 ≤ b.left → 0 < number b.order 2 0 h → b.left < 4
    + number b.order 2 2 h
    → add_interface s (found_by b.order f (options b.order (take b.left (h ++ r)))) ≡ broken
options-broken s h r b f m l p q =
    let opts = take b.left (h ++ r) in
    let code : number b.order 2 0 opts ≡ number b.order 2 0 h = number-left b.order 2 0 b.left h r (omega arith) (omega arith) in
    let size : number b.order 2 2 opts ≡ number b.order 2 2 h = number-left b.order 2 2 b.left h r (omega arith) (omega arith) in
    ap (λ os. add_interface s (found_by b.order f os))
    (options-past b.order opts (omega (arith, length-take b.left (h ++ r), length-append h r)) (omega (arith, code))
    (omega (arith, size, length-take b.left (h ++ r))))

-- what is left of the options behind one
left-behind : (left n count : ℕ) (a : List ℕ) → count ≡ min left n → drop n (take left a) ≡ take (left - count) (drop count a)
left-behind left n count a e =
    elim (cases_lt n left) as (λ _. drop n (take left a) ≡ take (left - count) (drop count a)) [
      | inl less ↦
          let same : count ≡ n = omega (arith, e) in
          let sum : n + (left - n) ≡ left = omega arith in
          ap (λ k. drop n (take k a)) (sym sum) ∙ drop-take n (left - n) a ∙ ap (λ k. take (left - k) (drop k a)) (sym same)
      | inr more ↦
          let none : left - count ≡ 0 = omega (arith, e) in
          nil_from_length (drop n (take left a)) (omega (arith, length-drop n (take left a), length-take left a))
          ∙ ap (λ k. take k (drop count a)) (sym none)
    ]

-- the value of an option
option-held : (o : Order) (left : ℕ) (h r value : List ℕ) → 4 + number o 2 2 h ≤ left → 4 + number o 2 2 h ≤ length h → value ≡ take (number o 2 2 h) (drop 4 h)
    → option_at o (take left (h ++ r)) ≡ record { code = number o 2 0 h; value = value }
option-held o left h r value l m e =
    let opts = take left (h ++ r) in
    let size = number o 2 2 h in
    let sum : 4 + (left - 4) ≡ left = omega arith in
    let value_is : take size (drop 4 opts) ≡ value =
    ap (λ k. take size (drop 4 (take k (h ++ r)))) (sym sum) ∙ ap (take size) (drop-take 4 (left - 4) (h ++ r)) ∙ take-take size (left - 4) (drop 4 (h ++ r))
    (omega arith)
    ∙ ap (take size) (drop-append-le 4 h r (omega arith)) ∙ take-append-le size (drop 4 h) r (omega (arith, length-drop 4 h)) ∙ sym e in
    ap (λ k. record { code = number o 2 0 opts; value = take k (drop 4 opts) }) (number-left o 2 2 left h r (omega arith) (omega arith))
    ∙ ap (λ k. record { code = k; value = take size (drop 4 opts) }) (number-left o 2 0 left h r (omega arith) (omega arith))
    ∙ ap (λ v. record { code = number o 2 0 h; value = v }) value_is

-- an option that is held, and then the others
pub options-next : (h r value : List ℕ) (b : Body) (f : Found) (count : ℕ) → 4 ≤ length h → 0 < number b.order 2 0 h → 4 + number b.order 2 2 h ≤ b.left
    → count ≡ min b.left (4 + padded (number b.order 2 2 h)) → count ≤ length h → value ≡ take (number b.order 2 2 h) (drop 4 h)
    → found_by b.order f (options b.order (take b.left (h ++ r)))
    ≡ then_found b.order (found_with b.order (record { code = number b.order 2 0 h; value = value }) f)
    (options b.order (take (b.left - count) (drop count (h ++ r))))
options-next h r value b f count m p l e k v =
    let o = b.order in
    let opts = take b.left (h ++ r) in
    let held : 4 + number o 2 2 h ≤ length h = omega (arith, e) in
    let code : number o 2 0 opts ≡ number o 2 0 h = number-left o 2 0 b.left h r (omega arith) (omega arith) in
    let size : number o 2 2 opts ≡ number o 2 2 h = number-left o 2 2 b.left h r (omega arith) (omega arith) in
    found-more o f opts (omega (arith, length-take b.left (h ++ r), length-append h r)) (omega (arith, code))
    (omega (arith, size, length-take b.left (h ++ r), length-append h r))
    ∙ ap (λ x. then_found o (found_with o x f) (options o (behind o opts))) (option-held o b.left h r value l held v)
    ∙ ap (λ n. then_found o (found_with o (record { code = number o 2 0 h; value = value }) f) (options o (drop (4 + padded n) opts))) size
    ∙ ap (λ x. then_found o (found_with o (record { code = number o 2 0 h; value = value }) f) (options o x))
    (left-behind b.left (4 + padded (number o 2 2 h)) count (h ++ r) e)

-- the interface behind an option that is formed
pub option-passed : (s : Section) (h r value : List ℕ) (b : Body) (f g : Found) (count : ℕ) → 4 ≤ length h → 0 < number b.order 2 0 h → 4 + number b.order 2 2 h
    ≤ b.left
    → count ≡ min b.left (4 + padded (number b.order 2 2 h)) → count ≤ length h → value ≡ take (number b.order 2 2 h) (drop 4 h)
    → found_with b.order (record { code = number b.order 2 0 h; value = value }) f ≡ Some g
    → options_text (record { order = b.order; total = b.total; left = b.left - count }) g s (drop count (h ++ r))
    ≡ after b (h ++ r) (add_interface s (found_by b.order f (options b.order (take b.left (h ++ r)))))
unfolding options_text
option-passed s h r value b f g count m p l e k v w =
    let a = h ++ r in
    let c : Body = record { order = b.order; total = b.total; left = b.left - count } in
    let found : found_by b.order f (options b.order (take b.left a)) ≡ found_by b.order g (options b.order (take (b.left - count) (drop count a))) =
    options-next h r value b f count m p l e k v ∙ ap (λ x. then_found b.order x (options b.order (take (b.left - count) (drop count a)))) w in
    ap (λ x. after c (drop count a) (add_interface s x)) (sym found)
    ∙ sym (after-passes b count a (add_interface s (found_by b.order f (options b.order (take b.left a)))) (omega (arith, e))
    (omega (arith, length-append h r)))

-- an option that isn't formed
pub option-unformed : (s : Section) (h r value : List ℕ) (b : Body) (f : Found) (count : ℕ) → 4 ≤ length h → 0 < number b.order 2 0 h → 4 + number b.order 2 2 h
    ≤ b.left
    → count ≡ min b.left (4 + padded (number b.order 2 2 h)) → count ≤ length h → value ≡ take (number b.order 2 2 h) (drop 4 h)
    → found_with b.order (record { code = number b.order 2 0 h; value = value }) f ≡ None
    → add_interface s (found_by b.order f (options b.order (take b.left (h ++ r)))) ≡ broken
option-unformed s h r value b f count m p l e k v w =
    ap (add_interface s)
    (options-next h r value b f count m p l e k v ∙ ap (λ x. then_found b.order x (options b.order (take (b.left - count) (drop count (h ++ r))))) w)

-- an option that is held and formed goes
pub steps-option : (old new : Converter) (b : Body) (f g : Found) (code size rounded count : ℕ) (seen : List ℕ) → AtOption b f code size old → 4 + size ≤ b.left
    → count ≤ length (held_bytes old.window) → count ≡ min b.left (4 + rounded) → rounded ≡ padded size → seen ≡ held_bytes old.window
    → found_with b.order (record { code = code; value = take ((4 + size) - 4) (drop 4 seen) }) f ≡ Some g
    → ((left : List ℕ) → text_of new left
    ≡ options_text (record { order = b.order; total = b.total; left = b.left - count }) g (section_of old) (drop count (ahead old left)))
    → work new < work old → new.budget ≡ old.budget → Steps old new step.Moved
steps-option old new b f g code size rounded count seen at within held is round same told text fewer budget =
    let h = held_bytes old.window in
    let value = take ((4 + size) - 4) (drop 4 seen) in
    record {
      text = λ left.
          text left
          ∙ option-passed (section_of old) h (take old.budget left) value b f g count at.held (omega (arith, at.code_is, at.some))
          (omega (arith, at.size_is, within)) (option-count count b.left rounded size (number b.order 2 2 h) is round at.size_is) held
          (option-value size (number b.order 2 2 h) seen h at.size_is same)
          (ap (λ n. found_with b.order (record { code = n; value = value }) f) (sym at.code_is) ∙ told)
          ∙ sym (text-at_option old.stage (section_of old) (kept_bytes old.window) (ahead old left) (whole old left) b f at.stage_is);
      tells = fewer;
      budget = budget;
    }

-- one that isn't formed breaks the description
pub steps-unformed : (old new : Converter) (b : Body) (f : Found) (code size rounded count : ℕ) (seen : List ℕ) → AtOption b f code size old
    → 4 + size ≤ b.left
    → count ≤ length (held_bytes old.window) → count ≡ min b.left (4 + rounded) → rounded ≡ padded size → seen ≡ held_bytes old.window
    → found_with b.order (record { code = code; value = take ((4 + size) - 4) (drop 4 seen) }) f ≡ None
    → ((left : List ℕ) → text_of new left ≡ after b (ahead old left) broken) → work new < work old → new.budget ≡ old.budget → Steps old new step.Moved
steps-unformed old new b f code size rounded count seen at within held is round same told text fewer budget =
    let h = held_bytes old.window in
    let value = take ((4 + size) - 4) (drop 4 seen) in
    steps-settled old new b f broken at.stage_is
    (λ left. option-unformed (section_of old) h (take old.budget left) value b f count at.held (omega (arith, at.code_is, at.some))
    (omega (arith, at.size_is, within)) (option-count count b.left rounded size (number b.order 2 2 h) is round at.size_is) held
    (option-value size (number b.order 2 2 h) seen h at.size_is same)
    (ap (λ n. found_with b.order (record { code = n; value = value }) f) (sym at.code_is) ∙ told))
    text fewer budget

-- a step after what was kept is forgotten
pub steps-after : (old mid new : Converter) (answer : Step) → Steps mid new answer → ((left : List ℕ) → text_of mid left ≡ text_of old left) → work mid
    ≤ work old → mid.budget ≡ old.budget → Steps old new answer
steps-after old mid new step.Moved t same l e = record { text = λ left. t.text left ∙ same left; tells = omega (arith, t.tells); budget = t.budget ∙ e }
steps-after old mid new step.Hungry t same l e = record { text = λ left. t.text left ∙ same left; tells = t.tells; budget = t.budget ∙ e }
steps-after old mid new step.Through t same l e = record { text = λ left. t.text left ∙ same left; tells = t.tells; budget = t.budget ∙ e }
steps-after old mid new step.Over t same l e = record { text = λ left. t.text left ∙ same left; tells = t.tells; budget = t.budget ∙ e }

-- at the options nothing that is kept counts
pub text-forgot : (st : Stage) (s : Section) (kept k h g r far far' : List ℕ) (b : Body) (f : Found) → st ≡ stage.Options b f → g ≡ h
    → text_by st s k (g ++ r) far ≡ text_by st s kept (h ++ r) far'
text-forgot st s kept k h g r far far' b f e i =
    ap (λ x. text_by st s k (x ++ r) far) i ∙ text-at_option st s k (h ++ r) far b f e ∙ sym (text-at_option st s kept (h ++ r) far' b f e)

-- few bytes are kept
pub kept_few : (w : Window) → length (kept_bytes w) ≤ 262160
kept_few w = omega (arith, length-take (w.kept_end - w.kept) (drop w.kept w.buf.items), w.few)

take_front : (bs left : List ℕ) (n : ℕ) → length bs ≤ n → take n (bs ++ left) ≡ bs ++ take (n - length bs) left
take_front bs left n l =
    let e : length bs + (n - length bs) ≡ n = omega arith in
    ap (λ k. take k (bs ++ left)) (sym e) ∙ take-append-add bs left (n - length bs)

-- what a read leaves of the bytes that follow
pub ahead_read : (h bs left : List ℕ) (n : ℕ) → length bs ≤ n → (h ++ bs) ++ take (n - length bs) left ≡ h ++ take n (bs ++ left)
ahead_read h bs left n l = append_assoc h bs (take (n - length bs) left) ∙ ap (λ x. h ++ x) (sym (take_front bs left n l))

-- a read leaves the text
pub texts-read : (a b : Option (List ℕ)) (st : Stage) (s : Section) (kept k h g bs : List ℕ) (n m : ℕ) → Consumes a b bs → length bs ≤ n → k ≡ kept → g ≡ h
    ++ bs → m ≡ n - length bs
    → Keeps (option_map (λ left. text_by st s kept (h ++ take n left) (h ++ left)) a) (option_map (λ left. text_by st s k (g ++ take m left) (g ++ left)) b)
texts-read None b st s kept k h g bs n m c l e i j = tt
texts-read (Some x) None st s kept k h g bs n m c l e i j = absurd c
texts-read (Some x) (Some y) st s kept k h g bs n m c l e i j =
    ap (λ z. text_by st s z (g ++ take m y) (g ++ y)) e
    ∙ ap (λ z. text_by st s kept (z ++ take m y) (z ++ y)) i
    ∙ ap (λ z. text_by st s kept ((h ++ bs) ++ take z y) ((h ++ bs) ++ y)) j
    ∙ ap (λ z. text_by st s kept z ((h ++ bs) ++ y)) (ahead_read h bs y n l)
    ∙ ap (λ z. text_by st s kept (h ++ take n (bs ++ y)) z) (append_assoc h bs y)
    ∙ ap (λ z. text_by st s kept (h ++ take n z) (h ++ z)) (sym c)

-- bytes that are kept are poured
pub text-poured : (st : Stage) (s : Section) (kept k o out now near near' far far' : List ℕ) (at n : ℕ) → is_due st ≡ true → kept ≡ take n o ++ k → near' ≡ near
    → far' ≡ far
    → take (at + n) now ≡ take at out ++ take n o
    → take (at + n) now ++ text_by st s k near' far' ≡ take at out ++ text_by st s kept near far
text-poured st s kept k o out now near near' far far' at n due split e f front =
    ap (λ x. x ++ text_by st s k near' far') front
    ∙ append_assoc (take at out) (take n o) (text_by st s k near' far')
    ∙ ap (λ x. take at out ++ (take n o ++ x)) (ap (λ x. text_by st s k x far') e ∙ ap (λ x. text_by st s k near x) f ∙ text-due st s k near far due)
    ∙ ap (λ x. take at out ++ x) (sym (append_assoc (take n o) k (text_by st s [] near far)) ∙ ap (λ x. x ++ text_by st s [] near far) (sym split) ∙ sym
    (text-due st s kept near far due))

-- the front of a slice, after its rest was written
pub front-written : (at n : ℕ) (out o post : List ℕ) → at ≤ length out → n ≤ length o → take (at + n) (take at out ++ (o ++ post)) ≡ take at out ++ take n o
front-written at n out o post l m =
    let e : length (take at out) ≡ at = length-take-le at out l in
    ap (λ k. take (k + n) (take at out ++ (o ++ post))) (sym e) ∙ take-append-add (take at out) (o ++ post) n ∙ ap (λ x. take at out ++ x)
    (take-append-le n o post m)

even-length : (total : ℕ) → total % 4 ≡ 0 → 32 ≤ total → is_length kind.Packet total ≡ true
even-length total e l = grind (arith, nat_tests)

-- the text from a packet on that is held whole: its record, and then what comes of the next block
pub text-whole : (st : Stage) (s : Section) (kept h r far : List ℕ) (p : Whole) → st ≡ stage.Block → kept ≡ [] → IsWhole s.order s.interfaces h p
    → text_by st s kept (h ++ r) far ≡ (record_head p.at p.len ++ take p.len (drop 28 h)) ++ blocks s (drop p.total (h ++ r))
text-whole st s kept h r far p e n w =
    let o = s.order in
    let a = h ++ r in
    let k = record_head p.at p.len ++ take p.len (drop 28 h) in
    let fits : 32 + p.len ≤ p.total = w.fits.2 in
    let least : 32 ≤ p.total = omega (arith, fits) in
    let is_even : is_length kind.Packet p.total ≡ true = even-length p.total w.even least in
    let long : p.total ≤ length a = omega (arith, w.within, length-append h r) in
    let held : 32 ≤ length h = omega (arith, least, w.within) in
    text-at_block st s kept a far e n
    ∙ blocks-head s h r o (omega (arith, held)) (ap (λ b. if b then order_of h else Some o) w.inside)
    ∙ ap (λ x. head_text o x (number o 4 4 h) s a) w.kind_is ∙ ap (λ x. head_text o kind.Packet x s a) (sym w.total)
    ∙ head-whole o kind.Packet p.total s a (gives k s) is_even long
    (number-front o 4 (p.total - 4) h r (omega (arith, least, w.within)) ∙ w.ends)
    (record-given o s p.total p.at p.len h r k (omega (arith, fits, w.within)) fits w.tells refl long)

-- its record is put behind the bytes before, and the next block is at the front
pub text-put : (st : Stage) (s : Section) (kept k h g r far far' : List ℕ) (p : Whole) (n m : ℕ) (out now head : List ℕ) → st ≡ stage.Block → kept ≡ []
    → IsWhole s.order s.interfaces h p → k ≡ kept → g ≡ drop p.total h → head ≡ record_head p.at p.len
    → take m now ≡ take n out ++ (head ++ take p.len (drop 28 h))
    → take m now ++ text_by st s k (g ++ r) far' ≡ take n out ++ text_by st s kept (h ++ r) far
text-put st s kept k h g r far far' p n m out now head e f w i j head_is put =
    let told = record_head p.at p.len ++ take p.len (drop 28 h) in
    let next : text_by st s k (g ++ r) far' ≡ blocks s (drop p.total (h ++ r)) =
    text-at_block st s k (g ++ r) far' e (i ∙ f) ∙ ap (blocks s) (ahead_pass p.total h g r j w.within) in
    ap (λ x. x ++ text_by st s k (g ++ r) far') (put ∙ ap (λ x. take n out ++ (x ++ take p.len (drop 28 h))) head_is)
    ∙ ap (λ x. (take n out ++ told) ++ x) next
    ∙ append_assoc (take n out) told (blocks s (drop p.total (h ++ r)))
    ∙ ap (λ x. take n out ++ x) (sym (text-whole st s kept h r far p e f w))

-- what is put in two steps
fills-more : (at end more : ℕ) (first out now : List ℕ) (old mid new : Converter) → Fills at first out old mid end → Fills end out now mid new more
    → Fills at first now old new more
fills-more at end more first out now old mid new a b = record {
  same_length = b.same_length ∙ a.same_length;
  least = omega (arith, a.least, b.least);
  most = b.most;
  text = λ left. b.text left ∙ a.text left;
  stage = b.stage ∙ a.stage;
  budget = b.budget ∙ a.budget;
  work = omega (arith, a.work, b.work);
}

-- and of records
pub puts-more : (at end more : ℕ) (first out now : List ℕ) (old mid new : Converter) → Puts at first out old mid end → Puts end out now mid new more
    → Puts at first now old new more
puts-more at end more first out now old mid new a b = record {
  fills = fills-more at end more first out now old mid new a.fills b.fills;
  order = b.order ∙ a.order;
  kept = b.kept ∙ a.kept;
}

-- what is put in none
pub puts-none : (at : ℕ) (out : List ℕ) (c : Converter) → at ≤ length out → Puts at out out c c at
puts-none at out c l = record {
  fills = record {
    same_length = refl;
    least = omega arith;
    most = l;
    text = λ left. refl;
    stage = refl;
    budget = refl;
    work = omega arith;
  };
  order = refl;
  kept = refl;
}

-- a packet that is held whole, by the same byte order
pub whole-same : (o o' : Order) (is : List Interface) (h : List ℕ) (p : Whole) → o ≡ o' → IsWhole o is h p → IsWhole o' is h p
whole-same o o' is h p e w = subst (λ x. IsWhole x is h p) e w

-- records that are put behind what was poured
pub pours-puts : (at end count : ℕ) (first out now : List ℕ) (old mid new : Converter) → Pours at first out old mid end → Puts end out now mid new count
    → end < length out → Pours at first now old new count
pours-puts at end count first out now old mid new a b l = record {
  fills = fills-more at end count first out now old mid new a.fills b.fills;
  given = λ m d. b.kept ∙ a.given l (ap is_due (sym b.fills.stage) ∙ d);
}
