-- Entries of a lane, where each sender sends one file's messages: those of a file are those of its sender.
use Rattle.std.proofs.Common.{◌≡◌, ℕ, Bool, true, false, cond, eqb, List, [], ◌∷◌, ◌++◌, filter, refl, sym, ap, ◌∙◌, subst, eq-eqb}
use Rattle.ruled_intake.specs.Lanes.{messages, of}
use Rattle.ruled_intake.specs.declared.message.Message.{Message}
use Rattle.ruled_intake.specs.declared.rule.Entry.{Entry}
use Rattle.flow_worker.specs.Messages.{IsPrefix, of_file}
use Rattle.flow_worker.specs.Opening.{Capture, Setting, messages as file_messages}
use Rattle.flow_worker.proofs.Files.{AreOf, AreOf-messages}

-- the messages of the others are of the file too
drop_first : (f : ℕ) (b : Bool) (e : Entry) (es : List Entry) → AreOf f (messages (cond b (e ∷ es) es)) → AreOf f (messages es)
drop_first f true e es h = h.1
drop_first f false e es h = h

-- the message of an entry that is kept or not
messages-cond : (b : Bool) (e : Entry) (es : List Entry) → cond b (e.message ∷ messages es) (messages es) ≡ messages (cond b (e ∷ es) es)
messages-cond true e es = refl
messages-cond false e es = refl

-- the messages of a file
pub of_file-messages : (es : List Entry) → ((g : ℕ) → AreOf g (of g es)) → (f : ℕ) → of_file f (messages es) ≡ of f es
of_file-messages [] h f = refl
of_file-messages (e ∷ es) h f =
    let rest : ℕ → List Entry = λ g. filter (λ (x : Entry). eqb x.from g) es in
    let first : AreOf e.from (e.message ∷ of e.from es) =
    subst (λ (b : Bool). AreOf e.from (messages (cond b (e ∷ rest e.from) (rest e.from)))) (eq-eqb e.from e.from refl) (h e.from) in
    let more = of_file-messages es (λ g. drop_first g (eqb e.from g) e (rest g) (h g)) f in
    ap (λ (g : ℕ). cond (eqb g f) (e.message ∷ of_file f (messages es)) (of_file f (messages es))) first.0
    ∙ ap (λ (l : List Message). cond (eqb e.from f) (e.message ∷ l) l) more
    ∙ messages-cond (eqb e.from f) e (rest f)

AreOf-front : (f : ℕ) (xs ys : List Message) → AreOf f (xs ++ ys) → AreOf f xs
AreOf-front f [] ys h = tt
AreOf-front f (x ∷ xs) ys h = (h.0, AreOf-front f xs ys h.1)

-- where what was taken of each sender begins the messages of its file for the lane, so do those of each file
pub in_order-by_sender : (s : Setting) (captures : List Capture) (lane : ℕ) (es : List Entry) → ((g : ℕ) → IsPrefix (of g es) (file_messages s captures g lane))
    → (f : ℕ) → IsPrefix (of_file f (messages es)) (file_messages s captures f lane)
in_order-by_sender s captures lane es h f =
    let all_of : (g : ℕ) → AreOf g (of g es) = λ g.
    AreOf-front g (of g es) (h g).0 (subst (AreOf g) (sym (h g).1) (AreOf-messages s captures g lane)) in
    ((h f).0, ap (λ (l : List Message). l ++ (h f).0) (of_file-messages es all_of f) ∙ (h f).1)
