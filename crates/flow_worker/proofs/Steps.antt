-- Each step of the machine keeps the order of the messages of each file for each lane.
use Rattle.std.proofs.Common.{◌≡◌, ℕ, Bool, true, false, cond, if◌then◌else◌, eqb, List, [], ◌∷◌, ◌++◌, refl, sym, ap, ap₂, ◌∙◌, subst, eq-eqb, ne_eqb}
use Rattle.std.proofs.Common.{append_assoc, append-nil, inl, inr}
use Rattle.std.proofs.lemmas.Bool.{cases_eq}
use Rattle.std.proofs.lemmas.List.Elements.{filter-append}
use Rattle.timing_base.specs.declared.row.Row.{Row}
use Rattle.ruled_intake.specs.declared.message.Message.{Message}
use Rattle.flow_worker.specs.Messages.{file_of, of_file}
use Rattle.flow_worker.specs.Opening.{Addressed, Capture, Setting, for_lane, messages}
use Rattle.flow_worker.specs.Posting.{taken_row}
use Rattle.flow_worker.specs.World.{State, Step, after, after_post, after_send, after_take, changed, may_post, opening}
use Rattle.flow_worker.specs.World.Step.{posts_row, sends_next, takes_front}
use Rattle.flow_worker.specs.Kept.{IsInOrder}
use Rattle.flow_worker.proofs.Lists.{for_lane-here, for_lane-other}
use Rattle.flow_worker.proofs.Files.{AreOf, AreOf-behind, AreOf-messages}

-- the list that was changed
pub changed-here : {X : Type 0} (place i : ℕ) (xs : List X) (lists : ℕ → List X) → i ≡ place → changed place xs lists i ≡ xs
changed-here place i xs lists e = ap (λ (b : Bool). if b then xs else lists i) (eq-eqb i place e)

-- and another
pub changed-other : {X : Type 0} (place i : ℕ) (xs : List X) (lists : ℕ → List X) → (i ≡ place → ⊥) → changed place xs lists i ≡ lists i
changed-other place i xs lists n = ap (λ (b : Bool). if b then xs else lists i) (ne_eqb i place n)

-- the messages of a file, and one more of it
of_file-push : (f : ℕ) (ms : List Message) (m : Message) → file_of m ≡ f → of_file f (ms ++ m ∷ []) ≡ of_file f ms ++ m ∷ []
of_file-push f ms m e =
    filter-append (λ (x : Message). eqb (file_of x) f) ms (m ∷ [])
    ∙ ap (λ (b : Bool). of_file f ms ++ cond b (m ∷ []) []) (eq-eqb (file_of m) f e)

-- or one of another file
pub of_file-push_other : (f : ℕ) (ms : List Message) (m : Message) → (file_of m ≡ f → ⊥) → of_file f (ms ++ m ∷ []) ≡ of_file f ms
of_file-push_other f ms m n =
    filter-append (λ (x : Message). eqb (file_of x) f) ms (m ∷ [])
    ∙ ap (λ (b : Bool). of_file f ms ++ cond b (m ∷ []) []) (ne_eqb (file_of m) f n) ∙ append-nil (of_file f ms)

-- the first message that a file has to send is of the file
first_of_file : (s : Setting) (captures : List Capture) (state : State) (f : ℕ) (a : Addressed) (later : List Addressed) → state.todo f ≡ a ∷ later
    → IsInOrder s captures state → file_of a.message ≡ f
first_of_file s captures state f a later is order =
    let t = of_file f (state.taken a.lane) in
    let h = of_file f (state.held a.lane) in
    let all : t ++ (h ++ (a.message ∷ for_lane a.lane later)) ≡ messages s captures f a.lane =
    ap (λ (l : List Message). t ++ (h ++ l)) (sym (for_lane-here a.lane a later refl))
    ∙ ap (λ (l : List Addressed). t ++ (h ++ for_lane a.lane l)) (sym is) ∙ order f a.lane in
    let of : AreOf f (a.message ∷ for_lane a.lane later) =
    AreOf-behind f h (a.message ∷ for_lane a.lane later)
    (AreOf-behind f t (h ++ (a.message ∷ for_lane a.lane later)) (subst (AreOf f) (sym all) (AreOf-messages s captures f a.lane))) in
    of.0

-- a message goes from a file to a lane: what they are then for any file and lane
sent_order : (state : State) (f : ℕ) (a : Addressed) (later : List Addressed) (g w : ℕ) → state.todo f ≡ a ∷ later → file_of a.message ≡ f
    → of_file g (changed a.lane (state.held a.lane ++ a.message ∷ []) state.held w) ++ for_lane w (changed f later state.todo g)
    ≡ of_file g (state.held w) ++ for_lane w (state.todo g)
sent_order state f a later g w is of =
    let m = a.message in
    let more : List Message = state.held a.lane ++ m ∷ [] in
    elim (cases_eq w a.lane) [
      | inl e ↦
          let held : changed a.lane more state.held w ≡ state.held w ++ m ∷ [] =
          changed-here a.lane w more state.held e ∙ ap (λ (v : ℕ). state.held v ++ m ∷ []) (sym e) in
          elim (cases_eq g f) [
            | inl e' ↦
                let todo : changed f later state.todo g ≡ later = changed-here f g later state.todo e' in
                let old : state.todo g ≡ a ∷ later = ap state.todo e' ∙ is in
                ap₂ (λ (k : List Message) (l : List Addressed). of_file g k ++ for_lane w l) held todo
                ∙ ap (λ (k : List Message). k ++ for_lane w later) (of_file-push g (state.held w) m (of ∙ sym e'))
                ∙ append_assoc (of_file g (state.held w)) (m ∷ []) (for_lane w later)
                ∙ ap (λ (k : List Message). of_file g (state.held w) ++ k) (sym (for_lane-here w a later (sym e)))
                ∙ ap (λ (l : List Addressed). of_file g (state.held w) ++ for_lane w l) (sym old)
            | inr n' ↦
                let todo : changed f later state.todo g ≡ state.todo g = changed-other f g later state.todo n' in
                ap₂ (λ (k : List Message) (l : List Addressed). of_file g k ++ for_lane w l) held todo
                ∙ ap (λ (k : List Message). k ++ for_lane w (state.todo g)) (of_file-push_other g (state.held w) m (λ x. n' (sym x ∙ of)))
          ]
      | inr n ↦
          let held : changed a.lane more state.held w ≡ state.held w = changed-other a.lane w more state.held n in
          elim (cases_eq g f) [
            | inl e' ↦
                let todo : changed f later state.todo g ≡ later = changed-here f g later state.todo e' in
                let old : state.todo g ≡ a ∷ later = ap state.todo e' ∙ is in
                ap₂ (λ (k : List Message) (l : List Addressed). of_file g k ++ for_lane w l) held todo
                ∙ ap (λ (k : List Message). of_file g (state.held w) ++ k) (sym (for_lane-other w a later (λ x. n (sym x))))
                ∙ ap (λ (l : List Addressed). of_file g (state.held w) ++ for_lane w l) (sym old)
            | inr n' ↦
                ap₂ (λ (k : List Message) (l : List Addressed). of_file g k ++ for_lane w l) held (changed-other f g later state.todo n')
          ]
    ]

-- a send keeps the order
send_keeps : (s : Setting) (captures : List Capture) (state : State) (f : ℕ) (l : List Addressed) → state.todo f ≡ l → IsInOrder s captures state
    → IsInOrder s captures (after_send f l state)
send_keeps s captures state f [] is order = order
send_keeps s captures state f (a ∷ later) is order = λ g w.
    ap (λ (k : List Message). of_file g (state.taken w) ++ k) (sent_order state f a later g w is (first_of_file s captures state f a later is order))
    ∙ order g w

-- the front of a lane is taken: what was taken and what is held are then for any file and lane
taken_order : (state : State) (lane : ℕ) (m : Message) (later : List Message) (g w : ℕ) (more : List Message) → state.held lane ≡ m ∷ later
    → of_file g (changed lane (state.taken lane ++ m ∷ []) state.taken w) ++ (of_file g (changed lane later state.held w) ++ more)
    ≡ of_file g (state.taken w) ++ (of_file g (state.held w) ++ more)
taken_order state lane m later g w more is =
    let next : List Message = state.taken lane ++ m ∷ [] in
    elim (cases_eq w lane) [
      | inl e ↦
          let taken : changed lane next state.taken w ≡ state.taken w ++ m ∷ [] =
          changed-here lane w next state.taken e ∙ ap (λ (v : ℕ). state.taken v ++ m ∷ []) (sym e) in
          let held : changed lane later state.held w ≡ later = changed-here lane w later state.held e in
          let old : state.held w ≡ m ∷ later = ap state.held e ∙ is in
          ap₂ (λ (k l : List Message). of_file g k ++ (of_file g l ++ more)) taken held
          ∙ ap (λ (k : List Message). k ++ (of_file g later ++ more)) (filter-append (λ (x : Message). eqb (file_of x) g) (state.taken w) (m ∷ []))
          ∙ append_assoc (of_file g (state.taken w)) (of_file g (m ∷ [])) (of_file g later ++ more)
          ∙ ap (λ (k : List Message). of_file g (state.taken w) ++ k) (sym (append_assoc (of_file g (m ∷ [])) (of_file g later) more))
          ∙ ap (λ (k : List Message). of_file g (state.taken w) ++ (k ++ more)) (sym (filter-append (λ (x : Message). eqb (file_of x) g) (m ∷ []) later))
          ∙ ap (λ (k : List Message). of_file g (state.taken w) ++ (of_file g k ++ more)) (sym old)
      | inr n ↦
          ap₂ (λ (k l : List Message). of_file g k ++ (of_file g l ++ more)) (changed-other lane w next state.taken n) (changed-other lane w later state.held n)
    ]

-- a take keeps the order
take_keeps : (s : Setting) (captures : List Capture) (state : State) (lane : ℕ) (l : List Message) → state.held lane ≡ l → IsInOrder s captures state
    → IsInOrder s captures (after_take lane l state)
take_keeps s captures state lane [] is order = order
take_keeps s captures state lane (m ∷ later) is order = λ g w. taken_order state lane m later g w (for_lane w (state.todo g)) is ∙ order g w

-- a post touches no message
post_keeps : (s : Setting) (captures : List Capture) (state : State) (may : Bool) (r : Row) → IsInOrder s captures state
    → IsInOrder s captures (after_post may r state)
post_keeps s captures state true r order = order
post_keeps s captures state false r order = order

-- each step keeps the order
pub step_keeps : (s : Setting) (captures : List Capture) (files : ℕ) (step : Step) (state : State) → IsInOrder s captures state
    → IsInOrder s captures (after s files step state)
step_keeps s captures files (sends_next f) state order = send_keeps s captures state f (state.todo f) refl order
step_keeps s captures files (takes_front lane) state order = take_keeps s captures state lane (state.held lane) refl order
step_keeps s captures files (posts_row lane key) state order =
    post_keeps s captures state (may_post s files lane key state) (taken_row s files (state.taken lane) key) order

-- at the opening all is to be sent
pub opening_in_order : (s : Setting) (captures : List Capture) → IsInOrder s captures (opening s captures)
opening_in_order s captures = λ f w. refl
