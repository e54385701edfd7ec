-- Each step of a lane keeps its rule.
use Rattle.std.proofs.Common.{◌≡◌, ◌≢◌, ◌≤◌, ◌<◌, ◌+◌, ◌^◌, ◌==◌, ◌⊎◌, ℕ, zero, suc, Bool, true, false, List, [], ◌∷◌, ◌++◌, length, set, sym, refl, ap, ◌∙◌}
use Rattle.std.proofs.Common.{subst, inl, inr, arith, if◌then◌else◌, append_assoc, append-nil, length-append, slice_index_or, eqb}
use mathlib.Core.Option.{Option, some, none, some-ne-none, some-injective}
use lib.ListN.{get_elem?}
use Rattle.std.proofs.lemmas.Bool.{ne_eqb, cases_lt}
use Rattle.std.proofs.lemmas.Bool.Decides.{eqb_tells}
use Rattle.std.proofs.lemmas.List.{get_or_append_left, get_or_past}
use Rattle.std.proofs.Math.Seq.{get_or-append_seam}
use Rattle.crossbeam_queue.specs.Fifo.{Pushes, Pops, Forks, Merges, Learns}
use Rattle.crossbeam_queue.proofs.Lists.{at_set, at_snoc}
use Rattle.ruled_intake.specs.declared.message.Message.{Message}
use Rattle.ruled_intake.specs.declared.rule.Entry.{Entry}
use Rattle.ruled_intake.specs.declared.rule.View.{View}
use Rattle.ruled_intake.specs.declared.rule.View.TheVariants.{Sends, Takes, Spent}
use Rattle.ruled_intake.specs.Lanes.{IsWithin, messages, of}
use Rattle.ruled_intake.specs.Rule.{Delivers, Fits, FitsTaker, HasCompared, HasFew, HasGot, HasPut, new_taker}
use Rattle.ruled_intake.proofs.Counts.{equal_test, of-append, of-here, of-there, within-first}

-- g with x at k
abbrev upd : {X : Type 0} → (ℕ → X) → ℕ → X → ℕ → X
upd g k x p = if p == k then x else g p

upd-same : {X : Type 0} (g : ℕ → X) (k p : ℕ) (x : X) → p ≡ k → upd g k x p ≡ x
upd-same g k p x e = ap (λ b. if b then x else g p) (equal_test p k e)

upd-other : {X : Type 0} (g : ℕ → X) (k p : ℕ) (x : X) → p ≢ k → upd g k x p ≡ g p
upd-other g k p x n = ap (λ b. if b then x else g p) (ne_eqb p k n)

-- a view fits as before where the lists of its own sender, and of those without a seat, stay
Fits-sent : (reader : ℕ) (seat : ℕ → Option ℕ) (sent sent' : ℕ → List Message) (got : List Entry) (pass : ℕ) (v : View)
    → ((f : ℕ) → seat f ≡ some pass → sent' f ≡ sent f) → ((f : ℕ) → seat f ≡ none → sent' f ≡ sent f)
    → Fits reader seat sent got pass v → Fits reader seat sent' got pass v
Fits-sent reader seat sent sent' got pass (Sends from put) own empty h = (h.0, h.1 ∙ sym (own from h.0))
Fits-sent reader seat sent sent' got pass (Takes mine made known) own empty h = record {
  here = h.here;
  mine_is = h.mine_is;
  few_made = h.few_made;
  later = λ f m. ((h.later f m).0, empty f (h.later f m).0 ∙ (h.later f m).1);
  ended = λ f m. ((h.ended f m).0, (h.ended f m).1 ∙ sym (empty f (h.ended f m).0));
  few_known = h.few_known;
}
Fits-sent reader seat sent sent' got pass Spent own empty h = tt

-- a view of another pass than the taker's fits as before where its own sender keeps its seat
Fits-elsewhere : (reader : ℕ) (seat seat' : ℕ → Option ℕ) (sent : ℕ → List Message) (got got' : List Entry) (pass : ℕ) (v : View)
    → pass ≢ reader → ((f : ℕ) → seat f ≡ some pass → seat' f ≡ some pass)
    → Fits reader seat sent got pass v → Fits reader seat' sent got' pass v
Fits-elsewhere reader seat seat' sent got got' pass (Sends from put) apart kept h = (kept from h.0, h.1)
Fits-elsewhere reader seat seat' sent got got' pass (Takes mine made known) apart kept h = absurd (apart h.here)
Fits-elsewhere reader seat seat' sent got got' pass Spent apart kept h = tt

-- the message of a sender is one more that it has sent
pub puts : (n pass from : ℕ) (put : List Message) (e : Entry) → e.from ≡ from → IsWithin (2 ^ 37) (put ++ e.message ∷ [])
    → Pushes Delivers n pass (Sends from put) e (HasPut (Sends from put) e)
puts n pass from put e mine within items views room h at =
    let w : View = Sends from (put ++ e.message ∷ []) in
    let me : Fits h.reader h.seat h.sent h.got pass (Sends from put) = h.fits pass (Sends from put) at in
    let sent' : ℕ → List Message = upd h.sent from (put ++ e.message ∷ []) in
    let base : (f : ℕ) → of f (h.got ++ (items ++ e ∷ [])) ≡ h.sent f ++ of f (e ∷ []) = λ f.
    ap (of f) (sym (append_assoc h.got items (e ∷ []))) ∙ of-append f (h.got ++ items) (e ∷ []) ∙ ap (λ l. l ++ of f (e ∷ [])) (h.tells f) in
    let own : (f : ℕ) → f ≡ from → of f (h.got ++ (items ++ e ∷ [])) ≡ sent' f = λ f is.
    base f ∙ ap (λ l. h.sent f ++ l) (of-here f e [] (mine ∙ sym is)) ∙ ap (λ j. h.sent j ++ e.message ∷ []) is ∙ ap (λ l. l ++ e.message ∷ []) (sym me.1)
    ∙ sym (upd-same h.sent from f (put ++ e.message ∷ []) is) in
    let other : (f : ℕ) → f ≢ from → sent' f ≡ h.sent f = λ f apart. upd-other h.sent from f (put ++ e.message ∷ []) apart in (
      w,
      record {
        reader = h.reader;
        seat = h.seat;
        sent = sent';
        got = h.got;
        tells = λ f. elim (eqb_tells f from) as (λ _. of f (h.got ++ (items ++ e ∷ [])) ≡ sent' f) [
          | inl is ↦ own f is.1
          | inr apart ↦ base f ∙ ap (λ l. h.sent f ++ l) (of-there f e [] (λ is. apart.1 (sym is ∙ mine))) ∙ append-nil (h.sent f) ∙ sym (other f apart.1)
        ];
        within = λ f. elim (eqb_tells f from) as (λ _. IsWithin (2 ^ 37) (sent' f)) [
          | inl is ↦ subst (IsWithin (2 ^ 37)) (sym (upd-same h.sent from f (put ++ e.message ∷ []) is.1)) within
          | inr apart ↦ subst (IsWithin (2 ^ 37)) (sym (other f apart.1)) (h.within f)
        ];
        fits = λ j u is. elim (at_set views pass j w u is) as (λ _. Fits h.reader h.seat sent' h.got j u) [
          | inl here ↦ subst (Fits h.reader h.seat sent' h.got j) here.1
              (me.0 ∙ ap some (sym here.0), sym (upd-same h.sent from from (put ++ e.message ∷ []) refl))
          | inr there ↦ Fits-sent h.reader h.seat h.sent sent' h.got j u
              (λ f seated. other f (λ same. there.0 (some-injective j pass (sym seated ∙ ap h.seat same ∙ me.0))))
              (λ f empty. other f (λ same. some-ne-none pass (sym me.0 ∙ ap h.seat (sym same) ∙ empty)))
              (h.fits j u there.1)
        ];
      },
      refl,
    )

-- the message at the front is one more that was taken
pub gets : (pass made : ℕ) (got : List Entry) (known : List (List Message)) → Pops Delivers pass (Takes got made known) (HasGot (Takes got made known))
gets pass made got known e items views h at =
    let w : View = Takes (got ++ e ∷ []) made known in
    let me : FitsTaker h.reader h.seat h.sent h.got pass got made known = h.fits pass (Takes got made known) at in
    let got' : List Entry = h.got ++ e ∷ [] in
    let tells : (f : ℕ) → of f (got' ++ items) ≡ h.sent f = λ f. ap (of f) (append_assoc h.got (e ∷ []) items) ∙ h.tells f in
    let same : got' ≡ got ++ e ∷ [] = ap (λ l. l ++ e ∷ []) (sym me.mine_is) in (
      w,
      record {
        reader = h.reader;
        seat = h.seat;
        sent = h.sent;
        got = got';
        tells = tells;
        within = h.within;
        fits = λ j u is. elim (at_set views pass j w u is) as (λ _. Fits h.reader h.seat h.sent got' j u) [
          | inl here ↦ subst (Fits h.reader h.seat h.sent got' j) here.1
              (record { here = here.0 ∙ me.here; mine_is = sym same; few_made = me.few_made; later = me.later; ended = me.ended; few_known = me.few_known })
          | inr there ↦ Fits-elsewhere h.reader h.seat h.seat h.sent h.got got' j u (λ is. there.0 (is ∙ sym me.here)) (λ f seated. seated) (h.fits j u there.1)
        ];
      },
      (refl, subst (λ l. IsWithin (2 ^ 41) (messages l)) same (within-first made h.sent got' items me.few_made tells (λ f m. (me.later f m).1) h.within)),
    )

-- the taker learns a lesson, and that it has taken few
pub sees : (pass made : ℕ) (got : List Entry) (known : List (List Message)) (fact : View → List Entry → Type 0)
    → Learns Delivers pass (Takes got made known) (fact (Takes got made known))
    → Learns Delivers pass (Takes got made known) (λ items. HasFew (Takes got made known) × fact (Takes got made known) items)
sees pass made got known fact learns items views h at =
    let me : FitsTaker h.reader h.seat h.sent h.got pass got made known = h.fits pass (Takes got made known) at in (
      subst (λ l. IsWithin (2 ^ 41) (messages l)) (sym me.mine_is)
          (within-first made h.sent h.got items me.few_made h.tells (λ f m. (me.later f m).1) h.within),
      learns items views h at,
    )

-- of each sender that was taken in, what was taken and what the lane holds is what it sent
pub compares : (pass made : ℕ) (got : List Entry) (known : List (List Message))
    → Learns Delivers pass (Takes got made known) (HasCompared (Takes got made known))
compares pass made got known items views h at full f =
    let me : FitsTaker h.reader h.seat h.sent h.got pass got made known = h.fits pass (Takes got made known) at in
    let is : of f (got ++ items) ≡ h.sent f = ap (λ l. of f (l ++ items)) me.mine_is ∙ h.tells f in
    elim (cases_lt f (length known)) as (λ _. of f (got ++ items) ≡ slice_index_or known f []) [
      | inl early ↦ is ∙ sym (me.ended f early).1
      | inr late ↦ is ∙ (me.later f (omega (arith, late, full))).1 ∙ sym (get_or_past known f [] late)
    ]

-- the place of a view at the end of a list, which has no other like it
last_place : (l : List View) (a b : View) (j : ℕ) → get_elem? (l ++ a ∷ []) j ≡ some b → (get_elem? l j ≡ some b) ⊎ ((a ≡ b) × (j ≡ length l))
last_place [] a b zero e = inr (some-injective a b e, refl)
last_place [] a b (suc j) e = absurd (some-ne-none b (sym e))
last_place (x ∷ xs) a b zero e = inl e
last_place (x ∷ xs) a b (suc j) e = elim (last_place xs a b j e) as (λ _. (get_elem? xs j ≡ some b) ⊎ ((a ≡ b) × (suc j ≡ suc (length xs)))) [
  | inl before ↦ inl before
  | inr last ↦ inr (last.0, ap suc last.1)
]

-- a new lane
pub begins : Delivers [] (new_taker ∷ [])
begins = record {
  reader = 0;
  seat = λ _. none;
  sent = λ _. [];
  got = [];
  tells = λ f. refl;
  within = λ f. record { few_messages = omega arith; few_packets = omega arith };
  fits = λ j u e. elim (last_place [] new_taker u j e) as (λ _. Fits 0 (λ _. none) (λ _. []) [] j u) [
    | inl before ↦ absurd (some-ne-none u (sym before))
    | inr last ↦ subst (Fits 0 (λ _. none) (λ _. []) [] j) last.0
        (record {
          here = last.1;
          mine_is = refl;
          few_made = omega arith;
          later = λ f _. (refl, refl);
          ended = λ f m. absurd (omega (arith, m));
          few_known =
              omega arith;
        })
  ];
}

-- what was sent and taken stays, where only seats and views change
reseated : (items : List Entry) (views views' : List View) (h : Delivers items views) (seat' : ℕ → Option ℕ)
    → ((j : ℕ) (u : View) → get_elem? views' j ≡ some u → Fits h.reader seat' h.sent h.got j u) → Delivers items views'
reseated items views views' h seat' fits = record {
  reader = h.reader;
  seat = seat';
  sent = h.sent;
  got = h.got;
  tells = h.tells;
  within = h.within;
  fits = fits;
}

-- a sender is made, which has sent nothing
pub makes : (pass made : ℕ) (got : List Entry) (known : List (List Message)) → made < 16
    → Forks Delivers pass (Takes got made known) (Takes got (made + 1) known) (Sends made [])
makes pass made got known room items views h at =
    let l : View = Takes got (made + 1) known in
    let r : View = Sends made [] in
    let me : FitsTaker h.reader h.seat h.sent h.got pass got made known = h.fits pass (Takes got made known) at in
    let vs : List View = set views pass l in
    let seat' : ℕ → Option ℕ = upd h.seat made (some (length vs)) in
    let new = me.later made (omega arith) in
    let other : (f : ℕ) → f ≢ made → seat' f ≡ h.seat f = λ f apart. upd-other h.seat made f (some (length vs)) apart in
    let old : (j : ℕ) (u : View) → get_elem? vs j ≡ some u → Fits h.reader seat' h.sent h.got j u = λ j u e. elim (at_set views pass j l u e) as
    (λ _. Fits h.reader seat' h.sent h.got j u) [
      | inl here ↦ subst (Fits h.reader seat' h.sent h.got j) here.1 (record {
        here = here.0 ∙ me.here;
        mine_is = me.mine_is;
        few_made = omega (arith, room);
        later = λ f m. (other f (λ e. omega (arith, e, m)) ∙ (me.later f (omega (arith, m))).0, (me.later f (omega (arith, m))).1);
        ended = λ f m. (other f (λ e. omega (arith, e, m, me.few_known)) ∙ (me.ended f m).0, (me.ended f m).1);
        few_known = omega (arith, me.few_known);
      })
      | inr there ↦ Fits-elsewhere h.reader h.seat seat' h.sent h.got h.got j u (λ is. there.0 (is ∙ sym me.here))
          (λ f seated. other f (λ is. some-ne-none j (sym seated ∙ ap h.seat is ∙ new.0)) ∙ seated) (h.fits j u there.1)
    ] in
    reseated items views (vs ++ r ∷ []) h seat'
    (λ j u e. elim (last_place vs r u j e) as (λ _. Fits h.reader seat' h.sent h.got j u) [
      | inl before ↦ old j u before
      | inr last ↦ subst (Fits h.reader seat' h.sent h.got j) last.0 (upd-same h.seat made made (some (length vs)) refl ∙ ap some (sym last.1), sym new.1)
    ])

-- the taker takes in the next sender, which has ended
pub takes_in : (pass made : ℕ) (got : List Entry) (known : List (List Message)) (other from : ℕ) (put : List Message) → from ≡ length known
    → Merges Delivers pass (Takes got made known) other (Sends from put) (Takes got made (known ++ put ∷ [])) Spent
takes_in pass made got known other from put turn items views h at two at' =
    let both : View = Takes got made (known ++ put ∷ []) in
    let me : FitsTaker h.reader h.seat h.sent h.got pass got made known = h.fits pass (Takes got made known) at in
    let vs : List View = set views pass both in
    let was : get_elem? views other ≡ some (Sends from put) = elim (at_set views pass other both (Sends from put) at') as
    (λ _. get_elem? views other ≡ some (Sends from put)) [ inl x ↦ absurd (two x.0) | inr x ↦ x.1 ] in
    let theirs : Fits h.reader h.seat h.sent h.got other (Sends from put) = h.fits other (Sends from put) was in
    let seat' : ℕ → Option ℕ = upd h.seat from none in
    let early : from < made = elim (cases_lt from made) as (λ _. from < made)
    [ inl m ↦ m | inr late ↦ absurd (some-ne-none other (sym theirs.0 ∙ (me.later from late).0)) ] in
    let empty : (f : ℕ) → h.seat f ≡ none → seat' f ≡ none = λ f e. elim (eqb_tells f from) as (λ _. seat' f ≡ none) [
      | inl same ↦ upd-same h.seat from f none same.1
      | inr apart ↦ upd-other h.seat from f none apart.1 ∙ e
    ] in
    let Now : ℕ → View → Type 0 = Fits h.reader seat' h.sent h.got in
    let first : (j : ℕ) (u : View) → get_elem? vs j ≡ some u → j ≢ other → Now j u = λ j u e apart. elim (at_set views pass j both u e) as (λ _. Now j u) [
      | inl here ↦ subst (Now j) here.1 (record {
        here = here.0 ∙ me.here;
        mine_is = me.mine_is;
        few_made = me.few_made;
        later = λ f m. (empty f (me.later f m).0, (me.later f m).1);
        ended = λ f m. elim (cases_lt f (length known)) as (λ _. (seat' f ≡ none) × (slice_index_or (known ++ put ∷ []) f [] ≡ h.sent f)) [
          | inl before ↦ (empty f (me.ended f before).0, get_or_append_left known (put ∷ []) [] f before ∙ (me.ended f before).1)
          | inr after ↦
              let last : f ≡ length known = omega (arith, after, m, length-append known (put ∷ [])) in
              let is : f ≡ from = last ∙ sym turn in (
                upd-same h.seat from f none is,
                ap (λ i. slice_index_or (known ++ put ∷ []) i []) last ∙ get_or-append_seam known put [] [] ∙ theirs.1 ∙ ap
                    h.sent (sym is),
              )
        ];
        few_known = omega (arith, me.few_known, early, turn, length-append known (put ∷ []));
      })
      | inr there ↦ Fits-elsewhere h.reader h.seat seat' h.sent h.got h.got j u (λ is. there.0 (is ∙ sym me.here))
          (λ f seated. upd-other h.seat from f none (λ e. apart (some-injective j other (sym seated ∙ ap h.seat e ∙ theirs.0))) ∙ seated) (h.fits j u there.1)
    ] in
    reseated items views (set vs other Spent) h seat'
    (λ j u e. elim (at_set vs other j Spent u e) as (λ _. Now j u) [
      | inl here ↦ subst (Now j) here.1 tt
      | inr there ↦ first j u there.1 there.0
    ])
