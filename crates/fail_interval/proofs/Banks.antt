-- What the judges of all media were fed: when they are made, when each takes one record more, and what rows they give.
use Rattle.std.proofs.Common.{◌≡◌, ◌≤◌, ◌<◌, ◌+◌, ℕ, List, [], ◌∷◌, ◌++◌, length, take, get_or, sym, ap, ◌∙◌, subst, append_assoc, append-nil}
use Rattle.std.proofs.Common.{arith}
use Rattle.std.specs.Prelude.{All, ⊤, false}
use Rattle.std.proofs.lemmas.List.{length-take-le, take_more}
use Rattle.std.proofs.lemmas.List.Elements.{All-cons, All-head, All-nil, All-tail, filter_map-append}
use Rattle.timing_base.specs.Shifts.{FlowOptions}
use Rattle.timing_base.specs.Captures.{Record}
use Rattle.timing_base.specs.Keys.{key_of}
use Rattle.timing_base.specs.Media.{Media}
use Rattle.timing_base.specs.declared.row.Row.{Row}
use Rattle.udp_rtp.specs.Flow.{flow, flow_packet}
use Rattle.flow_demux.specs.Takings.{TakesAll, TakesFlow}
use Rattle.flow_demux.specs.declared.media_flow.MediaFlow.{MediaFlow}
use Rattle.fail_interval.specs.BankStands.{AreJudgesOf, IsJudgeOf, Judging, most_fed}
use Rattle.fail_interval.specs.Meterings.{Feeds}
use Rattle.fail_interval.specs.Row.{row}
use Rattle.fail_interval.specs.Rows.{rows_from, rows_of}
use Rattle.fail_interval.specs.Stands.{StandsFor, count_fed}
use Rattle.fail_interval.specs.Taken.{HasRows}

-- the judges of media and of one more
judges-append : (options : FlowOptions) (file number : ℕ) (ms : List Media) (fs : List (MediaFlow Judging)) (items : List Record) (m : Media)
    (f : MediaFlow Judging)
    → AreJudgesOf options file number ms fs items
    → IsJudgeOf m file (number + length ms) options f items → AreJudgesOf options file number (ms ++ m ∷ []) (fs ++ f ∷ []) items
judges-append options file number [] [] items m f h is = (subst (λ (n : ℕ). IsJudgeOf m file n options f items) (omega arith) is, tt)
judges-append options file number [] (g ∷ fs) items m f h is = absurd h
judges-append options file number (l ∷ ms) [] items m f h is = absurd h
judges-append options file number (l ∷ ms) (g ∷ fs) items m f h is =
    let far : number + length (l ∷ ms) ≡ number + 1 + length ms = omega arith in
    (h.0, judges-append options file (number + 1) ms fs items m f h.1 (subst (λ (n : ℕ). IsJudgeOf m file n options f items) far is))

-- the judges of the first media, and that of the next one
pub judges-more : (options : FlowOptions) (file n : ℕ) (media : List Media) (fs more : List (MediaFlow Judging)) (items : List Record) (m : Media)
    (f : MediaFlow Judging)
    → n < length media
    → get_or media n m ≡ m
    → AreJudgesOf options file 0 (take n media) fs items → IsJudgeOf m file n options f items → more ≡ fs ++ f ∷ []
    → AreJudgesOf options file 0 (take (n + 1) media) more items
judges-more options file n media fs more items m f within at h is e =
    let long : 0 + length (take n media) ≡ n = omega (arith, length-take-le n media (omega arith)) in
    let next : take (n + 1) media ≡ take n media ++ m ∷ [] = take_more media n m within ∙ ap (λ (x : Media). take n media ++ x ∷ []) at in
    subst (λ (l : List Media). AreJudgesOf options file 0 l more items) (sym next)
    (subst (λ (l : List (MediaFlow Judging)). AreJudgesOf options file 0 (take n media ++ m ∷ []) l items) (sym e)
    (judges-append options file 0 (take n media) fs items m f h (subst (λ (x : ℕ). IsJudgeOf m file x options f items) (sym long) is)))

-- by the flow of this media in these records, and by nothing else, the first became the second
abbrev pub TakesFlowOf : Media → (old new : Judging) → List Record → Type 0
TakesFlowOf m old new more = Feeds {Past = Unit {0}} false (λ _ _ _ _ _ _. ⊤) (λ _ _ _ _ _ _. ⊤) m old new more

-- the judge of a media takes the flow of these records too
judge-fed : (m : Media) (file number : ℕ) (options : FlowOptions) (f g : MediaFlow Judging) (items more : List Record) → TakesFlow TakesFlowOf f g more
    → IsJudgeOf m file number options f items
    → IsJudgeOf m file number options g (items ++ more)
judge-fed m file number options f g items more takes h = record {
  media = takes.media ∙ h.media;
  judge = subst (StandsFor m (key_of file number) options g.taker.judge) (sym (filter_map-append (flow_packet m) items more))
      (subst (λ (x : Media). TakesFlowOf x f.taker g.taker more) h.media takes.fed tt (key_of file number) options (flow items m)
      (record { judge_is = h.judge; told = λ wanted. cc })).judge_is;
}

-- and so do all
pub judges-fed : (options : FlowOptions) (file number : ℕ) (ms : List Media) (fs gs : List (MediaFlow Judging)) (items more : List Record)
    → TakesAll TakesFlowOf fs gs more
    → AreJudgesOf options file number ms fs items
    → AreJudgesOf options file number ms gs (items ++ more)
judges-fed options file number [] [] [] items more takes h = tt
judges-fed options file number [] [] (g ∷ gs) items more takes h = absurd takes
judges-fed options file number [] (f ∷ fs) gs items more takes h = absurd h
judges-fed options file number (m ∷ ms) [] gs items more takes h = absurd h
judges-fed options file number (m ∷ ms) (f ∷ fs) [] items more takes h = absurd takes
judges-fed options file number (m ∷ ms) (f ∷ fs) (g ∷ gs) items more takes h =
    (judge-fed m file number options f g items more takes.0 h.0, judges-fed options file (number + 1) ms fs gs items more takes.1 h.1)

-- one more that was fed nothing
pub most-push : (fs : List (MediaFlow Judging)) (f : MediaFlow Judging) → most_fed fs ≡ 0 → count_fed f.taker.judge ≡ 0 → most_fed (fs ++ f ∷ []) ≡ 0
most-push [] f none new = omega (arith, new)
most-push (g ∷ fs) f none new =
    let rest : most_fed fs ≡ 0 = omega (arith, none) in
    omega (arith, none, most-push fs f rest new)

-- where the most packets that a judge was fed leave room, each judge has it, and the other way round
pub each-few : (fs : List (MediaFlow Judging)) (count limit : ℕ) → most_fed fs + count ≤ limit
    → All (λ (f : MediaFlow Judging). count_fed f.taker.judge + count ≤ limit) fs
each-few [] count limit few = All-nil (λ (f : MediaFlow Judging). count_fed f.taker.judge + count ≤ limit)
each-few (f ∷ fs) count limit few =
    All-cons (λ (g : MediaFlow Judging). count_fed g.taker.judge + count ≤ limit) f fs (omega (arith, few)) (each-few fs count limit (omega (arith, few)))

pub most-few : (fs : List (MediaFlow Judging)) (count limit : ℕ) → count ≤ limit
    → All (λ (f : MediaFlow Judging). count_fed f.taker.judge + count ≤ limit) fs
    → most_fed fs + count ≤ limit
most-few [] count limit low each = omega (arith, low)
most-few (f ∷ fs) count limit low each =
    let first : count_fed f.taker.judge + count ≤ limit = All-head (λ (g : MediaFlow Judging). count_fed g.taker.judge + count ≤ limit) f fs each in
    omega (arith, first, most-few fs count limit low (All-tail (λ (g : MediaFlow Judging). count_fed g.taker.judge + count ≤ limit) f fs each))

rows-step : (options : FlowOptions) (file : ℕ) (media : List Media) (items : List Record) (before rows more : List Row) (f : MediaFlow Judging)
    (later : List (MediaFlow Judging)) (r : Row)
    → more ≡ rows ++ r ∷ []
    → ((m : Media) (number : ℕ) → IsJudgeOf m file number options f items → r ≡ row (flow items m) (key_of file number) m options)
    → (number : ℕ) (rest : List Media) → rows ++ rows_from options file number rest items ≡ before ++ rows_of options file media items
    → AreJudgesOf options file number rest (f ∷ later) items
    → HasRows options file media items before more later
rows-step options file media items before rows more f later r pushed is number [] whole h = absurd h
rows-step options file media items before rows more f later r pushed is number (m ∷ ms) whole h =
    let own : r ≡ row (flow items m) (key_of file number) m options = is m number h.0 in
    record {
      number = number + 1;
      rest = ms;
      stands = h.1;
      whole = ap (λ (l : List Row). l ++ rows_from options file (number + 1) ms items) pushed
          ∙ append_assoc rows (r ∷ []) (rows_from options file (number + 1) ms items)
          ∙ ap (λ (x : Row). rows ++ x ∷ rows_from options file (number + 1) ms items) own ∙ whole;
    }

rows-none : (options : FlowOptions) (file : ℕ) (media : List Media) (items : List Record) (before rows : List Row) (number : ℕ) (rest : List Media)
    → rows ++ rows_from options file number rest items ≡ before ++ rows_of options file media items → AreJudgesOf options file number rest [] items
    → rows ≡ before ++ rows_of options file media items
rows-none options file media items before rows number [] whole h = sym (append-nil rows) ∙ whole
rows-none options file media items before rows number (m ∷ ms) whole h = absurd h

-- the rows so far, and the next one
pub rows-more : (options : FlowOptions) (file : ℕ) (media : List Media) (items : List Record) (before rows more : List Row) (f : MediaFlow Judging)
    (left later : List (MediaFlow Judging)) (r : Row)
    → left ≡ f ∷ later → more ≡ rows ++ r ∷ []
    → ((m : Media) (number : ℕ) → IsJudgeOf m file number options f items → r ≡ row (flow items m) (key_of file number) m options)
    → HasRows options file media items before rows left → HasRows options file media items before more later
rows-more options file media items before rows more f left later r e pushed is h =
    rows-step options file media items before rows more f later r pushed is h.number h.rest h.whole
    (subst (λ (l : List (MediaFlow Judging)). AreJudgesOf options file h.number h.rest l items) e h.stands)

-- all rows
pub rows-all : (options : FlowOptions) (file : ℕ) (media : List Media) (items : List Record) (before rows : List Row) (left : List (MediaFlow Judging))
    → length left ≡ 0
    → HasRows options file media items before rows left → rows ≡ before ++ rows_of options file media items
rows-all options file media items before rows [] e h = rows-none options file media items before rows h.number h.rest h.whole h.stands
rows-all options file media items before rows (f ∷ fs) e h = absurd (omega arith)
