-- The meter of a run is told each packet of the run, and closes with it.
use Rattle.std.proofs.Common.{◌≡◌, ◌≤◌, ◌-◌, ◌*◌, ℕ, Bool, true, false, List, [], ◌∷◌, ◌++◌, length, map, Some, None, refl}
use Rattle.std.proofs.Common.{ap, ◌∙◌}
use Rattle.std.proofs.Common.{sym, subst}
use Rattle.std.specs.Prelude.{if◌then◌else◌}
use Rattle.std.proofs.lemmas.List.{map-append}
use Rattle.timing_base.specs.Shifts.{Shift}
use Rattle.timing_base.specs.Judged.{stamp_of}
use Rattle.timing_base.specs.Media.{Media}
use Rattle.timing_base.specs.Verdicts.{Judged}
use Rattle.timing_base.specs.declared.media.Kind.TheVariants.{N, NL, W}
use Rattle.timing_base.specs.declared.packet.FlowPacket.{FlowPacket}
use Rattle.timing_base.specs.declared.row.KindVerdict.{KindVerdict}
use Rattle.run_meter.specs.Runs.{AreWhole, IsJudgedOf, JudgedPart, NameFirst, RunOf, part_of, stamps_of, told_of}
use Rattle.run_meter.specs.declared.run.RunHead.{RunHead}
use Rattle.run_meter.specs.declared.run.RunPacket.{RunPacket}
use Rattle.fail_interval.specs.Fails.{kind_verdict}
use Rattle.fail_interval.specs.Groups.{CanGoOn as CanAdd, IsWhole}
use Rattle.fail_interval.specs.Metered.{AreJudged, EndsWhole, HaveStamps, HaveWhole, Heads, Keeps, Standing, Telling, TellsOf, committed_next, fed_next}
use Rattle.fail_interval.specs.Metered.{kept_of}
use Rattle.fail_interval.specs.Parts.{part_by, run_by}
use Rattle.fail_interval.specs.Row.{judged_values}
use Rattle.fail_interval.specs.Runs.{CanGoOn, StandsFor}
use Rattle.fail_interval.specs.SoFar.{Groups as GroupsSoFar, SoFar, in_first, in_groups, in_head, outcome_of}
use Rattle.fail_interval.specs.declared.first.FirstGroup.{FirstGroup}
use Rattle.fail_interval.specs.declared.first.Kept.{Kept}
use Rattle.fail_interval.specs.declared.run.RunJudge.{RunJudge}
use Rattle.fail_interval.specs.declared.run.RunJudge.TheVariants.{First, Groups}
use Rattle.fail_interval.specs.declared.run.WholeGroups.{WholeGroups}
use Rattle.fail_interval.proofs.Confirmed.{names-first}

-- what is judged of a run names the first packet that breaks each type
names : (m : Media) (n more : ℕ) (stamps also : List ℕ) (kinds : List KindVerdict) → more ≡ n → also ≡ stamps
    → kinds ≡ kind_verdict m n stamps N ∷ kind_verdict m n stamps NL ∷ kind_verdict m n stamps W ∷ []
    → NameFirst m more also kinds
names m n more stamps also kinds e f is =
    subst (λ k. NameFirst m k also kinds) (sym e)
    (subst (λ xs. NameFirst m n xs kinds) (sym f)
    (subst (NameFirst m n stamps) (sym is) (names-first m n stamps N, names-first m n stamps NL, names-first m n stamps W)))

-- this is judged of the packets of whole groups
pub judged-of : {M : Type 0} (m : Media) (judge : WholeGroups M) (g : GroupsSoFar) (shift : Shift) (number : ℕ) (first : FlowPacket)
    (committed : List FlowPacket)
    (values : Judged)
    → IsWhole m judge g → AreJudged shift g committed
    → values ≡ judged_values m (record {
      n = g.n;
      groups = g.groups;
      head = g.head;
      tail = length g.stamps - length g.whole;
      stamps = g.whole;
    })
    → IsJudgedOf m shift (run_by number first judge.params.n) committed values
judged-of m judge g shift number first committed values is are told = record {
  n_is = ap (λ (j : Judged). j.n) told ∙ sym is.n;
  some = subst (λ k. 1 ≤ k) (sym (ap (λ (j : Judged). j.frames) told)) are.some;
  whole = are.are ∙ (ap (λ k. k * g.groups) (sym is.n) ∙ ap (λ k. judge.params.n * k) (sym (ap (λ (j : Judged). j.frames) told)));
  names = names m g.n judge.params.n g.whole (stamps_of shift committed) values.kinds is.n are.stamps (ap (λ (j : Judged). j.kinds) told);
}

-- a call of a meter's `close`
abbrev pub Closes : {M Out Past : Type 0} → Standing M → Telling Past Out → (judge : WholeGroups M) → Judged → (before after : Out) → Type 0
Closes {Past = Past} stands tells judge values before after =
    (past : Past) (shift : Shift) (r : RunOf) (over : List JudgedPart) (fed committed : List FlowPacket) → r.n ≡ judge.params.n
    → IsJudgedOf judge.params.media shift r committed values
    → stands judge.meter judge.params.media shift r fed committed
    → tells past before judge.params.media shift over (Some (record { run = r; packets = committed }))
    → tells past after judge.params.media shift (over ++ part_of r values committed ∷ []) None

-- of a run with a whole group that closes
pub close-told : {M Out Past : Type 0} (stands : Standing M) (tells : Telling Past Out) (past : Past) (m : Media) (judge : WholeGroups M) (g : GroupsSoFar)
    (values : Judged) (before after : Out) (shift : Shift) (number : ℕ) (first : FlowPacket) (over : List JudgedPart) (fed committed : List FlowPacket)
    → Closes stands tells judge values before after
    → IsWhole m judge g → AreJudged shift g committed
    → values ≡ judged_values m (record {
      n = g.n;
      groups = g.groups;
      head = g.head;
      tail = length g.stamps - length g.whole;
      stamps = g.whole;
    })
    → stands judge.meter m shift (run_by number first judge.params.n) fed committed
    → tells past before m shift over (Some (record { run = run_by number first judge.params.n; packets = committed }))
    → tells past after m shift (over ++ part_of (run_by number first judge.params.n) values committed ∷ []) None
close-told stands tells past m judge g values before after shift number first over fed committed closes is are told stood telling =
    let r : RunOf = run_by number first judge.params.n in
    let media : judge.params.media ≡ m = is.media in
    subst (λ k. tells past after k shift (over ++ part_of r values committed ∷ []) None) media
    (closes past shift r over fed committed refl
    (subst (λ k. IsJudgedOf k shift r committed values) (sym media) (judged-of m judge g shift number first committed values is are told))
    (subst (λ k. stands judge.meter k shift r fed committed) (sym media) stood)
    (subst (λ k. tells past before k shift over (Some (record { run = r; packets = committed }))) (sym media) telling))

-- a call of `close` of a run with a whole group
pub record GroupsClose {M Out Past : Type 0} (stands : Standing M) (tells : Telling Past Out) (judge : WholeGroups M) (values : Judged)
    (before after : Out) : Type 0 where
  pub judged : (m : Media) (g : GroupsSoFar) → IsWhole m judge g → values ≡ judged_values m (record {
    n = g.n;
    groups = g.groups;
    head = g.head;
    tail = length g.stamps - length g.whole;
    stamps = g.whole;
  })
  pub closes : (past : Past) (m : Media) (g : GroupsSoFar) (shift : Shift) (number : ℕ) (first : FlowPacket) (over : List JudgedPart)
      (fed committed : List FlowPacket)
      → IsWhole m judge g → AreJudged shift g committed
      → stands judge.meter m shift (run_by number first judge.params.n) fed committed
      → tells past before m shift over (Some (record { run = run_by number first judge.params.n; packets = committed }))
      → tells past after m shift (over ++ part_of (run_by number first judge.params.n) values committed ∷ []) None

close-case : {M Out Past : Type 0} (stands : Standing M) (tells : Telling Past Out) (past : Past) (m : Media) (groups : WholeGroups M) (values : Judged)
    (before after : Out) (shift : Shift) (number : ℕ) (first : FlowPacket) (over : List JudgedPart) (so_far : SoFar) (fed committed : List FlowPacket)
    → GroupsClose stands tells groups values before after
    → StandsFor m (Groups groups) so_far → HaveWhole shift so_far committed
    → TellsOf stands tells past m shift number first over (Groups groups) before fed committed
    → tells past after m shift (over ++ part_by m number first committed (outcome_of so_far)) None
close-case stands tells past m groups values before after shift number first over (in_head head) fed committed close s whole was = absurd s
close-case stands tells past m groups values before after shift number first over (in_first head stamps) fed committed close s whole was = absurd s
close-case stands tells past m groups values before after shift number first over (in_groups g) fed committed close s whole was =
    let with_values : Judged → List JudgedPart = λ j. over ++ part_of (run_by number first groups.params.n) j committed ∷ [] in
    subst (λ parts. tells past after m shift parts None) (ap with_values (close.judged m g s))
    (close.closes past m g shift number first over fed committed s whole was.told was.out_tells)

-- the run with a whole group is over
pub close-tells : {M Out Past : Type 0} (stands : Standing M) (tells : Telling Past Out) (past : Past) (m : Media) (judge : RunJudge M) (groups : WholeGroups M)
    (values : Judged) (before after : Out) (shift : Shift) (number : ℕ) (first : FlowPacket) (over : List JudgedPart) (so_far : SoFar)
    (fed committed : List FlowPacket)
    → judge ≡ Groups groups
    → GroupsClose stands tells groups values before after
    → StandsFor m judge so_far → HaveWhole shift so_far committed
    → TellsOf stands tells past m shift number first over judge before fed committed
    → tells past after m shift (over ++ part_by m number first committed (outcome_of so_far)) None
close-tells stands tells past m judge groups values before after shift number first over so_far fed committed e close s whole was =
    close-case stands tells past m groups values before after shift number first over so_far fed committed close
    (subst (λ (j : RunJudge _). StandsFor m j so_far) e s) whole
    (subst (λ (j : RunJudge _). TellsOf stands tells past m shift number first over j before fed committed) e was)

-- a call of `feed` of a run with a whole group
abbrev pub GroupsTold : {M Out Past : Type 0} → Standing M → Telling Past Out → (old new : WholeGroups M) → (before after : Out) → RunPacket → Bool → Type 0
GroupsTold {Past = Past} stands tells old new before after told marker =
    (past : Past) (m : Media) (g : GroupsSoFar) (shift : Shift) (number : ℕ) (first p : FlowPacket) (over : List JudgedPart) (fed committed : List FlowPacket)
    → CanAdd m old g told.at marker
    → g.stamps ≡ stamps_of shift fed → told ≡ told_of shift p
    → (marker ≡ true → AreWhole g.n (fed ++ p ∷ []))
    → stands old.meter m shift (run_by number first old.params.n) fed committed
    → tells past before m shift over (Some (record { run = run_by number first old.params.n; packets = committed }))
    → stands new.meter m shift (run_by number first new.params.n) (fed ++ p ∷ []) (if marker then fed ++ p ∷ [] else committed)
    × tells past after m shift over (Some (record {
      run = run_by number first new.params.n;
      packets = if marker then fed ++ p ∷ [] else committed;
    }))

groups-case : {M Out Past : Type 0} (stands : Standing M) (tells : Telling Past Out) (past : Past) (m : Media) (groups new : WholeGroups M) (before after : Out)
    (told : RunPacket) (marker : Bool) (shift : Shift) (number : ℕ) (first p : FlowPacket) (over : List JudgedPart) (so_far : SoFar)
    (fed committed : List FlowPacket)
    → GroupsTold stands tells groups new before after told marker
    → CanGoOn m (Groups groups) so_far told.at marker → told ≡ told_of shift p
    → HaveStamps so_far (stamps_of shift fed) → EndsWhole so_far marker (fed ++ p ∷ [])
    → TellsOf stands tells past m shift number first over (Groups groups) before fed committed
    → TellsOf stands tells past m shift number first over (Groups new) after (fed_next so_far fed p) (committed_next so_far marker fed committed p)
groups-case stands tells past m groups new before after told marker shift number first p over (in_head head) fed committed calls c is stamps whole was =
    absurd c.stands
groups-case stands tells past m groups new before after told marker shift number first p over (in_first head seen) fed committed calls c is stamps whole was =
    absurd c.stands
groups-case stands tells past m groups new before after told true shift number first p over (in_groups g) fed committed calls c is stamps whole was =
    let now = calls past m g shift number first p over fed committed (record { is = c.stands; fits = c.fits }) stamps is (λ _. whole) was.told was.out_tells in
    record { told = now.0; out_tells = now.1 }
groups-case stands tells past m groups new before after told false shift number first p over (in_groups g) fed committed calls c is stamps whole was =
    let now = calls past m g shift number first p over fed committed (record { is = c.stands; fits = c.fits }) stamps is (λ e. cc) was.told was.out_tells in
    record { told = now.0; out_tells = now.1 }

-- the run with a whole group takes a packet
pub groups-tells : {M Out Past : Type 0} (stands : Standing M) (tells : Telling Past Out) (past : Past) (m : Media) (judge : RunJudge M)
    (groups new : WholeGroups M)
    (before after : Out) (told : RunPacket) (marker : Bool) (shift : Shift) (number : ℕ) (first p : FlowPacket) (over : List JudgedPart) (so_far : SoFar)
    (fed committed : List FlowPacket)
    → judge ≡ Groups groups
    → GroupsTold stands tells groups new before after told marker
    → CanGoOn m judge so_far told.at marker → told ≡ told_of shift p
    → HaveStamps so_far (stamps_of shift fed) → EndsWhole so_far marker (fed ++ p ∷ [])
    → TellsOf stands tells past m shift number first over judge before fed committed
    → TellsOf stands tells past m shift number first over (Groups new) after (fed_next so_far fed p) (committed_next so_far marker fed committed p)
groups-tells stands tells past m judge groups new before after told marker shift number first p over so_far fed committed e calls c is stamps whole was =
    groups-case stands tells past m groups new before after told marker shift number first p over so_far fed committed calls
    (subst (λ (j : RunJudge _). CanGoOn m j so_far told.at marker) e c) is stamps whole
    (subst (λ (j : RunJudge _). TellsOf stands tells past m shift number first over j before fed committed) e was)

-- a call of `feed_within` of a run with a whole group
abbrev pub WithinTold : {M : Type 0} → Standing M → (old new : WholeGroups M) → RunPacket → Type 0
WithinTold stands old new told = (m : Media) (g : GroupsSoFar) (shift : Shift) (number : ℕ) (first p : FlowPacket) (fed committed : List FlowPacket)
    → CanAdd m old g told.at false
    → g.stamps ≡ stamps_of shift fed → told ≡ told_of shift p
    → stands old.meter m shift (run_by number first old.params.n) fed committed
    → stands new.meter m shift (run_by number first new.params.n) (fed ++ p ∷ []) committed

-- is one of `feed` without the marker, and the output stays
pub within-groups : {M Out Past : Type 0} (stands : Standing M) (tells : Telling Past Out) (old new : WholeGroups M) (out : Out) (told : RunPacket)
    → new.params.n ≡ old.params.n
    → WithinTold stands old new told
    → GroupsTold stands tells old new out out told false
within-groups stands tells old new out told n calls past m g shift number first p over fed committed c stamps is whole stood telling = (
  calls m g shift number first p fed committed c stamps is stood,
  subst (λ k. tells past out m shift over (Some (record { run = run_by number first k; packets = committed }))) (sym n) telling,
)

-- a first group with one packet more
pub keeps-more : (shift : Shift) (group new : FirstGroup) (told : RunPacket) (fed : List FlowPacket) (p : FlowPacket) → told ≡ told_of shift p
    → new.stamps.items ≡ group.stamps.items ++ told.at ∷ []
    → new.kept.items ≡ group.kept.items ++ record { rec = told.rec; timestamp = told.timestamp } ∷ []
    → Keeps shift group fed
    → Keeps shift new (fed ++ p ∷ [])
keeps-more shift group new told fed p is stamps kept was =
    let keep : RunPacket → Kept = λ t. record { rec = t.rec; timestamp = t.timestamp } in
    record {
      stamps = stamps ∙ (ap (λ xs. xs ++ told.at ∷ []) was.stamps
          ∙ (ap (λ (t : RunPacket). stamps_of shift fed ++ t.at ∷ []) is ∙ sym (map-append (stamp_of shift) fed (p ∷ []))));
      kept = kept ∙ (ap (λ xs. xs ++ keep told ∷ []) was.kept
          ∙ (ap (λ (t : RunPacket). map kept_of fed ++ keep t ∷ []) is ∙ sym (map-append kept_of fed (p ∷ []))));
    }

-- a call of `begin_groups`
abbrev pub Begins : {M Out Past : Type 0} → Standing M → Telling Past Out → Media → (old new : RunJudge M) → (before after : Out) → RunHead → Type 0
Begins {Past = Past} stands tells m old new before after head =
    (past : Past) (shift : Shift) (first : FlowPacket) (over : List JudgedPart) (packets : List FlowPacket) (count : ℕ) (group : FirstGroup)
    → old ≡ First count group → Heads first head
    → Keeps shift group packets
    → tells past before m shift over None
    → TellsOf stands tells past m shift head.run first over new after packets packets

first-case : {M Out Past : Type 0} (stands : Standing M) (tells : Telling Past Out) (past : Past) (m : Media) (count : ℕ) (group more : FirstGroup)
    (mid new : RunJudge M) (before after : Out) (head : RunHead) (told : RunPacket) (shift : Shift) (first p : FlowPacket) (over : List JudgedPart)
    (so_far : SoFar)
    (fed committed : List FlowPacket)
    → mid ≡ First count more
    → more.stamps.items ≡ group.stamps.items ++ told.at ∷ []
    → more.kept.items ≡ group.kept.items ++ record { rec = told.rec; timestamp = told.timestamp } ∷ []
    → Begins stands tells m mid new before after head
    → StandsFor {M = M} m (First count group) so_far → told ≡ told_of shift p → Heads first head
    → TellsOf {M = M} stands tells past m shift head.run first over (First count group) before fed committed
    → TellsOf stands tells past m shift head.run first over new after (fed_next so_far fed p) (committed_next so_far true fed committed p)
first-case stands tells past m count group more mid new before after head told shift first p over (in_head h) fed committed e stamps kept begins s is heads was
    = absurd s
first-case stands tells past m count group more mid new before after head told shift first p over (in_groups g) fed committed e stamps kept begins s is heads
    was =
    absurd s
first-case stands tells past m count group more mid new before after head told shift first p over (in_first h seen) fed committed e stamps kept begins s is
    heads was =
    begins past shift first over (fed ++ p ∷ []) count more e heads (keeps-more shift group more told fed p is stamps kept was.told.0) was.out_tells

-- the first group is whole with this packet
pub first-tells : {M Out Past : Type 0} (stands : Standing M) (tells : Telling Past Out) (past : Past) (m : Media) (judge : RunJudge M) (count : ℕ)
    (group more : FirstGroup) (mid new : RunJudge M) (before after : Out) (head : RunHead) (told : RunPacket) (marker : Bool) (shift : Shift)
    (first p : FlowPacket)
    (over : List JudgedPart) (so_far : SoFar) (fed committed : List FlowPacket)
    → judge ≡ First count group → marker ≡ true
    → mid ≡ First count more
    → more.stamps.items ≡ group.stamps.items ++ told.at ∷ []
    → more.kept.items ≡ group.kept.items ++ record { rec = told.rec; timestamp = told.timestamp } ∷ []
    → Begins stands tells m mid new before after head
    → CanGoOn m judge so_far told.at marker → told ≡ told_of shift p → Heads first head
    → TellsOf stands tells past m shift head.run first over judge before fed committed
    → TellsOf stands tells past m shift head.run first over new after (fed_next so_far fed p) (committed_next so_far marker fed committed p)
first-tells {M} stands tells past m judge count group more mid new before after head told marker shift first p over so_far fed committed e marked e_mid stamps
    kept begins
    c is heads was =
    subst (λ b. TellsOf stands tells past m shift head.run first over new after (fed_next so_far fed p) (committed_next so_far b fed committed p)) (sym marked)
    (first-case stands tells past m count group more mid new before after head told shift first p over so_far fed committed e_mid stamps kept begins
    (subst (λ (j : RunJudge M). StandsFor m j so_far) e c.stands) is heads
    (subst (λ (j : RunJudge M). TellsOf stands tells past m shift head.run first over j before fed committed) e was))
