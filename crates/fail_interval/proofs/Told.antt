-- The meter of a run is told the run's packets.
use Rattle.std.proofs.Common.{◌≡◌, ◌≤◌, ◌<◌, ◌+◌, ◌^◌, ℕ, suc, Bool, true, false, List, [], ◌∷◌, ◌++◌, length, get_or, slice_index}
use Rattle.std.proofs.Common.{take, take_all, refl, arith, ap, ◌∙◌, sym}
use Rattle.std.proofs.Common.{subst, add-one, Some, None}
use Rattle.std.specs.Prelude.{if◌then◌else◌}
use Rattle.std.proofs.Math.Seq.{take-suc}
use Rattle.std.proofs.lemmas.List.{get_or-map, length-map, map-append, take-map}
use Rattle.timing_base.specs.Shifts.{Shift}
use Rattle.timing_base.specs.Flows.{no_packet, packet}
use Rattle.timing_base.specs.Judged.{stamp_of}
use Rattle.timing_base.specs.Media.{Media}
use Rattle.timing_base.specs.declared.packet.FlowPacket.{FlowPacket}
use Rattle.sender_params.specs.Ticks.{NeverFall}
use Rattle.sender_params.specs.declared.params.Params.{Params}
use Rattle.run_meter.specs.Levels.{IsLevel}
use Rattle.run_meter.specs.Runs.{AreWhole, IsHeadOf, JudgedPart, RunOf, stamps_of, told_of}
use Rattle.run_meter.specs.declared.level.Level.{Level}
use Rattle.run_meter.specs.declared.run.RunHead.{RunHead}
use Rattle.run_meter.specs.declared.run.RunPacket.{RunPacket}
use Rattle.fail_interval.specs.Groups.{CanGoOn}
use Rattle.fail_interval.specs.Metered.{Heads, Keeps, Standing, Telling, kept_of}
use Rattle.fail_interval.specs.Meters.{CanFollow}
use Rattle.fail_interval.specs.Parts.{run_by}
use Rattle.fail_interval.specs.SoFar.{AreStamps, Groups}
use Rattle.fail_interval.specs.declared.first.FirstGroup.{FirstGroup}
use Rattle.fail_interval.specs.declared.first.Kept.{Kept}
use Rattle.fail_interval.specs.declared.run.WholeGroups.{WholeGroups}
use Rattle.fail_interval.proofs.Fit.{before-few}
use Rattle.fail_interval.proofs.Metering.{stamps-take}
use Rattle.fail_interval.proofs.Whole.{can_follow}

-- a call of a meter's `feed`
abbrev pub Fed : {M : Type 0} → Standing M → Params → (old new : M) → RunPacket → Level → Type 0
Fed stands params old new told level = (shift : Shift) (r : RunOf) (fed committed : List FlowPacket) (p : FlowPacket) → r.n ≡ params.n → told ≡ told_of shift p
    → length fed < 2 ^ 41
    → NeverFall (stamps_of shift (fed ++ p ∷ []))
    → IsLevel params.media r.n (stamps_of shift (fed ++ p ∷ [])) (length fed) level
    → stands old params.media shift r fed committed
    → stands new params.media shift r (fed ++ p ∷ []) committed

-- the stamps of one packet more
pub stamps_of-next : (shift : Shift) (fed : List FlowPacket) (p : FlowPacket) → stamps_of shift (fed ++ p ∷ []) ≡ stamps_of shift fed ++ stamp_of shift p ∷ []
stamps_of-next shift fed p = map-append (stamp_of shift) fed (p ∷ [])

-- a packet may follow those fed, and this is its level
pub fed-told : {M : Type 0} (stands : Standing M) (params : Params) (old new : M) (told : RunPacket) (level : Level) (shift : Shift) (r : RunOf)
    (fed committed : List FlowPacket) (p : FlowPacket) (stamps : List ℕ)
    → Fed stands params old new told level
    → stamps ≡ stamps_of shift fed → AreStamps (stamps ++ told.at ∷ [])
    → IsLevel params.media params.n (stamps ++ told.at ∷ []) (length stamps) level
    → r.n ≡ params.n → told ≡ told_of shift p
    → stands old params.media shift r fed committed
    → stands new params.media shift r (fed ++ p ∷ []) committed
fed-told stands params old new told level shift r fed committed p stamps feeds is fit at_level n packet_is stood =
    let all : stamps ++ told.at ∷ [] ≡ stamps_of shift (fed ++ p ∷ []) =
    ap (λ xs. xs ++ told.at ∷ []) is
    ∙ (ap (λ (t : RunPacket). stamps_of shift fed ++ t.at ∷ []) packet_is ∙ sym (stamps_of-next shift fed p)) in
    let size : length stamps ≡ length fed = ap length is ∙ length-map fed (stamp_of shift) in
    let more = subst AreStamps all fit in
    let few : length fed < 2 ^ 41 = omega (arith, before-few stamps told.at fit, size) in
    feeds shift r fed committed p n packet_is few more.ordered
    (subst (λ k. IsLevel params.media k (stamps_of shift (fed ++ p ∷ [])) (length fed) level) (sym n)
    (subst (λ i. IsLevel params.media params.n (stamps_of shift (fed ++ p ∷ [])) i level) size
    (subst (λ xs. IsLevel params.media params.n xs (length stamps) level) all at_level)))
    stood

-- what is told of a packet by its parts
abbrev pub told_by : ℕ → ℕ → ℕ → RunPacket
told_by rec at timestamp = record { rec = rec; at = at; timestamp = timestamp }

pub told-same : (rec also at too timestamp more : ℕ) → rec ≡ also → at ≡ too → timestamp ≡ more → told_by rec at timestamp ≡ told_by also too more
told-same rec also at too timestamp more e f g = cc

-- the next packet of a first group
pub first-next : {M : Type 0} (stands : Standing M) (params : Params) (old new : M) (group : FirstGroup) (stamps : List ℕ) (keeps : List Kept) (i : ℕ)
    (kept : Kept)
    (level : Level) (shift : Shift) (r : RunOf) (packets : List FlowPacket)
    → stamps ≡ group.stamps.items → keeps ≡ group.kept.items
    → AreStamps stamps → i < length stamps
    → kept ≡ get_or keeps i kept
    → IsLevel params.media params.n (take i stamps ++ slice_index stamps i ∷ []) (length (take i stamps)) level
    → Fed stands params old new (record { rec = kept.rec; at = slice_index stamps i; timestamp = kept.timestamp }) level
    → r.n ≡ params.n → Keeps shift group packets
    → stands old params.media shift r (take i packets) []
    → stands new params.media shift r (take (i + 1) packets) []
first-next stands params old new group stamps keeps i kept level shift r packets stamps_are keeps_are fit few here at_level feeds n kept_so stood =
    let p = packet packets i in
    let all : stamps ≡ stamps_of shift packets = stamps_are ∙ kept_so.stamps in
    let size : length stamps ≡ length packets = ap length all ∙ length-map packets (stamp_of shift) in
    let within : i < length packets = omega (arith, few, size) in
    let at : slice_index stamps i ≡ stamp_of shift p = ap (λ xs. slice_index xs i) all ∙ get_or-map (stamp_of shift) packets i no_packet 0 within in
    let is : kept ≡ kept_of p =
    here ∙ (ap (λ xs. get_or xs i kept) (keeps_are ∙ kept_so.kept) ∙ get_or-map kept_of packets i no_packet kept within) in
    let before : take i stamps ≡ stamps_of shift (take i packets) = ap (take i) all ∙ take-map (stamp_of shift) i packets in
    let next : take (i + 1) packets ≡ take i packets ++ p ∷ [] = ap (λ k. take k packets) (add-one i) ∙ take-suc packets i no_packet within in
    let told : RunPacket = record { rec = kept.rec; at = slice_index stamps i; timestamp = kept.timestamp } in
    let packet_is : told ≡ told_of shift p =
    told-same _ _ _ _ _ _ (ap (λ (k : Kept). k.rec) is) at (ap (λ (k : Kept). k.timestamp) is) in
    let taken : AreStamps (take i stamps ++ slice_index stamps i ∷ []) =
    subst AreStamps (take-suc stamps i 0 few) (stamps-take stamps (suc i) (omega (arith, few)) fit) in
    subst (λ xs. stands new params.media shift r xs []) (sym next)
    (fed-told stands params old new told level shift r (take i packets) [] p (take i stamps) feeds before taken at_level n packet_is stood)

-- all packets of a first group
pub first-all : {M : Type 0} (stands : Standing M) (m : Media) (meter : M) (group : FirstGroup) (stamps : List ℕ) (i : ℕ) (shift : Shift) (r : RunOf)
    (packets : List FlowPacket)
    → stamps ≡ group.stamps.items → length stamps ≤ i → Keeps shift group packets
    → stands meter m shift r (take i packets) []
    → stands meter m shift r packets []
first-all stands m meter group stamps i shift r packets stamps_are many kept_so stood =
    let size : length stamps ≡ length packets = ap length (stamps_are ∙ kept_so.stamps) ∙ length-map packets (stamp_of shift) in
    subst (λ xs. stands meter m shift r xs []) (take_all i packets (omega (arith, many, size))) stood

-- each of them is kept
pub kept-size : (shift : Shift) (group : FirstGroup) (packets : List FlowPacket) → Keeps shift group packets
    → length group.kept.items ≡ length group.stamps.items
kept-size shift group packets kept_so =
    ap length kept_so.kept ∙ (length-map packets kept_of ∙ sym (ap length kept_so.stamps ∙ length-map packets (stamp_of shift)))

-- a call of `put` of a run with a whole group
abbrev pub Put : {M : Type 0} → Standing M → (old new : WholeGroups M) → RunPacket → Type 0
Put stands old new told = (shift : Shift) (r : RunOf) (p : FlowPacket) (fed committed : List FlowPacket) → CanFollow old.params old.meters
    (stamps_of shift fed) told.at
    → r.n ≡ old.params.n → told ≡ told_of shift p
    → stands old.meter old.params.media shift r fed committed
    → stands new.meter old.params.media shift r (fed ++ p ∷ []) committed

-- the meter of such a run is told a packet
pub put-told : {M : Type 0} (stands : Standing M) (m : Media) (old new : WholeGroups M) (so_far : Groups) (told : RunPacket) (marker : Bool) (shift : Shift)
    (number : ℕ)
    (first p : FlowPacket) (fed committed : List FlowPacket)
    → new.params ≡ old.params
    → Put stands old new told
    → CanGoOn m old so_far told.at marker
    → so_far.stamps ≡ stamps_of shift fed → told ≡ told_of shift p
    → stands old.meter m shift (run_by number first old.params.n) fed committed
    → stands new.meter m shift (run_by number first new.params.n) (fed ++ p ∷ []) committed
put-told stands m old new so_far told marker shift number first p fed committed params put c stamps packet_is stood =
    let r : RunOf = run_by number first old.params.n in
    let follows = subst (λ xs. CanFollow old.params old.meters xs told.at) stamps (can_follow m old so_far told.at marker c) in
    let fed_so = put shift r p fed committed follows refl packet_is (subst (λ k. stands old.meter k shift r fed committed) (sym c.is.media) stood) in
    subst (λ (k : Params). stands new.meter m shift (run_by number first k.n) (fed ++ p ∷ []) committed) (sym params)
    (subst (λ k. stands new.meter k shift r (fed ++ p ∷ []) committed) c.is.media fed_so)

-- a call of a meter's `commit`
pub record Commits {M Out Past : Type 0} (stands : Standing M) (tells : Telling Past Out) (params : Params) (old new : M) (before after : Out) : Type 0 where
  pub told_so : (shift : Shift) (r : RunOf) (fed committed : List FlowPacket) → r.n ≡ params.n → AreWhole r.n fed
      → stands old params.media shift r fed committed
      → stands new params.media shift r fed fed
  pub tells_so : (past : Past) (shift : Shift) (r : RunOf) (over : List JudgedPart) (fed committed : List FlowPacket) → r.n ≡ params.n → AreWhole r.n fed
      → stands old params.media shift r fed committed
      → tells past before params.media shift over (Some (record { run = r; packets = committed }))
      → tells past after params.media shift over (Some (record { run = r; packets = fed }))

-- the run's packets so far are committed, and the output tells of them
pub record AreTold {M Out Past : Type 0} (stands : Standing M) (tells : Telling Past Out) (past : Past) (m : Media) (shift : Shift) (meter : M) (out : Out)
    (r : RunOf)
    (over : List JudgedPart) (fed committed : List FlowPacket) : Type 0 where
  pub stands_so : stands meter m shift r fed committed
  pub tells_so : tells past out m shift over (Some (record { run = r; packets = committed }))

pub commit-told : {M Out Past : Type 0} (stands : Standing M) (tells : Telling Past Out) (past : Past) (m : Media) (params : Params) (old new : M)
    (before after : Out) (shift : Shift) (r : RunOf) (over : List JudgedPart) (fed committed : List FlowPacket)
    → params.media ≡ m → r.n ≡ params.n → AreWhole r.n fed
    → Commits stands tells params old new before after
    → AreTold stands tells past m shift old before r over fed committed
    → AreTold stands tells past m shift new after r over fed fed
commit-told stands tells past m params old new before after shift r over fed committed media n whole commits was =
    let stood = subst (λ k. stands old k shift r fed committed) (sym media) was.stands_so in
    record {
      stands_so = subst (λ k. stands new k shift r fed fed) media (commits.told_so shift r fed committed n whole stood);
      tells_so = subst (λ k. tells past after k shift over (Some (record { run = r; packets = fed }))) media
          (commits.tells_so past shift r over fed committed n whole stood
          (subst (λ k. tells past before k shift over (Some (record { run = r; packets = committed }))) (sym media) was.tells_so));
    }

-- where the packet has no marker nothing is committed
pub unmarked-told : {M Out Past : Type 0} (stands : Standing M) (tells : Telling Past Out) (past : Past) (m : Media) (old new : WholeGroups M) (out : Out)
    (so_far : Groups) (told : RunPacket) (marker : Bool) (shift : Shift) (number : ℕ) (first p : FlowPacket) (over : List JudgedPart)
    (fed committed : List FlowPacket)
    → marker ≡ false
    → new.params ≡ old.params
    → Put stands old new told
    → CanGoOn m old so_far told.at marker
    → so_far.stamps ≡ stamps_of shift fed → told ≡ told_of shift p
    → AreTold stands tells past m shift old.meter out (run_by number first old.params.n) over fed committed
    → AreTold stands tells past m shift new.meter out (run_by number first new.params.n) over (fed ++ p ∷ []) (if marker then fed ++ p ∷ [] else committed)
unmarked-told stands tells past m old new out so_far told true shift number first p over fed committed e params put c stamps packet_is was = cc
unmarked-told stands tells past m old new out so_far told false shift number first p over fed committed e params put c stamps packet_is was = record {
  stands_so = put-told stands m old new so_far told false shift number first p fed committed params put c stamps packet_is was.stands_so;
  tells_so = subst (λ (k : Params). tells past out m shift over (Some (record { run = run_by number first k.n; packets = committed })))
      (sym params) was.tells_so;
}

-- where it has the marker all packets so far are
pub marked-told : {M Out Past : Type 0} (stands : Standing M) (tells : Telling Past Out) (past : Past) (m : Media) (old mid new : WholeGroups M)
    (before after : Out)
    (so_far : Groups) (told : RunPacket) (marker : Bool) (shift : Shift) (number : ℕ) (first p : FlowPacket) (over : List JudgedPart)
    (fed committed : List FlowPacket)
    → marker ≡ true
    → mid.params ≡ old.params → new.params ≡ mid.params
    → Put stands old mid told
    → Commits stands tells mid.params mid.meter new.meter before after
    → CanGoOn m old so_far told.at marker
    → so_far.stamps ≡ stamps_of shift fed → told ≡ told_of shift p
    → (marker ≡ true → AreWhole so_far.n (fed ++ p ∷ []))
    → AreTold stands tells past m shift old.meter before (run_by number first old.params.n) over fed committed
    → AreTold stands tells past m shift new.meter after (run_by number first new.params.n) over (fed ++ p ∷ []) (if marker then fed ++ p ∷ [] else committed)
marked-told stands tells past m old mid new before after so_far told false shift number first p over fed committed e params more put commits c stamps packet_is
    whole was =
    cc
marked-told stands tells past m old mid new before after so_far told true shift number first p over fed committed e params more put commits c stamps packet_is
    whole was =
    let media : mid.params.media ≡ m = ap (λ (k : Params). k.media) params ∙ c.is.media in
    let n : mid.params.n ≡ so_far.n = ap (λ (k : Params). k.n) params ∙ c.is.n in
    let now : AreTold stands tells past m shift mid.meter before (run_by number first mid.params.n) over (fed ++ p ∷ []) committed = record {
      stands_so = put-told stands m old mid so_far told true shift number first p fed committed params put c stamps packet_is was.stands_so;
      tells_so = subst (λ (k : Params). tells past before m shift over (Some (record { run = run_by number first k.n; packets = committed }))) (sym params)
          was.tells_so;
    } in
    subst (λ (k : Params). AreTold stands tells past m shift new.meter after (run_by number first k.n) over (fed ++ p ∷ []) (fed ++ p ∷ [])) (sym more)
    (commit-told stands tells past m mid.params mid.meter new.meter before after shift (run_by number first mid.params.n) over (fed ++ p ∷ []) committed
    media refl (subst (λ k. AreWhole k (fed ++ p ∷ [])) (sym n) (whole refl)) commits now)

-- the first group is whole: the meter begins, is told its packets and commits
pub begun-told : {M Out Past : Type 0} (stands : Standing M) (tells : Telling Past Out) (past : Past) (m : Media) (params : Params) (fresh met new : M)
    (before after : Out) (shift : Shift) (run : RunHead) (opening : FlowPacket) (group : FirstGroup) (over : List JudgedPart) (packets : List FlowPacket)
    → params.media ≡ m → params.n ≡ length group.stamps.items → 1 ≤ length group.stamps.items
    → ((past : Past) (out : Out) (m : Media) (shift : Shift) (over : List JudgedPart) (r : RunOf) → tells past out m shift over None
    → tells past out m shift over (Some (record { run = r; packets = [] })))
    → ((shift : Shift) (r : RunOf) → IsHeadOf r run → r.n ≡ params.n → stands fresh params.media shift r [] [])
    → ((shift : Shift) (r : RunOf) (packets : List FlowPacket) → r.n ≡ params.n → Keeps shift group packets → stands fresh params.media shift r [] []
    → stands met params.media shift r packets [])
    → Commits stands tells params met new before after
    → Heads opening run → Keeps shift group packets
    → tells past before m shift over None
    → AreTold stands tells past m shift new after (run_by run.run opening params.n) over packets packets
begun-told stands tells past m params fresh met new before after shift run opening group over packets media n some opens begins feeds commits heads kept_so
    telling =
    let r : RunOf = run_by run.run opening params.n in
    let size : length group.stamps.items ≡ length packets = ap length kept_so.stamps ∙ length-map packets (stamp_of shift) in
    let whole : AreWhole params.n packets = record { groups = 1; some = omega arith; are = omega (arith, n, size) } in
    let stood = feeds shift r packets refl kept_so (begins shift r (record { run = refl; rec = heads.rec; number = heads.number }) refl) in
    commit-told stands tells past m params met new before after shift r over packets [] media refl whole commits record {
      stands_so = subst (λ k. stands met k shift r packets []) media stood;
      tells_so = opens past before m shift over r telling;
    }
