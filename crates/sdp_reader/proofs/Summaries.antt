-- What is kept of raw parts is what the definitions say of them.
use Rattle.std.proofs.Common.{◌≡◌, ◌<◌, ◌==◌, ◌+◌, ◌&&◌, ◌||◌, ℕ, Bool, true, false, cond, arith, List, [], ◌∷◌, ◌++◌, Option, Some, None, map, length, take}
use Rattle.std.proofs.Common.{drop, get_or, refl, sym, ap, ◌∙◌, subst, append_assoc}
use Rattle.std.specs.Option.{option_to_list, option_map, option_and_then, is_some}
use Rattle.std.specs.List.{filter_map, flat_map, list_any}
use Rattle.std.specs.BTreeSet.{BTreeSet}
use Rattle.std.specs.Ordering.{nat_cmp, ordering_then, is_eq}
use Rattle.std.proofs.lemmas.Grind.{common_steps, take_at_read}
use Rattle.timing_base.specs.Media.{Media}
use Rattle.timing_base.specs.Targets.{is_same_target}
use Rattle.timing_base.specs.declared.address.Address.{Address}
use Rattle.timing_base.specs.declared.target.Target.{Target}
use Rattle.sdp_reader.specs.declared.fault.SdpCause.TheVariants.{SameTarget}
use Rattle.sdp_reader.specs.declared.fault.SdpFault.{SdpFault}
use Rattle.sdp_reader.specs.declared.line.Video.{Video}
use Rattle.sdp_reader.specs.declared.part.Destination.{Destination}
use Rattle.sdp_reader.specs.declared.part.Kept.{Kept}
use Rattle.sdp_reader.specs.declared.part.Reading.{Reading}
use Rattle.sdp_reader.specs.Fault.{first_of, least}
use Rattle.sdp_reader.specs.Lines.{TextLine, at, media_fields, video_of}
use Rattle.sdp_reader.specs.Parameters.{Item, parameters}
use Rattle.sdp_reader.specs.Parts.{RawPart, own_lines, parts, connection_line, counting, address_of, is_raw_map, raw_part, raw_with, raw_of, faults_at}
use Rattle.sdp_reader.specs.Parts.{part_faults, media_from, media_of}
use Rattle.sdp_reader.specs.Session.{destination_of, target_at, are_same, have_one_target}
use Rattle.sdp_reader.specs.Summary.{reading_of, Keeps, Adds, target_cmp, has, TakesTarget}
use Rattle.sdp_reader.proofs.Items.{append_nil, filter_map-cons, list_any-push}
use Rattle.sdp_reader.proofs.Least.{first_of-assoc, first_of-none, least-append, at_front}
use Rattle.sdp_reader.proofs.Repeats.{repeats_after, repeats_after-walk}

-- a raw part that was read
pub raw_reading : (session : Option TextLine) (line : ℕ) (body : List TextLine) (video : Video)
    (connection : Option TextLine) (address : Option Address) (items : List Item) (target : Option Target) (fault : Option SdpFault) (media : Option Media)
    → connection ≡ counting (connection_line body) session
    → address ≡ option_and_then address_of connection
    → items ≡ parameters video.format body
    → target ≡ target_at address video.port
    → fault ≡ least (faults_at line connection items)
    → media ≡ media_from line video address items
    → record { destination = record { line = line; target = target }; fault = fault; media = media } ≡ reading_of (raw_part session line body video)
raw_reading session line body video connection address items target fault media c a p t f m =
    let good : address ≡ option_and_then address_of (counting (connection_line body) session) = a ∙ ap (option_and_then address_of) c in
    let target_is : target ≡ target_at (option_and_then address_of (counting (connection_line body) session)) video.port =
    t ∙ ap (λ o. target_at o video.port) good in
    let fault_is : fault ≡ least (faults_at line (counting (connection_line body) session) (parameters video.format body)) =
    f ∙ ap (λ o. least (faults_at line o items)) c ∙ ap (λ o. least (faults_at line (counting (connection_line body) session) o)) p in
    let media_is : media ≡ media_from line video (option_and_then address_of (counting (connection_line body) session)) (parameters video.format body) =
    m ∙ ap (λ o. media_from line video o items) good ∙ ap (λ o. media_from line video (option_and_then address_of (counting (connection_line body) session)) o)
    p in
    λ i. record { destination = record { line = line; target = target_is i }; fault = fault_is i; media = media_is i }

-- a part that is a raw one
pub part_reading : (s : Reading) (session : Option TextLine) (head : TextLine) (own body : List TextLine) (video : Video)
    → option_and_then video_of (media_fields head) ≡ Some video
    → body ≡ own
    → list_any (is_raw_map video.format) body ≡ true
    → s ≡ reading_of (raw_part session head.number body video)
    → Some s ≡ option_map reading_of (raw_of session (record { head = head; body = own }))
part_reading s session head own body video v b r e =
    ap Some e
    ∙ sym (ap (λ o. option_map reading_of (option_and_then (raw_with session head.number own) o)) v
    ∙ ap (λ l. option_map reading_of (raw_with session head.number l video)) (sym b)
    ∙ ap (λ t. option_map reading_of (cond t (Some (raw_part session head.number body video)) None)) r)

-- what the part gives that a line begins, if it begins one
parts-head : (session : Option TextLine) (l : TextLine) (ls : List TextLine) (m : Option (List ℕ)) → media_fields l ≡ m
    → filter_map (raw_of session) (cond (is_some m) (record { head = l; body = own_lines ls } ∷ parts ls) (parts ls))
    ≡ option_to_list (option_and_then (raw_with session l.number (own_lines ls)) (option_and_then video_of m)) ++ filter_map (raw_of session) (parts ls)
parts-head session l ls None e = refl
parts-head session l ls (Some fields) e =
    filter_map-cons (raw_of session) (option_and_then (raw_with session l.number (own_lines ls)) (option_and_then video_of (Some fields)))
    (record { head = l; body = own_lines ls }) (parts ls)
    (ap (λ m. option_and_then (raw_with session l.number (own_lines ls)) (option_and_then video_of m)) (sym e))

-- what is read, if anything is, is kept
keeps-step : (old new : Kept) (r : Option Reading) (o : Option RawPart) (left all : List RawPart)
    → Adds old r new → r ≡ option_map reading_of o → Keeps old (option_to_list o ++ left) all → Keeps new left all
keeps-step old new r None left all a e k = record {
  destinations =
      ap (λ t. t ++ map destination_of left) (a.destinations ∙ ap (λ t. old.destinations.items ++ option_to_list (option_map (λ x. x.destination) t)) e
      ∙ append_nil old.destinations.items)
      ∙ k.destinations;
  fault =
      ap (λ t. first_of t (least (flat_map part_faults left))) (a.fault ∙ ap (λ t. first_of old.fault (option_and_then (λ x. x.fault) t)) e
      ∙ first_of-none old.fault)
      ∙ k.fault;
  media =
      ap (λ t. t ++ filter_map media_of left) (a.media ∙ ap (λ t. old.media.items ++ option_to_list (option_and_then (λ x. x.media) t)) e
      ∙ append_nil old.media.items)
      ∙ k.media;
}
keeps-step old new r (Some p) left all a e k = record {
  destinations =
      ap (λ t. t ++ map destination_of left) (a.destinations ∙ ap (λ t. old.destinations.items ++ option_to_list (option_map (λ x. x.destination) t)) e)
      ∙ append_assoc old.destinations.items (destination_of p ∷ []) (map destination_of left)
      ∙ k.destinations;
  fault =
      ap (λ t. first_of t (least (flat_map part_faults left))) (a.fault ∙ ap (λ t. first_of old.fault (option_and_then (λ x. x.fault) t)) e)
      ∙ first_of-assoc old.fault (least (part_faults p)) (least (flat_map part_faults left))
      ∙ ap (first_of old.fault) (sym (least-append (part_faults p) (flat_map part_faults left)))
      ∙ k.fault;
  media =
      ap (λ t. t ++ filter_map media_of left) (a.media ∙ ap (λ t. old.media.items ++ option_to_list (option_and_then (λ x. x.media) t)) e)
      ∙ append_assoc old.media.items (option_to_list (media_of p)) (filter_map media_of left)
      ∙ ap (λ t. old.media.items ++ t) (sym (filter_map-cons media_of (media_of p) p left refl))
      ∙ k.media;
}

-- one line more
pub keeps-line : {A : Type 0} (g : A → TextLine) (session : Option TextLine) (old new : Kept) (r : Option Reading) (xs : List A) (i : ℕ) (d : A) (rest : List A)
    (all : List RawPart)
    → Adds old r new
    → r ≡ option_map reading_of (raw_of session (record { head = g (get_or xs i d); body = own_lines (map g rest) }))
    → rest ≡ drop (i + 1) xs
    → i < length xs
    → Keeps old (filter_map (raw_of session) (parts (map g (drop i xs)))) all
    → Keeps new (filter_map (raw_of session) (parts (map g (drop (i + 1) xs)))) all
keeps-line g session old new r xs i d rest all a e s h k =
    let l = g (get_or xs i d) in
    let later = map g (drop (i + 1) xs) in
    keeps-step old new r (raw_of session (record { head = l; body = own_lines later })) (filter_map (raw_of session) (parts later)) all a
    (e ∙ ap (λ t. option_map reading_of (raw_of session (record { head = l; body = own_lines (map g t) }))) s)
    (subst (λ t. Keeps old t all) (ap (λ t. filter_map (raw_of session) (parts (map g t))) (at_front xs i d h)
    ∙ parts-head session l later (media_fields l) refl) k)

-- the targets that earlier parts have
abbrev pub AreSeen : BTreeSet Target → List Destination → Type 0
AreSeen seen earlier = (t : Target) → has seen t ≡ list_any (λ e. are_same (Some t) e.target) earlier

is_eq-both : (a m b n : ℕ) → is_eq (ordering_then (nat_cmp a b) (nat_cmp m n)) ≡ ((a == b) && (m == n))
is_eq-both a m b n = grind (arith, common_steps)

is_eq-cmp : (t q : Target) → is_eq (target_cmp t q) ≡ is_same_target t q
is_eq-cmp t q = is_eq-both t.address.bits t.port q.address.bits q.port

none_same : (earlier : List Destination) → list_any (λ e. are_same None e.target) earlier ≡ false
none_same [] = refl
none_same (e ∷ earlier) = none_same earlier

taken_is : (old new : BTreeSet Target) (o : Option Target) (taken : Bool) (earlier : List Destination) → TakesTarget old new o taken → AreSeen old earlier
    → taken ≡ list_any (λ e. are_same o e.target) earlier
taken_is old new None taken earlier h s = h.0 ∙ sym (none_same earlier)
taken_is old new (Some t) taken earlier h s = h.0 ∙ s t

seen_next : (old new : BTreeSet Target) (o : Option Target) (taken : Bool) (earlier : List Destination) (line : ℕ) → TakesTarget old new o taken
    → AreSeen old earlier
    → AreSeen new (earlier ++ record { line = line; target = o } ∷ [])
seen_next old new None taken earlier line h s = λ q.
    h.1 q ∙ s q ∙ sym (list_any-push (λ e. are_same (Some q) e.target) earlier (record { line = line; target = None }))
seen_next old new (Some t) taken earlier line h s = λ q.
    h.1 q ∙ ap (λ b. b || has old q) (is_eq-cmp t q) ∙ ap (λ b. is_same_target t q || b) (s q)
    ∙ sym (list_any-push (λ e. are_same (Some q) e.target) earlier (record { line = line; target = Some t }))

-- one target more
pub seen-step : (old new : BTreeSet Target) (taken : Bool) (xs : List Destination) (i : ℕ) (d : Destination)
    → TakesTarget old new (get_or xs i d).target taken → i < length xs
    → AreSeen old (take i xs) → AreSeen new (take (i + 1) xs)
seen-step old new taken xs i d h l s = λ q.
    seen_next old new (get_or xs i d).target taken (take i xs) (get_or xs i d).line h s q
    ∙ ap (list_any (λ e. are_same (Some q) e.target)) (sym (take_at_read xs i d l).1)

pub target-step : (fault r s : Option SdpFault) (old new : BTreeSet Target) (taken : Bool) (xs : List Destination) (i : ℕ) (d : Destination)
    → r ≡ first_of fault s → s ≡ least (at (get_or xs i d).line SameTarget taken)
    → TakesTarget old new (get_or xs i d).target taken → i < length xs → AreSeen old (take i xs)
    → first_of r (least (repeats_after (λ part. part.line) SameTarget have_one_target (take (i + 1) xs) (drop (i + 1) xs)))
    ≡ first_of fault (least (repeats_after (λ part. part.line) SameTarget have_one_target (take i xs) (drop i xs)))
target-step fault r s old new taken xs i d p q h l a =
    repeats_after-walk (λ part. part.line) SameTarget have_one_target fault r s xs i d taken p q
    (taken_is old new (get_or xs i d).target taken (take i xs) h a) l
