-- The answer, from what is kept of the raw parts.
use Rattle.std.proofs.Common.{◌≡◌, ◌<◌, ◌≤◌, ◌+◌, ℕ, true, false, List, [], ◌∷◌, ◌++◌, Option, Some, None, Ok, Err, map, length, drop, get_or, arith, refl, sym}
use Rattle.std.proofs.Common.{ap, ◌∙◌, length-drop, Bool, cond, nat_lt, Result}
use Rattle.std.specs.Option.{is_some}
use Rattle.std.specs.List.{flat_map, filter_map, cons_option}
use Rattle.std.proofs.lemmas.List.{length-map, drop_all}
use Rattle.sdp_reader.specs.declared.fault.SdpCause.TheVariants.{TooManyMedia}
use Rattle.sdp_reader.specs.declared.fault.SdpFault.{SdpFault}
use Rattle.sdp_reader.specs.declared.part.Destination.{Destination}
use Rattle.sdp_reader.specs.declared.part.Kept.{Kept}
use Rattle.timing_base.specs.Media.{Media, IsSession}
use Rattle.sdp_reader.specs.Fault.{first_of, least}
use Rattle.sdp_reader.specs.Lines.{TextLine, lines, at, line_faults, version_faults}
use Rattle.sdp_reader.specs.Parts.{RawPart, part_faults, media_of}
use Rattle.sdp_reader.specs.Session.{destination_of, target_faults, first_too_many, too_many_faults, raw_parts, raw_faults, faults, streams, unless_fault}
use Rattle.sdp_reader.specs.Session.{answer, session}
use Rattle.sdp_reader.specs.Summary.{Keeps}
use Rattle.sdp_reader.proofs.Items.{append_nil}
use Rattle.sdp_reader.proofs.Complete.{append-none, media_stands}
use Rattle.sdp_reader.proofs.Least.{least-append, at_front}

-- the 65th part
pub too_many-some : (ts : List Destination) (d : Destination) → 64 < length ts
    → least (at (get_or ts 64 d).line TooManyMedia true) ≡ least (too_many_faults ts)
too_many-some ts d h = sym (ap (λ l. least (first_too_many l)) (at_front ts 64 d h))

pub too_many-none : (ts : List Destination) → length ts ≤ 64 → None ≡ least (too_many_faults ts)
too_many-none ts h = sym (ap (λ l. least (first_too_many l)) (drop_all 64 ts h))

-- the first of all faults, found in pairs
pub faults-found : (ls : List TextLine) (ts : List Destination) (all version lines line parts part rest targets many : Option SdpFault)
    → ts ≡ map destination_of (raw_parts ls)
    → part ≡ least (flat_map part_faults (raw_parts ls))
    → all ≡ first_of version lines → version ≡ least (version_faults ls)
    → lines ≡ first_of line parts → line ≡ least (flat_map line_faults ls)
    → parts ≡ first_of part rest
    → rest ≡ first_of targets many → targets ≡ least (target_faults ts) → many ≡ least (too_many_faults ts)
    → all ≡ least (faults ls)
faults-found ls ts all version lines line parts part rest targets many t f a b c d e g i j =
    let rs = raw_parts ls in
    let ds = map destination_of rs in
    let targets_is : targets ≡ least (target_faults ds) = i ∙ ap (λ l. least (target_faults l)) t in
    let many_is : many ≡ least (too_many_faults ds) = j ∙ ap (λ l. least (too_many_faults l)) t in
    let rest_is : rest ≡ least (target_faults ds ++ too_many_faults ds) =
    g ∙ ap (λ o. first_of o many) targets_is ∙ ap (first_of (least (target_faults ds))) many_is ∙ sym (least-append (target_faults ds) (too_many_faults ds)) in
    let parts_is : parts ≡ least (raw_faults rs) =
    e ∙ ap (λ o. first_of o rest) f ∙ ap (first_of (least (flat_map part_faults rs))) rest_is
    ∙ sym (least-append (flat_map part_faults rs) (target_faults ds ++ too_many_faults ds)) in
    let lines_is : lines ≡ least (flat_map line_faults ls ++ raw_faults rs) =
    c ∙ ap (λ o. first_of o parts) d ∙ ap (first_of (least (flat_map line_faults ls))) parts_is
    ∙ sym (least-append (flat_map line_faults ls) (raw_faults rs)) in
    a ∙ ap (λ o. first_of o lines) b ∙ ap (first_of (least (version_faults ls))) lines_is
    ∙ sym (least-append (version_faults ls) (flat_map line_faults ls ++ raw_faults rs))

as_many : (ts : List Destination) (rs : List RawPart) → ts ≡ map destination_of rs → length ts ≡ length rs
as_many ts rs h = ap length h ∙ length-map rs destination_of

cons-some : {A : Type 0} (o : Option A) (xs : List A) → is_some o ≡ true → 1 ≤ length (cons_option o xs)
cons-some None xs h = absurd (cc)
cons-some (Some x) xs h = omega arith

some_media : (rs : List RawPart) → 0 < length rs → least (flat_map part_faults rs) ≡ None → 1 ≤ length (filter_map media_of rs)
some_media [] h n = absurd (omega arith)
some_media (r ∷ rs) h n = cons-some (media_of r) (filter_map media_of rs) (media_stands r (append-none (part_faults r) (flat_map part_faults rs) n).0)

cons-le : {A : Type 0} (o : Option A) (xs : List A) (n : ℕ) → length xs ≤ n → length (cons_option o xs) ≤ n + 1
cons-le None xs n h = omega arith
cons-le (Some x) xs n h = omega arith

length-filter_map : {A B : Type 0} (f : A → Option B) (xs : List A) → length (filter_map f xs) ≤ length xs
length-filter_map f [] = omega arith
length-filter_map f (x ∷ xs) = let one = cons-le (f x) (filter_map f xs) (length xs) (length-filter_map f xs) in omega (arith, one)

none_more : (ts : List Destination) → least (first_too_many ts) ≡ None → length ts ≡ 0
none_more [] h = refl
none_more (t ∷ ts) h = absurd (cc)

raw_none : (ls : List TextLine) → least (faults ls) ≡ None → least (raw_faults (raw_parts ls)) ≡ None
raw_none ls h = (append-none (flat_map line_faults ls) (raw_faults (raw_parts ls))
    (append-none (version_faults ls) (flat_map line_faults ls ++ raw_faults (raw_parts ls)) h).1).1

media-some : (ls : List TextLine) (ts : List Destination) (media : List Media) → ts ≡ map destination_of (raw_parts ls) → None ≡ least (faults ls)
    → 0 < length ts
    → media ≡ filter_map media_of (raw_parts ls) → 1 ≤ length media
media-some ls ts media h f e m =
    let rs = raw_parts ls in
    let n = as_many ts rs h in
    let parts = append-none (flat_map part_faults rs) (target_faults (map destination_of rs) ++ too_many_faults (map destination_of rs))
    (raw_none ls (sym f)) in
    let some = some_media rs (omega arith) parts.0 in
    let same = ap length m in
    omega (arith, some, same)

media-few : (ls : List TextLine) (media : List Media) → None ≡ least (faults ls) → media ≡ filter_map media_of (raw_parts ls) → length media ≤ 64
media-few ls media f m =
    let rs = raw_parts ls in
    let ts = map destination_of rs in
    let parts = append-none (flat_map part_faults rs) (target_faults ts ++ too_many_faults ts) (raw_none ls (sym f)) in
    let many = append-none (target_faults ts) (too_many_faults ts) parts.1 in
    let none = none_more (drop 64 ts) many.1 in
    let left = length-drop 64 ts in
    let count = length-map rs destination_of in
    let less = length-filter_map media_of rs in
    let same = ap length m in
    omega (arith, none, left, count, less, same)

-- which are 1 to 64
pub media-session : (ls : List TextLine) (kept : Kept) → Keeps kept [] (raw_parts ls) → None ≡ least (faults ls) → 0 < length kept.destinations.items
    → IsSession kept.media.items
media-session ls kept k f e =
    let d = sym (append_nil kept.destinations.items) ∙ k.destinations in
    let m = sym (append_nil kept.media.items) ∙ k.media in
    record { some = media-some ls kept.destinations.items kept.media.items d f e m; few = media-few ls kept.media.items f m }

each_some : (o : Option Media) (os : List (Option Media)) (ms : List Media) → is_some o ≡ true → os ≡ map (λ m. Some m) ms
    → o ∷ os ≡ map (λ m. Some m) (cons_option o ms)
each_some None os ms h e = absurd (cc)
each_some (Some m) os ms h e = ap (λ l. Some m ∷ l) e

media_each : (rs : List RawPart) → least (flat_map part_faults rs) ≡ None → map media_of rs ≡ map (λ m. Some m) (filter_map media_of rs)
media_each [] h = refl
media_each (r ∷ rs) h =
    let none = append-none (part_faults r) (flat_map part_faults rs) h in
    each_some (media_of r) (map media_of rs) (filter_map media_of rs) (media_stands r none.0) (media_each rs none.1)

streams_ok : (rs : List RawPart) (media : List Media) → streams rs ≡ Ok media → filter_map media_of rs ≡ media
streams_ok [] media h = absurd (cc)
streams_ok (r ∷ rs) media h = cc

answer_ok : (o : Option SdpFault) (rs : List RawPart) (media : List Media) → unless_fault o (streams rs) ≡ Ok media
    → (o ≡ None) × (filter_map media_of rs ≡ media)
answer_ok (Some f) rs media h = absurd (cc)
answer_ok None rs media h = (refl, streams_ok rs media h)

-- a text with a session isn't too large
pub session_ok : (large : Bool) (f : SdpFault) (rest : Result (List Media) SdpFault) (media : List Media) → cond large (Err f) rest ≡ Ok media → rest ≡ Ok media
session_ok true f rest media h = absurd (cc)
session_ok false f rest media h = h

-- lines with a session have a media for each raw part
pub answer-each : (ls : List TextLine) (media : List Media) → answer ls ≡ Ok media → map media_of (raw_parts ls) ≡ map (λ m. Some m) media
answer-each ls media h =
    let rs = raw_parts ls in
    let ok = answer_ok (least (faults ls)) rs media h in
    let none = append-none (flat_map part_faults rs) (target_faults (map destination_of rs) ++ too_many_faults (map destination_of rs)) (raw_none ls ok.0) in
    media_each rs none.0 ∙ ap (map (λ m. Some m)) ok.1

-- and no part whose target an earlier part has
pub answer-targets : (ls : List TextLine) (media : List Media) → answer ls ≡ Ok media → least (target_faults (map destination_of (raw_parts ls))) ≡ None
answer-targets ls media h =
    let ds = map destination_of (raw_parts ls) in
    let ok = answer_ok (least (faults ls)) (raw_parts ls) media h in
    let parts = append-none (flat_map part_faults (raw_parts ls)) (target_faults ds ++ too_many_faults ds) (raw_none ls ok.0) in
    (append-none (target_faults ds) (too_many_faults ds) parts.1).0

-- a text with a session has a media for each raw part
pub media-each : (bytes : List ℕ) (media : List Media) → session bytes ≡ Ok media → map media_of (raw_parts (lines bytes)) ≡ map (λ m. Some m) media
media-each bytes media h = answer-each (lines bytes) media (session_ok (nat_lt 1048576 (length bytes)) _ (answer (lines bytes)) media h)
