-- The quantities of each media of a session are within their limits.
use Rattle.std.proofs.Common.{◌≡◌, ◌≤◌, ◌*◌, ◌&&◌, ℕ, Bool, true, false, cond, nat_le, nat_lt, List, [], ◌∷◌, length, Option, Some, None, Ok, map, arith, refl}
use Rattle.std.proofs.Common.{subst}
use Rattle.std.specs.Prelude.{All, codes, bytes_eq}
use Rattle.std.specs.Option.{option_map, option_and_then}
use Rattle.std.specs.List.{cons_option, filter_map, list_any}
use Rattle.std.proofs.lemmas.Grind.{common_steps}
use Rattle.std.proofs.lemmas.List.Elements.{All-cons, All-head, All-nil, All-tail}
use Rattle.timing_base.specs.declared.address.Address.{Address}
use Rattle.timing_base.specs.Media.{IsMedia, Media}
use Rattle.sdp_reader.specs.declared.line.Video.{Video}
use Rattle.sdp_reader.specs.declared.parameter.Name.TheVariants.{Width, Height, ExactFrameRate, Troff, Cmax}
use Rattle.sdp_reader.specs.declared.parameter.Rate.{Rate}
use Rattle.sdp_reader.specs.Bytes.{number, number_within, within, holds, before, after}
use Rattle.sdp_reader.specs.Lines.{TextLine, format_of, is_video, lines, media_fields, port_of, protocol_of, video_at, video_of}
use Rattle.sdp_reader.specs.Parameters.{Item, item_named, rate_at, rate_of, value_rate, value_size, value_within}
use Rattle.sdp_reader.specs.Parts.{Part, RawPart, connection_line, good_address, is_raw_map, media_of, media_with, own_lines, parts, raw_of, raw_part, raw_with}
use Rattle.sdp_reader.specs.Session.{answer, raw_parts, session}
use Rattle.sdp_reader.proofs.Sessions.{answer-each, session_ok}

same_some : {A : Type 0} (x y : A) → Some x ≡ Some y → x ≡ y
same_some x y e = cc

none_some : {A : Type 0} (x : A) → None ≡ Some x → ⊥
none_some x e = cc

-- a number that is in a range
in_range : (low high n m : ℕ) (b : Bool) → (nat_le low n && nat_le n high) ≡ b → cond b (Some n) None ≡ Some m → (low ≤ m) × (m ≤ high)
in_range low high n m false t e = absurd (none_some m e)
in_range low high n m true t e =
    let is : n ≡ m = same_some n m e in
    let both : (low ≤ n) × (n ≤ high) = grind (arith, common_steps) in
    (subst (λ x. low ≤ x) is both.0, subst (λ x. x ≤ high) is both.1)

number-range : (low high m : ℕ) (o : Option ℕ) → option_and_then (within low high) o ≡ Some m → (low ≤ m) × (m ≤ high)
number-range low high m None e = absurd (none_some m e)
number-range low high m (Some n) e = in_range low high n m _ refl e

-- a value that is in a range
value-range : (low high m : ℕ) (o : Option Item) → option_and_then (value_within low high) o ≡ Some m → (low ≤ m) × (m ≤ high)
value-range low high m None e = absurd (none_some m e)
value-range low high m (Some item) e = of_value item.value e
  where
    of_value : (v : Option (List ℕ)) → option_and_then (number_within low high) v ≡ Some m → (low ≤ m) × (m ≤ high)
    of_value None e = absurd (none_some m e)
    of_value (Some text) e = number-range low high m (number text) e

-- a rate is at most 240, and its lower number at most 1001
abbrev IsRate : Rate → Type 0
IsRate r = (1 ≤ r.p) × (r.p ≤ 240 * r.q) × (1 ≤ r.q) × (r.q ≤ 1001)

rate_at-fits : (p q : Option ℕ) (r : Rate) → ((n : ℕ) → q ≡ Some n → (1 ≤ n) × (n ≤ 1001)) → rate_at p q ≡ Some r → IsRate r
rate_at-fits None q r fits e = absurd (none_some r e)
rate_at-fits (Some p) None r fits e = absurd (none_some r e)
rate_at-fits (Some p) (Some q) r fits e = tested _ refl e
  where
    tested : (b : Bool) → (nat_le 1 p && nat_le p (240 * q)) ≡ b → cond b (Some (record { p = p; q = q })) None ≡ Some r → IsRate r
    tested false t e = absurd (none_some r e)
    tested true t e =
        let both : (1 ≤ p) × (p ≤ 240 * q) = grind (arith, common_steps) in
        subst IsRate (same_some (record { p = p; q = q }) r e) (both.0, both.1, (fits q refl).0, (fits q refl).1)

rate_of-fits : (text : List ℕ) (r : Rate) → rate_of text ≡ Some r → IsRate r
rate_of-fits text r e = either (holds 47 text) e
  where
    either : (b : Bool) → cond b (rate_at (number (before 47 text)) (number_within 1 1001 (after 47 text))) (rate_at (number text) (Some 1)) ≡ Some r → IsRate r
    either true e = rate_at-fits (number (before 47 text)) (number_within 1 1001 (after 47 text)) r (λ n q. number-range 1 1001 n (number (after 47 text)) q) e
    either false e = rate_at-fits (number text) (Some 1) r (λ n q. let is : 1 ≡ n = same_some 1 n q in (omega (arith, is), omega (arith, is))) e

rate-fits : (o : Option Item) (r : Rate) → option_and_then value_rate o ≡ Some r → IsRate r
rate-fits None r e = absurd (none_some r e)
rate-fits (Some item) r e = of_value item.value e
  where
    of_value : (v : Option (List ℕ)) → option_and_then rate_of v ≡ Some r → IsRate r
    of_value None e = absurd (none_some r e)
    of_value (Some text) e = rate_of-fits text r e

-- the port and the format of a video line are in their ranges
abbrev IsVideo : Video → Type 0
IsVideo v = (1 ≤ v.port) × (v.format ≤ 127)

video_at-fits : (p f : Option ℕ) (v : Video) → ((n : ℕ) → p ≡ Some n → 1 ≤ n) → ((n : ℕ) → f ≡ Some n → n ≤ 127) → video_at p f ≡ Some v → IsVideo v
video_at-fits None f v some few e = absurd (none_some v e)
video_at-fits (Some p) None v some few e = absurd (none_some v e)
video_at-fits (Some p) (Some f) v some few e = subst IsVideo (same_some (record { port = p; format = f }) v e) (some p refl, few f refl)

video_of-fits : (fields : List ℕ) (v : Video) → video_of fields ≡ Some v → IsVideo v
video_of-fits fields v e = tested (is_video fields && bytes_eq (protocol_of fields) (codes "RTP/AVP")) e
  where
    tested : (b : Bool) → cond b (video_at (port_of fields) (format_of fields)) None ≡ Some v → IsVideo v
    tested false e = absurd (none_some v e)
    tested true e =
        video_at-fits (port_of fields) (format_of fields) v (λ n q. (number-range 1 65535 n (number (before 32 (after 32 fields))) q).0)
        (λ n q. (number-range 0 127 n (number (before 32 (after 32 (after 32 (after 32 fields))))) q).1) e

-- so they are of each raw part
raw-fits : (connection : Option TextLine) (part : Part) (r : RawPart) → raw_of connection part ≡ Some r → IsVideo r.video
raw-fits connection part r e = headed (media_fields part.head) e
  where
    mapped : (v : Video) (b : Bool) → IsVideo v → cond b (Some (raw_part connection part.head.number part.body v)) None ≡ Some r → IsVideo r.video
    mapped v false is e = absurd (none_some r e)
    mapped v true is e = subst (λ (x : RawPart). IsVideo x.video) (same_some (raw_part connection part.head.number part.body v) r e) is

    filmed : (o : Option Video) → ((v : Video) → o ≡ Some v → IsVideo v) → option_and_then (raw_with connection part.head.number part.body) o ≡ Some r
        → IsVideo r.video
    filmed None is e = absurd (none_some r e)
    filmed (Some v) is e = mapped v (list_any (is_raw_map v.format) part.body) (is v refl) e

    headed : (o : Option (List ℕ)) → option_and_then (raw_with connection part.head.number part.body) (option_and_then video_of o) ≡ Some r → IsVideo r.video
    headed None e = absurd (none_some r e)
    headed (Some fields) e = filmed (video_of fields) (video_of-fits fields) e

one_more : {A : Type 0} (P : A → Type 0) (o : Option A) (xs : List A) → ((x : A) → o ≡ Some x → P x) → All P xs → All P (cons_option o xs)
one_more P None xs is h = h
one_more P (Some x) xs is h = All-cons P x xs (is x refl) h

raws-fit : (connection : Option TextLine) (ps : List Part) → All (λ (r : RawPart). IsVideo r.video) (filter_map (raw_of connection) ps)
raws-fit connection [] = All-nil (λ (r : RawPart). IsVideo r.video)
raws-fit connection (p ∷ ps) =
    one_more (λ (r : RawPart). IsVideo r.video) (raw_of connection p) (filter_map (raw_of connection) ps) (raw-fits connection p) (raws-fit connection ps)

-- the stream of a part with such a video line
stream-within : (line : ℕ) (video : Video) (items : List Item) (a : Option Address) (w h : Option ℕ) (r : Option Rate) (m : Media) → IsVideo video
    → ((n : ℕ) → w ≡ Some n → (1 ≤ n) × (n ≤ 32767)) → ((n : ℕ) → h ≡ Some n → (1 ≤ n) × (n ≤ 32767)) → ((x : Rate) → r ≡ Some x → IsRate x)
    → option_and_then (λ x. option_and_then (λ y. option_and_then (λ z. option_map (media_with line video items x y z) r) h) w) a ≡ Some m → IsMedia m
stream-within line video items None w h r m is wide high rated e = absurd (none_some m e)
stream-within line video items (Some a) None h r m is wide high rated e = absurd (none_some m e)
stream-within line video items (Some a) (Some w) None r m is wide high rated e = absurd (none_some m e)
stream-within line video items (Some a) (Some w) (Some h) None m is wide high rated e = absurd (none_some m e)
stream-within line video items (Some a) (Some w) (Some h) (Some r) m is wide high rated e =
    subst IsMedia (same_some (media_with line video items a w h r) m e) (record {
      port_some = is.0;
      pt_most = is.1;
      width_some = (wide w refl).0;
      width_most = (wide w refl).1;
      height_some = (high h refl).0;
      height_most = (high h refl).1;
      p_some = (rated r refl).0;
      p_most = (rated r refl).1;
      q_some = (rated r refl).2;
      q_most = (rated r refl).3;
      troff_most = λ n q. (value-range 0 1000000 n (item_named Troff items) q).1;
      cmax_some = λ n q. (value-range 1 65535 n (item_named Cmax items) q).0;
      cmax_most = λ n q. (value-range 1 65535 n (item_named Cmax items) q).1;
    })

media-within : (r : RawPart) (m : Media) → IsVideo r.video → media_of r ≡ Some m → IsMedia m
media-within r m is e =
    stream-within r.line r.video r.items (good_address r) (option_and_then value_size (item_named Width r.items))
    (option_and_then value_size (item_named Height r.items))
    (option_and_then value_rate (item_named ExactFrameRate r.items)) m is
    (λ n q. value-range 1 32767 n (item_named Width r.items) q) (λ n q. value-range 1 32767 n (item_named Height r.items) q)
    (λ x q. rate-fits (item_named ExactFrameRate r.items) x q) e

each-within : (rs : List RawPart) (media : List Media) → All (λ (r : RawPart). IsVideo r.video) rs → map media_of rs ≡ map (λ m. Some m) media
    → All IsMedia media
each-within rs [] is e = All-nil IsMedia
each-within [] (m ∷ ms) is e = absurd (cc)
each-within (r ∷ rs) (m ∷ ms) is e =
    let here : media_of r ≡ Some m = cc in
    let later : map media_of rs ≡ map (λ (x : Media). Some x) ms = cc in
    All-cons IsMedia m ms (media-within r m (All-head (λ (x : RawPart). IsVideo x.video) r rs is) here)
    (each-within rs ms (All-tail (λ (x : RawPart). IsVideo x.video) r rs is) later)

-- the media of these lines
answer-within : (ls : List TextLine) (media : List Media) → answer ls ≡ Ok media → All IsMedia media
answer-within ls media h = each-within (raw_parts ls) media (raws-fit (connection_line (own_lines ls)) (parts ls)) (answer-each ls media h)

-- each media of a session is within its limits
pub session-within : (bytes : List ℕ) (media : List Media) → session bytes ≡ Ok media → All IsMedia media
session-within bytes media h = answer-within (lines bytes) media (session_ok (nat_lt 1048576 (length bytes)) _ (answer (lines bytes)) media h)
