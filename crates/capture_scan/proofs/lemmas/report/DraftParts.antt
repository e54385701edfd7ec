-- What a description's reader finds in the lines of a video.
use Rattle.std.proofs.Common.{◌≡◌, ◌∙◌, ℕ, ◌+◌, ◌*◌, ◌/◌, ◌%◌, ◌^◌, ◌<◌, ◌≤◌, Bool, true, false, ◌==◌, ◌&&◌, List, [], ◌∷◌, ◌++◌, refl, sym, ap, ap₂}
use Rattle.std.proofs.Common.{arith, append_assoc, codes, Some, None, Option}
use Rattle.std.specs.Prelude.{if◌then◌else◌, not, nat_le, is_some}
use Rattle.std.specs.Fmt.{decimal}
use Rattle.std.specs.List.{filter_map, slice_split}
use Rattle.std.specs.Option.{option_and_then}
use Rattle.std.proofs.lemmas.Fmt.{length-decimal-le}
use Rattle.std.proofs.lemmas.Bool.{false≢true}
use Rattle.std.proofs.lemmas.Bool.Decides.{nat_tests}
use Rattle.sdp_reader.specs.Bytes.{after, before, number, number_within, trim_start, within}
use Rattle.sdp_reader.specs.Lines.{format_of, port_of, protocol_of, video_at, video_of}
use Rattle.std.specs.Str.{bytes_eq, str_eq_ignore_ascii_case}
use Rattle.sdp_reader.proofs.Items.{filter_map-cons}
use Rattle.sdp_reader.specs.Parameters.{Item, is_the, item_at, item_of, items_of, list_of, named, parameters, rate_at, rate_of, table_name}
use Rattle.sdp_reader.specs.Parameters.{value_rate, value_size}
use Rattle.sdp_reader.specs.Parts.{address_at, address_from, RawPart, address_of, dotted, is_raw_map, is_ttl, octet}
use Rattle.timing_base.specs.Addresses.{ipv4}
use Rattle.timing_base.specs.declared.address.Address.{Address}
use Rattle.capture_scan.specs.report.Draft.{is_multicast, connection_address}
use Rattle.capture_scan.specs.report.Rates.{ratio_text}
use Rattle.capture_scan.specs.report.ReadBack.{IsDrafted}
use Rattle.capture_scan.specs.declared.report.draft.DraftVideo.{DraftVideo}
use Rattle.capture_scan.specs.declared.report.rate.Ratio.{Ratio}
use Rattle.capture_scan.proofs.lemmas.report.Cutting.{after-at, all-append, before-at, before-lacks, holds-at, holds-lacks, lacks, split-at}
use Rattle.capture_scan.proofs.lemmas.report.Decimals.{above-digits, at_most, below-digits, read-digits, read-number, read-within, within-is}
use Rattle.capture_scan.proofs.lemmas.report.DraftLines.{IsLimited, Stays, address-then, body_lines, limited-of, list_text, parameter_text, map_text, stays-after}
use Rattle.capture_scan.proofs.lemmas.report.DraftLines.{stays-decimal, tail_text, ttl_text}

-- ---- types of the reader, by the definitions that give them

abbrev pub Given : {A B : Type 0} → (A → B) → Type 0
Given {B = B} f = B

abbrev Found : {A B : Type 0} → (A → Option B) → Type 0
Found {B = B} f = B

abbrev pub Video : Type 0
Video = Given (λ (r : RawPart). r.video)

abbrev pub Name : Type 0
Name = Given (λ (i : Item). i.name)

abbrev pub Rate : Type 0
Rate = Found rate_of

-- what a text is found to be
abbrev the : {A : Type 0} (o : Option A) → is_some o ≡ true → A
the (Some a) e = a
the None e = absurd (false≢true e)

abbrev pub Width : Name
Width = the (table_name (codes "width")) refl

abbrev pub Height : Name
Height = the (table_name (codes "height")) refl

abbrev pub ExactFrameRate : Name
ExactFrameRate = the (table_name (codes "exactframerate")) refl

abbrev pub Interlace : Name
Interlace = the (table_name (codes "interlace")) refl

-- ---- the line of the port

abbrev pub fields_text : DraftVideo → List ℕ
fields_text v = codes "video " ++ (decimal v.target.port ++ (codes " RTP/AVP " ++ decimal v.pt))

abbrev pub video_found : DraftVideo → Video
video_found v = record { port = v.target.port; format = v.pt }

-- a video line in its parts
abbrev of_parts : List ℕ → List ℕ → Option ℕ → Option ℕ → Option Video
of_parts name protocol port format =
    if bytes_eq name (codes "video") && bytes_eq protocol (codes "RTP/AVP") then video_at port format else None

pub read-video : (v : DraftVideo) → IsDrafted v → video_of (fields_text v) ≡ Some (video_found v)
read-video v d =
    let fields = fields_text v in
    let rest = codes "RTP/AVP " ++ decimal v.pt in
    let port_text = decimal v.target.port ++ 32 ∷ rest in
    let port_small : v.target.port < 2 ^ 64 = omega (arith, d.port) in
    let pt_small : v.pt < 2 ^ 64 = omega (arith, d.pt) in
    let lacking = below-digits 32 v.target.port (omega arith) port_small in
    let name : before 32 fields ≡ codes "video" = before-at 32 (codes "video") port_text refl in
    let one : after 32 fields ≡ port_text = after-at 32 (codes "video") port_text refl in
    let two : after 32 port_text ≡ rest = after-at 32 (decimal v.target.port) rest lacking in
    let port : before 32 port_text ≡ decimal v.target.port = before-at 32 (decimal v.target.port) rest lacking in
    let three : after 32 rest ≡ decimal v.pt = after-at 32 (codes "RTP/AVP") (decimal v.pt) refl in
    let protocol : before 32 rest ≡ codes "RTP/AVP" = before-at 32 (codes "RTP/AVP") (decimal v.pt) refl in
    let format : before 32 (decimal v.pt) ≡ decimal v.pt = before-lacks 32 (decimal v.pt) (below-digits 32 v.pt (omega arith) pt_small) in
    let rest_is : after 32 (after 32 fields) ≡ rest = ap (after 32) one ∙ two in
    let protocol_is : protocol_of fields ≡ codes "RTP/AVP" = ap (before 32) rest_is ∙ protocol in
    let port_is : port_of fields ≡ Some v.target.port =
    ap (number_within 1 65535) (ap (before 32) one ∙ port) ∙ read-within 1 65535 v.target.port (omega (arith, d.port)) d.port_some d.port in
    let format_is : format_of fields ≡ Some v.pt =
    ap (number_within 0 127) (ap (before 32) (ap (after 32) rest_is ∙ three) ∙ format) ∙ read-within 0 127 v.pt (omega (arith, d.pt)) (omega arith) d.pt in
    ap₂ (λ (a b : List ℕ). of_parts a b (port_of fields) (format_of fields)) name protocol_is
    ∙ ap₂ (λ (a b : Option ℕ). of_parts (codes "video") (codes "RTP/AVP") a b) port_is format_is

-- ---- the line of the format

pub reads-raw : (n : ℕ) (v : DraftVideo) → IsDrafted v → is_raw_map v.pt (record { number = n; text = map_text v }) ≡ true
reads-raw n v d =
    let small : v.pt < 2 ^ 64 = omega (arith, d.pt) in
    let lacking = below-digits 32 v.pt (omega arith) small in
    let front : before 32 (decimal v.pt ++ codes " raw/90000") ≡ decimal v.pt = before-at 32 (decimal v.pt) (codes "raw/90000") lacking in
    let back : after 32 (decimal v.pt ++ codes " raw/90000") ≡ codes "raw/90000" = after-at 32 (decimal v.pt) (codes "raw/90000") lacking in
    let same : (v.pt == v.pt) ≡ true = grind (arith, nat_tests) in
    ap₂ (λ (a b : List ℕ). is_the v.pt (number a) && str_eq_ignore_ascii_case b (codes "raw/90000")) front back
    ∙ ap (λ o. is_the v.pt o && true) (read-number v.pt (omega (arith, d.pt))) ∙ ap (λ (b : Bool). b && true) same

-- ---- the line of the address

octet-is : (n : ℕ) → n < 256 → octet (decimal n) ≡ Some n
octet-is n small =
    ap (option_and_then (within 0 255)) (read-digits 3 n (omega (arith, small)) (length-decimal-le 3 n (omega arith) (omega (arith, small))
    (omega (arith, small))))
    ∙ within-is 0 255 n (omega arith) (omega (arith, small))

-- the last octet, with or without a TTL
abbrev last_text : ℕ → Bool → List ℕ
last_text n ttl = decimal n ++ (if ttl then codes "/32" else codes "")

nothing-after : (xs : List ℕ) → xs ++ [] ≡ xs
nothing-after [] = refl
nothing-after (x ∷ xs) = ap (λ t. x ∷ t) (nothing-after xs)

last-ttl : (n : ℕ) (b : Bool) → n < 256 → is_ttl (last_text n b) ≡ true
last-ttl n true small =
    let lacking = below-digits 47 n (omega arith) (omega (arith, small)) in
    ap (λ (t : Bool). if t then is_some (octet (after 47 (last_text n true))) else true) (holds-at 47 (decimal n) (codes "32") lacking)
    ∙ ap (λ r. is_some (octet r)) (after-at 47 (decimal n) (codes "32") lacking)
last-ttl n false small =
    ap is_ttl (nothing-after (decimal n))
    ∙ ap (λ (t : Bool). if t then is_some (octet (after 47 (decimal n))) else true)
    (holds-lacks 47 (decimal n) (below-digits 47 n (omega arith) (omega (arith, small))))

last-octet : (n : ℕ) (b : Bool) → n < 256 → octet (before 47 (last_text n b)) ≡ Some n
last-octet n true small = ap octet (before-at 47 (decimal n) (codes "32") (below-digits 47 n (omega arith) (omega (arith, small))))
    ∙ octet-is n small
last-octet n false small =
    ap octet (ap (before 47) (nothing-after (decimal n)) ∙ before-lacks 47 (decimal n) (below-digits 47 n (omega arith) (omega (arith, small))))
    ∙ octet-is n small

dots : (a b c d : ℕ) (ttl : Bool) → a < 256 → b < 256 → c < 256 → d < 256
    → address_at (decimal a ++ (codes "." ++ (decimal b ++ (codes "." ++ (decimal c ++ (codes "." ++ last_text d ttl))))))
    ≡ Some (ipv4 a b c d)
dots a b c d ttl sa sb sc sd =
    let la = below-digits 46 a (omega arith) (omega (arith, sa)) in
    let lb = below-digits 46 b (omega arith) (omega (arith, sb)) in
    let lc = below-digits 46 c (omega arith) (omega (arith, sc)) in
    let third = decimal c ++ 46 ∷ last_text d ttl in
    let second = decimal b ++ 46 ∷ third in
    let a1 : before 46 (decimal a ++ 46 ∷ second) ≡ decimal a = before-at 46 (decimal a) second la in
    let r1 : after 46 (decimal a ++ 46 ∷ second) ≡ second = after-at 46 (decimal a) second la in
    let a2 : before 46 second ≡ decimal b = before-at 46 (decimal b) third lb in
    let r2 : after 46 second ≡ third = after-at 46 (decimal b) third lb in
    let a3 : before 46 third ≡ decimal c = before-at 46 (decimal c) (last_text d ttl) lc in
    let r3 : after 46 third ≡ last_text d ttl = after-at 46 (decimal c) (last_text d ttl) lc in
    parted (decimal a ++ 46 ∷ second) second third (decimal a) (decimal b) (decimal c) (last_text d ttl) a1 r1 a2 r2 a3 r3
    ∙ four-octets (decimal a) (decimal b) (decimal c) (last_text d ttl) (octet-is a sa) (octet-is b sb) (octet-is c sc) (last-ttl d ttl sd)
    (last-octet d ttl sd)
  where
    parted : (all second third a b c last : List ℕ) → before 46 all ≡ a → after 46 all ≡ second → before 46 second ≡ b → after 46 second ≡ third
        → before 46 third ≡ c → after 46 third ≡ last → address_at all ≡ dotted a b c last
    parted all second third a b c last a1 r1 a2 r2 a3 r3 =
        let to_third : after 46 (after 46 all) ≡ third = ap (after 46) r1 ∙ r2 in
        ap₂ (λ (x y : List ℕ). dotted x y (before 46 (after 46 (after 46 all))) (after 46 (after 46 (after 46 all)))) a1 (ap (before 46) r1 ∙ a2)
        ∙ ap₂ (λ (x y : List ℕ). dotted a b x y) (ap (before 46) to_third ∙ a3) (ap (after 46) to_third ∙ r3)

    four-octets : (x y z last : List ℕ) → octet x ≡ Some a → octet y ≡ Some b → octet z ≡ Some c → is_ttl last ≡ true → octet (before 47 last) ≡ Some d
        → dotted x y z last ≡ Some (ipv4 a b c d)
    four-octets x y z last ea eb ec et ed =
        ap (λ (t : Bool). if t then address_from (octet x) (octet y) (octet z) (octet (before 47 last)) else None) et
        ∙ ap₂ (λ (p q : Option ℕ). address_from p q (octet z) (octet (before 47 last))) ea eb
        ∙ ap₂ (λ (p q : Option ℕ). address_from (Some a) (Some b) p q) ec ed

pub read-address : (n : ℕ) (address : Address) → address.bits < 2 ^ 32
    → address_of (record { number = n; text = codes "c=IN IP4 " ++ connection_address address }) ≡ Some address
read-address n a small =
    ap address_at (address-then a (ttl_text a))
    ∙ dots (a.bits / 2 ^ 24) (a.bits / 2 ^ 16 % 2 ^ 8) (a.bits / 2 ^ 8 % 2 ^ 8) (a.bits % 2 ^ 8) (is_multicast a) (omega (arith, small)) (omega arith)
    (omega arith) (omega arith)
    ∙ (λ i. Some (record { bits = together a.bits small i }))
  where
    together : (x : ℕ) → x < 2 ^ 32 → x / 2 ^ 24 * 16777216 + x / 2 ^ 16 % 2 ^ 8 * 65536 + x / 2 ^ 8 % 2 ^ 8 * 256 + x % 2 ^ 8 ≡ x
    together x h =
        let e1 : x / 2 ^ 8 / 2 ^ 8 ≡ x / 2 ^ 16 = omega arith in
        let e2 : x / 2 ^ 16 / 2 ^ 8 ≡ x / 2 ^ 24 = omega arith in
        omega (arith, e1, e2, h)

-- ---- the line of the parameters

read-size : (n : ℕ) → 1 ≤ n → n ≤ 32767 → number_within 1 32767 (decimal n) ≡ Some n
read-size n some most = read-within 1 32767 n (omega (arith, most)) some most

-- the rate as it is read
abbrev pub rate_found : Ratio → Rate
rate_found r = record { p = r.p; q = r.q }

abbrev rate_with : ℕ → ℕ → Rate
rate_with p q = record { p = p; q = q }

rate-fits : (p q : ℕ) → 1 ≤ p → p ≤ 240 * q → rate_at (Some p) (Some q) ≡ Some (rate_with p q)
rate-fits p q some most =
    let l : nat_le 1 p ≡ true = at_most 1 p some in
    let m : nat_le p (240 * q) ≡ true = at_most p (240 * q) most in
    ap₂ (λ (a b : Bool). if a && b then Some (rate_with p q) else None) l m

pub read-rate : (r : Ratio) → IsLimited r → rate_of (ratio_text r) ≡ Some (rate_found r)
read-rate r few = by-test (r.q == 1) refl
  where
    small : r.p < 2 ^ 64
    small = omega (arith, few.most, few.seconds)

    lacking : lacks 47 (decimal r.p) ≡ true
    lacking = below-digits 47 r.p (omega arith) small

    p-is : number (decimal r.p) ≡ Some r.p
    p-is = read-number r.p (omega (arith, few.most, few.seconds))

    by-test : (b : Bool) → (r.q == 1) ≡ b → rate_of (if b then decimal r.p else decimal r.p ++ (codes "/" ++ decimal r.q)) ≡ Some (rate_with r.p r.q)
    by-test false e =
        let text = decimal r.p ++ 47 ∷ decimal r.q in
        ap (λ (t : Bool). if t then rate_at (number (before 47 text)) (number_within 1 1001 (after 47 text)) else rate_at (number text) (Some 1))
        (holds-at 47 (decimal r.p) (decimal r.q) lacking)
        ∙ ap₂ (λ (a b : List ℕ). rate_at (number a) (number_within 1 1001 b)) (before-at 47 (decimal r.p) (decimal r.q) lacking)
        (after-at 47 (decimal r.p) (decimal r.q) lacking)
        ∙ ap₂ (λ (o u : Option ℕ). rate_at o u) p-is (read-within 1 1001 r.q (omega (arith, few.seconds)) few.whole few.seconds)
        ∙ rate-fits r.p r.q few.some few.most
    by-test true e =
        let one : 1 ≡ r.q = grind (arith, nat_tests) in
        let text = decimal r.p in
        ap (λ (t : Bool). if t then rate_at (number (before 47 text)) (number_within 1 1001 (after 47 text)) else rate_at (number text) (Some 1))
        (holds-lacks 47 text lacking)
        ∙ ap₂ (λ (o : Option ℕ) (n : ℕ). rate_at o (Some n)) p-is one ∙ rate-fits r.p r.q few.some few.most

-- an item of a name and a value
abbrev pub item_with : ℕ → Name → List ℕ → Item
item_with line name value = record { line = line; name = name; value = Some value }

valued : (line : ℕ) (front value : List ℕ) (name : Name) → lacks 61 front ≡ true → table_name front ≡ Some name
    → item_of line (front ++ 61 ∷ value) ≡ Some (item_with line name value)
valued line front value name lacking is =
    let text = front ++ 61 ∷ value in
    ap (λ (t : Bool). if t then named line (table_name (before 61 text)) (Some (after 61 text)) else named line (table_name text) None)
    (holds-at 61 front value lacking)
    ∙ ap₂ (λ (a b : List ℕ). named line (table_name a) (Some b)) (before-at 61 front value lacking) (after-at 61 front value lacking)
    ∙ ap (λ o. named line o (Some value)) is

item-trimmed : (line : ℕ) (piece text : List ℕ) (item : Item) → Stays piece → trim_start piece ≡ text → item_of line text ≡ Some item
    → item_at line piece ≡ Some item
item-trimmed line piece text item stays start is = ap (λ t. item_of line (trim_start t)) stays.same ∙ ap (item_of line) start ∙ is

width-item : (line n : ℕ) → n < 2 ^ 64 → item_at line (codes "width=" ++ decimal n) ≡ Some (item_with line Width (decimal n))
width-item line n small =
    item-trimmed line (codes "width=" ++ decimal n) (codes "width=" ++ decimal n) _ (stays-after (codes "width=") (decimal n) (stays-decimal n small)) refl
    (valued line (codes "width") (decimal n) Width refl refl)

height-item : (line n : ℕ) → n < 2 ^ 64 → item_at line (codes " height=" ++ decimal n) ≡ Some (item_with line Height (decimal n))
height-item line n small =
    item-trimmed line (codes " height=" ++ decimal n) (codes "height=" ++ decimal n) _ (stays-after (codes " height=") (decimal n) (stays-decimal n small)) refl
    (valued line (codes "height") (decimal n) Height refl refl)

pub stays-ratio : (r : Ratio) → IsLimited r → Stays (ratio_text r)
stays-ratio r few = by-test (r.q == 1)
  where
    by-test : (b : Bool) → Stays (if b then decimal r.p else decimal r.p ++ (codes "/" ++ decimal r.q))
    by-test true = stays-decimal r.p (omega (arith, few.most, few.seconds))
    by-test false = stays-after (decimal r.p) (codes "/" ++ decimal r.q) (stays-after (codes "/") (decimal r.q) (stays-decimal r.q (omega (
      arith,
      few.seconds,
    ))))

rate-item : (line : ℕ) (r : Ratio) → IsLimited r → item_at line (codes " exactframerate=" ++ ratio_text r)
    ≡ Some (item_with line ExactFrameRate (ratio_text r))
rate-item line r few =
    item-trimmed line (codes " exactframerate=" ++ ratio_text r) (codes "exactframerate=" ++ ratio_text r) _
    (stays-after (codes " exactframerate=") (ratio_text r) (stays-ratio r few)) refl
    (valued line (codes "exactframerate") (ratio_text r) ExactFrameRate refl refl)

-- no `;` stands in a rate
lacks-ratio : (r : Ratio) → IsLimited r → lacks 59 (ratio_text r) ≡ true
lacks-ratio r few = by-test (r.q == 1)
  where
    p : lacks 59 (decimal r.p) ≡ true
    p = above-digits 59 r.p (omega arith) (omega (arith, few.most, few.seconds))

    q : lacks 59 (decimal r.q) ≡ true
    q = above-digits 59 r.q (omega arith) (omega (arith, few.seconds))

    by-test : (b : Bool) → lacks 59 (if b then decimal r.p else decimal r.p ++ (codes "/" ++ decimal r.q)) ≡ true
    by-test true = p
    by-test false = all-append (λ x. not (x == 59)) (decimal r.p) (codes "/" ++ decimal r.q) p
        (all-append (λ x. not (x == 59)) (codes "/") (decimal r.q) refl q)

-- the pieces behind the rate
abbrev last_pieces : Bool → List (List ℕ)
last_pieces true = codes " interlace" ∷ [] ∷ []
last_pieces false = [] ∷ []

abbrev pub interlace_items : ℕ → Bool → List Item
interlace_items line true = record { line = line; name = Interlace; value = None } ∷ []
interlace_items line false = []

abbrev pieces_of : DraftVideo → List (List ℕ)
pieces_of v =
    (codes "width=" ++ decimal v.width) ∷ (codes " height=" ++ decimal v.height) ∷ (codes " exactframerate=" ++ ratio_text v.rate) ∷ last_pieces v.interlaced

abbrev cut_list : List ℕ → List (List ℕ)
cut_list xs = slice_split (λ x. x == 59) xs

-- a text of a name and a value, up to a `;`
cut-one : (front value rest : List ℕ) → lacks 59 front ≡ true → lacks 59 value ≡ true
    → cut_list (front ++ (value ++ 59 ∷ rest)) ≡ (front ++ value) ∷ cut_list rest
cut-one front value rest f v =
    ap cut_list (sym (append_assoc front value (59 ∷ rest))) ∙ split-at 59 (front ++ value) rest (all-append (λ x. not (x == 59)) front value f v)

cut-tail : (front value : List ℕ) (b : Bool) → lacks 59 front ≡ true → lacks 59 value ≡ true
    → cut_list (front ++ (value ++ tail_text b)) ≡ (front ++ value) ∷ last_pieces b
cut-tail front value true f v = cut-one front value (codes " interlace;") f v
cut-tail front value false f v = cut-one front value [] f v

pieces-are : (v : DraftVideo) → IsDrafted v → cut_list (list_text v) ≡ pieces_of v
pieces-are v d =
    let three = codes " exactframerate=" ++ (ratio_text v.rate ++ tail_text v.interlaced) in
    let two = codes " height=" ++ (decimal v.height ++ 59 ∷ three) in
    cut-one (codes "width=") (decimal v.width) two refl (above-digits 59 v.width (omega arith) (omega (arith, d.width)))
    ∙ ap (λ t. (codes "width=" ++ decimal v.width) ∷ t)
    (cut-one (codes " height=") (decimal v.height) three refl (above-digits 59 v.height (omega arith) (omega (arith, d.height)))
    ∙ ap (λ t. (codes " height=" ++ decimal v.height) ∷ t)
    (cut-tail (codes " exactframerate=") (ratio_text v.rate) v.interlaced refl (lacks-ratio v.rate (limited-of v d))))

last-items : (line : ℕ) (b : Bool) → filter_map (item_at line) (last_pieces b) ≡ interlace_items line b
last-items line true = refl
last-items line false = refl

abbrev pub items_found : ℕ → DraftVideo → List Item
items_found line v =
    item_with line Width (decimal v.width) ∷ item_with line Height (decimal v.height) ∷ item_with line ExactFrameRate (ratio_text v.rate)
    ∷ interlace_items line v.interlaced

filter-three : (f : List ℕ → Option Item) (a b c : List ℕ) (x y z : Item) (rest : List (List ℕ)) (items : List Item)
    → f a ≡ Some x → f b ≡ Some y → f c ≡ Some z → filter_map f rest ≡ items
    → filter_map f (a ∷ b ∷ c ∷ rest) ≡ x ∷ y ∷ z ∷ items
filter-three f a b c x y z rest items p q r s =
    filter_map-cons f (Some x) a (b ∷ c ∷ rest) (sym p)
    ∙ ap (λ t. x ∷ t) (filter_map-cons f (Some y) b (c ∷ rest) (sym q) ∙ ap (λ t. y ∷ t) (filter_map-cons f (Some z) c rest (sym r) ∙ ap (λ t. z ∷ t) s))

list-items : (line : ℕ) (v : DraftVideo) → IsDrafted v → items_of line (list_text v) ≡ items_found line v
list-items line v d =
    ap (filter_map (item_at line)) (pieces-are v d)
    ∙ filter-three (item_at line) (codes "width=" ++ decimal v.width) (codes " height=" ++ decimal v.height) (codes " exactframerate=" ++ ratio_text v.rate)
    (item_with line Width (decimal v.width)) (item_with line Height (decimal v.height)) (item_with line ExactFrameRate (ratio_text v.rate))
    (last_pieces v.interlaced) (interlace_items line v.interlaced)
    (width-item line v.width (omega (arith, d.width))) (height-item line v.height (omega (arith, d.height))) (rate-item line v.rate (limited-of v d))
    (last-items line v.interlaced)

list-is : (n : ℕ) (v : DraftVideo) → IsDrafted v → list_of v.pt (record { number = n; text = codes "a=fmtp:" ++ (decimal v.pt ++ (codes " " ++ list_text v)) })
    ≡ list_text v
list-is n v d =
    let lacking = below-digits 32 v.pt (omega arith) (omega (arith, d.pt)) in
    let same : (v.pt == v.pt) ≡ true = grind (arith, nat_tests) in
    let rest = decimal v.pt ++ 32 ∷ list_text v in
    ap₂ (λ (a b : List ℕ). if is_the v.pt (number a) then b else []) (before-at 32 (decimal v.pt) (list_text v) lacking)
    (after-at 32 (decimal v.pt) (list_text v) lacking)
    ∙ ap (λ o. if is_the v.pt o then list_text v else []) (read-number v.pt (omega (arith, d.pt)))
    ∙ ap (λ (b : Bool). if b then list_text v else []) same

append-none : (items : List Item) → items ++ [] ≡ items
append-none [] = refl
append-none (x ∷ xs) = ap (λ t. x ∷ t) (append-none xs)

pub parameters-are : (n : ℕ) (v : DraftVideo) → IsDrafted v → parameters v.pt (body_lines n v) ≡ items_found (n + 4) v
parameters-are n v d =
    append-none (items_of (n + 4) (list_of v.pt (record { number = n + 4; text = parameter_text v })))
    ∙ ap (items_of (n + 4)) (list-is (n + 4) v d) ∙ list-items (n + 4) v d

pub value-width : (line : ℕ) (v : DraftVideo) → IsDrafted v → value_size (item_with line Width (decimal v.width)) ≡ Some v.width
value-width line v d = read-size v.width d.width_some d.width

pub value-height : (line : ℕ) (v : DraftVideo) → IsDrafted v → value_size (item_with line Height (decimal v.height)) ≡ Some v.height
value-height line v d = read-size v.height d.height_some d.height

pub value-ratio : (line : ℕ) (v : DraftVideo) → IsDrafted v → value_rate (item_with line ExactFrameRate (ratio_text v.rate)) ≡ Some (rate_found v.rate)
value-ratio line v d = read-rate v.rate (limited-of v d)
