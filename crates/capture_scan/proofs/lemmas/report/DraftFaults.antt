-- A draft has no fault, its parts are its videos, and what is read of them is what they were written from.
use Rattle.std.proofs.Common.{◌≡◌, ◌∙◌, ℕ, ◌+◌, ◌*◌, ◌/◌, ◌%◌, ◌^◌, ◌<◌, ◌≤◌, Bool, true, false, ◌==◌, ◌&&◌, ◌||◌, List, [], ◌∷◌, ◌++◌, length, map}
use Rattle.std.proofs.Common.{refl, sym, ap, ap₂, arith, codes, subst}
use Rattle.std.proofs.Common.{Some, None, Option, Ok, Err, length-append}
use Rattle.std.specs.Prelude.{All, if◌then◌else◌, not, nat_lt, nat_le, is_some, is_none}
use Rattle.std.specs.Char.{is_ascii_lowercase}
use Rattle.std.specs.Fmt.{decimal}
use Rattle.std.specs.List.{filter_map, flat_map, list_all, list_any}
use Rattle.std.proofs.lemmas.Fmt.{length-decimal-le}
use Rattle.std.proofs.lemmas.List.{drop_all}
use Rattle.std.proofs.lemmas.List.Elements.{All-head, All-tail}
use Rattle.std.proofs.lemmas.Bool.Decides.{nat_tests}
use Rattle.sdp_reader.specs.Fault.{least}
use Rattle.sdp_reader.specs.Lines.{TextLine, at, is_bad_line, is_bad_media, is_video, is_well_begun, line_faults, lines}
use Rattle.std.specs.Option.{option_and_then, option_map}
use Rattle.timing_base.specs.Media.{Media}
use Rattle.timing_base.specs.Targets.{is_same_target}
use Rattle.timing_base.specs.declared.address.Address.{Address}
use Rattle.timing_base.specs.declared.target.Target.{Target}
use Rattle.sdp_reader.proofs.Items.{filter_map-cons}
use Rattle.sdp_reader.specs.Parameters.{Item, at_most_one, item_faults, repeated_faults, unless, value_rate, value_size}
use Rattle.sdp_reader.specs.Parts.{Part, RawPart, connection_line as connection_of, media_from as media_found, media_of as media_of_part}
use Rattle.sdp_reader.specs.Parts.{media_with as media_built, own_lines}
use Rattle.sdp_reader.specs.Parts.{connection_faults, is_missing, is_raw_map, part_faults, parts, raw_of, raw_part, raw_with}
use Rattle.sdp_reader.specs.Session.{answer, destination_of, faults, first_too_many, have_one_target, raw_faults, raw_parts, session, streams}
use Rattle.sdp_reader.specs.Session.{target_at, target_faults, too_many_faults, unless_fault}
use Rattle.sdp_reader.specs.declared.fault.SdpCause.TheVariants.{BadAddress, BadLine, BadMedia, BadParameter, BadRate, MissingParameter, NotText}
use Rattle.sdp_reader.specs.declared.fault.SdpCause.TheVariants.{SameTarget, TooLarge}
use Rattle.sdp_reader.specs.declared.fault.SdpFault.{SdpFault}
use Rattle.capture_scan.specs.report.Draft.{connection_line, draft_text, guess_line, has_target, interlace_text, is_multicast, map_line, media_line}
use Rattle.capture_scan.specs.report.Draft.{connection_address}
use Rattle.capture_scan.specs.report.Draft.{parameter_line, session_text, video_text}
use Rattle.capture_scan.specs.report.Rates.{ratio_text}
use Rattle.capture_scan.specs.report.ReadBack.{HaveOwnTargets, IsDrafted, media_at, media_from, media_of}
use Rattle.capture_scan.specs.declared.report.draft.DraftVideo.{DraftVideo}
use Rattle.capture_scan.specs.declared.report.rate.Ratio.{Ratio}
use Rattle.capture_scan.proofs.lemmas.report.Cutting.{both_true}
use Rattle.capture_scan.proofs.lemmas.report.Decimals.{at_most}
use Rattle.capture_scan.proofs.lemmas.report.DraftLines.{IsLimited, address-then, body_lines, connection_text, ends-guess, guess_piece, inner-parameter, is_inner, limited-of}
use Rattle.capture_scan.proofs.lemmas.report.DraftLines.{line_at, lines-draft, list_text, map_text}
use Rattle.capture_scan.proofs.lemmas.report.DraftLines.{media_text}
use Rattle.capture_scan.proofs.lemmas.report.DraftLines.{octets_then, others_text, parameter_text, reads-connection, reads-guess, reads-map, reads-media, session_lines}
use Rattle.capture_scan.proofs.lemmas.report.DraftLines.{ttl_text, video_lines}
use Rattle.capture_scan.proofs.lemmas.report.DraftParts.{ExactFrameRate, Given, Height, Interlace, Rate, Video, Width, fields_text, interlace_items, item_with}
use Rattle.capture_scan.proofs.lemmas.report.DraftParts.{items_found, parameters-are, rate_found, read-address, read-video}
use Rattle.capture_scan.proofs.lemmas.report.DraftParts.{reads-raw, value-height, value-ratio, value-width, video_found}

-- ---- parts

-- the raw part of a video, with these items
abbrev raw_by : ℕ → DraftVideo → List Item → RawPart
raw_by n v items = record {
  line = n;
  video = video_found v;
  connection = Some (line_at (n + 2) (connection_text v));
  items = items;
}

-- with its own
abbrev raw_found : ℕ → DraftVideo → RawPart
raw_found n v = raw_by n v (items_found (n + 4) v)

abbrev raws_found : ℕ → List DraftVideo → List RawPart
raws_found n [] = []
raws_found n (v ∷ rest) = raw_found n v ∷ raws_found (n + 5) rest

abbrev part_of : ℕ → DraftVideo → Part
part_of n v = record { head = line_at n (media_text v); body = body_lines n v }

abbrev parts_of : ℕ → List DraftVideo → List Part
parts_of n [] = []
parts_of n (v ∷ rest) = part_of n v ∷ parts_of (n + 5) rest

-- with more lines behind its own
abbrev part_with : ℕ → DraftVideo → List TextLine → Part
part_with n v more = record {
  head = line_at n (media_text v);
  body =
      line_at (n + 1) (guess_piece v) ∷ line_at (n + 2) (connection_text v) ∷ line_at (n + 3) (map_text v)
      ∷ line_at (n + 4) (parameter_text v) ∷ more;
}

none-before : (n : ℕ) (videos : List DraftVideo) → own_lines (video_lines n videos) ≡ []
none-before n [] = refl
none-before n (v ∷ rest) = refl

parts-are : (n : ℕ) (videos : List DraftVideo) → parts (video_lines n videos) ≡ parts_of n videos
parts-are n [] = refl
parts-are n (v ∷ rest) =
    ap₂ (λ (own : List TextLine) (later : List Part). part_with n v own ∷ later) (none-before (n + 5) rest) (parts-are (n + 5) rest)

raw-is : (n : ℕ) (v : DraftVideo) → IsDrafted v → raw_of None (part_of n v) ≡ Some (raw_found n v)
raw-is n v d =
    let body = body_lines n v in
    ap (option_and_then (raw_with None n body)) (read-video v d)
    ∙ ap (λ (t : Bool). if t || (is_raw_map v.pt (line_at (n + 4) (parameter_text v)) || false) then Some (raw_part None n body (video_found v)) else None)
    (reads-raw (n + 3) v d)
    ∙ ap (λ (found : List Item). Some (raw_by n v found)) (parameters-are n v d)

raws-are : (n : ℕ) (videos : List DraftVideo) → All IsDrafted videos → filter_map (raw_of None) (parts_of n videos) ≡ raws_found n videos
raws-are n [] are = refl
raws-are n (v ∷ rest) are =
    filter_map-cons (raw_of None) (Some (raw_found n v)) (part_of n v) (parts_of (n + 5) rest) (sym (raw-is n v (All-head IsDrafted v rest are)))
    ∙ ap (λ (t : List RawPart). raw_found n v ∷ t) (raws-are (n + 5) rest (All-tail IsDrafted v rest are))

session-connects : (videos : List DraftVideo) → connection_of (own_lines (session_lines ++ video_lines 5 videos)) ≡ None
session-connects videos = ap (λ (own : List TextLine). connection_of (session_lines ++ own)) (none-before 5 videos)

raw_parts-are : (videos : List DraftVideo) → All IsDrafted videos → raw_parts (session_lines ++ video_lines 5 videos) ≡ raws_found 5 videos
raw_parts-are videos are =
    ap (λ (c : Option TextLine). filter_map (raw_of c) (parts (video_lines 5 videos))) (session-connects videos)
    ∙ ap (filter_map (raw_of None)) (parts-are 5 videos) ∙ raws-are 5 videos are

-- ---- faults of lines

or_false : (a b : Bool) → (a || b) ≡ false → (a ≡ false) × (b ≡ false)
or_false true b h = cc
or_false false b h = (refl, h)

and_no : (a : Bool) → (a && false) ≡ false
and_no true = refl
and_no false = refl

not-text : (xs : List ℕ) → list_all is_inner xs ≡ true → list_any (λ b. b == 0 || b == 13) xs ≡ false
not-text [] h = refl
not-text (x ∷ xs) h =
    let b = both_true (is_inner x) (list_all is_inner xs) h in
    let c = both_true (not (x == 10)) (not (x == 13) && not (x == 0)) b.0 in
    let e = both_true (not (x == 13)) (not (x == 0)) c.1 in
    one (x == 0) (x == 13) e.1 e.0 (not-text xs b.1)
  where
    one : (a c : Bool) → not a ≡ true → not c ≡ true → list_any (λ y. y == 0 || y == 13) xs ≡ false
        → ((a || c) || list_any (λ y. y == 0 || y == 13) xs) ≡ false
    one true c p q r = cc
    one false true p q r = cc
    one false false p q r = r

begun : (a : ℕ) (rest : List ℕ) → is_ascii_lowercase a ≡ true → is_well_begun (a ∷ 61 ∷ rest) ≡ true
begun a rest low =
    let l : nat_le 2 (length (a ∷ 61 ∷ rest)) ≡ true = at_most 2 (length (a ∷ 61 ∷ rest)) (omega arith) in
    ap₂ (λ (x y : Bool). x && y && true) l low

line-clean : (n : ℕ) (text : List ℕ) → list_all is_inner text ≡ true → is_well_begun text ≡ true → is_bad_media (line_at n text) ≡ false
    → line_faults (line_at n text) ≡ []
line-clean n text inner well media =
    let bad : is_bad_line (line_at n text) ≡ false = ap (λ b. not (length text == 0) && not b) well ∙ and_no (not (length text == 0)) in
    ap₂ (λ a b. at n NotText a ++ b) (not-text text inner) (ap₂ (λ a b. at n BadLine a ++ at n BadMedia b) bad media)

five-none : (a b c d e : List SdpFault) → a ≡ [] → b ≡ [] → c ≡ [] → d ≡ [] → e ≡ [] → a ++ (b ++ (c ++ (d ++ e))) ≡ []
five-none a b c d e p q r s t = rw (p, q, r, s, t) refl

six-none : (a b c d e f : List SdpFault) → a ≡ [] → b ≡ [] → c ≡ [] → d ≡ [] → e ≡ [] → f ≡ [] → a ++ (b ++ (c ++ (d ++ (e ++ f)))) ≡ []
six-none a b c d e f p q r s t u = rw (p, q, r, s, t, u) refl

four-none : (a b c d : List SdpFault) → a ≡ [] → b ≡ [] → c ≡ [] → d ≡ [] → a ++ (b ++ (c ++ d)) ≡ []
four-none a b c d p q r s = rw (p, q, r, s) refl

media-good : (n : ℕ) (v : DraftVideo) → IsDrafted v → is_bad_media (line_at n (media_text v)) ≡ false
media-good n v d = ap (λ f. is_video (fields_text v) && is_none f) (read-video v d) ∙ and_no (is_video (fields_text v))

videos-clean : (n : ℕ) (videos : List DraftVideo) → All IsDrafted videos → flat_map line_faults (video_lines n videos) ≡ []
videos-clean n [] are = refl
videos-clean n (v ∷ rest) are =
    let d = All-head IsDrafted v rest are in
    six-none (line_faults (line_at n (media_text v))) (line_faults (line_at (n + 1) (guess_piece v)))
    (line_faults (line_at (n + 2) (connection_text v))) (line_faults (line_at (n + 3) (map_text v)))
    (line_faults (line_at (n + 4) (parameter_text v))) (flat_map line_faults (video_lines (n + 5) rest))
    (line-clean n (media_text v) (reads-media v d).inner (begun 109 (fields_text v) refl) (media-good n v d))
    (line-clean (n + 1) (guess_piece v) (reads-guess v).inner
    (begun 105 (codes "guessed: width" ++ others_text v.guesses.height v.guesses.rate v.guesses.lines) refl) refl)
    (line-clean (n + 2) (connection_text v) (reads-connection v d).inner (begun 99 (codes "IN IP4 " ++ connection_address v.target.address) refl) refl)
    (line-clean (n + 3) (map_text v) (reads-map v d).inner (begun 97 (codes "rtpmap:" ++ (decimal v.pt ++ codes " raw/90000")) refl) refl)
    (line-clean (n + 4) (parameter_text v) (inner-parameter v d) (begun 97 (codes "fmtp:" ++ (decimal v.pt ++ (codes " " ++ list_text v))) refl) refl)
    (videos-clean (n + 5) rest (All-tail IsDrafted v rest are))

-- ---- faults of parts

items-clean : (line : ℕ) (w h r : List ℕ) (b : Bool) → is_some (value_size (item_with line Width w)) ≡ true
    → is_some (value_size (item_with line Height h)) ≡ true → is_some (value_rate (item_with line ExactFrameRate r)) ≡ true
    → flat_map item_faults (item_with line Width w ∷ item_with line Height h ∷ item_with line ExactFrameRate r ∷ interlace_items line b) ≡ []
items-clean line w h r true ew eh er =
    five-none (item_faults (item_with line Width w)) (item_faults (item_with line Height h)) (item_faults (item_with line ExactFrameRate r))
    (item_faults (record { line = line; name = Interlace; value = None })) []
    (ap (λ t. at_most_one line (unless t BadParameter)) ew) (ap (λ t. at_most_one line (unless t BadParameter)) eh)
    (ap (λ t. at_most_one line (unless t BadRate)) er) refl refl
items-clean line w h r false ew eh er =
    four-none (item_faults (item_with line Width w)) (item_faults (item_with line Height h)) (item_faults (item_with line ExactFrameRate r)) []
    (ap (λ t. at_most_one line (unless t BadParameter)) ew) (ap (λ t. at_most_one line (unless t BadParameter)) eh)
    (ap (λ t. at_most_one line (unless t BadRate)) er) refl

repeats-none : (line : ℕ) (w h r : List ℕ) (b : Bool)
    → repeated_faults (item_with line Width w ∷ item_with line Height h ∷ item_with line ExactFrameRate r ∷ interlace_items line b) ≡ []
repeats-none line w h r true = refl
repeats-none line w h r false = refl

part-clean : (n : ℕ) (v : DraftVideo) → IsDrafted v → part_faults (raw_found n v) ≡ []
part-clean n v d =
    let line = n + 4 in
    let items = items_found line v in
    four-none (connection_faults n (Some (line_at (n + 2) (connection_text v)))) (at n MissingParameter (is_missing items)) (flat_map item_faults items)
    (repeated_faults items) (ap (λ a. at (n + 2) BadAddress (is_none a)) (read-address (n + 2) v.target.address d.address)) refl
    (items-clean line (decimal v.width) (decimal v.height) (ratio_text v.rate) v.interlaced (ap is_some (value-width line v d))
    (ap is_some (value-height line v d))
    (ap is_some (value-ratio line v d)))
    (repeats-none line (decimal v.width) (decimal v.height) (ratio_text v.rate) v.interlaced)

parts-clean : (n : ℕ) (videos : List DraftVideo) → All IsDrafted videos → flat_map part_faults (raws_found n videos) ≡ []
parts-clean n [] are = refl
parts-clean n (v ∷ rest) are =
    ap₂ (λ (a b : List SdpFault). a ++ b) (part-clean n v (All-head IsDrafted v rest are)) (parts-clean (n + 5) rest (All-tail IsDrafted v rest are))

-- ---- targets

abbrev Destination : Type 0
Destination = Given destination_of

abbrev to_target : ℕ → Option Target → Destination
to_target n t = record { line = n; target = t }

abbrev to : ℕ → DraftVideo → Destination
to n v = to_target n (Some (record { address = v.target.address; port = v.target.port }))

abbrev destinations : ℕ → List DraftVideo → List Destination
destinations n [] = []
destinations n (v ∷ rest) = to n v ∷ destinations (n + 5) rest

destination-is : (n : ℕ) (v : DraftVideo) → IsDrafted v → destination_of (raw_found n v) ≡ to n v
destination-is n v d =
    ap (λ (a : Option Address). to_target n (target_at a v.target.port)) (read-address (n + 2) v.target.address d.address)

destinations-are : (n : ℕ) (videos : List DraftVideo) → All IsDrafted videos → map destination_of (raws_found n videos) ≡ destinations n videos
destinations-are n [] are = refl
destinations-are n (v ∷ rest) are =
    ap₂ (λ (a : Destination) (b : List Destination). a ∷ b) (destination-is n v (All-head IsDrafted v rest are))
    (destinations-are (n + 5) rest (All-tail IsDrafted v rest are))

same-turned : (a b : ℕ) → (a == b) ≡ (b == a)
same-turned a b = grind (arith, nat_tests)

none-later : (line n : ℕ) (v : DraftVideo) (videos : List DraftVideo) → has_target v.target videos ≡ false
    → flat_map (λ later. at (later.line) SameTarget (have_one_target (to line v) later)) (destinations n videos) ≡ []
none-later line n v [] h = refl
none-later line n v (w ∷ rest) h =
    let o = or_false (is_same_target w.target v.target) (has_target v.target rest) h in
    let turned = ap₂ (λ (a b : Bool). a && b) (same-turned v.target.address.bits w.target.address.bits) (same-turned v.target.port w.target.port) in
    ap₂ (λ (a : Bool) (b : List SdpFault). at n SameTarget a ++ b) (turned ∙ o.0) (none-later line (n + 5) v rest o.1)

targets-clean : (n : ℕ) (videos : List DraftVideo) → HaveOwnTargets videos → target_faults (destinations n videos) ≡ []
targets-clean n [] own = refl
targets-clean n (v ∷ rest) own = ap₂ (λ (a b : List SdpFault). a ++ b) (none-later n (n + 5) v rest own.0) (targets-clean (n + 5) rest own.1)

length-destinations : (n : ℕ) (videos : List DraftVideo) → length (destinations n videos) ≡ length videos
length-destinations n [] = refl
length-destinations n (v ∷ rest) = let e = length-destinations (n + 5) rest in omega (arith, e)

not-many : (n : ℕ) (videos : List DraftVideo) → length videos ≤ 64 → too_many_faults (destinations n videos) ≡ []
not-many n videos few =
    let e = length-destinations n videos in
    ap first_too_many (drop_all 64 (destinations n videos) (omega (arith, e, few)))

raw-clean : (videos : List DraftVideo) → All IsDrafted videos → HaveOwnTargets videos → length videos ≤ 64 → raw_faults (raws_found 5 videos) ≡ []
raw-clean videos are own few =
    ap₂ (λ (a : List SdpFault) (ds : List Destination). a ++ (target_faults ds ++ too_many_faults ds)) (parts-clean 5 videos are)
    (destinations-are 5 videos are)
    ∙ ap₂ (λ (a b : List SdpFault). a ++ b) (targets-clean 5 videos own) (not-many 5 videos few)

faults-none : (videos : List DraftVideo) → All IsDrafted videos → HaveOwnTargets videos → length videos ≤ 64
    → faults (session_lines ++ video_lines 5 videos) ≡ []
faults-none videos are own few =
    ap₂ (λ (a b : List SdpFault). a ++ b) (videos-clean 5 videos are) (ap raw_faults (raw_parts-are videos are) ∙ raw-clean videos are own few)

-- ---- media

-- the media that these three items lead to
abbrev media_by : ℕ → Video → List Item → Address → Option ℕ → Option ℕ → Option Rate → Option Media
media_by n video items a width height rate =
    option_and_then (λ w. option_and_then (λ h. option_map (media_built n video items a w h) rate) height) width

media-by : (n : ℕ) (video : Video) (items : List Item) (a : Address) (width height : ℕ) (rate : Rate) (w h r : Item)
    → value_size w ≡ Some width → value_size h ≡ Some height → value_rate r ≡ Some rate
    → media_by n video items a (value_size w) (value_size h) (value_rate r) ≡ Some (media_built n video items a width height rate)
media-by n video items a width height rate w h r ew eh er =
    ap₂ (λ (x y : Option ℕ). media_by n video items a x y (value_rate r)) ew eh
    ∙ ap (λ (z : Option Rate). media_by n video items a (Some width) (Some height) z) er

media-with : (line n : ℕ) (video : Video) (w h r : List ℕ) (b : Bool) (a : Address) (width height : ℕ) (rate : Rate)
    → value_size (item_with line Width w) ≡ Some width → value_size (item_with line Height h) ≡ Some height
    → value_rate (item_with line ExactFrameRate r) ≡ Some rate
    → media_found n video (Some a) (item_with line Width w ∷ item_with line Height h ∷ item_with line ExactFrameRate r ∷ interlace_items line b)
    ≡ Some (record {
      line = n;
      address = a;
      port = video.port;
      pt = video.format;
      width = width;
      height = height;
      interlaced = b;
      p = rate.p;
      q = rate.q;
      declared = None;
      troff = None;
      cmax = None;
    })
media-with line n video w h r true a width height rate ew eh er =
    let items = item_with line Width w ∷ item_with line Height h ∷ item_with line ExactFrameRate r ∷ interlace_items line true in
    media-by n video items a width height rate (item_with line Width w) (item_with line Height h) (item_with line ExactFrameRate r) ew eh er
media-with line n video w h r false a width height rate ew eh er =
    let items = item_with line Width w ∷ item_with line Height h ∷ item_with line ExactFrameRate r ∷ interlace_items line false in
    media-by n video items a width height rate (item_with line Width w) (item_with line Height h) (item_with line ExactFrameRate r) ew eh er

media-is : (n : ℕ) (v : DraftVideo) → IsDrafted v → media_of_part (raw_found n v) ≡ Some (media_at n v)
media-is n v d =
    ap (λ a. media_found n (video_found v) a (items_found (n + 4) v)) (read-address (n + 2) v.target.address d.address)
    ∙ media-with (n + 4) n (video_found v) (decimal v.width) (decimal v.height) (ratio_text v.rate) v.interlaced v.target.address v.width v.height
    (rate_found v.rate) (value-width (n + 4) v d) (value-height (n + 4) v d) (value-ratio (n + 4) v d)

media-are : (n : ℕ) (videos : List DraftVideo) → All IsDrafted videos → filter_map media_of_part (raws_found n videos) ≡ media_from n videos
media-are n [] are = refl
media-are n (v ∷ rest) are =
    filter_map-cons media_of_part (Some (media_at n v)) (raw_found n v) (raws_found (n + 5) rest) (sym (media-is n v (All-head IsDrafted v rest are)))
    ∙ ap (λ (t : List Media). media_at n v ∷ t) (media-are (n + 5) rest (All-tail IsDrafted v rest are))

streams-are : (videos : List DraftVideo) → All IsDrafted videos → 1 ≤ length videos → streams (raws_found 5 videos) ≡ Ok (media_from 5 videos)
streams-are [] are some = absurd (omega (arith, some))
streams-are (v ∷ rest) are some = ap Ok (media-are 5 (v ∷ rest) are)

answer-is : (videos : List DraftVideo) → All IsDrafted videos → HaveOwnTargets videos → 1 ≤ length videos → length videos ≤ 64
    → answer (session_lines ++ video_lines 5 videos) ≡ Ok (media_of videos)
answer-is videos are own some few =
    ap₂ (λ (fs : List SdpFault) (rs : List RawPart). unless_fault (least fs) (streams rs)) (faults-none videos are own few) (raw_parts-are videos are)
    ∙ streams-are videos are some

-- ---- the size

-- the text has at most so many bytes
record Short (n : ℕ) (xs : List ℕ) : Type 0 where
  most : length xs ≤ n

short-append : (j k n : ℕ) (xs ys : List ℕ) → length xs ≤ j → Short k ys → j + k ≤ n → Short n (xs ++ ys)
short-append j k n xs ys h l m = let e = length-append xs ys in let o = l.most in record { most = omega (arith, e, h, o, m) }

short-decimal : (n : ℕ) → n < 10 ^ 10 → length (decimal n) ≤ 10
short-decimal n small = length-decimal-le 10 n (omega arith) small (omega (arith, small))

short-ratio : (r : Ratio) → IsLimited r → length (ratio_text r) ≤ 21
short-ratio r few = by-test (r.q == 1)
  where
    p : length (decimal r.p) ≤ 10
    p = short-decimal r.p (omega (arith, few.most, few.seconds))

    q : length (decimal r.q) ≤ 10
    q = short-decimal r.q (omega (arith, few.seconds))

    by-test : (b : Bool) → length (if b then decimal r.p else decimal r.p ++ (codes "/" ++ decimal r.q)) ≤ 21
    by-test true = omega (arith, p)
    by-test false =
        (short-append 10 11 21 (decimal r.p) (codes "/" ++ decimal r.q) p
        (short-append 1 10 11 (codes "/") (decimal r.q) (omega arith) (record { most = q }) (omega arith)) (omega arith)).most

-- what is a guess
short-others : (height rate lines : Bool) → Short 60 ((codes "i=guessed: width" ++ others_text height rate lines) ++ codes "\n")
short-others true true true = record { most = omega arith }
short-others true true false = record { most = omega arith }
short-others true false true = record { most = omega arith }
short-others true false false = record { most = omega arith }
short-others false true true = record { most = omega arith }
short-others false true false = record { most = omega arith }
short-others false false true = record { most = omega arith }
short-others false false false = record { most = omega arith }

short-guess : (v : DraftVideo) → length (guess_line v) ≤ 60
short-guess v =
    let e = ap length (ends-guess v) in
    let o = (short-others v.guesses.height v.guesses.rate v.guesses.lines).most in
    omega (arith, e, o)

short-ttl : (b : Bool) → Short 3 (if b then codes "/32" else codes "")
short-ttl true = record { most = omega arith }
short-ttl false = record { most = omega arith }

short-interlace : (b : Bool) → Short 12 (interlace_text b ++ codes "\n")
short-interlace true = record { most = omega arith }
short-interlace false = record { most = omega arith }

short-media : (v : DraftVideo) → IsDrafted v → Short 50 (media_line v)
short-media v d =
    short-append 8 40 50 (codes "m=video ") _ (omega arith)
    (short-append 10 30 40 (decimal v.target.port) _ (short-decimal v.target.port (omega (arith, d.port)))
    (short-append 9 20 30 (codes " RTP/AVP ") _ (omega arith)
    (short-append 10 1 20 (decimal v.pt) (codes "\n") (short-decimal v.pt (omega (arith, d.pt))) (record { most = omega arith })
    (omega arith)) (omega arith)) (omega arith))
    (omega arith)

short-octets : (a : ℕ) (b : Bool) → a < 2 ^ 32
    → Short 60 (octets_then (a / 2 ^ 24) (a / 2 ^ 16 % 2 ^ 8) (a / 2 ^ 8 % 2 ^ 8) (a % 2 ^ 8) (if b then codes "/32" else codes ""))
short-octets a b small =
    short-append 10 50 60 (decimal (a / 2 ^ 24)) _ (short-decimal (a / 2 ^ 24) (omega (arith, small)))
    (short-append 1 49 50 (codes ".") _ (omega arith)
    (short-append 10 39 49 (decimal (a / 2 ^ 16 % 2 ^ 8)) _ (short-decimal (a / 2 ^ 16 % 2 ^ 8) (omega arith))
    (short-append 1 38 39 (codes ".") _ (omega arith)
    (short-append 10 28 38 (decimal (a / 2 ^ 8 % 2 ^ 8)) _ (short-decimal (a / 2 ^ 8 % 2 ^ 8) (omega arith))
    (short-append 1 27 28 (codes ".") _ (omega arith)
    (short-append 10 3 27 (decimal (a % 2 ^ 8)) _ (short-decimal (a % 2 ^ 8) (omega arith)) (short-ttl b) (omega arith))
    (omega arith)) (omega arith)) (omega arith)) (omega arith)) (omega arith)) (omega arith)

short-address : (a : Address) → a.bits < 2 ^ 32 → Short 60 (connection_address a)
short-address a small = subst (Short 60) (sym (address-then a (ttl_text a))) (short-octets a.bits (is_multicast a) small)

short-connection : (v : DraftVideo) → IsDrafted v → Short 80 (connection_line v)
short-connection v d =
    short-append 9 61 80 (codes "c=IN IP4 ") _ (omega arith)
    (short-append 60 1 61 (connection_address v.target.address) (codes "\n") (short-address v.target.address d.address).most (record { most = omega arith })
    (omega arith))
    (omega arith)

short-map : (v : DraftVideo) → IsDrafted v → Short 40 (map_line v)
short-map v d =
    short-append 9 30 40 (codes "a=rtpmap:") _ (omega arith)
    (short-append 10 20 30 (decimal v.pt) (codes " raw/90000\n") (short-decimal v.pt (omega (arith, d.pt))) (record { most = omega arith })
    (omega arith)) (omega arith)

short-parameter : (v : DraftVideo) → IsDrafted v → Short 130 (parameter_line v)
short-parameter v d =
    short-append 7 123 130 (codes "a=fmtp:") _ (omega arith)
    (short-append 10 113 123 (decimal v.pt) _ (short-decimal v.pt (omega (arith, d.pt)))
    (short-append 7 106 113 (codes " width=") _ (omega arith)
    (short-append 10 96 106 (decimal v.width) _ (short-decimal v.width (omega (arith, d.width)))
    (short-append 9 87 96 (codes "; height=") _ (omega arith)
    (short-append 10 77 87 (decimal v.height) _ (short-decimal v.height (omega (arith, d.height)))
    (short-append 17 60 77 (codes "; exactframerate=") _ (omega arith)
    (short-append 21 39 60 (ratio_text v.rate) _ (short-ratio v.rate (limited-of v d))
    (short-append 2 12 39 (codes "; ") _ (omega arith) (short-interlace v.interlaced) (omega arith)) (omega arith)) (omega arith)) (omega arith)) (omega arith))
    (omega arith)) (omega arith)) (omega arith)) (omega arith)

short-video : (v : DraftVideo) → IsDrafted v → Short 360 (video_text v)
short-video v d =
    short-append 50 310 360 (media_line v) _ (short-media v d).most
    (short-append 60 250 310 (guess_line v) _ (short-guess v)
    (short-append 80 170 250 (connection_line v) _ (short-connection v d).most
    (short-append 40 130 170 (map_line v) (parameter_line v) (short-map v d).most (short-parameter v d) (omega arith)) (omega arith)) (omega arith))
    (omega arith)

short-videos : (videos : List DraftVideo) → All IsDrafted videos → length (flat_map video_text videos) ≤ 360 * length videos
short-videos [] are = omega arith
short-videos (v ∷ rest) are =
    let one = (short-video v (All-head IsDrafted v rest are)).most in
    let more = short-videos rest (All-tail IsDrafted v rest are) in
    let e = length-append (video_text v) (flat_map video_text rest) in
    omega (arith, one, more, e)

not-large : (videos : List DraftVideo) → All IsDrafted videos → length videos ≤ 64 → nat_lt 1048576 (length (draft_text videos)) ≡ false
not-large videos are few =
    let videos_short = short-videos videos are in
    let whole : length (draft_text videos) ≤ 100000 = (short-append 100 30000 100000 session_text (flat_map video_text videos) (omega arith)
    (record { most = omega (arith, videos_short, few) }) (omega arith)).most in
    grind (arith, nat_tests)

-- ---- the whole

abbrev too_large : SdpFault
too_large = record { line = 0; what = TooLarge }

pub draft-reads : (videos : List DraftVideo) → All IsDrafted videos → HaveOwnTargets videos → 1 ≤ length videos → length videos ≤ 64
    → session (draft_text videos) ≡ Ok (media_of videos)
draft-reads videos are own some few =
    ap (λ (b : Bool). if b then Err too_large else answer (lines (draft_text videos))) (not-large videos are few)
    ∙ ap answer (lines-draft videos are) ∙ answer-is videos are own some few
