-- The lines of a draft.
use Rattle.std.proofs.Common.{◌≡◌, ◌∙◌, ℕ, ◌+◌, ◌*◌, ◌/◌, ◌%◌, ◌^◌, ◌<◌, ◌≤◌, Bool, true, false, ◌==◌, ◌&&◌, ◌||◌, List, [], ◌∷◌, ◌++◌, length, refl}
use Rattle.std.proofs.Common.{sym, ap, arith, append_assoc, codes, ap₂, subst}
use Rattle.std.specs.Prelude.{All, if◌then◌else◌, not}
use Rattle.std.proofs.lemmas.List.Elements.{All-head, All-tail}
use Rattle.std.specs.Fmt.{decimal}
use Rattle.std.specs.List.{flat_map, list_all, slice_split}
use Rattle.std.proofs.lemmas.Fmt.{decimal_nonempty}
use Rattle.sdp_reader.specs.Bytes.{is_blank, onto_trimmed, trim_end}
use Rattle.sdp_reader.specs.Lines.{TextLine, lines, numbered, without_cr}
use Rattle.sdp_reader.proofs.Numbering.{numbered-line}
use Rattle.timing_base.specs.Addresses.{address_text}
use Rattle.timing_base.specs.declared.address.Address.{Address}
use Rattle.capture_scan.specs.report.Draft.{connection_line, draft_text, guess_line, guess_text, interlace_text, is_multicast, map_line, media_line}
use Rattle.capture_scan.specs.report.Draft.{connection_address, parameter_line}
use Rattle.capture_scan.specs.report.Draft.{video_text}
use Rattle.capture_scan.specs.report.Rates.{ratio_text}
use Rattle.capture_scan.specs.report.ReadBack.{IsDrafted}
use Rattle.capture_scan.specs.declared.report.draft.DraftVideo.{DraftVideo}
use Rattle.capture_scan.specs.declared.report.rate.Ratio.{Ratio}
use Rattle.capture_scan.proofs.lemmas.report.Cutting.{all-append, and_true, both_true, lacks, split-at}
use Rattle.capture_scan.proofs.lemmas.report.Decimals.{digit-above, digits-all}

-- ---- texts that stay as they are when they are trimmed

-- the text isn't empty, and its last byte is no blank
pub record Stays (xs : List ℕ) : Type 0 where
  pub same : trim_end xs ≡ xs
  pub some : 0 < length xs

onto-some : (x : ℕ) (xs : List ℕ) → 0 < length xs → onto_trimmed x xs ≡ x ∷ xs
onto-some x [] h = absurd (omega arith)
onto-some x (y ∷ ys) h = refl

longer : (xs ys : List ℕ) → 0 < length ys → 0 < length (xs ++ ys)
longer [] ys h = h
longer (x ∷ xs) ys h = omega arith

pub stays-after : (xs ys : List ℕ) → Stays ys → Stays (xs ++ ys)
stays-after [] ys h = h
stays-after (x ∷ xs) ys h =
    let rest = stays-after xs ys h in
    record { same = ap (onto_trimmed x) rest.same ∙ onto-some x (xs ++ ys) rest.some; some = omega arith }

trims-none : (xs : List ℕ) → list_all (λ x. not (is_blank x)) xs ≡ true → trim_end xs ≡ xs
trims-none [] h = refl
trims-none (x ∷ xs) h =
    let b = both_true (not (is_blank x)) (list_all (λ y. not (is_blank y)) xs) h in
    ap (onto_trimmed x) (trims-none xs b.1) ∙ onto-plain x xs b.0
  where
    onto-plain : (y : ℕ) (ys : List ℕ) → not (is_blank y) ≡ true → onto_trimmed y ys ≡ y ∷ ys
    onto-plain y (z ∷ zs) k = refl
    onto-plain y [] k = by-test (is_blank y) k
      where
        by-test : (b : Bool) → not b ≡ true → (if b then [] else y ∷ []) ≡ y ∷ []
        by-test true k = cc
        by-test false k = refl

neither : (a b : Bool) → not a ≡ true → not b ≡ true → not (a || b) ≡ true
neither true b h k = cc
neither false b h k = k

pub stays-decimal : (n : ℕ) → n < 2 ^ 64 → Stays (decimal n)
stays-decimal n small = record {
  same = trims-none (decimal n) (digits-all (λ x. not (is_blank x)) (λ d l. neither (48 + d == 32) (48 + d == 9) (digit-above d 32 (omega arith))
      (digit-above d 9 (omega arith))) n small);
  some = decimal_nonempty n small;
}

-- a blank at the end is dropped
trim-blank : (xs : List ℕ) → trim_end (xs ++ 32 ∷ []) ≡ trim_end xs
trim-blank [] = refl
trim-blank (x ∷ xs) = ap (onto_trimmed x) (trim-blank xs)

-- a text without CR has none at its end
no-cr : (xs : List ℕ) → lacks 13 xs ≡ true → without_cr xs ≡ xs
no-cr [] h = refl
no-cr (x ∷ []) h = by-test (x == 13) (both_true (not (x == 13)) true h).0
  where
    by-test : (b : Bool) → not b ≡ true → (if b then [] else x ∷ []) ≡ x ∷ []
    by-test true k = cc
    by-test false k = refl
no-cr (x ∷ y ∷ xs) h = ap (λ t. x ∷ t) (no-cr (y ∷ xs) (both_true (not (x == 13)) (lacks 13 (y ∷ xs)) h).1)

-- ---- bytes of lines

-- neither a byte 0, nor LF, nor CR
abbrev pub is_inner : ℕ → Bool
is_inner b = not (b == 10) && (not (b == 13) && not (b == 0))

pub inner-decimal : (n : ℕ) → n < 2 ^ 64 → list_all is_inner (decimal n) ≡ true
inner-decimal n small =
    digits-all is_inner
    (λ d l. and_true (not (48 + d == 10)) (not (48 + d == 13) && not (48 + d == 0)) (digit-above d 10 (omega arith))
    (and_true (not (48 + d == 13)) (not (48 + d == 0)) (digit-above d 13 (omega arith)) (digit-above d 0 (omega arith)))) n small

inner-lacks_lf : (xs : List ℕ) → list_all is_inner xs ≡ true → lacks 10 xs ≡ true
inner-lacks_lf [] h = refl
inner-lacks_lf (x ∷ xs) h =
    let b = both_true (is_inner x) (list_all is_inner xs) h in
    and_true (not (x == 10)) (lacks 10 xs) (both_true (not (x == 10)) _ b.0).0 (inner-lacks_lf xs b.1)

inner-lacks_cr : (xs : List ℕ) → list_all is_inner xs ≡ true → lacks 13 xs ≡ true
inner-lacks_cr [] h = refl
inner-lacks_cr (x ∷ xs) h =
    let b = both_true (is_inner x) (list_all is_inner xs) h in
    let c = both_true (not (x == 10)) (not (x == 13) && not (x == 0)) b.0 in
    and_true (not (x == 13)) (lacks 13 xs) (both_true (not (x == 13)) (not (x == 0)) c.1).0 (inner-lacks_cr xs b.1)

-- each byte of the text is one of these
pub record Inner (xs : List ℕ) : Type 0 where
  pub all : list_all is_inner xs ≡ true

inner-then : (xs ys : List ℕ) → list_all is_inner xs ≡ true → Inner ys → Inner (xs ++ ys)
inner-then xs ys h k = record { all = all-append is_inner xs ys h k.all }

-- a line of a text, and what it is once it is read
pub record Reads (piece text : List ℕ) : Type 0 where
  pub inner : list_all is_inner piece ≡ true
  pub trimmed : trim_end piece ≡ text

-- a line with this number and text
abbrev pub line_at : ℕ → List ℕ → TextLine
line_at number text = record { number = number; text = text }

-- the lines from one on
abbrev pub rest_at : ℕ → List ℕ → List TextLine
rest_at n bytes = numbered n (slice_split (λ x. x == 10) bytes)

pub read-line : (n : ℕ) (piece text rest : List ℕ) → Reads piece text → rest_at n (piece ++ 10 ∷ rest) ≡ line_at n text ∷ rest_at (n + 1) rest
read-line n piece text rest h =
    sym (numbered-line [] n (piece ++ 10 ∷ rest) piece rest (split-at 10 piece rest (inner-lacks_lf piece h.inner)))
    ∙ ap (λ t. line_at n t ∷ rest_at (n + 1) rest) (ap trim_end (no-cr piece (inner-lacks_cr piece h.inner)) ∙ h.trimmed)

-- ---- the lines of a video

abbrev pub media_text : DraftVideo → List ℕ
media_text v = codes "m=video " ++ (decimal v.target.port ++ (codes " RTP/AVP " ++ decimal v.pt))

abbrev pub connection_text : DraftVideo → List ℕ
connection_text v = codes "c=IN IP4 " ++ connection_address v.target.address

abbrev pub map_text : DraftVideo → List ℕ
map_text v = codes "a=rtpmap:" ++ (decimal v.pt ++ codes " raw/90000")

-- what stands behind the rate
abbrev pub tail_text : Bool → List ℕ
tail_text true = codes "; interlace;"
tail_text false = codes ";"

abbrev pub list_text : DraftVideo → List ℕ
list_text v =
    codes "width=" ++ (decimal v.width ++ (codes "; height=" ++ (decimal v.height ++ (codes "; exactframerate="
    ++ (ratio_text v.rate ++ tail_text v.interlaced)))))

abbrev pub parameter_text : DraftVideo → List ℕ
parameter_text v = codes "a=fmtp:" ++ (decimal v.pt ++ (codes " " ++ list_text v))

-- as it stands in the draft: with the blank behind it
abbrev pub parameter_piece : DraftVideo → List ℕ
parameter_piece v =
    codes "a=fmtp:" ++ (decimal v.pt ++ (codes " width=" ++ (decimal v.width ++ (codes "; height="
    ++ (decimal v.height ++ (codes "; exactframerate=" ++ (ratio_text v.rate ++ (codes "; " ++ interlace_text v.interlaced))))))))

-- a rate that a description can have
pub record IsLimited (r : Ratio) : Type 0 where
  pub some : 1 ≤ r.p
  pub most : r.p ≤ 240 * r.q
  pub whole : 1 ≤ r.q
  pub seconds : r.q ≤ 1001

pub limited-of : (v : DraftVideo) → IsDrafted v → IsLimited v.rate
limited-of v d = record { some = d.rate_some; most = d.rate; whole = d.seconds_some; seconds = d.seconds }

pub inner-ratio : (r : Ratio) → IsLimited r → list_all is_inner (ratio_text r) ≡ true
inner-ratio r few = by-test (r.q == 1)
  where
    p : list_all is_inner (decimal r.p) ≡ true
    p = inner-decimal r.p (omega (arith, few.most, few.seconds))

    q : list_all is_inner (decimal r.q) ≡ true
    q = inner-decimal r.q (omega (arith, few.seconds))

    by-test : (b : Bool) → list_all is_inner (if b then decimal r.p else decimal r.p ++ (codes "/" ++ decimal r.q)) ≡ true
    by-test true = p
    by-test false = all-append is_inner (decimal r.p) (codes "/" ++ decimal r.q) p (all-append is_inner (codes "/") (decimal r.q) refl q)

-- what is a guess, as it stands in the draft
abbrev pub others_text : (height rate lines : Bool) → List ℕ
others_text height rate lines =
    guess_text height (codes ", height") ++ (guess_text rate (codes ", rate") ++ guess_text lines (codes ", lines not captured"))

abbrev pub guess_piece : DraftVideo → List ℕ
guess_piece v = codes "i=guessed: width" ++ others_text v.guesses.height v.guesses.rate v.guesses.lines

reads-others : (height rate lines : Bool) → Reads (codes "i=guessed: width" ++ others_text height rate lines)
    (codes "i=guessed: width" ++ others_text height rate lines)
reads-others true true true = record { inner = refl; trimmed = refl }
reads-others true true false = record { inner = refl; trimmed = refl }
reads-others true false true = record { inner = refl; trimmed = refl }
reads-others true false false = record { inner = refl; trimmed = refl }
reads-others false true true = record { inner = refl; trimmed = refl }
reads-others false true false = record { inner = refl; trimmed = refl }
reads-others false false true = record { inner = refl; trimmed = refl }
reads-others false false false = record { inner = refl; trimmed = refl }

pub reads-guess : (v : DraftVideo) → Reads (guess_piece v) (guess_piece v)
reads-guess v = reads-others v.guesses.height v.guesses.rate v.guesses.lines

pub reads-media : (v : DraftVideo) → IsDrafted v → Reads (media_text v) (media_text v)
reads-media v d = record {
  inner = (inner-then (codes "m=video ") _ refl
      (inner-then (decimal v.target.port) _ (inner-decimal v.target.port (omega (arith, d.port)))
      (inner-then (codes " RTP/AVP ") _ refl (record { all = inner-decimal v.pt (omega (arith, d.pt)) })))).all;
  trimmed = (stays-after (codes "m=video ") _ (stays-after (decimal v.target.port) _ (stays-after (codes " RTP/AVP ") _
      (stays-decimal v.pt (omega (arith, d.pt)))))).same;
}

pub reads-map : (v : DraftVideo) → IsDrafted v → Reads (map_text v) (map_text v)
reads-map v d = record {
  inner = (inner-then (codes "a=rtpmap:") _ refl
      (inner-then (decimal v.pt) (codes " raw/90000") (inner-decimal v.pt (omega (arith, d.pt))) (record { all = refl }))).all;
  trimmed = (stays-after (codes "a=rtpmap:") _ (stays-after (decimal v.pt) (codes " raw/90000") (record { same = refl; some = omega arith }))).same;
}

-- the last octet, with a TTL where there is one
inner-ttl : (b : Bool) → list_all is_inner (if b then codes "/32" else codes "") ≡ true
inner-ttl true = refl
inner-ttl false = refl

stays-ttl : (n : ℕ) (b : Bool) → n < 2 ^ 64 → Stays (decimal n ++ (if b then codes "/32" else codes ""))
stays-ttl n true small = stays-after (decimal n) (codes "/32") (record { same = refl; some = omega arith })
stays-ttl n false small =
    let d = stays-decimal n small in
    record { same = ap trim_end (nothing (decimal n)) ∙ d.same ∙ sym (nothing (decimal n)); some = longer-front (decimal n) d.some }
  where
    nothing : (xs : List ℕ) → xs ++ [] ≡ xs
    nothing [] = refl
    nothing (x ∷ xs) = ap (λ t. x ∷ t) (nothing xs)

    longer-front : (xs : List ℕ) → 0 < length xs → 0 < length (xs ++ [])
    longer-front [] h = h
    longer-front (x ∷ xs) h = omega arith

-- ---- the text of an address, octet by octet

-- four octets and what follows them
abbrev pub octets_then : (a b c d : ℕ) → List ℕ → List ℕ
octets_then a b c d last =
    decimal a ++ (codes "." ++ (decimal b ++ (codes "." ++ (decimal c ++ (codes "." ++ (decimal d ++ last))))))

-- what follows an address
abbrev pub ttl_text : Address → List ℕ
ttl_text a = if is_multicast a then codes "/32" else codes ""

dots-then : (a b c d last : List ℕ) → (a ++ 46 ∷ (b ++ 46 ∷ (c ++ 46 ∷ d))) ++ last ≡ a ++ 46 ∷ (b ++ 46 ∷ (c ++ 46 ∷ (d ++ last)))
dots-then a b c d last =
    append_assoc a (46 ∷ (b ++ 46 ∷ (c ++ 46 ∷ d))) last
    ∙ ap (λ t. a ++ 46 ∷ t) (append_assoc b (46 ∷ (c ++ 46 ∷ d)) last ∙ ap (λ t. b ++ 46 ∷ t) (append_assoc c (46 ∷ d) last))

pub address-then : (a : Address) (last : List ℕ)
    → address_text a ++ last ≡ octets_then (a.bits / 2 ^ 24) (a.bits / 2 ^ 16 % 2 ^ 8) (a.bits / 2 ^ 8 % 2 ^ 8) (a.bits % 2 ^ 8) last
address-then a last =
    dots-then (decimal (a.bits / 2 ^ 24)) (decimal (a.bits / 2 ^ 16 % 2 ^ 8)) (decimal (a.bits / 2 ^ 8 % 2 ^ 8)) (decimal (a.bits % 2 ^ 8)) last

reads-octets : (a : ℕ) (b : Bool) → a < 2 ^ 32 → (text : List ℕ)
    → text ≡ codes "c=IN IP4 "
    ++ octets_then (a / 2 ^ 24) (a / 2 ^ 16 % 2 ^ 8) (a / 2 ^ 8 % 2 ^ 8) (a % 2 ^ 8) (if b then codes "/32" else codes "") → Reads text text
reads-octets a b small text is =
    subst (λ t. Reads t t) (sym is)
    record {
      inner = (inner-then (codes "c=IN IP4 ") _ refl
          (inner-then (decimal (a / 2 ^ 24)) _ (inner-decimal (a / 2 ^ 24) (omega (arith, small)))
          (inner-then (codes ".") _ refl
          (inner-then (decimal (a / 2 ^ 16 % 2 ^ 8)) _ (inner-decimal (a / 2 ^ 16 % 2 ^ 8) (omega arith))
          (inner-then (codes ".") _ refl
          (inner-then (decimal (a / 2 ^ 8 % 2 ^ 8)) _ (inner-decimal (a / 2 ^ 8 % 2 ^ 8) (omega arith))
          (inner-then (codes ".") _ refl
          (inner-then (decimal (a % 2 ^ 8)) _ (inner-decimal (a % 2 ^ 8) (omega arith)) (record { all = inner-ttl b }))))))))).all;
      trimmed = (stays-after (codes "c=IN IP4 ") _ (stays-after (decimal (a / 2 ^ 24)) _ (stays-after (codes ".") _
          (stays-after (decimal (a / 2 ^ 16 % 2 ^ 8)) _ (stays-after (codes ".") _
          (stays-after (decimal (a / 2 ^ 8 % 2 ^ 8)) _ (stays-after (codes ".") _ (stays-ttl (a % 2 ^ 8) b (omega arith))))))))).same;
    }

pub reads-connection : (v : DraftVideo) → IsDrafted v → Reads (connection_text v) (connection_text v)
reads-connection v d =
    reads-octets v.target.address.bits (is_multicast v.target.address) d.address (connection_text v)
    (ap (λ t. codes "c=IN IP4 " ++ t) (address-then v.target.address (ttl_text v.target.address)))

inner-interlace : (b : Bool) → list_all is_inner (codes "; " ++ interlace_text b) ≡ true
inner-interlace true = refl
inner-interlace false = refl

-- up to the blank at the end
piece-is : (b : Bool) → codes "; " ++ interlace_text b ≡ tail_text b ++ 32 ∷ []
piece-is true = refl
piece-is false = refl

stays-tail : (b : Bool) → Stays (tail_text b)
stays-tail true = record { same = refl; some = omega arith }
stays-tail false = record { same = refl; some = omega arith }

-- what is put behind a text that has these parts is put behind the last
behind : (a b c d e f g h : List ℕ) → h ≡ g ++ 32 ∷ []
    → a ++ (b ++ (c ++ (d ++ (e ++ (f ++ h))))) ≡ (a ++ (b ++ (c ++ (d ++ (e ++ (f ++ g)))))) ++ 32 ∷ []
behind a b c d e f g h is =
    ap (λ t. a ++ (b ++ (c ++ (d ++ (e ++ (f ++ t)))))) is
    ∙ ap (λ t. a ++ (b ++ (c ++ (d ++ (e ++ t))))) (sym (append_assoc f g (32 ∷ [])))
    ∙ ap (λ t. a ++ (b ++ (c ++ (d ++ t)))) (sym (append_assoc e (f ++ g) (32 ∷ [])))
    ∙ ap (λ t. a ++ (b ++ (c ++ t))) (sym (append_assoc d (e ++ (f ++ g)) (32 ∷ [])))
    ∙ ap (λ t. a ++ (b ++ t)) (sym (append_assoc c (d ++ (e ++ (f ++ g))) (32 ∷ [])))
    ∙ ap (λ t. a ++ t) (sym (append_assoc b (c ++ (d ++ (e ++ (f ++ g)))) (32 ∷ [])))
    ∙ sym (append_assoc a (b ++ (c ++ (d ++ (e ++ (f ++ g))))) (32 ∷ []))

piece-parameter : (v : DraftVideo) → parameter_piece v ≡ parameter_text v ++ 32 ∷ []
piece-parameter v =
    ap (λ t. codes "a=fmtp:" ++ t)
    (behind (decimal v.pt) (codes " width=" ++ decimal v.width) (codes "; height=") (decimal v.height) (codes "; exactframerate=") (ratio_text v.rate)
    (tail_text v.interlaced) (codes "; " ++ interlace_text v.interlaced) (piece-is v.interlaced))

pub reads-parameter : (v : DraftVideo) → IsDrafted v → Reads (parameter_piece v) (parameter_text v)
reads-parameter v d = record {
  inner = (inner-then (codes "a=fmtp:") _ refl
      (inner-then (decimal v.pt) _ (inner-decimal v.pt (omega (arith, d.pt)))
      (inner-then (codes " width=") _ refl
      (inner-then (decimal v.width) _ (inner-decimal v.width (omega (arith, d.width)))
      (inner-then (codes "; height=") _ refl
      (inner-then (decimal v.height) _ (inner-decimal v.height (omega (arith, d.height)))
      (inner-then (codes "; exactframerate=") _ refl
      (inner-then (ratio_text v.rate) _ (inner-ratio v.rate (limited-of v d)) (record { all = inner-interlace v.interlaced }))))))))).all;
  trimmed = ap trim_end (piece-parameter v) ∙ trim-blank (parameter_text v)
      ∙ (stays-after (codes "a=fmtp:") _ (stays-after (decimal v.pt) _ (stays-after (codes " width=") _ (stays-after (decimal v.width) _
      (stays-after (codes "; height=") _ (stays-after (decimal v.height) _ (stays-after (codes "; exactframerate=") _
      (stays-after (ratio_text v.rate) _ (stays-tail v.interlaced))))))))).same;
}

-- ---- the lines of all videos

-- a line in two parts, its end, and what follows
two-parts : (a b rest : List ℕ) → (a ++ (b ++ codes "\n")) ++ rest ≡ (a ++ b) ++ 10 ∷ rest
two-parts a b rest = append_assoc a (b ++ codes "\n") rest ∙ ap (λ t. a ++ t) (append_assoc b (codes "\n") rest) ∙ sym (append_assoc a b (10 ∷ rest))

-- a line whose last part ends with its end
ended : (a b : List ℕ) → a ++ (b ++ codes "\n") ≡ (a ++ b) ++ codes "\n"
ended a b = sym (append_assoc a b (codes "\n"))

ends-media : (v : DraftVideo) → media_line v ≡ media_text v ++ codes "\n"
ends-media v =
    ap (λ t. codes "m=video " ++ t)
    (ap (λ t. decimal v.target.port ++ t) (ended (codes " RTP/AVP ") (decimal v.pt)) ∙ ended (decimal v.target.port) (codes " RTP/AVP " ++ decimal v.pt))

ends-parameter : (v : DraftVideo) → parameter_line v ≡ parameter_piece v ++ codes "\n"
ends-parameter v =
    let r = ratio_text v.rate in
    let i = interlace_text v.interlaced in
    let e1 = codes "; " ++ i in
    let e2 = codes "; exactframerate=" ++ (r ++ e1) in
    let e3 = codes "; height=" ++ (decimal v.height ++ e2) in
    let e4 = codes " width=" ++ (decimal v.width ++ e3) in
    ap (λ t. codes "a=fmtp:" ++ t)
    (ap (λ t. decimal v.pt ++ (codes " width=" ++ (decimal v.width ++ (codes "; height=" ++ (decimal v.height ++ (codes "; exactframerate=" ++ t))))))
    (ended r e1)
    ∙ ap (λ t. decimal v.pt ++ (codes " width=" ++ (decimal v.width ++ (codes "; height=" ++ t)))) (ended (decimal v.height) e2)
    ∙ ap (λ t. decimal v.pt ++ (codes " width=" ++ t)) (ended (decimal v.width) e3)
    ∙ ended (decimal v.pt) e4)

pub ends-guess : (v : DraftVideo) → guess_line v ≡ guess_piece v ++ codes "\n"
ends-guess v = ap (λ t. codes "i=guessed: width" ++ t) (parts (guess_text v.guesses.height (codes ", height")) (guess_text v.guesses.rate (codes ", rate"))
    (guess_text v.guesses.lines (codes ", lines not captured")))
  where
    parts : (a b c : List ℕ) → a ++ (b ++ (c ++ codes "\n")) ≡ (a ++ (b ++ c)) ++ codes "\n"
    parts a b c = ap (λ t. a ++ t) (ended b c) ∙ ended a (b ++ c)

-- the lines of a video, and what follows
abbrev of_lines : (media guess connection map parameter rest : List ℕ) → List ℕ
of_lines media guess connection map parameter rest = media ++ 10 ∷ (guess ++ 10 ∷ (connection ++ 10 ∷ (map ++ 10 ∷ (parameter ++ 10 ∷ rest))))

five : (m g c a p rest : List ℕ)
    → ((m ++ codes "\n") ++ ((g ++ codes "\n") ++ ((c ++ codes "\n") ++ ((a ++ codes "\n") ++ (p ++ codes "\n"))))) ++ rest ≡ of_lines m g c a p rest
five m g c a p rest =
    append_assoc (m ++ codes "\n") _ rest
    ∙ append_assoc m (codes "\n") _
    ∙ ap (λ t. m ++ 10 ∷ t) (append_assoc (g ++ codes "\n") _ rest ∙ append_assoc g (codes "\n") _
    ∙ ap (λ t. g ++ 10 ∷ t) (append_assoc (c ++ codes "\n") _ rest ∙ append_assoc c (codes "\n") _
    ∙ ap (λ t. c ++ 10 ∷ t) (append_assoc (a ++ codes "\n") _ rest ∙ append_assoc a (codes "\n") _
    ∙ ap (λ t. a ++ 10 ∷ t) (append_assoc p (codes "\n") rest))))

ends-map : (v : DraftVideo) → map_line v ≡ map_text v ++ codes "\n"
ends-map v = ap (λ t. codes "a=rtpmap:" ++ t) (sym (append_assoc (decimal v.pt) (codes " raw/90000") (codes "\n")))

video-is : (v : DraftVideo) (rest : List ℕ)
    → video_text v ++ rest ≡ of_lines (media_text v) (guess_piece v) (connection_text v) (map_text v) (parameter_piece v) rest
video-is v rest =
    ap (λ t. t ++ rest) (ap (λ t. t ++ (guess_line v ++ (connection_line v ++ (map_line v ++ parameter_line v)))) (ends-media v)
    ∙ ap (λ t. (media_text v ++ codes "\n") ++ t)
    (pieces (guess_line v) (connection_line v) (map_line v) (parameter_line v) _ _ _ _ (ends-guess v) refl (ends-map v) (ends-parameter v)))
    ∙ five (media_text v) (guess_piece v) (connection_text v) (map_text v) (parameter_piece v) rest
  where
    pieces : (a b c d e f g h : List ℕ) → a ≡ e → b ≡ f → c ≡ g → d ≡ h → a ++ (b ++ (c ++ d)) ≡ e ++ (f ++ (g ++ h))
    pieces a b c d e f g h p q r s = rw (p, q, r, s) refl

-- the lines of a video from this one on
abbrev pub body_lines : ℕ → DraftVideo → List TextLine
body_lines n v =
    line_at (n + 1) (guess_piece v) ∷ line_at (n + 2) (connection_text v) ∷ line_at (n + 3) (map_text v)
    ∷ line_at (n + 4) (parameter_text v) ∷ []

abbrev pub video_lines : ℕ → List DraftVideo → List TextLine
video_lines n [] = []
video_lines n (v ∷ rest) = line_at n (media_text v) ∷ (body_lines n v ++ video_lines (n + 5) rest)

-- the lines of all videos
pub rest-videos : (n : ℕ) (videos : List DraftVideo) → All IsDrafted videos → rest_at n (flat_map video_text videos) ≡ video_lines n videos
rest-videos n [] are = refl
rest-videos n (v ∷ rest) are =
    let d = All-head IsDrafted v rest are in
    let two : n + 1 + 1 ≡ n + 2 = omega arith in
    let three : n + 1 + 1 + 1 ≡ n + 3 = omega arith in
    let four : n + 1 + 1 + 1 + 1 ≡ n + 4 = omega arith in
    let next : n + 1 + 1 + 1 + 1 + 1 ≡ n + 5 = omega arith in
    let p = parameter_piece v ++ 10 ∷ flat_map video_text rest in
    let m = connection_text v ++ 10 ∷ (map_text v ++ 10 ∷ p) in
    ap (rest_at n) (video-is v (flat_map video_text rest))
    ∙ read-line n (media_text v) (media_text v) (guess_piece v ++ 10 ∷ m) (reads-media v d)
    ∙ ap (λ t. line_at n (media_text v) ∷ t)
    (read-line (n + 1) (guess_piece v) (guess_piece v) m (reads-guess v)
    ∙ ap (λ t. line_at (n + 1) (guess_piece v) ∷ t)
    (read-line (n + 1 + 1) (connection_text v) (connection_text v) (map_text v ++ 10 ∷ p) (reads-connection v d)
    ∙ ap₂ (λ (k : ℕ) (t : List TextLine). line_at k (connection_text v) ∷ t) two
    (read-line (n + 1 + 1 + 1) (map_text v) (map_text v) p (reads-map v d)
    ∙ ap₂ (λ (k : ℕ) (t : List TextLine). line_at k (map_text v) ∷ t) three
    (read-line (n + 1 + 1 + 1 + 1) (parameter_piece v) (parameter_text v) (flat_map video_text rest) (reads-parameter v d)
    ∙ ap₂ (λ (k : ℕ) (t : List TextLine). line_at k (parameter_text v) ∷ t) four
    (ap (λ (k : ℕ). rest_at k (flat_map video_text rest)) next ∙ rest-videos (n + 5) rest (All-tail IsDrafted v rest are))))))

-- those of the session
abbrev pub session_lines : List TextLine
session_lines =
    line_at 1 (codes "v=0") ∷ line_at 2 (codes "o=- 0 0 IN IP4 0.0.0.0") ∷ line_at 3 (codes "s=draft") ∷ line_at 4 (codes "t=0 0") ∷ []

plain-line : (n : ℕ) (text rest : List ℕ) → list_all is_inner text ≡ true → trim_end text ≡ text
    → rest_at n (text ++ 10 ∷ rest) ≡ line_at n text ∷ rest_at (n + 1) rest
plain-line n text rest inner trimmed = read-line n text text rest (record { inner = inner; trimmed = trimmed })

-- the lines of a draft
pub lines-draft : (videos : List DraftVideo) → All IsDrafted videos → lines (draft_text videos) ≡ session_lines ++ video_lines 5 videos
lines-draft videos are =
    let rest = flat_map video_text videos in
    plain-line 1 (codes "v=0") (codes "o=- 0 0 IN IP4 0.0.0.0\ns=draft\nt=0 0\n" ++ rest) refl refl
    ∙ ap (λ t. line_at 1 (codes "v=0") ∷ t)
    (plain-line 2 (codes "o=- 0 0 IN IP4 0.0.0.0") (codes "s=draft\nt=0 0\n" ++ rest) refl refl
    ∙ ap (λ t. line_at 2 (codes "o=- 0 0 IN IP4 0.0.0.0") ∷ t)
    (plain-line 3 (codes "s=draft") (codes "t=0 0\n" ++ rest) refl refl
    ∙ ap (λ t. line_at 3 (codes "s=draft") ∷ t)
    (plain-line 4 (codes "t=0 0") rest refl refl ∙ ap (λ t. line_at 4 (codes "t=0 0") ∷ t) (rest-videos 5 videos are))))

-- the bytes of the texts of lines
front-passes : (p : ℕ → Bool) (xs ys : List ℕ) → list_all p (xs ++ ys) ≡ true → list_all p xs ≡ true
front-passes p [] ys h = refl
front-passes p (x ∷ xs) ys h =
    let b = both_true (p x) (list_all p (xs ++ ys)) h in
    and_true (p x) (list_all p xs) b.0 (front-passes p xs ys b.1)

pub inner-parameter : (v : DraftVideo) → IsDrafted v → list_all is_inner (parameter_text v) ≡ true
inner-parameter v d =
    front-passes is_inner (parameter_text v) (32 ∷ []) (sym (ap (list_all is_inner) (piece-parameter v)) ∙ (reads-parameter v d).inner)
