-- The texts of a report are UTF-8 where the names of the captures are.
use Rattle.std.proofs.Common.{◌≡◌, ◌<◌, ◌+◌, ◌/◌, ◌%◌, ◌^◌, ◌==◌, ℕ, zero, suc, List, [], ◌∷◌, ◌++◌, Bool, true, false, cond, ◌&&◌, Option, Some, None}
use Rattle.std.proofs.Common.{Ordering, Less, Equal, Greater, nat_cmp, refl, sym, ap, subst, arith, lt-ltb}
use Rattle.std.specs.Prelude.{IsUtf8, codes, if◌then◌else◌, ⊤}
use Rattle.std.specs.Cmp.Lexicographic.{slice_cmp}
use Rattle.std.specs.Ordering.{match_ordering}
use Rattle.std.specs.Fmt.{decimal, digits, digits_onto, digit_glyph}
use Rattle.std.proofs.lemmas.Str.{IsUtf8-append, IsUtf8-nil}
use Rattle.json.proofs.Printed.Utf8.{are_ascii, IsUtf8-are_ascii, IsUtf8-quoted}
use Rattle.json.specs.Print.{quoted}
use Rattle.serde_json.specs.Data.{Num, unsigned, negative, float, Data, null, boolean, number, string, array, object, Items, no_items, item, Members}
use Rattle.serde_json.specs.Data.{no_members, member, put}
use Rattle.serde_json.specs.Written.{number_text, comma_if, compact_text, items_text, members_text}
use Rattle.timing_base.specs.Addresses.{address_text}
use Rattle.timing_base.specs.Targets.{target_text}
use Rattle.timing_base.specs.declared.address.Address.{Address}
use Rattle.timing_base.specs.declared.capture.FileNote.{FileNote}
use Rattle.timing_base.specs.declared.capture.FileNote.TheVariants as note
use Rattle.timing_base.specs.declared.capture.PcapFault.{PcapFault}
use Rattle.timing_base.specs.declared.capture.PcapFault.TheVariants as pcap
use Rattle.timing_base.specs.declared.fail.Broken.{Broken}
use Rattle.timing_base.specs.declared.fail.Broken.TheVariants.{Bucket, Over, Empty}
use Rattle.timing_base.specs.declared.media.Kind.{Kind}
use Rattle.timing_base.specs.declared.media.Kind.TheVariants.{N, NL, W}
use Rattle.timing_base.specs.declared.packet.PacketFault.{PacketFault}
use Rattle.timing_base.specs.declared.packet.PacketFault.TheVariants as packet
use Rattle.timing_base.specs.declared.target.Target.{Target}
use Rattle.timing_report.proofs.lemmas.json_report.Kept.{Kept, ItemsKept, MembersKept, IsWhole}
use Rattle.timing_report.specs.Words.{kind_name, declared_name, class_name, model_name, packet_fault_text, pcap_fault_text, note_text}

-- a text of ASCII, as every literal is
pub ascii : (s : List ℕ) → are_ascii s ≡ true → IsUtf8 s
ascii s e = IsUtf8-are_ascii s e

one_ascii : (x : ℕ) → x < 128 → IsUtf8 (x ∷ [])
one_ascii x h = IsUtf8-are_ascii (x ∷ []) (ap (λ b. b && true) (lt-ltb x 128 h))

digit_small : (n : ℕ) → digit_glyph false (n % 10) < 128
digit_small n =
    let digit : n % 10 < 10 = omega arith in
    let P : ℕ → Type 0 = λ d. d < 128 in
    subst P (sym (ap (λ b. if b then 48 + n % 10 else (if false then 55 + n % 10 else 87 + n % 10)) (lt-ltb (n % 10) 10 digit))) (omega (arith, digit))

either_utf8 : (b : Bool) (xs ys : List ℕ) → IsUtf8 xs → IsUtf8 ys → IsUtf8 (cond b xs ys)
either_utf8 true xs ys h k = h
either_utf8 false xs ys h k = k

digits_utf8 : (k n : ℕ) (acc : List ℕ) → IsUtf8 acc → IsUtf8 (digits_onto k 10 false n acc)
digits_utf8 zero n acc h = h
digits_utf8 (suc k) n acc h =
    let here : IsUtf8 (digit_glyph false (n % 10) ∷ acc) =
    IsUtf8-append (digit_glyph false (n % 10) ∷ []) acc (one_ascii (digit_glyph false (n % 10)) (digit_small n)) h in
    either_utf8 (n / 10 == 0) (digit_glyph false (n % 10) ∷ acc) (digits_onto k 10 false (n / 10) (digit_glyph false (n % 10) ∷ acc)) here
    (digits_utf8 k (n / 10) (digit_glyph false (n % 10) ∷ acc) here)

-- a numeral
pub decimal_utf8 : (n : ℕ) → IsUtf8 (decimal n)
unfolding digits
decimal_utf8 n = digits_utf8 64 n [] IsUtf8-nil

-- a literal, and then a text
lead : (s rest : List ℕ) → are_ascii s ≡ true → IsUtf8 rest → IsUtf8 (s ++ rest)
lead s rest e h = IsUtf8-append s rest (ascii s e) h

-- a numeral, and then a text
counted : (n : ℕ) (rest : List ℕ) → IsUtf8 rest → IsUtf8 (decimal n ++ rest)
counted n rest h = IsUtf8-append (decimal n) rest (decimal_utf8 n) h

pub kind_utf8 : (kind : Kind) → IsUtf8 (kind_name kind)
kind_utf8 N = ascii (codes "N") refl
kind_utf8 NL = ascii (codes "NL") refl
kind_utf8 W = ascii (codes "W") refl

pub declared_utf8 : (declared : Option Kind) → IsUtf8 (declared_name declared)
declared_utf8 (Some kind) = kind_utf8 kind
declared_utf8 None = ascii (codes "none") refl

pub class_utf8 : (passing : Option Kind) → IsUtf8 (class_name passing)
class_utf8 (Some N) = ascii (codes "narrow") refl
class_utf8 (Some NL) = ascii (codes "narrow linear") refl
class_utf8 (Some W) = ascii (codes "wide") refl
class_utf8 None = ascii (codes "none") refl

pub model_utf8 : (model : Broken) → IsUtf8 (model_name model)
model_utf8 Bucket = ascii (codes "Bucket") refl
model_utf8 Over = ascii (codes "Over") refl
model_utf8 Empty = ascii (codes "Empty") refl

pub packet_fault_utf8 : (fault : PacketFault) → IsUtf8 (packet_fault_text fault)
packet_fault_utf8 packet.Short = ascii (codes "Short") refl
packet_fault_utf8 packet.Version = ascii (codes "Version") refl
packet_fault_utf8 packet.PayloadType = ascii (codes "PayloadType") refl
packet_fault_utf8 packet.SecondSource = ascii (codes "SecondSource") refl
packet_fault_utf8 (packet.Number expected got) = ascii (codes "Number") refl
packet_fault_utf8 (packet.StampBack before got) = lead (codes "StampBack before ") _ refl (counted before _ (lead (codes " got ") _ refl (decimal_utf8 got)))
packet_fault_utf8 packet.NoMarker = ascii (codes "NoMarker") refl
packet_fault_utf8 packet.SameStamp = ascii (codes "SameStamp") refl
packet_fault_utf8 (packet.FrameSize want got) = lead (codes "FrameSize want ") _ refl (counted want _ (lead (codes " got ") _ refl (decimal_utf8 got)))
packet_fault_utf8 packet.FrameTooLarge = ascii (codes "FrameTooLarge") refl

pcap_fault_utf8 : (fault : PcapFault) → IsUtf8 (pcap_fault_text fault)
pcap_fault_utf8 pcap.ReadFault = ascii (codes "ReadFault") refl
pcap_fault_utf8 pcap.BadMagic = ascii (codes "BadMagic") refl
pcap_fault_utf8 pcap.BadVersion = ascii (codes "BadVersion") refl
pcap_fault_utf8 pcap.BadLink = ascii (codes "BadLink") refl
pcap_fault_utf8 (pcap.BadStamp rec) = lead (codes "BadStamp at record ") _ refl (decimal_utf8 rec)
pcap_fault_utf8 (pcap.BadLength rec) = lead (codes "BadLength at record ") _ refl (decimal_utf8 rec)
pcap_fault_utf8 pcap.TooLong = ascii (codes "TooLong") refl

pub note_utf8 : (n : FileNote) → IsUtf8 (note_text n)
note_utf8 note.End = ascii (codes "end") refl
note_utf8 (note.Cut at) = lead (codes "cut at ") _ refl (decimal_utf8 at)
note_utf8 (note.Refused fault) = lead (codes "refused ") _ refl (pcap_fault_utf8 fault)

address_utf8 : (address : Address) → IsUtf8 (address_text address)
address_utf8 address =
    counted _ _ (lead (codes ".") _ refl (counted _ _ (lead (codes ".") _ refl (counted _ _ (lead (codes ".") _ refl (decimal_utf8 (address.bits % 2 ^ 8)))))))

pub target_utf8 : (target : Target) → IsUtf8 (target_text target)
target_utf8 target =
    IsUtf8-append (address_text target.address) (codes ":" ++ decimal target.port) (address_utf8 target.address)
    (lead (codes ":") _ refl (decimal_utf8 target.port))

-- ---- values whose texts and keys are UTF-8

abbrev mutual
  pub HasTexts : Data → Type 0
  HasTexts null = ⊤
  HasTexts (boolean b) = ⊤
  HasTexts (number n) = ⊤
  HasTexts (string s) = IsUtf8 s
  HasTexts (array ds) = ItemsHaveTexts ds
  HasTexts (object ms) = MembersHaveTexts ms

  pub ItemsHaveTexts : Items → Type 0
  ItemsHaveTexts no_items = ⊤
  ItemsHaveTexts (item d ds) = HasTexts d × ItemsHaveTexts ds

  pub MembersHaveTexts : Members → Type 0
  MembersHaveTexts no_members = ⊤
  MembersHaveTexts (member k d ms) = IsUtf8 k × HasTexts d × MembersHaveTexts ms

put_at : (o : Ordering) (a b c : Members) → MembersHaveTexts a → MembersHaveTexts b → MembersHaveTexts c → MembersHaveTexts (match_ordering o a b c)
put_at Less a b c h k l = h
put_at Equal a b c h k l = k
put_at Greater a b c h k l = l

pub put_texts : (k : List ℕ) (d : Data) (ms : Members) → IsUtf8 k → HasTexts d → MembersHaveTexts ms → MembersHaveTexts (put k d ms)
put_texts k d no_members u h m = (u, h, tt)
put_texts k d (member l e ms) u h m =
    put_at (slice_cmp nat_cmp k l) _ _ _ (u, h, m) (m.0, h, m.2) (m.0, m.1, put_texts k d ms u h m.2)

comma_utf8 : (b : Bool) → IsUtf8 (comma_if b)
comma_utf8 true = ascii (44 ∷ []) refl
comma_utf8 false = IsUtf8-nil

number_utf8 : (n : Num) → IsWhole n → IsUtf8 (number_text n)
number_utf8 (unsigned n) h = decimal_utf8 n
number_utf8 (negative z) h = absurd h
number_utf8 (float x) h = absurd h

joined : (a b c : List ℕ) → IsUtf8 a → IsUtf8 b → IsUtf8 c → IsUtf8 (a ++ (b ++ c))
joined a b c h k l = IsUtf8-append a (b ++ c) h (IsUtf8-append b c k l)

mutual
  pub text_utf8 : (d : Data) → Kept d → HasTexts d → IsUtf8 (compact_text d)
  text_utf8 null h t = ascii (codes "null") refl
  text_utf8 (boolean true) h t = ascii (codes "true") refl
  text_utf8 (boolean false) h t = ascii (codes "false") refl
  text_utf8 (number n) h t = number_utf8 n h
  text_utf8 (string s) h t = IsUtf8-quoted s t
  text_utf8 (array ds) h t = lead (codes "[") _ refl (items_utf8 false ds h t)
  text_utf8 (object ms) h t = lead (codes "{") _ refl (members_utf8 false ms h.1 t)

  items_utf8 : (later : Bool) (ds : Items) → ItemsKept ds → ItemsHaveTexts ds → IsUtf8 (items_text later ds)
  items_utf8 later no_items h t = ascii (codes "]") refl
  items_utf8 later (item d ds) h t =
      joined (comma_if later) (compact_text d) (items_text true ds) (comma_utf8 later) (text_utf8 d h.0 t.0) (items_utf8 true ds h.1 t.1)

  members_utf8 : (later : Bool) (ms : Members) → MembersKept ms → MembersHaveTexts ms → IsUtf8 (members_text later ms)
  members_utf8 later no_members h t = ascii (codes "}") refl
  members_utf8 later (member k d ms) h t =
      joined (comma_if later) (quoted k) (58 ∷ (compact_text d ++ members_text true ms)) (comma_utf8 later) (IsUtf8-quoted k t.0)
      (lead (codes ":") _ refl (IsUtf8-append (compact_text d) (members_text true ms) (text_utf8 d h.0 t.1) (members_utf8 true ms h.1 t.2)))
