-- A draft of a session description (RFC 4566) of uncompressed video (SMPTE ST 2110-20, RFC 4175), made from the streams
-- of a capture. It declares no sender type, which packets don't contain. A line `i=` (RFC 4566, section 5.4) lists
-- which values are guesses.
-- This project's profile: which streams have a video, and the values that are assumed if packets don't show them.
-- Widths are pixels, heights are lines.
use Rattle.std.specs.Prelude.{ℕ, ◌+◌, ◌*◌, ◌/◌, ◌^◌, ◌==◌, ◌&&◌, ◌||◌, nat_le, nat_lt, not, min, max, Bool, true}
use Rattle.std.specs.Prelude.{false}
use Rattle.std.specs.Prelude.{if◌then◌else◌, List, [], ◌∷◌, ◌++◌, fold, length, Option, Some, None, is_none, codes}
use Rattle.std.specs.Fmt.{decimal}
use Rattle.std.specs.List.{flat_map, list_any}
use Rattle.timing_base.specs.Addresses.{address_text}
use Rattle.timing_base.specs.Targets.{is_same_target}
use Rattle.timing_base.specs.declared.address.Address.{Address}
use Rattle.timing_base.specs.declared.target.Target.{Target}
use Rattle.capture_scan.specs.declared.stream.Lines.{Lines}
use Rattle.capture_scan.specs.declared.stream.Pace.{Pace}
use Rattle.capture_scan.specs.declared.stream.Stream.{Stream}
use Rattle.capture_scan.specs.report.Rates.{drafted_rate, is_known, ratio_of, ratio_text, slowest}
use Rattle.capture_scan.specs.declared.report.draft.DraftVideo.{DraftVideo}
use Rattle.capture_scan.specs.declared.report.draft.Guesses.{Guesses}
use Rattle.capture_scan.specs.declared.report.rate.Ratio.{Ratio}

-- no line header was seen that doesn't fit raw video
abbrev pub is_raw : Option Lines → Bool
is_raw None = true
is_raw (Some lines) = lines.fits

-- a line of a second field was seen, and all line headers fit raw video
abbrev pub has_fields : Option Lines → Bool
has_fields None = false
has_fields (Some lines) = lines.fits && lines.second_field

-- whether `n` is a height in use
abbrev pub is_in_use : ℕ → Bool
is_in_use n = (n == 2160) || ((n == 1080) || ((n == 720) || ((n == 576) || ((n == 486) || (n == 480)))))

-- `height` is `n`, or up to four more
abbrev pub is_near : (lines height : ℕ) → Bool
is_near n height = nat_le n height && nat_le height (n + 4)

-- the least height in use from `n` to four more
abbrev pub near_height : ℕ → Option ℕ
near_height n =
    if is_near n 480 then Some 480
    else (if is_near n 486 then Some 486
    else (if is_near n 576 then Some 576
    else (if is_near n 720 then Some 720
    else (if is_near n 1080 then Some 1080
    else (if is_near n 2160 then Some 2160
    else None)))))

-- the height in use, or `n` if there is none
abbrev pub near_or : ℕ → Option ℕ → ℕ
near_or n None = n
near_or n (Some height) = height

-- whether `n` lines are those of one field: a frame of twice as many has at most 2,160, and no height in use is from
-- `n` to four more
abbrev pub are_of_fields : ℕ → Bool
are_of_fields n = nat_le (2 * n) 2160 && is_none (near_height n)

-- the lines of a whole frame, as far as they were seen, if `n` is the greatest line number plus 1. Some senders number
-- the lines of each field from 0, others number those of both fields over the whole frame.
abbrev pub lines_of : Bool → ℕ → ℕ
lines_of second_field n = if second_field && are_of_fields n then 2 * n else n

-- the lines of a whole frame, as far as they were seen
abbrev pub seen_height : Lines → ℕ
seen_height lines = lines_of lines.second_field (lines.greatest + 1)

-- the height of a draft: 1080 without a captured line header
abbrev pub height_of : Option Lines → ℕ
height_of None = 1080
height_of (Some lines) = min 32767 (near_or (seen_height lines) (near_height (seen_height lines)))

-- the height is a guess if lines were seen, and the lines seen aren't a height in use
abbrev pub is_height_guessed : Option Lines → Bool
is_height_guessed None = false
is_height_guessed (Some lines) = not (is_in_use (seen_height lines))

-- the width of a draft: that of the format in use with this height, else 16 ninths of the height, rounded down, from 1
-- to 32,767
abbrev pub width_of : ℕ → ℕ
width_of height =
    if height == 2160 then 3840
    else (if height == 1080 then 1920
    else (if height == 720 then 1280
    else (if height == 576 then 720
    else (if height == 486 then 720
    else (if height == 480 then 720
    else max 1 (min 32767 (16 * height / 9)))))))

-- the frame rate of a draft: the slowest known rate if no step was seen
abbrev pub rate_of : Bool → Option Pace → Ratio
rate_of fields None = ratio_of slowest
rate_of fields (Some pace) = drafted_rate fields pace.rate

-- the rate is a guess if no known rate has a step within a hundredth of the mean
abbrev pub is_rate_guessed : Bool → Option Pace → Bool
is_rate_guessed fields None = true
is_rate_guessed fields (Some pace) = not (is_known fields pace.rate)

-- which values of a stream's video are guesses; the width always is one
abbrev pub guesses_of : Stream → Guesses
guesses_of s = record {
  height = is_height_guessed s.lines;
  rate = is_rate_guessed (has_fields s.lines) s.pace;
  lines = is_none s.lines;
}

-- the video of a stream
abbrev pub video_of : Stream → DraftVideo
video_of s = record {
  target = s.target;
  pt = s.pt;
  width = width_of (height_of s.lines);
  height = height_of s.lines;
  interlaced = has_fields s.lines;
  rate = rate_of (has_fields s.lines) s.pace;
  guesses = guesses_of s;
}

-- a stream has a video if it has three markers or more (two whole frames), a target port above 0, and no line header
-- that doesn't fit raw video
abbrev pub can_be_drafted : Stream → Bool
can_be_drafted s = nat_le 3 s.markers && (nat_lt 0 s.target.port && is_raw s.lines)

-- whether one of the videos has this target
abbrev pub has_target : Target → List DraftVideo → Bool
has_target t videos =
    list_any (λ v. is_same_target v.target t) videos

-- a stream adds its video if there are fewer than 64, and none has its target
abbrev pub is_added : List DraftVideo → Stream → Bool
is_added videos s = nat_lt (length videos) 64 && (can_be_drafted s && not (has_target s.target videos))

-- the videos after one more stream
abbrev pub with_stream : List DraftVideo → Stream → List DraftVideo
with_stream videos s = if is_added videos s then videos ++ (video_of s ∷ []) else videos

-- the videos of some streams, in their order
abbrev pub videos_of : List Stream → List DraftVideo
videos_of streams = fold with_stream [] streams

-- a multicast address (RFC 5771): its first octet is 224 to 239
abbrev pub is_multicast : Address → Bool
is_multicast address = nat_le 224 (address.bits / 2 ^ 24) && nat_lt (address.bits / 2 ^ 24) 240

-- an address, with `/32` as the TTL if it is a multicast address
abbrev pub connection_address : Address → List ℕ
connection_address address = address_text address ++ (if is_multicast address then codes "/32" else codes "")

-- the line `m=` of a video, with its newline
abbrev pub media_line : DraftVideo → List ℕ
media_line v =
    codes "m=video " ++ (decimal v.target.port ++ (codes " RTP/AVP " ++ (decimal v.pt ++ codes "\n")))

-- `what` if it is a guess, else nothing
abbrev pub guess_text : Bool → List ℕ → List ℕ
guess_text is_guess what = if is_guess then what else codes ""

-- the guesses besides the width, and the newline
abbrev pub guesses_text : Guesses → List ℕ
guesses_text g =
    guess_text g.height (codes ", height") ++ (guess_text g.rate (codes ", rate")
    ++ (guess_text g.lines (codes ", lines not captured") ++ codes "\n"))

-- the line `i=`, the list of guesses; the width always is one, since no packet contains it
abbrev pub guess_line : DraftVideo → List ℕ
guess_line v = codes "i=guessed: width" ++ guesses_text v.guesses

-- the line `c=` of a video
abbrev pub connection_line : DraftVideo → List ℕ
connection_line v = codes "c=IN IP4 " ++ (connection_address v.target.address ++ codes "\n")

-- the line `a=rtpmap` of a video
abbrev pub map_line : DraftVideo → List ℕ
map_line v = codes "a=rtpmap:" ++ (decimal v.pt ++ codes " raw/90000\n")

-- the parameter `interlace`, if frames have two fields
abbrev pub interlace_text : Bool → List ℕ
interlace_text interlaced = if interlaced then codes "interlace; " else codes ""

-- the line `a=fmtp` of a video
abbrev pub parameter_line : DraftVideo → List ℕ
parameter_line v =
    codes "a=fmtp:" ++ (decimal v.pt ++ (codes " width=" ++ (decimal v.width ++ (codes "; height="
    ++ (decimal v.height ++ (codes "; exactframerate=" ++ (ratio_text v.rate ++ (codes "; "
    ++ (interlace_text v.interlaced ++ codes "\n")))))))))

-- the lines of a video
abbrev pub video_text : DraftVideo → List ℕ
video_text v = media_line v ++ (guess_line v ++ (connection_line v ++ (map_line v ++ parameter_line v)))

-- the lines of the session
abbrev pub session_text : List ℕ
session_text = codes "v=0\no=- 0 0 IN IP4 0.0.0.0\ns=draft\nt=0 0\n"

-- the text of a draft
abbrev pub draft_text : List DraftVideo → List ℕ
draft_text videos = session_text ++ flat_map video_text videos
