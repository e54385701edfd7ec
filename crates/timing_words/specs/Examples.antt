-- Command lines for examples worked by hand.
use Rattle.std.specs.Prelude.{ℕ, ◌≡◌, ◌==◌, if◌then◌else◌, List, [], ◌∷◌, Some, None, codes, false}
use Rattle.timing_base.specs.Examples.{seconds_added}
use Rattle.timing_base.specs.Jobs.{CaptureJob, CheckJob, FlowJob}
use Rattle.timing_base.specs.Shifts.{no_options}
use Rattle.timing_words.specs.declared.request.Request.{Request}
use Rattle.timing_words.specs.Line.{Part, Text, cut}
use Rattle.timing_words.specs.Request.{check_sorts, request}

-- one more byte at the start of the first word
abbrev pub longer : ℕ → List Text → List Text
longer b [] = (b ∷ []) ∷ []
longer b (w ∷ ws) = (b ∷ w) ∷ ws

-- the words of a text, which single spaces (32) separate
abbrev pub words : Text → List Text
words [] = [] ∷ []
words (b ∷ bs) = if b == 32 then [] ∷ words bs else longer b (words bs)

-- a text of sixteen words
abbrev pub sixteen_names : Text
sixteen_names = codes "a b c d e f g h i j k l m n o p"

-- those sixteen words
abbrev pub sixteen : List Text
sixteen = words sixteen_names

-- the arguments after `check` are separated into these parts
abbrev pub IsCut : Text → List Part → Type 0
IsCut text parts = cut check_sorts (words text) None ≡ Some parts

-- the arguments after `check` can't be separated
abbrev pub IsUncut : Text → Type 0
IsUncut text = cut check_sorts (words text) None ≡ None

-- the command line gives this request
abbrev pub Asks : Text → Request → Type 0
Asks text asked = request (words text) ≡ Some asked

-- the command line is invalid
abbrev pub IsRefused : Text → Type 0
IsRefused text = request (words text) ≡ None

-- the job of `check --sdp p c`
abbrev pub plain_check : CheckJob
plain_check = record {
  sdp = codes "p";
  captures = codes "c" ∷ [];
  workers = 4;
  options = no_options;
  json = false;
  joined = false;
  media = None;
}

-- the flow of media 2 in the capture c, which p describes, with these seconds added
abbrev pub second_flow : ℕ → FlowJob
second_flow seconds = record {
  sdp = codes "p";
  media = 1;
  options = seconds_added seconds;
  captures = codes "c" ∷ [];
  joined = false;
}

-- the job of `measure --sdp p c` and of `page`, and the flows of `explain`
abbrev pub plain_capture : CaptureJob
plain_capture = record {
  sdp = codes "p";
  options = no_options;
  captures = codes "c" ∷ [];
  joined = false;
  media = None;
}

-- two captures
abbrev pub halves : List Text
halves = codes "c" ∷ codes "d" ∷ []
