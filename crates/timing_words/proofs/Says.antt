-- What the matches of a line ask for, command by command.
use Rattle.std.proofs.Common.{◌≡◌, ◌∙◌, refl, sym, ap, codes, List}
use Rattle.clap.specs.declared.parser.matches.Found.{Found}
use Rattle.timing_words.specs.declared.command.Command.{Command}
use Rattle.timing_words.specs.declared.command.Command.TheVariants as command
use Rattle.timing_words.specs.Clap.{IsLine, IsTold, Says, found_stands}
use Rattle.timing_words.specs.Line.{Part, Text, stands}
use Rattle.timing_words.specs.Request.{asked, asked_by, need, sorts}

-- `clap` says exactly what it makes of the words of each command
pub is_told : (c : Command) → IsTold (sorts c)
is_told command.Check = (refl, refl)
is_told command.Verify = (refl, refl)
is_told command.VerifyReport = (refl, refl)
is_told command.SelfTest = (refl, refl)
is_told command.Window = (refl, refl)
is_told command.Shape = (refl, refl)
is_told command.Skew = (refl, refl)
is_told command.Scan = (refl, refl)
is_told command.Measure = (refl, refl)
is_told command.Series = (refl, refl)
is_told command.Sdp = (refl, refl)
is_told command.Page = (refl, refl)
is_told command.Explain = (refl, refl)
is_told command.Watch = (refl, refl)

same_asked : (c : Command) (found : Found) (ps : List Part) → Says (sorts c) found ps → asked c (found_stands found) ≡ asked c (stands ps)
same_asked command.Check found ps s =
    rw (
      s.value (codes "sdp") refl,
      s.value (codes "workers") refl,
      s.value (codes "tai") refl,
      s.value (codes "delay") refl,
      s.value (codes "media") refl,
      s.flag (codes "serial") refl,
      s.flag (codes "seq16") refl,
      s.flag (codes "json") refl,
      s.flag (codes "joined") refl,
      s.names,
    ) refl
same_asked command.Verify found ps s =
    rw (
      s.value (codes "sdp") refl,
      s.value (codes "media") refl,
      s.value (codes "type") refl,
      s.value (codes "model") refl,
      s.value (codes "from") refl,
      s.value (codes "to") refl,
      s.value (codes "count") refl,
      s.value (codes "limit") refl,
      s.value (codes "tai") refl,
      s.value (codes "delay") refl,
      s.flag (codes "seq16") refl,
      s.flag (codes "joined") refl,
      s.names,
    ) refl
same_asked command.VerifyReport found ps s =
    rw (
      s.value (codes "sdp") refl,
      s.value (codes "report") refl,
      s.value (codes "tai") refl,
      s.value (codes "delay") refl,
      s.value (codes "media") refl,
      s.flag (codes "seq16") refl,
      s.flag (codes "joined") refl,
      s.names,
    ) refl
same_asked command.SelfTest found ps s = rw (s.value (codes "workers") refl, s.names) refl
same_asked command.Window found ps s =
    rw (
      s.value (codes "sdp") refl,
      s.value (codes "media") refl,
      s.value (codes "tai") refl,
      s.value (codes "delay") refl,
      s.flag (codes "seq16") refl,
      s.flag (codes "joined") refl,
      s.names,
    ) refl
same_asked command.Shape found ps s =
    rw (
      s.value (codes "sdp") refl,
      s.value (codes "media") refl,
      s.value (codes "type") refl,
      s.value (codes "tai") refl,
      s.value (codes "delay") refl,
      s.flag (codes "seq16") refl,
      s.flag (codes "list") refl,
      s.flag (codes "joined") refl,
      s.names,
    ) refl
same_asked command.Skew found ps s = rw (s.value (codes "sdp") refl, s.value (codes "media") refl, s.value (codes "pair") refl, s.names) refl
same_asked command.Scan found ps s = rw (s.flag (codes "json") refl, s.flag (codes "draft") refl, s.names) refl
same_asked command.Measure found ps s =
    rw (
      s.value (codes "sdp") refl,
      s.value (codes "tai") refl,
      s.value (codes "delay") refl,
      s.value (codes "media") refl,
      s.flag (codes "seq16") refl,
      s.flag (codes "joined") refl,
      s.names,
    ) refl
same_asked command.Series found ps s =
    rw (
      s.value (codes "sdp") refl,
      s.value (codes "media") refl,
      s.value (codes "tai") refl,
      s.value (codes "delay") refl,
      s.flag (codes "seq16") refl,
      s.flag (codes "frames") refl,
      s.flag (codes "joined") refl,
      s.names,
    ) refl
same_asked command.Sdp found ps s = rw (s.flag (codes "json") refl, s.names) refl
same_asked command.Page found ps s =
    rw (
      s.value (codes "sdp") refl,
      s.value (codes "tai") refl,
      s.value (codes "delay") refl,
      s.value (codes "media") refl,
      s.flag (codes "seq16") refl,
      s.flag (codes "joined") refl,
      s.names,
    ) refl
same_asked command.Explain found ps s =
    rw (
      s.value (codes "sdp") refl,
      s.value (codes "tai") refl,
      s.value (codes "delay") refl,
      s.value (codes "media") refl,
      s.flag (codes "seq16") refl,
      s.flag (codes "json") refl,
      s.flag (codes "joined") refl,
      s.names,
    ) refl
same_asked command.Watch found ps s =
    rw (
      s.value (codes "sdp") refl,
      s.value (codes "tai") refl,
      s.value (codes "delay") refl,
      s.value (codes "media") refl,
      s.value (codes "every") refl,
      s.flag (codes "seq16") refl,
      s.flag (codes "json") refl,
      s.flag (codes "joined") refl,
      s.names,
    ) refl

-- the matches of a line ask for what its words do
pub asked_line : (c : Command) (words : List Text) (found : Found) → IsLine (sorts c) words found → asked_by c words ≡ asked c (found_stands found)
asked_line c words found l = ap (λ o. need o (λ ps. asked c (stands ps))) l.are ∙ sym (same_asked c found l.parts l.says)
