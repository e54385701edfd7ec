-- The output of `help`: of all commands the arguments, the exit statuses and where to read on; of one command more.
-- The options and flags are those of the grammar.
-- This project's profile: the whole text.
use Rattle.std.specs.Prelude.{Bool, true, false, ◌&&◌, ◌||◌, if◌then◌else◌, ◌++◌, List, [], ◌∷◌, codes}
use Rattle.std.specs.Prelude.{Option, Some, None}
use Rattle.std.specs.List.{flat_map}
use Rattle.std.specs.Str.{bytes_eq}
use Rattle.timing_words.specs.Line.{Sort, Text}
use Rattle.timing_words.specs.Request.{sorts}
use Rattle.timing_words.specs.declared.command.Command.{Command}
use Rattle.timing_words.specs.declared.command.Command.TheVariants as command

-- ---- options and flags

-- the placeholder for the value of an option
abbrev pub value_shape : Text → Text
value_shape n =
    if bytes_eq n (codes "sdp") then codes "FILE"
    else if bytes_eq n (codes "report") then codes "FILE"
    else if bytes_eq n (codes "tai") then codes "SECONDS"
    else if bytes_eq n (codes "delay") then codes "NANOSECONDS"
    else if bytes_eq n (codes "type") then codes "TYPE"
    else if bytes_eq n (codes "model") then codes "MODEL"
    else codes "N"

-- the meaning of an option or flag, in words
abbrev pub meaning : Text → Text
meaning n =
    if bytes_eq n (codes "sdp") then codes "the session description"
    else if bytes_eq n (codes "report") then codes "a report of check --json"
    else if bytes_eq n (codes "workers") then codes "so many threads judge, 1 to 16"
    else if bytes_eq n (codes "tai") then codes "are added to the capture timestamps, 0 to 1000"
    else if bytes_eq n (codes "delay") then codes "are then subtracted from them, 0 to 999999999"
    else if bytes_eq n (codes "media") then codes "a video of the description, 1 to 64"
    else if bytes_eq n (codes "pair") then codes "the video of the other flow, 1 to 64"
    else if bytes_eq n (codes "type") then codes "of the sender: N, NL or W"
    else if bytes_eq n (codes "model") then codes "that is violated: Bucket, Over or Empty"
    else if bytes_eq n (codes "from") then codes "the first packet of the interval; judged packets count from 0"
    else if bytes_eq n (codes "to") then codes "the last packet of the interval"
    else if bytes_eq n (codes "count") then codes "the packets that are counted"
    else if bytes_eq n (codes "limit") then codes "the packets that are allowed"
    else if bytes_eq n (codes "serial") then codes "one thread does all"
    else if bytes_eq n (codes "json") then codes "JSON is printed"
    else if bytes_eq n (codes "draft") then codes "a session description to begin with is printed"
    else if bytes_eq n (codes "joined") then codes "the captures are one, in order"
    else if bytes_eq n (codes "list") then codes "the delays are printed, and no capture"
    else if bytes_eq n (codes "frames") then codes "a row stands for a frame, and not for a packet"
    else if bytes_eq n (codes "seq16") then codes "the extended RTP sequence number is ignored"
    else if bytes_eq n (codes "every") then codes "a line for every N frames, 1 to 1000000"
    else codes "docs/FORMATS.md says what"

-- the option or flag of this name is optional in every command that takes it
abbrev pub is_optional : Text → Bool
is_optional n =
    bytes_eq n (codes "workers") || bytes_eq n (codes "tai") || bytes_eq n (codes "delay")
    || bytes_eq n (codes "serial") || bytes_eq n (codes "json") || bytes_eq n (codes "joined")
    || bytes_eq n (codes "list") || bytes_eq n (codes "draft") || bytes_eq n (codes "frames")
    || bytes_eq n (codes "seq16") || bytes_eq n (codes "every")

-- the command judges every video of the description, or one that is chosen
abbrev pub judges_all : Command → Bool
judges_all command.Check = true
judges_all command.Verify = false
judges_all command.VerifyReport = true
judges_all command.SelfTest = false
judges_all command.Window = false
judges_all command.Shape = false
judges_all command.Skew = false
judges_all command.Scan = false
judges_all command.Measure = true
judges_all command.Series = false
judges_all command.Sdp = false
judges_all command.Page = true
judges_all command.Explain = true
judges_all command.Watch = true

-- the command's option or flag of this name is optional
abbrev pub may_be_missing : Command → Text → Bool
may_be_missing c n = is_optional n || (judges_all c && bytes_eq n (codes "media"))

-- `--name VALUE`, or `--name`
abbrev pub shown : Sort → Text
shown s = if s.valued then codes "--" ++ (s.name ++ (codes " " ++ value_shape s.name)) else codes "--" ++ s.name

-- an option or flag as in the arguments of a command, in brackets if it is optional
abbrev pub word : Command → Sort → Text
word c s = if may_be_missing c s.name then codes " [" ++ (shown s ++ codes "]") else codes " " ++ shown s

-- an option or flag with its meaning, on a line of its own
abbrev pub told : Sort → Text
told s = codes "  " ++ (shown s ++ (codes ": " ++ (meaning s.name ++ codes "\n")))

-- ---- commands

-- the name of a command
abbrev pub name_of : Command → Text
name_of command.Check = codes "check"
name_of command.Verify = codes "verify"
name_of command.VerifyReport = codes "verify-report"
name_of command.SelfTest = codes "selftest"
name_of command.Window = codes "window"
name_of command.Shape = codes "shape"
name_of command.Skew = codes "skew"
name_of command.Scan = codes "scan"
name_of command.Measure = codes "measure"
name_of command.Series = codes "series"
name_of command.Sdp = codes "sdp"
name_of command.Page = codes "page"
name_of command.Explain = codes "explain"
name_of command.Watch = codes "watch"

-- the placeholder for the positional arguments of a command
abbrev pub names_shape : Command → Text
names_shape command.Check = codes "CAPTURE.."
names_shape command.Verify = codes "CAPTURE.."
names_shape command.VerifyReport = codes "CAPTURE.."
names_shape command.SelfTest = codes "FRAMES"
names_shape command.Window = codes "CAPTURE.."
names_shape command.Shape = codes "CAPTURE.."
names_shape command.Skew = codes "CAPTURE [CAPTURE]"
names_shape command.Scan = codes "CAPTURE"
names_shape command.Measure = codes "CAPTURE.."
names_shape command.Series = codes "CAPTURE.."
names_shape command.Sdp = codes "FILE"
names_shape command.Page = codes "CAPTURE.."
names_shape command.Explain = codes "CAPTURE.."
names_shape command.Watch = codes "CAPTURE.."

-- what a command does, in words
abbrev pub about : Command → Text
about command.Check = codes "judges each video of the description in each capture"
about command.Verify = codes "checks one violation that is claimed of a sender, from the capture alone"
about command.VerifyReport = codes "checks in that way each violation of a JSON report"
about command.SelfTest = codes "makes five captures of so many frames, four of them with a flaw, and judges each"
about command.Window = codes "says with which offsets a flow would keep its receiver buffer, for each type"
about command.Shape = codes "delays a flow as little as the limits allow, and writes it as a capture"
about command.Skew = codes "says how far two flows that carry the same packets are apart, packet by packet"
about command.Scan = codes "says what a capture holds, without a description"
about command.Measure = codes "says how near each video comes to its limits, when, and where in the frame"
about command.Series = codes "lists the numbers of a flow as CSV, packet by packet or frame by frame"
about command.Sdp = codes "prints how a description is read, and what of it is passed over"
about command.Page = codes "writes the report of a capture as one page with pictures"
about command.Explain = codes "says what is wrong with each video and what to do, the likeliest cause first"
about command.Watch = codes "prints a line for every second of each video while the capture is read, then its report"

-- what a command prints, in words
abbrev pub printed : Command → Text
printed command.Check =
    codes "Prints how each capture ends, then for each video whether its packets keep the limits of a narrow,\n"
    ++ codes "narrow linear or wide sender, and the interval of packets that breaks them first; then the status.\n"
printed command.Verify = codes "Prints `confirmed`, `not confirmed`, or `not judged` and why.\n"
printed command.VerifyReport =
    codes "Prints for each violation `confirmed`, `not confirmed` or `not judged`; then the status.\n"
printed command.SelfTest = codes "Prints for each capture what is found in it, and the status of its report.\n"
printed command.Window =
    codes "Prints for each type the least and the greatest offset in microseconds, and the packets that bind.\n"
printed command.Shape = codes "Prints a capture in pcap, or with --list each delay in nanoseconds and what causes it.\n"
printed command.Skew =
    codes "Prints how each capture ends, how many packets match, and the least and the greatest distance.\n"
printed command.Scan =
    codes "Prints how the capture ends, what is ignored, and of each stream who sends to whom, its packets, rate\n"
    ++ codes "and loss; with --json the same as JSON, with --draft a session description. The two exclude each other.\n"
printed command.Measure =
    codes "Prints as JSON how the capture ends, and of each judged run what bucket and buffers hold, how near that is\n"
    ++ codes "to each type's limits, when frames begin and end, their RTP timestamps, and the times between packets.\n"
printed command.Series =
    codes "Prints a header and for each judged packet when it comes, its place in the frame, and what bucket and\n"
    ++ codes "buffers hold; with --frames for each frame when it begins and ends, its RTP timestamp and its extremes.\n"
printed command.Sdp =
    codes "Prints of each video what is read and which times follow from it, then what is passed over, and likely"
    ++ (codes " mistakes:\nan unknown name that is nearly a known one, a comma in place of a semicolon; with --json the"
    ++ codes " same as JSON.\n")
printed command.Page =
    codes "Prints one HTML page that needs nothing else: of each video what is judged and measured, in words, pictures and\n"
    ++ codes "tables, and what the capture holds.\n"
printed command.Explain =
    codes "Prints for each video a line with its headline, and for each finding a sentence with its numbers and what to do:\n"
    ++ codes "loss, another frame rate, bursts, packets that come early or late, a drift, clocks; with --json the same as JSON.\n"
printed command.Watch =
    codes "Prints for every second, or for every N frames, the peaks of bucket and buffers, and how many frames of the run\n"
    ++ codes "so far break each type; gaps and refused flows as they come; and at the end the report of check --serial.\n"

-- an example of a command, with files of the repository
abbrev pub example : Command → Text
example command.Check = codes "./run check --sdp examples/plain.sdp examples/burst.pcap"
example command.Verify =
    codes "./run verify --sdp examples/plain.sdp --media 1 --type N --model Bucket"
    ++ codes " --from 20 --to 24 --count 5 --limit 4 examples/burst.pcap"
example command.VerifyReport =
    codes "./run verify-report --sdp examples/plain.sdp --report report.json examples/burst.pcap"
example command.SelfTest = codes "./run selftest 2"
example command.Window = codes "./run window --sdp examples/plain.sdp --media 1 examples/plain.pcap"
example command.Shape = codes "./run shape --sdp examples/plain.sdp --media 1 --type N --list examples/burst.pcap"
example command.Skew =
    codes "./run skew --sdp examples/plain.sdp --media 1 --pair 1 examples/plain.pcap examples/burst.pcap"
example command.Scan = codes "./run scan examples/plain.pcap"
example command.Measure = codes "./run measure --sdp examples/plain.sdp examples/burst.pcap"
example command.Series = codes "./run series --sdp examples/plain.sdp --media 1 --frames examples/burst.pcap"
example command.Sdp = codes "./run sdp examples/plain.sdp"
example command.Page = codes "./run page --sdp examples/plain.sdp examples/burst.pcap > burst.html"
example command.Explain = codes "./run explain --sdp examples/plain.sdp examples/burst.pcap"
example command.Watch = codes "./run watch --sdp examples/plain.sdp --every 1 examples/burst.pcap"

-- ---- texts

-- the arguments of a command
abbrev pub usage : Command → Text
usage c = name_of c ++ (flat_map (word c) (sorts c) ++ (codes " " ++ names_shape c))

-- the arguments of a command and what it does, in two lines
abbrev pub summary : Command → Text
summary c = codes "  " ++ (usage c ++ (codes "\n      " ++ (about c ++ codes "\n")))

-- the commands, in the order of the output
abbrev pub commands : List Command
commands =
    command.Check ∷ command.Verify ∷ command.VerifyReport ∷ command.SelfTest ∷ command.Window ∷ command.Shape
    ∷ command.Skew ∷ command.Scan ∷ command.Measure ∷ command.Series ∷ command.Sdp ∷ command.Page
    ∷ command.Explain ∷ command.Watch ∷ []

-- the two lines of each command
abbrev pub summaries : Text
summaries = flat_map summary commands

-- the lines before the commands: name and version of the program, and what it does
abbrev pub front_text : Text
front_text =
    codes "st2110_timing 1.0.0: judges the timing of video senders from packet captures, after SMPTE ST 2110-21:2017.\n"
    ++ codes "\nCommands:\n"

-- the lines after the commands
abbrev pub back_text : Text
back_text =
    codes "  help [COMMAND]\n      prints this text, or more of one command\n\nExit statuses:\n"
    ++ (codes "  0 every declared type passes, or the output was printed\n"
    ++ (codes "  1 a declared type fails, or a violation isn't confirmed\n"
    ++ (codes "  2 the command line is invalid\n"
    ++ (codes "  3 the session description is invalid\n"
    ++ (codes "  4 a flow isn't judged as one run, or a capture is malformed\n"
    ++ (codes "  5 an input couldn't be read\n"
    ++ (codes "  6 a write on standard output failed\n"
    ++ (codes "  7 memory ran out\n"
    ++ (codes "  9 the report is invalid\n\n"
    ++ codes "Read on in docs/GUIDE.md, docs/FORMATS.md and docs/st2110_timing.1.\n")))))))))

-- the output of `help` with a command
abbrev pub command_text : Command → Text
command_text c =
    usage c ++ (codes "\n" ++ (about c ++ (codes "\n\n" ++ (flat_map told (sorts c) ++ (codes "\n" ++ (printed c
    ++ (codes "Example: " ++ (example c ++ codes "\n"))))))))

-- the output of `help`, without or with a command
abbrev pub help_text : Option Command → Text
help_text None = front_text ++ (summaries ++ back_text)
help_text (Some c) = command_text c
