-- The exit statuses of the program, and for each of them the first line on standard error.
use Rattle.std.specs.Prelude.{ℕ, ◌+◌, List, [], ◌++◌, codes}
use Rattle.std.specs.Fmt.{decimal}
use Rattle.sdp_reader.specs.Fault.{fault_text}
use Rattle.timing_report.specs.declared.status.Input.{Input}
use Rattle.timing_report.specs.declared.status.Input.TheVariants.{Sdp, Report, Capture}
use Rattle.timing_report.specs.declared.status.Status.{Status}
use Rattle.timing_report.specs.declared.status.Status.TheVariants.{Pass, Fail, Usage, SdpRefused, NotAllJudged}
use Rattle.timing_report.specs.declared.status.Status.TheVariants.{ReadFault, WriteFault, OutOfMemory, ReportRefused}

-- the exit status of the process
abbrev pub code_of : Status → ℕ
code_of Pass = 0
code_of Fail = 1
code_of Usage = 2
code_of (SdpRefused fault) = 3
code_of NotAllJudged = 4
code_of (ReadFault input) = 5
code_of WriteFault = 6
code_of OutOfMemory = 7
code_of ReportRefused = 9

-- the name of an input in that line; captures count from 1 there, and from 0 in `Input`
abbrev pub input_name : Input → List ℕ
input_name Sdp = codes "sdp"
input_name Report = codes "report"
input_name (Capture file) = codes "capture " ++ decimal (file + 1)

-- the line with its newline; empty for the statuses with which the report was printed
abbrev pub error_line : Status → List ℕ
error_line Pass = []
error_line Fail = []
error_line Usage = codes "usage: check, verify, verify-report or selftest\n"
error_line (SdpRefused fault) = codes "sdp refused: " ++ (fault_text fault ++ codes "\n")
error_line NotAllJudged = []
error_line (ReadFault input) = codes "read fault: " ++ (input_name input ++ codes "\n")
error_line WriteFault = codes "write fault\n"
error_line OutOfMemory = codes "out of memory\n"
error_line ReportRefused = codes "report refused\n"
