use Rattle.std.proofs.Common.{refl}
use Rattle.timing_top.proofs.Ending.{ends-command, ends-help, ends-report, ends-scan, ends-sdp, ends-self-test}
use Rattle.timing_top.proofs.Serving.{serves}
use Rattle.timing_top.proofs.commands.serve.Goals as goal

pub returns-then-command-eq0-clause-ran : goal.returns-then-command-eq0-clause-ran
returns-then-command-eq0-clause-ran g c = serves _ _ _ _ _ _ c.in-Check.is c.run_command.ensures.ran

pub returns-in-Check-clause-ran : goal.returns-in-Check-clause-ran
returns-in-Check-clause-ran g c = serves _ _ _ _ _ _ c.in-Check.is c.check_many.ensures.ran

pub returns-in-Verify-clause-ran : goal.returns-in-Verify-clause-ran
returns-in-Verify-clause-ran g c = serves _ _ _ _ _ _ c.in-Verify.is c.run_command-in-Verify.ensures.ran

pub returns-in-Window-clause-ran : goal.returns-in-Window-clause-ran
returns-in-Window-clause-ran g c = serves _ _ _ _ _ _ c.in-Window.is c.run_command-in-Window.ensures.ran

pub returns-in-Shape-clause-ran : goal.returns-in-Shape-clause-ran
returns-in-Shape-clause-ran g c = serves _ _ _ _ _ _ c.in-Shape.is c.run_command-in-Shape.ensures.ran

pub returns-in-Skew-clause-ran : goal.returns-in-Skew-clause-ran
returns-in-Skew-clause-ran g c = serves _ _ _ _ _ _ c.in-Skew.is c.run_command-in-Skew.ensures.ran

pub returns-in-Measure-clause-ran : goal.returns-in-Measure-clause-ran
returns-in-Measure-clause-ran g c = serves _ _ _ _ _ _ c.in-Measure.is c.run_command-in-Measure.ensures.ran

pub returns-in-Series-clause-ran : goal.returns-in-Series-clause-ran
returns-in-Series-clause-ran g c = serves _ _ _ _ _ _ c.in-Series.is c.run_command-in-Series.ensures.ran

pub returns-in-Page-clause-ran : goal.returns-in-Page-clause-ran
returns-in-Page-clause-ran g c = serves _ _ _ _ _ _ c.in-Page.is c.run_command-in-Page.ensures.ran

pub returns-in-Explain-clause-ran : goal.returns-in-Explain-clause-ran
returns-in-Explain-clause-ran g c = serves _ _ _ _ _ _ c.in-Explain.is c.run_command-in-Explain.ensures.ran

pub returns-in-Watch-clause-ran : goal.returns-in-Watch-clause-ran
returns-in-Watch-clause-ran g c = serves _ _ _ _ _ _ c.in-Watch.is c.run_command-in-Watch.ensures.ran

pub returns-in-VerifyReport-clause-ran : goal.returns-in-VerifyReport-clause-ran
returns-in-VerifyReport-clause-ran g c = serves _ _ _ _ _ _ c.in-VerifyReport.is c.verify_all.ensures.ran

pub returns-in-Scan-clause-ran : goal.returns-in-Scan-clause-ran
returns-in-Scan-clause-ran g c = serves _ _ _ _ _ _ c.in-Scan.is c.scan_one.ensures.ran

pub returns-in-Sdp-clause-ran : goal.returns-in-Sdp-clause-ran
returns-in-Sdp-clause-ran g c = serves _ _ _ _ _ _ c.in-Sdp.is c.sdp_one.ensures.ran

pub returns-then-command-eq0-clause-ends : goal.returns-then-command-eq0-clause-ends
returns-then-command-eq0-clause-ends g c = ends-command _ _ _ _ c.in-Check.is refl c.run_command.ensures.ends

pub returns-in-Check-clause-ends : goal.returns-in-Check-clause-ends
returns-in-Check-clause-ends g c = ends-command _ _ _ _ c.in-Check.is refl c.check_many.ensures.ends

pub returns-in-Verify-clause-ends : goal.returns-in-Verify-clause-ends
returns-in-Verify-clause-ends g c = ends-command _ _ _ _ c.in-Verify.is refl c.run_command-in-Verify.ensures.ends

pub returns-in-Window-clause-ends : goal.returns-in-Window-clause-ends
returns-in-Window-clause-ends g c = ends-command _ _ _ _ c.in-Window.is refl c.run_command-in-Window.ensures.ends

pub returns-in-Shape-clause-ends : goal.returns-in-Shape-clause-ends
returns-in-Shape-clause-ends g c = ends-command _ _ _ _ c.in-Shape.is refl c.run_command-in-Shape.ensures.ends

pub returns-in-Skew-clause-ends : goal.returns-in-Skew-clause-ends
returns-in-Skew-clause-ends g c = ends-command _ _ _ _ c.in-Skew.is refl c.run_command-in-Skew.ensures.ends

pub returns-in-Measure-clause-ends : goal.returns-in-Measure-clause-ends
returns-in-Measure-clause-ends g c = ends-command _ _ _ _ c.in-Measure.is refl c.run_command-in-Measure.ensures.ends

pub returns-in-Series-clause-ends : goal.returns-in-Series-clause-ends
returns-in-Series-clause-ends g c = ends-command _ _ _ _ c.in-Series.is refl c.run_command-in-Series.ensures.ends

pub returns-in-Page-clause-ends : goal.returns-in-Page-clause-ends
returns-in-Page-clause-ends g c = ends-command _ _ _ _ c.in-Page.is refl c.run_command-in-Page.ensures.ends

pub returns-in-Explain-clause-ends : goal.returns-in-Explain-clause-ends
returns-in-Explain-clause-ends g c = ends-command _ _ _ _ c.in-Explain.is refl c.run_command-in-Explain.ensures.ends

pub returns-in-Watch-clause-ends : goal.returns-in-Watch-clause-ends
returns-in-Watch-clause-ends g c = ends-command _ _ _ _ c.in-Watch.is refl c.run_command-in-Watch.ensures.ends

pub returns-in-VerifyReport-clause-ends : goal.returns-in-VerifyReport-clause-ends
returns-in-VerifyReport-clause-ends g c = ends-report _ _ _ _ c.in-VerifyReport.is c.verify_all.ensures.ends

pub returns-in-Scan-clause-ends : goal.returns-in-Scan-clause-ends
returns-in-Scan-clause-ends g c = ends-scan _ _ _ _ c.in-Scan.is c.scan_one.ensures.ends

pub returns-in-Sdp-clause-ends : goal.returns-in-Sdp-clause-ends
returns-in-Sdp-clause-ends g c = ends-sdp _ _ _ _ c.in-Sdp.is c.sdp_one.ensures.ends

pub returns-in-SelfTest-clause-ends : goal.returns-in-SelfTest-clause-ends
returns-in-SelfTest-clause-ends g c = ends-self-test _ _ _ _ _ c.in-SelfTest.is c.self_test.ensures.ran

pub returns-clause-ends : goal.returns-clause-ends
returns-clause-ends g c = ends-help _ _ _ _ _ c.in-Help.is c.print_help.ensures.ran
