-- Reports that `verify-report` reads back.
use Rattle.std.specs.Prelude.{ℕ, List, map, All, IsUtf8}
use Rattle.timing_base.specs.Jobs.{CheckJob, IsCheckJob, ReportJob}
use Rattle.timing_base.specs.Media.{IsMedia, IsSession, Media}
use Rattle.pcapng_reader.specs.Bytes.{AreBytes}

-- the job of `verify-report` on the report with this name, with the SDP, the captures and the options of that report
abbrev pub reading_back : CheckJob → (name : List ℕ) → ReportJob
reading_back job name = record {
  sdp = job.sdp;
  report = name;
  options = job.options;
  captures = job.captures;
  joined = job.joined;
  media = job.media;
}

-- the inputs of a report are within their limits: the job, a session of these media, and captures with these contents
pub record IsReadable (job : CheckJob) (media : List Media) (text : List ℕ → List ℕ) : Type 0 where
  pub job_is : IsCheckJob job
  pub session : IsSession media
  pub media_are : All IsMedia media
  pub names : All IsUtf8 job.captures
  pub bytes : All AreBytes (map text job.captures)
