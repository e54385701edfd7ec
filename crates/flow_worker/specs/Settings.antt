-- The setting of a run, as its intakes and workers share it. Files and workers count from 0.
use Rattle.std.specs.Prelude.{◌≤◌, ◌<◌, ℕ, length}
use Rattle.flow_worker.specs.Opening.{Setting}
use Rattle.flow_worker.specs.declared.setting.RunSetting.{RunSetting}

-- the setting of the run: there is a worker for each lane
abbrev pub setting_of : RunSetting → Setting
setting_of run = record {
  media = run.media.now;
  workers = length run.lanes.now;
  joined = run.joined;
  options = run.options;
}

-- the intake is that of one of at most 16 files, and the media and lanes of its run are within their limits
pub record IsIntake (run : RunSetting) (file : ℕ) : Type 0 where
  pub file_is : file < 16
  pub some_media : 1 ≤ length run.media.now
  pub few_media : length run.media.now ≤ 64
  pub some_lanes : 1 ≤ length run.lanes.now
  pub few_lanes : length run.lanes.now ≤ 16

-- the worker is one of at most 16, and the media and files of its run are within their limits
pub record IsWorker (run : RunSetting) (worker : ℕ) : Type 0 where
  pub worker_is : worker < length run.lanes.now
  pub few_workers : length run.lanes.now ≤ 16
  pub some_media : 1 ≤ length run.media.now
  pub few_media : length run.media.now ≤ 64
  pub some_files : 1 ≤ run.files
  pub few_files : run.files ≤ 16
