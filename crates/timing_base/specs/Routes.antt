-- The worker that judges a flow.
use Rattle.std.specs.Prelude.{◌+◌, ◌*◌, ◌%◌, ℕ}
use Rattle.timing_base.specs.declared.key.FlowKey.{FlowKey}

-- the worker, counted from 0; flows are assigned in turn, by file and then by media
abbrev pub route : FlowKey → (media_count workers : ℕ) → ℕ
route key media_count workers = (key.file * media_count + key.media) % workers
