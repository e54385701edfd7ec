-- The packets that an intake expects of the media of a session, so that it needn't parse each packet. Media count from
-- 0.
use Rattle.std.specs.Prelude.{◌≡◌, List, Some, All}
use Rattle.timing_base.specs.Media.{Media}
use Rattle.timing_base.specs.declared.packet.Rtp.{Rtp}
use Rattle.timing_base.specs.declared.target.Target.{Target}
use Rattle.udp_rtp.specs.Awaited.{awaited}
use Rattle.flow_worker.specs.Targeted.{media_to}
use Rattle.flow_worker.specs.declared.upcoming.Expected.{Expected}
use Rattle.flow_worker.specs.declared.upcoming.Upcoming.{Upcoming}

-- what is awaited goes to the media with this number, and to none before it
abbrev pub IsExpected : List Media → Expected → Type 0
IsExpected media e = (target : Target) (p : Rtp) → awaited e.awaited ≡ Some (target, p)
    → media_to target 0 media ≡ Some e.media

-- what is awaited of each media goes to that media, and to none before it
abbrev pub AreExpected : List Media → Upcoming → Type 0
AreExpected media u = All (IsExpected media) u.each
