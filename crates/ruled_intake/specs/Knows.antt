-- The state of a lane's passes, together with the counts that the passes keep.
use Rattle.std.specs.Prelude.{◌≡◌, ◌≤◌, ◌^◌, ℕ, List, [], length}
use Rattle.ruled_intake.specs.declared.message.Message.{Message}
use Rattle.ruled_intake.specs.declared.rule.Entry.{Entry}
use Rattle.ruled_intake.specs.declared.rule.View.{View}
use Rattle.ruled_intake.specs.declared.rule.View.TheVariants.{Sends, Takes, Spent}
use Rattle.ruled_intake.specs.Lanes.{packets}

-- what the sender with this state has sent
abbrev pub put_by : View → List Message
put_by (Sends from put) = put
put_by v = []

-- what the taker with this state has taken
abbrev pub got_by : View → List Entry
got_by (Takes got made known) = got
got_by v = []

-- number of senders that the taker with this state has made
abbrev pub made_by : View → ℕ
made_by (Takes got made known) = made
made_by v = 0

-- the state is that of the sender with this number, which has sent `sent` messages with `count` packets, within its
-- limits
pub record KnowsSent (from sent count : ℕ) (v : View) : Type 0 where
  pub view_is : v ≡ Sends from (put_by v)
  pub sent_is : sent ≡ length (put_by v)
  pub count_is : count ≡ packets (put_by v)
  pub few_sent : sent ≤ 2 ^ 37
  pub few_packets : count ≤ 2 ^ 37

-- the state is that of the taker, which has made at most 16 senders and taken `taken` messages
pub record KnowsTaken (taken : ℕ) (v : View) : Type 0 where
  pub view_is : v ≡ Takes (got_by v) (made_by v) []
  pub few_made : made_by v ≤ 16
  pub taken_is : taken ≡ length (got_by v)
