-- Capture timestamps that are whole microseconds, and the state of a taker that looks for them. Timestamps are
-- nanoseconds, as the files have them.
use Rattle.std.specs.Prelude.{◌≡◌, ◌%◌, ◌==◌, Bool, List, [], ◌++◌}
use Rattle.std.specs.List.{list_all}
use Rattle.std.proofs.Common.{sym, subst, append-nil, append_assoc}
use Rattle.timing_base.specs.Captures.{Record}
use Rattle.timing_explain.specs.declared.micros.Microseconds.{Microseconds}

-- the timestamp of a packet record is a whole number of microseconds
abbrev pub is_whole : Record → Bool
is_whole r = r.stamp % 1000 == 0

-- the timestamps of all these records are
abbrev pub are_whole : List Record → Bool
are_whole items = list_all is_whole items

-- these records were taken after those before, and no others
abbrev pub Takes : (old new : Microseconds) → List Record → Type 0
Takes old new more = (before : List Record) → old.whole ≡ are_whole before → new.whole ≡ are_whole (before ++ more)

-- taking no record changes nothing
pub takes_none : (x : Microseconds) → Takes x x []
takes_none x before h = subst (λ l. x.whole ≡ are_whole l) (sym (append-nil before)) h

-- taking some records and then others is taking both
pub takes_more : (x y z : Microseconds) (a b : List Record) → Takes x y a → Takes y z b → Takes x z (a ++ b)
takes_more x y z a b first second before h =
    subst (λ l. z.whole ≡ are_whole l) (append_assoc before a b) (second (before ++ a) (first before h))
