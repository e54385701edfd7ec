-- Contents in memory that fail by plan, and the faults of each name.
use Rattle.std.specs.Prelude.{ℕ, List, Bool, ◌&&◌, ◌||◌, not, is_some, Option, MatchOption, IsTrue, ⊤}
use Rattle.std.specs.Option.{option_map, option_map_or}
use Rattle.std.specs.BTreeMap.{get_by_text}
use Rattle.std.specs.Str.{bytes_eq}
use Rattle.timing_outside.specs.Counts.{raised_if}
use Rattle.timing_outside.specs.MemorySources.{Begins, Follows}
use Rattle.timing_outside.specs.declared.plan.ReadPlan.{ReadPlan}
use Rattle.timing_outside.specs.declared.memory_shelf.MemoryShelf.{MemoryShelf}
use Rattle.timing_outside.specs.declared.memory_source.MemorySource.{MemorySource}

-- the contents of this name, if it is there
abbrev pub bytes_of : MemoryShelf → List ℕ → Option (List ℕ)
bytes_of shelf name = option_map (λ e. e.bytes.items) (get_by_text shelf.entries name)

-- the plan of this name, if it is there
abbrev pub plan_of : MemoryShelf → List ℕ → Option ReadPlan
plan_of shelf name = option_map (λ e. e.plan) (get_by_text shelf.entries name)

-- the number of faults of this name; the names that aren't there share one count
abbrev pub count_of : MemoryShelf → List ℕ → ℕ
count_of shelf name = option_map_or (λ e. e.faults) (get_by_text shelf.entries name) shelf.others

-- a fetch of this name fails: it isn't there, or its plan has the fetch fail
abbrev pub FetchFails : MemoryShelf → List ℕ → Type 0
FetchFails shelf name = MatchOption (plan_of shelf name) ⊤ (λ plan. IsTrue plan.fetch_fails)

-- both are the same name, or neither is there
abbrev pub share_count : MemoryShelf → List ℕ → List ℕ → Bool
share_count shelf m n =
    bytes_eq m n || (not (is_some (plan_of shelf m)) && not (is_some (plan_of shelf n)))

-- the count of the name n after a call for the name m that failed or succeeded
abbrev pub count_after : Bool → MemoryShelf → List ℕ → List ℕ → ℕ
count_after failed shelf m n = raised_if (failed && share_count shelf m n) (count_of shelf n)

-- the source is at the start of the contents of this name, and is read by its plan
abbrev pub IsOpened : MemorySource → MemoryShelf → List ℕ → Type 0
IsOpened source shelf name =
    MatchOption (get_by_text shelf.entries name) ⊥
    (λ e. Begins source name e.bytes.items × Follows source e.plan)
