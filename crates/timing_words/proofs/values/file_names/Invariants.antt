use Rattle.std.proofs.Common.{◌≡◌, List, map, take, true}
use Rattle.std.specs.List.{list_all}
use Rattle.timing_base.specs.Name.{is_file_name}
use Rattle.timing_words.specs.Line.{Text}
use Rattle.timing_words.proofs.values.file_names.Given as goal

-- the names so far
pub record IsCopied (items names : List Text) : Type 0 where
  pub same : items ≡ names
  pub pass : list_all is_file_name names ≡ true

abbrev pub invariant-loop-name : goal.invariant-loop-name
invariant-loop-name l = IsCopied l.files.items (map (λ s. s.now) (take l.name-index l.names))
