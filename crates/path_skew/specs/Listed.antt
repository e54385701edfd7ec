-- The pages of a `Directory`.
use Rattle.std.specs.Prelude.{ℕ, List}
use Rattle.path_skew.specs.Search.{pages_in}
use Rattle.path_skew.specs.declared.directory.Directory.{Directory}

-- the page numbers, each at its position
abbrev pub pages_of : Directory → List ℕ
pages_of directory = pages_in directory.entries.items
