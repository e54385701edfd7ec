-- The results of workers.
use Rattle.std.specs.Prelude.{List, Option}
use Rattle.std.specs.Option.{option_map}
use Rattle.std.specs.declared.alloc.Global.{Global}
use Rattle.std.specs.declared.vec.Vec.{Vec}
use Rattle.verdict_book.specs.declared.book.Receipt.{Receipt}

-- the receipts, if there are any
abbrev pub receipts_in : Option (Vec Receipt Global) → Option (List Receipt)
receipts_in posted = option_map (λ v. v.items) posted
