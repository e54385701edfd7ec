-- The relation of a receipt to its book.
use Rattle.boxcar.specs.Table.{Shows}
use Rattle.timing_base.specs.declared.row.Row.{Row}
use Rattle.verdict_book.specs.declared.book.Book.{Book}
use Rattle.verdict_book.specs.declared.book.Receipt.{Receipt}

-- the receipt is of this book
abbrev pub IsOf : Book → Receipt → Type 0
IsOf book receipt = Shows book.rows receipt.place

-- the result that was posted for the receipt
abbrev pub row_of : Receipt → Row
row_of receipt = receipt.place.value
