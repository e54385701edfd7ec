-- Times in milliseconds, microseconds or nanoseconds, exact: with three, six or no decimals as far as they aren't 0.
-- Times are nanoseconds. This project's own format.
use Rattle.std.specs.Prelude.{ℕ, ℤ, pos, ◌/◌, ◌%◌, ◌==◌, nat_lt, int_lt, unsigned_abs, if◌then◌else◌}
use Rattle.std.specs.Prelude.{List, [], ◌++◌, codes}
use Rattle.std.specs.Fmt.{decimal}
use Rattle.timing_base.specs.Shifts.{Shift, unshifted}
use Rattle.flow_page.specs.chart.Grid.{ns_name, scale_of_ns}

-- the last three digits of a number
abbrev pub three : ℕ → List ℕ
three n = decimal (n / 100 % 10) ++ (decimal (n / 10 % 10) ++ decimal (n % 10))

-- three decimals, if one isn't 0
abbrev pub decimals : ℕ → List ℕ
decimals n = if n % 1000 == 0 then [] else codes "." ++ three (n % 1000)

-- three more decimals, if one isn't 0
abbrev pub more_decimals : ℕ → List ℕ
more_decimals n = if n % 1000 == 0 then [] else three (n % 1000)

-- a time in microseconds
abbrev pub micro_text : ℕ → List ℕ
micro_text ns = decimal (ns / 1000) ++ decimals ns

-- a time in milliseconds
abbrev pub milli_text : ℕ → List ℕ
milli_text ns =
    if ns % 1000000 == 0 then decimal (ns / 1000000)
    else decimal (ns / 1000000) ++ (codes "." ++ (three (ns / 1000 % 1000) ++ more_decimals ns))

-- a time in a unit of so many nanoseconds: a million, a thousand, or one
unfoldable pub in_unit : (scale : ℕ) → (ns : ℕ) → List ℕ
in_unit scale ns =
    if scale == 1000000 then milli_text ns else if scale == 1000 then micro_text ns else decimal ns

-- a minus sign for a number below 0
abbrev pub minus_of : ℤ → List ℕ
minus_of x = if int_lt x (pos 0) then codes "-" else []

-- a time in the unit of an axis with ticks `step` nanoseconds apart
unfoldable pub time_number : (step : ℕ) → ℤ → List ℕ
time_number step ns = minus_of ns ++ in_unit (scale_of_ns step) (unsigned_abs ns)

-- a time with that unit
unfoldable pub time_text : (step : ℕ) → ℤ → List ℕ
time_text step ns = time_number step ns ++ (codes " " ++ ns_name step)

-- a time in a sentence, in milliseconds or, if it is shorter than one, in microseconds
unfoldable pub span_text : ℕ → List ℕ
span_text ns =
    if nat_lt ns 1000000 then micro_text ns ++ codes " &#181;s" else milli_text ns ++ codes " ms"

-- a capture timestamp as the file has it, from the one after the shift
abbrev pub file_time : Shift → (stamp : ℕ) → ℕ
file_time shift stamp = unshifted shift stamp

-- a capture timestamp in seconds of the epoch, with nine decimals
unfoldable pub epoch_text : ℕ → List ℕ
epoch_text ns =
    decimal (ns / 1000000000) ++ (codes "." ++ (three (ns / 1000000 % 1000) ++ (three (ns / 1000 % 1000)
    ++ three (ns % 1000))))

-- thousandths of a number, with three decimals
unfoldable pub thousandths_text : ℕ → List ℕ
thousandths_text n = decimal (n / 1000) ++ (codes "." ++ three (n % 1000))
