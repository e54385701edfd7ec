-- Times in sentences, exact: in microseconds below a millisecond, in milliseconds below a second, else in seconds, and
-- without zeros at the end of the decimals. Times are nanoseconds. This project's profile.
use Rattle.std.specs.Prelude.{ℕ, ℤ, pos, ◌/◌, ◌%◌, ◌==◌, nat_lt, int_lt, unsigned_abs, if◌then◌else◌}
use Rattle.std.specs.Prelude.{List, [], ◌∷◌, ◌++◌, codes}
use Rattle.std.specs.Fmt.{decimal}

-- the sign of a microsecond, U+00B5 and `s`, in UTF-8
abbrev pub micro_sign : List ℕ
micro_sign = 194 ∷ 181 ∷ 115 ∷ []

-- a number below 1,000 as three digits
abbrev pub three : ℕ → List ℕ
three n = decimal (n / 100 % 10) ++ (decimal (n / 10 % 10) ++ decimal (n % 10))

-- the same, without zeros at the end
abbrev pub trimmed : ℕ → List ℕ
trimmed n =
    if n % 100 == 0 then decimal (n / 100 % 10)
    else (if n % 10 == 0 then decimal (n / 100 % 10) ++ decimal (n / 10 % 10) else three n)

-- thousandths as decimals, none if they are 0
abbrev pub thousandths : ℕ → List ℕ
thousandths n = if n % 1000 == 0 then [] else codes "." ++ trimmed (n % 1000)

-- millionths as decimals
abbrev pub millionths : ℕ → List ℕ
millionths n =
    if n % 1000 == 0 then thousandths (n / 1000) else codes "." ++ (three (n / 1000 % 1000) ++ trimmed (n % 1000))

-- billionths as decimals
abbrev pub billionths : ℕ → List ℕ
billionths n =
    if n % 1000 == 0 then millionths (n / 1000)
    else codes "." ++ (three (n / 1000000 % 1000) ++ (three (n / 1000 % 1000) ++ trimmed (n % 1000)))

-- a time in microseconds
abbrev pub micro_text : ℕ → List ℕ
micro_text ns = decimal (ns / 1000) ++ (thousandths ns ++ (codes " " ++ micro_sign))

-- a time in milliseconds
abbrev pub milli_text : ℕ → List ℕ
milli_text ns = decimal (ns / 1000000) ++ (millionths ns ++ codes " ms")

-- a time in seconds
abbrev pub second_text : ℕ → List ℕ
second_text ns = decimal (ns / 1000000000) ++ (billionths ns ++ codes " s")

-- a time
abbrev pub time_text : ℕ → List ℕ
time_text ns =
    if nat_lt ns 1000000 then micro_text ns
    else (if nat_lt ns 1000000000 then milli_text ns else second_text ns)

-- a minus sign for a number below 0
abbrev pub minus_of : ℤ → List ℕ
minus_of x = if int_lt x (pos 0) then codes "-" else []

-- a time that may be below 0
abbrev pub signed_time_text : ℤ → List ℕ
signed_time_text ns = minus_of ns ++ time_text (unsigned_abs ns)

-- a capture timestamp in seconds of the epoch, with nine decimals
abbrev pub epoch_text : ℕ → List ℕ
epoch_text ns =
    decimal (ns / 1000000000) ++ (codes "." ++ (three (ns / 1000000 % 1000) ++ (three (ns / 1000 % 1000)
    ++ three (ns % 1000))))

-- tenths of a number, with one decimal
abbrev pub tenths_text : ℕ → List ℕ
tenths_text n = decimal (n / 10) ++ (codes "." ++ decimal (n % 10))
