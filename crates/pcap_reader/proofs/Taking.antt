-- Lemmas on how many bytes were taken from a source.
use Rattle.std.proofs.Common.{◌≡◌, ℕ, List, ◌++◌, length, None, Some, ap, arith, length-append}
use Rattle.std.specs.Prelude.{Option}
use Rattle.std.specs.Io.KnownBytes.{Keeps, prepend_known}
use Rattle.pcap_reader.specs.declared.window.Window.{Window}
use Rattle.pcap_reader.specs.Windows.{held_bytes, taken_length, SameRecord, Takes}

-- where what is held and left together stays, the source lost what the window took
pub takes-kept : (v w : Window) (a b : Option (List ℕ)) → SameRecord v w → Keeps (prepend_known (held_bytes v) a) (prepend_known (held_bytes w) b)
    → Takes a b (taken_length v) (taken_length w)
takes-kept v w None b same p = tt
takes-kept v w (Some x) None same p = absurd p
takes-kept v w (Some x) (Some y) same p =
    let long : length (held_bytes w ++ y) ≡ length (held_bytes v ++ x) = ap length p in
    omega (arith, length-append (held_bytes w) y, length-append (held_bytes v) x, long, same.place)

-- what was taken in two steps
pub takes-trans : (a b c : Option (List ℕ)) (i j k : ℕ) → Takes a b i j → Takes b c j k → Takes a c i k
takes-trans None b c i j k p q = tt
takes-trans (Some x) None c i j k p q = absurd p
takes-trans (Some x) (Some y) None i j k p q = absurd q
takes-trans (Some x) (Some y) (Some z) i j k p q = omega (arith, p, q)
