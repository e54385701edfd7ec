use Rattle.std.proofs.Common.{◌≡◌, ◌<◌, ◌^◌, true, take}
use Rattle.std.specs.List.{list_all}
use Rattle.sdp_reader.specs.Bytes.{value_of, is_digit}
use Rattle.sdp_reader.proofs.bytes.digits_of.Given as goal

abbrev pub invariant-loop-byte : goal.invariant-loop-byte
invariant-loop-byte l = record {
  small : l.value < 10 ^ l.byte-index;
  value : l.value ≡ value_of (take l.byte-index l.text);
  digits : list_all is_digit (take l.byte-index l.text) ≡ true;
}
