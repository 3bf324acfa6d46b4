use Rattle.std.proofs.Common.{◌≡◌, ◌<◌, ◌^◌, count_by, drop, take}
use Rattle.ctl_lexis.specs.Bytes.{is_digit}
use Rattle.ctl_lexis.specs.Pieces.{value_from}
use Rattle.ctl_lex.proofs.number.value_of.Given as goal

abbrev pub invariant-loop-byte : goal.invariant-loop-byte
invariant-loop-byte l = record {
  value : value_from l.value (drop l.byte-index l.text) ≡ value_from 0 l.text;
  bound : l.value < 10 ^ count_by is_digit (take l.byte-index l.text);
}
