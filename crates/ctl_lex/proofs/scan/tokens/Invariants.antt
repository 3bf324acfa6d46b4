use Rattle.std.proofs.Common.{◌+◌, ◌≤◌, length}
use Rattle.ctl_lex.proofs.ReadTo.{IsReadTo}
use Rattle.ctl_lex.proofs.scan.tokens.Given as goal

abbrev pub invariant-loop-rest : goal.invariant-loop-rest
invariant-loop-rest l = record {
  read : IsReadTo l.source l.found.items l.place l.rest;
  short : length l.source ≤ 1048576;
  room : l.place.span.line + l.place.span.column + length l.rest ≤ length l.source + 2;
  from_one : 1 ≤ l.place.span.column;
}

abbrev pub decreases-loop-rest : goal.decreases-loop-rest
decreases-loop-rest l = length l.rest
