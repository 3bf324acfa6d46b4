use Rattle.std.proofs.Common.{◌≡◌, ◌+◌, ◌≤◌, drop}
use Rattle.ctl_lexis.specs.Places.{place_after}
use Rattle.ctl_bytes.proofs.place.place_after.Given as goal

abbrev pub invariant-loop-byte : goal.invariant-loop-byte
invariant-loop-byte l = record {
  place : place_after l.now (drop l.byte-index l.bytes) ≡ place_after l.fn.place l.bytes;
  room : l.now.span.line + l.now.span.column ≤ l.fn.place.span.line + l.fn.place.span.column + l.byte-index;
  from_one : 1 ≤ l.now.span.column;
}
