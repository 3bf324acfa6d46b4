use Rattle.std.proofs.Common.{◌≡◌, ◌≤◌, length, take, replicate}
use Rattle.pool_area.proofs.lot.clear_front.Given as goal

abbrev pub invariant-loop-k : goal.invariant-loop-k
invariant-loop-k l = record { front : take l.k l.words ≡ replicate l.k 0; len : length l.words ≡ length l.initial.words }
