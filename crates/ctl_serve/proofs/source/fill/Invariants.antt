use Rattle.std.proofs.Common.{◌≡◌, length, take, ◌-◌, ◌≤◌}
use Rattle.std.specs.Io.KnownBytes.{Consumes}
use Rattle.ctl_serve.specs.Reading.{is_unread, reader_of}
use Rattle.ctl_serve.proofs.source.fill.Given as goal

-- the first bytes of the buffer are those that the reader gave, and no read has failed since the loop began
abbrev pub invariant-loop-held : goal.invariant-loop-held
invariant-loop-held g l = record {
  within : l.held ≤ length l.buffer;
  bytes : Consumes (g.R.Read.remaining (reader_of l.initial.source)) (g.R.Read.remaining (reader_of l.source)) (take l.held l.buffer);
  kept : is_unread l.source ≡ is_unread l.initial.source;
}

abbrev pub decreases-loop-held : goal.decreases-loop-held
decreases-loop-held g l = length l.buffer - l.held
