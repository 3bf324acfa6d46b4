-- What a sink over a writer shows of itself.
use Rattle.std.specs.Prelude.{Bool}
use Rattle.ctl_sink.specs.declared.through.Through.{Through}

-- the writer that takes the bytes
abbrev pub writer_of : {W : Type 0} → Through W → W
writer_of t = t.writer

-- whether a write failed, or took no byte, or a flush failed
abbrev pub is_broken : {W : Type 0} → Through W → Bool
is_broken t = t.is_broken
