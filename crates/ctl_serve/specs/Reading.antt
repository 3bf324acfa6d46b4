-- What a reader that remembers its failure shows of itself.
use Rattle.std.specs.Prelude.{Bool}
use Rattle.ctl_serve.specs.declared.source.Reading.{Reading}

-- the reader that gives the bytes
abbrev pub reader_of : {R : Type 0} → Reading R → R
reader_of r = r.reader

-- whether a read failed
abbrev pub is_unread : {R : Type 0} → Reading R → Bool
is_unread r = r.is_broken
