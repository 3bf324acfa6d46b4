-- Places in a text: line and column from 1, in bytes (RM 2.2).
use Rattle.std.specs.Prelude.{ℕ, ◌+◌, false, ◌&&◌, ◌==◌, List, [], ◌∷◌, if◌then◌else◌}
use Rattle.ctl_lexis.specs.declared.place.Place.{Place}
use Rattle.ctl_lexis.specs.Bytes.{is_line_end}

-- where a text begins
abbrev pub start : Place
start = record { span = record { line = 1; column = 1 }; behind_cr = false }

-- The place behind a byte. An LF directly behind a CR belongs to the line end that the CR makes.
abbrev pub after : Place → ℕ → Place
after p b =
    if is_line_end b
    then (if p.behind_cr && b == 10
    then record { span = p.span; behind_cr = false }
    else record { span = record { line = p.span.line + 1; column = 1 }; behind_cr = b == 13 })
    else record { span = record { line = p.span.line; column = p.span.column + 1 }; behind_cr = false }

-- the place behind these bytes
abbrev pub place_after : Place → List ℕ → Place
place_after p [] = p
place_after p (b ∷ bytes) = place_after (after p b) bytes
