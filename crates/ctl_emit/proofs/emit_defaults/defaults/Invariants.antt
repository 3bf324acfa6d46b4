-- What is emitted, and what is still to be emitted, make up the whole; and so do the places.
use Rattle.std.proofs.Common.{◌≡◌, ◌++◌, [], drop, length}
use Rattle.ctl_layout.specs.Layout.{defaults_code, places_from}
use Rattle.ctl_emitter.specs.Emitted.{appended}
use Rattle.ctl_emit.proofs.emit_defaults.defaults.Given as goal

abbrev pub invariant-loop-component : goal.invariant-loop-component
invariant-loop-component l =
    (appended (defaults_code l.entry.level l.number (drop l.component-index l.entry.own)) [] [] l.emitter ≡ appended (defaults_code l.entry.level l.number l.entry.own) [] [] l.fn.emitter)
    × (l.places.items ++ places_from l.entry.level l.number (length l.emitter.instructions) (drop l.component-index l.entry.own) ≡ l.fn.inherited.items ++ places_from l.entry.level l.number (length l.fn.emitter.instructions) l.entry.own)
    × (l.emitter.notes.standing ≡ [])
