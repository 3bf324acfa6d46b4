-- The bodies that are emitted, and those that are still to be emitted, make up the whole; and so do their entries.
use Rattle.std.proofs.Common.{◌≡◌, ◌++◌, [], None, drop, length}
use Rattle.ctl_emitter.specs.Emitted.{stated}
use Rattle.ctl_layout.specs.Layout.{bodies, entries_from}
use Rattle.ctl_emit.proofs.EmittedBodies.{begun}
use Rattle.ctl_gen.proofs.generate.tables_of.Given as goal

abbrev pub invariant-loop-subprogram : goal.invariant-loop-subprogram
invariant-loop-subprogram l =
    (stated (bodies (length l.entries.items) (drop l.subprogram-index l.program.subprograms)) None l.emitter ≡ stated (bodies 0 l.program.subprograms) None (begun l.program.main))
    × (l.entries.items ++ entries_from (length l.entries.items) (length l.emitter.instructions) (length l.emitter.texts) (drop l.subprogram-index l.program.subprograms) ≡ entries_from 0 1 0 l.program.subprograms)
    × (l.emitter.notes.standing ≡ [])
