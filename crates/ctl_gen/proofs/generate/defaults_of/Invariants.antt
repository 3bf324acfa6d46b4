-- What is emitted, and what is still to be emitted, make up the whole; and so do the rows.
use Rattle.std.proofs.Common.{◌≡◌, ◌++◌, [], drop, length, map}
use Rattle.ctl_code.specs.declared.code.Defaults.{Defaults}
use Rattle.ctl_layout.specs.Layout.{all_defaults, rows_from}
use Rattle.ctl_emitter.specs.Emitted.{appended}
use Rattle.ctl_gen.proofs.generate.defaults_of.Given as goal

abbrev pub invariant-loop-entry : goal.invariant-loop-entry
invariant-loop-entry l =
    (appended (all_defaults (length l.rows.items) (drop l.entry-index l.records)) [] [] l.emitter ≡ appended (all_defaults 0 l.records) [] [] l.fn.emitter)
    × (map (λ (x : Defaults). x.places.items) l.rows.items ++ rows_from (length l.rows.items) (length l.emitter.instructions) (map (λ (x : Defaults). x.places.items) l.rows.items) (drop l.entry-index l.records) ≡ rows_from 0 (length l.fn.emitter.instructions) [] l.records)
    × (l.emitter.notes.standing ≡ [])
