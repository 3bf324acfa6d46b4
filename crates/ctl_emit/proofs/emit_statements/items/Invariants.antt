-- What is emitted, and what is still to be emitted, make up the whole.
use Rattle.std.proofs.Common.{◌≡◌, drop, map}
use Rattle.ctl_emitter.specs.Emitted.{lined}
use Rattle.ctl_layout.specs.Layout.{all_items, item_code}
use Rattle.ctl_emit.proofs.emit_statements.items.Given as goal

abbrev pub invariant-loop-one : goal.invariant-loop-one
invariant-loop-one l = lined (all_items (map item_code (drop l.one-index l.items))).code l.emitter ≡ lined (all_items (map item_code l.items)).code l.fn.emitter
