-- What is left is run as what there was.
use Rattle.std.proofs.Common.{◌≡◌, map, drop}
use Rattle.ctl_layout.specs.Layout.{all_items, item_code}
use Rattle.ctl_layout.proofs.runs.items.Given as goal

abbrev pub invariant-loop-one : goal.invariant-loop-one
invariant-loop-one l = (all_items (map item_code (drop l.one-index l.items))).runs l.table.records.now ≡ (all_items (map item_code l.items)).runs l.table.records.now
