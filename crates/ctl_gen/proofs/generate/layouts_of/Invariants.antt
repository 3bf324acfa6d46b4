-- Layouts of the types that are left make up, behind those so far, the layouts of all.
use Rattle.std.proofs.Common.{List, [], ◌++◌, drop}
use Rattle.ctl_code.specs.declared.code.Layout.{Layout}
use Rattle.ctl_layout.specs.Layout.{AreLayouts}
use Rattle.ctl_gen.proofs.generate.layouts_of.Given as goal

abbrev pub invariant-loop-entry : goal.invariant-loop-entry
invariant-loop-entry l = (xs : List Layout) → AreLayouts l.all.items xs (drop l.entry-index l.records) → AreLayouts [] (l.all.items ++ xs) l.records
