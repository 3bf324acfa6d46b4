-- A layout that has the components that are left behind those so far has those of the type.
use Rattle.std.proofs.Common.{drop}
use Rattle.ctl_code.specs.declared.code.Layout.{Layout}
use Rattle.ctl_gen.proofs.Layouts.{Grows, HasOwn}
use Rattle.ctl_gen.proofs.generate.components_of.Given as goal

abbrev pub invariant-loop-component : goal.invariant-loop-component
invariant-loop-component l = (y : Layout) → Grows l.layouts l.layout (drop l.component-index l.entry.own) y → HasOwn l.layouts l.entry y
