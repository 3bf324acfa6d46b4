use Rattle.std.proofs.Common.{◌≡◌, ℕ, ◌<◌, Some}
use Rattle.std.specs.Prelude.{slice_get}
use Rattle.ctl_code.specs.declared.code.Layout.{Layout}
use Rattle.ctl_code.specs.Valid.{IsLaid}
use Rattle.ctl_code.proofs.layouts.are_layouts_fine.Given as goal

abbrev pub invariant-loop-number : goal.invariant-loop-number
invariant-loop-number l = (t : ℕ) (x : Layout) → t < l.number → slice_get l.code.layouts.items t ≡ Some x → IsLaid l.code t x
