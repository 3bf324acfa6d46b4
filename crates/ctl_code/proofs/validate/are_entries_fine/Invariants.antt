use Rattle.std.proofs.Common.{◌≡◌, ℕ, ◌<◌, Some}
use Rattle.std.specs.Prelude.{slice_get}
use Rattle.ctl_code.specs.declared.code.Entry.{Entry}
use Rattle.ctl_code.specs.Valid.{IsBegun}
use Rattle.ctl_code.proofs.validate.are_entries_fine.Given as goal

abbrev pub invariant-loop-number : goal.invariant-loop-number
invariant-loop-number l = (f : ℕ) (e : Entry) → f < l.number → slice_get l.code.entries.items f ≡ Some e → IsBegun l.code f e
