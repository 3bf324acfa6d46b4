-- The forms of the types so far, and those of the types that are left, make up the whole.
use Rattle.std.proofs.Common.{◌≡◌, drop}
use Rattle.ctl_layout.specs.Records.{form_by, forms_of, rows_by}
use Rattle.ctl_layout.proofs.forms.forms_of.Given as goal

abbrev pub invariant-loop-entry : goal.invariant-loop-entry
invariant-loop-entry l = rows_by form_by l.forms.items (drop l.entry-index l.records) ≡ forms_of l.records
