use Rattle.std.proofs.Common.{refl}
use Rattle.ctl_code.proofs.Whole.{whole}
use Rattle.ctl_code.proofs.validate.is_valid.Goals as goal

pub returns-then-are_entries_fine : goal.returns-then-are_entries_fine
returns-then-are_entries_fine c =
    let start = c.if-not-is_started.ensures.0 refl in
    let stacks = c.if-not-are_stacks_fine.ensures.0 refl in
    let fine = c.if-not-are_instructions_fine.ensures.0 refl in
    let formals = c.if-not-are_formals_fine.ensures.0 refl in
    let storage = c.if-not-is_storage_fine.ensures.0 refl in
    let layouts = c.if-not-are_layouts_fine.ensures.0 refl in
    let entries = c.if-are_entries_fine.ensures.0 refl in
    (λ t. whole c.args.code.now stacks.0 start stacks.1 fine entries (c.are_records_fine.ensures.0 t) formals storage layouts, λ valid. c.are_records_fine.ensures.1 valid.records)
