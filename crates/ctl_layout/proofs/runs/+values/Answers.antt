use Rattle.std.proofs.Common.{◌∙◌, ap, sym}
use Rattle.ctl_program.specs.declared.expression.Expr.{Expr}
use Rattle.ctl_layout.specs.Parts.{may_be_part}
use Rattle.ctl_layout.specs.Values.{copied, value_code}
use Rattle.ctl_layout.proofs.Layers.{new_runs, read_copied}
use Rattle.ctl_layout.proofs.runs.+values.Goals as goal

pub value-returns-in-New : goal.value-returns-in-New
value-returns-in-New t c =
    let records = c.args.table.now.records.now in
    c.is_allocated.ensures c.in-New.field-0 ∙ sym (new_runs c.in-New.field-0 c.in-New.ty c.in-New.handle c.in-New.value records) ∙ ap (λ (x : Expr). (value_code x).runs records) (sym c.in-New.is)

pub is_part_value-returns-in-Read : goal.is_part_value-returns-in-Read
is_part_value-returns-in-Read t c =
    let records = c.args.table.now.records.now in
    let n = c.args.number in
    let i = c.in-Read in
    c.is_part.ensures ∙ ap (λ o. may_be_part o records) (c.copied_from.ensures ∙ sym (read_copied n i.name i.ty) ∙ ap (λ (x : Expr). copied n (value_code x)) (sym i.is))
