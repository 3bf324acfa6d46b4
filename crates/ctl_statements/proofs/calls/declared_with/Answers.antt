use Rattle.std.proofs.Common.{sym, ap, ◌∙◌, ◌∷◌, map, Some}
use Rattle.std.specs.Option.{option_copied}
use Rattle.std.specs.List.{slice_get}
use Rattle.ctl_typing.specs.Typing.{sense}
use Rattle.ctl_typing.specs.declared.table.Entry.TheVariants as entry
use Rattle.ctl_typing.proofs.Stages.{judged_as}
use Rattle.ctl_statements.specs.Statements as spec
use Rattle.ctl_statements.proofs.Stages.{none_more}
use Rattle.ctl_statements.proofs.calls.declared_with.Goals as goal

pub returns-in-Some-Subprogram : goal.returns-in-Some-Subprogram
returns-in-Some-Subprogram c =
    let tables = c.args.tables.now in
    let place = c.args.place in
    let number = c.args.number in
    let xs = sense c.args.first.now ∷ map sense c.args.more.now in
    let start = c.args.notes.now in
    let i = c.in-Some-Subprogram in
    let found = ap (λ es. slice_get es number) (sym c.as_slice.ensures) ∙ sym c.at.ensures ∙ ap option_copied i.is ∙ ap Some i.field-0-is in
    judged_as (spec.declared_called tables place number (Some xs)) (spec.procedure_called tables place i.profile xs) start start c.procedure_called.new.notes c.procedure_called.result
    (ap (λ e. spec.declared_with tables place e (Some xs) start) found) c.procedure_called.ensures

pub returns-in-Some-Unknown : goal.returns-in-Some-Unknown
returns-in-Some-Unknown c =
    let tables = c.args.tables.now in
    let number = c.args.number in
    let xs = sense c.args.first.now ∷ map sense c.args.more.now in
    let i = c.in-Some-Unknown in
    let found = ap (λ es. slice_get es number) (sym c.as_slice.ensures) ∙ sym c.at.ensures ∙ ap option_copied i.is ∙ ap Some i.field-0-is in
    ap (λ e. spec.declared_with tables c.args.place e (Some xs) c.args.notes.now) found

pub returns-in-Some-Deallocation : goal.returns-in-Some-Deallocation
returns-in-Some-Deallocation c =
    let tables = c.args.tables.now in
    let place = c.args.place in
    let number = c.args.number in
    let x = sense c.args.first.now in
    let xs = x ∷ map sense c.args.more.now in
    let start = c.args.notes.now in
    let i = c.in-Some-Deallocation in
    let found = ap (λ es. slice_get es number) (sym c.as_slice.ensures) ∙ sym c.at.ensures ∙ ap option_copied i.is ∙ ap Some i.field-0-is in
    let alone = none_more c.args.more.now (sym c.is_empty.ensures ∙ c.if-is_empty.true) in
    judged_as (spec.declared_called tables place number (Some xs)) (spec.deallocating tables i.access x) start start c.deallocating.new.notes c.deallocating.result
    (ap (λ e. spec.declared_with tables place e (Some xs) start) found ∙ ap (λ ms. spec.declared_with tables place (Some (entry.Deallocation i.access)) (Some (x ∷ map sense ms)) start) alone)
    c.deallocating.ensures
