use Rattle.std.proofs.Common.{sym, ap, ◌∙◌, map, Option, Some, None}
use Rattle.ctl_program.specs.declared.statement.Stmt.{Stmt}
use Rattle.ctl_typing.specs.Judgement.{Judgement, known}
use Rattle.ctl_typing.specs.Senses.{suffix_sense}
use Rattle.ctl_typing.specs.Typing.{sense}
use Rattle.ctl_statements.specs.declared.assignments.Source.{Source}
use Rattle.ctl_statements.specs.declared.assignments.Target.{Target}
use Rattle.ctl_statements.specs.Statements as spec
use Rattle.ctl_statements.proofs.Stages.{following_then}
use Rattle.ctl_statements.proofs.assignments.assignment.Goals as goal

abbrev made : Target × Source → Judgement Stmt
made r = known (spec.assigning r.0.name r.1)

pub returns-in-Some-2 : goal.returns-in-Some-2
returns-in-Some-2 c =
    let tables = c.args.tables.now in
    let to = c.args.to.now in
    let x = sense c.args.x.now in
    let middle = c.written_to.new.notes in
    let ended = c.written.new.notes in
    following_then (spec.target tables to.first (map suffix_sense to.suffixes)) (λ (t : Option Target). spec.source tables (spec.type_of_target t) x) made c.args.notes.now middle ended (Some c.in-Some.target) (Some c.in-Some-2.source)
    (c.in_ok-target.ensures ∙ ap (λ t. (t, middle)) c.in-Some.is) (c.in_ok-source.ensures ∙ ap (λ s. (s, ended)) c.in-Some-2.is)
    ∙ ap (λ s. (Some s, ended)) (sym c.assigning.ensures)

pub returns-in-None : goal.returns-in-None
returns-in-None c =
    let tables = c.args.tables.now in
    let to = c.args.to.now in
    let x = sense c.args.x.now in
    let middle = c.written_to.new.notes in
    let ended = c.written.new.notes in
    following_then (spec.target tables to.first (map suffix_sense to.suffixes)) (λ (t : Option Target). spec.source tables (spec.type_of_target t) x) made c.args.notes.now middle ended (Some c.in-Some.target) None
    (c.in_ok-target.ensures ∙ ap (λ t. (t, middle)) c.in-Some.is) (c.in_ok-source.ensures ∙ ap (λ s. (s, ended)) c.in-None.is)

pub returns-in_default : goal.returns-in_default
returns-in_default c =
    let tables = c.args.tables.now in
    let to = c.args.to.now in
    let x = sense c.args.x.now in
    let middle = c.written_to.new.notes in
    following_then (spec.target tables to.first (map suffix_sense to.suffixes)) (λ (t : Option Target). spec.source tables (spec.type_of_target t) x) made c.args.notes.now middle c.value_source.new.notes None c.in_ok-value_source.field-0
    (c.in_ok-target.ensures ∙ ap (λ t. (t, middle)) c.in_default.is) c.in_ok-value_source.ensures
