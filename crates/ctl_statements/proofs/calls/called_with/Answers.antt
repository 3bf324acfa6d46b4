use Rattle.std.proofs.Common.{◌≡◌, refl, sym, ap, ◌∙◌, false, List, [], ◌∷◌, length, map, Some}
use Rattle.std.proofs.lemmas.Bool.{false≢true}
use Rattle.std.specs.Bool.{◌==◌}
use Rattle.ctl_syntax.specs.declared.denoted.LibraryName.{LibraryName}
use Rattle.ctl_syntax.specs.declared.denoted.LibraryName.TheVariants as library
use Rattle.ctl_syntax.specs.declared.denoted.Use.{Use}
use Rattle.ctl_syntax.specs.declared.expression.Expression.{Expression}
use Rattle.ctl_tree.specs.declared.fault.FaultCode.TheVariants as rule
use Rattle.ctl_tree.specs.declared.span.Span.{Span}
use Rattle.ctl_typing.specs.Judgement.{wrong}
use Rattle.ctl_typing.specs.Typing.{Sense, sense}
use Rattle.ctl_typing.specs.declared.notes.Notes.{Notes}
use Rattle.ctl_typing.specs.declared.table.Tables.{Tables}
use Rattle.ctl_typing.proofs.Stages.{judged_as}
use Rattle.ctl_statements.specs.Statements as spec
use Rattle.ctl_statements.proofs.Stages.{none_more}
use Rattle.ctl_statements.proofs.calls.called_with.Goals as goal

-- no procedure of the library takes two actuals
of_two : (tables : Tables) (place : Span) (l : LibraryName) (x y : Sense) (ys : List Sense) (n : Notes) → spec.library_with tables place l (Some (x ∷ y ∷ ys)) n ≡ wrong rule.Type place n
of_two tables place library.NewLine x y ys n = refl
of_two tables place library.Put x y ys n = refl
of_two tables place library.PutLine x y ys n = refl
of_two tables place library.UncheckedDeallocateSubpool x y ys n = refl
of_two tables place l x y ys n = refl

several : (tables : Tables) (place : Span) (l : LibraryName) (x : Sense) (more : List (Expression Use)) (n : Notes) → (length more == 0) ≡ false → spec.library_with tables place l (Some (x ∷ map sense more)) n ≡ wrong rule.Type place n
several tables place l x [] n some = absurd (false≢true (sym some))
several tables place l x (y ∷ ys) n some = of_two tables place l x (sense y) (map sense ys) n

pub returns-in-Library : goal.returns-in-Library
returns-in-Library c =
    let tables = c.args.tables.now in
    let place = c.args.place in
    let x = sense c.args.first.now in
    let xs = x ∷ map sense c.args.more.now in
    let start = c.args.notes.now in
    let name = c.in-Library.name in
    let alone = none_more c.args.more.now (sym c.is_empty.ensures ∙ c.if-is_empty.true) in
    judged_as (spec.called_by tables place c.args.denoted (Some xs)) (spec.library_with tables place name (Some (x ∷ []))) start start c.library_with.new.notes c.library_with.result
    (ap (λ d. spec.called_by tables place d (Some xs) start) c.in-Library.is ∙ ap (λ ms. spec.library_with tables place name (Some (x ∷ map sense ms)) start) alone)
    c.library_with.ensures

pub returns-in_default : goal.returns-in_default
returns-in_default c =
    let tables = c.args.tables.now in
    let place = c.args.place in
    let x = sense c.args.first.now in
    let more = c.args.more.now in
    let start = c.args.notes.now in
    let name = c.in-Library.name in
    ap (λ d. spec.called_by tables place d (Some (x ∷ map sense more)) start) c.in-Library.is
    ∙ several tables place name x more start (sym c.is_empty.ensures ∙ c.if-is_empty.false)
    ∙ c.wrong.ensures
