use Rattle.std.proofs.Common.{◌∙◌, ◌++◌, [], List, Option, ap, arith, length, refl, subst, sym, ℕ}
use Rattle.std.specs.Prelude.{is_some}
use Rattle.std.specs.Option.{option_map_or}
use Rattle.std.proofs.lemmas.List.{append-nil}
use Rattle.ctl_meaning.specs.World.{Object}
use Rattle.ctl_meaning.specs.Objects.{cells_at, object_in}
use Rattle.ctl_objects.specs.declared.declarations.Declaration.{Declaration}
use Rattle.ctl_objects.specs.Declarations.{Lacks, object_of}
use Rattle.ctl_objects.proofs.Found.{lacking}
use Rattle.ctl_objects.proofs.Laid.{lies_within}
use Rattle.ctl_objects.proofs.Kept.{IsAt, at_read, found_at, saved_here}
use Rattle.ctl_objects.proofs.declarations.Declarations.save.Goals as goal

pub save_cells-requires-clause-lies : goal.save_cells-requires-clause-lies
save_cells-requires-clause-lies c =
    let os = c.self.inside.objects.items in
    let at = c.in-Some.at in
    let i = subst (λ (l : List Declaration). IsAt l c.args.number at) c.as_slice.ensures.value c.in-Some.ensures.some in
    let found = (at_read os c.args.number at c.index-object.result.now i c.index-object.ensures).0 in
    let lies = lies_within os at 0 (length c.self.inside.cells.items) c.index-object.result.now c.self.invariant.laid found in
    let same = ap (λ (l : List ℕ). length l) c.as_slice-in-Some.ensures.value in
    omega (arith, lies, same)

pub returns-in-Some-clause-exists : goal.returns-in-Some-clause-exists
returns-in-Some-clause-exists c =
    let os = c.self.inside.objects.items in
    let cells = c.self.inside.cells.items in
    let i = subst (λ (l : List Declaration). IsAt l c.args.number c.in-Some.at) c.as_slice.ensures.value c.in-Some.ensures.some in
    sym (ap (λ (o : Option Object). is_some o) (found_at os cells (length cells) c.args.number c.in-Some.at c.self.invariant i))
    ∙ ap (λ (l : List Object). is_some (object_in c.args.number l)) c.self.view_is

pub returns-in-Some-clause-items : goal.returns-in-Some-clause-items
returns-in-Some-clause-items c =
    let a = c.args in
    let os = c.self.inside.objects.items in
    let cells = c.self.inside.cells.items in
    let at = c.in-Some.at in
    let r = c.index-object.result.now in
    let i = subst (λ (l : List Declaration). IsAt l a.number at) c.as_slice.ensures.value c.in-Some.ensures.some in
    let found = at_read os a.number at r i c.index-object.ensures in
    let items = a.saved.now.items in
    c.save_cells.ensures
    ∙ ap (λ (l : List ℕ). items ++ l)
    (ap (λ (l : List ℕ). cells_at a.start a.count (object_of l r)) c.as_slice-in-Some.ensures.value
    ∙ (saved_here os cells a.number at r a.start a.count c.self.invariant found.0 found.1
    ∙ ap (λ (l : List Object). option_map_or (cells_at a.start a.count) (object_in a.number l) []) c.self.view_is))

pub returns-in-None-clause-exists : goal.returns-in-None-clause-exists
returns-in-None-clause-exists c =
    let lacks = subst (λ (l : List Declaration). Lacks c.args.number l) c.as_slice.ensures.value (c.in-None.ensures.none refl) in
    sym (ap (λ (o : Option Object). is_some o) (lacking c.self.inside.cells.items c.self.inside.objects.items c.args.number lacks))
    ∙ ap (λ (l : List Object). is_some (object_in c.args.number l)) c.self.view_is

pub returns-in-None-clause-items : goal.returns-in-None-clause-items
returns-in-None-clause-items c =
    let a = c.args in
    let items = a.saved.now.items in
    let lacks = subst (λ (l : List Declaration). Lacks a.number l) c.as_slice.ensures.value (c.in-None.ensures.none refl) in
    sym (append-nil items)
    ∙ ap (λ (l : List ℕ). items ++ l)
    (ap (λ (o : Option Object). option_map_or (cells_at a.start a.count) o []) (sym (lacking c.self.inside.cells.items c.self.inside.objects.items a.number lacks))
    ∙ ap (λ (l : List Object). option_map_or (cells_at a.start a.count) (object_in a.number l) []) c.self.view_is)
