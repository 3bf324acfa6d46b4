use Rattle.std.proofs.Common.{◌≡◌, ◌∙◌, List, Option, ap, arith, length, map, refl, subst, sym, ℕ}
use Rattle.std.specs.Prelude.{is_some}
use Rattle.std.specs.Vec.{with_items}
use Rattle.std.proofs.lemmas.List.{with_items_is}
use Rattle.ctl_meaning.specs.World.{Object}
use Rattle.ctl_meaning.specs.Objects.{change_in, object_in, with_cells}
use Rattle.ctl_objects.specs.declared.declarations.Declaration.{Declaration}
use Rattle.ctl_objects.specs.Declarations.{AreKept, Lacks, cells_written, object_of}
use Rattle.ctl_objects.proofs.Found.{lacking}
use Rattle.ctl_objects.proofs.Laid.{lies_within}
use Rattle.ctl_objects.proofs.Kept.{IsAt, at_read, found_at, unchanged_lacking, all_written, length_written}
use Rattle.ctl_objects.proofs.declarations.Declarations.write_all.Goals as goal

pub write_cells-requires : goal.write_cells-requires
write_cells-requires c =
    let os = c.self.inside.objects.items in
    let at = c.in-Some.at in
    let i = subst (λ (l : List Declaration). IsAt l c.args.number at) c.as_slice.ensures.value c.in-Some.ensures.some in
    let found = (at_read os c.args.number at c.index.result.now i c.index.ensures).0 in
    let lies = lies_within os at 0 (length c.self.inside.cells.items) c.index.result.now c.self.invariant.laid found in
    let same = ap (λ (l : List ℕ). length l) c.as_mut_slice.ensures.value in
    omega (arith, lies, same)

pub returns-in-Some-clause-exists : goal.returns-in-Some-clause-exists
returns-in-Some-clause-exists c =
    let os = c.self.inside.objects.items in
    let cells = c.self.inside.cells.items in
    let i = subst (λ (l : List Declaration). IsAt l c.args.number c.in-Some.at) c.as_slice.ensures.value c.in-Some.ensures.some in
    sym (ap (λ (o : Option Object). is_some o) (found_at os cells (length cells) c.args.number c.in-Some.at c.self.invariant i))
    ∙ ap (λ (l : List Object). is_some (object_in c.args.number l)) c.self.view_is

pub returns-in-Some-clause-written : goal.returns-in-Some-clause-written
returns-in-Some-clause-written c =
    let os = c.self.inside.objects.items in
    let v = c.self.inside.cells in
    let cells = v.items in
    let at = c.in-Some.at in
    let r = c.index.result.now in
    let offset = c.args.start in
    let i = subst (λ (l : List Declaration). IsAt l c.args.number at) c.as_slice.ensures.value c.in-Some.ensures.some in
    let found = at_read os c.args.number at r i c.index.ensures in
    let row = c.write_cells.new.cells in
    let written : row ≡ cells_written r offset c.args.values.now cells = c.write_cells.ensures ∙ ap (λ (l : List ℕ). cells_written r offset c.args.values.now l) c.as_mut_slice.ensures.value in
    let long : length row ≡ length cells = ap (λ (l : List ℕ). length l) written ∙ length_written r offset c.args.values.now cells in
    let are : (with_items v row).items ≡ row = with_items_is v row (long ∙ sym v.ok.0) in
    ap (λ (l : List ℕ). map (object_of l) os) (are ∙ written)
    ∙ (all_written os cells c.args.number at r offset c.args.values.now c.self.invariant found.0 found.1
    ∙ ap (λ (l : List Object). change_in c.args.number (with_cells offset c.args.values.now) l) c.self.view_is)

pub invariant_of-self : goal.invariant_of-self
invariant_of-self c =
    let v = c.self.inside.cells in
    let offset = c.args.start in
    let row = c.write_cells.new.cells in
    let written : row ≡ cells_written c.index.result.now offset c.args.values.now v.items = c.write_cells.ensures ∙ ap (λ (l : List ℕ). cells_written c.index.result.now offset c.args.values.now l) c.as_mut_slice.ensures.value in
    let long : length row ≡ length v.items = ap (λ (l : List ℕ). length l) written ∙ length_written c.index.result.now offset c.args.values.now v.items in
    let are : (with_items v row).items ≡ row = with_items_is v row (long ∙ sym v.ok.0) in
    subst (λ n. AreKept c.self.inside.objects.items n) (sym (ap (λ (l : List ℕ). length l) are ∙ long)) c.self.invariant

pub returns-in-None-clause-exists : goal.returns-in-None-clause-exists
returns-in-None-clause-exists c =
    let lacks = subst (λ (l : List Declaration). Lacks c.args.number l) c.as_slice.ensures.value (c.in-None.ensures.none refl) in
    sym (ap (λ (o : Option Object). is_some o) (lacking c.self.inside.cells.items c.self.inside.objects.items c.args.number lacks))
    ∙ ap (λ (l : List Object). is_some (object_in c.args.number l)) c.self.view_is

pub returns-in-None-clause-written : goal.returns-in-None-clause-written
returns-in-None-clause-written c =
    let lacks = subst (λ (l : List Declaration). Lacks c.args.number l) c.as_slice.ensures.value (c.in-None.ensures.none refl) in
    let f = with_cells c.args.start c.args.values.now in
    sym c.self.view_is
    ∙ (unchanged_lacking c.self.inside.objects.items c.self.inside.cells.items c.args.number f lacks
    ∙ ap (λ (l : List Object). change_in c.args.number f l) c.self.view_is)
