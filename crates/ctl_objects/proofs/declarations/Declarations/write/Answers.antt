use Rattle.std.proofs.Common.{◌≡◌, ◌∙◌, ◌+◌, [], ◌∷◌, List, Option, ap, arith, length, map, refl, subst, sym, ℕ}
use Rattle.std.specs.Prelude.{is_some}
use Rattle.std.specs.Vec.{with_items}
use Rattle.std.proofs.lemmas.List.{with_items_is}
use Rattle.ctl_meaning.specs.World.{Object}
use Rattle.ctl_meaning.specs.Objects.{change_in, object_in, with_cells}
use Rattle.ctl_objects.specs.declared.declarations.Declaration.{Declaration}
use Rattle.ctl_objects.specs.Declarations.{AreKept, Lacks, cell_written, object_of}
use Rattle.ctl_objects.proofs.Found.{lacking}
use Rattle.ctl_objects.proofs.Laid.{length_part, lies_within}
use Rattle.ctl_objects.proofs.Kept.{IsAt, at_read, found_at, unchanged_lacking, written_here}
use Rattle.ctl_objects.proofs.declarations.Declarations.write.Goals as goal

pub write_cell-requires : goal.write_cell-requires
write_cell-requires c =
    let os = c.self.inside.objects.items in
    let at = c.in-Some.at in
    let i = subst (λ (l : List Declaration). IsAt l c.args.number at) c.as_slice.ensures.value c.in-Some.ensures.some in
    let found = (at_read os c.args.number at c.index.result.now i c.index.ensures).0 in
    let lies = lies_within os at 0 (length c.self.inside.cells.items) c.index.result.now c.self.invariant.laid found in
    let same = ap (λ (l : List ℕ). length l) c.as_mut_slice.ensures.value in
    omega (arith, lies, same)

pub returns-in-Some-clause-exists : goal.returns-in-Some-clause-exists
returns-in-Some-clause-exists c =
    let os = c.self.inside.objects.items in
    let cells = c.self.inside.cells.items in
    let i = subst (λ (l : List Declaration). IsAt l c.args.number c.in-Some.at) c.as_slice.ensures.value c.in-Some.ensures.some in
    sym (ap (λ (o : Option Object). is_some o) (found_at os cells (length cells) c.args.number c.in-Some.at c.self.invariant i))
    ∙ ap (λ (l : List Object). is_some (object_in c.args.number l)) c.self.view_is

pub returns-in-Some-clause-written : goal.returns-in-Some-clause-written
returns-in-Some-clause-written c =
    let os = c.self.inside.objects.items in
    let v = c.self.inside.cells in
    let cells = v.items in
    let at = c.in-Some.at in
    let r = c.index.result.now in
    let offset = c.args.start + c.args.offset in
    let i = subst (λ (l : List Declaration). IsAt l c.args.number at) c.as_slice.ensures.value c.in-Some.ensures.some in
    let found = at_read os c.args.number at r i c.index.ensures in
    let row = c.write_cell.new.cells in
    let written : row ≡ cell_written r offset c.args.value cells = c.write_cell.ensures ∙ ap (λ (l : List ℕ). cell_written r offset c.args.value l) c.as_mut_slice.ensures.value in
    let long : length row ≡ length cells = ap (λ (l : List ℕ). length l) written ∙ length_part r offset c.args.value cells in
    let are : (with_items v row).items ≡ row = with_items_is v row (long ∙ sym v.ok.0) in
    ap (λ (l : List ℕ). map (object_of l) os) (are ∙ written)
    ∙ (written_here os cells c.args.number at r offset c.args.value c.self.invariant found.0 found.1
    ∙ ap (λ (l : List Object). change_in c.args.number (with_cells offset (c.args.value ∷ [])) l) c.self.view_is)

pub invariant_of-self : goal.invariant_of-self
invariant_of-self c =
    let v = c.self.inside.cells in
    let offset = c.args.start + c.args.offset in
    let row = c.write_cell.new.cells in
    let written : row ≡ cell_written c.index.result.now offset c.args.value v.items = c.write_cell.ensures ∙ ap (λ (l : List ℕ). cell_written c.index.result.now offset c.args.value l) c.as_mut_slice.ensures.value in
    let long : length row ≡ length v.items = ap (λ (l : List ℕ). length l) written ∙ length_part c.index.result.now offset c.args.value v.items in
    let are : (with_items v row).items ≡ row = with_items_is v row (long ∙ sym v.ok.0) in
    subst (λ n. AreKept c.self.inside.objects.items n) (sym (ap (λ (l : List ℕ). length l) are ∙ long)) c.self.invariant

pub returns-in-None-clause-exists : goal.returns-in-None-clause-exists
returns-in-None-clause-exists c =
    let lacks = subst (λ (l : List Declaration). Lacks c.args.number l) c.as_slice.ensures.value (c.in-None.ensures.none refl) in
    sym (ap (λ (o : Option Object). is_some o) (lacking c.self.inside.cells.items c.self.inside.objects.items c.args.number lacks))
    ∙ ap (λ (l : List Object). is_some (object_in c.args.number l)) c.self.view_is

pub returns-in-None-clause-written : goal.returns-in-None-clause-written
returns-in-None-clause-written c =
    let lacks = subst (λ (l : List Declaration). Lacks c.args.number l) c.as_slice.ensures.value (c.in-None.ensures.none refl) in
    let f = with_cells (c.args.start + c.args.offset) (c.args.value ∷ []) in
    sym c.self.view_is
    ∙ (unchanged_lacking c.self.inside.objects.items c.self.inside.cells.items c.args.number f lacks
    ∙ ap (λ (l : List Object). change_in c.args.number f l) c.self.view_is)
