use Rattle.std.proofs.Common.{◌∙◌, ◌+◌, ℕ, List, ap, arith, length, refl, subst, sym}
use Rattle.std.specs.Option.{option_map}
use Rattle.ctl_meaning.specs.World.{Object}
use Rattle.ctl_meaning.specs.Names.{scalar_of}
use Rattle.ctl_meaning.specs.Objects.{cells_at, object_in}
use Rattle.ctl_objects.specs.declared.declarations.Declaration.{Declaration}
use Rattle.ctl_objects.specs.Declarations.{Lacks, object_of}
use Rattle.ctl_objects.proofs.Found.{lacking}
use Rattle.ctl_objects.proofs.Kept.{IsAt, at_read, read_here}
use Rattle.ctl_objects.proofs.Laid.{lies_within}
use Rattle.ctl_objects.proofs.declarations.Declarations.read.Goals as goal

pub read_cell-requires : goal.read_cell-requires
read_cell-requires c =
    let os = c.self.inside.objects.items in
    let at = c.in-Some.at in
    let i = subst (λ (l : List Declaration). IsAt l c.args.number at) c.as_slice.ensures.value c.in-Some.ensures.some in
    let found = (at_read os c.args.number at c.index.result.now i c.index.ensures).0 in
    let lies = lies_within os at 0 (length c.self.inside.cells.items) c.index.result.now c.self.invariant.laid found in
    let same = ap (λ (l : List ℕ). length l) c.as_slice-in-Some.ensures.value in
    omega (arith, lies, same)

pub returns-in-Some : goal.returns-in-Some
returns-in-Some c =
    let os = c.self.inside.objects.items in
    let cells = c.self.inside.cells.items in
    let at = c.in-Some.at in
    let r = c.index.result.now in
    let offset = c.args.start + c.args.offset in
    let i = subst (λ (l : List Declaration). IsAt l c.args.number at) c.as_slice.ensures.value c.in-Some.ensures.some in
    let found = at_read os c.args.number at r i c.index.ensures in
    read_here os cells c.args.number at r offset c.read_cell.result c.self.invariant found.0 found.1
    (c.read_cell.ensures ∙ ap (λ (l : List ℕ). scalar_of (cells_at offset 1 (object_of l r))) c.as_slice-in-Some.ensures.value)
    ∙ ap (λ (l : List Object). option_map (λ o. scalar_of (cells_at offset 1 o)) (object_in c.args.number l)) c.self.view_is

pub returns-in-None : goal.returns-in-None
returns-in-None c =
    let os = c.self.inside.objects.items in
    let offset = c.args.start + c.args.offset in
    let lacks = subst (λ (l : List Declaration). Lacks c.args.number l) c.as_slice.ensures.value (c.in-None.ensures.none refl) in
    ap (option_map (λ (o : Object). scalar_of (cells_at offset 1 o))) (sym (lacking c.self.inside.cells.items os c.args.number lacks))
    ∙ ap (λ (l : List Object). option_map (λ o. scalar_of (cells_at offset 1 o)) (object_in c.args.number l)) c.self.view_is
