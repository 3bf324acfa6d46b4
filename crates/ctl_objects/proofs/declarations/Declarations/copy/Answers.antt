use Rattle.std.proofs.Common.{◌≡◌, ◌∙◌, List, Option, ap, arith, length, map, subst, sym, ℕ}
use Rattle.std.specs.Prelude.{is_some}
use Rattle.std.specs.Vec.{with_items}
use Rattle.std.proofs.lemmas.List.{with_items_is}
use Rattle.ctl_meaning.specs.World.{Object}
use Rattle.ctl_meaning.specs.Objects.{cells_at, object_in}
use Rattle.ctl_objects.specs.declared.declarations.Declaration.{Declaration}
use Rattle.ctl_objects.specs.Copies.{copied}
use Rattle.ctl_objects.specs.Declarations.{AreKept, cells_written, object_of}
use Rattle.ctl_objects.proofs.Apart.{copied_here, lie_apart}
use Rattle.ctl_objects.proofs.Kept.{IsAt, at_read, found_at, length_written}
use Rattle.ctl_objects.proofs.Laid.{lies_within}
use Rattle.ctl_objects.proofs.declarations.Declarations.copy.Goals as goal

pub copy_cells-requires-clause-from : goal.copy_cells-requires-clause-from
copy_cells-requires-clause-from c =
    let a = c.args in
    let os = c.self.inside.objects.items in
    let cells = c.self.inside.cells.items in
    let source = c.in-Some.source in
    let sink = c.in-Some-find.sink in
    let i = subst (λ (l : List Declaration). IsAt l a.from source) c.as_slice.ensures.value c.in-Some.ensures.some in
    let j = subst (λ (l : List Declaration). IsAt l a.to sink) c.as_slice-2.ensures.value c.in-Some-find.ensures.some in
    let one = at_read os a.from source c.index.result.now i c.index.ensures in
    let other = at_read os a.to sink c.index-2.result.now j c.index-2.ensures in
    let lies = lies_within os source 0 (length cells) c.index.result.now c.self.invariant.laid one.0 in
    let same = ap (λ (l : List ℕ). length l) c.as_mut_slice.ensures.value in
    omega (arith, lies, same)

pub copy_cells-requires-clause-to : goal.copy_cells-requires-clause-to
copy_cells-requires-clause-to c =
    let a = c.args in
    let os = c.self.inside.objects.items in
    let cells = c.self.inside.cells.items in
    let source = c.in-Some.source in
    let sink = c.in-Some-find.sink in
    let i = subst (λ (l : List Declaration). IsAt l a.from source) c.as_slice.ensures.value c.in-Some.ensures.some in
    let j = subst (λ (l : List Declaration). IsAt l a.to sink) c.as_slice-2.ensures.value c.in-Some-find.ensures.some in
    let one = at_read os a.from source c.index.result.now i c.index.ensures in
    let other = at_read os a.to sink c.index-2.result.now j c.index-2.ensures in
    let lies = lies_within os sink 0 (length cells) c.index-2.result.now c.self.invariant.laid other.0 in
    let same = ap (λ (l : List ℕ). length l) c.as_mut_slice.ensures.value in
    omega (arith, lies, same)

pub copy_cells-requires-clause-apart : goal.copy_cells-requires-clause-apart
copy_cells-requires-clause-apart c =
    let a = c.args in
    let os = c.self.inside.objects.items in
    let cells = c.self.inside.cells.items in
    let source = c.in-Some.source in
    let sink = c.in-Some-find.sink in
    let i = subst (λ (l : List Declaration). IsAt l a.from source) c.as_slice.ensures.value c.in-Some.ensures.some in
    let j = subst (λ (l : List Declaration). IsAt l a.to sink) c.as_slice-2.ensures.value c.in-Some-find.ensures.some in
    let one = at_read os a.from source c.index.result.now i c.index.ensures in
    let other = at_read os a.to sink c.index-2.result.now j c.index-2.ensures in
    lie_apart os source sink 0 (length cells) c.index.result.now c.index-2.result.now c.self.invariant.laid one.0 other.0 (λ same. c.requires (sym one.1 ∙ (same ∙ other.1)))

pub returns-clause-first : goal.returns-clause-first
returns-clause-first c =
    let a = c.args in
    let os = c.self.inside.objects.items in
    let cells = c.self.inside.cells.items in
    let source = c.in-Some.source in
    let sink = c.in-Some-find.sink in
    let i = subst (λ (l : List Declaration). IsAt l a.from source) c.as_slice.ensures.value c.in-Some.ensures.some in
    let j = subst (λ (l : List Declaration). IsAt l a.to sink) c.as_slice-2.ensures.value c.in-Some-find.ensures.some in
    sym (ap (λ (o : Option Object). is_some o) (found_at os cells (length cells) a.from source c.self.invariant i))
    ∙ ap (λ (l : List Object). is_some (object_in a.from l)) c.self.view_is

pub returns-clause-second : goal.returns-clause-second
returns-clause-second c =
    let a = c.args in
    let os = c.self.inside.objects.items in
    let cells = c.self.inside.cells.items in
    let source = c.in-Some.source in
    let sink = c.in-Some-find.sink in
    let i = subst (λ (l : List Declaration). IsAt l a.from source) c.as_slice.ensures.value c.in-Some.ensures.some in
    let j = subst (λ (l : List Declaration). IsAt l a.to sink) c.as_slice-2.ensures.value c.in-Some-find.ensures.some in
    sym (ap (λ (o : Option Object). is_some o) (found_at os cells (length cells) a.to sink c.self.invariant j))
    ∙ ap (λ (l : List Object). is_some (object_in a.to l)) c.self.view_is

pub returns-clause-copied : goal.returns-clause-copied
returns-clause-copied c =
    let a = c.args in
    let os = c.self.inside.objects.items in
    let cells = c.self.inside.cells.items in
    let source = c.in-Some.source in
    let sink = c.in-Some-find.sink in
    let i = subst (λ (l : List Declaration). IsAt l a.from source) c.as_slice.ensures.value c.in-Some.ensures.some in
    let j = subst (λ (l : List Declaration). IsAt l a.to sink) c.as_slice-2.ensures.value c.in-Some-find.ensures.some in
    let one = at_read os a.from source c.index.result.now i c.index.ensures in
    let other = at_read os a.to sink c.index-2.result.now j c.index-2.ensures in
    let v = c.self.inside.cells in
    let first = c.index.result.now in
    let second = c.index-2.result.now in
    let row = c.copy_cells.new.cells in
    let values = cells_at a.start a.count (object_of cells first) in
    let written : row ≡ cells_written second a.target values cells = c.copy_cells.ensures ∙ ap (λ (l : List ℕ). cells_written second a.target (cells_at a.start a.count (object_of l first)) l) c.as_mut_slice.ensures.value in
    let long : length row ≡ length cells = ap (λ (l : List ℕ). length l) written ∙ length_written second a.target values cells in
    let are : (with_items v row).items ≡ row = with_items_is v row (long ∙ sym v.ok.0) in
    ap (λ (l : List ℕ). map (object_of l) os) (are ∙ written)
    ∙ (copied_here os cells a.from a.to source sink first second a.start a.target a.count c.self.invariant one.0 one.1 other.0 other.1
    ∙ ap (λ (l : List Object). copied a.start a.to a.target a.count (object_in a.from l) l) c.self.view_is)

pub invariant_of-self : goal.invariant_of-self
invariant_of-self c =
    let a = c.args in
    let v = c.self.inside.cells in
    let first = c.index.result.now in
    let second = c.index-2.result.now in
    let row = c.copy_cells.new.cells in
    let values = cells_at a.start a.count (object_of v.items first) in
    let written : row ≡ cells_written second a.target values v.items = c.copy_cells.ensures ∙ ap (λ (l : List ℕ). cells_written second a.target (cells_at a.start a.count (object_of l first)) l) c.as_mut_slice.ensures.value in
    let long : length row ≡ length v.items = ap (λ (l : List ℕ). length l) written ∙ length_written second a.target values v.items in
    let are : (with_items v row).items ≡ row = with_items_is v row (long ∙ sym v.ok.0) in
    subst (λ n. AreKept c.self.inside.objects.items n) (sym (ap (λ (l : List ℕ). length l) are ∙ long)) c.self.invariant
