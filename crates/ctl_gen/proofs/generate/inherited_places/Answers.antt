use Rattle.std.proofs.Common.{◌≡◌, ◌∙◌, List, ℕ, Some, None, ap, length, map, refl, subst, sym, IfOk}
use Rattle.std.specs.Prelude.{slice_get}
use Rattle.std.proofs.lemmas.Bool.{ltb-false}
use Rattle.std.proofs.lemmas.Option.{slice_get_past, slice_get_read}
use Rattle.ctl_code.specs.declared.code.Defaults.{Defaults}
use Rattle.ctl_layout.specs.Layout as spec
use Rattle.ctl_emit.proofs.EmittedDefaults.{no_row_inherited, row_inherited}
use Rattle.ctl_gen.proofs.generate.inherited_places.Goals as goal

pub returns-in-Some-get : goal.returns-in-Some-get
returns-in-Some-get c =
    let rows = c.args.rows.now in
    let parent = c.in-Some.parent in
    let row = c.in-Some-get.row.now in
    let places = λ (x : Defaults). x.places.items in
    let read = c.in-Some-get.ensures.lookup in
    let found : slice_get rows parent ≡ Some row = slice_get_read rows (length rows) parent row refl read.3.0 read.1 in
    let same : c.as_slice.result.now ≡ spec.inherited_places (map places rows) c.args.parent = c.as_slice.ensures.value ∙ (sym (row_inherited rows parent row found) ∙ ap (λ o. spec.inherited_places (map places rows) o) (sym c.in-Some.is)) in
    subst (λ (l : List ℕ). IfOk c.from_slice.result (λ x. x.items ≡ l)) same c.from_slice.ensures.items

pub returns-in-None : goal.returns-in-None
returns-in-None c =
    let rows = c.args.rows.now in
    let parent = c.in-Some.parent in
    let places = λ (x : Defaults). x.places.items in
    let none : slice_get rows parent ≡ None = slice_get_past rows parent (ltb-false parent (length rows) (sym c.in-None.ensures.lookup.0)) in
    c.new-in-None.ensures.items ∙ (sym (no_row_inherited rows parent none) ∙ ap (λ o. spec.inherited_places (map places rows) o) (sym c.in-Some.is))
