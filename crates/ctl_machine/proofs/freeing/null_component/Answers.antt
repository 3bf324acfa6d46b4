use Rattle.std.proofs.Common.{◌≡◌, ◌+◌, ◌∙◌, [], ◌∷◌, List, None, ap, arith, refl, subst, sym, true}
use Rattle.std.specs.Prelude.{IfSome}
use Rattle.ctl_meaning.specs.Objects.{object_in}
use Rattle.ctl_meaning.specs.World.{Object}
use Rattle.ctl_objects.specs.Order as Order
use Rattle.ctl_storage.specs.Allocated.{place_of}
use Rattle.ctl_code.specs.Table.{freed_by, return_to, says_failed}
use Rattle.ctl_places.specs.Freeing.{Gone, IsGone, calls_back}
use Rattle.ctl_engine.specs.Moves.{Makes}
use Rattle.ctl_engine.specs.Shows.{kept, tried_of}
use Rattle.ctl_engine.proofs.Following.{makes_later}
use Rattle.ctl_engine.proofs.Foreign.{foreign_allocated, forgotten}
use Rattle.ctl_places.proofs.Freed.{called_before, ending_kept}
use Rattle.ctl_allocations.proofs.FreedPart.{null_called, null_inside, null_written, part_gone, part_made, part_stops, with_null}
use Rattle.ctl_engine.proofs.Owned.{none_there, some_there}
use Rattle.ctl_engine.proofs.Stocked.{stocked, with_stock}
use Rattle.ctl_machine.proofs.freeing.null_component.Goals as goal

pub returns-then-not-exists : goal.returns-then-not-exists
returns-then-not-exists g c =
    let old = c.args.engine.now in
    let y = c.args.ending in
    let at = c.args.component.object in
    let t = g.t.0 in
    let part = g.t.1 in
    let same = c.requires.1.1.0 in
    let none : object_in at old.stock.objects ≡ None = none_there (object_in at old.stock.objects) (sym c.exists.ensures ∙ c.if-not-exists.true) in
    part_stops c.args.code.now old _ c.args.object (place_of y.storage.place) y.storage.units (says_failed (tried_of y.ended)) part y.place t c.requires.1.0 (ap (λ n. object_in n old.stock.objects) (sym same.0) ∙ none) refl refl refl refl

pub forget-requires : goal.forget-requires
forget-requires g c =
    let code = c.args.code.now in
    let old = c.args.engine.now in
    let t = g.t.0 in
    let part = g.t.1 in
    let lets = c.requires.1.0 in
    let same = c.requires.1.1.0 in
    let e = with_null part (kept old) in
    let written : c.write_part.new.self.objects ≡ e.objects = null_written c.write_part.new.self.objects old.stock.objects old.stock.objects c.args.component.object (c.args.component.start + c.args.component.offset) part c.write_part.ensures.objects same.0 same.1 refl in
    let i = null_inside code (kept old) lets.goes.first.stack t.control t.point.operands t.world part lets.goes.first.inside in
    subst (λ (l : List Object). IfSome (object_in c.args.object l) (λ o. Order.IsAllocated o.origin)) (sym written)
    (foreign_allocated c.args.object (old.numbered.objects + 1) e.objects old.owned.items i.holds.owns lets.foreign)

pub return_storage-requires : goal.return_storage-requires
return_storage-requires g c =
    let code = c.args.code.now in
    let old = c.args.engine.now in
    let y = c.args.ending in
    let t = g.t.0 in
    let part = g.t.1 in
    let lets = c.requires.1.0 in
    let same = c.requires.1.1.0 in
    let e = with_null part (kept old) in
    let written : c.write_part.new.self.objects ≡ e.objects = null_written c.write_part.new.self.objects old.stock.objects old.stock.objects c.args.component.object (c.args.component.start + c.args.component.offset) part c.write_part.ensures.objects same.0 same.1 refl in
    let nulled : with_stock c.write_part.new.self (kept old) ≡ e = stocked (kept old) c.write_part.new.self e.objects written c.write_part.ensures.same in
    let i = null_inside code (kept old) lets.goes.first.stack t.control t.point.operands t.world part lets.goes.first.inside in
    let f = c.forget in (
      c.requires.0,
      (
        subst (λ (z : Gone). IsGone code (record old { stock = f.new.self }) y.place z) (sym c.requires.1.1.1.0) (part_gone code old _ c.args.object y.place part t c.write_part.new.self lets nulled refl f.ensures.objects f.ensures.same f.ensures.pools),
        ending_kept code old _ y c.requires.1.1.1.1 refl refl refl refl refl (omega arith) refl
            (λ called. sym (null_called code y.storage.place part.object part.offset (0 ∷ []) old.stock.objects) ∙ called_before code y.storage.place c.args.object e.objects i.holds.owns.apart (subst (λ (l : List Object). calls_back code y.storage.place l ≡ true) (f.ensures.objects ∙ ap (λ (l : List Object). forgotten c.args.object l) written) called)),
      ),
    )

pub returns : goal.returns
returns g c =
    let old = c.args.engine.now in
    let y = c.args.ending in
    let at = c.args.component.object in
    let t = g.t.0 in
    let part = g.t.1 in
    let same = c.requires.1.1.0 in
    let some = some_there (object_in at old.stock.objects) (sym c.exists.ensures ∙ c.if-not-exists.false) in
    let code = c.args.code.now in
    let new = c.return_storage.new.engine in
    let lies = place_of y.storage.place in
    let units = y.storage.units in
    let failed = says_failed (tried_of y.ended) in
    let made = makes_later code old _ new _ refl refl c.return_storage.ensures in
    part_made code old new c.args.object lies units failed part y.place t some.0 c.requires.1.0 (ap (λ n. object_in n old.stock.objects) (sym same.0) ∙ some.1)
    (subst (λ (z : Gone). Makes code old new (freed_by code units failed (return_to code lies z.world) z.point z.control z.world)) c.requires.1.1.1.0 made)
