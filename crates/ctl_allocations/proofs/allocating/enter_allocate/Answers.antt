use Rattle.std.proofs.Common.{◌≡◌, ◌+◌, ◌<◌, ◌≤◌, ◌∷◌, ◌∙◌, [], Some, ap, arith, length, refl, subst, sym}
use Rattle.std.specs.Prelude.{slice_get, vec_capacity, vec_len}
use Rattle.std.proofs.lemmas.Option.{slice_get_within}
use Rattle.ctl_tree.specs.declared.event.Event.TheVariants.{Allocate}
use Rattle.ctl_meaning.specs.Changes.{home_of}
use Rattle.ctl_meaning.specs.Storage.{storage_actuals}
use Rattle.ctl_code.specs.declared.code.Entry.{Entry}
use Rattle.ctl_code.specs.States as T
use Rattle.ctl_code.specs.States.{AfterProcedure}
use Rattle.ctl_code.specs.Table.{call_allocate, enter_body, units_for}
use Rattle.ctl_code.specs.Valid.{storage_formals}
use Rattle.ctl_frames.specs.declared.frame.After.TheVariants as AfterOf
use Rattle.ctl_places.specs.Granting.{with_numbers}
use Rattle.ctl_engine.specs.Moves.{Makes, here_of}
use Rattle.ctl_engine.specs.Shows.{Kept, kept, with_cells}
use Rattle.ctl_places.specs.StorageCalling.{CallsStorage, StorageCall}
use Rattle.ctl_engine.proofs.Following.{makes_later}
use Rattle.ctl_frames.proofs.Links.{got}
use Rattle.ctl_frames.proofs.Lists.{same_at}
use Rattle.ctl_engine.proofs.Newborn.{place_in}
use Rattle.ctl_allocations.proofs.UserAllocates.{HasBody, allocate_body, allocate_call, call_is, calls_allocate, found_number, length_numbers, object_there, table_calls, too_large}
use Rattle.ctl_allocations.proofs.allocating.enter_allocate.Goals as goal

pub returns-then-units-gt-STORAGE_COUNT_LAST : goal.returns-then-units-gt-STORAGE_COUNT_LAST
returns-then-units-gt-STORAGE_COUNT_LAST g c =
    let units = c.units_for-units.ensures in
    let more = c.if-units-gt-STORAGE_COUNT_LAST.true in
    too_large c.args.code.now c.args.engine.now c.go_on.new.self c.args.place c.args.first (units_for c.args.code.now c.args.of) c.args.set c.args.allocate g.s.1 g.s.0 c.requires.1.0 (omega (arith, units, more)) c.go_on.ensures

pub index-requires : goal.index-requires
index-requires g c =
    let body : HasBody c.args.code.now c.args.allocate = allocate_body c.args.code.now _ c.args.allocate c.requires.0 c.requires.1.1.1.1.0 in
    let less = slice_get_within c.args.code.now.entries.items c.args.allocate body.entry body.found in
    let many = c.args.code.now.entries.ok.0 in
    omega (arith, less, many)

pub call_storage-requires : goal.call_storage-requires
call_storage-requires g c =
    let code = c.args.code.now in
    let old = c.args.engine.now in
    let s = g.s.0 in
    let o = g.s.1 in
    let f = c.args.allocate in
    let first = c.args.first in
    let asks = c.requires.1.0 in
    let operation = c.requires.1.1.1.1.0 in
    let room = c.requires.1.1.1.1.1.0 in
    let entry = c.index.result.now in
    let body : HasBody code f = allocate_body code o.ty f c.requires.0 operation in
    let found : slice_get code.entries.items f ≡ Some entry = got code.entries.items f entry (slice_get_within code.entries.items f body.entry body.found) c.index.ensures in
    let slots = subst (λ (x : Entry). storage_formals ≤ x.slots) (same_at body.entry entry (slice_get code.entries.items f) body.found found) body.slots in
    let number : o.number ≡ c.args.pool = found_number c.args.pool old.stock.objects o c.requires.1.1.1.0 in
    let part = object_there old.owned.items old.stock.objects c.args.pool c.in-Some.master o c.requires.1.1.1.0 c.in-Some.ensures.some in
    let is : kept c.put_numbers.new.engine ≡ with_cells (kept old) (with_numbers first c.args.set o.number old.cells.items) =
    c.put_numbers.ensures.goes.kept ∙ ap (λ n. with_cells (kept old) (with_numbers first c.args.set n old.cells.items)) (sym number) in
    let wide = room.cells in
    let calls = calls_allocate code old c.put_numbers.new.engine c.args.place c.units_for-units.result c.args.set f c.in-Some.master first (first + 2) entry o s asks part found slots refl (omega (arith, wide)) is in
    let same = call_is code c.args.place f c.units_for-units.result g.s.2 c.args.set o s (ap place_in asks.mode) operation c.requires.1.1.0 in
    let given = c.put_numbers.ensures.given in
    let fewer = room.number in
    let total = ap (λ (e : Kept). length e.cells) c.put_numbers.ensures.goes.kept ∙ length_numbers first c.args.set c.args.pool old.cells.items in (
      c.requires.0,
      (
        subst (λ (t : StorageCall). CallsStorage code c.put_numbers.new.engine entry c.in-Some.master (first + 2) (AfterOf.Procedure (c.args.place + 1) 2) t) (sym same) calls,
        (
          record { pool = sym number; address = refl; units = refl },
          record {
            masters = subst (λ v. vec_len v < vec_capacity v) (sym c.put_numbers.ensures.masters) room.masters;
            control = subst (λ v. vec_len v < vec_capacity v) (sym c.put_numbers.ensures.control) room.control;
            events = subst (λ v. vec_len v < vec_capacity v) (sym c.put_numbers.ensures.events) room.events;
            formals = subst (λ v. vec_len v < vec_capacity v) (sym c.put_numbers.ensures.formals) room.formals;
            cells = omega (arith, wide, total);
            number = omega (arith, given, fewer);
          },
        ),
      ),
    )

pub returns : goal.returns
returns g c =
    let code = c.args.code.now in
    let old = c.args.engine.now in
    let s = g.s.0 in
    let o = g.s.1 in
    let f = c.args.allocate in
    let u = c.units_for-units.result in
    let asks = c.requires.1.0 in
    let set = c.args.set in
    let new = c.call_storage.new.engine in
    let mid = c.put_numbers.new.engine in
    let number : o.number ≡ c.args.pool = found_number c.args.pool old.stock.objects o c.requires.1.1.1.0 in
    let same = call_is code c.args.place f u g.s.2 set o s (ap place_in asks.mode) c.requires.1.1.1.1.0 c.requires.1.1.0 in
    let made = subst (λ (t : StorageCall). Makes code mid new (enter_body (slice_get code.entries.items t.body) (Allocate c.args.pool u ∷ []) (home_of t.object.origin t.world) (storage_actuals t.object.number t.address t.units) (AfterProcedure t.copies t.point) t.control t.world)) same c.call_storage.ensures in
    let call = allocate_call c.args.place f u set o s in
    let shown = subst (λ n. Makes code mid new (enter_body (slice_get code.entries.items f) (Allocate n u ∷ []) (home_of o.origin s.world) (storage_actuals o.number 0 u) (AfterProcedure 2 call.point) s.control s.world)) (sym number) made in
    let few = c.if-units-gt-STORAGE_COUNT_LAST.false in
    subst (λ n. Makes code old new (call_allocate code n set o f s.operands (here_of c.args.place s))) c.units_for-units.ensures
    (subst (λ (m : T.Move). Makes code old new m) (sym (table_calls code u set f c.args.place o s (omega (arith, few))))
    (makes_later code old mid new _ c.put_numbers.ensures.goes.events c.put_numbers.ensures.goes.picks shown))
