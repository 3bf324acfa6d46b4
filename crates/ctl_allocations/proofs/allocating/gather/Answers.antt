use Rattle.std.proofs.Common.{◌≡◌, ◌∙◌, List, Some, ap, arith, refl}
use Rattle.std.specs.Prelude.{slice_get}
use Rattle.std.proofs.lemmas.Option.{slice_get_within}
use Rattle.ctl_code.specs.declared.code.AccessHome.{AccessHome}
use Rattle.ctl_frames.specs.declared.frame.Owned.{Owned}
use Rattle.ctl_places.specs.Gathering.{with_set}
use Rattle.ctl_engine.specs.Shows.{kept}
use Rattle.ctl_frames.proofs.Links.{got}
use Rattle.ctl_engine.proofs.Newborn.{some_masters}
use Rattle.ctl_allocations.proofs.NewSet.{gather_makes, gathers}
use Rattle.ctl_allocations.proofs.allocating.gather.Goals as goal

pub newest-newest-requires : goal.newest-newest-requires
newest-newest-requires g c = let b = c.requires.1.0 in some_masters c.args.code.now c.args.engine.now b.stack g.s b.inside

pub index-requires : goal.index-requires
index-requires g c =
    let access = c.requires.1.0.fine.0 in
    let within = slice_get_within c.args.code.now.accesses.items c.args.access access.0 access.1 in
    let many = c.args.code.now.accesses.ok.1 in
    omega (arith, within, many)

pub add_set-requires-clause-cell : goal.add_set-requires-clause-cell
add_set-requires-clause-cell g c =
    let b = c.requires.1.0 in
    (gathers c.args.code.now c.args.engine.now b.stack c.index.result.now.collection.slot c.args.count g.s c.newest-newest.result b.inside (b.fine.0.0.collection.slot, b.fine.0.3) c.newest-newest.ensures.last).within

pub returns-clause-ok : goal.returns-clause-ok
returns-clause-ok g c =
    let code = c.args.code.now in
    let old = c.args.engine.now in
    let b = c.requires.1.0 in
    let access = b.fine.0 in
    let v : AccessHome = c.index.result.now in
    let m = c.newest-newest.result in
    let found : slice_get code.accesses.items c.args.access ≡ Some v = got code.accesses.items c.args.access v (slice_get_within code.accesses.items c.args.access access.0 access.1) c.index.ensures in
    gather_makes code old _ c.args.access c.args.count c.args.place v g.s m b found c.newest-newest.ensures.last refl
    (c.add_set.ensures.kept ∙ ap (λ (l : List Owned). with_set m v.collection.slot c.args.count (record (kept old) { owned = l })) c.in_ok-reserve.ensures.items)
    (ap (λ x. x.items) c.add_set.ensures.events) (ap (λ x. x.items) c.add_set.ensures.picks)
