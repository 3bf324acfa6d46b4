use Rattle.std.proofs.Common.{ap, subst}
use Rattle.std.proofs.lemmas.Option.{slice_get_within}
use Rattle.ctl_meaning.specs.Finalization.{Spot}
use Rattle.ctl_engine.specs.declared.freeing.Fate.{Fate}
use Rattle.ctl_engine.specs.declared.freeing.Fate.TheVariants as FateOf
use Rattle.ctl_places.specs.Freeing.{IsFate, by_component, point_of}
use Rattle.ctl_places.proofs.Freed.{fate_goes, fate_makes, stays_makes}
use Rattle.ctl_frames.proofs.Links.{got}
use Rattle.ctl_engine.proofs.Steps.{on_ok}
use Rattle.ctl_machine.proofs.freeing.free_designated.Goals as goal

pub free_at_once_by_part-requires : goal.free_at_once_by_part-requires
free_at_once_by_part-requires g c =
    let a = c.index.result.now in
    let is = subst (λ (x : Fate). IsFate c.args.code.now a.collection c.args.object c.args.engine.now.owned.items g.s.0 x) c.in-Goes.is c.fate-found.ensures.fate in
    let b = c.requires.1.0 in
    let r = c.requires.1.1 in
    (c.requires.0, ((c.args.access, b.0, c.args.position, b.1), (is.may, (r.0, (r.1.0, (ap (λ (x : Spot). x.object) r.1.1, ap (λ (x : Spot). x.offset) r.1.1))))))

pub release_by_part-requires : goal.release_by_part-requires
release_by_part-requires g c =
    let a = c.index.result.now in
    let is = subst (λ (x : Fate). IsFate c.args.code.now a.collection c.args.object c.args.engine.now.owned.items g.s.0 x) c.in-Finalizes.is c.fate-found.ensures.fate in
    let b = c.requires.1.0 in
    (c.requires.0, ((c.args.access, b.0, b.1), (record { may = is.may; stored = c.fate-found.ensures.storage }, c.requires.1.1)))

pub returns-in-Stops-clause-ok : goal.returns-in-Stops-clause-ok
returns-in-Stops-clause-ok g c =
    let code = c.args.code.now in
    let old = c.args.engine.now in
    let new = c.go_on.new.self in
    let access = c.args.access in
    let place = c.args.place in
    let n = c.args.object in
    let s = g.s.0 in
    let b = c.requires.1.0.1 in
    let a = c.index.result.now in
    let has = b.fine.0 in
    let found = got code.accesses.items access a (slice_get_within code.accesses.items access has.0 has.1) c.index.ensures in
    let is = subst (λ (x : Fate). IsFate code a.collection n old.owned.items s x) c.in-Stops.is c.fate-found.ensures.fate in
    fate_makes code old new access n a (by_component g.s.1 place s) old.owned.items (FateOf.Stops c.in-Stops.stop) found is
    (stays_makes code old new c.in-Stops.stop s.control s.operands s.world b.inside.holds c.go_on.ensures)

pub returns-in-Goes-clause-ok : goal.returns-in-Goes-clause-ok
returns-in-Goes-clause-ok g c =
    let code = c.args.code.now in
    let old = c.args.engine.now in
    let new = c.free_at_once_by_part.new.engine in
    let access = c.args.access in
    let place = c.args.place in
    let n = c.args.object in
    let s = g.s.0 in
    let b = c.requires.1.0.1 in
    let a = c.index.result.now in
    let has = b.fine.0 in
    let found = got code.accesses.items access a (slice_get_within code.accesses.items access has.0 has.1) c.index.ensures in
    let is = subst (λ (x : Fate). IsFate code a.collection n old.owned.items s x) c.in-Goes.is c.fate-found.ensures.fate in
    let t = by_component g.s.1 place s in
    on_ok c.free_at_once_by_part.result
    (λ made. fate_makes code old new access n a t old.owned.items FateOf.Goes found is
    (fate_goes code old new n t.nulled c.fate-found.result.storage _ _ (point_of t) s.control s.world c.fate-found.ensures.storage made))
    c.free_at_once_by_part.ensures.ok

pub returns-in-Finalizes-clause-ok : goal.returns-in-Finalizes-clause-ok
returns-in-Finalizes-clause-ok g c =
    let code = c.args.code.now in
    let old = c.args.engine.now in
    let new = c.release_by_part.new.engine in
    let access = c.args.access in
    let place = c.args.place in
    let n = c.args.object in
    let s = g.s.0 in
    let b = c.requires.1.0.1 in
    let a = c.index.result.now in
    let has = b.fine.0 in
    let found = got code.accesses.items access a (slice_get_within code.accesses.items access has.0 has.1) c.index.ensures in
    let is = subst (λ (x : Fate). IsFate code a.collection n old.owned.items s x) c.in-Finalizes.is c.fate-found.ensures.fate in
    on_ok c.release_by_part.result
    (λ made. fate_makes code old new access n a (by_component g.s.1 place s) old.owned.items (FateOf.Finalizes c.in-Finalizes.record_type) found is made)
    c.release_by_part.ensures.ok
