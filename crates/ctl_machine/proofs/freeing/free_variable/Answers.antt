use Rattle.std.proofs.Common.{subst}
use Rattle.std.proofs.lemmas.Option.{slice_get_within}
use Rattle.ctl_engine.specs.declared.freeing.Fate.{Fate}
use Rattle.ctl_engine.specs.declared.freeing.Fate.TheVariants as FateOf
use Rattle.ctl_places.specs.Freeing.{IsFate, by_variable, point_of}
use Rattle.ctl_places.proofs.Freed.{fate_goes, fate_makes, stays_makes}
use Rattle.ctl_allocations.proofs.FreedPart.{variable_some}
use Rattle.ctl_frames.proofs.Links.{got}
use Rattle.ctl_engine.proofs.Steps.{on_ok}
use Rattle.ctl_machine.proofs.freeing.free_variable.Goals as goal

pub returns-in-Stops-clause-ok : goal.returns-in-Stops-clause-ok
returns-in-Stops-clause-ok g c =
    let code = c.args.code.now in
    let old = c.args.engine.now in
    let new = c.go_on-in-Stops.new.self in
    let access = c.args.access in
    let place = c.args.place in
    let n = c.read_variable-object.result in
    let s = g.s in
    let b = c.requires.1.0 in
    let a = c.index.result.now in
    let has = b.fine.0 in
    let found = got code.accesses.items access a (slice_get_within code.accesses.items access has.0 has.1) c.index.ensures in
    let is = subst (λ (x : Fate). IsFate code a.collection n old.owned.items s x) c.in-Stops.is c.fate-found.ensures.fate in
    variable_some code old new access c.args.out c.args.slot place n s c.read_variable-object.ensures c.if-object-eq0.false
    (fate_makes code old new access n a (by_variable c.args.out c.args.slot place s) old.owned.items (FateOf.Stops c.in-Stops.stop) found is
    (stays_makes code old new c.in-Stops.stop s.control s.operands s.world b.inside.holds c.go_on-in-Stops.ensures))

pub returns-in-Goes-clause-ok : goal.returns-in-Goes-clause-ok
returns-in-Goes-clause-ok g c =
    let code = c.args.code.now in
    let old = c.args.engine.now in
    let new = c.free_at_once_by_variable.new.engine in
    let access = c.args.access in
    let place = c.args.place in
    let n = c.read_variable-object.result in
    let s = g.s in
    let b = c.requires.1.0 in
    let a = c.index.result.now in
    let has = b.fine.0 in
    let found = got code.accesses.items access a (slice_get_within code.accesses.items access has.0 has.1) c.index.ensures in
    let is = subst (λ (x : Fate). IsFate code a.collection n old.owned.items s x) c.in-Goes.is c.fate-found.ensures.fate in
    let t = by_variable c.args.out c.args.slot place s in
    on_ok c.free_at_once_by_variable.result
    (λ made. variable_some code old new access c.args.out c.args.slot place n s c.read_variable-object.ensures c.if-object-eq0.false
    (fate_makes code old new access n a t old.owned.items FateOf.Goes found is
    (fate_goes code old new n t.nulled c.fate-found.result.storage _ _ (point_of t) s.control s.world c.fate-found.ensures.storage made)))
    c.free_at_once_by_variable.ensures.ok

pub returns-in-Finalizes-clause-ok : goal.returns-in-Finalizes-clause-ok
returns-in-Finalizes-clause-ok g c =
    let code = c.args.code.now in
    let old = c.args.engine.now in
    let new = c.release_by_variable.new.engine in
    let access = c.args.access in
    let place = c.args.place in
    let n = c.read_variable-object.result in
    let s = g.s in
    let b = c.requires.1.0 in
    let a = c.index.result.now in
    let has = b.fine.0 in
    let found = got code.accesses.items access a (slice_get_within code.accesses.items access has.0 has.1) c.index.ensures in
    let is = subst (λ (x : Fate). IsFate code a.collection n old.owned.items s x) c.in-Finalizes.is c.fate-found.ensures.fate in
    on_ok c.release_by_variable.result
    (λ made. variable_some code old new access c.args.out c.args.slot place n s c.read_variable-object.ensures c.if-object-eq0.false
    (fate_makes code old new access n a (by_variable c.args.out c.args.slot place s) old.owned.items (FateOf.Finalizes c.in-Finalizes.record_type) found is made))
    c.release_by_variable.ensures.ok
