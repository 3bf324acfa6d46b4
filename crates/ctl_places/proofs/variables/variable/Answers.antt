use Rattle.std.proofs.Common.{◌+◌, arith, inr}
use Rattle.std.proofs.lemmas.Option.{slice_get_within}
use Rattle.ctl_frames.specs.Masters.{heads_of, first_display}
use Rattle.ctl_engine.specs.Shows.{kept}
use Rattle.ctl_engine.proofs.Values.{variable_read}
use Rattle.ctl_engine.proofs.Reached.{there_read, linked_in, among_of, far_variable}
use Rattle.ctl_places.proofs.variables.variable.Goals as goal

pub master_out-requires : goal.master_out-requires
master_out-requires g c = linked_in c.args.code.now c.args.engine.now g.s.control g.s.operands g.s.world c.requires

pub index-master-requires : goal.index-master-requires
index-master-requires g c =
    let there = c.in_ok-place.ensures.there in
    let less = slice_get_within c.args.engine.now.masters.items c.in_ok-place.place there.0 there.1 in
    let many = c.args.engine.now.masters.ok.1 in
    omega (arith, less, many)

pub returns-then-slot-master-clause-none : goal.returns-then-slot-master-clause-none
returns-then-slot-master-clause-none g c = λ t.
    let there = there_read c.args.engine.now.masters.items c.in_ok-place.place c.args.out (first_display (heads_of g.s.world.activations)) c.index-master.result.now c.in_ok-place.ensures.there c.index-master.ensures in
    inr (record { master = c.index-master.result.now; among = among_of c.args.engine.now.masters.items c.in_ok-place.place c.index-master.result.now there.0; number = there.1; beyond = omega (arith, c.if-slot-master.true) })

pub overflow_add-result : goal.overflow_add-result
overflow_add-result g c =
    let there = there_read c.args.engine.now.masters.items c.in_ok-place.place c.args.out (first_display (heads_of g.s.world.activations)) c.index-master.result.now c.in_ok-place.ensures.there c.index-master.ensures in
    let m = c.index-master.result.now in
    let v = far_variable (first_display (heads_of g.s.world.activations)) c.args.out c.args.slot c.in_ok-place.place c.args.engine.now.masters.items m there.0 there.1 (omega (arith, c.if-slot-master.false)) in
    let read = variable_read c.args.code.now (kept c.args.engine.now) g.s.control g.s.operands g.s.world (first_display (heads_of g.s.world.activations)) c.args.out c.args.slot (m.base + c.args.slot) c.requires v in
    let less = slice_get_within c.args.engine.now.cells.items (m.base + c.args.slot) _ read in
    let bound = c.args.engine.now.cells.ok.0 in
    omega (arith, less, bound)

pub returns-clause-there : goal.returns-clause-there
returns-clause-there g c =
    let there = there_read c.args.engine.now.masters.items c.in_ok-place.place c.args.out (first_display (heads_of g.s.world.activations)) c.index-master.result.now c.in_ok-place.ensures.there c.index-master.ensures in
    far_variable (first_display (heads_of g.s.world.activations)) c.args.out c.args.slot c.in_ok-place.place c.args.engine.now.masters.items c.index-master.result.now there.0 there.1 (omega (arith, c.if-slot-master.false))
