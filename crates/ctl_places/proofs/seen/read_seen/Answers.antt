use Rattle.std.proofs.Common.{◌+◌, arith, refl, sym}
use Rattle.std.specs.Prelude.{slice_get}
use Rattle.std.proofs.lemmas.Option.{slice_get_within}
use Rattle.ctl_meaning.specs.Activations.{master_of}
use Rattle.ctl_frames.specs.Masters.{first_display, heads_of}
use Rattle.ctl_engine.specs.Shows.{kept}
use Rattle.ctl_engine.proofs.Computed.{same_value}
use Rattle.ctl_places.proofs.Granted.{nothing_valued}
use Rattle.ctl_frames.proofs.Links.{got}
use Rattle.ctl_engine.proofs.Reached.{among_of, seen_read}
use Rattle.ctl_engine.proofs.Values.{value_read}
use Rattle.ctl_places.proofs.seen.read_seen.Goals as goal

pub index-master-requires : goal.index-master-requires
index-master-requires g c =
    let there = c.in-Some.ensures.there in
    let less = slice_get_within c.args.engine.now.masters.items c.in-Some.place there.master there.found in
    let many = c.args.engine.now.masters.ok.1 in
    omega (arith, less, many)

pub overflow_add-master : goal.overflow_add-master
overflow_add-master g c =
    let engine = c.args.engine.now in
    let v = c.args.variable.now in
    let n = master_of (first_display (heads_of g.s.world.activations)) v in
    let m = c.index-master.result.now in
    let seen = seen_read engine.masters.items c.in-Some.place n v.slot m c.in-Some.ensures.there c.index-master.ensures in
    let read = value_read c.args.code.now (kept engine) g.s.control g.s.operands g.s.world n v.slot m c.requires (among_of engine.masters.items c.in-Some.place m seen.0) seen.1 seen.2 in
    let less = slice_get_within engine.cells.items (m.base + v.slot) _ read in
    let bound = engine.cells.ok.0 in
    omega (arith, less, bound)

pub index-requires : goal.index-requires
index-requires g c =
    let engine = c.args.engine.now in
    let v = c.args.variable.now in
    let n = master_of (first_display (heads_of g.s.world.activations)) v in
    let m = c.index-master.result.now in
    let seen = seen_read engine.masters.items c.in-Some.place n v.slot m c.in-Some.ensures.there c.index-master.ensures in
    let read = value_read c.args.code.now (kept engine) g.s.control g.s.operands g.s.world n v.slot m c.requires (among_of engine.masters.items c.in-Some.place m seen.0) seen.1 seen.2 in
    let less = slice_get_within engine.cells.items (m.base + v.slot) _ read in
    let many = engine.cells.ok.1 in
    omega (arith, less, many)

pub returns-in-Some : goal.returns-in-Some
returns-in-Some g c =
    let engine = c.args.engine.now in
    let v = c.args.variable.now in
    let n = master_of (first_display (heads_of g.s.world.activations)) v in
    let m = c.index-master.result.now in
    let cell = m.base + v.slot in
    let seen = seen_read engine.masters.items c.in-Some.place n v.slot m c.in-Some.ensures.there c.index-master.ensures in
    let read = value_read c.args.code.now (kept engine) g.s.control g.s.operands g.s.world n v.slot m c.requires (among_of engine.masters.items c.in-Some.place m seen.0) seen.1 seen.2 in
    let within = slice_get_within engine.cells.items cell _ read in
    same_value _ _ (slice_get engine.cells.items cell) (got engine.cells.items cell c.index.result.now within c.index.ensures) read

pub returns-in-None : goal.returns-in-None
returns-in-None g c =
    let v = c.args.variable.now in
    sym (nothing_valued (master_of (first_display (heads_of g.s.world.activations)) v) v.slot g.s.world (c.in-None.ensures.none refl))
