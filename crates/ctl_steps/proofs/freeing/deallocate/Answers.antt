use Rattle.std.proofs.Common.{sym}
use Rattle.std.proofs.lemmas.Option.{slice_get_within}
use Rattle.ctl_places.proofs.Deallocated.{body_there, calls_storage}
use Rattle.ctl_frames.proofs.Links.{got}
use Rattle.ctl_steps.proofs.freeing.deallocate.Goals as goal

pub master_of-requires : goal.master_of-requires
master_of-requires g c = (c.args.engine.now.numbered.collections, c.requires.1.0.goes_on.inside.holds.rise)

pub call_storage-requires : goal.call_storage-requires
call_storage-requires g c =
    let code = c.args.code.now in
    let call = c.args.call in
    let entry = c.index.result.now in
    let valid = c.requires.0 in
    let d = c.requires.1.0 in
    let there = body_there code c.args.engine.now call c.args.units c.args.place g.t valid d in
    let found = got code.entries.items call.body entry (slice_get_within code.entries.items call.body there.0 there.1) c.index.ensures in
    let object = c.in-Some.ensures.some in (
      valid,
      (
        calls_storage code c.args.engine.now call entry c.in-Some.master c.args.base c.args.units c.args.place g.t object.0 valid d object.1 found c.requires.1.1.0,
        (record { pool = sym d.is.number; address = d.is.address_is; units = d.units_are }, c.requires.1.1.1),
      ),
    )
