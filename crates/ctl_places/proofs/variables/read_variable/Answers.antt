use Rattle.std.proofs.Common.{arith, sym, refl}
use Rattle.std.proofs.lemmas.Option.{slice_get_within}
use Rattle.ctl_frames.specs.Masters.{heads_of, first_display}
use Rattle.ctl_engine.specs.Shows.{kept}
use Rattle.ctl_engine.proofs.Computed.{same_value}
use Rattle.ctl_frames.proofs.Links.{got}
use Rattle.ctl_engine.proofs.Values.{variable_read}
use Rattle.ctl_engine.proofs.Reached.{no_variable_read}
use Rattle.std.specs.Prelude.{slice_get}
use Rattle.ctl_places.proofs.variables.read_variable.Goals as goal

pub index-requires : goal.index-requires
index-requires g c = let less = slice_get_within c.args.engine.now.cells.items c.in-Some.cell _ (variable_read c.args.code.now (kept c.args.engine.now) g.s.control g.s.operands g.s.world (first_display (heads_of g.s.world.activations)) c.args.out c.args.slot c.in-Some.cell c.requires c.in-Some.ensures.there) in let many = c.args.engine.now.cells.ok.1 in omega (arith, less, many)

pub returns-in-Some : goal.returns-in-Some
returns-in-Some g c =
    let read = variable_read c.args.code.now (kept c.args.engine.now) g.s.control g.s.operands g.s.world (first_display (heads_of g.s.world.activations)) c.args.out c.args.slot c.in-Some.cell c.requires c.in-Some.ensures.there in
    let within = slice_get_within c.args.engine.now.cells.items c.in-Some.cell _ read in
    same_value _ _ (slice_get c.args.engine.now.cells.items c.in-Some.cell) (got c.args.engine.now.cells.items c.in-Some.cell c.index.result.now within c.index.ensures) read

pub returns-in-None : goal.returns-in-None
returns-in-None g c = sym (no_variable_read c.args.code.now (kept c.args.engine.now) g.s.control g.s.operands g.s.world (first_display (heads_of g.s.world.activations)) c.args.out c.args.slot c.requires (c.in-None.ensures.none refl))
