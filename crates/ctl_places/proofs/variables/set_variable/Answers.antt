use Rattle.std.proofs.Common.{arith, refl, inl, inr}
use Rattle.std.proofs.lemmas.Option.{slice_get_within}
use Rattle.ctl_frames.specs.Masters.{heads_of, first_display}
use Rattle.ctl_engine.specs.Shows.{kept}
use Rattle.ctl_engine.proofs.Values.{variable_read}
use Rattle.ctl_places.proofs.variables.set_variable.Goals as goal

pub index_mut-requires : goal.index_mut-requires
index_mut-requires g c =
    let less = slice_get_within c.args.engine.now.cells.items c.in-Some.cell _ (variable_read c.args.code.now (kept c.args.engine.now) g.s.control g.s.operands g.s.world (first_display (heads_of g.s.world.activations)) c.args.out c.args.slot c.in-Some.cell c.requires c.in-Some.ensures.there) in
    let many = c.args.engine.now.cells.ok.1 in
    omega (arith, less, many)

pub returns-in-Some-clause-gives : goal.returns-in-Some-clause-gives
returns-in-Some-clause-gives g c = λ place. inl (record { cell = c.in-Some.cell; variable = c.in-Some.ensures.there; goes_on = record { mode = refl; kept = refl; events = refl; picks = refl } })

pub returns-in_default-clause-gives : goal.returns-in_default-clause-gives
returns-in_default-clause-gives g c = λ place. inr (record { none = c.in_default.ensures.none refl; goes_on = record { mode = refl; kept = refl; events = refl; picks = refl } })
