use Rattle.std.proofs.Common.{◌∷◌, ◌++◌, ◌∙◌, [], List, ap, sym}
use Rattle.std.specs.Prelude.{slice_index_or}
use Rattle.std.proofs.lemmas.Option.{slice_get-get_or}
use Rattle.ctl_frames.specs.declared.frame.Formal.{Formal}
use Rattle.ctl_places.proofs.Passed.{no_part_passed, part_passed}
use Rattle.ctl_machine.proofs.procedures.pass.Goals as goal
use Rattle.ctl_places.specs.Passing.{formal_with}

pub returns-then-is_part-clause-passed : goal.returns-then-is_part-clause-passed
returns-then-is_part-clause-passed c = λ x below is spots read.
    let cell = slice_index_or c.args.cells.now c.args.cell 0 in
    let told = slice_get-get_or c.args.cells.now c.args.cell 0 c.requires.cell in
    let p = part_passed x below c.args.spots.now.items c.take_last-spot.new.self.items c.take_last-spot.result c.args.cells.now c.args.cell cell c.args.slot (sym is ∙ c.if-is_part.true) c.take_last-spot.ensures.items spots told read in
    (p.cells, p.spots, c.push_reserved.ensures.items ∙ ap (λ (l : List Formal). c.args.formals.now.items ++ l) (ap (λ b. formal_with c.args.slot c.take_last-spot.result b ∷ []) c.is_value_as-is_value.ensures ∙ p.formal))

pub returns-else-is_part-clause-passed : goal.returns-else-is_part-clause-passed
returns-else-is_part-clause-passed c = λ x below is spots read. no_part_passed x below c.args.spots.now.items c.args.cells.now c.args.cell c.args.slot c.args.formals.now.items (sym is ∙ c.if-is_part.false) spots
