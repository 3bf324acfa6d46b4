use Rattle.std.proofs.Common.{◌≡◌, ◌∙◌, ◌++◌, List, [], ap, arith, sym}
use Rattle.std.specs.Prelude.{vec_len}
use Rattle.std.proofs.lemmas.Bool.Decides.{nat_tests}
use Rattle.std.proofs.lemmas.List.{append-nil}
use Rattle.ctl_frames.specs.declared.frame.Formal.{Formal}
use Rattle.ctl_places.proofs.Passed.{none_passed, nothing_is}
use Rattle.ctl_machine.proofs.procedures.bind_parts.Goals as goal

pub returns-then-is_empty-clause-cells : goal.returns-then-is_empty-clause-cells
returns-then-is_empty-clause-cells g c =
    let none : c.args.spots.now.items ≡ [] = nothing_is c.args.spots.now.items (let zero : vec_len c.args.spots.now ≡ 0 = grind (arith, nat_tests, c.is_empty.ensures, c.if-is_empty.true) in let ok = c.args.spots.now.ok in omega (arith, zero, ok.0)) in
    sym ((none_passed c.args.actuals g.t.0 g.t.1 (sym none ∙ c.requires.1.1.1.0)).plain.cells c.args.base c.args.cells.now)

pub returns-then-is_empty-clause-formals : goal.returns-then-is_empty-clause-formals
returns-then-is_empty-clause-formals g c =
    let none : c.args.spots.now.items ≡ [] = nothing_is c.args.spots.now.items (let zero : vec_len c.args.spots.now ≡ 0 = grind (arith, nat_tests, c.is_empty.ensures, c.if-is_empty.true) in let ok = c.args.spots.now.ok in omega (arith, zero, ok.0)) in
    sym (append-nil c.args.formals.now.items) ∙ ap (λ (l : List Formal). c.args.formals.now.items ++ l) (sym (none_passed c.args.actuals g.t.0 g.t.1 (sym none ∙ c.requires.1.1.1.0)).plain.formals)
