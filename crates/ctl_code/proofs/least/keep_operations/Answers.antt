use Rattle.std.proofs.Common.{◌≡◌, Some, ap, sym, ◌∙◌, subst, arith}
use Rattle.std.specs.Prelude.{◌||◌, slice_get}
use Rattle.std.proofs.lemmas.Grind.{common_steps}
use Rattle.std.proofs.lemmas.Option.{gets}
use Rattle.ctl_code.specs.Demands.{with_counts}
use Rattle.ctl_code.specs.Homes.{Raises}
use Rattle.ctl_code.specs.Valid.{AreOperationsWithin, IsOperationWithin}
use Rattle.ctl_code.specs.Windows.{Counts}
use Rattle.ctl_code.proofs.Raising.{both_raised, operations_raised}
use Rattle.ctl_code.proofs.least.keep_operations.Goals as goal

pub returns : goal.returns
returns c =
    let code = c.args.code.now in
    let t = c.args.number in
    let o = c.in-Some.operations.now in
    let found : slice_get code.records.items t ≡ Some o = grind (arith, common_steps, gets) in
    let old = c.args.homes.now in
    let m1 = c.keep_operation.new.homes in
    let m2 = c.keep_operation-2.new.homes in
    let m3 = c.keep_operation-3.new.homes in
    let m4 = c.keep_operation-4.new.homes in
    let new = c.keep_operation-5.new.homes in
    let flag = c.either-4.ensures ∙ ap (λ b. c.in_ok-first.first || b) (c.either-3.ensures ∙ ap (λ b. c.in_ok-second.second || b) (c.either-2.ensures ∙ ap (λ b. c.in_ok-third.third || b) c.either.ensures)) in
    let i : Counts → Type 0 = λ counts. IsOperationWithin counts t o.initialize in
    let f : Counts → Type 0 = λ counts. IsOperationWithin counts t o.finalize in
    let a : Counts → Type 0 = λ counts. IsOperationWithin counts t o.adjust in
    let l : Counts → Type 0 = λ counts. IsOperationWithin counts t o.allocate in
    let d : Counts → Type 0 = λ counts. IsOperationWithin counts t o.deallocate in
    subst (λ r. Raises (λ counts. AreOperationsWithin (with_counts counts code) t) old new r) (sym flag)
    (operations_raised code t o old new _ found
    (both_raised i (λ counts. f counts × (a counts × (l counts × d counts))) old m1 new c.in_ok-first.first _ c.in_ok-first.ensures
    (both_raised f (λ counts. a counts × (l counts × d counts)) m1 m2 new c.in_ok-second.second _ c.in_ok-second.ensures
    (both_raised a (λ counts. l counts × d counts) m2 m3 new c.in_ok-third.third _ c.in_ok-third.ensures
    (both_raised l d m3 m4 new c.in_ok-fourth.fourth c.in_ok-fifth.fifth c.in_ok-fourth.ensures c.in_ok-fifth.ensures)))))
