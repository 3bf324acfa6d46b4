use Rattle.std.proofs.Common.{◌≡◌, Some, subst, arith}
use Rattle.std.specs.Prelude.{slice_get}
use Rattle.std.proofs.lemmas.Grind.{common_steps}
use Rattle.std.proofs.lemmas.Option.{gets}
use Rattle.std.proofs.lemmas.Result.{IfOk-weaker}
use Rattle.ctl_code.specs.declared.least.Demand.{Demand}
use Rattle.ctl_code.specs.Demands.{IsFineAt, IsMet, with_counts}
use Rattle.ctl_code.specs.Homes.{Raises}
use Rattle.ctl_code.specs.Kinds.{stack_at}
use Rattle.ctl_code.proofs.Raising.{instruction_raised}
use Rattle.ctl_code.proofs.least.keep_instruction.Goals as goal

pub returns : goal.returns
returns c =
    let code = c.args.code.now in
    let p = c.args.place in
    let i = c.index.result.now in
    let s = stack_at code.kinds p in
    let old = c.args.homes.now in
    let new = c.keep.new.homes in
    let found : slice_get code.instructions.items p ≡ Some i = grind (arith, common_steps, gets) in
    IfOk-weaker c.keep.result
    (λ raised. Raises (λ counts. IsMet (with_counts counts code) s c.demand_of.result) old new raised)
    (λ raised. Raises (λ counts. IsFineAt (with_counts counts code) p) old new raised)
    (λ raised h. instruction_raised code p i old new raised found (subst (λ (d : Demand). Raises (λ counts. IsMet (with_counts counts code) s d) old new raised) c.demand_of.ensures h))
    c.keep.ensures
