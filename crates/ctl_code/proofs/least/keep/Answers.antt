use Rattle.std.proofs.Common.{IfOk, sym, subst}
use Rattle.ctl_code.specs.declared.least.Demand.{Demand}
use Rattle.ctl_code.specs.Demands.{IsMet, with_counts}
use Rattle.ctl_code.specs.Homes.{Raises}
use Rattle.ctl_code.specs.Kinds.{stack_at}
use Rattle.ctl_code.specs.Valid.{HasCollection}
use Rattle.ctl_code.specs.Windows.{HasHomeOf}
use Rattle.ctl_code.proofs.Raising.{both_raised}
use Rattle.ctl_code.proofs.least.keep.Goals as goal

pub returns-in-Home : goal.returns-in-Home
returns-in-Home c = subst (λ (d : Demand). IfOk c.keep_home.result (λ raised. Raises (λ counts. IsMet (with_counts counts c.args.code.now) (stack_at c.args.code.now.kinds c.args.place) d) c.args.homes.now c.keep_home.new.homes raised)) (sym c.in-Home.is) c.keep_home.ensures

pub returns-in-Variable : goal.returns-in-Variable
returns-in-Variable c = subst (λ (d : Demand). IfOk c.keep_variable.result (λ raised. Raises (λ counts. IsMet (with_counts counts c.args.code.now) (stack_at c.args.code.now.kinds c.args.place) d) c.args.homes.now c.keep_variable.new.homes raised)) (sym c.in-Variable.is) c.keep_variable.ensures

pub returns-in-Collection : goal.returns-in-Collection
returns-in-Collection c = subst (λ (d : Demand). IfOk c.keep_collection.result (λ raised. Raises (λ counts. IsMet (with_counts counts c.args.code.now) (stack_at c.args.code.now.kinds c.args.place) d) c.args.homes.now c.keep_collection.new.homes raised)) (sym c.in-Collection.is) c.keep_collection.ensures

pub returns-in_ok-second-in-Allocated : goal.returns-in_ok-second-in-Allocated
returns-in_ok-second-in-Allocated c =
    let code = c.args.code.now in
    let s = stack_at code.kinds c.args.place in
    let old = c.args.homes.now in
    let mid = c.keep_collection-in-Allocated.new.homes in
    let new = c.keep_home_of.new.homes in
    let of = c.in-Allocated.of in
    subst (λ (d : Demand). Raises (λ counts. IsMet (with_counts counts code) s d) old new c.either.result) (sym c.in-Allocated.is)
    (subst (λ r. Raises (λ counts. HasCollection (with_counts counts code) s c.in-Allocated.access × HasHomeOf counts s of) old new r) (sym c.either.ensures)
    (both_raised (λ counts. HasCollection (with_counts counts code) s c.in-Allocated.access) (λ counts. HasHomeOf counts s of) old mid new c.in_ok-first-in-Allocated.first c.in_ok-second-in-Allocated.second c.in_ok-first-in-Allocated.ensures c.in_ok-second-in-Allocated.ensures))
