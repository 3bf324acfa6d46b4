use Rattle.std.proofs.Common.{◌≡◌, ◌+◌, ◌∙◌, List, ap, arith, drop, false, refl, reverse, subst, sym}
use Rattle.ctl_tree.specs.declared.ending.Stop.TheVariants.{BadAddress, UseAfterFree}
use Rattle.ctl_meaning.specs.Pools.{block_pool_at}
use Rattle.ctl_meaning.specs.World.{InBlock}
use Rattle.ctl_storage.specs.declared.pools.Placing.{Placing}
use Rattle.ctl_storage.specs.declared.pools.Placing.TheVariants as PlacingOf
use Rattle.ctl_code.specs.States.{Word}
use Rattle.ctl_code.specs.Table.{NotPassed, Passed, address_test, units_for}
use Rattle.ctl_code.specs.Windows.{height}
use Rattle.ctl_places.specs.Granting.{IsNewMember, Places, number_at}
use Rattle.ctl_frames.specs.Masters.{first_window}
use Rattle.ctl_engine.specs.Shows.{kept}
use Rattle.ctl_places.specs.PoolBlocks.{is_open_at}
use Rattle.ctl_allocations.proofs.Placed.{has_numbers, shut_fails}
use Rattle.ctl_allocations.proofs.PlacedMember.{first_is, read_is}
use Rattle.ctl_allocations.proofs.allocating.place_member.Goals as goal

pub overflow_add-first : goal.overflow_add-first
overflow_add-first g c =
    let old = c.args.engine.now in
    let q = c.requires.1.0 in
    let n = has_numbers c.args.code.now (kept old) q.0 g.s.control g.s.operands g.s.world q.2 q.3 in
    let at = first_is c.args.code.now c.args.place q.0 c.window.result c.height_at.result (first_window (reverse old.masters.items)) q.1 c.window.ensures c.height_at.ensures in
    let within = n.stand.within in
    let bound = old.cells.ok.0 in
    let most = old.cells.ok.1 in
    omega (arith, at, within, bound, most)

pub index-set-requires : goal.index-set-requires
index-set-requires g c =
    let old = c.args.engine.now in
    let q = c.requires.1.0 in
    let n = has_numbers c.args.code.now (kept old) q.0 g.s.control g.s.operands g.s.world q.2 q.3 in
    let at = first_is c.args.code.now c.args.place q.0 c.window.result c.height_at.result (first_window (reverse old.masters.items)) q.1 c.window.ensures c.height_at.ensures in
    let within = n.stand.within in
    let bound = old.cells.ok.0 in
    omega (arith, at, within, bound)

pub overflow_add-first-2 : goal.overflow_add-first-2
overflow_add-first-2 g c =
    let old = c.args.engine.now in
    let q = c.requires.1.0 in
    let n = has_numbers c.args.code.now (kept old) q.0 g.s.control g.s.operands g.s.world q.2 q.3 in
    let at = first_is c.args.code.now c.args.place q.0 c.window.result c.height_at.result (first_window (reverse old.masters.items)) q.1 c.window.ensures c.height_at.ensures in
    let within = n.stand.within in
    let bound = old.cells.ok.0 in
    let most = old.cells.ok.1 in
    omega (arith, at, within, bound, most)

pub index-pool-requires : goal.index-pool-requires
index-pool-requires g c =
    let old = c.args.engine.now in
    let q = c.requires.1.0 in
    let n = has_numbers c.args.code.now (kept old) q.0 g.s.control g.s.operands g.s.world q.2 q.3 in
    let at = first_is c.args.code.now c.args.place q.0 c.window.result c.height_at.result (first_window (reverse old.masters.items)) q.1 c.window.ensures c.height_at.ensures in
    let within = n.stand.within in
    let bound = old.cells.ok.0 in
    omega (arith, at, within, bound)

pub overflow_add-first-3 : goal.overflow_add-first-3
overflow_add-first-3 g c =
    let old = c.args.engine.now in
    let q = c.requires.1.0 in
    let n = has_numbers c.args.code.now (kept old) q.0 g.s.control g.s.operands g.s.world q.2 q.3 in
    let at = first_is c.args.code.now c.args.place q.0 c.window.result c.height_at.result (first_window (reverse old.masters.items)) q.1 c.window.ensures c.height_at.ensures in
    let within = n.stand.within in
    let bound = old.cells.ok.0 in
    let most = old.cells.ok.1 in
    omega (arith, at, within, bound, most)

pub index-address-requires : goal.index-address-requires
index-address-requires g c =
    let old = c.args.engine.now in
    let q = c.requires.1.0 in
    let n = has_numbers c.args.code.now (kept old) q.0 g.s.control g.s.operands g.s.world q.2 q.3 in
    let at = first_is c.args.code.now c.args.place q.0 c.window.result c.height_at.result (first_window (reverse old.masters.items)) q.1 c.window.ensures c.height_at.ensures in
    let within = n.stand.within in
    let bound = old.cells.ok.0 in
    omega (arith, at, within, bound)

pub returns-then-not-is_open-clause-ok : goal.returns-then-not-is_open-clause-ok
returns-then-not-is_open-clause-ok g c =
    let code = c.args.code.now in
    let old = c.args.engine.now in
    let s = g.s in
    let of = c.args.of in
    let q = c.requires.1.0 in
    let n = has_numbers code (kept old) q.0 s.control s.operands s.world q.2 q.3 in
    let at = first_is code c.args.place q.0 c.window.result c.height_at.result (first_window (reverse old.masters.items)) q.1 c.window.ensures c.height_at.ensures in
    let within = n.stand.within in
    let first = c.window.result + c.height_at.result in
    let beneath = first_window (reverse old.masters.items) + height (drop 4 q.0) in
    let pool_is : c.index-pool.result.now ≡ number_at s.operands 2 =
    read_is old.cells.items (first + 1) (beneath + 1) c.index-pool.result.now n.pool (ap (λ j. j + 1) at) (omega (arith, within)) c.index-pool.ensures n.stand.pool_read ∙ sym (ap (λ (l : List Word). number_at l 2) n.stand.are) in
    let shut : is_open_at (number_at s.operands 2) s.world.pools ≡ false = ap (λ k. is_open_at k s.world.pools) (sym pool_is) ∙ (sym (c.is_open.ensures.shown (old.numbered.objects + 1) s.world.pools q.3.holds.pools) ∙ c.if-not-is_open.true) in
    (UseAfterFree, refl, shut_fails (number_at s.operands 2) (number_at s.operands 0) (units_for code of) s.world shut, record { mode = refl; kept = refl; events = refl; picks = refl })

pub returns-in-Placed-clause-ok : goal.returns-in-Placed-clause-ok
returns-in-Placed-clause-ok g c =
    let code = c.args.code.now in
    let old = c.args.engine.now in
    let s = g.s in
    let of = c.args.of in
    let q = c.requires.1.0 in
    let n = has_numbers code (kept old) q.0 s.control s.operands s.world q.2 q.3 in
    let at = first_is code c.args.place q.0 c.window.result c.height_at.result (first_window (reverse old.masters.items)) q.1 c.window.ensures c.height_at.ensures in
    let within = n.stand.within in
    let first = c.window.result + c.height_at.result in
    let beneath = first_window (reverse old.masters.items) + height (drop 4 q.0) in
    let pool_is : c.index-pool.result.now ≡ number_at s.operands 2 =
    read_is old.cells.items (first + 1) (beneath + 1) c.index-pool.result.now n.pool (ap (λ j. j + 1) at) (omega (arith, within)) c.index-pool.ensures n.stand.pool_read ∙ sym (ap (λ (l : List Word). number_at l 2) n.stand.are) in
    let address_is : c.index-address.result.now ≡ number_at s.operands 0 =
    read_is old.cells.items (first + 3) (beneath + 3) c.index-address.result.now n.address (ap (λ j. j + 3) at) (omega (arith, within)) c.index-address.ensures n.stand.address_read ∙ sym (ap (λ (l : List Word). number_at l 0) n.stand.are) in
    let set_is : c.index-set.result.now ≡ number_at s.operands 3 =
    read_is old.cells.items first beneath c.index-set.result.now n.set at (omega (arith, within)) c.index-set.ensures n.stand.set_read ∙ sym (ap (λ (l : List Word). number_at l 3) n.stand.are) in
    let added = c.add_at_address.new.engine in
    let set = c.index-set.result.now in
    let placed : Places code old added set of c.index-pool.result.now c.index-address.result.now s.world PlacingOf.Placed = subst (λ (z : Placing). Places code old added set of c.index-pool.result.now c.index-address.result.now s.world z) c.in-Placed.is c.in_ok-add_at_address.ensures.ok in
    let passes = subst (λ k. address_test k (units_for code of) (block_pool_at (number_at s.operands 2) s.world.pools) s.world ≡ Passed) address_is (subst (λ k. address_test c.index-address.result.now (units_for code of) (block_pool_at k s.world.pools) s.world ≡ Passed) pool_is placed.0) in
    let member = subst (λ k. IsNewMember code (kept old) (kept added) set of (InBlock (number_at s.operands 2) k) s.world) address_is (subst (λ k. IsNewMember code (kept old) (kept added) set of (InBlock k c.index-address.result.now) s.world) pool_is placed.1) in
    (set_is, passes, member)

pub returns-in-Refused-clause-ok : goal.returns-in-Refused-clause-ok
returns-in-Refused-clause-ok g c =
    let code = c.args.code.now in
    let old = c.args.engine.now in
    let s = g.s in
    let of = c.args.of in
    let q = c.requires.1.0 in
    let n = has_numbers code (kept old) q.0 s.control s.operands s.world q.2 q.3 in
    let at = first_is code c.args.place q.0 c.window.result c.height_at.result (first_window (reverse old.masters.items)) q.1 c.window.ensures c.height_at.ensures in
    let within = n.stand.within in
    let first = c.window.result + c.height_at.result in
    let beneath = first_window (reverse old.masters.items) + height (drop 4 q.0) in
    let pool_is : c.index-pool.result.now ≡ number_at s.operands 2 =
    read_is old.cells.items (first + 1) (beneath + 1) c.index-pool.result.now n.pool (ap (λ j. j + 1) at) (omega (arith, within)) c.index-pool.ensures n.stand.pool_read ∙ sym (ap (λ (l : List Word). number_at l 2) n.stand.are) in
    let address_is : c.index-address.result.now ≡ number_at s.operands 0 =
    read_is old.cells.items (first + 3) (beneath + 3) c.index-address.result.now n.address (ap (λ j. j + 3) at) (omega (arith, within)) c.index-address.ensures n.stand.address_read ∙ sym (ap (λ (l : List Word). number_at l 0) n.stand.are) in
    let added = c.add_at_address.new.engine in
    let set = c.index-set.result.now in
    let refused : Places code old added set of c.index-pool.result.now c.index-address.result.now s.world PlacingOf.Refused = subst (λ (z : Placing). Places code old added set of c.index-pool.result.now c.index-address.result.now s.world z) c.in-Refused.is c.in_ok-add_at_address.ensures.ok in
    let fails = subst (λ k. address_test k (units_for code of) (block_pool_at (number_at s.operands 2) s.world.pools) s.world ≡ NotPassed BadAddress) address_is (subst (λ k. address_test c.index-address.result.now (units_for code of) (block_pool_at k s.world.pools) s.world ≡ NotPassed BadAddress) pool_is refused.0) in
    (BadAddress, refl, fails, refused.1)
