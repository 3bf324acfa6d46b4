use Rattle.std.proofs.Common.{◌∙◌, ℕ, ap, arith, sym}
use Rattle.ctl_program.specs.declared.types.Root.TheVariants as RootOf
use Rattle.ctl_meaning.specs.Masters.{good_discriminants}
use Rattle.ctl_allocations.proofs.PoolDeclared.{are_bad}
use Rattle.ctl_allocations.proofs.pools.pool_size.Goals as goal

pub returns-then-not-is_pool_size : goal.returns-then-not-is_pool_size
returns-then-not-is_pool_size c =
    let size = c.in_order-size.result in
    ap (λ (x : ℕ × ℕ). good_discriminants RootOf.BlockPool x) (sym c.in_order-size.ensures)
    ∙ are_bad size.0 size.1 (λ h. let good = c.is_pool_size.ensures.1 h in let bad = c.if-not-is_pool_size.true in grind (arith, good, bad))
