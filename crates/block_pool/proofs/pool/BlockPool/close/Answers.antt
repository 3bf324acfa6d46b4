use Rattle.std.proofs.Common.{◌≡◌, sym, subst}
use Rattle.block_pool.specs.Pool.{Pool, Keeps}
use Rattle.block_pool.proofs.Steps.{all_back}
use Rattle.block_pool.proofs.pool.BlockPool.close.Goals as goal

pub close-requires : goal.close-requires
close-requires g c =
    let p = c.self.inside in
    let all_free : p.free ≡ p.count = subst (λ (v : Pool). v.free ≡ v.count) (sym c.self.view_is) c.requires in
    all_back p.region p.block_words p.count p.head (subst (λ n. Keeps p.region p.block_words p.count n p.head) all_free c.self.invariant)
