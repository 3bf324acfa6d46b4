use Rattle.std.proofs.Common.{◌≡◌, ℕ, ◌+◌, ◌<◌, length, set, sym, ap, subst, ◌∙◌, arith, Some, IsSome}
use Rattle.raw_region.specs.Places.{Places, place}
use Rattle.block_pool.specs.Pool.{Pool, Keeps}
use Rattle.block_pool.proofs.Steps.{keeps_given, returned_there, not_all_free}
use Rattle.block_pool.proofs.pool.BlockPool.give.Goals as goal

pub write-requires : goal.write-requires
write-requires g c =
    let p = c.self.inside in
    let b = c.args.block in
    let home = c.home.ensures in
    let whole : length b.words ≡ p.block_words = c.requires.1 ∙ ap (λ (v : Pool). v.block_words) (sym c.self.view_is) in
    let positive : 0 < p.block_words = omega (arith, c.self.invariant.size.0) in
    let there = returned_there p.region p.block_words p.count p.free p.head b.start b.words c.self.invariant whole home.within home.were_out b.start (omega arith) (omega arith) in
    subst (λ (x : Places × ℕ). IsSome (place x.0 x.1)) (λ i. (sym home.places i, sym c.start-start.ensures i)) there

pub overflow_add-self : goal.overflow_add-self
overflow_add-self g c =
    let p = c.self.inside in
    let b = c.args.block in
    let home = c.home.ensures in
    let whole : length b.words ≡ p.block_words = c.requires.1 ∙ ap (λ (v : Pool). v.block_words) (sym c.self.view_is) in
    let less = not_all_free p.region p.block_words p.count p.free p.head b.start b.words c.self.invariant whole home.within home.were_out in
    record { fits = omega (arith, c.self.invariant.size.3) }

pub invariant_of-self : goal.invariant_of-self
invariant_of-self g c =
    let p = c.self.inside in
    let b = c.args.block in
    let home = c.home.ensures in
    let whole : length b.words ≡ p.block_words = c.requires.1 ∙ ap (λ (v : Pool). v.block_words) (sym c.self.view_is) in
    let start = c.start-start.ensures in
    let after = c.write.ensures.places ∙ (λ i. set (home.places i) (start i) (Some p.head)) in
    subst (λ h. Keeps c.write.new.self p.block_words p.count (p.free + 1) h) (sym start)
    (keeps_given p.region p.block_words p.count p.free p.head b.start b.words c.self.invariant whole home.within home.were_out c.write.new.self after)
