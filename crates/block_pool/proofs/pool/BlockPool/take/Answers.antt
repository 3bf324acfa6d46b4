use Rattle.std.proofs.Common.{rules, ◌≡◌, ◌+◌, ◌-◌, ◌<◌, ◌≤◌, length, sym, ap, subst, ◌∙◌, arith}
use mathlib.Core.Logic.{⊎_elim}
use Rattle.raw_region.specs.Places.{word_or_zero}
use Rattle.raw_region.proofs.PlaceLemmas.{length-words_at}
use Rattle.block_pool.specs.FreeList.{next_free}
use Rattle.block_pool.specs.Pool.{Pool, Keeps, IsRefused, with_free}
use Rattle.block_pool.proofs.Steps.{keeps_taken, first_fits}
use Rattle.block_pool.proofs.pool.BlockPool.take.Goals as goal

pub invariant_of-self : goal.invariant_of-self
invariant_of-self g c =
    let p = c.self.inside in
    let n = p.free - 1 in
    let one_fewer : p.free ≡ n + 1 = search rules in
    let kept : Keeps p.region p.block_words p.count (n + 1) p.head = subst (λ m. Keeps p.region p.block_words p.count m p.head) one_fewer c.self.invariant in
    let next : next_free p.region.places p.head ≡ c.read.result = ap word_or_zero (sym c.read.ensures) in
    subst (λ h. Keeps c.cut.new.self p.block_words p.count n h) next (keeps_taken p.region p.block_words p.count n p.head kept c.cut.new.self c.cut.ensures.places)

pub returns : goal.returns
returns g c =
    let p = c.self.inside in
    let n = p.free - 1 in
    let one_fewer : p.free ≡ n + 1 = search rules in
    let kept : Keeps p.region p.block_words p.count (n + 1) p.head = subst (λ m. Keeps p.region p.block_words p.count m p.head) one_fewer c.self.invariant in
    let fits = first_fits p.region p.block_words p.count n p.head kept in
    let whole : length c.cut.result.words ≡ p.block_words = ap (λ b. length b.words) c.cut.ensures.block ∙ length-words_at p.region.places p.head p.block_words fits in
    let enough : c.args.words ≤ p.block_words = search rules in (
      subst (λ (v : Pool). IsRefused v c.args.words → ⊥) c.self.view_is
          (λ refused. ⊎_elim (λ (none : p.free ≡ 0). c.if-self-eq0.false none) (λ (less : p.block_words < c.args.words). let no : ⊥ = omega arith in no) refused),
      (ap (λ b. b.home) c.cut.ensures.block ∙ ap (λ (v : Pool). v.home) c.self.view_is, whole ∙ ap (λ (v : Pool). v.block_words) c.self.view_is),
      omega arith,
      ap (λ (v : Pool). v.free) (sym c.self.view_is) ∙ one_fewer,
      (λ i. record { home = c.cut.ensures.home i; block_words = p.block_words; count = p.count; free = n }) ∙ ap (λ (v : Pool). with_free v n) c.self.view_is,
    )
