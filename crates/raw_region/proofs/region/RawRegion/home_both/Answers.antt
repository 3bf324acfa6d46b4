use Rattle.std.proofs.Common.{sym, subst, IsSome}
use Rattle.raw_region.specs.Places.{Places, place}
use Rattle.raw_region.proofs.PlaceLemmas.{held_after, held_not_out}
use Rattle.raw_region.proofs.region.RawRegion.home_both.Goals as goal

-- a place in both would hold the word of the first, and be out because of the second
pub returns-clause-apart : goal.returns-clause-apart
returns-clause-apart g c k lo hi lo' hi' =
    let ps = c.args.self.now.places in
    let first = c.args.first in
    let home = c.home.ensures in
    held_not_out (place c.home.new.self.places k)
    (subst (λ (qs : Places). IsSome (place qs k)) (sym home.places) (held_after ps first.start first.words home.within k lo hi))
    (c.home-2.ensures.were_out k lo' hi')
