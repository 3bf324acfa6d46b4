use Rattle.std.proofs.Common.{sym, ap, subst, ◌∙◌, arith}
use Rattle.raw_region.specs.Places.{Region, AreHeld}
use Rattle.raw_region.proofs.PlaceLemmas.{held_within}
use Rattle.raw_region.proofs.region.RawRegion.cut.Goals as goal

pub lend_out-claim-requires : goal.lend_out-claim-requires
lend_out-claim-requires g c =
    let r = c.self.inside in
    let i = c.self.invariant in
    let start = c.args.start in
    let n = c.args.len in
    let there : AreHeld r.holding.places start n = subst (λ (v : Region). AreHeld v.places start n) (sym c.self.view_is) c.requires.1 in
    let fits = held_within r.holding.places start n (omega (arith, c.requires.0)) there in
    (ap (λ h. h.at) i.0 ∙ i.1, i.2, c.requires.0, there, fits, omega (arith, fits, i.4, i.6))
