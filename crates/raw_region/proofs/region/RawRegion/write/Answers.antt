use Rattle.std.proofs.Common.{◌≡◌, length, sym, ap, ◌∙◌}
use Rattle.raw_region.specs.Places.{held, out, with_run}
use Rattle.raw_region.proofs.PlaceLemmas.{set_one, written_is_set, one_within}
use Rattle.raw_region.proofs.region.RawRegion.write.Goals as goal

-- one word is taken out, written over, and put back
pub returns-clause-places : goal.returns-clause-places
returns-clause-places g c =
    let ps = c.args.self.now.places in
    let i = c.args.i in
    let w = c.args.word in
    let lent = c.lend_out-claim.ensures in
    let words = c.lend_out-claim.result.1 in
    let left : c.lend_out-claim.new.self.places ≡ with_run ps i (out 1) = lent.1 ∙ ap (λ v. with_run v.places i (out 1)) c.self.view_is in
    let one : length words.items ≡ 1 = sym words.ok.0 ∙ lent.6 in
    c.take_back.ensures.1 ∙ (λ j. with_run (left j) (lent.3 j) (held (set_one words.items w one j))) ∙ written_is_set ps i w (one_within ps i c.requires)
