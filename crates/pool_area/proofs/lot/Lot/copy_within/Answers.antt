use Rattle.std.proofs.Common.{ap, ◌∙◌, ◌≡◌, ◌+◌, ◌≤◌, length, arith}
use Rattle.std.specs.List.{copy_within}
use Rattle.pool_area.proofs.LotLemmas.{held_of, all_written, words_written_over, copied_within, fits_block}
use Rattle.pool_area.proofs.lot.Lot.copy_within.Goals as goal

pub returns-clause-held : goal.returns-clause-held
returns-clause-held c =
    let s = c.args.self.now in
    let a = c.args in
    let e = c.copy_within.ensures in
    let w = c.words_mut.ensures.value in
    let fits = fits_block s.occupant s.block.words (a.from + a.count) c.requires.from in
    ap (held_of s.occupant) (all_written s.block c.copy_within.new.self (e.len ∙ ap length w) ∙ e.after ∙ ap (λ l. copy_within l a.from (a.from + a.count) a.to) w
    ∙ copied_within s.block.words a.from a.to a.count fits)
    ∙ words_written_over s.occupant s.block.words a.from a.to a.count c.requires.filled c.requires.from c.requires.to
