use Rattle.std.proofs.Common.{ap, ◌∙◌, ◌≡◌, length}
use Rattle.std.specs.Prelude.{slice_set}
use Rattle.std.proofs.lemmas.List.{length-set}
use Rattle.pool_area.proofs.LotLemmas.{held_of, all_written, word_written}
use Rattle.pool_area.proofs.lot.Lot.set_word.Goals as goal

pub returns-clause-held : goal.returns-clause-held
returns-clause-held c =
    let s = c.args.self.now in
    let ws = c.words_mut.result.now in
    let written = all_written s.block (slice_set ws c.args.place c.args.value) (length-set ws c.args.place c.args.value ∙ ap length c.words_mut.ensures.value) in
    ap (held_of s.occupant) (written ∙ ap (λ l. slice_set l c.args.place c.args.value) c.words_mut.ensures.value)
    ∙ word_written s.occupant s.block.words c.args.place c.args.value c.requires.place
