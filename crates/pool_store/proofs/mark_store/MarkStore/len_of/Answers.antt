use Rattle.std.proofs.Common.{◌+◌, ℕ, length, List, [], Option, sym, ap, ◌∙◌}
use Rattle.std.specs.Option.{option_map_or}
use Rattle.pool_store.specs.Entries.{Stored}
use Rattle.pool_store.specs.Store as store
use Rattle.pool_store.specs.Store.{Store}
use Rattle.pool_store.proofs.MarkSteps.{none_stored, words_here}
use Rattle.pool_store.proofs.mark_store.MarkStore.len_of.Goals as goal

abbrev words : Option Stored → List ℕ
words o = option_map_or (λ x. x.words) o []

pub returns-in_default : goal.returns-in_default
returns-in_default g c =
    let s = c.self.inside in
    ap length (sym (ap words (none_stored s.cells.values s.pools.values s.opened.items (s.numbered + 1) c.self.invariant c.args.object (sym c.in_default.ensures)))
    ∙ ap (store.words_of c.args.object) c.self.view_is)

pub returns-in-Some-get : goal.returns-in-Some-get
returns-in-Some-get g c =
    let s = c.self.inside in
    c.block_len.ensures
    ∙ ap length (sym (words_here s.cells.values s.pools.values s.opened.items (s.numbered + 1) c.self.invariant c.args.object c.in-Some.cell.now (sym c.in-Some.ensures) c.in-Some-get.area.now (sym c.in-Some-get.ensures))
    ∙ ap (store.words_of c.args.object) c.self.view_is)
