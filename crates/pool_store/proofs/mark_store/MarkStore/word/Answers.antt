use Rattle.std.proofs.Common.{◌+◌, ℕ, ◌<◌, length, List, [], Option, sym, ap, subst, ◌∙◌}
use Rattle.std.specs.Prelude.{slice_index_or}
use Rattle.std.specs.Option.{option_map_or}
use Rattle.pool_store.specs.Entries.{Stored}
use Rattle.pool_store.specs.Store as store
use Rattle.pool_store.specs.Store.{Store}
use Rattle.pool_store.proofs.MarkSteps.{none_stored, words_here}
use Rattle.pool_store.proofs.mark_store.MarkStore.word.Goals as goal

abbrev words : Option Stored → List ℕ
words o = option_map_or (λ x. x.words) o []

pub returns-in_default : goal.returns-in_default
returns-in_default g c =
    let s = c.self.inside in
    ap (λ (l : List ℕ). slice_index_or l c.args.place 0) (sym (ap words (none_stored s.cells.values s.pools.values s.opened.items (s.numbered + 1) c.self.invariant c.args.object (sym c.in_default.ensures)))
    ∙ ap (store.words_of c.args.object) c.self.view_is)

pub word-requires : goal.word-requires
word-requires g c =
    let s = c.self.inside in
    subst (λ (l : List ℕ). c.args.place < length l) (ap (store.words_of c.args.object) (sym c.self.view_is)
    ∙ words_here s.cells.values s.pools.values s.opened.items (s.numbered + 1) c.self.invariant c.args.object c.in-Some.cell.now (sym c.in-Some.ensures) c.in-Some-get.area.now (sym c.in-Some-get.ensures)) c.requires

pub returns-in-Some-get : goal.returns-in-Some-get
returns-in-Some-get g c =
    let s = c.self.inside in
    c.word.ensures
    ∙ ap (λ (l : List ℕ). slice_index_or l c.args.place 0) (sym (words_here s.cells.values s.pools.values s.opened.items (s.numbered + 1) c.self.invariant c.args.object c.in-Some.cell.now (sym c.in-Some.ensures) c.in-Some-get.area.now (sym c.in-Some-get.ensures))
    ∙ ap (store.words_of c.args.object) c.self.view_is)
