use Rattle.std.proofs.Common.{◌+◌, ◌≡◌, ℕ, ◌<◌, length, List, [], Option, refl, sym, ap, subst, ◌∙◌, arith}
use Rattle.std.specs.Prelude.{slice_set}
use Rattle.std.specs.Option.{option_map_or}
use Rattle.std.specs.FinMap.{insert}
use Rattle.pool_area.specs.Lots.{with_word}
use Rattle.pool_area.specs.Subpools.{Subpools}
use Rattle.pool_store.specs.Entries.{Stored}
use Rattle.pool_store.specs.Cells.{Places}
use Rattle.pool_store.specs.Store as store
use Rattle.pool_store.specs.Store.{Store}
use Rattle.pool_store.proofs.MarkSteps.{seen, none_stored, words_here, written_places, written_seen}
use Rattle.pool_store.proofs.mark_store.MarkStore.set_word.Goals as goal

abbrev words : Option Stored → List ℕ
words o = option_map_or (λ x. x.words) o []

pub unreachable-requires : goal.unreachable-requires
unreachable-requires g c =
    let s = c.self.inside in
    let none : store.words_of c.args.object c.args.self.now ≡ [] =
    ap (store.words_of c.args.object) (sym c.self.view_is) ∙ ap words (none_stored s.cells.values s.pools.values s.opened.items (s.numbered + 1) c.self.invariant c.args.object (sym c.in_default.ensures)) in
    let long : length (store.words_of c.args.object c.args.self.now) ≡ 0 = ap length none in
    omega arith

pub set_word-requires : goal.set_word-requires
set_word-requires g c =
    let s = c.self.inside in
    subst (λ (l : List ℕ). c.args.place < length l) (ap (store.words_of c.args.object) (sym c.self.view_is)
    ∙ words_here s.cells.values s.pools.values s.opened.items (s.numbered + 1) c.self.invariant c.args.object c.in-Some.cell.now (sym c.in-Some.ensures) c.in-Some-get_mut.area.now (sym c.in-Some-get_mut.ensures.value)) c.requires

pub invariant_of-self : goal.invariant_of-self
invariant_of-self g c =
    let s = c.self.inside in
    let a = c.args in
    let x = c.in-Some.cell.now in
    subst (λ (d : Subpools). Places s.cells.values (insert s.pools.values x.pool d) (s.numbered + 1)) (sym c.set_word.ensures)
    (written_places s.cells.values s.pools.values s.opened.items (s.numbered + 1) c.self.invariant a.object x (sym c.in-Some.ensures) c.in-Some-get_mut.area.now (sym c.in-Some-get_mut.ensures.value)
    (with_word a.place a.value) (λ (l : List ℕ). slice_set l a.place a.value) (λ h. refl) (λ h. refl))

pub returns : goal.returns
returns g c =
    let s = c.self.inside in
    let a = c.args in
    let x = c.in-Some.cell.now in
    ap (λ (d : Subpools). seen s.cells.values (insert s.pools.values x.pool d) s.opened.items (s.numbered + 1)) c.set_word.ensures
    ∙ written_seen s.cells.values s.pools.values s.opened.items (s.numbered + 1) c.self.invariant a.object x (sym c.in-Some.ensures) c.in-Some-get_mut.area.now (sym c.in-Some-get_mut.ensures.value)
    (with_word a.place a.value) (λ (l : List ℕ). slice_set l a.place a.value) (λ h. refl) (λ h. refl)
    ∙ ap (store.with_word a.object a.place a.value) c.self.view_is
