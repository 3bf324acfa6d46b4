use Rattle.std.proofs.Common.{◌≡◌, ℕ, ◌+◌, ◌≤◌, length, List, [], Option, refl, sym, ap, subst, ◌∙◌, arith}
use Rattle.std.specs.Option.{option_map_or}
use Rattle.std.specs.FinMap.{insert}
use Rattle.number_map.specs.Table.{change}
use Rattle.pool_area.specs.Lots.{with_words_over, overwritten, run_of}
use Rattle.pool_area.specs.Subpools as area
use Rattle.pool_area.specs.Subpools.{Subpools}
use Rattle.pool_store.specs.Entries.{Stored, words_in}
use Rattle.pool_store.specs.Cells.{stored_at, Places}
use Rattle.pool_store.specs.Store as store
use Rattle.pool_store.specs.Store.{Store}
use Rattle.pool_store.proofs.CopyLemmas.{copied_here}
use Rattle.pool_store.proofs.MarkSteps.{seen, stored_here, none_stored, words_here, written_places, written_seen}
use Rattle.pool_store.proofs.mark_store.MarkStore.copy_within.Goals as goal

abbrev words : Option Stored → List ℕ
words o = option_map_or (λ x. x.words) o []

pub unreachable-requires : goal.unreachable-requires
unreachable-requires g c =
    let s = c.self.inside in
    let none : store.words_of c.args.object c.args.self.now ≡ [] =
    ap (store.words_of c.args.object) (sym c.self.view_is) ∙ ap words (none_stored s.cells.values s.pools.values s.opened.items (s.numbered + 1) c.self.invariant c.args.object (sym c.in_default.ensures)) in
    let long : length (store.words_of c.args.object c.args.self.now) ≡ 0 = ap length none in
    omega (arith, c.requires.some, c.requires.from)

pub copy_within-requires-clause-from : goal.copy_within-requires-clause-from
copy_within-requires-clause-from g c =
    let s = c.self.inside in
    subst (λ (l : List ℕ). c.args.word + c.args.count ≤ length l) (ap (store.words_of c.args.object) (sym c.self.view_is)
    ∙ words_here s.cells.values s.pools.values s.opened.items (s.numbered + 1) c.self.invariant c.args.object c.in-Some.cell.now (sym c.in-Some.ensures) c.in-Some-get_mut.area.now (sym c.in-Some-get_mut.ensures.value)) c.requires.from

pub copy_within-requires-clause-to : goal.copy_within-requires-clause-to
copy_within-requires-clause-to g c =
    let s = c.self.inside in
    subst (λ (l : List ℕ). c.args.target + c.args.count ≤ length l) (ap (store.words_of c.args.object) (sym c.self.view_is)
    ∙ words_here s.cells.values s.pools.values s.opened.items (s.numbered + 1) c.self.invariant c.args.object c.in-Some.cell.now (sym c.in-Some.ensures) c.in-Some-get_mut.area.now (sym c.in-Some-get_mut.ensures.value)) c.requires.to

pub invariant_of-self : goal.invariant_of-self
invariant_of-self g c =
    let s = c.self.inside in
    let a = c.args in
    let x = c.in-Some.cell.now in
    let d = c.in-Some-get_mut.area.now in
    let others : List ℕ = run_of a.word a.count (words_in (area.block_of x.subpool x.index d)) in
    subst (λ (d : Subpools). Places s.cells.values (insert s.pools.values x.pool d) (s.numbered + 1)) (sym c.copy_within.ensures)
    (written_places s.cells.values s.pools.values s.opened.items (s.numbered + 1) c.self.invariant a.object x (sym c.in-Some.ensures) d (sym c.in-Some-get_mut.ensures.value)
    (with_words_over a.target others) (λ (l : List ℕ). overwritten a.target others l) (λ h. refl) (λ h. refl))

pub returns : goal.returns
returns g c =
    let s = c.self.inside in
    let a = c.args in
    let x = c.in-Some.cell.now in
    let d = c.in-Some-get_mut.area.now in
    let there = sym c.in-Some-get_mut.ensures.value in
    let ws : List ℕ = words_in (area.block_of x.subpool x.index d) in
    let others : List ℕ = run_of a.word a.count ws in
    let stored = stored_here s.cells.values s.pools.values s.opened.items (s.numbered + 1) c.self.invariant a.object x (sym c.in-Some.ensures) in
    let same : store.words_of a.object (seen s.cells.values s.pools.values s.opened.items (s.numbered + 1)) ≡ ws =
    words_here s.cells.values s.pools.values s.opened.items (s.numbered + 1) c.self.invariant a.object x (sym c.in-Some.ensures) d there in
    let own : (stored_at s.pools.values x).words ≡ ws = sym (ap words stored) ∙ same in
    ap (λ (d : Subpools). seen s.cells.values (insert s.pools.values x.pool d) s.opened.items (s.numbered + 1)) c.copy_within.ensures
    ∙ written_seen s.cells.values s.pools.values s.opened.items (s.numbered + 1) c.self.invariant a.object x (sym c.in-Some.ensures) d there
    (with_words_over a.target others) (λ (l : List ℕ). overwritten a.target others l) (λ h. refl) (λ h. refl)
    ∙ ap (λ (l : List ℕ). let r : Store = record (seen s.cells.values s.pools.values s.opened.items (s.numbered + 1)) { objects = change a.object (store.with_words (overwritten a.target (run_of a.word a.count l))) (seen s.cells.values s.pools.values s.opened.items (s.numbered + 1)).objects } in r) (sym own)
    ∙ copied_here a.object a.word a.target a.count (seen s.cells.values s.pools.values s.opened.items (s.numbered + 1)) (stored_at s.pools.values x) stored
    ∙ ap (store.copied a.object a.word a.object a.target a.count) c.self.view_is
