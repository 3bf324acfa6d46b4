use Rattle.std.proofs.Common.{◌+◌, Option, None, sym, ap, subst, ◌∙◌}
use Rattle.std.specs.Option.{option_map_or}
use Rattle.std.specs.FinMap.{insert}
use Rattle.pool_area.specs.Subpools.{Subpools}
use Rattle.pool_store.specs.Entries.{Stored}
use Rattle.pool_store.specs.Cells.{Places}
use Rattle.pool_store.specs.Store as store
use Rattle.pool_store.specs.Store.{Store}
use Rattle.std.specs.Prelude.{Result, Ok, Err}
use Rattle.std.specs.Option.{option_map}
use Rattle.std.specs.FinMap.{remove}
use Rattle.pool_store.specs.declared.entry.Spot.{Spot}
use Rattle.pool_store.specs.declared.block_store.Address.{Address}
use Rattle.pool_store.specs.declared.fault.StoreFault.{StoreFault}
use Rattle.pool_store.specs.declared.fault.StoreFault.TheVariants.{Gone}
use Rattle.pool_store.proofs.MarkSteps.{seen, stored_here, none_stored, none_places, none_seen, left_places, left_seen}
use Rattle.pool_store.proofs.mark_store.MarkStore.vacate.Goals as goal

abbrev left : Option Stored → Result (Option Address) StoreFault
left o = option_map_or (λ x. Ok (option_map (λ (s : Spot). record { 0 = s.address }) x.spot)) o (Err Gone)

abbrev spot : Option Stored → Option Spot
spot o = option_map_or (λ x. x.spot) o None

pub invariant_of-self : goal.invariant_of-self
invariant_of-self g c =
    let s = c.self.inside in
    subst (λ t. Places t s.pools.values (s.numbered + 1)) (sym c.in_default.ensures.values) (none_places s.cells.values s.pools.values s.opened.items (s.numbered + 1) c.self.invariant c.args.object)

pub returns-in_default-clause-result : goal.returns-in_default-clause-result
returns-in_default-clause-result g c =
    let s = c.self.inside in
    sym (ap left (none_stored s.cells.values s.pools.values s.opened.items (s.numbered + 1) c.self.invariant c.args.object (sym c.in_default.ensures.value))) ∙ ap (store.vacated c.args.object) c.self.view_is

pub returns-in_default-clause-spot : goal.returns-in_default-clause-spot
returns-in_default-clause-spot g c =
    let s = c.self.inside in
    ap (store.spot_of c.args.object) (sym c.self.view_is) ∙ ap spot (none_stored s.cells.values s.pools.values s.opened.items (s.numbered + 1) c.self.invariant c.args.object (sym c.in_default.ensures.value))

pub returns-in_default-clause-store : goal.returns-in_default-clause-store
returns-in_default-clause-store g c =
    let s = c.self.inside in
    ap (λ t. seen t s.pools.values s.opened.items (s.numbered + 1)) c.in_default.ensures.values
    ∙ none_seen s.cells.values s.pools.values s.opened.items (s.numbered + 1) c.self.invariant c.args.object (sym c.in_default.ensures.value)
    ∙ ap (store.without_object c.args.object) c.self.view_is

pub invariant_of-self-2 : goal.invariant_of-self-2
invariant_of-self-2 g c =
    let s = c.self.inside in
    let x = c.in-Some.cell in
    subst (λ t. Places t (insert s.pools.values x.pool c.vacate.new.self) (s.numbered + 1)) (sym c.in-Some.ensures.values)
    (subst (λ (d : Subpools). Places (remove s.cells.values c.args.object) (insert s.pools.values x.pool d) (s.numbered + 1)) (sym c.vacate.ensures)
    (left_places s.cells.values s.pools.values s.opened.items (s.numbered + 1) c.self.invariant c.args.object x (sym c.in-Some.ensures.value) c.in-Some-get_mut.area.now (sym c.in-Some-get_mut.ensures.value)))

pub returns-clause-result : goal.returns-clause-result
returns-clause-result g c =
    let s = c.self.inside in
    sym (ap left (stored_here s.cells.values s.pools.values s.opened.items (s.numbered + 1) c.self.invariant c.args.object c.in-Some.cell (sym c.in-Some.ensures.value))) ∙ ap (store.vacated c.args.object) c.self.view_is

pub returns-clause-spot : goal.returns-clause-spot
returns-clause-spot g c =
    let s = c.self.inside in
    ap (store.spot_of c.args.object) (sym c.self.view_is) ∙ ap spot (stored_here s.cells.values s.pools.values s.opened.items (s.numbered + 1) c.self.invariant c.args.object c.in-Some.cell (sym c.in-Some.ensures.value))

pub returns-clause-store : goal.returns-clause-store
returns-clause-store g c =
    let s = c.self.inside in
    let x = c.in-Some.cell in
    ap (λ t. seen t (insert s.pools.values x.pool c.vacate.new.self) s.opened.items (s.numbered + 1)) c.in-Some.ensures.values
    ∙ ap (λ (d : Subpools). seen (remove s.cells.values c.args.object) (insert s.pools.values x.pool d) s.opened.items (s.numbered + 1)) c.vacate.ensures
    ∙ left_seen s.cells.values s.pools.values s.opened.items (s.numbered + 1) c.self.invariant c.args.object x (sym c.in-Some.ensures.value) c.in-Some-get_mut.area.now (sym c.in-Some-get_mut.ensures.value)
    ∙ ap (store.without_object c.args.object) c.self.view_is
