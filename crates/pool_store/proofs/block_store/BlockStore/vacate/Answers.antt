use Rattle.std.proofs.Common.{◌≡◌, Option, Some, None, sym, ap, subst, ◌∙◌}
use Rattle.std.specs.Prelude.{Result, Ok, Err}
use Rattle.std.specs.Option.{option_map, option_map_or}
use Rattle.std.specs.FinMap.{get, insert, remove}
use Rattle.number_map.proofs.Mapped.{get_mapped}
use Rattle.pool_area.specs.Blocks.{Blocks}
use Rattle.pool_store.specs.declared.entry.Entry.TheVariants.{InBlock}
use Rattle.pool_store.specs.Entries.{Stored, lot_at, object_in, stored_in, Ties}
use Rattle.pool_store.specs.Store as store
use Rattle.pool_store.specs.Store.{Store}
use Rattle.pool_store.proofs.Steps.{seen, none_ties, standard_seen, gone_seen, tie_of, left_ties, left_seen}
use Rattle.pool_store.specs.declared.fault.StoreFault.{StoreFault}
use Rattle.pool_store.specs.declared.fault.StoreFault.TheVariants.{Gone}
use Rattle.pool_store.specs.declared.block_store.Address.{Address}
use Rattle.pool_store.proofs.block_store.BlockStore.vacate.Goals as goal

abbrev lies : Option Stored → Result (Option Address) StoreFault
lies o = option_map_or (λ x. Ok (option_map (λ s. record { 0 = s.address }) x.spot)) o (Err Gone)

pub invariant_of-self : goal.invariant_of-self
invariant_of-self g c =
    let s = c.self.inside in
    subst (λ o. Ties o s.blocks.values s.given) (sym c.in-Some-Standard.ensures.values) (none_ties s.objects.values s.blocks.values s.given c.self.invariant c.args.object)

pub returns-in-Some-Standard-clause-result : goal.returns-in-Some-Standard-clause-result
returns-in-Some-Standard-clause-result g c =
    let s = c.self.inside in
    let here = sym c.in-Some-Standard.ensures.value ∙ ap (λ e. Some e) c.in-Some-Standard.field-0-is in
    sym (ap lies (get_mapped (stored_in s.blocks.values) s.objects.values c.args.object ∙ ap (option_map (stored_in s.blocks.values)) here))
    ∙ ap (λ v. store.vacated c.args.object v) c.self.view_is

pub returns-in-Some-Standard-clause-store : goal.returns-in-Some-Standard-clause-store
returns-in-Some-Standard-clause-store g c =
    let s = c.self.inside in
    let here = sym c.in-Some-Standard.ensures.value ∙ ap (λ e. Some e) c.in-Some-Standard.field-0-is in
    ap (λ o. seen o s.blocks.values s.given) c.in-Some-Standard.ensures.values
    ∙ standard_seen s.objects.values s.blocks.values s.given c.self.invariant c.args.object c.in-Some-Standard._words here
    ∙ ap (store.without_object c.args.object) c.self.view_is

pub unreachable-requires : goal.unreachable-requires
unreachable-requires g c =
    let s = c.self.inside in
    let x = c.in-Some-InBlock.spot in
    let here = sym c.in-Some-InBlock.ensures.value ∙ ap (λ e. Some e) c.in-Some-InBlock.field-0-is in
    let tie = tie_of s.objects.values s.blocks.values s.given c.self.invariant c.args.object (InBlock x) here in
    let none : object_in (lot_at x s.blocks.values) ≡ None = ap (λ o. object_in (option_map_or (λ (d : Blocks). get d.out x.address) o None)) (sym c.in_default.ensures.value) in
    absurd (cc (tie, none))

pub invariant_of-self-in-Some-InBlock : goal.invariant_of-self-in-Some-InBlock
invariant_of-self-in-Some-InBlock g c =
    let s = c.self.inside in
    let x = c.in-Some-InBlock.spot in
    let here = sym c.in-Some-InBlock.ensures.value ∙ ap (λ e. Some e) c.in-Some-InBlock.field-0-is in
    let there = sym c.in-Some.ensures.value in
    let is = left_ties s.objects.values s.blocks.values s.given c.self.invariant c.args.object x here c.in-Some.area.now there in
    subst (λ o. Ties o (insert s.blocks.values x.pool c.vacate.new.self) s.given) (sym c.in-Some-InBlock.ensures.values)
    (subst (λ d. Ties (remove s.objects.values c.args.object) (insert s.blocks.values x.pool d) s.given) (sym c.vacate.ensures) is)

pub returns-in-Some-clause-result : goal.returns-in-Some-clause-result
returns-in-Some-clause-result g c =
    let s = c.self.inside in
    let here = sym c.in-Some-InBlock.ensures.value ∙ ap (λ e. Some e) c.in-Some-InBlock.field-0-is in
    sym (ap lies (get_mapped (stored_in s.blocks.values) s.objects.values c.args.object ∙ ap (option_map (stored_in s.blocks.values)) here))
    ∙ ap (λ v. store.vacated c.args.object v) c.self.view_is

pub returns-in-Some-clause-store : goal.returns-in-Some-clause-store
returns-in-Some-clause-store g c =
    let s = c.self.inside in
    let x = c.in-Some-InBlock.spot in
    let here = sym c.in-Some-InBlock.ensures.value ∙ ap (λ e. Some e) c.in-Some-InBlock.field-0-is in
    let there = sym c.in-Some.ensures.value in
    ap (λ o. seen o (insert s.blocks.values x.pool c.vacate.new.self) s.given) c.in-Some-InBlock.ensures.values
    ∙ ap (λ d. seen (remove s.objects.values c.args.object) (insert s.blocks.values x.pool d) s.given) c.vacate.ensures
    ∙ left_seen s.objects.values s.blocks.values s.given c.self.invariant c.args.object x here c.in-Some.area.now there
    ∙ ap (store.without_object c.args.object) c.self.view_is

pub invariant_of-self-in-None : goal.invariant_of-self-in-None
invariant_of-self-in-None g c =
    let s = c.self.inside in
    subst (λ o. Ties o s.blocks.values s.given) (sym c.in-None.ensures.values) (none_ties s.objects.values s.blocks.values s.given c.self.invariant c.args.object)

pub returns-in-None-clause-result : goal.returns-in-None-clause-result
returns-in-None-clause-result g c =
    let s = c.self.inside in
    sym (ap lies (get_mapped (stored_in s.blocks.values) s.objects.values c.args.object ∙ ap (option_map (stored_in s.blocks.values)) (sym c.in-None.ensures.value)))
    ∙ ap (λ v. store.vacated c.args.object v) c.self.view_is

pub returns-in-None-clause-store : goal.returns-in-None-clause-store
returns-in-None-clause-store g c =
    let s = c.self.inside in
    ap (λ o. seen o s.blocks.values s.given) c.in-None.ensures.values
    ∙ gone_seen s.objects.values s.blocks.values s.given c.self.invariant c.args.object (sym c.in-None.ensures.value)
    ∙ ap (store.without_object c.args.object) c.self.view_is
