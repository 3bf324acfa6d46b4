use Rattle.std.proofs.Common.{◌≡◌, Option, Some, None, refl, sym, ap, subst, ◌∙◌}
use Rattle.std.specs.Prelude.{IfSome}
use Rattle.std.specs.Option.{option_map}
use Rattle.std.specs.FinMap.{get}
use Rattle.number_map.proofs.Mapped.{get_mapped}
use Rattle.pool_store.specs.declared.entry.Entry.{Entry}
use Rattle.pool_store.specs.declared.entry.Entry.TheVariants.{Standard, InBlock}
use Rattle.pool_store.specs.Entries.{Stored, stored_in}
use Rattle.pool_store.proofs.Tied.{Pools}
use Rattle.pool_store.proofs.block_store.BlockStore.lies_outside_subpools.Goals as goal

outside : {A : Type 0} (blocks : Pools) (o : Option (Entry A)) → IfSome (option_map (stored_in blocks) o) (λ x. x.site ≡ None)
outside blocks None = tt
outside blocks (Some (Standard ws)) = refl
outside blocks (Some (InBlock s)) = refl

pub returns : goal.returns
returns g c = λ n.
    let s = c.self.inside in
    subst (λ (o : Option Stored). IfSome o (λ x. x.site ≡ None)) (sym (get_mapped (stored_in s.blocks.values) s.objects.values n) ∙ ap (λ v. get v.objects n) c.self.view_is)
    (outside s.blocks.values (get s.objects.values n))
