use Rattle.std.proofs.Common.{◌≡◌, refl, sym, ap, ◌∙◌}
use Rattle.pool_store.specs.declared.entry.Entry.{Entry}
use Rattle.pool_store.specs.declared.entry.Entry.TheVariants.{Standard, InBlock}
use Rattle.pool_store.specs.Entries.{stored_in, spot_in}
use Rattle.pool_store.specs.Store as store
use Rattle.pool_store.specs.Store.{Store}
use Rattle.pool_store.proofs.Steps.{spot_of_entry, no_spot}
use Rattle.pool_store.proofs.block_store.BlockStore.spot_of.Goals as goal

pub returns-in-Some : goal.returns-in-Some
returns-in-Some g c =
    c.spot.ensures ∙ seen_spot c.in-Some.entry.now ∙ sym (spot_of_entry c.self.inside.objects.values c.self.inside.blocks.values c.args.object c.in-Some.entry.now (sym c.in-Some.ensures))
    ∙ ap (store.spot_of c.args.object) c.self.view_is
  where
    seen_spot : (e : Entry g.row.A.Denot) → spot_in e ≡ (stored_in c.self.inside.blocks.values e).spot
    seen_spot (Standard ws) = refl
    seen_spot (InBlock s) = refl

pub returns-in-None : goal.returns-in-None
returns-in-None g c =
    sym (no_spot c.self.inside.objects.values c.self.inside.blocks.values c.args.object (sym c.in-None.ensures)) ∙ ap (store.spot_of c.args.object) c.self.view_is
