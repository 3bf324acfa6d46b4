use Rattle.std.proofs.Common.{[], None, sym, ap, subst, ◌∙◌}
use Rattle.std.specs.FinMap.{empty, get, insert}
use Rattle.number_map.specs.Table.{mapped}
use Rattle.pool_store.specs.declared.entry.Entry.TheVariants.{Standard}
use Rattle.pool_store.specs.Entries.{Stored, pool_of, stored_in}
use Rattle.pool_store.specs.Store as store
use Rattle.pool_store.specs.Store.{Store}
use Rattle.pool_store.proofs.Tied.{Other, Tied, put_seen, put_tied, spares_same}
use Rattle.number_map.proofs.Mapped.{unmapped}
use Rattle.pool_store.proofs.block_store.BlockStore.standard.Goals as goal

pub invariant_of-self-2 : goal.invariant_of-self-2
invariant_of-self-2 g c =
    let s = c.self.inside in
    let blocks = s.blocks.values in
    let e = c.put_new.ensures.values ∙ ap (λ t. insert t c.args.object (Standard c.in_ok-words.words)) c.reserve.ensures.values in
    record {
      tied = subst (λ t. Tied t blocks) (sym e) (put_tied s.objects.values blocks blocks c.args.object (Standard c.in_ok-words.words) (spares_same (Other c.args.object) blocks) c.self.invariant.tied tt);
      addresses = c.self.invariant.addresses;
    }

pub returns-clause-ok : goal.returns-clause-ok
returns-clause-ok g c =
    let s = c.self.inside in
    let blocks = s.blocks.values in
    let n = c.args.object in
    let e = c.put_new.ensures.values ∙ ap (λ t. insert t n (Standard c.in_ok-words.words)) c.reserve.ensures.values in
    let seen = ap (mapped (stored_in blocks)) e ∙ put_seen s.objects.values blocks blocks n (Standard c.in_ok-words.words) (spares_same (Other n) blocks) c.self.invariant.tied
    ∙ ap (λ ws. insert (mapped (stored_in blocks) s.objects.values) n (let r : Stored = record { spot = None; site = None; words = ws } in r)) c.in_ok-words.ensures in
    ap (λ o. let r : Store = record { objects = o; blocks = mapped pool_of blocks; given = s.given; marks = empty; opened = []; next_subpool = 1 } in r) seen
    ∙ ap (λ v. store.with_object n c.args.words v) c.self.view_is

pub put_new-requires-clause-new : goal.put_new-requires-clause-new
put_new-requires-clause-new g c =
    let s = c.self.inside in
    let n = c.args.object in
    ap (λ t. get t n) c.reserve.ensures.values ∙ unmapped (stored_in s.blocks.values) s.objects.values n (ap (λ (v : Store). get v.objects n) c.self.view_is ∙ c.requires)
