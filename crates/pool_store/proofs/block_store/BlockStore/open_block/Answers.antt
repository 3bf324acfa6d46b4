use Rattle.std.proofs.Common.{◌≡◌, [], sym, ap, subst, ◌∙◌, arith}
use Rattle.std.specs.Ordering.{nat_cmp}
use Rattle.std.specs.FinMap.{empty, get, insert, get-empty}
use Rattle.number_map.specs.Table.{mapped, AreGiven}
use Rattle.number_map.proofs.Mapped.{mapped_none, mapped_put}
use Rattle.pool_area.specs.Blocks.{Blocks}
use Rattle.pool_store.specs.Entries.{pool_of, holder_of, stored_in, Ties}
use Rattle.pool_store.specs.Store as store
use Rattle.pool_store.specs.Store.{Store}
use Rattle.pool_store.proofs.Areas.{all_given_put, not_seen}
use Rattle.pool_store.proofs.Tied.{Any, all_seen, all_tied, spares_new}
use Rattle.pool_store.proofs.block_store.BlockStore.open_block.Goals as goal

pub put_new-requires-clause-new : goal.put_new-requires-clause-new
put_new-requires-clause-new g c =
    ap (λ t. get t c.args.pool) c.reserve.ensures.values ∙ not_seen c.self.inside.blocks.values c.args.pool (ap (λ v. get v.blocks c.args.pool) c.self.view_is ∙ c.requires.new)

pub invariant_of-self-2 : goal.invariant_of-self-2
invariant_of-self-2 g c =
    let s = c.self.inside in
    let blocks = s.blocks.values in
    let p = c.args.pool in
    let new : Blocks = c.in_ok-area.area in
    let none = not_seen blocks p (ap (λ v. get v.blocks p) c.self.view_is ∙ c.requires.new) in
    let e = c.put_new.ensures.values ∙ ap (λ t. insert t p new) c.reserve.ensures.values in
    let nothing : AreGiven s.given new.out = subst (λ t. AreGiven s.given t) (sym (ap (λ b. b.out) c.in_ok-area.ensures)) (λ q above. get-empty nat_cmp q) in
    subst (λ b. Ties s.objects.values b s.given) (sym e) (record {
      tied = all_tied s.objects.values blocks (insert blocks p new) (spares_new Any blocks p new none) c.self.invariant.tied;
      addresses = all_given_put s.given s.given p blocks new (omega arith) c.self.invariant.addresses nothing;
    })

pub returns-clause-ok : goal.returns-clause-ok
returns-clause-ok g c =
    let s = c.self.inside in
    let blocks = s.blocks.values in
    let p = c.args.pool in
    let new : Blocks = c.in_ok-area.area in
    let none = not_seen blocks p (ap (λ v. get v.blocks p) c.self.view_is ∙ c.requires.new) in
    let e = c.put_new.ensures.values ∙ ap (λ t. insert t p new) c.reserve.ensures.values in
    let objects = ap (λ b. mapped (stored_in b) s.objects.values) e ∙ all_seen s.objects.values blocks (insert blocks p new) (spares_new Any blocks p new none) c.self.invariant.tied in
    let pool : pool_of new ≡ record { size = c.args.units; free = c.args.count; out = empty } =
    ap pool_of c.in_ok-area.ensures ∙ (λ i. let e = mapped_none holder_of in record { size = c.args.units; free = c.args.count; out = e i }) in
    let pools = ap (mapped pool_of) e ∙ mapped_put pool_of blocks p new ∙ ap (insert (mapped pool_of blocks) p) pool in
    let after : record { objects = mapped (stored_in c.put_new.new.self.values) s.objects.values; blocks = mapped pool_of c.put_new.new.self.values; given = s.given; marks = empty; opened = []; next_subpool = 1 }
    ≡ store.with_pool p c.args.units c.args.count (record { objects = mapped (stored_in blocks) s.objects.values; blocks = mapped pool_of blocks; given = s.given; marks = empty; opened = []; next_subpool = 1 }) =
    λ i. record { objects = objects i; blocks = pools i; given = s.given; marks = empty; opened = []; next_subpool = 1 } in
    after ∙ ap (λ v. store.with_pool p c.args.units c.args.count v) c.self.view_is
