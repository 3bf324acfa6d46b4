use Rattle.std.proofs.Common.{◌+◌, sym, ap, arith, subst, ◌∙◌}
use Rattle.std.specs.FinMap.{get, insert}
use Rattle.number_map.proofs.Mapped.{mapped_put, unmapped}
use Rattle.owned_numbers.specs.Lists.{AreListed, Places, owners_of}
use Rattle.owned_numbers.specs.Owned.{Owned}
use Rattle.owned_numbers.specs.declared.others.Place.{Place}
use Rattle.owned_numbers.proofs.Places.{listed_more}
use Rattle.owned_numbers.proofs.others.Others.list.Goals as goal

pub put_new-requires-clause-new : goal.put_new-requires-clause-new
put_new-requires-clause-new c =
    let n = c.args.number in
    ap (λ (m : Places). get m n) c.reserve.ensures.values ∙ unmapped (λ (x : Place). x.owner) c.self.inside.places.values n (ap (λ (o : Owned). get o.owners n) c.self.view_is ∙ c.requires)

pub invariant_of-self-2 : goal.invariant_of-self-2
invariant_of-self-2 c =
    let s = c.self.inside in
    let n = c.args.number in
    let p = c.args.owner in
    let i = c.in_ok-index.index in
    let none = unmapped (λ (x : Place). x.owner) s.places.values n (ap (λ (o : Owned). get o.owners n) c.self.view_is ∙ c.requires) in
    let put = c.put_new.ensures.values ∙ ap (λ (m : Places). insert m n (record { owner = p; index = i })) c.reserve.ensures.values in
    record {
      listed = subst (λ (m : Places). AreListed m c.append.new.lists.values) (sym put) (listed_more s.places.values s.lists.values c.append.new.lists.values p i n none c.in_ok-index.ensures.ok c.self.invariant.listed);
      many = ap (λ k. k + 1) (c.self.invariant.many ∙ sym c.reserve.ensures.size) ∙ sym c.put_new.ensures.size;
      few = let more = c.if-self-ge-MOST.false in omega (arith, more);
    }

pub returns-clause-ok : goal.returns-clause-ok
returns-clause-ok c =
    let s = c.self.inside in
    let n = c.args.number in
    let put = c.put_new.ensures.values ∙ ap (λ (m : Places). insert m n (record { owner = c.args.owner; index = c.in_ok-index.index })) c.reserve.ensures.values in
    let owners = ap (λ (m : Places). owners_of m) put ∙ mapped_put (λ (x : Place). x.owner) s.places.values n (record { owner = c.args.owner; index = c.in_ok-index.index }) ∙ ap (λ (o : Owned). insert o.owners n c.args.owner) c.self.view_is in
    let size = c.put_new.ensures.size ∙ ap (λ k. k + 1) (c.reserve.ensures.size ∙ ap (λ (o : Owned). o.size) c.self.view_is) in
    λ i. record { owners = owners i; size = size i }
