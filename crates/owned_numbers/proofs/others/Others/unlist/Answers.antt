use Rattle.std.proofs.Common.{◌≡◌, ℕ, ◌+◌, Some, cond, refl, sym, ap, arith, subst, ◌∙◌}
use Rattle.std.specs.Prelude.{false, true, nat_eq, is_some, ◌&&◌}
use Rattle.std.specs.Option.{option_map}
use Rattle.std.specs.FinMap.{get}
use borrow.Author.Tests.{eq-eqb}
use Rattle.number_map.specs.Table.{change}
use Rattle.owned_numbers.specs.declared.others.Place.{Place}
use Rattle.owned_numbers.specs.Lists.{AreListed, Places, owners_of}
use Rattle.owned_numbers.specs.Owned.{Owned, is_owner, owns}
use Rattle.owned_numbers.proofs.Apart.{none_gone}
use Rattle.owned_numbers.proofs.Places.{listed_less, listed_moved, owner_is, owners_less, owners_moved}
use Rattle.owned_numbers.proofs.others.Others.unlist.Goals as goal

-- where the owner does not have the number
pub returns-in_default-clause-gone : goal.returns-in_default-clause-gone
returns-in_default-clause-gone c =
    let p = c.args.owner in
    let n = c.args.number in
    none_gone c.args.self.now p n (ap (λ (o : Owned). owns p n o) (sym c.self.view_is) ∙ ap (is_owner p) (owner_is c.self.inside.places.values n) ∙ c.in_default.ensures)

pub returns-in_default-clause-size : goal.returns-in_default-clause-size
returns-in_default-clause-size c =
    let p = c.args.owner in
    let n = c.args.number in
    let none : owns p n c.args.self.now ≡ false = ap (λ (o : Owned). owns p n o) (sym c.self.view_is) ∙ ap (is_owner p) (owner_is c.self.inside.places.values n) ∙ c.in_default.ensures in
    ap (λ b. c.args.self.now.size + cond b 1 0) none ∙ omega arith

-- the owner that a place names has the number
has : (places : Places) (p i n : ℕ) → get places n ≡ Some (record { owner = p; index = i }) → is_owner p (get (owners_of places) n) ≡ true
has places p i n own = ap (is_owner p) (owner_is places n ∙ ap (option_map (λ (x : Place). x.owner)) own) ∙ eq-eqb p p refl

-- where the number was the last of its list
pub invariant_of-self-in-None : goal.invariant_of-self-in-None
invariant_of-self-in-None c =
    let s = c.self.inside in
    let own = c.in-Some.ensures in
    let gone : is_some c.remove.result ≡ true = ap is_some (c.remove.ensures.value ∙ own) in
    let less = ap (λ b. c.remove.new.self.size + cond b 1 0) (sym gone) ∙ c.remove.ensures.size in
    let many = c.self.invariant.many in
    let few = c.self.invariant.few in
    record {
      listed = subst (λ (m : Places). AreListed m c.take_out.new.lists.values) (sym c.remove.ensures.values)
          (listed_less s.places.values s.lists.values c.take_out.new.lists.values c.args.owner c.in-Some.index c.args.number own c.in-None.ensures c.self.invariant.listed);
      many = omega (arith, less, many);
      few = omega (arith, few);
    }

pub returns-in-None-clause-gone : goal.returns-in-None-clause-gone
returns-in-None-clause-gone c = λ p k.
    let s = c.self.inside in
    ap (λ (m : Places). is_owner p (get (owners_of m) k)) c.remove.ensures.values ∙ owners_less s.places.values c.args.owner c.in-Some.index c.args.number c.in-Some.ensures p k
    ∙ ap (λ (o : Owned). cond (nat_eq c.args.owner p && nat_eq c.args.number k) false (owns p k o)) c.self.view_is

pub returns-in-None-clause-size : goal.returns-in-None-clause-size
returns-in-None-clause-size c =
    let s = c.self.inside in
    let p = c.args.owner in
    let n = c.args.number in
    let there : owns p n c.args.self.now ≡ true = ap (λ (o : Owned). owns p n o) (sym c.self.view_is) ∙ has s.places.values p c.in-Some.index n c.in-Some.ensures in
    let gone : is_some c.remove.result ≡ true = ap is_some (c.remove.ensures.value ∙ c.in-Some.ensures) in
    ap (λ b. c.remove.new.self.size + cond b 1 0) (there ∙ sym gone) ∙ c.remove.ensures.size ∙ ap (λ (o : Owned). o.size) c.self.view_is

-- where the last of its list came to its place
pub invariant_of-self : goal.invariant_of-self
invariant_of-self c =
    let s = c.self.inside in
    let own = c.in-Some.ensures in
    let i = c.in-Some.index in
    let m = c.in-Some-take_out.moved in
    let gone : is_some c.remove.result ≡ true = ap is_some (c.remove.ensures.value ∙ own) in
    let less = ap (λ b. c.remove.new.self.size + cond b 1 0) (sym gone) ∙ c.remove.ensures.size in
    let same = c.place_at.ensures.size in
    let many = c.self.invariant.many in
    let few = c.self.invariant.few in
    let placed = c.place_at.ensures.values ∙ ap (λ (t : Places). change m (λ (x : Place). record x { index = i }) t) c.remove.ensures.values in
    record {
      listed = subst (λ (t : Places). AreListed t c.take_out.new.lists.values) (sym placed)
          (listed_moved s.places.values s.lists.values c.take_out.new.lists.values c.args.owner i c.args.number m own c.in-Some-take_out.ensures c.self.invariant.listed);
      many = omega (arith, less, same, many);
      few = omega (arith, few);
    }

pub returns-in-Some-take_out-clause-gone : goal.returns-in-Some-take_out-clause-gone
returns-in-Some-take_out-clause-gone c = λ p k.
    let s = c.self.inside in
    let i = c.in-Some.index in
    ap (λ (t : Places). is_owner p (get (owners_of t) k)) c.place_at.ensures.values ∙ ap (is_owner p) (owners_moved c.remove.new.self.values c.in-Some-take_out.moved i k)
    ∙ ap (λ (t : Places). is_owner p (get (owners_of t) k)) c.remove.ensures.values ∙ owners_less s.places.values c.args.owner i c.args.number c.in-Some.ensures p k
    ∙ ap (λ (o : Owned). cond (nat_eq c.args.owner p && nat_eq c.args.number k) false (owns p k o)) c.self.view_is

pub returns-in-Some-take_out-clause-size : goal.returns-in-Some-take_out-clause-size
returns-in-Some-take_out-clause-size c =
    let s = c.self.inside in
    let p = c.args.owner in
    let n = c.args.number in
    let there : owns p n c.args.self.now ≡ true = ap (λ (o : Owned). owns p n o) (sym c.self.view_is) ∙ has s.places.values p c.in-Some.index n c.in-Some.ensures in
    let gone : is_some c.remove.result ≡ true = ap is_some (c.remove.ensures.value ∙ c.in-Some.ensures) in
    ap (λ k. k + cond (owns p n c.args.self.now) 1 0) c.place_at.ensures.size ∙ ap (λ b. c.remove.new.self.size + cond b 1 0) (there ∙ sym gone) ∙ c.remove.ensures.size ∙ ap (λ (o : Owned). o.size) c.self.view_is
