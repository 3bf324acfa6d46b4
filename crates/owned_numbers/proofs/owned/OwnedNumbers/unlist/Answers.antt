use Rattle.std.proofs.Common.{◌≡◌, ◌+◌, cond, sym, ap, subst, ◌∙◌}
use Rattle.std.specs.Prelude.{false, true, nat_eq, ◌&&◌}
use Rattle.owned_numbers.specs.declared.newest.Newest.{Newest}
use Rattle.owned_numbers.specs.declared.newest.Newest.TheVariants.{Pair}
use Rattle.owned_numbers.specs.Owned.{IsApart, Owned, owns, with_newest}
use Rattle.owned_numbers.proofs.Apart.{other_gone, other_size, own_gone, own_there, pair_is, still_apart}
use Rattle.owned_numbers.proofs.owned.OwnedNumbers.unlist.Goals as goal

pub returns-then-is_pair-clause-gone : goal.returns-then-is_pair-clause-gone
returns-then-is_pair-clause-gone c = λ p k.
    let s = c.self.inside in
    let it = pair_is s.newest c.args.owner c.args.number (sym c.is_pair.ensures ∙ c.if-is_pair.true) in
    let apart = subst (λ (a : Newest). IsApart a s.others) it c.self.invariant in
    own_gone s.others c.args.owner c.args.number apart p k
    ∙ ap (λ (o : Owned). cond (nat_eq c.args.owner p && nat_eq c.args.number k) false (owns p k o)) (ap (λ (a : Newest). with_newest a s.others) (sym it) ∙ c.self.view_is)

pub returns-then-is_pair-clause-size : goal.returns-then-is_pair-clause-size
returns-then-is_pair-clause-size c =
    let s = c.self.inside in
    let it = pair_is s.newest c.args.owner c.args.number (sym c.is_pair.ensures ∙ c.if-is_pair.true) in
    let view : with_newest (Pair c.args.owner c.args.number) s.others ≡ c.args.self.now = ap (λ (a : Newest). with_newest a s.others) (sym it) ∙ c.self.view_is in
    let there : owns c.args.owner c.args.number c.args.self.now ≡ true = ap (λ (o : Owned). owns c.args.owner c.args.number o) (sym view) ∙ own_there s.others c.args.owner c.args.number in
    ap (λ b. s.others.size + cond b 1 0) there ∙ ap (λ (o : Owned). o.size) view

pub invariant_of-self-else-is_pair : goal.invariant_of-self-else-is_pair
invariant_of-self-else-is_pair c = let s = c.self.inside in still_apart s.newest s.others c.unlist.new.self c.args.owner c.args.number c.unlist.ensures.gone c.self.invariant

pub returns-else-is_pair-clause-gone : goal.returns-else-is_pair-clause-gone
returns-else-is_pair-clause-gone c = λ p k.
    let s = c.self.inside in
    other_gone s.newest s.others c.unlist.new.self c.args.owner c.args.number (sym c.is_pair.ensures ∙ c.if-is_pair.false) c.unlist.ensures.gone p k
    ∙ ap (λ (o : Owned). cond (nat_eq c.args.owner p && nat_eq c.args.number k) false (owns p k o)) c.self.view_is

pub returns-else-is_pair-clause-size : goal.returns-else-is_pair-clause-size
returns-else-is_pair-clause-size c =
    let s = c.self.inside in
    let p = c.args.owner in
    let n = c.args.number in
    subst (λ (o : Owned). (with_newest s.newest c.unlist.new.self).size + cond (owns p n o) 1 0 ≡ o.size) c.self.view_is
    (other_size s.newest s.others c.unlist.new.self p n (sym c.is_pair.ensures ∙ c.if-is_pair.false) c.self.invariant c.unlist.ensures.size)
