use Rattle.std.proofs.Common.{◌≡◌, false, subst, sym, ap, ◌∙◌, rules}
use Rattle.std.specs.Prelude.{remove}
use Rattle.std.specs.List.Sorted.{IsNonDecreasingBy}
use Rattle.std.proofs.lemmas.List.Quantifiers.{all_pairs_remove}
use Rattle.fin_lists.specs.Members.{remove_member, is_same, IsSole, AreOnce}
use Rattle.fin_lists.proofs.MemberLemmas.{nobody, ordered_remove, sole_remove, remove_at, remove_nothing}
use Rattle.fin_lists.proofs.group.Group.remove.Goals as goal

pub invariant_of-self : goal.invariant_of-self
invariant_of-self g c =
    let xs = c.self.inside.members.items in
    let sole = c.self.inside.sole in
    let m = c.args.member in
    let i = c.in-Some.index in
    let place = rw (← c.self.view_is) at c.in-Some.ensures in
    let cut : c.remove.new.self.items ≡ remove xs i = search rules in
    let fewer : remove xs i ≡ remove_member m xs = remove_at m xs i place.within (place.here nobody) (λ k l. place.before k nobody l) in
    subst (λ l. IsNonDecreasingBy (λ m. m.object) l × IsSole sole l × AreOnce l) (sym cut) (
      ordered_remove xs i place.within c.self.invariant.0,
      subst (IsSole sole) (sym fewer) (sole_remove sole m xs c.self.invariant.1),
      all_pairs_remove (λ x y. is_same x y ≡ false) xs i place.within c.self.invariant.2,
    )

pub returns-in-Some : goal.returns-in-Some
returns-in-Some g c =
    let xs = c.self.inside.members.items in
    let place = rw (← c.self.view_is) at c.in-Some.ensures in
    let cut : c.remove.new.self.items ≡ remove xs c.in-Some.index = search rules in
    cut ∙ remove_at c.args.member xs c.in-Some.index place.within (place.here nobody) (λ k l. place.before k nobody l) ∙ ap (remove_member c.args.member) c.self.view_is

pub returns-in_default : goal.returns-in_default
returns-in_default g c = remove_nothing c.args.member c.args.self.now c.in_default.ensures
