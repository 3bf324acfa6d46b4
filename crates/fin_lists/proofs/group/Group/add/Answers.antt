use Rattle.std.proofs.Common.{◌≡◌, sym, ap, ◌∙◌, subst, arith, cond, true, false}
use Rattle.std.specs.Prelude.{insert}
use Rattle.std.specs.List.Sorted.{IsNonDecreasingBy}
use Rattle.std.proofs.lemmas.List.Sorted.{IsNonDecreasingBy-insert}
use Rattle.fin_lists.specs.Members.{insert_member, put_member, has_member, IsSole, AreOnce}
use Rattle.fin_lists.proofs.MemberLemmas.{nobody, insert_at, sole_with, once_insert, none_there, one_there}
use Rattle.fin_lists.proofs.group.Group.add.Goals as goal

pub returns-in-Some-clause-ok : goal.returns-in-Some-clause-ok
returns-in-Some-clause-ok g c =
    let xs = c.args.self.now in
    let m = c.args.member in
    let place = c.in-Some.ensures in
    ap (λ b. cond b xs (insert_member m xs)) (sym (one_there m xs c.in-Some._place place.within (place.here nobody)))

pub invariant_of-self-2 : goal.invariant_of-self-2
invariant_of-self-2 g c =
    let xs = c.self.inside.members.items in
    let m = c.args.member in
    let i = c.place_for-index.result in
    let place = rw (← c.self.view_is) at c.place_for-index.ensures in
    let none = rw (← c.self.view_is) at c.in_default.ensures in
    let sole = rw (← c.self.view_is) at c.sole_with-sole.ensures.all in
    let put : insert xs i m ≡ insert_member m xs = insert_at m xs i place.within (λ k l. place.before k nobody l) (λ k l n. place.after k nobody l n) in
    subst (λ l. IsNonDecreasingBy (λ m. m.object) l × IsSole c.sole_with-sole.result l × AreOnce l) (sym c.in_ok-insert.ensures.items) (
      IsNonDecreasingBy-insert (λ m. m.object) xs i m c.self.invariant.0 place.within place.before (λ k d l h. let above = place.after k d l h in omega arith),
      subst (IsSole c.sole_with-sole.result) (sym put) (sole_with c.sole_with-sole.result m xs c.sole_with-sole.ensures.new sole),
      subst AreOnce (sym put) (once_insert m xs none c.self.invariant.2),
    )

pub returns-clause-ok : goal.returns-clause-ok
returns-clause-ok g c =
    let xs = c.self.inside.members.items in
    let m = c.args.member in
    let place = rw (← c.self.view_is) at c.place_for-index.ensures in
    let none = none_there m c.args.self.now c.in_default.ensures in
    c.in_ok-insert.ensures.items
    ∙ insert_at m xs c.place_for-index.result place.within (λ k l. place.before k nobody l) (λ k l n. place.after k nobody l n)
    ∙ ap (insert_member m) c.self.view_is ∙ ap (λ b. cond b c.args.self.now (insert_member m c.args.self.now)) {x = false} {y = has_member m c.args.self.now} (sym none)
