use Rattle.std.proofs.Common.{ℕ, ◌-◌, List, length, sym, ap, ◌∙◌}
use Rattle.std.specs.Prelude.{slice_get}
use Rattle.owned_numbers.specs.Owned.{Owned, owns}
use Rattle.owned_numbers.proofs.Items.{empty_at, item_here, item_none}
use Rattle.owned_numbers.proofs.Places.{owner_nowhere, owner_there}
use Rattle.owned_numbers.proofs.others.Others.any_of.Goals as goal

pub returns-in-Some-last-clause-some : goal.returns-in-Some-last-clause-some
returns-in-Some-last-clause-some c =
    let s = c.self.inside in
    let lists = s.lists.values in
    let p = c.args.owner in
    let n = c.in-Some-last.number.now in
    let v = c.in-Some.list.now in
    ap (λ (o : Owned). owns p n o) (sym c.self.view_is) ∙ owner_there s.places.values lists p (length v.items - 1) n c.self.invariant.listed
    (item_here lists p v (sym c.in-Some.ensures) (length v.items - 1) ∙ ap (λ (l : List ℕ). slice_get l (length l - 1)) (sym c.deref.ensures.value) ∙ sym c.in-Some-last.ensures.value)

pub returns-in-None-last-clause-none : goal.returns-in-None-last-clause-none
returns-in-None-last-clause-none c = λ n.
    let s = c.self.inside in
    let lists = s.lists.values in
    let p = c.args.owner in
    ap (λ (o : Owned). owns p n o) (sym c.self.view_is) ∙ owner_nowhere s.places.values lists p c.self.invariant.listed (λ i. item_here lists p c.in-Some.list.now (sym c.in-Some.ensures) i ∙ empty_at c.in-Some.list.now.items (ap (λ (l : List ℕ). slice_get l (length l - 1)) (sym c.deref.ensures.value) ∙ sym c.in-None-last.ensures.value) i) n

pub returns-in-None-clause-none : goal.returns-in-None-clause-none
returns-in-None-clause-none c = λ n.
    let s = c.self.inside in
    let lists = s.lists.values in
    let p = c.args.owner in
    ap (λ (o : Owned). owns p n o) (sym c.self.view_is) ∙ owner_nowhere s.places.values lists p c.self.invariant.listed (λ i. item_none lists p (sym c.in-None.ensures) i) n
