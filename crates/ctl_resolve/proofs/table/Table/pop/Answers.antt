use Rattle.std.proofs.Common.{◌≡◌, ℕ, ap, ◌∙◌, ◌∷◌, [], ◌++◌, subst, List, arith, length, ◌+◌, rules, cond}
use Rattle.std.specs.Str.{bytes_eq}
use Rattle.std.proofs.lemmas.Bool.{cond-true}
use Rattle.std.specs.Option.{option_to_list}
use Rattle.ctl_resolve.specs.declared.view.Declaration.{Declaration}
use Rattle.ctl_resolve.specs.Places.{IsIndexed, place_or_none, places_of, last_place}
use Rattle.ctl_resolve.proofs.Places.{indexed_pop, places_put, last_place_append, bytes_same}
use Rattle.ctl_resolve.proofs.table.Table.pop.Goals as goal

pub invariant_of-self : goal.invariant_of-self
invariant_of-self c =
    let ds = c.pop.new.self.items in
    let hs = c.pop-in-Some.new.self.items in
    let d = c.in-Some.last in
    let h = c.in-Some-pop.hidden in
    let old = places_of c.self.inside.newest in
    let declared : c.self.inside.declarations.items ≡ ds ++ d ∷ [] = c.pop.ensures.items ∙ ap (λ o. ds ++ option_to_list o) c.in-Some.is in
    let hidden : c.self.inside.hides.items ≡ hs ++ h ∷ [] = c.pop-in-Some.ensures.items ∙ ap (λ o. hs ++ option_to_list o) c.in-Some-pop.is in
    let whole = subst (λ (xs : List ℕ). IsIndexed (ds ++ d ∷ []) xs old) hidden (subst (λ (xs : List Declaration). IsIndexed xs c.self.inside.hides.items old) declared c.self.invariant) in
    let new = places_of (c.get_mut.follows.lender h) in
    let put = places_put c.as_bytes.result.now c.self.inside.newest (c.get_mut.follows.lender h) h ((c.get_mut.follows.holds h).3 (search rules)) in
    indexed_pop ds hs d h old new whole (subst (λ (n : List ℕ). (cs : List ℕ) → new cs ≡ cond (bytes_eq cs n) h (old cs)) c.as_bytes.ensures put)

pub invariant_of-self-in-Some-pop : goal.invariant_of-self-in-Some-pop
invariant_of-self-in-Some-pop c =
    let ds = c.pop.new.self.items in
    let d = c.in-Some.last in
    let old = places_of c.self.inside.newest in
    let declared : c.self.inside.declarations.items ≡ ds ++ d ∷ [] = c.pop.ensures.items ∙ ap (λ o. ds ++ option_to_list o) c.in-Some.is in
    let place : old d.key ≡ length ds + 1 = c.self.invariant.newest d.key ∙ ap (λ xs. last_place xs d.key) declared ∙ last_place_append ds d d.key ∙ cond-true _ _ _ (bytes_same d.key) in
    let none : 0 ≡ old d.key = ap place_or_none c.in_default-get_mut.ensures.value ∙ ap old c.as_bytes.ensures in
    absurd (omega (arith, place, none))
