use Rattle.std.proofs.Common.{◌≡◌, ℕ, sym, ap, ◌∙◌, ◌∷◌, [], ◌++◌, ◌+◌, arith, length, subst, List}
use Rattle.ctl_resolve.specs.declared.view.Declaration.{Declaration}
use Rattle.ctl_resolve.specs.Places.{IsIndexed, place_or_none, places_of}
use Rattle.ctl_resolve.proofs.Places.{indexed_push, places_put, place_is}
use Rattle.ctl_resolve.proofs.table.Table.push.Goals as goal

pub invariant_of-self-2 : goal.invariant_of-self-2
invariant_of-self-2 c =
    let ds = c.self.inside.declarations.items in
    let hs = c.self.inside.hides.items in
    let n = c.args.key.items in
    let d : Declaration = record { key = n; role = c.args.role; stage = c.args.stage; level = c.args.level; span = c.args.span } in
    let old = places_of c.self.inside.newest in
    let new = places_of c.insert.new.self in
    let name : c.in_ok-text.text ≡ n = c.in_ok-text.ensures ∙ c.as_slice.ensures.value in
    let items : c.push_reserved.new.self.items ≡ ds ++ d ∷ [] =
    c.push_reserved.ensures.items ∙ ap (λ m. c.reserve.new.self.items ++ (record { key = m; role = c.args.role; stage = c.args.stage; level = c.args.level; span = c.args.span }) ∷ []) name ∙ ap (λ xs. xs ++ d ∷ []) c.reserve.ensures.items in
    let hides : c.push_reserved-2.new.self.items ≡ hs ++ c.unwrap_or.result ∷ [] = c.push_reserved-2.ensures.items ∙ ap (λ xs. xs ++ c.unwrap_or.result ∷ []) c.reserve-2.ensures.items in
    let hidden : c.unwrap_or.result ≡ old n = c.unwrap_or.ensures ∙ place_is c.in_ok-hidden.hidden ∙ ap place_or_none c.in_ok-hidden.ensures.old in
    let at : c.len-place.result + 1 ≡ length ds + 1 = omega (arith, c.len-place.ensures, c.reserve.ensures.len, c.self.inside.declarations.ok.0) in
    let whole = indexed_push ds hs d c.unwrap_or.result old new (c.len-place.result + 1) c.self.invariant hidden at (places_put n c.self.inside.newest c.insert.new.self _ c.in_ok-hidden.ensures.updates) in
    subst (λ (xs : List ℕ). IsIndexed c.push_reserved.new.self.items xs new) (sym hides) (subst (λ (xs : List Declaration). IsIndexed xs (hs ++ c.unwrap_or.result ∷ []) new) (sym items) whole)
