use Rattle.std.proofs.Common.{◌≡◌, length, List, [], ◌∷◌, ◌++◌, map, sym, ap, subst, ◌∙◌, arith, vec_capacity}
use Rattle.std.proofs.lemmas.List.{length-map}
use Rattle.mark_pool.specs.Marks.{Marks}
use Rattle.pool_area.specs.declared.subpool.Subpool.{Subpool}
use Rattle.pool_area.specs.Subpools.{Stands, seen_in}
use Rattle.pool_area.proofs.StandsLemmas.{stands_marked}
use Rattle.pool_area.specs.declared.subpool.Standing.TheVariants.{Attached}
use Rattle.pool_area.proofs.mark_area.MarkArea.create.Goals as goal

pub invariant_of-self : goal.invariant_of-self
invariant_of-self g c =
    let s = c.self.inside in
    let e = c.in-Some.ensures.2 in
    let rows : List (Subpool g.row.A.Denot) = s.subpools.items in
    let r : Subpool g.row.A.Denot = record { number = c.args.number; standing = Attached; start = c.used.result; lots = c.new.result } in
    let given : s.given ≡ c.args.self.now.given = ap (λ v. v.given) c.self.view_is in
    let long : length (map seen_in rows) ≡ length c.args.self.now.subpools = ap (λ v. length v.subpools) c.self.view_is in
    let same = length-map rows seen_in in
    let start : r.start ≡ s.pool.used = c.used.ensures ∙ ap (λ (m : Marks). m.used) e in
    let room = c.push_reserved.ensures.capacity in
    subst (λ (l : List (Subpool g.row.A.Denot)). Stands c.mark.new.self s.size c.args.number (vec_capacity c.push_reserved.new.self) l) (sym c.push_reserved.ensures.items)
    (subst (λ (m : Marks). Stands m s.size c.args.number (vec_capacity c.push_reserved.new.self) (rows ++ r ∷ [])) (sym e)
    (stands_marked s.pool s.size s.given c.args.number (vec_capacity s.subpools) (vec_capacity c.push_reserved.new.self) rows r c.self.invariant
    (omega (arith, c.requires.new)) start c.new.ensures.items (omega (arith, c.requires.few)) (omega (arith, c.self.invariant.room))))
