use Rattle.std.proofs.Common.{◌≡◌, ◌<◌, length, List, [], ◌∷◌, ◌++◌, sym, ap, subst, ◌∙◌, arith, vec_capacity}
use Rattle.pool_area.specs.declared.subpool.Subpool.{Subpool}
use Rattle.pool_area.specs.Subpools.{Stands, without_last}
use Rattle.pool_area.proofs.SubpoolViews.{area_of, dropped_view}
use Rattle.std.proofs.lemmas.Bool.Decides.{nat_tests}
use Rattle.pool_area.proofs.StandsLemmas.{its_lots, its_rest, its_end_fits, stands_dropped, its_start}
use Rattle.pool_area.proofs.mark_area.MarkArea.drop_last.Goals as goal

pub bring_back-requires-clause-lots : goal.bring_back-requires-clause-lots
bring_back-requires-clause-lots g c =
    let s = c.self.inside in
    let front : List (Subpool g.row.A.Denot) = c.take_last-last.new.self.items in
    let r : Subpool g.row.A.Denot = c.take_last-last.result in
    let k : Stands s.pool s.size s.given (vec_capacity s.subpools) (front ++ r ∷ []) = subst (λ (l : List (Subpool g.row.A.Denot)). Stands s.pool s.size s.given (vec_capacity s.subpools) l) c.take_last-last.ensures.items c.self.invariant in
    its_lots s.pool s.size s.given (vec_capacity s.subpools) front r k

pub bring_back-requires-clause-rest : goal.bring_back-requires-clause-rest
bring_back-requires-clause-rest g c =
    let s = c.self.inside in
    let front : List (Subpool g.row.A.Denot) = c.take_last-last.new.self.items in
    let r : Subpool g.row.A.Denot = c.take_last-last.result in
    let k : Stands s.pool s.size s.given (vec_capacity s.subpools) (front ++ r ∷ []) = subst (λ (l : List (Subpool g.row.A.Denot)). Stands s.pool s.size s.given (vec_capacity s.subpools) l) c.take_last-last.ensures.items c.self.invariant in
    its_rest s.pool s.size s.given (vec_capacity s.subpools) front r k

pub bring_back-requires-clause-fits : goal.bring_back-requires-clause-fits
bring_back-requires-clause-fits g c =
    let s = c.self.inside in
    let front : List (Subpool g.row.A.Denot) = c.take_last-last.new.self.items in
    let r : Subpool g.row.A.Denot = c.take_last-last.result in
    let k : Stands s.pool s.size s.given (vec_capacity s.subpools) (front ++ r ∷ []) = subst (λ (l : List (Subpool g.row.A.Denot)). Stands s.pool s.size s.given (vec_capacity s.subpools) l) c.take_last-last.ensures.items c.self.invariant in
    its_end_fits s.pool s.size s.given (vec_capacity s.subpools) front r k

pub invariant_of-self-else-is_empty : goal.invariant_of-self-else-is_empty
invariant_of-self-else-is_empty g c =
    let s = c.self.inside in
    let front : List (Subpool g.row.A.Denot) = c.take_last-last.new.self.items in
    let r : Subpool g.row.A.Denot = c.take_last-last.result in
    let k : Stands s.pool s.size s.given (vec_capacity s.subpools) (front ++ r ∷ []) = subst (λ (l : List (Subpool g.row.A.Denot)). Stands s.pool s.size s.given (vec_capacity s.subpools) l) c.take_last-last.ensures.items c.self.invariant in
    let some : 0 < length front = first_of (omega (arith, c.take_last-last.new.self.ok.0), grind (arith, nat_tests, c.take_last-last.new.self.ok.0)) in
    let given : s.given ≡ c.args.self.now.given = ap (λ v. v.given) c.self.view_is in
    let new : s.given < c.args.number = omega (arith, c.requires.new) in
    subst (λ m. Stands c.release.new.self s.size s.given m front) (sym c.take_last-last.ensures.capacity)
    (stands_dropped s.pool s.size s.given (vec_capacity s.subpools) front r k c.bring_back.new.pool c.bring_back.ensures.pool c.bring_back.ensures.held
    c.release.new.self c.args.number new c.release.ensures.used c.release.ensures.places.0 c.release.ensures.places.1 c.release.ensures.other some)

pub returns-else-is_empty : goal.returns-else-is_empty
returns-else-is_empty g c =
    let s = c.self.inside in
    let front : List (Subpool g.row.A.Denot) = c.take_last-last.new.self.items in
    let r : Subpool g.row.A.Denot = c.take_last-last.result in
    let k : Stands s.pool s.size s.given (vec_capacity s.subpools) (front ++ r ∷ []) = subst (λ (l : List (Subpool g.row.A.Denot)). Stands s.pool s.size s.given (vec_capacity s.subpools) l) c.take_last-last.ensures.items c.self.invariant in
    let some : 0 < length front = first_of (omega (arith, c.take_last-last.new.self.ok.0), grind (arith, nat_tests, c.take_last-last.new.self.ok.0)) in
    let given : s.given ≡ c.args.self.now.given = ap (λ v. v.given) c.self.view_is in
    let new : s.given < c.args.number = omega (arith, c.requires.new) in
    dropped_view s.size c.release.new.self.used s.pool.used s.given c.args.number front r some
    (its_start s.pool s.size s.given (vec_capacity s.subpools) front r k c.bring_back.new.pool c.bring_back.ensures.pool c.bring_back.ensures.held
    c.release.new.self c.args.number new c.release.ensures.used c.release.ensures.places.0 c.release.ensures.places.1)
    ∙ sym (ap (λ (l : List (Subpool g.row.A.Denot)). without_last c.args.number (area_of s.size s.pool.used s.given l)) c.take_last-last.ensures.items)
    ∙ ap (λ v. without_last c.args.number v) c.self.view_is
