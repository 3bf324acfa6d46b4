use Rattle.std.proofs.Common.{◌≡◌, ◌+◌, ◌*◌, ◌≤◌, length, List, [], ◌∷◌, ◌++◌, map, refl, sym, ap, subst, ◌∙◌, arith, vec_capacity}
use Rattle.mark_pool.specs.Marks.{Marks}
use Rattle.pool_area.specs.declared.lot.Lot.{Lot}
use Rattle.pool_area.specs.declared.subpool.Subpool.{Subpool}
use Rattle.pool_area.specs.Subpools.{Stands, seen_in, is_last, count_of, with_new_block, is_overfull}
use Rattle.pool_area.proofs.StandsLemmas.{stands_taken, stands_again}
use Rattle.pool_area.proofs.SubpoolViews.{area_of, taken_view, count_seen, room_left}
use Rattle.pool_area.proofs.mark_area.MarkArea.allocate.Goals as goal

pub invariant_of-self : goal.invariant_of-self
invariant_of-self g c =
    let s = c.self.inside in
    let front : List (Subpool g.row.A.Denot) = c.take_last-last.new.self.items in
    let r : Subpool g.row.A.Denot = c.take_last-last.result in
    let taken : s.subpools.items ≡ front ++ r ∷ [] = c.take_last-last.ensures.items in
    let k : Stands s.pool s.size s.given (vec_capacity s.subpools) (front ++ r ∷ []) = subst (λ (l : List (Subpool g.row.A.Denot)). Stands s.pool s.size s.given (vec_capacity s.subpools) l) taken c.self.invariant in
    let lot : Lot = c.take_lot-lot.result in
    let t : Subpool g.row.A.Denot = record { number = r.number; standing = r.standing; start = r.start; lots = c.push_reserved.new.self } in
    let lots : t.lots.items ≡ r.lots.items ++ lot ∷ [] = c.push_reserved.ensures.items ∙ ap (λ (l : List Lot). l ++ lot ∷ []) c.in-Ok.ensures.items in
    let left = room_left s.size s.pool.used c.args.words (ap (λ v. is_overfull (c.args.words * 8) v) c.self.view_is ∙ c.requires.room) in
    let long = c.self.invariant.size in
    let wide : 10 ≤ vec_capacity c.push_reserved-in-Ok.new.self = omega (arith, c.push_reserved-in-Ok.ensures.capacity, c.take_last-last.ensures.capacity, c.self.invariant.room) in
    subst (λ (l : List (Subpool g.row.A.Denot)). Stands c.take_lot-lot.new.pool s.size s.given (vec_capacity c.push_reserved-in-Ok.new.self) l) (sym c.push_reserved-in-Ok.ensures.items)
    (stands_taken s.pool c.take_lot-lot.new.pool s.size s.given (vec_capacity s.subpools) (vec_capacity c.push_reserved-in-Ok.new.self) c.args.object c.args.words front r t lot k
    (omega arith) c.take_lot-lot.ensures.pool c.take_lot-lot.ensures.lot refl lots wide)

pub returns-in-Ok-clause-ok : goal.returns-in-Ok-clause-ok
returns-in-Ok-clause-ok g c =
    let s = c.self.inside in
    let front : List (Subpool g.row.A.Denot) = c.take_last-last.new.self.items in
    let r : Subpool g.row.A.Denot = c.take_last-last.result in
    let taken : s.subpools.items ≡ front ++ r ∷ [] = c.take_last-last.ensures.items in
    let lot : Lot = c.take_lot-lot.result in
    let t : Subpool g.row.A.Denot = record { number = r.number; standing = r.standing; start = r.start; lots = c.push_reserved.new.self } in
    let lots : t.lots.items ≡ r.lots.items ++ lot ∷ [] = c.push_reserved.ensures.items ∙ ap (λ (l : List Lot). l ++ lot ∷ []) c.in-Ok.ensures.items in
    let n = c.args.number in
    let q : Marks = c.take_lot-lot.new.pool in
    let last = ap (λ (l : List (Subpool g.row.A.Denot)). is_last n (map seen_in l)) (sym taken) ∙ ap (λ v. is_last n v.subpools) c.self.view_is ∙ c.requires.last in
    let used : q.used ≡ s.pool.used + c.args.words = ap (λ (m : Marks). m.used) c.take_lot-lot.ensures.pool in (
      c.len-index.ensures ∙ c.reserve.new.self.ok.0 ∙ ap length c.in-Ok.ensures.items ∙ count_seen s.size s.pool.used s.given n front r last
          ∙ ap (λ (l : List (Subpool g.row.A.Denot)). count_of n (area_of s.size s.pool.used s.given l)) (sym taken) ∙ ap (count_of n) c.self.view_is,
      ap (λ (l : List (Subpool g.row.A.Denot)). area_of s.size q.used s.given l) c.push_reserved-in-Ok.ensures.items
          ∙ ap (λ u. area_of s.size u s.given (front ++ t ∷ [])) used
          ∙ taken_view s.size s.pool.used s.given n c.args.object c.args.words front r t lot last refl refl refl lots c.take_lot-lot.ensures.lot.holds
          ∙ ap (λ (l : List (Subpool g.row.A.Denot)). with_new_block n c.args.object c.args.words (area_of s.size s.pool.used s.given l)) (sym taken)
          ∙ ap (λ v. with_new_block n c.args.object c.args.words v) c.self.view_is,
    )

pub invariant_of-self-in-Err : goal.invariant_of-self-in-Err
invariant_of-self-in-Err g c =
    let s = c.self.inside in
    let front : List (Subpool g.row.A.Denot) = c.take_last-last.new.self.items in
    let r : Subpool g.row.A.Denot = c.take_last-last.result in
    let taken : s.subpools.items ≡ front ++ r ∷ [] = c.take_last-last.ensures.items in
    let k : Stands s.pool s.size s.given (vec_capacity s.subpools) (front ++ r ∷ []) = subst (λ (l : List (Subpool g.row.A.Denot)). Stands s.pool s.size s.given (vec_capacity s.subpools) l) taken c.self.invariant in
    let t : Subpool g.row.A.Denot = record { number = r.number; standing = r.standing; start = r.start; lots = c.reserve.new.self } in
    let wide : 10 ≤ vec_capacity c.push_reserved-in-Err.new.self = omega (arith, c.push_reserved-in-Err.ensures.capacity, c.take_last-last.ensures.capacity, c.self.invariant.room) in
    subst (λ (l : List (Subpool g.row.A.Denot)). Stands s.pool s.size s.given (vec_capacity c.push_reserved-in-Err.new.self) l) (sym c.push_reserved-in-Err.ensures.items)
    (stands_again s.pool s.size s.given (vec_capacity s.subpools) (vec_capacity c.push_reserved-in-Err.new.self) front r t k refl c.in-Err.ensures.items wide)
