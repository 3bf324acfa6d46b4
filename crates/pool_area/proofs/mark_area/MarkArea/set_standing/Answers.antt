use Rattle.std.proofs.Common.{◌≡◌, length, List, map, Some, None, refl, sym, ap, subst, ◌∙◌, vec_capacity}
use Rattle.std.specs.Prelude.{slice_get, slice_set}
use Rattle.pool_area.specs.declared.subpool.Subpool.{Subpool}
use Rattle.pool_area.specs.Rows.{NoneHas, IsFirst, change_first, first_of}
use Rattle.pool_area.specs.Subpools.{Seen, Stands, seen_in, change_subpool, with_standing}
use Rattle.pool_area.proofs.StandsLemmas.{stands_changed}
use Rattle.pool_area.proofs.SubpoolViews.{area_of, change_seen, unchanged_seen}
use Rattle.std.proofs.lemmas.Option.{slice_get_read}
use Rattle.pool_area.proofs.RowLemmas.{change_is, none_is}
use Rattle.pool_area.proofs.mark_area.MarkArea.set_standing.Goals as goal

pub invariant_of-self : goal.invariant_of-self
invariant_of-self g c =
    let s = c.self.inside in
    let rows : List (Subpool g.row.A.Denot) = s.subpools.items in
    let n = c.args.number in
    let first : IsFirst n c.in-Some.place rows = subst (IsFirst n c.in-Some.place) c.as_slice.ensures.value c.in-Some.ensures in
    let r : Subpool g.row.A.Denot = c.index_mut.result.now in
    let there : slice_get rows c.in-Some.place ≡ Some r = slice_get_read rows (length rows) c.in-Some.place r refl first.0 c.index_mut.ensures.value in
    let f : Subpool g.row.A.Denot → Subpool g.row.A.Denot = λ x. record x { standing = c.args.standing } in
    let e : change_first n f rows ≡ slice_set rows c.in-Some.place (f r) = change_is n c.in-Some.place f rows r first there in
    subst (λ (l : List (Subpool g.row.A.Denot)). Stands s.pool s.size s.given (vec_capacity s.subpools) l) e
    (stands_changed s.pool s.size s.given (vec_capacity s.subpools) (vec_capacity s.subpools) n f rows c.self.invariant (λ x is. record { start = refl; lots = λ m h. (h, refl) }) refl)

pub returns-in-Some : goal.returns-in-Some
returns-in-Some g c =
    let s = c.self.inside in
    let rows : List (Subpool g.row.A.Denot) = s.subpools.items in
    let n = c.args.number in
    let first : IsFirst n c.in-Some.place rows = subst (IsFirst n c.in-Some.place) c.as_slice.ensures.value c.in-Some.ensures in
    let r : Subpool g.row.A.Denot = c.index_mut.result.now in
    let there : slice_get rows c.in-Some.place ≡ Some r = slice_get_read rows (length rows) c.in-Some.place r refl first.0 c.index_mut.ensures.value in
    let f : Subpool g.row.A.Denot → Subpool g.row.A.Denot = λ x. record x { standing = c.args.standing } in
    let h : Seen → Seen = λ x. record x { standing = c.args.standing } in
    let e : change_first n f rows ≡ slice_set rows c.in-Some.place (f r) = change_is n c.in-Some.place f rows r first there in
    let seen : map seen_in (slice_set rows c.in-Some.place (f r)) ≡ change_subpool n h (map seen_in rows) = ap (map seen_in) (sym e) ∙ change_seen n f h rows (λ x is. refl) in
    let view : area_of s.size s.pool.used s.given (slice_set rows c.in-Some.place (f r)) ≡ with_standing n c.args.standing (area_of s.size s.pool.used s.given rows) =
    (λ i. record { size = s.size; used = s.pool.used; subpools = seen i; given = s.given }) in
    view ∙ ap (λ v. with_standing n c.args.standing v) c.self.view_is

pub returns-in_default : goal.returns-in_default
returns-in_default g c =
    let s = c.self.inside in
    let rows : List (Subpool g.row.A.Denot) = s.subpools.items in
    let n = c.args.number in
    let none : NoneHas n rows = subst (NoneHas n) c.as_slice.ensures.value c.in_default.ensures in
    let nothing : first_of n rows ≡ None = none_is n rows none in
    let h : Seen → Seen = λ x. record x { standing = c.args.standing } in
    let seen = unchanged_seen n h rows (λ x is. absurd (cc (nothing, is))) in
    let view : area_of s.size s.pool.used s.given rows ≡ with_standing n c.args.standing (area_of s.size s.pool.used s.given rows) = (λ i. record { size = s.size; used = s.pool.used; subpools = seen i; given = s.given }) in
    sym c.self.view_is ∙ view ∙ ap (λ v. with_standing n c.args.standing v) c.self.view_is
