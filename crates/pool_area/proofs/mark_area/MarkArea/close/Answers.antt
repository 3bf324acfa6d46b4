use Rattle.std.proofs.Common.{◌≡◌, suc, ◌≤◌, length, List, [], ◌∷◌, ◌++◌, refl, sym, ap, subst, ◌∙◌, arith}
use Rattle.mark_pool.specs.Marks.{Marks}
use Rattle.pool_area.specs.declared.subpool.Subpool.{Subpool}
use Rattle.pool_area.specs.Rows.{AreLots, AreStacked, rows_end, end_of, HeldFrom, IsBack}
use Rattle.pool_area.proofs.StackLemmas.{stack_popped, rows_end_push}
use Rattle.pool_area.proofs.StandsLemmas.{lots_end}
use Rattle.pool_area.proofs.mark_area.MarkArea.close.Goals as goal

pub bring_back-requires-clause-lots : goal.bring_back-requires-clause-lots
bring_back-requires-clause-lots g c =
    let i = c.loop-subpool.invariant in
    let p : Marks = c.loop-subpool.pool in
    let front : List (Subpool g.row.A.Denot) = c.pop.new.self.items in
    let r : Subpool g.row.A.Denot = c.in-Some.subpool in
    let all : c.loop-subpool.subpools.items ≡ front ++ r ∷ [] = c.in-Some.ensures.items in
    let t = stack_popped p.home 0 front r (subst (AreStacked p.home 0) all i.stacked) in
    let end : rows_end 0 c.loop-subpool.subpools.items ≡ end_of r.start r.lots.items = ap (rows_end 0) all ∙ rows_end_push 0 front r ∙ ap (λ m. end_of m r.lots.items) (sym t.1) in
    subst (λ m. AreLots p.home m r.lots.items) (sym t.1) t.2

pub bring_back-requires-clause-rest : goal.bring_back-requires-clause-rest
bring_back-requires-clause-rest g c =
    let i = c.loop-subpool.invariant in
    let p : Marks = c.loop-subpool.pool in
    let front : List (Subpool g.row.A.Denot) = c.pop.new.self.items in
    let r : Subpool g.row.A.Denot = c.in-Some.subpool in
    let all : c.loop-subpool.subpools.items ≡ front ++ r ∷ [] = c.in-Some.ensures.items in
    let t = stack_popped p.home 0 front r (subst (AreStacked p.home 0) all i.stacked) in
    let end : rows_end 0 c.loop-subpool.subpools.items ≡ end_of r.start r.lots.items = ap (rows_end 0) all ∙ rows_end_push 0 front r ∙ ap (λ m. end_of m r.lots.items) (sym t.1) in
    subst (λ m. HeldFrom m p.places) end i.rest

pub bring_back-requires-clause-fits : goal.bring_back-requires-clause-fits
bring_back-requires-clause-fits g c =
    let i = c.loop-subpool.invariant in
    let p : Marks = c.loop-subpool.pool in
    let front : List (Subpool g.row.A.Denot) = c.pop.new.self.items in
    let r : Subpool g.row.A.Denot = c.in-Some.subpool in
    let all : c.loop-subpool.subpools.items ≡ front ++ r ∷ [] = c.in-Some.ensures.items in
    let t = stack_popped p.home 0 front r (subst (AreStacked p.home 0) all i.stacked) in
    let end : rows_end 0 c.loop-subpool.subpools.items ≡ end_of r.start r.lots.items = ap (rows_end 0) all ∙ rows_end_push 0 front r ∙ ap (λ m. end_of m r.lots.items) (sym t.1) in
    subst (λ m. m ≤ length p.places) end i.fits

pub loop-subpool-preserved : goal.loop-subpool-preserved
loop-subpool-preserved g c =
    let i = c.loop-subpool.invariant in
    let p : Marks = c.loop-subpool.pool in
    let front : List (Subpool g.row.A.Denot) = c.pop.new.self.items in
    let r : Subpool g.row.A.Denot = c.in-Some.subpool in
    let all : c.loop-subpool.subpools.items ≡ front ++ r ∷ [] = c.in-Some.ensures.items in
    let t = stack_popped p.home 0 front r (subst (AreStacked p.home 0) all i.stacked) in
    let end : rows_end 0 c.loop-subpool.subpools.items ≡ end_of r.start r.lots.items = ap (rows_end 0) all ∙ rows_end_push 0 front r ∙ ap (λ m. end_of m r.lots.items) (sym t.1) in
    let q : Marks = c.bring_back.new.pool in
    let b : IsBack p q = c.bring_back.ensures.pool in
    let begins : end_of r.start r.lots.items ≡ rows_end 0 c.loop-subpool.subpools.items = sym end in
    let fits = i.fits in
    let long = b.size in
    let starts = t.1 in
    let within = lots_end r.start r.lots.items in
    record {
      stacked = subst (λ h. AreStacked h 0 front) (sym b.home) t.0;
      rest = subst (λ m. HeldFrom m q.places) t.1 c.bring_back.ensures.held;
      fits = omega arith;
    }

pub close-requires : goal.close-requires
close-requires g c =
    let p : Marks = c.loop-subpool.pool in
    let none : c.loop-subpool.subpools.items ≡ [] = empty c.loop-subpool.subpools.items (omega (arith, c.loop-subpool.subpools.ok.0, c.in_default.ensures.cases)) in
    λ i lo hi. subst (λ (l : List (Subpool g.row.A.Denot)). HeldFrom (rows_end 0 l) p.places) none c.loop-subpool.invariant.rest i lo (omega arith)
  where
    empty : {X : Type 0} (xs : List X) → length xs ≡ 0 → xs ≡ []
    empty [] e = refl
    empty (x ∷ xs) e = let no : suc (length xs) ≡ 0 = e in absurd (omega arith)
