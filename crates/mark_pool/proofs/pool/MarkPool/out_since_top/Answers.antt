use Rattle.std.proofs.Common.{◌≡◌, ◌-◌, ap, arith, subst}
use Rattle.mark_pool.specs.Marks.{Marks, IsTopBack, out_since_top, out_within}
use Rattle.mark_pool.proofs.MarkCounts.{counts_since, back_since, none_since}
use Rattle.mark_pool.proofs.pool.MarkPool.out_since_top.Goals as goal

pub overflow_sub-result : goal.overflow_sub-result
overflow_sub-result g c =
    let p = c.self.inside in
    let s = c.self.invariant.0 in
    let since = counts_since p.region.places p.size p.out p.top p.older.items (omega (arith, s.top_fits, s.used_fits)) c.self.invariant.1 in
    omega arith

pub returns-clause-count : goal.returns-clause-count
returns-clause-count g c =
    let p = c.self.inside in
    let s = c.self.invariant.0 in
    let since = counts_since p.region.places p.size p.out p.top p.older.items (omega (arith, s.top_fits, s.used_fits)) c.self.invariant.1 in
    let all = ap (λ n. out_within p.region.places p.top.start (n - p.top.start)) s.places in
    subst (λ m. p.out - p.top.out_below ≡ out_since_top m) c.self.view_is (omega arith)

pub returns-clause-none : goal.returns-clause-none
returns-clause-none g c =
    let p = c.self.inside in
    let s = c.self.invariant.0 in
    let since = counts_since p.region.places p.size p.out p.top p.older.items (omega (arith, s.top_fits, s.used_fits)) c.self.invariant.1 in
    subst (λ (m : Marks). (p.out - p.top.out_below ≡ 0 → IsTopBack m) × (IsTopBack m → p.out - p.top.out_below ≡ 0)) c.self.view_is (
      λ none. back_since p.region.places p.size p.used p.top.start s.used_fits s.top_fits (omega arith),
      λ there. let none = none_since p.region.places p.size p.used p.top.start s.used_fits s.top_fits s.rest there in omega arith,
    )
