-- `take_back` takes the words out of their `Vec` and puts them into their places. Assumes `Logic`.
use Rattle.std.proofs.Common.{◌≡◌, ℕ, ◌+◌, ◌*◌, ◌<◌, ◌≤◌, List, [], ◌∷◌, ◌++◌, length, refl, sym, ap, subst, ◌∙◌, arith}
use Rattle.std.proofs.raw_atomic.Walks.{proved_at}
use base.Fraction.{full_share}
use base.Logic.{id⊢}
use base.Fml.{ftrue, flft}
use contract.BorrowLft.{◌⊑◌}
use contract.Monad.{fact}
use contract.Running.{tables}
use denote.Builtin.{u64, usize}
use denote.Exit.{yes}
use denote.RawPtr.{block_of, count_of, ◌+ₚ◌, InBlock, at_block}
use denote.Ref.{MutRef, mut_vals, mut_Tells}
use denote.Signature.{plain}
use denote.Steps.{only, nothing, opens, closes, heard}
use denote.Triple.Call.{calls_at}
use denote.Triple.Clauses.{lasts}
use denote.Triple.Spec.{triple_of}
use denote.Triple.Table.{framed}
use denote.Triple.Walked.{Stays, walk_of, says, stay_dropped, stay_ref, Goes-ref, ends_at}
use mir.Syntax.{named}
use mir.Val.{Val, vunit, vptr}
use prog.Wp.{WpFn}
use types.ByLocal.{alloc_all, pass_all, free_all, look_at, get, sets, lands_as}
use types.Kit.{Goal, ‵, raw, ◌⊛◌, some, later, given, prop, ◌$◌, ◌∵◌, !, qed, move, keep, drop, use0, use1, use3, split, split3, join, fsplit, fsplit3, fjoin, feq_i, feq_l, flt_l, pick, learn, await, rewrite, regoal, suffices, frame, group, done}
use types.Run.{enter, of_opd, unit_lit, no_more, and_then, returns}
use Rattle.std.proofs.alloc.Calls.{Goes-blank, handle_tells}
use Rattle.std_alloc.specs.Vec.Ownership.{lodged}
use Rattle.std_alloc.specs.contracts.vec.lodged.Vec+T+Lodged.dislodge as dislodge
use Rattle.std_alloc.proofs.vec.lodged.Vec+T+Lodged.dislodge.Met.{met}
use Rattle.raw_region.specs.Places.{AreOut, with_run, held}
use Rattle.raw_region.specs.Ownership.{nth_place, places_own, tickets, run_at}
use Rattle.raw_region.proofs.Runs.{comes}
use Rattle.raw_region.proofs.Walks.{Run, run_laws, word_laws, bare, untimed, unbound, bare_is, run_of_vector, as_handle}
use Rattle.raw_region.specs.contracts.holding.Holding.{the_row as R}
use Rattle.raw_region.specs.contracts.holding.Claim.{the_row as C}
use Rattle.raw_region.specs.contracts.holding.Holding.take_back as f
use Rattle.raw_region.proofs.holding.Holding.take_back.Statement.{statement}
use Rattle.raw_region.proofs.holding.Holding.take_back.Code as code

abbrev stayed : Stays f.ended.signature.params f.ended.kept
stayed = (stay_ref (0 ∷ []) tt (plain (λ _. R)), (stay_dropped (plain (λ _. C)) yes, (stay_dropped (plain (λ _. Run)) yes, tt)))

pub take_back_spec : {M : Type 1} → statement M
take_back_spec 𝓤 𝓛 𝓜 𝓡 wired =
    let c = f.clauses 𝓛 𝓜.mem 𝓡.returns in let W = walk_of 𝓛 f.ended stayed c in let 𝓣 = tables 𝓤 𝓛.H 𝓜 𝓡 𝓡.env in
    proved_at 𝓛 f.ended stayed c 𝓜 𝓡
    (Goes-ref 𝓛 1 0 tt (plain (λ _. R)), (Goes-blank 𝓛 1 (plain (λ _. C)) yes (λ κs x f. tt), (Goes-blank 𝓛 1 (plain (λ _. Run)) yes (λ κs x f. tt), tt)))
    f.Key.name code.function (code.unfolded 𝓤 𝓛.H 𝓜 𝓡 wired) (λ y are.
    let κs = y.0.0 in let qs = y.0.1 in let a = y.0.3 in let vss = y.0.4 in
    let rb = a.0.ref_ptr.0 in let ro = a.0.ref_ptr.1 in let h = a.0.now in
    let cl = a.1.0 in let d = a.1.1.0 in let i : ℕ = cl.start in
    let b = block_of h.home.at in let o = count_of h.home.at in
    let n = length d.items in
    let filled = with_run h.places i (held d.items) in
    let Asked = (cl.home ≡ h.home) × InBlock h.home.at × (d.ptr ≡ nth_place h.home.at i) × (cl.count ≡ d.len) × (0 < d.len) × (i + d.len ≤ length h.places) in
    qed 𝓛 (((‵ (flft κs.0 qs.0) ⊛ ‵ ftrue) ⊛ ‵ ((MutRef (named 0) κs.0 R).own_val a.0 vss.0) ⊛ ‵ (C.own_val cl vss.1.0) ⊛ ‵ (Run.own_val d vss.1.1.0) ⊛ ‵ ftrue) ∷ raw (fact 𝓤 Asked) ∷ []) ∵
    move ! (1 ∷ []) $ heard ! Asked (λ asked. split ! $ split ! $ move ! (2 ∷ []) $ split ! $ move ! (1 ∷ []) $ split ! $ move ! (1 ∷ []) $ split ! $ keep ! (0 ∷ 2 ∷ 3 ∷ 4 ∷ []) $
    -- [the `Vec`; the claim; self; the token]
    handle_tells (as_handle Run run_laws) ! d vss.1.1.0 (λ u is good. move ! (1 ∷ []) $
    use1 𝓛 (given (vss.1.0 ≡ bare ∷ []) (‵ (tickets cl.home cl.start cl.count))) (bare_is 𝓛 vss.1.0 (tickets cl.home cl.start cl.count)) $ learn ! (λ is_bare.
    let Runs : List Val → List Val → List Val → Goal 𝓤 𝓛.H = λ self claim words. prop (WpFn 𝓤 𝓛.H 𝓣.C 𝓣.Λ code.function (self ++ (claim ++ (words ++ []))) (W.post y)) in
    regoal ! (λ vs. Runs vs vss.1.0 vss.1.1.0) (mut_Tells (named 0) κs.0 R a.0 vss.0 are.0) refl $
    regoal ! (λ vs. Runs (mut_vals a.0) vs vss.1.1.0) is_bare refl $ regoal ! (λ vs. Runs (mut_vals a.0) (bare ∷ []) vs) is refl $
    enter ! 𝓣.C 𝓣.Λ code.function (vptr rb ro ∷ bare ∷ u ∷ []) (W.post y) $ alloc_all ! (λ l. pass_all ! refl ((tt, tt), ((tt, tt), (good, tt))) $
    -- [the tickets; the `Vec`; self; the token]
    let G = triple_of 𝓛 (dislodge.signature u64) (dislodge.spec u64 𝓛 𝓜.mem 𝓡.returns) in
    let z : G.Ghost = ((([], tt), (full_share, tt), tt, (d, tt), (u ∷ [], tt)), tt) in
    sets ! (of_opd ! (get ! refl)) refl good $
    nothing ! $ use0 𝓛 (raw (fact 𝓤 ([] ⊑ []))) (unbound 𝓛) $ join ! $
    nothing ! $ move ! (3 ∷ 0 ∷ []) $ fjoin ! $ use0 𝓛 (‵ (flft [] full_share) ⊛ ‵ ftrue) (untimed 𝓛) $ join ! $
    move ! (0 ∷ 1 ∷ []) $ join ! $ use1 𝓛 (raw (G.pre z)) (id⊢ 𝓤 _) $
    calls_at ! (framed 𝓤 𝓛.H 𝓜 𝓣) G (met 𝓤 𝓛 𝓜 𝓡 (code.calls-std_alloc::vec::lodged::Vec+T+Lodged::dislodge 𝓡.env wired) u64 word_laws) z
    (and_then ! (get ! refl) (no_more !)) (λ v.
    use1 𝓛 (later (some (λ (r : ℕ). ((‵ (flft [] full_share) ⊛ ‵ ftrue) ⊛ ‵ (usize.own_val r (v ∷ []))) ⊛
    some (λ (left : Unit {0} × Unit {0}). ‵ (lasts (dislodge.ended u64) z.0.0 z.0.3 left) ⊛ raw (fact 𝓤 (r ≡ d.len)) ⊛ ‵ (lodged u64 d.ptr d.len d.cap d.items))))) (id⊢ 𝓤 _) $
    await ! tt $ pick ! (λ r. split ! $ split ! $ drop ! $ fsplit ! $ feq_l ! (λ is_count. flt_l ! (λ fits.
    pick ! (λ _. split3 ! $ drop ! $ drop ! $ lands_as ! (ap only is_count) refl (tt, record { fits = fits }) $
    -- [the words; the tickets; self; the token]
    use1 𝓛 (‵ (run_at d.ptr d.items)) (run_of_vector 𝓛 d.ptr d.len d.cap d.items (sym d.ok.0) (omega (arith, d.ok.1, asked.4))) $
    rewrite ! 0 (λ p. ‵ (run_at p d.items)) (asked.2 ∙ ap (λ p. p +ₚ i * 8) (at_block h.home.at asked.1)) refl $
    rewrite ! 1 (λ g. ‵ (tickets g i cl.count)) asked.0 refl $ rewrite ! 1 (λ m. ‵ (tickets h.home i m)) (asked.3 ∙ d.ok.0) refl $
    move ! (2 ∷ 3 ∷ []) $ fsplit3 ! $ move ! (1 ∷ 2 ∷ 3 ∷ []) $ opens ! tt R rb ro (λ us. move ! (1 ∷ []) $ fsplit ! $ move ! (1 ∷ 7 ∷ 8 ∷ []) $
    use3 𝓛 (given (AreOut h.places i n) (‵ (places_own h.home filled 0 (length filled)))) (comes 𝓛 h.home h.places i d.items (subst (λ m. i + m ≤ length h.places) d.ok.0 asked.5)) $ learn ! (λ were.
    move ! (1 ∷ 0 ∷ []) $ fjoin ! $ move ! (1 ∷ 0 ∷ 2 ∷ 3 ∷ 4 ∷ []) $ closes ! tt R (record h { places = filled }) us rb ro $
    sets ! (of_opd ! (unit_lit !)) refl (tt, tt) $ returns ! (look_at ! 0 refl) $ free_all ! refl $
    -- [two parts of self; the token; self's first part]
    move ! (3 ∷ []) $ suffices ! _ (ends_at 𝓛 f.ended stayed c y vunit tt (record h { places = filled }, (tt, (tt, tt))) (tt, (tt, (tt, tt)))) $ says ! (refl, refl, were) $
    group ! 3 $ nothing ! $ nothing ! $ fjoin ! $ nothing ! $ fjoin ! $ move ! (1 ∷ 0 ∷ []) $ join ! $ nothing ! $ move ! (2 ∷ 0 ∷ []) $ join ! $
    frame ! $ frame ! $ feq_i ! _ (vunit ∷ []) _ refl $ done !))))))))))))
