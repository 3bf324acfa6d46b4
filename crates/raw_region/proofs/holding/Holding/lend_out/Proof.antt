-- `lend_out` takes words and their tickets out of the places, and makes a `Vec` of the words. Assumes `Logic`.
use Rattle.std.proofs.Common.{◌≡◌, ℕ, ◌+◌, ◌*◌, ◌<◌, ◌≤◌, ◌^◌, List, [], ◌∷◌, ◌++◌, length, refl, sym, ap, subst, ◌∙◌, arith, Vec as Vector}
use Rattle.std.proofs.raw_atomic.Walks.{proved}
use base.Fraction.{full_share}
use base.Logic.{emp, id⊢}
use base.Fml.{ftrue, flft}
use contract.BorrowLft.{◌⊑◌}
use contract.Monad.{fact, fact_i}
use contract.Running.{tables}
use denote.Builtin.{u64, usize}
use denote.Exit.{yes}
use denote.Param.{layout}
use denote.Plain.{uint_Makes, uint_vals, uint_Tells}
use denote.RattleType.{owns}
use denote.RawPtr.{Ptr, RawPtr, block_ptr, block_of, count_of, rawptr_vals, rawptr_Tells, ◌+ₚ◌, InBlock, at_block}
use denote.Ref.{MutRef, mut_vals, mut_Tells}
use denote.Signature.{plain}
use denote.Steps.{only, nothing, owned, opens, closes, heard}
use denote.Struct.Struct.{as_fields}
use denote.Triple.Call.{calls_at_last}
use denote.Triple.Clauses.{lasts}
use denote.Triple.Spec.{triple_of}
use denote.Triple.Table.{framed}
use denote.Triple.Walked.{Stays, walk_of, says, stay_dropped, Goes-dropped, stay_ref, Goes-ref, ends_at}
use mir.Syntax.{named, w64}
use mir.Val.{Val, vint, vptr}
use prog.Wp.{WpFn}
use types.ByLocal.{alloc_all, pass_all, free_all, look_at, get, sets, lands_last, env}
use types.Kit.{‵, raw, ◌⊛◌, some, later, prop, at_ret, ◌$◌, ◌∵◌, !, qed, move, keep, drop, use0, use1, split, split3, join, fsplit, fsplit3, fjoin, feq_i, pick, await, rewrite, regoal, suffices, group, done}
use types.Part.{agg}
use types.Run.{enter, of_opd, lit, bin, no_more, and_then, first, blocks, exec, returns}
use Rattle.std_alloc.specs.Vec.Ownership.{lodged}
use Rattle.std_alloc.specs.declared.vec.lodged.Lodged.{Lodged}
use Rattle.std_alloc.specs.contracts.vec.lodge as lodge
use Rattle.std_alloc.proofs.vec.lodge.Met.{met}
use Rattle.std.proofs.alloc.Calls.{handle_tells}
use Rattle.raw_region.specs.Places.{AreHeld, with_run, words_at, out}
use Rattle.raw_region.specs.Ownership.{places_own, tickets, run_at}
use Rattle.raw_region.proofs.PlaceLemmas.{length-words_at}
use Rattle.raw_region.proofs.Runs.{spot, leaves}
use Rattle.raw_region.proofs.Walks.{Run, run_laws, word_laws, Fields, bare, IsTyped, untimed, unbound, whole, bare_of, vector_of_run, as_handle}
use Rattle.raw_region.specs.contracts.holding.Holding.{the_row as R}
use Rattle.raw_region.specs.contracts.holding.Claim.{the_row as C}
use Rattle.raw_region.specs.contracts.holding.Holding.lend_out as f
use Rattle.raw_region.proofs.holding.Holding.lend_out.Statement.{statement}
use Rattle.raw_region.proofs.holding.Holding.lend_out.Code as code

abbrev stayed : Stays f.ended.signature.params f.ended.kept
stayed = (stay_ref (0 ∷ []) tt (plain (λ _. R)), (stay_dropped (plain (λ _. RawPtr)) yes, (stay_dropped (plain (λ _. usize)) yes, (stay_dropped (plain (λ _. usize)) yes, tt))))

pub lend_out_spec : {M : Type 1} → statement M
lend_out_spec 𝓤 𝓛 𝓜 𝓡 wired =
    let c = f.clauses 𝓛 𝓜.mem 𝓡.returns in let W = walk_of 𝓛 f.ended stayed c in let 𝓣 = tables 𝓤 𝓛.H 𝓜 𝓡 𝓡.env in
    proved 𝓛 f.ended stayed c 𝓜 𝓡
    (Goes-ref 𝓛 1 0 tt (plain (λ _. R)), (Goes-dropped 𝓛 1 (plain (λ _. RawPtr)) yes (λ κs x w. refl), (Goes-dropped 𝓛 1 (plain (λ _. usize)) yes (λ κs x w. refl), (Goes-dropped 𝓛 1 (plain (λ _. usize)) yes (λ κs x w. refl), tt))))
    f.Key.name code.function (code.unfolded 𝓤 𝓛.H 𝓜 𝓡 wired)
    (λ κs. (mut_vals, (rawptr_vals, (uint_vals w64, (uint_vals w64, tt))))) (λ κs. (mut_Tells (named 0) κs.0 R, (rawptr_Tells, (uint_Tells w64, (uint_Tells w64, tt))))) (λ κs qs bounds a _ are.
    let rb = a.0.ref_ptr.0 in let ro = a.0.ref_ptr.1 in let h = a.0.now in
    let p : Ptr = a.1.0 in let i : ℕ = a.1.1.0 in let n : ℕ = a.1.1.1.0 in
    let y : W.Ghost = ((κs, qs, bounds, a, (mut_vals a.0, (rawptr_vals p, (uint_vals w64 i, (uint_vals w64 n, tt))))), tt) in
    let vss = y.0.4 in
    let b = block_of h.home.at in let o = count_of h.home.at in
    let ws = words_at h.places i n in
    let left = with_run h.places i (out n) in
    let Asked = (h.home.at ≡ p) × InBlock p × (1 ≤ n) × AreHeld h.places i n × (i + n ≤ length h.places) × (i + n ≤ 33554432) in
    qed 𝓛 (((‵ (flft κs.0 qs.0) ⊛ ‵ ftrue) ⊛ ‵ ((MutRef (named 0) κs.0 R).own_val a.0 vss.0) ⊛ ‵ (owns (RawPtr ∷ usize ∷ usize ∷ []) a.1 vss.1)) ∷ raw (fact 𝓤 Asked) ∷ []) ∵
    move ! (1 ∷ []) $ heard ! Asked (λ asked. split ! $ split ! $ move ! (2 ∷ []) $ split ! $ keep ! (0 ∷ 2 ∷ []) $
    let at : p ≡ block_ptr b o = at_block p asked.1 ∙ ap (λ q. block_ptr (block_of q) (count_of q)) (sym asked.0) in
    regoal ! (λ (q : Ptr). prop (WpFn 𝓤 𝓛.H 𝓣.C 𝓣.Λ code.function (vss.0 ++ (rawptr_vals q ++ (vss.1.1.0 ++ (vss.1.1.1.0 ++ [])))) (W.post y))) at refl $
    enter ! _ _ _ _ _ $ alloc_all ! (λ l. pass_all ! refl ((tt, tt), ((tt, tt), ((tt, record { fits = are.1.1.0.1 }), ((tt, record { fits = are.1.1.1.0.1 }), tt)))) $
    -- the words leave the region
    fsplit3 ! $ move ! (1 ∷ 2 ∷ 3 ∷ []) $ opens ! tt R rb ro (λ us. move ! (1 ∷ []) $ fsplit ! $ move ! (1 ∷ []) $
    use1 𝓛 (‵ (run_at (spot 𝓛 h.home i) ws) ⊛ ‵ (tickets h.home i n) ⊛ ‵ (places_own h.home left 0 (length left))) (leaves 𝓛 h.home h.places i n asked.4 asked.3) $ split3 ! $
    move ! (3 ∷ 2 ∷ []) $ fjoin ! $ move ! (3 ∷ 0 ∷ 4 ∷ 5 ∷ 6 ∷ []) $ closes ! tt R (record h { places = left }) us rb ro $
    -- [two parts of self; the token; the words; their tickets; self's first part]
    let G = triple_of 𝓛 (lodge.signature u64) (lodge.spec u64 𝓛 𝓜.mem 𝓡.returns) in
    let o' = i * 8 + o in let there = block_ptr b o' in
    let swap : o + i * 8 ≡ o' = omega arith in
    let long : length ws ≡ n = length-words_at h.places i n asked.4 in
    let small : i * 8 < 2 ^ 64 = omega (arith, asked.5) in
    let Fits = (n ≡ length ws) × (n ≤ n) × (n < 2 ^ 63) in
    let z : G.Ghost = ((([], tt), (full_share, tt), tt, (there, (n, (n, tt))), (vptr b o' ∷ [], (vint w64 n ∷ [], (vint w64 n ∷ [], tt)))), ws) in
    first ! $ blocks ! $
    sets ! (bin ! (get ! refl) (lit ! tt) (record { fits = small })) refl (tt, record { fits = small }) $
    sets ! (bin ! (get ! refl) (get ! refl) tt) refl (tt, tt) $
    move ! (3 ∷ []) $ rewrite ! 0 (λ j. ‵ (run_at (block_ptr b j) ws)) swap refl $
    use1 𝓛 (‵ (lodged u64 there n n ws)) (vector_of_run 𝓛 b o' n ws long asked.2 (omega (arith, asked.5))) $
    use0 𝓛 (raw (fact 𝓤 Fits)) (fact_i 𝓤 Fits (emp 𝓤) (sym long, omega arith, omega (arith, asked.5))) $ join ! $
    use0 𝓛 (raw (fact 𝓤 ([] ⊑ []))) (unbound 𝓛) $ join ! $
    nothing ! $ owned ! usize _ (uint_Makes 𝓛 w64) n _ (refl, are.1.1.1.0.1) $ fjoin ! $ owned ! usize _ (uint_Makes 𝓛 w64) n _ (refl, are.1.1.1.0.1) $ fjoin ! $
    feq_i ! (List Val) (vptr b o' ∷ []) (vptr b o' ∷ []) refl $ fjoin ! $ use0 𝓛 (‵ (flft [] full_share) ⊛ ‵ ftrue) (untimed 𝓛) $ join ! $
    join ! $ use1 𝓛 (raw (G.pre z)) (id⊢ 𝓤 _) $
    calls_at_last ! (framed 𝓤 𝓛.H 𝓜 𝓣) G (met 𝓤 𝓛 𝓜 𝓡 (code.calls-std_alloc::vec::lodge 𝓡.env wired) u64 word_laws) z
    (and_then ! (get ! refl) (and_then ! (get ! refl) (and_then ! (get ! refl) (no_more !)))) (λ v.
    let Made = λ (d : Vector ℕ Lodged). (d.items ≡ ws) × (d.len ≡ n) × (d.cap ≡ n) × (d.ptr ≡ there) in
    use1 𝓛 (later (some (λ (d : Vector ℕ Lodged). ((‵ (flft [] full_share) ⊛ ‵ ftrue) ⊛ ‵ (Run.own_val d (v ∷ []))) ⊛
    some (λ (left : Unit {0} × (Unit {0} × (Unit {0} × Unit {0}))). ‵ (lasts (lodge.ended u64) z.0.0 z.0.3 left) ⊛ raw (fact 𝓤 (Made d)))))) (id⊢ 𝓤 _) $
    await ! tt $ pick ! (λ d. split ! $ split ! $ drop ! $ move ! (1 ∷ []) $ pick ! (λ _. split ! $ drop ! $ heard ! (Made d) (λ is.
    handle_tells (as_handle Run run_laws) ! d (v ∷ []) (λ u same good.
    let v_is : u ≡ v = sym (ap only same) in
    let fine : IsTyped Run v = subst (IsTyped Run) v_is good in
    let cl : C.Denot = record { home = h.home; start = i; count = n } in
    rewrite ! 0 (λ w. ‵ (Run.own_val d (w ∷ []))) v_is refl $ lands_last ! refl fine $
    exec ! 𝓣.C 𝓣.Λ (env code.Mir.locals l) code.Mir.t-2 (at_ret _ (W.post y)) $
    sets ! (of_opd ! (get ! refl)) refl fine $
    sets ! (agg ! (no_more !)) refl (tt, tt) $
    sets ! (of_opd ! (get ! refl)) refl fine $
    sets ! (agg ! (and_then ! (get ! refl) (and_then ! (get ! refl) (no_more !)))) refl (as_fields (layout C ∷ layout Run ∷ []) (bare ∷ v ∷ []) ((tt, tt), (fine, tt))) $
    returns ! (look_at ! 0 refl) $ free_all ! refl $
    -- [the `Vec`; two parts of self; the token; the tickets; self's first part]
    nothing ! $ move ! (1 ∷ 0 ∷ []) $ fjoin ! $ move ! (4 ∷ []) $ use1 𝓛 (‵ (C.own_val cl (bare ∷ []))) (bare_of 𝓛 (tickets h.home i n)) $ fjoin ! $
    use1 𝓛 (‵ ((Fields (C ∷ Run ∷ [])).own_val (cl, (d, tt)) _)) (whole 𝓛 (C ∷ Run ∷ []) (cl, (d, tt)) (bare ∷ [], (v ∷ [], tt))) $
    move ! (4 ∷ 1 ∷ 2 ∷ 3 ∷ []) $
    suffices ! _ (ends_at 𝓛 f.ended stayed c y _ (cl, d) (record h { places = left }, (tt, (tt, (tt, tt)))) (tt, (tt, (tt, (tt, tt))))) $
    says ! (refl, refl, refl, refl, refl, is.0, is.1, is.3 ∙ ap (λ j. block_ptr b j) (sym swap) ∙ ap (λ q. q +ₚ i * 8) (sym at)) $
    group ! 3 $ nothing ! $ nothing ! $ fjoin ! $ nothing ! $ fjoin ! $ nothing ! $ fjoin ! $ move ! (1 ∷ 0 ∷ []) $ join ! $
    nothing ! $ move ! (2 ∷ 0 ∷ []) $ join ! $ done !)))))))))
