-- `word` hands on the `&` to one word that the `&` to the holding shows. Assumes `Logic`.
use Rattle.std.proofs.Common.{◌≡◌, ℕ, ◌+◌, ◌*◌, ◌<◌, ◌^◌, List, [], ◌∷◌, ◌++◌, length, refl, sym, ap, ◌∙◌, arith, Some, IsSome, Option}
use Rattle.std.proofs.raw_atomic.Walks.{proved}
use base.Fml.{ftrue, flft}
use contract.Monad.{fact}
use contract.Running.{tables}
use denote.Builtin.{u64, usize, RefOf}
use denote.Exit.{yes}
use denote.Memory.{shared_of}
use denote.Opens.{unhide, hide}
use denote.Plain.{uint_vals, uint_Tells}
use denote.RattleType.{owns}
use denote.RawPtr.{Ptr, RawPtr, block_ptr, block_of, count_of, rawptr_vals, rawptr_Tells, InBlock, at_block}
use denote.Ref.{ShrRef, shr_vals, shr_Tells}
use denote.Signature.{plain}
use denote.Steps.{nothing, heard}
use denote.Triple.Walked.{Stays, walk_of, says, stay_dropped, Goes-dropped, ends_at}
use mir.Syntax.{named, w64}
use mir.Val.{Val, vptr}
use prog.Wp.{WpFn}
use types.ByLocal.{alloc_all, pass_all, free_all, look_at, get, through, sets, sets_last, env}
use types.Kit.{‵, raw, ◌⊛◌, prop, at_ret, ◌$◌, ◌∵◌, !, qed, move, keep, drop, use1, split, join, fsplit, fjoin, feq_i, rewrite, regoal, suffices, done}
use types.Run.{enter, of_opd, lit, bin, addr, stop, first, blocks, exec, returns}
use Rattle.raw_region.specs.Places.{place, word_or_zero}
use Rattle.raw_region.specs.Ownership.{place_lent}
use Rattle.raw_region.proofs.PlaceLemmas.{the_word, one_within}
use Rattle.raw_region.proofs.Spans.{span_shows}
use Rattle.raw_region.specs.contracts.holding.Holding.{the_row as R}
use Rattle.raw_region.specs.contracts.holding.Holding.word as f
use Rattle.raw_region.proofs.holding.Holding.word.Statement.{statement}
use Rattle.raw_region.proofs.holding.Holding.word.Code as code

abbrev stayed : Stays f.ended.signature.params f.ended.kept
stayed = (stay_dropped (RefOf (0 ∷ []) tt (plain (λ _. R)) (λ _. tt)) yes, (stay_dropped (plain (λ _. RawPtr)) yes, (stay_dropped (plain (λ _. usize)) yes, tt)))

pub word_spec : {M : Type 1} → statement M
word_spec 𝓤 𝓛 𝓜 𝓡 wired =
    let c = f.clauses 𝓛 𝓜.mem 𝓡.returns in let W = walk_of 𝓛 f.ended stayed c in let 𝓣 = tables 𝓤 𝓛.H 𝓜 𝓡 𝓡.env in
    proved 𝓛 f.ended stayed c 𝓜 𝓡
    (Goes-dropped 𝓛 1 (RefOf (0 ∷ []) tt (plain (λ _. R)) (λ _. tt)) yes (λ κs x w. refl), (Goes-dropped 𝓛 1 (plain (λ _. RawPtr)) yes (λ κs x w. refl), (Goes-dropped 𝓛 1 (plain (λ _. usize)) yes (λ κs x w. refl), tt)))
    f.Key.name code.function (code.unfolded 𝓤 𝓛.H 𝓜 𝓡 wired)
    (λ κs. (shr_vals, (rawptr_vals, (uint_vals w64, tt)))) (λ κs. (shr_Tells (named 0) κs.0 R, (rawptr_Tells, (uint_Tells w64, tt)))) (λ κs qs bounds a _ are.
    let h = a.0.now in let p : Ptr = a.1.0 in let i : ℕ = a.1.1.0 in
    let y : W.Ghost = ((κs, qs, bounds, a, (shr_vals a.0, (rawptr_vals p, (uint_vals w64 i, tt)))), tt) in
    let vss = y.0.4 in
    let b = block_of h.home.at in let o = count_of h.home.at in let o' = i * 8 + o in
    let x = word_or_zero (place h.places i) in
    let Asked = (h.home.at ≡ p) × InBlock p × IsSome (place h.places i) × (i < 33554432) in
    qed 𝓛 (((‵ (flft κs.0 qs.0) ⊛ ‵ ftrue) ⊛ ‵ ((ShrRef (named 0) κs.0 R).own_val a.0 vss.0) ⊛ ‵ (owns (RawPtr ∷ usize ∷ []) a.1 vss.1)) ∷ raw (fact 𝓤 Asked) ∷ []) ∵
    move ! (1 ∷ []) $ heard ! Asked (λ asked. split ! $ split ! $ move ! (2 ∷ []) $ split ! $ keep ! (0 ∷ 2 ∷ []) $
    let κ = κs.0 in
    let at : p ≡ block_ptr b o = at_block p asked.1 ∙ ap (λ q. block_ptr (block_of q) (count_of q)) (sym asked.0) in
    let is_x : place h.places i ≡ Some x = the_word (place h.places i) asked.2 in
    let within : i < length h.places = one_within h.places i asked.2 in
    let swap : o + i * 8 ≡ o' = omega arith in
    let small : i * 8 < 2 ^ 64 = omega (arith, asked.3) in
    let S = λ (k : ℕ). place_lent h.home k (place h.places k) in
    -- the `&` to one word
    fsplit ! $ drop ! $ unhide ! $ fsplit ! $ drop ! $
    use1 𝓛 (‵ (S i κ)) (span_shows 𝓛 S κ 0 (length h.places) i (omega arith) (omega (arith, within))) $
    rewrite ! 0 (λ (e : Option ℕ). ‵ (place_lent h.home i e κ)) is_x refl $ rewrite ! 0 (λ j. ‵ (shared_of u64 x b j κ)) swap refl $
    regoal ! (λ (q : Ptr). prop (WpFn 𝓤 𝓛.H 𝓣.C 𝓣.Λ code.function (vss.0 ++ (rawptr_vals q ++ (vss.1.1.0 ++ []))) (W.post y))) at refl $
    enter ! _ _ _ _ _ $ alloc_all ! (λ l. pass_all ! refl ((tt, tt), ((tt, tt), ((tt, record { fits = are.1.1.0.1 }), tt))) $
    first ! $ blocks ! $
    sets ! (bin ! (get ! refl) (lit ! tt) (record { fits = small })) refl (tt, record { fits = small }) $
    sets ! (bin ! (get ! refl) (get ! refl) tt) refl (tt, tt) $
    sets_last ! (addr ! (through ! refl (stop !))) refl (tt, tt) $
    exec ! 𝓣.C 𝓣.Λ (env code.Mir.locals l) code.Mir.t-2 (at_ret _ (W.post y)) $
    sets ! (of_opd ! (get ! refl)) refl (tt, tt) $ returns ! (look_at ! 0 refl) $ free_all ! refl $
    hide ! $ feq_i ! (List Val) (vptr b o' ∷ []) (vptr b o' ∷ []) refl $ fjoin ! $
    suffices ! _ (ends_at 𝓛 f.ended stayed c y (vptr b o') (record { ref_ptr = (b, o'); now = x }) (tt, (tt, (tt, tt))) (tt, (tt, (tt, tt)))) $ says ! (sym is_x) $
    nothing ! $ nothing ! $ fjoin ! $ nothing ! $ fjoin ! $ nothing ! $ fjoin ! $ nothing ! $ move ! (3 ∷ 0 ∷ []) $ join ! $ done !)))
