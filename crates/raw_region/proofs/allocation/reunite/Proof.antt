-- `reunite` hands the words to the `Vec` that waits for them. Assumes `Logic`.
use Rattle.std.proofs.Common.{◌≡◌, ℕ, List, [], ◌∷◌, ◌++◌, length, refl, ap, ◌∙◌, subst, arith}
use Rattle.std.proofs.raw_atomic.Walks.{proved_at}
use base.Logic.{all_e, apply∗}
use base.Fml.{fsep, feq, fex, fwand}
use contract.BorrowLft.{◌⊑◌}
use contract.Monad.{fact}
use contract.Running.{tables}
use denote.Builtin.{u64}
use denote.Exit.{yes, no}
use denote.Laws.{Typed}
use denote.Param.{param, bounded}
use denote.Param.Laws.{param_laws}
use denote.RawPtr.{InBlock}
use denote.RattleType.{RattleType, Valss, flat, owns}
use denote.Signature.{plain, types_at}
use denote.Steps.{nothing, heard}
use denote.Triple.Entry.{alive}
use denote.Triple.Walked.{Stays, walk_of, says, stay_dropped, ends_at}
use mir.MapTy.{inst_fn}
use mir.Syntax.{Fn, Args, Dict, a_type, dcons, dnil}
use mir.Val.{Val, vstruct, of_list, vcons, vnil}
use prog.Wp.{WpFn}
use types.ByLocal.{alloc_all, pass_all, free_all, look_at, get, get_in, sets}
use types.Kit.{‵, raw, ◌⊛◌, given, some, prop, ◌$◌, ◌∵◌, !, qed, move, keep, drop, use1, use2, split, pick, learn, fsplit, fjoin, fpick, feq_l, feq_i, regoal, suffices, done}
use types.Logic.{sem}
use types.Part.{sub, whole as all_of}
use types.Run.{enter, returns, of_opd, fld, stop}
use Rattle.std.specs.declared.alloc.Allocator.{Ghosts}
use Rattle.std.proofs.alloc.Calls.{Goes-blank, handle_tells}
use Rattle.std_alloc.specs.contracts.vec.Vec as Vec
use Rattle.std_alloc.proofs.vec.Vec.TheLaws as vec
use Rattle.raw_region.specs.Places.{words_at, AreHeld}
use Rattle.raw_region.specs.Ownership.{places_own, run_at}
use Rattle.raw_region.proofs.PlaceLemmas.{length-words_at}
use Rattle.raw_region.proofs.Runs.{gathered}
use Rattle.raw_region.proofs.Walks.{word_laws, bare, apart, bare_is, as_handle}
use Rattle.raw_region.specs.contracts.holding.Holding.{the_row as R}
use Rattle.raw_region.specs.contracts.allocation.Allocation as Allocation
use Rattle.raw_region.specs.contracts.allocation.Allocation.TheInside.{the_row as Inner}
use Rattle.raw_region.specs.declared.allocation.Allocation.TheInside.{Inside}
use Rattle.raw_region.specs.contracts.allocation.reunite as f
use Rattle.raw_region.proofs.allocation.reunite.Statement.{statement}
use Rattle.raw_region.proofs.allocation.reunite.Code as code

abbrev args : RattleType → Dict → Dict → Args
args A d dd = bounded (a_type ∷ []) (A, tt) (dcons d (dcons dd dnil))

abbrev stayed : (A : RattleType) (g : Ghosts A.Denot) (d dd : Dict) → Stays (f.ended A g d dd).signature.params (f.ended A g d dd).kept
stayed A g d dd = (stay_dropped (plain (λ _. R)) yes, (stay_dropped (plain (λ _. Allocation.the_row (param 0 A) g)) no, tt))

pub reunite_spec : {M : Type 1} → statement M
reunite_spec 𝓤 𝓛 𝓜 𝓡 wired A L g d dd met md =
    let T = f.ended A g d dd in let c = f.clauses A g d dd 𝓛 𝓜.mem 𝓡.returns in let 𝓣 = tables 𝓤 𝓛.H 𝓜 𝓡 𝓡.env in
    let hs = stayed A g d dd in let P = param 0 A in let V = Vec.the_row u64 P g in let S = Allocation.the_row P g in
    let fn : Fn = inst_fn (args A d dd) code.function in
    proved_at 𝓛 T hs c 𝓜 𝓡 (Goes-blank 𝓛 1 (plain (λ _. R)) yes (λ κs x f. tt), (Goes-blank 𝓛 1 (plain (λ _. S)) no (λ κs x f. tt), tt))
    (f.Key.name (args A d dd)) fn (code.unfolded 𝓤 𝓛.H 𝓜 𝓡 wired (A, tt) d dd) (λ y are.
    let h = y.0.3.0 in let e = y.0.3.1.0 in let vss = y.0.4 in
    let Post = (walk_of 𝓛 T hs c).post y in
    let ws = words_at h.places 0 e.size in
    let Places = places_own h.home h.places 0 (length h.places) in
    let Given = λ (xs : List ℕ). fsep (feq ℕ (length xs) e.size) (run_at e.at xs) in
    let Full = λ (xs : List ℕ). fex (Inside P.Denot) (λ i. fsep (feq (List ℕ) i.backing.items xs) ((Inner P g).own_val i vss.1.0)) in
    let Asked = (h.home ≡ e) × InBlock e.at × (length h.places ≡ e.size) × AreHeld h.places 0 e.size in
    qed 𝓛 ((raw (alive 𝓛 T.signature y.0.0 y.0.1) ⊛ ‵ (owns (types_at T.signature.params y.0.0) y.0.3 vss)) ∷ (raw (fact 𝓤 (y.0.0.0 ⊑ A.lives)) ⊛ raw (fact 𝓤 Asked)) ∷ []) ∵
    move ! (1 ∷ []) $ split ! $ drop ! $ heard ! Asked (λ asked. split ! $ move ! (1 ∷ []) $ fsplit ! $
    use1 𝓛 (given (vss.0 ≡ bare ∷ []) (‵ Places)) (bare_is 𝓛 vss.0 Places) $ learn ! (λ is_bare.
    let long : length ws ≡ e.size = length-words_at h.places 0 e.size (omega (arith, asked.2)) in
    use1 𝓛 (‵ (run_at e.at ws)) (gathered 𝓛 h.home e.at h.places e.size (ap (λ k. k.at) asked.0) asked.1 asked.2 asked.3) $
    -- [the words; the allocation; the tokens]
    move ! (1 ∷ []) $ fsplit ! $ fsplit ! $ fpick ! (λ typed. drop ! $
    use1 𝓛 (‵ (fwand (Given ws) (Full ws))) (all_e 𝓤 (λ xs. sem 𝓛 (fwand (Given xs) (Full xs))) ws) $ move ! (2 ∷ []) $
    feq_i ! ℕ (length ws) e.size long $ fjoin ! $ use2 𝓛 (‵ (Full ws)) (apply∗ 𝓤 (sem 𝓛 (Given ws)) (sem 𝓛 (Full ws))) $
    fpick ! (λ i. fsplit ! $ feq_l ! (λ is_ws.
    use1 𝓛 (some (λ (parts : Valss (V ∷ [])). given (vss.1.0 ≡ vstruct (of_list (flat (V ∷ []) parts)) ∷ []) (‵ (owns (V ∷ []) (i.backing, tt) parts)))) (apart 𝓛 (V ∷ []) (i.backing, tt) vss.1.0) $
    pick ! (λ parts. learn ! (λ is_parts. fsplit ! $
    handle_tells (as_handle V (vec.the_row_laws u64 P g word_laws (param_laws 0 A L))) ! i.backing parts.0 (λ u is good.
    let shell = vstruct (vcons u vnil) in
    let is_shell : vss.1.0 ≡ shell ∷ [] = is_parts ∙ ap (λ (us : List Val). vstruct (of_list (us ++ [])) ∷ []) is in
    regoal ! (λ (us : List Val). prop (WpFn 𝓤 𝓛.H 𝓣.C 𝓣.Λ fn (us ++ (vss.1.0 ++ [])) Post)) is_bare refl $
    regoal ! (λ (us : List Val). prop (WpFn 𝓤 𝓛.H 𝓣.C 𝓣.Λ fn ((bare ∷ []) ++ (us ++ [])) Post)) is_shell refl $
    enter ! 𝓣.C 𝓣.Λ fn (bare ∷ shell ∷ []) Post $ alloc_all ! (λ l. pass_all ! refl ((tt, tt), ((subst (Typed S.mir) is_shell typed).0, tt)) $
    sets ! (of_opd ! (get_in ! (fld ! refl (stop !)) (sub ! 0 refl (all_of !)))) refl good $
    sets ! (of_opd ! (get ! refl)) refl good $ returns ! (look_at ! 0 refl) $ free_all ! refl $
    -- [the `Vec`; nothing; nothing; the tokens]
    suffices ! _ (ends_at 𝓛 T hs c y u i.backing (tt, (tt, tt)) (tt, (tt, tt))) $ says ! is_ws $
    nothing ! $ nothing ! $ fjoin ! $ nothing ! $ fjoin ! $ keep ! (4 ∷ 0 ∷ 1 ∷ []) $ done !))))))))))
