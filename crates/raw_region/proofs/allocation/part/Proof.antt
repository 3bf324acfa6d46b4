-- `part` takes the words out of their `Vec`, and makes a region of them. Assumes `Logic`.
use Rattle.std.proofs.Common.{ℕ, ◌<◌, List, [], ◌∷◌, ◌++◌, length, refl, sym, arith}
use Rattle.std.proofs.raw_atomic.Walks.{proved_at}
use base.Fraction.{full_share}
use base.Logic.{ex, wand, all_e, apply∗}
use base.Fml.{GName, ftrue, fsep, feq, fall, fwand}
use contract.BorrowLft.{◌⊑◌}
use contract.Monad.{fact}
use contract.Running.{tables}
use denote.Array.{Array}
use denote.Builtin.{u64}
use denote.Exit.{no}
use denote.Laws.{Typed}
use denote.Param.{param, bounded, layout}
use denote.Param.Laws.{param_laws}
use denote.RattleType.{RattleType, owns}
use denote.RawPtr.{lies_at, InBlock}
use denote.Signature.{plain, types_at}
use denote.Steps.{nothing, heard}
use denote.Struct.Struct.{as_fields}
use denote.Triple.Entry.{alive}
use denote.Triple.Walked.{Stays, walk_of, says, stay_dropped, ends_at}
use mir.MapTy.{inst_fn}
use mir.Syntax.{Fn, Args, Dict, a_type, dcons, dnil}
use mir.Val.{Val, vstruct, vcons, vnil}
use prog.Wp.{WpFn}
use seplogic.Ra.Ura.{Ura}
use types.ByLocal.{alloc_all, pass_all, free_all, look_at, get, sets}
use types.Kit.{‵, raw, ◌⊛◌, given, some, later, prop, ◌$◌, ◌∵◌, !, qed, move, keep, drop, use1, use2, split, pick, learn, await, assume, each, show, frame, fsplit, fjoin, fpack, feq_l, feq_i, rewrite, regoal, suffices, done}
use types.Logic.{Logic, sem}
use types.Part.{agg}
use types.Run.{enter, returns, of_opd, and_then, no_more}
use Rattle.std.specs.declared.alloc.Allocator.{Ghosts}
use Rattle.std.specs.Vec.{with_items}
use Rattle.std.proofs.Common.{Vec as Vector}
use Rattle.std.proofs.alloc.Calls.{Goes-blank, handle_tells}
use Rattle.std.proofs.lemmas.List.{with_items_is}
use Rattle.std_alloc.specs.Vec.Ownership.{vec_owns}
use Rattle.std_alloc.specs.contracts.vec.Vec as Vec
use Rattle.std_alloc.proofs.vec.Vec.TheLaws as vec
use Rattle.raw_region.specs.Places.{Home, held}
use Rattle.raw_region.specs.Ownership.{places_own, run_at}
use Rattle.raw_region.proofs.Runs.{founded}
use Rattle.raw_region.proofs.Spans.{Gives}
use Rattle.raw_region.proofs.Walks.{word_laws, Fields, bare, whole, bare_of, hollow, as_handle}
use Rattle.raw_region.specs.contracts.holding.Holding.{the_row as R}
use Rattle.raw_region.specs.contracts.allocation.Allocation as Allocation
use Rattle.raw_region.specs.contracts.allocation.part as f
use Rattle.raw_region.proofs.allocation.part.Statement.{statement}
use Rattle.raw_region.proofs.allocation.part.Code as code

module _ (P : RattleType) (g : Ghosts P.Denot) {M : Type 1} {𝓤 : Ura M} (𝓛 : Logic 𝓤) (v : Vector ℕ P.Denot) (u : Val) where
  abbrev Whole : RattleType
  Whole = Vec.the_row u64 P g

  -- the machine value of the allocation
  abbrev shell : Val
  shell = vstruct (vcons u vnil)

  -- a `Vec` of some words is the words, and what makes it whole of any others, whatever the region is called
  lifted : 0 < v.len → Gives 𝓛 (Whole.own_val v (u ∷ [])) (fsep (run_at v.ptr v.items) (Allocation.the_own P g (record { name = 0; at = v.ptr; size = v.len }) (shell ∷ [])))
  lifted positive =
      let Words = λ (ws : List ℕ). lies_at (Array u64 v.len) full_share v.ptr ws in
      let Owns = λ (ws : List ℕ). vec_owns (g.dealloc_token v.alloc) u64 v.ptr v.len v.cap ws in
      let Given = λ (ws : List ℕ). fsep (feq ℕ (length ws) v.len) (run_at v.ptr ws) in
      let Full = λ (ws : List ℕ) (x : Vector ℕ P.Denot). fsep (feq (List ℕ) x.items ws) ((Fields (Whole ∷ [])).own_val (x, tt) (shell ∷ [])) in
      qed 𝓛 (‵ (Whole.own_val v (u ∷ [])) ∷ []) ∵ fsplit ! $ move ! (1 ∷ []) $
      use1 𝓛 (‵ (Words v.items) ⊛ ‵ (fall (List ℕ) (λ ws. fwand (Words ws) (Owns ws)))) (hollow 𝓛 (g.dealloc_token v.alloc) v.ptr v.len v.cap v.items (omega (arith, v.ok.1, positive))) $ split ! $
      rewrite ! 0 (λ n. ‵ (lies_at (Array u64 n) full_share v.ptr v.items)) v.ok.0 refl $ frame ! $
      -- [the way back; the fields]
      each ! (λ ws. wand 𝓤 (sem 𝓛 (Given ws)) (ex 𝓤 (λ i. sem 𝓛 (Full ws i.backing)))) (λ ws. assume ! (‵ (Given ws)) $ fsplit ! $ feq_l ! (λ long.
      rewrite ! 0 (λ n. ‵ (lies_at (Array u64 n) full_share v.ptr ws)) long refl $ move ! (1 ∷ []) $
      use1 𝓛 (‵ (fwand (Words ws) (Owns ws))) (all_e 𝓤 (λ xs. sem 𝓛 (fwand (Words xs) (Owns xs))) ws) $ move ! (1 ∷ 0 ∷ []) $
      use2 𝓛 (‵ (Owns ws)) (apply∗ 𝓤 (sem 𝓛 (Words ws)) (sem 𝓛 (Owns ws))) $
      let x = with_items v ws in let is = with_items_is v ws long in
      rewrite ! 0 (λ xs. ‵ (Owns xs)) (sym is) refl $ move ! (1 ∷ 0 ∷ []) $ fjoin ! $ nothing ! $ move ! (1 ∷ 0 ∷ []) $ fjoin ! $
      use1 𝓛 (‵ ((Fields (Whole ∷ [])).own_val (x, tt) (shell ∷ []))) (whole 𝓛 (Whole ∷ []) (x, tt) (u ∷ [], tt)) $
      feq_i ! (List ℕ) x.items ws is $ fjoin ! $ show ! (λ i. sem 𝓛 (Full ws i.backing)) (record { backing = x }) $ done !))

abbrev args : RattleType → Dict → Dict → Args
args A d dd = bounded (a_type ∷ []) (A, tt) (dcons d (dcons dd dnil))

abbrev stayed : (A : RattleType) (g : Ghosts A.Denot) (d dd : Dict) → Stays (f.ended A g d dd).signature.params (f.ended A g d dd).kept
stayed A g d dd = (stay_dropped (plain (λ _. Vec.the_row u64 (param 0 A) g)) no, tt)

pub part_spec : {M : Type 1} → statement M
part_spec 𝓤 𝓛 𝓜 𝓡 wired A L g d dd met md =
    let T = f.ended A g d dd in let c = f.clauses A g d dd 𝓛 𝓜.mem 𝓡.returns in let 𝓣 = tables 𝓤 𝓛.H 𝓜 𝓡 𝓡.env in
    let hs = stayed A g d dd in let P = param 0 A in let V = Vec.the_row u64 P g in let S = Allocation.the_row P g in
    let fn : Fn = inst_fn (args A d dd) code.function in
    proved_at 𝓛 T hs c 𝓜 𝓡 (Goes-blank 𝓛 1 (plain (λ _. V)) no (λ κs x f. tt), tt)
    (f.Key.name (args A d dd)) fn (code.unfolded 𝓤 𝓛.H 𝓜 𝓡 wired (A, tt) d dd) (λ y are.
    let v = y.0.3.0 in let vss = y.0.4 in
    let Post = (walk_of 𝓛 T hs c).post y in
    let home : GName → Home = λ γ. record { name = γ; at = v.ptr; size = v.len } in
    qed 𝓛 ((raw (alive 𝓛 T.signature y.0.0 y.0.1) ⊛ ‵ (owns (types_at T.signature.params y.0.0) y.0.3 vss)) ∷ (raw (fact 𝓤 (y.0.0.0 ⊑ A.lives)) ⊛ raw (fact 𝓤 (0 < v.len))) ∷ []) ∵
    move ! (1 ∷ []) $ split ! $ drop ! $ heard ! (0 < v.len) (λ positive. split ! $ move ! (1 ∷ []) $ fsplit ! $
    handle_tells (as_handle V (vec.the_row_laws u64 P g word_laws (param_laws 0 A L))) ! v vss.0 (λ u is good.
    let typed = as_fields (layout V ∷ []) (u ∷ []) (good, tt) in
    use1 𝓛 (‵ (run_at v.ptr v.items) ⊛ ‵ (Allocation.the_own P g (home 0) (shell P g 𝓛 v u ∷ []))) (lifted P g 𝓛 v u positive) $ split ! $
    regoal ! (λ (us : List Val). prop (WpFn 𝓤 𝓛.H 𝓣.C 𝓣.Λ fn (us ++ []) Post)) is refl $
    enter ! 𝓣.C 𝓣.Λ fn (u ∷ []) Post $ alloc_all ! (λ l. pass_all ! refl (good, tt) $
    sets ! (agg ! (no_more !)) refl (tt, tt) $
    sets ! (of_opd ! (get ! refl)) refl good $
    sets ! (agg ! (and_then ! (get ! refl) (no_more !))) refl typed $
    sets ! (agg ! (and_then ! (get ! refl) (and_then ! (get ! refl) (no_more !)))) refl (as_fields (layout R ∷ layout S ∷ []) (bare ∷ shell P g 𝓛 v u ∷ []) ((tt, tt), (typed, tt))) $
    -- [the words; the allocation; nothing; the tokens]
    let Places = λ (γ : GName). places_own (home γ) (held v.items) 0 (length (held v.items)) in
    use1 𝓛 (later (some (λ (γ : GName). given (InBlock v.ptr) (‵ (Places γ))))) (founded 𝓛 v.ptr v.items) $ await ! tt $ pick ! (λ γ. learn ! (λ placed.
    let r : R.Denot = record { home = home γ; places = held v.items } in
    use1 𝓛 (‵ (R.own_val r (bare ∷ []))) (bare_of 𝓛 (Places γ)) $ move ! (1 ∷ []) $
    nothing ! $ fpack ! (Typed S.mir (shell P g 𝓛 v u ∷ [])) (λ _. ftrue) (typed, tt) $ fjoin ! $
    nothing ! $ move ! (1 ∷ 0 ∷ []) $ fjoin ! $ move ! (1 ∷ 0 ∷ []) $ fjoin ! $
    use1 𝓛 (‵ ((Fields (R ∷ S ∷ [])).own_val (r, (home γ, tt)) _)) (whole 𝓛 (R ∷ S ∷ []) (r, (home γ, tt)) (bare ∷ [], (shell P g 𝓛 v u ∷ [], tt))) $
    returns ! (look_at ! 0 refl) $ free_all ! refl $
    suffices ! _ (ends_at 𝓛 T hs c y _ (r, home γ) ((tt, (tt, (tt, (tt, tt)))), tt) (tt, tt)) $ says ! (refl, refl, refl, placed, refl) $
    nothing ! $ nothing ! $ fjoin ! $ keep ! (3 ∷ 0 ∷ 1 ∷ []) $ done !))))))
