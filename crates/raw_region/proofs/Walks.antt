-- What the walks share: a struct that is ghost state alone, and a run of words as a `Vec` and back. Assumes `Logic`.
use Rattle.std.proofs.Common.{◌≡◌, ℕ, ◌+◌, ◌-◌, ◌*◌, ◌^◌, ◌<◌, List, [], ◌∷◌, length, refl, sym, ap, arith, ◌==◌}
use Rattle.std.proofs.lemmas.Bool.{ne_eqb, not_from_false}
use lib.Dec.{T}
use seplogic.Ra.Ura.{Ura}
use mir.Syntax.{given as no_methods, Ty, ty_int, w64}
use mir.Val.{Val, vstruct, vnil, of_list, has_ty, WT}
use base.Fraction.{full_share}
use base.Logic.{ent, sep, ex, wand, guard, emp, never_e}
use base.Fml.{Fml, ftrue, fsep, fall, fwand, flft}
use contract.BorrowLft.{◌⊑◌, ⊑_refl}
use contract.Monad.{fact, fact_i}
use types.Logic.{Logic, sem}
use types.Kit.{‵, ◌$◌, ◌∵◌, !, qed, by, move, keep, drop, use0, fsplit, fjoin, fpick, fpack, feq_l, feq_i, flt_i, check, show, each, assume, frame, rewrite, done}
use denote.RattleType.{RattleType, Denots, Valss, flat, owns}
use denote.Array.{Array}
use denote.Builtin.{u64}
use denote.Param.{layout}
use denote.Param.Laws.{Laws, of_field}
use denote.Param.Shared.{copy_shared}
use denote.RawPtr.{Ptr, block_ptr, null_ptr, room_for, lies_at}
use denote.Steps.{nothing}
use denote.Struct.Field.{u64-field}
use denote.Struct.Laws.{u64-laws, u64-copy}
use denote.Struct.Struct.{Struct, Shape, within}
use Rattle.std.specs.Allocator.{array_of, block_with_items}
use Rattle.std.proofs.alloc.Calls.{Al}
use Rattle.std_alloc.specs.Vec.Ownership.{lodged, vec_owns, owns_if, has_block}
use Rattle.std_alloc.specs.contracts.vec.Vec as Vec
use Rattle.std_alloc.specs.contracts.vec.lodged.Lodged as Lodged
use Rattle.std_alloc.specs.contracts.vec.lodged.LodgedAllocator.TheImpl.{ghosts}
use Rattle.std_alloc.proofs.vec.Vec.TheLaws as vec
use Rattle.std_alloc.proofs.vec.lodged.Lodged.TheLaws as lodging
use Rattle.raw_region.specs.Ownership.{run_at}
use Rattle.raw_region.proofs.Spans.{Gives}

-- ---- types

pub word_laws : Laws u64
word_laws = of_field u64-field u64-laws refl (copy_shared u64-field u64-copy)

-- a `Vec` of words that lie elsewhere
abbrev pub Run : RattleType
Run = Vec.the_row u64 Lodged.the_row ghosts

pub run_laws : Laws Run
run_laws = vec.the_row_laws u64 Lodged.the_row ghosts word_laws lodging.the_row_laws

-- a struct by its fields
abbrev fields_of : List RattleType → Shape
fields_of Rs = record { name = []; args = []; types = []; fields = Rs }

abbrev pub Fields : List RattleType → RattleType
Fields Rs = Struct (fields_of Rs)

-- the machine value of one with no field
abbrev pub bare : Val
bare = vstruct vnil

-- v is a value of R's machine type
abbrev pub IsTyped : RattleType → Val → Type 0
IsTyped R v = T (has_ty (layout R) v) × WT v

-- R where the kit's steps speak of a handle: what they show of one needs no allocator
abbrev pub as_handle : (R : RattleType) → Laws R → Al
as_handle R L = record { row = R; laws = L; g = record { dealloc_token = λ _ _ _. ftrue }; d = no_methods 0; drops = no_methods 0 }

-- ---- lemmas

module _ {M : Type 1} {𝓤 : Ura M} (𝓛 : Logic 𝓤) where
  -- a call of a function with no lifetime asks for no token, and nothing has to outlive
  pub untimed : ent 𝓤 (emp 𝓤) (sep 𝓤 (sem 𝓛 (flft [] full_share)) (emp 𝓤))
  untimed = qed 𝓛 [] ∵ nothing ! $ use0 𝓛 (‵ (flft [] full_share)) (𝓛.lfts.lft-nil full_share) $ done !

  pub unbound : ent 𝓤 (emp 𝓤) (fact 𝓤 ([] ⊑ []))
  unbound = fact_i 𝓤 ([] ⊑ []) (emp 𝓤) (⊑_refl [])

  -- a struct owns what its fields do
  pub whole : (Rs : List RattleType) (a : Denots Rs) (vss : Valss Rs) → Gives 𝓛 (owns Rs a vss) ((Fields Rs).own_val a (vstruct (of_list (flat Rs vss)) ∷ []))
  whole Rs a vss =
      let vs = vstruct (of_list (flat Rs vss)) ∷ [] in
      qed 𝓛 (‵ (owns Rs a vss) ∷ []) ∵ feq_i ! (List Val) vs vs refl $ fjoin ! $ fpack ! (Valss Rs) (within (fields_of Rs) a vs) vss $ done !

  pub apart : (Rs : List RattleType) (a : Denots Rs) (vs : List Val)
      → ent 𝓤 (sem 𝓛 ((Fields Rs).own_val a vs)) (ex 𝓤 (λ (vss : Valss Rs). guard 𝓤 (vs ≡ vstruct (of_list (flat Rs vss)) ∷ []) (sem 𝓛 (owns Rs a vss))))
  apart Rs a vs =
      qed 𝓛 (‵ ((Fields Rs).own_val a vs) ∷ []) ∵ fpick ! (λ vss. fsplit ! $ feq_l ! (λ e.
      show ! (λ (us : Valss Rs). guard 𝓤 (vs ≡ vstruct (of_list (flat Rs us)) ∷ []) (sem 𝓛 (owns Rs a us))) vss $ check ! e $ done !))

  -- one with no field is the ghost state that it has beside them
  pub bare_of : (P : Fml) → Gives 𝓛 P (fsep ((Fields []).own_val tt (bare ∷ [])) P)
  bare_of P = qed 𝓛 (‵ P ∷ []) ∵ use0 𝓛 (‵ ((Fields []).own_val tt (bare ∷ []))) (whole [] tt tt) $ fjoin ! $ done !

  pub bare_is : (vs : List Val) (P : Fml) → ent 𝓤 (sem 𝓛 (fsep ((Fields []).own_val tt vs) P)) (guard 𝓤 (vs ≡ bare ∷ []) (sem 𝓛 P))
  bare_is vs P =
      qed 𝓛 (‵ (fsep ((Fields []).own_val tt vs) P) ∷ []) ∵ fsplit ! $ fpick ! (λ vss. fsplit ! $ feq_l ! (λ e. drop ! $ check ! e $ done !))

  -- a `Vec` with room for something has a block
  owns_it : (c : ℕ) (P : Fml) → 0 < c → owns_if (has_block c) P ≡ P
  owns_it c P positive = ap (λ y. owns_if y P) (not_from_false (c == 0) (ne_eqb c 0 (λ e. omega arith)))

  -- a `Vec` of words lets them go, and is whole again with any others
  pub hollow : (t : Ty → Ptr → Fml) (p : Ptr) (n c : ℕ) (xs : List ℕ) → 0 < c
      → Gives 𝓛 (vec_owns t u64 p n c xs) (fsep (lies_at (Array u64 n) full_share p xs) (fall (List ℕ) (λ ws. fwand (lies_at (Array u64 n) full_share p ws) (vec_owns t u64 p n c ws))))
  hollow t null_ptr n c xs positive = qed 𝓛 (‵ (vec_owns t u64 null_ptr n c xs) ∷ []) ∵ fsplit ! $ drop ! $ by ! (never_e 𝓤 _)
  hollow t (block_ptr b o) n c xs positive =
      let p = block_ptr b o in
      let Words = λ (ws : List ℕ). lies_at (Array u64 n) full_share p ws in
      let Block = λ (ws : List ℕ). block_with_items t u64 p n c ws in
      qed 𝓛 (‵ (vec_owns t u64 p n c xs) ∷ []) ∵ fsplit ! $ move ! (1 ∷ []) $ rewrite ! 0 (λ P. ‵ P) (owns_it c (Block xs) positive) refl $ fsplit ! $ frame ! $
      -- [the room behind the words and the right to free; the bound on the size]
      each ! (λ ws. wand 𝓤 (sem 𝓛 (Words ws)) (sem 𝓛 (vec_owns t u64 p n c ws))) (λ ws. assume ! (‵ (Words ws)) $ fjoin ! $
      rewrite ! 0 (λ P. ‵ P) (sym (owns_it c (Block ws) positive)) refl $ move ! (1 ∷ 0 ∷ []) $ fjoin ! $ done !)

  -- words that lie at p are a `Vec` with no room to spare
  pub vector_of_run : (b o n : ℕ) (ws : List ℕ) → length ws ≡ n → 0 < n → n < 2 ^ 60 → Gives 𝓛 (run_at (block_ptr b o) ws) (lodged u64 (block_ptr b o) n n ws)
  vector_of_run b o n ws long positive small =
      let p = block_ptr b o in
      let Free = λ (k : ℕ). room_for (array_of u64 k) (block_ptr b (o + n * 8)) in
      let none : 0 ≡ n - n = omega arith in
      qed 𝓛 (‵ (run_at p ws) ∷ []) ∵ rewrite ! 0 (λ k. ‵ (lies_at (Array u64 k) full_share p ws)) long refl $
      nothing ! $ use0 𝓛 (‵ (Free 0)) (𝓛.laws.room_nil (ty_int w64) b (o + n * 8)) $ rewrite ! 0 (λ k. ‵ (Free k)) none refl $ fjoin ! $
      move ! (1 ∷ 0 ∷ []) $ fjoin ! $ rewrite ! 0 (λ P. ‵ P) (sym (owns_it n (block_with_items (λ _ _. ftrue) u64 p n n ws) positive)) refl $
      flt_i ! (n * 8) (2 ^ 63) (omega arith) $ fjoin ! $ done !

  -- and such a `Vec`, of some words, is words that lie there
  pub run_of_vector : (p : Ptr) (n c : ℕ) (ws : List ℕ) → length ws ≡ n → 0 < c → Gives 𝓛 (lodged u64 p n c ws) (run_at p ws)
  run_of_vector null_ptr n c ws long positive = qed 𝓛 (‵ (lodged u64 null_ptr n c ws) ∷ []) ∵ fsplit ! $ drop ! $ by ! (never_e 𝓤 _)
  run_of_vector (block_ptr b o) n c ws long positive =
      let p = block_ptr b o in
      qed 𝓛 (‵ (lodged u64 p n c ws) ∷ []) ∵ fsplit ! $ drop ! $ rewrite ! 0 (λ P. ‵ P) (owns_it c (block_with_items (λ _ _. ftrue) u64 p n c ws) positive) refl $
      fsplit ! $ keep ! (0 ∷ []) $ rewrite ! 0 (λ k. ‵ (lies_at (Array u64 k) full_share p ws)) (sym long) refl $ done !
