-- An elementary variable takes the value of an expression: by an assignment (5.2), or where it is declared (3.3.1).
use Rattle.std.proofs.Common.{◌≡◌, ℕ, ◌+◌, ◌≤◌, ◌-◌, ◌<◌, List, [], ◌∷◌, ◌++◌, length, reverse, Option, Some, None, refl, sym, ap, ◌∙◌, subst, arith, length-append}
use Rattle.std.specs.Prelude.{get_or}
use Rattle.std.proofs.lemmas.Option.{slice_get-get_or}
use Rattle.std.proofs.lemmas.List.{get_or-reverse, length-reverse}
use Rattle.ctl_program.specs.declared.types.Ty.{Ty}
use Rattle.ctl_program.specs.declared.types.Ty.TheVariants.{Integer, Count, Boolean, Address, Handle, Access, Record}
use Rattle.ctl_program.specs.declared.types.Var.{Var}
use Rattle.ctl_meaning.specs.World.{Log, World}
use Rattle.ctl_meaning.specs.Lists.{item_or, last_of, opened_lists}
use Rattle.ctl_meaning.specs.Activations.{master_of}
use Rattle.ctl_meaning.specs.Changes.{set_value, take_object_number, opened_changes}
use Rattle.ctl_meaning.specs.Choice.{Ask}
use Rattle.ctl_meaning.specs.Outcome.{ByRaise, Goes, Leaves, Gives, Act, add, bind, on_goes, ◌>>=◌, done, ticked, opened_outcome}
use Rattle.ctl_meaning.specs.Types.{Tables, category_of, opened_types}
use Rattle.ctl_meaning.specs.Names.{Call, Default, Tools, Found, InVariable, scalar_of, write_found}
use Rattle.ctl_meaning.specs.Masters.{declare}
use Rattle.ctl_code.specs.declared.code.Instr.TheVariants as InstrOf
use Rattle.ctl_code.specs.declared.code.Named.TheVariants.{Variable}
use Rattle.ctl_code.specs.declared.code.Code.{Code}
use Rattle.ctl_code.specs.declared.kinds.Kind.{Kind}
use Rattle.ctl_code.specs.States.{Word, Frame}
use Rattle.ctl_code.specs.Steps.{moved}
use Rattle.ctl_code.specs.Table.{out_of, on, with_cell}
use Rattle.ctl_code.specs.Valid.{IsValid}
use Rattle.ctl_code.specs.Windows.{variable_at}
use Rattle.ctl_layout.specs.Around.{Around, local_at, local_cell, newest_cell, out_to}
use Rattle.ctl_layout.specs.Values.{ValueCode, held, value_type}
use Rattle.ctl_layout.specs.Layout.{assign_code, store_code, scalar_code, valued_code}
use Rattle.ctl_gen.proofs.Known.{IsScalar}
use Rattle.ctl_gen.proofs.Place.{Laid, laid_front, laid_back}
use Rattle.ctl_gen.proofs.Worlds.{Fits, Since, Kept, since_value, since_number}
use Rattle.ctl_gen.proofs.Setting.{Sees, tools_with, never_missing, seen}
use Rattle.ctl_gen.proofs.Cells.{here, by_code, landed, waiting, Stays, taking_is, out_is, Any}
use Rattle.ctl_gen.proofs.Worth.{both_cell}
use Rattle.ctl_gen.proofs.Expressions.{Uses, Value, value_runs, held_holds, held_then}
use Rattle.ctl_gen.proofs.Does.{Does}
use Rattle.ctl_gen.proofs.Follow.{Runs, at, arrives, added, one_step, last_step, no_step, arriving, bind_bind, lands}

-- the newest master of a display is its last
last_item : (x : ℕ) (xs : List ℕ) → last_of (x ∷ xs) ≡ get_or (x ∷ xs) (length xs) 0
unfolding opened_lists
last_item x [] = refl
last_item x (y ∷ ys) = last_item y ys

pub newest_is : (d : List ℕ) → out_of d 0 ≡ last_of d
unfolding opened_lists
newest_is [] = refl
newest_is (x ∷ xs) =
    let lt : 0 < length (x ∷ xs) = omega arith in
    let lt1 : 0 < length (reverse (x ∷ xs)) = omega (arith, length-reverse (x ∷ xs)) in
    let e : length (x ∷ xs) - 1 - 0 ≡ length xs = omega arith in
    ap (item_or 0) (slice_get-get_or (reverse (x ∷ xs)) 0 0 lt1) ∙ get_or-reverse (x ∷ xs) 0 0 lt ∙ ap (λ n. get_or (x ∷ xs) n 0) e ∙ sym (last_item x xs)

module _ (ask : Ask) (k : Tables) (code : Code) (valid : IsValid code) (bound : ℕ) where
  -- what an assignment makes of the world
  abbrev assigned : List ℕ → Var → ℕ → World → World
  assigned d x n w = set_value (master_of d x) x.slot n w

  since_assigned : (d : List ℕ) (x : Var) (n : ℕ) (w0 w : World) → Since k code w0 w → Since k code w0 (assigned d x n w)
  since_assigned d x n w0 w h = since_value k code (master_of d x) x.slot n w0 w h

  assigned_is : (d : List ℕ) (s : List Kind) (x : Var) (n : ℕ) (w w0 : World) → Sees d s w0 → with_cell d (out_to s x) x.slot n w ≡ assigned d x n w
  assigned_is d s x n w w0 sees = ap (λ m. set_value m x.slot n w) (out_is d s x sees.long)

  -- into its cell, or the variable of a body around
  stored : (o : Option ℕ) (x : Var) (y : ValueCode) (act : List ℕ → Act (List ℕ)) → ((w0 : World) → Value ask k code bound w0 y act) → (a : Around) (w0 : World) (d : List ℕ) (place : ℕ) (ks : List Frame) (ops : List Word) (c : ℕ) (l : Log) (w : World) → c ≤ bound → Since k code w0 w → Sees d a.stack w0 → Laid code place (assign_code o x y a.stack) → Runs ask code (Kept k code w0) 0 0 (at d place ks ops l w) c (arrives (lands a place) d (place + length (assign_code o x y a.stack)) ks ops) (bind (act d c l w) (on_goes (write_found (InVariable (master_of d x) x.slot))))
  unfolding opened_outcome write_found scalar_of opened_lists
  stored (Some n) x y act value a w0 d place ks ops c l w le fits sees has =
      let s = a.stack in
      let end = place + length (y.code (local_cell s x n) (value_type y) s) in
      both_cell ask code (Since k code w0) (λ r. Since k code w0) Any 0 0 0 0 0 0 _ c (landed (Variable (out_to s x) x.slot) d end ks ops) (arrives (lands a place) d end ks ops) (act d c l w) (on_goes (write_found (InVariable (master_of d x) x.slot))) (omega arith) (omega arith) (omega arith)
      (value_runs ask k code bound w0 y act (value w0) (local_cell s x n) (value_type y) s d place ks ops c l w le fits (seen sees) has)
      (λ m c1 l1 w1 lo fits1 p. no_step ask code (Kept k code w0) 0 0 _ c1 0 (arrives (lands a place) d end ks ops) (Goes tt) l1 (assigned d x m w1) (since_assigned d x m w0 w1 fits1) (ap (at d end ks ops l1) (assigned_is d s x m w1 w0 sees)))
      (λ z c1 l1 w1 lo fits1. no_step ask code (Kept k code w0) 0 0 _ c1 0 (arrives (lands a place) d end ks ops) (Leaves (ByRaise z)) l1 w1 fits1 refl)
  stored None x y act value a w0 d place ks ops c l w le fits sees has =
      let s = a.stack in
      let ty = value_type y in
      let h = held y ty s in
      let i = InstrOf.Store h.cell ty (out_to s x) x.slot in
      let q = place + length h.code in
      let there = (laid_back code place h.code ((i, h.after) ∷ []) has).0 in
      let e : q + 1 ≡ place + length (store_code x ty s h) = omega (arith, length-append h.code ((i, h.after) ∷ [])) in
      subst (λ p. Runs ask code (Kept k code w0) 0 0 (at d place ks ops l w) c (arrives (lands a place) d p ks ops) (bind (act d c l w) (on_goes (write_found (InVariable (master_of d x) x.slot))))) e
      (held_then ask k code bound w0 (λ r. Since k code w0) h (λ n w1. Stays h.cell.named n d w1) act d place ks ops c l w (arrives (lands a place) d (q + 1) ks ops) (on_goes (write_found (InVariable (master_of d x) x.slot)))
      (held_holds ask k code bound w0 y.right y act refl (value w0) ty s d place ks ops c l w le fits (seen sees) (laid_front code place h.code ((i, h.after) ∷ []) has))
      (λ m c1 l1 w1 lo fits1 stays. last_step ask code (Kept k code w0) 8 8 _ c1 0 (arrives (lands a place) d (q + 1) ks ops) (Goes tt) l1 (assigned d x m w1) (omega arith) (since_assigned d x m w0 w1 fits1)
      (by_code ask code d q ks (waiting h.cell.named m ops) l1 w1 i there
      ∙ ap (moved l1) (taking_is h.cell.named m (λ z rest. on rest (with_cell d (out_to s x) x.slot z w1) (here d q ks w1)) ops d q ks w1 stays)
      ∙ ap (at d (q + 1) ks ops l1) (assigned_is d s x m w1 w0 sees)))
      (λ z c1 l1 w1 lo fits1. no_step ask code (Kept k code w0) 8 8 _ c1 0 (arrives (lands a place) d (q + 1) ks ops) (Leaves (ByRaise z)) l1 w1 fits1 refl))

  pub assign_runs : (x : Var) (find : List ℕ → Act Found) → Uses x find → (y : ValueCode) (act : List ℕ → Act (List ℕ)) → ((w0 : World) → Value ask k code bound w0 y act) → Does ask k code bound (λ a. assign_code (local_at a.stack x) x y a.stack) (λ d caught. ticked (find d >>= (λ f. act d >>= write_found f)))
  unfolding opened_outcome
  assign_runs x find uses y act value a w0 d place ks ops c l w le fits sees has =
      subst (λ o. Runs ask code (Kept k code w0) 0 0 (at d place ks ops l w) c (arrives (lands a place) d (place + length (assign_code (local_at a.stack x) x y a.stack)) ks ops) (add 1 (bind o (on_goes (λ f. act d >>= write_found f))))) (sym (uses d c l w))
      (added ask code (Kept k code w0) 1 0 0 0 0 _ c _ _ (omega arith) (omega arith) (added ask code (Kept k code w0) 1 0 0 0 0 _ c _ _ (omega arith) (omega arith)
      (stored (local_at a.stack x) x y act value a w0 d place ks ops c l w le fits sees has)))

  -- Declarations --------------------------------------------------------------------------------------

  -- what the declaration of an elementary variable makes of the world
  abbrev declared : List ℕ → ℕ → ℕ → World → World
  declared d slot n w = set_value (last_of d) slot n (take_object_number w)

  declared_is : (d : List ℕ) (slot n : ℕ) (w : World) → Fits k code w → take_object_number (with_cell d 0 slot n w) ≡ declared d slot n w
  unfolding opened_changes
  declared_is d slot n w fits = ap (λ m. take_object_number (set_value m slot n w)) (newest_is d)

  since_declared : (d : List ℕ) (slot n : ℕ) (w0 w : World) → Since k code w0 w → Since k code w0 (declared d slot n w)
  since_declared d slot n w0 w h = since_value k code (last_of d) slot n w0 (take_object_number w) (since_number k code w0 w h)

  module _ (call : Call) (default : Default) where
    abbrev K : Tools
    K = tools_with ask k call default

    default_is : (ty : Ty) → IsScalar ty → (d : List ℕ) (slot c : ℕ) (l : Log) (w : World) → declare (category_of ty) K (last_of d) slot ty None c l w ≡ Gives (Goes tt) 0 c l (declared d slot 0 w)
    unfolding declare opened_outcome opened_types item_or scalar_of opened_lists
    default_is Integer known d slot c l w = refl
    default_is Boolean known d slot c l w = refl
    default_is Count known d slot c l w = refl
    default_is Address known d slot c l w = refl
    default_is Handle known d slot c l w = absurd known
    default_is (Access a) known d slot c l w = refl
    default_is (Record t) known d slot c l w = absurd known

    value_is : (ty : Ty) → IsScalar ty → (d : List ℕ) (slot n c : ℕ) (l : Log) (w : World) → declare (category_of ty) K (last_of d) slot ty (Some (n ∷ [])) c l w ≡ Gives (Goes tt) 0 c l (declared d slot n w)
    unfolding declare opened_outcome opened_types item_or scalar_of opened_lists
    value_is Integer known d slot n c l w = refl
    value_is Boolean known d slot n c l w = refl
    value_is Count known d slot n c l w = refl
    value_is Address known d slot n c l w = refl
    value_is Handle known d slot n c l w = absurd known
    value_is (Access a) known d slot n c l w = refl
    value_is (Record t) known d slot n c l w = absurd known

    -- without a value
    by_slot : (o : Option ℕ) (slot : ℕ) (ty : Ty) → IsScalar ty → Does ask k code bound (λ a. scalar_code o slot ty a.stack) (λ d caught. ticked (done None >>= declare (category_of ty) K (last_of d) slot ty))
    unfolding opened_outcome
    by_slot None slot ty known a w0 d place ks ops c l w le fits sees has = absurd (never_missing code valid place a.stack has.0 has.1)
    by_slot (Some n) slot ty known a w0 d place ks ops c l w le fits sees has =
        let e : place + 1 + 1 ≡ place + 2 = omega arith in
        subst (λ o. Runs ask code (Kept k code w0) 0 0 (at d place ks ops l w) c (arrives (lands a place) d (place + 2) ks ops) (add 1 (add 0 o))) (sym (default_is ty known d slot c l w))
        (added ask code (Kept k code w0) 1 2 2 0 0 (at d place ks ops l w) c (arrives (lands a place) d (place + 2) ks ops) (Gives (Goes tt) 0 c l (declared d slot 0 w)) (omega arith) (omega arith)
        (one_step ask code (Kept k code w0) 1 1 2 2 (at d place ks ops l w) (at d (place + 1) ks ops l (with_cell d 0 slot 0 w)) c c (arrives (lands a place) d (place + 2) ks ops) (Gives (Goes tt) 0 c l (declared d slot 0 w)) (omega arith) (omega arith) (omega arith) (omega arith) (by_code ask code d place ks ops l w (InstrOf.Set 0 ty (newest_cell slot n)) has.0)
        (last_step ask code (Kept k code w0) 1 1 (at d (place + 1) ks ops l (with_cell d 0 slot 0 w)) c 0 (arrives (lands a place) d (place + 2) ks ops) (Goes tt) l (declared d slot 0 w) (omega arith) (since_declared d slot 0 w0 w fits)
        (by_code ask code d (place + 1) ks ops l (with_cell d 0 slot 0 w) InstrOf.Number has.2.0 ∙ ap (λ p. at d p ks ops l (take_object_number (with_cell d 0 slot 0 w))) e ∙ ap (at d (place + 2) ks ops l) (declared_is d slot 0 w fits.0)))))

    pub scalar_runs : (slot : ℕ) (ty : Ty) → IsScalar ty → Does ask k code bound (λ a. scalar_code (variable_at a.stack 0 slot) slot ty a.stack) (λ d caught. ticked (done None >>= declare (category_of ty) K (last_of d) slot ty))
    scalar_runs slot ty known a w0 d place ks ops c l w le fits sees has = by_slot (variable_at a.stack 0 slot) slot ty known a w0 d place ks ops c l w le fits sees has

    -- with its value
    valued_by : (o : Option ℕ) (slot : ℕ) (ty : Ty) (x : ValueCode) (act : List ℕ → Act (List ℕ)) → IsScalar ty → ((w0 : World) → Value ask k code bound w0 x act) → Does ask k code bound (λ a. valued_code o slot ty x a.stack) (λ d caught. ticked ((act d >>= (λ u. done (Some u))) >>= declare (category_of ty) K (last_of d) slot ty))
    unfolding opened_outcome scalar_of opened_lists
    valued_by None slot ty x act known value a w0 d place ks ops c l w le fits sees has = absurd (never_missing code valid place a.stack has.0 has.1)
    valued_by (Some n) slot ty x act known value a w0 d place ks ops c l w le fits sees has =
        let s = a.stack in
        let is = x.code (newest_cell slot n) ty s in
        let q = place + length is in
        let e : q + 1 ≡ place + length (is ++ (InstrOf.Number, s) ∷ []) = omega (arith, length-append is ((InstrOf.Number, s) ∷ [])) in
        let there = (laid_back code place is ((InstrOf.Number, s) ∷ []) has).0 in
        arriving ask code (Kept k code w0) 0 0 _ c _ _ _ (λ r l1 w1. ap (λ p. arrives (lands a place) d p ks ops r l1 w1) e)
        (added ask code (Kept k code w0) 1 1 1 0 0 _ c _ _ (omega arith) (omega arith)
        (subst (λ o. Runs ask code (Kept k code w0) 1 1 (at d place ks ops l w) c (arrives (lands a place) d (q + 1) ks ops) o) (sym (bind_bind (act d c l w) (on_goes (λ u. done (Some u))) (on_goes (declare (category_of ty) K (last_of d) slot ty))))
        (both_cell ask code (Since k code w0) (λ r. Since k code w0) Any 0 0 1 1 1 1 _ c (landed (Variable 0 slot) d q ks ops) (arrives (lands a place) d (q + 1) ks ops) (act d c l w) _ (omega arith) (omega arith) (omega arith)
        (value_runs ask k code bound w0 x act (value w0) (newest_cell slot n) ty s d place ks ops c l w le fits (seen sees) (laid_front code place is ((InstrOf.Number, s) ∷ []) has))
        (λ m c1 l1 w1 lo fits1 p.
        subst (λ o. Runs ask code (Kept k code w0) 1 1 (at d q ks ops l1 (with_cell d 0 slot m w1)) c1 (arrives (lands a place) d (q + 1) ks ops) (add 0 o)) (sym (value_is ty known d slot m c1 l1 w1))
        (last_step ask code (Kept k code w0) 1 1 _ c1 0 (arrives (lands a place) d (q + 1) ks ops) (Goes tt) l1 (declared d slot m w1) (omega arith) (since_declared d slot m w0 w1 fits1)
        (by_code ask code d q ks ops l1 (with_cell d 0 slot m w1) InstrOf.Number there ∙ ap (at d (q + 1) ks ops l1) (declared_is d slot m w1 fits1.0))))
        (λ z c1 l1 w1 lo fits1. no_step ask code (Kept k code w0) 1 1 _ c1 0 (arrives (lands a place) d (q + 1) ks ops) (Leaves (ByRaise z)) l1 w1 fits1 refl))))

    pub valued_runs : (slot : ℕ) (ty : Ty) (x : ValueCode) (act : List ℕ → Act (List ℕ)) → IsScalar ty → ((w0 : World) → Value ask k code bound w0 x act) → Does ask k code bound (λ a. valued_code (variable_at a.stack 0 slot) slot ty x a.stack) (λ d caught. ticked ((act d >>= (λ u. done (Some u))) >>= declare (category_of ty) K (last_of d) slot ty))
    valued_runs slot ty x act known value a w0 d place ks ops c l w le fits sees has = valued_by (variable_at a.stack 0 slot) slot ty x act known value a w0 d place ks ops c l w le fits sees has
