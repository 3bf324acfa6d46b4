-- The bounds and the parameter of a loop, and what a turn writes.
use Rattle.std.proofs.Common.{◌≡◌, ℕ, ◌+◌, ◌<◌, List, [], ◌∷◌, ◌++◌, Some, length, refl, sym, ap, ◌∙◌, subst, arith, reverse}
use Rattle.std.specs.Prelude.{slice_get, slice_set}
use Rattle.std.proofs.lemmas.List.{length-append, length-reverse, reverse-append, append_assoc}
use Rattle.std.proofs.lemmas.Option.{slice_get_within}
use Rattle.ctl_program.specs.declared.types.Ty.TheVariants.{Integer}
use Rattle.ctl_program.specs.declared.operators.Direction.{Direction}
use Rattle.ctl_program.specs.declared.operators.Direction.TheVariants.{Upward, Downward}
use Rattle.ctl_meaning.specs.World.{World}
use Rattle.ctl_meaning.specs.Lists.{last_of, opened_lists}
use Rattle.ctl_code.specs.declared.kinds.Kind.{Kind}
use Rattle.ctl_code.specs.declared.kinds.Kind.TheVariants.{Operand}
use Rattle.ctl_code.specs.declared.code.Code.{Code}
use Rattle.ctl_code.specs.States as T
use Rattle.ctl_code.specs.States.{Word, Scalar, cells_of, At}
use Rattle.ctl_code.specs.Table.{out_of, quiet, with_parameter}
use Rattle.ctl_code.specs.Valid.{Bounded, Leads}
use Rattle.ctl_code.specs.Windows.{height, variable_at}
use Rattle.ctl_engine.specs.declared.engine.Engine.{Engine}
use Rattle.ctl_frames.specs.declared.frame.Mode.TheVariants as ModeOf
use Rattle.ctl_frames.specs.Masters.{Head, HaveRoom, heads_of, first_display, first_window}
use Rattle.ctl_frames.specs.Under.{under, tall, laid}
use Rattle.ctl_engine.specs.Shows.{Sized, Kept, Holds, with_cells, kept}
use Rattle.ctl_engine.specs.Moves.{Inside, Makes, GoesOn}
use Rattle.ctl_engine.specs.Turns.{counted}
use Rattle.ctl_frames.proofs.Lists.{get_left, set_right, length_set}
use Rattle.ctl_engine.proofs.Slots.{tall_is}
use Rattle.ctl_frames.proofs.Words.{length_cells}
use Rattle.ctl_engine.specs.Variables.{IsVariable}
use Rattle.ctl_engine.proofs.Places.{place_is, variable_is}
use Rattle.ctl_engine.proofs.Values.{window_in, variable_read, value_put}
use Rattle.ctl_engine.proofs.Plain.{goes_makes}
use Rattle.ctl_engine.proofs.Operands.{AreNewest, are_newest}

-- The parameter --------------------------------------------------------------------------------------

-- the newest master of a display
newest_is_last : (x : ℕ) (d : List ℕ) → slice_get (reverse (x ∷ d)) 0 ≡ Some (last_of (x ∷ d))
unfolding opened_lists
newest_is_last x [] = refl
newest_is_last x (y ∷ d) = rw (reverse-append (x ∷ []) (y ∷ d)) (get_left (reverse (y ∷ d)) (x ∷ []) 0 (last_of (y ∷ d)) (newest_is_last y d))

last_is : (d : List ℕ) → last_of d ≡ out_of d 0
unfolding opened_lists
last_is [] = refl
last_is (x ∷ d) = rw (newest_is_last x d) refl

-- A bound is written ------------------------------------------------------------------------------------

-- an operand with others above it
operand_in : (below above ops rest : List ℕ) (x : ℕ) → (below ++ reverse (above ++ x ∷ ops)) ++ rest ≡ (below ++ reverse ops) ++ x ∷ (reverse above ++ rest)
operand_in below above ops rest x = simp (reverse-append, append_assoc) (rw (reverse-append (x ∷ []) ops, append_assoc (reverse ops) (x ∷ []) (reverse above ++ rest)) refl)

operand_set : (code : Code) (e : Kept) (k : List T.Frame) (above : List ℕ) (ops : List Word) (w : World) (x y at : ℕ) (before after : List Word) → cells_of before ≡ above ++ x ∷ cells_of ops → cells_of after ≡ above ++ y ∷ cells_of ops → Holds code e k before w → at ≡ tall k (heads_of w.activations) + length ops
    → Holds code (with_cells e (slice_set e.cells at y)) k after w
operand_set code e k above ops w x y at before after are become h is =
    let acts = w.activations in
    let rest = h.cells.0 in
    let row = cells_of ops in
    let long : at ≡ length (under k acts ++ reverse row) + 0 = omega (arith, is, tall_is k acts, length-append (under k acts) (reverse row), length-reverse row, length_cells ops) in
    let set : slice_set e.cells at y ≡ laid k acts after ++ rest =
    ap (λ c. slice_set c at y) (h.cells.1 ∙ (ap (λ (l : List ℕ). (under k acts ++ reverse l) ++ rest) are ∙ operand_in (under k acts) above row rest x))
    ∙ (set_right (under k acts ++ reverse row) (x ∷ (reverse above ++ rest)) 0 at y long ∙ (sym (operand_in (under k acts) above row rest y) ∙ ap (λ (l : List ℕ). (under k acts ++ reverse l) ++ rest) (sym become))) in
    record {
      cells = (rest, set);
      room = subst (λ n. HaveRoom code.room e.masters n) (sym (length_set e.cells at y)) h.room;
      masters = h.masters;
      below = h.below;
      waits = h.waits;
      objects = h.objects;
      needs = h.needs;
      pools = h.pools;
      owns = h.owns;
      held = h.held;
      rise = h.rise;
      next_master = h.next_master;
      next_object = h.next_object;
      next_collection = h.next_collection;
      collections = h.collections;
      left = h.left;
      saved = h.saved;
      noted = h.noted;
    }

-- What a turn finds -------------------------------------------------------------------------------------

-- the bounds, and the cell of the parameter
pub record IsLoop (code : Code) (e : Kept) (low slot parameter : ℕ) (below : List Kind) (k : List T.Frame) (ops : List Word) (w : World) : Type 0 where
  pub stands : Inside code e (Operand Integer ∷ Operand Integer ∷ below) k ops w
  pub bounds : AreNewest code e low below k ops w
  pub place : low ≡ height below
  pub variable : variable_at below 0 slot ≡ Some parameter

pub is_loop : (code : Code) (e : Kept) (low slot parameter : ℕ) (stack : List Kind) (k : List T.Frame) (ops : List Word) (w : World) (P : List Kind → Type 0) → Inside code e stack k ops w → (b : Bounded low slot parameter stack P) → IsLoop code e low slot parameter b.0 k ops w
is_loop code e low slot parameter stack k ops w P i b =
    let stands : Inside code e (Operand Integer ∷ Operand Integer ∷ b.0) k ops w = subst (λ (x : List Kind). Inside code e x k ops w) b.1 i in
    record { stands = stands; bounds = are_newest code e low Integer Integer b.0 k ops w tt tt stands b.2.0; place = b.2.0; variable = b.2.1 }

pub low_within : (code : Code) (e : Kept) (low slot parameter : ℕ) (below : List Kind) (k : List T.Frame) (ops : List Word) (w : World) → IsLoop code e low slot parameter below k ops w → first_window e.masters + low < length e.cells
low_within code e low slot parameter below k ops w l = slice_get_within e.cells (first_window e.masters + low) l.bounds.lower l.bounds.lower_read

pub high_within : (code : Code) (e : Kept) (low slot parameter : ℕ) (below : List Kind) (k : List T.Frame) (ops : List Word) (w : World) → IsLoop code e low slot parameter below k ops w → first_window e.masters + (low + 1) < length e.cells
high_within code e low slot parameter below k ops w l = slice_get_within e.cells (first_window e.masters + (low + 1)) l.bounds.upper l.bounds.upper_read

pub counted_within : (code : Code) (e : Kept) (low slot parameter : ℕ) (way : Direction) (below : List Kind) (k : List T.Frame) (ops : List Word) (w : World) → IsLoop code e low slot parameter below k ops w → first_window e.masters + counted way low < length e.cells
counted_within code e low slot parameter Upward below k ops w l = low_within code e low slot parameter below k ops w l
counted_within code e low slot parameter Downward below k ops w l = high_within code e low slot parameter below k ops w l

parameter_is : (code : Code) (e : Kept) (low slot parameter : ℕ) (below : List Kind) (k : List T.Frame) (ops : List Word) (w : World) → IsLoop code e low slot parameter below k ops w → IsVariable (first_display (heads_of w.activations)) 0 slot (first_window e.masters + parameter) e.masters
parameter_is code e low slot parameter below k ops w l = variable_is 0 slot parameter (window_in l.bounds.left) l.variable

pub parameter_within : (code : Code) (e : Kept) (low slot parameter : ℕ) (below : List Kind) (k : List T.Frame) (ops : List Word) (w : World) → IsLoop code e low slot parameter below k ops w → first_window e.masters + parameter < length e.cells
parameter_within code e low slot parameter below k ops w l =
    slice_get_within e.cells (first_window e.masters + parameter) _ (variable_read code e k ops w (first_display (heads_of w.activations)) 0 slot (first_window e.masters + parameter) l.stands.holds (parameter_is code e low slot parameter below k ops w l))

-- A turn begins -----------------------------------------------------------------------------------------

-- the bounds, the high one on top, where the one that the loop counts from has this value
abbrev pub upper_of : Direction → ℕ → ℕ → ℕ
upper_of Upward x b = b
upper_of Downward x b = x

abbrev pub lower_of : Direction → ℕ → ℕ → ℕ
lower_of Upward x a = x
lower_of Downward x a = a

bound_set : (code : Code) (e : Kept) (low slot parameter : ℕ) (way : Direction) (below : List Kind) (k : List T.Frame) (ops : List Word) (w : World) (x : ℕ) → (l : IsLoop code e low slot parameter below k ops w)
    → Holds code (with_cells e (slice_set e.cells (first_window e.masters + counted way low) x)) k (Scalar (upper_of way x l.bounds.upper) ∷ Scalar (lower_of way x l.bounds.lower) ∷ l.bounds.rest) w
bound_set code e low slot parameter Upward below k ops w x l =
    let here = place_is (window_in l.bounds.left) in
    operand_set code e k (l.bounds.upper ∷ []) l.bounds.rest w l.bounds.lower x (first_window e.masters + low) (Scalar l.bounds.upper ∷ Scalar l.bounds.lower ∷ l.bounds.rest) (Scalar l.bounds.upper ∷ Scalar x ∷ l.bounds.rest) refl refl (subst (λ xs. Holds code e k xs w) l.bounds.are l.stands.holds) (omega (arith, here, l.place))
bound_set code e low slot parameter Downward below k ops w x l =
    let here = place_is (window_in l.bounds.left) in
    operand_set code e k [] (Scalar l.bounds.lower ∷ l.bounds.rest) w l.bounds.upper x (first_window e.masters + (low + 1)) (Scalar l.bounds.upper ∷ Scalar l.bounds.lower ∷ l.bounds.rest) (Scalar x ∷ Scalar l.bounds.lower ∷ l.bounds.rest) refl refl (subst (λ xs. Holds code e k xs w) l.bounds.are l.stands.holds) (omega (arith, here, l.place))

-- both cells are written, and the machine goes on with the turn
pub turn_goes : (code : Code) (old new : Engine) (place low slot parameter : ℕ) (way : Direction) (below : List Kind) (k : List T.Frame) (ops : List Word) (w : World) (x : ℕ) → (l : IsLoop code (kept old) low slot parameter below k ops w) → Leads code place (Operand Integer ∷ Operand Integer ∷ below)
    → GoesOn old new (ModeOf.At place) (slice_set (slice_set old.cells.items (first_window (reverse old.masters.items) + counted way low) x) (first_window (reverse old.masters.items) + parameter) x)
    → Makes code old new (quiet (At (first_display (heads_of w.activations)) place) k (Scalar (upper_of way x l.bounds.upper) ∷ Scalar (lower_of way x l.bounds.lower) ∷ l.bounds.rest) (with_parameter (first_display (heads_of w.activations)) slot x w))
turn_goes code old new place low slot parameter way below k ops w x l leads g =
    let e = kept old in
    let d = first_display (heads_of w.activations) in
    let cells = slice_set e.cells (first_window e.masters + counted way low) x in
    let at = first_window e.masters + parameter in
    let turned = Scalar (upper_of way x l.bounds.upper) ∷ Scalar (lower_of way x l.bounds.lower) ∷ l.bounds.rest in
    let v = parameter_is code e low slot parameter below k ops w l in
    let p = value_put code (with_cells e cells) k turned w (last_of d) slot at x v.master (bound_set code e low slot parameter way below k ops w x l) v.among (last_is d ∙ v.number) v.within v.cell in
    let inside : Inside code (with_cells e (slice_set cells at x)) (Operand Integer ∷ Operand Integer ∷ below) k turned (with_parameter d slot x w) = record {
      stands = (tt, (tt, l.bounds.left.stands));
      sized = subst (λ (hs : List Head). Sized code below k hs) (sym p.2) l.bounds.left.sized;
      holds = p.0;
      spots = l.bounds.left.spots;
    } in
    subst (λ (hs : List Head). Makes code old new (quiet (At (first_display hs) place) k turned (with_parameter d slot x w))) p.2
    (goes_makes code old new place (Operand Integer ∷ Operand Integer ∷ below) k turned (with_parameter d slot x w) (slice_set cells at x) leads inside g)
