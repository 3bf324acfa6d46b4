-- A variable is given a value.
use Rattle.std.proofs.Common.{◌≡◌, ℕ, zero, suc, ◌+◌, ◌≤◌, List, [], ◌∷◌, Some, length, refl, sym, ap, ◌∙◌, subst, arith, inl, inr}
use Rattle.std.specs.Prelude.{slice_get, slice_set}
use Rattle.ctl_program.specs.declared.types.Ty.{Ty}
use Rattle.ctl_meaning.specs.World as W
use Rattle.ctl_meaning.specs.World.{World, Slot, Activation}
use Rattle.ctl_meaning.specs.Activations.{change_slot}
use Rattle.ctl_meaning.specs.Changes.{set_slot, slot_at, set_value, opened_changes}
use Rattle.ctl_code.specs.declared.kinds.Kind.{Kind}
use Rattle.ctl_code.specs.declared.code.Code.{Code}
use Rattle.ctl_code.specs.declared.code.Cell.{Cell}
use Rattle.ctl_code.specs.declared.code.Instr.TheVariants.{Store}
use Rattle.ctl_code.specs.States as T
use Rattle.ctl_code.specs.States.{Word, State, At}
use Rattle.ctl_code.specs.Table.{by_instr, on, quiet, with_cell, out_of}
use Rattle.ctl_code.specs.Valid.{Leads}
use Rattle.ctl_engine.specs.declared.engine.Engine.{Engine}
use Rattle.ctl_frames.specs.declared.frame.Master.{Master}
use Rattle.ctl_frames.specs.declared.frame.Owned.{Owned}
use Rattle.ctl_frames.specs.Masters.{Head, heads_of, first_display, AreMasters, newest_master, AreBelow, IsAmong}
use Rattle.ctl_engine.specs.Shows.{Sized, Kept, Holds, kept}
use Rattle.ctl_engine.specs.Moves.{Before, Inside, Makes, here_of}
use Rattle.ctl_engine.specs.Variables.{Gives, IsNoVariable, Takes, TakesNone}
use Rattle.ctl_engine.proofs.Slots.{HaveNo, unwritten, own_written, other_written, is_older}
use Rattle.ctl_engine.proofs.Held.{no_number}
use Rattle.ctl_engine.proofs.Values.{taken, value_put}
use Rattle.ctl_engine.proofs.Plain.{goes_makes}
use Rattle.ctl_engine.proofs.Computed.{cell_of, same_value}
use Rattle.ctl_engine.proofs.Reached.{no_zero}

-- Nothing is written ------------------------------------------------------------------------------------

set_beyond : {X : Type 0} (xs : List X) (i : ℕ) (y : X) → length xs ≤ i → slice_set xs i y ≡ xs
set_beyond [] i y less = refl
set_beyond (x ∷ xs) zero y less = absurd (omega (arith, less))
set_beyond (x ∷ xs) (suc i) y less = ap (λ l. x ∷ l) (set_beyond xs i y (omega (arith, less)))

beyond_written : (ms : List Master) (acts : List Activation) (ks : List W.Master) (owned : List Owned) (bound : ℕ) (x : Master) (slot : ℕ) (y : Slot) → AreMasters ms (heads_of acts) ks owned → AreBelow ms bound → IsAmong x ms → x.slots ≤ slot → change_slot x.number slot y acts ≡ acts
beyond_written [] acts ks owned bound x slot y a b i less = absurd i
beyond_written (m ∷ ms) [] ks owned bound x slot y a b i less = elim a [ ]
beyond_written (m ∷ ms) (act ∷ acts) _ _ bound x slot y (newest_master {ks = ks} h o r) b (inl e) less =
    let many = h.slots in
    let same = ap (λ (z : Master). z.slots) e in
    let none : HaveNo x.number acts = subst (λ n. HaveNo n acts) (ap (λ (z : Master). z.number) e) (no_number ms acts ks _ m.number m.number r b.1 (omega arith)) in
    own_written x.number slot y act acts (h.head ∙ ap (λ (z : Master). z.number) e) none ∙ ap (λ (l : List Slot). (record act { slots = l }) ∷ acts) (set_beyond act.slots slot y (omega (arith, many, same, less)))
beyond_written (m ∷ ms) (act ∷ acts) _ _ bound x slot y (newest_master {ks = ks} h o r) b (inr i) less =
    other_written x.number m.number slot y act acts h.head (is_older ms x m.number b.1 i) ∙ ap (λ (l : List Activation). act ∷ l) (beyond_written ms acts ks _ m.number x slot y r b.1 i less)

set_nothing : (n slot : ℕ) (y : Slot) (w : World) → change_slot n slot y w.activations ≡ w.activations → set_slot n slot y w ≡ w
unfolding opened_changes
set_nothing n slot y w e = ap (λ (l : List Activation). record w { activations = l }) e

nothing_valued : (n slot x : ℕ) (w : World) → ((y : Slot) → change_slot n slot y w.activations ≡ w.activations) → set_value n slot x w ≡ w
unfolding set_value
nothing_valued n slot x w e = set_nothing n slot (record (slot_at n slot w) { value = x }) w (e (record (slot_at n slot w) { value = x }))

pub nothing_written : (code : Code) (e : Kept) (k : List T.Frame) (ops : List Word) (w : World) (d : List ℕ) (out slot x : ℕ) → Holds code e k ops w → IsNoVariable d out slot e.masters → with_cell d out slot x w ≡ w
nothing_written code e k ops w d out slot x h (inl none) =
    nothing_valued (out_of d out) slot x w (λ y. ap (λ n. change_slot n slot y w.activations) none ∙ unwritten 0 slot y w.activations (no_zero e.masters w.activations w.ledger.masters e.owned e.next_master h.masters h.below))
nothing_written code e k ops w d out slot x h (inr v) =
    nothing_valued (out_of d out) slot x w (λ y. ap (λ n. change_slot n slot y w.activations) v.number ∙ beyond_written e.masters w.activations w.ledger.masters e.owned e.next_master v.master slot y h.masters h.below v.among v.beyond)

-- A value is given ----------------------------------------------------------------------------------------

given : (code : Code) (e new : Engine) (place : ℕ) (stack : List Kind) (k : List T.Frame) (ops : List Word) (w : World) (out slot x : ℕ) → Leads code (place + 1) stack → Inside code (kept e) stack k ops w → Takes (first_display (heads_of w.activations)) out slot x (place + 1) e new
    → Makes code e new (quiet (At (first_display (heads_of w.activations)) (place + 1)) k ops (with_cell (first_display (heads_of w.activations)) out slot x w))
given code e new place stack k ops w out slot x leads i t =
    let d = first_display (heads_of w.activations) in
    let v = t.variable in
    let p = value_put code (kept e) k ops w (out_of d out) slot t.cell x v.master i.holds v.among v.number v.within v.cell in
    let w' = with_cell d out slot x w in
    subst (λ (hs : List Head). Makes code e new (quiet (At (first_display hs) (place + 1)) k ops w')) p.2
    (goes_makes code e new (place + 1) stack k ops w' (slice_set e.cells.items t.cell x) leads
    (record {
      stands = i.stands;
      sized = subst (λ hs. Sized code stack k hs) (sym p.2) i.sized;
      holds = p.0;
      spots = i.spots;
    }) t.goes_on)

none_given : (code : Code) (e new : Engine) (place : ℕ) (stack : List Kind) (k : List T.Frame) (ops : List Word) (w : World) (out slot x : ℕ) → Leads code (place + 1) stack → Inside code (kept e) stack k ops w → TakesNone (first_display (heads_of w.activations)) out slot (place + 1) e new
    → Makes code e new (quiet (At (first_display (heads_of w.activations)) (place + 1)) k ops (with_cell (first_display (heads_of w.activations)) out slot x w))
none_given code e new place stack k ops w out slot x leads i t =
    let d = first_display (heads_of w.activations) in
    subst (λ (w' : World). Makes code e new (quiet (At d (place + 1)) k ops w')) (sym (nothing_written code (kept e) k ops w d out slot x i.holds t.none))
    (goes_makes code e new (place + 1) stack k ops w e.cells.items leads i t.goes_on)

-- a variable takes a value, if there is one
pub gives_makes : (code : Code) (e new : Engine) (place : ℕ) (stack : List Kind) (k : List T.Frame) (ops : List Word) (w : World) (out slot x : ℕ) → Leads code (place + 1) stack → Inside code (kept e) stack k ops w → Gives (first_display (heads_of w.activations)) out slot x (place + 1) e new
    → Makes code e new (quiet (At (first_display (heads_of w.activations)) (place + 1)) k ops (with_cell (first_display (heads_of w.activations)) out slot x w))
gives_makes code e new place stack k ops w out slot x leads i (inl t) = given code e new place stack k ops w out slot x leads i t
gives_makes code e new place stack k ops w out slot x leads i (inr t) = none_given code e new place stack k ops w out slot x leads i t

-- by an instruction that takes the value
pub store_makes : (code : Code) (e new : Engine) (place : ℕ) (s : State) (from : Cell) (ty : Ty) (out slot x : ℕ) → Before code e place (Store from ty out slot) s → slice_get e.cells.items (cell_of e from) ≡ Some x → Gives (first_display (heads_of s.world.activations)) out slot x (place + 1) e new
    → Makes code e new (by_instr code (Some (Store from ty out slot)) s.operands (here_of place s))
store_makes code e new place s from ty out slot x b read gives =
    let d = first_display (heads_of s.world.activations) in
    let v = taken code (kept e) from ty b.stack b.fine.1.0 s.control s.operands s.world b.fine.0 b.inside b.fine.1.1 in
    let same : x ≡ v.value = same_value x v.value (slice_get e.cells.items (cell_of e from)) read v.read in
    rw (v.takes (λ y rest. on rest (with_cell d out slot y s.world) (here_of place s)) place)
    (subst (λ y. Makes code e new (on v.rest (with_cell d out slot y s.world) (here_of place s))) same
    (gives_makes code e new place b.fine.1.0 s.control v.rest s.world out slot x b.fine.1.2 v.left gives))
