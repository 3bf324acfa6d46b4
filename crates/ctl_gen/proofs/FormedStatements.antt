-- The code of each construct is well formed where its parts are, and leaves in the window what stood there.
use Rattle.std.proofs.Common.{◌≡◌, ℕ, ◌+◌, List, [], ◌∷◌, ◌++◌, length, true, Option, Some, None, refl, sym, subst, arith, length-append}
use Rattle.ctl_program.specs.declared.types.Ty.{Ty}
use Rattle.ctl_program.specs.declared.types.Ty.TheVariants.{Integer, Count, Boolean, Address, Handle, Access, Record}
use Rattle.ctl_program.specs.declared.types.Var.{Var}
use Rattle.ctl_program.specs.declared.types.RecordType.{RecordType}
use Rattle.ctl_program.specs.declared.expression.Step.{Step}
use Rattle.ctl_program.specs.declared.operators.Direction.{Direction}
use Rattle.ctl_well_typed.specs.Setting as W
use Rattle.ctl_meaning.specs.Outcome.{program_error}
use Rattle.ctl_code.specs.declared.kinds.Kind.{Kind}
use Rattle.ctl_code.specs.declared.kinds.Kind.TheVariants.{Operand}
use Rattle.ctl_code.specs.declared.code.DiscriminantOrder.{DiscriminantOrder}
use Rattle.ctl_code.specs.declared.code.Instr.{Instr}
use Rattle.ctl_code.specs.declared.code.Instr.TheVariants as InstrOf
use Rattle.ctl_code.specs.declared.code.Code.{Code}
use Rattle.ctl_code.specs.declared.template.TextPart.{TextPart}
use Rattle.ctl_code.specs.Windows.{HasSlot, OwnsSlot, height, variable_at}
use Rattle.ctl_code.specs.Valid.{IsCellOf, IsException, IsFine, HasCollection, Leads}
use Rattle.ctl_layout.specs.Parts.{Start, Reached, Variable, any_type, located_code, part_code, part_runs}
use Rattle.ctl_layout.specs.Around.{Line, Around, behind, local_at, local_cell, new_operand, newest_at, newest_cell, out_to}
use Rattle.ctl_layout.specs.Values.{ValueCode, held, value_type}
use Rattle.ctl_layout.specs.Layout.{StatementCode, all, assign_code, assign_part_code, bounds_code, copy, declaration, discriminants_code, dropped_code, failed_code, for, free_part_code, in_loop, leaves_code, loop, on_pool, on_pool_and_part, pool_code, pool_operand, pool_type, request, return_held, scalar_code, store_part_code, test_code, test_held, test_length, tested_code, turns_code, valued_code, values_code, values_then, with_bounds, with_discriminants, with_pool, with_pool_and_part, with_types}
use Rattle.ctl_layout.specs.Defaults.{is_declared}
use Rattle.ctl_layout.specs.Records.{is_plain}
use Rattle.ctl_layout.proofs.Extensions.{both_true}
use Rattle.ctl_gen.proofs.Place.{HasAt}
use Rattle.ctl_gen.proofs.Place as Place
use Rattle.ctl_gen.proofs.Formed.{both, both_at, Formed, FormedAt, has_end, leads_at, none, one}
use Rattle.ctl_gen.proofs.FormedAround.{Agrees, CanLeave, Surrounds, IsNamed, MayHold, cell_there, leave_behind, leaves_formed}
use Rattle.ctl_gen.proofs.FormedLines.{loop_formed, test_formed, turns_formed}
use Rattle.ctl_gen.proofs.FormedParts.{Follows, FollowsAt, IsBegun, IsFoundAt, located_formed, part_formed}
use Rattle.ctl_emitter.proofs.Walked.{part_begun, start_of}
use Rattle.ctl_gen.proofs.FormedValues.{Usable, found, taken_slot}

module _ (code : Code) where
  -- Items ------------------------------------------------------------------------------------------

  -- an elementary variable without a value
  scalar_formed : (slot : ℕ) (ty : Ty) (s : List Kind) → OwnsSlot s slot → IsCellOf ty 0 → Formed code (scalar_code (variable_at s 0 slot) slot ty s) s (Some s)
  scalar_formed slot ty s there zero_cell =
      let cell = cell_there s slot there in
      subst (λ o. Formed code (scalar_code o slot ty s) s (Some s)) (sym cell.1)
      (both code ((InstrOf.Set 0 ty (newest_cell slot cell.0), s) ∷ []) ((InstrOf.Number, s) ∷ []) s s (Some s)
      (one code (InstrOf.Set 0 ty (newest_cell slot cell.0)) s (Some s) (λ p next. (zero_cell, (cell.1, next))))
      (one code InstrOf.Number s (Some s) (λ p next. next)))

  -- and one with a value
  pub valued_formed : (env : W.Frames) (slot : ℕ) (ty : Ty) (x : ValueCode) (s : List Kind) → Surrounds code env s → OwnsSlot s slot → Usable code env x ty → Formed code (valued_code (variable_at s 0 slot) slot ty x s) s (Some s)
  valued_formed env slot ty x s agrees there usable =
      let cell = cell_there s slot there in
      subst (λ o. Formed code (valued_code o slot ty x s) s (Some s)) (sym cell.1)
      (both code (x.code (newest_cell slot cell.0) ty s) ((InstrOf.Number, s) ∷ []) s s (Some s)
      (usable.formed (newest_cell slot cell.0) s agrees cell.1)
      (one code InstrOf.Number s (Some s) (λ p next. next)))

  -- a declaration without a value, of a type that can be declared there if it is a record type
  abbrev pub MayDeclare : List Kind → Ty → Type 0
  MayDeclare s (Record t) = MayHold code s t
  MayDeclare s ty = Unit {0}

  pub declaration_formed : (records : List RecordType) (slot : ℕ) (ty : Ty) (s : List Kind) → is_declared records ty ≡ true → OwnsSlot s slot → MayDeclare s ty → Formed code (declaration slot ty s) s (Some s)
  declaration_formed records slot (Record t) s runs there may = one code (InstrOf.Declare slot t) s (Some s) (λ p next. (may.0, next, there, may.1))
  declaration_formed records slot Integer s runs there may = scalar_formed slot Integer s there tt
  declaration_formed records slot Count s runs there may = scalar_formed slot Count s there tt
  declaration_formed records slot Boolean s runs there may = scalar_formed slot Boolean s there (omega arith)
  declaration_formed records slot Address s runs there may = scalar_formed slot Address s there tt
  declaration_formed records slot Handle s runs there may = absurd (cc)
  declaration_formed records slot (Access a) s runs there may = scalar_formed slot (Access a) s there tt

  -- one with the value of a part of its record type, or of a function
  pub copy_formed : (env : W.Frames) (records : List RecordType) (slot t : ℕ) (o : Option Reached) (s : List Kind) → Surrounds code env s → OwnsSlot s slot → IsFoundAt code env records t o → (copy slot t o).runs records ≡ true → MayHold code s t → Formed code ((copy slot t o).code s) s (Some s)
  copy_formed env records slot t None s agrees there found_so runs may = absurd (cc)
  copy_formed env records slot t (Some o) s agrees there found_so runs may =
      let over = Operand (Record t) ∷ s in
      let declare = InstrOf.DeclareCopy slot t in
      let begun = found_so.1 (part_begun records o (both_true (is_plain records t) (part_runs o records) runs).1) in
      both code (part_code o t s) ((declare, over) ∷ []) s over (Some s) (part_formed code env o t s agrees found_so.0 begun)
      (one code declare over (Some s) (λ p next. (may.0, (s, refl, next), there, may.1)))

  -- two values of one type, one after the other
  two_formed : (env : W.Frames) (ty : Ty) (x y : ValueCode) (s : List Kind) → Surrounds code env s → Usable code env x ty → Usable code env y ty → Formed code (x.code (new_operand s) ty s ++ y.code (new_operand (Operand ty ∷ s)) ty (Operand ty ∷ s)) s (Some (Operand ty ∷ Operand ty ∷ s))
  two_formed env ty x y s agrees from to =
      let one_up = Operand ty ∷ s in
      both code (x.code (new_operand s) ty s) (y.code (new_operand one_up) ty one_up) s one_up (Some (Operand ty ∷ one_up)) (from.formed (new_operand s) s agrees refl) (to.formed (new_operand one_up) one_up agrees refl)

  -- a block pool, with its discriminants (3.7.1, 13.11)
  pub pool_formed : (env : W.Frames) (slot t : ℕ) (order : DiscriminantOrder) (x y : ValueCode) (s : List Kind) → Surrounds code env s → OwnsSlot s slot → Usable code env x Count → Usable code env y Count → MayHold code s t → Formed code (pool_code slot t order x y s) s (Some s)
  pool_formed env slot t order x y s agrees there from to may =
      let two = with_discriminants s in
      let declare = InstrOf.DeclarePool slot t order (height s) in
      both code (discriminants_code x y s) ((declare, two) ∷ []) s two (Some s) (two_formed env Count x y s agrees from to)
      (one code declare two (Some s) (λ p next. (may.0, (s, refl, (refl, next)), there, may.1)))

  -- Statements -------------------------------------------------------------------------------------

  -- lines of statements inside these masters, with the texts that they print
  abbrev pub Stays : W.Frames → List (List TextPart) → (Around → ℕ → List Line) → Type 0
  Stays env texts lines = (a : Around) (n p : ℕ) → Agrees code env a.stack → HasAt code.texts.items n texts → CanLeave code p a → FormedAt code p (lines a n) a.stack (Some a.stack)

  -- the same of lines that may lead to the second place behind them
  abbrev pub Turns : W.Frames → List (List TextPart) → (Around → ℕ → List Line) → Type 0
  Turns env texts lines = (a : Around) (n p : ℕ) → Agrees code env a.stack → HasAt code.texts.items n texts → CanLeave code p a → Leads code (p + length (lines a n) + 1) a.stack → FormedAt code p (lines a n) a.stack (Some a.stack)

  pub all_stay : (env : W.Frames) (x : StatementCode) (xs : List StatementCode) → Stays env x.texts x.code → Stays env (all xs).texts (all xs).code → Stays env (all (x ∷ xs)).texts (all (x ∷ xs)).code
  all_stay env x xs h rest a n p agrees texts can =
      let size = length (x.code a n) in
      let n1 = n + length x.texts in
      both_at code p (x.code a n) ((all xs).code (behind size a) n1) a.stack a.stack (Some a.stack)
      (h a n p agrees (Place.has_front code.texts.items n x.texts (all xs).texts texts) can)
      (rest (behind size a) n1 (p + size) agrees (Place.has_back code.texts.items n x.texts (all xs).texts texts) (leave_behind code p size (p + size) a refl can))

  pub assign_formed : (env : W.Frames) (o : Option ℕ) (v : Var) (x : ValueCode) (s : List Kind) → Surrounds code env s → IsNamed env v → local_at s v ≡ o → Usable code env x (value_type x) → Formed code (assign_code o v x s) s (Some s)
  assign_formed env (Some at) v x s agrees named here usable = usable.formed (local_cell s v at) s agrees here
  assign_formed env None v x s agrees named here usable =
      let h = held x (value_type x) s in
      let f = found code env x (value_type x) s agrees usable in
      let store = InstrOf.Store h.cell (value_type x) (out_to s v) v.slot in
      both code h.code ((store, h.after) ∷ []) s h.after (Some s) f.formed
      (one code store h.after (Some s) (λ p next. (usable.scalar, (s, f.taken, next), taken_slot code.homes h.cell (value_type x) h.after s (out_to s v) v.slot f.taken (agrees.1 v named.0 named.1))))

  -- a value goes into a component of a part
  pub assign_part_formed : (env : W.Frames) (b : Start) (steps : List Step) (t position : ℕ) (x : ValueCode) (s : List Kind) → Surrounds code env s → Follows b steps t → IsBegun code env b → Usable code env x (value_type x) → Formed code (assign_part_code b steps t position x s) s (Some s)
  assign_part_formed env b steps t position x s agrees followed begun usable =
      let over = Operand (Record t) ∷ s in
      let h = held x (value_type x) over in
      let f = found code env x (value_type x) over agrees usable in
      let store = InstrOf.StorePart h.cell (value_type x) t position in
      both code (located_code b steps t s) (store_part_code t position x s) s over (Some s) (located_formed code env b steps t s agrees followed begun)
      (both code h.code ((store, h.after) ∷ []) over h.after (Some s) f.formed
      (one code store h.after (Some s) (λ p next. (usable.scalar, (over, f.taken, (s, refl, next))))))

  -- what frees an object passes over the next instruction, which raises Program_Error, or leads to it
  freed_formed : (i : Instr) (over s : List Kind) → IsException code program_error → ((p : ℕ) → Leads code (p + 1) s → Leads code (p + 1 + 1) s → IsFine code p i over) → Formed code ((i, over) ∷ failed_code s) over (Some s)
  freed_formed i over s known fine p h = (h.0, (fine p h.1.0 h.1.1, (known, tt)))

  -- an object is freed whose access value is in a variable, or in a component of a part (13.11.2)
  pub free_formed : (access out slot : ℕ) (s : List Kind) → IsException code program_error → HasCollection code s access → HasSlot code.homes s out slot → Formed code ((InstrOf.Free access out slot, s) ∷ failed_code s) s (Some s)
  free_formed access out slot s known seen there = freed_formed (InstrOf.Free access out slot) s s known (λ p next behind_it. (seen, next, behind_it, there))

  pub free_part_formed : (env : W.Frames) (access : ℕ) (b : Start) (steps : List Step) (t position : ℕ) (s : List Kind) → Surrounds code env s → IsException code program_error → Follows b steps t → IsBegun code env b → HasCollection code s access → Formed code (free_part_code access b steps t position s) s (Some s)
  free_part_formed env access b steps t position s agrees known followed begun seen =
      let over = Operand (Record t) ∷ s in
      let free = InstrOf.FreePart access t position in
      both code (located_code b steps t s) ((free, over) ∷ failed_code s) s over (Some s) (located_formed code env b steps t s agrees followed begun)
      (freed_formed free over s known (λ p next behind_it. (seen, (s, refl, (next, behind_it)))))

  -- what a name denotes is found and dropped (7.6)
  pub dropped_formed : (env : W.Frames) (o : Reached) (s : List Kind) → Agrees code env s → FollowsAt o any_type → IsBegun code env (start_of o) → Formed code (dropped_code o s) s (Some s)
  dropped_formed env o s agrees followed begun =
      let over = Operand (Record any_type) ∷ s in
      let drops = InstrOf.DropPart any_type in
      both code (part_code o any_type s) ((drops, over) ∷ []) s over (Some s) (part_formed code env o any_type s agrees.0 followed begun)
      (one code drops over (Some s) (λ p next. (s, refl, next)))

  -- The library's Allocate and Deallocate (13.11) ----------------------------------------------------

  abbrev pub AreUsable : W.Frames → List (ValueCode × Ty) → Type 0
  AreUsable env [] = Unit {0}
  AreUsable env (x ∷ xs) = Usable code env x.0 x.1 × AreUsable env xs

  values_formed : (env : W.Frames) (xs : List (ValueCode × Ty)) (s : List Kind) → Surrounds code env s → AreUsable env xs → Formed code (values_code xs s) s (Some (with_types xs s))
  values_formed env [] s agrees usable = none code s
  values_formed env (x ∷ xs) s agrees usable =
      let top = Operand x.1 ∷ s in
      both code (x.0.code (new_operand s) x.1 s) (values_code xs top) s top (Some (with_types xs top)) (usable.0.formed (new_operand s) s agrees refl) (values_formed env xs top agrees usable.1)

  -- an instruction on values and what is below them, which it takes
  values_then_formed : (env : W.Frames) (xs : List (ValueCode × Ty)) (i : Instr) (over s : List Kind) → Surrounds code env over → AreUsable env xs → ((place : ℕ) → Leads code (place + 1) s → IsFine code place i (with_types xs over)) → Formed code (values_then xs i over) over (Some s)
  values_then_formed env xs i over s agrees usable fine =
      let top = with_types xs over in
      both code (values_code xs over) ((i, top) ∷ []) over top (Some s) (values_formed env xs over agrees usable) (one code i top (Some s) fine)

  -- an instruction on a pool and values
  on_pool_formed : (env : W.Frames) (p : Var) (xs : List (ValueCode × Ty)) (i : Instr) (s : List Kind) → Surrounds code env s → IsNamed env p → AreUsable env xs → ((place : ℕ) → Leads code (place + 1) s → IsFine code place i (with_types xs (with_pool s))) → Formed code (on_pool p xs i s) s (Some s)
  on_pool_formed env p xs i s agrees named usable fine =
      let pool = with_pool s in
      both code (pool_operand p s) (values_then xs i pool) s pool (Some s) (part_formed code env (Variable p) pool_type s agrees (refl, tt) named) (values_then_formed env xs i pool s agrees usable fine)

  pub allocate_formed : (env : W.Frames) (p : Var) (out slot : ℕ) (size alignment : ValueCode) (s : List Kind) → Surrounds code env s → IsNamed env p → HasSlot code.homes s out slot → Usable code env size Count → Usable code env alignment Count → Formed code (on_pool p (request size alignment) (InstrOf.TakeBlock pool_type out slot) s) s (Some s)
  allocate_formed env p out slot size alignment s agrees named there first second =
      on_pool_formed env p (request size alignment) (InstrOf.TakeBlock pool_type out slot) s agrees named (first, (second, tt)) (λ place next. ((with_pool s, refl, (s, refl, next)), there))

  pub allocate_into_formed : (env : W.Frames) (p : Var) (b : Start) (steps : List Step) (t position : ℕ) (size alignment : ValueCode) (s : List Kind) → Surrounds code env s → IsNamed env p → Follows b steps t → IsBegun code env b → Usable code env size Count → Usable code env alignment Count → Formed code (on_pool_and_part p b steps t (request size alignment) (InstrOf.TakeBlockInto pool_type t position) s) s (Some s)
  allocate_into_formed env p b steps t position size alignment s agrees named followed begun first second =
      let pool = with_pool s in
      let over = with_pool_and_part t s in
      let xs = request size alignment in
      let i = InstrOf.TakeBlockInto pool_type t position in
      both code (pool_operand p s) (located_code b steps t pool ++ values_then xs i over) s pool (Some s) (part_formed code env (Variable p) pool_type s agrees (refl, tt) named)
      (both code (located_code b steps t pool) (values_then xs i over) pool over (Some s) (located_formed code env b steps t pool agrees followed begun)
      (values_then_formed env xs i over s agrees (first, (second, tt)) (λ place next. (pool, refl, (s, refl, next)))))

  pub deallocate_formed : (env : W.Frames) (p : Var) (address size alignment : ValueCode) (s : List Kind) → Surrounds code env s → IsNamed env p → Usable code env address Address → Usable code env size Count → Usable code env alignment Count → Formed code (on_pool p ((address, Address) ∷ (size, Count) ∷ (alignment, Count) ∷ []) (InstrOf.GiveBlock pool_type) s) s (Some s)
  deallocate_formed env p address size alignment s agrees named first second third =
      on_pool_formed env p ((address, Address) ∷ (size, Count) ∷ (alignment, Count) ∷ []) (InstrOf.GiveBlock pool_type) s agrees named (first, (second, (third, tt))) (λ place next. (with_pool s, refl, (s, refl, next)))

  -- a return statement with a value (6.5), or the evaluation of a default (3.8): nothing need follow it
  pub returned_as : (env : W.Frames) (x : ValueCode) (ty : Ty) (s : List Kind) (after : Option (List Kind)) → Surrounds code env s → Usable code env x ty → Formed code (return_held ty (held x ty s)) s after
  returned_as env x ty s after agrees usable =
      let h = held x ty s in
      let f = found code env x ty s agrees usable in
      let return = InstrOf.Return h.cell ty in
      both code h.code ((return, h.after) ∷ []) s h.after after f.formed
      (one code return h.after after (λ p next. (usable.scalar, (s, f.taken, tt))))

  pub returned_formed : (env : W.Frames) (x : ValueCode) (s : List Kind) → Surrounds code env s → Usable code env x (value_type x) → Formed code (return_held (value_type x) (held x (value_type x) s)) s (Some s)
  returned_formed env x s agrees usable = returned_as env x (value_type x) s (Some s) agrees usable

  -- one with the value of a record, that of a part or of a function
  pub record_returned : (env : W.Frames) (records : List RecordType) (t : ℕ) (o : Reached) (s : List Kind) → Surrounds code env s → IsFoundAt code env records t (Some o) → part_runs o records ≡ true → Formed code (part_code o t s ++ (InstrOf.ReturnRecord t, Operand (Record t) ∷ s) ∷ []) s (Some s)
  record_returned env records t o s agrees found_so runs =
      let over = Operand (Record t) ∷ s in
      let return = InstrOf.ReturnRecord t in
      both code (part_code o t s) ((return, over) ∷ []) s over (Some s) (part_formed code env o t s agrees found_so.0 (found_so.1 (part_begun records o runs)))
      (one code return over (Some s) (λ p next. (s, refl, tt)))

  -- Conditions -------------------------------------------------------------------------------------

  pub leaves_stay : (env : W.Frames) → Stays env [] (λ a n. leaves_code a)
  leaves_stay env a n p agrees texts can = leaves_formed code p a can

  pub leaves_when_stay : (env : W.Frames) (x : ValueCode) → Usable code env x Boolean → Stays env [] (λ a n. test_code x a.stack 1 ++ leaves_code (behind (test_length x a.stack) a))
  leaves_when_stay env x usable a n p agrees texts can has =
      let s = a.stack in
      let h = held x Boolean s in
      let test = test_held h 1 in
      let end = leaves_code (behind (test_length x s) a) in
      let size : length test ≡ length h.code + 1 = length-append h.code ((InstrOf.Unless h.cell 1, h.after) ∷ []) in
      let last : p + length (test ++ end) ≡ p + length h.code + 1 + 1 = omega (arith, size, length-append test end) in
      let skip = leads_at code (p + length (test ++ end)) (p + length h.code + 1 + 1) s last (has_end code p (test ++ end) (Some s) has) in
      let there : p + test_length x s ≡ p + length test = omega (arith, size) in
      both_at code p test end s s (Some s)
      (test_formed code p h 1 s (found code env x Boolean s agrees.0 usable) skip)
      (leaves_formed code (p + length test) (behind (test_length x s) a) (leave_behind code p (test_length x s) (p + length test) a there can))
      has

  -- statements that are passed over where a condition does not hold
  pub tested_turns : (env : W.Frames) (x : ValueCode) (body : StatementCode) → Usable code env x Boolean → Stays env body.texts body.code → Turns env body.texts (tested_code x 1 body)
  tested_turns env x body usable g a n p agrees texts can skip =
      let s = a.stack in
      let h = held x Boolean s in
      let size = test_length x s in
      let b = body.code (behind size a) n in
      let test = test_held h (length b + 1) in
      let counted : length test ≡ length h.code + 1 = length-append h.code ((InstrOf.Unless h.cell (length b + 1), h.after) ∷ []) in
      let there : p + size ≡ p + length test = omega (arith, counted) in
      let last : p + length (test ++ b) + 1 ≡ p + length h.code + 1 + (length b + 1) = omega (arith, counted, length-append test b) in
      both_at code p test b s s (Some s)
      (test_formed code p h (length b + 1) s (found code env x Boolean s agrees.0 usable) (leads_at code (p + length (test ++ b) + 1) (p + length h.code + 1 + (length b + 1)) s last skip))
      (g (behind size a) n (p + length test) agrees texts (leave_behind code p size (p + length test) a there can))

  -- Loops ------------------------------------------------------------------------------------------

  pub loop_stays : (env : W.Frames) (x : StatementCode) → Turns env x.texts x.code → Stays env (loop x).texts (loop x).code
  loop_stays env x h a n p agrees texts can =
      loop_formed code p a.stack (x.code (in_loop a.stack) n) (λ lead behind_it. h (in_loop a.stack) n (p + 1 + 1) agrees texts (p + 1, refl, lead) behind_it)

  pub for_stays : (env : W.Frames) (v : Var) (way : Direction) (low high : ValueCode) (body : StatementCode) → ((s : List Kind) → Agrees code env s → (at : ℕ) × (newest_at s v ≡ Some at) × (variable_at s 0 v.slot ≡ Some at)) → Usable code env low Integer → Usable code env high Integer → Stays env body.texts body.code → Stays env (for v way low high body).texts (for v way low high body).code
  for_stays env v way low high body parameter from to h a n p agrees texts can =
      let s = a.stack in
      let top = with_bounds s in
      let turn = body.code (in_loop top) n in
      let q = p + length (bounds_code low high s) in
      let cell = parameter s agrees in
      both_at code p (bounds_code low high s) (turns_code (newest_at s v) v way turn s) s top (Some s)
      (two_formed env Integer low high s agrees.0 from to p)
      (subst (λ o. FormedAt code q (turns_code o v way turn s) top (Some s)) (sym cell.1)
      (turns_formed code q s v way cell.0 turn cell.2 (λ lead. h (in_loop top) n (q + 1 + 1) agrees texts (q + 1, refl, lead))))
