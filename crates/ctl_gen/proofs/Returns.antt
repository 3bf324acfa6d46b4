-- Return statements with a value: the value is held, and control is transferred with it (6.5).
use Rattle.std.proofs.Common.{◌≡◌, ℕ, ◌+◌, List, [], ◌∷◌, ◌++◌, length, Option, Some, None, true, refl, ap, ◌∙◌, subst, arith, length-append}
use Rattle.std.specs.Prelude.{slice_get}
use Rattle.ctl_program.specs.declared.types.Ty.{Ty}
use Rattle.ctl_program.specs.declared.types.Ty.TheVariants.{Record}
use Rattle.ctl_program.specs.declared.expression.Expr.{Expr}
use Rattle.ctl_tree.specs.declared.ending.Stop.TheVariants.{UseAfterFree}
use Rattle.ctl_meaning.specs.World.{Object, Log, World}
use Rattle.ctl_meaning.specs.Objects.{cells_at, first_cells}
use Rattle.ctl_meaning.specs.Changes.{object_at}
use Rattle.ctl_meaning.specs.Choice.{Ask}
use Rattle.ctl_meaning.specs.Outcome.{ByRaise, ByReturn, Leaves, Act, Done, bind, on_goes, ◌>>=◌, leave_by, ticked, opened_outcome}
use Rattle.ctl_meaning.specs.Types.{Tables}
use Rattle.ctl_meaning.specs.Names.{Call, Default, Tools}
use Rattle.ctl_meaning.specs.Expressions.{eval}
use Rattle.ctl_code.specs.declared.code.Code.{Code}
use Rattle.ctl_code.specs.declared.code.Instr.TheVariants as InstrOf
use Rattle.ctl_code.specs.declared.kinds.Kind.TheVariants.{Operand}
use Rattle.ctl_code.specs.States.{Word, Located, Cells, Frame, State}
use Rattle.ctl_code.specs.Steps.{moved, step}
use Rattle.ctl_code.specs.Table.{return_from, size_of, transfers}
use Rattle.ctl_layout.specs.Around.{Line}
use Rattle.ctl_layout.specs.Parts.{Reached, part_code, part_runs}
use Rattle.ctl_layout.specs.Layout.{return_held}
use Rattle.ctl_layout.specs.Values.{ValueCode, held}
use Rattle.ctl_gen.proofs.Known.{IsPlainType}
use Rattle.ctl_gen.proofs.Worlds.{Since, Kept}
use Rattle.ctl_gen.proofs.Place.{laid_front, laid_back}
use Rattle.ctl_gen.proofs.Cells.{Stays, by_code, here, taking_is, waiting}
use Rattle.ctl_gen.proofs.Setting.{Setting, seen, tools_with}
use Rattle.ctl_gen.proofs.Parts.{OfCells, OfObject, RecordOperand, word}
use Rattle.ctl_gen.proofs.Sources.{Reads}
use Rattle.ctl_gen.proofs.PartValues.{taken, taken_from, value_then}
use Rattle.ctl_gen.proofs.Expressions.{Value, held_holds, held_then}
use Rattle.ctl_gen.proofs.Does.{Does}
use Rattle.ctl_gen.proofs.Follow.{Runs, Target, added, arrives, at, lands, last_step, no_step, stop_step, way_of}

module _ (ask : Ask) (k : Tables) (code : Code) (bound : ℕ) where
  pub return_runs : (ty : Ty) (x : ValueCode) (act : List ℕ → Act (List ℕ)) → ((w0 : World) → Value ask k code bound w0 x act) → Does ask k code bound (λ a. return_held ty (held x ty a.stack)) (λ d caught. ticked (act d >>= (λ v. leave_by (ByReturn v))))
  unfolding opened_outcome
  return_runs ty x act value a w0 d place ks ops c l w le fits sees has =
      let h = held x ty a.stack in
      let i = InstrOf.Return h.cell ty in
      let front = laid_front code place h.code ((i, h.after) ∷ []) has in
      let there = (laid_back code place h.code ((i, h.after) ∷ []) has).0 in
      let end = arrives (lands a place) d (place + length (return_held ty h)) ks ops in
      let next = λ (v : List ℕ). leave_by (ByReturn v) in
      added ask code (Kept k code w0) 1 0 0 0 0 _ c end _ (omega arith) (omega arith)
      (held_then ask k code bound w0 (λ r w1. Since k code w0 w1) h (λ n w1. Stays h.cell.named n d w1) act d place ks ops c l w end (on_goes next)
      (held_holds ask k code bound w0 x.right x act refl (value w0) ty a.stack d place ks ops c l w le fits (seen sees) front)
      (λ n c1 l1 w1 lo fits1 stays. last_step ask code (Kept k code w0) 8 8 _ c1 0 end (Leaves (ByReturn (n ∷ []))) l1 w1 (omega arith) fits1
      (by_code ask code d (place + length h.code) ks (waiting h.cell.named n ops) l1 w1 i there
      ∙ ap (moved l1) (taking_is h.cell.named n (λ m rest. transfers (ByReturn (m ∷ [])) ks w1) ops d (place + length h.code) ks w1 stays)))
      (λ y c1 l1 w1 lo fits1. no_step ask code (Kept k code w0) 8 8 _ c1 0 end (Leaves (ByRaise y)) l1 w1 fits1 refl))

-- with the value of a record, which is that of a part, or of a function
module _ (ask : Ask) (k : Tables) (code : Code) (setting : Setting k code) (call : Call) (default : Default) (t : ℕ) (plain : IsPlainType k (Record t)) where
  abbrev K : Tools
  K = tools_with ask k call default

  abbrev leaving : List ℕ → Act Done
  leaving v = leave_by (ByReturn v)

  -- over what has the value
  over_record : (q : RecordOperand) (e : Target) (w0 : World) (d : List ℕ) (place : ℕ) (ks : List Frame) (ops : List Word) (c : ℕ) (l : Log) (w : World) → Since k code w0 w → slice_get code.instructions.items place ≡ Some (InstrOf.ReturnRecord t) → Runs ask code (Kept k code w0) 8 8 (at d place ks (word q ∷ ops) l w) c (arrives e d (place + 1) ks ops) (taken ask k code setting call default t plain leaving q c l w)
  unfolding opened_outcome
  over_record (OfCells v) e w0 d place ks ops c l w fits has =
      last_step ask code (Kept k code w0) 8 8 _ c 0 (arrives e d (place + 1) ks ops) (Leaves (ByReturn (first_cells (size_of code t) v))) l w (omega arith) fits (by_code ask code d place ks (Cells v ∷ ops) l w (InstrOf.ReturnRecord t) has)
  over_record (OfObject q) e w0 d place ks ops c l w fits has = by (object_at q.object w) (by_code ask code d place ks (Located q ∷ ops) l w (InstrOf.ReturnRecord t) has)
    where
      s0 : State
      s0 = at d place ks (Located q ∷ ops) l w

      by : (x : Option Object) → step ask code s0 ≡ moved l (return_from q.offset (size_of code t) x (here d place ks w)) → Runs ask code (Kept k code w0) 8 8 s0 c (arrives e d (place + 1) ks ops) (taken_from ask k code setting call default t plain leaving q.offset x c l w)
      by None go = stop_step ask code (Kept k code w0) 8 8 s0 _ c 0 (arrives e d (place + 1) ks ops) UseAfterFree l (omega arith) go refl refl
      by (Some o) go = last_step ask code (Kept k code w0) 8 8 s0 c 0 (arrives e d (place + 1) ks ops) (Leaves (ByReturn (cells_at q.offset (size_of code t) o))) l w (omega arith) fits go

  pub record_returns : (bound : ℕ) (x : Reached) (e : Expr) → part_runs x k.records ≡ true → ((w0 : World) → Reads ask k code call default bound w0 t x (eval e)) → Does ask k code bound (λ a. part_code x t a.stack ++ (InstrOf.ReturnRecord t, Operand (Record t) ∷ a.stack) ∷ []) (λ d caught. ticked (eval e K d >>= leaving))
  unfolding opened_outcome
  record_returns bound x e runs reads a w0 d place ks ops c l w le fits sees has =
      let s = a.stack in
      let front = part_code x t s in
      let last : List Line = (InstrOf.ReturnRecord t, Operand (Record t) ∷ s) ∷ [] in
      let next = arrives (lands a place) d (place + length (front ++ last)) ks ops in
      let end : place + length front + 1 ≡ place + length (front ++ last) = omega (arith, length-append front last) in
      added ask code (Kept k code w0) 1 0 0 0 0 _ c next (bind (eval e K d c l w) (on_goes leaving)) (omega arith) (omega arith)
      (value_then ask k code setting call default t plain leaving bound w0 (λ y u. Kept k code w0 (way_of y) u) next 8 8 (omega arith) (omega arith) s d place ks ops c l w (eval e) x (reads w0) runs le fits (seen sees) (laid_front code place front last has)
      (λ q c1 l1 w1 lo fits1.
      subst (λ z. Runs ask code (Kept k code w0) 8 8 (at d (place + length front) ks (word q ∷ ops) l1 w1) c1 (arrives (lands a place) d z ks ops) (taken ask k code setting call default t plain leaving q c1 l1 w1)) end
      (over_record q (lands a place) w0 d (place + length front) ks ops c1 l1 w1 fits1 (laid_back code place front last has).0))
      (λ y c1 l1 w1 lo fits1. no_step ask code (Kept k code w0) 8 8 _ c1 0 next (Leaves (ByRaise y)) l1 w1 fits1 refl))
