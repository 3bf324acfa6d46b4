-- The evaluation of a default: its value goes into the component, or what is raised goes on, for the frame that fills the part (3.8).
use Rattle.std.proofs.Common.{◌≡◌, ℕ, ◌+◌, ◌≤◌, List, [], ◌∷◌, length, Option, Some, None, refl, sym, ap, ◌∙◌, subst, arith}
use Rattle.ctl_program.specs.declared.types.Ty.{Ty}
use Rattle.ctl_tree.specs.declared.ending.Stop.TheVariants.{UseAfterFree}
use Rattle.ctl_meaning.specs.World.{Object, Log, World}
use Rattle.ctl_meaning.specs.Lists.{opened_lists}
use Rattle.ctl_meaning.specs.Changes.{object_at, write_cells}
use Rattle.ctl_meaning.specs.Choice.{Ask, picked}
use Rattle.ctl_meaning.specs.Outcome.{ByRaise, ByReturn, Result, Goes, Leaves, Act, Done, bind, on_goes, nothing, change, on_some, opened_outcome}
use Rattle.ctl_meaning.specs.Types.{Tables}
use Rattle.ctl_meaning.specs.Names.{existing, gone, scalar_of, write_part}
use Rattle.ctl_code.specs.declared.kinds.Kind.TheVariants.{Default}
use Rattle.ctl_code.specs.declared.code.Code.{Code}
use Rattle.ctl_code.specs.declared.code.Instr.TheVariants as InstrOf
use Rattle.ctl_code.specs.States.{Evaluating, Frame, State}
use Rattle.ctl_code.specs.Table.{defaulted, transfers}
use Rattle.ctl_code.specs.Steps.{moved, step}
use Rattle.ctl_layout.specs.Layout.{evaluation}
use Rattle.ctl_layout.specs.Values.{ValueCode, held}
use Rattle.ctl_gen.proofs.Worlds.{Since, since_written}
use Rattle.ctl_gen.proofs.Place.{Laid, laid_back, laid_front}
use Rattle.ctl_gen.proofs.Cells.{Stays, by_code, taking_is, waiting}
use Rattle.ctl_gen.proofs.Setting.{IsSeen, Told, returns}
use Rattle.ctl_gen.proofs.Expressions.{Value, held_holds, held_then}
use Rattle.ctl_gen.proofs.Follow.{Runs, RunsTo, at, bind_bind, last_step_to, one_step_to, stop_step_to, transferred, way_of}

module _ (ask : Ask) (k : Tables) (code : Code) (w0 : World) where
  -- what becomes of its value
  abbrev takes : ℕ → ℕ → Result (List ℕ) → Act Done
  takes object offset r c l w = bind (on_goes (write_part object offset) r c l w) (on_goes (λ _. nothing))

  abbrev Ends : Result Done → World → Type 0
  Ends r w = Told k code w0 (way_of r) w

  -- the component of an object that exists takes it
  ended_runs : (object offset : ℕ) (ks : List Frame) (n c : ℕ) (l : Log) (w : World) → Since k code w0 w → RunsTo ask code Ends 7 7 (transferred (ByReturn (n ∷ [])) (Evaluating object offset ∷ ks) l w) c (returns {A = Done} ks) (takes object offset (Goes (n ∷ [])) c l w)
  unfolding write_part existing gone scalar_of picked opened_lists opened_outcome
  ended_runs object offset ks n c l w fits = by (object_at object w) refl
    where
      s0 : State
      s0 = transferred (ByReturn (n ∷ [])) (Evaluating object offset ∷ ks) l w

      next : Result Done → Log → World → State
      next = returns {A = Done} ks

      by : (o : Option Object) → step ask code (transferred (ByReturn (n ∷ [])) (Evaluating object offset ∷ ks) l w) ≡ moved l (defaulted (Leaves (ByReturn (n ∷ []))) object offset o ks w) → RunsTo ask code Ends 7 7 s0 c next (bind (on_some o gone (λ z. change (write_cells object offset (n ∷ []))) c l w) (on_goes (λ _. nothing)))
      by None go = stop_step_to ask code Ends 7 7 s0 _ c 0 next UseAfterFree l (omega arith) go refl refl
      by (Some z) go = last_step_to ask code Ends 7 7 s0 c 0 next (Goes tt) l (write_cells object offset (n ∷ []) w) (omega arith) (tt, since_written k code object offset (n ∷ []) w0 w fits) go

  -- what its code does, where as many masters are seen as stand around its type, or more
  pub evaluation_runs : (bound level number : ℕ) (x : ValueCode) (ty : Ty) (act : List ℕ → Act (List ℕ)) → Value ask k code bound w0 x act → (object offset : ℕ) (ks : List Frame) (d : List ℕ) (place c : ℕ) (l : Log) (w : World) → c ≤ bound → Since k code w0 w → IsSeen w0 d (Default level number ∷ []) → Laid code place (evaluation level number x ty)
      → Runs ask code (Told k code w0) 0 0 (at d place (Evaluating object offset ∷ ks) [] l w) c (returns ks) (bind (bind (act d c l w) (on_goes (write_part object offset))) (on_goes (λ _. nothing)))
  unfolding picked opened_outcome
  evaluation_runs bound level number x ty act value object offset ks d place c l w le fits sees has =
      let h = held x ty (Default level number ∷ []) in
      let i = InstrOf.Return h.cell ty in
      let over = Evaluating object offset ∷ ks in
      let there = place + length h.code in
      let next : Result Done → Log → World → State = returns {A = Done} ks in
      let front = laid_front code place h.code ((i, h.after) ∷ []) has in
      let here_it = (laid_back code place h.code ((i, h.after) ∷ []) has).0 in
      subst (Runs ask code (Told k code w0) 0 0 (at d place over [] l w) c next) (sym (bind_bind (act d c l w) (on_goes (write_part object offset)) (on_goes (λ _. nothing))))
      (held_then ask k code bound w0 {B = Done} Ends h (λ n w1. Stays h.cell.named n d w1) act d place over [] c l w next (takes object offset)
      (held_holds ask k code bound w0 x.right x act refl value ty (Default level number ∷ []) d place over [] c l w le fits sees front)
      (λ n c1 l1 w1 lo fits1 stays.
      one_step_to ask code Ends 7 7 8 8 _ (transferred (ByReturn (n ∷ [])) over l1 w1) c1 c1 next (takes object offset (Goes (n ∷ [])) c1 l1 w1) (omega arith) (omega arith) (omega arith) (omega arith)
      (by_code ask code d there over (waiting h.cell.named n []) l1 w1 i here_it
      ∙ ap (moved l1) (taking_is h.cell.named n (λ m rest. transfers (ByReturn (m ∷ [])) over w1) [] d there over w1 stays))
      (ended_runs object offset ks n c1 l1 w1 fits1))
      (λ y c1 l1 w1 lo fits1. last_step_to ask code Ends 8 8 _ c1 0 next (Leaves (ByRaise y)) l1 w1 (omega arith) (tt, fits1) refl))
