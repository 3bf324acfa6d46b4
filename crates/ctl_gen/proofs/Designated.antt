-- Access attributes: the code of one puts the number of the object in a variable where it is wanted (3.10.2).
use Rattle.std.proofs.Common.{◌≡◌, ℕ, ◌+◌, List, [], ◌∷◌, Option, Some, None, refl, ap, ◌∙◌, arith}
use Rattle.std.specs.Prelude.{option_map}
use Rattle.ctl_program.specs.declared.types.Ty.{Ty}
use Rattle.ctl_program.specs.declared.types.Var.{Var}
use Rattle.ctl_program.specs.declared.expression.Actual.TheOpen.{Expr-F}
use Rattle.ctl_tree.specs.declared.ending.Stop.TheVariants.{UseAfterFree}
use Rattle.ctl_meaning.specs.World.{Log, World}
use Rattle.ctl_meaning.specs.Choice.{Ask}
use Rattle.ctl_meaning.specs.Outcome.{Goes, Act, add, bind, on_goes, done, opened_outcome}
use Rattle.ctl_meaning.specs.Types.{Tables}
use Rattle.ctl_meaning.specs.Names.{Call, Default, Tools, object_of}
use Rattle.ctl_meaning.specs.Expressions.{eval_step}
use Rattle.ctl_code.specs.declared.code.Cell.{Cell}
use Rattle.ctl_code.specs.declared.code.Code.{Code}
use Rattle.ctl_code.specs.declared.code.Instr.TheVariants as InstrOf
use Rattle.ctl_code.specs.declared.kinds.Kind.{Kind}
use Rattle.ctl_code.specs.States.{Word, Frame}
use Rattle.ctl_code.specs.Table.{by_designate, put}
use Rattle.ctl_code.specs.Steps.{moved, step}
use Rattle.ctl_layout.specs.Values.{designating}
use Rattle.ctl_gen.proofs.Worlds.{Since}
use Rattle.ctl_gen.proofs.Setting.{tools_with}
use Rattle.ctl_gen.proofs.Parts.{RecordOperand, content_of, found_at, held, held_word, object_found, same_object, var_found, word}
use Rattle.ctl_gen.proofs.Expressions.{Value}
use Rattle.ctl_gen.proofs.Cells.{Any, OneCell, by_code, here, landed, put_is}
use Rattle.ctl_gen.proofs.Follow.{RunsTo, at, last_step_to, stop_step_to}

module _ (ask : Ask) (k : Tables) (code : Code) (call : Call) (default : Default) (bound : ℕ) (w0 : World) (v : Var) where
  abbrev K : Tools
  K = tools_with ask k call default

  -- the number of the object that is found, if one is
  abbrev numbered : Option RecordOperand → Act (List ℕ)
  numbered o c l w = bind (object_found o c l w) (on_goes (λ f. done (object_of f ∷ [])))

  means : (d : List ℕ) (c : ℕ) (l : Log) (w : World) → eval_step (Expr-F.Access v) K d c l w ≡ add 1 (numbered (held (content_of d v w)) c l w)
  unfolding eval_step opened_outcome
  means d c l w = ap (λ o. add 1 (bind o (on_goes (λ f. done (object_of f ∷ []))))) (var_found v d c l w)

  -- from its step
  runs : (to : Cell) (ty : Ty) (s : List Kind) (d : List ℕ) (place : ℕ) (ks : List Frame) (ops : List Word) (c : ℕ) (l : Log) (w : World) → Since k code w0 w → (o : Option RecordOperand) → step ask code (at d place ks ops l w) ≡ moved l (by_designate (option_map word o) to.named ops (here d place ks w)) → RunsTo ask code (OneCell (Since k code w0) Any) 8 8 (at d place ks ops l w) c (landed to.named d (place + 1) ks ops) (numbered o c l w)
  unfolding opened_outcome
  runs to ty s d place ks ops c l w fits None go = stop_step_to ask code (OneCell (Since k code w0) Any) 8 8 _ _ c 1 (landed to.named d (place + 1) ks ops) UseAfterFree l (omega arith) go refl refl
  runs to ty s d place ks ops c l w fits (Some p) go =
      let n = object_of (found_at p) in
      last_step_to ask code (OneCell (Since k code w0) Any) 8 8 _ c 1 (landed to.named d (place + 1) ks ops) (Goes (n ∷ [])) l w (omega arith) (fits, (n, refl, tt))
      (go ∙ ap (λ i. moved l (put to.named i ops (here d place ks w))) (same_object p) ∙ put_is to.named n d place ks ops l w)

  pub designating_value : Value ask k code bound w0 (designating v) (eval_step (Expr-F.Access v) K)
  designating_value = record {
    begins = λ to ty s d place ks ops c l w le fits long has. record {
      out = numbered (held (content_of d v w)) c l w;
      is = means d c l w;
      runs = runs to ty s d place ks ops c l w fits (held (content_of d v w))
          (by_code ask code d place ks ops l w (InstrOf.Designate v ty to) has.0
          ∙ ap (λ o. moved l (by_designate o to.named ops (here d place ks w))) (held_word (content_of d v w)));
    };
    constant = λ n is d c l w. absurd (cc);
    variable = λ y is d c l w. absurd (cc);
  }
