-- A call of the library's Initialize, Adjust or Finalize: its code finds what is named, and drops it (7.6).
use Rattle.std.proofs.Common.{◌≡◌, ℕ, ◌+◌, List, [], ◌∷◌, length, true, refl, subst, arith, length-append}
use Rattle.ctl_program.specs.declared.types.Ty.TheVariants.{Record}
use Rattle.ctl_meaning.specs.World.{World}
use Rattle.ctl_meaning.specs.Choice.{Ask}
use Rattle.ctl_meaning.specs.Outcome.{ByRaise, Result, Goes, Leaves, Act, Done, on_goes, ◌>>◌, nothing, ticked, opened_outcome}
use Rattle.ctl_meaning.specs.Types.{Tables}
use Rattle.ctl_meaning.specs.Names.{Found, Call, Default, Tools}
use Rattle.ctl_code.specs.declared.code.Instr.TheVariants as InstrOf
use Rattle.ctl_code.specs.declared.code.Code.{Code}
use Rattle.ctl_code.specs.declared.kinds.Kind.TheVariants.{Operand}
use Rattle.ctl_layout.specs.Around.{Line}
use Rattle.ctl_layout.specs.Parts.{Reached, any_type, are_followed, part_code, part_runs}
use Rattle.ctl_layout.specs.Layout.{dropped_code}
use Rattle.ctl_gen.proofs.Worlds.{Since, Kept}
use Rattle.ctl_gen.proofs.Setting.{Setting, seen, tools_with}
use Rattle.ctl_gen.proofs.Cells.{by_code}
use Rattle.ctl_gen.proofs.Place.{laid_front, laid_back}
use Rattle.ctl_gen.proofs.Parts.{agree_part, find_by, found_at, word}
use Rattle.ctl_gen.proofs.Begun.{Starts, part_then}
use Rattle.ctl_emitter.proofs.Walked.{start_of, steps_before, steps_of}
use Rattle.ctl_gen.proofs.Does.{Does}
use Rattle.ctl_gen.proofs.Follow.{Runs, added, arrives, at, lands, last_step, no_step}

module _ (ask : Ask) (k : Tables) (code : Code) (setting : Setting k code) (call : Call) (default : Default) (bound : ℕ) where
  abbrev K : Tools
  K = tools_with ask k call default

  -- what is named begins with the value of such an act, if it begins with one
  pub nothing_does : (x : Reached) (act : List ℕ → Act (List ℕ)) → ((w0 : World) → Starts ask k code bound w0 (start_of x) act) → are_followed (start_of x) (steps_before x) ≡ true → part_runs x k.records ≡ true → Does ask k code bound (λ a. dropped_code x a.stack) (λ d caught. ticked (find_by K act (steps_of x) (start_of x) d >> nothing))
  unfolding opened_outcome
  nothing_does x act begun walked runs a w0 d place ks ops c l w le fits sees has =
      let s = a.stack in
      let front = part_code x any_type s in
      let last : List Line = (InstrOf.DropPart any_type, Operand (Record any_type) ∷ s) ∷ [] in
      let after : Result Found → Act Done = on_goes (λ f. nothing) in
      let next = arrives (lands a place) d (place + length (dropped_code x s)) ks ops in
      let end : place + length front + 1 ≡ place + length (dropped_code x s) = omega (arith, length-append front last) in
      added ask code (Kept k code w0) 1 6 6 0 0 _ c next _ (omega arith) (omega arith)
      (part_then ask k code bound w0 call default (λ r. Since k code w0) next after d ks ops 6 6 x act (begun w0) any_type s place c l w walked (agree_part k code setting.places x runs) le fits (seen sees) (laid_front code place front last has)
      (λ c1 l1 w1 lo fits1 part. subst (λ q. Runs ask code (Kept k code w0) 6 6 (at d (place + length front) ks (word part ∷ ops) l1 w1) c1 (arrives (lands a place) d q ks ops) (after (Goes (found_at part)) c1 l1 w1)) end
      (last_step ask code (Kept k code w0) 6 6 _ c1 0 (arrives (lands a place) d (place + length front + 1) ks ops) (Goes tt) l1 w1 (omega arith) fits1 (by_code ask code d (place + length front) ks (word part ∷ ops) l1 w1 (InstrOf.DropPart any_type) (laid_back code place front last has).0)))
      (λ z c1 l1 w1 lo fits1. no_step ask code (Kept k code w0) 6 6 _ c1 0 next (Leaves (ByRaise z)) l1 w1 fits1 refl))
