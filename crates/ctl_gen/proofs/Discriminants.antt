-- Discriminants of block pools: the code of one finds the pool, and puts the discriminant where it is wanted (3.7, 13.11).
use Rattle.std.proofs.Common.{◌≡◌, ℕ, ◌+◌, ◌≤◌, List, [], ◌∷◌, ◌++◌, length, Option, Some, None, Bool, true, false, refl, sym, ap, ◌∙◌, subst, arith, length-append}
use Rattle.std.specs.Prelude.{if◌then◌else◌, nat_eq, slice_get}
use Rattle.ctl_program.specs.declared.types.Ty.TheVariants.{Record}
use Rattle.ctl_program.specs.declared.expression.Actual.TheOpen.{Expr-F}
use Rattle.ctl_tree.specs.declared.ending.Stop.TheVariants.{UseAfterFree}
use Rattle.ctl_meaning.specs.World.{BlockPool, MarkPool, Log, World}
use Rattle.ctl_meaning.specs.Lists.{first_with}
use Rattle.ctl_meaning.specs.Choice.{Ask}
use Rattle.ctl_meaning.specs.Outcome.{ByRaise, Result, Goes, Leaves, Act, add, bind, on_goes, on_some, done, opened_outcome}
use Rattle.ctl_meaning.specs.Types.{Tables}
use Rattle.ctl_meaning.specs.Names.{Found, Call, Default, Tools, gone, object_of}
use Rattle.ctl_meaning.specs.Pools.{block_pool_at, opened_pools}
use Rattle.ctl_meaning.specs.Marks.{discriminant as discriminant_of}
use Rattle.ctl_meaning.specs.Expressions.{Naming, eval_step}
use Rattle.ctl_code.specs.declared.code.Cell.{Cell}
use Rattle.ctl_code.specs.declared.code.Code.{Code}
use Rattle.ctl_code.specs.declared.code.Instr.TheVariants as InstrOf
use Rattle.ctl_code.specs.declared.code.PoolDiscriminant.{PoolDiscriminant}
use Rattle.ctl_code.specs.declared.code.PoolDiscriminant.TheVariants.{BlockSize, BlockCount}
use Rattle.ctl_code.specs.declared.kinds.Kind.{Kind}
use Rattle.ctl_code.specs.declared.kinds.Kind.TheVariants.{Operand}
use Rattle.ctl_code.specs.States.{Word, Frame, State}
use Rattle.ctl_code.specs.Table.{by_discriminant, discriminant_in}
use Rattle.ctl_code.specs.Steps.{moved, step}
use Rattle.ctl_layout.specs.Around.{Line}
use Rattle.ctl_layout.specs.Parts.{Reached, part_code, part_runs}
use Rattle.ctl_program.specs.Library.{block_pool}
use Rattle.ctl_layout.specs.Values.{discriminant, discriminant_at, discriminant_code}
use Rattle.ctl_gen.proofs.Worlds.{Since}
use Rattle.ctl_gen.proofs.Setting.{Setting, IsSeen, tools_with}
use Rattle.ctl_gen.proofs.Place.{Laid, laid_front, laid_back}
use Rattle.ctl_gen.proofs.Parts.{Leads, RecordOperand, agree_part, composite_leads, find_by, found_at, same_object, word}
use Rattle.ctl_gen.proofs.Begun.{Starts, part_then}
use Rattle.ctl_emitter.proofs.Walked.{start_of, steps_of}
use Rattle.ctl_gen.proofs.Expressions as X
use Rattle.ctl_gen.proofs.Expressions.{Value}
use Rattle.ctl_gen.proofs.Cells.{Any, OneCell, by_code, here, landed, landed_leaves, put_is}
use Rattle.ctl_gen.proofs.Follow.{at, last_step_to, no_step_to, stop_step_to}

-- the discriminant at a position, as the machine takes it
taken_is : (position : ℕ) (p : BlockPool) → discriminant_in (discriminant_at position) p ≡ (if nat_eq position 0 then p.block_size else p.block_count)
taken_is position p = by (nat_eq position 0)
  where
    by : (first : Bool) → discriminant_in (if first then BlockSize else BlockCount) p ≡ (if first then p.block_size else p.block_count)
    by true = refl
    by false = refl

module _ (ask : Ask) (k : Tables) (code : Code) (setting : Setting k code) (call : Call) (default : Default) (bound : ℕ) (w0 : World) (x : Reached) (position : ℕ) where
  abbrev K : Tools
  K = tools_with ask k call default

  abbrev Fits : World → Type 0
  Fits w = Since k code w0 w

  abbrev which : PoolDiscriminant
  which = discriminant_at position

  -- what is read of the pool that was found
  abbrev reading : Result Found → Act (List ℕ)
  reading = on_goes (λ f. discriminant_of (object_of f) position)

  -- no pool is a mark pool
  of_block_pool : (n c : ℕ) (l : Log) (w : World) → Fits w → discriminant_of n position c l w ≡ on_some (block_pool_at n w.pools) gone (λ p. done (discriminant_in which p ∷ [])) c l w
  unfolding discriminant_of gone first_with opened_outcome opened_pools
  of_block_pool n c l w fits =
      ap (λ (ms : List MarkPool). on_some (block_pool_at n w.pools) (on_some (first_with (λ p. nat_eq p.object n) ms) gone (λ p. done (p.pool_size ∷ []))) (λ p. done ((if nat_eq position 0 then p.block_size else p.block_count) ∷ [])) c l w) fits.0.mark_pools
      ∙ by (block_pool_at n w.pools)
    where
      by : (o : Option BlockPool) → on_some o gone (λ p. done ((if nat_eq position 0 then p.block_size else p.block_count) ∷ [])) c l w ≡ on_some o gone (λ p. done (discriminant_in which p ∷ [])) c l w
      by None = refl
      by (Some p) = ap (λ (m : ℕ). done (m ∷ []) c l w) (sym (taken_is position p))

  -- one step over the pool, to the value where it is wanted, or to a stop
  takes : (p : RecordOperand) (to : Cell) (d : List ℕ) (place : ℕ) (ks : List Frame) (ops : List Word) (c : ℕ) (l : Log) (w : World) → Fits w → slice_get code.instructions.items place ≡ Some (InstrOf.TakeDiscriminant block_pool which to) → X.Gets ask k code bound w0 Any 8 8 (at d place ks (word p ∷ ops) l w) c (landed to.named d (place + 1) ks ops) (reading (Goes (found_at p)) c l w)
  unfolding gone opened_outcome
  takes p to d place ks ops c l w fits has =
      let n = object_of (found_at p) in
      subst (X.Gets ask k code bound w0 Any 8 8 s0 c next) (sym (of_block_pool n c l w fits))
      (by (block_pool_at n w.pools)
      (by_code ask code d place ks (word p ∷ ops) l w (InstrOf.TakeDiscriminant block_pool which to) has
      ∙ ap (λ i. moved l (by_discriminant which (block_pool_at i w.pools) to.named ops (here d place ks w))) (same_object p)))
    where
      s0 : State
      s0 = at d place ks (word p ∷ ops) l w

      next : Result (List ℕ) → Log → World → State
      next = landed to.named d (place + 1) ks ops

      by : (o : Option BlockPool) → step ask code s0 ≡ moved l (by_discriminant which o to.named ops (here d place ks w)) → X.Gets ask k code bound w0 Any 8 8 s0 c next (on_some o gone (λ p. done (discriminant_in which p ∷ [])) c l w)
      by None go = stop_step_to ask code (OneCell Fits Any) 8 8 s0 _ c 0 next UseAfterFree l (omega arith) go refl refl
      by (Some q) go = last_step_to ask code (OneCell Fits Any) 8 8 s0 c 0 next (Goes (discriminant_in which q ∷ [])) l w (omega arith) (fits, (discriminant_in which q, refl, tt)) (go ∙ put_is to.named (discriminant_in which q) d place ks ops l w)

  module _ (find : Naming) (act : List ℕ → Act (List ℕ)) (leads : Leads K x act find) (begun : Starts ask k code bound w0 (start_of x) act) (runs : part_runs x k.records ≡ true) where
    -- the pool is found first
    reads : (to : Cell) (s : List Kind) (d : List ℕ) (place : ℕ) (ks : List Frame) (ops : List Word) (c : ℕ) (l : Log) (w : World) → c ≤ bound → Fits w → IsSeen w0 d s → Laid code place (discriminant_code (Some x) which to s) → X.Gets ask k code bound w0 Any 8 8 (at d place ks ops l w) c (landed to.named d (place + length (discriminant_code (Some x) which to s)) ks ops) (bind (find_by K act (steps_of x) (start_of x) d c l w) reading)
    unfolding opened_outcome
    reads to s d place ks ops c l w le fits long has =
        let front = part_code x block_pool s in
        let last : List Line = (InstrOf.TakeDiscriminant block_pool which to, Operand (Record block_pool) ∷ s) ∷ [] in
        let end : place + length front + 1 ≡ place + length (front ++ last) = omega (arith, length-append front last) in
        let next = landed to.named d (place + length front + 1) ks ops in
        subst (λ q. X.Gets ask k code bound w0 Any 8 8 (at d place ks ops l w) c (landed to.named d q ks ops) (bind (find_by K act (steps_of x) (start_of x) d c l w) reading)) end
        (part_then ask k code bound w0 call default (OneCell Fits Any) next reading d ks ops 8 8 x act begun block_pool s place c l w leads.walked (agree_part k code setting.places x runs) le fits long (laid_front code place front last has)
        (λ c1 l1 w1 lo fits1 p. takes p to d (place + length front) ks ops c1 l1 w1 fits1 (laid_back code place front last has).0)
        (λ y c1 l1 w1 lo fits1. no_step_to ask code (OneCell Fits Any) 8 8 _ c1 0 next (Leaves (ByRaise y)) l1 w1 (fits1, tt) (landed_leaves to.named d (place + length front + 1) ks ops (ByRaise y) l1 w1)))

    pub discriminant_value : Value ask k code bound w0 (discriminant (Some x) position) (eval_step (Expr-F.Discriminant find position) K)
    unfolding eval_step opened_outcome
    discriminant_value = record {
      begins = λ to ty s d place ks ops c l w le fits long has. record {
        out = bind (find_by K act (steps_of x) (start_of x) d c l w) reading;
        is = ap (λ (f : List ℕ → Act Found). add 1 (bind (f d c l w) reading)) (composite_leads K x act find leads);
        runs = reads to s d place ks ops c l w le fits long has;
      };
      constant = λ n is d c l w. absurd (cc);
      variable = λ y is d c l w. absurd (cc);
    }
