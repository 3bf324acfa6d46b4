-- Calls of the library's Allocate and Deallocate: the code finds the pool, and the part whose component takes an address, evaluates what they
-- take, one value after another, and takes a block out or gives one back as the program means it (13.11).
use Rattle.std.proofs.Common.{◌≡◌, ℕ, ◌+◌, ◌≤◌, List, [], ◌∷◌, ◌++◌, length, Option, Some, None, Bool, true, false, refl, sym, ap, ◌∙◌, subst, arith, length-append}
use Rattle.std.specs.Prelude.{slice_get, nat_eq, nat_lt, not, ◌||◌, if◌then◌else◌}
use Rattle.ctl_program.specs.declared.types.Ty.{Ty}
use Rattle.ctl_program.specs.declared.types.Ty.TheVariants.{Count, Address}
use Rattle.ctl_program.specs.declared.types.Var.{Var}
use Rattle.ctl_program.specs.declared.expression.Step.{Step}
use Rattle.ctl_tree.specs.declared.ending.Stop.TheVariants.{UseAfterFree}
use Rattle.ctl_meaning.specs.World.{InBlock, BlockPool, Object, Log, World}
use Rattle.ctl_meaning.specs.Lists.{opened_lists}
use Rattle.ctl_meaning.specs.Activations.{master_of}
use Rattle.ctl_meaning.specs.Changes.{in_pools, object_at, set_value, write_cells}
use Rattle.ctl_meaning.specs.Pools.{block_pool_at, take_block}
use Rattle.ctl_meaning.specs.Choice.{Ask}
use Rattle.ctl_meaning.specs.Outcome.{storage_error, Way, ByRaise, Result, Goes, Leaves, Out, Gives, Stops, Act, Done, add, bind, on_goes, ◌>>=◌, ◌>>◌, done, nothing, raise, look, change, either, on_some, opened_outcome}
use Rattle.ctl_meaning.specs.Types.{Tables, Composite, Elementary}
use Rattle.ctl_meaning.specs.Names.{Found, InVariable, Call, Default, Tools, existing, gone, object_of, scalar_of, write_found, write_part, opened_names}
use Rattle.ctl_meaning.specs.Expressions.{Naming, Valued}
use Rattle.ctl_meaning.specs.Storage.{library_allocate, library_deallocate, with_block_pool}
use Rattle.ctl_meaning.specs.Statements.{call_allocate, call_deallocate, scalar}
use Rattle.ctl_code.specs.declared.code.Instr.{Instr}
use Rattle.ctl_code.specs.declared.code.Instr.TheVariants as InstrOf
use Rattle.ctl_code.specs.declared.code.Named.TheVariants as NamedOf
use Rattle.ctl_code.specs.declared.code.Code.{Code}
use Rattle.ctl_code.specs.declared.kinds.Kind.{Kind}
use Rattle.ctl_code.specs.declared.kinds.Kind.TheVariants.{Operand}
use Rattle.ctl_code.specs.States.{Word, Scalar, Frame, Move, State, object_of as object_of_word}
use Rattle.ctl_code.specs.Table as Table
use Rattle.ctl_code.specs.Table.{GivenBack, Grant, Granted, Exhausted, UnknownPool, Returned, NotReturned, block_given, block_taken, block_taken_into, pool_grant, pool_return, store_into, stored, transfers}
use Rattle.ctl_code.specs.Steps.{moved, step}
use Rattle.ctl_code.specs.Windows.{depth}
use Rattle.ctl_layout.specs.Around.{Line, new_operand, out_to}
use Rattle.ctl_layout.specs.Parts.{Start, Variable, are_followed, located_code}
use Rattle.ctl_layout.specs.Values.{ValueCode}
use Rattle.ctl_layout.specs.Layout.{on_pool, on_pool_and_part, pool_operand, pool_type, request, values_code, values_then, with_pool, with_pool_and_part, with_types}
use Rattle.ctl_code.proofs.Storage.{OnGrant, OnReturn}
use Rattle.ctl_gen.proofs.Place.{Laid, laid_front, laid_back}
use Rattle.ctl_gen.proofs.Worlds.{Since, Kept, since_of_pool, since_to_pool, since_value, since_written}
use Rattle.ctl_gen.proofs.Setting.{IsSeen, seen, tools_with}
use Rattle.ctl_gen.proofs.Cells.{Any, by_code, here, landed, out_is}
use Rattle.ctl_gen.proofs.Parts.{Agree, Leads, OfCells, OfObject, RecordOperand, composite_leads, find_by, found_at, same_object, word}
use Rattle.ctl_gen.proofs.LastSteps.{Ends, Last, last_found}
use Rattle.ctl_gen.proofs.Begun.{Starts, located_then, part_then}
use Rattle.ctl_gen.proofs.Worth.{both_cell}
use Rattle.ctl_gen.proofs.Expressions.{Uses, Value, value_runs}
use Rattle.ctl_gen.proofs.Freeing.{TakesBack, Back, NotBack, takes_back}
use Rattle.ctl_gen.proofs.Does.{Does}
use Rattle.ctl_gen.proofs.Follow.{Runs, Target, add_none, added, arrives, at, bind_bind, lands, last_step, no_step, stop_step, transferred, way_of}

-- What it means ---------------------------------------------------------------------------------------

-- the library's Allocate: a block goes out and has this address; Storage_Error; or the pool has ceased to exist
data TakesOut (n size c : ℕ) (l : Log) (w : World) : Type 0 where
  TakenOut : (a : ℕ) (v : World) (run : pool_grant n size (block_pool_at n w.pools) w ≡ Granted (InBlock n a) v) (meant : library_allocate n size c l w ≡ Gives (Goes a) 0 c l v) → TakesOut n size c l w
  Full : (run : pool_grant n size (block_pool_at n w.pools) w ≡ Exhausted) (meant : library_allocate n size c l w ≡ Gives (Leaves (ByRaise storage_error)) 0 c l w) → TakesOut n size c l w
  Closed : (run : pool_grant n size (block_pool_at n w.pools) w ≡ UnknownPool) (meant : library_allocate n size c l w ≡ Stops UseAfterFree 0 l) → TakesOut n size c l w

takes_out : (n size c : ℕ) (l : Log) (w : World) → TakesOut n size c l w
unfolding library_allocate with_block_pool opened_names opened_outcome
takes_out n size c l w = by (block_pool_at n w.pools) refl
  where
    taking : Act ℕ
    taking = look (λ v. change (in_pools (take_block n)) >> done v.pools.next_address)

    -- what is meant, with a pool that is open or not
    with_it : BlockPool → Bool → Act ℕ
    with_it p opened = either opened (either (nat_eq p.free 0 || nat_lt p.block_size size) (raise storage_error) taking) gone

    -- what the machine does with it, and where it has no such block
    run_of : Bool → Bool → Grant
    run_of opened full = if not opened then UnknownPool else if full then Exhausted else Granted (InBlock n w.pools.next_address) (in_pools (take_block n) w)

    meant_is : (p : Option BlockPool) → block_pool_at n w.pools ≡ p → library_allocate n size c l w ≡ on_some p gone (λ x. with_it x x.is_open) c l w
    meant_is p there = ap (λ x. on_some x gone (λ y. with_it y y.is_open) c l w) there

    run_is : (p : Option BlockPool) → block_pool_at n w.pools ≡ p → pool_grant n size (block_pool_at n w.pools) w ≡ pool_grant n size p w
    run_is p there = ap (λ x. pool_grant n size x w) there

    full_or : (full : Bool) → pool_grant n size (block_pool_at n w.pools) w ≡ run_of true full → library_allocate n size c l w ≡ either full (raise storage_error) taking c l w → TakesOut n size c l w
    full_or true run meant = Full run meant
    full_or false run meant = TakenOut w.pools.next_address (in_pools (take_block n) w) run meant

    opened_or : (p : BlockPool) (opened : Bool) → pool_grant n size (block_pool_at n w.pools) w ≡ run_of opened (nat_eq p.free 0 || nat_lt p.block_size size) → library_allocate n size c l w ≡ with_it p opened c l w → TakesOut n size c l w
    opened_or p false run meant = Closed run meant
    opened_or p true run meant = full_or (nat_eq p.free 0 || nat_lt p.block_size size) run meant

    by : (p : Option BlockPool) → block_pool_at n w.pools ≡ p → TakesOut n size c l w
    by None there = Closed (run_is None there) (meant_is None there)
    by (Some p) there = opened_or p p.is_open (run_is (Some p) there) (meant_is (Some p) there)

-- what evaluates these values one after another, where a display is seen and these numbers are known, the newest first; and then does this
-- with all of them
abbrev Evaluates : List ℕ → List (List ℕ → Act (List ℕ)) → List ℕ → (List ℕ → Act Done) → Act Done → Type 0
Evaluates d [] ns last m = (c : ℕ) (l : Log) (w : World) → m c l w ≡ last ns c l w
Evaluates d (x ∷ xs) ns last m =
    (f : Result (List ℕ) → Act Done)
    × ((c : ℕ) (l : Log) (w : World) → m c l w ≡ bind (x d c l w) f)
    × ((y : Way) (c : ℕ) (l : Log) (w : World) → f (Leaves y) c l w ≡ Gives (Leaves y) 0 c l w)
    × ((n : ℕ) → Evaluates d xs (n ∷ ns) last (f (Goes (n ∷ []))))

-- the number of the pool that was found
abbrev number : RecordOperand → ℕ
number q = object_of (found_at q)

-- the size is known below the alignment: a block of the pool goes out, and its address goes there
abbrev takes : RecordOperand → Found → List ℕ → Act Done
takes q g (alignment ∷ size ∷ ns) = library_allocate (number q) size >>= (λ a. write_found g (a ∷ []))
takes q g ns = nothing

-- the address is known below the size and the alignment: the pool takes the block back
abbrev gives : RecordOperand → List ℕ → Act Done
gives q (alignment ∷ size ∷ a ∷ ns) = library_deallocate (number q) a
gives q ns = nothing

-- behind the names of the pool and of what takes the address
abbrev taking_of : RecordOperand → Found → (List ℕ → Act (List ℕ)) → (List ℕ → Act (List ℕ)) → List ℕ → Act Done
taking_of q g size alignment d = scalar (size d) (λ n. alignment d >> library_allocate (number q) n >>= (λ a. write_found g (a ∷ [])))

taking_evaluates : (q : RecordOperand) (g : Found) (size alignment : List ℕ → Act (List ℕ)) (d : List ℕ) → Evaluates d (size ∷ alignment ∷ []) [] (takes q g) (taking_of q g size alignment d)
unfolding scalar scalar_of opened_lists opened_outcome
taking_evaluates q g size alignment d = (
  on_goes (λ v. alignment d >> library_allocate (number q) (scalar_of v) >>= (λ a. write_found g (a ∷ []))),
  λ c l w. refl,
  λ y c l w. refl,
  λ n. (
    λ r c l w. bind (on_goes (λ _. library_allocate (number q) n) r c l w) (on_goes (λ a. write_found g (a ∷ []))),
    λ c l w. bind_bind (alignment d c l w) (on_goes (λ _. library_allocate (number q) n)) (on_goes (λ a. write_found g (a ∷ []))),
    λ y c l w. refl,
    λ m c l w. refl,
  ),
)

-- behind the name of the pool
abbrev giving_of : RecordOperand → (List ℕ → Act (List ℕ)) → (List ℕ → Act (List ℕ)) → (List ℕ → Act (List ℕ)) → List ℕ → Act Done
giving_of q address size alignment d = scalar (address d) (λ a. size d >> alignment d >> library_deallocate (number q) a)

giving_evaluates : (q : RecordOperand) (address size alignment : List ℕ → Act (List ℕ)) (d : List ℕ) → Evaluates d (address ∷ size ∷ alignment ∷ []) [] (gives q) (giving_of q address size alignment d)
unfolding scalar scalar_of opened_lists opened_outcome
giving_evaluates q address size alignment d = (
  on_goes (λ v. size d >> alignment d >> library_deallocate (number q) (scalar_of v)),
  λ c l w. refl,
  λ y c l w. refl,
  λ a. (
    λ r c l w. bind (on_goes (λ _. alignment d) r c l w) (on_goes (λ _. library_deallocate (number q) a)),
    λ c l w. bind_bind (size d c l w) (on_goes (λ _. alignment d)) (on_goes (λ _. library_deallocate (number q) a)),
    λ y c l w. refl,
    λ n. (
      on_goes (λ _. library_deallocate (number q) a),
      λ c l w. refl,
      λ y c l w. refl,
      λ m c l w. refl,
    ),
  ),
)

-- What the code does ------------------------------------------------------------------------------------

-- numbers as operands, the newest on top
abbrev numbers : List ℕ → List Word → List Word
numbers [] below = below
numbers (n ∷ ns) below = Scalar n ∷ numbers ns below

module _ (ask : Ask) (k : Tables) (code : Code) (call : Call) (default : Default) (bound : ℕ) where
  abbrev K : Tools
  K = tools_with ask k call default

  -- since an earlier world, where a display is seen
  module _ (w0 : World) (d : List ℕ) (ks : List Frame) where
    -- the code of each of these does what it means
    abbrev EachValue : List (ValueCode × Ty) → List (List ℕ → Act (List ℕ)) → Type 0
    EachValue [] [] = Unit {0}
    EachValue (x ∷ xs) (m ∷ ms) = Value ask k code bound w0 x.0 m × EachValue xs ms
    EachValue _ _ = ⊥

    -- what is done behind them, over these operands, and where that leads
    module _ (next : Result Done → Log → World → State) (below : List Word) (count : ℕ) (last : List ℕ → Act Done) where
      abbrev Follows : ℕ → ℕ → Type 0
      Follows place c = (ns : List ℕ) (c1 : ℕ) (l : Log) (w : World) → length ns ≡ count → c1 ≤ c → Since k code w0 w → Runs ask code (Kept k code w0) 8 8 (at d place ks (numbers ns below) l w) c1 next (last ns c1 l w)

      abbrev Raises : Type 0
      Raises = (y : ℕ) (l : Log) (w : World) → transferred (ByRaise y) ks l w ≡ next (Leaves (ByRaise y)) l w

      -- the values that are left
      values_run : (xs : List (ValueCode × Ty)) (ms : List (List ℕ → Act (List ℕ))) → EachValue xs ms → (ns : List ℕ) → length ns + length xs ≡ count → (m : Act Done) → Evaluates d ms ns last m → (s : List Kind) (place c : ℕ) (l : Log) (w : World) → c ≤ bound → Since k code w0 w → IsSeen w0 d s → Laid code place (values_code xs s) → Follows (place + length (values_code xs s)) c → Raises → Runs ask code (Kept k code w0) 8 8 (at d place ks (numbers ns below) l w) c next (m c l w)
      unfolding scalar_of opened_lists
      values_run [] [] each ns long m means s place c l w le fits sees has follows raises =
          let e : place + 0 ≡ place = omega arith in
          let many : length ns ≡ count = omega (arith, long) in
          subst (λ p. Runs ask code (Kept k code w0) 8 8 (at d p ks (numbers ns below) l w) c next (m c l w)) e
          (subst (Runs ask code (Kept k code w0) 8 8 (at d (place + 0) ks (numbers ns below) l w) c next) (sym (means c l w)) (follows ns c l w many (omega arith) fits))
      values_run [] (y ∷ ms) each ns long m means s place c l w le fits sees has follows raises = absurd each
      values_run (x ∷ xs) [] each ns long m means s place c l w le fits sees has follows raises = absurd each
      values_run (x ∷ xs) (y ∷ ms) each ns long m means s place c l w le fits sees has follows raises =
          let lines = x.0.code (new_operand s) x.1 s in
          let rest = values_code xs (Operand x.1 ∷ s) in
          let there = place + length lines in
          let ops = numbers ns below in
          let f = means.0 in
          let end : place + length (lines ++ rest) ≡ there + length rest = omega (arith, length-append lines rest) in
          subst (Runs ask code (Kept k code w0) 8 8 (at d place ks ops l w) c next) (sym (means.1 c l w))
          (both_cell ask code (Since k code w0) (λ r. Kept k code w0 (way_of r)) Any 0 0 8 8 8 8 _ c (landed NamedOf.Operand d there ks ops) next (y d c l w) f (omega arith) (omega arith) (omega arith)
          (value_runs ask k code bound w0 x.0 y each.0 (new_operand s) x.1 s d place ks ops c l w le fits sees (laid_front code place lines rest has))
          (λ n c1 l1 w1 lo fits1 p.
          let many : length (n ∷ ns) + length xs ≡ count = omega (arith, long) in
          values_run xs ms each.1 (n ∷ ns) many (f (Goes (n ∷ []))) (means.3 n) (Operand x.1 ∷ s) there c1 l1 w1 (omega (arith, lo, le)) fits1 sees (laid_back code place lines rest has)
          (λ os c2 l2 w2 all lo2 fits2. subst (λ z. Runs ask code (Kept k code w0) 8 8 (at d z ks (numbers os below) l2 w2) c2 next (last os c2 l2 w2)) end (follows os c2 l2 w2 all (omega (arith, lo, lo2)) fits2)) raises)
          (λ z c1 l1 w1 lo fits1.
          subst (Runs ask code (Kept k code w0) 8 8 (transferred (ByRaise z) ks l1 w1) c1 next) (sym (means.2 (ByRaise z) c1 l1 w1))
          (no_step ask code (Kept k code w0) 8 8 _ c1 0 next (Leaves (ByRaise z)) l1 w1 fits1 (raises z l1 w1))))

  -- The pool, and then these values -----------------------------------------------------------------------

  -- the values, and an instruction on them and on what stands below
  values_end : (xs : List (ValueCode × Ty)) (ms : List (List ℕ → Act (List ℕ))) (i : Instr) (last : List ℕ → Act Done) (m : Act Done) (w0 : World) (d : List ℕ) (e : Target) (ks : List Frame) (ops below : List Word) (s : List Kind) (place c : ℕ) (l : Log) (w : World) → EachValue w0 d ks xs ms → Evaluates d ms [] last m → c ≤ bound → Since k code w0 w → IsSeen w0 d s → Laid code place (values_then xs i s)
      → ((there : ℕ) → slice_get code.instructions.items there ≡ Some i → Follows w0 d ks (arrives e d (there + 1) ks ops) below (length xs) last there c)
      → Runs ask code (Kept k code w0) 8 8 (at d place ks below l w) c (arrives e d (place + length (values_then xs i s)) ks ops) (m c l w)
  values_end xs ms i last m w0 d e ks ops below s place c l w each means le fits sees has follows =
      let lines = values_code xs s in
      let end : List Line = (i, with_types xs s) ∷ [] in
      let there = place + length lines in
      let next : Result Done → Log → World → State = arrives e d (place + length (values_then xs i s)) ks ops in
      let over : there + 1 ≡ place + length (values_then xs i s) = omega (arith, length-append lines end) in
      values_run w0 d ks next below (length xs) last xs ms each [] (omega arith) m means s place c l w le fits sees (laid_front code place lines end has)
      (λ ns c1 l1 w1 many lo fits1. subst (λ z. Runs ask code (Kept k code w0) 8 8 (at d there ks (numbers ns below) l1 w1) c1 (arrives e d z ks ops) (last ns c1 l1 w1)) over (follows there (laid_back code place lines end has).0 ns c1 l1 w1 many lo fits1))
      (λ y l1 w1. refl)

  module _ (p : Var) (act : List ℕ → Act (List ℕ)) (pool : Naming) (leads_to : Leads K (Variable p) act pool) where
    -- the pool is found, and then this is done
    pool_then : (back : List Line) (m : Found → Act Done) (w0 : World) (d : List ℕ) (e : Target) (ks : List Frame) (ops : List Word) (s : List Kind) (place end c : ℕ) (l : Log) (w : World) → c ≤ bound → Since k code w0 w → IsSeen w0 d s → Laid code place (pool_operand p s ++ back)
        → ((q : RecordOperand) (c1 : ℕ) (l1 : Log) (w1 : World) → c1 ≤ c → Since k code w0 w1 → Runs ask code (Kept k code w0) 8 8 (at d (place + length (pool_operand p s)) ks (word q ∷ ops) l1 w1) c1 (arrives e d end ks ops) (m (found_at q) c1 l1 w1))
        → Runs ask code (Kept k code w0) 8 8 (at d place ks ops l w) c (arrives e d end ks ops) ((pool Composite K d >>= m) c l w)
    unfolding opened_outcome
    pool_then back m w0 d e ks ops s place end c l w le fits sees has goes_on =
        let next : Result Done → Log → World → State = arrives e d end ks ops in
        subst (λ (g : List ℕ → Act Found). Runs ask code (Kept k code w0) 8 8 (at d place ks ops l w) c next (bind (g d c l w) (on_goes m))) (sym (composite_leads K (Variable p) act pool leads_to))
        (part_then ask k code bound w0 call default (λ r. Kept k code w0 (way_of r)) next (on_goes m) d ks ops 8 8 (Variable p) act tt pool_type s place c l w leads_to.walked tt le fits sees (laid_front code place (pool_operand p s) back has)
        (λ c1 l1 w1 lo fits1 q. goes_on q c1 l1 w1 lo fits1)
        (λ y c1 l1 w1 lo fits1. no_step ask code (Kept k code w0) 8 8 _ c1 0 next (Leaves (ByRaise y)) l1 w1 fits1 refl))

    -- in a display, what follows the name of the pool where this part is found, for so many ticks
    abbrev Behind : List ℕ → ℕ → (Found → Act Done) → (RecordOperand → Act Done) → Type 0
    Behind d t m after = (q : RecordOperand) (c : ℕ) (l : Log) (w : World) → m (found_at q) c l w ≡ add t (after q c l w)

    -- the pool, and these values
    on_pool_then : (xs : List (ValueCode × Ty)) (ms : List (List ℕ → Act (List ℕ))) (i : Instr) (last : RecordOperand → List ℕ → Act Done) (t : ℕ) (m : Found → Act Done) (after : RecordOperand → Act Done) (w0 : World) (d : List ℕ) (e : Target) (ks : List Frame) (ops : List Word) (s : List Kind) (place c : ℕ) (l : Log) (w : World) → EachValue w0 d ks xs ms → Behind d t m after → ((q : RecordOperand) → Evaluates d ms [] (last q) (after q)) → c ≤ bound → Since k code w0 w → IsSeen w0 d s → Laid code place (on_pool p xs i s)
        → ((q : RecordOperand) (there c1 : ℕ) → slice_get code.instructions.items there ≡ Some i → Follows w0 d ks (arrives e d (there + 1) ks ops) (word q ∷ ops) (length xs) (last q) there c1)
        → Runs ask code (Kept k code w0) 8 8 (at d place ks ops l w) c (arrives e d (place + length (on_pool p xs i s)) ks ops) ((pool Composite K d >>= m) c l w)
    on_pool_then xs ms i last t m after w0 d e ks ops s place c l w each behind means le fits sees has follows =
        let front = pool_operand p s in
        let back = values_then xs i (with_pool s) in
        let there = place + length front in
        let over : there + length back ≡ place + length (on_pool p xs i s) = omega (arith, length-append front back) in
        pool_then back m w0 d e ks ops s place (place + length (on_pool p xs i s)) c l w le fits sees has
        (λ q c1 l1 w1 lo fits1.
        subst (Runs ask code (Kept k code w0) 8 8 (at d there ks (word q ∷ ops) l1 w1) c1 (arrives e d (place + length (on_pool p xs i s)) ks ops)) (sym (behind q c1 l1 w1))
        (added ask code (Kept k code w0) t 8 8 8 8 _ c1 (arrives e d (place + length (on_pool p xs i s)) ks ops) (after q c1 l1 w1) (omega arith) (omega arith)
        (subst (λ z. Runs ask code (Kept k code w0) 8 8 (at d there ks (word q ∷ ops) l1 w1) c1 (arrives e d z ks ops) (after q c1 l1 w1)) over
        (values_end xs ms i (last q) (after q) w0 d e ks ops (word q ∷ ops) (with_pool s) there c1 l1 w1 each (means q) (omega (arith, lo, le)) fits1 sees (laid_back code place front back has) (λ here_it. follows q here_it c1)))))

    -- Allocate -------------------------------------------------------------------------------------------

    -- what comes of a request of a block that a step makes, which makes this of what is granted: Storage_Error and a stop, or the address is
    -- written
    requests : (write : ℕ → Act Done) (move : Grant → Move) (w0 : World) (next : Result Done → Log → World → State) (ks : List Frame) (s0 : State) (q : RecordOperand) (size c : ℕ) (l : Log) (w : World) → Since k code w0 w → step ask code s0 ≡ moved l (move (pool_grant (number q) size (block_pool_at (number q) w.pools) w))
        → transferred (ByRaise storage_error) ks l w ≡ next (Leaves (ByRaise storage_error)) l w → move Exhausted ≡ transfers (ByRaise storage_error) ks w → move UnknownPool ≡ Table.gone ks w
        → ((a : ℕ) (u : World) → Since k code w0 u → step ask code s0 ≡ moved l (move (Granted (InBlock (number q) a) u)) → Runs ask code (Kept k code w0) 8 8 s0 c next (write a c l u))
        → Runs ask code (Kept k code w0) 8 8 s0 c next (bind (library_allocate (number q) size c l w) (on_goes write))
    unfolding opened_outcome
    requests write move w0 next ks s0 q size c l w fits first leads full closed writes = by (takes_out (number q) size c l w)
      where
        goal : Out Done → Type 0
        goal o = Runs ask code (Kept k code w0) 8 8 s0 c next o

        granted : (g : Grant) → pool_grant (number q) size (block_pool_at (number q) w.pools) w ≡ g → step ask code s0 ≡ moved l (move g)
        granted g run = first ∙ ap (λ x. moved l (move x)) run

        by : TakesOut (number q) size c l w → goal (bind (library_allocate (number q) size c l w) (on_goes write))
        by (TakenOut a u run meant) =
            let since = subst (OnGrant (Since k code w0)) run (since_of_pool k code (number q) size (block_pool_at (number q) w.pools) w0 w fits) in
            subst (λ o. goal (bind o (on_goes write))) (sym meant)
            (added ask code (Kept k code w0) 0 8 8 8 8 s0 c next (write a c l u) (omega arith) (omega arith) (writes a u since (granted (Granted (InBlock (number q) a) u) run)))
        by (Full run meant) =
            subst (λ o. goal (bind o (on_goes write))) (sym meant)
            (last_step ask code (Kept k code w0) 8 8 s0 c 0 next (Leaves (ByRaise storage_error)) l w (omega arith) fits (granted Exhausted run ∙ ap (moved l) full ∙ leads))
        by (Closed run meant) =
            subst (λ o. goal (bind o (on_goes write))) (sym meant)
            (stop_step ask code (Kept k code w0) 8 8 s0 _ c 0 next UseAfterFree l (omega arith) (granted UnknownPool run ∙ ap (moved l) closed) refl refl)

    -- the instruction, behind the values: a variable takes the address
    takes_runs : (v : Var) (w0 : World) (d : List ℕ) (e : Target) (ks : List Frame) (ops : List Word) (s : List Kind) (c : ℕ) → length d ≡ depth s → (q : RecordOperand) (there : ℕ) → slice_get code.instructions.items there ≡ Some (InstrOf.TakeBlock pool_type (out_to s v) v.slot) → Follows w0 d ks (arrives e d (there + 1) ks ops) (word q ∷ ops) 2 (takes q (InVariable (master_of d v) v.slot)) there c
    unfolding write_found scalar_of opened_lists opened_outcome
    takes_runs v w0 d e ks ops s c long q there has [] c1 l w many lo fits = absurd (cc many)
    takes_runs v w0 d e ks ops s c long q there has (x ∷ []) c1 l w many lo fits = absurd (cc many)
    takes_runs v w0 d e ks ops s c long q there has (x ∷ y ∷ z ∷ ns) c1 l w many lo fits = absurd (cc many)
    takes_runs v w0 d e ks ops s c long q there has (alignment ∷ size ∷ []) c1 l w many lo fits =
        let s0 = at d there ks (Scalar alignment ∷ Scalar size ∷ word q ∷ ops) l w in
        let next : Result Done → Log → World → State = arrives e d (there + 1) ks ops in
        let move : Grant → Move = λ g. block_taken (out_to s v) v.slot g ops (here d there ks w) in
        requests (λ a. write_found (InVariable (master_of d v) v.slot) (a ∷ [])) move w0 next ks s0 q size c1 l w fits
        (by_code ask code d there ks (Scalar alignment ∷ Scalar size ∷ word q ∷ ops) l w (InstrOf.TakeBlock pool_type (out_to s v) v.slot) has
        ∙ ap (λ n. moved l (move (pool_grant n size (block_pool_at n w.pools) w))) (same_object q)) refl refl refl
        (λ a u since first. last_step ask code (Kept k code w0) 8 8 s0 c1 0 next (Goes tt) l (set_value (master_of d v) v.slot a u) (omega arith) (since_value k code (master_of d v) v.slot a w0 u since)
        (first ∙ ap (λ n. at d (there + 1) ks ops l (set_value n v.slot a u)) (out_is d s v long)))

    -- a call of the library's Allocate, whose address a variable takes
    pub library_allocate_does : (v : Var) (address : Naming) → Uses v (address Elementary K) → (size alignment : ValueCode) (sizes alignments : Valued) → ((w0 : World) → Value ask k code bound w0 size (sizes K)) → ((w0 : World) → Value ask k code bound w0 alignment (alignments K)) → Does ask k code bound (λ a. on_pool p (request size alignment) (InstrOf.TakeBlock pool_type (out_to a.stack v) v.slot) a.stack) (λ d caught. call_allocate pool address sizes alignments K d caught)
    unfolding call_allocate object_of scalar opened_outcome
    library_allocate_does v address uses size alignment sizes alignments known also a w0 d place ks ops c l w le fits sees has =
        let s = a.stack in
        let xs = request size alignment in
        let i = InstrOf.TakeBlock pool_type (out_to s v) v.slot in
        let g = InVariable (master_of d v) v.slot in
        added ask code (Kept k code w0) 1 8 8 0 0 _ c (arrives (lands a place) d (place + length (on_pool p xs i s)) ks ops) _ (omega arith) (omega arith)
        (on_pool_then xs (sizes K ∷ alignments K ∷ []) i (λ q. takes q g) 1 _ (λ q. taking_of q g (sizes K) (alignments K) d) w0 d (lands a place) ks ops s place c l w (known w0, (also w0, tt))
        (λ q c1 l1 w1. ap (λ o. bind o (on_goes (λ x. scalar (sizes K d) (λ n. alignments K d >> library_allocate (number q) n >>= (λ y. write_found x (y ∷ [])))))) (uses d c1 l1 w1))
        (λ q. taking_evaluates q g (sizes K) (alignments K) d) le fits (seen sees) has
        (λ q there c1. takes_runs v w0 d (lands a place) ks ops s c1 sees.long q there))

    -- A component takes the address, or an object of an elementary type: what has it is found behind the pool ----

    module _ (first : Start) (given : List ℕ → Act (List ℕ)) (begun : (w0 : World) → Starts ask k code bound w0 first given) (steps : List Step) (t position : ℕ) (agree : Agree k code steps) (last : Last code t position) (followed : are_followed first steps ≡ true) where
      -- where it stands, behind the part that the steps find
      abbrev holds_it : RecordOperand → Found
      holds_it r = last_found last.offset last.path r

      -- an address goes there, if the object of the part exists then: a value alone takes none
      writes_address : (r : RecordOperand) (w0 : World) (d : List ℕ) (e : Target) (ks : List Frame) (ops : List Word) (there c : ℕ) (l : Log) (w : World) (s0 : State) (a : ℕ) (u : World) → Since k code w0 u → step ask code s0 ≡ moved l (store_into last.offset a (word r) ops (record { display = d; place = there; control = ks; world = u })) → Runs ask code (Kept k code w0) 8 8 s0 c (arrives e d (there + 1) ks ops) (write_found (holds_it r) (a ∷ []) c l u)
      unfolding write_found write_part existing gone opened_outcome
      writes_address (OfCells v) w0 d e ks ops there c l w s0 a u since go = stop_step ask code (Kept k code w0) 8 8 s0 _ c 0 (arrives e d (there + 1) ks ops) UseAfterFree l (omega arith) go refl refl
      writes_address (OfObject r) w0 d e ks ops there c l w s0 a u since go = by (object_at r.object u) go
        where
          offset : ℕ
          offset = last.offset

          next : Result Done → Log → World → State
          next = arrives e d (there + 1) ks ops

          by : (x : Option Object) → step ask code s0 ≡ moved l (stored r.object (r.offset + offset) a x ops (here d there ks u)) → Runs ask code (Kept k code w0) 8 8 s0 c next (on_some x gone (λ o. change (write_cells r.object (r.offset + offset) (a ∷ []))) c l u)
          by None go1 = stop_step ask code (Kept k code w0) 8 8 s0 _ c 0 next UseAfterFree l (omega arith) go1 refl refl
          by (Some o) go1 = last_step ask code (Kept k code w0) 8 8 s0 c 0 next (Goes tt) l (write_cells r.object (r.offset + offset) (a ∷ []) u) (omega arith) (since_written k code r.object (r.offset + offset) (a ∷ []) w0 u since) go1

      -- the instruction, behind the values
      takes_into_runs : (w0 : World) (d : List ℕ) (e : Target) (ks : List Frame) (ops : List Word) (c : ℕ) (q r : RecordOperand) (there : ℕ) → slice_get code.instructions.items there ≡ Some (InstrOf.TakeBlockInto pool_type t position) → Follows w0 d ks (arrives e d (there + 1) ks ops) (word r ∷ word q ∷ ops) 2 (takes q (holds_it r)) there c
      unfolding opened_outcome
      takes_into_runs w0 d e ks ops c q r there has [] c1 l w many lo fits = absurd (cc many)
      takes_into_runs w0 d e ks ops c q r there has (x ∷ []) c1 l w many lo fits = absurd (cc many)
      takes_into_runs w0 d e ks ops c q r there has (x ∷ y ∷ z ∷ ns) c1 l w many lo fits = absurd (cc many)
      takes_into_runs w0 d e ks ops c q r there has (alignment ∷ size ∷ []) c1 l w many lo fits =
          let s0 = at d there ks (Scalar alignment ∷ Scalar size ∷ word r ∷ word q ∷ ops) l w in
          requests (λ a. write_found (holds_it r) (a ∷ [])) (λ g. block_taken_into last.offset (word r) g ops (here d there ks w)) w0 (arrives e d (there + 1) ks ops) ks s0 q size c1 l w fits
          (by_code ask code d there ks (Scalar alignment ∷ Scalar size ∷ word r ∷ word q ∷ ops) l w (InstrOf.TakeBlockInto pool_type t position) has
          ∙ ap (λ n. moved l (block_taken_into n (word r) (pool_grant (object_of_word (word q)) size (block_pool_at (object_of_word (word q)) w.pools) w) ops (here d there ks w))) last.there
          ∙ ap (λ n. moved l (block_taken_into last.offset (word r) (pool_grant n size (block_pool_at n w.pools) w) ops (here d there ks w))) (same_object q))
          refl refl refl
          (λ a u since go. writes_address r w0 d e ks ops there c1 l w s0 a u since go)

      -- a call of the library's Allocate, whose address it takes
      pub part_allocated_does : (address : Naming) → Ends K last given steps first (address Elementary K) → (size alignment : ValueCode) (sizes alignments : Valued) → ((w0 : World) → Value ask k code bound w0 size (sizes K)) → ((w0 : World) → Value ask k code bound w0 alignment (alignments K)) → Does ask k code bound (λ a. on_pool_and_part p first steps t (request size alignment) (InstrOf.TakeBlockInto pool_type t position) a.stack) (λ d caught. call_allocate pool address sizes alignments K d caught)
      unfolding call_allocate object_of scalar opened_outcome
      part_allocated_does address is size alignment sizes alignments known also a w0 d place ks ops c l w le fits sees has =
          added ask code (Kept k code w0) 1 8 8 0 0 _ c next _ (omega arith) (omega arith)
          (pool_then (middle ++ back) m w0 d (lands a place) ks ops s place end c l w le fits (seen sees) has behind)
        where
          s : List Kind
          s = a.stack

          xs : List (ValueCode × Ty)
          xs = request size alignment

          i : Instr
          i = InstrOf.TakeBlockInto pool_type t position

          front : List Line
          front = pool_operand p s

          middle : List Line
          middle = located_code first steps t (with_pool s)

          back : List Line
          back = values_then xs i (with_pool_and_part t s)

          end : ℕ
          end = place + length (on_pool_and_part p first steps t xs i s)

          next : Result Done → Log → World → State
          next = arrives (lands a place) d end ks ops

          m : Found → Act Done
          m f = address Elementary K d >>= (λ g. scalar (sizes K d) (λ n. alignments K d >> library_allocate (object_of f) n >>= (λ x. write_found g (x ∷ []))))

          -- behind the pool, in a display
          behind : (q : RecordOperand) (c1 : ℕ) (l1 : Log) (w1 : World) → c1 ≤ c → Since k code w0 w1 → Runs ask code (Kept k code w0) 8 8 (at d (place + length front) ks (word q ∷ ops) l1 w1) c1 next (m (found_at q) c1 l1 w1)
          behind q c1 l1 w1 lo fits1 =
              let there = place + length front in
              let found = place + length front + length middle in
              let takes_it : Result Found → Act Done = on_goes (λ g. taking_of q g (sizes K) (alignments K) d) in
              let selected : Result Found → Act Done = λ r c2 l2 w2. bind (on_goes last.step r c2 l2 w2) takes_it in
              let over : found + length back ≡ end = omega (arith, length-append front (middle ++ back), length-append middle back) in
              let rest = laid_back code place front (middle ++ back) has in
              subst (Runs ask code (Kept k code w0) 8 8 (at d there ks (word q ∷ ops) l1 w1) c1 next)
              (sym (ap (λ z. bind z takes_it) (is d c1 l1 w1) ∙ bind_bind (find_by K given steps first d c1 l1 w1) (on_goes last.step) takes_it))
              (located_then ask k code bound w0 call default (λ r. Kept k code w0 (way_of r)) next selected d ks (word q ∷ ops) 8 8 first given (begun w0) steps t (with_pool s) there c1 l1 w1 followed agree (omega (arith, lo, le)) fits1 (seen sees) (laid_front code there middle back rest)
              (λ c2 l2 w2 lo2 fits2 r.
              let g = holds_it r in
              let s1 = at d found ks (word r ∷ word q ∷ ops) l2 w2 in
              subst (λ o. Runs ask code (Kept k code w0) 8 8 s1 c2 next (bind o takes_it)) (sym (last.is r c2 l2 w2))
              (added ask code (Kept k code w0) last.ticks 8 8 8 8 s1 c2 next (taking_of q g (sizes K) (alignments K) d c2 l2 w2) (omega arith) (omega arith)
              (subst (λ z. Runs ask code (Kept k code w0) 8 8 s1 c2 (arrives (lands a place) d z ks ops) (taking_of q g (sizes K) (alignments K) d c2 l2 w2)) over
              (values_end xs (sizes K ∷ alignments K ∷ []) i (takes q g) (taking_of q g (sizes K) (alignments K) d) w0 d (lands a place) ks ops (word r ∷ word q ∷ ops) (with_pool_and_part t s) found c2 l2 w2 (known w0, (also w0, tt)) (taking_evaluates q g (sizes K) (alignments K) d) (omega (arith, lo, lo2, le)) fits2 (seen sees) (laid_back code there middle back rest)
              (λ here_it. takes_into_runs w0 d (lands a place) ks ops c2 q r here_it)))))
              (λ y c2 l2 w2 lo2 fits2. no_step ask code (Kept k code w0) 8 8 _ c2 0 next (Leaves (ByRaise y)) l2 w2 fits2 refl))

    -- Deallocate -----------------------------------------------------------------------------------------

    -- the instruction, behind the values
    gives_runs : (w0 : World) (d : List ℕ) (e : Target) (ks : List Frame) (ops : List Word) (c : ℕ) (q : RecordOperand) (there : ℕ) → slice_get code.instructions.items there ≡ Some (InstrOf.GiveBlock pool_type) → Follows w0 d ks (arrives e d (there + 1) ks ops) (word q ∷ ops) 3 (gives q) there c
    gives_runs w0 d e ks ops c q there has [] c1 l w many lo fits = absurd (cc many)
    gives_runs w0 d e ks ops c q there has (x ∷ []) c1 l w many lo fits = absurd (cc many)
    gives_runs w0 d e ks ops c q there has (x ∷ y ∷ []) c1 l w many lo fits = absurd (cc many)
    gives_runs w0 d e ks ops c q there has (x ∷ y ∷ z ∷ u ∷ ns) c1 l w many lo fits = absurd (cc many)
    gives_runs w0 d e ks ops c q there has (alignment ∷ size ∷ a ∷ []) c1 l w many lo fits = by (takes_back (number q) a c1 l w)
      where
        s0 : State
        s0 = at d there ks (Scalar alignment ∷ Scalar size ∷ Scalar a ∷ word q ∷ ops) l w

        next : Result Done → Log → World → State
        next = arrives e d (there + 1) ks ops

        first : (g : GivenBack) → pool_return (number q) a (block_pool_at (number q) w.pools) w ≡ g → step ask code s0 ≡ moved l (block_given g ops (here d there ks w))
        first g run =
            by_code ask code d there ks (Scalar alignment ∷ Scalar size ∷ Scalar a ∷ word q ∷ ops) l w (InstrOf.GiveBlock pool_type) has
            ∙ ap (λ n. moved l (block_given (pool_return n a (block_pool_at n w.pools) w) ops (here d there ks w))) (same_object q)
            ∙ ap (λ x. moved l (block_given x ops (here d there ks w))) run

        by : TakesBack (number q) a c1 l w → Runs ask code (Kept k code w0) 8 8 s0 c1 (arrives e d (there + 1) ks ops) (library_deallocate (number q) a c1 l w)
        by (Back u run meant) =
            subst (Runs ask code (Kept k code w0) 8 8 s0 c1 next) (sym meant)
            (last_step ask code (Kept k code w0) 8 8 s0 c1 0 next (Goes tt) l u (omega arith) (subst (OnReturn (Since k code w0)) run (since_to_pool k code (number q) a (block_pool_at (number q) w.pools) w0 w fits)) (first (Returned u) run))
        by (NotBack why run meant) =
            subst (Runs ask code (Kept k code w0) 8 8 s0 c1 next) (sym meant)
            (stop_step ask code (Kept k code w0) 8 8 s0 _ c1 0 next why l (omega arith) (first (NotReturned why) run) refl refl)

    -- a call of the library's Deallocate
    pub library_deallocate_does : (address size alignment : ValueCode) (addresses sizes alignments : Valued) → ((w0 : World) → Value ask k code bound w0 address (addresses K)) → ((w0 : World) → Value ask k code bound w0 size (sizes K)) → ((w0 : World) → Value ask k code bound w0 alignment (alignments K)) → Does ask k code bound (λ a. on_pool p ((address, Address) ∷ (size, Count) ∷ (alignment, Count) ∷ []) (InstrOf.GiveBlock pool_type) a.stack) (λ d caught. call_deallocate pool addresses sizes alignments K d caught)
    unfolding call_deallocate object_of scalar opened_outcome
    library_deallocate_does address size alignment addresses sizes alignments given known also a w0 d place ks ops c l w le fits sees has =
        let s = a.stack in
        let xs : List (ValueCode × Ty) = (address, Address) ∷ (size, Count) ∷ (alignment, Count) ∷ [] in
        let i = InstrOf.GiveBlock pool_type in
        added ask code (Kept k code w0) 1 8 8 0 0 _ c (arrives (lands a place) d (place + length (on_pool p xs i s)) ks ops) _ (omega arith) (omega arith)
        (on_pool_then xs (addresses K ∷ sizes K ∷ alignments K ∷ []) i (λ q. gives q) 0 _ (λ q. giving_of q (addresses K) (sizes K) (alignments K) d) w0 d (lands a place) ks ops s place c l w (given w0, (known w0, (also w0, tt)))
        (λ q c1 l1 w1. sym (add_none (giving_of q (addresses K) (sizes K) (alignments K) d c1 l1 w1)))
        (λ q. giving_evaluates q (addresses K) (sizes K) (alignments K) d) le fits (seen sees) has
        (λ q there c1. gives_runs w0 d (lands a place) ks ops c1 q there))
