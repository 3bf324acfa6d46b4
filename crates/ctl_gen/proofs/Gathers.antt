-- The collections of access types that are frozen at one place: each is made, and then all of them are a layer of their master (7.6.1,
-- 13.14).
use Rattle.std.proofs.Common.{◌≡◌, ℕ, zero, suc, ◌+◌, ◌-◌, ◌<◌, ◌≤◌, List, [], ◌∷◌, ◌++◌, length, map, Option, Some, None, refl, sym, ap, ◌∙◌, subst, arith}
use Rattle.std.specs.Prelude.{option_map, slice_get}
use Rattle.ctl_program.specs.declared.types.AccessType.{AccessType}
use Rattle.ctl_tree.specs.declared.ending.Stop.TheVariants.{UseAfterFree}
use Rattle.ctl_meaning.specs.World.{Gathers, Sets, holding, Log, World}
use Rattle.ctl_meaning.specs.Lists.{last_of}
use Rattle.ctl_meaning.specs.Ledger.{opened_ledger}
use Rattle.ctl_meaning.specs.Changes.{add_collection, add_layer, opened_changes}
use Rattle.ctl_meaning.specs.Choice.{Ask}
use Rattle.ctl_meaning.specs.Outcome.{Goes, Stops, Out, Done, add, bind, on_goes, on_some, opened_outcome}
use Rattle.ctl_meaning.specs.Types.{Tables}
use Rattle.ctl_meaning.specs.Names.{Call, Default, Tools, gone}
use Rattle.ctl_meaning.specs.Masters.{collections, gather, gather_each}
use Rattle.ctl_code.specs.declared.code.Instr.TheVariants as InstrOf
use Rattle.ctl_code.specs.declared.code.Code.{Code}
use Rattle.ctl_code.specs.declared.kinds.Kind.{Kind}
use Rattle.ctl_code.specs.States.{Word, Frame}
use Rattle.ctl_code.specs.Table.{by_gather, numbers_to, with_sets}
use Rattle.ctl_code.specs.Steps.{moved, step}
use Rattle.ctl_layout.specs.Layout.{gathers_code, home_of}
use Rattle.ctl_gen.proofs.Place.{Laid}
use Rattle.ctl_gen.proofs.Collections.{home}
use Rattle.ctl_gen.proofs.Worlds.{Kept, Since, since_collection, since_layer}
use Rattle.ctl_gen.proofs.Setting.{Setting, tools_with, Sees}
use Rattle.ctl_gen.proofs.Cells.{here, by_code}
use Rattle.ctl_gen.proofs.Does.{Does}
use Rattle.ctl_gen.proofs.Follow.{Runs, Target, added, arrives, at, last_step, lands, one_step, stop_step}

-- where the collections and the pools of access types stand
pub home_in : (xs : List AccessType) (a : ℕ) → slice_get (map home_of xs) a ≡ option_map home_of (slice_get xs a)
home_in [] a = refl
home_in (x ∷ xs) zero = refl
home_in (x ∷ xs) (suc a) = home_in xs a

-- a further collection takes the next number
pub next_gathered : (m slot : ℕ) (w : World) → (add_collection m slot (holding (Gathers w.ledger.next_collection)) w).ledger.next_collection - 1 ≡ w.ledger.next_collection
unfolding opened_changes opened_ledger
next_gathered m slot w = omega arith

module _ (ask : Ask) (k : Tables) (code : Code) (setting : Setting k code) (call : Call) (default : Default) where
  abbrev K : Tools
  K = tools_with ask k call default

  -- the world with a further collection
  abbrev gathered : ℕ → AccessType → World → World
  gathered m x w = add_collection m x.collection.slot (holding (Gathers w.ledger.next_collection)) w

  -- What it means -------------------------------------------------------------------------------------

  gather_is : (m a : ℕ) (more sets : List ℕ) (x : AccessType) (c : ℕ) (l : Log) (w : World) → slice_get k.accesses a ≡ Some x → gather_each K m (a ∷ more) sets c l w ≡ add 1 (gather_each K m more (sets ++ w.ledger.next_collection ∷ []) c l (gathered m x w))
  unfolding gather_each gather opened_outcome
  gather_is m a more sets x c l w there = ap (λ o. bind (add 1 (on_some o gone (gather m) c l w)) (on_goes (λ n. gather_each K m more (sets ++ n ∷ [])))) there

  no_access_is : (m a : ℕ) (more sets : List ℕ) (c : ℕ) (l : Log) (w : World) → slice_get k.accesses a ≡ None → gather_each K m (a ∷ more) sets c l w ≡ Stops UseAfterFree 1 l
  unfolding gather_each gone opened_outcome
  no_access_is m a more sets c l w there = ap (λ o. bind (add 1 (on_some o gone (gather m) c l w)) (on_goes (λ n. gather_each K m more (sets ++ n ∷ [])))) there

  -- What its code does ----------------------------------------------------------------------------------

  gather_step : (a count : ℕ) (s : List Kind) (o : Option AccessType) (d : List ℕ) (place : ℕ) (ks : List Frame) (ops : List Word) (l : Log) (w : World) → slice_get k.accesses a ≡ o → slice_get code.instructions.items place ≡ Some (InstrOf.Gather a count) → step ask code (at d place ks ops l w) ≡ moved l (by_gather (option_map home_of o) count ops (here d place ks w))
  gather_step a count s o d place ks ops l w there has = by_code ask code d place ks ops l w (InstrOf.Gather a count) has ∙ ap (λ y. moved l (by_gather y count ops (here d place ks w))) (setting.accesses a ∙ ap (option_map home_of) there)

  -- the worlds with a further collection
  gathered_fits : (x : AccessType) (s : List Kind) (w0 : World) (d : List ℕ) (w : World) → Since k code w0 w → Sees d s w0 → Since k code w0 (gathered (last_of d) x w)
  gathered_fits x s w0 d w fits sees = since_collection k code (last_of d) x.collection.slot w0 w old deep fits
    where
      old : last_of d < w.ledger.next_master
      old = omega (arith, sees.old, fits.1.later)

      deep : 1 ≤ length (home (last_of d) w.activations)
      deep = subst (λ (x : List ℕ). 1 ≤ length x) (sym (fits.1.homes (last_of d) sees.old ∙ sees.home)) sees.deep

  -- those that are made then, behind so many others, which have the numbers before the next one
  all_numbered : (count : ℕ) (sets : List ℕ) (n : ℕ) → sets ≡ numbers_to (n - 1) count → sets ++ n ∷ [] ≡ numbers_to n (suc count)
  all_numbered count sets n numbered = ap (λ xs. xs ++ n ∷ []) numbered

  -- the last one makes all of them a layer
  last_runs : (a count : ℕ) (sets : List ℕ) (x : AccessType) (e : Target) (s : List Kind) (w0 : World) (d : List ℕ) (place : ℕ) (ks : List Frame) (ops : List Word) (c : ℕ) (l : Log) (w : World) → sets ≡ numbers_to (w.ledger.next_collection - 1) count → slice_get k.accesses a ≡ Some x → Since k code w0 w → Sees d s w0 → slice_get code.instructions.items place ≡ Some (InstrOf.Gather a (count + 1))
      → Runs ask code (Kept k code w0) 0 0 (at d place ks ops l w) c (arrives e d (place + 1) ks ops) (add 1 (gather_each K (last_of d) [] (sets ++ w.ledger.next_collection ∷ []) c l (gathered (last_of d) x w)))
  unfolding gather_each opened_outcome
  last_runs a count sets x e s w0 d place ks ops c l w numbered there fits sees has =
      let n = w.ledger.next_collection in
      let w1 = gathered (last_of d) x w in
      let many : count + 1 ≡ suc count = omega arith in
      last_step ask code (Kept k code w0) 0 0 (at d place ks ops l w) c 1 (arrives e d (place + 1) ks ops) (Goes tt) l (add_layer (last_of d) (Sets (sets ++ n ∷ [])) w1) (omega arith)
      (since_layer k code (last_of d) (Sets (sets ++ n ∷ [])) w0 w1 (gathered_fits x s w0 d w fits sees))
      (gather_step a (count + 1) s (Some x) d place ks ops l w there has
      ∙ ap (λ i. at d (place + 1) ks ops l (with_sets d n i w1)) many
      ∙ ap (λ xs. at d (place + 1) ks ops l (add_layer (last_of d) (Sets xs) w1)) (sym (all_numbered count sets n numbered)))

  gathers_run : (more : List ℕ) (a count : ℕ) (sets : List ℕ) (e : Target) (s : List Kind) (w0 : World) (d : List ℕ) (place end : ℕ) (ks : List Frame) (ops : List Word) (c : ℕ) (l : Log) (w : World) → sets ≡ numbers_to (w.ledger.next_collection - 1) count → place + length (gathers_code (a ∷ more) count s) ≡ end → Since k code w0 w → Sees d s w0 → Laid code place (gathers_code (a ∷ more) count s)
      → Runs ask code (Kept k code w0) 0 0 (at d place ks ops l w) c (arrives e d end ks ops) (gather_each K (last_of d) (a ∷ more) sets c l w)
  gathers_run [] a count sets e s w0 d place end ks ops c l w numbered ends fits sees has = by (slice_get k.accesses a) refl
    where
      goal : Out Done → Type 0
      goal o = Runs ask code (Kept k code w0) 0 0 (at d place ks ops l w) c (arrives e d end ks ops) o

      by : (o : Option AccessType) → slice_get k.accesses a ≡ o → goal (gather_each K (last_of d) (a ∷ []) sets c l w)
      by None there = subst goal (sym (no_access_is (last_of d) a [] sets c l w there)) (stop_step ask code (Kept k code w0) {A = Done} 0 0 _ _ c 1 (arrives e d end ks ops) UseAfterFree l (omega arith) (gather_step a (count + 1) s None d place ks ops l w there has.0) refl refl)
      by (Some x) there =
          subst goal (sym (gather_is (last_of d) a [] sets x c l w there))
          (subst (λ p. Runs ask code (Kept k code w0) 0 0 (at d place ks ops l w) c (arrives e d p ks ops) (add 1 (gather_each K (last_of d) [] (sets ++ w.ledger.next_collection ∷ []) c l (gathered (last_of d) x w)))) ends
          (last_runs a count sets x e s w0 d place ks ops c l w numbered there fits sees has.0))
  gathers_run (b ∷ others) a count sets e s w0 d place end ks ops c l w numbered ends fits sees has = by (gathers_run others b (count + 1)) (slice_get k.accesses a) refl
    where
      goal : Out Done → Type 0
      goal o = Runs ask code (Kept k code w0) 0 0 (at d place ks ops l w) c (arrives e d end ks ops) o

      More : Type 0
      More = (sets1 : List ℕ) (e1 : Target) (s1 : List Kind) (w1 : World) (d1 : List ℕ) (place1 end1 : ℕ) (ks1 : List Frame) (ops1 : List Word) (c1 : ℕ) (l1 : Log) (w2 : World) → sets1 ≡ numbers_to (w2.ledger.next_collection - 1) (count + 1) → place1 + length (gathers_code (b ∷ others) (count + 1) s1) ≡ end1 → Since k code w1 w2 → Sees d1 s1 w1 → Laid code place1 (gathers_code (b ∷ others) (count + 1) s1)
          → Runs ask code (Kept k code w1) 0 0 (at d1 place1 ks1 ops1 l1 w2) c1 (arrives e1 d1 end1 ks1 ops1) (gather_each K (last_of d1) (b ∷ others) sets1 c1 l1 w2)

      by : More → (o : Option AccessType) → slice_get k.accesses a ≡ o → goal (gather_each K (last_of d) (a ∷ b ∷ others) sets c l w)
      by rest None there = subst goal (sym (no_access_is (last_of d) a (b ∷ others) sets c l w there)) (stop_step ask code (Kept k code w0) {A = Done} 0 0 _ _ c 1 (arrives e d end ks ops) UseAfterFree l (omega arith) (gather_step a 0 s None d place ks ops l w there has.0) refl refl)
      by rest (Some x) there =
          let n = w.ledger.next_collection in
          let w1 = gathered (last_of d) x w in
          let same : suc count ≡ count + 1 = omega arith in
          subst goal (sym (gather_is (last_of d) a (b ∷ others) sets x c l w there))
          (added ask code (Kept k code w0) 1 1 1 0 0 _ c (arrives e d end ks ops) _ (omega arith) (omega arith)
          (one_step ask code (Kept k code w0) 0 0 1 1 (at d place ks ops l w) (at d (place + 1) ks ops l w1) c c (arrives e d end ks ops) _ (omega arith) (omega arith) (omega arith) (omega arith)
          (gather_step a 0 s (Some x) d place ks ops l w there has.0)
          (rest (sets ++ n ∷ []) e s w0 d (place + 1) end ks ops c l w1
          (all_numbered count sets n numbered ∙ ap (numbers_to n) same ∙ ap (λ i. numbers_to i (count + 1)) (sym (next_gathered (last_of d) x.collection.slot w)))
          (omega (arith, ends)) (gathered_fits x s w0 d w fits sees) sees has.2)))

  -- at a freezing place
  pub collections_do : (bound a : ℕ) (more : List ℕ) → Does ask k code bound (λ x. gathers_code (a ∷ more) 0 x.stack) (λ d caught. collections (a ∷ more) K d (last_of d))
  unfolding collections
  collections_do bound a more x w0 d place ks ops c l w le fits sees has = gathers_run more a 0 [] (lands x place) x.stack w0 d place _ ks ops c l w refl refl fits sees has
