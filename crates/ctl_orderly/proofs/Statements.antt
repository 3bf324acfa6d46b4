-- Statements, masters with their parts and handlers, and bodies keep the invariant, where executions and allocators do (5, 11, 6.4).
use Rattle.std.proofs.Common.{ℕ, zero, suc, List, [], ◌∷◌, ◌++◌, Option, Some, None, Bool, true, false, ℤ}
use Rattle.ctl_program.specs.declared.types.Ty.TheVariants.{Record}
use Rattle.ctl_program.specs.declared.types.Var.{Var}
use Rattle.ctl_program.specs.declared.operators.Operation.{Operation}
use Rattle.ctl_program.specs.declared.operators.Direction.{Direction}
use Rattle.ctl_program.specs.declared.operators.Direction.TheVariants.{Upward, Downward}
use Rattle.ctl_meaning.specs.World.{Slot}
use Rattle.ctl_meaning.specs.Choice.{Ask}
use Rattle.ctl_meaning.specs.Outcome.{Result, Goes, Leaves, Act, Done, raised_by, on_some}
use Rattle.ctl_meaning.specs.Types.{Tables, Elementary, Composite}
use Rattle.ctl_meaning.specs.Names.{OfSubprogram, Call as Caller, Default, Tools, Found, gone}
use Rattle.ctl_meaning.specs.Expressions.{no_actuals, Valued, Naming, Supplied}
use Rattle.ctl_meaning.specs.Finalization.{Every}
use Rattle.ctl_meaning.specs.Masters.{Elaborating, elaborate}
use Rattle.ctl_meaning.specs.Statements as S
use Rattle.ctl_meaning.specs.Statements.{dispatch, join_pieces, eval_text, spot_of, overwrite, assign_record, leaving, turned, loop, one_turn, while, for_turns, for, set_loop, handled, Doing, Guarding, Body, do_each, do_first, handle, scalar}
use Rattle.ctl_meaning.specs.Run.{Routine, returned, run_routine}
use Rattle.ctl_meaning.proofs.Relation.{Each, IfSome}
use Rattle.ctl_meaning.proofs.Layers.{OfStatements, Statements}
use Rattle.ctl_orderly.proofs.Rules.{Good}
use Rattle.ctl_orderly.proofs.Edits.{edit_value}
use Rattle.ctl_orderly.proofs.Plain.{keeps_on_variable, keeps_by_reference, keeps_changes, keeps_counts, keeps_done, keeps_either, keeps_existing, keeps_gives, keeps_gone, keeps_joins, keeps_leave, keeps_nothing, keeps_on_some, keeps_raise, keeps_read_found, keeps_seq, keeps_shows, keeps_spends, keeps_then, keeps_ticked, keeps_when, keeps_write_found}
use Rattle.std.proofs.Common.{◌≡◌, refl, sym, subst}
use Rattle.ctl_meaning.specs.Lists.{last_of}
use Rattle.ctl_meaning.specs.Statements.{turns}
use Rattle.ctl_orderly.specs.Law.{InOrder}
use Rattle.ctl_orderly.proofs.Expressions.{keeps_call_with, keeps_pass_each}
use Rattle.ctl_orderly.proofs.Expressions as E
use Rattle.ctl_orderly.proofs.Storage.{keeps_library_allocate, keeps_library_deallocate, keeps_unchecked}
use Rattle.ctl_orderly.proofs.Assigning.{keeps_finalize, keeps_adjust}
use Rattle.ctl_orderly.proofs.Allocating.{keeps_free}
use Rattle.ctl_orderly.proofs.Inside.{Standing, Quiet, standing_still, Inside, as_inside, inside_then, inside_good}
use Rattle.ctl_orderly.proofs.Masters.{Elaborated, Lasting, elaborates, keeps_master}
use Rattle.ctl_orderly.proofs.Masters as M

-- the master that was entered last
last_behind : (env : List ℕ) (n : ℕ) → last_of (env ++ n ∷ []) ≡ n
unfolding last_of
last_behind [] n = refl
last_behind (x ∷ []) n = refl
last_behind (x ∷ y ∷ env) n = last_behind (y ∷ env) n

module _ (t : Tables) (order : InOrder t.records) (ask : Ask) (call : Caller) (default : Default) (calls : (f : ℕ) (ss : List Slot) (env : List ℕ) → Good t (call (OfSubprogram f ss) env)) (allocates : E.Allocates t ask call default) (values : (u position : ℕ) (env : List ℕ) → Good t (default u position env)) where
  abbrev k : Tools
  k = record { ask = ask; tables = t; call = call; default = default }

  abbrev GoodValue : Valued → Type 0
  GoodValue = E.GoodValue t ask call default

  abbrev GoodName : Naming → Type 0
  GoodName = E.GoodName t ask call default

  abbrev GoodActual : Supplied → Type 0
  GoodActual = E.GoodActual t ask call default

  abbrev GoodItem : Elaborating → Type 0
  GoodItem = M.GoodItem t order ask call default calls values

  -- Loops ------------------------------------------------------------------------------------

  keeps_turned : {m : Act Done} → Good t m → (r : Result Bool) → Good t (turned m r)
  unfolding turned
  keeps_turned h (Goes true) = h
  keeps_turned h (Goes false) = keeps_nothing
  keeps_turned h (Leaves y) = keeps_gives _

  keeps_turns : (n : ℕ) (m : Act Bool) → Good t m → Good t (turns n m)
  unfolding turns
  keeps_turns zero m h = record { from = λ c l w i r. record { holds = i.sound } }
  keeps_turns (suc n) m h = record { from = λ c l w i r. (keeps_joins h (keeps_turned (keeps_turns n m h))).from c l w i tt }

  keeps_loop : {m : Act Bool} → Good t m → Good t (loop m)
  unfolding loop
  keeps_loop {m = m} h = record { from = λ c l w i r. (keeps_turns (suc c) m h).from c l w i tt }

  keeps_one_turn : {m : Act Done} → Good t m → Good t (one_turn m)
  unfolding one_turn
  keeps_one_turn h = keeps_spends (keeps_ticked (keeps_then h (keeps_done _)))

  keeps_repeats : {m : Act Done} → Good t m → Good t (loop (one_turn m))
  keeps_repeats h = keeps_loop (keeps_one_turn h)

  keeps_repeats_while : {test : Act (List ℕ)} {m : Act Done} → Good t test → Good t m → Good t (loop (while test m))
  unfolding while
  keeps_repeats_while h x = keeps_loop (keeps_seq h (λ v. keeps_either _ (keeps_one_turn x) (keeps_done _)))

  -- Statements -------------------------------------------------------------------------

  keeps_dispatch : (env : List ℕ) (op : Operation) (f : Found) → Good t (dispatch k env op f)
  unfolding dispatch
  keeps_dispatch env op f = keeps_existing _ (λ o. keeps_on_some _ keeps_nothing (λ s. keeps_then (keeps_seq (keeps_by_reference f) (λ x. keeps_call_with t ask call default calls allocates env s _)) keeps_nothing))

  keeps_join_pieces : (env : List ℕ) (ps : List Valued) → Each GoodValue ps → (v : List ℕ) → Good t (join_pieces k env ps v)
  unfolding join_pieces
  keeps_join_pieces env [] h v = keeps_done v
  keeps_join_pieces env (p ∷ ps) h v = keeps_seq (keeps_ticked (h.0 env)) (λ u. keeps_join_pieces env ps h.1 (v ++ u))

  keeps_text : (env : List ℕ) (ps : List Valued) → Each GoodValue ps → Good t (eval_text k env ps)
  unfolding eval_text
  keeps_text env [] h = keeps_done _
  keeps_text env (p ∷ ps) h = keeps_seq (h.0 env) (λ v. keeps_join_pieces env ps h.1 v)

  -- each call of a body is among the masters of the statement
  keeps_assign_record : (env : List ℕ) (u : ℕ) (f g : Found) → Good t (assign_record k env u f g)
  unfolding assign_record overwrite
  keeps_assign_record env u f g =
      let around : Caller = λ x home. call x env in
      let its : (n : ℕ) (ss : List Slot) (home : List ℕ) → Good t (around (OfSubprogram n ss) home) = λ n ss home. calls n ss env in
      keeps_seq (keeps_read_found _ g)
      (λ v. keeps_either _ keeps_nothing (keeps_on_variable f (keeps_then (keeps_then (keeps_when _ (keeps_then (keeps_finalize t ask around default its Every (spot_of f) u) keeps_nothing)) (keeps_write_found f v)) (keeps_adjust t ask around default its (spot_of f) (Record u)))))

  keeps_leaving : {m : Act Done} → Good t m → Good t (leaving m)
  unfolding leaving
  keeps_leaving h = keeps_joins h (λ r. keeps_ticked (keeps_gives r))

  keeps_for_turns : (n : ℕ) (next : ℤ → ℤ) (f : ℤ → Act Done) → ((z : ℤ) → Good t (f z)) → (z : ℤ) → Good t (for_turns n next f z)
  unfolding for_turns
  keeps_for_turns zero next f h z = keeps_nothing
  keeps_for_turns (suc n) next f h z = keeps_joins (keeps_one_turn (h z)) (λ r. keeps_turned (keeps_for_turns n next f h (next z)) r)

  keeps_for : (b : Direction) (f : ℤ → Act Done) → ((z : ℤ) → Good t (f z)) → (x y : ℤ) → Good t (for b f x y)
  unfolding for
  keeps_for Upward f h x y = keeps_for_turns _ _ f h x
  keeps_for Downward f h x y = keeps_for_turns _ _ f h y

  keeps_handled : (f : ℕ → Act Done) → ((e : ℕ) → Good t (f e)) → (r : Result Done) → Good t (handled f r)
  unfolding handled
  keeps_handled f h (Goes a) = keeps_nothing
  keeps_handled f h (Leaves y) = keeps_on_some (raised_by y) (keeps_leave y) h

  keeps_scalar : {m : Act (List ℕ)} {f : ℕ → Act Done} → Good t m → ((i : ℕ) → Good t (f i)) → Good t (scalar m f)
  unfolding scalar
  keeps_scalar h i = keeps_seq h (λ v. i _)

  keeps_set_loop : (env : List ℕ) (v : Var) (z : ℤ) → Good t (set_loop env v z)
  unfolding set_loop
  keeps_set_loop env v z = keeps_changes (edit_value _ _ _)

  -- What holds of statements ---------------------------------------------------------------

  abbrev pub GoodDoing : Doing → Type 0
  GoodDoing s = (env : List ℕ) (e : ℕ) → Good t (s k env e)

  abbrev pub GoodGuard : Guarding → Type 0
  GoodGuard x = (env : List ℕ) (e : ℕ) (m : Act Done) → Good t m → Good t (x k env e m)

  abbrev pub GoodBody : Body → Type 0
  GoodBody b = (e : ℕ) → Lasting t order ask call default calls values (λ inner. b.inside k inner e)

  -- what is said of statements
  abbrev pub of_statements : OfStatements
  of_statements = record { Item = GoodItem; Statement = GoodDoing; Guard = GoodGuard; Master = GoodBody }

  keeps_each : (env : List ℕ) (e : ℕ) (ss : List Doing) → Each GoodDoing ss → Good t (do_each k env e ss)
  unfolding do_each
  keeps_each env e [] h = keeps_nothing
  keeps_each env e (s ∷ ss) h = keeps_then (h.0 env e) (keeps_each env e ss h.1)

  keeps_first : (env : List ℕ) (e : ℕ) (xs : List Guarding) → Each GoodGuard xs → {m : Act Done} → Good t m → Good t (do_first k env e xs m)
  unfolding do_first
  keeps_first env e [] h i = i
  keeps_first env e (x ∷ xs) h i = h.0 env e _ (keeps_first env e xs h.1 i)

  keeps_handle : (env : List ℕ) (xs : List Guarding) → Each GoodGuard xs → (e : ℕ) → Good t (handle k env xs e)
  unfolding handle
  keeps_handle env xs h e = keeps_first env e xs h (keeps_raise e)

  -- a part and its statements leave the objects of the part standing
  good_within : (slots : ℕ) (xs : List Elaborating) (ss : List Doing) (hs : List Guarding) → Each GoodItem xs → Each GoodDoing ss → Each GoodGuard hs → GoodBody (record { slots = slots; inside = S.within xs ss hs })
  unfolding S.within
  good_within slots xs ss hs h i l e tr0 w0 env = inside_then {P = Elaborated t order ask call default calls values tr0 w0} (subst (λ m. Inside t tr0 w0 (Quiet t w0.ledger.next_object w0.ledger.next_master) (Elaborated t order ask call default calls values tr0 w0) (elaborate k (env ++ w0.ledger.next_master ∷ []) m xs)) (sym (last_behind env w0.ledger.next_master)) (elaborates t order ask call default calls values tr0 w0 (env ++ w0.ledger.next_master ∷ []) xs h))
      (λ a. as_inside (inside_good (Standing t w0.ledger.next_object w0.ledger.next_master) (standing_still w0.ledger.next_object w0.ledger.next_master) (keeps_joins (keeps_each (env ++ w0.ledger.next_master ∷ []) e ss i) (λ r. keeps_handled _ (λ x. keeps_handle (env ++ w0.ledger.next_master ∷ []) hs l x) r))) (λ tr w i s q. q.standing) (λ r tr w i q. q)) (λ y tr w i q. q)

  -- each layer of a statement keeps the invariant where its parts do
  pub statements : Statements (E.of_expressions t ask call default) of_statements
  unfolding S.literal S.integer_text S.boolean_text S.null S.assign S.assign_part S.call S.call_nothing S.call_dispatching S.call_allocate S.call_deallocate S.put S.put_line S.new_line S.exit S.return S.raise_new S.raise_again S.choose_arm S.loop_plainly S.loop_while S.loop_for S.do_block S.free_object_of S.release_subpool S.guard S.handler
  statements = record {
    literal = λ v env. keeps_ticked (keeps_done _);
    integer_text = λ e h env. keeps_ticked (keeps_seq (h env) (λ v. keeps_done _));
    boolean_text = λ e h env. keeps_ticked (keeps_seq (h env) (λ v. keeps_done _));
    null = λ env e. keeps_ticked keeps_nothing;
    assign = λ n v h i env e. keeps_ticked (keeps_seq (h Elementary env) (λ f. keeps_seq (i env) (λ x. keeps_write_found f x)));
    assign_part = λ n u a h i env e. keeps_ticked (keeps_seq (h Composite env) (λ f. keeps_seq (i.0 env) (λ g. keeps_assign_record env u f g)));
    call_statement = λ f xs h env e. keeps_ticked (keeps_then (keeps_seq (keeps_pass_each t ask call default calls allocates env xs h no_actuals) (λ p. keeps_call_with t ask call default calls allocates env f p)) keeps_nothing);
    call_nothing = λ n h env e. keeps_ticked (keeps_then (h Composite env) keeps_nothing);
    dispatching = λ op n h env e. keeps_ticked (keeps_seq (h Composite env) (λ f. keeps_dispatch env op f));
    call_allocate = λ p a size al h i l m env e. keeps_ticked (keeps_seq (h Composite env) (λ f. keeps_seq (i Elementary env) (λ g. keeps_scalar (l env) (λ s. keeps_seq (keeps_then (m env) (keeps_library_allocate t ask call default calls _ s)) (λ y. keeps_write_found g _)))));
    call_deallocate = λ p a size al h i l m env e. keeps_ticked (keeps_seq (h Composite env) (λ f. keeps_scalar (i env) (λ y. keeps_then (keeps_then (l env) (m env)) (keeps_library_deallocate t ask call default calls _ y))));
    put = λ ps h env e. keeps_ticked (keeps_seq (keeps_text env ps h) (λ v. keeps_shows _ tt));
    put_line = λ ps h env e. keeps_ticked (keeps_seq (keeps_text env ps h) (λ v. keeps_then (keeps_shows _ tt) (keeps_shows _ tt)));
    new_line = λ env e. keeps_ticked (keeps_shows _ tt);
    exit = elim [ None ↦ λ h env e. keeps_ticked (keeps_leave _) | Some x ↦ λ h env e. keeps_ticked (keeps_scalar (h env) (λ b. keeps_either _ (keeps_leave _) keeps_nothing)) ];
    return = elim [ None ↦ λ h env e. keeps_ticked (keeps_leave _) | Some x ↦ λ h env e. keeps_ticked (keeps_seq (h env) (λ v. keeps_leave _)) ];
    raise = λ x env e. keeps_ticked (keeps_raise _);
    raise_again = λ env e. keeps_ticked (keeps_raise _);
    choose_arm = λ xs ss h i env e. keeps_ticked (keeps_leaving (keeps_first env e xs h (keeps_each env e ss i)));
    loop = λ ss h env e. keeps_ticked (keeps_leaving (keeps_repeats (keeps_each env e ss h)));
    while = λ v ss h i env e. keeps_ticked (keeps_leaving (keeps_repeats_while (h env) (keeps_each env e ss i)));
    for = λ x way low high ss h i l env e. keeps_ticked (keeps_leaving (keeps_scalar (h env) (λ a. keeps_scalar (i env) (λ b. keeps_for way _ (λ z. keeps_then (keeps_set_loop env x z) (keeps_each env e ss l)) _ _))));
    block = λ b h env e. keeps_ticked (keeps_seq (keeps_master t order ask call default calls values env _ _ (h e)) (λ y. keeps_gives y.result));
    free = λ a n h env e. keeps_ticked (keeps_seq (h Elementary env) (λ f. keeps_free t order ask call default calls values env a f));
    release = λ n h env e. keeps_ticked (keeps_seq (h Elementary env) (λ f. keeps_unchecked t ask call default calls f));
    guard = λ v ss h i env e m x. keeps_scalar (h env) (λ b. keeps_either _ (keeps_each env e ss i) x);
    handler = λ choices ss h env e m x. keeps_counts _ (keeps_either _ (keeps_each env e ss h) x);
    within = good_within;
    declarations = M.declarations t order ask call default calls values;
  }

  -- Bodies -----------------------------------------------------------------------------------

  -- the body of a subprogram, if there is one of that number
  pub keeps_routine : (o : Option Routine) → IfSome (λ (s : Routine). GoodBody s.body) o → (env : List ℕ) (ss : List Slot) → Good t (on_some o gone (run_routine k env ss))
  unfolding on_some run_routine returned
  keeps_routine None h env ss = keeps_gone
  keeps_routine (Some s) h env ss = keeps_seq (keeps_master t order ask call default calls values _ _ _ (h 0)) (λ x. keeps_gives _)
