-- One induction over the whole meaning: what each elementary act keeps, two runs of the same program keep.
use Rattle.std.proofs.Common.{ℕ, zero, suc, List, [], ◌∷◌, ◌++◌, Option, Some, None, Bool, true, false, ◌||◌, ℤ}
use Rattle.ctl_program.specs.declared.types.Ty.{Ty}
use Rattle.ctl_program.specs.declared.types.Ty.TheVariants.{Integer, Count, Boolean, Address, Handle, Access, Record}
use Rattle.ctl_program.specs.declared.types.Var.{Var}
use Rattle.ctl_program.specs.declared.types.AccessType.{AccessType}
use Rattle.ctl_program.specs.declared.types.Root.{Root}
use Rattle.ctl_program.specs.declared.types.Root.TheVariants.{Untagged, Controlled, BlockPool, MarkPool}
use Rattle.ctl_program.specs.declared.operators.CopyStart as CopyStartOf
use Rattle.ctl_program.specs.declared.operators.CopyStart.{CopyStart}
use Rattle.ctl_program.specs.declared.operators.Shortcut.{Shortcut}
use Rattle.ctl_program.specs.declared.operators.SubpoolFunction.{SubpoolFunction}
use Rattle.ctl_program.specs.declared.operators.SubpoolFunction.TheVariants.{Mark, Default as DefaultOf}
use Rattle.ctl_program.specs.declared.operators.Operation.{Operation}
use Rattle.ctl_program.specs.declared.operators.Direction.{Direction}
use Rattle.ctl_program.specs.declared.operators.Direction.TheVariants.{Upward, Downward}
use Rattle.ctl_program.specs.declared.operators.SubprogramKind.{SubprogramKind}
use Rattle.ctl_program.specs.declared.expression.Step.{Step}
use Rattle.ctl_program.specs.declared.expression.Step.TheVariants.{Component, Dereference, Narrow}
use Rattle.ctl_tree.specs.declared.event.Event.{Event}
use Rattle.ctl_tree.specs.declared.event.Cause.{Cause}
use Rattle.ctl_tree.specs.declared.event.Cause as CauseOf
use Rattle.ctl_meaning.specs.World.{Member, Layer, Single, Sets, Origin, Declared, Allocated, Place, Standard, InBlock, InSubpool, Object, Content, Nothing, Holds, Binds, Copies, Gathers, Slot, BlockPool as BlockPoolRecord, MarkPool as MarkPoolRecord}
use Rattle.ctl_meaning.specs.Lists.{pull_item, pull_rest}
use Rattle.ctl_meaning.specs.Changes.{object_at}
use Rattle.ctl_meaning.specs.Members.{Group}
use Rattle.ctl_meaning.specs.Choice.{Ask}
use Rattle.ctl_meaning.specs.Outcome.{Way, ByRaise, Result, Goes, Leaves, Act, Done, on_goes, ◌>>=◌, ◌>>◌, done, nothing, leave_by, raise, ticked, spend, choose, raised_by, tried, told, attempt, Tried, Fine, Raised, when, either, on_some}
use Rattle.ctl_meaning.specs.Types.{Tables, Category, Elementary, Composite, category_of, Placed, depth, of_record}
use Rattle.ctl_meaning.specs.Names.{OfSubprogram, OfAllocator, Call as Caller, Default, Tools, Found, InObject, InVariable, Alone, gone, existing, must_exist, read_part, write_part, on_variable, read_found, write_found, found_in, find_var, dereferenced, narrowed, one_step, walk, begins_as, or_constraint_error}
use Rattle.ctl_meaning.specs.Marks.{with_mark_pool, mark, default_subpool, subpool_function, discriminant}
use Rattle.ctl_meaning.specs.Expressions.{Passed, no_actuals, with_formal, bound, by_reference, copied, by_copy, copy_back, call_with, Valued, Naming, Applied, Supplied, pass_each, apply_each, join_each, var_part, if_given, operands, allocator, eval_step, operand_step, name_step, actual_step, by_value}
use Rattle.ctl_meaning.specs.Finalization.{Spot, whole, component_at, no_component, with_home, call_operation, Chosen, Every, These, after_finalize, own_finalize, in_any_order, parts_to_finalize, finalize_part, finalize, finalize_begun, finalize_object, finalize_if_controlled, finalize_failed, finalize_group}
use Rattle.ctl_meaning.specs.Adjustment.{Birth, lives, lives_if, Adjusted, unadjusted, adjust_each, after_adjust, own_adjust, controlled_parts, adjust_part, clean_up_copy, adjusted, adjust_record, adjust}
use Rattle.ctl_meaning.specs.Initialization.{paths_within, paths_of, Begun, begun_with, begin_next, begin_each, own_initialize, unless_failed, failed_with, clean_up, begun, begin_component, parts_to_begin, initialize_part, initialize, fill}
use Rattle.ctl_meaning.specs.Storage.{with_block_pool, library_allocate, library_deallocate, tested, user_allocate, block_storage, give_back, room_in, subpool_storage, dropped, release_from, release, program_error_if, unchecked_deallocate_subpool, release_each, shut_pool, close_pool, mark_storage, storage_in, storage}
use Rattle.ctl_meaning.specs.Allocation.{with_set, created_or_gone, created, allocate_for, allocate, returns_storage, freed, finalize_unfinalized, free_object, free_value, free}
use Rattle.ctl_meaning.specs.Masters.{finalize_declared, finalize_sets, finalize_layer, leave_layers, left, leave, in_master, declare, gather, gather_each, discriminants, open_pool, pool_or_closed, declare_pool, Elaborating, collections, object, pool, silent, elaborate}
use Rattle.ctl_meaning.specs.Statements as S
use Rattle.ctl_meaning.specs.Statements.{dispatch, join_pieces, eval_text, spot_of, overwrite, assign_record, leaving, turned, loop, one_turn, while, for_turns, for, set_loop, handled, Doing, Guarding, Body, do_each, do_first, handle, scalar}
use Rattle.ctl_meaning.specs.Run.{Routine, returned, run_routine}
use Rattle.ctl_meaning.proofs.Relation.{numbers, creates, creates_at, writes, forgets, opens, closes, layers, takes, sets, assigns, gathers, starts, begins, ends, stores, shuts, empties, Closed, Each, IfSome}
use Rattle.ctl_meaning.proofs.Layers.{OfExpressions, OfStatements, Expressions, Declarations, Statements}

module _ (t : Tables) (ask other : Ask) (call spare : Caller) (default fallback : Default) (Rel : (A : Type 0) → Act A → Act A → Type 0) (closed : Closed t ask other Rel) where
  abbrev Same : {A : Type 0} → Act A → Act A → Type 0
  Same {A = A} m n = Rel A m n

  abbrev k : Tools
  k = record { ask = ask; tables = t; call = call; default = default }

  abbrev j : Tools
  j = record { ask = other; tables = t; call = spare; default = fallback }

  -- Combinators ---------------------------------------------------------------

  k_leave : {A : Type 0} (y : Way) → Same {A = A} (leave_by y) (leave_by y)
  unfolding leave_by
  k_leave y = closed.gives (Leaves y)

  k_raise : {A : Type 0} (e : ℕ) → Same {A = A} (raise e) (raise e)
  unfolding raise
  k_raise e = closed.gives (Leaves (ByRaise e))

  k_done : {A : Type 0} (a : A) → Same (done a) (done a)
  unfolding done
  k_done a = closed.gives (Goes a)

  k_nothing : Same nothing nothing
  unfolding nothing
  k_nothing = closed.gives (Goes tt)

  k_goes : {A B : Type 0} {f g : A → Act B} → ((a : A) → Same (f a) (g a)) → (r : Result A) → Same (on_goes f r) (on_goes g r)
  unfolding on_goes
  k_goes h (Goes a) = h a
  k_goes h (Leaves y) = closed.gives (Leaves y)

  k_seq : {A B : Type 0} {m n : Act A} {f g : A → Act B} → Same m n → ((a : A) → Same (f a) (g a)) → Same (m >>= f) (n >>= g)
  unfolding ◌>>=◌
  k_seq h j = closed.joins h (k_goes j)

  k_then : {A B : Type 0} {m n : Act A} {p q : Act B} → Same m n → Same p q → Same (m >> p) (n >> q)
  unfolding ◌>>◌
  k_then h j = closed.joins h (k_goes (λ a. j))

  k_ticked : {A : Type 0} {m n : Act A} → Same m n → Same (ticked m) (ticked n)
  unfolding ticked
  k_ticked h = closed.counts 1 h

  k_told : {A : Type 0} (r : Result A) → Same (told r) (told r)
  unfolding told
  k_told r = closed.gives (tried r)

  k_attempt : {A : Type 0} {m n : Act A} → Same m n → Same (attempt m) (attempt n)
  unfolding attempt
  k_attempt h = closed.joins h k_told

  k_either : {A : Type 0} (b : Bool) {m n p q : Act A} → Same m n → Same p q → Same (either b m p) (either b n q)
  unfolding either
  k_either true h j = h
  k_either false h j = j

  k_when : (b : Bool) {m n : Act Done} → Same m n → Same (when b m) (when b n)
  unfolding when
  k_when b h = k_either b h k_nothing

  k_on_some : {A B : Type 0} (o : Option A) {m n : Act B} {f g : A → Act B} → Same m n → ((a : A) → Same (f a) (g a)) → Same (on_some o m f) (on_some o n g)
  unfolding on_some
  k_on_some None h j = h
  k_on_some (Some a) h j = j a

  k_of_record : {A : Type 0} {m n : Act A} {f g : ℕ → Act A} (ty : Ty) → Same m n → ((u : ℕ) → Same (f u) (g u)) → Same (of_record m f ty) (of_record n g ty)
  unfolding of_record
  k_of_record Integer h j = h
  k_of_record Count h j = h
  k_of_record Boolean h j = h
  k_of_record Address h j = h
  k_of_record Handle h j = h
  k_of_record (Access a) h j = h
  k_of_record (Record u) h j = j u

  k_choose : (m : ℕ) → Same (choose ask m) (choose other m)
  unfolding choose
  k_choose m = closed.counts m (closed.answers m)

  -- Names -----------------------------------------------------------------------

  k_gone : {A : Type 0} → Same {A = A} gone gone
  unfolding gone
  k_gone = closed.stops _

  k_existing : {A : Type 0} (n : ℕ) {f g : Object → Act A} → ((o : Object) → Same (f o) (g o)) → Same (existing n f) (existing n g)
  unfolding existing
  k_existing n h = closed.looks (λ w. k_on_some (object_at n w) k_gone h)

  k_must_exist : (n : ℕ) → Same (must_exist n) (must_exist n)
  unfolding must_exist
  k_must_exist n = k_existing n (λ o. k_nothing)

  k_read_part : (n o c : ℕ) → Same (read_part n o c) (read_part n o c)
  unfolding read_part
  k_read_part n o c = k_existing n (λ x. k_done _)

  k_write_part : (n o : ℕ) (v : List ℕ) → Same (write_part n o v) (write_part n o v)
  unfolding write_part
  k_write_part n o v = k_existing n (λ x. closed.changes (writes n o v))

  k_read_found : (n : ℕ) (f : Found) → Same (read_found n f) (read_found n f)
  unfolding read_found
  k_read_found n (InObject o x path) = k_read_part o x n
  k_read_found n (InVariable m i) = closed.looks (λ w. k_done _)
  k_read_found n (Alone v) = k_done _

  k_write_found : (f : Found) (v : List ℕ) → Same (write_found f v) (write_found f v)
  unfolding write_found
  k_write_found (InObject o x path) v = k_write_part o x v
  k_write_found (InVariable m i) v = closed.changes (assigns m i _)
  k_write_found (Alone u) v = k_gone

  k_on_variable : {A : Type 0} {m n : Act A} (f : Found) → Same m n → Same (on_variable f m) (on_variable f n)
  unfolding on_variable
  k_on_variable (InObject o x path) h = h
  k_on_variable (InVariable m i) h = h
  k_on_variable (Alone v) h = k_gone

  k_found_in : (m i : ℕ) (h : Content) → Same (found_in m i h) (found_in m i h)
  unfolding found_in
  k_found_in m i Nothing = k_gone
  k_found_in m i (Holds o) = k_done _
  k_found_in m i (Binds o x path) = k_done _
  k_found_in m i (Copies v) = k_done _
  k_found_in m i (Gathers n) = k_gone

  k_find_var : (c : Category) (env : List ℕ) (v : Var) → Same (find_var c env v) (find_var c env v)
  unfolding find_var
  k_find_var Elementary env v = k_done _
  k_find_var Composite env v = closed.looks (λ w. k_found_in _ _ _)

  k_dereferenced : (n : ℕ) → Same (dereferenced n) (dereferenced n)
  unfolding dereferenced
  k_dereferenced zero = k_raise _
  k_dereferenced (suc n) = k_then (k_must_exist (suc n)) (k_done _)

  k_or_constraint_error : (o : Option ℕ) → Same (or_constraint_error o) (or_constraint_error o)
  unfolding or_constraint_error
  k_or_constraint_error None = k_raise _
  k_or_constraint_error (Some n) = k_done _

  k_with_mark_pool : {A : Type 0} (n : ℕ) {f g : MarkPoolRecord → Act A} → ((p : MarkPoolRecord) → Same (f p) (g p)) → Same (with_mark_pool n f) (with_mark_pool n g)
  unfolding with_mark_pool
  k_with_mark_pool n h = closed.looks (λ w. k_on_some _ k_gone (λ p. k_either _ (h p) k_gone))

  k_default_subpool : (n : ℕ) → Same (default_subpool n) (default_subpool n)
  unfolding default_subpool
  k_default_subpool n = k_with_mark_pool n (λ p. k_done _)

  k_subpool_function : (x : SubpoolFunction) (n : ℕ) → Same (subpool_function x n) (subpool_function x n)
  unfolding subpool_function mark
  k_subpool_function Mark n = k_seq (k_with_mark_pool n (λ p. k_either _ (closed.looks (λ w. k_then (closed.changes (stores _)) (k_done _))) (k_raise _))) (λ s. k_done _)
  k_subpool_function DefaultOf n = k_seq (k_default_subpool n) (λ s. k_done _)

  k_discriminant : (n i : ℕ) → Same (discriminant n i) (discriminant n i)
  unfolding discriminant
  k_discriminant n i = closed.looks (λ w. k_on_some _ (k_on_some _ k_gone (λ p. k_done _)) (λ p. k_done _))

  k_copied : (n : ℕ) (b : CopyStart) (f : Found) → Same (copied n b f) (copied n b f)
  unfolding copied
  k_copied n CopyStartOf.TheVariants.Actual f = k_read_found n f
  k_copied n CopyStartOf.TheVariants.Beginning f = k_done _

  k_bound : (f : Found) → Same (bound f) (bound f)
  unfolding bound
  k_bound (InObject o x path) = k_done _
  k_bound (InVariable m i) = closed.looks (λ w. k_done _)
  k_bound (Alone v) = k_done _

  pub k_by_reference : (f : Found) → Same (by_reference f) (by_reference f)
  unfolding by_reference
  k_by_reference f = k_seq (k_bound f) (λ x. k_done _)

  pub k_by_copy : (n : ℕ) (b : CopyStart) (f : Found) → Same (by_copy n b f) (by_copy n b f)
  unfolding by_copy
  k_by_copy n b f = k_on_variable f (k_seq (k_copied n b f) (λ v. k_done _))

  k_copy_back : (ss : List Slot) (bs : List (ℕ × Found)) → Same (copy_back ss bs) (copy_back ss bs)
  unfolding copy_back
  k_copy_back ss [] = k_nothing
  k_copy_back ss (b ∷ bs) = k_then (k_write_found b.1 _) (k_copy_back ss bs)

  k_narrowed : (u : ℕ) (f : Found) → Same (narrowed k u f) (narrowed j u f)
  unfolding narrowed
  k_narrowed u f = k_existing _ (λ o. k_either _ (k_done _) (k_raise _))

  k_one_step : (s : Step) (f : Found) → Same (one_step k s f) (one_step j s f)
  unfolding one_step
  k_one_step (Component u position) f = k_done _
  k_one_step (Narrow u) f = k_narrowed u f
  k_one_step Dereference f = k_seq (k_read_found 1 f) (λ v. k_dereferenced _)

  k_walk : (ss : List Step) (f : Found) → Same (walk k ss f) (walk j ss f)
  unfolding walk
  k_walk [] f = k_done f
  k_walk (s ∷ ss) f = k_seq (k_ticked (k_one_step s f)) (λ g. k_walk ss g)

  -- What holds of the parts of a program ----------------------------------------------

  abbrev pub GoodValue : Valued → Type 0
  GoodValue e = (env : List ℕ) → Same (e k env) (e j env)

  abbrev pub GoodName : Naming → Type 0
  GoodName n = (c : Category) (env : List ℕ) → Same (n c k env) (n c j env)

  abbrev pub GoodOperand : Applied → Type 0
  GoodOperand o = (env v : List ℕ) → Same (o k env v) (o j env v)

  abbrev pub GoodActual : Supplied → Type 0
  GoodActual a = ((env : List ℕ) → Same (a.source k env) (a.source j env)) × ((f : Found) → Same (a.taken k f) (a.taken j f))

  -- what is said of expressions
  abbrev pub of_expressions : OfExpressions
  of_expressions = record { Value = GoodValue; Name = GoodName; Operand = GoodOperand; Actual = GoodActual }

  -- bodies are called alike
  abbrev pub CallAlike : Caller → Caller → Type 0
  CallAlike from to = (f : ℕ) (ss : List Slot) (env : List ℕ) → Same (from (OfSubprogram f ss) env) (to (OfSubprogram f ss) env)

  -- a subprogram's body, and an allocator with what it takes from the clock
  abbrev pub Calls : Type 0
  Calls = CallAlike call spare

  abbrev pub Allocates : Type 0
  Allocates = (env : List ℕ) (access : ℕ) (ty : Ty) (m n : Act (Option (List ℕ) × Option (List ℕ))) → Same m n → Same (spend (m >>= (λ p. call (OfAllocator access ty p.0 p.1) env))) (spend (n >>= (λ p. spare (OfAllocator access ty p.0 p.1) env)))

  abbrev pub Starts : Type 0
  Starts = (u position : ℕ) (env : List ℕ) → Same (default u position env) (fallback u position env)

  -- Finalize and Adjust ---------------------------------------------------------------

  k_with_home : {A : Type 0} (n : ℕ) {f g : List ℕ → Act A} → ((d : List ℕ) → Same (f d) (g d)) → Same (with_home n f) (with_home n g)
  unfolding with_home
  k_with_home n h = k_existing n (λ o. closed.looks (λ w. h _))

  -- whichever calls they make of bodies: those of an assignment are among the masters of its statement
  module _ (from to : Caller) (calls : CallAlike from to) where
    abbrev one : Tools
    one = record k { call = from }

    abbrev two : Tools
    two = record j { call = to }

    k_call_operation : (s : Spot) (o : Option ℕ) (e : Event) → Same (call_operation one s o e) (call_operation two s o e)
    unfolding call_operation
    k_call_operation s None e = k_ticked (k_must_exist _)
    k_call_operation s (Some f) e = k_with_home _ (λ d. k_then (k_then (closed.shows e) (calls _ _ d)) k_nothing)

    k_after_finalize : (cause : Cause) (r : Tried Done) → Same (after_finalize cause r) (after_finalize cause r)
    unfolding after_finalize
    k_after_finalize CauseOf.TheVariants.Scope (Fine a) = k_done _
    k_after_finalize CauseOf.TheVariants.Scope (Raised e) = k_done _
    k_after_finalize CauseOf.TheVariants.Collection (Fine a) = k_done _
    k_after_finalize CauseOf.TheVariants.Collection (Raised e) = k_done _
    k_after_finalize CauseOf.TheVariants.Free (Fine a) = k_done _
    k_after_finalize CauseOf.TheVariants.Free (Raised e) = k_done _
    k_after_finalize CauseOf.TheVariants.Subpool (Fine a) = k_done _
    k_after_finalize CauseOf.TheVariants.Subpool (Raised e) = k_done _
    k_after_finalize CauseOf.TheVariants.Assign (Fine a) = k_done _
    k_after_finalize CauseOf.TheVariants.Assign (Raised e) = k_raise _
    k_after_finalize CauseOf.TheVariants.Failed (Fine a) = k_done _
    k_after_finalize CauseOf.TheVariants.Failed (Raised e) = k_done _

    k_own_finalize : (cause : Cause) (want : Chosen) (s : Spot) (u : ℕ) → Same (own_finalize one cause want s u) (own_finalize two cause want s u)
    unfolding own_finalize
    k_own_finalize cause want s u = k_either _ (k_seq (k_attempt (k_call_operation s _ _)) (λ r. k_after_finalize cause r)) (k_done _)

    k_in_any_order : (f g : Placed → Act Bool) → ((p : Placed) → Same (f p) (g p)) → (n : ℕ) (left : List Placed) (b : Bool) → Same (in_any_order one f n left b) (in_any_order two g n left b)
    unfolding in_any_order
    k_in_any_order f g h zero left b = k_done b
    k_in_any_order f g h (suc n) left b = k_seq (k_choose (suc n)) (λ i. k_seq (h (pull_item no_component i left)) (λ c. k_in_any_order f g h n (pull_rest i left) (b || c)))

    k_finalize_part : (cause : Cause) (want : Chosen) (n : ℕ) (s : Spot) (u : ℕ) → Same (finalize_part one cause want n s u) (finalize_part two cause want n s u)
    unfolding finalize_part own_finalize parts_to_finalize
    k_finalize_part cause want zero s u = k_done _
    k_finalize_part cause want (suc n) s u =
        k_ticked (k_seq (k_own_finalize cause want s u) (λ b. k_in_any_order _ _ (λ p. k_of_record p.ty (k_done _) (λ x. k_finalize_part cause want n (component_at s p) x)) _ _ b))

    k_finalize : (cause : Cause) (want : Chosen) (s : Spot) (u : ℕ) → Same (finalize one cause want s u) (finalize two cause want s u)
    unfolding finalize
    k_finalize cause want s u = k_finalize_part cause want (depth t) s u

    k_finalize_failed : (paths : List (List ℕ)) (s : Spot) (u : ℕ) → Same (finalize_failed one paths s u) (finalize_failed two paths s u)
    unfolding finalize_failed
    k_finalize_failed paths s u = k_seq (k_finalize _ (These paths) s u) (λ b. k_then (k_when _ (closed.changes (ends _))) (k_done b))

    k_lives : (b : Birth) (s : Spot) (u : ℕ) → Same (lives one b s u) (lives two b s u)
    unfolding lives
    k_lives b s u = k_either _ (closed.shows _) k_nothing

    k_lives_if : (b : Option Birth) (s : Spot) (u : ℕ) → Same (lives_if one b s u) (lives_if two b s u)
    unfolding lives_if
    k_lives_if None s u = k_nothing
    k_lives_if (Some b) s u = k_lives b s u

    k_adjust_each : (f g : Placed → Adjusted → Act Adjusted) → ((p : Placed) (a : Adjusted) → Same (f p a) (g p a)) → (n : ℕ) (left : List Placed) (a : Adjusted) → Same (adjust_each one f n left a) (adjust_each two g n left a)
    unfolding adjust_each
    k_adjust_each f g h zero left a = k_done a
    k_adjust_each f g h (suc n) left a = k_seq (k_choose (suc n)) (λ i. k_seq (k_ticked (h _ a)) (λ b. k_adjust_each f g h n (pull_rest i left) b))

    k_after_adjust : (x : Option Birth) (s : Spot) (u : ℕ) (a : Adjusted) (r : Tried Done) → Same (after_adjust one x s u a r) (after_adjust two x s u a r)
    unfolding after_adjust
    k_after_adjust x s u a (Fine y) = k_then (k_lives_if x s u) (k_done _)
    k_after_adjust x s u a (Raised e) = k_done _

    k_own_adjust : (x : Option Birth) (s : Spot) (u : ℕ) (a : Adjusted) → Same (own_adjust one x s u a) (own_adjust two x s u a)
    unfolding own_adjust
    k_own_adjust x s u a = k_either _ (k_seq (k_attempt (k_call_operation s _ _)) (λ r. k_after_adjust x s u a r)) (k_done a)

    k_adjust_part : (x : Option Birth) (n : ℕ) (s : Spot) (u : ℕ) (a : Adjusted) → Same (adjust_part one x n s u a) (adjust_part two x n s u a)
    unfolding adjust_part own_adjust controlled_parts
    k_adjust_part x zero s u a = k_done a
    k_adjust_part x (suc n) s u a =
        k_seq (k_adjust_each _ _ (λ p b. k_of_record p.ty (k_done b) (λ v. k_adjust_part x n (component_at s p) v b)) _ _ a) (λ b. k_own_adjust x s u b)

    k_adjust : (x : Option Birth) (s : Spot) (ty : Ty) → Same (adjust one x s ty) (adjust two x s ty)
    unfolding adjust adjust_record adjusted clean_up_copy
    k_adjust x s ty =
        k_of_record ty k_nothing (λ u. k_seq (k_adjust_part x (depth t) s u unadjusted)
        (λ a. k_either a.failed (k_then (k_when _ (k_then (k_then (k_when _ (closed.changes (begins _))) (k_finalize_failed a.paths s u)) k_nothing)) (k_raise _)) k_nothing))

  module _ (calls : Calls) (allocates : Allocates) where
    -- Expressions ---------------------------------------------------------------

    k_call_with : (env : List ℕ) (f : ℕ) (p : Passed) → Same (call_with k env f p) (call_with j env f p)
    unfolding call_with
    k_call_with env f p = k_seq (calls f p.slots env) (λ r. k_then (k_copy_back r.slots p.back) (k_done r))

    k_var_part : (c : Category) (env : List ℕ) (v : Var) → Same (var_part c env v) (var_part c env v)
    unfolding var_part
    k_var_part c env v = k_ticked (k_find_var c env v)

    k_pass_each : (env : List ℕ) (xs : List Supplied) → Each GoodActual xs → (p : Passed) → Same (pass_each k env xs p) (pass_each j env xs p)
    unfolding pass_each
    k_pass_each env [] h p = k_done p
    k_pass_each env (a ∷ rest) h p = k_seq (k_ticked (k_seq (h.0.0 env) (λ f. h.0.1 f))) (λ x. k_pass_each env rest h.1 (with_formal x p))

    k_apply_each : (env : List ℕ) (os : List Applied) → Each GoodOperand os → (v : List ℕ) → Same (apply_each k env os v) (apply_each j env os v)
    unfolding apply_each
    k_apply_each env [] h v = k_done v
    k_apply_each env (o ∷ rest) h v = k_seq (h.0 env v) (λ u. k_apply_each env rest h.1 u)

    k_join_each : (env : List ℕ) (op : Shortcut) (es : List Valued) → Each GoodValue es → (v : List ℕ) → Same (join_each k env op es v) (join_each j env op es v)
    unfolding join_each
    k_join_each env op [] h v = k_done v
    k_join_each env op (e ∷ rest) h v = k_seq (k_ticked (k_either _ (k_done v) (h.0 env))) (λ u. k_join_each env op rest h.1 u)

    k_if_given : (env : List ℕ) (o : Option Valued) → IfSome GoodValue o → Same (if_given (λ e. e k env) o) (if_given (λ e. e j env) o)
    unfolding if_given
    k_if_given env None h = k_done _
    k_if_given env (Some e) h = k_seq (h env) (λ v. k_done _)

    k_operands : (env : List ℕ) (x y : Option Valued) → IfSome GoodValue x → IfSome GoodValue y → Same (operands k env x y) (operands j env x y)
    unfolding operands
    k_operands env x y h i = k_seq (k_if_given env x h) (λ a. k_seq (k_if_given env y i) (λ b. k_done _))

    k_by_value : (c : Category) (f : Found) → Same (by_value c f) (by_value c f)
    unfolding by_value
    k_by_value Elementary f = k_seq (k_read_found 1 f) (λ v. k_done _)
    k_by_value Composite f = k_by_reference f

    -- each layer of an expression is related where its parts are
    pub expressions : Expressions of_expressions
    unfolding eval_step allocator operand_step name_step actual_step
    expressions = record {
      constant = λ n env. k_ticked (k_done _);
      read = λ n ty h env. k_ticked (k_seq (h (category_of ty) env) (λ f. k_read_found _ f));
      call = λ f xs ty h env. k_ticked (k_seq (k_seq (k_pass_each env xs h no_actuals) (λ p. k_call_with env f p)) (λ r. k_read_found _ (Alone r.cells)));
      unary = λ op ty e h env. k_ticked (k_seq (h env) (λ v. k_or_constraint_error _));
      chain = λ e o os h i l env. k_seq (h env) (λ v. k_apply_each env (o ∷ os) (i, l) v);
      short = λ op e f es h i l env. k_seq (h env) (λ v. k_join_each env op (f ∷ es) (i, l) v);
      convert = λ ty e h env. k_ticked (k_seq (h env) (λ v. k_or_constraint_error _));
      access = λ v env. k_ticked (k_seq (k_var_part Composite env v) (λ f. k_done _));
      new = λ access ty x y h i env. k_ticked (k_seq (allocates env access ty _ _ (k_operands env x y h i)) (λ r. k_done _));
      subpool = λ which n h env. k_ticked (k_seq (h Composite env) (λ f. k_subpool_function which _));
      discriminant = λ n i h env. k_ticked (k_seq (h Composite env) (λ f. k_discriminant _ i));
      operand = λ op ty e h env v. k_ticked (k_seq (h env) (λ u. k_or_constraint_error _));
      variable = λ v ss c env. k_seq (k_var_part (begins_as ss c) env v) (k_walk ss);
      given = λ e ss h c env. k_seq (k_seq (h env) (λ v. k_done _)) (k_walk ss);
      by_value = λ e ty h. (λ env. k_seq (h env) (λ v. k_done _), k_by_value (category_of ty));
      part = λ n ty h. (λ env. k_ticked (h Composite env), k_by_reference);
      copied = λ n ty b h. (λ env. k_ticked (h (category_of ty) env), λ f. k_by_copy _ b f);
    }

    -- Objects ----------------------------------------------------------------------

    -- the finalization of an object begins with no default
    pub k_finalize_begun : (cause : Cause) (m : Member) → Same (finalize_begun k cause m) (finalize_begun j cause m)
    unfolding finalize_begun
    k_finalize_begun cause m = k_seq (k_of_record m.ty (k_done _) (λ u. k_finalize call spare calls cause Every (whole m.number) u)) (λ b. k_then (closed.changes (ends _)) (k_done b))

    k_finalize_object : (cause : Cause) (m : Member) → Same (finalize_object k cause m) (finalize_object j cause m)
    unfolding finalize_object
    k_finalize_object cause m = k_then (k_then (k_must_exist _) (closed.changes (begins _))) (k_finalize_begun cause m)

    k_finalize_group : (cause : Cause) (g : Group) → Same (finalize_group k cause g) (finalize_group j cause g)
    k_finalize_group cause g = closed.finishes call spare default fallback cause g (k_finalize_begun cause)

    module _ (values : Starts) where
      -- Initialize ----------------------------------------------------------------

      k_begin_next : (ps more : List (List ℕ)) (f g : List (List ℕ) → Act Begun) → ((qs : List (List ℕ)) → Same (f qs) (g qs)) → (r : Tried Done) → Same (begin_next ps f more r) (begin_next ps g more r)
      unfolding begin_next
      k_begin_next ps more f g h (Fine a) = h (ps ++ more)
      k_begin_next ps more f g h (Raised e) = k_done _

      k_begin_each : (s : Spot) (f g : Placed → Act Done) → ((p : Placed) → Same (f p) (g p)) → (n : ℕ) (left : List Placed) (ps : List (List ℕ)) → Same (begin_each k s f n left ps) (begin_each j s g n left ps)
      unfolding begin_each begun_with begin_next paths_of paths_within
      k_begin_each s f g h zero left ps = k_done _
      k_begin_each s f g h (suc n) left ps =
          k_seq (k_choose (suc n)) (λ i. k_seq (k_attempt (k_ticked (h _))) (λ r. k_begin_next ps _ _ _ (λ qs. k_begin_each s f g h n (pull_rest i left) qs) r))

      k_own_initialize : (s : Spot) (u : ℕ) (ps : List (List ℕ)) → Same (own_initialize k s u ps) (own_initialize j s u ps)
      unfolding own_initialize begun_with
      k_own_initialize s u ps = k_either _ (k_seq (k_attempt (k_call_operation call spare calls s _ _)) (λ r. k_begin_next ps [] _ _ (λ qs. k_done _) r)) (k_done _)

      k_unless_failed : (f g : List (List ℕ) → Act Begun) → ((ps : List (List ℕ)) → Same (f ps) (g ps)) → (b : Begun) → Same (unless_failed f b) (unless_failed g b)
      unfolding unless_failed
      k_unless_failed f g h b = k_on_some b.failure (h b.paths) (λ e. k_done b)

      k_failed_with : (e : ℕ) (b : Bool) → Same (failed_with e b) (failed_with e b)
      unfolding failed_with
      k_failed_with e true = k_raise _
      k_failed_with e false = k_raise _

      k_begun : (b : Birth) (s : Spot) (u : ℕ) (x : Begun) → Same (begun k b s u x) (begun j b s u x)
      unfolding begun clean_up
      k_begun b s u x =
          k_on_some x.failure (k_when _ (k_lives call spare calls b s u))
          (λ e. k_seq (k_then (closed.changes (begins _)) (k_finalize_failed call spare calls x.paths s u)) (λ c. k_failed_with e c))

      k_begin_component : (b : Birth) (f g : Spot → ℕ → Act Done) → ((s : Spot) (u : ℕ) → Same (f s u) (g s u)) → (s : Spot) (u : ℕ) (p : Placed) → Same (begin_component k b f s u p) (begin_component j b g s u p)
      unfolding begin_component
      k_begin_component b f g h s u p =
          k_either _ (k_then (k_seq (values u _ b.home) (λ v. k_write_part _ _ v)) (k_adjust call spare calls (Some b) (component_at s p) p.ty))
          (k_of_record p.ty k_nothing (λ x. h _ x))

      k_initialize_part : (b : Birth) (n : ℕ) (s : Spot) (u : ℕ) → Same (initialize_part k b n s u) (initialize_part j b n s u)
      unfolding initialize_part begin_component unless_failed begun parts_to_begin
      k_initialize_part b zero s u = k_nothing
      k_initialize_part b (suc n) s u =
          k_seq (k_seq (k_begin_each s _ _ (λ p. k_begin_component b _ _ (λ s1 u1. k_initialize_part b n s1 u1) s u p) _ _ []) (λ x. k_unless_failed _ _ (λ ps. k_own_initialize s u ps) x))
          (λ x. k_begun b s u x)

      k_fill : (b : Birth) (n : ℕ) (ty : Ty) (v : Option (List ℕ)) → Same (fill k b n ty v) (fill j b n ty v)
      unfolding fill initialize
      k_fill b n ty v =
          k_then (k_on_some v (k_of_record ty k_nothing (λ u. k_initialize_part b (depth t) (whole n) u)) (λ x. k_then (k_write_part n 0 x) (k_adjust call spare calls (Some b) (whole n) ty))) (k_must_exist n)

      -- Storage -----------------------------------------------------------------------

      k_with_block_pool : {A : Type 0} (n : ℕ) {f g : BlockPoolRecord → Act A} → ((p : BlockPoolRecord) → Same (f p) (g p)) → Same (with_block_pool n f) (with_block_pool n g)
      unfolding with_block_pool
      k_with_block_pool n h = closed.looks (λ w. k_on_some _ k_gone (λ p. k_either _ (h p) k_gone))

      k_library_allocate : (n size : ℕ) → Same (library_allocate n size) (library_allocate n size)
      unfolding library_allocate
      k_library_allocate n size = k_with_block_pool n (λ p. k_either _ (k_raise _) (closed.looks (λ w. k_then (closed.changes (stores _)) (k_done _))))

      k_library_deallocate : (n a : ℕ) → Same (library_deallocate n a) (library_deallocate n a)
      unfolding library_deallocate
      k_library_deallocate n a = k_with_block_pool n (λ p. closed.looks (λ w. k_either _ (closed.changes (stores _)) (closed.stops _)))

      k_tested : (n size a : ℕ) → Same (tested n size a) (tested n size a)
      unfolding tested
      k_tested n size a = k_with_block_pool n (λ p. closed.looks (λ w. k_either _ (k_done _) (closed.stops _)))

      k_user_allocate : (n size f : ℕ) → Same (user_allocate k n size f) (user_allocate j n size f)
      unfolding user_allocate
      k_user_allocate n size f = k_either _ (k_raise _) (k_seq (k_then (closed.shows _) (k_with_home n (λ d. calls _ _ d))) (λ r. k_tested n size _))

      k_block_storage : (n size : ℕ) → Same (block_storage k n size) (block_storage j n size)
      unfolding block_storage
      k_block_storage n size = k_seq (k_existing n (λ o. k_on_some _ (k_library_allocate n size) (λ f. k_user_allocate n size f))) (λ a. k_done _)

      k_give_back : (n a size : ℕ) → Same (give_back k n a size) (give_back j n a size)
      unfolding give_back
      k_give_back n a size = k_existing n (λ o. k_on_some _ (k_library_deallocate n a) (λ f. k_then (k_then (closed.shows _) (k_with_home n (λ d. calls _ _ d))) k_nothing))

      k_subpool_storage : (n s size : ℕ) → Same (subpool_storage n s size) (subpool_storage n s size)
      unfolding subpool_storage room_in
      k_subpool_storage n s size =
          closed.looks (λ w. k_on_some _ (closed.stops _) (λ x. k_on_some _ k_gone (λ p. k_either _ (k_either _ (k_raise _) (k_then (closed.changes (stores _)) (k_done _))) (k_raise _))))

      k_dropped : (n s : ℕ) (b : Bool) (p : MarkPoolRecord) → Same (dropped n s b p) (dropped n s b p)
      unfolding dropped
      k_dropped n s b p = k_either _ (k_then (closed.looks (λ w. closed.counts _ (closed.changes (stores _)))) (k_done b)) (k_then (closed.changes (stores _)) (k_done true))

      k_release : (m : Act Done) → Same m m → (s : ℕ) → Same (release k m s) (release j m s)
      unfolding release release_from
      k_release m h s =
          closed.looks (λ w. k_on_some _ (closed.stops _) (λ x. k_either _ (closed.stops _) (k_either _ (closed.stops _)
          (k_seq (k_then (closed.changes (stores _)) (k_finalize_group _ _))
          (λ b. k_then (k_then (closed.looks (λ w1. closed.counts _ (closed.changes (empties _)))) h) (closed.looks (λ w2. k_on_some _ k_gone (λ p. k_dropped _ s b p))))))))

      k_program_error_if : (b : Bool) → Same (program_error_if b) (program_error_if b)
      unfolding program_error_if
      k_program_error_if b = k_either b (k_raise _) k_nothing

      k_unchecked : (f : Found) → Same (unchecked_deallocate_subpool k f) (unchecked_deallocate_subpool j f)
      unfolding unchecked_deallocate_subpool
      k_unchecked f = k_seq (k_read_found 1 f) (λ v. k_either _ k_nothing (k_seq (k_release _ (k_write_found f _) _) (λ b. k_program_error_if b)))

      k_release_each : (ss : List ℕ) (b : Bool) → Same (release_each k ss b) (release_each j ss b)
      unfolding release_each
      k_release_each [] b = k_done b
      k_release_each (s ∷ ss) b = k_seq (closed.looks (λ w. k_either _ (k_release _ k_nothing s) (k_done _))) (λ c. k_release_each ss (b || c))

      k_shut_pool : (n : ℕ) → Same (shut_pool n) (shut_pool n)
      unfolding shut_pool
      k_shut_pool n = closed.looks (λ w. closed.counts _ (closed.changes (shuts n)))

      k_close_pool : (n : ℕ) → Same (close_pool k n) (close_pool j n)
      unfolding close_pool
      k_close_pool n =
          closed.looks (λ w. k_on_some _ (k_on_some _ (k_done _) (λ p. k_then (k_shut_pool n) (k_done _))) (λ p. k_seq (k_release_each _ false) (λ b. k_then (k_shut_pool n) (k_done b))))

      k_mark_storage : (n : ℕ) (h : Option (List ℕ)) (size : ℕ) → Same (mark_storage n h size) (mark_storage n h size)
      unfolding mark_storage
      k_mark_storage n None size = k_seq (k_default_subpool n) (λ s. k_subpool_storage n s size)
      k_mark_storage n (Some h) size = k_subpool_storage n _ size

      k_storage_in : (n : ℕ) (h : Option (List ℕ)) (size : ℕ) (r : Root) → Same (storage_in k n h size r) (storage_in j n h size r)
      unfolding storage_in
      k_storage_in n h size Untagged = k_block_storage n size
      k_storage_in n h size Controlled = k_block_storage n size
      k_storage_in n h size BlockPool = k_block_storage n size
      k_storage_in n h size MarkPool = k_mark_storage n h size

      k_storage : (env : List ℕ) (p : Option Var) (h : Option (List ℕ)) (size : ℕ) → Same (storage k env p h size) (storage j env p h size)
      unfolding storage
      k_storage env None h size = k_done _
      k_storage env (Some v) h size = k_seq (k_find_var Composite env v) (λ f. k_existing _ (λ o. k_storage_in _ h size _))

      -- Allocators and Free --------------------------------------------------------------

      k_created_or_gone : (n : ℕ) (r : Tried Done) → Same (created_or_gone n r) (created_or_gone n r)
      unfolding created_or_gone
      k_created_or_gone n (Fine a) = k_done n
      k_created_or_gone n (Raised e) = k_then (closed.counts _ (closed.changes (forgets n))) (k_raise e)

      k_created : (set : ℕ) (ty : Ty) (v : Option (List ℕ)) (p : Place) → Same (created k set ty v p) (created j set ty v p)
      unfolding created
      k_created set ty v p = closed.looks (λ w. k_seq (k_then (closed.changes (creates_at ty _ set p)) (k_attempt (k_fill _ _ ty v))) (λ r. k_created_or_gone _ r))

      k_with_set : {A : Type 0} (env : List ℕ) (a : AccessType) {f g : ℕ → Act A} → ((n : ℕ) → Same (f n) (g n)) → Same (with_set env a f) (with_set env a g)
      unfolding with_set
      k_with_set env a h = closed.looks (λ w. h _)

      k_allocate_for : (env : List ℕ) (ty : Ty) (h v : Option (List ℕ)) (a : AccessType) → Same (allocate_for k env ty h v a) (allocate_for j env ty h v a)
      unfolding allocate_for
      k_allocate_for env ty h v a =
          k_with_set env a (λ set. closed.looks (λ w. k_on_some _ k_gone (λ c. k_either _ (k_raise _) (k_seq (k_storage env a.pool h _) (λ p. k_created set ty v p)))))

      pub k_allocate : (env : List ℕ) (a : ℕ) (ty : Ty) (h v : Option (List ℕ)) → Same (allocate k env a ty h v) (allocate j env a ty h v)
      unfolding allocate
      k_allocate env a ty h v = k_either _ (k_raise _) (k_on_some _ k_gone (λ b. k_allocate_for env ty h v b))

      k_returns_storage : (ty : Ty) (x : Origin) → Same (returns_storage k ty x) (returns_storage j ty x)
      unfolding returns_storage
      k_returns_storage ty (Declared m) = k_nothing
      k_returns_storage ty (Allocated s Standard) = k_nothing
      k_returns_storage ty (Allocated s (InBlock p a)) = k_give_back p a _
      k_returns_storage ty (Allocated s (InSubpool x)) = k_nothing

      k_free_object : (f : Found) (set : ℕ) (o : Object) → Same (free_object k f set o) (free_object j f set o)
      unfolding free_object finalize_unfinalized freed
      k_free_object f set o =
          k_either _ (closed.stops _) (k_either _ (closed.stops _) (k_seq (k_either _ (k_finalize_object _ _) (k_done _))
          (λ b. k_then (k_then (k_then (k_write_found f _) (closed.counts _ (closed.changes (forgets _)))) (k_returns_storage _ _)) (k_program_error_if b))))

      k_free : (env : List ℕ) (a : ℕ) (f : Found) → Same (free k env a f) (free j env a f)
      unfolding free free_value
      k_free env a f = k_on_variable f (k_seq (k_read_found 1 f) (λ v. k_either _ k_nothing (k_existing _ (λ o. k_on_some _ k_gone (λ b. k_with_set env b (λ set. k_free_object f set o))))))

      -- Masters --------------------------------------------------------------------------

      k_finalize_layer : (x : Layer) → Same (finalize_layer k x) (finalize_layer j x)
      unfolding finalize_layer finalize_declared finalize_sets finalize_if_controlled
      k_finalize_layer (Single n) = k_existing n (λ o. k_seq (k_either _ (k_finalize_object _ _) (k_done _)) (λ a. k_seq (k_close_pool _) (λ b. k_done _)))
      k_finalize_layer (Sets xs) = k_then (closed.counts _ (closed.changes (starts xs))) (k_finalize_group _ _)

      k_leave_layers : (m : ℕ) (xs : List Layer) (b : Bool) → Same (leave_layers k m xs b) (leave_layers j m xs b)
      unfolding leave_layers
      k_leave_layers m [] b = k_done b
      k_leave_layers m (x ∷ xs) b = k_seq (k_ticked (k_then (closed.changes (takes m)) (k_finalize_layer x))) (λ c. k_leave_layers m xs (b || c))

      k_leave_master : (m : ℕ) (r : Result Done) → Same (leave k m r) (leave j m r)
      unfolding leave left
      k_leave_master m r =
          k_ticked (k_seq (closed.looks (λ w. k_leave_layers m _ false)) (λ b. closed.looks (λ w. k_then (k_then (closed.counts _ (closed.changes (closes m))) (k_program_error_if b)) (k_done _))))

      k_in_master : (env : List ℕ) (ss : List Slot) (f g : List ℕ → Act Done) → ((d : List ℕ) → Same (f d) (g d)) → Same (in_master k env ss f) (in_master j env ss g)
      unfolding in_master
      k_in_master env ss f g h = closed.looks (λ w. k_then (closed.changes (opens env ss)) (closed.joins (h _) (λ r. k_leave_master _ r)))

      k_declare : (c : Category) (m slot : ℕ) (ty : Ty) (v : Option (List ℕ)) → Same (declare c k m slot ty v) (declare c j m slot ty v)
      unfolding declare
      k_declare Elementary m slot ty v = k_then (closed.changes numbers) (closed.changes (assigns m slot _))
      k_declare Composite m slot ty v =
          closed.looks (λ w. k_then (k_then (k_then (closed.changes (creates ty _ _)) (closed.changes (sets m slot _))) (k_fill _ _ ty v)) (closed.changes (layers m _)))

      k_gather_each : (m : ℕ) (accesses found : List ℕ) → Same (gather_each k m accesses found) (gather_each j m accesses found)
      unfolding gather_each gather
      k_gather_each m [] found = closed.changes (layers m _)
      k_gather_each m (a ∷ more) found =
          k_seq (k_ticked (k_on_some _ k_gone (λ x. closed.looks (λ w. k_then (closed.changes (gathers m _ _)) (k_done _))))) (λ n. k_gather_each m more (found ++ n ∷ []))

      -- Items ------------------------------------------------------------------------------

      abbrev pub GoodItem : Elaborating → Type 0
      GoodItem x = (env : List ℕ) (m : ℕ) → Same (x k env m) (x j env m)

      abbrev GoodAssociation : ℕ × Valued → Type 0
      GoodAssociation x = GoodValue x.1

      k_discriminants : (env : List ℕ) (xs : List (ℕ × Valued)) → Each GoodAssociation xs → (d : ℕ × ℕ) → Same (discriminants k env xs d) (discriminants j env xs d)
      unfolding discriminants
      k_discriminants env [] h d = k_done d
      k_discriminants env (x ∷ xs) h d = k_seq (h.0 env) (λ v. k_discriminants env xs h.1 _)

      k_open_pool : (r : Root) (n : ℕ) (d : ℕ × ℕ) → Same (open_pool r n d) (open_pool r n d)
      unfolding open_pool
      k_open_pool Untagged n d = closed.changes (stores _)
      k_open_pool Controlled n d = closed.changes (stores _)
      k_open_pool BlockPool n d = closed.changes (stores _)
      k_open_pool MarkPool n d = closed.changes (stores _)

      k_pool_or_closed : (m n : ℕ) (r : Tried Done) → Same (pool_or_closed m n r) (pool_or_closed m n r)
      unfolding pool_or_closed
      k_pool_or_closed m n (Fine a) = closed.changes (layers m _)
      k_pool_or_closed m n (Raised e) = k_then (closed.changes (shuts _)) (k_raise e)

      k_declare_pool : (m slot u : ℕ) (d : ℕ × ℕ) → Same (declare_pool k m slot u d) (declare_pool j m slot u d)
      unfolding declare_pool
      k_declare_pool m slot u d =
          k_either _ (closed.looks (λ w. k_seq (k_then (k_then (k_then (closed.changes (creates _ _ _)) (closed.changes (sets m slot _))) (k_open_pool _ _ d)) (k_attempt (k_fill _ _ (Record u) None))) (λ r. k_pool_or_closed m _ r))) (k_raise _)

      -- each item of a declarative part
      pub declarations : Declarations of_expressions GoodItem
      unfolding collections object pool silent
      declarations = record {
        collections = λ accesses env m. k_gather_each m accesses [];
        object = λ slot ty v h env m. k_ticked (k_seq (k_if_given env v h) (λ x. k_declare (category_of ty) m slot ty x));
        pool = λ slot u ds h env m. k_ticked (k_seq (k_discriminants env ds h (0, 0)) (λ d. k_declare_pool m slot u d));
        silent = λ env m. k_ticked k_nothing;
      }

      k_elaborate : (env : List ℕ) (m : ℕ) (xs : List Elaborating) → Each GoodItem xs → Same (elaborate k env m xs) (elaborate j env m xs)
      unfolding elaborate
      k_elaborate env m [] h = k_nothing
      k_elaborate env m (x ∷ xs) h = k_then (h.0 env m) (k_elaborate env m xs h.1)

      -- Statements -------------------------------------------------------------------------

      k_dispatch : (env : List ℕ) (op : Operation) (f : Found) → Same (dispatch k env op f) (dispatch j env op f)
      unfolding dispatch
      k_dispatch env op f = k_existing _ (λ o. k_on_some _ k_nothing (λ s. k_then (k_seq (k_by_reference f) (λ x. k_call_with env s _)) k_nothing))

      k_join_pieces : (env : List ℕ) (ps : List Valued) → Each GoodValue ps → (v : List ℕ) → Same (join_pieces k env ps v) (join_pieces j env ps v)
      unfolding join_pieces
      k_join_pieces env [] h v = k_done v
      k_join_pieces env (p ∷ ps) h v = k_seq (k_ticked (h.0 env)) (λ u. k_join_pieces env ps h.1 (v ++ u))

      k_text : (env : List ℕ) (ps : List Valued) → Each GoodValue ps → Same (eval_text k env ps) (eval_text j env ps)
      unfolding eval_text
      k_text env [] h = k_done _
      k_text env (p ∷ ps) h = k_seq (h.0 env) (λ v. k_join_pieces env ps h.1 v)

      -- each call of a body is among the masters of the statement
      abbrev around : Caller → List ℕ → Caller
      around calling env = λ x home. calling x env

      k_assign_record : (env : List ℕ) (u : ℕ) (f g : Found) → Same (assign_record k env u f g) (assign_record j env u f g)
      unfolding assign_record overwrite
      k_assign_record env u f g =
          let its : CallAlike (around call env) (around spare env) = λ n ss home. calls n ss env in
          k_seq (k_read_found _ g)
          (λ v. k_either _ k_nothing (k_on_variable f (k_then (k_then (k_when _ (k_then (k_finalize (around call env) (around spare env) its _ Every (spot_of f) u) k_nothing)) (k_write_found f v)) (k_adjust (around call env) (around spare env) its None (spot_of f) (Record u)))))

      k_leaving : {m n : Act Done} → Same m n → Same (leaving m) (leaving n)
      unfolding leaving
      k_leaving h = closed.joins h (λ r. k_ticked (closed.gives r))

      k_turned : {m n : Act Done} → Same m n → (r : Result Bool) → Same (turned m r) (turned n r)
      unfolding turned
      k_turned h (Goes true) = h
      k_turned h (Goes false) = k_nothing
      k_turned h (Leaves y) = closed.gives _

      k_one_turn : {m n : Act Done} → Same m n → Same (one_turn m) (one_turn n)
      unfolding one_turn
      k_one_turn h = closed.spends (k_ticked (k_then h (k_done _)))

      k_for_turns : (n : ℕ) (next : ℤ → ℤ) (f g : ℤ → Act Done) → ((z : ℤ) → Same (f z) (g z)) → (z : ℤ) → Same (for_turns n next f z) (for_turns n next g z)
      unfolding for_turns
      k_for_turns zero next f g h z = k_nothing
      k_for_turns (suc n) next f g h z = closed.joins (k_one_turn (h z)) (λ r. k_turned (k_for_turns n next f g h (next z)) r)

      k_for : (b : Direction) (f g : ℤ → Act Done) → ((z : ℤ) → Same (f z) (g z)) → (x y : ℤ) → Same (for b f x y) (for b g x y)
      unfolding for
      k_for Upward f g h x y = k_for_turns _ _ f g h x
      k_for Downward f g h x y = k_for_turns _ _ f g h y

      k_handled : (f g : ℕ → Act Done) → ((e : ℕ) → Same (f e) (g e)) → (r : Result Done) → Same (handled f r) (handled g r)
      unfolding handled
      k_handled f g h (Goes a) = k_nothing
      k_handled f g h (Leaves y) = k_on_some (raised_by y) (k_leave y) h

      k_scalar : {m n : Act (List ℕ)} {f g : ℕ → Act Done} → Same m n → ((i : ℕ) → Same (f i) (g i)) → Same (scalar m f) (scalar n g)
      unfolding scalar
      k_scalar h i = k_seq h (λ v. i _)

      k_set_loop : (env : List ℕ) (v : Var) (z : ℤ) → Same (set_loop env v z) (set_loop env v z)
      unfolding set_loop
      k_set_loop env v z = closed.changes (assigns _ _ _)

      -- What holds of statements ---------------------------------------------------------------

      abbrev pub GoodDoing : Doing → Type 0
      GoodDoing s = (env : List ℕ) (e : ℕ) → Same (s k env e) (s j env e)

      abbrev pub GoodGuard : Guarding → Type 0
      GoodGuard x = (env : List ℕ) (e : ℕ) (m n : Act Done) → Same m n → Same (x k env e m) (x j env e n)

      abbrev pub GoodBody : Body → Type 0
      GoodBody b = GoodDoing b.inside

      -- what is said of statements
      abbrev pub of_statements : OfStatements
      of_statements = record { Item = GoodItem; Statement = GoodDoing; Guard = GoodGuard; Master = GoodBody }

      k_each : (env : List ℕ) (e : ℕ) (ss : List Doing) → Each GoodDoing ss → Same (do_each k env e ss) (do_each j env e ss)
      unfolding do_each
      k_each env e [] h = k_nothing
      k_each env e (s ∷ ss) h = k_then (h.0 env e) (k_each env e ss h.1)

      k_first : (env : List ℕ) (e : ℕ) (xs : List Guarding) → Each GoodGuard xs → {m n : Act Done} → Same m n → Same (do_first k env e xs m) (do_first j env e xs n)
      unfolding do_first
      k_first env e [] h i = i
      k_first env e (x ∷ xs) h i = h.0 env e _ _ (k_first env e xs h.1 i)

      k_handle : (env : List ℕ) (xs : List Guarding) → Each GoodGuard xs → (e : ℕ) → Same (handle k env xs e) (handle j env xs e)
      unfolding handle
      k_handle env xs h e = k_first env e xs h (k_raise e)

      -- each layer of a statement
      pub statements : Statements of_expressions of_statements
      unfolding S.literal S.integer_text S.boolean_text S.null S.assign S.assign_part S.call S.call_nothing S.call_dispatching S.call_allocate S.call_deallocate S.put S.put_line S.new_line S.exit S.return S.raise_new S.raise_again S.choose_arm S.loop_plainly S.loop_while S.loop_for S.do_block S.free_object_of S.release_subpool S.guard S.handler S.within
      statements = record {
        literal = λ v env. k_ticked (k_done _);
        integer_text = λ e h env. k_ticked (k_seq (h env) (λ v. k_done _));
        boolean_text = λ e h env. k_ticked (k_seq (h env) (λ v. k_done _));
        null = λ env e. k_ticked k_nothing;
        assign = λ n v h i env e. k_ticked (k_seq (h Elementary env) (λ f. k_seq (i env) (λ x. k_write_found f x)));
        assign_part = λ n u a h i env e. k_ticked (k_seq (h Composite env) (λ f. k_seq (i.0 env) (λ g. k_assign_record env u f g)));
        call_statement = λ f xs h env e. k_ticked (k_then (k_seq (k_pass_each env xs h no_actuals) (λ p. k_call_with env f p)) k_nothing);
        call_nothing = λ n h env e. k_ticked (k_then (h Composite env) k_nothing);
        dispatching = λ op n h env e. k_ticked (k_seq (h Composite env) (λ f. k_dispatch env op f));
        call_allocate = λ p a size al h i l m env e. k_ticked (k_seq (h Composite env) (λ f. k_seq (i Elementary env) (λ g. k_scalar (l env) (λ s. k_seq (k_then (m env) (k_library_allocate _ s)) (λ y. k_write_found g _)))));
        call_deallocate = λ p a size al h i l m env e. k_ticked (k_seq (h Composite env) (λ f. k_scalar (i env) (λ y. k_then (k_then (l env) (m env)) (k_library_deallocate _ y))));
        put = λ ps h env e. k_ticked (k_seq (k_text env ps h) (λ v. closed.shows _));
        put_line = λ ps h env e. k_ticked (k_seq (k_text env ps h) (λ v. k_then (closed.shows _) (closed.shows _)));
        new_line = λ env e. k_ticked (closed.shows _);
        exit = elim [ None ↦ λ h env e. k_ticked (k_leave _) | Some x ↦ λ h env e. k_ticked (k_scalar (h env) (λ b. k_either _ (k_leave _) k_nothing)) ];
        return = elim [ None ↦ λ h env e. k_ticked (k_leave _) | Some x ↦ λ h env e. k_ticked (k_seq (h env) (λ v. k_leave _)) ];
        raise = λ x env e. k_ticked (k_raise _);
        raise_again = λ env e. k_ticked (k_raise _);
        choose_arm = λ xs ss h i env e. k_ticked (k_leaving (k_first env e xs h (k_each env e ss i)));
        loop = λ ss h env e. k_ticked (k_leaving (closed.repeats (k_each env e ss h)));
        while = λ v ss h i env e. k_ticked (k_leaving (closed.repeats_while (h env) (k_each env e ss i)));
        for = λ x way low high ss h i l env e. k_ticked (k_leaving (k_scalar (h env) (λ a. k_scalar (i env) (λ b. k_for way _ _ (λ z. k_then (k_set_loop env x z) (k_each env e ss l)) _ _))));
        block = λ b h env e. k_ticked (k_seq (k_in_master env _ _ _ (λ inner. h inner e)) (λ y. closed.gives y.result));
        free = λ a n h env e. k_ticked (k_seq (h Elementary env) (λ f. k_free env a f));
        release = λ n h env e. k_ticked (k_seq (h Elementary env) (λ f. k_unchecked f));
        guard = λ v ss h i env e m n x. k_scalar (h env) (λ b. k_either _ (k_each env e ss i) x);
        handler = λ choices ss h env e m n x. closed.counts _ (k_either _ (k_each env e ss h) x);
        within = λ slots xs ss hs h i l env e. k_then (k_elaborate env _ xs h) (closed.joins (k_each env e ss i) (λ r. k_handled _ _ (λ x. k_handle env hs l x) r));
        declarations = declarations;
      }

      -- Bodies -----------------------------------------------------------------------------

      k_returned : (b : SubprogramKind) (ss : List Slot) (r : Result Done) → Same (returned b ss r) (returned b ss r)
      unfolding returned
      k_returned b ss r = closed.gives _

      -- the body of a subprogram, if there is one of that number
      pub k_routine : (o : Option Routine) → IfSome (λ (s : Routine). GoodBody s.body) o → (env : List ℕ) (ss : List Slot) → Same (on_some o gone (run_routine k env ss)) (on_some o gone (run_routine j env ss))
      unfolding on_some run_routine
      k_routine None h env ss = k_gone
      k_routine (Some s) h env ss = k_seq (k_in_master _ _ _ _ (λ inner. h inner 0)) (λ x. k_returned s.kind x.slots x.result)
