-- What keeps the invariant by itself: joined acts, and what a name denotes, as it is read and written (4.1).
use Rattle.std.proofs.Common.{ℕ, zero, suc, List, [], ◌∷◌, Option, Some, None, Bool}
use Rattle.ctl_program.specs.declared.types.Var.{Var}
use Rattle.ctl_program.specs.declared.operators.CopyStart as CopyStartOf
use Rattle.ctl_program.specs.declared.operators.CopyStart.{CopyStart}
use Rattle.ctl_program.specs.declared.operators.SubpoolFunction.{SubpoolFunction}
use Rattle.ctl_program.specs.declared.operators.SubpoolFunction.TheVariants.{Mark, Default as DefaultOf}
use Rattle.ctl_program.specs.declared.expression.Step.{Step}
use Rattle.ctl_program.specs.declared.expression.Step.TheVariants.{Component, Dereference, Narrow}
use Rattle.ctl_tree.specs.declared.event.Event.{Event}
use Rattle.ctl_tree.specs.declared.ending.Stop.{Stop}
use Rattle.ctl_meaning.specs.World.{World, Object, Content, Nothing, Holds, Binds, Copies, Gathers, Slot, MarkPool as MarkPoolRecord}
use Rattle.ctl_meaning.specs.Changes.{object_at}
use Rattle.ctl_meaning.specs.Outcome.{Way, ByRaise, Result, Goes, Leaves, Act, Done, given, then_always, stop, counted, look, change, show, ◌>>=◌, ◌>>◌, done, nothing, leave_by, raise, ticked, spend, when, either, on_some}
use Rattle.ctl_meaning.specs.Types.{Tables, Category, Elementary, Composite}
use Rattle.ctl_meaning.specs.Names.{Tools, Found, InObject, InVariable, Alone, gone, existing, must_exist, read_part, write_part, on_variable, read_found, write_found, found_in, find_var, dereferenced, narrowed, one_step, walk, or_constraint_error}
use Rattle.ctl_meaning.specs.Marks.{with_mark_pool, mark, default_subpool, subpool_function, discriminant}
use Rattle.ctl_meaning.specs.Expressions.{bound, by_reference, copied, by_copy, copy_back}
use Rattle.ctl_orderly.proofs.Rules.{Good, as_well, sequence, gives, seq, then_do, stopped, counts, ticks, spends, looks, some_or, choice, whether}
use Rattle.ctl_orderly.proofs.Edits.{Numbered, Edits, changes, edit_writes, edit_value, edit_pools, Plain, shows_plain}

module _ {t : Tables} where
  -- Combinators ---------------------------------------------------------------

  pub keeps_gives : {A : Type 0} (r : Result A) → Good t (given r)
  keeps_gives r = gives r (λ tr w i q. tt)

  pub keeps_stops : {A : Type 0} (s : Stop) → Good t {A = A} (stop s)
  keeps_stops s = stopped s

  pub keeps_joins : {A B : Type 0} {m : Act A} {f : Result A → Act B} → Good t m → ((r : Result A) → Good t (f r)) → Good t (then_always m f)
  keeps_joins h g = sequence h g

  pub keeps_counts : {A : Type 0} (i : ℕ) {m : Act A} → Good t m → Good t (counted i m)
  keeps_counts i h = counts i h

  pub keeps_spends : {A : Type 0} {m : Act A} → Good t m → Good t (spend m)
  keeps_spends h = spends h

  pub keeps_looks : {A : Type 0} {f : World → Act A} → ((w : World) → Good t (f w)) → Good t (look f)
  keeps_looks h = looks (λ v. as_well (h v) (λ tr w i r. tt) (λ r tr w i q. tt))

  pub keeps_changes : {f : World → World} → ((w : World) → Numbered w → Edits w.ledger.next_master w (f w)) → Good t (change f)
  keeps_changes e = changes e (λ tr w i r. tt)

  pub keeps_shows : (e : Event) → Plain e → Good t (show e)
  keeps_shows e plain = shows_plain e plain

  pub keeps_leave : {A : Type 0} (y : Way) → Good t {A = A} (leave_by y)
  unfolding leave_by
  keeps_leave y = keeps_gives (Leaves y)

  pub keeps_raise : {A : Type 0} (e : ℕ) → Good t {A = A} (raise e)
  unfolding raise
  keeps_raise e = keeps_gives (Leaves (ByRaise e))

  pub keeps_done : {A : Type 0} (a : A) → Good t (done a)
  unfolding done
  keeps_done a = keeps_gives (Goes a)

  pub keeps_nothing : Good t nothing
  unfolding nothing
  keeps_nothing = keeps_gives (Goes tt)

  pub keeps_seq : {A B : Type 0} {m : Act A} {f : A → Act B} → Good t m → ((a : A) → Good t (f a)) → Good t (m >>= f)
  keeps_seq h g = seq h g (λ y tr w i q. tt)

  pub keeps_then : {A B : Type 0} {m : Act A} {n : Act B} → Good t m → Good t n → Good t (m >> n)
  keeps_then h g = then_do h (λ a. g) (λ y tr w i q. tt)

  pub keeps_ticked : {A : Type 0} {m : Act A} → Good t m → Good t (ticked m)
  keeps_ticked h = ticks h

  pub keeps_either : {A : Type 0} (b : Bool) {m n : Act A} → Good t m → Good t n → Good t (either b m n)
  keeps_either b h g = choice b (λ e. h) (λ e. g)

  pub keeps_when : (b : Bool) {m : Act Done} → Good t m → Good t (when b m)
  keeps_when b h = whether b h (λ tr w i q. tt)

  pub keeps_on_some : {A B : Type 0} (o : Option A) {m : Act B} {f : A → Act B} → Good t m → ((a : A) → Good t (f a)) → Good t (on_some o m f)
  keeps_on_some o h g = some_or o (λ e. h) (λ a e. g a)

  -- Names -----------------------------------------------------------------------

  pub keeps_gone : {A : Type 0} → Good t {A = A} gone
  unfolding gone
  keeps_gone = keeps_stops _

  pub keeps_existing : {A : Type 0} (n : ℕ) {f : Object → Act A} → ((o : Object) → Good t (f o)) → Good t (existing n f)
  unfolding existing
  keeps_existing n h = keeps_looks (λ w. keeps_on_some (object_at n w) keeps_gone h)

  pub keeps_must_exist : (n : ℕ) → Good t (must_exist n)
  unfolding must_exist
  keeps_must_exist n = keeps_existing n (λ o. keeps_nothing)

  pub keeps_read_part : (n o c : ℕ) → Good t (read_part n o c)
  unfolding read_part
  keeps_read_part n o c = keeps_existing n (λ x. keeps_done _)

  pub keeps_write_part : (n o : ℕ) (v : List ℕ) → Good t (write_part n o v)
  unfolding write_part
  keeps_write_part n o v = keeps_existing n (λ x. keeps_changes (edit_writes n o v))

  pub keeps_read_found : (n : ℕ) (f : Found) → Good t (read_found n f)
  unfolding read_found
  keeps_read_found n (InObject o x path) = keeps_read_part o x n
  keeps_read_found n (InVariable m i) = keeps_looks (λ w. keeps_done _)
  keeps_read_found n (Alone v) = keeps_done _

  pub keeps_write_found : (f : Found) (v : List ℕ) → Good t (write_found f v)
  unfolding write_found
  keeps_write_found (InObject o x path) v = keeps_write_part o x v
  keeps_write_found (InVariable m i) v = keeps_changes (edit_value m i _)
  keeps_write_found (Alone u) v = keeps_gone

  pub keeps_on_variable : {A : Type 0} {m : Act A} (f : Found) → Good t m → Good t (on_variable f m)
  unfolding on_variable
  keeps_on_variable (InObject o x path) h = h
  keeps_on_variable (InVariable m i) h = h
  keeps_on_variable (Alone v) h = keeps_gone

  pub keeps_found_in : (m i : ℕ) (h : Content) → Good t (found_in m i h)
  unfolding found_in
  keeps_found_in m i Nothing = keeps_gone
  keeps_found_in m i (Holds o) = keeps_done _
  keeps_found_in m i (Binds o x path) = keeps_done _
  keeps_found_in m i (Copies v) = keeps_done _
  keeps_found_in m i (Gathers n) = keeps_gone

  pub keeps_find_var : (c : Category) (env : List ℕ) (v : Var) → Good t (find_var c env v)
  unfolding find_var
  keeps_find_var Elementary env v = keeps_done _
  keeps_find_var Composite env v = keeps_looks (λ w. keeps_found_in _ _ _)

  pub keeps_dereferenced : (n : ℕ) → Good t (dereferenced n)
  unfolding dereferenced
  keeps_dereferenced zero = keeps_raise _
  keeps_dereferenced (suc n) = keeps_then (keeps_must_exist (suc n)) (keeps_done _)

  pub keeps_or_constraint_error : (o : Option ℕ) → Good t (or_constraint_error o)
  unfolding or_constraint_error
  keeps_or_constraint_error None = keeps_raise _
  keeps_or_constraint_error (Some n) = keeps_done _

  pub keeps_with_mark_pool : {A : Type 0} (n : ℕ) {f : MarkPoolRecord → Act A} → ((p : MarkPoolRecord) → Good t (f p)) → Good t (with_mark_pool n f)
  unfolding with_mark_pool
  keeps_with_mark_pool n h = keeps_looks (λ w. keeps_on_some _ keeps_gone (λ p. keeps_either _ (h p) keeps_gone))

  pub keeps_default_subpool : (n : ℕ) → Good t (default_subpool n)
  unfolding default_subpool
  keeps_default_subpool n = keeps_with_mark_pool n (λ p. keeps_done _)

  pub keeps_subpool_function : (x : SubpoolFunction) (n : ℕ) → Good t (subpool_function x n)
  unfolding subpool_function mark
  keeps_subpool_function Mark n = keeps_seq (keeps_with_mark_pool n (λ p. keeps_either _ (keeps_looks (λ w. keeps_then (keeps_changes (edit_pools _)) (keeps_done _))) (keeps_raise _))) (λ s. keeps_done _)
  keeps_subpool_function DefaultOf n = keeps_seq (keeps_default_subpool n) (λ s. keeps_done _)

  pub keeps_discriminant : (n i : ℕ) → Good t (discriminant n i)
  unfolding discriminant
  keeps_discriminant n i = keeps_looks (λ w. keeps_on_some _ (keeps_on_some _ keeps_gone (λ p. keeps_done _)) (λ p. keeps_done _))

  pub keeps_copied : (n : ℕ) (b : CopyStart) (f : Found) → Good t (copied n b f)
  unfolding copied
  keeps_copied n CopyStartOf.TheVariants.Actual f = keeps_read_found n f
  keeps_copied n CopyStartOf.TheVariants.Beginning f = keeps_done _

  pub keeps_bound : (f : Found) → Good t (bound f)
  unfolding bound
  keeps_bound (InObject o x path) = keeps_done _
  keeps_bound (InVariable m i) = keeps_looks (λ w. keeps_done _)
  keeps_bound (Alone v) = keeps_done _

  pub keeps_by_reference : (f : Found) → Good t (by_reference f)
  unfolding by_reference
  keeps_by_reference f = keeps_seq (keeps_bound f) (λ x. keeps_done _)

  pub keeps_by_copy : (n : ℕ) (b : CopyStart) (f : Found) → Good t (by_copy n b f)
  unfolding by_copy
  keeps_by_copy n b f = keeps_on_variable f (keeps_seq (keeps_copied n b f) (λ v. keeps_done _))

  pub keeps_copy_back : (ss : List Slot) (bs : List (ℕ × Found)) → Good t (copy_back ss bs)
  unfolding copy_back
  keeps_copy_back ss [] = keeps_nothing
  keeps_copy_back ss (b ∷ bs) = keeps_then (keeps_write_found b.1 _) (keeps_copy_back ss bs)

  pub keeps_narrowed : (k : Tools) (u : ℕ) (f : Found) → Good t (narrowed k u f)
  unfolding narrowed
  keeps_narrowed k u f = keeps_existing _ (λ o. keeps_either _ (keeps_done _) (keeps_raise _))

  pub keeps_one_step : (k : Tools) (s : Step) (f : Found) → Good t (one_step k s f)
  unfolding one_step
  keeps_one_step k (Component u position) f = keeps_done _
  keeps_one_step k (Narrow u) f = keeps_narrowed k u f
  keeps_one_step k Dereference f = keeps_seq (keeps_read_found 1 f) (λ v. keeps_dereferenced _)

  pub keeps_walk : (k : Tools) (ss : List Step) (f : Found) → Good t (walk k ss f)
  unfolding walk
  keeps_walk k [] f = keeps_done f
  keeps_walk k (s ∷ ss) f = keeps_seq (keeps_ticked (keeps_one_step k s f)) (λ g. keeps_walk k ss g)
