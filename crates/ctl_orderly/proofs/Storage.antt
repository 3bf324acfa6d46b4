-- Storage of pools, and the release of subpools, whose members are closed (13.11.4, 13.11.5).
use Rattle.std.proofs.Common.{ℕ, List, [], ◌∷◌, Option, Some, None, Bool, true, false, ◌||◌}
use Rattle.ctl_program.specs.declared.types.Var.{Var}
use Rattle.ctl_program.specs.declared.types.Root.{Root}
use Rattle.ctl_program.specs.declared.types.Root.TheVariants.{Untagged, Controlled, BlockPool, MarkPool}
use Rattle.ctl_tree.specs.declared.event.Cause.{Cause}
use Rattle.ctl_meaning.specs.World.{Slot, BlockPool as BlockPoolRecord, MarkPool as MarkPoolRecord}
use Rattle.ctl_meaning.specs.Members.{Group}
use Rattle.ctl_meaning.specs.Choice.{Ask}
use Rattle.ctl_meaning.specs.Outcome.{Act, Done}
use Rattle.ctl_meaning.specs.Types.{Tables, Composite}
use Rattle.ctl_meaning.specs.Names.{OfSubprogram, Call as Caller, Default, Tools, Found}
use Rattle.ctl_meaning.specs.Finalization.{with_home, finalize_group}
use Rattle.ctl_meaning.specs.Storage.{with_block_pool, library_allocate, library_deallocate, tested, user_allocate, block_storage, give_back, room_in, subpool_storage, dropped, release_from, release, program_error_if, unchecked_deallocate_subpool, release_each, shut_pool, close_pool, mark_storage, storage_in, storage}
use Rattle.ctl_orderly.proofs.Rules.{Good}
use Rattle.ctl_orderly.proofs.Edits.{edit_pools}
use Rattle.ctl_orderly.proofs.Plain.{keeps_changes, keeps_counts, keeps_default_subpool, keeps_done, keeps_either, keeps_existing, keeps_find_var, keeps_gone, keeps_looks, keeps_nothing, keeps_on_some, keeps_raise, keeps_read_found, keeps_seq, keeps_shows, keeps_stops, keeps_then, keeps_write_found}
use Rattle.ctl_orderly.proofs.Members.{group_closes}
use Rattle.ctl_orderly.proofs.Edits.{edit_empties, edit_shuts}

module _ (t : Tables) (ask : Ask) (call : Caller) (default : Default) (calls : (f : ℕ) (ss : List Slot) (env : List ℕ) → Good t (call (OfSubprogram f ss) env)) where
  abbrev k : Tools
  k = record { ask = ask; tables = t; call = call; default = default }

  pub keeps_with_home : {A : Type 0} (n : ℕ) {f : List ℕ → Act A} → ((d : List ℕ) → Good t (f d)) → Good t (with_home n f)
  unfolding with_home
  keeps_with_home n h = keeps_existing n (λ o. keeps_looks (λ w. h _))

  pub keeps_finalize_group : (cause : Cause) (g : Group) → Good t (finalize_group k cause g)
  keeps_finalize_group cause g = group_closes t ask call default calls cause g

  -- Storage -----------------------------------------------------------------------

  pub keeps_with_block_pool : {A : Type 0} (n : ℕ) {f : BlockPoolRecord → Act A} → ((p : BlockPoolRecord) → Good t (f p)) → Good t (with_block_pool n f)
  unfolding with_block_pool
  keeps_with_block_pool n h = keeps_looks (λ w. keeps_on_some _ keeps_gone (λ p. keeps_either _ (h p) keeps_gone))

  pub keeps_library_allocate : (n size : ℕ) → Good t (library_allocate n size)
  unfolding library_allocate
  keeps_library_allocate n size = keeps_with_block_pool n (λ p. keeps_either _ (keeps_raise _) (keeps_looks (λ w. keeps_then (keeps_changes (edit_pools _)) (keeps_done _))))

  pub keeps_library_deallocate : (n a : ℕ) → Good t (library_deallocate n a)
  unfolding library_deallocate
  keeps_library_deallocate n a = keeps_with_block_pool n (λ p. keeps_looks (λ w. keeps_either _ (keeps_changes (edit_pools _)) (keeps_stops _)))

  pub keeps_tested : (n size a : ℕ) → Good t (tested n size a)
  unfolding tested
  keeps_tested n size a = keeps_with_block_pool n (λ p. keeps_looks (λ w. keeps_either _ (keeps_done _) (keeps_stops _)))

  pub keeps_user_allocate : (n size f : ℕ) → Good t (user_allocate k n size f)
  unfolding user_allocate
  keeps_user_allocate n size f = keeps_either _ (keeps_raise _) (keeps_seq (keeps_then (keeps_shows _ tt) (keeps_with_home n (λ d. calls _ _ d))) (λ r. keeps_tested n size _))

  pub keeps_block_storage : (n size : ℕ) → Good t (block_storage k n size)
  unfolding block_storage
  keeps_block_storage n size = keeps_seq (keeps_existing n (λ o. keeps_on_some _ (keeps_library_allocate n size) (λ f. keeps_user_allocate n size f))) (λ a. keeps_done _)

  pub keeps_give_back : (n a size : ℕ) → Good t (give_back k n a size)
  unfolding give_back
  keeps_give_back n a size = keeps_existing n (λ o. keeps_on_some _ (keeps_library_deallocate n a) (λ f. keeps_then (keeps_then (keeps_shows _ tt) (keeps_with_home n (λ d. calls _ _ d))) keeps_nothing))

  pub keeps_subpool_storage : (n s size : ℕ) → Good t (subpool_storage n s size)
  unfolding subpool_storage room_in
  keeps_subpool_storage n s size =
      keeps_looks (λ w. keeps_on_some _ (keeps_stops _) (λ x. keeps_on_some _ keeps_gone (λ p. keeps_either _ (keeps_either _ (keeps_raise _) (keeps_then (keeps_changes (edit_pools _)) (keeps_done _))) (keeps_raise _))))

  pub keeps_dropped : (n s : ℕ) (b : Bool) (p : MarkPoolRecord) → Good t (dropped n s b p)
  unfolding dropped
  keeps_dropped n s b p = keeps_either _ (keeps_then (keeps_looks (λ w. keeps_counts _ (keeps_changes (edit_pools _)))) (keeps_done b)) (keeps_then (keeps_changes (edit_pools _)) (keeps_done true))

  pub keeps_release : (m : Act Done) → Good t m → (s : ℕ) → Good t (release k m s)
  unfolding release release_from
  keeps_release m h s =
      keeps_looks (λ w. keeps_on_some _ (keeps_stops _) (λ x. keeps_either _ (keeps_stops _) (keeps_either _ (keeps_stops _)
      (keeps_seq (keeps_then (keeps_changes (edit_pools _)) (keeps_finalize_group _ _))
      (λ b. keeps_then (keeps_then (keeps_looks (λ w1. keeps_counts _ (keeps_changes (edit_empties _)))) h) (keeps_looks (λ w2. keeps_on_some _ keeps_gone (λ p. keeps_dropped _ s b p))))))))

  pub keeps_program_error_if : (b : Bool) → Good t (program_error_if b)
  unfolding program_error_if
  keeps_program_error_if b = keeps_either b (keeps_raise _) keeps_nothing

  pub keeps_unchecked : (f : Found) → Good t (unchecked_deallocate_subpool k f)
  unfolding unchecked_deallocate_subpool
  keeps_unchecked f = keeps_seq (keeps_read_found 1 f) (λ v. keeps_either _ keeps_nothing (keeps_seq (keeps_release _ (keeps_write_found f _) _) (λ b. keeps_program_error_if b)))

  pub keeps_release_each : (ss : List ℕ) (b : Bool) → Good t (release_each k ss b)
  unfolding release_each
  keeps_release_each [] b = keeps_done b
  keeps_release_each (s ∷ ss) b = keeps_seq (keeps_looks (λ w. keeps_either _ (keeps_release _ keeps_nothing s) (keeps_done _))) (λ c. keeps_release_each ss (b || c))

  pub keeps_shut_pool : (n : ℕ) → Good t (shut_pool n)
  unfolding shut_pool
  keeps_shut_pool n = keeps_looks (λ w. keeps_counts _ (keeps_changes (edit_shuts n)))

  pub keeps_close_pool : (n : ℕ) → Good t (close_pool k n)
  unfolding close_pool
  keeps_close_pool n =
      keeps_looks (λ w. keeps_on_some _ (keeps_on_some _ (keeps_done _) (λ p. keeps_then (keeps_shut_pool n) (keeps_done _))) (λ p. keeps_seq (keeps_release_each _ false) (λ b. keeps_then (keeps_shut_pool n) (keeps_done b))))

  pub keeps_mark_storage : (n : ℕ) (h : Option (List ℕ)) (size : ℕ) → Good t (mark_storage n h size)
  unfolding mark_storage
  keeps_mark_storage n None size = keeps_seq (keeps_default_subpool n) (λ s. keeps_subpool_storage n s size)
  keeps_mark_storage n (Some h) size = keeps_subpool_storage n _ size

  pub keeps_storage_in : (n : ℕ) (h : Option (List ℕ)) (size : ℕ) (r : Root) → Good t (storage_in k n h size r)
  unfolding storage_in
  keeps_storage_in n h size Untagged = keeps_block_storage n size
  keeps_storage_in n h size Controlled = keeps_block_storage n size
  keeps_storage_in n h size BlockPool = keeps_block_storage n size
  keeps_storage_in n h size MarkPool = keeps_mark_storage n h size

  pub keeps_storage : (env : List ℕ) (p : Option Var) (h : Option (List ℕ)) (size : ℕ) → Good t (storage k env p h size)
  unfolding storage
  keeps_storage env None h size = keeps_done _
  keeps_storage env (Some v) h size = keeps_seq (keeps_find_var Composite env v) (λ f. keeps_existing _ (λ o. keeps_storage_in _ h size _))
