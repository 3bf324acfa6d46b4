-- Storage by size alone: what a request of so many storage units of the pool of an access type means is what the table of the code grants; the
-- Allocate that the user wrote for the type of a pool, and the test of the address that it gives (13.11).
use Rattle.std.proofs.Common.{◌≡◌, ◌≢◌, ℕ, List, [], ◌∷◌, Option, Some, None, Bool, true, false, refl, sym, ap, ◌∙◌}
use Rattle.std.specs.Prelude.{drop, slice_get, ◌&&◌, ◌||◌, not, nat_eq, nat_lt, if◌then◌else◌}
use Rattle.std.proofs.lemmas.Bool.{eqb-true}
use Rattle.ctl_program.specs.declared.types.Ty.{Ty}
use Rattle.ctl_program.specs.declared.types.Ty.TheVariants.{Integer, Count, Boolean, Address, Handle, Access, Record}
use Rattle.ctl_program.specs.declared.types.Root.{Root}
use Rattle.ctl_program.specs.declared.types.Root.TheVariants as RootOf
use Rattle.ctl_program.specs.declared.types.Var.{Var}
use Rattle.ctl_program.specs.Limits.{integer_last}
use Rattle.ctl_tree.specs.declared.ending.Stop.TheVariants.{UseAfterFree, BadAddress}
use Rattle.ctl_tree.specs.declared.event.Event.TheVariants.{Allocate}
use Rattle.ctl_meaning.specs.World.{Place, InBlock, Object, Content, Nothing, Holds, Binds, Copies, Gathers, Slot, unset, BlockPool, Log, World}
use Rattle.ctl_meaning.specs.Lists.{item_or}
use Rattle.ctl_meaning.specs.Activations.{master_of}
use Rattle.ctl_meaning.specs.Objects.{object_in}
use Rattle.ctl_meaning.specs.Pools.{block_at, block_pool_at, take_block}
use Rattle.ctl_meaning.specs.Changes.{home_of as origin_home, in_pools, is_vacant, object_at, slot_at}
use Rattle.ctl_meaning.specs.Choice.{Ask}
use Rattle.ctl_meaning.specs.Outcome.{constraint_error, storage_error, ByRaise, Goes, Leaves, Gives, Stops, Act, add, bind, on_goes, ◌>>=◌, ◌>>◌, done, raise, change, show, stop, tell, look, either, on_some, opened_outcome}
use Rattle.ctl_meaning.specs.Types.{Tables, of_record, operation, operation_for, root_for, size_of}
use Rattle.ctl_meaning.specs.Names.{OfSubprogram, Returned, Call, Default, Tools, existing, find_var, found_in, gone, object_of, opened_names}
use Rattle.ctl_meaning.specs.Finalization.{with_home}
use Rattle.ctl_meaning.specs.Storage.{address_in, block_storage, library_allocate, storage, storage_actuals, storage_in, tested, user_allocate, with_block_pool}
use Rattle.ctl_code.specs.declared.code.Code.{Code}
use Rattle.ctl_code.specs.States.{Word, object_of as object_of_word}
use Rattle.ctl_code.specs.Table as Table
use Rattle.ctl_code.specs.Table.{AllocateOf, Exhausted, Grant, Granted, NotPassed, Passed, Test, UnknownPool, address_test, first_value, grant, operation_of, own_grant, units_for}
use Rattle.ctl_gen.proofs.Known.{IsPlainType, no_mark_pool}
use Rattle.ctl_gen.proofs.Each.{Each, IfFound, found_passes}
use Rattle.ctl_gen.proofs.Worlds.{Fits, IsPlainSlot, Settled, object_fits}
use Rattle.ctl_gen.proofs.Setting.{Setting, tools_with}
use Rattle.ctl_gen.proofs.Follow.{add_none}

-- the object that is found has the number that was looked for
pub found_object : (n : ℕ) (w : World) (o : Object) → object_at n w ≡ Some o → o.number ≡ n
unfolding object_at object_in
found_object n w o there = eqb-true o.number n (found_passes (λ x. nat_eq x.number n) w.objects o there)

-- both tables say alike how many storage units an object takes (13.3)
pub units_alike : (k : Tables) (code : Code) → Setting k code → (ty : Ty) → IsPlainType k ty → units_for code ty ≡ size_of k ty
unfolding size_of of_record
units_alike k code setting (Record t) plain = setting.units t plain.2.laid.is
units_alike k code setting Integer plain = refl
units_alike k code setting Boolean plain = refl
units_alike k code setting Count plain = refl
units_alike k code setting Address plain = refl
units_alike k code setting Handle plain = refl
units_alike k code setting (Access x) plain = refl

-- a block is a place
abbrev pub in_block : ℕ → ℕ → Act Place
in_block n a = done (InBlock n a)

-- a block of a pool
abbrev takes_block : ℕ → ℕ → BlockPool → Act ℕ
takes_block n size p = either p.is_open (either (nat_eq p.free 0 || nat_lt p.block_size size) (raise storage_error) (look (λ w. change (in_pools (take_block n)) >> done w.pools.next_address))) gone

module _ (K : Tools) where
  -- what a request of so many storage units gives
  abbrev pub gives_place : ℕ → Grant → Act Place
  gives_place size (Granted place w1) c l w = Gives (Goes place) 0 c l w1
  gives_place size Exhausted c l w = Gives (Leaves (ByRaise storage_error)) 0 c l w
  gives_place size UnknownPool c l w = Stops UseAfterFree 0 l
  gives_place size (AllocateOf o f) c l w = bind (user_allocate K o.number size f c l w) (on_goes (in_block o.number))

  block_is : (n size : ℕ) (p : BlockPool) (c : ℕ) (l : Log) (w : World) → bind (takes_block n size p c l w) (on_goes (in_block n)) ≡ gives_place size (Table.block_grant n size p w) c l w
  unfolding opened_outcome opened_names
  block_is n size p c l w = by p.is_open (nat_eq p.free 0 || nat_lt p.block_size size)
    where
      by : (opened full : Bool) → bind (either opened (either full (raise storage_error) (look (λ v. change (in_pools (take_block n)) >> done v.pools.next_address))) gone c l w) (on_goes (in_block n)) ≡ gives_place size (if not opened then UnknownPool else if full then Exhausted else Granted (InBlock n w.pools.next_address) (in_pools (take_block n) w)) c l w
      by false full = refl
      by true true = refl
      by true false = refl

  pool_is : (n size : ℕ) (o : Option BlockPool) (c : ℕ) (l : Log) (w : World) → bind (on_some o gone (takes_block n size) c l w) (on_goes (in_block n)) ≡ gives_place size (Table.pool_grant n size o w) c l w
  unfolding opened_outcome opened_names
  pool_is n size None c l w = refl
  pool_is n size (Some p) c l w = block_is n size p c l w

  -- of a pool object that is there: by the Allocate that the user wrote for its type, if there is one
  own_is : (size c : ℕ) (l : Log) (w : World) (o : Object) (g : Option ℕ) → bind (on_some g (library_allocate o.number size) (user_allocate K o.number size) c l w) (on_goes (in_block o.number)) ≡ gives_place size (own_grant g size o w) c l w
  unfolding library_allocate with_block_pool opened_outcome
  own_is size c l w o None = pool_is o.number size (block_pool_at o.number w.pools) c l w
  own_is size c l w o (Some f) = refl

  block_storage_is : (size c : ℕ) (l : Log) (w : World) (o : Object) → object_at o.number w ≡ Some o → block_storage K o.number size c l w ≡ gives_place size (own_grant (operation_for (λ x. x.allocate) K.tables o.ty) size o w) c l w
  unfolding block_storage existing opened_outcome
  block_storage_is size c l w o there =
      ap (λ q. bind (on_some q gone (λ y. on_some (operation_for (λ x. x.allocate) K.tables y.ty) (library_allocate o.number size) (user_allocate K o.number size)) c l w) (on_goes (in_block o.number))) there
      ∙ own_is size c l w o (operation_for (λ x. x.allocate) K.tables o.ty)

  -- of one that is no mark pool
  no_mark : (n size : ℕ) (r : Root) → r ≢ RootOf.MarkPool → storage_in K n None size r ≡ block_storage K n size
  unfolding storage_in
  no_mark n size RootOf.Untagged other = refl
  no_mark n size RootOf.Controlled other = refl
  no_mark n size RootOf.BlockPool other = refl
  no_mark n size RootOf.MarkPool other = absurd (other refl)

  -- A user's Allocate -----------------------------------------------------------------------------------

  -- the call of it, where the pool object is there
  pub user_is : (n size f c : ℕ) (l : Log) (w : World) (o : Object) → object_at n w ≡ Some o → nat_lt integer_last size ≡ false → user_allocate K n size f c l w ≡ bind (K.call (OfSubprogram f (storage_actuals n 0 size)) (origin_home o.origin w) c (tell (Allocate n size) l) w) (on_goes (λ r. tested n size (address_in r)))
  unfolding user_allocate with_home existing opened_outcome
  user_is n size f c l w o there small =
      ap (λ b. either b (raise constraint_error) (show (Allocate n size) >> with_home n (λ d. K.call (OfSubprogram f (storage_actuals n 0 size)) d) >>= (λ r. tested n size (address_in r))) c l w) small
      ∙ ap (λ x. bind (add 0 (on_some x gone (λ y. look (λ v. K.call (OfSubprogram f (storage_actuals n 0 size)) (origin_home y.origin v))) c (tell (Allocate n size) l) w)) (on_goes (λ r. tested n size (address_in r)))) there
      ∙ ap (λ x. bind x (on_goes (λ r. tested n size (address_in r)))) (add_none (K.call (OfSubprogram f (storage_actuals n 0 size)) (origin_home o.origin w) c (tell (Allocate n size) l) w))

  -- a size that is too great
  pub great_is : (n size f c : ℕ) (l : Log) (w : World) → nat_lt integer_last size ≡ true → user_allocate K n size f c l w ≡ Gives (Leaves (ByRaise constraint_error)) 0 c l w
  unfolding user_allocate opened_outcome
  great_is n size f c l w great = ap (λ b. either b (raise constraint_error) (show (Allocate n size) >> with_home n (λ d. K.call (OfSubprogram f (storage_actuals n 0 size)) d) >>= (λ r. tested n size (address_in r))) c l w) great

module _ (ask : Ask) (k : Tables) (code : Code) (setting : Setting k code) (call : Call) (default : Default) where
  abbrev K : Tools
  K = tools_with ask k call default

  -- the table of the code names that Allocate
  named_is : (ty : Ty) → Table.operation_for (λ x. x.allocate) code ty ≡ operation_for (λ x. x.allocate) k ty
  unfolding operation_for of_record
  named_is (Record u) = setting.allocate u
  named_is Integer = refl
  named_is Count = refl
  named_is Boolean = refl
  named_is Address = refl
  named_is Handle = refl
  named_is (Access a) = refl

  object_is : (n size c : ℕ) (l : Log) (w : World) → Fits k code w → existing n (λ o. storage_in K n None size (root_for k o.ty)) c l w ≡ gives_place K size (Table.object_grant code size (object_at n w) w) c l w
  unfolding existing gone opened_outcome
  object_is n size c l w fits = by (object_at n w) refl (object_fits k code n w fits)
    where
      by : (o : Option Object) → object_at n w ≡ o → IfFound (Settled k code w.ledger.next_master w.activations w.ledger.collections) o → on_some o gone (λ y. storage_in K n None size (root_for k y.ty)) c l w ≡ gives_place K size (Table.object_grant code size o w) c l w
      by None there settled = refl
      by (Some o) there settled =
          let number : o.number ≡ n = found_object n w o there in
          ap (λ (f : Act Place). f c l w) (no_mark K n size (root_for k o.ty) (no_mark_pool k o.ty settled.plain))
          ∙ ap (λ i. block_storage K i size c l w) (sym number)
          ∙ block_storage_is K size c l w o (ap (λ i. object_at i w) number ∙ there)
          ∙ ap (λ g. gives_place K size (own_grant g size o w) c l w) (sym (named_is o.ty))

  -- a slot names the pool, unless its declaration was not elaborated
  found_is : (m i : ℕ) (x : Content) (size c : ℕ) (l : Log) (w : World) → Fits k code w → bind (found_in m i x c l w) (on_goes (λ f. existing (object_of f) (λ o. storage_in K (object_of f) None size (root_for k o.ty)))) ≡ gives_place K size (Table.holder_grant code (Table.word_of x) size w) c l w
  unfolding found_in object_of gone opened_outcome
  found_is m i (Holds n) size c l w fits = add_none (existing n (λ o. storage_in K n None size (root_for k o.ty)) c l w) ∙ object_is n size c l w fits
  found_is m i (Binds n offset path) size c l w fits = add_none (existing n (λ o. storage_in K n None size (root_for k o.ty)) c l w) ∙ object_is n size c l w fits
  found_is m i (Copies v) size c l w fits = add_none (existing 0 (λ o. storage_in K 0 None size (root_for k o.ty)) c l w) ∙ object_is 0 size c l w fits
  found_is m i Nothing size c l w fits = refl
  found_is m i (Gathers n) size c l w fits = refl

  -- what storage means is what comes of its request
  pub storage_is : (pool : Option Var) (d : List ℕ) (size c : ℕ) (l : Log) (w : World) → Fits k code w → storage K d pool None size c l w ≡ gives_place K size (grant code pool d size w) c l w
  unfolding storage find_var opened_outcome
  storage_is None d size c l w fits = refl
  storage_is (Some v) d size c l w fits = found_is (master_of d v) v.slot (slot_at (master_of d v) v.slot w).content size c l w fits

-- where a user's Allocate is called, the pool object is there, and it is the Allocate of its type
abbrev pub IsOwn : Tables → World → Grant → Type 0
IsOwn k w (AllocateOf o f) = (object_at o.number w ≡ Some o) × ((u : ℕ) × (o.ty ≡ Record u) × (operation (λ x. x.allocate) k u ≡ Some f))
IsOwn k w (Granted place w1) = Unit {0}
IsOwn k w Exhausted = Unit {0}
IsOwn k w UnknownPool = Unit {0}

module _ (k : Tables) (code : Code) (setting : Setting k code) where
  own_block : (n size : ℕ) (p : BlockPool) (w : World) → IsOwn k w (Table.block_grant n size p w)
  own_block n size p w = by p.is_open (nat_eq p.free 0 || nat_lt p.block_size size)
    where
      by : (opened full : Bool) → IsOwn k w (if not opened then UnknownPool else if full then Exhausted else Granted (InBlock n w.pools.next_address) (in_pools (take_block n) w))
      by false full = tt
      by true true = tt
      by true false = tt

  own_pool : (n size : ℕ) (o : Option BlockPool) (w : World) → IsOwn k w (Table.pool_grant n size o w)
  own_pool n size None w = tt
  own_pool n size (Some p) w = own_block n size p w

  own_by : (g : Option ℕ) (u size : ℕ) (o : Object) (w : World) → object_at o.number w ≡ Some o → o.ty ≡ Record u → operation (λ x. x.allocate) k u ≡ g → IsOwn k w (own_grant g size o w)
  own_by None u size o w there ty op = own_pool o.number size (block_pool_at o.number w.pools) w
  own_by (Some f) u size o w there ty op = (there, (u, ty, op))

  own_for : (ty : Ty) (size : ℕ) (o : Object) (w : World) → object_at o.number w ≡ Some o → o.ty ≡ ty → IsOwn k w (own_grant (Table.operation_for (λ x. x.allocate) code ty) size o w)
  own_for (Record u) size o w there is = own_by (operation_of (λ x. x.allocate) code u) u size o w there is (sym (setting.allocate u))
  own_for Integer size o w there is = own_pool o.number size (block_pool_at o.number w.pools) w
  own_for Count size o w there is = own_pool o.number size (block_pool_at o.number w.pools) w
  own_for Boolean size o w there is = own_pool o.number size (block_pool_at o.number w.pools) w
  own_for Address size o w there is = own_pool o.number size (block_pool_at o.number w.pools) w
  own_for Handle size o w there is = own_pool o.number size (block_pool_at o.number w.pools) w
  own_for (Access a) size o w there is = own_pool o.number size (block_pool_at o.number w.pools) w

  own_object : (n size : ℕ) (o : Option Object) (w : World) → object_at n w ≡ o → IsOwn k w (Table.object_grant code size o w)
  own_object n size None w there = tt
  own_object n size (Some o) w there = own_for o.ty size o w (ap (λ i. object_at i w) (found_object n w o there) ∙ there) refl

  own_holder : (x : Option Word) (size : ℕ) (w : World) → IsOwn k w (Table.holder_grant code x size w)
  own_holder None size w = tt
  own_holder (Some x) size w = own_object (object_of_word x) size (object_at (object_of_word x) w) w refl

  pub own_granted : (pool : Option Var) (d : List ℕ) (size : ℕ) (w : World) → IsOwn k w (grant code pool d size w)
  own_granted None d size w = tt
  own_granted (Some v) d size w = own_holder (Table.word_of (slot_at (master_of d v) v.slot w).content) size w

-- the slots of its call hold no collection
pub plain_actuals : (n size : ℕ) → Each IsPlainSlot (storage_actuals n 0 size)
unfolding storage_actuals
plain_actuals n size = (tt, (tt, (tt, (tt, tt))))

-- the address that it gave is what its second formal holds
pub address_is : (r : Returned) → address_in r ≡ first_value (drop 1 r.slots)
unfolding address_in item_or
address_is r = by r.slots
  where
    by : (xs : List Slot) → (item_or unset (slice_get xs 1)).value ≡ first_value (drop 1 xs)
    by [] = refl
    by (x ∷ []) = refl
    by (x ∷ y ∷ ys) = refl

-- what the test of an address gives
abbrev pub gives_test : ℕ → Test → Act ℕ
gives_test a Passed = done a
gives_test a (NotPassed s) = stop s

pub tested_is : (n size a c : ℕ) (l : Log) (w : World) → tested n size a c l w ≡ gives_test a (address_test a size (block_pool_at n w.pools) w) c l w
unfolding tested with_block_pool gone opened_outcome
tested_is n size a c l w = by (block_pool_at n w.pools)
  where
    passes : (vacant : Bool) → either vacant (done a) (stop BadAddress) c l w ≡ gives_test a (if vacant then Passed else NotPassed BadAddress) c l w
    passes true = refl
    passes false = refl

    of_block : (opened : Bool) (vacant : World → Bool) → either opened (look (λ v. either (vacant v) (done a) (stop BadAddress))) (stop UseAfterFree) c l w ≡ gives_test a (if not opened then NotPassed UseAfterFree else if vacant w then Passed else NotPassed BadAddress) c l w
    of_block false vacant = refl
    of_block true vacant = passes (vacant w)

    by : (p : Option BlockPool) → on_some p gone (λ q. either q.is_open (look (λ v. either (is_vacant v (block_at a q) && not (nat_lt q.block_size size)) (done a) (stop BadAddress))) gone) c l w ≡ gives_test a (address_test a size p w) c l w
    by None = refl
    by (Some p) = of_block p.is_open (λ v. is_vacant v (block_at a p) && not (nat_lt p.block_size size))
