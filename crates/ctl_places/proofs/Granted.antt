-- Storage is granted where it is seen: the pool that a variable holds is found, and an object is put into it.
use Rattle.std.proofs.Common.{◌≡◌, ℕ, ◌+◌, ◌-◌, ◌*◌, ◌<◌, ◌≤◌, List, [], ◌∷◌, ◌++◌, Option, Some, None, Bool, true, false, length, refl, sym, ap, ◌∙◌, subst, arith, drop, take, replicate}
use Rattle.std.specs.Prelude.{◌||◌, is_some, nat_eq, nat_lt, not, slice_get, slice_index_or, if◌then◌else◌}
use Rattle.std.specs.Option.{option_map, option_map_or}
use Rattle.ctl_program.specs.declared.types.Ty.{Ty}
use Rattle.ctl_program.specs.declared.types.Ty.TheVariants.{Record}
use Rattle.ctl_program.specs.declared.types.Var.{Var}
use Rattle.ctl_meaning.specs.World as W
use Rattle.ctl_meaning.specs.World.{World, Allocated, BlockPool, InBlock, Object, Place, Slot, Standard}
use Rattle.ctl_meaning.specs.Activations.{master_of, slot_in}
use Rattle.ctl_meaning.specs.Changes.{in_pools, new_object, object_at, opened_changes, slot_at}
use Rattle.ctl_meaning.specs.Lists.{item_or}
use Rattle.ctl_meaning.specs.Objects.{object_in}
use Rattle.ctl_meaning.specs.Pools.{block_pool_at, hold_block, take_block}
use Rattle.ctl_storage.specs.Calls.{IsOpen, is_exhausted_at, taken_at, with_taken}
use Rattle.ctl_objects.specs.declared.existing.Existing.{Existing}
use Rattle.ctl_objects.specs.Existing.{IsKnown}
use Rattle.ctl_objects.specs.Pools.{ShowsPools}
use Rattle.ctl_objects.specs.Stock.{Stock, storage_of}
use Rattle.ctl_code.specs.declared.code.AccessHome.{AccessHome}
use Rattle.ctl_code.specs.declared.code.Code.{Code}
use Rattle.ctl_code.specs.declared.code.Layout.{Layout}
use Rattle.ctl_code.specs.declared.code.Way.TheVariants as WayOf
use Rattle.ctl_code.specs.States as T
use Rattle.ctl_code.specs.States.{State, Word, object_of}
use Rattle.ctl_code.specs.Table.{Grant, Granted, Exhausted, UnknownPool, AllocateOf, cells_for, grant, holder_grant, object_grant, operation_for, own_grant, pool_grant, pool_in, size_in, word_of, units_for, units_in, with_member}
use Rattle.ctl_code.specs.Valid.{IsValid}
use Rattle.ctl_engine.specs.declared.engine.Engine.{Engine}
use Rattle.ctl_frames.specs.declared.frame.Formal.{Formal}
use Rattle.ctl_frames.specs.declared.frame.Holder.{Holder}
use Rattle.ctl_frames.specs.declared.frame.Master.{Master}
use Rattle.ctl_frames.specs.declared.frame.Mode.{Mode}
use Rattle.ctl_frames.specs.declared.frame.Mode.TheVariants as ModeOf
use Rattle.ctl_frames.specs.declared.frame.Owned.{Owned}
use Rattle.ctl_places.specs.Gathering.{with_new_member}
use Rattle.ctl_places.specs.Granting.{Adds, AsksNoUser, Grants, IsNewMember, IsUsers, Lacks, Serves, block_unless, pool_grants, storage_seen}
use Rattle.ctl_places.specs.PoolBlocks.{is_open_at}
use Rattle.ctl_places.specs.declared.pool_blocks.Grantor.{Grantor}
use Rattle.ctl_places.specs.declared.pool_blocks.Grantor.TheVariants as GrantorOf
use Rattle.ctl_frames.specs.Holders.{formal_in, found_in, holder_in, own_end, own_formals}
use Rattle.ctl_frames.specs.Masters.{display_from, first_display, heads_of}
use Rattle.ctl_engine.specs.Moves.{GoesOn}
use Rattle.ctl_engine.specs.Shows.{Holds, Kept, kept, stock_of}
use Rattle.ctl_places.proofs.HeldThere.{content_is}
use Rattle.ctl_frames.proofs.Links.{got}
use Rattle.ctl_frames.proofs.Lists.{same_at}
use Rattle.ctl_engine.proofs.MasterOf.{object_or, object_or_is}
use Rattle.ctl_places.proofs.MayJoin.{known_there, none_known}
use Rattle.ctl_engine.proofs.Owned.{object_shown}
use Rattle.ctl_engine.proofs.Reached.{linked_in}
use Rattle.ctl_places.proofs.SetSeen.{level_is, no_level}
use Rattle.ctl_engine.proofs.Stocked.{with_stock}

-- What a variable holds ----------------------------------------------------------------------------------

-- the number of the object of a part, if there is one
abbrev pub number_in : Option Word → Option ℕ
number_in y = option_map object_of y

-- levels count from 1
level_seen : (d : List ℕ) (v : Var) (level : ℕ) → level - 1 ≡ v.level - 1 → master_of d (record v { level = level }) ≡ master_of d v
unfolding master_of
level_seen d v level same = ap (λ i. item_or 0 (slice_get d i)) same

-- no master stands at the level
pub none_seen : (d : List ℕ) (v : Var) (level : ℕ) → 1 ≤ level → level - 1 ≡ v.level - 1 → length (take level d) < level → master_of d v ≡ 0
none_seen d v level some same few = sym (level_seen d v level same) ∙ no_level d (record v { level = level }) some few

-- the newest of so many does
pub master_seen : (code : Code) (e : Engine) (k : List T.Frame) (ops : List Word) (w : World) (v : Var) (level count : ℕ) (m : Master) → Holds code (kept e) k ops w → 1 ≤ level → level - 1 ≡ v.level - 1 → count ≤ length e.masters.items
    → display_from count (heads_of w.activations) ≡ take level (first_display (heads_of w.activations)) → length (display_from count (heads_of w.activations)) ≤ count → level ≤ length (display_from count (heads_of w.activations))
    → m ≡ slice_index_or e.masters.items (count - 1) m → (slice_get e.masters.items (count - 1) ≡ Some m) × (master_of (first_display (heads_of w.activations)) v ≡ m.number)
master_seen code e k ops w v level count m h some same bound display shallow long read =
    let hs = heads_of w.activations in
    let d = first_display hs in
    let found = got e.masters.items (count - 1) m (omega (arith, bound, shallow, long, some)) read in
    (found, sym (level_seen d v level same) ∙ level_is d (record v { level = level }) count e.masters.items hs m some (linked_in code e k ops w h) found (omega (arith, shallow, long, some)) display long)

-- a slot that is not there holds none
pub nothing_held : (n slot : ℕ) (w : World) → slot_in n slot w.activations ≡ W.unset → word_of (slot_at n slot w).content ≡ None
unfolding opened_changes
nothing_held n slot w is = ap (λ (y : Slot). word_of y.content) is

-- and its value is 0
pub nothing_valued : (n slot : ℕ) (w : World) → slot_in n slot w.activations ≡ W.unset → (slot_at n slot w).value ≡ 0
unfolding opened_changes
nothing_valued n slot w is = ap (λ (y : Slot). y.value) is

-- what was found in a slot is what it holds
pub part_held : (code : Code) (e : Engine) (k : List T.Frame) (ops : List Word) (w : World) (n slot i end : ℕ) (x : Master) (owned : List Owned) (formals : List Formal) (r : Option Holder) → Holds code (kept e) k ops w → slice_get e.masters.items i ≡ Some x → n ≡ x.number → slot < x.slots
    → owned ≡ e.owned.items → formals ≡ e.formals.items → end ≡ own_end (slice_get e.masters.items (i + 1)) (length e.owned.items) → found_in formals r ≡ word_of (holder_in (drop x.owned (take end owned)) slot (formal_in (own_formals x formals) slot))
    → word_of (slot_at n slot w).content ≡ found_in e.formals.items r
part_held code e k ops w n slot i end x owned formals r h found number less all bound ends part =
    let formal = formal_in (own_formals x e.formals.items) slot in
    ap (λ c. word_of c) (content_is code e k ops w n slot i x h found number less)
    ∙ sym (sym (ap (λ (l : List Formal). found_in l r) bound)
    ∙ (part
    ∙ (ap (λ (l : List Formal). word_of (holder_in (drop x.owned (take end owned)) slot (formal_in (own_formals x l) slot))) bound
    ∙ (ap (λ (l : List Owned). word_of (holder_in (drop x.owned (take end l)) slot formal)) all ∙ ap (λ j. word_of (holder_in (drop x.owned (take j e.owned.items)) slot formal)) ends))))

-- The pool -------------------------------------------------------------------------------------------------

-- a pool that is open grants a block, unless it is exhausted
from_open : (n : ℕ) (w : World) (stands full : Bool) → stands ≡ true → (if not stands then UnknownPool else if full then Exhausted else Granted (InBlock n w.pools.next_address) (in_pools (take_block n) w)) ≡ block_unless full n w
from_open n w false full is = absurd (cc)
from_open n w true true is = refl
from_open n w true false is = refl

open_grants : (n size : ℕ) (w : World) (p : Option BlockPool) → option_map_or (λ x. x.is_open) p false ≡ true → pool_grant n size p w ≡ block_unless (option_map_or (λ x. nat_eq x.free 0 || nat_lt x.block_size size) p false) n w
open_grants n size w None is = absurd (cc)
open_grants n size w (Some p) is = from_open n w p.is_open (nat_eq p.free 0 || nat_lt p.block_size size) is

-- any other one grants none
from_shut : (n : ℕ) (w : World) (stands full : Bool) → stands ≡ false → (if not stands then UnknownPool else if full then Exhausted else Granted (InBlock n w.pools.next_address) (in_pools (take_block n) w)) ≡ UnknownPool
from_shut n w false full is = refl
from_shut n w true full is = absurd (cc)

shut_grants : (n size : ℕ) (w : World) (p : Option BlockPool) → option_map_or (λ x. x.is_open) p false ≡ false → pool_grant n size p w ≡ UnknownPool
shut_grants n size w None is = refl
shut_grants n size w (Some p) is = from_shut n w p.is_open (nat_eq p.free 0 || nat_lt p.block_size size) is

-- the object of a pool is there, of this type
record IsHere (e : Kept) (n : ℕ) (ty : Ty) (w : World) : Type 0 where
  pub object : Object
  pub found : object_in n e.objects ≡ Some object
  pub seen : object_at n w ≡ Some object
  pub number : object.number ≡ n
  pub type : object.ty ≡ ty

is_here : (code : Code) (e : Kept) (k : List T.Frame) (ops : List Word) (w : World) (n : ℕ) (x : Existing) → Holds code e k ops w → IsKnown n (Some x) e.objects → IsHere e n x.ty w
is_here code e k ops w n x h knows =
    let there = known_there n x e.objects knows in
    record { object = there.0; found = there.1; seen = object_shown code e k ops w n h ∙ there.1; number = ap (λ (o : Object). o.number) there.2; type = ap (λ (o : Object). o.ty) there.2 }

-- then its type decides
here_grants : (code : Code) (e : Kept) (n size : ℕ) (ty : Ty) (w : World) (f : Option ℕ) → f ≡ operation_for (λ x. x.allocate) code ty → (i : IsHere e n ty w) → object_grant code size (object_at n w) w ≡ own_grant f size i.object w
here_grants code e n size ty w f is i =
    ap (λ (o : Option Object). object_grant code size o w) i.seen
    ∙ (ap (λ (y : Ty). own_grant (operation_for (λ x. x.allocate) code y) size i.object w) i.type
    ∙ ap (λ o. own_grant o size i.object w) (sym is))

own_pool : (n size : ℕ) (o : Object) (w : World) → o.number ≡ n → own_grant None size o w ≡ pool_grant n size (block_pool_at n w.pools) w
own_pool n size o w same = ap (λ j. pool_grant j size (block_pool_at j w.pools) w) same

-- none is there
pub gone_grants : (code : Code) (e : Engine) (k : List T.Frame) (ops : List Word) (w : World) (n : ℕ) → Holds code (kept e) k ops w → IsKnown n None e.stock.objects → Grants code e w (λ size. object_grant code size (object_at n w) w) GrantorOf.Gone
gone_grants code e k ops w n h unknown = λ size. ap (λ (o : Option Object). object_grant code size o w) (object_shown code (kept e) k ops w n h ∙ none_known n e.stock.objects unknown)

-- the user wrote the Allocate
pub user_grants : (code : Code) (e : Engine) (k : List T.Frame) (ops : List Word) (w : World) (n f : ℕ) (x : Existing) → Holds code (kept e) k ops w → IsKnown n (Some x) e.stock.objects → Some f ≡ operation_for (λ x. x.allocate) code x.ty
    → Grants code e w (λ size. object_grant code size (object_at n w) w) (GrantorOf.User n f)
user_grants code e k ops w n f x h knows is =
    let i = is_here code (kept e) k ops w n x h knows in
    record { object = i.object; found = i.found; operation = ap (λ (y : Ty). operation_for (λ x. x.allocate) code y) i.type ∙ sym is; asks = λ size. here_grants code (kept e) n size x.ty w (Some f) is i }

-- the library's grants a block, where the pool is open
pub library_grants : (code : Code) (e : Engine) (k : List T.Frame) (ops : List Word) (w : World) (n : ℕ) (x : Existing) → Holds code (kept e) k ops w → IsKnown n (Some x) e.stock.objects → None ≡ operation_for (λ x. x.allocate) code x.ty
    → IsOpen n (storage_of e.stock) → is_some (object_in n e.stock.objects) ≡ true → true ≡ is_open_at n w.pools → Grants code e w (λ size. object_grant code size (object_at n w) w) (GrantorOf.Library n)
library_grants code e k ops w n x h knows is stands there opened =
    let i = is_here code (kept e) k ops w n x h knows in
    (stands, there, λ size. here_grants code (kept e) n size x.ty w None is i ∙ (own_pool n size i.object w i.number ∙ open_grants n size w (block_pool_at n w.pools) (sym opened)))

pub library_gone : (code : Code) (e : Engine) (k : List T.Frame) (ops : List Word) (w : World) (n : ℕ) (x : Existing) → Holds code (kept e) k ops w → IsKnown n (Some x) e.stock.objects → None ≡ operation_for (λ x. x.allocate) code x.ty
    → false ≡ is_open_at n w.pools → Grants code e w (λ size. object_grant code size (object_at n w) w) GrantorOf.Gone
library_gone code e k ops w n x h knows is shut =
    let i = is_here code (kept e) k ops w n x h knows in
    λ size. here_grants code (kept e) n size x.ty w None is i ∙ (own_pool n size i.object w i.number ∙ shut_grants n size w (block_pool_at n w.pools) (sym shut))

-- the object of the part that a variable holds is the pool
pub held_grants : (code : Code) (e : Engine) (w : World) (y : Option Word) (n : ℕ) (r : Grantor) → Some n ≡ number_in y → Grants code e w (λ size. object_grant code size (object_at n w) w) r → Grants code e w (λ size. holder_grant code y size w) r
held_grants code e w None n r held g = absurd (cc)
held_grants code e w (Some x) n r held g = subst (λ i. Grants code e w (λ size. object_grant code size (object_at i w) w) r) (same_at n (object_of x) (Some n) refl held) g

pub none_grants : (code : Code) (e : Engine) (w : World) (y : Option Word) → None ≡ number_in y → Grants code e w (λ size. holder_grant code y size w) GrantorOf.Gone
none_grants code e w None held = λ size. refl
none_grants code e w (Some s) held = absurd (cc)

-- the access type has this pool
pub seen_grants : (code : Code) (e : Engine) (access : ℕ) (a : AccessHome) (s : State) (r : Grantor) → slice_get code.accesses.items access ≡ Some a → Grants code e s.world (λ size. grant code a.pool (first_display (heads_of s.world.activations)) size s.world) r
    → Grants code e s.world (storage_seen code access s) r
seen_grants code e access a s r found g = subst (λ (o : Option AccessHome). Grants code e s.world (λ size. grant code (pool_in o) (first_display (heads_of s.world.activations)) size s.world) r) (sym found) g

-- What comes of it -------------------------------------------------------------------------------------------

-- another world differs from this one in its pools alone
abbrev pub IsBeside : World → World → Type 0
IsBeside w v = v ≡ record w { pools = v.pools }

taken_beside : (full : Bool) (n : ℕ) (w v : World) (place : Place) → block_unless full n w ≡ Granted place v → IsBeside w v
unfolding opened_changes
taken_beside true n w v place is = absurd (cc)
taken_beside false n w v place is = let same : in_pools (take_block n) w ≡ v = cc in subst (λ (u : World). IsBeside w u) same refl

-- where storage was granted, the world is that, but for its pools
pub grants_beside : (code : Code) (e : Engine) (w v : World) (g : ℕ → Grant) (r : Grantor) (size : ℕ) (place : Place) → Grants code e w g r → g size ≡ Granted place v → IsBeside w v
grants_beside code e w v g GrantorOf.Standard size place grants is = let both = sym (grants size) ∙ is in let same : w ≡ v = cc in subst (λ (u : World). IsBeside w u) same refl
grants_beside code e w v g (GrantorOf.Library n) size place grants is = taken_beside (is_exhausted_at n size w.pools) n w v place (sym (grants.2 size) ∙ is)
grants_beside code e w v g (GrantorOf.User n f) size place grants is = let both = sym (grants.asks size) ∙ is in absurd (cc)
grants_beside code e w v g GrantorOf.Gone size place grants is = let both = sym (grants size) ∙ is in absurd (cc)

-- none of the user's is asked
pub no_user : (r : Grantor) → ((n f : ℕ) → r ≡ GrantorOf.User n f → ⊥) → AsksNoUser r
no_user GrantorOf.Standard none = tt
no_user (GrantorOf.Library n) none = tt
no_user (GrantorOf.User n f) none = none n f refl
no_user GrantorOf.Gone none = tt

unless_asks : (full : Bool) (n : ℕ) (w : World) (o : Object) (f : ℕ) → block_unless full n w ≡ AllocateOf o f → ⊥
unless_asks true n w o f is = cc
unless_asks false n w o f is = cc

pub asks_none : (code : Code) (e : Engine) (w : World) (g : ℕ → Grant) (r : Grantor) (size : ℕ) (o : Object) (f : ℕ) → Grants code e w g r → AsksNoUser r → g size ≡ AllocateOf o f → ⊥
asks_none code e w g GrantorOf.Standard size o f grants none is = let both = sym (grants size) ∙ is in cc
asks_none code e w g (GrantorOf.Library n) size o f grants none is = unless_asks (is_exhausted_at n size w.pools) n w o f (sym (grants.2 size) ∙ is)
asks_none code e w g (GrantorOf.User n h) size o f grants none is = absurd none
asks_none code e w g GrantorOf.Gone size o f grants none is = let both = sym (grants size) ∙ is in cc

-- or it is, for the object of this number
pub asked_pool : (code : Code) (e : Engine) (n f : ℕ) (g : ℕ → Grant) → IsUsers code e n f g
    → (object_in n e.stock.objects ≡ Some (object_or n e.stock.objects)) × (operation_for (λ x. x.allocate) code (object_or n e.stock.objects).ty ≡ Some f)
asked_pool code e n f g u =
    let same : u.object ≡ object_or n e.stock.objects = sym (object_or_is n e.stock.objects u.object u.found) in
    (u.found ∙ ap (λ (o : Object). Some o) same, subst (λ (o : Object). operation_for (λ x. x.allocate) code o.ty ≡ Some f) same u.operation)

-- An object is put there -------------------------------------------------------------------------------------

-- each cell of an object has its storage units
record_units : (code : Code) (t : ℕ) (o : Option Layout) → IsValid code → slice_get code.layouts.items t ≡ o → 8 * size_in o ≤ units_in o
record_units code t None v is = omega arith
record_units code t (Some x) v is = (v.layouts t x is).units

pub units_suffice : (code : Code) (of : Ty) → IsValid code → 8 * cells_for code of ≤ units_for code of
units_suffice code (Record t) v = record_units code t (slice_get code.layouts.items t) v refl
units_suffice code of v = omega arith

-- the stock has one object more, and its needs are the same
pub member_kept : (e : Kept) (x : Stock) (next set : ℕ) (of : Ty) (size cells : ℕ) (place : Place) → next ≡ e.next_object → size ≡ cells → x.objects ≡ e.objects ++ new_object next of (replicate size 0) (Allocated set place) ∷ [] → x.needs ≡ e.needs
    → record (with_stock x e) { next_object = e.next_object + 1 } ≡ with_new_member set of place (replicate cells 0) x e
member_kept e x next set of size cells place at all objects needs =
    ap (λ (os : List Object). record (with_stock x e) { objects = os; next_object = e.next_object + 1 }) objects
    ∙ (ap (λ l. record (with_stock x e) { objects = e.objects ++ new_object next of (replicate size 0) (Allocated set place) ∷ []; needs = l; next_object = e.next_object + 1 }) needs
    ∙ (ap (λ n. with_so n size) at ∙ ap (λ n. with_so e.next_object n) all))
  where
    with_so : ℕ → ℕ → Kept
    with_so n count = record e { objects = e.objects ++ new_object n of (replicate count 0) (Allocated set place) ∷ []; sizes = x.sizes; blocks = x.blocks; given = x.given; next_object = e.next_object + 1 }

-- in the standard pool
pub standard_shown : (code : Code) (set next : ℕ) (of : Ty) (w : World) (x : Stock) → ShowsPools next w.pools x → ShowsPools next (with_member code set of Standard w).pools x
unfolding opened_changes
standard_shown code set next of w x h = h

-- in a block
pub block_shown : (code : Code) (set n a next : ℕ) (of : Ty) (v : World) (x : Stock) → ShowsPools next (hold_block n a v.ledger.next_object v.pools) x → ShowsPools next (with_member code set of (InBlock n a) v).pools x
unfolding opened_changes
block_shown code set n a next of v x h = h

-- the block that went out
abbrev pub IsPutThere : Code → Kept → Kept → ℕ → Ty → ℕ → ℕ → ℕ → World → Type 0
IsPutThere code old new set of n size a w = (new ≡ with_new_member set of (InBlock n a) (replicate (cells_for code of) 0) (stock_of new) old) × ShowsPools (old.next_object + 1) (hold_block n a old.next_object (with_taken n size w.pools)) (stock_of new)

pub adds_block : (code : Code) (old new : Kept) (k : List T.Frame) (ops : List Word) (set : ℕ) (of : Ty) (n size a : ℕ) (w : World) → Holds code old k ops w → Some a ≡ taken_at n size w.pools → IsPutThere code old new set of n size a w → Adds code old new set of w (pool_grants n size w)
unfolding opened_changes
adds_block code old new k ops set of n size a w h taken put = by (is_exhausted_at n size w.pools) taken put.1
  where
    by : (full : Bool) → Some a ≡ (if full then None else Some w.pools.next_address) → ShowsPools (old.next_object + 1) (hold_block n a old.next_object (if full then w.pools else take_block n w.pools)) (stock_of new) → Adds code old new set of w (block_unless full n w)
    by true e shown = absurd (cc)
    by false e shown =
        let same : a ≡ w.pools.next_address = same_at a w.pools.next_address (Some a) refl e in
        let v : World = in_pools (take_block n) w in
        let at : v.ledger.next_object ≡ old.next_object = h.next_object in
        record {
          granted = refl;
          member = subst (λ i. IsNewMember code old new set of (InBlock n i) v) same (record {
            kept = put.0;
            pools = block_shown code set n a (old.next_object + 1) of v (stock_of new) (subst (λ i. ShowsPools (old.next_object + 1) (hold_block n a i (take_block n w.pools)) (stock_of new)) (sym at) shown);
          });
        }

-- no block is free
pub lacks_block : (n size : ℕ) (w : World) → None ≡ taken_at n size w.pools → Lacks (pool_grants n size w) (ModeOf.Transfers (WayOf.Raise 2))
lacks_block n size w taken = by (is_exhausted_at n size w.pools) taken
  where
    by : (full : Bool) → None ≡ (if full then None else Some w.pools.next_address) → Lacks (block_unless full n w) (ModeOf.Transfers (WayOf.Raise 2))
    by true e = refl
    by false e = absurd (cc)

-- two changes, of which the first keeps all
pub goes_both : (old mid new : Engine) (mode : Mode) → GoesOn old mid old.mode old.cells.items → GoesOn mid new mode mid.cells.items → GoesOn old new mode old.cells.items
goes_both old mid new mode a b = record { mode = b.mode; kept = b.kept ∙ a.kept; events = b.events ∙ a.events; picks = b.picks ∙ a.picks }

-- what comes of it is the same, where room was made before
pub serves_after : (code : Code) (old mid new : Engine) (set : ℕ) (of : Ty) (w : World) (g : Grant) (r : Option Mode) → GoesOn old mid old.mode old.cells.items → Serves code mid new set of w g r → Serves code old new set of w g r
serves_after code old mid new set of w g None a h = subst (λ (e : Kept). Adds code e (kept new) set of w g) a.kept h
serves_after code old mid new set of w g (Some mode) a h = (h.0, goes_both old mid new old.mode a (subst (λ (m : Mode). GoesOn mid new m mid.cells.items) a.mode h.1))
