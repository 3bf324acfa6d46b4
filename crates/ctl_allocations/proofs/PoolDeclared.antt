-- A pool is declared: its discriminants are read, and its object is created as the pool opens (13.11).
use Rattle.std.proofs.Common.{◌≡◌, ℕ, ◌+◌, ◌-◌, ◌<◌, ◌≤◌, List, [], Option, Some, None, Bool, true, false, length, refl, sym, ap, ◌∙◌, subst, arith, drop, replicate, reverse}
use Rattle.std.specs.Prelude.{IfSome, if◌then◌else◌, is_some, nat_le, slice_get}
use Rattle.std.specs.Option.{option_map}
use Rattle.std.specs.FinMap.{get}
use Rattle.std.proofs.lemmas.Bool.Decides.{nat_tests}
use Rattle.std.proofs.lemmas.Option.{slice_get_within}
use Rattle.ctl_program.specs.declared.types.Root.TheVariants as RootOf
use Rattle.ctl_program.specs.declared.types.Ty.TheVariants.{Count, Record}
use Rattle.ctl_tree.specs.declared.event.Owner.TheVariants as OwnerOf
use Rattle.ctl_meaning.specs.Changes.{in_pools, new_object, opened_changes}
use Rattle.ctl_program.specs.Limits.{greatest_block_count, greatest_block_size, least_block_count, least_block_size}
use Rattle.ctl_meaning.specs.Lists.{last_of, opened_lists}
use Rattle.ctl_meaning.specs.Masters.{good_discriminants, lies_between}
use Rattle.ctl_meaning.specs.Outcome.{ByRaise, constraint_error}
use Rattle.ctl_meaning.specs.Pools.{block_pool_at, push_block_pool, opened_pools}
use Rattle.ctl_meaning.specs.World as W
use Rattle.ctl_meaning.specs.World.{Declared, World}
use Rattle.ctl_code.specs.declared.kinds.Kind.{Kind}
use Rattle.ctl_code.specs.declared.code.Code.{Code}
use Rattle.ctl_code.specs.declared.code.DiscriminantOrder.{DiscriminantOrder}
use Rattle.ctl_code.specs.declared.code.Instr.TheVariants.{DeclarePool}
use Rattle.ctl_code.specs.declared.code.Way.TheVariants as WayOf
use Rattle.ctl_code.specs.States as T
use Rattle.ctl_code.specs.States.{Move, Scalar, State, Word}
use Rattle.ctl_code.specs.Table as Table
use Rattle.ctl_code.specs.Table.{Here, behind_declaration, by_instr, by_pool, create_object, pool_size, size_of, transfers}
use Rattle.ctl_code.specs.Fits.{OwnsOne}
use Rattle.ctl_code.specs.Windows.{OwnsSlot}
use Rattle.ctl_storage.specs.Calls.{IsBlockPoolSize}
use Rattle.ctl_storage.specs.Storage as Storage
use Rattle.ctl_storage.specs.Storage.{exists}
use Rattle.ctl_storage.specs.declared.pools.PoolSize.{PoolSize}
use Rattle.ctl_objects.specs.Pools.{ShowsPools}
use Rattle.ctl_objects.specs.Stock.{Stock}
use Rattle.ctl_engine.specs.declared.engine.Engine.{Engine}
use Rattle.ctl_frames.specs.declared.frame.Master.{Master}
use Rattle.ctl_frames.specs.declared.frame.Mode.TheVariants as ModeOf
use Rattle.ctl_frames.specs.declared.frame.Owned.{Owned}
use Rattle.ctl_engine.specs.Declaring.{IsDeclared, IsSize, NewObject, with_object, with_pool}
use Rattle.ctl_frames.specs.Masters.{first_display, first_window, heads_of}
use Rattle.ctl_engine.specs.Moves.{Before, GoesOn, Inside, Makes, here_of}
use Rattle.ctl_engine.specs.Shows.{Holds, Kept, kept, stock_of}
use Rattle.ctl_engine.proofs.Following.{makes_later}
use Rattle.ctl_engine.proofs.Newborn.{declaration_is, declared_in, has_object, row_of}
use Rattle.ctl_frames.proofs.Newest.{newest_object, newest_object_is}
use Rattle.ctl_frames.proofs.Lists.{eq_same}
use Rattle.ctl_engine.proofs.Operands.{AreNewest, are_newest}
use Rattle.ctl_engine.proofs.Owned.{new_found}
use Rattle.ctl_engine.proofs.Plain.{transfers_makes}
use Rattle.ctl_engine.proofs.Stocked.{with_pools}

-- The discriminants ------------------------------------------------------------------------------------

-- what stands below the two operands
abbrev pub below_pool : (code : Code) (e : Engine) (place slot t at : ℕ) (order : DiscriminantOrder) (s : State) → Before code e place (DeclarePool slot t order at) s → List Kind
below_pool code e place slot t at order s b = b.fine.1.0

-- they are the two newest operands
pub discriminants : (code : Code) (e : Engine) (place slot t at : ℕ) (order : DiscriminantOrder) (s : State) → (b : Before code e place (DeclarePool slot t order at) s) → AreNewest code (kept e) at (below_pool code e place slot t at order s b) s.control s.operands s.world
discriminants code e place slot t at order s b =
    let under = b.fine.1 in
    are_newest code (kept e) at Count Count under.0 s.control s.operands s.world tt tt (subst (λ (l : List Kind). Inside code (kept e) l s.control s.operands s.world) under.1 b.inside) under.2.0

pub discriminants_within : (code : Code) (e : Engine) (place slot t at : ℕ) (order : DiscriminantOrder) (s : State) → Before code e place (DeclarePool slot t order at) s → first_window (reverse e.masters.items) + (at + 1) < length e.cells.items
discriminants_within code e place slot t at order s b =
    let d = discriminants code e place slot t at order s b in
    slice_get_within e.cells.items (first_window (reverse e.masters.items) + (at + 1)) d.upper d.upper_read

-- what the table makes of them
pool_move : (code : Code) (e : Engine) (place slot t at : ℕ) (order : DiscriminantOrder) (s : State) → (b : Before code e place (DeclarePool slot t order at) s) → (let d = discriminants code e place slot t at order s b in by_instr code (Some (DeclarePool slot t order at)) s.operands (here_of place s) ≡ by_pool code slot t (pool_size order d.lower d.upper) d.rest (here_of place s))
pool_move code e place slot t at order s b =
    let d = discriminants code e place slot t at order s b in
    ap (λ (l : List Word). by_instr code (Some (DeclarePool slot t order at)) l (here_of place s)) d.are

-- the declaration goes on with what stands below them
pub behind_pool : (code : Code) (e : Engine) (place slot t at : ℕ) (order : DiscriminantOrder) (s : State) → (b : Before code e place (DeclarePool slot t order at) s) → drop 2 s.operands ≡ (discriminants code e place slot t at order s b).rest
behind_pool code e place slot t at order s b = ap (λ (l : List Word). drop 2 l) (discriminants code e place slot t at order s b).are

-- Bad ones ---------------------------------------------------------------------------------------------

-- good ones are those that a pool may have
good_size : (size count : ℕ) → good_discriminants RootOf.BlockPool (size, count) ≡ true → IsBlockPoolSize size count
unfolding good_discriminants lies_between
good_size size count good =
    let low : least_block_size ≤ size = grind (arith, nat_tests, good) in
    let high : size ≤ greatest_block_size = grind (arith, nat_tests, good) in
    let least : least_block_count ≤ count = grind (arith, nat_tests, good) in
    let most : count ≤ greatest_block_count = grind (arith, nat_tests, good) in
    (low, high, least, most)

-- and so all others are bad
pub are_bad : (size count : ℕ) → (IsBlockPoolSize size count → ⊥) → good_discriminants RootOf.BlockPool (size, count) ≡ false
are_bad size count none = by (good_discriminants RootOf.BlockPool (size, count)) refl
  where
    by : (b : Bool) → good_discriminants RootOf.BlockPool (size, count) ≡ b → b ≡ false
    by true good = absurd (none (good_size size count good))
    by false good = refl

-- they raise Constraint_Error
pub bad_makes : (code : Code) (old new : Engine) (place slot t at : ℕ) (order : DiscriminantOrder) (s : State) → (b : Before code old place (DeclarePool slot t order at) s) → (let d = discriminants code old place slot t at order s b in IsSize order d.lower d.upper None)
    → GoesOn old new (ModeOf.Transfers (WayOf.Raise 0)) old.cells.items → Makes code old new (by_instr code (Some (DeclarePool slot t order at)) s.operands (here_of place s))
unfolding constraint_error
bad_makes code old new place slot t at order s b bad g =
    let d = discriminants code old place slot t at order s b in
    subst (λ (m : Move). Makes code old new m) (sym (pool_move code old place slot t at order s b ∙ raises (pool_size order d.lower d.upper) bad))
    (transfers_makes code old new (WayOf.Raise 0) tt (below_pool code old place slot t at order s b) s.control d.rest s.world d.left g)
  where
    raises : (size : ℕ × ℕ) → good_discriminants RootOf.BlockPool size ≡ false → by_pool code slot t size (discriminants code old place slot t at order s b).rest (here_of place s) ≡ transfers (ByRaise constraint_error) s.control s.world
    raises size e = rw e refl

-- Good ones --------------------------------------------------------------------------------------------

-- those that a pool may have are good
are_good : (size count : ℕ) → IsBlockPoolSize size count → good_discriminants RootOf.BlockPool (size, count) ≡ true
unfolding good_discriminants lies_between
are_good size count h =
    let low : nat_le least_block_size size ≡ true = grind (arith, nat_tests, h.0) in
    let high : nat_le size greatest_block_size ≡ true = grind (arith, nat_tests, h.1) in
    let least : nat_le least_block_count count ≡ true = grind (arith, nat_tests, h.2) in
    let most : nat_le count greatest_block_count ≡ true = grind (arith, nat_tests, h.3) in
    rw (low, high, least, most) refl

-- the object is created as the pool opens
pool_begins : (code : Code) (slot t : ℕ) (size : ℕ × ℕ) (ops : List Word) (h : Here) → good_discriminants RootOf.BlockPool size ≡ true
    → by_pool code slot t size ops h ≡ create_object code T.ByPoolDeclaration (Table.newborn h.world.ledger.next_object t (OwnerOf.Master (last_of h.display))) (behind_declaration ops h) h.control (Table.with_pool code h.display slot t size h.world)
pool_begins code slot t size ops h good = rw good refl

-- the discriminants of a pool, where they are kept
abbrev pub size_kept : Option PoolSize → ℕ × ℕ
size_kept None = (0, 0)
size_kept (Some x) = (x.block_size, x.block_count)

-- the object, where the pool is of this size
abbrev pub pool_in : Code → ℕ → ℕ → ℕ → State → ℕ × ℕ → NewObject
pool_in code place slot t s size = declared_in place (drop 2 s.operands) s (Table.with_pool code (first_display (heads_of s.world.activations)) slot t size s.world)

-- how the table goes on with it, where a master of this number owns it
abbrev pub pool_comes : Code → ℕ → ℕ → NewObject → Move
pool_comes code t master x = create_object code T.ByPoolDeclaration (Table.newborn x.number t (OwnerOf.Master master)) x.point x.control x.world

-- good discriminants, which are of this size
pub good_move : (code : Code) (e : Engine) (place slot t at : ℕ) (order : DiscriminantOrder) (s : State) (x : PoolSize) → (b : Before code e place (DeclarePool slot t order at) s) → (let d = discriminants code e place slot t at order s b in IsSize order d.lower d.upper (Some x))
    → (let y = pool_in code (place + 1) slot t s (x.block_size, x.block_count) in by_instr code (Some (DeclarePool slot t order at)) s.operands (here_of place s) ≡ pool_comes code t (last_of y.point.display) y)
good_move code e place slot t at order s x b is =
    let d = discriminants code e place slot t at order s b in
    let h = here_of place s in
    pool_move code e place slot t at order s b
    ∙ (ap (λ size. by_pool code slot t size d.rest h) is.0
    ∙ (ap (λ (l : List Word). by_pool code slot t (x.block_size, x.block_count) l h) (sym (behind_pool code e place slot t at order s b))
    ∙ pool_begins code slot t (x.block_size, x.block_count) (drop 2 s.operands) h (are_good x.block_size x.block_count is.1)))

-- The pool ---------------------------------------------------------------------------------------------

-- no pool is kept under the number of the next object
pub no_pool : (next : ℕ) (x : W.Pools) (s : Stock) → ShowsPools next x s → get s.sizes next ≡ None
no_pool next x s h = h.held.shown.sizes next ∙ none (block_pool_at next h.kept) (h.held.shown.pools next)
  where
    none : (p : Option W.BlockPool) → IfSome p (λ q. next < next) → option_map Storage.size_of p ≡ None
    none None less = refl
    none (Some q) less = absurd (omega (arith, less))

-- a new pool is found under its number
pushed : (n size count : ℕ) (x : W.Pools) → block_pool_at n (push_block_pool n size count x) ≡ Some (record { object = n; is_open = true; block_size = size; block_count = count; free = count; out = [] })
unfolding opened_pools opened_lists
pushed n size count x = rw (eq_same n n refl) refl

-- the discriminants that are kept of a new pool
pool_there : (next n size count : ℕ) (x : W.Pools) (s : Stock) → ShowsPools next (push_block_pool n size count x) s → exists n s.objects ≡ true → get s.sizes n ≡ Some (record { block_size = size; block_count = count })
pool_there next n size count x s h there =
    let kept = sym (ap (λ (b : Bool). if b then block_pool_at n h.kept else None) there) ∙ (sym (h.existing.pools n) ∙ pushed n size count x) in
    h.held.shown.sizes n ∙ ap (λ (p : Option W.BlockPool). option_map Storage.size_of p) kept

-- the machine shows a world with other pools
other_pools : (code : Code) (e : Kept) (y : Stock) (f : W.Pools → W.Pools) (k : List T.Frame) (ops : List Word) (w : World) → Holds code e k ops w → ShowsPools e.next_object (f w.pools) (stock_of (with_pools y e)) → Holds code (with_pools y e) k ops (in_pools f w)
unfolding opened_changes
other_pools code e y f k ops w h pools = record {
  cells = h.cells;
  room = h.room;
  masters = h.masters;
  below = h.below;
  waits = h.waits;
  objects = h.objects;
  needs = h.needs;
  pools = pools;
  owns = h.owns;
  held = h.held;
  rise = h.rise;
  next_master = h.next_master;
  next_object = h.next_object;
  next_collection = h.next_collection;
  collections = h.collections;
  left = h.left;
  saved = h.saved;
  noted = h.noted;
}

-- a pool of this size opens under the number of the next object
abbrev pub OpensPool : Kept → PoolSize → Stock → Type 0
OpensPool e size new = (x : W.Pools) → ShowsPools e.next_object x (stock_of e) → ShowsPools (e.next_object + 1) (push_block_pool e.next_object size.block_size size.block_count x) new

-- the newest object of an engine, whose pool is open
abbrev pub pool_newest : Code → Engine → ℕ → ℕ → State → NewObject
pool_newest code e place t s = pool_in code place (newest_object e.owned.items).slot t s (size_kept (get e.stock.sizes e.numbered.objects))

-- a pool of this size stands in its slot
pub record IsPoolMade (code : Code) (made : Engine) (place slot t : ℕ) (s : State) (size : PoolSize) : Type 0 where
  pub is : pool_newest code made place t s ≡ pool_in code place slot t s (size.block_size, size.block_count)
  pub newest : IsDeclared code made t place (pool_newest code made place t s)

-- its object is created in an engine that keeps what the old one keeps
pub pool_made : (code : Code) (old ready made : Engine) (place slot t at cells : ℕ) (order : DiscriminantOrder) (s : State) (m : Master) (size : PoolSize) → Before code old place (DeclarePool slot t order at) s → slice_get old.masters.items (length old.masters.items - 1) ≡ Some m
    → kept ready ≡ kept old → kept made ≡ with_pool made.stock m slot t (replicate cells 0) (kept ready) → cells ≡ size_of code t → made.numbered.objects ≡ ready.numbered.objects + 1 → OpensPool (kept ready) size made.stock → IsPoolMade code made (place + 1) slot t s size
unfolding opened_changes
pool_made code old ready made place slot t at cells order s m size b newest same made_so many given opens =
    let d = discriminants code old place slot t at order s b in
    let below = below_pool code old place slot t at order s b in
    let inside = subst (λ (l : List Word). Inside code (kept old) below s.control l s.world) (sym (behind_pool code old place slot t at order s b)) d.left in
    let ops = drop 2 s.operands in
    let w = s.world in
    let next = old.numbered.objects + 1 in
    let seen = first_display (heads_of w.activations) in
    let owns : OwnsOne below = (slot, subst (λ stack. OwnsSlot stack slot) b.fine.1.1 b.fine.2) in
    let has = has_object code old below slot t s ops m inside owns newest in
    let e : Kept = with_object m slot t (replicate (size_of code t) 0) (kept old) in
    let are : kept made ≡ with_pool made.stock m slot t (replicate (size_of code t) 0) (kept old) =
    made_so ∙ (ap (λ (y : Kept). with_pool made.stock m slot t (replicate cells 0) y) same ∙ ap (λ n. with_pool made.stock m slot t (replicate n 0) (kept old)) many) in
    let created = Table.with_object code seen slot t w in
    let h : Holds code e s.control ops created = subst (λ (k : List T.Frame). Holds code e k ops created) (sym has.control) has.made.holds in
    let number : next ≡ w.ledger.next_object = sym inside.holds.next_object in
    let at_next : made.numbered.objects ≡ next = given ∙ ap (λ (y : Kept). y.next_object) same in
    let shown : ShowsPools (next + 1) (push_block_pool next size.block_size size.block_count w.pools) made.stock = subst (λ (y : Kept). OpensPool y size made.stock) same opens w.pools inside.holds.pools in
    let pools : ShowsPools (next + 1) (push_block_pool w.ledger.next_object size.block_size size.block_count w.pools) (stock_of (with_pools made.stock e)) =
    subst (λ n. ShowsPools (next + 1) (push_block_pool n size.block_size size.block_count w.pools) (stock_of (with_pools made.stock e))) number
    (subst (λ (y : Stock). ShowsPools (next + 1) (push_block_pool next size.block_size size.block_count w.pools) y) (ap stock_of are) shown) in
    let holds = other_pools code e made.stock (push_block_pool w.ledger.next_object size.block_size size.block_count) s.control ops created h pools in
    let x = new_object next (Record t) (replicate (size_of code t) 0) (Declared m.number) in
    let found : exists next made.stock.objects ≡ true = ap (λ (y : Kept). exists next y.objects) are ∙ ap (λ (o : Option W.Object). is_some o) (new_found old.owned.items next old.stock.objects x inside.holds.owns refl) in
    let sized : get made.stock.sizes made.numbered.objects ≡ Some size = subst (λ n. get made.stock.sizes n ≡ Some size) (sym at_next) (pool_there (next + 1) next size.block_size size.block_count w.pools made.stock shown found) in
    let there : (newest_object made.owned.items).slot ≡ slot = ap (λ (y : Kept). (newest_object y.owned).slot) are ∙ ap (λ (o : Owned). o.slot) (newest_object_is old.owned.items (row_of m slot t (kept old))) in
    let is : pool_newest code made (place + 1) t s ≡ pool_in code (place + 1) slot t s (size.block_size, size.block_count) =
    ap (λ n. pool_in code (place + 1) n t s (size_kept (get made.stock.sizes made.numbered.objects))) there
    ∙ ap (λ (o : Option PoolSize). pool_in code (place + 1) slot t s (size_kept o)) sized in
    record {
      is = is;
      newest = subst (λ (y : NewObject). IsDeclared code made t (place + 1) y) (sym is)
          (declaration_is code old made (place + 1) slot t below ops s m made.stock (Table.with_pool code seen slot t (size.block_size, size.block_count) w) inside owns b.fine.1.2.1 newest are holds has.made.heads);
    }

-- and it is created, where good discriminants stand
pub pool_makes : (code : Code) (old made new : Engine) (place slot t at : ℕ) (order : DiscriminantOrder) (s : State) (size : PoolSize) → (b : Before code old place (DeclarePool slot t order at) s) → (let d = discriminants code old place slot t at order s b in IsSize order d.lower d.upper (Some size))
    → IsPoolMade code made (place + 1) slot t s size → (master : ℕ) → last_of (first_display (heads_of s.world.activations)) ≡ master → made.events.items ≡ old.events.items → made.picks.items ≡ old.picks.items
    → Makes code made new (pool_comes code t master (pool_newest code made (place + 1) t s)) → Makes code old new (by_instr code (Some (DeclarePool slot t order at)) s.operands (here_of place s))
pool_makes code old made new place slot t at order s size b good pool master own events picks goes =
    let x = pool_in code (place + 1) slot t s (size.block_size, size.block_count) in
    let same : by_instr code (Some (DeclarePool slot t order at)) s.operands (here_of place s) ≡ pool_comes code t master (pool_newest code made (place + 1) t s) =
    good_move code old place slot t at order s size b good ∙ (ap (λ n. pool_comes code t n x) own ∙ ap (λ (y : NewObject). pool_comes code t master y) (sym pool.is)) in
    subst (λ (m : Move). Makes code old new m) (sym same) (makes_later code old made new _ events picks goes)
