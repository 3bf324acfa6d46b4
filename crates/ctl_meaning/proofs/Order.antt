-- The objects of a world stand in the order of their numbers, whatever is done.
use Rattle.std.proofs.Common.{◌≡◌, refl, sym, ap, subst, arith, ℕ, zero, suc, ◌+◌, ◌<◌, List, [], ◌∷◌, ◌++◌, Option, Some, None, Bool, true, false, ◌||◌, if◌then◌else◌}
use Rattle.ctl_program.specs.declared.types.Ty.{Ty}
use Rattle.ctl_program.specs.declared.statement.Stmt.{Stmt}
use Rattle.ctl_program.specs.declared.program.Checked.{Checked}
use Rattle.ctl_tree.specs.declared.event.Event.{Event}
use Rattle.ctl_tree.specs.declared.ending.Stop.{Stop}
use Rattle.ctl_tree.specs.declared.event.Cause.{Cause}
use Rattle.ctl_meaning.specs.World.{Place, Standard, InBlock, InSubpool, Allocated, Origin, Finalized, Object, Member, Log, World, empty_world}
use Rattle.ctl_meaning.specs.Lists.{keep, change_each, change_first}
use Rattle.ctl_meaning.specs.Ledger.{take_number, enter_master, push_layer, drop_layer, drop_master, push_collection, start_sets}
use Rattle.ctl_meaning.specs.Objects.{change_in, with_cells, with_begun, with_joined, with_finalized, is_untouched}
use Rattle.ctl_meaning.specs.Changes.{take_object_number, object_at, new_object, create, create_at, put_into, write_cells, forget, forget_all, open_master, close_master, add_layer, take_layer, set_slot, set_value, add_collection, start_collections, join, begin_finalization, end_finalization, in_pools, close_pool_at, empty_subpool}
use Rattle.ctl_meaning.specs.Members.{Group, candidates_of}
use Rattle.ctl_meaning.specs.Choice.{Ask, picked}
use Rattle.ctl_meaning.specs.Outcome.{Result, Goes, Leaves, Out, Gives, Stops, Cut, Act, Done, add, bind, given, then_always, stop, counted, spend, look, change, show, after_pick, answered, choose, leave_by, nothing, done, ticked, on_goes, either, on_some, ◌>>=◌, ◌>>◌}
use Rattle.ctl_meaning.specs.Types.{Tables, tables_of}
use Rattle.ctl_meaning.specs.Names.{Execution, OfSubprogram, OfAllocator, Call, Tools, existing, must_exist, gone}
use Rattle.ctl_meaning.specs.Finalization.{finalize_begun, finalize_object, finalize_one, finalize_members, finalize_group}
use Rattle.ctl_meaning.specs.Allocation.{is_new, set_of, join_collection}
use Rattle.ctl_meaning.specs.Statements.{turned, turns, loop, one_turn, while, exec}
use Rattle.ctl_meaning.specs.Run.{meaning_of, completed, execute, execution, tools_with}
use Rattle.ctl_meaning.specs.Emptied.{AllAbove, Ascend, AllBelow, numbers_of, InOrder, StaysInOrder}
use Rattle.ctl_meaning.proofs.Candidates.{ascend_kept}
use Rattle.ctl_meaning.proofs.Relation.{Edit, numbers, creates, creates_at, writes, forgets, opens, closes, layers, takes, sets, assigns, gathers, starts, begins, ends, stores, shuts, empties, Closed}
use Rattle.ctl_meaning.proofs.Bodies.{good_run_number, good_allocate, good_exec}

-- Lists of objects ------------------------------------------------------------------------

above_behind : (n m : ℕ) (xs : List ℕ) → n < m → AllAbove n xs → AllAbove n (xs ++ m ∷ [])
above_behind n m [] h i = (h, tt)
above_behind n m (x ∷ xs) h i = (i.0, above_behind n m xs h i.1)

ascend_behind : (m : ℕ) (xs : List ℕ) → AllBelow m xs → Ascend xs → Ascend (xs ++ m ∷ [])
ascend_behind m [] h i = (tt, tt)
ascend_behind m (x ∷ xs) h i = (above_behind x m xs h.0 i.0, ascend_behind m xs h.1 i.1)

below_behind : (n m : ℕ) (xs : List ℕ) → m < n → AllBelow n xs → AllBelow n (xs ++ m ∷ [])
below_behind n m [] h i = (h, tt)
below_behind n m (x ∷ xs) h i = (i.0, below_behind n m xs h i.1)

below_more : (n : ℕ) (xs : List ℕ) → AllBelow n xs → AllBelow (n + 1) xs
below_more n [] h = tt
below_more n (x ∷ xs) h = let i = h.0 in (omega arith, below_more n xs h.1)

numbers_behind : (os : List Object) (o : Object) → numbers_of (os ++ o ∷ []) ≡ numbers_of os ++ o.number ∷ []
numbers_behind [] o = refl
numbers_behind (p ∷ os) o = ap (λ ns. p.number ∷ ns) (numbers_behind os o)

below_if : (n : ℕ) (b : Bool) (o : Object) (os : List Object) → o.number < n → AllBelow n (numbers_of os) → AllBelow n (numbers_of (if b then o ∷ os else os))
below_if n true o os h i = (h, i)
below_if n false o os h i = i

below_kept : (p : Object → Bool) (n : ℕ) (os : List Object) → AllBelow n (numbers_of os) → AllBelow n (numbers_of (keep p os))
unfolding keep
below_kept p n [] h = tt
below_kept p n (o ∷ os) h = below_if n (p o) o (keep p os) h.0 (below_kept p n os h.1)

one_number : (f : Object → Object) → ((o : Object) → (f o).number ≡ o.number) → (b : Bool) (o : Object) → (if b then f o else o).number ≡ o.number
one_number f h true o = h o
one_number f h false o = refl

changed_numbers : (q : Object → Bool) (f : Object → Object) → ((o : Object) → (f o).number ≡ o.number) → (os : List Object) → numbers_of (change_each q f os) ≡ numbers_of os
unfolding change_each
changed_numbers q f h [] = refl
changed_numbers q f h (o ∷ os) = joined_numbers (one_number f h (q o) o) (changed_numbers q f h os)
  where
    joined_numbers : {a b : ℕ} {xs ys : List ℕ} → a ≡ b → xs ≡ ys → a ∷ xs ≡ b ∷ ys
    joined_numbers e i = cc

first_if : (f : Object → Object) → ((o : Object) → (f o).number ≡ o.number) → (b : Bool) (o : Object) (changed os : List Object) → numbers_of changed ≡ numbers_of os → numbers_of (if b then f o ∷ os else o ∷ changed) ≡ o.number ∷ numbers_of os
first_if f h true o changed os e = ap (λ n. n ∷ numbers_of os) (h o)
first_if f h false o changed os e = ap (λ ns. o.number ∷ ns) e

first_numbers : (q : Object → Bool) (f : Object → Object) → ((o : Object) → (f o).number ≡ o.number) → (os : List Object) → numbers_of (change_first q f os) ≡ numbers_of os
unfolding change_first
first_numbers q f h [] = refl
first_numbers q f h (o ∷ os) = first_if f h (q o) o (change_first q f os) os (first_numbers q f h os)

-- Changes ----------------------------------------------------------------------------------

finalized_number : (o : Object) → (with_finalized o).number ≡ o.number
unfolding with_finalized
finalized_number o = elim (is_untouched o.state) as (λ b. (if b then o else record o { state = Finalized }).number ≡ o.number) [ true ↦ refl | false ↦ refl ]

-- a world with these objects, and no number given
abbrev Stands : ℕ → List ℕ → Type 0
Stands next ns = Ascend ns × AllBelow next ns

same_order : (next : ℕ) (ns ms : List ℕ) → ms ≡ ns → Stands next ns → Stands next ms
same_order next ns ms e h = subst (λ x. Stands next x) (sym e) h

creates_order : (ty : Ty) (cells : List ℕ) (origin : Origin) (w : World) → InOrder w → InOrder (create ty cells origin w)
unfolding create new_object take_number
creates_order ty cells origin w h = record {
  ascend = subst Ascend (sym (numbers_behind w.objects _)) (ascend_behind w.ledger.next_object (numbers_of w.objects) h.below h.ascend);
  below = subst (λ ns. AllBelow (w.ledger.next_object + 1) ns) (sym (numbers_behind w.objects _)) (below_behind (w.ledger.next_object + 1) w.ledger.next_object (numbers_of w.objects) (omega arith) (below_more w.ledger.next_object (numbers_of w.objects) h.below));
}

numbers_order : (w : World) → InOrder w → InOrder (take_object_number w)
unfolding take_object_number take_number
numbers_order w h = record { ascend = h.ascend; below = below_more w.ledger.next_object (numbers_of w.objects) h.below }

puts_order : (p : Place) (n : ℕ) (w : World) → InOrder w → InOrder (put_into p n w)
unfolding put_into in_pools
puts_order Standard n w h = h
puts_order (InBlock p a) n w h = record { ascend = h.ascend; below = h.below }
puts_order (InSubpool s) n w h = h

changes_order : (q : Object → Bool) (f : Object → Object) → ((o : Object) → (f o).number ≡ o.number) → (w : World) → InOrder w → InOrder (record w { objects = change_each q f w.objects })
changes_order q f i w h = let s = same_order w.ledger.next_object (numbers_of w.objects) _ (changed_numbers q f i w.objects) (h.ascend, h.below) in record { ascend = s.0; below = s.1 }

keeps_order : (p : Object → Bool) (w : World) → InOrder w → Stands w.ledger.next_object (numbers_of (keep p w.objects))
keeps_order p w h = (ascend_kept p w.objects h.ascend, below_kept p w.ledger.next_object w.objects h.below)

edits_order : {f : World → World} → Edit f → (w : World) → InOrder w → InOrder (f w)
unfolding take_object_number create_at write_cells forget forget_all open_master enter_master close_master drop_master add_layer push_layer take_layer drop_layer set_slot set_value add_collection push_collection start_collections start_sets begin_finalization end_finalization in_pools close_pool_at empty_subpool change_in with_cells with_begun
edits_order numbers w h = numbers_order w h
edits_order (creates ty cells origin) w h = creates_order ty cells origin w h
edits_order (creates_at ty cells set place) w h = puts_order place w.ledger.next_object (create ty cells (Allocated set place) w) (creates_order ty cells (Allocated set place) w h)
edits_order (writes n offset v) w h = changes_order _ _ (λ o. refl) w h
edits_order (forgets n) w h = let s = keeps_order _ w h in record { ascend = s.0; below = s.1 }
edits_order (opens display slots) w h = record { ascend = h.ascend; below = h.below }
edits_order (closes n) w h = let s = keeps_order _ w h in record { ascend = s.0; below = s.1 }
edits_order (layers n x) w h = record { ascend = h.ascend; below = h.below }
edits_order (takes n) w h = record { ascend = h.ascend; below = h.below }
edits_order (sets n i x) w h = record { ascend = h.ascend; below = h.below }
edits_order (assigns n i x) w h = record { ascend = h.ascend; below = h.below }
edits_order (gathers n i x) w h = record { ascend = h.ascend; below = h.below }
edits_order (starts xs) w h = record { ascend = h.ascend; below = h.below }
edits_order (begins n) w h = changes_order _ _ (λ o. refl) w h
edits_order (ends n) w h = changes_order _ _ finalized_number w h
edits_order (stores f) w h = record { ascend = h.ascend; below = h.below }
edits_order (shuts n) w h = let s = keeps_order _ w h in record { ascend = s.0; below = s.1 }
edits_order (empties n) w h = let s = keeps_order _ w h in record { ascend = s.0; below = s.1 }

joins_order : (n : ℕ) (w : World) → InOrder w → InOrder (join n w)
unfolding join with_joined
joins_order n w h = let s = same_order w.ledger.next_object (numbers_of w.objects) _ (first_numbers _ with_joined (λ o. refl) w.objects) (h.ascend, h.below) in record { ascend = s.0; below = s.1 }

-- Acts --------------------------------------------------------------------------------------

-- from each world in order, an act leaves a world in order
pub record Keeping {A : Type 0} (m : Act A) : Type 0 where
  pub from : (c : ℕ) (l : Log) (w : World) → InOrder w → StaysInOrder (m c l w)

adds : {A : Type 0} (n : ℕ) (o : Out A) → StaysInOrder o → StaysInOrder (add n o)
unfolding add
adds n (Gives r t c l w) h = h
adds n (Stops s t l) h = tt
adds n (Cut t c l) h = tt

bound : {A B : Type 0} (o : Out A) (f : Result A → Act B) → StaysInOrder o → ((r : Result A) → Keeping (f r)) → StaysInOrder (bind o f)
unfolding bind
bound (Gives r t c l w) f h x = adds t (f r c l w) ((x r).from c l w h)
bound (Stops s t l) f h x = tt
bound (Cut t c l) f h x = tt

gives : {A : Type 0} (r : Result A) → Keeping (given r)
unfolding given
gives r = record { from = λ c l w h. h }

stopped : {A : Type 0} (s : Stop) → Keeping (stop {A = A} s)
unfolding stop
stopped s = record { from = λ c l w h. tt }

sequence : {A B : Type 0} {m : Act A} {f : Result A → Act B} → Keeping m → ((r : Result A) → Keeping (f r)) → Keeping (then_always m f)
unfolding then_always
sequence {m = m} {f = f} h x = record { from = λ c l w i. bound (m c l w) f (h.from c l w i) x }

counts : {A : Type 0} (n : ℕ) {m : Act A} → Keeping m → Keeping (counted n m)
unfolding counted
counts n {m = m} h = record { from = λ c l w i. adds n (m c l w) (h.from c l w i) }

spends_at : {A : Type 0} (m : Act A) → Keeping m → (c : ℕ) (l : Log) (w : World) → InOrder w → StaysInOrder (spend m c l w)
unfolding spend
spends_at m h zero l w i = tt
spends_at m h (suc c) l w i = h.from c l w i

spends : {A : Type 0} {m : Act A} → Keeping m → Keeping (spend m)
spends {m = m} h = record { from = spends_at m h }

looks : {A : Type 0} {f : World → Act A} → ((w : World) → Keeping (f w)) → Keeping (look f)
unfolding look
looks h = record { from = λ c l w. (h w).from c l w }

changes : {f : World → World} → Edit f → Keeping (change f)
unfolding change
changes e = record { from = λ c l w h. edits_order e w h }

shows : (e : Event) → Keeping (show e)
unfolding show
shows e = record { from = λ c l w h. h }

picked_at : (c : ℕ) (l : Log) (w : World) (o : Option (ℕ × Log)) → InOrder w → StaysInOrder (after_pick o c l w)
unfolding after_pick
picked_at c l w None h = tt
picked_at c l w (Some p) h = h

answers : (ask : Ask) (m : ℕ) → Keeping (answered ask m)
unfolding answered
answers ask m = record { from = λ c l w h. picked_at c l w (picked ask m l) h }

choice : {A : Type 0} (b : Bool) {m n : Act A} → Keeping m → Keeping n → Keeping (either b m n)
unfolding either
choice true h x = h
choice false h x = x

found : {A B : Type 0} (o : Option A) {m : Act B} {f : A → Act B} → Keeping m → ((x : A) → Keeping (f x)) → Keeping (on_some o m f)
unfolding on_some
found None h x = h
found (Some o) h x = x o

joining : (n : ℕ) → Keeping (change (join n))
unfolding change
joining n = record { from = λ c l w h. joins_order n w h }

enlists : (n : ℕ) → Keeping (join_collection n)
unfolding join_collection existing gone
enlists n = looks (λ w. found (object_at n w) (stopped _) (λ o. looks (λ w1. found (set_of o.origin w1) (stopped _) (λ c. choice (is_new o) (joining n) (stopped _)))))

turns_on : (m : Act Done) → Keeping m → (r : Result Bool) → Keeping (turned m r)
unfolding turned leave_by nothing
turns_on m h (Goes true) = h
turns_on m h (Goes false) = gives _
turns_on m h (Leaves y) = gives _

turns_at : (n : ℕ) (m : Act Bool) → Keeping m → (c : ℕ) (l : Log) (w : World) → InOrder w → StaysInOrder (turns n m c l w)
unfolding turns
turns_at zero m h c l w i = tt
turns_at (suc n) m h c l w i = (sequence h (turns_on (turns n m) (record { from = turns_at n m h }))).from c l w i

repeats : {m : Act Bool} → Keeping m → Keeping (loop m)
unfolding loop
repeats {m = m} h = record { from = λ c l w i. turns_at (suc c) m h c l w i }

goes_on : {A B : Type 0} {f : A → Act B} → ((a : A) → Keeping (f a)) → (r : Result A) → Keeping (on_goes f r)
unfolding on_goes
goes_on h (Goes a) = h a
goes_on h (Leaves y) = gives (Leaves y)

one_turns : {m : Act Done} → Keeping m → Keeping (one_turn m)
unfolding one_turn ticked done ◌>>◌
one_turns h = spends (counts 1 (sequence h (goes_on (λ a. gives (Goes true)))))

while_turns : {test : Act (List ℕ)} {m : Act Done} → Keeping test → Keeping m → Keeping (while test m)
unfolding while done ◌>>=◌
while_turns h x = sequence h (goes_on (λ v. choice _ (one_turns x) (gives (Goes false))))

then_goes : {A B : Type 0} {m : Act A} {n : Act B} → Keeping m → Keeping n → Keeping (m >> n)
unfolding ◌>>◌
then_goes h x = sequence h (goes_on (λ a. x))

object_finishes : (k : Tools) (cause : Cause) (m : Member) → Keeping (finalize_begun k cause m) → Keeping (finalize_object k cause m)
unfolding finalize_object must_exist existing gone nothing
object_finishes k cause m h = then_goes (then_goes (looks (λ w. found (object_at m.number w) (stopped _) (λ o. gives _))) (changes (begins _))) h

one_finishes : (k : Tools) (cause : Cause) → ((m : Member) → Keeping (finalize_begun k cause m)) → (f : Bool → Act Bool) → ((b : Bool) → Keeping (f b)) → (b : Bool) (ms : List Member) → Keeping (finalize_one k cause f b ms)
unfolding finalize_one choose done ◌>>=◌
one_finishes k cause h f x b [] = gives _
one_finishes k cause h f x b (m ∷ ms) = sequence (counts _ (answers k.ask _)) (goes_on (λ i. sequence (object_finishes k cause _ (h _)) (goes_on (λ d. x (b || d)))))

members_at : (k : Tools) (cause : Cause) (g : Group) → ((m : Member) → Keeping (finalize_begun k cause m)) → (n : ℕ) (b : Bool) (c : ℕ) (l : Log) (w : World) → InOrder w → StaysInOrder (finalize_members k cause g n b c l w)
unfolding finalize_members
members_at k cause g h zero b c l w i = tt
members_at k cause g h (suc n) b c l w i = (one_finishes k cause h _ (λ d. record { from = members_at k cause g h n d }) b (candidates_of k.tables g w)).from c l w i

finishes : (k : Tools) (cause : Cause) (g : Group) → ((m : Member) → Keeping (finalize_begun k cause m)) → Keeping (finalize_group k cause g)
unfolding finalize_group
finishes k cause g h = record { from = λ c l w i. members_at k cause g h _ false c l w i }

pub closed : (t : Tables) (ask : Ask) → Closed t ask ask (λ A m n. Keeping {A = A} m)
closed t ask = record {
  gives = gives;
  stops = stopped;
  joins = λ {A} {B} {m} {n} {f} {g} h x. sequence h x;
  counts = λ {A} i {m} {n} h. counts i h;
  spends = λ {A} {m} {n} h. spends h;
  looks = λ {A} {f} {g} h. looks h;
  changes = λ {f} e. changes e;
  shows = shows;
  answers = answers ask;
  finishes = λ call spare default fallback cause g h. finishes (record { ask = ask; tables = t; call = call; default = default }) cause g h;
  repeats = λ {m} {n} h. repeats (one_turns h);
  repeats_while = λ {test} {check} {m} {n} h x. repeats (while_turns h x);
}

completes : (i : ℕ) → Keeping (completed i)
unfolding completed done
completes i = then_goes (enlists i) (gives _)

takes_one : (call : Call) (env : List ℕ) (access : ℕ) (ty : Ty) {m : Act (Option (List ℕ) × Option (List ℕ))} → ((h v : Option (List ℕ)) → Keeping (call (OfAllocator access ty h v) env)) → Keeping m → Keeping (spend (m >>= (λ p. call (OfAllocator access ty p.0 p.1) env)))
unfolding ◌>>=◌
takes_one call env access ty h x = spends (sequence x (goes_on (λ p. h p.0 p.1)))

module _ (program : Checked) (ask : Ask) where
  abbrev Rel : (A : Type 0) → Act A → Act A → Type 0
  Rel = λ A m n. Keeping {A = A} m

  abbrev deep : ℕ → Call
  deep n = execution ask (meaning_of program) n

  executes : (n : ℕ) (x : Execution) (env : List ℕ) → Keeping (deep n x env)
  unfolding execution execute ticked ◌>>=◌
  executes zero x env = record { from = λ c l w i. tt }
  executes (suc n) (OfSubprogram f ss) env =
      record { from = λ c l w. (spends (counts 1 (good_run_number program ask ask (deep n) (deep n) Rel (closed (tables_of program) ask) (λ g xs e. executes n (OfSubprogram g xs) e) (λ e a ty m m1 h. takes_one (deep n) e a ty (λ x y. executes n (OfAllocator a ty x y) e) h) env ss f))).from c l w }
  executes (suc n) (OfAllocator a ty h v) env =
      record { from = λ c l w. (sequence (good_allocate program ask ask (deep n) (deep n) Rel (closed (tables_of program) ask) (λ g xs e. executes n (OfSubprogram g xs) e) (λ e b uy m m1 i. takes_one (deep n) e b uy (λ x y. executes n (OfAllocator b uy x y) e) i) env a ty h v) (goes_on completes)).from c l w }

  pub does : (n : ℕ) (s : Stmt) (env : List ℕ) (caught : ℕ) → Keeping (exec s (tools_with ask (meaning_of program) (deep n)) env caught)
  does n s env caught = good_exec program ask ask (deep n) (deep n) Rel (closed (tables_of program) ask) (λ g xs e. executes n (OfSubprogram g xs) e) (λ e a ty m m1 h. takes_one (deep n) e a ty (λ x y. executes n (OfAllocator a ty x y) e) h) s env caught

pub starts_in_order : InOrder empty_world
unfolding empty_world
starts_in_order = record { ascend = tt; below = tt }
