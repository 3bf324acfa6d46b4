-- Relations of acts that are kept by everything that acts are made of, and all changes of the world.
use Rattle.std.proofs.Common.{ℕ, List, [], ◌∷◌, Option, Some, None, Bool}
use Rattle.ctl_program.specs.declared.types.Ty.{Ty}
use Rattle.ctl_tree.specs.declared.ending.Stop.{Stop}
use Rattle.ctl_tree.specs.declared.event.Event.{Event}
use Rattle.ctl_tree.specs.declared.event.Cause.{Cause}
use Rattle.ctl_meaning.specs.World.{Member, Layer, Origin, Place, Slot, Pools, World}
use Rattle.ctl_meaning.specs.Changes.{take_object_number, create, create_at, write_cells, forget, open_master, close_master, add_layer, take_layer, set_slot, set_value, add_collection, start_collections, begin_finalization, end_finalization, in_pools, close_pool_at, empty_subpool}
use Rattle.ctl_meaning.specs.Members.{Group}
use Rattle.ctl_meaning.specs.Choice.{Ask}
use Rattle.ctl_meaning.specs.Outcome.{Result, Act, Done, given, then_always, stop, counted, spend, look, change, show, answered}
use Rattle.ctl_meaning.specs.Types.{Tables}
use Rattle.ctl_meaning.specs.Names.{Call as Caller, Default}
use Rattle.ctl_meaning.specs.Finalization.{finalize_begun, finalize_group}
use Rattle.ctl_meaning.specs.Statements.{loop, one_turn, while}

-- all changes of the world but a member's joining
pub data Edit : (World → World) → Type 0 where
  numbers : Edit take_object_number
  creates : (ty : Ty) (cells : List ℕ) (origin : Origin) → Edit (create ty cells origin)
  creates_at : (ty : Ty) (cells : List ℕ) (set : ℕ) (place : Place) → Edit (create_at ty cells set place)
  writes : (n offset : ℕ) (v : List ℕ) → Edit (write_cells n offset v)
  forgets : (n : ℕ) → Edit (forget n)
  opens : (display : List ℕ) (slots : List Slot) → Edit (open_master display slots)
  closes : (n : ℕ) → Edit (close_master n)
  layers : (n : ℕ) (x : Layer) → Edit (add_layer n x)
  takes : (n : ℕ) → Edit (take_layer n)
  sets : (n i : ℕ) (x : Slot) → Edit (set_slot n i x)
  assigns : (n i x : ℕ) → Edit (set_value n i x)
  gathers : (n i : ℕ) (x : Slot) → Edit (add_collection n i x)
  starts : (collections : List ℕ) → Edit (start_collections collections)
  begins : (n : ℕ) → Edit (begin_finalization n)
  ends : (n : ℕ) → Edit (end_finalization n)
  stores : (f : Pools → Pools) → Edit (in_pools f)
  shuts : (n : ℕ) → Edit (close_pool_at n)
  empties : (n : ℕ) → Edit (empty_subpool n)

-- a relation of acts that is kept by everything that acts are made of
pub record Closed (t : Tables) (ask other : Ask) (Rel : (A : Type 0) → Act A → Act A → Type 0) : Type 1 where
  pub gives : {A : Type 0} (r : Result A) → Rel A (given r) (given r)
  pub stops : {A : Type 0} (s : Stop) → Rel A (stop s) (stop s)
  pub joins : {A B : Type 0} {m n : Act A} {f g : Result A → Act B} → Rel A m n → ((r : Result A) → Rel B (f r) (g r)) → Rel B (then_always m f) (then_always n g)
  pub counts : {A : Type 0} (i : ℕ) {m n : Act A} → Rel A m n → Rel A (counted i m) (counted i n)
  pub spends : {A : Type 0} {m n : Act A} → Rel A m n → Rel A (spend m) (spend n)
  pub looks : {A : Type 0} {f g : World → Act A} → ((w : World) → Rel A (f w) (g w)) → Rel A (look f) (look g)
  pub changes : {f : World → World} → Edit f → Rel Done (change f) (change f)
  pub shows : (e : Event) → Rel Done (show e) (show e)
  pub answers : (m : ℕ) → Rel ℕ (answered ask m) (answered other m)
  pub repeats : {m n : Act Done} → Rel Done m n → Rel Done (loop (one_turn m)) (loop (one_turn n))
  pub finishes : (call spare : Caller) (default fallback : Default) (cause : Cause) (g : Group) → ((m : Member) → Rel Bool (finalize_begun (record { ask = ask; tables = t; call = call; default = default }) cause m) (finalize_begun (record { ask = other; tables = t; call = spare; default = fallback }) cause m)) → Rel Bool (finalize_group (record { ask = ask; tables = t; call = call; default = default }) cause g) (finalize_group (record { ask = other; tables = t; call = spare; default = fallback }) cause g)
  pub repeats_while : {test check : Act (List ℕ)} {m n : Act Done} → Rel (List ℕ) test check → Rel Done m n → Rel Done (loop (while test m)) (loop (while check n))

-- something holds of each item
abbrev pub Each : {A : Type 0} → (A → Type 0) → List A → Type 0
Each P [] = Unit {0}
Each P (x ∷ xs) = P x × Each P xs

abbrev pub IfSome : {A : Type 0} → (A → Type 0) → Option A → Type 0
IfSome P None = Unit {0}
IfSome P (Some x) = P x
