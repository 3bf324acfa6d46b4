-- An object is declared with the value of another one.
use Rattle.std.proofs.Common.{◌≡◌, ℕ, ◌+◌, ◌-◌, ◌≤◌, List, [], ◌∷◌, ◌++◌, Option, Some, None, length, refl, sym, ap, ◌∙◌, subst, drop, replicate, reverse}
use Rattle.std.specs.Prelude.{slice_get}
use Rattle.std.specs.Option.{option_map_or}
use Rattle.ctl_tree.specs.declared.ending.Stop.TheVariants.{UseAfterFree}
use Rattle.ctl_tree.specs.declared.event.Owner.TheVariants as OwnerOf
use Rattle.ctl_meaning.specs.Lists.{last_of}
use Rattle.ctl_meaning.specs.World as W
use Rattle.ctl_program.specs.declared.types.Ty.TheVariants.{Record}
use Rattle.ctl_meaning.specs.Objects.{cells_at, change_in, object_in, with_cells, first_cells}
use Rattle.ctl_meaning.specs.World.{Declared, World}
use Rattle.ctl_meaning.specs.Changes.{new_object, object_at, write_cells, opened_changes}
use Rattle.ctl_code.specs.declared.kinds.Kind.{Kind}
use Rattle.ctl_code.specs.declared.code.Code.{Code}
use Rattle.ctl_code.specs.declared.code.Instr.TheVariants.{DeclareCopy}
use Rattle.ctl_code.specs.States as T
use Rattle.ctl_code.specs.States.{Word, Move, State}
use Rattle.ctl_code.specs.Table as Table
use Rattle.ctl_code.specs.Table.{Here, adjust_new, by_instr, by_declare_copy, gone, parts_of, size_of, by_copy, declare_with}
use Rattle.ctl_code.specs.Fits.{OwnsOne}
use Rattle.ctl_code.specs.Windows.{OwnsSlot}
use Rattle.ctl_engine.specs.declared.engine.Engine.{Engine}
use Rattle.ctl_frames.specs.declared.frame.Master.{Master}
use Rattle.ctl_frames.specs.declared.frame.Mode.TheVariants as ModeOf
use Rattle.ctl_frames.specs.declared.frame.Owned.{Owned}
use Rattle.ctl_engine.specs.Finishing.{with_objects}
use Rattle.ctl_frames.specs.Masters.{Head, heads_of, first_display}
use Rattle.ctl_engine.specs.Shows.{Sized, Kept, Holds, kept, with_spots, IsCreated}
use Rattle.ctl_frames.specs.Spots.{first_spot, standing, value_on_top}
use Rattle.ctl_meaning.specs.Finalization.{Spot}
use Rattle.ctl_places.proofs.Located.{part_on_top, on_part, on_value}
use Rattle.ctl_engine.specs.Moves.{Before, GoesOn, Inside, Makes, here_of}
use Rattle.ctl_engine.specs.Declaring.{IsDeclared, NewObject, with_object}
use Rattle.ctl_engine.proofs.Created.{newborn}
use Rattle.ctl_engine.proofs.Following.{makes_later}
use Rattle.ctl_engine.proofs.Newborn.{has_object}
use Rattle.ctl_engine.proofs.Operands.{HasPart}
use Rattle.ctl_engine.proofs.Owned.{cells_keep, holds_changed, new_found, object_shown, still_found}
use Rattle.ctl_places.proofs.Touched.{gone_makes}
use Rattle.ctl_engine.specs.RecordValues.{IsPart, IsValue}

-- the value of a part of an object, if there is the object
abbrev value_of : ℕ → ℕ → Option W.Object → List ℕ
value_of offset size None = []
value_of offset size (Some o) = cells_at offset size o

-- the object has taken this value, and its declaration goes on at a place
abbrev pub copied_by : Code → ℕ → ℕ → ℕ → List ℕ → State → NewObject
copied_by code place slot t value s =
    let d = first_display (heads_of s.world.activations) in
    record {
      number = s.world.ledger.next_object;
      point = record { display = d; place = place; operands = drop 1 s.operands };
      control = s.control;
      world = write_cells s.world.ledger.next_object 0 value (Table.with_object code d slot t s.world);
    }

-- the value of the part that is the newest operand
abbrev pub value_taken_by : Code → ℕ → State → List ℕ
value_taken_by code t s = let y = first_spot s.operands in value_of y.offset (size_of code t) (object_at y.object s.world)

abbrev pub copied_at : Code → ℕ → ℕ → ℕ → State → NewObject
copied_at code place slot t s = copied_by code place slot t (value_taken_by code t s) s

-- what the table makes of it
table_declares : (code : Code) (slot t : ℕ) (v : List ℕ) (rest : List Word) (h : Here) (x : W.Object) → object_at h.world.ledger.next_object (Table.with_object code h.display slot t h.world) ≡ Some x
    → declare_with code slot t v rest h ≡ adjust_new code (parts_of code t) T.ByDeclaration (Table.newborn h.world.ledger.next_object t (OwnerOf.Master (last_of h.display))) (record { display = h.display; place = h.place + 1; operands = rest }) h.control (write_cells h.world.ledger.next_object 0 v (Table.with_object code h.display slot t h.world))
table_declares code slot t v rest h x new = rw (new) refl

-- of a part of an object that is there
table_copies : (code : Code) (slot t : ℕ) (ops : List Word) (h : Here) (o : W.Object) → IsPart ops → (let y = first_spot ops in object_at y.object h.world ≡ Some o
    → by_declare_copy code slot t ops h ≡ declare_with code slot t (value_of y.offset (size_of code t) (object_at y.object h.world)) (drop 1 ops) h)
table_copies code slot t ops h o top there =
    let y = first_spot ops in
    on_part (λ s rest. by_copy code slot t s.offset (object_at s.object h.world) rest h) (λ v rest. declare_with code slot t (first_cells (size_of code t) v) rest h) ops h top
    ∙ (ap (λ (z : Option W.Object). by_copy code slot t y.offset z (drop 1 ops) h) there
    ∙ ap (λ (z : Option W.Object). declare_with code slot t (value_of y.offset (size_of code t) z) (drop 1 ops) h) (sym there))

-- and of the value of a record
table_gives : (code : Code) (slot t : ℕ) (ops : List Word) (h : Here) → IsValue ops → by_declare_copy code slot t ops h ≡ declare_with code slot t (first_cells (size_of code t) (value_on_top ops)) (drop 1 ops) h
table_gives code slot t ops h top = on_value (λ s rest. by_copy code slot t s.offset (object_at s.object h.world) rest h) (λ v rest. declare_with code slot t (first_cells (size_of code t) v) rest h) ops h top

-- the part whose value is taken
pub copied_part : (code : Code) (e : Engine) (place slot t : ℕ) (s : State) → (b : Before code e place (DeclareCopy slot t) s) → HasPart code (kept e) b.fine.1.0 s.control s.operands s.world
copied_part code e place slot t s b = part_on_top code e t b.stack b.fine.1.0 s b.inside b.fine.1.1

written_heads : (code : Code) (slot t : ℕ) (v : List ℕ) (s : State) → (let d = first_display (heads_of s.world.activations) in heads_of (Table.with_object code d slot t s.world).activations ≡ heads_of s.world.activations → heads_of (copied_by code 0 slot t v s).world.activations ≡ heads_of s.world.activations)
unfolding opened_changes
written_heads code slot t v s h = h

-- a new object, which has taken this value
abbrev pub with_copy : Master → ℕ → ℕ → ℕ → List ℕ → Kept → Kept
with_copy m slot t size value e = with_objects (change_in e.next_object (with_cells 0 value) (with_object m slot t (replicate size 0) e).objects) (with_object m slot t (replicate size 0) e)

-- a new object among others takes a value that is copied from one of these
pub value_taken : (before made objects : List W.Object) (x : W.Object) (source start offset size count number next : ℕ) (o : W.Object) → made ≡ before ++ x ∷ [] → number ≡ next → object_in source before ≡ Some o → start ≡ offset → size ≡ count
    → objects ≡ option_map_or (λ z. change_in number (with_cells 0 (cells_at start size z)) made) (object_in source made) made → objects ≡ change_in next (with_cells 0 (cells_at offset count o)) (before ++ x ∷ [])
value_taken before made objects x source start offset size count number next o more at there from all copied =
    let found : object_in source made ≡ Some o = ap (λ (l : List W.Object). object_in source l) more ∙ still_found before source o x there in
    copied
    ∙ (ap (λ (z : Option W.Object). option_map_or (λ z. change_in number (with_cells 0 (cells_at start size z)) made) z made) found
    ∙ (ap (λ n. change_in n (with_cells 0 (cells_at start size o)) made) at
    ∙ (ap (λ (l : List W.Object). change_in next (with_cells 0 (cells_at start size o)) l) more
    ∙ (ap (λ n. change_in next (with_cells 0 (cells_at n size o)) (before ++ x ∷ [])) from ∙ ap (λ n. change_in next (with_cells 0 (cells_at offset n o)) (before ++ x ∷ [])) all))))

-- it is created, and then its cells are copied from an object that was there
pub copy_kept : (old ready made : Kept) (objects : List W.Object) (spots : List Spot) (m : Master) (slot t size source start offset count number : ℕ) (o : W.Object)
    → ready ≡ old → made ≡ with_object m slot t (replicate size 0) ready → number ≡ old.next_object → object_in source old.objects ≡ Some o → start ≡ offset → size ≡ count
    → objects ≡ option_map_or (λ z. change_in number (with_cells 0 (cells_at start size z)) made.objects) (object_in source made.objects) made.objects
    → record made { spots = spots; objects = objects } ≡ with_copy m slot t count (cells_at offset count o) (with_spots old spots)
copy_kept old ready made objects spots m slot t size source start offset count number o was created next there from all copied =
    let x = new_object old.next_object (Record t) (replicate count 0) (Declared m.number) in
    let made_is : made ≡ with_object m slot t (replicate count 0) old = created ∙ (ap (λ (e : Kept). with_object m slot t (replicate size 0) e) was ∙ ap (λ n. with_object m slot t (replicate n 0) old) all) in
    let is = value_taken old.objects made.objects objects x source start offset size count number old.next_object o (ap (λ (e : Kept). e.objects) made_is) next there from all copied in
    ap (λ (l : List W.Object). record made { spots = spots; objects = l }) is
    ∙ ap (λ (e : Kept). record e { spots = spots; objects = change_in old.next_object (with_cells 0 (cells_at offset count o)) (old.objects ++ x ∷ []) }) made_is

-- or takes this one
pub given_kept : (old ready made : Kept) (objects : List W.Object) (spots : List Spot) (m : Master) (slot t size count number : ℕ) (v : List ℕ) → ready ≡ old → made ≡ with_object m slot t (replicate size 0) ready → number ≡ old.next_object → size ≡ count
    → objects ≡ change_in number (with_cells 0 v) made.objects → record made { spots = spots; objects = objects } ≡ with_copy m slot t count v (with_spots old spots)
given_kept old ready made objects spots m slot t size count number v was created next all written =
    let x = new_object old.next_object (Record t) (replicate count 0) (Declared m.number) in
    let made_is : made ≡ with_object m slot t (replicate count 0) old = created ∙ (ap (λ (e : Kept). with_object m slot t (replicate size 0) e) was ∙ ap (λ n. with_object m slot t (replicate n 0) old) all) in
    let is : objects ≡ change_in old.next_object (with_cells 0 v) (old.objects ++ x ∷ []) = written ∙ (ap (λ n. change_in n (with_cells 0 v) made.objects) next ∙ ap (λ (e : Kept). change_in old.next_object (with_cells 0 v) e.objects) made_is) in
    ap (λ (l : List W.Object). record made { spots = spots; objects = l }) is
    ∙ ap (λ (e : Kept). record e { spots = spots; objects = change_in old.next_object (with_cells 0 v) (old.objects ++ x ∷ []) }) made_is

-- what the object and its slot are
record IsMade (code : Code) (mid : Engine) (slot t : ℕ) (s : State) (m : Master) (value : List ℕ) : Type 0 where
  pub begun : W.Object
  pub there : object_at s.world.ledger.next_object (Table.with_object code (first_display (heads_of s.world.activations)) slot t s.world) ≡ Some begun
  pub holds : Holds code (with_copy m slot t (size_of code t) value (kept mid)) s.control (drop 1 s.operands) (write_cells s.world.ledger.next_object 0 value (Table.with_object code (first_display (heads_of s.world.activations)) slot t s.world))
  pub heads : heads_of (Table.with_object code (first_display (heads_of s.world.activations)) slot t s.world).activations ≡ heads_of s.world.activations
  pub owned : m.owned ≤ length mid.owned.items
  pub others : List Master
  pub masters : reverse mid.masters.items ≡ m ∷ others
  pub number : mid.numbered.objects + 1 ≡ s.world.ledger.next_object

-- the object is created, and takes the value
made_so : (code : Code) (mid : Engine) (below : List Kind) (slot t : ℕ) (s : State) (m : Master) (value : List ℕ) → Inside code (kept mid) below s.control (drop 1 s.operands) s.world → OwnsOne below → slice_get mid.masters.items (length mid.masters.items - 1) ≡ Some m
    → IsMade code mid slot t s m value
unfolding opened_changes
made_so code mid below slot t s m value inside owns newest =
    let w = s.world in
    let j = w.ledger.next_object in
    let rest = drop 1 s.operands in
    let has = has_object code mid below slot t s rest m inside owns newest in
    let x = new_object (mid.numbered.objects + 1) (Record t) (replicate (size_of code t) 0) (Declared m.number) in
    let zeros : Kept = with_object m slot t (replicate (size_of code t) 0) (kept mid) in
    let created = Table.with_object code (first_display (heads_of w.activations)) slot t w in
    let is : mid.numbered.objects + 1 ≡ j = sym inside.holds.next_object in
    let h : Holds code zeros s.control rest created = subst (λ (k : List T.Frame). Holds code zeros k rest created) (sym has.control) has.made.holds in
    let taken = holds_changed code zeros s.control rest created (mid.numbered.objects + 1) (with_cells 0 value) (cells_keep 0 value) h in
    record {
      begun = x;
      there = ap (λ c. object_at c created) (sym is) ∙ (object_shown code zeros s.control rest created (mid.numbered.objects + 1) h ∙ new_found mid.owned.items (mid.numbered.objects + 1) mid.stock.objects x inside.holds.owns refl);
      holds = subst (λ c. Holds code (with_copy m slot t (size_of code t) value (kept mid)) s.control rest (write_cells c 0 value created)) is taken;
      heads = has.made.heads;
      owned = has.owned;
      others = has.first.0;
      masters = has.first.1;
      number = is;
    }

-- the newest object has taken a value, and is to be adjusted
pub declared_is : (code : Code) (old mid new : Engine) (place slot t : ℕ) (s : State) (m : Master) (value : List ℕ) → Before code old place (DeclareCopy slot t) s → kept mid ≡ with_spots (kept old) (standing s.control (drop 1 s.operands))
    → slice_get mid.masters.items (length mid.masters.items - 1) ≡ Some m → by_declare_copy code slot t s.operands (here_of place s) ≡ declare_with code slot t value (drop 1 s.operands) (here_of place s)
    → kept new ≡ with_copy m slot t (size_of code t) value (kept mid) → new.numbered.objects ≡ mid.numbered.objects + 1
    → IsDeclared code new t (place + 1) (copied_by code (place + 1) slot t value s) × ((new' : Engine) → new.events.items ≡ old.events.items → new.picks.items ≡ old.picks.items
    → (let x = copied_by code (place + 1) slot t value s in Makes code new new' (adjust_new code (parts_of code t) T.ByDeclaration (Table.newborn x.number t (OwnerOf.Master (last_of x.point.display))) x.point x.control x.world)) → Makes code old new' (by_instr code (Some (DeclareCopy slot t)) s.operands (here_of place s)))
declared_is code old mid new place slot t s m value b mid_is newest move are given =
    let w = s.world in
    let below = b.fine.1.0 in
    let rest = drop 1 s.operands in
    let g = copied_part code old place slot t s b in
    let inside : Inside code (kept mid) below s.control rest w = subst (λ (e : Kept). Inside code e below s.control rest w) (sym mid_is) g.left in
    let owns : OwnsOne below = (slot, subst (λ stack. OwnsSlot stack slot) b.fine.1.1 b.fine.2) in
    let made = made_so code mid below slot t s m value inside owns newest in
    let e : Kept = with_copy m slot t (size_of code t) value (kept mid) in
    let x = copied_by code (place + 1) slot t value s in
    let i : IsCreated w.ledger.next_object t m e.owned = record { before = mid.owned.items; object = newborn (kept mid) slot t m; is_newest = refl; is_own = made.owned; number = made.number; role = refl; no_layer = refl } in
    let heads : heads_of x.world.activations ≡ heads_of w.activations = written_heads code slot t value s made.heads in (
      record {
        stack = below;
        leads = b.fine.1.2;
        stands = inside.stands;
        owns = owns;
        sized = subst (λ (l : List Head). Sized code below s.control l) (sym heads) inside.sized;
        holds = subst (λ (z : Kept). Holds code z s.control rest x.world) (sym are) made.holds;
        spots = ap (λ (z : Kept). z.spots) are ∙ ap (λ (z : Kept). z.spots) mid_is;
        goes_on = refl;
        seen = ap first_display (sym heads);
        master = m;
        others = made.others;
        masters = ap (λ (z : Kept). z.masters) are ∙ made.masters;
        object = subst (λ (l : List Owned). IsCreated w.ledger.next_object t m l) (sym (ap (λ (z : Kept). z.owned) are)) i;
        number = given ∙ made.number;
      },
      λ new' events picks goes. subst (λ (z : Move). Makes code old new' z) (sym (move ∙ table_declares code slot t value rest (here_of place s) made.begun made.there)) (makes_later code old new new' _ events picks goes),
    )

-- that of a part of another one
pub copied_is : (code : Code) (old mid new : Engine) (place slot t : ℕ) (s : State) (m : Master) (o : W.Object) → Before code old place (DeclareCopy slot t) s → IsPart s.operands → kept mid ≡ with_spots (kept old) (standing s.control (drop 1 s.operands))
    → slice_get mid.masters.items (length mid.masters.items - 1) ≡ Some m → object_in (first_spot s.operands).object mid.stock.objects ≡ Some o
    → kept new ≡ with_copy m slot t (size_of code t) (cells_at (first_spot s.operands).offset (size_of code t) o) (kept mid) → new.numbered.objects ≡ mid.numbered.objects + 1
    → IsDeclared code new t (place + 1) (copied_at code (place + 1) slot t s) × ((new' : Engine) → new.events.items ≡ old.events.items → new.picks.items ≡ old.picks.items
    → (let x = copied_at code (place + 1) slot t s in Makes code new new' (adjust_new code (parts_of code t) T.ByDeclaration (Table.newborn x.number t (OwnerOf.Master (last_of x.point.display))) x.point x.control x.world)) → Makes code old new' (by_instr code (Some (DeclareCopy slot t)) s.operands (here_of place s)))
copied_is code old mid new place slot t s m o b top mid_is newest there are given =
    let y = first_spot s.operands in
    let rest = drop 1 s.operands in
    let left : Inside code (kept mid) b.fine.1.0 s.control rest s.world = subst (λ (e : Kept). Inside code e b.fine.1.0 s.control rest s.world) (sym mid_is) (copied_part code old place slot t s b).left in
    let object : object_at y.object s.world ≡ Some o = object_shown code (kept mid) s.control rest s.world y.object left.holds ∙ there in
    declared_is code old mid new place slot t s m (value_taken_by code t s) b mid_is newest (table_copies code slot t s.operands (here_of place s) o top object)
    (are ∙ ap (λ (z : Option W.Object). with_copy m slot t (size_of code t) (value_of y.offset (size_of code t) z) (kept mid)) (sym object)) given

-- and the value of a record
pub given_is : (code : Code) (old mid new : Engine) (place slot t : ℕ) (s : State) (m : Master) → Before code old place (DeclareCopy slot t) s → IsValue s.operands → kept mid ≡ with_spots (kept old) (standing s.control (drop 1 s.operands))
    → slice_get mid.masters.items (length mid.masters.items - 1) ≡ Some m → (let value = first_cells (size_of code t) (value_on_top s.operands) in kept new ≡ with_copy m slot t (size_of code t) value (kept mid) → new.numbered.objects ≡ mid.numbered.objects + 1
    → IsDeclared code new t (place + 1) (copied_by code (place + 1) slot t value s) × ((new' : Engine) → new.events.items ≡ old.events.items → new.picks.items ≡ old.picks.items
    → (let x = copied_by code (place + 1) slot t value s in Makes code new new' (adjust_new code (parts_of code t) T.ByDeclaration (Table.newborn x.number t (OwnerOf.Master (last_of x.point.display))) x.point x.control x.world)) → Makes code old new' (by_instr code (Some (DeclareCopy slot t)) s.operands (here_of place s))))
given_is code old mid new place slot t s m b top mid_is newest are given =
    declared_is code old mid new place slot t s m (first_cells (size_of code t) (value_on_top s.operands)) b mid_is newest (table_gives code slot t s.operands (here_of place s) top) are given

-- where there is none
table_gone : (code : Code) (slot t : ℕ) (ops : List Word) (h : Here) → IsPart ops → object_at (first_spot ops).object h.world ≡ None → by_declare_copy code slot t ops h ≡ gone h.control h.world
table_gone code slot t ops h top none =
    on_part (λ s rest. by_copy code slot t s.offset (object_at s.object h.world) rest h) (λ v rest. declare_with code slot t (first_cells (size_of code t) v) rest h) ops h top
    ∙ ap (λ (z : Option W.Object). by_copy code slot t (first_spot ops).offset z (drop 1 ops) h) none

pub copied_gone : (code : Code) (old new : Engine) (place slot t : ℕ) (s : State) → Before code old place (DeclareCopy slot t) s → IsPart s.operands → object_in (first_spot s.operands).object old.stock.objects ≡ None
    → GoesOn old new (ModeOf.Stopped UseAfterFree) old.cells.items → Makes code old new (by_instr code (Some (DeclareCopy slot t)) s.operands (here_of place s))
copied_gone code old new place slot t s b top none goes =
    let y = first_spot s.operands in
    let object : object_at y.object s.world ≡ None = object_shown code (kept old) s.control s.operands s.world y.object b.inside.holds ∙ none in
    subst (λ (z : Move). Makes code old new z) (sym (table_gone code slot t s.operands (here_of place s) top object)) (gone_makes code old new s.control s.operands s.world b.inside.holds goes)
