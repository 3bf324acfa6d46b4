-- What becomes of an object that is to be freed, by what is known of it.
use Rattle.std.proofs.Common.{◌≡◌, ◌≢◌, ℕ, ◌+◌, List, ◌∷◌, Option, Some, None, Bool, true, false, refl, sym, ap, ◌∙◌, subst}
use Rattle.std.specs.Prelude.{◌&&◌, if◌then◌else◌, nat_eq, not}
use Rattle.ctl_program.specs.declared.types.Ty.{Ty}
use Rattle.ctl_program.specs.declared.types.Ty.TheVariants.{Integer, Count, Boolean, Address, Handle, Access, Record}
use Rattle.ctl_program.specs.declared.types.Var.{Var}
use Rattle.ctl_tree.specs.declared.ending.Stop.TheVariants as StopOf
use Rattle.ctl_tree.specs.declared.event.Cause.TheVariants as CauseOf
use Rattle.ctl_meaning.specs.Activations.{master_of}
use Rattle.ctl_meaning.specs.Allocation.{set_in}
use Rattle.ctl_meaning.specs.Changes.{object_at, slot_at}
use Rattle.ctl_meaning.specs.Objects.{is_finalizing, is_of_set, is_untouched, object_in, opened_objects}
use Rattle.ctl_meaning.specs.Outcome.{Fine}
use Rattle.ctl_meaning.specs.World as W
use Rattle.ctl_meaning.specs.World.{Object, World}
use Rattle.ctl_objects.specs.declared.existing.Existing.{Existing}
use Rattle.ctl_storage.specs.declared.existing.Life.{Life}
use Rattle.ctl_storage.specs.declared.existing.Life.TheVariants as LifeOf
use Rattle.ctl_objects.specs.declared.existing.Origin.{Origin}
use Rattle.ctl_objects.specs.declared.existing.Origin.TheVariants as OriginOf
use Rattle.ctl_objects.specs.Existing.{IsKnown, bare, known, origin_of}
use Rattle.ctl_objects.specs.Order as Order
use Rattle.ctl_storage.specs.declared.existing.Place.{Place}
use Rattle.ctl_storage.specs.declared.existing.Place.TheVariants as PlaceOf
use Rattle.ctl_storage.specs.Allocated.{place_of}
use Rattle.ctl_storage.specs.Stages.{state_of}
use Rattle.ctl_code.specs.declared.code.AccessHome.{AccessHome}
use Rattle.ctl_code.specs.declared.code.Code.{Code}
use Rattle.ctl_code.specs.declared.code.Parts.{Parts}
use Rattle.ctl_code.specs.declared.code.Parts.TheVariants as PartsOf
use Rattle.ctl_code.specs.States as T
use Rattle.ctl_code.specs.States.{Move, State, Word}
use Rattle.ctl_code.specs.Table.{behind_declaration, finalize_freed, finalize_object, free_member, free_object, freed_in, gives, has_part, parts_of, stopped, storage_of, units_for}
use Rattle.ctl_engine.specs.declared.engine.Engine.{Engine}
use Rattle.ctl_frames.specs.declared.frame.Owned.{Owned}
use Rattle.ctl_engine.specs.declared.freeing.Fate.{Fate}
use Rattle.ctl_engine.specs.declared.freeing.Fate.TheVariants as FateOf
use Rattle.ctl_engine.specs.Allocating.{OwnsNone}
use Rattle.ctl_places.specs.Freeing.{IsFate, MayBe, by_fate, fate_by_life, fate_by_origin, fate_of, fate_of_member, if_unfinished, storage_at, units_at}
use Rattle.ctl_frames.specs.Masters.{first_display, heads_of}
use Rattle.ctl_engine.specs.Moves.{here_of}
use Rattle.ctl_engine.specs.Shows.{Holds, kept}
use Rattle.ctl_engine.proofs.Foreign.{allocated_foreign}
use Rattle.ctl_places.proofs.MayJoin.{known_there, none_known}
use Rattle.ctl_engine.proofs.Owned.{object_shown}

-- The table's move -------------------------------------------------------------------------------------

-- an object of which this is known
abbrev pub known_object : ℕ → Existing → List ℕ → Object
known_object n x cells = record (known n x) { cells = cells }

pub is_known_object : (n : ℕ) (x : Existing) (o : Object) → bare o ≡ known n x → o ≡ known_object n x o.cells
is_known_object n x o e = ap (λ (z : Object). record z { cells = o.cells }) e

not_due : {A : Type 0} (joined untouched : Bool) (x y : A) → (if joined && (untouched && false) then x else y) ≡ y
not_due true true x y = refl
not_due true false x y = refl
not_due false untouched x y = refl

-- the table's move where this becomes of an object of which this is known
abbrev fate_moves : Code → Fate → ℕ → Existing → T.Nulled → T.Point → List T.Frame → World → Move
fate_moves code fate n x nulled p k w = by_fate code fate nulled n (storage_of (origin_of x.origin)) (units_for code x.ty) p k w

-- one that is not being finalized
unfinished_moves : (code : Code) (n : ℕ) (x : Existing) (cells : List ℕ) (nulled : T.Nulled) (p : T.Point) (k : List T.Frame) (w : World) → finalize_freed code nulled (known_object n x cells) p k w ≡ fate_moves code (if_unfinished code x.stage x.ty) n x nulled p k w
unfinished_moves code n x cells nulled p k w = by x.ty
  where
    lies : W.Place
    lies = storage_of (origin_of x.origin)

    by_due : (b : Bool) (t : ℕ) → (let units = units_for code (Record t) in (if b then finalize_object code (parts_of code t) CauseOf.Free n t (T.Freeing nulled n lies units p ∷ k) w else freed_in code nulled n lies units false p k w) ≡ by_fate code (if b then FateOf.Finalizes t else FateOf.Goes) nulled n lies units p k w)
    by_due true t = refl
    by_due false t = refl

    other : (units : ℕ) → (if x.stage.has_joined && (is_untouched (state_of x.stage.life) && false) then gives (Fine T.Complete) (T.Freeing nulled n lies units p ∷ k) w else freed_in code nulled n lies units false p k w) ≡ freed_in code nulled n lies units false p k w
    other units = not_due x.stage.has_joined (is_untouched (state_of x.stage.life)) (gives (Fine T.Complete) (T.Freeing nulled n lies units p ∷ k) w) (freed_in code nulled n lies units false p k w)

    by : (ty : Ty) → finalize_freed code nulled (record (known_object n x cells) { ty = ty }) p k w ≡ by_fate code (if_unfinished code x.stage ty) nulled n lies (units_for code ty) p k w
    by Integer = other (units_for code Integer)
    by Count = other (units_for code Count)
    by Boolean = other (units_for code Boolean)
    by Address = other (units_for code Address)
    by Handle = other (units_for code Handle)
    by (Access a) = other (units_for code (Access a))
    by (Record t) = by_due (x.stage.has_joined && (is_untouched (state_of x.stage.life) && has_part (parts_of code t))) t

-- one that is freed from its collection
member_moves : (code : Code) (n : ℕ) (x : Existing) (cells : List ℕ) (nulled : T.Nulled) (p : T.Point) (k : List T.Frame) (w : World)
    → (if is_finalizing (state_of x.stage.life) then stopped StopOf.FreeWhileFinalizing k w else finalize_freed code nulled (known_object n x cells) p k w) ≡ fate_moves code (fate_of_member code x) n x nulled p k w
unfolding opened_objects
member_moves code n x cells nulled p k w = by x.stage.life (unfinished_moves code n x cells nulled p k w)
  where
    by : (l : Life) → finalize_freed code nulled (known_object n x cells) p k w ≡ fate_moves code (if_unfinished code x.stage x.ty) n x nulled p k w
        → (if is_finalizing (state_of l) then stopped StopOf.FreeWhileFinalizing k w else finalize_freed code nulled (known_object n x cells) p k w) ≡ fate_moves code (fate_by_life code l x.stage x.ty) n x nulled p k w
    by LifeOf.Untouched e = e
    by LifeOf.Finalizing e = refl
    by LifeOf.Finalized e = e

-- and from whichever collection
freed_moves : (code : Code) (set n : ℕ) (x : Existing) (cells : List ℕ) (nulled : T.Nulled) (p : T.Point) (k : List T.Frame) (w : World) → free_member code nulled set (known_object n x cells) p k w ≡ fate_moves code (fate_of code set x) n x nulled p k w
unfolding opened_objects
freed_moves code set n x cells nulled p k w = by x.origin (member_moves code n x cells nulled p k w)
  where
    by_set : (b : Bool) → (if is_finalizing (state_of x.stage.life) then stopped StopOf.FreeWhileFinalizing k w else finalize_freed code nulled (known_object n x cells) p k w) ≡ fate_moves code (fate_of_member code x) n x nulled p k w
        → (if not b then stopped StopOf.ForeignFree k w else if is_finalizing (state_of x.stage.life) then stopped StopOf.FreeWhileFinalizing k w else finalize_freed code nulled (known_object n x cells) p k w)
        ≡ fate_moves code (if b then fate_of_member code x else FateOf.Stops StopOf.ForeignFree) n x nulled p k w
    by_set true e = e
    by_set false e = refl

    by : (z : Origin) → (if is_finalizing (state_of x.stage.life) then stopped StopOf.FreeWhileFinalizing k w else finalize_freed code nulled (known_object n x cells) p k w) ≡ fate_moves code (fate_of_member code x) n x nulled p k w
        → (if not (is_of_set set (origin_of z)) then stopped StopOf.ForeignFree k w else if is_finalizing (state_of x.stage.life) then stopped StopOf.FreeWhileFinalizing k w else finalize_freed code nulled (known_object n x cells) p k w)
        ≡ fate_moves code (fate_by_origin code set z x) n x nulled p k w
    by (OriginOf.Declared m) e = refl
    by (OriginOf.Allocated c place) e = by_set (nat_eq c set) e

-- Who owns it ------------------------------------------------------------------------------------------

some_part : (p : Parts) → has_part p ≡ true → p ≢ PartsOf.Plain
some_part PartsOf.Plain e is = absurd (cc)
some_part PartsOf.Within e is = absurd (cc)
some_part PartsOf.Controlled e is = absurd (cc)

last_holds : (a b c : Bool) → (a && (b && c)) ≡ true → c ≡ true
last_holds true true c e = e
last_holds true false c e = absurd (cc)
last_holds false b c e = absurd (cc)

member_may : (code : Code) (n : ℕ) (x : Existing) (owned : List Owned) → OwnsNone n owned → MayBe code (fate_of_member code x) n owned
member_may code n x owned none = by_life x.stage.life
  where
    by_due : (b : Bool) (t : ℕ) → (x.stage.has_joined && (is_untouched (state_of x.stage.life) && has_part (parts_of code t))) ≡ b → MayBe code (if b then FateOf.Finalizes t else FateOf.Goes) n owned
    by_due true t is = (none, some_part (parts_of code t) (last_holds x.stage.has_joined (is_untouched (state_of x.stage.life)) (has_part (parts_of code t)) is))
    by_due false t is = none

    by : (ty : Ty) → MayBe code (if_unfinished code x.stage ty) n owned
    by Integer = none
    by Count = none
    by Boolean = none
    by Address = none
    by Handle = none
    by (Access a) = none
    by (Record t) = by_due (x.stage.has_joined && (is_untouched (state_of x.stage.life) && has_part (parts_of code t))) t refl

    by_life : (l : Life) → MayBe code (fate_by_life code l x.stage x.ty) n owned
    by_life LifeOf.Untouched = by x.ty
    by_life LifeOf.Finalizing = tt
    by_life LifeOf.Finalized = by x.ty

freed_may : (code : Code) (set n : ℕ) (x : Existing) (owned : List Owned) → ((c : ℕ) (place : Place) → x.origin ≡ OriginOf.Allocated c place → OwnsNone n owned) → MayBe code (fate_of code set x) n owned
freed_may code set n x owned none = by x.origin refl
  where
    by_set : (b : Bool) → OwnsNone n owned → MayBe code (if b then fate_of_member code x else FateOf.Stops StopOf.ForeignFree) n owned
    by_set true own = member_may code n x owned own
    by_set false own = tt

    by : (z : Origin) → x.origin ≡ z → MayBe code (fate_by_origin code set z x) n owned
    by (OriginOf.Declared m) is = tt
    by (OriginOf.Allocated c place) is = by_set (nat_eq c set) (none c place is)

-- Both -------------------------------------------------------------------------------------------------

found_moves : (code : Code) (nulled : T.Nulled) (a : AccessHome) (ops : List Word) (place : ℕ) (s : State) (y : Option Object) (o : Object) → y ≡ Some o
    → free_object code nulled (Some a) y ops (here_of place s)
    ≡ free_member code nulled (set_in (slot_at (master_of (first_display (heads_of s.world.activations)) a.collection) a.collection.slot s.world).content) o (behind_declaration ops (here_of place s)) s.control s.world
found_moves code nulled a ops place s y o is = rw is refl

-- what the stock has of it
record IsFound (e : Engine) (n : ℕ) (x : Existing) (s : State) : Type 0 where
  pub object : Object
  pub known : object_in n e.stock.objects ≡ Some object
  pub found : object_at n s.world ≡ Some object
  pub origin : object.origin ≡ origin_of x.origin
  pub same : object ≡ known_object n x object.cells

found_so : (code : Code) (e : Engine) (n : ℕ) (x : Existing) (s : State) → Holds code (kept e) s.control s.operands s.world → IsKnown n (Some x) e.stock.objects → IsFound e n x s
found_so code e n x s h knows =
    let there = known_there n x e.stock.objects knows in
    let o = there.0 in
    record {
      object = o;
      known = there.1;
      found = object_shown code (kept e) s.control s.operands s.world n h ∙ there.1;
      origin = ap (λ (z : Object). z.origin) there.2;
      same = is_known_object n x o there.2;
    }

-- how many storage units it has
pub units_known : (code : Code) (e : Engine) (n : ℕ) (x : Existing) (s : State) → Holds code (kept e) s.control s.operands s.world → IsKnown n (Some x) e.stock.objects → units_at code (object_at n s.world) ≡ units_for code x.ty
units_known code e n x s h knows =
    let f = found_so code e n x s h knows in
    ap (units_at code) f.found ∙ ap (λ (o : Object). units_for code o.ty) f.same

-- where its storage lies
pub storage_known : (code : Code) (e : Engine) (n : ℕ) (x : Existing) (s : State) → Holds code (kept e) s.control s.operands s.world → IsKnown n (Some x) e.stock.objects → storage_at (object_at n s.world) ≡ storage_of (origin_of x.origin)
storage_known code e n x s h knows =
    let f = found_so code e n x s h knows in
    ap storage_at f.found ∙ ap storage_of f.origin

-- it is there
pub fate_known : (code : Code) (e : Engine) (v : Var) (n set : ℕ) (x : Existing) (s : State) → Holds code (kept e) s.control s.operands s.world → IsKnown n (Some x) e.stock.objects
    → set ≡ set_in (slot_at (master_of (first_display (heads_of s.world.activations)) v) v.slot s.world).content → IsFate code v n e.owned.items s (fate_of code set x)
fate_known code e v n set x s h knows is =
    let f = found_so code e n x s h knows in
    let o = f.object in
    let w = s.world in
    let k = s.control in
    record {
      may = freed_may code set n x e.owned.items (λ c place from.
          allocated_foreign n (e.numbered.objects + 1) e.stock.objects e.owned.items o h.owns f.known (subst (λ (z : W.Origin). Order.IsAllocated z) (sym (f.origin ∙ ap origin_of from)) tt));
      moves = λ place nulled pool ops.
          let p = behind_declaration ops (here_of place s) in
          found_moves code nulled (record { collection = v; pool = pool }) ops place s (object_at n w) o f.found
          ∙ (ap (λ m. free_member code nulled m o p k w) (sym is)
          ∙ (ap (λ (z : Object). free_member code nulled set z p k w) f.same
          ∙ (freed_moves code set n x o.cells nulled p k w
          ∙ (ap (λ (z : W.Place). by_fate code (fate_of code set x) nulled n z (units_for code x.ty) p k w) (sym (storage_known code e n x s h knows))
          ∙ ap (λ u. by_fate code (fate_of code set x) nulled n (storage_at (object_at n w)) u p k w) (sym (units_known code e n x s h knows))))));
    }

none_moves : (code : Code) (nulled : T.Nulled) (a : AccessHome) (ops : List Word) (place : ℕ) (s : State) (y : Option Object) → y ≡ None → free_object code nulled (Some a) y ops (here_of place s) ≡ stopped StopOf.UseAfterFree s.control s.world
none_moves code nulled a ops place s y is = rw is refl

-- it is gone
none_found : (code : Code) (e : Engine) (n : ℕ) (s : State) → Holds code (kept e) s.control s.operands s.world → IsKnown n None e.stock.objects → object_at n s.world ≡ None
none_found code e n s h knows = object_shown code (kept e) s.control s.operands s.world n h ∙ none_known n e.stock.objects knows

pub units_unknown : (code : Code) (e : Engine) (n : ℕ) (s : State) → Holds code (kept e) s.control s.operands s.world → IsKnown n None e.stock.objects → units_at code (object_at n s.world) ≡ 0
units_unknown code e n s h knows = ap (units_at code) (none_found code e n s h knows)

pub storage_unknown : (code : Code) (e : Engine) (n : ℕ) (s : State) → Holds code (kept e) s.control s.operands s.world → IsKnown n None e.stock.objects → storage_at (object_at n s.world) ≡ place_of PlaceOf.Standard
storage_unknown code e n s h knows = ap storage_at (none_found code e n s h knows)

pub fate_unknown : (code : Code) (e : Engine) (v : Var) (n : ℕ) (s : State) → Holds code (kept e) s.control s.operands s.world → IsKnown n None e.stock.objects → IsFate code v n e.owned.items s (FateOf.Stops StopOf.UseAfterFree)
fate_unknown code e v n s h knows = record {
  may = tt;
  moves = λ place nulled pool ops. none_moves code nulled (record { collection = v; pool = pool }) ops place s (object_at n s.world) (none_found code e n s h knows);
}
