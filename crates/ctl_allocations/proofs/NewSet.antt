-- A collection is made.
use Rattle.std.proofs.Common.{◌≡◌, ℕ, zero, suc, ◌+◌, ◌<◌, ◌≤◌, ◌-◌, List, [], ◌∷◌, ◌++◌, Some, Bool, true, false, length, refl, sym, ap, ◌∙◌, subst, arith, reverse, drop, inl}
use Rattle.std.specs.Prelude.{nat_eq, nat_lt, slice_get}
use Rattle.std.proofs.lemmas.Bool.Decides.{nat_tests}
use Rattle.std.proofs.lemmas.List.{append-nil, length-append, reverse-append}
use Rattle.ctl_meaning.specs.World as W
use Rattle.ctl_meaning.specs.World.{World, Activation, Collection, Layer, Sets, Slot}
use Rattle.ctl_meaning.specs.Lists.{change_each, last_of}
use Rattle.ctl_meaning.specs.Ledger.{opened_ledger, push_collection, with_layer}
use Rattle.ctl_meaning.specs.Activations.{change_slot}
use Rattle.ctl_meaning.specs.Changes.{add_collection, opened_changes}
use Rattle.ctl_code.specs.declared.kinds.Kind.{Kind}
use Rattle.ctl_code.specs.declared.code.AccessHome.{AccessHome}
use Rattle.ctl_code.specs.declared.code.Code.{Code}
use Rattle.ctl_code.specs.declared.code.Instr.TheVariants.{Gather}
use Rattle.ctl_code.specs.States as T
use Rattle.ctl_code.specs.States.{Move, State, Word}
use Rattle.ctl_code.specs.Table.{by_instr, numbers_to, quiet, with_sets}
use Rattle.ctl_code.specs.Fits.{OwnsOne}
use Rattle.ctl_engine.specs.declared.engine.Engine.{Engine}
use Rattle.ctl_frames.specs.declared.frame.After.{After}
use Rattle.ctl_frames.specs.declared.frame.Frame.{Frame}
use Rattle.ctl_frames.specs.declared.frame.Frame.TheVariants as FrameOf
use Rattle.ctl_frames.specs.declared.frame.Handling.{Handling}
use Rattle.ctl_frames.specs.declared.frame.Master.{Master}
use Rattle.ctl_frames.specs.declared.frame.Mode.TheVariants as ModeOf
use Rattle.ctl_frames.specs.declared.frame.Owned.{Owned}
use Rattle.ctl_engine.specs.Declaring.{slot_cleared}
use Rattle.ctl_places.specs.Gathering.{new_set, with_set}
use Rattle.ctl_frames.specs.Holders.{AreHeld}
use Rattle.ctl_frames.specs.Masters.{Head, heads_of, first_display, AreOf, AreMasters, AreBelow, HaveRoom, IsAmong, layer_if, layer_of, rising_layers, layers_from}
use Rattle.ctl_engine.specs.Moves.{Before, Inside, Makes, here_of}
use Rattle.ctl_frames.specs.Owned.{sets_owned}
use Rattle.ctl_engine.specs.Shows.{Wait, Kept, Holds, Sized, kept}
use Rattle.ctl_frames.specs.Under.{laid}
use Rattle.ctl_engine.proofs.Created.{drop_more, newborn_waits, of_more, owner_of_newest, rising_more, take_more}
use Rattle.ctl_engine.proofs.Declared.{own_changed, own_stays}
use Rattle.ctl_engine.proofs.Gathered.{set_comes, sets_more}
use Rattle.ctl_engine.proofs.Leaves.{newest_item}
use Rattle.ctl_engine.proofs.Newborn.{same_first}
use Rattle.ctl_engine.proofs.Objects.{cleared_beyond, cleared_within, innermost, length_slot_cleared, newest_held, no_such_slot, stands_in}
use Rattle.ctl_engine.proofs.Owned.{owns_set}
use Rattle.ctl_engine.proofs.Plain.{comes_makes}
use Rattle.ctl_engine.proofs.Values.{slot_written}

-- The masters ------------------------------------------------------------------------------------------

-- the layers of the newest master, where it is one
layers_gathered : (owned : List Owned) (i : ℕ) (x : Owned) → i ≤ length owned → x.is_layer ≡ true → layers_from i (owned ++ x ∷ []) ≡ layer_of x ∷ layers_from i owned
layers_gathered owned i x less is =
    ap (λ (l : List Owned). reverse (rising_layers l)) (drop_more owned i x less)
    ∙ (ap (λ (l : List Layer). reverse l) (rising_more (drop i owned) x ∙ ap (λ (b : Bool). rising_layers (drop i owned) ++ layer_if b (layer_of x)) is)
    ∙ reverse-append (rising_layers (drop i owned)) (layer_of x ∷ []))

-- and where it is none
layers_same : (owned : List Owned) (i : ℕ) (x : Owned) → i ≤ length owned → x.is_layer ≡ false → layers_from i owned ≡ layers_from i (owned ++ x ∷ [])
layers_same owned i x less is =
    sym (ap (λ (l : List Owned). reverse (rising_layers l)) (drop_more owned i x less)
    ∙ ap (λ (l : List Layer). reverse l) (rising_more (drop i owned) x ∙ (ap (λ (b : Bool). rising_layers (drop i owned) ++ layer_if b (layer_of x)) is ∙ append-nil (rising_layers (drop i owned)))))

-- the masters of the table, where the collections up to a number become a layer of one, if there are so many
abbrev pub with_sets_of : ℕ → ℕ → ℕ → List W.Master → List W.Master
with_sets_of j last zero ks = ks
with_sets_of j last (suc n) ks = change_each (λ (c : W.Master). nat_eq c.number j) (with_layer (Sets (numbers_to last (suc n)))) ks

masters_gathered : (e : Kept) (m : Master) (ms : List Master) (hs : List Head) (ks : List W.Master) (slot j last count : ℕ) → AreMasters (m ∷ ms) hs ks e.owned → AreBelow ms m.number → j ≡ m.number → last ≡ e.given_collections + 1
    → AreMasters (m ∷ ms) hs (with_sets_of j last count ks) (e.owned ++ new_set m slot count e ∷ [])
unfolding opened_ledger
masters_gathered e m ms hs ks slot j last count masters below own number = by count
  where
    owner : (m.owned ≤ length e.owned) × AreOf m.number (drop m.owned e.owned)
    owner = owner_of_newest masters

    long : (x : Owned) → m.owned ≤ length (e.owned ++ x ∷ [])
    long x = let more = length-append e.owned (x ∷ []) in let less = owner.0 in omega (arith, less, more)

    of_master : (x : Owned) → x.master ≡ m.number → AreOf m.number (drop m.owned (e.owned ++ x ∷ []))
    of_master x is = subst (λ (l : List Owned). AreOf m.number l) (sym (drop_more e.owned m.owned x owner.0)) (of_more (drop m.owned e.owned) m.number x owner.1 is)

    some : (n : ℕ) → nat_lt 0 (suc n) ≡ true
    some n = grind (arith, nat_tests)

    by : (count : ℕ) → AreMasters (m ∷ ms) hs (with_sets_of j last count ks) (e.owned ++ new_set m slot count e ∷ [])
    by zero =
        let x = new_set m slot zero e in
        own_stays (e.owned ++ x ∷ []) masters (layers_same e.owned m.owned x owner.0 refl) (take_more e.owned m.owned x owner.0) (long x) (of_master x refl)
    by (suc n) =
        let x = new_set m slot (suc n) e in
        let l = Sets (numbers_to last (suc n)) in
        let same : l ≡ layer_of x = ap (λ k. Sets (numbers_to k (suc n))) number in
        own_changed (with_layer l) j m ms hs ks e.owned (e.owned ++ x ∷ []) masters below own (λ c. refl)
        (λ c is. ap (λ (z : List Layer). l ∷ z) is ∙ (ap (λ (y : Layer). y ∷ layers_from m.owned e.owned) same ∙ sym (layers_gathered e.owned m.owned x owner.0 (some n))))
        (take_more e.owned m.owned x owner.0) (long x) (of_master x refl)

-- It stands in its slot --------------------------------------------------------------------------------

-- the world with it, where these are the slots
abbrev pub gathered_world : ℕ → ℕ → List Activation → World → World
gathered_world j count acts w = record w { ledger = record (push_collection j w.ledger) { masters = with_sets_of j w.ledger.next_collection count w.ledger.masters }; activations = acts }

world_is : (d : List ℕ) (slot count : ℕ) (w : World) → with_sets d w.ledger.next_collection count (add_collection (last_of d) slot (W.holding (W.Gathers w.ledger.next_collection)) w) ≡ gathered_world (last_of d) count (change_slot (last_of d) slot (W.holding (W.Gathers w.ledger.next_collection)) w.activations) w
unfolding opened_changes opened_ledger
world_is d slot zero w = refl
world_is d slot (suc n) w = refl

gathered : (code : Code) (e : Kept) (g : Handling) (after : After) (fs : List Frame) (m : Master) (ms : List Master) (n slot count j : ℕ) (g' : T.Handling) (after' : T.After) (k : List T.Frame) (ops : List Word) (w : World) (acts : List Activation)
    → Holds code e (T.InMaster n g' after' ∷ k) ops w → e.control ≡ FrameOf.InMaster g after ∷ fs → e.masters ≡ m ∷ ms → j ≡ m.number
    → ((rest : List ℕ) × (slot_cleared m slot e.cells ≡ laid (T.InMaster n g' after' ∷ k) acts ops ++ rest)) → heads_of acts ≡ heads_of w.activations → AreHeld (m ∷ ms) acts (e.owned ++ new_set m slot count e ∷ []) e.formals
    → Holds code (with_set m slot count e) (T.InMaster n g' after' ∷ k) ops (gathered_world j count acts w)
unfolding opened_ledger
gathered code e g after fs m ms n slot count j g' after' k ops w acts h top is own lies same held =
    let hs = heads_of w.activations in
    let x = new_set m slot count e in
    let owned' = e.owned ++ x ∷ [] in
    let k' = T.InMaster n g' after' ∷ k in
    let waits : Wait (FrameOf.InMaster g after ∷ fs) (m ∷ ms) hs e.owned k' = subst (λ (l : List Frame). Wait l (m ∷ ms) hs e.owned k') top (subst (λ (l : List Master). Wait e.control l hs e.owned k') is h.waits) in
    let masters : AreMasters (m ∷ ms) hs w.ledger.masters e.owned = subst (λ (l : List Master). AreMasters l hs w.ledger.masters e.owned) is h.masters in
    let below : AreBelow (m ∷ ms) e.next_master = subst (λ (l : List Master). AreBelow l e.next_master) is h.below in
    let ks = with_sets_of j w.ledger.next_collection count w.ledger.masters in
    let waits' : Wait (FrameOf.InMaster g after ∷ fs) (m ∷ ms) hs owned' k' = newborn_waits x (owner_of_newest masters).0 waits in
    let masters' : AreMasters (m ∷ ms) hs ks owned' = masters_gathered e m ms hs w.ledger.masters slot j w.ledger.next_collection count masters below.1 own h.next_collection in
    record {
      cells = lies;
      room = subst (λ c. HaveRoom code.room e.masters c) (sym (length_slot_cleared m slot e.cells)) h.room;
      masters = subst (λ (l : List Head). AreMasters e.masters l ks owned') (sym same) (subst (λ (l : List Master). AreMasters l hs ks owned') (sym is) masters');
      below = h.below;
      waits = subst (λ (l : List Head). Wait e.control e.masters l owned' k') (sym same)
          (subst (λ (l : List Frame). Wait l e.masters hs owned' k') (sym top) (subst (λ (l : List Master). Wait (FrameOf.InMaster g after ∷ fs) l hs owned' k') (sym is) waits'));
      objects = h.objects;
      needs = h.needs;
      pools = h.pools;
      owns = owns_set e.owned e.next_object e.objects x false count refl h.owns;
      held = subst (λ (l : List Master). AreHeld l acts owned' e.formals) (sym is) held;
      rise = set_comes e.owned 0 e.given_collections x false count h.rise refl refl refl;
      next_master = h.next_master;
      next_object = h.next_object;
      next_collection = ap (λ c. c + 1) h.next_collection;
      collections = as_owned h.collections h.next_collection;
      left = h.left;
      saved = h.saved;
      noted = h.noted;
    }
  where
    as_owned : w.ledger.collections ≡ sets_owned e.owned → w.ledger.next_collection ≡ e.given_collections + 1
        → (record { number = w.ledger.next_collection; master = j; started = false } ∷ w.ledger.collections) ≡ sets_owned (e.owned ++ new_set m slot count e ∷ [])
    as_owned sets number =
        ap (λ (l : List Collection). record { number = w.ledger.next_collection; master = j; started = false } ∷ l) sets
        ∙ (ap (λ c. record { number = c; master = j; started = false } ∷ sets_owned e.owned) number
        ∙ (ap (λ c. record { number = e.given_collections + 1; master = c; started = false } ∷ sets_owned e.owned) own
        ∙ sym (sets_more e.owned (new_set m slot count e) [])))

-- the new collection stands in its slot
record HasSet (code : Code) (e : Kept) (m : Master) (slot count : ℕ) (k : List T.Frame) (ops : List Word) (w : World) : Type 0 where
  acts : List Activation
  is : acts ≡ change_slot (last_of (first_display (heads_of w.activations))) slot (W.holding (W.Gathers w.ledger.next_collection)) w.activations
  holds : Holds code (with_set m slot count e) k ops (gathered_world (last_of (first_display (heads_of w.activations))) count acts w)
  within : slot < m.slots → m.base + slot < length e.cells
  heads : heads_of acts ≡ heads_of w.activations

has_set : (code : Code) (e : Kept) (g : Handling) (after : After) (fs : List Frame) (m : Master) (ms : List Master) (n slot count : ℕ) (g' : T.Handling) (after' : T.After) (k : List T.Frame) (ops : List Word) (w : World)
    → Holds code e (T.InMaster n g' after' ∷ k) ops w → e.control ≡ FrameOf.InMaster g after ∷ fs → e.masters ≡ m ∷ ms → last_of (first_display (heads_of w.activations)) ≡ m.number
    → HasSet code e m slot count (T.InMaster n g' after' ∷ k) ops w
has_set code e g after fs m ms n slot count g' after' k ops w h top is own =
    by_slot (nat_lt slot m.slots) refl
  where
    j : ℕ
    j = last_of (first_display (heads_of w.activations))

    k' : List T.Frame
    k' = T.InMaster n g' after' ∷ k

    y : Slot
    y = W.holding (W.Gathers w.ledger.next_collection)

    acts : List Activation
    acts = change_slot j slot y w.activations

    masters : AreMasters (m ∷ ms) (heads_of w.activations) w.ledger.masters e.owned
    masters = subst (λ (l : List Master). AreMasters l (heads_of w.activations) w.ledger.masters e.owned) is h.masters

    below : AreBelow (m ∷ ms) e.next_master
    below = subst (λ (l : List Master). AreBelow l e.next_master) is h.below

    held : AreHeld (m ∷ ms) acts (e.owned ++ new_set m slot count e ∷ []) e.formals
    held = newest_held e m ms (new_set m slot count e) (W.Gathers w.ledger.next_collection) j w masters below (subst (λ (l : List Master). AreHeld l w.activations e.owned e.formals) is h.held) own (ap (λ c. W.Gathers c) h.next_collection)

    made : ((rest : List ℕ) × (slot_cleared m slot e.cells ≡ laid k' acts ops ++ rest)) → heads_of acts ≡ heads_of w.activations → (slot < m.slots → m.base + slot < length e.cells) → HasSet code e m slot count k' ops w
    made cells heads within = record {
      acts = acts;
      is = refl;
      holds = gathered code e g after fs m ms n slot count j g' after' k ops w acts h top is own cells heads held;
      within = within;
      heads = heads;
    }

    by_slot : (b : Bool) → nat_lt slot m.slots ≡ b → HasSet code e m slot count k' ops w
    by_slot true f =
        let less : slot < m.slots = grind (arith, nat_tests, f) in
        let p = slot_written code e k' ops w j slot (m.base + slot) y m h (subst (λ (l : List Master). IsAmong m l) (sym is) (inl refl)) own less refl in
        made (p.0.0, cleared_within m slot e.cells less ∙ p.0.1) p.2 (λ z. p.1)
    by_slot false f =
        let more : m.slots ≤ slot = grind (arith, nat_tests, f) in
        let same : acts ≡ w.activations = no_such_slot m ms slot y w e.owned j e.next_master masters below own more in
        made (h.cells.0, cleared_beyond m slot e.cells more ∙ (h.cells.1 ∙ ap (λ (l : List Activation). laid k' l ops ++ h.cells.0) (sym same))) (ap (λ (l : List Activation). heads_of l) same) (λ z. absurd (omega (arith, z, more)))

-- By the instruction -----------------------------------------------------------------------------------

-- the collection, and what stands around it
pub record Gathers (code : Code) (old : Engine) (stack : List Kind) (slot count : ℕ) (s : State) (m : Master) : Type 0 where
  pub inside : Inside code (with_set m slot count (kept old)) stack s.control s.operands (with_sets (first_display (heads_of s.world.activations)) s.world.ledger.next_collection count (add_collection (last_of (first_display (heads_of s.world.activations))) slot (W.holding (W.Gathers s.world.ledger.next_collection)) s.world))
  pub heads : heads_of (with_sets (first_display (heads_of s.world.activations)) s.world.ledger.next_collection count (add_collection (last_of (first_display (heads_of s.world.activations))) slot (W.holding (W.Gathers s.world.ledger.next_collection)) s.world)).activations ≡ heads_of s.world.activations
  pub within : slot < m.slots → m.base + slot < length old.cells.items

pub gathers : (code : Code) (old : Engine) (stack : List Kind) (slot count : ℕ) (s : State) (m : Master) → Inside code (kept old) stack s.control s.operands s.world → OwnsOne stack → slice_get old.masters.items (length old.masters.items - 1) ≡ Some m → Gathers code old stack slot count s m
gathers code old stack slot count s m inside owns newest =
    let w = s.world in
    let d = first_display (heads_of w.activations) in
    let f = stands_in code stack s.control s.operands inside.stands owns in
    let k' : List T.Frame = T.InMaster f.0 f.1 f.2 ∷ f.3 in
    let h' : Holds code (kept old) k' s.operands w = subst (λ (k : List T.Frame). Holds code (kept old) k s.operands w) f.4 inside.holds in
    let i = innermost h'.waits h'.masters in
    let first = newest_item old.masters.items m newest in
    let own : last_of d ≡ m.number = i.display ∙ ap (λ (x : Master). x.number) (same_first i.newest m i.others first.0 (sym i.masters ∙ first.1)) in
    let has = has_set code (kept old) i.handling i.after i.frames m first.0 f.0 slot count f.1 f.2 f.3 s.operands w h' i.control first.1 own in
    let same : gathered_world (last_of d) count has.acts w ≡ with_sets d w.ledger.next_collection count (add_collection (last_of d) slot (W.holding (W.Gathers w.ledger.next_collection)) w) =
    ap (λ (l : List Activation). gathered_world (last_of d) count l w) has.is ∙ sym (world_is d slot count w) in
    let e = with_set m slot count (kept old) in
    let heads = ap (λ (v : World). heads_of v.activations) (sym same) ∙ has.heads in
    record {
      inside = record {
        stands = inside.stands;
        sized = subst (λ (hs : List Head). Sized code stack s.control hs) (sym heads) inside.sized;
        holds = subst (λ (v : World). Holds code e s.control s.operands v) same (subst (λ (k : List T.Frame). Holds code e k s.operands (gathered_world (last_of d) count has.acts w)) (sym f.4) has.holds);
        spots = inside.spots;
      };
      heads = heads;
      within = has.within;
    }

pub gather_makes : (code : Code) (old new : Engine) (access count place : ℕ) (a : AccessHome) (s : State) (m : Master) → Before code old place (Gather access count) s → slice_get code.accesses.items access ≡ Some a → slice_get old.masters.items (length old.masters.items - 1) ≡ Some m
    → new.mode ≡ ModeOf.At (place + 1) → kept new ≡ with_set m a.collection.slot count (kept old) → new.events.items ≡ old.events.items → new.picks.items ≡ old.picks.items
    → Makes code old new (by_instr code (Some (Gather access count)) s.operands (here_of place s))
gather_makes code old new access count place a s m b found newest mode is events picks =
    let w = s.world in
    let d = first_display (heads_of w.activations) in
    let g = gathers code old b.stack a.collection.slot count s m b.inside (b.fine.0.0.collection.slot, b.fine.0.3) newest in
    let w' = with_sets d w.ledger.next_collection count (add_collection (last_of d) a.collection.slot (W.holding (W.Gathers w.ledger.next_collection)) w) in
    let made = comes_makes code old new (with_set m a.collection.slot count (kept old)) (place + 1) b.stack s.control s.operands w' b.fine.2 g.inside (record { mode = mode; kept = is; events = events; picks = picks }) in
    rw (found) (subst (λ (hs : List Head). Makes code old new (quiet (T.At (first_display hs) (place + 1)) s.control s.operands w')) g.heads made)
