-- An Allocate or a Deallocate that the user wrote is called for a pool object, over the operands that stay.
use Rattle.std.proofs.Common.{◌≡◌, ℕ, zero, suc, ◌+◌, ◌-◌, ◌≤◌, List, [], ◌∷◌, ◌++◌, Option, Some, length, refl, sym, ap, ◌∙◌, subst, arith, map}
use Rattle.std.specs.Prelude.{slice_get, slice_set, if◌then◌else◌}
use Rattle.std.proofs.lemmas.List.{append_assoc, length-append}
use Rattle.ctl_tree.specs.declared.event.Event.{Event}
use Rattle.ctl_program.specs.Limits.{alignment}
use Rattle.ctl_meaning.specs.World as W
use Rattle.ctl_meaning.specs.World.{World}
use Rattle.ctl_meaning.specs.Changes.{home_of}
use Rattle.ctl_meaning.specs.Lists.{opened_lists}
use Rattle.ctl_meaning.specs.Storage.{opened_storage, storage_actuals}
use Rattle.ctl_code.specs.declared.kinds.Kind.TheVariants.{Body}
use Rattle.ctl_code.specs.declared.code.Code.{Code}
use Rattle.ctl_code.specs.declared.code.Entry.{Entry}
use Rattle.ctl_code.specs.States as T
use Rattle.ctl_code.specs.States.{AfterProcedure, Word, whole_spot}
use Rattle.ctl_code.specs.Table.{enter_body}
use Rattle.ctl_code.specs.Valid.{IsValid, storage_formals}
use Rattle.ctl_engine.specs.declared.engine.Engine.{Engine}
use Rattle.ctl_frames.specs.declared.frame.After.{After}
use Rattle.ctl_frames.specs.declared.frame.Master.{Master}
use Rattle.ctl_engine.specs.Assigning.{HasRoom}
use Rattle.ctl_frames.specs.Holders.{IsMasterOf, binding, first_formal, formal_in}
use Rattle.ctl_frames.specs.Links.{AreLinked}
use Rattle.ctl_frames.specs.Masters.{heads_of, display_from}
use Rattle.ctl_engine.specs.Moves.{Makes}
use Rattle.ctl_engine.specs.Shows.{Kept, Holds, kept}
use Rattle.ctl_places.specs.StorageCalling.{CallsStorage, StorageCall, storage_begun, with_formals}
use Rattle.ctl_frames.specs.Under.{cell_in, laid}
use Rattle.ctl_engine.proofs.Blocks.{laid_is}
use Rattle.ctl_engine.proofs.Bodies.{Begins, EndLeads, EntersIt, IsBody, IsCall, body_is, body_makes}
use Rattle.ctl_engine.proofs.Cleared.{length_cleared}
use Rattle.ctl_engine.proofs.Held.{content_in}
use Rattle.ctl_engine.proofs.Homes.{home_is_there}
use Rattle.ctl_frames.proofs.Lists.{eq_differs, length_set, set_right}
use Rattle.ctl_places.proofs.Passed.{slots_cells, slots_contents, slots_many}
use Rattle.ctl_engine.proofs.Reached.{linked_in}

pub linked_storage : (code : Code) (e : Engine) (entry : Entry) (master base : ℕ) (after : After) (t : StorageCall) → CallsStorage code e entry master base after t → AreLinked e.masters.items (heads_of t.world.activations)
linked_storage code e entry master base after t c = linked_in code e t.control t.point.operands t.world c.holds

-- its slots have cells
pub storage_within : (code : Code) (e : Engine) (entry : Entry) (master base : ℕ) (after : After) (t : StorageCall) → IsValid code → CallsStorage code e entry master base after t → HasRoom code e base → base + entry.slots ≤ length e.cells.items
storage_within code e entry master base after t valid c room =
    let fits : 0 + entry.slots ≤ code.room = valid.room entry.place (Body entry.level entry.slots t.body ∷ []) (valid.entries t.body entry c.body) in
    let cells = room.cells in
    omega (arith, fits, cells)

-- The first slots ----------------------------------------------------------------------------------------

-- what the formals begin with has these cells
formal_cells : (n a units : ℕ) → map cell_in (storage_actuals n a units) ≡ 0 ∷ a ∷ units ∷ alignment ∷ []
unfolding opened_storage
formal_cells n a units = refl

formals_many : (n a units : ℕ) → length (storage_actuals n a units) ≡ 4
unfolding opened_storage
formals_many n a units = refl

-- the first of them stands for the pool object, and the others hold nothing but values
formal_contents : (n a units slot : ℕ) → content_in (storage_actuals n a units) slot ≡ formal_in (first_formal (whole_spot n) ∷ []) slot
unfolding opened_storage opened_lists
formal_contents n a units zero = refl
formal_contents n a units (suc slot) = by slot ∙ sym (ap (λ b. if b then binding (whole_spot n) else W.Nothing) (eq_differs 0 (suc slot) (λ e. omega (arith, e))))
  where
    by : (slot : ℕ) → content_in (storage_actuals n a units) (suc slot) ≡ W.Nothing
    by zero = refl
    by (suc zero) = refl
    by (suc (suc zero)) = refl
    by (suc (suc (suc i))) = refl

-- they stand behind these cells
formals_stand : (below rest : List ℕ) (base a units : ℕ) → base ≡ length below → base + 4 ≤ length (below ++ rest) → (more : List ℕ) × (with_formals base a units (below ++ rest) ≡ (below ++ (0 ∷ a ∷ units ∷ alignment ∷ [])) ++ more)
formals_stand below rest base a units there within = by rest (let long = length-append below rest in omega (arith, there, within, long))
  where
    set : (i v : ℕ) (l : List ℕ) → slice_set (below ++ l) (base + i) v ≡ below ++ slice_set l i v
    set i v l = set_right below l i (base + i) v (omega (arith, there))

    by : (l : List ℕ) → 4 ≤ length l → (more : List ℕ) × (with_formals base a units (below ++ l) ≡ (below ++ (0 ∷ a ∷ units ∷ alignment ∷ [])) ++ more)
    by (x ∷ y ∷ z ∷ u ∷ more) less = (
      more,
      ap (λ (r : List ℕ). slice_set (slice_set (slice_set r (base + 1) a) (base + 2) units) (base + 3) alignment) (set_right below (x ∷ y ∷ z ∷ u ∷ more) 0 base 0 (omega (arith, there)))
          ∙ (ap (λ (r : List ℕ). slice_set (slice_set r (base + 2) units) (base + 3) alignment) (set 1 a (0 ∷ y ∷ z ∷ u ∷ more))
          ∙ (ap (λ (r : List ℕ). slice_set r (base + 3) alignment) (set 2 units (0 ∷ a ∷ z ∷ u ∷ more))
          ∙ (set 3 alignment (0 ∷ a ∷ units ∷ u ∷ more)
          ∙ sym (append_assoc below (0 ∷ a ∷ units ∷ alignment ∷ []) more)))),
    )
    by [] less = absurd (omega (arith, less))
    by (x ∷ []) less = absurd (omega (arith, less))
    by (x ∷ y ∷ []) less = absurd (omega (arith, less))
    by (x ∷ y ∷ z ∷ []) less = absurd (omega (arith, less))

length_formals : (base a units : ℕ) (cells : List ℕ) → length (with_formals base a units cells) ≡ length cells
length_formals base a units cells =
    length_set (slice_set (slice_set (slice_set cells base 0) (base + 1) a) (base + 2) units) (base + 3) alignment
    ∙ (length_set (slice_set (slice_set cells base 0) (base + 1) a) (base + 2) units
    ∙ (length_set (slice_set cells base 0) (base + 1) a
    ∙ length_set cells base 0))

pub length_begun : (base slots a units : ℕ) (cells : List ℕ) → length (storage_begun base slots a units cells) ≡ length cells
length_begun base slots a units cells = length_cleared (base + 4) (slots - 4) (with_formals base a units cells) ∙ length_formals base a units cells

-- what the slots of the body begin with
storage_begins : (code : Code) (e : Kept) (entry : Entry) (base n a units : ℕ) (k : List T.Frame) (ops : List Word) (w : World) → Holds code e k ops w → storage_formals ≤ entry.slots → base ≡ length (laid k w.activations ops) → base + entry.slots ≤ length e.cells
    → Begins e k ops w entry (storage_actuals n a units) (first_formal (whole_spot n) ∷ []) (storage_begun base entry.slots a units e.cells)
storage_begins code e entry base n a units k ops w h slots there within =
    let below = laid k w.activations ops in
    let actuals = storage_actuals n a units in
    let cells = formal_cells n a units in
    let many = formals_many n a units in
    let row = h.cells.1 in
    let made = formals_stand below h.cells.0 base a units there (subst (λ (l : List ℕ). base + 4 ≤ length l) row (omega (arith, within, slots))) in
    let is : with_formals base a units e.cells ≡ (below ++ map cell_in actuals) ++ made.0 = ap (λ (l : List ℕ). with_formals base a units l) row ∙ (made.1 ∙ ap (λ (l : List ℕ). (below ++ l) ++ made.0) (sym cells)) in
    let long : length (below ++ map cell_in actuals) ≡ length below + 4 = length-append below (map cell_in actuals) ∙ ap (λ (l : List ℕ). length below + length l) cells in
    let total = length_formals base a units e.cells in
    record {
      many = slots_many actuals entry (omega (arith, many, slots));
      formals = λ slot less. slots_contents actuals entry slot ∙ formal_contents n a units slot;
      long = length_begun base entry.slots a units e.cells;
      cells = slots_cells actuals entry 4 base below made.0 (with_formals base a units e.cells) many (omega (arith, there, long)) is (omega (arith, within, total)) slots;
    }

-- The call -----------------------------------------------------------------------------------------------

-- its end leads to where the call goes on
ends_there : (code : Code) (e : Engine) (entry : Entry) (master base : ℕ) (after : After) (t : StorageCall) (b : Master) → CallsStorage code e entry master base after t → b.window ≡ b.base → b.slots ≡ entry.slots
    → EndLeads code (kept e) b t.control t.point.operands (heads_of t.world.activations) after (AfterProcedure t.copies t.point)
ends_there code e entry master base after t b c window slots =
    let few = c.few in
    let many = c.slots in
    subst (λ (y : After). EndLeads code (kept e) b t.control t.point.operands (heads_of t.world.activations) y (AfterProcedure t.copies t.point)) (sym c.leads_to)
    (record { aside = refl; leads = (refl, c.seen, window, refl, omega (arith, few, many, slots)); sized = (c.stack, c.leads, c.sized); no_block = λ block. block })

pub storage_makes : (code : Code) (old new : Engine) (entry : Entry) (master base owner : ℕ) (after : After) (t : StorageCall) (b : Master) (event : Event) → IsValid code → CallsStorage code old entry master base after t → HasRoom code old base → IsMasterOf old.masters.items master owner
    → (let hs = heads_of t.world.activations in IsCall old b entry base (display_from owner hs) hs (first_formal (whole_spot t.object.number) ∷ [])) → b.spots ≡ length old.spots.items
    → EntersIt old new (kept old) entry after b (first_formal (whole_spot t.object.number) ∷ []) (storage_begun b.base entry.slots t.address t.units old.cells.items) (event ∷ [])
    → Makes code old new (enter_body (slice_get code.entries.items t.body) (event ∷ []) (home_of t.object.origin t.world) (storage_actuals t.object.number t.address t.units) (AfterProcedure t.copies t.point) t.control t.world)
storage_makes code old new entry master base owner after t b event valid c room is i mark enters =
    let w = t.world in
    let hs = heads_of w.activations in
    let k = t.control in
    let ops = t.point.operands in
    let o = t.object in
    let e = kept old in
    let d = display_from owner hs in
    let own = first_formal (whole_spot o.number) ∷ [] in
    let actuals = storage_actuals o.number t.address t.units in
    let home : home_of o.origin w ≡ d = home_is_there code e old.masters.items k ops w owner o.origin master c.holds refl c.home is in
    let many = (linked_storage code old entry master base after t c).many in
    let there = c.window in
    let its : IsBody e b entry k ops d hs own = body_is old e.control e.cells b entry base k ops d hs own i (omega (arith, many)) there (mark ∙ ap length c.spots) in
    let begins_at = i.begins in
    let long = laid_is k ops w in
    let reach = storage_within code old entry master base after t valid c room in
    let begins : Begins e k ops w entry actuals own (storage_begun b.base entry.slots t.address t.units e.cells) = storage_begins code e entry b.base o.number t.address t.units k ops w c.holds c.slots (omega (arith, begins_at, there, long)) (omega (arith, begins_at, reach)) in
    let cells = room.cells in
    let within : b.base + code.room ≤ length e.cells = omega (arith, begins_at, cells) in
    subst (λ (x : Option Entry). Makes code old new (enter_body x (event ∷ []) (home_of o.origin w) actuals (AfterProcedure t.copies t.point) k w)) (sym c.body)
    (subst (λ (l : List ℕ). Makes code old new (enter_body (Some entry) (event ∷ []) l actuals (AfterProcedure t.copies t.point) k w)) (sym home)
    (body_makes code old new e t.body entry k ops w b after (AfterProcedure t.copies t.point) actuals d own (storage_begun b.base entry.slots t.address t.units e.cells) (event ∷ []) valid c.body c.holds (ends_there code old entry master base after t b c i.window i.slots) its begins within c.spots enters))
