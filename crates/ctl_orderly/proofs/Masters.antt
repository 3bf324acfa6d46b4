-- Masters: what is declared in one is finalized in the reverse order before it is left (7.6.1).
use Rattle.std.proofs.Common.{ℕ, suc, List, [], ◌∷◌, ◌++◌, Option, Some, None, Bool, true, false, ◌||◌}
use Rattle.ctl_program.specs.declared.types.Ty.{Ty}
use Rattle.ctl_program.specs.declared.types.Ty.TheVariants.{Record}
use Rattle.ctl_program.specs.declared.types.Root.{Root}
use Rattle.ctl_program.specs.declared.types.Root.TheVariants.{Untagged, Controlled, BlockPool, MarkPool}
use Rattle.ctl_tree.specs.declared.event.Event.{Event}
use Rattle.ctl_meaning.specs.World.{World, Member, Layer, Single, Sets, Origin, Declared, Allocated, Place, Standard, InBlock, InSubpool, Object, Content, Nothing, Holds, Binds, Copies, Gathers, Slot, BlockPool as BlockPoolRecord, MarkPool as MarkPoolRecord}
use Rattle.ctl_meaning.specs.Choice.{Ask}
use Rattle.ctl_meaning.specs.Outcome.{ByRaise, Result, Goes, Leaves, Act, Done, given, then_always, look, change, ◌>>=◌, ◌>>◌, raise, tried, told, attempt, Tried, Fine, Raised, either}
use Rattle.ctl_meaning.specs.Types.{Tables, Category, Elementary, Composite, category_of}
use Rattle.ctl_meaning.specs.Names.{OfSubprogram, Call as Caller, Default, Tools}
use Rattle.ctl_meaning.specs.Expressions.{Valued}
use Rattle.ctl_meaning.specs.Finalization.{finalize_if_controlled}
use Rattle.ctl_meaning.specs.Adjustment.{Birth}
use Rattle.ctl_meaning.specs.Initialization.{fill}
use Rattle.ctl_meaning.specs.Masters.{finalize_declared, finalize_sets, finalize_layer, leave_layers, left, leave, in_master, declare, gather, gather_each, discriminants, open_pool, pool_or_closed, declare_pool, Elaborating, collections, object, pool, silent, elaborate}
use Rattle.ctl_meaning.proofs.Relation.{Each}
use Rattle.ctl_meaning.proofs.Layers.{Declarations}
use Rattle.ctl_orderly.proofs.Rules.{Good, as_well, seq, then_do, choice}
use Rattle.ctl_orderly.proofs.Edits.{changes, edit_value, edit_slot, edit_pools}
use Rattle.ctl_orderly.proofs.Plain.{keeps_changes, keeps_counts, keeps_done, keeps_gone, keeps_looks, keeps_nothing, keeps_on_some, keeps_raise, keeps_seq, keeps_then}
use Rattle.ctl_orderly.proofs.Edits.{edit_shuts}
use Rattle.std.specs.Prelude.{◌≡◌, ◌<◌, ◌≤◌}
use Rattle.std.proofs.Common.{refl, sym, ap, ◌∙◌, subst, arith, inl, inr}
use Rattle.ctl_tree.specs.declared.event.Owner.{Owner}
use Rattle.ctl_tree.specs.declared.event.Owner.TheVariants.{Master}
use Rattle.ctl_tree.specs.declared.event.Part.{Part}
use Rattle.std.proofs.lemmas.Bool.{cases_lt, cases_eq}
use Rattle.ctl_meaning.specs.World.{holding, Log}
use Rattle.ctl_meaning.specs.World as W
use Rattle.ctl_meaning.specs.Ledger.{layers_of, layers_in, master_at, with_layer, drop_layer, push_layer, enter_master}
use Rattle.ctl_meaning.specs.Changes.{create, set_slot, open_master, add_layer, take_layer, owner_of}
use Rattle.ctl_meaning.specs.Adjustment.{birth_of}
use Rattle.ctl_meaning.specs.Types.{begin_cells}
use Rattle.ctl_meaning.specs.Audit.{first_owner, closed}
use Rattle.ctl_meaning.specs.Emptied.{Lists}
use Rattle.ctl_orderly.specs.Law.{InOrder}
use Rattle.ctl_orderly.proofs.Traces.{Room}
use Rattle.ctl_orderly.proofs.State.{part, Typed, Inv, Moves, none, calm, stay, on, wider, anywhere}
use Rattle.ctl_orderly.proofs.Rules.{Attempted, Always, Ever, IfGoes, Does, ends_as, Stable, framed, exists, gives_done, good_in}
use Rattle.ctl_orderly.proofs.Edits.{edited_on, edit_creates, edit_gathers, edit_starts, edit_numbers}
use Rattle.ctl_orderly.proofs.Members.{Of, Entire, declared_closes}
use Rattle.ctl_orderly.proofs.Filling.{New, Full, new_still, fill_does}
use Rattle.ctl_orderly.proofs.Creating.{create_begins, new_growing}
use Rattle.ctl_orderly.proofs.Expressions.{of_expressions, keeps_if_given}
use Rattle.ctl_orderly.proofs.Expressions as E
use Rattle.ctl_orderly.proofs.Storage.{keeps_close_pool, keeps_program_error_if, keeps_finalize_group}
use Rattle.ctl_orderly.proofs.Inside.{AllBelow, Stack, stack_below, stack_past, Standing, Quiet, quiet_still, standing_still, Later, Since, Inside, owned_any, as_inside, inside_sequence, inside_given, inside_seq, inside_then, inside_done, inside_counts, inside_ticks, inside_looks, inside_changes, inside_of, inside_good}
use Rattle.ctl_orderly.proofs.Ledgers.{layer_added, master_entered, edit_layer, edit_takes, edit_closes, edit_opens}

-- an act that brings nothing to life, as one that may
owned : {k : Tables} {E : Part → Type 0} {own : Option Owner} {A : Type 0} {Req : List Event → World → Type 0} {P : Result A → List Event → World → Type 0} {m : Act A} → Does k E None Req P m → Does k E own Req P m
owned {m = m} h = record { from = λ c l w i r. ends_as (m c l w) (h.from c l w i r) (λ x tr v y. (y.0, owned_any y.1, y.2)) }

-- what is known of objects does not hang on the masters
entire_same : (k : Tables) (n : ℕ) (ty : Ty) (own : Owner) (tr : List Event) (w w' : World) → w'.objects ≡ w.objects → w'.ledger.next_object ≡ w.ledger.next_object → w'.ledger.next_master ≡ w.ledger.next_master → Entire k n ty own tr w → Entire k n ty own tr w'
entire_same k n ty own tr w w' os i j h = record {
  stead = record { number = let a = h.stead.number in omega arith; out = λ o l. h.stead.out o (subst (λ xs. Lists o xs) os l); room = h.stead.room; active = λ m e. let a = h.stead.active m e in omega arith };
  lives = h.lives;
  unclosed = h.unclosed;
}

stack_same : (k : Tables) (first m : ℕ) (ls : List Layer) (tr : List Event) (w w' : World) → w'.objects ≡ w.objects → w'.ledger.next_object ≡ w.ledger.next_object → w'.ledger.next_master ≡ w.ledger.next_master → Stack k first m ls tr w → Stack k first m ls tr w'
stack_same k first m [] tr w w' os i j h = tt
stack_same k first m (Single n ∷ ls) tr w w' os i j h = (h.0, (h.1.0, entire_same k n h.1.0 (Master m) tr w w' os i j h.1.1, λ o l. h.1.2 o (subst (λ xs. Lists o xs) os l)), h.2, stack_same k first m ls tr w w' os i j h.3)
stack_same k first m (Sets sets ∷ ls) tr w w' os i j h = stack_same k first m ls tr w w' os i j h

module _ (t : Tables) (order : InOrder t.records) (ask : Ask) (call : Caller) (default : Default) (calls : (f : ℕ) (ss : List Slot) (env : List ℕ) → Good t (call (OfSubprogram f ss) env)) (values : (u position : ℕ) (env : List ℕ) → Good t (default u position env)) where
  abbrev k : Tools
  k = record { ask = ask; tables = t; call = call; default = default }

  -- Leaving --------------------------------------------------------------------------------------------

  declared_does : {own : Option Owner} (n m : ℕ) (ty : Ty) → Does t (Of n) own (λ tr w. Entire t n ty (Master m) tr w × Typed n ty w) Ever (finalize_declared k n)
  unfolding finalize_declared finalize_if_controlled
  declared_does n m ty = exists n (λ o e. seq {P = Ever}
      (choice _ (λ c. as_well (owned (declared_closes t ask call default calls _ (record { number = n; ty = o.ty }) (Master m))) (λ tr w i r. subst (λ z. Entire t n z (Master m) tr w) (sym (r.0.1 o r.1 e)) r.0.0) (λ r tr w i h. tt)) (λ c. gives_done _ (λ tr w i r. tt)))
      (λ a. as_well (good_in _ _ (keeps_seq (keeps_close_pool t ask call default calls n) (λ b. keeps_done _))) (λ tr w i r. tt) (λ r tr w i h. tt)) (λ y tr w i h. tt))

  module _ (tr0 : List Event) (w0 : World) where
    abbrev pub this : ℕ
    this = w0.ledger.next_master

    abbrev pub first : ℕ
    first = w0.ledger.next_object

    take_does : (ls : List Layer) → Inside t tr0 w0 (Stack t first this ls) (λ r tr w. Stack t first this ls tr w) (change (take_layer this))
    unfolding take_layer drop_layer
    take_does ls = inside_changes (edit_takes this) (λ tr w i h. stack_same t first this ls tr w _ refl refl refl h)

    sets_good : (sets : List ℕ) → Good t (finalize_sets k sets)
    unfolding finalize_sets
    sets_good sets = keeps_then (keeps_counts _ (keeps_changes (edit_starts sets))) (keeps_finalize_group t ask call default calls _ _)

    stack_calm : (ls : List Layer) → Stable t none calm (Stack t first this ls)
    stack_calm ls tr w tr' w' i i' m h = stack_past first this w.ledger.next_object ls i m (λ p x. absurd x) (stack_below t first this ls tr w h) h

    past_one : (n : ℕ) (ls : List Layer) (tr : List Event) (w : World) (tr' : List Event) (w' : World) → Inv t tr w → Moves (Of n) (Some (Master this)) tr w tr' w' → AllBelow n ls × Stack t first this ls tr w → Stack t first this ls tr' w'
    past_one n ls tr w tr' w' i m h = stack_past first this n ls i m (λ p e lt. omega arith) h.0 h.1

    leaves_does : (ls : List Layer) (failed : Bool) → Inside t tr0 w0 (Stack t first this ls) Ever (leave_layers k this ls failed)
    unfolding leave_layers finalize_layer
    leaves_does [] failed = inside_done failed (λ tr w i r. tt)
    leaves_does (Single n ∷ ls) failed =
        inside_seq {P = λ r tr w. Stack t first this ls tr w} (inside_ticks (inside_then (take_does (Single n ∷ ls)) (λ a. one n ls) (λ y tr w i h. h.3))) (λ b. leaves_does ls (failed || b)) (λ y tr w i h. tt)
      where
        one : (n : ℕ) (ls : List Layer) → Inside t tr0 w0 (λ tr w. Stack t first this (Single n ∷ ls) tr w) (λ r tr w. Stack t first this ls tr w) (finalize_declared k n)
        one n ls = record { from = λ c l w i s r. (as_inside (inside_of n (λ tr w. AllBelow n ls × Stack t first this ls tr w) (Stack t first this ls) r.0 (declared_does n this r.1.0) (past_one n ls)) (λ tr v j s h. h) (λ r tr v j h. h.1)).from c l w i s ((r.1.1, r.1.2), (r.2, r.3)) }
    leaves_does (Sets sets ∷ ls) failed =
        inside_seq {P = λ r tr w. Stack t first this ls tr w} (inside_ticks (inside_then (take_does (Sets sets ∷ ls)) (λ a. inside_good (Stack t first this ls) (stack_calm ls) (sets_good sets)) (λ y tr w i h. h))) (λ b. leaves_does ls (failed || b)) (λ y tr w i h. tt)

    left_does : (r : Result Done) (b : Bool) → Inside t tr0 w0 Always Ever (left this r b)
    unfolding left
    left_does r b = inside_looks (λ v. as_inside {Req = Always} {P = Ever} (inside_then {P = Ever} {Q = Ever}
        (inside_then {P = Ever} {Q = Ever} (inside_counts _ (inside_changes (edit_closes this) (λ tr w i h. tt))) (λ a. as_inside {P = Ever} (inside_good Always (λ tr w tr' w' i i' m h. tt) (keeps_program_error_if t ask call default calls b)) (λ tr w i s h. tt) (λ r tr w i h. tt)) (λ y tr w i h. tt))
        (λ a. inside_done _ (λ tr w i h. tt)) (λ y tr w i h. tt)) (λ tr w i s h. tt) (λ r tr w i h. tt))

    layers_at : (v w : World) (x : W.Master) → w ≡ v → master_at this w.ledger ≡ Some x → layers_of this v.ledger ≡ x.layers
    unfolding layers_of layers_in
    layers_at v w x e is = ap layers_in (ap (λ (z : World). master_at this z.ledger) (sym e) ∙ is)

    leave_does : (r : Result Done) → Inside t tr0 w0 (Standing t first this) Ever (leave k this r)
    unfolding leave
    leave_does r = inside_ticks (inside_seq {P = Ever} (inside_looks (λ v. leaves_at v)) (λ b. left_does r b) (λ y tr w i h. tt))
      where
        at_stack : (v : World) (tr : List Event) (w : World) → Standing t first this tr w → w ≡ v → Stack t first this (layers_of this v.ledger) tr w
        at_stack v tr w s e = subst (λ ls. Stack t first this ls tr w) (sym (layers_at v w s.master e s.is)) s.stack

        leaves_at : (v : World) → Inside t tr0 w0 (λ tr w. Standing t first this tr w × (w ≡ v)) Ever (leave_layers k this (layers_of this v.ledger) false)
        leaves_at v = as_inside (leaves_does (layers_of this v.ledger) false) (λ tr w i s h. at_stack v tr w h.0 h.1) (λ r tr w i h. h)

    -- Declaring ---------------------------------------------------------------------------------------------

    -- a declaration leaves none of the master's objects closed; one that fails leaves those before it standing
    abbrev pub Elaborated : {A : Type 0} → Result A → List Event → World → Type 0
    Elaborated (Goes a) tr w = Quiet t first this tr w
    Elaborated (Leaves y) tr w = Standing t first this tr w

    pub elaborated_if : {A : Type 0} (r : Result A) (tr : List Event) (w : World) → Quiet t first this tr w → Elaborated r tr w
    elaborated_if (Goes a) tr w q = q
    elaborated_if (Leaves y) tr w q = q.standing

    pub calmly : {A : Type 0} {m : Act A} → Good t m → Inside t tr0 w0 (Quiet t first this) Elaborated m
    calmly h = as_inside (inside_good (Quiet t first this) (quiet_still first this) h) (λ tr w i s q. q) (λ r tr w i q. elaborated_if r tr w q)

    inside_does : {A : Type 0} {Req : List Event → World → Type 0} {P : Result A → List Event → World → Type 0} {m : Act A} → Does t none calm Req P m → Inside t tr0 w0 Req P m
    inside_does {m = m} h = record { from = λ c l w i s r. ends_as (m c l w) (h.from c l w i r) (λ x tr v y. (y.0, on s (anywhere (Later w0) y.1), y.2)) }

    -- what is known of the objects that the master has, while a further one is created
    record Creating (n : ℕ) (ty : Ty) (tr : List Event) (w : World) : Type 0 where
      active : this < w.ledger.next_master
      master : W.Master
      is : master_at this w.ledger ≡ Some master
      stack : Stack t first this master.layers tr w
      below : AllBelow n master.layers
      others : (q : Part) → first_owner tr q ≡ Some (Master this) → (q.object ≡ n → ⊥) → closed tr q ≡ 0
      typed : Typed n ty w
      number : n < w.ledger.next_object

    creating_past : (n : ℕ) (ty : Ty) (tr : List Event) (w : World) (tr' : List Event) (w' : World) → Inv t tr w → Moves (Of n) (Some (Master this)) tr w tr' w' → Creating n ty tr w → Creating n ty tr' w'
    creating_past n ty tr w tr' w' i m c = record {
      active = let x = c.active in let y = m.next_master in omega arith;
      master = c.master;
      is = m.layers this c.active ∙ c.is;
      stack = stack_past first this n c.master.layers i m (λ p e lt. omega arith) c.below c.stack;
      below = c.below;
      others = λ q o off. elim (m.lives q (Master this) (inr (this, refl, c.active)) o) [ inl j ↦ m.closes q (known q j) (i.declared q this j) off ∙ c.others q j off | inr e ↦ absurd (off e.0) ];
      typed = m.typed n ty c.number c.typed;
      number = let a = m.next in let b = c.number in omega arith;
    }
      where
        known : (q : Part) → first_owner tr q ≡ Some (Master this) → q.object < w.ledger.next_object
        known q o = elim (cases_lt q.object w.ledger.next_object) [ inl lt ↦ lt | inr le ↦ absurd (i.fresh q (Master this) le o) ]

    abbrev Fresh : ℕ → Ty → List Event → World → Type 0
    Fresh n ty tr w = New t order ask call default calls values n ty (Master this) tr w × Creating n ty tr w

    one_master : (a b : ℕ) → Master a ≡ Master b → a ≡ b
    one_master a b e = cc e

    -- a new object of the master
    created_one : (ty : Ty) (cells : List ℕ) (w : World) (tr : List Event) → Inv t tr w → Quiet t first this tr w → Fresh w.ledger.next_object ty tr (create ty cells (Declared this) w)
    created_one ty cells w tr i q =
        let b = create_begins ty cells (Declared this) w i.numbers in
        let a : Moves none calm tr w tr (create ty cells (Declared this) w) = edited_on (stay none calm tr w) (omega arith) (edit_creates ty cells (Declared this) w i.numbers) in
        let s = q.standing in (
          new_growing w.ledger.next_object ty (Master this) tr w _ i refl b (λ m e. subst (λ x. Room tr x w.ledger.next_object) (one_master this m e) (q.room w.ledger.next_object)) (λ m e. let x = one_master this m e in let y = s.active in let z = a.next_master in omega arith),
          record {
            active = let y = s.active in let z = a.next_master in omega arith;
            master = s.master;
            is = a.layers this s.active ∙ s.is;
            stack = stack_past first this w.ledger.next_object s.master.layers i a (λ p x. absurd x) (stack_below t first this s.master.layers tr w s.stack) s.stack;
            below = stack_below t first this s.master.layers tr w s.stack;
            others = λ p o off. q.room (suc p.object) p o (omega arith);
            typed = b.typed;
            number = b.number;
          },
        )

    created_at : (ty : Ty) (cells : List ℕ) (v w : World) (tr : List Event) → w ≡ v → Inv t tr w → Quiet t first this tr w → Fresh v.ledger.next_object ty tr (create ty cells (Declared this) w)
    created_at ty cells v w tr e i q = subst (λ x. Fresh x.ledger.next_object ty tr (create ty cells (Declared this) w)) e (created_one ty cells w tr i q)

    fresh_still : (n : ℕ) (ty : Ty) → Stable t none calm (Fresh n ty)
    fresh_still n ty tr w tr' w' i i' m h = (new_still t order ask call default calls values n ty (Master this) tr w tr' w' i i' (owned_any m) h.0, creating_past n ty tr w tr' w' i (wider (λ p x. absurd x) (owned_any m)) h.1)

    -- where its creation fails, those before it stand
    fill_inside : (n : ℕ) (ty : Ty) (value : Option (List ℕ)) (b : Birth) → b.owner ≡ Master this → first ≤ n → Inside t tr0 w0 (Fresh n ty) (λ r tr w. IfGoes (Full t order ask call default calls values n ty (Master this)) r tr w × Creating n ty tr w) (fill k b n ty value)
    fill_inside n ty value b own le = inside_of n (Creating n ty) (Creating n ty) le (subst (λ o. Does t (Of n) (Some o) (New t order ask call default calls values n ty o) (IfGoes (Full t order ask call default calls values n ty o)) (fill k b n ty value)) own (fill_does t order ask call default calls values b n ty value)) (λ tr w tr' w' i m c. creating_past n ty tr w tr' w' i m c)

    to_standing : (n : ℕ) (ty : Ty) (tr : List Event) (w : World) → Creating n ty tr w → Standing t first this tr w
    to_standing n ty tr w c = record { active = c.active; master = c.master; is = c.is; stack = c.stack }

    -- it is a layer from then on
    add_does : (n : ℕ) (ty : Ty) → first ≤ n → Inside t tr0 w0 (λ tr w. Full t order ask call default calls values n ty (Master this) tr w × Creating n ty tr w) Elaborated (change (add_layer this (Single n)))
    unfolding add_layer push_layer with_layer
    add_does n ty le = inside_changes (edit_layer this (Single n)) (λ tr w i h. added tr w h.0 h.1)
      where
        added : (tr : List Event) (w : World) → Full t order ask call default calls values n ty (Master this) tr w → Creating n ty tr w → Quiet t first this tr (add_layer this (Single n) w)
        added tr w f c = record {
          standing = record {
            active = c.active;
            master = with_layer (Single n) c.master;
            is = layer_added this (Single n) w c.master c.is;
            stack = (le, (ty, entire_same t n ty (Master this) tr w _ refl refl refl (record { stead = f.0.stead; lives = f.1; unclosed = λ u q e h. f.2 q }), c.typed), c.below, stack_same t first this c.master.layers tr w _ refl refl refl c.stack);
          };
          room = λ x q o lt. elim (cases_eq q.object n) [ inl e ↦ subst (λ z. closed tr (part z q.path) ≡ 0) (sym e) (f.2 q.path) | inr off ↦ c.others q o off ];
        }

    create_does : (slot : ℕ) (ty : Ty) (v : World) → Does t none calm (λ tr w. Quiet t first this tr w × (w ≡ v)) (λ r tr w. Fresh v.ledger.next_object ty tr w) (change (create ty (begin_cells t ty) (Declared this)) >> change (set_slot this slot (holding (Holds v.ledger.next_object))))
    create_does slot ty v =
        then_do {P = λ r tr w. Fresh v.ledger.next_object ty tr w} {Q = λ r tr w. Fresh v.ledger.next_object ty tr w} (changes (edit_creates ty _ (Declared this)) (λ tr w i r. created_at ty _ v w tr r.1 i r.0))
        (λ a. as_well (framed (Fresh v.ledger.next_object ty) (fresh_still v.ledger.next_object ty) (keeps_changes (edit_slot this slot _))) (λ tr w i h. (tt, h)) (λ r tr w i h. h.1)) (λ y tr w i h. h)

    abbrev FilledOr : ℕ → Ty → Result Done → List Event → World → Type 0
    FilledOr n ty r tr w = IfGoes (Full t order ask call default calls values n ty (Master this)) r tr w × Creating n ty tr w

    inside_choice : {A : Type 0} {Req : List Event → World → Type 0} {P : Result A → List Event → World → Type 0} (b : Bool) {m n : Act A} → Inside t tr0 w0 Req P m → Inside t tr0 w0 Req P n → Inside t tr0 w0 Req P (either b m n)
    unfolding either
    inside_choice true h g = h
    inside_choice false h g = g

    composite_at : (slot : ℕ) (ty : Ty) (value : Option (List ℕ)) (v : World) → first ≤ v.ledger.next_object → Inside t tr0 w0 (λ tr w. Quiet t first this tr w × (w ≡ v)) Elaborated (change (create ty (begin_cells t ty) (Declared this)) >> change (set_slot this slot (holding (Holds v.ledger.next_object))) >> fill k (birth_of (Declared this) v) v.ledger.next_object ty value >> change (add_layer this (Single v.ledger.next_object)))
    unfolding birth_of owner_of
    composite_at slot ty value v le =
        inside_then {P = FilledOr v.ledger.next_object ty} (inside_then {P = λ r tr w. Fresh v.ledger.next_object ty tr w} (inside_does (create_does slot ty v)) (λ a. fill_inside v.ledger.next_object ty value (birth_of (Declared this) v) refl le) (λ y tr w i h. (tt, h.1)))
        (λ a. add_does v.ledger.next_object ty le) (λ y tr w i h. to_standing v.ledger.next_object ty tr w h.1)

    from_now : {A : Type 0} {P : Result A → List Event → World → Type 0} {m : Act A} (v : World) → (first ≤ v.ledger.next_object → Inside t tr0 w0 (λ tr w. Quiet t first this tr w × (w ≡ v)) P m) → Inside t tr0 w0 (λ tr w. Quiet t first this tr w × (w ≡ v)) P m
    from_now v h = record { from = λ c l w i s r. (h (let a = s.next in let e = ap (λ (x : World). x.ledger.next_object) r.1 in omega arith)).from c l w i s r }

    declares : (c : Category) (slot : ℕ) (ty : Ty) (value : Option (List ℕ)) → Inside t tr0 w0 (Quiet t first this) Elaborated (declare c k this slot ty value)
    unfolding declare
    declares Elementary slot ty value = calmly (keeps_then (keeps_changes edit_numbers) (keeps_changes (edit_value this slot _)))
    declares Composite slot ty value = inside_looks (λ v. from_now v (composite_at slot ty value v))

    -- Pools --------------------------------------------------------------------------------------------------

    inside_attempts : {A : Type 0} {Req : List Event → World → Type 0} {P : Result A → List Event → World → Type 0} {m : Act A} → Inside t tr0 w0 Req P m → Inside t tr0 w0 Req (Attempted P) (attempt m)
    unfolding attempt told
    inside_attempts {P = P} h = inside_sequence h (λ r. told_too P r)
      where
        told_too : {A : Type 0} (P : Result A → List Event → World → Type 0) (r : Result A) → Inside t tr0 w0 (P r) (Attempted P) (given (tried r))
        told_too P (Goes a) = inside_given _ (λ tr w i h. h)
        told_too P (Leaves (ByRaise e)) = inside_given _ (λ tr w i h. h)
        told_too P (Leaves y) = inside_given _ (λ tr w i h. h)

    keeps_open : (r : Root) (n : ℕ) (d : ℕ × ℕ) → Good t (open_pool r n d)
    unfolding open_pool
    keeps_open Untagged n d = keeps_changes (edit_pools _)
    keeps_open Controlled n d = keeps_changes (edit_pools _)
    keeps_open BlockPool n d = keeps_changes (edit_pools _)
    keeps_open MarkPool n d = keeps_changes (edit_pools _)

    after_pool : (n : ℕ) (ty : Ty) → first ≤ n → (r : Tried Done) → Inside t tr0 w0 (λ tr w. Attempted (FilledOr n ty) (Goes r) tr w) Elaborated (pool_or_closed this n r)
    unfolding pool_or_closed raise
    after_pool n ty le (Fine a) = add_does n ty le
    after_pool n ty le (Raised e) =
        inside_then {P = λ r tr w. Standing t first this tr w} (as_inside (inside_good (Standing t first this) (standing_still first this) (keeps_changes (edit_shuts n))) (λ tr w i s h. to_standing n ty tr w h.1) (λ r tr w i h. h)) (λ a. inside_given (Leaves (ByRaise e)) (λ tr w i h. h)) (λ y tr w i h. h)

    pool_at : (slot u : ℕ) (d : ℕ × ℕ) (r : Root) (v : World) → first ≤ v.ledger.next_object → Inside t tr0 w0 (λ tr w. Quiet t first this tr w × (w ≡ v)) Elaborated (change (create (Record u) (begin_cells t (Record u)) (Declared this)) >> change (set_slot this slot (holding (Holds v.ledger.next_object))) >> open_pool r v.ledger.next_object d >> attempt (fill k (birth_of (Declared this) v) v.ledger.next_object (Record u) None) >>= pool_or_closed this v.ledger.next_object)
    unfolding birth_of owner_of
    pool_at slot u d r v le =
        inside_seq {P = Attempted (FilledOr v.ledger.next_object (Record u))} (inside_then {P = λ r tr w. Fresh v.ledger.next_object (Record u) tr w} (inside_does (then_do {P = λ r tr w. Fresh v.ledger.next_object (Record u) tr w} (create_does slot (Record u) v) (λ a. as_well (framed (Fresh v.ledger.next_object (Record u)) (fresh_still v.ledger.next_object (Record u)) (keeps_open r v.ledger.next_object d)) (λ tr w i h. (tt, h)) (λ r tr w i h. h.1)) (λ y tr w i h. h)))
        (λ a. inside_attempts (fill_inside v.ledger.next_object (Record u) None (birth_of (Declared this) v) refl le)) (λ y tr w i h. (tt, h.1)))
        (λ x. after_pool v.ledger.next_object (Record u) le x) (λ y tr w i h. to_standing v.ledger.next_object (Record u) tr w h.1)

    declares_pool : (slot u : ℕ) (d : ℕ × ℕ) → Inside t tr0 w0 (Quiet t first this) Elaborated (declare_pool k this slot u d)
    unfolding declare_pool
    declares_pool slot u d = inside_choice _ (inside_looks (λ v. from_now v (pool_at slot u d _ v))) (calmly (keeps_raise _))

    -- Collections -----------------------------------------------------------------------------------------------

    sets_does : (sets : List ℕ) → Inside t tr0 w0 (Quiet t first this) Elaborated (change (add_layer this (Sets sets)))
    unfolding add_layer push_layer with_layer
    sets_does sets = inside_changes (edit_layer this (Sets sets)) (λ tr w i q. record {
      standing = record { active = q.standing.active; master = with_layer (Sets sets) q.standing.master; is = layer_added this (Sets sets) w q.standing.master q.standing.is; stack = stack_same t first this q.standing.master.layers tr w _ refl refl refl q.standing.stack };
      room = q.room;
    })

    gathers : (accesses found : List ℕ) → Inside t tr0 w0 (Quiet t first this) Elaborated (gather_each k this accesses found)
    unfolding gather_each gather
    gathers [] found = sets_does found
    gathers (a ∷ more) found = inside_seq {P = Elaborated} (inside_ticks (calmly (keeps_on_some _ keeps_gone (λ x. keeps_looks (λ w. keeps_then (keeps_changes (edit_gathers this _ _)) (keeps_done _)))))) (λ n. gathers more (found ++ n ∷ [])) (λ y tr w i h. h)

  -- Items ----------------------------------------------------------------------------------------------------------

  -- an item of the master that was entered last
  abbrev pub GoodItem : Elaborating → Type 0
  GoodItem x = (tr0 : List Event) (w0 : World) (env : List ℕ) → Inside t tr0 w0 (Quiet t w0.ledger.next_object w0.ledger.next_master) (Elaborated tr0 w0) (x k env w0.ledger.next_master)

  abbrev GoodValue : Valued → Type 0
  GoodValue = E.GoodValue t ask call default

  abbrev GoodAssociation : ℕ × Valued → Type 0
  GoodAssociation x = GoodValue x.1

  keeps_discriminants : (env : List ℕ) (xs : List (ℕ × Valued)) → Each GoodAssociation xs → (d : ℕ × ℕ) → Good t (discriminants k env xs d)
  unfolding discriminants
  keeps_discriminants env [] h d = keeps_done d
  keeps_discriminants env (x ∷ xs) h d = keeps_seq (h.0 env) (λ v. keeps_discriminants env xs h.1 _)

  -- each item of a declarative part
  pub declarations : Declarations (of_expressions t ask call default) GoodItem
  unfolding collections object pool silent
  declarations = record {
    collections = λ accesses tr0 w0 env. gathers tr0 w0 accesses [];
    object = λ slot ty v h tr0 w0 env. inside_ticks (inside_seq {P = Elaborated tr0 w0} (calmly tr0 w0 (keeps_if_given t ask call default env v h)) (λ x. declares tr0 w0 (category_of ty) slot ty x) (λ y tr w i q. q));
    pool = λ slot u ds h tr0 w0 env. inside_ticks (inside_seq {P = Elaborated tr0 w0} (calmly tr0 w0 (keeps_discriminants env ds h (0, 0))) (λ d. declares_pool tr0 w0 slot u d) (λ y tr w i q. q));
    silent = λ tr0 w0 env. inside_ticks (calmly tr0 w0 keeps_nothing);
  }

  pub elaborates : (tr0 : List Event) (w0 : World) (env : List ℕ) (xs : List Elaborating) → Each GoodItem xs → Inside t tr0 w0 (Quiet t w0.ledger.next_object w0.ledger.next_master) (Elaborated tr0 w0) (elaborate k env w0.ledger.next_master xs)
  unfolding elaborate
  elaborates tr0 w0 env [] h = calmly tr0 w0 keeps_nothing
  elaborates tr0 w0 env (x ∷ xs) h = inside_then {P = Elaborated tr0 w0} (h.0 tr0 w0 env) (λ a. elaborates tr0 w0 env xs h.1) (λ y tr w i q. q)

  -- A whole master ----------------------------------------------------------------------------------------------------

  -- what is done in a master leaves its objects standing
  abbrev pub Lasting : (List ℕ → Act Done) → Type 0
  Lasting run = (tr0 : List Event) (w0 : World) (env : List ℕ) → Inside t tr0 w0 (Quiet t w0.ledger.next_object w0.ledger.next_master) (λ r tr w. Standing t w0.ledger.next_object w0.ledger.next_master tr w) (run (env ++ w0.ledger.next_master ∷ []))

  opened_quiet : (env : List ℕ) (slots : List Slot) (tr : List Event) (w : World) → Inv t tr w → Quiet t w.ledger.next_object w.ledger.next_master tr (open_master env slots w)
  unfolding open_master enter_master
  opened_quiet env slots tr w i = record {
    standing = record { active = omega arith; master = record { number = w.ledger.next_master; layers = [] }; is = master_entered env slots w; stack = tt };
    room = λ n q o lt. let a = i.active q w.ledger.next_master o in absurd (omega arith);
  }

  master_no : (a b : ℕ) (o : Owner) → Some (Master a) ≡ Some o → o ≡ Master b → b < a → ⊥
  master_no a b o e f lt = let same : Master a ≡ Master b = cc (e, f) in let x = same_master a b same in absurd (omega arith)
    where
      same_master : (a b : ℕ) → Master a ≡ Master b → a ≡ b
      same_master a b e = cc e

  -- a master that is left concerned nothing that was there before
  since_calm : {tr0 tr : List Event} {w0 w : World} → Since tr0 w0 tr w → Moves none calm tr0 w0 tr w
  since_calm {w0 = w0} a = record {
    kept = a.kept;
    next = a.next;
    next_master = a.next_master;
    layers = a.layers;
    typed = a.typed;
    lives = λ p o old h. elim (a.lives p o old h) [ inl i ↦ inl i | inr e ↦ elim old [ inl lt ↦ let le : w0.ledger.next_object ≤ p.object = e.0 in absurd (omega arith) | inr m ↦ absurd (master_no w0.ledger.next_master m.0 o e.1 m.1 m.2) ] ];
    closes = λ p h out e. a.closes p h out (λ le. omega arith);
    out = a.out;
  }

  pub keeps_master : (env : List ℕ) (slots : List Slot) (run : List ℕ → Act Done) → Lasting run → Good t (in_master k env slots run)
  unfolding in_master look
  keeps_master env slots run h = record { from = λ c l w i r. ends_as _ ((whole l.trace w).from c l w i (stay (Later w) (Some (Master w.ledger.next_master)) l.trace w) refl) (λ x tr v y. (y.0, since_calm y.1, tt)) }
    where
      whole : (tr0 : List Event) (w0 : World) → Inside t tr0 w0 (λ tr w. w ≡ w0) Ever (change (open_master env slots) >> then_always (run (env ++ w0.ledger.next_master ∷ [])) (leave k w0.ledger.next_master))
      whole tr0 w0 = inside_then {P = λ r tr w. Quiet t w0.ledger.next_object w0.ledger.next_master tr w} (opens tr0 w0) (λ a. inside_sequence (h tr0 w0 env) (λ r. leave_does tr0 w0 r)) (λ y tr w i q. tt)
        where
          opens : (tr0 : List Event) (w0 : World) → Inside t tr0 w0 (λ tr w. w ≡ w0) (λ r tr w. Quiet t w0.ledger.next_object w0.ledger.next_master tr w) (change (open_master env slots))
          opens tr0 w0 = inside_does tr0 w0 (changes (edit_opens env slots) (λ tr w i e. subst (λ (x : World). Quiet t x.ledger.next_object x.ledger.next_master tr (open_master env slots w)) e (opened_quiet env slots tr w i)))
