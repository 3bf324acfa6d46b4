-- Allocators, whose objects join their collections in the end, and Unchecked_Deallocation (4.8, 13.11.2).
use Rattle.std.proofs.Common.{ℕ, List, [], ◌∷◌, Option, Some, None, Bool, true, false}
use Rattle.ctl_program.specs.declared.types.Ty.{Ty}
use Rattle.ctl_tree.specs.declared.event.Event.{Event}
use Rattle.ctl_meaning.specs.World.{World, Origin, Declared, Allocated, Place, Standard, InBlock, InSubpool, Object, Slot}
use Rattle.ctl_meaning.specs.Changes.{object_at}
use Rattle.ctl_meaning.specs.Names.{Returned}
use Rattle.ctl_meaning.specs.Choice.{Ask}
use Rattle.ctl_meaning.specs.Outcome.{Result, Goes, Leaves, Done, given, then_always, stop, look, change, on_goes, ◌>>=◌, ◌>>◌, done, attempt, Tried, Fine, Raised, either, on_some}
use Rattle.ctl_meaning.specs.Types.{Tables}
use Rattle.ctl_meaning.specs.Names.{OfSubprogram, Call as Caller, Default, Tools, Found, gone, existing}
use Rattle.ctl_meaning.specs.Initialization.{fill}
use Rattle.ctl_meaning.specs.Allocation.{with_set, created_or_gone, created, allocate_for, allocate, returns_storage, freed, finalize_unfinalized, free_object, free_value, free}
use Rattle.ctl_orderly.proofs.Rules.{Good, as_well, vacuous, seq, then_do, stopped, counts, looks, some_or, choice}
use Rattle.ctl_orderly.proofs.Edits.{changes}
use Rattle.ctl_orderly.proofs.Plain.{keeps_on_variable, keeps_changes, keeps_counts, keeps_nothing, keeps_read_found, keeps_seq, keeps_then, keeps_write_found}
use Rattle.std.proofs.Common.{◌≡◌, ◌<◌, ◌≤◌, ◌&&◌, refl, sym, ap, ◌∙◌, subst, arith, ◌⊎◌, inl, inr}
use Rattle.ctl_tree.specs.declared.event.Owner.{Owner}
use Rattle.ctl_tree.specs.declared.event.Owner.TheVariants.{Master, Collection}
use Rattle.ctl_tree.specs.declared.event.Part.{Part}
use Rattle.ctl_meaning.specs.World.{Log, Collection as CollectionRecord}
use Rattle.ctl_meaning.specs.Changes.{create_at, owner_of, join}
use Rattle.ctl_meaning.specs.Lists.{change_first}
use Rattle.ctl_meaning.specs.Objects.{with_joined, is_untouched}
use Rattle.std.proofs.lemmas.Bool.{cases_lt}
use Rattle.ctl_meaning.specs.Adjustment.{birth_of}
use Rattle.ctl_meaning.specs.Allocation.{is_new, set_of, join_collection}
use Rattle.ctl_meaning.specs.Members.{member_of, is_due}
use Rattle.ctl_meaning.specs.Emptied.{Lists}
use Rattle.ctl_meaning.specs.Run.{completed}
use Rattle.ctl_meaning.specs.Changes.{object_at}
use Rattle.ctl_meaning.specs.Names.{Returned}
use Rattle.std.specs.Prelude.{nat_eq, if◌then◌else◌}
use Rattle.std.proofs.Common.{eqb-true}
use Rattle.ctl_meaning.specs.Types.{begin_cells, has_controlled}
use Rattle.ctl_meaning.specs.Audit.{first_owner}
use Rattle.ctl_orderly.specs.Law.{InOrder}
use Rattle.ctl_orderly.proofs.State.{part, stands, Typed, Whole, Inv, Moves, none, calm}
use Rattle.ctl_orderly.proofs.Rules.{Ever, IfGoes, Does, Ends, ends_bind, Stable, framed, exists, gives_done, raises, is_gone, Attempted, attempts}
use Rattle.ctl_orderly.proofs.Edits.{edit_creates_at, edit_forgets}
use Rattle.ctl_orderly.proofs.Members.{Of, member_closes}
use Rattle.ctl_orderly.proofs.Filling.{New, Full, fill_does}
use Rattle.ctl_orderly.proofs.Creating.{create_at_begins, new_growing, fresh_in}
use Rattle.ctl_orderly.proofs.Storage.{keeps_storage, keeps_give_back, keeps_program_error_if}

module _ (t : Tables) (order : InOrder t.records) (ask : Ask) (call : Caller) (default : Default) (calls : (f : ℕ) (ss : List Slot) (env : List ℕ) → Good t (call (OfSubprogram f ss) env)) (values : (u position : ℕ) (env : List ℕ) → Good t (default u position env)) where
  abbrev k : Tools
  k = record { ask = ask; tables = t; call = call; default = default }

  -- Unchecked_Deallocation -------------------------------------------------------------------------

  keeps_returns : (ty : Ty) (x : Origin) → Good t (returns_storage k ty x)
  unfolding returns_storage
  keeps_returns ty (Declared m) = keeps_nothing
  keeps_returns ty (Allocated s Standard) = keeps_nothing
  keeps_returns ty (Allocated s (InBlock p a)) = keeps_give_back t ask call default calls p a _
  keeps_returns ty (Allocated s (InSubpool x)) = keeps_nothing

  due : (o : Object) → is_due t o ≡ true → stands o ≡ true
  unfolding is_due
  due o e = go o.joined (is_untouched o.state) (has_controlled t o.ty) e
    where
      go : (a b c : Bool) → (a && (b && c)) ≡ true → (a && b) ≡ true
      go true true c e = refl
      go true false c e = absurd (cc)
      go false b c e = absurd (cc)

  -- a member that exists is closed before it is gone
  frees : (f : Found) (set : ℕ) (o : Object) → Does t none calm (λ tr w. Lists o w.objects) Ever (free_object k f set o)
  unfolding free_object finalize_unfinalized freed
  frees f set o =
      choice _ (λ e. stopped _) (λ e. choice _ (λ e. stopped _) (λ e. seq {P = Ever} (choice _ (λ is. as_well (member_closes t ask call default calls _ (member_of o)) (λ tr w i r. (o, r, refl, due o is)) (λ r tr w i h. tt)) (λ is. gives_done _ (λ tr w i r. tt)))
      (λ b. as_well (keeps_then (keeps_then (keeps_then (keeps_write_found f _) (keeps_counts _ (keeps_changes (edit_forgets _)))) (keeps_returns _ _)) (keeps_program_error_if t ask call default calls b)) (λ tr w i r. tt) (λ r tr w i h. tt)) (λ y tr w i h. tt)))

  pub keeps_free : (env : List ℕ) (a : ℕ) (f : Found) → Good t (free k env a f)
  unfolding free free_value with_set
  keeps_free env a f = keeps_on_variable f (keeps_seq (keeps_read_found 1 f) (λ v. choice _ (λ e. keeps_nothing) (λ e. exists _ (λ o is. some_or _ (λ e. is_gone) (λ b e. looks (λ w. as_well (frees f _ o) (λ tr w i r. r.0.1) (λ r tr w i h. tt)))))))

  -- Allocators ---------------------------------------------------------------------------------------

  -- an object that joins its collection next
  abbrev pub Joining : ℕ → ℕ → List Event → World → Type 0
  Joining limit n tr w = (limit ≤ n) × ((c : ℕ) × (ty : Ty) × Full t order ask call default calls values n ty (Collection c) tr w × Typed n ty w)

  abbrev pub Joins : ℕ → Result ℕ → List Event → World → Type 0
  Joins limit (Goes n) tr w = Joining limit n tr w
  Joins limit (Leaves y) tr w = Unit {0}

  master_no : (c m : ℕ) → Collection c ≡ Master m → ⊥
  master_no c m e = absurd (cc)

  typed_still : {E : Part → Type 0} {own : Option Owner} (n : ℕ) (ty : Ty) → Stable t E own (λ tr w. Typed n ty w × (n < w.ledger.next_object))
  typed_still n ty tr w tr' w' i i' m h = let a = m.next in let b = h.1 in (m.typed n ty h.1 h.0, omega arith)

  after_fill : (limit n c : ℕ) (ty : Ty) → limit ≤ n → (r : Tried Done) → Does t (Of n) (Some (Collection c)) (λ tr w. Attempted (λ r tr w. IfGoes (Full t order ask call default calls values n ty (Collection c)) r tr w × (Typed n ty w × (n < w.ledger.next_object))) (Goes r) tr w) (Joins limit) (created_or_gone n r)
  unfolding created_or_gone
  after_fill limit n c ty le (Fine a) = gives_done n (λ tr w i h. (le, (c, ty, h.0, h.1.0)))
  after_fill limit n c ty le (Raised e) = then_do {P = Ever} (counts 1 (changes (edit_forgets n) (λ tr w i h. tt))) (λ a. raises e (λ tr w i h. tt)) (λ y tr w i h. tt)

  begun_one : (ty : Ty) (set : ℕ) (place : Place) (w : World) (tr : List Event) → Inv t tr w → New t order ask call default calls values w.ledger.next_object ty (Collection set) tr (create_at ty (begin_cells t ty) set place w) × (Typed w.ledger.next_object ty (create_at ty (begin_cells t ty) set place w) × (w.ledger.next_object < (create_at ty (begin_cells t ty) set place w).ledger.next_object))
  begun_one ty set place w tr i =
      let b = create_at_begins ty (begin_cells t ty) set place w i.numbers in
      (new_growing w.ledger.next_object ty (Collection set) tr w _ i refl b (λ m e. absurd (master_no set m e)) (λ m e. absurd (master_no set m e)), (b.typed, b.number))

  begun_at : (ty : Ty) (set : ℕ) (place : Place) (v w : World) (tr : List Event) → w ≡ v → Inv t tr w → New t order ask call default calls values v.ledger.next_object ty (Collection set) tr (create_at ty (begin_cells t ty) set place w) × (Typed v.ledger.next_object ty (create_at ty (begin_cells t ty) set place w) × (v.ledger.next_object < (create_at ty (begin_cells t ty) set place w).ledger.next_object))
  begun_at ty set place v w tr e i = subst (λ x. New t order ask call default calls values x.ledger.next_object ty (Collection set) tr (create_at ty (begin_cells t ty) set place w) × (Typed x.ledger.next_object ty (create_at ty (begin_cells t ty) set place w) × (x.ledger.next_object < (create_at ty (begin_cells t ty) set place w).ledger.next_object))) e (begun_one ty set place w tr i)

  creates_at : (limit set : ℕ) (ty : Ty) (value : Option (List ℕ)) (place : Place) (v : World) → limit ≤ v.ledger.next_object → Does t none calm (λ tr w. w ≡ v) (Joins limit) (change (create_at ty (begin_cells t ty) set place) >> attempt (fill k (birth_of (Allocated set place) v) v.ledger.next_object ty value) >>= created_or_gone v.ledger.next_object)
  unfolding birth_of owner_of
  creates_at limit set ty value place v le = as_well {Req = λ tr w. (w ≡ v) × (w.ledger.next_object ≤ v.ledger.next_object)} (fresh_in v.ledger.next_object set
      (seq (then_do {P = λ r tr w. New t order ask call default calls values v.ledger.next_object ty (Collection set) tr w × (Typed v.ledger.next_object ty w × (v.ledger.next_object < w.ledger.next_object))}
      (changes (edit_creates_at ty _ set place) (λ tr w i r. begun_at ty set place v w tr r i))
      (λ a. attempts (framed (λ tr w. Typed v.ledger.next_object ty w × (v.ledger.next_object < w.ledger.next_object)) (typed_still v.ledger.next_object ty) (fill_does t order ask call default calls values (birth_of (Allocated set place) v) v.ledger.next_object ty value)))
      (λ y tr w i h. (tt, h.1)))
      (λ r. after_fill limit v.ledger.next_object set ty le r) (λ y tr w i h. tt))) (λ tr w i r. (r, let e = ap (λ (x : World). x.ledger.next_object) r in omega arith)) (λ r tr w i h. h)

  creates : (limit set : ℕ) (ty : Ty) (value : Option (List ℕ)) (place : Place) → Does t none calm (λ tr w. limit ≤ w.ledger.next_object) (Joins limit) (created k set ty value place)
  unfolding created
  creates limit set ty value place = looks (λ v. elim (cases_lt v.ledger.next_object limit) [ inl lt ↦ vacuous (λ tr w r. let e = ap (λ (x : World). x.ledger.next_object) r.1 in let le = r.0 in omega arith) | inr le ↦ as_well (creates_at limit set ty value place v le) (λ tr w i r. r.1) (λ r tr w i h. h) ])

  limit_still : {own : Option Owner} (limit : ℕ) → Stable t none own (λ tr w. limit ≤ w.ledger.next_object)
  limit_still limit tr w tr' w' i i' m h = let a = m.next in omega arith

  pub allocates_does : (limit : ℕ) (env : List ℕ) (a : ℕ) (ty : Ty) (h v : Option (List ℕ)) → Does t none calm (λ tr w. limit ≤ w.ledger.next_object) (Joins limit) (allocate k env a ty h v)
  unfolding allocate allocate_for with_set
  allocates_does limit env a ty h v =
      choice _ (λ e. raises _ (λ tr w i r. tt)) (λ e. some_or _ (λ n. is_gone) (λ b is. looks (λ x. looks (λ y. some_or _ (λ n. is_gone) (λ c isc. choice _ (λ r. raises _ (λ tr w i q. tt))
      (λ r. as_well (seq {P = λ r tr w. limit ≤ w.ledger.next_object} (as_well (framed (λ tr w. limit ≤ w.ledger.next_object) (limit_still limit) (keeps_storage t ask call default calls env b.pool h _)) (λ tr w i q. (tt, q)) (λ r tr w i q. q.1)) (λ p. creates limit _ ty v p) (λ y tr w i q. tt)) (λ tr w i q. q.0.0) (λ r tr w i q. q)))))))

  -- Joining ------------------------------------------------------------------------------------------------

  record Joined (n : ℕ) (os : List Object) (x : Object) : Type 0 where
    was : Object
    listed : Lists was os
    number : was.number ≡ n
    is : x ≡ with_joined was

  joined_if : (n : ℕ) (b : Bool) (o x : Object) (os changed : List Object) → nat_eq o.number n ≡ b → Lists x (if b then with_joined o ∷ os else o ∷ changed) → (Lists x changed → Lists x os ⊎ Joined n os x) → Lists x (o ∷ os) ⊎ Joined n (o ∷ os) x
  joined_if n true o x os changed e (inl s) rest = inr (record { was = o; listed = inl refl; number = eqb-true o.number n e; is = s })
  joined_if n true o x os changed e (inr l) rest = inl (inr l)
  joined_if n false o x os changed e (inl s) rest = inl (inl s)
  joined_if n false o x os changed e (inr l) rest = elim (rest l) [ inl m ↦ inl (inr m) | inr h ↦ inr (record { was = h.was; listed = inr h.listed; number = h.number; is = h.is }) ]

  joined_listed : (n : ℕ) (os : List Object) (x : Object) → Lists x (change_first (λ o. nat_eq o.number n) with_joined os) → Lists x os ⊎ Joined n os x
  unfolding change_first
  joined_listed n [] x l = absurd l
  joined_listed n (o ∷ os) x l = joined_if n (nat_eq o.number n) o x os _ refl l (joined_listed n os x)

  same_joined : (o : Object) → ((with_joined o).number ≡ o.number) × ((with_joined o).ty ≡ o.ty)
  unfolding with_joined
  same_joined o = (refl, refl)

  joined_number : (n : ℕ) (os : List Object) (x : Object) → Joined n os x → x.number ≡ n
  joined_number n os x h = ap (λ (y : Object). y.number) h.is ∙ (same_joined h.was).0 ∙ h.number

  collection_master : (c m : ℕ) → Master m ≡ Collection c → ⊥
  collection_master c m e = absurd (cc)

  join_inv : (limit n : ℕ) (tr : List Event) (w : World) → Inv t tr w → Joining limit n tr w → Inv t tr (join n w)
  unfolding join
  join_inv limit n tr w i r = record {
    sound = i.sound;
    fresh = i.fresh;
    unclosed = i.unclosed;
    active = i.active;
    declared = λ p m h x l e s. elim (joined_listed n w.objects x l) [ inl o ↦ i.declared p m h x o e s | inr j ↦ collection_master r.1.0 m (r.1.2.0.mine p.path (Master m) (subst (λ z. first_owner tr (part z p.path) ≡ Some (Master m)) (sym e ∙ joined_number n w.objects x j) h)) ];
    members = λ x l s. elim (joined_listed n w.objects x l) [ inl o ↦ i.members x o s | inr j ↦ whole x j ];
    numbers = λ x l. elim (joined_listed n w.objects x l) [ inl o ↦ i.numbers x o | inr j ↦ let a = joined_number n w.objects x j in let b = r.1.2.0.stead.number in omega arith ];
  }
    where
      whole : (x : Object) → Joined n w.objects x → Whole t x.number x.ty tr
      whole x j = subst (λ z. Whole t z x.ty tr) (sym (joined_number n w.objects x j)) (subst (λ z. Whole t n z tr) (sym (ap (λ (y : Object). y.ty) j.is ∙ (same_joined j.was).1 ∙ r.1.3 j.was j.listed j.number)) (record { collection = r.1.0; lives = r.1.2.1; unclosed = λ u q e h. r.1.2.2 q }))

  join_moves : (n : ℕ) (tr0 tr : List Event) (w0 w : World) → w0.ledger.next_object ≤ n → Moves none calm tr0 w0 tr w → Moves none calm tr0 w0 tr (join n w)
  unfolding join
  join_moves n tr0 tr w0 w le a = record {
    kept = a.kept;
    next = a.next;
    next_master = a.next_master;
    layers = a.layers;
    typed = λ i ty lt h x l e. elim (joined_listed n w.objects x l) [ inl o ↦ a.typed i ty lt h x o e | inr j ↦ let b = joined_number n w.objects x j in absurd (omega arith) ];
    lives = a.lives;
    closes = a.closes;
    out = λ i lt h x l e s. elim (joined_listed n w.objects x l) [ inl o ↦ a.out i lt h x o e s | inr j ↦ let b = joined_number n w.objects x j in absurd (omega arith) ];
  }

  abbrev From : List Event → World → {A : Type 0} → Result A → List Event → World → Type 0
  From tr0 w0 r tr w = Inv t tr w × Moves none calm tr0 w0 tr w × Ever r tr w

  join_if : (b : Bool) (n c : ℕ) (l : Log) (w : World) (tr0 : List Event) (w0 : World) → Inv t l.trace w → Moves none calm tr0 w0 l.trace w → Joining w0.ledger.next_object n l.trace w → Ends (From tr0 w0) (either b (change (join n)) gone c l w)
  unfolding either change gone stop
  join_if true n c l w tr0 w0 i a r = record { holds = (join_inv w0.ledger.next_object n l.trace w i r, join_moves n tr0 l.trace w0 w r.0 a, tt) }
  join_if false n c l w tr0 w0 i a r = record { holds = i.sound }

  join_set : (o : Option CollectionRecord) (b : Bool) (n c : ℕ) (l : Log) (w : World) (tr0 : List Event) (w0 : World) → Inv t l.trace w → Moves none calm tr0 w0 l.trace w → Joining w0.ledger.next_object n l.trace w → Ends (From tr0 w0) (on_some o gone (λ x. either b (change (join n)) gone) c l w)
  unfolding on_some gone stop
  join_set None b n c l w tr0 w0 i a r = record { holds = i.sound }
  join_set (Some x) b n c l w tr0 w0 i a r = join_if b n c l w tr0 w0 i a r

  join_object : (o : Option Object) (n c : ℕ) (l : Log) (w : World) (tr0 : List Event) (w0 : World) → Inv t l.trace w → Moves none calm tr0 w0 l.trace w → Joining w0.ledger.next_object n l.trace w → Ends (From tr0 w0) (on_some o gone (λ x. look (λ v. on_some (set_of x.origin v) gone (λ y. either (is_new x) (change (join n)) gone))) c l w)
  unfolding on_some gone stop look
  join_object None n c l w tr0 w0 i a r = record { holds = i.sound }
  join_object (Some x) n c l w tr0 w0 i a r = join_set (set_of x.origin w) (is_new x) n c l w tr0 w0 i a r

  join_ends : (n c : ℕ) (l : Log) (w : World) (tr0 : List Event) (w0 : World) → Inv t l.trace w → Moves none calm tr0 w0 l.trace w → Joining w0.ledger.next_object n l.trace w → Ends (From tr0 w0) (join_collection n c l w)
  unfolding join_collection existing look
  join_ends n c l w tr0 w0 i a r = join_object (object_at n w) n c l w tr0 w0 i a r

  abbrev result : ℕ → Returned
  result n = record { cells = n ∷ []; slots = [] }

  after_join : (n : ℕ) (x : Result Done) (c : ℕ) (l : Log) (w : World) (tr0 : List Event) (w0 : World) → From tr0 w0 x l.trace w → Ends (From tr0 w0) (on_goes {A = Done} {B = Returned} (λ a. done (result n)) x c l w)
  unfolding on_goes done given
  after_join n (Goes a) c l w tr0 w0 h = record { holds = h }
  after_join n (Leaves y) c l w tr0 w0 h = record { holds = h }

  completes : (n c : ℕ) (l : Log) (w : World) (tr0 : List Event) (w0 : World) → Inv t l.trace w → Moves none calm tr0 w0 l.trace w → Joining w0.ledger.next_object n l.trace w → Ends (From tr0 w0) (completed n c l w)
  unfolding completed ◌>>◌ then_always
  completes n c l w tr0 w0 i a r = ends_bind (join_collection n c l w) _ (join_ends n c l w tr0 w0 i a r) (λ x c1 l1 w1 h. after_join n x c1 l1 w1 tr0 w0 h)

  after_allocate : (x : Result ℕ) (c : ℕ) (l : Log) (w : World) (tr0 : List Event) (w0 : World) → Inv t l.trace w → Moves none calm tr0 w0 l.trace w → Joins w0.ledger.next_object x l.trace w → Ends (From tr0 w0) (on_goes completed x c l w)
  unfolding on_goes given
  after_allocate (Goes n) c l w tr0 w0 i a r = completes n c l w tr0 w0 i a r
  after_allocate (Leaves y) c l w tr0 w0 i a r = record { holds = (i, a, tt) }

  -- an allocator, whose object joins its collection in the end
  pub keeps_allocate : (env : List ℕ) (a : ℕ) (ty : Ty) (h v : Option (List ℕ)) → Good t (allocate k env a ty h v >>= completed)
  unfolding ◌>>=◌ then_always
  keeps_allocate env a ty h v = record { from = λ c l w i r. ends_bind (allocate k env a ty h v c l w) _ ((allocates_does w.ledger.next_object env a ty h v).from c l w i (omega arith)) (λ x c1 l1 w1 y. after_allocate x c1 l1 w1 l.trace w y.0 y.1 y.2) }
