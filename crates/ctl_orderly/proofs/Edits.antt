-- Changes of the world that make no object a member, and events.
use Rattle.std.specs.Prelude.{◌≡◌, ℕ, zero, suc, ◌<◌, ◌≤◌, List, [], ◌∷◌, ◌++◌, Option, Some, None, Bool, true, false, ◌&&◌, if◌then◌else◌}
use Rattle.std.proofs.Common.{refl, sym, ap, ◌∙◌, subst, arith, ◌⊎◌, inl, inr}
use Rattle.ctl_program.specs.declared.types.Ty.{Ty}
use Rattle.ctl_tree.specs.declared.event.Event.{Event}
use Rattle.ctl_tree.specs.declared.event.Event.TheVariants.{Print, Newline, Initialize, Adjust, Finalize, Allocate, Deallocate, Live}
use Rattle.ctl_tree.specs.declared.event.Owner.{Owner}
use Rattle.ctl_tree.specs.declared.event.Owner.TheVariants.{Master}
use Rattle.ctl_tree.specs.declared.event.Part.{Part}
use Rattle.ctl_meaning.specs.World.{Place, Standard, InBlock, InSubpool, Origin, Allocated, Finalized, Object, Slot, Pools, World}
use Rattle.ctl_meaning.specs.Lists.{keep, change_each}
use Rattle.ctl_meaning.specs.Ledger.{take_number, push_collection, start_sets, master_at}
use Rattle.ctl_meaning.specs.Objects.{change_in, with_cells, with_begun, with_finalized, is_untouched}
use Rattle.ctl_meaning.specs.Changes.{take_object_number, new_object, create, create_at, put_into, write_cells, forget, forget_all, set_slot, set_value, add_collection, start_collections, begin_finalization, end_finalization, in_pools, close_pool_at, empty_subpool}
use Rattle.ctl_meaning.specs.Types.{Tables}
use Rattle.ctl_meaning.specs.Outcome.{Result, Goes, Done, change, show, tell}
use Rattle.ctl_meaning.specs.Audit.{same_part, is_closing, closes_in, closed, owner_in, FlawKind, judge_closing}
use Rattle.ctl_meaning.specs.Emptied.{Lists}
use Rattle.ctl_orderly.proofs.Traces.{owner_kept, owner_came, closed_snoc, sound_snoc}
use Rattle.ctl_orderly.proofs.State.{part, stands, NoMember, Typed, Whole, Inv, Moves, stay}
use Rattle.ctl_orderly.proofs.Rules.{Does, Always, Ever}

-- Lists of objects ---------------------------------------------------------------------------

kept_if : (b : Bool) (o x : Object) (os : List Object) → Lists x (if b then o ∷ os else os) → (x ≡ o) ⊎ Lists x os
kept_if true o x os h = h
kept_if false o x os h = inr h

pub kept_listed : (p : Object → Bool) (os : List Object) (x : Object) → Lists x (keep p os) → Lists x os
unfolding keep
kept_listed p [] x h = absurd h
kept_listed p (o ∷ os) x h = elim (kept_if (p o) o x (keep p os) h) [ inl e ↦ inl e | inr i ↦ inr (kept_listed p os x i) ]

-- an item of a changed list was there, or is one that was changed
pub record Changed (p : Object → Bool) (f : Object → Object) (os : List Object) (x : Object) : Type 0 where
  pub was : Object
  pub listed : Lists was os
  pub either : ((x ≡ was) × (p was ≡ false)) ⊎ ((x ≡ f was) × (p was ≡ true))

changed_if : (p : Object → Bool) (f : Object → Object) (b : Bool) (o x : Object) → p o ≡ b → x ≡ (if b then f o else o) → ((x ≡ o) × (p o ≡ false)) ⊎ ((x ≡ f o) × (p o ≡ true))
changed_if p f true o x i e = inr (e, i)
changed_if p f false o x i e = inl (e, i)

pub changed_listed : (p : Object → Bool) (f : Object → Object) (os : List Object) (x : Object) → Lists x (change_each p f os) → Changed p f os x
unfolding change_each
changed_listed p f [] x h = absurd h
changed_listed p f (o ∷ os) x (inl e) = record { was = o; listed = inl refl; either = changed_if p f (p o) o x refl e }
changed_listed p f (o ∷ os) x (inr h) = let c = changed_listed p f os x h in record { was = c.was; listed = inr c.listed; either = c.either }

pub behind_listed : (os : List Object) (y x : Object) → Lists x (os ++ y ∷ []) → Lists x os ⊎ (x ≡ y)
behind_listed [] y x (inl e) = inr e
behind_listed [] y x (inr h) = absurd h
behind_listed (o ∷ os) y x (inl e) = inl (inl e)
behind_listed (o ∷ os) y x (inr h) = elim (behind_listed os y x h) [ inl i ↦ inl (inr i) | inr e ↦ inr e ]

-- Changes ------------------------------------------------------------------------------------

-- an object that was there, a member only if it was one; or a new one, that is none
abbrev pub Came : World → Object → Type 0
Came w x = ((o : Object) × Lists o w.objects × (x.number ≡ o.number) × (x.ty ≡ o.ty) × (stands x ≡ true → stands o ≡ true)) ⊎ ((w.ledger.next_object ≤ x.number) × (stands x ≡ true → ⊥))

abbrev pub Numbered : World → Type 0
Numbered w = (o : Object) → Lists o w.objects → o.number < w.ledger.next_object

-- a change that makes none a member, and leaves the layers of the masters below this one
pub record Edits (limit : ℕ) (w w' : World) : Type 0 where
  pub next : w.ledger.next_object ≤ w'.ledger.next_object
  pub next_master : w.ledger.next_master ≤ w'.ledger.next_master
  pub layers : (m : ℕ) → m < limit → master_at m w'.ledger ≡ master_at m w.ledger
  pub objects : (x : Object) → Lists x w'.objects → Came w x
  pub numbers : Numbered w'

out_came : (n : ℕ) (w : World) (x : Object) → Came w x → n < w.ledger.next_object → NoMember n w → x.number ≡ n → stands x ≡ true → ⊥
out_came n w x (inl h) lt out e s = out h.0 h.1 (sym h.2 ∙ e) (h.4 s)
out_came n w x (inr h) lt out e s = h.1 s

out_still : (n : ℕ) (w : World) (x : Object) → Came w x → NoMember n w → x.number ≡ n → stands x ≡ true → ⊥
out_still n w x (inl h) out e s = out h.0 h.1 (sym h.2 ∙ e) (h.4 s)
out_still n w x (inr h) out e s = h.1 s

whole_came : (k : Tables) (tr : List Event) (w : World) (x : Object) → Came w x → ((o : Object) → Lists o w.objects → stands o ≡ true → Whole k o.number o.ty tr) → stands x ≡ true → Whole k x.number x.ty tr
whole_came k tr w x (inl h) members s = subst (λ n. Whole k n x.ty tr) (sym h.2) (subst (λ ty. Whole k h.0.number ty tr) (sym h.3) (members h.0 h.1 (h.4 s)))
whole_came k tr w x (inr h) members s = absurd (h.1 s)

typed_came : (n : ℕ) (ty : Ty) (w : World) (x : Object) → Came w x → n < w.ledger.next_object → Typed n ty w → x.number ≡ n → x.ty ≡ ty
typed_came n ty w x (inl h) lt t e = h.3 ∙ t h.0 h.1 (sym h.2 ∙ e)
typed_came n ty w x (inr h) lt t e = let a = h.0 in absurd (omega arith)

pub edited : {k : Tables} {limit : ℕ} {tr : List Event} {w w' : World} → Inv k tr w → Edits limit w w' → Inv k tr w'
edited {k} {limit} {tr} {w} {w'} inv e = record {
  sound = inv.sound;
  fresh = λ p o h. let a = e.next in inv.fresh p o (omega arith);
  unclosed = λ p h. let a = e.next in inv.unclosed p (omega arith);
  active = λ p m h. let a = e.next_master in let b = inv.active p m h in omega arith;
  declared = λ p m h x i. out_still p.object w x (e.objects x i) (inv.declared p m h);
  members = λ x i s. whole_came k tr w x (e.objects x i) inv.members s;
  numbers = e.numbers;
}

pub edited_on : {E : Part → Type 0} {own : Option Owner} {limit : ℕ} {tr0 tr : List Event} {w0 w w' : World} → Moves E own tr0 w0 tr w → w0.ledger.next_master ≤ limit → Edits limit w w' → Moves E own tr0 w0 tr w'
edited_on {w0 = w0} {w = w} a le e = record {
  kept = a.kept;
  next = let x = a.next in let y = e.next in omega arith;
  next_master = let x = a.next_master in let y = e.next_master in omega arith;
  layers = λ m h. e.layers m (omega arith) ∙ a.layers m h;
  typed = λ n ty h t x i. let b = a.next in typed_came n ty w x (e.objects x i) (omega arith) (a.typed n ty h t);
  lives = a.lives;
  closes = a.closes;
  out = λ n h o x i. out_still n w x (e.objects x i) (a.out n h o);
}

module _ {k : Tables} {E : Part → Type 0} {own : Option Owner} where
  pub changes : {Req : List Event → World → Type 0} {P : Result Done → List Event → World → Type 0} {f : World → World} → ((w : World) → Numbered w → Edits w.ledger.next_master w (f w)) → ((tr : List Event) (w : World) → Inv k tr w → Req tr w → P (Goes tt) tr (f w)) → Does k E own Req P (change f)
  unfolding change
  changes {f = f} e h = record { from = λ c l w i r. record { holds = (edited i (e w i.numbers), edited_on (stay E own l.trace w) (omega arith) (e w i.numbers), h l.trace w i r) } }

-- Each change --------------------------------------------------------------------------------

was_there : (w : World) (x : Object) → Lists x w.objects → Came w x
was_there w x h = inl (x, h, refl, refl, λ s. s)

pub edit_numbers : (w : World) → Numbered w → Edits w.ledger.next_master w (take_object_number w)
unfolding take_object_number take_number master_at
edit_numbers w n = record { next = omega arith; next_master = omega arith; layers = λ m h. refl; objects = λ x h. was_there w x h; numbers = λ x h. let a = n x h in omega arith }

and_first : (a b : Bool) → a ≡ false → (a && b) ≡ true → ⊥
and_first a b e h = let same : (a && b) ≡ false = ap (λ x. x && b) e in absurd (cc)

pub not_joined : (o : Object) → o.joined ≡ false → stands o ≡ true → ⊥
not_joined o e h = and_first o.joined (is_untouched o.state) e h

pub edit_creates : (ty : Ty) (cells : List ℕ) (origin : Origin) (w : World) → Numbered w → Edits w.ledger.next_master w (create ty cells origin w)
unfolding create new_object take_number master_at
edit_creates ty cells origin w n = record {
  next = omega arith;
  next_master = omega arith;
  layers = λ m h. refl;
  objects = λ x h. elim (behind_listed w.objects _ x h) [ inl i ↦ was_there w x i | inr e ↦ inr (let a = ap (λ (y : Object). y.number) e in omega arith, λ s. not_joined x (ap (λ (y : Object). y.joined) e) s) ];
  numbers = λ x h. elim (behind_listed w.objects _ x h) [ inl i ↦ let a = n x i in omega arith | inr e ↦ let a = ap (λ (y : Object). y.number) e in omega arith ];
}

puts : (p : Place) (n : ℕ) (w w' : World) → Edits w.ledger.next_master w w' → Edits w.ledger.next_master w (put_into p n w')
unfolding put_into in_pools
puts Standard n w w' e = e
puts (InBlock p a) n w w' e = record { next = e.next; next_master = e.next_master; layers = e.layers; objects = e.objects; numbers = e.numbers }
puts (InSubpool s) n w w' e = e

pub edit_creates_at : (ty : Ty) (cells : List ℕ) (set : ℕ) (place : Place) (w : World) → Numbered w → Edits w.ledger.next_master w (create_at ty cells set place w)
unfolding create_at
edit_creates_at ty cells set place w n = puts place w.ledger.next_object w _ (edit_creates ty cells (Allocated set place) w n)

-- objects that are changed keep their number and type, and become no members
changed_came : (p : Object → Bool) (f : Object → Object) (w : World) (x : Object) → ((o : Object) → ((f o).number ≡ o.number) × ((f o).ty ≡ o.ty) × (stands (f o) ≡ true → stands o ≡ true)) → Changed p f w.objects x → Came w x
changed_came p f w x h c = elim c.either [ inl e ↦ inl (c.was, c.listed, ap (λ (y : Object). y.number) e.0, ap (λ (y : Object). y.ty) e.0, λ s. sym (ap stands e.0) ∙ s) | inr e ↦ inl (c.was, c.listed, ap (λ (y : Object). y.number) e.0 ∙ (h c.was).0, ap (λ (y : Object). y.ty) e.0 ∙ (h c.was).1, λ s. (h c.was).2 (sym (ap stands e.0) ∙ s)) ]

number_came : (w : World) (x : Object) → Numbered w → ((o : Object) × Lists o w.objects × (x.number ≡ o.number)) → x.number < w.ledger.next_object
number_came w x n h = let a = n h.0 h.1 in let b = h.2 in omega arith

changed_number : (p : Object → Bool) (f : Object → Object) (w : World) (x : Object) → Numbered w → ((o : Object) → (f o).number ≡ o.number) → Changed p f w.objects x → x.number < w.ledger.next_object
changed_number p f w x n h c = number_came w x n (c.was, c.listed, elim c.either [ inl e ↦ ap (λ (y : Object). y.number) e.0 | inr e ↦ ap (λ (y : Object). y.number) e.0 ∙ h c.was ])

pub edit_objects : (p : Object → Bool) (f : Object → Object) → ((o : Object) → ((f o).number ≡ o.number) × ((f o).ty ≡ o.ty) × (stands (f o) ≡ true → stands o ≡ true)) → (w : World) → Numbered w → Edits w.ledger.next_master w (record w { objects = change_each p f w.objects })
edit_objects p f h w n = record { next = omega arith; next_master = omega arith; layers = λ m i. refl; objects = λ x i. changed_came p f w x h (changed_listed p f w.objects x i); numbers = λ x i. changed_number p f w x n (λ o. (h o).0) (changed_listed p f w.objects x i) }

pub edit_keeps : (p : Object → Bool) (w : World) → Numbered w → Edits w.ledger.next_master w (record w { objects = keep p w.objects })
edit_keeps p w n = record { next = omega arith; next_master = omega arith; layers = λ m i. refl; objects = λ x i. was_there w x (kept_listed p w.objects x i); numbers = λ x i. n x (kept_listed p w.objects x i) }

pub edit_writes : (n offset : ℕ) (v : List ℕ) (w : World) → Numbered w → Edits w.ledger.next_master w (write_cells n offset v w)
unfolding write_cells change_in with_cells
edit_writes n offset v w = edit_objects _ (with_cells offset v) (λ o. (refl, refl, λ s. s)) w

untouched_no : (a : Bool) → (a && false) ≡ true → ⊥
untouched_no true e = absurd (cc)
untouched_no false e = absurd (cc)

pub begun_stands : (o : Object) → stands (with_begun o) ≡ true → ⊥
unfolding with_begun is_untouched
begun_stands o s = untouched_no o.joined s

pub edit_begins : (n : ℕ) (w : World) → Numbered w → Edits w.ledger.next_master w (begin_finalization n w)
unfolding begin_finalization change_in with_begun
edit_begins n w = edit_objects _ with_begun (λ o. (refl, refl, λ s. absurd (begun_stands o s))) w

finalized_as : (b : Bool) (o : Object) → is_untouched o.state ≡ b → ((if b then o else record o { state = Finalized }).number ≡ o.number) × ((if b then o else record o { state = Finalized }).ty ≡ o.ty) × (stands (if b then o else record o { state = Finalized }) ≡ true → stands o ≡ true)
unfolding is_untouched
finalized_as true o e = (refl, refl, λ s. s)
finalized_as false o e = (refl, refl, λ s. absurd (untouched_no o.joined s))

finalized_same : (o : Object) → ((with_finalized o).number ≡ o.number) × ((with_finalized o).ty ≡ o.ty) × (stands (with_finalized o) ≡ true → stands o ≡ true)
unfolding with_finalized
finalized_same o = finalized_as (is_untouched o.state) o refl

pub edit_ends : (n : ℕ) (w : World) → Numbered w → Edits w.ledger.next_master w (end_finalization n w)
unfolding end_finalization change_in
edit_ends n w = edit_objects _ with_finalized finalized_same w

pub edit_forgets : (n : ℕ) (w : World) → Numbered w → Edits w.ledger.next_master w (forget n w)
unfolding forget
edit_forgets n w = edit_keeps _ w

pub edit_empties : (n : ℕ) (w : World) → Numbered w → Edits w.ledger.next_master w (empty_subpool n w)
unfolding empty_subpool forget_all
edit_empties n w = edit_keeps _ w

-- a change of other things alone
elsewhere : (w w' : World) → w'.ledger.next_object ≡ w.ledger.next_object → w'.ledger.next_master ≡ w.ledger.next_master → ((m : ℕ) → master_at m w'.ledger ≡ master_at m w.ledger) → w'.objects ≡ w.objects → Numbered w → Edits w.ledger.next_master w w'
elsewhere w w' a b layers same n = record {
  next = omega arith;
  next_master = omega arith;
  layers = λ m h. layers m;
  objects = λ x h. was_there w x (subst (λ os. Lists x os) same h);
  numbers = λ x h. let lt = n x (subst (λ os. Lists x os) same h) in omega arith;
}

pub edit_shuts : (n : ℕ) (w : World) → Numbered w → Edits w.ledger.next_master w (close_pool_at n w)
unfolding close_pool_at forget_all in_pools
edit_shuts n w h = record { next = omega arith; next_master = omega arith; layers = λ m i. refl; objects = λ x i. was_there w x (kept_listed _ w.objects x i); numbers = λ x i. h x (kept_listed _ w.objects x i) }

pub edit_pools : (f : Pools → Pools) (w : World) → Numbered w → Edits w.ledger.next_master w (in_pools f w)
unfolding in_pools
edit_pools f w n = elsewhere w _ refl refl (λ m. refl) refl n

pub edit_slot : (m i : ℕ) (x : Slot) (w : World) → Numbered w → Edits w.ledger.next_master w (set_slot m i x w)
unfolding set_slot
edit_slot m i x w n = elsewhere w _ refl refl (λ m. refl) refl n

pub edit_value : (m i x : ℕ) (w : World) → Numbered w → Edits w.ledger.next_master w (set_value m i x w)
unfolding set_slot set_value
edit_value m i x w n = elsewhere w _ refl refl (λ m. refl) refl n

pub edit_gathers : (m i : ℕ) (x : Slot) (w : World) → Numbered w → Edits w.ledger.next_master w (add_collection m i x w)
unfolding add_collection set_slot push_collection master_at
edit_gathers m i x w n = elsewhere w _ refl refl (λ m. refl) refl n

pub edit_starts : (sets : List ℕ) (w : World) → Numbered w → Edits w.ledger.next_master w (start_collections sets w)
unfolding start_collections start_sets master_at
edit_starts sets w n = elsewhere w _ refl refl (λ m. refl) refl n

-- Events ---------------------------------------------------------------------------------------

-- what is closed and what comes to life by an event is no member, and has a number
pub record Names (k : Tables) (E : Part → Type 0) (own : Option Owner) (w : World) (e : Event) : Type 0 where
  pub closes : (p : Part) → 0 < closes_in e p → E p × (p.object < w.ledger.next_object) × NoMember p.object w
  pub owns : (p : Part) (o : Owner) → owner_in e p ≡ Some o → E p × (own ≡ Some o) × (p.object < w.ledger.next_object) × NoMember p.object w
  pub active : (p : Part) (m : ℕ) → owner_in e p ≡ Some (Master m) → m < w.ledger.next_master

none_or : (n : ℕ) → (n ≡ 0) ⊎ (0 < n)
none_or zero = inl refl
none_or (suc n) = inr (omega arith)

unclosed_still : (tr : List Event) (e : Event) (p : Part) → (0 < closes_in e p → ⊥) → closed (tr ++ e ∷ []) p ≡ closed tr p
unclosed_still tr e p h = elim (none_or (closes_in e p)) [ inl z ↦ let a = closed_snoc tr e p in omega arith | inr lt ↦ absurd (h lt) ]

module _ {k : Tables} {E : Part → Type 0} {own : Option Owner} where
  pub shown : (e : Event) (tr : List Event) (w : World) → Inv k tr w → judge_closing tr e ≡ None → Names k E own w e → Inv k (tr ++ e ∷ []) w × Moves E own tr w (tr ++ e ∷ []) w
  shown e tr w inv fine names = (
    record {
      sound = sound_snoc [] tr 0 e inv.sound fine;
      fresh = λ p o le h. elim (owner_came tr e p o h) [ inl i ↦ inv.fresh p o le i | inr i ↦ let a = (names.owns p o i).2 in absurd (omega arith) ];
      unclosed = λ p le. unclosed_still tr e p (λ lt. let a = (names.closes p lt).1 in absurd (omega arith)) ∙ inv.unclosed p le;
      active = λ p m h. elim (owner_came tr e p (Master m) h) [ inl i ↦ inv.active p m i | inr i ↦ names.active p m i ];
      declared = λ p m h. elim (owner_came tr e p (Master m) h) [ inl i ↦ inv.declared p m i | inr i ↦ (names.owns p (Master m) i).3 ];
      members = λ o i s. let whole = inv.members o i s in record {
        collection = whole.collection;
        lives = λ u q ty h. owner_kept tr e (part o.number q) _ (whole.lives u q ty h);
        unclosed = λ u q ty h. unclosed_still tr e (part o.number q) (λ lt. (names.closes (part o.number q) lt).2 o i refl s) ∙ whole.unclosed u q ty h;
      };
      numbers = inv.numbers;
    },
    record {
      kept = λ p o h. owner_kept tr e p o h;
      next = omega arith;
      next_master = omega arith;
      layers = λ m h. refl;
      typed = λ n ty h t. t;
      lives = λ p o old h. elim (owner_came tr e p o h) [ inl i ↦ inl i | inr i ↦ inr ((names.owns p o i).0, (names.owns p o i).1) ];
      closes = λ p h out off. unclosed_still tr e p (λ lt. off (names.closes p lt).0);
      out = λ n h out. out;
    },
  )

  pub shows : {Req : List Event → World → Type 0} {P : Result Done → List Event → World → Type 0} (e : Event) → ((tr : List Event) (w : World) → Inv k tr w → Req tr w → (judge_closing tr e ≡ None) × Names k E own w e × P (Goes tt) (tr ++ e ∷ []) w) → Does k E own Req P (show e)
  unfolding show tell
  shows e h = record { from = λ c l w i r. let a = h l.trace w i r in let b = shown e l.trace w i a.0 a.1 in record { holds = (b.0, b.1, a.2) } }

-- an event that neither closes a part nor brings one to life
abbrev pub Plain : Event → Type 0
Plain (Print v) = Unit {0}
Plain Newline = Unit {0}
Plain (Initialize q) = Unit {0}
Plain (Adjust q) = Unit {0}
Plain (Finalize q cause) = is_closing cause ≡ false
Plain (Allocate m n) = Unit {0}
Plain (Deallocate m n) = Unit {0}
Plain (Live q o) = ⊥

plain_closes : (e : Event) → Plain e → (p : Part) → 0 < closes_in e p → ⊥
unfolding closes_in
plain_closes (Print v) h p lt = absurd (omega arith)
plain_closes Newline h p lt = absurd (omega arith)
plain_closes (Initialize q) h p lt = absurd (omega arith)
plain_closes (Adjust q) h p lt = absurd (omega arith)
plain_closes (Finalize q cause) h p lt = let a : (if is_closing cause then same_part q p else 0) ≡ 0 = ap (λ b. if b then same_part q p else 0) h in absurd (omega arith)
plain_closes (Allocate m n) h p lt = absurd (omega arith)
plain_closes (Deallocate m n) h p lt = absurd (omega arith)
plain_closes (Live q o) h p lt = absurd (omega arith)

plain_owner : (e : Event) → Plain e → (p : Part) (o : Owner) → owner_in e p ≡ Some o → ⊥
unfolding owner_in
plain_owner (Print v) h p o e = absurd (cc)
plain_owner Newline h p o e = absurd (cc)
plain_owner (Initialize q) h p o e = absurd (cc)
plain_owner (Adjust q) h p o e = absurd (cc)
plain_owner (Finalize q cause) h p o e = absurd (cc)
plain_owner (Allocate m n) h p o e = absurd (cc)
plain_owner (Deallocate m n) h p o e = absurd (cc)
plain_owner (Live q own) h p o e = absurd h

no_closing : (b : Bool) (x : Option FlawKind) → b ≡ false → (if b then x else None) ≡ None
no_closing true x e = absurd (cc)
no_closing false x e = refl

plain_fine : (e : Event) → Plain e → (tr : List Event) → judge_closing tr e ≡ None
unfolding judge_closing
plain_fine (Print v) h tr = refl
plain_fine Newline h tr = refl
plain_fine (Initialize q) h tr = refl
plain_fine (Adjust q) h tr = refl
plain_fine (Finalize q cause) h tr = no_closing _ _ h
plain_fine (Allocate m n) h tr = refl
plain_fine (Deallocate m n) h tr = refl
plain_fine (Live q o) h tr = refl

pub shows_plain : {k : Tables} {E : Part → Type 0} {own : Option Owner} (e : Event) → Plain e → Does k E own Always Ever (show e)
shows_plain e plain = shows e (λ tr w i r. (plain_fine e plain tr, record { closes = λ p lt. absurd (plain_closes e plain p lt); owns = λ p o h. absurd (plain_owner e plain p o h); active = λ p m h. absurd (plain_owner e plain p _ h) }, tt))
