-- Finalization closes each part that it reaches once: the whole first, then its components in a picked order (7.6.1).
use Rattle.std.specs.Prelude.{◌≡◌, ℕ, zero, suc, ◌<◌, List, [], ◌∷◌, ◌++◌, Option, Some, None, Bool, true, false, ◌&&◌, ◌||◌, if◌then◌else◌, is_some}
use Rattle.std.proofs.Common.{refl, sym, ap, ◌∙◌, subst, arith}
use Rattle.ctl_program.specs.declared.types.Ty.TheVariants.{Record}
use Rattle.ctl_tree.specs.declared.event.Event.{Event}
use Rattle.ctl_tree.specs.declared.event.Event.TheVariants.{Finalize}
use Rattle.ctl_tree.specs.declared.event.Cause.{Cause}
use Rattle.ctl_tree.specs.declared.event.Cause.TheVariants.{Scope, Collection, Free, Subpool, Assign, Failed}
use Rattle.ctl_tree.specs.declared.event.Owner.{Owner}
use Rattle.ctl_tree.specs.declared.event.Owner.TheVariants.{Master}
use Rattle.ctl_tree.specs.declared.event.Part.{Part}
use Rattle.ctl_meaning.specs.World.{Slot, World}
use Rattle.ctl_meaning.specs.Lists.{pull_item, pull_rest}
use Rattle.ctl_meaning.specs.Choice.{Ask}
use Rattle.ctl_meaning.specs.Types.{Tables, Placed, placed, is_controlled, operation}
use Rattle.ctl_meaning.specs.Outcome.{Result, Goes, Leaves, Act, Done, ◌>>=◌, ◌>>◌, done, Tried, Fine, Raised}
use Rattle.ctl_meaning.specs.Outcome as Outcome
use Rattle.ctl_meaning.specs.Names.{OfSubprogram, Call as Caller, Default, Tools, must_exist}
use Rattle.ctl_meaning.specs.Audit.{same_part, is_closing, closes_in, closed, owner_in, first_owner}
use Rattle.ctl_meaning.specs.Emptied.{Lists}
use Rattle.ctl_meaning.specs.Finalization.{Spot, component_at, part_of, no_component, with_home, call_operation, Chosen, is_chosen, after_finalize, own_finalize, in_any_order, parts_to_finalize, finalize_part}
use Rattle.ctl_orderly.proofs.Traces.{Room, same_eq, closing_none}
use Rattle.ctl_orderly.proofs.Parts.{PartIn, itself, inside, Leads, leads_itself, leads_up, part_leads, one_way, not_whole, Off, Apart, pulled_listed, rest_listed, rest_off, rest_apart, kept_listed, kept_apart, placed_apart}
use Rattle.ctl_orderly.proofs.State.{part, NoMember, Moves, none, wider, room_on}
use Rattle.ctl_orderly.proofs.Rules.{Does, Ever, Good, Stable, as_well, framed, seq, then_do, gives_done, gives_nothing, raises, ticks, looks, choice, record_or, Attempted, attempts, chooses, exists, widened, good_in}
use Rattle.ctl_orderly.proofs.Edits.{Names, shows}

-- the parts below a path of an object, and one alone
abbrev pub Under : ℕ → List ℕ → Part → Type 0
Under n path p = (p.object ≡ n) × Leads path p.path

abbrev pub Only : ℕ → List ℕ → Part → Type 0
Only n path p = p ≡ part n path

pub only_under : (n : ℕ) (path : List ℕ) (p : Part) → Only n path p → Under n path p
only_under n path p e = (ap (λ (x : Part). x.object) e, leads_itself path p.path (ap (λ (x : Part). x.path) e))

-- an object whose parts this owner has, which is no member now; no older object of its master was closed
pub record Stead (n : ℕ) (own : Owner) (tr : List Event) (w : World) : Type 0 where
  pub number : n < w.ledger.next_object
  pub out : NoMember n w
  pub room : (m : ℕ) → own ≡ Master m → Room tr m n
  pub active : (m : ℕ) → own ≡ Master m → m < w.ledger.next_master

pub stead_on : {k : Tables} {E : Part → Type 0} {other : Option Owner} (n : ℕ) (own : Owner) → ((p : Part) → E p → p.object ≡ n) → Stable k E other (Stead n own)
stead_on n own only tr w tr' w' inv inv' a s = record {
  number = let x = s.number in let y = a.next in omega arith;
  out = a.out n s.number s.out;
  room = λ m e. room_on m n inv a (s.active m e) (λ p x lt. let y = only p x in omega arith) (s.room m e);
  active = λ m e. let x = s.active m e in let y = a.next_master in omega arith;
}

-- each chosen part below a path lives and was not closed
pub record Ready (k : Tables) (want : Chosen) (n : ℕ) (path : List ℕ) (t : ℕ) (own : Owner) (tr : List Event) : Type 0 where
  pub lives : (q : List ℕ) → PartIn k path t q → is_chosen q want ≡ true → first_owner tr (part n q) ≡ Some own
  pub unclosed : (q : List ℕ) → PartIn k path t q → is_chosen q want ≡ true → closed tr (part n q) ≡ 0

pub ready_on : {k : Tables} {E : Part → Type 0} {other : Option Owner} {own own' : Owner} {tr tr' : List Event} {w w' : World} (want : Chosen) (n : ℕ) (path : List ℕ) (t : ℕ) → Moves E other tr w tr' w' → Stead n own' tr w → ((q : List ℕ) → PartIn k path t q → E (part n q) → ⊥) → Ready k want n path t own tr → Ready k want n path t own tr'
ready_on want n path t a s off r = record {
  lives = λ q h c. a.kept (part n q) _ (r.lives q h c);
  unclosed = λ q h c. a.closes (part n q) s.number s.out (off q h) ∙ r.unclosed q h c;
}

-- what stays whatever some parts undergo stays where none do
pub stable_none : {k : Tables} {E : Part → Type 0} {own : Option Owner} {S : List Event → World → Type 0} → Stable k E own S → Stable k none own S
stable_none stable tr w tr' w' inv inv' a s = stable tr w tr' w' inv inv' (wider (λ p x. absurd x) a) s

module _ (k : Tables) (ask : Ask) (call : Caller) (default : Default) (calls : (f : ℕ) (ss : List Slot) (env : List ℕ) → Good k (call (OfSubprogram f ss) env)) where
  abbrev j : Tools
  j = record { ask = ask; tables = k; call = call; default = default }

  -- Calls that the rules make -----------------------------------------------------------------

  pub must_does : {E : Part → Type 0} {own : Option Owner} {Req : List Event → World → Type 0} (n : ℕ) → Does k E own Req (λ r tr w. Req tr w) (must_exist n)
  unfolding must_exist
  must_does n = exists n (λ o e. gives_nothing (λ tr w i r. r.0))

  -- an operation is called behind its event, and changes nothing that stays whatever others do
  pub call_does : {E : Part → Type 0} {own : Option Owner} {Req S : List Event → World → Type 0} (s : Spot) (o : Option ℕ) (e : Event) → Stable k none own S → ((tr : List Event) (w : World) → Req tr w → is_some o ≡ false → S tr w) → (is_some o ≡ true → (Req' : List Event → World → Type 0) → ((tr : List Event) (w : World) → Req' tr w → Req tr w) → Does k E own Req' (λ r tr w. S tr w) (Outcome.show e)) → Does k E own Req (λ r tr w. S tr w) (call_operation j s o e)
  unfolding call_operation with_home
  call_does s None e stable none_too shown = ticks (as_well (must_does s.object) (λ tr w i r. r) (λ r tr w i q. none_too tr w q refl))
  call_does {Req = Req} {S = S} s (Some f) e stable none_too shown =
      exists s.object (λ o is. looks (λ v. then_do (then_do {P = λ r tr w. S tr w} {Q = λ r tr w. S tr w} (shown refl _ (λ tr w r. r.0.0))
      (λ a. as_well (widened {E = none} (λ p x. absurd x) (framed S stable (good_in _ _ (calls f _ _)))) (λ tr w i h. (tt, h)) (λ r tr w i h. h.1)) (λ y tr w i h. h))
      (λ a. gives_nothing (λ tr w i h. h)) (λ y tr w i h. h)))

  -- Components in a picked order, with what is needed of each -----------------------------------------------------------------

  -- what is needed of a component that is a record
  abbrev pub IfRecord : (Placed → ℕ → List Event → World → Type 0) → Placed → List Event → World → Type 0
  IfRecord R x tr w = (u : ℕ) → x.ty ≡ Record u → R x u tr w

  pub in_order : (E : Part → Type 0) (own : Option Owner) (Each : Placed → Part → Type 0) (S : List Event → World → Type 0) (R : Placed → ℕ → List Event → World → Type 0) (f : Placed → Act Bool) → ((x : Placed) (p : Part) → Each x p → E p) → ((x : Placed) → Does k (Each x) own (λ tr w. S tr w × IfRecord R x tr w) (λ r tr w. S tr w) (f x)) → ((x : Placed) → Stable k (Each x) own S) → ((x y : Placed) → Off x y → Stable k (Each x) own (λ tr w. S tr w × IfRecord R y tr w)) → (n : ℕ) (left : List Placed) (failed : Bool) → Apart left → Does k E own (λ tr w. S tr w × ((x : Placed) → Lists x left → IfRecord R x tr w)) (λ r tr w. S tr w) (in_any_order j f n left failed)
  unfolding in_any_order
  in_order E own Each S R f wide does keeps stable zero left failed apart = gives_done failed (λ tr w i r. r.0)
  in_order E own Each S R f wide does keeps stable (suc n) left failed apart =
      seq (chooses ask (suc n)) (λ i. seq {P = λ r tr w. S tr w × (S tr w × ((y : Placed) → Lists y (pull_rest i left) → IfRecord R y tr w))}
      (as_well (widened (wide (pull_item no_component i left)) (framed (λ tr w. S tr w × ((y : Placed) → Lists y (pull_rest i left) → IfRecord R y tr w)) (others i) (does (pull_item no_component i left))))
      (λ tr w inv r. ((r.0, λ u e. r.1 (pull_item no_component i left) (pulled_listed i left u e) u e), (r.0, λ y h. r.1 y (rest_listed i left y h)))) (λ r tr w inv h. h))
      (λ b. as_well (in_order E own Each S R f wide does keeps stable n (pull_rest i left) (failed || b) (rest_apart i left apart)) (λ tr w inv r. (r.0, r.1.1)) (λ r tr w inv h. h))
      (λ y tr w inv h. h.0)) (λ y tr w inv h. h.0)
    where
      others : (i : ℕ) → Stable k (Each (pull_item no_component i left)) own (λ tr w. S tr w × ((y : Placed) → Lists y (pull_rest i left) → IfRecord R y tr w))
      others i tr w tr' w' inv inv' a h = (keeps (pull_item no_component i left) tr w tr' w' inv inv' a h.0, λ y l. (stable (pull_item no_component i left) y (rest_off i left apart y l) tr w tr' w' inv inv' a (h.0, h.1 y l)).1)

  -- Finalize of a part ------------------------------------------------------------------------------

  -- a Finalize that raises is a value, or Program_Error in an assignment
  after_does : {E : Part → Type 0} {own : Option Owner} {S : List Event → World → Type 0} (cause : Cause) (r : Tried Done) → Does k E own S (λ r tr w. S tr w) (after_finalize cause r)
  unfolding after_finalize
  after_does Scope (Fine a) = gives_done false (λ tr w i r. r)
  after_does Scope (Raised e) = gives_done true (λ tr w i r. r)
  after_does Collection (Fine a) = gives_done false (λ tr w i r. r)
  after_does Collection (Raised e) = gives_done true (λ tr w i r. r)
  after_does Free (Fine a) = gives_done false (λ tr w i r. r)
  after_does Free (Raised e) = gives_done true (λ tr w i r. r)
  after_does Subpool (Fine a) = gives_done false (λ tr w i r. r)
  after_does Subpool (Raised e) = gives_done true (λ tr w i r. r)
  after_does Assign (Fine a) = gives_done false (λ tr w i r. r)
  after_does Assign (Raised e) = raises _ (λ tr w i r. r)
  after_does Failed (Fine a) = gives_done false (λ tr w i r. r)
  after_does Failed (Raised e) = gives_done true (λ tr w i r. r)

  pub tried_does : (S : List Event → World → Type 0) (r : Result (Tried Done)) (tr : List Event) (w : World) → Attempted (λ r tr w. S tr w) r tr w → S tr w
  tried_does S (Goes (Fine a)) tr w h = h
  tried_does S (Goes (Raised e)) tr w h = h
  tried_does S (Leaves y) tr w h = h

  both_true : (a b : Bool) → (a && b) ≡ true → (a ≡ true) × (b ≡ true)
  both_true true b e = (refl, e)
  both_true false b e = absurd (cc)

  closing_named : (q p : Part) (cause : Cause) → 0 < closes_in (Finalize q cause) p → q ≡ p
  unfolding closes_in
  closing_named q p cause lt = go (is_closing cause) lt
    where
      go : (b : Bool) → 0 < (if b then same_part q p else 0) → q ≡ p
      go true lt = same_eq q p lt
      go false lt = absurd (omega arith)

  none_named : (q p : Part) (cause : Cause) (o : Owner) → owner_in (Finalize q cause) p ≡ Some o → ⊥
  unfolding owner_in
  none_named q p cause o e = absurd (cc)

  -- the own Finalize of a part that lives and was not closed
  own_shown : (cause : Cause) (n : ℕ) (path : List ℕ) (own : Owner) (other : Option Owner) (S Req : List Event → World → Type 0) → ((tr : List Event) (w : World) → Req tr w → Stead n own tr w × (first_owner tr (part n path) ≡ Some own) × (closed tr (part n path) ≡ 0) × S tr w) → Stable k (Only n path) other S → Does k (Only n path) other Req (λ r tr w. S tr w) (Outcome.show (Finalize (part n path) cause))
  own_shown cause n path own other S Req needs stable = stays_shown
    where
      named : (tr : List Event) (w : World) → Stead n own tr w → Names k (Only n path) other w (Finalize (part n path) cause)
      named tr w s = record { closes = λ p lt. let e = closing_named (part n path) p cause lt in (sym e, subst (λ (x : Part). x.object < w.ledger.next_object) e s.number, subst (λ (x : Part). NoMember x.object w) e s.out); owns = λ p o e. absurd (none_named (part n path) p cause o e); active = λ p m e. absurd (none_named (part n path) p cause _ e) }

      stays_shown : Does k (Only n path) other Req (λ r tr w. S tr w) (Outcome.show (Finalize (part n path) cause))
      stays_shown = as_well (framed S stable (shows {Req = Req} {P = Ever} (Finalize (part n path) cause) (λ tr w i r. let h = needs tr w r in (closing_none tr (part n path) cause own h.1 h.2 h.0.room, named tr w h.0, tt)))) (λ tr w i r. (r, (needs tr w r).3)) (λ r tr w i h. h.1)

  -- the parts of the components that are finalized
  abbrev Components : Chosen → Spot → ℕ → Owner → List Event → World → Type 0
  Components want s t own tr w = (x : Placed) → Lists x (parts_to_finalize j want s t) → IfRecord (λ y u tr v. Ready k want s.object (s.path ++ y.position ∷ []) u own tr) x tr w

  finalized_component : (want : Chosen) (s : Spot) (t : ℕ) (x : Placed) → Lists x (parts_to_finalize j want s t) → Lists x (placed k t)
  unfolding parts_to_finalize
  finalized_component want s t x h = kept_listed _ (placed k t) x h

  finalized_apart : (want : Chosen) (s : Spot) (t : ℕ) → Apart (parts_to_finalize j want s t)
  unfolding parts_to_finalize
  finalized_apart want s t = kept_apart _ (placed k t) (placed_apart k t)

  to_components : (want : Chosen) (s : Spot) (t : ℕ) (own : Owner) (tr : List Event) (w : World) → Ready k want s.object s.path t own tr → Components want s t own tr w
  to_components want s t own tr w r x h u e = record {
    lives = λ q i c. r.lives q (inside x u (finalized_component want s t x h) e i) c;
    unclosed = λ q i c. r.unclosed q (inside x u (finalized_component want s t x h) e i) c;
  }

  part_path : (n : ℕ) (a b : List ℕ) → part n a ≡ part n b → a ≡ b
  part_path n a b e = ap (λ (x : Part). x.path) e

  -- what is needed of the components stays while the whole is closed
  components_stay : (want : Chosen) (s : Spot) (t : ℕ) (own : Owner) (other : Option Owner) → Stable k (Only s.object s.path) other (λ tr w. Stead s.object own tr w × Components want s t own tr w)
  components_stay want s t own other tr w tr' w' inv inv' a h = (
    stead_on s.object own (λ p e. ap (λ (x : Part). x.object) e) tr w tr' w' inv inv' a h.0,
    λ x l u e. ready_on want s.object (s.path ++ x.position ∷ []) u a h.0 (λ q i same. not_whole s.path q x.position (part_leads i) (part_path s.object q s.path same)) (h.1 x l u e),
  )

  own_does : (cause : Cause) (want : Chosen) (s : Spot) (t : ℕ) (own : Owner) (other : Option Owner) → Does k (Only s.object s.path) other (λ tr w. Stead s.object own tr w × Ready k want s.object s.path t own tr) (λ r tr w. Stead s.object own tr w × Components want s t own tr w) (own_finalize j cause want s t)
  unfolding own_finalize part_of
  own_does cause want s t own other =
      choice _ (λ e. seq (attempts (call_does s (operation (λ x. x.finalize) k t) (Finalize (part s.object s.path) cause) (stable_none (components_stay want s t own other))
      (λ tr w r none. (r.0, to_components want s t own tr w r.1))
      (λ written Req' needs. own_shown cause s.object s.path own other _ Req' (λ tr w r. let h = needs tr w r in let both = both_true (is_controlled k t) (is_chosen s.path want) e in let here = itself (record { controlled = both.0; written = written }) refl in (h.0, h.1.lives s.path here both.1, h.1.unclosed s.path here both.1, (h.0, to_components want s t own tr w h.1))) (components_stay want s t own other))))
      (λ r. as_well (after_does cause r) (λ tr w i h. tried_does _ (Goes r) tr w h) (λ r tr w i h. h)) (λ y tr w i h. h))
      (λ e. gives_done false (λ tr w i r. (r.0, to_components want s t own tr w r.1)))

  abbrev Ways : Spot → Placed → Part → Type 0
  Ways s x p = (u : ℕ) × (x.ty ≡ Record u) × Under s.object (s.path ++ x.position ∷ []) p

  -- each part that is reached and chosen is closed, and nothing else of this object
  pub closes_parts : (cause : Cause) (want : Chosen) (fuel : ℕ) (s : Spot) (t : ℕ) (own : Owner) (other : Option Owner) → Does k (Under s.object s.path) other (λ tr w. Stead s.object own tr w × Ready k want s.object s.path t own tr) (λ r tr w. Stead s.object own tr w) (finalize_part j cause want fuel s t)
  unfolding finalize_part component_at
  closes_parts cause want zero s t own other = gives_done false (λ tr w i r. r.0)
  closes_parts cause want (suc fuel) s t own other =
      ticks (seq (widened (only_under s.object s.path) (own_does cause want s t own other))
      (λ b. in_order (Under s.object s.path) other (Ways s) (Stead s.object own) (λ y u tr v. Ready k want s.object (s.path ++ y.position ∷ []) u own tr) _
      (λ x p e. (e.2.0, leads_up s.path (x.position ∷ []) p.path e.2.1))
      (λ x. record_or x.ty (λ none. gives_done false (λ tr w i r. r.0)) (λ u e. as_well (widened (λ p h. (u, e, h)) (closes_parts cause want fuel (component_at s x) u own other)) (λ tr w i r. (r.0, r.1 u e)) (λ r tr w i h. h)))
      (λ x. stead_on s.object own (λ p e. e.2.0))
      (λ x y off tr w tr' w' inv inv' a h. (stead_on s.object own (λ p e. e.2.0) tr w tr' w' inv inv' a h.0, λ u e. ready_on want s.object (s.path ++ y.position ∷ []) u a h.0 (λ q i f. off f.0 u f.1 e (one_way s.path q x.position y.position f.2.1 (part_leads i))) (h.1 u e)))
      _ _ b (finalized_apart want s t))
      (λ y tr w i h. h.0))
