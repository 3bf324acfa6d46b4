-- What holds of the trace and the world between any two acts, how both move on, and how acts end.
use Rattle.std.specs.Prelude.{◌≡◌, ℕ, ◌<◌, ◌≤◌, List, [], Option, Some, None, Bool, true, ◌&&◌}
use Rattle.std.proofs.Common.{refl, ◌∙◌, arith, ◌⊎◌, inl, inr}
use Rattle.std.proofs.lemmas.Bool.{cases_lt}
use Rattle.ctl_program.specs.declared.types.Ty.{Ty}
use Rattle.ctl_program.specs.declared.types.Ty.TheVariants.{Record}
use Rattle.ctl_tree.specs.declared.event.Event.{Event}
use Rattle.ctl_tree.specs.declared.event.Owner.{Owner}
use Rattle.ctl_tree.specs.declared.event.Owner.TheVariants.{Master, Collection}
use Rattle.ctl_tree.specs.declared.event.Part.{Part}
use Rattle.ctl_meaning.specs.World.{Object, World}
use Rattle.ctl_meaning.specs.Objects.{is_untouched}
use Rattle.ctl_meaning.specs.Ledger.{master_at}
use Rattle.ctl_meaning.specs.Types.{Tables}
use Rattle.ctl_meaning.specs.Audit.{closed, first_owner, first_closing}
use Rattle.ctl_meaning.specs.Emptied.{Lists}
use Rattle.ctl_orderly.proofs.Traces.{Room}
use Rattle.ctl_orderly.proofs.Parts.{PartIn}

abbrev pub part : ℕ → List ℕ → Part
part n path = record { object = n; path = path }

-- a member whose finalization has not begun
abbrev pub stands : Object → Bool
stands o = o.joined && is_untouched o.state

-- no such member has this number
abbrev pub NoMember : ℕ → World → Type 0
NoMember n w = (o : Object) → Lists o w.objects → o.number ≡ n → stands o ≡ true → ⊥

-- the object of this number has this type, if it exists
abbrev pub Typed : ℕ → Ty → World → Type 0
Typed n ty w = (o : Object) → Lists o w.objects → o.number ≡ n → o.ty ≡ ty

-- each part of a whole object lives, with this owner
abbrev pub Lives : Tables → ℕ → Ty → Owner → List Event → Type 0
Lives k n ty own tr = (u : ℕ) (q : List ℕ) → ty ≡ Record u → PartIn k [] u q → first_owner tr (part n q) ≡ Some own

abbrev pub Unclosed : Tables → ℕ → Ty → List Event → Type 0
Unclosed k n ty tr = (u : ℕ) (q : List ℕ) → ty ≡ Record u → PartIn k [] u q → closed tr (part n q) ≡ 0

-- no part of an object was closed
abbrev pub Untouched : ℕ → List Event → Type 0
Untouched n tr = (q : List ℕ) → closed tr (part n q) ≡ 0

-- a member of a collection whose finalization has not begun lives, and no part of it was closed
pub record Whole (k : Tables) (n : ℕ) (ty : Ty) (tr : List Event) : Type 0 where
  pub collection : ℕ
  pub lives : Lives k n ty (Collection collection) tr
  pub unclosed : Unclosed k n ty tr

abbrev pub Sound : List Event → Type 0
Sound tr = first_closing [] 0 tr ≡ None

pub record Inv (k : Tables) (tr : List Event) (w : World) : Type 0 where
  pub sound : Sound tr
  pub fresh : (p : Part) (o : Owner) → w.ledger.next_object ≤ p.object → first_owner tr p ≡ Some o → ⊥
  pub unclosed : (p : Part) → w.ledger.next_object ≤ p.object → closed tr p ≡ 0
  pub active : (p : Part) (m : ℕ) → first_owner tr p ≡ Some (Master m) → m < w.ledger.next_master
  pub declared : (p : Part) (m : ℕ) → first_owner tr p ≡ Some (Master m) → NoMember p.object w
  pub members : (o : Object) → Lists o w.objects → stands o ≡ true → Whole k o.number o.ty tr
  pub numbers : (o : Object) → Lists o w.objects → o.number < w.ledger.next_object

-- an owner that is a master which was entered, or an object that has its number
abbrev pub Old : Owner → Part → World → Type 0
Old own p w = (p.object < w.ledger.next_object) ⊎ ((m : ℕ) × (own ≡ Master m) × (m < w.ledger.next_master))

-- how the trace and the world move on, where only these parts that were there come to life, with this owner, or are closed
pub record Moves (E : Part → Type 0) (own : Option Owner) (tr : List Event) (w : World) (tr' : List Event) (w' : World) : Type 0 where
  pub kept : (p : Part) (o : Owner) → first_owner tr p ≡ Some o → first_owner tr' p ≡ Some o
  pub next : w.ledger.next_object ≤ w'.ledger.next_object
  pub next_master : w.ledger.next_master ≤ w'.ledger.next_master
  pub layers : (m : ℕ) → m < w.ledger.next_master → master_at m w'.ledger ≡ master_at m w.ledger
  pub typed : (n : ℕ) (ty : Ty) → n < w.ledger.next_object → Typed n ty w → Typed n ty w'
  pub lives : (p : Part) (o : Owner) → Old o p w → first_owner tr' p ≡ Some o → (first_owner tr p ≡ Some o) ⊎ (E p × (own ≡ Some o))
  pub closes : (p : Part) → p.object < w.ledger.next_object → NoMember p.object w → (E p → ⊥) → closed tr' p ≡ closed tr p
  pub out : (n : ℕ) → n < w.ledger.next_object → NoMember n w → NoMember n w'

abbrev pub none : Part → Type 0
none p = ⊥

abbrev pub calm : Option Owner
calm = None

pub stay : (E : Part → Type 0) (own : Option Owner) (tr : List Event) (w : World) → Moves E own tr w tr w
stay E own tr w = record {
  kept = λ p o h. h;
  next = omega arith;
  next_master = omega arith;
  layers = λ m h. refl;
  typed = λ n ty h t. t;
  lives = λ p o old h. inl h;
  closes = λ p h out e. refl;
  out = λ n h out. out;
}

pub older : (own : Owner) (p : Part) (w w' : World) → w.ledger.next_object ≤ w'.ledger.next_object → w.ledger.next_master ≤ w'.ledger.next_master → Old own p w → Old own p w'
older own p w w' a b (inl h) = inl (omega arith)
older own p w w' a b (inr h) = let lt = h.2 in inr (h.0, h.1, omega arith)

pub on : {E : Part → Type 0} {own : Option Owner} {tr tr1 tr2 : List Event} {w w1 w2 : World} → Moves E own tr w tr1 w1 → Moves E own tr1 w1 tr2 w2 → Moves E own tr w tr2 w2
on {E} {own} {tr} {tr1} {tr2} {w} {w1} {w2} a b = record {
  kept = λ p o h. b.kept p o (a.kept p o h);
  next = let x = a.next in let y = b.next in omega arith;
  next_master = let x = a.next_master in let y = b.next_master in omega arith;
  layers = λ m h. let x = a.next_master in b.layers m (omega arith) ∙ a.layers m h;
  typed = λ n ty h t. let x = a.next in b.typed n ty (omega arith) (a.typed n ty h t);
  lives = λ p o old h. elim (b.lives p o (older o p w w1 a.next a.next_master old) h) [ inl i ↦ a.lives p o old i | inr e ↦ inr e ];
  closes = λ p h out e. let x = a.next in b.closes p (omega arith) (a.out p.object h out) e ∙ a.closes p h out e;
  out = λ n h out. let x = a.next in b.out n (omega arith) (a.out n h out);
}

pub wider : {E F : Part → Type 0} {own : Option Owner} {tr tr' : List Event} {w w' : World} → ((p : Part) → E p → F p) → Moves E own tr w tr' w' → Moves F own tr w tr' w'
wider f a = record {
  kept = a.kept;
  next = a.next;
  next_master = a.next_master;
  layers = a.layers;
  typed = a.typed;
  lives = λ p o old h. elim (a.lives p o old h) [ inl i ↦ inl i | inr e ↦ inr (f p e.0, e.1) ];
  closes = λ p h out e. a.closes p h out (λ x. e (f p x));
  out = a.out;
}

pub anywhere : {own other : Option Owner} {tr tr' : List Event} {w w' : World} → (E : Part → Type 0) → Moves none own tr w tr' w' → Moves E other tr w tr' w'
anywhere E a = record {
  kept = a.kept;
  next = a.next;
  next_master = a.next_master;
  layers = a.layers;
  typed = a.typed;
  lives = λ p o old h. elim (a.lives p o old h) [ inl i ↦ inl i | inr e ↦ absurd e.0 ];
  closes = λ p h out e. a.closes p h out (λ x. x);
  out = a.out;
}

-- the older objects of a master stay unclosed, where none of them may be closed
pub room_on : {k : Tables} {E : Part → Type 0} {own : Option Owner} {tr tr' : List Event} {w w' : World} (m n : ℕ) → Inv k tr w → Moves E own tr w tr' w' → m < w.ledger.next_master → ((p : Part) → E p → p.object < n → ⊥) → Room tr m n → Room tr' m n
room_on {tr = tr} {tr' = tr'} {w = w} m n inv a active off room q o lt = elim (a.lives q (Master m) (inr (m, refl, active)) o) [ inl i ↦ a.closes q (has_number i) (inv.declared q m i) (λ e. off q e lt) ∙ room q i lt | inr e ↦ absurd (off q e.0 lt) ]
  where
    has_number : first_owner tr q ≡ Some (Master m) → q.object < w.ledger.next_object
    has_number i = elim (cases_lt q.object w.ledger.next_object) [ inl h ↦ h | inr h ↦ absurd (inv.fresh q (Master m) h i) ]
