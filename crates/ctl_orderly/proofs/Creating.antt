-- An object begins to exist: it takes a number that none had.
use Rattle.std.specs.Prelude.{◌≡◌, ℕ, ◌<◌, ◌≤◌, List, [], ◌∷◌, ◌++◌, Some}
use Rattle.std.proofs.Common.{ap, arith, inl, inr}
use Rattle.ctl_program.specs.declared.types.Ty.{Ty}
use Rattle.ctl_tree.specs.declared.event.Event.{Event}
use Rattle.ctl_tree.specs.declared.event.Owner.{Owner}
use Rattle.ctl_tree.specs.declared.event.Owner.TheVariants.{Master, Collection}
use Rattle.ctl_meaning.specs.World.{Origin, Place, Standard, InBlock, InSubpool, Allocated, Object, World}
use Rattle.ctl_meaning.specs.Ledger.{take_number}
use Rattle.ctl_meaning.specs.Changes.{new_object, create, create_at, put_into, in_pools}
use Rattle.ctl_meaning.specs.Types.{Tables}
use Rattle.ctl_meaning.specs.Outcome.{Result, Act}
use Rattle.ctl_meaning.specs.Emptied.{Lists}
use Rattle.ctl_orderly.proofs.Traces.{Room}
use Rattle.ctl_orderly.proofs.State.{part, NoMember, Typed, Untouched, Inv, Moves, none, calm}
use Rattle.ctl_orderly.proofs.Rules.{Does, ends_as}
use Rattle.ctl_orderly.proofs.Edits.{behind_listed, not_joined}
use Rattle.ctl_orderly.proofs.Members.{Of}
use Rattle.ctl_orderly.proofs.Adjusting.{Growing}

-- a world where the object of this number, if it exists, has this type and is no member
pub record Begins (n : ℕ) (ty : Ty) (w : World) : Type 0 where
  pub number : n < w.ledger.next_object
  pub out : NoMember n w
  pub typed : Typed n ty w

only_new : (n : ℕ) (os : List Object) (y x : Object) → ((o : Object) → Lists o os → o.number < n) → Lists x (os ++ y ∷ []) → x.number ≡ n → x ≡ y
only_new n os y x numbers l e = elim (behind_listed os y x l) [ inl i ↦ let lt = numbers x i in absurd (omega arith) | inr is ↦ is ]

pub create_begins : (ty : Ty) (cells : List ℕ) (origin : Origin) (w : World) → ((o : Object) → Lists o w.objects → o.number < w.ledger.next_object) → Begins w.ledger.next_object ty (create ty cells origin w)
unfolding create new_object take_number
create_begins ty cells origin w numbers = record {
  number = omega arith;
  out = λ x l e s. let is = only_new w.ledger.next_object w.objects _ x numbers l e in not_joined x (ap (λ (y : Object). y.joined) is) s;
  typed = λ x l e. ap (λ (y : Object). y.ty) (only_new w.ledger.next_object w.objects _ x numbers l e);
}

put_begins : (p : Place) (i n : ℕ) (ty : Ty) (w : World) → Begins n ty w → Begins n ty (put_into p i w)
unfolding put_into in_pools
put_begins Standard i n ty w h = h
put_begins (InBlock p a) i n ty w h = record { number = h.number; out = h.out; typed = h.typed }
put_begins (InSubpool s) i n ty w h = h

pub create_at_begins : (ty : Ty) (cells : List ℕ) (set : ℕ) (place : Place) (w : World) → ((o : Object) → Lists o w.objects → o.number < w.ledger.next_object) → Begins w.ledger.next_object ty (create_at ty cells set place w)
unfolding create_at
create_at_begins ty cells set place w numbers = put_begins place w.ledger.next_object w.ledger.next_object ty _ (create_begins ty cells (Allocated set place) w numbers)

-- nothing is known of it before
pub new_growing : {k : Tables} (n : ℕ) (ty : Ty) (own : Owner) (tr : List Event) (w w' : World) → Inv k tr w → n ≡ w.ledger.next_object → Begins n ty w' → ((m : ℕ) → own ≡ Master m → Room tr m n) → ((m : ℕ) → own ≡ Master m → m < w'.ledger.next_master) → Growing n own tr w' × Untouched n tr
new_growing n ty own tr w w' inv e b room active = (
  record {
    stead = record { number = b.number; out = b.out; room = room; active = active };
    mine = λ q o h. absurd (inv.fresh (part n q) o (omega arith) h);
  },
  λ q. inv.unclosed (part n q) (omega arith),
)

collection_no : (c : ℕ) (o : Owner) (m : ℕ) → Some (Collection c) ≡ Some o → o ≡ Master m → ⊥
collection_no c o m e f = absurd (cc)

-- what concerns an object of a collection that is not there yet concerns nothing that is
pub fresh_in : {k : Tables} {A : Type 0} {Req : List Event → World → Type 0} {P : Result A → List Event → World → Type 0} {m : Act A} (n c : ℕ) → Does k (Of n) (Some (Collection c)) Req P m → Does k none calm (λ tr w. Req tr w × (w.ledger.next_object ≤ n)) P m
fresh_in {m = m} n c h = record { from = λ i l w inv r. ends_as (m i l w) (h.from i l w inv r.0) (λ x tr v y. (y.0, quiet n c (y.1) r.1, y.2)) }
  where
    quiet : (n c : ℕ) {tr tr' : List Event} {w w' : World} → Moves (Of n) (Some (Collection c)) tr w tr' w' → w.ledger.next_object ≤ n → Moves none calm tr w tr' w'
    quiet n c {w = w} a le = record {
      kept = a.kept;
      next = a.next;
      next_master = a.next_master;
      layers = a.layers;
      typed = a.typed;
      lives = λ p o old h. elim (a.lives p o old h) [ inl i ↦ inl i | inr e ↦ elim old [ inl lt ↦ let same = e.0 in absurd (omega arith) | inr m ↦ absurd (collection_no c o m.0 e.1 m.1) ] ];
      closes = λ p h out e. a.closes p h out (λ same. omega arith);
      out = a.out;
    }
