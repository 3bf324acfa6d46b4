-- What is done in a master, as it is seen from before the master was entered: only objects that did not exist then are concerned.
use Rattle.std.specs.Prelude.{◌≡◌, ℕ, ◌<◌, ◌≤◌, List, [], ◌∷◌, Option, Some, None}
use Rattle.std.proofs.Common.{refl, ◌∙◌, arith, inl, inr}
use Rattle.ctl_program.specs.declared.types.Ty.{Ty}
use Rattle.ctl_tree.specs.declared.event.Event.{Event}
use Rattle.ctl_tree.specs.declared.event.Owner.{Owner}
use Rattle.ctl_tree.specs.declared.event.Owner.TheVariants.{Master}
use Rattle.ctl_tree.specs.declared.event.Part.{Part}
use Rattle.ctl_meaning.specs.World.{Layer, Single, Sets, Log, World}
use Rattle.ctl_meaning.specs.World as W
use Rattle.ctl_meaning.specs.Ledger.{master_at}
use Rattle.ctl_meaning.specs.Types.{Tables}
use Rattle.ctl_meaning.specs.Outcome.{Way, Result, Goes, Leaves, Act, Done, given, on_goes, then_always, ◌>>=◌, ◌>>◌, done, counted, ticked, look, change}
use Rattle.ctl_orderly.proofs.Traces.{Room}
use Rattle.ctl_orderly.proofs.State.{part, Typed, Inv, Moves, none, calm, on, wider, anywhere, room_on}
use Rattle.ctl_orderly.proofs.Rules.{Ends, ends_add, ends_as, ends_bind, Does, Good, Stable}
use Rattle.ctl_orderly.proofs.Edits.{Edits, Numbered, edited, edited_on}
use Rattle.ctl_orderly.proofs.Closing.{Stead}
use Rattle.ctl_orderly.proofs.Members.{Of, Entire, entire_on}

-- Objects that a master has still to finalize -------------------------------------------------------

abbrev pub AllBelow : ℕ → List Layer → Type 0
AllBelow n [] = Unit {0}
AllBelow n (Single i ∷ ls) = (i < n) × AllBelow n ls
AllBelow n (Sets sets ∷ ls) = AllBelow n ls

-- the layers of a master, from the newest: each object is entire, and newer than those behind it
abbrev pub Stack : Tables → ℕ → ℕ → List Layer → List Event → World → Type 0
Stack k first m [] tr w = Unit {0}
Stack k first m (Single n ∷ ls) tr w = (first ≤ n) × ((ty : Ty) × Entire k n ty (Master m) tr w × Typed n ty w) × AllBelow n ls × Stack k first m ls tr w
Stack k first m (Sets sets ∷ ls) tr w = Stack k first m ls tr w

pub stack_below : (k : Tables) (first m : ℕ) (ls : List Layer) (tr : List Event) (w : World) → Stack k first m ls tr w → AllBelow w.ledger.next_object ls
stack_below k first m [] tr w h = tt
stack_below k first m (Single n ∷ ls) tr w h = (h.1.1.stead.number, stack_below k first m ls tr w h.3)
stack_below k first m (Sets sets ∷ ls) tr w h = stack_below k first m ls tr w h

stead_past : {k : Tables} {E : Part → Type 0} {own : Option Owner} {tr tr' : List Event} {w w' : World} (n m : ℕ) → Inv k tr w → Moves E own tr w tr' w' → ((p : Part) → E p → p.object < n → ⊥) → Stead n (Master m) tr w → Stead n (Master m) tr' w'
stead_past n m inv a off s = record {
  number = let x = s.number in let y = a.next in omega arith;
  out = a.out n s.number s.out;
  room = λ i e. room_on i n inv a (s.active i e) off (s.room i e);
  active = λ i e. let x = s.active i e in let y = a.next_master in omega arith;
}

-- acts that concern newer objects alone leave the stack as it is
pub stack_past : {k : Tables} {E : Part → Type 0} {own : Option Owner} {tr tr' : List Event} {w w' : World} (first m n : ℕ) (ls : List Layer) → Inv k tr w → Moves E own tr w tr' w' → ((p : Part) → E p → p.object < n → ⊥) → AllBelow n ls → Stack k first m ls tr w → Stack k first m ls tr' w'
stack_past first m n [] inv a off b h = tt
stack_past first m n (Single i ∷ ls) inv a off b h =
    let lt = b.0 in
    (h.0, (h.1.0, entire_on i h.1.0 (Master m) (λ q e. off (part i q) e lt) (stead_past i m inv a (λ p e x. off p e (omega arith)) h.1.1.stead) a h.1.1, a.typed i h.1.0 h.1.1.stead.number h.1.2), h.2, stack_past first m n ls inv a off b.1 h.3)
stack_past first m n (Sets sets ∷ ls) inv a off b h = stack_past first m n ls inv a off b h

-- a master while its objects stand; and while none of them was closed
pub record Standing (k : Tables) (first m : ℕ) (tr : List Event) (w : World) : Type 0 where
  pub active : m < w.ledger.next_master
  pub master : W.Master
  pub is : master_at m w.ledger ≡ Some master
  pub stack : Stack k first m master.layers tr w

pub record Quiet (k : Tables) (first m : ℕ) (tr : List Event) (w : World) : Type 0 where
  pub standing : Standing k first m tr w
  pub room : (n : ℕ) → Room tr m n

pub standing_past : {k : Tables} {E : Part → Type 0} {own : Option Owner} {tr tr' : List Event} {w w' : World} (first m n : ℕ) → Inv k tr w → Moves E own tr w tr' w' → ((p : Part) → E p → p.object < n → ⊥) → (s : Standing k first m tr w) → AllBelow n s.master.layers → Standing k first m tr' w'
standing_past first m n inv a off s b = record {
  active = let x = s.active in let y = a.next_master in omega arith;
  master = s.master;
  is = a.layers m s.active ∙ s.is;
  stack = stack_past first m n s.master.layers inv a off b s.stack;
}

pub quiet_still : {k : Tables} {own : Option Owner} (first m : ℕ) → Stable k none own (Quiet k first m)
quiet_still {k = k} first m tr w tr' w' inv inv' a q = record {
  standing = standing_past first m w.ledger.next_object inv a (λ p x. absurd x) q.standing (stack_below k first m q.standing.master.layers tr w q.standing.stack);
  room = λ n. room_on m n inv a q.standing.active (λ p x. absurd x) (q.room n);
}

pub standing_still : {k : Tables} {own : Option Owner} (first m : ℕ) → Stable k none own (Standing k first m)
standing_still {k = k} first m tr w tr' w' inv inv' a s = standing_past first m w.ledger.next_object inv a (λ p x. absurd x) s (stack_below k first m s.master.layers tr w s.stack)

-- Acts in a master -------------------------------------------------------------------------------------

-- the objects that did not exist yet
abbrev pub Later : World → Part → Type 0
Later w0 p = w0.ledger.next_object ≤ p.object

-- since the master was entered
abbrev pub Since : List Event → World → List Event → World → Type 0
Since tr0 w0 tr w = Moves (Later w0) (Some (Master w0.ledger.next_master)) tr0 w0 tr w

pub record Inside (k : Tables) (tr0 : List Event) (w0 : World) {A : Type 0} (Req : List Event → World → Type 0) (P : Result A → List Event → World → Type 0) (m : Act A) : Type 0 where
  pub from : (c : ℕ) (l : Log) (w : World) → Inv k l.trace w → Since tr0 w0 l.trace w → Req l.trace w → Ends (λ r tr v. Inv k tr v × Since tr0 w0 tr v × P r tr v) (m c l w)

no_owner : (o : Owner) → None ≡ Some o → ⊥
no_owner o e = absurd (cc)

-- where nothing comes to life, it may be anyone's
pub owned_any : {E : Part → Type 0} {own : Option Owner} {tr tr' : List Event} {w w' : World} → Moves E None tr w tr' w' → Moves E own tr w tr' w'
owned_any a = record {
  kept = a.kept;
  next = a.next;
  next_master = a.next_master;
  layers = a.layers;
  typed = a.typed;
  lives = λ p o old h. elim (a.lives p o old h) [ inl i ↦ inl i | inr e ↦ absurd (no_owner o e.1) ];
  closes = a.closes;
  out = a.out;
}

module _ {k : Tables} {tr0 : List Event} {w0 : World} where
  pub as_inside : {A : Type 0} {Req Req' : List Event → World → Type 0} {P P' : Result A → List Event → World → Type 0} {m : Act A} → Inside k tr0 w0 Req P m → ((tr : List Event) (w : World) → Inv k tr w → Since tr0 w0 tr w → Req' tr w → Req tr w) → ((r : Result A) (tr : List Event) (w : World) → Inv k tr w → P r tr w → P' r tr w) → Inside k tr0 w0 Req' P' m
  as_inside {m = m} h f g = record { from = λ c l w i s r. ends_as (m c l w) (h.from c l w i s (f l.trace w i s r)) (λ x tr v y. (y.0, y.1, g x tr v y.0 y.2)) }

  pub inside_sequence : {A B : Type 0} {Req : List Event → World → Type 0} {P : Result A → List Event → World → Type 0} {Q : Result B → List Event → World → Type 0} {m : Act A} {f : Result A → Act B} → Inside k tr0 w0 Req P m → ((r : Result A) → Inside k tr0 w0 (P r) Q (f r)) → Inside k tr0 w0 Req Q (then_always m f)
  unfolding then_always
  inside_sequence {m = m} {f = f} h g = record { from = λ c l w i s r. ends_bind (m c l w) f (h.from c l w i s r) (λ x c1 l1 w1 y. (g x).from c1 l1 w1 y.0 y.1 y.2) }

  pub inside_given : {A : Type 0} {Req : List Event → World → Type 0} {P : Result A → List Event → World → Type 0} (r : Result A) → ((tr : List Event) (w : World) → Inv k tr w → Req tr w → P r tr w) → Inside k tr0 w0 Req P (given r)
  unfolding given
  inside_given r f = record { from = λ c l w i s q. record { holds = (i, s, f l.trace w i q) } }

  inside_on_goes : {A B : Type 0} (P : Result A → List Event → World → Type 0) (Q : Result B → List Event → World → Type 0) {f : A → Act B} → ((a : A) → Inside k tr0 w0 (P (Goes a)) Q (f a)) → ((y : Way) (tr : List Event) (w : World) → Inv k tr w → P (Leaves y) tr w → Q (Leaves y) tr w) → (r : Result A) → Inside k tr0 w0 (P r) Q (on_goes f r)
  unfolding on_goes
  inside_on_goes P Q h g (Goes a) = h a
  inside_on_goes P Q h g (Leaves y) = inside_given (Leaves y) (g y)

  pub inside_seq : {A B : Type 0} {Req : List Event → World → Type 0} {P : Result A → List Event → World → Type 0} {Q : Result B → List Event → World → Type 0} {m : Act A} {f : A → Act B} → Inside k tr0 w0 Req P m → ((a : A) → Inside k tr0 w0 (P (Goes a)) Q (f a)) → ((y : Way) (tr : List Event) (w : World) → Inv k tr w → P (Leaves y) tr w → Q (Leaves y) tr w) → Inside k tr0 w0 Req Q (m >>= f)
  unfolding ◌>>=◌
  inside_seq {P = P} {Q = Q} h g x = inside_sequence h (inside_on_goes P Q g x)

  pub inside_then : {A B : Type 0} {Req : List Event → World → Type 0} {P : Result A → List Event → World → Type 0} {Q : Result B → List Event → World → Type 0} {m : Act A} {n : Act B} → Inside k tr0 w0 Req P m → ((a : A) → Inside k tr0 w0 (P (Goes a)) Q n) → ((y : Way) (tr : List Event) (w : World) → Inv k tr w → P (Leaves y) tr w → Q (Leaves y) tr w) → Inside k tr0 w0 Req Q (m >> n)
  unfolding ◌>>◌
  inside_then {P = P} {Q = Q} h g x = inside_sequence h (inside_on_goes P Q g x)

  pub inside_done : {A : Type 0} {Req : List Event → World → Type 0} {P : Result A → List Event → World → Type 0} (a : A) → ((tr : List Event) (w : World) → Inv k tr w → Req tr w → P (Goes a) tr w) → Inside k tr0 w0 Req P (done a)
  unfolding done
  inside_done a f = inside_given (Goes a) f

  pub inside_counts : {A : Type 0} {Req : List Event → World → Type 0} {P : Result A → List Event → World → Type 0} {m : Act A} (n : ℕ) → Inside k tr0 w0 Req P m → Inside k tr0 w0 Req P (counted n m)
  unfolding counted
  inside_counts {m = m} n h = record { from = λ c l w i s r. ends_add n (m c l w) (h.from c l w i s r) }

  pub inside_ticks : {A : Type 0} {Req : List Event → World → Type 0} {P : Result A → List Event → World → Type 0} {m : Act A} → Inside k tr0 w0 Req P m → Inside k tr0 w0 Req P (ticked m)
  unfolding ticked
  inside_ticks h = inside_counts 1 h

  pub inside_looks : {A : Type 0} {Req : List Event → World → Type 0} {P : Result A → List Event → World → Type 0} {f : World → Act A} → ((v : World) → Inside k tr0 w0 (λ tr w. Req tr w × (w ≡ v)) P (f v)) → Inside k tr0 w0 Req P (look f)
  unfolding look
  inside_looks h = record { from = λ c l w i s r. (h w).from c l w i s (r, refl) }

  -- a change that leaves the layers of older masters
  pub inside_changes : {Req : List Event → World → Type 0} {P : Result Done → List Event → World → Type 0} {f : World → World} → ((w : World) → Numbered w → Edits w0.ledger.next_master w (f w)) → ((tr : List Event) (w : World) → Inv k tr w → Req tr w → P (Goes tt) tr (f w)) → Inside k tr0 w0 Req P (change f)
  unfolding change
  inside_changes {f = f} e h = record { from = λ c l w i s r. record { holds = (edited i (e w i.numbers), edited_on s (omega arith) (e w i.numbers), h l.trace w i r) } }

  -- what is done of an object of the master, or of none
  pub inside_of : {A : Type 0} {Req : List Event → World → Type 0} {P : Result A → List Event → World → Type 0} {m : Act A} (n : ℕ) (S T : List Event → World → Type 0) → w0.ledger.next_object ≤ n → Does k (Of n) (Some (Master w0.ledger.next_master)) Req P m → ((tr : List Event) (w : World) (tr' : List Event) (w' : World) → Inv k tr w → Moves (Of n) (Some (Master w0.ledger.next_master)) tr w tr' w' → S tr w → T tr' w') → Inside k tr0 w0 (λ tr w. Req tr w × S tr w) (λ r tr w. P r tr w × T tr w) m
  inside_of {m = m} n S T le h f = record { from = λ c l w i s r. ends_as (m c l w) (h.from c l w i r.0) (λ x tr v y. (y.0, on s (wider (λ p e. let same : p.object ≡ n = e in omega arith) y.1), (y.2, f l.trace w tr v i y.1 r.1))) }

  pub inside_good : {A : Type 0} {m : Act A} (S : List Event → World → Type 0) → Stable k none calm S → Good k m → Inside k tr0 w0 S (λ r tr w. S tr w) m
  inside_good {m = m} S stable h = record { from = λ c l w i s r. ends_as (m c l w) (h.from c l w i tt) (λ x tr v y. (y.0, on s (anywhere (Later w0) y.1), stable l.trace w tr v i y.0 y.1 r)) }
