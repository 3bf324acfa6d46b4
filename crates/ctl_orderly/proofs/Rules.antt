-- What is shown of an act: from where something holds beside the invariant, it ends where something else does. The rules by which acts are
-- joined.
use Rattle.std.specs.Prelude.{◌≡◌, ℕ, zero, suc, ◌<◌, List, [], ◌∷◌, ◌++◌, Option, Some, None, Bool, true, false, nat_eq, nat_lt, if◌then◌else◌}
use Rattle.std.proofs.Common.{refl, sym, ap, ◌∙◌, subst, arith, eqb-true, inl, inr}
use Rattle.std.proofs.lemmas.Bool.{ltb-true}
use Rattle.ctl_program.specs.declared.types.Ty.{Ty}
use Rattle.ctl_program.specs.declared.types.Ty.TheVariants.{Integer, Count, Boolean, Address, Handle, Access, Record}
use Rattle.ctl_tree.specs.declared.ending.Stop.{Stop}
use Rattle.ctl_tree.specs.declared.event.Event.{Event}
use Rattle.ctl_tree.specs.declared.event.Owner.{Owner}
use Rattle.ctl_tree.specs.declared.event.Part.{Part}
use Rattle.ctl_meaning.specs.World.{Object, Log, World}
use Rattle.ctl_meaning.specs.Lists.{first_with}
use Rattle.ctl_meaning.specs.Objects.{object_in}
use Rattle.ctl_meaning.specs.Changes.{object_at}
use Rattle.ctl_meaning.specs.Choice.{Ask, accepted, noted, picked}
use Rattle.ctl_meaning.specs.Types.{Tables, of_record}
use Rattle.ctl_meaning.specs.Outcome.{Way, ByRaise, Result, Goes, Leaves, Out, Gives, Stops, Cut, Act, Done, add, bind, given, on_goes, then_always, ◌>>=◌, ◌>>◌, done, nothing, raise, stop, counted, ticked, spend, look, after_pick, answered, choose, Tried, Fine, Raised, told, attempt, either, when, on_some}
use Rattle.ctl_meaning.specs.Names.{gone, existing}
use Rattle.ctl_meaning.specs.Emptied.{Lists}
use Rattle.ctl_orderly.proofs.State.{Sound, Inv, Moves, none, calm, stay, on, wider, anywhere}

-- an outcome that gives a result ends so; one that stops or is cut has shown a trace without a flaw
abbrev pub EndsBy : {A : Type 0} → (Result A → List Event → World → Type 0) → Out A → Type 0
EndsBy P (Gives r t c l w) = P r l.trace w
EndsBy P (Stops s t l) = Sound l.trace
EndsBy P (Cut t c l) = Sound l.trace

pub record Ends {A : Type 0} (P : Result A → List Event → World → Type 0) (out : Out A) : Type 0 where
  pub holds : EndsBy P out

pub ends_add : {A : Type 0} {P : Result A → List Event → World → Type 0} (n : ℕ) (out : Out A) → Ends P out → Ends P (add n out)
unfolding add
ends_add n (Gives r t c l w) h = record { holds = h.holds }
ends_add n (Stops s t l) h = record { holds = h.holds }
ends_add n (Cut t c l) h = record { holds = h.holds }

pub ends_as : {A : Type 0} {P Q : Result A → List Event → World → Type 0} (out : Out A) → Ends P out → ((r : Result A) (tr : List Event) (w : World) → P r tr w → Q r tr w) → Ends Q out
ends_as (Gives r t c l w) h f = record { holds = f r l.trace w h.holds }
ends_as (Stops s t l) h f = record { holds = h.holds }
ends_as (Cut t c l) h f = record { holds = h.holds }

pub ends_bind : {A B : Type 0} {P : Result A → List Event → World → Type 0} {Q : Result B → List Event → World → Type 0} (out : Out A) (f : Result A → Act B) → Ends P out → ((r : Result A) (c : ℕ) (l : Log) (w : World) → P r l.trace w → Ends Q (f r c l w)) → Ends Q (bind out f)
unfolding bind
ends_bind (Gives r t c l w) f h g = ends_add t (f r c l w) (g r c l w h.holds)
ends_bind (Stops s t l) f h g = record { holds = h.holds }
ends_bind (Cut t c l) f h g = record { holds = h.holds }

-- What an act does ---------------------------------------------------------------------------

pub record Does (k : Tables) (E : Part → Type 0) (own : Option Owner) {A : Type 0} (Req : List Event → World → Type 0) (P : Result A → List Event → World → Type 0) (m : Act A) : Type 0 where
  pub from : (c : ℕ) (l : Log) (w : World) → Inv k l.trace w → Req l.trace w → Ends (λ r tr v. Inv k tr v × Moves E own l.trace w tr v × P r tr v) (m c l w)

abbrev pub Always : List Event → World → Type 0
Always tr w = Unit {0}

abbrev pub Ever : {A : Type 0} → Result A → List Event → World → Type 0
Ever r tr w = Unit {0}

-- what holds where an act goes on
abbrev pub IfGoes : {A : Type 0} → (List Event → World → Type 0) → Result A → List Event → World → Type 0
IfGoes S (Goes a) tr w = S tr w
IfGoes S (Leaves y) tr w = Unit {0}

-- an act that keeps the invariant, whatever is owed around it
abbrev pub Good : Tables → {A : Type 0} → Act A → Type 0
Good k m = Does k none calm Always Ever m

-- what stays whatever these parts undergo
abbrev pub Stable : Tables → (Part → Type 0) → Option Owner → (List Event → World → Type 0) → Type 0
Stable k E own S = (tr : List Event) (w : World) (tr' : List Event) (w' : World) → Inv k tr w → Inv k tr' w' → Moves E own tr w tr' w' → S tr w → S tr' w'

-- an exception becomes a value
abbrev pub Attempted : {A : Type 0} → (Result A → List Event → World → Type 0) → Result (Tried A) → List Event → World → Type 0
Attempted P (Goes (Fine a)) tr w = P (Goes a) tr w
Attempted P (Goes (Raised e)) tr w = P (Leaves (ByRaise e)) tr w
Attempted P (Leaves y) tr w = P (Leaves y) tr w

noted_trace : (m : ℕ) (l : Log) (o : Option ℕ) (p : ℕ × Log) → noted m o l ≡ Some p → p.1.trace ≡ l.trace
unfolding noted
noted_trace m l None p e = absurd (cc)
noted_trace m l (Some j) p e = let same : (j, record { trace = l.trace; taken = l.taken ++ (record { width = m; chosen = j }) ∷ [] }) ≡ p = cc e in ap (λ x. x.1.trace) (sym same)

picked_trace : (ask : Ask) (m : ℕ) (l : Log) (p : ℕ × Log) → picked ask m l ≡ Some p → p.1.trace ≡ l.trace
unfolding picked
picked_trace ask zero l p e = let same : (0, l) ≡ p = cc e in ap (λ x. x.1.trace) (sym same)
picked_trace ask (suc zero) l p e = let same : (0, l) ≡ p = cc e in ap (λ x. x.1.trace) (sym same)
picked_trace ask (suc (suc m)) l p e = noted_trace (suc (suc m)) l _ p e

found_if : (n : ℕ) (b : Bool) (o x : Object) (os : List Object) → nat_eq o.number n ≡ b → (if b then Some o else first_with (λ y. nat_eq y.number n) os) ≡ Some x → ((first_with (λ y. nat_eq y.number n) os) ≡ Some x → Lists x os × (x.number ≡ n)) → (Lists x (o ∷ os)) × (x.number ≡ n)
found_if n true o x os e h rest = let same : o ≡ x = cc h in (inl (sym same), ap (λ y. y.number) (sym same) ∙ eqb-true o.number n e)
found_if n false o x os e h rest = let r = rest h in (inr r.0, r.1)

first_found : (n : ℕ) (os : List Object) (x : Object) → first_with (λ y. nat_eq y.number n) os ≡ Some x → Lists x os × (x.number ≡ n)
unfolding first_with
first_found n [] x e = absurd (cc)
first_found n (o ∷ os) x e = found_if n (nat_eq o.number n) o x os refl e (first_found n os x)

pub found : (n : ℕ) (w : World) (o : Object) → object_at n w ≡ Some o → Lists o w.objects × (o.number ≡ n)
unfolding object_at object_in
found n w o e = first_found n w.objects o e

accepted_below : (m p : ℕ) (o : Option ℕ) → accepted m o ≡ Some p → p < m
unfolding accepted
accepted_below m p None e = absurd (cc)
accepted_below m p (Some i) e = go (nat_lt i m) refl e
  where
    go : (b : Bool) → nat_lt i m ≡ b → (if b then Some i else None) ≡ Some p → p < m
    go true h e = let same : i ≡ p = cc e in let lt = ltb-true i m h in omega arith
    go false h e = absurd (cc)

noted_below : (m : ℕ) (l : Log) (o : Option ℕ) (p : ℕ × Log) → ((i : ℕ) → o ≡ Some i → i < m) → noted m o l ≡ Some p → p.0 < m
unfolding noted
noted_below m l None p h e = absurd (cc)
noted_below m l (Some j) p h e = let same : (j, record { trace = l.trace; taken = l.taken ++ (record { width = m; chosen = j }) ∷ [] }) ≡ p = cc e in let lt = h j refl in let first = ap (λ x. x.0) same in omega arith

picked_below : (ask : Ask) (m : ℕ) (l : Log) (p : ℕ × Log) → picked ask (suc m) l ≡ Some p → p.0 < suc m
unfolding picked
picked_below ask zero l p e = let same : (0, l) ≡ p = cc e in let first = ap (λ x. x.0) same in omega arith
picked_below ask (suc m) l p e = noted_below (suc (suc m)) l _ p (λ i h. accepted_below (suc (suc m)) i _ h) e

-- a choice is one of the candidates
abbrev pub Below : ℕ → Result ℕ → Type 0
Below m (Goes i) = i < m
Below m (Leaves y) = Unit {0}

module _ {k : Tables} {E : Part → Type 0} {own : Option Owner} where
  pub as_well : {A : Type 0} {Req Req' : List Event → World → Type 0} {P P' : Result A → List Event → World → Type 0} {m : Act A} → Does k E own Req P m → ((tr : List Event) (w : World) → Inv k tr w → Req' tr w → Req tr w) → ((r : Result A) (tr : List Event) (w : World) → Inv k tr w → P r tr w → P' r tr w) → Does k E own Req' P' m
  as_well {m = m} h f g = record { from = λ c l w i r. ends_as (m c l w) (h.from c l w i (f l.trace w i r)) (λ x tr v y. (y.0, y.1, g x tr v y.0 y.2)) }

  -- nothing is to be shown where it cannot stand
  pub vacuous : {A : Type 0} {Req : List Event → World → Type 0} {P : Result A → List Event → World → Type 0} {m : Act A} → ((tr : List Event) (w : World) → Req tr w → ⊥) → Does k E own Req P m
  vacuous f = record { from = λ c l w i r. absurd (f l.trace w r) }

  pub framed : {A : Type 0} {Req : List Event → World → Type 0} {P : Result A → List Event → World → Type 0} {m : Act A} (S : List Event → World → Type 0) → Stable k E own S → Does k E own Req P m → Does k E own (λ tr w. Req tr w × S tr w) (λ r tr w. P r tr w × S tr w) m
  framed {m = m} S stable h = record { from = λ c l w i r. ends_as (m c l w) (h.from c l w i r.0) (λ x tr v y. (y.0, y.1, (y.2, stable l.trace w tr v i y.0 y.1 r.1))) }

  pub sequence : {A B : Type 0} {Req : List Event → World → Type 0} {P : Result A → List Event → World → Type 0} {Q : Result B → List Event → World → Type 0} {m : Act A} {f : Result A → Act B} → Does k E own Req P m → ((r : Result A) → Does k E own (P r) Q (f r)) → Does k E own Req Q (then_always m f)
  unfolding then_always
  sequence {m = m} {f = f} h g = record { from = λ c l w i r. ends_bind (m c l w) f (h.from c l w i r) (λ x c1 l1 w1 y. ends_as (f x c1 l1 w1) ((g x).from c1 l1 w1 y.0 y.2) (λ z tr v u. (u.0, on y.1 u.1, u.2))) }

  pub gives : {A : Type 0} {Req : List Event → World → Type 0} {P : Result A → List Event → World → Type 0} (r : Result A) → ((tr : List Event) (w : World) → Inv k tr w → Req tr w → P r tr w) → Does k E own Req P (given r)
  unfolding given
  gives r f = record { from = λ c l w i q. record { holds = (i, stay E own l.trace w, f l.trace w i q) } }

  goes_on : {A B : Type 0} (P : Result A → List Event → World → Type 0) (Q : Result B → List Event → World → Type 0) {f : A → Act B} → ((a : A) → Does k E own (P (Goes a)) Q (f a)) → ((y : Way) (tr : List Event) (w : World) → Inv k tr w → P (Leaves y) tr w → Q (Leaves y) tr w) → (r : Result A) → Does k E own (P r) Q (on_goes f r)
  unfolding on_goes
  goes_on P Q h g (Goes a) = h a
  goes_on P Q h g (Leaves y) = gives (Leaves y) (g y)

  pub seq : {A B : Type 0} {Req : List Event → World → Type 0} {P : Result A → List Event → World → Type 0} {Q : Result B → List Event → World → Type 0} {m : Act A} {f : A → Act B} → Does k E own Req P m → ((a : A) → Does k E own (P (Goes a)) Q (f a)) → ((y : Way) (tr : List Event) (w : World) → Inv k tr w → P (Leaves y) tr w → Q (Leaves y) tr w) → Does k E own Req Q (m >>= f)
  unfolding ◌>>=◌
  seq {P = P} {Q = Q} h g x = sequence h (goes_on P Q g x)

  pub then_do : {A B : Type 0} {Req : List Event → World → Type 0} {P : Result A → List Event → World → Type 0} {Q : Result B → List Event → World → Type 0} {m : Act A} {n : Act B} → Does k E own Req P m → ((a : A) → Does k E own (P (Goes a)) Q n) → ((y : Way) (tr : List Event) (w : World) → Inv k tr w → P (Leaves y) tr w → Q (Leaves y) tr w) → Does k E own Req Q (m >> n)
  unfolding ◌>>◌
  then_do {P = P} {Q = Q} h g x = sequence h (goes_on P Q g x)

  pub stopped : {A : Type 0} {Req : List Event → World → Type 0} {P : Result A → List Event → World → Type 0} (s : Stop) → Does k E own Req P (stop s)
  unfolding stop
  stopped s = record { from = λ c l w i r. record { holds = i.sound } }

  pub is_gone : {A : Type 0} {Req : List Event → World → Type 0} {P : Result A → List Event → World → Type 0} → Does k E own Req P gone
  unfolding gone
  is_gone = stopped _

  pub gives_done : {A : Type 0} {Req : List Event → World → Type 0} {P : Result A → List Event → World → Type 0} (a : A) → ((tr : List Event) (w : World) → Inv k tr w → Req tr w → P (Goes a) tr w) → Does k E own Req P (done a)
  unfolding done
  gives_done a f = gives (Goes a) f

  pub gives_nothing : {Req : List Event → World → Type 0} {P : Result Done → List Event → World → Type 0} → ((tr : List Event) (w : World) → Inv k tr w → Req tr w → P (Goes tt) tr w) → Does k E own Req P nothing
  unfolding nothing
  gives_nothing f = gives (Goes tt) f

  pub raises : {A : Type 0} {Req : List Event → World → Type 0} {P : Result A → List Event → World → Type 0} (e : ℕ) → ((tr : List Event) (w : World) → Inv k tr w → Req tr w → P (Leaves (ByRaise e)) tr w) → Does k E own Req P (raise e)
  unfolding raise
  raises e f = gives (Leaves (ByRaise e)) f

  pub counts : {A : Type 0} {Req : List Event → World → Type 0} {P : Result A → List Event → World → Type 0} {m : Act A} (n : ℕ) → Does k E own Req P m → Does k E own Req P (counted n m)
  unfolding counted
  counts {m = m} n h = record { from = λ c l w i r. ends_add n (m c l w) (h.from c l w i r) }

  pub ticks : {A : Type 0} {Req : List Event → World → Type 0} {P : Result A → List Event → World → Type 0} {m : Act A} → Does k E own Req P m → Does k E own Req P (ticked m)
  unfolding ticked
  ticks h = counts 1 h

  spends_at : {A : Type 0} {Req : List Event → World → Type 0} {P : Result A → List Event → World → Type 0} (m : Act A) → Does k E own Req P m → (c : ℕ) (l : Log) (w : World) → Inv k l.trace w → Req l.trace w → Ends (λ r tr v. Inv k tr v × Moves E own l.trace w tr v × P r tr v) (spend m c l w)
  unfolding spend
  spends_at m h zero l w i r = record { holds = i.sound }
  spends_at m h (suc c) l w i r = h.from c l w i r

  pub spends : {A : Type 0} {Req : List Event → World → Type 0} {P : Result A → List Event → World → Type 0} {m : Act A} → Does k E own Req P m → Does k E own Req P (spend m)
  spends {m = m} h = record { from = spends_at m h }

  -- what is looked up is of the world that stands
  pub looks : {A : Type 0} {Req : List Event → World → Type 0} {P : Result A → List Event → World → Type 0} {f : World → Act A} → ((v : World) → Does k E own (λ tr w. Req tr w × (w ≡ v)) P (f v)) → Does k E own Req P (look f)
  unfolding look
  looks h = record { from = λ c l w i r. (h w).from c l w i (r, refl) }

  pub some_or : {A B : Type 0} {Req : List Event → World → Type 0} {P : Result B → List Event → World → Type 0} (o : Option A) {m : Act B} {f : A → Act B} → (o ≡ None → Does k E own Req P m) → ((a : A) → o ≡ Some a → Does k E own Req P (f a)) → Does k E own Req P (on_some o m f)
  unfolding on_some
  some_or None h g = h refl
  some_or (Some a) h g = g a refl

  pub choice : {A : Type 0} {Req : List Event → World → Type 0} {P : Result A → List Event → World → Type 0} (b : Bool) {m n : Act A} → (b ≡ true → Does k E own Req P m) → (b ≡ false → Does k E own Req P n) → Does k E own Req P (either b m n)
  unfolding either
  choice true h g = h refl
  choice false h g = g refl

  pub whether : {Req : List Event → World → Type 0} {P : Result Done → List Event → World → Type 0} (b : Bool) {m : Act Done} → Does k E own Req P m → ((tr : List Event) (w : World) → Inv k tr w → Req tr w → P (Goes tt) tr w) → Does k E own Req P (when b m)
  unfolding when
  whether b h f = choice b (λ e. h) (λ e. gives_nothing f)

  pub record_or : {A : Type 0} {Req : List Event → World → Type 0} {P : Result A → List Event → World → Type 0} (ty : Ty) {m : Act A} {f : ℕ → Act A} → (((u : ℕ) → ty ≡ Record u → ⊥) → Does k E own Req P m) → ((u : ℕ) → ty ≡ Record u → Does k E own Req P (f u)) → Does k E own Req P (of_record m f ty)
  unfolding of_record
  record_or Integer h g = h (λ u e. absurd (cc))
  record_or Count h g = h (λ u e. absurd (cc))
  record_or Boolean h g = h (λ u e. absurd (cc))
  record_or Address h g = h (λ u e. absurd (cc))
  record_or Handle h g = h (λ u e. absurd (cc))
  record_or (Access a) h g = h (λ u e. absurd (cc))
  record_or (Record u) h g = g u refl

  tells : {A : Type 0} (P : Result A → List Event → World → Type 0) (r : Result A) → Does k E own (P r) (Attempted P) (told r)
  unfolding told
  tells P (Goes a) = gives _ (λ tr w i h. h)
  tells P (Leaves (ByRaise e)) = gives _ (λ tr w i h. h)
  tells P (Leaves y) = gives _ (λ tr w i h. h)

  pub attempts : {A : Type 0} {Req : List Event → World → Type 0} {P : Result A → List Event → World → Type 0} {m : Act A} → Does k E own Req P m → Does k E own Req (Attempted P) (attempt m)
  unfolding attempt
  attempts {P = P} h = sequence h (tells P)

  -- Choices ---------------------------------------------------------------------------------

  chosen : {Req : List Event → World → Type 0} (c : ℕ) (l : Log) (w : World) (o : Option (ℕ × Log)) → ((p : ℕ × Log) → o ≡ Some p → p.1.trace ≡ l.trace) → Inv k l.trace w → Req l.trace w → Ends (λ r tr v. Inv k tr v × Moves E own l.trace w tr v × Req tr v) (after_pick o c l w)
  unfolding after_pick
  chosen c l w None h i r = record { holds = i.sound }
  chosen {Req = Req} c l w (Some p) h i r = record { holds = subst (λ tr. Inv k tr w × Moves E own l.trace w tr w × Req tr w) (sym (h p refl)) (i, stay E own l.trace w, r) }

  -- a choice shows nothing
  pub chooses : {Req : List Event → World → Type 0} (ask : Ask) (m : ℕ) → Does k E own Req (λ r tr w. Req tr w) (choose ask m)
  unfolding choose answered
  chooses {Req = Req} ask m = counts m (record { from = λ c l w i r. chosen {Req = Req} c l w (picked ask m l) (picked_trace ask m l) i r })

  chosen_below : {Req : List Event → World → Type 0} (m c : ℕ) (l : Log) (w : World) (o : Option (ℕ × Log)) → ((p : ℕ × Log) → o ≡ Some p → p.1.trace ≡ l.trace) → ((p : ℕ × Log) → o ≡ Some p → p.0 < m) → Inv k l.trace w → Req l.trace w → Ends (λ r tr v. Inv k tr v × Moves E own l.trace w tr v × (Req tr v × Below m r)) (after_pick o c l w)
  unfolding after_pick
  chosen_below m c l w None h g i r = record { holds = i.sound }
  chosen_below {Req = Req} m c l w (Some p) h g i r = record { holds = subst (λ tr. Inv k tr w × Moves E own l.trace w tr w × (Req tr w × (p.0 < m))) (sym (h p refl)) (i, stay E own l.trace w, (r, g p refl)) }

  pub chooses_below : {Req : List Event → World → Type 0} (ask : Ask) (m : ℕ) → Does k E own Req (λ r tr w. Req tr w × Below (suc m) r) (choose ask (suc m))
  unfolding choose answered
  chooses_below {Req = Req} ask m = counts (suc m) (record { from = λ c l w i r. chosen_below {Req = Req} (suc m) c l w (picked ask (suc m) l) (picked_trace ask (suc m) l) (picked_below ask m l) i r })

  -- Objects that exist -------------------------------------------------------------------------

  -- an object that exists, or a stop
  pub exists : {A : Type 0} {Req : List Event → World → Type 0} {P : Result A → List Event → World → Type 0} (n : ℕ) {f : Object → Act A} → ((o : Object) → o.number ≡ n → Does k E own (λ tr w. Req tr w × Lists o w.objects) P (f o)) → Does k E own Req P (existing n f)
  unfolding existing
  exists {Req = Req} n h = looks (λ v. some_or (object_at n v) (λ e. is_gone) (λ o e. as_well {Req = λ tr w. Req tr w × Lists o w.objects} (h o (found n v o e).1) (λ tr w i r. (r.0, subst (λ x. Lists o x.objects) (sym r.1) (found n v o e).0)) (λ r tr w i p. p)))

-- where fewer parts are concerned, more may be
pub widened : {k : Tables} {E F : Part → Type 0} {own : Option Owner} {A : Type 0} {Req : List Event → World → Type 0} {P : Result A → List Event → World → Type 0} {m : Act A} → ((p : Part) → E p → F p) → Does k E own Req P m → Does k F own Req P m
widened {m = m} f h = record { from = λ c l w i r. ends_as (m c l w) (h.from c l w i r) (λ x tr v y. (y.0, wider f y.1, y.2)) }

-- an act that keeps the invariant does so wherever it stands
pub good_in : {k : Tables} {A : Type 0} {m : Act A} (E : Part → Type 0) (own : Option Owner) → Good k m → Does k E own Always Ever m
good_in {m = m} E own h = record { from = λ c l w i r. ends_as (m c l w) (h.from c l w i r) (λ x tr v y. (y.0, anywhere E y.1, y.2)) }
