-- Whole objects: declared ones, which a master finalizes, and members of collections, of which each is taken out where its finalization
-- begins.
use Rattle.std.specs.Prelude.{◌≡◌, ℕ, zero, suc, ◌<◌, List, [], ◌∷◌, Option, Some, None, Bool, true, false, ◌&&◌, ◌||◌, nat_eq}
use Rattle.std.proofs.Common.{refl, sym, ap, ◌∙◌, subst, arith, eq-eqb, ◌⊎◌, inl, inr}
use Rattle.ctl_program.specs.declared.types.Ty.{Ty}
use Rattle.ctl_tree.specs.declared.event.Event.{Event}
use Rattle.ctl_tree.specs.declared.event.Cause.{Cause}
use Rattle.ctl_tree.specs.declared.event.Owner.{Owner}
use Rattle.ctl_tree.specs.declared.event.Owner.TheVariants.{Master, Collection}
use Rattle.ctl_tree.specs.declared.event.Part.{Part}
use Rattle.ctl_meaning.specs.World.{Slot, Object, Member, Log, World}
use Rattle.ctl_meaning.specs.Lists.{pull_item}
use Rattle.ctl_meaning.specs.Objects.{change_in, with_begun, is_untouched}
use Rattle.ctl_meaning.specs.Changes.{begin_finalization}
use Rattle.ctl_meaning.specs.Choice.{Ask}
use Rattle.ctl_meaning.specs.Types.{Tables, depth, has_controlled}
use Rattle.ctl_meaning.specs.Members.{Group, is_of_group, member_of, is_due, is_candidate, candidates_of}
use Rattle.ctl_meaning.specs.Outcome.{Result, Goes, Leaves, Act, Done, given, ◌>>◌, on_goes, then_always, change}
use Rattle.ctl_meaning.specs.Names.{OfSubprogram, Call as Caller, Default, Tools, must_exist}
use Rattle.ctl_meaning.specs.Emptied.{Lists}
use Rattle.ctl_meaning.specs.Finalization.{whole, Every, finalize, finalize_begun, finalize_object, finalize_one, finalize_members, finalize_group}
use Rattle.ctl_meaning.proofs.Candidates.{candidate_of}
use Rattle.ctl_orderly.proofs.State.{part, stands, NoMember, Lives, Unclosed, Whole, Inv, Moves, none, older, anywhere}
use Rattle.ctl_orderly.proofs.Rules.{Ends, ends_as, ends_bind, Does, Always, Ever, IfGoes, Good, Stable, as_well, framed, seq, then_do, gives_done, record_or, chooses, widened}
use Rattle.ctl_orderly.proofs.Edits.{Changed, changed_listed, begun_stands, changes, edit_begins, edit_ends}
use Rattle.ctl_orderly.proofs.Closing.{Under, Stead, stead_on, Ready}
use Rattle.ctl_orderly.proofs.Closing as C

-- the parts of one object
abbrev pub Of : ℕ → Part → Type 0
Of n p = p.object ≡ n

-- an object in its stead whose parts all live and are not closed
pub record Entire (k : Tables) (n : ℕ) (ty : Ty) (own : Owner) (tr : List Event) (w : World) : Type 0 where
  pub stead : Stead n own tr w
  pub lives : Lives k n ty own tr
  pub unclosed : Unclosed k n ty tr

-- acts that concern no part of it leave it so
pub entire_on : {k : Tables} {E : Part → Type 0} {other : Option Owner} {tr tr' : List Event} {w w' : World} (n : ℕ) (ty : Ty) (own : Owner) → ((q : List ℕ) → E (part n q) → ⊥) → Stead n own tr' w' → Moves E other tr w tr' w' → Entire k n ty own tr w → Entire k n ty own tr' w'
entire_on n ty own off stead a e = record {
  stead = stead;
  lives = λ u q is h. a.kept (part n q) own (e.lives u q is h);
  unclosed = λ u q is h. a.closes (part n q) e.stead.number e.stead.out (off q) ∙ e.unclosed u q is h;
}

pub entire_still : {k : Tables} {other : Option Owner} (n : ℕ) (ty : Ty) (own : Owner) → Stable k none other (Entire k n ty own)
entire_still n ty own tr w tr' w' inv inv' a e = entire_on n ty own (λ q x. x) (stead_on n own (λ p x. absurd x) tr w tr' w' inv inv' a e.stead) a e

-- The finalization of an object begins: it is no member any more ---------------------------------

not_both : (b : Bool) → b ≡ true → b ≡ false → ⊥
not_both b h i = absurd (cc)

begun_not : (n : ℕ) (w : World) → NoMember n (begin_finalization n w)
unfolding begin_finalization change_in
begun_not n w x h e s = go (changed_listed (λ o. nat_eq o.number n) with_begun w.objects x h)
  where
    go : Changed (λ o. nat_eq o.number n) with_begun w.objects x → ⊥
    go c = elim c.either [ inl is ↦ not_both (nat_eq c.was.number n) (eq-eqb c.was.number n (ap (λ (y : Object). y.number) (sym is.0) ∙ e)) is.1 | inr is ↦ begun_stands c.was (sym (ap stands is.0) ∙ s) ]

not_some : (o : Owner) → None ≡ Some o → ⊥
not_some o e = absurd (cc)

-- a member that is taken out, and what is closed of it then: nothing else is closed
pub member_moves : {own : Option Owner} {n : ℕ} {tr tr1 tr2 : List Event} {w w1 w2 : World} → Moves none None tr w tr1 w1 → Moves (Of n) None tr1 w1 tr2 w2 → (NoMember n w → ⊥) → Moves none own tr w tr2 w2
member_moves {own} {n} {tr} {tr1} {tr2} {w} {w1} {w2} a b member = record {
  kept = λ p o h. b.kept p o (a.kept p o h);
  next = let x = a.next in let y = b.next in omega arith;
  next_master = let x = a.next_master in let y = b.next_master in omega arith;
  layers = λ m h. let x = a.next_master in b.layers m (omega arith) ∙ a.layers m h;
  typed = λ m ty h t. let x = a.next in b.typed m ty (omega arith) (a.typed m ty h t);
  lives = λ p o old h. elim (b.lives p o (older o p w w1 a.next a.next_master old) h) [ inl i ↦ elim (a.lives p o old i) [ inl j ↦ inl j | inr z ↦ absurd z.0 ] | inr z ↦ absurd (not_some o z.1) ];
  closes = λ p h out e. let x = a.next in b.closes p (omega arith) (a.out p.object h out) (λ is. member (subst (λ m. NoMember m w) is out)) ∙ a.closes p h out (λ z. z);
  out = λ m h out. let x = a.next in b.out m (omega arith) (a.out m h out);
}

module _ (k : Tables) (ask : Ask) (call : Caller) (default : Default) (calls : (f : ℕ) (ss : List Slot) (env : List ℕ) → Good k (call (OfSubprogram f ss) env)) where
  abbrev j : Tools
  j = record { ask = ask; tables = k; call = call; default = default }

  under_of : (n : ℕ) (path : List ℕ) (p : Part) → Under n path p → Of n p
  under_of n path p h = h.0

  -- an object of which each part is to be closed
  pub begun_closes : (cause : Cause) (m : Member) (own : Owner) → Does k (Of m.number) None (Entire k m.number m.ty own) Ever (finalize_begun j cause m)
  unfolding finalize_begun finalize whole
  begun_closes cause m own =
      seq {P = Ever} (record_or m.ty (λ no. gives_done false (λ tr w i r. tt))
      (λ u e. as_well (widened (under_of m.number []) (C.closes_parts k ask call default calls cause Every (depth k) (record { object = m.number; offset = 0; path = [] }) u own None))
      (λ tr w i r. (r.stead, record { lives = λ q h c. r.lives u q e h; unclosed = λ q h c. r.unclosed u q e h })) (λ r tr w i h. tt)))
      (λ b. then_do {P = Ever} (changes (edit_ends m.number) (λ tr w i r. tt)) (λ a. gives_done b (λ tr w i r. tt)) (λ y tr w i h. tt)) (λ y tr w i h. tt)

  begins : {E : Part → Type 0} {own : Option Owner} {S : List Event → World → Type 0} (n : ℕ) → Stable k E own S → Does k E own S (IfGoes (λ tr w. S tr w × NoMember n w)) (must_exist n >> change (begin_finalization n))
  begins {S = S} n stable = then_do (C.must_does k ask call default calls n) (λ a. as_well (framed S stable (changes {P = λ r tr w. NoMember n w} (edit_begins n) (λ tr w i r. begun_not n w))) (λ tr w i r. (r, r)) (λ r tr w i h. went r tr w h)) (λ y tr w i h. tt)
    where
      went : (r : Result Done) (tr : List Event) (w : World) → NoMember n w × S tr w → IfGoes (λ tr w. S tr w × NoMember n w) r tr w
      went (Goes a) tr w h = (h.1, h.0)
      went (Leaves y) tr w h = tt

  -- a declared object
  pub declared_closes : (cause : Cause) (m : Member) (own : Owner) → Does k (Of m.number) None (Entire k m.number m.ty own) Ever (finalize_object j cause m)
  unfolding finalize_object
  declared_closes cause m own =
      then_do (as_well (widened {E = none} (λ p x. absurd x) (begins m.number (entire_still m.number m.ty own))) (λ tr w i r. r) (λ r tr w i h. h)) (λ a. as_well (begun_closes cause m own) (λ tr w i r. r.0) (λ r tr w i h. tt)) (λ y tr w i h. tt)

  -- Members ------------------------------------------------------------------------------------------

  -- a member whose finalization has not begun
  abbrev pub Stands : Member → World → Type 0
  Stands m w = (o : Object) × Lists o w.objects × (member_of o ≡ m) × (stands o ≡ true)

  -- what is known of it when it is no member any more
  abbrev Taken : Member → List Event → World → Type 0
  Taken m tr w = Whole k m.number m.ty tr × (m.number < w.ledger.next_object) × NoMember m.number w

  -- taken out, and then finalized: nothing but a member is closed
  taken_then : {A : Type 0} {own : Option Owner} {S : List Event → World → Type 0} (x : Member) (m : Act Done) (f : Act A) → ((tr : List Event) (w : World) → S tr w → NoMember x.number w → ⊥) → Does k none None S (IfGoes (Taken x)) m → Does k (Of x.number) None (Taken x) Ever f → Does k none own S Ever (m >> f)
  unfolding ◌>>◌ then_always on_goes given
  taken_then {A} {own} {S} x m f member h g = record { from = λ c l w i r. ends_bind (m c l w) (on_goes (λ a. f)) (h.from c l w i r) (λ z c1 l1 w1 y. go z c1 l1 w1 l w (member l.trace w r) y.0 y.1 y.2) }
    where
      go : (z : Result Done) (c1 : ℕ) (l1 : Log) (w1 : World) (l : Log) (w : World) → (NoMember x.number w → ⊥) → Inv k l1.trace w1 → Moves none None l.trace w l1.trace w1 → IfGoes (Taken x) z l1.trace w1 → Ends (λ r tr v. Inv k tr v × Moves none own l.trace w tr v × Ever r tr v) (on_goes (λ a. f) z c1 l1 w1)
      go (Goes a) c1 l1 w1 l w is i1 moves s = ends_as (f c1 l1 w1) (g.from c1 l1 w1 i1 s) (λ z tr v u. (u.0, member_moves moves u.1 is, tt))
      go (Leaves y) c1 l1 w1 l w is i1 moves s = record { holds = (i1, anywhere none moves, tt) }

  member_known : (m : Member) (tr : List Event) (w : World) → Inv k tr w → Stands m w → Whole k m.number m.ty tr × (m.number < w.ledger.next_object)
  unfolding member_of
  member_known m tr w inv s =
      let o = s.0 in
      let number : o.number ≡ m.number = ap (λ (x : Member). x.number) s.2 in
      let ty : o.ty ≡ m.ty = ap (λ (x : Member). x.ty) s.2 in
      let lt = inv.numbers o s.1 in
      (subst (λ n. Whole k n m.ty tr) number (subst (λ t. Whole k o.number t tr) ty (inv.members o s.1 s.3)), omega arith)

  member_in : (m : Member) (w : World) → Stands m w → NoMember m.number w → ⊥
  unfolding member_of
  member_in m w s out = out s.0 s.1 (ap (λ (x : Member). x.number) s.2) s.3

  member_begins : (m : Member) → Does k none None (λ tr w. Stands m w) (IfGoes (Taken m)) (must_exist m.number >> change (begin_finalization m.number))
  unfolding begin_finalization
  member_begins m = then_do (C.must_does k ask call default calls m.number) (λ a. as_well (changes {P = λ r tr w. Taken m tr w} (edit_begins m.number) (λ tr w i r. let h = member_known m tr w i r in (h.0, h.1, begun_not m.number w))) (λ tr w i r. r) (λ r tr w i h. went r tr w h)) (λ y tr w i h. tt)
    where
      went : (r : Result Done) (tr : List Event) (w : World) → Taken m tr w → IfGoes (Taken m) r tr w
      went (Goes a) tr w h = h
      went (Leaves y) tr w h = tt

  master_no : (n m : ℕ) → Collection n ≡ Master m → ⊥
  master_no n m e = absurd (cc)

  taken_closes : (cause : Cause) (m : Member) → Does k (Of m.number) None (Taken m) Ever (finalize_begun j cause m)
  taken_closes cause m = record {
    from = λ c l w i r. (begun_closes cause m (Collection r.0.collection)).from c l w i (record {
      stead = record { number = r.1; out = r.2; room = λ n e. absurd (master_no _ n e); active = λ n e. absurd (master_no _ n e) };
      lives = r.0.lives;
      unclosed = r.0.unclosed;
    });
  }

  -- a member is taken out, and closed
  pub member_closes : {own : Option Owner} (cause : Cause) (m : Member) → Does k none own (λ tr w. Stands m w) Ever (finalize_object j cause m)
  unfolding finalize_object
  member_closes cause m = taken_then m _ _ (λ tr w r. member_in m w r) (member_begins m) (taken_closes cause m)

  -- Groups ---------------------------------------------------------------------------------------------

  pulled_member : (d : Member) (i : ℕ) (ms : List Member) → Lists (pull_item d i ms) ms ⊎ (pull_item d i ms ≡ d)
  unfolding pull_item
  pulled_member d i [] = inr refl
  pulled_member d zero (m ∷ ms) = inl (inl refl)
  pulled_member d (suc i) (m ∷ ms) = elim (pulled_member d i ms) [ inl h ↦ inl (inr h) | inr e ↦ inr e ]

  pulled_stands : (m : Member) (ms : List Member) (i : ℕ) (w : World) → ((x : Member) → Lists x (m ∷ ms) → Stands x w) → Stands (pull_item m i (m ∷ ms)) w
  pulled_stands m ms i w h = elim (pulled_member m i (m ∷ ms)) [ inl l ↦ h _ l | inr e ↦ subst (λ x. Stands x w) (sym e) (h m (inl refl)) ]

  one_closes : {own : Option Owner} (cause : Cause) (others : Bool → Act Bool) → ((b : Bool) → Does k none own Always Ever (others b)) → (failed : Bool) (ms : List Member) → Does k none own (λ tr w. (x : Member) → Lists x ms → Stands x w) Ever (finalize_one j cause others failed ms)
  unfolding finalize_one
  one_closes cause others h failed [] = gives_done failed (λ tr w i r. tt)
  one_closes cause others h failed (m ∷ ms) =
      seq (chooses ask _) (λ i. seq (as_well (member_closes cause (pull_item m i (m ∷ ms))) (λ tr w inv r. pulled_stands m ms i w r) (λ r tr w inv q. q)) (λ b. as_well (h (failed || b)) (λ tr w inv r. tt) (λ r tr w inv q. tt)) (λ y tr w inv q. tt)) (λ y tr w inv q. tt)

  due_stands : (o : Object) (g : Group) → is_candidate k g o ≡ true → stands o ≡ true
  unfolding is_candidate is_due
  due_stands o g e = go o.joined (is_untouched o.state) (has_controlled k o.ty) (is_of_group g o.origin) e
    where
      go : (a b c d : Bool) → ((a && (b && c)) && d) ≡ true → (a && b) ≡ true
      go true true c d e = refl
      go true false c d e = absurd (cc)
      go false b c d e = absurd (cc)

  candidates_stand : (g : Group) (w : World) (x : Member) → Lists x (candidates_of k g w) → Stands x w
  candidates_stand g w x h = let o = candidate_of k g w x h in (o.0, o.1, o.3, due_stands o.0 g o.2)

  members_close : {own : Option Owner} (cause : Cause) (g : Group) (n : ℕ) (failed : Bool) → Does k none own Always Ever (finalize_members j cause g n failed)
  unfolding finalize_members
  members_close cause g zero failed = record { from = λ c l w i r. record { holds = i.sound } }
  members_close cause g (suc n) failed = record { from = λ c l w i r. (one_closes cause (finalize_members j cause g n) (members_close cause g n) failed (candidates_of k g w)).from c l w i (candidates_stand g w) }

  -- the members of collections or of a subpool
  pub group_closes : {own : Option Owner} (cause : Cause) (g : Group) → Does k none own Always Ever (finalize_group j cause g)
  unfolding finalize_group
  group_closes cause g = record { from = λ c l w i r. (members_close cause g _ false).from c l w i tt }
