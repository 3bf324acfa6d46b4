-- What one more event does to a trace.
use Rattle.std.specs.Prelude.{◌≡◌, ℕ, zero, suc, ◌+◌, ◌<◌, ◌≤◌, List, [], ◌∷◌, ◌++◌, Option, Some, None, Bool, true, false, ◌&&◌, nat_eq, nat_lt, if◌then◌else◌}
use Rattle.std.proofs.Common.{refl, sym, ap, ◌∙◌, arith, append_assoc, append-nil, eq-eqb, eqb-true, le-ltb, ◌⊎◌, inl, inr}
use Rattle.ctl_tree.specs.declared.event.Event.{Event}
use Rattle.ctl_tree.specs.declared.event.Event.TheVariants.{Print, Newline, Initialize, Adjust, Finalize, Allocate, Deallocate, Live}
use Rattle.ctl_tree.specs.declared.event.Owner.{Owner}
use Rattle.ctl_tree.specs.declared.event.Owner.TheVariants.{Master, Collection}
use Rattle.ctl_tree.specs.declared.event.Cause.{Cause}
use Rattle.ctl_tree.specs.declared.event.Part.{Part}
use Rattle.ctl_meaning.specs.Lists.{same_list}
use Rattle.ctl_meaning.specs.Audit.{same_part, is_closing, lives_in, closes_in, opened, closed, named, owner_in, or_else, first_owner, if_of_master, smaller_in, smaller, smaller_before, FlawKind, Flaw, judged, judge_closing, or_flaw, first_closing, or_open, flaw_of, IsOrderly}
use Rattle.ctl_orderly.specs.Law.{FrontsAreOrderly}

-- One part -----------------------------------------------------------------------------

pub same_list_self : (a : List ℕ) → same_list a a ≡ true
unfolding same_list
same_list_self [] = refl
same_list_self (x ∷ a) = ap (λ b. b && same_list a a) (eq-eqb x x refl) ∙ same_list_self a

and_both : (a b : Bool) → (a && b) ≡ true → (a ≡ true) × (b ≡ true)
and_both true b h = (refl, h)
and_both false b h = absurd (cc)

pub same_list_eq : (a b : List ℕ) → same_list a b ≡ true → a ≡ b
unfolding same_list
same_list_eq [] [] h = refl
same_list_eq [] (y ∷ b) h = absurd (cc)
same_list_eq (x ∷ a) [] h = absurd (cc)
same_list_eq (x ∷ a) (y ∷ b) h =
    let both = and_both (nat_eq x y) (same_list a b) h in
    let first = eqb-true x y both.0 in
    let rest = same_list_eq a b both.1 in
    cc (first, rest)

pub same_self : (p : Part) → same_part p p ≡ 1
unfolding same_part
same_self p = ap (λ b. if b then 1 else 0) (ap (λ b. b && same_list p.path p.path) (eq-eqb p.object p.object refl) ∙ same_list_self p.path)

counted_if : (b : Bool) → 0 < (if b then 1 else 0) → b ≡ true
counted_if true h = refl
counted_if false h = absurd (omega arith)

pub same_eq : (p q : Part) → 0 < same_part p q → p ≡ q
unfolding same_part
same_eq p q h =
    let both = and_both (nat_eq p.object q.object) (same_list p.path q.path) (counted_if _ h) in
    let a = eqb-true p.object q.object both.0 in
    let b = same_list_eq p.path q.path both.1 in
    ap (λ n. record { object = n; path = p.path }) a ∙ ap (λ path. record { object = q.object; path = path }) b

-- One more event -------------------------------------------------------------------------

pub opened_snoc : (es : List Event) (e : Event) (p : Part) → opened (es ++ e ∷ []) p ≡ opened es p + lives_in e p
unfolding opened
opened_snoc [] e p = omega arith
opened_snoc (x ∷ es) e p = let h = opened_snoc es e p in omega arith

pub closed_snoc : (es : List Event) (e : Event) (p : Part) → closed (es ++ e ∷ []) p ≡ closed es p + closes_in e p
unfolding closed
closed_snoc [] e p = omega arith
closed_snoc (x ∷ es) e p = let h = closed_snoc es e p in omega arith

or_else_kept : (n rest later : Option Owner) (o : Owner) → (rest ≡ Some o → later ≡ Some o) → or_else n rest ≡ Some o → or_else n later ≡ Some o
unfolding or_else
or_else_kept None rest later o h e = h e
or_else_kept (Some y) rest later o h e = e

-- who owns a part stays
pub owner_kept : (es : List Event) (e : Event) (p : Part) (o : Owner) → first_owner es p ≡ Some o → first_owner (es ++ e ∷ []) p ≡ Some o
unfolding first_owner
owner_kept [] e p o h = absurd (cc)
owner_kept (x ∷ es) e p o h = or_else_kept (owner_in x p) _ _ o (owner_kept es e p o) h

-- a part that is owned after one more event was owned before, or the event names its owner
pub owner_came : (es : List Event) (e : Event) (p : Part) (o : Owner) → first_owner (es ++ e ∷ []) p ≡ Some o → (first_owner es p ≡ Some o) ⊎ (owner_in e p ≡ Some o)
unfolding first_owner or_else
owner_came [] e p o h = inr (alone (owner_in e p) h)
  where
    alone : (n : Option Owner) → or_else n None ≡ Some o → n ≡ Some o
    alone None h = h
    alone (Some y) h = h
owner_came (x ∷ es) e p o h = go (owner_came es e p o) (owner_in x p) h
  where
    go : (first_owner (es ++ e ∷ []) p ≡ Some o → (first_owner es p ≡ Some o) ⊎ (owner_in e p ≡ Some o)) → (n : Option Owner) → or_else n (first_owner (es ++ e ∷ []) p) ≡ Some o → (or_else n (first_owner es p) ≡ Some o) ⊎ (owner_in e p ≡ Some o)
    go rest None h = rest h
    go rest (Some y) h = inl h

owner_first : (es : List Event) (e : Event) (p : Part) (o : Owner) → first_owner es p ≡ None → owner_in e p ≡ Some o → first_owner (es ++ e ∷ []) p ≡ Some o
unfolding first_owner or_else
owner_first [] e p o h i = alone (owner_in e p) i
  where
    alone : (n : Option Owner) → n ≡ Some o → or_else n None ≡ Some o
    alone None h = h
    alone (Some y) h = h
owner_first (x ∷ es) e p o h i = go (λ j. owner_first es e p o j i) (owner_in x p) h
  where
    go : (first_owner es p ≡ None → first_owner (es ++ e ∷ []) p ≡ Some o) → (n : Option Owner) → or_else n (first_owner es p) ≡ None → or_else n (first_owner (es ++ e ∷ []) p) ≡ Some o
    go rest None h = rest h
    go rest (Some y) h = absurd (cc)

-- no part but one of this owner is owned: a part of an object that comes to life is owned by it
pub owner_lives : (es : List Event) (p : Part) (o : Owner) → ((other : Owner) → first_owner es p ≡ Some other → other ≡ o) → first_owner (es ++ Live p o ∷ []) p ≡ Some o
unfolding owner_in named
owner_lives es p o mine = go (first_owner es p) refl
  where
    names_it : owner_in (Live p o) p ≡ Some o
    names_it = ap (λ n. named n o) (same_self p)

    go : (n : Option Owner) → first_owner es p ≡ n → first_owner (es ++ Live p o ∷ []) p ≡ Some o
    go None e = owner_first es (Live p o) p o e names_it
    go (Some y) e = owner_kept es (Live p o) p o (e ∙ ap (λ z. Some z) (mine y e))

named_at : (n : ℕ) (o y : Owner) → named n o ≡ Some y → (0 < n) × (o ≡ y)
unfolding named
named_at zero o y h = absurd (cc)
named_at (suc n) o y h = (omega arith, cc h)

-- the part and the owner that a Live names
pub live_names : (q p : Part) (own o : Owner) → owner_in (Live q own) p ≡ Some o → (q ≡ p) × (own ≡ o)
unfolding owner_in
live_names q p own o h = let n = named_at (same_part q p) own o h in (same_eq q p n.0, n.1)

in_opened : (e : Event) (p : Part) (o : Owner) → owner_in e p ≡ Some o → 0 < lives_in e p
unfolding owner_in lives_in
in_opened (Live q own) p o h = (named_at (same_part q p) own o h).0
in_opened (Print v) p o h = absurd (cc)
in_opened Newline p o h = absurd (cc)
in_opened (Initialize q) p o h = absurd (cc)
in_opened (Adjust q) p o h = absurd (cc)
in_opened (Finalize q cause) p o h = absurd (cc)
in_opened (Allocate m n) p o h = absurd (cc)
in_opened (Deallocate m n) p o h = absurd (cc)

-- a part with an owner came to life
pub owner_opened : (es : List Event) (p : Part) (o : Owner) → first_owner es p ≡ Some o → 0 < opened es p
unfolding first_owner opened or_else
owner_opened [] p o h = absurd (cc)
owner_opened (x ∷ es) p o h = go (owner_opened es p o) (owner_in x p) refl h
  where
    go : (first_owner es p ≡ Some o → 0 < opened es p) → (n : Option Owner) → owner_in x p ≡ n → or_else n (first_owner es p) ≡ Some o → 0 < lives_in x p + opened es p
    go rest None e h = let a = rest h in omega arith
    go rest (Some y) e h = let a = in_opened x p y e in omega arith

-- Flaws -----------------------------------------------------------------------------------

or_flaw_none : (c : Option FlawKind) (i : ℕ) (later : Option Flaw) → or_flaw c i later ≡ None → (c ≡ None) × (later ≡ None)
unfolding or_flaw
or_flaw_none None i later h = (refl, h)
or_flaw_none (Some k) i later h = absurd (cc)

no_flaw_from : (c : Option FlawKind) (i : ℕ) (later : Option Flaw) → c ≡ None → later ≡ None → or_flaw c i later ≡ None
unfolding or_flaw
no_flaw_from None i later e f = f
no_flaw_from (Some k) i later e f = absurd (cc)

-- a trace without a flaw, and then an event that is none
pub sound_snoc : (before es : List Event) (i : ℕ) (e : Event) → first_closing before i es ≡ None → judge_closing (before ++ es) e ≡ None → first_closing before i (es ++ e ∷ []) ≡ None
unfolding first_closing
sound_snoc before [] i e h j = no_flaw_from (judge_closing before e) i None (ap (λ b. judge_closing b e) (sym (append-nil before)) ∙ j) refl
sound_snoc before (x ∷ es) i e h j =
    let both = or_flaw_none (judge_closing before x) i (first_closing (before ++ x ∷ []) (suc i) es) h in
    no_flaw_from (judge_closing before x) i (first_closing (before ++ x ∷ []) (suc i) (es ++ e ∷ [])) both.0 (sound_snoc (before ++ x ∷ []) es (suc i) e both.1 (ap (λ b. judge_closing b e) (append_assoc before (x ∷ []) es) ∙ j))

-- no part of this master was closed whose object is below this one
abbrev pub Room : List Event → ℕ → ℕ → Type 0
Room tr m n = (q : Part) → first_owner tr q ≡ Some (Master m) → q.object < n → closed tr q ≡ 0

if_none : (o : Option Owner) (m x : ℕ) → (o ≡ Some (Master m) → x ≡ 0) → if_of_master o m x ≡ 0
unfolding if_of_master
if_none None m x h = refl
if_none (Some (Collection c)) m x h = refl
if_none (Some (Master k)) m x h = go (nat_eq k m) refl
  where
    go : (b : Bool) → nat_eq k m ≡ b → (if b then x else 0) ≡ 0
    go true e = h (ap (λ j. Some (Master j)) (eqb-true k m e))
    go false e = refl

abbrev one_if : Bool → ℕ
one_if b = if b then 1 else 0

less_zero : (k n : ℕ) → (k < n → ⊥) → one_if (nat_lt k n) ≡ 0
less_zero k n h = ap one_if (le-ltb k n (omega arith))

smaller_none : (tr : List Event) (m n : ℕ) → Room tr m n → (es : List Event) → ((q : Part) → closed es q ≤ closed tr q) → smaller tr m n es ≡ 0
unfolding smaller smaller_in closed closes_in
smaller_none tr m n room [] within = refl
smaller_none tr m n room (e ∷ es) within =
    let rest : smaller tr m n es ≡ 0 = smaller_none tr m n room es (λ q. less e q (within q)) in
    let first : smaller_in tr m n e ≡ 0 = here e within in
    omega arith
  where
    less : (e : Event) (q : Part) → closed (e ∷ es) q ≤ closed tr q → closed es q ≤ closed tr q
    less e q h = omega arith

    closing : (b : Bool) (q : Part) → (if b then same_part q q else 0) + closed es q ≤ closed tr q → (if b then if_of_master (first_owner tr q) m (if nat_lt q.object n then 1 else 0) else 0) ≡ 0
    closing true q h =
        if_none (first_owner tr q) m _ (λ o. less_zero q.object n (λ lt. let none = room q o lt in let s = same_self q in omega arith))
    closing false q h = refl

    here : (e : Event) → ((q : Part) → closed (e ∷ es) q ≤ closed tr q) → smaller_in tr m n e ≡ 0
    here (Print v) h = refl
    here Newline h = refl
    here (Initialize q) h = refl
    here (Adjust q) h = refl
    here (Finalize q cause) h = closing (is_closing cause) q (h q)
    here (Allocate i j) h = refl
    here (Deallocate i j) h = refl
    here (Live q o) h = refl

judged_none : (a b c : ℕ) → 0 < a → b ≡ 0 → c ≡ 0 → judged a b c ≡ None
unfolding judged
judged_none zero b c h e f = absurd (omega arith)
judged_none (suc a) zero zero h e f = refl
judged_none (suc a) zero (suc c) h e f = absurd (omega arith)
judged_none (suc a) (suc b) c h e f = absurd (omega arith)

before_none : (tr : List Event) (n : ℕ) (own : Owner) → ((m : ℕ) → own ≡ Master m → Room tr m n) → smaller_before tr (Some own) n ≡ 0
unfolding smaller_before
before_none tr n (Master m) room = smaller_none tr m n (room m refl) tr (λ q. omega arith)
before_none tr n (Collection c) room = refl

-- a closing of a part that lives, where no part of an older object of its master was closed
pub closing_none : (tr : List Event) (p : Part) (cause : Cause) (own : Owner) → first_owner tr p ≡ Some own → closed tr p ≡ 0 → ((m : ℕ) → own ≡ Master m → Room tr m p.object) → judge_closing tr (Finalize p cause) ≡ None
unfolding judge_closing
closing_none tr p cause own o none room = go (is_closing cause)
  where
    go : (b : Bool) → (if b then judged (opened tr p) (closed tr p) (smaller_before tr (first_owner tr p) p.object) else None) ≡ None
    go true = judged_none _ _ _ (owner_opened tr p own o) none (ap (λ x. smaller_before tr x p.object) o ∙ before_none tr p.object own room)
    go false = refl

-- Fronts -----------------------------------------------------------------------------------

pub front_sound : (before shown rest : List Event) (i : ℕ) → first_closing before i (shown ++ rest) ≡ None → first_closing before i shown ≡ None
unfolding first_closing
front_sound before [] rest i h = refl
front_sound before (x ∷ shown) rest i h =
    let both = or_flaw_none (judge_closing before x) i (first_closing (before ++ x ∷ []) (suc i) (shown ++ rest)) h in
    no_flaw_from (judge_closing before x) i (first_closing (before ++ x ∷ []) (suc i) shown) both.0 (front_sound (before ++ x ∷ []) shown rest (suc i) both.1)

closings_sound : (c : Option Flaw) (ended : Bool) (es : List Event) → or_open c ended es ≡ None → c ≡ None
unfolding or_open
closings_sound None ended es h = refl
closings_sound (Some flaw) ended es h = absurd (cc)

-- a trace whose closings have no flaw is orderly as far as it goes
pub orderly_by : (es : List Event) → first_closing [] 0 es ≡ None → IsOrderly es false
unfolding flaw_of or_open
orderly_by es sound = ap (λ x. or_open x false es) sound

pub fronts_are_orderly : FrontsAreOrderly
unfolding flaw_of
fronts_are_orderly = record { front = λ shown rest ended h. orderly_by shown (front_sound [] shown rest 0 (closings_sound _ ended (shown ++ rest) h)) }
