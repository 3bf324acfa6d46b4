-- How many members are still to be finalized: no change adds one but a member's joining, and a finalization that begins takes one.
use Rattle.std.proofs.Common.{◌≡◌, refl, sym, ap, subst, arith, inl, inr, eq-eqb, ◌⊎◌, ℕ, zero, suc, ◌<◌, ◌≤◌, List, [], ◌∷◌, ◌++◌, length, map, Bool, true, false, ◌&&◌, ◌||◌, nat_eq, if◌then◌else◌}
use Rattle.ctl_meaning.specs.World.{Allocated, Place, Standard, InBlock, InSubpool, State, Finalized, Object, Member, World}
use Rattle.ctl_meaning.specs.Lists.{keep, any_of, change_each, change_first, pull_item}
use Rattle.ctl_meaning.specs.Objects.{change_in, with_cells, with_begun, with_joined, with_finalized, is_untouched}
use Rattle.ctl_meaning.specs.Types.{Tables}
use Rattle.ctl_meaning.specs.Members.{Group, is_of_group, member_of, is_due, is_candidate, candidates_of}
use Rattle.ctl_meaning.specs.Changes.{take_object_number, new_object, create, create_at, put_into, write_cells, forget, forget_all, open_master, close_master, add_layer, take_layer, set_slot, set_value, add_collection, start_collections, join, begin_finalization, end_finalization, in_pools, close_pool_at, empty_subpool}
use Rattle.ctl_meaning.proofs.Relation.{Edit, numbers, creates, creates_at, writes, forgets, opens, closes, layers, takes, sets, assigns, gathers, starts, begins, ends, stores, shuts, empties}

-- Fewer ---------------------------------------------------------------------------------

kept_if : {A : Type 0} (b : Bool) (x : A) (xs ys : List A) → length xs ≤ length ys → length (if b then x ∷ xs else xs) ≤ length (if b then x ∷ ys else ys)
kept_if true x xs ys h = omega arith
kept_if false x xs ys h = h

more_if : {A : Type 0} (b : Bool) (x : A) (xs ys : List A) → length xs ≤ length ys → length xs ≤ length (if b then x ∷ ys else ys)
more_if true x xs ys h = omega arith
more_if false x xs ys h = h

dropped_if : {A : Type 0} (p : A → Bool) (b : Bool) (x : A) (xs ys : List A) → length (keep p xs) ≤ length (keep p ys) → length (keep p (if b then x ∷ xs else xs)) ≤ length (if p x then x ∷ keep p ys else keep p ys)
unfolding keep
dropped_if p true x xs ys h = kept_if (p x) x (keep p xs) (keep p ys) h
dropped_if p false x xs ys h = more_if (p x) x (keep p xs) (keep p ys) h

-- what is left out is not counted
keeps_fewer : {A : Type 0} (p q : A → Bool) (xs : List A) → length (keep p (keep q xs)) ≤ length (keep p xs)
unfolding keep
keeps_fewer p q [] = omega arith
keeps_fewer p q (x ∷ xs) = dropped_if p (q x) x (keep q xs) xs (keeps_fewer p q xs)

replaced_if : {A : Type 0} (a b : Bool) (x y : A) (xs ys : List A) → (a ≡ true → b ≡ true) → length xs ≤ length ys → length (if a then x ∷ xs else xs) ≤ length (if b then y ∷ ys else ys)
replaced_if true true x y xs ys e h = omega arith
replaced_if true false x y xs ys e h = absurd (cc (e refl))
replaced_if false b x y xs ys e h = more_if b y xs ys h

changed_if : {A : Type 0} (p : A → Bool) (f : A → A) (b : Bool) (x : A) (xs ys : List A) → (p (f x) ≡ true → p x ≡ true) → length xs ≤ length ys → length (if p (if b then f x else x) then (if b then f x else x) ∷ xs else xs) ≤ length (if p x then x ∷ ys else ys)
changed_if p f true x xs ys e h = replaced_if (p (f x)) (p x) (f x) x xs ys e h
changed_if p f false x xs ys e h = kept_if (p x) x xs ys h

-- a change that makes none due adds none
changes_fewer : {A : Type 0} (p q : A → Bool) (f : A → A) (xs : List A) → ((x : A) → p (f x) ≡ true → p x ≡ true) → length (keep p (change_each q f xs)) ≤ length (keep p xs)
unfolding keep change_each
changes_fewer p q f [] e = omega arith
changes_fewer p q f (x ∷ xs) e = changed_if p f (q x) x (keep p (change_each q f xs)) (keep p xs) (e x) (changes_fewer p q f xs e)

behind_if : {A : Type 0} (b : Bool) (x : A) (xs ys : List A) → length xs ≤ length ys → length (if b then x ∷ xs else xs) ≤ length (if b then x ∷ ys else ys)
behind_if = kept_if

-- one that is not due, behind the others, is not counted
behind : {A : Type 0} (p : A → Bool) (xs : List A) (y : A) → p y ≡ false → length (keep p (xs ++ y ∷ [])) ≤ length (keep p xs)
unfolding keep
behind p [] y e = subst (λ b. length (if b then y ∷ [] else []) ≤ 0) (sym e) (omega arith)
behind p (x ∷ xs) y e = behind_if (p x) x (keep p (xs ++ y ∷ [])) (keep p xs) (behind p xs y e)

at_most : (a b c : ℕ) → a ≤ b → b ≤ c → a ≤ c
at_most a b c h i = omega arith

module _ (t : Tables) where
  abbrev pub count : World → ℕ
  count w = length (keep (is_due t) w.objects)

  and_false : {A : Type 0} (a : Bool) → (a && false) ≡ true → A
  and_false true e = absurd (cc)
  and_false false e = absurd (cc)

  cells_due : (offset : ℕ) (v : List ℕ) (o : Object) → is_due t (with_cells offset v o) ≡ true → is_due t o ≡ true
  unfolding is_due with_cells
  cells_due offset v o e = e

  begun_due : (o : Object) → is_due t (with_begun o) ≡ true → is_due t o ≡ true
  unfolding is_due with_begun is_untouched
  begun_due o e = and_false o.joined e

  finalized_if : (b : Bool) (s : State) (o : Object) → o.state ≡ s → is_untouched s ≡ b → is_due t (if b then o else record o { state = Finalized }) ≡ true → is_due t o ≡ true
  unfolding is_due is_untouched
  finalized_if true s o i j e = e
  finalized_if false s o i j e = and_false o.joined e

  finalized_due : (o : Object) → is_due t (with_finalized o) ≡ true → is_due t o ≡ true
  unfolding with_finalized
  finalized_due o e = finalized_if (is_untouched o.state) o.state o refl refl e

  creates_count : (ty : _) (cells : List ℕ) (origin : _) (w : World) → count (create ty cells origin w) ≤ count w
  unfolding create new_object is_due
  creates_count ty cells origin w = behind (is_due t) w.objects _ refl

  puts_count : (p : Place) (n : ℕ) (w : World) → count (put_into p n w) ≤ count w
  unfolding put_into in_pools
  puts_count Standard n w = omega arith
  puts_count (InBlock p a) n w = omega arith
  puts_count (InSubpool s) n w = omega arith

  -- no change adds one
  pub edits_count : {f : World → World} → Edit f → (w : World) → count (f w) ≤ count w
  unfolding take_object_number create_at write_cells forget forget_all open_master close_master add_layer take_layer set_slot set_value add_collection start_collections begin_finalization end_finalization in_pools close_pool_at empty_subpool change_in
  edits_count numbers w = omega arith
  edits_count (creates ty cells origin) w = creates_count ty cells origin w
  edits_count (creates_at ty cells set place) w = at_most _ _ _ (puts_count place w.ledger.next_object (create ty cells (Allocated set place) w)) (creates_count ty cells (Allocated set place) w)
  edits_count (writes n offset v) w = changes_fewer (is_due t) _ _ w.objects (cells_due offset v)
  edits_count (forgets n) w = keeps_fewer (is_due t) _ w.objects
  edits_count (opens display slots) w = omega arith
  edits_count (closes n) w = keeps_fewer (is_due t) _ w.objects
  edits_count (layers n x) w = omega arith
  edits_count (takes n) w = omega arith
  edits_count (sets n i x) w = omega arith
  edits_count (assigns n i x) w = omega arith
  edits_count (gathers n i x) w = omega arith
  edits_count (starts xs) w = omega arith
  edits_count (begins n) w = changes_fewer (is_due t) _ _ w.objects begun_due
  edits_count (ends n) w = changes_fewer (is_due t) _ _ w.objects finalized_due
  edits_count (stores f) w = omega arith
  edits_count (shuts n) w = keeps_fewer (is_due t) _ w.objects
  edits_count (empties n) w = keeps_fewer (is_due t) _ w.objects

  -- One more --------------------------------------------------------------------------------

  one_if : (a b : Bool) (x y : Object) (xs : List Object) → length (if a then x ∷ xs else xs) ≤ suc (length (if b then y ∷ xs else xs))
  one_if true true x y xs = omega arith
  one_if true false x y xs = omega arith
  one_if false true x y xs = omega arith
  one_if false false x y xs = omega arith

  same_if : (a : Bool) (x : Object) (xs ys : List Object) → length xs ≤ suc (length ys) → length (if a then x ∷ xs else xs) ≤ suc (length (if a then x ∷ ys else ys))
  same_if true x xs ys h = omega arith
  same_if false x xs ys h = h

  first_if : (b : Bool) (f : Object → Object) (x : Object) (changed xs : List Object) → length (keep (is_due t) changed) ≤ suc (length (keep (is_due t) xs)) → length (keep (is_due t) (if b then f x ∷ xs else x ∷ changed)) ≤ suc (length (if is_due t x then x ∷ keep (is_due t) xs else keep (is_due t) xs))
  unfolding keep
  first_if true f x changed xs h = one_if (is_due t (f x)) (is_due t x) (f x) x (keep (is_due t) xs)
  first_if false f x changed xs h = same_if (is_due t x) x (keep (is_due t) changed) (keep (is_due t) xs) h

  changes_one : (q : Object → Bool) (f : Object → Object) (xs : List Object) → length (keep (is_due t) (change_first q f xs)) ≤ suc (length (keep (is_due t) xs))
  unfolding keep change_first
  changes_one q f [] = omega arith
  changes_one q f (x ∷ xs) = first_if (q x) f x (change_first q f xs) xs (changes_one q f xs)

  -- a member's joining adds one at most
  pub joins_count : (n : ℕ) (w : World) → count (join n w) ≤ suc (count w)
  unfolding join
  joins_count n w = changes_one _ with_joined w.objects

  -- One less --------------------------------------------------------------------------------

  abbrev pub named : ℕ → Member → Bool
  named n m = nat_eq m.number n

  -- an object of this number is a member that is due
  abbrev pub due_as : ℕ → Object → Bool
  due_as n o = is_due t o && nat_eq o.number n

  never : {A : Type 0} → false ≡ true → A
  never e = absurd (cc)

  begun_not : (o : Object) → is_due t (with_begun o) ≡ false
  unfolding is_due with_begun is_untouched
  begun_not o = elim o.joined as (λ b. (b && false) ≡ false) [ true ↦ refl | false ↦ refl ]

  less_if : (d b more : Bool) (x y : Object) (changed xs : List Object) → ((d && b) || more) ≡ true → is_due t y ≡ false → is_due t x ≡ d → (more ≡ true → length changed < length xs) → length changed ≤ length xs → length (if is_due t (if b then y else x) then (if b then y else x) ∷ changed else changed) < length (if is_due t x then x ∷ xs else xs)
  less_if true true more x y changed xs e i j h l = subst (λ b. length (if is_due t y then y ∷ changed else changed) < length (if b then x ∷ xs else xs)) (sym j) (subst (λ b. length (if b then y ∷ changed else changed) < suc (length xs)) (sym i) (omega arith))
  less_if true false more x y changed xs e i j h l = let m = h e in subst (λ b. length (if b then x ∷ changed else changed) < length (if b then x ∷ xs else xs)) (sym j) (omega arith)
  less_if false true more x y changed xs e i j h l = let m = h e in subst (λ b. length (if is_due t y then y ∷ changed else changed) < length (if b then x ∷ xs else xs)) (sym j) (subst (λ b. length (if b then y ∷ changed else changed) < length xs) (sym i) m)
  less_if false false more x y changed xs e i j h l = let m = h e in subst (λ b. length (if b then x ∷ changed else changed) < length (if b then x ∷ xs else xs)) (sym j) m

  begins_less : (n : ℕ) (xs : List Object) → any_of (due_as n) xs ≡ true → length (keep (is_due t) (change_each (λ o. nat_eq o.number n) with_begun xs)) < length (keep (is_due t) xs)
  unfolding keep change_each any_of
  begins_less n [] e = never e
  begins_less n (x ∷ xs) e = less_if (is_due t x) (nat_eq x.number n) (any_of (due_as n) xs) x (with_begun x) _ (keep (is_due t) xs) e (begun_not x) refl (begins_less n xs) (changes_fewer (is_due t) _ with_begun xs begun_due)

  -- the finalization of a member that is due begins: one less
  pub begins_count : (n : ℕ) (w : World) → any_of (due_as n) w.objects ≡ true → count (begin_finalization n w) < count w
  unfolding begin_finalization change_in
  begins_count n w e = begins_less n w.objects e

  -- Candidates are due ------------------------------------------------------------------------

  among_if : (g : Group) (n : ℕ) (b : Bool) (o : Object) (ms : List Object) (os : List Object) → is_candidate t g o ≡ b → (any_of (named n) (map member_of ms) ≡ true → any_of (due_as n) os ≡ true) → any_of (named n) (map member_of (if b then o ∷ ms else ms)) ≡ true → (due_as n o || any_of (due_as n) os) ≡ true
  unfolding any_of member_of is_candidate
  among_if g n true o ms os i h e = due_or (is_due t o) (is_of_group g o.origin) (nat_eq o.number n) _ _ i e h
    where
      due_or : (d k m more others : Bool) → (d && k) ≡ true → (m || more) ≡ true → (more ≡ true → others ≡ true) → ((d && m) || others) ≡ true
      due_or true k true more others i e h = refl
      due_or true k false more others i e h = h e
      due_or false k m more others i e h = never i
  among_if g n false o ms os i h e = later (due_as n o) (any_of (due_as n) os) (h e)
    where
      later : (a c : Bool) → c ≡ true → (a || c) ≡ true
      later true c e = refl
      later false c e = e

  among : (g : Group) (n : ℕ) (os : List Object) → any_of (named n) (map member_of (keep (is_candidate t g) os)) ≡ true → any_of (due_as n) os ≡ true
  unfolding any_of keep
  among g n [] e = never e
  among g n (o ∷ os) e = among_if g n (is_candidate t g o) o (keep (is_candidate t g) os) os refl (among g n os) e

  pub group_members : (g : Group) (w : World) (n : ℕ) → any_of (named n) (candidates_of t g w) ≡ true → any_of (due_as n) w.objects ≡ true
  unfolding candidates_of
  group_members g w n e = among g n w.objects e

same_number : (n : ℕ) → nat_eq n n ≡ true
same_number n = eq-eqb n n refl

or_later : (a c : Bool) → c ≡ true → (a || c) ≡ true
or_later true c e = refl
or_later false c e = e

abbrev has_number : ℕ → Member → Bool
has_number n m = nat_eq m.number n

pulled : (d : Member) (i : ℕ) (xs : List Member) → (pull_item d i xs ≡ d) ⊎ (any_of (has_number (pull_item d i xs).number) xs ≡ true)
unfolding pull_item any_of
pulled d i [] = inl refl
pulled d zero (x ∷ xs) = inr (ap (λ b. b || any_of (has_number x.number) xs) (same_number x.number))
pulled d (suc i) (x ∷ xs) = elim (pulled d i xs) [ inl e ↦ inl e | inr e ↦ inr (or_later (nat_eq x.number (pull_item d i xs).number) _ e) ]

-- whatever is pulled out of a list, with its first as default, is in the list
pub pulled_among : (m : Member) (ms : List Member) (i : ℕ) → any_of (has_number (pull_item m i (m ∷ ms)).number) (m ∷ ms) ≡ true
unfolding any_of
pulled_among m ms i = elim (pulled m i (m ∷ ms)) [ inl e ↦ subst (λ x. (has_number x.number m || any_of (has_number x.number) ms) ≡ true) (sym e) (ap (λ b. b || any_of (has_number m.number) ms) (same_number m.number)) | inr e ↦ e ]
