-- Objects that are listed for their collections, and no others: what is listed first, and how the list changes.
use Rattle.std.proofs.Common.{◌≡◌, ◌∙◌, ℕ, ◌<◌, List, [], ◌∷◌, ◌++◌, Option, Some, None, Bool, true, false, cond, refl, sym, ap, arith, subst, length}
use Rattle.std.specs.Prelude.{nat_eq, not, IfSome, ◌&&◌, ◌||◌}
use Rattle.std.specs.Option.{option_map, option_map_or, option_or}
use Rattle.std.proofs.lemmas.Bool.Decides.{nat_tests}
use borrow.Author.Tests.{eqb-true}
use Rattle.ctl_meaning.specs.World.{Origin, Declared, Allocated, Place, Object}
use Rattle.ctl_meaning.specs.Lists.{contains, keep, opened_lists}
use Rattle.ctl_meaning.specs.Objects.{change_in, ends_with_master, is_of_set, object_in, opened_objects}
use Rattle.ctl_objects.specs.Order.{IsAllocated}
use Rattle.ctl_storage.specs.Order.{AreBelow, Rise}
use Rattle.owned_numbers.specs.Owned.{OwnsAs, Owned, owns}
use Rattle.ctl_objects.specs.Sets.{AreListed, is_of_sets}
use Rattle.ctl_storage.specs.Allocated.{is_member}
use Rattle.ctl_storage.proofs.Kept.{no_more}
use Rattle.ctl_storage.proofs.Rising.{KeepsNumbers, in_change, in_keep, in_more, in_newest, in_none, keep_more, keep_none, kept_one, none_above, number_found, rise_change, rise_keep, rise_newest, same_objects}

-- Objects that are listed ----------------------------------------------------------------------------------

-- a collection has no object
pub no_member : (os : List Object) (s : Owned) (set : ℕ) → AreListed os s → ((n : ℕ) → owns set n s ≡ false) → (n : ℕ) → is_member set n os ≡ false
no_member os s set h none n = sym (h.members set n) ∙ none n

listed_none : (s : Owned) → ((p n : ℕ) → owns p n s ≡ false) → AreListed [] s
listed_none s none = record {
  rise = tt;
  allocated = λ n. subst (λ o. IfSome o (λ z. IsAllocated z.origin)) (sym (in_none n)) tt;
  members = λ set n. none set n ∙ sym (ap (λ o. option_map_or (λ (z : Object). is_of_set set z.origin) o false) (in_none n));
}

pub none_listed : (os : List Object) (s : Owned) → os ≡ [] → ((p n : ℕ) → owns p n s ≡ false) → AreListed os s
none_listed os s empty none = subst (λ l. AreListed l s) (sym empty) (listed_none s none)

pub listed_new : (os : List Object) (s t : Owned) (x : Object) (set : ℕ) (p : Place) → AreBelow x.number os → x.origin ≡ Allocated set p → OwnsAs true set x.number s t → AreListed os s → AreListed (os ++ x ∷ []) t
unfolding opened_objects
listed_new os s t x set p below origin listed h = record {
  rise = rise_newest 0 os x h.rise below (omega arith);
  allocated = λ n. subst (λ o. IfSome o (λ z. IsAllocated z.origin)) (sym (in_newest n os x)) (own n (nat_eq x.number n) (object_in n os) (h.allocated n));
  members = λ c k. listed c k ∙ (ap (λ b. cond (nat_eq set c && nat_eq x.number k) true b) (h.members c k)
      ∙ (by c k (nat_eq x.number k) refl (nat_eq set c) refl ∙ sym (ap (λ o. option_map_or (λ (z : Object). is_of_set c z.origin) o false) (in_newest k os x))));
}
  where
    own : (n : ℕ) (b : Bool) (o : Option Object) → IfSome o (λ z. IsAllocated z.origin) → IfSome (option_or o (cond b (Some x) None)) (λ z. IsAllocated z.origin)
    own n b (Some z) i = i
    own n true None i = subst (λ y. IsAllocated y) (sym origin) tt
    own n false None i = tt

    test : Option Object → ℕ → Bool
    test o c = option_map_or (λ (z : Object). is_of_set c z.origin) o false

    or_none : (o : Option Object) (c : ℕ) → test o c ≡ test (option_or o None) c
    or_none None c = refl
    or_none (Some z) c = refl

    other : (b : Bool) (c k : ℕ) → cond (b && false) true (is_member c k os) ≡ is_member c k os
    other true c k = refl
    other false c k = refl

    newest : (b : Bool) (c : ℕ) → nat_eq set c ≡ b → cond (b && true) true (test None c) ≡ is_of_set c x.origin
    newest true c is = sym (ap (λ y. is_of_set c y) origin ∙ is)
    newest false c is = sym (ap (λ y. is_of_set c y) origin ∙ is)

    by : (c k : ℕ) (a : Bool) → nat_eq x.number k ≡ a → (b : Bool) → nat_eq set c ≡ b → cond (nat_eq set c && nat_eq x.number k) true (is_member c k os) ≡ test (option_or (object_in k os) (cond (nat_eq x.number k) (Some x) None)) c
    by c k false is b which =
        ap (λ a. cond (nat_eq set c && a) true (is_member c k os)) is ∙ (other (nat_eq set c) c k
        ∙ (or_none (object_in k os) c ∙ sym (ap (λ a. test (option_or (object_in k os) (cond a (Some x) None)) c) is)))
    by c k true is b which =
        let none : object_in k os ≡ None = ap (λ m. object_in m os) (sym (eqb-true x.number k is)) ∙ none_above x.number os below in
        ap (λ a. cond (nat_eq set c && a) true (is_member c k os)) is
        ∙ (ap (λ o. cond (nat_eq set c && true) true (test o c)) none
        ∙ (newest (nat_eq set c) c refl
        ∙ sym (ap (λ o. test (option_or o (cond (nat_eq x.number k) (Some x) None)) c) none ∙ ap (λ a. test (option_or None (cond a (Some x) None)) c) is)))

-- an object that was listed first is not there in the end
pub listed_undone : (os : List Object) (s t u : Owned) (set n : ℕ) → AreBelow n os → OwnsAs true set n s t → OwnsAs false set n t u → AreListed os s → AreListed os u
listed_undone os s t u set n below listed undone h = record {
  rise = h.rise;
  allocated = h.allocated;
  members = λ c k. undone c k ∙ (ap (λ b. cond (nat_eq set c && nat_eq n k) false b) (listed c k) ∙ (by c k (nat_eq n k) refl (nat_eq set c) ∙ h.members c k));
}
  where
    gone : (c k : ℕ) → nat_eq n k ≡ true → false ≡ owns c k s
    gone c k is =
        let none : object_in k os ≡ None = ap (λ m. object_in m os) (sym (eqb-true n k is)) ∙ none_above n os below in
        sym (h.members c k ∙ ap (λ o. option_map_or (λ (z : Object). is_of_set c z.origin) o false) none)

    by : (c k : ℕ) (a : Bool) → nat_eq n k ≡ a → (b : Bool) → cond (b && nat_eq n k) false (cond (b && nat_eq n k) true (owns c k s)) ≡ owns c k s
    by c k a is false = refl
    by c k true is true = ap (λ a. cond a false (cond a true (owns c k s))) is ∙ gone c k is
    by c k false is true = ap (λ a. cond a false (cond a true (owns c k s))) is

pub listed_changed : (os : List Object) (s : Owned) (n : ℕ) (f : Object → Object) → KeepsNumbers f → ((o : Object) → (f o).origin ≡ o.origin) → AreListed os s → AreListed (change_in n f os) s
listed_changed os s n f numbers origins h = record {
  rise = rise_change n f numbers 0 os h.rise;
  allocated = λ k. subst (λ o. IfSome o (λ z. IsAllocated z.origin)) (sym (in_change n f numbers k os)) (own (nat_eq k n) (object_in k os) (h.allocated k));
  members = λ c k. h.members c k ∙ (by c (nat_eq k n) (object_in k os) ∙ sym (ap (λ o. option_map_or (λ (z : Object). is_of_set c z.origin) o false) (in_change n f numbers k os)));
}
  where
    own : (b : Bool) (o : Option Object) → IfSome o (λ z. IsAllocated z.origin) → IfSome (cond b (option_map f o) o) (λ z. IsAllocated z.origin)
    own false o i = i
    own true None i = i
    own true (Some z) i = subst (λ x. IsAllocated x) (sym (origins z)) i

    by : (c : ℕ) (b : Bool) (o : Option Object) → option_map_or (λ (z : Object). is_of_set c z.origin) o false ≡ option_map_or (λ (z : Object). is_of_set c z.origin) (cond b (option_map f o) o) false
    by c false o = refl
    by c true None = refl
    by c true (Some z) = ap (λ x. is_of_set c x) (sym (origins z))

-- nothing is listed any more for a number
abbrev IsDropped : ℕ → Owned → Owned → Type 0
IsDropped n s t = (c k : ℕ) → owns c k t ≡ cond (nat_eq n k) false (owns c k s)

listed_dropped : (os : List Object) (s t : Owned) (n : ℕ) → IsDropped n s t → AreListed os s → AreListed (keep (λ o. not (nat_eq o.number n)) os) t
listed_dropped os s t n dropped h = record {
  rise = rise_keep other 0 os h.rise;
  allocated = λ k. subst (λ o. IfSome o (λ z. IsAllocated z.origin)) (sym (in_keep other 0 k os h.rise)) (own (object_in k os) (h.allocated k));
  members = λ c k. dropped c k ∙ (ap (λ b. cond (nat_eq n k) false b) (h.members c k)
      ∙ (by c k (object_in k os) refl ∙ sym (ap (λ o. option_map_or (λ (z : Object). is_of_set c z.origin) o false) (in_keep other 0 k os h.rise))));
}
  where
    other : Object → Bool
    other o = not (nat_eq o.number n)

    one : (z : Object) (b : Bool) → IsAllocated z.origin → IfSome (cond b (Some z) None) (λ x. IsAllocated x.origin)
    one z true i = i
    one z false i = tt

    own : (o : Option Object) → IfSome o (λ z. IsAllocated z.origin) → IfSome (kept_one other o) (λ z. IsAllocated z.origin)
    own None i = tt
    own (Some z) i = one z (other z) i

    none : (b : Bool) → cond b false false ≡ false
    none true = refl
    none false = refl

    at : (c k : ℕ) (z : Object) (b : Bool) → cond b false (is_of_set c z.origin) ≡ option_map_or (λ (x : Object). is_of_set c x.origin) (cond (not b) (Some z) None) false
    at c k z true = refl
    at c k z false = refl

    turned : (k : ℕ) (z : Object) → z.number ≡ k → nat_eq n k ≡ nat_eq z.number n
    turned k z same = grind (arith, nat_tests, same)

    by : (c k : ℕ) (o : Option Object) → object_in k os ≡ o
        → cond (nat_eq n k) false (option_map_or (λ (z : Object). is_of_set c z.origin) o false) ≡ option_map_or (λ (z : Object). is_of_set c z.origin) (kept_one other o) false
    by c k None there = none (nat_eq n k)
    by c k (Some z) there = ap (λ b. cond b false (is_of_set c z.origin)) (turned k z (number_found k os z there)) ∙ at c k z (nat_eq z.number n)

-- an object goes, and is not listed for its collection any more
pub listed_without : (os : List Object) (s t : Owned) (set n : ℕ) → ((c : ℕ) → is_member c n os ≡ nat_eq set c) → OwnsAs false set n s t → AreListed os s → AreListed (keep (λ o. not (nat_eq o.number n)) os) t
listed_without os s t set n own listed h = listed_dropped os s t n (λ c k. listed c k ∙ by c k (nat_eq set c) refl (nat_eq n k) refl) h
  where
    listed_own : (c k : ℕ) → nat_eq n k ≡ true → owns c k s ≡ nat_eq set c
    listed_own c k is = ap (λ m. owns c m s) (sym (eqb-true n k is)) ∙ (h.members c n ∙ own c)

    by : (c k : ℕ) (a : Bool) → nat_eq set c ≡ a → (b : Bool) → nat_eq n k ≡ b → cond (nat_eq set c && nat_eq n k) false (owns c k s) ≡ cond (nat_eq n k) false (owns c k s)
    by c k true which b is = ap (λ a. cond (a && nat_eq n k) false (owns c k s)) which
    by c k false which true is = ap (λ a. cond (a && nat_eq n k) false (owns c k s)) which ∙ (listed_own c k is ∙ (which ∙ sym (ap (λ b. cond b false (owns c k s)) is)))
    by c k false which false is = ap (λ a. cond (a && nat_eq n k) false (owns c k s)) which ∙ sym (ap (λ b. cond b false (owns c k s)) is)

-- or there was none
pub listed_still : (os : List Object) (s : Owned) (n : ℕ) → ((c : ℕ) → is_member c n os ≡ false) → AreListed os s → AreListed (keep (λ o. not (nat_eq o.number n)) os) s
listed_still os s n none h = listed_dropped os s s n (λ c k. by c k (nat_eq n k) refl) h
  where
    by : (c k : ℕ) (b : Bool) → nat_eq n k ≡ b → owns c k s ≡ cond (nat_eq n k) false (owns c k s)
    by c k true is = ap (λ m. owns c m s) (sym (eqb-true n k is)) ∙ (h.members c n ∙ (none c ∙ sym (ap (λ b. cond b false (owns c k s)) is)))
    by c k false is = sym (ap (λ b. cond b false (owns c k s)) is)

-- A collection goes ----------------------------------------------------------------------------------------

abbrev outside : ℕ → Object → Bool
outside set o = not (is_of_set set o.origin)

pub all_outside : (os : List Object) (set : ℕ) → Rise 0 os → ((n : ℕ) → is_member set n os ≡ false) → os ≡ keep (λ o. not (is_of_set set o.origin)) os
all_outside os set rise none = same_objects 0 os (keep (outside set) os) rise (rise_keep (outside set) 0 os rise) (λ k. by (object_in k os) (none k) ∙ sym (in_keep (outside set) 0 k os rise))
  where
    by : (o : Option Object) → option_map_or (λ (z : Object). is_of_set set z.origin) o false ≡ false → o ≡ kept_one (outside set) o
    by None is = refl
    by (Some z) is = ap (λ b. cond (not b) (Some z) None) (sym is)

-- each time there is one object less
pub fewer : (os : List Object) (set n : ℕ) → is_member set n os ≡ true → length (keep (λ o. not (nat_eq o.number n)) os) < length os
fewer [] set n is =
    let no : is_member set n [] ≡ false = ap (λ o. option_map_or (λ (z : Object). is_of_set set z.origin) o false) (in_none n) in
    absurd (cc)
fewer (o ∷ os) set n is = subst (λ l. length l < length (o ∷ os)) (sym (keep_more (λ x. not (nat_eq x.number n)) o os)) (by (fewer os set n) (nat_eq o.number n) (sym (ap (λ x. option_map_or (λ (z : Object). is_of_set set z.origin) x false) (in_more n o os)) ∙ is))
  where
    by : (is_member set n os ≡ true → length (keep (λ x. not (nat_eq x.number n)) os) < length os) → (b : Bool) → option_map_or (λ (z : Object). is_of_set set z.origin) (cond b (Some o) (object_in n os)) false ≡ true
        → length (cond (not b) (o ∷ keep (λ x. not (nat_eq x.number n)) os) (keep (λ x. not (nat_eq x.number n)) os)) < length (o ∷ os)
    by ih true there = let less = no_more (λ x. not (nat_eq x.number n)) os in omega (arith, less)
    by ih false there = let less = ih there in omega (arith, less)

-- an object of the collection goes
pub rest_same : (os : List Object) (set n : ℕ) → Rise 0 os → option_map_or (λ o. is_of_set set o.origin) (object_in n os) false ≡ true
    → keep (λ o. not (is_of_set set o.origin)) (keep (λ o. not (nat_eq o.number n)) os) ≡ keep (λ o. not (is_of_set set o.origin)) os
rest_same os set n rise is =
    let other = λ (o : Object). not (nat_eq o.number n) in
    same_objects 0 (keep (outside set) (keep other os)) (keep (outside set) os) (rise_keep (outside set) 0 (keep other os) (rise_keep other 0 os rise)) (rise_keep (outside set) 0 os rise) (λ k.
    in_keep (outside set) 0 k (keep other os) (rise_keep other 0 os rise)
    ∙ (ap (kept_one (outside set)) (in_keep other 0 k os rise)
    ∙ (by k (object_in k os) refl ∙ sym (in_keep (outside set) 0 k os rise))))
  where
    at : (k : ℕ) (z : Object) → object_in k os ≡ Some z → (b : Bool) → nat_eq z.number n ≡ b → kept_one (outside set) (cond (not b) (Some z) None) ≡ kept_one (outside set) (Some z)
    at k z there false differs = refl
    at k z there true same =
        let number : k ≡ n = sym (number_found k os z there) ∙ eqb-true z.number n same in
        let gone : is_of_set set z.origin ≡ true = ap (λ o. option_map_or (λ (x : Object). is_of_set set x.origin) o false) (sym there) ∙ (ap (λ m. option_map_or (λ (x : Object). is_of_set set x.origin) (object_in m os) false) number ∙ is) in
        ap (λ b. cond (not b) (Some z) None) (sym gone)

    by : (k : ℕ) (o : Option Object) → object_in k os ≡ o → kept_one (outside set) (kept_one (λ (x : Object). not (nat_eq x.number n)) o) ≡ kept_one (outside set) o
    by k None there = refl
    by k (Some z) there = at k z there (nat_eq z.number n) refl

-- Several collections go -----------------------------------------------------------------------------------

pub keep_split : (p q r : Object → Bool) → ((o : Object) → p o ≡ cond (q o) (r o) false) → (os : List Object) → keep p os ≡ keep r (keep q os)
keep_split p q r split [] = keep_none p ∙ sym (ap (keep r) (keep_none q) ∙ keep_none r)
keep_split p q r split (o ∷ os) =
    keep_more p o os ∙ (ap (λ b. cond b (o ∷ keep p os) (keep p os)) (split o)
    ∙ (by (keep_split p q r split os) (q o) ∙ sym (ap (keep r) (keep_more q o os))))
  where
    by : keep p os ≡ keep r (keep q os) → (b : Bool) → cond (cond b (r o) false) (o ∷ keep p os) (keep p os) ≡ keep r (cond b (o ∷ keep q os) (keep q os))
    by ih false = ih
    by ih true = ap (λ (l : List Object). cond (r o) (o ∷ l) l) ih ∙ sym (keep_more r o (keep q os))

pub keep_all : (p : Object → Bool) → ((o : Object) → p o ≡ true) → (os : List Object) → keep p os ≡ os
keep_all p all [] = keep_none p
keep_all p all (o ∷ os) = keep_more p o os ∙ (ap (λ b. cond b (o ∷ keep p os) (keep p os)) (all o) ∙ ap (λ (l : List Object). o ∷ l) (keep_all p all os))

pub outside_first : (set : ℕ) (rest : List ℕ) (os : List Object) → keep (λ o. not (is_of_sets (set ∷ rest) o.origin)) os ≡ keep (λ o. not (is_of_sets rest o.origin)) (keep (λ o. not (is_of_set set o.origin)) os)
unfolding opened_lists opened_objects
outside_first set rest os = keep_split (λ o. not (is_of_sets (set ∷ rest) o.origin)) (outside set) (λ o. not (is_of_sets rest o.origin)) (λ o. by o.origin) os
  where
    either : (a b : Bool) → not (a || b) ≡ cond (not a) (not b) false
    either true b = refl
    either false b = refl

    by : (x : Origin) → not (is_of_sets (set ∷ rest) x) ≡ cond (not (is_of_set set x)) (not (is_of_sets rest x)) false
    by (Declared m) = refl
    by (Allocated c p) = either (nat_eq c set) (contains c rest)

pub outside_none : (os : List Object) → keep (λ o. not (is_of_sets [] o.origin)) os ≡ os
unfolding opened_lists
outside_none os = keep_all (λ o. not (is_of_sets [] o.origin)) (λ o. by o.origin) os
  where
    by : (x : Origin) → not (is_of_sets [] x) ≡ true
    by (Declared m) = refl
    by (Allocated c p) = refl

-- among allocated objects, those that end with a master are those of its collections
pub with_master : (os : List Object) (s : Owned) (m : ℕ) (sets : List ℕ) → AreListed os s → keep (λ o. not (is_of_sets sets o.origin)) os ≡ keep (λ o. not (ends_with_master m sets o.origin)) os
unfolding opened_objects
with_master os s m sets h =
    let one = λ (o : Object). not (is_of_sets sets o.origin) in
    let other = λ (o : Object). not (ends_with_master m sets o.origin) in
    same_objects 0 (keep one os) (keep other os) (rise_keep one 0 os h.rise) (rise_keep other 0 os h.rise) (λ k.
    in_keep one 0 k os h.rise ∙ (by k (object_in k os) (h.allocated k) ∙ sym (in_keep other 0 k os h.rise)))
  where
    at : (k : ℕ) (z : Object) (x : Origin) → IsAllocated x → z.origin ≡ x → not (is_of_sets sets z.origin) ≡ not (ends_with_master m sets z.origin)
    at k z (Declared n) i same = absurd i
    at k z (Allocated c p) i same = ap (λ y. not (is_of_sets sets y)) same ∙ sym (ap (λ y. not (ends_with_master m sets y)) same)

    by : (k : ℕ) (o : Option Object) → IfSome o (λ z. IsAllocated z.origin) → kept_one (λ (z : Object). not (is_of_sets sets z.origin)) o ≡ kept_one (λ (z : Object). not (ends_with_master m sets z.origin)) o
    by k None i = refl
    by k (Some z) i = ap (λ b. cond b (Some z) None) (at k z z.origin i refl)
