-- How the lists of the collections and the groups stay those of the allocated objects.
use Rattle.std.proofs.Common.{◌≡◌, ◌∙◌, ℕ, ◌+◌, ◌<◌, ◌≤◌, ◌^◌, List, [], ◌∷◌, ◌++◌, Option, Some, None, Bool, true, false, cond, refl, sym, ap, arith, subst, length}
use Rattle.std.specs.Prelude.{nat_eq, nat_lt, not, is_some, ◌&&◌}
use Rattle.std.specs.Option.{option_map, option_map_or, option_or}
use Rattle.std.proofs.lemmas.Bool.Decides.{nat_tests}
use borrow.Author.Tests.{eq-eqb}
use Rattle.ctl_program.specs.declared.types.Ty.{Ty}
use Rattle.ctl_meaning.specs.World.{Allocated, Object}
use Rattle.ctl_meaning.specs.Lists.{keep}
use Rattle.ctl_meaning.specs.Changes.{new_object, opened_changes}
use Rattle.ctl_meaning.specs.Objects.{change_in, is_of_set, object_in, opened_objects, with_cells}
use Rattle.ctl_storage.specs.declared.existing.Step.{Step}
use Rattle.ctl_groups.specs.declared.groups.Group.{Group}
use Rattle.ctl_groups.specs.declared.groups.Groups.{Groups}
use Rattle.ctl_storage.specs.declared.existing.Allocation.{Allocation}
use Rattle.ctl_storage.specs.declared.existing.Place.{Place}
use Rattle.ctl_groups.specs.declared.needs.Need.{Need}
use Rattle.ctl_objects.specs.Existing as Existing
use Rattle.ctl_objects.specs.Existing.{bare, existing}
use Rattle.ctl_objects.specs.Filed.{AreFiled}
use Rattle.ctl_groups.specs.Groups.{AreAlike, AreGrouped, AreNumbers, Has, IsSame, Moves, is_in, is_open, test}
use Rattle.ctl_storage.specs.Allocated.{IsKnown, blank, known, place_of}
use Rattle.ctl_groups.specs.Members.{passes}
use Rattle.ctl_storage.specs.Order.{AreBelow, Rise}
use Rattle.owned_numbers.specs.Owned.{OwnsAs, Owned, owns}
use Rattle.ctl_objects.specs.Sets.{AreListed}
use Rattle.ctl_storage.specs.Allocated.{is_member}
use Rattle.ctl_storage.specs.Stages.{start, with_step}
use Rattle.ctl_objects.proofs.Both.{keep_lacking}
use Rattle.ctl_storage.proofs.Conditions.{all_changed, all_kept, all_newest, below_more}
use Rattle.ctl_storage.proofs.InStore.{cells_keep, step_keeps}
use Rattle.ctl_objects.proofs.Origins.{cells_stay, step_stays}
use Rattle.ctl_objects.proofs.Listed.{keep_all, listed_changed, listed_new, listed_undone, listed_without, none_listed}
use Rattle.ctl_groups.proofs.Moved.{AreSameBut, alike_found, alike_stepped, grouped_alike, grouped_moved, grouped_same, has_object, own_count}
use Rattle.ctl_storage.proofs.Rising.{KeepsNumbers, change_lacking, change_more, change_none, in_change, in_keep, in_newest, kept_one, none_above, number_found, rise_change, rise_keep, rise_newest}

abbrev one_of : Bool → ℕ
one_of b = cond b 1 0

-- An object changes ----------------------------------------------------------------------------------------

length_changed : (n : ℕ) (f : Object → Object) (os : List Object) → length (change_in n f os) ≡ length os
length_changed n f [] = ap (λ (l : List Object). length l) (change_none n f)
length_changed n f (x ∷ xs) = let ih = length_changed n f xs in let more = ap (λ (l : List Object). length l) (change_more n f x xs) in omega (arith, ih, more)

flipped : (n k : ℕ) → nat_eq n k ≡ false → nat_eq k n ≡ false
flipped n k is = grind (arith, nat_tests, is)

self_eq : (n : ℕ) → nat_eq n n ≡ true
self_eq n = eq-eqb n n refl

same_changed : (n : ℕ) (f : Object → Object) (os : List Object) → KeepsNumbers f → AreSameBut n os (change_in n f os)
same_changed n f os numbers k differs = in_change n f numbers k os ∙ ap (λ b. cond b (option_map f (object_in k os)) (object_in k os)) (flipped n k differs)

here_changed : (n : ℕ) (f : Object → Object) (os : List Object) → KeepsNumbers f → object_in n (change_in n f os) ≡ option_map f (object_in n os)
here_changed n f os numbers = in_change n f numbers n os ∙ ap (λ b. cond b (option_map f (object_in n os)) (object_in n os)) (self_eq n)

filed_changed : (needs : List Need) (os : List Object) (s : Owned) (g : Groups) (n : ℕ) (f : Object → Object) → KeepsNumbers f → ((o : Object) → (f o).origin ≡ o.origin) → AreGrouped needs (change_in n f os) g → AreListed os s → s.size ≡ length os → AreBelow (2 ^ 64) os
    → AreFiled needs (change_in n f os) s g
filed_changed needs os s g n f numbers origins grouped listed many below = record {
  listed = listed_changed os s n f numbers origins listed;
  many = many ∙ sym (length_changed n f os);
  numbers = all_changed (λ o. o.number < 2 ^ 64) n f (λ o less. let same = numbers o in omega (arith, same, less)) os below;
  grouped = grouped;
}

-- the first of all
pub filed_none : (needs : List Need) (os : List Object) (s : Owned) (g : Groups) → os ≡ [] → ((p n : ℕ) → owns p n s ≡ false) → s.size ≡ 0 → AreGrouped needs [] g → AreFiled needs os s g
filed_none needs os s g empty none size grouped = subst (λ (l : List Object). AreFiled needs l s g) (sym empty) (record { listed = none_listed [] s refl none; many = size; numbers = tt; grouped = grouped })

-- cells are written
pub filed_written : (needs : List Need) (os : List Object) (s : Owned) (g : Groups) (n offset : ℕ) (v : List ℕ) → AreFiled needs os s g → AreFiled needs (change_in n (with_cells offset v) os) s g
unfolding opened_objects
filed_written needs os s g n offset v h =
    let f = with_cells offset v in
    let numbers = cells_keep offset v in
    let grouped = grouped_alike needs os (change_in n f os) n g h.listed.rise (rise_change n f numbers 0 os h.listed.rise) (same_changed n f os numbers)
    (subst (λ (o : Option Object). AreAlike needs (object_in n os) o) (sym (here_changed n f os numbers)) (by (object_in n os))) h.grouped in
    filed_changed needs os s g n f numbers (cells_stay offset v) grouped h.listed h.many h.numbers
  where
    by : (o : Option Object) → AreAlike needs o (option_map (with_cells offset v) o)
    by None g = (refl, refl)
    by (Some x) g = (refl, refl)

-- a step is taken
pub filed_stepped : (needs : List Need) (os : List Object) (s : Owned) (g t : Groups) (n : ℕ) (z : Step) (a : Allocation) → IsKnown n (Some a) os → Moves needs n (Some (known n a)) (Some (with_step z (known n a))) g t → AreFiled needs os s g → AreFiled needs (change_in n (with_step z) os) s t
filed_stepped needs os s g t n z a is m h =
    let f = with_step z in
    let numbers = step_keeps z in
    let grouped = grouped_moved needs os (change_in n f os) n (Some (known n a)) (Some (f (known n a))) g t h.listed.rise (rise_change n f numbers 0 os h.listed.rise) (same_changed n f os numbers) (alike_found needs n (Some a) os is)
    (subst (λ (o : Option Object). AreAlike needs (Some (f (known n a))) o) (sym (here_changed n f os numbers)) (alike_stepped needs n z a os is)) m h.grouped in
    filed_changed needs os s t n f numbers (step_stays z) grouped h.listed h.many h.numbers

bare_none : (n : ℕ) (os : List Object) → IsKnown n None os → object_in n os ≡ None
bare_none n os is = by (object_in n os) is
  where
    by : (o : Option Object) → (let none : Option Object = None in none ≡ option_map blank o) → o ≡ None
    by None e = refl
    by (Some x) e = absurd (cc)

pub filed_unstepped : (needs : List Need) (os : List Object) (s : Owned) (g : Groups) (n : ℕ) (z : Step) → IsKnown n None os → AreFiled needs os s g → AreFiled needs (change_in n (with_step z) os) s g
filed_unstepped needs os s g n z is h = subst (λ (l : List Object). AreFiled needs l s g) (sym (change_lacking n (with_step z) os (bare_none n os is))) h

-- an object exists where it is found so
pub exists_so : (n : ℕ) (a : Option Allocation) (os : List Object) → IsKnown n a os → is_some a ≡ is_some (object_in n os)
exists_so n a os is = by a ∙ (ap (λ (o : Option Object). is_some o) is ∙ blanked (object_in n os))
  where
    by : (o : Option Allocation) → is_some o ≡ is_some (option_map (known n) o)
    by None = refl
    by (Some x) = refl

    blanked : (o : Option Object) → is_some (option_map blank o) ≡ is_some o
    blanked None = refl
    blanked (Some x) = refl

-- what is known of it beside its cells
pub known_existing : (n : ℕ) (a : Option Allocation) (os : List Object) → IsKnown n a os → Existing.IsKnown n (option_map existing a) os
known_existing n a os is = by a ∙ (ap (option_map bare) is ∙ blanked (object_in n os))
  where
    by : (o : Option Allocation) → option_map (Existing.known n) (option_map existing o) ≡ option_map bare (option_map (known n) o)
    by None = refl
    by (Some x) = refl

    blanked : (o : Option Object) → option_map bare (option_map blank o) ≡ option_map bare o
    blanked None = refl
    blanked (Some x) = refl

-- what the groups know of it
pub has_found : (needs : List Need) (os : List Object) (s : Owned) (g : Groups) (n : ℕ) (a : Allocation) → length os < 2 ^ 63 → IsKnown n (Some a) os → AreFiled needs os s g → Has needs n (known n a) g
has_found needs os s g n a few is h = has_object needs os n (known n a) g h.listed.rise (omega (arith, few)) (alike_found needs n (Some a) os is) h.grouped

-- An object comes ------------------------------------------------------------------------------------------

length_newest : (os : List Object) (x : Object) → length (os ++ x ∷ []) ≡ length os + 1
length_newest [] x = omega arith
length_newest (o ∷ os) x = let ih = length_newest os x in omega (arith, ih)

other_newest : (os : List Object) (x : Object) → AreSameBut x.number os (os ++ x ∷ [])
other_newest os x k differs = in_newest k os x ∙ (ap (λ b. option_or (object_in k os) (cond b (Some x) None)) differs ∙ by (object_in k os))
  where
    by : (o : Option Object) → option_or o None ≡ o
    by None = refl
    by (Some z) = refl

here_newest : (os : List Object) (x : Object) → AreBelow x.number os → object_in x.number (os ++ x ∷ []) ≡ Some x
here_newest os x below =
    in_newest x.number os x ∙ (ap (λ b. option_or (object_in x.number os) (cond b (Some x) None)) (self_eq x.number) ∙ ap (λ o. option_or o (Some x)) (none_above x.number os below))

alike_none : (needs : List Need) (os : List Object) (n : ℕ) → AreBelow n os → AreAlike needs None (object_in n os)
alike_none needs os n below = subst (λ (o : Option Object). AreAlike needs None o) (sym (none_above n os below)) (λ g. (refl, refl))

pub not_listed : (os : List Object) (s : Owned) (set n : ℕ) → AreListed os s → AreBelow n os → owns set n s ≡ false
not_listed os s set n h below = h.members set n ∙ ap (λ o. option_map_or (λ (x : Object). is_of_set set x.origin) o false) (none_above n os below)

-- no group has the number of a new one
pub new_in : (needs : List Need) (os : List Object) (s : Owned) (g : Groups) (n : ℕ) → AreFiled needs os s g → AreBelow n os → (h : Group) → is_in h n g ≡ false
new_in needs os s g n f below h = f.grouped.members h n ∙ ap (test (is_open needs h)) (none_above n os below)

grouped_new : (needs : List Need) (os : List Object) (g t : Groups) (x y : Object) → Rise 0 os → AreBelow x.number os → AreAlike needs (Some y) (Some x) → Moves needs x.number None (Some y) g t → AreGrouped needs os g → AreGrouped needs (os ++ x ∷ []) t
grouped_new needs os g t x y rise below alike m h =
    grouped_moved needs os (os ++ x ∷ []) x.number None (Some y) g t rise (rise_newest 0 os x rise below (omega arith)) (other_newest os x) (alike_none needs os x.number below)
    (subst (λ (o : Option Object). AreAlike needs (Some y) o) (sym (here_newest os x below)) alike) m h

-- as groups see a new object
abbrev pub fresh : Ty → ℕ → Place → ℕ → Allocation
fresh ty set place cells = record { ty = ty; collection = set; place = place; cells = cells; stage = start }

alike_fresh : (needs : List Need) (n : ℕ) (ty : Ty) (set : ℕ) (place : Place) (cells : ℕ) (v : List ℕ) → AreAlike needs (Some (known n (fresh ty set place cells))) (Some (new_object n ty v (Allocated set (place_of place))))
unfolding opened_changes
alike_fresh needs n ty set place cells v g = (refl, refl)

pub filed_new : (needs : List Need) (os : List Object) (s t : Owned) (g u : Groups) (n : ℕ) (ty : Ty) (set : ℕ) (place : Place) (cells : ℕ) (v : List ℕ) → n < 2 ^ 64 → AreBelow n os → OwnsAs true set n s t → t.size ≡ s.size + 1
    → Moves needs n None (Some (known n (fresh ty set place cells))) g u → AreFiled needs os s g → AreFiled needs (os ++ new_object n ty v (Allocated set (place_of place)) ∷ []) t u
unfolding opened_changes
filed_new needs os s t g u n ty set place cells v small below listed many m h =
    let x = new_object n ty v (Allocated set (place_of place)) in
    record {
      listed = listed_new os s t x set (place_of place) below refl listed h.listed;
      many =
          let more = length_newest os x in
          let had = h.many in
          omega (arith, many, more, had);
      numbers = all_newest (λ o. o.number < 2 ^ 64) os x h.numbers small;
      grouped = grouped_new needs os g u x (known n (fresh ty set place cells)) h.listed.rise below (alike_fresh needs n ty set place cells v) m h.grouped;
    }

-- What was listed is taken back ----------------------------------------------------------------------------

taken_back : (needs : List Need) (os : List Object) (s t u : Owned) (g w : Groups) (set n : ℕ) → AreBelow n os → OwnsAs true set n s t → t.size ≡ s.size + 1 → OwnsAs false set n t u
    → u.size + one_of (owns set n t) ≡ t.size → AreGrouped needs os w → AreFiled needs os s g → AreFiled needs os u w
taken_back needs os s t u g w set n below listed many undone fewer grouped h = record {
  listed = listed_undone os s t u set n below listed undone h.listed;
  many =
      let there : one_of (owns set n t) ≡ 1 = ap one_of (listed set n ∙ (ap (λ b. cond (b && nat_eq n n) true (owns set n s)) (self_eq set) ∙ ap (λ b. cond b true (owns set n s)) (self_eq n))) in
      let had = h.many in
      omega (arith, many, fewer, there, had);
  numbers = h.numbers;
  grouped = grouped;
}

-- where no group took it in
pub filed_refused : (needs : List Need) (os : List Object) (s t u : Owned) (g w : Groups) (set n : ℕ) → AreBelow n os → OwnsAs true set n s t → t.size ≡ s.size + 1 → OwnsAs false set n t u
    → u.size + one_of (owns set n t) ≡ t.size → IsSame g w → AreFiled needs os s g → AreFiled needs os u w
filed_refused needs os s t u g w set n below listed many undone fewer same h = taken_back needs os s t u g w set n below listed many undone fewer (grouped_same needs os g w same h.grouped) h

-- where a group took it in
pub has_new : (needs : List Need) (os : List Object) (s : Owned) (g t : Groups) (n : ℕ) (ty : Ty) (set : ℕ) (place : Place) (cells : ℕ) → AreBelow n os → length os < 2 ^ 63 → Moves needs n None (Some (known n (fresh ty set place cells))) g t → AreFiled needs os s g → Has needs n (known n (fresh ty set place cells)) t
unfolding opened_changes
has_new needs os s g t n ty set place cells below few m h =
    let x = new_object n ty [] (Allocated set (place_of place)) in
    let y = known n (fresh ty set place cells) in
    let more = length_newest os x in
    has_object needs (os ++ x ∷ []) n y t (rise_newest 0 os x h.listed.rise below (omega arith)) (omega (arith, more, few))
    (subst (λ (o : Option Object). AreAlike needs (Some y) o) (sym (here_newest os x below)) (alike_fresh needs n ty set place cells []))
    (grouped_new needs os g t x y h.listed.rise below (alike_fresh needs n ty set place cells []) m h.grouped)

pub filed_undone : (needs : List Need) (os : List Object) (s t u : Owned) (g v w : Groups) (n : ℕ) (ty : Ty) (set : ℕ) (place : Place) (cells : ℕ) → AreBelow n os → OwnsAs true set n s t → t.size ≡ s.size + 1 → OwnsAs false set n t u
    → u.size + one_of (owns set n t) ≡ t.size → Moves needs n None (Some (known n (fresh ty set place cells))) g v → Moves needs n (Some (known n (fresh ty set place cells))) None v w → AreFiled needs os s g → AreFiled needs os u w
unfolding opened_changes
filed_undone needs os s t u g v w n ty set place cells below listed many undone fewer came went h =
    let x = new_object n ty [] (Allocated set (place_of place)) in
    let y = known n (fresh ty set place cells) in
    let alike = alike_fresh needs n ty set place cells [] in
    let there = grouped_new needs os g v x y h.listed.rise below alike came h.grouped in
    taken_back needs os s t u g w set n below listed many undone fewer
    (grouped_moved needs (os ++ x ∷ []) os n (Some y) None v w (rise_newest 0 os x h.listed.rise below (omega arith)) h.listed.rise (λ k differs. sym (other_newest os x k differs))
    (subst (λ (o : Option Object). AreAlike needs (Some y) o) (sym (here_newest os x below)) alike) (alike_none needs os n below) went there)
    h

-- An object goes -------------------------------------------------------------------------------------------

length_without : (n low : ℕ) (os : List Object) → Rise low os → length (keep (λ o. not (nat_eq o.number n)) os) + one_of (is_some (object_in n os)) ≡ length os
length_without n low os rise =
    let split = own_count (λ (o : Object). true) n low os rise in
    let all : length (keep (λ (o : Object). true) os) ≡ length os = ap (λ (l : List Object). length l) (keep_all (λ (o : Object). true) (λ o. refl) os) in
    let own : one_of (test (λ (o : Object). true) (object_in n os)) ≡ one_of (is_some (object_in n os)) = by (object_in n os) in
    omega (arith, split, all, own)
  where
    by : (o : Option Object) → one_of (test (λ (x : Object). true) o) ≡ one_of (is_some o)
    by None = refl
    by (Some x) = refl

pub filed_gone : (needs : List Need) (os : List Object) (s t : Owned) (g u : Groups) (n : ℕ) (a : Allocation) → IsKnown n (Some a) os → ((c : ℕ) → is_member c n os ≡ nat_eq a.collection c) → OwnsAs false a.collection n s t → t.size + one_of (owns a.collection n s) ≡ s.size
    → Moves needs n (Some (known n a)) None g u → AreFiled needs os s g → AreFiled needs (keep (λ o. not (nat_eq o.number n)) os) t u
filed_gone needs os s t g u n a is own listed many m h = record {
  listed = listed_without os s t a.collection n own listed h.listed;
  many =
      let there : one_of (owns a.collection n s) ≡ 1 = ap one_of (h.listed.members a.collection n ∙ (own a.collection ∙ self_eq a.collection)) in
      let found : one_of (is_some (object_in n os)) ≡ 1 = ap one_of (sym (exists_so n (Some a) os is)) in
      let less = length_without n 0 os h.listed.rise in
      let had = h.many in
      omega (arith, many, there, found, less, had);
  numbers = all_kept (λ o. o.number < 2 ^ 64) other os h.numbers;
  grouped = grouped_moved needs os (keep other os) n (Some (known n a)) None g u h.listed.rise (rise_keep other 0 os h.listed.rise) same (alike_found needs n (Some a) os is)
      (subst (λ (o : Option Object). AreAlike needs None o) (sym gone) (λ g. (refl, refl))) m h.grouped;
}
  where
    other : Object → Bool
    other o = not (nat_eq o.number n)

    kept : (k : ℕ) (b : Bool) → nat_eq k n ≡ b → (o : Option Object) → object_in k os ≡ o → kept_one other o ≡ cond b None o
    kept k b which None there = by b
      where
        by : (t : Bool) → (let none : Option Object = None in none) ≡ cond t None None
        by true = refl
        by false = refl
    kept k b which (Some z) there = ap (λ j. cond (not (nat_eq j n)) (Some z) None) (number_found k os z there) ∙ (ap (λ t. cond (not t) (Some z) None) which ∙ by b)
      where
        by : (t : Bool) → cond (not t) (Some z) None ≡ cond t None (Some z)
        by true = refl
        by false = refl

    same : AreSameBut n os (keep other os)
    same k differs = in_keep other 0 k os h.listed.rise ∙ kept k false (flipped n k differs) (object_in k os) refl

    gone : object_in n (keep other os) ≡ None
    gone = in_keep other 0 n os h.listed.rise ∙ kept n true (self_eq n) (object_in n os) refl

pub filed_still : (needs : List Need) (os : List Object) (s : Owned) (g : Groups) (n : ℕ) → IsKnown n None os → AreFiled needs os s g → AreFiled needs (keep (λ o. not (nat_eq o.number n)) os) s g
filed_still needs os s g n is h = subst (λ (l : List Object). AreFiled needs l s g) (sym (keep_lacking n os h.listed.rise (bare_none n os is))) h

-- What is known of numbers ---------------------------------------------------------------------------------

pub number_below : (b n : ℕ) (os : List Object) (z : Object) → AreBelow b os → object_in n os ≡ Some z → n < b
number_below b n os z below there = by (nat_lt n b) refl
  where
    by : (t : Bool) → nat_lt n b ≡ t → n < b
    by true is = grind (arith, nat_tests, is)
    by false is =
        let high : b ≤ n = grind (arith, nat_tests, is) in
        let none : object_in n os ≡ None = none_above n os (below_more b n os high below) in
        absurd (cc)

-- the number of an object that passes a test is lower
pub passing_below : (b n : ℕ) (p : Object → Bool) (os : List Object) → AreBelow b os → passes p n os ≡ true → n < b
passing_below b n p os below = by (object_in n os) refl
  where
    by : (o : Option Object) → object_in n os ≡ o → test p o ≡ true → n < b
    by None there t = absurd (cc)
    by (Some z) there t = number_below b n os z below there

pub numbers_of : (needs : List Need) (os : List Object) (s : Owned) (g : Groups) → AreFiled needs os s g → AreNumbers g
numbers_of needs os s g f h n is = passing_below (2 ^ 64) n (is_open needs h) os f.numbers (sym (f.grouped.members h n) ∙ is)
