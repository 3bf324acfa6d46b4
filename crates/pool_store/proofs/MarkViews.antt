-- What is seen of the subpools of a pool with marks, and what of them stays as they change.
use Rattle.std.proofs.Common.{◌≡◌, ℕ, zero, suc, ◌-◌, ◌<◌, Bool, true, false, cond, List, [], ◌∷◌, ◌++◌, length, map, replicate, Option, Some, None, refl, sym, ap, subst, ◌∙◌, arith}
use Rattle.std.specs.Prelude.{nat_eq, not, ◌&&◌, is_some, nat_le, slice_get, slice_set, option_and_then}
use Rattle.std.proofs.lemmas.Option.{slice_get-map}
use Rattle.std.proofs.lemmas.Bool.Decides.{nat_tests}
use Rattle.std.proofs.lemmas.List.{map-append, length-map}
use Rattle.std.specs.Option.{option_map, option_map_or}
use borrow.Author.Tests.{eqb-true, eq-eqb, ne_eqb}
use Rattle.pool_area.specs.declared.subpool.Standing.{Standing}
use Rattle.pool_area.specs.declared.subpool.Standing.TheVariants.{Attached, Detached, Dead}
use Rattle.pool_area.specs.Lots.{Held}
use Rattle.pool_area.specs.Subpools as area
use Rattle.pool_area.specs.Subpools.{Seen, Subpools, is_dead}
use Rattle.pool_store.specs.Entries.{object_in}
use Rattle.pool_store.specs.Cells.{bare, mark_of, block_in, Holds}
use Rattle.pool_store.specs.Marks as marks
use Rattle.pool_store.specs.Marks.{Subpool, MarkPool}
use Rattle.pool_store.proofs.Placed.{Keeps, Any, Other, same_row}

-- What is seen ---------------------------------------------------------------

pub sub_seen : (n : ℕ) (xs : List Seen) → marks.subpool_of n (map bare xs) ≡ option_map bare (area.subpool_of n xs)
sub_seen n [] = refl
sub_seen n (x ∷ xs) = by (nat_eq x.number n) (sub_seen n xs)
  where
    by : (b : Bool) → marks.subpool_of n (map bare xs) ≡ option_map bare (area.subpool_of n xs)
        → cond b (Some (bare x)) (marks.subpool_of n (map bare xs)) ≡ option_map bare (cond b (Some x) (area.subpool_of n xs))
    by true more = refl
    by false more = more

pub last_seen : (n : ℕ) (xs : List Seen) → marks.is_last n (map bare xs) ≡ area.is_last n xs
last_seen n [] = refl
last_seen n (x ∷ []) = refl
last_seen n (x ∷ y ∷ ys) = ap (λ b. not (nat_eq x.number n) && b) (last_seen n (y ∷ ys))

-- a subpool that has changed
pub change_bare : (n : ℕ) (f : Seen → Seen) (g : Subpool → Subpool) (xs : List Seen) → ((x : Seen) → bare (f x) ≡ g (bare x)) → map bare (area.change_subpool n f xs) ≡ marks.change_subpool n g (map bare xs)
change_bare n f g [] same = refl
change_bare n f g (x ∷ xs) same = by (nat_eq x.number n) (change_bare n f g xs same)
  where
    by : (b : Bool) → map bare (area.change_subpool n f xs) ≡ marks.change_subpool n g (map bare xs)
        → map bare (cond b (f x ∷ xs) (x ∷ area.change_subpool n f xs)) ≡ cond b (g (bare x) ∷ map bare xs) (bare x ∷ marks.change_subpool n g (map bare xs))
    by true more = ap (λ y. y ∷ map bare xs) (same x)
    by false more = ap (λ l. bare x ∷ l) more

-- one whose blocks alone have changed
pub change_unseen : (n : ℕ) (f : Seen → Seen) (xs : List Seen) → ((x : Seen) → bare (f x) ≡ bare x) → map bare (area.change_subpool n f xs) ≡ map bare xs
change_unseen n f [] same = refl
change_unseen n f (x ∷ xs) same = by (nat_eq x.number n) (change_unseen n f xs same)
  where
    by : (b : Bool) → map bare (area.change_subpool n f xs) ≡ map bare xs → map bare (cond b (f x ∷ xs) (x ∷ area.change_subpool n f xs)) ≡ bare x ∷ map bare xs
    by true more = ap (λ y. y ∷ map bare xs) (same x)
    by false more = ap (λ l. bare x ∷ l) more

pub living_seen : (xs : List Seen) → marks.living (map bare xs) ≡ map bare (area.living xs)
living_seen [] = refl
living_seen (x ∷ xs) = ap (marks.living_before (bare x)) (living_seen xs) ∙ by (area.living xs)
  where
    alone : (b : Bool) → cond b [] (bare x ∷ []) ≡ map bare (cond b [] (x ∷ []))
    alone true = refl
    alone false = refl

    by : (ys : List Seen) → marks.living_before (bare x) (map bare ys) ≡ map bare (area.living_before x ys)
    by [] = alone (is_dead x.standing)
    by (y ∷ ys) = refl

-- What stays -----------------------------------------------------------------

module _ (n : ℕ) (f : Seen → Seen) (same : (x : Seen) → (f x).number ≡ x.number) where
  -- a subpool, once one was changed
  pub row_changed : (k : ℕ) (xs : List Seen) → area.subpool_of k (area.change_subpool n f xs) ≡ cond (nat_eq k n) (option_map f (area.subpool_of k xs)) (area.subpool_of k xs)
  row_changed k [] = none (nat_eq k n)
    where
      none : (b : Bool) → None ≡ cond b (option_map f None) None
      none true = refl
      none false = refl
  row_changed k (x ∷ xs) = by (nat_eq x.number n) (nat_eq x.number k) (nat_eq k n) refl refl refl (row_changed k xs)
    where
      after : Option Seen
      after = area.subpool_of k (area.change_subpool n f xs)

      rest : Option Seen
      rest = area.subpool_of k xs

      first : (b : Bool) → area.subpool_of k (f x ∷ xs) ≡ cond (nat_eq x.number k) (Some (f x)) rest
      first b = ap (λ m. cond (nat_eq m k) (Some (f x)) rest) (same x)

      by : (a b c : Bool) → nat_eq x.number n ≡ a → nat_eq x.number k ≡ b → nat_eq k n ≡ c → after ≡ cond (nat_eq k n) (option_map f rest) rest
          → area.subpool_of k (cond a (f x ∷ xs) (x ∷ area.change_subpool n f xs)) ≡ cond c (option_map f (cond b (Some x) rest)) (cond b (Some x) rest)
      by true true true e g h more = first true ∙ ap (λ t. cond t (Some (f x)) rest) g
      by true true false e g h more = let no : true ≡ false = sym (eq-eqb k n (sym (eqb-true x.number k g) ∙ eqb-true x.number n e)) ∙ h in absurd (cc)
      by true false true e g h more = let no : true ≡ false = sym (eq-eqb x.number k (eqb-true x.number n e ∙ sym (eqb-true k n h))) ∙ g in absurd (cc)
      by true false false e g h more = first true ∙ ap (λ t. cond t (Some (f x)) rest) g
      by false true true e g h more = let no : true ≡ false = sym (eq-eqb x.number n (eqb-true x.number k g ∙ eqb-true k n h)) ∙ e in absurd (cc)
      by false true false e g h more = ap (λ t. cond t (Some x) after) g
      by false false true e g h more = ap (λ t. cond t (Some x) after) g ∙ more ∙ ap (λ t. cond t (option_map f rest) rest) h
      by false false false e g h more = ap (λ t. cond t (Some x) after) g ∙ more ∙ ap (λ t. cond t (option_map f rest) rest) h

pub row_pushed : (k : ℕ) (xs ys : List Seen) (x : Seen) → area.subpool_of k xs ≡ Some x → area.subpool_of k (xs ++ ys) ≡ Some x
row_pushed k [] ys x e = absurd (cc)
row_pushed k (y ∷ xs) ys x e = by (nat_eq y.number k) e (row_pushed k xs ys x)
  where
    by : (b : Bool) → cond b (Some y) (area.subpool_of k xs) ≡ Some x → (area.subpool_of k xs ≡ Some x → area.subpool_of k (xs ++ ys) ≡ Some x) → cond b (Some y) (area.subpool_of k (xs ++ ys)) ≡ Some x
    by true h more = h
    by false h more = more h

-- a subpool that is not dead is among those that stay
pub row_living : (k : ℕ) (xs : List Seen) (x : Seen) → area.subpool_of k xs ≡ Some x → is_dead x.standing ≡ false → area.subpool_of k (area.living xs) ≡ Some x
row_living k [] x e alive = absurd (cc)
row_living k (y ∷ xs) x e alive = by (nat_eq y.number k) refl e (row_living k xs x)
  where
    here : (ls : List Seen) → nat_eq y.number k ≡ true → y ≡ x → area.subpool_of k (area.living_before y ls) ≡ Some x
    here [] g same =
        ap (λ b. area.subpool_of k (cond b [] (y ∷ []))) (ap (λ (z : Seen). is_dead z.standing) same ∙ alive) ∙ ap (λ t. cond t (Some y) None) g ∙ ap (λ z. Some z) same
    here (z ∷ zs) g same = ap (λ t. cond t (Some y) (area.subpool_of k (z ∷ zs))) g ∙ ap (λ w. Some w) same

    below : (ls : List Seen) → nat_eq y.number k ≡ false → area.subpool_of k ls ≡ Some x → area.subpool_of k (area.living_before y ls) ≡ Some x
    below [] g h = absurd (cc)
    below (z ∷ zs) g h = ap (λ t. cond t (Some y) (area.subpool_of k (z ∷ zs))) g ∙ h

    by : (b : Bool) → nat_eq y.number k ≡ b → cond b (Some y) (area.subpool_of k xs) ≡ Some x → (area.subpool_of k xs ≡ Some x → is_dead x.standing ≡ false → area.subpool_of k (area.living xs) ≡ Some x)
        → area.subpool_of k (area.living_before y (area.living xs)) ≡ Some x
    by true g h more = here (area.living xs) g (let e : y ≡ x = cc in e)
    by false g h more = below (area.living xs) g (more h alive)

no_row : (index m : ℕ) → Holds index m None → ⊥
no_row index m h = let no : ◌≡◌ {A = Option ℕ} None (Some m) = h.0 in cc

-- the objects in a changed subpool and in the others
pub keeps_changed : (P : ℕ → Type 0) (n : ℕ) (f : Seen → Seen) (a b : Subpools) → ((x : Seen) → (f x).number ≡ x.number) → b.subpools ≡ area.change_subpool n f a.subpools
    → ((index m : ℕ) (x : Seen) → P m → area.subpool_of n a.subpools ≡ Some x → Holds index m (Some x) → Holds index m (Some (f x)) × (block_in index (Some (f x)) ≡ block_in index (Some x)))
    → Keeps P a b
keeps_changed P n f a b number changed each k index m is h = by (nat_eq k n) refl
  where
    o : Option Seen
    o = area.subpool_of k a.subpools

    r : Option Seen
    r = area.subpool_of k b.subpools

    after : r ≡ cond (nat_eq k n) (option_map f o) o
    after = ap (area.subpool_of k) changed ∙ row_changed n f number k a.subpools

    one : (x : Option Seen) → o ≡ x → nat_eq k n ≡ true → Holds index m (option_map f o) × (block_in index (option_map f o) ≡ block_in index o)
    one None e same = absurd (no_row index m (subst (Holds index m) e h))
    one (Some x) e same =
        let there = ap (λ q. area.subpool_of q a.subpools) (sym (eqb-true k n same)) ∙ e in
        let t = each index m x is there (subst (Holds index m) e h) in
        (subst (λ q. Holds index m (option_map f q)) (sym e) t.0, ap (λ q. block_in index (option_map f q)) e ∙ t.1 ∙ sym (ap (block_in index) e))

    by : (t : Bool) → nat_eq k n ≡ t → Holds index m r × (block_in index r ≡ block_in index o)
    by true e =
        let is_f : r ≡ option_map f o = after ∙ ap (λ t. cond t (option_map f o) o) e in
        let t = one o refl e in
        (subst (Holds index m) (sym is_f) t.0, ap (block_in index) is_f ∙ t.1)
    by false e = same_row index m o r (after ∙ ap (λ t. cond t (option_map f o) o) e) h

-- whether a subpool belongs to its pool does not matter, as long as it is not dead
pub keeps_standing : (n : ℕ) (s : Standing) (a : Subpools) → is_dead s ≡ false → Keeps Any a (area.with_standing n s a)
keeps_standing n s a alive =
    keeps_changed Any n (λ x. record x { standing = s }) a (area.with_standing n s a) (λ x. refl) refl (λ index m x is there h. ((h.0, alive), refl))

-- a further subpool
pub keeps_pushed : (n : ℕ) (a : Subpools) → Keeps Any a (area.with_subpool n a)
keeps_pushed n a k index m is h = by (area.subpool_of k a.subpools) refl
  where
    r : Option Seen
    r = area.subpool_of k (area.with_subpool n a).subpools

    by : (o : Option Seen) → area.subpool_of k a.subpools ≡ o → Holds index m r × (block_in index r ≡ block_in index (area.subpool_of k a.subpools))
    by None e = absurd (no_row index m (subst (Holds index m) e h))
    by (Some x) e = same_row index m (area.subpool_of k a.subpools) r (row_pushed k a.subpools _ x e ∙ sym e) h

-- Blocks ---------------------------------------------------------------------

pub get_pushed : {X : Type 0} (xs : List X) (n : ℕ) (x z : X) → slice_get xs n ≡ Some z → slice_get (xs ++ x ∷ []) n ≡ Some z
get_pushed [] n x z g = absurd (cc)
get_pushed (y ∷ ys) zero x z g = g
get_pushed (y ∷ ys) (suc n) x z g = get_pushed ys n x z g

pub get_end : {X : Type 0} (xs : List X) (x : X) → slice_get (xs ++ x ∷ []) (length xs) ≡ Some x
get_end [] x = refl
get_end (y ∷ ys) x = get_end ys x

holder_there : (o : Option (Option Held)) (m : ℕ) → object_in o ≡ Some m → (z : Option Held) × (o ≡ Some z)
holder_there None m h = absurd (cc)
holder_there (Some z) m h = (z, refl)

-- a further block of a subpool
pub keeps_new : (n object words : ℕ) (a : Subpools) → Keeps Any a (area.with_new_block n object words a)
keeps_new n object words a =
    keeps_changed Any n (λ x. record x { blocks = x.blocks ++ new ∷ [] }) a (area.with_new_block n object words a) (λ x. refl) refl (λ index m x is there h.
    let z = holder_there (slice_get x.blocks index) m h.0 in
    let same : slice_get (x.blocks ++ new ∷ []) index ≡ slice_get x.blocks index = get_pushed x.blocks index new z.0 z.1 ∙ sym z.1 in
    ((ap object_in same ∙ h.0, h.1), same))
  where
    new : Option Held
    new = Some (record { object = object; words = replicate words 0 })

-- an element that is set, and the others
set_there : {X : Type 0} (xs : List X) (i j : ℕ) (x : X) → (j ≡ i → ⊥) → slice_get (slice_set xs i x) j ≡ slice_get xs j
set_there [] i j x off = refl
set_there (y ∷ ys) zero zero x off = absurd (off refl)
set_there (y ∷ ys) zero (suc j) x off = refl
set_there (y ∷ ys) (suc i) zero x off = refl
set_there (y ∷ ys) (suc i) (suc j) x off = set_there ys i j x (λ e. off (ap suc e))

set_here : {X : Type 0} (xs : List X) (i : ℕ) (x z : X) → slice_get xs i ≡ Some z → slice_get (slice_set xs i x) i ≡ Some x
set_here [] i x z e = absurd (cc)
set_here (y ∷ ys) zero x z e = refl
set_here (y ∷ ys) (suc i) x z e = set_here ys i x z e

changed_there : {X : Type 0} (xs : List X) (i j : ℕ) (f : X → X) → (j ≡ i → ⊥) → slice_get (area.changed_at i f xs) j ≡ slice_get xs j
changed_there {X} xs i j f off = by (slice_get xs i)
  where
    by : (o : Option X) → slice_get (option_map_or (λ x. slice_set xs i (f x)) o xs) j ≡ slice_get xs j
    by None = refl
    by (Some z) = set_there xs i j (f z) off

pub changed_here : {X : Type 0} (xs : List X) (i : ℕ) (f : X → X) → slice_get (area.changed_at i f xs) i ≡ option_map f (slice_get xs i)
changed_here {X} xs i f = by (slice_get xs i) refl
  where
    by : (o : Option X) → slice_get xs i ≡ o → slice_get (option_map_or (λ x. slice_set xs i (f x)) o xs) i ≡ option_map f o
    by None e = e
    by (Some z) e = set_here xs i (f z) z e

-- a block of one object that has changed
pub keeps_block : (n i object : ℕ) (f : Option Held → Option Held) (a : Subpools) → object_in (block_in i (area.subpool_of n a.subpools)) ≡ Some object → Keeps (Other object) a (area.with_block n i f a)
keeps_block n i object f a holder =
    keeps_changed (Other object) n (area.change_block i f) a (area.with_block n i f a) (λ x. refl) refl (λ index m x is there h.
    let off : index ≡ i → ⊥ = λ e. is (let one : Some m ≡ Some object = sym h.0 ∙ ap (λ j. object_in (block_in j (Some x))) e ∙ ap (λ o. object_in (block_in i o)) (sym there) ∙ holder in cc) in
    let same = changed_there x.blocks i index f off in
    ((ap object_in same ∙ h.0, h.1), same))

-- the block itself
pub block_changed : (n i : ℕ) (f : Option Held → Option Held) (a : Subpools) (x : Seen) → area.subpool_of n a.subpools ≡ Some x
    → area.subpool_of n (area.with_block n i f a).subpools ≡ Some (area.change_block i f x)
block_changed n i f a x there =
    row_changed n (area.change_block i f) (λ y. refl) n a.subpools ∙ ap (λ t. cond t (option_map (area.change_block i f) (area.subpool_of n a.subpools)) (area.subpool_of n a.subpools)) (eq-eqb n n refl)
    ∙ ap (option_map (area.change_block i f)) there

-- A pool -----------------------------------------------------------------------

pub standing_seen : (n : ℕ) (a : Subpools) → marks.standing_in n (mark_of a) ≡ area.standing_of n a
standing_seen n a = ap (option_map (λ (x : Subpool). x.standing)) (sub_seen n a.subpools) ∙ by (area.subpool_of n a.subpools)
  where
    by : (o : Option Seen) → option_map (λ (x : Subpool). x.standing) (option_map bare o) ≡ option_map (λ (x : Seen). x.standing) o
    by None = refl
    by (Some x) = refl

-- a subpool that stands in a pool, where that is open
pub stands_in : (n : ℕ) (o : Option MarkPool) → is_some (option_and_then (marks.standing_in n) o) ≡ option_map_or (marks.has_subpool n) o false
stands_in n None = refl
stands_in n (Some m) = by (marks.subpool_of n m.subpools)
  where
    by : (x : Option Subpool) → is_some (option_map (λ (y : Subpool). y.standing) x) ≡ is_some x
    by None = refl
    by (Some y) = refl

pub belongs_seen : (n : ℕ) (a : Subpools) → marks.belongs n (mark_of a) ≡ option_map_or marks.is_belonging (area.standing_of n a) false
belongs_seen n a = ap (λ o. option_map_or marks.is_belonging o false) (standing_seen n a)

-- a subpool that belongs to its pool is not dead
pub attached_row : (n : ℕ) (a : Subpools) → marks.belongs n (mark_of a) ≡ true → (x : Seen) × (area.subpool_of n a.subpools ≡ Some x) × (is_dead x.standing ≡ false)
attached_row n a is = by (area.subpool_of n a.subpools) refl (sym (belongs_seen n a) ∙ is)
  where
    alive : (s : Standing) → marks.is_belonging s ≡ true → is_dead s ≡ false
    alive Attached e = refl
    alive Detached e = absurd (cc)
    alive Dead e = absurd (cc)

    by : (o : Option Seen) → area.subpool_of n a.subpools ≡ o → option_map_or marks.is_belonging (option_map (λ (x : Seen). x.standing) o) false ≡ true
        → (x : Seen) × (area.subpool_of n a.subpools ≡ Some x) × (is_dead x.standing ≡ false)
    by None e h = absurd (cc)
    by (Some x) e h = (x, e, alive x.standing h)

-- with a further subpool, and with one that belongs to none
pub pushed_shown : (n : ℕ) (a : Subpools) → mark_of (area.with_subpool n a) ≡ marks.with_subpool n (mark_of a)
pushed_shown n a =
    let e = map-append bare a.subpools (area.new_subpool n a.used ∷ []) in
    λ i. record { size = a.size; used = a.used; subpools = e i }

pub standing_shown : (n : ℕ) (s : Standing) (a : Subpools) → mark_of (area.with_standing n s a) ≡ marks.with_standing n s (mark_of a)
standing_shown n s a =
    let e = change_bare n (λ x. record x { standing = s }) (λ x. record x { standing = s }) a.subpools (λ x. refl) in
    λ i. record { size = a.size; used = a.used; subpools = e i }

pub default_seen : (a : Subpools) → marks.default_of (mark_of a) ≡ option_map (λ (x : Seen). x.number) (area.last_of a.subpools)
default_seen a =
    ap (λ k. option_map (λ (x : Subpool). x.number) (slice_get (map bare a.subpools) (k - 1))) (length-map a.subpools bare)
    ∙ ap (option_map (λ (x : Subpool). x.number)) (slice_get-map bare a.subpools (length a.subpools - 1)) ∙ by (area.last_of a.subpools)
  where
    by : (o : Option Seen) → option_map (λ (x : Subpool). x.number) (option_map bare o) ≡ option_map (λ (x : Seen). x.number) o
    by None = refl
    by (Some x) = refl

pub few_of : (n : ℕ) → nat_le 10 n ≡ false → n < 10
few_of n e = grind (arith, nat_tests)

-- A release ----------------------------------------------------------------------

abbrev pub dead_row : Seen → Seen
dead_row x = record x { standing = Dead }

-- what becomes of a pool whose subpool is released
abbrev pub dying : ℕ → Subpools → Subpools
dying n a = area.with_standing n Dead (area.with_no_objects n a)

abbrev pub after_release : ℕ → ℕ → Subpools → Subpools
after_release n next a = area.settled next (dying n a)

dying_shown : (n : ℕ) (xs : List Seen) → map bare (area.change_subpool n dead_row (area.change_subpool n area.without_objects xs)) ≡ marks.change_subpool n (λ x. record x { standing = Dead }) (map bare xs)
dying_shown n xs =
    change_bare n dead_row (λ x. record x { standing = Dead }) (area.change_subpool n area.without_objects xs) (λ x. refl)
    ∙ ap (marks.change_subpool n (λ x. record x { standing = Dead })) (change_unseen n area.without_objects xs (λ x. refl))

abbrev shown_from : ℕ → MarkPool → List Subpool → Subpool → MarkPool
shown_from next p kept x = record { size = p.size; used = x.start; subpools = marks.or_renewed next kept }

renewed_shown : (next : ℕ) (ls : List Seen) → map bare (area.or_renewed next ls) ≡ marks.or_renewed next (map bare ls)
renewed_shown next [] = refl
renewed_shown next (x ∷ xs) = refl

settled_shown : (next : ℕ) (p : Subpools) → mark_of (area.settled next p) ≡ marks.settled next (mark_of p)
settled_shown next p =
    let ls = area.living p.subpools in
    by (slice_get p.subpools (length ls))
    ∙ sym (ap (λ l. option_map_or (shown_from next (mark_of p) l) (slice_get (map bare p.subpools) (length l)) (mark_of p)) (living_seen p.subpools)
    ∙ ap (λ k. option_map_or (shown_from next (mark_of p) (map bare ls)) (slice_get (map bare p.subpools) k) (mark_of p)) (length-map ls bare)
    ∙ ap (λ o. option_map_or (shown_from next (mark_of p) (map bare ls)) o (mark_of p)) (slice_get-map bare p.subpools (length ls)))
  where
    by : (o : Option Seen) → (let kept = area.living p.subpools in
        mark_of (option_map_or (λ x. record { size = p.size; used = x.start; subpools = area.or_renewed next kept; given = area.given_if_renewed next p.given kept }) o p)
        ≡ option_map_or (shown_from next (mark_of p) (map bare kept)) (option_map bare o) (mark_of p))
    by None = refl
    by (Some x) =
        let e = renewed_shown next (area.living p.subpools) in
        λ i. record { size = p.size; used = x.start; subpools = e i }

pub release_shown : (n next : ℕ) (a : Subpools) → mark_of (after_release n next a) ≡ marks.released n next (mark_of a)
release_shown n next a =
    let e = dying_shown n a.subpools in
    settled_shown next (dying n a) ∙ ap (marks.settled next) (let r : mark_of (dying n a) ≡ marks.with_standing n Dead (mark_of a) = (λ i. record { size = a.size; used = a.used; subpools = e i }) in r)

-- whether the number that is new was given
abbrev renews : List Subpool → Bool
renews xs = option_map_or (λ (x : Subpool). marks.is_empty (marks.living xs)) (slice_get xs (length (marks.living xs))) false

abbrev is_nil : List Seen → Bool
is_nil [] = true
is_nil (x ∷ xs) = false

empty_shown : (ls : List Seen) → marks.is_empty (map bare ls) ≡ is_nil ls
empty_shown [] = refl
empty_shown (x ∷ xs) = refl

renews_shown : (xs : List Seen) → renews (map bare xs) ≡ option_map_or (λ (x : Seen). is_nil (area.living xs)) (slice_get xs (length (area.living xs))) false
renews_shown xs =
    let ls = area.living xs in
    ap (λ l. option_map_or (λ (x : Subpool). marks.is_empty l) (slice_get (map bare xs) (length l)) false) (living_seen xs)
    ∙ ap (λ k. option_map_or (λ (x : Subpool). marks.is_empty (map bare ls)) (slice_get (map bare xs) k) false) (length-map ls bare)
    ∙ ap (λ o. option_map_or (λ (x : Subpool). marks.is_empty (map bare ls)) o false) (slice_get-map bare xs (length ls))
    ∙ by (slice_get xs (length ls))
  where
    by : (o : Option Seen) → option_map_or (λ (x : Subpool). marks.is_empty (map bare (area.living xs))) (option_map bare o) false ≡ option_map_or (λ (x : Seen). is_nil (area.living xs)) o false
    by None = refl
    by (Some x) = empty_shown (area.living xs)

given_after : (n next : ℕ) (p : Subpools) → p.given < next
    → nat_eq (area.settled next p).given next ≡ option_map_or (λ (x : Seen). is_nil (area.living p.subpools)) (slice_get p.subpools (length (area.living p.subpools))) false
given_after n next p less = by (slice_get p.subpools (length (area.living p.subpools))) (area.living p.subpools)
  where
    other : nat_eq p.given next ≡ false
    other = ne_eqb p.given next (λ e. let no : ⊥ = omega arith in no)

    by : (o : Option Seen) (kept : List Seen)
        → nat_eq (option_map_or (λ x. record { size = p.size; used = x.start; subpools = area.or_renewed next kept; given = area.given_if_renewed next p.given kept }) o p).given next
        ≡ option_map_or (λ (x : Seen). is_nil kept) o false
    by None kept = other
    by (Some x) [] = eq-eqb next next refl
    by (Some x) (y ∷ ys) = other

pub renewed_is : (n next : ℕ) (a : Subpools) → a.given < next → nat_eq (after_release n next a).given next ≡ marks.is_renewed_by n (mark_of a)
renewed_is n next a less = given_after n next (dying n a) less ∙ sym (renews_shown (dying n a).subpools) ∙ ap renews (dying_shown n a.subpools)

-- the number that was given last is new, or as it was
pub given_below : (n next : ℕ) (a : Subpools) → a.given < next → nat_eq (after_release n next a).given next ≡ false → (after_release n next a).given < next
given_below n next a less e = by (slice_get (dying n a).subpools (length (area.living (dying n a).subpools))) (area.living (dying n a).subpools) e
  where
    by : (o : Option Seen) (kept : List Seen)
        → (let q : Subpools = option_map_or (λ x. record { size = a.size; used = x.start; subpools = area.or_renewed next kept; given = area.given_if_renewed next a.given kept }) o (dying n a) in
        nat_eq q.given next ≡ false → q.given < next)
    by None kept = λ h. less
    by (Some x) [] = λ h. let no : true ≡ false = sym (eq-eqb next next refl) ∙ h in absurd (cc)
    by (Some x) (y ∷ ys) = λ h. less

-- a subpool that is not dead, other than the one that is released, stays as it is
pub row_after : (n next k : ℕ) (a : Subpools) (x : Seen) → nat_eq k n ≡ false → area.subpool_of k a.subpools ≡ Some x → is_dead x.standing ≡ false
    → area.subpool_of k (after_release n next a).subpools ≡ Some x
row_after n next k a x apart there alive = by (slice_get (dying n a).subpools (length (area.living (dying n a).subpools)))
  where
    one : (f : Seen → Seen) (xs : List Seen) → ((y : Seen) → (f y).number ≡ y.number) → area.subpool_of k (area.change_subpool n f xs) ≡ area.subpool_of k xs
    one f xs same = row_changed n f same k xs ∙ ap (λ t. cond t (option_map f (area.subpool_of k xs)) (area.subpool_of k xs)) apart

    still : area.subpool_of k (dying n a).subpools ≡ Some x
    still = one dead_row (area.change_subpool n area.without_objects a.subpools) (λ y. refl) ∙ one area.without_objects a.subpools (λ y. refl) ∙ there

    lives : area.subpool_of k (area.living (dying n a).subpools) ≡ Some x
    lives = row_living k (dying n a).subpools x still alive

    first : (ls : List Seen) → area.subpool_of k ls ≡ Some x → area.subpool_of k (area.or_renewed next ls) ≡ Some x
    first [] e = absurd (cc)
    first (y ∷ ys) e = e

    by : (o : Option Seen) → (let kept = area.living (dying n a).subpools in
        area.subpool_of k (option_map_or (λ z. record { size = a.size; used = z.start; subpools = area.or_renewed next kept; given = area.given_if_renewed next a.given kept }) o (dying n a)).subpools ≡ Some x)
    by None = still
    by (Some z) = first (area.living (dying n a).subpools) lives
