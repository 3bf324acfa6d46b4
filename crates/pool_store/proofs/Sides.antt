-- Two stores side by side: what a change of one of them does to both.
use Rattle.std.proofs.Common.{◌≡◌, ℕ, ◌+◌, Bool, true, false, cond, List, [], ◌∷◌, ◌++◌, replicate, Option, Some, None, refl, sym, ap, subst, ◌∙◌, if◌then◌else◌}
use Rattle.std.specs.Prelude.{nat_eq, not, is_some, ◌||◌, ◌&&◌, IfSome, Result, Ok, Err, IfOk, OnOk, OnErr, slice_index_or}
use Rattle.std.specs.Ordering.{nat_cmp, eq_by_cmp}
use Rattle.std.specs.Option.{option_map, option_map_or}
use Rattle.std.specs.Cmp.{nat_cmp_total}
use Rattle.std.specs.FinMap.{FinMap, empty, entries, find, get-empty, get, insert, remove, get-entries, get-from_entries}
use borrow.Author.Tests.{eqb-true}
use Rattle.number_map.specs.Table.{change}
use Rattle.number_map.proofs.Changes.{get_put, get_dropped, equal_maps}
use Rattle.pool_area.specs.Lots.{overwritten, run_of}
use Rattle.pool_area.specs.declared.subpool.Standing.TheVariants.{Detached}
use Rattle.pool_store.specs.declared.entry.Spot.{Spot}
use Rattle.pool_store.specs.declared.block_store.Address.{Address}
use Rattle.pool_store.specs.declared.fault.StoreFault.{StoreFault}
use Rattle.pool_store.specs.declared.fault.StoreFault.TheVariants.{Gone}
use Rattle.pool_store.specs.Entries.{Site, Stored}
use Rattle.pool_store.specs.Marks as marks
use Rattle.pool_store.specs.Joined.{joined, side_by_side, AreApart, AreOutside}
use Rattle.pool_store.specs.Kept.{kept, kept_if}
use Rattle.pool_store.specs.Store as store
use Rattle.pool_store.specs.Store.{Store}
use Rattle.pool_store.proofs.KeptLemmas.{get_kept}

-- Maps -----------------------------------------------------------------------

abbrev pub either : {V : Type 0} → Option V → Option V → Option V
either None y = y
either (Some x) y = Some x

find_either : {V : Type 0} (xs ys : List (ℕ × V)) (q : ℕ) → find nat_cmp q (xs ++ ys) ≡ either (find nat_cmp q xs) (find nat_cmp q ys)
find_either [] ys q = refl
find_either {V} (x ∷ xs) ys q = by (eq_by_cmp nat_cmp q x.0) (find_either xs ys q)
  where
    by : (b : Bool) → find nat_cmp q (xs ++ ys) ≡ either (find nat_cmp q xs) (find nat_cmp q ys)
        → cond b (Some x.1) (find nat_cmp q (xs ++ ys)) ≡ either (cond b (Some x.1) (find nat_cmp q xs)) (find nat_cmp q ys)
    by true more = refl
    by false more = more

pub get_joined : {V : Type 0} (s t : FinMap nat_cmp V) (q : ℕ) → get (joined s t) q ≡ either (get s q) (get t q)
unfolding joined
get_joined s t q =
    get-from_entries nat_cmp_total (entries s ++ entries t) q ∙ find_either (entries s) (entries t) q
    ∙ ap (λ o. either o (find nat_cmp q (entries t))) (sym (get-entries s q)) ∙ ap (either (get s q)) (sym (get-entries t q))

either_none : {V : Type 0} (o : Option V) → either o None ≡ o
either_none None = refl
either_none (Some x) = refl

pub free_left : {V : Type 0} (s t : FinMap nat_cmp V) (n : ℕ) → get (joined s t) n ≡ None → get s n ≡ None
free_left {V} s t n none = by (get s n) (get t n) (sym (get_joined s t n) ∙ none)
  where
    by : (x y : Option V) → either x y ≡ None → x ≡ None
    by None y e = refl
    by (Some x) y e = absurd (cc)

pub free_right : {V : Type 0} (s t : FinMap nat_cmp V) (n : ℕ) → get (joined s t) n ≡ None → get t n ≡ None
free_right {V} s t n none = by (get s n) (get t n) (sym (get_joined s t n) ∙ none)
  where
    by : (x y : Option V) → either x y ≡ None → y ≡ None
    by None y e = e
    by (Some x) y e = absurd (cc)

pub get_left : {V : Type 0} (s t : FinMap nat_cmp V) (n : ℕ) → get t n ≡ None → get (joined s t) n ≡ get s n
get_left s t n none = get_joined s t n ∙ ap (either (get s n)) none ∙ either_none (get s n)

pub get_right : {V : Type 0} (s t : FinMap nat_cmp V) (n : ℕ) → get s n ≡ None → get (joined s t) n ≡ get t n
get_right s t n none = get_joined s t n ∙ ap (λ o. either o (get t n)) none

pub put_left : {V : Type 0} (s t : FinMap nat_cmp V) (n : ℕ) (v : V) → joined (insert s n v) t ≡ insert (joined s t) n v
put_left {V} s t n v = equal_maps (joined (insert s n v) t) (insert (joined s t) n v) (λ q.
    get_joined (insert s n v) t q ∙ ap (λ o. either o (get t q)) (get_put s n q v) ∙ by q (nat_eq q n) ∙ sym (get_put (joined s t) n q v))
  where
    by : (q : ℕ) (b : Bool) → either (cond b (Some v) (get s q)) (get t q) ≡ cond b (Some v) (get (joined s t) q)
    by q true = refl
    by q false = sym (get_joined s t q)

pub put_right : {V : Type 0} (s t : FinMap nat_cmp V) (n : ℕ) (v : V) → get s n ≡ None → joined s (insert t n v) ≡ insert (joined s t) n v
put_right {V} s t n v none = equal_maps (joined s (insert t n v)) (insert (joined s t) n v) (λ q.
    get_joined s (insert t n v) q ∙ ap (either (get s q)) (get_put t n q v) ∙ by q (nat_eq q n) refl ∙ sym (get_put (joined s t) n q v))
  where
    by : (q : ℕ) (b : Bool) → nat_eq q n ≡ b → either (get s q) (cond b (Some v) (get t q)) ≡ cond b (Some v) (get (joined s t) q)
    by q true e = ap (λ m. either (get s m) (Some v)) (eqb-true q n e) ∙ ap (λ o. either o (Some v)) none
    by q false e = sym (get_joined s t q)

pub drop_left : {V : Type 0} (s t : FinMap nat_cmp V) (n : ℕ) → get t n ≡ None → joined (remove s n) t ≡ remove (joined s t) n
drop_left {V} s t n none = equal_maps (joined (remove s n) t) (remove (joined s t) n) (λ q.
    get_joined (remove s n) t q ∙ ap (λ o. either o (get t q)) (get_dropped s n q) ∙ by q (nat_eq q n) refl ∙ sym (get_dropped (joined s t) n q))
  where
    by : (q : ℕ) (b : Bool) → nat_eq q n ≡ b → either (cond b None (get s q)) (get t q) ≡ cond b None (get (joined s t) q)
    by q true e = ap (get t) (eqb-true q n e) ∙ none
    by q false e = sym (get_joined s t q)

pub drop_right : {V : Type 0} (s t : FinMap nat_cmp V) (n : ℕ) → get s n ≡ None → joined s (remove t n) ≡ remove (joined s t) n
drop_right {V} s t n none = equal_maps (joined s (remove t n)) (remove (joined s t) n) (λ q.
    get_joined s (remove t n) q ∙ ap (either (get s q)) (get_dropped t n q) ∙ by q (nat_eq q n) refl ∙ sym (get_dropped (joined s t) n q))
  where
    by : (q : ℕ) (b : Bool) → nat_eq q n ≡ b → either (get s q) (cond b None (get t q)) ≡ cond b None (get (joined s t) q)
    by q true e = either_none (get s q) ∙ ap (get s) (eqb-true q n e) ∙ none
    by q false e = sym (get_joined s t q)

pub change_left : {V : Type 0} (s t : FinMap nat_cmp V) (n : ℕ) (f : V → V) → get t n ≡ None → joined (change n f s) t ≡ change n f (joined s t)
change_left {V} s t n f none = by (get s n) ∙ sym (ap (λ o. option_map_or (λ v. insert (joined s t) n (f v)) o (joined s t)) (get_left s t n none))
  where
    by : (o : Option V) → joined (option_map_or (λ v. insert s n (f v)) o s) t ≡ option_map_or (λ v. insert (joined s t) n (f v)) o (joined s t)
    by None = refl
    by (Some v) = put_left s t n (f v)

pub change_right : {V : Type 0} (s t : FinMap nat_cmp V) (n : ℕ) (f : V → V) → get s n ≡ None → joined s (change n f t) ≡ change n f (joined s t)
change_right {V} s t n f none = by (get t n) ∙ sym (ap (λ o. option_map_or (λ v. insert (joined s t) n (f v)) o (joined s t)) (get_right s t n none))
  where
    by : (o : Option V) → joined s (option_map_or (λ v. insert t n (f v)) o t) ≡ option_map_or (λ v. insert (joined s t) n (f v)) o (joined s t)
    by None = refl
    by (Some v) = put_right s t n (f v) none

-- Stores ---------------------------------------------------------------------

abbrev Objects : Type 0
Objects = FinMap nat_cmp Stored

abbrev IsApart : Objects → Objects → Type 0
IsApart s t = (n : ℕ) → IfSome (get s n) (λ o. get t n ≡ None)

-- what holds of an object of both holds of it on the left
pub left_if : (s t : Objects) (n : ℕ) (P : Stored → Type 0) → IfSome (get (joined s t) n) P → IfSome (get s n) P
left_if s t n P h = by (get s n) (subst (λ o. IfSome o P) (get_joined s t n) h)
  where
    by : (o : Option Stored) → IfSome (either o (get t n)) P → IfSome o P
    by None h = tt
    by (Some x) h = h

-- an object that is on the left is not on the right
pub left_apart : (s t : Objects) (n : ℕ) → IsApart s t → is_some (get s n) ≡ true → get t n ≡ None
left_apart s t n apart held = by (get s n) held (apart n)
  where
    by : (o : Option Stored) → is_some o ≡ true → IfSome o (λ x. get t n ≡ None) → get t n ≡ None
    by None h a = absurd (cc)
    by (Some x) h a = a

-- a word that is read on the left
abbrev word_read : ℕ → Option Stored → Result ℕ StoreFault
word_read place o = option_map_or (λ x. Ok (slice_index_or x.words place 0)) o (Err Gone)

pub read_left : (a b : Store) (n place w : ℕ) → store.read_word n place a ≡ Ok w → Ok w ≡ store.read_word n place (side_by_side a b)
read_left a b n place w is = by (get a.objects n) is ∙ sym (ap (word_read place) (get_joined a.objects b.objects n))
  where
    by : (o : Option Stored) → word_read place o ≡ Ok w → Ok w ≡ word_read place (either o (get b.objects n))
    by None e = absurd (cc)
    by (Some x) e = sym e

-- an object that is on the right is not on the left
pub not_left : (s t : Objects) (n : ℕ) → IsApart s t → is_some (get t n) ≡ true → get s n ≡ None
not_left s t n apart held = by (get s n) (apart n)
  where
    by : (o : Option Stored) → IfSome o (λ x. get t n ≡ None) → o ≡ None
    by None h = refl
    by (Some x) h = let no : true ≡ false = sym held ∙ ap is_some h in absurd (cc)

pub not_other : (s t : Objects) (n : ℕ) → IsApart s t → is_some (get s n) ≡ true → get t n ≡ None
not_other s t n apart held = by (get s n) (apart n) held
  where
    by : (o : Option Stored) → IfSome o (λ x. get t n ≡ None) → is_some o ≡ true → get t n ≡ None
    by None h is = absurd (cc)
    by (Some x) h is = h

pub not_right : (t : Objects) (n : ℕ) → is_some (get t n) ≡ false → get t n ≡ None
not_right t n held = by (get t n) held
  where
    by : (o : Option Stored) → is_some o ≡ false → o ≡ None
    by None h = refl
    by (Some x) h = absurd (cc)

-- what was not there is still not there
abbrev pub IsLess : Objects → Objects → Type 0
IsLess new old = (q : ℕ) → get old q ≡ None → get new q ≡ None

pub less_left : (s r t : Objects) → IsLess r s → IsApart s t → IsApart r t
less_left s r t less apart n = by (get s n) refl (apart n)
  where
    by : (o : Option Stored) → get s n ≡ o → IfSome o (λ x. get t n ≡ None) → IfSome (get r n) (λ x. get t n ≡ None)
    by None e h = subst (λ o. IfSome o (λ x. get t n ≡ None)) (sym (less n e)) tt
    by (Some x) e h = any (get r n)
      where
        any : (o : Option Stored) → IfSome o (λ y. get t n ≡ None)
        any None = tt
        any (Some y) = h

pub less_right : (s t r : Objects) → IsLess r t → IsApart s t → IsApart s r
less_right s t r less apart n = by (get s n) (apart n)
  where
    by : (o : Option Stored) → IfSome o (λ x. get t n ≡ None) → IfSome o (λ x. get r n ≡ None)
    by None h = tt
    by (Some x) h = less n h

pub put_apart_left : (s t : Objects) (n : ℕ) (v : Stored) → get t n ≡ None → IsApart s t → IsApart (insert s n v) t
put_apart_left s t n v none apart q = subst (λ o. IfSome o (λ x. get t q ≡ None)) (sym (get_put s n q v)) (by (nat_eq q n) refl)
  where
    by : (b : Bool) → nat_eq q n ≡ b → IfSome (cond b (Some v) (get s q)) (λ x. get t q ≡ None)
    by true e = ap (get t) (eqb-true q n e) ∙ none
    by false e = apart q

pub put_apart_right : (s t : Objects) (n : ℕ) (v : Stored) → get s n ≡ None → IsApart s t → IsApart s (insert t n v)
put_apart_right s t n v none apart q = by (nat_eq q n) refl (get s q) refl (apart q)
  where
    by : (b : Bool) → nat_eq q n ≡ b → (o : Option Stored) → get s q ≡ o → IfSome o (λ x. get t q ≡ None) → IfSome o (λ x. get (insert t n v) q ≡ None)
    by b e None g h = tt
    by true e (Some x) g h = let no : ◌≡◌ {A = Option Stored} None (Some x) = sym none ∙ ap (get s) (sym (eqb-true q n e)) ∙ g in absurd (cc)
    by false e (Some x) g h = get_put t n q v ∙ ap (λ b. cond b (Some v) (get t q)) e ∙ h

pub less_drop : (s : Objects) (n : ℕ) → IsLess (remove s n) s
less_drop s n q none = get_dropped s n q ∙ by (nat_eq q n)
  where
    by : (b : Bool) → cond b None (get s q) ≡ None
    by true = refl
    by false = none

pub less_change : (s : Objects) (n : ℕ) (f : Stored → Stored) → IsLess (change n f s) s
less_change s n f q none = by (get s n) refl
  where
    by : (o : Option Stored) → get s n ≡ o → get (option_map_or (λ v. insert s n (f v)) o s) q ≡ None
    by None e = none
    by (Some v) e = get_put s n q (f v) ∙ at (nat_eq q n) refl
      where
        at : (b : Bool) → nat_eq q n ≡ b → cond b (Some (f v)) (get s q) ≡ None
        at true is = let no : ◌≡◌ {A = Option Stored} None (Some v) = sym none ∙ ap (get s) (eqb-true q n is) ∙ e in absurd (cc)
        at false is = none

pub less_kept : (passes : Stored → Bool) (s : Objects) → IsLess (kept passes s) s
less_kept passes s q none = get_kept passes s q ∙ ap (kept_if passes) none

-- those that pass on both sides
pub kept_both : (passes : Stored → Bool) (s t : Objects) → IsApart s t → joined (kept passes s) (kept passes t) ≡ kept passes (joined s t)
kept_both passes s t apart = equal_maps (joined (kept passes s) (kept passes t)) (kept passes (joined s t)) (λ q.
    get_joined (kept passes s) (kept passes t) q ∙ ap (λ o. either o (get (kept passes t) q)) (get_kept passes s q) ∙ ap (either (kept_if passes (get s q))) (get_kept passes t q)
    ∙ by q (get s q) (apart q) ∙ sym (get_kept passes (joined s t) q ∙ ap (kept_if passes) (get_joined s t q)))
  where
    by : (q : ℕ) (o : Option Stored) → IfSome o (λ x. get t q ≡ None) → either (kept_if passes o) (kept_if passes (get t q)) ≡ kept_if passes (either o (get t q))
    by q None h = refl
    by q (Some x) h = ap (λ y. either (kept_if passes (Some x)) (kept_if passes y)) h ∙ either_none (kept_if passes (Some x))

-- the words of an object
pub words_left : (a b : Store) (n : ℕ) → get b.objects n ≡ None → store.words_of n (side_by_side a b) ≡ store.words_of n a
words_left a b n none = ap (λ o. option_map_or (λ (x : Stored). x.words) o []) (get_left a.objects b.objects n none)

pub words_right : (a b : Store) (n : ℕ) → get a.objects n ≡ None → store.words_of n (side_by_side a b) ≡ store.words_of n b
words_right a b n none = ap (λ o. option_map_or (λ (x : Stored). x.words) o []) (get_right a.objects b.objects n none)

module _ (a b : Store) where
  abbrev with_objects : Objects → Store
  with_objects o = record { objects = o; blocks = a.blocks; given = a.given; marks = b.marks; opened = b.opened; next_subpool = b.next_subpool }

  pub standard_side : (n words : ℕ) → side_by_side (store.with_object n words a) b ≡ store.with_object n words (side_by_side a b)
  standard_side n words = ap with_objects (put_left a.objects b.objects n _)

  pub held_side : (p address n words : ℕ) → side_by_side (store.hold_block p address n words a) b ≡ store.hold_block p address n words (side_by_side a b)
  held_side p address n words =
      let e = put_left a.objects b.objects n (record { spot = Some (record { pool = p; address = address }); site = None; words = replicate words 0 }) in
      λ i. record { objects = e i; blocks = change p (store.with_holder address (Some n)) a.blocks; given = a.given; marks = b.marks; opened = b.opened; next_subpool = b.next_subpool }

  pub held_in_side : (n p object words : ℕ) → get a.objects object ≡ None → side_by_side a (store.hold_in n p object words b) ≡ store.hold_in n p object words (side_by_side a b)
  held_in_side n p object words none =
      let e = put_right a.objects b.objects object (record { spot = None; site = Some (record { pool = p; subpool = n }); words = replicate words 0 }) none in
      λ i. record { objects = e i; blocks = a.blocks; given = a.given; marks = change p (marks.with_words_used words) b.marks; opened = b.opened; next_subpool = b.next_subpool }

  abbrev changed : ℕ → (Stored → Stored) → Store → Store
  changed n f s = record s { objects = change n f s.objects }

  pub changed_left : (n : ℕ) (f : Stored → Stored) → get b.objects n ≡ None → side_by_side (changed n f a) b ≡ changed n f (side_by_side a b)
  changed_left n f none = ap with_objects (change_left a.objects b.objects n f none)

  pub changed_right : (n : ℕ) (f : Stored → Stored) → get a.objects n ≡ None → side_by_side a (changed n f b) ≡ changed n f (side_by_side a b)
  changed_right n f none = ap with_objects (change_right a.objects b.objects n f none)

  abbrev copies : ℕ → ℕ → ℕ → ℕ → Store → Option Stored → Store
  copies n word target count s o = option_map_or (λ (x : Stored). changed n (store.with_words (overwritten target (run_of word count x.words))) s) o s

  pub copied_left : (n word target count : ℕ) → get b.objects n ≡ None → side_by_side (store.copied n word n target count a) b ≡ store.copied n word n target count (side_by_side a b)
  copied_left n word target count none = by (get a.objects n) ∙ sym (ap (copies n word target count (side_by_side a b)) (get_left a.objects b.objects n none))
    where
      by : (o : Option Stored) → side_by_side (copies n word target count a o) b ≡ copies n word target count (side_by_side a b) o
      by None = refl
      by (Some x) = changed_left n (store.with_words (overwritten target (run_of word count x.words))) none

  pub copied_right : (n word target count : ℕ) → get a.objects n ≡ None → side_by_side a (store.copied n word n target count b) ≡ store.copied n word n target count (side_by_side a b)
  copied_right n word target count none = by (get b.objects n) ∙ sym (ap (copies n word target count (side_by_side a b)) (get_right a.objects b.objects n none))
    where
      by : (o : Option Stored) → side_by_side a (copies n word target count b o) ≡ copies n word target count (side_by_side a b) o
      by None = refl
      by (Some x) = changed_right n (store.with_words (overwritten target (run_of word count x.words))) none

  pub less_copied : (n word target count : ℕ) (s : Store) → IsLess (store.copied n word n target count s).objects s.objects
  less_copied n word target count s = by (get s.objects n)
    where
      by : (o : Option Stored) → IsLess (copies n word target count s o).objects s.objects
      by None = λ q none. none
      by (Some x) = less_change s.objects n (store.with_words (overwritten target (run_of word count x.words)))

  abbrev spot_in : Option Stored → Option Spot
  spot_in o = option_map_or (λ x. x.spot) o None

  pub without_left : (n : ℕ) → get b.objects n ≡ None → side_by_side (store.without_object n a) b ≡ store.without_object n (side_by_side a b)
  without_left n none =
      let e = drop_left a.objects b.objects n none in
      let f = sym (ap (λ o. store.freed_spot (spot_in o) a.blocks) (get_left a.objects b.objects n none)) in
      λ i. record { objects = e i; blocks = f i; given = a.given; marks = b.marks; opened = b.opened; next_subpool = b.next_subpool }

  pub without_right : (n : ℕ) → get a.objects n ≡ None → store.spot_of n b ≡ None → side_by_side a (store.without_object n b) ≡ store.without_object n (side_by_side a b)
  without_right n none spot =
      let e = drop_right a.objects b.objects n none in
      let f = sym (ap (λ o. store.freed_spot (spot_in o) a.blocks) (get_right a.objects b.objects n none) ∙ ap (λ s. store.freed_spot s a.blocks) spot) in
      λ i. record { objects = e i; blocks = f i; given = a.given; marks = b.marks; opened = b.opened; next_subpool = b.next_subpool }

  pub vacated_left : (n : ℕ) → get b.objects n ≡ None → store.vacated n a ≡ store.vacated n (side_by_side a b)
  vacated_left n none =
      sym (ap (λ o. option_map_or (λ (x : Stored). Ok (option_map (λ (s : Spot). let r : Address = record { 0 = s.address } in r) x.spot)) o (Err Gone)) (get_left a.objects b.objects n none))

  pub vacated_right : (n : ℕ) → get a.objects n ≡ None → store.vacated n b ≡ store.vacated n (side_by_side a b)
  vacated_right n none =
      sym (ap (λ o. option_map_or (λ (x : Stored). Ok (option_map (λ (s : Spot). let r : Address = record { 0 = s.address } in r) x.spot)) o (Err Gone)) (get_right a.objects b.objects n none))

  pub detached_side : (n : ℕ) → side_by_side a (store.detached n b) ≡ store.detached n (side_by_side a b)
  detached_side n = by (store.pool_with n b)
    where
      by : (o : Option ℕ) → side_by_side a (option_map_or (λ p. store.change_marks p (marks.with_standing n Detached) b) o b)
          ≡ option_map_or (λ p. store.change_marks p (marks.with_standing n Detached) (side_by_side a b)) o (side_by_side a b)
      by None = refl
      by (Some p) = refl

  pub held_either : (n : ℕ) → is_some (get (joined a.objects b.objects) n) ≡ (is_some (get b.objects n) || is_some (get a.objects n))
  held_either n = ap is_some (get_joined a.objects b.objects n) ∙ by (get a.objects n) (get b.objects n)
    where
      by : (x y : Option Stored) → is_some (either x y) ≡ (is_some y || is_some x)
      by None None = refl
      by None (Some y) = refl
      by (Some x) None = refl
      by (Some x) (Some y) = refl

-- What a call that may fail leaves on one side -------------------------------------

pub after_left : {T E : Type 0} (r : Result T E) (new done old b : Store) → OnOk r (new ≡ done) → OnErr r (new ≡ old) → AreApart done b → AreApart old b → AreApart new b
after_left (Ok v) new done old b ok err new_apart old_apart = subst (λ s. AreApart s b) (sym ok) new_apart
after_left (Err v) new done old b ok err new_apart old_apart = subst (λ s. AreApart s b) (sym err) old_apart

-- an object that is new to both lies in a block on the left after success
pub apart_when_held : (r : Result Address StoreFault) (new old b : Store) (p n words : ℕ) → IfOk r (λ a. new ≡ store.hold_block p a.0 n words (store.take_block p old)) → OnErr r (new ≡ old)
    → get b.objects n ≡ None → AreApart old b → AreApart new b
apart_when_held (Ok a) new old b p n words ok err none apart = subst (λ s. AreApart s b) (sym ok) (put_apart_left old.objects b.objects n _ none apart)
apart_when_held (Err v) new old b p n words ok err none apart = subst (λ s. AreApart s b) (sym err) apart

pub after_right : {T E : Type 0} (r : Result T E) (a new done old : Store) → OnOk r (new ≡ done) → OnErr r (new ≡ old) → AreApart a done → AreApart a old → AreApart a new
after_right (Ok v) a new done old ok err new_apart old_apart = subst (AreApart a) (sym ok) new_apart
after_right (Err v) a new done old ok err new_apart old_apart = subst (AreApart a) (sym err) old_apart

pub none_joined : side_by_side store.no_store store.no_store ≡ store.no_store
none_joined =
    let none : Objects = empty in
    let e = equal_maps (joined none none) none (λ q. get_joined none none q ∙ ap (λ o. either o (get none q)) (get-empty nat_cmp q)) in
    λ i. record { objects = e i; blocks = empty; given = 0; marks = empty; opened = []; next_subpool = 1 }

-- no object goes where a subpool is detached
pub objects_detached : (a b : Store) (n : ℕ) (t : Bool) → AreApart a b → AreApart a (if t then store.detached n b else b)
objects_detached a b n false apart = apart
objects_detached a b n true apart = by (store.pool_with n b)
  where
    by : (o : Option ℕ) → AreApart a (option_map_or (λ p. store.change_marks p (marks.with_standing n Detached) b) o b)
    by None = apart
    by (Some p) = apart

-- A pool that closes on both sides ---------------------------------------------------

pub closed_apart : (a b : Store) (p : ℕ) → AreApart a b → AreApart (store.without_pool p a) (store.without_pool p b)
closed_apart a b p apart =
    let passes : Stored → Bool = λ o. not (store.lies_in p o) in
    less_right (kept passes a.objects) b.objects (kept passes b.objects) (less_kept passes b.objects) (less_left a.objects (kept passes a.objects) b.objects (less_kept passes a.objects) apart)

pub closed_side : (a b : Store) (p : ℕ) → AreApart a b → side_by_side (store.without_pool p a) (store.without_pool p b) ≡ store.without_pool p (side_by_side a b)
closed_side a b p apart =
    let passes : Stored → Bool = λ o. not (store.lies_in p o) in
    let e = kept_both passes a.objects b.objects apart in
    λ i. record { objects = e i; blocks = remove a.blocks p; given = a.given; marks = remove b.marks p; opened = store.others p b.opened; next_subpool = b.next_subpool }

-- A subpool that is released ---------------------------------------------------------

pub released_apart : (a b : Store) (n : ℕ) → AreApart a b → AreApart a (store.released_subpool n b)
released_apart a b n apart = by (store.pool_with n b)
  where
    by : (o : Option ℕ) → AreApart a (option_map_or (λ p. store.released_in p n b) o b)
    by None = apart
    by (Some p) = less_right a.objects b.objects _ (less_kept (λ o. not (store.lies_in_subpool p n o)) b.objects) apart

-- all objects that lie in no subpool stay
all_outside : (a : Store) (p n : ℕ) → AreOutside a → kept (λ o. not (store.lies_in_subpool p n o)) a.objects ≡ a.objects
all_outside a p n outside = equal_maps (kept (λ o. not (store.lies_in_subpool p n o)) a.objects) a.objects (λ q.
    get_kept (λ o. not (store.lies_in_subpool p n o)) a.objects q ∙ by (get a.objects q) (outside q))
  where
    by : (o : Option Stored) → IfSome o (λ x. x.site ≡ None) → kept_if (λ x. not (store.lies_in_subpool p n x)) o ≡ o
    by None h = refl
    by (Some x) h = ap (λ s. cond (not (option_map_or (λ (y : Site). nat_eq y.pool p && nat_eq y.subpool n) s false)) (Some x) None) h

pub released_side : (a b : Store) (n : ℕ) → AreApart a b → AreOutside a → side_by_side a (store.released_subpool n b) ≡ store.released_subpool n (side_by_side a b)
released_side a b n apart outside = by (store.pool_with n b)
  where
    by : (o : Option ℕ) → side_by_side a (option_map_or (λ p. store.released_in p n b) o b) ≡ option_map_or (λ p. store.released_in p n (side_by_side a b)) o (side_by_side a b)
    by None = refl
    by (Some p) =
        let passes : Stored → Bool = λ o. not (store.lies_in_subpool p n o) in
        let e = sym (ap (λ m. joined m (kept passes b.objects)) (all_outside a p n outside)) ∙ kept_both passes a.objects b.objects apart in
        λ i. record {
          objects = e i;
          blocks = a.blocks;
          given = a.given;
          marks = change p (marks.released n b.next_subpool) b.marks;
          opened = b.opened;
          next_subpool = b.next_subpool + cond (option_map_or (marks.is_renewed_by n) (get b.marks p) false) 1 0;
        }
