-- Allocated objects in the order of their numbers: what a number finds, and how the list changes.
use Rattle.std.proofs.Common.{◌≡◌, ◌≢◌, ◌∙◌, ℕ, ◌+◌, ◌<◌, List, [], ◌∷◌, ◌++◌, Option, Some, None, Bool, true, false, cond, refl, sym, map, ap, arith}
use Rattle.std.specs.Prelude.{nat_eq, nat_lt, ◌&&◌, T}
use Rattle.std.specs.Option.{option_map, option_or}
use Rattle.std.specs.Ordering.{nat_cmp, is_lt}
use Rattle.std.specs.declared.cmp.Ordering.TheVariants.{Less, Equal, Greater}
use Rattle.std.specs.FinMap.Entries.{below_all}
use Rattle.std.specs.Cmp.{unsigned_tied, nat_eq_equiv}
use Rattle.std.specs.FinMap.{FinMap, entries, entries_sorted, find, get, get-entries, is_sorted}
use Rattle.std.proofs.lemmas.Bool.Decides.{nat_tests}
use borrow.Author.Tests.{eqb-true, eq-eqb}
use Rattle.ctl_meaning.specs.World.{Object}
use Rattle.ctl_meaning.specs.Lists.{keep}
use Rattle.ctl_meaning.specs.Objects.{change_in, object_in}
use Rattle.pool_store.specs.Store.{Store, words_of}
use Rattle.ctl_storage.specs.declared.existing.Allocation.{Allocation}
use Rattle.ctl_storage.specs.Order.{Rise, AreBelow}
use Rattle.ctl_storage.specs.Allocated.{allocated}
use Rattle.ctl_storage.specs.Inside.{seen}
use Rattle.ctl_storage.proofs.Rising.{KeepsNumbers, kept_one, in_none, in_more, same_objects, in_change, rise_change, in_keep, rise_keep, in_newest, rise_newest, none_above}

abbrev Entry : Type 0
Entry = ℕ × Allocation

abbrev shown : Store → Entry → Object
shown s e = allocated e.0 e.1 (words_of e.0 s)

-- what a number finds
abbrev pub found : FinMap nat_cmp Allocation → Store → ℕ → Option Object
found objects s k = option_map (λ a. allocated k a (words_of k s)) (get objects k)

in_entries : (s : Store) (k : ℕ) (es : List Entry) → object_in k (map (shown s) es) ≡ option_map (λ a. allocated k a (words_of k s)) (find nat_cmp k es)
in_entries s k [] = in_none k
in_entries s k (e ∷ es) =
    in_more k (shown s e) (map (shown s) es)
    ∙ (by (in_entries s k es) (nat_eq e.0 k) refl
    ∙ ap (λ b. option_map (λ a. allocated k a (words_of k s)) (cond b (Some e.1) (find nat_cmp k es))) (sym (unsigned_tied k e.0 ∙ nat_eq_equiv.symm k e.0)))
  where
    by : object_in k (map (shown s) es) ≡ option_map (λ a. allocated k a (words_of k s)) (find nat_cmp k es)
        → (b : Bool) → nat_eq e.0 k ≡ b → cond b (Some (shown s e)) (object_in k (map (shown s) es)) ≡ option_map (λ a. allocated k a (words_of k s)) (cond b (Some e.1) (find nat_cmp k es))
    by ih true is = ap (λ m. Some (allocated m e.1 (words_of m s))) (eqb-true e.0 k is)
    by ih false is = ih

pub in_seen : (objects : FinMap nat_cmp Allocation) (s : Store) (k : ℕ) → object_in k (seen objects s) ≡ found objects s k
unfolding seen
in_seen objects s k = in_entries s k (entries objects) ∙ ap (option_map (λ a. allocated k a (words_of k s))) (sym (get-entries objects k))

-- Their numbers rise ---------------------------------------------------------------------------------------

one_of : (a b : Bool) → T (a && b) → T a
one_of true b h = tt
one_of false b h = h

other_of : (a b : Bool) → T (a && b) → T b
other_of true b h = h
other_of false b h = absurd h

less_of : (x y : ℕ) → T (is_lt (nat_cmp x y)) → x < y
less_of x y h = by (nat_lt x y) refl h
  where
    none : (b : Bool) → T (is_lt (cond b Equal Greater)) → ⊥
    none true h = h
    none false h = h

    by : (b : Bool) → nat_lt x y ≡ b → T (is_lt (cond b Less (cond (nat_eq x y) Equal Greater))) → x < y
    by true is h = grind (arith, nat_tests, is)
    by false is h = absurd (none (nat_eq x y) h)

rise_behind : (s : Store) (x : ℕ) (es : List Entry) → T (below_all nat_cmp x es) → T (is_sorted nat_cmp es) → Rise (x + 1) (map (shown s) es)
rise_behind s x [] below sorted = tt
rise_behind s x (e ∷ es) below sorted =
    let less = less_of x e.0 (one_of (is_lt (nat_cmp x e.0)) (below_all nat_cmp x es) below) in
    (omega (arith, less), rise_behind s e.0 es (one_of (below_all nat_cmp e.0 es) (is_sorted nat_cmp es) sorted) (other_of (below_all nat_cmp e.0 es) (is_sorted nat_cmp es) sorted))

rise_entries : (s : Store) (es : List Entry) → T (is_sorted nat_cmp es) → Rise 0 (map (shown s) es)
rise_entries s [] sorted = tt
rise_entries s (e ∷ es) sorted =
    (omega arith, rise_behind s e.0 es (one_of (below_all nat_cmp e.0 es) (is_sorted nat_cmp es) sorted) (other_of (below_all nat_cmp e.0 es) (is_sorted nat_cmp es) sorted))

pub rise_seen : (objects : FinMap nat_cmp Allocation) (s : Store) → Rise 0 (seen objects s)
unfolding seen
rise_seen objects s = rise_entries s (entries objects) (entries_sorted objects)

-- The list changes -----------------------------------------------------------------------------------------

abbrev pub Objects : Type 0
Objects = FinMap nat_cmp Allocation

-- one object is changed
pub seen_changed : (os bs : Objects) (s t : Store) (n : ℕ) (f : Object → Object) → KeepsNumbers f → ((k : ℕ) → k ≢ n → found bs t k ≡ found os s k) → found bs t n ≡ option_map f (found os s n)
    → seen bs t ≡ change_in n f (seen os s)
seen_changed os bs s t n f keeps others own =
    same_objects 0 (seen bs t) (change_in n f (seen os s)) (rise_seen bs t) (rise_change n f keeps 0 (seen os s) (rise_seen os s)) (λ k.
    in_seen bs t k ∙ (by k (nat_eq k n) refl ∙ sym (in_change n f keeps k (seen os s) ∙ ap (λ x. cond (nat_eq k n) (option_map f x) x) (in_seen os s k))))
  where
    by : (k : ℕ) (b : Bool) → nat_eq k n ≡ b → found bs t k ≡ cond b (option_map f (found os s k)) (found os s k)
    by k true is = ap (found bs t) (eqb-true k n is) ∙ (own ∙ ap (λ m. option_map f (found os s m)) (sym (eqb-true k n is)))
    by k false is = others k (λ same. let no : true ≡ false = sym (eq-eqb k n same) ∙ is in cc)

-- an object is new
pub seen_new : (os bs : Objects) (s t : Store) (x : Object) → AreBelow x.number (seen os s) → ((k : ℕ) → k ≢ x.number → found bs t k ≡ found os s k) → found bs t x.number ≡ Some x
    → seen bs t ≡ seen os s ++ x ∷ []
seen_new os bs s t x below others own =
    same_objects 0 (seen bs t) (seen os s ++ x ∷ []) (rise_seen bs t) (rise_newest 0 (seen os s) x (rise_seen os s) below (omega arith)) (λ k.
    in_seen bs t k ∙ (by k (nat_eq x.number k) refl ∙ sym (in_newest k (seen os s) x)))
  where
    none : object_in x.number (seen os s) ≡ None
    none = none_above x.number (seen os s) below

    or_none : (o : Option Object) → o ≡ option_or o None
    or_none None = refl
    or_none (Some z) = refl

    by : (k : ℕ) (b : Bool) → nat_eq x.number k ≡ b → found bs t k ≡ option_or (object_in k (seen os s)) (cond b (Some x) None)
    by k true is =
        let same = eqb-true x.number k is in
        ap (found bs t) (sym same) ∙ (own ∙ ap (λ o. option_or o (Some x)) (sym (ap (λ m. object_in m (seen os s)) (sym same) ∙ none)))
    by k false is =
        others k (λ same. let no : true ≡ false = sym (eq-eqb x.number k (sym same)) ∙ is in cc) ∙ (sym (in_seen os s k) ∙ or_none (object_in k (seen os s)))

-- some objects go
pub seen_kept : (os bs : Objects) (s t : Store) (p : Object → Bool) → ((k : ℕ) → found bs t k ≡ kept_one p (found os s k)) → seen bs t ≡ keep p (seen os s)
seen_kept os bs s t p each =
    same_objects 0 (seen bs t) (keep p (seen os s)) (rise_seen bs t) (rise_keep p 0 (seen os s) (rise_seen os s)) (λ k.
    in_seen bs t k ∙ (each k ∙ sym (in_keep p 0 k (seen os s) (rise_seen os s) ∙ ap (kept_one p) (in_seen os s k))))
