-- A table of entries, and the finite map that it is seen as.
use Rattle.std.proofs.Common.{◌≡◌, ℕ, zero, suc, ◌+◌, ◌<◌, length, Bool, true, false, cond, List, [], ◌∷◌, ◌++◌, Option, None, Some, IsSome, MutBor, refl, sym, ap, ◌∙◌, arith}
use borrow.Author.Tests.{eq-eqb, eqb-true}
use borrow.Follows.Closed.{read_of}
use Rattle.std.specs.Option.{ghost_name_of, option_map, option_to_list}
use Rattle.std.specs.Prelude.{map, slice_get, nat_eq, is_some, Result, Ok, Err, IsOk, OnOk, IfNone, IfSome, MatchOption}
use Rattle.number_map.specs.Table.{StandsAt, Table}
use Rattle.std.specs.Ordering.{nat_cmp, eq_by_cmp}
use Rattle.std.specs.Cmp.{nat_cmp_total, unsigned_tied, nat_eq_equiv}
use Rattle.std.specs.Map.{lookup, lookup_key}
use Rattle.std.proofs.lemmas.Option.{slice_get-map}
use Rattle.std.specs.FinMap.{FinMap, empty, from_entries, get, insert, remove, find, get-empty, get-from_entries, get-insert, get-remove, same_map, nat_cmp-IsAntisymmetric}

abbrev pub map_of : {V : Type 0} → List (ℕ × V) → FinMap nat_cmp V
map_of es = from_entries {R = nat_cmp} es

find_is_lookup : {V : Type 0} (es : List (ℕ × V)) (q : ℕ) → find nat_cmp q es ≡ lookup (nat_eq q) es
find_is_lookup [] q = refl
find_is_lookup {V} (e ∷ es) q = ap (λ b. cond b (Some e.1) (find nat_cmp q es)) (unsigned_tied q e.0) ∙ ap (cond (nat_eq q e.0) (Some e.1)) (find_is_lookup es q)

-- what the map gives is what the table gives
pub get_is_lookup : {V : Type 0} (es : List (ℕ × V)) (q : ℕ) → get (map_of es) q ≡ lookup (nat_eq q) es
get_is_lookup es q = get-from_entries nat_cmp_total es q ∙ find_is_lookup es q

pub contains_is_lookup : {V : Type 0} (es : List (ℕ × V)) (q : ℕ) → is_some (get (map_of es) q) ≡ is_some (lookup (nat_eq q) es)
contains_is_lookup es q = ap is_some (get_is_lookup es q)

tied : (q k : ℕ) → eq_by_cmp nat_cmp q k ≡ nat_eq k q
tied q k = unsigned_tied q k ∙ nat_eq_equiv.symm q k

-- a table that has one more value, or another one, is the map with that value
pub put_is_insert : {V : Type 0} (es fs : List (ℕ × V)) (k : ℕ) (v : V) → ((q : ℕ) → lookup (nat_eq q) fs ≡ cond (nat_eq k q) (Some v) (lookup (nat_eq q) es)) → map_of fs ≡ insert (map_of es) k v
put_is_insert es fs k v says =
    same_map nat_cmp_total nat_cmp-IsAntisymmetric (map_of fs) (insert (map_of es) k v) (λ q.
    get_is_lookup fs q ∙ says q ∙ ap (cond (nat_eq k q) (Some v)) (sym (get_is_lookup es q))
    ∙ ap (λ b. cond b (Some v) (get (map_of es) q)) (sym (tied q k)) ∙ sym (get-insert nat_cmp_total (map_of es) k v q))

-- a table that has lost a number is the map without it
pub drop_is_remove : {V : Type 0} (es fs : List (ℕ × V)) (k : ℕ) → ((q : ℕ) → lookup (nat_eq q) fs ≡ cond (nat_eq k q) None (lookup (nat_eq q) es)) → map_of fs ≡ remove (map_of es) k
drop_is_remove es fs k says =
    same_map nat_cmp_total nat_cmp-IsAntisymmetric (map_of fs) (remove (map_of es) k) (λ q.
    get_is_lookup fs q ∙ says q ∙ ap (cond (nat_eq k q) None) (sym (get_is_lookup es q))
    ∙ ap (λ b. cond b None (get (map_of es) q)) (sym (tied q k)) ∙ sym (get-remove nat_cmp_total (map_of es) k q))

-- what a lender ends as: with a reference by the value behind it, and without one as it is
pub lent : {D V : Type 0} (r : Option (MutBor V)) (F G : V → D) (d e : D) → (IsSome r → (w : V) → F w ≡ G w) → (r ≡ None → d ≡ e)
    → read_of (ghost_name_of r) F d ≡ read_of (ghost_name_of r) G e
lent {V = V} None F G d e some none = let nothing : Option (MutBor V) = None in ap (read_of (ghost_name_of nothing) G) (none refl)
lent (Some x) F G d e some none = ap (λ H. read_of (ghost_name_of (Some x)) H d) (λ i w. some refl w i)

-- a call that succeeds ensures what it ensures where it succeeds
pub by_success : {T E : Type 0} (r : Result T E) (P : Type 0) → IsOk r → OnOk r P → P
by_success (Ok x) P ok says = says
by_success (Err e) P ok says = absurd (cc)

pub same_table : {V : Type 0} (s t : Table V) → s.values ≡ t.values → s.room ≡ t.room → s.size ≡ t.size → s ≡ t
same_table s t values room size i = record { values = values i; room = room i; size = size i }

-- the last of a list is what its number gives, where no other one has that number
pub lookup_last : {V : Type 0} (es : List (ℕ × V)) (k : ℕ) (v : V) → lookup (nat_eq k) es ≡ None → lookup (nat_eq k) (es ++ (k, v) ∷ []) ≡ Some v
lookup_last [] k v none = ap (λ b. cond b (Some v) None) (eq-eqb k k refl)
lookup_last {V} (e ∷ es) k v none = by (nat_eq k e.0) (lookup_last es k v) none
  where
    by : (b : Bool) → (lookup (nat_eq k) es ≡ None → lookup (nat_eq k) (es ++ (k, v) ∷ []) ≡ Some v)
        → cond b (Some e.1) (lookup (nat_eq k) es) ≡ None → cond b (Some e.1) (lookup (nat_eq k) (es ++ (k, v) ∷ [])) ≡ Some v
    by true more h = absurd (cc)
    by false more h = more h

-- a table of nothing is the empty map
pub map_of_none : {V : Type 0} (es : List (ℕ × V)) → es ≡ [] → map_of es ≡ empty
map_of_none {V} es none =
    let nothing : FinMap nat_cmp V = empty in
    ap map_of none ∙ same_map nat_cmp_total nat_cmp-IsAntisymmetric (map_of []) nothing (λ q. get_is_lookup [] q ∙ sym (get-empty nat_cmp q))

nothing : (n : ℕ) → (0 < n → ⊥) → n ≡ 0
nothing zero none = refl
nothing (suc n) none = absurd (none (omega arith))

empty_list : {X : Type 0} (xs : List X) → length xs ≡ 0 → xs ≡ []
empty_list [] e = refl
empty_list (x ∷ xs) e = absurd (omega arith)

-- an entry that is taken out is what its number gives, and the rest is the map without it
pub popped : {V : Type 0} (r : Option (ℕ × V)) (es fs : List (ℕ × V)) (t : Table V) → map_of es ≡ t.values → length es ≡ t.size → es ≡ fs ++ option_to_list r
    → IfSome r (λ e. (q : ℕ) → lookup (nat_eq q) fs ≡ cond (nat_eq e.0 q) None (lookup (nat_eq q) es))
    → length fs + cond (is_some r) 1 0 ≡ length es → (IsSome r → 0 < length es) × (0 < length es → IsSome r)
    → MatchOption r ((t.values ≡ empty) × (t.size ≡ 0) × (map_of fs ≡ empty) × (length fs ≡ 0)) (λ e. (get t.values e.0 ≡ Some e.1) × (map_of fs ≡ remove t.values e.0) × (length fs + 1 ≡ t.size))
popped {V} None es fs t values size e says long found =
    let none : length es ≡ 0 = nothing (length es) (λ (h : 0 < length es). let no : IsSome {T = ℕ × V} None = found.1 h in cc) in
    (sym values ∙ map_of_none es (empty_list es none), omega arith, map_of_none fs (empty_list fs (omega arith)), omega arith)
popped (Some (k, v)) es fs t values size e says long found =
    let gone : lookup (nat_eq k) fs ≡ None = says k ∙ ap (λ b. cond b None (lookup (nat_eq k) es)) (eq-eqb k k refl) in (
      ap (λ m. get m k) (sym values) ∙ get_is_lookup es k ∙ ap (lookup (nat_eq k)) e ∙ lookup_last fs k v gone,
      drop_is_remove es fs k says ∙ ap (λ m. remove m k) values,
      omega arith,
    )

-- the key that a number finds is the number
pub key_is : {V : Type 0} (es : List (ℕ × V)) (n k : ℕ) → lookup_key (nat_eq n) es ≡ Some k → k ≡ n
key_is [] n k e = absurd (cc)
key_is {V} (x ∷ xs) n k e = by (nat_eq n x.0) refl (key_is xs n k) e
  where
    by : (b : Bool) → nat_eq n x.0 ≡ b → (lookup_key (nat_eq n) xs ≡ Some k → k ≡ n) → cond b (Some x.0) (lookup_key (nat_eq n) xs) ≡ Some k → k ≡ n
    by true same further e = let equal : n ≡ x.0 = eqb-true n x.0 same in let is : x.0 ≡ k = search (e) in sym is ∙ sym equal
    by false same further e = further e

-- one entry has one value
pub same_value : {V : Type 0} (o : Option (ℕ × V)) (n : ℕ) (v : V) (k : ℕ) (w : V) → o ≡ Some (n, v) → Some (k, w) ≡ o → Some w ≡ Some v
same_value {V} o n v k w is was = ap (option_map {T = ℕ × V} (λ x. x.1)) was ∙ ap (option_map {T = ℕ × V} (λ x. x.1)) is

-- the value of an entry
pub value_at : {V : Type 0} (es : List (ℕ × V)) (n i : ℕ) (v : V) → slice_get es i ≡ Some (n, v) → slice_get (map (λ e. e.1) es) i ≡ Some v
value_at {V} es n i v at = slice_get-map (λ (e : ℕ × V). e.1) es i ∙ ap (option_map {T = ℕ × V} (λ e. e.1)) at

-- where an entry has the number, the number has a value
pub there : {V : Type 0} (es : List (ℕ × V)) (n : ℕ) (r : Option ℕ) → IfSome r (StandsAt es n) → IfNone r (lookup (nat_eq n) es ≡ None) → is_some r ≡ is_some (lookup (nat_eq n) es)
there es n None found absent = ap is_some (sym absent)
there es n (Some i) found absent = ap is_some (sym found.found)
