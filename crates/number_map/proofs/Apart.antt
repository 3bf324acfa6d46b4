-- One entry apart, and the others in a table: what a number gives in both.
use Rattle.std.proofs.Common.{◌≡◌, ℕ, ◌+◌, length, Bool, true, false, cond, List, ◌∷◌, Option, None, Some, refl, sym, ap, subst, ◌∙◌, arith}
use borrow.Author.Tests.{eq-eqb, eqb-true}
use Rattle.std.specs.Prelude.{nat_eq, is_some}
use Rattle.std.specs.Cmp.{nat_eq_equiv}
use Rattle.std.specs.Map.{lookup}
use Rattle.std.specs.FinMap.{get, insert, remove}
use Rattle.number_map.specs.declared.newest.Newest.{Newest}
use Rattle.number_map.specs.declared.newest.Newest.TheVariants.{Entry, Nothing}
use Rattle.number_map.specs.Newest.{StandsApart, all_of, entry_of, is_of, value_of, with_newest}
use Rattle.number_map.specs.Table.{Table}
use Rattle.number_map.proofs.Tables.{map_of, get_is_lookup, put_is_insert, drop_is_remove}

-- its own number gives its value
pub own_apart : {V : Type 0} (a : Newest V) (es : List (ℕ × V)) (n : ℕ) → is_of n a ≡ true → lookup (nat_eq n) (all_of a es) ≡ value_of a
own_apart Nothing es n own = absurd (cc)
own_apart (Entry k v) es n own = ap (λ b. cond b (Some v) (lookup (nat_eq n) es)) (nat_eq_equiv.symm n k ∙ own)

pub own_some : {V : Type 0} (a : Newest V) (n : ℕ) → is_of n a ≡ true → is_some (value_of a) ≡ true
own_some Nothing n own = absurd (cc)
own_some (Entry k v) n own = refl

-- any other number gives what it gives in the table
pub other_apart : {V : Type 0} (a : Newest V) (es : List (ℕ × V)) (n : ℕ) → is_of n a ≡ false → lookup (nat_eq n) (all_of a es) ≡ lookup (nat_eq n) es
other_apart Nothing es n other = refl
other_apart (Entry k v) es n other = ap (λ b. cond b (Some v) (lookup (nat_eq n) es)) (nat_eq_equiv.symm n k ∙ other)

-- a new entry apart, where the table gives what both gave before
pub put_apart : {V : Type 0} (a : Newest V) (es fs : List (ℕ × V)) (n : ℕ) (v : V) → ((q : ℕ) → lookup (nat_eq q) fs ≡ lookup (nat_eq q) (all_of a es))
    → map_of (all_of (Entry n v) fs) ≡ insert (map_of (all_of a es)) n v
put_apart a es fs n v same =
    put_is_insert (all_of a es) ((n, v) ∷ fs) n v (λ q. ap (λ b. cond b (Some v) (lookup (nat_eq q) fs)) (nat_eq_equiv.symm q n) ∙ ap (cond (nat_eq n q) (Some v)) (same q))

-- the entry apart is put into the table
pub filed : {V : Type 0} (es fs : List (ℕ × V)) (k : ℕ) (w : V) → ((q : ℕ) → lookup (nat_eq q) fs ≡ cond (nat_eq k q) (Some w) (lookup (nat_eq q) es))
    → (q : ℕ) → lookup (nat_eq q) fs ≡ lookup (nat_eq q) (all_of (Entry k w) es)
filed es fs k w says q = says q ∙ ap (λ b. cond b (Some w) (lookup (nat_eq q) es)) (nat_eq_equiv.symm k q)

-- the entry apart is taken away
pub take_apart : {V : Type 0} (es : List (ℕ × V)) (n : ℕ) (v : V) → StandsApart (Entry n v) es → map_of es ≡ remove (map_of (all_of (Entry n v) es)) n
take_apart {V} es n v apart = drop_is_remove ((n, v) ∷ es) es n (λ q. by q (nat_eq n q) refl ∙ ap (λ b. cond (nat_eq n q) None (cond b (Some v) (lookup (nat_eq q) es))) (nat_eq_equiv.symm n q))
  where
    by : (q : ℕ) (b : Bool) → nat_eq n q ≡ b → lookup (nat_eq q) es ≡ cond b None (cond b (Some v) (lookup (nat_eq q) es))
    by q true e = ap (λ k. lookup (nat_eq k) es) (sym (eqb-true n q e)) ∙ apart
    by q false e = refl

-- another entry is taken out of the table
pub drop_other : {V : Type 0} (a : Newest V) (es fs : List (ℕ × V)) (n : ℕ) → is_of n a ≡ false → ((q : ℕ) → lookup (nat_eq q) fs ≡ cond (nat_eq n q) None (lookup (nat_eq q) es))
    → map_of (all_of a fs) ≡ remove (map_of (all_of a es)) n
drop_other Nothing es fs n other says = drop_is_remove es fs n says
drop_other {V} (Entry k v) es fs n other says = drop_is_remove ((k, v) ∷ es) ((k, v) ∷ fs) n (λ q. ap (cond (nat_eq q k) (Some v)) (says q) ∙ by q (nat_eq q k) refl (nat_eq n q) refl)
  where
    by : (q : ℕ) (b : Bool) → nat_eq q k ≡ b → (c : Bool) → nat_eq n q ≡ c
        → cond b (Some v) (cond c None (lookup (nat_eq q) es)) ≡ cond c None (cond b (Some v) (lookup (nat_eq q) es))
    by q true is true there = let same : n ≡ k = eqb-true n q there ∙ eqb-true q k is in absurd (cc (other, eq-eqb k n (sym same)))
    by q true is false there = refl
    by q false is c there = refl

-- the number of a new entry has none
pub still_apart : {V : Type 0} (a : Newest V) (es fs : List (ℕ × V)) (n : ℕ) (v : V) → ((q : ℕ) → lookup (nat_eq q) fs ≡ lookup (nat_eq q) (all_of a es))
    → get (map_of (all_of a es)) n ≡ None → StandsApart (Entry n v) fs
still_apart a es fs n v same none = same n ∙ sym (get_is_lookup (all_of a es) n) ∙ none

-- the entry of this number is taken away
pub take_own : {V : Type 0} (a : Newest V) (es : List (ℕ × V)) (n : ℕ) → is_of n a ≡ true → StandsApart a es → map_of es ≡ remove (map_of (all_of a es)) n
take_own Nothing es n own apart = absurd (cc)
take_own (Entry k v) es n own apart = take_apart es k v apart ∙ ap (remove (map_of ((k, v) ∷ es))) (eqb-true k n own)

-- another value is written at a number ---------------------------------------------------------------------

-- at that of the entry apart
pub put_own : {V : Type 0} (a : Newest V) (es : List (ℕ × V)) (n : ℕ) (w : V) → is_of n a ≡ true → map_of (all_of (with_newest a w) es) ≡ insert (map_of (all_of a es)) n w
put_own Nothing es n w own = absurd (cc)
put_own {V} (Entry k v) es n w own =
    put_is_insert ((k, v) ∷ es) ((k, w) ∷ es) n w (λ q. by (nat_eq q k) (lookup (nat_eq q) es) ∙ ap (λ b. cond b (Some w) (cond (nat_eq q k) (Some v) (lookup (nat_eq q) es))) (nat_eq_equiv.symm q k ∙ ap (λ m. nat_eq m q) (eqb-true k n own)))
  where
    by : (b : Bool) (r : Option V) → cond b (Some w) r ≡ cond b (Some w) (cond b (Some v) r)
    by true r = refl
    by false r = refl

pub same_length : {V : Type 0} (a : Newest V) (es : List (ℕ × V)) (w : V) → length (all_of (with_newest a w) es) ≡ length (all_of a es)
same_length Nothing es w = refl
same_length (Entry k v) es w = refl

-- at another one, which has an entry in the table
pub put_other : {V : Type 0} (a : Newest V) (es fs : List (ℕ × V)) (n : ℕ) (w : V) → is_of n a ≡ false → ((q : ℕ) → lookup (nat_eq q) fs ≡ cond (nat_eq n q) (Some w) (lookup (nat_eq q) es))
    → map_of (all_of a fs) ≡ insert (map_of (all_of a es)) n w
put_other Nothing es fs n w other says = put_is_insert es fs n w says
put_other {V} (Entry k v) es fs n w other says = put_is_insert ((k, v) ∷ es) ((k, v) ∷ fs) n w (λ q. ap (cond (nat_eq q k) (Some v)) (says q) ∙ by q (nat_eq q k) refl (nat_eq n q) refl)
  where
    by : (q : ℕ) (b : Bool) → nat_eq q k ≡ b → (c : Bool) → nat_eq n q ≡ c
        → cond b (Some v) (cond c (Some w) (lookup (nat_eq q) es)) ≡ cond c (Some w) (cond b (Some v) (lookup (nat_eq q) es))
    by q true is true there = let same : n ≡ k = eqb-true n q there ∙ eqb-true q k is in absurd (cc (other, eq-eqb k n (sym same)))
    by q true is false there = refl
    by q false is c there = refl

pub apart_from_other : {V : Type 0} (a : Newest V) (es fs : List (ℕ × V)) (n : ℕ) (w : V) → is_of n a ≡ false → ((q : ℕ) → lookup (nat_eq q) fs ≡ cond (nat_eq n q) (Some w) (lookup (nat_eq q) es))
    → StandsApart a es → StandsApart a fs
apart_from_other Nothing es fs n w other says apart = tt
apart_from_other (Entry k v) es fs n w other says apart = says k ∙ ap (λ b. cond b (Some w) (lookup (nat_eq k) es)) (nat_eq_equiv.symm n k ∙ other) ∙ apart

pub alike_length : {V : Type 0} (a : Newest V) (es fs : List (ℕ × V)) → length fs ≡ length es → length (all_of a fs) ≡ length (all_of a es)
alike_length Nothing es fs same = same
alike_length (Entry k v) es fs same = omega arith

-- an entry is taken out, whichever it is -------------------------------------------------------------------

pub popped_own : {V : Type 0} (a : Newest V) (es : List (ℕ × V)) (e : ℕ × V) (t : Table V) → Some e ≡ entry_of a → StandsApart a es → map_of (all_of a es) ≡ t.values → length (all_of a es) ≡ t.size
    → (get t.values e.0 ≡ Some e.1) × (map_of es ≡ remove t.values e.0) × (length es + 1 ≡ t.size)
popped_own Nothing es e t is apart values size = absurd (cc)
popped_own {V} (Entry k v) es e t is apart values size =
    let same : e ≡ (k, v) = cc in
    let here : lookup (nat_eq k) ((k, v) ∷ es) ≡ Some v = own_apart (Entry k v) es k (eq-eqb k k refl) in (
      ap (λ m. get m e.0) (sym values) ∙ get_is_lookup ((k, v) ∷ es) e.0 ∙ subst (λ (x : ℕ × V). lookup (nat_eq x.0) ((k, v) ∷ es) ≡ Some x.1) (sym same) here,
      take_apart es k v apart ∙ ap (remove (map_of ((k, v) ∷ es))) (ap (λ (x : ℕ × V). x.0) (sym same)) ∙ ap (λ m. remove m e.0) values,
      omega arith,
    )

pub no_entry : {V : Type 0} (a : Newest V) → None ≡ entry_of a → a ≡ Nothing
no_entry Nothing none = refl
no_entry (Entry k v) none = absurd (cc)
