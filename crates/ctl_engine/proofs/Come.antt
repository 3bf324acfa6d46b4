-- What has come, in the order of the numbers of collections: so one is found by its number.
use Rattle.std.proofs.Common.{◌≡◌, ◌∙◌, ℕ, zero, suc, ◌+◌, ◌-◌, ◌<◌, ◌≤◌, List, [], ◌∷◌, Some, None, Bool, true, false, arith, length, refl, sym, ap, subst, drop}
use Rattle.std.specs.Prelude.{IsFalse, nat_eq, nat_lt, slice_get}
use Rattle.std.proofs.lemmas.Bool.Decides.{nat_tests}
use Rattle.std.proofs.lemmas.Option.{slice_get_within}
use Rattle.ctl_meaning.specs.World.{Collection}
use Rattle.ctl_meaning.specs.Lists.{opened_lists}
use Rattle.ctl_frames.specs.declared.frame.Owned.{Owned}
use Rattle.ctl_frames.specs.declared.frame.Role.{Role}
use Rattle.ctl_frames.specs.declared.frame.Role.TheVariants as RoleOf
use Rattle.ctl_frames.specs.Owned.{HasCome, HaveCome, IsSet, IsSetAs, collection_of, set_in, set_over, sets_over, sets_owned, started_in}
use Rattle.ctl_engine.proofs.Declared.{drop_get, same_item}
use Rattle.ctl_engine.proofs.Gathered.{come_before}
use Rattle.ctl_frames.proofs.Lists.{eq_same, eq_differs, same_at}

-- In order -----------------------------------------------------------------------------------------------

-- a collection is newer than those before it
set_has : (role : Role) (number collections before n : ℕ) → HasCome role number collections before → IsSetAs role number n → (before < n) × (collections ≡ n)
set_has (RoleOf.Object t) number collections before n h is = absurd is
set_has (RoleOf.Collection started count) number collections before n h is = let more = h.0 in let same = h.1 in (omega (arith, more, same, is), omega (arith, same, is))

pub all_come : (os : List Owned) (before given j : ℕ) (b : Owned) → HaveCome before os given → slice_get os j ≡ Some b → before ≤ b.collections
all_come [] before given j b h e = absurd (cc)
all_come (o ∷ os) before given zero b h e = subst (λ (z : Owned). before ≤ z.collections) (same_item o b e) (come_before o.role o.number o.collections before h.0)
all_come (o ∷ os) before given (suc j) b h e =
    let first = come_before o.role o.number o.collections before h.0 in
    let others = all_come os o.collections given j b h.1 e in
    omega (arith, first, others)

set_come : (os : List Owned) (before given j n : ℕ) (b : Owned) → HaveCome before os given → slice_get os j ≡ Some b → IsSet n b → (before < n) × (b.collections ≡ n)
set_come [] before given j n b h e is = absurd (cc)
set_come (o ∷ os) before given zero n b h e is = subst (λ (z : Owned). (before < n) × (z.collections ≡ n)) (same_item o b e) (set_has o.role o.number o.collections before n h.0 (subst (λ (z : Owned). IsSet n z) (sym (same_item o b e)) is))
set_come (o ∷ os) before given (suc j) n b h e is =
    let first = come_before o.role o.number o.collections before h.0 in
    let others = set_come os o.collections given j n b h.1 e is in
    let less = others.0 in
    (omega (arith, first, less), others.1)

earlier_lower : (os : List Owned) (before given i j : ℕ) (a b : Owned) → HaveCome before os given → slice_get os i ≡ Some a → slice_get os j ≡ Some b → i < j → a.collections ≤ b.collections
earlier_lower [] before given i j a b h first second less = absurd (cc)
earlier_lower (o ∷ os) before given i zero a b h first second less = absurd (omega (arith, less))
earlier_lower (o ∷ os) before given zero (suc j) a b h first second less = subst (λ (z : Owned). z.collections ≤ b.collections) (same_item o a first) (all_come os o.collections given j b h.1 second)
earlier_lower (o ∷ os) before given (suc i) (suc j) a b h first second less = earlier_lower os o.collections given i j a b h.1 first second (omega (arith, less))

before_set : (os : List Owned) (before given i j n : ℕ) (a b : Owned) → HaveCome before os given → slice_get os i ≡ Some a → slice_get os j ≡ Some b → i < j → IsSet n b → a.collections < n
before_set [] before given i j n a b h first second less is = absurd (cc)
before_set (o ∷ os) before given i zero n a b h first second less is = absurd (omega (arith, less))
before_set (o ∷ os) before given zero (suc j) n a b h first second less is = subst (λ (z : Owned). z.collections < n) (same_item o a first) (set_come os o.collections given j n b h.1 second is).0
before_set (o ∷ os) before given (suc i) (suc j) n a b h first second less is = before_set os o.collections given i j n a b h.1 first second (omega (arith, less)) is

-- The search ---------------------------------------------------------------------------------------------

-- up to what knows only older ones than this, it is not there
pub not_in_front : (os : List Owned) (given i j n : ℕ) (a b : Owned) → HaveCome 0 os given → slice_get os i ≡ Some a → slice_get os j ≡ Some b → i ≤ j → b.collections < n → IsSet n a → ⊥
not_in_front os given i j n a b h first second less lower is = by (nat_lt i j) refl
  where
    by : (more : Bool) → nat_lt i j ≡ more → ⊥
    by true e =
        let up = earlier_lower os 0 given i j a b h first second (grind (arith, nat_tests, e)) in
        let known = (set_come os 0 given i n a h first is).1 in
        omega (arith, up, known, lower)
    by false e =
        let here : i ≡ j = grind (arith, nat_tests, e, less) in
        let same = ap (λ (z : Owned). z.collections) (same_at a b (slice_get os j) (ap (λ k. slice_get os k) (sym here) ∙ first) second) in
        let known = (set_come os 0 given i n a h first is).1 in
        omega (arith, same, known, lower)

-- and from what knows this one or a newer one on, unless it is there
pub not_behind : (os : List Owned) (given i j n : ℕ) (a b : Owned) → HaveCome 0 os given → slice_get os i ≡ Some a → slice_get os j ≡ Some b → j ≤ i → n ≤ b.collections → (IsSet n b → ⊥) → IsSet n a → ⊥
not_behind os given i j n a b h first second less higher other is = by (nat_lt j i) refl
  where
    by : (more : Bool) → nat_lt j i ≡ more → ⊥
    by true e =
        let up = before_set os 0 given j i n b a h second first (grind (arith, nat_tests, e)) is in
        omega (arith, up, higher)
    by false e =
        let here : i ≡ j = grind (arith, nat_tests, e, less) in
        other (subst (λ (z : Owned). IsSet n z) (same_at a b (slice_get os j) (ap (λ k. slice_get os k) (sym here) ∙ first) second) is)

-- What is found ------------------------------------------------------------------------------------------

-- others come over it
skips : (os : List Owned) (n : ℕ) (sets : List Collection) → ((at : ℕ) (o : Owned) → slice_get os at ≡ Some o → IsSet n o → ⊥) → set_in n (sets_over os sets) ≡ set_in n sets
unfolding opened_lists
skips [] n sets none = refl
skips (o ∷ os) n sets none = skips os n (set_over o.role o sets) (λ at x e. none (suc at) x e) ∙ by o.role (none 0 o refl)
  where
    by : (r : Role) → (IsSetAs r o.number n → ⊥) → set_in n (set_over r o sets) ≡ set_in n sets
    by (RoleOf.Object t) other = refl
    by (RoleOf.Collection started count) other = passed (eq_differs o.number n other)
      where
        passed : nat_eq o.number n ≡ false → set_in n (record { number = o.number; master = o.master; started = started } ∷ sets) ≡ set_in n sets
        passed e = rw (e) refl

-- where there is none
pub no_set_found : (os : List Owned) (n : ℕ) → ((at : ℕ) (o : Owned) → slice_get os at ≡ Some o → IsSet n o → ⊥) → set_in n (sets_owned os) ≡ None
unfolding opened_lists
no_set_found os n none = skips os n [] none

-- where there is one
found_over : (os : List Owned) (before given at n : ℕ) (o : Owned) (sets : List Collection) → HaveCome before os given → slice_get os at ≡ Some o → IsSet n o → set_in n (sets_over os sets) ≡ Some (collection_of o)
unfolding opened_lists
found_over [] before given at n o sets h e is = absurd (cc)
found_over (x ∷ os) before given zero n o sets h e is =
    let same : x ≡ o = same_item x o e in
    let its : IsSet n x = subst (λ (z : Owned). IsSet n z) (sym same) is in
    let known = (set_has x.role x.number x.collections before n h.0 its).1 in
    skips os n (set_over x.role x sets) (λ at y there other. let newer = (set_come os x.collections given at n y h.1 there other).0 in omega (arith, newer, known))
    ∙ (here x.role its ∙ ap (λ (z : Owned). Some (collection_of z)) same)
  where
    here : (r : Role) → IsSetAs r x.number n → set_in n (set_over r x sets) ≡ Some (record { number = x.number; master = x.master; started = started_in r })
    here (RoleOf.Object t) it = absurd it
    here (RoleOf.Collection started count) it = found (eq_same x.number n it)
      where
        found : nat_eq x.number n ≡ true → set_in n (record { number = x.number; master = x.master; started = started } ∷ sets) ≡ Some (record { number = x.number; master = x.master; started = started })
        found e = rw (e) refl
found_over (x ∷ os) before given (suc at) n o sets h e is = found_over os x.collections given at n o (set_over x.role x sets) h.1 e is

pub set_found : (os : List Owned) (given at n : ℕ) (o : Owned) → HaveCome 0 os given → slice_get os at ≡ Some o → IsSet n o → set_in n (sets_owned os) ≡ Some (collection_of o)
set_found os given at n o h e is = found_over os 0 given at n o [] h e is

-- None came ----------------------------------------------------------------------------------------------

none_over : (os : List Owned) (sets : List Collection) → ((at n : ℕ) (o : Owned) → slice_get os at ≡ Some o → IsSet n o → ⊥) → sets_over os sets ≡ sets
none_over [] sets none = refl
none_over (o ∷ os) sets none = none_over os (set_over o.role o sets) (λ at n x e. none (suc at) n x e) ∙ by o.role (none 0 o.number o refl)
  where
    by : (r : Role) → (IsSetAs r o.number o.number → ⊥) → set_over r o sets ≡ sets
    by (RoleOf.Object t) other = refl
    by (RoleOf.Collection started count) other = absurd (other refl)

-- where the last knows none that is newer than this, and nothing from a place on is one of those before
pub none_gathered : (os : List Owned) (given start known : ℕ) (last : Owned) → HaveCome 0 os given → slice_get os (length os - 1) ≡ Some last → last.collections ≤ known
    → ((at n : ℕ) (o : Owned) → slice_get os at ≡ Some o → start ≤ at → IsSet n o → known < n) → sets_owned (drop start os) ≡ []
none_gathered os given start known last h end few newer = none_over (drop start os) [] none
  where
    none : (j n : ℕ) (o : Owned) → slice_get (drop start os) j ≡ Some o → IsSet n o → ⊥
    none j n o e is =
        let at = start + j in
        let there : slice_get os at ≡ Some o = sym (drop_get os start j at refl) ∙ e in
        let within = slice_get_within os at o there in
        let more = newer at n o there (omega arith) is in
        not_in_front os given at (length os - 1) n o last h there end (omega (arith, within)) (omega (arith, few, more)) is

-- what came behind the first of all knows a newer one than 0
pub newer_than_none : (os : List Owned) (given at n : ℕ) (o : Owned) → HaveCome 0 os given → slice_get os at ≡ Some o → IsSet n o → 0 < n
newer_than_none os given at n o h e is = (set_come os 0 given at n o h e is).0

pub newer_than_before : (os : List Owned) (given start at n : ℕ) (a o : Owned) → HaveCome 0 os given → slice_get os start ≡ Some a → slice_get os at ≡ Some o → start < at → IsSet n o → a.collections < n
newer_than_before os given start at n a o h first e less is = before_set os 0 given start at n a o h first e less is

pub not_more : (a b : ℕ) → IsFalse (nat_lt a b) → b ≤ a
not_more a b h = grind (arith, nat_tests, h)
