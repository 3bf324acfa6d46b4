-- Objects and the blocks in which they lie: what stays as pools change.
use Rattle.std.proofs.Common.{◌≡◌, ℕ, Bool, true, false, cond, Option, Some, None, refl, sym, ap, subst, ◌∙◌}
use Rattle.std.specs.Prelude.{nat_eq, IfSome}
use Rattle.std.specs.Ordering.{nat_cmp}
use Rattle.std.specs.Option.{option_map, option_map_or}
use Rattle.std.specs.FinMap.{FinMap, get, insert, remove}
use borrow.Author.Tests.{eqb-true, eq-eqb}
use Rattle.number_map.specs.Table.{mapped, change}
use Rattle.number_map.proofs.Changes.{get_put, get_dropped, get_here, get_there, equal_maps}
use Rattle.number_map.proofs.Mapped.{get_mapped}
use Rattle.pool_area.specs.Blocks.{Blocks}
use Rattle.pool_store.specs.declared.entry.Spot.{Spot}
use Rattle.pool_store.specs.declared.entry.Entry.{Entry}
use Rattle.pool_store.specs.declared.entry.Entry.TheVariants.{Standard, InBlock}
use Rattle.pool_store.specs.Entries.{Stored, lot_at, object_in, words_in, stored_in, IsTied}

abbrev pub Objects : Type 0 → Type 0
Objects A = FinMap nat_cmp (Entry A)

abbrev pub Pools : Type 0
Pools = FinMap nat_cmp Blocks

-- what the objects of which P is true lie in stays
abbrev pub Spares : (ℕ → Type 0) → Pools → Pools → Type 0
Spares P old new = (s : Spot) (m : ℕ) → P m → object_in (lot_at s old) ≡ Some m → lot_at s new ≡ lot_at s old

abbrev pub Any : ℕ → Type 0
Any m = Unit {0}

abbrev pub Other : ℕ → ℕ → Type 0
Other n m = m ≡ n → ⊥

-- a pool in which only one address changes
pub spares : (P : ℕ → Type 0) (blocks : Pools) (p a : ℕ) (b c : Blocks) → get blocks p ≡ Some b → ((x : ℕ) → (x ≡ a → ⊥) → get c.out x ≡ get b.out x)
    → ((m : ℕ) → P m → object_in (get b.out a) ≡ Some m → ⊥) → Spares P blocks (insert blocks p c)
spares P blocks p a b c there off none s m is holder = by (nat_eq s.pool p) refl
  where
    at : (x : ℕ) → s.pool ≡ p → lot_at (record { pool = s.pool; address = x }) blocks ≡ get b.out x
    at x e = ap (λ o. option_map_or (λ (d : Blocks). get d.out x) o None) (ap (get blocks) e ∙ there)

    inside : (t : Bool) → nat_eq s.address a ≡ t → s.pool ≡ p → get c.out s.address ≡ get b.out s.address
    inside true e same = absurd (none m is (ap (λ x. object_in (get b.out x)) (sym (eqb-true s.address a e)) ∙ ap object_in (sym (at s.address same)) ∙ holder))
    inside false e same = off s.address (λ x. let no : true ≡ false = sym (eq-eqb s.address a x) ∙ e in cc)

    by : (t : Bool) → nat_eq s.pool p ≡ t → lot_at s (insert blocks p c) ≡ lot_at s blocks
    by true e =
        let same = eqb-true s.pool p e in
        ap (λ o. option_map_or (λ (d : Blocks). get d.out s.address) o None) (ap (get (insert blocks p c)) same ∙ get_here blocks p c)
        ∙ inside (nat_eq s.address a) refl same ∙ sym (at s.address same)
    by false e = ap (λ o. option_map_or (λ (d : Blocks). get d.out s.address) o None) (get_there blocks p s.pool c (λ x. let no : true ≡ false = sym (eq-eqb s.pool p x) ∙ e in cc))

-- an object that is spared is seen as before, and still tied
pub spared : {A : Type 0} (P : ℕ → Type 0) (old new : Pools) (m : ℕ) (e : Entry A) → P m → Spares P old new → IsTied old m e → (stored_in new e ≡ stored_in old e) × IsTied new m e
spared P old new m (Standard words) is sp tied = (refl, tt)
spared P old new m (InBlock s) is sp tied =
    let same = sp s m is tied in
    (ap (λ l. let r : Stored = record { spot = Some s; site = None; words = words_in l } in r) same, ap object_in same ∙ tied)

abbrev pub Tied : {A : Type 0} → Objects A → Pools → Type 0
Tied objects blocks = (n : ℕ) → IfSome (get objects n) (IsTied blocks n)

-- such an object gives what it gave
pub seen_same : {A : Type 0} (P : ℕ → Type 0) (objects : Objects A) (old new : Pools) (q : ℕ) → P q → Spares P old new → Tied objects old
    → option_map (stored_in new) (get objects q) ≡ option_map (stored_in old) (get objects q)
seen_same {A} P objects old new q is sp tied = by (get objects q) (tied q)
  where
    by : (o : Option (Entry A)) → IfSome o (IsTied old q) → option_map (stored_in new) o ≡ option_map (stored_in old) o
    by None t = refl
    by (Some e) t = ap (λ x. Some x) (spared P old new q e is sp t).0

pub tied_same : {A : Type 0} (P : ℕ → Type 0) (objects : Objects A) (old new : Pools) (q : ℕ) → P q → Spares P old new → Tied objects old → IfSome (get objects q) (IsTied new q)
tied_same {A} P objects old new q is sp tied = by (get objects q) (tied q)
  where
    by : (o : Option (Entry A)) → IfSome o (IsTied old q) → IfSome o (IsTied new q)
    by None t = t
    by (Some e) t = (spared P old new q e is sp t).1

-- where all are spared, nothing is seen to change
pub all_seen : {A : Type 0} (objects : Objects A) (old new : Pools) → Spares Any old new → Tied objects old → mapped (stored_in new) objects ≡ mapped (stored_in old) objects
all_seen objects old new sp tied = equal_maps (mapped (stored_in new) objects) (mapped (stored_in old) objects) (λ q.
    get_mapped (stored_in new) objects q ∙ seen_same Any objects old new q tt sp tied ∙ sym (get_mapped (stored_in old) objects q))

pub all_tied : {A : Type 0} (objects : Objects A) (old new : Pools) → Spares Any old new → Tied objects old → Tied objects new
all_tied objects old new sp tied q = tied_same Any objects old new q tt sp tied

-- one object is new, or has changed
pub put_seen : {A : Type 0} (objects : Objects A) (old new : Pools) (n : ℕ) (e : Entry A) → Spares (Other n) old new → Tied objects old
    → mapped (stored_in new) (insert objects n e) ≡ insert (mapped (stored_in old) objects) n (stored_in new e)
put_seen objects old new n e sp tied = equal_maps (mapped (stored_in new) (insert objects n e)) (insert (mapped (stored_in old) objects) n (stored_in new e)) (λ q.
    get_mapped (stored_in new) (insert objects n e) q ∙ ap (option_map (stored_in new)) (get_put objects n q e)
    ∙ by q (nat_eq q n) refl ∙ sym (get_put (mapped (stored_in old) objects) n q (stored_in new e)))
  where
    by : (q : ℕ) (b : Bool) → nat_eq q n ≡ b → option_map (stored_in new) (cond b (Some e) (get objects q)) ≡ cond b (Some (stored_in new e)) (get (mapped (stored_in old) objects) q)
    by q true is = refl
    by q false is = seen_same (Other n) objects old new q (λ x. let no : true ≡ false = sym (eq-eqb q n x) ∙ is in cc) sp tied ∙ sym (get_mapped (stored_in old) objects q)

pub put_tied : {A : Type 0} (objects : Objects A) (old new : Pools) (n : ℕ) (e : Entry A) → Spares (Other n) old new → Tied objects old → IsTied new n e → Tied (insert objects n e) new
put_tied objects old new n e sp tied is q = subst (λ o. IfSome o (IsTied new q)) (sym (get_put objects n q e)) (by (nat_eq q n) refl)
  where
    by : (b : Bool) → nat_eq q n ≡ b → IfSome (cond b (Some e) (get objects q)) (IsTied new q)
    by true same = subst (λ m. IsTied new m e) (sym (eqb-true q n same)) is
    by false apart = tied_same (Other n) objects old new q (λ x. let no : true ≡ false = sym (eq-eqb q n x) ∙ apart in cc) sp tied

-- one object is held no more
pub drop_seen : {A : Type 0} (objects : Objects A) (old new : Pools) (n : ℕ) → Spares (Other n) old new → Tied objects old
    → mapped (stored_in new) (remove objects n) ≡ remove (mapped (stored_in old) objects) n
drop_seen objects old new n sp tied = equal_maps (mapped (stored_in new) (remove objects n)) (remove (mapped (stored_in old) objects) n) (λ q.
    get_mapped (stored_in new) (remove objects n) q ∙ ap (option_map (stored_in new)) (get_dropped objects n q)
    ∙ by q (nat_eq q n) refl ∙ sym (get_dropped (mapped (stored_in old) objects) n q))
  where
    by : (q : ℕ) (b : Bool) → nat_eq q n ≡ b → option_map (stored_in new) (cond b None (get objects q)) ≡ cond b None (get (mapped (stored_in old) objects) q)
    by q true is = refl
    by q false is = seen_same (Other n) objects old new q (λ x. let no : true ≡ false = sym (eq-eqb q n x) ∙ is in cc) sp tied ∙ sym (get_mapped (stored_in old) objects q)

pub drop_tied : {A : Type 0} (objects : Objects A) (old new : Pools) (n : ℕ) → Spares (Other n) old new → Tied objects old → Tied (remove objects n) new
drop_tied objects old new n sp tied q = subst (λ o. IfSome o (IsTied new q)) (sym (get_dropped objects n q)) (by (nat_eq q n) refl)
  where
    by : (b : Bool) → nat_eq q n ≡ b → IfSome (cond b None (get objects q)) (IsTied new q)
    by true same = tt
    by false apart = tied_same (Other n) objects old new q (λ x. let no : true ≡ false = sym (eq-eqb q n x) ∙ apart in cc) sp tied

-- what an object in a block gives has changed, as f says
pub change_seen : {A : Type 0} (objects : Objects A) (old new : Pools) (n : ℕ) (e : Entry A) (f : Stored → Stored) → get objects n ≡ Some e → Spares (Other n) old new → Tied objects old
    → stored_in new e ≡ f (stored_in old e) → mapped (stored_in new) objects ≡ change n f (mapped (stored_in old) objects)
change_seen objects old new n e f there sp tied same =
    equal_maps (mapped (stored_in new) objects) (insert (mapped (stored_in old) objects) n (f (stored_in old e))) (λ q.
    get_mapped (stored_in new) objects q ∙ by q (nat_eq q n) refl ∙ sym (get_put (mapped (stored_in old) objects) n q (f (stored_in old e))))
    ∙ sym (ap (λ o. option_map_or (λ x. insert (mapped (stored_in old) objects) n (f x)) o (mapped (stored_in old) objects)) (get_mapped (stored_in old) objects n ∙ ap (option_map (stored_in old)) there))
  where
    by : (q : ℕ) (b : Bool) → nat_eq q n ≡ b → option_map (stored_in new) (get objects q) ≡ cond b (Some (f (stored_in old e))) (get (mapped (stored_in old) objects) q)
    by q true is = ap (λ x. option_map (stored_in new) (get objects x)) (eqb-true q n is) ∙ ap (option_map (stored_in new)) there ∙ ap (λ x. Some x) same
    by q false is = seen_same (Other n) objects old new q (λ x. let no : true ≡ false = sym (eq-eqb q n x) ∙ is in cc) sp tied ∙ sym (get_mapped (stored_in old) objects q)

-- pools that do not change
pub spares_same : (P : ℕ → Type 0) (blocks : Pools) → Spares P blocks blocks
spares_same P blocks s m is holder = refl

-- a new pool
pub spares_new : (P : ℕ → Type 0) (blocks : Pools) (p : ℕ) (c : Blocks) → get blocks p ≡ None → Spares P blocks (insert blocks p c)
spares_new P blocks p c none s m is holder = by (nat_eq s.pool p) refl
  where
    by : (t : Bool) → nat_eq s.pool p ≡ t → lot_at s (insert blocks p c) ≡ lot_at s blocks
    by true e =
        let nothing : object_in (lot_at s blocks) ≡ None = ap (λ o. object_in (option_map_or (λ (d : Blocks). get d.out s.address) o None)) (ap (get blocks) (eqb-true s.pool p e) ∙ none) in
        absurd (cc)
    by false e = ap (λ o. option_map_or (λ (d : Blocks). get d.out s.address) o None) (get_there blocks p s.pool c (λ x. let no : true ≡ false = sym (eq-eqb s.pool p x) ∙ e in cc))
