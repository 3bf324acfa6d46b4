-- Objects and the subpools in which they lie: what stays as pools change.
use Rattle.std.proofs.Common.{◌≡◌, ℕ, ◌<◌, ◌≤◌, Bool, true, false, cond, Option, Some, None, refl, sym, ap, subst, ◌∙◌, arith}
use Rattle.std.specs.Prelude.{nat_eq, IfSome, option_and_then}
use Rattle.std.specs.Ordering.{nat_cmp}
use Rattle.std.specs.Option.{option_map, option_map_or}
use Rattle.std.specs.FinMap.{FinMap, get, insert, remove}
use borrow.Author.Tests.{eqb-true, eq-eqb}
use Rattle.number_map.specs.Table.{mapped, change}
use Rattle.number_map.proofs.Changes.{get_put, get_dropped, get_here, equal_maps}
use Rattle.number_map.proofs.Mapped.{get_mapped}
use Rattle.pool_area.specs.Subpools.{Seen, Subpools, subpool_of}
use Rattle.pool_store.specs.declared.cell.Cell.{Cell}
use Rattle.pool_store.specs.Entries.{Stored, words_in}
use Rattle.pool_store.specs.Cells.{row_at, block_in, stored_at, Holds, IsAt}

abbrev pub Cells : Type 0
Cells = FinMap nat_cmp Cell

abbrev pub Areas : Type 0
Areas = FinMap nat_cmp Subpools

-- what the objects of which P is true lie in stays
abbrev pub Spares : (ℕ → Type 0) → Areas → Areas → Type 0
Spares P old new = (c : Cell) (m : ℕ) → P m → IsAt old m c → IsAt new m c × (block_in c.index (row_at c new) ≡ block_in c.index (row_at c old))

-- the same of one pool
abbrev pub Keeps : (ℕ → Type 0) → Subpools → Subpools → Type 0
Keeps P a b =
    (k index m : ℕ) → P m → Holds index m (subpool_of k a.subpools)
    → Holds index m (subpool_of k b.subpools) × (block_in index (subpool_of k b.subpools) ≡ block_in index (subpool_of k a.subpools))

abbrev pub Any : ℕ → Type 0
Any m = Unit {0}

abbrev pub Other : ℕ → ℕ → Type 0
Other n m = m ≡ n → ⊥

-- the subpool of an object in a pool that has changed, and in another one
pub row_here : (pools : Areas) (p : ℕ) (b : Subpools) (c : Cell) → c.pool ≡ p → row_at c (insert pools p b) ≡ subpool_of c.subpool b.subpools
row_here pools p b c e = ap (option_and_then (λ (d : Subpools). subpool_of c.subpool d.subpools)) (ap (get (insert pools p b)) e ∙ get_here pools p b)

pub row_there : (pools : Areas) (p : ℕ) (a : Subpools) (c : Cell) → get pools p ≡ Some a → c.pool ≡ p → row_at c pools ≡ subpool_of c.subpool a.subpools
row_there pools p a c there e = ap (option_and_then (λ (d : Subpools). subpool_of c.subpool d.subpools)) (ap (get pools) e ∙ there)

pub row_apart : (pools : Areas) (p : ℕ) (b : Subpools) (c : Cell) → nat_eq c.pool p ≡ false → row_at c (insert pools p b) ≡ row_at c pools
row_apart pools p b c e =
    ap (option_and_then (λ (d : Subpools). subpool_of c.subpool d.subpools)) (get_put pools p c.pool b ∙ ap (λ t. cond t (Some b) (get pools c.pool)) e)

-- the same row says the same
pub same_row : (index m : ℕ) (o r : Option Seen) → r ≡ o → Holds index m o → Holds index m r × (block_in index r ≡ block_in index o)
same_row index m o r e h = (subst (Holds index m) (sym e) h, ap (block_in index) e)

-- a pool that has changed
pub spares : (P : ℕ → Type 0) (pools : Areas) (p : ℕ) (a b : Subpools) → get pools p ≡ Some a → Keeps P a b → Spares P pools (insert pools p b)
spares P pools p a b there keeps c m is at = by (nat_eq c.pool p) refl
  where
    by : (t : Bool) → nat_eq c.pool p ≡ t → IsAt (insert pools p b) m c × (block_in c.index (row_at c (insert pools p b)) ≡ block_in c.index (row_at c pools))
    by true e =
        let same = eqb-true c.pool p e in
        let old = row_there pools p a c there same in
        let new = row_here pools p b c same in
        let k = keeps c.subpool c.index m is (subst (Holds c.index m) old at) in
        (subst (Holds c.index m) (sym new) k.0, ap (block_in c.index) new ∙ k.1 ∙ sym (ap (block_in c.index) old))
    by false e = same_row c.index m (row_at c pools) (row_at c (insert pools p b)) (row_apart pools p b c e) at

-- an object that is spared is seen as before, and still tied
pub spared : (P : ℕ → Type 0) (old new : Areas) (m : ℕ) (e : Cell) → P m → Spares P old new → IsAt old m e → (stored_at new e ≡ stored_at old e) × IsAt new m e
spared P old new m e is sp at =
    let same = sp e m is at in
    (ap (λ l. let r : Stored = record { spot = None; site = Some (record { pool = e.pool; subpool = e.subpool }); words = words_in l } in r) same.1, same.0)

abbrev pub Placed : Cells → Areas → Type 0
Placed objects blocks = (n : ℕ) → IfSome (get objects n) (IsAt blocks n)

-- such an object gives what it gave
pub seen_same : (P : ℕ → Type 0) (objects : Cells) (old new : Areas) (q : ℕ) → P q → Spares P old new → Placed objects old
    → option_map (stored_at new) (get objects q) ≡ option_map (stored_at old) (get objects q)
seen_same P objects old new q is sp tied = by (get objects q) (tied q)
  where
    by : (o : Option (Cell)) → IfSome o (IsAt old q) → option_map (stored_at new) o ≡ option_map (stored_at old) o
    by None t = refl
    by (Some e) t = ap (λ x. Some x) (spared P old new q e is sp t).0

pub tied_same : (P : ℕ → Type 0) (objects : Cells) (old new : Areas) (q : ℕ) → P q → Spares P old new → Placed objects old → IfSome (get objects q) (IsAt new q)
tied_same P objects old new q is sp tied = by (get objects q) (tied q)
  where
    by : (o : Option (Cell)) → IfSome o (IsAt old q) → IfSome o (IsAt new q)
    by None t = t
    by (Some e) t = (spared P old new q e is sp t).1

-- where all are spared, nothing is seen to change
pub all_seen : (objects : Cells) (old new : Areas) → Spares Any old new → Placed objects old → mapped (stored_at new) objects ≡ mapped (stored_at old) objects
all_seen objects old new sp tied = equal_maps (mapped (stored_at new) objects) (mapped (stored_at old) objects) (λ q.
    get_mapped (stored_at new) objects q ∙ seen_same Any objects old new q tt sp tied ∙ sym (get_mapped (stored_at old) objects q))

pub all_tied : (objects : Cells) (old new : Areas) → Spares Any old new → Placed objects old → Placed objects new
all_tied objects old new sp tied q = tied_same Any objects old new q tt sp tied

-- one object is new, or has changed
pub put_seen : (objects : Cells) (old new : Areas) (n : ℕ) (e : Cell) → Spares (Other n) old new → Placed objects old
    → mapped (stored_at new) (insert objects n e) ≡ insert (mapped (stored_at old) objects) n (stored_at new e)
put_seen objects old new n e sp tied = equal_maps (mapped (stored_at new) (insert objects n e)) (insert (mapped (stored_at old) objects) n (stored_at new e)) (λ q.
    get_mapped (stored_at new) (insert objects n e) q ∙ ap (option_map (stored_at new)) (get_put objects n q e)
    ∙ by q (nat_eq q n) refl ∙ sym (get_put (mapped (stored_at old) objects) n q (stored_at new e)))
  where
    by : (q : ℕ) (b : Bool) → nat_eq q n ≡ b → option_map (stored_at new) (cond b (Some e) (get objects q)) ≡ cond b (Some (stored_at new e)) (get (mapped (stored_at old) objects) q)
    by q true is = refl
    by q false is = seen_same (Other n) objects old new q (λ x. let no : true ≡ false = sym (eq-eqb q n x) ∙ is in cc) sp tied ∙ sym (get_mapped (stored_at old) objects q)

pub put_tied : (objects : Cells) (old new : Areas) (n : ℕ) (e : Cell) → Spares (Other n) old new → Placed objects old → IsAt new n e → Placed (insert objects n e) new
put_tied objects old new n e sp tied is q = subst (λ o. IfSome o (IsAt new q)) (sym (get_put objects n q e)) (by (nat_eq q n) refl)
  where
    by : (b : Bool) → nat_eq q n ≡ b → IfSome (cond b (Some e) (get objects q)) (IsAt new q)
    by true same = subst (λ m. IsAt new m e) (sym (eqb-true q n same)) is
    by false apart = tied_same (Other n) objects old new q (λ x. let no : true ≡ false = sym (eq-eqb q n x) ∙ apart in cc) sp tied

-- one object is held no more
pub drop_seen : (objects : Cells) (old new : Areas) (n : ℕ) → Spares (Other n) old new → Placed objects old
    → mapped (stored_at new) (remove objects n) ≡ remove (mapped (stored_at old) objects) n
drop_seen objects old new n sp tied = equal_maps (mapped (stored_at new) (remove objects n)) (remove (mapped (stored_at old) objects) n) (λ q.
    get_mapped (stored_at new) (remove objects n) q ∙ ap (option_map (stored_at new)) (get_dropped objects n q)
    ∙ by q (nat_eq q n) refl ∙ sym (get_dropped (mapped (stored_at old) objects) n q))
  where
    by : (q : ℕ) (b : Bool) → nat_eq q n ≡ b → option_map (stored_at new) (cond b None (get objects q)) ≡ cond b None (get (mapped (stored_at old) objects) q)
    by q true is = refl
    by q false is = seen_same (Other n) objects old new q (λ x. let no : true ≡ false = sym (eq-eqb q n x) ∙ is in cc) sp tied ∙ sym (get_mapped (stored_at old) objects q)

pub drop_tied : (objects : Cells) (old new : Areas) (n : ℕ) → Spares (Other n) old new → Placed objects old → Placed (remove objects n) new
drop_tied objects old new n sp tied q = subst (λ o. IfSome o (IsAt new q)) (sym (get_dropped objects n q)) (by (nat_eq q n) refl)
  where
    by : (b : Bool) → nat_eq q n ≡ b → IfSome (cond b None (get objects q)) (IsAt new q)
    by true same = tt
    by false apart = tied_same (Other n) objects old new q (λ x. let no : true ≡ false = sym (eq-eqb q n x) ∙ apart in cc) sp tied

-- what an object in a block gives has changed, as f says
pub change_seen : (objects : Cells) (old new : Areas) (n : ℕ) (e : Cell) (f : Stored → Stored) → get objects n ≡ Some e → Spares (Other n) old new → Placed objects old
    → stored_at new e ≡ f (stored_at old e) → mapped (stored_at new) objects ≡ change n f (mapped (stored_at old) objects)
change_seen objects old new n e f there sp tied same =
    equal_maps (mapped (stored_at new) objects) (insert (mapped (stored_at old) objects) n (f (stored_at old e))) (λ q.
    get_mapped (stored_at new) objects q ∙ by q (nat_eq q n) refl ∙ sym (get_put (mapped (stored_at old) objects) n q (f (stored_at old e))))
    ∙ sym (ap (λ o. option_map_or (λ x. insert (mapped (stored_at old) objects) n (f x)) o (mapped (stored_at old) objects)) (get_mapped (stored_at old) objects n ∙ ap (option_map (stored_at old)) there))
  where
    by : (q : ℕ) (b : Bool) → nat_eq q n ≡ b → option_map (stored_at new) (get objects q) ≡ cond b (Some (f (stored_at old e))) (get (mapped (stored_at old) objects) q)
    by q true is = ap (λ x. option_map (stored_at new) (get objects x)) (eqb-true q n is) ∙ ap (option_map (stored_at new)) there ∙ ap (λ x. Some x) same
    by q false is = seen_same (Other n) objects old new q (λ x. let no : true ≡ false = sym (eq-eqb q n x) ∙ is in cc) sp tied ∙ sym (get_mapped (stored_at old) objects q)

-- pools that do not change
pub spares_same : (P : ℕ → Type 0) (pools : Areas) → Spares P pools pools
spares_same P pools c m is at = (at, refl)

-- a new pool
pub spares_new : (P : ℕ → Type 0) (pools : Areas) (p : ℕ) (b : Subpools) → get pools p ≡ None → Spares P pools (insert pools p b)
spares_new P pools p b none c m is at = by (nat_eq c.pool p) refl
  where
    by : (t : Bool) → nat_eq c.pool p ≡ t → IsAt (insert pools p b) m c × (block_in c.index (row_at c (insert pools p b)) ≡ block_in c.index (row_at c pools))
    by true e =
        let nothing : row_at c pools ≡ None = ap (option_and_then (λ (d : Subpools). subpool_of c.subpool d.subpools)) (ap (get pools) (eqb-true c.pool p e) ∙ none) in
        absurd (no_row c.index m (row_at c pools) nothing at)
      where
        no_row : (index m : ℕ) (o : Option Seen) → o ≡ None → Holds index m o → ⊥
        no_row index m None e h = let no : ◌≡◌ {A = Option ℕ} None (Some m) = h.0 in cc
        no_row index m (Some x) e h = let no : Some x ≡ None = e in cc
    by false e = same_row c.index m (row_at c pools) (row_at c (insert pools p b)) (row_apart pools p b c e) at

-- Numbers --------------------------------------------------------------------

abbrev pub AllBelow : ℕ → Areas → Type 0
AllBelow g pools = (p : ℕ) → IfSome (get pools p) (λ m. m.given < g)

pub below_of : (g p : ℕ) (pools : Areas) (a : Subpools) → AllBelow g pools → get pools p ≡ Some a → a.given < g
below_of g p pools a all there = subst (λ o. IfSome o (λ m. m.given < g)) there (all p)

pub below_put : (g h p : ℕ) (pools : Areas) (b : Subpools) → g ≤ h → AllBelow g pools → b.given < h → AllBelow h (insert pools p b)
below_put g h p pools b le all less q = subst (λ o. IfSome o (λ m. m.given < h)) (sym (get_put pools p q b)) (by (nat_eq q p) (get pools q) (all q))
  where
    by : (t : Bool) (o : Option Subpools) → IfSome o (λ m. m.given < g) → IfSome (cond t (Some b) o) (λ m. m.given < h)
    by true o x = less
    by false None x = tt
    by false (Some a) x = omega arith

pub below_drop : (g p : ℕ) (pools : Areas) → AllBelow g pools → AllBelow g (remove pools p)
below_drop g p pools all q = subst (λ o. IfSome o (λ m. m.given < g)) (sym (get_dropped pools p q)) (by (nat_eq q p))
  where
    by : (t : Bool) → IfSome (cond t None (get pools q)) (λ m. m.given < g)
    by true = tt
    by false = all q
