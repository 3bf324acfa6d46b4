-- Objects that are gone with their subpool, or with their pool with marks.
use Rattle.std.proofs.Common.{◌≡◌, ℕ, suc, ◌+◌, ◌<◌, ◌≤◌, Bool, true, false, cond, List, [], ◌∷◌, length, Option, Some, None, refl, sym, ap, subst, ◌∙◌, arith}
use Rattle.std.specs.Prelude.{nat_eq, not, ◌&&◌, ◌||◌, slice_get, IfSome, option_and_then}
use Rattle.std.specs.Option.{option_map, option_map_or}
use Rattle.std.specs.FinMap.{empty, get, insert, remove}
use Rattle.std.proofs.lemmas.Option.{slice_get_within}
use borrow.Author.Tests.{eqb-true, eq-eqb}
use Rattle.number_map.specs.Table.{mapped}
use Rattle.number_map.proofs.Changes.{get_dropped, equal_maps}
use Rattle.number_map.proofs.Mapped.{get_mapped, mapped_drop, mapped_changed}
use Rattle.pool_area.specs.Lots.{Held}
use Rattle.pool_area.specs.Subpools as area
use Rattle.pool_area.specs.Subpools.{Seen, Subpools, subpool_of, count_of, is_dead}
use Rattle.pool_store.specs.declared.cell.Cell.{Cell}
use Rattle.pool_store.specs.Entries.{Stored, BlockPool, object_in, words_in}
use Rattle.pool_store.specs.Cells.{mark_of, row_at, block_in, stored_at, Holds, IsAt, Places, is_in_subpool, is_out_of_subpool, is_out_of_pool, forgotten, IsHeldIn, AreHeldIn}
use Rattle.pool_store.specs.Marks as marks
use Rattle.pool_store.specs.Kept.{kept, kept_if}
use Rattle.pool_store.specs.Store as store
use Rattle.pool_store.specs.Store.{Store}
use Rattle.pool_store.proofs.ClosedPools.{nothing_removed}
use Rattle.pool_store.proofs.KeptLemmas.{get_kept, kept_again}
use Rattle.pool_store.proofs.Placed.{Cells, Areas, row_there, row_here, row_apart, below_drop, below_put}
use Rattle.pool_store.proofs.MarkSteps.{seen, mark_here}
use Rattle.pool_store.proofs.MarkViews.{after_release, release_shown, row_after}

-- what a number gives once an object was forgotten
pub get_forgotten : (p n m : ℕ) (cells : Cells) (q : ℕ) → get (forgotten p n (Some m) cells) q ≡ cond (nat_eq q m) (kept_if (is_out_of_subpool p n) (get cells q)) (get cells q)
get_forgotten p n m cells q = by (nat_eq q m) refl
  where
    same : q ≡ m → get (forgotten p n (Some m) cells) q ≡ kept_if (is_out_of_subpool p n) (get cells q)
    same e = here (get cells m) refl
      where
        at : (o : Option (Cell)) → get cells m ≡ o → get cells q ≡ o
        at o there = ap (get cells) e ∙ there

        stays : (x : Cell) (b : Bool) → get cells m ≡ Some x → is_in_subpool p n x ≡ b → get (cond b (remove cells m) cells) q ≡ kept_if (is_out_of_subpool p n) (Some x)
        stays x true there is = get_dropped cells m q ∙ ap (λ t. cond t None (get cells q)) (eq-eqb q m e) ∙ sym (ap (λ t. cond (not t) (Some x) None) is)
        stays x false there is = at (Some x) there ∙ sym (ap (λ t. cond (not t) (Some x) None) is)

        here : (o : Option (Cell)) → get cells m ≡ o → get (forgotten p n (Some m) cells) q ≡ kept_if (is_out_of_subpool p n) (get cells q)
        here None there =
            ap (λ o. get (cond (option_map_or (is_in_subpool p n) o false) (remove cells m) cells) q) there ∙ at None there ∙ sym (ap (kept_if (is_out_of_subpool p n)) (at None there))
        here (Some x) there =
            ap (λ o. get (cond (option_map_or (is_in_subpool p n) o false) (remove cells m) cells) q) there ∙ stays x (is_in_subpool p n x) there refl ∙ sym (ap (kept_if (is_out_of_subpool p n)) (at (Some x) there))

    other : nat_eq q m ≡ false → (b : Bool) → get (cond b (remove cells m) cells) q ≡ get cells q
    other e true = get_dropped cells m q ∙ ap (λ t. cond t None (get cells q)) e
    other e false = refl

    by : (b : Bool) → nat_eq q m ≡ b → get (forgotten p n (Some m) cells) q ≡ cond b (kept_if (is_out_of_subpool p n) (get cells q)) (get cells q)
    by true e = same (eqb-true q m e)
    by false e = other e (option_map_or (is_in_subpool p n) (get cells m) false)

-- those that lie elsewhere stay
pub back_keeps : (p n : ℕ) (x : Option ℕ) (cells : Cells) → kept (is_out_of_subpool p n) (forgotten p n x cells) ≡ kept (is_out_of_subpool p n) cells
back_keeps p n None cells = refl
back_keeps p n (Some m) cells = equal_maps (kept (is_out_of_subpool p n) (forgotten p n (Some m) cells)) (kept (is_out_of_subpool p n) cells) (λ q.
    get_kept (is_out_of_subpool p n) (forgotten p n (Some m) cells) q ∙ ap (kept_if (is_out_of_subpool p n)) (get_forgotten p n m cells q) ∙ by q (nat_eq q m) ∙ sym (get_kept (is_out_of_subpool p n) cells q))
  where
    by : (q : ℕ) (b : Bool) → kept_if (is_out_of_subpool p n) (cond b (kept_if (is_out_of_subpool p n) (get cells q)) (get cells q)) ≡ kept_if (is_out_of_subpool p n) (get cells q)
    by q true = kept_again (is_out_of_subpool p n) (get cells q)
    by q false = refl

-- Fewer objects --------------------------------------------------------------------

-- each object that is there was there
abbrev pub AreAmong : Cells → Cells → Type 0
AreAmong new old = (q : ℕ) (c : Cell) → get new q ≡ Some c → get old q ≡ Some c

kept_among : (passes : Cell → Bool) (o : Option Cell) (c : Cell) → kept_if passes o ≡ Some c → (o ≡ Some c) × (passes c ≡ true)
kept_among passes None c e = absurd (cc)
kept_among passes (Some x) c e = by (passes x) refl e
  where
    by : (b : Bool) → passes x ≡ b → cond b (Some x) None ≡ Some c → (Some x ≡ Some c) × (passes c ≡ true)
    by true is h = (h, (let same : x ≡ c = cc in ap passes (sym same) ∙ is))
    by false is h = absurd (cc)

pub kept_is : (passes : Cell → Bool) (cells : Cells) (q : ℕ) (c : Cell) → get (kept passes cells) q ≡ Some c → (get cells q ≡ Some c) × (passes c ≡ true)
kept_is passes cells q c e = kept_among passes (get cells q) c (sym (get_kept passes cells q) ∙ e)

pub forgotten_among : (p n : ℕ) (x : Option ℕ) (cells : Cells) → AreAmong (forgotten p n x cells) cells
forgotten_among p n None cells q c e = e
forgotten_among p n (Some m) cells q c e = by (nat_eq q m) (sym (get_forgotten p n m cells q) ∙ e)
  where
    by : (b : Bool) → cond b (kept_if (is_out_of_subpool p n) (get cells q)) (get cells q) ≡ Some c → get cells q ≡ Some c
    by true h = (kept_among (is_out_of_subpool p n) (get cells q) c h).0
    by false h = h

-- one that was forgotten lies elsewhere
pub forgotten_out : (p n m : ℕ) (cells : Cells) (c : Cell) → get (forgotten p n (Some m) cells) m ≡ Some c → is_in_subpool p n c ≡ false
forgotten_out p n m cells c e =
    let h = kept_among (is_out_of_subpool p n) (get cells m) c (sym (get_forgotten p n m cells m ∙ ap (λ b. cond b (kept_if (is_out_of_subpool p n) (get cells m)) (get cells m)) (eq-eqb m m refl)) ∙ e) in
    by (is_in_subpool p n c) h.1
  where
    by : (b : Bool) → not b ≡ true → b ≡ false
    by true h = absurd (cc)
    by false h = refl

-- what is true of each object that is there
abbrev pub Each : (ℕ → Cell → Type 0) → Cells → Type 0
Each P cells = (q : ℕ) → IfSome (get cells q) (P q)

pub each_of : (P : ℕ → Cell → Type 0) (cells : Cells) (q : ℕ) (c : Cell) → Each P cells → get cells q ≡ Some c → P q c
each_of P cells q c all there = subst (λ o. IfSome o (P q)) there (all q)

pub each_from : (P : ℕ → Cell → Type 0) (cells : Cells) → ((q : ℕ) (c : Cell) → get cells q ≡ Some c → P q c) → Each P cells
each_from P cells says q = by (get cells q) refl
  where
    by : (o : Option Cell) → get cells q ≡ o → IfSome o (P q)
    by None e = tt
    by (Some c) e = says q c e

pub fewer_held : (p : ℕ) (a : Subpools) (new old : Cells) → AreAmong new old → AreHeldIn p a old → AreHeldIn p a new
fewer_held p a new old among held = each_from (IsHeldIn p a) new (λ q c there. each_of (IsHeldIn p a) old q c held (among q c there))

-- where all pass, all are kept
pub all_kept : (passes : Cell → Bool) (cells : Cells) → Each (λ q c. passes c ≡ true) cells → kept passes cells ≡ cells
all_kept passes cells all = equal_maps (kept passes cells) cells (λ q. get_kept passes cells q ∙ by (get cells q) (all q))
  where
    by : (o : Option Cell) → IfSome o (λ c. passes c ≡ true) → kept_if passes o ≡ o
    by None h = refl
    by (Some c) h = ap (λ b. cond b (Some c) None) h

-- of those that pass a weaker test, those that pass
pub kept_weaker : (strong weak : Cell → Bool) (cells : Cells) → ((c : Cell) → strong c ≡ true → weak c ≡ true) → kept strong (kept weak cells) ≡ kept strong cells
kept_weaker strong weak cells implies = equal_maps (kept strong (kept weak cells)) (kept strong cells) (λ q.
    get_kept strong (kept weak cells) q ∙ ap (kept_if strong) (get_kept weak cells q) ∙ by (get cells q) ∙ sym (get_kept strong cells q))
  where
    one : (c : Cell) (s w : Bool) → strong c ≡ s → weak c ≡ w → kept_if strong (cond w (Some c) None) ≡ cond s (Some c) None
    one c true true e h = ap (λ b. cond b (Some c) None) e
    one c true false e h = let no : true ≡ false = sym (implies c e) ∙ h in absurd (cc)
    one c false true e h = ap (λ b. cond b (Some c) None) e
    one c false false e h = refl

    by : (o : Option Cell) → kept_if strong (kept_if weak o) ≡ kept_if strong o
    by None = refl
    by (Some c) = one c (strong c) (weak c) refl refl

not_false : (b : Bool) → (b ≡ true → ⊥) → not b ≡ true
not_false true = λ no. absurd (no refl)
not_false false = λ no. refl

-- A subpool ----------------------------------------------------------------------

-- each object of a subpool is in a block from a place on
abbrev pub AreFrom : ℕ → ℕ → ℕ → Cells → Type 0
AreFrom p n k cells = Each (λ q c. is_in_subpool p n c ≡ true → k ≤ c.index) cells

in_both : (x y : Bool) → (x && y) ≡ true → (x ≡ true) × (y ≡ true)
in_both true y e = (refl, e)
in_both false y e = absurd (cc)

-- an object in a subpool is in one of its blocks
pub held_at : (p n : ℕ) (a : Subpools) (cells : Cells) (q : ℕ) (c : Cell) → AreHeldIn p a cells → get cells q ≡ Some c → is_in_subpool p n c ≡ true
    → object_in (block_in c.index (subpool_of n a.subpools)) ≡ Some q
held_at p n a cells q c held there is =
    let t = in_both (nat_eq c.pool p) (nat_eq c.subpool n) is in
    ap (λ m. object_in (block_in c.index (subpool_of m a.subpools))) (sym (eqb-true c.subpool n t.1)) ∙ each_of (IsHeldIn p a) cells q c held there t.0

pub next_from : (p n k : ℕ) (a : Subpools) (cells : Cells) → AreHeldIn p a cells → AreFrom p n k cells → AreFrom p n (k + 1) (forgotten p n (area.object_of n k a) cells)
next_from p n k a cells held from = each_from (λ q c. is_in_subpool p n c ≡ true → (k + 1) ≤ c.index) (forgotten p n (area.object_of n k a) cells) (λ q c there is.
    let was = forgotten_among p n (area.object_of n k a) cells q c there in
    let le : k ≤ c.index = each_of (λ q c. is_in_subpool p n c ≡ true → k ≤ c.index) cells q c from was is in
    let holds = held_at p n a cells q c held was is in
    let apart : k ≡ c.index → ⊥ = (λ same.
    let object : area.object_of n k a ≡ Some q = ap (λ i. object_in (block_in i (subpool_of n a.subpools))) same ∙ holds in
    let out = forgotten_out p n q cells c (ap (λ o. get (forgotten p n o cells) q) (sym object) ∙ there) in
    let no : true ≡ false = sym is ∙ out in cc) in
    more k c.index le apart)
  where
    more : (k i : ℕ) → k ≤ i → (k ≡ i → ⊥) → k + 1 ≤ i
    more k i le apart = omega arith

-- past the last block there is none
pub none_from : (p n k : ℕ) (a : Subpools) (cells : Cells) → k ≡ count_of n a → AreHeldIn p a cells → AreFrom p n k cells → kept (is_out_of_subpool p n) cells ≡ cells
none_from p n k a cells end held from = all_kept (is_out_of_subpool p n) cells (each_from (λ q c. is_out_of_subpool p n c ≡ true) cells (λ q c there.
    not_false (is_in_subpool p n c) (λ is.
    let le : k ≤ c.index = each_of (λ q c. is_in_subpool p n c ≡ true → k ≤ c.index) cells q c from there is in
    within c.index q (subpool_of n a.subpools) (held_at p n a cells q c held there is) (subst (λ m. m ≤ c.index) end le))))
  where
    some : (o : Option (Option Held)) (q : ℕ) → object_in o ≡ Some q → (z : Option Held) × (o ≡ Some z)
    some None q h = absurd (cc)
    some (Some z) q h = (z, refl)

    within : (i q : ℕ) (o : Option Seen) → object_in (block_in i o) ≡ Some q → option_map_or (λ x. length x.blocks) o 0 ≤ i → ⊥
    within i q None h le = absurd (cc)
    within i q (Some x) h le =
        let z = some (slice_get x.blocks i) q h in
        let less = slice_get_within x.blocks i z.0 z.1 in
        omega arith

-- A pool -------------------------------------------------------------------------

-- no object lies in one of the first subpools
abbrev pub AreBehind : ℕ → ℕ → Subpools → Cells → Type 0
AreBehind p k a cells = Each (λ q c. nat_eq c.pool p ≡ true → (j : ℕ) → j < k → IfSome (slice_get a.subpools j) (λ x. x.number ≡ c.subpool → ⊥)) cells

pub none_behind : (p : ℕ) (a : Subpools) (cells : Cells) → AreBehind p 0 a cells
none_behind p a cells = each_from (λ q c. nat_eq c.pool p ≡ true → (j : ℕ) → j < 0 → IfSome (slice_get a.subpools j) (λ x. x.number ≡ c.subpool → ⊥)) cells (λ q c there is j less. absurd (omega arith))

pub one_behind : (p k n : ℕ) (a : Subpools) (cells : Cells) → option_map (λ (x : Seen). x.number) (slice_get a.subpools k) ≡ Some n → AreBehind p k a cells → AreBehind p (k + 1) a (kept (is_out_of_subpool p n) cells)
one_behind p k n a cells number behind = each_from (λ q c. nat_eq c.pool p ≡ true → (j : ℕ) → j < (k + 1) → IfSome (slice_get a.subpools j) (λ x. x.number ≡ c.subpool → ⊥)) (kept (is_out_of_subpool p n) cells) (λ q c there is j less.
    let was = kept_is (is_out_of_subpool p n) cells q c there in
    by c j is was.1 (each_of (λ q c. nat_eq c.pool p ≡ true → (j : ℕ) → j < k → IfSome (slice_get a.subpools j) (λ x. x.number ≡ c.subpool → ⊥)) cells q c behind was.0 is) (nat_eq j k) refl less)
  where
    last : (c : Cell) (o : Option Seen) → nat_eq c.pool p ≡ true → is_out_of_subpool p n c ≡ true → option_map (λ (x : Seen). x.number) o ≡ Some n → IfSome o (λ x. x.number ≡ c.subpool → ⊥)
    last c None is out e = absurd (cc)
    last c (Some x) is out e = λ same.
        let number : x.number ≡ n = cc in
        let inside : is_in_subpool p n c ≡ true = ap (λ t. t && nat_eq c.subpool n) is ∙ eq-eqb c.subpool n (sym same ∙ number) in
        let no : false ≡ true = sym (ap not inside) ∙ out in
        cc

    by : (c : Cell) (j : ℕ) → nat_eq c.pool p ≡ true → is_out_of_subpool p n c ≡ true → ((i : ℕ) → i < k → IfSome (slice_get a.subpools i) (λ x. x.number ≡ c.subpool → ⊥))
        → (b : Bool) → nat_eq j k ≡ b → j < k + 1 → IfSome (slice_get a.subpools j) (λ x. x.number ≡ c.subpool → ⊥)
    by c j is out before true e less =
        last c (slice_get a.subpools j) is out (ap (λ i. option_map (λ (x : Seen). x.number) (slice_get a.subpools i)) (eqb-true j k e) ∙ number)
    by c j is out before false e less = before j (smaller j k less (λ same. let no : true ≡ false = sym (eq-eqb j k same) ∙ e in cc))
      where
        smaller : (j k : ℕ) → j < k + 1 → (j ≡ k → ⊥) → j < k
        smaller j k lt apart = omega arith

-- past the end there is none more
pub no_row_behind : (p k : ℕ) (a : Subpools) (cells : Cells) → option_map (λ (x : Seen). x.number) (slice_get a.subpools k) ≡ None → AreBehind p k a cells → AreBehind p (k + 1) a cells
no_row_behind p k a cells none behind = each_from (λ q c. nat_eq c.pool p ≡ true → (j : ℕ) → j < (k + 1) → IfSome (slice_get a.subpools j) (λ x. x.number ≡ c.subpool → ⊥)) cells (λ q c there is j less.
    by c j (nat_eq j k) refl less (each_of (λ q c. nat_eq c.pool p ≡ true → (j : ℕ) → j < k → IfSome (slice_get a.subpools j) (λ x. x.number ≡ c.subpool → ⊥)) cells q c behind there is))
  where
    nothing : (c : Cell) (o : Option Seen) → option_map (λ (x : Seen). x.number) o ≡ None → IfSome o (λ x. x.number ≡ c.subpool → ⊥)
    nothing c None e = tt
    nothing c (Some x) e = absurd (cc)

    smaller : (j k : ℕ) → j < k + 1 → (j ≡ k → ⊥) → j < k
    smaller j k lt apart = omega arith

    by : (c : Cell) (j : ℕ) (b : Bool) → nat_eq j k ≡ b → j < k + 1 → ((i : ℕ) → i < k → IfSome (slice_get a.subpools i) (λ x. x.number ≡ c.subpool → ⊥)) → IfSome (slice_get a.subpools j) (λ x. x.number ≡ c.subpool → ⊥)
    by c j true e less before = nothing c (slice_get a.subpools j) (ap (λ i. option_map (λ (x : Seen). x.number) (slice_get a.subpools i)) (eqb-true j k e) ∙ none)
    by c j false e less before = before j (smaller j k less (λ same. let no : true ≡ false = sym (eq-eqb j k same) ∙ e in cc))

-- one that lies in no subpool of a pool does not lie in this one
pub weaker_out : (p n : ℕ) (c : Cell) → is_out_of_pool p c ≡ true → is_out_of_subpool p n c ≡ true
weaker_out p n c out = by (nat_eq c.pool p) out
  where
    by : (b : Bool) → not b ≡ true → not (b && nat_eq c.subpool n) ≡ true
    by true h = absurd (cc)
    by false h = refl

-- past the last subpool there is none
pub all_behind : (p k : ℕ) (a : Subpools) (cells : Cells) → k ≡ length a.subpools → AreHeldIn p a cells → AreBehind p k a cells → kept (is_out_of_pool p) cells ≡ cells
all_behind p k a cells end held behind = all_kept (is_out_of_pool p) cells (each_from (λ q c. is_out_of_pool p c ≡ true) cells (λ q c there.
    not_false (nat_eq c.pool p) (λ is.
    let none = no_subpool c.subpool a.subpools (λ j less. each_of (λ q c. nat_eq c.pool p ≡ true → (j : ℕ) → j < k → IfSome (slice_get a.subpools j) (λ x. x.number ≡ c.subpool → ⊥)) cells q c behind there is j (subst (λ m. j < m) (sym end) less)) in
    let holds = each_of (IsHeldIn p a) cells q c held there is in
    let no : ◌≡◌ {A = Option ℕ} None (Some q) = ap (λ o. object_in (block_in c.index o)) (sym none) ∙ holds in
    cc)))
  where
    no_subpool : (n : ℕ) (xs : List Seen) → ((j : ℕ) → j < length xs → IfSome (slice_get xs j) (λ x. x.number ≡ n → ⊥)) → subpool_of n xs ≡ None
    no_subpool n [] none = refl
    no_subpool n (x ∷ xs) none = by (nat_eq x.number n) refl (no_subpool n xs (λ j less. none (suc j) (omega arith)))
      where
        by : (b : Bool) → nat_eq x.number n ≡ b → subpool_of n xs ≡ None → cond b (Some x) (subpool_of n xs) ≡ None
        by true e more = absurd (none 0 (omega arith) (eqb-true x.number n e))
        by false e more = more

-- The store ----------------------------------------------------------------------

module _ (cells : Cells) (pools : Areas) (opened : List ℕ) (g : ℕ) (places : Places cells pools g) (p : ℕ) where
  -- what lies in a pool is held by its blocks
  pub held_in : (a : Subpools) → get pools p ≡ Some a → AreHeldIn p a cells
  held_in a there = each_from (IsHeldIn p a) cells (λ q c here is.
      ap (λ o. object_in (block_in c.index o)) (sym (row_there pools p a c there (eqb-true c.pool p is))) ∙ (each_of (IsAt pools) cells q c places.placed here).0)

  -- where no pool is open, nothing lies in it
  pub none_in : get pools p ≡ None → kept (is_out_of_pool p) cells ≡ cells
  none_in none = all_kept (is_out_of_pool p) cells (each_from (λ q c. is_out_of_pool p c ≡ true) cells (λ q c here.
      not_false (nat_eq c.pool p) (λ is.
      let row : row_at c pools ≡ None = ap (option_and_then (λ (d : Subpools). subpool_of c.subpool d.subpools)) (ap (get pools) (eqb-true c.pool p is) ∙ none) in
      let at = each_of (IsAt pools) cells q c places.placed here in
      let no : ◌≡◌ {A = Option ℕ} None (Some q) = ap (λ o. object_in (block_in c.index o)) (sym row) ∙ at.0 in
      cc)))

  abbrev rest : Cells
  rest = kept (is_out_of_pool p) cells

  out_is : (c : Cell) → is_out_of_pool p c ≡ true → nat_eq c.pool p ≡ false
  out_is c out = by (nat_eq c.pool p) out
    where
      by : (b : Bool) → not b ≡ true → b ≡ false
      by true h = absurd (cc)
      by false h = refl

  row_stays : (c : Cell) → is_out_of_pool p c ≡ true → row_at c (remove pools p) ≡ row_at c pools
  row_stays c out =
      ap (option_and_then (λ (d : Subpools). subpool_of c.subpool d.subpools)) (get_dropped pools p c.pool ∙ ap (λ t. cond t None (get pools c.pool)) (out_is c out))

  pub closed_places : Places rest (remove pools p) g
  closed_places = record {
    placed = each_from (IsAt (remove pools p)) rest (λ q c there.
        let was = kept_is (is_out_of_pool p) cells q c there in
        subst (Holds c.index q) (sym (row_stays c was.1)) (each_of (IsAt pools) cells q c places.placed was.0));
    numbers = below_drop g p pools places.numbers;
    positive = places.positive;
  }

  pub closed_seen : seen rest (remove pools p) (store.others p opened) g ≡ store.without_pool p (seen cells pools opened g)
  closed_seen =
      let o = equal_maps (mapped (stored_at (remove pools p)) rest) (kept (λ x. not (store.lies_in p x)) (mapped (stored_at pools) cells)) same in
      let b = sym (nothing_removed {V = BlockPool} p) in
      let q = mapped_drop mark_of pools p in
      λ i. record { objects = o i; blocks = b i; given = 0; marks = q i; opened = store.others p opened; next_subpool = g }
    where
      or_false : (b : Bool) → (b || false) ≡ b
      or_false true = refl
      or_false false = refl

      one : (c : Cell) (t : Bool) → nat_eq c.pool p ≡ t → option_map (stored_at (remove pools p)) (cond (not t) (Some c) None) ≡ kept_if (λ x. not (store.lies_in p x)) (Some (stored_at pools c))
      one c true is = sym (ap (λ t. cond (not t) (Some (stored_at pools c)) None) (or_false (nat_eq c.pool p) ∙ is))
      one c false is =
          ap (λ r. Some (let x : Stored = record { spot = None; site = Some (record { pool = c.pool; subpool = c.subpool }); words = words_in (block_in c.index r) } in x)) (row_stays c (ap not is))
          ∙ sym (ap (λ t. cond (not t) (Some (stored_at pools c)) None) (or_false (nat_eq c.pool p) ∙ is))

      each : (o : Option Cell) → option_map (stored_at (remove pools p)) (kept_if (is_out_of_pool p) o) ≡ kept_if (λ x. not (store.lies_in p x)) (option_map (stored_at pools) o)
      each None = refl
      each (Some c) = one c (nat_eq c.pool p) refl

      same : (q : ℕ) → get (mapped (stored_at (remove pools p)) rest) q ≡ get (kept (λ x. not (store.lies_in p x)) (mapped (stored_at pools) cells)) q
      same q = get_mapped (stored_at (remove pools p)) rest q ∙ ap (option_map (stored_at (remove pools p))) (get_kept (is_out_of_pool p) cells q)
          ∙ each (get cells q) ∙ sym (get_kept (λ x. not (store.lies_in p x)) (mapped (stored_at pools) cells) q ∙ ap (kept_if (λ x. not (store.lies_in p x))) (get_mapped (stored_at pools) cells q))

-- A subpool that is released -------------------------------------------------------

module _ (cells : Cells) (pools : Areas) (opened : List ℕ) (g : ℕ) (places : Places cells pools g) (p n : ℕ) (a : Subpools) (there : get pools p ≡ Some a) where
  abbrev left : Cells
  left = kept (is_out_of_subpool p n) cells

  abbrev after : Areas
  after = insert pools p (after_release n g a)

  -- the objects in other subpools stay
  row_left : (q : ℕ) (c : Cell) → is_out_of_subpool p n c ≡ true → IsAt pools q c → row_at c after ≡ row_at c pools
  row_left q c out at = by (nat_eq c.pool p) refl
    where
      apart : (t : Bool) → not (true && t) ≡ true → t ≡ false
      apart true h = absurd (cc)
      apart false h = refl

      some : (o : Option Seen) → Holds c.index q o → (x : Seen) × (o ≡ Some x) × (is_dead x.standing ≡ false)
      some None h = let no : ◌≡◌ {A = Option ℕ} None (Some q) = h.0 in absurd (cc)
      some (Some x) h = (x, refl, h.1)

      by : (t : Bool) → nat_eq c.pool p ≡ t → row_at c after ≡ row_at c pools
      by true e =
          let same = eqb-true c.pool p e in
          let old = row_there pools p a c there same in
          let x = some (row_at c pools) at in
          let other : nat_eq c.subpool n ≡ false = apart (nat_eq c.subpool n) (ap (λ t. not (t && nat_eq c.subpool n)) (sym e) ∙ out) in
          row_here pools p (after_release n g a) c same ∙ row_after n g c.subpool a x.0 other (sym old ∙ x.1) x.2 ∙ sym x.1
      by false e = row_apart pools p (after_release n g a) c e

  pub released_places : (h : ℕ) → g ≤ h → (after_release n g a).given < h → Places left after h
  released_places h more less = record {
    placed = each_from (IsAt after) left (λ q c here.
        let was = kept_is (is_out_of_subpool p n) cells q c here in
        let at = each_of (IsAt pools) cells q c places.placed was.0 in
        subst (Holds c.index q) (sym (row_left q c was.1 at)) at);
    numbers = below_put g h p pools (after_release n g a) more places.numbers less;
    positive = omega (arith, places.positive);
  }

  pub released_seen : (h : ℕ) → h ≡ g + cond (marks.is_renewed_by n (mark_of a)) 1 0 → seen left after opened h ≡ store.released_in p n (seen cells pools opened g)
  released_seen h end =
      let o = equal_maps (mapped (stored_at after) left) (kept (λ x. not (store.lies_in_subpool p n x)) (mapped (stored_at pools) cells)) same in
      let q = mapped_changed mark_of pools p a (after_release n g a) (marks.released n g) there (release_shown n g a) in
      let m = end ∙ ap (λ o. g + cond (option_map_or (marks.is_renewed_by n) o false) 1 0) (sym (mark_here pools p a there)) in
      λ i. record { objects = o i; blocks = empty; given = 0; marks = q i; opened = opened; next_subpool = m i }
    where
      one : (q : ℕ) (c : Cell) → IsAt pools q c → (t : Bool) → is_in_subpool p n c ≡ t → option_map (stored_at after) (cond (not t) (Some c) None) ≡ kept_if (λ x. not (store.lies_in_subpool p n x)) (Some (stored_at pools c))
      one q c at true is = sym (ap (λ t. cond (not t) (Some (stored_at pools c)) None) is)
      one q c at false is =
          ap (λ r. Some (let x : Stored = record { spot = None; site = Some (record { pool = c.pool; subpool = c.subpool }); words = words_in (block_in c.index r) } in x)) (row_left q c (ap not is) at)
          ∙ sym (ap (λ t. cond (not t) (Some (stored_at pools c)) None) is)

      each : (q : ℕ) (o : Option Cell) → IfSome o (IsAt pools q) → option_map (stored_at after) (kept_if (is_out_of_subpool p n) o) ≡ kept_if (λ x. not (store.lies_in_subpool p n x)) (option_map (stored_at pools) o)
      each q None h = refl
      each q (Some c) h = one q c h (is_in_subpool p n c) refl

      same : (q : ℕ) → get (mapped (stored_at after) left) q ≡ get (kept (λ x. not (store.lies_in_subpool p n x)) (mapped (stored_at pools) cells)) q
      same q = get_mapped (stored_at after) left q ∙ ap (option_map (stored_at after)) (get_kept (is_out_of_subpool p n) cells q)
          ∙ each q (get cells q) (places.placed q) ∙ sym (get_kept (λ x. not (store.lies_in_subpool p n x)) (mapped (stored_at pools) cells) q ∙ ap (kept_if (λ x. not (store.lies_in_subpool p n x))) (get_mapped (stored_at pools) cells q))
