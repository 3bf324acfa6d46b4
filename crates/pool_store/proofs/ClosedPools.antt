-- A pool that closes, and the objects that lie in it.
use Rattle.std.proofs.Common.{◌≡◌, ℕ, zero, suc, ◌-◌, ◌<◌, [], Bool, true, false, cond, Option, Some, None, refl, sym, ap, subst, ◌∙◌, arith}
use Rattle.std.specs.Prelude.{nat_eq, not, is_some, IfSome}
use Rattle.std.specs.Cmp.{nat_cmp_total}
use Rattle.std.specs.Ordering.{nat_cmp}
use Rattle.std.specs.Option.{option_map, option_map_or}
use Rattle.std.specs.FinMap.{FinMap, empty, get, remove, len, get-empty, len-remove, empty_of_len}
use borrow.Author.Tests.{eqb-true, eq-eqb}
use Rattle.number_map.specs.Table.{mapped}
use Rattle.number_map.proofs.Changes.{get_dropped, equal_maps}
use Rattle.number_map.proofs.Mapped.{get_mapped, mapped_drop}
use Rattle.pool_area.specs.Blocks as area
use Rattle.pool_area.specs.Blocks.{Blocks}
use Rattle.pool_store.specs.declared.entry.Spot.{Spot}
use Rattle.pool_store.specs.declared.entry.Entry.{Entry}
use Rattle.pool_store.specs.declared.entry.Entry.TheVariants.{Standard, InBlock}
use Rattle.pool_store.specs.Entries.{Stored, pool_of, lot_at, object_in, words_in, stored_in, is_in, is_elsewhere, forgotten, IsHeldBy, AreHeldBy, IsTied, Ties}
use Rattle.pool_store.specs.Kept.{kept, kept_if}
use Rattle.pool_store.specs.Marks.{MarkPool}
use Rattle.pool_store.specs.Store as store
use Rattle.pool_store.specs.Store.{Store}
use Rattle.pool_store.proofs.KeptLemmas.{get_kept, kept_again}
use Rattle.pool_store.proofs.Tied.{Objects, Pools}
use Rattle.pool_store.proofs.Areas.{lot_there, all_given_drop}
use Rattle.pool_store.proofs.Steps.{seen}

-- what a number gives once an object was forgotten
pub get_forgotten : {A : Type 0} (p m : ℕ) (objects : Objects A) (q : ℕ) → get (forgotten p (Some m) objects) q ≡ cond (nat_eq q m) (kept_if (is_elsewhere p) (get objects q)) (get objects q)
get_forgotten {A} p m objects q = by (nat_eq q m) refl
  where
    same : q ≡ m → get (forgotten p (Some m) objects) q ≡ kept_if (is_elsewhere p) (get objects q)
    same e = here (get objects m) refl
      where
        at : (o : Option (Entry A)) → get objects m ≡ o → get objects q ≡ o
        at o there = ap (get objects) e ∙ there

        stays : (x : Entry A) (b : Bool) → get objects m ≡ Some x → is_in p x ≡ b → get (cond b (remove objects m) objects) q ≡ kept_if (is_elsewhere p) (Some x)
        stays x true there is = get_dropped objects m q ∙ ap (λ t. cond t None (get objects q)) (eq-eqb q m e) ∙ sym (ap (λ t. cond (not t) (Some x) None) is)
        stays x false there is = at (Some x) there ∙ sym (ap (λ t. cond (not t) (Some x) None) is)

        here : (o : Option (Entry A)) → get objects m ≡ o → get (forgotten p (Some m) objects) q ≡ kept_if (is_elsewhere p) (get objects q)
        here None there =
            ap (λ o. get (cond (option_map_or (is_in p) o false) (remove objects m) objects) q) there ∙ at None there ∙ sym (ap (kept_if (is_elsewhere p)) (at None there))
        here (Some x) there =
            ap (λ o. get (cond (option_map_or (is_in p) o false) (remove objects m) objects) q) there ∙ stays x (is_in p x) there refl ∙ sym (ap (kept_if (is_elsewhere p)) (at (Some x) there))

    other : nat_eq q m ≡ false → (b : Bool) → get (cond b (remove objects m) objects) q ≡ get objects q
    other e true = get_dropped objects m q ∙ ap (λ t. cond t None (get objects q)) e
    other e false = refl

    by : (b : Bool) → nat_eq q m ≡ b → get (forgotten p (Some m) objects) q ≡ cond b (kept_if (is_elsewhere p) (get objects q)) (get objects q)
    by true e = same (eqb-true q m e)
    by false e = other e (option_map_or (is_in p) (get objects m) false)

-- those that lie elsewhere stay
pub back_keeps : {A : Type 0} (p : ℕ) (x : Option ℕ) (objects : Objects A) → kept (is_elsewhere p) (forgotten p x objects) ≡ kept (is_elsewhere p) objects
back_keeps p None objects = refl
back_keeps {A} p (Some m) objects = equal_maps (kept (is_elsewhere p) (forgotten p (Some m) objects)) (kept (is_elsewhere p) objects) (λ q.
    get_kept (is_elsewhere p) (forgotten p (Some m) objects) q ∙ ap (kept_if (is_elsewhere p)) (get_forgotten p m objects q) ∙ by q (nat_eq q m) ∙ sym (get_kept (is_elsewhere p) objects q))
  where
    by : (q : ℕ) (b : Bool) → kept_if (is_elsewhere p) (cond b (kept_if (is_elsewhere p) (get objects q)) (get objects q)) ≡ kept_if (is_elsewhere p) (get objects q)
    by q true = kept_again (is_elsewhere p) (get objects q)
    by q false = refl

-- an object that its block holds is held on, where another block goes back
still_held : {A : Type 0} (p a n : ℕ) (b : Blocks) (e : Entry A) → IsHeldBy p b n e → (is_in p e ≡ true → area.object_at a b ≡ Some n → ⊥) → IsHeldBy p (area.with_block_back a b) n e
still_held p a n b (Standard ws) h other = tt
still_held p a n b (InBlock s) h other = λ is. by is (nat_eq s.address a) refl
  where
    by : nat_eq s.pool p ≡ true → (t : Bool) → nat_eq s.address a ≡ t → object_in (get (remove b.out a) s.address) ≡ Some n
    by is true e = absurd (other is (ap (λ x. object_in (get b.out x)) (sym (eqb-true s.address a e)) ∙ h is))
    by is false e = ap object_in (get_dropped b.out a s.address ∙ ap (λ t. cond t None (get b.out s.address)) e) ∙ h is

-- and so is each that lies in the pool
pub back_held : {A : Type 0} (p a : ℕ) (b : Blocks) (x : Option ℕ) (objects : Objects A) → x ≡ area.object_at a b → AreHeldBy p b objects
    → AreHeldBy p (area.with_block_back a b) (forgotten p x objects)
back_held {A} p a b None objects was held n = by (get objects n) (held n)
  where
    by : (o : Option (Entry A)) → IfSome o (IsHeldBy p b n) → IfSome o (IsHeldBy p (area.with_block_back a b) n)
    by None h = tt
    by (Some e) h = still_held p a n b e h (λ is at. let no : ◌≡◌ {A = Option ℕ} None (Some n) = was ∙ at in cc)
back_held {A} p a b (Some m) objects was held n =
    subst (λ o. IfSome o (IsHeldBy p (area.with_block_back a b) n)) (sym (get_forgotten p m objects n)) (by (nat_eq n m) refl (get objects n) (held n))
  where
    elsewhere : (e : Entry A) (t : Bool) → is_in p e ≡ t → IsHeldBy p b n e → IfSome (cond (not t) (Some e) None) (IsHeldBy p (area.with_block_back a b) n)
    elsewhere e true is h = tt
    elsewhere e false is h = still_held p a n b e h (λ yes at. let no : true ≡ false = sym yes ∙ is in cc)

    by : (t : Bool) → nat_eq n m ≡ t → (o : Option (Entry A)) → IfSome o (IsHeldBy p b n) → IfSome (cond t (kept_if (is_elsewhere p) o) o) (IsHeldBy p (area.with_block_back a b) n)
    by true is None h = tt
    by true is (Some e) h = elsewhere e (is_in p e) refl h
    by false is None h = tt
    by false is (Some e) h = still_held p a n b e h (λ yes at.
        let one : Some m ≡ Some n = was ∙ at in
        let same : n ≡ m = cc in
        let no : true ≡ false = sym (eq-eqb n m same) ∙ is in cc)

-- where no block is out, no object lies in the pool
pub none_left : {A : Type 0} (p : ℕ) (b : Blocks) (objects : Objects A) → b.out ≡ empty → AreHeldBy p b objects → kept (is_elsewhere p) objects ≡ objects
none_left {A} p b objects none held = equal_maps (kept (is_elsewhere p) objects) objects (λ q. get_kept (is_elsewhere p) objects q ∙ by q (get objects q) (held q))
  where
    nothing : (a : ℕ) → object_in (get b.out a) ≡ None
    nothing a = ap (λ t. object_in (get t a)) none ∙ ap object_in (get-empty nat_cmp a)

    in_none : (q : ℕ) (e : Entry A) → IsHeldBy p b q e → is_in p e ≡ true → ⊥
    in_none q (Standard ws) h is = let no : true ≡ false = sym is in cc
    in_none q (InBlock s) h is = let no : ◌≡◌ {A = Option ℕ} None (Some q) = sym (nothing s.address) ∙ h is in cc

    stays : (q : ℕ) (e : Entry A) (t : Bool) → is_in p e ≡ t → IsHeldBy p b q e → cond (not t) (Some e) None ≡ Some e
    stays q e true is h = absurd (in_none q e h is)
    stays q e false is h = refl

    by : (q : ℕ) (o : Option (Entry A)) → IfSome o (IsHeldBy p b q) → kept_if (is_elsewhere p) o ≡ o
    by q None h = refl
    by q (Some e) h = stays q e (is_in p e) refl h

-- one block fewer is out
pub fewer_out : (a : ℕ) (b : Blocks) → area.IsOut a b → len (remove b.out a) < len b.out
fewer_out a b out =
    let less : len (remove b.out a) ≡ len b.out - 1 = len-remove nat_cmp_total b.out a ∙ ap (λ (t : Bool). cond t (len b.out - 1) (len b.out)) out in
    let positive = some (len b.out) refl in
    omega (arith, less, positive)
  where
    none_out : len b.out ≡ 0 → is_some (get b.out a) ≡ false
    none_out none = ap (λ t. is_some (get t a)) (empty_of_len b.out none) ∙ ap is_some (get-empty nat_cmp a)

    some : (n : ℕ) → len b.out ≡ n → 0 < n
    some zero none = let no : true ≡ false = sym out ∙ none_out none in absurd (cc)
    some (suc n) e = omega arith

-- The store ----------------------------------------------------------------

-- an empty map stays so
pub nothing_removed : {V : Type 0} (p : ℕ) → (let none : FinMap nat_cmp V = empty in remove none p ≡ none)
nothing_removed {V} p =
    let none : FinMap nat_cmp V = empty in
    equal_maps (remove none p) none (λ q. get_dropped none p q ∙ by q (nat_eq q p))
  where
    by : (q : ℕ) (b : Bool) → (let none : FinMap nat_cmp V = empty in cond b None (get none q)) ≡ (let none : FinMap nat_cmp V = empty in get none q)
    by q true = sym (get-empty nat_cmp q)
    by q false = refl

abbrev lies_elsewhere : ℕ → Stored → Bool
lies_elsewhere p x = not (store.lies_in p x)

module _ {A : Type 0} (objects : Objects A) (blocks : Pools) (g : ℕ) (ties : Ties objects blocks g) (p : ℕ) where
  -- what lies in a pool is held by its blocks
  pub held_by : (b : Blocks) → get blocks p ≡ Some b → AreHeldBy p b objects
  held_by b there n = each (get objects n) (ties.tied n)
    where
      one : (e : Entry A) → IsTied blocks n e → IsHeldBy p b n e
      one (Standard ws) h = tt
      one (InBlock s) h = λ is.
          ap object_in (sym (lot_there blocks s.pool s.address b (ap (get blocks) (eqb-true s.pool p is) ∙ there))) ∙ h

      each : (o : Option (Entry A)) → IfSome o (IsTied blocks n) → IfSome o (IsHeldBy p b n)
      each None h = tt
      each (Some e) h = one e h

  -- where no pool is open, nothing lies in it
  pub none_in : get blocks p ≡ None → kept (is_elsewhere p) objects ≡ objects
  none_in none = equal_maps (kept (is_elsewhere p) objects) objects (λ q. get_kept (is_elsewhere p) objects q ∙ by q (get objects q) (ties.tied q))
    where
      in_none : (q : ℕ) (e : Entry A) → IsTied blocks q e → is_in p e ≡ true → ⊥
      in_none q (Standard ws) h is = let no : true ≡ false = sym is in cc
      in_none q (InBlock s) h is =
          let lot : lot_at s blocks ≡ None = ap (λ o. option_map_or (λ (d : Blocks). get d.out s.address) o None) (ap (get blocks) (eqb-true s.pool p is) ∙ none) in
          let no : ◌≡◌ {A = Option ℕ} None (Some q) = sym (ap object_in lot) ∙ h in
          cc

      stays : (q : ℕ) (e : Entry A) (t : Bool) → is_in p e ≡ t → IsTied blocks q e → cond (not t) (Some e) None ≡ Some e
      stays q e true is h = absurd (in_none q e h is)
      stays q e false is h = refl

      by : (q : ℕ) (o : Option (Entry A)) → IfSome o (IsTied blocks q) → kept_if (is_elsewhere p) o ≡ o
      by q None h = refl
      by q (Some e) h = stays q e (is_in p e) refl h

  abbrev others : Objects A
  others = kept (is_elsewhere p) objects

  -- the blocks of another pool stay
  lot_elsewhere : (s : Spot) → nat_eq s.pool p ≡ false → lot_at s (remove blocks p) ≡ lot_at s blocks
  lot_elsewhere s off = ap (λ o. option_map_or (λ (d : Blocks). get d.out s.address) o None) (get_dropped blocks p s.pool ∙ ap (λ t. cond t None (get blocks s.pool)) off)

  pub closed_ties : Ties others (remove blocks p) g
  closed_ties = record {
    tied = λ n. subst (λ o. IfSome o (IsTied (remove blocks p) n)) (sym (get_kept (is_elsewhere p) objects n)) (each n (get objects n) (ties.tied n));
    addresses = all_given_drop g p blocks ties.addresses;
  }
    where
      one : (n : ℕ) (e : Entry A) (t : Bool) → is_in p e ≡ t → IsTied blocks n e → IfSome (cond (not t) (Some e) None) (IsTied (remove blocks p) n)
      one n e true is h = tt
      one n (Standard ws) false is h = tt
      one n (InBlock s) false is h = ap object_in (lot_elsewhere s is) ∙ h

      each : (n : ℕ) (o : Option (Entry A)) → IfSome o (IsTied blocks n) → IfSome (kept_if (is_elsewhere p) o) (IsTied (remove blocks p) n)
      each n None h = tt
      each n (Some e) h = one n e (is_in p e) refl h

  pub closed_seen : seen others (remove blocks p) g ≡ store.without_pool p (seen objects blocks g)
  closed_seen =
      let o = equal_maps (mapped (stored_in (remove blocks p)) others) (kept (lies_elsewhere p) (mapped (stored_in blocks) objects)) same in
      let q = mapped_drop pool_of blocks p in
      let m = sym (nothing_removed {V = MarkPool} p) in
      λ i. record { objects = o i; blocks = q i; given = g; marks = m i; opened = []; next_subpool = 1 }
    where
      one : (e : Entry A) (t : Bool) → is_in p e ≡ t → option_map (stored_in (remove blocks p)) (cond (not t) (Some e) None) ≡ kept_if (lies_elsewhere p) (Some (stored_in blocks e))
      one (Standard ws) true is = let no : true ≡ false = sym is in absurd (cc)
      one (Standard ws) false is = refl
      one (InBlock s) true is = sym (ap (λ t. cond (not t) (Some (stored_in blocks (let e : Entry A = InBlock s in e))) None) is)
      one (InBlock s) false is =
          ap (λ l. Some (let r : Stored = record { spot = Some s; site = None; words = words_in l } in r)) (lot_elsewhere s is)
          ∙ sym (ap (λ t. cond (not t) (Some (stored_in blocks (let e : Entry A = InBlock s in e))) None) is)

      each : (o : Option (Entry A)) → option_map (stored_in (remove blocks p)) (kept_if (is_elsewhere p) o) ≡ kept_if (lies_elsewhere p) (option_map (stored_in blocks) o)
      each None = refl
      each (Some e) = one e (is_in p e) refl

      same : (q : ℕ) → get (mapped (stored_in (remove blocks p)) others) q ≡ get (kept (lies_elsewhere p) (mapped (stored_in blocks) objects)) q
      same q = get_mapped (stored_in (remove blocks p)) others q ∙ ap (option_map (stored_in (remove blocks p))) (get_kept (is_elsewhere p) objects q)
          ∙ each (get objects q) ∙ sym (get_kept (lies_elsewhere p) (mapped (stored_in blocks) objects) q ∙ ap (kept_if (lies_elsewhere p)) (get_mapped (stored_in blocks) objects q))
