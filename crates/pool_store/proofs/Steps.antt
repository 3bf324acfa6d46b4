-- What a call does to the objects and the pools, and what is seen of it.
use Rattle.std.proofs.Common.{◌≡◌, ℕ, ◌+◌, replicate, List, [], Option, Some, None, cond, refl, sym, ap, subst, ◌∙◌, arith}
use Rattle.std.specs.Prelude.{IfSome, false, is_some, Result, Ok, Err, OnErr}
use Rattle.std.specs.Option.{option_map, option_map_or}
use Rattle.std.specs.FinMap.{empty, get, insert, remove}
use Rattle.number_map.specs.Table.{mapped, change}
use Rattle.number_map.proofs.Changes.{get_dropped, get_here, get_there, insert_same, insert_again}
use Rattle.number_map.proofs.Mapped.{get_mapped, mapped_put, mapped_changed}
use Rattle.pool_area.specs.Lots.{Held}
use Rattle.pool_area.specs.Blocks as area
use Rattle.pool_area.specs.Blocks.{Blocks}
use Rattle.pool_store.specs.declared.entry.Spot.{Spot}
use Rattle.pool_store.specs.declared.entry.Entry.{Entry}
use Rattle.pool_store.specs.declared.entry.Entry.TheVariants.{Standard, InBlock}
use Rattle.pool_store.specs.Entries.{Stored, pool_of, lot_at, object_in, words_in, stored_in, IsTied, Ties, own_words, spot_in}
use Rattle.pool_store.specs.Store as store
use Rattle.pool_store.specs.Store.{Store}
use Rattle.pool_store.proofs.Areas.{given_more, given_put, out_seen, given_drop, given_over, given_changed, given_of, all_given_put, pool_here, back_seen, held_seen, words_unseen, vacated_seen, lot_here, lot_there, change_there}
use borrow.Author.Tests.{ne_eqb}
use Rattle.pool_store.proofs.Tied.{Objects, Pools, Spares, Any, Other, Tied, spares, all_seen, all_tied, put_seen, put_tied, drop_seen, drop_tied, change_seen, spares_same}

-- what is seen of objects and pools
abbrev pub seen : {A : Type 0} → Objects A → Pools → ℕ → Store
seen objects blocks g = record { objects = mapped (stored_in blocks) objects; blocks = mapped pool_of blocks; given = g; marks = empty; opened = []; next_subpool = 1 }

pub on_err : {T E : Type 0} (r : Result T E) (P : Type 0) → P → OnErr r P
on_err (Ok x) P p = tt
on_err (Err e) P p = p

module _ {A : Type 0} (objects : Objects A) (blocks : Pools) (g : ℕ) (ties : Ties objects blocks g) where
  -- a vacant block comes back
  module _ (p a : ℕ) (b : Blocks) (there : get blocks p ≡ Some b) (vacant : get b.out a ≡ Some None) where
    abbrev freed : Pools
    freed = insert blocks p (area.with_block_back a b)

    freed_spares : Spares Any blocks freed
    freed_spares = spares Any blocks p a b (area.with_block_back a b) there
        (λ x off. get_dropped b.out a x ∙ ap (λ t. cond t None (get b.out x)) (ne_eqb x a off))
        (λ m is holder. let no : object_in (Some None) ≡ Some m = ap object_in (sym vacant) ∙ holder in cc)

    pub freed_ties : Ties objects freed g
    freed_ties = record {
      tied = all_tied objects blocks freed freed_spares ties.tied;
      addresses = all_given_put g g p blocks (area.with_block_back a b) (omega arith) ties.addresses (given_drop g a b.out (given_of g p blocks b ties.addresses there));
    }

    pub freed_seen : seen objects freed g ≡ store.give_block p a (seen objects blocks g)
    freed_seen =
        let o = all_seen objects blocks freed freed_spares ties.tied in
        let q = mapped_changed pool_of blocks p b (area.with_block_back a b) (store.with_block_back a) there (back_seen b a) in
        λ i. record { objects = o i; blocks = q i; given = g; marks = empty; opened = []; next_subpool = 1 }

  -- a free block goes out, under the next address
  module _ (p : ℕ) (b : Blocks) (there : get blocks p ≡ Some b) where
    abbrev taken : Pools
    taken = insert blocks p (area.with_block_out (g + 1) b)

    pub not_out : get b.out (g + 1) ≡ None
    not_out = given_of g p blocks b ties.addresses there (g + 1) (omega arith)

    taken_spares : Spares Any blocks taken
    taken_spares = spares Any blocks p (g + 1) b (area.with_block_out (g + 1) b) there
        (λ x off. get_there b.out (g + 1) x None off)
        (λ m is holder. let no : object_in None ≡ Some m = ap object_in (sym not_out) ∙ holder in cc)

    pub taken_ties : Ties objects taken (g + 1)
    taken_ties =
        let more = given_more g (g + 1) b.out (omega arith) (given_of g p blocks b ties.addresses there) in record {
          tied = all_tied objects blocks taken taken_spares ties.tied;
          addresses = all_given_put g (g + 1) p blocks (area.with_block_out (g + 1) b) (omega arith) ties.addresses (given_put (g + 1) (g + 1) b.out None (omega arith) more);
        }

    pub taken_seen : seen objects taken (g + 1) ≡ store.take_block p (seen objects blocks g)
    taken_seen =
        let o = all_seen objects blocks taken taken_spares ties.tied in
        let q = mapped_changed pool_of blocks p b (area.with_block_out (g + 1) b) (store.with_block_out (g + 1)) there (out_seen b (g + 1)) in
        λ i. record { objects = o i; blocks = q i; given = g + 1; marks = empty; opened = []; next_subpool = 1 }

  -- a new object is put into a vacant block
  module _ (p a n words : ℕ) (b : Blocks) (there : get blocks p ≡ Some b) (vacant : get b.out a ≡ Some None) where
    abbrev filled : Pools
    filled = insert blocks p (area.with_holder a n words b)

    abbrev entry : Entry A
    entry = InBlock (record { pool = p; address = a })

    abbrev held : Option Held
    held = Some (record { object = n; words = replicate words 0 })

    filled_spares : Spares (Other n) blocks filled
    filled_spares = spares (Other n) blocks p a b (area.with_holder a n words b) there
        (λ x off. get_there b.out a x held off)
        (λ m is holder. let no : object_in (Some None) ≡ Some m = ap object_in (sym vacant) ∙ holder in cc)

    filled_lot : lot_at (record { pool = p; address = a }) filled ≡ Some held
    filled_lot = lot_here blocks p a (area.with_holder a n words b) ∙ get_here b.out a held

    pub filled_ties : Ties (insert objects n entry) filled g
    filled_ties = record {
      tied = put_tied objects blocks filled n entry filled_spares ties.tied (ap object_in filled_lot);
      addresses = all_given_put g g p blocks (area.with_holder a n words b) (omega arith) ties.addresses (given_over g a b.out None held vacant (given_of g p blocks b ties.addresses there));
    }

    pub filled_seen : seen (insert objects n entry) filled g ≡ store.hold_block p a n words (seen objects blocks g)
    filled_seen =
        let o = put_seen objects blocks filled n entry filled_spares ties.tied
        ∙ ap (λ l. insert (mapped (stored_in blocks) objects) n (let r : Stored = record { spot = Some (record { pool = p; address = a }); site = None; words = words_in l } in r)) filled_lot in
        let q = mapped_changed pool_of blocks p b (area.with_holder a n words b) (store.with_holder a (Some n)) there (held_seen b a n words) in
        λ i. record { objects = o i; blocks = q i; given = g; marks = empty; opened = []; next_subpool = 1 }

  -- an object is held no more
  module _ (n : ℕ) where
    abbrev rest : Objects A
    rest = remove objects n

    spot_seen : (e : Entry A) → get objects n ≡ Some e → option_map_or (λ (x : Stored). x.spot) (get (mapped (stored_in blocks) objects) n) None ≡ (stored_in blocks e).spot
    spot_seen e here = ap (λ o. option_map_or (λ (x : Stored). x.spot) o None) (get_mapped (stored_in blocks) objects n ∙ ap (option_map (stored_in blocks)) here)

    pub none_ties : Ties rest blocks g
    none_ties = record { tied = drop_tied objects blocks blocks n (spares_same (Other n) blocks) ties.tied; addresses = ties.addresses }

    pub standard_seen : (ws : List ℕ) → get objects n ≡ Some (Standard ws) → seen rest blocks g ≡ store.without_object n (seen objects blocks g)
    standard_seen ws here =
        let o = drop_seen objects blocks blocks n (spares_same (Other n) blocks) ties.tied in
        let q : mapped pool_of blocks ≡ store.freed_spot (option_map_or (λ (x : Stored). x.spot) (get (mapped (stored_in blocks) objects) n) None) (mapped pool_of blocks) =
        sym (ap (λ s. store.freed_spot s (mapped pool_of blocks)) (spot_seen (Standard ws) here)) in
        λ i. record { objects = o i; blocks = q i; given = g; marks = empty; opened = []; next_subpool = 1 }

    pub gone_seen : get objects n ≡ None → seen rest blocks g ≡ store.without_object n (seen objects blocks g)
    gone_seen none =
        let o = drop_seen objects blocks blocks n (spares_same (Other n) blocks) ties.tied in
        let q : mapped pool_of blocks ≡ store.freed_spot (option_map_or (λ (x : Stored). x.spot) (get (mapped (stored_in blocks) objects) n) None) (mapped pool_of blocks) =
        sym (ap (λ s. store.freed_spot (option_map_or (λ (x : Stored). x.spot) s None) (mapped pool_of blocks)) (get_mapped (stored_in blocks) objects n ∙ ap (option_map (stored_in blocks)) none)) in
        λ i. record { objects = o i; blocks = q i; given = g; marks = empty; opened = []; next_subpool = 1 }

    -- where it lies
    pub tie_of : (e : Entry A) → get objects n ≡ Some e → IsTied blocks n e
    tie_of e here = subst (λ o. IfSome o (IsTied blocks n)) here (ties.tied n)

    module _ (s : Spot) (here : get objects n ≡ Some (InBlock s)) (b : Blocks) (there : get blocks s.pool ≡ Some b) where
      abbrev left : Pools
      left = insert blocks s.pool (area.with_no_holder s.address b)

      lot : lot_at s blocks ≡ get b.out s.address
      lot = lot_there blocks s.pool s.address b there

      holder : object_in (get b.out s.address) ≡ Some n
      holder = ap object_in (sym lot) ∙ tie_of (InBlock s) here

      some_lot : (o : Option (Option Held)) → object_in o ≡ Some n → (x : Option Held) × (o ≡ Some x)
      some_lot None e = absurd (cc)
      some_lot (Some x) e = (x, refl)

      left_spares : Spares (Other n) blocks left
      left_spares = spares (Other n) blocks s.pool s.address b (area.with_no_holder s.address b) there
          (λ x off. change_there b.out s.address x (λ h. None) off)
          (λ m is there_m. is (let e : Some m ≡ Some n = sym there_m ∙ holder in cc))

      pub left_ties : Ties rest left g
      left_ties = record {
        tied = drop_tied objects blocks left n left_spares ties.tied;
        addresses = all_given_put g g s.pool blocks (area.with_no_holder s.address b) (omega arith) ties.addresses (given_changed g s.address b.out (λ h. None) (given_of g s.pool blocks b ties.addresses there));
      }

      pub left_seen : seen rest left g ≡ store.without_object n (seen objects blocks g)
      left_seen =
          let x = some_lot (get b.out s.address) holder in
          let o = drop_seen objects blocks left n left_spares ties.tied in
          let q : mapped pool_of left ≡ store.freed_spot (option_map_or (λ (x : Stored). x.spot) (get (mapped (stored_in blocks) objects) n) None) (mapped pool_of blocks) =
          mapped_changed pool_of blocks s.pool b (area.with_no_holder s.address b) (store.with_holder s.address None) there (vacated_seen b s.address x.0 x.1)
          ∙ sym (ap (λ s. store.freed_spot s (mapped pool_of blocks)) (spot_seen (InBlock s) here)) in
          λ i. record { objects = o i; blocks = q i; given = g; marks = empty; opened = []; next_subpool = 1 }

  -- the words of an object
  module _ (n : ℕ) where
    pub words_seen : (e : Entry A) → get objects n ≡ Some e → option_map_or (λ (x : Stored). x.words) (get (mapped (stored_in blocks) objects) n) [] ≡ (stored_in blocks e).words
    words_seen e here = ap (λ o. option_map_or (λ (x : Stored). x.words) o []) (get_mapped (stored_in blocks) objects n ∙ ap (option_map (stored_in blocks)) here)

    pub no_words_seen : get objects n ≡ None → option_map_or (λ (x : Stored). x.words) (get (mapped (stored_in blocks) objects) n) [] ≡ []
    no_words_seen none = ap (λ o. option_map_or (λ (x : Stored). x.words) o []) (get_mapped (stored_in blocks) objects n ∙ ap (option_map (stored_in blocks)) none)

    abbrev rewritten : (List ℕ → List ℕ) → Store → Store
    rewritten f s = record s { objects = change n (store.with_words f) s.objects }

    pub nothing_written : (f : List ℕ → List ℕ) → get objects n ≡ None → seen objects blocks g ≡ rewritten f (seen objects blocks g)
    nothing_written f none =
        let o : mapped (stored_in blocks) objects ≡ change n (store.with_words f) (mapped (stored_in blocks) objects) =
        sym (ap (λ x. option_map_or (λ v. insert (mapped (stored_in blocks) objects) n (store.with_words f v)) x (mapped (stored_in blocks) objects)) (get_mapped (stored_in blocks) objects n ∙ ap (option_map (stored_in blocks)) none)) in
        λ i. record { objects = o i; blocks = mapped pool_of blocks; given = g; marks = empty; opened = []; next_subpool = 1 }

    -- in the standard pool
    module _ (ws : List ℕ) (here : get objects n ≡ Some (Standard ws)) (f : List ℕ → List ℕ) where
      abbrev entry_written : Entry A
      entry_written = Standard (f ws)

      pub standard_ties : Ties (insert objects n entry_written) blocks g
      standard_ties = record { tied = put_tied objects blocks blocks n entry_written (spares_same (Other n) blocks) ties.tied tt; addresses = ties.addresses }

      pub standard_written : seen (insert objects n entry_written) blocks g ≡ rewritten f (seen objects blocks g)
      standard_written =
          let o = put_seen objects blocks blocks n entry_written (spares_same (Other n) blocks) ties.tied
          ∙ sym (ap (λ x. option_map_or (λ v. insert (mapped (stored_in blocks) objects) n (store.with_words f v)) x (mapped (stored_in blocks) objects)) (get_mapped (stored_in blocks) objects n ∙ ap (option_map (stored_in blocks)) here)) in
          λ i. record { objects = o i; blocks = mapped pool_of blocks; given = g; marks = empty; opened = []; next_subpool = 1 }

    -- in a block
    module _ (s : Spot) (here : get objects n ≡ Some (InBlock s)) (f : Held → Held) (F : List ℕ → List ℕ) (same : (h : Held) → (f h).object ≡ h.object) (words : (h : Held) → (f h).words ≡ F h.words) where
      abbrev written_in : Blocks → Blocks
      written_in b = record b { out = change s.address (option_map f) b.out }

      module _ (b : Blocks) (there : get blocks s.pool ≡ Some b) (h : Held) (lies : get b.out s.address ≡ Some (Some h)) where
        abbrev changed : Pools
        changed = insert blocks s.pool (written_in b)

        old_lot : lot_at s blocks ≡ Some (Some h)
        old_lot = lot_there blocks s.pool s.address b there ∙ lies

        new_lot : lot_at s changed ≡ Some (Some (f h))
        new_lot = lot_here blocks s.pool s.address (written_in b)
            ∙ ap (λ o. get (option_map_or (λ v. insert b.out s.address (option_map f v)) o b.out) s.address) lies ∙ get_here b.out s.address (Some (f h))

        is_holder : Some h.object ≡ Some n
        is_holder = ap object_in (sym old_lot) ∙ tie_of n (InBlock s) here

        changed_spares : Spares (Other n) blocks changed
        changed_spares = spares (Other n) blocks s.pool s.address b (written_in b) there
            (λ x off. change_there b.out s.address x (option_map f) off)
            (λ m is there_m. is (let e : Some m ≡ Some n = sym there_m ∙ ap object_in lies ∙ is_holder in cc))

        still_tied : IsTied changed n (let e : Entry A = InBlock s in e)
        still_tied = ap object_in new_lot ∙ ap (λ x. Some x) (same h) ∙ is_holder

        changed_ties : Ties objects changed g
        changed_ties = record {
          tied = subst (λ o. Tied o changed) (insert_same objects n (InBlock s) here) (put_tied objects blocks changed n (InBlock s) changed_spares ties.tied still_tied);
          addresses = all_given_put g g s.pool blocks (written_in b) (omega arith) ties.addresses (given_changed g s.address b.out (option_map f) (given_of g s.pool blocks b ties.addresses there));
        }

        changed_seen : seen objects changed g ≡ rewritten F (seen objects blocks g)
        changed_seen =
            let stored : stored_in changed (let e : Entry A = InBlock s in e) ≡ store.with_words F (stored_in blocks (let e : Entry A = InBlock s in e)) =
            ap (λ l. let r : Stored = record { spot = Some s; site = None; words = l } in r) (ap words_in new_lot ∙ words h ∙ ap F (sym (ap words_in old_lot))) in
            let o = change_seen objects blocks changed n (InBlock s) (store.with_words F) here changed_spares ties.tied stored in
            let pool : pool_of (written_in b) ≡ pool_of b = (let e = words_unseen b s.address f same in λ i. record { size = b.size; free = b.free; out = e i }) in
            let q = mapped_put pool_of blocks s.pool (written_in b) ∙ ap (insert (mapped pool_of blocks) s.pool) pool ∙ insert_same (mapped pool_of blocks) s.pool (pool_of b) (pool_here blocks s.pool b there) in
            λ i. record { objects = o i; blocks = q i; given = g; marks = empty; opened = []; next_subpool = 1 }

        as_change : change s.pool written_in blocks ≡ changed
        as_change = ap (λ o. option_map_or (λ v. insert blocks s.pool (written_in v)) o blocks) there

        pub both_written : Ties objects (change s.pool written_in blocks) g × (seen objects (change s.pool written_in blocks) g ≡ rewritten F (seen objects blocks g))
        both_written = (subst (λ x. Ties objects x g) (sym as_change) changed_ties, ap (λ x. seen objects x g) as_change ∙ changed_seen)

      abbrev IsWritten : Type 0
      IsWritten = Ties objects (change s.pool written_in blocks) g × (seen objects (change s.pool written_in blocks) g ≡ rewritten F (seen objects blocks g))

      -- wherever it lies
      pub written : Ties objects (change s.pool written_in blocks) g × (seen objects (change s.pool written_in blocks) g ≡ rewritten F (seen objects blocks g))
      written = pool (get blocks s.pool) refl
        where
          tie : object_in (lot_at s blocks) ≡ Some n
          tie = tie_of n (InBlock s) here

          block : (b : Blocks) → get blocks s.pool ≡ Some b → (l : Option (Option Held)) → get b.out s.address ≡ l → object_in l ≡ Some n → IsWritten
          block b there None lies e = absurd (cc)
          block b there (Some None) lies e = absurd (cc)
          block b there (Some (Some h)) lies e = both_written b there h lies

          pool : (o : Option Blocks) → get blocks s.pool ≡ o → IsWritten
          pool None there =
              let none : object_in (lot_at s blocks) ≡ None = ap (λ o. object_in (option_map_or (λ (d : Blocks). get d.out s.address) o None)) there in
              absurd (cc (none, tie))
          pool (Some b) there = block b there (get b.out s.address) refl (ap object_in (sym (lot_there blocks s.pool s.address b there)) ∙ tie)

-- where an object is seen to lie, there it lies
pub spot_is : {A : Type 0} (objects : Objects A) (blocks : Pools) (n : ℕ) (s : Spot) → option_map_or (λ (x : Stored). x.spot) (get (mapped (stored_in blocks) objects) n) None ≡ Some s → get objects n ≡ Some (InBlock s)
spot_is {A} objects blocks n s lies = by (get objects n) (sym (ap (λ o. option_map_or (λ (x : Stored). x.spot) o None) (get_mapped (stored_in blocks) objects n)) ∙ lies)
  where
    by : (o : Option (Entry A)) → option_map_or (λ (x : Stored). x.spot) (option_map (stored_in blocks) o) None ≡ Some s → o ≡ Some (InBlock s)
    by None e = absurd (cc)
    by (Some (Standard ws)) e = absurd (cc)
    by (Some (InBlock x)) e = ap (λ y. Some (InBlock y)) (let same : x ≡ s = cc in same)

-- what is seen of an entry
pub entry_seen : {A : Type 0} (objects : Objects A) (blocks : Pools) (n : ℕ) (e : Entry A) → get objects n ≡ Some e → get (mapped (stored_in blocks) objects) n ≡ Some (stored_in blocks e)
entry_seen objects blocks n e here = get_mapped (stored_in blocks) objects n ∙ ap (option_map (stored_in blocks)) here

-- one that lies in no block is in the standard pool
pub is_standard : {A : Type 0} (e : Entry A) → is_some (spot_in e) ≡ false → e ≡ Standard (own_words e)
is_standard (Standard ws) outside = refl
is_standard (InBlock s) outside = absurd (cc)

-- and one that is seen to lie in no block is in the standard pool
pub standard_is : {A : Type 0} (blocks : Pools) (e : Entry A) → (stored_in blocks e).spot ≡ None → e ≡ Standard (own_words e)
standard_is blocks (Standard ws) outside = refl
standard_is blocks (InBlock s) outside = absurd (cc)

pub spot_of_entry : {A : Type 0} (objects : Objects A) (blocks : Pools) (n : ℕ) (e : Entry A) → get objects n ≡ Some e
    → option_map_or (λ (x : Stored). x.spot) (get (mapped (stored_in blocks) objects) n) None ≡ (stored_in blocks e).spot
spot_of_entry objects blocks n e here = ap (λ o. option_map_or (λ (x : Stored). x.spot) o None) (get_mapped (stored_in blocks) objects n ∙ ap (option_map (stored_in blocks)) here)

pub no_spot : {A : Type 0} (objects : Objects A) (blocks : Pools) (n : ℕ) → get objects n ≡ None
    → option_map_or (λ (x : Stored). x.spot) (get (mapped (stored_in blocks) objects) n) None ≡ None
no_spot objects blocks n none = ap (λ o. option_map_or (λ (x : Stored). x.spot) o None) (get_mapped (stored_in blocks) objects n ∙ ap (option_map (stored_in blocks)) none)

-- a free block goes out for a new object, which is put into it
module _ {A : Type 0} (objects : Objects A) (blocks : Pools) (g : ℕ) (ties : Ties objects blocks g) (p n words : ℕ) (b : Blocks) (there : get blocks p ≡ Some b) where
  abbrev entry_out : Entry A
  entry_out = InBlock (record { pool = p; address = g + 1 })

  abbrev block_out : Blocks
  block_out = area.with_block_out (g + 1) b

  abbrev holding : Pools
  holding = insert blocks p (area.with_holder (g + 1) n words block_out)

  holding_again : insert (insert blocks p block_out) p (area.with_holder (g + 1) n words block_out) ≡ holding
  holding_again = insert_again blocks p block_out (area.with_holder (g + 1) n words block_out)

  pub holding_ties : Ties (insert objects n entry_out) holding (g + 1)
  holding_ties = subst (λ x. Ties (insert objects n entry_out) x (g + 1)) holding_again
      (filled_ties objects (insert blocks p block_out) (g + 1) (taken_ties objects blocks g ties p b there) p (g + 1) n words block_out (get_here blocks p block_out) (get_here b.out (g + 1) None))

  pub holding_seen : seen (insert objects n entry_out) holding (g + 1) ≡ store.hold_block p (g + 1) n words (store.take_block p (seen objects blocks g))
  holding_seen =
      ap (λ x. seen (insert objects n entry_out) x (g + 1)) (sym holding_again)
      ∙ filled_seen objects (insert blocks p block_out) (g + 1) (taken_ties objects blocks g ties p b there) p (g + 1) n words block_out (get_here blocks p block_out) (get_here b.out (g + 1) None)
      ∙ ap (store.hold_block p (g + 1) n words) (taken_seen objects blocks g ties p b there)
