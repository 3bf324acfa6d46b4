-- What a call does to the pools with marks and to the objects in subpools, and what is seen of it.
use Rattle.std.proofs.Common.{◌≡◌, ℕ, ◌+◌, ◌<◌, ◌≤◌, replicate, List, [], ◌∷◌, ◌++◌, length, Option, Some, None, Bool, true, false, cond, refl, sym, ap, subst, ◌∙◌, arith}
use Rattle.std.specs.Prelude.{IfSome, is_none, not, slice_get}
use Rattle.std.specs.Option.{option_map, option_map_or}
use Rattle.std.specs.Ordering.{nat_cmp}
use Rattle.std.specs.FinMap.{FinMap, empty, get, insert, remove}
use Rattle.number_map.specs.Table.{mapped, change}
use Rattle.number_map.proofs.Changes.{insert_same}
use Rattle.number_map.proofs.Mapped.{get_mapped, mapped_put, mapped_changed}
use Rattle.pool_area.specs.Lots.{Held}
use Rattle.pool_area.specs.Subpools as area
use Rattle.pool_area.specs.Subpools.{Seen, Subpools, is_dead}
use Rattle.pool_store.specs.declared.cell.Cell.{Cell}
use Rattle.pool_store.specs.declared.fault.StoreFault.{StoreFault}
use Rattle.pool_store.specs.declared.fault.StoreFault.TheVariants.{Exhausted, Released, Foreign, NotTop}
use Rattle.pool_store.specs.Entries.{Stored, object_in, words_in}
use Rattle.pool_store.specs.Cells.{mark_of, row_at, block_in, stored_at, IsAt, Places}
use Rattle.pool_store.specs.Marks as marks
use Rattle.pool_store.specs.Marks.{MarkPool}
use Rattle.pool_store.specs.Store as store
use Rattle.pool_store.specs.Store.{Store}
use Rattle.pool_store.proofs.Placed.{Cells, Areas, Spares, Keeps, Any, Other, Placed, row_here, row_there, spares, spares_same, spares_new, all_seen, all_tied, put_seen, put_tied, drop_seen, drop_tied, change_seen, below_of, below_put}
use Rattle.pool_store.proofs.MarkViews.{change_unseen, keeps_new, keeps_block, block_changed, changed_here, get_end, row_changed}
use borrow.Author.Tests.{eq-eqb}

-- what is seen of objects and pools
abbrev pub seen : Cells → Areas → List ℕ → ℕ → Store
seen cells pools opened g = record { objects = mapped (stored_at pools) cells; blocks = empty; given = 0; marks = mapped mark_of pools; opened = opened; next_subpool = g }

pub mark_here : (pools : Areas) (p : ℕ) (a : Subpools) → get pools p ≡ Some a → get (mapped mark_of pools) p ≡ Some (mark_of a)
mark_here pools p a there = get_mapped mark_of pools p ∙ ap (option_map mark_of) there

pub no_mark_here : (pools : Areas) (p : ℕ) → get pools p ≡ None → get (mapped mark_of pools) p ≡ None
no_mark_here pools p none = get_mapped mark_of pools p ∙ ap (option_map mark_of) none

pub not_marked : (pools : Areas) (p : ℕ) → get (mapped mark_of pools) p ≡ None → get pools p ≡ None
not_marked pools p none = by (get pools p) (sym (get_mapped mark_of pools p) ∙ none)
  where
    by : (o : Option Subpools) → option_map mark_of o ≡ None → o ≡ None
    by None e = refl
    by (Some x) e = absurd (cc)

-- a request that is not refused
pub granted : (n p units : ℕ) (s : Store) → store.refusal_in n p units s ≡ None → (store.belongs_to n p s ≡ true) × (store.is_last_of n p s ≡ true) × (store.is_overfull_in p units s ≡ false)
granted n p units s e = by (is_none (store.pool_with n s)) (store.belongs_to n p s) (store.is_last_of n p s) (store.is_overfull_in p units s) e
  where
    by : (x b l o : Bool) → (let r : Option StoreFault = cond x (Some Released) (cond (not b) (Some Foreign) (cond (not l) (Some NotTop) (cond o (Some Exhausted) None))) in r) ≡ None
        → (b ≡ true) × (l ≡ true) × (o ≡ false)
    by true b l o h = absurd (cc)
    by false false l o h = absurd (cc)
    by false true false o h = absurd (cc)
    by false true true true h = absurd (cc)
    by false true true false h = (refl, refl, refl)

-- the pool in which a subpool stands has it
pub has_pool : (n : ℕ) (t : FinMap nat_cmp MarkPool) (ps : List ℕ) (p : ℕ) → store.pool_among n t ps ≡ Some p → option_map_or (marks.has_subpool n) (get t p) false ≡ true
has_pool n t [] p e = absurd (cc)
has_pool n t (q ∷ qs) p e = by (option_map_or (marks.has_subpool n) (get t q) false) refl e (has_pool n t qs p)
  where
    by : (b : Bool) → option_map_or (marks.has_subpool n) (get t q) false ≡ b → cond b (Some q) (store.pool_among n t qs) ≡ Some p
        → (store.pool_among n t qs ≡ Some p → option_map_or (marks.has_subpool n) (get t p) false ≡ true) → option_map_or (marks.has_subpool n) (get t p) false ≡ true
    by true is h more = let same : q ≡ p = cc in ap (λ m. option_map_or (marks.has_subpool n) (get t m) false) (sym same) ∙ is
    by false is h more = more h

keeps_others : (P : ℕ → Type 0) (a b : Subpools) → Keeps Any a b → Keeps P a b
keeps_others P a b keeps k index m is h = keeps k index m tt h

-- a block that has changed is not seen
pub block_unseen : (n i : ℕ) (f : Option Held → Option Held) (a : Subpools) → mark_of (area.with_block n i f a) ≡ mark_of a
block_unseen n i f a =
    let e = change_unseen n (area.change_block i f) a.subpools (λ x. refl) in
    λ j. record { size = a.size; used = a.used; subpools = e j }

module _ (cells : Cells) (pools : Areas) (opened : List ℕ) (g : ℕ) (places : Places cells pools g) where
  -- a pool has changed, and no object in it
  module _ (p h : ℕ) (a b : Subpools) (F : MarkPool → MarkPool) (there : get pools p ≡ Some a) (keeps : Keeps Any a b) (more : g ≤ h) (less : b.given < h) (shown : mark_of b ≡ F (mark_of a)) where
    pub edited_places : Places cells (insert pools p b) h
    edited_places = record {
      placed = all_tied cells pools (insert pools p b) (spares Any pools p a b there keeps) places.placed;
      numbers = below_put g h p pools b more places.numbers less;
      positive = omega (arith, places.positive);
    }

    pub edited_seen : seen cells (insert pools p b) opened h ≡ record (store.change_marks p F (seen cells pools opened g)) { next_subpool = h }
    edited_seen =
        let o = all_seen cells pools (insert pools p b) (spares Any pools p a b there keeps) places.placed in
        let q = mapped_changed mark_of pools p a b F there shown in
        λ i. record { objects = o i; blocks = empty; given = 0; marks = q i; opened = opened; next_subpool = h }

  -- a new pool
  module _ (p units : ℕ) (none : get pools p ≡ None) where
    abbrev newest : Areas
    newest = insert pools p (area.new_area units g)

    pub opened_places : Places cells newest (g + 1)
    opened_places = record {
      placed = all_tied cells pools newest (spares_new Any pools p (area.new_area units g) none) places.placed;
      numbers = below_put g (g + 1) p pools (area.new_area units g) (omega arith) places.numbers (omega arith);
      positive = omega (arith, places.positive);
    }

    pub opened_seen : seen cells newest (opened ++ p ∷ []) (g + 1) ≡ store.with_mark_pool p units (seen cells pools opened g)
    opened_seen =
        let o = all_seen cells pools newest (spares_new Any pools p (area.new_area units g) none) places.placed in
        let q = mapped_put mark_of pools p (area.new_area units g) in
        λ i. record { objects = o i; blocks = empty; given = 0; marks = q i; opened = opened ++ p ∷ []; next_subpool = g + 1 }

  -- a new object in a new block of a subpool that belongs to its pool
  module _ (p n object words index : ℕ) (a : Subpools) (x : Seen) (there : get pools p ≡ Some a) (row : area.subpool_of n a.subpools ≡ Some x) (alive : is_dead x.standing ≡ false) (end : index ≡ length x.blocks) where
    abbrev new_area : Subpools
    new_area = area.with_new_block n object words a

    abbrev new_cell : Cell
    new_cell = record { pool = p; subpool = n; index = index }

    abbrev new_held : Option Held
    new_held = Some (record { object = object; words = replicate words 0 })

    new_row : row_at new_cell (insert pools p new_area) ≡ Some (record x { blocks = x.blocks ++ new_held ∷ [] })
    new_row =
        row_here pools p new_area new_cell refl
        ∙ row_changed n (λ y. record y { blocks = y.blocks ++ new_held ∷ [] }) (λ y. refl) n a.subpools
        ∙ ap (λ t. cond t (option_map (λ (y : Seen). record y { blocks = y.blocks ++ new_held ∷ [] }) (area.subpool_of n a.subpools)) (area.subpool_of n a.subpools)) (eq-eqb n n refl)
        ∙ ap (option_map (λ (y : Seen). record y { blocks = y.blocks ++ new_held ∷ [] })) row

    new_block : block_in index (row_at new_cell (insert pools p new_area)) ≡ Some new_held
    new_block = ap (block_in index) new_row ∙ ap (λ j. block_in j (Some (record x { blocks = x.blocks ++ new_held ∷ [] }))) end ∙ get_end x.blocks new_held

    new_spares : Spares (Other object) pools (insert pools p new_area)
    new_spares = spares (Other object) pools p a new_area there (keeps_others (Other object) a new_area (keeps_new n object words a))

    new_at : IsAt (insert pools p new_area) object new_cell
    new_at = (ap object_in new_block, ap (λ o. option_map_or (λ (y : Seen). is_dead y.standing) o false) new_row ∙ alive)

    pub new_places : Places (insert cells object new_cell) (insert pools p new_area) g
    new_places = record {
      placed = put_tied cells pools (insert pools p new_area) object new_cell new_spares places.placed new_at;
      numbers = below_put g g p pools new_area (omega arith) places.numbers (below_of g p pools a places.numbers there);
      positive = places.positive;
    }

    pub new_seen : seen (insert cells object new_cell) (insert pools p new_area) opened g ≡ store.hold_in n p object words (seen cells pools opened g)
    new_seen =
        let o = put_seen cells pools (insert pools p new_area) object new_cell new_spares places.placed
        ∙ ap (λ l. insert (mapped (stored_at pools) cells) object (let r : Stored = record { spot = None; site = Some (record { pool = p; subpool = n }); words = words_in l } in r)) new_block in
        let s = change_unseen n (λ y. record y { blocks = y.blocks ++ new_held ∷ [] }) a.subpools (λ y. refl) in
        let shown : mark_of new_area ≡ marks.with_words_used words (mark_of a) = (λ i. record { size = a.size; used = a.used + words; subpools = s i }) in
        let q = mapped_changed mark_of pools p a new_area (marks.with_words_used words) there shown in
        λ i. record { objects = o i; blocks = empty; given = 0; marks = q i; opened = opened; next_subpool = g }

  -- One object ----------------------------------------------------------------

  pub place_of : (n : ℕ) (c : Cell) → get cells n ≡ Some c → IsAt pools n c
  place_of n c here = subst (λ o. IfSome o (IsAt pools n)) here (places.placed n)

  pub stored_here : (n : ℕ) (c : Cell) → get cells n ≡ Some c → get (mapped (stored_at pools) cells) n ≡ Some (stored_at pools c)
  stored_here n c here = get_mapped (stored_at pools) cells n ∙ ap (option_map (stored_at pools)) here

  pub none_stored : (n : ℕ) → get cells n ≡ None → get (mapped (stored_at pools) cells) n ≡ None
  none_stored n none = get_mapped (stored_at pools) cells n ∙ ap (option_map (stored_at pools)) none

  -- an object that is not held goes without a trace
  pub none_places : (n : ℕ) → Places (remove cells n) pools g
  none_places n = record { placed = drop_tied cells pools pools n (spares_same (Other n) pools) places.placed; numbers = places.numbers; positive = places.positive }

  pub none_seen : (n : ℕ) → get cells n ≡ None → seen (remove cells n) pools opened g ≡ store.without_object n (seen cells pools opened g)
  none_seen n none =
      let o = drop_seen cells pools pools n (spares_same (Other n) pools) places.placed in
      let b = sym (ap (λ o. store.freed_spot (option_map_or (λ (x : Stored). x.spot) o None) empty) (none_stored n none)) in
      λ i. record { objects = o i; blocks = b i; given = 0; marks = mapped mark_of pools; opened = opened; next_subpool = g }

  module _ (n : ℕ) (c : Cell) (here : get cells n ≡ Some c) (a : Subpools) (there : get pools c.pool ≡ Some a) where
    holder : object_in (block_in c.index (area.subpool_of c.subpool a.subpools)) ≡ Some n
    holder = ap (λ o. object_in (block_in c.index o)) (sym (row_there pools c.pool a c there refl)) ∙ (place_of n c here).0

    -- its block has changed
    abbrev edited : (Option Held → Option Held) → Subpools
    edited f = area.with_block c.subpool c.index f a

    block_spares : (f : Option Held → Option Held) → Spares (Other n) pools (insert pools c.pool (edited f))
    block_spares f = spares (Other n) pools c.pool a (edited f) there (keeps_block c.subpool c.index n f a holder)

    marks_same : (f : Option Held → Option Held) → mapped mark_of (insert pools c.pool (edited f)) ≡ mapped mark_of pools
    marks_same f =
        mapped_put mark_of pools c.pool (edited f) ∙ ap (insert (mapped mark_of pools) c.pool) (block_unseen c.subpool c.index f a)
        ∙ insert_same (mapped mark_of pools) c.pool (mark_of a) (mark_here pools c.pool a there)

    pub left_places : Places (remove cells n) (insert pools c.pool (edited (λ h. None))) g
    left_places = record {
      placed = drop_tied cells pools (insert pools c.pool (edited (λ h. None))) n (block_spares (λ h. None)) places.placed;
      numbers = below_put g g c.pool pools (edited (λ h. None)) (omega arith) places.numbers (below_of g c.pool pools a places.numbers there);
      positive = places.positive;
    }

    pub left_seen : seen (remove cells n) (insert pools c.pool (edited (λ h. None))) opened g ≡ store.without_object n (seen cells pools opened g)
    left_seen =
        let o = drop_seen cells pools (insert pools c.pool (edited (λ h. None))) n (block_spares (λ h. None)) places.placed in
        let b = sym (ap (λ o. store.freed_spot (option_map_or (λ (x : Stored). x.spot) o None) empty) (stored_here n c here)) in
        let q = marks_same (λ h. None) in
        λ i. record { objects = o i; blocks = b i; given = 0; marks = q i; opened = opened; next_subpool = g }

    pub words_here : store.words_of n (seen cells pools opened g) ≡ words_in (area.block_of c.subpool c.index a)
    words_here = ap (λ o. option_map_or (λ (x : Stored). x.words) o []) (stored_here n c here) ∙ ap (λ o. words_in (block_in c.index o)) (row_there pools c.pool a c there refl)

    -- its words have changed
    module _ (f : Held → Held) (F : List ℕ → List ℕ) (same : (h : Held) → (f h).object ≡ h.object) (words : (h : Held) → (f h).words ≡ F h.words) where
      abbrev written : Areas
      written = insert pools c.pool (edited (λ h. option_map f h))

      some_row : (o : Option Seen) → object_in (block_in c.index o) ≡ Some n → (x : Seen) × (o ≡ Some x)
      some_row None e = absurd (cc)
      some_row (Some x) e = (x, refl)

      some_held : (o : Option (Option Held)) → object_in o ≡ Some n → (h : Held) × (o ≡ Some (Some h)) × (h.object ≡ n)
      some_held None e = absurd (cc)
      some_held (Some None) e = absurd (cc)
      some_held (Some (Some h)) e = (h, refl, (let is : h.object ≡ n = cc in is))

      row : (x : Seen) × (area.subpool_of c.subpool a.subpools ≡ Some x)
      row = some_row (area.subpool_of c.subpool a.subpools) holder

      held : (h : Held) × (slice_get row.0.blocks c.index ≡ Some (Some h)) × (h.object ≡ n)
      held = some_held (slice_get row.0.blocks c.index) (ap (λ o. object_in (block_in c.index o)) (sym row.1) ∙ holder)

      old_block : block_in c.index (row_at c pools) ≡ Some (Some held.0)
      old_block = ap (block_in c.index) (row_there pools c.pool a c there refl ∙ row.1) ∙ held.1

      new_row_is : row_at c written ≡ Some (area.change_block c.index (λ h. option_map f h) row.0)
      new_row_is = row_here pools c.pool (edited (λ h. option_map f h)) c refl ∙ block_changed c.subpool c.index (λ h. option_map f h) a row.0 row.1

      block_is : block_in c.index (row_at c written) ≡ Some (Some (f held.0))
      block_is =
          ap (block_in c.index) new_row_is ∙ changed_here row.0.blocks c.index (λ h. option_map f h) ∙ ap (option_map (λ h. option_map f h)) held.1

      alive : is_dead row.0.standing ≡ false
      alive = ap (λ o. option_map_or (λ (y : Seen). is_dead y.standing) o false) (sym (row_there pools c.pool a c there refl ∙ row.1)) ∙ (place_of n c here).1

      still_at : IsAt written n c
      still_at = (
        ap object_in block_is ∙ ap (λ x. Some x) (same held.0 ∙ held.2),
        ap (λ o. option_map_or (λ (y : Seen). is_dead y.standing) o false) new_row_is ∙ alive,
      )

      pub written_places : Places cells written g
      written_places = record {
        placed = subst (λ o. Placed o written) (insert_same cells n c here) (put_tied cells pools written n c (block_spares (λ h. option_map f h)) places.placed still_at);
        numbers = below_put g g c.pool pools (edited (λ h. option_map f h)) (omega arith) places.numbers (below_of g c.pool pools a places.numbers there);
        positive = places.positive;
      }

      abbrev pub rewritten : Store → Store
      rewritten s = record s { objects = change n (store.with_words F) s.objects }

      pub written_seen : seen cells written opened g ≡ rewritten (seen cells pools opened g)
      written_seen =
          let stored : stored_at written c ≡ store.with_words F (stored_at pools c) =
          ap (λ l. let r : Stored = record { spot = None; site = Some (record { pool = c.pool; subpool = c.subpool }); words = l } in r) (ap words_in block_is ∙ words held.0 ∙ ap F (sym (ap words_in old_block))) in
          let o = change_seen cells pools written n c (store.with_words F) here (block_spares (λ h. option_map f h)) places.placed stored in
          let q = marks_same (λ h. option_map f h) in
          λ i. record { objects = o i; blocks = empty; given = 0; marks = q i; opened = opened; next_subpool = g }
