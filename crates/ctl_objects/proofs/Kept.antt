-- How declared objects are kept, as one takes a step, a new one comes, and the last ones go.
use Rattle.std.proofs.Common.{◌≡◌, ◌≢◌, ◌∙◌, ℕ, zero, suc, ◌+◌, ◌-◌, ◌<◌, ◌≤◌, List, [], ◌∷◌, ◌++◌, Option, Some, None, Bool, true, false, cond, refl, sym, map, ap, arith, subst, length, drop, take, replicate}
use Rattle.std.specs.Prelude.{IfSome, nat_eq, not, ◌||◌, slice_get, slice_index_or, slice_set}
use Rattle.std.specs.Option.{option_map, option_map_or}
use Rattle.std.proofs.lemmas.List.{length-append, length-drop, length-replicate, map-append, take_all}
use borrow.Author.Tests.{eqb-true}
use Rattle.ctl_program.specs.declared.types.Ty.TheVariants.{Record}
use Rattle.ctl_meaning.specs.World as W
use Rattle.ctl_meaning.specs.World.{Object}
use Rattle.ctl_meaning.specs.Lists.{keep, opened_lists}
use Rattle.ctl_meaning.specs.Names.{scalar_of}
use Rattle.ctl_meaning.specs.Objects.{cells_at, change_in, ends_with_master, object_in, with_cells, with_finalized, opened_objects}
use Rattle.ctl_meaning.specs.Changes.{new_object, opened_changes}
use Rattle.ctl_objects.specs.declared.declarations.Declaration.{Declaration}
use Rattle.ctl_storage.specs.declared.existing.Life.{Life}
use Rattle.ctl_storage.specs.declared.existing.Life.TheVariants as LifeOf
use Rattle.ctl_storage.specs.declared.existing.Stage.{Stage}
use Rattle.ctl_storage.specs.declared.existing.Step.{Step}
use Rattle.ctl_storage.specs.declared.existing.Step.TheVariants as StepOf
use Rattle.ctl_storage.specs.Stages.{ended, start, state_of, with_step}
use Rattle.ctl_objects.specs.Order.{AreUpTo, IsDeclared}
use Rattle.ctl_storage.specs.Order.{AreBelow}
use Rattle.ctl_objects.specs.Declarations.{AreKept, AreLaid, AreOf, AreOlder, AreWithin, Lacks, MastersRise, NumbersRise, cell_written, cells_written, first_cell, has_number, object_of, stepped}
use Rattle.ctl_objects.specs.Existing.{bare}
use Rattle.ctl_groups.specs.Members.{passes}
use Rattle.ctl_objects.proofs.Found.{any_declaration, changed_object, found_object, get_index, lacking, over_all, over_lacks, rise_set, same_item}
use Rattle.ctl_storage.proofs.Cells.{eq_differs, eq_same}
use Rattle.ctl_objects.proofs.Laid.{cell_objects, cut_behind, laid_more, length_part, objects_more, objects_taken, parts_taken}
use Rattle.ctl_storage.proofs.Rising.{change_lacking, in_more, in_none}
use Rattle.ctl_storage.proofs.Cells.{written_more, written_nothing}

-- What a search answers ------------------------------------------------------------------------------------

abbrev pub IsAt : List Declaration → ℕ → ℕ → Type 0
IsAt os n at = (o : Declaration) × (slice_get os at ≡ Some o) × (o.number ≡ n)

pub is_there : (os : List Declaration) (n at : ℕ) → IsAt os n at → at < length os
is_there os n at i = within os at i.0 i.1
  where
    within : (xs : List Declaration) (k : ℕ) (o : Declaration) → slice_get xs k ≡ Some o → k < length xs
    within [] k o e = absurd (cc)
    within (x ∷ xs) zero o e = omega arith
    within (x ∷ xs) (suc k) o e = let less = within xs k o e in omega (arith, less)

pub found_at : (os : List Declaration) (cells : List ℕ) (total n at : ℕ) → AreKept os total → (i : IsAt os n at) → object_in n (map (object_of cells) os) ≡ Some (object_of cells i.0)
found_at os cells total n at k i = ap (λ m. object_in m (map (object_of cells) os)) (sym i.2) ∙ found_object cells os at 0 i.0 k.numbers i.1

-- Steps ----------------------------------------------------------------------------------------------------

laid_set : (os : List Declaration) (at start total : ℕ) (o : Declaration) (s : Stage) → AreLaid start os total → slice_get os at ≡ Some o → AreLaid start (slice_set os at (record o { stage = s })) total
laid_set [] at start total o s h e = absurd (cc)
laid_set (x ∷ os) zero start total o s h e =
    let same : x ≡ o = same_item x o e in
    subst (λ (z : Declaration). AreLaid start (record z { stage = s } ∷ os) total) same h
laid_set (x ∷ os) (suc at) start total o s h e = (h.0, laid_set os at (start + x.cells) total o s h.1 e)

masters_set : (os : List Declaration) (at low : ℕ) (o : Declaration) (s : Stage) → MastersRise low os → slice_get os at ≡ Some o → MastersRise low (slice_set os at (record o { stage = s }))
masters_set [] at low o s h e = absurd (cc)
masters_set (x ∷ os) zero low o s h e = subst (λ (z : Declaration). MastersRise low (record z { stage = s } ∷ os)) (same_item x o e) h
masters_set (x ∷ os) (suc at) low o s h e = (h.0, masters_set os at x.master o s h.1 e)

pub kept_set : (os : List Declaration) (at total : ℕ) (o : Declaration) (s : Stage) → AreKept os total → slice_get os at ≡ Some o → AreKept (slice_set os at (record o { stage = s })) total
kept_set os at total o s k e =
    record { laid = laid_set os at 0 total o s k.laid e; numbers = rise_set os at 0 o (record o { stage = s }) k.numbers e refl; masters = masters_set os at 0 o s k.masters e }

step_seen : (x : Step) (cells : List ℕ) (o : Declaration) → with_step x (object_of cells o) ≡ object_of cells (stepped x o)
unfolding opened_objects
step_seen StepOf.Begin cells o = refl
step_seen StepOf.Join cells o = refl
step_seen StepOf.End cells o = by o.stage.life
  where
    by : (l : Life) → with_finalized (object_of cells (record o { stage = record o.stage { life = l } })) ≡ object_of cells (record o { stage = record o.stage { life = ended l } })
    by LifeOf.Untouched = refl
    by LifeOf.Finalizing = refl
    by LifeOf.Finalized = refl

pub step_objects : (x : Step) (os : List Declaration) (cells : List ℕ) (total n at : ℕ) → AreKept os total → (i : IsAt os n at)
    → map (object_of cells) (slice_set os at (stepped x i.0)) ≡ change_in n (with_step x) (map (object_of cells) os)
step_objects x os cells total n at k i =
    sym (ap (λ m. change_in m (with_step x) (map (object_of cells) os)) (sym i.2) ∙ changed_object cells (with_step x) os at 0 i.0 (stepped x i.0) k.numbers i.1 (step_seen x cells i.0))

pub unchanged_lacking : (os : List Declaration) (cells : List ℕ) (n : ℕ) (f : Object → Object) → Lacks n os → map (object_of cells) os ≡ change_in n f (map (object_of cells) os)
unchanged_lacking os cells n f lacks = sym (change_lacking n f (map (object_of cells) os) (lacking cells os n lacks))

-- A new object ---------------------------------------------------------------------------------------------

numbers_more : (os : List Declaration) (cells : List ℕ) (low : ℕ) (x : Declaration) → NumbersRise low os → AreBelow x.number (map (object_of cells) os) → low ≤ x.number → NumbersRise low (os ++ x ∷ [])
numbers_more [] cells low x h below less = (less, tt)
numbers_more (o ∷ os) cells low x h below less = (h.0, numbers_more os cells (o.number + 1) x h.1 below.1 (let first = below.0 in omega (arith, first)))

masters_more : (os : List Declaration) (cells : List ℕ) (low : ℕ) (x : Declaration) → MastersRise low os → AreUpTo x.master (map (object_of cells) os) → low ≤ x.master → MastersRise low (os ++ x ∷ [])
masters_more [] cells low x h up less = (less, tt)
masters_more (o ∷ os) cells low x h up less = (h.0, masters_more os cells o.master x h.1 up.1 up.0)

pub kept_more : (os : List Declaration) (cells : List ℕ) (x : Declaration) → AreKept os (length cells) → x.first ≡ length cells → AreBelow x.number (map (object_of cells) os) → AreUpTo x.master (map (object_of cells) os)
    → AreKept (os ++ x ∷ []) (length (cells ++ replicate x.cells 0))
kept_more os cells x k first below up =
    let long : length cells + x.cells ≡ length (cells ++ replicate x.cells 0) = sym (length-append cells (replicate x.cells 0) ∙ ap (λ n. length cells + n) (length-replicate {A = ℕ} x.cells 0)) in
    record {
      laid = subst (λ n. AreLaid 0 (os ++ x ∷ []) n) long (laid_more os 0 (length cells) x k.laid first);
      numbers = numbers_more os cells 0 x k.numbers below (omega arith);
      masters = masters_more os cells 0 x k.masters up (omega arith);
    }

pub objects_with : (os : List Declaration) (cells : List ℕ) (x : Declaration) → AreKept os (length cells) → x.first ≡ length cells → x.stage ≡ start
    → map (object_of (cells ++ replicate x.cells 0)) (os ++ x ∷ []) ≡ map (object_of cells) os ++ new_object x.number (Record x.record) (replicate x.cells 0) (W.Declared x.master) ∷ []
unfolding opened_changes
objects_with os cells x k first new =
    let all = cells ++ replicate x.cells 0 in
    map-append (object_of all) os (x ∷ [])
    ∙ (ap (λ (l : List Object). l ++ object_of all x ∷ []) (objects_more os cells (replicate x.cells 0) k.laid)
    ∙ (ap (λ (l : List ℕ). map (object_of cells) os ++ record (object_of all x) { cells = l } ∷ []) (ap (λ n. take x.cells (drop n all)) first ∙ cut_behind cells x.cells)
    ∙ ap (λ (s : Stage). map (object_of cells) os ++ record { number = x.number; ty = Record x.record; cells = replicate x.cells 0; state = state_of s.life; origin = W.Declared x.master; joined = s.has_joined } ∷ []) new))

-- The last objects go --------------------------------------------------------------------------------------

pub within_seen : (os : List Declaration) (cells : List ℕ) (m : ℕ) → AreUpTo m (map (object_of cells) os) → AreWithin m os
within_seen [] cells m h = tt
within_seen (o ∷ os) cells m h = (h.0, within_seen os cells m h.1)

kept_objects : (cells : List ℕ) (m : ℕ) (sets : List ℕ) (os : List Declaration) (i : ℕ) → AreOlder m (take i os) → AreOf m (drop i os) → keep (λ o. not (ends_with_master m sets o.origin)) (map (object_of cells) os) ≡ map (object_of cells) (take i os)
unfolding opened_lists opened_objects
kept_objects cells m sets [] zero a b = refl
kept_objects cells m sets [] (suc i) a b = refl
kept_objects cells m sets (o ∷ os) zero a b = rw (eq_same o.master m b.0) (kept_objects cells m sets os zero tt b.1)
kept_objects cells m sets (o ∷ os) (suc i) a b = rw (eq_differs o.master m (λ same. omega (arith, same, a.0))) (ap (λ l. object_of cells o ∷ l) (kept_objects cells m sets os i a.1 b))

numbers_taken : (i : ℕ) (os : List Declaration) (low : ℕ) → NumbersRise low os → NumbersRise low (take i os)
numbers_taken zero os low h = tt
numbers_taken (suc i) [] low h = tt
numbers_taken (suc i) (o ∷ os) low h = (h.0, numbers_taken i os (o.number + 1) h.1)

masters_taken : (i : ℕ) (os : List Declaration) (low : ℕ) → MastersRise low os → MastersRise low (take i os)
masters_taken zero os low h = tt
masters_taken (suc i) [] low h = tt
masters_taken (suc i) (o ∷ os) low h = (h.0, masters_taken i os o.master h.1)

pub kept_taken : (i : ℕ) (os : List Declaration) (cells : List ℕ) → AreKept os (length cells) → AreKept (take i os) (length (take (first_cell (drop i os) (length cells)) cells))
kept_taken i os cells k = record { laid = parts_taken i os cells k.laid; numbers = numbers_taken i os 0 k.numbers; masters = masters_taken i os 0 k.masters }

pub objects_left : (i m : ℕ) (sets : List ℕ) (os : List Declaration) (cells : List ℕ) → AreKept os (length cells) → AreOlder m (take i os) → AreOf m (drop i os)
    → map (object_of (take (first_cell (drop i os) (length cells)) cells)) (take i os) ≡ keep (λ o. not (ends_with_master m sets o.origin)) (map (object_of cells) os)
objects_left i m sets os cells k older own = objects_taken i os cells k.laid ∙ sym (kept_objects cells m sets os i older own)

-- where the object before a place is not the master's, none of those before is
older_before : (os : List Declaration) (at low m : ℕ) (o : Declaration) → MastersRise low os → AreWithin m os → slice_get os at ≡ Some o → o.master ≢ m → AreOlder m (take (suc at) os)
older_before [] at low m o h w e differs = absurd (cc)
older_before (x ∷ os) zero low m o h w e differs =
    let same : x.master ≡ o.master = ap (λ (z : Declaration). z.master) (same_item x o e) in
    let most = w.0 in
    (lower x.master m most (λ is. differs (sym same ∙ is)), tt)
  where
    lower : (a b : ℕ) → a ≤ b → a ≢ b → a < b
    lower a b most apart = grind arith
older_before (x ∷ os) (suc at) low m o h w e differs =
    let older = older_before os at x.master m o h.1 w.1 e differs in
    (first x os at (some os at o e) older h.1, older)
  where
    some : (xs : List Declaration) (k : ℕ) (z : Declaration) → slice_get xs k ≡ Some z → (y : Declaration) × (ys : List Declaration) × (xs ≡ y ∷ ys)
    some [] k z e = absurd (cc)
    some (y ∷ ys) k z e = (y, ys, refl)

    first : (x : Declaration) (xs : List Declaration) (k : ℕ) → ((y : Declaration) × (ys : List Declaration) × (xs ≡ y ∷ ys)) → AreOlder m (take (suc k) xs) → MastersRise x.master xs → x.master < m
    first x [] k s older h = let e = s.2 in absurd (cc)
    first x (y ∷ ys) k s older h = let less = older.0 in let more = h.0 in omega (arith, less, more)

pub older_at : (os : List Declaration) (at m : ℕ) → MastersRise 0 os → AreWithin m os → at < length os → (slice_index_or os at any_declaration).master ≢ m → AreOlder m (take (at + 1) os)
older_at os at m h w less differs =
    let e : suc at ≡ at + 1 = omega arith in
    subst (λ i. AreOlder m (take i os)) e (older_before os at 0 m (slice_index_or os at any_declaration) h w (get_index os at any_declaration less) differs)

own_more : (os : List Declaration) (at m : ℕ) → at < length os → (slice_index_or os at any_declaration).master ≡ m → AreOf m (drop (suc at) os) → AreOf m (drop at os)
own_more [] at m less is own = absurd (omega (arith, less))
own_more (o ∷ os) zero m less is own = (is, own)
own_more (o ∷ os) (suc at) m less is own = own_more os at m (omega (arith, less)) is own

pub own_at : (os : List Declaration) (at m : ℕ) → at < length os → (slice_index_or os at any_declaration).master ≡ m → AreOf m (drop (at + 1) os) → AreOf m (drop at os)
own_at os at m less is own = own_more os at m less is (subst (λ i. AreOf m (drop i os)) (let e : at + 1 ≡ suc at = omega arith in e) own)

pub none_own : (os : List Declaration) (m : ℕ) → AreOf m (drop (length os) os)
none_own [] m = tt
none_own (o ∷ os) m = none_own os m

-- the numbers of the objects of a master
abbrev of_master : ℕ → Object → Bool
of_master m o = ends_with_master m [] o.origin

own_seen : (m : ℕ) (cells : List ℕ) (o : Declaration) → of_master m (object_of cells o) ≡ nat_eq o.master m
unfolding opened_objects
own_seen m cells o = refl

passes_more : (m n : ℕ) (cells : List ℕ) (o : Declaration) (os : List Declaration)
    → passes (of_master m) n (map (object_of cells) (o ∷ os)) ≡ option_map_or (of_master m) (cond (nat_eq o.number n) (Some (object_of cells o)) (object_in n (map (object_of cells) os))) false
passes_more m n cells o os = ap (λ (r : Option Object). option_map_or (of_master m) r false) (in_more n (object_of cells o) (map (object_of cells) os))

passes_none : (m n : ℕ) (os : List Object) → object_in n os ≡ None → passes (of_master m) n os ≡ false
passes_none m n os none = ap (λ (r : Option Object). option_map_or (of_master m) r false) none

own_numbers : (m n : ℕ) (os : List Declaration) (cells : List ℕ) → AreOf m os → has_number n os ≡ passes (of_master m) n (map (object_of cells) os)
own_numbers m n [] cells own = sym (passes_none m n [] (in_none n))
own_numbers m n (o ∷ os) cells own = by (own_numbers m n os cells own.1) (nat_eq o.number n) ∙ sym (passes_more m n cells o os)
  where
    by : has_number n os ≡ passes (of_master m) n (map (object_of cells) os) → (b : Bool) → (b || has_number n os) ≡ option_map_or (of_master m) (cond b (Some (object_of cells o)) (object_in n (map (object_of cells) os))) false
    by ih true = sym (own_seen m cells o ∙ eq_same o.master m own.0)
    by ih false = ih

going_numbers : (i m n low : ℕ) (os : List Declaration) (cells : List ℕ) → NumbersRise low os → AreOlder m (take i os) → AreOf m (drop i os) → has_number n (drop i os) ≡ passes (of_master m) n (map (object_of cells) os)
going_numbers zero m n low os cells rise older own = own_numbers m n os cells own
going_numbers (suc i) m n low [] cells rise older own = sym (passes_none m n [] (in_none n))
going_numbers (suc i) m n low (o ∷ os) cells rise older own = by (going_numbers i m n (o.number + 1) os cells rise.1 older.1 own) (nat_eq o.number n) refl ∙ sym (passes_more m n cells o os)
  where
    by : has_number n (drop i os) ≡ passes (of_master m) n (map (object_of cells) os) → (b : Bool) → nat_eq o.number n ≡ b
        → has_number n (drop i os) ≡ option_map_or (of_master m) (cond b (Some (object_of cells o)) (object_in n (map (object_of cells) os))) false
    by ih false is = ih
    by ih true is =
        let number : o.number ≡ n = eqb-true o.number n is in
        let none = lacking cells os n (over_lacks n os (over_all os (o.number + 1) n rise.1 (omega (arith, number)))) in
        let less = older.0 in
        ih ∙ (passes_none m n (map (object_of cells) os) none ∙ sym (own_seen m cells o ∙ eq_differs o.master m (λ same. omega (arith, same, less))))

pub going_are : (i m n : ℕ) (os : List Declaration) (cells : List ℕ) → AreKept os (length cells) → AreOlder m (take i os) → AreOf m (drop i os) → has_number n (take (length os - i) (drop i os)) ≡ passes (λ o. ends_with_master m [] o.origin) n (map (object_of cells) os)
going_are i m n os cells k older own =
    ap (has_number n) (take_all (length os - i) (drop i os) (let long = length-drop i os in omega (arith, long))) ∙ going_numbers i m n 0 os cells k.numbers older own

-- What is read and written --------------------------------------------------------------------------------

-- the object that is read at its place
pub at_read : (os : List Declaration) (n at : ℕ) (r : Declaration) → IsAt os n at → r ≡ slice_index_or os at r → (slice_get os at ≡ Some r) × (r.number ≡ n)
at_read os n at r i read =
    let found : slice_get os at ≡ Some r = get_index os at r (is_there os n at i) ∙ ap (λ z. Some z) (sym read) in
    let same : Some i.0 ≡ Some r = sym i.1 ∙ found in
    (found, ap (λ (z : Declaration). z.number) (sym (same_item i.0 r same)) ∙ i.2)

pub known_here : (os : List Declaration) (cells : List ℕ) (total n at : ℕ) (r : Declaration) → AreKept os total → slice_get os at ≡ Some r → r.number ≡ n
    → let known : Option Object = Some (record { number = n; ty = Record r.record; cells = []; state = state_of r.stage.life; origin = W.Declared r.master; joined = r.stage.has_joined }) in known ≡ option_map bare (object_in n (map (object_of cells) os))
known_here os cells total n at r k found number =
    ap (λ m. let known : Option Object = Some (record { number = m; ty = Record r.record; cells = []; state = state_of r.stage.life; origin = W.Declared r.master; joined = r.stage.has_joined }) in known) (sym number)
    ∙ ap (option_map bare) (sym (found_at os cells total n at k (r, found, number)))

pub read_here : (os : List Declaration) (cells : List ℕ) (n at : ℕ) (r : Declaration) (offset value : ℕ) → AreKept os (length cells) → slice_get os at ≡ Some r → r.number ≡ n → value ≡ scalar_of (cells_at offset 1 (object_of cells r))
    → let read : Option ℕ = Some value in read ≡ option_map (λ o. scalar_of (cells_at offset 1 o)) (object_in n (map (object_of cells) os))
read_here os cells n at r offset value k found number is =
    ap (λ x. let read : Option ℕ = Some x in read) is
    ∙ ap (option_map (λ o. scalar_of (cells_at offset 1 o))) (sym (found_at os cells (length cells) n at k (r, found, number)))

pub written_here : (os : List Declaration) (cells : List ℕ) (n at : ℕ) (r : Declaration) (offset x : ℕ) → AreKept os (length cells) → slice_get os at ≡ Some r → r.number ≡ n
    → map (object_of (cell_written r offset x cells)) os ≡ change_in n (with_cells offset (x ∷ [])) (map (object_of cells) os)
written_here os cells n at r offset x k found number =
    sym (cell_objects os cells at offset x r k.laid k.numbers found) ∙ ap (λ m. change_in m (with_cells offset (x ∷ [])) (map (object_of cells) os)) number

pub all_declared : (n : ℕ) (os : List Declaration) (cells : List ℕ) → IfSome (object_in n (map (object_of cells) os)) (λ o. IsDeclared o.origin)
all_declared n [] cells = subst (λ o. IfSome o (λ (x : Object). IsDeclared x.origin)) (sym (in_none n)) tt
all_declared n (o ∷ os) cells = subst (λ r. IfSome r (λ (x : Object). IsDeclared x.origin)) (sym (in_more n (object_of cells o) (map (object_of cells) os))) (by (all_declared n os cells) (nat_eq o.number n))
  where
    by : IfSome (object_in n (map (object_of cells) os)) (λ (x : Object). IsDeclared x.origin) → (b : Bool) → IfSome (cond b (Some (object_of cells o)) (object_in n (map (object_of cells) os))) (λ (x : Object). IsDeclared x.origin)
    by ih true = tt
    by ih false = ih

-- Several cells --------------------------------------------------------------------------------------------

pub length_written : (o : Declaration) (offset : ℕ) (v cells : List ℕ) → length (cells_written o offset v cells) ≡ length cells
length_written o offset [] cells = refl
length_written o offset (x ∷ v) cells = length_written o (offset + 1) v (cell_written o offset x cells) ∙ length_part o offset x cells

pub all_written : (os : List Declaration) (cells : List ℕ) (n at : ℕ) (r : Declaration) (offset : ℕ) (v : List ℕ) → AreKept os (length cells) → slice_get os at ≡ Some r → r.number ≡ n
    → map (object_of (cells_written r offset v cells)) os ≡ change_in n (with_cells offset v) (map (object_of cells) os)
all_written os cells n at r offset [] k found number = sym (written_nothing n offset (map (object_of cells) os))
all_written os cells n at r offset (x ∷ v) k found number =
    let kept : AreKept os (length (cell_written r offset x cells)) = subst (λ m. AreKept os m) (sym (length_part r offset x cells)) k in
    all_written os (cell_written r offset x cells) n at r (offset + 1) v kept found number
    ∙ (ap (change_in n (with_cells (offset + 1) v)) (written_here os cells n at r offset x k found number)
    ∙ written_more n offset x v (map (object_of cells) os))

pub saved_here : (os : List Declaration) (cells : List ℕ) (n at : ℕ) (r : Declaration) (start count : ℕ) → AreKept os (length cells) → slice_get os at ≡ Some r → r.number ≡ n
    → cells_at start count (object_of cells r) ≡ option_map_or (cells_at start count) (object_in n (map (object_of cells) os)) []
saved_here os cells n at r start count k found number = ap (λ (o : Option Object). option_map_or (cells_at start count) o []) (sym (found_at os cells (length cells) n at k (r, found, number)))
