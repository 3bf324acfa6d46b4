-- Behind the call of a procedure its copies go back, from left to right: what each formal held in the end is an operand, which the variable of
-- its actual takes, or the component of a part that was kept below these operands (6.4.1).
use Rattle.std.proofs.Common.{◌≡◌, ℕ, zero, suc, ◌+◌, ◌-◌, ◌*◌, ◌≤◌, List, [], ◌∷◌, ◌++◌, length, Option, Some, None, refl, sym, ap, ◌∙◌, subst, arith, append_assoc, length-append}
use Rattle.std.specs.Prelude.{drop, slice_get}
use Rattle.ctl_program.specs.declared.types.Var.{Var}
use Rattle.ctl_tree.specs.declared.ending.Stop.TheVariants.{UseAfterFree}
use Rattle.ctl_meaning.specs.World.{Object, Slot, unset, Log, World}
use Rattle.ctl_meaning.specs.Lists.{item_or}
use Rattle.ctl_meaning.specs.Activations.{master_of}
use Rattle.ctl_meaning.specs.Changes.{object_at, set_value, write_cells}
use Rattle.ctl_meaning.specs.Finalization.{Spot}
use Rattle.ctl_meaning.specs.Choice.{Ask}
use Rattle.ctl_meaning.specs.Outcome.{Goes, add, bind, change, on_goes, on_some, opened_outcome}
use Rattle.ctl_meaning.specs.Types.{Tables}
use Rattle.ctl_meaning.specs.Names.{Found, existing, gone, write_found, write_part, opened_names}
use Rattle.ctl_meaning.specs.Expressions.{copy_back, going_back}
use Rattle.ctl_code.specs.declared.code.Instr.TheVariants as InstrOf
use Rattle.ctl_code.specs.declared.code.Code.{Code}
use Rattle.ctl_code.specs.declared.kinds.Kind.{Kind}
use Rattle.ctl_code.specs.States.{Word, Scalar, Frame}
use Rattle.ctl_code.specs.Steps.{moved, step}
use Rattle.ctl_code.specs.Table.{by_copy_back, by_copy_back_part, first_value, offset_of, stored, with_values}
use Rattle.ctl_code.specs.Valid.{over_numbers}
use Rattle.ctl_code.specs.Windows.{depth, height}
use Rattle.ctl_code.proofs.Keeping.{object_at_pair, offset_at, words_length, words_of}
use Rattle.ctl_layout.specs.Around.{Line, out_to}
use Rattle.ctl_layout.specs.declared.copies.Back.{Back}
use Rattle.ctl_layout.specs.declared.copies.Back.TheVariants as BackOf
use Rattle.ctl_layout.specs.Values.{ActualCode, back_to, backs_code, copied_back, numbers_in, numbers_of}
use Rattle.ctl_gen.proofs.Place.{Laid}
use Rattle.ctl_gen.proofs.Worlds.{Since, since_value, since_written}
use Rattle.ctl_gen.proofs.Setting.{Sure}
use Rattle.ctl_gen.proofs.Cells.{by_code, here, out_is}
use Rattle.ctl_gen.proofs.Formals.{back_found, backs_of, found_kept, others_kept}
use Rattle.ctl_emitter.proofs.EmittedCalls.{depth_over}
use Rattle.ctl_gen.proofs.Follow.{OutOf, Runs, added, arrives, at, last_step, one_step, stop_step, within}

-- What slots held in the end, as operands -----------------------------------------------------------

-- what the slot in a position held
abbrev pub held_at : List Slot → ℕ → ℕ
held_at slots i = (item_or unset (slice_get slots i)).value

-- it is the first of what is left behind those before it
first_held : (i : ℕ) (slots : List Slot) → first_value (drop i slots) ≡ held_at slots i
unfolding item_or
first_held zero [] = refl
first_held zero (x ∷ slots) = refl
first_held (suc i) [] = refl
first_held (suc i) (x ∷ slots) = first_held i slots

-- past the first one
drop_one : (i : ℕ) (slots : List Slot) → drop i (drop 1 slots) ≡ drop (suc i) slots
drop_one zero [] = refl
drop_one (suc i) [] = refl
drop_one i (x ∷ slots) = refl

-- those of the first slots, and then those of others
values_both : (i n : ℕ) (slots : List Slot) (ops : List Word) → with_values (i + n) slots ops ≡ with_values n (drop i slots) (with_values i slots ops)
values_both zero n slots ops = let same : 0 + n ≡ n = omega arith in ap (λ m. with_values m slots ops) same
values_both (suc i) n slots ops =
    let same : suc i + n ≡ suc (i + n) = omega arith in
    let more = Scalar (first_value slots) ∷ ops in
    ap (λ m. with_values m slots ops) same ∙ values_both i n (drop 1 slots) more ∙ ap (λ xs. with_values n xs (with_values i (drop 1 slots) more)) (drop_one i slots)

-- what stands below them
below_values : (n j : ℕ) (slots : List Slot) (ops : List Word) → slice_get (with_values n slots ops) (n + j) ≡ slice_get ops j
below_values zero j slots ops = let same : 0 + j ≡ j = omega arith in ap (slice_get ops) same
below_values (suc n) j slots ops =
    let same : suc n + j ≡ n + suc j = omega arith in
    ap (slice_get (with_values (suc n) slots ops)) same ∙ below_values n (suc j) (drop 1 slots) (Scalar (first_value slots) ∷ ops)

-- and where these are dropped
without_values : (n j : ℕ) (slots : List Slot) (ops : List Word) → drop (n + j) (with_values n slots ops) ≡ drop j ops
without_values zero j slots ops = let same : 0 + j ≡ j = omega arith in ap (λ m. drop m ops) same
without_values (suc n) j slots ops =
    let same : suc n + j ≡ n + suc j = omega arith in
    ap (λ m. drop m (with_values (suc n) slots ops)) same ∙ without_values n (suc j) (drop 1 slots) (Scalar (first_value slots) ∷ ops)

values_dropped : (n : ℕ) (slots : List Slot) (ops : List Word) → drop n (with_values n slots ops) ≡ ops
values_dropped n slots ops = let same : n ≡ n + 0 = omega arith in ap (λ m. drop m (with_values n slots ops)) same ∙ without_values n 0 slots ops

-- the one in a position, of which so many stand above it
value_at : (i above : ℕ) (slots : List Slot) (ops : List Word) → slice_get (with_values (i + (above + 1)) slots ops) above ≡ Some (Scalar (held_at slots i))
value_at i above slots ops =
    let same : above + 1 ≡ suc above = omega arith in
    let here_it : above ≡ above + 0 = omega arith in
    let rest = drop i slots in
    let so_far = with_values i slots ops in
    ap (λ xs. slice_get xs above) (values_both i (above + 1) slots ops ∙ ap (λ m. with_values m rest so_far) same)
    ∙ ap (slice_get (with_values above (drop 1 rest) (Scalar (first_value rest) ∷ so_far))) here_it
    ∙ below_values above 0 (drop 1 rest) (Scalar (first_value rest) ∷ so_far)
    ∙ ap (λ x. Some (Scalar x)) (first_held i slots)

-- Parts that are kept ------------------------------------------------------------------------------

-- the part behind these
part_behind : (before : List Spot) (s : Spot) (behind : List Spot) → slice_get (before ++ s ∷ behind) (length before) ≡ Some s
part_behind [] s behind = refl
part_behind (x ∷ before) s behind = part_behind before s behind

-- some operands are dropped
front_dropped : (a b : List Word) → drop (length a) (a ++ b) ≡ b
front_dropped [] b = refl
front_dropped (x ∷ a) b = front_dropped a b

-- What the copies do ------------------------------------------------------------------------------

-- behind the call of a procedure whose slots held these in the end, so many of which are operands, over those that keep these parts and these
-- operands, in the worlds since an earlier one; so many numbers stand over what stood there
module _ (ask : Ask) (k : Tables) (code : Code) (w0 : World) (slots : List Slot) (kept : List Spot) (n count : ℕ) (all : length (words_of kept) + n ≡ count) (s : List Kind) (d : List ℕ) (ks : List Frame) (ops : List Word) (long : length d ≡ depth s) where
  abbrev words : List Word
  words = with_values n slots (words_of kept ++ ops)

  -- a variable takes what the formal in a position held
  abbrev taken_back : Var → ℕ → World → World
  taken_back v i w = set_value (master_of d v) v.slot (held_at slots i) w

  -- that is the last of the operands from there on
  held_there : (i above : ℕ) → i + (above + 1) ≡ n → slice_get words (above + 1 - 1) ≡ Some (Scalar (held_at slots i))
  held_there i above last =
      let position : above + 1 - 1 ≡ above = omega arith in
      ap (slice_get words) position ∙ ap (λ m. slice_get (with_values m slots (words_of kept ++ ops)) above) (sym last) ∙ value_at i above slots (words_of kept ++ ops)

  -- one step, where so many operands stand above what it held
  back_step : (v : Var) (i above at_cell place : ℕ) (l : Log) (w : World) → i + (above + 1) ≡ n → slice_get code.instructions.items place ≡ Some (InstrOf.CopyBack (above + 1) at_cell (out_to (over_numbers count s) v) v.slot) → step ask code (at d place ks words l w) ≡ at d (place + 1) ks words l (taken_back v i w)
  back_step v i above at_cell place l w last has =
      let top = over_numbers count s in
      let out = out_to top v in
      by_code ask code d place ks words l w (InstrOf.CopyBack (above + 1) at_cell out v.slot) has
      ∙ ap (λ o. moved l (by_copy_back o out v.slot words (here d place ks w))) (held_there i above last)
      ∙ ap (λ m. at d (place + 1) ks words l (set_value m v.slot (held_at slots i) w)) (out_is d top v (long ∙ sym (depth_over count s)))

  -- the two numbers that keep the part in this position
  kept_words : (j below : ℕ) (p : Spot) → below ≡ n + 2 * j → slice_get kept j ≡ Some p → (slice_get words (below + 2 - 2) ≡ Some (Scalar p.offset)) × (slice_get words (below + 2 - 1) ≡ Some (Scalar p.object))
  kept_words j below p under is =
      let first : below + 2 - 2 ≡ n + 2 * j = omega (arith, under) in
      let second : below + 2 - 1 ≡ n + (2 * j + 1) = omega (arith, under) in (
        ap (slice_get words) first ∙ below_values n (2 * j) slots (words_of kept ++ ops) ∙ offset_at kept j p ops is,
        ap (slice_get words) second ∙ below_values n (2 * j + 1) slots (words_of kept ++ ops) ∙ object_at_pair kept j p ops is,
      )

  -- a component of it takes what the formal held
  part_back_step : (t position i above j below at_cell kept_cell place : ℕ) (p : Spot) (l : Log) (w : World) → i + (above + 1) ≡ n → below ≡ n + 2 * j → slice_get kept j ≡ Some p → slice_get code.instructions.items place ≡ Some (InstrOf.CopyBackPart (above + 1) at_cell (below + 2) kept_cell t position) → step ask code (at d place ks words l w) ≡ moved l (stored p.object (p.offset + offset_of code t position) (held_at slots i) (object_at p.object w) words (here d place ks w))
  part_back_step t position i above j below at_cell kept_cell place p l w last under is has =
      let offset = offset_of code t position in
      let h = here d place ks w in
      let two = kept_words j below p under is in
      by_code ask code d place ks words l w (InstrOf.CopyBackPart (above + 1) at_cell (below + 2) kept_cell t position) has
      ∙ ap (λ o. moved l (by_copy_back_part offset o (slice_get words (below + 2 - 2)) (slice_get words (below + 2 - 1)) words h)) (held_there i above last)
      ∙ ap (λ o. moved l (by_copy_back_part offset (Some (Scalar (held_at slots i))) o (slice_get words (below + 2 - 1)) words h)) two.0
      ∙ ap (λ o. moved l (by_copy_back_part offset (Some (Scalar (held_at slots i))) (Some (Scalar p.offset)) o words h)) two.1

  -- the copies that are left, the first of them in a cell, and then all of them are dropped
  abbrev rest_code : List ActualCode → ℕ → ℕ → List Line
  rest_code xs at_cell below = backs_code xs at_cell below (over_numbers count s) ++ (InstrOf.Discard count, over_numbers count s) ∷ []

  -- lines do this, in so many steps
  abbrev Does : List Line → ℕ → List (ℕ × Found) → Type 0
  Does lines steps backs = (place c : ℕ) (l : Log) (w : World) → Since k code w0 w → Laid code place lines → Runs ask code (Sure k code w0) steps steps (at d place ks words l w) c (arrives OutOf d (place + length lines) ks ops) (copy_back slots backs c l w)

  -- none is left
  all_dropped : drop count words ≡ ops
  all_dropped =
      let m = length (words_of kept) in
      let same : count ≡ n + m = omega (arith, all) in
      ap (λ z. drop z words) same ∙ without_values n m slots (words_of kept ++ ops) ∙ front_dropped (words_of kept) ops

  none_left : (at_cell below : ℕ) → Does (rest_code [] at_cell below) 3 []
  unfolding copy_back opened_outcome
  none_left at_cell below place c l w fits has =
      last_step ask code (Sure k code w0) 3 3 _ c 0 (arrives OutOf d (place + 1) ks ops) (Goes tt) l w (omega arith) (tt, fits)
      (by_code ask code d place ks words l w (InstrOf.Discard count) has.0 ∙ ap (λ xs. at d (place + 1) ks xs l w) all_dropped)

  -- which parts are kept for the copies that are left, below so many operands
  abbrev AreLeft : List Spot → List Spot → ℕ → ℕ → Type 0
  AreLeft before behind below many = (kept ≡ before ++ behind) × (below ≡ n + length (words_of before)) × (length (words_of behind) ≡ many)

  -- the first of them goes back to a component of a part, if this still exists
  part_back : (t position : ℕ) (more : List ActualCode) (i steps at_cell below : ℕ) (before : List Spot) (p : Spot) (backs : List (ℕ × Found)) → 3 ≤ steps → i + (length more + 1) ≡ n → slice_get kept (length before) ≡ Some p → below ≡ n + length (words_of before) → Does (rest_code more (at_cell + 1) (below + 2)) steps backs →
      (place c : ℕ) (l : Log) (w : World) → Since k code w0 w → Laid code place ((back_to (Some (BackOf.Part t position)) (length more + 1) at_cell below (over_numbers count s) ++ backs_code more (at_cell + 1) (below + 2) (over_numbers count s)) ++ (InstrOf.Discard count, over_numbers count s) ∷ []) →
      Runs ask code (Sure k code w0) (steps + 1) (steps + 1) (at d place ks words l w) c (arrives OutOf d (place + suc (length (rest_code more (at_cell + 1) (below + 2)))) ks ops) (copy_back slots ((i, found_kept code t position p) ∷ backs) c l w)
  unfolding copy_back write_found write_part existing gone opened_outcome item_or
  part_back t position more i steps at_cell below before p backs enough last is under rest place c l w fits has = by (object_at p.object w) (part_back_step t position i (length more) (length before) below at_cell _ place p l w last deep is has.0)
    where
      deep : below ≡ n + 2 * length before
      deep = let many = words_length before in omega (arith, under, many)

      end : place + 1 + length (rest_code more (at_cell + 1) (below + 2)) ≡ place + suc (length (rest_code more (at_cell + 1) (below + 2)))
      end = omega arith

      by : (x : Option Object) → step ask code (at d place ks words l w) ≡ moved l (stored p.object (p.offset + offset_of code t position) (held_at slots i) x words (here d place ks w)) →
          Runs ask code (Sure k code w0) (steps + 1) (steps + 1) (at d place ks words l w) c (arrives OutOf d (place + suc (length (rest_code more (at_cell + 1) (below + 2)))) ks ops) (bind (on_some x gone (λ o. change (write_cells p.object (p.offset + offset_of code t position) (held_at slots i ∷ []))) c l w) (on_goes (λ u. copy_back slots backs)))
      by None go = stop_step ask code (Sure k code w0) (steps + 1) (steps + 1) _ _ c 0 (arrives OutOf d (place + suc (length (rest_code more (at_cell + 1) (below + 2)))) ks ops) UseAfterFree l (omega (arith, enough)) go refl refl
      by (Some o) go =
          let after = write_cells p.object (p.offset + offset_of code t position) (held_at slots i ∷ []) w in
          subst (λ q. Runs ask code (Sure k code w0) (steps + 1) (steps + 1) (at d place ks words l w) c (arrives OutOf d q ks ops) (add 0 (copy_back slots backs c l after))) end
          (added ask code (Sure k code w0) 0 (steps + 1) (steps + 1) (steps + 1) (steps + 1) _ c _ _ (omega arith) (omega arith)
          (one_step ask code (Sure k code w0) steps steps (steps + 1) (steps + 1) _ (at d (place + 1) ks words l after) c c _ _ (omega arith) (omega arith) (omega arith) (omega arith) go
          (rest (place + 1) c l after (since_written k code p.object (p.offset + offset_of code t position) (held_at slots i ∷ []) w0 w fits) has.2)))

  -- the first of them, if it goes back, and then the others
  one_back : (o : Option Back) (more : List ActualCode) (i steps at_cell below : ℕ) (before behind : List Spot) → 3 ≤ steps → i + (length more + 1) ≡ n → AreLeft before behind below (numbers_of o + numbers_in more) →
      ((before1 behind1 : List Spot) (below1 : ℕ) → AreLeft before1 behind1 below1 (numbers_in more) → Does (rest_code more (at_cell + 1) below1) steps (backs_of code d (i + 1) more behind1)) →
      Does ((back_to o (length more + 1) at_cell below (over_numbers count s) ++ backs_code more (at_cell + 1) (below + numbers_of o) (over_numbers count s)) ++ (InstrOf.Discard count, over_numbers count s) ∷ []) (steps + 1) (going_back i (back_found code d o behind) ++ backs_of code d (i + 1) more (others_kept o behind))
  unfolding copy_back going_back opened_outcome opened_names item_or
  one_back None more i steps at_cell below before behind enough last left rest place c l w fits has =
      let under = left.1 in
      let many = left.2 in
      within ask code (Sure k code w0) steps steps (steps + 1) (steps + 1) _ c _ _ (omega arith) (omega arith)
      (rest before behind (below + 0) (left.0, omega (arith, under), omega (arith, many)) place c l w fits has)
  one_back (Some (BackOf.Variable v)) more i steps at_cell below before behind enough last left rest place c l w fits has =
      let under = left.1 in
      let many = left.2 in
      let after = taken_back v i w in
      let lines = rest_code more (at_cell + 1) (below + 0) in
      let e : place + 1 + length lines ≡ place + suc (length lines) = omega arith in
      subst (λ p. Runs ask code (Sure k code w0) (steps + 1) (steps + 1) (at d place ks words l w) c (arrives OutOf d p ks ops) (add 0 (copy_back slots (backs_of code d (i + 1) more behind) c l after))) e
      (added ask code (Sure k code w0) 0 (steps + 1) (steps + 1) (steps + 1) (steps + 1) _ c _ _ (omega arith) (omega arith)
      (one_step ask code (Sure k code w0) steps steps (steps + 1) (steps + 1) _ (at d (place + 1) ks words l after) c c _ _ (omega arith) (omega arith) (omega arith) (omega arith)
      (back_step v i (length more) at_cell place l w last has.0)
      (rest before behind (below + 0) (left.0, omega (arith, under), omega (arith, many)) (place + 1) c l after (since_value k code (master_of d v) v.slot (held_at slots i) w0 w fits) has.2)))
  one_back (Some (BackOf.Part t position)) more i steps at_cell below before [] enough last left rest place c l w fits has = let many = left.2 in absurd (omega (arith, many))
  one_back (Some (BackOf.Part t position)) more i steps at_cell below before (p ∷ behind) enough last left rest place c l w fits has =
      let under = left.1 in
      let many = left.2 in
      let is : slice_get kept (length before) ≡ Some p = ap (λ xs. slice_get xs (length before)) left.0 ∙ part_behind before p behind in
      let next : kept ≡ (before ++ p ∷ []) ++ behind = left.0 ∙ sym (append_assoc before (p ∷ []) behind) in
      let so_far = words_length before in
      let further = words_length (before ++ p ∷ []) in
      let one_more = length-append before (p ∷ []) in
      part_back t position more i steps at_cell below before p (backs_of code d (i + 1) more behind) enough last is under
      (rest (before ++ p ∷ []) behind (below + 2) (next, omega (arith, under, so_far, further, one_more), omega (arith, many)))
      place c l w fits has

  each_back : (xs : List ActualCode) (i at_cell below : ℕ) (before behind : List Spot) → i + length xs ≡ n → AreLeft before behind below (numbers_in xs) → Does (rest_code xs at_cell below) (length xs + 3) (backs_of code d i xs behind)
  each_back [] i at_cell below before behind last left place c l w fits has = none_left at_cell below place c l w fits has
  each_back (a ∷ more) i at_cell below before behind last left place c l w fits has =
      let whole : i + (length more + 1) ≡ n = omega (arith, last) in
      let further : i + 1 + length more ≡ n = omega (arith, last) in
      let same : length more + 3 + 1 ≡ length (a ∷ more) + 3 = omega arith in
      subst (λ b. Runs ask code (Sure k code w0) b b (at d place ks words l w) c (arrives OutOf d (place + length (rest_code (a ∷ more) at_cell below)) ks ops) (copy_back slots (backs_of code d i (a ∷ more) behind) c l w)) same
      (one_back a.back more i (length more + 3) at_cell below before behind (omega arith) whole left
      (λ before1 behind1 below1 left1. each_back more (i + 1) (at_cell + 1) below1 before1 behind1 further left1) place c l w fits has)

-- all of them: a step for each actual at most, and a few more
pub copies_back : (ask : Ask) (k : Tables) (code : Code) (w0 : World) (slots : List Slot) (kept : List Spot) (xs : List ActualCode) → length (words_of kept) ≡ numbers_in xs → (s : List Kind) (d : List ℕ) (ks : List Frame) (ops : List Word) → length d ≡ depth s → (place c : ℕ) (l : Log) (w : World) → Since k code w0 w → Laid code place (copied_back xs (numbers_in xs + length xs) s) →
    Runs ask code (Sure k code w0) (length xs + 3) (length xs + 3) (at d place ks (with_values (length xs) slots (words_of kept ++ ops)) l w) c (arrives OutOf d (place + length (copied_back xs (numbers_in xs + length xs) s)) ks ops) (copy_back slots (backs_of code d 0 xs kept) c l w)
copies_back ask k code w0 slots kept xs many s d ks ops long =
    let n = length xs in
    let count = numbers_in xs + n in
    let all : length (words_of kept) + n ≡ count = ap (λ m. m + n) many in
    let none_before : n ≡ n + 0 = omega arith in
    each_back ask k code w0 slots kept n count all s d ks ops long xs 0 (height s + numbers_in xs) n [] kept (omega arith) (refl, none_before, many)
