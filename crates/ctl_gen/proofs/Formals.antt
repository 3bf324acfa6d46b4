-- What formals take of the operands that their actuals put, where their copies go back to, and the parts that are kept for these below the
-- operands (6.2, 6.4.1).
use Rattle.std.proofs.Common.{◌≡◌, ℕ, zero, suc, ◌+◌, ◌-◌, List, [], ◌∷◌, ◌++◌, length, Option, Some, None, false, refl, sym, ap, ◌∙◌, arith, length-append, append-nil}
use Rattle.std.specs.Prelude.{drop, ◌||◌, is_some}
use Rattle.ctl_meaning.specs.World.{Content, Binds, Copies, Slot}
use Rattle.ctl_meaning.specs.Finalization.{Spot}
use Rattle.ctl_meaning.specs.Activations.{master_of}
use Rattle.ctl_meaning.specs.Names.{InObject, InVariable, Found}
use Rattle.ctl_meaning.specs.Expressions.{Formal, Passed, no_actuals, going_back, with_formal}
use Rattle.ctl_code.specs.declared.code.Code.{Code}
use Rattle.ctl_code.specs.States.{Word, Scalar, Located, Cells}
use Rattle.ctl_code.specs.Table.{formal_of, formals_of, keeping, offset_of, with_values}
use Rattle.ctl_code.proofs.Keeping.{filled, words_of, words_length}
use Rattle.ctl_layout.specs.declared.copies.Back.{Back}
use Rattle.ctl_layout.specs.declared.copies.Back.TheVariants as BackOf
use Rattle.ctl_layout.specs.Values.{ActualCode, goes_back, numbers_of}
use Rattle.ctl_gen.proofs.Each.{Each, each_and}
use Rattle.ctl_gen.proofs.Worlds.{IsPlainSlot}

-- Formals -----------------------------------------------------------------------------------------

-- what a formal begins with is no collection
formal_plain : (x : Word) → IsPlainSlot (formal_of x)
formal_plain (Scalar n) = tt
formal_plain (Located p) = tt
formal_plain (Cells v) = tt

-- a formal whose actual is this operand, and whose copy goes back there, if it does
abbrev pub formal : Word → Option Found → Formal
formal x back = record { slot = formal_of x; back = back }

-- the operand that a formal took, whose slot holds this
abbrev word_in : Content → ℕ → Word
word_in (Binds n offset path) v = Located (record { object = n; offset = offset; path = path })
word_in (Copies x) v = Cells x
word_in _ v = Scalar v

abbrev pub word_of : Slot → Word
word_of x = word_in x.content x.value

-- a formal that takes that operand begins alike
pub formal_is : (x : Word) → formal_of (word_of (formal_of x)) ≡ formal_of x
formal_is (Scalar n) = refl
formal_is (Located p) = refl
formal_is (Cells v) = refl

-- the operands that these formals took, over those that stand there
abbrev pub operands_of : List Slot → List Word → List Word
operands_of [] below = below
operands_of (x ∷ xs) below = operands_of xs (word_of x ∷ below)

-- the last one is on top
pub operands_and : (xs : List Slot) (x : Slot) (below : List Word) → operands_of (xs ++ x ∷ []) below ≡ word_of x ∷ operands_of xs below
operands_and [] x below = refl
operands_and (y ∷ xs) x below = operands_and xs x (word_of y ∷ below)

-- they are the same over others
operands_over : (xs : List Slot) (a b : List Word) → operands_of xs (a ++ b) ≡ operands_of xs a ++ b
operands_over [] a b = refl
operands_over (x ∷ xs) a b = operands_over xs (word_of x ∷ a) b

operands_length : (xs : List Slot) (below : List Word) → length (operands_of xs below) ≡ length xs + length below
operands_length [] below = omega arith
operands_length (x ∷ xs) below = let e = operands_length xs (word_of x ∷ below) in omega (arith, e)

-- so many of the newest operands are what the formals so far take, whatever stands below them, and these copies go back
pub record Taken (n : ℕ) (backs : List (ℕ × Found)) (p : Passed) : Type 0 where
  pub slots : (below : List Word) → formals_of n (operands_of p.slots below) ≡ p.slots
  pub rest : (below : List Word) → drop n (operands_of p.slots below) ≡ below
  pub many : length p.slots ≡ n
  pub back : p.back ≡ backs
  pub plain : Each IsPlainSlot p.slots

pub none_taken : Taken 0 [] no_actuals
unfolding no_actuals
none_taken = record { slots = λ below. refl; rest = λ below. refl; many = refl; back = refl; plain = tt }

-- a further operand is what a further formal takes
pub one_taken : (n : ℕ) (backs : List (ℕ × Found)) (p : Passed) (x : Word) (back : Option Found) → Taken n backs p → Taken (suc n) (backs ++ going_back n back) (with_formal (formal x back) p)
unfolding with_formal
one_taken n backs p x back h = record {
  slots = λ below. ap (formals_of (suc n)) (operands_and p.slots (formal_of x) below) ∙ ap (λ xs. xs ++ formal_of (word_of (formal_of x)) ∷ []) (h.slots below) ∙ ap (λ y. p.slots ++ y ∷ []) (formal_is x);
  rest = λ below. ap (drop (suc n)) (operands_and p.slots (formal_of x) below) ∙ h.rest below;
  many = let long = length-append p.slots (formal_of x ∷ []) in let so_far = h.many in omega (arith, long, so_far);
  back = ap (λ b. b ++ going_back (length p.slots) back) h.back ∙ ap (λ m. backs ++ going_back m back) h.many;
  plain = each_and IsPlainSlot p.slots (formal_of x) (formal_plain x) h.plain;
}

-- Where copies go back to -------------------------------------------------------------------------

-- a component of a part that is kept
abbrev pub found_kept : Code → ℕ → ℕ → Spot → Found
found_kept code t position s = InObject s.object (s.offset + offset_of code t position) s.path

-- where the copy of an actual goes back to, if it does, where a display is seen and these are the parts that were kept for it and those behind
abbrev pub back_found : Code → List ℕ → Option Back → List Spot → Option Found
back_found code d None ss = None
back_found code d (Some (BackOf.Variable v)) ss = Some (InVariable (master_of d v) v.slot)
back_found code d (Some (BackOf.Part t position)) [] = None
back_found code d (Some (BackOf.Part t position)) (s ∷ ss) = Some (found_kept code t position s)

-- the parts that were kept for those behind
abbrev pub others_kept : Option Back → List Spot → List Spot
others_kept None ss = ss
others_kept (Some (BackOf.Variable v)) ss = ss
others_kept (Some (BackOf.Part t position)) [] = []
others_kept (Some (BackOf.Part t position)) (s ∷ ss) = ss

-- which of these actuals' copies go back, and where to, the first being in this position
abbrev pub backs_of : Code → List ℕ → ℕ → List ActualCode → List Spot → List (ℕ × Found)
backs_of code d i [] ss = []
backs_of code d i (a ∷ more) ss = going_back i (back_found code d a.back ss) ++ backs_of code d (i + 1) more (others_kept a.back ss)

-- there are none where none goes back
pub none_back : (code : Code) (d : List ℕ) (i : ℕ) (xs : List ActualCode) (ss : List Spot) → goes_back xs ≡ false → backs_of code d i xs ss ≡ []
unfolding going_back
none_back code d i [] ss none = refl
none_back code d i (a ∷ more) ss none = by a.back none (λ rest. none_back code d (i + 1) more (others_kept a.back ss) rest)
  where
    by : (o : Option Back) → (is_some o || goes_back more) ≡ false → (goes_back more ≡ false → backs_of code d (i + 1) more (others_kept a.back ss) ≡ []) → going_back i (back_found code d o ss) ++ backs_of code d (i + 1) more (others_kept a.back ss) ≡ []
    by None rest further = further rest
    by (Some b) rest further = absurd (cc rest)

-- Parts that are kept -----------------------------------------------------------------------------

-- the part whose component at this offset was found
abbrev pub part_of : ℕ → Option Found → Spot
part_of offset (Some (InObject o at path)) = record { object = o; offset = at - offset; path = path }
part_of offset _ = record { object = 0; offset = 0; path = [] }

part_again : (offset : ℕ) (s : Spot) → part_of offset (Some (InObject s.object (s.offset + offset) s.path)) ≡ s
part_again offset s =
    let at : ℕ → Spot = λ n. record { object = s.object; offset = n; path = s.path } in
    let same : s.offset + offset - offset ≡ s.offset = omega arith in
    ap at same

-- a part is kept as another one of the same object from the same cell on
pub same_kept : (n : ℕ) (s m : Spot) (ops : List Word) → s.object ≡ m.object → s.offset ≡ m.offset → keeping n s ops ≡ keeping n m ops
same_kept zero s m [] object offset = refl
same_kept zero s m (x ∷ []) object offset = refl
same_kept zero s m (x ∷ y ∷ ops) object offset = ap (λ n. Scalar n ∷ Scalar s.object ∷ ops) offset ∙ ap (λ n. Scalar m.offset ∷ Scalar n ∷ ops) object
same_kept (suc n) s m [] object offset = refl
same_kept (suc n) s m (x ∷ ops) object offset = ap (λ xs. x ∷ xs) (same_kept n s m ops object offset)

-- the operands below a new one, where its copy goes back there: the part is kept under so many of them
abbrev pub kept_after : Code → Option Back → ℕ → Option Found → List Word → List Word
kept_after code None over g ops = ops
kept_after code (Some (BackOf.Variable v)) over g ops = ops
kept_after code (Some (BackOf.Part t position)) over g ops = keeping over (part_of (offset_of code t position) g) ops

-- what goes back there is found
abbrev pub IsBackOf : Code → List ℕ → Option Back → Option Found → Type 0
IsBackOf code d None g = g ≡ None
IsBackOf code d (Some (BackOf.Variable v)) g = g ≡ Some (InVariable (master_of d v) v.slot)
IsBackOf code d (Some (BackOf.Part t position)) g = (s : Spot) × (g ≡ Some (found_kept code t position s))

-- the parts that are kept for an actual are added to those that were kept so far, in the place of zeros
pub record Keeps (code : Code) (d : List ℕ) (b : Option Back) (g : Option Found) (over more : ℕ) (xs : List Slot) (kept : List Spot) (below : List Word) : Type 0 where
  pub added : List Spot
  pub stands : kept_after code b over g (operands_of xs (words_of kept ++ with_values (numbers_of b + more) [] below)) ≡ operands_of xs (words_of (kept ++ added) ++ with_values more [] below)
  pub longer : length (words_of (kept ++ added)) ≡ length (words_of kept) + numbers_of b
  pub back : (rest : List Spot) → back_found code d b (added ++ rest) ≡ g
  pub others : (rest : List Spot) → others_kept b (added ++ rest) ≡ rest

-- none is
nothing_added : (more : ℕ) (xs : List Slot) (kept : List Spot) (below : List Word) → operands_of xs (words_of kept ++ with_values (0 + more) [] below) ≡ operands_of xs (words_of (kept ++ []) ++ with_values more [] below)
nothing_added more xs kept below =
    let same : 0 + more ≡ more = omega arith in
    ap (λ n. operands_of xs (words_of kept ++ with_values n [] below)) same
    ∙ ap (λ ss. operands_of xs (words_of ss ++ with_values more [] below)) (sym (append-nil kept))

no_longer : (kept : List Spot) → length (words_of (kept ++ [])) ≡ length (words_of kept) + 0
no_longer kept = let same : length (words_of kept) ≡ length (words_of kept) + 0 = omega arith in ap (λ ss. length (words_of ss)) (append-nil kept) ∙ same

-- one is
one_added : (over more : ℕ) (xs : List Slot) (kept : List Spot) (below : List Word) (s : Spot) → over ≡ length xs + length (words_of kept) → keeping over s (operands_of xs (words_of kept ++ with_values (2 + more) [] below)) ≡ operands_of xs (words_of (kept ++ s ∷ []) ++ with_values more [] below)
one_added over more xs kept below s long =
    let above = operands_of xs [] in
    let zeros : 2 + more ≡ suc (suc more) = omega arith in
    let count = operands_length xs [] in
    let deep : over ≡ length above + length (words_of kept) = omega (arith, long, count) in
    ap (λ n. keeping over s (operands_of xs (words_of kept ++ with_values n [] below))) zeros
    ∙ ap (keeping over s) (operands_over xs [] (words_of kept ++ with_values (suc (suc more)) [] below))
    ∙ ap (λ n. keeping n s (above ++ (words_of kept ++ with_values (suc (suc more)) [] below))) deep
    ∙ filled above kept more s below
    ∙ sym (operands_over xs [] (words_of (kept ++ s ∷ []) ++ with_values more [] below))

pub keeps : (code : Code) (d : List ℕ) (b : Option Back) (g : Option Found) (over more : ℕ) (xs : List Slot) (kept : List Spot) (below : List Word) → over ≡ length xs + length (words_of kept) → IsBackOf code d b g → Keeps code d b g over more xs kept below
keeps code d None g over more xs kept below long is = record { added = []; stands = nothing_added more xs kept below; longer = no_longer kept; back = λ rest. sym is; others = λ rest. refl }
keeps code d (Some (BackOf.Variable v)) g over more xs kept below long is = record { added = []; stands = nothing_added more xs kept below; longer = no_longer kept; back = λ rest. sym is; others = λ rest. refl }
keeps code d (Some (BackOf.Part t position)) g over more xs kept below long is =
    let s = is.0 in
    let offset = offset_of code t position in
    let again : part_of offset g ≡ s = ap (part_of offset) is.1 ∙ part_again offset s in
    record {
      added = s ∷ [];
      stands = ap (λ m. keeping over m (operands_of xs (words_of kept ++ with_values (2 + more) [] below))) again ∙ one_added over more xs kept below s long;
      longer = let before = words_length kept in let behind = words_length (kept ++ s ∷ []) in let one_more = length-append kept (s ∷ []) in omega (arith, before, behind, one_more);
      back = λ rest. sym is.1;
      others = λ rest. refl;
    }
