-- What the emitter makes of a call is its layout (6.4).
use Rattle.std.proofs.Common.{◌≡◌, ℕ, zero, suc, ◌+◌, ◌-◌, ◌<◌, List, [], ◌∷◌, ◌++◌, drop, length, Option, Some, None, Bool, true, false, refl, sym, ap, ◌∙◌, append-nil, arith}
use Rattle.std.specs.Prelude.{if◌then◌else◌, ◌||◌, is_some}
use Rattle.ctl_program.specs.declared.types.Ty.{Ty}
use Rattle.ctl_program.specs.declared.types.Ty.TheVariants.{Integer, Count, Boolean, Address, Handle, Access, Record}
use Rattle.ctl_program.specs.declared.operators.CopyStart.{CopyStart}
use Rattle.ctl_program.specs.declared.expression.Step.{Step}
use Rattle.ctl_code.specs.declared.code.Cell.{Cell}
use Rattle.ctl_code.specs.declared.code.Instr.{Instr}
use Rattle.ctl_code.specs.declared.code.Instr.TheVariants as InstrOf
use Rattle.ctl_code.specs.declared.kinds.Kind.{Kind}
use Rattle.ctl_code.specs.declared.kinds.Kind.TheVariants.{Operand}
use Rattle.ctl_code.specs.Kinds.{below_newest}
use Rattle.ctl_code.specs.Valid.{over_numbers}
use Rattle.ctl_code.specs.Windows.{depth, height}
use Rattle.ctl_code.proofs.Numbered.{below_over}
use Rattle.ctl_layout.specs.Around.{Line, new_operand}
use Rattle.ctl_layout.specs.Parts.{Reached, Result as ResultOf, Start, access_value, begun_code, located_code}
use Rattle.ctl_layout.specs.Layout.{call}
use Rattle.ctl_layout.specs.declared.copies.Back.{Back}
use Rattle.ctl_layout.specs.Values.{ActualCode, ValueCode, actuals_code, numbers_in, numbers_of, reserved_code, keeping_code, kept_code, back_to, backs_code, by_copy, by_reference, by_value, copied, copied_back, copies_code, copies_of, evaluates_code, function_call, given, goes_back, is_result, moved_to, record_call_code, result_of, with_actuals}
use Rattle.ctl_layout.proofs.Layers.{called_whole}
use Rattle.ctl_emitter.specs.Emitted.{Emitted, appended, lined, one, passed, reserving, standing, stated, taking_actuals}
use Rattle.ctl_emitter.proofs.EmittedParts.{value_emitted_alone}
use Rattle.ctl_emitter.proofs.EmittedValues.{IsElementary, of_elementary}
use Rattle.ctl_emitter.proofs.Emission.{in_two, lined_at, lined_both, nothing, stands, stands_before, stands_behind, standing_is}

-- Actuals -----------------------------------------------------------------------------------------

-- its operand is of the type that it says
pub reference_type : (o : Option Reached) (ty : Ty) → (by_reference o ty).ty ≡ ty
reference_type None ty = refl
reference_type (Some o) (Record t) = refl
reference_type (Some o) Integer = refl
reference_type (Some o) Count = refl
reference_type (Some o) Boolean = refl
reference_type (Some o) Address = refl
reference_type (Some o) Handle = refl
reference_type (Some o) (Access a) = refl

pub copy_type : (o : Option Reached) (ty : Ty) (begins : CopyStart) → (by_copy o ty begins).ty ≡ ty
copy_type o ty begins = refl

-- a part is found alike wherever its actual stands
pub reference_code : (o : Option Reached) (ty : Ty) (over : ℕ) → (by_reference o ty).code 0 ≡ (by_reference o ty).code over
reference_code None ty over = refl
reference_code (Some o) (Record t) over = refl
reference_code (Some o) Integer over = refl
reference_code (Some o) Count over = refl
reference_code (Some o) Boolean over = refl
reference_code (Some o) Address over = refl
reference_code (Some o) Handle over = refl
reference_code (Some o) (Access a) over = refl

-- a new operand behind the lines of an actual
pub actual_emitted : (over : ℕ) (a : ActualCode) (ty : Ty) (e0 e1 e2 : Emitted) → a.ty ≡ ty → e1 ≡ lined (a.code over) e0 → e2 ≡ standing (Operand ty ∷ e1.notes.standing) e1 → e2 ≡ passed over (a ∷ []) e0
actual_emitted over a ty e0 e1 e2 same first b =
    let s = e0.notes.standing in
    stands_behind (a.code over s) [] s (Operand a.ty ∷ s) e0 e1 e2 first (b ∙ ap (λ t. standing (Operand t ∷ e1.notes.standing) e1) (sym same) ∙ ap (λ r. standing (Operand a.ty ∷ r) e1) (standing_is (a.code over s) [] s e0 e1 first))
    ∙ ap (λ l. appended l [] (Operand a.ty ∷ s) e0) (sym (append-nil (a.code over s)))

-- and so is a value
pub value_type_is : (x : ValueCode) (ty : Ty) → (by_value x ty).ty ≡ ty
value_type_is x (Record t) = reference_type (result_of (copied t x)) (Record t)
value_type_is x Integer = refl
value_type_is x Count = refl
value_type_is x Boolean = refl
value_type_is x Address = refl
value_type_is x Handle = refl
value_type_is x (Access a) = refl

pub value_lines : (x : ValueCode) (ty : Ty) (over : ℕ) → (by_value x ty).code 0 ≡ (by_value x ty).code over
value_lines x (Record t) over = reference_code (result_of (copied t x)) (Record t) over
value_lines x Integer over = refl
value_lines x Count over = refl
value_lines x Boolean over = refl
value_lines x Address over = refl
value_lines x Handle over = refl
value_lines x (Access a) over = refl

-- one of an elementary type stands where it was put
pub elementary_value : (x : ValueCode) (ty : Ty) (to : Cell) (e0 e1 : Emitted) → IsElementary ty → to ≡ new_operand e0.notes.standing → e1 ≡ lined (x.code to ty) e0 → e1 ≡ lined ((by_value x ty).code 0) e0
elementary_value x ty to e0 e1 is here a =
    of_elementary (λ u. e1 ≡ lined (x.code to u) e0 → e1 ≡ lined ((by_value x u).code 0) e0) (there Integer) (there Count) (there Boolean) (there Address) (there Handle) (λ k. there (Access k)) ty is a
  where
    there : (u : Ty) → e1 ≡ lined (x.code to u) e0 → e1 ≡ lined (λ s. x.code (new_operand s) u s) e0
    there u b = b ∙ ap (λ cell. lined (x.code cell u) e0) here

-- that of a record is the call of a function, if anything
pub record_passed : (t : ℕ) (x : ValueCode) (e0 e1 : Emitted) → is_result (copied t x) ≡ true → e1 ≡ lined (begun_code (given x)) e0 → e1 ≡ lined ((by_reference (result_of (copied t x)) (Record t)).code 0) e0
record_passed t x e0 e1 is a =
    let whole : result_of (copied t x) ≡ Some (ResultOf (given x)) = called_whole t x ∙ ap (λ (b : Bool). if b then Some (ResultOf (given x)) else None) is in
    value_emitted_alone x t e0 e1 a ∙ ap (λ o. lined ((by_reference o (Record t)).code 0) e0) (sym whole)

pub no_record_passed : (t : ℕ) (x : ValueCode) (e0 e1 : Emitted) → is_result (copied t x) ≡ false → e1 ≡ lined (one InstrOf.Missing) e0 → e1 ≡ lined ((by_reference (result_of (copied t x)) (Record t)).code 0) e0
no_record_passed t x e0 e1 is a =
    let none : result_of (copied t x) ≡ None = called_whole t x ∙ ap (λ (b : Bool). if b then Some (ResultOf (given x)) else None) is in
    a ∙ ap (λ o. lined ((by_reference o (Record t)).code 0) e0) (sym none)

-- a part is found, and what the copy of its component begins with takes its place
pub part_kept : (b : Start) (steps : List Step) (t position : ℕ) (begins : CopyStart) (ty : Ty) (over : ℕ) (e0 e1 e2 : Emitted) → e1 ≡ lined (located_code b steps t) e0 → e2 ≡ lined (keeping_code t position begins ty over) e1 → e2 ≡ lined (kept_code b steps t position begins ty over) e0
part_kept b steps t position begins ty over e0 e1 e2 x y = lined_both (located_code b steps t) (keeping_code t position begins ty over) e0 e1 e2 x y

-- another name of the same actual
pub actual_renamed : (over : ℕ) (a b : ActualCode) (e0 e1 : Emitted) → b ≡ a → e1 ≡ passed over (a ∷ []) e0 → e1 ≡ passed over (b ∷ []) e0
actual_renamed over a b e0 e1 same h = h ∙ ap (λ x. passed over (x ∷ []) e0) (sym same)

pub next_actual : (over next : ℕ) (a : ActualCode) (more : List ActualCode) (e0 e1 : Emitted) → next ≡ over + (1 + numbers_of a.back) → e1 ≡ passed over (a ∷ []) e0 → passed next more e1 ≡ passed over (a ∷ more) e0
next_actual over next a more e0 e1 is h =
    let s = e0.notes.standing in
    let top = Operand a.ty ∷ s in
    let further = over + (1 + numbers_of a.back) in
    let first : e1 ≡ appended (a.code over s) [] top e0 = h ∙ ap (λ l. appended l [] top e0) (append-nil (a.code over s)) in
    ap (λ n. passed n more e1) is
    ∙ in_two (a.code over s) (actuals_code further more top) [] [] top (with_actuals more top) e0 e1 (passed further more e1) first
    (ap (λ r. appended (actuals_code further more r) [] (with_actuals more r) e1) (standing_is (a.code over s) [] top e0 e1 first))

pub no_actual : (over : ℕ) (e : Emitted) → e ≡ passed over [] e
no_actual over e = nothing e

-- Actuals that leave ------------------------------------------------------------------------------

-- so many of the newest stand there no more
abbrev pub left : ℕ → Emitted → Emitted
left n e = standing (drop n e.notes.standing) e

without_one : (n : ℕ) (s : List Kind) → drop n (below_newest s) ≡ drop (suc n) s
without_one zero [] = refl
without_one (suc n) [] = refl
without_one n (k ∷ s) = refl

pub next_left : (n : ℕ) (e0 e1 : Emitted) → e1 ≡ standing (below_newest e0.notes.standing) e0 → left n e1 ≡ left (suc n) e0
unfolding standing
next_left n e0 e1 a = ap (left n) a ∙ ap (λ s. standing s e0) (without_one n e0.notes.standing)

pub none_left : (e : Emitted) → e ≡ left 0 e
unfolding standing
none_left e = refl

-- without the actuals, which are on top, there stands what stood before
below_actuals : (m : ℕ) (actuals : List ActualCode) (s : List Kind) → drop (length actuals + m) (with_actuals actuals s) ≡ drop m s
below_actuals m [] s = let same : 0 + m ≡ m = omega arith in ap (λ n. drop n s) same
below_actuals m (a ∷ more) s =
    let same : length (a ∷ more) + m ≡ length more + suc m = omega arith in
    ap (λ n. drop n (with_actuals more (Operand a.ty ∷ s))) same ∙ below_actuals (suc m) more (Operand a.ty ∷ s)

pub actuals_left : (actuals : List ActualCode) (s : List Kind) → drop (length actuals) (with_actuals actuals s) ≡ s
actuals_left actuals s =
    let same : length actuals ≡ length actuals + 0 = omega arith in
    ap (λ n. drop n (with_actuals actuals s)) same ∙ below_actuals 0 actuals s

-- Copies that go back ----------------------------------------------------------------------------

-- where none does, no number keeps a part
pub none_kept : (actuals : List ActualCode) → goes_back actuals ≡ false → numbers_in actuals ≡ 0
none_kept [] none = refl
none_kept (a ∷ more) none = by a.back none (none_kept more)
  where
    by : (o : Option Back) → (is_some o || goes_back more) ≡ false → (goes_back more ≡ false → numbers_in more ≡ 0) → numbers_of o + numbers_in more ≡ 0
    by None rest further = let e = further rest in omega (arith, e)
    by (Some b) rest further = absurd (cc rest)

-- so many numbers more stand there
abbrev pub numbered : ℕ → Emitted → Emitted
numbered n e = standing (over_numbers n e.notes.standing) e

pub next_number : (n : ℕ) (e0 e1 : Emitted) → e1 ≡ standing (Operand Integer ∷ e0.notes.standing) e0 → numbered n e1 ≡ numbered (suc n) e0
unfolding standing
next_number n e0 e1 a = ap (numbered n) a

pub no_number : (e : Emitted) → e ≡ numbered 0 e
unfolding standing
no_number e = refl

-- each of them is a cell, and no master
pub height_over : (n : ℕ) (s : List Kind) → height (over_numbers n s) ≡ height s + n
height_over zero s = omega arith
height_over (suc n) s = let more = height_over n (Operand Integer ∷ s) in omega (arith, more)

pub depth_over : (n : ℕ) (s : List Kind) → depth (over_numbers n s) ≡ depth s
depth_over zero s = refl
depth_over (suc n) s = depth_over n (Operand Integer ∷ s)

-- of an actual whose copy does not go back
pub nothing_back : (o : Option Back) (from at below : ℕ) (e : Emitted) → o ≡ None → e ≡ lined (back_to o from at below) e
nothing_back o from at below e is = nothing e ∙ ap (λ x. lined (back_to x from at below) e) (sym is)

pub next_back : (a : ActualCode) (more : List ActualCode) (from at below next : ℕ) (e0 e1 : Emitted) → from ≡ length more + 1 → next ≡ below + numbers_of a.back → e1 ≡ lined (back_to a.back from at below) e0 → lined (backs_code more (at + 1) next) e1 ≡ lined (backs_code (a ∷ more) at below) e0
next_back a more from at below next e0 e1 long is h =
    let further = below + numbers_of a.back in
    ap (λ n. lined (backs_code more (at + 1) n) e1) is
    ∙ lined_both (back_to a.back (length more + 1) at below) (backs_code more (at + 1) further) e0 e1 (lined (backs_code more (at + 1) further) e1) (h ∙ ap (λ n. lined (back_to a.back n at below) e0) long) refl

pub no_back : (at below : ℕ) (e : Emitted) → e ≡ lined (backs_code [] at below) e
no_back at below e = nothing e

-- lines over so many numbers, which stand there no more then
pub over_numbered : (f : List Kind → List Line) (n : ℕ) (e0 e1 e2 e3 : Emitted) → e1 ≡ numbered n e0 → e2 ≡ lined f e1 → e3 ≡ left n e2 → e3 ≡ lined (λ s. f (over_numbers n s)) e0
over_numbered f n e0 e1 e2 e3 a b c =
    let s = e0.notes.standing in
    let top = over_numbers n s in
    let first : e1.notes.standing ≡ top = stands top e0 e1 a in
    let over : e2 ≡ appended (f top) [] top e1 = lined_at f top e1 e2 first b in
    let whole : e2 ≡ appended (f top) [] top e0 = stands_before (f top) [] top top e0 e1 e2 a over in
    stands_behind (f top) [] top s e0 e2 e3 whole
    (c ∙ ap (λ r. standing (drop n r) e2) (standing_is (f top) [] top e0 e2 whole) ∙ ap (λ r. standing r e2) (below_over n s))

-- the numbers stand there, copies go back, and they are dropped
pub copied_back_emitted : (n m k at : ℕ) (actuals : List ActualCode) (e0 e1 e2 e3 e4 : Emitted) → n ≡ numbers_in actuals + m → k ≡ length actuals → m ≡ k → e1 ≡ numbered n e0 → at ≡ height e1.notes.standing - m → e2 ≡ lined (backs_code actuals at k) e1 → e3 ≡ lined (one (InstrOf.Discard n)) e2 → e4 ≡ left n e3 → e4 ≡ lined (copied_back actuals n) e0
copied_back_emitted n m k at actuals e0 e1 e2 e3 e4 all long same_count a here b c d =
    let s = e0.notes.standing in
    let top = over_numbers n s in
    let first : e1.notes.standing ≡ top = stands top e0 e1 a in
    let cell : at ≡ height s + numbers_in actuals = let high = height_over n s in let same = ap height first in omega (arith, here, same, high, all) in
    over_numbered (λ r. backs_code actuals at k r ++ one (InstrOf.Discard n) r) n e0 e1 e3 e4 a (lined_both (backs_code actuals at k) (one (InstrOf.Discard n)) e1 e2 e3 b c) d
    ∙ ap (λ x. appended (backs_code actuals x k top ++ one (InstrOf.Discard n) top) [] s e0) cell
    ∙ ap (λ x. appended (backs_code actuals (height s + numbers_in actuals) x top ++ one (InstrOf.Discard n) top) [] s e0) long

-- where a copy goes back, and where none does
pub copies_emitted : (n : ℕ) (actuals : List ActualCode) (e0 e1 : Emitted) → n ≡ numbers_in actuals + length actuals → goes_back actuals ≡ true → e1 ≡ lined (copied_back actuals n) e0 → e1 ≡ lined (copies_code actuals) e0
copies_emitted n actuals e0 e1 long back h =
    let s = e0.notes.standing in
    h ∙ ap (λ m. lined (copied_back actuals m) e0) long ∙ ap (λ (b : Bool). appended (if b then copied_back actuals (numbers_in actuals + length actuals) s else []) [] s e0) (sym back)

pub no_copies_emitted : (actuals : List ActualCode) (e : Emitted) → goes_back actuals ≡ false → e ≡ lined (copies_code actuals) e
no_copies_emitted actuals e back =
    let s = e.notes.standing in
    nothing e ∙ ap (λ (b : Bool). appended (if b then copied_back actuals (numbers_in actuals + length actuals) s else []) [] s e) (sym back)

-- Calls -------------------------------------------------------------------------------------------

-- zeros that stand below actuals, if any
pub reserve_emitted : (n at : ℕ) (e0 e1 : Emitted) → 0 < n → at ≡ height e0.notes.standing → e1 ≡ lined (one (InstrOf.Reserve n at)) e0 → e1 ≡ lined (reserved_code n) e0
reserve_emitted zero at e0 e1 some here a = absurd (omega (arith, some))
reserve_emitted (suc n) at e0 e1 some here a = a ∙ ap (λ k. lined (one (InstrOf.Reserve (suc n) k)) e0) here

pub none_reserved : (n : ℕ) (e : Emitted) → n ≡ 0 → e ≡ lined (reserved_code n) e
none_reserved n e is = nothing e ∙ ap (λ k. lined (reserved_code k) e) (sym is)

-- actuals, and an instruction that takes them all
pub over_actuals : (i : Instr) (n : ℕ) (actuals : List ActualCode) (e0 e1 e2 e3 : Emitted) → n ≡ length actuals → e1 ≡ passed 0 actuals e0 → e2 ≡ lined (one i) e1 → e3 ≡ left n e2 → e3 ≡ lined (taking_actuals i actuals) e0
over_actuals i n actuals e0 e1 e2 e3 long a b c =
    let s = e0.notes.standing in
    let top = with_actuals actuals s in
    let lines = actuals_code 0 actuals s in
    let whole = in_two lines (one i top) [] [] top top e0 e1 e2 a (lined_at (one i) top e1 e2 (standing_is lines [] top e0 e1 a) b) in
    stands_behind (lines ++ one i top) [] top s e0 e2 e3 whole
    (c ∙ ap (λ r. standing (drop n r) e2) (standing_is (lines ++ one i top) [] top e0 e2 whole)
    ∙ ap (λ m. standing (drop m top) e2) long
    ∙ ap (λ r. standing r e2) (actuals_left actuals s))

-- and the numbers below them
pub reserved_emitted : (i : Instr) (n : ℕ) (actuals : List ActualCode) (e0 e1 e2 e3 e4 : Emitted) → n ≡ numbers_in actuals → e1 ≡ lined (reserved_code n) e0 → e2 ≡ numbered n e1 → e3 ≡ lined (taking_actuals i actuals) e2 → e4 ≡ left n e3 → e4 ≡ lined (reserving i actuals) e0
reserved_emitted i n actuals e0 e1 e2 e3 e4 all a b c d =
    lined_both (reserved_code n) (λ s. taking_actuals i actuals (over_numbers n s)) e0 e1 e4 a (over_numbered (taking_actuals i actuals) n e1 e2 e3 e4 b c d)
    ∙ ap (λ k. lined (λ s. reserved_code k s ++ taking_actuals i actuals (over_numbers k s)) e0) all

pub call_emitted : (f n copies : ℕ) (actuals : List ActualCode) (e0 e1 e2 : Emitted) → n ≡ length actuals → copies ≡ copies_of actuals → e1 ≡ lined (reserving (InstrOf.Call f n copies) actuals) e0 → e2 ≡ lined (copies_code actuals) e1 → e2 ≡ stated (call f actuals) None e0
call_emitted f n copies actuals e0 e1 e2 long back a b =
    lined_both (reserving (InstrOf.Call f (length actuals) (copies_of actuals)) actuals) (copies_code actuals) e0 e1 e2
    (a ∙ ap (λ m. lined (reserving (InstrOf.Call f m copies) actuals) e0) long
    ∙ ap (λ m. lined (reserving (InstrOf.Call f (length actuals) m) actuals) e0) back) b

-- it is the same wherever control lands
pub call_anywhere : (f : ℕ) (actuals : List ActualCode) (landing : Option ℕ) (e0 e1 : Emitted) → e1 ≡ stated (call f actuals) None e0 → e1 ≡ stated (call f actuals) landing e0
call_anywhere f actuals landing e0 e1 a = a

-- a function's value goes where it is wanted
pub function_emitted : (f n at : ℕ) (actuals : List ActualCode) (to : Cell) (ty : Ty) (e0 e1 e2 : Emitted) → n ≡ length actuals → at ≡ height e0.notes.standing → e1 ≡ lined (taking_actuals (InstrOf.Evaluate f n ty at) actuals) e0 → e2 ≡ lined (moved_to to ty) e1 → e2 ≡ lined ((function_call f actuals ty).code to ty) e0
function_emitted f n at actuals to ty e0 e1 e2 long here a b =
    lined_both (evaluates_code f actuals ty) (moved_to to ty) e0 e1 e2
    (a ∙ ap (λ m. lined (taking_actuals (InstrOf.Evaluate f m ty at) actuals) e0) long
    ∙ ap (λ k. lined (taking_actuals (InstrOf.Evaluate f (length actuals) ty k) actuals) e0) here) b

-- that of a record is a new operand
pub record_called : (f n at : ℕ) (actuals : List ActualCode) (t : ℕ) (e0 e1 : Emitted) → n ≡ length actuals → at ≡ height e0.notes.standing → e1 ≡ lined (taking_actuals (InstrOf.EvaluateRecord f n t at) actuals) e0 → e1 ≡ lined (record_call_code f actuals t) e0
record_called f n at actuals t e0 e1 long here a =
    a ∙ ap (λ m. lined (taking_actuals (InstrOf.EvaluateRecord f m t at) actuals) e0) long
    ∙ ap (λ k. lined (taking_actuals (InstrOf.EvaluateRecord f (length actuals) t k) actuals) e0) here

-- and any other one that a name begins with stands as an access value
pub access_called : (f : ℕ) (actuals : List ActualCode) (ty : Ty) (to : Cell) (e0 e1 : Emitted) → IsElementary ty → to ≡ new_operand e0.notes.standing → e1 ≡ lined ((function_call f actuals access_value).code to access_value) e0 → e1 ≡ lined (begun_code (given (function_call f actuals ty))) e0
access_called f actuals ty to e0 e1 is here a =
    of_elementary (λ u. e1 ≡ lined (begun_code (given (function_call f actuals u))) e0) there there there there there (λ k. there) ty is
  where
    there : e1 ≡ lined (λ s. (function_call f actuals access_value).code (new_operand s) access_value s) e0
    there = a ∙ ap (λ cell. lined ((function_call f actuals access_value).code cell access_value) e0) here
