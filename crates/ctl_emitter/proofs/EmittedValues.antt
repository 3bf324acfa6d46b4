-- What the emitter makes of an expression is its layout.
use Rattle.std.proofs.Common.{◌≡◌, ℕ, ◌-◌, List, [], ◌∷◌, ◌++◌, length, Option, Some, None, unwrap_or, option_map, ◌⊎◌, inl, inr, refl, sym, ap, ◌∙◌, subst}
use Rattle.ctl_program.specs.declared.types.Ty.{Ty}
use Rattle.ctl_program.specs.declared.types.Ty.TheVariants.{Boolean}
use Rattle.ctl_program.specs.declared.types.Ty.TheVariants as TyOf
use Rattle.ctl_program.specs.declared.types.Var.{Var}
use Rattle.ctl_program.specs.declared.operators.Shortcut.{Shortcut}
use Rattle.ctl_program.specs.declared.operators.UnaryOp.{UnaryOp}
use Rattle.ctl_code.specs.declared.code.Cell.{Cell}
use Rattle.ctl_code.specs.declared.code.Named.{Named}
use Rattle.ctl_code.specs.declared.code.Named.TheVariants as NamedOf
use Rattle.ctl_code.specs.declared.code.Instr.{Instr}
use Rattle.ctl_code.specs.declared.code.Operator.{Operator}
use Rattle.ctl_code.specs.declared.code.Instr.TheVariants as InstrOf
use Rattle.ctl_code.specs.declared.kinds.Kind.{Kind}
use Rattle.ctl_code.specs.declared.kinds.Kind.TheVariants.{Operand, RecordValue}
use Rattle.ctl_code.specs.Kinds.{below_newest}
use Rattle.ctl_code.specs.Valid.{over_numbers}
use Rattle.ctl_code.specs.Windows.{height}
use Rattle.ctl_layout.specs.declared.right.Right.{Right}
use Rattle.ctl_layout.specs.declared.right.Right.TheVariants as RightOf
use Rattle.ctl_layout.specs.Around.{Line, local_at, local_cell, new_operand}
use Rattle.ctl_layout.specs.Parts.{Reached, Variable, Part, Object, Result}
use Rattle.ctl_emitter.specs.Emitted.{Emitted, appended, holding, kept, lined, one, set_at, standing, taking, without}
use Rattle.ctl_layout.specs.Values.{ValueCode, OperatorCode, Held, address_numbers, allocator_code, binary_code, chain, evaluated, first_type, given_code, held, held_by, in_cell, left_held, moved_to, new, new_given, next_target, operator_by, operator_for, operator_code, operators_code, other_code, others_code, read, short, unary_code}
use Rattle.ctl_emitter.proofs.Emission.{counted_behind, held_taken, in_two, lined_at, lined_both, nothing, stands, stands_before, stands_behind, standing_is, written_anew}

-- another name of the same value
pub value_emitted : (to : Cell) (ty : Ty) (x y : ValueCode) (e0 e1 : Emitted) → x ≡ y → e1 ≡ lined (y.code to ty) e0 → e1 ≡ lined (x.code to ty) e0
value_emitted to ty x y e0 e1 same a = a ∙ ap (λ z. lined (z.code to ty) e0) (sym same)

-- a value is read alike, whatever its type
pub read_emitted : (o : Option Reached) (own ty : Ty) (to : Cell) (e0 e1 : Emitted) → e1 ≡ lined ((read o ty).code to ty) e0 → e1 ≡ lined ((read o own).code to ty) e0
read_emitted None own ty to e0 e1 a = a
read_emitted (Some (Variable v)) own ty to e0 e1 a = a
read_emitted (Some (Part v steps t position)) own ty to e0 e1 a = a
read_emitted (Some (Object v steps)) own ty to e0 e1 a = a
read_emitted (Some (Result b)) own ty to e0 e1 a = a

-- an instruction that takes the value of a cell
pub taken_is : (i : Instr) (cell : Cell) (e0 e1 e2 : Emitted) → e1 ≡ lined (one i) e0 → e2 ≡ standing (without cell.named e1.notes.standing) e1 → e2 ≡ taking i cell e0
taken_is i cell e0 e1 e2 a b =
    let s = e0.notes.standing in
    stands_behind (one i s) [] s (without cell.named s) e0 e1 e2 a (b ∙ ap (λ r. standing (without cell.named r) e1) (standing_is (one i s) [] s e0 e1 a))

-- Operands where they are found -------------------------------------------------------------------

pub evaluated_emitted : (x : ValueCode) (ty : Ty) (to : Cell) (e0 e1 e2 : Emitted) → to ≡ new_operand e0.notes.standing → e1 ≡ lined (x.code to ty) e0 → e2 ≡ standing (Operand ty ∷ e1.notes.standing) e1 → e2 ≡ holding (evaluated x ty) e0
evaluated_emitted x ty to e0 e1 e2 at a b =
    let s = e0.notes.standing in
    stands_behind (x.code (new_operand s) ty s) [] s (Operand ty ∷ s) e0 e1 e2 (a ∙ ap (λ c. lined (x.code c ty) e0) at)
    (b ∙ ap (λ r. standing (Operand ty ∷ r) e1) (standing_is (x.code to ty s) [] s e0 e1 a))

-- Allocators (4.8) ---------------------------------------------------------------------------------

abbrev pub IsElementary : Ty → Type 0
IsElementary ty = (ty ≡ TyOf.Integer) ⊎ ((ty ≡ TyOf.Count) ⊎ ((ty ≡ TyOf.Boolean) ⊎ ((ty ≡ TyOf.Address) ⊎ ((ty ≡ TyOf.Handle) ⊎ ((a : ℕ) × (ty ≡ TyOf.Access a))))))

-- what holds of each of them
pub of_elementary : (P : Ty → Type 0) → P TyOf.Integer → P TyOf.Count → P TyOf.Boolean → P TyOf.Address → P TyOf.Handle → ((a : ℕ) → P (TyOf.Access a)) → (ty : Ty) → IsElementary ty → P ty
of_elementary P integer count boolean address handle access ty (inl is) = subst P (sym is) integer
of_elementary P integer count boolean address handle access ty (inr (inl is)) = subst P (sym is) count
of_elementary P integer count boolean address handle access ty (inr (inr (inl is))) = subst P (sym is) boolean
of_elementary P integer count boolean address handle access ty (inr (inr (inr (inl is)))) = subst P (sym is) address
of_elementary P integer count boolean address handle access ty (inr (inr (inr (inr (inl is))))) = subst P (sym is) handle
of_elementary P integer count boolean address handle access ty (inr (inr (inr (inr (inr (a, is)))))) = subst P (sym is) (access a)

-- what makes an object, whose access value is a new operand
pub allocator_emitted : (access at : ℕ) (of ty : Ty) (e0 e1 e2 : Emitted) → at ≡ height e0.notes.standing → e1 ≡ lined (one (InstrOf.New access of ty at)) e0 → e2 ≡ lined (λ s. (InstrOf.NewIn of ty at, over_numbers address_numbers s) ∷ []) e1 → e2 ≡ lined (allocator_code access of ty) e0
allocator_emitted access at of ty e0 e1 e2 here a b =
    let s = e0.notes.standing in
    lined_both (one (InstrOf.New access of ty at)) (λ r. one (InstrOf.NewIn of ty at) (over_numbers address_numbers r)) e0 e1 e2 a b
    ∙ ap (λ k. appended ((InstrOf.New access of ty k, s) ∷ (InstrOf.NewIn of ty k, over_numbers address_numbers s) ∷ []) [] s e0) here

-- one without a value
pub new_emitted : (access : ℕ) (of : Ty) (to : Cell) (ty : Ty) (e0 e1 e2 e3 : Emitted) → e1 ≡ lined (one (InstrOf.Skip 0)) e0 → e2 ≡ lined (allocator_code access of ty) e1 → e3 ≡ lined (moved_to to ty) e2 → e3 ≡ lined ((new access of None None).code to ty) e0
new_emitted access of to ty e0 e1 e2 e3 a b c =
    lined_both (one (InstrOf.Skip 0)) (λ r. allocator_code access of ty r ++ moved_to to ty r) e0 e1 e3 a
    (lined_both (allocator_code access of ty) (moved_to to ty) e1 e2 e3 b c)

-- one of an elementary type, which is made over its value
pub allocated_with : (access : ℕ) (of : Ty) (x : ValueCode) (at : ℕ) (to : Cell) (ty : Ty) (e0 e1 e2 e3 e4 e5 e6 : Emitted) → at ≡ height e0.notes.standing → e1 ≡ lined (one (InstrOf.Skip 0)) e0 → e2 ≡ holding (evaluated x of) e1 → e3 ≡ lined (allocator_code access of ty) e2 → e4 ≡ lined (λ s. (InstrOf.GiveValue of ty at, Operand ty ∷ s) ∷ []) e3 → e5 ≡ standing (below_newest e4.notes.standing) e4 → e6 ≡ lined (moved_to to ty) e5 → e6 ≡ lined ((new_given access of x).code to ty) e0
allocated_with access of x at to ty e0 e1 e2 e3 e4 e5 e6 here a b c d f g =
    let s = e1.notes.standing in
    let top = Operand of ∷ s in
    let value = x.code (new_operand s) of s in
    let first = one (InstrOf.Skip 0) in
    let gives = λ (n : ℕ) (r : List Kind). one (InstrOf.GiveValue of ty n) (Operand ty ∷ r) in
    let made = value ++ allocator_code access of ty top in
    let lines = made ++ gives at top in
    let here_made : e3 ≡ appended made [] top e1 = in_two value (allocator_code access of ty top) [] [] top top e1 e2 e3 b (lined_at (allocator_code access of ty) top e2 e3 (standing_is value [] top e1 e2 b) c) in
    let whole : e4 ≡ appended lines [] top e1 = in_two made (gives at top) [] [] top top e1 e3 e4 here_made (lined_at (gives at) top e3 e4 (standing_is made [] top e1 e3 here_made) d) in
    let bare : e5 ≡ appended lines [] s e1 = stands_behind lines [] top s e1 e4 e5 whole (f ∙ ap (λ r. standing (below_newest r) e4) (standing_is lines [] top e1 e4 whole)) in
    let below : at ≡ height s = here ∙ ap height (sym (standing_is (first e0.notes.standing) [] e0.notes.standing e0 e1 a)) in
    let given : e5 ≡ lined (given_code access of x ty) e1 = bare ∙ ap (λ n. appended (made ++ gives n top) [] s e1) below in
    lined_both first (λ r. given_code access of x ty r ++ moved_to to ty r) e0 e1 e6 a
    (lined_both (given_code access of x ty) (moved_to to ty) e1 e5 e6 given g)

-- which is what there is for a value that is no record
given_is : (access : ℕ) (of : Ty) (x : ValueCode) → IsElementary of → new_given access of x ≡ new access of None (Some x)
given_is access of x = of_elementary (λ t. new_given access t x ≡ new access t None (Some x)) refl refl refl refl refl (λ a. refl) of

pub elementary_given : (access : ℕ) (of : Ty) (x : ValueCode) (to : Cell) (ty : Ty) (e0 e1 : Emitted) → IsElementary of → e1 ≡ lined ((new_given access of x).code to ty) e0 → e1 ≡ lined ((new access of None (Some x)).code to ty) e0
elementary_given access of x to ty e0 e1 is a = a ∙ ap (λ (v : ValueCode). lined (v.code to ty) e0) (given_is access of x is)

-- two operands of one type, one after the other
pub two_evaluated : (ty : Ty) (x y : ValueCode) (e0 e1 e2 : Emitted) → e1 ≡ holding (evaluated x ty) e0 → e2 ≡ holding (evaluated y ty) e1 → e2 ≡ appended (x.code (new_operand e0.notes.standing) ty e0.notes.standing ++ y.code (new_operand (Operand ty ∷ e0.notes.standing)) ty (Operand ty ∷ e0.notes.standing)) [] (Operand ty ∷ Operand ty ∷ e0.notes.standing) e0
two_evaluated ty x y e0 e1 e2 a b =
    let s = e0.notes.standing in
    let top = Operand ty ∷ s in
    in_two (x.code (new_operand s) ty s) (y.code (new_operand top) ty top) [] [] top (Operand ty ∷ top) e0 e1 e2 a
    (b ∙ ap (λ r. appended (y.code (new_operand r) ty r) [] (Operand ty ∷ r) e1) (standing_is (x.code (new_operand s) ty s) [] top e0 e1 a))

-- lines that leave two operands, and an instruction that takes them
pub two_taken : (ty : Ty) (lines : List Line) (i : Instr) (e0 e1 e2 e3 e4 : Emitted) → e1 ≡ appended lines [] (Operand ty ∷ Operand ty ∷ e0.notes.standing) e0 → e2 ≡ lined (one i) e1 → e3 ≡ standing (below_newest e2.notes.standing) e2 → e4 ≡ standing (below_newest e3.notes.standing) e3 → e4 ≡ appended (lines ++ (i, Operand ty ∷ Operand ty ∷ e0.notes.standing) ∷ []) [] e0.notes.standing e0
two_taken ty lines i e0 e1 e2 e3 e4 a b c d =
    let s = e0.notes.standing in
    let top = Operand ty ∷ s in
    let two = Operand ty ∷ top in
    let all = lines ++ (i, two) ∷ [] in
    let whole : e2 ≡ appended all [] two e0 = in_two lines ((i, two) ∷ []) [] [] two two e0 e1 e2 a (lined_at (one i) two e1 e2 (standing_is lines [] two e0 e1 a) b) in
    let bare : e3 ≡ appended all [] top e0 = stands_behind all [] two top e0 e2 e3 whole (c ∙ ap (λ r. standing (below_newest r) e2) (standing_is all [] two e0 e2 whole)) in
    stands_behind all [] top s e0 e3 e4 bare (d ∙ ap (λ r. standing (below_newest r) e3) (standing_is all [] top e0 e3 bare))

abbrev stays : Cell → List Kind → Held
stays c s = record { code = []; cell = c; after = s }

in_cell_stays : (o : Option ℕ) (v : Var) (x : ValueCode) (ty : Ty) (s : List Kind) (c : Cell) → option_map (local_cell s v) o ≡ Some c → in_cell o v x ty s ≡ stays c s
in_cell_stays None v x ty s c h = absurd (cc)
in_cell_stays (Some at) v x ty s c h = ap (λ k. stays k s) (ap (λ o. unwrap_or o c) h)

kept_by : (r : Right) (x : ValueCode) (ty : Ty) (s : List Kind) (c : Cell) → kept r s ≡ Some c → held_by r x ty s ≡ stays c s
kept_by (RightOf.Constant n) x ty s c h = absurd (cc)
kept_by (RightOf.Variable v) x ty s c h = in_cell_stays (local_at s v) v x ty s c h
kept_by RightOf.Evaluated x ty s c h = absurd (cc)

-- an operand that stays where it is
pub kept_emitted : (x : ValueCode) (ty : Ty) (c : Cell) (e : Emitted) → kept x.right e.notes.standing ≡ Some c → e ≡ holding (held x ty) e
kept_emitted x ty c e h = nothing e ∙ ap (λ (k : Held). appended k.code [] k.after e) (sym (kept_by x.right x ty e.notes.standing c h))

-- without what was found there stands what stood before
in_cell_back : (o : Option ℕ) (v : Var) (x : ValueCode) (ty : Ty) (s : List Kind) → without (in_cell o v x ty s).cell.named (in_cell o v x ty s).after ≡ s
in_cell_back None v x ty s = refl
in_cell_back (Some at) v x ty s = refl

back_by : (r : Right) (x : ValueCode) (ty : Ty) (s : List Kind) → without (held_by r x ty s).cell.named (held_by r x ty s).after ≡ s
back_by (RightOf.Constant n) x ty s = refl
back_by (RightOf.Variable v) x ty s = in_cell_back (local_at s v) v x ty s
back_by RightOf.Evaluated x ty s = refl

pub held_back : (x : ValueCode) (ty : Ty) (s : List Kind) → without (held x ty s).cell.named (held x ty s).after ≡ s
held_back x ty s = back_by x.right x ty s

left_back : (r : Right) (x : ValueCode) (ty : Ty) (s : List Kind) → without (left_held r x ty s).cell.named (left_held r x ty s).after ≡ s
left_back (RightOf.Constant n) x ty s = held_back x ty s
left_back (RightOf.Variable v) x ty s = held_back x ty s
left_back RightOf.Evaluated x ty s = refl

-- an instruction that takes an operand
pub operand_taken : (x : ValueCode) (ty : Ty) (i : Instr) (cell : Cell) (e0 e1 e2 : Emitted) → e1 ≡ holding (held x ty) e0 → cell ≡ (held x ty e0.notes.standing).cell → e2 ≡ taking i cell e1 → e2 ≡ lined (λ s. (held x ty s).code ++ (i, (held x ty s).after) ∷ []) e0
operand_taken x ty i cell e0 e1 e2 a at b = held_taken (held x ty) i cell e0 e1 e2 (held_back x ty e0.notes.standing) a at b

-- Operators ---------------------------------------------------------------------------------------

pub unary_emitted : (op : UnaryOp) (operand ty : Ty) (x : ValueCode) (to cell : Cell) (e0 e1 e2 : Emitted) → e1 ≡ holding (held x operand) e0 → cell ≡ (held x operand e0.notes.standing).cell → e2 ≡ taking (InstrOf.Unary op operand ty cell to) cell e1 → e2 ≡ lined (λ s. unary_code op operand ty to (held x operand s)) e0
unary_emitted op operand ty x to cell e0 e1 e2 a found b =
    operand_taken x operand (InstrOf.Unary op operand ty cell to) cell e0 e1 e2 a found b
    ∙ ap (λ k. lined (λ s. (held x operand s).code ++ (InstrOf.Unary op operand ty k to, (held x operand s).after) ∷ []) e0) found

pub constant_emitted : (o : OperatorCode) (left : Cell) (ty : Ty) (to : Cell) (n : ℕ) (e0 e1 : Emitted) → o.right.right ≡ RightOf.Constant n → e1 ≡ lined (operator_by (RightOf.Constant n) o left ty to) e0 → e1 ≡ lined (operator_code o left ty to) e0
constant_emitted o left ty to n e0 e1 is a = a ∙ ap (λ r. lined (operator_by r o left ty to) e0) (sym is)

pub variable_emitted : (o : OperatorCode) (left : Cell) (ty : Ty) (to : Cell) (v : Var) (e0 e1 : Emitted) → o.right.right ≡ RightOf.Variable v → e1 ≡ lined (λ s. binary_code o left ty to (held o.right ty s)) e0 → e1 ≡ lined (operator_code o left ty to) e0
variable_emitted o left ty to v e0 e1 is a = a ∙ ap (λ r. lined (operator_by r o left ty to) e0) (sym is)

pub evaluated_right : (o : OperatorCode) (left : Cell) (ty : Ty) (to : Cell) (e0 e1 : Emitted) → o.right.right ≡ RightOf.Evaluated → e1 ≡ lined (λ s. binary_code o left ty to (held o.right ty s)) e0 → e1 ≡ lined (operator_code o left ty to) e0
evaluated_right o left ty to e0 e1 is a = a ∙ ap (λ r. lined (operator_by r o left ty to) e0) (sym is)

-- a right operand that is no constant
pub binary_emitted : (o : OperatorCode) (r : Right) (op : Operator) (left cell : Cell) (ty : Ty) (to : Cell) (e0 e1 e2 : Emitted) → ((v : Var) × (r ≡ RightOf.Variable v)) ⊎ (r ≡ RightOf.Evaluated) → o.right.right ≡ r → op ≡ operator_for o ty → e1 ≡ holding (held o.right ty) e0 → cell ≡ (held o.right ty e0.notes.standing).cell → e2 ≡ taking (InstrOf.Binary op left cell to) cell e1 → e2 ≡ lined (operator_code o left ty to) e0
binary_emitted o r op left cell ty to e0 e1 e2 which is same a found b = by which
  where
    whole : e2 ≡ lined (λ s. binary_code o left ty to (held o.right ty s)) e0
    whole =
        operand_taken o.right ty (InstrOf.Binary op left cell to) cell e0 e1 e2 a found b
        ∙ ap (λ k. lined (λ s. (held o.right ty s).code ++ (InstrOf.Binary op left k to, (held o.right ty s).after) ∷ []) e0) found
        ∙ ap (λ k. lined (λ s. (held o.right ty s).code ++ (InstrOf.Binary k left (held o.right ty e0.notes.standing).cell to, (held o.right ty s).after) ∷ []) e0) same

    by : ((v : Var) × (r ≡ RightOf.Variable v)) ⊎ (r ≡ RightOf.Evaluated) → e2 ≡ lined (operator_code o left ty to) e0
    by (inl (v, at)) = variable_emitted o left ty to v e0 e2 (is ∙ at) whole
    by (inr at) = evaluated_right o left ty to e0 e2 (is ∙ at) whole

-- operators over a new operand of this type
abbrev pub over_new : Ty → List OperatorCode → Cell → List Kind → List Line
over_new ty os to s = operators_code s (new_operand s) (Operand ty ∷ s) ty os to

-- lines over a new operand
pub over_operand : (lines : List Kind → List Line) (kind : Kind) (e0 e1 e2 e3 : Emitted) → e1 ≡ standing (kind ∷ e0.notes.standing) e0 → e2 ≡ lined lines e1 → e3 ≡ standing (below_newest e2.notes.standing) e2 → e3 ≡ lined (λ s. lines (kind ∷ s)) e0
over_operand lines kind e0 e1 e2 e3 a b c =
    let s = e0.notes.standing in
    let over = lines (kind ∷ s) in
    let first = lined_at lines (kind ∷ s) e1 e2 (stands (kind ∷ s) e0 e1 a) b in
    stands_before over [] s (kind ∷ s) e0 e1 e3 a
    (stands_behind over [] (kind ∷ s) s e1 e2 e3 first (c ∙ ap (λ r. standing (below_newest r) e2) (standing_is over [] (kind ∷ s) e1 e2 first)))

-- an operator over a new operand
pub further_emitted : (o : OperatorCode) (ty : Ty) (left to : Cell) (e0 e1 e2 e3 : Emitted) → left ≡ new_operand e0.notes.standing → e1 ≡ standing (Operand ty ∷ e0.notes.standing) e0 → e2 ≡ lined (operator_code o left ty to) e1 → e3 ≡ standing (below_newest e2.notes.standing) e2 → e3 ≡ lined (λ s. operator_code o (new_operand s) ty to (Operand ty ∷ s)) e0
further_emitted o ty left to e0 e1 e2 e3 at a b c =
    let s = e0.notes.standing in
    over_operand (operator_code o left ty to) (Operand ty) e0 e1 e2 e3 a b c
    ∙ ap (λ k. appended (operator_code o k ty to (Operand ty ∷ s)) [] s e0) at

pub next_operator : (o : OperatorCode) (os : List OperatorCode) (ty : Ty) (target to : Cell) (e0 e1 : Emitted) → target ≡ next_target os to e0.notes.standing → e1 ≡ lined (λ s. operator_code o (new_operand s) ty target (Operand ty ∷ s)) e0 → lined (over_new o.ty os to) e1 ≡ lined (over_new ty (o ∷ os) to) e0
next_operator o os ty target to e0 e1 at a =
    lined_both (λ s. operator_code o (new_operand s) ty (next_target os to s) (Operand ty ∷ s)) (over_new o.ty os to) e0 e1 (lined (over_new o.ty os to) e1)
    (a ∙ ap (λ c. lined (λ s. operator_code o (new_operand s) ty c (Operand ty ∷ s)) e0) at) refl

pub no_operator : (ty : Ty) (to : Cell) (e : Emitted) → e ≡ lined (over_new ty [] to) e
no_operator ty to e = nothing e

pub chain_emitted : (x : ValueCode) (o : OperatorCode) (more : List OperatorCode) (left target to : Cell) (ty t : Ty) (e0 e1 e2 e3 e4 : Emitted) → ty ≡ first_type x o → e1 ≡ holding (left_held o.right.right x ty) e0 → left ≡ (left_held o.right.right x ty e0.notes.standing).cell → target ≡ next_target more to e0.notes.standing → e2 ≡ lined (operator_code o left ty target) e1 → e3 ≡ standing (without left.named e2.notes.standing) e2 → e4 ≡ lined (over_new o.ty more to) e3 → e4 ≡ lined ((chain x o more).code to t) e0
chain_emitted x o more left target to ty t e0 e1 e2 e3 e4 same a at goes b c d =
    let s = e0.notes.standing in
    let r = o.right.right in
    let own = first_type x o in
    let h = left_held r x own s in
    let lines = operator_code o h.cell own (next_target more to s) h.after in
    let found : e1 ≡ appended h.code [] h.after e0 = a ∙ ap (λ k. holding (left_held r x k) e0) same in
    let cell : left ≡ h.cell = at ∙ ap (λ k. (left_held r x k s).cell) same in
    let first : e2 ≡ appended lines [] h.after e1 =
    lined_at (operator_code o left ty target) h.after e1 e2 (standing_is h.code [] h.after e0 e1 found) b
    ∙ ap (λ k. appended (operator_code o k ty target h.after) [] h.after e1) cell
    ∙ ap (λ k. appended (operator_code o h.cell k target h.after) [] h.after e1) same
    ∙ ap (λ k. appended (operator_code o h.cell own k h.after) [] h.after e1) goes in
    let bare : e3 ≡ appended lines [] s e1 =
    stands_behind lines [] h.after s e1 e2 e3 first
    (c ∙ ap (λ k. standing (without left.named k) e2) (standing_is lines [] h.after e1 e2 first)
    ∙ ap (λ (k : Cell). standing (without k.named h.after) e2) cell
    ∙ ap (λ k. standing k e2) (left_back r x own s)) in
    in_two h.code (lines ++ over_new o.ty more to s) [] [] h.after s e0 e1 e4 found
    (in_two lines (over_new o.ty more to s) [] [] s s e1 e3 e4 bare (lined_at (over_new o.ty more to) s e3 e4 (standing_is lines [] s e1 e3 bare) d))

-- Short-circuit forms -----------------------------------------------------------------------------

-- an instruction over a new operand
pub over_emitted : (ty : Ty) (i : Instr) (e0 e1 e2 e3 : Emitted) → e1 ≡ standing (Operand ty ∷ e0.notes.standing) e0 → e2 ≡ lined (one i) e1 → e3 ≡ standing (below_newest e2.notes.standing) e2 → e3 ≡ lined (λ s. (i, Operand ty ∷ s) ∷ []) e0
over_emitted ty i e0 e1 e2 e3 a b c = over_operand (one i) (Operand ty) e0 e1 e2 e3 a b c

-- one over the value of a record and what an Allocate left
pub over_value_emitted : (i : Instr) (e0 e1 e2 e3 : Emitted) → e1 ≡ standing (RecordValue ∷ e0.notes.standing) e0 → e2 ≡ lined (λ s. (i, over_numbers address_numbers s) ∷ []) e1 → e3 ≡ standing (below_newest e2.notes.standing) e2 → e3 ≡ lined (λ s. (i, over_numbers address_numbers (RecordValue ∷ s)) ∷ []) e0
over_value_emitted i e0 e1 e2 e3 a b c = over_operand (λ s. (i, over_numbers address_numbers s) ∷ []) RecordValue e0 e1 e2 e3 a b c

pub other_emitted : (form : Shortcut) (x : ValueCode) (to : Cell) (e0 e1 e2 e3 : Emitted) (head : ℕ) → head ≡ length e0.instructions → to ≡ new_operand e0.notes.standing → e1 ≡ lined (λ s. (InstrOf.Decide form to.at 0, Operand Boolean ∷ s) ∷ []) e0 → e2 ≡ lined (x.code to Boolean) e1 → e3 ≡ set_at head (InstrOf.Decide form to.at (length e2.instructions - head - 1)) e2 → e3 ≡ lined (other_code form x) e0
other_emitted form x to e0 e1 e2 e3 head place at a b c =
    let s = e0.notes.standing in
    let top = Operand Boolean ∷ s in
    let lines = x.code to Boolean s in
    let whole : e2 ≡ appended ((InstrOf.Decide form to.at 0, top) ∷ lines) [] s e0 =
    in_two ((InstrOf.Decide form to.at 0, top) ∷ []) lines [] [] s s e0 e1 e2 a (lined_at (x.code to Boolean) s e1 e2 (standing_is ((InstrOf.Decide form to.at 0, top) ∷ []) [] s e0 e1 a) b) in
    written_anew (InstrOf.Decide form to.at 0) (InstrOf.Decide form to.at (length e2.instructions - head - 1)) top s lines [] e0 e2 e3 head place whole c
    ∙ ap (λ n. appended ((InstrOf.Decide form to.at n, top) ∷ lines) [] s e0) (counted_behind (InstrOf.Decide form to.at 0) top s lines [] e0 e2 head place whole)
    ∙ ap (λ (k : Cell). appended ((InstrOf.Decide form k.at (length (x.code k Boolean s)), top) ∷ x.code k Boolean s) [] s e0) at

pub next_other : (form : Shortcut) (x : ValueCode) (xs : List ValueCode) (e0 e1 : Emitted) → e1 ≡ lined (other_code form x) e0 → lined (others_code form xs) e1 ≡ lined (others_code form (x ∷ xs)) e0
next_other form x xs e0 e1 a = lined_both (other_code form x) (others_code form xs) e0 e1 (lined (others_code form xs) e1) a refl

pub no_other : (form : Shortcut) (e : Emitted) → e ≡ lined (others_code form []) e
no_other form e = nothing e

pub short_emitted : (form : Shortcut) (x y : ValueCode) (more : List ValueCode) (base to : Cell) (t : Ty) (e0 e1 e2 e3 e4 : Emitted) → base ≡ new_operand e0.notes.standing → e1 ≡ lined (x.code base Boolean) e0 → e2 ≡ lined (other_code form y) e1 → e3 ≡ lined (others_code form more) e2 → e4 ≡ lined (moved_to to Boolean) e3 → e4 ≡ lined ((short form x y more).code to t) e0
short_emitted form x y more base to t e0 e1 e2 e3 e4 at a b c d =
    let first = λ (s : List Kind). x.code (new_operand s) Boolean s in
    let rest = λ (s : List Kind). other_code form y s ++ others_code form more s in
    lined_both (λ s. first s ++ rest s) (moved_to to Boolean) e0 e3 e4
    (lined_both first rest e0 e1 e3 (a ∙ ap (λ k. lined (x.code k Boolean) e0) at) (lined_both (other_code form y) (others_code form more) e1 e2 e3 b c)) d

-- an operand is already where it is wanted
pub not_moved : (to : Cell) (ty : Ty) (e : Emitted) → to.named ≡ NamedOf.Operand → e ≡ lined (moved_to to ty) e
not_moved to ty e is = nothing e ∙ ap (λ (n : Named). lined (moved_to (record { at = to.at; named = n }) ty) e) (sym is)
