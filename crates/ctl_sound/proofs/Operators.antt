-- What operators make is well typed.
use Rattle.std.proofs.Common.{◌≡◌, refl, sym, ap, subst, Bool, true, false, ◌&&◌, not, if◌then◌else◌, List, [], ◌∷◌, ◌++◌, map, Option, Some, None}
use Rattle.std.proofs.lemmas.List.{append-nil}
use Rattle.ctl_tree.specs.declared.span.Span.{Span}
use Rattle.ctl_tree.specs.declared.fault.FaultCode.TheVariants as fault
use Rattle.ctl_program.specs.declared.types.Ty.{Ty}
use Rattle.ctl_program.specs.declared.types.Ty.TheVariants as ty
use Rattle.ctl_program.specs.declared.expression.Expr.{Expr}
use Rattle.ctl_program.specs.declared.expression.Expr.TheVariants as e
use Rattle.ctl_program.specs.declared.expression.Operand.{Operand as Checked_operand}
use Rattle.ctl_program.specs.declared.operators.BinaryOp.{BinaryOp}
use Rattle.ctl_program.specs.declared.operators.BinaryOp.TheVariants as op
use Rattle.ctl_syntax.specs.declared.operators.Operand.{Operand}
use Rattle.ctl_syntax.specs.declared.operators.ArithmeticOperator.{ArithmeticOperator}
use Rattle.ctl_syntax.specs.declared.operators.ArithmeticOperator.TheVariants as arithmetic
use Rattle.ctl_syntax.specs.declared.operators.RelationalOperator.{RelationalOperator}
use Rattle.ctl_syntax.specs.declared.operators.RelationalOperator.TheVariants as relational
use Rattle.ctl_syntax.specs.declared.operators.LogicalOperator.{LogicalOperator}
use Rattle.ctl_syntax.specs.declared.operators.LogicalOperator.TheVariants as logical
use Rattle.ctl_syntax.specs.declared.operators.UnaryOperator.{UnaryOperator}
use Rattle.ctl_syntax.specs.declared.operators.UnaryOperator.TheVariants as unary
use Rattle.ctl_typing.specs.declared.table.Tables.{Tables}
use Rattle.ctl_typing.specs.declared.found.Asked.{Asked}
use Rattle.ctl_typing.specs.declared.found.Asked.TheVariants as asking
use Rattle.ctl_typing.specs.declared.found.Adopts.{Adopts}
use Rattle.ctl_typing.specs.declared.found.Adopts.TheVariants as adopting
use Rattle.ctl_typing.specs.declared.found.Typed.{Typed as Typed_value}
use Rattle.ctl_typing.specs.declared.found.Found.{Found}
use Rattle.ctl_typing.specs.Judgement.{Judgement, known, wrong, ◌>>=◌, both, following}
use Rattle.ctl_typing.specs.Typing as spec
use Rattle.ctl_typing.specs.Typing.{Sense, Split, meets, adopted}
use Rattle.ctl_well_typed.specs.Setting.{Frames, Setting, InView}
use Rattle.ctl_well_typed.specs.Types as types
use Rattle.ctl_well_typed.specs.Types.{is_number, is_scalar, Takes, Joins}
use Rattle.ctl_well_typed.specs.Expressions as rule
use Rattle.ctl_well_typed.specs.Expressions.{Typed, Truths, Chains}
use Rattle.ctl_sound.specs.Known.{IfSome, Gives, All}
use Rattle.ctl_sound.specs.Sound.{Sound, AskedFine, Fine, Good}
use Rattle.ctl_sound.proofs.Known.{next, both_give, following_give, each_gives, joined}
use Rattle.ctl_sound.proofs.Layers.{OperandOf}
use Rattle.ctl_sound.proofs.Tests.{same_is, number_is, order_is, comparable_is, number_scalar, number_in_view, adopted_number}
use Rattle.ctl_sound.proofs.Names.{fits_good}

operator_arithmetic : (o : ArithmeticOperator) → types.is_arithmetic (spec.operator_of o) ≡ true
operator_arithmetic arithmetic.Plus = refl
operator_arithmetic arithmetic.Minus = refl
operator_arithmetic arithmetic.Concatenate = refl
operator_arithmetic arithmetic.Times = refl
operator_arithmetic arithmetic.Divide = refl
operator_arithmetic arithmetic.Mod = refl
operator_arithmetic arithmetic.Rem = refl

-- what is comparable and ordered is compared by each operator
compares : (o : RelationalOperator) (t : Ty) → meets asking.Comparable t ≡ true → meets asking.Ordered t ≡ true → meets (spec.compared o) t ≡ true
compares relational.Equal t c d = c
compares relational.NotEqual t c d = c
compares relational.Less t c d = d
compares relational.LessEqual t c d = d
compares relational.Greater t c d = d
compares relational.GreaterEqual t c d = d

number_compares : (o : RelationalOperator) (t : Ty) → meets asking.Number t ≡ true → meets (spec.compared o) t ≡ true
number_compares o ty.Integer h = compares o ty.Integer refl refl
number_compares o ty.Count h = compares o ty.Count refl refl
number_compares o t h = absurd (cc)

-- what is asked beside a literal is what the comparison takes
beside_meets : (o : RelationalOperator) (a : Adopts) (t : Ty) → meets (spec.asked_beside o a) t ≡ true → meets (spec.compared o) t ≡ true
beside_meets o adopting.Numbers t h = number_compares o t h
beside_meets o adopting.Accesses t h = h
beside_meets o adopting.Nothing t h = h

relation_joins : (o : RelationalOperator) (t : Ty) → meets (spec.compared o) t ≡ true → Joins (spec.comparison o) t ty.Boolean
relation_joins relational.Equal t h = types.equality refl (comparable_is t h)
relation_joins relational.NotEqual t h = types.equality refl (comparable_is t h)
relation_joins relational.Less t h = types.ordering refl (order_is t h)
relation_joins relational.LessEqual t h = types.ordering refl (order_is t h)
relation_joins relational.Greater t h = types.ordering refl (order_is t h)
relation_joins relational.GreaterEqual t h = types.ordering refl (order_is t h)

adopted_is : (asked : Asked) (t : Ty) → meets (asking.Exactly (adopted asked)) t ≡ true → is_number t ≡ true
adopted_is asked t h = subst (λ u. is_number u ≡ true) (same_is (adopted asked) t h) (adopted_number asked)

unary_takes : (o : UnaryOperator) (asked : Asked) (a : Adopts) (t : Ty) → meets (spec.asked_by_one o asked a) t ≡ true → Takes (spec.unary_of o) t × (is_scalar t ≡ true)
unary_takes unary.Not asked a t h = subst (λ u. Takes (spec.unary_of unary.Not) u × (is_scalar u ≡ true)) (same_is ty.Boolean t h) (types.negation, refl)
unary_takes unary.Plus asked adopting.Nothing t h = (types.plus (number_is t h), number_scalar t (number_is t h))
unary_takes unary.Plus asked adopting.Numbers t h = (types.plus (adopted_is asked t h), number_scalar t (adopted_is asked t h))
unary_takes unary.Plus asked adopting.Accesses t h = (types.plus (adopted_is asked t h), number_scalar t (adopted_is asked t h))
unary_takes unary.Minus asked adopting.Nothing t h = (types.minus (number_is t h), number_scalar t (number_is t h))
unary_takes unary.Minus asked adopting.Numbers t h = (types.minus (adopted_is asked t h), number_scalar t (adopted_is asked t h))
unary_takes unary.Minus asked adopting.Accesses t h = (types.minus (adopted_is asked t h), number_scalar t (adopted_is asked t h))
unary_takes unary.Abs asked adopting.Nothing t h = (types.absolute (number_is t h), number_scalar t (number_is t h))
unary_takes unary.Abs asked adopting.Numbers t h = (types.absolute (adopted_is asked t h), number_scalar t (adopted_is asked t h))
unary_takes unary.Abs asked adopting.Accesses t h = (types.absolute (adopted_is asked t h), number_scalar t (adopted_is asked t h))

module _ (k : Setting) (env : Frames) (tables : Tables) (sound : Sound k env tables) where
  abbrev Right : Sense → Type 0
  Right x = Good k env tables x

  abbrev pub RightOperand : Operand Sense → Type 0
  RightOperand = OperandOf Right

  -- Arithmetic -----------------------------------------------------------------------------------

  -- operands that go on from a number type in that type
  abbrev GoesOn : Ty → List Checked_operand → Type 0
  GoesOn t os = (more : List Checked_operand) → Chains k env t more t → Chains k env t (os ++ more) t

  abbrev OneOn : Ty → Checked_operand → Type 0
  OneOn t o = (more : List Checked_operand) → Chains k env t more t → Chains k env t (o ∷ more) t

  goes_further : {A : Type 0} (t : Ty) (as' : List A) (os : List Checked_operand) (a : A) (o : Checked_operand) → GoesOn t os → OneOn t o → GoesOn t (os ++ o ∷ [])
  goes_further t as' os a o h i more c = subst (λ all. Chains k env t all t) (sym (joined os o more)) (h (o ∷ more) (i more c))

  abbrev Value : Ty → Expr → Type 0
  Value t x = Typed k env x t

  operand_on : (o : ArithmeticOperator) (t : Ty) (x : Expr) → is_number t ≡ true → Value t x → OneOn t (spec.operand_of (spec.operator_of o) t x)
  operand_on o t x n h more c = rule.behind (types.arithmetic (operator_arithmetic o) n) h c

  operand_as_good : (t : Ty) (o : Operand Sense) → is_number t ≡ true → RightOperand o → Gives (OneOn t) (spec.operand_as tables (asking.Exactly t) o)
  operand_as_good t o n g = next (Fine k env (asking.Exactly t) o.operand.named) (OneOn t) (o.operand.judged tables (asking.Exactly t)) (λ r. known (spec.operand_of (spec.operator_of o.operator) r.ty r.value)) (g.judged (asking.Exactly t) (number_in_view k env t n))
      (λ r h s. subst (λ u. OneOn t (spec.operand_of (spec.operator_of o.operator) u r.value)) (same_is t r.ty h.met) (operand_on o.operator t r.value n (subst (λ u. Value u r.value) (sym (same_is t r.ty h.met)) h.typed)))

  operands_all : (t : Ty) (os : List (Operand Sense)) → is_number t ≡ true → All RightOperand os → All (λ o. Gives (OneOn t) (spec.operand_as tables (asking.Exactly t) o)) os
  operands_all t [] n g = tt
  operands_all t (o ∷ os) n g = (operand_as_good t o n g.0, operands_all t os n g.1)

  operands_good : (t : Ty) (os : List (Operand Sense)) → is_number t ≡ true → All RightOperand os → Gives (GoesOn t) (spec.operands_as tables (asking.Exactly t) os)
  operands_good t os n g s = each_gives (λ as' bs. GoesOn t bs) (λ o. OneOn t) (spec.operand_as tables (asking.Exactly t)) (goes_further t) [] (Some []) os s (λ more c. c) (operands_all t os n g)

  chain_typed : (t : Ty) (x : Expr) (os : List Checked_operand) → Value t x → GoesOn t os → Value t (spec.chain_of x os)
  chain_typed t x [] h c = h
  chain_typed t x (o ∷ os) h c = rule.chain h (subst (λ all. Chains k env t all t) (append-nil (o ∷ os)) (c [] rule.ended))

  pub record NumberFine (x : Typed_value) : Type 0 where
    pub typed : Typed k env x.value x.ty
    pub number : is_number x.ty ≡ true

  by_first_good : (x : Sense) (os : List (Operand Sense)) → Right x → All RightOperand os → Gives NumberFine (spec.by_first tables x os)
  by_first_good x os g i =
      next (λ r. Fine k env asking.Number x.named r.0 × GoesOn r.0.ty r.1) NumberFine (following (x.judged tables asking.Number) (λ r. spec.operands_as tables (spec.asked_like asking.Number r) os)) (λ r. known (record { ty = r.0.ty; value = spec.chain_of r.0.value r.1 }))
      (following_give (Fine k env asking.Number x.named) (λ r. GoesOn r.ty) (x.judged tables asking.Number) (λ r. spec.operands_as tables (spec.asked_like asking.Number r) os) (g.judged asking.Number tt) (λ r h. operands_good r.ty os (number_is r.ty h.met) i))
      (λ r h s. record { typed = chain_typed r.0.ty r.0.value r.1 h.0.typed h.1; number = number_is r.0.ty h.0.met })

  pub value_as_good : (t : Ty) (x : Sense) → InView k env t → Right x → Gives (Value t) (x.judged tables (asking.Exactly t) >>= (λ r. known r.value))
  value_as_good t x v g = next (Fine k env (asking.Exactly t) x.named) (Value t) (x.judged tables (asking.Exactly t)) (λ r. known r.value) (g.judged (asking.Exactly t) v) (λ r h s. subst (λ u. Value u r.value) (sym (same_is t r.ty h.met)) h.typed)

  first_as_good : (t : Ty) (x : Sense) (os : List (Operand Sense)) → is_number t ≡ true → Right x → All RightOperand os → Gives (λ r. Value t r.0 × GoesOn t r.1) (spec.first_as tables (asking.Exactly t) x os)
  first_as_good t x os n g i = both_give (Value t) (GoesOn t) (x.judged tables (asking.Exactly t) >>= (λ r. known r.value)) (spec.operands_as tables (asking.Exactly t) os) (value_as_good t x (number_in_view k env t n) g) (operands_good t os n i)

  around_good : (t : Ty) (x : Sense) (before behind : List (Operand Sense)) → is_number t ≡ true → Right x → All RightOperand before → All RightOperand behind → Gives (λ r. (Value t r.0.0 × GoesOn t r.0.1) × GoesOn t r.1) (spec.around tables x before behind (asking.Exactly t))
  around_good t x before behind n g i j = both_give (λ (r : Expr × List Checked_operand). Value t r.0 × GoesOn t r.1) (GoesOn t) (spec.first_as tables (asking.Exactly t) x before) (spec.operands_as tables (asking.Exactly t) behind) (first_as_good t x before n g i) (operands_good t behind n j)

  joined_on : (t : Ty) (os : List Checked_operand) (o : Checked_operand) (more : List Checked_operand) → GoesOn t os → OneOn t o → GoesOn t more → GoesOn t (os ++ o ∷ more)
  joined_on t os o more h i j rest c = subst (λ all. Chains k env t all t) (sym (spread os o more rest)) (h (o ∷ (more ++ rest)) (i (more ++ rest) (j rest c)))
    where
      spread : (os : List Checked_operand) (o : Checked_operand) (more rest : List Checked_operand) → (os ++ o ∷ more) ++ rest ≡ os ++ o ∷ (more ++ rest)
      spread [] o more rest = refl
      spread (x ∷ os) o more rest = ap (λ zs. x ∷ zs) (spread os o more rest)

  by_other_good : (asked : Asked) (x : Sense) (before : List (Operand Sense)) (o : Option (Operand Sense)) (behind : List (Operand Sense)) → Right x → All RightOperand before → IfSome RightOperand o → All RightOperand behind → Gives NumberFine (spec.by_other tables asked x before o behind)
  by_other_good asked x before (Some o) behind g i j l =
      next (λ r. Fine k env asking.Number o.operand.named r.0 × ((Value r.0.ty r.1.0.0 × GoesOn r.0.ty r.1.0.1) × GoesOn r.0.ty r.1.1)) NumberFine
      (following (o.operand.judged tables asking.Number) (λ r. spec.around tables x before behind (spec.asked_like asking.Number r))) (λ r. known (spec.joined (spec.operator_of o.operator) r.0 r.1))
      (following_give (Fine k env asking.Number o.operand.named) (λ t r. (Value t.ty r.0.0 × GoesOn t.ty r.0.1) × GoesOn t.ty r.1) (o.operand.judged tables asking.Number) (λ r. spec.around tables x before behind (spec.asked_like asking.Number r)) (j.judged asking.Number tt) (λ r h. around_good r.ty x before behind (number_is r.ty h.met) g i l))
      (λ r h s.
      let n = number_is r.0.ty h.0.met in
      record { typed = chain_typed r.0.ty r.1.0.0 (r.1.0.1 ++ spec.operand_of (spec.operator_of o.operator) r.0.ty r.0.value ∷ r.1.1) h.1.0.0 (joined_on r.0.ty r.1.0.1 (spec.operand_of (spec.operator_of o.operator) r.0.ty r.0.value) r.1.1 h.1.0.1 (operand_on o.operator r.0.ty r.0.value n h.0.typed) h.1.1); number = n })
  by_other_good asked x before None behind g i j l =
      next (λ r. Value (adopted asked) r.0 × GoesOn (adopted asked) r.1) NumberFine (spec.first_as tables (asking.Exactly (adopted asked)) x before) (λ r. known (record { ty = adopted asked; value = spec.chain_of r.0 r.1 }))
      (first_as_good (adopted asked) x before (adopted_number asked) g i)
      (λ r h s. record { typed = chain_typed (adopted asked) r.0 r.1 h.0 h.1; number = adopted_number asked })

  abbrev SplitRight : Split → Type 0
  SplitRight s = All RightOperand s.before × (IfSome RightOperand s.typed × All RightOperand s.behind)

  split_good : (os : List (Operand Sense)) → All RightOperand os → SplitRight (spec.split os)
  split_good [] g = (tt, (tt, tt))
  split_good (o ∷ os) g = by_test (spec.adopts o.operand.adopts) (split_good os g.1)
    where
      by_test : (b : Bool) → SplitRight (spec.split os) → SplitRight (if b then spec.put_before o (spec.split os) else (record { before = []; typed = Some o; behind = os }))
      by_test true h = ((g.0, h.0), h.1)
      by_test false h = (tt, (g.0, g.1))

  arithmetic_good : (asked : Asked) (x : Sense) (os : List (Operand Sense)) → Right x → All RightOperand os → Gives NumberFine (spec.arithmetic_of tables asked x os (spec.split os))
  arithmetic_good asked x os g i = by_test (spec.adopts x.adopts)
    where
      by_test : (b : Bool) → Gives NumberFine (if b then spec.by_other tables asked x (spec.split os).before (spec.split os).typed (spec.split os).behind else spec.by_first tables x os)
      by_test true = let h = split_good os i in by_other_good asked x (spec.split os).before (spec.split os).typed (spec.split os).behind g h.0 h.1.0 h.1.1
      by_test false = by_first_good x os g i

  abbrev Unnamed : Option (Tables → Judgement Found)
  Unnamed = None

  pub chain_good : (place : Span) (x : Sense) (os : List (Operand Sense)) (asked : Asked) → Right x → All RightOperand os → Gives (Fine k env asked Unnamed) (spec.chain_judged place x os tables asked)
  chain_good place x os asked g i = by_test (spec.has_joining os)
    where
      by_test : (b : Bool) → Gives (Fine k env asked Unnamed) (if b then wrong fault.Type place else (spec.arithmetic_of tables asked x os (spec.split os) >>= spec.fits place asked))
      by_test true = λ s. tt
      by_test false = next NumberFine (Fine k env asked Unnamed) (spec.arithmetic_of tables asked x os (spec.split os)) (spec.fits place asked) (arithmetic_good asked x os g i)
          (λ r h. fits_good k env tables sound place asked Unnamed r h.typed (number_in_view k env r.ty h.number) (number_scalar r.ty h.number))

  -- Relations ----------------------------------------------------------------------------------------

  relation_typed : (o : RelationalOperator) (l r : Typed_value) → meets (spec.compared o) l.ty ≡ true → Value l.ty l.value → Value l.ty r.value → Value ty.Boolean (spec.relation_of o l r).value
  relation_typed o l r m h i = rule.chain h (rule.behind (relation_joins o l.ty m) i rule.ended)

  abbrev Fitting : Asked → Sense → Typed_value → Type 0
  Fitting asked x r = Fine k env asked x.named r

  relation_of_good : (place : Span) (o : RelationalOperator) (asked : Asked) (l r : Typed_value) → meets (spec.compared o) l.ty ≡ true → Value l.ty l.value → Value l.ty r.value → Gives (Fine k env asked Unnamed) (spec.fits place asked (spec.relation_of o l r))
  relation_of_good place o asked l r m h i = fits_good k env tables sound place asked Unnamed (spec.relation_of o l r) (relation_typed o l r m h i) tt refl

  compared_fine : (o : RelationalOperator) → AskedFine k env (spec.compared o)
  compared_fine relational.Equal = tt
  compared_fine relational.NotEqual = tt
  compared_fine relational.Less = tt
  compared_fine relational.LessEqual = tt
  compared_fine relational.Greater = tt
  compared_fine relational.GreaterEqual = tt

  -- two operands, of which the second has the type of the first
  beside_fine : (o : RelationalOperator) (a : Adopts) → AskedFine k env (spec.asked_beside o a)
  beside_fine o adopting.Numbers = tt
  beside_fine o adopting.Accesses = compared_fine o
  beside_fine o adopting.Nothing = compared_fine o

  two_good : (first : Asked) → AskedFine k env first → (o : RelationalOperator) (x y : Sense) → Right x → Right y → Gives (λ p. Fine k env first x.named p.0 × Fine k env (asking.Exactly p.0.ty) y.named p.1) (following (x.judged tables first) (λ t. y.judged tables (spec.asked_like (spec.compared o) t)))
  two_good first fine o x y g h = following_give (Fine k env first x.named) (λ a b. Fine k env (asking.Exactly a.ty) y.named b) (x.judged tables first) (λ t. y.judged tables (spec.asked_like (spec.compared o) t)) (g.judged first fine) (λ a i. h.judged (asking.Exactly a.ty) i.in_view)

  pub relation_good : (place : Span) (o : RelationalOperator) (l r : Sense) (asked : Asked) → Right l → Right r → Gives (Fine k env asked Unnamed) (spec.relation_judged place o l r tables asked)
  relation_good place o l r asked g h = by_test (spec.adopts l.adopts && not (spec.adopts r.adopts))
    where
      by_test : (b : Bool) → Gives (Fine k env asked Unnamed)
          (if b
          then (following (r.judged tables (spec.asked_beside o l.adopts)) (λ t. l.judged tables (spec.asked_like (spec.compared o) t)) >>= (λ p. spec.fits place asked (spec.relation_of o p.1 p.0)))
          else (following (l.judged tables (spec.compared o)) (λ t. r.judged tables (spec.asked_like (spec.compared o) t)) >>= (λ p. spec.fits place asked (spec.relation_of o p.0 p.1))))
      by_test true = next (λ p. Fine k env (spec.asked_beside o l.adopts) r.named p.0 × Fine k env (asking.Exactly p.0.ty) l.named p.1) (Fine k env asked Unnamed) (following (r.judged tables (spec.asked_beside o l.adopts)) (λ t. l.judged tables (spec.asked_like (spec.compared o) t))) (λ p. spec.fits place asked (spec.relation_of o p.1 p.0)) (two_good (spec.asked_beside o l.adopts) (beside_fine o l.adopts) o r l h g)
          (λ p i. let same = same_is p.0.ty p.1.ty i.1.met in relation_of_good place o asked p.1 p.0 (subst (λ t. meets (spec.compared o) t ≡ true) same (beside_meets o l.adopts p.0.ty i.0.met)) i.1.typed (subst (λ t. Value t p.0.value) same i.0.typed))
      by_test false = next (λ p. Fine k env (spec.compared o) l.named p.0 × Fine k env (asking.Exactly p.0.ty) r.named p.1) (Fine k env asked Unnamed) (following (l.judged tables (spec.compared o)) (λ t. r.judged tables (spec.asked_like (spec.compared o) t))) (λ p. spec.fits place asked (spec.relation_of o p.0 p.1)) (two_good (spec.compared o) (compared_fine o) o l r g h)
          (λ p i. let same = same_is p.0.ty p.1.ty i.1.met in relation_of_good place o asked p.0 p.1 i.0.met i.0.typed (subst (λ t. Value t p.1.value) (sym same) i.1.typed))

  -- Logical operators ----------------------------------------------------------------------------------------

  pub truth_good : (x : Sense) → Right x → Gives (Value ty.Boolean) (spec.truth_of tables x)
  truth_good x g = value_as_good ty.Boolean x tt g

  truths_more : {A : Type 0} (as' : List A) (xs : List Expr) (a : A) (x : Expr) → Truths k env xs → Value ty.Boolean x → Truths k env (xs ++ x ∷ [])
  truths_more as' [] a x rule.no_more_truths h = rule.one_more_truth h rule.no_more_truths
  truths_more as' (y ∷ xs) a x (rule.one_more_truth g more) h = rule.one_more_truth g (truths_more as' xs a x more h)

  truths_all : (xs : List Sense) → All Right xs → All (λ x. Gives (Value ty.Boolean) (spec.truth_of tables x)) xs
  truths_all [] g = tt
  truths_all (x ∷ xs) g = (truth_good x g.0, truths_all xs g.1)

  truths_good : (xs : List Sense) → All Right xs → Gives (Truths k env) (spec.truths_of tables xs)
  truths_good xs g s = each_gives (λ as' bs. Truths k env bs) (λ a. Value ty.Boolean) (spec.truth_of tables) truths_more [] (Some []) xs s rule.no_more_truths (truths_all xs g)

  chained : (o : BinaryOp) (xs : List Expr) → types.is_logical o ≡ true → Truths k env xs → Chains k env ty.Boolean (map (spec.logical_operand o) xs) ty.Boolean
  chained o [] l rule.no_more_truths = rule.ended
  chained o (x ∷ xs) l (rule.one_more_truth h more) = rule.behind (types.logical l) h (chained o xs l more)

  logical_typed : (o : LogicalOperator) (a b : Expr) (more : List Expr) → Value ty.Boolean a → Value ty.Boolean b → Truths k env more → Value ty.Boolean (spec.logical_of o a b more)
  logical_typed logical.And a b more h i j = rule.chain h (rule.behind (types.logical refl) i (chained op.And more refl j))
  logical_typed logical.Or a b more h i j = rule.chain h (rule.behind (types.logical refl) i (chained op.Or more refl j))
  logical_typed logical.Xor a b more h i j = rule.chain h (rule.behind (types.logical refl) i (chained op.Xor more refl j))
  logical_typed logical.AndThen a b more h i j = rule.short h i j
  logical_typed logical.OrElse a b more h i j = rule.short h i j

  pub logical_good : (place : Span) (o : LogicalOperator) (a b : Sense) (more : List Sense) (asked : Asked) → Right a → Right b → All Right more → Gives (Fine k env asked Unnamed) (spec.logical_judged place o a b more tables asked)
  logical_good place o a b more asked g h i =
      next (λ r. (Value ty.Boolean r.0.0 × Value ty.Boolean r.0.1) × Truths k env r.1) (Fine k env asked Unnamed) (both (both (spec.truth_of tables a) (spec.truth_of tables b)) (spec.truths_of tables more)) (λ r. spec.fits place asked (record { ty = ty.Boolean; value = spec.logical_of o r.0.0 r.0.1 r.1 }))
      (both_give (λ (r : Expr × Expr). Value ty.Boolean r.0 × Value ty.Boolean r.1) (Truths k env) (both (spec.truth_of tables a) (spec.truth_of tables b)) (spec.truths_of tables more) (both_give (Value ty.Boolean) (Value ty.Boolean) (spec.truth_of tables a) (spec.truth_of tables b) (truth_good a g) (truth_good b h)) (truths_good more i))
      (λ r j. fits_good k env tables sound place asked Unnamed (record { ty = ty.Boolean; value = spec.logical_of o r.0.0 r.0.1 r.1 }) (logical_typed o r.0.0 r.0.1 r.1 j.0.0 j.0.1 j.1) tt refl)

  -- Operators with one operand -----------------------------------------------------------------------------------

  by_one_fine : (o : UnaryOperator) (asked : Asked) (a : Adopts) → AskedFine k env (spec.asked_by_one o asked a)
  by_one_fine unary.Not asked a = tt
  by_one_fine unary.Plus asked adopting.Nothing = tt
  by_one_fine unary.Plus asked adopting.Numbers = number_in_view k env (adopted asked) (adopted_number asked)
  by_one_fine unary.Plus asked adopting.Accesses = number_in_view k env (adopted asked) (adopted_number asked)
  by_one_fine unary.Minus asked adopting.Nothing = tt
  by_one_fine unary.Minus asked adopting.Numbers = number_in_view k env (adopted asked) (adopted_number asked)
  by_one_fine unary.Minus asked adopting.Accesses = number_in_view k env (adopted asked) (adopted_number asked)
  by_one_fine unary.Abs asked adopting.Nothing = tt
  by_one_fine unary.Abs asked adopting.Numbers = number_in_view k env (adopted asked) (adopted_number asked)
  by_one_fine unary.Abs asked adopting.Accesses = number_in_view k env (adopted asked) (adopted_number asked)

  pub unary_good : (place : Span) (o : UnaryOperator) (x : Sense) (asked : Asked) → Right x → Gives (Fine k env asked Unnamed) (spec.unary_judged place o x tables asked)
  unary_good place o x asked g =
      let inner : Asked = spec.asked_by_one o asked x.adopts in
      next (Fine k env inner x.named) (Fine k env asked Unnamed) (x.judged tables inner) (λ r. spec.fits place asked (record { ty = r.ty; value = e.Unary (spec.unary_of o) r.ty r.value })) (g.judged inner (by_one_fine o asked x.adopts))
      (λ r h. let t = unary_takes o asked x.adopts r.ty h.met in fits_good k env tables sound place asked Unnamed (record { ty = r.ty; value = e.Unary (spec.unary_of o) r.ty r.value }) (rule.unary t.0 h.typed) h.in_view t.1)
