-- The code of an expression is well formed where its parts are, and puts a value of its type where it is wanted.
use Rattle.std.proofs.Common.{◌≡◌, ℕ, ◌+◌, List, [], ◌∷◌, ◌++◌, length, Option, Some, None, Bool, true, ◌⊎◌, inl, inr, refl, sym, ap, ◌∙◌, subst, arith}
use Rattle.std.specs.Prelude.{◌&&◌, unwrap_or}
use Rattle.ctl_program.specs.declared.types.Ty.{Ty}
use Rattle.ctl_program.specs.declared.types.Ty.TheVariants.{Integer, Boolean}
use Rattle.ctl_program.specs.declared.types.Ty.TheVariants as TyOf
use Rattle.ctl_program.specs.declared.types.RecordType.{RecordType}
use Rattle.ctl_program.specs.declared.types.Var.{Var}
use Rattle.ctl_program.specs.declared.operators.Shortcut.{Shortcut}
use Rattle.ctl_program.specs.declared.operators.UnaryOp.{UnaryOp}
use Rattle.ctl_program.specs.declared.operators.BinaryOp.{BinaryOp}
use Rattle.ctl_program.specs.declared.expression.Step.{Step}
use Rattle.ctl_well_typed.specs.Setting as W
use Rattle.ctl_well_typed.specs.Types.{Joins, IsCell}
use Rattle.ctl_well_typed.specs.Types as J
use Rattle.ctl_code.specs.declared.kinds.Kind.{Kind}
use Rattle.ctl_code.specs.declared.kinds.Kind.TheVariants as KindOf
use Rattle.ctl_code.specs.declared.code.Named.{Named}
use Rattle.ctl_code.specs.declared.code.Named.TheVariants as NamedOf
use Rattle.ctl_code.specs.declared.code.Cell.{Cell}
use Rattle.ctl_code.specs.declared.code.Instr.TheVariants as InstrOf
use Rattle.ctl_code.specs.declared.code.Code.{Code}
use Rattle.ctl_code.specs.declared.homes.Declaration.TheVariants as DeclarationOf
use Rattle.ctl_code.specs.Windows.{Counts, HasSlot, height, variable_at}
use Rattle.ctl_code.specs.Valid as Valid
use Rattle.ctl_code.specs.Valid.{BinaryOf, IsAllocable, IsCellOf, IsNumber, Leads, Puts, Taken, UnaryOf, over_numbers}
use Rattle.ctl_code.proofs.Numbered.{have_over}
use Rattle.ctl_layout.specs.declared.right.Right.{Right}
use Rattle.ctl_layout.specs.declared.right.Right.TheVariants as RightOf
use Rattle.ctl_layout.specs.Around.{Line, local_at, new_operand, read_from}
use Rattle.ctl_layout.specs.Records.{is_plain, is_run_type}
use Rattle.ctl_layout.specs.Defaults.{is_declared}
use Rattle.ctl_layout.specs.Parts.{Start, OfVariable, OfValue, OfRecord, Reached, Variable, Part, Object, Result, any_type, component_code, first_position, located_code, part_code, part_runs, parts_run, taken_code}
use Rattle.ctl_program.specs.Library.{block_pool}
use Rattle.ctl_layout.specs.Values.{Held, OperatorCode, ValueCode, address_numbers, allocator_code, applied, binary_code, chain, common_type, constant, designating, evaluated, first_type, given_code, held, held_by, in_cell, last_type, left_held, moved_to, new, new_copy, new_given, next_target, operand_type, operator_by, operator_code, operator_for, operators_code, other_code, others_code, read, short, value_type, discriminant, discriminant_at}
use Rattle.ctl_layout.proofs.Extensions.{both_true}
use Rattle.ctl_gen.proofs.Formed.{Formed, both, has_end, leads_at, none, one}
use Rattle.ctl_gen.proofs.FormedAround.{Surrounds, IsCreatable, IsHoused, IsNamed, granted_home, granted_home_of, variable_there}
use Rattle.ctl_gen.proofs.FormedParts.{Follows, FollowsAt, IsBegun, IsFound, located_formed, part_formed, read_fine}
use Rattle.ctl_emitter.proofs.Walked.{start_of, part_begun}
use Rattle.ctl_gen.proofs.FormedTypes.{IsAccessType, IsLike, arithmetic_of, boolean_plain, cell_like, cell_of, equality_relates, is_relation, like_access, like_back, like_scalar, like_then, logical_of, number_of, number_plain, number_scalar, of_arithmetic, of_logical, of_relation, ordering_relates, relation_of, run_scalar, same_unless, unary_plain}

-- Cells -------------------------------------------------------------------------------------------

abbrev PlacedAt : Named → ℕ → List Kind → Type 0
PlacedAt NamedOf.Operand at s = at ≡ height s
PlacedAt (NamedOf.Variable out slot) at s = variable_at s out slot ≡ Some at

-- a value can be put there, over what stands there
abbrev pub Placed : Cell → List Kind → Type 0
Placed cell s = PlacedAt cell.named cell.at s

-- what stands there with it
abbrev pub with_put : Named → Ty → List Kind → List Kind
with_put NamedOf.Operand ty s = KindOf.Operand ty ∷ s
with_put (NamedOf.Variable out slot) ty s = s

-- the last operator of a chain puts where the value is wanted
target_placed : (os : List OperatorCode) (to : Cell) (s : List Kind) → Placed to s → Placed (next_target os to s) s
target_placed [] to s at = at
target_placed (o ∷ os) to s at = refl

-- what is taken from a cell is no master
taken_agrees : (code : Code) (env : W.Frames) (cell : Cell) (ty : Ty) (s below : List Kind) → Taken cell ty s below → Surrounds code env below → Surrounds code env s
taken_agrees code env cell ty s below = by cell.named cell.at
  where
    by : (named : Named) (at : ℕ) → Taken (record { at = at; named = named }) ty s below → Surrounds code env below → Surrounds code env s
    by NamedOf.Operand at h agrees = subst (Surrounds code env) (sym h.0) agrees
    by (NamedOf.Variable out slot) at h agrees = subst (Surrounds code env) (sym h.0) agrees

-- so a slot that is there below it is there
pub taken_slot : (counts : Counts) (cell : Cell) (ty : Ty) (s below : List Kind) (out slot : ℕ) → Taken cell ty s below → HasSlot counts below out slot → HasSlot counts s out slot
taken_slot counts cell ty s below out slot = by cell.named cell.at
  where
    by : (named : Named) (at : ℕ) → Taken (record { at = at; named = named }) ty s below → HasSlot counts below out slot → HasSlot counts s out slot
    by NamedOf.Operand at h there = subst (λ x. HasSlot counts x out slot) (sym h.0) there
    by (NamedOf.Variable o n) at h there = subst (λ x. HasSlot counts x out slot) (sym h.0) there

-- what makes an object, behind an instruction that does nothing; its access value goes where it is wanted
abbrev made_by : ℕ → (List RecordType → Bool) → (Ty → List Kind → List Line) → ValueCode
made_by access runs lines = record { runs = runs; own = Some (TyOf.Access access); right = RightOf.Evaluated; reached = None; code = λ to ty s. (InstrOf.Skip 0, s) ∷ lines ty s ++ moved_to to ty s }

-- what stands behind that instruction, where the object takes the value of a part, or of a function
abbrev behind_skip : ℕ → ℕ → Reached → Ty → List Kind → List Line
behind_skip access t x ty s = part_code x t s ++ (InstrOf.NewCopy access t ty (height s), KindOf.Operand (TyOf.Record t) ∷ s) ∷ (InstrOf.NewCopyIn t ty (height s), over_numbers address_numbers (KindOf.RecordValue ∷ s)) ∷ []

module _ (code : Code) where
  pub puts : (place : ℕ) (to : Cell) (ty : Ty) (s : List Kind) → Placed to s → Leads code (place + 1) (with_put to.named ty s) → Puts code place to ty s
  puts place to ty s = by to.named to.at
    where
      by : (named : Named) (at : ℕ) → PlacedAt named at s → Leads code (place + 1) (with_put named ty s) → Puts code place (record { at = at; named = named }) ty s
      by NamedOf.Operand at h next = (h, next)
      by (NamedOf.Variable out slot) at h next = (h, next)

  -- Where an operand is found -----------------------------------------------------------------------

  -- behind its lines a value of this type is taken from its cell
  pub record Found (h : Held) (ty : Ty) (s : List Kind) : Type 0 where
    pub formed : Formed code h.code s (Some h.after)
    pub taken : Taken h.cell ty h.after s

  -- the newest operand goes where it is wanted
  pub moved_formed : (to : Cell) (ty : Ty) (s : List Kind) → Valid.IsScalar ty → Placed to s → Formed code (moved_to to ty s) (KindOf.Operand ty ∷ s) (Some (with_put to.named ty s))
  moved_formed to ty s scalar = by to.named to.at
    where
      by : (named : Named) (at : ℕ) → PlacedAt named at s → Formed code (moved_to (record { at = at; named = named }) ty s) (KindOf.Operand ty ∷ s) (Some (with_put named ty s))
      by NamedOf.Operand at h = none code (KindOf.Operand ty ∷ s)
      by (NamedOf.Variable out slot) at h = one code (InstrOf.Move (new_operand s) ty (record { at = at; named = NamedOf.Variable out slot })) (KindOf.Operand ty ∷ s) (Some s) (λ p next. (scalar, (s, (refl, refl), (h, next))))

-- inside these masters
module _ (code : Code) (env : W.Frames) where
  -- a value whose code is well formed where one of this type is expected
  pub record Usable (x : ValueCode) (ty : Ty) : Type 0 where
    pub scalar : Valid.IsScalar ty
    pub formed : (to : Cell) (s : List Kind) → Surrounds code env s → Placed to s → Formed code (x.code to ty s) s (Some (with_put to.named ty s))
    pub constant : (n : ℕ) → x.right ≡ RightOf.Constant n → IsCellOf ty n

  -- a value of this type of its own. An access value is one of each access type that designates the same type (4.6), and stands as a number
  -- where it is dereferenced
  pub record Own (x : ValueCode) (ty : Ty) : Type 0 where
    pub type : Ty
    pub own : x.own ≡ Some type
    pub like : IsLike type ty
    pub usable : (t : Ty) → IsLike t ty → Usable x t
    pub number : IsAccessType ty → Usable x Integer

  -- a value of this type that has none of its own: a constant, or an access attribute. Where its type is not asked, it is taken as a number
  pub record Bare (x : ValueCode) (ty : Ty) : Type 0 where
    pub own : x.own ≡ None
    pub number : Usable x Integer
    pub usable : (t : Ty) → IsLike t ty → Valid.IsScalar t → Usable x t

  abbrev pub Fine : ValueCode → Ty → Type 0
  Fine x ty = Own x ty ⊎ Bare x ty

  -- where its own type is no access type
  own_of : (x : ValueCode) (ty : Ty) → x.own ≡ Some ty → (IsAccessType ty → ⊥) → Usable x ty → Own x ty
  own_of x ty own plain usable = record { type = ty; own = own; like = inl refl; usable = λ t like. subst (Usable x) (sym (same_unless t ty plain like)) usable; number = λ access. absurd (plain access) }

  -- and where it is usable as each scalar type
  pub own_as : (x : ValueCode) (ty : Ty) → x.own ≡ Some ty → Valid.IsScalar ty → ((t : Ty) → Valid.IsScalar t → Usable x t) → Own x ty
  own_as x ty own scalar usable = record { type = ty; own = own; like = inl refl; usable = λ t like. usable t (like_scalar t ty like scalar); number = λ access. usable Integer tt }

  pub usable_constant : (n : ℕ) (ty : Ty) → Valid.IsScalar ty → IsCellOf ty n → Usable (constant n) ty
  usable_constant n ty scalar cell = record {
    scalar = scalar;
    formed = λ to s agrees at. one code (InstrOf.Set n ty to) s (Some (with_put to.named ty s)) (λ p next. (cell, puts code p to ty s at next));
    constant = λ m is. let same : n ≡ m = cc in subst (IsCellOf ty) same cell;
  }

  pub constant_fine : (n : ℕ) (ty : Ty) → IsCell ty n → Fine (constant n) ty
  constant_fine n ty cell = inr (record { own = refl; number = usable_constant n Integer tt tt; usable = λ t like scalar. usable_constant n t scalar (cell_of t n scalar (cell_like t ty n like cell)) })

  -- an access attribute
  usable_designating : (v : Var) (ty : Ty) → IsNamed env v → Valid.IsScalar ty → Usable (designating v) ty
  usable_designating v ty named scalar = record {
    scalar = scalar;
    formed = λ to s agrees at. one code (InstrOf.Designate v ty to) s (Some (with_put to.named ty s)) (λ p next. (scalar, puts code p to ty s at next, variable_there code env s v named.0 agrees named.1));
    constant = λ n is. absurd (cc);
  }

  pub designating_fine : (v : Var) (ty : Ty) → IsNamed env v → Fine (designating v) ty
  designating_fine v ty named = inr (record { own = refl; number = usable_designating v Integer named tt; usable = λ t like scalar. usable_designating v t named scalar })

  -- where its type is scalar
  pub usable_as : (x : ValueCode) (ty : Ty) → Valid.IsScalar ty → Fine x ty → Usable x ty
  usable_as x ty scalar (inl h) = h.usable ty (inl refl)
  usable_as x ty scalar (inr h) = h.usable ty (inl refl) scalar

  -- where each scalar type will do
  pub value_usable : (x : ValueCode) (ty : Ty) → Fine x ty → Usable x (value_type x)
  value_usable x ty (inl h) = subst (Usable x) (sym (ap (λ o. unwrap_or o Integer) h.own)) (h.usable h.type h.like)
  value_usable x ty (inr h) = subst (Usable x) (sym (ap (λ o. unwrap_or o Integer) h.own)) h.number

  -- which is then a number, where its type is one
  pub value_number : (x : ValueCode) (ty : Ty) → IsNumber ty → Fine x ty → IsNumber (value_type x)
  value_number x ty number (inl h) = subst IsNumber (sym (same_unless h.type ty (number_plain ty number) h.like) ∙ sym (ap (λ o. unwrap_or o Integer) h.own)) number
  value_number x ty number (inr h) = subst IsNumber (sym (ap (λ o. unwrap_or o Integer) h.own)) tt

  -- an access value, as a number
  pub access_usable : (x : ValueCode) (ty : Ty) → IsAccessType ty → Fine x ty → Usable x Integer
  access_usable x ty access (inl h) = h.number access
  access_usable x ty access (inr h) = h.number

  -- one of another access type
  pub fine_like : (x : ValueCode) (s t : Ty) → IsLike s t → Fine x t → Fine x s
  fine_like x s t like (inl h) = inl (record { type = h.type; own = h.own; like = like_then h.type t s h.like (like_back s t like); usable = λ u l. h.usable u (like_then u s t l like); number = λ access. h.number (like_access s t like access) })
  fine_like x s t like (inr h) = inr (record { own = h.own; number = h.number; usable = λ u l. h.usable u (like_then u s t l like) })

  -- Operands ----------------------------------------------------------------------------------------

  found_evaluated : (x : ValueCode) (ty : Ty) (s : List Kind) → Surrounds code env s → Usable x ty → Found code (evaluated x ty s) ty s
  found_evaluated x ty s agrees usable = record { formed = usable.formed (new_operand s) s agrees refl; taken = (refl, refl) }

  found_in_cell : (o : Option ℕ) (v : Var) (x : ValueCode) (ty : Ty) (s : List Kind) → Surrounds code env s → local_at s v ≡ o → Usable x ty → Found code (in_cell o v x ty s) ty s
  found_in_cell (Some at) v x ty s agrees here usable = record { formed = none code s; taken = (refl, here) }
  found_in_cell None v x ty s agrees here usable = found_evaluated x ty s agrees usable

  pub found : (x : ValueCode) (ty : Ty) (s : List Kind) → Surrounds code env s → Usable x ty → Found code (held x ty s) ty s
  found x ty s agrees usable = by x.right
    where
      by : (r : Right) → Found code (held_by r x ty s) ty s
      by (RightOf.Constant n) = found_evaluated x ty s agrees usable
      by (RightOf.Variable v) = found_in_cell (local_at s v) v x ty s agrees refl usable
      by RightOf.Evaluated = found_evaluated x ty s agrees usable

  found_left : (r : Right) (x : ValueCode) (ty : Ty) (s : List Kind) → Surrounds code env s → Usable x ty → Found code (left_held r x ty s) ty s
  found_left (RightOf.Constant n) x ty s agrees usable = found x ty s agrees usable
  found_left (RightOf.Variable v) x ty s agrees usable = found x ty s agrees usable
  found_left RightOf.Evaluated x ty s agrees usable = found_evaluated x ty s agrees usable

  -- Operators ---------------------------------------------------------------------------------------

  -- an operator behind its right operand, whose left one is taken from over the base
  binary_formed : (o : OperatorCode) (left : Cell) (ty : Ty) (to : Cell) (h : Held) (s base : List Kind) → BinaryOf o.op ty o.ty → Found code h ty s → Taken left ty s base → Placed to base → Formed code (binary_code o left ty to h) s (Some (with_put to.named o.ty base))
  binary_formed o left ty to h s base has right taken at =
      both code h.code ((InstrOf.Binary (operator_for o ty) left h.cell to, h.after) ∷ []) s h.after (Some (with_put to.named o.ty base)) right.formed
      (one code (InstrOf.Binary (operator_for o ty) left h.cell to) h.after (Some (with_put to.named o.ty base)) (λ p next. (has, (s, right.taken, (base, taken, puts code p to o.ty base at next)))))

  operator_formed : (r : Right) (o : OperatorCode) (left : Cell) (ty : Ty) (to : Cell) (s base : List Kind) → Surrounds code env s → o.right.right ≡ r → BinaryOf o.op ty o.ty → Usable o.right ty → Taken left ty s base → Placed to base → Formed code (operator_by r o left ty to s) s (Some (with_put to.named o.ty base))
  operator_formed (RightOf.Constant n) o left ty to s base agrees is has usable taken at = one code (InstrOf.BinaryConstant (operator_for o ty) left n to) s (Some (with_put to.named o.ty base)) (λ p next. (has, usable.constant n is, (base, taken, puts code p to o.ty base at next)))
  operator_formed (RightOf.Variable v) o left ty to s base agrees is has usable taken at = binary_formed o left ty to (held o.right ty s) s base has (found o.right ty s agrees usable) taken at
  operator_formed RightOf.Evaluated o left ty to s base agrees is has usable taken at = binary_formed o left ty to (held o.right ty s) s base has (found o.right ty s agrees usable) taken at

  -- operators over a left operand of this type, whose value has that type
  pub record Operating (os : List OperatorCode) (left ty : Ty) : Type 0 where
    pub gives : last_type left os ≡ ty
    pub scalar : Valid.IsScalar ty
    pub formed : (to : Cell) (base : List Kind) → Surrounds code env base → Placed to base → Formed code (operators_code base (new_operand base) (KindOf.Operand left ∷ base) left os to) (with_put (next_target os to base).named left base) (Some (with_put to.named ty base))

  pub none_operating : (left : Ty) → Valid.IsScalar left → Operating [] left left
  none_operating left scalar = record { gives = refl; scalar = scalar; formed = λ to base agrees at. none code (with_put to.named left base) }

  -- an operator whose left operand is in this cell, and further ones
  first_operating : (o : OperatorCode) (os : List OperatorCode) (cell : Cell) (left ty : Ty) (s base : List Kind) (to : Cell) → Surrounds code env base → BinaryOf o.op left o.ty → Usable o.right left → Operating os o.ty ty → Taken cell left s base → Placed to base → Formed code (operators_code base cell s left (o ∷ os) to) s (Some (with_put to.named ty base))
  first_operating o os cell left ty s base to agrees has usable rest taken at =
      let target = next_target os to base in
      both code (operator_code o cell left target s) (operators_code base (new_operand base) (KindOf.Operand o.ty ∷ base) o.ty os to) s (with_put target.named o.ty base) (Some (with_put to.named ty base))
      (operator_formed o.right.right o cell left target s base (taken_agrees code env cell left s base taken agrees) refl has usable taken (target_placed os to base at))
      (rest.formed to base agrees at)

  pub next_operating : (o : OperatorCode) (os : List OperatorCode) (left ty : Ty) → BinaryOf o.op left o.ty → Usable o.right left → Operating os o.ty ty → Operating (o ∷ os) left ty
  next_operating o os left ty has usable rest = record {
    gives = rest.gives;
    scalar = rest.scalar;
    formed = λ to base agrees at. first_operating o os (new_operand base) left ty (KindOf.Operand left ∷ base) base to agrees has usable rest (refl, refl) at;
  }

  -- a chain, whose first operand and first operator have this type
  pub chain_own : (x : ValueCode) (o : OperatorCode) (more : List OperatorCode) (ty : Ty) → (IsAccessType ty → ⊥) → Usable x (first_type x o) → BinaryOf o.op (first_type x o) o.ty → Usable o.right (first_type x o) → Operating more o.ty ty → Own (chain x o more) ty
  chain_own x o more ty plain usable has right rest =
      let left = first_type x o in
      own_of (chain x o more) ty (ap Some rest.gives) plain
      (record {
        scalar = rest.scalar;
        formed = λ to s agrees at.
            let h = left_held o.right.right x left s in
            let f = found_left o.right.right x left s agrees usable in
            both code h.code (operators_code s h.cell h.after left (o ∷ more) to) s h.after (Some (with_put to.named ty s)) f.formed
            (first_operating o more h.cell left ty h.after s to agrees has right rest f.taken at);
        constant = λ n is. absurd (cc);
      })

  -- the operands of a relation, where their types are found
  common_usable : (x y : ValueCode) (s : Ty) → Fine x s → Fine y s → Usable x (common_type x.own y.own) × Usable y (common_type x.own y.own)
  common_usable x y s (inl h) g =
      let e : h.type ≡ common_type x.own y.own = sym (ap (λ a. common_type a y.own) h.own) in
      let u = h.usable h.type h.like in
      (subst (Usable x) e u, subst (Usable y) e (usable_as y h.type u.scalar (fine_like y h.type s h.like g)))
  common_usable x y s (inr h) (inl g) =
      let e : g.type ≡ common_type x.own y.own = sym (ap (λ o. common_type o y.own) h.own ∙ ap (λ o. common_type None o) g.own) in
      let u = g.usable g.type g.like in
      (subst (Usable x) e (usable_as x g.type u.scalar (fine_like x g.type s g.like (inr h))), subst (Usable y) e u)
  common_usable x y s (inr h) (inr g) =
      let e : Integer ≡ common_type x.own y.own = sym (ap (λ o. common_type o y.own) h.own ∙ ap (λ o. common_type None o) g.own) in
      (subst (Usable x) e h.number, subst (Usable y) e g.number)

  -- an operator over operands of this type, and the type that they are found to have
  abbrev Joined : BinaryOp → Ty → ValueCode → ValueCode → Type 0
  Joined op ty x y = BinaryOf op (operand_type op ty x.own y.own) ty × Usable x (operand_type op ty x.own y.own) × Usable y (operand_type op ty x.own y.own)

  related : (op : BinaryOp) (x y : ValueCode) (s : Ty) → is_relation op ≡ true → Fine x s → Fine y s → Joined op Boolean x y
  related op x y s e h g =
      let both_usable = common_usable x y s h g in
      let same = sym (of_relation op Boolean x.own y.own e) in
      subst (λ u. BinaryOf op u Boolean × Usable x u × Usable y u) same (relation_of op (common_type x.own y.own) e both_usable.0.scalar, both_usable.0, both_usable.1)

  pub first_joins : (op : BinaryOp) (x y : ValueCode) (s ty : Ty) → Joins op s ty → Fine x s → Fine y s → Joined op ty x y
  first_joins op x y s ty (J.arithmetic a n) h g =
      let scalar = number_scalar ty n in
      subst (λ u. BinaryOf op u ty × Usable x u × Usable y u) (sym (of_arithmetic op ty x.own y.own a)) (arithmetic_of op ty a (number_of ty n), usable_as x ty scalar h, usable_as y ty scalar g)
  first_joins op x y s ty (J.logical l) h g =
      subst (λ u. BinaryOf op u Boolean × Usable x u × Usable y u) (sym (of_logical op Boolean x.own y.own l)) (logical_of op l, usable_as x Boolean tt h, usable_as y Boolean tt g)
  first_joins op x y s ty (J.equality e scalar) h g = related op x y s (equality_relates op e) h g
  first_joins op x y s ty (J.ordering e order) h g = related op x y s (ordering_relates op e) h g

  -- a further operator
  pub next_joins : (op : BinaryOp) (s ty : Ty) → Joins op s ty → Valid.IsScalar s → BinaryOf op s ty
  next_joins op s ty (J.arithmetic a n) scalar = arithmetic_of op ty a (number_of ty n)
  next_joins op s ty (J.logical l) scalar = logical_of op l
  next_joins op s ty (J.equality e h) scalar = relation_of op s (equality_relates op e) scalar
  next_joins op s ty (J.ordering e h) scalar = relation_of op s (ordering_relates op e) scalar

  -- Short-circuit forms -----------------------------------------------------------------------------

  abbrev pub Conditions : Shortcut → List ValueCode → Type 0
  Conditions form xs = (s : List Kind) → Surrounds code env s → Formed code (others_code form xs s) (KindOf.Operand Boolean ∷ s) (Some (KindOf.Operand Boolean ∷ s))

  -- an operand that may be skipped, behind what decides
  decided : (form : Shortcut) (s : List Kind) (ls : List Line) → Formed code ls s (Some (KindOf.Operand Boolean ∷ s)) → Formed code ((InstrOf.Decide form (height s) (length ls), KindOf.Operand Boolean ∷ s) ∷ ls) (KindOf.Operand Boolean ∷ s) (Some (KindOf.Operand Boolean ∷ s))
  decided form s ls inner p h =
      let x = inner (p + 1) h.1 in
      (h.0, ((has_end code (p + 1) ls (Some (KindOf.Operand Boolean ∷ s)) h.1, (s, refl, (refl, x.0))), x.1))

  pub next_condition : (form : Shortcut) (x : ValueCode) (xs : List ValueCode) → Usable x Boolean → Conditions form xs → Conditions form (x ∷ xs)
  next_condition form x xs usable rest s agrees =
      let top = KindOf.Operand Boolean ∷ s in
      both code (other_code form x s) (others_code form xs s) top top (Some top)
      (decided form s (x.code (new_operand s) Boolean s) (usable.formed (new_operand s) s agrees refl))
      (rest s agrees)

  pub short_own : (form : Shortcut) (x y : ValueCode) (more : List ValueCode) → Usable x Boolean → Conditions form (y ∷ more) → Own (short form x y more) Boolean
  short_own form x y more usable rest =
      own_of (short form x y more) Boolean refl (λ h. boolean_plain h)
      (record {
        scalar = tt;
        formed = λ to s agrees at.
            let top = KindOf.Operand Boolean ∷ s in
            let first = x.code (new_operand s) Boolean s in
            both code (first ++ others_code form (y ∷ more) s) (moved_to to Boolean s) s top (Some (with_put to.named Boolean s))
            (both code first (others_code form (y ∷ more) s) s top (Some top) (usable.formed (new_operand s) s agrees refl) (rest s agrees))
            (moved_formed code to Boolean s tt at);
        constant = λ n is. absurd (cc);
      })

  -- The other constructs ----------------------------------------------------------------------------

  -- an operator with one operand, of the one type, which gives a value of the other
  pub applied_own : (runs : List RecordType → Bool) (op : UnaryOp) (operand ty : Ty) (x : ValueCode) → UnaryOf op operand ty → Valid.IsScalar ty → Usable x operand → Own (applied runs op operand ty x) ty
  applied_own runs op operand ty x has scalar usable =
      own_of (applied runs op operand ty x) ty refl (unary_plain op operand ty has)
      (record {
        scalar = scalar;
        formed = λ to s agrees at.
            let h = held x operand s in
            let f = found x operand s agrees usable in
            let after = Some (with_put to.named ty s) in
            both code h.code ((InstrOf.Unary op operand ty h.cell to, h.after) ∷ []) s h.after after f.formed
            (one code (InstrOf.Unary op operand ty h.cell to) h.after after (λ p next. (has, (s, f.taken, puts code p to ty s at next))));
        constant = λ n is. absurd (cc);
      })

  -- Allocators ---------------------------------------------------------------------------------------

  -- the collection of an access type stands around, and objects of this type can be made for it
  abbrev pub IsMade : ℕ → Ty → Type 0
  IsMade access of = IsAllocable code (length env) access of × IsHoused code env access × IsCreatable code env of

  -- behind the call of an Allocate there stand numbers (13.11)
  allocator_formed : (access : ℕ) (of ty : Ty) (s : List Kind) → Valid.IsScalar ty → Surrounds code env s → IsMade access of → Formed code (allocator_code access of ty s) s (Some (KindOf.Operand ty ∷ s))
  allocator_formed access of ty s scalar agrees (allocable, housed, known) p h =
      let may = subst (λ n. IsAllocable code n access of) (sym agrees.0) allocable in
      let last = h.1.1 in (
        h.0,
        ((scalar, may, refl, h.1.0, last, housed s agrees, granted_home_of code env s of agrees known.1), ((scalar, known.0, have_over address_numbers s, refl, last), tt)),
      )

  -- with the value of a part, or of a function: behind the call of an Allocate they stand over that value (13.11)
  behind_part_formed : (access t : ℕ) (ty : Ty) (s : List Kind) → Valid.IsScalar ty → Surrounds code env s → IsMade access (TyOf.Record t) → Formed code ((InstrOf.NewCopy access t ty (height s), KindOf.Operand (TyOf.Record t) ∷ s) ∷ (InstrOf.NewCopyIn t ty (height s), over_numbers address_numbers (KindOf.RecordValue ∷ s)) ∷ []) (KindOf.Operand (TyOf.Record t) ∷ s) (Some (KindOf.Operand ty ∷ s))
  behind_part_formed access t ty s scalar agrees (allocable, housed, known) p h =
      let may = subst (λ n. IsAllocable code n access (TyOf.Record t)) (sym agrees.0) allocable in
      let last = h.1.1 in (
        h.0,
        ((scalar, may, (s, refl, (refl, h.1.0, last)), housed s agrees, granted_home code env s (DeclarationOf.Record t) agrees known.1), ((scalar, known.0, have_over address_numbers (KindOf.RecordValue ∷ s), refl, refl, last), tt)),
      )

  -- and the part itself is found before
  copy_formed : (access t : ℕ) (x : Reached) (ty : Ty) (s : List Kind) → Valid.IsScalar ty → Surrounds code env s → FollowsAt x t → IsBegun code env (start_of x) → IsMade access (TyOf.Record t) → Formed code (behind_skip access t x ty s) s (Some (KindOf.Operand ty ∷ s))
  copy_formed access t x ty s scalar agrees followed begun made =
      let part = KindOf.Operand (TyOf.Record t) ∷ s in
      let last : List Line = (InstrOf.NewCopy access t ty (height s), part) ∷ (InstrOf.NewCopyIn t ty (height s), over_numbers address_numbers (KindOf.RecordValue ∷ s)) ∷ [] in
      both code (part_code x t s) last s part (Some (KindOf.Operand ty ∷ s))
      (part_formed code env x t s agrees followed begun)
      (behind_part_formed access t ty s scalar agrees made)

  -- with a value of an elementary type: that is evaluated before, and goes into the object
  given_formed : (access : ℕ) (of : Ty) (x : ValueCode) (ty : Ty) (s : List Kind) → Valid.IsScalar ty → Surrounds code env s → IsMade access of → Usable x of → Formed code (given_code access of x ty s) s (Some (KindOf.Operand ty ∷ s))
  given_formed access of x ty s scalar agrees made usable =
      let value = KindOf.Operand of ∷ s in
      let top = KindOf.Operand ty ∷ value in
      let after = Some (KindOf.Operand ty ∷ s) in
      let last : List Line = (InstrOf.GiveValue of ty (height s), top) ∷ [] in
      let lines = x.code (new_operand s) of s in
      both code (lines ++ allocator_code access of ty value) last s top after
      (both code lines (allocator_code access of ty value) s value (Some top)
      (usable.formed (new_operand s) s agrees refl)
      (allocator_formed access of ty value scalar agrees made))
      (one code (InstrOf.GiveValue of ty (height s)) top after (λ p next. (usable.scalar, scalar, (s, refl, (refl, next)))))

  -- what makes an object stands behind an instruction that does nothing; its value is a new operand, and then goes where it is wanted
  made_own : (access : ℕ) (runs : List RecordType → Bool) (lines : Ty → List Kind → List Line) → ((ty : Ty) (s : List Kind) → Valid.IsScalar ty → Surrounds code env s → Formed code (lines ty s) s (Some (KindOf.Operand ty ∷ s))) → Own (made_by access runs lines) (TyOf.Access access)
  made_own access runs lines formed =
      own_as (made_by access runs lines) (TyOf.Access access) refl tt
      (λ ty scalar. record {
        scalar = scalar;
        formed = λ to s agrees at.
            let top = KindOf.Operand ty ∷ s in
            let after = Some (with_put to.named ty s) in
            both code ((InstrOf.Skip 0, s) ∷ []) (lines ty s ++ moved_to to ty s) s s after
            (one code (InstrOf.Skip 0) s (Some s) (λ p next. let e : p + 1 ≡ p + 1 + 0 = omega arith in leads_at code (p + 1) (p + 1 + 0) s e next))
            (both code (lines ty s) (moved_to to ty s) s top after (formed ty s scalar agrees) (moved_formed code to ty s scalar at));
        constant = λ n is. absurd (cc);
      })

  pub new_own : (access : ℕ) (of : Ty) → IsMade access of → Own (new access of None None) (TyOf.Access access)
  new_own access of made = made_own access (λ records. is_declared records of) (allocator_code access of) (λ ty s scalar agrees. allocator_formed access of ty s scalar agrees made)

  pub copied_own : (access t : ℕ) (x : Reached) → FollowsAt x t → IsBegun code env (start_of x) → IsMade access (TyOf.Record t) → Own (new_copy access t (Some x)) (TyOf.Access access)
  copied_own access t x followed begun made = made_own access (λ records. is_plain records t && part_runs x records) (behind_skip access t x) (λ ty s scalar agrees. copy_formed access t x ty s scalar agrees followed begun made)

  pub given_own : (access : ℕ) (of : Ty) (x : ValueCode) → IsMade access of → Usable x of → Own (new_given access of x) (TyOf.Access access)
  given_own access of x made usable = made_own access (λ records. is_run_type of && x.runs records) (given_code access of x) (λ ty s scalar agrees. given_formed access of x ty s scalar agrees made usable)

  module _ (records : List RecordType) where
    -- the value of a component goes where it is wanted
    taken_formed : (b : Start) (steps : List Step) (t position : ℕ) (ty : Ty) (to : Cell) (s : List Kind) → Valid.IsScalar ty → Surrounds code env s → Follows b steps t → IsBegun code env b → Placed to s → Formed code (taken_code b steps t position ty to s) s (Some (with_put to.named ty s))
    taken_formed b steps t position ty to s scalar agrees followed begun at =
        let part = KindOf.Operand (TyOf.Record t) ∷ s in
        let after = Some (with_put to.named ty s) in
        both code (located_code b steps t s) ((InstrOf.TakePart t position ty to, part) ∷ []) s part after
        (located_formed code env b steps t s agrees followed begun)
        (one code (InstrOf.TakePart t position ty to) part after (λ p next. (scalar, (s, refl, puts code p to ty s at next))))

    component_formed : (b : Start) (steps : List Step) (t position : ℕ) (ty : Ty) (to : Cell) (s : List Kind) → Valid.IsScalar ty → Surrounds code env s → Follows b steps t → IsBegun code env b → Placed to s → Formed code (component_code b steps t position ty to s) s (Some (with_put to.named ty s))
    component_formed (OfVariable v) [] t position ty to s scalar agrees followed begun at = one code (InstrOf.FetchPart v t position ty to) s (Some (with_put to.named ty s)) (λ p next. (scalar, puts code p to ty s at next, variable_there code env s v begun.0 agrees begun.1))
    component_formed (OfVariable v) (step ∷ steps) t position ty to s scalar agrees followed begun at = taken_formed (OfVariable v) (step ∷ steps) t position ty to s scalar agrees followed begun at
    component_formed (OfValue runs lines) steps t position ty to s scalar agrees followed begun at = taken_formed (OfValue runs lines) steps t position ty to s scalar agrees followed begun at
    component_formed (OfRecord u runs lines) steps t position ty to s scalar agrees followed begun at = taken_formed (OfRecord u runs lines) steps t position ty to s scalar agrees followed begun at

    -- a discriminant of the pool that is found first is one of Storage_Count
    pub discriminant_own : (o : Option Reached) (position : ℕ) → IsFound code env records o → (discriminant o position).runs records ≡ true → Own (discriminant o position) TyOf.Count
    discriminant_own None position found_so runs = absurd (cc)
    discriminant_own (Some x) position found_so runs =
        own_of (discriminant (Some x) position) TyOf.Count refl (number_plain TyOf.Count tt)
        (record {
          scalar = tt;
          formed = λ to s agrees at.
              let which = discriminant_at position in
              let pool = KindOf.Operand (TyOf.Record block_pool) ∷ s in
              let after = Some (with_put to.named TyOf.Count s) in
              both code (part_code x block_pool s) ((InstrOf.TakeDiscriminant block_pool which to, pool) ∷ []) s pool after
              (part_formed code env x block_pool s agrees (found_so.0 block_pool) (found_so.1 (part_begun records x runs)))
              (one code (InstrOf.TakeDiscriminant block_pool which to) pool after (λ p next. (s, refl, puts code p to TyOf.Count s at next)));
          constant = λ n is. absurd (cc);
        })

    pub read_own : (o : Option Reached) (ty : Ty) → IsFound code env records o → (read o ty).runs records ≡ true → Own (read o ty) ty
    read_own None ty found_so runs = absurd (cc)
    read_own (Some (Object b steps)) ty found_so runs =
        let e = both_true (is_run_type ty) (part_runs (Object b steps) records) runs in
        let begun = found_so.1 (both_true _ _ e.1).0 in
        own_as (read (Some (Object b steps)) ty) ty refl (run_scalar ty e.0)
        (λ u scalar. record {
          scalar = scalar;
          formed = λ to s agrees at. component_formed b steps any_type first_position u to s scalar agrees (found_so.0 any_type) begun at;
          constant = λ n is. absurd (cc);
        })
    read_own (Some (Part b steps t position)) ty found_so runs =
        let e = both_true (is_run_type ty) (parts_run records b steps t) runs in
        let begun = found_so.1 (both_true _ _ e.1).0 in
        own_as (read (Some (Part b steps t position)) ty) ty refl (run_scalar ty e.0)
        (λ u scalar. record {
          scalar = scalar;
          formed = λ to s agrees at. component_formed b steps t position u to s scalar agrees (found_so.0 t) begun at;
          constant = λ n is. absurd (cc);
        })
    read_own (Some (Result b)) ty found_so runs = absurd (cc)
    read_own (Some (Variable v)) ty found_so runs =
        own_as (read (Some (Variable v)) ty) ty refl (run_scalar ty runs)
        (λ u scalar. record {
          scalar = scalar;
          formed = λ to s agrees at. one code (read_from (local_at s v) v u to s) s (Some (with_put to.named u s)) (λ p next. read_fine code (local_at s v) v u to s p refl (let named = found_so.1 refl in variable_there code env s v named.0 agrees named.1) scalar (puts code p to u s at next));
          constant = λ n is. absurd (cc);
        })
