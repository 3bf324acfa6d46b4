-- What a name means, by what it reaches: a variable, a component of a part, or an object (4.1).
use Rattle.std.proofs.Common.{◌≡◌, ℕ, List, [], ◌∷◌, ◌++◌, Some, true, refl, sym, subst}
use Rattle.ctl_program.specs.declared.types.Var.{Var}
use Rattle.ctl_program.specs.declared.expression.Name.{Name}
use Rattle.ctl_program.specs.declared.expression.Step.TheVariants.{Component}
use Rattle.ctl_meaning.specs.Outcome.{Act, opened_outcome}
use Rattle.ctl_meaning.specs.Types.{Elementary}
use Rattle.ctl_meaning.specs.Names.{Tools, Found, begins_as, opened_names}
use Rattle.ctl_meaning.specs.Expressions.{Naming, eval_name, var_part}
use Rattle.ctl_layout.specs.Parts.{OfVariable, Reached, Variable, Part, Object, Result, are_followed}
use Rattle.ctl_layout.specs.Values.{reached_by}
use Rattle.ctl_gen.proofs.Parts.{Leads, find_as, find_by, given_by, name_leads, object_leads, part_leads}
use Rattle.ctl_gen.proofs.Expressions as X

module _ (K : Tools) where
  -- what a name means that reaches something, and begins with the value of this act, if it begins with one
  abbrev pub Reaches : Reached → (List ℕ → Act (List ℕ)) → (List ℕ → Act Found) → Type 0
  Reaches (Variable v) act find = X.Uses v find
  Reaches (Object b steps) act find = (are_followed b steps ≡ true) × (find ≡ find_by K act steps b)
  Reaches (Part b steps t position) act find = (are_followed b steps ≡ true) × (find ≡ find_by K act (steps ++ Component t position ∷ []) b)
  Reaches (Result b) act find = Unit {0}

  -- in one tick
  uses_it : (x : Var) (act : List ℕ → Act (List ℕ)) → X.Uses x (find_as K act Elementary [] (OfVariable x))
  unfolding var_part opened_names opened_outcome
  uses_it x act v c l w = refl

  reaches : (x : Reached) (act : List ℕ → Act (List ℕ)) (find : Naming) → Leads K x act find → Reaches x act (find Elementary K)
  unfolding begins_as
  reaches (Variable v) act find h = subst (X.Uses v) (sym (h.finds Elementary)) (uses_it v act)
  reaches (Object b steps) act find h = (h.walked, object_leads K b steps act find h)
  reaches (Part b steps t position) act find h = (h.walked, part_leads K b steps t position act find Elementary h)
  reaches (Result b) act find h = tt

  pub name_finds : (n : Name) (x : Reached) → reached_by n ≡ Some x → Reaches x (given_by n K) (eval_name n Elementary K)
  name_finds n x is = reaches x (given_by n K) (eval_name n) (name_leads K n x is)
