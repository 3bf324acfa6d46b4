-- What the tests of the check say of types.
use Rattle.std.proofs.Common.{arith, ◌≡◌, ◌≤◌, refl, ap, ℕ, nat_lt, Bool, true, false, if◌then◌else◌, inl}
use Rattle.std.proofs.lemmas.Bool.Decides.{nat_tests}
use Rattle.ctl_program.specs.declared.types.Ty.{Ty}
use Rattle.ctl_program.specs.declared.types.Ty.TheVariants as ty
use Rattle.ctl_program.specs.Limits.{integer_last}
use Rattle.ctl_syntax.specs.declared.item.Mode.{Mode}
use Rattle.ctl_syntax.specs.declared.item.Mode.TheVariants as mode
use Rattle.ctl_typing.specs.declared.found.Asked.{Asked}
use Rattle.ctl_typing.specs.declared.found.Asked.TheVariants as asking
use Rattle.ctl_typing.specs.Lookup.{same, is_numeric, is_ordered, is_comparable}
use Rattle.ctl_typing.specs.Typing.{start_of, adopted, number_cell}
use Rattle.ctl_well_typed.specs.Setting.{Setting, Frames, InView}
use Rattle.ctl_well_typed.specs.Types.{is_number, is_scalar, IsCell, has_order, Covers, same_type, ancestor, copy_of}
use Rattle.ctl_sound.specs.Sound.{passing_of}

pub same_is : (s t : Ty) → same s t ≡ true → s ≡ t
same_is ty.Integer ty.Integer h = refl
same_is ty.Count ty.Count h = refl
same_is ty.Boolean ty.Boolean h = refl
same_is ty.Address ty.Address h = refl
same_is ty.Handle ty.Handle h = refl
same_is (ty.Access m) (ty.Access n) h = let e : m ≡ n = grind (arith, nat_tests) in ap ty.Access e
same_is (ty.Record m) (ty.Record n) h = let e : m ≡ n = grind (arith, nat_tests) in ap ty.Record e
same_is s t h = absurd (cc)

pub same_self : (t : Ty) → same t t ≡ true
same_self ty.Integer = refl
same_self ty.Count = refl
same_self ty.Boolean = refl
same_self ty.Address = refl
same_self ty.Handle = refl
same_self (ty.Access n) = grind (arith, nat_tests)
same_self (ty.Record n) = grind (arith, nat_tests)

pub number_is : (t : Ty) → is_numeric t ≡ true → is_number t ≡ true
number_is ty.Integer h = refl
number_is ty.Count h = refl
number_is t h = absurd (cc)

pub order_is : (t : Ty) → is_ordered t ≡ true → has_order t ≡ true
order_is ty.Integer h = refl
order_is ty.Count h = refl
order_is ty.Boolean h = refl
order_is t h = absurd (cc)

pub comparable_is : (t : Ty) → is_comparable t ≡ true → is_scalar t ≡ true
comparable_is (ty.Record n) h = absurd (cc)
comparable_is t h = refl

pub number_scalar : (t : Ty) → is_number t ≡ true → is_scalar t ≡ true
number_scalar ty.Integer h = refl
number_scalar ty.Count h = refl
number_scalar t h = absurd (cc)

pub order_scalar : (t : Ty) → has_order t ≡ true → is_scalar t ≡ true
order_scalar (ty.Record n) h = absurd (cc)
order_scalar t h = refl

-- what stands for a literal is in the range of both number types
within_range : (m : ℕ) → number_cell m ≤ integer_last
within_range m = by_test (nat_lt integer_last m) refl
  where
    by_test : (b : Bool) → nat_lt integer_last m ≡ b → (if b then 0 else m) ≤ integer_last
    by_test true h = omega arith
    by_test false h = grind (arith, nat_tests)

pub number_has_cell : (t : Ty) (m : ℕ) → is_number t ≡ true → IsCell t (number_cell m)
number_has_cell ty.Integer m h = inl (within_range m)
number_has_cell ty.Count m h = within_range m
number_has_cell t m h = absurd (cc)

-- numbers are of types that are in view everywhere
pub number_in_view : (k : Setting) (env : Frames) (t : Ty) → is_number t ≡ true → InView k env t
number_in_view k env ty.Integer h = tt
number_in_view k env ty.Count h = tt
number_in_view k env t h = absurd (cc)

pub adopted_number : (asked : Asked) → is_number (adopted asked) ≡ true
adopted_number (asking.Exactly ty.Integer) = refl
adopted_number (asking.Exactly ty.Count) = refl
adopted_number (asking.Exactly ty.Boolean) = refl
adopted_number (asking.Exactly ty.Address) = refl
adopted_number (asking.Exactly ty.Handle) = refl
adopted_number (asking.Exactly (ty.Access a)) = refl
adopted_number (asking.Exactly (ty.Record t)) = refl
adopted_number asking.Anything = refl
adopted_number asking.Number = refl
adopted_number asking.Ordered = refl
adopted_number asking.Comparable = refl

pub copy_is : (m : Mode) (t : Ty) → copy_of (passing_of m) t ≡ start_of m t
copy_is mode.InOut t = refl
copy_is mode.In ty.Integer = refl
copy_is mode.In ty.Count = refl
copy_is mode.In ty.Boolean = refl
copy_is mode.In ty.Address = refl
copy_is mode.In ty.Handle = refl
copy_is mode.In (ty.Access a) = refl
copy_is mode.In (ty.Record t) = refl
copy_is mode.Out ty.Integer = refl
copy_is mode.Out ty.Count = refl
copy_is mode.Out ty.Boolean = refl
copy_is mode.Out ty.Address = refl
copy_is mode.Out ty.Handle = refl
copy_is mode.Out (ty.Access a) = refl
copy_is mode.Out (ty.Record t) = refl

pub covers_scalar : (k : Setting) (t s : Ty) → is_scalar t ≡ true → Covers k t s → s ≡ t
covers_scalar k t s h same_type = refl
covers_scalar k t s h (ancestor d) = absurd (cc)
