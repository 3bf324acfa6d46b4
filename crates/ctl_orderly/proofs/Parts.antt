-- The parts of an object that come to life and are closed: the controlled ones with a Finalize that the user wrote, by their paths.
use Rattle.std.specs.Prelude.{◌≡◌, ℕ, zero, suc, ◌+◌, ◌<◌, ◌≤◌, List, [], ◌∷◌, ◌++◌, length, Bool, true, false, if◌then◌else◌, is_some}
use Rattle.std.proofs.Common.{refl, sym, ap, ◌∙◌, arith, append_assoc, append-nil, ◌⊎◌, inl, inr}
use Rattle.ctl_program.specs.declared.types.Ty.{Ty}
use Rattle.ctl_program.specs.declared.types.Ty.TheVariants.{Integer, Count, Boolean, Address, Handle, Access, Record}
use Rattle.ctl_program.specs.declared.types.Component.{Component}
use Rattle.ctl_meaning.specs.Lists.{keep, pull_item, pull_rest}
use Rattle.ctl_meaning.specs.Types.{Tables, Placed, placed, placed_from, components_of, is_controlled, operation, cells_of}
use Rattle.ctl_meaning.specs.Finalization.{no_component}
use Rattle.ctl_meaning.specs.Emptied.{Lists}

-- a type whose objects come to life by themselves: controlled, with a Finalize that the user wrote
pub record Closes (k : Tables) (t : ℕ) : Type 0 where
  pub controlled : is_controlled k t ≡ true
  pub written : is_some (operation (λ x. x.finalize) k t) ≡ true

-- of a part of this type at a path, the parts by their own paths
pub data PartIn (k : Tables) : List ℕ → ℕ → List ℕ → Type 0 where
  itself : {path : List ℕ} {t : ℕ} {q : List ℕ} → Closes k t → q ≡ path → PartIn k path t q
  inside : {path : List ℕ} {t : ℕ} {q : List ℕ} (c : Placed) (u : ℕ) → Lists c (placed k t) → c.ty ≡ Record u → PartIn k (path ++ c.position ∷ []) u q → PartIn k path t q

-- Paths ------------------------------------------------------------------------------------

-- the first path leads to the second one
abbrev pub Leads : List ℕ → List ℕ → Type 0
Leads path q = (rest : List ℕ) × (q ≡ path ++ rest)

pub leads_itself : (path q : List ℕ) → q ≡ path → Leads path q
leads_itself path q e = ([], e ∙ sym (append-nil path))

pub leads_up : (path more q : List ℕ) → Leads (path ++ more) q → Leads path q
leads_up path more q h = (more ++ h.0, h.1 ∙ append_assoc path more h.0)

pub part_leads : {k : Tables} {path : List ℕ} {t : ℕ} {q : List ℕ} → PartIn k path t q → Leads path q
part_leads {path = path} {q = q} (itself c e) = leads_itself path q e
part_leads {path = path} {q = q} (inside c u i e h) = leads_up path (c.position ∷ []) q (part_leads h)

tails : (x y : ℕ) (a b : List ℕ) → x ∷ a ≡ y ∷ b → a ≡ b
tails x y a b e = cc e

heads : (x y : ℕ) (a b : List ℕ) → x ∷ a ≡ y ∷ b → x ≡ y
heads x y a b e = cc e

same_step : (path r s : List ℕ) (a b : ℕ) → (path ++ a ∷ []) ++ r ≡ (path ++ b ∷ []) ++ s → a ≡ b
same_step [] r s a b e = heads a b r s e
same_step (x ∷ path) r s a b e = same_step path r s a b (tails x x _ _ e)

-- one path goes through one component
pub one_way : (path q : List ℕ) (a b : ℕ) → Leads (path ++ a ∷ []) q → Leads (path ++ b ∷ []) q → a ≡ b
one_way path q a b h i = same_step path h.0 i.0 a b (sym h.1 ∙ i.1)

longer : (path rest : List ℕ) (a : ℕ) → path ≡ (path ++ a ∷ []) ++ rest → ⊥
longer [] rest a e = absurd (cc)
longer (x ∷ path) rest a e = longer path rest a (tails x x _ _ e)

-- a component is not the whole
pub not_whole : (path q : List ℕ) (a : ℕ) → Leads (path ++ a ∷ []) q → q ≡ path → ⊥
not_whole path q a h e = longer path h.0 a (sym e ∙ h.1)

-- Components in a picked order ----------------------------------------------------------------

-- two components are not the same, if both have parts
abbrev pub Off : Placed → Placed → Type 0
Off x y = (u v : ℕ) → x.ty ≡ Record u → y.ty ≡ Record v → x.position ≡ y.position → ⊥

abbrev pub Apart : List Placed → Type 0
Apart [] = Unit {0}
Apart (x ∷ xs) = ((y : Placed) → Lists y xs → Off x y) × Apart xs

no_record : (u : ℕ) → Integer ≡ Record u → ⊥
no_record u e = absurd (cc)

-- one that is pulled out is in the list, unless it has no parts
pub pulled_listed : (i : ℕ) (xs : List Placed) (u : ℕ) → (pull_item no_component i xs).ty ≡ Record u → Lists (pull_item no_component i xs) xs
unfolding pull_item no_component
pulled_listed i [] u e = no_record u e
pulled_listed zero (x ∷ xs) u e = inl refl
pulled_listed (suc i) (x ∷ xs) u e = inr (pulled_listed i xs u e)

pub rest_listed : (i : ℕ) (xs : List Placed) (y : Placed) → Lists y (pull_rest i xs) → Lists y xs
unfolding pull_rest
rest_listed i [] y h = absurd h
rest_listed zero (x ∷ xs) y h = inr h
rest_listed (suc i) (x ∷ xs) y (inl e) = inl e
rest_listed (suc i) (x ∷ xs) y (inr h) = inr (rest_listed i xs y h)

-- it is none of the others
pub rest_off : (i : ℕ) (xs : List Placed) → Apart xs → (y : Placed) → Lists y (pull_rest i xs) → Off (pull_item no_component i xs) y
unfolding pull_item pull_rest no_component
rest_off i [] a y h = absurd h
rest_off zero (x ∷ xs) a y h = a.0 y h
rest_off (suc i) (x ∷ xs) a y (inl s) = λ u v e f g. a.0 (pull_item no_component i xs) (pulled_listed i xs u e) v u (sym (ap (λ z. z.ty) s) ∙ f) e (sym (ap (λ z. z.position) s) ∙ sym g)
rest_off (suc i) (x ∷ xs) a y (inr h) = rest_off i xs a.1 y h

pub rest_apart : (i : ℕ) (xs : List Placed) → Apart xs → Apart (pull_rest i xs)
unfolding pull_rest
rest_apart i [] a = tt
rest_apart zero (x ∷ xs) a = a.1
rest_apart (suc i) (x ∷ xs) a = (λ y h. a.0 y (rest_listed i xs y h), rest_apart i xs a.1)

pub pulled_or : (i : ℕ) (xs : List Placed) (y : Placed) → i < length xs → Lists y xs → (y ≡ pull_item no_component i xs) ⊎ Lists y (pull_rest i xs)
unfolding pull_item pull_rest
pulled_or i [] y lt h = absurd h
pulled_or zero (x ∷ xs) y lt (inl e) = inl e
pulled_or zero (x ∷ xs) y lt (inr h) = inr h
pulled_or (suc i) (x ∷ xs) y lt (inl e) = inr (inl e)
pulled_or (suc i) (x ∷ xs) y lt (inr h) = elim (pulled_or i xs y (omega arith) h) [ inl e ↦ inl e | inr l ↦ inr (inr l) ]

pub rest_length : (i n : ℕ) (xs : List Placed) → length xs ≡ suc n → i < suc n → length (pull_rest i xs) ≡ n
unfolding pull_rest
rest_length i n [] e lt = absurd (omega arith)
rest_length zero n (x ∷ xs) e lt = omega arith
rest_length (suc i) zero (x ∷ xs) e lt = absurd (omega arith)
rest_length (suc i) (suc n) (x ∷ xs) e lt = let h = rest_length i n xs (omega arith) (omega arith) in omega arith

-- Components of a type ----------------------------------------------------------------------

kept_if : (b : Bool) (x y : Placed) (ys : List Placed) → Lists y (if b then x ∷ ys else ys) → (y ≡ x) ⊎ Lists y ys
kept_if true x y ys h = h
kept_if false x y ys h = inr h

pub kept_listed : (p : Placed → Bool) (xs : List Placed) (y : Placed) → Lists y (keep p xs) → Lists y xs
unfolding keep
kept_listed p [] y h = absurd h
kept_listed p (x ∷ xs) y h = elim (kept_if (p x) x y (keep p xs) h) [ inl e ↦ inl e | inr i ↦ inr (kept_listed p xs y i) ]

apart_if : (b : Bool) (x : Placed) (ys : List Placed) → ((y : Placed) → Lists y ys → Off x y) → Apart ys → Apart (if b then x ∷ ys else ys)
apart_if true x ys h a = (h, a)
apart_if false x ys h a = a

pub kept_apart : (p : Placed → Bool) (xs : List Placed) → Apart xs → Apart (keep p xs)
unfolding keep
kept_apart p [] a = tt
kept_apart p (x ∷ xs) a = apart_if (p x) x (keep p xs) (λ y h. a.0 y (kept_listed p xs y h)) (kept_apart p xs a.1)

keeps_if : (b : Bool) (x y : Placed) (ys : List Placed) → b ≡ true → y ≡ x → Lists y (if b then x ∷ ys else ys)
keeps_if true x y ys h e = inl e
keeps_if false x y ys h e = absurd (cc)

more_if : (b : Bool) (x y : Placed) (ys : List Placed) → Lists y ys → Lists y (if b then x ∷ ys else ys)
more_if true x y ys h = inr h
more_if false x y ys h = h

pub listed_kept : (p : Placed → Bool) (xs : List Placed) (y : Placed) → Lists y xs → p y ≡ true → Lists y (keep p xs)
unfolding keep
listed_kept p [] y h e = absurd h
listed_kept p (x ∷ xs) y (inl s) e = keeps_if (p x) x y (keep p xs) (ap p (sym s) ∙ e) s
listed_kept p (x ∷ xs) y (inr h) e = more_if (p x) x y (keep p xs) (listed_kept p xs y h e)

later_positions : (k : Tables) (n offset : ℕ) (cs : List Component) (y : Placed) → Lists y (placed_from k n offset cs) → n ≤ y.position
unfolding placed_from
later_positions k n offset [] y h = absurd h
later_positions k n offset (c ∷ cs) y (inl e) = let a = ap (λ z. z.position) e in omega arith
later_positions k n offset (c ∷ cs) y (inr h) = let a = later_positions k (n + 1) (offset + cells_of k c.ty) cs y h in omega arith

from_apart : (k : Tables) (n offset : ℕ) (cs : List Component) → Apart (placed_from k n offset cs)
unfolding placed_from
from_apart k n offset [] = tt
from_apart k n offset (c ∷ cs) = (λ y h u v e f g. let a = later_positions k (n + 1) (offset + cells_of k c.ty) cs y h in absurd (omega arith), from_apart k (n + 1) (offset + cells_of k c.ty) cs)

pub placed_apart : (k : Tables) (t : ℕ) → Apart (placed k t)
unfolding placed
placed_apart k t = from_apart k 1 0 (components_of k t)

-- a type is a record type, or not
pub record_or_not : (ty : Ty) → ((u : ℕ) × (ty ≡ Record u)) ⊎ ((u : ℕ) → ty ≡ Record u → ⊥)
record_or_not Integer = inr (λ u e. absurd (cc))
record_or_not Count = inr (λ u e. absurd (cc))
record_or_not Boolean = inr (λ u e. absurd (cc))
record_or_not Address = inr (λ u e. absurd (cc))
record_or_not Handle = inr (λ u e. absurd (cc))
record_or_not (Access a) = inr (λ u e. absurd (cc))
record_or_not (Record u) = inl (u, refl)
