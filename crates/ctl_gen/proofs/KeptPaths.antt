-- The paths that the meaning gathers while a part is created are those of the components that are complete, as its clean-up takes them (7.6.1).
use Rattle.std.proofs.Common.{◌≡◌, ℕ, zero, suc, List, [], ◌∷◌, ◌++◌, Bool, true, false, refl, sym, ap, ◌∙◌, subst}
use Rattle.std.specs.Prelude.{◌||◌, nat_eq, not, if◌then◌else◌, ◌&&◌}
use Rattle.std.proofs.lemmas.Bool.{eqb-true, eq-eqb}
use Rattle.ctl_program.specs.declared.types.Ty.{Ty}
use Rattle.ctl_program.specs.declared.types.Ty.TheVariants as TyOf
use Rattle.ctl_meaning.specs.Lists.{any_of, begins, keep, same_list}
use Rattle.ctl_meaning.specs.Types.{Placed, depth, has_controlled, has_default, is_controlled, is_initialized, of_record, placed}
use Rattle.ctl_meaning.specs.Names.{Tools}
use Rattle.ctl_meaning.specs.Finalization.{Spot, component_at}
use Rattle.ctl_meaning.specs.Initialization.{paths_of, paths_within}
use Rattle.ctl_code.specs.declared.code.Begun.{Begun}
use Rattle.ctl_code.specs.Table.{is_one_of}
use Rattle.ctl_gen.proofs.Known.{both_true}
use Rattle.ctl_gen.proofs.Each.{Each, each_all}
use Rattle.ctl_gen.proofs.Complete.{AreSame, behind, initialized_parts, paths_in, placed_at}
use Rattle.ctl_gen.proofs.ChosenParts.{AreKept, IsKept, begins_front, each_of, each_tested, paths_below}
use Rattle.ctl_gen.proofs.FailedParts.{AreComplete, StandsIn}

each_and_each : {A : Type 0} (P : A → Type 0) (xs ys : List A) → Each P xs → Each P ys → Each P (xs ++ ys)
each_and_each P [] ys h g = g
each_and_each P (x ∷ xs) ys h g = (h.0, each_and_each P xs ys h.1 g)

each_first : {A : Type 0} (P : A → Type 0) (xs ys : List A) → Each P (xs ++ ys) → Each P xs
each_first P [] ys h = tt
each_first P (x ∷ xs) ys h = (h.0, each_first P xs ys h.1)

each_last : {A : Type 0} (P : A → Type 0) (xs ys : List A) → Each P (xs ++ ys) → Each P ys
each_last P [] ys h = h
each_last P (x ∷ xs) ys h = each_last P xs ys h.1

passes : {A : Type 0} (p : A → Bool) (xs : List A) → Each (λ x. p x ≡ true) (keep p xs)
unfolding keep
passes p [] = tt
passes p (x ∷ xs) = one (p x) refl (passes p xs)
  where
    one : (b : Bool) → p x ≡ b → Each (λ y. p y ≡ true) (keep p xs) → Each (λ y. p y ≡ true) (if b then x ∷ keep p xs else keep p xs)
    one true is rest = (is, rest)
    one false is rest = rest

same_itself : (xs : List ℕ) → same_list xs xs ≡ true
unfolding same_list
same_itself [] = refl
same_itself (x ∷ xs) = ap (λ b. b && same_list xs xs) (eq-eqb x x refl) ∙ same_itself xs

begins_itself : (xs : List ℕ) → begins xs xs ≡ true
unfolding begins
begins_itself [] = refl
begins_itself (x ∷ xs) = ap (λ b. b && begins xs xs) (eq-eqb x x refl) ∙ begins_itself xs

kept_itself : (qs : List (List ℕ)) → AreKept qs qs
unfolding any_of
kept_itself [] = tt
kept_itself (q ∷ qs) = (ap (λ b. b || any_of (same_list q) qs) (same_itself q), each_all (IsKept qs) (IsKept (q ∷ qs)) (λ x e. ap (λ b. same_list x q || b) e ∙ or_true (same_list x q)) qs (kept_itself qs))
  where
    or_true : (b : Bool) → (b || true) ≡ true
    or_true true = refl
    or_true false = refl

same_is : (xs ys : List ℕ) → same_list xs ys ≡ true → xs ≡ ys
unfolding same_list
same_is [] [] e = refl
same_is [] (y ∷ ys) e = absurd (cc)
same_is (x ∷ xs) [] e = absurd (cc)
same_is (x ∷ xs) (y ∷ ys) e = let h = both_true (nat_eq x y) (same_list xs ys) e in ap (λ z. z ∷ xs) (eqb-true x y h.0) ∙ ap (λ zs. y ∷ zs) (same_is xs ys h.1)

-- what is true of each of these is true of what is the same as one of them
kept_is : (P : List ℕ → Type 0) (q : List ℕ) (qs : List (List ℕ)) → any_of (same_list q) qs ≡ true → Each P qs → P q
unfolding any_of
kept_is P q [] e h = absurd (cc e)
kept_is P q (x ∷ qs) e h = by (same_list q x) refl e (λ e1. kept_is P q qs e1 h.1)
  where
    by : (b : Bool) → same_list q x ≡ b → (b || any_of (same_list q) qs) ≡ true → (any_of (same_list q) qs ≡ true → P q) → P q
    by true is e1 rest = subst P (sym (same_is q x is)) h.0
    by false is e1 rest = rest e1

not_true : (b : Bool) → not b ≡ true → b ≡ false
not_true true e = absurd (cc)
not_true false e = refl

or_middle : (a b c : Bool) → b ≡ true → ((a || b) || c) ≡ true
or_middle true b c e = refl
or_middle false b c e = ap (λ d. d || c) e

paths_more : (K : Tools) (n : ℕ) (path : List ℕ) (t : ℕ) → paths_within K (suc n) path t ≡ (if is_controlled K.tables t then path ∷ [] else []) ++ each_of (paths_below K n path) (placed K.tables t)
unfolding paths_within
paths_more K n path t = refl

-- paths within a part begin with its own
paths_begin : (K : Tools) (n : ℕ) (path : List ℕ) (t : ℕ) → Each (λ q. begins path q ≡ true) (paths_within K n path t)
unfolding paths_within of_record
paths_begin K zero path t = tt
paths_begin K (suc n) path t = subst (Each Begins) (sym (paths_more K n path t)) (each_and_each Begins (if is_controlled K.tables t then path ∷ [] else []) (each_of (paths_below K n path) (placed K.tables t)) (first (is_controlled K.tables t)) (below (λ p u. each_all _ Begins (λ q e. begins_front path (p.position ∷ []) q e) _ (paths_begin K n (path ++ p.position ∷ []) u)) (placed K.tables t)))
  where
    Begins : List ℕ → Type 0
    Begins q = begins path q ≡ true

    first : (b : Bool) → Each Begins (if b then path ∷ [] else [])
    first true = (begins_itself path, tt)
    first false = tt

    of_type : (p : Placed) → ((u : ℕ) → Each Begins (paths_within K n (path ++ p.position ∷ []) u)) → (ty : Ty) → Each Begins (of_record [] (paths_within K n (path ++ p.position ∷ [])) ty)
    of_type p h (TyOf.Record u) = h u
    of_type p h _ = tt

    below : ((p : Placed) (u : ℕ) → Each Begins (paths_within K n (path ++ p.position ∷ []) u)) → (ps : List Placed) → Each Begins (each_of (paths_below K n path) ps)
    below h [] = tt
    below h (p ∷ ps) = each_and_each Begins (paths_below K n path p) (each_of (paths_below K n path) ps) (of_type p (h p) p.ty) (below h ps)

module _ (K : Tools) (s : Spot) where
  of_begin : (p : Placed) → Each (λ q. begins (s.path ++ p.position ∷ []) q ≡ true) (paths_of K s p)
  unfolding paths_of component_at of_record
  of_begin p = by p.ty
    where
      by : (ty : Ty) → Each (λ q. begins (s.path ++ p.position ∷ []) q ≡ true) (of_record [] (paths_within K (depth K.tables) (s.path ++ p.position ∷ [])) ty)
      by (TyOf.Record u) = paths_begin K (depth K.tables) (s.path ++ p.position ∷ []) u
      by _ = tt

  all_in : (P : List ℕ → Type 0) (ps : List Placed) → Each (λ p. Each P (paths_of K s p)) ps → Each P (paths_in K s ps)
  all_in P [] h = tt
  all_in P (p ∷ ps) h = each_and_each P (paths_of K s p) (paths_in K s ps) h.0 (all_in P ps h.1)

  in_each : (P : List ℕ → Type 0) (ps : List Placed) → Each P (paths_in K s ps) → Each (λ p. Each P (paths_of K s p)) ps
  in_each P [] h = tt
  in_each P (p ∷ ps) h = (each_first P (paths_of K s p) (paths_in K s ps) h, in_each P ps (each_last P (paths_of K s p) (paths_in K s ps) h))

  -- the paths of all the components that begin with something and are not among these
  module _ (t : ℕ) (left : List Begun) (paths : List (List ℕ)) (same : AreSame K s paths (paths_in K s (placed_at (behind left) (initialized_parts K.tables t)))) where
    abbrev ps : List Placed
    ps = placed_at (behind left) (initialized_parts K.tables t)

    -- those of each of them with a controlled part are kept
    held : Each (λ p. has_controlled K.tables p.ty ≡ true → is_one_of p.position left ≡ false → AreKept paths (paths_of K s p)) (placed K.tables t)
    unfolding is_initialized
    held =
        each_all (λ p. is_initialized K.tables p ≡ true → behind left p.position ≡ true → AreKept paths (paths_of K s p)) (λ p. has_controlled K.tables p.ty ≡ true → is_one_of p.position left ≡ false → AreKept paths (paths_of K s p))
        (λ p f controlled other. f (or_middle p.defaulted (has_controlled K.tables p.ty) (has_default K.tables p.ty) controlled) (ap not other)) (placed K.tables t)
        (each_tested (λ p. behind left p.position ≡ true → AreKept paths (paths_of K s p)) (is_initialized K.tables) (placed K.tables t)
        (each_tested (λ p. AreKept paths (paths_of K s p)) (λ p. behind left p.position) (initialized_parts K.tables t)
        (in_each (IsKept paths) ps (each_all (IsKept (paths_in K s ps)) (IsKept paths) (λ q e. same (same_list q) ∙ e) (paths_in K s ps) (kept_itself (paths_in K s ps))))))

    -- and each of the paths is that of a part of one of them
    told : Each (StandsIn s left) paths
    told = each_all (IsKept paths) (StandsIn s left) (λ q e. kept_is (StandsIn s left) q (paths_in K s ps) (sym (same (same_list q)) ∙ e) all) paths (kept_itself paths)
      where
        one : (p : Placed) → behind left p.position ≡ true → Each (StandsIn s left) (paths_of K s p)
        one p is = each_all (λ q. begins (s.path ++ p.position ∷ []) q ≡ true) (StandsIn s left) (λ q e. (p.position, not_true (is_one_of p.position left) is, e)) (paths_of K s p) (of_begin p)

        all : Each (StandsIn s left) (paths_in K s ps)
        all = all_in (StandsIn s left) ps (each_all (λ p. behind left p.position ≡ true) (λ p. Each (StandsIn s left) (paths_of K s p)) one ps (passes (λ p. behind left p.position) (initialized_parts K.tables t)))

    pub are_complete : AreComplete K s t paths left
    are_complete = record { held = held; told = told }
