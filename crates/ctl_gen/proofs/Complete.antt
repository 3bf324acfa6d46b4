-- Which components of a part are complete while it is created: those that begin with something and are not among those left, and their
-- controlled parts are those whose paths the meaning has gathered.
use Rattle.std.proofs.Common.{◌≡◌, ℕ, zero, suc, ◌<◌, List, [], ◌∷◌, ◌++◌, length, Bool, true, false, refl, sym, ap, ◌∙◌, subst, arith}
use Rattle.std.specs.Prelude.{nat_eq, not, if◌then◌else◌, ◌&&◌, ◌||◌}
use Rattle.std.proofs.lemmas.Bool.{eq-eqb, ne_eqb}
use Rattle.ctl_meaning.specs.Lists.{any_of, keep, pull_item, pull_rest}
use Rattle.ctl_meaning.specs.Types.{Tables, Placed, is_initialized, placed}
use Rattle.ctl_meaning.specs.Names.{Default, Tools}
use Rattle.ctl_meaning.specs.Finalization.{Spot, no_component}
use Rattle.ctl_meaning.specs.Initialization.{paths_of}
use Rattle.ctl_code.specs.declared.code.Begun.{Begun}
use Rattle.ctl_code.specs.Table.{is_one_of}
use Rattle.ctl_code.specs.Valid.{PositionsRise}
use Rattle.ctl_gen.proofs.Parted.{AreBegun, Begins, begun_length}
use Rattle.ctl_gen.proofs.Each.{Each, each_and}

-- Tests of lists ------------------------------------------------------------------------------------

or_false : (a : Bool) → (a || false) ≡ a
or_false true = refl
or_false false = refl

or_true : (a : Bool) → (a || true) ≡ true
or_true true = refl
or_true false = refl

or_parts : (a b : Bool) → (a || b) ≡ false → (a ≡ false) × (b ≡ false)
or_parts true b e = absurd (cc)
or_parts false b e = (refl, e)

or_again : (a b c : Bool) → ((a || b) || c) ≡ (a || (b || c))
or_again true b c = refl
or_again false b c = refl

or_other : (a b c : Bool) → (a || (b || c)) ≡ (b || (a || c))
or_other true true c = refl
or_other true false c = refl
or_other false b c = refl

pub any_both : {A : Type 0} (f : A → Bool) (xs ys : List A) → any_of f (xs ++ ys) ≡ (any_of f xs || any_of f ys)
unfolding any_of
any_both f [] ys = refl
any_both f (x ∷ xs) ys = ap (λ b. f x || b) (any_both f xs ys) ∙ sym (or_again (f x) (any_of f xs) (any_of f ys))

-- one that is taken out, and the others
pub any_pulled : {A : Type 0} (f : A → Bool) (d : A) (i : ℕ) (xs : List A) → i < length xs → (f (pull_item d i xs) || any_of f (pull_rest i xs)) ≡ any_of f xs
unfolding any_of pull_item pull_rest
any_pulled f d i [] less = absurd (omega (arith, less))
any_pulled f d zero (x ∷ xs) less = refl
any_pulled f d (suc i) (x ∷ xs) less = or_other (f (pull_item d i xs)) (f x) (any_of f (pull_rest i xs)) ∙ ap (λ b. f x || b) (any_pulled f d i xs (omega (arith, less)))

any_kept : {A : Type 0} (f q : A → Bool) (xs : List A) → any_of f (keep q xs) ≡ any_of (λ x. q x && f x) xs
unfolding any_of keep
any_kept f q [] = refl
any_kept f q (x ∷ xs) = by (q x) (any_kept f q xs)
  where
    by : (b : Bool) → any_of f (keep q xs) ≡ any_of (λ y. q y && f y) xs → any_of f (if b then x ∷ keep q xs else keep q xs) ≡ ((b && f x) || any_of (λ y. q y && f y) xs)
    by true rest = ap (λ c. f x || c) rest
    by false rest = rest

any_where : {A : Type 0} (f q : A → Bool) (xs : List A) → Each (λ x. q x ≡ true) xs → any_of (λ x. q x && f x) xs ≡ any_of f xs
unfolding any_of
any_where f q [] h = refl
any_where f q (x ∷ xs) h = ap (λ b. (b && f x) || any_of (λ y. q y && f y) xs) h.0 ∙ ap (λ b. f x || b) (any_where f q xs h.1)

any_nowhere : {A : Type 0} (f q : A → Bool) (xs : List A) → Each (λ x. q x ≡ false) xs → any_of (λ x. q x && f x) xs ≡ false
unfolding any_of
any_nowhere f q [] h = refl
any_nowhere f q (x ∷ xs) h = ap (λ b. (b && f x) || any_of (λ y. q y && f y) xs) h.0 ∙ any_nowhere f q xs h.1

any_rest : {A : Type 0} (f : A → Bool) (i : ℕ) (xs : List A) → any_of f xs ≡ false → any_of f (pull_rest i xs) ≡ false
unfolding any_of pull_rest
any_rest f i [] e = refl
any_rest f zero (x ∷ xs) e = (or_parts (f x) (any_of f xs) e).1
any_rest f (suc i) (x ∷ xs) e = let h = or_parts (f x) (any_of f xs) e in ap (λ b. b || any_of f (pull_rest i xs)) h.0 ∙ any_rest f i xs h.1

each_as : {A : Type 0} (P Q : A → Type 0) → ((x : A) → P x → Q x) → (xs : List A) → Each P xs → Each Q xs
each_as P Q f [] h = tt
each_as P Q f (x ∷ xs) h = (f x h.0, each_as P Q f xs h.1)

-- Positions -----------------------------------------------------------------------------------------

rise_less : (few last : ℕ) (xs : List Begun) → few < last → PositionsRise last xs → PositionsRise few xs
rise_less few last [] less h = tt
rise_less few last (x ∷ xs) less h = (omega (arith, less, h.0), h.1)

rise_rest : (last i : ℕ) (xs : List Begun) → PositionsRise last xs → PositionsRise last (pull_rest i xs)
unfolding pull_rest
rise_rest last i [] h = tt
rise_rest last zero (x ∷ xs) h = rise_less last x.position xs h.0 h.1
rise_rest last (suc i) (x ∷ xs) h = (h.0, rise_rest x.position i xs h.1)

rise_pulled : (last i : ℕ) (y : Begun) (xs : List Begun) → i < length xs → PositionsRise last xs → last < (pull_item y i xs).position
unfolding pull_item
rise_pulled last i y [] less h = absurd (omega (arith, less))
rise_pulled last zero y (x ∷ xs) less h = h.0
rise_pulled last (suc i) y (x ∷ xs) less h = let more = rise_pulled x.position i y xs (omega (arith, less)) h.1 in omega (arith, more, h.0)

none_behind : (n last : ℕ) (xs : List Begun) → n < suc last → PositionsRise last xs → is_one_of n xs ≡ false
unfolding any_of
none_behind n last [] less h = refl
none_behind n last (x ∷ xs) less h =
    ap (λ b. b || is_one_of n xs) (ne_eqb x.position n (λ e. absurd (let first = h.0 in omega (arith, e, less, first))))
    ∙ none_behind n x.position xs (let first = h.0 in omega (arith, less, first)) h.1

-- no other one has the position of the one that is taken out
alone : (last i : ℕ) (y : Begun) (xs : List Begun) → i < length xs → PositionsRise last xs → is_one_of (pull_item y i xs).position (pull_rest i xs) ≡ false
unfolding any_of pull_item pull_rest
alone last i y [] less h = absurd (omega (arith, less))
alone last zero y (x ∷ xs) less h = none_behind x.position x.position xs (omega arith) h.1
alone last (suc i) y (x ∷ xs) less h =
    let more = rise_pulled x.position i y xs (omega (arith, less)) h.1 in
    ap (λ b. b || is_one_of (pull_item y i xs).position (pull_rest i xs)) (ne_eqb x.position (pull_item y i xs).position (λ e. absurd (omega (arith, e, more))))
    ∙ alone x.position i y xs (omega (arith, less)) h.1

-- those that are left are among those that the layout names
all_left : (k : Tables) (default : Default) (t : ℕ) (ps : List Placed) (xs : List Begun) → AreBegun k default t ps xs → Each (λ p. is_one_of p.position xs ≡ true) ps
unfolding any_of
all_left k default t [] xs h = tt
all_left k default t (p ∷ ps) [] h = absurd h
all_left k default t (p ∷ ps) (x ∷ xs) h = (
  ap (λ b. b || is_one_of p.position xs) (eq-eqb x.position p.position h.0.position),
  each_as (λ q. is_one_of q.position xs ≡ true) (λ q. is_one_of q.position (x ∷ xs) ≡ true) (λ q e. ap (λ b. nat_eq x.position q.position || b) e ∙ or_true (nat_eq x.position q.position)) ps (all_left k default t ps xs h.1),
)

-- Components that are complete ----------------------------------------------------------------------

-- components at some positions
abbrev pub placed_at : (ℕ → Bool) → List Placed → List Placed
placed_at q ps = keep (λ p. q p.position) ps

-- those that are not left
abbrev pub behind : List Begun → ℕ → Bool
behind left position = not (is_one_of position left)

-- the components of a type that begin with something
abbrev pub initialized_parts : Tables → ℕ → List Placed
initialized_parts k t = keep (is_initialized k) (placed k t)

module _ (K : Tools) (s : Spot) where
  -- the paths of the controlled parts of components
  abbrev pub paths_in : List Placed → List (List ℕ)
  paths_in [] = []
  paths_in (p ∷ ps) = paths_of K s p ++ paths_in ps

  any_path : (f : List ℕ → Bool) (ps : List Placed) → any_of f (paths_in ps) ≡ any_of (λ p. any_of f (paths_of K s p)) ps
  unfolding any_of
  any_path f [] = refl
  any_path f (p ∷ ps) = any_both f (paths_of K s p) (paths_in ps) ∙ ap (λ b. any_of f (paths_of K s p) || b) (any_path f ps)

  paths_and : (ps : List Placed) (p : Placed) (f : List ℕ → Bool) → any_of f (paths_in (ps ++ p ∷ [])) ≡ any_of f (paths_in ps ++ paths_of K s p)
  unfolding any_of
  paths_and ps p f =
      any_path f (ps ++ p ∷ [])
      ∙ any_both (λ q. any_of f (paths_of K s q)) ps (p ∷ [])
      ∙ ap (λ b. b || (any_of f (paths_of K s p) || false)) (sym (any_path f ps))
      ∙ ap (λ b. any_of f (paths_in ps) || b) (or_false (any_of f (paths_of K s p)))
      ∙ sym (any_both f (paths_in ps) (paths_of K s p))

  -- the same paths, in whatever order
  abbrev pub AreSame : List (List ℕ) → List (List ℕ) → Type 0
  AreSame xs ys = (f : List ℕ → Bool) → any_of f xs ≡ any_of f ys

  -- of all the components these are left, and the others are complete, with these paths
  pub record Progress (all left : List Placed) (items : List Begun) (paths : List (List ℕ)) : Type 0 where
    pub complete : List Placed
    pub same : AreSame paths (paths_in complete)
    pub parted : (g : Placed → Bool) → (any_of g complete || any_of g left) ≡ any_of g all
    pub apart : Each (λ p. is_one_of p.position items ≡ false) complete
    pub last : ℕ
    pub rise : PositionsRise last items

  pub begins : (all : List Placed) (items : List Begun) → PositionsRise 0 items → Progress all all items []
  unfolding any_of
  begins all items rise = record { complete = []; same = λ f. refl; parted = λ g. refl; apart = tt; last = 0; rise = rise }

  -- one more is complete
  pub goes_on : (k : Tables) (default : Default) (t i : ℕ) (all left : List Placed) (items : List Begun) (paths : List (List ℕ)) (y : Begun) → AreBegun k default t left items → i < length left → Begins k default t (pull_item no_component i left) (pull_item y i items) → Progress all left items paths
      → Progress all (pull_rest i left) (pull_rest i items) (paths ++ paths_of K s (pull_item no_component i left))
  unfolding any_of
  goes_on k default t i all left items paths y begun less one h =
      record {
        complete = h.complete ++ p ∷ [];
        same = λ f. any_both f paths (paths_of K s p) ∙ ap (λ b. b || any_of f (paths_of K s p)) (h.same f) ∙ sym (any_both f (paths_in h.complete) (paths_of K s p)) ∙ sym (paths_and h.complete p f);
        parted = λ g.
            ap (λ b. b || any_of g (pull_rest i left)) (any_both g h.complete (p ∷ []))
            ∙ or_again (any_of g h.complete) (g p || false) (any_of g (pull_rest i left))
            ∙ ap (λ b. any_of g h.complete || (b || any_of g (pull_rest i left))) (or_false (g p))
            ∙ ap (λ b. any_of g h.complete || b) (any_pulled g no_component i left less)
            ∙ h.parted g;
        apart = each_and (λ q. is_one_of q.position (pull_rest i items) ≡ false) h.complete p (subst (λ n. is_one_of n (pull_rest i items) ≡ false) one.position (alone h.last i y items many h.rise)) (each_as (λ q. is_one_of q.position items ≡ false) (λ q. is_one_of q.position (pull_rest i items) ≡ false) (λ q e. any_rest (λ x. nat_eq x.position q.position) i items e) h.complete h.apart);
        last = h.last;
        rise = rise_rest h.last i items h.rise;
      }
    where
      p : Placed
      p = pull_item no_component i left

      many : i < length items
      many = let same = begun_length k default t left items begun in omega (arith, same, less)

  -- the paths are those of all the components that are not left
  pub complete_paths : (k : Tables) (default : Default) (t : ℕ) (all left : List Placed) (items : List Begun) (paths : List (List ℕ)) → AreBegun k default t left items → Progress all left items paths → AreSame paths (paths_in (placed_at (behind items) all))
  complete_paths k default t all left items paths begun h f =
      h.same f
      ∙ any_path f h.complete
      ∙ sym (any_where has q h.complete (each_as (λ p. is_one_of p.position items ≡ false) (λ p. q p ≡ true) (λ p e. ap not e) h.complete h.apart))
      ∙ sym (or_false (any_of (λ p. q p && has p) h.complete))
      ∙ ap (λ b. any_of (λ p. q p && has p) h.complete || b) (sym (any_nowhere has q left (each_as (λ p. is_one_of p.position items ≡ true) (λ p. q p ≡ false) (λ p e. ap not e) left (all_left k default t left items begun))))
      ∙ h.parted (λ p. q p && has p)
      ∙ sym (any_kept has q all)
      ∙ sym (any_path f (placed_at (behind items) all))
    where
      has : Placed → Bool
      has p = any_of f (paths_of K s p)

      q : Placed → Bool
      q p = behind items p.position
