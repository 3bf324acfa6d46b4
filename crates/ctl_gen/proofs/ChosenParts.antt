-- The parts that a clean-up finalizes: those whose paths are kept. Where the paths of all controlled parts of a part are kept, the whole of
-- it is finalized, as in any other finalization (7.6.1).
use Rattle.std.proofs.Common.{◌≡◌, ℕ, zero, suc, ◌+◌, ◌<◌, List, [], ◌∷◌, ◌++◌, length, Option, Some, None, Bool, true, false, refl, sym, ap, ◌∙◌, subst, arith, ◌⊎◌, inl, inr}
use Rattle.std.specs.Prelude.{slice_get, nat_eq, ◌&&◌, ◌||◌, if◌then◌else◌}
use Rattle.std.proofs.lemmas.Bool.{eqb-true, eq-eqb}
use Rattle.ctl_program.specs.declared.types.Ty.{Ty}
use Rattle.ctl_program.specs.declared.types.Ty.TheVariants.{Record}
use Rattle.ctl_program.specs.declared.types.Component.{Component}
use Rattle.ctl_program.specs.declared.types.RecordType.{RecordType}
use Rattle.ctl_tree.specs.declared.event.Cause.{Cause}
use Rattle.ctl_tree.specs.declared.event.Event.TheVariants as EventOf
use Rattle.ctl_meaning.specs.Lists.{any_of, begins, keep, pull_item, pull_rest, same_list}
use Rattle.ctl_meaning.specs.Types.{Tables, Placed, components, controlled_within, has_controlled, is_controlled, is_tagged_root, operation, of_parent, of_record, opened_types, placed, placed_from, root_in, with_own}
use Rattle.ctl_meaning.specs.World.{Log, World}
use Rattle.ctl_meaning.specs.Choice.{Ask}
use Rattle.ctl_meaning.specs.Outcome.{Result, Goes, Leaves, Out, Gives, Stops, Cut, Act, add, attempt, bind, choose, done, either, on_goes, then_always, ◌>>=◌, opened_outcome}
use Rattle.ctl_meaning.specs.Names.{Call, Default, Tools}
use Rattle.ctl_meaning.specs.Finalization.{Spot, Chosen, Every, These, after_finalize, call_operation, component_at, finalize_part, in_any_order, no_component, own_finalize, parts_to_finalize, part_of, opened_finalization}
use Rattle.ctl_meaning.specs.Initialization.{paths_within}
use Rattle.ctl_code.specs.declared.code.Begun.{Begun}
use Rattle.ctl_code.specs.declared.code.Code.{Code}
use Rattle.ctl_gen.proofs.Known.{IsPlainType, both_true}
use Rattle.ctl_gen.proofs.Parted.{GivesDefaults, HaveParts}
use Rattle.ctl_gen.proofs.Each.{Each, each_all}
use Rattle.ctl_gen.proofs.Setting.{Setting, tools_with}
use Rattle.ctl_gen.proofs.FinalizedParts.{and_true, each_left}

-- Paths ---------------------------------------------------------------------------------------------

abbrev pub each_of : (Placed → List (List ℕ)) → List Placed → List (List ℕ)
each_of f [] = []
each_of f (p ∷ ps) = f p ++ each_of f ps

-- those within a component
abbrev pub paths_below : Tools → ℕ → List ℕ → Placed → List (List ℕ)
paths_below K n path p = of_record [] (paths_within K n (path ++ p.position ∷ [])) p.ty

pub paths_more : (K : Tools) (n : ℕ) (path : List ℕ) (t : ℕ) → paths_within K (suc n) path t ≡ (if is_controlled K.tables t then path ∷ [] else []) ++ each_of (paths_below K n path) (placed K.tables t)
unfolding paths_within
paths_more K n path t = refl

pub same_itself : (xs : List ℕ) → same_list xs xs ≡ true
unfolding same_list
same_itself [] = refl
same_itself (x ∷ xs) = ap (λ b. b && same_list xs xs) (eq-eqb x x refl) ∙ same_itself xs

pub begins_itself : (xs : List ℕ) → begins xs xs ≡ true
unfolding begins
begins_itself [] = refl
begins_itself (x ∷ xs) = ap (λ b. b && begins xs xs) (eq-eqb x x refl) ∙ begins_itself xs

pub begins_front : (xs ys zs : List ℕ) → begins (xs ++ ys) zs ≡ true → begins xs zs ≡ true
unfolding begins
begins_front [] ys zs e = refl
begins_front (x ∷ xs) ys [] e = absurd (cc e)
begins_front (x ∷ xs) ys (z ∷ zs) e = let h = both_true (nat_eq x z) (begins (xs ++ ys) zs) e in ap (λ b. b && begins xs zs) h.0 ∙ begins_front xs ys zs h.1

-- what is the same begins the same
same_is : (xs ys : List ℕ) → same_list xs ys ≡ true → xs ≡ ys
unfolding same_list
same_is [] [] e = refl
same_is [] (y ∷ ys) e = absurd (cc e)
same_is (x ∷ xs) [] e = absurd (cc e)
same_is (x ∷ xs) (y ∷ ys) e = let h = both_true (nat_eq x y) (same_list xs ys) e in ap (λ z. z ∷ xs) (eqb-true x y h.0) ∙ ap (λ zs. y ∷ zs) (same_is xs ys h.1)

-- a path is not the same as a longer one
pub longer_differs : (xs ys : List ℕ) (n : ℕ) → begins (xs ++ n ∷ []) ys ≡ true → same_list xs ys ≡ false
unfolding begins same_list
longer_differs [] [] n e = absurd (cc e)
longer_differs [] (y ∷ ys) n e = refl
longer_differs (x ∷ xs) [] n e = refl
longer_differs (x ∷ xs) (y ∷ ys) n e =
    let h = both_true (nat_eq x y) (begins (xs ++ n ∷ []) ys) e in
    ap (λ b. b && same_list xs ys) h.0 ∙ longer_differs xs ys n h.1

-- paths of two components differ in their positions
pub same_position : (xs ys : List ℕ) (m n : ℕ) → begins (xs ++ m ∷ []) ys ≡ true → begins (xs ++ n ∷ []) ys ≡ true → m ≡ n
unfolding begins
same_position [] [] m n e g = absurd (cc e)
same_position [] (y ∷ ys) m n e g = eqb-true m y (both_true (nat_eq m y) true e).0 ∙ sym (eqb-true n y (both_true (nat_eq n y) true g).0)
same_position (x ∷ xs) [] m n e g = absurd (cc e)
same_position (x ∷ xs) (y ∷ ys) m n e g = same_position xs ys m n (both_true (nat_eq x y) (begins (xs ++ m ∷ []) ys) e).1 (both_true (nat_eq x y) (begins (xs ++ n ∷ []) ys) g).1

-- Paths that are kept -------------------------------------------------------------------------------

-- a path is among these
abbrev pub IsKept : List (List ℕ) → List ℕ → Type 0
IsKept paths q = any_of (same_list q) paths ≡ true

abbrev pub AreKept : List (List ℕ) → List (List ℕ) → Type 0
AreKept paths qs = Each (IsKept paths) qs

pub either_of : {X : Type 0} (a b : Bool) → (a || b) ≡ true → (a ≡ true → X) → (b ≡ true → X) → X
either_of true b e f g = f refl
either_of false b e f g = g e

pub or_true : (b : Bool) → (b || true) ≡ true
or_true true = refl
or_true false = refl

-- what is true of a path that is kept is true of some path that is
kept_one : (f : List ℕ → Bool) (q : List ℕ) (paths : List (List ℕ)) → IsKept paths q → f q ≡ true → any_of f paths ≡ true
unfolding any_of
kept_one f q [] e holds = absurd (cc e)
kept_one f q (x ∷ paths) e holds =
    either_of (same_list q x) (any_of (same_list q) paths) e
    (λ same. ap (λ b. b || any_of f paths) (ap f (sym (same_is q x same)) ∙ holds))
    (λ rest. ap (λ b. f x || b) (kept_one f q paths rest holds) ∙ or_true (f x))

pub kept_some : (f : List ℕ → Bool) (qs paths : List (List ℕ)) → AreKept paths qs → any_of f qs ≡ true → any_of f paths ≡ true
unfolding any_of
kept_some f [] paths h e = absurd (cc e)
kept_some f (q ∷ qs) paths h e = either_of (f q) (any_of f qs) e (λ holds. kept_one f q paths h.0 holds) (λ rest. kept_some f qs paths h.1 rest)

each_back : {A : Type 0} (P : A → Type 0) (xs ys : List A) → Each P (xs ++ ys) → Each P ys
each_back P [] ys h = h
each_back P (x ∷ xs) ys h = each_back P xs ys h.1

each_front : {A : Type 0} (P : A → Type 0) (xs ys : List A) → Each P (xs ++ ys) → Each P xs
each_front P [] ys h = tt
each_front P (x ∷ xs) ys h = (h.0, each_front P xs ys h.1)

pub any_front : {A : Type 0} (f : A → Bool) (xs ys : List A) → any_of f xs ≡ true → any_of f (xs ++ ys) ≡ true
unfolding any_of
any_front f [] ys e = absurd (cc e)
any_front f (x ∷ xs) ys e = either_of (f x) (any_of f xs) e (λ holds. ap (λ b. b || any_of f (xs ++ ys)) holds) (λ rest. ap (λ b. f x || b) (any_front f xs ys rest) ∙ or_true (f x))

pub any_back : {A : Type 0} (f : A → Bool) (xs ys : List A) → any_of f ys ≡ true → any_of f (xs ++ ys) ≡ true
unfolding any_of
any_back f [] ys e = e
any_back f (x ∷ xs) ys e = ap (λ b. f x || b) (any_back f xs ys e) ∙ or_true (f x)

any_either : {A : Type 0} (f : A → Bool) (xs ys : List A) → any_of f (xs ++ ys) ≡ true → (any_of f xs ≡ true) ⊎ (any_of f ys ≡ true)
unfolding any_of
any_either f [] ys e = inr e
any_either f (x ∷ xs) ys e = either_of (f x) (any_of f (xs ++ ys)) e (λ holds. inl (ap (λ b. b || any_of f xs) holds)) (λ rest. later (any_either f xs ys rest))
  where
    later : (any_of f xs ≡ true) ⊎ (any_of f ys ≡ true) → ((f x || any_of f xs) ≡ true) ⊎ (any_of f ys ≡ true)
    later (inl e1) = inl (ap (λ b. f x || b) e1 ∙ or_true (f x))
    later (inr e1) = inr e1

-- a test that passes where another one does
any_more : {A : Type 0} (f g : A → Bool) → ((x : A) → f x ≡ true → g x ≡ true) → (xs : List A) → any_of f xs ≡ true → any_of g xs ≡ true
unfolding any_of
any_more f g more [] e = absurd (cc e)
any_more f g more (x ∷ xs) e = either_of (f x) (any_of f xs) e (λ holds. ap (λ b. b || any_of g xs) (more x holds)) (λ rest. ap (λ b. g x || b) (any_more f g more xs rest) ∙ or_true (g x))

only_one : {A : Type 0} (f : A → Bool) (x : A) → f x ≡ true → any_of f (x ∷ []) ≡ true
unfolding any_of
only_one f x e = ap (λ b. b || false) e

-- of each component
pub each_component : (P : List ℕ → Type 0) (f : Placed → List (List ℕ)) (ps : List Placed) → Each P (each_of f ps) → Each (λ p. Each P (f p)) ps
each_component P f [] h = tt
each_component P f (p ∷ ps) h = (each_front P (f p) (each_of f ps) h, each_component P f ps (each_back P (f p) (each_of f ps) h))

some_component : (g : List ℕ → Bool) (f : Placed → List (List ℕ)) (test : Placed → Bool) (ps : List Placed) → Each (λ p. test p ≡ true → any_of g (f p) ≡ true) ps → any_of test ps ≡ true → any_of g (each_of f ps) ≡ true
unfolding any_of
some_component g f test [] h e = absurd (cc e)
some_component g f test (p ∷ ps) h e = either_of (test p) (any_of test ps) e (λ holds. any_front g (f p) (each_of f ps) (h.0 holds)) (λ rest. any_back g (f p) (each_of f ps) (some_component g f test ps h.1 rest))

-- Components with a controlled part -----------------------------------------------------------------

-- a type has the components that are found at a depth at each greater one
components_more : (f : Component → Bool) (n : ℕ) (rs : List RecordType) (t : ℕ) → any_of f (components n rs t) ≡ true → any_of f (components (suc n) rs t) ≡ true
unfolding components of_parent with_own any_of
components_more f zero rs t e = absurd (cc e)
components_more f (suc n) rs t e = of_type (λ u e1. components_more f n rs u e1) (slice_get rs t) e
  where
    inherited : ((u : ℕ) → any_of f (components n rs u) ≡ true → any_of f (components (suc n) rs u) ≡ true) → (o : Option ℕ) → any_of f (of_parent [] (components n rs) o) ≡ true → any_of f (of_parent [] (components (suc n) rs) o) ≡ true
    inherited more None e1 = e1
    inherited more (Some u) e1 = more u e1

    of_type : ((u : ℕ) → any_of f (components n rs u) ≡ true → any_of f (components (suc n) rs u) ≡ true) → (o : Option RecordType) → any_of f (with_own (components n rs) o) ≡ true → any_of f (with_own (components (suc n) rs) o) ≡ true
    of_type more None e1 = e1
    of_type more (Some r) e1 = by (any_either f (of_parent [] (components n rs) r.parent) r.own e1)
      where
        by : (any_of f (of_parent [] (components n rs) r.parent) ≡ true) ⊎ (any_of f r.own ≡ true) → any_of f (of_parent [] (components (suc n) rs) r.parent ++ r.own) ≡ true
        by (inl e2) = any_front f (of_parent [] (components (suc n) rs) r.parent) r.own (inherited more r.parent e2)
        by (inr e2) = any_back f (of_parent [] (components (suc n) rs) r.parent) r.own e2

controlled_more : (n : ℕ) (rs : List RecordType) (t : ℕ) → controlled_within n rs t ≡ true → controlled_within (suc n) rs t ≡ true
unfolding controlled_within of_record
controlled_more zero rs t e = absurd (cc e)
controlled_more (suc n) rs t e =
    either_of (is_tagged_root (root_in (slice_get rs t))) (any_of (λ x. of_record false (controlled_within n rs) x.ty) (components (suc n) rs t)) e
    (λ tagged. ap (λ b. b || any_of (λ x. of_record false (controlled_within (suc n) rs) x.ty) (components (suc (suc n)) rs t)) tagged)
    (λ some.
    ap (λ b. is_tagged_root (root_in (slice_get rs t)) || b)
    (components_more (λ x. of_record false (controlled_within (suc n) rs) x.ty) (suc n) rs t (any_more (λ x. of_record false (controlled_within n rs) x.ty) (λ x. of_record false (controlled_within (suc n) rs) x.ty) (λ x. of_type (λ u e1. controlled_more n rs u e1) x.ty) (components (suc n) rs t) some))
    ∙ or_true (is_tagged_root (root_in (slice_get rs t))))
  where
    of_type : ((u : ℕ) → controlled_within n rs u ≡ true → controlled_within (suc n) rs u ≡ true) → (ty : Ty) → of_record false (controlled_within n rs) ty ≡ true → of_record false (controlled_within (suc n) rs) ty ≡ true
    of_type more (Record u) e1 = more u e1
    of_type more _ e1 = absurd (cc e1)

any_placed : (k : Tables) (f : Ty → Bool) (position offset : ℕ) (cs : List Component) → any_of (λ (p : Placed). f p.ty) (placed_from k position offset cs) ≡ any_of (λ (x : Component). f x.ty) cs
unfolding placed_from any_of
any_placed k f position offset [] = refl
any_placed k f position offset (c ∷ cs) = ap (λ b. f c.ty || b) (any_placed k f (position + 1) _ cs)

-- where a type has a controlled part, and is not controlled itself, some component has one
pub some_part : (k : Tables) (t : ℕ) → is_controlled k t ≡ false → has_controlled k (Record t) ≡ true → any_of (λ p. has_controlled k p.ty) (placed k t) ≡ true
unfolding opened_types
some_part k t not held =
    let rs = k.records in
    let n = length k.records in
    any_placed k (has_controlled k) 1 0 (components (suc n) rs t)
    ∙ any_more (λ x. of_record false (controlled_within n rs) x.ty) (λ x. has_controlled k x.ty) (λ x. of_type x.ty) (components (suc n) rs t)
    (ap (λ b. b || any_of (λ x. of_record false (controlled_within n rs) x.ty) (components (suc n) rs t)) (sym not) ∙ held)
  where
    of_type : (ty : Ty) → of_record false (controlled_within (length k.records) k.records) ty ≡ true → has_controlled k ty ≡ true
    of_type (Record u) e1 = controlled_more (length k.records) k.records u e1
    of_type _ e1 = absurd (cc e1)

-- a component of a record type that stands before this one in the table
pub record IsHeld (k : Tables) (t : ℕ) (p : Placed) : Type 0 where
  pub number : ℕ
  pub ty : p.ty ≡ Record number
  pub less : number < t
  pub plain : IsPlainType k (Record number)

have_each : (k : Tables) (t : ℕ) (ps : List Placed) (xs : List Begun) → HaveParts k t ps xs → Each (IsHeld k t) ps
have_each k t [] [] h = tt
have_each k t [] (x ∷ xs) h = absurd h
have_each k t (p ∷ ps) [] h = absurd h
have_each k t (p ∷ ps) (x ∷ xs) h = let one = h.0 in (record { number = one.number; ty = one.ty; less = one.less; plain = one.plain }, have_each k t ps xs h.1)

pub each_both : {A : Type 0} (P Q : A → Type 0) (xs : List A) → Each P xs → Each Q xs → Each (λ x. P x × Q x) xs
each_both P Q [] h g = tt
each_both P Q (x ∷ xs) h g = ((h.0, g.0), each_both P Q xs h.1 g.1)

-- what is true of those that are kept
pub each_tested : {A : Type 0} (P : A → Type 0) (test : A → Bool) (xs : List A) → Each P (keep test xs) → Each (λ x. test x ≡ true → P x) xs
unfolding keep
each_tested P test [] h = tt
each_tested P test (x ∷ xs) h = let g = one (test x) refl h in (g.0, each_tested P test xs g.1)
  where
    one : (b : Bool) → test x ≡ b → Each P (if b then x ∷ keep test xs else keep test xs) → (test x ≡ true → P x) × Each P (keep test xs)
    one true is h1 = (λ e. h1.0, h1.1)
    one false is h1 = (λ e. absurd (let bad : true ≡ false = sym e ∙ is in cc), h1)

pub each_kept : {A : Type 0} (P : A → Type 0) (test : A → Bool) (xs : List A) → Each (λ x. test x ≡ true → P x) xs → Each P (keep test xs)
unfolding keep
each_kept P test [] h = tt
each_kept P test (x ∷ xs) h = one (test x) refl (each_kept P test xs h.1)
  where
    one : (b : Bool) → test x ≡ b → Each P (keep test xs) → Each P (if b then x ∷ keep test xs else keep test xs)
    one true is rest = (h.0 is, rest)
    one false is rest = rest

pub keep_same_on : {A : Type 0} (p q : A → Bool) (xs : List A) → Each (λ x. p x ≡ q x) xs → keep p xs ≡ keep q xs
unfolding keep
keep_same_on p q [] h = refl
keep_same_on p q (x ∷ xs) h = ap (λ b. if b then x ∷ keep p xs else keep p xs) h.0 ∙ ap (λ ys. if q x then x ∷ ys else ys) (keep_same_on p q xs h.1)

-- one test and then another
pub keep_keep : {A : Type 0} (p q : A → Bool) (xs : List A) → keep (λ x. p x && q x) xs ≡ keep q (keep p xs)
unfolding keep
keep_keep p q [] = refl
keep_keep p q (x ∷ xs) = one (p x) (keep_keep p q xs)
  where
    one : (b : Bool) → keep (λ y. p y && q y) xs ≡ keep q (keep p xs) → (if b && q x then x ∷ keep (λ y. p y && q y) xs else keep (λ y. p y && q y) xs) ≡ keep q (if b then x ∷ keep p xs else keep p xs)
    one true rest = ap (λ ys. if q x then x ∷ ys else ys) rest
    one false rest = rest

pub both_same : (b x y : Bool) → (b ≡ true → x ≡ y) → (b && x) ≡ (b && y)
both_same true x y same = same refl
both_same false x y same = refl

-- Orders --------------------------------------------------------------------------------------------

pub bind_same : {A B : Type 0} (o : Out A) (f g : Result A → Act B) → ((r : Result A) (c : ℕ) (l : Log) (w : World) → f r c l w ≡ g r c l w) → bind o f ≡ bind o g
unfolding bind
bind_same (Gives r t c l w) f g same = ap (add t) (same r c l w)
bind_same (Stops why t l) f g same = refl
bind_same (Cut t c l) f g same = refl

pub goes_same : {A B : Type 0} (f g : A → Act B) → ((a : A) (c : ℕ) (l : Log) (w : World) → f a c l w ≡ g a c l w) → (r : Result A) (c : ℕ) (l : Log) (w : World) → on_goes f r c l w ≡ on_goes g r c l w
unfolding on_goes
goes_same f g same (Goes a) c l w = same a c l w
goes_same f g same (Leaves y) c l w = refl

-- parts that are finalized alike, in an order that is chosen
abbrev pub Alike : (Placed → Act Bool) → (Placed → Act Bool) → Placed → Type 0
Alike f g p = (c : ℕ) (l : Log) (w : World) → f p c l w ≡ g p c l w

pulled_alike : (f g : Placed → Act Bool) (i : ℕ) (ps : List Placed) → Alike f g no_component → Each (Alike f g) ps → Alike f g (pull_item no_component i ps)
unfolding pull_item
pulled_alike f g i [] none h = none
pulled_alike f g zero (p ∷ ps) none h = h.0
pulled_alike f g (suc i) (p ∷ ps) none h = pulled_alike f g i ps none h.1

pub orders_same : (K : Tools) (f g : Placed → Act Bool) → Alike f g no_component → (count : ℕ) (left : List Placed) → Each (Alike f g) left → (failed : Bool) (c : ℕ) (l : Log) (w : World) → in_any_order K f count left failed c l w ≡ in_any_order K g count left failed c l w
unfolding in_any_order ◌>>=◌ then_always
orders_same K f g none zero left h failed c l w = refl
orders_same K f g none (suc count) left h failed c l w =
    bind_same (choose K.ask (suc count) c l w) _ _
    (goes_same _ _ (λ i c1 l1 w1.
    ap (λ y. bind y (on_goes (λ b. in_any_order K f count (pull_rest i left) (failed || b)))) (pulled_alike f g i left none h c1 l1 w1)
    ∙ bind_same (g (pull_item no_component i left) c1 l1 w1) _ _ (goes_same _ _ (λ b c2 l2 w2. orders_same K f g none count (pull_rest i left) (each_left (Alike f g) i left h) (failed || b) c2 l2 w2))))

-- Parts whose paths are kept ------------------------------------------------------------------------

module _ (ask : Ask) (k : Tables) (code : Code) (setting : Setting k code) (call : Call) (default : Default) (constants : GivesDefaults k default) where
  abbrev K : Tools
  K = tools_with ask k call default

  pub held_parts : (t : ℕ) → IsPlainType k (Record t) → Each (λ p. has_controlled k p.ty ≡ true → IsHeld k t p) (placed k t)
  held_parts t plain = each_tested (IsHeld k t) (λ p. has_controlled k p.ty) (placed k t) (have_each k t _ _ (setting.agrees default constants t plain).controlled)

  -- the paths of a component are those of its record type
  below_is : (n t : ℕ) (path : List ℕ) (p : Placed) (held : IsHeld k t p) → paths_below K n path p ≡ paths_within K n (path ++ p.position ∷ []) held.number
  unfolding of_record
  below_is n t path p held = ap (of_record [] (paths_within K n (path ++ p.position ∷ []))) held.ty

  -- where a part has a controlled part, some path begins with its own
  pub some_path : (n : ℕ) (path : List ℕ) (t : ℕ) → t < n → IsPlainType k (Record t) → has_controlled k (Record t) ≡ true → any_of (begins path) (paths_within K n path t) ≡ true
  some_path zero path t less plain has = absurd (omega (arith, less))
  some_path (suc n) path t less plain has =
      ap (any_of (begins path)) (paths_more K n path t)
      ∙ by (is_controlled k t) refl (each_all (λ p. has_controlled k p.ty ≡ true → IsHeld k t p) (λ p. has_controlled k p.ty ≡ true → any_of (begins path) (paths_below K n path p) ≡ true)
      (λ p f test.
      let held = f test in
      let less1 = held.less in
      ap (any_of (begins path)) (below_is n t path p held)
      ∙ any_more (begins (path ++ p.position ∷ [])) (begins path) (λ q e. begins_front path (p.position ∷ []) q e) (paths_within K n (path ++ p.position ∷ []) held.number)
      (some_path n (path ++ p.position ∷ []) held.number (omega (arith, less, less1)) held.plain (ap (has_controlled k) (sym held.ty) ∙ test)))
      (placed k t) (held_parts t plain))
    where
      by : (b : Bool) → is_controlled k t ≡ b → Each (λ p. has_controlled k p.ty ≡ true → any_of (begins path) (paths_below K n path p) ≡ true) (placed k t) → any_of (begins path) ((if b then path ∷ [] else []) ++ each_of (paths_below K n path) (placed k t)) ≡ true
      by true is each = any_front (begins path) (path ∷ []) (each_of (paths_below K n path) (placed k t)) (only_one (begins path) path (begins_itself path))
      by false is each = some_component (begins path) (paths_below K n path) (λ p. has_controlled k p.ty) (placed k t) each (some_part k t is has)

  module _ (cause : Cause) (paths : List (List ℕ)) where
    abbrev components_by : Chosen → ℕ → Spot → Placed → Act Bool
    components_by want n s p = of_record (done false) (finalize_part K cause want n (component_at s p)) p.ty

    -- the whole of a part whose paths are kept is finalized
    pub same_part : (m n : ℕ) (s : Spot) (t : ℕ) → t < m → t < n → IsPlainType k (Record t) → AreKept paths (paths_within K n s.path t) → (c : ℕ) (l : Log) (w : World) → finalize_part K cause (These paths) m s t c l w ≡ finalize_part K cause Every m s t c l w
    unfolding opened_finalization opened_outcome of_record
    same_part zero n s t less less1 plain kept c l w = absurd (omega (arith, less))
    same_part (suc m) zero s t less less1 plain kept c l w = absurd (omega (arith, less1))
    same_part (suc m) (suc n) s t less less1 plain kept c l w = by (λ s1 u c1 l1 w1 first second plain1 kept1. same_part m n s1 u first second plain1 kept1 c1 l1 w1)
      where
        Again : Type 0
        Again = (s1 : Spot) (u c1 : ℕ) (l1 : Log) (w1 : World) → u < m → u < n → IsPlainType k (Record u) → AreKept paths (paths_within K n s1.path u) → finalize_part K cause (These paths) m s1 u c1 l1 w1 ≡ finalize_part K cause Every m s1 u c1 l1 w1

        split : AreKept paths ((if is_controlled k t then s.path ∷ [] else []) ++ each_of (paths_below K n s.path) (placed k t))
        split = subst (AreKept paths) (paths_more K n s.path t) kept

        own : is_controlled k t ≡ true → IsKept paths s.path
        own is = (subst (λ b. AreKept paths ((if b then s.path ∷ [] else []) ++ each_of (paths_below K n s.path) (placed k t))) is split).0

        Both : Placed → Type 0
        Both p = AreKept paths (paths_below K n s.path p) × (has_controlled k p.ty ≡ true → IsHeld k t p)

        both : Each Both (placed k t)
        both = each_both _ _ (placed k t) (each_component (IsKept paths) (paths_below K n s.path) (placed k t) (each_back (IsKept paths) (if is_controlled k t then s.path ∷ [] else []) (each_of (paths_below K n s.path) (placed k t)) split)) (held_parts t plain)

        kept_in : (p : Placed) (held : IsHeld k t p) → AreKept paths (paths_below K n s.path p) → AreKept paths (paths_within K n (s.path ++ p.position ∷ []) held.number)
        kept_in p held h = subst (AreKept paths) (below_is n t s.path p held) h

        own_same : own_finalize K cause (These paths) s t c l w ≡ own_finalize K cause Every s t c l w
        own_same = ap (λ b. either b (attempt (call_operation K s (operation (λ x. x.finalize) k t) (EventOf.Finalize (part_of s) cause)) >>= after_finalize cause) (done false) c l w) (both_same (is_controlled k t) (any_of (same_list s.path) paths) true own)

        one_chosen : (p : Placed) → Both p → has_controlled k p.ty ≡ true → any_of (begins (s.path ++ p.position ∷ [])) paths ≡ true
        one_chosen p x has =
            let held = x.1 has in
            let before = held.less in
            kept_some (begins (s.path ++ p.position ∷ [])) (paths_within K n (s.path ++ p.position ∷ []) held.number) paths (kept_in p held x.0)
            (some_path n (s.path ++ p.position ∷ []) held.number (omega (arith, before, less1)) held.plain (ap (has_controlled k) (sym held.ty) ∙ has))

        parts_same : parts_to_finalize K (These paths) s t ≡ parts_to_finalize K Every s t
        parts_same = keep_same_on (λ p. has_controlled k p.ty && any_of (begins (s.path ++ p.position ∷ [])) paths) (λ p. has_controlled k p.ty && true) (placed k t) (each_all Both (λ p. (has_controlled k p.ty && any_of (begins (s.path ++ p.position ∷ [])) paths) ≡ (has_controlled k p.ty && true)) (λ p x. both_same (has_controlled k p.ty) (any_of (begins (s.path ++ p.position ∷ [])) paths) true (one_chosen p x)) (placed k t) both)

        one_alike : Again → (p : Placed) → Both p → (has_controlled k p.ty && true) ≡ true → Alike (components_by (These paths) m s) (components_by Every m s) p
        one_alike again p x test c1 l1 w1 =
            let held = x.1 (sym (and_true (has_controlled k p.ty)) ∙ test) in
            let before = held.less in
            subst (λ ty. of_record (done false) (finalize_part K cause (These paths) m (component_at s p)) ty c1 l1 w1 ≡ of_record (done false) (finalize_part K cause Every m (component_at s p)) ty c1 l1 w1) (sym held.ty)
            (again (component_at s p) held.number c1 l1 w1 (omega (arith, before, less)) (omega (arith, before, less1)) held.plain (kept_in p held x.0))

        alike : Again → Each (Alike (components_by (These paths) m s) (components_by Every m s)) (parts_to_finalize K Every s t)
        alike again = each_kept (Alike (components_by (These paths) m s) (components_by Every m s)) (λ p. has_controlled k p.ty && true) (placed k t) (each_all Both (λ p. (has_controlled k p.ty && true) ≡ true → Alike (components_by (These paths) m s) (components_by Every m s) p) (one_alike again) (placed k t) both)

        by : Again → finalize_part K cause (These paths) (suc m) s t c l w ≡ finalize_part K cause Every (suc m) s t c l w
        by again =
            ap (λ x. add 1 (bind x (on_goes (in_any_order K (components_by (These paths) m s) (length (parts_to_finalize K (These paths) s t)) (parts_to_finalize K (These paths) s t))))) own_same
            ∙ ap (λ ps. add 1 (bind (own_finalize K cause Every s t c l w) (on_goes (in_any_order K (components_by (These paths) m s) (length ps) ps)))) parts_same
            ∙ ap (add 1) (bind_same (own_finalize K cause Every s t c l w) _ _ (goes_same _ _ (λ b c1 l1 w1. orders_same K (components_by (These paths) m s) (components_by Every m s) (λ c2 l2 w2. refl) (length (parts_to_finalize K Every s t)) (parts_to_finalize K Every s t) (alike again) b c1 l1 w1)))
