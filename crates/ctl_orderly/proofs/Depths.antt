-- What a table of types in order says: a part is of a type that stands before that of the part around it, so a depth as great as the table
-- reaches each part.
use Rattle.std.specs.Prelude.{◌≡◌, ℕ, zero, suc, ◌+◌, ◌<◌, ◌≤◌, List, [], ◌∷◌, ◌++◌, length, Option, Some, None, Bool, true, false, ◌||◌, if◌then◌else◌, slice_get}
use Rattle.std.proofs.Common.{refl, sym, ap, ◌∙◌, subst, arith, append_assoc, ◌⊎◌, inl, inr}
use Rattle.ctl_program.specs.declared.types.Ty.{Ty}
use Rattle.ctl_program.specs.declared.types.Ty.TheVariants.{Integer, Count, Boolean, Address, Handle, Access, Record}
use Rattle.ctl_program.specs.declared.types.Component.{Component}
use Rattle.ctl_program.specs.declared.types.RecordType.{RecordType}
use Rattle.ctl_meaning.specs.Lists.{any_of, same_list}
use Rattle.ctl_meaning.specs.Types.{Tables, Placed, placed, placed_from, components, components_of, with_own, of_parent, of_record, root_in, is_tagged_root, root_of, is_controlled, controlled_within, has_controlled, is_initialized, has_default, depth, cells_of}
use Rattle.ctl_meaning.specs.Names.{Tools}
use Rattle.ctl_meaning.specs.Finalization.{Spot, component_at}
use Rattle.ctl_meaning.specs.Initialization.{paths_within, paths_of}
use Rattle.ctl_meaning.specs.Emptied.{Lists}
use Rattle.ctl_orderly.specs.Law.{Before, AllBefore, InOrder}
use Rattle.ctl_orderly.proofs.Traces.{same_list_eq}
use Rattle.ctl_orderly.proofs.Parts.{Closes, PartIn, itself, inside, Leads, leads_itself, leads_up, part_leads, one_way, not_whole, Apart, placed_apart}

-- Types before a type --------------------------------------------------------------------------

before_more : (m n : ℕ) → m ≤ n → (ty : Ty) → Before m ty → Before n ty
before_more m n le Integer h = tt
before_more m n le Count h = tt
before_more m n le Boolean h = tt
before_more m n le Address h = tt
before_more m n le Handle h = tt
before_more m n le (Access a) h = tt
before_more m n le (Record u) h = omega arith

all_more : (m n : ℕ) → m ≤ n → (cs : List Component) → AllBefore m cs → AllBefore n cs
all_more m n le [] h = tt
all_more m n le (c ∷ cs) h = (before_more m n le c.ty h.0, all_more m n le cs h.1)

all_both : (n : ℕ) (cs ds : List Component) → AllBefore n cs → AllBefore n ds → AllBefore n (cs ++ ds)
all_both n [] ds h i = i
all_both n (c ∷ cs) ds h i = (h.0, all_both n cs ds h.1 i)

placed_before : (k : Tables) (n i offset : ℕ) (cs : List Component) (y : Placed) → AllBefore n cs → Lists y (placed_from k i offset cs) → Before n y.ty
unfolding placed_from
placed_before k n i offset [] y h l = absurd l
placed_before k n i offset (c ∷ cs) y h (inl e) = subst (Before n) (sym (ap (λ (z : Placed). z.ty) e)) h.0
placed_before k n i offset (c ∷ cs) y h (inr l) = placed_before k n (i + 1) (offset + cells_of k c.ty) cs y h.1 l

placed_any : (k : Tables) (g : Ty → Bool) (i offset : ℕ) (cs : List Component) (y : Placed) → Lists y (placed_from k i offset cs) → g y.ty ≡ true → any_of (λ x. g x.ty) cs ≡ true
unfolding placed_from any_of
placed_any k g i offset [] y l e = absurd l
placed_any k g i offset (c ∷ cs) y (inl s) e = ap (λ b. b || any_of (λ x. g x.ty) cs) (ap g (sym (ap (λ (z : Placed). z.ty) s)) ∙ e)
placed_any k g i offset (c ∷ cs) y (inr l) e = or_true (g c.ty) (any_of (λ x. g x.ty) cs) (placed_any k g (i + 1) (offset + cells_of k c.ty) cs y l e)
  where
    or_true : (a b : Bool) → b ≡ true → (a || b) ≡ true
    or_true true b e = refl
    or_true false b e = e

none_some : {A : Type 0} (x : A) → None ≡ Some x → ⊥
none_some x e = absurd (cc)

below_length : (rs : List RecordType) (t : ℕ) (r : RecordType) → slice_get rs t ≡ Some r → t < length rs
below_length [] t r e = absurd (none_some r e)
below_length (x ∷ rs) zero r e = omega arith
below_length (x ∷ rs) (suc t) r e = let h = below_length rs t r e in omega arith

module _ (k : Tables) (order : InOrder k.records) where
  parent_before : (n t : ℕ) (r : RecordType) → slice_get k.records t ≡ Some r → ((p : ℕ) → AllBefore p (components n k.records p)) → (o : Option ℕ) → r.parent ≡ o → AllBefore t (of_parent [] (components n k.records) o)
  unfolding of_parent
  parent_before n t r is h None e = tt
  parent_before n t r is h (Some p) e = let lt = order.parents t p r is e in all_more p t (omega arith) (components n k.records p) (h p)

  own_before : (n t : ℕ) → ((p : ℕ) → AllBefore p (components n k.records p)) → (o : Option RecordType) → slice_get k.records t ≡ o → AllBefore t (with_own (components n k.records) o)
  unfolding with_own
  own_before n t h None e = tt
  own_before n t h (Some r) e = all_both t (of_parent [] (components n k.records) r.parent) r.own (parent_before n t r e h r.parent refl) (order.components t r e)

  all_before : (n t : ℕ) → AllBefore t (components n k.records t)
  unfolding components
  all_before zero t = tt
  all_before (suc n) t = own_before n t (all_before n) (slice_get k.records t) refl

  as_before : (t u : ℕ) (ty : Ty) → ty ≡ Record u → Before t ty → u < t
  as_before t u ty e h = subst (Before t) e h

  -- a component stands before the type that has it
  pub component_before : (t u : ℕ) (c : Placed) → Lists c (placed k t) → c.ty ≡ Record u → u < t
  unfolding placed components_of
  component_before t u c l e = as_before t u c.ty e (placed_before k t 1 0 (components (depth k) k.records t) c (all_before (depth k) t) l)

  same_parent : (n m t : ℕ) (r : RecordType) → slice_get k.records t ≡ Some r → t ≤ n → t ≤ m → ((p : ℕ) → p < n → p < m → components n k.records p ≡ components m k.records p) → (o : Option ℕ) → r.parent ≡ o → of_parent [] (components n k.records) o ≡ of_parent [] (components m k.records) o
  unfolding of_parent
  same_parent n m t r is a b h None e = refl
  same_parent n m t r is a b h (Some p) e = let lt = order.parents t p r is e in h p (omega arith) (omega arith)

  same_own : (n m t : ℕ) → t ≤ n → t ≤ m → ((p : ℕ) → p < n → p < m → components n k.records p ≡ components m k.records p) → (o : Option RecordType) → slice_get k.records t ≡ o → with_own (components n k.records) o ≡ with_own (components m k.records) o
  unfolding with_own
  same_own n m t a b h None e = refl
  same_own n m t a b h (Some r) e = ap (λ cs. cs ++ r.own) (same_parent n m t r e a b h r.parent refl)

  -- a depth that is great enough is as good as any other
  same_components : (n m t : ℕ) → t < n → t < m → components n k.records t ≡ components m k.records t
  unfolding components
  same_components zero m t a b = absurd (omega arith)
  same_components (suc n) zero t a b = absurd (omega arith)
  same_components (suc n) (suc m) t a b = same_own n m t (omega arith) (omega arith) (same_components n m) (slice_get k.records t) refl

  tagged_known : (t : ℕ) → (o : Option RecordType) → slice_get k.records t ≡ o → is_tagged_root (root_in o) ≡ true → t < length k.records
  unfolding root_in is_tagged_root
  tagged_known t None e h = absurd (cc)
  tagged_known t (Some r) e h = below_length k.records t r e

  with_known : (n t : ℕ) (c : Placed) → (o : Option RecordType) → slice_get k.records t ≡ o → Lists c (placed_from k 1 0 (with_own (components n k.records) o)) → t < length k.records
  unfolding with_own placed_from
  with_known n t c None e l = absurd l
  with_known n t c (Some r) e l = below_length k.records t r e

  -- a type with parts is in the table
  pub part_known : (path : List ℕ) (t : ℕ) (q : List ℕ) → PartIn k path t q → t < length k.records
  unfolding is_controlled root_of placed components_of components depth
  part_known path t q (itself c e) = tagged_known t (slice_get k.records t) refl c.controlled
  part_known path t q (inside c u l e h) = with_known (length k.records) t c (slice_get k.records t) refl l

  or_first : (a b : Bool) → a ≡ true → (a || b) ≡ true
  or_first true b e = refl
  or_first false b e = absurd (cc)

  or_second : (a b : Bool) → b ≡ true → (a || b) ≡ true
  or_second true b e = refl
  or_second false b e = e

  record_true : (f : ℕ → Bool) (ty : Ty) (u : ℕ) → ty ≡ Record u → f u ≡ true → of_record false f ty ≡ true
  unfolding of_record
  record_true f ty u e h = ap (of_record false f) e ∙ h

  controlled_part : (path : List ℕ) (t : ℕ) (q : List ℕ) → PartIn k path t q → (n : ℕ) → t < n → controlled_within n k.records t ≡ true
  unfolding controlled_within is_controlled root_of placed components_of depth
  controlled_part path t q (itself c e) zero lt = absurd (omega arith)
  controlled_part path t q (itself c e) (suc n) lt = or_first _ _ c.controlled
  controlled_part path t q (inside c u l e h) zero lt = absurd (omega arith)
  controlled_part path t q (inside c u l e h) (suc n) lt =
      let before = component_before t u c l e in
      let known = part_known path t q (inside c u l e h) in
      or_second _ _ (subst (λ cs. any_of (λ x. of_record false (controlled_within n k.records) x.ty) cs ≡ true) (same_components (suc (length k.records)) (suc n) t (omega arith) lt)
      (placed_any k (of_record false (controlled_within n k.records)) 1 0 _ c l (record_true (controlled_within n k.records) c.ty u e (controlled_part _ u q h n (omega arith)))))

  -- a type with parts has a controlled part
  pub has_parts : (path : List ℕ) (u : ℕ) (q : List ℕ) (ty : Ty) → ty ≡ Record u → PartIn k path u q → has_controlled k ty ≡ true
  unfolding has_controlled depth
  has_parts path u q ty e h = record_true _ ty u e (let lt = part_known path u q h in controlled_part path u q h (suc (length k.records)) (omega arith))

  pub is_begun : (x : Placed) → has_controlled k x.ty ≡ true → is_initialized k x ≡ true
  unfolding is_initialized
  is_begun x e = go x.defaulted (has_controlled k x.ty) (has_default k x.ty) e
    where
      go : (a b c : Bool) → b ≡ true → ((a || b) || c) ≡ true
      go true b c e = refl
      go false true c e = refl
      go false false c e = absurd (cc)

-- The parts of a component ------------------------------------------------------------------------

same_listed : (k : Tables) (xs : List Placed) → Apart xs → (c d : Placed) (u v : ℕ) → Lists c xs → Lists d xs → c.ty ≡ Record u → d.ty ≡ Record v → c.position ≡ d.position → c ≡ d
same_listed k [] a c d u v l m e f p = absurd l
same_listed k (x ∷ xs) a c d u v (inl l) (inl m) e f p = l ∙ sym m
same_listed k (x ∷ xs) a c d u v (inl l) (inr m) e f p = absurd (a.0 d m u v (sym (ap (λ (z : Placed). z.ty) l) ∙ e) f (sym (ap (λ (z : Placed). z.position) l) ∙ p))
same_listed k (x ∷ xs) a c d u v (inr l) (inl m) e f p = absurd (a.0 c l v u (sym (ap (λ (z : Placed). z.ty) m) ∙ f) e (sym (ap (λ (z : Placed). z.position) m) ∙ sym p))
same_listed k (x ∷ xs) a c d u v (inr l) (inr m) e f p = same_listed k xs a.1 c d u v l m e f p

pub one_type : (u v : ℕ) → Record u ≡ Record v → u ≡ v
one_type u v e = cc e

-- a part that lies below a component is a part of it
pub below_component : (k : Tables) (path : List ℕ) (t : ℕ) (q : List ℕ) (c : Placed) (u : ℕ) → Lists c (placed k t) → c.ty ≡ Record u → Leads (path ++ c.position ∷ []) q → PartIn k path t q → PartIn k (path ++ c.position ∷ []) u q
below_component k path t q c u l e leads (itself x is) = absurd (not_whole path q c.position leads is)
below_component k path t q c u l e leads (inside d v m f h) =
    let p = one_way path q c.position d.position leads (part_leads h) in
    let same = same_listed k (placed k t) (placed_apart k t) c d u v l m e f p in
    let type = one_type v u (sym f ∙ ap (λ (z : Placed). z.ty) (sym same) ∙ e) in
    subst (λ i. PartIn k (path ++ i ∷ []) u q) (sym p) (subst (λ w. PartIn k (path ++ d.position ∷ []) w q) type h)

-- a part of a part, by the way to it
pub data Reaches (k : Tables) : List ℕ → ℕ → List ℕ → ℕ → Type 0 where
  here : {path : List ℕ} {t : ℕ} → Reaches k path t path t
  further : {path : List ℕ} {t : ℕ} {q : List ℕ} {v : ℕ} (c : Placed) (u : ℕ) → Reaches k path t q v → Lists c (placed k v) → c.ty ≡ Record u → Reaches k path t (q ++ c.position ∷ []) u

pub reached_leads : {k : Tables} {path : List ℕ} {t : ℕ} {q : List ℕ} {v : ℕ} → Reaches k path t q v → Leads path q
reached_leads {path = path} here = leads_itself path path refl
reached_leads {path = path} (further {q = q} c u h l e) = let r = reached_leads h in (r.0 ++ c.position ∷ [], ap (λ a. a ++ c.position ∷ []) r.1 ∙ append_assoc path r.0 (c.position ∷ []))

-- what is a part of the whole below there is a part of it
pub reached_part : {k : Tables} {path : List ℕ} {t : ℕ} {q : List ℕ} {v : ℕ} (r : List ℕ) → Reaches k path t q v → Leads q r → PartIn k path t r → PartIn k q v r
reached_part r here leads p = p
reached_part {k = k} r (further {q = q} {v = v} c u h l e) leads p = below_component k q v r c u l e leads (reached_part r h (leads_up q (c.position ∷ []) r leads) p)

pub closes_there : (k : Tables) (path : List ℕ) (t : ℕ) → PartIn k path t path → Closes k t
closes_there k path t (itself c e) = c
closes_there k path t (inside c u l e h) = absurd (not_whole path path c.position (part_leads h) refl)

-- The paths of what is complete --------------------------------------------------------------------

abbrev each_of : (Placed → List (List ℕ)) → List Placed → List (List ℕ)
each_of f [] = []
each_of f (p ∷ ps) = f p ++ each_of f ps

paths_more : (K : Tools) (n : ℕ) (path : List ℕ) (t : ℕ) → paths_within K (suc n) path t ≡ (if is_controlled K.tables t then path ∷ [] else []) ++ each_of (λ p. of_record [] (paths_within K n (path ++ p.position ∷ [])) p.ty) (placed K.tables t)
unfolding paths_within
paths_more K n path t = refl

pub any_both : (q : List ℕ) (xs ys : List (List ℕ)) → any_of (same_list q) (xs ++ ys) ≡ true → (any_of (same_list q) xs ≡ true) ⊎ (any_of (same_list q) ys ≡ true)
unfolding any_of
any_both q [] ys e = inr e
any_both q (x ∷ xs) ys e = go (same_list q x) e (any_both q xs ys)
  where
    go : (b : Bool) → (b || any_of (same_list q) (xs ++ ys)) ≡ true → (any_of (same_list q) (xs ++ ys) ≡ true → (any_of (same_list q) xs ≡ true) ⊎ (any_of (same_list q) ys ≡ true)) → ((b || any_of (same_list q) xs) ≡ true) ⊎ (any_of (same_list q) ys ≡ true)
    go true e h = inl refl
    go false e h = h e

pub any_one : (q x : List ℕ) → any_of (same_list q) (x ∷ []) ≡ true → q ≡ x
unfolding any_of
any_one q x e = same_list_eq q x (go (same_list q x) e)
  where
    go : (b : Bool) → (b || false) ≡ true → b ≡ true
    go true e = refl
    go false e = absurd (cc)

pub any_none : (q : List ℕ) → any_of (same_list q) [] ≡ true → ⊥
unfolding any_of
any_none q e = absurd (cc)

own_leads : (b : Bool) (path q : List ℕ) → any_of (same_list q) (if b then path ∷ [] else []) ≡ true → Leads path q
own_leads true path q e = leads_itself path q (any_one q path e)
own_leads false path q e = absurd (any_none q e)

each_leads : (f : Placed → List (List ℕ)) (path q : List ℕ) → ((p : Placed) → any_of (same_list q) (f p) ≡ true → Leads path q) → (ps : List Placed) → any_of (same_list q) (each_of f ps) ≡ true → Leads path q
each_leads f path q h [] e = absurd (any_none q e)
each_leads f path q h (p ∷ ps) e = elim (any_both q (f p) (each_of f ps) e) [ inl i ↦ h p i | inr i ↦ each_leads f path q h ps i ]

record_leads : (f : ℕ → List (List ℕ)) (q : List ℕ) (ty : Ty) → any_of (same_list q) (of_record [] f ty) ≡ true → (u : ℕ) × (ty ≡ Record u) × (any_of (same_list q) (f u) ≡ true)
unfolding of_record
record_leads f q Integer e = absurd (any_none q e)
record_leads f q Count e = absurd (any_none q e)
record_leads f q Boolean e = absurd (any_none q e)
record_leads f q Address e = absurd (any_none q e)
record_leads f q Handle e = absurd (any_none q e)
record_leads f q (Access a) e = absurd (any_none q e)
record_leads f q (Record u) e = (u, refl, e)

nowhere : (K : Tools) (path : List ℕ) (t : ℕ) → paths_within K zero path t ≡ []
unfolding paths_within
nowhere K path t = refl

within_leads : (K : Tools) (n : ℕ) (path : List ℕ) (t : ℕ) (q : List ℕ) → any_of (same_list q) (paths_within K n path t) ≡ true → Leads path q
within_leads K zero path t q e = absurd (any_none q (subst (λ xs. any_of (same_list q) xs ≡ true) (nowhere K path t) e))
within_leads K (suc n) path t q e =
    elim (any_both q (if is_controlled K.tables t then path ∷ [] else []) _ (subst (λ xs. any_of (same_list q) xs ≡ true) (paths_more K n path t) e)) [
      | inl i ↦ own_leads (is_controlled K.tables t) path q i
      | inr i ↦ each_leads _ path q (λ p j. let r = record_leads (paths_within K n (path ++ p.position ∷ [])) q p.ty j in leads_up path (p.position ∷ []) q (within_leads K n (path ++ p.position ∷ []) r.0 q r.2)) (placed K.tables t) i
    ]

-- they lie below the component
pub paths_lead : (K : Tools) (s : Spot) (x : Placed) (q : List ℕ) → any_of (same_list q) (paths_of K s x) ≡ true → (u : ℕ) × (x.ty ≡ Record u) × Leads (s.path ++ x.position ∷ []) q
unfolding paths_of component_at
paths_lead K s x q e = let r = record_leads (paths_within K (depth K.tables) (s.path ++ x.position ∷ [])) q x.ty e in (r.0, r.1, within_leads K (depth K.tables) (s.path ++ x.position ∷ []) r.0 q r.2)
