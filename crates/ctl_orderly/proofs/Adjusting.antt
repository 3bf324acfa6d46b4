-- Adjust: the parts of an object that begins with a value come to life, each behind its components; where one fails, those that live are
-- closed (7.6).
use Rattle.std.specs.Prelude.{◌≡◌, ℕ, zero, suc, ◌<◌, List, [], ◌∷◌, ◌++◌, length, Option, Some, None, Bool, true, false}
use Rattle.std.proofs.Common.{refl, sym, ap, ◌∙◌, subst, arith, inl, inr}
use Rattle.ctl_program.specs.declared.types.Ty.TheVariants.{Record}
use Rattle.ctl_tree.specs.declared.event.Event.{Event}
use Rattle.ctl_tree.specs.declared.event.Event.TheVariants.{Adjust, Live}
use Rattle.ctl_tree.specs.declared.event.Cause.TheVariants.{Failed}
use Rattle.ctl_tree.specs.declared.event.Owner.{Owner}
use Rattle.ctl_tree.specs.declared.event.Owner.TheVariants.{Master}
use Rattle.ctl_tree.specs.declared.event.Part.{Part}
use Rattle.ctl_meaning.specs.World.{Slot, World}
use Rattle.ctl_meaning.specs.Lists.{any_of, same_list, pull_item, pull_rest}
use Rattle.ctl_meaning.specs.Changes.{begin_finalization}
use Rattle.ctl_meaning.specs.Choice.{Ask}
use Rattle.ctl_meaning.specs.Types.{Tables, Placed, placed, is_controlled, operation, depth}
use Rattle.ctl_meaning.specs.Outcome.{Way, Result, Goes, Leaves, Act, Done, ◌>>=◌, ◌>>◌, done, nothing, raise, ticked, change, when, attempt, Tried, Fine, Raised}
use Rattle.ctl_meaning.specs.Outcome as Outcome
use Rattle.ctl_meaning.specs.Names.{OfSubprogram, Call as Caller, Default, Tools}
use Rattle.ctl_meaning.specs.Audit.{closes_in, closed, first_owner, judge_closing}
use Rattle.ctl_meaning.specs.Emptied.{Lists}
use Rattle.ctl_meaning.specs.Finalization.{Spot, component_at, part_of, no_component, is_whole, Every, These, is_chosen, finalize, finalize_failed}
use Rattle.ctl_meaning.specs.Adjustment.{Birth, lives, lives_if, Adjusted, unadjusted, adjust_each, after_adjust, own_adjust, controlled_parts, adjust_part, clean_up_copy, adjusted, adjust_record}
use Rattle.ctl_orderly.specs.Law.{InOrder}
use Rattle.ctl_orderly.proofs.Traces.{closed_snoc, live_names, owner_kept, owner_lives}
use Rattle.ctl_orderly.proofs.Parts.{Closes, PartIn, itself, inside, Leads, leads_itself, pulled_listed, rest_listed, pulled_or, rest_length, kept_listed, listed_kept}
use Rattle.ctl_orderly.proofs.Depths as D
use Rattle.ctl_orderly.proofs.Depths.{component_before, has_parts, Reaches, here, further, reached_leads, reached_part, closes_there, any_both, any_one, any_none}
use Rattle.ctl_orderly.proofs.State.{part, NoMember, Untouched, Moves, none}
use Rattle.ctl_orderly.proofs.Rules.{Does, Always, Ever, IfGoes, Good, Stable, as_well, framed, seq, then_do, gives_done, gives_nothing, raises, ticks, choice, record_or, attempts, Below, chooses_below, whether, widened}
use Rattle.ctl_orderly.proofs.Edits.{Names, shows, shows_plain, changes, edit_begins, edit_ends}
use Rattle.ctl_orderly.proofs.Closing.{Under, Only, only_under, Stead, stead_on, Ready, ready_on}
use Rattle.ctl_orderly.proofs.Closing as C

-- an object under creation: what lives of it is this owner's
pub record Growing (n : ℕ) (own : Owner) (tr : List Event) (w : World) : Type 0 where
  pub stead : Stead n own tr w
  pub mine : (q : List ℕ) (o : Owner) → first_owner tr (part n q) ≡ Some o → o ≡ own

some_is : (own o : Owner) → Some own ≡ Some o → o ≡ own
some_is own o e = cc e

pub growing_on : {k : Tables} {E : Part → Type 0} (n : ℕ) (own : Owner) → ((p : Part) → E p → p.object ≡ n) → Stable k E (Some own) (Growing n own)
growing_on n own only tr w tr' w' inv inv' a g = record {
  stead = stead_on n own only tr w tr' w' inv inv' a g.stead;
  mine = λ q o h. elim (a.lives (part n q) o (inl g.stead.number) h) [ inl i ↦ g.mine q o i | inr e ↦ some_is own o e.1 ];
}

-- each part below a path lives
abbrev pub Open : Tables → ℕ → List ℕ → ℕ → Owner → List Event → Type 0
Open k n path t own tr = (q : List ℕ) → PartIn k path t q → first_owner tr (part n q) ≡ Some own

-- how far the adjustment of a part has come: what lives by these paths; nothing was closed
pub record Adjusting (k : Tables) (n : ℕ) (path : List ℕ) (t : ℕ) (own : Owner) (paths : List (List ℕ)) (tr : List Event) (w : World) : Type 0 where
  pub growing : Growing n own tr w
  pub clear : Untouched n tr
  pub living : (q : List ℕ) → any_of (same_list q) paths ≡ true → PartIn k path t q → first_owner tr (part n q) ≡ Some own

pub adjusting_still : {k : Tables} (n : ℕ) (path : List ℕ) (t : ℕ) (own : Owner) (paths : List (List ℕ)) → Stable k none (Some own) (Adjusting k n path t own paths)
adjusting_still n path t own paths tr w tr' w' inv inv' a s = record {
  growing = growing_on n own (λ p x. absurd x) tr w tr' w' inv inv' a s.growing;
  clear = λ q. a.closes (part n q) s.growing.stead.number s.growing.stead.out (λ x. x) ∙ s.clear q;
  living = λ q e h. a.kept (part n q) own (s.living q e h);
}

-- what lives goes on to live
pub open_on : {k : Tables} {E : Part → Type 0} {other : Option Owner} {tr tr' : List Event} {w w' : World} (n : ℕ) (path : List ℕ) (t : ℕ) (own : Owner) → Moves E other tr w tr' w' → Open k n path t own tr → Open k n path t own tr'
open_on n path t own a h q i = a.kept (part n q) own (h q i)

-- A part comes to life ---------------------------------------------------------------------------

pub nothing_closed : (q p : Part) (own : Owner) (tr : List Event) → closed (tr ++ Live q own ∷ []) p ≡ closed tr p
unfolding closes_in
nothing_closed q p own tr = let a = closed_snoc tr (Live q own) p in omega arith

pub no_flaw : (q : Part) (own : Owner) (tr : List Event) → judge_closing tr (Live q own) ≡ None
unfolding judge_closing
no_flaw q own tr = refl

none_closed : (q p : Part) (own : Owner) → 0 < closes_in (Live q own) p → ⊥
unfolding closes_in
none_closed q p own lt = absurd (omega arith)

pub born : {k : Tables} (n : ℕ) (path q : List ℕ) (own : Owner) (tr : List Event) (w : World) → Leads path q → Growing n own tr w → Names k (Under n path) (Some own) w (Live (part n q) own)
born n path q own tr w leads g = record {
  closes = λ p lt. absurd (none_closed (part n q) p own lt);
  owns = λ p o h. let e = live_names (part n q) p own o h in (subst (Under n path) e.0 (refl, leads), ap (λ z. Some z) e.1, subst (λ (x : Part). x.object < w.ledger.next_object) e.0 g.stead.number, subst (λ (x : Part). NoMember x.object w) e.0 g.stead.out);
  active = λ p m h. let e = live_names (part n q) p own (Master m) h in g.stead.active m e.1;
}

-- a Live closes nothing
live_adjusting : {k : Tables} (n : ℕ) (path : List ℕ) (t : ℕ) (q : List ℕ) (own : Owner) (paths : List (List ℕ)) → Leads path q → Does k (Under n path) (Some own) (Adjusting k n path t own paths) (λ r tr w. Adjusting k n path t own paths tr w × (first_owner tr (part n q) ≡ Some own)) (Outcome.show (Live (part n q) own))
live_adjusting {k = k} n path t q own paths leads = as_well (framed (Growing n own) (growing_on n own (λ p e. e.0)) lived) (λ tr w i r. (r, r.growing)) (λ r tr w i h. (record { growing = h.1; clear = h.0.0; living = h.0.1 }, h.0.2))
  where
    lived : Does k (Under n path) (Some own) (Adjusting k n path t own paths) (λ r tr w. Untouched n tr × ((p : List ℕ) → any_of (same_list p) paths ≡ true → PartIn k path t p → first_owner tr (part n p) ≡ Some own) × (first_owner tr (part n q) ≡ Some own)) (Outcome.show (Live (part n q) own))
    lived = shows (Live (part n q) own) (λ tr w i r. (no_flaw (part n q) own tr, born n path q own tr w leads r.growing, (λ p. nothing_closed (part n q) (part n p) own tr ∙ r.clear p, λ p e h. owner_kept tr (Live (part n q) own) (part n p) own (r.living p e h), owner_lives tr (part n q) own (r.growing.mine q))))

-- what a depth reaches
abbrev pub Enough : Tables → ℕ → List ℕ → ℕ → Type 0
Enough k fuel path t = (q : List ℕ) → PartIn k path t q → t < fuel

pub enough_less : (k : Tables) → InOrder k.records → (fuel t u : ℕ) (path : List ℕ) (c : Placed) → Lists c (placed k t) → c.ty ≡ Record u → Enough k (suc fuel) path t → Enough k fuel (path ++ c.position ∷ []) u
enough_less k order fuel t u path c l e h q i = let lt = component_before k order t u c l e in let up = h q (inside c u l e i) in omega arith

module _ (k : Tables) (order : InOrder k.records) (ask : Ask) (call : Caller) (default : Default) (calls : (f : ℕ) (ss : List Slot) (env : List ℕ) → Good k (call (OfSubprogram f ss) env)) (b : Birth) where
  abbrev j : Tools
  j = record { ask = ask; tables = k; call = call; default = default }

  -- the parts of these components live
  abbrev pub AllOpen : ℕ → List ℕ → List Placed → List Event → Type 0
  AllOpen n path xs tr = (x : Placed) (u : ℕ) → Lists x xs → x.ty ≡ Record u → Open k n (path ++ x.position ∷ []) u b.owner tr

  -- what the adjustment of a part comes to: unless one failed, each part lives
  abbrev pub Comes : ℕ → List ℕ → ℕ → Adjusted → (List Event → Type 0) → Result Adjusted → List Event → World → Type 0
  Comes n path t a Whole (Goes x) tr w = Adjusting k n path t b.owner x.paths tr w × (x.failed ≡ false → (a.failed ≡ false) × Whole tr)
  Comes n path t a Whole (Leaves y) tr w = Unit {0}

  module _ (n : ℕ) (path0 : List ℕ) (t0 : ℕ) where
    abbrev Adj : List (List ℕ) → List Event → World → Type 0
    Adj paths tr w = Adjusting k n path0 t0 b.owner paths tr w

    unwritten : (x : Bool) → x ≡ true → x ≡ false → ⊥
    unwritten x e f = absurd (cc)

    -- the part itself is one of those that are adjusted
    with_itself : (q : List ℕ) (t : ℕ) (paths : List (List ℕ)) (tr : List Event) (w : World) → Reaches k path0 t0 q t → (Closes k t → first_owner tr (part n q) ≡ Some b.owner) → Adjusting k n path0 t0 b.owner paths tr w → Adjusting k n path0 t0 b.owner (paths ++ q ∷ []) tr w
    with_itself q t paths tr w reach own s = record {
      growing = s.growing;
      clear = s.clear;
      living = λ r e h. elim (any_both r paths (q ∷ []) e) [ inl i ↦ s.living r i h | inr i ↦ let is = any_one r q i in subst (λ z. first_owner tr (part n z) ≡ Some b.owner) (sym is) (own (closes_there k q t (reached_part q reach (leads_itself q q refl) (subst (PartIn k path0 t0) is h)))) ];
    }

    whole_open : (q : List ℕ) (t : ℕ) (tr : List Event) → (Closes k t → first_owner tr (part n q) ≡ Some b.owner) → AllOpen n q (placed k t) tr → Open k n q t b.owner tr
    whole_open q t tr own inner r (itself c e) = subst (λ z. first_owner tr (part n z) ≡ Some b.owner) (sym e) (own c)
    whole_open q t tr own inner r (inside c u l e h) = inner c u l e r h

    all_open_on : {E : Part → Type 0} {other : Option Owner} {tr tr' : List Event} {w w' : World} (path : List ℕ) (xs : List Placed) → Moves E other tr w tr' w' → AllOpen n path xs tr → AllOpen n path xs tr'
    all_open_on path xs a h x u l e = open_on n (path ++ x.position ∷ []) u b.owner a (h x u l e)

    -- The own Adjust of a part ----------------------------------------------------------------------

    lives_does : (s : Spot) (t : ℕ) (paths : List (List ℕ)) → s.object ≡ n → Reaches k path0 t0 s.path t → is_controlled k t ≡ true → Does k (Under n path0) (Some b.owner) (Adj paths) (IfGoes (λ tr w. Adjusting k n path0 t0 b.owner (paths ++ s.path ∷ []) tr w × (Closes k t → first_owner tr (part n s.path) ≡ Some b.owner))) (lives j b s t)
    unfolding lives part_of
    lives_does s t paths at reach controlled =
        choice _ (λ e. as_well (subst (λ m. Does k (Under n path0) (Some b.owner) (Adj paths) (λ r tr w. Adj paths tr w × (first_owner tr (part n s.path) ≡ Some b.owner)) (Outcome.show (Live (part m s.path) b.owner))) (sym at) (live_adjusting n path0 t0 s.path b.owner paths (reached_leads reach)))
        (λ tr w i r. r) (λ r tr w i h. went r tr w h))
        (λ e. gives_nothing (λ tr w i r. (with_itself s.path t paths tr w reach (λ c. absurd (unwritten _ c.written e)) r, λ c. absurd (unwritten _ c.written e))))
      where
        went : (r : Result Done) (tr : List Event) (w : World) → Adj paths tr w × (first_owner tr (part n s.path) ≡ Some b.owner) → IfGoes (λ tr w. Adjusting k n path0 t0 b.owner (paths ++ s.path ∷ []) tr w × (Closes k t → first_owner tr (part n s.path) ≡ Some b.owner)) r tr w
        went (Goes a) tr w h = (with_itself s.path t paths tr w reach (λ c. h.1) h.0, λ c. h.1)
        went (Leaves y) tr w h = tt

    after_does : (s : Spot) (t : ℕ) (a : Adjusted) → s.object ≡ n → Reaches k path0 t0 s.path t → is_controlled k t ≡ true → (S : List Event → Type 0) → ((tr tr' : List Event) (w w' : World) → Moves (Under n path0) (Some b.owner) tr w tr' w' → S tr → S tr') → (r : Tried Done) → Does k (Under n path0) (Some b.owner) (λ tr w. Adj a.paths tr w × S tr) (Comes n path0 t0 a (λ tr. S tr × (Closes k t → first_owner tr (part n s.path) ≡ Some b.owner))) (after_adjust j (Some b) s t a r)
    unfolding after_adjust lives_if
    after_does s t a at reach controlled S keeps (Fine x) =
        then_do (framed (λ tr w. S tr) (λ tr w tr' w' i i' m h. keeps tr tr' w w' m h) (lives_does s t a.paths at reach controlled)) (λ y. gives_done _ (λ tr w i h. (h.0.0, λ e. (e, (h.1, h.0.1))))) (λ y tr w i h. tt)
    after_does s t a at reach controlled S keeps (Raised e) = gives_done _ (λ tr w i r. (r.0, λ f. absurd (cc f)))

    own_does : (s : Spot) (t : ℕ) (a : Adjusted) → s.object ≡ n → Reaches k path0 t0 s.path t → (S : List Event → Type 0) → ((E : Part → Type 0) (own : Option Owner) (tr tr' : List Event) (w w' : World) → Moves E own tr w tr' w' → S tr → S tr') → Does k (Under n path0) (Some b.owner) (λ tr w. Adj a.paths tr w × S tr) (Comes n path0 t0 a (λ tr. S tr × (Closes k t → first_owner tr (part n s.path) ≡ Some b.owner))) (own_adjust j (Some b) s t a)
    unfolding own_adjust part_of
    own_does s t a at reach S keeps =
        choice _ (λ e. seq (attempts (C.call_does k ask call default calls s (operation (λ x. x.adjust) k t) (Adjust (part s.object s.path)) stays (λ tr w r z. r) (λ z Req' needs. as_well (widened {E = none} (λ p x. absurd x) (framed (λ tr w. Adj a.paths tr w × S tr) stays (shows_plain (Adjust (part s.object s.path)) tt))) (λ tr w i r. (tt, needs tr w r)) (λ r tr w i h. h.1))))
        (λ r. as_well (after_does s t a at reach e S (λ tr tr' w w' m h. keeps _ _ tr tr' w w' m h) r) (λ tr w i h. C.tried_does k ask call default calls _ (Goes r) tr w h) (λ r tr w i h. h)) (λ y tr w i h. tt))
        (λ e. gives_done a (λ tr w i r. (r.0, λ f. (f, (r.1, λ c. absurd (unwritten _ c.controlled e))))))
      where
        stays : Stable k none (Some b.owner) (λ tr w. Adj a.paths tr w × S tr)
        stays tr w tr' w' i i' m h = (adjusting_still n path0 t0 b.owner a.paths tr w tr' w' i i' m h.0, keeps _ _ tr tr' w w' m h.1)

    -- Components in a picked order ---------------------------------------------------------------------

    -- one component, if it has parts, lives where nothing failed
    abbrev OneOpen : List ℕ → Placed → List Event → Type 0
    OneOpen path x tr = (u : ℕ) → x.ty ≡ Record u → Open k n (path ++ x.position ∷ []) u b.owner tr

    both_open : (path : List ℕ) (left : List Placed) (i : ℕ) (tr : List Event) → i < length left → OneOpen path (pull_item no_component i left) tr → AllOpen n path (pull_rest i left) tr → AllOpen n path left tr
    both_open path left i tr lt one rest x u l e = elim (pulled_or i left x lt l) [ inl is ↦ subst (λ y. OneOpen path y tr) (sym is) one u e | inr m ↦ rest x u m e ]

    each_does : (path : List ℕ) (F : Placed → Adjusted → Act Adjusted) → (m : ℕ) (left : List Placed) → length left ≡ m → ((x : Placed) → ((u : ℕ) → x.ty ≡ Record u → Lists x left) → (a : Adjusted) → Does k (Under n path0) (Some b.owner) (λ tr w. Adj a.paths tr w) (Comes n path0 t0 a (OneOpen path x)) (F x a)) → (a : Adjusted) → Does k (Under n path0) (Some b.owner) (λ tr w. Adj a.paths tr w) (Comes n path0 t0 a (AllOpen n path left)) (adjust_each j F m left a)
    unfolding adjust_each
    each_does path F zero [] e does a = gives_done a (λ tr w i r. (r, λ f. (f, λ x u l. absurd l)))
    each_does path F zero (x ∷ left) e does a = absurd (omega arith)
    each_does path F (suc m) left e does a =
        seq {P = λ r tr w. Adj a.paths tr w × Below (suc m) r} (chooses_below ask m) (λ i. picks i (λ lt x. each_does path F m (pull_rest i left) (rest_length i m left e lt) (λ y listed. does y (λ u ty. rest_listed i left y (listed u ty))) x)) (λ y tr w inv h. tt)
      where
        went : (i : ℕ) (c : Adjusted) (r : Result Adjusted) (tr : List Event) (w : World) → i < length left → Comes n path0 t0 c (AllOpen n path (pull_rest i left)) r tr w × (c.failed ≡ false → (a.failed ≡ false) × OneOpen path (pull_item no_component i left) tr) → Comes n path0 t0 a (AllOpen n path left) r tr w
        went i c (Goes x) tr w lt h = (h.0.0, λ f. let rest = h.0.1 f in let one = h.1 rest.0 in (one.0, both_open path left i tr lt one.1 rest.1))
        went i c (Leaves y) tr w lt h = tt

        picks : (i : ℕ) → (i < suc m → (x : Adjusted) → Does k (Under n path0) (Some b.owner) (λ tr w. Adj x.paths tr w) (Comes n path0 t0 x (AllOpen n path (pull_rest i left))) (adjust_each j F m (pull_rest i left) x)) → Does k (Under n path0) (Some b.owner) (λ tr w. Adj a.paths tr w × (i < suc m)) (Comes n path0 t0 a (AllOpen n path left)) (ticked (F (pull_item no_component i left) a) >>= adjust_each j F m (pull_rest i left))
        picks i again = record {
          from = λ c l w inv r. (seq {P = Comes n path0 t0 a (OneOpen path (pull_item no_component i left))} (ticks (does (pull_item no_component i left) (pulled_listed i left) a))
              (λ x. as_well (framed (λ tr w. x.failed ≡ false → (a.failed ≡ false) × OneOpen path (pull_item no_component i left) tr) (λ tr w tr' w' v v' moves h f. let s = h f in (s.0, λ u ty. open_on n _ u b.owner moves (s.1 u ty)))
              (again r.1 x))
              (λ tr v inv h. h) (λ r2 tr v inv h. went i x r2 tr v (let lt = r.1 in omega arith) h))
              (λ y tr v inv h. tt)).from c l w inv r.0;
        }

    -- A part with its components ---------------------------------------------------------------------------

    adjusted_part : (t : ℕ) (x : Placed) → Lists x (controlled_parts j t) → Lists x (placed k t)
    unfolding controlled_parts
    adjusted_part t x l = kept_listed _ (placed k t) x l

    inner_open : (path : List ℕ) (t : ℕ) (tr : List Event) → AllOpen n path (controlled_parts j t) tr → AllOpen n path (placed k t) tr
    unfolding controlled_parts
    inner_open path t tr h x u l e q i = h x u (listed_kept _ (placed k t) x l (has_parts k order _ u q x.ty e i)) e q i

    comes_whole : (s : Spot) (t : ℕ) (a c : Adjusted) (r : Result Adjusted) (tr : List Event) (w : World) → Comes n path0 t0 c (λ tr. (c.failed ≡ false → (a.failed ≡ false) × AllOpen n s.path (controlled_parts j t) tr) × (Closes k t → first_owner tr (part n s.path) ≡ Some b.owner)) r tr w → Comes n path0 t0 a (Open k n s.path t b.owner) r tr w
    comes_whole s t a c (Goes x) tr w h = (h.0, λ f. let all = h.1 f in let inner = all.1.0 all.0 in (inner.0, whole_open s.path t tr all.1.1 (inner_open s.path t tr inner.1)))
    comes_whole s t a c (Leaves y) tr w h = tt

    pub part_does : (fuel : ℕ) (s : Spot) (t : ℕ) (a : Adjusted) → s.object ≡ n → Reaches k path0 t0 s.path t → Enough k fuel s.path t → Does k (Under n path0) (Some b.owner) (λ tr w. Adj a.paths tr w) (Comes n path0 t0 a (Open k n s.path t b.owner)) (adjust_part j (Some b) fuel s t a)
    unfolding adjust_part component_at
    part_does zero s t a at reach enough = gives_done a (λ tr w i r. (r, λ f. (f, λ q h. absurd (let lt = enough q h in omega arith))))
    part_does (suc fuel) s t a at reach enough =
        seq {P = Comes n path0 t0 a (AllOpen n s.path (controlled_parts j t))}
        (each_does s.path _ (length (controlled_parts j t)) (controlled_parts j t) refl
        (λ x listed c. record_or x.ty (λ no. gives_done c (λ tr w i r. (r, λ f. (f, λ u e. absurd (no u e)))))
        (λ u e. as_well (part_does fuel (component_at s x) u c at (further x u reach (adjusted_part t x (listed u e)) e) (enough_less k order fuel t u s.path x (adjusted_part t x (listed u e)) e enough)) (λ tr w i r. r) (λ r tr w i h. only_one s x u c e r tr w h))) a)
        (λ c. as_well (own_does s t c at reach (λ tr. c.failed ≡ false → (a.failed ≡ false) × AllOpen n s.path (controlled_parts j t) tr) (λ E own tr tr' w w' m h f. let g = h f in (g.0, all_open_on s.path (controlled_parts j t) m g.1))) (λ tr w i r. r) (λ r tr w i h. comes_whole s t a c r tr w h))
        (λ y tr w i h. tt)
      where
        only_one : (s : Spot) (x : Placed) (u : ℕ) (c : Adjusted) → x.ty ≡ Record u → (r : Result Adjusted) (tr : List Event) (w : World) → Comes n path0 t0 c (Open k n (s.path ++ x.position ∷ []) u b.owner) r tr w → Comes n path0 t0 c (OneOpen s.path x) r tr w
        only_one s x u c e (Goes y) tr w h = (h.0, λ f. let g = h.1 f in (g.0, λ v is. subst (λ z. Open k n (s.path ++ x.position ∷ []) z b.owner tr) (D.one_type u v (sym e ∙ is)) g.1))
        only_one s x u c e (Leaves y) tr w h = tt

  -- A creation that fails ---------------------------------------------------------------------------------------

  abbrev pub Failing : Spot → ℕ → List (List ℕ) → List Event → World → Type 0
  Failing s t paths tr w = Stead s.object b.owner tr w × Ready k (These paths) s.object s.path t b.owner tr

  failing_still : (s : Spot) (t : ℕ) (paths : List (List ℕ)) → Stable k none (Some b.owner) (Failing s t paths)
  failing_still s t paths tr w tr' w' i i' m h = (stead_on s.object b.owner (λ p x. absurd x) tr w tr' w' i i' m h.0, ready_on (These paths) s.object s.path t m h.0 (λ q x y. y) h.1)

  -- what lives is closed
  pub failed_does : (s : Spot) (t : ℕ) (paths : List (List ℕ)) → Does k (Under s.object s.path) (Some b.owner) (Failing s t paths) Ever (finalize_failed j paths s t)
  unfolding finalize_failed finalize
  failed_does s t paths =
      seq {P = Ever} (as_well (C.closes_parts k ask call default calls Failed (These paths) (depth k) s t b.owner (Some b.owner)) (λ tr w i r. r) (λ r tr w i h. tt))
      (λ c. then_do {P = Ever} (whether (is_whole s) (changes (edit_ends s.object) (λ tr w i r. tt)) (λ tr w i r. tt)) (λ x. gives_done c (λ tr w i r. tt)) (λ y tr w i h. tt)) (λ y tr w i h. tt)

  begun_failing : (s : Spot) (t : ℕ) (paths : List (List ℕ)) → Does k (Under s.object s.path) (Some b.owner) (Failing s t paths) (λ r tr w. Failing s t paths tr w) (change (begin_finalization s.object))
  begun_failing s t paths = as_well (widened {E = none} (λ p x. absurd x) (framed (Failing s t paths) (failing_still s t paths) (changes {Req = Always} {P = Ever} (edit_begins s.object) (λ tr w i r. tt)))) (λ tr w i r. (tt, r)) (λ r tr w i h. h.1)

  pub fails_does : (s : Spot) (t : ℕ) (paths : List (List ℕ)) → Does k (Under s.object s.path) (Some b.owner) (Failing s t paths) Ever (change (begin_finalization s.object) >> finalize_failed j paths s t)
  fails_does s t paths = then_do (begun_failing s t paths) (λ a. failed_does s t paths) (λ y tr w i h. tt)

  copy_does : (s : Spot) (t : ℕ) (paths : List (List ℕ)) → Does k (Under s.object s.path) (Some b.owner) (Failing s t paths) Ever (clean_up_copy j s t paths)
  unfolding clean_up_copy
  copy_does s t paths = then_do {P = Ever} (then_do {P = λ r tr w. Failing s t paths tr w} (whether (is_whole s) (begun_failing s t paths) (λ tr w i r. r)) (λ a. failed_does s t paths) (λ y tr w i h. tt)) (λ a. gives_nothing (λ tr w i r. tt)) (λ y tr w i h. tt)

  -- A creation that succeeds --------------------------------------------------------------------------------------

  -- a part that is created: it lives, and nothing of it was closed
  abbrev pub Made : ℕ → List ℕ → ℕ → List Event → World → Type 0
  Made n path t tr w = Growing n b.owner tr w × Ready k Every n path t b.owner tr × Untouched n tr

  adjusted_does : (s : Spot) (t : ℕ) (a : Adjusted) → Does k (Under s.object s.path) (Some b.owner) (λ tr w. Adjusting k s.object s.path t b.owner a.paths tr w × (a.failed ≡ false → Open k s.object s.path t b.owner tr)) (IfGoes (Made s.object s.path t)) (adjusted j (Some b) s t a)
  unfolding adjusted is_chosen
  adjusted_does s t a =
      choice a.failed (λ e. then_do {P = Ever} (whether true (as_well (copy_does s t a.paths) (λ tr w i r. (r.0.growing.stead, record { lives = λ q h c. r.0.living q c h; unclosed = λ q h c. r.0.clear q })) (λ r tr w i h. tt)) (λ tr w i r. tt)) (λ x. raises _ (λ tr w i r. tt)) (λ y tr w i h. tt))
      (λ e. gives_nothing (λ tr w i r. (r.0.growing, record { lives = λ q h c. r.1 e q h; unclosed = λ q h c. r.0.clear q }, r.0.clear)))

  -- a part that begins with a value
  pub record_does : (s : Spot) (t : ℕ) → Enough k (depth k) s.path t → Does k (Under s.object s.path) (Some b.owner) (λ tr w. Growing s.object b.owner tr w × Untouched s.object tr) (IfGoes (Made s.object s.path t)) (adjust_record j (Some b) s t)
  unfolding adjust_record unadjusted
  record_does s t enough =
      seq (as_well (part_does s.object s.path t (depth k) s t (record { failed = false; paths = [] }) refl here enough) (λ tr w i r. record { growing = r.0; clear = r.1; living = λ q e h. absurd (any_none q e) }) (λ r tr w i h. h))
      (λ a. as_well (adjusted_does s t a) (λ tr w i h. (h.0, λ f. (h.1 f).1)) (λ r tr w i h. h)) (λ y tr w i h. tt)
