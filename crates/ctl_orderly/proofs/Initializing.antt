-- Initialize: the components come to life in a picked order, and then the whole; where one fails, those that are complete are closed (7.6).
use Rattle.std.specs.Prelude.{◌≡◌, ℕ, zero, suc, ◌+◌, ◌<◌, List, [], ◌∷◌, ◌++◌, length, Option, Some, None, Bool, true, false}
use Rattle.std.proofs.Common.{refl, sym, ◌∙◌, subst, arith, ◌⊎◌, inl, inr}
use Rattle.ctl_program.specs.declared.types.Ty.TheVariants.{Record}
use Rattle.ctl_tree.specs.declared.event.Event.{Event}
use Rattle.ctl_tree.specs.declared.event.Event.TheVariants.{Initialize, Live}
use Rattle.ctl_tree.specs.declared.event.Owner.{Owner}
use Rattle.ctl_tree.specs.declared.event.Part.{Part}
use Rattle.ctl_meaning.specs.World.{Slot, World}
use Rattle.ctl_meaning.specs.Lists.{any_of, same_list, pull_item, pull_rest}
use Rattle.ctl_meaning.specs.Choice.{Ask}
use Rattle.ctl_meaning.specs.Types.{Tables, Placed, placed, operation, depth}
use Rattle.ctl_meaning.specs.Outcome.{Way, Result, Goes, Leaves, Act, Done, ◌>>=◌, ◌>>◌, done, ticked, attempt, Tried, Fine, Raised}
use Rattle.ctl_meaning.specs.Outcome as Outcome
use Rattle.ctl_meaning.specs.Names.{OfSubprogram, Call as Caller, Default, Tools, write_part}
use Rattle.ctl_meaning.specs.Audit.{first_owner}
use Rattle.ctl_meaning.specs.Emptied.{Lists}
use Rattle.ctl_meaning.specs.Finalization.{Spot, component_at, part_of, no_component, Every, These, is_chosen}
use Rattle.ctl_meaning.specs.Adjustment.{Birth, lives, adjust}
use Rattle.ctl_meaning.specs.Initialization.{paths_of, Begun, begun_with, begin_next, begin_each, own_initialize, unless_failed, failed_with, clean_up, begun, begin_component, parts_to_begin, initialize_part}
use Rattle.ctl_orderly.specs.Law.{InOrder}
use Rattle.ctl_orderly.proofs.Traces.{owner_kept, owner_lives}
use Rattle.ctl_orderly.proofs.Parts.{Closes, PartIn, itself, inside, Leads, leads_itself, leads_up, part_leads, one_way, Off, Apart, pulled_listed, rest_listed, rest_off, rest_apart, pulled_or, rest_length, kept_listed, kept_apart, listed_kept, placed_apart, record_or_not}
use Rattle.ctl_orderly.proofs.Depths.{has_parts, is_begun, below_component, any_both, any_none, paths_lead, one_type, part_known}
use Rattle.ctl_orderly.proofs.State.{part, Untouched, Moves, none}
use Rattle.ctl_orderly.proofs.Rules.{Does, Always, Ever, IfGoes, Good, Stable, as_well, framed, seq, then_do, gives_done, gives_nothing, raises, ticks, some_or, choice, record_or, Attempted, attempts, Below, chooses_below, exists, widened, good_in}
use Rattle.ctl_orderly.proofs.Edits.{shows, shows_plain, changes, edit_writes}
use Rattle.ctl_orderly.proofs.Closing.{Under, Stead, stead_on, Ready, ready_on}
use Rattle.ctl_orderly.proofs.Closing as C
use Rattle.ctl_orderly.proofs.Adjusting.{Growing, growing_on, Enough, enough_less, nothing_closed, no_flaw, born}
use Rattle.ctl_orderly.proofs.Adjusting as A

module _ (k : Tables) (order : InOrder k.records) (ask : Ask) (call : Caller) (default : Default) (calls : (f : ℕ) (ss : List Slot) (env : List ℕ) → Good k (call (OfSubprogram f ss) env)) (values : (u position : ℕ) (env : List ℕ) → Good k (default u position env)) (b : Birth) where
  abbrev j : Tools
  j = record { ask = ask; tables = k; call = call; default = default }

  abbrev pub Made : ℕ → List ℕ → ℕ → List Event → World → Type 0
  Made n path t tr w = Growing n b.owner tr w × Ready k Every n path t b.owner tr × Untouched n tr

  abbrev ReadyAt : ℕ → List ℕ → Placed → List Event → Type 0
  ReadyAt n path x tr = (u : ℕ) → x.ty ≡ Record u → Ready k Every n (path ++ x.position ∷ []) u b.owner tr

  -- a component is still to be begun, or is complete and none of those
  abbrev Fate : ℕ → List ℕ → List Placed → Placed → List Event → Type 0
  Fate n path left z tr = Lists z left ⊎ (((y : Placed) → Lists y left → Off y z) × ReadyAt n path z tr)

  module _ (s : Spot) (t : ℕ) where
    -- the parts of one component
    abbrev Of : Placed → Part → Type 0
    Of x p = (u : ℕ) × (x.ty ≡ Record u) × Under s.object (s.path ++ x.position ∷ []) p

    -- how far the components of a part have come
    record Coming (left : List Placed) (paths : List (List ℕ)) (tr : List Event) (w : World) : Type 0 where
      growing : Growing s.object b.owner tr w
      complete : Ready k (These paths) s.object s.path t b.owner tr
      clear : Untouched s.object tr
      fate : (z : Placed) → Lists z (parts_to_begin j t) → Fate s.object s.path left z tr

    -- no path of these lies in a component that is still to be begun
    abbrev Avoids : List (List ℕ) → List Placed → Type 0
    Avoids paths left = (q : List ℕ) (y : Placed) (u : ℕ) → any_of (same_list q) paths ≡ true → Lists y left → y.ty ≡ Record u → Leads (s.path ++ y.position ∷ []) q → ⊥

    -- what stays while a component is begun, whether it is complete then or not
    record Staying (x : Placed) (rest : List Placed) (paths : List (List ℕ)) (tr : List Event) (w : World) : Type 0 where
      growing : Growing s.object b.owner tr w
      complete : Ready k (These paths) s.object s.path t b.owner tr
      fate : (z : Placed) → Lists z (parts_to_begin j t) → (z ≡ x) ⊎ (Lists z rest ⊎ (Off x z × ((y : Placed) → Lists y rest → Off y z) × ReadyAt s.object s.path z tr))

    of_object : (x : Placed) (p : Part) → Of x p → p.object ≡ s.object
    of_object x p h = h.2.0

    ready_apart : {tr tr' : List Event} {w w' : World} (x z : Placed) → Moves (Of x) (Some b.owner) tr w tr' w' → Stead s.object b.owner tr w → Off x z → ReadyAt s.object s.path z tr → ReadyAt s.object s.path z tr'
    ready_apart x z m stead off r u e = ready_on Every s.object (s.path ++ z.position ∷ []) u m stead (λ q h f. off f.0 u f.1 e (one_way s.path q x.position z.position f.2.1 (part_leads h))) (r u e)

    staying_on : (x : Placed) (rest : List Placed) (paths : List (List ℕ)) → ((y : Placed) → Lists y rest → Off x y) → ((q : List ℕ) (u : ℕ) → any_of (same_list q) paths ≡ true → x.ty ≡ Record u → Leads (s.path ++ x.position ∷ []) q → ⊥) → Stable k (Of x) (Some b.owner) (Staying x rest paths)
    unfolding is_chosen
    staying_on x rest paths off avoids tr w tr' w' i i' m h = record {
      growing = growing_on s.object b.owner (of_object x) tr w tr' w' i i' m h.growing;
      complete = record { lives = λ q part c. m.kept _ _ (h.complete.lives q part c); unclosed = λ q p c. m.closes (part s.object q) h.growing.stead.number h.growing.stead.out (λ f. avoids q f.0 c f.1 f.2.1) ∙ h.complete.unclosed q p c };
      fate = λ z l. elim (h.fate z l) [ inl e ↦ inl e | inr g ↦ inr (elim g [ inl r ↦ inl r | inr d ↦ inr (d.0, d.1, ready_apart x z m h.growing.stead d.0 d.2) ]) ];
    }

    off_back : (x y : Placed) → Off x y → Off y x
    off_back x y h u v e f g = h v u f e (sym g)

    to_staying : (i : ℕ) (left : List Placed) (paths : List (List ℕ)) (tr : List Event) (w : World) → i < length left → Coming left paths tr w → Staying (pull_item no_component i left) (pull_rest i left) paths tr w
    to_staying i left paths tr w lt c = record {
      growing = c.growing;
      complete = c.complete;
      fate = λ z l. elim (c.fate z l) [ inl m ↦ elim (pulled_or i left z lt m) [ inl e ↦ inl e | inr r ↦ inr (inl r) ] | inr d ↦ inr (inr (λ u v e f g. d.0 (pull_item no_component i left) (pulled_listed i left u e) u v e f g, λ y r. d.0 y (rest_listed i left y r), d.1)) ];
    }

    ready_same : (x z : Placed) (tr : List Event) → z ≡ x → ReadyAt s.object s.path x tr → ReadyAt s.object s.path z tr
    ready_same x z tr e h = subst (λ y. ReadyAt s.object s.path y tr) (sym e) h

    from_staying : (x : Placed) (rest : List Placed) (paths : List (List ℕ)) (tr : List Event) (w : World) → ((y : Placed) → Lists y rest → Off x y) → ((u : ℕ) → x.ty ≡ Record u → Lists x (placed k t)) → ReadyAt s.object s.path x tr → Untouched s.object tr → Staying x rest paths tr w → Coming rest (paths ++ paths_of j s x) tr w
    unfolding is_chosen
    from_staying x rest paths tr w off listed ready clear h = record {
      growing = h.growing;
      complete = record {
        lives = λ q p c. elim (any_both q paths (paths_of j s x) c) [ inl i ↦ h.complete.lives q p i | inr i ↦ let l = paths_lead j s x q i in (ready l.0 l.1).lives q (below_component k s.path t q x l.0 (listed l.0 l.1) l.1 l.2 p) refl ];
        unclosed = λ q p c. elim (any_both q paths (paths_of j s x) c) [ inl i ↦ h.complete.unclosed q p i | inr i ↦ let l = paths_lead j s x q i in (ready l.0 l.1).unclosed q (below_component k s.path t q x l.0 (listed l.0 l.1) l.1 l.2 p) refl ];
      };
      clear = clear;
      fate = λ z l. elim (h.fate z l) [ inl e ↦ inr (λ y m. subst (λ v. Off y v) (sym e) (off_back x y (off y m)), ready_same x z tr e ready) | inr g ↦ elim g [ inl r ↦ inl r | inr d ↦ inr (d.1, d.2) ] ];
    }

    avoids_more : (x : Placed) (rest : List Placed) (paths : List (List ℕ)) → ((y : Placed) → Lists y rest → Off x y) → Avoids paths rest → Avoids (paths ++ paths_of j s x) rest
    avoids_more x rest paths off avoids q y u e l f leads = elim (any_both q paths (paths_of j s x) e) [ inl i ↦ avoids q y u i l f leads | inr i ↦ let g = paths_lead j s x q i in off y l g.0 u g.1 f (one_way s.path q x.position y.position g.2 leads) ]

    -- what the begun components come to: unless one failed, all are complete
    abbrev Comes : Result Begun → List Event → World → Type 0
    Comes (Goes x) tr w = Growing s.object b.owner tr w × Ready k (These x.paths) s.object s.path t b.owner tr × (x.failure ≡ None → Untouched s.object tr × ((z : Placed) → Lists z (parts_to_begin j t) → ReadyAt s.object s.path z tr))
    Comes (Leaves y) tr w = Unit {0}

    some_no : (e : ℕ) → Some e ≡ None → ⊥
    some_no e i = absurd (cc)

    each_does : (f : Placed → Act Done) → (m : ℕ) (left : List Placed) (paths : List (List ℕ)) → length left ≡ m → Apart left → ((x : Placed) → Lists x left → Lists x (placed k t)) → Avoids paths left → ((x : Placed) → ((u : ℕ) → x.ty ≡ Record u → Lists x (placed k t)) → Does k (Of x) (Some b.owner) (λ tr w. Growing s.object b.owner tr w × Untouched s.object tr) (IfGoes (λ tr w. ReadyAt s.object s.path x tr × Untouched s.object tr)) (f x)) → Does k (Under s.object s.path) (Some b.owner) (Coming left paths) Comes (begin_each j s f m left paths)
    unfolding begin_each begun_with begin_next
    each_does f zero [] paths e apart sub avoids does = gives_done _ (λ tr w i r. (r.growing, r.complete, λ n. (r.clear, λ z l. elim (r.fate z l) [ inl h ↦ absurd h | inr d ↦ d.1 ])))
    each_does f zero (x ∷ left) paths e apart sub avoids does = absurd (omega arith)
    each_does f (suc m) left paths e apart sub avoids does =
        seq {P = λ r tr w. Coming left paths tr w × Below (suc m) r} (chooses_below ask m) (λ i. picks i (λ lt. each_does f m (pull_rest i left) (paths ++ paths_of j s (pull_item no_component i left)) (rest_length i m left e lt) (rest_apart i left apart) (λ x l. sub x (rest_listed i left x l))
        (avoids_more (pull_item no_component i left) (pull_rest i left) paths (rest_off i left apart) (λ q y u h l. avoids q y u h (rest_listed i left y l))) does)) (λ y tr w inv h. tt)
      where
        next : (i : ℕ) → (i < suc m → Does k (Under s.object s.path) (Some b.owner) (Coming (pull_rest i left) (paths ++ paths_of j s (pull_item no_component i left))) Comes (begin_each j s f m (pull_rest i left) (paths ++ paths_of j s (pull_item no_component i left)))) → i < suc m → (r : Tried Done) → Does k (Under s.object s.path) (Some b.owner) (λ tr w. Attempted (λ r tr w. IfGoes (λ tr w. ReadyAt s.object s.path (pull_item no_component i left) tr × Untouched s.object tr) r tr w × Staying (pull_item no_component i left) (pull_rest i left) paths tr w) (Goes r) tr w) Comes (begin_next paths (begin_each j s f m (pull_rest i left)) (paths_of j s (pull_item no_component i left)) r)
        next i again lt (Fine a) = as_well (again lt) (λ tr w inv h. from_staying (pull_item no_component i left) (pull_rest i left) paths tr w (rest_off i left apart) (λ u e. sub (pull_item no_component i left) (pulled_listed i left u e)) h.0.0 h.0.1 h.1) (λ r tr w inv h. h)
        next i again lt (Raised n) = gives_done _ (λ tr w inv h. (h.1.growing, h.1.complete, λ never. absurd (some_no n never)))

        wide : (x : Placed) (p : Part) → Of x p → Under s.object s.path p
        wide x p h = (h.2.0, leads_up s.path (x.position ∷ []) p.path h.2.1)

        picks : (i : ℕ) → (i < suc m → Does k (Under s.object s.path) (Some b.owner) (Coming (pull_rest i left) (paths ++ paths_of j s (pull_item no_component i left))) Comes (begin_each j s f m (pull_rest i left) (paths ++ paths_of j s (pull_item no_component i left)))) → Does k (Under s.object s.path) (Some b.owner) (λ tr w. Coming left paths tr w × (i < suc m)) Comes (attempt (ticked (f (pull_item no_component i left))) >>= begin_next paths (begin_each j s f m (pull_rest i left)) (paths_of j s (pull_item no_component i left)))
        picks i again = record {
          from = λ c l w inv r. (seq (as_well (attempts (ticks (widened (wide (pull_item no_component i left)) (framed (Staying (pull_item no_component i left) (pull_rest i left) paths)
              (staying_on (pull_item no_component i left) (pull_rest i left) paths (rest_off i left apart) (λ q u h ty leads. avoids q (pull_item no_component i left) u h (pulled_listed i left u ty) ty leads))
              (does (pull_item no_component i left) (λ u ty. sub (pull_item no_component i left) (pulled_listed i left u ty)))))))
              (λ tr v inv h. ((h.growing, h.clear), to_staying i left paths tr v (let lt = r.1 in omega arith) h)) (λ r2 tr v inv h. h))
              (λ x. next i again r.1 x) (λ y tr v inv h. tt)).from c l w inv r.0;
        }

    -- The own Initialize of a part -------------------------------------------------------------------------

    -- all components are complete
    record Inner (paths : List (List ℕ)) (tr : List Event) (w : World) : Type 0 where
      growing : Growing s.object b.owner tr w
      complete : Ready k (These paths) s.object s.path t b.owner tr
      clear : Untouched s.object tr
      inner : (z : Placed) → Lists z (parts_to_begin j t) → ReadyAt s.object s.path z tr

    inner_still : (paths : List (List ℕ)) → Stable k none (Some b.owner) (Inner paths)
    inner_still paths tr w tr' w' i i' m h = record {
      growing = growing_on s.object b.owner (λ p x. absurd x) tr w tr' w' i i' m h.growing;
      complete = ready_on (These paths) s.object s.path t m h.growing.stead (λ q x y. y) h.complete;
      clear = λ q. m.closes (part s.object q) h.growing.stead.number h.growing.stead.out (λ x. x) ∙ h.clear q;
      inner = λ z l u e. ready_on Every s.object (s.path ++ z.position ∷ []) u m h.growing.stead (λ q x y. y) (h.inner z l u e);
    }

    ready_no_more : (paths : List (List ℕ)) (tr : List Event) → Ready k (These paths) s.object s.path t b.owner tr → Ready k (These (paths ++ [])) s.object s.path t b.owner tr
    unfolding is_chosen
    ready_no_more paths tr r = record {
      lives = λ q p c. elim (any_both q paths [] c) [ inl i ↦ r.lives q p i | inr i ↦ absurd (any_none q i) ];
      unclosed = λ q p c. elim (any_both q paths [] c) [ inl i ↦ r.unclosed q p i | inr i ↦ absurd (any_none q i) ];
    }

    after_own : (paths : List (List ℕ)) (r : Tried Done) → Does k (Under s.object s.path) (Some b.owner) (Inner paths) Comes (begin_next paths begun_with [] r)
    unfolding begin_next begun_with
    after_own paths (Fine a) = gives_done _ (λ tr w i h. (h.growing, ready_no_more paths tr h.complete, λ n. (h.clear, h.inner)))
    after_own paths (Raised e) = gives_done _ (λ tr w i h. (h.growing, h.complete, λ n. absurd (some_no e n)))

    own_does : (paths : List (List ℕ)) → Does k (Under s.object s.path) (Some b.owner) (Inner paths) Comes (own_initialize j s t paths)
    unfolding own_initialize begun_with part_of
    own_does paths =
        choice _ (λ e. seq (attempts (C.call_does k ask call default calls s (operation (λ x. x.initialize) k t) (Initialize (part s.object s.path)) (inner_still paths) (λ tr w r z. r)
        (λ z Req' needs. as_well (widened {E = none} (λ p x. absurd x) (framed (Inner paths) (inner_still paths) (shows_plain (Initialize (part s.object s.path)) tt))) (λ tr w i r. (tt, needs tr w r)) (λ r tr w i h. h.1))))
        (λ r. as_well (after_own paths r) (λ tr w i h. C.tried_does k ask call default calls _ (Goes r) tr w h) (λ r tr w i h. h)) (λ y tr w i h. tt))
        (λ e. gives_done _ (λ tr w i h. (h.growing, h.complete, λ n. (h.clear, h.inner))))

    unless_does : (x : Begun) → Does k (Under s.object s.path) (Some b.owner) (λ tr w. Comes (Goes x) tr w) Comes (unless_failed (own_initialize j s t) x)
    unfolding unless_failed
    unless_does x = some_or x.failure (λ e. as_well (own_does x.paths) (λ tr w i h. let all = h.2 e in record { growing = h.0; complete = h.1; clear = all.0; inner = all.1 }) (λ r tr w i h. h)) (λ n e. gives_done x (λ tr w i h. h))

    -- A part comes to life, or what is complete of it is closed -----------------------------------------------

    part_begins : (path : List ℕ) (c : Placed) (u : ℕ) (q : List ℕ) → Lists c (placed k t) → c.ty ≡ Record u → PartIn k path u q → Lists c (parts_to_begin j t)
    unfolding parts_to_begin
    part_begins path c u q l e h = listed_kept _ (placed k t) c l (is_begun k order c (has_parts k order path u q c.ty e h))

    abbrev Brought : List Event → World → Type 0
    Brought tr w = Growing s.object b.owner tr w × (Untouched s.object tr × ((z : Placed) → Lists z (parts_to_begin j t) → ReadyAt s.object s.path z tr))

    to_ready : (tr : List Event) (w : World) → (Closes k t → first_owner tr (part s.object s.path) ≡ Some b.owner) → Brought tr w → Ready k Every s.object s.path t b.owner tr
    to_ready tr w own h = record {
      lives = λ q p c. alive q p c;
      unclosed = λ q p c. h.1.0 q;
    }
      where
        alive : (q : List ℕ) → PartIn k s.path t q → is_chosen q Every ≡ true → first_owner tr (part s.object q) ≡ Some b.owner
        alive q (itself c e) i = subst (λ z. first_owner tr (part s.object z) ≡ Some b.owner) (sym e) (own c)
        alive q (inside c u l e p) i = (h.1.1 c (part_begins _ c u q l e p) u e).lives q p i

    unwritten : (x : Bool) → x ≡ true → x ≡ false → ⊥
    unwritten x e f = absurd (cc)

    -- a Live closes nothing
    ready_told : (path : List ℕ) (u : ℕ) (tr : List Event) → Ready k Every s.object path u b.owner tr → Ready k Every s.object path u b.owner (tr ++ Live (part s.object s.path) b.owner ∷ [])
    ready_told path u tr r = record { lives = λ q p c. owner_kept tr _ (part s.object q) b.owner (r.lives q p c); unclosed = λ q p c. nothing_closed (part s.object s.path) (part s.object q) b.owner tr ∙ r.unclosed q p c }

    brought_live : Does k (Under s.object s.path) (Some b.owner) Brought (λ r tr w. Brought tr w × (first_owner tr (part s.object s.path) ≡ Some b.owner)) (Outcome.show (Live (part s.object s.path) b.owner))
    brought_live = as_well (framed (Growing s.object b.owner) (growing_on s.object b.owner (λ p e. e.0)) told) (λ tr w i r. (r, r.0)) (λ r tr w i h. ((h.1, h.0.0), h.0.1))
      where
        told : Does k (Under s.object s.path) (Some b.owner) Brought (λ r tr w. (Untouched s.object tr × ((z : Placed) → Lists z (parts_to_begin j t) → ReadyAt s.object s.path z tr)) × (first_owner tr (part s.object s.path) ≡ Some b.owner)) (Outcome.show (Live (part s.object s.path) b.owner))
        told = shows (Live (part s.object s.path) b.owner) (λ tr w i r. (
          no_flaw (part s.object s.path) b.owner tr,
          born s.object s.path s.path b.owner tr w (leads_itself s.path s.path refl) r.0,
          ((λ q. nothing_closed (part s.object s.path) (part s.object q) b.owner tr ∙ r.1.0 q, λ z l u e. ready_told (s.path ++ z.position ∷ []) u tr (r.1.1 z l u e)), owner_lives tr (part s.object s.path) b.owner (r.0.mine s.path)),
        ))

    lives_does : Does k (Under s.object s.path) (Some b.owner) Brought (IfGoes (Made s.object s.path t)) (lives j b s t)
    unfolding lives part_of
    lives_does =
        choice _ (λ e. as_well brought_live (λ tr w i r. r) (λ r tr w i h. went r tr w h)) (λ e. gives_nothing (λ tr w i r. (r.0, to_ready tr w (λ c. absurd (unwritten _ c.written e)) r, r.1.0)))
      where
        went : (r : Result Done) (tr : List Event) (w : World) → Brought tr w × (first_owner tr (part s.object s.path) ≡ Some b.owner) → IfGoes (Made s.object s.path t) r tr w
        went (Goes a) tr w h = (h.0.0, to_ready tr w (λ c. h.1) h.0, h.0.1.0)
        went (Leaves y) tr w h = tt

    fails : (n : ℕ) (c : Bool) → Does k (Under s.object s.path) (Some b.owner) Always (IfGoes (Made s.object s.path t)) (failed_with n c)
    unfolding failed_with
    fails n true = raises _ (λ tr w i r. tt)
    fails n false = raises _ (λ tr w i r. tt)

    begun_does : (x : Begun) → Does k (Under s.object s.path) (Some b.owner) (λ tr w. Comes (Goes x) tr w) (IfGoes (Made s.object s.path t)) (begun j b s t x)
    unfolding begun clean_up Outcome.when
    begun_does x =
        some_or x.failure
        (λ e. choice _ (λ f. as_well lives_does (λ tr w i h. (h.0, h.2 e)) (λ r tr w i h. h)) (λ f. gives_nothing (λ tr w i h. (h.0, to_ready tr w (λ c. absurd (unwritten _ c.controlled f)) (h.0, h.2 e), (h.2 e).0))))
        (λ n e. seq {P = Ever} (as_well (A.fails_does k order ask call default calls b s t x.paths) (λ tr w i h. (h.0.stead, h.1)) (λ r tr w i h. tt)) (λ c. fails n c) (λ y tr w i h. tt))

  begun_listed : (t : ℕ) (x : Placed) → Lists x (parts_to_begin j t) → Lists x (placed k t)
  unfolding parts_to_begin
  begun_listed t x l = kept_listed _ (placed k t) x l

  begun_apart : (t : ℕ) → Apart (parts_to_begin j t)
  unfolding parts_to_begin
  begun_apart t = kept_apart _ (placed k t) (placed_apart k t)

  pub deep : (t : ℕ) (path : List ℕ) → Enough k (depth k) path t
  unfolding depth
  deep t path q h = let lt = part_known k order path t q h in omega arith

  -- cells are written, which concerns no part
  pub write_does : {E : Part → Type 0} {own : Option Owner} (n offset : ℕ) (v : List ℕ) → Does k E own Always Ever (write_part n offset v)
  unfolding write_part
  write_does n offset v = exists n (λ o e. changes (edit_writes n offset v) (λ tr w i r. tt))

  abbrev Empty : ℕ → List Event → World → Type 0
  Empty n tr w = Growing n b.owner tr w × Untouched n tr

  empty_still : (n : ℕ) → Stable k none (Some b.owner) (Empty n)
  empty_still n tr w tr' w' i i' m h = (growing_on n b.owner (λ p x. absurd x) tr w tr' w' i i' m h.0, λ q. m.closes (part n q) h.0.stead.number h.0.stead.out (λ x. x) ∙ h.1 q)

  -- what is done of others leaves it empty
  quietly : {A : Type 0} (n : ℕ) (path : List ℕ) {m : Act A} → Does k none (Some b.owner) Always Ever m → Does k (Under n path) (Some b.owner) (Empty n) (λ r tr w. Empty n tr w) m
  quietly n path h = as_well (widened {E = none} (λ p x. absurd x) (framed (Empty n) (empty_still n) h)) (λ tr w i r. (tt, r)) (λ r tr w i h. h.1)

  -- a component takes its default and is adjusted
  defaulted_does : (s : Spot) (t u : ℕ) (x : Placed) → x.ty ≡ Record u → Does k (Under s.object (s.path ++ x.position ∷ [])) (Some b.owner) (Empty s.object) (IfGoes (Made s.object (s.path ++ x.position ∷ []) u)) (default t x.position b.home >>= write_part s.object (s.offset + x.offset) >> adjust j (Some b) (component_at s x) x.ty)
  unfolding adjust component_at
  defaulted_does s t u x e =
      then_do (seq (quietly s.object (s.path ++ x.position ∷ []) (good_in none (Some b.owner) (values t x.position b.home))) (λ v. quietly s.object (s.path ++ x.position ∷ []) (write_does s.object (s.offset + x.offset) v)) (λ y tr w i h. h))
      (λ a. record_or x.ty (λ never. absurd (never u e)) (λ v f. let same = one_type u v (sym e ∙ f) in
      as_well (A.record_does k order ask call default calls b (record { object = s.object; offset = s.offset + x.offset; path = s.path ++ x.position ∷ [] }) v (deep v (s.path ++ x.position ∷ [])))
      (λ tr w i h. h) (λ r tr w i h. subst (λ z. IfGoes (Made s.object (s.path ++ x.position ∷ []) z) r tr w) (sym same) h))) (λ y tr w i h. tt)

  abbrev Wide : Spot → Placed → Part → Type 0
  Wide s x p = (u : ℕ) × (x.ty ≡ Record u) × Under s.object (s.path ++ x.position ∷ []) p

  -- what is done for one component, whose type is a record if it has parts
  for_record : (s : Spot) (x : Placed) (m : Act Done) → (((u : ℕ) → x.ty ≡ Record u → ⊥) → Does k none (Some b.owner) Always Ever m) → ((u : ℕ) → x.ty ≡ Record u → Does k (Under s.object (s.path ++ x.position ∷ [])) (Some b.owner) (Empty s.object) (IfGoes (Made s.object (s.path ++ x.position ∷ []) u)) m) → Does k (Wide s x) (Some b.owner) (λ tr w. Growing s.object b.owner tr w × Untouched s.object tr) (IfGoes (λ tr w. ReadyAt s.object s.path x tr × Untouched s.object tr)) m
  for_record s x m plain parts = elim (record_or_not x.ty) [ inl e ↦ with_parts e.0 e.1 | inr never ↦ without never ]
    where
      made : (u : ℕ) → x.ty ≡ Record u → (r : Result Done) (tr : List Event) (w : World) → IfGoes (Made s.object (s.path ++ x.position ∷ []) u) r tr w → IfGoes (λ tr w. ReadyAt s.object s.path x tr × Untouched s.object tr) r tr w
      made u e (Goes a) tr w h = ((λ v f. subst (λ z. Ready k Every s.object (s.path ++ x.position ∷ []) z b.owner tr) (one_type u v (sym e ∙ f)) h.1), h.2)
      made u e (Leaves y) tr w h = tt

      none_made : ((u : ℕ) → x.ty ≡ Record u → ⊥) → (r : Result Done) (tr : List Event) (w : World) → Untouched s.object tr → IfGoes (λ tr w. ReadyAt s.object s.path x tr × Untouched s.object tr) r tr w
      none_made never (Goes a) tr w h = ((λ u e. absurd (never u e)), h)
      none_made never (Leaves y) tr w h = tt

      with_parts : (u : ℕ) → x.ty ≡ Record u → Does k (Wide s x) (Some b.owner) (λ tr w. Growing s.object b.owner tr w × Untouched s.object tr) (IfGoes (λ tr w. ReadyAt s.object s.path x tr × Untouched s.object tr)) m
      with_parts u e = as_well (widened (λ p h. (u, e, h)) (parts u e)) (λ tr w i h. h) (λ r tr w i h. made u e r tr w h)

      without : ((u : ℕ) → x.ty ≡ Record u → ⊥) → Does k (Wide s x) (Some b.owner) (λ tr w. Growing s.object b.owner tr w × Untouched s.object tr) (IfGoes (λ tr w. ReadyAt s.object s.path x tr × Untouched s.object tr)) m
      without never = as_well (widened (λ p h. absurd h) (framed (Empty s.object) (empty_still s.object) (plain never))) (λ tr w i h. (tt, h)) (λ r tr w i h. none_made never r tr w h.1.1)

  -- a component with a default that is no record is written
  plain_default : (s : Spot) (t : ℕ) (x : Placed) → ((u : ℕ) → x.ty ≡ Record u → ⊥) → Does k none (Some b.owner) Always Ever (default t x.position b.home >>= write_part s.object (s.offset + x.offset) >> adjust j (Some b) (component_at s x) x.ty)
  unfolding adjust
  plain_default s t x never = then_do (seq (good_in none (Some b.owner) (values t x.position b.home)) (λ v. write_does s.object (s.offset + x.offset) v) (λ y tr w i h. tt)) (λ a. record_or x.ty (λ _. gives_nothing (λ tr w i r. tt)) (λ u e. absurd (never u e))) (λ y tr w i h. tt)

  none_reached : (path : List ℕ) (t : ℕ) (q : List ℕ) → Enough k zero path t → PartIn k path t q → ⊥
  none_reached path t q enough h = let lt = enough q h in omega arith

  -- no component is complete yet
  at_first : (s : Spot) (t : ℕ) (tr : List Event) (w : World) → Empty s.object tr w → Coming s t (parts_to_begin j t) [] tr w
  unfolding is_chosen
  at_first s t tr w h = record {
    growing = h.0;
    complete = record { lives = λ q p c. absurd (any_none q c); unclosed = λ q p c. absurd (any_none q c) };
    clear = h.1;
    fate = λ z l. inl l;
  }

  -- one component, by its default or by default itself
  component_does : (f : Spot → ℕ → Act Done) (s : Spot) (t : ℕ) (x : Placed) → ((u : ℕ) → x.ty ≡ Record u → Does k (Under s.object (s.path ++ x.position ∷ [])) (Some b.owner) (Empty s.object) (IfGoes (Made s.object (s.path ++ x.position ∷ []) u)) (f (component_at s x) u)) → Does k (Wide s x) (Some b.owner) (λ tr w. Growing s.object b.owner tr w × Untouched s.object tr) (IfGoes (λ tr w. ReadyAt s.object s.path x tr × Untouched s.object tr)) (begin_component j b f s t x)
  unfolding begin_component
  component_does f s t x does =
      choice x.defaulted (λ d. for_record s x _ (plain_default s t x) (λ u e. defaulted_does s t u x e))
      (λ d. for_record s x _ (λ never. record_or x.ty (λ _. gives_nothing (λ tr w i r. tt)) (λ u e. absurd (never u e))) (λ u e. record_or x.ty (λ never. absurd (never u e)) (λ v f. as_well (does v f) (λ tr w i h. h) (λ r tr w i h. subst (λ z. IfGoes (Made s.object (s.path ++ x.position ∷ []) z) r tr w) (one_type v u (sym f ∙ e)) h))))

  -- a part is created by default
  pub part_does : (fuel : ℕ) (s : Spot) (t : ℕ) → Enough k fuel s.path t → Does k (Under s.object s.path) (Some b.owner) (Empty s.object) (IfGoes (Made s.object s.path t)) (initialize_part j b fuel s t)
  unfolding initialize_part component_at
  part_does zero s t enough = gives_nothing (λ tr w i r. (r.0, record { lives = λ q h c. absurd (none_reached s.path t q enough h); unclosed = λ q h c. r.1 q }, r.1))
  part_does (suc fuel) s t enough =
      seq (seq (as_well (each_does s t _ (length (parts_to_begin j t)) (parts_to_begin j t) [] refl (begun_apart t) (begun_listed t) (λ q y u e l f leads. any_none q e)
      (λ x listed. component_does (initialize_part j b fuel) s t x (λ u e. part_does fuel (component_at s x) u (enough_less k order fuel t u s.path x (listed u e) e enough))))
      (λ tr w i r. at_first s t tr w r) (λ r tr w i h. h))
      (λ x. unless_does s t x) (λ y tr w i h. tt)) (λ x. begun_does s t x) (λ y tr w i h. tt)
