-- A whole object is created: then each of its parts lives (3.3.1, 7.6).
use Rattle.std.specs.Prelude.{◌≡◌, ℕ, List, [], Option, Some}
use Rattle.std.proofs.Common.{refl, sym, ◌∙◌, subst}
use Rattle.ctl_program.specs.declared.types.Ty.{Ty}
use Rattle.ctl_program.specs.declared.types.Ty.TheVariants.{Record}
use Rattle.ctl_tree.specs.declared.event.Event.{Event}
use Rattle.ctl_tree.specs.declared.event.Owner.{Owner}
use Rattle.ctl_tree.specs.declared.event.Part.{Part}
use Rattle.ctl_meaning.specs.World.{Slot, World}
use Rattle.ctl_meaning.specs.Choice.{Ask}
use Rattle.ctl_meaning.specs.Types.{Tables, depth}
use Rattle.ctl_meaning.specs.Outcome.{Result, Goes, Leaves, Done}
use Rattle.ctl_meaning.specs.Names.{OfSubprogram, Call as Caller, Default, Tools}
use Rattle.ctl_meaning.specs.Finalization.{whole, is_chosen}
use Rattle.ctl_meaning.specs.Adjustment.{Birth, adjust}
use Rattle.ctl_meaning.specs.Initialization.{initialize, fill}
use Rattle.ctl_orderly.specs.Law.{InOrder}
use Rattle.ctl_orderly.proofs.Parts.{PartIn}
use Rattle.ctl_orderly.proofs.Depths.{one_type}
use Rattle.ctl_orderly.proofs.State.{part, Lives, Untouched, none}
use Rattle.ctl_orderly.proofs.Rules.{Does, IfGoes, Good, Stable, as_well, framed, then_do, gives_nothing, some_or, record_or, widened}
use Rattle.ctl_orderly.proofs.Closing.{Under, Stead, Ready}
use Rattle.ctl_orderly.proofs.Closing as C
use Rattle.ctl_orderly.proofs.Members.{Of}
use Rattle.ctl_orderly.proofs.Adjusting.{Growing, growing_on}
use Rattle.ctl_orderly.proofs.Adjusting as A
use Rattle.ctl_orderly.proofs.Initializing as I

module _ (k : Tables) (order : InOrder k.records) (ask : Ask) (call : Caller) (default : Default) (calls : (f : ℕ) (ss : List Slot) (env : List ℕ) → Good k (call (OfSubprogram f ss) env)) (values : (u position : ℕ) (env : List ℕ) → Good k (default u position env)) where
  abbrev j : Tools
  j = record { ask = ask; tables = k; call = call; default = default }

  -- an object under creation of which nothing was closed, and one whose parts all live
  abbrev pub New : ℕ → Ty → Owner → List Event → World → Type 0
  New n ty own tr w = Growing n own tr w × Untouched n tr

  abbrev pub Full : ℕ → Ty → Owner → List Event → World → Type 0
  Full n ty own tr w = Growing n own tr w × Lives k n ty own tr × Untouched n tr

  pub new_still : (n : ℕ) (ty : Ty) (own : Owner) → Stable k none (Some own) (New n ty own)
  new_still n ty own tr w tr' w' i i' m h = (growing_on n own (λ p x. absurd x) tr w tr' w' i i' m h.0, λ q. m.closes (part n q) h.0.stead.number h.0.stead.out (λ x. x) ∙ h.1 q)

  under_of : (n : ℕ) (p : Part) → Under n [] p → Of n p
  under_of n p h = h.0

  full_by : (n : ℕ) (ty : Ty) (b : Birth) (u : ℕ) → ty ≡ Record u → (r : Result Done) (tr : List Event) (w : World) → IfGoes (I.Made k order ask call default calls values b n [] u) r tr w → IfGoes (Full n ty b.owner) r tr w
  unfolding is_chosen
  full_by n ty b u e (Goes a) tr w h = (h.0, (λ v q f p. h.1.lives q (subst (λ z. PartIn k [] z q) (one_type v u (sym f ∙ e)) p) refl), h.2)
  full_by n ty b u e (Leaves y) tr w h = tt

  no_parts : (n : ℕ) (ty : Ty) (own : Owner) → ((u : ℕ) → ty ≡ Record u → ⊥) → (tr : List Event) (w : World) → New n ty own tr w → Full n ty own tr w
  no_parts n ty own never tr w h = (h.0, (λ u q e p. absurd (never u e)), h.1)

  by_default : (b : Birth) (n : ℕ) (ty : Ty) → Does k (Of n) (Some b.owner) (New n ty b.owner) (IfGoes (Full n ty b.owner)) (initialize j b (whole n) ty)
  unfolding initialize whole
  by_default b n ty =
      record_or ty (λ never. gives_nothing (λ tr w i r. no_parts n ty b.owner never tr w r))
      (λ u e. as_well (widened (under_of n) (I.part_does k order ask call default calls values b (depth k) (record { object = n; offset = 0; path = [] }) u (I.deep k order ask call default calls values b u []))) (λ tr w i h. h) (λ r tr w i h. full_by n ty b u e r tr w h))

  by_value : (b : Birth) (n : ℕ) (ty : Ty) → Does k (Of n) (Some b.owner) (New n ty b.owner) (IfGoes (Full n ty b.owner)) (adjust j (Some b) (whole n) ty)
  unfolding adjust whole
  by_value b n ty =
      record_or ty (λ never. gives_nothing (λ tr w i r. no_parts n ty b.owner never tr w r))
      (λ u e. as_well (widened (under_of n) (A.record_does k order ask call default calls b (record { object = n; offset = 0; path = [] }) u (I.deep k order ask call default calls values b u []))) (λ tr w i h. h) (λ r tr w i h. full_by n ty b u e r tr w h))

  full_if : (n : ℕ) (ty : Ty) (own : Owner) (r : Result Done) (tr : List Event) (w : World) → Full n ty own tr w → IfGoes (Full n ty own) r tr w
  full_if n ty own (Goes a) tr w h = h
  full_if n ty own (Leaves y) tr w h = tt

  -- by default, or by a value
  pub fill_does : (b : Birth) (n : ℕ) (ty : Ty) (value : Option (List ℕ)) → Does k (Of n) (Some b.owner) (New n ty b.owner) (IfGoes (Full n ty b.owner)) (fill j b n ty value)
  unfolding fill
  fill_does b n ty value =
      then_do {P = IfGoes (Full n ty b.owner)} (some_or value (λ e. by_default b n ty) (λ v e. then_do {P = λ r tr w. New n ty b.owner tr w} (as_well (widened {E = none} (λ p x. absurd x) (framed (New n ty b.owner) (new_still n ty b.owner) (I.write_does k order ask call default calls values b n 0 v))) (λ tr w i h. (tt, h)) (λ r tr w i h. h.1)) (λ a. by_value b n ty) (λ y tr w i h. tt)))
      (λ a. as_well (C.must_does k ask call default calls n) (λ tr w i h. h) (λ r tr w i h. full_if n ty b.owner r tr w h)) (λ y tr w i h. tt)
