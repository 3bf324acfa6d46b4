-- What holds of doings that are put together: each grows the draft by what it makes; what holds in front of it holds behind it, and what it
-- gives is right, at each site that has what is made.
use Rattle.std.proofs.Common.{◌≡◌, refl, sym, subst, List, [], ◌∷◌, ◌++◌, Option, Some, None}
use Rattle.ctl_typing.specs.declared.notes.Notes.{Notes}
use Rattle.ctl_typing.specs.declared.table.Tables.{Tables}
use Rattle.ctl_typing.specs.Judgement.{Judgement, known, with_known, paired, beside, both, appended, each, each_on}
use Rattle.ctl_draft.specs.declared.draft.Draft.{Draft}
use Rattle.ctl_draft.specs.Draft.{Doing, by_tables, noted}
use Rattle.ctl_sound.specs.Known.{IfSome, All, Gives}
use Rattle.ctl_sound.specs.Sound.{Sound}
use Rattle.ctl_sound.proofs.Growing.{Still, still_noted, still_grows, Made, nothing, and_then, Grows, grows_self, grows_further, grows_behind}
use Rattle.ctl_sound.proofs.Sites.{Site, around_site, Here, IsHere, Front, Back, Agrees}
use Rattle.ctl_sound.proofs.Fronts.{front_still, front_sound, backwards, agrees_first, agrees_rest, agrees_still}

module _ (h : Here) where
  -- from this draft to that, with what is known
  pub record Leads {A : Type 0} (Q : Site → A → Type 0) (d : Draft) (r : Option A × Draft) : Type 0 where
    pub made : Made
    pub grows : Grows made d r.1
    pub right : (s : Site) → IsHere s h → Front s d → Back s.k r.1 → Agrees s d made → Front s r.1 × IfSome (Q s) r.0

  abbrev pub Goes : {A : Type 0} → (Site → A → Type 0) → Doing A → Type 0
  Goes Q j = (d : Draft) → Leads Q d (j d)

  -- nothing is declared, and it is known what holds of what is given
  pub still_given : {A : Type 0} (Q : Site → A → Type 0) (d : Draft) (r : Option A × Draft) → Still d r.1 → ((s : Site) → IsHere s h → Front s d → IfSome (Q s) r.0) → Leads Q d r
  still_given Q d r q g = record { made = nothing; grows = still_grows d r.1 q; right = λ s t f b a. (front_still s d r.1 q f, g s t f) }

  pub known_goes : {A : Type 0} (Q : Site → A → Type 0) (a : A) → ((s : Site) → Q s a) → Goes Q (known a)
  known_goes Q a g d = record { made = nothing; grows = grows_self d; right = λ s t f b i. (f, g s) }

  pub noted_leads : {A : Type 0} (Q : Site → A → Type 0) (d : Draft) (r : Option A × Notes) → ((s : Site) → IsHere s h → Front s d → IfSome (Q s) r.0) → Leads Q d (noted d r)
  noted_leads Q d (a, n) g = still_given Q d (a, record d { notes = n }) (still_noted d d.returning d.waiting n) g

  pub tables_lead : {A : Type 0} (Q : Site → A → Type 0) (p : Tables → Judgement A) (d : Draft) → ((s : Site) → IsHere s h → Sound s.k (around_site s) d.tables → Gives (Q s) (p d.tables)) → Leads Q d (by_tables p d)
  tables_lead Q p d g = noted_leads Q d (p d.tables d.notes) (λ s t f. g s t (front_sound s d f) d.notes)

  -- what follows where nothing is declared
  pub still_leads : {A : Type 0} (Q : Site → A → Type 0) (d e : Draft) (r : Option A × Draft) → Still d e → Leads Q e r → Leads Q d r
  still_leads Q d e r q g = record {
    made = g.made;
    grows = grows_behind g.made d e r.1 q g.grows;
    right = λ s t f b a. g.right s t (front_still s d e q f) b (agrees_still s d e g.made q a);
  }

  pub then_leads : {A B : Type 0} (Q : Site → A → Type 0) (R : Site → B → Type 0) (g : A → B) (d : Draft) (r : Option A × Draft) → ((s : Site) → IsHere s h → (a : A) → Q s a → R s (g a)) → Leads Q d r → Leads R d (with_known (λ a. known (g a)) r)
  then_leads Q R g d (None, e) k i = record { made = i.made; grows = i.grows; right = λ s t f b a. ((i.right s t f b a).0, tt) }
  then_leads Q R g d (Some x, e) k i = record { made = i.made; grows = i.grows; right = λ s t f b a. let y = i.right s t f b a in (y.0, k s t x y.1) }

  abbrev pub Both : {A B : Type 0} → (Site → A → Type 0) → (Site → B → Type 0) → Site → A × B → Type 0
  Both Q R s y = Q s y.0 × R s y.1

  paired_right : {A B : Type 0} (Q : A → Type 0) (R : B → Type 0) (a : Option A) (r : Option B × Draft) → IfSome Q a → IfSome R r.0 → IfSome (λ (y : A × B). Q y.0 × R y.1) (paired a r).0
  paired_right Q R None r i j = absent r
    where
      absent : (r : Option _ × Draft) → IfSome (λ y. Q y.0 × R y.1) (paired None r).0
      absent (b, g) = tt
  paired_right Q R (Some a) (None, g) i j = tt
  paired_right Q R (Some a) (Some b, g) i j = (i, j)

  paired_draft : {A B : Type 0} (a : Option A) (r : Option B × Draft) → (paired a r).1 ≡ r.1
  paired_draft None (b, g) = refl
  paired_draft (Some a) (None, g) = refl
  paired_draft (Some a) (Some b, g) = refl

  -- one behind the other
  record Follows {A B : Type 0} (Q : Site → A → Type 0) (R : Site → B → Type 0) (d : Draft) (a : Option A) (r : Option B × Draft) : Type 0 where
    made : Made
    grows : Grows made d r.1
    right : (s : Site) → IsHere s h → Front s d → Back s.k r.1 → Agrees s d made → Front s r.1 × (IfSome (Q s) a × IfSome (R s) r.0)

  follows : {A B : Type 0} (Q : Site → A → Type 0) (R : Site → B → Type 0) (d : Draft) (a : Option A × Draft) (r : Option B × Draft) → Leads Q d a → Leads R a.1 r → Follows Q R d a.0 r
  follows Q R d (a, e) r i j = record {
    made = and_then i.made j.made;
    grows = grows_further i.made j.made d e r.1 i.grows j.grows;
    right = λ s t f b g.
        let y = i.right s t f (backwards s.k j.made e r.1 j.grows b) (agrees_first s d i.made j.made g) in
        let z = j.right s t y.0 b (agrees_rest s d e i.made j.made i.grows g) in
        (z.0, (y.1, z.1));
  }

  pub paired_leads : {A B : Type 0} (Q : Site → A → Type 0) (R : Site → B → Type 0) (d : Draft) (a : Option A × Draft) (r : Option B × Draft) → Leads Q d a → Leads R a.1 r → Leads (Both Q R) d (paired a.0 r)
  paired_leads Q R d a r i j =
      let g = follows Q R d a r i j in
      let same = paired_draft a.0 r in
      record {
        made = g.made;
        grows = subst (λ e. Grows g.made d e) (sym same) g.grows;
        right = λ s t f b k.
            let y = g.right s t f (subst (λ e. Back s.k e) same b) k in
            (subst (λ e. Front s e) (sym same) y.0, paired_right (Q s) (R s) a.0 r y.1.0 y.1.1);
      }

  pub beside_leads : {A B : Type 0} (Q : Site → A → Type 0) (R : Site → B → Type 0) (d : Draft) (r : Option A × Draft) (q : Doing B) → Leads Q d r → Leads R r.1 (q r.1) → Leads (Both Q R) d (beside q r)
  beside_leads Q R d (a, e) q i j = paired_leads Q R d (a, e) (q e) i j

  pub both_goes : {A B : Type 0} (Q : Site → A → Type 0) (R : Site → B → Type 0) (p : Doing A) (q : Doing B) → Goes Q p → Goes R q → Goes (Both Q R) (both p q)
  both_goes Q R p q i j d = beside_leads Q R d (p d) q (i d) (j (p d).1)

  turn : {A B : Type 0} (f : A → Doing B) (so_far : Option (List B)) (r : Option B × Draft) (xs : List A) → each_on f so_far r xs ≡ each f (appended so_far r.0) xs r.1
  turn f so_far (b, e) [] = refl
  turn f so_far (b, e) (x ∷ xs) = refl

  one_more : {B : Type 0} (P : List B → Type 0) (R : B → Type 0) → ((bs : List B) (b : B) → P bs → R b → P (bs ++ b ∷ [])) → (so_far : Option (List B)) (b : Option B) → IfSome P so_far → IfSome R b → IfSome P (appended so_far b)
  one_more P R more None b i j = tt
  one_more P R more (Some bs) None i j = tt
  one_more P R more (Some bs) (Some b) i j = more bs b i j

  -- behind those so far, of which P holds
  pub record Further {B : Type 0} (P : Site → B → Type 0) (d : Draft) (so_far : Option B) (r : Option B × Draft) : Type 0 where
    pub made : Made
    pub grows : Grows made d r.1
    pub right : (s : Site) → IsHere s h → Front s d → Back s.k r.1 → Agrees s d made → IfSome (P s) so_far → Front s r.1 × IfSome (P s) r.0

  pub nothing_further : {B : Type 0} (P : Site → B → Type 0) (so_far : Option B) (d : Draft) → Further P d so_far (so_far, d)
  nothing_further P so_far d = record { made = nothing; grows = grows_self d; right = λ s t f b a g. (f, g) }

  -- one more, and then the rest
  pub once_further : {A B : Type 0} (P : Site → B → Type 0) (R : Site → A → Type 0) (d : Draft) (so_far next : Option B) (r : Option A × Draft) (z : Option B × Draft) → ((s : Site) → IfSome (P s) so_far → IfSome (R s) r.0 → IfSome (P s) next) → Leads R d r → Further P r.1 next z → Further P d so_far z
  once_further P R d so_far next r z more i j = record {
    made = and_then i.made j.made;
    grows = grows_further i.made j.made d r.1 z.1 i.grows j.grows;
    right = λ s t f b a g.
        let y = i.right s t f (backwards s.k j.made r.1 z.1 j.grows b) (agrees_first s d i.made j.made a) in
        j.right s t y.0 b (agrees_rest s d r.1 i.made j.made i.grows a) (more s g y.1);
  }

  further : {A B : Type 0} (P : Site → List B → Type 0) (R : Site → B → Type 0) (f : A → Doing B) → ((s : Site) (bs : List B) (b : B) → P s bs → R s b → P s (bs ++ b ∷ [])) → (so_far : Option (List B)) (xs : List A) → All (λ x. Goes R (f x)) xs → (d : Draft) → Further P d so_far (each f so_far xs d)
  further P R f more so_far [] g d = nothing_further P so_far d
  further P R f more so_far (x ∷ xs) g d =
      subst (Further P d so_far) (sym (turn f so_far (f x d) xs))
      (once_further P R d so_far (appended so_far (f x d).0) (f x d) (each f (appended so_far (f x d).0) xs (f x d).1) (λ s. one_more (P s) (R s) (more s) so_far (f x d).0) (g.0 d) (further P R f more (appended so_far (f x d).0) xs g.1 (f x d).1))

  pub each_goes : {A B : Type 0} (P : Site → List B → Type 0) (R : Site → B → Type 0) (f : A → Doing B) → ((s : Site) (bs : List B) (b : B) → P s bs → R s b → P s (bs ++ b ∷ [])) → ((s : Site) → P s []) → (xs : List A) → All (λ x. Goes R (f x)) xs → Goes P (λ d. each f (Some []) xs d)
  each_goes P R f more none xs g d = let i = further P R f more (Some []) xs g d in record { made = i.made; grows = i.grows; right = λ s t f b a. i.right s t f b a (none s) }
