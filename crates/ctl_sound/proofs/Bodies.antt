-- Parts, blocks and bodies are well typed, from what stands in them.
use Rattle.std.proofs.Common.{arith, ◌≡◌, ◌≤◌, ◌<◌, nat_lt, Bool, true, false, refl, sym, ap, ◌∙◌, subst, ℕ, ◌+◌, List, [], ◌∷◌, ◌++◌, length, take, slice_get, Option, Some, None}
use Rattle.std.proofs.lemmas.Bool.Decides.{nat_tests}
use Rattle.ctl_tree.specs.declared.span.Span.{Span}
use Rattle.ctl_program.specs.declared.types.Ty.{Ty}
use Rattle.ctl_program.specs.declared.statement.Handler.{Handler as Checked_handler}
use Rattle.ctl_program.specs.declared.statement.Item.{Item as Checked_item}
use Rattle.ctl_program.specs.declared.statement.Master.{Master, roll-Master}
use Rattle.ctl_program.specs.declared.statement.Stmt.{Stmt}
use Rattle.ctl_program.specs.declared.statement.Stmt.TheVariants as stmt
use Rattle.ctl_syntax.specs.declared.denoted.Use.{Use}
use Rattle.ctl_syntax.specs.declared.denoted.Definition.{Definition}
use Rattle.ctl_syntax.specs.declared.item.Body.{Body-F}
use Rattle.ctl_typing.specs.Judgement.{with_known, both}
use Rattle.ctl_draft.specs.declared.draft.Around.{Around}
use Rattle.ctl_draft.specs.declared.draft.Draft.{Draft}
use Rattle.ctl_draft.specs.declared.draft.Order.{Order}
use Rattle.ctl_draft.specs.Draft.{leave_view}
use Rattle.ctl_draft.specs.Freezing.{freeze_all, end_of_part}
use Rattle.ctl_types.specs.Elaboration as spec
use Rattle.ctl_types.specs.Elaboration.{Says, Does, Part_of}
use Rattle.ctl_well_typed.specs.Setting.{Frame, Frames, Encloses, InView}
use Rattle.ctl_well_typed.specs.Statements as rule
use Rattle.ctl_well_typed.specs.Statements.{Done, Mastered}
use Rattle.ctl_sound.specs.Known.{IfSome, All}
use Rattle.ctl_sound.specs.Sound.{EntryFine}
use Rattle.ctl_sound.proofs.Growing.{Behind, behind_cut, behind_self, from_start, Still, still_noted, still_further, Made, Grows, grows_before}
use Rattle.ctl_sound.proofs.Freezing.{Quiet, freeze_all_quiet, end_still}
use Rattle.ctl_sound.proofs.Sites.{Site, around_site, here, gives_of, IsHere, Front, Agrees}
use Rattle.ctl_sound.proofs.Fronts.{encloses_front, encloses_further, in_view_deeper, entries_deeper, front_still, back_still}
use Rattle.ctl_sound.proofs.Declared.{one_longer, known_same}
use Rattle.ctl_sound.proofs.Steps.{Leads, Goes, Both, both_goes, Further, nothing_further, once_further}
use Rattle.ctl_sound.proofs.Compounds.{around_of, Right, RightEach, RightHandlers, SaysRight, HandlerRight, sequence_walk, handlers_walk}
use Rattle.ctl_sound.proofs.Objects.{RightItems, elaborated_joined}

-- Parts (3.11) ---------------------------------------------------------------------------------------------

abbrev pub ItemRight : Part_of → Type 0
ItemRight i = (o : Order) (a : Around) (d : Draft) → Leads (here a) (RightItems a) d (i.declares o a d)

module _ (a : Around) where
  items_turn : (so_far : Option (List Checked_item)) (r : Option (List Checked_item) × Draft) (is' : List Part_of) → spec.items_on a so_far r is' ≡ spec.items a (spec.more_items so_far r.0) is' r.1
  items_turn so_far (i, d) [] = refl
  items_turn so_far (i, d) (p ∷ ps) = refl

  more_right : (s : Site) (x y : Option (List Checked_item)) → IfSome (RightItems a s) x → IfSome (RightItems a s) y → IfSome (RightItems a s) (spec.more_items x y)
  more_right s None y h i = tt
  more_right s (Some xs) None h i = tt
  more_right s (Some xs) (Some ys) h i = elaborated_joined s.k (around_site s) xs ys h i

  items_further : (is' : List Part_of) (so_far : Option (List Checked_item)) (d : Draft) → All ItemRight is' → Further (here a) (RightItems a) d so_far (spec.items a so_far is' d)
  items_further [] so_far d g = nothing_further (here a) (RightItems a) so_far d
  items_further (i ∷ is') so_far d g =
      let r = i.declares (spec.order_before is') a d in
      subst (Further (here a) (RightItems a) d so_far) (sym (items_turn so_far r is'))
      (once_further (here a) (RightItems a) (RightItems a) d so_far (spec.more_items so_far r.0) r (spec.items a (spec.more_items so_far r.0) is' r.1) (λ s. more_right s so_far r.0) (g.0 (spec.order_before is') a d) (items_further is' (spec.more_items so_far r.0) r.1 g.1))

  ended_still : (waiting : ℕ) (d : Draft) → Still d (spec.part_ended a waiting d)
  ended_still waiting d = let e = end_of_part a waiting d in still_further d e (spec.part_ended a waiting d) (end_still a waiting d) (still_noted e e.returning (take waiting e.waiting) e.notes)

  quiet_items : (s : Site) (o : Option (List Checked_item)) (ls : List Checked_item) → RightItems a s ls → IfSome (RightItems a s) o → IfSome (RightItems a s) (spec.more_items o (Some ls))
  quiet_items s None ls e h = tt
  quiet_items s (Some is') ls e h = elaborated_joined s.k (around_site s) is' ls h e

  behind_leads : (waiting : ℕ) (d : Draft) (o : Option (List Checked_item)) (e : Draft) (r : List Checked_item × Draft) → Further (here a) (RightItems a) d (Some []) (o, e) → Quiet a e r → Leads (here a) (RightItems a) d (spec.part_frozen a waiting o r)
  behind_leads waiting d o e (ls, g) h q =
      let last = spec.part_ended a waiting g in
      let ended : Still e last = still_further e g last q.still (ended_still waiting g) in
      record {
        made = h.made;
        grows = grows_before h.made d e last h.grows ended;
        right = λ s i f b k.
            let y = h.right s i f (back_still s.k e last ended b) k rule.no_more_items in
            (front_still s e last ended y.0, quiet_items s o ls (q.layers s i y.0) y.1);
      }

  pub part_goes : (is' : List Part_of) → All ItemRight is' → Goes (here a) (RightItems a) (spec.part is' a)
  part_goes is' g d = let r = spec.items a (Some []) is' d in behind_leads (length d.waiting) d r.0 r.1 (freeze_all a r.1) (items_further is' (Some []) d g) (freeze_all_quiet a r.1)

-- Bodies (5.6, 6.3) ------------------------------------------------------------------------------------------

-- a master, where its frame has this many slots
abbrev pub RightMaster : Around → ℕ → Site → Master → Type 0
RightMaster a n s m = length s.frame ≡ n → Mastered s.k s.outer s.frame (around_of a) m

abbrev pub DoesRight : Does → Type 0
DoesRight b = (place : Span) (a : Around) (d : Draft) → Leads (here a) (RightMaster a (length (b place a d).1.slots)) d (b place a d)

module _ (a : Around) where
  abbrev Parts : Site → (List Checked_item × List Stmt) × List Checked_handler → Type 0
  Parts s x = Both (here a) (Both (here a) (RightItems a) (RightEach a)) (RightHandlers a) s x

  known_master : (s : Site) (x : (List Checked_item × List Stmt) × List Checked_handler) (n : ℕ) → Parts s x → RightMaster a n s (roll-Master (record { slots = n; items = x.0.0; body = x.0.1; handlers = x.1 }))
  known_master s x n h e = subst (λ m. Mastered s.k s.outer s.frame (around_of a) (roll-Master (record { slots = m; items = x.0.0; body = x.0.1; handlers = x.1 }))) e (rule.master h.0.0 h.0.1 h.1)

  abbrev joined : Option ((List Checked_item × List Stmt) × List Checked_handler) × Draft → Option Master × Draft
  joined r = with_known (λ x. spec.master_of x.0.0 x.0.1 x.1) r

  body_leads : (d : Draft) (r : Option ((List Checked_item × List Stmt) × List Checked_handler) × Draft) → Leads (here a) Parts d r → Leads (here a) (RightMaster a (length (joined r).1.slots)) d (joined r)
  body_leads d (None, e) h = record { made = h.made; grows = h.grows; right = λ s i f b g. ((h.right s i f b g).0, tt) }
  body_leads d (Some x, e) h = record { made = h.made; grows = h.grows; right = λ s i f b g. let y = h.right s i f b g in (y.0, known_master s x (length e.slots) y.1) }

pub body_right : (b : Body-F Definition Use Says Does Part_of) → ((a : Around) → All (SaysRight a) b.statements) → ((a : Around) (place : Span) → All (HandlerRight a place) b.handlers) → All ItemRight b.items → DoesRight (spec.body_step b)
body_right b ss hs is' place a d =
    let p = spec.part b.items a in
    let q = spec.sequence b.statements a in
    let h = spec.handlers place a b.handlers in
    body_leads a d (both (both p q) h d)
    (both_goes (here a) (Both (here a) (RightItems a) (RightEach a)) (RightHandlers a) (both p q) h (both_goes (here a) (RightItems a) (RightEach a) p q (part_goes a b.items is') (sequence_walk a b.statements (ss a))) (handlers_walk a place b.handlers (hs a place)) d)

-- Inside masters (5.6, 7.6.1) ---------------------------------------------------------------------------------

-- the site of a master with this frame inside a site, in front of which this draft stands
abbrev pub inner : Site → Frame → Draft → Site
inner s f d = record { k = s.k; has = s.has; outer = around_site s; frame = f; base = d.tables.entries; first = length d.tables.states.accesses }

pub deeper_level : (s : Site) (f : Frame) (d : Draft) (level : ℕ) → level ≡ length (around_site s) → level + 1 ≡ length (around_site (inner s f d))
deeper_level s f d level e = let one = one_longer (around_site s) f in omega (arith, e, one)

pub front_inner : (s : Site) (f : Frame) (d e : Draft) → e.tables ≡ d.tables → e.components ≡ d.components → e.subprograms ≡ d.subprograms → e.own ≡ d.own → Front s d → Front (inner s f d) e
front_inner s f d e ts cs ps os g = record {
  entries = λ n. subst (λ t. IfSome (EntryFine s.k (around_site (inner s f d))) (slice_get t.entries n)) (sym ts) (entries_deeper s.k (around_site s) f (slice_get d.tables.entries n) (g.entries n));
  base = subst (λ t. Behind d.tables.entries t.entries) (sym ts) (behind_self d.tables.entries);
  known = known_same s.k d e (ap (λ t. t.records) ts) (ap (λ t. t.states) ts) cs ps g.known;
  own = os ∙ g.own;
  inner = λ n home first less at. absurd (let same = ap (λ t. length t.states.accesses) ts in omega (arith, same, first, less));
}

-- what was declared inside goes out of view again
pub front_outside : (s : Site) (f : Frame) (d e : Draft) (ts : List Ty) → Front s d → Front (inner s f d) e → Front s (record (leave_view (length d.tables.entries) e) { slots = ts })
front_outside s f d e ts g h = record {
  entries = λ n. subst (λ es. IfSome (EntryFine s.k (around_site s)) (slice_get es n)) (sym same) (g.entries n);
  base = subst (λ es. Behind s.base es) (sym same) g.base;
  known = known_same s.k e (record (leave_view (length d.tables.entries) e) { slots = ts }) refl refl refl refl h.known;
  own = h.own;
  inner = λ n home first less at. by_place n home first less at (nat_lt n (length d.tables.states.accesses)) refl;
}
  where
    by_place : (n : ℕ) (home : Frames) → s.first ≤ n → n < length e.tables.states.accesses → slice_get s.k.access_homes n ≡ Some home → (b : Bool) → nat_lt n (length d.tables.states.accesses) ≡ b → Encloses (around_site s) home
    by_place n home first less at true t = g.inner n home first (grind (arith, nat_tests)) at
    by_place n home first less at false t = encloses_further (around_site s) (around_site (inner s f d)) home (encloses_front (around_site s) f) (h.inner n home (grind (arith, nat_tests)) less at)

    same : take (length d.tables.entries) e.tables.entries ≡ d.tables.entries
    same = behind_cut d.tables.entries e.tables.entries h.base

-- Blocks (5.6) --------------------------------------------------------------------------------------------------

abbrev pub inside_made : Made → Made
inside_made m = record { holdings = []; homes = λ env. m.homes (env ++ m.holdings ∷ []) }

module _ (a : Around) where
  here_inner : (s : Site) (f : Frame) (d : Draft) → IsHere s (here a) → IsHere (inner s f d) (here (spec.inside_block a d))
  here_inner s f d i = record { level = deeper_level s f d a.level i.level; start = refl; first = refl; giving = by_giving (gives_of a.giving) i.giving }
    where
      by_giving : (o : Option Ty) → IfSome (InView s.k (around_site s)) o → IfSome (InView s.k (around_site (inner s f d))) o
      by_giving None h = tt
      by_giving (Some t) h = in_view_deeper s.k (around_site s) f t h

  block_grows : (m : Made) (d e : Draft) → Grows m (spec.without_slots d) e → Grows (inside_made m) d (record (leave_view (length d.tables.entries) e) { slots = d.slots })
  block_grows m d e g = record {
    records = g.records;
    components = g.components;
    exceptions = g.exceptions;
    accesses = g.accesses;
    slots = omega arith;
    record_homes = λ env. g.record_homes (env ++ m.holdings ∷ []);
    access_homes = λ env. g.access_homes (env ++ m.holdings ∷ []);
    signatures = λ env. g.signatures (env ++ m.holdings ∷ []);
  }

  agrees_inner : (s : Site) (m : Made) (d : Draft) → Agrees s d (inside_made m) → Agrees (inner s m.holdings d) (spec.without_slots d) m
  agrees_inner s m d g = record { holdings = from_start m.holdings; records = g.records; accesses = g.accesses; subprograms = g.subprograms }

  frame_counts : (m : Made) (d e : Draft) → Grows m (spec.without_slots d) e → length m.holdings ≡ length e.slots
  frame_counts m d e g = let more = g.slots in omega (arith, more)

  pub block_leads : (d : Draft) (o : Option Master) (e : Draft) → Leads (here (spec.inside_block a d)) (RightMaster (spec.inside_block a d) (length e.slots)) (spec.without_slots d) (o, e) → Leads (here a) (Right a) d (with_known (λ m. (λ (g : Draft). (Some (stmt.Block m), g))) (spec.left d (o, e)))
  block_leads d None e h = record {
    made = inside_made h.made;
    grows = block_grows h.made d e h.grows;
    right = λ s i f b g.
        let y = h.right (inner s h.made.holdings d) (here_inner s h.made.holdings d i) (front_inner s h.made.holdings d (spec.without_slots d) refl refl refl refl f) (record { exceptions = b.exceptions; records = b.records; accesses = b.accesses }) (agrees_inner s h.made d g) in
        (front_outside s h.made.holdings d e d.slots f y.0, tt);
  }
  block_leads d (Some m) e h = record {
    made = inside_made h.made;
    grows = block_grows h.made d e h.grows;
    right = λ s i f b g.
        let y = h.right (inner s h.made.holdings d) (here_inner s h.made.holdings d i) (front_inner s h.made.holdings d (spec.without_slots d) refl refl refl refl f) (record { exceptions = b.exceptions; records = b.records; accesses = b.accesses }) (agrees_inner s h.made d g) in
        (front_outside s h.made.holdings d e d.slots f y.0, rule.block (y.1 (frame_counts h.made d e h.grows)));
  }

  pub block_right : (place : Span) (b : Does) → DoesRight b → SaysRight a (spec.block place b)
  block_right place b h d = let r = b place (spec.inside_block a d) (spec.without_slots d) in block_leads d r.0 r.1 (h place (spec.inside_block a d) (spec.without_slots d))
