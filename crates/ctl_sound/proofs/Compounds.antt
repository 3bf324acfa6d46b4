-- Statements that hold statements, and handlers, from what they hold; and the other statements.
use Rattle.std.proofs.Common.{◌∙◌, ◌≡◌, ◌<◌, refl, sym, ap, subst, ℕ, Bool, true, false, List, [], ◌∷◌, ◌++◌, map, length, Option, Some, None, option_map}
use Rattle.ctl_tree.specs.declared.span.Span.{Span}
use Rattle.ctl_tree.specs.declared.fault.FaultCode.{FaultCode}
use Rattle.ctl_tree.specs.declared.fault.FaultCode.TheVariants as fault
use Rattle.ctl_program.specs.declared.types.Ty.{Ty}
use Rattle.ctl_program.specs.declared.types.Ty.TheVariants as ty
use Rattle.ctl_program.specs.declared.expression.Expr.{Expr}
use Rattle.ctl_program.specs.declared.statement.Arm.{Arm, roll-Arm}
use Rattle.ctl_program.specs.declared.statement.Choices.TheVariants as chosen
use Rattle.ctl_program.specs.declared.statement.Choices.{Choices as Checked_choices}
use Rattle.ctl_program.specs.declared.statement.Handler.{Handler as Checked_handler, roll-Handler}
use Rattle.ctl_program.specs.declared.statement.Stmt.{Stmt}
use Rattle.ctl_program.specs.declared.statement.Stmt.TheVariants as stmt
use Rattle.ctl_syntax.specs.declared.denoted.Definition.{Definition}
use Rattle.ctl_syntax.specs.declared.denoted.Use.{Use}
use Rattle.ctl_syntax.specs.declared.expression.Expression.{Expression}
use Rattle.ctl_syntax.specs.declared.item.Aliasing.TheVariants as aliasing
use Rattle.ctl_syntax.specs.declared.item.Body.{Body}
use Rattle.ctl_syntax.specs.declared.item.Branch.{Branch}
use Rattle.ctl_syntax.specs.declared.item.Choices.{Choices}
use Rattle.ctl_syntax.specs.declared.item.Choices.TheVariants as choices
use Rattle.ctl_syntax.specs.declared.item.Direction.{Direction}
use Rattle.ctl_syntax.specs.declared.item.Handler.{Handler}
use Rattle.ctl_syntax.specs.declared.item.Item.{Item}
use Rattle.ctl_syntax.specs.declared.item.Statement.{Statement, map-Statement}
use Rattle.ctl_syntax.specs.declared.item.Statement.TheOpen.{Statement-F}
use Rattle.ctl_syntax.specs.declared.name.Mark.{Mark}
use Rattle.ctl_syntax.specs.declared.name.Name.{Name}
use Rattle.ctl_typing.specs.declared.found.Asked.TheVariants as asking
use Rattle.ctl_typing.specs.declared.found.Typed.{Typed as Typed_value}
use Rattle.ctl_typing.specs.declared.table.Mutability.TheVariants as mutability
use Rattle.ctl_typing.specs.declared.table.Standing.TheVariants as standing
use Rattle.ctl_typing.specs.declared.table.Tables.{Tables}
use Rattle.ctl_typing.specs.Judgement.{Judgement, known, wrong, with_fault, ◌>>=◌, paired, beside, both, each}
use Rattle.ctl_typing.specs.Senses.{suffix_sense}
use Rattle.ctl_typing.specs.Typing.{sense, truth_of}
use Rattle.ctl_draft.specs.declared.draft.Around.{Around}
use Rattle.ctl_draft.specs.declared.draft.Draft.{Draft}
use Rattle.ctl_draft.specs.declared.draft.Giving.{Giving}
use Rattle.ctl_draft.specs.declared.draft.Giving.TheVariants as giving
use Rattle.ctl_draft.specs.declared.draft.Handling.{Handling}
use Rattle.ctl_draft.specs.declared.draft.Handling.TheVariants as handling
use Rattle.ctl_draft.specs.declared.draft.Looping.{Looping}
use Rattle.ctl_draft.specs.declared.draft.Looping.TheVariants as looping
use Rattle.ctl_draft.specs.Draft.{Doing, by_tables, noted, fault_when, declare_object, next_var}
use Rattle.ctl_types.specs.Elaboration as spec
use Rattle.ctl_types.specs.Elaboration.{Says, Does, Part_of}
use Rattle.ctl_statements.specs.Statements as simple
use Rattle.ctl_well_typed.specs.Setting.{LoopParameter, loop_parameter, Frames, Names, Setting, InView}
use Rattle.ctl_well_typed.specs.Expressions.{Typed, left_out, given}
use Rattle.ctl_well_typed.specs.Statements as rule
use Rattle.ctl_well_typed.specs.Statements.{Done, DoneEach, GuardedEach, HandledEach, Raised, Chosen}
use Rattle.ctl_sound.specs.Known.{IfSome, All, Gives}
use Rattle.ctl_sound.specs.Sound.{Sound}
use Rattle.ctl_sound.proofs.Known.{next}
use Rattle.ctl_sound.proofs.Plain.{Layer, IsSimple}
use Rattle.ctl_sound.proofs.Operators.{truth_good, value_as_good}
use Rattle.ctl_sound.proofs.Values.{expression_right, suffixes_right}
use Rattle.ctl_sound.proofs.Simple.{assignment_good, call_good, exception_named_good, raising_good, return_value_good}
use Rattle.ctl_sound.proofs.Growing.{still_noted, and_then, grows_further}
use Rattle.ctl_sound.proofs.Sites.{Site, around_site, here, gives_of}
use Rattle.ctl_sound.proofs.Fronts.{agrees_first, agrees_rest}
use Rattle.ctl_sound.proofs.Declared.{slot_made, slot_named, front_left, object_grows, object_front}
use Rattle.ctl_sound.proofs.Steps.{Leads, Goes, Both, known_goes, noted_leads, tables_lead, still_leads, then_leads, beside_leads, both_goes, each_goes}

-- What stands around a statement -----------------------------------------------------------------

abbrev is_inside_loop : Looping → Bool
is_inside_loop looping.Inside = true
is_inside_loop looping.Outside = false

abbrev is_inside_handler : Handling → Bool
is_inside_handler handling.Inside = true
is_inside_handler handling.Outside = false

-- as the check knows it
abbrev pub around_of : Around → rule.Around
around_of a = record { in_loop = is_inside_loop a.looping; in_handler = is_inside_handler a.handling; gives = gives_of a.giving }

-- Rows of statements, arms and handlers ------------------------------------------------------------

module _ (k : Setting) (env : Frames) (w : rule.Around) where
  done_more : (xs : List Stmt) (x : Stmt) → DoneEach k env w xs → Done k env w x → DoneEach k env w (xs ++ x ∷ [])
  done_more [] x rule.no_more_statements h = rule.one_more_statement h rule.no_more_statements
  done_more (y ∷ xs) x (rule.one_more_statement g more) h = rule.one_more_statement g (done_more xs x more h)

  guarded_more : (xs : List Arm) (x : Arm) → GuardedEach k env w xs → GuardedEach k env w (x ∷ []) → GuardedEach k env w (xs ++ x ∷ [])
  guarded_more [] x rule.no_more_arms h = h
  guarded_more (y ∷ xs) x (rule.one_more_arm g i more) h = rule.one_more_arm g i (guarded_more xs x more h)

  handled_more : (xs : List Checked_handler) (x : Checked_handler) → HandledEach k env w xs → HandledEach k env w (x ∷ []) → HandledEach k env w (xs ++ x ∷ [])
  handled_more [] x rule.no_more_handlers h = h
  handled_more (y ∷ xs) x (rule.one_more_handler g i more) h = rule.one_more_handler g i (handled_more xs x more h)

  raised_more : (xs : List ℕ) (x : ℕ) → Raised k xs → x < k.exceptions → Raised k (xs ++ x ∷ [])
  raised_more [] x rule.no_more_exceptions h = rule.one_more_exception h rule.no_more_exceptions
  raised_more (y ∷ xs) x (rule.one_more_exception g more) h = rule.one_more_exception g (raised_more xs x more h)

paired_slots : {A B : Type 0} (a : Option A) (r : Option B × Draft) → (paired a r).1.slots ≡ r.1.slots
paired_slots None r = refl
paired_slots (Some a) (None, d) = refl
paired_slots (Some a) (Some b, d) = refl

-- Statements -------------------------------------------------------------------------------------------

-- what is right of a row, and of a single one, at a site
module _ (a : Around) where
  abbrev pub Right : Site → Stmt → Type 0
  Right s x = Done s.k (around_site s) (around_of a) x

  abbrev pub RightEach : Site → List Stmt → Type 0
  RightEach s xs = DoneEach s.k (around_site s) (around_of a) xs

  abbrev pub RightArm : Site → Arm → Type 0
  RightArm s x = GuardedEach s.k (around_site s) (around_of a) (x ∷ [])

  abbrev pub RightArms : Site → List Arm → Type 0
  RightArms s xs = GuardedEach s.k (around_site s) (around_of a) xs

  abbrev pub RightHandler : Site → Checked_handler → Type 0
  RightHandler s x = HandledEach s.k (around_site s) (around_of a) (x ∷ [])

  abbrev pub RightHandlers : Site → List Checked_handler → Type 0
  RightHandlers s xs = HandledEach s.k (around_site s) (around_of a) xs

  abbrev pub SaysRight : Says → Type 0
  SaysRight s = Goes (here a) Right (s a)

  abbrev pub BranchRight : Branch Says Use → Type 0
  BranchRight b = Goes (here a) RightArm (spec.branch a b)

  abbrev pub HandlerRight : Span → Handler Says Use → Type 0
  HandlerRight place h = Goes (here a) RightHandler (spec.handler place a h)

-- a layer of a statement, with what each statement, item and body in it is
abbrev pub judged_parts : Layer → Statement-F Definition Use Says Does Part_of
judged_parts y = map-Statement Definition Use (Statement Definition Use) (Body Definition Use) (Item Definition Use) Says Does Part_of spec.statement spec.body spec.item_judged y

pub sequence_walk : (a : Around) (ss : List Says) → All (SaysRight a) ss → Goes (here a) (RightEach a) (spec.sequence ss a)
sequence_walk a ss g = each_goes (here a) (RightEach a) (Right a) (λ x. x a) (λ s. done_more s.k (around_site s) (around_of a)) (λ s. rule.no_more_statements) ss g

module _ (a : Around) where
  tables_walk : {A : Type 0} (Q : Site → A → Type 0) (p : Tables → Judgement A) → ((s : Site) (tables : Tables) → Sound s.k (around_site s) tables → Gives (Q s) (p tables)) → Goes (here a) Q (by_tables p)
  tables_walk Q p h d = tables_lead (here a) Q p d (λ s t sound. h s d.tables sound)

  then_walk : {A C : Type 0} (Q : Site → A → Type 0) (R : Site → C → Type 0) (p : Doing A) (g : A → C) → Goes (here a) Q p → ((s : Site) (x : A) → Q s x → R s (g x)) → Goes (here a) R (p >>= (λ x. known (g x)))
  then_walk Q R p g h i d = then_leads (here a) Q R g d (p d) (λ s t. i s) (h d)

  -- a rule that is broken leaves nothing known
  broken_walk : {A : Type 0} (Q : Site → A → Type 0) (code : FaultCode) (place : Span) → Goes (here a) Q (λ d. noted d (wrong {A = A} code place d.notes))
  broken_walk {A} Q code place d = noted_leads (here a) Q d (wrong {A = A} code place d.notes) (λ s t f. tt)

  abbrev Truth : Site → Expr → Type 0
  Truth s x = Typed s.k (around_site s) x ty.Boolean

  truth_right : (x : Expression Use) (s : Site) (tables : Tables) → Sound s.k (around_site s) tables → Gives (Truth s) (truth_of tables (sense x))
  truth_right x s tables sound = truth_good s.k (around_site s) tables sound (sense x) (expression_right s.k (around_site s) tables sound x)

  condition_walk : (x : Expression Use) → Goes (here a) Truth (spec.condition (sense x))
  condition_walk x = tables_walk Truth (λ tables. truth_of tables (sense x)) (truth_right x)

  pub branch_walk : (c : Expression Use) (ss : List Says) → All (SaysRight a) ss → BranchRight a (record { condition = c; statements = ss })
  branch_walk c ss g = then_walk (Both (here a) Truth (RightEach a)) (RightArm a) (both (spec.condition (sense c)) (spec.sequence ss a)) (λ r. roll-Arm (record { test = r.0; body = r.1 }))
      (both_goes (here a) Truth (RightEach a) (spec.condition (sense c)) (spec.sequence ss a) (condition_walk c) (sequence_walk a ss g))
      (λ s r h. rule.one_more_arm h.0 h.1 rule.no_more_arms)

  pub conditional_walk : (first : Branch Says Use) (more : List (Branch Says Use)) (otherwise : List Says) → All (BranchRight a) (first ∷ more) → All (SaysRight a) otherwise → SaysRight a (spec.conditional first more otherwise)
  conditional_walk first more otherwise g i = then_walk (Both (here a) (RightArms a) (RightEach a)) (Right a) (both (spec.branches a (first ∷ more)) (spec.sequence otherwise a)) (λ r. stmt.If r.0 r.1)
      (both_goes (here a) (RightArms a) (RightEach a) (spec.branches a (first ∷ more)) (spec.sequence otherwise a)
      (each_goes (here a) (RightArms a) (RightArm a) (spec.branch a) (λ s. guarded_more s.k (around_site s) (around_of a)) (λ s. rule.no_more_arms) (first ∷ more) g)
      (sequence_walk a otherwise i))
      (λ s r h. rule.choose h.0 h.1)

  pub endless_walk : (ss : List Says) → All (SaysRight (spec.in_loop a)) ss → SaysRight a (spec.endless ss)
  endless_walk ss g = then_walk (RightEach (spec.in_loop a)) (Right a) (spec.sequence ss (spec.in_loop a)) (λ body. stmt.Loop body) (sequence_walk (spec.in_loop a) ss g) (λ s r h. rule.loop h)

  pub while_walk : (c : Expression Use) (ss : List Says) → All (SaysRight (spec.in_loop a)) ss → SaysRight a (spec.while (sense c) ss)
  while_walk c ss g = then_walk (Both (here a) Truth (RightEach (spec.in_loop a))) (Right a) (both (spec.condition (sense c)) (spec.sequence ss (spec.in_loop a))) (λ r. stmt.While r.0 r.1)
      (both_goes (here a) Truth (RightEach (spec.in_loop a)) (spec.condition (sense c)) (spec.sequence ss (spec.in_loop a)) (condition_walk c) (sequence_walk (spec.in_loop a) ss g))
      (λ s r h. rule.while h.0 h.1)

  -- Loops with a parameter (5.5) ----------------------------------------------------------------------

  abbrev Bound : Site → Expr → Type 0
  Bound s x = Typed s.k (around_site s) x ty.Integer

  bound_walk : (x : Expression Use) → Goes (here a) Bound (by_tables (spec.bound (sense x)))
  bound_walk x = tables_walk Bound (spec.bound (sense x)) (λ s tables sound. value_as_good s.k (around_site s) tables sound ty.Integer (sense x) tt (expression_right s.k (around_site s) tables sound x))

  -- the statements, and the slot of the parameter
  abbrev Counted : ℕ → Site → List Stmt → Type 0
  Counted n s ss = RightEach (spec.in_loop a) s ss × Names (around_site s) (record { level = length (around_site s); slot = n }) LoopParameter

  abbrev with_parameter : Draft → Draft
  with_parameter d = declare_object a ty.Integer standing.LoopParameter mutability.Constant aliasing.Unaliased d

  counted : (n : ℕ) (s : Site) (o : Option (List Stmt)) → IfSome (RightEach (spec.in_loop a) s) o → Names (around_site s) (record { level = length (around_site s); slot = n }) LoopParameter → IfSome (Counted n s) o
  counted n s None i h = tt
  counted n s (Some xs) i h = (i, h)

  parameter_leads : (d : Draft) (r : Option (List Stmt) × Draft) → Leads (here a) (RightEach (spec.in_loop a)) (with_parameter d) r → Leads (here a) (Counted (length d.slots)) d (spec.shown (length d.tables.entries) r)
  parameter_leads d (ss, g) h =
      let one = object_grows a ty.Integer standing.LoopParameter mutability.Constant aliasing.Unaliased LoopParameter loop_parameter d in
      let all = grows_further (slot_made LoopParameter) h.made d (with_parameter d) g one h.grows in
      record {
        made = and_then (slot_made LoopParameter) h.made;
        grows = record { records = all.records; components = all.components; exceptions = all.exceptions; accesses = all.accesses; slots = all.slots; record_homes = all.record_homes; access_homes = all.access_homes; signatures = all.signatures };
        right = λ s t f b i.
            let own = agrees_first s d (slot_made LoopParameter) h.made i in
            let inside = h.right s t
            (object_front a ty.Integer standing.LoopParameter mutability.Constant aliasing.Unaliased LoopParameter loop_parameter (λ env n names. (tt, tt)) d s t tt f own)
            (record { exceptions = b.exceptions; records = b.records; accesses = b.accesses })
            (agrees_rest s d (with_parameter d) (slot_made LoopParameter) h.made one i) in
            (front_left s d g f inside.0, counted (length d.slots) s ss inside.1 (slot_named s d LoopParameter own));
      }

  pub counting_walk : (way : Direction) (low high : Expression Use) (ss : List Says) → All (SaysRight (spec.in_loop a)) ss → SaysRight a (spec.counting way (sense low) (sense high) ss)
  counting_walk way low high ss g d =
      let bounds : Doing (Expr × Expr) = both (by_tables (spec.bound (sense low))) (by_tables (spec.bound (sense high))) in
      let e = (bounds d).1 in
      let same : e.slots ≡ d.slots = paired_slots (by_tables (spec.bound (sense low)) d).0 (by_tables (spec.bound (sense high)) (by_tables (spec.bound (sense low)) d).1) in
      then_leads (here a) (Both (here a) (Both (here a) Bound Bound) (Counted (length d.slots))) (Right a) (λ r. stmt.For (next_var a d) (spec.way_of way) r.0.0 r.0.1 r.1) d (beside (spec.with_parameter ss a) (bounds d))
      (λ s t r h. subst (λ l. Right a s (stmt.For (record { level = l; slot = length d.slots }) (spec.way_of way) r.0.0 r.0.1 r.1)) (sym t.level) (rule.for (rule.fills h.1.1) h.0.0 h.0.1 h.1.0))
      (beside_leads (here a) (Both (here a) Bound Bound) (Counted (length d.slots)) d (bounds d) (spec.with_parameter ss a)
      (both_goes (here a) Bound Bound (by_tables (spec.bound (sense low))) (by_tables (spec.bound (sense high))) (bound_walk low) (bound_walk high) d)
      (subst (λ n. Leads (here a) (Counted n) e (spec.with_parameter ss a e)) (ap length same) (parameter_leads e (spec.sequence ss (spec.in_loop a) (with_parameter e)) (sequence_walk (spec.in_loop a) ss g (with_parameter e)))))

  -- Transfers (5.7, 6.5, 11.3) and statements that hold none ------------------------------------------------

  assignment_walk : (n : Name Use (Expression Use)) (x : Expression Use) → Goes (here a) (Right a) (by_tables (simple.assignment n.first (map suffix_sense n.suffixes) (sense x)))
  assignment_walk n x = tables_walk (Right a) (simple.assignment n.first (map suffix_sense n.suffixes) (sense x)) (λ s tables sound. let env = around_site s in assignment_good s.k env tables sound (around_of a) n.first (map suffix_sense n.suffixes) (sense x) (suffixes_right s.k env tables sound n.suffixes) (expression_right s.k env tables sound x))

  call_walk : (place : Span) (n : Name Use (Expression Use)) → Goes (here a) (Right a) (by_tables (simple.call place n.first (map suffix_sense n.suffixes)))
  call_walk place n = tables_walk (Right a) (simple.call place n.first (map suffix_sense n.suffixes)) (λ s tables sound. let env = around_site s in call_good s.k env tables sound (around_of a) place n.first (map suffix_sense n.suffixes) (suffixes_right s.k env tables sound n.suffixes))

  raising_walk : (place : Span) (m : Mark Use) → Goes (here a) (Right a) (by_tables (simple.raising place m))
  raising_walk place m = tables_walk (Right a) (simple.raising place m) (λ s tables sound. raising_good s.k (around_site s) tables sound (around_of a) place m)

  raising_again_by : (place : Span) (h : Handling) → (h ≡ handling.Inside → (around_of a).in_handler ≡ true) → Goes (here a) (Right a) (simple.raising_again place h)
  raising_again_by place handling.Outside inside = broken_walk (Right a) fault.Return place
  raising_again_by place handling.Inside inside = known_goes (here a) (Right a) stmt.RaiseAgain (λ s. rule.raise_again (inside refl))

  raising_again_walk : (place : Span) → Goes (here a) (Right a) (simple.raising_again place a.handling)
  raising_again_walk place = raising_again_by place a.handling (λ e. ap is_inside_handler e)

  exiting_by : (place : Span) (l : Looping) (c : Option (Expression Use)) → (l ≡ looping.Inside → (around_of a).in_loop ≡ true) → Goes (here a) (Right a) (simple.exiting place l (option_map sense c))
  exiting_by place looping.Outside c inside = broken_walk (Right a) fault.Return place
  exiting_by place looping.Inside None inside = tables_walk (Right a) (simple.exit_by None) (λ s tables sound n. rule.exit (inside refl) left_out)
  exiting_by place looping.Inside (Some x) inside = tables_walk (Right a) (simple.exit_by (Some (sense x))) (λ s tables sound. next (Truth s) (Right a s) (truth_of tables (sense x)) (λ c. known (stmt.Exit (Some c))) (truth_right x s tables sound) (λ c h n. rule.exit (inside refl) (given h)))

  exiting_walk : (place : Span) (c : Option (Expression Use)) → Goes (here a) (Right a) (simple.exiting place a.looping (option_map sense c))
  exiting_walk place c = exiting_by place a.looping c (λ e. ap is_inside_loop e)

  nothing_returned : (g : Giving) → a.giving ≡ g → gives_of g ≡ None → Goes (here a) (Right a) (known (stmt.Return None))
  nothing_returned g e none = known_goes (here a) (Right a) (stmt.Return None) (λ s. rule.return (subst (λ o. rule.Returns s.k (around_site s) o None) (sym (ap gives_of e ∙ none)) rule.nothing))

  -- the value of a return that gives one of this type
  value_returned : (t : Ty) (x : Expression Use) → a.giving ≡ giving.Value t → Goes (here a) (Right a) (by_tables (simple.return_value (asking.Exactly t) (sense x)))
  value_returned t x e d = tables_lead (here a) (Right a) (simple.return_value (asking.Exactly t) (sense x)) d (λ s i sound. let env = around_site s in
      return_value_good s.k env d.tables sound (around_of a) t (sense x) (ap gives_of e) (subst (λ o. IfSome (InView s.k env) o) (ap gives_of e) i.giving) (expression_right s.k env d.tables sound x))

  any_value : {A : Type 0} (o : Option A) → IfSome (λ (x : A). Unit {0}) o
  any_value None = tt
  any_value (Some x) = tt

  unclear_returned : (x : Expression Use) → Goes (here a) (Right a) (by_tables (simple.unclear_value (sense x)))
  unclear_returned x = tables_walk (Right a) (simple.unclear_value (sense x)) (λ s tables sound.
      next (λ (t : Typed_value). Unit {0}) (Right a s) ((sense x).judged tables asking.Anything) (λ t n. (None, n)) (λ n. any_value ((sense x).judged tables asking.Anything n).0) (λ t u n. tt))

  return_by_walk : (place : Span) (g : Giving) (x : Option (Expression Use)) → a.giving ≡ g → Goes (here a) (Right a) (simple.return_by place g (option_map sense x))
  return_by_walk place giving.Nothing None e = nothing_returned giving.Nothing e refl
  return_by_walk place giving.Nothing (Some x) e = broken_walk (Right a) fault.Return place
  return_by_walk place (giving.Value t) None e = broken_walk (Right a) fault.Return place
  return_by_walk place (giving.Value t) (Some x) e = value_returned t x e
  return_by_walk place giving.Unclear None e = broken_walk (Right a) fault.Return place
  return_by_walk place giving.Unclear (Some x) e = unclear_returned x

  returning_walk : (place : Span) (x : Option (Expression Use)) → Goes (here a) (Right a) (simple.returning place a.giving (option_map sense x))
  returning_walk place x d = still_leads (here a) (Right a) d (simple.with_return d) (simple.return_by place a.giving (option_map sense x) (simple.with_return d)) (still_noted d _ d.waiting d.notes) (return_by_walk place a.giving x refl (simple.with_return d))

  -- a statement that holds none
  pub simple_right : (y : Layer) → IsSimple y → SaysRight a (spec.statement_step (judged_parts y))
  simple_right (Statement-F.Null p) h = known_goes (here a) (Right a) stmt.Null (λ s. rule.null)
  simple_right (Statement-F.Assignment p to x) h = assignment_walk to x
  simple_right (Statement-F.Call p to) h = call_walk p to
  simple_right (Statement-F.Exit p c) h = exiting_walk p c
  simple_right (Statement-F.Return p x) h = returning_walk p x
  simple_right (Statement-F.Raise p m) h = raising_walk p m
  simple_right (Statement-F.RaiseAgain p) h = raising_again_walk p
  simple_right y h = absurd h

  -- Handlers (11.2) -------------------------------------------------------------------------------------------

  abbrev IsException : Site → ℕ → Type 0
  IsException s n = n < s.k.exceptions

  each_choice : (place : Span) (ms : List (Mark Use)) → All (λ m. Goes (here a) IsException (by_tables (simple.choice place m))) ms
  each_choice place [] = tt
  each_choice place (m ∷ ms) = (tables_walk IsException (simple.choice place m) (λ s tables sound. exception_named_good s.k (around_site s) tables sound place m.first m.rest), each_choice place ms)

  abbrev RightChoices : Site → Checked_choices → Type 0
  RightChoices s c = Chosen s.k c

  choices_walk : (place : Span) (c : Choices Use) → Goes (here a) RightChoices (simple.choices_of place c)
  choices_walk place choices.Others = known_goes (here a) RightChoices chosen.Others (λ s. rule.others)
  choices_walk place (choices.Exceptions ms) = then_walk (λ s. Raised s.k) RightChoices (simple.exceptions_chosen place ms) (λ ns. chosen.Exceptions ns)
      (each_goes (here a) (λ s. Raised s.k) IsException (λ m. by_tables (simple.choice place m)) (λ s. raised_more s.k (around_site s) (around_of a)) (λ s. rule.no_more_exceptions) ms (each_choice place ms))
      (λ s ns h. rule.exceptions h)

  pub handler_walk : (place p : Span) (c : Choices Use) (ss : List Says) → All (SaysRight (spec.in_handler a)) ss → HandlerRight a place (record { span = p; choices = c; statements = ss })
  handler_walk place p c ss g = then_walk (Both (here a) RightChoices (RightEach (spec.in_handler a))) (RightHandler a) (both (simple.choices_of place c) (spec.sequence ss (spec.in_handler a))) (λ r. roll-Handler (record { choices = r.0; body = r.1 }))
      (both_goes (here a) RightChoices (RightEach (spec.in_handler a)) (simple.choices_of place c) (spec.sequence ss (spec.in_handler a)) (choices_walk place c) (sequence_walk (spec.in_handler a) ss g))
      (λ s r h. rule.one_more_handler h.0 h.1 rule.no_more_handlers)

  told_leads : {A : Type 0} (Q : Site → A → Type 0) (j : Doing A) (b : Bool) (which : FaultCode) (place : Span) (d : Draft) → Goes (here a) Q j → Leads (here a) Q d (j (fault_when b which place d))
  told_leads Q j true which place d h = let e : Draft = record d { notes = with_fault which place d.notes } in still_leads (here a) Q d e (j e) (still_noted d d.returning d.waiting (with_fault which place d.notes)) (h e)
  told_leads Q j false which place d h = h d

  pub handlers_walk : (place : Span) (hs : List (Handler Says Use)) → All (HandlerRight a place) hs → Goes (here a) (RightHandlers a) (spec.handlers place a hs)
  handlers_walk place hs g d = told_leads (RightHandlers a) (λ e. each (spec.handler place a) (Some []) hs e) (spec.others_early false hs) fault.Type place d
      (each_goes (here a) (RightHandlers a) (RightHandler a) (spec.handler place a) (λ s. handled_more s.k (around_site s) (around_of a)) (λ s. rule.no_more_handlers) hs g)
