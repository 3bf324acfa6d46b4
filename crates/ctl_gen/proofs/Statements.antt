-- The code of each construct does what the construct means, where the code of its parts does.
use Rattle.std.proofs.Common.{◌≡◌, ℕ, ◌+◌, ◌-◌, ◌<◌, ◌≤◌, List, [], ◌∷◌, ◌++◌, length, map, Option, Some, None, true, false, refl, sym, ap, ◌∙◌, arith, subst, length-append, append_assoc, Bool}
use Rattle.std.specs.Prelude.{slice_get, replicate, ◌&&◌, if◌then◌else◌}
use Rattle.ctl_program.specs.declared.types.Ty.{Ty}
use Rattle.ctl_program.specs.declared.types.Ty.TheVariants.{Integer, Count, Boolean, Address, Handle, Access, Record}
use Rattle.ctl_program.specs.declared.expression.Expr.{Expr}
use Rattle.ctl_program.specs.declared.statement.Association.{Association}
use Rattle.ctl_program.specs.declared.statement.Item.{Item}
use Rattle.ctl_program.specs.declared.statement.Item.TheVariants.{Collections, Object, Pool, Silent}
use Rattle.ctl_meaning.specs.World.{Slot, unset, Log, World}
use Rattle.ctl_meaning.specs.Lists.{last_of, opened_lists}
use Rattle.ctl_meaning.specs.Changes.{open_master, opened_changes}
use Rattle.ctl_meaning.specs.Ledger.{opened_ledger}
use Rattle.ctl_meaning.specs.Choice.{Ask}
use Rattle.ctl_meaning.specs.Outcome.{raised_by, leave_by, on_some, ByRaise, Result, Goes, Leaves, Gives, Act, Done, ◌>>◌, add, bind, on_goes, given, then_always, opened_outcome, completes_loop, Way}
use Rattle.ctl_meaning.specs.Types.{Tables, category_of}
use Rattle.ctl_meaning.specs.Names.{Default, Returned, Tools}
use Rattle.ctl_meaning.specs.Names as Names
use Rattle.ctl_meaning.specs.Expressions.{Valued, eval, if_given}
use Rattle.ctl_meaning.specs.Masters.{Elaborating, Left, leave, in_master, elaborate_item, elaborate, object, silent}
use Rattle.ctl_meaning.specs.Statements.{Body, Doing, Guarding, choose_arm, do_block, do_each, do_first, guard, handle, handled, leaving, unset_slots}
use Rattle.ctl_code.specs.declared.code.DiscriminantOrder.{DiscriminantOrder}
use Rattle.ctl_code.specs.declared.code.Instr.TheVariants as InstrOf
use Rattle.ctl_code.specs.declared.code.Code.{Code}
use Rattle.ctl_code.specs.declared.kinds.Kind.{Kind}
use Rattle.ctl_code.specs.declared.kinds.Kind.TheVariants as KindOf
use Rattle.ctl_code.specs.States.{Word, After, AfterBlock, Point, Frame, State}
use Rattle.ctl_code.specs.Table.{behind as goes_behind, caught_in, on_at, transfers}
use Rattle.ctl_code.specs.Steps.{moved, step}
use Rattle.ctl_code.specs.Windows.{depth}
use Rattle.ctl_layout.specs.Around.{Line, Landing, OutOfMaster, BeforeLoop, Around, among, behind, land, further as further_on}
use Rattle.ctl_layout.specs.Parts.{Reached}
use Rattle.ctl_layout.specs.Values.{ValueCode, copied, value_code}
use Rattle.ctl_layout.specs.Layout.{ArmCode, ItemCode, MasterCode, StatementCode, all, all_items, arms_code, arms_run, arms_texts, block, block_code, branches, copy, in_master as in_new, inside, item_code, leaves_code, order_of, ordered_pool, turn_code, valued, with_value}
use Rattle.ctl_layout.specs.Defaults.{is_declared}
use Rattle.ctl_gen.proofs.Known.{both_true, plain_if, scalar_if}
use Rattle.ctl_gen.proofs.Place.{HasAt, has_front, has_back, Laid, laid_front, laid_back}
use Rattle.ctl_gen.proofs.Each.{Each}
use Rattle.ctl_gen.proofs.Collections.{home}
use Rattle.ctl_gen.proofs.Worlds.{IsNested, IsPlainSlot, plain_unset, Since, Kept, home_new, keeps_itself, keeps_on, keeps_open, fits_open}
use Rattle.ctl_gen.proofs.Setting.{Setting, tools_with, Sees, Told, Calls, seen, seen_nested}
use Rattle.ctl_gen.proofs.Given.{GivesEach}
use Rattle.ctl_gen.proofs.Cells.{by_code}
use Rattle.ctl_gen.proofs.Does.{Does, IsRunIn, both_run}
use Rattle.ctl_gen.proofs.Declare.{declare_runs}
use Rattle.ctl_gen.proofs.PoolDeclared.{pool_does, root_is}
use Rattle.ctl_gen.proofs.Copies.{copy_does}
use Rattle.ctl_gen.proofs.Assign.{scalar_runs, valued_runs}
use Rattle.ctl_gen.proofs.Expressions.{Value}
use Rattle.ctl_emitter.proofs.Walked.{part_begun}
use Rattle.ctl_gen.proofs.Evaluated.{copied_means, value_means}
use Rattle.ctl_gen.proofs.Branches.{Ends, arm_runs}
use Rattle.ctl_gen.proofs.Loops.{leave_step}
use Rattle.ctl_gen.proofs.Gathers.{collections_do}
use Rattle.ctl_gen.proofs.Leave.{in_frame, leaves, left_after, steps_out}
use Rattle.ctl_gen.proofs.Follow.{by_raise, raised_is, Comes, Runs, Target, OutOf, target_of, landing_further, landed_on, way_of, at, arrives, add_none, added, bind_bind, last_step, no_step, both, both_from, arriving, left_behind, in_row, lands, transferred}

last_is : (d : List ℕ) (n : ℕ) → last_of (d ++ n ∷ []) ≡ n
unfolding opened_lists
last_is [] n = refl
last_is (x ∷ []) n = refl
last_is (x ∷ y ∷ d) n = last_is (y ∷ d) n

behind_both : (m n : ℕ) (a : Around) → behind (m + n) a ≡ behind n (behind m a)
behind_both m n a = ap (λ e. record { stack = a.stack; landing = e }) (by a.landing)
  where
    by : (e : Landing) → further_on (m + n) e ≡ further_on n (further_on m e)
    by OutOfMaster = refl
    by (BeforeLoop back) = let e : back + (m + n) ≡ back + m + n = omega arith in ap BeforeLoop e

next_after : (env : List ℕ) (slots : List Slot) (w : World) → (open_master env slots w).ledger.next_master ≡ w.ledger.next_master + 1
unfolding opened_changes opened_ledger
next_after env slots w = refl

-- the instructions of a statement behind another one, from where control lands as before
pub continues : (e : Landing) (n place : ℕ) (d : List ℕ) (q : ℕ) (ks : List Frame) (ops : List Word) (r : Result Done) (l : Log) (w : World) → arrives (target_of (further_on n e) (place + n)) d q ks ops r l w ≡ arrives (target_of e place) d q ks ops r l w
continues e n place d q ks ops r l w = ap (λ x. arrives x d q ks ops r l w) (landing_further e n place)

-- what stands around the statements and handlers of a master: control that leaves them leaves it
abbrev pub inside_master : List Kind → Around
inside_master s = record { stack = s; landing = OutOfMaster }

-- the statements of a master, and its handlers
abbrev pub with_handlers : List Doing → List Guarding → Doing
with_handlers body handlers j env caught = then_always (do_each j env caught body) (handled (handle j env handlers))

module _ (ask : Ask) (k : Tables) (code : Code) (setting : Setting k code) (call : Names.Call) (default : Default) (defaults : GivesEach ask k code setting call default) (bound : ℕ) (calls : Calls ask k code setting bound call) where
  abbrev K : Tools
  K = tools_with ask k call default

  -- no instruction, and a tick or none
  pub still_there : (t : ℕ) (e : Target) (w0 : World) (d : List ℕ) (place : ℕ) (ks : List Frame) (ops : List Word) (c : ℕ) (l : Log) (w : World) → Since k code w0 w → Runs ask code (Kept k code w0) 0 0 (at d place ks ops l w) c (arrives e d (place + 0) ks ops) (Gives (Goes tt) t c l w)
  still_there t e w0 d place ks ops c l w fits = let e1 : place ≡ place + 0 = omega arith in no_step ask code (Kept k code w0) 0 0 _ c t (arrives e d (place + 0) ks ops) (Goes tt) l w fits (ap (λ p. at d p ks ops l w) e1)

  -- two stretches, one behind the other
  pub both_do : (x y : Around → List Line) (m n : List ℕ → ℕ → Act Done) → Does ask k code bound x m → Does ask k code bound y n → Does ask k code bound (λ a. x a ++ y (behind (length (x a)) a)) (λ d caught. m d caught >> n d caught)
  unfolding opened_outcome
  both_do x y m n first second a w0 d place ks ops c l w le fits sees has =
      let is = x a in
      let js = y (behind (length (x a)) a) in
      let e : place + length is + length js ≡ place + length (is ++ js) = omega (arith, length-append is js) in
      arriving ask code (Kept k code w0) 0 0 _ c _ _ _ (λ r l1 w1. ap (λ p. arrives (lands a place) d p ks ops r l1 w1) e)
      (in_row ask code (Kept k code w0) 0 0 0 0 0 0 _ c (lands a place) d (place + length is) (place + length is + length js) ks ops (m d (caught_in ks) c l w) (n d (caught_in ks)) (omega arith) (omega arith) (omega arith)
      (first a w0 d place ks ops c l w le fits sees (laid_front code place is js has))
      (λ c1 l1 w1 lo fits1.
      arriving ask code (Kept k code w0) 0 0 (at d (place + length is) ks ops l1 w1) c1 (arrives (target_of (further_on (length is) a.landing) (place + length is)) d (place + length is + length js) ks ops) (arrives (lands a place) d (place + length is + length js) ks ops) (n d (caught_in ks) c1 l1 w1) (λ r l2 w2. continues a.landing (length is) place d (place + length is + length js) ks ops r l2 w2)
      (second (behind (length is) a) w0 d (place + length is) ks ops c1 l1 w1 (omega (arith, lo, le)) fits1 sees (laid_back code place is js has))))

  -- Items ------------------------------------------------------------------------------------

  abbrev Elaborates : ItemCode → Elaborating → Type 0
  Elaborates x m = x.runs k.records ≡ true → Does ask k code bound (λ a. x.code a.stack) (λ d caught. m K d (last_of d))

  bare_object : (slot : ℕ) (ty : Ty) → is_declared k.records ty ≡ true → Does ask k code bound (λ a. (item_code (Object slot ty None)).code a.stack) (λ d caught. object slot ty None K d (last_of d))
  unfolding object if_given category_of opened_outcome
  bare_object slot (Record t) runs a w0 d place ks ops c l w le fits sees has =
      let known = plain_if k t runs in
      added ask code (Kept k code w0) 1 5 7 0 0 _ c (arrives (lands a place) d (place + 1) ks ops) _ (omega arith) (omega arith) (added ask code (Kept k code w0) 0 5 7 5 7 _ c (arrives (lands a place) d (place + 1) ks ops) _ (omega arith) (omega arith) (declare_runs ask k code setting call default defaults t known.0 known.1 known.2 bound calls slot (lands a place) a.stack w0 d place ks ops c l w le fits sees has))
  bare_object slot Integer runs a w0 d place ks ops c l w le fits sees has = scalar_runs ask k code setting.valid bound call default slot Integer tt a w0 d place ks ops c l w le fits sees has
  bare_object slot Boolean runs a w0 d place ks ops c l w le fits sees has = scalar_runs ask k code setting.valid bound call default slot Boolean tt a w0 d place ks ops c l w le fits sees has
  bare_object slot Count runs a w0 d place ks ops c l w le fits sees has = scalar_runs ask k code setting.valid bound call default slot Count tt a w0 d place ks ops c l w le fits sees has
  bare_object slot Address runs a w0 d place ks ops c l w le fits sees has = scalar_runs ask k code setting.valid bound call default slot Address tt a w0 d place ks ops c l w le fits sees has
  bare_object slot Handle runs a w0 d place ks ops c l w le fits sees has = absurd (cc)
  bare_object slot (Access t) runs a w0 d place ks ops c l w le fits sees has = scalar_runs ask k code setting.valid bound call default slot (Access t) tt a w0 d place ks ops c l w le fits sees has

  -- a declaration with a value
  valued_object : (slot : ℕ) (ty : Ty) (e : Expr) → (valued slot ty (value_code e)).runs k.records ≡ true → Does ask k code bound (λ a. (valued slot ty (value_code e)).code a.stack) (λ d caught. object slot ty (Some (eval e)) K d (last_of d))
  unfolding object if_given opened_outcome
  valued_object slot ty e runs =
      let h = both_true _ _ runs in
      valued_runs ask k code setting.valid bound call default slot ty (value_code e) (eval e K) (scalar_if ty h.0) (λ w0. value_means ask k code setting call default bound calls w0 e h.1)

  copied_object : (slot t : ℕ) (e : Expr) (o : Option Reached) → copied t (value_code e) ≡ o → (copy slot t o).runs k.records ≡ true → Does ask k code bound (λ a. (copy slot t o).code a.stack) (λ d caught. object slot (Record t) (Some (eval e)) K d (last_of d))
  copied_object slot t e None is runs = absurd (cc)
  copied_object slot t e (Some x) is runs =
      let h = both_true _ _ runs in
      let known = plain_if k t h.0 in
      copy_does ask k code setting call default defaults t known.0 known.1 known.2 bound calls slot x e h.1 (λ w0. copied_means ask k code setting call default bound calls w0 e t x is (part_begun k.records x h.1))

  given_object : (slot : ℕ) (ty : Ty) (e : Expr) → (with_value slot ty (value_code e)).runs k.records ≡ true → Does ask k code bound (λ a. (with_value slot ty (value_code e)).code a.stack) (λ d caught. object slot ty (Some (eval e)) K d (last_of d))
  given_object slot (Record t) e runs = copied_object slot t e (copied t (value_code e)) refl runs
  given_object slot Integer e runs = valued_object slot Integer e runs
  given_object slot Boolean e runs = valued_object slot Boolean e runs
  given_object slot Count e runs = valued_object slot Count e runs
  given_object slot Address e runs = valued_object slot Address e runs
  given_object slot Handle e runs = valued_object slot Handle e runs
  given_object slot (Access t) e runs = valued_object slot (Access t) e runs

  -- a pool whose discriminants stand in this order
  ordered_pool_elaborates : (slot t : ℕ) (x y : Association) (o : Option DiscriminantOrder) → order_of x.position y.position ≡ o → Elaborates (ordered_pool slot t o (value_code x.value) (value_code y.value)) (elaborate_item (Pool slot t (x ∷ y ∷ [])))
  ordered_pool_elaborates slot t x y None ordered runs = absurd (cc)
  ordered_pool_elaborates slot t x y (Some order) ordered runs =
      let h = both_true _ _ runs in
      let g = both_true _ _ h.0 in
      let f = both_true _ _ h.1 in
      let known = plain_if k t g.0 in
      pool_does ask k code setting call default defaults t known.0 known.1 known.2 (root_is k t known.0 known.1 g.1) bound calls slot x.position y.position order (value_code x.value) (value_code y.value) (eval x.value) (eval y.value) ordered
      (λ w0. value_means ask k code setting call default bound calls w0 x.value f.0)
      (λ w0. value_means ask k code setting call default bound calls w0 y.value f.1)

  item_elaborates : (x : Item) → Elaborates (item_code x) (elaborate_item x)
  unfolding silent opened_outcome
  item_elaborates (Object slot ty None) runs = bare_object slot ty runs
  item_elaborates (Object slot ty (Some e)) runs = given_object slot ty e runs
  item_elaborates Silent runs = λ a w0 d place ks ops c l w le fits sees has. still_there 1 (lands a place) w0 d place ks ops c l w fits
  item_elaborates (Collections []) runs = absurd (cc)
  item_elaborates (Collections (a ∷ more)) runs = collections_do ask k code setting call default bound a more
  item_elaborates (Pool slot t []) runs = absurd (cc)
  item_elaborates (Pool slot t (x ∷ [])) runs = absurd (cc)
  item_elaborates (Pool slot t (x ∷ y ∷ [])) runs = ordered_pool_elaborates slot t x y (order_of x.position y.position) refl runs
  item_elaborates (Pool slot t (x ∷ y ∷ z ∷ more)) runs = absurd (cc)

  items_run : (xs : List Item) → (all_items (map item_code xs)).runs k.records ≡ true → Does ask k code bound (λ a. (all_items (map item_code xs)).code a.stack) (λ d caught. elaborate K d (last_of d) (map elaborate_item xs))
  unfolding elaborate opened_outcome
  items_run [] runs a w0 d place ks ops c l w le fits sees has = still_there 0 (lands a place) w0 d place ks ops c l w fits
  items_run (x ∷ xs) runs a w0 d place ks ops c l w le fits sees has =
      let h = both_true ((item_code x).runs k.records) ((all_items (map item_code xs)).runs k.records) runs in
      both_do (λ b. (item_code x).code b.stack) (λ b. (all_items (map item_code xs)).code b.stack) (λ v caught. elaborate_item x K v (last_of v)) (λ v caught. elaborate K v (last_of v) (map elaborate_item xs)) (item_elaborates x h.0) (items_run xs h.1) a w0 d place ks ops c l w le fits sees has

  -- Statements in turn -----------------------------------------------------------------------

  -- the code of a statement, where its texts stand, does what it means
  abbrev pub Performs : StatementCode → Doing → Type 0
  Performs x m = IsRunIn k.records x.runs → (n : ℕ) → HasAt code.texts.items n x.texts → Does ask k code bound (λ a. x.code a n) (m K)

  abbrev pub EachPerforms : List StatementCode → List Doing → Type 0
  EachPerforms [] [] = Unit {0}
  EachPerforms (x ∷ xs) (m ∷ ms) = Performs x m × EachPerforms xs ms
  EachPerforms _ _ = ⊥

  pub all_run : (xs : List StatementCode) (ms : List Doing) → EachPerforms xs ms → Performs (all xs) (λ j env caught. do_each j env caught ms)
  unfolding do_each opened_outcome
  all_run [] [] each runs n texts a w0 d place ks ops c l w le fits sees has = still_there 0 (lands a place) w0 d place ks ops c l w fits
  all_run [] (m ∷ ms) each runs n texts a w0 d place ks ops c l w le fits sees has = absurd each
  all_run (x ∷ xs) [] each runs n texts a w0 d place ks ops c l w le fits sees has = absurd each
  all_run (x ∷ xs) (m ∷ ms) each runs n texts a w0 d place ks ops c l w le fits sees has =
      let n1 = n + length x.texts in
      let h = both_run k.records x.runs (all xs).runs runs in
      both_do (λ b. x.code b n) (λ b. (all xs).code b n1) (m K) (λ v caught. do_each K v caught ms) (each.0 h.0 n (has_front code.texts.items n x.texts (all xs).texts texts)) (all_run xs ms each.1 h.1 n1 (has_back code.texts.items n x.texts (all xs).texts texts)) a w0 d place ks ops c l w le fits sees has

  -- Conditional statements -------------------------------------------------------------------

  -- an arm, before what is done where it does not apply
  abbrev pub Guards : ArmCode → Guarding → Type 0
  Guards x m =
      x.test.runs k.records ≡ true → IsRunIn k.records x.body.runs → (n : ℕ) → HasAt code.texts.items n x.body.texts → (other : Act Done) (a : Around) (w0 : World) (d : List ℕ) (place place1 : ℕ) (ks : List Frame) (ops : List Word) (c : ℕ) (l : Log) (w : World) → c ≤ bound → Since k code w0 w → Sees d a.stack w0 →
      Laid code place (turn_code x a n) → Ends ask k code bound d (place + length (turn_code x a n)) place1 ks ops →
      ((c1 : ℕ) (l1 : Log) (w1 : World) → c1 ≤ c → Since k code w0 w1 → Runs ask code (Kept k code w0) 0 0 (at d (place + length (turn_code x a n) + 1) ks ops l1 w1) c1 (arrives (lands a place) d place1 ks ops) (other c1 l1 w1)) →
      Runs ask code (Kept k code w0) 0 0 (at d place ks ops l w) c (arrives (lands a place) d place1 ks ops) (m K d (caught_in ks) other c l w)

  pub guard_runs : (x : ValueCode) (test : Valued) (xs : List StatementCode) (ms : List Doing) → (x.runs k.records ≡ true → (w0 : World) → Value ask k code bound w0 x (test K)) → EachPerforms xs ms → Guards (record { test = x; body = all xs }) (guard test ms)
  unfolding guard
  guard_runs x test xs ms value each runs_test runs_body n texts other a w0 d place place1 ks ops c l w le fits sees has ends elses =
      arm_runs ask k code bound 0 1 (omega arith) x (test K) (value runs_test) (λ b. (all xs).code b n) (λ u caught. do_each K u caught ms) (all_run xs ms each runs_body n texts) other a w0 d place place1 ks ops c l w le fits sees has ends elses

  abbrev pub EachGuards : List ArmCode → List Guarding → Type 0
  EachGuards [] [] = Unit {0}
  EachGuards (x ∷ xs) (m ∷ ms) = Guards x m × EachGuards xs ms
  EachGuards _ _ = ⊥

  -- further arms, behind the end of the first one: control lands from each as from where they begin
  further_run : (arms : List ArmCode) (ms : List Guarding) → EachGuards arms ms → IsRunIn k.records (arms_run arms) → (n : ℕ) → HasAt code.texts.items n (arms_texts arms) → (others : Around → List Line) (act : List ℕ → ℕ → Act Done) → Does ask k code bound others act → (back end place1 size : ℕ) (a : Around) (w0 : World) (d : List ℕ) (ks : List Frame) (ops : List Word) (c : ℕ) (l : Log) (w : World) → c ≤ bound → Since k code w0 w → Sees d a.stack w0 → slice_get code.instructions.items end ≡ Some (InstrOf.Skip size) → end + 1 + size ≡ place1 → Laid code (end + back) (arms_code back arms a n ++ others (behind (length (arms_code back arms a n)) a)) → end + back + length (arms_code back arms a n) + length (others (behind (length (arms_code back arms a n)) a)) ≡ place1 → Runs ask code (Kept k code w0) 0 0 (at d (end + back) ks ops l w) c (arrives (lands a (end + back)) d place1 ks ops) (do_first K d (caught_in ks) ms (act d (caught_in ks)) c l w)
  unfolding do_first
  further_run [] [] each runs n texts others act does back end place1 size a w0 d ks ops c l w le fits sees here far has last =
      let e : end + back + length (others (behind 0 a)) ≡ place1 = omega (arith, last) in
      let e0 : end + back + 0 ≡ end + back = omega arith in
      arriving ask code (Kept k code w0) 0 0 _ c _ _ _ (λ r l1 w1. continues a.landing 0 (end + back) d place1 ks ops r l1 w1)
      (subst (λ p. Runs ask code (Kept k code w0) 0 0 (at d (end + back) ks ops l w) c (arrives (target_of (further_on 0 a.landing) p) d place1 ks ops) (act d (caught_in ks) c l w)) (sym e0)
      (arriving ask code (Kept k code w0) 0 0 _ c _ _ _ (λ r l1 w1. ap (λ p. arrives (target_of (further_on 0 a.landing) (end + back)) d p ks ops r l1 w1) e)
      (does (behind 0 a) w0 d (end + back) ks ops c l w le fits sees has)))
  further_run [] (m ∷ ms) each runs n texts others act does back end place1 size a w0 d ks ops c l w le fits sees here far has last = absurd each
  further_run (x ∷ rest) [] each runs n texts others act does back end place1 size a w0 d ks ops c l w le fits sees here far has last = absurd each
  further_run (x ∷ rest) (m ∷ ms) each runs n texts others act does back end place1 size a w0 d ks ops c l w le fits sees here far has last =
      let h = both_true (x.test.runs k.records) (x.body.runs (among k.records runs.0) && arms_run rest (among k.records runs.0)) runs.1 in
      let g = both_run k.records x.body.runs (arms_run rest) (runs.0, h.1) in
      let turn = turn_code x a n in
      let j = length turn in
      let n1 = n + length x.body.texts in
      let more = back + j + 1 in
      let a1 = behind (j + 1) a in
      let again = InstrOf.Back (back + j) in
      let arm = turn ++ (again, a.stack) ∷ [] in
      let more_arms = arms_code more rest a1 n1 in
      let tail_size = length (arm ++ more_arms) in
      let others1 = others (behind tail_size a) in
      let q = end + back + j in
      let flat : (arm ++ more_arms) ++ others1 ≡ arm ++ (more_arms ++ others1) = append_assoc arm more_arms others1 in
      let has1 = subst (Laid code (end + back)) flat has in
      let front = laid_front code (end + back) arm (more_arms ++ others1) has1 in
      let there = (laid_back code (end + back) turn ((again, a.stack) ∷ []) front).0 in
      let e1 : q - (back + j) ≡ end = omega arith in
      let e2 : end + back + length arm ≡ end + more = omega (arith, length-append turn ((again, a.stack) ∷ [])) in
      let e3 : end + more ≡ q + 1 = omega arith in
      let e4 : end + more ≡ end + back + (j + 1) = omega arith in
      let sizes : tail_size ≡ j + 1 + length more_arms = omega (arith, length-append arm more_arms, length-append turn ((again, a.stack) ∷ [])) in
      let same : behind tail_size a ≡ behind (length more_arms) a1 = ap (λ z. behind z a) sizes ∙ behind_both (j + 1) (length more_arms) a in
      let tail = subst (λ z. Laid code (end + more) (more_arms ++ others z)) same (subst (λ p. Laid code p (more_arms ++ others1)) e2 (laid_back code (end + back) arm (more_arms ++ others1) has1)) in
      let last1 : end + more + length more_arms + length (others1) ≡ place1 = omega (arith, last, sizes) in
      let last2 = subst (λ z. end + more + length more_arms + length (others z) ≡ place1) same last1 in
      each.0 h.0 g.0 n (has_front code.texts.items n x.body.texts (arms_texts rest) texts) (do_first K d (caught_in ks) ms (act d (caught_in ks))) a w0 d (end + back) place1 ks ops c l w le fits sees (laid_front code (end + back) turn ((again, a.stack) ∷ []) front)
      (λ l1 w1. (2, omega arith, ap (step ask code) (by_code ask code d q ks ops l1 w1 again there ∙ ap (λ p. at d p ks ops l1 w1) e1) ∙ by_code ask code d end ks ops l1 w1 (InstrOf.Skip size) here ∙ ap (λ p. at d p ks ops l1 w1) far))
      (λ c1 l1 w1 lo fits1.
      subst (λ p. Runs ask code (Kept k code w0) 0 0 (at d p ks ops l1 w1) c1 (arrives (lands a (end + back)) d place1 ks ops) (do_first K d (caught_in ks) ms (act d (caught_in ks)) c1 l1 w1)) e3
      (arriving ask code (Kept k code w0) 0 0 (at d (end + more) ks ops l1 w1) c1 (arrives (lands a1 (end + more)) d place1 ks ops) (arrives (lands a (end + back)) d place1 ks ops) (do_first K d (caught_in ks) ms (act d (caught_in ks)) c1 l1 w1) (λ r l2 w2. ap (λ p. arrives (lands a1 p) d place1 ks ops r l2 w2) e4 ∙ continues a.landing (j + 1) (end + back) d place1 ks ops r l2 w2)
      (further_run rest ms each.1 g.1 n1 (has_back code.texts.items n x.body.texts (arms_texts rest) texts) others act does more end place1 size a1 w0 d ks ops c1 l1 w1 (omega (arith, lo, le)) fits1 sees here far tail last2)))

  -- the arms of an if statement, and what stands behind `else`
  arms_does : (arms : List ArmCode) (ms : List Guarding) → EachGuards arms ms → IsRunIn k.records (arms_run arms) → (n : ℕ) → HasAt code.texts.items n (arms_texts arms) → (others : StatementCode) (act : List ℕ → ℕ → Act Done) → ((m : ℕ) → m ≡ n + length (arms_texts arms) → Does ask k code bound (λ a. others.code a m) act) → Does ask k code bound (λ a. (branches arms others).code a n) (λ d caught. do_first K d caught ms (act d caught))
  unfolding do_first
  arms_does [] [] each runs n texts others act does a w0 d place ks ops c l w le fits sees has = does n (omega arith) a w0 d place ks ops c l w le fits sees has
  arms_does [] (m ∷ ms) each runs n texts others act does a w0 d place ks ops c l w le fits sees has = absurd each
  arms_does (x ∷ rest) [] each runs n texts others act does a w0 d place ks ops c l w le fits sees has = absurd each
  arms_does (x ∷ rest) (m ∷ ms) each runs n texts others act does a w0 d place ks ops c l w le fits sees has =
      let h = both_true (x.test.runs k.records) (x.body.runs (among k.records runs.0) && arms_run rest (among k.records runs.0)) runs.1 in
      let g = both_run k.records x.body.runs (arms_run rest) (runs.0, h.1) in
      let turn = turn_code x a n in
      let j = length turn in
      let a1 = behind (j + 1) a in
      let n1 = n + length x.body.texts in
      let n2 = n1 + length (arms_texts rest) in
      let more_arms = arms_code 1 rest a1 n1 in
      let all_else = others.code (behind (length more_arms) a1) n2 in
      let skipped = more_arms ++ all_else in
      let skip = InstrOf.Skip (length skipped) in
      let q = place + j in
      let arm = turn ++ (skip, a.stack) ∷ [] in
      let behind1 : q + 1 + length skipped ≡ place + length (arm ++ skipped) = omega (arith, length-append arm skipped, length-append turn ((skip, a.stack) ∷ [])) in
      let front = laid_front code place arm skipped has in
      let here = (laid_back code place turn ((skip, a.stack) ∷ []) front).0 in
      let e1 : place + length arm ≡ q + 1 = omega (arith, length-append turn ((skip, a.stack) ∷ [])) in
      let e2 : q + 1 ≡ place + (j + 1) = omega arith in
      let tail = subst (λ p. Laid code p skipped) e1 (laid_back code place arm skipped has) in
      let texts1 : n2 ≡ n + length (arms_texts (x ∷ rest)) = omega (arith, length-append x.body.texts (arms_texts rest)) in
      arriving ask code (Kept k code w0) 0 0 _ c _ _ _ (λ r l1 w1. ap (λ p. arrives (lands a place) d p ks ops r l1 w1) behind1)
      (each.0 h.0 g.0 n (has_front code.texts.items n x.body.texts (arms_texts rest) texts) (do_first K d (caught_in ks) ms (act d (caught_in ks))) a w0 d place (q + 1 + length skipped) ks ops c l w le fits sees (laid_front code place turn ((skip, a.stack) ∷ []) front)
      (λ l1 w1. (1, omega arith, by_code ask code d q ks ops l1 w1 skip here))
      (λ c1 l1 w1 lo fits1.
      arriving ask code (Kept k code w0) 0 0 (at d (q + 1) ks ops l1 w1) c1 (arrives (lands a1 (q + 1)) d (q + 1 + length skipped) ks ops) (arrives (lands a place) d (q + 1 + length skipped) ks ops) (do_first K d (caught_in ks) ms (act d (caught_in ks)) c1 l1 w1) (λ r l2 w2. ap (λ p. arrives (lands a1 p) d (q + 1 + length skipped) ks ops r l2 w2) e2 ∙ continues a.landing (j + 1) place d (q + 1 + length skipped) ks ops r l2 w2)
      (further_run rest ms each.1 g.1 n1 (has_back code.texts.items n x.body.texts (arms_texts rest) texts) (λ b. others.code b n2) act (does n2 texts1) 1 q (q + 1 + length skipped) (length skipped) a1 w0 d ks ops c1 l1 w1 (omega (arith, lo, le)) fits1 sees here refl tail (omega (arith, length-append more_arms all_else)))))

  pub branches_run : (arms : List ArmCode) (ms : List Guarding) (xs : List StatementCode) (others : List Doing) → EachGuards arms ms → EachPerforms xs others → Performs (branches arms (all xs)) (choose_arm ms others)
  unfolding choose_arm leaving opened_outcome
  branches_run arms ms xs others each each_other runs n texts a w0 d place ks ops c l w le fits sees has =
      let h = both_run k.records (arms_run arms) (all xs).runs runs in
      added ask code (Kept k code w0) 1 1 1 0 0 _ c _ _ (omega arith) (omega arith)
      (left_behind ask code (Kept k code w0) 0 0 1 1 _ c _ _ (omega arith) (omega arith)
      (arms_does arms ms each h.0 n (has_front code.texts.items n (arms_texts arms) (all xs).texts texts) (all xs) (λ u caught. do_each K u caught others)
      (λ m is. all_run xs others each_other h.1 m (subst (λ j. HasAt code.texts.items j (all xs).texts) (sym is) (has_back code.texts.items n (arms_texts arms) (all xs).texts texts))) a w0 d place ks ops c l w le fits sees has))

  -- Masters ----------------------------------------------------------------------------------

  -- a new master, where this display is seen since it was opened: it is younger than an earlier world
  pub record Opened (w0 w2 : World) (master : ℕ) (d : List ℕ) (s : List Kind) : Type 0 where
    pub young : w0.ledger.next_master ≤ master
    pub since : (w1 : World) → Since k code w2 w1 → Since k code w0 w1
    pub sees : Sees d s w2
    pub newest : last_of d ≡ master

  -- the statements of a master, from where they begin: they are done, and the master is left
  abbrev pub Closes : StatementCode → Doing → Type 0
  Closes x m =
      IsRunIn k.records x.runs → (n : ℕ) → HasAt code.texts.items n x.texts → (s : List Kind) (master : ℕ) (w0 w2 : World) (d : List ℕ) → Opened w0 w2 master d s → (after : After) (ks : List Frame) (caught c0 c t : ℕ) (l : Log) (w : World) (s0 : State) (place : ℕ) → c ≤ bound →
      Laid code place (x.code (inside_master s) n) → slice_get code.instructions.items (place + length (x.code (inside_master s) n)) ≡ Some InstrOf.Leave → Comes ask code 1 s0 c0 t c (at d place (in_frame master caught after ks) [] l w) (Since k code w2 w) →
      Runs ask code (Told k code w0) 0 2 s0 c0 (leaves after ks) (add t (bind (m K d caught c l w) (leave K master)))

  -- where there is no handler, none changes a result
  unhandled : (d : List ℕ) (r : Result Done) (c : ℕ) (l : Log) (w : World) → handled (handle K d []) r c l w ≡ Gives r 0 c l w
  unfolding handled handle do_first opened_outcome
  unhandled d (Goes a) c l w = refl
  unhandled d (Leaves y) c l w = by (raised_by y) refl
    where
      by : (o : Option ℕ) → raised_by y ≡ o → on_some o (leave_by y) (handle K d []) c l w ≡ Gives (Leaves y) 0 c l w
      by None is = refl
      by (Some e) is = ap (λ v. Gives (Leaves v) 0 c l w) (sym (raised_is y e is))

  -- statements without handlers
  pub plain_closes : (xs : List StatementCode) (ms : List Doing) → EachPerforms xs ms → Closes (all xs) (with_handlers ms [])
  unfolding opened_outcome
  plain_closes xs ms each runs n texts s master w0 w2 d opened after ks caught c0 c t l w s0 place le has at_end front =
      let end = place + length ((all xs).code (inside_master s) n) in
      let frames = in_frame master caught after ks in
      subst (λ o. Runs ask code (Told k code w0) 0 2 s0 c0 (leaves after ks) (add t o)) (sym (bind_bind (do_each K d caught ms c l w) (handled (handle K d [])) (leave K master)))
      (both_from ask code (Kept k code w2) (Told k code w0) 1 0 0 1 2 0 s0 (at d place frames [] l w) c0 c t (arrives OutOf d end frames []) (leaves after ks) _ _ (omega arith) (omega arith) front
      (all_run xs ms each runs n texts (inside_master s) w2 d place frames [] c l w le front.fits opened.sees has)
      (λ r t1 c1 l1 w1 lo fits1 there.
      subst (λ o. Runs ask code (Told k code w0) 0 2 s0 c0 (leaves after ks) (add t1 o)) (sym (ap (λ o. bind o (leave K master)) (unhandled d r c1 l1 w1) ∙ add_none (leave K master r c1 l1 w1)))
      (left_after ask k code setting call default defaults.constants bound calls 1 (omega arith) r master after w0 ks c0 c1 t1 l1 w1 s0 _ opened.young (omega (arith, lo, le)) (opened.since w1 fits1) there (steps_out ask code master caught after d end ks at_end r l1 w1))))

  -- a master, from the step that enters it
  abbrev pub Masters : StatementCode → Doing → Type 0
  Masters x m =
      IsRunIn k.records x.runs → (n : ℕ) → HasAt code.texts.items n x.texts → (caught : ℕ) (new : Kind) (s : List Kind) (w0 : World) (env : List ℕ) (slots : List Slot) (after : After) (ks : List Frame) (c0 c : ℕ) (l : Log) (w : World) (s0 : State) (place : ℕ) → c ≤ bound → c ≤ c0 → c0 ≤ c + 1 → Since k code w0 w → length env + 1 ≡ depth (new ∷ s) → IsNested w env → Each IsPlainSlot slots → Laid code place (x.code (in_new new s) n) →
      step ask code s0 ≡ at (env ++ w.ledger.next_master ∷ []) place (in_frame w.ledger.next_master caught after ks) [] l (open_master env slots w) →
      Runs ask code (Told k code w0) 0 2 s0 c0 (leaves after ks) (in_master K env slots (λ inner. m K inner caught) c l w)

  -- its items come first
  pub master_runs : (items : List Item) (x : StatementCode) (m : Doing) → Closes x m → Masters (inside (all_items (map item_code items)) x) (λ j env caught. elaborate j env (last_of env) (map elaborate_item items) >> m j env caught)
  unfolding in_master opened_outcome
  master_runs items x m closes runs n texts caught new s w0 env slots after ks c0 c l w s0 place le lo hi fits long nested plain has first =
      let front : Comes ask code 1 s0 c0 0 c (at inner place frames [] l w2) (Unit {0}) = record { n = 1; falls = lo; enough = omega (arith, hi); in_time = omega arith; comes = first; fits = tt } in
      subst (λ o. Runs ask code (Told k code w0) 0 2 s0 c0 (leaves after ks) (add 0 o)) (sym (bind_bind (elaborate K inner (last_of inner) (map elaborate_item items) c l w2) (on_goes (λ _. m K inner caught)) (leave K master)))
      (both_from ask code (Kept k code w2) (Told k code w0) 1 0 0 1 2 0 s0 (at inner place frames [] l w2) c0 c 0 (arrives OutOf inner (place + length is) frames []) (leaves after ks) _ _ (omega arith) (omega arith) front
      (items_run items (both_true _ _ runs.1).0 a w2 inner place frames [] c l w2 le fits2 opened.sees (laid_front code place is js inside_it)) on)
    where
      master : ℕ
      master = w.ledger.next_master

      inner : List ℕ
      inner = env ++ w.ledger.next_master ∷ []

      w2 : World
      w2 = open_master env slots w

      a : Around
      a = in_new new s

      frames : List Frame
      frames = in_frame w.ledger.next_master caught after ks

      is : List Line
      is = (all_items (map item_code items)).code (new ∷ s)

      js : List Line
      js = x.code (in_new new s) n

      fits2 : Since k code (open_master env slots w) (open_master env slots w)
      fits2 = (fits_open k code env slots w nested plain fits.0, keeps_itself k code w2)

      next : (open_master env slots w).ledger.next_master ≡ w.ledger.next_master + 1
      next = next_after env slots w

      opened : Opened w0 (open_master env slots w) w.ledger.next_master (env ++ w.ledger.next_master ∷ []) (new ∷ s)
      opened = record {
        young = fits.1.later;
        since = λ w1 h. (h.0, keeps_on k code w0 w w1 fits.1 (keeps_on k code w w2 w1 (keeps_open k code env slots w) h.1));
        sees = record {
          old = subst (λ z. z < w2.ledger.next_master) (sym (last_is env master)) (omega (arith, next));
          home = ap (λ z. home z w2.activations) (last_is env master) ∙ home_new k code env slots w;
          long = length-append env (master ∷ []) ∙ long;
          deep = omega (arith, length-append env (master ∷ []));
        };
        newest = last_is env master;
      }

      inside_it : Laid code place (is ++ js)
      inside_it = laid_front code place (is ++ js) ((InstrOf.Leave, new ∷ s) ∷ []) has

      at_end : slice_get code.instructions.items (place + length is + length js) ≡ Some InstrOf.Leave
      at_end =
          let e : place + length (is ++ js) ≡ place + length is + length js = omega (arith, length-append is js) in
          ap (slice_get code.instructions.items) (sym e) ∙ (laid_back code place (is ++ js) ((InstrOf.Leave, new ∷ s) ∷ []) has).0

      on : (r : Result Done) (t c1 : ℕ) (l1 : Log) (w1 : World) → c1 ≤ c → Since k code (open_master env slots w) w1 → Comes ask code 1 s0 c0 t c1 (arrives OutOf inner (place + length is) frames [] r l1 w1) (Since k code (open_master env slots w) w1) → Runs ask code (Told k code w0) 0 2 s0 c0 (leaves after ks) (add t (bind (on_goes (λ _. m K inner caught) r c1 l1 w1) (leave K master)))
      on (Goes a1) t c1 l1 w1 lo1 fits1 there =
          closes (runs.0, (both_true _ _ runs.1).1) n texts (new ∷ s) master w0 w2 inner opened after ks caught c0 c1 t l1 w1 s0 (place + length is) (omega (arith, lo1, le)) (laid_back code place is js inside_it) at_end there
      on (Leaves y) t c1 l1 w1 lo1 fits1 there =
          subst (λ o. Runs ask code (Told k code w0) 0 2 s0 c0 (leaves after ks) (add t o)) (sym (add_none (leave K master (Leaves y) c1 l1 w1)))
          (left_after ask k code setting call default defaults.constants bound calls 1 (omega arith) (Leaves y) master after w0 ks c0 c1 t l1 w1 s0 _ opened.young (omega (arith, lo1, le)) (opened.since w1 fits1) there (steps_out ask code master caught after inner (place + length is + length js) ks at_end (Leaves y) l1 w1))

  -- a master as a body has it
  pub record Mastered (x : MasterCode) (b : Body) : Type 0 where
    pub slots : x.slots ≡ b.slots
    pub inside : Masters x.inside b.inside

  -- a block's result goes on behind it: to the landing by the instruction that leads there
  behind_block : (e : Landing) (n : ℕ) (w0 : World) (d : List ℕ) (place q : ℕ) (ks : List Frame) (ops : List Word) → q ≡ place + n → slice_get code.instructions.items q ≡ Some (land (further_on n e)) → (r : Result Left) (c : ℕ) (l : Log) (w : World) → Told k code w0 (way_of r) w → Runs ask code (Kept k code w0) 1 1 (leaves (AfterBlock (record { display = d; place = q; operands = ops })) ks r l w) c (arrives (target_of e place) d (q + 1) ks ops) (on_goes (λ (x : Left). given x.result) r c l w)
  unfolding opened_outcome
  behind_block e n w0 d place q ks ops is here (Leaves y) c l w fits =
      by_raise (λ v. Runs ask code (Kept k code w0) 1 1 (leaves (AfterBlock (record { display = d; place = q; operands = ops })) ks (Leaves v) l w) c (arrives (target_of e place) d (q + 1) ks ops) (Gives (Leaves v) 0 c l w))
      (λ x. no_step ask code (Kept k code w0) 1 1 _ c 0 (arrives (target_of e place) d (q + 1) ks ops) (Leaves (ByRaise x)) l w fits.1 refl) y fits.0
  behind_block e n w0 d place q ks ops is here (Goes x) c l w fits = on x.result x.slots
    where
      led : (y : Way) (b : Bool) → completes_loop y ≡ b → Runs ask code (Kept k code w0) 1 1 (moved l (if b then on_at (record { display = d; place = q; operands = ops }) ks w else transfers y ks w)) c (arrives (target_of e place) d (q + 1) ks ops) (Gives (Leaves y) 0 c l w)
      led y true this =
          last_step ask code (Kept k code w0) 1 1 _ c 0 (arrives (target_of e place) d (q + 1) ks ops) (Leaves y) l w (omega arith) fits.1
          (leave_step ask k code bound (further_on n e) y this d q ks ops l w here ∙ ap (λ p. landed_on (target_of (further_on n e) p) y d ks ops l w) is ∙ ap (λ (t : Target). landed_on t y d ks ops l w) (landing_further e n place)
          ∙ sym (ap (λ b. if b then landed_on (target_of e place) y d ks ops l w else transferred y ks l w) this))
      led y false this = no_step ask code (Kept k code w0) 1 1 _ c 0 (arrives (target_of e place) d (q + 1) ks ops) (Leaves y) l w fits.1 (sym (ap (λ b. if b then landed_on (target_of e place) y d ks ops l w else transferred y ks l w) this))

      on : (r : Result Done) (slots : List Slot) → Runs ask code (Kept k code w0) 1 1 (moved l (goes_behind (AfterBlock (record { display = d; place = q; operands = ops })) r slots ks w)) c (arrives (target_of e place) d (q + 1) ks ops) (Gives r 0 c l w)
      on (Goes a) slots = no_step ask code (Kept k code w0) 1 1 _ c 0 (arrives (target_of e place) d (q + 1) ks ops) (Goes a) l w fits.1 refl
      on (Leaves y) slots = led y (completes_loop y) refl

  pub block_runs : (x : MasterCode) (b : Body) → Mastered x b → Performs (block x) (do_block b)
  unfolding do_block unset_slots opened_outcome
  block_runs x b mastered runs n texts a w0 d place ks ops c l w le fits sees has =
      let inner = x.inside.code (in_new (KindOf.Block x.slots) a.stack) n in
      let out = leaves_code (behind (length inner + 1) a) in
      let q = place + 1 + length inner in
      let p : Point = record { display = d; place = q; operands = ops } in
      let e : q + 1 ≡ place + length (block_code x.slots inner a) = omega (arith, length-append inner out) in
      let at_end : q ≡ place + (length inner + 1) = omega arith in
      added ask code (Kept k code w0) 1 1 2 0 0 _ c _ _ (omega arith) (omega arith)
      (arriving ask code (Kept k code w0) 1 2 _ c _ _ _ (λ r l1 w1. ap (λ z. arrives (lands a place) d z ks ops r l1 w1) e)
      (both ask code (Told k code w0) (Kept k code w0) 0 2 1 1 1 2 _ c (leaves (AfterBlock p) ks) (arrives (lands a place) d (q + 1) ks ops) _ (on_goes (λ (y : Left). given y.result)) (omega arith) (omega arith) (omega arith)
      (mastered.inside (runs.0 + 1, runs.1) n texts (caught_in ks) (KindOf.Block x.slots) a.stack w0 d (replicate b.slots unset) (AfterBlock p) ks c c l w (at d place ks ops l w) (place + 1) le (omega arith) (omega arith) fits (ap (λ z. z + 1) sees.long) (seen_nested k code d a.stack w0 w (seen sees) fits) (plain_unset b.slots) (laid_front code (place + 1) inner out has.2)
      (by_code ask code d place ks ops l w (InstrOf.Enter x.slots (length inner)) has.0 ∙ ap (λ j. at (d ++ w.ledger.next_master ∷ []) (place + 1) (in_frame w.ledger.next_master (caught_in ks) (AfterBlock p) ks) [] l (open_master d (replicate j unset) w)) mastered.slots))
      (λ r c1 l1 w1 lo fits1. behind_block a.landing (length inner + 1) w0 d place q ks ops at_end (laid_back code (place + 1) inner out has.2).0 r c1 l1 w1 fits1)))
