-- Every act advances: the clock never rises, the log only grows, and each pick is an answer below its width.
use Rattle.std.specs.Prelude.{◌≡◌, ℕ, zero, suc, ◌+◌, ◌≤◌, List, [], ◌∷◌, ◌++◌, length, Option, Some, None, Bool, true, false, ◌||◌, nat_lt, if◌then◌else◌}
use Rattle.std.proofs.Common.{refl, sym, ap, ◌∙◌, subst, arith, append_assoc, append-nil, length-append}
use Rattle.std.proofs.lemmas.Bool.{ltb-true}
use Rattle.ctl_program.specs.declared.types.Ty.{Ty}
use Rattle.ctl_program.specs.declared.statement.Stmt.{Stmt}
use Rattle.ctl_program.specs.declared.program.Checked.{Checked}
use Rattle.ctl_tree.specs.declared.event.Event.{Event}
use Rattle.ctl_tree.specs.declared.ending.Stop.{Stop}
use Rattle.ctl_tree.specs.declared.event.Cause.{Cause}
use Rattle.ctl_meaning.specs.World.{Pick, Log, World, empty_log, empty_world, Object, Collection, Member, Slot}
use Rattle.ctl_meaning.specs.Changes.{object_at}
use Rattle.ctl_meaning.specs.Members.{Group, candidates_of}
use Rattle.ctl_meaning.specs.Choice.{Ask, AreAnswers, accepted, noted, picked}
use Rattle.ctl_meaning.specs.Outcome.{Result, Goes, Leaves, Out, Gives, Stops, Cut, Act, Done, add, bind, given, then_always, stop, counted, spend, look, change, tell, show, after_pick, answered, choose, leave_by, nothing, done, ticked, on_goes, either, on_some, ◌>>=◌, ◌>>◌}
use Rattle.ctl_meaning.specs.Types.{Tables, tables_of}
use Rattle.ctl_meaning.specs.Names.{Execution, OfSubprogram, OfAllocator, Call, Default, Tools, existing, must_exist, gone}
use Rattle.ctl_meaning.specs.Finalization.{finalize_begun, finalize_object, finalize_one, finalize_members, finalize_group}
use Rattle.ctl_meaning.specs.Allocation.{is_new, set_of, join_collection}
use Rattle.ctl_meaning.specs.Statements.{turned, turns, loop, one_turn, while, exec}
use Rattle.ctl_meaning.specs.Run.{meaning_of, completed, execute, execution, tools_with, tools, run_meaning, run}
use Rattle.ctl_meaning.specs.Advance.{Grows, Advances, Advancing}
use Rattle.ctl_meaning.proofs.Relation.{Closed}
use Rattle.ctl_meaning.proofs.Bodies.{good_run_number, good_allocate, good_exec}

-- Logs -----------------------------------------------------------------------------

pub joined_answers : (ask : Ask) (i : ℕ) (ps qs : List Pick) → AreAnswers ask i ps → AreAnswers ask (i + length ps) qs → AreAnswers ask i (ps ++ qs)
joined_answers ask i [] qs h j = subst (λ n. AreAnswers ask n qs) (omega arith) j
joined_answers ask i (p ∷ ps) qs h j = (h.0, h.1, joined_answers ask (suc i) ps qs h.2 (subst (λ n. AreAnswers ask n qs) (omega arith) j))

pub grows_same : (ask : Ask) (l : Log) → Grows ask l l
grows_same ask l = record { shown = []; trace = sym (append-nil l.trace); picks = []; taken = sym (append-nil l.taken); answers = tt }

pub grows_more : (ask : Ask) (l m n : Log) → Grows ask l m → Grows ask m n → Grows ask l n
grows_more ask l m n x y = record {
  shown = x.shown ++ y.shown;
  trace = y.trace ∙ ap (λ es. es ++ y.shown) x.trace ∙ append_assoc l.trace x.shown y.shown;
  picks = x.picks ++ y.picks;
  taken = y.taken ∙ ap (λ ps. ps ++ y.picks) x.taken ∙ append_assoc l.taken x.picks y.picks;
  answers = joined_answers ask (length l.taken) x.picks y.picks x.answers (subst (λ i. AreAnswers ask i y.picks) (ap length x.taken ∙ length-append l.taken x.picks) y.answers);
}

pub grows_told : (ask : Ask) (l : Log) (e : Event) → Grows ask l (tell e l)
unfolding tell
grows_told ask l e = record { shown = e ∷ []; trace = refl; picks = []; taken = sym (append-nil l.taken); answers = tt }

-- Outcomes -------------------------------------------------------------------------

module _ (ask : Ask) where
  pub adds : {A : Type 0} (n c : ℕ) (l : Log) (o : Out A) → Advances ask c l o → Advances ask c l (add n o)
  unfolding add
  adds n c l (Gives r t c1 l1 w1) h = record { falls = h.falls; grows = h.grows }
  adds n c l (Stops s t l1) h = record { falls = tt; grows = h.grows }
  adds n c l (Cut t c1 l1) h = record { falls = h.falls; grows = h.grows }

  pub after : {A : Type 0} (c c1 : ℕ) (l l1 : Log) (o : Out A) → c1 ≤ c → Grows ask l l1 → Advances ask c1 l1 o → Advances ask c l o
  after c c1 l l1 (Gives r t c2 l2 w2) h g x = let f = x.falls in record { falls = omega arith; grows = grows_more ask l l1 l2 g x.grows }
  after c c1 l l1 (Stops s t l2) h g x = record { falls = tt; grows = grows_more ask l l1 l2 g x.grows }
  after c c1 l l1 (Cut t c2 l2) h g x = let f = x.falls in record { falls = omega arith; grows = grows_more ask l l1 l2 g x.grows }

  pub bound : {A B : Type 0} (c : ℕ) (l : Log) (o : Out A) (f : Result A → Act B) → Advances ask c l o → ((r : Result A) → Advancing ask (f r)) → Advances ask c l (bind o f)
  unfolding bind
  bound c l (Gives r t c1 l1 w1) f h x = adds t c l (f r c1 l1 w1) (after c c1 l l1 (f r c1 l1 w1) h.falls h.grows ((x r).from c1 l1 w1))
  bound c l (Stops s t l1) f h x = record { falls = tt; grows = h.grows }
  bound c l (Cut t c1 l1) f h x = record { falls = h.falls; grows = h.grows }

  -- Elementary acts ------------------------------------------------------------------

  pub stays : {A : Type 0} (r : Result A) (t c : ℕ) (l : Log) (w : World) → Advances ask c l (Gives r t c l w)
  stays r t c l w = record { falls = omega arith; grows = grows_same ask l }

  pub gives : {A : Type 0} (r : Result A) → Advancing ask (given r)
  unfolding given
  gives r = record { from = λ c l w. stays r 0 c l w }

  pub stopped : {A : Type 0} (s : Stop) → Advancing ask (stop {A = A} s)
  unfolding stop
  stopped s = record { from = λ c l w. record { falls = tt; grows = grows_same ask l } }

  pub sequence : {A B : Type 0} {m : Act A} {f : Result A → Act B} → Advancing ask m → ((r : Result A) → Advancing ask (f r)) → Advancing ask (then_always m f)
  unfolding then_always
  sequence {m = m} {f = f} h x = record { from = λ c l w. bound c l (m c l w) f (h.from c l w) x }

  pub counts : {A : Type 0} (n : ℕ) {m : Act A} → Advancing ask m → Advancing ask (counted n m)
  unfolding counted
  counts n {m = m} h = record { from = λ c l w. adds n c l (m c l w) (h.from c l w) }

  spends_at : {A : Type 0} (m : Act A) → Advancing ask m → (c : ℕ) (l : Log) (w : World) → Advances ask c l (spend m c l w)
  unfolding spend
  spends_at m h zero l w = record { falls = omega arith; grows = grows_same ask l }
  spends_at m h (suc c) l w = after (suc c) c l l (m c l w) (omega arith) (grows_same ask l) (h.from c l w)

  pub spends : {A : Type 0} {m : Act A} → Advancing ask m → Advancing ask (spend m)
  spends {m = m} h = record { from = spends_at m h }

  pub looks : {A : Type 0} {f : World → Act A} → ((w : World) → Advancing ask (f w)) → Advancing ask (look f)
  unfolding look
  looks h = record { from = λ c l w. (h w).from c l w }

  pub changes : (f : World → World) → Advancing ask (change f)
  unfolding change
  changes f = record { from = λ c l w. record { falls = omega arith; grows = grows_same ask l } }

  pub shows : (e : Event) → Advancing ask (show e)
  unfolding show
  shows e = record { from = λ c l w. record { falls = omega arith; grows = grows_told ask l e } }

  -- a choice that is noted is the answer to its question, and below its width
  noted_if : (m p c : ℕ) (l : Log) (w : World) (b : Bool) → nat_lt p m ≡ b → ask (length l.taken) m ≡ Some p → Advances ask c l (after_pick (noted m (if b then Some p else None) l) c l w)
  unfolding noted after_pick
  noted_if m p c l w false e h = record { falls = omega arith; grows = grows_same ask l }
  noted_if m p c l w true e h =
      record { falls = omega arith; grows = record { shown = []; trace = sym (append-nil l.trace); picks = (record { width = m; chosen = p }) ∷ []; taken = refl; answers = (h, ltb-true p m e, tt) } }

  noted_at : (m c : ℕ) (l : Log) (w : World) (o : Option ℕ) → ask (length l.taken) m ≡ o → Advances ask c l (after_pick (noted m (accepted m o) l) c l w)
  unfolding noted after_pick accepted
  noted_at m c l w None e = record { falls = omega arith; grows = grows_same ask l }
  noted_at m c l w (Some p) e = noted_if m p c l w (nat_lt p m) refl e

  picked_at : (m c : ℕ) (l : Log) (w : World) → Advances ask c l (after_pick (picked ask m l) c l w)
  unfolding picked after_pick
  picked_at zero c l w = record { falls = omega arith; grows = grows_same ask l }
  picked_at (suc zero) c l w = record { falls = omega arith; grows = grows_same ask l }
  picked_at (suc (suc m)) c l w = noted_at (suc (suc m)) c l w (ask (length l.taken) (suc (suc m))) refl

  pub answers : (m : ℕ) → Advancing ask (answered ask m)
  unfolding answered
  answers m = record { from = picked_at m }

  -- Joining, and loops ------------------------------------------------------------------

  choice : {A : Type 0} (b : Bool) {m n : Act A} → Advancing ask m → Advancing ask n → Advancing ask (either b m n)
  unfolding either
  choice true h x = h
  choice false h x = x

  found : {A : Type 0} (o : Option Object) {m : Act A} {f : Object → Act A} → Advancing ask m → ((x : Object) → Advancing ask (f x)) → Advancing ask (on_some o m f)
  unfolding on_some
  found None h x = h
  found (Some o) h x = x o

  found_set : (o : Option Collection) {m : Act Done} {f : Collection → Act Done} → Advancing ask m → ((x : Collection) → Advancing ask (f x)) → Advancing ask (on_some o m f)
  unfolding on_some
  found_set None h x = h
  found_set (Some o) h x = x o

  pub enlists : (n : ℕ) → Advancing ask (join_collection n)
  unfolding join_collection existing gone
  enlists n = looks (λ w. found (object_at n w) (stopped _) (λ o. looks (λ w1. found_set (set_of o.origin w1) (stopped _) (λ c. choice (is_new o) (changes _) (stopped _)))))

  turns_on : (m : Act Done) → Advancing ask m → (r : Result Bool) → Advancing ask (turned m r)
  unfolding turned leave_by nothing
  turns_on m h (Goes true) = h
  turns_on m h (Goes false) = gives _
  turns_on m h (Leaves y) = gives _

  pub turns_at : (n : ℕ) (m : Act Bool) → Advancing ask m → (c : ℕ) (l : Log) (w : World) → Advances ask c l (turns n m c l w)
  unfolding turns
  turns_at zero m h c l w = record { falls = omega arith; grows = grows_same ask l }
  turns_at (suc n) m h c l w = (sequence h (turns_on (turns n m) (record { from = turns_at n m h }))).from c l w

  pub repeats : {m : Act Bool} → Advancing ask m → Advancing ask (loop m)
  unfolding loop
  repeats {m = m} h = record { from = λ c l w. turns_at (suc c) m h c l w }

  goes_on : {A B : Type 0} {f : A → Act B} → ((a : A) → Advancing ask (f a)) → (r : Result A) → Advancing ask (on_goes f r)
  unfolding on_goes
  goes_on h (Goes a) = h a
  goes_on h (Leaves y) = gives (Leaves y)

  pub one_turns : {m : Act Done} → Advancing ask m → Advancing ask (one_turn m)
  unfolding one_turn ticked done ◌>>◌
  one_turns h = spends (counts 1 (sequence h (goes_on (λ a. gives (Goes true)))))

  pub while_turns : {test : Act (List ℕ)} {m : Act Done} → Advancing ask test → Advancing ask m → Advancing ask (while test m)
  unfolding while done ◌>>=◌
  while_turns h x = sequence h (goes_on (λ v. choice _ (one_turns x) (gives (Goes false))))

  -- Members --------------------------------------------------------------------------------

  pub then_goes : {A B : Type 0} {m : Act A} {n : Act B} → Advancing ask m → Advancing ask n → Advancing ask (m >> n)
  unfolding ◌>>◌
  then_goes h x = sequence h (goes_on (λ a. x))

  object_finishes : (k : Tools) (cause : Cause) (m : Member) → Advancing ask (finalize_begun k cause m) → Advancing ask (finalize_object k cause m)
  unfolding finalize_object must_exist existing gone nothing
  object_finishes k cause m h = then_goes (then_goes (looks (λ w. found (object_at m.number w) (stopped _) (λ o. gives _))) (changes _)) h

  one_finishes : (t : Tables) (call : Call) (default : Default) (cause : Cause) → ((m : Member) → Advancing ask (finalize_begun (record { ask = ask; tables = t; call = call; default = default }) cause m)) → (f : Bool → Act Bool) → ((b : Bool) → Advancing ask (f b)) → (b : Bool) (ms : List Member) → Advancing ask (finalize_one (record { ask = ask; tables = t; call = call; default = default }) cause f b ms)
  unfolding finalize_one choose done ◌>>=◌
  one_finishes t call default cause h f x b [] = gives _
  one_finishes t call default cause h f x b (m ∷ ms) = sequence (counts _ (answers _)) (goes_on (λ i. sequence (object_finishes _ cause _ (h _)) (goes_on (λ d. x (b || d)))))

  pub members_at : (t : Tables) (call : Call) (default : Default) (cause : Cause) (g : Group) → ((m : Member) → Advancing ask (finalize_begun (record { ask = ask; tables = t; call = call; default = default }) cause m)) → (n : ℕ) (b : Bool) (c : ℕ) (l : Log) (w : World) → Advances ask c l (finalize_members (record { ask = ask; tables = t; call = call; default = default }) cause g n b c l w)
  unfolding finalize_members
  members_at t call default cause g h zero b c l w = record { falls = omega arith; grows = grows_same ask l }
  members_at t call default cause g h (suc n) b c l w = (one_finishes t call default cause h _ (λ d. record { from = members_at t call default cause g h n d }) b (candidates_of t g w)).from c l w

  pub finishes : (t : Tables) (call : Call) (default : Default) (cause : Cause) (g : Group) → ((m : Member) → Advancing ask (finalize_begun (record { ask = ask; tables = t; call = call; default = default }) cause m)) → Advancing ask (finalize_group (record { ask = ask; tables = t; call = call; default = default }) cause g)
  unfolding finalize_group
  finishes t call default cause g h = record { from = λ c l w. members_at t call default cause g h _ false c l w }

  pub closed : (t : Tables) → Closed t ask ask (λ A m n. Advancing {A = A} ask m)
  closed t = record {
    gives = gives;
    stops = stopped;
    joins = λ {A} {B} {m} {n} {f} {g} h x. sequence h x;
    counts = λ {A} i {m} {n} h. counts i h;
    spends = λ {A} {m} {n} h. spends h;
    looks = λ {A} {f} {g} h. looks h;
    changes = λ {f} e. changes f;
    shows = shows;
    answers = answers;
    finishes = λ call spare default fallback cause g h. finishes t call default cause g h;
    repeats = λ {m} {n} h. repeats (one_turns h);
    repeats_while = λ {test} {check} {m} {n} h x. repeats (while_turns h x);
  }

  -- Executions at any depth -------------------------------------------------------------

  pub completes : (i : ℕ) → Advancing ask (completed i)
  unfolding completed done
  completes i = then_goes (enlists i) (gives _)

  takes_one : (call : Call) (env : List ℕ) (access : ℕ) (ty : Ty) {m : Act (Option (List ℕ) × Option (List ℕ))} → ((h v : Option (List ℕ)) → Advancing ask (call (OfAllocator access ty h v) env)) → Advancing ask m → Advancing ask (spend (m >>= (λ p. call (OfAllocator access ty p.0 p.1) env)))
  unfolding ◌>>=◌
  takes_one call env access ty h x = spends (sequence x (goes_on (λ p. h p.0 p.1)))

  module _ (program : Checked) where
    abbrev Rel : (A : Type 0) → Act A → Act A → Type 0
    Rel = λ A m n. Advancing {A = A} ask m

    pub executes : (n : ℕ) (x : Execution) (env : List ℕ) → Advancing ask (execution ask (meaning_of program) n x env)
    unfolding execution execute ticked ◌>>=◌
    executes zero x env = record { from = λ c l w. record { falls = omega arith; grows = grows_same ask l } }
    executes (suc n) (OfSubprogram f ss) env =
        let call = execution ask (meaning_of program) n in
        record { from = λ c l w. (spends (counts 1 (good_run_number program ask ask call call Rel (closed (tables_of program)) (λ g xs e. executes n (OfSubprogram g xs) e) (λ e a ty m m1 h. takes_one call e a ty (λ x y. executes n (OfAllocator a ty x y) e) h) env ss f))).from c l w }
    executes (suc n) (OfAllocator a ty h v) env =
        let call = execution ask (meaning_of program) n in
        record { from = λ c l w. (sequence (good_allocate program ask ask call call Rel (closed (tables_of program)) (λ g xs e. executes n (OfSubprogram g xs) e) (λ e b uy m m1 i. takes_one call e b uy (λ x y. executes n (OfAllocator b uy x y) e) i) env a ty h v) (goes_on completes)).from c l w }

    pub calls : (n : ℕ) (f : ℕ) (ss : List Slot) (env : List ℕ) → Advancing ask (execution ask (meaning_of program) n (OfSubprogram f ss) env)
    calls n f ss env = executes n (OfSubprogram f ss) env

    pub allocates : (n : ℕ) (env : List ℕ) (access : ℕ) (ty : Ty) (m m1 : Act (Option (List ℕ) × Option (List ℕ))) → Advancing ask m → Advancing ask (spend (m >>= (λ p. execution ask (meaning_of program) n (OfAllocator access ty p.0 p.1) env)))
    allocates n env access ty m m1 h = takes_one (execution ask (meaning_of program) n) env access ty (λ x y. executes n (OfAllocator access ty x y) env) h

    -- a statement, and a whole run
    pub does : (n : ℕ) (s : Stmt) (env : List ℕ) (caught : ℕ) → Advancing ask (exec s (tools_with ask (meaning_of program) (execution ask (meaning_of program) n)) env caught)
    does n s env caught = good_exec program ask ask (execution ask (meaning_of program) n) (execution ask (meaning_of program) n) Rel (closed (tables_of program)) (calls n) (allocates n) s env caught

    pub runs : (clock : ℕ) → Advances ask clock empty_log (run program ask clock)
    unfolding run run_meaning tools
    runs clock =
        (good_run_number program ask ask (execution ask (meaning_of program) (suc clock)) (execution ask (meaning_of program) (suc clock)) Rel (closed (tables_of program)) (calls (suc clock)) (allocates (suc clock)) [] [] program.main).from clock empty_log empty_world
