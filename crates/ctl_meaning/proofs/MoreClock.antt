-- More clock changes no run that ended, and continues one that was cut.
use Rattle.std.specs.Prelude.{◌≡◌, ℕ, zero, suc, ◌+◌, ◌≤◌, List, [], ◌∷◌, Option, Some, None, Bool, true, false, ◌||◌}
use Rattle.std.proofs.Common.{refl, sym, ap, subst, arith}
use Rattle.ctl_program.specs.declared.types.Ty.{Ty}
use Rattle.ctl_program.specs.declared.program.Checked.{Checked}
use Rattle.ctl_tree.specs.declared.event.Event.{Event}
use Rattle.ctl_tree.specs.declared.ending.Stop.{Stop}
use Rattle.ctl_tree.specs.declared.event.Cause.{Cause}
use Rattle.ctl_meaning.specs.World.{Log, World, empty_log, empty_world, Object, Collection, Member}
use Rattle.ctl_meaning.specs.Changes.{object_at}
use Rattle.ctl_meaning.specs.Members.{Group, candidates_of, count_due}
use Rattle.ctl_meaning.specs.Choice.{Ask, picked}
use Rattle.ctl_meaning.specs.Outcome.{Result, Goes, Leaves, Out, Gives, Stops, Cut, Act, Done, add, bind, given, then_always, stop, counted, spend, look, change, show, after_pick, answered, choose, leave_by, nothing, done, ticked, on_goes, either, on_some, ◌>>=◌, ◌>>◌}
use Rattle.ctl_meaning.specs.Types.{Tables, tables_of}
use Rattle.ctl_meaning.specs.Names.{Execution, OfSubprogram, OfAllocator, Call, Default, Tools, existing, must_exist, gone}
use Rattle.ctl_meaning.specs.Finalization.{finalize_begun, finalize_object, finalize_one, finalize_members, finalize_group}
use Rattle.ctl_meaning.specs.Allocation.{is_new, set_of, join_collection}
use Rattle.ctl_meaning.specs.Statements.{turned, turns, loop, one_turn, while}
use Rattle.ctl_meaning.specs.Run.{meaning_of, completed, execute, execution, tools, run_meaning, run}
use Rattle.ctl_meaning.specs.Advance.{Grows, log_of, Advancing}
use Rattle.ctl_meaning.specs.Continues.{Continues}
use Rattle.ctl_meaning.proofs.Relation.{Closed}
use Rattle.ctl_meaning.proofs.Bodies.{good_run_number, good_allocate}
use Rattle.ctl_meaning.proofs.Advance as A
use Rattle.ctl_meaning.proofs.Advance.{grows_same, grows_more}

module _ (ask : Ask) (more : ℕ) where
  -- an act and one that has more clock
  pub record Longer {A : Type 0} (m n : Act A) : Type 0 where
    pub from : (c : ℕ) (l : Log) (w : World) → Continues ask more (m c l w) (n (c + more) l w)
    pub advances : Advancing ask n

  log_added : {A : Type 0} (i : ℕ) (o : Out A) → log_of (add i o) ≡ log_of o
  unfolding add
  log_added i (Gives r t c l w) = refl
  log_added i (Stops s t l) = refl
  log_added i (Cut t c l) = refl

  adds : {A : Type 0} (i : ℕ) (o p : Out A) → Continues ask more o p → Continues ask more (add i o) (add i p)
  unfolding add
  adds i (Gives r t c l w) p h = ap (add i) h
  adds i (Stops s t l) p h = ap (add i) h
  adds i (Cut t c l) p h = subst (λ x. Grows ask l x) (sym (log_added i p)) h

  grows_on : {A B : Type 0} (l : Log) (p : Out A) (g : Result A → Act B) → ((r : Result A) → Advancing ask (g r)) → Grows ask l (log_of p) → Grows ask l (log_of (bind p g))
  unfolding bind
  grows_on l (Gives r t c l1 w) g x h = subst (λ y. Grows ask l y) (sym (log_added t (g r c l1 w))) (grows_more ask l l1 (log_of (g r c l1 w)) h ((x r).from c l1 w).grows)
  grows_on l (Stops s t l1) g x h = h
  grows_on l (Cut t c l1) g x h = h

  bound : {A B : Type 0} (o p : Out A) (f g : Result A → Act B) → Continues ask more o p → ((r : Result A) → Longer (f r) (g r)) → Continues ask more (bind o f) (bind p g)
  unfolding bind
  bound (Gives r t c l w) p f g h x =
      subst (λ q. Continues ask more (add t (f r c l w)) (bind q g)) (sym h) (adds t (f r c l w) (g r (c + more) l w) ((x r).from c l w))
  bound (Stops s t l) p f g h x = ap (λ q. bind q g) h
  bound (Cut t c l) p f g h x = grows_on l p g (λ r. (x r).advances) h

  gives : {A : Type 0} (r : Result A) → Longer (given r) (given r)
  unfolding given
  gives r = record { from = λ c l w. refl; advances = A.gives ask r }

  stopped : {A : Type 0} (s : Stop) → Longer (stop {A = A} s) (stop s)
  unfolding stop
  stopped s = record { from = λ c l w. refl; advances = A.stopped ask s }

  sequence : {A B : Type 0} {m n : Act A} {f g : Result A → Act B} → Longer m n → ((r : Result A) → Longer (f r) (g r)) → Longer (then_always m f) (then_always n g)
  unfolding then_always
  sequence {m = m} {n = n} {f = f} {g = g} h x =
      record { from = λ c l w. bound (m c l w) (n (c + more) l w) f g (h.from c l w) x; advances = A.sequence ask h.advances (λ r. (x r).advances) }

  counts : {A : Type 0} (i : ℕ) {m n : Act A} → Longer m n → Longer (counted i m) (counted i n)
  unfolding counted
  counts i {m = m} {n = n} h = record { from = λ c l w. adds i (m c l w) (n (c + more) l w) (h.from c l w); advances = A.counts ask i h.advances }

  one_less : {A : Type 0} (n : Act A) (c d : ℕ) (l : Log) (w : World) → d ≡ suc c → spend n d l w ≡ n c l w
  unfolding spend
  one_less n c d l w e = subst (λ i. spend n i l w ≡ n c l w) (sym e) refl

  spends_at : {A : Type 0} (m n : Act A) → Longer m n → (c : ℕ) (l : Log) (w : World) → Continues ask more (spend m c l w) (spend n (c + more) l w)
  unfolding spend
  spends_at m n h zero l w = ((A.spends ask h.advances).from (zero + more) l w).grows
  spends_at m n h (suc c) l w = subst (λ o. Continues ask more (m c l w) o) (sym (one_less n (c + more) (suc c + more) l w (omega arith))) (h.from c l w)

  spends : {A : Type 0} {m n : Act A} → Longer m n → Longer (spend m) (spend n)
  spends {m = m} {n = n} h = record { from = spends_at m n h; advances = A.spends ask h.advances }

  looks : {A : Type 0} {f g : World → Act A} → ((w : World) → Longer (f w) (g w)) → Longer (look f) (look g)
  unfolding look
  looks h = record { from = λ c l w. (h w).from c l w; advances = A.looks ask (λ w. (h w).advances) }

  changes : (f : World → World) → Longer (change f) (change f)
  unfolding change
  changes f = record { from = λ c l w. refl; advances = A.changes ask f }

  shows : (e : Event) → Longer (show e) (show e)
  unfolding show
  shows e = record { from = λ c l w. refl; advances = A.shows ask e }

  picked_at : (c : ℕ) (l : Log) (w : World) (o : Option (ℕ × Log)) → Continues ask more (after_pick o c l w) (after_pick o (c + more) l w)
  unfolding after_pick
  picked_at c l w None = grows_same ask l
  picked_at c l w (Some p) = refl

  answers : (m : ℕ) → Longer (answered ask m) (answered ask m)
  unfolding answered
  answers m = record { from = λ c l w. picked_at c l w (picked ask m l); advances = A.answers ask m }

  choice : {A : Type 0} (b : Bool) {m n p q : Act A} → Longer m n → Longer p q → Longer (either b m p) (either b n q)
  unfolding either
  choice true h x = h
  choice false h x = x

  found : {A : Type 0} (o : Option Object) {m n : Act A} {f g : Object → Act A} → Longer m n → ((x : Object) → Longer (f x) (g x)) → Longer (on_some o m f) (on_some o n g)
  unfolding on_some
  found None h x = h
  found (Some o) h x = x o

  found_set : (o : Option Collection) {m n : Act Done} {f g : Collection → Act Done} → Longer m n → ((x : Collection) → Longer (f x) (g x)) → Longer (on_some o m f) (on_some o n g)
  unfolding on_some
  found_set None h x = h
  found_set (Some o) h x = x o

  enlists : (n : ℕ) → Longer (join_collection n) (join_collection n)
  unfolding join_collection existing gone
  enlists n = looks (λ w. found (object_at n w) (stopped _) (λ o. looks (λ w1. found_set (set_of o.origin w1) (stopped _) (λ c. choice (is_new o) (changes _) (stopped _)))))

  goes_on : {A B : Type 0} {f g : A → Act B} → ((a : A) → Longer (f a) (g a)) → (r : Result A) → Longer (on_goes f r) (on_goes g r)
  unfolding on_goes
  goes_on h (Goes a) = h a
  goes_on h (Leaves y) = gives (Leaves y)

  -- Loops ------------------------------------------------------------------------------

  turns_on : {m n : Act Done} → Longer m n → (r : Result Bool) → Longer (turned m r) (turned n r)
  unfolding turned leave_by nothing
  turns_on h (Goes true) = h
  turns_on h (Goes false) = gives _
  turns_on h (Leaves y) = gives _

  turns_at : (i k : ℕ) (m n : Act Bool) → Longer m n → i ≤ k → (c : ℕ) (l : Log) (w : World) → Continues ask more (turns i m c l w) (turns k n (c + more) l w)
  unfolding turns
  turns_at zero k m n h e c l w = (A.turns_at ask k n h.advances (c + more) l w).grows
  turns_at (suc i) zero m n h e c l w = absurd (omega arith)
  turns_at (suc i) (suc k) m n h e c l w =
      (sequence {f = turned (turns i m)} {g = turned (turns k n)} h (λ r. turns_on (record { from = turns_at i k m n h (omega arith); advances = record { from = A.turns_at ask k n h.advances } }) r)).from c l w

  repeats : {m n : Act Bool} → Longer m n → Longer (loop m) (loop n)
  unfolding loop
  repeats {m = m} {n = n} h = record { from = λ c l w. turns_at (suc c) (suc (c + more)) m n h (omega arith) c l w; advances = A.repeats ask h.advances }

  one_turns : {m n : Act Done} → Longer m n → Longer (one_turn m) (one_turn n)
  unfolding one_turn ticked done ◌>>◌
  one_turns h = spends (counts 1 (sequence h (goes_on (λ a. gives (Goes true)))))

  while_turns : {test check : Act (List ℕ)} {m n : Act Done} → Longer test check → Longer m n → Longer (while test m) (while check n)
  unfolding while done ◌>>=◌
  while_turns h x = sequence h (goes_on (λ v. choice _ (one_turns x) (gives (Goes false))))

  -- Members --------------------------------------------------------------------------------

  then_goes : {A B : Type 0} {m n : Act A} {p q : Act B} → Longer m n → Longer p q → Longer (m >> p) (n >> q)
  unfolding ◌>>◌
  then_goes h x = sequence h (goes_on (λ a. x))

  object_finishes : (k j : Tools) (cause : Cause) (m : Member) → Longer (finalize_begun k cause m) (finalize_begun j cause m) → Longer (finalize_object k cause m) (finalize_object j cause m)
  unfolding finalize_object must_exist existing gone nothing
  object_finishes k j cause m h = then_goes (then_goes (looks (λ w. found (object_at m.number w) (stopped _) (λ o. gives _))) (changes _)) h

  one_finishes : (t : Tables) (call spare : Call) (default fallback : Default) (cause : Cause) → ((m : Member) → Longer (finalize_begun (record { ask = ask; tables = t; call = call; default = default }) cause m) (finalize_begun (record { ask = ask; tables = t; call = spare; default = fallback }) cause m)) → (f g : Bool → Act Bool) → ((b : Bool) → Longer (f b) (g b)) → (b : Bool) (ms : List Member) → Longer (finalize_one (record { ask = ask; tables = t; call = call; default = default }) cause f b ms) (finalize_one (record { ask = ask; tables = t; call = spare; default = fallback }) cause g b ms)
  unfolding finalize_one choose done ◌>>=◌
  one_finishes t call spare default fallback cause h f g x b [] = gives _
  one_finishes t call spare default fallback cause h f g x b (m ∷ ms) = sequence (counts _ (answers _)) (goes_on (λ i. sequence (object_finishes _ _ cause _ (h _)) (goes_on (λ d. x (b || d)))))

  members_at : (t : Tables) (call spare : Call) (default fallback : Default) (cause : Cause) (g : Group) → ((m : Member) → Longer (finalize_begun (record { ask = ask; tables = t; call = call; default = default }) cause m) (finalize_begun (record { ask = ask; tables = t; call = spare; default = fallback }) cause m)) → (i k : ℕ) → i ≤ k → (b : Bool) (c : ℕ) (l : Log) (w : World) → Continues ask more (finalize_members (record { ask = ask; tables = t; call = call; default = default }) cause g i b c l w) (finalize_members (record { ask = ask; tables = t; call = spare; default = fallback }) cause g k b (c + more) l w)
  unfolding finalize_members
  members_at t call spare default fallback cause g h zero k e b c l w = (A.members_at ask t spare fallback cause g (λ m. (h m).advances) k b (c + more) l w).grows
  members_at t call spare default fallback cause g h (suc i) zero e b c l w = absurd (omega arith)
  members_at t call spare default fallback cause g h (suc i) (suc k) e b c l w =
      (one_finishes t call spare default fallback cause h _ _ (λ d. record { from = members_at t call spare default fallback cause g h i k (omega arith) d; advances = record { from = A.members_at ask t spare fallback cause g (λ m. (h m).advances) k d } }) b (candidates_of t g w)).from c l w

  finishes : (t : Tables) (call spare : Call) (default fallback : Default) (cause : Cause) (g : Group) → ((m : Member) → Longer (finalize_begun (record { ask = ask; tables = t; call = call; default = default }) cause m) (finalize_begun (record { ask = ask; tables = t; call = spare; default = fallback }) cause m)) → Longer (finalize_group (record { ask = ask; tables = t; call = call; default = default }) cause g) (finalize_group (record { ask = ask; tables = t; call = spare; default = fallback }) cause g)
  unfolding finalize_group
  finishes t call spare default fallback cause g h = record {
    from = λ c l w. members_at t call spare default fallback cause g h (suc (c + count_due t w)) (suc (c + more + count_due t w)) (omega arith) false c l w;
    advances = record { from = λ c l w. A.members_at ask t spare fallback cause g (λ m. (h m).advances) _ false c l w };
  }

  completes : (i : ℕ) → Longer (completed i) (completed i)
  unfolding completed done
  completes i = then_goes (enlists i) (gives _)

  closed : (t : Tables) → Closed t ask ask (λ A m n. Longer {A = A} m n)
  closed t = record {
    gives = gives;
    stops = stopped;
    joins = λ {A} {B} {m} {n} {f} {g} h x. sequence h x;
    counts = λ {A} i {m} {n} h. counts i h;
    spends = λ {A} {m} {n} h. spends h;
    looks = λ {A} {f} {g} h. looks h;
    changes = λ {f} e. changes f;
    shows = shows;
    answers = answers;
    finishes = λ call spare default fallback cause g h. finishes t call spare default fallback cause g h;
    repeats = λ {m} {n} h. repeats (one_turns h);
    repeats_while = λ {test} {check} {m} {n} h x. repeats (while_turns h x);
  }

  -- Executions: as deep, or deeper --------------------------------------------------------

  takes_one : (call spare : Call) (env : List ℕ) (access : ℕ) (ty : Ty) {m n : Act (Option (List ℕ) × Option (List ℕ))} → ((h v : Option (List ℕ)) → Longer (call (OfAllocator access ty h v) env) (spare (OfAllocator access ty h v) env)) → Longer m n → Longer (spend (m >>= (λ p. call (OfAllocator access ty p.0 p.1) env))) (spend (n >>= (λ p. spare (OfAllocator access ty p.0 p.1) env)))
  unfolding ◌>>=◌
  takes_one call spare env access ty h x = spends (sequence x (goes_on (λ p. h p.0 p.1)))

  module _ (program : Checked) where
    abbrev Rel : (A : Type 0) → Act A → Act A → Type 0
    Rel = λ A m n. Longer {A = A} m n

    abbrev deep : ℕ → Call
    deep n = execution ask (meaning_of program) n

    executes : (i k : ℕ) → i ≤ k → (x : Execution) (env : List ℕ) → Longer (deep i x env) (deep k x env)
    unfolding execution execute ticked ◌>>=◌
    executes zero k e x env = record { from = λ c l w. ((A.executes ask program k x env).from (c + more) l w).grows; advances = A.executes ask program k x env }
    executes (suc i) zero e x env = absurd (omega arith)
    executes (suc i) (suc k) e (OfSubprogram f ss) env =
        let h = spends (counts 1 (good_run_number program ask ask (deep i) (deep k) Rel (closed (tables_of program)) (λ g xs d. executes i k (omega arith) (OfSubprogram g xs) d) (λ d a ty m m1 j. takes_one (deep i) (deep k) d a ty (λ x y. executes i k (omega arith) (OfAllocator a ty x y) d) j) env ss f)) in
        record { from = λ c l w. h.from c l w; advances = record { from = λ c l w. h.advances.from c l w } }
    executes (suc i) (suc k) e (OfAllocator a ty x v) env =
        let h = sequence (good_allocate program ask ask (deep i) (deep k) Rel (closed (tables_of program)) (λ g xs d. executes i k (omega arith) (OfSubprogram g xs) d) (λ d b uy m m1 j. takes_one (deep i) (deep k) d b uy (λ x y. executes i k (omega arith) (OfAllocator b uy x y) d) j) env a ty x v) (goes_on completes) in
        record { from = λ c l w. h.from c l w; advances = record { from = λ c l w. h.advances.from c l w } }

    -- a whole run
    pub runs : (clock : ℕ) → Continues ask more (run program ask clock) (run program ask (clock + more))
    unfolding run run_meaning tools
    runs clock =
        (good_run_number program ask ask (deep (suc clock)) (deep (suc (clock + more))) Rel (closed (tables_of program)) (λ g xs d. executes (suc clock) (suc (clock + more)) (omega arith) (OfSubprogram g xs) d) (λ d a ty m m1 j. takes_one (deep (suc clock)) (deep (suc (clock + more))) d a ty (λ x y. executes (suc clock) (suc (clock + more)) (omega arith) (OfAllocator a ty x y) d) j) [] [] program.main).from clock empty_log empty_world
