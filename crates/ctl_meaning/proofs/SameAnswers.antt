-- Whoever answers the choices alike, gets the same run.
use Rattle.std.specs.Prelude.{◌≡◌, ℕ, zero, suc, ◌+◌, ◌<◌, List, [], ◌∷◌, ◌++◌, length, Option, Some, None, Bool, true, false, ◌||◌, if◌then◌else◌}
use Rattle.std.proofs.Common.{refl, ap, ◌∙◌, subst, arith}
use Rattle.std.proofs.lemmas.Bool.{lt-ltb}
use Rattle.ctl_program.specs.declared.types.Ty.{Ty}
use Rattle.ctl_program.specs.declared.program.Checked.{Checked}
use Rattle.ctl_tree.specs.declared.event.Event.{Event}
use Rattle.ctl_tree.specs.declared.ending.Stop.{Stop}
use Rattle.ctl_tree.specs.declared.event.Cause.{Cause}
use Rattle.ctl_meaning.specs.World.{Pick, Log, World, empty_log, empty_world, Object, Member}
use Rattle.ctl_meaning.specs.Changes.{object_at}
use Rattle.ctl_meaning.specs.Members.{Group, candidates_of, count_due}
use Rattle.ctl_meaning.specs.Choice.{Ask, AreAnswers, accepted, noted, picked}
use Rattle.ctl_meaning.specs.Outcome.{Result, Goes, Leaves, Out, Gives, Stops, Cut, Act, Done, add, bind, given, then_always, stop, counted, spend, look, change, show, after_pick, answered, choose, leave_by, nothing, done, ticked, on_goes, either, on_some, ◌>>=◌, ◌>>◌}
use Rattle.ctl_meaning.specs.Types.{Tables, tables_of}
use Rattle.ctl_meaning.specs.Names.{Execution, OfSubprogram, OfAllocator, Call, Default, Tools, existing, must_exist, gone}
use Rattle.ctl_meaning.specs.Finalization.{finalize_begun, finalize_object, finalize_one, finalize_members, finalize_group}
use Rattle.ctl_meaning.specs.Statements.{turned, turns, loop, one_turn, while}
use Rattle.ctl_meaning.specs.Run.{meaning_of, completed, execute, execution, tools, run_meaning, run}
use Rattle.ctl_meaning.specs.Advance.{Grows, log_of, Advancing}
use Rattle.ctl_meaning.specs.SameAnswers.{AnswersAlike}
use Rattle.ctl_meaning.proofs.Relation.{Closed}
use Rattle.ctl_meaning.proofs.Bodies.{good_run_number, good_allocate}
use Rattle.ctl_meaning.proofs.Advance as A

-- Picks ------------------------------------------------------------------------------

pub first_answers : (other : Ask) (i : ℕ) (ps qs : List Pick) → AreAnswers other i (ps ++ qs) → AreAnswers other i ps
first_answers other i [] qs h = tt
first_answers other i (p ∷ ps) qs h = (h.0, h.1, first_answers other (suc i) ps qs h.2)

pub last_answer : (other : Ask) (i : ℕ) (ps : List Pick) (q : Pick) → AreAnswers other i (ps ++ q ∷ []) → (other (i + length ps) q.width ≡ Some q.chosen) × (q.chosen < q.width)
last_answer other i [] q h = (subst (λ n. other n q.width ≡ Some q.chosen) (omega arith) h.0, h.1)
last_answer other i (p ∷ ps) q h = let x = last_answer other (suc i) ps q h.2 in (subst (λ n. other n q.width ≡ Some q.chosen) (omega arith) x.0, x.1)

module _ (ask other : Ask) where
  -- an act, and the same with other answers
  pub record Alike {A : Type 0} (m n : Act A) : Type 0 where
    pub from : (c : ℕ) (l : Log) (w : World) → AnswersAlike ask other (m c l w) → n c l w ≡ m c l w
    pub advances : Advancing ask m

  fits_taken : {A : Type 0} (o : Out A) → AnswersAlike ask other o → AreAnswers other 0 (log_of o).taken
  fits_taken (Gives r t c l w) h = h
  fits_taken (Stops s t l) h = h
  fits_taken (Cut t c l) h = h.0

  fits_added : {A : Type 0} (i : ℕ) (o : Out A) → AnswersAlike ask other (add i o) → AnswersAlike ask other o
  unfolding add
  fits_added i (Gives r t c l w) h = h
  fits_added i (Stops s t l) h = h
  fits_added i (Cut t c l) h = h

  -- the choices of a log that goes on are answers, so those of the log are
  fits_before : {A : Type 0} (l : Log) (o : Out A) → Grows ask l (log_of o) → AnswersAlike ask other o → AreAnswers other 0 l.taken
  fits_before l o g h = first_answers other 0 l.taken g.picks (subst (λ ps. AreAnswers other 0 ps) g.taken (fits_taken o h))

  bound : {A B : Type 0} (o p : Out A) (f g : Result A → Act B) → (AnswersAlike ask other o → p ≡ o) → ((r : Result A) → Alike (f r) (g r)) → AnswersAlike ask other (bind o f) → bind p g ≡ bind o f
  unfolding bind
  bound (Gives r t c l w) p f g h x y =
      let z = fits_added t (f r c l w) y in
      ap (λ q. bind q g) (h (fits_before l (f r c l w) ((x r).advances.from c l w).grows z)) ∙ ap (add t) ((x r).from c l w z)
  bound (Stops s t l) p f g h x y = ap (λ q. bind q g) (h y)
  bound (Cut t c l) p f g h x y = ap (λ q. bind q g) (h y)

  gives : {A : Type 0} (r : Result A) → Alike (given r) (given r)
  gives r = record { from = λ c l w h. refl; advances = A.gives ask r }

  stopped : {A : Type 0} (s : Stop) → Alike (stop {A = A} s) (stop s)
  stopped s = record { from = λ c l w h. refl; advances = A.stopped ask s }

  sequence : {A B : Type 0} {m n : Act A} {f g : Result A → Act B} → Alike m n → ((r : Result A) → Alike (f r) (g r)) → Alike (then_always m f) (then_always n g)
  unfolding then_always
  sequence {m = m} {n = n} {f = f} {g = g} h x =
      record { from = λ c l w. bound (m c l w) (n c l w) f g (h.from c l w) x; advances = A.sequence ask h.advances (λ r. (x r).advances) }

  counts : {A : Type 0} (i : ℕ) {m n : Act A} → Alike m n → Alike (counted i m) (counted i n)
  unfolding counted
  counts i {m = m} {n = n} h = record { from = λ c l w x. ap (add i) (h.from c l w (fits_added i (m c l w) x)); advances = A.counts ask i h.advances }

  spends_at : {A : Type 0} (m n : Act A) → Alike m n → (c : ℕ) (l : Log) (w : World) → AnswersAlike ask other (spend m c l w) → spend n c l w ≡ spend m c l w
  unfolding spend
  spends_at m n h zero l w x = refl
  spends_at m n h (suc c) l w x = h.from c l w x

  spends : {A : Type 0} {m n : Act A} → Alike m n → Alike (spend m) (spend n)
  spends {m = m} {n = n} h = record { from = spends_at m n h; advances = A.spends ask h.advances }

  looks : {A : Type 0} {f g : World → Act A} → ((w : World) → Alike (f w) (g w)) → Alike (look f) (look g)
  unfolding look
  looks h = record { from = λ c l w. (h w).from c l w; advances = A.looks ask (λ w. (h w).advances) }

  changes : (f : World → World) → Alike (change f) (change f)
  changes f = record { from = λ c l w h. refl; advances = A.changes ask f }

  shows : (e : Event) → Alike (show e) (show e)
  shows e = record { from = λ c l w h. refl; advances = A.shows ask e }

  -- Choices -------------------------------------------------------------------------------

  accepts : (m p : ℕ) (o : Option ℕ) → p < m → o ≡ Some p → accepted m o ≡ Some p
  unfolding accepted
  accepts m p o h e = ap (accepted m) e ∙ ap (λ b. if b then Some p else None) (lt-ltb p m h)

  noted_at : (m c : ℕ) (l : Log) (w : World) (o : Option ℕ) → accepted m (ask (length l.taken) m) ≡ o → AnswersAlike ask other (after_pick (noted m o l) c l w) → accepted m (other (length l.taken) m) ≡ o
  unfolding noted after_pick
  noted_at m c l w None e x = x.1.at_end m e
  noted_at m c l w (Some p) e x = let y = last_answer other 0 l.taken (record { width = m; chosen = p }) x in accepts m p (other (length l.taken) m) y.1 (subst (λ n. other n m ≡ Some p) (omega arith) y.0)

  picked_at : (m c : ℕ) (l : Log) (w : World) → AnswersAlike ask other (after_pick (picked ask m l) c l w) → after_pick (picked other m l) c l w ≡ after_pick (picked ask m l) c l w
  unfolding picked
  picked_at zero c l w x = refl
  picked_at (suc zero) c l w x = refl
  picked_at (suc (suc m)) c l w x = ap (λ o. after_pick (noted (suc (suc m)) o l) c l w) (noted_at (suc (suc m)) c l w (accepted (suc (suc m)) (ask (length l.taken) (suc (suc m)))) refl x)

  answers : (m : ℕ) → Alike (answered ask m) (answered other m)
  unfolding answered
  answers m = record { from = picked_at m; advances = A.answers ask m }

  -- Joining, and loops ------------------------------------------------------------------------

  choice : {A : Type 0} (b : Bool) {m n p q : Act A} → Alike m n → Alike p q → Alike (either b m p) (either b n q)
  unfolding either
  choice true h x = h
  choice false h x = x

  goes_on : {A B : Type 0} {f g : A → Act B} → ((a : A) → Alike (f a) (g a)) → (r : Result A) → Alike (on_goes f r) (on_goes g r)
  unfolding on_goes
  goes_on h (Goes a) = h a
  goes_on h (Leaves y) = gives (Leaves y)

  turns_on : {m n : Act Done} → Alike m n → (r : Result Bool) → Alike (turned m r) (turned n r)
  unfolding turned leave_by nothing
  turns_on h (Goes true) = h
  turns_on h (Goes false) = gives _
  turns_on h (Leaves y) = gives _

  turns_at : (i : ℕ) (m n : Act Bool) → Alike m n → (c : ℕ) (l : Log) (w : World) → AnswersAlike ask other (turns i m c l w) → turns i n c l w ≡ turns i m c l w
  unfolding turns
  turns_at zero m n h c l w x = refl
  turns_at (suc i) m n h c l w x =
      (sequence {f = turned (turns i m)} {g = turned (turns i n)} h (λ r. turns_on (record { from = turns_at i m n h; advances = record { from = A.turns_at ask i m h.advances } }) r)).from c l w x

  repeats : {m n : Act Bool} → Alike m n → Alike (loop m) (loop n)
  unfolding loop
  repeats {m = m} {n = n} h = record { from = λ c l w. turns_at (suc c) m n h c l w; advances = A.repeats ask h.advances }

  one_turns : {m n : Act Done} → Alike m n → Alike (one_turn m) (one_turn n)
  unfolding one_turn ticked done ◌>>◌
  one_turns h = spends (counts 1 (sequence h (goes_on (λ a. gives (Goes true)))))

  while_turns : {test check : Act (List ℕ)} {m n : Act Done} → Alike test check → Alike m n → Alike (while test m) (while check n)
  unfolding while done ◌>>=◌
  while_turns h x = sequence h (goes_on (λ v. choice _ (one_turns x) (gives (Goes false))))

  -- Members --------------------------------------------------------------------------------

  then_goes : {A B : Type 0} {m n : Act A} {p q : Act B} → Alike m n → Alike p q → Alike (m >> p) (n >> q)
  unfolding ◌>>◌
  then_goes h x = sequence h (goes_on (λ a. x))

  found : {A : Type 0} (o : Option Object) {m n : Act A} {f g : Object → Act A} → Alike m n → ((x : Object) → Alike (f x) (g x)) → Alike (on_some o m f) (on_some o n g)
  unfolding on_some
  found None h x = h
  found (Some o) h x = x o

  object_finishes : (k j : Tools) (cause : Cause) (m : Member) → Alike (finalize_begun k cause m) (finalize_begun j cause m) → Alike (finalize_object k cause m) (finalize_object j cause m)
  unfolding finalize_object must_exist existing gone nothing
  object_finishes k j cause m h = then_goes (then_goes (looks (λ w. found (object_at m.number w) (stopped _) (λ o. gives _))) (changes _)) h

  one_finishes : (t : Tables) (call spare : Call) (default fallback : Default) (cause : Cause) → ((m : Member) → Alike (finalize_begun (record { ask = ask; tables = t; call = call; default = default }) cause m) (finalize_begun (record { ask = other; tables = t; call = spare; default = fallback }) cause m)) → (f g : Bool → Act Bool) → ((b : Bool) → Alike (f b) (g b)) → (b : Bool) (ms : List Member) → Alike (finalize_one (record { ask = ask; tables = t; call = call; default = default }) cause f b ms) (finalize_one (record { ask = other; tables = t; call = spare; default = fallback }) cause g b ms)
  unfolding finalize_one choose done ◌>>=◌
  one_finishes t call spare default fallback cause h f g x b [] = gives _
  one_finishes t call spare default fallback cause h f g x b (m ∷ ms) = sequence (counts _ (answers _)) (goes_on (λ i. sequence (object_finishes _ _ cause _ (h _)) (goes_on (λ d. x (b || d)))))

  members_at : (t : Tables) (call spare : Call) (default fallback : Default) (cause : Cause) (g : Group) → ((m : Member) → Alike (finalize_begun (record { ask = ask; tables = t; call = call; default = default }) cause m) (finalize_begun (record { ask = other; tables = t; call = spare; default = fallback }) cause m)) → (i : ℕ) (b : Bool) (c : ℕ) (l : Log) (w : World) → AnswersAlike ask other (finalize_members (record { ask = ask; tables = t; call = call; default = default }) cause g i b c l w) → finalize_members (record { ask = other; tables = t; call = spare; default = fallback }) cause g i b c l w ≡ finalize_members (record { ask = ask; tables = t; call = call; default = default }) cause g i b c l w
  unfolding finalize_members
  members_at t call spare default fallback cause g h zero b c l w x = refl
  members_at t call spare default fallback cause g h (suc i) b c l w x =
      (one_finishes t call spare default fallback cause h _ _ (λ d. record { from = members_at t call spare default fallback cause g h i d; advances = record { from = A.members_at ask t call default cause g (λ m. (h m).advances) i d } }) b (candidates_of t g w)).from c l w x

  finishes : (t : Tables) (call spare : Call) (default fallback : Default) (cause : Cause) (g : Group) → ((m : Member) → Alike (finalize_begun (record { ask = ask; tables = t; call = call; default = default }) cause m) (finalize_begun (record { ask = other; tables = t; call = spare; default = fallback }) cause m)) → Alike (finalize_group (record { ask = ask; tables = t; call = call; default = default }) cause g) (finalize_group (record { ask = other; tables = t; call = spare; default = fallback }) cause g)
  unfolding finalize_group
  finishes t call spare default fallback cause g h = record {
    from = λ c l w. members_at t call spare default fallback cause g h (suc (c + count_due t w)) false c l w;
    advances = record { from = λ c l w. A.members_at ask t call default cause g (λ m. (h m).advances) _ false c l w };
  }

  completes : (i : ℕ) → Alike (completed i) (completed i)
  completes i = record { from = λ c l w h. refl; advances = A.completes ask i }

  closed : (t : Tables) → Closed t ask other (λ A m n. Alike {A = A} m n)
  closed t = record {
    gives = gives;
    stops = stopped;
    joins = λ {A} {B} {m} {n} {f} {g} h x. sequence h x;
    counts = λ {A} i {m} {n} h. counts i h;
    spends = λ {A} {m} {n} h. spends h;
    looks = λ {A} {f} {g} h. looks h;
    changes = λ {f} e. changes f;
    shows = shows;
    answers = answers;
    finishes = λ call spare default fallback cause g h. finishes t call spare default fallback cause g h;
    repeats = λ {m} {n} h. repeats (one_turns h);
    repeats_while = λ {test} {check} {m} {n} h x. repeats (while_turns h x);
  }

  takes_one : (call spare : Call) (env : List ℕ) (access : ℕ) (ty : Ty) {m n : Act (Option (List ℕ) × Option (List ℕ))} → ((h v : Option (List ℕ)) → Alike (call (OfAllocator access ty h v) env) (spare (OfAllocator access ty h v) env)) → Alike m n → Alike (spend (m >>= (λ p. call (OfAllocator access ty p.0 p.1) env))) (spend (n >>= (λ p. spare (OfAllocator access ty p.0 p.1) env)))
  unfolding ◌>>=◌
  takes_one call spare env access ty h x = spends (sequence x (goes_on (λ p. h p.0 p.1)))

  module _ (program : Checked) where
    abbrev Rel : (A : Type 0) → Act A → Act A → Type 0
    Rel = λ A m n. Alike {A = A} m n

    abbrev deep : ℕ → Call
    deep n = execution ask (meaning_of program) n

    abbrev deep_too : ℕ → Call
    deep_too n = execution other (meaning_of program) n

    executes : (n : ℕ) (x : Execution) (env : List ℕ) → Alike (deep n x env) (deep_too n x env)
    unfolding execution execute ticked ◌>>=◌
    executes zero x env = record { from = λ c l w h. refl; advances = A.executes ask program zero x env }
    executes (suc n) (OfSubprogram f ss) env =
        let h = spends (counts 1 (good_run_number program ask other (deep n) (deep_too n) Rel (closed (tables_of program)) (λ g xs e. executes n (OfSubprogram g xs) e) (λ e a ty m m1 i. takes_one (deep n) (deep_too n) e a ty (λ x y. executes n (OfAllocator a ty x y) e) i) env ss f)) in
        record { from = λ c l w. h.from c l w; advances = A.executes ask program (suc n) (OfSubprogram f ss) env }
    executes (suc n) (OfAllocator a ty x v) env =
        let h = sequence (good_allocate program ask other (deep n) (deep_too n) Rel (closed (tables_of program)) (λ g xs e. executes n (OfSubprogram g xs) e) (λ e b uy m m1 i. takes_one (deep n) (deep_too n) e b uy (λ x y. executes n (OfAllocator b uy x y) e) i) env a ty x v) (goes_on completes) in
        record { from = λ c l w. h.from c l w; advances = A.executes ask program (suc n) (OfAllocator a ty x v) env }

    -- a whole run
    pub runs : (clock : ℕ) → AnswersAlike ask other (run program ask clock) → run program other clock ≡ run program ask clock
    unfolding run run_meaning tools
    runs clock h =
        (good_run_number program ask other (deep (suc clock)) (deep_too (suc clock)) Rel (closed (tables_of program)) (λ g xs e. executes (suc clock) (OfSubprogram g xs) e) (λ e a ty m m1 i. takes_one (deep (suc clock)) (deep_too (suc clock)) e a ty (λ x y. executes (suc clock) (OfAllocator a ty x y) e) i) [] [] program.main).from clock empty_log empty_world h
