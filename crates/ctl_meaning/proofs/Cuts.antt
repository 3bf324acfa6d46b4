-- No fuel runs out: an act is cut only where the clock is 0 or a choice has no answer.
use Rattle.std.specs.Prelude.{◌≡◌, ℕ, zero, suc, ◌+◌, ◌<◌, ◌≤◌, List, [], ◌∷◌, length, Option, Some, None, Bool, true, false, ◌||◌}
use Rattle.std.proofs.Common.{refl, subst, arith, inl, inr}
use Rattle.ctl_program.specs.declared.types.Ty.{Ty}
use Rattle.ctl_program.specs.declared.program.Checked.{Checked}
use Rattle.ctl_tree.specs.declared.event.Event.{Event}
use Rattle.ctl_tree.specs.declared.ending.Stop.{Stop}
use Rattle.ctl_tree.specs.declared.event.Cause.{Cause}
use Rattle.ctl_meaning.specs.World.{Slot, Log, World, empty_log, empty_world, Object, Collection, Member}
use Rattle.ctl_meaning.specs.Lists.{any_of, pull_item}
use Rattle.ctl_meaning.specs.Changes.{object_at, begin_finalization, join}
use Rattle.ctl_meaning.specs.Members.{Group, candidates_of, count_due}
use Rattle.ctl_meaning.specs.Choice.{Ask, accepted, noted, picked}
use Rattle.ctl_meaning.specs.Outcome.{Result, Goes, Leaves, Out, Gives, Stops, Cut, Act, Done, add, bind, given, then_always, stop, counted, spend, look, change, show, after_pick, answered, choose, leave_by, nothing, done, ticked, on_goes, either, on_some, ◌>>=◌, ◌>>◌}
use Rattle.ctl_meaning.specs.Types.{Tables, tables_of}
use Rattle.ctl_meaning.specs.Names.{Execution, OfSubprogram, OfAllocator, Call, Default, Returned, Tools, existing, must_exist, gone}
use Rattle.ctl_meaning.specs.Finalization.{finalize_begun, finalize_object, finalize_one, finalize_members, finalize_group}
use Rattle.ctl_meaning.specs.Allocation.{allocate, is_new, set_of, join_collection}
use Rattle.ctl_meaning.specs.Statements.{turned, turns, loop, one_turn, while}
use Rattle.ctl_meaning.specs.Run.{meaning_of, completed, execute, execution, tools_with, tools, run_number, run_meaning, run}
use Rattle.ctl_meaning.specs.Advance.{IsAtMost}
use Rattle.ctl_meaning.specs.Cuts.{CutForCause}
use Rattle.ctl_meaning.proofs.Due.{count, named, due_as, edits_count, begins_count, joins_count, group_members, pulled_among}
use Rattle.ctl_meaning.proofs.Relation.{Edit, Closed}
use Rattle.ctl_meaning.proofs.Induction.{k_finalize_begun}
use Rattle.ctl_meaning.proofs.Bodies.{good_run_number, good_allocate}

module _ (tables : Tables) (ask : Ask) where
  -- the clock and the candidates that are left are at most so many together
  abbrev pub HasAtMost : {A : Type 0} → ℕ → Out A → Type 0
  HasAtMost n (Gives r t c l w) = c + count tables w ≤ n
  HasAtMost n (Stops s t l) = Unit {0}
  HasAtMost n (Cut t c l) = Unit {0}

  -- an outcome: the clock does not rise, clock and candidates together do not either, and a cut has its cause
  pub record Sound {A : Type 0} (c n : ℕ) (o : Out A) : Type 0 where
    pub falls : IsAtMost c o
    pub shrinks : HasAtMost n o
    pub cause : CutForCause ask o

  -- from each clock up to a bound
  pub record UpTo (bound : ℕ) {A : Type 0} (m : Act A) : Type 0 where
    pub from : (c : ℕ) (l : Log) (w : World) → c ≤ bound → Sound c (c + count tables w) (m c l w)

  adds : {A : Type 0} (i c n : ℕ) (o : Out A) → Sound c n o → Sound c n (add i o)
  unfolding add
  adds i c n (Gives r t c1 l1 w1) h = record { falls = h.falls; shrinks = h.shrinks; cause = tt }
  adds i c n (Stops s t l1) h = record { falls = tt; shrinks = tt; cause = tt }
  adds i c n (Cut t c1 l1) h = record { falls = h.falls; shrinks = tt; cause = h.cause }

  after : {A : Type 0} (c c1 n n1 : ℕ) (o : Out A) → c1 ≤ c → n1 ≤ n → Sound c1 n1 o → Sound c n o
  after c c1 n n1 (Gives r t c2 l2 w2) h i x = let f = x.falls in let g = x.shrinks in record { falls = omega arith; shrinks = omega arith; cause = tt }
  after c c1 n n1 (Stops s t l2) h i x = record { falls = tt; shrinks = tt; cause = tt }
  after c c1 n n1 (Cut t c2 l2) h i x = let f = x.falls in record { falls = omega arith; shrinks = tt; cause = x.cause }

  -- what follows may add so many
  joined_with : {A B : Type 0} (c n extra : ℕ) (o : Out A) (f : Result A → Act B) → Sound c n o → ((r : Result A) (c1 : ℕ) (l1 : Log) (w1 : World) → c1 ≤ c → Sound c1 (extra + (c1 + count tables w1)) (f r c1 l1 w1)) → Sound c (extra + n) (bind o f)
  unfolding bind
  joined_with c n extra (Gives r t c1 l1 w1) f h x =
      let g = h.falls in let i = h.shrinks in adds t c (extra + n) (f r c1 l1 w1) (after c c1 (extra + n) (extra + (c1 + count tables w1)) (f r c1 l1 w1) g (omega arith) (x r c1 l1 w1 g))
  joined_with c n extra (Stops s t l1) f h x = record { falls = tt; shrinks = tt; cause = tt }
  joined_with c n extra (Cut t c1 l1) f h x = record { falls = h.falls; shrinks = tt; cause = h.cause }

  joined : {A B : Type 0} (bound c n : ℕ) (o : Out A) (f : Result A → Act B) → c ≤ bound → Sound c n o → ((r : Result A) → UpTo bound (f r)) → Sound c n (bind o f)
  unfolding bind
  joined bound c n (Gives r t c1 l1 w1) f e h x =
      let g = h.falls in adds t c n (f r c1 l1 w1) (after c c1 n (c1 + count tables w1) (f r c1 l1 w1) g h.shrinks ((x r).from c1 l1 w1 (omega arith)))
  joined bound c n (Stops s t l1) f e h x = record { falls = tt; shrinks = tt; cause = tt }
  joined bound c n (Cut t c1 l1) f e h x = record { falls = h.falls; shrinks = tt; cause = h.cause }

  module _ (bound : ℕ) where
    gives : {A : Type 0} (r : Result A) → UpTo bound (given r)
    unfolding given
    gives r = record { from = λ c l w e. record { falls = omega arith; shrinks = omega arith; cause = tt } }

    stopped : {A : Type 0} (s : Stop) → UpTo bound (stop {A = A} s)
    unfolding stop
    stopped s = record { from = λ c l w e. record { falls = tt; shrinks = tt; cause = tt } }

    sequence : {A B : Type 0} {m : Act A} {f : Result A → Act B} → UpTo bound m → ((r : Result A) → UpTo bound (f r)) → UpTo bound (then_always m f)
    unfolding then_always
    sequence {m = m} {f = f} h x = record { from = λ c l w e. joined bound c (c + count tables w) (m c l w) f e (h.from c l w e) x }

    counts : {A : Type 0} (n : ℕ) {m : Act A} → UpTo bound m → UpTo bound (counted n m)
    unfolding counted
    counts n {m = m} h = record { from = λ c l w e. adds n c (c + count tables w) (m c l w) (h.from c l w e) }

    spends_at : {A : Type 0} (m : Act A) → ((c : ℕ) (l : Log) (w : World) → c < bound → Sound c (suc (c + count tables w)) (m c l w)) → (c : ℕ) (l : Log) (w : World) → c ≤ bound → Sound c (c + count tables w) (spend m c l w)
    unfolding spend
    spends_at m h zero l w e = record { falls = omega arith; shrinks = tt; cause = inl refl }
    spends_at m h (suc c) l w e = after (suc c) c (suc c + count tables w) (suc (c + count tables w)) (m c l w) (omega arith) (omega arith) (h c l w (omega arith))

    -- what is spent on needs the bounds below alone, and may add one candidate
    pub spends_below : {A : Type 0} {m : Act A} → ((c : ℕ) (l : Log) (w : World) → c < bound → Sound c (suc (c + count tables w)) (m c l w)) → UpTo bound (spend m)
    spends_below {m = m} h = record { from = spends_at m h }

    pub looser : {A : Type 0} (c n : ℕ) (o : Out A) → Sound c n o → Sound c (suc n) o
    looser c n o h = after c c (suc n) n o (omega arith) (omega arith) h

    spends : {A : Type 0} {m : Act A} → UpTo bound m → UpTo bound (spend m)
    spends {m = m} h = spends_below (λ c l w e. looser c (c + count tables w) (m c l w) (h.from c l w (omega arith)))

    looks : {A : Type 0} {f : World → Act A} → ((w : World) → UpTo bound (f w)) → UpTo bound (look f)
    unfolding look
    looks h = record { from = λ c l w e. (h w).from c l w e }

    changes : {f : World → World} → Edit f → UpTo bound (change f)
    unfolding change
    changes x = record { from = λ c l w e. let h = edits_count tables x w in record { falls = omega arith; shrinks = omega arith; cause = tt } }

    shows : (x : Event) → UpTo bound (show x)
    unfolding show
    shows x = record { from = λ c l w e. record { falls = omega arith; shrinks = omega arith; cause = tt } }

    noted_at : (m c : ℕ) (l : Log) (w : World) (o : Option ℕ) → accepted m (ask (length l.taken) m) ≡ o → Sound c (c + count tables w) (after_pick (noted m o l) c l w)
    unfolding noted after_pick
    noted_at m c l w None e = record { falls = omega arith; shrinks = tt; cause = inr (record { width = m; refused = e }) }
    noted_at m c l w (Some p) e = record { falls = omega arith; shrinks = omega arith; cause = tt }

    picked_at : (m c : ℕ) (l : Log) (w : World) → Sound c (c + count tables w) (after_pick (picked ask m l) c l w)
    unfolding picked after_pick
    picked_at zero c l w = record { falls = omega arith; shrinks = omega arith; cause = tt }
    picked_at (suc zero) c l w = record { falls = omega arith; shrinks = omega arith; cause = tt }
    picked_at (suc (suc m)) c l w = noted_at (suc (suc m)) c l w (accepted (suc (suc m)) (ask (length l.taken) (suc (suc m)))) refl

    answers : (m : ℕ) → UpTo bound (answered ask m)
    unfolding answered
    answers m = record { from = λ c l w e. picked_at m c l w }

    choice : {A : Type 0} (b : Bool) {m n : Act A} → UpTo bound m → UpTo bound n → UpTo bound (either b m n)
    unfolding either
    choice true h x = h
    choice false h x = x

    goes_on : {A B : Type 0} {f : A → Act B} → ((a : A) → UpTo bound (f a)) → (r : Result A) → UpTo bound (on_goes f r)
    unfolding on_goes
    goes_on h (Goes a) = h a
    goes_on h (Leaves y) = gives (Leaves y)

    -- Loops: a turn that goes on has taken one from the clock -----------------------------

    abbrev FallsIfOn : ℕ → Out Bool → Type 0
    FallsIfOn c (Gives (Goes true) t c1 l w) = c1 < c
    FallsIfOn c (Gives (Goes false) t c1 l w) = Unit {0}
    FallsIfOn c (Gives (Leaves y) t c1 l w) = Unit {0}
    FallsIfOn c (Stops s t l) = Unit {0}
    FallsIfOn c (Cut t c1 l) = Unit {0}

    record Turn (m : Act Bool) : Type 0 where
      sound : UpTo bound m
      spent : (c : ℕ) (l : Log) (w : World) → c ≤ bound → FallsIfOn c (m c l w)

    left_with : (c p t c1 : ℕ) (l1 : Log) (w1 : World) (r : Result Done) → c1 ≤ c → c1 + count tables w1 ≤ p → Sound c p (add t (given r c1 l1 w1))
    unfolding add given
    left_with c p t c1 l1 w1 r h i = record { falls = h; shrinks = i; cause = tt }

    after_turn : (n c : ℕ) (m : Act Bool) (p : ℕ) (o : Out Bool) → c ≤ bound → c < suc n → Sound c p o → FallsIfOn c o → ((c : ℕ) (l : Log) (w : World) → c ≤ bound → c < n → Sound c (c + count tables w) (turns n m c l w)) → Sound c p (bind o (turned (turns n m)))
    unfolding bind turned nothing leave_by
    after_turn n c m p (Gives (Goes true) t c1 l1 w1) e i h f x = let g = h.falls in adds t c p (turns n m c1 l1 w1) (after c c1 p (c1 + count tables w1) (turns n m c1 l1 w1) g h.shrinks (x c1 l1 w1 (omega arith) (omega arith)))
    after_turn n c m p (Gives (Goes false) t c1 l1 w1) e i h f x = left_with c p t c1 l1 w1 _ h.falls h.shrinks
    after_turn n c m p (Gives (Leaves y) t c1 l1 w1) e i h f x = left_with c p t c1 l1 w1 _ h.falls h.shrinks
    after_turn n c m p (Stops s t l1) e i h f x = record { falls = tt; shrinks = tt; cause = tt }
    after_turn n c m p (Cut t c1 l1) e i h f x = record { falls = h.falls; shrinks = tt; cause = h.cause }

    turns_at : (n : ℕ) (m : Act Bool) → Turn m → (c : ℕ) (l : Log) (w : World) → c ≤ bound → c < n → Sound c (c + count tables w) (turns n m c l w)
    unfolding turns then_always
    turns_at zero m h c l w e i = absurd (omega arith)
    turns_at (suc n) m h c l w e i = after_turn n c m (c + count tables w) (m c l w) e i (h.sound.from c l w e) (h.spent c l w e) (turns_at n m h)

    repeats : {m : Act Bool} → Turn m → UpTo bound (loop m)
    unfolding loop
    repeats {m = m} h = record { from = λ c l w e. turns_at (suc c) m h c l w e (omega arith) }

    less_after : (c p : ℕ) (o : Out Bool) → Sound c p o → FallsIfOn (suc c) o
    less_after c p (Gives (Goes true) t c1 l w) h = let f = h.falls in omega arith
    less_after c p (Gives (Goes false) t c1 l w) h = tt
    less_after c p (Gives (Leaves y) t c1 l w) h = tt
    less_after c p (Stops s t l) h = tt
    less_after c p (Cut t c1 l) h = tt

    spent_at : (m : Act Bool) → UpTo bound m → (c : ℕ) (l : Log) (w : World) → c ≤ bound → FallsIfOn c (spend m c l w)
    unfolding spend
    spent_at m h zero l w e = tt
    spent_at m h (suc c) l w e = less_after c (c + count tables w) (m c l w) (h.from c l w (omega arith))

    one_turns : {m : Act Done} → UpTo bound m → Turn (one_turn m)
    unfolding one_turn ticked done ◌>>◌
    one_turns {m = m} h =
        let body = counts 1 (sequence h (goes_on (λ a. gives (Goes true)))) in
        record { sound = spends body; spent = spent_at _ body }

    lower : (c c1 t : ℕ) (o : Out Bool) → c1 ≤ c → FallsIfOn c1 o → FallsIfOn c (add t o)
    unfolding add
    lower c c1 t (Gives (Goes true) u c2 l w) h f = omega arith
    lower c c1 t (Gives (Goes false) u c2 l w) h f = tt
    lower c c1 t (Gives (Leaves y) u c2 l w) h f = tt
    lower c c1 t (Stops s u l) h f = tt
    lower c c1 t (Cut u c2 l) h f = tt

    tested : (c p : ℕ) (o : Out (List ℕ)) (f : List ℕ → Act Bool) → c ≤ bound → Sound c p o → ((v : List ℕ) (c : ℕ) (l : Log) (w : World) → c ≤ bound → FallsIfOn c (f v c l w)) → FallsIfOn c (bind o (on_goes f))
    unfolding bind on_goes given add
    tested c p (Gives (Goes v) t c1 l1 w1) f e h x = let g = h.falls in lower c c1 t (f v c1 l1 w1) g (x v c1 l1 w1 (omega arith))
    tested c p (Gives (Leaves y) t c1 l1 w1) f e h x = tt
    tested c p (Stops s t l1) f e h x = tt
    tested c p (Cut t c1 l1) f e h x = tt

    decided : (b : Bool) {m : Act Bool} → Turn m → (c : ℕ) (l : Log) (w : World) → c ≤ bound → FallsIfOn c (either b m (done false) c l w)
    unfolding either done given
    decided true h c l w e = h.spent c l w e
    decided false h c l w e = tt

    while_turns : {test : Act (List ℕ)} {m : Act Done} → UpTo bound test → UpTo bound m → Turn (while test m)
    unfolding while ◌>>=◌ then_always on_goes done given
    while_turns {test = test} {m = m} h x = record {
      sound = sequence h (goes_on (λ v. choice _ (one_turns x).sound (gives (Goes false))));
      spent = λ c l w e. tested c (c + count tables w) (test c l w) _ e (h.from c l w e) (λ v. decided _ (one_turns x));
    }

    -- Members: one that is taken out is one less --------------------------------------------

    begun : (m : Act Bool) → UpTo bound m → (n c : ℕ) (l : Log) (w : World) → c ≤ bound → (o : Option Object) → Sound c (c + count tables (begin_finalization n w)) (bind (bind (on_some o gone (λ x. nothing) c l w) (on_goes (λ x. change (begin_finalization n)))) (on_goes (λ x. m)))
    unfolding bind on_some gone stop nothing given on_goes change add
    begun m h n c l w e None = record { falls = tt; shrinks = tt; cause = tt }
    begun m h n c l w e (Some x) = adds 0 c (c + count tables (begin_finalization n w)) (m c l (begin_finalization n w)) (h.from c l (begin_finalization n w) e)

    object_less : (k : Tools) (cause : Cause) (m : Member) → UpTo bound (finalize_begun k cause m) → (c : ℕ) (l : Log) (w : World) → c ≤ bound → Sound c (c + count tables (begin_finalization m.number w)) (finalize_object k cause m c l w)
    unfolding finalize_object must_exist existing look ◌>>◌ then_always
    object_less k cause m h c l w e = begun (finalize_begun k cause m) h m.number c l w e (object_at m.number w)

    chosen : (i c p : ℕ) (l : Log) (w : World) (f : Result ℕ → Act Bool) (o : Option (ℕ × Log)) → Sound c p (after_pick o c l w) → ((j : ℕ) (l1 : Log) → Sound c p (f (Goes j) c l1 w)) → Sound c p (bind (add i (after_pick o c l w)) f)
    unfolding after_pick bind add
    chosen i c p l w f None h x = record { falls = h.falls; shrinks = tt; cause = h.cause }
    chosen i c p l w f (Some q) h x = adds _ c p _ (x q.0 q.1)

    -- what follows a member that is taken out has one less
    followed : (f : Bool → Act Bool) (b : Bool) (n c q : ℕ) (o : Out Bool) → c ≤ bound → q < n → Sound c q o → ((d : Bool) (c1 : ℕ) (l1 : Log) (w1 : World) → c1 ≤ bound → c1 + count tables w1 < n → Sound c1 (c1 + count tables w1) (f d c1 l1 w1)) → Sound c q (bind o (on_goes (λ d. f (b || d))))
    unfolding bind on_goes given add
    followed f b n c q (Gives (Goes d) t c1 l1 w1) e i h x =
        let g = h.falls in let j = h.shrinks in adds t c q (f (b || d) c1 l1 w1) (after c c1 q (c1 + count tables w1) (f (b || d) c1 l1 w1) g j (x (b || d) c1 l1 w1 (omega arith) (omega arith)))
    followed f b n c q (Gives (Leaves y) t c1 l1 w1) e i h x = record { falls = h.falls; shrinks = h.shrinks; cause = tt }
    followed f b n c q (Stops s t l1) e i h x = record { falls = tt; shrinks = tt; cause = tt }
    followed f b n c q (Cut t c1 l1) e i h x = record { falls = h.falls; shrinks = tt; cause = h.cause }

    one_less : (k : Tools) (cause : Cause) → ((m : Member) → UpTo bound (finalize_begun k cause m)) → (f : Bool → Act Bool) (b : Bool) (n c : ℕ) (l : Log) (w : World) → c ≤ bound → c + count tables w < suc n → ((d : Bool) (c1 : ℕ) (l1 : Log) (w1 : World) → c1 ≤ bound → c1 + count tables w1 < n → Sound c1 (c1 + count tables w1) (f d c1 l1 w1)) → (m : Member) → any_of (due_as tables m.number) w.objects ≡ true → Sound c (c + count tables w) ((finalize_object k cause m >>= (λ d. f (b || d))) c l w)
    unfolding ◌>>=◌ then_always
    one_less k cause h f b n c l w e i x m j =
        let less = begins_count tables m.number w j in let q = c + count tables (begin_finalization m.number w) in
        after c c (c + count tables w) q _ (omega arith) (omega arith) (followed f b n c q (finalize_object k cause m c l w) e (omega arith) (object_less k cause m (h m) c l w e) x)

    ones_less : (call : Call) (default : Default) (cause : Cause) (g : Group) → ((m : Member) → UpTo bound (finalize_begun (record { ask = ask; tables = tables; call = call; default = default }) cause m)) → (f : Bool → Act Bool) (b : Bool) (n c : ℕ) (l : Log) (w : World) → c ≤ bound → c + count tables w < suc n → ((d : Bool) (c1 : ℕ) (l1 : Log) (w1 : World) → c1 ≤ bound → c1 + count tables w1 < n → Sound c1 (c1 + count tables w1) (f d c1 l1 w1)) → (ms : List Member) → ms ≡ candidates_of tables g w → Sound c (c + count tables w) (finalize_one (record { ask = ask; tables = tables; call = call; default = default }) cause f b ms c l w)
    unfolding finalize_one choose counted answered done given ◌>>=◌ then_always on_goes
    ones_less call default cause g h f b n c l w e i x [] j = record { falls = omega arith; shrinks = omega arith; cause = tt }
    ones_less call default cause g h f b n c l w e i x (m ∷ ms) j =
        chosen (length (m ∷ ms)) c (c + count tables w) l w _ (picked ask (length (m ∷ ms)) l) (picked_at (length (m ∷ ms)) c l w)
        (λ p l1. one_less (record { ask = ask; tables = tables; call = call; default = default }) cause h f b n c l1 w e i x (pull_item m p (m ∷ ms))
        (group_members tables g w (pull_item m p (m ∷ ms)).number (subst (λ xs. any_of (named tables (pull_item m p (m ∷ ms)).number) xs ≡ true) j (pulled_among m ms p))))

    members_at : (call : Call) (default : Default) (cause : Cause) (g : Group) → ((m : Member) → UpTo bound (finalize_begun (record { ask = ask; tables = tables; call = call; default = default }) cause m)) → (n : ℕ) (b : Bool) (c : ℕ) (l : Log) (w : World) → c ≤ bound → c + count tables w < n → Sound c (c + count tables w) (finalize_members (record { ask = ask; tables = tables; call = call; default = default }) cause g n b c l w)
    unfolding finalize_members
    members_at call default cause g h zero b c l w e i = absurd (omega arith)
    members_at call default cause g h (suc n) b c l w e i = ones_less call default cause g h _ b n c l w e i (members_at call default cause g h n) (candidates_of tables g w) refl

    finishes : (call : Call) (default : Default) (cause : Cause) (g : Group) → ((m : Member) → UpTo bound (finalize_begun (record { ask = ask; tables = tables; call = call; default = default }) cause m)) → UpTo bound (finalize_group (record { ask = ask; tables = tables; call = call; default = default }) cause g)
    unfolding finalize_group count_due
    finishes call default cause g h = record { from = λ c l w e. members_at call default cause g h _ false c l w e (omega arith) }

    -- A member that joins is one more --------------------------------------------------------

    joins_if : (b : Bool) (n c : ℕ) (l : Log) (w : World) → Sound c (suc (c + count tables w)) (either b (change (join n)) gone c l w)
    unfolding either change gone stop
    joins_if true n c l w = let h = joins_count tables n w in record { falls = omega arith; shrinks = omega arith; cause = tt }
    joins_if false n c l w = record { falls = tt; shrinks = tt; cause = tt }

    joins_set : (n : ℕ) (b : Bool) (s : Option Collection) (c : ℕ) (l : Log) (w : World) → Sound c (suc (c + count tables w)) (on_some s gone (λ x. either b (change (join n)) gone) c l w)
    unfolding on_some gone stop
    joins_set n b None c l w = record { falls = tt; shrinks = tt; cause = tt }
    joins_set n b (Some x) c l w = joins_if b n c l w

    joins_object : (n : ℕ) (s : Option Object) (c : ℕ) (l : Log) (w : World) → Sound c (suc (c + count tables w)) (on_some s gone (λ o. look (λ w1. on_some (set_of o.origin w1) gone (λ x. either (is_new o) (change (join n)) gone))) c l w)
    unfolding on_some gone stop look
    joins_object n None c l w = record { falls = tt; shrinks = tt; cause = tt }
    joins_object n (Some o) c l w = joins_set n (is_new o) (set_of o.origin w) c l w

    enlists : (n c : ℕ) (l : Log) (w : World) → Sound c (suc (c + count tables w)) (join_collection n c l w)
    unfolding join_collection existing look
    enlists n c l w = joins_object n (object_at n w) c l w

    pub closed : Closed tables ask ask (λ A m n. UpTo bound {A = A} m)
    closed = record {
      gives = gives;
      stops = stopped;
      joins = λ {A} {B} {m} {n} {f} {g} h x. sequence h x;
      counts = λ {A} i {m} {n} h. counts i h;
      spends = λ {A} {m} {n} h. spends h;
      looks = λ {A} {f} {g} h. looks h;
      changes = λ {f} e. changes e;
      shows = shows;
      answers = answers;
      finishes = λ call spare default fallback cause g h. finishes call default cause g h;
      repeats = λ {m} {n} h. repeats (one_turns h);
      repeats_while = λ {test} {check} {m} {n} h x. repeats (while_turns h x);
    }

  -- A body takes one from the clock, and an allocator has taken one, so the clock bounds their depth ----

  -- the new object joins in the end
  completes : (bound : ℕ) (i c : ℕ) (l : Log) (w : World) → c ≤ bound → Sound c (suc (c + count tables w)) (completed i c l w)
  unfolding completed ◌>>◌ then_always done
  completes bound i c l w e = joined bound c (suc (c + count tables w)) (join_collection i c l w) _ e (enlists bound i c l w) (goes_on bound (λ x. gives bound _))

  completes_if : (bound : ℕ) (r : Result ℕ) (c : ℕ) (l : Log) (w : World) → c ≤ bound → Sound c (suc (c + count tables w)) (on_goes completed r c l w)
  unfolding on_goes given
  completes_if bound (Goes i) c l w e = completes bound i c l w e
  completes_if bound (Leaves y) c l w e = record { falls = omega arith; shrinks = omega arith; cause = tt }

  joined_in : (bound : ℕ) (m : Act ℕ) → UpTo bound m → (c : ℕ) (l : Log) (w : World) → c ≤ bound → Sound c (suc (c + count tables w)) ((m >>= completed) c l w)
  unfolding ◌>>=◌ then_always
  joined_in bound m h c l w e =
      after c c (suc (c + count tables w)) (1 + (c + count tables w)) _ (omega arith) (omega arith)
      (joined_with c (c + count tables w) 1 (m c l w) (on_goes completed) (h.from c l w e)
      (λ r c1 l1 w1 i. after c1 c1 (1 + (c1 + count tables w1)) (suc (c1 + count tables w1)) _ (omega arith) (omega arith) (completes_if bound r c1 l1 w1 (omega arith))))

  -- an allocator, by its operands, where the execution may add one
  call_if : (bound c : ℕ) (f : Option (List ℕ) × Option (List ℕ) → Act Returned) → c < bound → ((p : Option (List ℕ) × Option (List ℕ)) (c : ℕ) (l : Log) (w : World) → c < bound → Sound c (suc (c + count tables w)) (f p c l w)) → (r : Result (Option (List ℕ) × Option (List ℕ))) (c1 : ℕ) (l : Log) (w : World) → c1 ≤ c → Sound c1 (1 + (c1 + count tables w)) (on_goes f r c1 l w)
  unfolding on_goes given
  call_if bound c f e h (Goes p) c1 l w i = after c1 c1 (1 + (c1 + count tables w)) (suc (c1 + count tables w)) (f p c1 l w) (omega arith) (omega arith) (h p c1 l w (omega arith))
  call_if bound c f e h (Leaves y) c1 l w i = record { falls = omega arith; shrinks = omega arith; cause = tt }

  takes_one : (bound : ℕ) (f : Option (List ℕ) × Option (List ℕ) → Act Returned) (m : Act (Option (List ℕ) × Option (List ℕ))) → ((p : Option (List ℕ) × Option (List ℕ)) (c : ℕ) (l : Log) (w : World) → c < bound → Sound c (suc (c + count tables w)) (f p c l w)) → UpTo bound m → UpTo bound (spend (m >>= f))
  unfolding ◌>>=◌ then_always
  takes_one bound f m h x = spends_below bound (λ c l w e.
      after c c (suc (c + count tables w)) (1 + (c + count tables w)) _ (omega arith) (omega arith)
      (joined_with c (c + count tables w) 1 (m c l w) (on_goes f) (x.from c l w (omega arith)) (call_if bound c f e h)))

  -- how deep an execution must be allowed to be, by its clock
  abbrev Bounded : ℕ → Execution → Act Returned → Type 0
  Bounded n (OfSubprogram f ss) m = (bound : ℕ) → bound < n → UpTo bound m
  Bounded n (OfAllocator a ty h v) m = (c : ℕ) (l : Log) (w : World) → suc c < n → Sound c (suc (c + count tables w)) (m c l w)

module _ (program : Checked) (ask : Ask) where
  abbrev of : Tables
  of = tables_of program

  abbrev Rel : ℕ → (A : Type 0) → Act A → Act A → Type 0
  Rel bound = λ A m n. UpTo of ask bound {A = A} m

  abbrev deep : ℕ → Call
  deep n = execution ask (meaning_of program) n

  run_bounded : (n bound : ℕ) → bound < n → ((x : Execution) (env : List ℕ) → Bounded of ask n x (deep n x env)) → (env : List ℕ) (ss : List Slot) (f : ℕ) → UpTo of ask bound (run_number (meaning_of program) (tools_with ask (meaning_of program) (deep n)) env ss f)
  run_bounded n bound e h = good_run_number program ask ask (deep n) (deep n) (Rel bound) (closed of ask bound)
      (λ g xs d. h (OfSubprogram g xs) d bound e)
      (λ d a ty m m1 i. takes_one of ask bound (λ p. deep n (OfAllocator a ty p.0 p.1) d) m (λ p c l w j. h (OfAllocator a ty p.0 p.1) d c l w (omega arith)) i)

  allocate_bounded : (n bound : ℕ) → bound < n → ((x : Execution) (env : List ℕ) → Bounded of ask n x (deep n x env)) → (env : List ℕ) (a : ℕ) (ty : Ty) (h v : Option (List ℕ)) → UpTo of ask bound (allocate (tools_with ask (meaning_of program) (deep n)) env a ty h v)
  allocate_bounded n bound e h = good_allocate program ask ask (deep n) (deep n) (Rel bound) (closed of ask bound)
      (λ g xs d. h (OfSubprogram g xs) d bound e)
      (λ d a ty m m1 i. takes_one of ask bound (λ p. deep n (OfAllocator a ty p.0 p.1) d) m (λ p c l w j. h (OfAllocator a ty p.0 p.1) d c l w (omega arith)) i)

  executes : (n : ℕ) (x : Execution) (env : List ℕ) → Bounded of ask n x (deep n x env)
  unfolding execution execute ticked
  executes zero (OfSubprogram f ss) env = λ bound e. absurd (omega arith)
  executes zero (OfAllocator a ty h v) env = λ c l w e. absurd (omega arith)
  executes (suc n) (OfSubprogram f ss) env = λ bound e.
      record { from = λ c l w i. (spends_below of ask bound (λ b k v h. looser of ask bound b (b + count of v) _ ((counts of ask b 1 (run_bounded n b (omega arith) (executes n) env ss f)).from b k v (omega arith)))).from c l w i }
  executes (suc n) (OfAllocator a ty h v) env = λ c l w e. joined_in of ask c _ (allocate_bounded n c (omega arith) (executes n) env a ty h v) c l w (omega arith)

  -- the finalization of an object, whatever components begin with
  pub begun_bounded : (n bound : ℕ) → bound < n → (default : Default) (cause : Cause) (m : Member) → UpTo of ask bound (finalize_begun (record { ask = ask; tables = of; call = deep n; default = default }) cause m)
  begun_bounded n bound e default cause m = k_finalize_begun of ask ask (deep n) (deep n) default default (Rel bound) (closed of ask bound)
      (λ g xs d. executes n (OfSubprogram g xs) d bound e)
      (λ d a ty m1 m2 i. takes_one of ask bound (λ p. deep n (OfAllocator a ty p.0 p.1) d) m1 (λ p c l w j. executes n (OfAllocator a ty p.0 p.1) d c l w (omega arith)) i)
      cause m

  -- a whole run
  pub runs : (clock : ℕ) → Sound of ask clock (clock + count of empty_world) (run program ask clock)
  unfolding run run_meaning tools
  runs clock = (run_bounded (suc clock) clock (omega arith) (executes (suc clock)) [] [] program.main).from clock empty_log empty_world (omega arith)
