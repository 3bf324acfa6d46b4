-- The machine follows a meaning: what holds of one stretch of steps, and how stretches are joined.
use Rattle.std.proofs.Common.{◌≡◌, ℕ, zero, suc, ◌+◌, ◌-◌, ◌*◌, ◌≤◌, List, [], ◌∷◌, Option, Some, None, refl, sym, ap, ◌∙◌, subst, arith, ◌⊎◌, inl, inr}
use Rattle.std.specs.Prelude.{if◌then◌else◌}
use Rattle.ctl_tree.specs.declared.ending.Stop.{Stop}
use Rattle.ctl_meaning.specs.World.{Log, World}
use Rattle.ctl_meaning.specs.Choice.{Ask}
use Rattle.ctl_meaning.specs.Outcome.{completes_loop, raised_by, Way, ByRaise, Result, Goes, Leaves, Out, Gives, Stops, Cut, Act, Done, Tried, add, bind, on_goes, given}
use Rattle.ctl_code.specs.declared.code.Code.{Code}
use Rattle.ctl_code.specs.States.{Word, Handed, Mode, At, Transfers, Giving, Stopped, Stuck, Frame, State}
use Rattle.ctl_layout.specs.Around.{Landing, OutOfMaster, BeforeLoop, Around, further as further_on}
use Rattle.ctl_code.specs.Steps.{step, steps}

-- the machine has neither ended nor come to an ill-formed state
abbrev pub GoingBy : Mode → List Frame → Type 0
GoingBy (At d place) k = Unit {0}
GoingBy (Transfers y) k = Unit {0}
GoingBy (Giving t) [] = ⊥
GoingBy (Giving t) (f ∷ k) = Unit {0}
GoingBy (Stopped s) k = ⊥
GoingBy Stuck k = ⊥

abbrev pub IsGoing : State → Type 0
IsGoing s = GoingBy s.mode s.control

-- before an instruction
abbrev pub at : List ℕ → ℕ → List Frame → List Word → Log → World → State
at d place k ops l w = record { mode = At d place; control = k; operands = ops; world = w; log = l }

-- control is transferred to the innermost master
abbrev pub transferred : Way → List Frame → Log → World → State
transferred y k l w = record { mode = Transfers y; control = k; operands = []; world = w; log = l }

-- a body or a finalization has ended, for the frame that waits
abbrev pub gives : List Frame → Tried Handed → Log → World → State
gives k t l w = record { mode = Giving t; control = k; operands = []; world = w; log = l }

-- what a landing is at a place of the code: out of the innermost master, or another place
pub data Target : Type 0 where
  OutOf : Target
  On : (place : ℕ) → Target

abbrev pub target_of : Landing → ℕ → Target
target_of OutOfMaster place = OutOf
target_of (BeforeLoop back) place = On (place - back)

-- where control lands that leaves the innermost loop from this place
abbrev pub lands : Around → ℕ → Target
lands a place = target_of a.landing place

-- it is the same so many instructions further on
pub landing_further : (e : Landing) (n place : ℕ) → target_of (further_on n e) (place + n) ≡ target_of e place
landing_further OutOfMaster n place = refl
landing_further (BeforeLoop back) n place = let e : place + n - (back + n) ≡ place - back = omega arith in ap On e

-- where what completes a loop leads
abbrev pub landed_on : Target → Way → List ℕ → List Frame → List Word → Log → World → State
landed_on OutOf y d k ops l w = transferred y k l w
landed_on (On place) y d k ops l w = at d place k ops l w

-- what completes a loop leads to where control lands, and any other transfer of control to the innermost master
abbrev pub leads : Target → Way → List ℕ → List Frame → List Word → Log → World → State
leads e y d k ops l w = if completes_loop y then landed_on e y d k ops l w else transferred y k l w

pub leads_out : (y : Way) (d : List ℕ) (k : List Frame) (ops : List Word) (l : Log) (w : World) → leads OutOf y d k ops l w ≡ transferred y k l w
leads_out (ByRaise x) d k ops l w = refl
leads_out y d k ops l w = refl

-- a statement's result, at the place behind it, at a landing or under way to the innermost master
abbrev pub arrives : Target → List ℕ → ℕ → List Frame → List Word → Result Done → Log → World → State
arrives e d place k ops (Goes a) l w = at d place k ops l w
arrives e d place k ops (Leaves y) l w = leads e y d k ops l w

-- how a result leaves, if it does
abbrev pub way_of : {A : Type 0} → Result A → Option Way
way_of (Goes a) = None
way_of (Leaves y) = Some y

pub raised_is : (y : Way) (e : ℕ) → raised_by y ≡ Some e → y ≡ ByRaise e
raised_is (ByRaise x) e h = let same : x ≡ e = cc h in ap ByRaise same
raised_is y e h = absurd (cc)

abbrev IsThere : Option ℕ → Type 0
IsThere None = ⊥
IsThere (Some e) = Unit {0}

-- an exception: nothing else leaves an expression, or a body
abbrev pub IsRaise : Way → Type 0
IsRaise y = IsThere (raised_by y)

-- what holds of each exception holds of each way that is one
pub by_raise : (P : Way → Type 0) → ((e : ℕ) → P (ByRaise e)) → (y : Way) → IsRaise y → P y
by_raise P f y h = by (raised_by y) refl h
  where
    by : (o : Option ℕ) → raised_by y ≡ o → IsThere o → P y
    by None is g = absurd g
    by (Some e) is g = subst P (sym (raised_is y e is)) (f e)

-- ticks before ticks
pub add_add : {A : Type 0} (t u : ℕ) (o : Out A) → add (t + u) o ≡ add t (add u o)
unfolding add
add_add t u (Gives r v c l w) = let e : t + u + v ≡ t + (u + v) = omega arith in ap (λ n. Gives r n c l w) e
add_add t u (Stops why v l) = let e : t + u + v ≡ t + (u + v) = omega arith in ap (λ n. Stops why n l) e
add_add t u (Cut v c l) = let e : t + u + v ≡ t + (u + v) = omega arith in ap (λ n. Cut n c l) e

module _ (ask : Ask) (code : Code) where
  -- from s to another state in at most 64 steps a tick and b more, and in no fewer than were taken from the clock
  pub record Comes (b : ℕ) (s : State) (c t c1 : ℕ) (there : State) (Fits : Type 0) : Type 0 where
    pub n : ℕ
    pub falls : c1 ≤ c
    pub enough : c ≤ c1 + n
    pub in_time : n ≤ 64 * t + b
    pub comes : steps ask code n s ≡ there
    pub fits : Fits

  -- a moment when the clock is used up, or a choice is not answered: two steps fewer at least than 64 a tick and h more. So what comes
  -- before the first tick, as the step that enters a master and the one that arms its handlers, is within 64 steps a tick
  pub record Halts (h : ℕ) (s : State) (c t : ℕ) (l : Log) : Type 0 where
    pub n : ℕ
    pub in_time : n + 2 ≤ 64 * t + h
    pub logged : (steps ask code n s).log ≡ l
    pub going : IsGoing (steps ask code n s)
    pub why : (c ≤ n) ⊎ (step ask code (steps ask code n s) ≡ steps ask code n s)

  -- a moment when the machine has stopped
  pub record Quits (h : ℕ) (s : State) (t : ℕ) (l : Log) (why : Stop) : Type 0 where
    pub n : ℕ
    pub in_time : n + 2 ≤ 64 * t + h
    pub logged : (steps ask code n s).log ≡ l
    pub over : (steps ask code n s).mode ≡ Stopped why

  pub steps_add : (n m : ℕ) (s : State) → steps ask code (n + m) s ≡ steps ask code n (steps ask code m s)
  steps_add zero m s = let e : 0 + m ≡ m = omega arith in ap (λ k. steps ask code k s) e
  steps_add (suc n) m s =
      let e : suc n + m ≡ suc (n + m) = omega arith in
      ap (λ k. steps ask code k s) e ∙ ap (step ask code) (steps_add n m s)

  -- a moment that comes after m steps more
  later_halts : (m h e : ℕ) (s s1 : State) (c c1 t u : ℕ) (l : Log) → steps ask code m s ≡ s1 → c ≤ c1 + m → m + 64 * t + h ≤ 64 * u + e → Halts h s1 c1 t l → Halts e s c u l
  later_halts m h e s s1 c c1 t u l there le time z =
      let same : steps ask code (z.n + m) s ≡ steps ask code z.n s1 = steps_add z.n m s ∙ ap (steps ask code z.n) there in
      let goal : State → Type 0 = λ x. (x.log ≡ l) × (IsGoing x) × ((c ≤ z.n + m) ⊎ (step ask code x ≡ x)) in
      let more : (c1 ≤ z.n) ⊎ (step ask code (steps ask code z.n s1) ≡ steps ask code z.n s1) → (c ≤ z.n + m) ⊎ (step ask code (steps ask code z.n s1) ≡ steps ask code z.n s1) = elim [ inl x ↦ inl (omega (arith, x, le)) | inr x ↦ inr x ] in
      let all : goal (steps ask code (z.n + m) s) = subst goal (sym same) (z.logged, z.going, more z.why) in
      record { n = z.n + m; in_time = omega (arith, z.in_time, time); logged = all.0; going = all.1; why = all.2 }

  later_quits : (m h e : ℕ) (s s1 : State) (t u : ℕ) (l : Log) (why : Stop) → steps ask code m s ≡ s1 → m + 64 * t + h ≤ 64 * u + e → Quits h s1 t l why → Quits e s u l why
  later_quits m h e s s1 t u l why there time z =
      let same : steps ask code (z.n + m) s ≡ steps ask code z.n s1 = steps_add z.n m s ∙ ap (steps ask code z.n) there in
      record { n = z.n + m; in_time = omega (arith, z.in_time, time); logged = ap (λ (x : State). x.log) same ∙ z.logged; over = ap (λ (x : State). x.mode) same ∙ z.over }

  later_comes : {X : Type 0} (m b d : ℕ) (s s1 s2 : State) (c c1 c2 t u : ℕ) → steps ask code m s ≡ s1 → c1 ≤ c → c ≤ c1 + m → m + 64 * t + b ≤ 64 * u + d → Comes b s1 c1 t c2 s2 X → Comes d s c u c2 s2 X
  later_comes m b d s s1 s2 c c1 c2 t u there lo hi time z =
      record {
        n = z.n + m;
        falls = omega (arith, z.falls, lo);
        enough = omega (arith, z.enough, hi);
        in_time = omega (arith, z.in_time, time);
        comes = steps_add z.n m s ∙ ap (steps ask code z.n) there ∙ z.comes;
        fits = z.fits;
      }

-- what is true of a result in the world that it leaves
module _ (ask : Ask) (code : Code) where
  -- the machine does what the meaning gives, where this is true of the result
  abbrev pub RunsTo : {A : Type 0} → (Result A → World → Type 0) → ℕ → ℕ → State → ℕ → (Result A → Log → World → State) → Out A → Type 0
  RunsTo Ends b h s c next (Gives r t c1 l w) = Comes ask code b s c t c1 (next r l w) (Ends r w)
  RunsTo Ends b h s c next (Stops why t l) = Quits ask code h s t l why
  RunsTo Ends b h s c next (Cut t c1 l) = Halts ask code h s c t l

  -- after a stretch that has come to its end
  pub after_comes_to : {A X : Type 0} (Ends : Result A → World → Type 0) (b b1 h1 d e : ℕ) (s s1 : State) (c c1 t : ℕ) (next : Result A → Log → World → State) (o : Out A) → b + b1 ≤ d → b + h1 ≤ e → Comes ask code b s c t c1 s1 X → RunsTo Ends b1 h1 s1 c1 next o → RunsTo Ends d e s c next (add t o)
  unfolding add
  after_comes_to Ends b b1 h1 d e s s1 c c1 t next (Gives r u c2 l w) le he a z = later_comes ask code a.n b1 d s s1 (next r l w) c c1 c2 u (t + u) a.comes a.falls a.enough (omega (arith, a.in_time, le)) z
  after_comes_to Ends b b1 h1 d e s s1 c c1 t next (Stops why u l) le he a z = later_quits ask code a.n h1 e s s1 u (t + u) l why a.comes (omega (arith, a.in_time, he)) z
  after_comes_to Ends b b1 h1 d e s s1 c c1 t next (Cut u c2 l) le he a z = later_halts ask code a.n h1 e s s1 c c1 u (t + u) l a.comes a.enough (omega (arith, a.in_time, he)) z

  -- greater counts of steps that no tick pays, and more ticks
  pub added_to : {A : Type 0} (Ends : Result A → World → Type 0) (n b h d e : ℕ) (s : State) (c : ℕ) (next : Result A → Log → World → State) (o : Out A) → b ≤ 64 * n + d → h ≤ 64 * n + e → RunsTo Ends b h s c next o → RunsTo Ends d e s c next (add n o)
  unfolding add
  added_to Ends n b h d e s c next (Gives r u c2 l w) le he z = record { n = z.n; falls = z.falls; enough = z.enough; in_time = omega (arith, z.in_time, le); comes = z.comes; fits = z.fits }
  added_to Ends n b h d e s c next (Stops why u l) le he z = record { n = z.n; in_time = omega (arith, z.in_time, he); logged = z.logged; over = z.over }
  added_to Ends n b h d e s c next (Cut u c2 l) le he z = record { n = z.n; in_time = omega (arith, z.in_time, he); logged = z.logged; going = z.going; why = z.why }

  pub within_to : {A : Type 0} (Ends : Result A → World → Type 0) (b h d e : ℕ) (s : State) (c : ℕ) (next : Result A → Log → World → State) (o : Out A) → b ≤ d → h ≤ e → RunsTo Ends b h s c next o → RunsTo Ends d e s c next o
  within_to Ends b h d e s c next (Gives r u c2 l w) le he z = record { n = z.n; falls = z.falls; enough = z.enough; in_time = omega (arith, z.in_time, le); comes = z.comes; fits = z.fits }
  within_to Ends b h d e s c next (Stops why u l) le he z = record { n = z.n; in_time = omega (arith, z.in_time, he); logged = z.logged; over = z.over }
  within_to Ends b h d e s c next (Cut u c2 l) le he z = record { n = z.n; in_time = omega (arith, z.in_time, he); logged = z.logged; going = z.going; why = z.why }

  -- one step, and at most one from the clock
  pub one_step_to : {A : Type 0} (Ends : Result A → World → Type 0) (b h d e : ℕ) (s s1 : State) (c c1 : ℕ) (next : Result A → Log → World → State) (o : Out A) → b + 1 ≤ d → h + 1 ≤ e → c1 ≤ c → c ≤ c1 + 1 → step ask code s ≡ s1 → RunsTo Ends b h s1 c1 next o → RunsTo Ends d e s c next o
  one_step_to Ends b h d e s s1 c c1 next (Gives r u c2 l w) le he lo hi there z = later_comes ask code 1 b d s s1 (next r l w) c c1 c2 u u there lo hi (omega (arith, le)) z
  one_step_to Ends b h d e s s1 c c1 next (Stops why u l) le he lo hi there z = later_quits ask code 1 h e s s1 u u l why there (omega (arith, he)) z
  one_step_to Ends b h d e s s1 c c1 next (Cut u c2 l) le he lo hi there z = later_halts ask code 1 h e s s1 c c1 u u l there hi (omega (arith, he)) z

  -- one step, and that is all
  pub last_step_to : {A : Type 0} (Ends : Result A → World → Type 0) (b h : ℕ) (s : State) (c t : ℕ) (next : Result A → Log → World → State) (r : Result A) (l : Log) (w : World) → 1 ≤ 64 * t + b → Ends r w → step ask code s ≡ next r l w → RunsTo Ends b h s c next (Gives r t c l w)
  last_step_to Ends b h s c t next r l w le fits there = record { n = 1; falls = omega arith; enough = omega arith; in_time = le; comes = there; fits = fits }

  -- no step
  pub no_step_to : {A : Type 0} (Ends : Result A → World → Type 0) (b h : ℕ) (s : State) (c t : ℕ) (next : Result A → Log → World → State) (r : Result A) (l : Log) (w : World) → Ends r w → s ≡ next r l w → RunsTo Ends b h s c next (Gives r t c l w)
  no_step_to Ends b h s c t next r l w fits there = record { n = 0; falls = omega arith; enough = omega arith; in_time = omega arith; comes = there; fits = fits }

  -- one step to the end of an erroneous program
  pub stop_step_to : {A : Type 0} (Ends : Result A → World → Type 0) (b h : ℕ) (s s1 : State) (c t : ℕ) (next : Result A → Log → World → State) (why : Stop) (l : Log) → 3 ≤ 64 * t + h → step ask code s ≡ s1 → s1.log ≡ l → s1.mode ≡ Stopped why → RunsTo Ends b h s c next (Stops why t l)
  stop_step_to Ends b h s s1 c t next why l le there logged over = record { n = 1; in_time = omega (arith, le); logged = ap (λ (x : State). x.log) there ∙ logged; over = ap (λ (x : State). x.mode) there ∙ over }

  -- the same end under another name
  pub arriving_to : {A : Type 0} (Ends : Result A → World → Type 0) (b h : ℕ) (s : State) (c : ℕ) (mid next : Result A → Log → World → State) (o : Out A) → ((r : Result A) (l : Log) (w : World) → mid r l w ≡ next r l w) → RunsTo Ends b h s c mid o → RunsTo Ends b h s c next o
  arriving_to Ends b h s c mid next (Gives r t c1 l w) same a = record { n = a.n; falls = a.falls; enough = a.enough; in_time = a.in_time; comes = a.comes ∙ same r l w; fits = a.fits }
  arriving_to Ends b h s c mid next (Stops why t l) same a = a
  arriving_to Ends b h s c mid next (Cut t c1 l) same a = a

  -- one construct and then another
  pub both_to : {A B : Type 0} (Before : Result A → World → Type 0) (Ends : Result B → World → Type 0) (b h b1 h1 d e : ℕ) (s : State) (c : ℕ) (mid : Result A → Log → World → State) (next : Result B → Log → World → State) (o : Out A) (f : Result A → Act B) → b + b1 ≤ d → h ≤ e → b + h1 ≤ e → RunsTo Before b h s c mid o → ((r : Result A) (c1 : ℕ) (l : Log) (w : World) → c1 ≤ c → Before r w → RunsTo Ends b1 h1 (mid r l w) c1 next (f r c1 l w)) → RunsTo Ends d e s c next (bind o f)
  unfolding bind
  both_to Before Ends b h b1 h1 d e s c mid next (Gives r t c1 l w) f le he fe a z = after_comes_to Ends b b1 h1 d e s (mid r l w) c c1 t next (f r c1 l w) le fe a (z r c1 l w a.falls a.fits)
  both_to Before Ends b h b1 h1 d e s c mid next (Stops why t l) f le he fe a z = record { n = a.n; in_time = omega (arith, a.in_time, he); logged = a.logged; over = a.over }
  both_to Before Ends b h b1 h1 d e s c mid next (Cut t c1 l) f le he fe a z = record { n = a.n; in_time = omega (arith, a.in_time, he); logged = a.logged; going = a.going; why = a.why }

  -- results of which less is true
  pub weaker_to : {A : Type 0} (Ends Less : Result A → World → Type 0) (b h : ℕ) (s : State) (c : ℕ) (next : Result A → Log → World → State) (o : Out A) → ((r : Result A) (w : World) → Ends r w → Less r w) → RunsTo Ends b h s c next o → RunsTo Less b h s c next o
  weaker_to Ends Less b h s c next (Gives r t c1 l w) f z = record { n = z.n; falls = z.falls; enough = z.enough; in_time = z.in_time; comes = z.comes; fits = f r w z.fits }
  weaker_to Ends Less b h s c next (Stops why t l) f z = z
  weaker_to Ends Less b h s c next (Cut t c1 l) f z = z

-- what is true of the worlds that are come to, where a result goes on and where it leaves
module _ (ask : Ask) (code : Code) (Fits : Option Way → World → Type 0) where
  -- the machine does what the meaning gives
  abbrev pub Runs : {A : Type 0} → ℕ → ℕ → State → ℕ → (Result A → Log → World → State) → Out A → Type 0
  Runs b h s c next o = RunsTo ask code (λ r w. Fits (way_of r) w) b h s c next o

  pub after_comes : {A X : Type 0} (b b1 h1 d e : ℕ) (s s1 : State) (c c1 t : ℕ) (next : Result A → Log → World → State) (o : Out A) → b + b1 ≤ d → b + h1 ≤ e → Comes ask code b s c t c1 s1 X → Runs b1 h1 s1 c1 next o → Runs d e s c next (add t o)
  after_comes = after_comes_to ask code (λ r w. Fits (way_of r) w)

  pub added : {A : Type 0} (n b h d e : ℕ) (s : State) (c : ℕ) (next : Result A → Log → World → State) (o : Out A) → b ≤ 64 * n + d → h ≤ 64 * n + e → Runs b h s c next o → Runs d e s c next (add n o)
  added = added_to ask code (λ r w. Fits (way_of r) w)

  pub within : {A : Type 0} (b h d e : ℕ) (s : State) (c : ℕ) (next : Result A → Log → World → State) (o : Out A) → b ≤ d → h ≤ e → Runs b h s c next o → Runs d e s c next o
  within = within_to ask code (λ r w. Fits (way_of r) w)

  pub one_step : {A : Type 0} (b h d e : ℕ) (s s1 : State) (c c1 : ℕ) (next : Result A → Log → World → State) (o : Out A) → b + 1 ≤ d → h + 1 ≤ e → c1 ≤ c → c ≤ c1 + 1 → step ask code s ≡ s1 → Runs b h s1 c1 next o → Runs d e s c next o
  one_step = one_step_to ask code (λ r w. Fits (way_of r) w)

  pub last_step : {A : Type 0} (b h : ℕ) (s : State) (c t : ℕ) (next : Result A → Log → World → State) (r : Result A) (l : Log) (w : World) → 1 ≤ 64 * t + b → Fits (way_of r) w → step ask code s ≡ next r l w → Runs b h s c next (Gives r t c l w)
  last_step = last_step_to ask code (λ r w. Fits (way_of r) w)

  pub no_step : {A : Type 0} (b h : ℕ) (s : State) (c t : ℕ) (next : Result A → Log → World → State) (r : Result A) (l : Log) (w : World) → Fits (way_of r) w → s ≡ next r l w → Runs b h s c next (Gives r t c l w)
  no_step = no_step_to ask code (λ r w. Fits (way_of r) w)

  pub stop_step : {A : Type 0} (b h : ℕ) (s s1 : State) (c t : ℕ) (next : Result A → Log → World → State) (why : Stop) (l : Log) → 3 ≤ 64 * t + h → step ask code s ≡ s1 → s1.log ≡ l → s1.mode ≡ Stopped why → Runs b h s c next (Stops why t l)
  stop_step = stop_step_to ask code (λ r w. Fits (way_of r) w)

  pub arriving : {A : Type 0} (b h : ℕ) (s : State) (c : ℕ) (mid next : Result A → Log → World → State) (o : Out A) → ((r : Result A) (l : Log) (w : World) → mid r l w ≡ next r l w) → Runs b h s c mid o → Runs b h s c next o
  arriving = arriving_to ask code (λ r w. Fits (way_of r) w)

  -- the same with what is a tick, which pays 64 steps
  pub after_paid : {A X : Type 0} (b b1 h1 d e : ℕ) (s s1 : State) (c c1 t : ℕ) (next : Result A → Log → World → State) (o : Out A) → b + b1 ≤ 64 + d → b + h1 ≤ 64 + e → Comes ask code b s c t c1 s1 X → Runs b1 h1 s1 c1 next o → Runs d e s c next (add t (add 1 o))
  unfolding add
  after_paid b b1 h1 d e s s1 c c1 t next (Gives r u c2 l w) le he a z = later_comes ask code a.n b1 d s s1 (next r l w) c c1 c2 u (t + (1 + u)) a.comes a.falls a.enough (omega (arith, a.in_time, le)) z
  after_paid b b1 h1 d e s s1 c c1 t next (Stops why u l) le he a z = later_quits ask code a.n h1 e s s1 u (t + (1 + u)) l why a.comes (omega (arith, a.in_time, he)) z
  after_paid b b1 h1 d e s s1 c c1 t next (Cut u c2 l) le he a z = later_halts ask code a.n h1 e s s1 c c1 u (t + (1 + u)) l a.comes a.enough (omega (arith, a.in_time, he)) z

  -- a few steps more that the meaning does not speak of
  pub further : {A : Type 0} (b h d e j : ℕ) (s : State) (c : ℕ) (mid next : Result A → Log → World → State) (o : Out A) → b + j ≤ d → h ≤ e → Runs b h s c mid o → ((r : Result A) (l : Log) (w : World) → (i : ℕ) × (i ≤ j) × (steps ask code i (mid r l w) ≡ next r l w)) → Runs d e s c next o
  further b h d e j s c mid next (Gives r t c1 l w) le he a z =
      let x = z r l w in
      record { n = x.0 + a.n; falls = a.falls; enough = omega (arith, a.enough); in_time = omega (arith, a.in_time, x.1, le); comes = steps_add ask code x.0 a.n s ∙ ap (steps ask code x.0) a.comes ∙ x.2; fits = a.fits }
  further b h d e j s c mid next (Stops why t l) le he a z = record { n = a.n; in_time = omega (arith, a.in_time, he); logged = a.logged; over = a.over }
  further b h d e j s c mid next (Cut t c1 l) le he a z = record { n = a.n; in_time = omega (arith, a.in_time, he); logged = a.logged; going = a.going; why = a.why }

  -- a construct that is left is a tick, which pays 64 steps
  pub left_behind : {A : Type 0} (b h d e : ℕ) (s : State) (c : ℕ) (next : Result A → Log → World → State) (o : Out A) → b ≤ 64 + d → h ≤ e → Runs b h s c next o → Runs d e s c next (bind o (λ r c1 l1 w1. Gives r 1 c1 l1 w1))
  unfolding bind add
  left_behind b h d e s c next (Gives r t c1 l w) le he a = record { n = a.n; falls = a.falls; enough = a.enough; in_time = omega (arith, a.in_time, le); comes = a.comes; fits = a.fits }
  left_behind b h d e s c next (Stops why t l) le he a = record { n = a.n; in_time = omega (arith, a.in_time, he); logged = a.logged; over = a.over }
  left_behind b h d e s c next (Cut t c1 l) le he a = record { n = a.n; in_time = omega (arith, a.in_time, he); logged = a.logged; going = a.going; why = a.why }

  -- one step more, which some ticks more pay
  pub then_step : {X Y : Type 0} (b d : ℕ) (s s1 s2 : State) (c c1 t u : ℕ) → Comes ask code b s c t c1 s1 X → step ask code s1 ≡ s2 → Y → 64 * t + b + 1 ≤ 64 * u + d → Comes ask code d s c u c1 s2 Y
  then_step b d s s1 s2 c c1 t u z next fits time =
      record { n = suc z.n; falls = z.falls; enough = omega (arith, z.enough); in_time = omega (arith, z.in_time, time); comes = ap (step ask code) z.comes ∙ next; fits = fits }

  -- the same with more ticks
  pub more_quits : (h e : ℕ) (s : State) (t u : ℕ) (l : Log) (why : Stop) → 64 * t + h ≤ 64 * u + e → Quits ask code h s t l why → Quits ask code e s u l why
  more_quits h e s t u l why time z = record { n = z.n; in_time = omega (arith, z.in_time, time); logged = z.logged; over = z.over }

  pub more_halts : (h e : ℕ) (s : State) (c t u : ℕ) (l : Log) → 64 * t + h ≤ 64 * u + e → Halts ask code h s c t l → Halts ask code e s c u l
  more_halts h e s c t u l time z = record { n = z.n; in_time = omega (arith, z.in_time, time); logged = z.logged; going = z.going; why = z.why }

  -- one step that no tick pays, and that is all
  pub end_step : {A : Type 0} (h : ℕ) (s : State) (c t : ℕ) (next : Result A → Log → World → State) (r : Result A) (l : Log) (w : World) → Fits (way_of r) w → step ask code s ≡ next r l w → Runs 1 h s c next (Gives r t c l w)
  end_step h s c t next r l w fits there = last_step 1 h s c t next r l w (omega arith) fits there

  -- one step more to the end of an erroneous program
  pub then_stops : {X : Type 0} (b h : ℕ) (s s1 s2 : State) (c c1 t u : ℕ) (l : Log) (why : Stop) → Comes ask code b s c t c1 s1 X → step ask code s1 ≡ s2 → s2.log ≡ l → s2.mode ≡ Stopped why → 64 * t + b + 3 ≤ 64 * u + h → Quits ask code h s u l why
  then_stops b h s s1 s2 c c1 t u l why z next logged over time =
      let e : steps ask code (suc z.n) s ≡ s2 = ap (step ask code) z.comes ∙ next in
      record { n = suc z.n; in_time = omega (arith, z.in_time, time); logged = ap (λ (x : State). x.log) e ∙ logged; over = ap (λ (x : State). x.mode) e ∙ over }

-- and of the worlds between one construct and another
module _ (ask : Ask) (code : Code) (Before Fits : Option Way → World → Type 0) where
  -- one construct and then another
  pub both : {A B : Type 0} (b h b1 h1 d e : ℕ) (s : State) (c : ℕ) (mid : Result A → Log → World → State) (next : Result B → Log → World → State) (o : Out A) (f : Result A → Act B) → b + b1 ≤ d → h ≤ e → b + h1 ≤ e → Runs ask code Before b h s c mid o → ((r : Result A) (c1 : ℕ) (l : Log) (w : World) → c1 ≤ c → Before (way_of r) w → Runs ask code Fits b1 h1 (mid r l w) c1 next (f r c1 l w)) → Runs ask code Fits d e s c next (bind o f)
  both = both_to ask code (λ r w. Before (way_of r) w) (λ r w. Fits (way_of r) w)

  -- a stretch, a construct, and then what follows it
  pub both_from : {A B X : Type 0} (b0 b h h1 e d : ℕ) (s0 s : State) (c0 c t0 : ℕ) (mid : Result A → Log → World → State) (next : Result B → Log → World → State) (o : Out A) (f : Result A → Act B) → b0 + b ≤ h1 → b0 + h ≤ e → Comes ask code b0 s0 c0 t0 c s X → Runs ask code Before b h s c mid o
      → ((r : Result A) (t c1 : ℕ) (l : Log) (w : World) → c1 ≤ c → Before (way_of r) w → Comes ask code h1 s0 c0 t c1 (mid r l w) (Before (way_of r) w) → Runs ask code Fits d e s0 c0 next (add t (f r c1 l w))) → Runs ask code Fits d e s0 c0 next (add t0 (bind o f))
  unfolding bind add
  both_from b0 b h h1 e d s0 s c0 c t0 mid next (Gives r t c1 l w) f le he front a z =
      subst (Runs ask code Fits d e s0 c0 next) (add_add t0 t (f r c1 l w))
      (z r (t0 + t) c1 l w a.falls a.fits (later_comes ask code front.n b h1 s0 s (mid r l w) c0 c c1 t (t0 + t) front.comes front.falls front.enough (omega (arith, front.in_time, le)) a))
  both_from b0 b h h1 e d s0 s c0 c t0 mid next (Stops why t l) f le he front a z = later_quits ask code front.n h e s0 s t (t0 + t) l why front.comes (omega (arith, front.in_time, he)) a
  both_from b0 b h h1 e d s0 s c0 c t0 mid next (Cut t c1 l) f le he front a z = later_halts ask code front.n h e s0 s c0 c t (t0 + t) l front.comes front.enough (omega (arith, front.in_time, he)) a

module _ (ask : Ask) (code : Code) (Fits : Option Way → World → Type 0) where
  -- statements one after another, where the first may leave
  pub in_row : (b h b1 h1 d e : ℕ) (s : State) (c : ℕ) (x : Target) (v : List ℕ) (place place1 : ℕ) (k : List Frame) (ops : List Word) (o : Out Done) (f : Act Done) → b + b1 ≤ d → h ≤ e → b + h1 ≤ e → Runs ask code Fits b h s c (arrives x v place k ops) o → ((c1 : ℕ) (l : Log) (w : World) → c1 ≤ c → Fits None w → Runs ask code Fits b1 h1 (at v place k ops l w) c1 (arrives x v place1 k ops) (f c1 l w)) → Runs ask code Fits d e s c (arrives x v place1 k ops) (bind o (on_goes (λ _. f)))
  unfolding on_goes given
  in_row b h b1 h1 d e s c x v place place1 k ops o f le he fe a z = both ask code Fits Fits b h b1 h1 d e s c (arrives x v place k ops) (arrives x v place1 k ops) o (on_goes (λ _. f)) le he fe a rest
    where
      rest : (r : Result Done) (c1 : ℕ) (l : Log) (w : World) → c1 ≤ c → Fits (way_of r) w → Runs ask code Fits b1 h1 (arrives x v place k ops r l w) c1 (arrives x v place1 k ops) (on_goes (λ _. f) r c1 l w)
      rest (Goes u) c1 l w le1 fits = z c1 l w le1 fits
      rest (Leaves y) c1 l w le1 fits = no_step ask code Fits b1 h1 (leads x y v k ops l w) c1 0 (arrives x v place1 k ops) (Leaves y) l w fits refl

  -- worlds of which less is true
  pub weaker : {A : Type 0} (Less : Option Way → World → Type 0) (b h : ℕ) (s : State) (c : ℕ) (next : Result A → Log → World → State) (o : Out A) → ((y : Option Way) (w : World) → Fits y w → Less y w) → Runs ask code Fits b h s c next o → Runs ask code Less b h s c next o
  weaker Less b h s c next o f = weaker_to ask code (λ r w. Fits (way_of r) w) (λ r w. Less (way_of r) w) b h s c next o (λ r. f (way_of r))

-- Joined constructs joined again ------------------------------------------------------------------

pub add_none : {A : Type 0} (o : Out A) → add 0 o ≡ o
unfolding add
add_none (Gives r t c l w) = let e : 0 + t ≡ t = omega arith in ap (λ n. Gives r n c l w) e
add_none (Stops why t l) = let e : 0 + t ≡ t = omega arith in ap (λ n. Stops why n l) e
add_none (Cut t c l) = let e : 0 + t ≡ t = omega arith in ap (λ n. Cut n c l) e

pub bind_add : {A B : Type 0} (t : ℕ) (o : Out A) (g : Result A → Act B) → bind (add t o) g ≡ add t (bind o g)
unfolding add bind
bind_add t (Gives r u c l w) g = add_add t u (g r c l w)
bind_add t (Stops why u l) g = refl
bind_add t (Cut u c l) g = refl

pub bind_bind : {A B C : Type 0} (o : Out A) (f : Result A → Act B) (g : Result B → Act C) → bind (bind o f) g ≡ bind o (λ r c l w. bind (f r c l w) g)
unfolding bind
bind_bind (Gives r t c l w) f g = bind_add t (f r c l w) g
bind_bind (Stops why t l) f g = refl
bind_bind (Cut t c l) f g = refl
