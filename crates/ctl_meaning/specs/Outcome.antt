-- How a construct ends, and how constructs are joined.
use Rattle.std.specs.Prelude.{ℕ, zero, suc, ◌+◌, List, [], ◌∷◌, ◌++◌, Option, Some, None, Bool, true, false}
use Rattle.ctl_program.specs.Library as library
use Rattle.ctl_tree.specs.declared.ending.Stop.{Stop}
use Rattle.ctl_tree.specs.declared.event.Event.{Event}
use Rattle.ctl_meaning.specs.World.{Log, World}
use Rattle.ctl_meaning.specs.Choice.{Ask, picked}

-- a transfer of control: an exit statement, a return statement with its value, or an exception (5.7, 6.5, 11.3)
pub data Way : Type 0 where
  ByExit : Way
  ByReturn : (cells : List ℕ) → Way
  ByRaise : (exception : ℕ) → Way

-- whether it completes the loop that is left, and the execution goes on behind that: an exit statement does (5.7)
abbrev pub completes_loop : Way → Bool
completes_loop ByExit = true
completes_loop y = false

-- the exception, if it is one
abbrev pub raised_by : Way → Option ℕ
raised_by (ByRaise e) = Some e
raised_by y = None

-- a construct goes on with a value, or control leaves it
pub data Result (A : Type 0) : Type 0 where
  Goes : (a : A) → Result A
  Leaves : (way : Way) → Result A

-- a result with the ticks that it took, the clock that is left, the log and the world; a stop; or a cut, where the clock is 0 or a choice is not answered
pub data Out (A : Type 0) : Type 0 where
  Gives : (r : Result A) (t c : ℕ) (l : Log) (w : World) → Out A
  Stops : (s : Stop) (t : ℕ) (l : Log) → Out A
  Cut : (t c : ℕ) (l : Log) → Out A

-- what is done from a clock, a log and a world
abbrev pub Act : Type 0 → Type 0
Act A = ℕ → Log → World → Out A

-- no value
abbrev pub Done : Type 0
Done = Unit {0}

-- the predefined exceptions, which the definitions of runs do not open (11.1)
unfoldable pub constraint_error : ℕ
constraint_error = library.constraint_error

unfoldable pub program_error : ℕ
program_error = library.program_error

unfoldable pub storage_error : ℕ
storage_error = library.storage_error

-- One after another ----------------------------------------------------------

-- n ticks more
unfoldable pub add : {A : Type 0} → ℕ → Out A → Out A
add n (Gives r t c l w) = Gives r (n + t) c l w
add n (Stops s t l) = Stops s (n + t) l
add n (Cut t c l) = Cut (n + t) c l

unfoldable pub bind : {A B : Type 0} → Out A → (Result A → Act B) → Out B
bind (Gives r t c l w) f = add t (f r c l w)
bind (Stops s t l) f = Stops s t l
bind (Cut t c l) f = Cut t c l

-- whatever the first gives
unfoldable pub then_always : {A B : Type 0} → Act A → (Result A → Act B) → Act B
then_always m f c l w = bind (m c l w) f

-- this result
unfoldable pub given : {A : Type 0} → Result A → Act A
given r c l w = Gives r 0 c l w

unfoldable pub on_goes : {A B : Type 0} → (A → Act B) → Result A → Act B
on_goes f (Goes a) = f a
on_goes f (Leaves y) = given (Leaves y)

-- one after another, while nothing leaves
unfoldable pub ◌>>=◌ : {A B : Type 0} → Act A → (A → Act B) → Act B
◌>>=◌ m f = then_always m (on_goes f)

unfoldable pub ◌>>◌ : {A B : Type 0} → Act A → Act B → Act B
◌>>◌ m n = then_always m (on_goes (λ _. n))

infixl 1 ◌>>=◌
infixl 1 ◌>>◌
unfoldable pub done : {A : Type 0} → A → Act A
done a = given (Goes a)

unfoldable pub nothing : Act Done
nothing = given (Goes tt)

unfoldable pub leave_by : {A : Type 0} → Way → Act A
leave_by y = given (Leaves y)

unfoldable pub raise : {A : Type 0} → ℕ → Act A
raise e = given (Leaves (ByRaise e))

-- the program is erroneous here: nothing more happens
unfoldable pub stop : {A : Type 0} → Stop → Act A
stop s c l w = Stops s 0 l

-- Ticks and the clock --------------------------------------------------------

-- n ticks, and then the rest
unfoldable pub counted : {A : Type 0} → ℕ → Act A → Act A
counted n m c l w = add n (m c l w)

unfoldable pub ticked : {A : Type 0} → Act A → Act A
ticked m = counted 1 m

-- one is taken from the clock
unfoldable pub spend : {A : Type 0} → Act A → Act A
spend m zero l w = Cut 0 0 l
spend m (suc c) l w = m c l w

-- The world, events and choices ----------------------------------------------

unfoldable pub look : {A : Type 0} → (World → Act A) → Act A
look f c l w = f w c l w

unfoldable pub change : (World → World) → Act Done
change f c l w = Gives (Goes tt) 0 c l (f w)

unfoldable pub tell : Event → Log → Log
tell e l = record { trace = l.trace ++ e ∷ []; taken = l.taken }

unfoldable pub show : Event → Act Done
show e c l w = Gives (Goes tt) 0 c (tell e l) w

unfoldable pub after_pick : Option (ℕ × Log) → ℕ → Log → World → Out ℕ
after_pick None c l w = Cut 0 c l
after_pick (Some p) c l w = Gives (Goes p.0) 0 c p.1 w

unfoldable pub answered : Ask → ℕ → Act ℕ
answered ask m c l w = after_pick (picked ask m l) c l w

-- a choice among m; each candidate is a tick
unfoldable pub choose : Ask → ℕ → Act ℕ
choose ask m = counted m (answered ask m)

-- Cases ----------------------------------------------------------------------

-- a value, or the exception that came in its place
pub data Tried (A : Type 0) : Type 0 where
  Fine : (a : A) → Tried A
  Raised : (exception : ℕ) → Tried A

-- an exception becomes a value
abbrev pub tried : {A : Type 0} → Result A → Result (Tried A)
tried (Goes a) = Goes (Fine a)
tried (Leaves (ByRaise e)) = Goes (Raised e)
tried (Leaves y) = Leaves y

unfoldable pub told : {A : Type 0} → Result A → Act (Tried A)
told r = given (tried r)

unfoldable pub attempt : {A : Type 0} → Act A → Act (Tried A)
attempt m = then_always m told

unfoldable pub either : {A : Type 0} → Bool → Act A → Act A → Act A
either true m n = m
either false m n = n

unfoldable pub when : Bool → Act Done → Act Done
when b m = either b m nothing

unfoldable pub on_some : {A B : Type 0} → Option A → Act B → (A → Act B) → Act B
on_some None m f = m
on_some (Some a) m f = f a

-- everything here, opened at once
unfoldable pub opened_outcome : Unit {0}
unfolding constraint_error program_error storage_error add bind then_always given on_goes ◌>>=◌ ◌>>◌ done nothing leave_by raise stop counted ticked spend look change tell show after_pick answered choose told attempt either when on_some
opened_outcome = tt
