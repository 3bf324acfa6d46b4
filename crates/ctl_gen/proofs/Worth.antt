-- What follows an expression, with its one cell or where it leaves. What else it does to the world is not spoken of.
use Rattle.std.proofs.Common.{◌≡◌, ℕ, ◌+◌, ◌≤◌, List, [], ◌∷◌, sym, ap, ◌∙◌, subst, arith}
use Rattle.ctl_meaning.specs.World.{Log, World}
use Rattle.ctl_meaning.specs.Choice.{Ask}
use Rattle.ctl_meaning.specs.Outcome.{ByRaise, Result, Goes, Leaves, Out, Act, add, bind}
use Rattle.ctl_code.specs.declared.code.Code.{Code}
use Rattle.ctl_code.specs.States.{State}
use Rattle.ctl_gen.proofs.Cells.{OneCell}
use Rattle.ctl_gen.proofs.Follow.{by_raise, RunsTo, added_to, both_to, bind_add}

module _ (ask : Ask) (code : Code) (Fits : World → Type 0) where
  -- of the result of what follows this is true
  pub both_cell : {B : Type 0} (Ends : Result B → World → Type 0) (P : ℕ → World → Type 0) (b h b1 h1 d e : ℕ) (s : State) (c : ℕ) (mid : Result (List ℕ) → Log → World → State) (next : Result B → Log → World → State) (o : Out (List ℕ)) (f : Result (List ℕ) → Act B) → b + b1 ≤ d → h ≤ e → b + h1 ≤ e → RunsTo ask code (OneCell Fits P) b h s c mid o → ((n c1 : ℕ) (l : Log) (w : World) → c1 ≤ c → Fits w → P n w → RunsTo ask code Ends b1 h1 (mid (Goes (n ∷ [])) l w) c1 next (f (Goes (n ∷ [])) c1 l w)) → ((y c1 : ℕ) (l : Log) (w : World) → c1 ≤ c → Fits w → RunsTo ask code Ends b1 h1 (mid (Leaves (ByRaise y)) l w) c1 next (f (Leaves (ByRaise y)) c1 l w)) → RunsTo ask code Ends d e s c next (bind o f)
  both_cell Ends P b h b1 h1 d e s c mid next o f le he fe a z y = both_to ask code (OneCell Fits P) Ends b h b1 h1 d e s c mid next o f le he fe a by
    where
      by : (r : Result (List ℕ)) (c1 : ℕ) (l : Log) (w : World) → c1 ≤ c → OneCell Fits P r w → RunsTo ask code Ends b1 h1 (mid r l w) c1 next (f r c1 l w)
      by (Goes u) c1 l w lo is = subst (λ v. RunsTo ask code Ends b1 h1 (mid (Goes v) l w) c1 next (f (Goes v) c1 l w)) (sym is.1.1) (z is.1.0 c1 l w lo is.0 is.1.2)
      by (Leaves x) c1 l w lo is = by_raise (λ v. RunsTo ask code Ends b1 h1 (mid (Leaves v) l w) c1 next (f (Leaves v) c1 l w)) (λ v. y v c1 l w lo is.0) x is.1

  -- an expression whose first tick pays all but eight steps, of its own and of what follows
  pub then_paid : {B : Type 0} (Ends : Result B → World → Type 0) (P : ℕ → World → Type 0) (s : State) (c : ℕ) (mid : Result (List ℕ) → Log → World → State) (next : Result B → Log → World → State) (o out : Out (List ℕ)) (f : Result (List ℕ) → Act B) → o ≡ add 1 out → RunsTo ask code (OneCell Fits P) 8 8 s c mid out → ((n c1 : ℕ) (l : Log) (w : World) → c1 ≤ c → Fits w → P n w → RunsTo ask code Ends 8 8 (mid (Goes (n ∷ [])) l w) c1 next (f (Goes (n ∷ [])) c1 l w)) → ((y c1 : ℕ) (l : Log) (w : World) → c1 ≤ c → Fits w → RunsTo ask code Ends 8 8 (mid (Leaves (ByRaise y)) l w) c1 next (f (Leaves (ByRaise y)) c1 l w)) → RunsTo ask code Ends 0 0 s c next (bind o f)
  then_paid Ends P s c mid next o out f is a z y =
      subst (λ q. RunsTo ask code Ends 0 0 s c next q) (sym (ap (λ q. bind q f) is ∙ bind_add 1 out f))
      (added_to ask code Ends 1 16 16 0 0 s c next (bind out f) (omega arith) (omega arith)
      (both_cell Ends P 8 8 8 8 16 16 s c mid next out f (omega arith) (omega arith) (omega arith) a z y))
