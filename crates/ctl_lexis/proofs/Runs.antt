-- The bytes at the front that pass a test, and the rest.
use Rattle.std.proofs.Common.{◌≡◌, ℕ, suc, ◌+◌, Bool, true, false, List, [], ◌∷◌, ◌++◌, length, take, drop, refl, sym, ap, ◌∙◌, arith}
use Rattle.std.specs.List.{prefix_len}
use Rattle.std.proofs.lemmas.List.{take_at, drop_at}
use Rattle.ctl_lexis.specs.Bytes.{run}
use Rattle.ctl_lexis.specs.Pieces.{Passes, Stops}

-- the bytes in front, and what stands behind them
pub record Run (p : ℕ → Bool) (bytes : List ℕ) : Type 0 where
  pub body : List ℕ
  pub rest : List ℕ
  pub parts : bytes ≡ body ++ rest
  pub pass : Passes p body
  pub stops : Stops p rest
  pub len : run p bytes ≡ length body

run_more : (p : ℕ → Bool) (b : ℕ) (bytes : List ℕ) → p b ≡ true → run p (b ∷ bytes) ≡ suc (run p bytes)
run_more p b bytes e =
    let one : 1 + prefix_len p bytes ≡ suc (prefix_len p bytes) = omega arith in
    rw e (ap (λ (m : ℕ). length (take m (b ∷ bytes))) one)

pub run_of : (p : ℕ → Bool) (bytes : List ℕ) → Run p bytes
run_of p [] = record { body = []; rest = []; parts = refl; pass = tt; stops = tt; len = refl }
run_of p (b ∷ bytes) =
    let more = run_of p bytes in
    let at : (t : Bool) → p b ≡ t → Run p (b ∷ bytes) = elim [
      | true ↦ λ e. record { body = b ∷ more.body; rest = more.rest; parts = ap (λ (us : List ℕ). b ∷ us) more.parts; pass = (e, more.pass); stops = more.stops; len = run_more p b bytes e ∙ ap suc more.len }
      | false ↦ λ e. record { body = []; rest = b ∷ bytes; parts = refl; pass = tt; stops = e; len = rw e refl }
    ] in at (p b) refl

-- where the first byte passes, the bytes in front begin with it
pub run_from : (p : ℕ → Bool) (b : ℕ) (bytes : List ℕ) → p b ≡ true → (r : Run p (b ∷ bytes)) × (more : List ℕ) × (r.body ≡ b ∷ more)
run_from p b bytes e =
    let more = run_of p bytes in
    (record { body = b ∷ more.body; rest = more.rest; parts = ap (λ (us : List ℕ). b ∷ us) more.parts; pass = (e, more.pass); stops = more.stops; len = run_more p b bytes e ∙ ap suc more.len }, more.body, refl)

-- these bytes, and a rest that does not go on
pub run_again : (p : ℕ → Bool) (body rest : List ℕ) → Passes p body → Stops p rest → run p (body ++ rest) ≡ length body
run_again p [] [] pass stops = refl
run_again p [] (b ∷ rest) pass stops = rw stops refl
run_again p (b ∷ body) rest pass stops = run_more p b (body ++ rest) pass.0 ∙ ap suc (run_again p body rest pass.1 stops)

pub taken : (p : ℕ → Bool) (body rest : List ℕ) → run p (body ++ rest) ≡ length body → take (run p (body ++ rest)) (body ++ rest) ≡ body
taken p body rest len = take_at body rest (run p (body ++ rest)) (sym len)

pub dropped : (p : ℕ → Bool) (body rest : List ℕ) → run p (body ++ rest) ≡ length body → drop (run p (body ++ rest)) (body ++ rest) ≡ rest
dropped p body rest len = drop_at body rest (run p (body ++ rest)) (sym len)
