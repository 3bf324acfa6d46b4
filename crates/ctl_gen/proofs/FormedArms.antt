-- The arms of a conditional statement are well formed where their turns are: the end of the first one skips the rest, and each other one
-- leads back to it.
use Rattle.std.proofs.Common.{◌≡◌, ℕ, ◌+◌, ◌-◌, ◌≤◌, List, [], ◌∷◌, ◌++◌, length, Some, refl, subst, arith, append_assoc, length-append}
use Rattle.ctl_well_typed.specs.Setting as W
use Rattle.ctl_code.specs.declared.code.Instr.{Instr}
use Rattle.ctl_code.specs.declared.code.Instr.TheVariants as InstrOf
use Rattle.ctl_code.specs.declared.code.Code.{Code}
use Rattle.ctl_code.specs.Valid.{IsFine, Leads}
use Rattle.ctl_layout.specs.Around.{Around, behind}
use Rattle.ctl_layout.specs.Layout.{ArmCode, StatementCode, arm_with, arms_code, arms_texts, branches, rest_code, turn_code}
use Rattle.ctl_gen.proofs.Place.{HasAt}
use Rattle.ctl_gen.proofs.Place as Place
use Rattle.ctl_gen.proofs.Formed.{both_at, FormedAt, Has, has_back, has_end, leads_at}
use Rattle.ctl_gen.proofs.FormedAround.{Agrees, CanLeave, leave_behind}
use Rattle.ctl_gen.proofs.FormedLines.{ended_formed}
use Rattle.ctl_gen.proofs.FormedStatements.{Stays, Turns}

module _ (code : Code) (env : W.Frames) where
  abbrev pub GoodArms : List ArmCode → Type 0
  GoodArms [] = Unit {0}
  GoodArms (x ∷ more) = Turns code env x.body.texts (turn_code x) × GoodArms more

  -- an arm whose end is fine where it stands
  arm_formed : (x : ArmCode) (end : Instr) (a : Around) (n p : ℕ) → Turns code env x.body.texts (turn_code x) → Agrees code env a.stack → HasAt code.texts.items n x.body.texts → CanLeave code p a → IsFine code (p + length (turn_code x a n)) end a.stack → FormedAt code p (arm_with x end a n) a.stack (Some a.stack)
  arm_formed x end a n p turns agrees texts can fine = ended_formed code p (turn_code x a n) end a.stack (λ next. turns a n p agrees texts can next) (λ next. fine)

  -- further arms, whose ends lead back to the end of the first one
  further_formed : (arms : List ArmCode) → GoodArms arms → (a : Around) (n back p first : ℕ) → Agrees code env a.stack → HasAt code.texts.items n (arms_texts arms) → CanLeave code p a → first + back ≡ p → Leads code first a.stack → FormedAt code p (arms_code back arms a n) a.stack (Some a.stack)
  further_formed [] good a n back p first agrees texts can from lead = λ h. (h, tt)
  further_formed (x ∷ more) good a n back p first agrees texts can from lead =
      let s = a.stack in
      let turn = turn_code x a n in
      let size = length turn in
      let end = InstrOf.Back (back + size) in
      let arm = arm_with x end a n in
      let n1 = n + length x.body.texts in
      let counted : length arm ≡ size + 1 = length-append turn ((end, s) ∷ []) in
      let within : back + size ≤ p + size = omega (arith, from) in
      let there : first ≡ p + size - (back + size) = omega (arith, from) in
      let next : first + (back + size + 1) ≡ p + length arm = omega (arith, from, counted) in
      let on : p + (size + 1) ≡ p + length arm = omega (arith, counted) in
      both_at code p arm (arms_code (back + size + 1) more (behind (size + 1) a) n1) s s (Some s)
      (arm_formed x end a n p good.0 agrees (Place.has_front code.texts.items n x.body.texts (arms_texts more) texts) can (within, leads_at code first (p + size - (back + size)) s there lead))
      (further_formed more good.1 (behind (size + 1) a) n1 (back + size + 1) (p + length arm) first agrees (Place.has_back code.texts.items n x.body.texts (arms_texts more) texts) (leave_behind code p (size + 1) (p + length arm) a on can) next lead)

  pub branches_stay : (arms : List ArmCode) (others : StatementCode) → GoodArms arms → Stays code env others.texts others.code → Stays code env (branches arms others).texts (branches arms others).code
  branches_stay [] others good h a n p agrees texts can has = h a n p agrees texts can has
  branches_stay (x ∷ more) others good h a n p agrees texts can has =
      let s = a.stack in
      let turn = turn_code x a n in
      let size = length turn in
      let b = behind (size + 1) a in
      let n1 = n + length x.body.texts in
      let n2 = n1 + length (arms_texts more) in
      let further = arms_code 1 more b n1 in
      let count = length further in
      let rest = rest_code more others b n1 in
      let end = InstrOf.Skip (length rest) in
      let arm = arm_with x end a n in
      let first = p + size in
      let q = p + length arm in
      let counted : length arm ≡ size + 1 = length-append turn ((end, s) ∷ []) in
      let on : p + (size + 1) ≡ q = omega (arith, counted) in
      let next : first + 1 ≡ q = omega (arith, counted) in
      let last : p + length (arm ++ rest) ≡ first + 1 + length rest = omega (arith, counted, length-append arm rest) in
      let skips = leads_at code (p + length (arm ++ rest)) (first + 1 + length rest) s last (has_end code p (arm ++ rest) (Some s) has) in
      let lead = (has_back code p turn ((end, s) ∷ rest) (Some s) (subst (λ ls. Has code p ls (Some s)) (append_assoc turn ((end, s) ∷ []) rest) has)).0 in
      let texts0 = Place.has_front code.texts.items n (arms_texts (x ∷ more)) others.texts texts in
      let texts1 = Place.has_back code.texts.items n x.body.texts (arms_texts more) texts0 in
      let texts2 = Place.has_back code.texts.items n (arms_texts (x ∷ more)) others.texts texts in
      let printed : n + length (arms_texts (x ∷ more)) ≡ n2 = omega (arith, length-append x.body.texts (arms_texts more)) in
      let can1 = leave_behind code p (size + 1) q a on can in
      both_at code p arm rest s s (Some s)
      (arm_formed x end a n p good.0 agrees (Place.has_front code.texts.items n x.body.texts (arms_texts more) texts0) can skips)
      (both_at code q further (others.code (behind count b) n2) s s (Some s)
      (further_formed more good.1 b n1 1 q first agrees texts1 can1 next lead)
      (h (behind count b) n2 (q + count) agrees (subst (λ m. HasAt code.texts.items m others.texts) printed texts2) (leave_behind code q count (q + count) b refl can1)))
      has
