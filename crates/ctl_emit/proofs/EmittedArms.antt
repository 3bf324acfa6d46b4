-- What the emitter makes of a conditional statement is its layout.
use Rattle.std.proofs.Common.{◌≡◌, ℕ, ◌+◌, ◌-◌, ◌≤◌, List, [], ◌∷◌, ◌++◌, length, length-drop, map, take, drop, Option, Some, refl, sym, ap, ◌∙◌, arith, append_assoc, length-append}
use Rattle.std.proofs.lemmas.List.{take_all}
use denote.Param.Weighed.{most}
use Rattle.ctl_program.specs.declared.statement.Arm.{Arm, out-Arm}
use Rattle.ctl_program.specs.declared.statement.Stmt.{Stmt}
use Rattle.ctl_code.specs.declared.code.Instr.{Instr}
use Rattle.ctl_code.specs.declared.code.Instr.TheVariants.{Back, Skip}
use Rattle.ctl_code.specs.declared.kinds.Kind.{Kind}
use Rattle.ctl_code.specs.declared.template.TextPart.{TextPart}
use Rattle.ctl_layout.specs.Around.{Line, Landing, BeforeLoop, OutOfMaster, Around, behind, further}
use Rattle.ctl_emitter.specs.Emitted.{Emitted, appended, around, first_end, further_arms, lined, one, open_arms, set_at, skipping, stated}
use Rattle.ctl_layout.specs.Layout.{StatementCode, ArmCode, all, always, arm_code, arms_code, arms_texts, branches, rest_code, statement_code, tested, turn_code}
use Rattle.ctl_layout.specs.Values.{value_code}
use Rattle.ctl_layout.proofs.StatementLayers.{arm_is}
use Rattle.ctl_emitter.proofs.Emission.{IsWithin, count_more, counted_behind, joined, nothing, one_longer, stated_both, stated_lined, written_anew}

-- an arm as a statement under its condition
abbrev pub guarded : ArmCode → StatementCode
guarded x = tested x.test x.body

-- an arm by its parts
pub arm_emitted : (x : Arm) (xs : List Stmt) (landing : Option ℕ) (e0 e1 : Emitted) → xs ≡ (out-Arm x).body → e1 ≡ stated (tested (value_code (out-Arm x).test) (all (map statement_code xs))) landing e0 → e1 ≡ stated (guarded (arm_code x)) landing e0
arm_emitted x xs landing e0 e1 same a = a ∙ ap (λ ys. stated (tested (value_code (out-Arm x).test) (all (map statement_code ys))) landing e0) same ∙ ap (λ (y : ArmCode). stated (guarded y) landing e0) (sym (arm_is x))

-- a stretch with what stands at its end
abbrev ended_code : StatementCode → ℕ → Around → ℕ → List Line
ended_code x back a n = x.code a n ++ (Back back, a.stack) ∷ []

abbrev ended : StatementCode → ℕ → StatementCode
ended x back = record { runs = always; texts = x.texts; code = ended_code x back }

abbrev turned_code : StatementCode → (ℕ → Around → ℕ → List Line) → ℕ → Around → ℕ → List Line
turned_code x rest back a n =
    let size = length (x.code a n) in
    ended_code x (back + size) a n ++ rest (back + size + 1) (behind (size + 1) a) (n + length x.texts)

-- a stretch with an end that leads back to a place, and what stands behind it, which depends on how far back that is
pub next_turn : (x : StatementCode) (rest : ℕ → Around → ℕ → List Line) (ts : List (List TextPart)) (landing : Option ℕ) (e0 e1 e2 : Emitted) (end back : ℕ) → IsWithin landing e0 → end ≤ length e0.instructions → e1 ≡ stated x landing e0 → back ≡ length e1.instructions - end → e2 ≡ lined (one (Back back)) e1 → stated (record { runs = always; texts = ts; code = rest (length e2.instructions - end) }) landing e2 ≡ stated (record { runs = always; texts = x.texts ++ ts; code = turned_code x rest (length e0.instructions - end) }) landing e0
next_turn x rest ts landing e0 e1 e2 end back within lt h from b =
    let s = e0.notes.standing in
    let n = length e0.texts in
    let a = around landing e0 in
    let turn = x.code a n in
    let start = length e0.instructions - end in
    let texts = x.texts ++ ts in
    let k = length e2.instructions - end in
    let behind_it : StatementCode = record { runs = always; texts = ts; code = rest k } in
    let arm : e2 ≡ stated (ended x back) landing e0 = stated_lined x (one (Back back)) landing e0 e1 e2 h b in
    let longer = one_longer turn (Back back, s) in
    let l1 = count_more turn x.texts s e0 e1 h in
    let l2 = count_more (turn ++ (Back back, s) ∷ []) x.texts s e0 e2 arm in
    let here : back ≡ start + length turn = omega (arith, from, l1, lt) in
    let next : k ≡ start + length turn + 1 = omega (arith, l2, longer, lt) in
    stated_both (ended x back) behind_it landing e0 e2 (stated behind_it landing e2) within arm refl
    ∙ ap (λ j. appended ((turn ++ (Back back, s) ∷ []) ++ rest k (behind j a) (n + length x.texts)) texts s e0) longer
    ∙ ap (λ j. appended ((turn ++ (Back back, s) ∷ []) ++ rest j (behind (length turn + 1) a) (n + length x.texts)) texts s e0) next
    ∙ ap (λ j. appended ((turn ++ (Back j, s) ∷ []) ++ rest (start + length turn + 1) (behind (length turn + 1) a) (n + length x.texts)) texts s e0) here

-- a further arm, and those behind it
pub next_arm : (x : ArmCode) (rest : List ArmCode) (landing : Option ℕ) (e0 e1 e2 : Emitted) (end back : ℕ) → IsWithin landing e0 → end ≤ length e0.instructions → e1 ≡ stated (guarded x) landing e0 → back ≡ length e1.instructions - end → e2 ≡ lined (one (Back back)) e1 → stated (further_arms (length e2.instructions - end) rest) landing e2 ≡ stated (further_arms (length e0.instructions - end) (x ∷ rest)) landing e0
next_arm x rest landing e0 e1 e2 end back within lt h from b = next_turn (guarded x) (λ k. arms_code k rest) (arms_texts rest) landing e0 e1 e2 end back within lt h from b

-- the end of the first arm stands before
pub end_before : (x : StatementCode) (i : Instr) (landing : Option ℕ) (e0 e1 e2 : Emitted) (end : ℕ) → end ≤ length e0.instructions → e1 ≡ stated x landing e0 → e2 ≡ lined (one i) e1 → end ≤ length e2.instructions
end_before x i landing e0 e1 e2 end lt a b =
    let l1 = count_more (x.code (around landing e0) (length e0.texts)) x.texts e0.notes.standing e0 e1 a in
    let l2 = count_more (one i e1.notes.standing) [] e1.notes.standing e1 e2 b in
    omega (arith, l1, l2, lt)

pub end_at : (i : Instr) (e0 e1 : Emitted) (end : ℕ) → end ≡ length e0.instructions → e1 ≡ lined (one i) e0 → end ≤ length e1.instructions
end_at i e0 e1 end at a = let more = count_more (one i e0.notes.standing) [] e0.notes.standing e0 e1 a in omega (arith, more, at)

pub no_arm : (back : ℕ) (landing : Option ℕ) (e : Emitted) → e ≡ stated (further_arms back []) landing e
no_arm back landing e = nothing e

-- all but the first of a list
pub behind_first : {A : Type 0} (xs : List A) → take (length xs - 1) (drop 1 xs) ≡ drop 1 xs
behind_first xs = let long = length-drop 1 xs in take_all (length xs - 1) (drop 1 xs) (omega (arith, long))

most_behind : {A : Type 0} (μ : A → ℕ) (xs : List A) → most μ (drop 1 xs) ≤ most μ xs
most_behind μ [] = omega arith
most_behind μ (x ∷ xs) = omega arith

pub no_deeper : {A : Type 0} (μ : A → ℕ) (xs : List A) → most μ (take (length xs - 1) (drop 1 xs)) ≤ most μ xs
no_deeper μ xs = let same = ap (most μ) (behind_first xs) in let less = most_behind μ xs in omega (arith, same, less)

-- The first arm -----------------------------------------------------------------------------------

pub none_open : (landing : Option ℕ) (e : Emitted) → e ≡ stated (open_arms []) landing e
none_open landing e = nothing e

abbrev begun_code : ArmCode → Around → ℕ → List Line
begun_code x a n = turn_code x a n ++ (Skip 0, a.stack) ∷ []

abbrev begun_arm : ArmCode → StatementCode
begun_arm x = record { runs = always; texts = x.body.texts; code = begun_code x }

pub open_emitted : (x : ArmCode) (more : List ArmCode) (landing : Option ℕ) (e0 e1 e2 e3 : Emitted) (end : ℕ) → IsWithin landing e0 → e1 ≡ stated (guarded x) landing e0 → end ≡ length e1.instructions → e2 ≡ lined (one (Skip 0)) e1 → e3 ≡ stated (further_arms (length e2.instructions - end) more) landing e2 → e3 ≡ stated (open_arms (x ∷ more)) landing e0
open_emitted x more landing e0 e1 e2 e3 end within h at b c =
    let s = e0.notes.standing in
    let n = length e0.texts in
    let a = around landing e0 in
    let turn = turn_code x a n in
    let k = length e2.instructions - end in
    let arm : e2 ≡ stated (begun_arm x) landing e0 = stated_lined (guarded x) (one (Skip 0)) landing e0 e1 e2 h b in
    let l1 = count_more (one (Skip 0) e1.notes.standing) [] e1.notes.standing e1 e2 b in
    let near : k ≡ 1 = omega (arith, l1, at) in
    stated_both (begun_arm x) (further_arms k more) landing e0 e2 e3 within arm c
    ∙ ap (λ j. appended ((turn ++ (Skip 0, s) ∷ []) ++ arms_code k more (behind j a) (n + length x.body.texts)) (x.body.texts ++ arms_texts more) s e0) (one_longer turn (Skip 0, s))
    ∙ ap (λ j. appended ((turn ++ (Skip 0, s) ∷ []) ++ arms_code j more (behind (length turn + 1) a) (n + length x.body.texts)) (x.body.texts ++ arms_texts more) s e0) near

pub first_end_is : (x : ArmCode) (more : List ArmCode) (landing : Option ℕ) (e0 e1 : Emitted) (end : ℕ) → e1 ≡ stated (guarded x) landing e0 → end ≡ length e1.instructions → Some end ≡ first_end landing (x ∷ more) e0
first_end_is x more landing e0 e1 end h at = ap Some (at ∙ count_more (turn_code x (around landing e0) (length e0.texts)) x.body.texts e0.notes.standing e0 e1 h)

-- Behind `else` -----------------------------------------------------------------------------------

further_both : (i j k : ℕ) (x : Landing) → k ≡ i + j → further k x ≡ further j (further i x)
further_both i j k OutOfMaster is = refl
further_both i j k (BeforeLoop back) is = ap BeforeLoop (omega (arith, is))

behind_both : (i j k : ℕ) (a : Around) → k ≡ i + j → behind k a ≡ behind j (behind i a)
behind_both i j k a is = ap (λ x. record { stack = a.stack; landing = x }) (further_both i j k a.landing is)

-- a list with a head in it, from the front and from the back
regrouped : (turn rest others : List Line) (x : Line) → ((turn ++ x ∷ []) ++ rest) ++ others ≡ turn ++ (x ∷ (rest ++ others))
regrouped turn rest others x = append_assoc (turn ++ x ∷ []) rest others ∙ append_assoc turn (x ∷ []) (rest ++ others)

-- the end of the first arm skips the rest
skipped : (turn rest : List Line) (t : List (List TextPart)) (s : List Kind) (e0 e2 e3 : Emitted) (place : ℕ) → place ≡ length e0.instructions + length turn → e2 ≡ appended (turn ++ ((Skip 0, s) ∷ rest)) t s e0 → e3 ≡ set_at place (Skip (length e2.instructions - place - 1)) e2 → e3 ≡ appended ((turn ++ (Skip (length rest), s) ∷ []) ++ rest) t s e0
skipped turn rest t s e0 e2 e3 place at a b =
    let e1 = appended turn [] s e0 in
    let here : place ≡ length e1.instructions = at ∙ sym (count_more turn [] s e0 e1 refl) in
    let whole : e2 ≡ appended ((Skip 0, s) ∷ rest) t s e1 = a ∙ sym (joined turn ((Skip 0, s) ∷ rest) [] t s s e0) in
    written_anew (Skip 0) (Skip (length e2.instructions - place - 1)) s s rest t e1 e2 e3 place here whole b
    ∙ ap (λ k. appended ((Skip k, s) ∷ rest) t s e1) (counted_behind (Skip 0) s s rest t e1 e2 place here whole)
    ∙ joined turn ((Skip (length rest), s) ∷ rest) [] t s s e0
    ∙ ap (λ l. appended l t s e0) (sym (append_assoc turn ((Skip (length rest), s) ∷ []) rest))

pub branches_emitted : (arms : List ArmCode) (others : StatementCode) (landing : Option ℕ) (e0 e1 e2 e3 : Emitted) (end : Option ℕ) → IsWithin landing e0 → e1 ≡ stated (open_arms arms) landing e0 → e2 ≡ stated others landing e1 → end ≡ first_end landing arms e0 → e3 ≡ skipping end e2 → e3 ≡ stated (branches arms others) landing e0
branches_emitted [] others landing e0 e1 e2 e3 end within h b at c =
    c ∙ ap (λ o. skipping o e2) at ∙ b ∙ ap (stated others landing) (h ∙ sym (nothing e0))
branches_emitted (x ∷ more) others landing e0 e1 e2 e3 end within h b at c =
    let s = e0.notes.standing in
    let n = length e0.texts in
    let a = around landing e0 in
    let n1 = n + length x.body.texts in
    let turn = turn_code x a n in
    let next = behind (length turn + 1) a in
    let rest = arms_code 1 more next n1 in
    let opened = (turn ++ (Skip 0, s) ∷ []) ++ rest in
    let place = length e0.instructions + length turn in
    let ts = (x.body.texts ++ arms_texts more) ++ others.texts in
    let count_texts = length-append x.body.texts (arms_texts more) in
    let texts : n + length (x.body.texts ++ arms_texts more) ≡ n1 + length (arms_texts more) = omega (arith, count_texts) in
    let count_lines = length-append (turn ++ (Skip 0, s) ∷ []) rest in
    let longer = one_longer turn (Skip 0, s) in
    let long : length opened ≡ (length turn + 1) + length rest = omega (arith, count_lines, longer) in
    let whole : e2 ≡ appended (turn ++ ((Skip 0, s) ∷ rest_code more others next n1)) ts s e0 =
    stated_both (open_arms (x ∷ more)) others landing e0 e1 e2 within h b
    ∙ ap (λ k. appended (opened ++ others.code k (n + length (x.body.texts ++ arms_texts more))) ts s e0) (behind_both (length turn + 1) (length rest) (length opened) a long)
    ∙ ap (λ k. appended (opened ++ others.code (behind (length rest) next) k) ts s e0) texts
    ∙ ap (λ l. appended l ts s e0) (regrouped turn rest (others.code (behind (length rest) next) (n1 + length (arms_texts more))) (Skip 0, s)) in
    skipped turn (rest_code more others next n1) ts s e0 e2 e3 place refl whole (c ∙ ap (λ o. skipping o e2) at)
