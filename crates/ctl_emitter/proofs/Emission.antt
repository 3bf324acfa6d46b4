-- What is emitted one after another is emitted together.
use Rattle.std.proofs.Common.{◌≡◌, ℕ, ◌+◌, ◌-◌, ◌≤◌, List, [], ◌∷◌, ◌++◌, length, map, Option, Some, None, Result, Ok, Err, OnOk, refl, sym, ap, ◌∙◌, arith, append_assoc, append-nil, length-append}
use Rattle.std.specs.Prelude.{slice_set}
use Rattle.std.specs.Option.{ForSome}
use Rattle.std.specs.declared.alloc.AllocError.{AllocError}
use Rattle.std.proofs.lemmas.List.{length-map, map-append}
use Rattle.std.proofs.Math.Seq.{set-append_seam}
use Rattle.ctl_code.specs.declared.code.Cell.{Cell}
use Rattle.ctl_code.specs.declared.code.Instr.{Instr}
use Rattle.ctl_code.specs.declared.kinds.Kind.{Kind}
use Rattle.ctl_code.specs.declared.template.TextPart.{TextPart}
use Rattle.ctl_code.specs.Kinds.{Noted}
use Rattle.ctl_layout.specs.Around.{Line, BeforeLoop, behind, further}
use Rattle.ctl_layout.specs.Values.{Held}
use Rattle.ctl_layout.specs.Layout.{StatementCode}
use Rattle.ctl_emitter.specs.Emitted.{Emitted, appended, around, landing_at, holding, lined, one, set_at, standing, stated, taking, without}

-- what is said of success, said of another fact
pub on_ok : {A : Type 0} (P Q : Type 0) (r : Result A AllocError) → OnOk r P → (P → Q) → OnOk r Q
on_ok P Q (Ok a) h f = f h
on_ok P Q (Err e) h f = h

-- no text is one more
pub no_text_more : (ts : List (List TextPart)) → ts ++ [] ≡ ts
no_text_more ts = append-nil ts

-- the parts of what was emitted
abbrev pub emitted : List Instr → List (List TextPart) → Noted → Emitted
emitted is ts n = record { instructions = is; texts = ts; notes = n }

abbrev pub notes_of : List (List Kind) → List Kind → Noted
notes_of before standing = record { before = before; standing = standing }

pub emitted_is : (is js : List Instr) (ts us : List (List TextPart)) (n m : Noted) → is ≡ js → ts ≡ us → n ≡ m → emitted is ts n ≡ emitted js us m
emitted_is is js ts us n m a b c = cc

pub notes_are : (before after : List (List Kind)) (s t : List Kind) → before ≡ after → s ≡ t → notes_of before s ≡ notes_of after t
notes_are before after s t a b = cc

-- Lines -------------------------------------------------------------------------------------------

-- two rows of lines, one after the other
mapped : {A : Type 0} (f : Line → A) (base : List A) (a b : List Line) → (base ++ map f a) ++ map f b ≡ base ++ map f (a ++ b)
mapped f base a b = append_assoc base (map f a) (map f b) ∙ ap (λ xs. base ++ xs) (sym (map-append f a b))

pub joined : (a b : List Line) (t u : List (List TextPart)) (s r : List Kind) (e : Emitted) → appended b u r (appended a t s e) ≡ appended (a ++ b) (t ++ u) r e
unfolding appended
joined a b t u s r e =
    emitted_is _ _ _ _ _ _ (mapped (λ x. x.0) e.instructions a b) (append_assoc e.texts t u)
    (notes_are _ _ _ _ (mapped (λ x. x.1) e.notes.before a b) refl)

-- the same lines and texts
pub same_lines : (a b : List Line) (t u : List (List TextPart)) (s r : List Kind) (e : Emitted) → a ≡ b → t ≡ u → s ≡ r → appended a t s e ≡ appended b u r e
same_lines a b t u s r e x y z = ap (λ c. appended c t s e) x ∙ ap (λ c. appended b c s e) y ∙ ap (λ c. appended b u c e) z

-- what stands there, behind lines and before others
pub stands_behind : (lines : List Line) (t : List (List TextPart)) (s r : List Kind) (e0 e1 e2 : Emitted) → e1 ≡ appended lines t s e0 → e2 ≡ standing r e1 → e2 ≡ appended lines t r e0
unfolding appended standing
stands_behind lines t s r e0 e1 e2 a b = b ∙ ap (standing r) a

pub stands_before : (lines : List Line) (t : List (List TextPart)) (s r : List Kind) (e0 e1 e2 : Emitted) → e1 ≡ standing r e0 → e2 ≡ appended lines t s e1 → e2 ≡ appended lines t s e0
unfolding appended standing
stands_before lines t s r e0 e1 e2 a b = b ∙ ap (appended lines t s) a

-- what stands behind lines
pub standing_is : (lines : List Line) (t : List (List TextPart)) (s : List Kind) (e0 e1 : Emitted) → e1 ≡ appended lines t s e0 → e1.notes.standing ≡ s
unfolding appended
standing_is lines t s e0 e1 a = ap (λ (e : Emitted). e.notes.standing) a

pub stands : (s : List Kind) (e0 e1 : Emitted) → e1 ≡ standing s e0 → e1.notes.standing ≡ s
unfolding standing
stands s e0 e1 a = ap (λ (e : Emitted). e.notes.standing) a

-- nothing
pub nothing : (e : Emitted) → e ≡ appended [] [] e.notes.standing e
unfolding appended
nothing e = sym (emitted_is _ _ _ _ _ _ (append-nil e.instructions) (append-nil e.texts) (notes_are _ _ _ _ (append-nil e.notes.before) refl))

-- how many instructions and texts there are behind lines
pub count_more : (lines : List Line) (t : List (List TextPart)) (s : List Kind) (e0 e1 : Emitted) → e1 ≡ appended lines t s e0 → length e1.instructions ≡ length e0.instructions + length lines
unfolding appended
count_more lines t s e0 e1 a =
    ap (λ (e : Emitted). length e.instructions) a ∙ length-append e0.instructions (map (λ x. x.0) lines) ∙ ap (λ n. length e0.instructions + n) (length-map lines (λ x. x.0))

pub texts_more : (lines : List Line) (t : List (List TextPart)) (s : List Kind) (e0 e1 : Emitted) → e1 ≡ appended lines t s e0 → length e1.texts ≡ length e0.texts + length t
unfolding appended
texts_more lines t s e0 e1 a = ap (λ (e : Emitted). length e.texts) a ∙ length-append e0.texts t

pub texts_as_before : (lines : List Line) (s : List Kind) (e0 e1 : Emitted) → e1 ≡ appended lines [] s e0 → length e1.texts ≡ length e0.texts
unfolding appended
texts_as_before lines s e0 e1 a = ap (λ (e : Emitted). length e.texts) a ∙ ap length (append-nil e0.texts)

-- one stretch of lines and then another
pub in_two : (a b : List Line) (t u : List (List TextPart)) (s r : List Kind) (e0 e1 e2 : Emitted) → e1 ≡ appended a t s e0 → e2 ≡ appended b u r e1 → e2 ≡ appended (a ++ b) (t ++ u) r e0
in_two a b t u s r e0 e1 e2 x y = y ∙ ap (appended b u r) x ∙ joined a b t u s r e0

-- lines over what stands there, behind lines that leave this there
pub lined_at : (f : List Kind → List Line) (s : List Kind) (e0 e1 : Emitted) → e0.notes.standing ≡ s → e1 ≡ lined f e0 → e1 ≡ appended (f s) [] s e0
lined_at f s e0 e1 at a = a ∙ ap (λ r. appended (f r) [] r e0) at

pub lined_both : (f g : List Kind → List Line) (e0 e1 e2 : Emitted) → e1 ≡ lined f e0 → e2 ≡ lined g e1 → e2 ≡ lined (λ s. f s ++ g s) e0
lined_both f g e0 e1 e2 a b =
    let s = e0.notes.standing in
    in_two (f s) (g s) [] [] s s e0 e1 e2 a (lined_at g s e1 e2 (standing_is (f s) [] s e0 e1 a) b)

-- Heads that are written again --------------------------------------------------------------------

rewritten : (base inner : List Instr) (x y : Instr) (place : ℕ) → place ≡ length base → slice_set (base ++ (x ∷ inner)) place y ≡ base ++ (y ∷ inner)
rewritten base inner x y place e = ap (λ n. slice_set (base ++ (x ∷ inner)) n y) e ∙ set-append_seam base x inner y

-- the first of some lines is written anew
pub written_anew : (i j : Instr) (s u : List Kind) (lines : List Line) (t : List (List TextPart)) (e0 e1 e2 : Emitted) (place : ℕ) → place ≡ length e0.instructions → e1 ≡ appended ((i, s) ∷ lines) t u e0 → e2 ≡ set_at place j e1 → e2 ≡ appended ((j, s) ∷ lines) t u e0
unfolding appended
written_anew i j s u lines t e0 e1 e2 place at a b =
    b ∙ ap (set_at place j) a
    ∙ emitted_is _ _ _ _ _ _ (rewritten e0.instructions (map (λ x. x.0) lines) i j place at) refl refl

-- what stands behind a head is counted
pub counted_since : (i : Instr) (s u : List Kind) (lines : List Line) (t : List (List TextPart)) (e0 e1 : Emitted) (place : ℕ) → place ≡ length e0.instructions → e1 ≡ appended ((i, s) ∷ lines) t u e0 → length e1.instructions - place ≡ length lines + 1
counted_since i s u lines t e0 e1 place at a = let more = count_more ((i, s) ∷ lines) t u e0 e1 a in omega (arith, more, at)

pub counted_behind : (i : Instr) (s u : List Kind) (lines : List Line) (t : List (List TextPart)) (e0 e1 : Emitted) (place : ℕ) → place ≡ length e0.instructions → e1 ≡ appended ((i, s) ∷ lines) t u e0 → length e1.instructions - place - 1 ≡ length lines
counted_behind i s u lines t e0 e1 place at a = let more = count_more ((i, s) ∷ lines) t u e0 e1 a in omega (arith, more, at)

-- so much longer
pub one_longer : (lines : List Line) (x : Line) → length (lines ++ x ∷ []) ≡ length lines + 1
one_longer lines x = let long = length-append lines (x ∷ []) in omega (arith, long)

-- Operands ------------------------------------------------------------------------------------------

-- an instruction that takes what was found in a cell
pub held_taken : (h : List Kind → Held) (i : Instr) (cell : Cell) (e0 e1 e2 : Emitted) → without (h e0.notes.standing).cell.named (h e0.notes.standing).after ≡ e0.notes.standing → e1 ≡ holding h e0 → cell ≡ (h e0.notes.standing).cell → e2 ≡ taking i cell e1 → e2 ≡ lined (λ s. (h s).code ++ (i, (h s).after) ∷ []) e0
held_taken h i cell e0 e1 e2 back a at b =
    let s = e0.notes.standing in
    let x = h s in
    in_two x.code ((i, x.after) ∷ []) [] [] x.after s e0 e1 e2 a
    (b ∙ ap (λ r. appended (one i r) [] (without cell.named r) e1) (standing_is x.code [] x.after e0 e1 a)
    ∙ ap (λ (c : Cell). appended (one i x.after) [] (without c.named x.after) e1) at
    ∙ ap (λ r. appended (one i x.after) [] r e1) back)

-- Statements ----------------------------------------------------------------------------------------

-- a landing stands before this place
abbrev pub IsWithin : Option ℕ → Emitted → Type 0
IsWithin landing e = ForSome landing (λ at. at ≤ length e.instructions)

pub still_within : (landing : Option ℕ) (lines : List Line) (t : List (List TextPart)) (s : List Kind) (e0 e1 : Emitted) → IsWithin landing e0 → e1 ≡ appended lines t s e0 → IsWithin landing e1
still_within landing lines t s e0 e1 within a = λ at is. let before = within at is in let more = count_more lines t s e0 e1 a in omega (arith, before, more)

-- where control lands from further on
further_on : (landing : Option ℕ) (here there n : ℕ) → ForSome landing (λ at. at ≤ here) → there ≡ here + n → landing_at landing there ≡ further n (landing_at landing here)
further_on None here there n within is = refl
further_on (Some at) here there n within is = let before = within at refl in ap BeforeLoop (omega (arith, before, is))

pub around_behind : (landing : Option ℕ) (lines : List Line) (t : List (List TextPart)) (s : List Kind) (e0 e1 : Emitted) → IsWithin landing e0 → e1 ≡ appended lines t s e0 → s ≡ e0.notes.standing → around landing e1 ≡ behind (length lines) (around landing e0)
around_behind landing lines t s e0 e1 within a same =
    ap (λ r. record { stack = r; landing = landing_at landing (length e1.instructions) }) (standing_is lines t s e0 e1 a ∙ same)
    ∙ ap (λ x. record { stack = e0.notes.standing; landing = x }) (further_on landing (length e0.instructions) (length e1.instructions) (length lines) within (count_more lines t s e0 e1 a))

-- a statement where this stands around it
pub stated_at : (x : StatementCode) (landing : Option ℕ) (lines : List Line) (t : List (List TextPart)) (e0 e1 e2 : Emitted) → IsWithin landing e0 → e1 ≡ appended lines t e0.notes.standing e0 → e2 ≡ stated x landing e1 → e2 ≡ appended (x.code (behind (length lines) (around landing e0)) (length e0.texts + length t)) x.texts e0.notes.standing e1
stated_at x landing lines t e0 e1 e2 within a b =
    b ∙ ap (λ k. appended (x.code k (length e1.texts)) x.texts e1.notes.standing e1) (around_behind landing lines t e0.notes.standing e0 e1 within a refl)
    ∙ ap (λ n. appended (x.code (behind (length lines) (around landing e0)) n) x.texts e1.notes.standing e1) (texts_more lines t e0.notes.standing e0 e1 a)
    ∙ ap (λ r. appended (x.code (behind (length lines) (around landing e0)) (length e0.texts + length t)) x.texts r e1) (standing_is lines t e0.notes.standing e0 e1 a)

-- lines without texts, and then a statement
pub lined_stated : (f : List Kind → List Line) (x : StatementCode) (landing : Option ℕ) (e0 e1 e2 : Emitted) → IsWithin landing e0 → e1 ≡ lined f e0 → e2 ≡ stated x landing e1 → e2 ≡ appended (f e0.notes.standing ++ x.code (behind (length (f e0.notes.standing)) (around landing e0)) (length e0.texts)) x.texts e0.notes.standing e0
lined_stated f x landing e0 e1 e2 within a b =
    let s = e0.notes.standing in
    let none : length e0.texts + 0 ≡ length e0.texts = omega arith in
    in_two (f s) (x.code (behind (length (f s)) (around landing e0)) (length e0.texts)) [] x.texts s s e0 e1 e2 a
    (stated_at x landing (f s) [] e0 e1 e2 within a b
    ∙ ap (λ n. appended (x.code (behind (length (f s)) (around landing e0)) n) x.texts s e1) none)

-- a statement, and then lines without texts
pub stated_lined : (x : StatementCode) (f : List Kind → List Line) (landing : Option ℕ) (e0 e1 e2 : Emitted) → e1 ≡ stated x landing e0 → e2 ≡ lined f e1 → e2 ≡ appended (x.code (around landing e0) (length e0.texts) ++ f e0.notes.standing) x.texts e0.notes.standing e0
stated_lined x f landing e0 e1 e2 a b =
    let s = e0.notes.standing in
    let lines = x.code (around landing e0) (length e0.texts) in
    in_two lines (f s) x.texts [] s s e0 e1 e2 a (lined_at f s e1 e2 (standing_is lines x.texts s e0 e1 a) b)
    ∙ same_lines (lines ++ f s) (lines ++ f s) (x.texts ++ []) x.texts s s e0 refl (append-nil x.texts) refl

-- one statement, and then another
pub stated_both : (x y : StatementCode) (landing : Option ℕ) (e0 e1 e2 : Emitted) → IsWithin landing e0 → e1 ≡ stated x landing e0 → e2 ≡ stated y landing e1 → e2 ≡ appended (x.code (around landing e0) (length e0.texts) ++ y.code (behind (length (x.code (around landing e0) (length e0.texts))) (around landing e0)) (length e0.texts + length x.texts)) (x.texts ++ y.texts) e0.notes.standing e0
stated_both x y landing e0 e1 e2 within a b =
    let s = e0.notes.standing in
    let lines = x.code (around landing e0) (length e0.texts) in
    in_two lines (y.code (behind (length lines) (around landing e0)) (length e0.texts + length x.texts)) x.texts y.texts s s e0 e1 e2 a (stated_at y landing lines x.texts e0 e1 e2 within a b)

-- a statement in a loop, behind its landing
pub looped : (x : StatementCode) (i : Instr) (landing : ℕ) (e0 e1 e2 : Emitted) → landing ≡ length e0.instructions → e1 ≡ lined (one i) e0 → e2 ≡ stated x (Some landing) e1 → e2 ≡ appended ((i, e0.notes.standing) ∷ x.code (record { stack = e0.notes.standing; landing = BeforeLoop 1 }) (length e0.texts)) x.texts e0.notes.standing e0
looped x i landing e0 e1 e2 at a b =
    let s = e0.notes.standing in
    let more = count_more (one i s) [] s e0 e1 a in
    let near : length e1.instructions - landing ≡ 1 = omega (arith, more, at) in
    in_two (one i s) (x.code (record { stack = s; landing = BeforeLoop 1 }) (length e0.texts)) [] x.texts s s e0 e1 e2 a
    (b ∙ ap (λ n. appended (x.code (record { stack = e1.notes.standing; landing = BeforeLoop n }) (length e1.texts)) x.texts e1.notes.standing e1) near
    ∙ ap (λ n. appended (x.code (record { stack = e1.notes.standing; landing = BeforeLoop 1 }) n) x.texts e1.notes.standing e1) (texts_as_before (one i s) s e0 e1 a)
    ∙ ap (λ r. appended (x.code (record { stack = r; landing = BeforeLoop 1 }) (length e0.texts)) x.texts r e1) (standing_is (one i s) [] s e0 e1 a))
