-- What the emitter makes of statements whose exceptions are handled, and of their handlers, is their layout.
use Rattle.std.proofs.Common.{◌≡◌, ℕ, ◌+◌, ◌-◌, ◌≤◌, List, [], ◌∷◌, ◌++◌, length, map, None, false, refl, sym, ap, ◌∙◌, arith, append_assoc}
use Rattle.std.specs.Bool.{◌==◌}
use Rattle.ctl_program.specs.declared.statement.Choices.{Choices}
use Rattle.ctl_program.specs.declared.statement.Choices.TheVariants as ChoicesOf
use Rattle.ctl_program.specs.declared.statement.Handler.{Handler, out-Handler}
use Rattle.ctl_program.specs.declared.statement.Stmt.{Stmt}
use Rattle.ctl_code.specs.declared.code.Instr.{Instr}
use Rattle.ctl_code.specs.declared.code.Instr.TheVariants.{Back, Catch, Handle, RaiseAgain, Skip}
use Rattle.ctl_code.specs.declared.kinds.Kind.{Kind}
use Rattle.ctl_layout.specs.Around.{Line, Around, behind}
use Rattle.ctl_layout.specs.Layout.{StatementCode, HandlerCode, all, catches_code, handled, handler_code, handler_lines, handlers_code, handlers_texts, statement_code}
use Rattle.ctl_layout.proofs.StatementLayers.{handler_is}
use Rattle.ctl_emitter.specs.Emitted.{Emitted, appended, around, chosen, further_handlers, lined, one, one_handler, set_at, skipped_handlers, sought_code, stated}
use Rattle.ctl_emitter.proofs.Emission.{IsWithin, count_more, counted_since, lined_both, lined_stated, nothing, stated_both, written_anew}
use Rattle.ctl_emit.proofs.EmittedArms.{next_turn}

-- no loop of the master is around
pub outside : (e : Emitted) → IsWithin None e
outside e = λ at is. absurd (cc)

-- Statements behind an instruction that says how many they are ------------------------------------

abbrev headed_code : (ℕ → Instr) → StatementCode → Around → ℕ → List Line
headed_code f body a n = let lines = body.code (behind 1 a) n in (f (length lines + 1), a.stack) ∷ lines

abbrev pub headed : (ℕ → Instr) → StatementCode → StatementCode
headed f body = record { runs = body.runs; texts = body.texts; code = headed_code f body }

pub headed_emitted : (f : ℕ → Instr) (body : StatementCode) (head : ℕ) (e0 e1 e2 e3 : Emitted) → head ≡ length e0.instructions → e1 ≡ lined (one (f 0)) e0 → e2 ≡ stated body None e1 → e3 ≡ set_at head (f (length e2.instructions - head)) e2 → e3 ≡ stated (headed f body) None e0
headed_emitted f body head e0 e1 e2 e3 at a b set =
    let s = e0.notes.standing in
    let lines = body.code (behind 1 (around None e0)) (length e0.texts) in
    let whole : e2 ≡ appended ((f 0, s) ∷ lines) body.texts s e0 = lined_stated (one (f 0)) body None e0 e1 e2 (outside e0) a b in
    written_anew (f 0) (f (length e2.instructions - head)) s s lines body.texts e0 e2 e3 head at whole set
    ∙ ap (λ k. appended ((f k, s) ∷ lines) body.texts s e0) (counted_since (f 0) s s lines body.texts e0 e2 head at whole)

-- Choices -----------------------------------------------------------------------------------------

pub next_sought : (x : ℕ) (xs : List ℕ) (size : ℕ) (e0 e1 : Emitted) → size ≡ length xs + 1 → e1 ≡ lined (one (Catch x size)) e0 → lined (sought_code xs) e1 ≡ lined (sought_code (x ∷ xs)) e0
next_sought x xs size e0 e1 many a =
    lined_both (one (Catch x size)) (sought_code xs) e0 e1 (lined (sought_code xs) e1) a refl
    ∙ ap (λ k. lined (λ s. (Catch x k, s) ∷ sought_code xs s) e0) many

pub none_sought : (e : Emitted) → e ≡ lined (sought_code []) e
none_sought e = nothing e

-- exceptions that are looked for, and what passes over the handler of these
all_sought : (xs : List ℕ) (size : ℕ) (s : List Kind) (lines : List Line) → sought_code xs s ++ ((Skip size, s) ∷ lines) ≡ catches_code xs size s ++ lines
all_sought [] size s lines = refl
all_sought (x ∷ xs) size s lines = ap (λ ls. (Catch x (length xs + 1), s) ∷ ls) (all_sought xs size s lines)

pub chosen_emitted : (xs : List ℕ) (body : StatementCode) (e0 e1 e2 : Emitted) → e1 ≡ lined (sought_code xs) e0 → e2 ≡ stated (headed Skip body) None e1 → e2 ≡ stated (chosen xs body) None e0
chosen_emitted xs body e0 e1 e2 a b =
    let s = e0.notes.standing in
    let lines = body.code (behind 1 (around None e0)) (length e0.texts) in
    lined_stated (sought_code xs) (headed Skip body) None e0 e1 e2 (outside e0) a b
    ∙ ap (λ ls. appended ls body.texts s e0) (all_sought xs (length lines + 1) s lines)

-- Handlers ----------------------------------------------------------------------------------------

-- a handler by its parts
abbrev by_parts : Choices → List Stmt → HandlerCode
by_parts c xs = record { choices = c; body = all (map statement_code xs) }

handler_of : (h : Handler) (c : Choices) (xs : List Stmt) (e0 e1 : Emitted) → (out-Handler h).choices ≡ c → xs ≡ (out-Handler h).body → e1 ≡ stated (one_handler (by_parts c xs)) None e0 → e1 ≡ stated (one_handler (handler_code h)) None e0
handler_of h c xs e0 e1 chosen_by same a =
    a ∙ ap (λ k. stated (one_handler (by_parts k xs)) None e0) (sym chosen_by)
    ∙ ap (λ ys. stated (one_handler (by_parts (out-Handler h).choices ys)) None e0) same
    ∙ ap (λ k. stated (one_handler k) None e0) (sym (handler_is h))

pub others_emitted : (h : Handler) (xs : List Stmt) (e0 e1 : Emitted) → (out-Handler h).choices ≡ ChoicesOf.Others → xs ≡ (out-Handler h).body → e1 ≡ stated (all (map statement_code xs)) None e0 → e1 ≡ stated (one_handler (handler_code h)) None e0
others_emitted h xs e0 e1 any same a = handler_of h ChoicesOf.Others xs e0 e1 any same a

pub exceptions_emitted : (h : Handler) (es : List ℕ) (xs : List Stmt) (e0 e1 : Emitted) → (out-Handler h).choices ≡ ChoicesOf.Exceptions es → xs ≡ (out-Handler h).body → e1 ≡ stated (chosen es (all (map statement_code xs))) None e0 → e1 ≡ stated (one_handler (handler_code h)) None e0
exceptions_emitted h es xs e0 e1 these same a = handler_of h (ChoicesOf.Exceptions es) xs e0 e1 these same a

-- a handler, and those behind it
pub next_handler : (h : HandlerCode) (rest : List HandlerCode) (e0 e1 e2 : Emitted) (end back : ℕ) → end ≤ length e0.instructions → e1 ≡ stated (one_handler h) None e0 → back ≡ length e1.instructions - end → e2 ≡ lined (one (Back back)) e1 → stated (further_handlers (length e2.instructions - end) rest) None e2 ≡ stated (further_handlers (length e0.instructions - end) (h ∷ rest)) None e0
next_handler h rest e0 e1 e2 end back lt a from b =
    let s = e0.notes.standing in
    let n = length e0.texts in
    let around0 = around None e0 in
    let lines = handler_lines h around0 n in
    let size = length e0.instructions - end + length lines in
    let more = handlers_code (size + 1) rest (behind (length lines + 1) around0) (n + length h.body.texts) in
    next_turn (one_handler h) (λ k. handlers_code k rest) (handlers_texts rest) None e0 e1 e2 end back (outside e0) lt a from b
    ∙ ap (λ ls. appended ls (h.body.texts ++ handlers_texts rest) s e0) (append_assoc lines ((Back size, s) ∷ []) more)

-- an exception that none handles is raised again
pub no_handler : (back : ℕ) (e0 e1 : Emitted) → e1 ≡ lined (one RaiseAgain) e0 → e1 ≡ stated (further_handlers back []) None e0
no_handler back e0 e1 a = a

pub skipped_emitted : (hs : List HandlerCode) (end : ℕ) (e0 e1 e2 e3 : Emitted) → end ≡ length e0.instructions → e1 ≡ lined (one (Skip 0)) e0 → e2 ≡ stated (further_handlers (length e1.instructions - end) hs) None e1 → e3 ≡ set_at end (Skip (length e2.instructions - end - 1)) e2 → e3 ≡ stated (skipped_handlers hs) None e0
skipped_emitted hs end e0 e1 e2 e3 at a b set =
    let s = e0.notes.standing in
    let more = count_more (one (Skip 0) s) [] s e0 e1 a in
    let near : length e1.instructions - end ≡ 1 = omega (arith, more, at) in
    let rest = handlers_code 1 hs (behind 1 (around None e0)) (length e0.texts) in
    let many : length rest + 1 - 1 ≡ length rest = omega arith in
    headed_emitted (λ k. Skip (k - 1)) (further_handlers 1 hs) end e0 e1 e2 e3 at a (b ∙ ap (λ k. stated (further_handlers k hs) None e1) near) set
    ∙ ap (λ k. appended ((Skip k, s) ∷ rest) (handlers_texts hs) s e0) many

-- Statements with their handlers ------------------------------------------------------------------

pub handled_emitted : (body : StatementCode) (hs : List Handler) (e0 e1 e2 : Emitted) → false ≡ (length hs == 0) → e1 ≡ stated (headed Handle body) None e0 → e2 ≡ stated (skipped_handlers (map handler_code hs)) None e1 → e2 ≡ stated (handled body (map handler_code hs)) None e0
handled_emitted body [] e0 e1 e2 some a b = absurd (cc)
handled_emitted body (h ∷ more) e0 e1 e2 some a b = stated_both (headed Handle body) (skipped_handlers (map handler_code (h ∷ more))) None e0 e1 e2 (outside e0) a b
