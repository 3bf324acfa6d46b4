-- What has been emitted: instructions, the texts that they print, and what stands in the window before each of them; and what is appended
-- to it.
use Rattle.std.specs.Prelude.{ℕ, ◌+◌, ◌-◌, List, [], ◌∷◌, ◌++◌, length, map, option_map, slice_set, Option, Some, None}
use Rattle.ctl_program.specs.declared.types.Ty.{Ty}
use Rattle.ctl_program.specs.declared.statement.Arm.{Arm}
use Rattle.ctl_program.specs.declared.statement.Handler.{Handler}
use Rattle.ctl_program.specs.declared.statement.Master.{Master, Master-F}
use Rattle.ctl_program.specs.declared.statement.Stmt.{Stmt}
use Rattle.ctl_program.specs.declared.statement.Piece.{Piece}
use Rattle.ctl_program.specs.declared.statement.Piece.TheVariants as PieceOf
use Rattle.ctl_code.specs.declared.code.Cell.{Cell}
use Rattle.ctl_code.specs.declared.code.Named.{Named}
use Rattle.ctl_code.specs.declared.code.Named.TheVariants as NamedOf
use Rattle.ctl_code.specs.declared.code.Instr.{Instr}
use Rattle.ctl_code.specs.declared.code.Instr.TheVariants.{Back, Catch, Skip}
use Rattle.ctl_code.specs.declared.kinds.Kind.{Kind}
use Rattle.ctl_code.specs.declared.template.TextPart.{TextPart}
use Rattle.ctl_code.specs.Kinds.{Noted, below_newest}
use Rattle.ctl_layout.specs.declared.right.Right.{Right}
use Rattle.ctl_layout.specs.declared.right.Right.TheVariants as RightOf
use Rattle.ctl_layout.specs.Around.{Line, Landing, OutOfMaster, BeforeLoop, Around, behind, local_at, local_cell}
use Rattle.ctl_code.specs.Valid.{over_numbers}
use Rattle.ctl_layout.specs.Values.{Held, ActualCode, ValueCode, actuals_code, numbers_in, reserved_code, with_actuals}
use Rattle.ctl_layout.specs.Texts.{pieces_code, with_pieces}
use Rattle.ctl_layout.specs.Layout.{StatementCode, ArmCode, HandlerCode, all, arm_with, arms_code, arms_run, arms_texts, catches_code, handled, handler_code, handler_lines, handlers_code, handlers_run, handlers_texts, statement_code, turn_code, values_code, with_types}

pub record Emitted : Type 0 where
  pub instructions : List Instr
  pub texts : List (List TextPart)
  pub notes : Noted

abbrev pub none_emitted : Emitted
none_emitted = record { instructions = []; texts = []; notes = record { before = []; standing = [] } }

-- lines, with the texts that they print; and what stands there behind them
unfoldable pub appended : List Line → List (List TextPart) → List Kind → Emitted → Emitted
appended lines texts after e =
    record { instructions = e.instructions ++ map (λ x. x.0) lines; texts = e.texts ++ texts; notes = record { before = e.notes.before ++ map (λ x. x.1) lines; standing = after } }

-- this is what stands there now
unfoldable pub standing : List Kind → Emitted → Emitted
standing s e = record e { notes = record { before = e.notes.before; standing = s } }

-- an instruction at this place of what was emitted
abbrev pub set_at : ℕ → Instr → Emitted → Emitted
set_at place i e = record e { instructions = slice_set e.instructions place i }

-- Lines without texts -----------------------------------------------------------------------------

-- behind them there stands what stood before
abbrev pub lined : (List Kind → List Line) → Emitted → Emitted
lined lines e = appended (lines e.notes.standing) [] e.notes.standing e

abbrev pub one : Instr → List Kind → List Line
one i s = (i, s) ∷ []

-- an operand, where an operator finds it
abbrev pub holding : (List Kind → Held) → Emitted → Emitted
holding h e = appended (h e.notes.standing).code [] (h e.notes.standing).after e

-- what stands there without the operand of a cell, if it is one
abbrev pub without : Named → List Kind → List Kind
without NamedOf.Operand s = below_newest s
without (NamedOf.Variable out slot) s = s

-- an instruction that takes the value of a cell
abbrev pub taking : Instr → Cell → Emitted → Emitted
taking i cell e = appended (one i e.notes.standing) [] (without cell.named e.notes.standing) e

-- the cell in which an operand stays
abbrev pub kept : Right → List Kind → Option Cell
kept (RightOf.Constant n) s = None
kept (RightOf.Variable v) s = option_map (local_cell s v) (local_at s v)
kept RightOf.Evaluated s = None

-- the values that the images of a text take
abbrev pub imaged : List Piece → Emitted → Emitted
imaged ps e = appended (pieces_code ps e.notes.standing) [] (with_pieces ps e.notes.standing) e

-- what stands there without the value of an image, which stood on top
abbrev pub without_image : Piece → List Kind → List Kind
without_image (PieceOf.Text v) s = s
without_image (PieceOf.IntegerImage e) s = below_newest s
without_image (PieceOf.BooleanImage e) s = below_newest s

abbrev pub without_images : List Piece → List Kind → List Kind
without_images [] s = s
without_images (p ∷ ps) s = without_images ps (without_image p s)

-- actuals, which stand there then, where so many operands stand over the numbers of the first
abbrev pub passed : ℕ → List ActualCode → Emitted → Emitted
passed over actuals e = appended (actuals_code over actuals e.notes.standing) [] (with_actuals actuals e.notes.standing) e

-- actuals, and an instruction that takes them all
abbrev pub taking_actuals : Instr → List ActualCode → List Kind → List Line
taking_actuals i actuals s = actuals_code 0 actuals s ++ (i, with_actuals actuals s) ∷ []

-- and the numbers below them that keep where copies go back to
abbrev pub reserving : Instr → List ActualCode → List Kind → List Line
reserving i actuals s = reserved_code (numbers_in actuals) s ++ taking_actuals i actuals (over_numbers (numbers_in actuals) s)

-- values, which stand there then
abbrev pub with_values : List (ValueCode × Ty) → Emitted → Emitted
with_values xs e = appended (values_code xs e.notes.standing) [] (with_types xs e.notes.standing) e

-- Statements --------------------------------------------------------------------------------------

-- where control lands from this place: before the innermost loop, at that one, or out of the master
abbrev pub landing_at : Option ℕ → ℕ → Landing
landing_at None place = OutOfMaster
landing_at (Some landing) place = BeforeLoop (place - landing)

-- what stands around the next instruction
abbrev pub around : Option ℕ → Emitted → Around
around landing e = record { stack = e.notes.standing; landing = landing_at landing (length e.instructions) }

abbrev pub stated : StatementCode → Option ℕ → Emitted → Emitted
stated x landing e = appended (x.code (around landing e) (length e.texts)) x.texts e.notes.standing e

-- further arms, so many instructions behind the end of the first one
abbrev pub further_arms : ℕ → List ArmCode → StatementCode
further_arms back arms = record { runs = arms_run arms; texts = arms_texts arms; code = arms_code back arms }

-- the arms, while the end of the first one does not say yet what it skips
abbrev pub open_code : List ArmCode → Around → ℕ → List Line
open_code [] a n = []
open_code (x ∷ more) a n = arm_with x (Skip 0) a n ++ arms_code 1 more (behind (length (turn_code x a n) + 1) a) (n + length x.body.texts)

abbrev pub open_arms : List ArmCode → StatementCode
open_arms arms = record { runs = arms_run arms; texts = arms_texts arms; code = open_code arms }

-- where the end of the first arm stands
abbrev pub first_end : Option ℕ → List ArmCode → Emitted → Option ℕ
first_end landing [] e = None
first_end landing (x ∷ more) e = Some (length e.instructions + length (turn_code x (around landing e) (length e.texts)))

-- the instruction at this place skips all that follow
abbrev pub skipping : Option ℕ → Emitted → Emitted
skipping None e = e
skipping (Some place) e = set_at place (Skip (length e.instructions - place - 1)) e

-- the turns of a loop with this landing, with their end
abbrev pub with_end : ℕ → Emitted → Emitted
with_end landing e = lined (one (Back (length e.instructions - landing - 1))) e

abbrev pub repeated : ℕ → Emitted → Emitted
repeated landing e = set_at landing (Skip (length (with_end landing e).instructions - landing - 1)) (with_end landing e)

-- Handlers ----------------------------------------------------------------------------------------

-- exceptions that are looked for one after another
abbrev pub sought_code : List ℕ → List Kind → List Line
sought_code [] s = []
sought_code (e ∷ es) s = (Catch e (length es + 1), s) ∷ sought_code es s

-- statements that are passed over where the exception is none of these
abbrev pub chosen_code : List ℕ → StatementCode → Around → ℕ → List Line
chosen_code es body a n =
    let lines = body.code (behind (length es + 1) a) n in
    catches_code es (length lines + 1) a.stack ++ lines

abbrev pub chosen : List ℕ → StatementCode → StatementCode
chosen es body = record { runs = body.runs; texts = body.texts; code = chosen_code es body }

abbrev pub one_handler : HandlerCode → StatementCode
one_handler h = record { runs = h.body.runs; texts = h.body.texts; code = handler_lines h }

-- handlers, so many instructions behind the end of the statements that they handle
abbrev pub further_handlers : ℕ → List HandlerCode → StatementCode
further_handlers back hs = record { runs = handlers_run hs; texts = handlers_texts hs; code = handlers_code back hs }

-- the end of the statements that are handled, which skips the handlers, and these
abbrev pub skipped_code : List HandlerCode → Around → ℕ → List Line
skipped_code hs a n = let rest = handlers_code 1 hs (behind 1 a) n in (Skip (length rest), a.stack) ∷ rest

abbrev pub skipped_handlers : List HandlerCode → StatementCode
skipped_handlers hs = record { runs = handlers_run hs; texts = handlers_texts hs; code = skipped_code hs }

-- the statements of a master, with their handlers
abbrev pub statements_of : Master-F Stmt Arm Handler Master → StatementCode
statements_of m = handled (all (map statement_code m.body)) (map handler_code m.handlers)
