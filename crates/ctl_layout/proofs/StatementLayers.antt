-- What arms, handlers, masters and statements without instructions have.
use Rattle.std.proofs.Common.{◌≡◌, ℕ, map, ◌⊎◌, inl, inr, refl, sym, ◌∙◌}
use Rattle.ctl_program.specs.declared.operators.Operation.{Operation}
use Rattle.ctl_program.specs.declared.expression.Expr.{Expr}
use Rattle.ctl_program.specs.declared.expression.Name.{Name}
use Rattle.ctl_program.specs.declared.statement.Arm.{Arm, out-Arm, fold_out-Arm}
use Rattle.ctl_program.specs.declared.statement.Handler.{Handler, out-Handler, fold_out-Handler}
use Rattle.ctl_program.specs.declared.statement.Master.{Master, out-Master, fold_out-Master}
use Rattle.ctl_program.specs.declared.statement.Stmt.{Stmt}
use Rattle.ctl_program.specs.declared.statement.Stmt.TheVariants as s
use Rattle.ctl_program.specs.declared.statement.Stmt.TheVariants.{rolls-Dispatch, rolls-Free, rolls-LibraryAllocate, rolls-LibraryDeallocate, rolls-Nothing, rolls-Release}
use Rattle.ctl_layout.specs.Values.{value_code, reached_by}
use Rattle.ctl_layout.specs.Layout.{all, all_items, call_nothing, free, handled, inside, item_code, library_allocate, library_deallocate, missing_statement, statement_code, arm_code, handler_code, master_code}
use Rattle.ctl_layout.proofs.TreeLayers.{layer_of}

-- a statement that no instructions exist for
abbrev pub IsMissing : Stmt → Type 0
IsMissing y =
    ((op : Operation) × (x : Name) × (y ≡ s.Dispatch op x))
    ⊎ ((x : Name) × (y ≡ s.Release x))

pub missing_is : (y : Stmt) → IsMissing y → statement_code y ≡ missing_statement
missing_is y (inl (op, x, is)) = layer_of _ (is ∙ sym (rolls-Dispatch op x))
missing_is y (inr (x, is)) = layer_of _ (is ∙ sym (rolls-Release x))

-- the library's Initialize, Adjust and Finalize (7.6)
pub nothing_is : (x : Name) → statement_code (s.Nothing x) ≡ call_nothing (reached_by x)
nothing_is x = layer_of _ (sym (rolls-Nothing x))

-- Unchecked_Deallocation (13.11.2)
pub free_is : (access : ℕ) (x : Name) → statement_code (s.Free access x) ≡ free access (reached_by x)
free_is access x = layer_of _ (sym (rolls-Free access x))

-- the library's Allocate and Deallocate (13.11)
pub library_allocate_is : (p x : Name) (size alignment : Expr) → statement_code (s.LibraryAllocate p x size alignment) ≡ library_allocate (reached_by p) (reached_by x) (value_code size) (value_code alignment)
library_allocate_is p x size alignment = layer_of _ (sym (rolls-LibraryAllocate p x size alignment))

pub library_deallocate_is : (p : Name) (x size alignment : Expr) → statement_code (s.LibraryDeallocate p x size alignment) ≡ library_deallocate (reached_by p) (value_code x) (value_code size) (value_code alignment)
library_deallocate_is p x size alignment = layer_of _ (sym (rolls-LibraryDeallocate p x size alignment))

-- Arms and masters --------------------------------------------------------------------------------

pub arm_is : (a : Arm) → arm_code a ≡ record { test = value_code (out-Arm a).test; body = all (map statement_code (out-Arm a).body) }
unfolding arm_code statement_code
arm_is a = rw fold_out-Arm refl

pub handler_is : (h : Handler) → handler_code h ≡ record { choices = (out-Handler h).choices; body = all (map statement_code (out-Handler h).body) }
unfolding handler_code statement_code
handler_is h = rw fold_out-Handler refl

pub master_is : (m : Master) → master_code m ≡ record { slots = (out-Master m).slots; inside = inside (all_items (map item_code (out-Master m).items)) (handled (all (map statement_code (out-Master m).body)) (map handler_code (out-Master m).handlers)) }
unfolding master_code statement_code handler_code
master_is m = rw fold_out-Master refl
