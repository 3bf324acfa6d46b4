-- What an allocator is and freezes, once its parts are known.
use Rattle.std.specs.Prelude.{ℕ, Option}
use Rattle.ctl_tree.specs.declared.span.Span.{Span}
use Rattle.ctl_typing.specs.declared.table.Tables.{Tables}
use Rattle.ctl_typing.specs.declared.found.Asked.{Asked}
use Rattle.ctl_program.specs.declared.types.Ty.{Ty}
use Rattle.ctl_program.specs.declared.types.Ty.TheVariants as ty
use Rattle.ctl_program.specs.declared.expression.Expr.{Expr}
use Rattle.ctl_program.specs.declared.expression.Expr.TheVariants as e
use Rattle.ctl_typing.specs.declared.found.Found.{Found}
use Rattle.ctl_typing.specs.declared.found.Typed.{Typed}
use Rattle.ctl_typing.specs.Judgement.{Judgement, onward, ◌>>=◌, doing}
use Rattle.ctl_typing.specs.Typing.{making, settled, handle_found, in_subpools}

abbrev pub allocated : ℕ → Ty → Option Expr → Option Expr → Judgement Typed
allocated a t handle value = doing (making a t value) (record { ty = ty.Access a; value = e.New a t handle value })

-- an allocator of which the handle, the type, the access type and the value are known
abbrev pub by_parts : Option Expr × (Ty × (ℕ × Option Expr)) → Judgement Typed
by_parts r = allocated r.1.1.0 r.1.0 r.0 r.1.1.1

-- the handle of an allocator, once it may be known what its name is
abbrev pub handle_of : Tables → Span → Asked → Option Found → Judgement (Option Expr)
handle_of tables place asked f = onward f (settled tables place) >>= handle_found place >>= in_subpools tables place asked
