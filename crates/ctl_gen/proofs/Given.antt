-- What is known of the defaults of components where objects are created: constants come to their values, and each other one is the value of its
-- expression, which means the same wherever its type is seen (3.8).
use Rattle.std.proofs.Common.{◌≡◌, ℕ, List}
use Rattle.std.specs.Prelude.{take}
use Rattle.ctl_program.specs.declared.types.Ty.{Ty}
use Rattle.ctl_meaning.specs.World.{Log, World}
use Rattle.ctl_meaning.specs.Choice.{Ask}
use Rattle.ctl_meaning.specs.Names.{Call, Default}
use Rattle.ctl_meaning.specs.Types.{Tables}
use Rattle.ctl_code.specs.declared.code.Code.{Code}
use Rattle.ctl_code.specs.Valid.{IsDeclarable}
use Rattle.ctl_layout.specs.Values.{value_code}
use Rattle.ctl_gen.proofs.Expressions.{Value}
use Rattle.ctl_gen.proofs.Parted.{GivesDefaults, IsComputed}
use Rattle.ctl_gen.proofs.Setting.{Calls, Setting}

pub record GivesEach (ask : Ask) (k : Tables) (code : Code) (setting : Setting k code) (call : Call) (default : Default) : Type 0 where
  pub constants : GivesDefaults k default
  pub values : (bound : ℕ) → Calls ask k code setting bound call → (t position : ℕ) (ty : Ty) (x : IsComputed k t position ty) (w0 : World) → Value ask k code bound w0 (value_code x.expression) (default t position)
  -- more masters than those around the type may be seen where it is evaluated
  pub alike : (t position : ℕ) (ty : Ty) → IsComputed k t position ty → (n : ℕ) (d : List ℕ) → IsDeclarable code n t → (c : ℕ) (l : Log) (w : World) → default t position (take n d) c l w ≡ default t position d c l w
