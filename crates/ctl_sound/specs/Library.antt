-- What each program begins with: the types of the library, and the main procedure (10.2, 7.6, 13.11).
use Rattle.std.specs.Prelude.{◌≡◌, ◌≤◌, ℕ, [], slice_get, Option, Some, None}
use Rattle.ctl_tree.specs.declared.fault.Fault.{Fault}
use Rattle.ctl_syntax.specs.declared.denoted.Definition.{Definition}
use Rattle.ctl_program.specs.declared.types.RecordType.{RecordType}
use Rattle.ctl_typing.specs.declared.table.RecordEntry.{RecordEntry}
use Rattle.ctl_types.specs.Elaboration.{library_records, main_declared, begun}
use Rattle.ctl_well_typed.specs.Setting.{Frames, Signature, Setting}
use Rattle.ctl_sound.specs.Sound.{Sound}

pub record HasLibraryRecord (k : Setting) (n : ℕ) (r : RecordEntry) : Type 0 where
  pub is : RecordType
  pub found : slice_get k.records n ≡ Some is
  pub rooted : is.root ≡ r.root
  pub home : slice_get k.record_homes n ≡ Some []

abbrev pub main_signature : Signature
main_signature = record { home = []; formals = []; result = None }

-- the record types of the library stand first and in no master, as the main procedure does, and the exceptions of Standard are there
pub record HasLibrary (k : Setting) : Type 0 where
  pub records : (n : ℕ) (r : RecordEntry) → slice_get library_records n ≡ Some r → HasLibraryRecord k n r
  pub main : slice_get k.subprograms 0 ≡ Some main_signature
  pub exceptions : 3 ≤ k.exceptions

-- the tables before the text are sound
pub record BeginningSound : Type 0 where
  pub sound : (k : Setting) (env : Frames) → HasLibrary k → (name : Definition) (names uses : Option Fault) → Sound k env (main_declared name (begun names uses)).tables
