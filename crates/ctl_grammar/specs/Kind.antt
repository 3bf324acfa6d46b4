-- Numbers for the kinds of token, by which they are told apart.
use Rattle.std.specs.Prelude.{ℕ, Bool, ◌==◌, ◌&&◌, nat_le, nat_lt}
use denote.Enum.Declared.{tag_of}
use Rattle.ctl_tree.specs.contracts.token.Kind.{the_type}
use Rattle.ctl_tree.specs.declared.token.Kind.{Kind}
use Rattle.ctl_tree.specs.declared.token.Kind.TheVariants.{Abort, Finish}

-- the position of the kind in the list of all kinds
unfoldable pub code : Kind → ℕ
code k = tag_of the_type k

-- two kinds are the same one
abbrev pub same_kind : Kind → Kind → Bool
same_kind a b = code a == code b

-- a reserved word that the subset leaves out: the kinds from `Abort` on, but for the end mark, which is the last
abbrev pub is_left_out : Kind → Bool
is_left_out k = nat_le (code Abort) (code k) && nat_lt (code k) (code Finish)
