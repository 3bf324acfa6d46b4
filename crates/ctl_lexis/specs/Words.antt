-- The reserved words by their length (RM 2.9).
use Rattle.std.specs.Prelude.{ℕ, List, [], ◌∷◌, ◌==◌, if◌then◌else◌}
use Rattle.ctl_tree.specs.declared.token.Kind.{Kind}
use Rattle.ctl_tree.specs.declared.token.Kind.TheVariants.{Abs, Access, Aliased, All, And, Begin, Constant, Declare, Else, Elsif, End, Exception, Exit, For, Function, If, In, Is, Limited, Loop, Mod, New, Not, Null, Or, Others, Out, Overriding, Procedure, Raise, Record, Rem, Return, Reverse, Tagged, Then, «Type», Use, When, While, With, Xor, Abort, Abstract, Accept, Array, At, Body, Case, Delay, Delta, Digits, Do, Entry, Generic, Goto, Interface, Of, Package, Pragma, Private, Protected, Range, Renames, Requeue, Select, Separate, Some, Subtype, Synchronized, Task, Terminate, Until}

-- the reserved words of this many letters
unfoldable pub words_of_length : ℕ → List Kind
words_of_length n =
    if n == 2 then At ∷ Do ∷ If ∷ In ∷ Is ∷ Of ∷ Or ∷ []
    else (if n == 3 then Abs ∷ All ∷ And ∷ End ∷ For ∷ Mod ∷ New ∷ Not ∷ Out ∷ Rem ∷ Use ∷ Xor ∷ []
    else (if n == 4 then Body ∷ Case ∷ Else ∷ Exit ∷ Goto ∷ Loop ∷ Null ∷ Some ∷ Task ∷ Then ∷ «Type» ∷ When ∷ With ∷ []
    else (if n == 5 then Abort ∷ Array ∷ Begin ∷ Delay ∷ Delta ∷ Elsif ∷ Entry ∷ Raise ∷ Range ∷ Until ∷ While ∷ []
    else (if n == 6 then Accept ∷ Access ∷ Digits ∷ Others ∷ Pragma ∷ Record ∷ Return ∷ Select ∷ Tagged ∷ []
    else (if n == 7 then Aliased ∷ Declare ∷ Generic ∷ Limited ∷ Package ∷ Private ∷ Renames ∷ Requeue ∷ Reverse ∷ Subtype ∷ []
    else (if n == 8 then Abstract ∷ Constant ∷ Function ∷ Separate ∷ []
    else (if n == 9 then Exception ∷ Interface ∷ Procedure ∷ Protected ∷ Terminate ∷ []
    else (if n == 10 then Overriding ∷ []
    else (if n == 12 then Synchronized ∷ []
    else [])))))))))
