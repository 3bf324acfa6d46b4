-- Operands of a logical operator: judged and then made operands of a chain, or made so one by one.
use Rattle.std.proofs.Common.{◌≡◌, refl, sym, ap, ◌∙◌, List, [], ◌∷◌, ◌++◌, map, Option, Some, None, option_map}
use Rattle.ctl_tree.specs.declared.span.Span.{Span}
use Rattle.ctl_program.specs.declared.expression.Expr.{Expr}
use Rattle.ctl_program.specs.declared.expression.Expr.TheVariants as e
use Rattle.ctl_program.specs.declared.expression.Operand.{Operand as Checked_operand}
use Rattle.ctl_program.specs.declared.operators.BinaryOp.{BinaryOp}
use Rattle.ctl_program.specs.declared.operators.BinaryOp.TheVariants as op
use Rattle.ctl_program.specs.declared.operators.Shortcut.{Shortcut}
use Rattle.ctl_program.specs.declared.operators.Shortcut.TheVariants as shortcut
use Rattle.ctl_syntax.specs.declared.operators.LogicalOperator.{LogicalOperator}
use Rattle.ctl_syntax.specs.declared.operators.LogicalOperator.TheVariants as logical
use Rattle.ctl_typing.specs.declared.table.Tables.{Tables}
use Rattle.ctl_typing.specs.declared.found.Asked.{Asked}
use Rattle.ctl_typing.specs.declared.notes.Notes.{Notes}
use Rattle.ctl_typing.specs.Judgement.{Judgement, known, with_known, onward, ◌>>=◌, paired, beside, both, appended, each, each_on}
use Rattle.ctl_typing.specs.Senses.{whole, short, two_truths, truths_behind, logical_value, logical_behind, whole_behind, short_behind, short_made, boolean_at}
use Rattle.ctl_typing.specs.Typing.{Sense, truth_of, truths_of, logical_operand, logical_judged}

-- what is judged after a first and a second, is judged after both
through_known : {A B C : Type 0} (f : A → Judgement B) (g : B → Judgement C) (q : Option A × Notes) → with_known g (with_known f q) ≡ with_known (λ a. f a >>= g) q
through_known f g (None, s) = refl
through_known f g (Some a, s) = refl

pub logical_is : (place : Span) (o : LogicalOperator) (a b : Sense) (more : List Sense) (tables : Tables) (asked : Asked) (n : Notes) → logical_judged place o a b more tables asked n ≡ (logical_value o a b more tables >>= boolean_at place asked) n
logical_is place logical.And a b more tables asked n = sym (through_known _ (boolean_at place asked) (both (both (truth_of tables a) (truth_of tables b)) (truths_of tables more) n))
logical_is place logical.Or a b more tables asked n = sym (through_known _ (boolean_at place asked) (both (both (truth_of tables a) (truth_of tables b)) (truths_of tables more) n))
logical_is place logical.Xor a b more tables asked n = sym (through_known _ (boolean_at place asked) (both (both (truth_of tables a) (truth_of tables b)) (truths_of tables more) n))
logical_is place logical.AndThen a b more tables asked n = sym (through_known _ (boolean_at place asked) (both (both (truth_of tables a) (truth_of tables b)) (truths_of tables more) n))
logical_is place logical.OrElse a b more tables asked n = sym (through_known _ (boolean_at place asked) (both (both (truth_of tables a) (truth_of tables b)) (truths_of tables more) n))

-- what is known is changed
abbrev changed : {A B : Type 0} → (A → B) → Option A × Notes → Option B × Notes
changed g (a, s) = (option_map g a, s)

map_one_more : {A B : Type 0} (g : A → B) (xs : List A) (x : A) → map g xs ++ g x ∷ [] ≡ map g (xs ++ x ∷ [])
map_one_more g [] x = refl
map_one_more g (y ∷ ys) x = ap (λ zs. g y ∷ zs) (map_one_more g ys x)

appended_none : {A B : Type 0} (g : A → B) (done : Option (List A)) → appended (option_map (map g) done) None ≡ option_map (map g) (appended done None)
appended_none g None = refl
appended_none g (Some xs) = refl

appended_some : {A B : Type 0} (g : A → B) (done : Option (List A)) (x : A) → appended (option_map (map g) done) (Some (g x)) ≡ option_map (map g) (appended done (Some x))
appended_some g None x = refl
appended_some g (Some xs) x = ap Some (map_one_more g xs x)

abbrev made : {A B C : Type 0} → (A → Judgement B) → (B → C) → A → Judgement C
made f g x = f x >>= (λ v. known (g v))

each_on_made : {A B C : Type 0} (f : A → Judgement B) (g : B → C) (before : Option (List B)) (q : Option B × Notes) (xs : List A) → each_on (made f g) (option_map (map g) before) (with_known (λ v. known (g v)) q) xs ≡ changed (map g) (each_on f before q xs)
each_on_made f g before (None, s) [] = ap (λ d. (d, s)) (appended_none g before)
each_on_made f g before (Some v, s) [] = ap (λ d. (d, s)) (appended_some g before v)
each_on_made f g before (None, s) (x ∷ xs) = ap (λ d. each_on (made f g) d (made f g x s) xs) (appended_none g before) ∙ each_on_made f g (appended before None) (f x s) xs
each_on_made f g before (Some v, s) (x ∷ xs) = ap (λ d. each_on (made f g) d (made f g x s) xs) (appended_some g before v) ∙ each_on_made f g (appended before (Some v)) (f x s) xs

each_made : {A B C : Type 0} (f : A → Judgement B) (g : B → C) (before : Option (List B)) (xs : List A) (s : Notes) → each (made f g) (option_map (map g) before) xs s ≡ changed (map g) (each f before xs s)
each_made f g before [] s = refl
each_made f g before (x ∷ xs) s = each_on_made f g before (f x s) xs

behind_are : (o : BinaryOp) (tables : Tables) (xs : List Sense) (s : Notes) → truths_behind o tables xs s ≡ changed (map (logical_operand o)) (truths_of tables xs s)
behind_are o tables xs s = each_made (truth_of tables) (logical_operand o) (Some []) xs s

abbrev chained : BinaryOp → (Expr × Expr) × List Checked_operand → Judgement Expr
chained o r = known (e.Chain r.0.0 (logical_operand o r.0.1) r.1)

abbrev chained_late : BinaryOp → (Expr × Expr) × List Expr → Judgement Expr
chained_late o r = known (e.Chain r.0.0 (logical_operand o r.0.1) (map (logical_operand o) r.1))

paired_late : (o : BinaryOp) (two : Option (Expr × Expr)) (q : Option (List Expr) × Notes) → with_known (chained_late o) (paired two q) ≡ with_known (chained o) (paired two (changed (map (logical_operand o)) q))
paired_late o None (b, s) = refl
paired_late o (Some a) (None, s) = refl
paired_late o (Some a) (Some b, s) = refl

after_two : (o : BinaryOp) (tables : Tables) (more : List Sense) (q : Option (Expr × Expr) × Notes) → with_known (chained_late o) (beside (truths_of tables more) q) ≡ with_known (chained o) (beside (truths_behind o tables more) q)
after_two o tables more (two, s) = paired_late o two (truths_of tables more s) ∙ ap (λ r. with_known (chained o) (paired two r)) (sym (behind_are o tables more s))

-- the operands of `and`, `or` or `xor` may be made one by one
pub whole_is : (o : BinaryOp) (a b : Sense) (more : List Sense) (tables : Tables) (n : Notes) → whole o a b more tables n ≡ (both (two_truths tables a b) (truths_behind o tables more) >>= chained o) n
whole_is o a b more tables n = after_two o tables more (two_truths tables a b n)

both_first : (a b : Sense) (tables : Tables) (n m k : Notes) (x : Option Expr) (two : Option (Expr × Expr)) → truth_of tables a n ≡ (x, m) → beside (truth_of tables b) (x, m) ≡ (two, k) → two_truths tables a b n ≡ (two, k)
both_first a b tables n m k x two first second = ap (beside (truth_of tables b)) first ∙ second

by_whole : (q : BinaryOp) (a b : Sense) (more : List Sense) (tables : Tables) (n k : Notes) (two : Option (Expr × Expr)) → two_truths tables a b n ≡ (two, k) → whole q a b more tables n ≡ whole_behind q two more tables k
by_whole q a b more tables n k two h = whole_is q a b more tables n ∙ ap (λ r. with_known (chained q) (beside (truths_behind q tables more) r)) h

by_short : (s : Shortcut) (a b : Sense) (more : List Sense) (tables : Tables) (n k : Notes) (two : Option (Expr × Expr)) → two_truths tables a b n ≡ (two, k) → short s a b more tables n ≡ short_behind s two more tables k
by_short s a b more tables n k two h = ap (λ r. with_known (short_made s) (beside (truths_of tables more) r)) h

value_is : (o : LogicalOperator) (a b : Sense) (more : List Sense) (tables : Tables) (n k : Notes) (two : Option (Expr × Expr)) → two_truths tables a b n ≡ (two, k) → logical_value o a b more tables n ≡ logical_behind o two more tables k
value_is logical.And a b more tables n k two h = by_whole op.And a b more tables n k two h
value_is logical.Or a b more tables n k two h = by_whole op.Or a b more tables n k two h
value_is logical.Xor a b more tables n k two h = by_whole op.Xor a b more tables n k two h
value_is logical.AndThen a b more tables n k two h = by_short shortcut.AndThen a b more tables n k two h
value_is logical.OrElse a b more tables n k two h = by_short shortcut.OrElse a b more tables n k two h

-- an expression of several relations, once each part of it is judged
pub logical_judged_is : (place : Span) (o : LogicalOperator) (a b : Sense) (more : List Sense) (tables : Tables) (asked : Asked) (n m k l : Notes) (x v : Option Expr) (two : Option (Expr × Expr)) → truth_of tables a n ≡ (x, m) → beside (truth_of tables b) (x, m) ≡ (two, k) → logical_behind o two more tables k ≡ (v, l) → logical_judged place o a b more tables asked n ≡ onward v (boolean_at place asked) l
logical_judged_is place o a b more tables asked n m k l x v two first second behind =
    logical_is place o a b more tables asked n
    ∙ ap (with_known (boolean_at place asked)) (value_is o a b more tables n k two (both_first a b tables n m k x two first second) ∙ behind)
