-- Going through the items of a part: whether a body stands behind, and one item more.
use Rattle.std.proofs.Common.{arith, ◌≡◌, refl, sym, ap, ◌∙◌, ℕ, suc, ◌-◌, Bool, true, false, if◌then◌else◌, ◌||◌, List, [], ◌∷◌, map, Option}
use Rattle.ctl_program.specs.declared.statement.Item.{Item as Checked_item}
use Rattle.ctl_syntax.specs.declared.denoted.Definition.{Definition}
use Rattle.ctl_syntax.specs.declared.denoted.Use.{Use}
use Rattle.ctl_syntax.specs.declared.item.Item.{Item}
use Rattle.ctl_draft.specs.declared.draft.Around.{Around}
use Rattle.ctl_draft.specs.declared.draft.Draft.{Draft}
use Rattle.ctl_draft.specs.declared.draft.Order.{Order}
use Rattle.ctl_draft.specs.declared.draft.Order.TheVariants as order
use Rattle.ctl_types.specs.Elaboration.{Part_of, item_judged, any_body, order_before, more_items, items, items_on}
use Rattle.ctl_types.specs.Parts.{is_body, bodies_on, bodies_but, order_with}

bodies_more : (n : ℕ) (is : List (Item Definition Use)) → bodies_on (suc n) is ≡ suc (bodies_on n is)
bodies_more n [] = refl
bodies_more n (i ∷ is) = by_kind (λ m. bodies_more m is) (is_body i)
  where
    by_kind : ((m : ℕ) → bodies_on (suc m) is ≡ suc (bodies_on m is)) → (b : Bool) → bodies_on (if b then suc (suc n) else suc n) is ≡ suc (bodies_on (if b then suc n else n) is)
    by_kind more true = more (suc n)
    by_kind more false = more n

-- those behind an item are those that are left without it
pub bodies_left : (i : Item Definition Use) (is : List (Item Definition Use)) → bodies_but i (bodies_on 0 (i ∷ is)) ≡ bodies_on 0 is
bodies_left i is = by_kind (is_body i)
  where
    by_kind : (b : Bool) → (if b then bodies_on (if b then 1 else 0) is - 1 else bodies_on (if b then 1 else 0) is) ≡ bodies_on 0 is
    by_kind true = omega (arith, bodies_more 0 is)
    by_kind false = refl

-- a body stands behind where one is left
pub ordered : (is : List (Item Definition Use)) → order_before (map item_judged is) ≡ order_with (bodies_on 0 is)
ordered [] = refl
ordered (i ∷ is) = by_kind (ordered is) (is_body i)
  where
    by_kind : order_before (map item_judged is) ≡ order_with (bodies_on 0 is) → (b : Bool) → (if (b || any_body (map item_judged is)) then order.BeforeBody else order.BehindBodies) ≡ order_with (bodies_on (if b then 1 else 0) is)
    by_kind behind true = ap order_with (sym (bodies_more 0 is))
    by_kind behind false = behind

items_next : (around : Around) (before one : Option (List Checked_item)) (d : Draft) (is : List Part_of) → items_on around before (one, d) is ≡ items around (more_items before one) is d
items_next around before one d [] = refl
items_next around before one d (i ∷ is) = refl

-- one item, and those behind it
pub items_turn : (around : Around) (before after one : Option (List Checked_item)) (i : Item Definition Use) (is : List (Item Definition Use)) (d e : Draft) (o : Order)
    → o ≡ order_before (map item_judged is) → (item_judged i).declares o around d ≡ (one, e) → after ≡ more_items before one
    → items around after (map item_judged is) e ≡ items around before (map item_judged (i ∷ is)) d
items_turn around before after one i is d e o ordered judged more =
    ap (λ a. items around a (map item_judged is) e) more
    ∙ sym (items_next around before one e (map item_judged is))
    ∙ sym (ap (λ r. items_on around before r (map item_judged is)) (ap (λ q. (item_judged i).declares q around d) (sym ordered) ∙ judged))
