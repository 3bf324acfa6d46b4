-- Making nodes from nodes that were read.
use Rattle.std.proofs.Common.{◌≡◌, Option, Some, None, List, [], ◌∷◌, ◌++◌, refl, sym, subst}
use Rattle.ctl_grammar.specs.declared.refused.Refused.{Refused}
use Rattle.ctl_grammar.specs.Form.{Node}
use Rattle.ctl_parse.specs.declared.cursor.Parser.{Parser}
use Rattle.ctl_parse.specs.Reads.{Appended, Appends, Builds, Made, Refuses}

made_same : (w v : Node) (e f : Option Refused) → v ≡ w → e ≡ f → Made f w v e
made_same w v e None h k = subst (λ z. Made None w v z) (sym k) h
made_same w v e (Some f) h k = k

made_refused : (w v : Node) (e f : Option Refused) → Refuses f e → Made f w v e
made_refused w v e None k = subst (λ z. Made None w v z) (sym k) tt
made_refused w v e (Some f) k = k

pub built : (w v : Node) (p q : Parser) → q.left ≡ p.left → q.rest.now ≡ p.rest.now → q.fault ≡ p.fault → v ≡ w → Builds w p v q
built w v p q l r e h = record { left = l; rest = r; made = made_same w v q.fault p.fault h e }

pub unbuilt : (w v : Node) (p q : Parser) → q.left ≡ p.left → q.rest.now ≡ p.rest.now → Refuses p.fault q.fault → Builds w p v q
unbuilt w v p q l r e = record { left = l; rest = r; made = made_refused w v q.fault p.fault e }

appended_same : {X : Type 0} (before after : List X) (x : X) (e f : Option Refused) → after ≡ before ++ x ∷ [] → e ≡ f → Appended f before x after e
appended_same before after x e None h k = subst (λ z. Appended None before x after z) (sym k) h
appended_same before after x e (Some f) h k = k

appended_refused : {X : Type 0} (before after : List X) (x : X) (e f : Option Refused) → Refuses f e → Appended f before x after e
appended_refused before after x e None k = subst (λ z. Appended None before x after z) (sym k) tt
appended_refused before after x e (Some f) k = k

pub appended : {X : Type 0} (before after : List X) (x : X) (p : Parser) → after ≡ before ++ x ∷ [] → Appends before x after p p
appended before after x p h = record { left = refl; rest = refl; appended = appended_same before after x p.fault p.fault h refl }

pub unappended : {X : Type 0} (before after : List X) (x : X) (p q : Parser) → q.left ≡ p.left → q.rest.now ≡ p.rest.now → Refuses p.fault q.fault → Appends before x after p q
unappended before after x p q l r e = record { left = l; rest = r; appended = appended_refused before after x q.fault p.fault e }
