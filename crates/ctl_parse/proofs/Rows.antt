-- Rows that a loop reads.
use Rattle.std.proofs.Common.{◌≡◌, suc, ◌<◌, Bool, true, false, cond, List, [], ◌∷◌, ◌++◌, map, length, Option, Some, None, Ok, Err, refl, sym, ap, subst, ◌∙◌, arith}
use Rattle.std.specs.Prelude.{◌&&◌}
use Rattle.std.proofs.lemmas.List.{map_push}
use Rattle.ctl_tree.specs.declared.token.Token.{Token}
use Rattle.ctl_grammar.specs.declared.refused.Refused.{Refused}
use Rattle.ctl_grammar.specs.declared.refused.Refused.TheVariants as refused
use Rattle.ctl_grammar.specs.Form.{Node, none, pair, Form, many, ◌▸◌, starts, can_be_empty, every_rule}
use Rattle.ctl_grammar.specs.Nodes.{row_of, joined_row}
use Rattle.ctl_grammar.specs.Reading.{Read, begins, reader, read, construct, is_zero}
use Rattle.ctl_grammar.proofs.Rows.{consumes, all_step, all_stop}
use Rattle.ctl_grammar.proofs.Loops.{joined_none}
use Rattle.ctl_parse.specs.declared.cursor.Parser.{Parser}
use Rattle.ctl_parse.specs.Kept.{kept, kept_read}
use Rattle.ctl_parse.specs.Reads.{Reads, Gathers, Gave, Goes, Appended, Appends, is_sound, sees, pending}
use Rattle.ctl_parse.proofs.Steps.{then, being, being_sound, sound_from}

-- ---- one more, or no more

goes_same : (o s : Read) (a : Node) (ts us : List Token) (d e : Option Refused) → (d ≡ None → s ≡ o) → Goes d ts o a e us → Goes d ts s a e us
goes_same o s a ts us None e h g = subst (λ (z : Read). Gave z a e us) (sym (h refl)) g
goes_same o s a ts us (Some x) e h g = g

begins_sound : (b : Bool) (d : Option Refused) → (is_sound d && b) ≡ true → b ≡ true
begins_sound b None h = h
begins_sound b (Some x) h = absurd cc

begins_not : (b : Bool) (d : Option Refused) → (is_sound d && b) ≡ false → d ≡ None → b ≡ false
begins_not b None h k = h
begins_not b (Some x) h k = absurd cc

pub one_more : {f : Form} {env : Node} {p q r : Parser} {a b : Node} → can_be_empty f ≡ false → sees (starts f) p ≡ true → Reads f env p a q → Reads (many f) env q b r → Reads (many f) env p (pair a b) r
one_more {f} {env} {p} {q} {r} {a} {b} some h k l =
    let both = then k l in
    let step = all_step (starts f) (reader every_rule (is_zero p.left) (construct every_rule true p.left) f env) (consumes every_rule (is_zero p.left) true p.left f env some) p.rest.now (begins_sound (begins (starts f) p.rest.now) p.fault h) in
    record {
      left = both.left;
      goes = goes_same (read p.left (f ▸ many f) env p.rest.now) (read p.left (many f) env p.rest.now) (pair a b) p.rest.now r.rest.now p.fault r.fault (λ z. step) both.goes;
    }

goes_nothing : (o : Read) (ts : List Token) (d : Option Refused) → (d ≡ None → o ≡ Ok (none, ts)) → Goes d ts o none d ts
goes_nothing o ts None h = ap kept_read (h refl)
goes_nothing o ts (Some x) h = (refl, refl)

pub no_more : {f : Form} {env : Node} (p : Parser) → sees (starts f) p ≡ false → Reads (many f) env p none p
no_more {f} {env} p h = record {
  left = refl;
  goes = goes_nothing (read p.left (many f) env p.rest.now) p.rest.now p.fault (λ z. all_stop (starts f) (reader every_rule (is_zero p.left) (construct every_rule true p.left) f env) p.rest.now (begins_not (begins (starts f) p.rest.now) p.fault h z));
}

-- ---- loops

-- a loop begins with nothing
pub beginning : {f : Form} {env : Node} (p : Parser) → Gathers (many f) f env p [] p
beginning p = record { left = refl; so_far = λ v last h. h }

-- or behind the first one
pub beginning_with : {f g : Form} {env : Node} {p q : Parser} {a : Node} → Reads g env p a q → Gathers (g ▸ many f) f env p (a ∷ []) q
beginning_with one = record { left = one.left; so_far = λ v last h. then one h }

joined_push : (front : List Node) (x v : Node) → joined_row (front ++ x ∷ []) v ≡ joined_row front (pair x v)
joined_push [] x v = refl
joined_push (y ∷ front) x v = ap (λ (w : Node). pair y w) (joined_push front x v)

appended_sound : {X : Type 0} (e f : Option Refused) (before after : List X) (x : X) → Appended e before x after f → f ≡ None → after ≡ before ++ x ∷ []
appended_sound None None before after x h k = h
appended_sound None (Some y) before after x h k = absurd cc
appended_sound (Some y) f before after x h k = absurd (let clash = sym k ∙ h in absurd cc)

appended_still : {X : Type 0} (o : Read) (a : Node) (ts us : List Token) (d e f : Option Refused) (before after : List X) (x : X) → Appended e before x after f → Goes d ts o a e us → Goes d ts o a f us
appended_still o a ts us None None None before after x h g = g
appended_still o a ts us None None (Some refused.Memory) before after x h g = tt
appended_still o a ts us None None (Some (refused.Token r)) before after x h g = absurd h
appended_still o a ts us d (Some y) f before after x h g = subst (λ (z : Option Refused). Goes d ts o a z us) (sym h) g
appended_still o a ts us (Some z) None f before after x h g = absurd (let clash = g.0 in absurd cc)

-- what was read and put behind a list
pub appending : {X : Type 0} {form : Form} {env : Node} {p q r : Parser} {a : Node} {before after : List X} {x : X} → Reads form env p a q → Appends before x after q r → Reads form env p a r
appending {X} {form} {env} {p} {q} {r} {a} {before} {after} {x} k l = record {
  left = l.left ∙ k.left;
  goes = subst (λ (z : List Token). Goes p.fault p.rest.now (read p.left form env p.rest.now) a r.fault z) (sym l.rest)
      (appended_still (read p.left form env p.rest.now) a p.rest.now q.rest.now p.fault q.fault r.fault before after x l.appended k.goes);
}

-- a loop goes on with one more
pub gathering : {X : Type 0} {whole each : Form} {env : Node} {p q r s : Parser} {before after : List X} {x : X} (view : X → Node)
    → Gathers whole each env p (map view before) q → can_be_empty each ≡ false → sees (starts each) q ≡ true → Reads each env q (view x) r
    → Appends before x after r s → Gathers whole each env p (map view after) s
gathering {X} {whole} {each} {env} {p} {q} {r} {s} {before} {after} {x} view g some b k l = record {
  left = l.left ∙ k.left ∙ g.left;
  so_far = λ v last more.
      let one = appending k l in
      let all = g.so_far (pair (view x) v) last (one_more some b one more) in
      let same : s.fault ≡ None → joined_row (map view after) v ≡ joined_row (map view before) (pair (view x) v) = λ z.
      ap (λ (xs : List X). joined_row (map view xs) v) (appended_sound r.fault s.fault before after x l.appended z)
      ∙ ap (λ (ns : List Node). joined_row ns v) (map_push view before x)
      ∙ joined_push (map view before) (view x) v in
      being_sound (λ z. same (sound_from more z)) all;
}

-- a loop ends
pub gathered : {whole each : Form} {env : Node} {p q : Parser} {front : List Node} → Gathers whole each env p front q → sees (starts each) q ≡ false → Reads whole env p (row_of front) q
gathered {whole} {each} {env} {p} {q} {front} g h = being (sym (joined_none front)) (g.so_far none q (no_more q h))

-- ---- loops end

kept_ok : (o : Read) (a : Node) (us : List Token) → kept_read o ≡ Ok (a, us) → (v : Node) × (o ≡ Ok (v, us))
kept_ok (Ok x) a us h =
    let pairs : (y z : Node × List Token) → (let w : Read = Ok y in w) ≡ Ok z → y ≡ z = λ y z e. cc in
    (x.0, ap (λ (z : Node × List Token). Ok (x.0, z.1)) (pairs (kept x.0, x.1) (a, us) h))
kept_ok (Err e) a us h = absurd cc

falls : (o : Read) (a : Node) (ts us : List Token) (d e : Option Refused) → is_sound d ≡ true → ((v : Node) → o ≡ Ok (v, us) → length us < length ts) → Goes d ts o a e us → cond (is_sound e) (suc (length us)) 0 < cond (is_sound d) (suc (length ts)) 0
falls o a ts us None None b h g = let p = kept_ok o a us g in let lt = h p.0 p.1 in omega (arith, lt)
falls o a ts us None (Some x) b h g = omega arith
falls o a ts us (Some y) e b h g = absurd cc

sound_and : (b : Bool) (d : Option Refused) → (is_sound d && b) ≡ true → is_sound d ≡ true
sound_and b None h = refl
sound_and b (Some x) h = absurd cc

shorter : {f : Form} {env : Node} {p q : Parser} {a : Node} → can_be_empty f ≡ false → sees (starts f) p ≡ true → Reads f env p a q → pending q < pending p
shorter {f} {env} {p} {q} {a} some b k =
    falls (read p.left f env p.rest.now) a p.rest.now q.rest.now p.fault q.fault (sound_and (begins (starts f) p.rest.now) p.fault b)
    (λ v e. consumes every_rule (is_zero p.left) true p.left f env some p.rest.now v q.rest.now e) k.goes

pub smaller : {X : Type 0} {f : Form} {env : Node} {p q r : Parser} {a : Node} {before after : List X} {x : X} → can_be_empty f ≡ false → sees (starts f) p ≡ true → Reads f env p a q → Appends before x after q r → pending r < pending p
smaller {X} {f} {env} {p} {q} {r} {a} {before} {after} {x} some b one l = shorter some b (appending one l)

-- or with the first one in the list
pub beginning_pushed : {X : Type 0} {f g : Form} {env : Node} {p q r : Parser} {after : List X} {x : X} (view : X → Node) → Reads g env p (view x) q → Appends [] x after q r → Gathers (g ▸ many f) f env p (map view after) r
beginning_pushed {X} {f} {g} {env} {p} {q} {r} {after} {x} view k l = record {
  left = l.left ∙ k.left;
  so_far = λ v last more.
      let same : r.fault ≡ None → joined_row (map view after) v ≡ pair (view x) v = λ z. ap (λ (xs : List X). joined_row (map view xs) v) (appended_sound q.fault r.fault [] after x l.appended z) in
      being_sound (λ z. same (sound_from more z)) (then (appending k l) more);
}
