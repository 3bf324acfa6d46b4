-- What a tree keeps of a node.
use Rattle.std.specs.Prelude.{ℕ, List, codes, cond}
use Rattle.ctl_grammar.specs.Form.{Node, none, leaf, num, written, at, pair, tag}
use Rattle.ctl_grammar.specs.Label.{Label}
use Rattle.ctl_grammar.specs.Label as labels
use Rattle.ctl_grammar.specs.Nodes.{alone, first, second, part_2, behind_2, part_3, behind_3, letters}
use Rattle.ctl_grammar.specs.Reading.{Read, made}
use Rattle.ctl_grammar.specs.Spelling.{same_name}

-- which attribute is spelled so: Image, First or Last
abbrev pub spelled_attribute : List ℕ → Label
spelled_attribute s = cond (same_name (codes "image") s) labels.Image (cond (same_name (codes "first") s) labels.First labels.Last)

-- of an attribute: which one, and where
abbrev pub attribute_part : Node → Node
attribute_part id = pair (alone (spelled_attribute (letters (first id)))) (second id)

-- of the aspect of an access type, if there is one: the pool, and not the word Storage_Pool
abbrev pub aspect_part : Node → Node
aspect_part none = none
aspect_part (pair word pool) = pair none pool
aspect_part (leaf t) = none
aspect_part (num n) = none
aspect_part (written s) = none
aspect_part (at p) = none
aspect_part (tag n v) = none

-- of an access type: all but the spelling of its aspect
abbrev pub access_part : Node → Node
access_part v = pair (first v) (pair (part_2 v) (pair (part_3 v) (aspect_part (behind_3 v))))

-- of a clause for a pool: the type and the pool, and not the word Storage_Pool
abbrev pub pool_part : Node → Node
pool_part v = pair (first v) (behind_2 v)

-- of a body: its items and what is handled, and not the name at its end
abbrev pub body_part : Node → Node
body_part v = pair (first v) (part_2 v)

-- of what completes a heading: the body, if there is one
abbrev pub completed_part : Node → Node
completed_part none = none
completed_part (pair a body) = pair a (body_part body)
completed_part (leaf t) = none
completed_part (num n) = none
completed_part (written s) = none
completed_part (at p) = none
completed_part (tag n v) = none

-- of a subprogram: all but the name at its end
abbrev pub subprogram_part : Node → Node
subprogram_part v = pair (first v) (pair (part_2 v) (completed_part (behind_2 v)))

-- the parts of a node with this label, from what is kept of each
abbrev pub kept_parts : Label → Node → Node
kept_parts labels.Attribute v = attribute_part v
kept_parts labels.AccessType v = access_part v
kept_parts labels.PoolClause v = pool_part v
kept_parts labels.Subprogram v = subprogram_part v
kept_parts _ v = v

-- all but how an attribute or the word Storage_Pool is spelled, and the names at the ends of subprograms
abbrev pub kept : Node → Node
kept none = none
kept (leaf t) = leaf t
kept (num n) = num n
kept (written s) = written s
kept (at p) = at p
kept (pair a b) = pair (kept a) (kept b)
kept (tag n v) = tag n (kept_parts n (kept v))

-- what is kept of what was read
abbrev pub kept_read : Read → Read
kept_read o = made kept o

-- a node from what is kept of its parts
abbrev pub kept_here : Node → Node
kept_here (tag n v) = tag n (kept_parts n v)
kept_here none = none
kept_here (leaf t) = leaf t
kept_here (num n) = num n
kept_here (written s) = written s
kept_here (at p) = at p
kept_here (pair a b) = pair a b

-- what is kept of a whole text: its own name at its end is not
abbrev pub kept_program : Node → Node
kept_program v = pair (first (kept v)) (pair (part_2 (kept v)) (pair (part_3 (kept v)) (body_part (behind_3 (kept v)))))
