-- What labels the nodes of a tree without types.
pub data Label : Type 0 where
  -- expressions (RM 4.4): literals and primaries, then what operators make of them (RM 4.5), and allocators (RM 4.8)
  Number : Label
  String : Label
  Null : Label
  Name : Label
  Parentheses : Label
  Unary : Label
  Product : Label
  Sum : Label
  Relation : Label
  Logical : Label
  Allocator : Label
  -- suffixes of names (RM 4.1): a selector, `.all`, arguments in parentheses, `'Access`, another attribute
  Selector : Label
  All : Label
  Arguments : Label
  Access : Label
  Attribute : Label
  -- statements (RM 5.1)
  Assignment : Label
  Call : Label
  NullStatement : Label
  Exit : Label
  Return : Label
  Raise : Label
  If : Label
  Loop : Label
  Block : Label
  -- loop schemes (RM 5.5)
  While : Label
  For : Label
  Endless : Label
  -- type definitions (RM 3.2.1): a record (RM 3.8), an extension (RM 3.9.1), an access type (RM 3.10)
  Record : Label
  Extension : Label
  AccessType : Label
  -- items (RM 3.11): a type, a clause for a storage pool (RM 13.11), names of objects or of exceptions, a subprogram, an instance (RM 12.3)
  TypeItem : Label
  PoolClause : Label
  NamedItem : Label
  Subprogram : Label
  Instance : Label
  -- logical operators and short-circuit control forms (RM 4.5.1)
  And : Label
  Or : Label
  Xor : Label
  AndThen : Label
  OrElse : Label
  -- relational operators (RM 4.5.2)
  Equal : Label
  NotEqual : Label
  Less : Label
  LessEqual : Label
  Greater : Label
  GreaterEqual : Label
  -- binary adding operators (RM 4.5.3), the first two of which are signs too (RM 4.5.4)
  Plus : Label
  Minus : Label
  Concatenate : Label
  -- multiplying operators (RM 4.5.5)
  Times : Label
  Divide : Label
  Mod : Label
  Rem : Label
  -- highest precedence operators (RM 4.5.6)
  Abs : Label
  Not : Label
  -- attributes that an identifier names (RM 3.5)
  Image : Label
  First : Label
  Last : Label
  -- modes of formal parameters (RM 6.1)
  In : Label
  Out : Label
  InOut : Label
  -- clauses of a context (RM 10.1.2)
  With : Label
  Use : Label
  -- whether a word is there
  Yes : Label
  No : Label
