-- The constructs of the grammar whose begin and end are events of a tree's sequence (Oberon-07 report, appendix).
use Rattle.std.specs.Prelude.{Bool, true, false}

pub data Construct : Type 0 where
  Module : Construct
  Import : Construct
  ConstDeclaration : Construct
  TypeDeclaration : Construct
  VariableDeclaration : Construct
  ProcedureDeclaration : Construct
  NamedType : Construct  -- a qualident as a type
  ArrayType : Construct
  RecordType : Construct
  PointerType : Construct
  ProcedureType : Construct
  FieldList : Construct
  FPSection : Construct
  EmptyStatement : Construct
  Statement : Construct
  Case : Construct
  Expression : Construct
  SimpleExpression : Construct
  Term : Construct
  Factor : Construct
  Negated : Construct  -- a factor after ~
  Element : Construct
  Designator : Construct
  Selector : Construct

-- whether a construct counts as a level of nesting, for the bound on the depth of a tree
abbrev pub is_level : Construct → Bool
is_level Module = false
is_level Import = false
is_level ConstDeclaration = false
is_level TypeDeclaration = false
is_level VariableDeclaration = false
is_level ProcedureDeclaration = true
is_level NamedType = true
is_level ArrayType = true
is_level RecordType = true
is_level PointerType = true
is_level ProcedureType = true
is_level FieldList = false
is_level FPSection = false
is_level EmptyStatement = false
is_level Statement = true
is_level Case = false
is_level Expression = true
is_level SimpleExpression = false
is_level Term = false
is_level Factor = false
is_level Negated = true
is_level Element = false
is_level Designator = false
is_level Selector = false
