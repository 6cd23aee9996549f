-- The tree of a source file as plain data: one alternative for each of the grammar's, with its tokens (C99 6.5 to 6.9).
-- A number named `at`, or after a punctuator, is the byte at which a keyword or a punctuator stands.
use Rattle.std.specs.Prelude.{ℕ, List, Option}
use Rattle.c_types.specs.declared.ty.IntKind.{IntKind}
use Rattle.c_ast.specs.declared.words.Spelling.{Spelling}
use Rattle.c_ast.specs.declared.operators.StepOp.{StepOp}
use Rattle.c_ast.specs.declared.operators.UnaryOp.{UnaryOp}
use Rattle.c_ast.specs.declared.operators.BinaryOp.{BinaryOp}
use Rattle.c_ast.specs.declared.operators.AssignOp.{AssignOp}
use Rattle.c_ast.specs.declared.operators.SpecifierKeyword.{SpecifierKeyword}

mutual
  -- an expression (6.5)
  pub data Expression : Type 0 where
    name : (x : Spelling) → Expression
    number : (x : Spelling) → (value : ℕ) → (kind : IntKind) → Expression
    character : (x : Spelling) → (value : ℕ) → Expression
    texts : (all : List Spelling) → Expression
    paren : (left : ℕ) → (a : Expression) → (right : ℕ) → Expression
    index : (a : Expression) → (left : ℕ) → (b : Expression) → (right : ℕ) → Expression
    call : (f : Expression) → (left : ℕ) → (all : Arguments) → (right : ℕ) → Expression
    dot : (a : Expression) → (at : ℕ) → (x : Spelling) → Expression
    arrow : (a : Expression) → (at : ℕ) → (x : Spelling) → Expression
    post : (a : Expression) → (op : StepOp) → (at : ℕ) → Expression
    pre : (op : StepOp) → (at : ℕ) → (a : Expression) → Expression
    unary : (op : UnaryOp) → (at : ℕ) → (a : Expression) → Expression
    sizeof_expression : (at : ℕ) → (a : Expression) → Expression
    sizeof_type : (at left : ℕ) → (type_name : TypeName) → (right : ℕ) → Expression
    cast : (left : ℕ) → (type_name : TypeName) → (right : ℕ) → (a : Expression) → Expression
    binary : (a : Expression) → (op : BinaryOp) → (at : ℕ) → (b : Expression) → Expression
    cond : (a : Expression) → (question : ℕ) → (b : Expression) → (colon : ℕ) → (c : Expression) → Expression
    assign : (a : Expression) → (op : AssignOp) → (at : ℕ) → (b : Expression) → Expression
    comma : (a : Expression) → (at : ℕ) → (b : Expression) → Expression
    -- an initializer in braces (6.7.8): it stands only where an initializer may
    braces : (left : ℕ) → (all : Arguments) → (comma : Option ℕ) → (right : ℕ) → Expression

  -- the arguments of a call, or initializers; each but the first has a comma before it
  pub data Arguments : Type 0 where
    no_arguments : Arguments
    and_argument : (comma : Option ℕ) → (a : Expression) → (more : Arguments) → Arguments

  -- an expression, or none
  pub data OptionalExpression : Type 0 where
    no_expression : OptionalExpression
    some_expression : (a : Expression) → OptionalExpression

  -- a type name (6.7.6)
  pub data TypeName : Type 0 where
    type_name : (specs : Specifiers) → (d : Declarator) → TypeName

  -- specifiers (6.7.1 to 6.7.3)
  pub data Specifiers : Type 0 where
    no_specifiers : Specifiers
    and_specifier : (s : Specifier) → (more : Specifiers) → Specifiers

  pub data Specifier : Type 0 where
    plain : (word : SpecifierKeyword) → (at : ℕ) → Specifier
    typename : (x : Spelling) → Specifier
    struct_named : (at : ℕ) → (x : Spelling) → Specifier
    struct_body : (at : ℕ) → (x : Option Spelling) → (left : ℕ) → (member_declarations : MemberDeclarations) → (right : ℕ) → Specifier
    enum_named : (at : ℕ) → (x : Spelling) → Specifier
    enum_body : (at : ℕ) → (x : Option Spelling) → (left : ℕ) → (all : Enumerators) → (comma : Option ℕ) → (right : ℕ) → Specifier

  -- the member declarations of a structure (6.7.2.1)
  pub data MemberDeclarations : Type 0 where
    no_member_declarations : MemberDeclarations
    and_member_declaration : (specs : Specifiers) → (member_declarators : MemberDeclarators) → (semicolon : ℕ) → (more : MemberDeclarations)
        → MemberDeclarations

  -- the declarators of a line; each but the first has a comma before it
  pub data MemberDeclarators : Type 0 where
    no_member_declarators : MemberDeclarators
    and_member_declarator : (comma : Option ℕ) → (d : Declarator) → (more : MemberDeclarators) → MemberDeclarators

  -- enumerators (6.7.2.2); each but the first has a comma before it
  pub data Enumerators : Type 0 where
    no_enumerators : Enumerators
    and_enumerator : (comma : Option ℕ) → (x : Spelling) → (value : EnumeratorValue) → (more : Enumerators) → Enumerators

  pub data EnumeratorValue : Type 0 where
    no_value : EnumeratorValue
    valued : (equal : ℕ) → (a : Expression) → EnumeratorValue

  -- a declarator (6.7.5), or nothing, as in an abstract one (6.7.6)
  pub data Declarator : Type 0 where
    nothing : Declarator
    named : (x : Spelling) → Declarator
    pointer : (at : ℕ) → (consts : List ℕ) → (d : Declarator) → Declarator
    enclosed : (left : ℕ) → (d : Declarator) → (right : ℕ) → Declarator
    array : (d : Declarator) → (left : ℕ) → (length : OptionalExpression) → (right : ℕ) → Declarator
    function : (d : Declarator) → (left : ℕ) → (all : ParameterList) → (right : ℕ) → Declarator

  -- what stands in the parentheses of a function's declarator
  pub data ParameterList : Type 0 where
    void_alone : (at : ℕ) → ParameterList
    listed : (all : Parameters) → ParameterList

  -- each parameter but the first has a comma before it
  pub data Parameters : Type 0 where
    no_parameters : Parameters
    and_parameter : (comma : Option ℕ) → (specs : Specifiers) → (d : Declarator) → (more : Parameters) → Parameters

-- a declarator with its initializer (6.7): the byte of "=", and what stands after it; the comma before it
pub record InitDeclarator : Type 0 where
  pub comma : Option ℕ
  pub declarator : Declarator
  pub value : Option (ℕ × Expression)

-- a declaration (6.7)
pub record Declaration : Type 0 where
  pub specs : Specifiers
  pub all : List InitDeclarator
  pub semicolon : ℕ

-- a label of a switch (6.8.1)
pub data Label : Type 0 where
  case : (at : ℕ) → (a : Expression) → (colon : ℕ) → Label
  default : (at colon : ℕ) → Label

-- what stands first in a for (6.8.5.3)
pub data ForStart : Type 0 where
  starts_with : (a : Option Expression) → (semicolon : ℕ) → ForStart
  declares : (d : Declaration) → ForStart

mutual
  -- a statement (6.8)
  pub data Statement : Type 0 where
    block : (left : ℕ) → (items : BlockItems) → (right : ℕ) → Statement
    evaluate : (a : Option Expression) → (semicolon : ℕ) → Statement
    when : (at left : ℕ) → (a : Expression) → (right : ℕ) → (one : Statement) → Statement
    choose : (at left : ℕ) → (a : Expression) → (right : ℕ) → (one : Statement) → (else : ℕ) → (other : Statement) → Statement
    while : (at left : ℕ) → (a : Expression) → (right : ℕ) → (body : Statement) → Statement
    do_while : (at : ℕ) → (body : Statement) → (while left : ℕ) → (a : Expression) → (right semicolon : ℕ) → Statement
    for : (at left : ℕ) → (start : ForStart) → (test : Option Expression) → (semicolon : ℕ) → (step : Option Expression) → (right : ℕ)
        → (body : Statement) → Statement
    switch : (at left : ℕ) → (a : Expression) → (right begin : ℕ) → (switch_items : SwitchItems) → (end : ℕ) → Statement
    break : (at semicolon : ℕ) → Statement
    continue : (at semicolon : ℕ) → Statement
    return : (at : ℕ) → (a : Option Expression) → (semicolon : ℕ) → Statement

  -- an item of a block (6.8.2)
  pub data BlockItem : Type 0 where
    local : (d : Declaration) → BlockItem
    statement : (a : Statement) → BlockItem

  pub data BlockItems : Type 0 where
    no_block_items : BlockItems
    and_block_item : (e : BlockItem) → (more : BlockItems) → BlockItems

  -- an item of the body of a switch; a declaration there carries no label
  pub data SwitchItem : Type 0 where
    local_switch_item : (d : Declaration) → SwitchItem
    labelled : (labels : List Label) → (a : Statement) → SwitchItem

  pub data SwitchItems : Type 0 where
    no_switch_items : SwitchItems
    and_switch_item : (switch_item : SwitchItem) → (more : SwitchItems) → SwitchItems

-- an item of a file (6.9)
pub data Item : Type 0 where
  defines : (specs : Specifiers) → (d : Declarator) → (left : ℕ) → (items : BlockItems) → (right : ℕ) → Item
  declaration : (d : Declaration) → Item
