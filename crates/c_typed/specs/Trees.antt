-- Typed trees as plain data. `T` is what stands for a type at a node, and `R` what stands for a record: their numbers in the lists of a
-- program, or the types and the tags themselves.
use Rattle.std.specs.Prelude.{ℕ, List, Bool, Option}
use Rattle.lay_base.specs.declared.place.Place.{Place}
use Rattle.c_typed.specs.declared.operators.UnaryOp.{UnaryOp}
use Rattle.c_typed.specs.declared.operators.BinaryOp.{BinaryOp}
use Rattle.c_typed.specs.declared.operators.CompareOp.{CompareOp}
use Rattle.c_typed.specs.declared.operators.PointerOp.{PointerOp}
use Rattle.c_typed.specs.declared.operators.StepOp.{StepOp}
use Rattle.c_typed.specs.declared.operators.LibraryFunction.{LibraryFunction}

mutual
  -- an expression (C99 6.5): its type, the place of the first token of its text, and what it is
  pub data Expression (T : Type 0) : Type 0 where
    expression : (ty : T) → (at : Place) → (node : Node T) → Expression T

  pub data Node (T : Type 0) : Type 0 where
    constant : (v : ℕ) → Node T
    null : Node T
    function_name : (f : ℕ) → Node T
    load : (p : Path T) → Node T
    address_of : (p : Path T) → Node T
    decay : (p : Path T) → Node T
    convert : (e : Expression T) → (written : Bool) → Node T
    unary : (op : UnaryOp) → (x : Expression T) → Node T
    binary : (op : BinaryOp) → (x y : Expression T) → Node T
    compare : (op : CompareOp) → (x y : Expression T) → Node T
    pointer_add : (op : PointerOp) → (x y : Expression T) → Node T
    pointer_difference : (x y : Expression T) → Node T
    both : (x y : Expression T) → Node T
    either : (x y : Expression T) → Node T
    not : (x : Expression T) → Node T
    choose : (x y z : Expression T) → Node T
    comma : (x y : Expression T) → Node T
    assign : (p : Path T) → (x : Expression T) → Node T
    assign_op : (op : BinaryOp) → (p : Path T) → (x : Expression T) → Node T
    step : (op : StepOp) → (before : Bool) → (p : Path T) → Node T
    copy_record : (to from : Path T) → Node T
    call : (f : ℕ) → (all : Expressions T) → Node T
    call_through : (e : Expression T) → (all : Expressions T) → Node T
    library : (which : LibraryFunction) → (all : Expressions T) → Node T
    allocate : (r : ℕ) → (count : OptionalExpression T) → (zeroed : Bool) → Node T

  -- the way to an object, or to a part of one
  pub data Path (T : Type 0) : Type 0 where
    path : (ty : T) → (at : Place) → (step : PathNode T) → Path T

  pub data PathNode (T : Type 0) : Type 0 where
    local : (n : ℕ) → PathNode T
    object : (n : ℕ) → PathNode T
    deref : (e : Expression T) → PathNode T
    index : (e i : Expression T) → PathNode T
    member : (p : Path T) → (r : ℕ) → (field : ℕ) → PathNode T
    element : (p : Path T) → (i : Expression T) → PathNode T

  pub data Expressions (T : Type 0) : Type 0 where
    no_expressions : Expressions T
    and_expression : (e : Expression T) → (more : Expressions T) → Expressions T

  pub data OptionalExpression (T : Type 0) : Type 0 where
    no_expression : OptionalExpression T
    some_expression : (e : Expression T) → OptionalExpression T

-- ---- initializers of locals (6.7.8)

pub data PartValue (T : Type 0) : Type 0 where
  value : (e : Expression T) → PartValue T
  record_of : (p : Path T) → PartValue T
  -- the first elements of an array of characters
  text : (bytes : List ℕ) → PartValue T

-- a part, by its first byte in the object
pub record Part (T : Type 0) : Type 0 where
  pub offset : ℕ
  pub value : PartValue T

pub data Initializer (T : Type 0) : Type 0 where
  whole : (e : Expression T) → Initializer T
  whole_record : (p : Path T) → Initializer T
  -- the parts that are named; all else is zero
  parts : (all : List (Part T)) → Initializer T

-- ---- statements (6.8)

mutual
  pub data Statement (T : Type 0) : Type 0 where
    evaluate : (e : Expression T) → Statement T
    -- the locals that are made when the block is entered, by their numbers
    block : (locals : List ℕ) → (all : Statements T) → Statement T
    declare : (local : ℕ) → (initial : Option (Initializer T)) → Statement T
    when : (e : Expression T) → (one : Statement T) → Statement T
    when_else : (e : Expression T) → (one other : Statement T) → Statement T
    while : (e : Expression T) → (body : Statement T) → Statement T
    do_while : (body : Statement T) → (e : Expression T) → Statement T
    for : (locals : List ℕ) → (start : Statements T) → (test step : Option (Expression T)) → (body : Statement T) → Statement T
    switch : (e : Expression T) → (locals : List ℕ) → (arms : Arms T) → Statement T
    break : Statement T
    continue : Statement T
    return : (e : Option (Expression T)) → Statement T

  pub data Statements (T : Type 0) : Type 0 where
    no_statements : Statements T
    and_statement : (s : Statement T) → (more : Statements T) → Statements T

  -- case values, whether `default` is among the labels, and the statements up to the next labels (6.8.4.2)
  pub data Arms (T : Type 0) : Type 0 where
    no_arms : Arms T
    and_arm : (cases : List ℕ) → (is_default : Bool) → (all : Statements T) → (more : Arms T) → Arms T
