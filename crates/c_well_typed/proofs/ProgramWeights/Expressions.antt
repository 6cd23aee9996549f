-- What stands for an expression weighs so much for each of its nodes, also where it is an argument of a call (C99 6.5).
use Rattle.std.proofs.Common.{ℕ, ◌+◌, ◌*◌, ◌≤◌, sym, subst, List, arith, inl, inr}
use Rattle.lay_base.specs.declared.place.Place.{Place}
use Rattle.c_types.specs.Types.{CType}
use Rattle.c_ast.specs.declared.operators.UnaryOp.TheVariants as U
use Rattle.c_ast.specs.Trees
use Rattle.c_ast.specs.Places.{first}
use Rattle.c_ast.specs.Sizes.{size, size_arguments}
use Rattle.c_typed.specs.declared.operators.BinaryOp.{BinaryOp}
use Rattle.c_typed.specs.declared.operators.BinaryOp.TheVariants as B
use Rattle.c_typed.specs.Trees as Typed
use Rattle.c_erasure.specs.Erasure.{Erases, AreValues, Values, IsNamed, IsLiteralFor, IsAddress, IsPointed, IsSum, IsJoined, IsCall, IsSize, literal_of}
use Rattle.c_erasure.specs.Erasure.{place_in}
use Rattle.c_erasure.specs.Noted.{Noted, Expression, Node, Thing, an_object, a_value, a_function, a_function_at, a_library_function}
use Rattle.c_erasure.specs.Noted.{unconverted}
use Rattle.c_erasure.specs.Operators.{Kind as JoinKind, computes, compares, all_of, any_of, kind_of}
use Rattle.c_erasure.specs.Scopes as Scopes
use Rattle.c_erasure.specs.Scopes.{Scope, Entity, Purpose, in_full, value_alone, type_alone}
use Rattle.c_well_typed.specs.ProgramWeights.Counted.{Kind, conversion, argument, operator, pointer_sum, call}
use Rattle.c_well_typed.specs.ProgramWeights.Weights.{weight, weight_of_node, weight_of_all}
use Rattle.c_well_typed.proofs.ProgramWeights.Values.{cost, converted_less, value_less}
use Rattle.c_well_typed.proofs.ProgramWeights.Within.{AreWithin}

module _ (n : Kind → ℕ) (most : ℕ) (w : AreWithin n most) where
  abbrev pub IsPaid : Thing → ℕ → Type 0
  IsPaid th nodes = cost n th ≤ most * nodes

  abbrev IsNodePaid : Node → ℕ → Type 0
  IsNodePaid node nodes = n conversion + n argument + weight_of_node n node ≤ most * nodes

  -- a value, converted or not, with what it weighs as an argument
  pub value_paid : (Stands : Thing → Type 0) (nodes : ℕ) (x : Expression) → Values Stands x → ((th : Thing) → Stands th → IsPaid th nodes)
      → n argument + weight n x ≤ most * nodes
  value_paid Stands nodes x h f =
      let a = f h.0 h.2 in
      let b = value_less n h.0 (unconverted x) h.1 in
      let c = converted_less n x in omega (arith, a, b, c)

  -- ---- parts of rules

  named_paid : (at : Place) (e : Entity) (th : Thing) → IsNamed at e th → IsPaid th 1
  named_paid at (Scopes.typedef t) th h = absurd h
  named_paid at (Scopes.enumerator v) th h = subst (λ th. IsPaid th 1) (sym h) (let a = w.unmade in omega (arith, a))
  named_paid at (Scopes.an_object k t) th h = subst (λ th. IsPaid th 1) (sym h) (let a = w.name in omega (arith, a))
  named_paid at (Scopes.a_function k t) th h = subst (λ th. IsPaid th 1) (sym h) (let a = w.unmade in omega (arith, a))
  named_paid at (Scopes.a_library_function which) th h = subst (λ th. IsPaid th 1) (sym h) (let a = w.unmade in omega (arith, a))
  named_paid at (Scopes.a_local k t) th h = subst (λ th. IsPaid th 1) (sym h) (let a = w.name in omega (arith, a))
  named_paid at (Scopes.a_parameter t) th h = subst (λ th. IsPaid th 1) (sym h) (let a = w.unmade in omega (arith, a))

  literal_paid : (s : Scope) (o : Purpose) (at : Place) (bytes : List ℕ) (th : Thing) → IsLiteralFor o s at bytes th → IsPaid th 1
  literal_paid s in_full at bytes th h = subst (λ th. IsPaid th 1) (sym h.1) (let a = w.name in omega (arith, a))
  literal_paid s value_alone at bytes th h = subst (λ th. IsPaid th 1) (sym h) (let a = w.unmade in omega (arith, a))
  literal_paid s type_alone at bytes th h = subst (λ th. IsPaid th 1) (sym h) (let a = w.unmade in omega (arith, a))

  address_paid : (at : Place) (operand th : Thing) (k : ℕ) → IsAddress at operand th → IsPaid operand k → IsPaid th (k + 1)
  address_paid at (an_object p) th k h f = subst (λ th. IsPaid th (k + 1)) (sym h.2) (let a = w.operator_node in omega (arith, a, f))
  address_paid at (a_function from j t) th k h f = subst (λ th. IsPaid th (k + 1)) (sym h) (omega (arith, f))
  address_paid at (a_function_at e) th k h f = subst (λ th. IsPaid th (k + 1)) (sym h) (omega (arith, f))
  address_paid at (a_value e) th k h f = absurd h
  address_paid at (a_library_function from which) th k h f = absurd h

  pointed_paid : (at : Place) (e : Expression) (th : Thing) (k : ℕ) → IsPointed at e th → n argument + weight n e ≤ most * k → IsPaid th (k + 1)
  pointed_paid at e th k (inl h) f = subst (λ th. IsPaid th (k + 1)) (sym h.2) (let a = w.unmade in omega (arith, a, f))
  pointed_paid at e th k (inr h) f = subst (λ th. IsPaid th (k + 1)) (sym h.4) (let a = w.unmade in omega (arith, a, f))

  size_paid : (s : Scope) (at by : ℕ) (t : CType) (th : Thing) (k : ℕ) → IsSize s at by t th → IsPaid th (k + 1)
  size_paid s at by t th k h = subst (λ th. IsPaid th (k + 1)) (sym h.2) (let a = w.unmade in omega (arith, a))

  two_operands : (x y : Expression) (i j : ℕ) → n argument + weight n x ≤ most * i → n argument + weight n y ≤ most * j
      → n conversion + n argument + (n operator + weight n x + weight n y) ≤ most * (i + j + 1)
  two_operands x y i j f g = let a = w.operator_node in omega (arith, a, f, g)

  pointer_operands : (x y : Expression) (i j : ℕ) → n argument + weight n x ≤ most * i → n argument + weight n y ≤ most * j
      → n conversion + n argument + (n pointer_sum + weight n x + weight n y) ≤ most * (i + j + 1)
  pointer_operands x y i j f g = let a = w.sum_subscript in omega (arith, a, f, g)

  sum_paid : (op : BinaryOp) (x y : Expression) (node : Node) (i j : ℕ) → IsSum op x y node → n argument + weight n x ≤ most * i
      → n argument + weight n y ≤ most * j → IsNodePaid node (i + j + 1)
  sum_paid B.Add x y node i j (inl h) f g = subst (λ node. IsNodePaid node (i + j + 1)) (sym h) (two_operands x y i j f g)
  sum_paid B.Add x y node i j (inr h) f g = subst (λ node. IsNodePaid node (i + j + 1)) (sym h) (pointer_operands x y i j f g)
  sum_paid B.Subtract x y node i j (inl h) f g = subst (λ node. IsNodePaid node (i + j + 1)) (sym h) (two_operands x y i j f g)
  sum_paid B.Subtract x y node i j (inr (inl h)) f g = subst (λ node. IsNodePaid node (i + j + 1)) (sym h) (pointer_operands x y i j f g)
  sum_paid B.Subtract x y node i j (inr (inr h)) f g = subst (λ node. IsNodePaid node (i + j + 1)) (sym h) (two_operands x y i j f g)
  sum_paid op x y node i j h f g = subst (λ node. IsNodePaid node (i + j + 1)) (sym h) (two_operands x y i j f g)

  joined_paid : (kind : JoinKind) (x y : Expression) (node : Node) (i j : ℕ) → IsJoined kind x y node → n argument + weight n x ≤ most * i
      → n argument + weight n y ≤ most * j → IsNodePaid node (i + j + 1)
  joined_paid (computes op) x y node i j h f g = sum_paid op x y node i j h f g
  joined_paid (compares op) x y node i j h f g = subst (λ node. IsNodePaid node (i + j + 1)) (sym h) (two_operands x y i j f g)
  joined_paid all_of x y node i j h f g = subst (λ node. IsNodePaid node (i + j + 1)) (sym h) (two_operands x y i j f g)
  joined_paid any_of x y node i j h f g = subst (λ node. IsNodePaid node (i + j + 1)) (sym h) (two_operands x y i j f g)

  -- so much for the function, and so much for the arguments
  called_paid : (e : Expression) (all : Typed.Expressions Noted) (i j : ℕ) → weight n e ≤ most * i → weight_of_all n all ≤ most * j
      → n conversion + n argument + (n call + weight n e + weight_of_all n all) ≤ most * (i + j + 1)
  called_paid e all i j f g = let a = w.call_node in omega (arith, a, f, g)

  call_paid : (th : Thing) (all : Typed.Expressions Noted) (node : Node) (i j : ℕ) → IsCall th all node → IsPaid th i → weight_of_all n all ≤ most * j
      → IsNodePaid node (i + j + 1)
  call_paid (a_function at k t) all node i j h f g =
      subst (λ node. IsNodePaid node (i + j + 1)) (sym h) (let a = w.call_node in omega (arith, a, f, g))
  call_paid (a_library_function at which) all node i j h f g =
      subst (λ node. IsNodePaid node (i + j + 1)) (sym h) (let a = w.call_node in omega (arith, a, f, g))
  call_paid (a_value e) all node i j h f g =
      subst (λ node. IsNodePaid node (i + j + 1)) (sym h) (called_paid e all i j (omega (arith, f)) g)
  call_paid (a_function_at e) all node i j h f g =
      subst (λ node. IsNodePaid node (i + j + 1)) (sym h) (called_paid e all i j (omega (arith, f)) g)
  call_paid (an_object p) all node i j h f g =
      let l = value_less n (an_object p) h.0 h.1 in
      subst (λ node. IsNodePaid node (i + j + 1)) (sym h.2) (called_paid h.0 all i j (omega (arith, f, l)) g)

  -- ---- expressions

  abbrev N : Trees.Expression → ℕ
  N a = (size a).nodes

  mutual
    pub paid : (a : Trees.Expression) (s : Scope) (th : Thing) → Erases a s th → IsPaid th (size a).nodes
    paid (Trees.name x) s th h = named_paid (place_in s x.from) h.0 th h.2
    paid (Trees.number x v kind) s th h = subst (λ th. IsPaid th 1) (sym h) (let a = w.unmade in omega (arith, a))
    paid (Trees.character x v) s th h = subst (λ th. IsPaid th 1) (sym h) (let a = w.unmade in omega (arith, a))
    paid (Trees.texts all) s th h = literal_paid s s.purpose (place_in s (first (Trees.texts all))) (literal_of all) th h
    paid (Trees.paren left a right) s th h = let f = paid a s th h in omega (arith, f)
    paid (Trees.index a left b right) s th (inl h) =
        let f = paid a s (an_object h.1) h.5 in
        let g = value_paid (Erases b s) (N b) h.2 h.6 (λ th k. paid b s th k) in
        let l = w.subscript in
        subst (λ th. IsPaid th (N a + N b + 1)) (sym h.4) (omega (arith, f, g, l))
    paid (Trees.index a left b right) s th (inr (inl h)) =
        let f = value_paid (Erases a s) (N a) h.1 h.4 (λ th k. paid a s th k) in
        let g = value_paid (Erases b s) (N b) h.2 h.5 (λ th k. paid b s th k) in
        let l = w.subscript in
        subst (λ th. IsPaid th (N a + N b + 1)) (sym h.3) (omega (arith, f, g, l))
    paid (Trees.index a left b right) s th (inr (inr h)) =
        let f = value_paid (Erases a s) (N a) h.2 h.5 (λ th k. paid a s th k) in
        let g = value_paid (Erases b s) (N b) h.3 h.6 (λ th k. paid b s th k) in
        let l = w.sum_subscript in
        subst (λ th. IsPaid th (N a + N b + 1)) (sym h.7) (omega (arith, f, g, l))
    paid (Trees.call c left all right) s th h =
        let f = paid c s h.1 h.4 in
        let g = all_paid s h.2 all h.5 in
        subst (λ th. IsPaid th (N c + (size_arguments all).nodes + 1)) (sym h.7) (call_paid h.1 h.2 h.3 (N c) (size_arguments all).nodes h.6 f g)
    paid (Trees.dot a at x) s th h =
        let f = paid a s (an_object h.1) h.6 in
        let l = w.arrow in
        subst (λ th. IsPaid th (N a + 1)) (sym h.4) (omega (arith, f, l))
    paid (Trees.arrow a at x) s th h =
        let f = value_paid (Erases a s) (N a) h.2 h.6 (λ th k. paid a s th k) in
        let l = w.arrow in
        subst (λ th. IsPaid th (N a + 1)) (sym h.7) (omega (arith, f, l))
    paid (Trees.post a op at) s th h =
        let f = paid a s (an_object h.1) h.3 in
        let l = w.assignment_node in
        subst (λ th. IsPaid th (N a + 1)) (sym h.2) (omega (arith, f, l))
    paid (Trees.pre op at a) s th h =
        let f = paid a s (an_object h.1) h.3 in
        let l = w.assignment_node in
        subst (λ th. IsPaid th (N a + 1)) (sym h.2) (omega (arith, f, l))
    paid (Trees.unary U.Address at a) s th h = address_paid (place_in s at) h.0 th (N a) h.1 (paid a s h.0 h.2)
    paid (Trees.unary U.Deref at a) s th h =
        pointed_paid (place_in s at) h.0 th (N a) h.1 (value_paid (Erases a s) (N a) h.0 h.2 (λ th k. paid a s th k))
    paid (Trees.unary U.Plus at a) s th h =
        let f = value_paid (Erases a s) (N a) h.1 h.3 (λ th k. paid a s th k) in
        let l = w.operator_node in
        subst (λ th. IsPaid th (N a + 1)) (sym h.2) (omega (arith, f, l))
    paid (Trees.unary U.Minus at a) s th h =
        let f = value_paid (Erases a s) (N a) h.1 h.3 (λ th k. paid a s th k) in
        let l = w.operator_node in
        subst (λ th. IsPaid th (N a + 1)) (sym h.2) (omega (arith, f, l))
    paid (Trees.unary U.Complement at a) s th h =
        let f = value_paid (Erases a s) (N a) h.1 h.3 (λ th k. paid a s th k) in
        let l = w.operator_node in
        subst (λ th. IsPaid th (N a + 1)) (sym h.2) (omega (arith, f, l))
    paid (Trees.unary U.Not at a) s th h =
        let f = value_paid (Erases a s) (N a) h.1 h.3 (λ th k. paid a s th k) in
        let l = w.operator_node in
        subst (λ th. IsPaid th (N a + 1)) (sym h.2) (omega (arith, f, l))
    paid (Trees.sizeof_expression at a) s th h = size_paid s at at h.0 th (N a) h.2
    paid (Trees.sizeof_type at left t right) s th h = size_paid s at right h.0 th _ h.3
    paid (Trees.cast left t right a) s th h =
        let f = value_paid (Erases a s) (N a) h.1 h.4 (λ th k. paid a s th k) in
        let l = w.cast_node in
        subst (λ th. IsPaid th (size (Trees.cast left t right a)).nodes) (sym h.5) (omega (arith, f, l))
    paid (Trees.binary a op at b) s th h =
        let f = value_paid (Erases a s) (N a) h.1 h.4 (λ th k. paid a s th k) in
        let g = value_paid (Erases b s) (N b) h.2 h.5 (λ th k. paid b s th k) in
        subst (λ th. IsPaid th (N a + N b + 1)) (sym h.7) (joined_paid (kind_of op) h.1 h.2 h.3 (N a) (N b) h.6 f g)
    paid (Trees.cond a question b colon c) s th h =
        let f = value_paid (Erases a s) (N a) h.1 h.5 (λ th k. paid a s th k) in
        let g = value_paid (Erases b s) (N b) h.2 h.6 (λ th k. paid b s th k) in
        let e = value_paid (Erases c s) (N c) h.3 h.7 (λ th k. paid c s th k) in
        let l = w.operator_node in
        subst (λ th. IsPaid th (N a + N b + N c + 1)) (sym h.4) (omega (arith, f, g, e, l))
    paid (Trees.assign a op at b) s th (inl h) =
        let f = paid a s (an_object h.1) h.5 in
        let g = value_paid (Erases b s) (N b) h.2 h.6 (λ th k. paid b s th k) in
        let l = w.assignment_node in
        subst (λ th. IsPaid th (N a + N b + 1)) (sym h.4) (omega (arith, f, g, l))
    paid (Trees.assign a op at b) s th (inr (inl h)) =
        let f = paid a s (an_object h.1) h.5 in
        let g = paid b s (an_object h.2) h.6 in
        let l = w.assignment_node in
        subst (λ th. IsPaid th (N a + N b + 1)) (sym h.4) (omega (arith, f, g, l))
    paid (Trees.assign a op at b) s th (inr (inr h)) =
        let f = paid a s (an_object h.1) h.6 in
        let g = value_paid (Erases b s) (N b) h.2 h.7 (λ th k. paid b s th k) in
        let l = w.assignment_node in
        subst (λ th. IsPaid th (N a + N b + 1)) (sym h.5) (omega (arith, f, g, l))
    paid (Trees.comma a at b) s th h =
        let f = value_paid (Erases a s) (N a) h.1 h.4 (λ th k. paid a s th k) in
        let g = value_paid (Erases b s) (N b) h.2 h.5 (λ th k. paid b s th k) in
        let l = w.operator_node in
        subst (λ th. IsPaid th (N a + N b + 1)) (sym h.3) (omega (arith, f, g, l))
    paid (Trees.braces left all comma right) s th h = absurd h

    pub all_paid : (s : Scope) (xs : Typed.Expressions Noted) (all : Trees.Arguments) → AreValues s xs all
        → weight_of_all n xs ≤ most * (size_arguments all).nodes
    all_paid s xs Trees.no_arguments h = subst (λ xs. weight_of_all n xs ≤ most * 0) (sym h) (omega arith)
    all_paid s xs (Trees.and_argument comma a more) h =
        let f = value_paid (Erases a s) (N a) h.0 h.3 (λ th k. paid a s th k) in
        let g = all_paid s h.1 more h.4 in
        subst (λ xs. weight_of_all n xs ≤ most * (N a + (size_arguments more).nodes)) (sym h.2) (omega (arith, f, g))

  -- the value of an expression, and the way to an object
  pub operand_paid : (a : Trees.Expression) (s : Scope) (x : Expression) → Values (Erases a s) x → n argument + weight n x ≤ most * (size a).nodes
  operand_paid a s x h = value_paid (Erases a s) (size a).nodes x h (λ th k. paid a s th k)
