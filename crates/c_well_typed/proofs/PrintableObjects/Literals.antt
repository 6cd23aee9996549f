-- What stands for an expression refers to the objects of its string literals, each where it stands, and to no other object of a literal (C99 6.4.5).
use Rattle.std.proofs.Common.{◌≡◌, ◌≢◌, ◌∙◌, ℕ, ◌+◌, ◌≤◌, Bool, true, false, refl, sym, ap, subst, List, [], ◌∷◌, ◌++◌, map, arith, inl, inr}
use Rattle.std.specs.Prelude.{◌==◌, if◌then◌else◌, Some, None, slice_get}
use Rattle.std.specs.List.{AllByRecursion}
use Rattle.lay_base.specs.declared.place.Place.{Place}
use Rattle.c_types.specs.Types.{CType, integer, pointer, array}
use Rattle.c_ast.specs.declared.words.Spelling.{Spelling}
use Rattle.c_ast.specs.declared.operators.UnaryOp.TheVariants as U
use Rattle.c_ast.specs.Places.{first_text}
use Rattle.c_ast.specs.Trees
use Rattle.c_typed.specs.declared.operators.BinaryOp.{BinaryOp}
use Rattle.c_typed.specs.declared.operators.BinaryOp.TheVariants as B
use Rattle.c_typed.specs.References.{Reference, references, references_by_node, references_by_path, references_by_all}
use Rattle.c_typed.specs.References as References
use Rattle.c_typed.specs.Trees as Typed
use Rattle.c_erasure.specs.Erasure.{literal_of, literal_object, place_in, IsNamed, IsLiteralFor, IsSum, IsJoined, IsCall, IsAddress, IsPointed}
use Rattle.c_erasure.specs.Erasure.{Values, Erases, AreValues}
use Rattle.c_erasure.specs.Files.{AreAscending}
use Rattle.c_erasure.specs.Literals.{literals, literals_of_all}
use Rattle.c_erasure.specs.Noted.{Noted, Expression, Path, Node, Thing, an_object, a_value, a_function, a_function_at, a_library_function}
use Rattle.c_erasure.specs.Noted.{type_of_path, object_value, value_of, unconverted}
use Rattle.c_erasure.specs.Operators.{Kind, computes, compares, all_of, any_of, kind_of}
use Rattle.c_erasure.specs.Scopes.{Entity, typedef, enumerator, a_local, a_parameter, AnObject, FileScope, Scope, in_full, visible, ended}
use Rattle.c_erasure.specs.Scopes as Scopes
use Rattle.c_checking_laws.proofs.WholeFiles.CompleteObjects.{mapped_at}
use Rattle.c_checking_units.proofs.Lists.{ascending_apart}
use Rattle.c_well_typed.proofs.NamedTypes.{IsMadeEntity, IsMadeScope}
use Rattle.c_well_typed.specs.Printable.Programs.{times}
use Rattle.c_well_typed.proofs.PrintableObjects.Constants.{unconverted_same}
use Rattle.c_well_typed.proofs.PrintableObjects.Counts.{same_number, is_same, alike, times_both, occurs, occurs_both}
use Rattle.c_well_typed.proofs.PrintableObjects.OwnNames.{IsOwn, IsOwnEntity, AreOwnBlocks, named_own}

some_is : {A : Type 0} (x y : A) → Some x ≡ Some y → x ≡ y
some_is x y h = cc

-- the object of a literal
abbrev pub IsLiteralObject : AnObject → Type 0
IsLiteralObject o = (all : List Spelling) × (o ≡ literal_object o.place (literal_of all))

abbrev pub of_thing : Thing → List Reference
of_thing (an_object p) = references_by_path p
of_thing (a_value e) = references e
of_thing (a_function at g t) = []
of_thing (a_function_at e) = references e
of_thing (a_library_function at which) = []

pub both_each : {A : Type 0} (P : A → Type 0) (u v : List A) → AllByRecursion P u → AllByRecursion P v → AllByRecursion P (u ++ v)
both_each P [] v h k = k
both_each P (x ∷ u) v h k = (h.0, both_each P u v h.1 k)

-- a file, what is known of its names and objects, and the number of an object with the byte at which it begins
pub record Walk : Type 0 where
  pub file : FileScope
  pub count : ℕ
  pub less : (at : ℕ) → ended file.ends at ≤ count
  pub visible_made : (x : List ℕ) (at : ℕ) (e : Entity) → visible file.names x at ≡ Some e → IsMadeEntity file count less e
  pub visible_own : (x : List ℕ) (at : ℕ) (e : Entity) → visible file.names x at ≡ Some e → IsOwnEntity file e
  pub ascending : AreAscending (map (λ o. o.first) file.objects)
  pub number : ℕ
  pub at : ℕ

module _ (w : Walk) where
  abbrev f : FileScope
  f = w.file

  abbrev n : ℕ
  n = w.number

  -- ---- objects by where they begin

  pub one_object : (j k p : ℕ) (o q : AnObject) → slice_get f.objects j ≡ Some o → slice_get f.objects k ≡ Some q → o.first ≡ p → q.first ≡ p
      → (j ≡ k) × (o ≡ q)
  one_object j k p o q e g a b =
      let first = mapped_at (λ (o : AnObject). o.first) f.objects j o e ∙ ap Some a in
      let other = mapped_at (λ (o : AnObject). o.first) f.objects k q g ∙ ap Some b in
      let number = ascending_apart (map (λ (o : AnObject). o.first) f.objects) w.ascending j k p first other in
      (number, some_is o q (sym e ∙ subst (λ j. slice_get f.objects j ≡ Some q) (sym number) g))

  -- an object with the number n that is one of a literal which begins at that byte
  abbrev pub IsTextAt : Type 0
  IsTextAt = (o : AnObject) × (slice_get f.objects n ≡ Some o) × (o.first ≡ w.at) × (o.literal ≢ None)

  -- an object that begins there is one of a literal
  abbrev pub IsLiteralPlace : ℕ → Type 0
  IsLiteralPlace p = (m : ℕ) (o : AnObject) → slice_get f.objects m ≡ Some o → o.first ≡ p → IsLiteralObject o

  -- what has these literals refers so many times to that object
  pub record Counts (places : List ℕ) (refers : ℕ) : Type 0 where
    pub sum : IsTextAt → refers ≡ occurs w.at places
    pub literals : AllByRecursion IsLiteralPlace places

  pub none : Counts [] 0
  none = record { sum = λ t. refl; literals = tt }

  pub both : {p q : List ℕ} (a b : ℕ) → Counts p a → Counts q b → Counts (p ++ q) (a + b)
  both {p} {q} a b x y = record {
    sum = λ t. let s = x.sum t in let u = y.sum t in let o = occurs_both w.at p q in omega (arith, s, u, o);
    literals = both_each IsLiteralPlace p q x.literals y.literals;
  }

  pub two : {p q : List ℕ} (a b : List Reference) → Counts p (times n a) → Counts q (times n b) → Counts (p ++ q) (times n (a ++ b))
  two {p} {q} a b x y = subst (Counts (p ++ q)) (sym (times_both n a b)) (both (times n a) (times n b) x y)

  pub same : {p : List ℕ} (a b : List Reference) → a ≡ b → Counts p (times n b) → Counts p (times n a)
  same {p} a b e x = subst (λ a. Counts p (times n a)) (sym e) x

  -- ---- scopes in which what stands there is evaluated

  pub record IsFull (s : Scope) : Type 0 where
    pub made : IsMadeScope f w.count w.less s
    pub purpose : s.purpose ≡ in_full
    pub own : AreOwnBlocks f s.blocks

  -- ---- names and literals

  abbrev Of : List ℕ → Thing → Type 0
  Of places th = Counts places (times n (of_thing th))

  of_own : (m : ℕ) → IsOwn f m → Counts [] (times n (References.an_object m ∷ []))
  of_own m own = record { sum = alone; literals = tt }
    where
      alone : IsTextAt → (if m == n then 1 else 0) + 0 ≡ 0
      alone t = by_test (m == n) refl
        where
          by_test : (b : Bool) → (m == n) ≡ b → (if b then 1 else 0) + 0 ≡ 0
          by_test false e = refl
          by_test true e =
              let same = some_is own.0 t.0 (sym own.1 ∙ subst (λ m. slice_get f.objects m ≡ Some t.0) (sym (same_number m n e)) t.1) in
              absurd (t.3 (subst (λ (o : AnObject). o.literal ≡ None) same own.2))

  is_thing : {p : List ℕ} (th own : Thing) → th ≡ own → Of p own → Of p th
  is_thing {p} th own e h = subst (Of p) (sym e) h

  name_counted : (at : Place) (e : Entity) (th : Thing) → IsOwnEntity f e → IsNamed at e th → Of [] th
  name_counted at (typedef t) th m h = absurd h
  name_counted at (enumerator v) th m h = is_thing th _ h none
  name_counted at (Scopes.an_object k t) th m h = is_thing th _ h (of_own k m)
  name_counted at (Scopes.a_function g t) th m h = is_thing th _ h none
  name_counted at (Scopes.a_library_function which) th m h = is_thing th _ h none
  name_counted at (a_local k t) th m h = is_thing th _ h none
  name_counted at (a_parameter t) th m h = is_thing th _ h none

  literal_counted : (s : Scope) (all : List Spelling) (th : Thing) → IsFull s
      → IsLiteralFor s.purpose s (place_in s (first_text all)) (literal_of all) th → Of (first_text all ∷ []) th
  literal_counted s all th i h = is_thing th _ k.1 (record { sum = counted; literals = (there, tt) })
    where
      o : AnObject
      o = literal_object (place_in s (first_text all)) (literal_of all)

      k : IsLiteralFor in_full s (place_in s (first_text all)) (literal_of all) th
      k = subst (λ p. IsLiteralFor p s (place_in s (first_text all)) (literal_of all) th) i.purpose h

      stands : slice_get f.objects k.0 ≡ Some o
      stands = subst (λ (f : FileScope). slice_get f.objects k.0 ≡ Some o) i.made.0 k.2

      there : IsLiteralPlace (first_text all)
      there m q e first =
          let is = (one_object k.0 m (first_text all) o q stands e refl first).1 in
          (all, subst (λ (q : AnObject). q ≡ literal_object q.place (literal_of all)) is refl)

      counted : IsTextAt → (if k.0 == n then 1 else 0) + 0 ≡ (if first_text all == w.at then 1 else 0) + 0
      counted t =
          ap (λ b. (if b then 1 else 0) + 0)
          (alike (k.0 == n) (first_text all == w.at)
          (λ e.
          let is = some_is o t.0 (sym stands ∙ subst (λ m. slice_get f.objects m ≡ Some t.0) (sym (same_number k.0 n e)) t.1) in
          is_same (first_text all) w.at (ap (λ (o : AnObject). o.first) is ∙ t.2))
          (λ e. is_same k.0 n (one_object k.0 n w.at o t.0 stands t.1 (same_number (first_text all) w.at e) t.2).0))

  -- ---- values of things

  object_same : (p : Path) (t : CType) (e : Expression) → object_value p t ≡ Some e → references e ≡ references_by_path p
  object_same p (integer kind) e v = subst (λ e. references e ≡ references_by_path p) (some_is _ e v) refl
  object_same p (pointer t) e v = subst (λ e. references e ≡ references_by_path p) (some_is _ e v) refl
  object_same p (array t k) e v = subst (λ e. references e ≡ references_by_path p) (some_is _ e v) refl
  object_same p t e v = cc

  value_same : (th : Thing) (e : Expression) → value_of th ≡ Some e → times n (references e) ≡ times n (of_thing th)
  value_same (an_object p) e v = ap (times n) (object_same p (type_of_path p) e v)
  value_same (a_value x) e v = ap (λ e. times n (references e)) (sym (some_is x e v))
  value_same (a_function at g t) e v = ap (λ e. times n (references e)) (sym (some_is _ e v))
  value_same (a_function_at x) e v = ap (λ e. times n (references e)) (sym (some_is x e v))
  value_same (a_library_function at which) e v = cc

  abbrev OfValue : List ℕ → Expression → Type 0
  OfValue places x = Counts places (times n (references x))

  valued : {p : List ℕ} (th : Thing) (x : Expression) → value_of th ≡ Some (unconverted x) → Of p th → OfValue p x
  valued {p} th x e h = subst (Counts p) (sym (value_same th (unconverted x) e) ∙ ap (times n) (unconverted_same x)) h

  -- ---- operators

  abbrev OfNode : List ℕ → Node → Type 0
  OfNode places node = Counts places (times n (references_by_node node))

  is_node : {p : List ℕ} (node own : Node) → node ≡ own → OfNode p own → OfNode p node
  is_node {p} node own e h = subst (OfNode p) (sym e) h

  pair : {p q : List ℕ} (x y : Expression) → OfValue p x → OfValue q y → Counts (p ++ q) (times n (references x ++ references y))
  pair x y h k = two (references x) (references y) h k

  sum_counted : {p q : List ℕ} (op : BinaryOp) (x y : Expression) (node : Node) → OfValue p x → OfValue q y → IsSum op x y node → OfNode (p ++ q) node
  sum_counted B.Add x y node h k (inl e) = is_node node _ e (pair x y h k)
  sum_counted B.Add x y node h k (inr e) = is_node node _ e (pair x y h k)
  sum_counted B.Subtract x y node h k (inl e) = is_node node _ e (pair x y h k)
  sum_counted B.Subtract x y node h k (inr (inl e)) = is_node node _ e (pair x y h k)
  sum_counted B.Subtract x y node h k (inr (inr e)) = is_node node _ e (pair x y h k)
  sum_counted op x y node h k e = is_node node _ e (pair x y h k)

  joined_counted : {p q : List ℕ} (kind : Kind) (x y : Expression) (node : Node) → OfValue p x → OfValue q y → IsJoined kind x y node → OfNode (p ++ q) node
  joined_counted (computes op) x y node h k e = sum_counted op x y node h k e
  joined_counted (compares op) x y node h k e = is_node node _ e (pair x y h k)
  joined_counted all_of x y node h k e = is_node node _ e (pair x y h k)
  joined_counted any_of x y node h k e = is_node node _ e (pair x y h k)

  call_counted : {p q : List ℕ} (g : Thing) (xs : Typed.Expressions Noted) (node : Node) → Of p g → Counts q (times n (references_by_all xs))
      → IsCall g xs node → OfNode (p ++ q) node
  call_counted (a_function at m t) xs node h k e = is_node node _ e (two [] (references_by_all xs) h k)
  call_counted (a_library_function at which) xs node h k e = is_node node _ e (two [] (references_by_all xs) h k)
  call_counted (a_value x) xs node h k e = is_node node _ e (two (references x) (references_by_all xs) h k)
  call_counted (a_function_at x) xs node h k e = is_node node _ e (two (references x) (references_by_all xs) h k)
  call_counted {p} (an_object o) xs node h k e =
      is_node node _ e.2
      (two (references e.0) (references_by_all xs) (subst (Counts p) (sym (value_same (an_object o) e.0 e.1)) h) k)

  address_counted : {p : List ℕ} (at : Place) (operand th : Thing) → Of p operand → IsAddress at operand th → Of p th
  address_counted at (an_object o) th h e = is_thing th _ e.2 h
  address_counted at (a_function from g t) th h e = is_thing th _ e h
  address_counted at (a_function_at x) th h e = is_thing th _ e h
  address_counted at (a_value x) th h e = absurd e
  address_counted at (a_library_function from which) th h e = absurd e

  pointed_counted : {p : List ℕ} (at : Place) (e : Expression) (th : Thing) → OfValue p e → IsPointed at e th → Of p th
  pointed_counted at e th h (inl k) = is_thing th _ k.2 h
  pointed_counted at e th h (inr k) = is_thing th _ k.4 h

  -- ---- expressions

  mutual
    pub counted : (a : Trees.Expression) (s : Scope) (th : Thing) → IsFull s → Erases a s th → Of (literals a) th
    counted (Trees.name x) s th i h =
        name_counted _ h.0 th (named_own f s x.text x.from h.0 i.made.0 i.own (w.visible_own x.text x.from h.0) h.1) h.2
    counted (Trees.number x v kind) s th i h = is_thing th _ h none
    counted (Trees.character x v) s th i h = is_thing th _ h none
    counted (Trees.texts all) s th i h = literal_counted s all th i h
    counted (Trees.paren left a right) s th i h = counted a s th i h
    counted (Trees.index a left b right) s th i (inl h) =
        is_thing th _ h.4 (two (references_by_path h.1) (references h.2) (counted a s (an_object h.1) i h.5) (valued h.6.0 h.2 h.6.1 (counted b s h.6.0 i h.6.2)))
    counted (Trees.index a left b right) s th i (inr (inl h)) =
        is_thing th _ h.3 (pair h.1 h.2 (valued h.4.0 h.1 h.4.1 (counted a s h.4.0 i h.4.2)) (valued h.5.0 h.2 h.5.1 (counted b s h.5.0 i h.5.2)))
    counted (Trees.index a left b right) s th i (inr (inr h)) =
        is_thing th _ h.7 (pair h.2 h.3 (valued h.5.0 h.2 h.5.1 (counted a s h.5.0 i h.5.2)) (valued h.6.0 h.3 h.6.1 (counted b s h.6.0 i h.6.2)))
    counted (Trees.call c left all right) s th i h =
        is_thing th _ h.7 (call_counted h.1 h.2 h.3 (counted c s h.1 i h.4) (values_counted s h.2 all i h.5) h.6)
    counted (Trees.dot a at x) s th i h = is_thing th _ h.4 (counted a s (an_object h.1) i h.6)
    counted (Trees.arrow a at x) s th i h = is_thing th _ h.7 (valued h.6.0 h.2 h.6.1 (counted a s h.6.0 i h.6.2))
    counted (Trees.post a op at) s th i h = is_thing th _ h.2 (counted a s (an_object h.1) i h.3)
    counted (Trees.pre op at a) s th i h = is_thing th _ h.2 (counted a s (an_object h.1) i h.3)
    counted (Trees.unary U.Address at a) s th i h = address_counted _ h.0 th (counted a s h.0 i h.2) h.1
    counted (Trees.unary U.Deref at a) s th i h = pointed_counted _ h.0 th (valued h.2.0 h.0 h.2.1 (counted a s h.2.0 i h.2.2)) h.1
    counted (Trees.unary U.Plus at a) s th i h = is_thing th _ h.2 (valued h.3.0 h.1 h.3.1 (counted a s h.3.0 i h.3.2))
    counted (Trees.unary U.Minus at a) s th i h = is_thing th _ h.2 (valued h.3.0 h.1 h.3.1 (counted a s h.3.0 i h.3.2))
    counted (Trees.unary U.Complement at a) s th i h = is_thing th _ h.2 (valued h.3.0 h.1 h.3.1 (counted a s h.3.0 i h.3.2))
    counted (Trees.unary U.Not at a) s th i h = is_thing th _ h.2 (valued h.3.0 h.1 h.3.1 (counted a s h.3.0 i h.3.2))
    counted (Trees.sizeof_expression at a) s th i h = is_thing th _ h.2.2 none
    counted (Trees.sizeof_type at left t right) s th i h = is_thing th _ h.3.2 none
    counted (Trees.cast left t right a) s th i h = is_thing th _ h.5 (valued h.4.0 h.1 h.4.1 (counted a s h.4.0 i h.4.2))
    counted (Trees.binary a op at b) s th i h =
        is_thing th _ h.7
        (joined_counted (kind_of op) h.1 h.2 h.3 (valued h.4.0 h.1 h.4.1 (counted a s h.4.0 i h.4.2)) (valued h.5.0 h.2 h.5.1 (counted b s h.5.0 i h.5.2)) h.6)
    counted (Trees.cond a question b colon c) s th i h =
        is_thing th _ h.4
        (two (references h.1 ++ references h.2) (references h.3)
        (pair h.1 h.2 (valued h.5.0 h.1 h.5.1 (counted a s h.5.0 i h.5.2)) (valued h.6.0 h.2 h.6.1 (counted b s h.6.0 i h.6.2)))
        (valued h.7.0 h.3 h.7.1 (counted c s h.7.0 i h.7.2)))
    counted (Trees.assign a op at b) s th i (inl h) =
        is_thing th _ h.4 (two (references_by_path h.1) (references h.2) (counted a s (an_object h.1) i h.5) (valued h.6.0 h.2 h.6.1 (counted b s h.6.0 i h.6.2)))
    counted (Trees.assign a op at b) s th i (inr (inl h)) =
        is_thing th _ h.4 (two (references_by_path h.1) (references_by_path h.2) (counted a s (an_object h.1) i h.5) (counted b s (an_object h.2) i h.6))
    counted (Trees.assign a op at b) s th i (inr (inr h)) =
        is_thing th _ h.5 (two (references_by_path h.1) (references h.2) (counted a s (an_object h.1) i h.6) (valued h.7.0 h.2 h.7.1 (counted b s h.7.0 i h.7.2)))
    counted (Trees.comma a at b) s th i h =
        is_thing th _ h.3 (pair h.1 h.2 (valued h.4.0 h.1 h.4.1 (counted a s h.4.0 i h.4.2)) (valued h.5.0 h.2 h.5.1 (counted b s h.5.0 i h.5.2)))
    counted (Trees.braces left all comma right) s th i h = absurd h

    values_counted : (s : Scope) (xs : Typed.Expressions Noted) (all : Trees.Arguments) → IsFull s → AreValues s xs all
        → Counts (literals_of_all all) (times n (references_by_all xs))
    values_counted s xs Trees.no_arguments i h = same (references_by_all xs) [] (ap references_by_all h) none
    values_counted s xs (Trees.and_argument comma a more) i h =
        same (references_by_all xs) (references h.0 ++ references_by_all h.1) (ap references_by_all h.2)
        (two (references h.0) (references_by_all h.1) (valued h.3.0 h.0 h.3.1 (counted a s h.3.0 i h.3.2)) (values_counted s h.1 more i h.4))

  pub value_counted : (a : Trees.Expression) (s : Scope) (x : Expression) → IsFull s → Values (Erases a s) x
      → Counts (literals a) (times n (references x))
  value_counted a s x i h = valued h.0 x h.1 (counted a s h.0 i h.2)
