-- The rules of expressions, types and declarators, in a file that names structures without a tag otherwise, but in them the same.
use Rattle.std.proofs.Common.{◌≡◌, ℕ, List, Option, Some, None, true, false, refl, sym, ◌∙◌, subst, inl, inr}
use Rattle.std.specs.Prelude.{◌+◌, ◌%◌, ◌^◌}
use Rattle.lay_base.specs.declared.place.Place.{Place}
use Rattle.c_types.specs.Types.{CType, CTypes, Field}
use Rattle.c_ast.specs.Trees
use Rattle.c_ast.specs.declared.operators.UnaryOp.TheVariants as U
use Rattle.c_ast.specs.declared.words.Spelling.{Spelling}
use Rattle.c_typed.specs.Trees as Typed
use Rattle.c_erasure.specs.Declarators.{Shape, closed, declared_name, parameter_type}
use Rattle.c_erasure.specs.Erasure.{IsTypedThing, IsLiteralFor, tag_text, IsNew, with_parameter_if_named, Erases, AreValues}
use Rattle.c_erasure.specs.Erasure.{IsTypeName, IsBase, IsOne, Declares, AreParameters, AreListed, AreFields, AreMembers, AreEnumerators}
use Rattle.c_erasure.specs.Erasure.{IsEnumeratorValue}
use Rattle.c_erasure.specs.Noted.{Noted, Thing, an_object, a_value, a_function, a_function_at, a_library_function}
use Rattle.c_erasure.specs.Scopes.{IsNumbered, FileScope, Scope, Purpose, in_full, value_alone, type_alone, for_value, measured, inside}
use Rattle.c_checking_laws.proofs.TextOrder.UntaggedNames.Agreeing.{Agree, AgreeAt, AgreeInAll, AgreeInType, AgreeInSpecifiers, AgreeInMembers}
use Rattle.c_checking_laws.proofs.TextOrder.UntaggedNames.Agreeing.{AgreeInDeclarators, AgreeInEnumerators, AgreeInValue, AgreeInDeclarator}

-- ---- a file with other names for structures without a tag

abbrev pub with_tags : (ℕ → List ℕ) → FileScope → FileScope
with_tags v f = record {
  file = f.file;
  names = f.names;
  tags = f.tags;
  records = f.records;
  ends = f.ends;
  numbered = f.numbered;
  objects = f.objects;
  functions = f.functions;
  mentions = f.mentions;
  untagged = v;
}

abbrev pub tagged : (ℕ → List ℕ) → Scope → Scope
tagged v s = record { file = with_tags v s.file; blocks = s.blocks; is_inside = s.is_inside; purpose = s.purpose; locals = s.locals }

-- ---- what is said of a scope alone

module _ (v : ℕ → List ℕ) where
  pub literal_same : (p : Purpose) (s : Scope) (at : Place) (bytes : List ℕ) (th : Thing) → IsLiteralFor p s at bytes th → IsLiteralFor p (tagged v s) at bytes th
  literal_same in_full s at bytes th h = h
  literal_same value_alone s at bytes th h = h
  literal_same type_alone s at bytes th h = h

  typed_same : (s : Scope) (th : Thing) → IsTypedThing s th → IsTypedThing (tagged v s) th
  typed_same s (an_object p) h = h
  typed_same s (a_value e) h = h
  typed_same s (a_function at f t) h = h
  typed_same s (a_function_at e) h = h
  typed_same s (a_library_function at which) h = h

  pub new_same : (s : Scope) (x : Option Spelling) → IsNew s x → IsNew (tagged v s) x
  new_same s None h = h
  new_same s (Some x) h = h

  parameter_same : (s : Scope) (x : Option Spelling) (t : CType) → tagged v (with_parameter_if_named s x t) ≡ with_parameter_if_named (tagged v s) x t
  parameter_same s None t = refl
  parameter_same s (Some x) t = refl

  parameter_inside : (s : Scope) (x : Option Spelling) (t : CType) → s.is_inside ≡ true → (with_parameter_if_named s x t).is_inside ≡ true
  parameter_inside s None t i = i
  parameter_inside s (Some x) t i = refl

  tag_same : (s : Scope) (at : ℕ) (x : Option Spelling) → AgreeAt s.file.untagged v at x → tag_text s at x ≡ tag_text (tagged v s) at x
  tag_same s at None h = h
  tag_same s at (Some x) h = refl

  -- where a structure may be defined, the names agree
  abbrev pub IfOutside : Scope → Type 0 → Type 0
  IfOutside s P = s.is_inside ≡ false → P

  pub none_outside : (s : Scope) (P : Type 0) → s.is_inside ≡ true → IfOutside s P
  none_outside s P i o = let true_is_false : true ≡ false = sym i ∙ o in cc

  pub base_other : (specs : Trees.Specifiers) (s : Scope) (t : CType) → (IsOne s specs t → IsOne (tagged v s) specs t) → IsBase (IsOne s specs) specs t
      → IsBase (IsOne (tagged v s) specs) specs t
  base_other specs s t f (inl h) = inl h
  base_other specs s t f (inr h) = inr (h.0, f h.1)

  -- ---- the rules

  mutual
    pub other : (a : Trees.Expression) (s : Scope) (th : Thing) → IfOutside s (Agree s.file.untagged v a) → Erases a s th → Erases a (tagged v s) th
    other (Trees.name x) s th m h = h
    other (Trees.number x n kind) s th m h = h
    other (Trees.character x n) s th m h = h
    other (Trees.texts all) s th m h = literal_same s.purpose s _ _ th h
    other (Trees.paren left a right) s th m h = other a s th m h
    other (Trees.index a left b right) s th m (inl h) =
        inl (h.0, h.1, h.2, h.3, h.4, other a s (an_object h.1) (λ i. (m i).0) h.5, (h.6.0, h.6.1, other b s h.6.0 (λ i. (m i).1) h.6.2))
    other (Trees.index a left b right) s th m (inr (inl h)) =
        inr (inl (h.0, h.1, h.2, h.3, (h.4.0, h.4.1, other a s h.4.0 (λ i. (m i).0) h.4.2), (h.5.0, h.5.1, other b s h.5.0 (λ i. (m i).1) h.5.2)))
    other (Trees.index a left b right) s th m (inr (inr h)) =
        inr (inr (h.0, h.1, h.2, h.3, h.4, (h.5.0, h.5.1, other a s h.5.0 (λ i. (m i).0) h.5.2), (h.6.0, h.6.1, other b s h.6.0 (λ i. (m i).1) h.6.2), h.7))
    other (Trees.call f left all right) s th m h =
        (h.0, h.1, h.2, h.3, other f s h.1 (λ i. (m i).0) h.4, all_other all s h.2 (λ i. (m i).1) h.5, h.6, h.7)
    other (Trees.dot a at x) s th m h = (h.0, h.1, h.2, h.3, h.4, h.5, other a s (an_object h.1) m h.6)
    other (Trees.arrow a at x) s th m h = (h.0, h.1, h.2, h.3, h.4, h.5, (h.6.0, h.6.1, other a s h.6.0 m h.6.2), h.7)
    other (Trees.post a op at) s th m h = (h.0, h.1, h.2, other a s (an_object h.1) m h.3)
    other (Trees.pre op at a) s th m h = (h.0, h.1, h.2, other a s (an_object h.1) m h.3)
    other (Trees.unary U.Address at a) s th m h = (h.0, h.1, other a s h.0 m h.2)
    other (Trees.unary U.Deref at a) s th m h = (h.0, h.1, (h.2.0, h.2.1, other a s h.2.0 m h.2.2))
    other (Trees.unary U.Plus at a) s th m h = (h.0, h.1, h.2, (h.3.0, h.3.1, other a s h.3.0 m h.3.2))
    other (Trees.unary U.Minus at a) s th m h = (h.0, h.1, h.2, (h.3.0, h.3.1, other a s h.3.0 m h.3.2))
    other (Trees.unary U.Complement at a) s th m h = (h.0, h.1, h.2, (h.3.0, h.3.1, other a s h.3.0 m h.3.2))
    other (Trees.unary U.Not at a) s th m h = (h.0, h.1, h.2, (h.3.0, h.3.1, other a s h.3.0 m h.3.2))
    other (Trees.sizeof_expression at a) s th m h =
        (h.0, (h.1.0, other a (measured s) h.1.0 m h.1.1, typed_same s h.1.0 h.1.2, h.1.3), h.2)
    other (Trees.sizeof_type at left n right) s th m h = (h.0, type_other n s h.0 m h.1, h.2, h.3)
    other (Trees.cast left n right a) s th m h =
        (h.0, h.1, type_other n s h.0 (λ i. (m i).0) h.2, h.3, (h.4.0, h.4.1, other a s h.4.0 (λ i. (m i).1) h.4.2), h.5)
    other (Trees.binary a op at b) s th m h =
        (h.0, h.1, h.2, h.3, (h.4.0, h.4.1, other a s h.4.0 (λ i. (m i).0) h.4.2), (h.5.0, h.5.1, other b s h.5.0 (λ i. (m i).1) h.5.2), h.6, h.7)
    other (Trees.cond a question b colon c) s th m h = (
      h.0,
      h.1,
      h.2,
      h.3,
      h.4,
      (h.5.0, h.5.1, other a s h.5.0 (λ i. (m i).0) h.5.2),
      (h.6.0, h.6.1, other b s h.6.0 (λ i. (m i).1) h.6.2),
      (h.7.0, h.7.1, other c s h.7.0 (λ i. (m i).2) h.7.2),
    )
    other (Trees.assign a op at b) s th m (inl h) =
        inl (h.0, h.1, h.2, h.3, h.4, other a s (an_object h.1) (λ i. (m i).0) h.5, (h.6.0, h.6.1, other b s h.6.0 (λ i. (m i).1) h.6.2))
    other (Trees.assign a op at b) s th m (inr (inl h)) =
        inr (inl (h.0, h.1, h.2, h.3, h.4, other a s (an_object h.1) (λ i. (m i).0) h.5, other b s (an_object h.2) (λ i. (m i).1) h.6))
    other (Trees.assign a op at b) s th m (inr (inr h)) =
        inr (inr (h.0, h.1, h.2, h.3, h.4, h.5, other a s (an_object h.1) (λ i. (m i).0) h.6, (h.7.0, h.7.1, other b s h.7.0 (λ i. (m i).1) h.7.2)))
    other (Trees.comma a at b) s th m h =
        (h.0, h.1, h.2, h.3, (h.4.0, h.4.1, other a s h.4.0 (λ i. (m i).0) h.4.2), (h.5.0, h.5.1, other b s h.5.0 (λ i. (m i).1) h.5.2))
    other (Trees.braces left all comma right) s th m h = absurd h

    all_other : (all : Trees.Arguments) (s : Scope) (xs : Typed.Expressions Noted) → IfOutside s (AgreeInAll s.file.untagged v all) → AreValues s xs all
        → AreValues (tagged v s) xs all
    all_other Trees.no_arguments s xs m h = h
    all_other (Trees.and_argument comma a more) s xs m h =
        (h.0, h.1, h.2, (h.3.0, h.3.1, other a s h.3.0 (λ i. (m i).0) h.3.2), all_other more s h.1 (λ i. (m i).1) h.4)

    type_other : (n : Trees.TypeName) (s : Scope) (t : CType) → IfOutside s (AgreeInType s.file.untagged v n) → IsTypeName s n t → IsTypeName (tagged v s) n t
    type_other (Trees.type_name specs d) s t m h =
        (h.0, h.1, base_other specs s h.0 (λ o. one_other specs s h.0 (λ i. (m i).0) o) h.2, declarator_other d s h.0 (closed t) (λ i. (m i).1) h.3)

    pub one_other : (specs : Trees.Specifiers) (s : Scope) (t : CType) → IfOutside s (AgreeInSpecifiers s.file.untagged v specs) → IsOne s specs t
        → IsOne (tagged v s) specs t
    one_other Trees.no_specifiers s t m h = absurd h
    one_other (Trees.and_specifier (Trees.plain word at) more) s t m h = one_other more s t (λ i. (m i).1) h
    one_other (Trees.and_specifier (Trees.typename x) more) s t m h = h
    one_other (Trees.and_specifier (Trees.struct_named at x) more) s t m h = h
    one_other (Trees.and_specifier (Trees.enum_named at x) more) s t m h = h
    one_other (Trees.and_specifier (Trees.struct_body at x left all right) more) s t m h =
        let k = h.0 in
        let agree = (m k.2).0 in
        let e = tag_same s at x agree.0 in (
          (
            k.0,
            k.1,
            k.2,
            k.3,
            subst (λ tag. IsNumbered s.file tag k.0) e k.4,
            k.5,
            k.6,
            k.7 ∙ e,
            k.8,
            members_other all s k.1.fields (λ i. (m i).0.1) k.9,
            k.10,
          ),
          h.1,
        )
    one_other (Trees.and_specifier (Trees.enum_body at x left all comma right) more) s t m h =
        ((h.0.0, h.0.1, enumerators_other all s 0 _ (λ i. (m i).0) h.0.2), h.1)

    members_other : (all : Trees.MemberDeclarations) (s : Scope) (fields : List Field) → IfOutside s (AgreeInMembers s.file.untagged v all)
        → AreFields s all fields → AreFields (tagged v s) all fields
    members_other Trees.no_member_declarations s fields m h = h
    members_other (Trees.and_member_declaration specs ds semicolon more) s fields m h = (
      h.0,
      h.1,
      h.2,
      h.3,
      h.4,
      base_other specs s h.0 (λ o. one_other specs s h.0 (λ i. (m i).0) o) h.5,
      declarators_other ds s h.0 semicolon h.1 (λ i. (m i).1) h.6,
      members_other more s h.2 (λ i. (m i).2) h.7,
    )

    declarators_other : (ds : Trees.MemberDeclarators) (s : Scope) (base : CType) (semicolon : ℕ) (fields : List Field)
        → IfOutside s (AgreeInDeclarators s.file.untagged v ds) → AreMembers s base ds semicolon fields → AreMembers (tagged v s) base ds semicolon fields
    declarators_other Trees.no_member_declarators s base semicolon fields m h = h
    declarators_other (Trees.and_member_declarator comma d more) s base semicolon fields m h = (
      h.0,
      h.1,
      h.2,
      h.3,
      declarator_other d s base (closed h.1) (λ i. (m i).0) h.4,
      h.5,
      h.6,
      h.7,
      declarators_other more s base semicolon h.2 (λ i. (m i).1) h.8,
    )

    enumerators_other : (all : Trees.Enumerators) (s : Scope) (next after : ℕ) → IfOutside s (AgreeInEnumerators s.file.untagged v all)
        → AreEnumerators s next all after → AreEnumerators (tagged v s) next all after
    enumerators_other Trees.no_enumerators s next after m h = h
    enumerators_other (Trees.and_enumerator comma x value more) s next after m h =
        (h.0, value_other value s next h.0 (λ i. (m i).0) h.1, h.2, enumerators_other more s ((h.0 + 1) % 2 ^ 32) after (λ i. (m i).1) h.3)

    value_other : (value : Trees.EnumeratorValue) (s : Scope) (next n : ℕ) → IfOutside s (AgreeInValue s.file.untagged v value)
        → IsEnumeratorValue s next value n → IsEnumeratorValue (tagged v s) next value n
    value_other Trees.no_value s next n m h = h
    value_other (Trees.valued equal a) s next n m h =
        let k = h.1 in (h.0, (k.0, (k.1.0, k.1.1, other a (for_value s) k.1.0 m k.1.2), k.2, k.3, k.4, k.5), h.2)

    pub declarator_other : (d : Trees.Declarator) (s : Scope) (t : CType) (shape : Shape) → IfOutside s (AgreeInDeclarator s.file.untagged v d)
        → Declares s d t shape → Declares (tagged v s) d t shape
    declarator_other Trees.nothing s t shape m h = h
    declarator_other (Trees.named x) s t shape m h = h
    declarator_other (Trees.pointer at consts d) s t shape m h = (h.0, declarator_other d s _ shape m h.1)
    declarator_other (Trees.enclosed left d right) s t shape m h = declarator_other d s t shape m h
    declarator_other (Trees.array d left (Trees.some_expression a) right) s t shape m h =
        let k = h.3 in (
          h.0,
          h.1,
          h.2,
          (k.0, (k.1.0, k.1.1, other a (for_value s) k.1.0 (λ i. (m i).1) k.1.2), k.2, k.3, k.4, k.5),
          h.4,
          h.5,
          h.6,
          h.7,
          declarator_other d s _ shape (λ i. (m i).0) h.8,
        )
    declarator_other (Trees.array d left Trees.no_expression right) s t shape m h = h
    declarator_other (Trees.function d left all right) s t shape m h =
        (h.0, list_other all (inside s) h.0 refl h.1, h.2, h.3, declarator_other d s _ shape m h.4)

    list_other : (all : Trees.ParameterList) (s : Scope) (types : CTypes) → s.is_inside ≡ true → AreParameters s all types
        → AreParameters (tagged v s) all types
    list_other (Trees.void_alone at) s types i h = h
    list_other (Trees.listed all) s types i h = parameters_other all s types i h

    parameters_other : (all : Trees.Parameters) (s : Scope) (types : CTypes) → s.is_inside ≡ true → AreListed s all types → AreListed (tagged v s) all types
    parameters_other Trees.no_parameters s types i h = h
    parameters_other (Trees.and_parameter comma specs d more) s types i h =
        let t = parameter_type h.1 in (
          h.0,
          h.1,
          h.2,
          h.3,
          h.4,
          base_other specs s h.0 (λ o. one_other specs s h.0 (none_outside s (AgreeInSpecifiers s.file.untagged v specs) i) o) h.5,
          declarator_other d s h.0 h.1 (none_outside s (AgreeInDeclarator s.file.untagged v d) i) h.6,
          h.7,
          new_same s (declared_name d) h.8,
          h.9,
          subst (λ s. AreListed s more h.2) (parameter_same s (declared_name d) t)
              (parameters_other more (with_parameter_if_named s (declared_name d) t) h.2 (parameter_inside s (declared_name d) t i) h.10),
        )
