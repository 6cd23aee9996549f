-- What stands for a declaration in a block is printable (C99 6.7): each local has its type, and declarators make their types of one.
use Rattle.std.proofs.Common.{◌≡◌, ◌∙◌, ℕ, ◌≤◌, Bool, true, false, sym, ap, subst, List, [], ◌∷◌, map, length, inl, inr, Some, None}
use Rattle.std.proofs.lemmas.Option.{slice_get-map}
use Rattle.std.specs.Prelude.{◌⊎◌, Option, slice_get}
use Rattle.std.specs.Option.{option_map}
use Rattle.c_types.specs.Objects.{is_object}
use Rattle.c_types.specs.Types.{CType, pointer, array, function, Record}
use Rattle.c_numbers.specs.TypeNumbers.Renumbered.{renumbered}
use Rattle.c_tokens.specs.declared.punctuator.Punctuator.TheVariants as M
use Rattle.c_ast.specs.declared.words.Spelling.{Spelling}
use Rattle.c_ast.specs.Spelling.{Lexeme, punctuator, spelled_value, spelled_init_declarators, spelled_declaration}
use Rattle.c_ast.specs.Trees
use Rattle.c_ast.specs.WellFormed.{IsValue, AreInitDeclarators, IsDeclaration}
use Rattle.c_typed.specs.Mapped.{mapped_statements, mapped_initializer}
use Rattle.c_typed.specs.Trees as Typed
use Rattle.c_erasure.specs.Declarators.{Shape, closed, open_array}
use Rattle.c_erasure.specs.Erasure.{Declares}
use Rattle.c_erasure.specs.Noted.{Noted}
use Rattle.c_erasure.specs.Scopes.{ALocal, FileScope, Scope, ended}
use Rattle.c_erasure.specs.Statements.{Statements, IsSized, HasInitializer, with_object, with_variable, IsVariable, DeclareAll, IsLocalDeclaration}
use Rattle.c_erasure.specs.Units.{recognised_initializer, recognised_statements}
use Rattle.c_erasure.proofs.MarkPlaces.MarksOfFiles.{initializer_along}
use Rattle.c_erasure.proofs.MarkPlaces.MarksOfParts.{specifiers_along, declarator_along}
use Rattle.c_erasure.proofs.MarkPlaces.Walks.{comma_along}
use Rattle.c_checking_laws.proofs.CompletePart.{complete_stays}
use Rattle.c_well_typed.specs.Printable.Declarable.{base_of}
use Rattle.c_well_typed.specs.Printable.Initializers.{IsPrintableInitializer}
use Rattle.c_well_typed.specs.Printable.Statements.{AreDeclared, ArePrintableStatements}
use Rattle.c_well_typed.proofs.PrintableFunctions.Conversions.{renamed}
use Rattle.c_well_typed.proofs.PrintableFunctions.Expressions.{no_tags}
use Rattle.c_well_typed.proofs.PrintableFunctions.Initializers.{LieAlike, initializer_said}
use Rattle.c_well_typed.proofs.PrintableFunctions.Tokens.{HaveValues, behind}

-- ---- the type from which a declarator makes a type

abbrev of_shape : Shape → CType
of_shape (closed t) = t
of_shape (open_array t) = t

module _ (n : ℕ → ℕ) where
  abbrev pub new_base : CType → CType
  new_base t = base_of (renumbered n t)

  declares_base : (d : Trees.Declarator) (s : Scope) (t : CType) (shape : Shape) → Declares s d t shape → new_base (of_shape shape) ≡ new_base t
  declares_base Trees.nothing s t shape h = ap (λ shape. new_base (of_shape shape)) h
  declares_base (Trees.named x) s t shape h = ap (λ shape. new_base (of_shape shape)) h
  declares_base (Trees.pointer at consts d) s t shape h = declares_base d s (pointer t) shape h.1
  declares_base (Trees.enclosed left d right) s t shape h = declares_base d s t shape h
  declares_base (Trees.array d left (Trees.some_expression a) right) s t shape h = declares_base d s (array t h.2) shape h.8
  declares_base (Trees.array d left Trees.no_expression right) s t shape h = ap (λ shape. new_base (of_shape shape)) h.2
  declares_base (Trees.function d left all right) s t shape h = declares_base d s (function t h.0) shape h.4

  sized_base : (s : Scope) (shape : Shape) (value : Option (ℕ × Trees.Expression)) (t : CType) → IsSized s shape value t → new_base t ≡ new_base (of_shape shape)
  sized_base s (closed u) value t h = ap new_base h
  sized_base s (open_array u) None t h = absurd h
  sized_base s (open_array u) (Some value) t h = ap new_base h.0

  pub variable_base : (s : Scope) (base : CType) (d : Trees.InitDeclarator) (x : Spelling) (t : CType) → IsVariable s base d x t → new_base t ≡ new_base base
  variable_base s base d x t h = sized_base s h.0 d.value t h.3 ∙ declares_base d.declarator s base h.0 h.2

-- ---- declarators

module _ (n object callee : ℕ → ℕ) (f : FileScope) (less : (at : ℕ) → ended f.ends at ≤ length f.records) (records : List Record)
    (alike : LieAlike f.records records n) (own : List ALocal) (types : List (List ℕ)) where
  -- the types of the parameters and locals in the program
  abbrev pub locals : List CType
  locals = map (renumbered n) (map (λ l. l.ty) own)

  -- in this function
  abbrev pub IsIn : Scope → Type 0
  IsIn s = (s.file ≡ f) × (s.locals ≡ own)

  abbrev again : Statements → Typed.Statements CType
  again all = mapped_statements (renamed n object callee) (recognised_statements all)

  abbrev Are : Statements → Type 0
  Are all = ArePrintableStatements records locals (again all)

  abbrev AreOf : CType → Statements → Type 0
  AreOf base all = AreDeclared records locals (new_base n base) (again all)

  local_at : (s : Scope) (i : ℕ) (l : ALocal) → IsIn s → slice_get s.locals i ≡ Some l → slice_get locals i ≡ Some (renumbered n l.ty)
  local_at s i l e h =
      let there = subst (λ all. slice_get all i ≡ Some l) e.1 h in
      slice_get-map (renumbered n) (map (λ l. l.ty) own) i
      ∙ ap (option_map (renumbered n)) (slice_get-map (λ (l : ALocal). l.ty) own i ∙ ap (option_map (λ (l : ALocal). l.ty)) there)

  whole : (s : Scope) (at : ℕ) (t : CType) → IsIn s → is_object (ended s.file.ends at) t ≡ true → is_object (length f.records) t ≡ true
  whole s at t e h = complete_stays (ended f.ends at) (length f.records) t (less at) (subst (λ (f : FileScope). is_object (ended f.ends at) t ≡ true) e.0 h)

  abbrev IsInitial : CType → Option (Typed.Initializer Noted) → Type 0
  IsInitial t i = IsPrintableInitializer records (renumbered n t) (option_map (mapped_initializer (renamed n object callee)) (option_map recognised_initializer i))

  has_initializer : (value : Option (ℕ × Trees.Expression)) (s : Scope) (t : CType) (i : Option (Typed.Initializer Noted)) (rest : List Lexeme) → IsIn s
      → IsValue types value → HaveValues (spelled_value value rest) → is_object (length f.records) t ≡ true → HasInitializer s t value i → IsInitial t i
  has_initializer None s t i rest e w k o h = subst (IsInitial t) (sym h) tt
  has_initializer (Some value) s t i rest e w k o h =
      subst (IsInitial t) (sym h.1) (initializer_said n object callee f records alike types value.1 s t h.0 rest e.0 w k.1 o h.2)

  past_value : (value : Option (ℕ × Trees.Expression)) → IsValue types value → (rest : List Lexeme) → HaveValues (spelled_value value rest) → HaveValues rest
  past_value None w rest k = k
  past_value (Some value) w rest k = behind (initializer_along no_tags types value.1 w) k.1

  abbrev Result : CType → Statements → Scope → Type 0
  Result base all after = Are all × AreOf base all × IsIn after

  nothing_declared : (base : CType) (all : Statements) (s after : Scope) → IsIn s → all ≡ Typed.no_statements → after ≡ s → Result base all after
  nothing_declared base all s after e h g =
      (subst Are (sym h) tt, subst (AreOf base) (sym h) tt, (ap (λ (s : Scope). s.file) g ∙ e.0, ap (λ (s : Scope). s.locals) g ∙ e.1))

  value_of : (first : Bool) (d : Trees.InitDeclarator) (more : List Trees.InitDeclarator) (rest : List Lexeme) → AreInitDeclarators types first (d ∷ more)
      → HaveValues (spelled_init_declarators (d ∷ more) rest) → HaveValues (spelled_value d.value (spelled_init_declarators more rest))
  value_of first d more rest w k = behind (declarator_along no_tags types d.declarator w.1) (behind (comma_along d.comma) k)

  declarators : (first : Bool) (ds : List Trees.InitDeclarator) (s : Scope) (static : Bool) (base : CType) (all : Statements) (after : Scope)
      (rest : List Lexeme) → IsIn s → AreInitDeclarators types first ds → HaveValues (spelled_init_declarators ds rest)
      → DeclareAll ds s static base all after → Result base all after
  declarators first [] s static base all after rest e w k h = nothing_declared base all s after e h.0 h.1
  declarators first (d ∷ more) s true base all after rest e w k h =
      declarators false more (with_object s h.0 h.2 h.1) true base all after rest e w.4 (past_value d.value w.3 _ (value_of first d more rest w k)) h.5
  declarators first (d ∷ more) s false base all after rest e w k h =
      let there = value_of first d more rest w k in
      let later = declarators false more (with_variable s h.0 h.2 h.1) false base h.4 after rest e w.4 (past_value d.value w.3 _ there) h.9 in
      let local = local_at s h.2 (record { name = h.0.text; ty = h.1 }) e h.6 in
      let variable = h.5 in
      let initial = has_initializer d.value (with_variable s h.0 h.2 h.1) h.1 h.3 _ e w.3 there (whole s h.0.from h.1 e variable.4) h.8 in (
        subst Are (sym h.7) ((renumbered n h.1, local, initial), later.0),
        subst (AreOf base) (sym h.7) (renumbered n h.1, local, variable_base n s base d h.0 h.1 variable, later.1),
        later.2,
      )

  pub declaration : (d : Trees.Declaration) (s : Scope) (all : Statements) (after : Scope) (rest : List Lexeme) → IsIn s → IsDeclaration types d
      → HaveValues (spelled_declaration d rest) → IsLocalDeclaration d s all after → Are all × ((base : CType) × AreDeclared records locals base (again all)) × IsIn after
  declaration d s all after rest e w k h = by_storage h.3
    where
      there : HaveValues (spelled_init_declarators d.all (punctuator M.Semicolon d.semicolon ∷ rest))
      there = behind (specifiers_along no_tags types d.specs w.0) k

      declared : (static : Bool) → DeclareAll d.all s static h.0 all after
          → Are all × ((base : CType) × AreDeclared records locals base (again all)) × IsIn after
      declared static g = let r = declarators true d.all s static h.0 all after _ e w.1 there g in (r.0, (new_base n h.0, r.1), r.2)

      by_storage : {A B : Type 0} → (A × DeclareAll d.all s true h.0 all after) ⊎ (B × DeclareAll d.all s false h.0 all after)
          → Are all × ((base : CType) × AreDeclared records locals base (again all)) × IsIn after
      by_storage (inl g) = declared true g.1
      by_storage (inr g) = declared false g.1
