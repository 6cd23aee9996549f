-- The types that the tree of a file names (C99 6.7.2 to 6.7.6), where all that its names stand for has types whose functions give no arrays and whose
-- arrays have complete elements.
use Rattle.std.proofs.Common.{◌≡◌, ℕ, ◌+◌, ◌≤◌, refl, sym, subst, List}
use Rattle.std.specs.Prelude.{Option, Some, None}
use Rattle.c_types.specs.Types.{CType, CTypes, and_type}
use Rattle.c_ast.specs.declared.words.Spelling.{Spelling}
use Rattle.c_ast.specs.Trees
use Rattle.c_erasure.specs.Declarators.{Shape, closed}
use Rattle.c_erasure.specs.Erasure.{IsTypeName, IsBase, IsOne, Declares, AreListed}
use Rattle.c_erasure.specs.Files.{AreNamed, HasParameters, in_body}
use Rattle.c_erasure.specs.Scopes.{Entity, typedef, ALocal, Bound, FileScope, Scope, visible, named, ended}
use Rattle.c_erasure.specs.Statements.{IsVariable}
use Rattle.c_well_typed.proofs.NamesInScope.{AreNamesOf, IsScopeOf}
use Rattle.c_well_typed.proofs.WellMade.{IsMade, AreMade, IsWellMade, AreWellMade}
use Rattle.c_well_typed.proofs.NamedTypes.{IsMadeEntity, IsMadeScope, IsMadeShape, named_made, base_made, declarator_made, listed_made}
use Rattle.c_well_typed.proofs.NamedTypes.{sized_made, inside_made, with_local_made}
use Rattle.c_well_typed.proofs.MadeLeaves.{Knows}

module _ (f : FileScope) (count : ℕ) (less : (at : ℕ) → ended f.ends at ≤ count)
    (visible_made : (x : List ℕ) (at : ℕ) (e : Entity) → visible f.names x at ≡ Some e → IsMadeEntity f count less e) where
  abbrev In : Scope → Type 0
  In s = IsMadeScope f count less s

  pub entity_known : (s : Scope) (x : List ℕ) (at : ℕ) (e : Entity) → In s → named s x at ≡ Some e → IsMadeEntity f count less e
  entity_known s x at e i h = named_made f count less s x at e i (visible_made x at e) h

  pub base_known : (specs : Trees.Specifiers) (s : Scope) (t : CType) → In s → IsBase (IsOne s specs) specs t → IsWellMade count t
  base_known specs s t i h =
      base_made f count less (λ specs. Unit {0}) (λ x. Unit {0}) (λ d. Unit {0}) (λ all. Unit {0}) (λ x more w. (tt, tt)) (λ at consts d w. tt)
      (λ left d right w. tt) (λ d left bound right w. tt) (λ d left all right w. tt) (λ d left all right w. tt) (λ comma specs d more w. (tt, tt, tt))
      (λ s x t i w h. entity_known s x.text x.from (typedef t) i h) specs s t i tt h

  pub declarator_known : (d : Trees.Declarator) (s : Scope) (t : CType) (shape : Shape) → In s → IsWellMade count t → Declares s d t shape
      → IsMadeShape f count less shape
  declarator_known d s t shape i m h =
      declarator_made f count less (λ specs. Unit {0}) (λ x. Unit {0}) (λ d. Unit {0}) (λ all. Unit {0}) (λ x more w. (tt, tt)) (λ at consts d w. tt)
      (λ left d right w. tt) (λ d left bound right w. tt) (λ d left all right w. tt) (λ d left all right w. tt) (λ comma specs d more w. (tt, tt, tt))
      (λ s x t i w h. entity_known s x.text x.from (typedef t) i h) d s t shape i tt m h

  pub listed_known : (all : Trees.Parameters) (s : Scope) (types : CTypes) → In s → AreListed s all types → AreWellMade count types
  listed_known all s types i h =
      listed_made f count less (λ specs. Unit {0}) (λ x. Unit {0}) (λ d. Unit {0}) (λ all. Unit {0}) (λ x more w. (tt, tt)) (λ at consts d w. tt)
      (λ left d right w. tt) (λ d left bound right w. tt) (λ d left all right w. tt) (λ d left all right w. tt) (λ comma specs d more w. (tt, tt, tt))
      (λ s x t i w h. entity_known s x.text x.from (typedef t) i h) all s types i tt h

  pub type_known : (n : Trees.TypeName) (s : Scope) (t : CType) → In s → IsTypeName s n t → IsWellMade count t
  type_known (Trees.type_name specs d) s t i h = declarator_known d s h.0 (closed t) i (base_known specs s h.0 i h.2) h.3

  pub variable_known : (d : Trees.InitDeclarator) (s : Scope) (base : CType) (x : Spelling) (t : CType) → In s → IsWellMade count base
      → IsVariable s base d x t → IsWellMade count t
  variable_known d s base x t i m h = sized_made f count less h.0 d.value s t (declarator_known d.declarator s base h.0 i m h.2) h.3

  -- what is known where statements stand: arrays have complete elements
  pub complete_known : Knows (IsWellMade count) (IsWellMade count) (λ n. Unit {0}) In
  complete_known = record {
    text = λ n l. ((l, refl, tt), (l, refl, tt));
    entity = entity_known;
    pointer = λ t m. m;
    cast = λ n s t i h m. type_known n s t i h;
    inside = inside_made f count less;
    variable = λ specs s base i h d later x t j v. variable_known d later base x t j (base_known specs s base i h) v;
    object = λ s x n t i m. with_local_made f count less s _ i m;
    local = λ s x n t i m. with_local_made f count less s _ i m;
    declared = λ s base d x t n i m v e. tt;
  }

-- ---- the scope of a body

module _ (f : FileScope) (IsElement : CType → Type 0) where
  abbrev W : CType → Type 0
  W = IsMade IsElement

  named_parameters : (all : Trees.Parameters) (types : CTypes) (k : ℕ) (locals : List ALocal) (bounds : List Bound) → AreNamed all types k locals bounds
      → AreMade IsElement types → AreNamesOf W bounds
  named_parameters Trees.no_parameters types k locals bounds h m = subst (AreNamesOf W) (sym h.2) tt
  named_parameters (Trees.and_parameter comma specs d more) types k locals bounds h m =
      let own : AreMade IsElement (and_type h.1 h.2) = subst (AreMade IsElement) h.6 m in
      subst (AreNamesOf W) (sym h.8) (own.1, named_parameters more h.2 (k + 1) h.3 h.4 h.9 own.2)

  parameter_names : (all : Option Trees.ParameterList) (types : CTypes) (locals : List ALocal) (bounds : List Bound) → HasParameters all types locals bounds
      → AreMade IsElement types → AreNamesOf W bounds
  parameter_names None types locals bounds h m = absurd h
  parameter_names (Some (Trees.void_alone at)) types locals bounds h m = subst (AreNamesOf W) (sym h.2) tt
  parameter_names (Some (Trees.listed all)) types locals bounds h m = named_parameters all types 0 locals bounds h m

  pub body_scope : (all : Option Trees.ParameterList) (types : CTypes) (own : List ALocal) (bounds : List Bound) (locals : List ALocal)
      → HasParameters all types own bounds → AreMade IsElement types → IsScopeOf f W (in_body f bounds locals)
  body_scope all types own bounds locals h m = (refl, (parameter_names all types own bounds h m, tt))
