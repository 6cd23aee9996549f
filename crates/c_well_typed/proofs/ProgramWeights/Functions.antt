-- A function that is defined weighs so much for each node of its item (C99 6.9.1).
use Rattle.std.proofs.Common.{◌≡◌, ℕ, ◌+◌, ◌*◌, ◌≤◌, Bool, true, false, refl, sym, ap, subst, List, [], ◌∷◌, length, arith}
use Rattle.std.specs.Prelude.{if◌then◌else◌, Option, Some}
use Rattle.std.specs.Option.{option_map}
use Rattle.c_types.specs.Types.{CType, CTypes}
use Rattle.c_ast.specs.Trees
use Rattle.c_ast.specs.Sizes.{size_declarator, size_optional, size_parameters, size_parameter_list, size_block_items}
use Rattle.c_typed.specs.Trees as Typed
use Rattle.c_typed.specs.Mapped.{of_types, mapped_statement}
use Rattle.c_typed.specs.Programs.{FunctionData}
use Rattle.c_typed.specs.TypedStatements.{declared_by}
use Rattle.c_erasure.specs.Declarators.{declared_name, is_name}
use Rattle.c_ast.specs.declared.words.Spelling.{Spelling}
use Rattle.c_erasure.specs.Files.{parameters_of, AreNamed, HasParameters, count_up, IsBody}
use Rattle.c_erasure.specs.Noted.{Noted}
use Rattle.c_erasure.specs.Scopes.{ALocal, AFunction, Bound, FileScope}
use Rattle.c_erasure.specs.Units.{locals, number_in, types, function, taken_in, recognised_statement, is_block}
use Rattle.c_well_typed.specs.ProgramWeights.Counted.{Kind, definition, parameter, named_local, block_local}
use Rattle.c_well_typed.specs.ProgramWeights.Weights.{weight_of_statement, weight_of_parameters, weight_of_locals, weight_of_body, weight_of_function}
use Rattle.c_well_typed.proofs.ProgramWeights.Initializers.{more_paid}
use Rattle.c_well_typed.proofs.ProgramWeights.Maps.{same_statement}
use Rattle.c_well_typed.proofs.ProgramWeights.Recognised.{less_statement}
use Rattle.c_well_typed.proofs.ProgramWeights.Statements.{name_counts, owed, items_paid}
use Rattle.c_well_typed.proofs.ProgramWeights.Within.{AreWithin}

-- ---- the nodes of a declarator beside its name, its parameters and its marks

abbrev pub lengths : Trees.Declarator → ℕ
lengths Trees.nothing = 0
lengths (Trees.named x) = 0
lengths (Trees.pointer at consts d) = lengths d
lengths (Trees.enclosed left d right) = lengths d
lengths (Trees.array d left length right) = lengths d + (size_optional length).nodes
lengths (Trees.function d left all right) = lengths d

pub lengths_less : (d : Trees.Declarator) → lengths d ≤ (size_declarator d).nodes
lengths_less Trees.nothing = omega arith
lengths_less (Trees.named x) = omega arith
lengths_less (Trees.pointer at consts d) = let l = lengths_less d in omega (arith, l)
lengths_less (Trees.enclosed left d right) = let l = lengths_less d in omega (arith, l)
lengths_less (Trees.array d left length right) = let l = lengths_less d in omega (arith, l)
lengths_less (Trees.function d left all right) = let l = lengths_less d in omega (arith, l)

pub lengths_and_name : (d : Trees.Declarator) (x : Spelling) → declared_name d ≡ Some x → lengths d + 1 ≤ (size_declarator d).nodes
lengths_and_name Trees.nothing x h = cc
lengths_and_name (Trees.named y) x h = omega arith
lengths_and_name (Trees.pointer at consts d) x h = let l = lengths_and_name d x h in omega (arith, l)
lengths_and_name (Trees.enclosed left d right) x h = let l = lengths_and_name d x h in omega (arith, l)
lengths_and_name (Trees.array d left length right) x h = let l = lengths_and_name d x h in omega (arith, l)
lengths_and_name (Trees.function d left all right) x h = let l = lengths_and_name d x h in omega (arith, l)

module _ (n : Kind → ℕ) (most : ℕ) (w : AreWithin n most) where
  named_paid : (all : Trees.Parameters) (kinds : CTypes) (k : ℕ) (ls : List ALocal) (bounds : List Bound) → AreNamed all kinds k ls bounds
      → weight_of_parameters n ls ≤ most * (size_parameters all).nodes
  named_paid Trees.no_parameters kinds k ls bounds h = subst (λ ls. weight_of_parameters n ls ≤ most * 0) (sym h.1) (omega arith)
  named_paid (Trees.and_parameter comma specs d more) kinds k ls bounds h =
      let f = named_paid more h.2 (k + 1) h.3 h.4 h.9 in
      let g = more_paid most 1 (size_declarator d).nodes (name_counts d h.0 h.5) in
      let l = w.parameter_name in
      subst (λ ls. weight_of_parameters n ls ≤ most * (size_parameters (Trees.and_parameter comma specs d more)).nodes) (sym h.7) (omega (arith, f, g, l))

  listed_paid : (all : Trees.ParameterList) (kinds : CTypes) (ls : List ALocal) (bounds : List Bound) → HasParameters (Some all) kinds ls bounds
      → weight_of_parameters n ls ≤ most * (size_parameter_list all).nodes
  listed_paid (Trees.void_alone at) kinds ls bounds h = subst (λ ls. weight_of_parameters n ls ≤ most * 0) (sym h.1) (omega arith)
  listed_paid (Trees.listed all) kinds ls bounds h = named_paid all kinds 0 ls bounds h

  pub parameters_paid : (d : Trees.Declarator) (kinds : CTypes) (ls : List ALocal) (bounds : List Bound) → HasParameters (parameters_of d) kinds ls bounds
      → weight_of_parameters n ls + most * lengths d ≤ most * (size_declarator d).nodes
  parameters_paid Trees.nothing kinds ls bounds h = absurd h
  parameters_paid (Trees.named x) kinds ls bounds h = absurd h
  parameters_paid (Trees.pointer at consts d) kinds ls bounds h = let f = parameters_paid d kinds ls bounds h in omega (arith, f)
  parameters_paid (Trees.enclosed left d right) kinds ls bounds h = let f = parameters_paid d kinds ls bounds h in omega (arith, f)
  parameters_paid (Trees.array d left length right) kinds ls bounds h = let f = parameters_paid d kinds ls bounds h in omega (arith, f)
  parameters_paid (Trees.function d left all right) kinds ls bounds h = by_name (is_name d) h (λ h. parameters_paid d kinds ls bounds h)
    where
      by_name : (b : Bool) → HasParameters (if b then Some all else parameters_of d) kinds ls bounds
          → (HasParameters (parameters_of d) kinds ls bounds → weight_of_parameters n ls + most * lengths d ≤ most * (size_declarator d).nodes)
          → weight_of_parameters n ls + most * lengths d ≤ most * ((size_declarator d).nodes + (size_parameter_list all).nodes + 1)
      by_name true h again =
          let f = listed_paid all kinds ls bounds h in
          let l = more_paid most (lengths d) (size_declarator d).nodes (lengths_less d) in omega (arith, f, l)
      by_name false h again = let f = again h in omega (arith, f)

  -- ---- locals

  same_parameters : (f : FileScope) (taken : List ℕ) (k : ℕ) (ls : List ALocal)
      → weight_of_parameters n (locals f taken k ls) ≡ weight_of_parameters n ls
  same_parameters f taken k [] = refl
  same_parameters f taken k (l ∷ more) = ap (λ m. n parameter + m) (same_parameters f taken (k + 1) more)

  one_local : (b : Bool) → (if b then n block_local else n named_local) ≤ n named_local
  one_local true = let l = w.block in omega (arith, l)
  one_local false = omega arith

  locals_owed : (f : FileScope) (taken : List ℕ) (k i : ℕ) (ls : List ALocal) → weight_of_locals n (locals f taken k ls) ≤ owed n (count_up i (length ls))
  locals_owed f taken k i [] = omega arith
  locals_owed f taken k i (l ∷ more) =
      let a = locals_owed f taken (k + 1) (i + 1) more in
      let b = one_local (is_block taken k l.ty) in omega (arith, a, b)

  -- ---- functions

  body_less : (f : FileScope) (g : FunctionData) (body : Option (Typed.Statement Noted)) (s : Typed.Statement Noted) → body ≡ Some s
      → weight_of_body n g (option_map (λ s. mapped_statement (of_types (λ t. number_in (types f) t.ty)) (recognised_statement s)) body)
      ≤ n definition + weight_of_parameters n g.parameters + weight_of_locals n g.locals + weight_of_statement n s
  body_less f g body s h =
      let a = same_statement n (of_types (λ t. number_in (types f) t.ty)) (recognised_statement s) in
      let b = less_statement n w.null_pointer s in
      subst (λ body. weight_of_body n g (option_map (λ s. mapped_statement (of_types (λ t. number_in (types f) t.ty)) (recognised_statement s)) body)
      ≤ n definition + weight_of_parameters n g.parameters + weight_of_locals n g.locals + weight_of_statement n s) (sym h) (omega (arith, a, b))

  pub defined_paid : (f : FileScope) (result : CType) (d : Trees.Declarator) (kinds : CTypes) (bounds : List Bound) (g : AFunction) (items : Trees.BlockItems)
      → HasParameters (parameters_of d) kinds g.parameters bounds → IsBody f result bounds g items
      → weight_of_function n (function f g) + most * lengths d ≤ most * ((size_declarator d).nodes + (size_block_items items).nodes + 2)
  defined_paid f result d kinds bounds g items p b =
      let e = body_less f (function f g) g.body (Typed.block (declared_by b.0) b.0) b.1 in
      let i = items_paid n most w items _ b.0 b.2 in
      let j = parameters_paid d kinds g.parameters bounds p in
      let k = same_parameters f (taken_in g) 0 g.parameters in
      let l = locals_owed f (taken_in g) (length g.parameters) (length g.parameters) g.locals in
      let o = ap (owed n) b.4 in
      let m = w.item in
      omega (arith, e, i, j, k, l, o, m)
