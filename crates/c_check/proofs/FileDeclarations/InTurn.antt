-- Declarators in turn: one, and those after it.
use Rattle.std.proofs.Common.{◌≡◌, ◌∙◌, ◌<◌, ◌≤◌, ℕ, ◌+◌, List, length, drop, get_or, map, sym, ap}
use Rattle.std.specs.Prelude.{Ok, unwrap_or}
use Rattle.std.specs.Option.{option_map}
use Rattle.std.proofs.lemmas.List.{at_drop_all}
use Rattle.c_types.specs.Types.{CType}
use Rattle.c_ast.specs.declared.declaration.InitDeclarator.{InitDeclarator}
use Rattle.c_ast.specs.Views.{declarator_of, init_declarator_of, value_of}
use Rattle.c_erasure.specs.Declarators.{declared_name}
use Rattle.c_erasure.specs.Marks.{after_declarator, name_from}
use Rattle.c_erasure.specs.Scopes.{FileScope}
use Rattle.c_erasure.specs.Specifiers.{Storage}
use Rattle.c_erasure.specs.Checking.Answers.{◌>>=◌}
use Rattle.c_erasure.specs.Checking.Files.{declarator_named, file_declarators}
use Rattle.c_check_parts.proofs.InitializerParts.Lists.{next_mapped}

module _ (all : List InitDeclarator) (i : ℕ) where
  pub next_comma : (d : InitDeclarator) (semicolon : ℕ) → i + 1 < length all → d ≡ get_or all (i + 1) d
      → after_declarator (map init_declarator_of (drop (i + 1) all)) semicolon ≡ unwrap_or d.comma semicolon
  next_comma d semicolon h e = ap (λ rest. after_declarator rest semicolon) (next_mapped init_declarator_of all (i + 1) d h e)

  pub last_declarator : (semicolon : ℕ) → length all ≤ i + 1 → after_declarator (map init_declarator_of (drop (i + 1) all)) semicolon ≡ semicolon
  last_declarator semicolon h = ap (λ rest. after_declarator rest semicolon) (at_drop_all (map init_declarator_of) all (i + 1) h)

  pub declarators_next : (d : InitDeclarator) (f : FileScope) (words : Storage) (base : CType) (semicolon nodes : ℕ) → i < length all → d ≡ get_or all i d
      → file_declarators (map init_declarator_of (drop i all)) f words base semicolon nodes
      ≡ (declarator_named f words base (init_declarator_of d)
      (name_from (init_declarator_of d).value (after_declarator (map init_declarator_of (drop (i + 1) all)) semicolon)) nodes (declared_name (declarator_of d.declarator))
      >>= λ g. file_declarators (map init_declarator_of (drop (i + 1) all)) g words base semicolon nodes)
  unfolding file_declarators
  declarators_next d f words base semicolon nodes h e =
      ap (λ rest. file_declarators rest f words base semicolon nodes) (next_mapped init_declarator_of all i d h e)

  -- with the place from which the name is in scope
  pub named_next : (d : InitDeclarator) (f : FileScope) (words : Storage) (base : CType) (semicolon nodes end from : ℕ) → i < length all → d ≡ get_or all i d
      → end ≡ after_declarator (map init_declarator_of (drop (i + 1) all)) semicolon → from ≡ name_from (option_map value_of d.value) end
      → file_declarators (map init_declarator_of (drop i all)) f words base semicolon nodes
      ≡ (declarator_named f words base (init_declarator_of d) from nodes (declared_name (declarator_of d.declarator))
      >>= λ g. file_declarators (map init_declarator_of (drop (i + 1) all)) g words base semicolon nodes)
  named_next d f words base semicolon nodes end from h e k l =
      declarators_next d f words base semicolon nodes h e
      ∙ ap (λ from. declarator_named f words base (init_declarator_of d) from nodes (declared_name (declarator_of d.declarator))
      >>= λ g. file_declarators (map init_declarator_of (drop (i + 1) all)) g words base semicolon nodes)
      (sym (l ∙ ap (name_from (option_map value_of d.value)) k))

  pub no_declarators : (f : FileScope) (words : Storage) (base : CType) (semicolon nodes : ℕ) → length all ≤ i
      → file_declarators (map init_declarator_of (drop i all)) f words base semicolon nodes ≡ Ok f
  unfolding file_declarators
  no_declarators f words base semicolon nodes h =
      ap (λ rest. file_declarators rest f words base semicolon nodes) (at_drop_all (map init_declarator_of) all i h)
