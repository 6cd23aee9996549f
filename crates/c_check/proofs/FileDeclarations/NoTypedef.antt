-- What a name declares that is no typedef.
use Rattle.std.proofs.Common.{◌≡◌, ◌≢◌, ℕ, false, refl}
use Rattle.c_types.specs.Types.{CType}
use Rattle.c_ast.specs.declared.words.Spelling.{Spelling}
use Rattle.c_ast.specs.Trees
use Rattle.c_typed.specs.Conversions.{is_function}
use Rattle.c_erasure.specs.Scopes.{FileScope}
use Rattle.c_erasure.specs.Checking.Files.{declare_as}
use Rattle.c_nodes.specs.DeclaratorTypes.SpecifierViews.{storage_view}
use Rattle.c_nodes.specs.declared.declarator_types.specifiers.Storage.{Storage}
use Rattle.c_nodes.specs.declared.declarator_types.specifiers.Storage.TheVariants as S
use Rattle.c_check.specs.FileDeclarations.Declared.{object_declared}

module _ (before place from : ℕ) (x : Spelling) (t : CType) (d : Trees.InitDeclarator) (nodes : ℕ) (f : FileScope) where
  pub an_object : (words : Storage) → words ≢ S.Typedef → is_function t ≡ false
      → declare_as (storage_view words) before place from x t d nodes f ≡ object_declared (storage_view words) before place from x t d.value f
  an_object S.None h e = rw e refl
  an_object S.Typedef h e = absurd (h refl)
  an_object S.Extern h e = rw e refl
  an_object S.Static h e = rw e refl
  an_object S.Auto h e = rw e refl
  an_object S.Register h e = rw e refl
  an_object S.Several h e = rw e refl
