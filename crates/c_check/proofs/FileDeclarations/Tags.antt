-- Specifiers that declare a tag.
use Rattle.std.proofs.Common.{◌≡◌, refl}
use Rattle.std.specs.Prelude.{if◌then◌else◌, true, Some, None}
use Rattle.c_ast.specs.Trees
use Rattle.c_erasure.specs.Files.{declares_tag}

pub declared_first : (s : Trees.Specifier) (more : Trees.Specifiers)
    → declares_tag (Trees.and_specifier s more) ≡ (if declares_tag (Trees.and_specifier s Trees.no_specifiers) then true else declares_tag more)
declared_first (Trees.plain word at) more = refl
declared_first (Trees.typename x) more = refl
declared_first (Trees.struct_named at x) more = refl
declared_first (Trees.struct_body at None left all right) more = refl
declared_first (Trees.struct_body at (Some x) left all right) more = refl
declared_first (Trees.enum_named at x) more = refl
declared_first (Trees.enum_body at x left all comma right) more = refl
