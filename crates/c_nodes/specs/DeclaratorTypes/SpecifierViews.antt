-- What the answers on specifiers stand for.
use Rattle.c_erasure.specs.Specifiers as Specifiers
use Rattle.c_nodes.specs.declared.declarator_types.specifiers.Storage.{Storage}
use Rattle.c_nodes.specs.declared.declarator_types.specifiers.Storage.TheVariants as S

abbrev pub storage_view : Storage → Specifiers.Storage
storage_view S.None = Specifiers.no_storage
storage_view S.Typedef = Specifiers.a_typedef
storage_view S.Extern = Specifiers.is_extern
storage_view S.Static = Specifiers.is_static
storage_view S.Auto = Specifiers.is_auto
storage_view S.Register = Specifiers.is_register
storage_view S.Several = Specifiers.several
