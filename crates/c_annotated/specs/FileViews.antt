-- What the parts of an annotated file of the program stand for.
use Rattle.std.specs.Prelude.{map}
use Rattle.std.specs.Option.{option_map}
use Rattle.c_types.specs.Views.{type_of}
use Rattle.c_erasure.specs.Scopes
use Rattle.c_annotated.specs.declared.names.Entity.{Entity}
use Rattle.c_annotated.specs.declared.names.Entity.TheVariants as E
use Rattle.c_annotated.specs.declared.names.How.{How}
use Rattle.c_annotated.specs.declared.names.How.TheVariants as H
use Rattle.c_annotated.specs.declared.names.Bound.{Bound}
use Rattle.c_annotated.specs.declared.names.Tag.{Tag}
use Rattle.c_annotated.specs.declared.file.Object.{Object}
use Rattle.c_annotated.specs.declared.file.Local.{Local}
use Rattle.c_annotated.specs.declared.file.Function.{Function}
use Rattle.c_annotated.specs.declared.file.Mention.{Mention}
use Rattle.c_annotated.specs.Views.{initializer_of, statement_of}

abbrev pub entity_of : Entity → Scopes.Entity
entity_of (E.Typedef t) = Scopes.typedef (type_of t)
entity_of (E.Enumerator v) = Scopes.enumerator v
entity_of (E.Object n t) = Scopes.an_object n (type_of t)
entity_of (E.Function n t) = Scopes.a_function n (type_of t)
entity_of (E.LibraryFunction which) = Scopes.a_library_function which
entity_of (E.Local n t) = Scopes.a_local n (type_of t)
entity_of (E.Parameter t) = Scopes.a_parameter (type_of t)

abbrev pub how_of : How → Scopes.How
how_of H.Declares = Scopes.declares
how_of H.Tentative = Scopes.tentative
how_of H.Defines = Scopes.defines

abbrev pub bound_of : Bound → Scopes.Bound
bound_of b = record { name = b.name; place = b.place; from = b.from; how = how_of b.how; entity = entity_of b.entity }

abbrev pub tag_of : Tag → Scopes.Tag
tag_of t = record { name = t.name; place = t.place; from = t.from; is_enumeration = t.is_enumeration }

abbrev pub object_of : Object → Scopes.AnObject
object_of o = record {
  name = o.name;
  place = o.place;
  first = o.first;
  ty = type_of o.ty;
  is_linked = o.is_linked;
  literal = o.literal;
  initial = option_map initializer_of o.initial;
}

abbrev pub local_of : Local → Scopes.ALocal
local_of l = record { name = l.name; ty = type_of l.ty }

abbrev pub function_of : Function → Scopes.AFunction
function_of f = record {
  name = f.name;
  place = f.place;
  first = f.first;
  ty = type_of f.ty;
  is_linked = f.is_linked;
  parameters = map local_of f.parameters;
  locals = map local_of f.locals;
  body = option_map statement_of f.body;
  nodes = f.nodes;
}

abbrev pub mention_of : Mention → Scopes.AMention
mention_of m = record { kind = m.kind; ty = type_of m.ty; at = m.at }
