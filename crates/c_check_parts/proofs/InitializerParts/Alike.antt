-- Which initializers are constants depends on records and on the types of objects alone.
use Rattle.std.proofs.Common.{◌≡◌, ◌∙◌, ℕ, List, [], ◌∷◌, map, refl, sym, ap}
use Rattle.std.specs.Prelude.{◌&&◌, is_some}
use Rattle.c_types.specs.Types.{CType, Record}
use Rattle.c_types.specs.Views.{records_of, type_of}
use Rattle.c_typed.specs.Trees as Typed
use Rattle.c_typed.specs.Typed.{Declared}
use Rattle.c_erasure.specs.Erasure.{typed}
use Rattle.c_erasure.specs.Initializers.{Part}
use Rattle.c_erasure.specs.Noted.{Noted}
use Rattle.c_erasure.specs.Scopes.{declared, ended}
use Rattle.c_annotated.specs.declared.file.Object.{Object}
use Rattle.c_annotated.specs.FileViews.{function_of, local_of, object_of}
use Rattle.c_erasure.specs.Checking.Initializers.{are_constant_parts, are_constants, is_constant_part}
use Rattle.c_initial_values.specs.Values.{declared_by, object_with}
use Rattle.c_initial_values.proofs.Alike.{values_alike}
use Rattle.c_scopes.specs.declared.file_scope.FileScope.{FileScope}
use Rattle.c_scopes.specs.declared.scope.Scope.{Scope}
use Rattle.c_scopes.specs.Scoping.{scope_of}

module _ (records : List Record) (objects : List CType) (complete before : ℕ → ℕ) (locals others functions more : List CType) where
  abbrev one : Declared
  one = record { records = records; complete = complete; locals = locals; objects = objects; functions = functions }

  abbrev two : Declared
  two = record { records = records; complete = before; locals = others; objects = objects; functions = more }

  part_alike : (v : Typed.PartValue Noted) → is_constant_part one v ≡ is_constant_part two v
  part_alike (Typed.value x) = ap is_some (values_alike records objects complete before locals others functions more (typed x))
  part_alike (Typed.record_of p) = refl
  part_alike (Typed.text bytes) = refl

  parts_alike : (all : List Part) → are_constant_parts one all ≡ are_constant_parts two all
  parts_alike [] = refl
  parts_alike (part ∷ all) =
      ap (λ b. b && are_constant_parts one all) (part_alike part.value) ∙ ap (λ b. is_constant_part two part.value && b) (parts_alike all)

  initial_alike : (i : Typed.Initializer Noted) → are_constants one i ≡ are_constants two i
  initial_alike (Typed.whole x) = part_alike (Typed.value x)
  initial_alike (Typed.whole_record p) = refl
  initial_alike (Typed.parts all) = parts_alike all

types_again : (types : List CType) → map (λ o. o.ty) (map object_with types) ≡ types
types_again [] = refl
types_again (t ∷ types) = ap (λ all. t ∷ all) (types_again types)

types_seen : (objects : List Object) → map (λ o. o.ty) (map object_of objects) ≡ map (λ o. type_of o.ty) objects
types_seen [] = refl
types_seen (o ∷ objects) = ap (λ all. type_of o.ty ∷ all) (types_seen objects)

pub constants_alike : (f : FileScope) (s : Scope) (i : Typed.Initializer Noted)
    → are_constants (declared_by f.records f.objects) i ≡ are_constants (declared (scope_of f s)) i
constants_alike f s i =
    ap (λ objects. are_constants (one (records_of f.records) objects (ended []) (ended []) [] [] [] []) i)
    (types_again (map (λ o. type_of o.ty) f.objects) ∙ sym (types_seen f.objects))
    ∙ initial_alike (records_of f.records) (map (λ o. o.ty) (map object_of f.objects)) (ended []) (ended f.tags.ends)
    [] (map (λ l. l.ty) (map local_of s.locals.now)) [] (map (λ g. g.ty) (map function_of f.functions)) i
