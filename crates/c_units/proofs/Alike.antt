-- What an initializer stores is the same in each file with those records and types of objects.
use Rattle.std.proofs.Common.{◌≡◌, ℕ, List, [], ◌∷◌, ◌++◌, map, refl, sym, ap, ◌∙◌}
use Rattle.std.specs.Prelude.{flat_map}
use Rattle.c_types.specs.declared.record.Record.{Record}
use Rattle.c_annotated.specs.declared.file.Object.{Object}
use Rattle.c_types.specs.Types.{CType}
use Rattle.c_types.specs.Types as Types
use Rattle.c_types.specs.Views.{records_of, type_of}
use Rattle.c_typed.specs.Constants.{ty}
use Rattle.c_typed.specs.InitialValues.{initial_value}
use Rattle.c_typed.specs.Trees as Trees
use Rattle.c_erasure.specs.Scopes.{FileScope, at_file_scope, declared, ended}
use Rattle.c_erasure.specs.Units.{of_expression, of_initializer, of_part, of_value, stored}
use Rattle.c_initial_values.proofs.Alike.{values_alike}
use Rattle.c_initial_values.specs.Values.{object_with, scope_with}

with_types : (types : List CType) → map (λ o. o.ty) (map object_with types) ≡ types
with_types [] = refl
with_types (t ∷ more) = ap (λ them. t ∷ them) (with_types more)

module _ (f : FileScope) (records : List Record) (known : List Object) (h : f.records ≡ records_of records) (k : map (λ o. o.ty) f.objects ≡ map (λ o. type_of o.ty) known) where
  value_alike : (e : Trees.Expression CType)
      → initial_value (declared (at_file_scope (scope_with records known))) e ≡ initial_value (declared (at_file_scope f)) e
  value_alike e =
      let functions = map (λ g. g.ty) f.functions in
      let objects = map (λ o. o.ty) (map object_with (map (λ o. type_of o.ty) known)) in
      values_alike (records_of records) objects (ended []) (ended f.ends) [] [] [] functions e
      ∙ ap (λ (them : List CType). initial_value (record { records = records_of records; complete = ended f.ends; locals = []; objects = them; functions = functions }) e)
      (with_types (map (λ o. type_of o.ty) known) ∙ sym k)
      ∙ ap (λ (them : List Types.Record). initial_value (record { records = them; complete = ended f.ends; locals = []; objects = map (λ o. o.ty) f.objects; functions = functions }) e)
      (sym h)

  expression_alike : (at : ℕ) (e : Trees.Expression CType) → of_expression (scope_with records known) at e ≡ of_expression f at e
  expression_alike at e = ap (stored (ty e) at) (value_alike e)

  part_alike : (at : ℕ) (v : Trees.PartValue CType) → of_value (scope_with records known) at v ≡ of_value f at v
  part_alike at (Trees.value e) = expression_alike at e
  part_alike at (Trees.record_of p) = refl
  part_alike at (Trees.text bytes) = refl

  parts_alike : (all : List (Trees.Part CType)) → flat_map (of_part (scope_with records known)) all ≡ flat_map (of_part f) all
  parts_alike [] = refl
  parts_alike (p ∷ more) =
      ap (λ them. them ++ flat_map (of_part (scope_with records known)) more) (part_alike p.offset p.value) ∙ ap (λ them. of_part f p ++ them) (parts_alike more)

  initializer_alike : (i : Trees.Initializer CType) → of_initializer (scope_with records known) i ≡ of_initializer f i
  initializer_alike (Trees.whole e) = expression_alike 0 e
  initializer_alike (Trees.whole_record p) = refl
  initializer_alike (Trees.parts all) = parts_alike all

  pub stores_alike : of_initializer (scope_with records known) ≡ of_initializer f
  stores_alike = λ i x. initializer_alike x i
