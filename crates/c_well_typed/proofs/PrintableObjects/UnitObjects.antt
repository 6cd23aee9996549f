-- What the objects of the unit of a file hold at first is named by braces, and those of string literals hold their bytes and a zero (C99 6.4.5, 6.7.8).
use Rattle.std.proofs.Common.{◌≡◌, ◌∙◌, ℕ, suc, refl, sym, ap, subst, List, [], ◌∷◌, ◌++◌, length, length-append, map, append-nil, inl, inr}
use Rattle.std.proofs.lemmas.List.Elements.{All-from_recursion}
use Rattle.std.specs.Prelude.{All, Option, Some, None, slice_get, is_some}
use Rattle.std.specs.List.{AllByRecursion}
use Rattle.std.specs.Option.{option_map}
use Rattle.lay_base.specs.declared.place.Place.{Place}
use Rattle.c_types.specs.declared.ty.IntKind.TheVariants.{Char}
use Rattle.c_types.specs.Types.{CType, integer, array}
use Rattle.c_ast.specs.Trees
use Rattle.c_ast.specs.TreesOfFiles.{IsTreeOf}
use Rattle.c_ast.specs.declared.words.Spelling.{Spelling}
use Rattle.c_typed.specs.Programs.{UnitData, ProgramData}
use Rattle.c_typed.specs.Trees as Typed
use Rattle.c_typed.specs.TypeNumbers.{type_at}
use Rattle.c_erasure.specs.Erasure.{literal_of, literal_object}
use Rattle.c_erasure.specs.Files.{AreAscending, IsFileOf}
use Rattle.c_erasure.specs.Marks.{marks_of_file, scope_beginnings}
use Rattle.c_erasure.specs.Noted.{Noted}
use Rattle.c_erasure.specs.Scopes.{AnObject, FileScope, declared}
use Rattle.c_erasure.specs.Units as Units
use Rattle.c_erasure.specs.Units.{types, number_in, object_types, of_initializer, typed_initializer, unit_of}
use Rattle.c_well_typed.proofs.FileObjects.{objects_known}
use Rattle.c_well_typed.proofs.InitialStores.{AreBytes}
use Rattle.c_well_typed.proofs.LiteralObjects.{Holds, any_good}
use Rattle.c_well_typed.proofs.Numbers.{IsNumbered}
use Rattle.c_well_typed.proofs.TokenBytes.{tree_of_bytes}
use Rattle.c_well_typed.proofs.UnitFunctions.{records_ended, objects_numbered, at_place}
use Rattle.c_well_typed.specs.Printable.Initializers.{of_text}
use Rattle.c_well_typed.specs.Printable.Programs.{IsLiteral, IsInitial, IsObject, IsPrintableObject}
use Rattle.c_well_typed.proofs.PrintableObjects.FileLiterals.{walk, IsCovered, object_covered}
use Rattle.c_well_typed.proofs.PrintableObjects.Literals.{IsLiteralObject}
use Rattle.c_well_typed.proofs.PrintableObjects.NamedParts.{front_of, are_below, texts_same, initializer_named}
use Rattle.c_well_typed.proofs.PrintableObjects.Sources.{IsSourced, IsFilled}

-- a unit by itself, whatever function would be its `main`
abbrev pub as_program : UnitData → ProgramData
as_program u = record {
  records = u.records;
  types = u.types;
  objects = u.objects;
  functions = u.functions;
  mentions = u.mentions;
  main = 0;
  nodes = u.nodes;
}

each_mapped : {A B : Type 0} (P : B → Type 0) (v : A → B) (xs : List A) → ((j : ℕ) (x : A) → slice_get xs j ≡ Some x → P (v x))
    → AllByRecursion P (map v xs)
each_mapped P v [] h = tt
each_mapped P v (x ∷ xs) h = (h 0 x refl, each_mapped P v xs (λ j y e. h (suc j) y e))

module _ (bytes : List ℕ) (items : List Trees.Item) (f : FileScope) (tree : IsTreeOf bytes items) (h : IsFileOf items f)
    (beginnings : AreAscending (scope_beginnings (marks_of_file f.untagged items))) where
  abbrev T : List CType
  T = types f

  abbrev U : ProgramData
  U = as_program (unit_of items f)

  holds : (n : ℕ) (o : AnObject) → slice_get f.objects n ≡ Some o → Holds o
  holds n o e = (objects_known f (length f.records) (records_ended items f h beginnings) (any_good f) items (tree_of_bytes bytes items tree) h beginnings n o e).0

  -- an object under its number has its type
  type_is : (n : ℕ) (o : AnObject) → slice_get f.objects n ≡ Some o → type_at T (number_in T o.ty) ≡ o.ty
  type_is n o e = (at_place (λ o. AllByRecursion (IsNumbered T) (object_types f o)) f.objects (objects_numbered items f h beginnings) n o e).0.1

  -- ---- string literals

  literal_said : (n : ℕ) (o : AnObject) → slice_get f.objects n ≡ Some o → IsLiteralObject o → IsPrintableObject U (Units.object f o)
  literal_said n o e l =
      subst (λ o. IsPrintableObject U (Units.object f o)) (sym l.1)
      (said l.0 o.place (subst Holds l.1 (holds n o e)) (subst (λ (o : AnObject). type_at T (number_in T o.ty) ≡ o.ty) l.1 (type_is n o e)))
    where
      said : (all : List Spelling) (place : Place) → Holds (literal_object place (literal_of all))
          → type_at T (number_in T (array (integer Char) (length (literal_of all)))) ≡ array (integer Char) (length (literal_of all))
          → IsLiteral U (Units.object f (literal_object place (literal_of all)))
      said all place b t =
          let r = front_of all in
          let held = b (Typed.parts (record { offset = 0; value = Typed.text (literal_of all) } ∷ [])) refl in
          let front = front_bytes r.0 (0 ∷ []) (subst AreBytes r.1 held.0) in
          let texts = ap (map (Units.initial f)) (append-nil (Units.of_text 0 (literal_of all))) ∙ texts_same f 0 (literal_of all) ∙ ap (of_text 0) r.1 in (
            r.0,
            refl,
            refl,
            t ∙ ap (array (integer Char)) (ap length r.1 ∙ length-append r.0 (0 ∷ [])),
            are_below r.0 front,
            ap Some texts,
          )
        where
          front_bytes : (u v : List ℕ) → AreBytes (u ++ v) → AreBytes u
          front_bytes [] v h = tt
          front_bytes (x ∷ u) v h = (h.0, front_bytes u v h.1)

  -- ---- other objects

  sourced_said : (n : ℕ) (o : AnObject) → slice_get f.objects n ≡ Some o → IsSourced (walk bytes items f tree h beginnings 0 0) o
      → IsPrintableObject U (Units.object f o)
  sourced_said n o e s =
      subst (λ l. IsObject U (is_some l) (Units.object f o)) (sym s.own)
      (subst (λ t. IsInitial U t (Units.object f o).initial) (sym (type_is n o e)) (by_initial o.initial refl))
    where
      of_filled : (i : Typed.Initializer Noted) → o.initial ≡ Some i → IsFilled (walk bytes items f tree h beginnings 0 0) o.ty i
          → IsInitial U o.ty (Some (map (Units.initial f) (of_initializer f (typed_initializer i))))
      of_filled i q (inl p) = inl (ap (λ i. map (Units.initial f) (of_initializer f (typed_initializer i))) p)
      of_filled i q (inr x) =
          let full = x.full in
          inr (initializer_named f (declared x.scope) x.types x.tree x.scope o.ty i full.made.0 x.well x.constants (holds n o e i q) x.erased)

      by_initial : (i : Option (Typed.Initializer Noted)) → o.initial ≡ i
          → IsInitial U o.ty (option_map (λ i. map (Units.initial f) (of_initializer f (typed_initializer i))) i)
      by_initial None q = tt
      by_initial (Some i) q = of_filled i q (s.filled i q)

  pub objects_said : All (IsPrintableObject U) (map (Units.object f) f.objects)
  objects_said =
      All-from_recursion (IsPrintableObject U) (map (Units.object f) f.objects) (each_mapped (IsPrintableObject U) (Units.object f) f.objects one)
    where
      one : (n : ℕ) (o : AnObject) → slice_get f.objects n ≡ Some o → IsPrintableObject U (Units.object f o)
      one n o e = by_kind (object_covered bytes items f tree h beginnings 0 0 n o e)
        where
          by_kind : IsCovered bytes items f tree h beginnings 0 0 n o → IsPrintableObject U (Units.object f o)
          by_kind (inl l) = literal_said n o e l
          by_kind (inr s) = sourced_said n o e s.0
