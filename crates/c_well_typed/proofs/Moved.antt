-- What is well typed stays so where it is moved to other numbers.
use Rattle.std.proofs.Common.{◌≡◌, ◌∙◌, ℕ, zero, suc, ◌<◌, Bool, true, false, refl, sym, ap, subst, List, [], ◌∷◌, ◌++◌, length, map, inl, inr}
use Rattle.std.proofs.lemmas.List.{map-append, length-map}
use Rattle.std.proofs.lemmas.List.Elements.{recursion_from_All, All-from_recursion}
use Rattle.std.specs.Prelude.{All, Option, Some, None, slice_get}
use Rattle.std.specs.List.{AllByRecursion}
use Rattle.std.specs.Option.{option_map}
use Rattle.c_types.specs.Limits.{AreComplete}
use Rattle.c_types.specs.Objects.{is_object}
use Rattle.c_types.specs.Types.{CType, CTypes, no_types, and_type}
use Rattle.c_types.specs.Views.{listed}
use Rattle.c_numbers.specs.TypeNumbers.Renumbered.{renumbered, all_renumbered}
use Rattle.c_typed.specs.declared.program.Local.{Local}
use Rattle.c_typed.specs.declared.program.Object.{Object}
use Rattle.c_typed.specs.Mapped.{Renaming, of_types, mapped_statement}
use Rattle.c_typed.specs.Programs.{FunctionData}
use Rattle.c_typed.specs.Trees as Trees
use Rattle.c_typed.specs.TypedStatements.{IsTypedStatement}
use Rattle.c_typed.specs.TypeNumbers.{type_at}
use Rattle.c_typed.specs.Walk.{types_in_statement}
use Rattle.c_numbers.specs.NewNumbers.Parts.{function_in, local_in, object_in}
use Rattle.c_link.proofs.Layouts.{lies_alike}
use Rattle.c_checking_laws.proofs.WholeFiles.CompleteObjects.{mapped_at}
use Rattle.c_well_typed.specs.Moves.{IsMove, KeepsTyping, MovesKeepTyping, over}
use Rattle.c_well_typed.specs.WellTyped.{Lists, count_up, declared_in, IsResult, AreScalars, HasBody, IsTypedFunction, HasObjectType}
use Rattle.c_well_typed.proofs.Composed as Composed
use Rattle.c_well_typed.proofs.Labels.{all_declared_mapped}
use Rattle.c_well_typed.proofs.Renumbered.{m, AreRenumbered}
use Rattle.c_well_typed.proofs.RenumberedParts.{fields_again, part_again}
use Rattle.c_well_typed.proofs.RenumberedStatements.{statement_again}
use Rattle.c_well_typed.proofs.RenumberedTypes.{scalar_same, types_listed}
use Rattle.c_well_typed.proofs.TypesMapped.{types_of_statement}

-- ---- lists

some_is : {A : Type 0} (x y : A) → Some x ≡ Some y → x ≡ y
some_is x y h = cc

unmapped_at : {A B : Type 0} (v : A → B) (xs : List A) (n : ℕ) (y : B) → slice_get (map v xs) n ≡ Some y → (x : A) × (slice_get xs n ≡ Some x) × (v x ≡ y)
unmapped_at v [] n y h = cc
unmapped_at v (x ∷ xs) zero y h = (x, refl, some_is (v x) y h)
unmapped_at v (x ∷ xs) (suc n) y h = unmapped_at v xs n y h

mapped_all : {A B : Type 0} (P : A → Type 0) (Q : B → Type 0) (v : A → B) (xs : List A) → ((x : A) → P x → Q (v x)) → AllByRecursion P xs
    → AllByRecursion Q (map v xs)
mapped_all P Q v [] f h = tt
mapped_all P Q v (x ∷ xs) f h = (f x h.0, mapped_all P Q v xs f h.1)

each_so : {A : Type 0} (P Q : A → Type 0) (xs : List A) → ((x : A) → P x → Q x) → AllByRecursion P xs → AllByRecursion Q xs
each_so P Q [] f h = tt
each_so P Q (x ∷ xs) f h = (f x h.0, each_so P Q xs f h.1)

always : {A : Type 0} (Q : A → Type 0) (xs : List A) → ((x : A) → Q x) → AllByRecursion Q xs
always Q [] f = tt
always Q (x ∷ xs) f = (f x, always Q xs f)

front : (P : Local → Type 0) (a b : List Local) → AllByRecursion P (a ++ b) → AllByRecursion P a
front P [] b r = tt
front P (x ∷ a) b r = (r.0, front P a b r.1)

module _ (move : Renaming ℕ ℕ) (from to : Lists) (complete : AreComplete from.records) (whole : AreComplete to.records) (is : IsMove move from to) where
  abbrev S : ℕ → ℕ
  S = move.structure

  abbrev R : CType → CType
  R t = renumbered S t

  abbrev Old : ℕ → CType
  Old i = type_at from.types i

  abbrev New : ℕ → CType
  New i = type_at to.types i

  abbrev Ranged : Local → Type 0
  Ranged x = x.ty < length from.types

  lies : (t : CType) → is_object (length from.records) t ≡ true → is_object (length to.records) (R t) ≡ true
  lies t o = (lies_alike S from.records to.records complete whole is.records t o).object

  -- ---- what is declared in a function

  locals_same : (all : List Local) → AllByRecursion Ranged all → map (λ x. New x.ty) (map (local_in move) all) ≡ map R (map (λ x. Old x.ty) all)
  locals_same [] r = refl
  locals_same (x ∷ all) r = rw ((is.types x.ty r.0).1, locals_same all r.1) refl

  module _ (g : FunctionData) (ranged : AllByRecursion Ranged (g.parameters ++ g.locals)) where
    abbrev G : FunctionData
    G = function_in move g

    all_same : map (λ x. New x.ty) (G.parameters ++ G.locals) ≡ map R (map (λ x. Old x.ty) (g.parameters ++ g.locals))
    all_same =
        ap (map (λ (x : Local). New x.ty)) (sym (map-append (local_in move) g.parameters g.locals)) ∙ locals_same (g.parameters ++ g.locals) ranged

    renumbers : AreRenumbered S move.object move.function (declared_in from g) (declared_in to G)
    renumbers = record {
      locals = λ n t e. ap (λ all. slice_get all n) all_same ∙ mapped_at R (map (λ (x : Local). Old x.ty) (g.parameters ++ g.locals)) n t e;
      objects = λ n t e.
          let z = unmapped_at (λ (o : Object). Old o.ty) from.objects n t e in
          let q = is.objects n z.0 z.1 in
          mapped_at (λ (o : Object). New o.ty) to.objects (move.object n) q.0 q.1 ∙ ap Some (q.2 ∙ ap R z.2);
      functions = λ n t e.
          let z = unmapped_at (λ (o : FunctionData). Old o.ty) from.functions n t e in
          let q = is.functions n z.0 z.1 in
          mapped_at (λ (o : FunctionData). New o.ty) to.functions (move.function n) q.0 q.1 ∙ ap Some (q.2 ∙ ap R z.2);
      fields = fields_again S from.records to.records complete whole is.records;
      complete = λ at t o. lies t o;
      whole = lies;
      parts = part_again S from.records to.records complete whole is.records;
    }

    -- ---- a statement

    -- the types for which its numbers stand, moved
    abbrev K : Renaming ℕ CType
    K = record { ty = λ i. R (Old i); object = move.object; function = move.function; structure = S }

    statement_same : (s : Trees.Statement ℕ) → All (λ i. i < length from.types) (types_in_statement s)
        → over to (mapped_statement move s) ≡ mapped_statement (m S move.object move.function) (over from s)
    statement_same s r =
        let own = recursion_from_All (λ i. i < length from.types) (types_in_statement s) r in
        Composed.of_statement move (of_types New) K (λ i. refl) (λ i. refl) (λ i. refl) s
        (each_so (λ i. i < length from.types) (λ i. New (move.ty i) ≡ R (Old i)) (types_in_statement s) (λ i l. (is.types i l).1) own)
        ∙ sym (Composed.of_statement (of_types Old) (m S move.object move.function) K (λ i. refl) (λ i. refl) (λ i. refl) s
        (always (λ i. R (Old i) ≡ R (Old i)) (types_in_statement s) (λ i. refl)))

    statement_moved : (result : CType) (loop switch : Bool) (s : Trees.Statement ℕ) → All (λ i. i < length from.types) (types_in_statement s)
        → IsTypedStatement (declared_in from g) result loop switch (over from s)
        → IsTypedStatement (declared_in to G) (R result) loop switch (over to (mapped_statement move s))
    statement_moved result loop switch s r h =
        subst (IsTypedStatement (declared_in to G) (R result) loop switch) (sym (statement_same s r))
        (statement_again S move.object move.function (declared_in from g) (declared_in to G) renumbers result (over from s) loop switch h)

    -- ---- a function

    body_ranged : (body : Trees.Statement ℕ) → All (λ i. i < length from.types) (types_in_statement body)
        → All (λ i. i < length to.types) (types_in_statement (mapped_statement move body))
    body_ranged body r =
        subst (All (λ i. i < length to.types)) (sym (types_of_statement move body))
        (All-from_recursion (λ i. i < length to.types) (map move.ty (types_in_statement body))
        (mapped_all (λ i. i < length from.types) (λ i. i < length to.types) move.ty (types_in_statement body) (λ i l. (is.types i l).0)
        (recursion_from_All (λ i. i < length from.types) (types_in_statement body) r)))

    result_moved : (t : CType) → IsResult t → IsResult (R t)
    result_moved t (inl h) = inl (scalar_same S t ∙ h)
    result_moved t (inr h) = inr (ap R h)

    scalars_moved : (all : CTypes) → AreScalars all → AreScalars (all_renumbered S all)
    scalars_moved no_types h = h
    scalars_moved (and_type t more) h = (scalar_same S t ∙ h.0, scalars_moved more h.1)

    body_moved : (result : CType) (parameters : CTypes) (b : Option (Trees.Statement ℕ)) → HasBody from g result parameters b
        → HasBody to G (R result) (all_renumbered S parameters) (option_map (mapped_statement move) b)
    body_moved result parameters None b = (ap (map (local_in move)) b.0, ap (map (local_in move)) b.1)
    body_moved result parameters (Some body) b = (
      result_moved result b.0,
      scalars_moved parameters b.1,
      ap listed (locals_same g.parameters (front Ranged g.parameters g.locals ranged)) ∙ types_listed S (map (λ x. Old x.ty) g.parameters)
          ∙ ap (all_renumbered S) b.2,
      (
        body_ranged body b.3.0,
        statement_moved result false false body b.3.0 b.3.1,
        all_declared_mapped move body ∙ b.3.2
            ∙ ap (λ n. count_up n (length g.locals)) (sym (length-map g.parameters (local_in move)))
            ∙ ap (count_up (length G.parameters)) (sym (length-map g.locals (local_in move))),
      ),
    )

  function_moved : (g : FunctionData) → IsTypedFunction from g → IsTypedFunction to (function_in move g)
  function_moved g t =
      let own = is.types g.ty t.2 in
      let ranged = recursion_from_All Ranged (g.parameters ++ g.locals) t.4 in
      let New_ranged : Local → Type 0 = λ x. x.ty < length to.types in (
        R t.0,
        all_renumbered S t.1,
        own.0,
        own.1 ∙ ap R t.3,
        subst (All New_ranged) (map-append (local_in move) g.parameters g.locals)
            (All-from_recursion New_ranged (map (local_in move) (g.parameters ++ g.locals))
            (mapped_all Ranged New_ranged (local_in move) (g.parameters ++ g.locals) (λ x l. (is.types x.ty l).0) ranged)),
        body_moved g ranged t.0 t.1 g.body t.5,
      )

  object_moved : (o : Object) → HasObjectType from o → HasObjectType to (object_in move o)
  object_moved o h =
      let own = is.types o.ty h.0 in
      (own.0, subst (λ t. is_object (length to.records) t ≡ true) (sym own.1) (lies (Old o.ty) h.1))

  pub keeps_typing : KeepsTyping move from to
  keeps_typing = record {
    statement = λ g result loop switch s ranged types h. statement_moved g (recursion_from_All Ranged (g.parameters ++ g.locals) ranged) result loop switch s types h;
    function = function_moved;
    object = object_moved;
  }

pub moves_keep_typing : MovesKeepTyping
moves_keep_typing move from to complete whole is = keeps_typing move from to complete whole is
