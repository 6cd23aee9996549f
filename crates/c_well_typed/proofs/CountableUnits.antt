-- The unit of a file can be counted.
use Rattle.std.proofs.Common.{◌≡◌, ◌∙◌, ℕ, ◌<◌, true, refl, sym, ap, subst, List, [], ◌∷◌, ◌++◌, length}
use Rattle.std.proofs.lemmas.List.Elements.{recursion_from_All, All-from_recursion, All-get_or, All-nil}
use Rattle.std.proofs.lemmas.Option.{unwrap_or-slice_get}
use Rattle.std.specs.Prelude.{All, Option, Some, None}
use Rattle.std.specs.List.{AllByRecursion}
use Rattle.c_types.specs.Objects.{is_object}
use Rattle.c_types.specs.Types.{void}
use Rattle.c_typed.specs.declared.program.Local.{Local}
use Rattle.c_typed.specs.declared.program.Object.{Object}
use Rattle.c_typed.specs.Programs.{FunctionData, UnitData}
use Rattle.c_typed.specs.Trees as Trees
use Rattle.c_typed.specs.TypeNumbers.{type_at}
use Rattle.c_link.specs.Counting.{IsCountable, IsMeasured, type_of_unit}
use Rattle.c_well_typed.specs.CountableUnits.{UnitsAreCountable}
use Rattle.c_well_typed.specs.Laws.{UnitsHaveTypedFunctions}
use Rattle.c_well_typed.specs.WellTyped.{of_unit, HasBody, HasObjectType, HaveTypedFunctions, IsSmallType, IsTypedFunction}
use Rattle.c_well_typed.proofs.CompleteLocals.{locals_complete}

each_so : {A : Type 0} (P Q : A → Type 0) (xs : List A) → ((x : A) → P x → Q x) → AllByRecursion P xs → AllByRecursion Q xs
each_so P Q [] f h = tt
each_so P Q (x ∷ xs) f h = (f x h.0, each_so P Q xs f h.1)

every : {A : Type 0} (P Q : A → Type 0) (xs : List A) → ((x : A) → P x → Q x) → All P xs → All Q xs
every P Q xs f h = All-from_recursion Q xs (each_so P Q xs f (recursion_from_All P xs h))

both_so : {A : Type 0} (P Q R : A → Type 0) (xs : List A) → ((x : A) → P x → Q x → R x) → AllByRecursion P xs → AllByRecursion Q xs → AllByRecursion R xs
both_so P Q R [] f h k = tt
both_so P Q R (x ∷ xs) f h k = (f x h.0 k.0, both_so P Q R xs f h.1 k.1)

module _ (u : UnitData) (typed : HaveTypedFunctions (of_unit u)) (small : All (IsSmallType (of_unit u)) u.types) where
  abbrev IsWhole : ℕ → Type 0
  IsWhole i = is_object (length u.records) (type_at u.types i) ≡ true

  measured : (i : ℕ) → i < length u.types → IsWhole i → IsMeasured u.records (type_of_unit u i)
  measured i l w = record {
    complete = subst (λ t. is_object (length u.records) t ≡ true) (unwrap_or-slice_get u.types i void) w;
    small = All-get_or (IsSmallType (of_unit u)) u.types i void l small;
  }

  abbrev OfLocal : Local → Type 0
  OfLocal x = IsMeasured u.records (type_of_unit u x.ty)

  abbrev OfLocals : FunctionData → Type 0
  OfLocals f = All OfLocal (f.parameters ++ f.locals)

  locals_measured : (f : FunctionData) → IsTypedFunction (of_unit u) f → OfLocals f
  locals_measured f h = by_body f.body refl
    where
      by_body : (b : Option (Trees.Statement ℕ)) → f.body ≡ b → OfLocals f
      by_body None e =
          let k = subst (HasBody (of_unit u) f h.0 h.1) e h.5 in
          subst (All OfLocal) (sym (ap (λ all. all ++ f.locals) k.0 ∙ k.1)) (All-nil OfLocal)
      by_body (Some body) e =
          let whole = locals_complete (of_unit u) f body h e in
          All-from_recursion OfLocal (f.parameters ++ f.locals)
          (both_so (λ (x : Local). x.ty < length u.types) (λ (x : Local). IsWhole x.ty) OfLocal (f.parameters ++ f.locals) (λ x l w. measured x.ty l w)
          (recursion_from_All (λ (x : Local). x.ty < length u.types) (f.parameters ++ f.locals) h.4)
          (recursion_from_All (λ (x : Local). IsWhole x.ty) (f.parameters ++ f.locals) whole))

  pub countable : IsCountable u
  countable = record {
    records = typed.records;
    objects = every (HasObjectType (of_unit u)) (λ (o : Object). IsMeasured u.records (type_of_unit u o.ty)) u.objects (λ o h. measured o.ty h.0 h.1) typed.object_types;
    locals = every (IsTypedFunction (of_unit u)) OfLocals u.functions locals_measured typed.functions;
  }

pub units_countable : UnitsHaveTypedFunctions → UnitsAreCountable
units_countable law file name bytes items u tree e =
    let h = law file name bytes items u tree e in
    countable u h.0 h.1
