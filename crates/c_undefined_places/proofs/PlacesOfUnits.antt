-- The bodies of the functions of a file's unit stand at places of its text: those of the tokens of the file.
use Rattle.std.proofs.Common.{◌≡◌, ◌∙◌, ℕ, suc, ◌+◌, ◌≤◌, false, refl, sym, subst, List, [], ◌∷◌, ◌++◌, length, map, inl, inr, Some, None, arith}
use Rattle.std.proofs.Common.{append_assoc, length-append}
use Rattle.std.specs.Prelude.{◌⊎◌, Option, IfSome, slice_get}
use Rattle.std.specs.List.{AllByRecursion}
use Rattle.std.specs.Option.{option_map}
use Rattle.lay_base.specs.declared.place.File.{File}
use Rattle.lay_base.specs.declared.place.Place.{Place}
use Rattle.c_types.specs.Types.{CType}
use Rattle.c_tokens.specs.TokenPlaces.{IsPlaceIn, TokensHavePlaces, IsPlaceOf}
use Rattle.c_ast.specs.Spelling.{Lexeme, spell, spelled_block_items, spelled_items}
use Rattle.c_ast.specs.Trees
use Rattle.c_typed.specs.Mapped.{Renaming, of_types, mapped_statement, mapped_statements}
use Rattle.c_typed.specs.Programs.{FunctionData, UnitData}
use Rattle.c_typed.specs.Trees as Typed
use Rattle.c_typed.specs.TypedStatements.{AreTyped}
use Rattle.c_erasure.specs.Files.{AreAscending, IsFileOf, in_body, without_notes, IsBody}
use Rattle.c_erasure.specs.Marks.{marks_of_file, scope_beginnings}
use Rattle.c_erasure.specs.Noted.{Noted}
use Rattle.c_erasure.specs.Scopes.{AFunction, Bound, FileScope, declared, ended}
use Rattle.c_erasure.specs.Units as Units
use Rattle.c_erasure.specs.Units.{recognised_statement, number_in, types}
use Rattle.c_erasure.proofs.MarkPlaces.Ordered.{marks_are_in_order}
use Rattle.c_checking_units.proofs.FaultPlaces.Blocks.{item_behind}
use Rattle.c_checking_units.proofs.FaultPlaces.Texts.{beginning, tokens_of}
use Rattle.c_checking_units.proofs.FaultPlaces.Tokens.{Tokens, back, declarator_behind, specifiers_behind}
use Rattle.c_link.specs.Programs.{IsUnitOfFile, AreUnitsOf}
use Rattle.c_well_typed.proofs.GapPlaces.Everywhere.{each_of, behind}
use Rattle.c_well_typed.proofs.UnitFunctions.{records_ended}
use Rattle.c_well_typed.proofs.ItemFunctions.{HoldsIn, function_holds}
use Rattle.c_undefined_places.specs.Placed.{IsPlacedStatement}
use Rattle.c_undefined_places.proofs.ErasedStatements.{items_loose}
use Rattle.c_undefined_places.proofs.Loose.{statements_settled}
use Rattle.c_undefined_places.proofs.Moved.{statement_again}
use Rattle.c_undefined_places.proofs.Recognised.{recognised_placed}

abbrev pub HasPlacedBody : (Place → Type 0) → FunctionData → Type 0
HasPlacedBody Is g = IfSome g.body (IsPlacedStatement Is)

-- ---- lists

each_so : {A : Type 0} (Q R : A → Type 0) (all : List A) → ((x : A) → Q x → R x) → AllByRecursion Q all → AllByRecursion R all
each_so Q R [] f h = tt
each_so Q R (x ∷ all) f h = (f x h.0, each_so Q R all f h.1)

pub each_place : {A : Type 0} (Q : A → Type 0) (all : List A) → ((n : ℕ) (x : A) → slice_get all n ≡ Some x → Q x) → AllByRecursion Q all
each_place Q [] f = tt
each_place Q (x ∷ all) f = (f 0 x refl, each_place Q all (λ n y e. f (suc n) y e))

without_notes_is : (all : Typed.Statements Noted) → without_notes all ≡ mapped_statements (of_types (λ t. t.ty)) all
without_notes_is Typed.no_statements = refl
without_notes_is (Typed.and_statement s more) = rw (without_notes_is more) refl

-- ---- a file

module _ (Is : Place → Type 0) (number : ℕ) (zero_is : Is (record { file = number; at = 0 })) (items : List Trees.Item) (f : FileScope)
    (here : f.file ≡ number) (h : IsFileOf items f) (beginnings : AreAscending (scope_beginnings (marks_of_file f.untagged items))) where
  abbrev P : ℕ → Type 0
  P at = Is (record { file = number; at = at })

  abbrev less : (at : ℕ) → ended f.ends at ≤ length f.records
  less = records_ended items f h beginnings

  abbrev Holds : AFunction → Type 0
  Holds g = IfSome g.body (IsPlacedStatement Is)

  body_holds : (inner : Trees.BlockItems) (rest : List Lexeme) (result : CType) (bounds : List Bound) (g : AFunction)
      → Tokens P (spelled_block_items inner rest) → IsBody f result bounds g inner → Holds g
  body_holds inner rest result bounds g k b =
      let s = in_body f bounds (g.parameters ++ g.locals) in
      let typed = subst (AreTyped (declared s) result false false) (without_notes_is b.0) b.3 in
      let placed = statements_settled (declared s) Is result b.0 false false typed (items_loose Is number zero_is inner s b.0 rest here k b.2) in
      subst (λ body. IfSome body (IsPlacedStatement Is)) (sym b.1) placed

  items_hold : (all : List Trees.Item) (rest : List Lexeme) → Tokens P (spelled_items all rest) → AllByRecursion (HoldsIn f (length f.records) less Holds) all
  items_hold [] rest k = tt
  items_hold (Trees.declaration d ∷ all) rest k = (tt, items_hold all rest (item_behind P (λ at. []) (Trees.declaration d) k).tokens)
  items_hold (Trees.defines specs d left inner right ∷ all) rest k =
      let own = back (declarator_behind P (λ at. []) d (specifiers_behind P (λ at. []) specs k).tokens).tokens in
      (λ result bounds g b. body_holds inner _ result bounds g own b, items_hold all rest (item_behind P (λ at. []) (Trees.defines specs d left inner right) k).tokens)

  -- ---- its unit

  abbrev numbers : Renaming Noted ℕ
  numbers = of_types (λ t. number_in (types f) t.ty)

  again : (body : Option (Typed.Statement Noted)) → IfSome body (IsPlacedStatement Is)
      → IfSome (option_map (λ s. mapped_statement numbers (recognised_statement s)) body) (IsPlacedStatement Is)
  again None k = tt
  again (Some s) k = statement_again numbers Is (recognised_statement s) (recognised_placed Is s k)

  either_holds : (g : AFunction) → (g.body ≡ None) ⊎ Holds g → Holds g
  either_holds g (inl e) = subst (λ body. IfSome body (IsPlacedStatement Is)) (sym e) tt
  either_holds g (inr k) = k

  pub functions_placed : Tokens P (spell items) → AllByRecursion (HasPlacedBody Is) (map (Units.function f) f.functions)
  functions_placed k =
      let each = items_hold items [] k in
      let known = each_place Holds f.functions
      (λ n g e. either_holds g (function_holds f (length f.records) less Holds items each h beginnings n g e)) in
      each_of (HasPlacedBody Is) Holds (Units.function f) f.functions (λ g q. again g.body q) known

-- ---- the units of files

abbrev pub AreFunctionsPlaced : (Place → Type 0) → UnitData → Type 0
AreFunctionsPlaced Is u = AllByRecursion (HasPlacedBody Is) u.functions

module _ (places : TokensHavePlaces) where
  unit_placed : (Is : Place → Type 0) (number : ℕ) (file : File) (u : UnitData) → IsUnitOfFile number file u
      → ((at : ℕ) → IsPlaceIn file.bytes at → Is (record { file = number; at = at })) → AreFunctionsPlaced Is u
  unit_placed Is number file u own is =
      let f = own.erases.annotated in
      let beginnings = (marks_are_in_order places).beginnings file.bytes own.items f.untagged own.tree in
      let tokens = (tokens_of places file.bytes own.items own.tree).each in
      let here : Tokens (λ at. Is (record { file = number; at = at })) (spell own.items) =
      record {
        each = each_so (λ (t : Lexeme). IsPlaceIn file.bytes t.from) (λ (t : Lexeme). Is (record { file = number; at = t.from })) (spell own.items)
            (λ t p. is t.from p) tokens;
      } in
      subst (AreFunctionsPlaced Is) (sym own.erases.unit)
      (functions_placed Is number (is 0 (beginning file.bytes)) own.items f own.erases.number own.erases.of_tree beginnings here)

  -- of the units of the files behind others
  units_placed : (all passed files : List File) (units : List UnitData) → all ≡ passed ++ files → AreUnitsOf (length passed) files units
      → AllByRecursion (AreFunctionsPlaced (IsPlaceOf all)) units
  units_placed all passed [] units e h = subst (AllByRecursion (AreFunctionsPlaced (IsPlaceOf all))) (sym h) tt
  units_placed all passed (file ∷ more) units e h =
      let here : slice_get all (length passed) ≡ Some file =
      subst (λ all. slice_get all (length passed) ≡ Some file) (sym e) (behind passed file more) in
      let own = unit_placed (IsPlaceOf all) (length passed) file h.0 h.3 (λ at p. (file, here, p)) in
      let next : length passed + 1 ≡ length (passed ++ file ∷ []) = omega (arith, length-append passed (file ∷ [])) in
      let rest = units_placed all (passed ++ file ∷ []) more h.1 (e ∙ sym (append_assoc passed (file ∷ []) more))
      (subst (λ n. AreUnitsOf n more h.1) next h.4) in
      subst (AllByRecursion (AreFunctionsPlaced (IsPlaceOf all))) (sym h.2) (own, rest)

  pub each_unit_placed : (files : List File) (units : List UnitData) → AreUnitsOf 0 files units → AllByRecursion (AreFunctionsPlaced (IsPlaceOf files)) units
  each_unit_placed files units h = units_placed files [] files units refl h
