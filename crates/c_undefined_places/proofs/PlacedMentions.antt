-- The mentions of the unit of a file stand at places of its text: those of the tokens of its declarators, and of the initializers of its objects.
use Rattle.std.proofs.Common.{◌≡◌, ◌∙◌, ℕ, suc, ◌+◌, refl, sym, subst, List, [], ◌∷◌, ◌++◌, length, flat_map, filter, Some, None, arith}
use Rattle.std.proofs.Common.{append_assoc, length-append}
use Rattle.std.specs.Prelude.{Option, not, slice_get}
use Rattle.std.specs.List.{AllByRecursion}
use Rattle.std.specs.Option.{option_map}
use Rattle.lay_base.specs.declared.place.File.{File}
use Rattle.lay_base.specs.declared.place.Place.{Place}
use Rattle.c_tokens.specs.TokenPlaces.{IsPlaceIn, TokensHavePlaces, IsPlaceOf}
use Rattle.c_types.specs.Types.{CType}
use Rattle.c_ast.specs.Laws.{TreesBeginFirst}
use Rattle.c_ast.specs.Spelling.{Lexeme, spell}
use Rattle.c_ast.specs.Trees
use Rattle.c_typed.specs.declared.program.Mention.{Mention}
use Rattle.c_typed.specs.Mapped.{of_types}
use Rattle.c_typed.specs.Programs.{UnitData}
use Rattle.c_typed.specs.Trees as Typed
use Rattle.c_erasure.specs.Files.{AreAscending, IsFileOf, IsTypedObject}
use Rattle.c_erasure.specs.InitialMentions.{told_by_initial}
use Rattle.c_erasure.specs.Marks.{marks_of_file, scope_beginnings}
use Rattle.c_erasure.specs.Noted.{Noted}
use Rattle.c_erasure.specs.Scopes.{AMention, AnObject, FileScope, Scope, at_file_scope, declared}
use Rattle.c_erasure.specs.Units as Units
use Rattle.c_erasure.specs.Units.{is_size_operand, recognised_initializer, typed_initializer}
use Rattle.c_erasure.proofs.MarkPlaces.Ordered.{marks_are_in_order}
use Rattle.c_checking_laws.specs.TextOrder.TextOrder.{TextsAreInOrder}
use Rattle.c_checking_units.proofs.FaultPlaces.Texts.{beginning, tokens_of}
use Rattle.c_link.specs.Programs.{IsUnitOfFile, AreUnitsOf}
use Rattle.c_well_typed.proofs.FileObjects.{objects_known}
use Rattle.c_well_typed.proofs.GapPlaces.Everywhere.{both, each_of, kept, behind}
use Rattle.c_well_typed.proofs.GapPlaces.PlacesOfUnits.{unit_at}
use Rattle.c_well_typed.proofs.LiteralObjects.{AreGood}
use Rattle.c_well_typed.proofs.TokenBytes.{AreOfBytes, at_places, tree_of_bytes}
use Rattle.c_well_typed.proofs.UnitFunctions.{records_ended}
use Rattle.c_undefined_places.specs.Placed.{IsPlacedInitial}
use Rattle.c_undefined_places.proofs.ErasedStatements.{constants_loose}
use Rattle.c_undefined_places.proofs.Loose.{IsLooseInitializer, initial_settled}
use Rattle.c_undefined_places.proofs.Moved as Moved
use Rattle.c_undefined_places.proofs.PlacedOutside.{MentionsArePlaced}
use Rattle.c_undefined_places.proofs.PlacedTold.{ByByte, by_initial}
use Rattle.c_undefined_places.proofs.Recognised as Recognised

-- the places of tokens, of those that have bytes
tokens_at : (P : ℕ → Type 0) (tokens : List Lexeme) → AreOfBytes P tokens → AllByRecursion (λ t. P t.from) tokens
tokens_at P [] h = tt
tokens_at P (t ∷ tokens) h = (h.0.1, tokens_at P tokens h.1)

each_object : {A B : Type 0} (Q : B → Type 0) (f : A → List B) (all : List A)
    → ((n : ℕ) (x : A) → slice_get all n ≡ Some x → AllByRecursion Q (f x)) → AllByRecursion Q (flat_map f all)
each_object Q f [] h = tt
each_object Q f (x ∷ all) h = both Q (f x) (flat_map f all) (h 0 x refl) (each_object Q f all (λ n y e. h (suc n) y e))

module _ (P : ℕ → Type 0) (begin : P 0) (items : List Trees.Item) (f : FileScope) (h : IsFileOf items f)
    (beginnings : AreAscending (scope_beginnings (marks_of_file f.untagged items))) (tokens : AreOfBytes P (spell items)) where
  abbrev Is : Place → Type 0
  Is = ByByte P

  -- what is written stands at such places, but for implicit conversions
  good : AreGood P (IsLooseInitializer Is) (λ t. Unit {0}) f
  good = record {
    of_text = λ bytes. (tt, tt);
    of_zero = tt;
    of_value = λ value s t i rest full b k. constants_loose Is f.file begin value s t i rest (here s full.0) (record { each = tokens_at P _ b }) k;
    literal_fits = λ n. tt;
    local_fits = λ s base d x t full v. tt;
    object_fits = λ t place m. tt;
  }
    where
      here : (s : Scope) → s.file ≡ f → s.file.file ≡ f.file
      here s e = subst (λ (g : FileScope). g.file ≡ f.file) (sym e) refl

  -- ... and with these
  settled : (t : CType) (i : Typed.Initializer Noted) → IsTypedObject f t i → IsLooseInitializer Is i → IsPlacedInitial Is (Some i)
  settled t (Typed.parts []) k l = tt
  settled t (Typed.parts (part ∷ all)) k l = initial_settled (declared (at_file_scope f)) Is (Some (Typed.parts (part ∷ all))) t k l
  settled t (Typed.whole e) k l = initial_settled (declared (at_file_scope f)) Is (Some (Typed.whole e)) t k l
  settled t (Typed.whole_record p) k l = initial_settled (declared (at_file_scope f)) Is (Some (Typed.whole_record p)) t k l

  object_told : (n : ℕ) (o : AnObject) → slice_get f.objects n ≡ Some o
      → AllByRecursion (λ m. P m.at) (told_by_initial (option_map typed_initializer o.initial))
  object_told n o e = by_value o.initial refl
    where
      by_value : (v : Option (Typed.Initializer Noted)) → o.initial ≡ v → AllByRecursion (λ m. P m.at) (told_by_initial (option_map typed_initializer v))
      by_value None q = tt
      by_value (Some i) q =
          let known = objects_known f (length f.records) (records_ended items f h beginnings) good items tokens h beginnings n o e in
          let own = settled o.ty i (h.initialized n o i e q) (known.2 i q) in
          let again = Recognised.initial_again Is (Some i) own in
          (by_initial P (Some (typed_initializer i)) (Moved.initial_again (of_types (λ (t : Noted). t.ty)) Is (Some (recognised_initializer i)) again)).each

  pub all_told : AllByRecursion (λ m. P m.at) f.mentions → AllByRecursion (λ m. P m.at) (Units.mentions f)
  all_told k =
      both (λ (m : AMention). P m.at) (filter (λ m. not (is_size_operand f m)) f.mentions)
      (flat_map (λ o. told_by_initial (option_map typed_initializer o.initial)) f.objects)
      (kept (λ (m : AMention). P m.at) (λ m. not (is_size_operand f m)) f.mentions k)
      (each_object (λ (m : AMention). P m.at) (λ o. told_by_initial (option_map typed_initializer o.initial)) f.objects object_told)

-- ---- the units of files

module _ (places : TokensHavePlaces) (first : TreesBeginFirst) (texts : TextsAreInOrder) where
  unit_placed : (Is : Place → Type 0) (number : ℕ) (file : File) (u : UnitData) → IsUnitOfFile number file u
      → ((at : ℕ) → IsPlaceIn file.bytes at → Is (record { file = number; at = at })) → MentionsArePlaced Is u
  unit_placed Is number file u own is =
      let f = own.erases.annotated in
      let P = IsPlaceIn file.bytes in
      let beginnings = (marks_are_in_order places).beginnings file.bytes own.items f.untagged own.tree in
      let tokens = at_places P (spell own.items) (tree_of_bytes file.bytes own.items own.tree) (tokens_of places file.bytes own.items own.tree).each in
      let listed = (unit_at places first texts number file u own).mentions in
      let all = all_told P (beginning file.bytes) own.items f own.erases.of_tree beginnings tokens listed in
      subst (MentionsArePlaced Is) (sym own.erases.unit)
      (each_of (λ (m : Mention). Is m.place) (λ (m : AMention). P m.at) (Units.mention f) (Units.mentions f)
      (λ m p. subst (λ n. Is (record { file = n; at = m.at })) (sym own.erases.number) (is m.at p)) all)

  -- of the units of the files behind others
  units_placed : (all passed files : List File) (units : List UnitData) → all ≡ passed ++ files → AreUnitsOf (length passed) files units
      → AllByRecursion (MentionsArePlaced (IsPlaceOf all)) units
  units_placed all passed [] units e h = subst (AllByRecursion (MentionsArePlaced (IsPlaceOf all))) (sym h) tt
  units_placed all passed (file ∷ more) units e h =
      let here : slice_get all (length passed) ≡ Some file =
      subst (λ all. slice_get all (length passed) ≡ Some file) (sym e) (behind passed file more) in
      let own = unit_placed (IsPlaceOf all) (length passed) file h.0 h.3 (λ at p. (file, here, p)) in
      let next : length passed + 1 ≡ length (passed ++ file ∷ []) = omega (arith, length-append passed (file ∷ [])) in
      let rest = units_placed all (passed ++ file ∷ []) more h.1 (e ∙ sym (append_assoc passed (file ∷ []) more))
      (subst (λ n. AreUnitsOf n more h.1) next h.4) in
      subst (AllByRecursion (MentionsArePlaced (IsPlaceOf all))) (sym h.2) (own, rest)

  pub each_unit_told : (files : List File) (units : List UnitData) → AreUnitsOf 0 files units → AllByRecursion (MentionsArePlaced (IsPlaceOf files)) units
  each_unit_told files units h = units_placed files [] files units refl h
