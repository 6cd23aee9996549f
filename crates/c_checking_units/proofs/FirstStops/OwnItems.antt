-- The items of a file bind a name of the library to no function of the file (own).
use Rattle.std.proofs.Common.{◌≡◌, ℕ, ◌+◌, ◌<◌, Bool, true, false, sym, ◌∙◌, subst, List, [], ◌∷◌, ◌++◌, length}
use Rattle.std.proofs.Common.{append-nil, arith}
use Rattle.std.specs.Prelude.{Some, Ok, slice_get, ◌&&◌, not}
use Rattle.c_types.specs.Types.{CType}
use Rattle.c_ast.specs.declared.words.Spelling.{Spelling}
use Rattle.c_ast.specs.Trees
use Rattle.c_ast.specs.Places.{first_specifiers}
use Rattle.c_erasure.specs.Declarators.{declared_name}
use Rattle.c_erasure.specs.Erasure.{IsBase, IsOne}
use Rattle.c_erasure.specs.Files.{may_stand_in_file, declares_tag}
use Rattle.c_erasure.specs.Literals.{literals_of_value}
use Rattle.c_erasure.specs.Marks.{marks_of_specifiers, marks_of_declarators, name_from, after_declarator, ends_in, scope_beginnings}
use Rattle.c_erasure.specs.Scopes.{FileScope, at_file_scope}
use Rattle.c_erasure.specs.Specifiers.{Storage, storage_of}
use Rattle.c_erasure.specs.Checking.Declaring.{base_kind}
use Rattle.c_erasure.specs.Checking.Files.{declarator_named, file_declarators, file_declaration, is_empty, item_nodes, filed_item}
use Rattle.c_erasure.specs.Checking.Finding.{base_type, one_of}
use Rattle.c_checking_laws.proofs.FaultPremises.{left, right}
use Rattle.c_checking_laws.proofs.Growth.{grow_base}
use Rattle.c_checking_laws.proofs.Results.{bound_ok, given, chosen, only_if}
use Rattle.c_checking_laws.proofs.Sound.{sound_base}
use Rattle.c_checking_laws.proofs.WholeFiles.Keeping.{keep_base}
use Rattle.c_checking_laws.specs.TextOrder.TextOrder.{names_of_declarators}
use Rattle.c_checking_laws.proofs.WholeFiles.DeclarationItems.{AreDeclaratorsFit}
use Rattle.c_checking_laws.proofs.WholeFiles.DeclaratorSteps.{declarator_step}
use Rattle.c_checking_laws.proofs.WholeFiles.Known.{IsKnown, none_new}
use Rattle.c_checking_laws.proofs.WholeFiles.Rises.{passed, below_then, part_of}
use Rattle.c_checking_laws.proofs.WholeFiles.Stepping.{found_step}
use Rattle.c_checking_units.proofs.FirstStops.DeclaratorsStop.{AreTimely, MayStopAll, one_stop, rest_may}
use Rattle.c_checking_units.proofs.FirstStops.FileDeclarations.{MayStopDeclaration}
use Rattle.c_checking_units.proofs.FirstStops.ItemStops.{MayStopItem}
use Rattle.c_checking_units.proofs.FirstStops.OwnDefinitions.{definition_own}
use Rattle.c_checking_units.proofs.FirstStops.OwnFunctions.{own_enumerators}
use Rattle.c_checking_units.proofs.FirstStops.Tests.{AreOwnFunctions}

module _ (untagged : ℕ → List ℕ) (types : List (List ℕ)) (nodes_at : ℕ → ℕ) (ends : List ℕ) where
  module _ (words : Storage) (stands : may_stand_in_file words ≡ true) (base : CType) (semicolon nodes : ℕ) where
    none_own : (f g : FileScope) → AreOwnFunctions f.names → file_declarators [] f words base semicolon nodes ≡ Ok g → AreOwnFunctions g.names
    unfolding file_declarators
    none_own f g own h = given (λ (g : FileScope). AreOwnFunctions g.names) f g h own

    split : (f : FileScope) (d : Trees.InitDeclarator) (more : List Trees.InitDeclarator) (x : Spelling) → declared_name d.declarator ≡ Some x
        → (g : FileScope) → file_declarators (d ∷ more) f words base semicolon nodes ≡ Ok g
        → (m : FileScope) × (declarator_named f words base d (name_from d.value (after_declarator more semicolon)) nodes (Some x) ≡ Ok m)
        × (file_declarators more m words base semicolon nodes ≡ Ok g)
    unfolding file_declarators
    split f d more x name g h =
        let m = bound_ok (declarator_named f words base d (name_from d.value (after_declarator more semicolon)) nodes (declared_name d.declarator)) _ g h in
        (m.0, subst (λ o. declarator_named f words base d (name_from d.value (after_declarator more semicolon)) nodes o ≡ Ok m.0) name m.1, m.2)

    abbrev GoesOn : List Trees.InitDeclarator → FileScope → FileScope → Type 0
    GoesOn more m g = (before : List ℕ) (at in_scope : ℕ) → MayStopAll untagged types nodes_at ends m more false semicolon nodes at in_scope
        → IsKnown nodes_at before none_new none_new m → AreOwnFunctions g.names

    one_own : (before : List ℕ) (f : FileScope) (d : Trees.InitDeclarator) (more : List Trees.InitDeclarator) (lead : Bool) (at in_scope : ℕ)
        → MayStopAll untagged types nodes_at ends f (d ∷ more) lead semicolon nodes at in_scope → IsKnown nodes_at before none_new none_new f
        → (x : Spelling) → declared_name d.declarator ≡ Some x → (m : FileScope)
        → declarator_named f words base d (name_from d.value (after_declarator more semicolon)) nodes (Some x) ≡ Ok m → (g : FileScope)
        → GoesOn more m g → AreOwnFunctions g.names
    one_own before f d more lead at in_scope may k x name m e g next =
        let s = declarator_step untagged types nodes_at before f words stands base d x (name_from d.value (after_declarator more semicolon)) nodes
        (one_stop untagged types nodes_at ends words stands base semicolon nodes f d more lead at in_scope x name may).may k m e in
        let o = rest_may untagged types nodes_at ends words stands base semicolon nodes before f d more lead at in_scope x name may m e s k in
        next (before ++ literals_of_value d.value) o.0 o.1 o.2 (s.known before k)

    pub declarators_own : (all : List Trees.InitDeclarator) (before : List ℕ) (f : FileScope) (lead : Bool) (at in_scope : ℕ)
        → MayStopAll untagged types nodes_at ends f all lead semicolon nodes at in_scope → IsKnown nodes_at before none_new none_new f → (g : FileScope)
        → file_declarators all f words base semicolon nodes ≡ Ok g → AreOwnFunctions g.names
    declarators_own [] before f lead at in_scope may k g h = none_own f g may.own_functions h
    declarators_own (d ∷ more) before f lead at in_scope may k g h =
        let m = split f d more may.timely.1.0 may.timely.1.1 g h in
        one_own before f d more lead at in_scope may k may.timely.1.0 may.timely.1.1 m.0 m.1 g
        (λ before at in_scope may k. declarators_own more before m.0 false at in_scope may k g m.2)

  pub declaration_own : (before : List ℕ) (d : Trees.Declaration) (f : FileScope) (nodes at in_scope : ℕ)
      → MayStopDeclaration untagged types nodes_at ends f d nodes at in_scope → IsKnown nodes_at before none_new none_new f → (g : FileScope)
      → file_declaration d f nodes ≡ Ok g → AreOwnFunctions g.names
  declaration_own before d f nodes at in_scope may k g h =
      let u = marks_of_specifiers untagged d.specs in
      let w = marks_of_declarators untagged d.all d.semicolon in
      let from = first_specifiers d.specs in
      let s = at_file_scope f in
      let m = may.may in
      let stands = only_if (may_stand_in_file (storage_of d.specs)) _ _ _ g h in
      let c = bound_ok (base_type (base_kind d.specs) from f (one_of d.specs s)) _ g stands.1 in
      let b = c.0 in
      let v = sound_base untagged d.specs s m.specifiers_in_range (left untagged ends u w may.prepared).ready from b c.1 in
      let keeps = keep_base untagged types d.specs s m.same (λ i. m.formed.0) from b c.1 in
      let adds = grow_base untagged d.specs s m.same from b c.1 in
      let first = found_step nodes_at f b.1 (λ h. IsBase (IsOne (at_file_scope h) d.specs) d.specs b.0) v.grew keeps adds (λ h e. v.holds h e) in
      let p = passed in_scope (scope_beginnings u) (names_of_declarators untagged d.all d.semicolon) m.names in
      let same_ends = v.grew.extends.ends in
      let counts = v.grew.counted in
      let prepared = right untagged ends u w may.prepared v.grew in
      chosen (is_empty d.all && not (declares_tag d.specs)) _ _ g (AreOwnFunctions g.names) c.2 (λ none h. cc)
      (λ some h. declarators_own (storage_of d.specs) stands.0 b.0 d.semicolon nodes d.all before b.1 true at p.to (record {
        may = record {
          same = v.grew.extends.untagged ∙ m.same;
          formed = m.formed.1;
          fit = subst (λ n. AreDeclaratorsFit untagged b.1.ends n d.all) (sym counts)
              (subst (λ ends. AreDeclaratorsFit untagged ends (length f.records + length (ends_in u)) d.all) (sym same_ends) m.fit);
          ready = prepared.ready;
          counted = m.counted;
          places = m.places;
          objects_before = below_then (λ o. o.first) f.objects b.1.objects first.objects at at first.objects_are (omega arith) m.objects_before
              (λ k r e. none_there first.objects first.others first.objects_parted k r e);
          functions_before = λ n o e. m.functions_before n o (subst (λ all. slice_get all n ≡ Some o) adds.functions e);
          names = p.rest;
          begun = below_then (λ b. b.from) f.names b.1.names (scope_beginnings u) in_scope p.to first.names p.later m.begun p.below;
        };
        prepared = prepared;
        timely = subst (λ n. AreTimely untagged types nodes_at ends n d.all) (sym counts) may.timely;
        own_functions = own_enumerators f.names b.1.names keeps.names.0 keeps.names.1 keeps.names.2 may.own_functions;
      }) (subst (λ made. IsKnown nodes_at made none_new none_new b.1) (append-nil before) (first.known before k)) g h)
    where
      none_there : (objects others : List ℕ) → Rattle.c_checking_laws.proofs.WholeFiles.Parts.Parted [] objects others → (k r : ℕ)
          → slice_get objects k ≡ Some r → r < at
      none_there objects others p k r e = let m = part_of [] objects others p k r e in cc

  -- an item
  pub item_own : (before : List ℕ) (item : Trees.Item) (f : FileScope) (at in_scope : ℕ) → MayStopItem untagged types nodes_at ends f item at in_scope
      → IsKnown nodes_at before none_new none_new f → AreOwnFunctions f.names → (g : FileScope) → filed_item item f ≡ Ok g → AreOwnFunctions g.names
  unfolding filed_item
  item_own before (Trees.declaration d) f at in_scope may k own g h =
      declaration_own before d f (item_nodes (Trees.declaration d)) at in_scope may k g h
  item_own before (Trees.defines specs d left items right) f at in_scope may k own g h =
      definition_own untagged types nodes_at ends before specs d left items (item_nodes (Trees.defines specs d left items right)) at in_scope f may.1 k own
      may.0.0 may.0.1 g h
