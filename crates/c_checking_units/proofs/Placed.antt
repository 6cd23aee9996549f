-- The objects and functions of the steps stand at places of the text, and each place at which an object of the file begins is among them.
use Rattle.std.proofs.Common.{◌≡◌, ℕ, Bool, true, false, List, [], ◌∷◌, ◌++◌, Option, Some, None, refl, sym, ap, ◌∙◌, subst, inl, inr, append_assoc}
use Rattle.std.specs.Prelude.{◌⊎◌}
use Rattle.c_ast.specs.declared.words.Spelling.{Spelling}
use Rattle.c_ast.specs.Trees
use Rattle.c_ast.specs.Places.{first_declarator, first_item}
use Rattle.c_ast.specs.WellFormed.{AreInitDeclarators, IsItem, AreItems, types_after}
use Rattle.c_erasure.specs.Declarators.{declared_name}
use Rattle.c_erasure.specs.Files.{IsMade, is_first}
use Rattle.c_erasure.specs.Literals.{literals_of_value, made_by_items, initial_literals, made_by_file_item, made_by_file}
use Rattle.c_erasure.specs.Marks.{name_from, after_declarator}
use Rattle.c_erasure.specs.Scopes.{FileScope, Entity, typedef, enumerator, an_object, a_function, a_library_function, a_local, a_parameter}
use Rattle.c_checking_laws.proofs.CompleteLists.{made_at}
use Rattle.c_checking_laws.proofs.CompleteLocals.{begins, walk_of_initial}
use Rattle.c_checking_laws.proofs.CompleteWalk.{walk_of_declarator, walk_of_specifiers}
use Rattle.c_checking_units.proofs.Declarators.{steps_if_named, steps_of_declarators}
use Rattle.c_checking_units.proofs.Definitions.{alone, body_events, steps_of_body, steps_if_defined}
use Rattle.c_checking_units.proofs.Filed.{IsWholeFile}
use Rattle.c_checking_units.proofs.Items.{steps_of_item, steps_of_items}
use Rattle.c_checking_units.proofs.Prepared.{steps_of_declarator}
use Rattle.c_checking_units.proofs.Steps.{Step, At, entity_at}
use Rattle.c_checking_laws.specs.TextOrder.TextOrder.{places_of_declarators, places_of_item, places_of_file}
use Rattle.c_checking_units.proofs.Made.{Kept, kept_both, kept_for, kept_made, made_left, made_right, made_either, specifiers_made, declarator_made}
use Rattle.c_checking_units.proofs.Made.{BeginsNone, initial_makes, begins_same, body_makes}
use Rattle.c_checking_units.proofs.MarksOfSteps.{all_seen}
use Rattle.c_checking_units.proofs.StepLists.{own_object, own_function, objects_of, functions_of}
use Rattle.c_checking_units.proofs.Walking.{name_there}

-- any may be left out
abbrev pub Any : ℕ → Type 0
Any at = Unit {0}

none_kept : (all : List ℕ) → Kept Any [] all
none_kept [] = refl
none_kept (at ∷ all) = inr (tt, none_kept all)

object_kept : (e : Option Entity) (b : Bool) (place : ℕ) → Kept Any (own_object e b place) (place ∷ [])
object_kept None b place = inr (tt, refl)
object_kept (Some (typedef t)) b place = inr (tt, refl)
object_kept (Some (enumerator v)) b place = inr (tt, refl)
object_kept (Some (an_object n t)) true place = inl ([], refl, refl)
object_kept (Some (an_object n t)) false place = inr (tt, refl)
object_kept (Some (a_function n t)) b place = inr (tt, refl)
object_kept (Some (a_library_function which)) b place = inr (tt, refl)
object_kept (Some (a_local n t)) b place = inr (tt, refl)
object_kept (Some (a_parameter t)) b place = inr (tt, refl)

function_kept : (e : Option Entity) (b : Bool) (place : ℕ) → Kept Any (own_function e b place) (place ∷ [])
function_kept None b place = inr (tt, refl)
function_kept (Some (typedef t)) b place = inr (tt, refl)
function_kept (Some (enumerator v)) b place = inr (tt, refl)
function_kept (Some (an_object n t)) b place = inr (tt, refl)
function_kept (Some (a_function n t)) true place = inl ([], refl, refl)
function_kept (Some (a_function n t)) false place = inr (tt, refl)
function_kept (Some (a_library_function which)) b place = inr (tt, refl)
function_kept (Some (a_local n t)) b place = inr (tt, refl)
function_kept (Some (a_parameter t)) b place = inr (tt, refl)

any_kept : (g : FileScope) (small all : List ℕ) → Kept (BeginsNone g) small all → Kept Any small all
any_kept g small all h = kept_for (BeginsNone g) Any (λ at n. tt) small all h

module _ (g : FileScope) where
  abbrev pub Own : Trees.InitDeclarator → Spelling → (from : ℕ) → List ℕ
  Own d x from = own_object (entity_at g.names from) (is_first g x) (first_declarator d.declarator x.from)

  abbrev pub OwnFunction : Trees.InitDeclarator → Spelling → (from : ℕ) → List ℕ
  OwnFunction d x from = own_function (entity_at g.names from) (is_first g x) (first_declarator d.declarator x.from)

  abbrev pub MadeBy : Trees.InitDeclarator → List ℕ
  MadeBy d = made_at (walk_of_initial g.untagged g.objects d.value)

  -- what stands in a declarator
  pub objects_of_one : (d : Trees.InitDeclarator) (x : Spelling) (from : ℕ) (steps : List Step)
      → objects_of (steps_of_declarator g d x from steps) ≡ Own d x from ++ (MadeBy d ++ objects_of steps)
  objects_of_one d x from steps =
      let v = walk_of_initial g.untagged g.objects d.value in
      ap (λ z. z ++ (Own d x from ++ (made_at (At v) ++ objects_of steps)))
      (ap made_at (all_seen (walk_of_declarator g.untagged d.declarator)) ∙ declarator_made g.untagged d.declarator)
      ∙ ap (λ z. Own d x from ++ (made_at z ++ objects_of steps)) (all_seen v)

  pub objects_of_specifiers : (specs : Trees.Specifiers) → made_at (At (walk_of_specifiers g.untagged specs)) ≡ []
  objects_of_specifiers specs = ap made_at (all_seen (walk_of_specifiers g.untagged specs)) ∙ specifiers_made g.untagged specs

  -- ---- one declarator

  one_placed : (d : Trees.InitDeclarator) (x : Spelling) (from place : ℕ) (steps : List Step) (more : List ℕ)
      → first_declarator d.declarator x.from ≡ place → Kept Any (objects_of steps) more
      → Kept Any (objects_of (steps_of_declarator g d x from steps)) ((place ∷ literals_of_value d.value) ++ more)
  one_placed d x from place steps more e h =
      subst (λ z. Kept Any z ((place ∷ literals_of_value d.value) ++ more)) (sym (objects_of_one d x from steps))
      (kept_both Any (Own d x from) (place ∷ []) (MadeBy d ++ objects_of steps) (literals_of_value d.value ++ more)
      (subst (λ p. Kept Any (Own d x from) (p ∷ [])) e
      (object_kept (entity_at g.names from) (is_first g x) (first_declarator d.declarator x.from)))
      (kept_both Any (MadeBy d) (literals_of_value d.value) (objects_of steps) more (any_kept g (MadeBy d) (literals_of_value d.value) (initial_makes g d.value))
      h))

  one_function_placed : (d : Trees.InitDeclarator) (x : Spelling) (from place : ℕ) (steps : List Step) (more : List ℕ)
      → first_declarator d.declarator x.from ≡ place → Kept Any (functions_of steps) more
      → Kept Any (functions_of (steps_of_declarator g d x from steps)) ((place ∷ literals_of_value d.value) ++ more)
  one_function_placed d x from place steps more e h =
      kept_both Any (OwnFunction d x from) (place ∷ []) (functions_of steps) (literals_of_value d.value ++ more)
      (subst (λ p. Kept Any (OwnFunction d x from) (p ∷ [])) e
      (function_kept (entity_at g.names from) (is_first g x) (first_declarator d.declarator x.from)))
      (kept_both Any [] (literals_of_value d.value) (functions_of steps) more (none_kept (literals_of_value d.value)) h)

-- a place before is left out
leave : (at : ℕ) (small all : List ℕ) → Kept Any small all → Kept Any small (at ∷ all)
leave at small all h = inr (tt, h)

module _ (g : FileScope) (w : IsWholeFile g) where
  declarators_placed : (types : List (List ℕ)) (lead : Bool) (all : List Trees.InitDeclarator) → AreInitDeclarators types lead all → (semicolon : ℕ)
      (steps : List Step) (more : List ℕ) → Kept Any (objects_of steps) more
      → Kept Any (objects_of (steps_of_declarators g w all semicolon steps)) (places_of_declarators all semicolon ++ more)
  declarators_placed types lead [] f semicolon steps more h = h
  declarators_placed types lead (d ∷ all) f semicolon steps more h =
      let x = name_there d.declarator f.2 in
      let from = name_from d.value (after_declarator all semicolon) in
      let later = steps_of_declarators g w all semicolon steps in
      let place = first_declarator d.declarator semicolon in
      let own = place ∷ literals_of_value d.value in
      let r = declarators_placed types false all f.4 semicolon steps more h in
      subst (λ z. Kept Any (objects_of (steps_of_declarators g w (d ∷ all) semicolon steps)) z)
      (sym (append_assoc own (places_of_declarators all semicolon) more))
      (subst (λ o. Kept Any (objects_of (steps_if_named g w d o from later)) (own ++ (places_of_declarators all semicolon ++ more))) (sym x.1)
      (one_placed g d x.0 from place later (places_of_declarators all semicolon ++ more) (begins_same d.declarator x.0 x.1 x.0.from semicolon) r))

  functions_placed : (types : List (List ℕ)) (lead : Bool) (all : List Trees.InitDeclarator) → AreInitDeclarators types lead all → (semicolon : ℕ)
      (steps : List Step) (more : List ℕ) → Kept Any (functions_of steps) more
      → Kept Any (functions_of (steps_of_declarators g w all semicolon steps)) (places_of_declarators all semicolon ++ more)
  functions_placed types lead [] f semicolon steps more h = h
  functions_placed types lead (d ∷ all) f semicolon steps more h =
      let x = name_there d.declarator f.2 in
      let from = name_from d.value (after_declarator all semicolon) in
      let later = steps_of_declarators g w all semicolon steps in
      let place = first_declarator d.declarator semicolon in
      let own = place ∷ literals_of_value d.value in
      let r = functions_placed types false all f.4 semicolon steps more h in
      subst (λ z. Kept Any (functions_of (steps_of_declarators g w (d ∷ all) semicolon steps)) z)
      (sym (append_assoc own (places_of_declarators all semicolon) more))
      (subst (λ o. Kept Any (functions_of (steps_if_named g w d o from later)) (own ++ (places_of_declarators all semicolon ++ more))) (sym x.1)
      (one_function_placed g d x.0 from place later (places_of_declarators all semicolon ++ more) (begins_same d.declarator x.0 x.1 x.0.from semicolon) r))

  item_placed : (types : List (List ℕ)) (item : Trees.Item) → IsItem types item → (steps : List Step) (more : List ℕ) → Kept Any (objects_of steps) more
      → Kept Any (objects_of (steps_of_item g w item steps)) ((first_item item ∷ places_of_item item) ++ more)
  item_placed types (Trees.declaration d) f steps more h =
      leave (first_item (Trees.declaration d)) _ (places_of_declarators d.all d.semicolon ++ more)
      (subst (λ z. Kept Any (z ++ objects_of (steps_of_declarators g w d.all d.semicolon steps)) (places_of_declarators d.all d.semicolon ++ more))
      (sym (objects_of_specifiers g d.specs)) (declarators_placed types true d.all f.1 d.semicolon steps more h))
  item_placed types (Trees.defines specs d left items right) f steps more h =
      let x = name_there d f.2 in
      let place = first_declarator d left in
      let body = made_at (body_events g w items) in
      let inside : Kept Any (body ++ objects_of steps) (made_by_items items ++ more) =
      kept_both Any body (made_by_items items) (objects_of steps) more (any_kept g body (made_by_items items) (body_makes g types items f.3)) h in
      leave (first_item (Trees.defines specs d left items right)) _ ((place ∷ made_by_items items) ++ more)
      (subst (λ z. Kept Any (z ++ objects_of (steps_if_defined g w (declared_name d) d left items steps))
      ((place ∷ made_by_items items) ++ more)) (sym (objects_of_specifiers g specs))
      (subst (λ o. Kept Any (objects_of (steps_if_defined g w o d left items steps)) ((place ∷ made_by_items items) ++ more)) (sym x.1)
      (one_placed g (alone d) x.0 left place (steps_of_body g w items steps) (made_by_items items ++ more) (begins_same d x.0 x.1 x.0.from left) inside)))

  item_functions_placed : (types : List (List ℕ)) (item : Trees.Item) → IsItem types item → (steps : List Step) (more : List ℕ)
      → Kept Any (functions_of steps) more → Kept Any (functions_of (steps_of_item g w item steps)) ((first_item item ∷ places_of_item item) ++ more)
  item_functions_placed types (Trees.declaration d) f steps more h =
      leave (first_item (Trees.declaration d)) _ (places_of_declarators d.all d.semicolon ++ more)
      (functions_placed types true d.all f.1 d.semicolon steps more h)
  item_functions_placed types (Trees.defines specs d left items right) f steps more h =
      let x = name_there d f.2 in
      let place = first_declarator d left in
      let inside : Kept Any (functions_of steps) (made_by_items items ++ more) =
      kept_both Any [] (made_by_items items) (functions_of steps) more (none_kept (made_by_items items)) h in
      leave (first_item (Trees.defines specs d left items right)) _ ((place ∷ made_by_items items) ++ more)
      (subst (λ o. Kept Any (functions_of (steps_if_defined g w o d left items steps)) ((place ∷ made_by_items items) ++ more)) (sym x.1)
      (one_function_placed g (alone d) x.0 left place (steps_of_body g w items steps) (made_by_items items ++ more)
      (begins_same d x.0 x.1 x.0.from left) inside))

  pub objects_placed : (types : List (List ℕ)) (items : List Trees.Item) → AreItems types items
      → Kept Any (objects_of (steps_of_items g w items)) (places_of_file items)
  objects_placed types [] f = refl
  objects_placed types (item ∷ more) f =
      item_placed types item f.0 (steps_of_items g w more) (places_of_file more) (objects_placed (types_after types item) more f.1)

  pub all_functions_placed : (types : List (List ℕ)) (items : List Trees.Item) → AreItems types items
      → Kept Any (functions_of (steps_of_items g w items)) (places_of_file items)
  all_functions_placed types [] f = refl
  all_functions_placed types (item ∷ more) f =
      item_functions_placed types item f.0 (steps_of_items g w more) (places_of_file more) (all_functions_placed (types_after types item) more f.1)

  -- ---- where an object begins

  not_none : (at : ℕ) → begins g.objects at ≡ true → BeginsNone g at → ⊥
  not_none at b n = let true_is_false = sym b ∙ n in cc

  one_begun : (d : Trees.InitDeclarator) (x : Spelling) (from : ℕ) (steps : List Step) (at : ℕ) → begins g.objects at ≡ true
      → IsMade (literals_of_value d.value) at ⊎ IsMade (objects_of steps) at → IsMade (objects_of (steps_of_declarator g d x from steps)) at
  one_begun d x from steps at b (inl m) =
      subst (λ z. IsMade z at) (sym (objects_of_one g d x from steps))
      (made_right (Own g d x from) (MadeBy g d ++ objects_of steps) at
      (made_left (MadeBy g d) (objects_of steps) at
      (kept_made (BeginsNone g) (MadeBy g d) (literals_of_value d.value) (initial_makes g d.value) at (not_none at b) m)))
  one_begun d x from steps at b (inr m) =
      subst (λ z. IsMade z at) (sym (objects_of_one g d x from steps))
      (made_right (Own g d x from) (MadeBy g d ++ objects_of steps) at (made_right (MadeBy g d) (objects_of steps) at m))

  declarators_begun : (types : List (List ℕ)) (lead : Bool) (all : List Trees.InitDeclarator) → AreInitDeclarators types lead all → (semicolon : ℕ)
      (steps : List Step) (at : ℕ) → begins g.objects at ≡ true → IsMade (initial_literals all) at ⊎ IsMade (objects_of steps) at
      → IsMade (objects_of (steps_of_declarators g w all semicolon steps)) at
  declarators_begun types lead [] f semicolon steps at b (inl m) = absurd m
  declarators_begun types lead [] f semicolon steps at b (inr m) = m
  declarators_begun types lead (d ∷ all) f semicolon steps at b m =
      let x = name_there d.declarator f.2 in
      let from = name_from d.value (after_declarator all semicolon) in
      let later = steps_of_declarators g w all semicolon steps in
      subst (λ o. IsMade (objects_of (steps_if_named g w d o from later)) at) (sym x.1)
      (one_begun d x.0 from later at b (own m (λ m. declarators_begun types false all f.4 semicolon steps at b m)))
    where
      by_part : IsMade (literals_of_value d.value) at ⊎ IsMade (initial_literals all) at
          → (IsMade (initial_literals all) at ⊎ IsMade (objects_of steps) at → IsMade (objects_of (steps_of_declarators g w all semicolon steps)) at)
          → IsMade (literals_of_value d.value) at ⊎ IsMade (objects_of (steps_of_declarators g w all semicolon steps)) at
      by_part (inl m) next = inl m
      by_part (inr m) next = inr (next (inl m))

      own : IsMade (initial_literals (d ∷ all)) at ⊎ IsMade (objects_of steps) at
          → (IsMade (initial_literals all) at ⊎ IsMade (objects_of steps) at → IsMade (objects_of (steps_of_declarators g w all semicolon steps)) at)
          → IsMade (literals_of_value d.value) at ⊎ IsMade (objects_of (steps_of_declarators g w all semicolon steps)) at
      own (inl m) next = by_part (made_either (literals_of_value d.value) (initial_literals all) at m) next
      own (inr m) next = inr (next (inr m))

  item_begun : (types : List (List ℕ)) (item : Trees.Item) → IsItem types item → (steps : List Step) (at : ℕ) → begins g.objects at ≡ true
      → IsMade (made_by_file_item item) at ⊎ IsMade (objects_of steps) at → IsMade (objects_of (steps_of_item g w item steps)) at
  item_begun types (Trees.declaration d) f steps at b m =
      made_right (made_at (At (walk_of_specifiers g.untagged d.specs))) (objects_of (steps_of_declarators g w d.all d.semicolon steps)) at
      (declarators_begun types true d.all f.1 d.semicolon steps at b m)
  item_begun types (Trees.defines specs d left items right) f steps at b m =
      let x = name_there d f.2 in
      made_right (made_at (At (walk_of_specifiers g.untagged specs))) _ at
      (subst (λ o. IsMade (objects_of (steps_if_defined g w o d left items steps)) at) (sym x.1)
      (one_begun (alone d) x.0 left (steps_of_body g w items steps) at b (inr (inside m))))
    where
      inside : IsMade (made_by_items items) at ⊎ IsMade (objects_of steps) at → IsMade (made_at (body_events g w items) ++ objects_of steps) at
      inside (inl m) =
          made_left (made_at (body_events g w items)) (objects_of steps) at
          (kept_made (BeginsNone g) (made_at (body_events g w items)) (made_by_items items) (body_makes g types items f.3) at (not_none at b) m)
      inside (inr m) = made_right (made_at (body_events g w items)) (objects_of steps) at m

  pub all_begun : (types : List (List ℕ)) (items : List Trees.Item) → AreItems types items → (at : ℕ) → begins g.objects at ≡ true
      → IsMade (made_by_file items) at → IsMade (objects_of (steps_of_items g w items)) at
  all_begun types [] f at b m = absurd m
  all_begun types (item ∷ more) f at b m =
      item_begun types item f.0 (steps_of_items g w more) at b
      (by_part (made_either (made_by_file_item item) (made_by_file more) at m) (λ m. all_begun (types_after types item) more f.1 at b m))
    where
      by_part : IsMade (made_by_file_item item) at ⊎ IsMade (made_by_file more) at
          → (IsMade (made_by_file more) at → IsMade (objects_of (steps_of_items g w more)) at)
          → IsMade (made_by_file_item item) at ⊎ IsMade (objects_of (steps_of_items g w more)) at
      by_part (inl m) next = inl m
      by_part (inr m) next = inr (next m)
