-- The literals of bodies are in range, from the number of records on that the file has there.
use Rattle.std.proofs.Common.{◌≡◌, ℕ, ◌+◌, Bool, true, false, List, [], ◌∷◌, ◌++◌, length, length-append, refl, sym, ap, ◌∙◌, subst, arith}
use Rattle.c_ast.specs.declared.words.Spelling.{Spelling}
use Rattle.c_ast.specs.Trees
use Rattle.c_ast.specs.WellFormed.{AreInitDeclarators, IsItem, AreItems, types_after}
use Rattle.c_erasure.specs.Marks
use Rattle.c_erasure.specs.Marks.{Mark, ends_in, marks_of_specifiers, marks_of_declarator, marks_of_initial, marks_of_declarators, marks_of_item, name_from}
use Rattle.c_erasure.specs.Marks.{after_declarator}
use Rattle.c_erasure.specs.Scopes.{FileScope, in_full}
use Rattle.c_checking_laws.proofs.CompleteBodies.{walk_of_declaration}
use Rattle.c_checking_laws.proofs.CompleteLocals.{walk_of_initial}
use Rattle.c_checking_laws.proofs.CompleteMarks.{marks_in, rights_same}
use Rattle.c_checking_laws.proofs.CompleteStatements.{walk_of_items}
use Rattle.c_checking_laws.proofs.CompleteWalk as Walk
use Rattle.c_checking_laws.proofs.CompleteWalk.{Event, seen, a_use, a_look, a_tag, an_end, a_name, a_literal, walk_of_declarator, walk_of_specifiers}
use Rattle.c_checking_laws.proofs.WholeFiles.CompleteStaticLists.{walk_of_statics}
use Rattle.c_checking_laws.proofs.WholeFiles.Items.{IsItemFit, AreItemsFit}
use Rattle.c_checking_units.proofs.Declarators.{steps_if_named, steps_of_declarators}
use Rattle.c_checking_units.proofs.Definitions.{alone, body_events, steps_of_body, steps_if_defined}
use Rattle.c_checking_units.proofs.Filed.{IsWholeFile}
use Rattle.c_checking_units.proofs.Items.{steps_of_item, steps_of_items}
use Rattle.c_checking_units.proofs.Prepared.{steps_of_declarator}
use Rattle.c_checking_units.proofs.Steps.{Step, At}
use Rattle.c_checking_laws.proofs.WholeFiles.StatementLaws.{AreItemsInRange}
use Rattle.c_checking_units.proofs.Following.{ends_counted}
use Rattle.c_checking_units.proofs.MarksOfSteps.{marks_at, marks_specifiers, marks_declarator}
use Rattle.c_checking_units.proofs.StepLists.{AreStepsInRange, ends_both}
use Rattle.c_checking_units.proofs.Walking.{name_there}

ends_at : (all : List Event) (m : List Mark) → marks_in all ≡ m → Walk.ends_in all ≡ length (ends_in m)
ends_at all m e = ends_counted all ∙ ap length (rights_same all) ∙ ap (λ m. length (ends_in m)) e

many_both : (a b : List Mark) → length (ends_in (a ++ b)) ≡ length (ends_in a) + length (ends_in b)
many_both a b = ap length (ends_both a b) ∙ length-append (ends_in a) (ends_in b)

-- no structure ends in a body
no_ends : (all : List Event) → Walk.ends_in (seen true in_full all) ≡ 0
no_ends [] = refl
no_ends (a_use at ∷ all) = no_ends all
no_ends (a_look at ∷ all) = no_ends all
no_ends (a_tag t ∷ all) = no_ends all
no_ends (an_end tag right ∷ all) = no_ends all
no_ends (a_name from ∷ all) = no_ends all
no_ends (a_literal at ∷ all) = no_ends all

module _ (g : FileScope) (w : IsWholeFile g) (ends : List ℕ) where
  at_number : (n m : ℕ) (steps : List Step) → n ≡ m → AreStepsInRange ends n steps → AreStepsInRange ends m steps
  at_number n m steps e h = subst (λ n. AreStepsInRange ends n steps) e h

  ranged_declarator : (d : Trees.InitDeclarator) (x : Spelling) (from n : ℕ) (steps : List Step)
      → AreStepsInRange ends (n + length (ends_in (marks_of_declarator g.untagged d.declarator)) + length (ends_in (marks_of_initial g.untagged d.value))) steps
      → AreStepsInRange ends n (steps_of_declarator g d x from steps)
  ranged_declarator d x from n steps h =
      let a = ends_at (At (walk_of_declarator g.untagged d.declarator)) (marks_of_declarator g.untagged d.declarator) (marks_declarator g w d.declarator) in
      let b = ends_at (At (walk_of_initial g.untagged g.objects d.value)) (marks_of_initial g.untagged d.value) (marks_at g.untagged g.objects d.value) in
      at_number (n + length (ends_in (marks_of_declarator g.untagged d.declarator)) + length (ends_in (marks_of_initial g.untagged d.value)))
      (n + Walk.ends_in (At (walk_of_declarator g.untagged d.declarator)) + 0 + Walk.ends_in (At (walk_of_initial g.untagged g.objects d.value))) steps
      (omega (arith, a, b)) h

  ranged_declarators : (types : List (List ℕ)) (lead : Bool) (all : List Trees.InitDeclarator) → AreInitDeclarators types lead all → (semicolon n : ℕ)
      (steps : List Step) → AreStepsInRange ends (n + length (ends_in (marks_of_declarators g.untagged all semicolon))) steps
      → AreStepsInRange ends n (steps_of_declarators g w all semicolon steps)
  ranged_declarators types lead [] f semicolon n steps h = at_number (n + 0) n steps (omega arith) h
  ranged_declarators types lead (d ∷ more) f semicolon n steps h =
      let x = name_there d.declarator f.2 in
      let from = name_from d.value (after_declarator more semicolon) in
      let later = steps_of_declarators g w more semicolon steps in
      let m = marks_of_declarator g.untagged d.declarator in
      let i = marks_of_initial g.untagged d.value in
      let k = marks_of_declarators g.untagged more semicolon in
      let a = many_both (m ++ (Marks.a_name from ∷ i)) k in
      let b = many_both m (Marks.a_name from ∷ i) in
      let N : ℕ = n + length (ends_in m) + length (ends_in i) in
      let rest : AreStepsInRange ends N later =
      ranged_declarators types false more f.4 semicolon N steps
      (at_number (n + length (ends_in ((m ++ (Marks.a_name from ∷ i)) ++ k))) (N + length (ends_in k)) steps (omega (arith, a, b)) h) in
      subst (λ o. AreStepsInRange ends n (steps_if_named g w d o from later)) (sym x.1) (ranged_declarator d x.0 from n later rest)

  ranged_item : (types : List (List ℕ)) (item : Trees.Item) → IsItem types item → (n : ℕ) (steps : List Step) → IsItemFit g.untagged ends n item
      → AreStepsInRange ends (n + length (ends_in (marks_of_item g.untagged item))) steps → AreStepsInRange ends n (steps_of_item g w item steps)
  ranged_item types (Trees.declaration d) f n steps r h =
      let s = marks_of_specifiers g.untagged d.specs in
      let k = marks_of_declarators g.untagged d.all d.semicolon in
      let a = ends_at (At (walk_of_specifiers g.untagged d.specs)) s (marks_specifiers g w d.specs) in
      let b = many_both s k in
      let N : ℕ = n + Walk.ends_in (At (walk_of_specifiers g.untagged d.specs)) in
      ranged_declarators types true d.all f.1 d.semicolon N steps
      (at_number (n + length (ends_in (s ++ k))) (N + length (ends_in k)) steps (omega (arith, a, b)) h)
  ranged_item types (Trees.defines specs d left items right) f n steps r h =
      let x = name_there d f.2 in
      let s = marks_of_specifiers g.untagged specs in
      let m = marks_of_declarator g.untagged d in
      let a = ends_at (At (walk_of_specifiers g.untagged specs)) s (marks_specifiers g w specs) in
      let b = many_both (s ++ m) (Marks.a_name left ∷ []) in
      let c = many_both s m in
      let e = no_ends (walk_of_items g.untagged (λ d. walk_of_declaration g (λ all. walk_of_statics g all) d) items) in
      let N : ℕ = n + Walk.ends_in (At (walk_of_specifiers g.untagged specs)) in
      let M : ℕ = N + length (ends_in m) + 0 in
      let same : n + length (ends_in s) + length (ends_in m) ≡ M = omega (arith, a) in
      let ranged : AreItemsInRange ends M items = subst (λ n. AreItemsInRange ends n items) same r.2 in
      let rest : AreStepsInRange ends (M + Walk.ends_in (body_events g w items)) steps =
      at_number (n + length (ends_in ((s ++ m) ++ (Marks.a_name left ∷ [])))) (M + Walk.ends_in (body_events g w items)) steps (omega (arith, a, b, c, e)) h in
      subst (λ o. AreStepsInRange ends N (steps_if_defined g w o d left items steps)) (sym x.1)
      (ranged_declarator (alone d) x.0 left N (steps_of_body g w items steps) (ranged, rest))

  pub ranged_items : (types : List (List ℕ)) (items : List Trees.Item) → AreItems types items → (n : ℕ) → AreItemsFit g.untagged ends n items
      → AreStepsInRange ends n (steps_of_items g w items)
  ranged_items types [] f n r = tt
  ranged_items types (item ∷ more) f n r =
      ranged_item types item f.0 n (steps_of_items g w more) r.0
      (ranged_items (types_after types item) more f.1 (n + length (ends_in (marks_of_item g.untagged item))) r.1)
