-- The steps of a file declare what the marks of its items say.
use Rattle.std.proofs.Common.{◌≡◌, ℕ, Bool, true, false, List, [], ◌∷◌, ◌++◌, Option, Some, None, refl, sym, ap, ◌∙◌, append_assoc}
use Rattle.c_ast.specs.declared.words.Spelling.{Spelling}
use Rattle.c_ast.specs.Trees
use Rattle.c_ast.specs.WellFormed.{AreInitDeclarators, IsItem, AreItems, types_after}
use Rattle.c_erasure.specs.Marks
use Rattle.c_erasure.specs.Marks.{Mark, marks, marks_of_all, marks_of_specifiers, marks_of_declarator, marks_of_initial, marks_of_declarators, marks_of_item}
use Rattle.c_erasure.specs.Marks.{marks_of_file, name_from, after_declarator}
use Rattle.c_erasure.specs.Scopes.{AnObject, FileScope, in_full}
use Rattle.c_checking_laws.proofs.CompleteLocals.{begins, literal_if, walk_of_initializer, walk_of_initializers, walk_of_initial}
use Rattle.c_checking_laws.proofs.CompleteMarks.{marks_in, marks_same, marks_same_specifiers, marks_same_declarator}
use Rattle.c_ast.specs.Places.{first_text}
use Rattle.c_checking_laws.proofs.CompleteStatements.{walk_of_items}
use Rattle.c_checking_laws.proofs.CompleteWalk.{Event, a_use, a_look, a_tag, an_end, a_name, a_literal, seen, walk_of_declarator, walk_of_specifiers}
use Rattle.c_checking_units.proofs.Declarators.{steps_if_named, steps_of_declarators}
use Rattle.c_checking_units.proofs.Definitions.{alone, steps_of_body, steps_if_defined, steps_of_definition}
use Rattle.c_checking_units.proofs.Filed.{IsWholeFile}
use Rattle.c_checking_units.proofs.Items.{steps_of_item, steps_of_items}
use Rattle.c_checking_units.proofs.Prepared.{steps_of_declarator}
use Rattle.c_checking_units.proofs.Steps.{Step, At}
use Rattle.c_checking_units.proofs.StepLists.{marks_of, two}
use Rattle.c_checking_units.proofs.Walking.{own, name_there}

-- at file scope all is seen
pub all_seen : (all : List Event) → At all ≡ all
all_seen [] = refl
all_seen (a_use at ∷ all) = ap (λ z. a_use at ∷ z) (all_seen all)
all_seen (a_look at ∷ all) = ap (λ z. a_look at ∷ z) (all_seen all)
all_seen (a_tag t ∷ all) = ap (λ z. a_tag t ∷ z) (all_seen all)
all_seen (an_end tag right ∷ all) = ap (λ z. an_end tag right ∷ z) (all_seen all)
all_seen (a_name from ∷ all) = ap (λ z. a_name from ∷ z) (all_seen all)
all_seen (a_literal at ∷ all) = ap (λ z. a_literal at ∷ z) (all_seen all)

-- a body declares nothing
no_marks : (all : List Event) → marks_in (seen true in_full all) ≡ []
no_marks [] = refl
no_marks (a_use at ∷ all) = no_marks all
no_marks (a_look at ∷ all) = no_marks all
no_marks (a_tag t ∷ all) = no_marks all
no_marks (an_end tag right ∷ all) = no_marks all
no_marks (a_name from ∷ all) = no_marks all
no_marks (a_literal at ∷ all) = no_marks all

marks_both : (a b : List Event) → marks_in (a ++ b) ≡ marks_in a ++ marks_in b
marks_both [] b = refl
marks_both (a_use at ∷ a) b = marks_both a b
marks_both (a_look at ∷ a) b = marks_both a b
marks_both (a_tag t ∷ a) b = ap (λ z. Marks.a_tag t ∷ z) (marks_both a b)
marks_both (an_end tag right ∷ a) b = ap (λ z. Marks.an_end tag right ∷ z) (marks_both a b)
marks_both (a_name from ∷ a) b = ap (λ z. Marks.a_name from ∷ z) (marks_both a b)
marks_both (a_literal at ∷ a) b = marks_both a b

-- ---- initializers

module _ (u : ℕ → List ℕ) (objects : List AnObject) where
  no_mark : (b : Bool) (at : ℕ) → marks_in (literal_if b at) ≡ []
  no_mark true at = refl
  no_mark false at = refl

  mutual
    marks_initial : (a : Trees.Expression) → marks_in (walk_of_initializer u objects a) ≡ marks u a
    marks_initial (Trees.name x) = marks_same u (Trees.name x)
    marks_initial (Trees.number x n kind) = marks_same u (Trees.number x n kind)
    marks_initial (Trees.character x n) = marks_same u (Trees.character x n)
    marks_initial (Trees.texts all) = no_mark (begins objects (first_text all)) (first_text all)
    marks_initial (Trees.paren left a right) = marks_same u (Trees.paren left a right)
    marks_initial (Trees.index a left b right) = marks_same u (Trees.index a left b right)
    marks_initial (Trees.call f left all right) = marks_same u (Trees.call f left all right)
    marks_initial (Trees.dot a at x) = marks_same u (Trees.dot a at x)
    marks_initial (Trees.arrow a at x) = marks_same u (Trees.arrow a at x)
    marks_initial (Trees.post a op at) = marks_same u (Trees.post a op at)
    marks_initial (Trees.pre op at a) = marks_same u (Trees.pre op at a)
    marks_initial (Trees.unary op at a) = marks_same u (Trees.unary op at a)
    marks_initial (Trees.sizeof_expression at a) = marks_same u (Trees.sizeof_expression at a)
    marks_initial (Trees.sizeof_type at left n right) = marks_same u (Trees.sizeof_type at left n right)
    marks_initial (Trees.cast left n right a) = marks_same u (Trees.cast left n right a)
    marks_initial (Trees.binary a op at b) = marks_same u (Trees.binary a op at b)
    marks_initial (Trees.cond a question b colon c) = marks_same u (Trees.cond a question b colon c)
    marks_initial (Trees.assign a op at b) = marks_same u (Trees.assign a op at b)
    marks_initial (Trees.comma a at b) = marks_same u (Trees.comma a at b)
    marks_initial (Trees.braces left all comma right) = marks_initials all

    marks_initials : (all : Trees.Arguments) → marks_in (walk_of_initializers u objects all) ≡ marks_of_all u all
    marks_initials Trees.no_arguments = refl
    marks_initials (Trees.and_argument comma a more) =
        marks_both (walk_of_initializer u objects a) (walk_of_initializers u objects more) ∙ two _ _ _ _ (marks_initial a) (marks_initials more)

  marks_of_value : (value : Option (ℕ × Trees.Expression)) → marks_in (walk_of_initial u objects value) ≡ marks_of_initial u value
  marks_of_value None = refl
  marks_of_value (Some value) = marks_initial value.1

  pub marks_at : (value : Option (ℕ × Trees.Expression)) → marks_in (At (walk_of_initial u objects value)) ≡ marks_of_initial u value
  marks_at value = ap marks_in (all_seen (walk_of_initial u objects value)) ∙ marks_of_value value

-- ---- items

module _ (g : FileScope) (w : IsWholeFile g) where
  pub marks_specifiers : (specs : Trees.Specifiers) → marks_in (At (walk_of_specifiers g.untagged specs)) ≡ marks_of_specifiers g.untagged specs
  marks_specifiers specs = ap marks_in (all_seen (walk_of_specifiers g.untagged specs)) ∙ marks_same_specifiers g.untagged specs

  pub marks_declarator : (d : Trees.Declarator) → marks_in (At (walk_of_declarator g.untagged d)) ≡ marks_of_declarator g.untagged d
  marks_declarator d = ap marks_in (all_seen (walk_of_declarator g.untagged d)) ∙ marks_same_declarator g.untagged d

  marks_of_one : (d : Trees.InitDeclarator) (x : Spelling) (from : ℕ) (steps : List Step)
      → marks_of (steps_of_declarator g d x from steps)
      ≡ (marks_of_declarator g.untagged d.declarator ++ (Marks.a_name from ∷ marks_of_initial g.untagged d.value)) ++ marks_of steps
  marks_of_one d x from steps =
      let m = marks_of_declarator g.untagged d.declarator in
      let i = marks_of_initial g.untagged d.value in
      two _ _ m (Marks.a_name from ∷ (i ++ marks_of steps)) (marks_declarator d.declarator)
      (ap (λ z. Marks.a_name from ∷ (z ++ marks_of steps)) (marks_at g.untagged g.objects d.value))
      ∙ sym (append_assoc m (Marks.a_name from ∷ i) (marks_of steps))

  marks_declarators : (types : List (List ℕ)) (lead : Bool) (all : List Trees.InitDeclarator) → AreInitDeclarators types lead all → (semicolon : ℕ)
      (steps : List Step)
      → marks_of (steps_of_declarators g w all semicolon steps) ≡ marks_of_declarators g.untagged all semicolon ++ marks_of steps
  marks_declarators types lead [] f semicolon steps = refl
  marks_declarators types lead (d ∷ more) f semicolon steps =
      let x = name_there d.declarator f.2 in
      let from = name_from d.value (after_declarator more semicolon) in
      let later = steps_of_declarators g w more semicolon steps in
      let own = marks_of_declarator g.untagged d.declarator ++ (Marks.a_name from ∷ marks_of_initial g.untagged d.value) in
      ap (λ o. marks_of (steps_if_named g w d o from later)) x.1 ∙ marks_of_one d x.0 from later
      ∙ ap (λ z. own ++ z) (marks_declarators types false more f.4 semicolon steps)
      ∙ sym (append_assoc own (marks_of_declarators g.untagged more semicolon) (marks_of steps))

  marks_definition : (types : List (List ℕ)) (specs : Trees.Specifiers) (d : Trees.Declarator) (left : ℕ) (items : Trees.BlockItems) (right : ℕ)
      → IsItem types (Trees.defines specs d left items right) → (steps : List Step)
      → marks_of (steps_of_definition g w specs d left items steps)
      ≡ marks_of_item g.untagged (Trees.defines specs d left items right) ++ marks_of steps
  marks_definition types specs d left items right f steps =
      let x = name_there d f.2 in
      let s = marks_of_specifiers g.untagged specs in
      let m = marks_of_declarator g.untagged d in
      let n : List Mark = Marks.a_name left ∷ [] in
      let body : marks_of (steps_of_body g w items steps) ≡ marks_of steps =
      ap (λ z. z ++ marks_of steps) (no_marks (walk_of_items g.untagged (own g) items)) in
      two _ _ s ((m ++ n) ++ marks_of steps) (marks_specifiers specs)
      (ap (λ o. marks_of (steps_if_defined g w o d left items steps)) x.1 ∙ marks_of_one (alone d) x.0 left (steps_of_body g w items steps)
      ∙ ap (λ z. (m ++ n) ++ z) body)
      ∙ ap (λ z. s ++ z) (append_assoc m n (marks_of steps)) ∙ sym (append_assoc s m (n ++ marks_of steps))
      ∙ sym (append_assoc (s ++ m) n (marks_of steps))

  marks_one_item : (types : List (List ℕ)) (item : Trees.Item) → IsItem types item → (steps : List Step)
      → marks_of (steps_of_item g w item steps) ≡ marks_of_item g.untagged item ++ marks_of steps
  marks_one_item types (Trees.defines specs d left items right) f steps = marks_definition types specs d left items right f steps
  marks_one_item types (Trees.declaration d) f steps =
      two _ _ (marks_of_specifiers g.untagged d.specs) (marks_of_declarators g.untagged d.all d.semicolon ++ marks_of steps) (marks_specifiers d.specs)
      (marks_declarators types true d.all f.1 d.semicolon steps)
      ∙ sym (append_assoc (marks_of_specifiers g.untagged d.specs) (marks_of_declarators g.untagged d.all d.semicolon) (marks_of steps))

  pub marks_of_items : (types : List (List ℕ)) (items : List Trees.Item) → AreItems types items
      → marks_of (steps_of_items g w items) ≡ marks_of_file g.untagged items
  marks_of_items types [] f = refl
  marks_of_items types (item ∷ more) f =
      marks_one_item types item f.0 (steps_of_items g w more) ∙ ap (λ z. marks_of_item g.untagged item ++ z) (marks_of_items (types_after types item) more f.1)
