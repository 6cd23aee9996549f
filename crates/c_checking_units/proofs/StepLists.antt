-- What the steps of a file tell, in their order: where names begin to be in scope, which definitions end, which objects and functions begin.
use Rattle.std.proofs.Common.{◌≡◌, ℕ, suc, ◌+◌, ◌≤◌, true, List, [], ◌∷◌, ◌++◌}
use Rattle.std.proofs.Common.{refl, sym, ap, ◌∙◌, subst}
use Rattle.std.specs.Prelude.{Bool, Option, Some}
use Rattle.std.specs.List.{AllByRecursion}
use Rattle.c_erasure.specs.Marks
use Rattle.c_erasure.specs.Marks.{Mark}
use Rattle.c_erasure.specs.Scopes.{Tag, FileScope, Entity, an_object, a_function}
use Rattle.c_checking_laws.proofs.WholeFiles.StatementLaws.{AreItemsInRange}
use Rattle.c_checking_laws.proofs.CompleteLists.{froms_of, rights_of, defined_by, tags_of, made_at}
use Rattle.c_checking_laws.proofs.CompleteMarks.{marks_in, froms_same, rights_same, defined_same, tags_same}
use Rattle.c_checking_laws.proofs.CompleteOrder.{AreInOrder}
use Rattle.c_checking_laws.proofs.CompleteWalk.{IsTagOf, ends_in}
use Rattle.c_checking_units.proofs.Steps.{Step, events, a_declarator, an_own, a_body}

-- ---- the lists

abbrev pub names_of : List Step → List ℕ
names_of [] = []
names_of (events all ∷ more) = froms_of all ++ names_of more
names_of (a_declarator at ∷ more) = names_of more
names_of (an_own e first place ∷ more) = names_of more
names_of (a_body items ∷ more) = names_of more

abbrev pub ends_of : List Step → List ℕ
ends_of [] = []
ends_of (events all ∷ more) = rights_of all ++ ends_of more
ends_of (a_declarator at ∷ more) = ends_of more
ends_of (an_own e first place ∷ more) = ends_of more
ends_of (a_body items ∷ more) = ends_of more

abbrev pub defined_of : List Step → List (List ℕ)
defined_of [] = []
defined_of (events all ∷ more) = defined_by all ++ defined_of more
defined_of (a_declarator at ∷ more) = defined_of more
defined_of (an_own e first place ∷ more) = defined_of more
defined_of (a_body items ∷ more) = defined_of more

abbrev pub own_object : Option Entity → Bool → ℕ → List ℕ
own_object (Some (an_object n t)) true place = place ∷ []
own_object e b place = []

abbrev pub own_function : Option Entity → Bool → ℕ → List ℕ
own_function (Some (a_function n t)) true place = place ∷ []
own_function e b place = []

abbrev pub objects_of : List Step → List ℕ
objects_of [] = []
objects_of (events all ∷ more) = made_at all ++ objects_of more
objects_of (a_declarator at ∷ more) = objects_of more
objects_of (an_own e first place ∷ more) = own_object e first place ++ objects_of more
objects_of (a_body items ∷ more) = objects_of more

abbrev pub functions_of : List Step → List ℕ
functions_of [] = []
functions_of (events all ∷ more) = functions_of more
functions_of (a_declarator at ∷ more) = functions_of more
functions_of (an_own e first place ∷ more) = own_function e first place ++ functions_of more
functions_of (a_body items ∷ more) = functions_of more

abbrev pub AreTagged : FileScope → List Tag → Type 0
AreTagged g all = AllByRecursion (λ t. IsTagOf g t t.is_enumeration) all

abbrev pub AreStepsTagged : FileScope → List Step → Type 0
AreStepsTagged g [] = Unit {0}
AreStepsTagged g (events all ∷ more) = AreTagged g (tags_of all) × AreStepsTagged g more
AreStepsTagged g (a_declarator at ∷ more) = AreStepsTagged g more
AreStepsTagged g (an_own e first place ∷ more) = AreStepsTagged g more
AreStepsTagged g (a_body items ∷ more) = AreStepsTagged g more

-- literals of bodies, from a number of records on
abbrev pub AreStepsInRange : (ends : List ℕ) → ℕ → List Step → Type 0
AreStepsInRange ends r [] = Unit {0}
AreStepsInRange ends r (events all ∷ more) = AreStepsInRange ends (r + ends_in all) more
AreStepsInRange ends r (a_declarator at ∷ more) = AreStepsInRange ends r more
AreStepsInRange ends r (an_own e first place ∷ more) = AreStepsInRange ends r more
AreStepsInRange ends r (a_body items ∷ more) = AreItemsInRange ends r items × AreStepsInRange ends r more

-- ---- the marks, which say the first three

abbrev pub marks_of : List Step → List Mark
marks_of [] = []
marks_of (events all ∷ more) = marks_in all ++ marks_of more
marks_of (a_declarator at ∷ more) = marks_of more
marks_of (an_own e first place ∷ more) = marks_of more
marks_of (a_body items ∷ more) = marks_of more

beginnings_both : (a b : List Mark) → Marks.scope_beginnings (a ++ b) ≡ Marks.scope_beginnings a ++ Marks.scope_beginnings b
beginnings_both [] b = refl
beginnings_both (Marks.a_tag t ∷ a) b = beginnings_both a b
beginnings_both (Marks.an_end tag right ∷ a) b = beginnings_both a b
beginnings_both (Marks.a_name from ∷ a) b = ap (λ z. from ∷ z) (beginnings_both a b)

pub ends_both : (a b : List Mark) → Marks.ends_in (a ++ b) ≡ Marks.ends_in a ++ Marks.ends_in b
ends_both [] b = refl
ends_both (Marks.a_tag t ∷ a) b = ends_both a b
ends_both (Marks.an_end tag right ∷ a) b = ap (λ z. right ∷ z) (ends_both a b)
ends_both (Marks.a_name from ∷ a) b = ends_both a b

defined_both : (a b : List Mark) → Marks.defined_in (a ++ b) ≡ Marks.defined_in a ++ Marks.defined_in b
defined_both [] b = refl
defined_both (Marks.a_tag t ∷ a) b = defined_both a b
defined_both (Marks.an_end tag right ∷ a) b = ap (λ z. tag ∷ z) (defined_both a b)
defined_both (Marks.a_name from ∷ a) b = defined_both a b

tags_both : (a b : List Mark) → Marks.tags_in (a ++ b) ≡ Marks.tags_in a ++ Marks.tags_in b
tags_both [] b = refl
tags_both (Marks.a_tag t ∷ a) b = ap (λ z. t ∷ z) (tags_both a b)
tags_both (Marks.an_end tag right ∷ a) b = tags_both a b
tags_both (Marks.a_name from ∷ a) b = tags_both a b

pub two : {X : Type 0} (a b c d : List X) → a ≡ c → b ≡ d → a ++ b ≡ c ++ d
two a b c d p q = ap (λ a. a ++ b) p ∙ ap (λ b. c ++ b) q

pub names_same : (all : List Step) → names_of all ≡ Marks.scope_beginnings (marks_of all)
names_same [] = refl
names_same (events all ∷ more) = two _ _ _ _ (froms_same all) (names_same more) ∙ sym (beginnings_both (marks_in all) (marks_of more))
names_same (a_declarator at ∷ more) = names_same more
names_same (an_own e first place ∷ more) = names_same more
names_same (a_body items ∷ more) = names_same more

pub ends_same : (all : List Step) → ends_of all ≡ Marks.ends_in (marks_of all)
ends_same [] = refl
ends_same (events all ∷ more) = two _ _ _ _ (rights_same all) (ends_same more) ∙ sym (ends_both (marks_in all) (marks_of more))
ends_same (a_declarator at ∷ more) = ends_same more
ends_same (an_own e first place ∷ more) = ends_same more
ends_same (a_body items ∷ more) = ends_same more

pub defined_all_same : (all : List Step) → defined_of all ≡ Marks.defined_in (marks_of all)
defined_all_same [] = refl
defined_all_same (events all ∷ more) = two _ _ _ _ (defined_same all) (defined_all_same more) ∙ sym (defined_both (marks_in all) (marks_of more))
defined_all_same (a_declarator at ∷ more) = defined_all_same more
defined_all_same (an_own e first place ∷ more) = defined_all_same more
defined_all_same (a_body items ∷ more) = defined_all_same more

split : {X : Type 0} (P : X → Type 0) (a b : List X) → AllByRecursion P (a ++ b) → AllByRecursion P a × AllByRecursion P b
split P [] b h = (tt, h)
split P (x ∷ a) b h = let z = split P a b h.1 in ((h.0, z.0), z.1)

pub steps_tagged : (g : FileScope) (all : List Step) → AreTagged g (Marks.tags_in (marks_of all)) → AreStepsTagged g all
steps_tagged g [] h = tt
steps_tagged g (events all ∷ more) h =
    let z = split (λ (t : Tag). IsTagOf g t t.is_enumeration) (Marks.tags_in (marks_in all)) (Marks.tags_in (marks_of more))
    (subst (AreTagged g) (tags_both (marks_in all) (marks_of more)) h) in
    (subst (AreTagged g) (sym (tags_same all)) z.0, steps_tagged g more z.1)
steps_tagged g (a_declarator at ∷ more) h = steps_tagged g more h
steps_tagged g (an_own e first place ∷ more) h = steps_tagged g more h
steps_tagged g (a_body items ∷ more) h = steps_tagged g more h

-- ---- the order of steps

-- behind a declarator's name no name begins to be in scope at it or before
abbrev pub AreStepsInOrder : ℕ → List Step → Type 0
AreStepsInOrder low [] = Unit {0}
AreStepsInOrder low (events all ∷ more) = (middle : ℕ) × AreInOrder low all middle × AreStepsInOrder middle more
AreStepsInOrder low (a_declarator at ∷ more) = (low ≤ at) × AreStepsInOrder at more × AllByRecursion (λ m. suc at ≤ m) (names_of more)
AreStepsInOrder low (an_own e first place ∷ more) = AreStepsInOrder low more
AreStepsInOrder low (a_body items ∷ more) = AreStepsInOrder low more
