-- What stands in a part of the text, in the order of the text: what it declares, and the bytes at which it looks at what is declared before.
use Rattle.std.proofs.Common.{◌≡◌, ℕ, suc, ◌+◌, Bool, true, false, List, [], ◌∷◌, ◌++◌, length, refl, ap, ◌∙◌, subst, arith}
use Rattle.std.specs.Prelude.{◌<◌, ◌≢◌, not, ◌&&◌, Option, Some, None, slice_get}
use Rattle.c_types.specs.Types.{Record}
use Rattle.c_ast.specs.declared.words.Spelling.{Spelling}
use Rattle.c_ast.specs.Trees
use Rattle.c_ast.specs.Places.{first, first_text, first_declarator}
use Rattle.c_erasure.specs.Erasure.{after_all, comma_or}
use Rattle.c_erasure.specs.Marks.{tag_name, tag_place}
use Rattle.c_erasure.specs.Scopes.{Bound, Tag, AnObject, FileScope, Purpose, in_full, value_alone, type_alone, purpose_of_value, ended, tag_at}
use Rattle.c_erasure.specs.Checking.Declaring.{tag_named}

pub data Event : Type 0 where
  -- a name is asked for there
  a_use : (at : ℕ) → Event
  -- records that are complete are asked for there
  a_look : (at : ℕ) → Event
  a_tag : (t : Tag) → Event
  -- the definition of a structure ends
  an_end : (tag : List ℕ) → (right : ℕ) → Event
  -- a name is in scope from there on
  a_name : (from : ℕ) → Event
  -- an object of the file begins: a string literal, or one that a block declares
  a_literal : (at : ℕ) → Event

-- ---- structures and names are declared at file scope alone, and literals where all is evaluated

abbrev pub is_kept : Event → (is_inside : Bool) → Purpose → Bool
is_kept (a_use at) i p = true
is_kept (a_look at) i p = true
is_kept (a_tag t) i p = not i
is_kept (an_end tag right) i p = not i
is_kept (a_name from) i p = not i
is_kept (a_literal at) i in_full = true
is_kept (a_literal at) i value_alone = false
is_kept (a_literal at) i type_alone = false

abbrev pub with_event : Bool → Event → List Event → List Event
with_event true e all = e ∷ all
with_event false e all = all

abbrev pub seen : (is_inside : Bool) → Purpose → List Event → List Event
seen i p [] = []
seen i p (e ∷ all) = with_event (is_kept e i p) e (seen i p all)

pub seen_append : (i : Bool) (p : Purpose) (a b : List Event) → seen i p (a ++ b) ≡ seen i p a ++ seen i p b
seen_append i p [] b = refl
seen_append i p (e ∷ a) b = by_test (is_kept e i p) (seen_append i p a b)
  where
    by_test : (k : Bool) → seen i p (a ++ b) ≡ seen i p a ++ seen i p b → with_event k e (seen i p (a ++ b)) ≡ with_event k e (seen i p a) ++ seen i p b
    by_test true h = ap (λ all. e ∷ all) h
    by_test false h = h

-- what is seen in two ways, one after the other
abbrev Agree : (i j k : Bool) → (p q r : Purpose) → Type 0
Agree i j k p q r = (e : Event) → (is_kept e j q && is_kept e i p) ≡ is_kept e k r

seen_twice : (i j k : Bool) (p q r : Purpose) → Agree i j k p q r → (all : List Event) → seen i p (seen j q all) ≡ seen k r all
seen_twice i j k p q r h [] = refl
seen_twice i j k p q r h (e ∷ all) = by_test (is_kept e j q) refl (seen_twice i j k p q r h all)
  where
    by_test : (b : Bool) → is_kept e j q ≡ b → seen i p (seen j q all) ≡ seen k r all
        → seen i p (with_event b e (seen j q all)) ≡ with_event (is_kept e k r) e (seen k r all)
    by_test true f w =
        let same : is_kept e i p ≡ is_kept e k r = subst (λ b. (b && is_kept e i p) ≡ is_kept e k r) f (h e) in
        ap (λ b. with_event b e (seen i p (seen j q all))) same ∙ ap (with_event (is_kept e k r) e) w
    by_test false f w =
        let same : false ≡ is_kept e k r = subst (λ b. (b && is_kept e i p) ≡ is_kept e k r) f (h e) in
        w ∙ ap (λ b. with_event b e (seen k r all)) same

-- parameters
pub seen_inside : (i : Bool) (p : Purpose) (all : List Event) → seen i p (seen true in_full all) ≡ seen true p all
seen_inside i p all = seen_twice i true true p in_full p agree all
  where
    agree : Agree i true true p in_full p
    agree (a_use at) = refl
    agree (a_look at) = refl
    agree (a_tag t) = refl
    agree (an_end tag right) = refl
    agree (a_name from) = refl
    agree (a_literal at) = refl

-- what is used for its value or its type alone
pub seen_for_value : (i : Bool) (p : Purpose) (all : List Event) → seen i p (seen false value_alone all) ≡ seen i (purpose_of_value p) all
seen_for_value i p all = seen_twice i false i p value_alone (purpose_of_value p) (agree p) all
  where
    agree : (p : Purpose) → Agree i false i p value_alone (purpose_of_value p)
    agree p (a_use at) = refl
    agree p (a_look at) = refl
    agree p (a_tag t) = refl
    agree p (an_end tag right) = refl
    agree p (a_name from) = refl
    agree in_full (a_literal at) = refl
    agree value_alone (a_literal at) = refl
    agree type_alone (a_literal at) = refl

pub seen_measured : (i : Bool) (p : Purpose) (all : List Event) → seen i p (seen false value_alone all) ≡ seen i type_alone all
seen_measured i p all = seen_twice i false i p value_alone type_alone agree all
  where
    agree : Agree i false i p value_alone type_alone
    agree (a_use at) = refl
    agree (a_look at) = refl
    agree (a_tag t) = refl
    agree (an_end tag right) = refl
    agree (a_name from) = refl
    agree (a_literal at) = refl

-- ---- of each part of a tree

module _ (untagged : ℕ → List ℕ) where
  abbrev pub a_structure : ℕ → Option Spelling → Event
  a_structure at x = a_tag (record { name = tag_name untagged at x; place = tag_place untagged at x; from = tag_place untagged at x; is_enumeration = false })

  abbrev pub an_enumeration : Option Spelling → ℕ → List Event
  an_enumeration None right = []
  an_enumeration (Some x) right = a_tag (record { name = x.text; place = x.from; from = right; is_enumeration = true }) ∷ []

  abbrev mutual
    pub walk : Trees.Expression → List Event
    walk (Trees.name x) = a_use x.from ∷ []
    walk (Trees.number x n kind) = []
    walk (Trees.character x n) = []
    walk (Trees.texts all) = a_literal (first_text all) ∷ []
    walk (Trees.paren left a right) = walk a
    walk (Trees.index a left b right) = a_look (first a) ∷ walk a ++ walk b
    walk (Trees.call f left all right) = walk f ++ walk_of_all all
    walk (Trees.dot a at x) = walk a ++ a_look at ∷ []
    walk (Trees.arrow a at x) = a_look (first a) ∷ walk a
    walk (Trees.post a op at) = walk a
    walk (Trees.pre op at a) = walk a
    walk (Trees.unary op at a) = a_look at ∷ walk a
    walk (Trees.sizeof_expression at a) = a_look at ∷ seen false value_alone (walk a)
    walk (Trees.sizeof_type at left n right) = walk_of_type n ++ a_look right ∷ []
    walk (Trees.cast left n right a) = walk_of_type n ++ walk a
    walk (Trees.binary a op at b) = a_look (first a) ∷ walk a ++ walk b
    walk (Trees.cond a question b colon c) = walk a ++ walk b ++ walk c
    walk (Trees.assign a op at b) = walk a ++ walk b
    walk (Trees.comma a at b) = walk a ++ walk b
    walk (Trees.braces left all comma right) = walk_of_all all

    pub walk_of_all : Trees.Arguments → List Event
    walk_of_all Trees.no_arguments = []
    walk_of_all (Trees.and_argument comma a more) = walk a ++ walk_of_all more

    pub walk_if_any : Trees.OptionalExpression → List Event
    walk_if_any Trees.no_expression = []
    walk_if_any (Trees.some_expression a) = seen false value_alone (walk a)

    pub walk_of_type : Trees.TypeName → List Event
    walk_of_type (Trees.type_name specs d) = walk_of_specifiers specs ++ walk_of_declarator d

    pub walk_of_specifiers : Trees.Specifiers → List Event
    walk_of_specifiers Trees.no_specifiers = []
    walk_of_specifiers (Trees.and_specifier s more) = walk_of_specifier s ++ walk_of_specifiers more

    pub walk_of_specifier : Trees.Specifier → List Event
    walk_of_specifier (Trees.plain word at) = []
    walk_of_specifier (Trees.typename x) = a_use x.from ∷ []
    walk_of_specifier (Trees.struct_named at x) = a_structure at (Some x) ∷ []
    walk_of_specifier (Trees.struct_body at x left all right) = a_structure at x ∷ walk_of_members all ++ an_end (tag_name untagged at x) right ∷ []
    walk_of_specifier (Trees.enum_named at x) = []
    walk_of_specifier (Trees.enum_body at x left all comma right) = walk_of_enumerators all (after_all comma right) ++ an_enumeration x right

    pub walk_of_members : Trees.MemberDeclarations → List Event
    walk_of_members Trees.no_member_declarations = []
    walk_of_members (Trees.and_member_declaration specs ds semicolon more) =
        walk_of_specifiers specs ++ walk_of_member_declarators ds semicolon ++ walk_of_members more

    pub walk_of_member_declarators : Trees.MemberDeclarators → (semicolon : ℕ) → List Event
    walk_of_member_declarators Trees.no_member_declarators semicolon = []
    walk_of_member_declarators (Trees.and_member_declarator comma d more) semicolon =
        a_look (first_declarator d semicolon) ∷ walk_of_declarator d ++ walk_of_member_declarators more semicolon

    pub walk_of_enumerators : Trees.Enumerators → ℕ → List Event
    walk_of_enumerators Trees.no_enumerators after = []
    walk_of_enumerators (Trees.and_enumerator comma x value more) after =
        walk_of_value value ++ a_name (comma_or more after) ∷ walk_of_enumerators more after

    pub walk_of_value : Trees.EnumeratorValue → List Event
    walk_of_value Trees.no_value = []
    walk_of_value (Trees.valued equal a) = seen false value_alone (walk a)

    pub walk_of_declarator : Trees.Declarator → List Event
    walk_of_declarator Trees.nothing = []
    walk_of_declarator (Trees.named x) = []
    walk_of_declarator (Trees.pointer at consts d) = walk_of_declarator d
    walk_of_declarator (Trees.enclosed left d right) = walk_of_declarator d
    walk_of_declarator (Trees.array d left length right) = walk_of_declarator d ++ a_look left ∷ walk_if_any length
    walk_of_declarator (Trees.function d left all right) = walk_of_declarator d ++ seen true in_full (walk_of_parameter_list all)

    pub walk_of_parameter_list : Trees.ParameterList → List Event
    walk_of_parameter_list (Trees.void_alone at) = []
    walk_of_parameter_list (Trees.listed all) = walk_of_parameters all

    pub walk_of_parameters : Trees.Parameters → List Event
    walk_of_parameters Trees.no_parameters = []
    walk_of_parameters (Trees.and_parameter comma specs d more) = walk_of_specifiers specs ++ walk_of_declarator d ++ walk_of_parameters more

-- ---- how many names, records and objects a part declares

abbrev pub names_in : List Event → ℕ
names_in [] = 0
names_in (a_name from ∷ all) = suc (names_in all)
names_in (e ∷ all) = names_in all

abbrev pub ends_in : List Event → ℕ
ends_in [] = 0
ends_in (an_end tag right ∷ all) = suc (ends_in all)
ends_in (e ∷ all) = ends_in all

abbrev pub literals_in : List Event → ℕ
literals_in [] = 0
literals_in (a_literal at ∷ all) = suc (literals_in all)
literals_in (e ∷ all) = literals_in all

-- ---- what stands in the lists of a whole file, from a number of names, of records and of objects on

-- the tag of an enumeration stands nowhere else, and that of a structure is none of an enumeration
abbrev pub IsTagOf : FileScope → Tag → Bool → Type 0
IsTagOf g t true = tag_named g.tags t.name ≡ Some t
IsTagOf g t false = (at : ℕ) → tag_at g.tags t.name at ≢ Some true

abbrev pub IsNamedFrom : List Bound → ℕ → ℕ → Type 0
IsNamedFrom names n from = (b : Bound) × (slice_get names n ≡ Some b) × (b.from ≡ from)

abbrev pub IsTagged : List Record → ℕ → List ℕ → Type 0
IsTagged records r tag = (rec : Record) × (slice_get records r ≡ Some rec) × (rec.tag ≡ tag)

abbrev pub IsFirstAt : List AnObject → ℕ → ℕ → Type 0
IsFirstAt objects o at = (object : AnObject) × (slice_get objects o ≡ Some object) × (object.first ≡ at)

-- later names are not yet in scope, and so many records are complete
abbrev pub IsAsked : FileScope → (n r : ℕ) → ℕ → Type 0
IsAsked g n r at = ((k : ℕ) (b : Bound) → slice_get g.names (n + k) ≡ Some b → at < b.from) × (ended g.ends at ≡ r)

abbrev pub Follows : FileScope → (n r o : ℕ) → List Event → Type 0
Follows g n r o [] = Unit {0}
Follows g n r o (a_use at ∷ all) = IsAsked g n r at × Follows g n r o all
Follows g n r o (a_look at ∷ all) = (ended g.ends at ≡ r) × Follows g n r o all
Follows g n r o (a_tag t ∷ all) = IsTagOf g t t.is_enumeration × Follows g n r o all
Follows g n r o (an_end tag right ∷ all) = IsTagged g.records r tag × Follows g n (suc r) o all
Follows g n r o (a_name from ∷ all) = IsNamedFrom g.names n from × Follows g (suc n) r o all
Follows g n r o (a_literal at ∷ all) = IsFirstAt g.objects o at × Follows g n r (suc o) all

pub follows_left : (g : FileScope) (n r o : ℕ) (a b : List Event) → Follows g n r o (a ++ b) → Follows g n r o a
follows_left g n r o [] b h = tt
follows_left g n r o (a_use at ∷ a) b h = (h.0, follows_left g n r o a b h.1)
follows_left g n r o (a_look at ∷ a) b h = (h.0, follows_left g n r o a b h.1)
follows_left g n r o (a_tag t ∷ a) b h = (h.0, follows_left g n r o a b h.1)
follows_left g n r o (an_end tag right ∷ a) b h = (h.0, follows_left g n (suc r) o a b h.1)
follows_left g n r o (a_name from ∷ a) b h = (h.0, follows_left g (suc n) r o a b h.1)
follows_left g n r o (a_literal at ∷ a) b h = (h.0, follows_left g n r (suc o) a b h.1)

-- after a part that leaves these numbers
pub follows_right : (g : FileScope) (n r o m q p : ℕ) (a b : List Event) → m ≡ n + names_in a → q ≡ r + ends_in a → p ≡ o + literals_in a
    → Follows g n r o (a ++ b) → Follows g m q p b
follows_right g n r o m q p [] b e f i h =
    let e' : n ≡ m = omega (arith, e) in
    let f' : r ≡ q = omega (arith, f) in
    let i' : o ≡ p = omega (arith, i) in
    subst (λ m. Follows g m q p b) e' (subst (λ q. Follows g n q p b) f' (subst (λ p. Follows g n r p b) i' h))
follows_right g n r o m q p (a_use at ∷ a) b e f i h = follows_right g n r o m q p a b e f i h.1
follows_right g n r o m q p (a_look at ∷ a) b e f i h = follows_right g n r o m q p a b e f i h.1
follows_right g n r o m q p (a_tag t ∷ a) b e f i h = follows_right g n r o m q p a b e f i h.1
follows_right g n r o m q p (an_end tag right ∷ a) b e f i h = follows_right g n (suc r) o m q p a b e (omega (arith, f)) i h.1
follows_right g n r o m q p (a_name from ∷ a) b e f i h = follows_right g (suc n) r o m q p a b (omega (arith, e)) f i h.1
follows_right g n r o m q p (a_literal at ∷ a) b e f i h = follows_right g n r (suc o) m q p a b e f (omega (arith, i)) h.1

pub names_append : (a b : List Event) → names_in (a ++ b) ≡ names_in a + names_in b
names_append [] b = omega arith
names_append (a_use at ∷ a) b = names_append a b
names_append (a_look at ∷ a) b = names_append a b
names_append (a_tag t ∷ a) b = names_append a b
names_append (an_end tag right ∷ a) b = names_append a b
names_append (a_name from ∷ a) b = let e = names_append a b in omega (arith, e)
names_append (a_literal at ∷ a) b = names_append a b

pub ends_append : (a b : List Event) → ends_in (a ++ b) ≡ ends_in a + ends_in b
ends_append [] b = omega arith
ends_append (a_use at ∷ a) b = ends_append a b
ends_append (a_look at ∷ a) b = ends_append a b
ends_append (a_tag t ∷ a) b = ends_append a b
ends_append (an_end tag right ∷ a) b = let e = ends_append a b in omega (arith, e)
ends_append (a_name from ∷ a) b = ends_append a b
ends_append (a_literal at ∷ a) b = ends_append a b

pub literals_append : (a b : List Event) → literals_in (a ++ b) ≡ literals_in a + literals_in b
literals_append [] b = omega arith
literals_append (a_use at ∷ a) b = literals_append a b
literals_append (a_look at ∷ a) b = literals_append a b
literals_append (a_tag t ∷ a) b = literals_append a b
literals_append (an_end tag right ∷ a) b = literals_append a b
literals_append (a_name from ∷ a) b = literals_append a b
literals_append (a_literal at ∷ a) b = let e = literals_append a b in omega (arith, e)
