-- The parts of a unit, made stage by stage, are those of the definition.
use Rattle.std.proofs.Common.{◌≡◌, ℕ, ◌+◌, List, [], ◌∷◌, ◌++◌, length, map, refl, sym, ap, ◌∙◌, append_assoc}
use Rattle.std.specs.Prelude.{drop, flat_map, Option, Some, None, is_some}
use Rattle.std.specs.Option.{option_map}
use Rattle.std.proofs.lemmas.List.{append-nil, map-append}
use Rattle.std.proofs.lemmas.List.Concat.{flat_map-append}
use Rattle.c_types.specs.Types.{CType}
use Rattle.c_types.specs.Views.{type_of}
use Rattle.c_annotated.specs.FileViews.{object_of}
use Rattle.c_annotated.specs.declared.file.Object.{Object as FileObject}
use Rattle.c_typed.specs.Addressed.{addressed_by_statement}
use Rattle.c_typed.specs.InitialValues.{a_number, a_null, an_address, a_function}
use Rattle.c_typed.specs.Mapped.{mapped_initializer, mapped_statement, of_types}
use Rattle.c_typed.specs.Programs.{FunctionData, UnitData}
use Rattle.c_typed.specs.Trees as Trees
use Rattle.c_typed.specs.declared.program.Local.{Local}
use Rattle.c_typed.specs.declared.program.Object.{Object}
use Rattle.c_typed.specs.Walk.{types_in_statement}
use Rattle.c_erasure.specs.InitialMentions.{told_by_initial}
use Rattle.c_erasure.specs.Noted.{Noted}
use Rattle.c_erasure.specs.Scopes.{AFunction, ALocal, AMention, AnObject, FileScope}
use Rattle.c_erasure.specs.SizeOperands.{operands_in_statement}
use Rattle.c_erasure.specs.Units as U
use Rattle.c_units.specs.CollectedTypes.{function_types, object_types, stored_types}
use Rattle.c_units.specs.NumberedParts.{function_in, initial_in, locals_in, mention_in, object_in, taken_in}
use Rattle.c_units.specs.RecognisedParts.{recognised_function, recognised_object}
use Rattle.c_units.specs.SizeOperands.{given_mentions, kept, mentions_of, operands_of, told}
use Rattle.c_units.specs.UnitWith.{GivenParts, given_by, unit_with}
use Rattle.c_units.proofs.GivenParts.{all_types, given, numbered}
use Rattle.c_units.specs.ValuedObjects.{ValuedObject, valued}

-- ---- lists

mapped_alike : {A B C : Type 0} (g : B → C) (r : A → B) (h : A → C) → ((x : A) → g (r x) ≡ h x) → (all : List A) → map g (map r all) ≡ map h all
mapped_alike g r h at [] = refl
mapped_alike g r h at (x ∷ more) = ap (λ y. y ∷ map g (map r more)) (at x) ∙ ap (λ them. h x ∷ them) (mapped_alike g r h at more)

flat_alike : {A B C : Type 0} (g : B → List C) (r : A → B) (h : A → List C) → ((x : A) → g (r x) ≡ h x) → (all : List A)
    → flat_map g (map r all) ≡ flat_map h all
flat_alike g r h at [] = refl
flat_alike g r h at (x ∷ more) = ap (λ y. y ++ flat_map g (map r more)) (at x) ∙ ap (λ them. h x ++ them) (flat_alike g r h at more)

-- what stands in optional parts
flat_flat : {A B C : Type 0} (g : B → List C) (part : A → List B) (all : List A) → flat_map (λ x. flat_map g (part x)) all ≡ flat_map g (flat_map part all)
flat_flat g part [] = refl
flat_flat g part (x ∷ more) =
    ap (λ them. flat_map g (part x) ++ them) (flat_flat g part more) ∙ sym (flat_map-append g (part x) (flat_map part more))

any_alike : {A B C : Type 0} (g : B → List C) (r : A → B) (o : Option A) → flat_map g (U.if_any (option_map r o)) ≡ flat_map (λ x. g (r x)) (U.if_any o)
any_alike g r None = refl
any_alike g r (Some x) = refl

-- ---- mentions

told_recognised : (initial : Option (Trees.Initializer Noted))
    → told_by_initial (option_map (mapped_initializer (of_types (λ t. t.ty))) (option_map U.recognised_initializer initial))
    ≡ told_by_initial (option_map U.typed_initializer initial)
told_recognised None = refl
told_recognised (Some i) = refl

told_is : (all : List AnObject) → told (map recognised_object all) ≡ flat_map (λ o. told_by_initial (option_map U.typed_initializer o.initial)) all
told_is all = flat_alike (λ o. told_by_initial (option_map (mapped_initializer (of_types (λ t. t.ty))) o.initial)) recognised_object _
    (λ o. told_recognised o.initial) all

operands_are : (f : FileScope) → operands_of f.functions ≡ U.size_operands f
operands_are f = flat_flat operands_in_statement (λ g. U.if_any g.body) f.functions

pub mentions_are : (f : FileScope) → mentions_of f.objects f.functions f.mentions ≡ U.mentions f
mentions_are f =
    ap (λ them. kept (U.is_among them) f.mentions ++ told (map recognised_object f.objects)) (operands_are f)
    ∙ ap (λ them. kept (U.is_among (U.size_operands f)) f.mentions ++ them) (told_is f.objects)

-- ---- types

abbrev valued_object : FileScope → AnObject → ValuedObject
valued_object f o = valued (U.of_initializer f) (recognised_object o)

object_types_are : (f : FileScope) (o : AnObject) → object_types (valued_object f o) ≡ U.object_types f o
object_types_are f o = go o.initial
  where
    go : (initial : Option (Trees.Initializer Noted))
        → o.ty ∷ stored_types (option_map (λ i. U.of_initializer f (mapped_initializer (of_types (λ t. t.ty)) i)) (option_map U.recognised_initializer initial))
        ≡ o.ty ∷ flat_map U.type_if_pointer (flat_map (λ i. U.of_initializer f (U.typed_initializer i)) (U.if_any initial))
    go None = refl
    go (Some i) =
        let stores = U.of_initializer f (U.typed_initializer i) in
        ap (λ them. o.ty ∷ flat_map U.type_if_pointer them) (sym (append-nil stores))

function_types_are : (g : AFunction) → function_types (recognised_function g) ≡ U.function_types g
function_types_are g =
    let left = flat_map (λ s. map (λ t. t.ty) (types_in_statement (U.recognised_statement s))) (U.if_any g.body) in
    ap (λ them. g.ty ∷ (map (λ l. l.ty) g.parameters ++ (map (λ l. l.ty) g.locals ++ them)))
    (any_alike (λ s. map (λ t. t.ty) (types_in_statement s)) U.recognised_statement g.body)
    ∙ ap (λ them. g.ty ∷ them) (sym (append_assoc (map (λ l. l.ty) g.parameters) (map (λ l. l.ty) g.locals) left))
    ∙ ap (λ them. g.ty ∷ (them ++ left)) (sym (map-append (λ (l : ALocal). l.ty) g.parameters g.locals))

pub types_are : (f : FileScope) (objects : List ValuedObject) (functions : List AFunction) (mentions : List AMention)
    → objects ≡ map (valued_object f) f.objects → functions ≡ map recognised_function f.functions → mentions ≡ U.mentions f
    → U.new_among [] (all_types objects functions mentions) ≡ U.types f
types_are f objects functions mentions h k e =
    ap (λ them. U.new_among [] (all_types them functions mentions)) h
    ∙ ap (λ them. U.new_among [] (all_types (map (valued_object f) f.objects) them mentions)) k
    ∙ ap (λ them. U.new_among [] (all_types (map (valued_object f) f.objects) (map recognised_function f.functions) them)) e
    ∙ ap (λ them. U.new_among [] (them ++ (flat_map function_types (map recognised_function f.functions) ++ map (λ m. m.ty) (U.mentions f))))
    (flat_alike object_types (valued_object f) (U.object_types f) (object_types_are f) f.objects)
    ∙ ap (λ them. U.new_among [] (flat_map (U.object_types f) f.objects ++ (them ++ map (λ m. m.ty) (U.mentions f))))
    (flat_alike function_types recognised_function U.function_types function_types_are f.functions)
    ∙ ap (U.new_among []) (sym (append_assoc (flat_map (U.object_types f) f.objects) (flat_map U.function_types f.functions) (map (λ m. m.ty) (U.mentions f))))

-- ---- objects

initial_is : (f : FileScope) (s : U.Stores) → initial_in (U.types f) s ≡ U.initial f s
initial_is f (at, t, a_number kind v) = refl
initial_is f (at, t, a_null) = refl
initial_is f (at, t, an_address a) = refl
initial_is f (at, t, a_function g) = refl

object_is : (f : FileScope) (o : AnObject) → object_in (U.types f) (valued_object f o) ≡ U.object f o
object_is f o = ap (λ initial. record { name = o.name; place = o.place; ty = U.number_in (U.types f) o.ty; linked = o.is_linked; text = is_some o.literal; initial = initial }) (go o.initial)
  where
    initials : initial_in (U.types f) ≡ U.initial f
    initials = λ i s. initial_is f s i

    go : (initial : Option (Trees.Initializer Noted))
        → option_map (map (initial_in (U.types f)))
        (option_map (λ i. U.of_initializer f (mapped_initializer (of_types (λ t. t.ty)) i)) (option_map U.recognised_initializer initial))
        ≡ option_map (λ i. map (U.initial f) (U.of_initializer f (U.typed_initializer i))) initial
    go None = refl
    go (Some i) = ap (λ one. Some (map one (U.of_initializer f (U.typed_initializer i)))) initials

-- ---- functions

locals_are : (f : FileScope) (taken : List ℕ) (n : ℕ) (all : List ALocal) → locals_in (U.types f) (U.is_among taken) n all ≡ U.locals f taken n all
locals_are f taken n [] = refl
locals_are f taken n (l ∷ more) =
    ap (λ them. record { name = l.name; ty = U.number_in (U.types f) l.ty; block = U.is_block taken n l.ty } ∷ them) (locals_are f taken (n + 1) more)

abbrev with_parts : FileScope → AFunction → (parameters others : List Local) → Option (Trees.Statement ℕ) → FunctionData
with_parts f g parameters others body = record {
  name = g.name;
  place = g.place;
  ty = U.number_in (U.types f) g.ty;
  is_linked = g.is_linked;
  parameters = parameters;
  locals = others;
  body = body;
  nodes = g.nodes;
}

composed : (numbers : Trees.Statement Noted → Trees.Statement ℕ) (body : Option (Trees.Statement Noted))
    → option_map numbers (option_map U.recognised_statement body) ≡ option_map (λ s. numbers (U.recognised_statement s)) body
composed numbers None = refl
composed numbers (Some s) = refl

function_is : (f : FileScope) (g : AFunction) → function_in (U.types f) (recognised_function g) ≡ U.function f g
function_is f g =
    let types = U.types f in
    let taken : taken_in (recognised_function g) ≡ U.taken_in g = any_alike addressed_by_statement U.recognised_statement g.body in
    let numbers = mapped_statement (of_types (λ (t : Noted). U.number_in types t.ty)) in
    let body = option_map numbers (option_map U.recognised_statement g.body) in
    ap (λ them. with_parts f g (locals_in types (U.is_among them) 0 g.parameters) (locals_in types (U.is_among them) (length g.parameters) g.locals) body) taken
    ∙ ap (λ them. with_parts f g them (locals_in types (U.is_among (U.taken_in g)) (length g.parameters) g.locals) body) (locals_are f (U.taken_in g) 0 g.parameters)
    ∙ ap (λ them. with_parts f g (U.locals f (U.taken_in g) 0 g.parameters) them body) (locals_are f (U.taken_in g) (length g.parameters) g.locals)
    ∙ ap (λ them. with_parts f g (U.locals f (U.taken_in g) 0 g.parameters) (U.locals f (U.taken_in g) (length g.parameters) g.locals) them) (composed numbers g.body)

-- ---- the unit

abbrev made_unit : ℕ → FileScope → GivenParts → List (List ℕ) → UnitData
made_unit nodes f given incomplete = record {
  records = f.records;
  incomplete = incomplete;
  types = given.types;
  objects = given.objects;
  functions = given.functions;
  mentions = given.mentions;
  nodes = nodes;
}

pub objects_are : (f : FileScope) (types : List CType) (objects : List ValuedObject) → types ≡ U.types f → objects ≡ map (valued_object f) f.objects
    → map (object_in types) objects ≡ map (U.object f) f.objects
objects_are f types objects h k =
    ap (λ them. map (object_in them) objects) h ∙ ap (map (object_in (U.types f))) k
    ∙ mapped_alike (object_in (U.types f)) (valued_object f) (U.object f) (object_is f) f.objects

pub functions_are : (f : FileScope) (types : List CType) (functions : List AFunction) → types ≡ U.types f → functions ≡ map recognised_function f.functions
    → map (function_in types) functions ≡ map (U.function f) f.functions
functions_are f types functions h k =
    ap (λ them. map (function_in them) functions) h ∙ ap (map (function_in (U.types f))) k
    ∙ mapped_alike (function_in (U.types f)) recognised_function (U.function f) (function_is f) f.functions

types_stay : (all : List AnObject) → map (λ o. o.ty) (map recognised_object all) ≡ map (λ o. o.ty) all
types_stay all = mapped_alike (λ (o : AnObject). o.ty) recognised_object (λ o. o.ty) (λ o. refl) all

pub types_left : (all : List AnObject) (left : List FileObject) → map object_of left ≡ map recognised_object all → map (λ o. o.ty) all ≡ map (λ o. type_of o.ty) left
types_left all left h =
    sym (types_stay all) ∙ ap (map (λ (o : AnObject). o.ty)) (sym h)
    ∙ mapped_alike (λ (o : AnObject). o.ty) object_of (λ (o : FileObject). type_of o.ty) (λ o. refl) left

pub given_is : (f : FileScope) (file : ℕ) (left : List AnObject) (objects : List ValuedObject) (functions : List AFunction) (mentions : List AMention)
    → f.file ≡ file → left ≡ map recognised_object f.objects → objects ≡ map (valued (U.of_initializer f)) left
    → functions ≡ map recognised_function f.functions → mentions ≡ mentions_of f.objects f.functions f.mentions
    → given file objects functions mentions ≡ given_by f
given_is f file left objects functions mentions n l v k e =
    let all = U.types f in
    let h : objects ≡ map (valued_object f) f.objects = v ∙ ap (map (valued (U.of_initializer f))) l
    ∙ mapped_alike (valued (U.of_initializer f)) recognised_object (valued_object f) (λ o. refl) f.objects in
    let m : mentions ≡ U.mentions f = e ∙ mentions_are f in
    ap (λ them. numbered them file objects functions mentions) (types_are f objects functions mentions h k m)
    ∙ ap (λ (them : List Object). record { types = all; objects = them; functions = map (function_in all) functions; mentions = map (mention_in all file) mentions }) (objects_are f all objects refl h)
    ∙ ap (λ (them : List FunctionData). record { types = all; objects = map (U.object f) f.objects; functions = them; mentions = map (mention_in all file) mentions }) (functions_are f all functions refl k)
    ∙ ap (λ (them : List AMention). record { types = all; objects = map (U.object f) f.objects; functions = map (U.function f) f.functions; mentions = map (mention_in all file) them }) m
    ∙ ap (λ (it : ℕ). record { types = all; objects = map (U.object f) f.objects; functions = map (U.function f) f.functions; mentions = map (mention_in all it) (U.mentions f) }) (sym n)

pub unit_is : (nodes : ℕ) (f : FileScope) (given : GivenParts) (incomplete : List (List ℕ)) → given ≡ given_by f
    → incomplete ≡ drop (length f.records) f.numbered → made_unit nodes f given incomplete ≡ unit_with nodes f
unit_is nodes f given incomplete g i = ap (λ it. made_unit nodes f it incomplete) g ∙ ap (made_unit nodes f (given_by f)) i

pub mentions_given : (f : FileScope) (left : List AnObject) (functions : List AFunction) (all others : List AMention) → left ≡ map recognised_object f.objects
    → f.functions ≡ functions → f.mentions ≡ all → others ≡ told left → given_mentions functions all others ≡ mentions_of f.objects f.functions f.mentions
mentions_given f left functions all others l g m o =
    ap (λ them. given_mentions them all others) (sym g) ∙ ap (λ them. given_mentions f.functions them others) (sym m)
    ∙ ap (given_mentions f.functions f.mentions) (o ∙ ap told l)
