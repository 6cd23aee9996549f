-- A definition of a function stops at a place of its tokens, and so do a whole item and a whole file.
use Rattle.std.proofs.Common.{ℕ, zero, suc, ◌+◌, Bool, true, false, cond, List, [], ◌∷◌, length, Option, Some, None, refl}
use Rattle.std.specs.Prelude.{slice_get, slice_set}
use Rattle.std.specs.List.{AllByRecursion}
use Rattle.lay_base.specs.declared.faults.Rule.TheVariants as R
use Rattle.c_types.specs.Types.{CType, CTypes, function, no_types, and_type}
use Rattle.c_ast.specs.declared.words.Spelling.{Spelling}
use Rattle.c_ast.specs.Trees
use Rattle.c_ast.specs.Places.{first_specifiers, first_declarator}
use Rattle.c_tokens.specs.declared.punctuator.Punctuator.TheVariants as M
use Rattle.c_ast.specs.Spelling.{Lexeme, punctuator, spelled_declarator, spelled_parameter_list, spelled_parameters, spelled_specifiers, spelled_block_items}
use Rattle.c_ast.specs.Spelling.{spelled_item, spelled_items}
use Rattle.c_typed.specs.declared.program.MentionKind.TheVariants.{Named}
use Rattle.c_erasure.specs.Declarators.{declared_name, is_name, Shape, closed}
use Rattle.c_erasure.specs.Files.{bound, parameters_of, in_body}
use Rattle.c_erasure.specs.Marks.{Mark, a_tag, an_end, a_name, tags_in, firsts, is_among, marks_of_file}
use Rattle.c_erasure.specs.Scopes.{Bound, Tag, AnObject, ALocal, AFunction, FileScope, at_file_scope}
use Rattle.c_erasure.specs.Specifiers.{Storage, no_storage, is_extern, is_static, storage_of}
use Rattle.c_erasure.specs.Statements.{Statements}
use Rattle.c_erasure.specs.Checking.Answers.{Answer}
use Rattle.c_erasure.specs.Checking.Declaring as D
use Rattle.c_erasure.specs.Checking.Finding.{base_type, one_of, derivations}
use Rattle.c_erasure.specs.Checking.Statements.{items_in}
use Rattle.c_erasure.specs.Checking.Files as F
use Rattle.c_checking_units.proofs.FaultPlaces.Given.{Gives, AreAt, IsAt, IsIn, found, refuses, then}
use Rattle.c_checking_units.proofs.FaultPlaces.Tokens.{Tokens, IsTagAt, back, comma_after, consts_after, specifiers_behind, declarator_behind}
use Rattle.c_checking_units.proofs.FaultPlaces.Firsts.{IsNameAt, specifiers_begin, declarator_begins, name_at}
use Rattle.c_checking_units.proofs.FaultPlaces.Blocks.{item_behind, items_behind}
use Rattle.c_checking_units.proofs.FaultPlaces.Declaring.{mentioned, bound_added, derived_stops, declared_among_at}
use Rattle.c_checking_units.proofs.FaultPlaces.Finding.{specified_found, derivations_found}
use Rattle.c_checking_units.proofs.FaultPlaces.Bodies.{items_performed}
use Rattle.c_checking_units.proofs.FaultPlaces.Files.{in_file, place_in_file, own_name_given, main_function_given, once_given, defined_among_at, function_given}
use Rattle.c_checking_units.proofs.FaultPlaces.Files.{declaration_found}

-- ---- parameters

-- the parameters of a list stand at tokens
abbrev IsListAt : (ℕ → Type 0) → Option Trees.ParameterList → Type 0
IsListAt P None = Unit {0}
IsListAt P (Some (Trees.void_alone at)) = Unit {0}
IsListAt P (Some (Trees.listed all)) = (rest : List Lexeme) × Tokens P (spelled_parameters all rest)

abbrev AreReceivedAt : (ℕ → Type 0) → Option F.Received → Type 0
AreReceivedAt P None = Unit {0}
AreReceivedAt P (Some p) = AllByRecursion (λ b. P b.place) p.bounds

module _ (P : ℕ → Type 0) (begin : P 0) where
  received_at : (x : Option Spelling) (k : ℕ) (t : CType) (more : Option F.Received) → IsNameAt P x → AreReceivedAt P more
      → AreReceivedAt P (F.received_if_named x k t more)
  received_at None k t more p q = tt
  received_at (Some x) k t None p q = tt
  received_at (Some x) k t (Some more) p q = (p, q)

  parameters_at : (all : Trees.Parameters) (types : CTypes) (k : ℕ) (rest : List Lexeme) → Tokens P (spelled_parameters all rest)
      → AreReceivedAt P (F.named_parameters all types k)
  parameters_at Trees.no_parameters no_types k rest h = tt
  parameters_at Trees.no_parameters (and_type t types) k rest h = tt
  parameters_at (Trees.and_parameter comma specs d more) no_types k rest h = tt
  parameters_at (Trees.and_parameter comma specs d more) (and_type t types) k rest h =
      let own = (specifiers_behind P (λ at. []) specs (comma_after comma h)).tokens in
      received_at (declared_name d) k t (F.named_parameters more types (k + 1)) (name_at P begin d _ own)
      (parameters_at more types (k + 1) rest (declarator_behind P (λ at. []) d own).tokens)

  received_by_at : (o : Option Trees.ParameterList) (types : CTypes) → IsListAt P o → AreReceivedAt P (F.received_by o types)
  unfolding F.received_by
  received_by_at None types p = tt
  received_by_at (Some (Trees.void_alone at)) no_types p = tt
  received_by_at (Some (Trees.void_alone at)) (and_type t types) p = tt
  received_by_at (Some (Trees.listed all)) types p = parameters_at all types 0 p.0 p.1

  chosen_list : (b : Bool) (x y : Option Trees.ParameterList) → IsListAt P x → IsListAt P y → IsListAt P (cond b x y)
  chosen_list true x y p q = p
  chosen_list false x y p q = q

  list_at : (all : Trees.ParameterList) (right : ℕ) (rest : List Lexeme) → Tokens P (spelled_parameter_list all rest) → IsListAt P (Some all)
  list_at (Trees.void_alone at) right rest h = tt
  list_at (Trees.listed all) right rest h = (rest, h)

  parameters_of_at : (d : Trees.Declarator) (rest : List Lexeme) → Tokens P (spelled_declarator d rest) → IsListAt P (parameters_of d)
  parameters_of_at Trees.nothing rest h = tt
  parameters_of_at (Trees.named x) rest h = tt
  parameters_of_at (Trees.pointer at consts d) rest h = parameters_of_at d _ (consts_after consts (back h))
  parameters_of_at (Trees.enclosed left d right) rest h = parameters_of_at d _ (back h)
  parameters_of_at (Trees.array d left bound right) rest h = parameters_of_at d _ h
  parameters_of_at (Trees.function d left all right) rest h =
      chosen_list (is_name d) _ _ (list_at all right _ (back (declarator_behind P (λ at. []) d h).tokens)) (parameters_of_at d _ h)

-- ---- definitions

functions_set : {number : ℕ} {P : ℕ → Type 0} (all : List AFunction) (n : ℕ) (g : AFunction) → AllByRecursion (λ g. IsAt number P g.place) all
    → IsAt number P g.place → AllByRecursion (λ g. IsAt number P g.place) (slice_set all n g)
functions_set [] n g p q = tt
functions_set (x ∷ all) zero g p q = (q, p.1)
functions_set (x ∷ all) (suc n) g p q = (p.0, functions_set all n g p.1 q)

body_added : {number : ℕ} {P : ℕ → Type 0} (f : FileScope) (n place count nodes : ℕ) (all : Statements) (locals : List ALocal) (o : Option AFunction)
    → AreAt number P f → P place → AreAt number P (F.with_body f n place count nodes all locals o)
body_added f n place count nodes all locals None k p = k
body_added f n place count nodes all locals (Some g) k p = record {
  file = k.file;
  names = k.names;
  tags = k.tags;
  records = k.records;
  fields = k.fields;
  objects = k.objects;
  functions = functions_set f.functions n _ k.functions (place_in_file f place k p);
  mentions = k.mentions;
}

module _ (number : ℕ) (P : ℕ → Type 0) (begin : P 0) where
  abbrev Files : Answer FileScope → Type 0
  Files r = Gives P (AreAt number P) r

  body_found : (f : FileScope) (n place nodes : ℕ) (result : CType) (items : Trees.BlockItems) (p : F.Received) (rest : List Lexeme) → AreAt number P f
      → P place → AllByRecursion (λ b. P b.place) p.bounds → Tokens P (spelled_block_items items rest)
      → Files (F.function_body f n place nodes result items p)
  body_found f n place nodes result items p rest k q b h =
      let inner : IsIn number P (in_body f p.bounds p.locals) = record { file = k; blocks = (b, tt) } in
      then (items_in result items (in_body f p.bounds p.locals) false false) _
      (items_performed number P begin result items (in_body f p.bounds p.locals) false false rest inner h)
      (λ all j. found _ (body_added all.1.file n place (length p.locals) nodes all.0 all.1.locals (slice_get all.1.file.functions n) j.file q))

  function_defined : (f : FileScope) (words : Storage) (x : Spelling) (at place left nodes : ℕ) (result : CType) (types : CTypes) (items : Trees.BlockItems)
      (o : Option F.Received) (rest : List Lexeme) → AreAt number P f → P x.from → P at → P place → AreReceivedAt P o
      → Tokens P (spelled_block_items items rest) → Files (F.define_function f words x at place left nodes result types items o)
  function_defined f words x at place left nodes result types items None rest k n p q r h = refuses R.Specifiers at p
  function_defined f words x at place left nodes result types items (Some received) rest k n p q r h =
      own_name_given P (AreAt number P) x.from (F.library_named x.text) _ n
      (main_function_given P (AreAt number P) x.text x.from (function result types) _ n
      (then (F.function_of f words x place (function result types) nodes (D.declared_among f.names x.text)) _
      (function_given number P begin f words x place (function result types) nodes (D.declared_among f.names x.text) k n q
      (declared_among_at P f.names x.text k.names))
      (λ m j. once_given P (AreAt number P) x (F.defined_among f.names x.text) _ n (defined_among_at P f.names x.text k.names)
      (body_found _ m.0 place nodes result items received rest (bound_added m.1 _ j n) q r h))))

  shape_defined : (f : FileScope) (words : Storage) (x : Spelling) (before at place left nodes : ℕ) (shape : Shape) (list : Option Trees.ParameterList)
      (items : Trees.BlockItems) (rest : List Lexeme) → AreAt number P f → P x.from → P at → P place → IsListAt P list
      → Tokens P (spelled_block_items items rest) → Files (F.define_shape f words x before at place left nodes shape list items)
  shape_defined f words x before at place left nodes (closed (function result types)) list items rest k n p q l h =
      function_defined _ words x at place left nodes result types items (F.received_by list types) rest
      (mentioned (at_file_scope f) before Named (function result types) place f k q) n p q (received_by_at P begin list types l) h
  shape_defined f words x before at place left nodes shape list items rest k n p q l h = refuses R.Specifiers at p

  definition_named_found : (f : FileScope) (specs : Trees.Specifiers) (base : CType) (d : Trees.Declarator) (left nodes : ℕ) (items : Trees.BlockItems)
      (o : Option Spelling) (rest : List Lexeme) → AreAt number P f → P (first_specifiers specs) → IsNameAt P o
      → Tokens P (spelled_declarator d (punctuator M.OpenBrace left ∷ spelled_block_items items rest))
      → Files (F.definition_named f specs base d left nodes items o)
  definition_named_found f specs base d left nodes items None rest k p n h = refuses R.Specifiers (first_specifiers specs) p
  definition_named_found f specs base d left nodes items (Some x) rest k p n h =
      then (derivations d (at_file_scope f)) _ (derivations_found number P begin d (at_file_scope f) _ (in_file k) h)
      (λ steps j. then (D.derived steps.1.records steps.0 base) _ (derived_stops P steps.1.records steps.0 base j.0)
      (λ shape u. shape_defined steps.1 (storage_of specs) x (D.mentions_in f) (first_specifiers specs) (first_declarator d x.from) left nodes shape
      (parameters_of d) items rest j.1 n p (declarator_begins P begin d x.from _ h n) (parameters_of_at P begin d _ h)
      (back (declarator_behind P (λ at. []) d h).tokens)))

  function_storage_given : (Q : FileScope → Type 0) (at : ℕ) (words : Storage) (r : Answer FileScope) → P at → Gives P Q r
      → Gives P Q (F.function_storage at words r)
  function_storage_given Q at no_storage r p g = g
  function_storage_given Q at is_extern r p g = g
  function_storage_given Q at is_static r p g = g
  function_storage_given Q at words r p g = refuses R.Specifiers at p

  definition_found : (specs : Trees.Specifiers) (d : Trees.Declarator) (left : ℕ) (items : Trees.BlockItems) (f : FileScope) (nodes : ℕ) (rest : List Lexeme)
      → AreAt number P f → Tokens P (spelled_specifiers specs (spelled_declarator d (punctuator M.OpenBrace left ∷ spelled_block_items items rest)))
      → Files (F.function_definition specs d left items f nodes)
  definition_found specs d left items f nodes rest k h =
      let p = specifiers_begin P begin specs _ h in
      let own = (specifiers_behind P (λ at. []) specs h).tokens in
      function_storage_given (AreAt number P) (first_specifiers specs) (storage_of specs) _ p
      (then (base_type (D.base_kind specs) (first_specifiers specs) f (one_of specs (at_file_scope f))) _
      (specified_found number P begin specs (at_file_scope f) _ (in_file k) h)
      (λ b j. definition_named_found b.1 specs b.0 d left nodes items (declared_name d) rest j p (name_at P begin d _ own) own))

  -- ---- items and files

  item_found : (item : Trees.Item) (f : FileScope) (rest : List Lexeme) → AreAt number P f → Tokens P (spelled_item item rest) → Files (F.filed_item item f)
  unfolding F.filed_item
  item_found (Trees.defines specs d left items right) f rest k h = definition_found specs d left items f _ _ k h
  item_found (Trees.declaration d) f rest k h = declaration_found number P begin d f _ rest k h

  items_found : (items : List Trees.Item) (f : FileScope) (rest : List Lexeme) → AreAt number P f → Tokens P (spelled_items items rest) → Files (F.filed items f)
  unfolding F.filed
  items_found [] f rest k h = found _ k
  items_found (item ∷ more) f rest k h = then (F.filed_item item f) _ (item_found item f _ k h)
      (λ g j. items_found more g rest j (item_behind P (λ at. []) item h).tokens)

  -- the file of which nothing is read yet has the tags of the text
  tags_of : (all : List Mark) → AllByRecursion (IsTagAt P) all → AllByRecursion (λ t. P t.place) (tags_in all)
  tags_of [] p = tt
  tags_of (a_tag t ∷ more) p = (p.0, tags_of more p.1)
  tags_of (an_end tag right ∷ more) p = tags_of more p.1
  tags_of (a_name from ∷ more) p = tags_of more p.1

  chosen_tags : (b : Bool) (x y : List Tag) → AllByRecursion (λ t. P t.place) x → AllByRecursion (λ t. P t.place) y
      → AllByRecursion (λ t. P t.place) (cond b x y)
  chosen_tags true x y p q = p
  chosen_tags false x y p q = q

  firsts_of : (known : List (List ℕ)) (all : List Tag) → AllByRecursion (λ t. P t.place) all → AllByRecursion (λ t. P t.place) (firsts known all)
  firsts_of known [] p = tt
  firsts_of known (t ∷ more) p = chosen_tags (is_among known t.name) _ _ (firsts_of known more p.1) (p.0, firsts_of (t.name ∷ known) more p.1)

  unread_at : (untagged : ℕ → List ℕ) (items : List Trees.Item) (rest : List Lexeme) → Tokens P (spelled_items items rest)
      → AreAt number P (F.unread number untagged items)
  unread_at untagged items rest h =
      let marks = (items_behind P untagged items h).tags in
      record {
        file = refl;
        names = tt;
        tags = firsts_of [] (tags_in (marks_of_file untagged items)) (tags_of (marks_of_file untagged items) marks.each);
        records = tt;
        fields = tt;
        objects = tt;
        functions = tt;
        mentions = tt;
      }

  settled_at : (names : List Bound) (n : ℕ) (o : AnObject) → IsAt number P o.place → IsAt number P (F.settled names n o).place
  settled_at names n o p = chosen_object _ _ _ p p
    where
      chosen_object : (b : Bool) (x y : AnObject) → IsAt number P x.place → IsAt number P y.place
          → IsAt number P (cond b x y).place
      chosen_object true x y p q = p
      chosen_object false x y p q = q

  settled_all : (names : List Bound) (n : ℕ) (all : List AnObject) → AllByRecursion (λ o. IsAt number P o.place) all
      → AllByRecursion (λ o. IsAt number P o.place) (F.settled_from names n all)
  settled_all names n [] p = tt
  settled_all names n (o ∷ more) p = (settled_at names n o p.0, settled_all names (n + 1) more p.1)

  closed_at : (f : FileScope) → AreAt number P f → AreAt number P (F.closed_file f)
  closed_at f k = record {
    file = k.file;
    names = k.names;
    tags = k.tags;
    records = k.records;
    fields = k.fields;
    objects = settled_all f.names 0 f.objects k.objects;
    functions = k.functions;
    mentions = k.mentions;
  }

  pub file_found : (untagged : ℕ → List ℕ) (items : List Trees.Item) → Tokens P (spelled_items items []) → Files (F.annotated number untagged items)
  unfolding F.annotated
  file_found untagged items h = then (F.filed items (F.unread number untagged items)) _
      (items_found items (F.unread number untagged items) [] (unread_at untagged items [] h) h) (λ f k. found _ (closed_at f k))
