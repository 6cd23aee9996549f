-- What declarators and specifiers come to is refused at places of tokens, and what a file declares stands at such places.
use Rattle.std.proofs.Common.{ℕ, ◌==◌, Bool, true, false, cond, List, [], ◌∷◌, ◌++◌, length, Option, Some, None, zero, suc}
use Rattle.std.specs.Prelude.{slice_get, nat_le, ℤ, pos, negsuc, ◌^◌}
use Rattle.std.specs.List.{AllByRecursion}
use Rattle.std.specs.Str.{bytes_eq}
use Rattle.lay_base.specs.declared.faults.Rule.TheVariants as R
use Rattle.c_types.specs.declared.ty.IntKind.{IntKind}
use Rattle.c_types.specs.Types.{CType, integer, pointer, array, function, structure, Record}
use Rattle.c_types.specs.Layouts.{size_of_record}
use Rattle.c_ast.specs.declared.words.Spelling.{Spelling}
use Rattle.c_typed.specs.declared.program.MentionKind.{MentionKind}
use Rattle.c_typed.specs.Constants.{Constant, valued, constant_of}
use Rattle.c_typed.specs.Conversions.{number_of}
use Rattle.c_erasure.specs.Broken.{Fault, undeclared, redeclared, too_big}
use Rattle.c_erasure.specs.Declarators.{Shape, closed, open_array}
use Rattle.c_erasure.specs.Erasure.{typed, literal_object, place_in}
use Rattle.c_erasure.specs.Noted.{Expression, type_of}
use Rattle.c_erasure.specs.Scopes.{Entity, typedef, Bound, Tag, AnObject, FileScope, Scope, Purpose, in_full, value_alone, type_alone, is_measured, here}
use Rattle.c_erasure.specs.Scopes.{declared_in, in_first, tag_at}
use Rattle.c_erasure.specs.Specifiers.{Storage, no_storage, is_register}
use Rattle.c_erasure.specs.Checking.Answers.{Answer}
use Rattle.c_erasure.specs.Checking.Nodes.{is_complete}
use Rattle.c_erasure.specs.Checking.Declaring as D
use Rattle.c_checking_units.specs.FaultPlaces.Places.{Stands}
use Rattle.c_checking_units.proofs.FaultPlaces.Given.{Gives, Stops, InFile, AreFieldsAt, AreAt, IsAt, IsIn, found, fails, refuses, then, chosen}
use Rattle.c_checking_units.proofs.FaultPlaces.Given.{all_one, all_put}
use Rattle.c_checking_units.proofs.FaultPlaces.Firsts.{Names, IsNameAt}

-- ---- files in which more is declared

module _ {number : ℕ} {P : ℕ → Type 0} where
  pub place_at : {s : Scope} {at : ℕ} → IsIn number P s → P at → IsAt number P (place_in s at)
  place_at s p = record { file = s.file.file; at = p }

  said_or_not : (b : Bool) (f g : FileScope) → AreAt number P f → AreAt number P g → AreAt number P (cond b f g)
  said_or_not true f g p q = p
  said_or_not false f g p q = q

  pub mentioned : (s : Scope) (before : ℕ) (kind : MentionKind) (t : CType) (at : ℕ) (f : FileScope) → AreAt number P f → P at
      → AreAt number P (D.with_mention s before kind t at f)
  mentioned s before kind t at f p q = said_or_not (is_measured s.purpose) f _ p (record {
    file = p.file;
    names = p.names;
    tags = p.tags;
    records = p.records;
    fields = p.fields;
    objects = p.objects;
    functions = p.functions;
    mentions = all_put (λ m. P m.at) before f.mentions _ p.mentions q;
  })

  pub object_added : (f : FileScope) (o : AnObject) → AreAt number P f → IsAt number P o.place → AreAt number P (D.with_object f o)
  object_added f o p q = record {
    file = p.file;
    names = p.names;
    tags = p.tags;
    records = p.records;
    fields = p.fields;
    objects = all_one (λ o. IsAt number P o.place) f.objects o p.objects q;
    functions = p.functions;
    mentions = p.mentions;
  }

  record_added : (f : FileScope) (r : Record) → AreAt number P f → IsAt number P r.place → AreFieldsAt number P r.fields → AreAt number P (D.with_record f r)
  record_added f r p q fields = record {
    file = p.file;
    names = p.names;
    tags = p.tags;
    records = all_one (λ r. IsAt number P r.place) f.records r p.records q;
    fields = all_one (λ r. AreFieldsAt number P r.fields) f.records r p.fields fields;
    objects = p.objects;
    functions = p.functions;
    mentions = p.mentions;
  }

  pub bound_added : (f : FileScope) (b : Bound) → AreAt number P f → P b.place → AreAt number P (D.with_bound f b)
  bound_added f b p q = record {
    file = p.file;
    names = all_one (λ b. P b.place) f.names b p.names q;
    tags = p.tags;
    records = p.records;
    fields = p.fields;
    objects = p.objects;
    functions = p.functions;
    mentions = p.mentions;
  }

  -- ---- string literals

  literal_by : (purpose : Purpose) (s : Scope) (at : ℕ) (bytes : List ℕ) → IsIn number P s → P at
      → Gives P (InFile number P) (D.literal_for purpose s (place_in s at) bytes)
  literal_by in_full s at bytes k p = found _ (object_added s.file (literal_object (place_in s at) bytes) k.file (place_at k p))
  literal_by value_alone s at bytes k p = found _ k.file
  literal_by type_alone s at bytes k p = found _ k.file

  pub literal_given : (s : Scope) (at : ℕ) (bytes : List ℕ) → IsIn number P s → P at
      → Gives P (InFile number P) (D.literal_in s (place_in s at) bytes)
  unfolding D.literal_in
  literal_given s at bytes k p = literal_by s.purpose s at bytes k p

-- ---- constants, tags and enumerators

module _ (P : ℕ → Type 0) where
  constant_of_type_stops : (at : ℕ) (t : CType) (c : Constant) → P at → Stops P (D.constant_of_type at t c)
  constant_of_type_stops at (integer kind) (valued v) p = found _ tt
  constant_of_type_stops at t c p = refuses R.Constant at p

  pub constant_stops : (at : ℕ) (x : Expression) → P at → Stops P (D.constant_in at x)
  unfolding D.constant_in
  constant_stops at x p = constant_of_type_stops at (type_of x) (constant_of (typed x)) p

  structure_of_stops : (at : ℕ) (o : Option ℕ) → P at → Stops P (D.structure_of at o)
  structure_of_stops at None p = refuses R.Scope at p
  structure_of_stops at (Some r) p = found _ tt

  pub type_named_stops : (x : Spelling) (o : Option Entity) → P x.from → Stops P (D.type_named x o)
  type_named_stops x (Some (typedef t)) p = found _ tt
  type_named_stops x o p = fails (undeclared x.text x.from) p

  pub int_stops : (at : ℕ) (c : IntKind × ℕ) → P at → Stops P (D.int_value at c)
  int_stops at c p = chosen (D.is_int (number_of c.0 c.1)) _ _ (found _ tt) (refuses R.Constant at p)

  pub next_stops : (at v : ℕ) → P at → Stops P (D.next_value at v)
  next_stops at v p = chosen (v == 2 ^ 31) _ _ (refuses R.Constant at p) (found _ tt)

  -- ---- declarators

  abbrev pub IsStepAt : D.Derivation → Type 0
  IsStepAt (D.to_pointer at) = P at
  IsStepAt (D.to_array count at n) = P at
  IsStepAt (D.to_open_array count at) = P at
  IsStepAt (D.to_function at parameters) = P at

  pub small_stops : (records : List Record) (at : ℕ) (t : CType) → P at → Stops P (D.small records at t)
  small_stops records at t p = chosen (D.is_small records t) _ _ (found _ tt) (fails (too_big at) p)

  complete_stops : (records : List Record) (count at : ℕ) (t : CType) → P at → Stops P (D.element records count at t)
  complete_stops records count at t p = chosen (is_complete records count t) _ _ (found _ tt) (refuses R.Incomplete at p)

  result_stops : (at : ℕ) (t : CType) → P at → Stops P (D.result_type at t)
  result_stops at t p = chosen (D.is_result t) _ _ (found _ tt) (refuses R.ByValue at p)

  pub derived_stops : (records : List Record) (steps : List D.Derivation) (t : CType) → AllByRecursion IsStepAt steps → Stops P (D.derived records steps t)
  unfolding D.derived
  derived_stops records [] t p = found _ tt
  derived_stops records (D.to_pointer at ∷ more) t p =
      then (D.small records at (pointer t)) _ (small_stops records at (pointer t) p.0) (λ u q. derived_stops records more u p.1)
  derived_stops records (D.to_array count at n ∷ more) t p = then (D.element records count at t) _ (complete_stops records count at t p.0)
      (λ e q. then (D.small records at (array e n)) _ (small_stops records at (array e n) p.0) (λ u r. derived_stops records more u p.1))
  derived_stops records (D.to_open_array count at ∷ []) t p =
      then (D.element records count at t) _ (complete_stops records count at t p.0) (λ e q. found _ tt)
  derived_stops records (D.to_open_array count at ∷ step ∷ more) t p = refuses R.Length at p.0
  derived_stops records (D.to_function at parameters ∷ more) t p = then (D.result_type at t) _ (result_stops at t p.0)
      (λ r q. then (D.small records at (pointer (function r parameters))) _ (small_stops records at (pointer (function r parameters)) p.0)
      (λ u v. derived_stops records more (function r parameters) p.1))

  length_of_number_stops : (at : ℕ) (z : ℤ) → P at → Stops P (D.length_of_number at z)
  length_of_number_stops at (pos zero) p = refuses R.Length at p
  length_of_number_stops at (pos (suc n)) p = found _ tt
  length_of_number_stops at (negsuc n) p = refuses R.Length at p

  pub length_stops : (at : ℕ) (c : IntKind × ℕ) → P at → Stops P (D.length_value at c)
  length_stops at c p = length_of_number_stops at (number_of c.0 c.1) p

  pub closed_stops : (at : ℕ) (shape : Shape) → P at → Stops P (D.closed_at at shape)
  closed_stops at (closed t) p = found _ tt
  closed_stops at (open_array t) p = refuses R.Length at p

  pub object_stops : (records : List Record) (count at : ℕ) (t : CType) → P at → Stops P (D.object_at records count at t)
  unfolding D.object_at
  object_stops records count at t p = chosen (is_complete records count t) _ _ (found _ tt) (refuses R.Incomplete at p)

  pub scalar_stops : (at : ℕ) (t : CType) → P at → Stops P (D.scalar_parameter at t)
  scalar_stops at (integer kind) p = found _ tt
  scalar_stops at (pointer t) p = found _ tt
  scalar_stops at (structure r) p = refuses R.ByValue at p
  scalar_stops at t p = refuses R.Incomplete at p

  -- ---- what stands before an answer

  pub without_storage_given : {A : Type 0} (Q : A → Type 0) (at : ℕ) (words : Storage) (r : Answer A) → P at → Gives P Q r
      → Gives P Q (D.without_storage at words r)
  without_storage_given Q at no_storage r p q = q
  without_storage_given Q at words r p q = refuses R.Specifiers at p

  pub parameter_storage_given : {A : Type 0} (Q : A → Type 0) (at : ℕ) (words : Storage) (r : Answer A) → P at → Gives P Q r
      → Gives P Q (D.parameter_storage at words r)
  parameter_storage_given Q at no_storage r p q = q
  parameter_storage_given Q at is_register r p q = q
  parameter_storage_given Q at words r p q = refuses R.Specifiers at p

  -- ---- names that are declared twice

  abbrev pub IsBoundAt : Option Bound → Type 0
  IsBoundAt None = Unit {0}
  IsBoundAt (Some b) = P b.place

  pub chosen_bound : (b : Bool) (x y : Option Bound) → IsBoundAt x → IsBoundAt y → IsBoundAt (cond b x y)
  chosen_bound true x y p q = p
  chosen_bound false x y p q = q

  declared_in_at : (all : List Bound) (x : List ℕ) → AllByRecursion (λ b. P b.place) all → IsBoundAt (declared_in all x)
  declared_in_at [] x p = tt
  declared_in_at (b ∷ more) x p = chosen_bound (bytes_eq b.name x) _ _ p.0 (declared_in_at more x p.1)

  pub in_first_at : (blocks : List (List Bound)) (x : List ℕ) → AllByRecursion (λ block. AllByRecursion (λ b. P b.place) block) blocks → IsBoundAt (in_first blocks x)
  in_first_at [] x p = tt
  in_first_at (block ∷ outer) x p = declared_in_at block x p.0

  pub new_here_given : {A : Type 0} (Q : A → Type 0) (x : Spelling) (o : Option Bound) (r : Answer A) → P x.from → IsBoundAt o → Gives P Q r
      → Gives P Q (D.new_here x o r)
  new_here_given Q x None r p o q = q
  new_here_given Q x (Some b) r p o q = fails (redeclared x.text x.from b.place) (p, o)

  pub declared_among_at : (all : List Bound) (x : List ℕ) → AllByRecursion (λ b. P b.place) all → IsBoundAt (D.declared_among all x)
  declared_among_at [] x p = tt
  declared_among_at (b ∷ more) x p = chosen_bound (bytes_eq b.name x) _ _ p.0 (declared_among_at more x p.1)

  -- ---- members of one name

  abbrev pub IsFaultAt : Option Fault → Type 0
  IsFaultAt None = Unit {0}
  IsFaultAt (Some f) = Stands P f

  chosen_name : (b : Bool) (x y : Option Spelling) → IsNameAt P x → IsNameAt P y → IsNameAt P (cond b x y)
  chosen_name true x y p q = p
  chosen_name false x y p q = q

  standing_at : (all : List Spelling) (x : List ℕ) → AllByRecursion (λ y. P y.from) all → IsNameAt P (D.standing all x)
  standing_at [] x p = tt
  standing_at (y ∷ more) x p = chosen_name (bytes_eq y.text x) _ _ p.0 (standing_at more x p.1)

  repeated_or_at : (y : Spelling) (o : Option Spelling) (later : Option Fault) → P y.from → IsNameAt P o → IsFaultAt later
      → IsFaultAt (D.repeated_or y o later)
  repeated_or_at y None later p o q = q
  repeated_or_at y (Some x) later p o q = (p, o)

  repeated_at : (before all : List Spelling) → AllByRecursion (λ y. P y.from) before → AllByRecursion (λ y. P y.from) all
      → IsFaultAt (D.repeated before all)
  repeated_at before [] b p = tt
  repeated_at before (y ∷ more) b p = repeated_or_at y (D.standing before y.text) _ p.0 (standing_at before y.text b)
      (repeated_at (before ++ y ∷ []) more (all_one (λ y. P y.from) before y b p.0) p.1)

  pub unless_given : {A : Type 0} (Q : A → Type 0) (o : Option Fault) (r : Answer A) → IsFaultAt o → Gives P Q r → Gives P Q (D.unless o r)
  unless_given Q None r p q = q
  unless_given Q (Some f) r p q = fails f p

-- ---- tags and structures, whose place is 0 where none is found

module _ (number : ℕ) (P : ℕ → Type 0) (begin : P 0) where
  abbrev IsTag : Option Tag → Type 0
  IsTag None = Unit {0}
  IsTag (Some t) = P t.place

  chosen_tag : (b : Bool) (x y : Option Tag) → IsTag x → IsTag y → IsTag (cond b x y)
  chosen_tag true x y p q = p
  chosen_tag false x y p q = q

  tag_named_at : (all : List Tag) (x : List ℕ) → AllByRecursion (λ t. P t.place) all → IsTag (D.tag_named all x)
  tag_named_at [] x p = tt
  tag_named_at (t ∷ more) x p = chosen_tag (bytes_eq t.name x) _ _ p.0 (tag_named_at more x p.1)

  place_of_tag_at : (o : Option Tag) → IsTag o → P (D.place_of_tag o)
  place_of_tag_at None p = begin
  place_of_tag_at (Some t) p = p

  other_tag_at : (f : FileScope) (x : Spelling) → AreAt number P f → P x.from → Stands P (D.other_tag f x)
  other_tag_at f x k p = (p, place_of_tag_at (D.tag_named f.tags x.text) (tag_named_at f.tags x.text k.tags))

  tagged_stops : (s : Scope) (at : ℕ) (x : Spelling) (o : Option Bool) → IsIn number P s → P at → P x.from → Stops P (D.tagged s at x o)
  tagged_stops s at x (Some false) k p q = structure_of_stops P at (D.number_among s.file.numbered x.text) p
  tagged_stops s at x (Some true) k p q = fails (D.other_tag s.file x) (other_tag_at s.file x k.file q)
  tagged_stops s at x None k p q =
      chosen s.is_inside _ _ (refuses R.Scope at p) (structure_of_stops P at (D.number_among s.file.numbered x.text) p)

  pub tagged_in_stops : (s : Scope) (at : ℕ) (x : Spelling) → IsIn number P s → P at → P x.from → Stops P (D.tagged_in s at x)
  unfolding D.tagged_in
  tagged_in_stops s at x k p q = tagged_stops s at x (tag_at s.file.tags x.text x.from) k p q

  enumerated_by : (f : FileScope) (x : Spelling) (o : Option Bool) → AreAt number P f → P x.from → Stops P (D.enumerated f x o)
  enumerated_by f x (Some true) k p = found _ tt
  enumerated_by f x (Some false) k p = fails (D.other_tag f x) (other_tag_at f x k p)
  enumerated_by f x None k p = fails (undeclared x.text x.from) p

  pub enumerated_stops : (f : FileScope) (x : Spelling) → AreAt number P f → P x.from → Stops P (D.enumerated_in f x)
  unfolding D.enumerated_in
  enumerated_stops f x k p = enumerated_by f x (tag_at f.tags x.text x.from) k p

  pub definable_at : (s : Scope) (at : ℕ) (x : Option Spelling) (o : Option Bool) → IsIn number P s → IsNameAt P x → IsFaultAt P (D.definable s at x o)
  definable_at s at (Some x) (Some true) k p = other_tag_at s.file x k.file p
  definable_at s at x o k p = tt

  record_place : (records : List Record) (n : ℕ) → AllByRecursion (λ r. IsAt number P r.place) records → P (D.place_of_record (slice_get records n))
  record_place [] n p = begin
  record_place (r ∷ more) zero p = p.0.at
  record_place (r ∷ more) (suc n) p = record_place more n p.1

  record_place_if_any : (records : List Record) (o : Option ℕ) → AllByRecursion (λ r. IsAt number P r.place) records
      → P (D.place_of_record (D.record_if_any records o))
  record_place_if_any records None p = begin
  record_place_if_any records (Some n) p = record_place records n p

  complete_given : (f : FileScope) (at : ℕ) (r : Record) → AreAt number P f → P at → IsAt number P r.place → AreFieldsAt number P r.fields
      → Gives P (InFile number P) (D.complete_with f at r)
  complete_given f at r k p q fields =
      chosen (nat_le (size_of_record f.records r) 16777216) _ _ (found _ (record_added f r k q fields)) (fails (too_big at) p)

  pub completed_given : (f : FileScope) (named : ℕ) (names : List Spelling) (r : Record) → AreAt number P f → P named → Names P names
      → IsAt number P r.place → AreFieldsAt number P r.fields → Gives P (InFile number P) (D.completed_in f named names r)
  unfolding D.completed_in
  completed_given f named names r k p n q fields = unless_given P (InFile number P) (D.repeated [] names) _ (repeated_at P [] names tt n.each)
      (chosen (D.is_next (length f.records) (D.number_among f.numbered r.tag)) _ _ (complete_given f r.place.at r k q.at q fields)
      (fails (D.completed_before f named r.tag) (p, record_place_if_any f.records (D.number_among f.numbered r.tag) k.records)))

  new_name_given : (f : FileScope) (b : Bound) (o : Option Bound) → AreAt number P f → P b.place → IsBoundAt P o
      → Gives P (AreAt number P) (D.new_name f b o)
  new_name_given f b None k p q = found _ (bound_added f b k p)
  new_name_given f b (Some old) k p q = fails (redeclared b.name b.place old.place) (p, q)

  pub enumerator_given : (f : FileScope) (b : Bound) → AreAt number P f → P b.place → Gives P (AreAt number P) (D.enumerator_in f b)
  unfolding D.enumerator_in
  enumerator_given f b k p = new_name_given f b (D.declared_among f.names b.name) k p (declared_among_at P f.names b.name k.names)

  only_tag_stops : (x : Spelling) (o : Option Tag) → P x.from → IsTag o → Stops P (D.only_tag x o)
  only_tag_stops x None p q = found _ tt
  only_tag_stops x (Some t) p q = chosen (t.place == x.from) _ _ (found _ tt) (fails (redeclared x.text x.from t.place) (p, q))

  pub enumeration_stops : (f : FileScope) (x : Option Spelling) → AreAt number P f → IsNameAt P x → Stops P (D.enumeration_of f x)
  enumeration_stops f None k p = found _ tt
  enumeration_stops f (Some x) k p = only_tag_stops x (D.tag_named f.tags x.text) p (tag_named_at f.tags x.text k.tags)

  pub new_if_named_given : {A : Type 0} (Q : A → Type 0) (s : Scope) (x : Option Spelling) (r : Answer A) → IsIn number P s → IsNameAt P x → Gives P Q r
      → Gives P Q (D.new_if_named s x r)
  new_if_named_given Q s None r k p q = q
  new_if_named_given Q s (Some x) r k p q = new_here_given P Q x (here s x.text) r p (in_first_at P s.blocks x.text k.blocks) q
