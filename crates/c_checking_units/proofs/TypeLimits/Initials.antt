-- What is found of initializers has types within the limits (C99 6.7.8).
use Rattle.std.proofs.Common.{◌≡◌, ℕ, zero, suc, ◌+◌, Bool, true, false, refl, cond, List, [], ◌∷◌, ◌++◌}
use Rattle.std.specs.Prelude.{◌||◌, ◌&&◌, not, Option, Some, None, Ok, slice_get}
use Rattle.c_types.specs.Layouts.{size_of, offset_of}
use Rattle.c_types.specs.Types.{CType, void, integer, pointer, array, function, structure, Field, Record}
use Rattle.c_types.specs.Sameness.{same_type}
use Rattle.c_ast.specs.declared.words.Spelling.{Spelling}
use Rattle.c_ast.specs.Places.{first}
use Rattle.c_ast.specs.Trees
use Rattle.c_typed.specs.Conversions.{is_scalar, is_record}
use Rattle.c_typed.specs.Fits.{assigns}
use Rattle.c_typed.specs.Trees as Typed
use Rattle.c_typed.specs.Typed.{Declared}
use Rattle.c_erasure.specs.Initializers.{Part, part_at, texts_of, is_character, is_braces}
use Rattle.c_erasure.specs.Erasure.{literal_of}
use Rattle.c_erasure.specs.Noted.{Noted, Expression, Thing, an_object, type_of, type_of_path}
use Rattle.c_erasure.specs.Scopes.{FileScope, Scope}
use Rattle.c_erasure.specs.Checking.Answers.{Checked, with_file, moved}
use Rattle.c_erasure.specs.Checking.Nodes.{null, converted}
use Rattle.c_erasure.specs.Checking.Finding.{find, value_at}
use Rattle.c_erasure.specs.Checking.Initializers.{initial_value_in, initial_record_in, bytes_in, text_part, text_of_array, is_text, fields_of, without_braces}
use Rattle.c_erasure.specs.Checking.Initializers.{in_braces}
use Rattle.c_erasure.specs.Checking.Initializers.{initialized, one_value, elements, fields_from, whole_from, whole_in, whole_of, initializer, are_constants}
use Rattle.c_erasure.specs.Checking.Initializers.{constants_in}
use Rattle.c_checking_laws.proofs.Results.{bound_ok, chosen, given, only_if}
use Rattle.c_checking_units.proofs.TypeLimits.Types.{IsWithin, stays, element_within}
use Rattle.c_checking_units.proofs.TypeLimits.Trees.{EachInValue, EachInParts, EachInInitializer}
use Rattle.c_checking_units.proofs.TypeLimits.TreesKept.{parts_more}
use Rattle.c_checking_units.proofs.TypeLimits.Nodes.{EachValue, IsThing, AreFields, AreRecords, converted_is}
use Rattle.c_checking_units.proofs.TypeLimits.States.{IsScope, Goes, stands, goes_on, scope_after, fields_stay}
use Rattle.c_checking_units.proofs.TypeLimits.Literals.{Short, ShortArguments}
use Rattle.c_checking_units.proofs.TypeLimits.Finding.{FoundThing, beside, value_found, find_within}

abbrev pub AreParts : List Record → List Part → Type 0
AreParts records all = EachInParts (IsWithin records) all

abbrev pub FoundParts : Scope → List Part × FileScope → Type 0
FoundParts s z = Goes s.file z.1 × AreParts z.1.records z.0

both_parts : (records : List Record) (own rest : List Part) → AreParts records own → AreParts records rest → AreParts records (own ++ rest)
both_parts records [] rest h k = k
both_parts records (part ∷ own) rest h k = (h.0, both_parts records own rest h.1 k)

fields_at : (records all : List Record) (r : ℕ) → AreRecords records all → AreFields records (fields_of (slice_get all r))
fields_at records [] r h = tt
fields_at records (rec ∷ all) zero h = h.0
fields_at records (rec ∷ all) (suc r) h = fields_at records all r h.1

-- ---- parts

initial_value_is : (records : List Record) (at : ℕ) (t : CType) (x y : Expression) → initial_value_in at t x ≡ Ok y → IsWithin records t → EachValue records x
    → EachValue records y
unfolding initial_value_in
initial_value_is records at t x y h w k =
    let o = only_if (assigns (type_of x) (null x) t) (Ok (converted t x)) _ _ y h in
    given (EachValue records) (converted t x) y o.1 (converted_is records t x w k)

initial_record_is : (records : List Record) (from at : ℕ) (t : CType) (th : Thing) (parts : List Part) → initial_record_in from at t th ≡ Ok parts
    → IsThing records th → AreParts records parts
unfolding initial_record_in
initial_record_is records from at t (an_object p) parts h k =
    let o = only_if (same_type (type_of_path p) t) (Ok (part_at at (Typed.record_of p))) _ _ parts h in
    given (AreParts records) (part_at at (Typed.record_of p)) parts o.1 (k, tt)
initial_record_is records from at t th parts h k = cc

text_is : (records : List Record) (from at n : ℕ) (b : Bool) (texts : Option (List Spelling)) (parts : List Part)
    → text_of_array from at n b texts ≡ Ok parts → AreParts records parts
text_is records from at n true (Some all) parts h =
    let bytes = bound_ok (bytes_in from n (literal_of all)) _ parts h in
    given (AreParts records) (text_part at bytes.0) parts bytes.2 (tt, tt)
text_is records from at n true None parts h = cc
text_is records from at n false texts parts h = cc

without_found : (s : Scope) (from at : ℕ) (t : CType) (texts : Option (List Spelling)) (r : Checked Thing) → IsScope s → IsWithin s.file.records t
    → ((y : Thing × FileScope) → r ≡ Ok y → FoundThing s y) → (z : List Part × FileScope) → without_braces from at t texts s.file r ≡ Ok z → FoundParts s z
without_found s from at (integer kind) texts r c w found z h =
    let x = bound_ok (value_at from r) _ z h in
    let v = value_found s from r found x.0 x.1 in
    let y = bound_ok (with_file x.0.1 (initial_value_in from (integer kind) x.0.0)) _ z x.2 in
    let u = beside EachValue s x.0.1 (initial_value_in from (integer kind) x.0.0) y.0 y.1 v.0
    (λ e i. initial_value_is x.0.1.records from (integer kind) x.0.0 e i (stays v.0.longer (integer kind) w) v.1) in
    given (FoundParts s) (part_at at (Typed.value y.0.0), y.0.1) z y.2 (u.0, (u.1, tt))
without_found s from at (pointer t) texts r c w found z h =
    let x = bound_ok (value_at from r) _ z h in
    let v = value_found s from r found x.0 x.1 in
    let y = bound_ok (with_file x.0.1 (initial_value_in from (pointer t) x.0.0)) _ z x.2 in
    let u = beside EachValue s x.0.1 (initial_value_in from (pointer t) x.0.0) y.0 y.1 v.0
    (λ e i. initial_value_is x.0.1.records from (pointer t) x.0.0 e i (stays v.0.longer (pointer t) w) v.1) in
    given (FoundParts s) (part_at at (Typed.value y.0.0), y.0.1) z y.2 (u.0, (u.1, tt))
without_found s from at (structure n) texts r c w found z h =
    let x = bound_ok r _ z h in
    let v = found x.0 x.1 in
    beside AreParts s x.0.1 (initial_record_in from at (structure n) x.0.0) z x.2 v.0
    (λ parts i. initial_record_is x.0.1.records from at (structure n) x.0.0 parts i v.1)
without_found s from at (array u n) texts r c w found z h =
    beside AreParts s s.file (text_of_array from at n (is_character u) texts) z h (stands s.file c.file)
    (λ parts i. text_is s.file.records from at n (is_character u) texts parts i)
without_found s from at void texts r c w found z h = cc
without_found s from at (function t all) texts r c w found z h = cc

braces_found : (s : Scope) (left at : ℕ) (t : CType) (texts : Option (List Spelling)) (one : Checked (List Part))
    (of_elements : CType → ℕ → Checked (List Part)) (of_fields : ℕ → List Field → Checked (List Part)) → IsScope s → IsWithin s.file.records t
    → ((z : List Part × FileScope) → one ≡ Ok z → FoundParts s z)
    → ((u : CType) (n : ℕ) → IsWithin s.file.records u → (z : List Part × FileScope) → of_elements u n ≡ Ok z → FoundParts s z)
    → ((r : ℕ) (fields : List Field) → AreFields s.file.records fields → (z : List Part × FileScope) → of_fields r fields ≡ Ok z → FoundParts s z)
    → (z : List Part × FileScope) → in_braces left at t texts s.file one of_elements of_fields ≡ Ok z → FoundParts s z
braces_found s left at (integer kind) texts one of_elements of_fields c w p q r z h = p z h
braces_found s left at (pointer t) texts one of_elements of_fields c w p q r z h = p z h
braces_found s left at (structure n) texts one of_elements of_fields c w p q r z h =
    r n (fields_of (slice_get s.file.records n)) (fields_at s.file.records s.file.records n c.file.records) z h
braces_found s left at (array u n) texts one of_elements of_fields c w p q r z h =
    chosen (is_text u texts) (with_file s.file (text_of_array left at n true texts)) (of_elements u n) z (FoundParts s z) h
    (λ b h. beside AreParts s s.file (text_of_array left at n true texts) z h (stands s.file c.file)
    (λ parts i. text_is s.file.records left at n true texts parts i))
    (λ b h. q u n (element_within s.file.records u n w) z h)
braces_found s left at void texts one of_elements of_fields c w p q r z h = cc
braces_found s left at (function t all) texts one of_elements of_fields c w p q r z h = cc

-- ---- the recursion

mutual
  unfolding initialized one_value elements fields_from

  pub initialized_within : (a : Trees.Expression) (s : Scope) (t : CType) (at : ℕ) → Short a → IsScope s → IsWithin s.file.records t
      → (z : List Part × FileScope) → initialized a s t at ≡ Ok z → FoundParts s z
  initialized_within (Trees.braces left all last right) s t at l c w z h =
      braces_found s left at t (texts_of (Trees.braces left all last right)) (one_value left all s t at) (λ u n. elements all s u n at)
      (λ r fields. fields_from all s r 0 fields at) c w (λ z h. one_within all left s t at l c w z h)
      (λ u n v z h. elements_within all s u n at l c v z h) (λ r fields v z h. fields_within all s r 0 fields at l c v z h) z h
  initialized_within (Trees.name x) s t at l c w z h =
      without_found s (first (Trees.name x)) at t (texts_of (Trees.name x)) (find (Trees.name x) s) c w (λ y k. find_within (Trees.name x) s l c y k) z h
  initialized_within (Trees.number x v kind) s t at l c w z h =
      without_found s (first (Trees.number x v kind)) at t (texts_of (Trees.number x v kind)) (find (Trees.number x v kind) s) c w (λ y k. find_within (Trees.number x v kind) s l c y k) z h
  initialized_within (Trees.character x v) s t at l c w z h =
      without_found s (first (Trees.character x v)) at t (texts_of (Trees.character x v)) (find (Trees.character x v) s) c w (λ y k. find_within (Trees.character x v) s l c y k) z h
  initialized_within (Trees.texts all) s t at l c w z h =
      without_found s (first (Trees.texts all)) at t (texts_of (Trees.texts all)) (find (Trees.texts all) s) c w (λ y k. find_within (Trees.texts all) s l c y k) z h
  initialized_within (Trees.paren from b to) s t at l c w z h =
      without_found s (first (Trees.paren from b to)) at t (texts_of (Trees.paren from b to)) (find (Trees.paren from b to) s) c w (λ y k. find_within (Trees.paren from b to) s l c y k) z h
  initialized_within (Trees.index b from c' to) s t at l c w z h =
      without_found s (first (Trees.index b from c' to)) at t (texts_of (Trees.index b from c' to)) (find (Trees.index b from c' to) s) c w (λ y k. find_within (Trees.index b from c' to) s l c y k) z h
  initialized_within (Trees.call f from all to) s t at l c w z h =
      without_found s (first (Trees.call f from all to)) at t (texts_of (Trees.call f from all to)) (find (Trees.call f from all to) s) c w (λ y k. find_within (Trees.call f from all to) s l c y k) z h
  initialized_within (Trees.dot b p x) s t at l c w z h =
      without_found s (first (Trees.dot b p x)) at t (texts_of (Trees.dot b p x)) (find (Trees.dot b p x) s) c w (λ y k. find_within (Trees.dot b p x) s l c y k) z h
  initialized_within (Trees.arrow b p x) s t at l c w z h =
      without_found s (first (Trees.arrow b p x)) at t (texts_of (Trees.arrow b p x)) (find (Trees.arrow b p x) s) c w (λ y k. find_within (Trees.arrow b p x) s l c y k) z h
  initialized_within (Trees.post b op p) s t at l c w z h =
      without_found s (first (Trees.post b op p)) at t (texts_of (Trees.post b op p)) (find (Trees.post b op p) s) c w (λ y k. find_within (Trees.post b op p) s l c y k) z h
  initialized_within (Trees.pre op p b) s t at l c w z h =
      without_found s (first (Trees.pre op p b)) at t (texts_of (Trees.pre op p b)) (find (Trees.pre op p b) s) c w (λ y k. find_within (Trees.pre op p b) s l c y k) z h
  initialized_within (Trees.unary op p b) s t at l c w z h =
      without_found s (first (Trees.unary op p b)) at t (texts_of (Trees.unary op p b)) (find (Trees.unary op p b) s) c w (λ y k. find_within (Trees.unary op p b) s l c y k) z h
  initialized_within (Trees.sizeof_expression p b) s t at l c w z h =
      without_found s (first (Trees.sizeof_expression p b)) at t (texts_of (Trees.sizeof_expression p b)) (find (Trees.sizeof_expression p b) s) c w (λ y k. find_within (Trees.sizeof_expression p b) s l c y k) z h
  initialized_within (Trees.sizeof_type p from m to) s t at l c w z h =
      without_found s (first (Trees.sizeof_type p from m to)) at t (texts_of (Trees.sizeof_type p from m to)) (find (Trees.sizeof_type p from m to) s) c w (λ y k. find_within (Trees.sizeof_type p from m to) s l c y k) z h
  initialized_within (Trees.cast from m to b) s t at l c w z h =
      without_found s (first (Trees.cast from m to b)) at t (texts_of (Trees.cast from m to b)) (find (Trees.cast from m to b) s) c w (λ y k. find_within (Trees.cast from m to b) s l c y k) z h
  initialized_within (Trees.binary b op p d) s t at l c w z h =
      without_found s (first (Trees.binary b op p d)) at t (texts_of (Trees.binary b op p d)) (find (Trees.binary b op p d) s) c w (λ y k. find_within (Trees.binary b op p d) s l c y k) z h
  initialized_within (Trees.cond b q d colon e) s t at l c w z h =
      without_found s (first (Trees.cond b q d colon e)) at t (texts_of (Trees.cond b q d colon e)) (find (Trees.cond b q d colon e) s) c w (λ y k. find_within (Trees.cond b q d colon e) s l c y k) z h
  initialized_within (Trees.assign b op p d) s t at l c w z h =
      without_found s (first (Trees.assign b op p d)) at t (texts_of (Trees.assign b op p d)) (find (Trees.assign b op p d) s) c w (λ y k. find_within (Trees.assign b op p d) s l c y k) z h
  initialized_within (Trees.comma b p d) s t at l c w z h =
      without_found s (first (Trees.comma b p d)) at t (texts_of (Trees.comma b p d)) (find (Trees.comma b p d) s) c w (λ y k. find_within (Trees.comma b p d) s l c y k) z h

  one_within : (all : Trees.Arguments) (left : ℕ) (s : Scope) (t : CType) (at : ℕ) → ShortArguments all → IsScope s → IsWithin s.file.records t
      → (z : List Part × FileScope) → one_value left all s t at ≡ Ok z → FoundParts s z
  one_within Trees.no_arguments left s t at l c w z h = cc
  one_within (Trees.and_argument comma (Trees.braces inner all last right) Trees.no_arguments) left s t at l c w z h = cc
  one_within (Trees.and_argument comma (Trees.braces inner all last right) (Trees.and_argument k d more)) left s t at l c w z h = cc
  one_within (Trees.and_argument comma (Trees.name x) Trees.no_arguments) left s t at l c w z h =
      without_found s (first (Trees.name x)) at t None (find (Trees.name x) s) c w (λ y k. find_within (Trees.name x) s l.0 c y k) z h
  one_within (Trees.and_argument comma (Trees.name x) (Trees.and_argument k a more)) left s t at l c w z h = cc
  one_within (Trees.and_argument comma (Trees.number x v kind) Trees.no_arguments) left s t at l c w z h =
      without_found s (first (Trees.number x v kind)) at t None (find (Trees.number x v kind) s) c w (λ y k. find_within (Trees.number x v kind) s l.0 c y k) z h
  one_within (Trees.and_argument comma (Trees.number x v kind) (Trees.and_argument k a more)) left s t at l c w z h = cc
  one_within (Trees.and_argument comma (Trees.character x v) Trees.no_arguments) left s t at l c w z h =
      without_found s (first (Trees.character x v)) at t None (find (Trees.character x v) s) c w (λ y k. find_within (Trees.character x v) s l.0 c y k) z h
  one_within (Trees.and_argument comma (Trees.character x v) (Trees.and_argument k a more)) left s t at l c w z h = cc
  one_within (Trees.and_argument comma (Trees.texts all) Trees.no_arguments) left s t at l c w z h =
      without_found s (first (Trees.texts all)) at t None (find (Trees.texts all) s) c w (λ y k. find_within (Trees.texts all) s l.0 c y k) z h
  one_within (Trees.and_argument comma (Trees.texts all) (Trees.and_argument k a more)) left s t at l c w z h = cc
  one_within (Trees.and_argument comma (Trees.paren from b to) Trees.no_arguments) left s t at l c w z h =
      without_found s (first (Trees.paren from b to)) at t None (find (Trees.paren from b to) s) c w (λ y k. find_within (Trees.paren from b to) s l.0 c y k) z h
  one_within (Trees.and_argument comma (Trees.paren from b to) (Trees.and_argument k a more)) left s t at l c w z h = cc
  one_within (Trees.and_argument comma (Trees.index b from c' to) Trees.no_arguments) left s t at l c w z h =
      without_found s (first (Trees.index b from c' to)) at t None (find (Trees.index b from c' to) s) c w (λ y k. find_within (Trees.index b from c' to) s l.0 c y k) z h
  one_within (Trees.and_argument comma (Trees.index b from c' to) (Trees.and_argument k a more)) left s t at l c w z h = cc
  one_within (Trees.and_argument comma (Trees.call f from all to) Trees.no_arguments) left s t at l c w z h =
      without_found s (first (Trees.call f from all to)) at t None (find (Trees.call f from all to) s) c w (λ y k. find_within (Trees.call f from all to) s l.0 c y k) z h
  one_within (Trees.and_argument comma (Trees.call f from all to) (Trees.and_argument k a more)) left s t at l c w z h = cc
  one_within (Trees.and_argument comma (Trees.dot b p x) Trees.no_arguments) left s t at l c w z h =
      without_found s (first (Trees.dot b p x)) at t None (find (Trees.dot b p x) s) c w (λ y k. find_within (Trees.dot b p x) s l.0 c y k) z h
  one_within (Trees.and_argument comma (Trees.dot b p x) (Trees.and_argument k a more)) left s t at l c w z h = cc
  one_within (Trees.and_argument comma (Trees.arrow b p x) Trees.no_arguments) left s t at l c w z h =
      without_found s (first (Trees.arrow b p x)) at t None (find (Trees.arrow b p x) s) c w (λ y k. find_within (Trees.arrow b p x) s l.0 c y k) z h
  one_within (Trees.and_argument comma (Trees.arrow b p x) (Trees.and_argument k a more)) left s t at l c w z h = cc
  one_within (Trees.and_argument comma (Trees.post b op p) Trees.no_arguments) left s t at l c w z h =
      without_found s (first (Trees.post b op p)) at t None (find (Trees.post b op p) s) c w (λ y k. find_within (Trees.post b op p) s l.0 c y k) z h
  one_within (Trees.and_argument comma (Trees.post b op p) (Trees.and_argument k a more)) left s t at l c w z h = cc
  one_within (Trees.and_argument comma (Trees.pre op p b) Trees.no_arguments) left s t at l c w z h =
      without_found s (first (Trees.pre op p b)) at t None (find (Trees.pre op p b) s) c w (λ y k. find_within (Trees.pre op p b) s l.0 c y k) z h
  one_within (Trees.and_argument comma (Trees.pre op p b) (Trees.and_argument k a more)) left s t at l c w z h = cc
  one_within (Trees.and_argument comma (Trees.unary op p b) Trees.no_arguments) left s t at l c w z h =
      without_found s (first (Trees.unary op p b)) at t None (find (Trees.unary op p b) s) c w (λ y k. find_within (Trees.unary op p b) s l.0 c y k) z h
  one_within (Trees.and_argument comma (Trees.unary op p b) (Trees.and_argument k a more)) left s t at l c w z h = cc
  one_within (Trees.and_argument comma (Trees.sizeof_expression p b) Trees.no_arguments) left s t at l c w z h =
      without_found s (first (Trees.sizeof_expression p b)) at t None (find (Trees.sizeof_expression p b) s) c w (λ y k. find_within (Trees.sizeof_expression p b) s l.0 c y k) z h
  one_within (Trees.and_argument comma (Trees.sizeof_expression p b) (Trees.and_argument k a more)) left s t at l c w z h = cc
  one_within (Trees.and_argument comma (Trees.sizeof_type p from m to) Trees.no_arguments) left s t at l c w z h =
      without_found s (first (Trees.sizeof_type p from m to)) at t None (find (Trees.sizeof_type p from m to) s) c w (λ y k. find_within (Trees.sizeof_type p from m to) s l.0 c y k) z h
  one_within (Trees.and_argument comma (Trees.sizeof_type p from m to) (Trees.and_argument k a more)) left s t at l c w z h = cc
  one_within (Trees.and_argument comma (Trees.cast from m to b) Trees.no_arguments) left s t at l c w z h =
      without_found s (first (Trees.cast from m to b)) at t None (find (Trees.cast from m to b) s) c w (λ y k. find_within (Trees.cast from m to b) s l.0 c y k) z h
  one_within (Trees.and_argument comma (Trees.cast from m to b) (Trees.and_argument k a more)) left s t at l c w z h = cc
  one_within (Trees.and_argument comma (Trees.binary b op p d) Trees.no_arguments) left s t at l c w z h =
      without_found s (first (Trees.binary b op p d)) at t None (find (Trees.binary b op p d) s) c w (λ y k. find_within (Trees.binary b op p d) s l.0 c y k) z h
  one_within (Trees.and_argument comma (Trees.binary b op p d) (Trees.and_argument k a more)) left s t at l c w z h = cc
  one_within (Trees.and_argument comma (Trees.cond b q d colon e) Trees.no_arguments) left s t at l c w z h =
      without_found s (first (Trees.cond b q d colon e)) at t None (find (Trees.cond b q d colon e) s) c w (λ y k. find_within (Trees.cond b q d colon e) s l.0 c y k) z h
  one_within (Trees.and_argument comma (Trees.cond b q d colon e) (Trees.and_argument k a more)) left s t at l c w z h = cc
  one_within (Trees.and_argument comma (Trees.assign b op p d) Trees.no_arguments) left s t at l c w z h =
      without_found s (first (Trees.assign b op p d)) at t None (find (Trees.assign b op p d) s) c w (λ y k. find_within (Trees.assign b op p d) s l.0 c y k) z h
  one_within (Trees.and_argument comma (Trees.assign b op p d) (Trees.and_argument k a more)) left s t at l c w z h = cc
  one_within (Trees.and_argument comma (Trees.comma b p d) Trees.no_arguments) left s t at l c w z h =
      without_found s (first (Trees.comma b p d)) at t None (find (Trees.comma b p d) s) c w (λ y k. find_within (Trees.comma b p d) s l.0 c y k) z h
  one_within (Trees.and_argument comma (Trees.comma b p d) (Trees.and_argument k a more)) left s t at l c w z h = cc

  elements_within : (all : Trees.Arguments) (s : Scope) (u : CType) (n at : ℕ) → ShortArguments all → IsScope s → IsWithin s.file.records u
      → (z : List Part × FileScope) → elements all s u n at ≡ Ok z → FoundParts s z
  elements_within Trees.no_arguments s u n at l c w z h = given (FoundParts s) ([], s.file) z h (stands s.file c.file, tt)
  elements_within (Trees.and_argument comma a more) s u zero at l c w z h = cc
  elements_within (Trees.and_argument comma a more) s u (suc n) at l c w z h =
      let own = bound_ok (initialized a s u at) _ z h in
      let v = initialized_within a s u at l.0 c w own.0 own.1 in
      let rest = bound_ok (elements more (moved s own.0.1) u n (at + size_of own.0.1.records u)) _ z own.2 in
      let k = elements_within more (moved s own.0.1) u n (at + size_of own.0.1.records u) l.1 (scope_after s own.0.1 c v.0) (stays v.0.longer u w) rest.0 rest.1 in
      given (FoundParts s) (own.0.0 ++ rest.0.0, rest.0.1) z rest.2 (
        goes_on v.0 k.0,
        both_parts rest.0.1.records own.0.0 rest.0.0
            (parts_more (IsWithin own.0.1.records) (IsWithin rest.0.1.records) (λ t j. stays k.0.longer t j) own.0.0 v.1) k.1,
      )

  fields_within : (all : Trees.Arguments) (s : Scope) (r k : ℕ) (fields : List Field) (at : ℕ) → ShortArguments all → IsScope s
      → AreFields s.file.records fields → (z : List Part × FileScope) → fields_from all s r k fields at ≡ Ok z → FoundParts s z
  fields_within Trees.no_arguments s r k fields at l c w z h = given (FoundParts s) ([], s.file) z h (stands s.file c.file, tt)
  fields_within (Trees.and_argument comma a more) s r k [] at l c w z h = cc
  fields_within (Trees.and_argument comma a more) s r k (f ∷ later) at l c w z h =
      let own = bound_ok (initialized a s f.ty (at + offset_of s.file.records r k)) _ z h in
      let v = initialized_within a s f.ty (at + offset_of s.file.records r k) l.0 c w.0 own.0 own.1 in
      let rest = bound_ok (fields_from more (moved s own.0.1) r (k + 1) later at) _ z own.2 in
      let u = fields_within more (moved s own.0.1) r (k + 1) later at l.1 (scope_after s own.0.1 c v.0) (fields_stay v.0.longer later w.1) rest.0 rest.1 in
      given (FoundParts s) (own.0.0 ++ rest.0.0, rest.0.1) z rest.2 (
        goes_on v.0 u.0,
        both_parts rest.0.1.records own.0.0 rest.0.0
            (parts_more (IsWithin own.0.1.records) (IsWithin rest.0.1.records) (λ t j. stays u.0.longer t j) own.0.0 v.1) u.1,
      )

-- ---- of a whole object

abbrev pub IsInitializer : List Record → Typed.Initializer Noted → Type 0
IsInitializer records i = EachInInitializer (IsWithin records) i

whole_in_is : (records : List Record) (parts : List Part) → AreParts records parts → IsInitializer records (whole_in parts)
whole_in_is records [] h = h
whole_in_is records (part ∷ []) h = by_value part.value h.0
  where
    by_value : (v : Typed.PartValue Noted) → EachInValue (IsWithin records) v → IsInitializer records (whole_from v (part ∷ []))
    by_value (Typed.value x) k = k
    by_value (Typed.record_of p) k = k
    by_value (Typed.text bytes) k = h
whole_in_is records (part ∷ other ∷ more) h = h

whole_is : (records : List Record) (t : CType) (b : Bool) (parts : List Part) → AreParts records parts → IsInitializer records (whole_of t b parts)
whole_is records t b parts h = by_test (is_scalar t || (is_record t && not b))
  where
    by_test : (c : Bool) → IsInitializer records (cond c (whole_in parts) (Typed.parts parts))
    by_test true = whole_in_is records parts h
    by_test false = h

pub initializer_within : (a : Trees.Expression) (s : Scope) (t : CType) → Short a → IsScope s → IsWithin s.file.records t
    → (z : Typed.Initializer Noted × FileScope) → initializer a s t ≡ Ok z → Goes s.file z.1 × IsInitializer z.1.records z.0
initializer_within a s t l c w z h =
    let parts = bound_ok (initialized a s t 0) _ z h in
    let v = initialized_within a s t 0 l c w parts.0 parts.1 in
    given (λ (z : Typed.Initializer Noted × FileScope). Goes s.file z.1 × IsInitializer z.1.records z.0) (whole_of t (is_braces a) parts.0.0, parts.0.1) z parts.2
    (v.0, whole_is parts.0.1.records t (is_braces a) parts.0.0 v.1)

pub constants_same : (d : Declared) (at : ℕ) (i j : Typed.Initializer Noted) → constants_in d at i ≡ Ok j → i ≡ j
unfolding constants_in
constants_same d at i j h = let o = only_if (are_constants d i) (Ok i) _ _ j h in given (λ j. i ≡ j) i j o.1 refl
