-- Where an initializer stops, the rule that the fault names is broken in the file as it stands there (C99 6.7.8).
use Rattle.std.proofs.Common.{◌≡◌, ◌≢◌, ℕ, zero, suc, ◌+◌, ◌≤◌, Bool, true, false, refl, sym, ◌∙◌, subst, List, [], ◌∷◌, length, inl, inr, arith}
use Rattle.std.proofs.lemmas.Bool.{and_parts}
use Rattle.std.specs.Prelude.{◌⊎◌, ◌&&◌, Option, Some, None, Err, slice_get, nat_lt, is_some}
use Rattle.lay_base.specs.declared.faults.Rule.TheVariants as R
use Rattle.c_types.specs.Layouts.{size_of, offset_of}
use Rattle.c_types.specs.Objects.{is_object}
use Rattle.c_types.specs.Types.{CType, void, integer, pointer, array, function, structure, Field, Record}
use Rattle.c_ast.specs.declared.words.Spelling.{Spelling}
use Rattle.c_ast.specs.Trees
use Rattle.c_ast.specs.Places.{first}
use Rattle.c_typed.specs.Conversions.{is_scalar}
use Rattle.c_erasure.specs.Broken.{Fault, ill_typed}
use Rattle.c_erasure.specs.BrokenStatements as Broken
use Rattle.c_erasure.specs.BrokenStatements.{IsBrokenInitializer, IsBrokenOnly, AreBrokenElements, AreBrokenFields}
use Rattle.c_erasure.specs.Initializers.{Part, texts_of, is_character, count_of}
use Rattle.c_erasure.specs.Literals.{literals, literals_of_all}
use Rattle.c_erasure.specs.Marks.{marks, marks_of_all}
use Rattle.c_erasure.specs.Scopes.{FileScope, Scope}
use Rattle.c_erasure.specs.Checking.Answers.{refused, moved}
use Rattle.c_erasure.specs.Checking.Finding.{find}
use Rattle.c_erasure.specs.Checking.Initializers.{text_of_array, is_text, fields_of, without_braces, initialized, one_value, elements, fields_from}
use Rattle.c_checking_laws.proofs.Agreement.{added}
use Rattle.c_checking_laws.proofs.Extends.{record_stays}
use Rattle.c_checking_laws.proofs.InRange.{IsInRange, AreInRange}
use Rattle.c_checking_laws.proofs.FaultPremises.{Prepared, left, right, known_after, IsTimely}
use Rattle.c_checking_laws.proofs.FaultResults as Results
use Rattle.c_checking_laws.proofs.FaultResults.{Up, same_fault, bound_err, with_file_err, chosen_err, within_reached, reached_later, here, whole}
use Rattle.c_checking_laws.proofs.FaultAdditions.{nothing_added, of, of_all}
use Rattle.c_checking_laws.proofs.Within.{both, within_all, within_left}
use Rattle.c_checking_laws.proofs.FaultParts.{Read}
use Rattle.c_checking_laws.proofs.Faults.{faults, reading}
use Rattle.c_checking_laws.proofs.WholeFiles.Layouts.{AreFields as AreFieldsOf, fields_are, later_fields, first_field, field_object, record_in}
use Rattle.c_checking_laws.proofs.WholeFiles.Initials.{IsKnown, ReadFrom, behind, same_locals, sound_initial}
use Rattle.c_checking_units.proofs.FirstStops.Clear.{broken_more, begin_at, AreFresh, fresh_left, fresh_right, picked_made, begun_there, clear}
use Rattle.c_checking_units.proofs.FirstStops.Shifted.{shifted}
use Rattle.c_checking_units.proofs.FirstStops.ValueFaults.{text_fault, IsUnfitOrBroken, IsPlainlyBroken, unfit_stops, plain_stops, IsNoFunction}

known_type : (n : ℕ) (t : CType) → is_object n t ≡ true → IsNoFunction t
known_type n void h = cc
known_type n (function t all) h = cc
known_type n (integer kind) h = tt
known_type n (pointer t) h = tt
known_type n (array u m) h = tt
known_type n (structure r) h = tt

-- what stands in braces is the text of the whole array just where the definition says so
text_same : (u : CType) (n : ℕ) (o : Option (List Spelling)) (b : Bool) → is_text u o ≡ b → Broken.is_text (array u n) o ≡ b
text_same u n None b h = by_kind (is_character u) h
  where
    by_kind : (c : Bool) → (c && false) ≡ b → false ≡ b
    by_kind true h = h
    by_kind false h = h
text_same u n (Some all) b h = by_kind (is_character u) h
  where
    by_kind : (c : Bool) → (c && true) ≡ b → c ≡ b
    by_kind true h = h
    by_kind false h = h

-- more than one expression is refused
many_refused : (from : ℕ) (comma : Option ℕ) (a : Trees.Expression) (c : Option ℕ) (b : Trees.Expression) (more : Trees.Arguments) (s : Scope) (t : CType)
    (at : ℕ) → one_value from (Trees.and_argument comma a (Trees.and_argument c b more)) s t at ≡ refused R.Init from
unfolding one_value
many_refused from comma (Trees.name x1) c b more s t at = refl
many_refused from comma (Trees.number x1 x2 x3) c b more s t at = refl
many_refused from comma (Trees.character x1 x2) c b more s t at = refl
many_refused from comma (Trees.texts x1) c b more s t at = refl
many_refused from comma (Trees.paren x1 x2 x3) c b more s t at = refl
many_refused from comma (Trees.index x1 x2 x3 x4) c b more s t at = refl
many_refused from comma (Trees.call x1 x2 x3 x4) c b more s t at = refl
many_refused from comma (Trees.dot x1 x2 x3) c b more s t at = refl
many_refused from comma (Trees.arrow x1 x2 x3) c b more s t at = refl
many_refused from comma (Trees.post x1 x2 x3) c b more s t at = refl
many_refused from comma (Trees.pre x1 x2 x3) c b more s t at = refl
many_refused from comma (Trees.unary x1 x2 x3) c b more s t at = refl
many_refused from comma (Trees.sizeof_expression x1 x2) c b more s t at = refl
many_refused from comma (Trees.sizeof_type x1 x2 x3 x4) c b more s t at = refl
many_refused from comma (Trees.cast x1 x2 x3 x4) c b more s t at = refl
many_refused from comma (Trees.binary x1 x2 x3 x4) c b more s t at = refl
many_refused from comma (Trees.cond x1 x2 x3 x4 x5) c b more s t at = refl
many_refused from comma (Trees.assign x1 x2 x3 x4) c b more s t at = refl
many_refused from comma (Trees.comma x1 x2 x3) c b more s t at = refl
many_refused from comma (Trees.braces x1 x2 x3 x4) c b more s t at = refl

module _ (untagged : ℕ → List ℕ) (ends : List ℕ) where
  -- records are known where each expression of an initializer asks for them
  abbrev mutual
    pub IsInitialTimely : Bool → ℕ → Trees.Expression → Type 0
    IsInitialTimely i n (Trees.braces left all last right) = AreInitialsTimely i n all
    IsInitialTimely i n a = IsTimely untagged ends i n a

    pub AreInitialsTimely : Bool → ℕ → Trees.Arguments → Type 0
    AreInitialsTimely i n Trees.no_arguments = Unit {0}
    AreInitialsTimely i n (Trees.and_argument comma a more) = IsInitialTimely i n a × AreInitialsTimely i (n + added i (marks untagged a)) more

  -- what is known of finding an expression whose literals may be made objects
  read_part : (a : Trees.Expression) (s : Scope) (n : ℕ) → IsInRange a → Prepared untagged ends s (marks untagged a) → n ≤ length s.file.records
      → IsTimely untagged ends s.is_inside n a → Read untagged (Up s (of untagged a)) s a (find a s)
  read_part a s n i p l t =
      reading untagged ends (Up s (of untagged a)) a s i p (λ g w. w)
      (λ f k. faults untagged ends (Up s (of untagged a)) a s n i p l t (λ g w. w) f k)

  plain_faults : (a : Trees.Expression) (s : Scope) (n : ℕ) → IsInRange a → Prepared untagged ends s (marks untagged a) → n ≤ length s.file.records
      → IsTimely untagged ends s.is_inside n a → (k : FileScope) (t : CType) → IsKnown k t → (at : ℕ) (o : Option (List Spelling)) (f : Fault)
      → without_braces (first a) at t o s.file (find a s) ≡ Err f → Results.Broken (Up s (of untagged a)) s (λ s. IsPlainlyBroken a o s t f)
  plain_faults a s n i p l w k t o at texts f h =
      plain_stops untagged (Up s (of untagged a)) s a (find a s) (read_part a s n i p l w) t (known_type (length k.records) t o) at texts f h

  -- ---- one value in braces

  abbrev OneIsBroken : ℕ → Trees.Arguments → Scope → CType → Fault → Type 0
  OneIsBroken from all s t f = ((f ≡ ill_typed R.Init from) × (count_of all ≢ 1)) ⊎ IsBrokenOnly all s t f

  only_faults : (comma : Option ℕ) (a : Trees.Expression) (s : Scope) (n : ℕ) → IsInRange a
      → Prepared untagged ends s (marks_of_all untagged (Trees.and_argument comma a Trees.no_arguments)) → n ≤ length s.file.records
      → IsTimely untagged ends s.is_inside n a → (t : CType) → is_scalar t ≡ true → (at : ℕ) (f : Fault)
      → without_braces (first a) at t None s.file (find a s) ≡ Err f
      → Results.Broken (Up s (of_all untagged (Trees.and_argument comma a Trees.no_arguments))) s (λ s. IsUnfitOrBroken a s t f)
  only_faults comma a s n i p l w t c at f h =
      broken_more s (λ s. IsUnfitOrBroken a s t f) (λ s. IsUnfitOrBroken a s t f) (λ g w. within_left (of untagged a) nothing_added w) (λ s b. b)
      (unfit_stops untagged (Up s (of untagged a)) s a (find a s) (read_part a s n i (left untagged ends (marks untagged a) [] p) l w) t c at None f h)

  one_faults : (from : ℕ) (all : Trees.Arguments) (s : Scope) (n : ℕ) → AreInRange all → Prepared untagged ends s (marks_of_all untagged all)
      → n ≤ length s.file.records → AreInitialsTimely s.is_inside n all → (t : CType) → is_scalar t ≡ true → (at : ℕ) (f : Fault)
      → one_value from all s t at ≡ Err f → Results.Broken (Up s (of_all untagged all)) s (λ s. OneIsBroken from all s t f)
  unfolding one_value
  one_faults from Trees.no_arguments s n i p l w t c at f h =
      here (Up s nothing_added) s (λ s. OneIsBroken from Trees.no_arguments s t f)
      (inl (same_fault (List Part × FileScope) (ill_typed R.Init from) f h, λ e. omega (arith, e)))
  one_faults from (Trees.and_argument comma a (Trees.and_argument d b more)) s n i p l w t c at f h =
      let all = Trees.and_argument comma a (Trees.and_argument d b more) in
      let k = sym (many_refused from comma a d b more s t at) ∙ h in
      here (Up s (of_all untagged all)) s (λ s. OneIsBroken from all s t f)
      (inl (same_fault (List Part × FileScope) (ill_typed R.Init from) f k, λ e. omega (arith, e)))
  one_faults from (Trees.and_argument comma (Trees.braces inner all last to) Trees.no_arguments) s n i p l w t c at f h =
      let whole_list = Trees.and_argument comma (Trees.braces inner all last to) Trees.no_arguments in
      here (Up s (of_all untagged whole_list)) s (λ s. OneIsBroken from whole_list s t f)
      (inr (same_fault (List Part × FileScope) (ill_typed R.Init inner) f h))
  one_faults from (Trees.and_argument comma (Trees.name x1) Trees.no_arguments) s n i p l w t c at f h =
      broken_more s (λ s. IsUnfitOrBroken (Trees.name x1) s t f) (λ s. OneIsBroken from (Trees.and_argument comma (Trees.name x1) Trees.no_arguments) s t f) (λ g w. w)
      (λ s b. inr b) (only_faults comma (Trees.name x1) s n i.0 p l w.0 t c at f h)
  one_faults from (Trees.and_argument comma (Trees.number x1 x2 x3) Trees.no_arguments) s n i p l w t c at f h =
      broken_more s (λ s. IsUnfitOrBroken (Trees.number x1 x2 x3) s t f) (λ s. OneIsBroken from (Trees.and_argument comma (Trees.number x1 x2 x3) Trees.no_arguments) s t f) (λ g w. w)
      (λ s b. inr b) (only_faults comma (Trees.number x1 x2 x3) s n i.0 p l w.0 t c at f h)
  one_faults from (Trees.and_argument comma (Trees.character x1 x2) Trees.no_arguments) s n i p l w t c at f h =
      broken_more s (λ s. IsUnfitOrBroken (Trees.character x1 x2) s t f) (λ s. OneIsBroken from (Trees.and_argument comma (Trees.character x1 x2) Trees.no_arguments) s t f) (λ g w. w)
      (λ s b. inr b) (only_faults comma (Trees.character x1 x2) s n i.0 p l w.0 t c at f h)
  one_faults from (Trees.and_argument comma (Trees.texts x1) Trees.no_arguments) s n i p l w t c at f h =
      broken_more s (λ s. IsUnfitOrBroken (Trees.texts x1) s t f) (λ s. OneIsBroken from (Trees.and_argument comma (Trees.texts x1) Trees.no_arguments) s t f) (λ g w. w)
      (λ s b. inr b) (only_faults comma (Trees.texts x1) s n i.0 p l w.0 t c at f h)
  one_faults from (Trees.and_argument comma (Trees.paren x1 x2 x3) Trees.no_arguments) s n i p l w t c at f h =
      broken_more s (λ s. IsUnfitOrBroken (Trees.paren x1 x2 x3) s t f) (λ s. OneIsBroken from (Trees.and_argument comma (Trees.paren x1 x2 x3) Trees.no_arguments) s t f) (λ g w. w)
      (λ s b. inr b) (only_faults comma (Trees.paren x1 x2 x3) s n i.0 p l w.0 t c at f h)
  one_faults from (Trees.and_argument comma (Trees.index x1 x2 x3 x4) Trees.no_arguments) s n i p l w t c at f h =
      broken_more s (λ s. IsUnfitOrBroken (Trees.index x1 x2 x3 x4) s t f) (λ s. OneIsBroken from (Trees.and_argument comma (Trees.index x1 x2 x3 x4) Trees.no_arguments) s t f) (λ g w. w)
      (λ s b. inr b) (only_faults comma (Trees.index x1 x2 x3 x4) s n i.0 p l w.0 t c at f h)
  one_faults from (Trees.and_argument comma (Trees.call x1 x2 x3 x4) Trees.no_arguments) s n i p l w t c at f h =
      broken_more s (λ s. IsUnfitOrBroken (Trees.call x1 x2 x3 x4) s t f) (λ s. OneIsBroken from (Trees.and_argument comma (Trees.call x1 x2 x3 x4) Trees.no_arguments) s t f) (λ g w. w)
      (λ s b. inr b) (only_faults comma (Trees.call x1 x2 x3 x4) s n i.0 p l w.0 t c at f h)
  one_faults from (Trees.and_argument comma (Trees.dot x1 x2 x3) Trees.no_arguments) s n i p l w t c at f h =
      broken_more s (λ s. IsUnfitOrBroken (Trees.dot x1 x2 x3) s t f) (λ s. OneIsBroken from (Trees.and_argument comma (Trees.dot x1 x2 x3) Trees.no_arguments) s t f) (λ g w. w)
      (λ s b. inr b) (only_faults comma (Trees.dot x1 x2 x3) s n i.0 p l w.0 t c at f h)
  one_faults from (Trees.and_argument comma (Trees.arrow x1 x2 x3) Trees.no_arguments) s n i p l w t c at f h =
      broken_more s (λ s. IsUnfitOrBroken (Trees.arrow x1 x2 x3) s t f) (λ s. OneIsBroken from (Trees.and_argument comma (Trees.arrow x1 x2 x3) Trees.no_arguments) s t f) (λ g w. w)
      (λ s b. inr b) (only_faults comma (Trees.arrow x1 x2 x3) s n i.0 p l w.0 t c at f h)
  one_faults from (Trees.and_argument comma (Trees.post x1 x2 x3) Trees.no_arguments) s n i p l w t c at f h =
      broken_more s (λ s. IsUnfitOrBroken (Trees.post x1 x2 x3) s t f) (λ s. OneIsBroken from (Trees.and_argument comma (Trees.post x1 x2 x3) Trees.no_arguments) s t f) (λ g w. w)
      (λ s b. inr b) (only_faults comma (Trees.post x1 x2 x3) s n i.0 p l w.0 t c at f h)
  one_faults from (Trees.and_argument comma (Trees.pre x1 x2 x3) Trees.no_arguments) s n i p l w t c at f h =
      broken_more s (λ s. IsUnfitOrBroken (Trees.pre x1 x2 x3) s t f) (λ s. OneIsBroken from (Trees.and_argument comma (Trees.pre x1 x2 x3) Trees.no_arguments) s t f) (λ g w. w)
      (λ s b. inr b) (only_faults comma (Trees.pre x1 x2 x3) s n i.0 p l w.0 t c at f h)
  one_faults from (Trees.and_argument comma (Trees.unary x1 x2 x3) Trees.no_arguments) s n i p l w t c at f h =
      broken_more s (λ s. IsUnfitOrBroken (Trees.unary x1 x2 x3) s t f) (λ s. OneIsBroken from (Trees.and_argument comma (Trees.unary x1 x2 x3) Trees.no_arguments) s t f) (λ g w. w)
      (λ s b. inr b) (only_faults comma (Trees.unary x1 x2 x3) s n i.0 p l w.0 t c at f h)
  one_faults from (Trees.and_argument comma (Trees.sizeof_expression x1 x2) Trees.no_arguments) s n i p l w t c at f h =
      broken_more s (λ s. IsUnfitOrBroken (Trees.sizeof_expression x1 x2) s t f) (λ s. OneIsBroken from (Trees.and_argument comma (Trees.sizeof_expression x1 x2) Trees.no_arguments) s t f) (λ g w. w)
      (λ s b. inr b) (only_faults comma (Trees.sizeof_expression x1 x2) s n i.0 p l w.0 t c at f h)
  one_faults from (Trees.and_argument comma (Trees.sizeof_type x1 x2 x3 x4) Trees.no_arguments) s n i p l w t c at f h =
      broken_more s (λ s. IsUnfitOrBroken (Trees.sizeof_type x1 x2 x3 x4) s t f) (λ s. OneIsBroken from (Trees.and_argument comma (Trees.sizeof_type x1 x2 x3 x4) Trees.no_arguments) s t f) (λ g w. w)
      (λ s b. inr b) (only_faults comma (Trees.sizeof_type x1 x2 x3 x4) s n i.0 p l w.0 t c at f h)
  one_faults from (Trees.and_argument comma (Trees.cast x1 x2 x3 x4) Trees.no_arguments) s n i p l w t c at f h =
      broken_more s (λ s. IsUnfitOrBroken (Trees.cast x1 x2 x3 x4) s t f) (λ s. OneIsBroken from (Trees.and_argument comma (Trees.cast x1 x2 x3 x4) Trees.no_arguments) s t f) (λ g w. w)
      (λ s b. inr b) (only_faults comma (Trees.cast x1 x2 x3 x4) s n i.0 p l w.0 t c at f h)
  one_faults from (Trees.and_argument comma (Trees.binary x1 x2 x3 x4) Trees.no_arguments) s n i p l w t c at f h =
      broken_more s (λ s. IsUnfitOrBroken (Trees.binary x1 x2 x3 x4) s t f) (λ s. OneIsBroken from (Trees.and_argument comma (Trees.binary x1 x2 x3 x4) Trees.no_arguments) s t f) (λ g w. w)
      (λ s b. inr b) (only_faults comma (Trees.binary x1 x2 x3 x4) s n i.0 p l w.0 t c at f h)
  one_faults from (Trees.and_argument comma (Trees.cond x1 x2 x3 x4 x5) Trees.no_arguments) s n i p l w t c at f h =
      broken_more s (λ s. IsUnfitOrBroken (Trees.cond x1 x2 x3 x4 x5) s t f) (λ s. OneIsBroken from (Trees.and_argument comma (Trees.cond x1 x2 x3 x4 x5) Trees.no_arguments) s t f) (λ g w. w)
      (λ s b. inr b) (only_faults comma (Trees.cond x1 x2 x3 x4 x5) s n i.0 p l w.0 t c at f h)
  one_faults from (Trees.and_argument comma (Trees.assign x1 x2 x3 x4) Trees.no_arguments) s n i p l w t c at f h =
      broken_more s (λ s. IsUnfitOrBroken (Trees.assign x1 x2 x3 x4) s t f) (λ s. OneIsBroken from (Trees.and_argument comma (Trees.assign x1 x2 x3 x4) Trees.no_arguments) s t f) (λ g w. w)
      (λ s b. inr b) (only_faults comma (Trees.assign x1 x2 x3 x4) s n i.0 p l w.0 t c at f h)
  one_faults from (Trees.and_argument comma (Trees.comma x1 x2 x3) Trees.no_arguments) s n i p l w t c at f h =
      broken_more s (λ s. IsUnfitOrBroken (Trees.comma x1 x2 x3) s t f) (λ s. OneIsBroken from (Trees.and_argument comma (Trees.comma x1 x2 x3) Trees.no_arguments) s t f) (λ g w. w)
      (λ s b. inr b) (only_faults comma (Trees.comma x1 x2 x3) s n i.0 p l w.0 t c at f h)

  one_broken : (from : ℕ) (all : Trees.Arguments) (last : Option ℕ) (to : ℕ) (s : Scope) (t : CType) → is_scalar t ≡ true → (f : Fault)
      → OneIsBroken from all s t f → IsBrokenInitializer (Trees.braces from all last to) s t f
  one_broken from all last to s t c f (inl b) = inl (c, b.0, b.1)
  one_broken from all last to s t c f (inr b) = inr (inl (c, b))

  -- ---- elements and fields

  mutual
    unfolding initialized elements fields_from

    -- `k` is a file from which the type of the object is known
    pub initial_faults : (k : FileScope) (a : Trees.Expression) (s : Scope) (n : ℕ) → IsInRange a → Prepared untagged ends s (marks untagged a)
        → n ≤ length s.file.records → IsInitialTimely s.is_inside n a → ReadFrom untagged k s → AreFresh s.file (literals a) → (t : CType) (at : ℕ)
        → IsKnown k t → (f : Fault) → initialized a s t at ≡ Err f
        → Results.Broken (Up s (of untagged a)) s (λ s. IsBrokenInitializer a s t f)
    initial_faults k (Trees.name x1) s n i p l w q fresh t at o f h = plain_faults (Trees.name x1) s n i p l w k t o at (texts_of (Trees.name x1)) f h
    initial_faults k (Trees.number x1 x2 x3) s n i p l w q fresh t at o f h = plain_faults (Trees.number x1 x2 x3) s n i p l w k t o at (texts_of (Trees.number x1 x2 x3)) f h
    initial_faults k (Trees.character x1 x2) s n i p l w q fresh t at o f h = plain_faults (Trees.character x1 x2) s n i p l w k t o at (texts_of (Trees.character x1 x2)) f h
    initial_faults k (Trees.texts x1) s n i p l w q fresh t at o f h = plain_faults (Trees.texts x1) s n i p l w k t o at (texts_of (Trees.texts x1)) f h
    initial_faults k (Trees.paren x1 x2 x3) s n i p l w q fresh t at o f h = plain_faults (Trees.paren x1 x2 x3) s n i p l w k t o at (texts_of (Trees.paren x1 x2 x3)) f h
    initial_faults k (Trees.index x1 x2 x3 x4) s n i p l w q fresh t at o f h = plain_faults (Trees.index x1 x2 x3 x4) s n i p l w k t o at (texts_of (Trees.index x1 x2 x3 x4)) f h
    initial_faults k (Trees.call x1 x2 x3 x4) s n i p l w q fresh t at o f h = plain_faults (Trees.call x1 x2 x3 x4) s n i p l w k t o at (texts_of (Trees.call x1 x2 x3 x4)) f h
    initial_faults k (Trees.dot x1 x2 x3) s n i p l w q fresh t at o f h = plain_faults (Trees.dot x1 x2 x3) s n i p l w k t o at (texts_of (Trees.dot x1 x2 x3)) f h
    initial_faults k (Trees.arrow x1 x2 x3) s n i p l w q fresh t at o f h = plain_faults (Trees.arrow x1 x2 x3) s n i p l w k t o at (texts_of (Trees.arrow x1 x2 x3)) f h
    initial_faults k (Trees.post x1 x2 x3) s n i p l w q fresh t at o f h = plain_faults (Trees.post x1 x2 x3) s n i p l w k t o at (texts_of (Trees.post x1 x2 x3)) f h
    initial_faults k (Trees.pre x1 x2 x3) s n i p l w q fresh t at o f h = plain_faults (Trees.pre x1 x2 x3) s n i p l w k t o at (texts_of (Trees.pre x1 x2 x3)) f h
    initial_faults k (Trees.unary x1 x2 x3) s n i p l w q fresh t at o f h = plain_faults (Trees.unary x1 x2 x3) s n i p l w k t o at (texts_of (Trees.unary x1 x2 x3)) f h
    initial_faults k (Trees.sizeof_expression x1 x2) s n i p l w q fresh t at o f h = plain_faults (Trees.sizeof_expression x1 x2) s n i p l w k t o at (texts_of (Trees.sizeof_expression x1 x2)) f h
    initial_faults k (Trees.sizeof_type x1 x2 x3 x4) s n i p l w q fresh t at o f h = plain_faults (Trees.sizeof_type x1 x2 x3 x4) s n i p l w k t o at (texts_of (Trees.sizeof_type x1 x2 x3 x4)) f h
    initial_faults k (Trees.cast x1 x2 x3 x4) s n i p l w q fresh t at o f h = plain_faults (Trees.cast x1 x2 x3 x4) s n i p l w k t o at (texts_of (Trees.cast x1 x2 x3 x4)) f h
    initial_faults k (Trees.binary x1 x2 x3 x4) s n i p l w q fresh t at o f h = plain_faults (Trees.binary x1 x2 x3 x4) s n i p l w k t o at (texts_of (Trees.binary x1 x2 x3 x4)) f h
    initial_faults k (Trees.cond x1 x2 x3 x4 x5) s n i p l w q fresh t at o f h = plain_faults (Trees.cond x1 x2 x3 x4 x5) s n i p l w k t o at (texts_of (Trees.cond x1 x2 x3 x4 x5)) f h
    initial_faults k (Trees.assign x1 x2 x3 x4) s n i p l w q fresh t at o f h = plain_faults (Trees.assign x1 x2 x3 x4) s n i p l w k t o at (texts_of (Trees.assign x1 x2 x3 x4)) f h
    initial_faults k (Trees.comma x1 x2 x3) s n i p l w q fresh t at o f h = plain_faults (Trees.comma x1 x2 x3) s n i p l w k t o at (texts_of (Trees.comma x1 x2 x3)) f h
    initial_faults k (Trees.braces from all last to) s n i p l w q fresh void at o f h = cc
    initial_faults k (Trees.braces from all last to) s n i p l w q fresh (function t types) at o f h = cc
    initial_faults k (Trees.braces from all last to) s n i p l w q fresh (integer kind) at o f h =
        broken_more s (λ s. OneIsBroken from all s (integer kind) f) (λ s. IsBrokenInitializer (Trees.braces from all last to) s (integer kind) f)
        (λ g w. w) (λ s b. one_broken from all last to s (integer kind) refl f b) (one_faults from all s n i p l w (integer kind) refl at f h)
    initial_faults k (Trees.braces from all last to) s n i p l w q fresh (pointer t) at o f h =
        broken_more s (λ s. OneIsBroken from all s (pointer t) f) (λ s. IsBrokenInitializer (Trees.braces from all last to) s (pointer t) f)
        (λ g w. w) (λ s b. one_broken from all last to s (pointer t) refl f b) (one_faults from all s n i p l w (pointer t) refl at f h)
    initial_faults k (Trees.braces from all last to) s n i p l w q fresh (array u m) at o f h =
        let a = Trees.braces from all last to in
        let May = Up s (of untagged a) in
        chosen_err (is_text u (texts_of a)) _ _ f (Results.Broken May s (λ s. IsBrokenInitializer a s (array u m) f)) h
        (λ b h.
        let c = text_fault from at m u true ((and_parts (is_character u) (is_some (texts_of a)) b).0) (texts_of a) f
        (with_file_err s.file (text_of_array from at m true (texts_of a)) f h) in
        here May s (λ s. IsBrokenInitializer a s (array u m) f) (inr (inr (inl (text_same u m (texts_of a) true b, c.0, c.1)))))
        (λ b h. broken_more s (λ s. AreBrokenElements all s u m f) (λ s. IsBrokenInitializer a s (array u m) f) (λ g w. w)
        (λ s e. inr (inr (inr (inl (u, m, refl, text_same u m (texts_of a) false b, e)))))
        (element_faults k all s n i p l w q fresh u m at ((and_parts (nat_lt 0 m) (is_object (length k.records) u) o).1) f h))
    initial_faults k (Trees.braces from all last to) s n i p l w q fresh (structure r) at o f h =
        let a = Trees.braces from all last to in
        let May = Up s (of untagged a) in
        let rec = record_in k.records r o in
        let known = record_stays q.extends r rec.0 rec.1 in
        let h : fields_from all s r 0 rec.0.fields at ≡ Err f = subst (λ o. fields_from all s r 0 (fields_of o) at ≡ Err f) known h in
        whole May s (λ s. AreBrokenFields all s rec.0.fields f) (λ s. IsBrokenInitializer a s (structure r) f)
        (field_faults k all s n i p l w q fresh r 0 rec.0 rec.1 rec.0.fields at (fields_are k.records r rec.0 rec.1) f h)
        (λ g e b. inr (inr (inr (inr (r, rec.0, refl, record_stays e r rec.0 known, b)))))

    pub element_faults : (k : FileScope) (all : Trees.Arguments) (s : Scope) (n : ℕ) → AreInRange all → Prepared untagged ends s (marks_of_all untagged all)
        → n ≤ length s.file.records → AreInitialsTimely s.is_inside n all → ReadFrom untagged k s → AreFresh s.file (literals_of_all all) → (u : CType)
        (m at : ℕ) → IsKnown k u → (f : Fault) → elements all s u m at ≡ Err f
        → Results.Broken (Up s (of_all untagged all)) s (λ s. AreBrokenElements all s u m f)
    element_faults k Trees.no_arguments s n i p l w q fresh u m at o f h = cc
    element_faults k (Trees.and_argument comma a more) s n i p l w q fresh u zero at o f h =
        here (Up s (of_all untagged (Trees.and_argument comma a more))) s (λ s. AreBrokenElements (Trees.and_argument comma a more) s u zero f)
        (inl (refl, same_fault (List Part × FileScope) (ill_typed R.Init (first a)) f h))
    element_faults k (Trees.and_argument comma a more) s n i p l w q fresh u (suc m) at o f h =
        let x = marks untagged a in
        let rest = marks_of_all untagged more in
        let own_places = literals a in
        let others = literals_of_all more in
        let May = Up s (both (of untagged a) (of_all untagged more)) in
        let before = left untagged ends x rest p in
        let one : suc m ≡ m + 1 = omega arith in
        bound_err (initialized a s u at) _ f (Results.Broken May s (λ s. AreBrokenElements (Trees.and_argument comma a more) s u (suc m) f)) h
        (λ e. broken_more s (λ s. IsBrokenInitializer a s u f) (λ s. AreBrokenElements (Trees.and_argument comma a more) s u (suc m) f)
        (λ g w. within_left (of untagged a) (of_all untagged more) w) (λ s b. inr (m, one, inl b))
        (initial_faults k a s n i.0 before l w.0 q (fresh_left own_places others fresh) u at o f e))
        (λ own e h.
        let v = sound_initial untagged k a s i.0 before.ready q u at o own e in
        let made = begun_there s v.grows in
        let picked = picked_made v.parted in
        let begun = begin_at (within_all own_places v.grows picked) in
        bound_err (elements more (moved s own.1) u m (at + size_of own.1.records u)) _ f
        (Results.Broken May s (λ s. AreBrokenElements (Trees.and_argument comma a more) s u (suc m) f)) h
        (λ e.
        let b = element_faults k more (moved s own.1) (n + added s.is_inside x) i.1 (right untagged ends x rest p v.grew) (known_after n l v.grew) w.1
        (behind untagged q v.grew) (fresh_right own_places others fresh begun) u m (at + size_of own.1.records u) o f e in
        let is = v.holds b.file s.locals b.reaches.extends (same_locals untagged s) (clear others v.parted fresh made (begin_at (within_reached (moved s own.1) (of_all untagged more) b.reaches))) in
        let first_bytes = shifted a (moved s b.file) u at 0 own.0 is in
        record {
          file = b.file;
          reaches = reached_later s own_places (of_all untagged more) v.grew v.grows picked b.reaches;
          is = inr (m, one, inr (first_bytes.0, first_bytes.1, b.is));
        })
        (λ rest e h. cc))

    pub field_faults : (k : FileScope) (all : Trees.Arguments) (s : Scope) (n : ℕ) → AreInRange all → Prepared untagged ends s (marks_of_all untagged all)
        → n ≤ length s.file.records → AreInitialsTimely s.is_inside n all → ReadFrom untagged k s → AreFresh s.file (literals_of_all all) → (r m : ℕ)
        (rec : Record) → slice_get k.records r ≡ Some rec → (fields : List Field) (at : ℕ) → AreFieldsOf k.records r m fields → (f : Fault)
        → fields_from all s r m fields at ≡ Err f → Results.Broken (Up s (of_all untagged all)) s (λ s. AreBrokenFields all s fields f)
    field_faults k Trees.no_arguments s n i p l w q fresh r m rec known fields at are f h = cc
    field_faults k (Trees.and_argument comma a more) s n i p l w q fresh r m rec known [] at are f h =
        here (Up s (of_all untagged (Trees.and_argument comma a more))) s (λ s. AreBrokenFields (Trees.and_argument comma a more) s [] f)
        (inl (refl, same_fault (List Part × FileScope) (ill_typed R.Init (first a)) f h))
    field_faults k (Trees.and_argument comma a more) s n i p l w q fresh r m rec known (y ∷ fields) at are f h =
        let x = marks untagged a in
        let rest = marks_of_all untagged more in
        let own_places = literals a in
        let others = literals_of_all more in
        let May = Up s (both (of untagged a) (of_all untagged more)) in
        let before = left untagged ends x rest p in
        let there = at + offset_of s.file.records r m in
        let t = first_field k.records r m y fields are in
        let o = field_object k.records q.complete r m y.ty t in
        bound_err (initialized a s y.ty there) _ f (Results.Broken May s (λ s. AreBrokenFields (Trees.and_argument comma a more) s (y ∷ fields) f)) h
        (λ e. broken_more s (λ s. IsBrokenInitializer a s y.ty f) (λ s. AreBrokenFields (Trees.and_argument comma a more) s (y ∷ fields) f)
        (λ g w. within_left (of untagged a) (of_all untagged more) w) (λ s b. inr (y, fields, refl, inl b))
        (initial_faults k a s n i.0 before l w.0 q (fresh_left own_places others fresh) y.ty there o f e))
        (λ own e h.
        let v = sound_initial untagged k a s i.0 before.ready q y.ty there o own e in
        let made = begun_there s v.grows in
        let picked = picked_made v.parted in
        let begun = begin_at (within_all own_places v.grows picked) in
        bound_err (fields_from more (moved s own.1) r (m + 1) fields at) _ f
        (Results.Broken May s (λ s. AreBrokenFields (Trees.and_argument comma a more) s (y ∷ fields) f)) h
        (λ e.
        let b = field_faults k more (moved s own.1) (n + added s.is_inside x) i.1 (right untagged ends x rest p v.grew) (known_after n l v.grew) w.1
        (behind untagged q v.grew) (fresh_right own_places others fresh begun) r (m + 1) rec known fields at (later_fields k.records r m y fields are) f e in
        let is = v.holds b.file s.locals b.reaches.extends (same_locals untagged s) (clear others v.parted fresh made (begin_at (within_reached (moved s own.1) (of_all untagged more) b.reaches))) in
        let first_bytes = shifted a (moved s b.file) y.ty there 0 own.0 is in
        record {
          file = b.file;
          reaches = reached_later s own_places (of_all untagged more) v.grew v.grows picked b.reaches;
          is = inr (y, fields, refl, inr (first_bytes.0, first_bytes.1, b.is));
        })
        (λ rest e h. cc))
