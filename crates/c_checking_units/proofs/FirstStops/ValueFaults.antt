-- Where the value of a part of an initializer stops, the rule that the fault names is broken (C99 6.7.8).
use Rattle.std.proofs.Common.{◌≡◌, ℕ, ◌+◌, ◌≤◌, Bool, true, false, refl, ap, subst, List, [], ◌∷◌, ◌++◌, length, inl, inr, arith}
use Rattle.std.proofs.Common.{length-append}
use Rattle.std.proofs.lemmas.Bool.{leb-false, eqb-false, eq-eqb}
use Rattle.std.specs.Prelude.{◌⊎◌, ◌==◌, Option, Some, None, Ok, Err, nat_le}
use Rattle.lay_base.specs.declared.faults.Rule.TheVariants as R
use Rattle.c_types.specs.IntKinds.{width}
use Rattle.c_types.specs.Sameness.{same_type}
use Rattle.c_types.specs.Types.{CType, void, integer, pointer, array, function, structure}
use Rattle.c_types.proofs.SameTypes.{same_self}
use Rattle.c_ast.specs.declared.words.Spelling.{Spelling}
use Rattle.c_ast.specs.Trees
use Rattle.c_ast.specs.Places.{first}
use Rattle.c_typed.specs.Conversions.{is_array, is_scalar, is_record}
use Rattle.c_typed.specs.Fits.{assigns}
use Rattle.c_erasure.specs.Broken.{Fault, ill_typed, misplaced, IsNoRecord, IsBroken, HasNoValue}
use Rattle.c_erasure.specs.BrokenStatements.{IsNoArray, IsUnfit}
use Rattle.c_erasure.specs.Erasure.{literal_of}
use Rattle.c_erasure.specs.Initializers.{Part, IsTextOf, is_character}
use Rattle.c_erasure.specs.Noted.{Expression, Thing, an_object, a_value, a_function, a_function_at, a_library_function, type_of, type_of_path}
use Rattle.c_erasure.specs.Scopes.{FileScope, Scope}
use Rattle.c_erasure.specs.Checking.Answers.{◌>>=◌, Checked, with_file}
use Rattle.c_erasure.specs.Checking.Finding.{value_at}
use Rattle.c_erasure.specs.Checking.Initializers.{initial_value_in, value_part, initial_record_in, bytes_in, text_of_array, without_braces}
use Rattle.c_erasure.specs.Checking.Nodes.{null}
use Rattle.c_checking_laws.proofs.Extends.{itself}
use Rattle.c_checking_laws.proofs.FaultResults.{same_fault, bound_err, beside_err, with_file_err, chosen_err, unless_err, Broken, here, there, whole}
use Rattle.c_checking_laws.proofs.FaultParts.{Read, thing_stands, value_stands, value_part as part_for_value}

-- ---- values, records, texts

initial_value_fault : (at : ℕ) (t : CType) (x : Expression) (f : Fault) → initial_value_in at t x ≡ Err f
    → (f ≡ ill_typed R.Assign at) × (assigns (type_of x) (null x) t ≡ false)
unfolding initial_value_in
initial_value_fault at t x f h = let b = unless_err (assigns (type_of x) (null x) t) _ _ _ f h in (b.1, b.0)

initial_record_fault : (from at : ℕ) (t : CType) (th : Thing) (f : Fault) → initial_record_in from at t th ≡ Err f
    → IsNoRecord th t × (f ≡ misplaced th R.Assign from from)
unfolding initial_record_in
initial_record_fault from at t (an_object p) f h =
    let b = unless_err (same_type (type_of_path p) t) _ _ _ f h in
    (λ e. let g = same_self (type_of_path p) t e in let c = b.0 in cc, b.1)
initial_record_fault from at t (a_value e) f h = (tt, same_fault (List Part) (misplaced (a_value e) R.Assign from from) f h)
initial_record_fault from at t (a_function place n u) f h = (tt, same_fault (List Part) (ill_typed R.Assign from) f h)
initial_record_fault from at t (a_function_at e) f h = (tt, same_fault (List Part) (ill_typed R.Assign from) f h)
initial_record_fault from at t (a_library_function place which) f h = (tt, same_fault (List Part) (ill_typed R.Assign from) f h)

-- bytes for which the array has no room
bytes_fault : (from n : ℕ) (u : CType) (all : List Spelling) (f : Fault) → bytes_in from n (literal_of all) ≡ Err f
    → (f ≡ ill_typed R.Init from) × ((bytes : List ℕ) → IsTextOf (array u n) all bytes → ⊥)
bytes_fault from n u all f h =
    chosen_err (nat_le (length (literal_of all)) n) _ _ f ((f ≡ ill_typed R.Init from) × ((bytes : List ℕ) → IsTextOf (array u n) all bytes → ⊥)) h
    (λ b h. cc)
    (λ b h.
    let c = unless_err (length (literal_of all) == n + 1) _ _ _ f h in
    let more = leb-false (length (literal_of all)) n b in
    let not_one = eqb-false (length (literal_of all)) (n + 1) c.0 in
    (c.1, λ bytes t. let same : t.1 ≡ n = let e = t.2 in cc in by_room (omega (arith, more)) not_one bytes t.1 same t.4))
  where
    by_room : n + 1 ≤ length (literal_of all) → (length (literal_of all) ≡ n + 1 → ⊥) → (bytes : List ℕ) (m : ℕ) → m ≡ n
        → ((literal_of all ≡ bytes) × (length bytes ≤ m)) ⊎ ((literal_of all ≡ bytes ++ 0 ∷ []) × (length bytes ≡ m)) → ⊥
    by_room more not_one bytes m e (inl t) = let l = ap length t.0 in let k = t.1 in omega (arith, more, e, l, k)
    by_room more not_one bytes m e (inr t) =
        not_one (let l = ap length t.0 in let k = t.1 in omega (arith, e, l, k, length-append bytes (0 ∷ [])))

-- of another type no text is an initializer
no_character : (u : CType) (n : ℕ) (all : List Spelling) (bytes : List ℕ) → is_character u ≡ false → IsTextOf (array u n) all bytes → ⊥
no_character u n all bytes c t =
    let same : u ≡ integer t.0 = let e = t.2 in cc in
    let one : is_character (integer t.0) ≡ true = eq-eqb (width t.0) 1 t.3 in
    let other : is_character (integer t.0) ≡ false = subst (λ u. is_character u ≡ false) same c in
    cc

pub text_fault : (from at n : ℕ) (u : CType) (b : Bool) → is_character u ≡ b → (o : Option (List Spelling)) (f : Fault)
    → text_of_array from at n b o ≡ Err f → (f ≡ ill_typed R.Init from) × IsNoArray o (array u n)
text_fault from at n u true c (Some all) f h =
    bound_err (bytes_in from n (literal_of all)) _ f ((f ≡ ill_typed R.Init from) × IsNoArray (Some all) (array u n)) h
    (λ e. let b = bytes_fault from n u all f e in (b.0, (refl, b.1))) (λ bytes e h. cc)
text_fault from at n u true c None f h = (same_fault (List Part) (ill_typed R.Init from) f h, refl)
text_fault from at n u false c (Some all) f h =
    (same_fault (List Part) (ill_typed R.Init from) f h, (refl, λ bytes t. no_character u n all bytes c t))
text_fault from at n u false c None f h = (same_fault (List Part) (ill_typed R.Init from) f h, refl)

-- ---- what has no braces

-- a value that is assigned to a number or a pointer
abbrev assigned_to : (from at : ℕ) → CType → Checked Thing → Checked (List Part)
assigned_to from at t r = value_at from r >>= λ x. with_file x.1 (initial_value_in from t x.0) >>= λ y. Ok (value_part at y.0, y.1)

-- the expression, or what it is for that type
abbrev pub IsUnfitOrBroken : Trees.Expression → Scope → CType → Fault → Type 0
IsUnfitOrBroken a s t f = IsBroken a s f ⊎ IsUnfit a s t f

abbrev pub IsPlainlyBroken : Trees.Expression → Option (List Spelling) → Scope → CType → Fault → Type 0
IsPlainlyBroken a o s t f = ((is_array t ≡ true) × (f ≡ ill_typed R.Init (first a)) × IsNoArray o t)
    ⊎ ((is_array t ≡ false) × IsUnfitOrBroken a s t f)

-- a type of objects, complete or not
abbrev pub IsNoFunction : CType → Type 0
IsNoFunction void = ⊥
IsNoFunction (function t all) = ⊥
IsNoFunction t = Unit {0}

module _ (untagged : ℕ → List ℕ) (May : FileScope → Type 0) where
  scalar_stops : (s : Scope) (a : Trees.Expression) (r : Checked Thing) → Read untagged May s a r → (t : CType) → is_scalar t ≡ true → (at : ℕ) (f : Fault)
      → assigned_to (first a) at t r ≡ Err f → Broken May s (λ s. IsUnfitOrBroken a s t f)
  scalar_stops s a r part t i at f h =
      part_for_value untagged May s a r part _ f (Broken May s (λ s. IsUnfitOrBroken a s t f)) h
      (λ b. whole May s (λ s. IsBroken a s f) (λ s. IsUnfitOrBroken a s t f) b (λ g p h. inl h))
      (λ b. whole May s (λ s. HasNoValue a s f) (λ s. IsUnfitOrBroken a s t f) b (λ g p h. inr (inl (i, inl h))))
      (λ x v e h. beside_err x.1 (initial_value_in (first a) t x.0) _ f (Broken May s (λ s. IsUnfitOrBroken a s t f)) h
      (λ k. let n = initial_value_fault (first a) t x.0 f k in
      there May s (λ s. IsUnfitOrBroken a s t f) x.1 v.reaches (inr (inl (i, inr (n.0, (x.0, value_stands untagged May v x.1 (itself x.1), n.1))))))
      (λ y k h. cc))

  record_stops : (s : Scope) (a : Trees.Expression) (r : Checked Thing) → Read untagged May s a r → (t : CType) → is_record t ≡ true → (at : ℕ) (f : Fault)
      → (r >>= λ x. with_file x.1 (initial_record_in (first a) at t x.0)) ≡ Err f → Broken May s (λ s. IsUnfitOrBroken a s t f)
  record_stops s a r part t i at f h =
      bound_err r _ f (Broken May s (λ s. IsUnfitOrBroken a s t f)) h
      (λ e. whole May s (λ s. IsBroken a s f) (λ s. IsUnfitOrBroken a s t f) (part.names f e) (λ g p h. inl h))
      (λ y e h.
      let v = part.sound y e in
      let n = initial_record_fault (first a) at t y.0 f (with_file_err y.1 (initial_record_in (first a) at t y.0) f h) in
      there May s (λ s. IsUnfitOrBroken a s t f) y.1 (part.reaches y e) (inr (inr (i, (y.0, thing_stands untagged May v y.1 (itself y.1), n)))))

  -- a value or a record
  pub unfit_stops : (s : Scope) (a : Trees.Expression) (r : Checked Thing) → Read untagged May s a r → (t : CType) → is_scalar t ≡ true → (at : ℕ)
      (o : Option (List Spelling)) (f : Fault) → without_braces (first a) at t o s.file r ≡ Err f → Broken May s (λ s. IsUnfitOrBroken a s t f)
  unfit_stops s a r part (integer kind) i at o f h = scalar_stops s a r part (integer kind) refl at f h
  unfit_stops s a r part (pointer t) i at o f h = scalar_stops s a r part (pointer t) refl at f h
  unfit_stops s a r part void i at o f h = cc
  unfit_stops s a r part (array u n) i at o f h = cc
  unfit_stops s a r part (function t all) i at o f h = cc
  unfit_stops s a r part (structure n) i at o f h = cc

  pub plain_stops : (s : Scope) (a : Trees.Expression) (r : Checked Thing) → Read untagged May s a r → (t : CType) → IsNoFunction t → (at : ℕ)
      (o : Option (List Spelling)) (f : Fault) → without_braces (first a) at t o s.file r ≡ Err f → Broken May s (λ s. IsPlainlyBroken a o s t f)
  plain_stops s a r part (integer kind) i at o f h =
      whole May s (λ s. IsUnfitOrBroken a s (integer kind) f) (λ s. IsPlainlyBroken a o s (integer kind) f)
      (scalar_stops s a r part (integer kind) refl at f h) (λ g p h. inr (refl, h))
  plain_stops s a r part (pointer t) i at o f h =
      whole May s (λ s. IsUnfitOrBroken a s (pointer t) f) (λ s. IsPlainlyBroken a o s (pointer t) f)
      (scalar_stops s a r part (pointer t) refl at f h) (λ g p h. inr (refl, h))
  plain_stops s a r part (structure n) i at o f h =
      whole May s (λ s. IsUnfitOrBroken a s (structure n) f) (λ s. IsPlainlyBroken a o s (structure n) f)
      (record_stops s a r part (structure n) refl at f h) (λ g p h. inr (refl, h))
  plain_stops s a r part (array u n) i at o f h =
      let b = text_fault (first a) at n u (is_character u) refl o f (with_file_err s.file (text_of_array (first a) at n (is_character u) o) f h) in
      here May s (λ s. IsPlainlyBroken a o s (array u n) f) (inl (refl, b.0, b.1))
  plain_stops s a r part void i at o f h = absurd i
  plain_stops s a r part (function t all) i at o f h = absurd i
