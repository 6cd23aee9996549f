-- The objects that expressions and initializers make hold bytes, as string literals do (C99 6.4.5, 6.7.8), and have types that are fit.
use Rattle.std.proofs.Common.{◌≡◌, ◌≢◌, ◌∙◌, ℕ, ◌+◌, true, refl, sym, subst, List, [], ◌∷◌, ◌++◌, length, ◌≤◌, inl, inr}
use Rattle.std.specs.Prelude.{◌⊎◌, Option, Some, None, All, slice_get}
use Rattle.std.specs.List.{AllByRecursion}
use Rattle.c_types.specs.declared.ty.IntKind.TheVariants.{Char}
use Rattle.c_types.specs.Types.{CType, integer, array, structure, Field}
use Rattle.c_ast.specs.declared.words.Spelling.{Spelling}
use Rattle.c_ast.specs.declared.operators.UnaryOp.TheVariants as U
use Rattle.c_ast.specs.Places.{first_text}
use Rattle.c_ast.specs.Spelling.{Lexeme, spelled, spelled_arguments, spelled_value}
use Rattle.c_ast.specs.Trees
use Rattle.c_typed.specs.declared.program.MentionKind.TheVariants.{Object}
use Rattle.c_typed.specs.Conversions.{is_scalar}
use Rattle.c_typed.specs.Trees as Typed
use Rattle.c_erasure.specs.Erasure.{literal_of, literal_object, place_in, IsLiteralFor, Values, Erases, AreValues}
use Rattle.c_erasure.specs.Initializers.{Part, part_at, texts_of, IsTextOf, IsText, Initializes, IsOneValue, InitializeElements, InitializeFields}
use Rattle.c_erasure.specs.Initializers.{IsInitializer}
use Rattle.c_erasure.specs.Literals.{literals, literals_of_all, literals_of_value}
use Rattle.c_erasure.specs.Noted.{Noted, Expression, Path, Thing, an_object, type_of, type_of_path}
use Rattle.c_erasure.specs.Scopes.{AnObject, FileScope, Scope, in_full, at_file_scope, IsMentioned}
use Rattle.c_erasure.specs.Statements.{HasInitializer, HasConstants, IsVariable}
use Rattle.c_well_typed.proofs.InitialStores.{AreBytes, HaveBytes, HoldsBytes}
use Rattle.c_well_typed.proofs.TokenBytes.{AreOfBytes, Anywhere, literal_of_bytes, behind_comma, behind, behind_type}

some_is : {A : Type 0} (x y : A) → Some x ≡ Some y → x ≡ y
some_is x y h = cc

abbrev pub Holds : AnObject → Type 0
Holds o = (i : Typed.Initializer Noted) → o.initial ≡ Some i → HoldsBytes i

-- that of a literal is an array of characters
abbrev pub IsTextual : AnObject → Type 0
IsTextual o = (bytes : List ℕ) → o.literal ≡ Some bytes → (n : ℕ) × (o.ty ≡ array (integer Char) n)

-- what is wanted of an initializer, of that of an object
abbrev pub IsGood : (Typed.Initializer Noted → Type 0) → AnObject → Type 0
IsGood Good o = (i : Typed.Initializer Noted) → o.initial ≡ Some i → Good i

-- the object that begins there holds bytes, and what is wanted, and is of a type that is fit, or none begins there
abbrev pub IsAccounted : (Typed.Initializer Noted → Type 0) → (CType → Type 0) → FileScope → ℕ → Type 0
IsAccounted Good Fit f at = ((n : ℕ) × (o : AnObject) × (slice_get f.objects n ≡ Some o) × (o.first ≡ at) × Holds o × IsTextual o × IsGood Good o × Fit o.ty)
    ⊎ All (λ o. o.first ≢ at) f.objects

abbrev pub AreAccounted : (Typed.Initializer Noted → Type 0) → (CType → Type 0) → FileScope → List ℕ → Type 0
AreAccounted Good Fit f places = AllByRecursion (IsAccounted Good Fit f) places

pub join : (Good : Typed.Initializer Noted → Type 0) (Fit : CType → Type 0) (f : FileScope) (u v : List ℕ) → AreAccounted Good Fit f u
    → AreAccounted Good Fit f v → AreAccounted Good Fit f (u ++ v)
join Good Fit f [] v h k = k
join Good Fit f (x ∷ u) v h k = (h.0, join Good Fit f u v h.1 k)

have_both : (u v : List Part) → HaveBytes u → HaveBytes v → HaveBytes (u ++ v)
have_both [] v h k = k
have_both (part ∷ u) v h k = (h.0, have_both u v h.1 k)

first_bytes : (u v : List ℕ) → AreBytes (u ++ v) → AreBytes u
first_bytes [] v h = tt
first_bytes (x ∷ u) v h = (h.0, first_bytes u v h.1)

-- an initializer that is known holds bytes where that does
pub holds : (o : AnObject) (i : Typed.Initializer Noted) → o.initial ≡ Some i → HoldsBytes i → Holds o
holds o i e h j k = subst HoldsBytes (some_is i j (sym e ∙ k)) h

pub is_good : (Good : Typed.Initializer Noted → Type 0) (o : AnObject) (i : Typed.Initializer Noted) → o.initial ≡ Some i → Good i → IsGood Good o
is_good Good o i e h j k = subst Good (some_is i j (sym e ∙ k)) h

-- what stands in a function or an initializer, and is evaluated
abbrev pub IsFull : FileScope → Scope → Type 0
IsFull f s = (s.file ≡ f) × (s.purpose ≡ in_full)

-- initializers have what is wanted: those of literals, zeros, and those that are written, where their tokens stand at such places;
-- and the types of literals, of `static` locals and of what is declared at file scope are fit
pub record AreGood (P : ℕ → Type 0) (Good : Typed.Initializer Noted → Type 0) (Fit : CType → Type 0) (f : FileScope) : Type 0 where
  pub of_text : (bytes : List ℕ) → Good (Typed.parts (record { offset = 0; value = Typed.text bytes } ∷ []))
  pub of_zero : Good (Typed.parts [])
  pub of_value : (value : Option (ℕ × Trees.Expression)) (s : Scope) (t : CType) (i : Typed.Initializer Noted) (rest : List Lexeme) → IsFull f s
      → AreOfBytes P (spelled_value value rest) → HasConstants s t value i → Good i
  pub literal_fits : (n : ℕ) → Fit (array (integer Char) n)
  pub local_fits : (s : Scope) (base : CType) (d : Trees.InitDeclarator) (x : Spelling) (t : CType) → IsFull f s → IsVariable s base d x t → Fit t
  pub object_fits : (t : CType) (place : ℕ) → IsMentioned (at_file_scope f) Object t place → Fit t

-- nothing is wanted
pub any_good : (f : FileScope) → AreGood Anywhere (λ i. Unit {0}) (λ t. Unit {0}) f
any_good f = record {
  of_text = λ bytes. tt;
  of_zero = tt;
  of_value = λ value s t i rest e b h. tt;
  literal_fits = λ n. tt;
  local_fits = λ s base d x t e v. tt;
  object_fits = λ t place m. tt;
}

module _ {P : ℕ → Type 0} {Good : Typed.Initializer Noted → Type 0} {Fit : CType → Type 0} (f : FileScope) (good : AreGood P Good Fit f) where
  literal_accounted : (s : Scope) (all : List Spelling) (th : Thing) → IsFull f s → AreBytes (literal_of all)
      → IsLiteralFor s.purpose s (place_in s (first_text all)) (literal_of all) th → AreAccounted Good Fit f (first_text all ∷ [])
  literal_accounted s all th e b h =
      let k = subst (λ p. IsLiteralFor p s (place_in s (first_text all)) (literal_of all) th) e.1 h in
      let o = literal_object (place_in s (first_text all)) (literal_of all) in (
        inl (
          k.0,
          o,
          subst (λ (f : FileScope). slice_get f.objects k.0 ≡ Some o) e.0 k.2,
          refl,
          holds o (Typed.parts (record { offset = 0; value = Typed.text (literal_of all) } ∷ [])) refl (b, tt),
          λ bytes e. (length (literal_of all), refl),
          is_good Good o _ refl (good.of_text (literal_of all)),
          good.literal_fits (length (literal_of all)),
        ),
        tt,
      )

  mutual
    pub accounted : (a : Trees.Expression) (s : Scope) (th : Thing) (rest : List Lexeme) → IsFull f s → AreOfBytes P (spelled a rest) → Erases a s th
        → AreAccounted Good Fit f (literals a)
    accounted (Trees.name x) s th rest e b h = tt
    accounted (Trees.number x n kind) s th rest e b h = tt
    accounted (Trees.character x n) s th rest e b h = tt
    accounted (Trees.texts all) s th rest e b h = literal_accounted s all th e (literal_of_bytes P all rest b) h
    accounted (Trees.paren left a right) s th rest e b h = accounted a s th _ e b.1 h
    accounted (Trees.index a left c right) s th rest e b (inl h) =
        join Good Fit f (literals a) (literals c) (accounted a s _ _ e b h.5) (accounted c s _ _ e (behind P a _ b).1 h.6.2)
    accounted (Trees.index a left c right) s th rest e b (inr (inl h)) =
        join Good Fit f (literals a) (literals c) (accounted a s _ _ e b h.4.2) (accounted c s _ _ e (behind P a _ b).1 h.5.2)
    accounted (Trees.index a left c right) s th rest e b (inr (inr h)) =
        join Good Fit f (literals a) (literals c) (accounted a s _ _ e b h.5.2) (accounted c s _ _ e (behind P a _ b).1 h.6.2)
    accounted (Trees.call g left all right) s th rest e b h =
        join Good Fit f (literals g) (literals_of_all all) (accounted g s h.1 _ e b h.4) (all_accounted all s h.2 _ e (behind P g _ b).1 h.5)
    accounted (Trees.dot a at x) s th rest e b h = accounted a s _ _ e b h.6
    accounted (Trees.arrow a at x) s th rest e b h = accounted a s _ _ e b h.6.2
    accounted (Trees.post a op at) s th rest e b h = accounted a s _ _ e b h.3
    accounted (Trees.pre op at a) s th rest e b h = accounted a s _ _ e b.1 h.3
    accounted (Trees.unary U.Address at a) s th rest e b h = accounted a s h.0 _ e b.1 h.2
    accounted (Trees.unary U.Deref at a) s th rest e b h = accounted a s _ _ e b.1 h.2.2
    accounted (Trees.unary U.Plus at a) s th rest e b h = accounted a s _ _ e b.1 h.3.2
    accounted (Trees.unary U.Minus at a) s th rest e b h = accounted a s _ _ e b.1 h.3.2
    accounted (Trees.unary U.Complement at a) s th rest e b h = accounted a s _ _ e b.1 h.3.2
    accounted (Trees.unary U.Not at a) s th rest e b h = accounted a s _ _ e b.1 h.3.2
    accounted (Trees.sizeof_expression at a) s th rest e b h = tt
    accounted (Trees.sizeof_type at left n right) s th rest e b h = tt
    accounted (Trees.cast left n right a) s th rest e b h = accounted a s _ _ e (behind_type P n _ b.1).1 h.4.2
    accounted (Trees.binary a op at c) s th rest e b h =
        join Good Fit f (literals a) (literals c) (accounted a s _ _ e b h.4.2) (accounted c s _ _ e (behind P a _ b).1 h.5.2)
    accounted (Trees.cond a question c colon d) s th rest e b h =
        let k = behind P a _ b in
        join Good Fit f (literals a ++ literals c) (literals d)
        (join Good Fit f (literals a) (literals c) (accounted a s _ _ e b h.5.2) (accounted c s _ _ e k.1 h.6.2))
        (accounted d s _ _ e (behind P c _ k.1).1 h.7.2)
    accounted (Trees.assign a op at c) s th rest e b (inl h) =
        join Good Fit f (literals a) (literals c) (accounted a s _ _ e b h.5) (accounted c s _ _ e (behind P a _ b).1 h.6.2)
    accounted (Trees.assign a op at c) s th rest e b (inr (inl h)) =
        join Good Fit f (literals a) (literals c) (accounted a s _ _ e b h.5) (accounted c s _ _ e (behind P a _ b).1 h.6)
    accounted (Trees.assign a op at c) s th rest e b (inr (inr h)) =
        join Good Fit f (literals a) (literals c) (accounted a s _ _ e b h.6) (accounted c s _ _ e (behind P a _ b).1 h.7.2)
    accounted (Trees.comma a at c) s th rest e b h =
        join Good Fit f (literals a) (literals c) (accounted a s _ _ e b h.4.2) (accounted c s _ _ e (behind P a _ b).1 h.5.2)
    accounted (Trees.braces left all comma right) s th rest e b h = absurd h

    all_accounted : (all : Trees.Arguments) (s : Scope) (xs : Typed.Expressions Noted) (rest : List Lexeme) → IsFull f s
        → AreOfBytes P (spelled_arguments all rest) → AreValues s xs all → AreAccounted Good Fit f (literals_of_all all)
    all_accounted Trees.no_arguments s xs rest e b h = tt
    all_accounted (Trees.and_argument comma a more) s xs rest e b h =
        let k = behind_comma P comma _ b in
        join Good Fit f (literals a) (literals_of_all more) (accounted a s _ _ e k h.3.2) (all_accounted more s h.1 _ e (behind P a _ k) h.4)

  pub value_accounted : (a : Trees.Expression) (s : Scope) (x : Expression) (rest : List Lexeme) → IsFull f s → AreOfBytes P (spelled a rest)
      → Values (Erases a s) x → AreAccounted Good Fit f (literals a)
  value_accounted a s x rest e b h = accounted a s h.0 rest e b h.2

  -- ---- initializers

  abbrev AreHeld : List Part → List ℕ → Type 0
  AreHeld parts places = HaveBytes parts × AreAccounted Good Fit f places

  text_bytes : (t : CType) (all : List Spelling) (bytes : List ℕ) → AreBytes (literal_of all) → IsTextOf t all bytes → AreBytes bytes
  text_bytes t all bytes b h = by_length h.4
    where
      by_length : ((literal_of all ≡ bytes) × (length bytes ≤ h.1)) ⊎ ((literal_of all ≡ bytes ++ 0 ∷ []) × (length bytes ≡ h.1)) → AreBytes bytes
      by_length (inl e) = subst AreBytes e.0 b
      by_length (inr e) = first_bytes bytes (0 ∷ []) (subst AreBytes e.0 b)

  text_held : (all : List Spelling) (s : Scope) (t : CType) (at : ℕ) (parts : List Part) → IsFull f s → AreBytes (literal_of all) → IsText (Some all) s t at parts
      → AreHeld parts (first_text all ∷ [])
  text_held all s t at parts e b h =
      (subst HaveBytes (sym h.3) (text_bytes t all h.0 b h.1, tt), (inr (subst (λ (f : FileScope). All (λ o. o.first ≢ first_text all) f.objects) e.0 h.2), tt))

  in_braces : (left : ℕ) (all : Trees.Arguments) (last : Option ℕ) (right : ℕ) (s : Scope) (t : CType) (at : ℕ) (parts : List Part) (rest : List Lexeme)
      → IsFull f s → AreOfBytes P (spelled_arguments all rest) → IsText (texts_of (Trees.braces left all last right)) s t at parts
      → AreHeld parts (literals_of_all all)
  in_braces left Trees.no_arguments last right s t at parts rest e b h = absurd h
  in_braces left (Trees.and_argument comma (Trees.texts all) Trees.no_arguments) last right s t at parts rest e b h =
      text_held all s t at parts e (literal_of_bytes P all _ (behind_comma P comma _ b)) h
  in_braces left (Trees.and_argument comma (Trees.texts all) (Trees.and_argument second c more)) last right s t at parts rest e b h = absurd h
  in_braces left (Trees.and_argument comma a more) last right s t at parts rest e b h = absurd h

  single_text : (a : Trees.Expression) (s : Scope) (t : CType) (at : ℕ) (parts : List Part) (rest : List Lexeme) → IsFull f s → AreOfBytes P (spelled a rest)
      → IsText (texts_of a) s t at parts → AreHeld parts (literals a)
  single_text (Trees.texts all) s t at parts rest e b h = text_held all s t at parts e (literal_of_bytes P all rest b) h
  single_text (Trees.braces left all last right) s t at parts rest e b h = in_braces left all last right s t at parts _ e b.1 h
  single_text a s t at parts rest e b h = absurd h

  abbrev IsSingle : Trees.Expression → Scope → CType → ℕ → List Part → Type 0
  IsSingle a s t at parts =
      ((x : Expression) × (is_scalar t ≡ true) × (type_of x ≡ t)
      × (parts ≡ part_at at (Typed.value x)) × Values (Erases a s) x)
      ⊎ ((r : ℕ) × (p : Path) × (t ≡ structure r) × (type_of_path p ≡ t)
      × (parts ≡ part_at at (Typed.record_of p)) × Erases a s (an_object p))
      ⊎ IsText (texts_of a) s t at parts

  single : (a : Trees.Expression) (s : Scope) (t : CType) (at : ℕ) (parts : List Part) (rest : List Lexeme) → IsFull f s → AreOfBytes P (spelled a rest)
      → IsSingle a s t at parts → AreHeld parts (literals a)
  single a s t at parts rest e b (inl h) = (subst HaveBytes (sym h.3) (tt, tt), value_accounted a s h.0 rest e b h.4)
  single a s t at parts rest e b (inr (inl h)) = (subst HaveBytes (sym h.4) (tt, tt), accounted a s (an_object h.1) rest e b h.5)
  single a s t at parts rest e b (inr (inr h)) = single_text a s t at parts rest e b h

  one_value : (all : Trees.Arguments) (s : Scope) (x : Expression) (rest : List Lexeme) → IsFull f s → AreOfBytes P (spelled_arguments all rest)
      → IsOneValue all s x → AreAccounted Good Fit f (literals_of_all all)
  one_value Trees.no_arguments s x rest e b h = absurd h
  one_value (Trees.and_argument comma a Trees.no_arguments) s x rest e b h =
      join Good Fit f (literals a) [] (value_accounted a s x _ e (behind_comma P comma _ b) h) tt
  one_value (Trees.and_argument comma a (Trees.and_argument second c more)) s x rest e b h = absurd h

  mutual
    parts_held : (a : Trees.Expression) (s : Scope) (t : CType) (at : ℕ) (parts : List Part) (rest : List Lexeme) → IsFull f s → AreOfBytes P (spelled a rest)
        → Initializes a s t at parts → AreHeld parts (literals a)
    parts_held (Trees.braces left all last right) s t at parts rest e b (inl h) =
        (subst HaveBytes (sym h.3) (tt, tt), one_value all s h.0 _ e b.1 h.4)
    parts_held (Trees.braces left all last right) s t at parts rest e b (inr (inl h)) = elements_held all s h.1 h.0 at parts _ e b.1 h.4
    parts_held (Trees.braces left all last right) s t at parts rest e b (inr (inr (inl h))) = fields_held all s h.0 0 h.1.fields at parts _ e b.1 h.4
    parts_held (Trees.braces left all last right) s t at parts rest e b (inr (inr (inr h))) = in_braces left all last right s t at parts _ e b.1 h
    parts_held a s t at parts rest e b h = single a s t at parts rest e b h

    elements_held : (all : Trees.Arguments) (s : Scope) (u : CType) (n at : ℕ) (parts : List Part) (rest : List Lexeme) → IsFull f s
        → AreOfBytes P (spelled_arguments all rest) → InitializeElements all s u n at parts → AreHeld parts (literals_of_all all)
    elements_held Trees.no_arguments s u n at parts rest e b h = (subst HaveBytes (sym h) tt, tt)
    elements_held (Trees.and_argument comma a more) s u n at parts rest e b h =
        let k = behind_comma P comma _ b in
        let p = parts_held a s u at h.1 _ e k h.5 in
        let q = elements_held more s u h.0 _ h.2 _ e (behind P a _ k) h.6 in
        (subst HaveBytes (sym h.4) (have_both h.1 h.2 p.0 q.0), join Good Fit f (literals a) (literals_of_all more) p.1 q.1)

    fields_held : (all : Trees.Arguments) (s : Scope) (r k : ℕ) (fields : List Field) (at : ℕ) (parts : List Part) (rest : List Lexeme) → IsFull f s
        → AreOfBytes P (spelled_arguments all rest) → InitializeFields all s r k fields at parts → AreHeld parts (literals_of_all all)
    fields_held Trees.no_arguments s r k fields at parts rest e b h = (subst HaveBytes (sym h) tt, tt)
    fields_held (Trees.and_argument comma a more) s r k fields at parts rest e b h =
        let c = behind_comma P comma _ b in
        let p = parts_held a s h.0.ty _ h.2 _ e c h.6 in
        let q = fields_held more s r (k + 1) h.1 at h.3 _ e (behind P a _ c) h.7 in
        (subst HaveBytes (sym h.5) (have_both h.2 h.3 p.0 q.0), join Good Fit f (literals a) (literals_of_all more) p.1 q.1)

  abbrev IsHeld : Typed.Initializer Noted → List ℕ → Type 0
  IsHeld i places = HoldsBytes i × AreAccounted Good Fit f places

  whole_held : (a : Trees.Expression) (s : Scope) (t : CType) (i : Typed.Initializer Noted) (rest : List Lexeme) → IsFull f s → AreOfBytes P (spelled a rest)
      → IsInitializer a s t i → IsHeld i (literals a)
  whole_held a s t i rest e b (inl h) = (subst HoldsBytes (sym h.1) tt, (parts_held a s t 0 _ rest e b h.3).1)
  whole_held a s t i rest e b (inr (inl h)) = (subst HoldsBytes (sym h.1) tt, (parts_held a s t 0 _ rest e b h.4).1)
  whole_held a s t i rest e b (inr (inr h)) =
      let k = parts_held a s t 0 h.0 rest e b h.3 in (subst HoldsBytes (sym h.1) k.0, k.1)

  pub constants_held : (value : Option (ℕ × Trees.Expression)) (s : Scope) (t : CType) (i : Typed.Initializer Noted) (rest : List Lexeme) → IsFull f s
      → AreOfBytes P (spelled_value value rest) → HasConstants s t value i → IsHeld i (literals_of_value value)
  constants_held None s t i rest e b h = (subst HoldsBytes (sym h) tt, tt)
  constants_held (Some value) s t i rest e b h = whole_held value.1 s t i rest e b.1 h.0

  pub initial_accounted : (value : Option (ℕ × Trees.Expression)) (s : Scope) (t : CType) (o : Option (Typed.Initializer Noted)) (rest : List Lexeme)
      → IsFull f s → AreOfBytes P (spelled_value value rest) → HasInitializer s t value o → AreAccounted Good Fit f (literals_of_value value)
  initial_accounted None s t o rest e b h = tt
  initial_accounted (Some value) s t o rest e b h = (whole_held value.1 s t h.0 rest e b.1 h.2).1
