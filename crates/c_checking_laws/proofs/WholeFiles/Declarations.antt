-- What is found for declarations in blocks (C99 6.7).
use Rattle.std.proofs.Common.{◌≡◌, ℕ, zero, suc, Bool, true, false, refl, sym, ap, ◌∙◌, subst, List, [], ◌∷◌, ◌++◌, length, append-nil, append_assoc}
use Rattle.std.specs.Prelude.{◌⊎◌, Option, Some, None, Ok, slice_get}
use Rattle.c_types.specs.Types.{CType}
use Rattle.c_ast.specs.declared.words.Spelling.{Spelling}
use Rattle.c_ast.specs.Trees
use Rattle.c_ast.specs.Places.{first_declarator}
use Rattle.c_typed.specs.Trees as Typed
use Rattle.c_typed.specs.Mapped.{of_types, mapped_statements}
use Rattle.c_typed.specs.Typed.{Declared}
use Rattle.c_typed.specs.TypedStatements.{AreTyped, all_declared_by, all_declared}
use Rattle.c_erasure.specs.Declarators.{declared_name}
use Rattle.c_erasure.specs.Literals.{literals_of_value, place_if_static, made_by_declarators}
use Rattle.c_erasure.specs.MentionPlaces.{spoken_by_value, spoken_of_declarator, spoken_of_declarators}
use Rattle.c_erasure.specs.Scopes.{FileScope, Scope, ALocal, declared}
use Rattle.c_erasure.specs.Specifiers.{Storage}
use Rattle.c_erasure.specs.Statements.{Statements, followed_by, DeclareAll, IsVariable, with_object}
use Rattle.c_erasure.specs.Checking.Answers.{moved}
use Rattle.c_erasure.specs.Checking.Statements.{Performed, in_scope, objects_in, variable_of, declare_static, declare_local, declare_as, declare_named}
use Rattle.c_erasure.specs.Checking.Statements.{declare_all}
use Rattle.c_erasure.specs.Checking.Statements.{local_storage, some_declared, local_declaration}
use Rattle.c_checking_laws.proofs.Results.{bound_ok, given}
use Rattle.c_checking_laws.proofs.InRange.{AreSpecifiersInRange, IsDeclaratorInRange}
use Rattle.c_checking_laws.proofs.WholeFiles.Parts.{none}
use Rattle.c_checking_laws.proofs.WholeFiles.Longer.{seen}
use Rattle.c_checking_laws.proofs.WholeFiles.Scoped.{IsWithin, FoundIn, then_in, as_said, nothing_in}
use Rattle.c_checking_laws.proofs.WholeFiles.Locals.{FoundVariable, variable_found}
use Rattle.c_checking_laws.proofs.WholeFiles.LocalObjects.{IsValueInRange, local_found}
use Rattle.c_checking_laws.proofs.WholeFiles.StaticLocals.{static_found}

-- ---- literals in range

abbrev pub AreDeclaratorsInRange : (ends : List ℕ) → ℕ → List Trees.InitDeclarator → Type 0
AreDeclaratorsInRange ends n [] = Unit {0}
AreDeclaratorsInRange ends n (d ∷ more) = IsDeclaratorInRange d.declarator × IsValueInRange ends n d.value × AreDeclaratorsInRange ends n more

abbrev pub IsDeclarationInRange : (ends : List ℕ) → ℕ → Trees.Declaration → Type 0
IsDeclarationInRange ends n d = AreSpecifiersInRange d.specs × AreDeclaratorsInRange ends n d.all

-- ---- statements one after the other

abbrev pub typed_statements : Statements → Typed.Statements CType
typed_statements all = mapped_statements (of_types (λ t. t.ty)) all

pub declared_then : (own rest : Statements) → all_declared_by (followed_by own rest) ≡ all_declared_by own ++ all_declared_by rest
declared_then Typed.no_statements rest = refl
declared_then (Typed.and_statement s more) rest =
    ap (λ z. all_declared s ++ z) (declared_then more rest) ∙ sym (append_assoc (all_declared s) (all_declared_by more) (all_declared_by rest))

pub typed_then : (d : Declared) (result : CType) (loop switch : Bool) (own rest : Statements) → AreTyped d result loop switch (typed_statements own)
    → AreTyped d result loop switch (typed_statements rest) → AreTyped d result loop switch (typed_statements (followed_by own rest))
typed_then d result loop switch Typed.no_statements rest h k = k
typed_then d result loop switch (Typed.and_statement s more) rest h k = (h.0, typed_then d result loop switch more rest h.1 k)

-- where a declarator begins that has a name
pub first_named : (d : Trees.Declarator) (x : Spelling) → declared_name d ≡ Some x → (a b : ℕ) → first_declarator d a ≡ first_declarator d b
first_named Trees.nothing x h a b = cc
first_named (Trees.named y) x h a b = refl
first_named (Trees.pointer at consts d) x h a b = refl
first_named (Trees.enclosed left d right) x h a b = refl
first_named (Trees.array d left length right) x h a b = refl
first_named (Trees.function d left all right) x h a b = refl

abbrev pub static_places : Bool → ℕ → List ℕ
static_places true at = at ∷ []
static_places false at = []

abbrev pub made_by : Bool → List Trees.InitDeclarator → ℕ → List ℕ
made_by static [] semicolon = []
made_by static (d ∷ more) semicolon =
    static_places static (first_declarator d.declarator semicolon) ++ literals_of_value d.value ++ made_by static more semicolon

pub made_same : (static : Bool) (words : Storage) → ((at : ℕ) → place_if_static words at ≡ static_places static at)
    → (all : List Trees.InitDeclarator) (semicolon : ℕ)
    → made_by static all semicolon ≡ made_by_declarators words all semicolon
made_same static words e [] semicolon = refl
made_same static words e (d ∷ more) semicolon = rw (e (first_declarator d.declarator semicolon), made_same static words e more semicolon) refl

module _ (untagged : ℕ → List ℕ) (f : FileScope) where
  abbrev pub AreTypedIn : Statements → FileScope → List ALocal → Scope → Type 0
  AreTypedIn all g l s = (result : CType) (loop switch : Bool) → AreTyped (declared (seen s g l)) result loop switch (typed_statements all)

  -- a declarator, and what follows it
  pub record IsDeclarator (static : Bool) (s : Scope) (base : CType) (d : Trees.InitDeclarator) (all : Statements) (after : Scope) (g : FileScope)
      (l : List ALocal) : Type 0 where
    pub declares : (more : List Trees.InitDeclarator) (rest : Statements) (last : Scope) → DeclareAll more (seen after g l) static base rest last
        → DeclareAll (d ∷ more) (seen s g l) static base (followed_by all rest) last
    pub is_typed : AreTypedIn all g l s

  pub variable_part : (s : Scope) (base : CType) (d : Trees.InitDeclarator) (x : Spelling) (z : CType × FileScope) → FoundVariable untagged f s base d x z
      → FoundIn untagged f s (first_declarator d.declarator x.from ∷ spoken_of_declarator d.declarator) [] (λ g l. IsVariable (seen s g l) base d x z.0) []
      (moved s z.1)
  variable_part s base d x z v = record {
    within = v.within;
    extends = v.extends;
    more = [];
    locals = sym (append-nil s.locals);
    numbered = refl;
    made = [];
    texts = [];
    parted = none;
    grows = v.grows;
    inner = v.inner;
    holds = λ g l e. v.holds g l e.extends e.locals;
  }

  abbrev pub FoundDeclarator : Bool → Scope → CType → Trees.InitDeclarator → ℕ → Statements × Scope → Type 0
  FoundDeclarator static s base d semicolon z =
      FoundIn untagged f s (first_declarator d.declarator semicolon ∷ spoken_of_declarator d.declarator ++ spoken_by_value d.value)
      (static_places static (first_declarator d.declarator semicolon) ++ literals_of_value d.value) (IsDeclarator static s base d z.0 z.1)
      (all_declared_by z.0) z.1

  declarator_by : (static : Bool) (s : Scope) (base : CType) (d : Trees.InitDeclarator) (x : Spelling) (semicolon : ℕ) → IsValueInRange f.ends (length f.records) d.value
      → (t : CType × FileScope) → FoundVariable untagged f s base d x t → (z : Statements × Scope) → declare_as static (moved s t.1) d x t.0 ≡ Ok z
      → FoundDeclarator static s base d x.from z
  declarator_by true s base d x semicolon n t v z h =
      let o = static_found untagged f (moved s t.1) d x t.0 n v.within v.complete z h in
      let b = then_in untagged f s (moved s t.1) z.1 _ _ [] _ _ _ (IsDeclarator true s base d z.0 z.1) _ _ (variable_part s base d x t v) o
      (λ g l e laid goes is made. record {
        declares = λ more rest last h. (
          x,
          t.0,
          objects_in (moved s t.1),
          is,
          made.object,
          subst (λ all. DeclareAll more (with_object (seen s g l) x (objects_in (moved s t.1)) t.0) true base all last)
              (sym (ap (λ all. followed_by all rest) made.all_is))
              (subst (λ c. DeclareAll more c true base rest last) made.after_is h),
        );
        is_typed = λ result loop switch. subst (λ all. AreTyped (declared (seen s g l)) result loop switch (typed_statements all)) (sym made.all_is) tt;
      }) in
      as_said untagged f s z.1 _ _ (IsDeclarator true s base d z.0 z.1) (IsDeclarator true s base d z.0 z.1) [] (all_declared_by z.0) b
      (no_locals z.0 z.1 t.1 t.0 h) (λ g l e laid goes h. h)
    where
      no_locals : (all : Statements) (after : Scope) (g : FileScope) (u : CType) → declare_static (moved s g) d x u ≡ Ok (all, after) → [] ≡ all_declared_by all
      no_locals all after g u h =
          let i = bound_ok (Rattle.c_erasure.specs.Checking.Statements.constants_if_any d.value
          (Rattle.c_erasure.specs.Checking.Statements.with_static (moved s g) d x u) u) _ (all, after) h in
          given (λ (z : Statements × Scope). [] ≡ all_declared_by z.0) _ (all, after) i.2 refl
  declarator_by false s base d x semicolon n t v z h =
      let o = local_found untagged f (moved s t.1) d x t.0 n v.within v.complete z h in
      then_in untagged f s (moved s t.1) z.1 _ _ [] _ _ _ (IsDeclarator false s base d z.0 z.1) [] _ (variable_part s base d x t v) o
      (λ g l e laid goes is made. record {
        declares = λ more rest last h. (
          x,
          t.0,
          length s.locals,
          made.initial,
          rest,
          is,
          made.local,
          ap (λ all. followed_by all rest) made.all_is,
          made.initializer,
          subst (λ c. DeclareAll more c false base rest last) made.after_is h,
        );
        is_typed = λ result loop switch.
            subst (λ all. AreTyped (declared (seen s g l)) result loop switch (typed_statements all)) (sym made.all_is)
            ((t.0, type_there l (length s.locals) _ made.local, made.complete, made.is_typed), tt);
      })
    where
      type_there : (l : List ALocal) (n : ℕ) (a : ALocal) → slice_get l n ≡ Some a → slice_get (Rattle.std.specs.Prelude.map (λ l. l.ty) l) n ≡ Some a.ty
      type_there [] n a h = cc
      type_there (b ∷ more) zero a h = let e : b ≡ a = cc in ap (λ (a : ALocal). Some a.ty) e
      type_there (b ∷ more) (suc n) a h = type_there more n a h

  pub declarator_named : (static : Bool) (s : Scope) (base : CType) (d : Trees.InitDeclarator) (semicolon : ℕ) → IsDeclaratorInRange d.declarator
      → IsValueInRange f.ends (length f.records) d.value → IsWithin untagged f s → (o : Option Spelling) → declared_name d.declarator ≡ o → (z : Statements × Scope)
      → declare_named static s base d o ≡ Ok z → FoundDeclarator static s base d semicolon z
  declarator_named static s base d semicolon n k w None e z h = cc
  declarator_named static s base d semicolon n k w (Some x) e z h =
      let t = bound_ok (in_scope s (variable_of s base d x)) _ z h in
      let u = bound_ok (variable_of s base d x) _ t.0 t.1 in
      let v = variable_found untagged f s base d x e n w u.0 u.1 in
      subst (λ at. FoundIn untagged f s (at ∷ spoken_of_declarator d.declarator ++ spoken_by_value d.value)
      (static_places static at ++ literals_of_value d.value) (IsDeclarator static s base d z.0 z.1) (all_declared_by z.0) z.1)
      (first_named d.declarator x e x.from semicolon)
      (given (λ (t : CType × Scope). declare_as static t.1 d x t.0 ≡ Ok z → FoundDeclarator static s base d x.from z) (u.0.0, moved s u.0.1) t.0 u.2
      (λ h. declarator_by static s base d x semicolon k u.0 v z h) t.2)

  -- all declarators
  pub record AreDeclared (static : Bool) (all : List Trees.InitDeclarator) (s : Scope) (base : CType) (own : Statements) (after : Scope) (g : FileScope)
      (l : List ALocal) : Type 0 where
    pub declares : DeclareAll all (seen s g l) static base own (seen after g l)
    pub is_typed : AreTypedIn own g l s

  abbrev pub FoundDeclarators : Bool → List Trees.InitDeclarator → Scope → CType → ℕ → Statements × Scope → Type 0
  FoundDeclarators static all s base semicolon z =
      FoundIn untagged f s (spoken_of_declarators all semicolon) (made_by static all semicolon) (AreDeclared static all s base z.0 z.1)
      (all_declared_by z.0) z.1

  pub declarators_found : (all : List Trees.InitDeclarator) (s : Scope) (static : Bool) (base : CType) (semicolon : ℕ) → AreDeclaratorsInRange f.ends (length f.records) all
      → IsWithin untagged f s → (z : Statements × Scope) → declare_all all s static base ≡ Ok z → FoundDeclarators static all s base semicolon z
  unfolding declare_all
  declarators_found [] s static base semicolon n w z h =
      given (FoundDeclarators static [] s base semicolon) (Typed.no_statements, s) z h
      (nothing_in untagged f s _ w (λ g l. record { declares = (refl, refl); is_typed = λ result loop switch. tt }))
  declarators_found (d ∷ more) s static base semicolon n w z h =
      let own = bound_ok (declare_named static s base d (declared_name d.declarator)) _ z h in
      let v = declarator_named static s base d semicolon n.0 n.1 w (declared_name d.declarator) refl own.0 own.1 in
      let rest = bound_ok (declare_all more own.0.1 static base) _ z own.2 in
      let u = declarators_found more own.0.1 static base semicolon n.2 v.within rest.0 rest.1 in
      given (FoundDeclarators static (d ∷ more) s base semicolon) (followed_by own.0.0 rest.0.0, rest.0.1) z rest.2
      (as_said untagged f s rest.0.1 _ _ _ _ _ _
      (then_in untagged f s own.0.1 rest.0.1 _ _ _ _ _ _ (AreDeclared static (d ∷ more) s base (followed_by own.0.0 rest.0.0) rest.0.1) _ _ v u
      (λ g l e laid goes one others. record {
        declares = one.declares more rest.0.0 (seen rest.0.1 g l) others.declares;
        is_typed = λ result loop switch.
            typed_then (declared (seen s g l)) result loop switch own.0.0 rest.0.0 (one.is_typed result loop switch) (others.is_typed result loop switch);
      })) (sym (declared_then own.0.0 rest.0.0)) (λ g l e laid goes h. h))
