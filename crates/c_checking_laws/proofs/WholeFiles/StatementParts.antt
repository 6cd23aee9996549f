-- What is found for declarations in blocks, and for parts of statements (C99 6.7, 6.8).
use Rattle.std.proofs.Common.{◌≡◌, ◌≢◌, ℕ, Bool, true, false, refl, sym, ap, ◌∙◌, subst, List, [], ◌∷◌, ◌++◌, append-nil}
use Rattle.std.proofs.Common.{length}
use Rattle.std.proofs.Common.{inl, inr}
use Rattle.std.specs.Prelude.{◌⊎◌, ◌^◌, Some, Ok}
use Rattle.std.proofs.Math.Nat.{mod-mod}
use Rattle.c_types.specs.declared.ty.IntKind.{IntKind}
use Rattle.c_types.specs.declared.ty.IntKind.TheVariants.{Char, SChar, UChar, Short, UShort, Int, UInt, Long, ULong}
use Rattle.c_types.specs.Types.{CType, void, integer, pointer, array, function, structure}
use Rattle.c_ast.specs.Trees
use Rattle.c_ast.specs.Places.{first, first_specifiers}
use Rattle.c_typed.specs.Conversions.{as_kind, is_scalar, promoted_kind, promoted}
use Rattle.c_typed.specs.Constants.{ty}
use Rattle.c_typed.specs.Fits.{assigns}
use Rattle.c_typed.specs.Rules.{promoting}
use Rattle.c_typed.specs.Typed.{bare_ty, IsTyped, IsTested, IsConverted}
use Rattle.c_typed.specs.TypedStatements.{all_declared_by}
use Rattle.c_erasure.specs.Erasure.{typed, IsBase, IsOne, Erases, Values}
use Rattle.c_erasure.specs.Literals.{literals, place_if_static, made_by_declaration}
use Rattle.c_erasure.specs.Marks.{marks_of_specifiers}
use Rattle.c_erasure.specs.MentionPlaces.{spoken, spoken_of_declaration, spoken_of_specifiers}
use Rattle.c_erasure.specs.Noted.{Expression, Thing, type_of}
use Rattle.c_erasure.specs.Scopes.{FileScope, Scope, ALocal, declared, inside}
use Rattle.c_erasure.specs.Specifiers.{Storage, no_storage, a_typedef, is_extern, is_static, is_auto, is_register, several, storage_of}
use Rattle.c_erasure.specs.Statements.{Statements, DeclareAll, IsLocalDeclaration, IsPlain}
use Rattle.c_erasure.specs.Checking.Answers.{Answer, moved}
use Rattle.c_erasure.specs.Checking.Declaring.{base_kind}
use Rattle.c_erasure.specs.Checking.Finding.{base_type, one_of}
use Rattle.c_erasure.specs.Checking.Nodes.{null, converted}
use Rattle.c_erasure.specs.Checking.Statements.{in_scope, leaving, declare_all, local_storage, some_declared, local_declaration, value_of_expression}
use Rattle.c_erasure.specs.Checking.Statements.{condition_in, condition, switch_value, switched_in, returned_in}
use Rattle.c_checking_laws.proofs.Results.{bound_ok, given, only_if}
use Rattle.c_checking_laws.proofs.Agreement.{blocks_stay}
use Rattle.c_checking_laws.proofs.InRange.{IsInRange, AreSpecifiersInRange}
use Rattle.c_checking_laws.proofs.Values.{IsValue, operand, unconverted_same, type_same}
use Rattle.c_checking_laws.proofs.Sound.{sound_base}
use Rattle.c_checking_laws.proofs.Growth.{grow_base}
use Rattle.c_checking_laws.proofs.WholeFiles.Parts.{none}
use Rattle.c_checking_laws.proofs.WholeFiles.SameLocals.{with_locals, same_one_of}
use Rattle.c_checking_laws.proofs.WholeFiles.Longer.{seen, blocks_longer}
use Rattle.c_erasure.specs.Scopes.{AnObject}
use Rattle.std.specs.Prelude.{slice_get}
use Rattle.c_checking_laws.proofs.Extends.{itself}
use Rattle.c_checking_laws.proofs.WholeFiles.Keeping.{keep_base}
use Rattle.c_checking_laws.proofs.WholeFiles.Scoped.{IsLater, IsInner, inner_of, inner_later, outside}
use Rattle.c_checking_laws.proofs.WholeFiles.Scoped.{IsWithin, ready_for, inside_grows, within_moved, FoundIn, then_in, as_said, nothing_in, FoundBeside}
use Rattle.c_checking_laws.proofs.WholeFiles.Scoped.{value_in}
use Rattle.c_checking_laws.proofs.WholeFiles.Declarations.{IsDeclarationInRange, static_places, made_same, AreTypedIn, declarators_found}

-- ---- storage classes in a block

record IsKept {A : Type 0} (words : Storage) (k : Bool → Answer A) (z : A) : Type 0 where
  pub static : Bool
  pub answer : k static ≡ Ok z
  pub places : (at : ℕ) → place_if_static words at ≡ static_places static at
  pub words_are : ((static ≡ true) × (words ≡ is_static)) ⊎ ((static ≡ false) × ((words ≡ no_storage) ⊎ (words ≡ is_auto) ⊎ (words ≡ is_register)))

storage_is : {A : Type 0} (at : ℕ) (words : Storage) (k : Bool → Answer A) (z : A) → local_storage at words k ≡ Ok z → IsKept words k z
storage_is at no_storage k z h = record { static = false; answer = h; places = λ at. refl; words_are = inr (refl, inl refl) }
storage_is at is_auto k z h = record { static = false; answer = h; places = λ at. refl; words_are = inr (refl, inr (inl refl)) }
storage_is at is_register k z h = record { static = false; answer = h; places = λ at. refl; words_are = inr (refl, inr (inr refl)) }
storage_is at is_static k z h = record { static = true; answer = h; places = λ at. refl; words_are = inl (refl, refl) }
storage_is at several k z h = cc
storage_is at a_typedef k z h = cc
storage_is at is_extern k z h = cc

some_are : {A : Type 0} (at : ℕ) (all : List Trees.InitDeclarator) (r : Answer A) (z : A) → some_declared at all r ≡ Ok z → (all ≢ []) × (r ≡ Ok z)
some_are at [] r z h = cc
some_are at (d ∷ more) r z h = (λ e. cc, h)

-- ---- values that are tested, switched on, and returned

condition_is : (at : ℕ) (x y : Expression) → condition_in at x ≡ Ok y → (is_scalar (type_of x) ≡ true) × (x ≡ y)
unfolding condition_in
condition_is at x y h =
    let b = only_if (is_scalar (type_of x)) _ _ _ y h in
    (b.0, given (λ y. x ≡ y) x y b.1 refl)

pub plain_value : (a : Trees.Expression) (c : Scope) (x : Expression) → IsValue (Erases a c) c x → IsPlain a c x
plain_value a c x v = (v.0, unconverted_same x v.2)

pub tested_value : (x : Expression) (Is : Thing → Type 0) (c : Scope) → IsValue Is c x → is_scalar (type_of x) ≡ true → IsTested (typed x)
tested_value x Is c v h = (v.2, ap is_scalar (type_same x) ∙ h)

pub record IsSwitched (Is : Thing → Type 0) (c : Scope) (x : Expression) (kind : IntKind) : Type 0 where
  pub values : Values Is x
  pub is_typed : IsTyped (declared c) (typed x)
  pub promotes : promoting (bare_ty (typed x)) ≡ Some (ty (typed x))
  pub type_is : type_of x ≡ integer kind

kind_is : (k kind : IntKind) → integer k ≡ integer kind → k ≡ kind
kind_is k kind h = cc

abbrev Keeps : IntKind → Type 0
Keeps kind = (v : ℕ) → as_kind kind (as_kind kind v) ≡ as_kind kind v

keeps_promoted : (k : IntKind) → Keeps (promoted_kind k)
keeps_promoted Char v = mod-mod v (2 ^ 32)
keeps_promoted SChar v = mod-mod v (2 ^ 32)
keeps_promoted UChar v = mod-mod v (2 ^ 32)
keeps_promoted Short v = mod-mod v (2 ^ 32)
keeps_promoted UShort v = mod-mod v (2 ^ 32)
keeps_promoted Int v = mod-mod v (2 ^ 32)
keeps_promoted UInt v = mod-mod v (2 ^ 32)
keeps_promoted Long v = mod-mod v (2 ^ 32)
keeps_promoted ULong v = mod-mod v (2 ^ 32)

keeps_so : (t : CType) (kind : IntKind) → promoted t ≡ integer kind → Keeps kind
keeps_so (integer k) kind h = subst Keeps (kind_is (promoted_kind k) kind h) (keeps_promoted k)
keeps_so void kind h = cc
keeps_so (pointer t) kind h = cc
keeps_so (array t n) kind h = cc
keeps_so (function t all) kind h = cc
keeps_so (structure r) kind h = cc

promotes_so : (t : CType) (kind : IntKind) → promoted t ≡ integer kind → promoting t ≡ Some (integer kind)
promotes_so (integer k) kind h = ap Some h
promotes_so void kind h = cc
promotes_so (pointer t) kind h = cc
promotes_so (array t n) kind h = cc
promotes_so (function t all) kind h = cc
promotes_so (structure r) kind h = cc

pub switched_made : (Is : Thing → Type 0) (c : Scope) (at : ℕ) (x : Expression) → IsValue Is c x → (y : Expression × IntKind) → switched_in at x ≡ Ok y
    → IsSwitched Is c y.0 y.1
unfolding switched_in
switched_made Is c at x v y h = by_type (promoted (type_of x)) refl h
  where
    by_type : (t : CType) → promoted (type_of x) ≡ t → switch_value at x t ≡ Ok y → IsSwitched Is c y.0 y.1
    by_type (integer kind) e h =
        let o = operand Is c (integer kind) x v in
        given (λ (y : Expression × IntKind). IsSwitched Is c y.0 y.1) (converted (integer kind) x, kind) y h (record {
          values = o.values;
          is_typed = o.is_typed;
          promotes = ap promoting o.bare_type_is ∙ promotes_so (type_of x) kind e ∙ ap Some (sym o.type_is);
          type_is = sym (type_same (converted (integer kind) x)) ∙ o.type_is;
        })
    by_type void e h = cc
    by_type (pointer t) e h = cc
    by_type (array t n) e h = cc
    by_type (function t all) e h = cc
    by_type (structure r) e h = cc

-- of which values are kept, whatever is switched on
pub switched_keeps : (at : ℕ) (x : Expression) (y : Expression × IntKind) → switched_in at x ≡ Ok y → Keeps y.1
unfolding switched_in
switched_keeps at x y h = by_type (promoted (type_of x)) refl h
  where
    by_type : (t : CType) → promoted (type_of x) ≡ t → switch_value at x t ≡ Ok y → Keeps y.1
    by_type (integer kind) e h = given (λ (y : Expression × IntKind). Keeps y.1) (converted (integer kind) x, kind) y h (keeps_so (type_of x) kind e)
    by_type void e h = cc
    by_type (pointer t) e h = cc
    by_type (array t n) e h = cc
    by_type (function t all) e h = cc
    by_type (structure r) e h = cc

pub returned_made : (Is : Thing → Type 0) (c : Scope) (at : ℕ) (t : CType) (x : Expression) → IsValue Is c x → (y : Expression) → returned_in at t x ≡ Ok y
    → Values Is y × IsTyped (declared c) (typed y) × IsConverted (typed y) t
unfolding returned_in
returned_made Is c at t x v y h =
    let b = only_if (assigns (type_of x) (null x) t) _ _ _ y h in
    let o = operand Is c t x v in
    given (λ y. Values Is y × IsTyped (declared c) (typed y) × IsConverted (typed y) t) _ y b.1
    (o.values, o.is_typed, (rw (o.bare_type_is, o.null_is) b.0, o.type_is))

module _ (untagged : ℕ → List ℕ) (f : FileScope) where
  -- what holds of the scope as the whole function sees it
  abbrev pub FoundAs : Scope → (x k : List ℕ) → (Scope → Type 0) → List ℕ → Scope → Type 0
  FoundAs s x k A numbers after = FoundBeside untagged f s x k (λ g l. A (seen s g l)) numbers after

  pub same_seen : (s m : Scope) → m ≡ leaving s m → (g : FileScope) (l : List ALocal) → seen m g l ≡ seen s g l
  same_seen s m e g l = ap (λ c. seen c g l) e

  pub then_as : (s m n : Scope) (x y k l : List ℕ) (A B C : Scope → Type 0) (i j : List ℕ) → FoundAs s x k A i m → FoundAs m y l B j n
      → ((c : Scope) → A c → B c → C c) → FoundAs s (x ++ y) (k ++ l) C (i ++ j) n
  then_as s m n x y k l A B C i j p q both = record {
    found = then_in untagged f s m n x y k l _ _ _ i j p.found q.found
        (λ g l e laid goes a b. both (seen s g l) a (subst B (same_seen s m p.stays g l) b));
    stays = q.stays ∙ ap (λ c. leaving c n) p.stays;
  }

  pub change_as : (s n : Scope) (x k : List ℕ) (A B : Scope → Type 0) (i j : List ℕ) → FoundAs s x k A i n → i ≡ j → ((c : Scope) → A c → B c)
      → FoundAs s x k B j n
  change_as s n x k A B i j p e is = record {
    found = as_said untagged f s n x k _ _ i j p.found e (λ g l e laid goes a. is (seen s g l) a);
    stays = p.stays;
  }

  pub nothing_as : (s : Scope) (A : Scope → Type 0) → IsWithin untagged f s → ((c : Scope) → A c) → FoundAs s [] [] A [] s
  nothing_as s A w is = record { found = nothing_in untagged f s _ w (λ g l. is (seen s g l)); stays = refl }

  -- ---- blocks

  pub inside_within : (s : Scope) → IsWithin untagged f s → IsWithin untagged f (inside s)
  inside_within s w = record {
    inside = refl;
    full = w.full;
    ready = record { names_fit = w.ready.names_fit; blocks_fit = (tt, w.ready.blocks_fit); ends_stand = λ j n right h. cc };
    whole = w.whole;
    complete = w.complete;
    extends = w.extends;
    same = w.same;
  }

  -- after a block its names are gone
  pub left_block : (s n : Scope) (x k : List ℕ) (A : FileScope → List ALocal → Type 0) (i : List ℕ) → IsWithin untagged f s
      → FoundIn untagged f (inside s) x k A i n → FoundIn untagged f s x k A i (leaving s n)
  left_block s n x k A i w p = record {
    within = record {
      inside = w.inside;
      full = w.full;
      ready = record {
        names_fit = p.within.ready.names_fit;
        blocks_fit = subst (λ l. Rattle.c_checking_laws.proofs.Agreement.BlocksAreFit n.file l s.blocks) (sym p.locals)
            (blocks_longer n.file s.locals p.more s.blocks (blocks_stay p.extends s.locals s.blocks w.ready.blocks_fit));
        ends_stand = λ j m right h. cc;
      };
      complete = p.within.complete;
      whole = p.within.whole;
      extends = p.within.extends;
      same = p.within.same;
    };
    extends = p.extends;
    more = p.more;
    locals = p.locals;
    numbered = p.numbered;
    made = p.made;
    texts = p.texts;
    parted = p.parted;
    grows = p.grows;
    inner = λ k o e. by_part k o (p.inner k o e);
    holds = λ g l e. p.holds g l (as_later g l e);
  }
    where
      as_later : (g : FileScope) (l : List ALocal) → IsLater f (leaving s n) p.texts g l → IsLater f n p.texts g l
      as_later g l e = record { extends = e.extends; locals = e.locals; laid = e.laid; none_begins = e.none_begins; constants = e.constants }

      by_part : (k : ℕ) (o : AnObject) → (slice_get s.file.objects k ≡ Some o) ⊎ IsInner f n p.texts o
          → (slice_get s.file.objects k ≡ Some o) ⊎ IsInner f (leaving s n) p.texts o
      by_part k o (inl e) = inl e
      by_part k o (inr e) = inr (inner_later f n (leaving s n) p.texts p.texts (itself n.file) as_later o e)

  -- ---- declarations

  pub base_in : (specs : Trees.Specifiers) (s : Scope) → AreSpecifiersInRange specs → IsWithin untagged f s → (b : CType × FileScope)
      → base_type (base_kind specs) (first_specifiers specs) s.file (one_of specs s) ≡ Ok b
      → FoundIn untagged f s (spoken_of_specifiers specs) [] (λ g l. IsBase (IsOne (seen s g l) specs) specs b.0) [] (moved s b.1)
  base_in specs s n w b h =
      let u = marks_of_specifiers untagged specs in
      let v = sound_base untagged specs s n (ready_for w s.locals ([], sym (append-nil s.locals)) u) (first_specifiers specs) b h in
      let keeps = keep_base untagged [] specs s w.same (λ i. outside w.inside i) (first_specifiers specs) b h in
      record {
        within = within_moved untagged f s u b.1 w v.grew keeps;
        extends = v.grew.extends;
        more = [];
        locals = sym (append-nil s.locals);
        numbered = refl;
        made = [];
        texts = [];
        parted = none;
        grows = inside_grows s u (spoken_of_specifiers specs) [] b.1 w.inside w.full (grow_base untagged specs s w.same (first_specifiers specs) b h);
        inner = inner_of f s (moved s b.1) [] keeps;
        holds = λ g l e.
            let same = ap (base_type (base_kind specs) (first_specifiers specs) s.file) (same_one_of l specs s) ∙ h in
            (sound_base untagged specs (with_locals l s) n (ready_for w l e.locals u) (first_specifiers specs) b same).holds g e.extends;
      }

  pub record IsDeclaration (d : Trees.Declaration) (s : Scope) (all : Statements) (after : Scope) (g : FileScope) (l : List ALocal) : Type 0 where
    pub declares : IsLocalDeclaration d (seen s g l) all (seen after g l)
    pub is_typed : AreTypedIn untagged f all g l s

  pub declaration_found : (d : Trees.Declaration) (s : Scope) → IsDeclarationInRange f.ends (length f.records) d → IsWithin untagged f s → (z : Statements × Scope)
      → local_declaration d s ≡ Ok z
      → FoundIn untagged f s (spoken_of_declaration d) (made_by_declaration d) (IsDeclaration d s z.0 z.1) (all_declared_by z.0) z.1
  declaration_found d s n w z h =
      let k = storage_is (first_specifiers d.specs) (storage_of d.specs) _ z h in
      let one = base_type (base_kind d.specs) (first_specifiers d.specs) s.file (one_of d.specs s) in
      let b = bound_ok (in_scope s one) _ z k.answer in
      let c = bound_ok one _ b.0 b.1 in
      let v = base_in d.specs s n.0 w c.0 c.1 in
      let a = some_are (first_specifiers d.specs) d.all _ z b.2 in
      let there : declare_all d.all (moved s c.0.1) k.static c.0.0 ≡ Ok z =
      given (λ (b : CType × Scope). declare_all d.all b.1 k.static b.0 ≡ Ok z → declare_all d.all (moved s c.0.1) k.static c.0.0 ≡ Ok z) (c.0.0, moved s c.0.1)
      b.0 c.2 (λ h. h) a.1 in
      let u = declarators_found untagged f d.all (moved s c.0.1) k.static c.0.0 d.semicolon n.1 v.within z there in
      subst (λ m. FoundIn untagged f s (spoken_of_declaration d) m (IsDeclaration d s z.0 z.1) (all_declared_by z.0) z.1)
      (made_same k.static (storage_of d.specs) k.places d.all d.semicolon)
      (then_in untagged f s (moved s c.0.1) z.1 _ _ [] _ _ _ (IsDeclaration d s z.0 z.1) [] _ v u
      (λ g l e laid goes is all. record {
        declares = (c.0.0, is, a.0, by_words k.static k.words_are c.0.0 g l all.declares);
        is_typed = all.is_typed;
      }))
    where
      by_words : (static : Bool)
          → ((static ≡ true) × (storage_of d.specs ≡ is_static))
          ⊎ ((static ≡ false) × ((storage_of d.specs ≡ no_storage) ⊎ (storage_of d.specs ≡ is_auto) ⊎ (storage_of d.specs ≡ is_register)))
          → (base : CType) (g : FileScope) (l : List ALocal) → DeclareAll d.all (seen s g l) static base z.0 (seen z.1 g l)
          → ((storage_of d.specs ≡ is_static) × DeclareAll d.all (seen s g l) true base z.0 (seen z.1 g l))
          ⊎ (((storage_of d.specs ≡ no_storage) ⊎ (storage_of d.specs ≡ is_auto) ⊎ (storage_of d.specs ≡ is_register))
          × DeclareAll d.all (seen s g l) false base z.0 (seen z.1 g l))
      by_words static (inl e) base g l h = inl (e.1, subst (λ b. DeclareAll d.all (seen s g l) b base z.0 (seen z.1 g l)) e.0 h)
      by_words static (inr e) base g l h = inr (e.1, subst (λ b. DeclareAll d.all (seen s g l) b base z.0 (seen z.1 g l)) e.0 h)

  -- ---- expressions in statements

  abbrev pub IsValueThere : Trees.Expression → Expression → Scope → Type 0
  IsValueThere a x c = IsValue (Erases a c) c x

  pub value_as : (a : Trees.Expression) (s : Scope) → IsInRange a → IsWithin untagged f s → (z : Expression × Scope) → value_of_expression a s ≡ Ok z
      → FoundAs s (spoken a) (literals a) (IsValueThere a z.0) [] z.1
  value_as a s n w z h = value_in untagged f a s n w z h

  abbrev pub IsConditionThere : Trees.Expression → Expression → Scope → Type 0
  IsConditionThere a x c = IsPlain a c x × IsTyped (declared c) (typed x) × IsTested (typed x)

  pub condition_as : (a : Trees.Expression) (s : Scope) → IsInRange a → IsWithin untagged f s → (z : Expression × Scope) → condition a s ≡ Ok z
      → FoundAs s (spoken a) (literals a) (IsConditionThere a z.0) [] z.1
  condition_as a s n w z h =
      let x = bound_ok (value_of_expression a s) _ z h in
      let v = value_as a s n w x.0 x.1 in
      let y = bound_ok (condition_in (first a) x.0.0) _ z x.2 in
      let c = condition_is (first a) x.0.0 y.0 y.1 in
      given (λ (z : Expression × Scope). FoundAs s (spoken a) (literals a) (IsConditionThere a z.0) [] z.1) (y.0, x.0.1) z y.2
      (subst (λ y. FoundAs s (spoken a) (literals a) (IsConditionThere a y) [] x.0.1) c.1
      (change_as s x.0.1 (spoken a) (literals a) (IsValueThere a x.0.0) (IsConditionThere a x.0.0) [] [] v refl
      (λ e v. (plain_value a e x.0.0 v, v.1, tested_value x.0.0 (Erases a e) e v c.0))))
