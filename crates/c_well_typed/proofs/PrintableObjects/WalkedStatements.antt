-- What stands for a statement refers to the objects of its string literals; the literals in the initializers of its `static` locals are referred to by those
-- objects (C99 6.4.5, 6.7.8, 6.8).
use Rattle.std.proofs.Common.{◌≡◌, ◌∙◌, ℕ, zero, suc, ◌+◌, Bool, true, false, refl, sym, ap, subst, List, [], ◌∷◌, ◌++◌, arith, append-nil, append_assoc, inl}
use Rattle.std.proofs.Common.{inr}
use Rattle.std.specs.Prelude.{◌⊎◌, ◌==◌, if◌then◌else◌, Option, Some, None, slice_get}
use Rattle.c_types.specs.declared.ty.IntKind.{IntKind}
use Rattle.c_types.specs.Types.{CType}
use Rattle.c_ast.specs.declared.words.Spelling.{Spelling}
use Rattle.c_ast.specs.Places.{first_declarator}
use Rattle.c_ast.specs.Trees
use Rattle.c_ast.specs.WellFormed as Formed
use Rattle.c_typed.specs.References.{Reference, references, references_by_initializer, references_by_initial, references_if_any, references_by_statement}
use Rattle.c_typed.specs.References.{references_by_statements, references_by_arms}
use Rattle.c_typed.specs.Trees as Typed
use Rattle.c_typed.specs.TypedStatements.{all_declared, all_declared_by, all_declared_by_arms}
use Rattle.c_erasure.specs.Declarators.{declared_name}
use Rattle.c_erasure.specs.Erasure.{place_in, Values, Erases}
use Rattle.c_erasure.specs.Literals.{literals, literals_if_any, literals_of_value, place_if_static, made_by_declarators, made_by_declaration, made_by_start}
use Rattle.c_erasure.specs.Literals.{made_by, made_by_item, made_by_items, made_by_switch_item, made_by_switch_items}
use Rattle.c_erasure.specs.Noted.{Noted, Expression}
use Rattle.c_erasure.specs.Scopes.{ALocal, AnObject, FileScope, Scope, inside}
use Rattle.c_erasure.specs.Specifiers.{Storage, is_static, is_auto, is_register, no_storage, storage_of}
use Rattle.c_erasure.specs.Statements.{Statement, Statements, Arms, followed_by, with_object, with_variable, IsStaticLocal, DeclareAll}
use Rattle.c_erasure.specs.Statements.{IsLocalDeclaration, IsPlainIfAny, IsStart, with_first, IsArranged, ErasesStatement, ErasesItem, EraseItems}
use Rattle.c_erasure.specs.Statements.{ErasesSwitchItem, EraseSwitchItems}
use Rattle.c_well_typed.proofs.KnownTypes.{base_known, variable_known}
use Rattle.c_well_typed.proofs.NamedTypes.{inside_made, with_local_made}
use Rattle.c_well_typed.proofs.WellMade.{IsWellMade}
use Rattle.c_well_typed.specs.Printable.Programs.{times}
use Rattle.c_well_typed.proofs.PrintableObjects.Counts.{same_number, IsIn}
use Rattle.c_well_typed.proofs.PrintableObjects.LiteralInitializers.{constants_counted, initial_counted}
use Rattle.c_well_typed.proofs.PrintableObjects.Literals.{Walk, IsTextAt, Counts, IsFull, one_object, value_counted}
use Rattle.c_well_typed.proofs.PrintableObjects.OwnNames.{with_own}
use Rattle.c_well_typed.proofs.PrintableObjects.Sources as Sources
use Rattle.c_well_typed.proofs.PrintableObjects.Sources.{filled_by, weight, weight_of, IsPlaced, of_counts, literal_places}

some_is : {A : Type 0} (x y : A) → Some x ≡ Some y → x ≡ y
some_is x y h = cc

-- a declarator with a name begins at the same token, whatever stands behind
begins_same : (d : Trees.Declarator) (x : Spelling) → declared_name d ≡ Some x → (m n : ℕ) → first_declarator d m ≡ first_declarator d n
begins_same Trees.nothing x e m n = cc
begins_same (Trees.named y) x e m n = refl
begins_same (Trees.pointer at consts d) x e m n = refl
begins_same (Trees.enclosed left d right) x e m n = refl
begins_same (Trees.array d left length right) x e m n = refl
begins_same (Trees.function d left all right) x e m n = refl

-- ---- statements one after the other

followed_references : (a b : Statements) → references_by_statements (followed_by a b) ≡ references_by_statements a ++ references_by_statements b
followed_references Typed.no_statements b = refl
followed_references (Typed.and_statement s a) b =
    ap (λ own. references_by_statement s ++ own) (followed_references a b)
    ∙ sym (append_assoc (references_by_statement s) (references_by_statements a) (references_by_statements b))

followed_declared : (a b : Statements) → all_declared_by (followed_by a b) ≡ all_declared_by a ++ all_declared_by b
followed_declared Typed.no_statements b = refl
followed_declared (Typed.and_statement s a) b =
    ap (λ own. all_declared s ++ own) (followed_declared a b) ∙ sym (append_assoc (all_declared s) (all_declared_by a) (all_declared_by b))

first_references : (all : Statements) (arms : Arms) → references_by_arms (with_first all arms) ≡ references_by_statements all ++ references_by_arms arms
first_references Typed.no_statements arms = refl
first_references (Typed.and_statement s more) arms = refl

first_declared : (all : Statements) (arms : Arms) → all_declared_by_arms (with_first all arms) ≡ all_declared_by all ++ all_declared_by_arms arms
first_declared Typed.no_statements arms = refl
first_declared (Typed.and_statement s more) arms = refl

arranged_references : (cases : List ℕ) (defaults : ℕ) (own : Statements) (later : Arms) (all : Statements) (arms : Arms) → IsArranged cases defaults own later all arms
    → references_by_statements all ++ references_by_arms arms ≡ references_by_statements own ++ references_by_arms later
arranged_references [] zero own later all arms e = rw (e.0, e.1) refl
arranged_references [] (suc n) own later all arms e = rw (e.0, e.2) refl
arranged_references (v ∷ cases) n own later all arms e = rw (e.0, e.2) refl

arranged_declared : (cases : List ℕ) (defaults : ℕ) (own : Statements) (later : Arms) (all : Statements) (arms : Arms) → IsArranged cases defaults own later all arms
    → all_declared_by all ++ all_declared_by_arms arms ≡ all_declared_by own ++ all_declared_by_arms later
arranged_declared [] zero own later all arms e = rw (e.0, e.1) refl
arranged_declared [] (suc n) own later all arms e = rw (e.0, e.2) refl
arranged_declared (v ∷ cases) n own later all arms e = rw (e.0, e.2) refl

module _ (w : Walk) (types : List (List ℕ)) (locals : List ALocal) where
  abbrev f : FileScope
  f = w.file

  abbrev W : CType → Type 0
  W = IsWellMade w.count

  abbrev Walked : List ℕ → List Reference → List ℕ → Type 0
  Walked = Sources.Walked w locals

  abbrev pub In : Scope → Type 0
  In s = IsFull w s × (s.locals ≡ locals)

  both : {p q : List ℕ} {a b : List Reference} {j k : List ℕ} → Walked p a j → Walked q b k → Walked (p ++ q) (a ++ b) (j ++ k)
  both x y = Sources.both w locals x y

  again : (s after : Scope) → after ≡ s → In s → In after
  again s after e h = subst In (sym e) h

  inside_full : (s : Scope) → In s → In (inside s)
  inside_full s i =
      let h = i.0 in
      (record { made = inside_made f w.count w.less s h.made; purpose = h.purpose; own = (tt, h.own) }, i.1)

  -- ---- what a declarator adds to the scope

  object_full : (s : Scope) (x : Spelling) (m : ℕ) (t : CType) (o : AnObject) → In s → W t → slice_get f.objects m ≡ Some o → o.literal ≡ None
      → In (with_object s x m t)
  object_full s x m t o i made there none =
      let h = i.0 in (
        record {
          made = with_local_made f w.count w.less s _ h.made made;
          purpose = h.purpose;
          own = with_own f s.blocks _ h.own (o, there, none);
        },
        i.1,
      )

  variable_full : (s : Scope) (x : Spelling) (k : ℕ) (t : CType) → In s → W t → In (with_variable s x k t)
  variable_full s x k t i made =
      let h = i.0 in
      (record { made = with_local_made f w.count w.less s _ h.made made; purpose = h.purpose; own = with_own f s.blocks _ h.own tt }, i.1)

  -- ---- declarations

  abbrev static_object : Scope → Trees.InitDeclarator → Spelling → CType → Typed.Initializer Noted → AnObject
  static_object s d x t i = record {
    name = x.text;
    place = place_in s (first_declarator d.declarator x.from);
    first = first_declarator d.declarator x.from;
    ty = t;
    is_linked = false;
    literal = None;
    initial = Some i;
  }

  static_stands : (s : Scope) (d : Trees.InitDeclarator) (x : Spelling) (t : CType) (m : ℕ) → In s → (h : IsStaticLocal s d x t m)
      → slice_get f.objects m ≡ Some (static_object s d x t h.0)
  static_stands s d x t m i h =
      let full = i.0 in subst (λ (f : FileScope). slice_get f.objects m ≡ Some (static_object s d x t h.0)) full.made.0 h.2

  static_walked : (s : Scope) (d : Trees.InitDeclarator) (x : Spelling) (t : CType) (m semicolon : ℕ) → In s → W t → Formed.IsValue types d.value
      → declared_name d.declarator ≡ Some x → IsStaticLocal s d x t m
      → Walked (first_declarator d.declarator semicolon ∷ literals_of_value d.value) [] []
  static_walked s d x t m semicolon i made well named h = record {
    origins = m ∷ [];
    sum = λ z.
        let a = c.sum z in
        let b = ap (weight_of w) stands in
        let e = elsewhere z in
        omega (arith, a, b, e);
    placed = λ L g. (there L g, literal_places w locals L (literals_of_value d.value) c.literals);
    made = tt;
  }
    where
      o : AnObject
      o = static_object s d x t h.0

      stands : slice_get f.objects m ≡ Some o
      stands = static_stands s d x t m i h

      full : In (with_object s x m t)
      full = object_full s x m t o i made stands refl

      c : Counts w (literals_of_value d.value) (times w.number (references_by_initializer h.0))
      c = constants_counted w d.value (with_object s x m t) t h.0 full.0 h.1

      place : ℕ
      place = first_declarator d.declarator semicolon

      begins : o.first ≡ place
      begins = begins_same d.declarator x named x.from semicolon

      elsewhere : IsTextAt w → (if place == w.at then 1 else 0) + 0 ≡ 0
      elsewhere z = by_test (place == w.at) refl
        where
          by_test : (b : Bool) → (place == w.at) ≡ b → (if b then 1 else 0) + 0 ≡ 0
          by_test false e = refl
          by_test true e =
              let same = (one_object w m w.number place o z.0 stands z.1 begins (z.2 ∙ sym (same_number place w.at e))).1 in
              absurd (z.3 (subst (λ (o : AnObject). o.literal ≡ None) same refl))

      there : (L : List ℕ) → ((k : ℕ) → IsIn k (m ∷ []) → IsIn k L) → IsPlaced w L place
      there L g k q e first =
          let same = one_object w m k place o q stands e begins first in
          inr (subst (λ k. IsIn k L) same.0 (g m (inl refl)), subst (Sources.IsSourced w) same.1 sourced)
        where
          sourced : Sources.IsSourced w o
          sourced = record {
            own = refl;
            made = made;
            filled = λ j e. subst (Sources.IsFilled w t) (some_is h.0 j e) (filled_by w types d.value (with_object s x m t) t h.0 full.0 well h.1);
          }

  statics_walked : (ds : List Trees.InitDeclarator) (first : Bool) (s : Scope) (base : CType) (all : Statements) (after : Scope) (semicolon : ℕ) → In s → W base
      → Formed.AreInitDeclarators types first ds → DeclareAll ds s true base all after
      → Walked (made_by_declarators is_static ds semicolon) (references_by_statements all) (all_declared_by all) × In after
  statics_walked [] first s base all after semicolon i m well h =
      (Sources.same w locals (ap references_by_statements h.0) (ap all_declared_by h.0) (Sources.nothing w locals), again s after h.1 i)
  statics_walked (d ∷ more) first s base all after semicolon i m well h =
      let full = i.0 in
      let made = variable_known f w.count w.less w.visible_made d s base h.0 h.1 full.made m h.3 in
      let own = static_walked s d h.0 h.1 h.2 semicolon i made well.3 h.3.1 h.4 in
      let next = object_full s h.0 h.2 h.1 (static_object s d h.0 h.1 h.4.0) i made (static_stands s d h.0 h.1 h.2 i h.4) refl in
      let later = statics_walked more false (with_object s h.0 h.2 h.1) base all after semicolon next m well.4 h.5 in
      (both own later.0, later.1)

  local_made : (s : Scope) (x : Spelling) (k : ℕ) (t : CType) → In s → W t → slice_get s.locals k ≡ Some (record { name = x.text; ty = t })
      → Sources.IsMadeLocal w locals k
  local_made s x k t i made h l e =
      let there = subst (λ all. slice_get all k ≡ Some (record { name = x.text; ty = t })) i.1 h in
      subst (λ (l : ALocal). W l.ty) (some_is _ l (sym there ∙ e)) made

  locals_walked : (words : Storage) → ((at : ℕ) → place_if_static words at ≡ []) → (ds : List Trees.InitDeclarator) (first : Bool) (s : Scope) (base : CType)
      (all : Statements) (after : Scope) (semicolon : ℕ) → In s → W base → Formed.AreInitDeclarators types first ds → DeclareAll ds s false base all after
      → Walked (made_by_declarators words ds semicolon) (references_by_statements all) (all_declared_by all) × In after
  locals_walked words none [] first s base all after semicolon i m well h =
      (Sources.same w locals (ap references_by_statements h.0) (ap all_declared_by h.0) (Sources.nothing w locals), again s after h.1 i)
  locals_walked words none (d ∷ more) first s base all after semicolon i m well h =
      let full = i.0 in
      let made = variable_known f w.count w.less w.visible_made d s base h.0 h.1 full.made m h.5 in
      let next = variable_full s h.0 h.2 h.1 i made in
      let c = of_counts w locals (references_by_initial h.3) (initial_counted w d.value (with_variable s h.0 h.2 h.1) h.1 h.3 next.0 h.8) in
      let own = Sources.with_local w locals h.2 (local_made s h.0 h.2 h.1 i made h.6) c in
      let later = locals_walked words none more false (with_variable s h.0 h.2 h.1) base h.4 after semicolon next m well.4 h.9 in
      let place = place_if_static words (first_declarator d.declarator semicolon) in
      let here = subst (λ place. Walked (place ++ literals_of_value d.value) (references_by_initial h.3) (h.2 ∷ [])) (sym (none (first_declarator d.declarator semicolon))) own in
      (Sources.same w locals (ap references_by_statements h.7) (ap all_declared_by h.7) (both here later.0), later.1)

  declaration_walked : (d : Trees.Declaration) (s : Scope) (all : Statements) (after : Scope) → In s → Formed.IsDeclaration types d
      → IsLocalDeclaration d s all after → Walked (made_by_declaration d) (references_by_statements all) (all_declared_by all) × In after
  declaration_walked d s all after i well h = by_storage h.3
    where
      By : Storage → Type 0
      By words = Walked (made_by_declarators words d.all d.semicolon) (references_by_statements all) (all_declared_by all) × In after

      base : W h.0
      base = let full = i.0 in base_known f w.count w.less w.visible_made d.specs s h.0 full.made h.1

      by_word : (storage_of d.specs ≡ no_storage) ⊎ (storage_of d.specs ≡ is_auto) ⊎ (storage_of d.specs ≡ is_register) → DeclareAll d.all s false h.0 all after
          → By (storage_of d.specs)
      by_word (inl e) k = subst By (sym e) (locals_walked no_storage (λ at. refl) d.all true s h.0 all after d.semicolon i base well.1 k)
      by_word (inr (inl e)) k = subst By (sym e) (locals_walked is_auto (λ at. refl) d.all true s h.0 all after d.semicolon i base well.1 k)
      by_word (inr (inr e)) k = subst By (sym e) (locals_walked is_register (λ at. refl) d.all true s h.0 all after d.semicolon i base well.1 k)

      by_storage : ((storage_of d.specs ≡ is_static) × DeclareAll d.all s true h.0 all after)
          ⊎ (((storage_of d.specs ≡ no_storage) ⊎ (storage_of d.specs ≡ is_auto) ⊎ (storage_of d.specs ≡ is_register)) × DeclareAll d.all s false h.0 all after)
          → By (storage_of d.specs)
      by_storage (inl k) = subst By (sym k.0) (statics_walked d.all true s h.0 all after d.semicolon i base well.1 k.1)
      by_storage (inr k) = by_word k.0 k.1

  -- ---- statements

  value_walked : (a : Trees.Expression) (s : Scope) (x : Expression) → In s → Values (Erases a s) x → Walked (literals a) (references x) []
  value_walked a s x i h = of_counts w locals (references x) (value_counted w a s x i.0 h)

  if_any_walked : (a : Option Trees.Expression) (s : Scope) (x : Option Expression) → In s → IsPlainIfAny a s x
      → Walked (literals_if_any a) (references_if_any x) []
  if_any_walked None s x i h = Sources.same w locals (ap references_if_any h) refl (Sources.nothing w locals)
  if_any_walked (Some a) s x i h = Sources.same w locals (ap references_if_any h.1) refl (value_walked a s h.0 i h.2.0)

  is_statement : {p : List ℕ} (st own : Statement) → st ≡ own → Walked p (references_by_statement own) (all_declared own)
      → Walked p (references_by_statement st) (all_declared st)
  is_statement st own e x = Sources.same w locals (ap references_by_statement e) (ap all_declared e) x

  are_statements : {p : List ℕ} (all own : Statements) → all ≡ own → Walked p (references_by_statements own) (all_declared_by own)
      → Walked p (references_by_statements all) (all_declared_by all)
  are_statements all own e x = Sources.same w locals (ap references_by_statements e) (ap all_declared_by e) x

  -- a statement alone
  lone : {p : List ℕ} (st : Statement) → Walked p (references_by_statement st) (all_declared st)
      → Walked p (references_by_statements (Typed.and_statement st Typed.no_statements)) (all_declared_by (Typed.and_statement st Typed.no_statements))
  lone st x =
      Sources.same w locals (append-nil (references_by_statement st)) (append-nil (all_declared st)) x

  start_walked : (start : Trees.ForStart) (s : Scope) (all : Statements) (after : Scope) → In s → Formed.IsForStart types start → IsStart start s all after
      → Walked (made_by_start start) (references_by_statements all) (all_declared_by all) × In after
  start_walked (Trees.starts_with None semicolon) s all after i well h = (are_statements all _ h.0 (Sources.nothing w locals), again s after h.1 i)
  start_walked (Trees.starts_with (Some a) semicolon) s all after i well h =
      (are_statements all _ h.1 (lone (Typed.evaluate h.0) (value_walked a s h.0 i h.2.0)), again s after h.3 i)
  start_walked (Trees.declares d) s all after i well h = declaration_walked d s all after i well.1 h.0

  mutual
    statement_walked : (a : Trees.Statement) (s : Scope) (st : Statement) → In s → Formed.IsStatement types a → ErasesStatement a s st
        → Walked (made_by a) (references_by_statement st) (all_declared st)
    statement_walked (Trees.block left items right) s st i well h = is_statement st _ h.1 (items_walked items (inside s) h.0 (inside_full s i) well h.2)
    statement_walked (Trees.evaluate None semicolon) s st i well h = is_statement st _ h (Sources.nothing w locals)
    statement_walked (Trees.evaluate (Some a) semicolon) s st i well h = is_statement st _ h.1 (value_walked a s h.0 i h.2.0)
    statement_walked (Trees.when at left a right one) s st i well h =
        is_statement st _ h.2 (both (value_walked a s h.0 i h.3.0) (statement_walked one s h.1 i well.1 h.4))
    statement_walked (Trees.choose at left a right one middle other) s st i well h =
        is_statement st _ h.3
        (both (both (value_walked a s h.0 i h.4.0) (statement_walked one s h.1 i well.2 h.5)) (statement_walked other s h.2 i well.3 h.6))
    statement_walked (Trees.while at left a right body) s st i well h =
        is_statement st _ h.2 (both (value_walked a s h.0 i h.3.0) (statement_walked body s h.1 i well.1 h.4))
    statement_walked (Trees.do_while at body while left a right semicolon) s st i well h =
        let b = both (statement_walked body s h.0 i well.0 h.3) (value_walked a s h.1 i h.4.0) in
        is_statement st _ h.2 (Sources.same w locals refl (sym (append-nil (all_declared h.0))) b)
    statement_walked (Trees.for at left start test semicolon step right body) s st i well h =
        let r = start_walked start (inside s) h.0 h.1 (inside_full s i) well.0 h.6 in
        let t = if_any_walked test h.1 h.2 r.1 h.7 in
        let e = if_any_walked step h.1 h.3 r.1 h.8 in
        let b = statement_walked body h.1 h.4 r.1 well.3 h.9 in
        let own = all_declared_by h.0 in
        let none = append-nil own in
        let head = Sources.same w locals refl (sym (append-nil (own ++ []) ∙ none)) (both (both r.0 t) e) in
        is_statement st _ h.5 (both head b)
    statement_walked (Trees.switch at left a right begin items end) s st i well h =
        let r = switch_items_walked items (inside s) h.1 h.2 h.3 (inside_full s i) well.1 h.7 in
        let arms = Sources.same w locals (first_references h.2 h.3) (first_declared h.2 h.3) r in
        is_statement st _ h.4 (both (value_walked a s h.0 i h.5) arms)
    statement_walked (Trees.break at semicolon) s st i well h = is_statement st _ h (Sources.nothing w locals)
    statement_walked (Trees.continue at semicolon) s st i well h = is_statement st _ h (Sources.nothing w locals)
    statement_walked (Trees.return at None semicolon) s st i well h = is_statement st _ h (Sources.nothing w locals)
    statement_walked (Trees.return at (Some a) semicolon) s st i well h = is_statement st _ h.1 (value_walked a s h.0 i h.2)

    item_walked : (b : Trees.BlockItem) (s : Scope) (all : Statements) (after : Scope) → In s → Formed.IsBlockItem types b → ErasesItem b s all after
        → Walked (made_by_item b) (references_by_statements all) (all_declared_by all) × In after
    item_walked (Trees.local d) s all after i well h = declaration_walked d s all after i well h
    item_walked (Trees.statement a) s all after i well h =
        (are_statements all _ h.1 (lone h.0 (statement_walked a s h.0 i well h.2)), again s after h.3 i)

    pub items_walked : (items : Trees.BlockItems) (s : Scope) (all : Statements) → In s → Formed.AreBlockItems types items → EraseItems items s all
        → Walked (made_by_items items) (references_by_statements all) (all_declared_by all)
    items_walked Trees.no_block_items s all i well h = are_statements all _ h (Sources.nothing w locals)
    items_walked (Trees.and_block_item b more) s all i well h =
        let r = item_walked b s h.0 h.2 i well.0 h.4 in
        let q = items_walked more h.2 h.1 r.1 well.1 h.5 in
        are_statements all _ h.3 (Sources.same w locals (followed_references h.0 h.1) (followed_declared h.0 h.1) (both r.0 q))

    switch_item_walked : (b : Trees.SwitchItem) (s : Scope) (kind : IntKind) (cases : List ℕ) (defaults : ℕ) (all : Statements) (after : Scope) → In s
        → Formed.IsSwitchItem types b → ErasesSwitchItem b s kind cases defaults all after
        → Walked (made_by_switch_item b) (references_by_statements all) (all_declared_by all) × In after
    switch_item_walked (Trees.local_switch_item d) s kind cases defaults all after i well h = declaration_walked d s all after i well.1 h.2
    switch_item_walked (Trees.labelled labels a) s kind cases defaults all after i well h =
        (are_statements all _ h.1.1 (lone h.1.0 (statement_walked a s h.1.0 i well.1 h.1.2)), again s after h.2 i)

    switch_items_walked : (items : Trees.SwitchItems) (s : Scope) (kind : IntKind) (all : Statements) (arms : Arms) → In s → Formed.AreSwitchItems types items
        → EraseSwitchItems items s kind all arms
        → Walked (made_by_switch_items items) (references_by_statements all ++ references_by_arms arms) (all_declared_by all ++ all_declared_by_arms arms)
    switch_items_walked Trees.no_switch_items s kind all arms i well h =
        Sources.same w locals (rw (h.0, h.1) refl) (rw (h.0, h.1) refl) (Sources.nothing w locals)
    switch_items_walked (Trees.and_switch_item b more) s kind all arms i well h =
        let r = switch_item_walked b s kind h.0 h.1 h.2 h.5 i well.0 h.6 in
        let q = switch_items_walked more h.5 kind h.3 h.4 r.1 well.1 h.7 in
        let own = followed_by h.2 h.3 in
        let x = append_assoc (references_by_statements h.2) (references_by_statements h.3) (references_by_arms h.4) in
        let y = append_assoc (all_declared_by h.2) (all_declared_by h.3) (all_declared_by_arms h.4) in
        Sources.same w locals
        (arranged_references h.0 h.1 own h.4 all arms h.8 ∙ ap (λ own. own ++ references_by_arms h.4) (followed_references h.2 h.3) ∙ x)
        (arranged_declared h.0 h.1 own h.4 all arms h.8 ∙ ap (λ own. own ++ all_declared_by_arms h.4) (followed_declared h.2 h.3) ∙ y) (both r.0 q)
