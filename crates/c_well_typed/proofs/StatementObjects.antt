-- The objects that statements make hold bytes where string literals initialize them (C99 6.7.8, 6.8), and have types that are fit: those of literals
-- and of `static` locals.
use Rattle.std.proofs.Common.{◌≡◌, ℕ, refl, sym, subst, List, [], ◌∷◌, ◌++◌, inl, inr}
use Rattle.std.specs.Prelude.{◌⊎◌, true, false, Option, Some, None, slice_get}
use Rattle.c_types.specs.declared.ty.IntKind.{IntKind}
use Rattle.c_types.specs.Types.{CType}
use Rattle.c_ast.specs.declared.words.Spelling.{Spelling}
use Rattle.c_ast.specs.Places.{first_declarator}
use Rattle.c_ast.specs.Spelling.{Lexeme, spelled_value, spelled_init_declarators, spelled_declaration, spelled_if_any, spelled_for_start, spelled_statement}
use Rattle.c_ast.specs.Spelling.{spelled_block_item}
use Rattle.c_ast.specs.Spelling.{spelled_block_items, spelled_switch_item, spelled_switch_items}
use Rattle.c_ast.specs.Trees
use Rattle.c_erasure.specs.Declarators.{declared_name}
use Rattle.c_erasure.specs.Erasure.{place_in}
use Rattle.c_erasure.specs.Literals.{literals, literals_if_any, literals_of_value, place_if_static, made_by_declarators, made_by_declaration, made_by_start}
use Rattle.c_erasure.specs.Literals.{made_by}
use Rattle.c_erasure.specs.Literals.{made_by_item, made_by_items, made_by_switch_item, made_by_switch_items}
use Rattle.c_typed.specs.Trees as Typed
use Rattle.c_erasure.specs.Noted.{Noted, Expression}
use Rattle.c_erasure.specs.Scopes.{AnObject, FileScope, Scope, inside}
use Rattle.c_erasure.specs.Specifiers.{Storage, is_static, is_auto, is_register, no_storage, storage_of}
use Rattle.c_erasure.specs.Statements.{Statements, Statement, Arms, with_object, with_variable, IsVariable, IsStaticLocal, DeclareAll, IsLocalDeclaration}
use Rattle.c_erasure.specs.Statements.{IsPlainIfAny, IsStart}
use Rattle.c_erasure.specs.Statements.{ErasesStatement, ErasesItem, EraseItems, ErasesSwitchItem, EraseSwitchItems}
use Rattle.c_well_typed.proofs.LiteralObjects.{AreGood, is_good, AreAccounted, join, holds, IsFull, value_accounted, constants_held, initial_accounted}
use Rattle.c_well_typed.proofs.TokenBytes.{AreOfBytes, behind_comma, behind, behind_specifiers, behind_declarator, behind_value, behind_if_any}
use Rattle.c_well_typed.proofs.TokenBytes.{behind_labels, behind_start, behind_statement, behind_item, behind_switch_item}

-- a declarator with a name begins at the same token, whatever stands behind
begins_same : (d : Trees.Declarator) (x : Spelling) → declared_name d ≡ Some x → (m n : ℕ) → first_declarator d m ≡ first_declarator d n
begins_same Trees.nothing x e m n = cc
begins_same (Trees.named y) x e m n = refl
begins_same (Trees.pointer at consts d) x e m n = refl
begins_same (Trees.enclosed left d right) x e m n = refl
begins_same (Trees.array d left length right) x e m n = refl
begins_same (Trees.function d left all right) x e m n = refl

module _ {P : ℕ → Type 0} {Good : Typed.Initializer Noted → Type 0} {Fit : CType → Type 0} (f : FileScope) (good : AreGood P Good Fit f) where
  abbrev Full : Scope → Type 0
  Full s = IsFull f s

  abbrev Done : List ℕ → Type 0
  Done places = AreAccounted Good Fit f places

  again : (s after : Scope) → after ≡ s → Full s → Full after
  again s after e h = subst Full (sym e) h

  -- ---- declarations

  static_local : (s : Scope) (base : CType) (d : Trees.InitDeclarator) (x : Spelling) (t : CType) (n semicolon : ℕ) (rest : List Lexeme) → Full s
      → AreOfBytes P (spelled_value d.value rest) → IsVariable s base d x t → IsStaticLocal s d x t n
      → Done (first_declarator d.declarator semicolon ∷ literals_of_value d.value)
  static_local s base d x t n semicolon rest e b variable h =
      let k = constants_held f good d.value (with_object s x n t) t h.0 rest e b h.1 in
      let same = begins_same d.declarator x variable.1 x.from semicolon in
      let o : AnObject = record {
        name = x.text;
        place = place_in s (first_declarator d.declarator x.from);
        first = first_declarator d.declarator x.from;
        ty = t;
        is_linked = false;
        literal = None;
        initial = Some h.0;
      } in
      let here = is_good Good o h.0 refl (good.of_value d.value (with_object s x n t) t h.0 rest e b h.1) in
      let fit = good.local_fits s base d x t e variable in
      (inl (n, o, subst (λ (f : FileScope). slice_get f.objects n ≡ Some o) e.0 h.2, same, holds o h.0 refl k.0, (λ bytes e. cc), here, fit), k.1)

  statics : (all : List Trees.InitDeclarator) (s : Scope) (base : CType) (sts : Statements) (after : Scope) (semicolon : ℕ) (rest : List Lexeme) → Full s
      → AreOfBytes P (spelled_init_declarators all rest) → DeclareAll all s true base sts after
      → Done (made_by_declarators is_static all semicolon) × Full after
  statics [] s base sts after semicolon rest e b h = (tt, again s after h.1 e)
  statics (d ∷ more) s base sts after semicolon rest e b h =
      let v = behind_declarator P d.declarator _ (behind_comma P d.comma _ b) in
      let own = static_local s base d h.0 h.1 h.2 semicolon _ e v h.3 h.4 in
      let later = statics more (with_object s h.0 h.2 h.1) base sts after semicolon rest e (behind_value P d.value _ v) h.5 in
      let places = first_declarator d.declarator semicolon ∷ literals_of_value d.value in
      (join Good Fit f places (made_by_declarators is_static more semicolon) own later.0, later.1)

  locals : (words : Storage) → ((at : ℕ) → place_if_static words at ≡ []) → (all : List Trees.InitDeclarator) (s : Scope) (base : CType) (sts : Statements)
      (after : Scope) (semicolon : ℕ) (rest : List Lexeme) → Full s → AreOfBytes P (spelled_init_declarators all rest) → DeclareAll all s false base sts after
      → Done (made_by_declarators words all semicolon) × Full after
  locals words none [] s base sts after semicolon rest e b h = (tt, again s after h.1 e)
  locals words none (d ∷ more) s base sts after semicolon rest e b h =
      let v = behind_declarator P d.declarator _ (behind_comma P d.comma _ b) in
      let own = initial_accounted f good d.value (with_variable s h.0 h.2 h.1) h.1 h.3 _ e v h.8 in
      let later = locals words none more (with_variable s h.0 h.2 h.1) base h.4 after semicolon rest e (behind_value P d.value _ v) h.9 in
      let place = place_if_static words (first_declarator d.declarator semicolon) in (
        join Good Fit f (place ++ literals_of_value d.value) (made_by_declarators words more semicolon)
            (join Good Fit f place (literals_of_value d.value) (subst Done (sym (none (first_declarator d.declarator semicolon))) tt) own) later.0,
        later.1,
      )

  declaration_done : (d : Trees.Declaration) (s : Scope) (sts : Statements) (after : Scope) (rest : List Lexeme) → Full s
      → AreOfBytes P (spelled_declaration d rest) → IsLocalDeclaration d s sts after → Done (made_by_declaration d) × Full after
  declaration_done d s sts after rest e b h = by_storage h.3
    where
      by_word : (storage_of d.specs ≡ no_storage) ⊎ (storage_of d.specs ≡ is_auto) ⊎ (storage_of d.specs ≡ is_register) → DeclareAll d.all s false h.0 sts after
          → Done (made_by_declarators (storage_of d.specs) d.all d.semicolon) × Full after
      by_word (inl w) k =
          subst (λ words. Done (made_by_declarators words d.all d.semicolon) × Full after) (sym w)
          (locals no_storage (λ at. refl) d.all s h.0 sts after d.semicolon _ e (behind_specifiers P d.specs _ b) k)
      by_word (inr (inl w)) k =
          subst (λ words. Done (made_by_declarators words d.all d.semicolon) × Full after) (sym w)
          (locals is_auto (λ at. refl) d.all s h.0 sts after d.semicolon _ e (behind_specifiers P d.specs _ b) k)
      by_word (inr (inr w)) k =
          subst (λ words. Done (made_by_declarators words d.all d.semicolon) × Full after) (sym w)
          (locals is_register (λ at. refl) d.all s h.0 sts after d.semicolon _ e (behind_specifiers P d.specs _ b) k)

      by_storage : ((storage_of d.specs ≡ is_static) × DeclareAll d.all s true h.0 sts after)
          ⊎ (((storage_of d.specs ≡ no_storage) ⊎ (storage_of d.specs ≡ is_auto) ⊎ (storage_of d.specs ≡ is_register)) × DeclareAll d.all s false h.0 sts after)
          → Done (made_by_declarators (storage_of d.specs) d.all d.semicolon) × Full after
      by_storage (inl k) =
          subst (λ words. Done (made_by_declarators words d.all d.semicolon) × Full after) (sym k.0)
          (statics d.all s h.0 sts after d.semicolon _ e (behind_specifiers P d.specs _ b) k.1)
      by_storage (inr k) = by_word k.0 k.1

  -- ---- statements

  if_any_done : (a : Option Trees.Expression) (s : Scope) (x : Option Expression) (rest : List Lexeme) → Full s → AreOfBytes P (spelled_if_any a rest)
      → IsPlainIfAny a s x → Done (literals_if_any a)
  if_any_done None s x rest e b h = tt
  if_any_done (Some a) s x rest e b h = value_accounted f good a s h.0 rest e b h.2.0

  start_done : (t : Trees.ForStart) (s : Scope) (sts : Statements) (after : Scope) (rest : List Lexeme) → Full s → AreOfBytes P (spelled_for_start t rest)
      → IsStart t s sts after → Done (made_by_start t) × Full after
  start_done (Trees.starts_with None semicolon) s sts after rest e b h = (tt, again s after h.1 e)
  start_done (Trees.starts_with (Some a) semicolon) s sts after rest e b h = (value_accounted f good a s h.0 _ e b h.2.0, again s after h.3 e)
  start_done (Trees.declares d) s sts after rest e b h = declaration_done d s sts after rest e b h.0

  mutual
    statement_done : (a : Trees.Statement) (s : Scope) (st : Statement) (rest : List Lexeme) → Full s → AreOfBytes P (spelled_statement a rest)
        → ErasesStatement a s st → Done (made_by a)
    statement_done (Trees.block left items right) s st rest e b h = items_done items (inside s) h.0 _ e b.1 h.2
    statement_done (Trees.evaluate None semicolon) s st rest e b h = tt
    statement_done (Trees.evaluate (Some a) semicolon) s st rest e b h = value_accounted f good a s h.0 _ e b h.2.0
    statement_done (Trees.when at left a right one) s st rest e b h =
        join Good Fit f (literals a) (made_by one) (value_accounted f good a s h.0 _ e b.1.1 h.3.0)
        (statement_done one s h.1 _ e (behind P a _ b.1.1).1 h.4)
    statement_done (Trees.choose at left a right one middle other) s st rest e b h =
        let k = (behind P a _ b.1.1).1 in
        join Good Fit f (literals a ++ made_by one) (made_by other)
        (join Good Fit f (literals a) (made_by one) (value_accounted f good a s h.0 _ e b.1.1 h.4.0) (statement_done one s h.1 _ e k h.5))
        (statement_done other s h.2 _ e (behind_statement P one _ k).1 h.6)
    statement_done (Trees.while at left a right body) s st rest e b h =
        join Good Fit f (literals a) (made_by body) (value_accounted f good a s h.0 _ e b.1.1 h.3.0)
        (statement_done body s h.1 _ e (behind P a _ b.1.1).1 h.4)
    statement_done (Trees.do_while at body while left a right semicolon) s st rest e b h =
        join Good Fit f (made_by body) (literals a) (statement_done body s h.0 _ e b.1 h.3)
        (value_accounted f good a s h.1 _ e (behind_statement P body _ b.1).1.1 h.4.0)
    statement_done (Trees.for at left start test semicolon step right body) s st rest e b h =
        let p = start_done start (inside s) h.0 h.1 _ e b.1.1 h.6 in
        let k = behind_start P start _ b.1.1 in
        let l = (behind_if_any P test _ k).1 in
        join Good Fit f ((made_by_start start ++ literals_if_any test) ++ literals_if_any step) (made_by body)
        (join Good Fit f (made_by_start start ++ literals_if_any test) (literals_if_any step)
        (join Good Fit f (made_by_start start) (literals_if_any test) p.0 (if_any_done test h.1 h.2 _ p.1 k h.7)) (if_any_done step h.1 h.3 _ p.1 l h.8))
        (statement_done body h.1 h.4 _ p.1 (behind_if_any P step _ l).1 h.9)
    statement_done (Trees.switch at left a right begin items end) s st rest e b h =
        join Good Fit f (literals a) (made_by_switch_items items) (value_accounted f good a s h.0 _ e b.1.1 h.5)
        (switch_items_done items (inside s) h.1 h.2 h.3 _ e (behind P a _ b.1.1).1.1 h.7)
    statement_done (Trees.break at semicolon) s st rest e b h = tt
    statement_done (Trees.continue at semicolon) s st rest e b h = tt
    statement_done (Trees.return at None semicolon) s st rest e b h = tt
    statement_done (Trees.return at (Some a) semicolon) s st rest e b h = value_accounted f good a s h.0 _ e b.1 h.2

    item_done : (t : Trees.BlockItem) (s : Scope) (sts : Statements) (after : Scope) (rest : List Lexeme) → Full s → AreOfBytes P (spelled_block_item t rest)
        → ErasesItem t s sts after → Done (made_by_item t) × Full after
    item_done (Trees.local d) s sts after rest e b h = declaration_done d s sts after rest e b h
    item_done (Trees.statement a) s sts after rest e b h = (statement_done a s h.0 rest e b h.2, again s after h.3 e)

    pub items_done : (t : Trees.BlockItems) (s : Scope) (sts : Statements) (rest : List Lexeme) → Full s → AreOfBytes P (spelled_block_items t rest)
        → EraseItems t s sts → Done (made_by_items t)
    items_done Trees.no_block_items s sts rest e b h = tt
    items_done (Trees.and_block_item t more) s sts rest e b h =
        let p = item_done t s h.0 h.2 _ e b h.4 in
        join Good Fit f (made_by_item t) (made_by_items more) p.0 (items_done more h.2 h.1 rest p.1 (behind_item P t _ b) h.5)

    switch_item_done : (t : Trees.SwitchItem) (s : Scope) (kind : IntKind) (cases : List ℕ) (defaults : ℕ) (sts : Statements) (after : Scope)
        (rest : List Lexeme) → Full s → AreOfBytes P (spelled_switch_item t rest) → ErasesSwitchItem t s kind cases defaults sts after
        → Done (made_by_switch_item t) × Full after
    switch_item_done (Trees.local_switch_item d) s kind cases defaults sts after rest e b h = declaration_done d s sts after rest e b h.2
    switch_item_done (Trees.labelled labels a) s kind cases defaults sts after rest e b h =
        (statement_done a s h.1.0 rest e (behind_labels P labels _ b) h.1.2, again s after h.2 e)

    switch_items_done : (t : Trees.SwitchItems) (s : Scope) (kind : IntKind) (sts : Statements) (arms : Arms) (rest : List Lexeme) → Full s
        → AreOfBytes P (spelled_switch_items t rest) → EraseSwitchItems t s kind sts arms → Done (made_by_switch_items t)
    switch_items_done Trees.no_switch_items s kind sts arms rest e b h = tt
    switch_items_done (Trees.and_switch_item t more) s kind sts arms rest e b h =
        let p = switch_item_done t s kind h.0 h.1 h.2 h.5 _ e b h.6 in
        join Good Fit f (made_by_switch_item t) (made_by_switch_items more) p.0
        (switch_items_done more h.5 kind h.3 h.4 rest p.1 (behind_switch_item P t _ b) h.7)
