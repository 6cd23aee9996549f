-- Events of initializers, declarators and statements stand in the order of the bytes, where their tokens come one after the other.
use Rattle.std.proofs.Common.{◌≡◌, ◌≢◌, ℕ, suc, ◌+◌, ◌≤◌, ◌<◌, Bool, true, false, List, [], ◌∷◌, ◌++◌, Option, Some, None, refl, sym, subst, arith}
use Rattle.c_tokens.specs.declared.punctuator.Punctuator.TheVariants as M
use Rattle.c_ast.specs.declared.words.Spelling.{Spelling}
use Rattle.c_ast.specs.Trees
use Rattle.c_ast.specs.Places.{first_text, first_declarator}
use Rattle.c_ast.specs.Spelling.{Lexeme, punctuator, spelled, spelled_comma, spelled_texts, spelled_consts, spelled_arguments, spelled_declarator}
use Rattle.c_ast.specs.Spelling.{spelled_value, spelled_init_declarators, spelled_declaration, spelled_if_any, spelled_labels, spelled_for_start}
use Rattle.c_ast.specs.Spelling.{spelled_statement, spelled_block_item, spelled_block_items, spelled_switch_item, spelled_switch_items}
use Rattle.c_ast.specs.WellFormed.{IsInitializer, AreInitializers, IsValue, IsDeclarator, AreInitDeclarators, IsDeclaration, has_name}
use Rattle.c_ast.specs.WellFormed.{IsExpressionIfAny, AreLabels, IsForStart, IsStatement, IsBlockItem, AreBlockItems, IsSwitchItem, AreSwitchItems}
use Rattle.c_erasure.specs.Declarators.{declared_name}
use Rattle.c_erasure.specs.Scopes.{AnObject, FileScope, Purpose, value_alone}
use Rattle.c_erasure.specs.Specifiers.{Storage, no_storage, a_typedef, is_extern, is_static, is_auto, is_register, several, storage_of}
use Rattle.c_checking_laws.proofs.TextOrder.Rising.{AreRising}
use Rattle.c_checking_laws.proofs.CompleteBodies.{walk_by_storage, walk_of_declaration}
use Rattle.c_checking_laws.proofs.CompleteLocals.{begins, literal_if, walk_of_initializer, walk_of_initializers, walk_of_initial, walk_of_declared}
use Rattle.c_checking_laws.proofs.CompleteLocals.{walk_of_locals}
use Rattle.c_checking_laws.proofs.CompleteLocals.{look_at}
use Rattle.c_checking_laws.proofs.CompleteOrder.{AreApart, order_earlier, order_later, order_both, order_seen, Walked, walked, walked_if_any}
use Rattle.c_checking_laws.proofs.CompleteOrder.{walked_specifiers, walked_declarator}
use Rattle.c_checking_laws.proofs.CompleteStatements.{walk_of_option, walk_of_start, walk_of_labels, walk_of_statement, walk_of_item, walk_of_items}
use Rattle.c_checking_laws.proofs.CompleteStatements.{walk_of_switch_item, walk_of_switch_items}
use Rattle.c_checking_laws.proofs.CompleteWalk.{Event, a_look, a_literal, seen, walk_of_declarator}
use Rattle.c_checking_laws.proofs.WholeFiles.CompleteStaticLists.{object_at, walk_of_statics}

pub apart_of : (low : ℕ) (tokens : List Lexeme) → AreRising low tokens → AreApart low tokens
apart_of low [] h = tt
apart_of low (t ∷ tokens) h = (h.0, h.1, apart_of t.to tokens h.3)

pub apart_earlier : (low m : ℕ) (tokens : List Lexeme) → low ≤ m → AreApart m tokens → AreApart low tokens
apart_earlier low m [] l h = tt
apart_earlier low m (t ∷ tokens) l h = let o = h.0 in (omega (arith, l, o), h.1, h.2)

-- ---- events of a part, before the tokens that follow

pub pass : {low a b : ℕ} → low ≤ a → a < b → low ≤ b
pass l m = omega (arith, l, m)

pub less : {a b : ℕ} → a < b → a ≤ b
less l = omega (arith, l)

pub none : {low : ℕ} {rest : List Lexeme} → AreApart low rest → Walked low [] rest
none {low} h = record { high = low; in_order = omega arith; apart = h }

pub earlier : {low m : ℕ} {all : List Event} {rest : List Lexeme} → low ≤ m → Walked m all rest → Walked low all rest
earlier {low} {m} {all} l p = record { high = p.high; in_order = order_earlier low m all p.high l p.in_order; apart = p.apart }

-- after one more token
pub closed : {low : ℕ} {all : List Event} {t : Lexeme} {rest : List Lexeme} → Walked low all (t ∷ rest) → Walked low all rest
closed {low} {all} {t} p = record { high = t.to; in_order = order_later low all p.high t.to (pass p.apart.0 p.apart.1) p.in_order; apart = p.apart.2 }

pub both : {low : ℕ} {a b : List Event} {middle rest : List Lexeme} → (p : Walked low a middle) → Walked p.high b rest → Walked low (a ++ b) rest
both {low} {a} {b} p q = record { high = q.high; in_order = order_both low a p.high b q.high p.in_order q.in_order; apart = q.apart }

pub looking : {low at : ℕ} {all : List Event} {rest : List Lexeme} → low ≤ at → Walked at all rest → Walked low (a_look at ∷ all) rest
looking l p = record { high = p.high; in_order = (l, p.in_order); apart = p.apart }

pub making : {low at : ℕ} {all : List Event} {rest : List Lexeme} → low ≤ at → Walked at all rest → Walked low (a_literal at ∷ all) rest
making l p = record { high = p.high; in_order = (l, p.in_order); apart = p.apart }

pub filtered : (i : Bool) (p : Purpose) {low : ℕ} {all : List Event} {rest : List Lexeme} → Walked low all rest → Walked low (seen i p all) rest
filtered i p {low} {all} q = record { high = q.high; in_order = order_seen i p low all q.high q.in_order; apart = q.apart }

comma_apart : (c : Option ℕ) (low : ℕ) (rest : List Lexeme) → AreApart low (spelled_comma c rest) → Walked low [] rest
comma_apart None low rest h = none h
comma_apart (Some at) low rest h = earlier (pass h.0 h.1) (none h.2)

consts_apart : (all : List ℕ) (low : ℕ) (rest : List Lexeme) → AreApart low (spelled_consts all rest) → Walked low [] rest
consts_apart [] low rest h = none h
consts_apart (at ∷ all) low rest h = earlier (pass h.0 h.1) (consts_apart all _ rest h.2)

texts_apart : (all : List Spelling) (low : ℕ) (rest : List Lexeme) → AreApart low (spelled_texts all rest) → Walked low [] rest
texts_apart [] low rest h = none h
texts_apart (x ∷ all) low rest h = earlier (pass h.0 h.1) (texts_apart all x.to rest h.2)

-- a declarator that has a name
pub name_there : (d : Trees.Declarator) → has_name d ≡ true → (x : Spelling) × (declared_name d ≡ Some x)
name_there Trees.nothing h = cc
name_there (Trees.named x) h = (x, refl)
name_there (Trees.pointer at consts d) h = name_there d h
name_there (Trees.enclosed left d right) h = name_there d h
name_there (Trees.array d left length right) h = name_there d h
name_there (Trees.function d left all right) h = name_there d h

-- ---- initializers

literal_apart : (b : Bool) (all : List Spelling) → all ≢ [] → (low : ℕ) (rest : List Lexeme) → AreApart low (spelled_texts all rest)
    → Walked low (literal_if b (first_text all)) rest
literal_apart b [] n low rest h = absurd (n refl)
literal_apart true (x ∷ all) n low rest h = making h.0 (earlier (less h.1) (texts_apart all x.to rest h.2))
literal_apart false (x ∷ all) n low rest h = earlier (pass h.0 h.1) (texts_apart all x.to rest h.2)

module _ (u : ℕ → List ℕ) (objects : List AnObject) (types : List (List ℕ)) where
  mutual
    pub walked_initializer : (t : Trees.Expression) → IsInitializer types t → (low : ℕ) (rest : List Lexeme) → AreApart low (spelled t rest)
        → Walked low (walk_of_initializer u objects t) rest
    walked_initializer (Trees.name x) w low rest h = walked u types (Trees.name x) w.1 low rest h
    walked_initializer (Trees.number x n kind) w low rest h = walked u types (Trees.number x n kind) w.1 low rest h
    walked_initializer (Trees.character x n) w low rest h = walked u types (Trees.character x n) w.1 low rest h
    walked_initializer (Trees.texts all) w low rest h = literal_apart (begins objects (first_text all)) all w.1 low rest h
    walked_initializer (Trees.paren left a right) w low rest h = walked u types (Trees.paren left a right) w.1 low rest h
    walked_initializer (Trees.index a left b right) w low rest h = walked u types (Trees.index a left b right) w.1 low rest h
    walked_initializer (Trees.call f left all right) w low rest h = walked u types (Trees.call f left all right) w.1 low rest h
    walked_initializer (Trees.dot a at x) w low rest h = walked u types (Trees.dot a at x) w.1 low rest h
    walked_initializer (Trees.arrow a at x) w low rest h = walked u types (Trees.arrow a at x) w.1 low rest h
    walked_initializer (Trees.post a op at) w low rest h = walked u types (Trees.post a op at) w.1 low rest h
    walked_initializer (Trees.pre op at a) w low rest h = walked u types (Trees.pre op at a) w.1 low rest h
    walked_initializer (Trees.unary op at a) w low rest h = walked u types (Trees.unary op at a) w.1 low rest h
    walked_initializer (Trees.sizeof_expression at a) w low rest h = walked u types (Trees.sizeof_expression at a) w.1 low rest h
    walked_initializer (Trees.sizeof_type at left n right) w low rest h = walked u types (Trees.sizeof_type at left n right) w.1 low rest h
    walked_initializer (Trees.cast left n right a) w low rest h = walked u types (Trees.cast left n right a) w.1 low rest h
    walked_initializer (Trees.binary a op at b) w low rest h = walked u types (Trees.binary a op at b) w.1 low rest h
    walked_initializer (Trees.cond a question b colon c) w low rest h = walked u types (Trees.cond a question b colon c) w.1 low rest h
    walked_initializer (Trees.assign a op at b) w low rest h = walked u types (Trees.assign a op at b) w.1 low rest h
    walked_initializer (Trees.comma a at b) w low rest h = walked u types (Trees.comma a at b) w.1 low rest h
    walked_initializer (Trees.braces left all comma right) w low rest h =
        let p = walked_initializers true all w.1 _ _ h.2 in
        let c = comma_apart comma p.high _ p.apart in
        let q : Walked (left + 1) (walk_of_initializers u objects all) (punctuator M.CloseBrace right ∷ rest) =
        record { high = c.high; in_order = order_later (left + 1) (walk_of_initializers u objects all) p.high c.high c.in_order p.in_order; apart = c.apart } in
        earlier (pass h.0 h.1) (closed q)

    walked_initializers : (start : Bool) (t : Trees.Arguments) → AreInitializers types start t → (low : ℕ) (rest : List Lexeme)
        → AreApart low (spelled_arguments t rest) → Walked low (walk_of_initializers u objects t) rest
    walked_initializers start Trees.no_arguments w low rest h = none h
    walked_initializers start (Trees.and_argument comma a more) w low rest h =
        let c = comma_apart comma low _ h in
        let l : low ≤ c.high = c.in_order in
        let p = walked_initializer a w.1 c.high _ c.apart in
        earlier l (both p (walked_initializers false more w.2 p.high rest p.apart))

  pub walked_value : (value : Option (ℕ × Trees.Expression)) → IsValue types value → (low : ℕ) (rest : List Lexeme) → AreApart low (spelled_value value rest)
      → Walked low (walk_of_initial u objects value) rest
  walked_value None w low rest h = none h
  walked_value (Some value) w low rest h = earlier (pass h.0 h.1) (walked_initializer value.1 w _ rest h.2)

  -- ---- a declarator: all that stands in it stands behind its name

  pub record Behind (low : ℕ) (d : Trees.Declarator) (x : Spelling) (after : ℕ) (rest : List Lexeme) : Type 0 where
    pub begins_from : low ≤ first_declarator d after
    pub begins_before : first_declarator d after ≤ x.from
    pub walk : Walked (suc x.from) (walk_of_declarator u d) rest

  after_token : {a b : ℕ} → a < b → suc a ≤ b
  after_token l = omega (arith, l)

  pub behind_name : (d : Trees.Declarator) → IsDeclarator types d → (x : Spelling) → declared_name d ≡ Some x → (after low : ℕ) (rest : List Lexeme)
      → AreApart low (spelled_declarator d rest) → Behind low d x after rest
  behind_name Trees.nothing w x e after low rest h = cc
  behind_name (Trees.named y) w x e after low rest h =
      let same : y ≡ x = cc in
      subst (λ x. Behind low (Trees.named y) x after rest) same
      (record { begins_from = h.0; begins_before = omega arith; walk = earlier (after_token h.1) (none h.2) })
  behind_name (Trees.pointer at consts d) w x e after low rest h =
      let c = consts_apart consts _ _ h.2 in
      let p = behind_name d w x e after c.high rest c.apart in
      let l : at + 1 ≤ c.high = c.in_order in
      let m = p.begins_from in
      let n = p.begins_before in
      record { begins_from = h.0; begins_before = omega (arith, l, m, n); walk = p.walk }
  behind_name (Trees.enclosed left d right) w x e after low rest h =
      let p = behind_name d w.1 x e after (left + 1) _ h.2 in
      let m = p.begins_from in
      let n = p.begins_before in
      record { begins_from = h.0; begins_before = omega (arith, m, n); walk = closed p.walk }
  behind_name (Trees.array d left bound right) w x e after low rest h =
      let p = behind_name d w.1 x e left low _ h in
      let q = p.walk in
      record {
        begins_from = p.begins_from;
        begins_before = p.begins_before;
        walk = both q (looking q.apart.0 (earlier (less q.apart.1) (closed (walked_if_any u types bound w.2 _ _ q.apart.2))));
      }
  behind_name (Trees.function d left all right) w x e after low rest h =
      let p = behind_name d w.1 x e left low _ h in
      let q = p.walk in
      record {
        begins_from = p.begins_from;
        begins_before = p.begins_before;
        walk = both q (walked_declarator u types (Trees.function Trees.nothing left all right) (refl, tt, w.2) q.high rest q.apart);
      }

  -- ---- declarations in a block

  look_apart : (low : ℕ) (d : Trees.Declarator) (x : Spelling) (after : ℕ) (rest : List Lexeme) → Behind low d x after rest
      → Walked low (a_look x.from ∷ walk_of_declarator u d) rest
  look_apart low d x after rest p =
      let m = p.begins_from in
      let n = p.begins_before in
      looking (omega (arith, m, n)) (earlier (omega arith) p.walk)

  walked_locals : (lead : Bool) (all : List Trees.InitDeclarator) → AreInitDeclarators types lead all → (low : ℕ) (rest : List Lexeme)
      → AreApart low (spelled_init_declarators all rest) → Walked low (walk_of_locals u objects all) rest
  walked_locals lead [] w low rest h = none h
  walked_locals lead (d ∷ more) w low rest h =
      let c = comma_apart d.comma low _ h in
      let l : low ≤ c.high = c.in_order in
      let x = name_there d.declarator w.2 in
      let b = behind_name d.declarator w.1 x.0 x.1 0 c.high _ c.apart in
      let p : Walked c.high (walk_of_declared u objects d) (spelled_value d.value (spelled_init_declarators more rest)) =
      subst (λ o. Walked c.high (look_at u objects o ++ walk_of_declarator u d.declarator) (spelled_value d.value (spelled_init_declarators more rest)))
      (sym x.1) (look_apart c.high d.declarator x.0 0 _ b) in
      let q = both p (walked_value d.value w.3 p.high _ p.apart) in
      earlier l (both q (walked_locals false more w.4 q.high rest q.apart))

-- what stands in a declaration of a block
abbrev pub own : FileScope → Trees.Declaration → List Event
own g d = walk_of_declaration g (λ all. walk_of_statics g all) d

module _ (g : FileScope) (types : List (List ℕ)) where
  made_apart : (low : ℕ) (d : Trees.InitDeclarator) (x : Spelling) (rest : List Lexeme)
      → Behind g.untagged g.objects types low d.declarator x x.from rest
      → Walked low (a_literal (first_declarator d.declarator x.from) ∷ a_look x.from ∷ walk_of_declarator g.untagged d.declarator) rest
  made_apart low d x rest p = making p.begins_from (looking p.begins_before (earlier (omega arith) p.walk))

  walked_statics : (lead : Bool) (all : List Trees.InitDeclarator) → AreInitDeclarators types lead all → (low : ℕ) (rest : List Lexeme)
      → AreApart low (spelled_init_declarators all rest) → Walked low (walk_of_statics g all) rest
  walked_statics lead [] w low rest h = none h
  walked_statics lead (d ∷ more) w low rest h =
      let c = comma_apart d.comma low _ h in
      let l : low ≤ c.high = c.in_order in
      let x = name_there d.declarator w.2 in
      let tokens = spelled_value d.value (spelled_init_declarators more rest) in
      let b = behind_name g.untagged g.objects types d.declarator w.1 x.0 x.1 x.0.from c.high tokens c.apart in
      let p : Walked c.high (object_at d (declared_name d.declarator) ++ walk_of_declared g.untagged g.objects d) tokens =
      subst (λ o. Walked c.high (object_at d o ++ (look_at g.untagged g.objects o ++ walk_of_declarator g.untagged d.declarator)) tokens)
      (sym x.1) (made_apart c.high d x.0 tokens b) in
      let q = both p (walked_value g.untagged g.objects types d.value w.3 p.high _ p.apart) in
      earlier l (both q (walked_statics false more w.4 q.high rest q.apart))

  walked_by_storage : (words : Storage) (all : List Trees.InitDeclarator) → AreInitDeclarators types true all → (low : ℕ) (rest : List Lexeme)
      → AreApart low (spelled_init_declarators all rest) → Walked low (walk_by_storage g (λ all. walk_of_statics g all) words all) rest
  walked_by_storage is_static all w low rest h = walked_statics true all w low rest h
  walked_by_storage no_storage all w low rest h = walked_locals g.untagged g.objects types true all w low rest h
  walked_by_storage a_typedef all w low rest h = walked_locals g.untagged g.objects types true all w low rest h
  walked_by_storage is_extern all w low rest h = walked_locals g.untagged g.objects types true all w low rest h
  walked_by_storage is_auto all w low rest h = walked_locals g.untagged g.objects types true all w low rest h
  walked_by_storage is_register all w low rest h = walked_locals g.untagged g.objects types true all w low rest h
  walked_by_storage several all w low rest h = walked_locals g.untagged g.objects types true all w low rest h

  walked_declaration : (d : Trees.Declaration) → IsDeclaration types d → (low : ℕ) (rest : List Lexeme) → AreApart low (spelled_declaration d rest)
      → Walked low (own g d) rest
  walked_declaration d w low rest h =
      let p = walked_specifiers g.untagged types d.specs w.0 low _ h in
      both p (closed (walked_by_storage (storage_of d.specs) d.all w.1 p.high (punctuator M.Semicolon d.semicolon ∷ rest) p.apart))

  -- ---- statements

  walked_option : (a : Option Trees.Expression) → IsExpressionIfAny types a → (low : ℕ) (rest : List Lexeme) → AreApart low (spelled_if_any a rest)
      → Walked low (walk_of_option g.untagged (own g) a) rest
  walked_option None w low rest h = none h
  walked_option (Some a) w low rest h = walked g.untagged types a w low rest h

  walked_start : (t : Trees.ForStart) → IsForStart types t → (low : ℕ) (rest : List Lexeme) → AreApart low (spelled_for_start t rest)
      → Walked low (walk_of_start g.untagged (own g) t) rest
  walked_start (Trees.starts_with a semicolon) w low rest h = closed (walked_option a w low _ h)
  walked_start (Trees.declares d) w low rest h = walked_declaration d w.1 low rest h

  walked_labels : (all : List Trees.Label) → AreLabels types all → (low : ℕ) (rest : List Lexeme) → AreApart low (spelled_labels all rest)
      → Walked low (walk_of_labels g.untagged (own g) all) rest
  walked_labels [] w low rest h = none h
  walked_labels (Trees.case at a colon ∷ more) w low rest h =
      let p = closed (filtered false value_alone (walked g.untagged types a w.1 _ _ h.2)) in
      earlier (pass h.0 h.1) (both p (walked_labels more w.2 p.high rest p.apart))
  walked_labels (Trees.default at colon ∷ more) w low rest h =
      earlier (pass h.0 h.1) (earlier (pass h.2.0 h.2.1) (walked_labels more w _ rest h.2.2))

  mutual
    walked_statement : (t : Trees.Statement) → IsStatement types t → (low : ℕ) (rest : List Lexeme) → AreApart low (spelled_statement t rest)
        → Walked low (walk_of_statement g.untagged (own g) t) rest
    walked_statement (Trees.block left items right) w low rest h = earlier (pass h.0 h.1) (closed (walked_items items w _ _ h.2))
    walked_statement (Trees.evaluate a semicolon) w low rest h = closed (walked_option a w low _ h)
    walked_statement (Trees.when at left a right one) w low rest h =
        let p = closed (walked g.untagged types a w.0 _ _ h.2.2) in
        earlier (pass h.0 h.1) (earlier (pass h.2.0 h.2.1) (both p (walked_statement one w.1 p.high rest p.apart)))
    walked_statement (Trees.choose at left a right one else other) w low rest h =
        let p = closed (walked g.untagged types a w.1 _ _ h.2.2) in
        let q = closed (both p (walked_statement one w.2 p.high _ p.apart)) in
        earlier (pass h.0 h.1) (earlier (pass h.2.0 h.2.1) (both q (walked_statement other w.3 q.high rest q.apart)))
    walked_statement (Trees.while at left a right body) w low rest h =
        let p = closed (walked g.untagged types a w.0 _ _ h.2.2) in
        earlier (pass h.0 h.1) (earlier (pass h.2.0 h.2.1) (both p (walked_statement body w.1 p.high rest p.apart)))
    walked_statement (Trees.do_while at body while left a right semicolon) w low rest h =
        let p = closed (closed (walked_statement body w.0 _ _ h.2)) in
        earlier (pass h.0 h.1) (both p (closed (closed (walked g.untagged types a w.1 p.high _ p.apart))))
    walked_statement (Trees.for at left start test semicolon step right body) w low rest h =
        let p = walked_start start w.0 _ _ h.2.2 in
        let q = closed (both p (walked_option test w.1 p.high _ p.apart)) in
        let r = closed (both q (walked_option step w.2 q.high _ q.apart)) in
        earlier (pass h.0 h.1) (earlier (pass h.2.0 h.2.1) (both r (walked_statement body w.3 r.high rest r.apart)))
    walked_statement (Trees.switch at left a right begin items end) w low rest h =
        let p = closed (closed (walked g.untagged types a w.0 _ _ h.2.2)) in
        earlier (pass h.0 h.1) (earlier (pass h.2.0 h.2.1) (both p (closed (walked_switch_items items w.1 p.high _ p.apart))))
    walked_statement (Trees.break at semicolon) w low rest h = earlier (pass h.0 h.1) (earlier (pass h.2.0 h.2.1) (none h.2.2))
    walked_statement (Trees.continue at semicolon) w low rest h = earlier (pass h.0 h.1) (earlier (pass h.2.0 h.2.1) (none h.2.2))
    walked_statement (Trees.return at a semicolon) w low rest h = earlier (pass h.0 h.1) (closed (walked_option a w _ _ h.2))

    walked_item : (t : Trees.BlockItem) → IsBlockItem types t → (low : ℕ) (rest : List Lexeme) → AreApart low (spelled_block_item t rest)
        → Walked low (walk_of_item g.untagged (own g) t) rest
    walked_item (Trees.local d) w low rest h = walked_declaration d w low rest h
    walked_item (Trees.statement a) w low rest h = walked_statement a w low rest h

    pub walked_items : (t : Trees.BlockItems) → AreBlockItems types t → (low : ℕ) (rest : List Lexeme) → AreApart low (spelled_block_items t rest)
        → Walked low (walk_of_items g.untagged (own g) t) rest
    walked_items Trees.no_block_items w low rest h = none h
    walked_items (Trees.and_block_item e more) w low rest h =
        let p = walked_item e w.0 low _ h in both p (walked_items more w.1 p.high rest p.apart)

    walked_switch_item : (t : Trees.SwitchItem) → IsSwitchItem types t → (low : ℕ) (rest : List Lexeme) → AreApart low (spelled_switch_item t rest)
        → Walked low (walk_of_switch_item g.untagged (own g) t) rest
    walked_switch_item (Trees.local_switch_item d) w low rest h = walked_declaration d w.1 low rest h
    walked_switch_item (Trees.labelled labels a) w low rest h =
        let p = walked_labels labels w.0 low _ h in both p (walked_statement a w.1 p.high rest p.apart)

    walked_switch_items : (t : Trees.SwitchItems) → AreSwitchItems types t → (low : ℕ) (rest : List Lexeme) → AreApart low (spelled_switch_items t rest)
        → Walked low (walk_of_switch_items g.untagged (own g) t) rest
    walked_switch_items Trees.no_switch_items w low rest h = none h
    walked_switch_items (Trees.and_switch_item item more) w low rest h =
        let p = walked_switch_item item w.0 low _ h in both p (walked_switch_items more w.1 p.high rest p.apart)
