-- What stands for a statement of a text, or for a declaration in a block, stands where its tokens do, but for implicit conversions (C99 6.7, 6.8).
use Rattle.std.proofs.Common.{◌≡◌, ℕ, zero, suc, Bool, true, false, sym, subst, List, [], ◌∷◌, ◌++◌, inl, inr, Some, None}
use Rattle.std.specs.Prelude.{◌⊎◌, Option}
use Rattle.lay_base.specs.declared.place.Place.{Place}
use Rattle.c_types.specs.declared.ty.IntKind.{IntKind}
use Rattle.c_types.specs.Types.{CType, structure, Field}
use Rattle.c_ast.specs.declared.words.Spelling.{Spelling}
use Rattle.c_ast.specs.Spelling.{Lexeme, spelled, spelled_arguments, spelled_value, spelled_init_declarators, spelled_declaration, spelled_if_any}
use Rattle.c_ast.specs.Spelling.{spelled_for_start, spelled_statement, spelled_block_item, spelled_block_items, spelled_switch_item, spelled_switch_items}
use Rattle.c_ast.specs.Trees
use Rattle.c_typed.specs.Conversions.{is_scalar}
use Rattle.c_typed.specs.Trees as Typed
use Rattle.c_erasure.specs.Erasure.{Values, Erases}
use Rattle.c_erasure.specs.Initializers.{Part, part_at, texts_of, IsText, Initializes, IsOneValue, InitializeElements, InitializeFields, IsInitializer}
use Rattle.c_erasure.specs.Noted.{Noted, Expression, Path, an_object, type_of, type_of_path}
use Rattle.c_erasure.specs.Scopes.{Scope, inside}
use Rattle.c_erasure.specs.Statements.{Statement, Statements, Arms, followed_by, HasInitializer, HasConstants, with_object, with_variable, DeclareAll, IsLocalDeclaration}
use Rattle.c_erasure.specs.Statements.{IsPlainIfAny, IsStart, with_first, IsArranged, ErasesStatement, ErasesItem, EraseItems, ErasesSwitchItem}
use Rattle.c_erasure.specs.Statements.{EraseSwitchItems}
use Rattle.c_checking_units.proofs.FaultPlaces.Blocks.{if_any_behind, labels_behind, start_behind, statement_behind, block_item_behind, switch_item_behind}
use Rattle.c_checking_units.proofs.FaultPlaces.Tokens.{Tokens, back, comma_after, specifiers_behind, declarator_behind}
use Rattle.c_undefined_places.proofs.Loose.{IsLoose, AreLooseParts, IsLooseInitializer, IsLooseInitial, IsLooseIfAny, IsLooseStatement}
use Rattle.c_undefined_places.proofs.Loose.{AreLooseStatements, AreLooseArms}
use Rattle.c_undefined_places.proofs.ErasedExpressions as Expressions

module _ (Is : Place → Type 0) (number : ℕ) (zero_is : Is (record { file = number; at = 0 })) where
  abbrev P : ℕ → Type 0
  P = Expressions.P Is number zero_is

  abbrev IsHere : Scope → Type 0
  IsHere s = Expressions.IsHere Is number zero_is s

  past : (a : Trees.Expression) (rest : List Lexeme) → Tokens P (spelled a rest) → Tokens P rest
  past a rest k = Expressions.past Is number zero_is a rest k

  found : (a : Trees.Expression) (s : Scope) (x : Expression) (rest : List Lexeme) → IsHere s → Tokens P (spelled a rest) → Values (Erases a s) x
      → IsLoose Is x
  found a s x rest i k h = Expressions.found_loose Is number zero_is a s x rest i k h

  -- ---- initializers

  parts_so : (parts own : List Part) → parts ≡ own → AreLooseParts Is own → AreLooseParts Is parts
  parts_so parts own e h = subst (AreLooseParts Is) (sym e) h

  parts_both : (own rest : List Part) → AreLooseParts Is own → AreLooseParts Is rest → AreLooseParts Is (own ++ rest)
  parts_both [] rest h k = k
  parts_both (part ∷ own) rest h k = (h.0, parts_both own rest h.1 k)

  text_loose : (all : Option (List Spelling)) (s : Scope) (t : CType) (at : ℕ) (parts : List Part) → IsText all s t at parts → AreLooseParts Is parts
  text_loose None s t at parts h = absurd h
  text_loose (Some all) s t at parts h = parts_so parts _ h.3 (tt, tt)

  abbrev IsSingle : Trees.Expression → Scope → CType → ℕ → List Part → Type 0
  IsSingle a s t at parts =
      ((x : Expression) × (is_scalar t ≡ true) × (type_of x ≡ t) × (parts ≡ part_at at (Typed.value x)) × Values (Erases a s) x)
      ⊎ ((r : ℕ) × (p : Path) × (t ≡ structure r) × (type_of_path p ≡ t) × (parts ≡ part_at at (Typed.record_of p)) × Erases a s (an_object p))
      ⊎ IsText (texts_of a) s t at parts

  single : (a : Trees.Expression) (s : Scope) (t : CType) (at : ℕ) (parts : List Part) (rest : List Lexeme) → IsHere s → Tokens P (spelled a rest)
      → IsSingle a s t at parts → AreLooseParts Is parts
  single a s t at parts rest i k (inl h) = parts_so parts _ h.3 (found a s h.0 rest i k h.4, tt)
  single a s t at parts rest i k (inr (inl h)) =
      parts_so parts _ h.4 (Expressions.thing_loose Is number zero_is a s (an_object h.1) rest i k h.5, tt)
  single a s t at parts rest i k (inr (inr h)) = text_loose (texts_of a) s t at parts h

  one_value : (all : Trees.Arguments) (s : Scope) (x : Expression) (rest : List Lexeme) → IsHere s → Tokens P (spelled_arguments all rest)
      → IsOneValue all s x → IsLoose Is x
  one_value Trees.no_arguments s x rest i k h = absurd h
  one_value (Trees.and_argument comma a Trees.no_arguments) s x rest i k h = found a s x _ i (comma_after comma k) h
  one_value (Trees.and_argument comma a (Trees.and_argument second c more)) s x rest i k h = absurd h

  mutual
    parts_loose : (a : Trees.Expression) (s : Scope) (t : CType) (at : ℕ) (parts : List Part) (rest : List Lexeme) → IsHere s → Tokens P (spelled a rest)
        → Initializes a s t at parts → AreLooseParts Is parts
    parts_loose (Trees.braces left all last right) s t at parts rest i k (inl h) =
        parts_so parts _ h.3 (one_value all s h.0 _ i (back k) h.4, tt)
    parts_loose (Trees.braces left all last right) s t at parts rest i k (inr (inl h)) = elements all s h.1 h.0 at parts _ i (back k) h.4
    parts_loose (Trees.braces left all last right) s t at parts rest i k (inr (inr (inl h))) = fields all s h.0 0 h.1.fields at parts _ i (back k) h.4
    parts_loose (Trees.braces left all last right) s t at parts rest i k (inr (inr (inr h))) =
        text_loose (texts_of (Trees.braces left all last right)) s t at parts h
    parts_loose a s t at parts rest i k h = single a s t at parts rest i k h

    elements : (all : Trees.Arguments) (s : Scope) (u : CType) (size at : ℕ) (parts : List Part) (rest : List Lexeme) → IsHere s
        → Tokens P (spelled_arguments all rest) → InitializeElements all s u size at parts → AreLooseParts Is parts
    elements Trees.no_arguments s u size at parts rest i k h = parts_so parts [] h tt
    elements (Trees.and_argument comma a more) s u size at parts rest i k h =
        let own = comma_after comma k in
        parts_so parts _ h.4 (parts_both h.1 h.2 (parts_loose a s u at h.1 _ i own h.5) (elements more s u h.0 _ h.2 rest i (past a _ own) h.6))

    fields : (all : Trees.Arguments) (s : Scope) (r k : ℕ) (own : List Field) (at : ℕ) (parts : List Part) (rest : List Lexeme) → IsHere s
        → Tokens P (spelled_arguments all rest) → InitializeFields all s r k own at parts → AreLooseParts Is parts
    fields Trees.no_arguments s r k own at parts rest i v h = parts_so parts [] h tt
    fields (Trees.and_argument comma a more) s r k own at parts rest i v h =
        let first = comma_after comma v in
        parts_so parts _ h.5 (parts_both h.2 h.3 (parts_loose a s h.0.ty _ h.2 _ i first h.6) (fields more s r _ h.1 at h.3 rest i (past a _ first) h.7))

  initializer_loose : (a : Trees.Expression) (s : Scope) (t : CType) (initial : Typed.Initializer Noted) (rest : List Lexeme) → IsHere s
      → Tokens P (spelled a rest) → IsInitializer a s t initial → IsLooseInitializer Is initial
  initializer_loose a s t initial rest i k (inl h) = subst (IsLooseInitializer Is) (sym h.1) (parts_loose a s t 0 _ rest i k h.3).0
  initializer_loose a s t initial rest i k (inr (inl h)) = subst (IsLooseInitializer Is) (sym h.1) (parts_loose a s t 0 _ rest i k h.4).0
  initializer_loose a s t initial rest i k (inr (inr h)) = subst (IsLooseInitializer Is) (sym h.1) (parts_loose a s t 0 h.0 rest i k h.3)

  pub constants_loose : (value : Option (ℕ × Trees.Expression)) (s : Scope) (t : CType) (initial : Typed.Initializer Noted) (rest : List Lexeme)
      → IsHere s → Tokens P (spelled_value value rest) → HasConstants s t value initial → IsLooseInitializer Is initial
  constants_loose None s t initial rest i k h = subst (IsLooseInitializer Is) (sym h) tt
  constants_loose (Some value) s t initial rest i k h = initializer_loose value.1 s t initial rest i (back k) h.0

  initial_loose : (value : Option (ℕ × Trees.Expression)) (s : Scope) (t : CType) (initial : Option (Typed.Initializer Noted)) (rest : List Lexeme)
      → IsHere s → Tokens P (spelled_value value rest) → HasInitializer s t value initial → IsLooseInitial Is initial
  initial_loose None s t initial rest i k h = subst (IsLooseInitial Is) (sym h) tt
  initial_loose (Some value) s t initial rest i k h =
      subst (IsLooseInitial Is) (sym h.1) (initializer_loose value.1 s t h.0 rest i (back k) h.2)

  -- ---- declarations in a block

  value_behind : (value : Option (ℕ × Trees.Expression)) (rest : List Lexeme) → Tokens P (spelled_value value rest) → Tokens P rest
  value_behind None rest k = k
  value_behind (Some value) rest k = past value.1 rest (back k)

  declarator_tokens : (d : Trees.InitDeclarator) (more : List Trees.InitDeclarator) (rest : List Lexeme)
      → Tokens P (spelled_init_declarators (d ∷ more) rest) → Tokens P (spelled_value d.value (spelled_init_declarators more rest))
  declarator_tokens d more rest k = (declarator_behind P (λ at. []) d.declarator (comma_after d.comma k)).tokens

  abbrev Is_after : Statements → Scope → Type 0
  Is_after all after = AreLooseStatements Is all × IsHere after

  declared_loose : (ds : List Trees.InitDeclarator) (s : Scope) (static : Bool) (base : CType) (all : Statements) (after : Scope) (rest : List Lexeme)
      → IsHere s → Tokens P (spelled_init_declarators ds rest) → DeclareAll ds s static base all after → Is_after all after
  declared_loose [] s static base all after rest i k h = (subst (AreLooseStatements Is) (sym h.0) tt, subst IsHere (sym h.1) i)
  declared_loose (d ∷ more) s true base all after rest i k h =
      declared_loose more (with_object s h.0 h.2 h.1) true base all after rest i (value_behind d.value _ (declarator_tokens d more rest k)) h.5
  declared_loose (d ∷ more) s false base all after rest i k h =
      let own = declarator_tokens d more rest k in
      let z = declared_loose more (with_variable s h.0 h.2 h.1) false base h.4 after rest i (value_behind d.value _ own) h.9 in
      (subst (AreLooseStatements Is) (sym h.7) (initial_loose d.value (with_variable s h.0 h.2 h.1) h.1 h.3 _ i own h.8, z.0), z.1)

  declaration_loose : (d : Trees.Declaration) (s : Scope) (all : Statements) (after : Scope) (rest : List Lexeme) → IsHere s
      → Tokens P (spelled_declaration d rest) → IsLocalDeclaration d s all after → Is_after all after
  declaration_loose d s all after rest i k (base, of_base, some, inl h) =
      declared_loose d.all s true base all after _ i (specifiers_behind P (λ at. []) d.specs k).tokens h.1
  declaration_loose d s all after rest i k (base, of_base, some, inr h) =
      declared_loose d.all s false base all after _ i (specifiers_behind P (λ at. []) d.specs k).tokens h.1

  -- ---- parts of statements

  if_any_loose : (a : Option Trees.Expression) (s : Scope) (x : Option Expression) (rest : List Lexeme) → IsHere s → Tokens P (spelled_if_any a rest)
      → IsPlainIfAny a s x → IsLooseIfAny Is x
  if_any_loose None s x rest i k h = subst (IsLooseIfAny Is) (sym h) tt
  if_any_loose (Some a) s x rest i k h = subst (IsLooseIfAny Is) (sym h.1) (found a s h.0 rest i k h.2.0)

  start_loose : (start : Trees.ForStart) (s : Scope) (all : Statements) (after : Scope) (rest : List Lexeme) → IsHere s
      → Tokens P (spelled_for_start start rest) → IsStart start s all after → Is_after all after
  start_loose (Trees.starts_with None semicolon) s all after rest i k h = (subst (AreLooseStatements Is) (sym h.0) tt, subst IsHere (sym h.1) i)
  start_loose (Trees.starts_with (Some a) semicolon) s all after rest i k h =
      (subst (AreLooseStatements Is) (sym h.1) (found a s h.0 _ i k h.2.0, tt), subst IsHere (sym h.3) i)
  start_loose (Trees.declares d) s all after rest i k h = declaration_loose d s all after rest i k h.0

  followed : (a b : Statements) → AreLooseStatements Is a → AreLooseStatements Is b → AreLooseStatements Is (followed_by a b)
  followed Typed.no_statements b h k = k
  followed (Typed.and_statement s a) b h k = (h.0, followed a b h.1 k)

  first_arm : (all : Statements) (arms : Arms) → AreLooseStatements Is all → AreLooseArms Is arms → AreLooseArms Is (with_first all arms)
  first_arm Typed.no_statements arms h k = k
  first_arm (Typed.and_statement s more) arms h k = (h, k)

  abbrev Are_arranged : Statements → Arms → Type 0
  Are_arranged all arms = AreLooseStatements Is all × AreLooseArms Is arms

  in_arm : (cases : List ℕ) (is_default : Bool) (own : Statements) (later : Arms) (all : Statements) (arms : Arms) → AreLooseStatements Is own
      → AreLooseArms Is later → all ≡ Typed.no_statements → arms ≡ Typed.and_arm cases is_default own later → Are_arranged all arms
  in_arm cases is_default own later all arms h k e g = (subst (AreLooseStatements Is) (sym e) tt, subst (AreLooseArms Is) (sym g) (h, k))

  arranged : (cases : List ℕ) (defaults : ℕ) (own : Statements) (later : Arms) (all : Statements) (arms : Arms) → AreLooseStatements Is own
      → AreLooseArms Is later → IsArranged cases defaults own later all arms → Are_arranged all arms
  arranged [] zero own later all arms h k e = (subst (AreLooseStatements Is) (sym e.0) h, subst (AreLooseArms Is) (sym e.1) k)
  arranged [] (suc m) own later all arms h k e = in_arm [] _ own later all arms h k e.0 e.2
  arranged (v ∷ cases) m own later all arms h k e = in_arm (v ∷ cases) _ own later all arms h k e.0 e.2

  -- ---- statements

  so : (st it : Statement) → st ≡ it → IsLooseStatement Is it → IsLooseStatement Is st
  so st it e h = subst (IsLooseStatement Is) (sym e) h

  mutual
    statement_loose : (a : Trees.Statement) (s : Scope) (st : Statement) (rest : List Lexeme) → IsHere s → Tokens P (spelled_statement a rest)
        → ErasesStatement a s st → IsLooseStatement Is st
    statement_loose (Trees.block left items right) s st rest i k h = so st _ h.1 (items_loose items (inside s) h.0 _ i (back k) h.2)
    statement_loose (Trees.evaluate None semicolon) s st rest i k h = so st _ h tt
    statement_loose (Trees.evaluate (Some a) semicolon) s st rest i k h = so st _ h.1 (found a s h.0 _ i k h.2.0)
    statement_loose (Trees.when at left a right one) s st rest i k h =
        let own = back (back k) in
        so st _ h.2 (found a s h.0 _ i own h.3.0, statement_loose one s h.1 rest i (back (past a _ own)) h.4)
    statement_loose (Trees.choose at left a right one else other) s st rest i k h =
        let own = back (back k) in
        let there = back (past a _ own) in
        so st _ h.3 (
          found a s h.0 _ i own h.4.0,
          statement_loose one s h.1 _ i there h.5,
          statement_loose other s h.2 rest i (back (statement_behind P (λ at. []) one there)) h.6,
        )
    statement_loose (Trees.while at left a right body) s st rest i k h =
        let own = back (back k) in
        so st _ h.2 (found a s h.0 _ i own h.3.0, statement_loose body s h.1 rest i (back (past a _ own)) h.4)
    statement_loose (Trees.do_while at body while left a right semicolon) s st rest i k h =
        let there = back (back (statement_behind P (λ at. []) body (back k))) in
        so st _ h.2 (statement_loose body s h.0 _ i (back k) h.3, found a s h.1 _ i there h.4.0)
    statement_loose (Trees.for at left start test semicolon step right body) s st rest i k h =
        let own = back (back k) in
        let z = start_loose start (inside s) h.0 h.1 _ i own h.6 in
        let second = start_behind P (λ at. []) start own in
        let third = back (if_any_behind P (λ at. []) test second) in
        so st _ h.5 (
          z.0,
          if_any_loose test h.1 h.2 _ z.1 second h.7,
          if_any_loose step h.1 h.3 _ z.1 third h.8,
          statement_loose body h.1 h.4 rest z.1 (back (if_any_behind P (λ at. []) step third)) h.9,
        )
    statement_loose (Trees.switch at left a right begin items end) s st rest i k h =
        let own = back (back k) in
        let z = switch_items_loose items (inside s) h.1 h.2 h.3 _ i (back (back (past a _ own))) h.7 in
        so st _ h.4 (found a s h.0 _ i own h.5, first_arm h.2 h.3 z.0 z.1)
    statement_loose (Trees.break at semicolon) s st rest i k h = so st _ h tt
    statement_loose (Trees.continue at semicolon) s st rest i k h = so st _ h tt
    statement_loose (Trees.return at None semicolon) s st rest i k h = so st _ h tt
    statement_loose (Trees.return at (Some a) semicolon) s st rest i k h = so st _ h.1 (found a s h.0 _ i (back k) h.2)

    item_loose : (item : Trees.BlockItem) (s : Scope) (all : Statements) (after : Scope) (rest : List Lexeme) → IsHere s
        → Tokens P (spelled_block_item item rest) → ErasesItem item s all after → Is_after all after
    item_loose (Trees.local d) s all after rest i k h = declaration_loose d s all after rest i k h
    item_loose (Trees.statement a) s all after rest i k h =
        (subst (AreLooseStatements Is) (sym h.1) (statement_loose a s h.0 rest i k h.2, tt), subst IsHere (sym h.3) i)

    pub items_loose : (items : Trees.BlockItems) (s : Scope) (all : Statements) (rest : List Lexeme) → IsHere s → Tokens P (spelled_block_items items rest)
        → EraseItems items s all → AreLooseStatements Is all
    items_loose Trees.no_block_items s all rest i k h = subst (AreLooseStatements Is) (sym h) tt
    items_loose (Trees.and_block_item item more) s all rest i k h =
        let z = item_loose item s h.0 h.2 _ i k h.4 in
        subst (AreLooseStatements Is) (sym h.3)
        (followed h.0 h.1 z.0 (items_loose more h.2 h.1 rest z.1 (block_item_behind P (λ at. []) item k) h.5))

    switch_item_loose : (item : Trees.SwitchItem) (s : Scope) (kind : IntKind) (cases : List ℕ) (defaults : ℕ) (all : Statements) (after : Scope)
        (rest : List Lexeme) → IsHere s → Tokens P (spelled_switch_item item rest) → ErasesSwitchItem item s kind cases defaults all after
        → Is_after all after
    switch_item_loose (Trees.local_switch_item d) s kind cases defaults all after rest i k h = declaration_loose d s all after rest i k h.2
    switch_item_loose (Trees.labelled labels a) s kind cases defaults all after rest i k h =
        let own = labels_behind P (λ at. []) labels k in
        (subst (AreLooseStatements Is) (sym h.1.1) (statement_loose a s h.1.0 rest i own h.1.2, tt), subst IsHere (sym h.2) i)

    switch_items_loose : (items : Trees.SwitchItems) (s : Scope) (kind : IntKind) (all : Statements) (arms : Arms) (rest : List Lexeme) → IsHere s
        → Tokens P (spelled_switch_items items rest) → EraseSwitchItems items s kind all arms → Are_arranged all arms
    switch_items_loose Trees.no_switch_items s kind all arms rest i k h =
        (subst (AreLooseStatements Is) (sym h.0) tt, subst (AreLooseArms Is) (sym h.1) tt)
    switch_items_loose (Trees.and_switch_item item more) s kind all arms rest i k h =
        let z = switch_item_loose item s kind h.0 h.1 h.2 h.5 _ i k h.6 in
        let y = switch_items_loose more h.5 kind h.3 h.4 rest z.1 (switch_item_behind P (λ at. []) item k) h.7 in
        arranged h.0 h.1 (followed_by h.2 h.3) h.4 all arms (followed h.2 h.3 z.0 y.0) y.1 h.8
