-- Where tokens come one after the other, what stands in a part is in the order of its bytes.
use Rattle.std.proofs.Common.{◌≡◌, ◌≢◌, ℕ, suc, ◌+◌, ◌≤◌, ◌<◌, Bool, true, false, List, [], ◌∷◌, ◌++◌, Option, Some, None, length, refl, arith}
use Rattle.c_tokens.specs.declared.punctuator.Punctuator.{Punctuator}
use Rattle.c_tokens.specs.declared.punctuator.Punctuator.TheVariants as M
use Rattle.c_ast.specs.declared.words.Spelling.{Spelling}
use Rattle.c_ast.specs.Trees
use Rattle.c_ast.specs.Places.{first, first_text, first_declarator}
use Rattle.c_ast.specs.Spelling.{Lexeme, punctuator, spelled, spelled_comma, spelled_tag, spelled_texts, spelled_consts, spelled_arguments}
use Rattle.c_ast.specs.Spelling.{spelled_optional, spelled_type_name, spelled_specifiers, spelled_specifier, spelled_member_declarations}
use Rattle.c_ast.specs.Spelling.{spelled_member_declarators, spelled_enumerators, spelled_enumerator_value, spelled_declarator}
use Rattle.c_ast.specs.Spelling.{spelled_parameter_list, spelled_parameters}
use Rattle.c_ast.specs.WellFormed.{IsExpression, AreArguments, IsOptional, IsTypeName, AreSpecifiers, AreMoreSpecifiers, IsSpecifier, AreMemberDeclarations}
use Rattle.c_ast.specs.WellFormed.{AreMemberDeclarators, AreEnumerators, IsEnumeratorValue, IsDeclarator, IsParameterList, AreParameters, has_name}
use Rattle.c_erasure.specs.Erasure.{comma_or}
use Rattle.c_erasure.specs.Scopes.{Tag, Purpose, in_full, value_alone}
use Rattle.c_checking_laws.proofs.CompleteWalk.{Event, a_use, a_look, a_tag, an_end, a_name, a_literal, seen, with_event, is_kept, an_enumeration}
use Rattle.c_checking_laws.proofs.CompleteWalk.{walk, walk_of_all, walk_if_any, walk_of_type, walk_of_specifiers, walk_of_specifier, walk_of_members}
use Rattle.c_checking_laws.proofs.CompleteWalk.{walk_of_member_declarators, walk_of_enumerators, walk_of_value, walk_of_declarator, walk_of_parameter_list}
use Rattle.c_checking_laws.proofs.CompleteWalk.{walk_of_parameters}

-- tokens of at least one byte come one after the other, from a byte on
abbrev pub AreApart : ℕ → List Lexeme → Type 0
AreApart at [] = Unit {0}
AreApart at (t ∷ tokens) = (at ≤ t.from) × (t.from < t.to) × AreApart t.to tokens

-- events from a byte on, and before another
abbrev pub AreInOrder : ℕ → List Event → ℕ → Type 0
AreInOrder low [] high = low ≤ high
AreInOrder low (a_use at ∷ all) high = (low ≤ at) × AreInOrder (suc at) all high
AreInOrder low (a_look at ∷ all) high = (low ≤ at) × AreInOrder at all high
AreInOrder low (a_tag t ∷ all) high = AreInOrder low all high
AreInOrder low (an_end tag right ∷ all) high = (low ≤ right) × AreInOrder (suc right) all high
AreInOrder low (a_name from ∷ all) high = (low ≤ from) × AreInOrder (suc from) all high
AreInOrder low (a_literal at ∷ all) high = (low ≤ at) × AreInOrder at all high

pub order_earlier : (low m : ℕ) (all : List Event) (high : ℕ) → low ≤ m → AreInOrder m all high → AreInOrder low all high
order_earlier low m [] high l h = omega (arith, l, h)
order_earlier low m (a_use at ∷ all) high l h = let o = h.0 in (omega (arith, l, o), h.1)
order_earlier low m (a_look at ∷ all) high l h = let o = h.0 in (omega (arith, l, o), h.1)
order_earlier low m (a_tag t ∷ all) high l h = order_earlier low m all high l h
order_earlier low m (an_end tag right ∷ all) high l h = let o = h.0 in (omega (arith, l, o), h.1)
order_earlier low m (a_name from ∷ all) high l h = let o = h.0 in (omega (arith, l, o), h.1)
order_earlier low m (a_literal at ∷ all) high l h = let o = h.0 in (omega (arith, l, o), h.1)

pub order_later : (low : ℕ) (all : List Event) (m high : ℕ) → m ≤ high → AreInOrder low all m → AreInOrder low all high
order_later low [] m high l h = omega (arith, l, h)
order_later low (a_use at ∷ all) m high l h = (h.0, order_later (suc at) all m high l h.1)
order_later low (a_look at ∷ all) m high l h = (h.0, order_later at all m high l h.1)
order_later low (a_tag t ∷ all) m high l h = order_later low all m high l h
order_later low (an_end tag right ∷ all) m high l h = (h.0, order_later (suc right) all m high l h.1)
order_later low (a_name from ∷ all) m high l h = (h.0, order_later (suc from) all m high l h.1)
order_later low (a_literal at ∷ all) m high l h = (h.0, order_later at all m high l h.1)

pub order_both : (low : ℕ) (a : List Event) (m : ℕ) (b : List Event) (high : ℕ) → AreInOrder low a m → AreInOrder m b high → AreInOrder low (a ++ b) high
order_both low [] m b high h k = order_earlier low m b high h k
order_both low (a_use at ∷ a) m b high h k = (h.0, order_both (suc at) a m b high h.1 k)
order_both low (a_look at ∷ a) m b high h k = (h.0, order_both at a m b high h.1 k)
order_both low (a_tag t ∷ a) m b high h k = order_both low a m b high h k
order_both low (an_end tag right ∷ a) m b high h k = (h.0, order_both (suc right) a m b high h.1 k)
order_both low (a_name from ∷ a) m b high h k = (h.0, order_both (suc from) a m b high h.1 k)
order_both low (a_literal at ∷ a) m b high h k = (h.0, order_both at a m b high h.1 k)

-- what is left of them is in order
pub order_seen : (i : Bool) (p : Purpose) (low : ℕ) (all : List Event) (high : ℕ) → AreInOrder low all high → AreInOrder low (seen i p all) high
order_seen i p low [] high h = h
order_seen i p low (a_use at ∷ all) high h = (h.0, order_seen i p (suc at) all high h.1)
order_seen i p low (a_look at ∷ all) high h = (h.0, order_seen i p at all high h.1)
order_seen i p low (a_tag t ∷ all) high h = by_test (is_kept (a_tag t) i p) (order_seen i p low all high h)
  where
    by_test : (k : Bool) → AreInOrder low (seen i p all) high → AreInOrder low (with_event k (a_tag t) (seen i p all)) high
    by_test true h = h
    by_test false h = h
order_seen i p low (an_end tag right ∷ all) high h = by_test (is_kept (an_end tag right) i p) (order_seen i p (suc right) all high h.1)
  where
    by_test : (k : Bool) → AreInOrder (suc right) (seen i p all) high → AreInOrder low (with_event k (an_end tag right) (seen i p all)) high
    by_test true k = (h.0, k)
    by_test false k = let o = h.0 in order_earlier low (suc right) (seen i p all) high (omega (arith, o)) k
order_seen i p low (a_name from ∷ all) high h = by_test (is_kept (a_name from) i p) (order_seen i p (suc from) all high h.1)
  where
    by_test : (k : Bool) → AreInOrder (suc from) (seen i p all) high → AreInOrder low (with_event k (a_name from) (seen i p all)) high
    by_test true k = (h.0, k)
    by_test false k = let o = h.0 in order_earlier low (suc from) (seen i p all) high (omega (arith, o)) k
order_seen i p low (a_literal at ∷ all) high h = by_test (is_kept (a_literal at) i p) (order_seen i p at all high h.1)
  where
    by_test : (k : Bool) → AreInOrder at (seen i p all) high → AreInOrder low (with_event k (a_literal at) (seen i p all)) high
    by_test true k = (h.0, k)
    by_test false k = order_earlier low at (seen i p all) high h.0 k

-- ---- events of a part, before the tokens that follow

pub record Walked (low : ℕ) (all : List Event) (rest : List Lexeme) : Type 0 where
  pub high : ℕ
  pub in_order : AreInOrder low all high
  pub apart : AreApart high rest

pass : {low a b : ℕ} → low ≤ a → a < b → low ≤ b
pass l m = omega (arith, l, m)

less : {a b : ℕ} → a < b → a ≤ b
less l = omega (arith, l)

none : {low : ℕ} {rest : List Lexeme} → AreApart low rest → Walked low [] rest
none {low} h = record { high = low; in_order = omega arith; apart = h }

earlier : {low m : ℕ} {all : List Event} {rest : List Lexeme} → low ≤ m → Walked m all rest → Walked low all rest
earlier {low} {m} {all} l p = record { high = p.high; in_order = order_earlier low m all p.high l p.in_order; apart = p.apart }

-- after one more token
closed : {low : ℕ} {all : List Event} {t : Lexeme} {rest : List Lexeme} → Walked low all (t ∷ rest) → Walked low all rest
closed {low} {all} {t} p = record { high = t.to; in_order = order_later low all p.high t.to (pass p.apart.0 p.apart.1) p.in_order; apart = p.apart.2 }

both : {low : ℕ} {a b : List Event} {middle rest : List Lexeme} → (p : Walked low a middle) → Walked p.high b rest → Walked low (a ++ b) rest
both {low} {a} {b} p q = record { high = q.high; in_order = order_both low a p.high b q.high p.in_order q.in_order; apart = q.apart }

looking : {low at : ℕ} {all : List Event} {rest : List Lexeme} → low ≤ at → Walked at all rest → Walked low (a_look at ∷ all) rest
looking l p = record { high = p.high; in_order = (l, p.in_order); apart = p.apart }

tagged : {t : Tag} {low : ℕ} {all : List Event} {rest : List Lexeme} → Walked low all rest → Walked low (a_tag t ∷ all) rest
tagged p = record { high = p.high; in_order = p.in_order; apart = p.apart }

filtered : (i : Bool) (p : Purpose) {low : ℕ} {all : List Event} {rest : List Lexeme} → Walked low all rest → Walked low (seen i p all) rest
filtered i p {low} {all} q = record { high = q.high; in_order = order_seen i p low all q.high q.in_order; apart = q.apart }

texts_apart : (all : List Spelling) (low : ℕ) (rest : List Lexeme) → AreApart low (spelled_texts all rest) → Walked low [] rest
texts_apart [] low rest h = none h
texts_apart (x ∷ all) low rest h = earlier (pass h.0 h.1) (texts_apart all x.to rest h.2)

literal_apart : (all : List Spelling) → all ≢ [] → (low : ℕ) (rest : List Lexeme) → AreApart low (spelled_texts all rest)
    → Walked low (a_literal (first_text all) ∷ []) rest
literal_apart [] n low rest h = absurd (n refl)
literal_apart (x ∷ all) n low rest h =
    let p = texts_apart all x.to rest h.2 in
    let m : x.to ≤ p.high = p.in_order in
    let l = h.1 in
    record { high = p.high; in_order = (h.0, omega (arith, m, l)); apart = p.apart }

consts_apart : (all : List ℕ) (low : ℕ) (rest : List Lexeme) → AreApart low (spelled_consts all rest) → Walked low [] rest
consts_apart [] low rest h = none h
consts_apart (at ∷ all) low rest h = earlier (pass h.0 h.1) (consts_apart all _ rest h.2)

comma_apart : (c : Option ℕ) (low : ℕ) (rest : List Lexeme) → AreApart low (spelled_comma c rest) → Walked low [] rest
comma_apart None low rest h = none h
comma_apart (Some at) low rest h = earlier (pass h.0 h.1) (none h.2)

tag_apart : (x : Option Spelling) (low : ℕ) (rest : List Lexeme) → AreApart low (spelled_tag x rest) → Walked low [] rest
tag_apart None low rest h = none h
tag_apart (Some x) low rest h = earlier (pass h.0 h.1) (none h.2)

enumeration_apart : (u : ℕ → List ℕ) (x : Option Spelling) (right : ℕ) {low : ℕ} {rest : List Lexeme} → Walked low [] rest
    → Walked low (an_enumeration u x right) rest
enumeration_apart u None right p = p
enumeration_apart u (Some x) right p = tagged p

-- the definition of a structure ends at that token
ending : {low a b : ℕ} {tag : List ℕ} {rest : List Lexeme} → low ≤ a → a < b → AreApart b rest → Walked low (an_end tag a ∷ []) rest
ending {low} {a} {b} l m h = record { high = b; in_order = (l, omega (arith, m)); apart = h }

-- a scope begins at that token
naming : {low a b : ℕ} {all : List Event} {rest : List Lexeme} → low ≤ a → a < b → Walked b all rest → Walked low (a_name a ∷ all) rest
naming {low} {a} {b} {all} l m p = record { high = p.high; in_order = (l, order_earlier (suc a) b all p.high (omega (arith, m)) p.in_order); apart = p.apart }

-- ---- the first token of a part

first_of_texts : (all : List Spelling) → all ≢ [] → (low : ℕ) (rest : List Lexeme) → AreApart low (spelled_texts all rest)
    → (low ≤ first_text all) × AreApart (first_text all) (spelled_texts all rest)
first_of_texts [] n low rest h = absurd (n refl)
first_of_texts (x ∷ all) n low rest h = (h.0, (omega arith, h.1, h.2))

first_apart : (types : List (List ℕ)) (a : Trees.Expression) → IsExpression types a → (low : ℕ) (rest : List Lexeme) → AreApart low (spelled a rest)
    → (low ≤ first a) × AreApart (first a) (spelled a rest)
first_apart types (Trees.name x) w low rest h = (h.0, (omega arith, h.1, h.2))
first_apart types (Trees.number x n kind) w low rest h = (h.0, (omega arith, h.1, h.2))
first_apart types (Trees.character x n) w low rest h = (h.0, (omega arith, h.1, h.2))
first_apart types (Trees.texts all) w low rest h = first_of_texts all w low rest h
first_apart types (Trees.paren left a right) w low rest h = (h.0, (omega arith, h.1, h.2))
first_apart types (Trees.index a left b right) w low rest h = first_apart types a w.1 low _ h
first_apart types (Trees.call f left all right) w low rest h = first_apart types f w.1 low _ h
first_apart types (Trees.dot a at x) w low rest h = first_apart types a w.1 low _ h
first_apart types (Trees.arrow a at x) w low rest h = first_apart types a w.1 low _ h
first_apart types (Trees.post a op at) w low rest h = first_apart types a w.1 low _ h
first_apart types (Trees.pre op at a) w low rest h = (h.0, (omega arith, h.1, h.2))
first_apart types (Trees.unary op at a) w low rest h = (h.0, (omega arith, h.1, h.2))
first_apart types (Trees.sizeof_expression at a) w low rest h = (h.0, (omega arith, h.1, h.2))
first_apart types (Trees.sizeof_type at left t right) w low rest h = (h.0, (omega arith, h.1, h.2))
first_apart types (Trees.cast left t right a) w low rest h = (h.0, (omega arith, h.1, h.2))
first_apart types (Trees.binary a op at b) w low rest h = first_apart types a w.2 low _ h
first_apart types (Trees.cond a question b colon c) w low rest h = first_apart types a w.2 low _ h
first_apart types (Trees.assign a op at b) w low rest h = first_apart types a w.2 low _ h
first_apart types (Trees.comma a at b) w low rest h = first_apart types a w.1 low _ h
first_apart types (Trees.braces left all comma right) w low rest h = absurd w

first_declarator_apart : (d : Trees.Declarator) → has_name d ≡ true → (after low : ℕ) (rest : List Lexeme) → AreApart low (spelled_declarator d rest)
    → (low ≤ first_declarator d after) × AreApart (first_declarator d after) (spelled_declarator d rest)
first_declarator_apart Trees.nothing n after low rest h = cc
first_declarator_apart (Trees.named x) n after low rest h = (h.0, (omega arith, h.1, h.2))
first_declarator_apart (Trees.pointer at consts d) n after low rest h = (h.0, (omega arith, h.1, h.2))
first_declarator_apart (Trees.enclosed left d right) n after low rest h = (h.0, (omega arith, h.1, h.2))
first_declarator_apart (Trees.array d left length right) n after low rest h = first_declarator_apart d n left low _ h
first_declarator_apart (Trees.function d left all right) n after low rest h = first_declarator_apart d n left low _ h

-- ---- each part of a tree

module _ (u : ℕ → List ℕ) (types : List (List ℕ)) where
  mutual
    pub walked : (t : Trees.Expression) → IsExpression types t → (low : ℕ) (rest : List Lexeme) → AreApart low (spelled t rest) → Walked low (walk u t) rest
    walked (Trees.name x) w low rest h = let l = h.1 in record { high = x.to; in_order = (h.0, omega (arith, l)); apart = h.2 }
    walked (Trees.number x n kind) w low rest h = earlier (pass h.0 h.1) (none h.2)
    walked (Trees.character x n) w low rest h = earlier (pass h.0 h.1) (none h.2)
    walked (Trees.texts all) w low rest h = literal_apart all w low rest h
    walked (Trees.paren left a right) w low rest h = earlier (pass h.0 h.1) (closed (walked a w _ _ h.2))
    walked (Trees.index a left b right) w low rest h =
        let f = first_apart types a w.1 low _ h in
        let p = walked a w.1 (first a) _ f.1 in
        looking f.0 (both p (earlier (pass p.apart.0 p.apart.1) (closed (walked b w.2 _ _ p.apart.2))))
    walked (Trees.call f left all right) w low rest h =
        let p = walked f w.1 low _ h in
        both p (earlier (pass p.apart.0 p.apart.1) (closed (walked_all true all w.2 _ _ p.apart.2)))
    walked (Trees.dot a at x) w low rest h =
        let p = walked a w.1 low _ h in
        both p (looking p.apart.0 (earlier (less p.apart.1) (earlier (pass p.apart.2.0 p.apart.2.1) (none p.apart.2.2))))
    walked (Trees.arrow a at x) w low rest h =
        let f = first_apart types a w.1 low _ h in
        looking f.0 (closed (closed (walked a w.1 (first a) _ f.1)))
    walked (Trees.post a op at) w low rest h = closed (walked a w.1 low _ h)
    walked (Trees.pre op at a) w low rest h = earlier (pass h.0 h.1) (walked a w.1 _ rest h.2)
    walked (Trees.unary op at a) w low rest h = looking h.0 (earlier (less h.1) (walked a w.1 _ rest h.2))
    walked (Trees.sizeof_expression at a) w low rest h = looking h.0 (earlier (less h.1) (filtered false value_alone (walked a w.1 _ rest h.2)))
    walked (Trees.sizeof_type at left t right) w low rest h =
        let p = walked_type t w _ _ h.2.2 in
        earlier (pass h.0 h.1) (earlier (pass h.2.0 h.2.1) (both p (looking p.apart.0 (earlier (less p.apart.1) (none p.apart.2)))))
    walked (Trees.cast left t right a) w low rest h =
        let p = walked_type t w.1 _ _ h.2 in
        earlier (pass h.0 h.1) (both p (earlier (pass p.apart.0 p.apart.1) (walked a w.2 _ rest p.apart.2)))
    walked (Trees.binary a op at b) w low rest h =
        let f = first_apart types a w.2 low _ h in
        let p = walked a w.2 (first a) _ f.1 in
        looking f.0 (both p (earlier (pass p.apart.0 p.apart.1) (walked b w.3 _ rest p.apart.2)))
    walked (Trees.cond a question b colon c) w low rest h =
        let p = walked a w.2 low _ h in
        let q = both p (earlier (pass p.apart.0 p.apart.1) (walked b w.3 _ _ p.apart.2)) in
        both q (earlier (pass q.apart.0 q.apart.1) (walked c w.4 _ rest q.apart.2))
    walked (Trees.assign a op at b) w low rest h =
        let p = walked a w.2 low _ h in both p (earlier (pass p.apart.0 p.apart.1) (walked b w.3 _ rest p.apart.2))
    walked (Trees.comma a at b) w low rest h =
        let p = walked a w.1 low _ h in both p (earlier (pass p.apart.0 p.apart.1) (walked b w.2 _ rest p.apart.2))
    walked (Trees.braces left all comma right) w low rest h = absurd w

    pub walked_all : (start : Bool) (t : Trees.Arguments) → AreArguments types start t → (low : ℕ) (rest : List Lexeme)
        → AreApart low (spelled_arguments t rest)
        → Walked low (walk_of_all u t) rest
    walked_all start Trees.no_arguments w low rest h = none h
    walked_all start (Trees.and_argument comma a more) w low rest h =
        let c = comma_apart comma low _ h in
        let p = walked a w.2 c.high _ c.apart in
        let l : low ≤ c.high = c.in_order in
        earlier l (both p (walked_all false more w.3 p.high rest p.apart))

    pub walked_if_any : (t : Trees.OptionalExpression) → IsOptional types t → (low : ℕ) (rest : List Lexeme) → AreApart low (spelled_optional t rest)
        → Walked low (walk_if_any u t) rest
    walked_if_any Trees.no_expression w low rest h = none h
    walked_if_any (Trees.some_expression a) w low rest h = filtered false value_alone (walked a w.1 low rest h)

    pub walked_type : (t : Trees.TypeName) → IsTypeName types t → (low : ℕ) (rest : List Lexeme) → AreApart low (spelled_type_name t rest)
        → Walked low (walk_of_type u t) rest
    walked_type (Trees.type_name specs d) w low rest h =
        let p = walked_specifiers specs w.0 low _ h in both p (walked_declarator d w.1 p.high rest p.apart)

    pub walked_specifiers : (t : Trees.Specifiers) → AreSpecifiers types t → (low : ℕ) (rest : List Lexeme) → AreApart low (spelled_specifiers t rest)
        → Walked low (walk_of_specifiers u t) rest
    walked_specifiers Trees.no_specifiers w low rest h = absurd w
    walked_specifiers (Trees.and_specifier s more) w low rest h =
        let p = walked_specifier s w.0 low _ h in both p (walked_more more w.1 p.high rest p.apart)

    walked_more : (t : Trees.Specifiers) → AreMoreSpecifiers types t → (low : ℕ) (rest : List Lexeme) → AreApart low (spelled_specifiers t rest)
        → Walked low (walk_of_specifiers u t) rest
    walked_more Trees.no_specifiers w low rest h = none h
    walked_more (Trees.and_specifier s more) w low rest h =
        let p = walked_specifier s w.0 low _ h in both p (walked_more more w.1 p.high rest p.apart)

    walked_specifier : (t : Trees.Specifier) → IsSpecifier types t → (low : ℕ) (rest : List Lexeme) → AreApart low (spelled_specifier t rest)
        → Walked low (walk_of_specifier u t) rest
    walked_specifier (Trees.plain word at) w low rest h = earlier (pass h.0 h.1) (none h.2)
    walked_specifier (Trees.typename x) w low rest h = let l = h.1 in record { high = x.to; in_order = (h.0, omega (arith, l)); apart = h.2 }
    walked_specifier (Trees.struct_named at x) w low rest h = tagged (earlier (pass h.0 h.1) (earlier (pass h.2.0 h.2.1) (none h.2.2)))
    walked_specifier (Trees.struct_body at x left all right) w low rest h =
        let c = tag_apart x _ _ h.2 in
        let l : at + 6 ≤ c.high = c.in_order in
        let p = walked_members all w.1 _ _ c.apart.2 in
        let e = p.apart.1 in
        tagged (earlier (pass h.0 h.1) (earlier l (earlier (pass c.apart.0 c.apart.1) (both p (ending p.apart.0 p.apart.1 p.apart.2)))))
    walked_specifier (Trees.enum_named at x) w low rest h = earlier (pass h.0 h.1) (earlier (pass h.2.0 h.2.1) (none h.2.2))
    walked_specifier (Trees.enum_body at x left all None right) w low rest h =
        let c = tag_apart x _ _ h.2 in
        let l : at + 4 ≤ c.high = c.in_order in
        let p = walked_enumerators true all w.1 M.CloseBrace right _ _ c.apart.2 in
        earlier (pass h.0 h.1) (earlier l (earlier (pass c.apart.0 c.apart.1) (both p (enumeration_apart u x right (none p.apart)))))
    walked_specifier (Trees.enum_body at x left all (Some comma) right) w low rest h =
        let c = tag_apart x _ _ h.2 in
        let l : at + 4 ≤ c.high = c.in_order in
        let p = walked_enumerators true all w.1 M.Comma comma _ _ c.apart.2 in
        earlier (pass h.0 h.1) (earlier l (earlier (pass c.apart.0 c.apart.1)
        (both p (enumeration_apart u x right (earlier (pass p.apart.0 p.apart.1) (none p.apart.2))))))

    pub walked_members : (t : Trees.MemberDeclarations) → AreMemberDeclarations types t → (low : ℕ) (rest : List Lexeme)
        → AreApart low (spelled_member_declarations t rest) → Walked low (walk_of_members u t) rest
    walked_members Trees.no_member_declarations w low rest h = none h
    walked_members (Trees.and_member_declaration specs all semicolon more) w low rest h =
        let p = walked_specifiers specs w.0 low _ h in
        let q = both p (walked_member_declarators true all w.2 semicolon p.high _ p.apart) in
        both q (earlier (pass q.apart.0 q.apart.1) (walked_members more w.3 _ rest q.apart.2))

    walked_member_declarators : (start : Bool) (t : Trees.MemberDeclarators) → AreMemberDeclarators types start t
        → (semicolon : ℕ) (low : ℕ) (rest : List Lexeme)
        → AreApart low (spelled_member_declarators t rest) → Walked low (walk_of_member_declarators u t semicolon) rest
    walked_member_declarators start Trees.no_member_declarators w semicolon low rest h = none h
    walked_member_declarators start (Trees.and_member_declarator comma d more) w semicolon low rest h =
        let c = comma_apart comma low _ h in
        let l : low ≤ c.high = c.in_order in
        let f = first_declarator_apart d w.2 semicolon c.high _ c.apart in
        let p = walked_declarator d w.1 (first_declarator d semicolon) _ f.1 in
        earlier l (looking f.0 (both p (walked_member_declarators false more w.3 semicolon p.high rest p.apart)))

    -- with the token after them, where the scope of the last begins
    walked_enumerators : (start : Bool) (t : Trees.Enumerators) → AreEnumerators types start t → (m : Punctuator) (at : ℕ) (low : ℕ) (rest : List Lexeme)
        → AreApart low (spelled_enumerators t (punctuator m at ∷ rest)) → Walked low (walk_of_enumerators u t at) rest
    walked_enumerators start Trees.no_enumerators w m at low rest h = earlier (pass h.0 h.1) (none h.2)
    walked_enumerators start (Trees.and_enumerator comma x value more) w m at low rest h =
        let c = comma_apart comma low _ h in
        let l : low ≤ c.high = c.in_order in
        let p = walked_value value w.2 _ _ c.apart.2 in
        earlier l (earlier (pass c.apart.0 c.apart.1) (both p (walked_behind more w.3 m at p.high rest p.apart)))

    -- what stands behind an enumerator
    walked_behind : (t : Trees.Enumerators) → AreEnumerators types false t → (m : Punctuator) (at : ℕ) (low : ℕ) (rest : List Lexeme)
        → AreApart low (spelled_enumerators t (punctuator m at ∷ rest)) → Walked low (a_name (comma_or t at) ∷ walk_of_enumerators u t at) rest
    walked_behind Trees.no_enumerators w m at low rest h = naming h.0 h.1 (none h.2)
    walked_behind (Trees.and_enumerator None x value more) w m at low rest h = cc
    walked_behind (Trees.and_enumerator (Some comma) x value more) w m at low rest h =
        let p = walked_value value w.2 _ _ h.2.2 in
        naming h.0 h.1 (earlier (pass h.2.0 h.2.1) (both p (walked_behind more w.3 m at p.high rest p.apart)))

    walked_value : (t : Trees.EnumeratorValue) → IsEnumeratorValue types t → (low : ℕ) (rest : List Lexeme) → AreApart low (spelled_enumerator_value t rest)
        → Walked low (walk_of_value u t) rest
    walked_value Trees.no_value w low rest h = none h
    walked_value (Trees.valued equal a) w low rest h = earlier (pass h.0 h.1) (filtered false value_alone (walked a w.1 _ rest h.2))

    pub walked_declarator : (t : Trees.Declarator) → IsDeclarator types t → (low : ℕ) (rest : List Lexeme) → AreApart low (spelled_declarator t rest)
        → Walked low (walk_of_declarator u t) rest
    walked_declarator Trees.nothing w low rest h = none h
    walked_declarator (Trees.named x) w low rest h = earlier (pass h.0 h.1) (none h.2)
    walked_declarator (Trees.pointer at consts d) w low rest h =
        let c = consts_apart consts _ _ h.2 in
        let l : at + 1 ≤ c.high = c.in_order in
        earlier (pass h.0 h.1) (earlier l (walked_declarator d w c.high rest c.apart))
    walked_declarator (Trees.enclosed left d right) w low rest h = earlier (pass h.0 h.1) (closed (walked_declarator d w.1 _ _ h.2))
    walked_declarator (Trees.array d left bound right) w low rest h =
        let p = walked_declarator d w.1 low _ h in
        both p (looking p.apart.0 (earlier (less p.apart.1) (closed (walked_if_any bound w.2 _ _ p.apart.2))))
    walked_declarator (Trees.function d left all right) w low rest h =
        let p = walked_declarator d w.1 low _ h in
        both p (earlier (pass p.apart.0 p.apart.1) (filtered true in_full (closed (walked_parameter_list all w.2 _ _ p.apart.2))))

    walked_parameter_list : (t : Trees.ParameterList) → IsParameterList types t → (low : ℕ) (rest : List Lexeme)
        → AreApart low (spelled_parameter_list t rest) → Walked low (walk_of_parameter_list u t) rest
    walked_parameter_list (Trees.void_alone at) w low rest h = earlier (pass h.0 h.1) (none h.2)
    walked_parameter_list (Trees.listed all) w low rest h = walked_parameters true all w.1 low rest h

    walked_parameters : (start : Bool) (t : Trees.Parameters) → AreParameters types start t → (low : ℕ) (rest : List Lexeme)
        → AreApart low (spelled_parameters t rest) → Walked low (walk_of_parameters u t) rest
    walked_parameters start Trees.no_parameters w low rest h = none h
    walked_parameters start (Trees.and_parameter comma specs d more) w low rest h =
        let c = comma_apart comma low _ h in
        let l : low ≤ c.high = c.in_order in
        let p = walked_specifiers specs w.1 c.high _ c.apart in
        let q = both p (walked_declarator d w.2 p.high _ p.apart) in
        earlier l (both q (walked_parameters false more w.3 q.high rest q.apart))
