-- In a well formed tree, whose tokens come one after the other, a record is known where a byte asks for it.
use Rattle.std.proofs.Common.{◌≡◌, ℕ, ◌+◌, Bool, true, false, refl, ◌∙◌, subst, List, [], ◌∷◌, ◌++◌, arith, length}
use Rattle.std.specs.Prelude.{Option, Some, None}
use Rattle.lay_base.specs.declared.faults.Keyword.TheVariants as W
use Rattle.c_tokens.specs.declared.token.TokenKind.TheVariants as K
use Rattle.c_tokens.specs.declared.punctuator.Punctuator.{Punctuator}
use Rattle.c_tokens.specs.declared.punctuator.Punctuator.TheVariants as M
use Rattle.c_tokens.specs.Punctuators.{punctuator_text}
use Rattle.c_ast.specs.declared.words.Spelling.{Spelling}
use Rattle.c_ast.specs.Trees
use Rattle.c_ast.specs.Places.{begins_at, first, first_declarator}
use Rattle.c_ast.specs.Laws.{TreesBeginFirst}
use Rattle.c_ast.specs.Spelling.{Lexeme, step_punctuator, binary_punctuator, assign_punctuator}
use Rattle.c_ast.specs.Spelling.{punctuator, keyword, word, spelled, spelled_arguments, spelled_optional, spelled_type_name, spelled_specifiers}
use Rattle.c_ast.specs.Spelling.{spelled_specifier, spelled_member_declarations, spelled_member_declarators, spelled_enumerators}
use Rattle.c_ast.specs.Spelling.{spelled_enumerator_value, spelled_declarator, spelled_parameter_list, spelled_parameters}
use Rattle.c_ast.specs.WellFormed.{has_name, IsExpression, AreArguments, IsOptional, IsTypeName, AreSpecifiers, AreMoreSpecifiers, IsSpecifier}
use Rattle.c_ast.specs.WellFormed.{AreMemberDeclarations, AreMemberDeclarators, AreEnumerators, IsEnumeratorValue, IsDeclarator, IsParameterList, AreParameters}
use Rattle.c_erasure.specs.Declarators.{declared_name}
use Rattle.c_erasure.specs.Erasure.{comma_or}
use Rattle.c_erasure.specs.Scopes.{Tag}
use Rattle.c_erasure.specs.Marks as Marks
use Rattle.c_erasure.specs.Marks.{Mark, a_tag, a_name, an_end, marks, marks_of_all, marks_if_any, marks_of_type, marks_of_specifiers, marks_of_specifier}
use Rattle.c_erasure.specs.Marks.{marks_of_members, marks_of_member_declarators, marks_of_enumerators, marks_of_value, marks_of_declarator, an_enumeration}
use Rattle.c_erasure.specs.MarkPlaces.Places.{AreOrdered, Along}
use Rattle.c_erasure.proofs.MarkPlaces.Walks as Walks
use Rattle.c_erasure.proofs.MarkPlaces.Walks.{none, skip, both, before, after, bare, comma_along, tag_along, consts_along}
use Rattle.c_erasure.proofs.MarkPlaces.Ordered.{ends_between}
use Rattle.c_erasure.proofs.MarkPlaces.MarksOfParts.{along, arguments_along, optional_along, type_name_along, specifiers_along, more_specifiers_along}
use Rattle.c_erasure.proofs.MarkPlaces.MarksOfParts.{members_along, member_declarators_along, after_enumerator, value_along, declarator_along}
use Rattle.c_erasure.proofs.MarkPlaces.MarksOfParts.{parameter_list_along, parameters_along}
use Rattle.c_checking_laws.proofs.Agreement.{added}
use Rattle.c_checking_laws.proofs.FaultPremises.{IsTimely, AreTimely, IsTypeTimely, AreSpecifiersTimely, IsSpecifierTimely, AreMembersTimely}
use Rattle.c_checking_laws.proofs.FaultPremises.{AreDeclaratorsTimely}
use Rattle.c_checking_laws.proofs.FaultPremises.{AreEnumeratorsTimely, IsValueTimely, IsDeclaratorTimely, IsLengthTimely, IsListTimely, AreParametersTimely}
use Rattle.c_checking_laws.proofs.FaultPremises.{AreKnown}
use Rattle.c_checking_laws.proofs.Ahead.{Ahead, Standing, standing_left, standing_right, known, earlier, back, ahead_same, added_both}

-- ---- declarators that have names

name_of : (d : Trees.Declarator) → has_name d ≡ true → (x : Spelling) × (declared_name d ≡ Some x)
name_of Trees.nothing h = cc
name_of (Trees.named x) h = (x, refl)
name_of (Trees.pointer at consts d) h = name_of d h
name_of (Trees.enclosed left d right) h = name_of d h
name_of (Trees.array d left n right) h = name_of d h
name_of (Trees.function d left all right) h = name_of d h

begins_alike : (d : Trees.Declarator) → has_name d ≡ true → (p q : ℕ) → first_declarator d p ≡ first_declarator d q
begins_alike Trees.nothing h p q = cc
begins_alike (Trees.named x) h p q = refl
begins_alike (Trees.pointer at consts d) h p q = refl
begins_alike (Trees.enclosed left d right) h p q = refl
begins_alike (Trees.array d left n right) h p q = refl
begins_alike (Trees.function d left all right) h p q = refl

from_first : (from : ℕ) (tokens : List Lexeme) → AreOrdered from tokens → AreOrdered (begins_at tokens) tokens
from_first from [] o = tt
from_first from (t ∷ tokens) o = (omega arith, o.1, o.2)

module _ (untagged : ℕ → List ℕ) (types : List (List ℕ)) (ends : List ℕ) (law : TreesBeginFirst) where
  -- the tokens behind a part
  behind_part : {u : List Mark} {tokens rest : List Lexeme} (from : ℕ) → Along u tokens rest → AreOrdered from tokens → (to : ℕ) × AreOrdered to rest
  behind_part from a o = let b = ends_between from a o in (b.to, b.ordered)

  halves : (i : Bool) (n : ℕ) (u v : List Mark) (rest : List Lexeme) → Ahead ends (n + added i (u ++ v)) rest → Ahead ends (n + added i u + added i v) rest
  halves i n u v rest h = ahead_same ends (n + added i (u ++ v)) (n + added i u + added i v) rest (let e = added_both i u v in omega (arith, e)) h

  known_here : (n : ℕ) (t : Lexeme) (rest : List Lexeme) → Ahead ends n (t ∷ rest) → (from : ℕ) → AreOrdered from (t ∷ rest) → AreKnown untagged ends n t.from
  known_here n t rest h from o = known ends n t.from (t ∷ rest) h (omega arith, o.1, o.2)

  ahead_of : (n : ℕ) (t : Lexeme) (rest : List Lexeme) → Ahead ends n rest → Ahead ends n (t ∷ rest)
  ahead_of n t rest h = earlier ends n (skip {t = t} (none {rest = rest})) h

  -- before a part
  module _ (i : Bool) (n : ℕ) (rest : List Lexeme) where
    back_expression : (a : Trees.Expression) → IsExpression types a → Standing ends i n (marks untagged a) → Ahead ends (n + added i (marks untagged a)) rest
        → Ahead ends n (spelled a rest)
    back_expression a w st h = back ends i n (along untagged types a w {rest = rest}) st h

    back_arguments : (b : Bool) (all : Trees.Arguments) → AreArguments types b all → Standing ends i n (marks_of_all untagged all)
        → Ahead ends (n + added i (marks_of_all untagged all)) rest → Ahead ends n (spelled_arguments all rest)
    back_arguments b all w st h = back ends i n (arguments_along untagged types b all w {rest = rest}) st h

    back_declarator : (d : Trees.Declarator) → IsDeclarator types d → Standing ends i n (marks_of_declarator untagged d)
        → Ahead ends (n + added i (marks_of_declarator untagged d)) rest → Ahead ends n (spelled_declarator d rest)
    back_declarator d w st h = back ends i n (declarator_along untagged types d w {rest = rest}) st h

    back_more : (more : Trees.Specifiers) → AreMoreSpecifiers types more → Standing ends i n (marks_of_specifiers untagged more)
        → Ahead ends (n + added i (marks_of_specifiers untagged more)) rest → Ahead ends n (spelled_specifiers more rest)
    back_more more w st h = back ends i n (more_specifiers_along untagged types more w {rest = rest}) st h

    back_declarators : (b : Bool) (ds : Trees.MemberDeclarators) → AreMemberDeclarators types b ds → Standing ends i n (marks_of_member_declarators untagged ds)
        → Ahead ends (n + added i (marks_of_member_declarators untagged ds)) rest → Ahead ends n (spelled_member_declarators ds rest)
    back_declarators b ds w st h = back ends i n (member_declarators_along untagged types b ds w {rest = rest}) st h

    back_members : (all : Trees.MemberDeclarations) → AreMemberDeclarations types all → Standing ends i n (marks_of_members untagged all)
        → Ahead ends (n + added i (marks_of_members untagged all)) rest → Ahead ends n (spelled_member_declarations all rest)
    back_members all w st h = back ends i n (members_along untagged types all w {rest = rest}) st h

    back_length : (a : Trees.OptionalExpression) → IsOptional types a → Standing ends i n (marks_if_any untagged a)
        → Ahead ends (n + added i (marks_if_any untagged a)) rest → Ahead ends n (spelled_optional a rest)
    back_length a w st h = back ends i n (optional_along untagged types a w {rest = rest}) st h

  tag_adds_nothing : (i : Bool) (t : Tag) (u : List Mark) → added i (a_tag t ∷ u) ≡ added i u
  tag_adds_nothing true t u = refl
  tag_adds_nothing false t u = refl

  name_adds_nothing : (i : Bool) (from : ℕ) (u : List Mark) → added i (a_name from ∷ u) ≡ added i u
  name_adds_nothing true from u = refl
  name_adds_nothing false from u = refl

  enumeration_adds_nothing : (i : Bool) (x : Option Spelling) (right : ℕ) → added i (an_enumeration untagged x right) ≡ 0
  enumeration_adds_nothing true x right = refl
  enumeration_adds_nothing false None right = refl
  enumeration_adds_nothing false (Some x) right = refl

  -- the tag of a definition
  abbrev own_tag : ℕ → Option Spelling → Tag
  own_tag at x = record {
    name = Marks.tag_name untagged at x;
    place = Marks.tag_place untagged at x;
    from = Marks.tag_place untagged at x;
    is_enumeration = false;
  }

  -- the brace at which a definition ends
  closes : (tag : List ℕ) (right : ℕ) (rest : List Lexeme) → Along (an_end tag right ∷ []) (punctuator M.CloseBrace right ∷ rest) rest
  closes tag right rest = Walks.ends refl none

  inside_same : (u : List Mark) (n : ℕ) (rest : List Lexeme) → Ahead ends n rest → Ahead ends (n + added true u) rest
  inside_same u n rest h = ahead_same ends n (n + added true u) rest (omega arith) h

  as_more : (specs : Trees.Specifiers) → AreSpecifiers types specs → AreMoreSpecifiers types specs
  as_more Trees.no_specifiers w = absurd w
  as_more (Trees.and_specifier s more) w = w

  mutual
    pub timely : (i : Bool) (n : ℕ) (a : Trees.Expression) → IsExpression types a → (from : ℕ) (rest : List Lexeme) → AreOrdered from (spelled a rest)
        → Standing ends i n (marks untagged a) → Ahead ends (n + added i (marks untagged a)) rest → IsTimely untagged ends i n a
    timely i n (Trees.name x) w f rest o st h = tt
    timely i n (Trees.number x v kind) w f rest o st h = tt
    timely i n (Trees.character x v) w f rest o st h = tt
    timely i n (Trees.texts all) w f rest o st h = tt
    timely i n (Trees.paren left a right) w f rest o st h =
        timely i n a w _ _ o.2 st (ahead_of (n + added i (marks untagged a)) (punctuator M.Close right) rest h)
    timely i n (Trees.index a left b right) w f rest o st h =
        let u = marks untagged a in
        let v = marks untagged b in
        let close = punctuator M.CloseSquare right in
        let hb = ahead_of (n + added i u + added i v) close rest (halves i n u v rest h) in
        let sb = standing_right ends i n u v st in
        let ha = ahead_of (n + added i u) (punctuator M.OpenSquare left) (spelled b (close ∷ rest))
        (back_expression i (n + added i u) (close ∷ rest) b w.2 sb hb) in
        let c = behind_part f (along untagged types a w.1) o in
        (timely i n a w.1 f _ o (standing_left ends i n u v st) ha, timely i (n + added i u) b w.2 _ (close ∷ rest) c.1.2 sb hb)
    timely i n (Trees.call g left all right) w f rest o st h =
        let u = marks untagged g in
        let v = marks_of_all untagged all in
        let close = punctuator M.Close right in
        let hb = ahead_of (n + added i u + added i v) close rest (halves i n u v rest h) in
        let sb = standing_right ends i n u v st in
        let ha = ahead_of (n + added i u) (punctuator M.Open left) (spelled_arguments all (close ∷ rest))
        (back_arguments i (n + added i u) (close ∷ rest) true all w.2 sb hb) in
        let c = behind_part f (along untagged types g w.1) o in
        (timely i n g w.1 f _ o (standing_left ends i n u v st) ha, timely_all i (n + added i u) true all w.2 _ (close ∷ rest) c.1.2 sb hb)
    timely i n (Trees.dot a at x) w f rest o st h =
        let m = n + added i (marks untagged a) in
        let ha = ahead_of m (punctuator M.Dot at) (word K.Name x ∷ rest) (ahead_of m (word K.Name x) rest h) in
        let c = behind_part f (along untagged types a w.1) o in
        (timely i n a w.1 f _ o st ha, known_here m (punctuator M.Dot at) (word K.Name x ∷ rest) ha c.0 c.1)
    timely i n (Trees.arrow a at x) w f rest o st h =
        let m = n + added i (marks untagged a) in
        let tokens : List Lexeme = punctuator M.Arrow at ∷ word K.Name x ∷ rest in
        let ha : Ahead ends m tokens = ahead_of m (punctuator M.Arrow at) (word K.Name x ∷ rest) (ahead_of m (word K.Name x) rest h) in
        let hw = earlier ends m (along untagged types a w.1 {rest = tokens}) ha in
        let ow = subst (λ at. AreOrdered at (spelled a tokens)) (law.of_expression types a w.1 tokens) (from_first f (spelled a tokens) o) in
        (timely i n a w.1 f tokens o st ha, known ends m (first a) (spelled a tokens) hw ow)
    timely i n (Trees.post a op at) w f rest o st h =
        timely i n a w.1 f _ o st (ahead_of (n + added i (marks untagged a)) (punctuator (step_punctuator op) at) rest h)
    timely i n (Trees.pre op at a) w f rest o st h = timely i n a w.1 _ rest o.2 st h
    timely i n (Trees.unary op at a) w f rest o st h = timely i n a w.1 _ rest o.2 st h
    timely i n (Trees.sizeof_expression at a) w f rest o st h =
        let m = n + added i (marks untagged a) in
        let hw = ahead_of m (keyword W.Sizeof at) (spelled a rest) (earlier ends m (along untagged types a w.1 {rest = rest}) h) in
        (timely i n a w.1 _ rest o.2 st h, known_here m (keyword W.Sizeof at) (spelled a rest) hw f o)
    timely i n (Trees.sizeof_type at left t right) w f rest o st h =
        let m = n + added i (marks_of_type untagged t) in
        let close = punctuator M.Close right in
        let hw = ahead_of m close rest h in
        let c = behind_part _ (type_name_along untagged types t w) o.2.2 in
        (timely_type i n t w _ (close ∷ rest) o.2.2 st hw, known_here m close rest hw c.0 c.1)
    timely i n (Trees.cast left t right a) w f rest o st h =
        let u = marks_of_type untagged t in
        let v = marks untagged a in
        let hb = halves i n u v rest h in
        let sb = standing_right ends i n u v st in
        let ha = ahead_of (n + added i u) (punctuator M.Close right) (spelled a rest) (back_expression i (n + added i u) rest a w.2 sb hb) in
        let c = behind_part _ (type_name_along untagged types t w.1) o.2 in
        (timely_type i n t w.1 _ _ o.2 (standing_left ends i n u v st) ha, timely i (n + added i u) a w.2 _ rest c.1.2 sb hb)
    timely i n (Trees.binary a op at b) w f rest o st h =
        let u = marks untagged a in
        let v = marks untagged b in
        let hb = halves i n u v rest h in
        let sb = standing_right ends i n u v st in
        let ha = ahead_of (n + added i u) (punctuator (binary_punctuator op) at) (spelled b rest) (back_expression i (n + added i u) rest b w.3 sb hb) in
        let c = behind_part f (along untagged types a w.2) o in
        (timely i n a w.2 f _ o (standing_left ends i n u v st) ha, timely i (n + added i u) b w.3 _ rest c.1.2 sb hb)
    timely i n (Trees.cond a question b colon d) w f rest o st h =
        let u = marks untagged a in
        let v = marks untagged b in
        let k = marks untagged d in
        let m = n + added i u + added i v in
        let hd = ahead_same ends (n + added i (u ++ v) + added i k) (m + added i k) rest (let e = added_both i u v in omega (arith, e))
        (halves i n (u ++ v) k rest h) in
        let sd = subst (λ m. Standing ends i m k) (let e = added_both i u v in let q : n + added i (u ++ v) ≡ m = omega (arith, e) in q)
        (standing_right ends i n (u ++ v) k st) in
        let two = standing_left ends i n (u ++ v) k st in
        let third : List Lexeme = punctuator M.Colon colon ∷ spelled d rest in
        let hb : Ahead ends m third = ahead_of m (punctuator M.Colon colon) (spelled d rest) (back_expression i m rest d w.4 sd hd) in
        let sb = standing_right ends i n u v two in
        let ha = ahead_of (n + added i u) (punctuator M.Question question) (spelled b third) (back_expression i (n + added i u) third b w.3 sb hb) in
        let c = behind_part f (along untagged types a w.2) o in
        let e = behind_part _ (along untagged types b w.3) c.1.2 in
        (timely i n a w.2 f _ o (standing_left ends i n u v two) ha, timely i (n + added i u) b w.3 _ _ c.1.2 sb hb, timely i m d w.4 _ rest e.1.2 sd hd)
    timely i n (Trees.assign a op at b) w f rest o st h =
        let u = marks untagged a in
        let v = marks untagged b in
        let hb = halves i n u v rest h in
        let sb = standing_right ends i n u v st in
        let ha = ahead_of (n + added i u) (punctuator (assign_punctuator op) at) (spelled b rest) (back_expression i (n + added i u) rest b w.3 sb hb) in
        let c = behind_part f (along untagged types a w.2) o in
        (timely i n a w.2 f _ o (standing_left ends i n u v st) ha, timely i (n + added i u) b w.3 _ rest c.1.2 sb hb)
    timely i n (Trees.comma a at b) w f rest o st h =
        let u = marks untagged a in
        let v = marks untagged b in
        let hb = halves i n u v rest h in
        let sb = standing_right ends i n u v st in
        let ha = ahead_of (n + added i u) (punctuator M.Comma at) (spelled b rest) (back_expression i (n + added i u) rest b w.2 sb hb) in
        let c = behind_part f (along untagged types a w.1) o in
        (timely i n a w.1 f _ o (standing_left ends i n u v st) ha, timely i (n + added i u) b w.2 _ rest c.1.2 sb hb)
    timely i n (Trees.braces left all comma right) w f rest o st h = tt

    pub timely_all : (i : Bool) (n : ℕ) (b : Bool) (all : Trees.Arguments) → AreArguments types b all → (from : ℕ) (rest : List Lexeme)
        → AreOrdered from (spelled_arguments all rest) → Standing ends i n (marks_of_all untagged all)
        → Ahead ends (n + added i (marks_of_all untagged all)) rest → AreTimely untagged ends i n all
    timely_all i n b Trees.no_arguments w f rest o st h = tt
    timely_all i n b (Trees.and_argument comma a more) w f rest o st h =
        let u = marks untagged a in
        let v = marks_of_all untagged more in
        let hb = halves i n u v rest h in
        let sb = standing_right ends i n u v st in
        let ha = back_arguments i (n + added i u) rest false more w.3 sb hb in
        let d = behind_part f (comma_along comma) o in
        let c = behind_part _ (along untagged types a w.2) d.1 in
        (timely i n a w.2 _ _ d.1 (standing_left ends i n u v st) ha, timely_all i (n + added i u) false more w.3 _ rest c.1 sb hb)

    pub timely_type : (i : Bool) (n : ℕ) (m : Trees.TypeName) → IsTypeName types m → (from : ℕ) (rest : List Lexeme)
        → AreOrdered from (spelled_type_name m rest)
        → Standing ends i n (marks_of_type untagged m) → Ahead ends (n + added i (marks_of_type untagged m)) rest → IsTypeTimely untagged ends i n m
    timely_type i n (Trees.type_name specs d) w f rest o st h =
        let u = marks_of_specifiers untagged specs in
        let v = marks_of_declarator untagged d in
        let hb = halves i n u v rest h in
        let sb = standing_right ends i n u v st in
        let ha = back_declarator i (n + added i u) rest d w.1 sb hb in
        let c = behind_part f (specifiers_along untagged types specs w.0) o in
        (timely_more i n specs (as_more specs w.0) f _ o (standing_left ends i n u v st) ha, timely_declarator i (n + added i u) d w.1 _ rest c.1 sb hb)

    pub timely_more : (i : Bool) (n : ℕ) (specs : Trees.Specifiers) → AreMoreSpecifiers types specs → (from : ℕ) (rest : List Lexeme)
        → AreOrdered from (spelled_specifiers specs rest) → Standing ends i n (marks_of_specifiers untagged specs)
        → Ahead ends (n + added i (marks_of_specifiers untagged specs)) rest → AreSpecifiersTimely untagged ends i n specs
    timely_more i n Trees.no_specifiers w f rest o st h = tt
    timely_more i n (Trees.and_specifier (Trees.plain kind at) more) w f rest o st h = timely_more i n more w.1 _ rest o.2 st h
    timely_more i n (Trees.and_specifier (Trees.typename x) more) w f rest o st h = tt
    timely_more i n (Trees.and_specifier (Trees.struct_named at x) more) w f rest o st h = tt
    timely_more i n (Trees.and_specifier (Trees.enum_named at x) more) w f rest o st h = tt
    timely_more i n (Trees.and_specifier (Trees.struct_body at x left all right) more) w f rest o st h =
        let u = marks_of_specifier untagged (Trees.struct_body at x left all right) in
        let v = marks_of_specifiers untagged more in
        let hb = halves i n u v rest h in
        let ha = back_more i (n + added i u) rest more w.1 (standing_right ends i n u v st) hb in
        timely_specifier i n (Trees.struct_body at x left all right) w.0 f (spelled_specifiers more rest) o (standing_left ends i n u v st) ha
    timely_more i n (Trees.and_specifier (Trees.enum_body at x left all comma right) more) w f rest o st h =
        let u = marks_of_specifier untagged (Trees.enum_body at x left all comma right) in
        let v = marks_of_specifiers untagged more in
        let hb = halves i n u v rest h in
        let ha = back_more i (n + added i u) rest more w.1 (standing_right ends i n u v st) hb in
        timely_specifier i n (Trees.enum_body at x left all comma right) w.0 f (spelled_specifiers more rest) o (standing_left ends i n u v st) ha

    pub timely_specifier : (i : Bool) (n : ℕ) (s : Trees.Specifier) → IsSpecifier types s → (from : ℕ) (rest : List Lexeme)
        → AreOrdered from (spelled_specifier s rest) → Standing ends i n (marks_of_specifier untagged s)
        → Ahead ends (n + added i (marks_of_specifier untagged s)) rest → IsSpecifierTimely untagged ends i n s
    timely_specifier i n (Trees.plain kind at) w f rest o st h = tt
    timely_specifier i n (Trees.typename x) w f rest o st h = tt
    timely_specifier i n (Trees.struct_named at x) w f rest o st h = tt
    timely_specifier i n (Trees.struct_body at x left all right) w f rest o st h =
        let u = marks_of_members untagged all in
        let t = own_tag at x in
        let own : List Mark = an_end (Marks.tag_name untagged at x) right ∷ [] in
        let hk = ahead_same ends (n + added i (a_tag t ∷ (u ++ own))) (n + added i u + added i own) rest
        (let e = tag_adds_nothing i t (u ++ own) in let g = added_both i u own in omega (arith, e, g)) h in
        let sk = standing_right ends i n u own st in
        let ha = back ends i (n + added i u) (closes (Marks.tag_name untagged at x) right rest) sk hk in
        let c = behind_part _ (tag_along x) o.2 in
        timely_members i n all w.1 _ _ c.1.2 (standing_left ends i n u own st) ha
    timely_specifier i n (Trees.enum_named at x) w f rest o st h = tt
    timely_specifier i n (Trees.enum_body at x left all None right) w f rest o st h =
        let u = marks_of_enumerators untagged all right in
        let v = an_enumeration untagged x right in
        let hk = ahead_same ends (n + added i u + added i v) (n + added i u) rest (let e = enumeration_adds_nothing i x right in omega (arith, e))
        (halves i n u v rest h) in
        let c = behind_part _ (tag_along x) o.2 in
        timely_enumerators i n true all w.1 M.CloseBrace right refl _ rest c.1.2 (standing_left ends i n u v st) hk
    timely_specifier i n (Trees.enum_body at x left all (Some comma) right) w f rest o st h =
        let u = marks_of_enumerators untagged all comma in
        let v = an_enumeration untagged x right in
        let close = punctuator M.CloseBrace right in
        let hk = ahead_same ends (n + added i u + added i v) (n + added i u) rest (let e = enumeration_adds_nothing i x right in omega (arith, e))
        (halves i n u v rest h) in
        let c = behind_part _ (tag_along x) o.2 in
        timely_enumerators i n true all w.1 M.Comma comma refl _ (close ∷ rest) c.1.2 (standing_left ends i n u v st) (ahead_of (n + added i u) close rest hk)

    pub timely_members : (i : Bool) (n : ℕ) (all : Trees.MemberDeclarations) → AreMemberDeclarations types all → (from : ℕ) (rest : List Lexeme)
        → AreOrdered from (spelled_member_declarations all rest) → Standing ends i n (marks_of_members untagged all)
        → Ahead ends (n + added i (marks_of_members untagged all)) rest → AreMembersTimely untagged ends i n all
    timely_members i n Trees.no_member_declarations w f rest o st h = tt
    timely_members i n (Trees.and_member_declaration specs ds semicolon more) w f rest o st h =
        let u = marks_of_specifiers untagged specs in
        let v = marks_of_member_declarators untagged ds in
        let k = marks_of_members untagged more in
        let m = n + added i u + added i v in
        let semi = punctuator M.Semicolon semicolon in
        let hd = ahead_same ends (n + added i (u ++ v) + added i k) (m + added i k) rest (let e = added_both i u v in omega (arith, e))
        (halves i n (u ++ v) k rest h) in
        let sd = subst (λ m. Standing ends i m k) (let e = added_both i u v in let q : n + added i (u ++ v) ≡ m = omega (arith, e) in q)
        (standing_right ends i n (u ++ v) k st) in
        let two = standing_left ends i n (u ++ v) k st in
        let hb = ahead_of m semi (spelled_member_declarations more rest) (back_members i m rest more w.3 sd hd) in
        let sb = standing_right ends i n u v two in
        let ha = back_declarators i (n + added i u) _ true ds w.2 sb hb in
        let c = behind_part f (specifiers_along untagged types specs w.0) o in
        let e = behind_part _ (member_declarators_along untagged types true ds w.2) c.1 in (
          timely_more i n specs (as_more specs w.0) f _ o (standing_left ends i n u v two) ha,
          timely_declarators i (n + added i u) true ds semicolon w.2 _ _ c.1 sb hb,
          timely_members i m more w.3 _ rest e.1.2 sd hd,
        )

    pub timely_declarators : (i : Bool) (n : ℕ) (b : Bool) (ds : Trees.MemberDeclarators) (semicolon : ℕ) → AreMemberDeclarators types b ds → (from : ℕ)
        (rest : List Lexeme) → AreOrdered from (spelled_member_declarators ds rest) → Standing ends i n (marks_of_member_declarators untagged ds)
        → Ahead ends (n + added i (marks_of_member_declarators untagged ds)) rest → AreDeclaratorsTimely untagged ends i n ds semicolon
    timely_declarators i n b Trees.no_member_declarators semicolon w f rest o st h = tt
    timely_declarators i n b (Trees.and_member_declarator comma d more) semicolon w f rest o st h =
        let u = marks_of_declarator untagged d in
        let v = marks_of_member_declarators untagged more in
        let after = spelled_member_declarators more rest in
        let hb = halves i n u v rest h in
        let sb = standing_right ends i n u v st in
        let ha = back_declarators i (n + added i u) rest false more w.3 sb hb in
        let p = behind_part f (comma_along comma) o in
        let hw = earlier ends (n + added i u) (declarator_along untagged types d w.1 {rest = after}) ha in
        let place = law.of_declarator d after ∙ begins_alike d w.2 (begins_at after) semicolon in
        let ow = subst (λ at. AreOrdered at (spelled_declarator d after)) place (from_first p.0 (spelled_declarator d after) p.1) in
        let c = behind_part p.0 (declarator_along untagged types d w.1) p.1 in (
          timely_declarator i n d w.1 p.0 after p.1 (standing_left ends i n u v st) ha,
          known ends (n + added i u) (first_declarator d semicolon) (spelled_declarator d after) hw ow,
          name_of d w.2,
          timely_declarators i (n + added i u) false more semicolon w.3 _ rest c.1 sb hb,
        )

    -- `m` stands after them, at `at`
    pub timely_enumerators : (i : Bool) (n : ℕ) (b : Bool) (all : Trees.Enumerators) → AreEnumerators types b all → (m : Punctuator) (at : ℕ)
        → length (punctuator_text m) ≡ 1 → (from : ℕ) (rest : List Lexeme) → AreOrdered from (spelled_enumerators all (punctuator m at ∷ rest))
        → Standing ends i n (marks_of_enumerators untagged all at) → Ahead ends (n + added i (marks_of_enumerators untagged all at)) rest
        → AreEnumeratorsTimely untagged ends i n all
    timely_enumerators i n b Trees.no_enumerators w m at long f rest o st h = tt
    timely_enumerators i n b (Trees.and_enumerator comma x value more) w m at long f rest o st h =
        let u = marks_of_value untagged value in
        let k = marks_of_enumerators untagged more at in
        let v : List Mark = a_name (comma_or more at) ∷ k in
        let hb = halves i n u v rest h in
        let sb = standing_right ends i n u v st in
        let ha = back ends i (n + added i u) (after_enumerator untagged types more w.3 m at long {rest = rest}) sb hb in
        let p = behind_part f (comma_along comma) o in
        let c = behind_part _ (value_along untagged types value w.2) p.1.2 in
        let hk = ahead_same ends (n + added i u + added i v) (n + added i u + added i k) rest
        (let e = name_adds_nothing i (comma_or more at) k in omega (arith, e)) hb in (
          timely_value i n value w.2 _ _ p.1.2 (standing_left ends i n u v st) ha,
          timely_enumerators i (n + added i u) false more w.3 m at long _ rest c.1 sb hk,
        )

    pub timely_value : (i : Bool) (n : ℕ) (value : Trees.EnumeratorValue) → IsEnumeratorValue types value → (from : ℕ) (rest : List Lexeme)
        → AreOrdered from (spelled_enumerator_value value rest) → Standing ends i n (marks_of_value untagged value)
        → Ahead ends (n + added i (marks_of_value untagged value)) rest → IsValueTimely untagged ends i n value
    timely_value i n Trees.no_value w f rest o st h = tt
    timely_value i n (Trees.valued equal a) w f rest o st h = timely i n a w.1 _ rest o.2 st h

    pub timely_declarator : (i : Bool) (n : ℕ) (d : Trees.Declarator) → IsDeclarator types d → (from : ℕ) (rest : List Lexeme)
        → AreOrdered from (spelled_declarator d rest) → Standing ends i n (marks_of_declarator untagged d)
        → Ahead ends (n + added i (marks_of_declarator untagged d)) rest → IsDeclaratorTimely untagged ends i n d
    timely_declarator i n Trees.nothing w f rest o st h = tt
    timely_declarator i n (Trees.named x) w f rest o st h = tt
    timely_declarator i n (Trees.pointer at consts d) w f rest o st h =
        let c = behind_part _ (consts_along consts) o.2 in timely_declarator i n d w _ rest c.1 st h
    timely_declarator i n (Trees.enclosed left d right) w f rest o st h =
        timely_declarator i n d w.1 _ _ o.2 st (ahead_of (n + added i (marks_of_declarator untagged d)) (punctuator M.Close right) rest h)
    timely_declarator i n (Trees.array d left len right) w f rest o st h =
        let u = marks_of_declarator untagged d in
        let v = marks_if_any untagged len in
        let close = punctuator M.CloseSquare right in
        let square = punctuator M.OpenSquare left in
        let hb = ahead_of (n + added i u + added i v) close rest (halves i n u v rest h) in
        let sb = standing_right ends i n u v st in
        let ha = ahead_of (n + added i u) square (spelled_optional len (close ∷ rest)) (back_length i (n + added i u) (close ∷ rest) len w.2 sb hb) in
        let c = behind_part f (declarator_along untagged types d w.1) o in (
          timely_declarator i n d w.1 f _ o (standing_left ends i n u v st) ha,
          known_here (n + added i u) square (spelled_optional len (close ∷ rest)) ha c.0 c.1,
          timely_length i (n + added i u) len w.2 _ (close ∷ rest) c.1.2 sb hb,
        )
    timely_declarator i n (Trees.function d left all right) w f rest o st h =
        let m = n + added i (marks_of_declarator untagged d) in
        let close = punctuator M.Close right in
        let hl = ahead_of m close rest h in
        let ha = ahead_of m (punctuator M.Open left) (spelled_parameter_list all (close ∷ rest))
        (earlier ends m (parameter_list_along untagged types all w.2 {rest = close ∷ rest}) hl) in
        let c = behind_part f (declarator_along untagged types d w.1) o in
        (timely_declarator i n d w.1 f _ o st ha, timely_list m all w.2 _ (close ∷ rest) c.1.2 hl)

    pub timely_length : (i : Bool) (n : ℕ) (a : Trees.OptionalExpression) → IsOptional types a → (from : ℕ) (rest : List Lexeme)
        → AreOrdered from (spelled_optional a rest) → Standing ends i n (marks_if_any untagged a)
        → Ahead ends (n + added i (marks_if_any untagged a)) rest → IsLengthTimely untagged ends i n a
    timely_length i n Trees.no_expression w f rest o st h = tt
    timely_length i n (Trees.some_expression a) w f rest o st h = timely i n a w.1 f rest o st h

    pub timely_list : (n : ℕ) (all : Trees.ParameterList) → IsParameterList types all → (from : ℕ) (rest : List Lexeme)
        → AreOrdered from (spelled_parameter_list all rest) → Ahead ends n rest → IsListTimely untagged ends n all
    timely_list n (Trees.void_alone at) w f rest o h = tt
    timely_list n (Trees.listed all) w f rest o h = timely_parameters n true all w.1 f rest o h

    pub timely_parameters : (n : ℕ) (b : Bool) (all : Trees.Parameters) → AreParameters types b all → (from : ℕ) (rest : List Lexeme)
        → AreOrdered from (spelled_parameters all rest) → Ahead ends n rest → AreParametersTimely untagged ends n all
    timely_parameters n b Trees.no_parameters w f rest o h = tt
    timely_parameters n b (Trees.and_parameter comma specs d more) w f rest o h =
        let hm = earlier ends n (parameters_along untagged types false more w.3 {rest = rest}) h in
        let hd = earlier ends n (declarator_along untagged types d w.2 {rest = spelled_parameters more rest}) hm in
        let p = behind_part f (comma_along comma) o in
        let c = behind_part p.0 (specifiers_along untagged types specs w.1) p.1 in
        let e = behind_part c.0 (declarator_along untagged types d w.2) c.1 in (
          timely_more true n specs (as_more specs w.1) p.0 _ p.1 (λ q. cc) (inside_same (marks_of_specifiers untagged specs) n _ hd),
          timely_declarator true n d w.2 c.0 _ c.1 (λ q. cc) (inside_same (marks_of_declarator untagged d) n _ hm),
          timely_parameters n false more w.3 e.0 rest e.1 h,
        )

  pub timely_specifiers : (i : Bool) (n : ℕ) (specs : Trees.Specifiers) → AreSpecifiers types specs → (from : ℕ) (rest : List Lexeme)
      → AreOrdered from (spelled_specifiers specs rest) → Standing ends i n (marks_of_specifiers untagged specs)
      → Ahead ends (n + added i (marks_of_specifiers untagged specs)) rest → AreSpecifiersTimely untagged ends i n specs
  timely_specifiers i n specs w f rest o st h = timely_more i n specs (as_more specs w) f rest o st h
