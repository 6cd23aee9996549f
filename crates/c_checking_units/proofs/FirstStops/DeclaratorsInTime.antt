-- Well formed declarators of the file scope, whose tokens come one after the other, ask for records in time.
use Rattle.std.proofs.Common.{◌≡◌, ℕ, ◌+◌, Bool, true, false, refl, subst, List, [], ◌∷◌, ◌++◌, length, arith}
use Rattle.std.specs.Prelude.{Some}
use Rattle.c_tokens.specs.declared.punctuator.Punctuator.TheVariants as M
use Rattle.c_tokens.specs.declared.token.TokenKind.TheVariants as K
use Rattle.c_ast.specs.declared.words.Spelling.{Spelling}
use Rattle.c_ast.specs.Trees
use Rattle.c_ast.specs.Laws.{TreesBeginFirst}
use Rattle.c_ast.specs.Spelling.{Lexeme, punctuator, word, spelled_value, spelled_optional, spelled_declarator, spelled_parameter_list}
use Rattle.c_ast.specs.Spelling.{spelled_init_declarators}
use Rattle.c_ast.specs.WellFormed.{has_name, IsDeclarator, AreInitDeclarators}
use Rattle.c_erasure.specs.Declarators.{declared_name}
use Rattle.c_erasure.specs.Marks.{Mark, a_name, ends_in, marks_of_declarator, marks_of_initial, marks_of_declarators, name_from, after_declarator}
use Rattle.c_erasure.specs.MarkPlaces.Places.{AreOrdered}
use Rattle.c_erasure.proofs.MarkPlaces.Walks.{comma_along, consts_along}
use Rattle.c_erasure.proofs.MarkPlaces.MarksOfParts.{declarator_along, optional_along, parameter_list_along}
use Rattle.c_erasure.proofs.MarkPlaces.MarksOfFiles.{declarators_along}
use Rattle.c_checking_laws.proofs.Agreement.{added}
use Rattle.c_checking_laws.proofs.FaultPremises.{AreKnown}
use Rattle.c_checking_laws.proofs.Ahead.{Ahead, Standing, standing_left, standing_right, known, earlier, back, ahead_same, added_both}
use Rattle.c_checking_laws.proofs.Timely.{timely_declarator}
use Rattle.c_checking_units.proofs.FirstStops.DeclaratorsStop.{AreTimely}
use Rattle.c_checking_units.proofs.FirstStops.InitialsInTime.{behind, ahead_of, value_timely, before_value}

pub name_of : (d : Trees.Declarator) → has_name d ≡ true → (x : Spelling) × (declared_name d ≡ Some x)
name_of Trees.nothing h = cc
name_of (Trees.named x) h = (x, refl)
name_of (Trees.pointer at consts d) h = name_of d h
name_of (Trees.enclosed left d right) h = name_of d h
name_of (Trees.array d left n right) h = name_of d h
name_of (Trees.function d left all right) h = name_of d h

module _ (untagged : ℕ → List ℕ) (types : List (List ℕ)) (ends : List ℕ) (law : TreesBeginFirst) where
  -- where the name of a declarator stands
  name_known : (n : ℕ) (d : Trees.Declarator) → IsDeclarator types d → (x : Spelling) → declared_name d ≡ Some x → (from : ℕ) (rest : List Lexeme)
      → AreOrdered from (spelled_declarator d rest) → Ahead ends n rest → AreKnown untagged ends n x.from
  name_known n Trees.nothing w x e from rest o h = cc
  name_known n (Trees.named y) w x e from rest o h =
      let same : y ≡ x = cc in
      subst (λ (y : Spelling). AreKnown untagged ends n y.from) same
      (known ends n y.from (word K.Name y ∷ rest) (ahead_of untagged types ends law n (word K.Name y) rest h) (omega arith, o.1, o.2))
  name_known n (Trees.pointer at consts d) w x e from rest o h =
      let c = behind untagged types ends law _ (consts_along consts {rest = spelled_declarator d rest}) o.2 in
      name_known n d w x e c.0 rest c.1 h
  name_known n (Trees.enclosed left d right) w x e from rest o h =
      name_known n d w.1 x e _ (punctuator M.Close right ∷ rest) o.2 (ahead_of untagged types ends law n (punctuator M.Close right) rest h)
  name_known n (Trees.array d left len right) w x e from rest o h =
      let close : Lexeme = punctuator M.CloseSquare right in
      let inner : List Lexeme = spelled_optional len (close ∷ rest) in
      name_known n d w.1 x e from (punctuator M.OpenSquare left ∷ inner) o
      (ahead_of untagged types ends law n (punctuator M.OpenSquare left) inner
      (earlier ends n (optional_along untagged types len w.2 {rest = close ∷ rest}) (ahead_of untagged types ends law n close rest h)))
  name_known n (Trees.function d left all right) w x e from rest o h =
      let close : Lexeme = punctuator M.Close right in
      let inner : List Lexeme = spelled_parameter_list all (close ∷ rest) in
      name_known n d w.1 x e from (punctuator M.Open left ∷ inner) o
      (ahead_of untagged types ends law n (punctuator M.Open left) inner
      (earlier ends n (parameter_list_along untagged types all w.2 {rest = close ∷ rest}) (ahead_of untagged types ends law n close rest h)))

  pub declarators_timely : (nodes_at : ℕ → ℕ) (lead : Bool) (all : List Trees.InitDeclarator) → AreInitDeclarators types lead all
      → (semicolon n from : ℕ) (rest : List Lexeme) → AreOrdered from (spelled_init_declarators all (punctuator M.Semicolon semicolon ∷ rest))
      → Standing ends false n (marks_of_declarators untagged all semicolon)
      → Ahead ends (n + added false (marks_of_declarators untagged all semicolon)) rest → AreTimely untagged types nodes_at ends n all
  declarators_timely nodes_at lead [] w semicolon n from rest o st h = tt
  declarators_timely nodes_at lead (d ∷ more) w semicolon n from rest o st h =
      let u : List Mark = marks_of_declarator untagged d.declarator in
      let i : List Mark = marks_of_initial untagged d.value in
      let v : List Mark = a_name (name_from d.value (after_declarator more semicolon)) ∷ i in
      let k : List Mark = marks_of_declarators untagged more semicolon in
      let m : ℕ = n + length (ends_in u) in
      let N : ℕ = m + length (ends_in i) in
      let tokens : List Lexeme = spelled_init_declarators more (punctuator M.Semicolon semicolon ∷ rest) in
      let value : List Lexeme = spelled_value d.value tokens in
      let own = added_both false u v in
      let all = added_both false (u ++ v) k in
      let number : n + added false (u ++ v) ≡ N = omega (arith, own) in
      let sm = subst (λ n. Standing ends false n k) number (standing_right ends false n (u ++ v) k st) in
      let whole : n + added false ((u ++ v) ++ k) ≡ N + added false k = omega (arith, all, own) in
      let hk = ahead_same ends (n + added false ((u ++ v) ++ k)) (N + added false k) rest whole h in
      let hm : Ahead ends N tokens = back ends false N (declarators_along untagged types false more w.4 semicolon {rest = rest}) sm hk in
      let su = standing_left ends false n (u ++ v) k st in
      let si : Standing ends false m i = standing_right ends false n u v su in
      let hv = before_value untagged types ends law d.value w.3 m tokens si hm in
      let c = behind untagged types ends law from (comma_along d.comma {rest = spelled_declarator d.declarator value}) o in
      let e = behind untagged types ends law c.0 (declarator_along untagged types d.declarator w.1 {rest = value}) c.1 in
      let name = name_of d.declarator w.2 in
      let b = value_timely untagged types ends law nodes_at d.value w.3 m e.0 tokens e.1 si hm in (
        timely_declarator untagged types ends law false n d.declarator w.1 c.0 value c.1 (standing_left ends false n u v su) hv,
        (name.0, name.1, name_known m d.declarator w.1 name.0 name.1 c.0 value c.1 hv),
        b.0,
        declarators_timely nodes_at false more w.4 semicolon N b.1.0 rest b.1.1 sm hk,
      )
