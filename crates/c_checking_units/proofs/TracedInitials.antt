-- What initializers declare in their expressions is of the file (C99 6.7.8).
use Rattle.std.proofs.Common.{◌≡◌, ℕ, ◌+◌, Bool, true, false, List, [], ◌∷◌, ◌++◌, arith, inl, inr}
use Rattle.std.specs.Prelude.{◌⊎◌}
use Rattle.c_tokens.specs.declared.punctuator.Punctuator.TheVariants as M
use Rattle.c_types.specs.Layouts.{size_of, offset_of}
use Rattle.c_types.specs.Types.{CType, structure, Field}
use Rattle.c_ast.specs.Laws.{TreesBeginFirst}
use Rattle.c_ast.specs.Spelling.{Lexeme, punctuator, spelled, spelled_arguments, spelled_comma}
use Rattle.c_ast.specs.Trees
use Rattle.c_ast.specs.WellFormed.{IsInitializer, AreInitializers}
use Rattle.c_typed.specs.Conversions.{is_scalar}
use Rattle.c_typed.specs.Trees as Typed
use Rattle.c_erasure.specs.Erasure.{Values, Erases}
use Rattle.c_erasure.specs.Files.{AreAscending}
use Rattle.c_erasure.specs.Initializers as Initials
use Rattle.c_erasure.specs.Initializers.{part_at, texts_of, IsText, Initializes, IsOneValue, InitializeElements, InitializeFields}
use Rattle.c_erasure.specs.Marks.{marks, marks_of_all}
use Rattle.c_erasure.specs.Noted.{Noted, Expression, an_object, type_of, type_of_path}
use Rattle.c_erasure.specs.Scopes.{Scope}
use Rattle.c_erasure.specs.MarkPlaces.Places.{AreOrdered}
use Rattle.c_erasure.proofs.MarkPlaces.Walks.{comma_along}
use Rattle.c_erasure.proofs.MarkPlaces.MarksOfFiles.{initializer_along}
use Rattle.c_checking_laws.proofs.Agreement.{added}
use Rattle.c_checking_laws.proofs.FaultPremises.{IsTimely}
use Rattle.c_checking_laws.proofs.Ahead.{Ahead, Standing, standing_left, standing_right, back, earlier, ahead_same, added_both}
use Rattle.c_checking_laws.proofs.Timely.{timely}
use Rattle.c_checking_laws.proofs.WholeFiles.InTextTime.{behind_part, ahead_of, list_along}
use Rattle.c_checking_units.proofs.Tracing.{AreTraced, two}
use Rattle.c_checking_units.proofs.TracedParts.{traced}

-- ---- records are known where the expressions of an initializer ask for them

module _ (untagged : ℕ → List ℕ) (ends : List ℕ) where
  abbrev mutual
    pub IsInitialTimely : ℕ → Trees.Expression → Type 0
    IsInitialTimely n (Trees.braces left all comma right) = AreInitialsTimely n all
    IsInitialTimely n a = IsTimely untagged ends false n a

    pub AreInitialsTimely : ℕ → Trees.Arguments → Type 0
    AreInitialsTimely n Trees.no_arguments = Unit {0}
    AreInitialsTimely n (Trees.and_argument comma a more) = IsInitialTimely n a × AreInitialsTimely (n + added false (marks untagged a)) more

module _ (untagged : ℕ → List ℕ) (types : List (List ℕ)) (ends : List ℕ) (law : TreesBeginFirst) where
  mutual
    pub initial_timely : (n : ℕ) (a : Trees.Expression) → IsInitializer types a → (from : ℕ) (rest : List Lexeme) → AreOrdered from (spelled a rest)
        → Standing ends false n (marks untagged a) → Ahead ends (n + added false (marks untagged a)) rest → IsInitialTimely untagged ends n a
    initial_timely n (Trees.braces left all comma right) w f rest o st h =
        let m = n + added false (marks_of_all untagged all) in
        let close : Lexeme = punctuator M.CloseBrace right in
        initials_timely n true all w.1 _ (spelled_comma comma (close ∷ rest)) o.2 st
        (earlier ends m (comma_along comma {rest = close ∷ rest}) (ahead_of untagged types ends m law close rest h))
    initial_timely n a w f rest o st h = timely untagged types ends law false n a w.1 f rest o st h

    initials_timely : (n : ℕ) (b : Bool) (all : Trees.Arguments) → AreInitializers types b all → (from : ℕ) (rest : List Lexeme)
        → AreOrdered from (spelled_arguments all rest) → Standing ends false n (marks_of_all untagged all)
        → Ahead ends (n + added false (marks_of_all untagged all)) rest → AreInitialsTimely untagged ends n all
    initials_timely n b Trees.no_arguments w f rest o st h = tt
    initials_timely n b (Trees.and_argument comma a more) w f rest o st h =
        let u = marks untagged a in
        let v = marks_of_all untagged more in
        let m = n + added false u in
        let tokens : List Lexeme = spelled_arguments more rest in
        let e = added_both false u v in
        let hm = ahead_same ends (n + added false (u ++ v)) (m + added false v) rest (omega (arith, e)) h in
        let sm = standing_right ends false n u v st in
        let c = behind_part untagged types ends m law f (comma_along comma {rest = spelled a tokens}) o in
        let g = behind_part untagged types ends m law c.0 (initializer_along untagged types a w.1 {rest = tokens}) c.1 in
        let ha = back ends false m (list_along untagged types ends m law false more w.2 {rest = rest}) sm hm in (
          initial_timely n a w.1 c.0 tokens c.1 (standing_left ends false n u v st) ha,
          initials_timely m false more w.2 g.0 rest g.1 sm hm,
        )

-- ---- what they declare

-- string literals mark nothing
text_traced : (a : Trees.Expression) (s : Scope) (t : CType) (at : ℕ) (parts : List Initials.Part) → IsText (texts_of a) s t at parts
    → AreTraced s.file (marks s.file.untagged a)
text_traced (Trees.texts all) s t at parts h = tt
text_traced (Trees.braces left (Trees.and_argument comma (Trees.texts all) Trees.no_arguments) last right) s t at parts h = tt
text_traced a s t at parts h = absurd h

-- an initializer that does not stand in braces: an expression with a value, a record, or string literals
abbrev IsPlain : Trees.Expression → Scope → CType → ℕ → List Initials.Part → Type 0
IsPlain a s t at parts =
    ((x : Expression) × (is_scalar t ≡ true) × (type_of x ≡ t) × (parts ≡ part_at at (Typed.value x)) × Values (Erases a s) x)
    ⊎ ((r : ℕ) × (p : Typed.Path Noted) × (t ≡ structure r) × (type_of_path p ≡ t) × (parts ≡ part_at at (Typed.record_of p)) × Erases a s (an_object p))
    ⊎ IsText (texts_of a) s t at parts

plain_traced : (a : Trees.Expression) (s : Scope) (t : CType) (at : ℕ) (parts : List Initials.Part) (n : ℕ) → AreAscending s.file.ends
    → IsTimely s.file.untagged s.file.ends false n a → Standing s.file.ends false n (marks s.file.untagged a) → IsPlain a s t at parts
    → AreTraced s.file (marks s.file.untagged a)
plain_traced a s t at parts n c time st (inl h) = traced a s h.4.0 n c time st h.4.2
plain_traced a s t at parts n c time st (inr (inl h)) = traced a s (an_object h.1) n c time st h.5
plain_traced a s t at parts n c time st (inr (inr h)) = text_traced a s t at parts h

-- an expression by its value, which does not stand in braces
bare_traced : (a : Trees.Expression) (s : Scope) (n : ℕ) → AreAscending s.file.ends → IsInitialTimely s.file.untagged s.file.ends n a
    → Standing s.file.ends false n (marks s.file.untagged a) → (x : Expression) → Values (Erases a s) x → AreTraced s.file (marks s.file.untagged a)
bare_traced (Trees.braces left all comma right) s n c time st x h = absurd h.2
bare_traced a s n c time st x h = traced a s h.0 n c time st h.2

mutual
  pub initial_traced : (a : Trees.Expression) (s : Scope) (t : CType) (at : ℕ) (parts : List Initials.Part) (n : ℕ) → AreAscending s.file.ends
      → IsInitialTimely s.file.untagged s.file.ends n a → Standing s.file.ends false n (marks s.file.untagged a) → Initializes a s t at parts
      → AreTraced s.file (marks s.file.untagged a)
  initial_traced (Trees.braces left all last right) s t at parts n c time st (inl h) = value_traced all s h.0 n c time st h.4
  initial_traced (Trees.braces left all last right) s t at parts n c time st (inr (inl h)) = elements_traced all s h.1 h.0 at parts n c time st h.4
  initial_traced (Trees.braces left all last right) s t at parts n c time st (inr (inr (inl h))) =
      fields_traced all s h.0 0 h.1.fields at parts n c time st h.4
  initial_traced (Trees.braces left all last right) s t at parts n c time st (inr (inr (inr h))) =
      text_traced (Trees.braces left all last right) s t at parts h
  initial_traced a s t at parts n c time st h = plain_traced a s t at parts n c time st h

  -- an expression in braces
  value_traced : (all : Trees.Arguments) (s : Scope) (x : Expression) (n : ℕ) → AreAscending s.file.ends
      → AreInitialsTimely s.file.untagged s.file.ends n all → Standing s.file.ends false n (marks_of_all s.file.untagged all) → IsOneValue all s x
      → AreTraced s.file (marks_of_all s.file.untagged all)
  value_traced Trees.no_arguments s x n c time st h = absurd h
  value_traced (Trees.and_argument comma a Trees.no_arguments) s x n c time st h =
      two s.file n (marks s.file.untagged a) [] st (λ st. bare_traced a s n c time.0 st x h) (λ st. tt)
  value_traced (Trees.and_argument comma a (Trees.and_argument other b more)) s x n c time st h = absurd h

  elements_traced : (all : Trees.Arguments) (s : Scope) (u : CType) (count at : ℕ) (parts : List Initials.Part) (n : ℕ) → AreAscending s.file.ends
      → AreInitialsTimely s.file.untagged s.file.ends n all → Standing s.file.ends false n (marks_of_all s.file.untagged all)
      → InitializeElements all s u count at parts → AreTraced s.file (marks_of_all s.file.untagged all)
  elements_traced Trees.no_arguments s u count at parts n c time st h = tt
  elements_traced (Trees.and_argument comma a more) s u count at parts n c time st h =
      two s.file n (marks s.file.untagged a) (marks_of_all s.file.untagged more) st
      (λ st. initial_traced a s u at h.1 n c time.0 st h.5)
      (λ st. elements_traced more s u h.0 (at + size_of s.file.records u) h.2 (n + added false (marks s.file.untagged a)) c time.1 st h.6)

  fields_traced : (all : Trees.Arguments) (s : Scope) (r k : ℕ) (fields : List Field) (at : ℕ) (parts : List Initials.Part) (n : ℕ)
      → AreAscending s.file.ends → AreInitialsTimely s.file.untagged s.file.ends n all
      → Standing s.file.ends false n (marks_of_all s.file.untagged all) → InitializeFields all s r k fields at parts
      → AreTraced s.file (marks_of_all s.file.untagged all)
  fields_traced Trees.no_arguments s r k fields at parts n c time st h = tt
  fields_traced (Trees.and_argument comma a more) s r k fields at parts n c time st h =
      two s.file n (marks s.file.untagged a) (marks_of_all s.file.untagged more) st
      (λ st. initial_traced a s h.0.ty (at + offset_of s.file.records r k) h.2 n c time.0 st h.6)
      (λ st. fields_traced more s r (k + 1) h.1 at h.3 (n + added false (marks s.file.untagged a)) c time.1 st h.7)
