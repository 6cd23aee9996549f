-- What is found for an expression, in each file that goes on from the one that finding leaves; one lemma for each alternative of the grammar.
use Rattle.std.proofs.Common.{◌≡◌, ℕ, ◌<◌, true, false, refl, sym, subst, List, [], inl, inr}
use Rattle.std.specs.Prelude.{◌^◌, Option, Some, None, Ok}
use Rattle.c_types.specs.declared.ty.IntKind.{IntKind}
use Rattle.c_types.specs.declared.ty.IntKind.TheVariants.{Int}
use Rattle.c_types.specs.Types.{CType, CTypes, integer, no_types, and_type}
use Rattle.c_ast.specs.declared.words.Spelling.{Spelling}
use Rattle.c_ast.specs.declared.operators.UnaryOp.{UnaryOp}
use Rattle.c_ast.specs.declared.operators.UnaryOp.TheVariants as U
use Rattle.c_ast.specs.declared.operators.BinaryOp.{BinaryOp}
use Rattle.c_ast.specs.declared.operators.AssignOp.{AssignOp}
use Rattle.c_ast.specs.declared.operators.StepOp.{StepOp}
use Rattle.c_ast.specs.Trees
use Rattle.c_ast.specs.Places.{first}
use Rattle.c_typed.specs.declared.operators.UnaryOp.TheVariants as TU
use Rattle.c_typed.specs.declared.operators.BinaryOp as TypedBinary
use Rattle.c_typed.specs.declared.program.MentionKind.TheVariants.{Named, Sizeof}
use Rattle.c_typed.specs.Trees as Typed
use Rattle.c_typed.specs.Conversions.{as_kind, is_scalar}
use Rattle.c_typed.specs.Typed.{AreArguments}
use Rattle.c_erasure.specs.Erasure.{place_in, literal_of, typed, Erases, AreValues, IsTypeName, IsConstant, IsSize, place_of_name}
use Rattle.c_erasure.specs.Marks.{marks, marks_of_all, marks_of_type}
use Rattle.c_erasure.specs.Noted.{Noted, Expression, Path, Thing, an_object, a_value, nothing, type_of}
use Rattle.c_erasure.specs.Operators.{kind_of, update_of, step_of}
use Rattle.c_erasure.specs.Scopes.{FileScope, Scope, Entity, named, ended, declared, measured, for_value, IsMentioned}
use Rattle.c_erasure.specs.Checking.Answers.{Answer, ◌>>=◌, Checked, with_file, moved}
use Rattle.c_erasure.specs.Checking.Nodes.{worth, named_in, array_of, element_in, index_in, signature_in, argument_in, call_in, dot_in, arrow_in, step_in}
use Rattle.c_erasure.specs.Checking.Nodes.{address_in, deref_in, unary_in, not_in, size_node, sized_type, measured_in, cast_in, binary_in, tested, chosen_in}
use Rattle.c_erasure.specs.Checking.Nodes.{Target, scalar_at, record_at, path_of, target_in, assigned_in, copied_in, updated_in, comma_in}
use Rattle.c_erasure.specs.Checking.Declaring.{with_mention, mentions_in, literal_in, constant_in}
use Rattle.c_erasure.specs.Checking.Finding.{complete, value_at, tested_at, on_value, unary_on, constant_at, subscripted, assigned}
use Rattle.c_checking_laws.proofs.Results.{bound_ok, bound_with, ok, given, with_file_ok}
use Rattle.c_checking_laws.proofs.Extends.{Extends, itself, further, record_stays, named_stays, constants_stay}
use Rattle.c_checking_laws.proofs.Agreement.{fit_stay, named_fits, Ready, Grew, then}
use Rattle.c_checking_laws.proofs.Values.{IsValue, Stands, worth_made}
use Rattle.c_checking_laws.proofs.NodesOfOne.{named_made, constant_made, unary_made, not_made, deref_made, address_made, step_made, cast_made}
use Rattle.c_checking_laws.proofs.NodesOfTwo.{element_made, index_made, binary_made, comma_made, target_made, IsTarget, target_type, assigned_made}
use Rattle.c_checking_laws.proofs.NodesOfTwo.{copied_made, updated_made}
use Rattle.c_checking_laws.proofs.NodesOfTwo.{tested_is, chosen_made}
use Rattle.c_checking_laws.proofs.NodesOfParts.{dot_made, arrow_made, typed_all, signature_is, argument_made, call_made, IsSized, sized_is, measured_is}
use Rattle.c_checking_laws.proofs.NodesOfParts.{size_made}
use Rattle.c_checking_laws.proofs.Declared.{mentioned, is_mentioned, before_mention, nothing_grown, literal_made, constant_is}
use Rattle.c_checking_laws.proofs.Declared as Parts
use Rattle.c_checking_laws.proofs.Ranges.{constant_below}

module _ (untagged : ℕ → List ℕ) where
  -- a thing that stands for an expression wherever more is declared
  pub record Found (s : Scope) (a : Trees.Expression) (z : Thing × FileScope) : Type 0 where
    pub grew : Grew s (marks untagged a) z.1
    pub holds : (g : FileScope) → Extends z.1 g → Stands (Erases a (moved s g)) (moved s g) z.0

  pub record FoundValue (s : Scope) (a : Trees.Expression) (z : Expression × FileScope) : Type 0 where
    pub grew : Grew s (marks untagged a) z.1
    pub holds : (g : FileScope) → Extends z.1 g → IsValue (Erases a (moved s g)) (moved s g) z.0

  pub record FoundAll (s : Scope) (parameters : CTypes) (all : Trees.Arguments) (z : Typed.Expressions Noted × FileScope) : Type 0 where
    pub grew : Grew s (marks_of_all untagged all) z.1
    pub holds : (g : FileScope) → Extends z.1 g → AreValues (moved s g) z.0 all × AreArguments (declared (moved s g)) parameters (typed_all z.0)

  pub record FoundType (s : Scope) (n : Trees.TypeName) (z : CType × FileScope) : Type 0 where
    pub grew : Grew s (marks_of_type untagged n) z.1
    pub holds : (g : FileScope) → Extends z.1 g → IsTypeName (moved s g) n z.0 × IsMentioned (moved s g) Named z.0 (place_of_name n)

  pub record FoundConstant (s : Scope) (a : Trees.Expression) (z : (IntKind × ℕ) × FileScope) : Type 0 where
    pub grew : Grew s (marks untagged a) z.1
    pub below : z.0.1 < 2 ^ 32
    pub holds : (g : FileScope) → Extends z.1 g → IsConstant (Erases a) (moved s g) z.0.0 z.0.1

  -- a node that is made of parts that are found: what makes it reads the file's constants alone
  concluded : (s : Scope) (a : Trees.Expression) (f : FileScope) → Grew s (marks untagged a) f → (r : List ℕ → ℕ → Answer Thing) (z : Thing × FileScope)
      → with_file f (r s.file.ends s.file.file) ≡ Ok z
      → ((g : FileScope) → Extends f g → r g.ends g.file ≡ Ok z.0 → Stands (Erases a (moved s g)) (moved s g) z.0) → Found s a z
  concluded s a f p r z h made =
      let w = with_file_ok f (r s.file.ends s.file.file) z h in
      record {
        grew = subst (λ f. Grew s (marks untagged a) f) w.1 p;
        holds = λ g e.
            let q = subst (λ f. Extends f g) (sym w.1) e in
            made g q (constants_stay (further p.extends q) (λ ends file. r ends file ≡ Ok z.0) w.0);
      }

  pub valued : (a : Trees.Expression) (s : Scope) (at : ℕ) (r : Checked Thing) → ((x : Thing × FileScope) → r ≡ Ok x → Found s a x)
      → (z : Expression × FileScope) → value_at at r ≡ Ok z → FoundValue s a z
  valued a s at r sound z h =
      let x = bound_ok r _ z h in
      let w = with_file_ok x.0.1 (worth at x.0.0) z x.2 in
      let v = sound x.0 x.1 in
      record {
        grew = subst (λ f. Grew s (marks untagged a) f) w.1 v.grew;
        holds = λ g e. (worth_made (Erases a (moved s g)) (moved s g) at x.0.0 (v.holds g (subst (λ f. Extends f g) (sym w.1) e)) z.0 w.0).0;
      }

  pub constant_found : (a : Trees.Expression) (s : Scope) (at : ℕ) (r : Checked Expression)
      → ((x : Expression × FileScope) → r ≡ Ok x → FoundValue (for_value s) a x) → (z : (IntKind × ℕ) × FileScope) → constant_at at r ≡ Ok z
      → FoundConstant s a z
  constant_found a s at r sound z h =
      let x = bound_ok r _ z h in
      let w = with_file_ok x.0.1 (constant_in at x.0.0) z x.2 in
      let v = sound x.0 x.1 in
      let t = v.holds x.0.1 (itself x.0.1) in
      record {
        grew = subst (λ f. Grew s (marks untagged a) f) w.1 v.grew;
        below = constant_below (declared (moved s x.0.1)) (typed x.0.0) z.0.1 t.1 (constant_is at x.0.0 z.0 w.0).1;
        holds = λ g e. Parts.constant_made (Erases a) (moved s g) at x.0.0 (v.holds g (subst (λ f. Extends f g) (sym w.1) e)) z.0 w.0;
      }

  -- ---- primary expressions (6.5.1)

  named_found : (s : Scope) (x : Spelling) → Ready s [] → (o : Option Entity) → named s x.text x.from ≡ o → (z : Thing × FileScope)
      → with_file s.file (named_in (place_in s x.from) x.text o) ≡ Ok z → Found s (Trees.name x) z
  unfolding named_in
  named_found s x r None e z h = cc
  named_found s x r (Some y) e z h =
      concluded s (Trees.name x) s.file (nothing_grown s.file s.is_inside)
      (λ ends file. named_in (record { file = file; at = x.from }) x.text (Some y)) z h
      (λ g p h.
      let f = fit_stay p s.locals y (named_fits s x.text x.from y r.names_fit r.blocks_fit e) in
      let m = named_made (moved s g) x.from x.text y f z.0 h in
      ((y, named_stays s g p x.text x.from y e, m.0), m.1, m.2))

  pub name_found : (s : Scope) (x : Spelling) → Ready s [] → (z : Thing × FileScope)
      → with_file s.file (named_in (place_in s x.from) x.text (named s x.text x.from)) ≡ Ok z → Found s (Trees.name x) z
  name_found s x r z h = named_found s x r (named s x.text x.from) refl z h

  pub number_found : (s : Scope) (x : Spelling) (n : ℕ) (kind : IntKind) → as_kind kind n ≡ n → (z : Thing × FileScope)
      → ok (a_value (Typed.expression (record { ty = integer kind; note = nothing }) (place_in s x.from) (Typed.constant n)), s.file) ≡ Ok z
      → Found s (Trees.number x n kind) z
  number_found s x n kind i z h =
      concluded s (Trees.number x n kind) s.file (nothing_grown s.file s.is_inside)
      (λ ends file. Ok (a_value (Typed.expression (record { ty = integer kind; note = nothing }) (record { file = file; at = x.from }) (Typed.constant n)))) z h
      (λ g p h. given (Stands (Erases (Trees.number x n kind) (moved s g)) (moved s g)) _ z.0 h
      (constant_made (moved s g) (place_in (moved s g) x.from) kind n i))

  pub character_found : (s : Scope) (x : Spelling) (n : ℕ) → as_kind Int n ≡ n → (z : Thing × FileScope)
      → ok (a_value (Typed.expression (record { ty = integer Int; note = nothing }) (place_in s x.from) (Typed.constant n)), s.file) ≡ Ok z
      → Found s (Trees.character x n) z
  character_found s x n i z h =
      concluded s (Trees.character x n) s.file (nothing_grown s.file s.is_inside)
      (λ ends file. Ok (a_value (Typed.expression (record { ty = integer Int; note = nothing }) (record { file = file; at = x.from }) (Typed.constant n)))) z h
      (λ g p h. given (Stands (Erases (Trees.character x n) (moved s g)) (moved s g)) _ z.0 h (constant_made (moved s g) (place_in (moved s g) x.from) Int n i))

  pub texts_found : (s : Scope) (all : List Spelling) (z : Thing × FileScope) → literal_in s (place_in s (first (Trees.texts all))) (literal_of all) ≡ Ok z
      → Found s (Trees.texts all) z
  texts_found s all z h =
      let l = literal_made s (first (Trees.texts all)) all z h in
      record { grew = l.grown; holds = λ g e. l.holds g e }

  -- a part that is read where another has been read
  abbrev pub Later : Scope → FileScope → Trees.Expression → Checked Thing → Type 0
  Later s f b r = (x : Thing × FileScope) → r ≡ Ok x → Found (moved s f) b x

  -- ---- subscripts and members (6.5.2.1, 6.5.2.3)

  pub index_found : (s : Scope) (a : Trees.Expression) (left : ℕ) (b : Trees.Expression) (right : ℕ) (x : Thing × FileScope) → Found s a x
      → (number : FileScope → Checked Thing) → Later s x.1 b (number x.1) → (z : Thing × FileScope)
      → subscripted (complete s (first a)) (first a) left (place_in s (first a)) x.0 x.1 (λ f. value_at (first b) (number f)) (array_of x.0) ≡ Ok z
      → Found s (Trees.index a left b right) z
  index_found s a left b right x v number later z h = by_array (array_of x.0) refl h
    where
      by_array : (o : Option (Path × CType)) → array_of x.0 ≡ o
          → subscripted (complete s (first a)) (first a) left (place_in s (first a)) x.0 x.1 (λ f. value_at (first b) (number f)) o ≡ Ok z
          → Found s (Trees.index a left b right) z
      by_array (Some p) e h =
          let i = bound_ok (value_at (first b) (number x.1)) _ z h in
          let w = valued b (moved s x.1) (first b) (number x.1) later i.0 i.1 in
          concluded s (Trees.index a left b right) i.0.1 (then v.grew w.grew)
          (λ ends file. element_in left (record { file = file; at = first a }) p i.0.0) z i.2
          (λ g q h. element_made (Erases a (moved s g)) (Erases b (moved s g)) (moved s g) (first a) left x.0 p (v.holds g (further w.grew.extends q)) e
          i.0.0 (w.holds g q) z.0 h)
      by_array None e h =
          let y = bound_with x.1 (worth (first a) x.0) _ z h in
          let i = bound_ok (value_at (first b) (number x.1)) _ z y.2 in
          let w = valued b (moved s x.1) (first b) (number x.1) later i.0 i.1 in
          concluded s (Trees.index a left b right) i.0.1 (then v.grew w.grew)
          (λ ends file. index_in (ended ends (first a)) left (record { file = file; at = first a }) y.0 i.0.0) z i.2
          (λ g q h.
          let u = worth_made (Erases a (moved s g)) (moved s g) (first a) x.0 (v.holds g (further w.grew.extends q)) y.0 y.1 in
          index_made (Erases a (moved s g)) (Erases b (moved s g)) (moved s g) (first a) left y.0 i.0.0 u.0 (u.1 e) (w.holds g q) z.0 h)

  pub dot_found : (s : Scope) (a : Trees.Expression) (at : ℕ) (x : Spelling) (p : Thing × FileScope) → Found s a p → (z : Thing × FileScope)
      → with_file p.1 (dot_in p.1.records (complete s at) x.from (place_in s (first a)) p.0 x.text) ≡ Ok z → Found s (Trees.dot a at x) z
  dot_found s a at x p v z h =
      concluded s (Trees.dot a at x) p.1 v.grew (λ ends file. dot_in p.1.records (ended ends at) x.from (record { file = file; at = first a }) p.0 x.text) z h
      (λ g q h. dot_made p.1.records (moved s g) (record_stays q) (Erases a (moved s g)) (complete (moved s g) at) x.from (place_in (moved s g) (first a)) p.0
      (v.holds g q) x.text z.0 h)

  pub arrow_found : (s : Scope) (a : Trees.Expression) (at : ℕ) (x : Spelling) (e : Expression × FileScope) → FoundValue s a e → (z : Thing × FileScope)
      → with_file e.1 (arrow_in e.1.records (complete s (first a)) x.from (place_in s (first a)) e.0 x.text) ≡ Ok z → Found s (Trees.arrow a at x) z
  arrow_found s a at x e v z h =
      concluded s (Trees.arrow a at x) e.1 v.grew
      (λ ends file. arrow_in e.1.records (ended ends (first a)) x.from (record { file = file; at = first a }) e.0 x.text) z h
      (λ g q h. arrow_made e.1.records (moved s g) (record_stays q) (Erases a (moved s g)) x.from (first a) e.0 (v.holds g q) x.text z.0 h)

  -- ---- calls (6.5.2.2)

  pub call_found : (s : Scope) (f : Trees.Expression) (left : ℕ) (all : Trees.Arguments) (right : ℕ) (x : Thing × FileScope) → Found s f x
      → (t : CTypes × CType) → signature_in (first f) x.0 ≡ Ok t → (xs : Typed.Expressions Noted × FileScope) → FoundAll (moved s x.1) t.0 all xs
      → (z : Thing × FileScope) → with_file xs.1 (call_in (place_in s (first f)) x.0 t.1 xs.0) ≡ Ok z → Found s (Trees.call f left all right) z
  call_found s f left all right x v t k xs w z h =
      concluded s (Trees.call f left all right) xs.1 (then v.grew w.grew) (λ ends file. call_in (record { file = file; at = first f }) x.0 t.1 xs.0) z h
      (λ g q h.
      let y = w.holds g q in
      let m = call_made (Erases f (moved s g)) (moved s g) (place_in (moved s g) (first f)) t.1 t.0 xs.0 y.1 x.0 (v.holds g (further w.grew.extends q))
      (signature_is (first f) x.0 t k) z.0 h in
      ((m.0.0, m.0.1, xs.0, m.0.2, m.0.3, y.0, m.0.4, m.0.5), m.1, m.2))

  pub no_arguments_found : (s : Scope) (z : Typed.Expressions Noted × FileScope) → ok (Typed.no_expressions, s.file) ≡ Ok z
      → FoundAll s no_types Trees.no_arguments z
  no_arguments_found s z h =
      given (FoundAll s no_types Trees.no_arguments) (Typed.no_expressions, s.file) z h
      (record { grew = nothing_grown s.file s.is_inside; holds = λ g e. (refl, tt) })

  pub argument_found : (s : Scope) (t : CType) (more : CTypes) (comma : Option ℕ) (a : Trees.Expression) (rest : Trees.Arguments) (x : Expression × FileScope)
      → FoundValue s a x → (y : Expression) → argument_in (first a) t x.0 ≡ Ok y → (ys : Typed.Expressions Noted × FileScope)
      → FoundAll (moved s x.1) more rest ys → (z : Typed.Expressions Noted × FileScope) → ok (Typed.and_expression y ys.0, ys.1) ≡ Ok z
      → FoundAll s (and_type t more) (Trees.and_argument comma a rest) z
  argument_found s t more comma a rest x v y k ys w z h =
      given (FoundAll s (and_type t more) (Trees.and_argument comma a rest)) (Typed.and_expression y ys.0, ys.1) z h (record {
        grew = then v.grew w.grew;
        holds = λ g e.
            let m = argument_made (Erases a (moved s g)) (moved s g) (first a) t x.0 (v.holds g (further w.grew.extends e)) y k in
            let n = w.holds g e in
            ((y, ys.0, refl, m.0, n.0), (m.1, m.2, n.1));
      })

  -- ---- unary operators (6.5.2.4, 6.5.3)

  pub post_found : (s : Scope) (a : Trees.Expression) (op : StepOp) (at : ℕ) (p : Thing × FileScope) → Found s a p → (z : Thing × FileScope)
      → with_file p.1 (step_in (complete s (first a)) (first a) at (place_in s (first a)) (step_of op) false p.0) ≡ Ok z → Found s (Trees.post a op at) z
  post_found s a op at p v z h =
      concluded s (Trees.post a op at) p.1 v.grew
      (λ ends file. step_in (ended ends (first a)) (first a) at (record { file = file; at = first a }) (step_of op) false p.0) z h
      (λ g q h. step_made (Erases a (moved s g)) (moved s g) (first a) at (first a) (step_of op) false p.0 (v.holds g q) z.0 h)

  pub pre_found : (s : Scope) (op : StepOp) (at : ℕ) (a : Trees.Expression) (p : Thing × FileScope) → Found s a p → (z : Thing × FileScope)
      → with_file p.1 (step_in (complete s at) (first a) at (place_in s at) (step_of op) true p.0) ≡ Ok z → Found s (Trees.pre op at a) z
  pre_found s op at a p v z h =
      concluded s (Trees.pre op at a) p.1 v.grew
      (λ ends file. step_in (ended ends at) (first a) at (record { file = file; at = at }) (step_of op) true p.0) z h
      (λ g q h. step_made (Erases a (moved s g)) (moved s g) (first a) at at (step_of op) true p.0 (v.holds g q) z.0 h)

  -- of a value
  on_value_found : (s : Scope) (op : UnaryOp) (at : ℕ) (a : Trees.Expression) (x : Expression × FileScope) → FoundValue s a x → (z : Thing × FileScope)
      → with_file x.1 (on_value op (complete s at) at s x.0) ≡ Ok z → Found s (Trees.unary op at a) z
  on_value_found s U.Deref at a x v z h =
      concluded s (Trees.unary U.Deref at a) x.1 v.grew (λ ends file. deref_in (ended ends at) (record { file = file; at = at }) x.0) z h
      (λ g q h. deref_made (Erases a (moved s g)) (moved s g) at x.0 (v.holds g q) z.0 h)
  on_value_found s U.Plus at a x v z h =
      concluded s (Trees.unary U.Plus at a) x.1 v.grew (λ ends file. unary_in (record { file = file; at = at }) TU.Plus x.0) z h
      (λ g q h. unary_made (Erases a (moved s g)) (moved s g) (place_in (moved s g) at) TU.Plus x.0 (v.holds g q) z.0 h)
  on_value_found s U.Minus at a x v z h =
      concluded s (Trees.unary U.Minus at a) x.1 v.grew (λ ends file. unary_in (record { file = file; at = at }) TU.Minus x.0) z h
      (λ g q h. unary_made (Erases a (moved s g)) (moved s g) (place_in (moved s g) at) TU.Minus x.0 (v.holds g q) z.0 h)
  on_value_found s U.Complement at a x v z h =
      concluded s (Trees.unary U.Complement at a) x.1 v.grew (λ ends file. unary_in (record { file = file; at = at }) TU.Complement x.0) z h
      (λ g q h. unary_made (Erases a (moved s g)) (moved s g) (place_in (moved s g) at) TU.Complement x.0 (v.holds g q) z.0 h)
  on_value_found s U.Not at a x v z h =
      concluded s (Trees.unary U.Not at a) x.1 v.grew (λ ends file. not_in (record { file = file; at = at }) x.0) z h
      (λ g q h. not_made (Erases a (moved s g)) (moved s g) (place_in (moved s g) at) x.0 (v.holds g q) z.0 h)
  on_value_found s U.Address at a x v z h = cc

  value_found : (s : Scope) (op : UnaryOp) (at : ℕ) (a : Trees.Expression) (r : Checked Thing) → ((x : Thing × FileScope) → r ≡ Ok x → Found s a x)
      → (z : Thing × FileScope) → (value_at (first a) r >>= λ x. with_file x.1 (on_value op (complete s at) at s x.0)) ≡ Ok z → Found s (Trees.unary op at a) z
  value_found s op at a r sound z h =
      let x = bound_ok (value_at (first a) r) _ z h in
      on_value_found s op at a x.0 (valued a s (first a) r sound x.0 x.1) z x.2

  pub unary_found : (s : Scope) (op : UnaryOp) (at : ℕ) (a : Trees.Expression) (r : Checked Thing) → ((x : Thing × FileScope) → r ≡ Ok x → Found s a x)
      → (z : Thing × FileScope) → unary_on op (complete s at) (first a) at s r ≡ Ok z → Found s (Trees.unary op at a) z
  unary_found s U.Address at a r sound z h =
      let x = bound_ok r _ z h in
      let v = sound x.0 x.1 in
      concluded s (Trees.unary U.Address at a) x.0.1 v.grew (λ ends file. address_in (first a) (record { file = file; at = at }) x.0.0) z x.2
      (λ g q h. address_made (Erases a (moved s g)) (moved s g) (first a) (place_in (moved s g) at) x.0.0 (v.holds g q) z.0 h)
  unary_found s U.Deref at a r sound z h = value_found s U.Deref at a r sound z h
  unary_found s U.Plus at a r sound z h = value_found s U.Plus at a r sound z h
  unary_found s U.Minus at a r sound z h = value_found s U.Minus at a r sound z h
  unary_found s U.Complement at a r sound z h = value_found s U.Complement at a r sound z h
  unary_found s U.Not at a r sound z h = value_found s U.Not at a r sound z h

  -- ---- sizes and casts (6.5.3.4, 6.5.4)

  size_found : (s : Scope) (f : FileScope) → Extends s.file f → (n at by : ℕ) (t : CType) → IsSized f.records (complete s by) t
      → (g : FileScope) → Extends (with_mention s n Sizeof t at f) g → Stands (IsSize (moved s g) at by t) (moved s g) (size_node f.records (place_in s at) t)
  size_found s f p n at by t z g q =
      let e = before_mention s f g n Sizeof t at q in
      let c = constants_stay (further p e) (λ ends file. IsSized f.records (ended ends by) t) z in
      let m = size_made (moved s g) f.records e.records.0 e.records.1 at by t c (is_mentioned s f g n Sizeof t at q) in
      subst (λ file. Stands (IsSize (moved s g) at by t) (moved s g) (size_node f.records (record { file = file; at = at }) t)) (further p e).file m

  pub sizeof_expression_found : (s : Scope) (at : ℕ) (a : Trees.Expression) (x : Thing × FileScope) → Found (measured s) a x → (t : CType)
      → measured_in x.1.records (complete s at) at (first a) x.0 ≡ Ok t → (z : Thing × FileScope)
      → ok (size_node x.1.records (place_in s at) t, with_mention s (mentions_in x.1) Sizeof t at x.1) ≡ Ok z → Found s (Trees.sizeof_expression at a) z
  sizeof_expression_found s at a x v t k z h =
      let m = measured_is x.1.records (complete s at) at (first a) x.0 t k in
      given (Found s (Trees.sizeof_expression at a)) _ z h (record {
        grew = mentioned s (mentions_in x.1) Sizeof t at v.grew;
        holds = λ g e.
            let w = v.holds g (before_mention s x.1 g (mentions_in x.1) Sizeof t at e) in
            let n = size_found s x.1 v.grew.extends (mentions_in x.1) at at t m.0 g e in
            ((t, (x.0, w.0, w.1, m.1), n.0), n.1, n.2);
      })

  pub sizeof_type_found : (s : Scope) (at left : ℕ) (n : Trees.TypeName) (right : ℕ) (x : CType × FileScope) → FoundType s n x → (t : CType)
      → sized_type x.1.records (complete s right) at x.0 ≡ Ok t → (z : Thing × FileScope)
      → ok (size_node x.1.records (place_in s at) t, with_mention s (mentions_in s.file) Sizeof t at x.1) ≡ Ok z → Found s (Trees.sizeof_type at left n right) z
  sizeof_type_found s at left n right x v t k z h =
      let m = sized_is x.1.records (complete s right) at x.0 t k in
      given (Found s (Trees.sizeof_type at left n right)) _ z h (record {
        grew = mentioned s (mentions_in s.file) Sizeof t at v.grew;
        holds = λ g e.
            let w = v.holds g (before_mention s x.1 g (mentions_in s.file) Sizeof t at e) in
            let y = size_found s x.1 v.grew.extends (mentions_in s.file) at right t m.0 g e in
            let u = subst (λ t. IsTypeName (moved s g) n t × IsMentioned (moved s g) Named t (place_of_name n)) m.1 w in
            ((t, u.0, u.1, y.0), y.1, y.2);
      })

  pub cast_found : (s : Scope) (left : ℕ) (n : Trees.TypeName) (right : ℕ) (a : Trees.Expression) (t : CType × FileScope) → FoundType s n t
      → (x : Expression × FileScope) → FoundValue (moved s t.1) a x → (z : Thing × FileScope) → with_file x.1 (cast_in (place_in s left) t.0 x.0) ≡ Ok z
      → Found s (Trees.cast left n right a) z
  cast_found s left n right a t v x w z h =
      concluded s (Trees.cast left n right a) x.1 (then v.grew w.grew) (λ ends file. cast_in (record { file = file; at = left }) t.0 x.0) z h
      (λ g q h.
      let m = cast_made (Erases a (moved s g)) (moved s g) (place_in (moved s g) left) t.0 x.0 (w.holds g q) z.0 h in
      let u = v.holds g (further w.grew.extends q) in
      ((t.0, m.0.0, u.0, u.1, m.0.1, m.0.2), m.1, m.2))

  -- ---- binary operators, `?:`, assignments and the comma (6.5.5 to 6.5.17)

  pub binary_found : (s : Scope) (a : Trees.Expression) (op : BinaryOp) (at : ℕ) (b : Trees.Expression) (x : Expression × FileScope) → FoundValue s a x
      → (y : Expression × FileScope) → FoundValue (moved s x.1) b y → (z : Thing × FileScope)
      → with_file y.1 (binary_in (complete s (first a)) at (place_in s (first a)) (kind_of op) x.0 y.0) ≡ Ok z → Found s (Trees.binary a op at b) z
  binary_found s a op at b x v y w z h =
      concluded s (Trees.binary a op at b) y.1 (then v.grew w.grew)
      (λ ends file. binary_in (ended ends (first a)) at (record { file = file; at = first a }) (kind_of op) x.0 y.0) z h
      (λ g q h. binary_made (Erases a (moved s g)) (Erases b (moved s g)) (moved s g) (first a) at (kind_of op) x.0 y.0
      (v.holds g (further w.grew.extends q)) (w.holds g q) z.0 h)

  pub comma_found : (s : Scope) (a : Trees.Expression) (at : ℕ) (b : Trees.Expression) (x : Expression × FileScope) → FoundValue s a x
      → (y : Expression × FileScope) → FoundValue (moved s x.1) b y → (z : Thing × FileScope) → with_file y.1 (comma_in (place_in s (first a)) x.0 y.0) ≡ Ok z
      → Found s (Trees.comma a at b) z
  comma_found s a at b x v y w z h =
      concluded s (Trees.comma a at b) y.1 (then v.grew w.grew) (λ ends file. comma_in (record { file = file; at = first a }) x.0 y.0) z h
      (λ g q h. comma_made (Erases a (moved s g)) (Erases b (moved s g)) (moved s g) (first a) x.0 y.0
      (v.holds g (further w.grew.extends q)) (w.holds g q) z.0 h)

  -- the first operand of `?:`, which is tested
  pub tested_found : (s : Scope) (a : Trees.Expression) (question : ℕ) (r : Checked Expression) → ((x : Expression × FileScope) → r ≡ Ok x → FoundValue s a x)
      → (x : Expression × FileScope) → tested_at question r ≡ Ok x → FoundValue s a x × (is_scalar (type_of x.0) ≡ true)
  tested_found s a question r sound x h =
      let y = bound_ok r _ x h in
      let w = with_file_ok y.0.1 (tested question y.0.0) x y.2 in
      let t = tested_is question y.0.0 x.0 w.0 in
      let v = sound y.0 y.1 in (
        record {
          grew = subst (λ f. Grew s (marks untagged a) f) w.1 v.grew;
          holds = λ g e. subst (λ x. IsValue (Erases a (moved s g)) (moved s g) x) t.1 (v.holds g (subst (λ f. Extends f g) (sym w.1) e));
        },
        subst (λ x. is_scalar (type_of x) ≡ true) t.1 t.0,
      )

  pub choice_found : (s : Scope) (a : Trees.Expression) (question : ℕ) (b : Trees.Expression) (colon : ℕ) (c : Trees.Expression) (x : Expression × FileScope)
      → FoundValue s a x × (is_scalar (type_of x.0) ≡ true) → (y : Expression × FileScope) → FoundValue (moved s x.1) b y
      → (u : Expression × FileScope) → FoundValue (moved s y.1) c u → (z : Thing × FileScope)
      → with_file u.1 (chosen_in colon (place_in s (first a)) x.0 y.0 u.0) ≡ Ok z → Found s (Trees.cond a question b colon c) z
  choice_found s a question b colon c x v y w u k z h =
      concluded s (Trees.cond a question b colon c) u.1 (then (then v.0.grew w.grew) k.grew)
      (λ ends file. chosen_in colon (record { file = file; at = first a }) x.0 y.0 u.0) z h
      (λ g q h.
      let e = further k.grew.extends q in
      chosen_made (Erases a (moved s g)) (Erases b (moved s g)) (Erases c (moved s g)) (moved s g) (place_in (moved s g) (first a)) colon x.0 y.0 u.0
      (v.0.holds g (further w.grew.extends e)) v.1 (w.holds g e) (k.holds g q) z.0 h)

  pub assign_found : (s : Scope) (a : Trees.Expression) (op : AssignOp) (at : ℕ) (b : Trees.Expression) (p : Thing × FileScope) → Found s a p
      → (t : Target) → target_in (first a) p.0 ≡ Ok t → (right : FileScope → Checked Thing) → Later s p.1 b (right p.1) → (z : Thing × FileScope)
      → assigned (complete s (first a)) at (first b) (place_in s (first a)) t p.1 right (update_of op) ≡ Ok z → Found s (Trees.assign a op at b) z
  assign_found s a op at b p v t k right later z h = by_parts t (update_of op) refl object (target_type (Erases a s) (Erases a s) s 0 (first a) p.0 t k) h
    where
      object : (g : FileScope) → Extends p.1 g → Stands (Erases a (moved s g)) (moved s g) (an_object (path_of t))
      object g e = subst (Stands (Erases a (moved s g)) (moved s g)) (target_made (Erases a s) (Erases a s) s 0 (first a) p.0 t k) (v.holds g e)

      by_parts : (t : Target) (o : Option TypedBinary.BinaryOp) → update_of op ≡ o
          → ((g : FileScope) → Extends p.1 g → Stands (Erases a (moved s g)) (moved s g) (an_object (path_of t)))
          → IsTarget (Erases a s) (Erases a s) s 0 t
          → assigned (complete s (first a)) at (first b) (place_in s (first a)) t p.1 right o ≡ Ok z → Found s (Trees.assign a op at b) z
      by_parts t (Some update) e object i h =
          let x = bound_ok (value_at (first b) (right p.1)) _ z h in
          let w = valued b (moved s p.1) (first b) (right p.1) later x.0 x.1 in
          concluded s (Trees.assign a op at b) x.0.1 (then v.grew w.grew)
          (λ ends file. updated_in (ended ends (first a)) at (record { file = file; at = first a }) update (path_of t) x.0.0) z x.2
          (λ g q h.
          let m = updated_made (Erases a (moved s g)) (Erases b (moved s g)) (moved s g) (first a) at update (path_of t)
          (object g (further w.grew.extends q)) x.0.0 (w.holds g q) z.0 h in
          (inr (inr (m.0.0, m.0.1, m.0.2, update, e, m.0.3, m.0.4, m.0.5)), m.1, m.2))
      by_parts (scalar_at to) None e object i h =
          let x = bound_ok (value_at (first b) (right p.1)) _ z h in
          let w = valued b (moved s p.1) (first b) (right p.1) later x.0 x.1 in
          concluded s (Trees.assign a op at b) x.0.1 (then v.grew w.grew)
          (λ ends file. assigned_in at (record { file = file; at = first a }) to x.0.0) z x.2
          (λ g q h.
          let m = assigned_made (Erases a (moved s g)) (Erases b (moved s g)) (moved s g) (first a) at to
          (object g (further w.grew.extends q)) i x.0.0 (w.holds g q) z.0 h in
          (inl (m.0.0, m.0.1, m.0.2, e, m.0.3, m.0.4, m.0.5), m.1, m.2))
      by_parts (record_at to) None e object i h =
          let x = bound_ok (right p.1) _ z h in
          let w = later x.0 x.1 in
          concluded s (Trees.assign a op at b) x.0.1 (then v.grew w.grew)
          (λ ends file. copied_in at (first b) (record { file = file; at = first a }) to x.0.0) z x.2
          (λ g q h.
          let m = copied_made (Erases a (moved s g)) (Erases b (moved s g)) (moved s g) (first a) at (first b) to
          (object g (further w.grew.extends q)) i.0 i.1 x.0.0 (w.holds g q) z.0 h in
          (inr (inl (m.0.0, m.0.1, m.0.2, e, m.0.3, m.0.4, m.0.5)), m.1, m.2))
