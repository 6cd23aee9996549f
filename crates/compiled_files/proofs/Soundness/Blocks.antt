-- The code of a function has good steps, and each block in it has the size of its local.
use Rattle.std.proofs.Common.{◌≡◌, ℕ, zero, suc, ◌+◌, ◌<◌, ◌≤◌, inl, inr, Bool, true, false, List, [], ◌∷◌, ◌++◌, length, Option, Some, None, refl, ap}
use Rattle.std.proofs.Common.{sym, subst, ◌∙◌, arith, slice_get, if◌then◌else◌}
use Rattle.std.proofs.lemmas.Bool.{ltb-true, ltb-false}
use Rattle.std.proofs.lemmas.Option.{slice_get_within}
use Rattle.std.specs.List.{AllByRecursion as Each}
use Rattle.std.specs.Prelude.{nat_lt, slice_index}
use Rattle.c_typed.specs.Programs.{FunctionData, ProgramData}
use Rattle.c_typed.specs.Trees.{Statement}
use Rattle.c_typed.specs.TypedStatements.{all_declared}
use Rattle.c_typed.specs.declared.program.Local.{Local}
use Rattle.c_meaning.specs.Program.{all_locals, size_at, type_at}
use Rattle.c_link.specs.Gaps.{HasNone, IsMissing}
use Rattle.c_well_typed.specs.Printable.Programs.{IsPrintable, local_types}
use Rattle.c_well_typed.specs.Printable.Statements.{is_declaration}
use Rattle.c_well_typed.specs.WellTyped.{AreWellTyped, of_program}
use Rattle.code_bounds.specs.LoweredLaws.{TypedHaveScopes}
use Rattle.code_bounds.specs.Scopes.{HasScopes, IsScoped, IsScopedBody}
use Rattle.lower_tac.specs.Parts.{Steps}
use Rattle.lower_tac.specs.Statements.{Out, begin_code, begins_code, body_code, fallen, function_exits, have_blocks, last_code, lowered, parameter_of}
use Rattle.lower_tac.specs.Statements.{parameters_of}
use Rattle.lower_tac.specs.Statements.{routine_of, scope_end, scope_exits}
use Rattle.rv_code.specs.Frames.{block_size, block_sizes}
use Rattle.rv_emit.specs.Maps.{HasBody}
use Rattle.tac_ir.specs.Code.{RoutineData}
use Rattle.tac_ir.specs.declared.step.Parameter.{Parameter}
use Rattle.tac_ir.specs.declared.step.Step.{Step}
use Rattle.tac_ir.specs.declared.step.Step.TheVariants as S
use Rattle.source_values.specs.Rows.{TypesAreSmall}
use Rattle.compiled_files.proofs.Soundness.Adding as Adding
use Rattle.compiled_files.proofs.Soundness.Begins as Begins
use Rattle.compiled_files.proofs.Soundness.Begins.{Begun, In}
use Rattle.compiled_files.proofs.Soundness.BlockSizes.{Among, BeginsWith, begins_so, begun_size, parameter_size}
use Rattle.compiled_files.proofs.Soundness.Bodies as Bodies
use Rattle.compiled_files.proofs.Soundness.Bodies.{no_more}
use Rattle.compiled_files.proofs.Soundness.Declared.{counted, declared}
use Rattle.compiled_files.proofs.Soundness.Functions as Functions
use Rattle.compiled_files.proofs.Soundness.Scoping as Scoping
use Rattle.compiled_files.proofs.Soundness.Sitting.{StatementSits}
use Rattle.c_well_typed.proofs.Sizing.{at_all, get_from, get_map, index_map}

-- ---- lists

append_front : {A : Type 0} (a b : List A) (x : ℕ) (l : A) → slice_get (a ++ b) x ≡ Some l → x < length a → slice_get a x ≡ Some l
append_front [] b x l e h = absurd (let r : x < 0 = h in omega (arith, r))
append_front (y ∷ a) b zero l e h = e
append_front (y ∷ a) b (suc x) l e h = append_front a b x l e (omega (arith, h))

append_long : {A : Type 0} (a b : List A) → length (a ++ b) ≡ length a + length b
append_long [] b = omega arith
append_long (x ∷ a) b = let h = append_long a b in omega (arith, h)

pub in_front_part : {A : Type 0} (a b : List A) (x : ℕ) (l : A) → slice_get a x ≡ Some l → slice_get (a ++ b) x ≡ Some l
in_front_part [] b x l e = cc
in_front_part (y ∷ a) b zero l e = e
in_front_part (y ∷ a) b (suc x) l e = in_front_part a b x l e

module _ (p : ProgramData) (typed : AreWellTyped (of_program p)) (printable : IsPrintable p) (small : TypesAreSmall p) (names : HasNone (IsMissing p))
    (scoped : TypedHaveScopes) (i : ℕ) (f : FunctionData) (body : Statement ℕ) (is : slice_get p.functions i ≡ Some f) (has : f.body ≡ Some body) (k : ℕ) where
  abbrev pub locals : List Local
  locals = all_locals f

  abbrev pub out : Out
  out = body_code p k f body

  abbrev pub g : RoutineData
  g = routine_of p f out

  abbrev pub size : ℕ → ℕ
  size = Functions.size p typed printable small names f

  abbrev Good : Step → Type 0
  Good = Adding.Good p (lowered p) (Functions.places p typed printable small names) g size (HasBody (lowered p))

  sits : StatementSits p (lowered p) (Functions.objects p typed printable small names) (HasBody (lowered p)) locals size body
  sits = Functions.body_sits p typed printable small names i f body is has (HasBody (lowered p)) (Functions.declared_code p typed printable small names)

  fallen_good : Good (S.Return (fallen p k locals))
  fallen_good =
      Scoping.fallen_good p (lowered p) (Functions.places p typed printable small names) g size (HasBody (lowered p)) locals (Each Good)
      (λ s code good h. (good, h)) k

  pub good : Each Good g.code
  good = Bodies.body_adds p (lowered p) (Functions.places p typed printable small names) size (HasBody (lowered p)) k f body (Each Good)
      (λ s code good h. (good, h))
      (fallen_good, tt) sits

  -- ---- blocks begin

  -- what begins a local stands at the front of its scope
  start : (x : ℕ) (l : Local) → slice_get locals x ≡ Some l → l.block ≡ true → (own : List ℕ) → In x own → (code : Steps)
      → Among (S.Begin x (size_at p l.ty)) (begins_code p k locals own code)
  start x l there b [] j code = absurd j
  start x l there b (y ∷ more) (inl e) code =
      let rest = begins_code p k locals more code in
      let begun : Among (S.Begin x (size_at p l.ty)) (begin_code p k locals (Some l) x rest) =
      subst (λ b. Among (S.Begin x (size_at p l.ty)) (if b then S.Begin x (size_at p l.ty) ∷ rest else S.Clear x ∷ rest)) (sym b) (inl refl) in
      let known : Among (S.Begin x (size_at p l.ty)) (begin_code p k locals (slice_get locals x) x rest) =
      subst (λ o. Among (S.Begin x (size_at p l.ty)) (begin_code p k locals o x rest)) (sym there) begun in
      subst (λ y. Among (S.Begin x (size_at p l.ty)) (begin_code p k locals (slice_get locals y) y rest)) e known
  start x l there b (y ∷ more) (inr j) code = by_local (slice_get locals y) (start x l there b more j code)
    where
      by_local : (o : Option Local) → Among (S.Begin x (size_at p l.ty)) (begins_code p k locals more code)
          → Among (S.Begin x (size_at p l.ty)) (begin_code p k locals o y (begins_code p k locals more code))
      by_local None h = h
      by_local (Some m) h = by_block m.block
        where
          by_block : (b : Bool) → Among (S.Begin x (size_at p l.ty))
              (if b then S.Begin y (size_at p m.ty) ∷ begins_code p k locals more code else S.Clear y ∷ begins_code p k locals more code)
          by_block true = inr h
          by_block false = inr h

  begins_in : (x : ℕ) (l : Local) → slice_get locals x ≡ Some l → l.block ≡ true → Begun x body → Among (S.Begin x (size_at p l.ty)) g.code
  begins_in x l there b begun =
      let P = Among (S.Begin x (size_at p l.ty)) in
      let places = Functions.places p typed printable small names in
      let add = λ (s : Step) (code : Steps) (good : Good s) (h : P code). inr h in
      let own = parameters_of p f in
      let blocks = have_blocks p k locals own in
      Begins.begun p (lowered p) places g size (HasBody (lowered p)) locals P add k
      (Bodies.low p (lowered p) places size (HasBody (lowered p)) k f body P add) x (start x l there b) body sits begun
      (scope_exits p k locals blocks own (function_exits p) (last_code p k f)) (scope_end p k locals blocks own (function_exits p) (last_code p k f)) []
      (no_more out.texts)

  -- ---- each local that is declared is begun

  body_scoped : IsScoped body
  body_scoped =
      let all = at_all HasScopes p.functions i f (scoped p typed.functions) is in
      (subst (λ b. IsScopedBody f b) has all).0

  no_declaration : is_declaration body ≡ false
  no_declaration =
      let w = Functions.body_printable p typed printable small names i f body is has in
      ap is_declaration w.0.2

  is_begun : (x : ℕ) → length f.parameters ≤ x → x < length f.parameters + length f.locals → Begun x body
  is_begun x low high =
      let w = Functions.body_printable p typed printable small names i f body is has in
      let t = Functions.body_typed p typed printable small names i f body is has in
      let all : all_declared body ≡ _ = t.3.2 in
      declared (type_at p) x p.records (local_types p f) body body_scoped w.2 no_declaration
      (subst (In x) (sym all) (counted x (length f.parameters) (length f.locals) low high))

  -- ---- sizes

  pub own_size : (x : ℕ) (l : Local) → slice_get locals x ≡ Some l → size x ≡ size_at p l.ty
  own_size x l e = index_map (λ (l : Local). size_at p l.ty) locals x l e

  -- a parameter takes no more than its local
  within : (l : Local) (n : ℕ) → n ≡ size_at p l.ty → block_size (parameter_of p l) ≤ n
  within l n e = by_block l.block
    where
      by_block : (b : Bool) → (if b then size_at p l.ty else 0) ≤ n
      by_block true = omega (arith, e)
      by_block false = omega arith

  parameter_within : (x : ℕ) (r : Parameter) → slice_get g.parameters x ≡ Some r → block_size r ≤ size x
  parameter_within x r e =
      let l = get_from (parameter_of p) f.parameters x r e in
      subst (λ (r : Parameter). block_size r ≤ size x) l.2 (within l.0 (size x) (own_size x l.0 (in_front_part f.parameters f.locals x l.0 l.1)))

  begins_with : (code : Steps) → Each Good code → Each (BeginsWith size) code
  begins_with [] h = tt
  begins_with (s ∷ more) h = (begins_so size g.texts s h.0.1, begins_with more h.1)

  -- the block of a local has its size
  pub block_is : (x : ℕ) → slice_get g.locals x ≡ Some true → slice_index (block_sizes g) x ≡ size x
  block_is x e =
      let l = get_from (λ (l : Local). l.block) locals x true e in
      let below = slice_get_within locals x l.0 l.1 in
      let long = Bodies.as_many (λ (l : Local). l.block) locals in
      by_parameter l.0 l.1 l.2 (omega (arith, below, long)) (nat_lt x (length f.parameters)) refl
    where
      by_parameter : (l : Local) → slice_get locals x ≡ Some l → l.block ≡ true → x < length g.locals → (b : Bool) → nat_lt x (length f.parameters) ≡ b
          → slice_index (block_sizes g) x ≡ size x
      by_parameter l there b below true t =
          let own = append_front f.parameters f.locals x l there (ltb-true x (length f.parameters) t) in
          let whole : block_size (parameter_of p l) ≡ size x =
          ap (λ (b : Bool). if b then size_at p l.ty else 0) b ∙ sym (own_size x l there) in
          parameter_size g size parameter_within (begins_with g.code good) x (parameter_of p l) (get_map (parameter_of p) f.parameters x l own) whole below
      by_parameter l there b below false t =
          let past = ltb-false x (length f.parameters) t in
          let h = slice_get_within locals x l there in
          let long = append_long f.parameters f.locals in
          let begun = is_begun x (omega (arith, past)) (omega (arith, h, long)) in
          begun_size g size parameter_within (begins_with g.code good) x (size_at p l.ty) (sym (own_size x l there)) below (begins_in x l there b begun)
