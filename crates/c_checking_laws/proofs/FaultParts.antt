-- Where finding stops in an expression, a rule is broken: one lemma for each alternative of the grammar.
use Rattle.std.proofs.Common.{◌≡◌, ◌≢◌, ℕ, ◌≤◌, true, false, refl, sym, ap, subst, List, length, inl, inr}
use Rattle.std.specs.Prelude.{Option, Some, None, Ok, Err, ◌⊎◌, map, slice_get}
use Rattle.lay_base.specs.declared.faults.Rule.TheVariants as R
use Rattle.lay_base.specs.declared.place.Place.{Place}
use Rattle.c_types.specs.Types.{CType}
use Rattle.c_ast.specs.declared.words.Spelling.{Spelling}
use Rattle.c_ast.specs.declared.operators.UnaryOp.{UnaryOp}
use Rattle.c_ast.specs.declared.operators.UnaryOp.TheVariants as U
use Rattle.c_ast.specs.declared.operators.BinaryOp.{BinaryOp}
use Rattle.c_ast.specs.declared.operators.AssignOp.{AssignOp}
use Rattle.c_ast.specs.declared.operators.StepOp.{StepOp}
use Rattle.c_ast.specs.Trees
use Rattle.c_ast.specs.Places.{first}
use Rattle.c_typed.specs.declared.operators.UnaryOp.TheVariants as TU
use Rattle.c_typed.specs.declared.operators.BinaryOp as TypedBinary
use Rattle.c_typed.specs.Conversions.{is_record}
use Rattle.c_typed.specs.Rules.{is_stepped}
use Rattle.c_erasure.specs.Broken.{Fault, ill_typed, IsThing, HasNoValue, IsSound, IsBroken, IsBrokenUnary, IsBrokenAssignment, IsNoConstant, IsFunctionType}
use Rattle.c_erasure.specs.Broken as Broken
use Rattle.c_erasure.specs.Erasure.{place_in, Erases}
use Rattle.c_erasure.specs.Noted.{Expression, Path, Thing, an_object, type_of_path}
use Rattle.c_erasure.specs.Operators.{kind_of, update_of, step_of}
use Rattle.c_erasure.specs.Scopes.{FileScope, Scope, ended, measured, for_value, Purpose, in_full, value_alone, type_alone}
use Rattle.c_erasure.specs.Checking.Answers.{Answer, ◌>>=◌, Checked, with_file, moved}
use Rattle.c_erasure.specs.Checking.Nodes.{worth, array_of, element_in, index_in, dot_in, arrow_in, step_in, address_in, deref_in, unary_in, not_in}
use Rattle.c_erasure.specs.Checking.Nodes.{measured_in}
use Rattle.c_erasure.specs.Checking.Nodes.{binary_in, tested}
use Rattle.c_erasure.specs.Checking.Nodes.{chosen_in, Target, scalar_at, record_at, path_of, target_in, assigned_in, copied_in, updated_in, comma_in}
use Rattle.c_erasure.specs.Checking.Declaring.{constant_in, literal_in, literal_for}
use Rattle.c_erasure.specs.Checking.Finding.{complete, value_at, tested_at, on_value, unary_on, constant_at, subscripted, assigned}
use Rattle.c_checking_laws.proofs.Results.{bound_ok, with_file_ok}
use Rattle.c_checking_laws.proofs.Extends.{Extends, itself, further, constants_stay}
use Rattle.c_checking_laws.proofs.Agreement.{IsObjectType, IsSteady}
use Rattle.c_checking_laws.proofs.Values as Values
use Rattle.c_checking_laws.proofs.Values.{Stands, unconverted_same, worth_made}
use Rattle.c_checking_laws.proofs.NodesOfTwo.{target_made, target_type, IsTarget}
use Rattle.c_checking_laws.proofs.Found.{Found, FoundValue, valued, tested_found}
use Rattle.c_checking_laws.proofs.FaultResults as Results
use Rattle.c_checking_laws.proofs.FaultResults.{bound_err, with_file_err, beside_err, Reaches, reaches_then, here, there, whole, later}
use Rattle.c_checking_laws.proofs.FaultNodes.{worth_fault, element_fault, array_is, index_fault, dot_fault, arrow_fault, step_fault, address_fault, deref_fault}
use Rattle.c_checking_laws.proofs.FaultNodes.{unary_fault}
use Rattle.c_checking_laws.proofs.FaultNodes.{not_fault, measured_fault, binary_fault, tested_fault, chosen_fault, assigned_fault, copied_fault, updated_fault}
use Rattle.c_checking_laws.proofs.FaultNodes.{comma_fault}
use Rattle.c_checking_laws.proofs.FaultDeclaring.{constant_fault}
use Rattle.c_checking_laws.proofs.FaultPremises.{thing_proper}

pub literal_stops : (s : Scope) (at : Place) (bytes : List ℕ) (f : Fault) → literal_in s at bytes ≡ Err f → ⊥
unfolding literal_in
literal_stops s at bytes f h = by_purpose s.purpose h
  where
    by_purpose : (p : Purpose) → literal_for p s at bytes ≡ Err f → ⊥
    by_purpose in_full h = cc
    by_purpose value_alone h = cc
    by_purpose type_alone h = cc

pub value_is : (a : Trees.Expression) (s : Scope) (x : Expression) → Values.IsValue (Erases a s) s x → Broken.IsValue a s x
value_is a s x v = (v.0, v.1, unconverted_same x v.2)

module _ (untagged : ℕ → List ℕ) (May : FileScope → Type 0) where
  -- what is known of finding a part
  pub record Read (s : Scope) (a : Trees.Expression) (r : Checked Thing) : Type 0 where
    pub steady : IsSteady s.file
    pub locals : (k : ℕ) (t : CType) → slice_get (map (λ l. l.ty) s.locals) k ≡ Some t → IsObjectType t
    pub sound : (y : Thing × FileScope) → r ≡ Ok y → Found untagged s a y
    pub reaches : (y : Thing × FileScope) → r ≡ Ok y → Reaches May s.file s.is_inside y.1
    pub names : (f : Fault) → r ≡ Err f → Results.Broken May s (λ s. IsBroken a s f)

  -- a value that is found, which stands for its part in each larger file
  pub record FoundPart (s : Scope) (a : Trees.Expression) (x : Expression × FileScope) : Type 0 where
    pub found : FoundValue untagged s a x
    pub reaches : Reaches May s.file s.is_inside x.1
    pub stands : (g : FileScope) → Extends x.1 g → IsSound a (moved s g)

  pub thing_stands : {s : Scope} {a : Trees.Expression} {y : Thing × FileScope} → Found untagged s a y → (g : FileScope) → Extends y.1 g
      → IsThing a (moved s g) y.0
  thing_stands v g p = let h = v.holds g p in (h.0, h.1)

  pub value_stands : {s : Scope} {a : Trees.Expression} {x : Expression × FileScope} → FoundPart s a x → (g : FileScope) → Extends x.1 g
      → Broken.IsValue a (moved s g) x.0
  value_stands {s} {a} {x} v g p = value_is a (moved s g) x.0 (v.found.holds g p)

  -- what is found has no value
  pub worthless : (s : Scope) (a : Trees.Expression) (r : Checked Thing) → Read s a r → (y : Thing × FileScope) → r ≡ Ok y → (f : Fault)
      → worth (first a) y.0 ≡ Err f → Results.Broken May s (λ s. HasNoValue a s f)
  worthless s a r part y e f h =
      let v = part.sound y e in
      let t = thing_stands v y.1 (itself y.1) in
      let w = worth_fault (first a) y.0 (thing_proper (moved s y.1) (v.grew.steady part.steady) part.locals y.0 t.1) f h in
      there May s (λ s. HasNoValue a s f) y.1 (part.reaches y e) (y.0, w.0, t, w.1, w.2)

  found_part : (s : Scope) (a : Trees.Expression) (r : Checked Thing) → Read s a r → (x : Expression × FileScope) → value_at (first a) r ≡ Ok x
      → FoundPart s a x
  found_part s a r part x h =
      let y = bound_ok r _ x h in
      let w = with_file_ok y.0.1 (worth (first a) y.0.0) x y.2 in
      let v = part.sound y.0 y.1 in
      record {
        found = valued untagged a s (first a) r part.sound x h;
        reaches = subst (λ f. Reaches May s.file s.is_inside f) w.1 (part.reaches y.0 y.1);
        stands = λ g p. (y.0.0, thing_stands v g (subst (λ f. Extends f g) (sym w.1) p));
      }

  -- the value of a part stops, or what is done with it
  pub value_part : {B : Type 0} (s : Scope) (a : Trees.Expression) (r : Checked Thing) → Read s a r
      → (k : Expression × FileScope → Answer B) (f : Fault) (P : Type 0)
      → (value_at (first a) r >>= k) ≡ Err f → (Results.Broken May s (λ s. IsBroken a s f) → P) → (Results.Broken May s (λ s. HasNoValue a s f) → P)
      → ((x : Expression × FileScope) → FoundPart s a x → value_at (first a) r ≡ Ok x → k x ≡ Err f → P) → P
  value_part s a r part k f P h p q o =
      bound_err (value_at (first a) r) k f P h
      (λ e. bound_err r _ f P e (λ e. p (part.names f e)) (λ y e h. q (worthless s a r part y e f (with_file_err y.1 (worth (first a) y.0) f h))))
      (λ x e h. o x (found_part s a r part x e) e h)

  -- ---- constants (6.6)

  abbrev pub StopsAtConstant : Trees.Expression → Fault → Scope → Type 0
  StopsAtConstant a f s = IsBroken a (for_value s) f ⊎ HasNoValue a (for_value s) f ⊎ IsNoConstant a s f

  pub constant_stops : (s : Scope) (a : Trees.Expression) (r : Checked Thing) → Read (for_value s) a r → (f : Fault)
      → constant_at (first a) (value_at (first a) r) ≡ Err f → Results.Broken May s (StopsAtConstant a f)
  constant_stops s a r part f h =
      value_part (for_value s) a r part _ f (Results.Broken May s (StopsAtConstant a f)) h
      (λ b. record { file = b.file; reaches = b.reaches; is = inl b.is })
      (λ b. record { file = b.file; reaches = b.reaches; is = inr (inl b.is) })
      (λ x v e h.
      let c = constant_fault (first a) x.0 f (with_file_err x.1 (constant_in (first a) x.0) f h) in
      record { file = x.1; reaches = v.reaches; is = inr (inr (c.0, (x.0, value_stands v x.1 (itself x.1), c.1))) })

  -- ---- subscripts and members (6.5.2.1, 6.5.2.3)

  pub index_stops : (s : Scope) (a : Trees.Expression) (left : ℕ) (b : Trees.Expression) (right : ℕ) (r : Checked Thing) → Read s a r
      → (y : Thing × FileScope) → r ≡ Ok y → (number : FileScope → Checked Thing) → Read (moved s y.1) b (number y.1) → (f : Fault)
      → subscripted (complete s (first a)) (first a) left (place_in s (first a)) y.0 y.1 (λ f. value_at (first b) (number f)) (array_of y.0) ≡ Err f
      → Results.Broken May s (λ s. IsBroken (Trees.index a left b right) s f)
  index_stops s a left b right r part y e number next f h = by_array (array_of y.0) refl h
    where
      v : Found untagged s a y
      v = part.sound y e

      by_array : (o : Option (Path × CType)) → array_of y.0 ≡ o
          → subscripted (complete s (first a)) (first a) left (place_in s (first a)) y.0 y.1 (λ f. value_at (first b) (number f)) o ≡ Err f
          → Results.Broken May s (λ s. IsBroken (Trees.index a left b right) s f)
      by_array (Some p) w h =
          value_part (moved s y.1) b (number y.1) next _ f (Results.Broken May s (λ s. IsBroken (Trees.index a left b right) s f)) h
          (λ i. later May s y.1 (part.reaches y e) (λ s. IsBroken b s f) (λ s. IsBroken (Trees.index a left b right) s f) i
          (λ g p h. inr (inl ((y.0, thing_stands v g p), h))))
          (λ i. later May s y.1 (part.reaches y e) (λ s. HasNoValue b s f) (λ s. IsBroken (Trees.index a left b right) s f) i
          (λ g p h. inr (inr (inr (inl ((y.0, thing_stands v g p), h))))))
          (λ i u k h.
          let n = element_fault left (place_in s (first a)) p i.0 f (with_file_err i.1 (element_in left (place_in s (first a)) p i.0) f h) in
          there May s (λ s. IsBroken (Trees.index a left b right) s f) i.1 (reaches_then (part.reaches y e) u.reaches)
          (inr (inr (inr (inr (inl (n.0, ((y.0, thing_stands v i.1 u.found.grew.extends, array_is y.0 p w), (i.0, value_stands u i.1 (itself i.1), n.1)))))))))
      by_array None w h =
          beside_err y.1 (worth (first a) y.0) _ f (Results.Broken May s (λ s. IsBroken (Trees.index a left b right) s f)) h
          (λ k. whole May s (λ s. HasNoValue a s f) (λ s. IsBroken (Trees.index a left b right) s f) (worthless s a r part y e f k) (λ g p h. inr (inr (inl h))))
          (λ x k h.
          value_part (moved s y.1) b (number y.1) next _ f (Results.Broken May s (λ s. IsBroken (Trees.index a left b right) s f)) h
          (λ i. later May s y.1 (part.reaches y e) (λ s. IsBroken b s f) (λ s. IsBroken (Trees.index a left b right) s f) i
          (λ g p h. inr (inl ((y.0, thing_stands v g p), h))))
          (λ i. later May s y.1 (part.reaches y e) (λ s. HasNoValue b s f) (λ s. IsBroken (Trees.index a left b right) s f) i
          (λ g p h. inr (inr (inr (inl ((y.0, thing_stands v g p), h))))))
          (λ i u j h.
          let q = further v.grew.extends u.found.grew.extends in
          let h = with_file_err i.1 (index_in (complete s (first a)) left (place_in s (first a)) x i.0) f h in
          let g = constants_stay q (λ ends file. index_in (ended ends (first a)) left (place_in s (first a)) x i.0 ≡ Err f) h in
          let n = index_fault (complete (moved s i.1) (first a)) left (place_in s (first a)) x i.0 f g in
          let m = (worth_made (Erases a (moved s i.1)) (moved s i.1) (first a) y.0 (v.holds i.1 u.found.grew.extends) x k).0 in
          there May s (λ s. IsBroken (Trees.index a left b right) s f) i.1 (reaches_then (part.reaches y e) u.reaches)
          (inr (inr (inr (inr (inr (n.0, (x, i.0, value_is a (moved s i.1) x m, value_stands u i.1 (itself i.1), n.1)))))))))

  pub dot_stops : (s : Scope) (a : Trees.Expression) (at : ℕ) (x : Spelling) (r : Checked Thing) → Read s a r
      → ((y : Thing × FileScope) → r ≡ Ok y → ended s.file.ends at ≤ length y.1.records) → (f : Fault)
      → (r >>= λ p. with_file p.1 (dot_in p.1.records (complete s at) x.from (place_in s (first a)) p.0 x.text)) ≡ Err f
      → Results.Broken May s (λ s. IsBroken (Trees.dot a at x) s f)
  dot_stops s a at x r part known f h =
      bound_err r _ f (Results.Broken May s (λ s. IsBroken (Trees.dot a at x) s f)) h
      (λ e. whole May s (λ s. IsBroken a s f) (λ s. IsBroken (Trees.dot a at x) s f) (part.names f e) (λ g p h. inl h))
      (λ y e h.
      let v = part.sound y e in
      let h = with_file_err y.1 (dot_in y.1.records (complete s at) x.from (place_in s (first a)) y.0 x.text) f h in
      let g = constants_stay v.grew.extends (λ ends file. dot_in y.1.records (ended ends at) x.from (place_in s (first a)) y.0 x.text ≡ Err f) h in
      let l = constants_stay v.grew.extends (λ ends file. ended ends at ≤ length y.1.records) (known y e) in
      let n = dot_fault (moved s y.1) at x.from (place_in s (first a)) y.0 x.text l f g in
      there May s (λ s. IsBroken (Trees.dot a at x) s f) y.1 (part.reaches y e) (inr (n.0, (y.0, thing_stands v y.1 (itself y.1), (n.1, n.2)))))

  pub arrow_stops : (s : Scope) (a : Trees.Expression) (at : ℕ) (x : Spelling) (r : Checked Thing) → Read s a r
      → ((y : Expression × FileScope) → value_at (first a) r ≡ Ok y → ended s.file.ends (first a) ≤ length y.1.records) → (f : Fault)
      → (value_at (first a) r >>= λ e. with_file e.1 (arrow_in e.1.records (complete s (first a)) x.from (place_in s (first a)) e.0 x.text)) ≡ Err f
      → Results.Broken May s (λ s. IsBroken (Trees.arrow a at x) s f)
  arrow_stops s a at x r part known f h =
      value_part s a r part _ f (Results.Broken May s (λ s. IsBroken (Trees.arrow a at x) s f)) h
      (λ b. whole May s (λ s. IsBroken a s f) (λ s. IsBroken (Trees.arrow a at x) s f) b (λ g p h. inl h))
      (λ b. whole May s (λ s. HasNoValue a s f) (λ s. IsBroken (Trees.arrow a at x) s f) b (λ g p h. inr (inl h)))
      (λ y v e h.
      let q = v.found.grew.extends in
      let h = with_file_err y.1 (arrow_in y.1.records (complete s (first a)) x.from (place_in s (first a)) y.0 x.text) f h in
      let g = constants_stay q (λ ends file. arrow_in y.1.records (ended ends (first a)) x.from (place_in s (first a)) y.0 x.text ≡ Err f) h in
      let l = constants_stay q (λ ends file. ended ends (first a) ≤ length y.1.records) (known y e) in
      let n = arrow_fault (moved s y.1) (first a) x.from (place_in s (first a)) y.0 x.text l f g in
      there May s (λ s. IsBroken (Trees.arrow a at x) s f) y.1 v.reaches (inr (inr (n.0, (y.0, value_stands v y.1 (itself y.1), n.1), n.2))))

  -- ---- unary operators (6.5.2.4, 6.5.3)

  pub post_stops : (s : Scope) (a : Trees.Expression) (op : StepOp) (at : ℕ) (r : Checked Thing) → Read s a r → (f : Fault)
      → (r >>= λ p. with_file p.1 (step_in (complete s (first a)) (first a) at (place_in s (first a)) (step_of op) false p.0)) ≡ Err f
      → Results.Broken May s (λ s. IsBroken (Trees.post a op at) s f)
  post_stops s a op at r part f h =
      bound_err r _ f (Results.Broken May s (λ s. IsBroken (Trees.post a op at) s f)) h
      (λ e. whole May s (λ s. IsBroken a s f) (λ s. IsBroken (Trees.post a op at) s f) (part.names f e) (λ g p h. inl h))
      (λ y e h.
      let v = part.sound y e in
      let h = with_file_err y.1 (step_in (complete s (first a)) (first a) at (place_in s (first a)) (step_of op) false y.0) f h in
      let g = constants_stay v.grew.extends (λ ends file. step_in (ended ends (first a)) (first a) at (place_in s (first a))
      (step_of op) false y.0 ≡ Err f) h in
      let t = thing_stands v y.1 (itself y.1) in
      there May s (λ s. IsBroken (Trees.post a op at) s f) y.1 (part.reaches y e)
      (by_rule y v (step_fault (complete (moved s y.1) (first a)) (first a) at (place_in s (first a)) (step_of op) false y.0 f g)))
    where
      by_rule : (y : Thing × FileScope) → Found untagged s a y
          → ((f ≡ ill_typed R.Lvalue (first a)) × Broken.IsNoObject y.0)
          ⊎ ((t : CType) × (f ≡ ill_typed R.Operands at) × Broken.IsObjectOf y.0 t × (is_stepped (complete (moved s y.1) (first a)) t ≡ false))
          → IsBroken (Trees.post a op at) (moved s y.1) f
      by_rule y v (inl n) = inr (inl (n.0, (y.0, thing_stands v y.1 (itself y.1), n.1)))
      by_rule y v (inr n) = inr (inr (n.0, n.1, (y.0, thing_stands v y.1 (itself y.1), n.2), n.3))

  pub pre_stops : (s : Scope) (op : StepOp) (at : ℕ) (a : Trees.Expression) (r : Checked Thing) → Read s a r → (f : Fault)
      → (r >>= λ p. with_file p.1 (step_in (complete s at) (first a) at (place_in s at) (step_of op) true p.0)) ≡ Err f
      → Results.Broken May s (λ s. IsBroken (Trees.pre op at a) s f)
  pre_stops s op at a r part f h =
      bound_err r _ f (Results.Broken May s (λ s. IsBroken (Trees.pre op at a) s f)) h
      (λ e. whole May s (λ s. IsBroken a s f) (λ s. IsBroken (Trees.pre op at a) s f) (part.names f e) (λ g p h. inl h))
      (λ y e h.
      let v = part.sound y e in
      let h = with_file_err y.1 (step_in (complete s at) (first a) at (place_in s at) (step_of op) true y.0) f h in
      let g = constants_stay v.grew.extends (λ ends file. step_in (ended ends at) (first a) at (place_in s at) (step_of op) true y.0 ≡ Err f) h in
      there May s (λ s. IsBroken (Trees.pre op at a) s f) y.1 (part.reaches y e)
      (by_rule y v (step_fault (complete (moved s y.1) at) (first a) at (place_in s at) (step_of op) true y.0 f g)))
    where
      by_rule : (y : Thing × FileScope) → Found untagged s a y
          → ((f ≡ ill_typed R.Lvalue (first a)) × Broken.IsNoObject y.0)
          ⊎ ((t : CType) × (f ≡ ill_typed R.Operands at) × Broken.IsObjectOf y.0 t × (is_stepped (complete (moved s y.1) at) t ≡ false))
          → IsBroken (Trees.pre op at a) (moved s y.1) f
      by_rule y v (inl n) = inr (inl (n.0, (y.0, thing_stands v y.1 (itself y.1), n.1)))
      by_rule y v (inr n) = inr (inr (n.0, n.1, (y.0, thing_stands v y.1 (itself y.1), n.2), n.3))

  on_value_stops : (s : Scope) (op : UnaryOp) → op ≢ U.Address → (at : ℕ) (a : Trees.Expression) (x : Expression × FileScope) → FoundPart s a x → (f : Fault)
      → with_file x.1 (on_value op (complete s at) at s x.0) ≡ Err f → IsBrokenUnary op at a (moved s x.1) f
  on_value_stops s U.Deref o at a x v f h =
      let h = with_file_err x.1 (deref_in (complete s at) (place_in s at) x.0) f h in
      let g = constants_stay v.found.grew.extends (λ ends file. deref_in (ended ends at) (place_in s at) x.0 ≡ Err f) h in
      let n = deref_fault (complete (moved s x.1) at) (place_in s at) x.0 f g in
      inr (n.0, n.1, (x.0, value_stands v x.1 (itself x.1), n.2))
  on_value_stops s U.Plus o at a x v f h =
      let n = unary_fault (place_in s at) TU.Plus x.0 f (with_file_err x.1 (unary_in (place_in s at) TU.Plus x.0) f h) in
      inr (n.0, (x.0, value_stands v x.1 (itself x.1), n.1))
  on_value_stops s U.Minus o at a x v f h =
      let n = unary_fault (place_in s at) TU.Minus x.0 f (with_file_err x.1 (unary_in (place_in s at) TU.Minus x.0) f h) in
      inr (n.0, (x.0, value_stands v x.1 (itself x.1), n.1))
  on_value_stops s U.Complement o at a x v f h =
      let n = unary_fault (place_in s at) TU.Complement x.0 f (with_file_err x.1 (unary_in (place_in s at) TU.Complement x.0) f h) in
      inr (n.0, (x.0, value_stands v x.1 (itself x.1), n.1))
  on_value_stops s U.Not o at a x v f h =
      let n = not_fault (place_in s at) x.0 f (with_file_err x.1 (not_in (place_in s at) x.0) f h) in
      inr (n.0, (x.0, value_stands v x.1 (itself x.1), n.1))
  on_value_stops s U.Address o at a x v f h = absurd (o refl)

  value_stops : (s : Scope) (op : UnaryOp) (at : ℕ) (a : Trees.Expression) (r : Checked Thing) → Read s a r → (f : Fault)
      → ((s : Scope) → HasNoValue a s f → IsBrokenUnary op at a s f)
      → ((x : Expression × FileScope) → FoundPart s a x → with_file x.1 (on_value op (complete s at) at s x.0) ≡ Err f → IsBrokenUnary op at a (moved s x.1) f)
      → (value_at (first a) r >>= λ x. with_file x.1 (on_value op (complete s at) at s x.0)) ≡ Err f
      → Results.Broken May s (λ s. IsBroken (Trees.unary op at a) s f)
  value_stops s op at a r part f no_value on h =
      value_part s a r part _ f (Results.Broken May s (λ s. IsBroken (Trees.unary op at a) s f)) h
      (λ b. whole May s (λ s. IsBroken a s f) (λ s. IsBroken (Trees.unary op at a) s f) b (λ g p h. inl h))
      (λ b. whole May s (λ s. HasNoValue a s f) (λ s. IsBroken (Trees.unary op at a) s f) b (λ g p h. inr (no_value (moved s g) h)))
      (λ x v e h. there May s (λ s. IsBroken (Trees.unary op at a) s f) x.1 v.reaches (inr (on x v h)))

  pub unary_stops : (s : Scope) (op : UnaryOp) (at : ℕ) (a : Trees.Expression) (r : Checked Thing) → Read s a r → (f : Fault)
      → unary_on op (complete s at) (first a) at s r ≡ Err f → Results.Broken May s (λ s. IsBroken (Trees.unary op at a) s f)
  unary_stops s U.Address at a r part f h =
      bound_err r _ f (Results.Broken May s (λ s. IsBroken (Trees.unary U.Address at a) s f)) h
      (λ e. whole May s (λ s. IsBroken a s f) (λ s. IsBroken (Trees.unary U.Address at a) s f) (part.names f e) (λ g p h. inl h))
      (λ y e h.
      let v = part.sound y e in
      there May s (λ s. IsBroken (Trees.unary U.Address at a) s f) y.1 (part.reaches y e)
      (inr (by_rule y (thing_stands v y.1 (itself y.1))
      (address_fault (first a) (place_in s at) y.0 f (with_file_err y.1 (address_in (first a) (place_in s at) y.0) f h)))))
    where
      by_rule : (y : Thing × FileScope) → IsThing a (moved s y.1) y.0
          → ((f ≡ Broken.too_big at) × Broken.IsOfGreatestType y.0) ⊎ (Broken.IsOnlyValue y.0 × (f ≡ Broken.misplaced y.0 R.Lvalue at (first a)))
          ⊎ ((f ≡ ill_typed R.Library (first a)) × Broken.IsLibrary y.0)
          → IsBrokenUnary U.Address at a (moved s y.1) f
      by_rule y t (inl n) = inl (n.0, (y.0, t, n.1))
      by_rule y t (inr (inl n)) = inr (inl (y.0, t, n))
      by_rule y t (inr (inr n)) = inr (inr (n.0, (y.0, t, n.1)))
  unary_stops s U.Deref at a r part f h = value_stops s U.Deref at a r part f (λ s n. inl n) (λ x v h. on_value_stops s U.Deref (λ e. cc) at a x v f h) h
  unary_stops s U.Plus at a r part f h = value_stops s U.Plus at a r part f (λ s n. inl n) (λ x v h. on_value_stops s U.Plus (λ e. cc) at a x v f h) h
  unary_stops s U.Minus at a r part f h = value_stops s U.Minus at a r part f (λ s n. inl n) (λ x v h. on_value_stops s U.Minus (λ e. cc) at a x v f h) h
  unary_stops s U.Complement at a r part f h = value_stops s U.Complement at a r part f (λ s n. inl n)
      (λ x v h. on_value_stops s U.Complement (λ e. cc) at a x v f h) h
  unary_stops s U.Not at a r part f h = value_stops s U.Not at a r part f (λ s n. inl n) (λ x v h. on_value_stops s U.Not (λ e. cc) at a x v f h) h

  -- ---- sizes (6.5.3.4)

  pub sizeof_stops : (s : Scope) (at : ℕ) (a : Trees.Expression) (r : Checked Thing) → Read (measured s) a r
      → ((y : Thing × FileScope) → r ≡ Ok y → ended s.file.ends at ≤ length y.1.records) → (f : Fault) → (y : Thing × FileScope) → r ≡ Ok y
      → measured_in y.1.records (complete s at) at (first a) y.0 ≡ Err f → Results.Broken May s (λ s. IsBroken (Trees.sizeof_expression at a) s f)
  sizeof_stops s at a r part known f y e h =
      let v = part.sound y e in
      let q : Extends s.file y.1 = v.grew.extends in
      let g = constants_stay q (λ ends file. measured_in y.1.records (ended ends at) at (first a) y.0 ≡ Err f) h in
      let l = constants_stay q (λ ends file. ended ends at ≤ length y.1.records) (known y e) in
      there May s (λ s. IsBroken (Trees.sizeof_expression at a) s f) y.1 (part.reaches y e)
      (by_rule (thing_stands v y.1 (itself y.1)) (measured_fault y.1.records (ended y.1.ends at) at (first a) y.0 l f g))
    where
      by_rule : IsThing a (measured (moved s y.1)) y.0
          → (Broken.IsSizeless (ended y.1.ends at) y.0 × (f ≡ Broken.misplaced y.0 R.Incomplete at (first a)))
          ⊎ ((f ≡ Broken.too_big at) × Broken.IsOfGreatSize (moved s y.1) y.0)
          → IsBroken (Trees.sizeof_expression at a) (moved s y.1) f
      by_rule t (inl n) = inr (inl (y.0, t, n))
      by_rule t (inr n) = inr (inr (n.0, (y.0, t, n.1)))

  -- ---- binary operators, `?:`, assignments and the comma (6.5.5 to 6.5.17)

  pub binary_stops : (s : Scope) (a : Trees.Expression) (op : BinaryOp) (at : ℕ) (b : Trees.Expression) (x : Expression × FileScope) → FoundPart s a x
      → (r : Checked Thing) → Read (moved s x.1) b r → (f : Fault)
      → (value_at (first b) r >>= λ y. with_file y.1 (binary_in (complete s (first a)) at (place_in s (first a)) (kind_of op) x.0 y.0)) ≡ Err f
      → Results.Broken May s (λ s. IsBroken (Trees.binary a op at b) s f)
  binary_stops s a op at b x v r part f h =
      value_part (moved s x.1) b r part _ f (Results.Broken May s (λ s. IsBroken (Trees.binary a op at b) s f)) h
      (λ i. later May s x.1 v.reaches (λ s. IsBroken b s f) (λ s. IsBroken (Trees.binary a op at b) s f) i (λ g p h. inr (inl (v.stands g p, h))))
      (λ i. later May s x.1 v.reaches (λ s. HasNoValue b s f) (λ s. IsBroken (Trees.binary a op at b) s f) i
      (λ g p h. inr (inr (inr (inl (v.stands g p, h))))))
      (λ y w e h.
      let q = further v.found.grew.extends w.found.grew.extends in
      let h = with_file_err y.1 (binary_in (complete s (first a)) at (place_in s (first a)) (kind_of op) x.0 y.0) f h in
      let g = constants_stay q (λ ends file. binary_in (ended ends (first a)) at (place_in s (first a)) (kind_of op) x.0 y.0 ≡ Err f) h in
      let n = binary_fault (complete (moved s y.1) (first a)) at (place_in s (first a)) (kind_of op) x.0 y.0 f g in
      there May s (λ s. IsBroken (Trees.binary a op at b) s f) y.1 (reaches_then v.reaches w.reaches)
      (inr (inr (inr (inr (n.0, (x.0, y.0, value_stands v y.1 w.found.grew.extends, value_stands w y.1 (itself y.1), n.1)))))))

  pub comma_stops : (s : Scope) (a : Trees.Expression) (at : ℕ) (b : Trees.Expression) (x : Expression × FileScope) → FoundPart s a x
      → (r : Checked Thing) → Read (moved s x.1) b r → (f : Fault)
      → (value_at (first b) r >>= λ y. with_file y.1 (comma_in (place_in s (first a)) x.0 y.0)) ≡ Err f
      → Results.Broken May s (λ s. IsBroken (Trees.comma a at b) s f)
  comma_stops s a at b x v r part f h =
      value_part (moved s x.1) b r part _ f (Results.Broken May s (λ s. IsBroken (Trees.comma a at b) s f)) h
      (λ i. later May s x.1 v.reaches (λ s. IsBroken b s f) (λ s. IsBroken (Trees.comma a at b) s f) i (λ g p h. inr (inl (v.stands g p, h))))
      (λ i. later May s x.1 v.reaches (λ s. HasNoValue b s f) (λ s. IsBroken (Trees.comma a at b) s f) i
      (λ g p h. inr (inr (inr (v.stands g p, h)))))
      (λ y w e h. absurd (comma_fault (place_in s (first a)) x.0 y.0 f (with_file_err y.1 (comma_in (place_in s (first a)) x.0 y.0) f h)))

  -- the first operand of `?:`, which is tested
  pub tested_part : {B : Type 0} (s : Scope) (a : Trees.Expression) (question : ℕ) (b : Trees.Expression) (colon : ℕ) (c : Trees.Expression)
      → (r : Checked Thing) → Read s a r → (k : Expression × FileScope → Answer B) (f : Fault) → (tested_at question (value_at (first a) r) >>= k) ≡ Err f
      → ((x : Expression × FileScope) → FoundPart s a x → tested_at question (value_at (first a) r) ≡ Ok x → k x ≡ Err f
      → Results.Broken May s (λ s. IsBroken (Trees.cond a question b colon c) s f))
      → Results.Broken May s (λ s. IsBroken (Trees.cond a question b colon c) s f)
  tested_part s a question b colon c r part k f h o =
      bound_err (tested_at question (value_at (first a) r)) k f (Results.Broken May s (λ s. IsBroken (Trees.cond a question b colon c) s f)) h
      (λ e. value_part s a r part _ f (Results.Broken May s (λ s. IsBroken (Trees.cond a question b colon c) s f)) e
      (λ b'. whole May s (λ s. IsBroken a s f) (λ s. IsBroken (Trees.cond a question b colon c) s f) b' (λ g p h. inl h))
      (λ b'. whole May s (λ s. HasNoValue a s f) (λ s. IsBroken (Trees.cond a question b colon c) s f) b' (λ g p h. inr (inl h)))
      (λ x v e h.
      let n = tested_fault question x.0 f (with_file_err x.1 (tested question x.0) f h) in
      there May s (λ s. IsBroken (Trees.cond a question b colon c) s f) x.1 v.reaches
      (inr (inr (inl (n.0, (x.0, value_stands v x.1 (itself x.1), n.1)))))))
      (λ x e h.
      let y = bound_ok (value_at (first a) r) _ x e in
      let v = found_part s a r part y.0 y.1 in
      let w = with_file_ok y.0.1 (tested question y.0.0) x y.2 in
      let t = tested_found untagged s a question (value_at (first a) r) (λ x k. valued untagged a s (first a) r part.sound x k) x e in
      o x (record {
        found = t.0;
        reaches = subst (λ f. Reaches May s.file s.is_inside f) w.1 v.reaches;
        stands = λ g p. v.stands g (subst (λ f. Extends f g) (sym w.1) p);
      }) e h)

  pub choice_stops : (s : Scope) (a : Trees.Expression) (question : ℕ) (b : Trees.Expression) (colon : ℕ) (c : Trees.Expression)
      → (x : Expression × FileScope) → FoundPart s a x → (y : Expression × FileScope) → FoundPart (moved s x.1) b y
      → (r : Checked Thing) → Read (moved s y.1) c r → (f : Fault)
      → (value_at (first c) r >>= λ z. with_file z.1 (chosen_in colon (place_in s (first a)) x.0 y.0 z.0)) ≡ Err f
      → Results.Broken May s (λ s. IsBroken (Trees.cond a question b colon c) s f)
  choice_stops s a question b colon c x v y w r part f h =
      value_part (moved s y.1) c r part _ f (Results.Broken May s (λ s. IsBroken (Trees.cond a question b colon c) s f)) h
      (λ i. later May s y.1 (reaches_then v.reaches w.reaches) (λ s. IsBroken c s f) (λ s. IsBroken (Trees.cond a question b colon c) s f) i
      (λ g p h. inr (inr (inr (inr (inl (v.stands g (further w.found.grew.extends p), w.stands g p, inl h)))))))
      (λ i. later May s y.1 (reaches_then v.reaches w.reaches) (λ s. HasNoValue c s f) (λ s. IsBroken (Trees.cond a question b colon c) s f) i
      (λ g p h. inr (inr (inr (inr (inl (v.stands g (further w.found.grew.extends p), w.stands g p, inr h)))))))
      (λ z u e h.
      let n = chosen_fault colon (place_in s (first a)) x.0 y.0 z.0 f (with_file_err z.1 (chosen_in colon (place_in s (first a)) x.0 y.0 z.0) f h) in
      let p = u.found.grew.extends in
      there May s (λ s. IsBroken (Trees.cond a question b colon c) s f) z.1 (reaches_then (reaches_then v.reaches w.reaches) u.reaches)
      (inr (inr (inr (inr (inr (
        n.0,
        v.stands z.1 (further w.found.grew.extends p),
        (y.0, z.0, value_stands w z.1 p, value_stands u z.1 (itself z.1), n.1),
      )))))))

  pub assign_stops : (s : Scope) (a : Trees.Expression) (op : AssignOp) (at : ℕ) (b : Trees.Expression) (y : Thing × FileScope) → Found untagged s a y
      → Reaches May s.file s.is_inside y.1 → (t : Target) → target_in (first a) y.0 ≡ Ok t
      → (right : FileScope → Checked Thing) → Read (moved s y.1) b (right y.1) → (f : Fault)
      → assigned (complete s (first a)) at (first b) (place_in s (first a)) t y.1 right (update_of op) ≡ Err f
      → Results.Broken May s (λ s. IsBroken (Trees.assign a op at b) s f)
  assign_stops s a op at b y v r t k right part f h =
      by_parts t (update_of op) refl (target_made (Erases a s) (Erases a s) s 0 (first a) y.0 t k)
      (target_type (Erases a s) (Erases a s) s 0 (first a) y.0 t k) h
    where
      broken : Results.Broken May (moved s y.1) (λ s. IsBroken b s f) → Results.Broken May s (λ s. IsBroken (Trees.assign a op at b) s f)
      broken i = later May s y.1 r (λ s. IsBroken b s f) (λ s. IsBroken (Trees.assign a op at b) s f) i
          (λ g p h. inr (inl ((y.0, thing_stands v g p), h)))

      ruled : (g : FileScope) → Reaches May s.file s.is_inside g → (o : Option TypedBinary.BinaryOp) → update_of op ≡ o → IsBrokenAssignment o a at b (moved s g) f
          → Results.Broken May s (λ s. IsBroken (Trees.assign a op at b) s f)
      ruled g p o e n = there May s (λ s. IsBroken (Trees.assign a op at b) s f) g p
          (inr (inr (inr (subst (λ o. IsBrokenAssignment o a at b (moved s g) f) (sym e) n))))

      by_parts : (t : Target) (o : Option TypedBinary.BinaryOp) → update_of op ≡ o → y.0 ≡ an_object (path_of t) → IsTarget (Erases a s) (Erases a s) s 0 t
          → assigned (complete s (first a)) at (first b) (place_in s (first a)) t y.1 right o ≡ Err f
          → Results.Broken May s (λ s. IsBroken (Trees.assign a op at b) s f)
      by_parts t (Some update) e w i h =
          value_part (moved s y.1) b (right y.1) part _ f (Results.Broken May s (λ s. IsBroken (Trees.assign a op at b) s f)) h broken
          (λ n. ruled n.file (reaches_then r n.reaches) (Some update) e (inl ((y.0, thing_stands v n.file n.reaches.extends), n.is)))
          (λ x u k h.
          let q = u.found.grew.extends in
          let h = with_file_err x.1 (updated_in (complete s (first a)) at (place_in s (first a)) update (path_of t) x.0) f h in
          let g = constants_stay (further v.grew.extends q)
          (λ ends file. updated_in (ended ends (first a)) at (place_in s (first a)) update (path_of t) x.0 ≡ Err f) h in
          let n = updated_fault (complete (moved s x.1) (first a)) at (place_in s (first a)) update (path_of t) x.0 f g in
          let z : IsThing a (moved s x.1) (an_object (path_of t)) = subst (IsThing a (moved s x.1)) w (thing_stands v x.1 q) in
          ruled x.1 (reaches_then r u.reaches) (Some update) e
          (inr (type_of_path (path_of t), n.0, (an_object (path_of t), z, refl), (x.0, value_stands u x.1 (itself x.1), n.1))))
      by_parts (scalar_at to) None e w i h =
          value_part (moved s y.1) b (right y.1) part _ f (Results.Broken May s (λ s. IsBroken (Trees.assign a op at b) s f)) h broken
          (λ n.
          let z : IsThing a (moved s n.file) (an_object to) = subst (IsThing a (moved s n.file)) w (thing_stands v n.file n.reaches.extends) in
          ruled n.file (reaches_then r n.reaches) None e (inl (type_of_path to, (an_object to, z, (refl, i)), inl n.is)))
          (λ x u k h.
          let q = u.found.grew.extends in
          let n = assigned_fault at (place_in s (first a)) to x.0 f (with_file_err x.1 (assigned_in at (place_in s (first a)) to x.0) f h) in
          let z : IsThing a (moved s x.1) (an_object to) = subst (IsThing a (moved s x.1)) w (thing_stands v x.1 q) in
          ruled x.1 (reaches_then r u.reaches) None e
          (inl (type_of_path to, (an_object to, z, (refl, i)), inr (n.0, (x.0, value_stands u x.1 (itself x.1), n.1)))))
      by_parts (record_at to) None e w i h =
          bound_err (right y.1) _ f (Results.Broken May s (λ s. IsBroken (Trees.assign a op at b) s f)) h (λ k. broken (part.names f k))
          (λ x k h.
          let u = part.sound x k in
          let n = copied_fault at (first b) (place_in s (first a)) to x.0 f (with_file_err x.1 (copied_in at (first b) (place_in s (first a)) to x.0) f h) in
          let z : IsThing a (moved s x.1) (an_object to) = subst (IsThing a (moved s x.1)) w (thing_stands v x.1 u.grew.extends) in
          ruled x.1 (reaches_then r (part.reaches x k)) None e
          (inr (type_of_path to, (an_object to, z, (refl, ap is_record i.1)), (x.0, thing_stands u x.1 (itself x.1), n))))
