-- The code of a node is what is shown of it.
use Rattle.std.proofs.Common.{◌≡◌, [], ◌∷◌, ◌++◌, ◌+◌, ℕ, suc, Bool, true, false, List, length, map, refl, sym, ap, ◌∙◌, arith, Bor}
use Rattle.std.specs.Prelude.{reverse, Option, Some, None}
use Rattle.std.proofs.lemmas.List.{length-map, length-reverse, map-append, reverse-append, reverse-reverse}
use Rattle.lay_base.specs.declared.faults.UndefinedKind.TheVariants as K
use Rattle.lay_base.specs.declared.place.Place.{Place}
use Rattle.c_types.specs.Types.{CType, void, integer, pointer as pointer_to, array, function, structure}
use Rattle.c_typed.specs.declared.program.Local.{Local}
use Rattle.c_typed.specs.Programs.{ProgramData}
use Rattle.c_typed.specs.Typed.{at_of}
use Rattle.c_typed.specs.Views.{expression_of, expressions_of}
use Rattle.c_typed.specs.declared.expression.Expression.{Expression as Made}
use Rattle.c_typed.specs.Trees as T
use Rattle.c_typed.specs.Trees.{Expression, Path, expression, path}
use Rattle.c_meaning.specs.Program.{type_at}
use Rattle.tac_ir.specs.declared.step.Operand.{Operand}
use Rattle.tac_ir.specs.declared.step.Step.TheVariants as S
use Rattle.tac_ir.specs.declared.step.Target.{Target}
use Rattle.tac_ir.specs.declared.step.Target.TheVariants as To
use Rattle.lower_tac.specs.Expressions.{arguments_code, branch_code, branch_on, convert_code, convert_step, effect_code, is_void, member_code, named_root, part_code, part_of, value_code}
use Rattle.lower_tac.specs.Grounds.{addressed_code, branch_shown, decides, drops, effect_shown, leads_through, member_shown, to_place, to_value}
use Rattle.lower_tac.specs.Parts.{Part, Steps, code_of, operand, tested_if}

-- a list whose items have all been taken from the back
pub back_is : {X : Type 0} (ys : List (Bor X)) (all : List X) → map (λ y. y.now) ys ≡ reverse all → reverse (map (λ y. y.now) ys) ≡ all
back_is ys all e = ap reverse e ∙ reverse-reverse all

module _ (p : ProgramData) (l : List Local) where
  pub effect_is : (e : Expression ℕ) (d : ℕ) (code : Steps) → effect_code p l e d code ≡ effect_shown p l e d code
  effect_is (expression t at (T.constant v)) d code = refl
  effect_is (expression t at T.null) d code = refl
  effect_is (expression t at (T.function_name f)) d code = refl
  effect_is (expression t at (T.load q)) d code = refl
  effect_is (expression t at (T.address_of q)) d code = refl
  effect_is (expression t at (T.decay q)) d code = refl
  effect_is (expression t at (T.convert x w)) d code = refl
  effect_is (expression t at (T.unary op x)) d code = refl
  effect_is (expression t at (T.binary op x y)) d code = refl
  effect_is (expression t at (T.compare op x y)) d code = refl
  effect_is (expression t at (T.pointer_add op x y)) d code = refl
  effect_is (expression t at (T.pointer_difference x y)) d code = refl
  effect_is (expression t at (T.both x y)) d code = refl
  effect_is (expression t at (T.either x y)) d code = refl
  effect_is (expression t at (T.not x)) d code = refl
  effect_is (expression t at (T.choose x y z)) d code = refl
  effect_is (expression t at (T.comma x y)) d code = refl
  effect_is (expression t at (T.assign q x)) d code = refl
  effect_is (expression t at (T.assign_op op q x)) d code = refl
  effect_is (expression t at (T.step op b q)) d code = refl
  effect_is (expression t at (T.copy_record q r)) d code = refl
  effect_is (expression t at (T.call f all)) d code = refl
  effect_is (expression t at (T.call_through x all)) d code = refl
  effect_is (expression t at (T.library which all)) d code = refl
  effect_is (expression t at (T.allocate r n z)) d code = refl

  pub branch_is : (e : Expression ℕ) (when : Bool) (to : Target) (d : ℕ) (code : Steps) → branch_code p l e when to d code ≡ branch_shown p l e when to d code
  branch_is (expression t at (T.constant v)) when to d code = refl
  branch_is (expression t at T.null) when to d code = refl
  branch_is (expression t at (T.function_name f)) when to d code = refl
  branch_is (expression t at (T.load q)) when to d code = refl
  branch_is (expression t at (T.address_of q)) when to d code = refl
  branch_is (expression t at (T.decay q)) when to d code = refl
  branch_is (expression t at (T.convert x w)) when to d code = refl
  branch_is (expression t at (T.unary op x)) when to d code = refl
  branch_is (expression t at (T.binary op x y)) when to d code = refl
  branch_is (expression t at (T.compare op x y)) when to d code = refl
  branch_is (expression t at (T.pointer_add op x y)) when to d code = refl
  branch_is (expression t at (T.pointer_difference x y)) when to d code = refl
  branch_is (expression t at (T.both x y)) true to d code = refl
  branch_is (expression t at (T.both x y)) false to d code = refl
  branch_is (expression t at (T.either x y)) true to d code = refl
  branch_is (expression t at (T.either x y)) false to d code = refl
  branch_is (expression t at (T.not x)) when to d code = refl
  branch_is (expression t at (T.choose x y z)) when to d code = refl
  branch_is (expression t at (T.comma x y)) when to d code = refl
  branch_is (expression t at (T.assign q x)) when to d code = refl
  branch_is (expression t at (T.assign_op op q x)) when to d code = refl
  branch_is (expression t at (T.step op b q)) when to d code = refl
  branch_is (expression t at (T.copy_record q r)) when to d code = refl
  branch_is (expression t at (T.call f all)) when to d code = refl
  branch_is (expression t at (T.call_through x all)) when to d code = refl
  branch_is (expression t at (T.library which all)) when to d code = refl
  branch_is (expression t at (T.allocate r n z)) when to d code = refl

  pub member_is : (q : Path ℕ) (at : Place) (by to d : ℕ) (code : Steps) → member_code p l q at by to d code ≡ member_shown p l q at by to d code
  member_is (path u b (T.local n)) at by to d code = refl
  member_is (path u b (T.object n)) at by to d code = refl
  member_is (path u b (T.deref e)) at by to d code = refl
  member_is (path u b (T.index e i)) at by to d code = refl
  member_is (path u b (T.member q r field)) at by to d code = refl
  member_is (path u b (T.element q i)) at by to d code = refl

  pub address_of_is : (e : Expression ℕ) (t : ℕ) (at : Place) (q : Path ℕ) (to d : ℕ) (code : Steps) → e ≡ expression t at (T.address_of q)
      → value_code p l e to d code ≡ addressed_code p l true q at to d code
  address_of_is e t at q to d code is = rw is refl

  pub decay_is : (e : Expression ℕ) (t : ℕ) (at : Place) (q : Path ℕ) (to d : ℕ) (code : Steps) → e ≡ expression t at (T.decay q)
      → value_code p l e to d code ≡ addressed_code p l false q at to d code
  decay_is e t at q to d code is = rw is refl

  converts : (t : CType) (x : Part) (effect : Steps → Steps) (to d : ℕ) (code : Steps) → is_void t ≡ false
      → convert_code p l t x effect to d code ≡ code_of x d (convert_step t x.at to (operand x d) code)
  converts void x effect to d code e = cc
  converts (integer k) x effect to d code e = refl
  converts (pointer_to t) x effect to d code e = refl
  converts (array t n) x effect to d code e = refl
  converts (function t all) x effect to d code e = refl
  converts (structure n) x effect to d code e = refl

  convert_is : (e : Expression ℕ) (t : ℕ) (at : Place) (x : Expression ℕ) (w : Bool) (to d : ℕ) (code : Steps) → e ≡ expression t at (T.convert x w)
      → is_void (type_at p t) ≡ false
      → value_code p l e to d code ≡ code_of (to_value p l x) d (convert_step (type_at p t) (to_value p l x).at to (operand (to_value p l x) d) code)
  convert_is e t at x w to d code is scalar = rw is (converts (type_at p t) (to_value p l x) (effect_code p l x d) to d code scalar)

  pub converted : (e : Expression ℕ) (t : ℕ) (at : Place) (x : Expression ℕ) (w : Bool) (to d : ℕ) (o : Operand) (c0 c1 c2 : Steps)
      → e ≡ expression t at (T.convert x w) → is_void (type_at p t) ≡ false → o ≡ operand (to_value p l x) d
      → c1 ≡ convert_step (type_at p t) (at_of x) to o c0 → c2 ≡ code_of (to_value p l x) d c1 → c2 ≡ value_code p l e to d c0
  converted e t at x w to d o c0 c1 c2 is scalar a b c =
      c ∙ ap (code_of (to_value p l x) d) (b ∙ ap (λ (o : Operand). convert_step (type_at p t) (at_of x) to o c0) a) ∙ sym (convert_is e t at x w to d c0 is scalar)

  choose_is : (e : Expression ℕ) (t : ℕ) (at : Place) (x y z : Expression ℕ) (to d : ℕ) (code : Steps) → e ≡ expression t at (T.choose x y z)
      → value_code p l e to d code ≡ branch_code p l x false (To.Left (length (value_code p l z to d code))) d
      (value_code p l y to d (S.Jump (To.Left (length code)) ∷ value_code p l z to d code))
  choose_is e t at x y z to d code is = rw is refl

  pub chosen : (e : Expression ℕ) (t : ℕ) (at : Place) (x y z : Expression ℕ) (to d : ℕ) (end other : Target) (c0 c1 c2 c3 c4 : Steps)
      → e ≡ expression t at (T.choose x y z) → end ≡ To.Left (length c0) → c1 ≡ value_code p l z to d c0 → other ≡ To.Left (length c1)
      → c2 ≡ S.Jump end ∷ c1 → c3 ≡ value_code p l y to d c2 → c4 ≡ branch_code p l x false other d c3 → c4 ≡ value_code p l e to d c0
  chosen e t at x y z to d end other c0 c1 c2 c3 c4 is a b c f g h =
      let far : other ≡ To.Left (length (value_code p l z to d c0)) = c ∙ ap (λ (code : Steps). To.Left (length code)) b in
      let jump : c2 ≡ S.Jump (To.Left (length c0)) ∷ value_code p l z to d c0 = f ∙ ap (λ (to : Target). S.Jump to ∷ c1) a ∙ ap (◌∷◌ (S.Jump (To.Left (length c0)))) b in
      let inner : c3 ≡ value_code p l y to d (S.Jump (To.Left (length c0)) ∷ value_code p l z to d c0) = g ∙ ap (value_code p l y to d) jump in
      h ∙ ap (λ (to : Target). branch_code p l x false to d c3) far
      ∙ ap (branch_code p l x false (To.Left (length (value_code p l z to d c0))) d) inner ∙ sym (choose_is e t at x y z to d c0 is)

  -- ---- the others

  pub effect_plain : (e : Expression ℕ) (d : ℕ) (code : Steps) → drops e ≡ false → effect_code p l e d code ≡ value_code p l e d d code
  effect_plain (expression t at (T.constant v)) d code e = refl
  effect_plain (expression t at T.null) d code e = refl
  effect_plain (expression t at (T.function_name f)) d code e = refl
  effect_plain (expression t at (T.load q)) d code e = refl
  effect_plain (expression t at (T.address_of q)) d code e = refl
  effect_plain (expression t at (T.decay q)) d code e = refl
  effect_plain (expression t at (T.convert x w)) d code e = refl
  effect_plain (expression t at (T.unary op x)) d code e = refl
  effect_plain (expression t at (T.binary op x y)) d code e = refl
  effect_plain (expression t at (T.compare op x y)) d code e = refl
  effect_plain (expression t at (T.pointer_add op x y)) d code e = refl
  effect_plain (expression t at (T.pointer_difference x y)) d code e = refl
  effect_plain (expression t at (T.both x y)) d code e = refl
  effect_plain (expression t at (T.either x y)) d code e = refl
  effect_plain (expression t at (T.not x)) d code e = refl
  effect_plain (expression t at (T.choose x y z)) d code e = refl
  effect_plain (expression t at (T.comma x y)) d code e = cc
  effect_plain (expression t at (T.assign q x)) d code e = cc
  effect_plain (expression t at (T.assign_op op q x)) d code e = cc
  effect_plain (expression t at (T.step op b q)) d code e = cc
  effect_plain (expression t at (T.copy_record q r)) d code e = cc
  effect_plain (expression t at (T.call f all)) d code e = refl
  effect_plain (expression t at (T.call_through x all)) d code e = refl
  effect_plain (expression t at (T.library which all)) d code e = refl
  effect_plain (expression t at (T.allocate r n z)) d code e = refl

  pub branch_plain : (e : Expression ℕ) (when : Bool) (to : Target) (d : ℕ) (code : Steps) → decides e ≡ false
      → branch_code p l e when to d code ≡ branch_on p l (to_value p l e) when to d code
  branch_plain (expression t at (T.constant v)) when to d code e = refl
  branch_plain (expression t at T.null) when to d code e = refl
  branch_plain (expression t at (T.function_name f)) when to d code e = refl
  branch_plain (expression t at (T.load q)) when to d code e = refl
  branch_plain (expression t at (T.address_of q)) when to d code e = refl
  branch_plain (expression t at (T.decay q)) when to d code e = refl
  branch_plain (expression t at (T.convert x w)) when to d code e = refl
  branch_plain (expression t at (T.unary op x)) when to d code e = refl
  branch_plain (expression t at (T.binary op x y)) when to d code e = refl
  branch_plain (expression t at (T.compare op x y)) when to d code e = cc
  branch_plain (expression t at (T.pointer_add op x y)) when to d code e = refl
  branch_plain (expression t at (T.pointer_difference x y)) when to d code e = refl
  branch_plain (expression t at (T.both x y)) when to d code e = cc
  branch_plain (expression t at (T.either x y)) when to d code e = cc
  branch_plain (expression t at (T.not x)) when to d code e = cc
  branch_plain (expression t at (T.choose x y z)) when to d code e = refl
  branch_plain (expression t at (T.comma x y)) when to d code e = refl
  branch_plain (expression t at (T.assign q x)) when to d code e = refl
  branch_plain (expression t at (T.assign_op op q x)) when to d code e = refl
  branch_plain (expression t at (T.step op b q)) when to d code e = refl
  branch_plain (expression t at (T.copy_record q r)) when to d code e = refl
  branch_plain (expression t at (T.call f all)) when to d code e = refl
  branch_plain (expression t at (T.call_through x all)) when to d code e = refl
  branch_plain (expression t at (T.library which all)) when to d code e = refl
  branch_plain (expression t at (T.allocate r n z)) when to d code e = refl

  pub member_plain : (q : Path ℕ) (at : Place) (by to d : ℕ) (code : Steps) → leads_through q ≡ false
      → member_code p l q at by to d code ≡ part_code p l (named_root p l q) at by (to_place p l q) to d code
  member_plain (path u b (T.local n)) at by to d code other = refl
  member_plain (path u b (T.object n)) at by to d code other = refl
  member_plain (path u b (T.deref e)) at by to d code other = cc
  member_plain (path u b (T.index e i)) at by to d code other = cc
  member_plain (path u b (T.member q r field)) at by to d code other = refl
  member_plain (path u b (T.element q i)) at by to d code other = refl

  pub member_kept : (q : Path ℕ) (at : Place) (by to d : ℕ) (code : Steps) (x : ℕ) → leads_through q ≡ false → named_root p l q ≡ Some x
      → member_code p l q at by to d code ≡ S.Fail K.Dead at ∷ code
  member_kept q at by to d code x other root =
      member_plain q at by to d code other ∙ ap (λ (r : Option ℕ). part_code p l r at by (to_place p l q) to d code) root

  pub member_placed : (q : Path ℕ) (at : Place) (by to d : ℕ) (code : Steps) → leads_through q ≡ false → named_root p l q ≡ None
      → member_code p l q at by to d code ≡ code_of (to_place p l q) d (S.Part to at by (operand (to_place p l q) d) ∷ code)
  member_placed q at by to d code other root =
      member_plain q at by to d code other ∙ ap (λ (r : Option ℕ). part_code p l r at by (to_place p l q) to d code) root

  -- ---- arguments: one more has been made, which comes before those

  pub one_more : (ys : List (Bor (Made ℕ))) (e : Bor (Made ℕ)) (at n : ℕ) (c0 c1 c2 c3 : Steps) → at ≡ suc n
      → c1 ≡ arguments_code p l (expressions_of (map expression_of (reverse (map (λ e. e.now) ys)))) at c0
      → c2 ≡ tested_if (part_of p l (expression_of e.now) (value_code p l (expression_of e.now))).lacks
      (part_of p l (expression_of e.now) (value_code p l (expression_of e.now))).at n c1
      → c3 ≡ value_code p l (expression_of e.now) n n c2
      → c3 ≡ arguments_code p l (expressions_of (map expression_of (reverse (map (λ e. e.now) (ys ++ e ∷ []))))) n c0
  one_more ys e at n c0 c1 c2 c3 place made test value =
      let x = part_of p l (expression_of e.now) (value_code p l (expression_of e.now)) in
      let back : reverse (map (λ (e : Bor (Made ℕ)). e.now) (ys ++ e ∷ [])) ≡ e.now ∷ reverse (map (λ (e : Bor (Made ℕ)). e.now) ys) =
      ap reverse (map-append (λ (e : Bor (Made ℕ)). e.now) ys (e ∷ [])) ∙ reverse-append (map (λ (e : Bor (Made ℕ)). e.now) ys) (e.now ∷ []) in
      let before : c1 ≡ arguments_code p l (expressions_of (map expression_of (reverse (map (λ e. e.now) ys)))) (suc n) c0 =
      made ∙ ap (λ m. arguments_code p l (expressions_of (map expression_of (reverse (map (λ (e : Bor (Made ℕ)). e.now) ys)))) m c0) place in
      value ∙ ap (value_code p l (expression_of e.now) n n) (test ∙ ap (tested_if x.lacks x.at n) before)
      ∙ ap (λ (more : List (Made ℕ)). arguments_code p l (expressions_of (map expression_of more)) n c0) (sym back)

  -- ---- all have been made

  pub told : (ys : List (Bor (Made ℕ))) (all : List (Made ℕ)) (at d : ℕ) (c0 c1 : Steps) → map (λ e. e.now) ys ≡ reverse all → at + length ys ≡ d + length all
      → c1 ≡ arguments_code p l (expressions_of (map expression_of (reverse (map (λ e. e.now) ys)))) at c0
      → c1 ≡ arguments_code p l (expressions_of (map expression_of all)) d c0
  told ys all at d c0 c1 e sum made =
      let back : reverse (map (λ (e : Bor (Made ℕ)). e.now) ys) ≡ all = back_is ys all e in
      let count : length ys ≡ length all = simp (length-map, length-reverse) at (ap length e) in
      let start : at ≡ d = omega (arith, count, sum) in
      made ∙ ap (λ (more : List (Made ℕ)). arguments_code p l (expressions_of (map expression_of more)) at c0) back
      ∙ ap (λ (n : ℕ). arguments_code p l (expressions_of (map expression_of all)) n c0) start
