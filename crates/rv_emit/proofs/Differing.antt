-- Calls of `memcmp`.
use Rattle.std.proofs.Common.{◌≡◌, ℕ, zero, suc, ◌+◌, ◌-◌, ◌^◌, ◌<◌, inl, Bool, true, false, cond, ltb, List, [], ◌∷◌, ◌++◌, length, Some, Ok, ℤ, pos, negsuc}
use Rattle.std.proofs.Common.{refl, ap, sym, ◌∙◌, subst, arith, append_assoc}
use Rattle.std.specs.Int.{w32, cast_unsigned}
use Rattle.std.proofs.lemmas.Bool.{cond_both}
use Rattle.lay_base.specs.declared.faults.UndefinedKind.TheVariants as K
use Rattle.lay_base.specs.declared.place.Place.{Place}
use Rattle.c_typed.specs.declared.operators.LibraryFunction.TheVariants as L
use Rattle.memory_words.specs.declared.cell_words.cell.Cell.{Cell}
use Rattle.memory_words.specs.declared.cell_words.cell.Cell.TheVariants as C
use Rattle.memory_words.specs.declared.cell_words.pointer.Ptr.{Ptr}
use Rattle.block_memory.specs.Accesses.{place}
use Rattle.block_memory.specs.Blocks.{cells, kind}
use Rattle.block_memory.specs.Ranges.{byte_in, compare, first_difference}
use Rattle.block_memory.specs.Tested.{Tested}
use Rattle.block_memory.specs.RunWorlds.LibraryCalls.{library}
use Rattle.block_memory.specs.RunWorlds.Scalars.{as_pointer, as_word}
use Rattle.block_memory.specs.declared.run_worlds.value.Value.{Value}
use Rattle.block_memory.specs.declared.run_worlds.value.Value.TheVariants.{Word as word, Pointer as pointer}
use Rattle.c_meaning.specs.declared.frame.Slot.TheVariants.{ByName as by_name}
use Rattle.rv_isa.specs.Memory as M
use Rattle.rv_isa.specs.Memory.{are_mapped, readable}
use Rattle.rv_runtime.specs.Steps.States.{at, put}
use Rattle.rv_runtime.specs.Effects.{compared}
use Rattle.rv_runtime.specs.Laws.{Entered}
use Rattle.rv_runtime.specs.Routines.{compare_entry}
use Rattle.rv_runtime.proofs.Working.{routines_work}
use Rattle.rv_code.specs.Code.{give_code, steps_code, three_code}
use Rattle.rv_code.specs.Words.{call_code}
use Rattle.rv_code.specs.declared.layout.Places.{Places}
use Rattle.tac_ir.specs.Code.{Code}
use Rattle.tac_ir.specs.Running.{Next, put_any, with_temp}
use Rattle.tac_ir.specs.declared.step.Row.{Row}
use Rattle.tac_ir.specs.declared.step.Step.TheVariants as S
use Rattle.rv_emit.specs.Maps.{Extents, Means, Shows}
use Rattle.rv_emit.specs.Grounds.{Ground}
use Rattle.rv_emit.specs.Relation.{Program, Moment, Point, Ready, Here, IsBuilt}
use Rattle.rv_emit.specs.Claims.{AreClaims, Claims, Follows, state}
use Rattle.rv_emit.proofs.Accesses.{AllShow, bind_is, shown_cells}
use Rattle.rv_emit.proofs.Calling.{by_routine, leads_back}
use Rattle.rv_emit.proofs.Cells.{found}
use Rattle.rv_emit.proofs.Copying.{none_mapped}
use Rattle.rv_emit.proofs.Freeing.{pointer_is}
use Rattle.rv_emit.proofs.Giving.{elsewhere}
use Rattle.rv_emit.proofs.Loading.{address_is, lies, live_extent, points_small}
use Rattle.rv_emit.proofs.Moves.{code_front}
use Rattle.rv_emit.proofs.Plain.{Takes, Works, aim, takes}
use Rattle.rv_emit.proofs.Ranging.{number_is}
use Rattle.rv_emit.proofs.Rows.{HasRow, by_row, by_three, three_in}
use Rattle.rv_emit.proofs.Values.{by_give, by_tested}

-- ---- bytes that are compared

compared_none : (bytes : M.Memory) (a b : ℕ) → compared bytes a b 0 ≡ 0
unfolding compared
compared_none bytes a b = refl

compared_next : (bytes : M.Memory) (a b k : ℕ)
    → compared bytes a b (suc k) ≡ cond (ltb (bytes a) (bytes b)) (2 ^ 32 - 1) (cond (ltb (bytes b) (bytes a)) 1 (compared bytes (a + 1) (b + 1) k))
unfolding compared
compared_next bytes a b k = refl

compared_small : (bytes : M.Memory) (a b k : ℕ) → compared bytes a b k < 2 ^ 32
compared_small bytes a b zero = omega (arith, compared_none bytes a b)
compared_small bytes a b (suc k) =
    subst (λ (z : ℕ). z < 2 ^ 32) (sym (compared_next bytes a b k))
    (cond_both (ltb (bytes a) (bytes b)) (2 ^ 32 - 1) _ (λ (z : ℕ). z < 2 ^ 32) (λ e. omega arith)
    (λ e. cond_both (ltb (bytes b) (bytes a)) 1 _ (λ (z : ℕ). z < 2 ^ 32) (λ d. omega arith) (λ d. compared_small bytes (a + 1) (b + 1) k)))

-- ---- as cells

abbrev differ : ℤ → Tested ℤ
differ z = Ok z

module _ (code : Code) (p : Places) (blocks : Extents) (bytes : M.Memory) where
  byte_is : (c : Cell) (byte x : ℕ) → Shows code p blocks c byte → byte_in c ≡ Ok x → byte ≡ x
  byte_is (C.Byte y) byte x h e = (let d : y ≡ x = cc in h ∙ d)
  byte_is C.Empty byte x h e = absurd cc
  byte_is (C.Fragment type r k) byte x h e = absurd cc

  -- cells differ where their bytes do
  difference_is : (all others : List Cell) (a b : ℕ) (z : ℤ) → AllShow code p blocks bytes a all → AllShow code p blocks bytes b others
      → length all ≡ length others → first_difference all others ≡ Ok z → compared bytes a b (length all) ≡ cast_unsigned w32 z
  difference_is [] others a b z h k long e = compared_none bytes a b ∙ (let d : pos 0 ≡ z = cc in ap (cast_unsigned w32) d)
  difference_is (c ∷ all) [] a b z h k long e = absurd (omega arith)
  difference_is (c ∷ all) (d ∷ others) a b z h k long e =
      let h1 = bind_is (byte_in c) _ z e in
      let h2 = bind_is (byte_in d) _ z h1.2 in
      let x = byte_is c (bytes a) h1.0 h.0 h1.1 in
      let y = byte_is d (bytes b) h2.0 k.0 h2.1 in
      compared_next bytes a b (length all)
      ∙ by_tests (ltb (bytes a) (bytes b)) (ltb (bytes b) (bytes a)) (first_difference all others) (compared bytes (a + 1) (b + 1) (length all))
      (difference_is all others (a + 1) (b + 1) z h.1 k.1 (omega arith))
      (subst (λ (i : ℕ). cond (ltb (bytes a) i) (differ (negsuc 0)) (cond (ltb i (bytes a)) (differ (pos 1)) (first_difference all others)) ≡ Ok z) (sym y)
      (subst (λ (i : ℕ). cond (ltb i h2.0) (differ (negsuc 0)) (cond (ltb h2.0 i) (differ (pos 1)) (first_difference all others)) ≡ Ok z) (sym x) h2.2))
    where
      by_tests : (t u : Bool) (r : Tested ℤ) (more : ℕ) → (r ≡ Ok z → more ≡ cast_unsigned w32 z)
          → cond t (differ (negsuc 0)) (cond u (differ (pos 1)) r) ≡ Ok z → cond t (2 ^ 32 - 1) (cond u 1 more) ≡ cast_unsigned w32 z
      by_tests true u r more again e = (let d : negsuc 0 ≡ z = cc in ap (cast_unsigned w32) d)
      by_tests false true r more again e = (let d : pos 1 ≡ z = cc in ap (cast_unsigned w32) d)
      by_tests false false r more again e = again e

module _ (ground : Ground) (p : Program) (built : IsBuilt ground p) (m : Moment) (q : Point) (ready : Ready ground p m q) where
  -- where ranges are compared, and what comes of it
  record Compares (x y n : ℕ) (z : ℤ) : Type 0 where
    fits_left : x + n < 2 ^ 32
    fits_right : y + n < 2 ^ 32
    left : are_mapped ground.segments readable x n ≡ true
    right : are_mapped ground.segments readable y n ≡ true
    same : compared q.memory x y n ≡ cast_unsigned w32 z

  compares : (r s : Ptr) (x y n : ℕ) (z : ℤ) → compare m.w.memory r s n ≡ Ok z → Means p.code p.places m.blocks (pointer r) x
      → Means p.code p.places m.blocks (pointer s) y → x < 2 ^ 32 → y < 2 ^ 32 → Compares x y n z
  compares r s x y zero z e means_r means_s small_x small_y = record {
    fits_left = omega arith;
    fits_right = omega arith;
    left = none_mapped ground p built m q ready readable x;
    right = none_mapped ground p built m q ready readable y;
    same = compared_none q.memory x y ∙ (let d : pos 0 ≡ z = cc in ap (cast_unsigned w32) d);
  }
  compares r s x y (suc n) z e means_r means_s small_x small_y =
      let h1 = bind_is (place m.w.memory r (suc n) 1 false) _ z e in
      let h2 = bind_is (place m.w.memory s (suc n) 1 false) _ z h1.2 in
      let b = h1.0.0 in
      let o = h1.0.1 in
      let c = h2.0.0 in
      let u = h2.0.1 in
      let f = found m.w.memory r (suc n) 1 false h1.0 h1.1 in
      let g = found m.w.memory s (suc n) 1 false h2.0 h2.1 in
      let ext = live_extent ground p built m q ready b f.live in
      let src = live_extent ground p built m q ready c g.live in
      let placed = ready.world.flat.placed b ext.0 ext.1 in
      let other = ready.world.flat.placed c src.0 src.1 in
      let lie = lies ground (kind m.w.memory b) ext.0 o (suc n) placed.within (omega (arith, f.fits, placed.sized)) in
      let lie' = lies ground (kind m.w.memory c) src.0 u (suc n) other.within (omega (arith, g.fits, other.sized)) in
      let at_x = address_is ground p built m q ready (pointer r) b o x ext.0 f.is means_r ext.1 in
      let at_y = address_is ground p built m q ready (pointer s) c u y src.0 g.is means_s src.1 in
      let one = shown_cells p.code p.places m.blocks q.memory ground.room m.owner m.w.memory ready.world.flat (points_small ground p built m q ready)
      ready.world.keeps.bytes r b o (suc n) 1 ext.0 f ext.1 in
      let two = shown_cells p.code p.places m.blocks q.memory ground.room m.owner m.w.memory ready.world.flat (points_small ground p built m q ready)
      ready.world.keeps.bytes s c u (suc n) 1 src.0 g src.1 in
      let first = subst (λ a. AllShow p.code p.places m.blocks q.memory a (cells m.w.memory b o (suc n))) (sym at_x) one.0 in
      let second = subst (λ a. AllShow p.code p.places m.blocks q.memory a (cells m.w.memory c u (suc n))) (sym at_y) two.0 in
      record {
        fits_left = omega (arith, lie.below);
        fits_right = omega (arith, lie'.below);
        left = ap (λ (a : ℕ). are_mapped ground.segments readable a (suc n)) at_x ∙ ground.read (ext.0.at + o) (suc n) lie.in_room;
        right = ap (λ (a : ℕ). are_mapped ground.segments readable a (suc n)) at_y ∙ ground.read (src.0.at + u) (suc n) lie'.in_room;
        same = ap (compared q.memory x y) (sym one.1)
            ∙ difference_is p.code p.places m.blocks q.memory (cells m.w.memory b o (suc n)) (cells m.w.memory c u (suc n)) x y z first second
            (one.1 ∙ sym two.1) h2.2;
      }

module _ (ground : Ground) (p : Program) (built : IsBuilt ground p) (Claim : Claims) (claims : AreClaims ground p Claim) (next : Next)
    (follows : Follows ground p Claim next) (m : Moment) where
  by_compared : (q : Point) (ready : Ready ground p m q) (t : ℕ) (z : ℤ) → Compares ground p built m q ready (q.f 10) (q.f 11) (q.f 12) z
      → Takes ground p built Claim claims next follows m t
      → Here ground p q.pc (call_code compare_entry ++ (give_code t 10 ++ steps_code p.places m.g m.l m.more))
      → Claim (next m.callers m.g m.more (with_temp t (by_name (Some (word (cast_unsigned w32 z)))) m.frame) m.w) m.w.turns (state q) q.before
  by_compared q ready t z compares takes_it code =
      let v = cast_unsigned w32 z in
      let e = next m.callers m.g m.more (with_temp t (by_name (Some (word v))) m.frame) m.w in
      let goal = aim ground p built Claim claims e m.w.turns q in
      let back = q.pc + 4 + 4 in
      let called = put q.f 1 back in
      let entered : Entered ground.segments ground.text q.memory called back = record {
        runtime = ground.runtime;
        keeps = ready.world.keeps;
        returns = record {
          nil = ready.nil;
          link = refl;
          whole = omega (arith, ready.whole);
          code = omega (arith, ready.code);
          small = omega (arith, code.1.0.below);
        };
      } in
      let comes = (routines_work ground.segments ground.text q.memory q.input q.output called back entered).compare compares.fits_left compares.fits_right
      compares.left compares.right in
      let small : v < 2 ^ 32 = subst (λ (i : ℕ). i < 2 ^ 32) compares.same (compared_small q.memory (q.f 10) (q.f 11) (q.f 12)) in
      by_routine ground goal q.f q.pc q.memory compare_entry [] ready.world.keeps ready.code
      (code_front ground q.pc (call_code compare_entry) (give_code t 10 ++ steps_code p.places m.g m.l m.more) code) refl (omega arith) refl
      (leads_back ground goal (at called compare_entry q.memory q.input q.output) (at comes.registers back q.memory q.input q.output) [] comes.leads
      (by_give ground p built Claim claims next follows m (record q { f = comes.registers; pc = back })
      (elsewhere ground p m q ready comes.registers back (comes.leaves 0 (inl (omega arith))) (comes.leaves 2 (inl (omega arith)))
      (omega (arith, ready.code)) (omega (arith, ready.whole)))
      10 t v (Some (word v)) (omega arith) (λ d. omega arith) (comes.answers ∙ compares.same) (λ i k. small) takes_it.slot takes_it.opened
      (λ i k. let d : word v ≡ i = cc in subst (λ j. Means p.code p.places m.blocks j v) d refl) code.1.1))

  pub memcmp_works : (q : Point) → Ready ground p m q → (t : ℕ) (at : Place) (all : Row)
      → Works ground p built Claim claims next m q (S.Library t at L.Memcmp all)
  memcmp_works q ready t at all code fits =
      by_row ground p built Claim claims at all.first all.count _ m.frame m.w m.w.turns q by_list
    where
      by_list : (vs : List Value) → HasRow m.frame all.first vs → length vs ≡ all.count
          → Claim (library at L.Memcmp vs (λ v. put_any t v (λ u. next m.callers m.g m.more)) m.frame m.w) m.w.turns (state q) q.before
      by_list [] row long = claims.undefined K.Call at m.w m.w.turns (state q) q.before
      by_list (v ∷ []) row long = claims.undefined K.Call at m.w m.w.turns (state q) q.before
      by_list (v ∷ u ∷ []) row long = claims.undefined K.Call at m.w m.w.turns (state q) q.before
      by_list (v ∷ u ∷ w ∷ x ∷ vs) row long = claims.undefined K.Call at m.w m.w.turns (state q) q.before
      by_list (v ∷ u ∷ w ∷ []) row long =
          let call = call_code compare_entry in
          let give = give_code t 10 in
          let rest = steps_code p.places m.g m.l m.more in
          by_tested ground p built Claim claims (as_pointer v) at _ m.frame m.w m.w.turns q
          λ r is_v. by_tested ground p built Claim claims (as_pointer u) at _ m.frame m.w m.w.turns q
          λ s is_u. by_tested ground p built Claim claims (as_word w) at _ m.frame m.w m.w.turns q
          λ n is_w. by_tested ground p built Claim claims (compare m.w.memory r s n) at _ m.frame m.w m.w.turns q
          λ d is.
          let e = next m.callers m.g m.more (with_temp t (by_name (Some (word (cast_unsigned w32 d)))) m.frame) m.w in
          by_three ground p built Claim claims m q ready e m.w.turns all v u w ((call ++ give) ++ rest) fits.row long row
          (subst (Here ground p q.pc) (append_assoc (three_code all.first) (call ++ give) rest) code)
          λ x y z means_v means_u means_w small_x small_y small_z ready' code'.
          let q' = three_in ground p built Claim claims q all.first x y z in
          let means_r = subst (λ i. Means p.code p.places m.blocks i x) (pointer_is ground p built Claim claims next follows m v r is_v) means_v in
          let means_s = subst (λ i. Means p.code p.places m.blocks i y) (pointer_is ground p built Claim claims next follows m u s is_u) means_u in
          let is' = subst (λ k. compare m.w.memory r s k ≡ Ok d) (number_is ground p built Claim claims next follows m w n z is_w means_w) is in
          by_compared q' ready' t d (compares ground p built m q' ready' r s x y z d is' means_r means_s small_x small_y)
          (takes ground p built Claim claims next follows m t fits.slot fits.kinds.0) (subst (Here ground p q'.pc) (append_assoc call give rest) code')
