-- Whole records that are copied: a call of the routine that copies.
use Rattle.std.proofs.Common.{◌≡◌, ℕ, zero, suc, ◌+◌, ◌-◌, ◌*◌, ◌%◌, ◌^◌, ◌<◌, ◌≤◌, ◌⊎◌, inl, inr, Bool, true, false, not, ◌||◌, List, [], ◌∷◌, ◌++◌, length, take, drop, Some, Ok}
use Rattle.std.proofs.Common.{slice_get, refl, ap, sym, ◌∙◌, subst, arith, append_assoc}
use Rattle.std.proofs.lemmas.Bool.{cases_lt}
use Rattle.lay_base.specs.declared.place.Place.{Place}
use Rattle.memory_words.specs.declared.cell_words.cell.Cell.{Cell}
use Rattle.memory_words.specs.declared.cell_words.pointer.Ptr.{Ptr}
use Rattle.block_memory.specs.Accesses.{must, place}
use Rattle.block_memory.specs.Blocks.{Memory, Contents, living, ended, block, cells, cells_in, is_live, kind, lives_in, size, size_in, with_cells}
use Rattle.block_memory.specs.Ranges.{copy, do_overlap}
use Rattle.block_memory.specs.Tested.{Tested}
use Rattle.lay_base.specs.declared.faults.UndefinedKind.TheVariants as K
use Rattle.block_memory.specs.RunWorlds.LibraryCalls.{is_same_place}
use Rattle.block_memory.specs.RunWorlds.Scalars.{pointer_of}
use Rattle.block_memory.specs.RunWorlds.Worlds.{World}
use Rattle.block_memory.specs.declared.run_worlds.value.Value.{Value}
use Rattle.rv_isa.specs.Memory as M
use Rattle.rv_isa.specs.Memory.{are_mapped, readable, writable}
use Rattle.rv_runtime.specs.Steps.States.{Keeps, at, code_end, put}
use Rattle.rv_runtime.proofs.Steps.Ranges.{mapped_each}
use Rattle.rv_runtime.specs.Effects.{Copied}
use Rattle.rv_runtime.specs.Laws.{Entered}
use Rattle.rv_runtime.specs.Routines.{copy_entry}
use Rattle.rv_runtime.proofs.Working.{routines_work}
use Rattle.rv_code.specs.Code.{get_code, steps_code}
use Rattle.rv_code.specs.Words.{call_code, number_code}
use Rattle.tac_ir.specs.Running.{Next}
use Rattle.tac_ir.specs.declared.step.Operand.{Operand}
use Rattle.tac_ir.specs.declared.step.Step.TheVariants as S
use Rattle.rv_emit.specs.Maps.{Flat, Means, Shows}
use Rattle.rv_emit.specs.Grounds.{Ground}
use Rattle.rv_emit.specs.Relation.{Program, Moment, Point, Ready, Here, IsBuilt}
use Rattle.rv_emit.specs.Claims.{Claims, AreClaims, Follows}
use Rattle.rv_emit.proofs.Accesses.{bind_is}
use Rattle.rv_emit.proofs.Calling.{by_routine, leads_back}
use Rattle.rv_emit.proofs.Cells.{Found, flat_written, found}
use Rattle.rv_emit.proofs.Giving.{elsewhere}
use Rattle.rv_emit.proofs.Keeping.{flat_stays}
use Rattle.rv_emit.proofs.Loading.{address_is, lies, live_extent}
use Rattle.rv_emit.proofs.Moves.{by_number, code_back, code_front, parts}
use Rattle.rv_emit.proofs.Plain.{Works, aim}
use Rattle.rv_emit.proofs.Storing.{changed, outside_range}
use Rattle.rv_emit.proofs.Values.{by_get, by_read, by_tested, with_register}

-- a cell of a range is one of the list
taken_cell : (all : List Cell) (at n i : ℕ) (c : Cell) → slice_get (take n (drop at all)) i ≡ Some c → (i < n) × (slice_get all (at + i) ≡ Some c)
taken_cell all zero zero i c g = absurd cc
taken_cell [] zero (suc n) i c g = absurd cc
taken_cell (x ∷ all) zero (suc n) zero c g = (omega arith, g)
taken_cell (x ∷ all) zero (suc n) (suc i) c g =
    (let h = taken_cell all zero n i c g in
    let z : 0 + i ≡ i = omega arith in
    let y : 0 + suc i ≡ suc i = omega arith in
    (omega (arith, h.0), ap (slice_get (x ∷ all)) y ∙ ap (slice_get all) (sym z) ∙ h.1))
taken_cell [] (suc at) n i c g = absurd (none n i g)
  where
    none : (n i : ℕ) → slice_get (take n (drop (suc at) [])) i ≡ Some c → ⊥
    none zero i g = cc
    none (suc n) i g = cc
taken_cell (x ∷ all) (suc at) n i c g =
    (let h = taken_cell all at n i c g in
    let z : suc at + i ≡ suc (at + i) = omega arith in
    (h.0, ap (slice_get (x ∷ all)) z ∙ h.1))

taken_long : (all : List Cell) (at n : ℕ) → at + n ≤ length all → length (take n (drop at all)) ≡ n
taken_long all zero zero le = refl
taken_long [] zero (suc n) le = absurd (omega arith)
taken_long (x ∷ all) zero (suc n) le = ap suc (taken_long all zero n (omega arith))
taken_long [] (suc at) n le = absurd (omega arith)
taken_long (x ∷ all) (suc at) n le = taken_long all at n (omega arith)

range_long : (m : Memory) (b at n : ℕ) → is_live m b ≡ true → at + n ≤ size m b → length (cells m b at n) ≡ n
range_long m b at n live fits = by_contents (block m b).contents live fits
  where
    by_contents : (k : Contents) → lives_in k ≡ true → at + n ≤ size_in k → length (take n (drop at (cells_in k))) ≡ n
    by_contents (living all) l le = taken_long all at n le
    by_contents (ended j) l le = absurd cc

pub copied_keeps : (text old new : M.Memory) (to from n : ℕ) → Keeps text old → Copied old new to from n → (0 < n → code_end ≤ to) → Keeps text new
copied_keeps text old new to from n keeps copied le = record { same = same; bytes = bytes }
  where
    same : (a : ℕ) → a < code_end → new a ≡ text a
    same a lt = elim (cases_lt a to) [
      | inl l ↦ copied.outside a (inl l) ∙ keeps.same a lt
      | inr g ↦ elim (cases_lt a (to + n)) [
        | inl l ↦ absurd (let k = le (omega arith) in omega arith)
        | inr h ↦ copied.outside a (inr h) ∙ keeps.same a lt
      ]
    ]

    bytes : (a : ℕ) → new a < 2 ^ 8
    bytes a = elim (cases_lt a to) [
      | inl lt ↦ subst (λ (z : ℕ). z < 2 ^ 8) (sym (copied.outside a (inl lt))) (keeps.bytes a)
      | inr ge ↦ elim (cases_lt a (to + n)) [
        | inl lt ↦
            (let e : to + (a - to) ≡ a = omega arith in
            subst (λ (z : ℕ). z < 2 ^ 8) (sym (ap new (sym e) ∙ copied.inside (a - to) (omega arith))) (keeps.bytes (from + (a - to))))
        | inr le' ↦ subst (λ (z : ℕ). z < 2 ^ 8) (sym (copied.outside a (inr le'))) (keeps.bytes a)
      ]
    ]

-- what is copied in memory as blocks
record CopyFound (m after : Memory) (to from : Ptr) (n : ℕ) : Type 0 where
  b : ℕ
  at : ℕ
  c : ℕ
  other : ℕ
  to_found : Found m to n 1 b at
  from_found : Found m from n 1 c other
  is : with_cells m b at (cells m c other n) ≡ after

abbrev done_with : Memory → Tested Memory
done_with m = Ok m

ok_is : (x z : Memory) → done_with x ≡ Ok z → x ≡ z
ok_is x z e = cc

copy_found : (m after : Memory) (to from : Ptr) (n : ℕ) (overlap : Bool) → copy m to from (suc n) overlap ≡ Ok after → CopyFound m after to from (suc n)
copy_found m after to from n overlap e =
    let h1 = bind_is (place m to (suc n) 1 true) _ after e in
    let a = h1.0 in
    let h2 = bind_is (place m from (suc n) 1 false) _ after h1.2 in
    let b = h2.0 in
    let h3 = bind_is (must (overlap || not (do_overlap a b (suc n))) K.Overlap) (λ z. done_with (with_cells m a.0 a.1 (cells m b.0 b.1 (suc n)))) after h2.2 in
    record {
      b = a.0;
      at = a.1;
      c = b.0;
      other = b.1;
      to_found = found m to (suc n) 1 true a h1.1;
      from_found = found m from (suc n) 1 false b h2.1;
      is = ok_is (with_cells m a.0 a.1 (cells m b.0 b.1 (suc n))) after h3.2;
    }

module _ (ground : Ground) (p : Program) (built : IsBuilt ground p) (m : Moment) (q : Point) (ready : Ready ground p m q) where
  -- where a range is copied to, and from where
  pub record Copies (v u : Value) (x y n : ℕ) (after : Memory) : Type 0 where
    pub fits_to : x + n < 2 ^ 32
    pub fits_from : y + n < 2 ^ 32
    pub low : 0 < n → code_end ≤ x
    pub reads : are_mapped ground.segments readable y n ≡ true
    pub writes : are_mapped ground.segments writable x n ≡ true
    pub done : (new : M.Memory) → Copied q.memory new x y n → Ready ground p (record m { w = record m.w { memory = after } }) (record q { memory = new })

  pub none_mapped : (flag a : ℕ) → are_mapped ground.segments flag a 0 ≡ true
  none_mapped flag a = mapped_each ground.segments flag a 0 (λ i lt. absurd (omega arith))

  pub copies : (v u : Value) (x y n : ℕ) (overlap : Bool) (after : Memory) → copy m.w.memory (pointer_of v) (pointer_of u) n overlap ≡ Ok after
      → Means p.code p.places m.blocks v x → Means p.code p.places m.blocks u y → x < 2 ^ 32 → y < 2 ^ 32 → Copies v u x y n after
  copies v u x y zero overlap after e means_x means_y small_x small_y =
      let same : m.w.memory ≡ after = ok_is m.w.memory after e in
      record {
        fits_to = omega arith;
        fits_from = omega arith;
        low = λ lt. absurd (omega arith);
        reads = none_mapped readable y;
        writes = none_mapped writable x;
        done = λ new copied.
            let all : (a : ℕ) → new a ≡ q.memory a = λ a. copied.outside a (apart a) in
            changed ground p m q ready after new (copied_keeps ground.text q.memory new x y 0 ready.world.keeps copied (λ lt. absurd (omega arith)))
            (subst (λ z. Flat p.code p.places ground.room m.blocks m.owner z new) same
            (flat_stays p.code p.places ground.room m.blocks m.owner m.w.memory q.memory new ready.world.flat (λ a b o. all a))) (λ c none. all c);
      }
    where
      apart : (a : ℕ) → (a < x) ⊎ (x + 0 ≤ a)
      apart a = elim (cases_lt a x) [
        | inl lt ↦ inl lt
        | inr ge ↦ inr (omega arith)
      ]
  copies v u x y (suc n) overlap after e means_x means_y small_x small_y =
      let k = copy_found m.w.memory after (pointer_of v) (pointer_of u) n overlap e in
      let f = k.to_found in
      let g = k.from_found in
      let same = k.is in
      let new_cells = cells m.w.memory k.c k.other (suc n) in
      let ext = live_extent ground p built m q ready k.b f.live in
      let src = live_extent ground p built m q ready k.c g.live in
      let placed = ready.world.flat.placed k.b ext.0 ext.1 in
      let other = ready.world.flat.placed k.c src.0 src.1 in
      let lie = lies ground (kind m.w.memory k.b) ext.0 k.at (suc n) placed.within (omega (arith, f.fits, placed.sized)) in
      let lie' = lies ground (kind m.w.memory k.c) src.0 k.other (suc n) other.within (omega (arith, g.fits, other.sized)) in
      let at_x = address_is ground p built m q ready v k.b k.at x ext.0 f.is means_x ext.1 in
      let at_y = address_is ground p built m q ready u k.c k.other y src.0 g.is means_y src.1 in
      let long = range_long m.w.memory k.c k.other (suc n) g.live g.fits in
      record {
        fits_to = omega (arith, lie.below);
        fits_from = omega (arith, lie'.below);
        low = λ lt. omega (arith, lie.above);
        reads = ap (λ (a : ℕ). are_mapped ground.segments readable a (suc n)) at_y ∙ ground.read (src.0.at + k.other) (suc n) lie'.in_room;
        writes = ap (λ (a : ℕ). are_mapped ground.segments writable a (suc n)) at_x ∙ ground.write (ext.0.at + k.at) (suc n) lie.in_room;
        done = λ new copied.
            changed ground p m q ready after new (copied_keeps ground.text q.memory new x y (suc n) ready.world.keeps copied (λ lt. omega (arith, lie.above)))
            (subst (λ z. Flat p.code p.places ground.room m.blocks m.owner z new) same
            (flat_written p.code p.places ground.room m.blocks m.owner m.w.memory q.memory new ready.world.flat k.b k.at ext.0 new_cells f.live
            (omega (arith, f.fits, long)) ext.1
            (λ i c gets.
            let t = taken_cell (cells_in (block m.w.memory k.c).contents) k.other (suc n) i c gets in
            let z : x + i ≡ ext.0.at + k.at + i = ap (λ (a : ℕ). a + i) at_x in
            let w : src.0.at + (k.other + i) ≡ y + i = omega (arith, at_y) in
            subst (λ (byte : ℕ). Shows p.code p.places m.blocks c byte) (ap q.memory w ∙ sym (copied.inside i t.0) ∙ ap new z)
            (ready.world.flat.shows k.c (k.other + i) src.0 c src.1 t.1))
            (λ c out. copied.outside c (outside c (ext.0.at + k.at) x at_x (length new_cells) long out))))
            (λ c none. copied.outside c (outside c (ext.0.at + k.at) x at_x (suc n) refl (outside_range ground p m q ready k.b k.at (suc n) ext.0 f.live f.fits ext.1 c none)));
      }
    where
      outside : (c a x : ℕ) → x ≡ a → (k : ℕ) → k ≡ suc n → (c < a) ⊎ (a + k ≤ c) → (c < x) ⊎ (x + suc n ≤ c)
      outside c a x e k d (inl lt) = inl (omega arith)
      outside c a x e k d (inr le) = inr (omega arith)

  module _ (Claim : Claims) (claims : AreClaims ground p Claim) (next : Next) (follows : Follows ground p Claim next) where
    -- the call, with the addresses in x10 and x11
    pub by_copy : (v u : Value) (x y n : ℕ) (after : Memory) → Copies v u x y n after → n < 2 ^ 32 → (r : Point) → Ready ground p m r → r.f 10 ≡ x → r.f 11 ≡ y
        → r.memory ≡ q.memory → r.input ≡ q.input → r.output ≡ q.output → r.before ≡ q.before
        → Here ground p r.pc ((number_code 12 n ++ call_code copy_entry) ++ steps_code p.places m.g m.l m.more)
        → Claim (next m.callers m.g m.more m.frame (record m.w { memory = after })) m.w.turns (at r.f r.pc q.memory q.input q.output) q.before
    by_copy v u x y n after copies small r ready_r ten eleven memory input output before code =
        let w : World = record m.w { memory = after } in
        let e = next m.callers m.g m.more m.frame w in
        let goal = aim ground p built Claim claims e w.turns q in
        let rest = steps_code p.places m.g m.l m.more in
        let number = number_code 12 n in
        let call = call_code copy_entry in
        let c1 = subst (Here ground p r.pc) (append_assoc number call rest) code in
        let pc1 = r.pc + 4 * length number in
        let c2 = code_back ground r.pc number (call ++ rest) c1 in
        let back = pc1 + 4 + 4 in
        let f1 = put r.f 12 (n % 2 ^ 32) in
        let f2 = put f1 1 back in
        let keeps = ready.world.keeps in
        let same : n % 2 ^ 32 ≡ n = omega arith in
        let below : back < 2 ^ 32 = omega (arith, c2.1.0.below) in
        let entered : Entered ground.segments ground.text q.memory f2 back = record {
          runtime = ground.runtime;
          keeps = keeps;
          returns = record { nil = ready_r.nil; link = refl; whole = omega (arith, ready_r.whole); code = omega (arith, ready_r.code); small = below };
        } in
        let done = (routines_work ground.segments ground.text q.memory q.input q.output f2 back entered).copy (omega (arith, copies.fits_to))
        (omega (arith, copies.fits_from)) (λ lt. subst (λ (k : ℕ). code_end ≤ k) (sym ten) (copies.low (omega arith)))
        (subst (λ (k : ℕ). are_mapped ground.segments readable k (n % 2 ^ 32) ≡ true) (sym eleven)
        (subst (λ (k : ℕ). are_mapped ground.segments readable y k ≡ true) (sym same) copies.reads))
        (subst (λ (k : ℕ). are_mapped ground.segments writable k (n % 2 ^ 32) ≡ true) (sym ten)
        (subst (λ (k : ℕ). are_mapped ground.segments writable x k ≡ true) (sym same) copies.writes)) in
        let new = done.0 in
        let copied : Copied q.memory new x y n =
        subst (λ (k : ℕ). Copied q.memory new x y k) same (subst (λ (k : ℕ). Copied q.memory new x k (n % 2 ^ 32)) eleven
        (subst (λ (k : ℕ). Copied q.memory new k (r.f 11) (n % 2 ^ 32)) ten done.1)) in
        let comes = done.2 in
        by_number ground goal r.f r.pc q.memory keeps ready_r.code 12 n (omega arith) (omega arith) ready_r.nil (code_front ground r.pc number (call ++ rest) c1)
        (by_routine ground goal f1 pc1 q.memory copy_entry [] keeps (omega (arith, ready_r.code)) (code_front ground pc1 call rest c2) refl (omega arith) refl
        (leads_back ground goal (at f2 copy_entry q.memory q.input q.output) (at comes.registers back new q.input q.output) [] comes.leads
        (follows (record m { w = w }) (record q { f = comes.registers; pc = back; memory = new })
        (elsewhere ground p (record m { w = w }) (record q { memory = new }) (copies.done new copied) comes.registers back
        (comes.leaves 0 (inl (omega arith)) ∙ ready_r.nil ∙ sym ready.nil) (comes.leaves 2 (inl (omega arith)) ∙ ready_r.stack ∙ sym ready.stack)
        (omega (arith, ready_r.code)) (omega (arith, ready_r.whole)))
        c2.1.1)))

    pub copy_record_works : (at : Place) (n : ℕ) (a b : Operand) → Works ground p built Claim claims next m q (S.CopyRecord at n a b)
    copy_record_works at n a b code fits =
        by_read ground p built Claim claims a _ m.frame m.w m.w.turns q
        λ v reads_v. by_read ground p built Claim claims b _ m.frame m.w m.w.turns q
        λ u reads_u. by_tested ground p built Claim claims (copy m.w.memory (pointer_of v) (pointer_of u) n (is_same_place (pointer_of v) (pointer_of u))) at _ m.frame
        m.w m.w.turns q
        λ after is.
        let get_a = get_code p.places m.g m.l 10 a in
        let get_b = get_code p.places m.g m.l 11 b in
        let tail = number_code 12 n ++ call_code copy_entry in
        let rest = steps_code p.places m.g m.l m.more in
        let d = parts ground q.pc get_a (get_b ++ tail) rest code in
        let w : World = record m.w { memory = after } in
        let e = next m.callers m.g m.more m.frame w in
        by_get ground p built Claim claims m q ready e w.turns 10 (omega arith) (omega arith) a v reads_v (fits.operands 0 a (omega arith)) d.0
        λ x means_x small_x ready_x.
        let r = with_register q 10 x get_a in
        let d' = parts ground r.pc get_b tail rest d.1 in
        by_get ground p built Claim claims m r ready_x e w.turns 11 (omega arith) (omega arith) b u reads_u (fits.operands 1 b (omega arith)) d'.0
        λ y means_y small_y ready_y.
        let r' = with_register r 11 y get_b in
        by_copy v u x y n after (copies v u x y n (is_same_place (pointer_of v) (pointer_of u)) after is means_x means_y small_x small_y) fits.numbers r' ready_y
        refl refl refl refl refl refl d'.1
