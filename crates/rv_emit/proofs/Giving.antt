-- A temporary gets its value, or none: the machine stands ready behind the store to its word.
use Rattle.std.proofs.Common.{◌≡◌, ◌≢◌, ℕ, ◌+◌, ◌%◌, ◌^◌, ◌<◌, ◌≤◌, ◌⊎◌, inl, inr, false, Option, Some, None}
use Rattle.std.proofs.Common.{slice_get, refl, ap, sym, ◌∙◌, subst, arith}
use Rattle.std.proofs.lemmas.Bool.{cases_eq, cases_lt, both_ways}
use Rattle.block_memory.specs.declared.run_worlds.value.Value.{Value}
use Rattle.c_meaning.specs.Frames.{Frame}
use Rattle.c_meaning.specs.declared.frame.Slot.{Slot}
use Rattle.c_meaning.specs.declared.frame.Slot.TheVariants.{ByName as by_name, InBlock as in_block}
use Rattle.rv_isa.specs.Memory as M
use Rattle.rv_isa.specs.Memory.{are_mapped, word_at, with_word}
use Rattle.rv_isa.specs.Events.{code_address}
use Rattle.rv_runtime.proofs.Steps.Words.{word_apart, word_again, with_word_other, keeps_word}
use Rattle.tac_ir.specs.Running.{with_temp}
use Rattle.rv_code.specs.Code.{is_block}
use Rattle.rv_code.specs.Frames.{slot_at, slots}
use Rattle.rv_emit.specs.Maps.{Means}
use Rattle.rv_emit.specs.Grounds.{Ground}
use Rattle.rv_emit.specs.Relation.{Program, Moment, Point, Ready, Callers, Framed, SlotShows}
use Rattle.rv_emit.proofs.Lists.{temp_same, temp_other, temp_cases, temp_long, temp_longer}
use Rattle.rv_emit.proofs.Keeping.{KeepsOwned, KeepsOther, no_block, frame_end, callers_stay, world_stays}

-- a word at addresses that nobody owns changes no owned byte
pub keeps_owned : (owner : ℕ → Option ℕ) (memory : M.Memory) (a v : ℕ) → ((k : ℕ) → k < 4 → owner (a + k) ≡ None)
    → KeepsOwned owner memory (with_word memory a v)
keeps_owned owner memory a v free c b owned =
    with_word_other memory a v c (λ e. clash 0 (omega arith) (omega arith)) (λ e. clash 1 (omega arith) e) (λ e. clash 2 (omega arith) e)
    (λ e. clash 3 (omega arith) e)
  where
    clash : (k : ℕ) → k < 4 → c ≡ a + k → ⊥
    clash k lt e = (let d : Some b ≡ None = sym owned ∙ ap owner e ∙ free k lt in cc)

-- nor one outside of its own four
pub word_elsewhere : (memory : M.Memory) (a v c : ℕ) → (c < a) ⊎ (a + 4 ≤ c) → with_word memory a v c ≡ memory c
word_elsewhere memory a v c apart =
    with_word_other memory a v c (λ e. omega arith) (λ e. omega arith) (λ e. omega arith) (λ e. omega arith)

module _ (ground : Ground) (p : Program) (m : Moment) (q : Point) (ready : Ready ground p m q) where
  -- the same place in a run, with other registers and elsewhere in code
  pub elsewhere : (f : ℕ → ℕ) (pc : ℕ) → f 0 ≡ q.f 0 → f 2 ≡ q.f 2 → code_address ≤ pc → pc % 4 ≡ 0 → Ready ground p m (record q { f = f; pc = pc })
  elsewhere f pc nil stack code whole = record {
    nil = nil ∙ ready.nil;
    stack = stack ∙ ready.stack;
    code = code;
    whole = whole;
    fits = ready.fits;
    world = ready.world;
    frame = ready.frame;
    callers = ready.callers;
    below = ready.below;
    runs = ready.runs;
  }

  -- where the word of a temporary is
  pub record SlotPlace (t : ℕ) : Type 0 where
    pub is : (q.f 2 + slot_at t) % 2 ^ 32 ≡ m.sp + slot_at t
    pub whole : (m.sp + slot_at t) % 4 ≡ 0
    pub low : 0x10000000 ≤ m.sp + slot_at t
    pub high : m.sp + slot_at t + 4 ≤ ground.room.stack_end
    pub inside : slot_at t + 4 ≤ slot_at (slots m.g)
    pub free : (k : ℕ) → k < 4 → m.owner (m.sp + slot_at t + k) ≡ None

  pub slot_place : (t : ℕ) → t < slots m.g → SlotPlace t
  slot_place t lt =
      let fr = ready.frame in
      let end = frame_end ground p m.blocks m.owner m.number m.g m.l fr.laid in
      let top = ground.stack_end in
      record {
        is = omega (arith, ready.stack, fr.high, end.0);
        whole = omega (arith, fr.whole);
        low = omega (arith, fr.low);
        high = omega (arith, fr.high, end.0);
        inside = omega arith;
        free = λ k lk. fr.private (m.sp + slot_at t + k) (omega arith) (omega arith);
      }

  module _ (t : ℕ) (o : Option Value) (inside : t < slots m.g) (opened : is_block m.g t ≡ false) where
    abbrev after : Frame
    after = with_temp t (by_name o) m.frame

    -- the frame with the slot, in memory that shows it and the other ones
    framed_given : (new : M.Memory) → SlotShows ground p m.blocks m.owner new m.g m.l m.sp t (by_name o)
        → ((u : ℕ) (s : Slot) → u ≢ t → slice_get m.frame u ≡ Some s → SlotShows ground p m.blocks m.owner new m.g m.l m.sp u s)
        → Framed ground p m.blocks m.owner new m.number m.g m.l after m.sp
    framed_given new one others =
        let fr = ready.frame in
        record {
          laid = fr.laid;
          locals = omega (arith, fr.locals, temp_longer t (by_name o) m.frame);
          count = temp_long t (by_name o) m.frame (slots m.g) inside fr.count;
          shows = λ u s e. elim (cases_eq u t) [
            | inl same ↦
                (let d : slice_get after t ≡ Some s = ap (slice_get after) (sym same) ∙ e in
                let k : Some (by_name o) ≡ Some s = sym (temp_same t (by_name o) m.frame) ∙ d in
                let z : by_name o ≡ s = cc in
                subst (λ i. SlotShows ground p m.blocks m.owner new m.g m.l m.sp i s) (sym same)
                (subst (SlotShows ground p m.blocks m.owner new m.g m.l m.sp t) z one))
            | inr ne ↦ elim (temp_cases t (by_name o) m.frame u s ne e) [
              | inl h ↦ others u s ne h
              | inr h ↦ subst (SlotShows ground p m.blocks m.owner new m.g m.l m.sp u) h.1 (no_block m.g u (omega (arith, fr.locals, h.0)))
            ]
          ];
          whole = fr.whole;
          low = fr.low;
          high = fr.high;
          private = fr.private;
          owns = λ a b le lt e.
              let h = fr.owns a b le lt e in
              (h.0, temp_other t (by_name o) m.frame h.0 (in_block (Some b)) (λ d. not_block h.0 b d h.1) h.1);
        }
      where
        not_block : (u b : ℕ) → u ≡ t → slice_get m.frame u ≡ Some (in_block (Some b)) → ⊥
        not_block u b d e =
            both_ways (is_block m.g t) opened (ap (is_block m.g) (sym d) ∙ (ready.frame.shows u (in_block (Some b)) e).0)

    -- no value: memory stays
    pub cleared : o ≡ None → Ready ground p (record m { frame = after }) q
    cleared none = record {
      nil = ready.nil;
      stack = ready.stack;
      code = ready.code;
      whole = ready.whole;
      fits = ready.fits;
      world = ready.world;
      frame = framed_given q.memory (subst (λ z. SlotShows ground p m.blocks m.owner q.memory m.g m.l m.sp t (by_name z)) (sym none) opened)
          (λ u s ne e. ready.frame.shows u s e);
      callers = ready.callers;
      below = ready.below;
      runs = ready.runs;
    }

    module _ (x : ℕ) (small : (v : Value) → o ≡ Some v → x < 2 ^ 32) (means : (v : Value) → o ≡ Some v → Means p.code p.places m.blocks v x) where
      abbrev a : ℕ
      a = m.sp + slot_at t

      abbrev new : M.Memory
      new = with_word q.memory a x

      this_shows : (z : Option Value) → o ≡ z → SlotShows ground p m.blocks m.owner new m.g m.l m.sp t (by_name z)
      this_shows None e = opened
      this_shows (Some v) e = (opened, subst (Means p.code p.places m.blocks v) (sym (word_again q.memory a x (small v e))) (means v e))

      apart : (u : ℕ) → u ≢ t → (m.sp + slot_at u + 4 ≤ a) ⊎ (a + 4 ≤ m.sp + slot_at u)
      apart u ne = elim (cases_lt u t) [
        | inl lt ↦ inl (omega arith)
        | inr le ↦ inr (omega arith)
      ]

      that_shows : (u : ℕ) (s : Slot) → u ≢ t → SlotShows ground p m.blocks m.owner q.memory m.g m.l m.sp u s
          → SlotShows ground p m.blocks m.owner new m.g m.l m.sp u s
      that_shows u (by_name None) ne h = h
      that_shows u (by_name (Some v)) ne h =
          (h.0, subst (Means p.code p.places m.blocks v) (sym (word_apart q.memory a x (m.sp + slot_at u) (apart u ne))) h.1)
      that_shows u (in_block None) ne h = h
      that_shows u (in_block (Some b)) ne h = h

      pub given : (f : ℕ → ℕ) (pc : ℕ) → f 0 ≡ q.f 0 → f 2 ≡ q.f 2 → code_address ≤ pc → pc % 4 ≡ 0
          → Ready ground p (record m { frame = after }) (record q { f = f; pc = pc; memory = new })
      given f pc nil stack code whole =
          let fr = ready.frame in
          let place = slot_place t inside in
          let end = frame_end ground p m.blocks m.owner m.number m.g m.l fr.laid in
          let top = ground.stack_end in
          let back : word_at new m.sp ≡ word_at q.memory m.sp = word_apart q.memory a x m.sp (inl (omega arith)) in
          let above : KeepsOther m.owner (m.sp + m.l.size) q.memory new =
          λ c none le. word_elsewhere q.memory a x c (inr (omega (arith, place.inside, end.0))) in
          let callers = callers_stay ground p m.blocks m.owner q.memory new m.numbers m.callers (m.sp + m.l.size) (word_at q.memory m.sp) above ready.callers in
          record {
            nil = nil ∙ ready.nil;
            stack = stack ∙ ready.stack;
            code = code;
            whole = whole;
            fits = ready.fits;
            world = world_stays ground p m.blocks m.owner q.memory new m.w q.input q.output q.before
                (keeps_word ground.text q.memory a x ready.world.keeps (omega (arith, place.low)))
                (keeps_owned m.owner q.memory a x place.free)
                (λ c none out ne. word_elsewhere q.memory a x c (outside c out place.low place.high top)) ready.world;
            frame = framed_given new (this_shows o refl) (λ u s ne e. that_shows u s ne (fr.shows u s e));
            callers = subst (Callers ground p m.blocks m.owner new m.numbers m.callers (m.sp + m.l.size)) (sym back) callers;
            below = ready.below;
            runs = ready.runs;
          }
        where
          outside : (c : ℕ) → (c < 0x10000000) ⊎ (0x18000000 ≤ c) → 0x10000000 ≤ a → a + 4 ≤ ground.room.stack_end → ground.room.stack_end ≤ 0x18000000
              → (c < a) ⊎ (a + 4 ≤ c)
          outside c (inl lt) low high top = inl (omega arith)
          outside c (inr le) low high top = inr (omega arith)
