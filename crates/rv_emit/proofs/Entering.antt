-- The frame of a function that is entered: what waits above it, and its slots, which hold nothing yet.
use Rattle.std.proofs.Common.{◌≡◌, ℕ, zero, suc, ◌+◌, ◌%◌, ◌^◌, ◌<◌, ◌≤◌, ◌⊎◌, inl, inr, Bool, true, false, List, [], ◌∷◌, ◌++◌, length, map, Option, Some, None}
use Rattle.std.proofs.Common.{slice_get, slice_index, refl, ap, sym, ◌∙◌, subst, arith}
use Rattle.std.specs.Prelude.{unwrap_or}
use Rattle.block_memory.specs.RunWorlds.Events as E
use Rattle.block_memory.specs.RunWorlds.Worlds.{World}
use Rattle.c_meaning.specs.declared.frame.Slot.{Slot}
use Rattle.rv_isa.specs.Events.{code_address}
use Rattle.rv_isa.specs.Memory as M
use Rattle.rv_isa.specs.Memory.{word_at, with_word}
use Rattle.rv_runtime.proofs.Steps.Words.{keeps_word, word_again}
use Rattle.rv_code.specs.Code.{give_code, is_block, stack_place, steps_code}
use Rattle.rv_code.specs.Frames.{block_places, block_sizes, kept_in, slot_at, slots}
use Rattle.rv_code.specs.declared.layout.Layout.{Layout}
use Rattle.tac_ir.specs.Code.{RoutineData}
use Rattle.tac_ir.specs.Running.{Caller, empty_slot}
use Rattle.tac_ir.specs.declared.step.Step.{Step}
use Rattle.rv_emit.specs.Grounds.{Ground}
use Rattle.rv_emit.specs.Relation.{Program, Moment, Point, Ready, Callers, Framed, Here, IsLaid, IsPlace, SlotShows, Worldly}
use Rattle.rv_emit.proofs.Beginning.{block_known}
use Rattle.rv_emit.proofs.Giving.{keeps_owned, word_elsewhere}
use Rattle.rv_emit.proofs.Keeping.{KeepsOther, callers_stay, frame_end, world_stays}
use Rattle.rv_emit.proofs.Lists.{place_within}

-- ---- slots that hold nothing

-- there is a word for each local
pub slots_long : (g : RoutineData) → length g.locals ≤ slots g
slots_long g = by_code g.code (length g.locals)
  where
    by_code : (code : List Step) (n : ℕ) → n ≤ kept_in code n
    by_code [] n = omega arith
    by_code (s ∷ more) n = (let h = by_code more n in omega (arith, h))

pub empty_long : (locals : List Bool) → length (map empty_slot locals) ≡ length locals
empty_long [] = refl
empty_long (b ∷ locals) = ap suc (empty_long locals)

pub empty_is : (locals : List Bool) (t : ℕ) (s : Slot) → slice_get (map empty_slot locals) t ≡ Some s
    → (b : Bool) × (slice_get locals t ≡ Some b) × (empty_slot b ≡ s)
empty_is [] t s e = absurd cc
empty_is (b ∷ locals) zero s e = (b, refl, cc)
empty_is (b ∷ locals) (suc t) s e = empty_is locals t s e

pub empty_at : (locals : List Bool) (t : ℕ) (b : Bool) → slice_get locals t ≡ Some b → slice_get (map empty_slot locals) t ≡ Some (empty_slot b)
empty_at [] t b e = absurd cc
empty_at (c ∷ locals) zero b e = (let d : c ≡ b = cc in ap (λ (z : Bool). Some (empty_slot z)) d)
empty_at (c ∷ locals) (suc t) b e = empty_at locals t b e

-- ---- the callee's first moment

module _ (ground : Ground) (p : Program) (m : Moment) (q : Point) (ready : Ready ground p m q) (k : ℕ) (g : RoutineData) (l : Layout) (laid : IsLaid ground p k g l)
    (t sp back n : ℕ) (frame_is : sp + l.size ≡ m.sp) (low : stack_place ≤ sp) where
  -- what waits for its result
  abbrev pub waits : Caller
  waits = record { to = t; routine = m.g; more = m.more; frame = m.frame }

  -- the world in which it begins
  abbrev pub world_entered : World
  world_entered = record m.w { turns = n; depth = m.w.depth + 1; trace = E.entered k ∷ m.w.trace }

  abbrev pub entered_moment : Moment
  entered_moment = record {
    blocks = m.blocks;
    owner = m.owner;
    numbers = m.number ∷ m.numbers;
    callers = waits ∷ m.callers;
    number = k;
    g = g;
    l = l;
    more = g.code;
    frame = map empty_slot g.locals;
    sp = sp;
    w = world_entered;
  }

  abbrev new : M.Memory
  new = with_word q.memory sp back

  unused : (a : ℕ) → sp ≤ a → a < m.sp → m.owner a ≡ None
  unused a lo hi = ready.below a (omega arith) hi

  size_covers : (slot_at (slots g) ≤ l.size) × (l.size % 16 ≡ 0)
  size_covers = frame_end ground p m.blocks m.owner k g l laid

  shows_none : (x : ℕ) (b : Bool) → slice_get g.locals x ≡ Some b → SlotShows ground p m.blocks m.owner new g l sp x (empty_slot b)
  shows_none x false e = ap (λ (o : Option Bool). unwrap_or o false) e
  shows_none x true e =
      let is : is_block g x ≡ true = ap (λ (o : Option Bool). unwrap_or o false) e in
      let within = place_within (slot_at (slots g)) (block_sizes g) x (block_known g x is) (omega arith) in
      let where' : slice_index l.blocks x ≡ slice_index (block_places g) x = ap (λ (z : List ℕ). slice_index z x) laid.blocks in
      (is, λ a c lo hi o. absurd (let d : Some c ≡ None = sym o ∙ unused a (omega arith) (omega (arith, within.1, laid.size)) in cc))

  framed : Framed ground p m.blocks m.owner new k g l (map empty_slot g.locals) sp
  framed =
      let fr = ready.frame in
      let covers = size_covers in
      record {
        laid = laid;
        locals = omega (arith, empty_long g.locals);
        count = omega (arith, empty_long g.locals, slots_long g);
        shows = λ x s e. let h = empty_is g.locals x s e in subst (SlotShows ground p m.blocks m.owner new g l sp x) h.2 (shows_none x h.0 h.1);
        whole = omega (arith, fr.whole, covers.1);
        low = low;
        high = omega (arith, fr.high, frame_end ground p m.blocks m.owner m.number m.g m.l fr.laid);
        private = λ a lo hi. unused a lo (omega (arith, covers.0));
        owns = λ a c lo hi o. absurd (let d : Some c ≡ None = sym o ∙ unused a lo (omega arith) in cc);
      }

  world_in : (memory : M.Memory) → Worldly ground p m.blocks m.owner m.w memory q.input q.output q.before
      → Worldly ground p m.blocks m.owner world_entered memory q.input q.output q.before
  world_in memory h = record {
    keeps = h.keeps;
    flat = h.flat;
    objects = h.objects;
    unused = h.unused;
    zero = h.zero;
    heap_low = h.heap_low;
    heap_high = h.heap_high;
    heap_whole = h.heap_whole;
    heap_used = h.heap_used;
    heap_limit = h.heap_limit;
    runtime = h.runtime;
    texts = h.texts;
    input_is = h.input_is;
    input_bytes = h.input_bytes;
    output_is = h.output_is;
    made = h.made;
  }

  -- its return place stands in its frame, and the caller waits above
  pub entered_ready : IsPlace back → Here ground p back (give_code t 10 ++ steps_code p.places m.g m.l m.more) → t < slots m.g → is_block m.g t ≡ false
      → (f : ℕ → ℕ) (pc : ℕ) → f 0 ≡ q.f 0 → f 2 ≡ sp → code_address ≤ pc → pc % 4 ≡ 0
      → Ready ground p entered_moment (record q { f = f; pc = pc; memory = new })
  entered_ready place code slot opened f pc nil stack inside whole =
      let fr = ready.frame in
      let top = ground.stack_end in
      let covers = size_covers in
      let outer = frame_end ground p m.blocks m.owner m.number m.g m.l fr.laid in
      let small : back < 2 ^ 32 = omega (arith, place.small) in
      let returns : word_at new sp ≡ back = word_again q.memory sp back small in
      let above : KeepsOther m.owner m.sp q.memory new = λ a none le. word_elsewhere q.memory sp back a (inr (omega (arith, covers.0))) in
      let old : Callers ground p m.blocks m.owner q.memory (m.number ∷ m.numbers) (waits ∷ m.callers) m.sp back =
      (m.l, fr, place, code, ready.fits, slot, opened, ready.callers) in
      let callers = callers_stay ground p m.blocks m.owner q.memory new (m.number ∷ m.numbers) (waits ∷ m.callers) m.sp back above old in
      record {
        nil = nil ∙ ready.nil;
        stack = stack;
        code = inside;
        whole = whole;
        fits = laid.fits;
        world = world_in new (world_stays ground p m.blocks m.owner q.memory new m.w q.input q.output q.before
            (keeps_word ground.text q.memory sp back ready.world.keeps (omega arith))
            (keeps_owned m.owner q.memory sp back (λ i lt. unused (sp + i) (omega arith) (omega (arith, covers.0))))
            (λ a none out ne. word_elsewhere q.memory sp back a (outside a out (omega (arith, fr.high, covers.0, outer.0)) top)) ready.world);
        frame = framed;
        callers = subst (λ z. Callers ground p m.blocks m.owner new (m.number ∷ m.numbers) (waits ∷ m.callers) z (word_at new sp)) (sym frame_is)
            (subst (Callers ground p m.blocks m.owner new (m.number ∷ m.numbers) (waits ∷ m.callers) m.sp) (sym returns) callers);
        below = λ a lo hi. ready.below a lo (omega arith);
        runs = ap (λ (z : List ℕ). k ∷ z) ready.runs;
      }
    where
      outside : (a : ℕ) → (a < 0x10000000) ⊎ (0x18000000 ≤ a) → sp + 4 ≤ ground.room.stack_end → ground.room.stack_end ≤ 0x18000000 → (a < sp) ⊎ (sp + 4 ≤ a)
      outside a (inl lt) high top = inl (omega arith)
      outside a (inr le) high top = inr (omega arith)
