-- The call of `main`, which no function makes: the machine comes from its start to the first step of `main`, whose frame is the first one.
use Rattle.std.proofs.Common.{◌≡◌, ℕ, ◌+◌, ◌-◌, ◌*◌, ◌%◌, ◌^◌, ◌<◌, ◌≤◌, ◌⊎◌, inl, inr, Bool, true, false, not, ltb, List, [], ◌∷◌, ◌++◌, length, map}
use Rattle.std.proofs.Common.{Option, Some, None, pos, slice_get, slice_index, ap, sym, ◌∙◌, subst, arith, le-ltb}
use Rattle.std.specs.Prelude.{unwrap_or}
use Rattle.std.proofs.lemmas.Int.{ints}
use Rattle.block_memory.specs.RunWorlds.Events as E
use Rattle.block_memory.specs.RunWorlds.Worlds.{World}
use Rattle.rv_isa.specs.declared.instruction.Inst.TheVariants.{Bgeu, Ebreak, Sub}
use Rattle.rv_isa.specs.Arithmetic.{difference, plus}
use Rattle.rv_isa.specs.Events.{MachineEvent, code_address}
use Rattle.rv_isa.specs.Memory as M
use Rattle.rv_isa.specs.Memory.{with_word}
use Rattle.rv_runtime.specs.Steps.States.{at, put}
use Rattle.rv_runtime.proofs.Steps.Operators.{by_binary, by_branch_taken, is_bgeu, is_sub}
use Rattle.rv_runtime.proofs.Steps.Words.{keeps_word, word_again}
use Rattle.rv_code.specs.Code.{a_word, entry_code, is_block, parameters_code, stack_place, steps_code}
use Rattle.rv_code.specs.Frames.{block_places, block_sizes, slot_at, slots}
use Rattle.rv_code.specs.Words.{keep_code, number_code}
use Rattle.rv_code.specs.declared.layout.Layout.{Layout}
use Rattle.tac_ir.specs.Code.{RoutineData}
use Rattle.tac_ir.specs.Running.{Next, empty_slot}
use Rattle.rv_emit.specs.Maps.{Extents}
use Rattle.rv_emit.specs.Grounds.{Ground}
use Rattle.rv_emit.specs.Relation.{Program, Moment, Point, Ready, Framed, Here, IsLaid, IsPlace, SlotShows, Worldly, active}
use Rattle.rv_emit.specs.Claims.{Claims, AreClaims, Follows}
use Rattle.rv_emit.proofs.Beginning.{block_known}
use Rattle.rv_emit.proofs.Entering.{empty_is, empty_long, slots_long}
use Rattle.rv_emit.proofs.Giving.{keeps_owned, word_elsewhere}
use Rattle.rv_emit.proofs.Keeping.{frame_end, world_stays}
use Rattle.rv_emit.proofs.Lists.{place_within}
use Rattle.rv_emit.proofs.Moves.{Goal, by_keep, by_number, parts}

-- ---- a frame at the end of the stack, of which nothing is used

module _ (ground : Ground) (p : Program) (blocks : Extents) (owner : ℕ → Option ℕ) (first : World) (memory : M.Memory) (input output : List ℕ)
    (before : List MachineEvent) (world : Worldly ground p blocks owner first memory input output before)
    (unused : (a : ℕ) → stack_place ≤ a → a < ground.room.stack_end → owner a ≡ None) (even : ground.room.stack_end % 16 ≡ 0)
    (none_runs : active first.trace ≡ []) (k : ℕ) (g : RoutineData) (l : Layout) (laid : IsLaid ground p k g l)
    (enough : stack_place + l.size ≤ ground.room.stack_end) where
  abbrev sp : ℕ
  sp = ground.room.stack_end - l.size

  abbrev new : M.Memory
  new = with_word memory sp p.end_place

  -- the world in which the function begins, with so many turns left
  abbrev pub first_entered : (turns : ℕ) → World
  first_entered n = record first { turns = n; depth = first.depth + 1; trace = E.entered k ∷ first.trace }

  abbrev pub first_moment : (turns : ℕ) → Moment
  first_moment n = record {
    blocks = blocks;
    owner = owner;
    numbers = [];
    callers = [];
    number = k;
    g = g;
    l = l;
    more = g.code;
    frame = map empty_slot g.locals;
    sp = sp;
    w = first_entered n;
  }

  size_covers : (slot_at (slots g) ≤ l.size) × (l.size % 16 ≡ 0)
  size_covers = frame_end ground p blocks owner k g l laid

  unused_here : (a : ℕ) → sp ≤ a → a < ground.room.stack_end → owner a ≡ None
  unused_here a low high = unused a (omega arith) high

  shows_none : (x : ℕ) (b : Bool) → slice_get g.locals x ≡ Some b → SlotShows ground p blocks owner new g l sp x (empty_slot b)
  shows_none x false e = ap (λ (o : Option Bool). unwrap_or o false) e
  shows_none x true e =
      let is : is_block g x ≡ true = ap (λ (o : Option Bool). unwrap_or o false) e in
      let within = place_within (slot_at (slots g)) (block_sizes g) x (block_known g x is) (omega arith) in
      let where' : slice_index l.blocks x ≡ slice_index (block_places g) x = ap (λ (z : List ℕ). slice_index z x) laid.blocks in
      (is, λ a c lo hi o. absurd (let d : Some c ≡ None = sym o ∙ unused_here a (omega arith) (omega (arith, within.1, laid.size)) in cc))

  framed : Framed ground p blocks owner new k g l (map empty_slot g.locals) sp
  framed =
      let covers = size_covers in
      record {
        laid = laid;
        locals = omega (arith, empty_long g.locals);
        count = omega (arith, empty_long g.locals, slots_long g);
        shows = λ x s e. let h = empty_is g.locals x s e in subst (SlotShows ground p blocks owner new g l sp x) h.2 (shows_none x h.0 h.1);
        whole = omega (arith, even, covers.1);
        low = omega arith;
        high = omega arith;
        private = λ a lo hi. unused_here a lo (omega (arith, covers.0));
        owns = λ a c lo hi o. absurd (let d : Some c ≡ None = sym o ∙ unused_here a lo (omega arith) in cc);
      }

  -- its return place is stored
  stored_world : Worldly ground p blocks owner first new input output before
  stored_world =
      let covers = size_covers in
      let top = ground.stack_end in
      world_stays ground p blocks owner memory new first input output before (keeps_word ground.text memory sp p.end_place world.keeps (omega arith))
      (keeps_owned owner memory sp p.end_place (λ i lt. unused_here (sp + i) (omega arith) (omega (arith, covers.0))))
      (λ a none out other. word_elsewhere memory sp p.end_place a (outside a out (omega (arith, covers.0)) top)) world
    where
      outside : (a : ℕ) → (a < 0x10000000) ⊎ (0x18000000 ≤ a) → sp + 4 ≤ ground.room.stack_end → ground.room.stack_end ≤ 0x18000000 → (a < sp) ⊎ (sp + 4 ≤ a)
      outside a (inl lt) high top = inl (omega arith)
      outside a (inr le) high top = inr (omega arith)

  entered_world : (turns : ℕ) → Worldly ground p blocks owner (first_entered turns) new input output before
  entered_world n = (let h = stored_world in record {
    keeps = h.keeps;
    flat = h.flat;
    objects = h.objects;
    unused = h.unused;
    zero = h.zero;
    heap_low = h.heap_low;
    heap_high = h.heap_high;
    heap_whole = h.heap_whole;
    heap_used = h.heap_used;
    heap_limit = h.heap_limit;
    runtime = h.runtime;
    texts = h.texts;
    input_is = h.input_is;
    input_bytes = h.input_bytes;
    output_is = h.output_is;
    made = h.made;
  })

  pub first_ready : IsPlace p.end_place → (turns : ℕ) (f : ℕ → ℕ) (pc : ℕ) → f 0 ≡ 0 → f 2 ≡ sp → code_address ≤ pc → pc % 4 ≡ 0
      → Ready ground p (first_moment turns) (record { f = f; pc = pc; memory = new; input = input; output = output; before = before })
  first_ready end n f pc nil stack inside whole =
      let covers = size_covers in
      record {
        nil = nil;
        stack = stack;
        code = inside;
        whole = whole;
        fits = laid.fits;
        world = entered_world n;
        frame = framed;
        callers = (omega arith, word_again memory sp p.end_place (omega (arith, end.small)));
        below = λ a lo hi. unused a lo (omega arith);
        runs = ap (λ (z : List ℕ). k ∷ z) none_runs;
      }

  -- ---- from its entry to its first step

  module _ (end : IsPlace p.end_place) (Claim : Claims) (claims : AreClaims ground p Claim) (next : Next) (follows : Follows ground p Claim next)
      (none : g.parameters ≡ []) where
    pub by_entry : (n : ℕ) (f : ℕ → ℕ) → f 0 ≡ 0 → f 1 ≡ p.end_place → f 2 ≡ ground.room.stack_end
        → Here ground p (slice_index p.places.entries k) (entry_code l g.parameters ++ steps_code p.places g l g.code)
        → Claim (next [] g g.code (map empty_slot g.locals) (first_entered n)) (n + 1) (at f (slice_index p.places.entries k) memory input output) before
    by_entry n f nil one stack code =
        let e = next [] g g.code (map empty_slot g.locals) (first_entered n) in
        let pc = slice_index p.places.entries k in
        let inside = laid.entry.code in
        let top = ground.stack_end in
        let covers = size_covers in
        let steps = steps_code p.places g l g.code in
        let check = number_code 5 (stack_place + l.size) in
        let number = number_code 5 l.size in
        let keep = keep_code a_word 1 2 0 in
        let params = parameters_code l 0 g.parameters in
        let rest = Sub 2 2 5 ∷ (keep ++ params) in
        let d1 = parts ground pc check (Bgeu 2 5 (pos 8) ∷ Ebreak ∷ (number ++ rest)) steps code in
        let pc1 = pc + 4 * length check in
        let pc2 = pc1 + 4 + 4 in
        let d2 = parts ground pc2 number rest steps d1.1.1.1 in
        let pc3 = pc2 + 4 * length number in
        let d3 = parts ground (pc3 + 4) keep params steps d2.1.1 in
        let keeps = world.keeps in
        let goal : Goal ground = record { Claim = Claim e; claim = claims.backward e; n = n; input = input; output = output; before = before } in
        let goal1 : Goal ground = record { Claim = Claim e; claim = claims.backward e; n = n + 1; input = input; output = output; before = before } in
        let f1 = put f 5 ((stack_place + l.size) % 2 ^ 32) in
        let f2 = put f1 5 (l.size % 2 ^ 32) in
        let f3 = put f2 2 sp in
        let tested : not (ltb (f1 2) (f1 5)) ≡ true = ap not (le-ltb (f1 2) (f1 5) (omega (arith, stack))) in
        let to : plus pc1 (pos 8) ≡ pc2 = omega (arith, ints, d1.1.1.0.below) in
        let down : difference (f2 2) (f2 5) ≡ sp = omega (arith, stack) in
        let at_sp : (f3 2 + 0) % 2 ^ 32 ≡ sp = omega arith in
        let room : sp + 4 ≤ ground.room.stack_end = omega (arith, covers.0) in
        let whole : sp % 4 ≡ 0 = omega (arith, even, covers.1) in
        by_number ground goal1 f pc memory keeps inside 5 (stack_place + l.size) (omega arith) (omega arith) nil d1.0
        (by_branch_taken ground.segments ground.text (Claim e) (claims.backward e) f1 pc1 memory input output keeps (omega (arith, inside)) n before
        (Bgeu 2 5 (pos 8)) d1.1.0 2 5 pc2 (λ x y. not (ltb x y)) (pos 8) (is_bgeu 2 5 (pos 8)) (omega arith) (omega arith) tested to
        (omega (arith, laid.entry.whole)) (omega (arith, inside))
        (by_number ground goal f1 pc2 memory keeps (omega (arith, inside)) 5 l.size (omega arith) (omega arith) nil d2.0
        (by_binary ground.segments ground.text (Claim e) (claims.backward e) f2 pc3 memory input output keeps (omega (arith, inside)) n before (Sub 2 2 5)
        d2.1.0 2 2 5 sp difference (is_sub 2 2 5) (omega arith) (omega arith) (omega arith) down
        (by_keep ground goal f3 (pc3 + 4) memory keeps (omega (arith, inside)) 1 2 0 sp p.end_place (omega arith) (omega arith) (λ d. omega arith)
        (λ d. omega arith) d3.0 at_sp whole (ground.write sp 4 (inr (inl (omega arith, room)))) (ground.quiet_store sp 4 (omega arith)) one
        (λ h same.
        let pc4 = pc3 + 4 + 4 * length keep in
        let q : Point = record { f = h; pc = pc4; memory = new; input = input; output = output; before = before } in
        let ready = first_ready end n h pc4 (same 0 (λ d. omega arith) ∙ nil) (same 2 (λ d. omega arith)) (omega (arith, inside))
        (omega (arith, laid.entry.whole)) in
        follows (first_moment n) q ready (subst (λ r. Here ground p pc4 (parameters_code l 0 r ++ steps)) none d3.1))))))
