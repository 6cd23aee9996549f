-- Blocks of locals that begin.
use Rattle.std.proofs.Common.{◌≡◌, ◌≢◌, ℕ, zero, suc, ◌+◌, ◌-◌, ◌<◌, ◌≤◌, ◌⊎◌, inl, inr, Bool, true, false, cond, ◌&&◌, ltb, List, [], ◌∷◌, ◌++◌, length, Option, Some, None}
use Rattle.std.proofs.Common.{slice_get, slice_set, slice_index, refl, ap, sym, ◌∙◌, subst, arith, length-set}
use Rattle.std.specs.Prelude.{unwrap_or}
use Rattle.std.proofs.lemmas.Bool.{both_ways, cases_eq, cases_lt}
use Rattle.lay_base.specs.declared.faults.RoomKind.TheVariants.{Live}
use Rattle.block_memory.specs.declared.kinds.BlockKind.TheVariants.{Local}
use Rattle.block_memory.specs.Lifetimes.{with_block}
use Rattle.block_memory.specs.RunWorlds.Doing.{make}
use Rattle.block_memory.specs.RunWorlds.Worlds.{greatest_live, live_bytes, out_of_room}
use Rattle.block_memory.specs.declared.run_worlds.value.Value.{Value}
use Rattle.c_meaning.specs.Frames.{Frame, with_slot}
use Rattle.c_meaning.specs.declared.frame.Slot.{Slot}
use Rattle.c_meaning.specs.declared.frame.Slot.TheVariants.{ByName as by_name, InBlock as in_block}
use Rattle.rv_isa.specs.Memory.{word_at}
use Rattle.rv_code.specs.Code.{is_block, steps_code}
use Rattle.rv_code.specs.Frames.{block_places, block_sizes, slot_at, slots}
use Rattle.tac_ir.specs.Code.{RoutineData}
use Rattle.tac_ir.specs.Running.{Next, end_slot}
use Rattle.tac_ir.specs.declared.step.Step.TheVariants as S
use Rattle.rv_emit.specs.Maps.{Extent}
use Rattle.rv_emit.specs.Grounds.{Ground}
use Rattle.rv_emit.specs.Relation.{Program, Moment, Point, Ready, Here, IsBuilt, OwnedBy, SlotShows}
use Rattle.rv_emit.specs.Claims.{Claims, AreClaims, Follows, state}
use Rattle.rv_emit.proofs.Ending.{ended_moment, ended_ready}
use Rattle.rv_emit.proofs.Growing.{Grown, callers_above, flat_grown, grown_range, made_more, means_more, owned_cases, sizes_long, with_range}
use Rattle.rv_emit.proofs.Lists.{get_below, get_front, get_last, place_within, places_apart, set_other, set_same}
use Rattle.rv_emit.proofs.Plain.{Works}

-- ---- where blocks are in a frame

pub block_known : (g : RoutineData) (t : ℕ) → is_block g t ≡ true → t < length (block_sizes g)
block_known g t is = omega (arith, sizes_long g, by_option (slice_get g.locals t) refl is)
  where
    by_option : (o : Option Bool) → slice_get g.locals t ≡ o → unwrap_or o false ≡ true → t < length g.locals
    by_option (Some b) e k = get_below g.locals t b e
    by_option None e k = absurd cc

-- an address is in the place of one block alone
disjoint : (g : RoutineData) (t x a : ℕ) → t ≢ x → t < length (block_sizes g) → x < length (block_sizes g)
    → slice_index (block_places g) t ≤ a → a < slice_index (block_places g) t + slice_index (block_sizes g) t
    → slice_index (block_places g) x ≤ a → a < slice_index (block_places g) x + slice_index (block_sizes g) x → ⊥
disjoint g t x a ne lt lx t0 t1 x0 x1 = elim (cases_lt t x) [
  | inl less ↦ (let h = places_apart (slot_at (slots g)) (block_sizes g) t x lt lx less (omega arith) in omega arith)
  | inr le ↦ elim (cases_lt x t) [
    | inl less ↦ (let h = places_apart (slot_at (slots g)) (block_sizes g) x t lx lt less (omega arith) in omega arith)
    | inr ge ↦ ne (omega arith)
  ]
]

module _ (ground : Ground) (p : Program) (m : Moment) (q : Point) (ready : Ready ground p m q) (x : ℕ) (idle : slice_get m.frame x ≡ Some (in_block None)) where
  abbrev place : ℕ
  place = m.sp + slice_index m.l.blocks x

  abbrev n : ℕ
  n = slice_index (block_sizes m.g) x

  abbrev b : ℕ
  b = length m.w.memory

  abbrev fresh : Extent
  fresh = record { at = place; size = n }

  abbrev pub begun : Moment
  begun = record m {
    blocks = m.blocks ++ fresh ∷ [];
    owner = with_range m.owner place n b;
    frame = slice_set m.frame x (in_block (Some b));
    w = record m.w { memory = with_block m.w.memory n Local };
  }

  pub begun_ready : Ready ground p begun q
  begun_ready =
      let fr = ready.frame in
      let laid = fr.laid in
      let world = ready.world in
      let shows = fr.shows x (in_block None) idle in
      let lx = block_known m.g x shows.0 in
      let where' : slice_index m.l.blocks x ≡ slice_index (block_places m.g) x = ap (λ (z : List ℕ). slice_index z x) laid.blocks in
      let within = place_within (slot_at (slots m.g)) (block_sizes m.g) x lx (omega arith) in
      let top : slice_index m.l.blocks x + n ≤ m.l.size = omega (arith, laid.size, within.1) in
      let bottom : slot_at (slots m.g) ≤ slice_index m.l.blocks x = omega (arith, within.0) in
      let low : 0x10000000 ≤ place = omega (arith, fr.low) in
      let high : place + n ≤ ground.room.stack_end = omega (arith, fr.high) in
      let end = ground.stack_end in
      let grown = grown_range m.owner place n b (λ a lo hi. nobodys a lo hi shows.1) in
      let new = with_range m.owner place n b in
      let outside : (a : ℕ) → (a < place) ⊎ (place + n ≤ a) → m.owner a ≡ None → new a ≡ None = λ a out none. grown.same a out ∙ none in
      let blocks = m.blocks ++ fresh ∷ [] in
      let flat = flat_grown p.code p.places ground.room m.blocks m.owner new m.w.memory q.memory world.flat fresh Local (omega (arith, fr.whole, within.2))
      (low, high) grown in
      record {
        nil = ready.nil;
        stack = ready.stack;
        code = ready.code;
        whole = ready.whole;
        fits = ready.fits;
        world = record {
          keeps = world.keeps;
          flat = flat;
          objects = λ k lt. let h = world.objects k lt in (h.0, get_front m.blocks (fresh ∷ []) k h.0 h.1, h.2);
          unused = λ a lo hi. outside a (inr (omega (arith, world.heap_low))) (world.unused a lo hi);
          zero = world.zero;
          heap_low = world.heap_low;
          heap_high = world.heap_high;
          heap_whole = world.heap_whole;
          heap_used = world.heap_used;
          heap_limit = world.heap_limit;
          runtime = λ a lo hi. outside a (inl (omega arith)) (world.runtime a lo hi);
          texts = λ a bytes is.
              let h = world.texts a bytes is in
              let part = ground.data_end in
              (h.0, h.1, h.2, λ i lt. outside (a + i) (inl (omega (arith, h.2))) (h.3 i lt));
          input_is = world.input_is;
          input_bytes = world.input_bytes;
          output_is = world.output_is;
          made = made_more ground p m.blocks (fresh ∷ []) m.w.trace q.before world.made;
        };
        frame = record {
          laid = laid;
          locals = omega (arith, fr.locals, length-set m.frame x (in_block (Some b)));
          count = omega (arith, fr.count, length-set m.frame x (in_block (Some b)));
          shows = λ t s e. elim (cases_eq t x) [
            | inl same ↦
                (let d : Some (in_block (Some b)) ≡ Some s =
                sym (set_same m.frame x (in_block (Some b)) (in_block None) idle) ∙ ap (slice_get (slice_set m.frame x (in_block (Some b)))) (sym same) ∙ e in
                let z : in_block (Some b) ≡ s = cc in
                subst (λ i. SlotShows ground p blocks new q.memory m.g m.l m.sp i s) (sym same)
                (subst (SlotShows ground p blocks new q.memory m.g m.l m.sp x) z (
                  shows.0,
                  (λ a c lo hi o. let k : Some b ≡ Some c = sym (grown.mine a lo hi) ∙ o in k),
                  get_last m.blocks b fresh (sym world.flat.long),
                )))
            | inr ne ↦ others t s ne lx laid.blocks grown (fr.shows t s (sym (set_other m.frame x t (in_block (Some b)) ne) ∙ e))
          ];
          whole = fr.whole;
          low = fr.low;
          high = fr.high;
          private = λ a lo hi. outside a (inl (omega arith)) (fr.private a lo hi);
          owns = λ a c lo hi o. elim (owned_cases m.owner new place n b grown a c o) [
            | inl k ↦ (let h = fr.owns a c lo hi k in
                (h.0, set_other m.frame x h.0 (in_block (Some b)) (λ d. another c h.0 h.1 d) ∙ h.1))
            | inr k ↦ (let d = k.2 in (
              x,
              set_same m.frame x (in_block (Some b)) (in_block None) idle
                  ∙ ap (λ (i : ℕ). Some (in_block (Some i))) d,
            ))
          ];
        };
        callers = callers_above ground p m.blocks (fresh ∷ []) m.owner new q.memory place n b grown m.numbers m.callers (m.sp + m.l.size) (word_at q.memory m.sp)
            (omega arith) ready.callers;
        below = λ a lo hi. outside a (inl (omega arith)) (ready.below a lo hi);
        runs = ready.runs;
      }
    where
      -- nobody owns where an idle block may stand
      nobodys : (a : ℕ) → place ≤ a → a < place + n → OwnedBy ground p m.blocks m.owner q.memory place n None → m.owner a ≡ None
      nobodys a lo hi h = by_owner (m.owner a) refl
        where
          by_owner : (o : Option ℕ) → m.owner a ≡ o → m.owner a ≡ None
          by_owner None e = e
          by_owner (Some c) e = absurd (let d : None ≡ Some c = h a c lo hi e in cc)

      another : (c y : ℕ) → slice_get m.frame y ≡ Some (in_block (Some c)) → y ≡ x → ⊥
      another c y e d = (let k : Some (in_block (Some c)) ≡ Some (in_block None) = sym e ∙ ap (slice_get m.frame) d ∙ idle in cc)

      owned_other : (t : ℕ) (o : Option ℕ) → t ≢ x → x < length (block_sizes m.g) → m.l.blocks ≡ block_places m.g
          → Grown m.owner (with_range m.owner place n b) place n b → is_block m.g t ≡ true
          → OwnedBy ground p m.blocks m.owner q.memory (m.sp + slice_index m.l.blocks t) (slice_index (block_sizes m.g) t) o
          → OwnedBy ground p (m.blocks ++ fresh ∷ []) (with_range m.owner place n b) q.memory (m.sp + slice_index m.l.blocks t) (slice_index (block_sizes m.g) t) o
      owned_other t o ne lx laid grown is h a c lo hi e = elim (owned_cases m.owner (with_range m.owner place n b) place n b grown a c e) [
        | inl k ↦ h a c lo hi k
        | inr k ↦ absurd (disjoint m.g t x (a - m.sp) ne (block_known m.g t is) lx
            (omega (arith, ap (λ (z : List ℕ). slice_index z t) laid)) (omega (arith, ap (λ (z : List ℕ). slice_index z t) laid))
            (omega (arith, ap (λ (z : List ℕ). slice_index z x) laid, k.0)) (omega (arith, ap (λ (z : List ℕ). slice_index z x) laid, k.0, k.1)))
      ]

      others : (t : ℕ) (s : Slot) → t ≢ x → x < length (block_sizes m.g) → m.l.blocks ≡ block_places m.g
          → Grown m.owner (with_range m.owner place n b) place n b → SlotShows ground p m.blocks m.owner q.memory m.g m.l m.sp t s
          → SlotShows ground p (m.blocks ++ fresh ∷ []) (with_range m.owner place n b) q.memory m.g m.l m.sp t s
      others t (by_name None) ne lx laid grown h = h
      others t (by_name (Some v)) ne lx laid grown h = (h.0, means_more p.code p.places m.blocks (fresh ∷ []) v (word_at q.memory (m.sp + slot_at t)) h.1)
      others t (in_block None) ne lx laid grown h = (h.0, owned_other t None ne lx laid grown h.0 h.1)
      others t (in_block (Some d)) ne lx laid grown h = (h.0, owned_other t (Some d) ne lx laid grown h.0 h.1, get_front m.blocks (fresh ∷ []) d _ h.2)

-- with room for the block, or without
makes : (ground : Ground) (p : Program) (Claim : Claims) (claims : AreClaims ground p Claim) (next : Next) (follows : Follows ground p Claim next) (m : Moment) (q : Point)
    → Ready ground p m q → (x : ℕ) → slice_get m.frame x ≡ Some (in_block None) → Here ground p q.pc (steps_code p.places m.g m.l m.more)
    → Claim (make (slice_index (block_sizes m.g) x) Local (λ b. with_slot x (in_block (Some b)) (λ v. next m.callers m.g m.more)) m.frame m.w) m.w.turns (state q) q.before
makes ground p Claim claims next follows m q ready x is code =
    by_room (m.w.is_limited && ltb greatest_live (live_bytes m.w.memory + slice_index (block_sizes m.g) x))
  where
    by_room : (t : Bool) → Claim (cond t (out_of_room Live (live_bytes m.w.memory + slice_index (block_sizes m.g) x) m.w)
        (next m.callers m.g m.more (slice_set m.frame x (in_block (Some (length m.w.memory))))
        (record m.w { memory = with_block m.w.memory (slice_index (block_sizes m.g) x) Local }))) m.w.turns (state q) q.before
    by_room true = claims.out_of_room Live (live_bytes m.w.memory + slice_index (block_sizes m.g) x) m.w m.w.turns (state q) q.before
    by_room false = follows (begun ground p m q ready x is) q (begun_ready ground p m q ready x is) code

module _ (ground : Ground) (p : Program) (built : IsBuilt ground p) (m : Moment) (q : Point) (ready : Ready ground p m q) (Claim : Claims)
    (claims : AreClaims ground p Claim) (next : Next) (follows : Follows ground p Claim next) where
  pub begin_works : (x size : ℕ) → Works ground p built Claim claims next m q (S.Begin x size)
  begin_works x size code fits = by_slot (slice_get m.frame x) refl
    where
      plain : (v : Option Value) → SlotShows ground p m.blocks m.owner q.memory m.g m.l m.sp x (by_name v) → is_block m.g x ≡ false
      plain None h = h
      plain (Some v) h = h.0

      missing : slice_get m.frame x ≡ None → ⊥
      missing e = (let lt = get_below m.g.locals x true fits.kinds.1 in none m.frame x (omega (arith, ready.frame.locals)) e)
        where
          none : (all : Frame) (i : ℕ) → i < length all → slice_get all i ≡ None → ⊥
          none [] i lt e = omega arith
          none (s ∷ all) zero lt e = cc
          none (s ∷ all) (suc i) lt e = none all i (omega arith) e

      by_slot : (o : Option Slot) → slice_get m.frame x ≡ o
          → Claim (end_slot x o (λ u. make size Local (λ b. with_slot x (in_block (Some b)) (λ v. next m.callers m.g m.more))) m.frame m.w) m.w.turns (state q) q.before
      by_slot (Some (in_block None)) is = subst (λ n. Claim (make n Local (λ b. with_slot x (in_block (Some b)) (λ v. next m.callers m.g m.more)) m.frame m.w) m.w.turns
          (state q) q.before) (sym fits.numbers) (makes ground p Claim claims next follows m q ready x is code)
      by_slot (Some (in_block (Some b))) is =
          let k = ended_moment ground p m q ready x b in
          subst (λ n. Claim (make n Local (λ b. with_slot x (in_block (Some b)) (λ v. next m.callers m.g m.more)) k.frame k.w) m.w.turns (state q) q.before) (sym fits.numbers)
          (makes ground p Claim claims next follows k q (ended_ready ground p m q ready x b is) x (set_same m.frame x (in_block None) (in_block (Some b)) is) code)
      by_slot (Some (by_name v)) is =
          absurd (both_ways (is_block m.g x) (plain v (ready.frame.shows x (by_name v) is)) (ap (λ (o : Option Bool). unwrap_or o false) fits.kinds.1))
      by_slot None is = absurd (missing is)
