-- A block begins: what stood stands still, and the new one has its addresses.
use Rattle.std.proofs.Common.{◌≡◌, ℕ, zero, suc, ◌+◌, ◌%◌, ◌<◌, ◌≤◌, ◌⊎◌, inl, inr, Bool, cond, leb, ltb, ◌&&◌, List, [], ◌∷◌, ◌++◌, length, replicate, Option, Some, None}
use Rattle.std.proofs.Common.{slice_get, refl, ap, sym, ◌∙◌, subst, arith, length-set, length-append}
use Rattle.std.specs.Prelude.{unwrap_or}
use Rattle.std.proofs.lemmas.List.{length-replicate}
use Rattle.std.proofs.lemmas.Bool.{cases_lt, le-leb, lt-leb, lt-ltb, le-ltb, and_right}
use Rattle.memory_words.specs.declared.cell_words.cell.Cell.{Cell}
use Rattle.memory_words.specs.declared.cell_words.cell.Cell.TheVariants as C
use Rattle.memory_words.specs.declared.cell_words.pointer.Ptr.{Ptr}
use Rattle.memory_words.specs.declared.cell_words.pointer.Ptr.TheVariants as P
use Rattle.block_memory.specs.declared.kinds.BlockKind.{BlockKind}
use Rattle.block_memory.specs.declared.kinds.BlockKind.TheVariants.{Local}
use Rattle.block_memory.specs.Blocks.{Memory, Block, living, ended, block, cells_in, size_in}
use Rattle.block_memory.specs.Lifetimes.{with_block}
use Rattle.block_memory.specs.RunWorlds.Events as E
use Rattle.block_memory.specs.RunWorlds.Events.{Event}
use Rattle.block_memory.specs.declared.run_worlds.value.Value.{Value}
use Rattle.block_memory.specs.declared.run_worlds.value.Value.TheVariants.{Word as word, Pointer as pointer}
use Rattle.c_meaning.specs.Frames.{Frame}
use Rattle.c_meaning.specs.declared.frame.Slot.{Slot}
use Rattle.c_meaning.specs.declared.frame.Slot.TheVariants.{ByName as by_name, InBlock as in_block}
use Rattle.rv_isa.specs.Events.{MachineEvent}
use Rattle.rv_isa.specs.Memory as M
use Rattle.rv_isa.specs.Memory.{word_at}
use Rattle.rv_code.specs.Frames.{block_size, block_sizes, sizes_in, sizes_of_parameters, sizes_with, slot_at, with_size}
use Rattle.rv_code.specs.declared.layout.Layout.{Layout}
use Rattle.rv_code.specs.declared.layout.Places.{Places}
use Rattle.tac_ir.specs.Code.{Code, RoutineData}
use Rattle.tac_ir.specs.Running.{Caller}
use Rattle.tac_ir.specs.declared.step.Parameter.{Parameter}
use Rattle.tac_ir.specs.declared.step.Step.{Step}
use Rattle.tac_ir.specs.declared.step.Step.TheVariants as S
use Rattle.rv_emit.specs.Maps.{Extent, Extents, Flat, IsPlaced, Means, Points, Room, Shows, Within}
use Rattle.rv_emit.specs.Grounds.{Ground}
use Rattle.rv_emit.specs.Relation.{Program, Callers, Framed, IsMade, SlotShows}
use Rattle.rv_emit.proofs.Lists.{get_below, get_cases, get_front, get_last}

-- ---- there is a size for each local

size_long : (x n : ℕ) (sizes : List ℕ) → length (with_size x n sizes) ≡ length sizes
size_long x n sizes = length-set sizes x _

step_long : (s : Step) (sizes : List ℕ) → length (sizes_with s sizes) ≡ length sizes
step_long (S.Set a b) sizes = refl
step_long (S.Clear a) sizes = refl
step_long (S.Unary a b c d) sizes = refl
step_long (S.Not a b) sizes = refl
step_long (S.Convert a b c d) sizes = refl
step_long (S.AsPointer a b c) sizes = refl
step_long (S.Number a b c) sizes = refl
step_long (S.Binary a b c d e f g) sizes = refl
step_long (S.Compare a b c d e f) sizes = refl
step_long (S.Move a b c d e f g h) sizes = refl
step_long (S.Distance a b c d e) sizes = refl
step_long (S.Update a b c d e f g h) sizes = refl
step_long (S.Field a b c d) sizes = refl
step_long (S.ElementField a b c d e f g) sizes = refl
step_long (S.Element a b c d e f g h) sizes = refl
step_long (S.Part a b c d) sizes = refl
step_long (S.Inside a b c d) sizes = refl
step_long (S.Load a b c d) sizes = refl
step_long (S.Store a b c d) sizes = refl
step_long (S.CopyRecord a b c d) sizes = refl
step_long (S.Jump a) sizes = refl
step_long (S.Branch a b c) sizes = refl
step_long (S.Test a b c d e f g) sizes = refl
step_long (S.Case a b c) sizes = refl
step_long (S.Call a b c d) sizes = refl
step_long (S.CallThrough a b c d e) sizes = refl
step_long (S.Library a b c d) sizes = refl
step_long (S.Allocate a b c d e f) sizes = refl
step_long (S.End a) sizes = refl
step_long (S.Forget a b) sizes = refl
step_long (S.Zeros a b) sizes = refl
step_long (S.Text a b c) sizes = refl
step_long (S.Began a b) sizes = refl
step_long (S.Return a) sizes = refl
step_long (S.ReturnHeld a) sizes = refl
step_long (S.Fail a b) sizes = refl
step_long (S.Begin x n) sizes = size_long x n sizes

code_long : (code : List Step) (sizes : List ℕ) → length (sizes_in code sizes) ≡ length sizes
code_long [] sizes = refl
code_long (s ∷ more) sizes = step_long s (sizes_in more sizes) ∙ code_long more sizes

parameters_long : (x : ℕ) (all : List Parameter) (sizes : List ℕ) → length (sizes_of_parameters x all sizes) ≡ length sizes
parameters_long x [] sizes = refl
parameters_long x (r ∷ more) sizes = size_long x (block_size r) (sizes_of_parameters (x + 1) more sizes) ∙ parameters_long (x + 1) more sizes

pub sizes_long : (g : RoutineData) → length (block_sizes g) ≡ length g.locals
sizes_long g =
    code_long g.code (sizes_of_parameters 0 g.parameters (replicate (length g.locals) 0)) ∙ parameters_long 0 g.parameters (replicate (length g.locals) 0)
    ∙ length-replicate (length g.locals) 0

-- ---- owners with a block more

-- a range that nobody owned is a block's
pub record Grown (old new : ℕ → Option ℕ) (low n b : ℕ) : Type 0 where
  pub mine : (a : ℕ) → low ≤ a → a < low + n → new a ≡ Some b
  pub same : (a : ℕ) → (a < low) ⊎ (low + n ≤ a) → new a ≡ old a
  pub free : (a : ℕ) → low ≤ a → a < low + n → old a ≡ None

abbrev pub with_range : (ℕ → Option ℕ) → (low n b : ℕ) → ℕ → Option ℕ
with_range owner low n b a = cond (leb low a && ltb a (low + n)) (Some b) (owner a)

pub grown_range : (owner : ℕ → Option ℕ) (low n b : ℕ) → ((a : ℕ) → low ≤ a → a < low + n → owner a ≡ None) → Grown owner (with_range owner low n b) low n b
grown_range owner low n b free = record {
  mine = λ a le lt. rw (le-leb low a le, lt-ltb a (low + n) lt) refl;
  same = same;
  free = free;
}
  where
    same : (a : ℕ) → (a < low) ⊎ (low + n ≤ a) → with_range owner low n b a ≡ owner a
    same a (inl lt) = rw (lt-leb low a lt) refl
    same a (inr le) = ap (λ (t : Bool). cond t (Some b) (owner a)) (and_right (leb low a) (ltb a (low + n)) (le-ltb a (low + n) le))

module _ (old new : ℕ → Option ℕ) (low n b : ℕ) (grown : Grown old new low n b) where
  -- where an address is owned, it was owned so, or it lies in the range
  pub owned_cases : (a c : ℕ) → new a ≡ Some c → (old a ≡ Some c) ⊎ ((low ≤ a) × (a < low + n) × (b ≡ c))
  owned_cases a c e = elim (cases_lt a low) [
    | inl lt ↦ inl (sym (grown.same a (inl lt)) ∙ e)
    | inr le ↦ elim (cases_lt a (low + n)) [
      | inl lt ↦ inr (le, lt, (let d : Some b ≡ Some c = sym (grown.mine a le lt) ∙ e in cc))
      | inr ge ↦ inl (sym (grown.same a (inr ge)) ∙ e)
    ]
  ]

  -- what was owned is owned
  pub still_owned : (a c : ℕ) → old a ≡ Some c → new a ≡ Some c
  still_owned a c e = elim (cases_lt a low) [
    | inl lt ↦ grown.same a (inl lt) ∙ e
    | inr le ↦ elim (cases_lt a (low + n)) [
      | inl lt ↦ absurd (let d : Some c ≡ None = sym e ∙ grown.free a le lt in cc)
      | inr ge ↦ grown.same a (inr ge) ∙ e
    ]
  ]

-- ---- values and events

module _ (c : Code) (p : Places) (blocks more : Extents) where
  pub points_more : (r : Ptr) (x : ℕ) → Points c p blocks r x → Points c p (blocks ++ more) r x
  points_more P.Null x h = h
  points_more (P.Block b at) x h = (h.0, get_front blocks more b h.0 h.1, h.2, h.3)
  points_more (P.Function f) x h = h

  pub means_more : (v : Value) (x : ℕ) → Means c p blocks v x → Means c p (blocks ++ more) v x
  means_more (word n) x h = h
  means_more (pointer r) x h = points_more r x h

  pub shows_more : (cell : Cell) (byte : ℕ) → Shows c p blocks cell byte → Shows c p (blocks ++ more) cell byte
  shows_more C.Empty byte h = h
  shows_more (C.Byte x) byte h = h
  shows_more (C.Fragment type r k) byte h = (h.0, points_more r h.0 h.1, h.2)

pub made_more : (ground : Ground) (p : Program) (blocks more : Extents) (trace : List Event) (made : List MachineEvent) → IsMade ground p blocks trace made
    → IsMade ground p (blocks ++ more) trace made
made_more ground p blocks more [] made h = h
made_more ground p blocks more (E.allocated b elements n ∷ before) made h =
    (h.0, h.1, get_front blocks more b h.0 h.2, h.3, made_more ground p blocks more before h.1 h.4)
made_more ground p blocks more (E.freed b ∷ before) made h = (h.0, h.1, get_front blocks more b h.0 h.2, h.3, made_more ground p blocks more before h.1 h.4)
made_more ground p blocks more (E.loaded b at n ∷ before) made h =
    (h.0, h.1, get_front blocks more b h.0 h.2, h.3, made_more ground p blocks more before h.1 h.4)
made_more ground p blocks more (E.stored b at n ∷ before) made h =
    (h.0, h.1, get_front blocks more b h.0 h.2, h.3, made_more ground p blocks more before h.1 h.4)
made_more ground p blocks more (E.put byte ∷ before) made h = made_more ground p blocks more before made h
made_more ground p blocks more (E.got byte ∷ before) made h = made_more ground p blocks more before made h
made_more ground p blocks more (E.reached b at ∷ before) made h = made_more ground p blocks more before made h
made_more ground p blocks more (E.entered f ∷ before) made h = made_more ground p blocks more before made h
made_more ground p blocks more (E.left ∷ before) made h = made_more ground p blocks more before made h
made_more ground p blocks more (E.began f l ∷ before) made h = made_more ground p blocks more before made h

-- ---- memory with a block more, which holds nothing

module _ (c : Code) (p : Places) (room : Room) (blocks : Extents) (old new : ℕ → Option ℕ) (m : Memory) (memory : M.Memory)
    (flat : Flat c p room blocks old m memory) (e : Extent) (k : BlockKind) (whole : e.at % 4 ≡ 0) (within : Within room k e)
    (grown : Grown old new e.at e.size (length m)) where
  abbrev after : Memory
  after = with_block m e.size k

  abbrev fresh : Block
  fresh = record { kind = k; contents = living (replicate e.size C.Empty) }

  abbrev no_block : Block
  no_block = record { kind = Local; contents = ended 0 }

  block_old : (b : ℕ) → b < length m → block after b ≡ block m b
  block_old b lt = by_option (slice_get m b) refl
    where
      by_option : (o : Option Block) → slice_get m b ≡ o → block after b ≡ block m b
      by_option (Some x) h = ap (λ (o : Option Block). unwrap_or o no_block) (get_front m (fresh ∷ []) b x h) ∙ sym (ap (λ (o : Option Block). unwrap_or o no_block) h)
      by_option None h = absurd (missing m b lt h)
        where
          missing : (all : Memory) (i : ℕ) → i < length all → slice_get all i ≡ None → ⊥
          missing [] i lt h = omega arith
          missing (x ∷ all) zero lt h = cc
          missing (x ∷ all) (suc i) lt h = missing all i (omega arith) h

  pub block_new : (b : ℕ) → b ≡ length m → block after b ≡ fresh
  block_new b is = ap (λ (o : Option Block). unwrap_or o no_block) (get_last m b fresh is)

  empty : (n i : ℕ) (cell : Cell) → slice_get (replicate n C.Empty) i ≡ Some cell → (i < n) × (C.Empty ≡ cell)
  empty zero i cell g = absurd cc
  empty (suc n) zero cell g = (omega arith, cc)
  empty (suc n) (suc i) cell g = (let h = empty n i cell g in (omega (arith, h.0), h.1))

  old_or_new : (b : ℕ) (d : Extent) → slice_get (blocks ++ e ∷ []) b ≡ Some d
      → ((b < length m) × (slice_get blocks b ≡ Some d)) ⊎ ((b ≡ length m) × (d ≡ e))
  old_or_new b d h = elim (get_cases blocks b e d h) [
    | inl o ↦ inl (omega (arith, get_below blocks b d o, flat.long), o)
    | inr o ↦ inr (omega (arith, o.0, flat.long), o.1)
  ]

  pub flat_grown : Flat c p room (blocks ++ e ∷ []) new after memory
  flat_grown = record {
    long = omega (arith, length-append blocks (e ∷ []), length-append m (fresh ∷ []), flat.long);
    placed = λ b d h. elim (old_or_new b d h) [
      | inl o ↦
          (let one = flat.placed b d o.1 in
          let z = block_old b o.0 in
          record {
            sized = ap (λ (i : Block). size_in i.contents) z ∙ one.sized;
            whole = one.whole;
            within = subst (λ (i : Block). Within room i.kind d) (sym z) one.within;
          })
      | inr o ↦
          (let z = block_new b o.0 in
          subst (λ d. IsPlaced room after b d) (sym o.1)
          (record {
            sized = ap (λ (i : Block). size_in i.contents) z ∙ length-replicate e.size C.Empty;
            whole = whole;
            within = subst (λ (i : Block). Within room i.kind e) (sym z) within;
          }))
    ];
    shows = λ b i d cell h is. elim (old_or_new b d h) [
      | inl o ↦ shows_more c p blocks (e ∷ []) cell (memory (d.at + i))
          (flat.shows b i d cell o.1 (ap (λ (z : Block). slice_get (cells_in z.contents) i) (sym (block_old b o.0)) ∙ is))
      | inr o ↦
          (let g : slice_get (replicate e.size C.Empty) i ≡ Some cell = ap (λ (z : Block). slice_get (cells_in z.contents) i) (sym (block_new b o.0)) ∙ is in
          subst (λ z. Shows c p (blocks ++ e ∷ []) z (memory (d.at + i))) (empty e.size i cell g).1 tt)
    ];
    owned = λ b i d cell h is. elim (old_or_new b d h) [
      | inl o ↦ still_owned old new e.at e.size (length m) grown (d.at + i) b
          (flat.owned b i d cell o.1 (ap (λ (z : Block). slice_get (cells_in z.contents) i) (sym (block_old b o.0)) ∙ is))
      | inr o ↦
          (let g : slice_get (replicate e.size C.Empty) i ≡ Some cell = ap (λ (z : Block). slice_get (cells_in z.contents) i) (sym (block_new b o.0)) ∙ is in
          let lt = (empty e.size i cell g).0 in
          let z : e.at + i ≡ d.at + i = ap (λ (j : Extent). j.at + i) (sym o.1) in
          ap new (sym z) ∙ grown.mine (e.at + i) (omega arith) (omega arith) ∙ ap Some (sym o.0))
    ];
  }

-- ---- frames above

module _ (ground : Ground) (p : Program) (blocks more : Extents) (old new : ℕ → Option ℕ) (memory : M.Memory) (low n b : ℕ) (grown : Grown old new low n b) where
  slot_above : (g : RoutineData) (l : Layout) (sp t : ℕ) (s : Slot) → low + n ≤ sp → SlotShows ground p blocks old memory g l sp t s
      → SlotShows ground p (blocks ++ more) new memory g l sp t s
  slot_above g l sp t (by_name None) le h = h
  slot_above g l sp t (by_name (Some v)) le h = (h.0, means_more p.code p.places blocks more v (word_at memory (sp + slot_at t)) h.1)
  slot_above g l sp t (in_block None) le h = (h.0, λ a c lo hi e. h.1 a c lo hi (sym (grown.same a (inr (omega arith))) ∙ e))
  slot_above g l sp t (in_block (Some d)) le h =
      (h.0, (λ a c lo hi e. h.1 a c lo hi (sym (grown.same a (inr (omega arith))) ∙ e)), get_front blocks more d _ h.2)

  framed_above : (number : ℕ) (g : RoutineData) (l : Layout) (f : Frame) (sp : ℕ) → low + n ≤ sp → Framed ground p blocks old memory number g l f sp
      → Framed ground p (blocks ++ more) new memory number g l f sp
  framed_above number g l f sp le fr = record {
    laid = fr.laid;
    locals = fr.locals;
    count = fr.count;
    shows = λ t s e. slot_above g l sp t s le (fr.shows t s e);
    whole = fr.whole;
    low = fr.low;
    high = fr.high;
    private = λ a lo hi. grown.same a (inr (omega arith)) ∙ fr.private a lo hi;
    owns = λ a c lo hi e. fr.owns a c lo hi (sym (grown.same a (inr (omega arith))) ∙ e);
  }

  pub callers_above : (numbers : List ℕ) (all : List Caller) (sp back : ℕ) → low + n ≤ sp → Callers ground p blocks old memory numbers all sp back
      → Callers ground p (blocks ++ more) new memory numbers all sp back
  callers_above [] [] sp back le h = h
  callers_above [] (one ∷ rest) sp back le h = h
  callers_above (number ∷ numbers) [] sp back le h = h
  callers_above (number ∷ numbers) (one ∷ rest) sp back le h = (
    h.0,
    framed_above number one.routine h.0 one.frame sp le h.1,
    h.2,
    h.3,
    h.4,
    h.5,
    h.6,
    callers_above numbers rest (sp + h.0.size) (word_at memory sp) (omega arith) h.7,
  )
