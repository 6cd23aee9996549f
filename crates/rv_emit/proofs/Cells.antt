-- Cells of a block, some of which are overwritten.
use Rattle.std.proofs.Common.{◌≡◌, ℕ, zero, suc, ◌+◌, ◌-◌, ◌%◌, ◌<◌, ◌≤◌, ◌≢◌, ◌⊎◌, inl, inr, Bool, true, false, eqb, leb, not, ◌&&◌, List, [], ◌∷◌, ◌++◌, length}
use Rattle.std.proofs.Common.{Option, Some, None, Ok, slice_get, slice_set, take, drop, unwrap_or, refl, ap, sym, ◌∙◌, subst, arith, leb-true, eqb-true}
use Rattle.std.proofs.Common.{length-append, length-set}
use Rattle.std.proofs.lemmas.List.{length-take, length-drop}
use Rattle.std.proofs.lemmas.Option.{slice_get_within}
use Rattle.std.proofs.lemmas.Bool.{cases_eq, cases_lt}
use Rattle.lay_base.specs.declared.faults.UndefinedKind.{UndefinedKind}
use Rattle.memory_words.specs.declared.cell_words.cell.Cell.{Cell}
use Rattle.memory_words.specs.declared.cell_words.pointer.Ptr.{Ptr}
use Rattle.memory_words.specs.declared.cell_words.pointer.Ptr.TheVariants as P
use Rattle.block_memory.specs.declared.kinds.BlockKind.TheVariants.{Local}
use Rattle.block_memory.specs.Blocks.{Memory, Block, Contents, living, ended, block, cells_in, lives_in, size_in, overwritten, with_cells, kind, size, is_live}
use Rattle.block_memory.specs.Accesses.{place, must, is_text}
use Rattle.block_memory.specs.Tested.{Tested, ◌>>=◌}
use Rattle.rv_isa.specs.Memory as M
use Rattle.rv_code.specs.declared.layout.Places.{Places}
use Rattle.tac_ir.specs.Code.{Code}
use Rattle.rv_emit.specs.Maps.{cell_of, Extent, Extents, Flat, Shows, Room, Within}
use Rattle.rv_emit.proofs.Lists.{set_same, set_other}

-- ---- lists

abbrev pub Outside : (at n i : ℕ) → Type 0
Outside at n i = (i < at) ⊎ (at + n ≤ i)

front_cases : {A : Type 0} (all new : List A) (i : ℕ) (c : A) → length new ≤ length all → slice_get (new ++ drop (length new) all) i ≡ Some c
    → ((i < length new) × (slice_get new i ≡ Some c)) ⊎ ((length new ≤ i) × (slice_get all i ≡ Some c))
front_cases all [] i c le e = inr (omega arith, e)
front_cases [] (x ∷ new) i c le e = absurd (omega arith)
front_cases (z ∷ all) (x ∷ new) zero c le e = inl (omega arith, e)
front_cases (z ∷ all) (x ∷ new) (suc i) c le e = elim (front_cases all new i c (omega arith) e) [
  | inl h ↦ inl (omega (arith, h.0), h.1)
  | inr h ↦ inr (omega (arith, h.0), h.1)
]

over_cases : {A : Type 0} (all new : List A) (at i : ℕ) (c : A) → at + length new ≤ length all
    → slice_get (take at all ++ new ++ drop (at + length new) all) i ≡ Some c
    → ((at ≤ i) × (i < at + length new) × (slice_get new (i - at) ≡ Some c)) ⊎ (Outside at (length new) i × (slice_get all i ≡ Some c))
over_cases all new zero i c le e =
    let z : 0 + length new ≡ length new = omega arith in
    let y : i - 0 ≡ i = omega arith in
    elim (front_cases all new i c (omega arith) (subst (λ k. slice_get (new ++ drop k all) i ≡ Some c) z e)) [
      | inl h ↦ inl (omega arith, omega (arith, h.0), ap (slice_get new) y ∙ h.1)
      | inr h ↦ inr (inr (omega (arith, h.0)), h.1)
    ]
over_cases [] new (suc at) i c le e = absurd (omega arith)
over_cases (x ∷ all) new (suc at) zero c le e = inr (inl (omega arith), e)
over_cases (x ∷ all) new (suc at) (suc i) c le e =
    let z : suc at + length new ≡ suc (at + length new) = omega arith in
    let y : suc i - suc at ≡ i - at = omega arith in
    elim (over_cases all new at i c (omega arith) (subst (λ k. slice_get (take at all ++ new ++ drop k (x ∷ all)) i ≡ Some c) z e)) [
      | inl h ↦ inl (omega (arith, h.0), omega (arith, h.1), ap (slice_get new) y ∙ h.2)
      | inr h ↦ inr (suc_outside at (length new) i h.0, h.1)
    ]
  where
    suc_outside : (at n i : ℕ) → Outside at n i → Outside (suc at) n (suc i)
    suc_outside at n i h = elim h [
      | inl k ↦ inl (omega arith)
      | inr k ↦ inr (omega arith)
    ]

there : {A : Type 0} (all : List A) (i : ℕ) → i < length all → (c : A) × (slice_get all i ≡ Some c)
there [] i lt = absurd (omega arith)
there (x ∷ all) zero lt = (x, refl)
there (x ∷ all) (suc i) lt = there all i (omega arith)

-- ---- what is known of the place of an access

pub record Found (m : Memory) (p : Ptr) (count width b at : ℕ) : Type 0 where
  pub is : p ≡ P.Block b at
  pub live : is_live m b ≡ true
  pub fits : at + count ≤ size m b
  pub whole : at % width ≡ 0

must_is : {A : Type 0} (test : Bool) (k : UndefinedKind) (r : Tested A) (x : A) → (must test k >>= λ z. r) ≡ Ok x → (test ≡ true) × (r ≡ Ok x)
must_is true k r x e = (refl, e)
must_is false k r x e = absurd cc

pub found : (m : Memory) (p : Ptr) (count width : ℕ) (stores : Bool) (q : ℕ × ℕ) → place m p count width stores ≡ Ok q → Found m p count width q.0 q.1
found m (P.Block b at) count width stores q e =
    let h1 = must_is (is_live m b) _ _ q e in
    let h2 = must_is (leb (at + count) (size m b)) _ _ q h1.1 in
    let h3 = must_is (eqb (at % width) 0) _ _ q h2.1 in
    let h4 = must_is (not (stores && is_text (kind m b))) _ _ q h3.1 in
    let same : (b, at) ≡ q = cc in
    subst (λ (z : ℕ × ℕ). Found m (P.Block b at) count width z.0 z.1) same
    (record { is = refl; live = h1.0; fits = leb-true _ _ h2.0; whole = eqb-true _ _ h3.0 })
found m P.Null count width stores q e = absurd cc
found m (P.Function f) count width stores q e = absurd cc

-- each byte of a live block has a cell
pub old_cell : (m : Memory) (b i : ℕ) → is_live m b ≡ true → i < size m b → (c : Cell) × (cell_of m b i ≡ Some c)
old_cell m b i live lt = by_contents (block m b).contents live lt
  where
    by_contents : (k : Contents) → lives_in k ≡ true → i < size_in k → (c : Cell) × (slice_get (cells_in k) i ≡ Some c)
    by_contents (living all) h l = there all i l
    by_contents (ended n) h l = absurd cc

-- ---- a block that is overwritten

abbrev no_block : Block
no_block = record { kind = Local; contents = ended 0 }

pub got : (m : Memory) (b : ℕ) → is_live m b ≡ true → slice_get m b ≡ Some (block m b)
got m b live = by_option (slice_get m b) live
  where
    by_option : (o : Option Block) → lives_in (unwrap_or o no_block).contents ≡ true → o ≡ Some (unwrap_or o no_block)
    by_option (Some x) h = refl
    by_option None h = absurd cc

block_same : (m : Memory) (b : ℕ) (x : Block) → is_live m b ≡ true → block (slice_set m b x) b ≡ x
block_same m b x live = ap (λ (o : Option Block). unwrap_or o no_block) (set_same m b x (block m b) (got m b live))

pub block_other : (m : Memory) (b c : ℕ) (x : Block) → c ≢ b → block (slice_set m b x) c ≡ block m c
block_other m b c x ne = ap (λ (o : Option Block). unwrap_or o no_block) (set_other m b c x ne)

-- a cell of an overwritten block is new, or one that was there
written_cell : (contents : Contents) (new : List Cell) (at i : ℕ) (c : Cell) → lives_in contents ≡ true → at + length new ≤ size_in contents
    → slice_get (cells_in (overwritten contents at new)) i ≡ Some c
    → ((at ≤ i) × (i < at + length new) × (slice_get new (i - at) ≡ Some c)) ⊎ (Outside at (length new) i × (slice_get (cells_in contents) i ≡ Some c))
written_cell (living all) new at i c live le e = over_cases all new at i c le e
written_cell (ended n) new at i c live le e = absurd cc

written_size : (contents : Contents) (new : List Cell) (at : ℕ) → at + length new ≤ size_in contents → size_in (overwritten contents at new) ≡ size_in contents
written_size (living all) new at le =
    omega (
      arith,
      length-append (take at all ++ new) (drop (at + length new) all),
      length-append (take at all) new,
      length-take at all,
      length-drop (at + length new) all,
    )
written_size (ended n) new at le = refl

module _ (c : Code) (p : Places) (room : Room) (blocks : Extents) (owner : ℕ → Option ℕ) (m : Memory) (old new_bytes : M.Memory)
    (flat : Flat c p room blocks owner m old) (b at : ℕ) (e0 : Extent) (new : List Cell) (live : is_live m b ≡ true) (fits : at + length new ≤ size m b)
    (placed : slice_get blocks b ≡ Some e0)
    (shows : (i : ℕ) (cell : Cell) → slice_get new i ≡ Some cell → Shows c p blocks cell (new_bytes (e0.at + at + i)))
    (others : (x : ℕ) → Outside (e0.at + at) (length new) x → new_bytes x ≡ old x) where
  abbrev after : Memory
  after = with_cells m b at new

  abbrev changed : Block
  changed = record { kind = kind m b; contents = overwritten (block m b).contents at new }

  abbrev Cases : (d i : ℕ) → Cell → Type 0
  Cases d i x = ((d ≡ b) × (at ≤ i) × (slice_get new (i - at) ≡ Some x)) ⊎ ((cell_of m d i ≡ Some x) × ((d ≡ b) → Outside at (length new) i))

  cases : (d i : ℕ) (x : Cell) → cell_of after d i ≡ Some x → Cases d i x
  cases d i x e = elim (cases_eq d b) [
    | inl same ↦
        (let e1 : cell_of after b i ≡ Some x = ap (λ (z : ℕ). cell_of after z i) (sym same) ∙ e in
        let e2 : slice_get (cells_in changed.contents) i ≡ Some x = ap (λ (z : Block). slice_get (cells_in z.contents) i) (sym (block_same m b changed live)) ∙ e1 in
        elim (written_cell (block m b).contents new at i x live fits e2) [
          | inl h ↦ inl (same, h.0, h.2)
          | inr h ↦ inr (ap (λ (z : ℕ). cell_of m z i) same ∙ h.1, λ k. h.0)
        ])
    | inr ne ↦ inr (ap (λ (z : Block). slice_get (cells_in z.contents) i) (sym (block_other m b d changed ne)) ∙ e, λ k. absurd (ne k))
  ]

  same_place : (d : ℕ) (e : Extent) → d ≡ b → slice_get blocks d ≡ Some e → e.at ≡ e0.at
  same_place d e same h = (let k : Some e ≡ Some e0 = sym h ∙ ap (slice_get blocks) same ∙ placed in let z : e ≡ e0 = cc in ap (λ (v : Extent). v.at) z)

  -- a byte of an old cell is as it was
  kept : (d i : ℕ) (e : Extent) (x : Cell) → cell_of m d i ≡ Some x → ((d ≡ b) → Outside at (length new) i) → slice_get blocks d ≡ Some e
      → new_bytes (e.at + i) ≡ old (e.at + i)
  kept d i e x is outside h = elim (cases_eq d b) [
    | inl same ↦ others (e.at + i) (shifted (outside same) (same_place d e same h))
    | inr ne ↦ elim (inside_or (e0.at + at) (length new) (e.at + i)) [
      | inl out ↦ others (e.at + i) out
      | inr within ↦ absurd (clash ne within)
    ]
  ]
    where
      shifted : Outside at (length new) i → e.at ≡ e0.at → Outside (e0.at + at) (length new) (e.at + i)
      shifted out same = elim out [
        | inl k ↦ inl (omega arith)
        | inr k ↦ inr (omega arith)
      ]

      inside_or : (lo n z : ℕ) → Outside lo n z ⊎ ((lo ≤ z) × (z < lo + n))
      inside_or lo n z = elim (cases_lt z lo) [
        | inl l ↦ inl (inl l)
        | inr l ↦ elim (cases_lt z (lo + n)) [
          | inl k ↦ inr (l, k)
          | inr k ↦ inl (inr k)
        ]
      ]

      -- what lies in the range is owned by the block
      clash : d ≢ b → (e0.at + at ≤ e.at + i) × (e.at + i < e0.at + at + length new) → ⊥
      clash ne within =
          let j = e.at + i - e0.at in
          let y = old_cell m b j live (omega (arith, within, fits)) in
          let mine = flat.owned b j e0 y.0 placed y.1 in
          let z : e0.at + j ≡ e.at + i = omega (arith, within) in
          let k : Some d ≡ Some b = sym (flat.owned d i e x h is) ∙ ap owner (sym z) ∙ mine in
          ne cc

  -- memory that shows the new cells, and is else as it was
  pub flat_written : Flat c p room blocks owner after new_bytes
  flat_written = record {
    long = flat.long ∙ sym (length-set m b changed);
    shows = λ d i e x h is. elim (cases d i x is) [
      | inl k ↦ (let z : e0.at + at + (i - at) ≡ e.at + i = omega (arith, k.1, same_place d e k.0 h) in
          subst (λ q. Shows c p blocks x (new_bytes q)) z (shows (i - at) x k.2))
      | inr k ↦ subst (Shows c p blocks x) (sym (kept d i e x k.0 k.1 h)) (flat.shows d i e x h k.0)
    ];
    owned = λ d i e x h is. elim (cases d i x is) [
      | inl k ↦ (let y = old_cell m b i live (omega (arith, k.1, fits, slice_get_within new (i - at) x k.2)) in
          let o = flat.owned b i e0 y.0 placed y.1 in
          let z : e0.at + i ≡ e.at + i = omega (arith, same_place d e k.0 h) in
          ap owner (sym z) ∙ o ∙ ap Some (sym k.0))
      | inr k ↦ flat.owned d i e x h k.0
    ];
    placed = λ d e h.
        let one = flat.placed d e h in
        elim (cases_eq d b) [
          | inl same ↦
              (let e1 : block after d ≡ changed = ap (block after) same ∙ block_same m b changed live in
              let e2 : kind after d ≡ kind m d = ap (λ (z : Block). z.kind) e1 ∙ ap (kind m) (sym same) in
              let e3 : size after d ≡ size m d = ap (λ (z : Block). size_in z.contents) e1 ∙ written_size (block m b).contents new at fits ∙ ap (size m) (sym same) in
              record { sized = e3 ∙ one.sized; whole = one.whole; within = subst (λ k. Within room k e) (sym e2) one.within })
          | inr ne ↦ (let e1 = block_other m b d changed ne in
              record {
                sized = ap (λ (z : Block). size_in z.contents) e1 ∙ one.sized;
                whole = one.whole;
                within = subst (λ (z : Block). Within room z.kind e) (sym e1) one.within;
              })
        ];
  }
