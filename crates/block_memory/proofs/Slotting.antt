-- Slots in eight bytes.
use Rattle.std.proofs.Common.{◌≡◌, ℕ, ◌+◌, ◌*◌, ◌/◌, ◌%◌, ◌<◌, ◌≤◌, zero, suc, List, [], ◌∷◌, ◌++◌, length, map, get_or, Bool, true, false, refl, sym, ap, ◌∙◌}
use Rattle.std.proofs.Common.{arith}
use Rattle.std.specs.Prelude.{◌==◌}
use Rattle.std.proofs.Math.ListN.{set, get_or-map}
use Rattle.std.proofs.lemmas.List.{get_or_past, length-map, map-set, map_push}
use Rattle.block_memory.specs.declared.kinds.BlockKind.{BlockKind}
use Rattle.block_memory.specs.declared.slot.CompactSlot.{CompactSlot}
use Rattle.block_memory.specs.declared.slot.Slot.{Slot}
use Rattle.block_memory.specs.Slots.{kind_of, no_slot, slot_at, expanded}

abbrev in_parts : BlockKind → Bool → (start size : ℕ) → Slot
in_parts kind live start size = record { kind = kind; live = live; start = start; size = size }

compact_is : (slot : Slot) (code bit word : ℕ) (live : Bool) → kind_of code ≡ slot.kind → code < 4 → bit < 2 → (bit == 1) ≡ live → slot.live ≡ live
    → word ≡ code + 4 * bit + 8 * slot.start → expanded (record { word = word; size = slot.size }) ≡ slot
compact_is slot code bit word live ek small one eb el ew =
    let kind_part : word % 4 ≡ code = omega (arith, ew, small) in
    let live_part : word / 4 % 2 ≡ bit = omega (arith, ew, small, one) in
    let start_part : word / 8 ≡ slot.start = omega (arith, ew, small, one) in
    ap (λ n. in_parts (kind_of n) (word / 4 % 2 == 1) (word / 8) slot.size) kind_part
    ∙ ap (λ k. in_parts k (word / 4 % 2 == 1) (word / 8) slot.size) ek
    ∙ ap (λ n. in_parts slot.kind (n == 1) (word / 8) slot.size) live_part
    ∙ ap (λ l. in_parts slot.kind l (word / 8) slot.size) (eb ∙ sym el)
    ∙ ap (λ n. in_parts slot.kind slot.live n slot.size) start_part

pub compact_live : (slot : Slot) (code word : ℕ) → kind_of code ≡ slot.kind → code < 4 → slot.live ≡ true
    → word ≡ code + 4 + 8 * slot.start → expanded (record { word = word; size = slot.size }) ≡ slot
compact_live slot code word ek small el ew = compact_is slot code 1 word true ek small (omega arith) refl el (omega (arith, ew))

pub compact_ended : (slot : Slot) (code word : ℕ) → kind_of code ≡ slot.kind → code < 4 → slot.live ≡ false
    → word ≡ code + 8 * slot.start → expanded (record { word = word; size = slot.size }) ≡ slot
compact_ended slot code word ek small el ew = compact_is slot code 0 word false ek small (omega arith) refl el (omega (arith, ew))

pub slot_is : (items : List CompactSlot) (b : ℕ) (p : CompactSlot) → b < length items → ((d : CompactSlot) → p ≡ get_or items b d) → expanded p ≡ slot_at (map expanded items) b
slot_is items b p lt e = ap expanded (e p) ∙ sym (get_or-map expanded items b p) ∙ known (map expanded items) b (expanded p) no_slot (omega (arith, lt, length-map items expanded)) where
  known : (all : List Slot) (b : ℕ) (x y : Slot) → b < length all → get_or all b x ≡ get_or all b y
  known [] b x y lt = absurd (omega arith)
  known (s ∷ all) zero x y lt = refl
  known (s ∷ all) (suc b) x y lt = known all b x y (omega (arith, lt))

pub slot_past : (items : List CompactSlot) (b : ℕ) → length items ≤ b → no_slot ≡ slot_at (map expanded items) b
slot_past items b past = sym (get_or_past (map expanded items) b no_slot (omega (arith, past, length-map items expanded)))

pub slot_set : (items : List CompactSlot) (b : ℕ) (p : CompactSlot) (slot : Slot) → expanded p ≡ slot → map expanded (set items b p) ≡ set (map expanded items) b slot
slot_set items b p slot e = map-set expanded items b p ∙ ap (λ s. set (map expanded items) b s) e

pub slot_push : (items all : List CompactSlot) (p : CompactSlot) (slot : Slot) → expanded p ≡ slot → all ≡ items ++ p ∷ [] → map expanded all ≡ map expanded items ++ slot ∷ []
slot_push items all p slot e ea = ap (map expanded) ea ∙ map_push expanded items p ∙ ap (λ s. map expanded items ++ s ∷ []) e
