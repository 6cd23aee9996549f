-- What cells hold, by the cells one by one.
use Rattle.std.proofs.Common.{◌≡◌, ℕ, zero, suc, ◌+◌, ◌≤◌, List, [], ◌∷◌, length, take, drop, get_or, Bool, true, false, Option, Some, None, Ok, Err, refl, sym}
use Rattle.std.proofs.Common.{ap, ◌∙◌, arith, option_map}
use Rattle.std.specs.List.{list_any}
use Rattle.std.proofs.lemmas.List.{drop_more}
use Rattle.lay_base.specs.declared.faults.UndefinedKind.TheVariants as K
use Rattle.c_types.specs.declared.ty.IntKind.{IntKind}
use Rattle.c_types.specs.declared.ty.IntKind.TheVariants as I
use Rattle.c_types.specs.IntKinds.{width}
use Rattle.memory_words.specs.declared.cell_words.cell.Cell.{Cell}
use Rattle.memory_words.specs.declared.cell_words.cell.Cell.TheVariants.{Empty, Byte, Fragment}
use Rattle.memory_words.specs.declared.cell_words.pointer.Ptr.{Ptr}
use Rattle.block_memory.specs.Held.{held, is_empty, number_in, null_in, or_pointer, pointer_in, word_of}
use Rattle.block_memory.specs.Digits.{as_pointer, digit_before, number_at, pointer_at, valued}
use Rattle.block_memory.specs.Tested.{Tested}

-- ---- one cell before others

abbrev held_if : {A : Type 0} → Bool → Option A → Tested A
held_if true value = Err K.Empty
held_if false value = or_pointer value

digit_if : (c : Cell) (b : Bool) (o : Option ℕ) (more : List Cell) → list_any is_empty more ≡ b → number_in more ≡ o
    → digit_before c (held more (number_in more)) ≡ held (c ∷ more) (number_in (c ∷ more))
digit_if Empty b o more e f = refl
digit_if (Byte x) true o more e f = rw e
digit_if (Byte x) false None more e f = rw (e, f)
digit_if (Byte x) false (Some v) more e f = rw (e, f)
digit_if (Fragment t p k) true o more e f = rw e
digit_if (Fragment t p k) false None more e f = rw (e, f)
digit_if (Fragment t p k) false (Some v) more e f = rw (e, f)

pub digit_held : (c : Cell) (more : List Cell) → digit_before c (held more (number_in more)) ≡ held (c ∷ more) (number_in (c ∷ more))
digit_held c more = digit_if c _ _ more refl refl

one_held : (a : Cell) → digit_before a (Ok 0) ≡ held (a ∷ []) (number_in (a ∷ []))
one_held a = digit_held a []

two_held : (a b : Cell) → digit_before a (digit_before b (Ok 0)) ≡ held (a ∷ b ∷ []) (number_in (a ∷ b ∷ []))
two_held a b = ap (digit_before a) (one_held b) ∙ digit_held a (b ∷ [])

pub four_held : (a b c d : Cell)
    → digit_before a (digit_before b (digit_before c (digit_before d (Ok 0)))) ≡ held (a ∷ b ∷ c ∷ d ∷ []) (number_in (a ∷ b ∷ c ∷ d ∷ []))
four_held a b c d = ap (λ r. digit_before a (digit_before b r)) (two_held c d) ∙ ap (digit_before a) (digit_held b (c ∷ d ∷ [])) ∙ digit_held a (b ∷ c ∷ d ∷ [])

-- ---- what is made of the number

valued_if : (b : Bool) (o : Option ℕ) (all : List Cell) (kind : IntKind) → list_any is_empty all ≡ b → number_in all ≡ o
    → valued kind (held all (number_in all)) ≡ held all (option_map (word_of kind) (number_in all))
valued_if true o all kind e f = rw e
valued_if false None all kind e f = rw (e, f)
valued_if false (Some v) all kind e f = rw (e, f)

valued_held : (all : List Cell) (kind : IntKind) → valued kind (held all (number_in all)) ≡ held all (option_map (word_of kind) (number_in all))
valued_held all kind = valued_if _ _ all kind refl refl

pointer_if : (b : Bool) (o : Option ℕ) (all : List Cell) → list_any is_empty all ≡ b → number_in all ≡ o
    → as_pointer (held all (number_in all)) ≡ held all (null_in (number_in all))
pointer_if true o all e f = rw e
pointer_if false None all e f = rw (e, f)
pointer_if false (Some zero) all e f = rw (e, f)
pointer_if false (Some (suc v)) all e f = rw (e, f)

pub pointer_from_empty : (b c d : Cell) (type : ℕ)
    → as_pointer (digit_before Empty (digit_before b (digit_before c (digit_before d (Ok 0))))) ≡ held (Empty ∷ b ∷ c ∷ d ∷ []) (pointer_in type (Empty ∷ b ∷ c ∷ d ∷ []))
pointer_from_empty b c d type = ap as_pointer (four_held Empty b c d) ∙ pointer_if _ _ (Empty ∷ b ∷ c ∷ d ∷ []) refl refl

pub pointer_from_byte : (x : ℕ) (b c d : Cell) (type : ℕ)
    → as_pointer (digit_before (Byte x) (digit_before b (digit_before c (digit_before d (Ok 0))))) ≡ held (Byte x ∷ b ∷ c ∷ d ∷ []) (pointer_in type (Byte x ∷ b ∷ c ∷ d ∷ []))
pointer_from_byte x b c d type = ap as_pointer (four_held (Byte x) b c d) ∙ pointer_if _ _ (Byte x ∷ b ∷ c ∷ d ∷ []) refl refl

-- ---- cells from an offset on

one_more : (all : List Cell) (at n : ℕ) → at + suc n ≤ length all → take (suc n) (drop at all) ≡ get_or all at Empty ∷ take n (drop (at + 1) all)
one_more all at n le = ap (take (suc n)) (drop_more all at Empty (omega arith))

pub take_one : (all : List Cell) (at : ℕ) → at + 1 ≤ length all → take 1 (drop at all) ≡ get_or all at Empty ∷ []
take_one all at le = one_more all at 0 le

pub take_two : (all : List Cell) (at : ℕ) → at + 2 ≤ length all → take 2 (drop at all) ≡ get_or all at Empty ∷ get_or all (at + 1) Empty ∷ []
take_two all at le = one_more all at 1 le ∙ ap (λ r. get_or all at Empty ∷ r) (take_one all (at + 1) (omega arith))

two_on : (at : ℕ) → at + 1 + 1 ≡ at + 2
two_on at = omega arith

three_on : (at : ℕ) → at + 2 + 1 ≡ at + 3
three_on at = omega arith

pub take_four : (all : List Cell) (at : ℕ) → at + 4 ≤ length all
    → take 4 (drop at all) ≡ get_or all at Empty ∷ get_or all (at + 1) Empty ∷ get_or all (at + 2) Empty ∷ get_or all (at + 3) Empty ∷ []
take_four all at le =
    one_more all at 3 le ∙ ap (λ r. get_or all at Empty ∷ r) (one_more all (at + 1) 2 (omega arith)
    ∙ ap (λ r. get_or all (at + 1) Empty ∷ r) (ap (λ n. take 2 (drop n all)) (two_on at) ∙ take_two all (at + 2) (omega arith)
    ∙ ap (λ n. get_or all (at + 2) Empty ∷ get_or all n Empty ∷ []) (three_on at)))

-- ---- numbers and pointers from an offset on

one_at : (all : List Cell) (at : ℕ) (kind : IntKind) → width kind ≡ 1 → at + 1 ≤ length all
    → valued kind (digit_before (get_or all at Empty) (Ok 0)) ≡ number_at all at kind
one_at all at kind w le = rw (w, take_one all at le) (ap (valued kind) (one_held (get_or all at Empty)) ∙ valued_held (get_or all at Empty ∷ []) kind)

two_at : (all : List Cell) (at : ℕ) (kind : IntKind) → width kind ≡ 2 → at + 2 ≤ length all
    → valued kind (digit_before (get_or all at Empty) (digit_before (get_or all (at + 1) Empty) (Ok 0))) ≡ number_at all at kind
two_at all at kind w le =
    rw (w, take_two all at le) (ap (valued kind) (two_held (get_or all at Empty) (get_or all (at + 1) Empty)) ∙ valued_held (get_or all at Empty ∷ get_or all (at + 1) Empty ∷ []) kind)

pub four_at : (all : List Cell) (at : ℕ) (kind : IntKind) → width kind ≡ 4 → at + 4 ≤ length all
    → valued kind (digit_before (get_or all at Empty) (digit_before (get_or all (at + 1) Empty) (digit_before (get_or all (at + 2) Empty) (digit_before (get_or all (at + 3) Empty) (Ok 0))))) ≡ number_at all at kind
four_at all at kind w le =
    rw (w, take_four all at le) (ap (valued kind) (four_held (get_or all at Empty) (get_or all (at + 1) Empty) (get_or all (at + 2) Empty) (get_or all (at + 3) Empty))
    ∙ valued_held (get_or all at Empty ∷ get_or all (at + 1) Empty ∷ get_or all (at + 2) Empty ∷ get_or all (at + 3) Empty ∷ []) kind)

pub width_is_four : (kind : IntKind) → (width kind ≡ 1 → ⊥) → (width kind ≡ 2 → ⊥) → width kind ≡ 4
width_is_four I.Char a b = absurd (a refl)
width_is_four I.SChar a b = absurd (a refl)
width_is_four I.UChar a b = absurd (a refl)
width_is_four I.Short a b = absurd (b refl)
width_is_four I.UShort a b = absurd (b refl)
width_is_four I.Int a b = refl
width_is_four I.UInt a b = refl
width_is_four I.Long a b = refl
width_is_four I.ULong a b = refl

pub number_of_one : (all : List Cell) (at : ℕ) (kind : IntKind) (a : Cell) (v r : Tested ℕ) (w : ℕ) → w ≡ 1 → w ≡ width kind → at + width kind ≤ length all
    → a ≡ get_or all at Empty → v ≡ digit_before a (Ok 0) → r ≡ valued kind v → r ≡ number_at all at kind
number_of_one all at kind a v r w w1 we le ea ev er = er ∙ ap (valued kind) (ev ∙ ap (λ a. digit_before a (Ok 0)) ea) ∙ one_at all at kind (sym we ∙ w1) (omega arith)

pub number_of_two : (all : List Cell) (at : ℕ) (kind : IntKind) (a b : Cell) (v r : Tested ℕ) (w : ℕ) → w ≡ 2 → w ≡ width kind → at + width kind ≤ length all
    → a ≡ get_or all at Empty → b ≡ get_or all (at + 1) Empty → v ≡ digit_before a (digit_before b (Ok 0)) → r ≡ valued kind v → r ≡ number_at all at kind
number_of_two all at kind a b v r w w2 we le ea eb ev er =
    er ∙ ap (valued kind) (ev ∙ ap (λ a. digit_before a (digit_before b (Ok 0))) ea ∙ ap (λ b. digit_before (get_or all at Empty) (digit_before b (Ok 0))) eb)
    ∙ two_at all at kind (sym we ∙ w2) (omega arith)

pub number_of_four : (all : List Cell) (at : ℕ) (kind : IntKind) (a b c d : Cell) (v r : Tested ℕ) (w : ℕ)
    → (w ≡ 1 → ⊥) → (w ≡ 2 → ⊥) → w ≡ width kind → at + width kind ≤ length all
    → a ≡ get_or all at Empty → b ≡ get_or all (at + 1) Empty → c ≡ get_or all (at + 2) Empty → d ≡ get_or all (at + 3) Empty
    → v ≡ digit_before a (digit_before b (digit_before c (digit_before d (Ok 0)))) → r ≡ valued kind v → r ≡ number_at all at kind
number_of_four all at kind a b c d v r w not_one not_two we le ea eb ec ed ev er =
    let four : width kind ≡ 4 = width_is_four kind (λ e. not_one (we ∙ e)) (λ e. not_two (we ∙ e)) in
    let same : v ≡ digit_before (get_or all at Empty) (digit_before (get_or all (at + 1) Empty) (digit_before (get_or all (at + 2) Empty) (digit_before (get_or all (at + 3) Empty) (Ok 0)))) =
    rw (ev, ea, eb, ec, ed) refl in
    er ∙ ap (valued kind) same ∙ four_at all at kind four (omega arith)

pub pointer_of_four : (all : List Cell) (at type : ℕ) (a b c d : Cell) (r : Tested Ptr) → at + 4 ≤ length all
    → a ≡ get_or all at Empty → b ≡ get_or all (at + 1) Empty → c ≡ get_or all (at + 2) Empty → d ≡ get_or all (at + 3) Empty
    → r ≡ held (a ∷ b ∷ c ∷ d ∷ []) (pointer_in type (a ∷ b ∷ c ∷ d ∷ [])) → r ≡ pointer_at all at type
pointer_of_four all at type a b c d r le ea eb ec ed er = rw (er, ea, eb, ec, ed, take_four all at le) refl
