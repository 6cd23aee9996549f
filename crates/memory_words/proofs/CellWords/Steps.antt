-- Words with their tables, after each step.
use Rattle.std.proofs.Common.{◌≡◌, ℕ, ◌+◌, ◌-◌, ◌<◌, ◌≤◌, ◌^◌, List, [], ◌∷◌, ◌++◌, length, map, take, get_or, replicate, true, false, Option, subst, refl, sym}
use Rattle.std.proofs.Common.{ap, ◌∙◌, arith, ⊎_elim, get_or-set_other}
use Rattle.std.specs.Prelude.{MatchResult, Result, Ok, Err, Some, None}
use Rattle.memory_words.specs.ListPages.Pages.{Paged}
use Rattle.std.specs.List.{swap_remove}
use Rattle.std.proofs.Math.ListN.{set}
use Rattle.std.proofs.lemmas.Bool.{cases_eq}
use Rattle.std.proofs.lemmas.List.{get_or-map, length-append, length-map, length-replicate, length-set, map_push, map-set, take-map}
use Rattle.memory_words.specs.declared.cell_words.packed.Packed.{Packed}
use Rattle.memory_words.specs.declared.cell_words.pointer.Ptr.{Ptr}
use Rattle.memory_words.specs.declared.cell_words.table.Table.{Table}
use Rattle.memory_words.specs.declared.cell_words.word.Four.{Four}
use Rattle.memory_words.specs.declared.cell_words.word.Word.{Word}
use Rattle.memory_words.specs.declared.cell_words.word.Word.TheVariants as W
use Rattle.memory_words.specs.CellWords.Tables.{HasRoom, IsCarried, IsRoomyTable, IsPacked, IsPut, IsReleased, cells_in, fours_in}
use Rattle.memory_words.specs.CellWords.Words.{IsTable, PointerIn, empty_word, four_at, four_of, four_of_group, four_of_pointer, group_place, is_tabled}
use Rattle.memory_words.specs.CellWords.Words.{nothing}
use Rattle.memory_words.specs.CellWords.Words.{owner_at, pointer_place, whole, word_at}
use Rattle.memory_words.proofs.CellWords.ChosenTables.{ChosenTable, no_group, no_pointer}
use Rattle.memory_words.proofs.CellWords.Tables.{grown, left, moved, off_set, owners_within, pushed, removed, room_for, set_other, set_same}
use Rattle.memory_words.proofs.CellWords.Views.{at_map, fours_grown, fours_overwritten, fours_pushed, fours_removed, set_twice}

-- ---- words that are read

pub not_tabled : (w : Word) → ((e : ℕ) → w ≡ W.Pointer e → ⊥) → ((e : ℕ) → w ≡ W.Group e → ⊥) → is_tabled w ≡ false
not_tabled (W.Pointer e) pointer group = absurd (pointer e refl)
not_tabled (W.Group e) pointer group = absurd (group e refl)
not_tabled w pointer group = refl

four_whole : (p g : List Four) (w : Word) → is_tabled w ≡ false → four_of p g w ≡ whole w
four_whole p g (W.Pointer e) plain = let wrong : true ≡ false = plain in cc
four_whole p g (W.Group e) plain = let wrong : true ≡ false = plain in cc
four_whole p g w plain = refl

pub long : (p : Packed) → length (fours_in p) ≡ length p.words.items
long p = length-map p.words.items (cells_in p)

-- the cells of a word that stands in no table, and of one that does
pub read_whole : (p : Packed) (fours : List Four) (i : ℕ) (w : Word) → fours_in p ≡ fours → word_at p.words.items i ≡ w → is_tabled w ≡ false → four_at fours i ≡ whole w
read_whole p fours i w view is plain = ap (λ fours. four_at fours i) (sym view) ∙ at_map (cells_in p) p.words.items i refl ∙ ap (cells_in p) is ∙ four_whole (map four_of_pointer p.pointers.values.items) (map four_of_group p.groups.values.items) w plain

pub owned : {A B : Type 0} (s : ChosenTable A B) (p : Packed) (i e : ℕ) → IsPacked p → word_at p.words.items i ≡ s.make e → e < length (s.mine p).owners.items
owned s p i e packed is = ((s.roomy p packed).owned.owned i e (ap s.place is ∙ (s.kind []).made e)).0

pub within : {A B : Type 0} (s : ChosenTable A B) (p : Packed) (i e : ℕ) → IsPacked p → word_at p.words.items i ≡ s.make e → e < length (s.mine p).values.items
within s p i e packed is = let even = (s.roomy p packed).room.even in let mine = owned s p i e packed is in omega (arith, mine, even)

pub four_at_value : {A B : Type 0} (s : ChosenTable A B) (p : Packed) (i e : ℕ) (v : A) → IsPacked p → word_at p.words.items i ≡ s.make e → v ≡ get_or (s.mine p).values.items e v → four_at (fours_in p) i ≡ s.cells v
four_at_value s p i e v packed is there =
    let values = (s.mine p).values.items in
    let rest = map s.others (s.rest p).values.items in
    let kind = s.kind rest in
    ap (λ fours. four_at fours i) (s.fours p) ∙ at_map (λ w. s.read (map s.cells values) rest w) p.words.items i (kind.empty (map s.cells values))
    ∙ kind.hit (map s.cells values) (word_at p.words.items i) e (ap s.place is ∙ kind.made e)
    ∙ get_or-map s.cells values e v nothing (within s p i e packed is) ∙ ap s.cells (sym there)

pub same_pointer_in : (f g : Four) (type : ℕ) (r : Option Ptr) → f ≡ g → PointerIn type g r → PointerIn type f r
same_pointer_in f g type r is gives = subst (λ (f : Four). PointerIn type f r) (sym is) gives

-- ---- room

room_values : {A : Type 0} (n e : ℕ) (v : A) (old new : Table A) → new.values.items ≡ set old.values.items e v → new.values.room ≡ old.values.room → new.owners ≡ old.owners
    → HasRoom n old → HasRoom n new
room_values n e v old new is room same has = record {
  even = ap length is ∙ length-set old.values.items e v ∙ has.even ∙ sym (ap (λ (o : Paged ℕ). length o.items) same);
  values = omega (arith, room, has.values);
  owners = rw same has.owners;
}

room_owners : {A : Type 0} (n e o : ℕ) (old new : Table A) → new.owners.items ≡ set old.owners.items e o → new.owners.room ≡ old.owners.room → new.values ≡ old.values
    → HasRoom n old → HasRoom n new
room_owners {A} n e o old new is room same has = record {
  even = ap (λ (v : Paged A). length v.items) same ∙ has.even ∙ sym (ap length is ∙ length-set old.owners.items e o);
  values = rw same has.values;
  owners = omega (arith, room, has.owners);
}

pub many_within : {A B : Type 0} (s : ChosenTable A B) (p : Packed) (many : ℕ) → IsPacked p → length p.words.items ≤ many → length (s.mine p).owners.items ≤ many
many_within s p many packed within = let few = owners_within s.place p.words.items (s.mine p).owners.items (s.roomy p packed).owned in omega (arith, few)

pub place_fits : {A B : Type 0} (s : ChosenTable A B) (p : Packed) → IsPacked p → length (s.mine p).owners.items < 2 ^ 32
place_fits s p packed = let few = many_within s p (length p.words.items) packed (omega arith) in omega (arith, few, packed.few)

-- ---- a step of one table

packed_after : {A B : Type 0} (s : ChosenTable A B) (old new : Packed) → IsPacked old → length new.words.items ≡ length old.words.items → s.rest new ≡ s.rest old
    → IsTable s.place new.words.items (s.mine new).owners.items → HasRoom (length old.words.items) (s.mine new) → IsRoomyTable s.other new.words.items (s.rest old) → IsPacked new
packed_after s old new packed long same mine room rest = s.joined new (omega (arith, packed.few, long)) (record { owned = mine; room = rw long room }) (rw same rest)

fours_after : {A B : Type 0} (s : ChosenTable A B) (old new : Packed) (words : List Word) (t fours : List Four) → new.words.items ≡ words → map s.cells (s.mine new).values.items ≡ t → s.rest new ≡ s.rest old
    → map (λ w. s.read t (map s.others (s.rest old).values.items) w) words ≡ fours → fours_in new ≡ fours
fours_after s old new words t fours ew et same is = s.fours new ∙ rw (et, same, ew) is

-- ---- a word that stands in no table in place of another one

off_roomy : {A : Type 0} (place : Word → Option ℕ) (words : List Word) (table : Table A) (i : ℕ) (w : Word) → IsRoomyTable place words table → i < length words → place (word_at words i) ≡ None → place w ≡ None
    → IsRoomyTable place (set words i w) table
off_roomy place words table i w roomy known none off = record { owned = off_set place words table.owners.items i w roomy.owned known none off; room = rw (length-set words i w) roomy.room }

off_after : (place : Word → Option ℕ) (words : List Word) (i o : ℕ) (new : Word) → o < length words → place new ≡ None → place (word_at words i) ≡ None → place (word_at (set words o new) i) ≡ None
off_after place words i o new known off was = ⊎_elim
    (λ here. ap (λ i. place (word_at (set words o new) i)) here ∙ ap place (set_same words o new known) ∙ off)
    (λ ne. ap place (set_other words o i new ne) ∙ was) (cases_eq i o)

off_twice : {A : Type 0} (place : Word → Option ℕ) (words : List Word) (table : Table A) (i o : ℕ) (w : Word) → IsRoomyTable place words table → i < length words → o < length words
    → place (word_at words i) ≡ None → place (word_at words o) ≡ None → place w ≡ None → place empty_word ≡ None → IsRoomyTable place (set (set words o w) i empty_word) table
off_twice place words table i o w roomy known within first second off empty =
    off_roomy place (set words o w) table i empty_word (off_roomy place words table o w roomy within second off) (omega (arith, length-set words o w)) (off_after place words i o w within off first) empty

length_twice : (words new : List Word) (i o : ℕ) (w : Word) → new ≡ set (set words o w) i empty_word → length new ≡ length words
length_twice words new i o w is = ap length is ∙ length-set (set words o w) i empty_word ∙ length-set words o w

pub put_plain : (old new : Packed) (i : ℕ) (w : Word) → IsPacked old → i < length old.words.items → is_tabled (word_at old.words.items i) ≡ false → is_tabled w ≡ false
    → new.words.items ≡ set old.words.items i w → new.pointers ≡ old.pointers → new.groups ≡ old.groups → IsPut i (whole w) old new
put_plain old new i w packed known was plain ew ep eg =
    let words = old.words.items in
    let long : length new.words.items ≡ length words = ap length ew ∙ length-set words i w in
    record {
      packed = record {
        few = omega (arith, packed.few, long);
        pointers = rw (ew, ep) (off_roomy pointer_place words old.pointers i w packed.pointers known (no_pointer (word_at words i) was) (no_pointer w plain));
        groups = rw (ew, eg) (off_roomy group_place words old.groups i w packed.groups known (no_group (word_at words i) was) (no_group w plain));
      };
      is = rw (ew, ep, eg) (map-set (cells_in old) words i w ∙ ap (set (fours_in old) i) (four_whole (map four_of_pointer old.pointers.values.items) (map four_of_group old.groups.values.items) w plain));
    }

-- ---- a new place

pub space : {A B : Type 0} (s : ChosenTable A B) (p : Packed) (i : ℕ) → IsPacked p → i < length p.words.items → is_tabled (word_at p.words.items i) ≡ false → HasRoom (length (s.mine p).owners.items + 1) (s.mine p)
space s p i packed known plain =
    let roomy = s.roomy p packed in
    let less = room_for s.place p.words.items (s.mine p).owners.items i roomy.owned known (s.none (word_at p.words.items i) plain) in
    record { even = roomy.room.even; values = omega (arith, less, roomy.room.values); owners = omega (arith, less, roomy.room.owners) }

pub put_new : {A B : Type 0} (s : ChosenTable A B) (old new : Packed) (i e : ℕ) (v : A) → IsPacked old → i < length old.words.items → is_tabled (word_at old.words.items i) ≡ false → e ≡ length (s.mine old).owners.items
    → new.words.items ≡ set old.words.items i (s.make e) → (s.mine new).values.items ≡ (s.mine old).values.items ++ v ∷ []
    → (s.mine new).owners.items ≡ (s.mine old).owners.items ++ i ∷ [] → ((n : ℕ) → HasRoom n (s.mine old) → HasRoom n (s.mine new)) → s.rest new ≡ s.rest old
    → IsPut i (s.cells v) old new
put_new s old new i e v packed known was last ew ev eo keeps same =
    let words = old.words.items in
    let owners = (s.mine old).owners.items in
    let values = (s.mine old).values.items in
    let roomy = s.roomy old packed in
    let kind = s.kind (map s.others (s.rest old).values.items) in
    let w : Word = s.make (length owners) in
    let set_is : new.words.items ≡ set words i w = ew ∙ ap (λ e. set words i (s.make e)) last in
    let made = kind.made (length owners) in
    record {
      packed = packed_after s old new packed (ap length set_is ∙ length-set words i w) same
          (rw (eo, set_is) (pushed s.place words owners i w roomy.owned known (s.none (word_at words i) was) made)) (keeps (length words) roomy.room)
          (rw set_is (off_roomy s.other words (s.rest old) i w (s.beside old packed) known (s.off (word_at words i) was) (s.alone w (length owners) made)));
      is = fours_after s old new (set words i w) (map s.cells values ++ s.cells v ∷ []) (set (fours_in old) i (s.cells v)) set_is (ap (map s.cells) ev ∙ map_push s.cells values v) same
          (fours_pushed s.place s.make (λ t. s.read t (map s.others (s.rest old).values.items)) kind words owners (map s.cells values) i (s.cells v) roomy.owned (length-map values s.cells ∙ roomy.room.even) known
          ∙ ap (λ fours. set fours i (s.cells v)) (sym (s.fours old)));
    }

-- ---- another value at a place

pub put_over : {A B : Type 0} (s : ChosenTable A B) (old new : Packed) (i e : ℕ) (v : A) → IsPacked old → i < length old.words.items → word_at old.words.items i ≡ s.make e
    → new.words ≡ old.words → (s.mine new).values.items ≡ set (s.mine old).values.items e v → (s.mine new).values.room ≡ (s.mine old).values.room
    → (s.mine new).owners ≡ (s.mine old).owners → s.rest new ≡ s.rest old → IsPut i (s.cells v) old new
put_over s old new i e v packed known is ew ev er eo same =
    let words = old.words.items in
    let owners = (s.mine old).owners.items in
    let values = (s.mine old).values.items in
    let roomy = s.roomy old packed in
    let kind = s.kind (map s.others (s.rest old).values.items) in
    let same_words : new.words.items ≡ words = ap (λ (words : Paged Word). words.items) ew in
    let same_owners : (s.mine new).owners.items ≡ owners = ap (λ (o : Paged ℕ). o.items) eo in
    record {
      packed = packed_after s old new packed (ap length same_words) same (rw (same_owners, same_words) roomy.owned) (room_values (length words) e v (s.mine old) (s.mine new) ev er eo roomy.room) (rw same_words (s.beside old packed));
      is = fours_after s old new words (set (map s.cells values) e (s.cells v)) (set (fours_in old) i (s.cells v)) same_words (ap (map s.cells) ev ∙ map-set s.cells values e v) same
          (fours_overwritten s.place s.make (λ t. s.read t (map s.others (s.rest old).values.items)) kind words owners (map s.cells values) i e (s.cells v) roomy.owned (length-map values s.cells ∙ roomy.room.even) known
          (ap s.place is ∙ kind.made e) ∙ ap (λ fours. set fours i (s.cells v)) (sym (s.fours old)));
    }

-- ---- a place is given up

taken_values : {A : Type 0} (f : A → Four) (values new : List A) (d : A) (e last : ℕ) → last ≡ length values - 1 → last < length values → new ≡ swap_remove values e d
    → map f new ≡ take last (set (map f values) e (four_at (map f values) last))
taken_values f values new d e last el lt is =
    ap (map f) (is ∙ ap (λ n. take n (set values e (get_or values n d))) (sym el)) ∙ sym (take-map f last (set values e (get_or values last d)))
    ∙ ap (take last) (map-set f values e (get_or values last d) ∙ ap (set (map f values) e) (sym (get_or-map f values last d nothing lt)))

pub release : {A B : Type 0} (s : ChosenTable A B) (old new : Packed) (i e o : ℕ) (d : A) → IsPacked old → i < length old.words.items → word_at old.words.items i ≡ s.make e
    → o ≡ owner_at (s.mine old).owners.items (length (s.mine old).owners.items - 1) → new.words.items ≡ set (set old.words.items o (s.make e)) i empty_word
    → (s.mine new).values.items ≡ swap_remove (s.mine old).values.items e d → (s.mine new).owners.items ≡ swap_remove (s.mine old).owners.items e 0
    → ((n : ℕ) → HasRoom n (s.mine old) → HasRoom n (s.mine new)) → s.rest new ≡ s.rest old → IsReleased i old new
release s old new i e o d packed known is owner ew ev eo keeps same =
    let words = old.words.items in
    let owners = (s.mine old).owners.items in
    let values = (s.mine old).values.items in
    let last = length owners - 1 in
    let roomy = s.roomy old packed in
    let kind = s.kind (map s.others (s.rest old).values.items) in
    let w : Word = s.make e in
    let was : s.place (word_at words i) ≡ Some e = ap s.place is ∙ kind.made e in
    let gap = left s.place words owners i e o last roomy.owned was refl owner in
    let o_is : (s.mine new).owners.items ≡ take last (set owners e o) = eo ∙ ap (λ o. take last (set owners e o)) (sym owner) in
    let even = roomy.room.even in
    let t_is : map s.cells (s.mine new).values.items ≡ take last (set (map s.cells values) e (four_at (map s.cells values) last)) =
    taken_values s.cells values (s.mine new).values.items d e last (ap (λ n. n - 1) (sym even)) (omega (arith, gap.most, even)) ev in
    let gone : fours_in new ≡ set (fours_in old) i nothing =
    fours_after s old new (set (set words o w) i empty_word) (take last (set (map s.cells values) e (four_at (map s.cells values) last))) (set (fours_in old) i nothing) ew t_is same
    (fours_removed s.place s.make (λ t. s.read t (map s.others (s.rest old).values.items)) kind words owners (map s.cells values) i e o last gap (length-map values s.cells ∙ even) known
    ∙ ap (λ fours. set fours i nothing) (sym (s.fours old))) in
    record {
      packed = packed_after s old new packed (length_twice words new.words.items i o w ew) same
          (rw (o_is, ew) (removed s.place words owners i e o last w roomy.owned known was gap (kind.made e) kind.off)) (keeps (length words) roomy.room)
          (rw ew (off_twice s.other words (s.rest old) i o w (s.beside old packed) known gap.word (s.alone (word_at words i) e was) (s.alone (word_at words o) last gap.had) (s.alone w e (kind.made e)) (s.off empty_word refl)));
      long = length_twice words new.words.items i o w ew;
      plain = ap (λ words. is_tabled (word_at words i)) ew ∙ ap is_tabled (set_same (set words o w) i empty_word (omega (arith, length-set words o w)));
      same = λ f. ap (λ fours. set fours i f) gone ∙ set_twice (fours_in old) i nothing f;
    }

-- ---- a word moves

pub both_set : (words kept two three : List Word) (from to : ℕ) (w v : Word) → kept ≡ words → w ≡ v → two ≡ set kept to w → three ≡ set two from empty_word → three ≡ set (set words to v) from empty_word
both_set words kept two three from to w v same is second third = third ∙ ap (λ words. set words from empty_word) (second ∙ ap (λ words. set words to w) same ∙ ap (set words to) is)

fours_carried : (r : Word → Four) (words : List Word) (from to : ℕ) (w : Word) → r empty_word ≡ nothing → w ≡ word_at words from
    → map r (set (set words to w) from empty_word) ≡ set (set (map r words) to (four_at (map r words) from)) from nothing
fours_carried r words from to w none is =
    map-set r (set words to w) from empty_word ∙ ap (λ f. set (map r (set words to w)) from f) none
    ∙ ap (λ fours. set fours from nothing) (map-set r words to w ∙ ap (set (map r words) to) (ap r is ∙ sym (at_map r words from none)))

pub carried : {A B : Type 0} (s : ChosenTable A B) (old new : Packed) (from to e : ℕ) → IsPacked old → from < length old.words.items → to < from → is_tabled (word_at old.words.items to) ≡ false
    → word_at old.words.items from ≡ s.make e → new.words.items ≡ set (set old.words.items to (s.make e)) from empty_word
    → (s.mine new).values ≡ (s.mine old).values → (s.mine new).owners.items ≡ set (s.mine old).owners.items e to
    → (s.mine new).owners.room ≡ (s.mine old).owners.room → s.rest new ≡ s.rest old → IsCarried from to old new
carried {A} s old new from to e packed known before plain is ew ev eo er same =
    let words = old.words.items in
    let t = map s.cells (s.mine old).values.items in
    let rest = map s.others (s.rest old).values.items in
    let roomy = s.roomy old packed in
    let kind = s.kind rest in
    let w : Word = s.make e in
    let target : to < length words = omega arith in
    let alone = s.alone w e (kind.made e) in
    record {
      packed = packed_after s old new packed (length_twice words new.words.items from to w ew) same
          (rw (eo, ew) (moved s.place words (s.mine old).owners.items from to e w roomy.owned known target (sym is) (kind.made e) (s.none (word_at words to) plain) kind.off)) (room_owners (length words) e to (s.mine old) (s.mine new) eo er ev roomy.room)
          (rw ew (off_twice s.other words (s.rest old) from to w (s.beside old packed) known target (ap s.other is ∙ alone) (s.off (word_at words to) plain) alone (s.off empty_word refl)));
      is = fours_after s old new (set (set words to w) from empty_word) t (set (set (fours_in old) to (four_at (fours_in old) from)) from nothing) ew (ap (λ (values : Paged A). map s.cells values.items) ev) same
          (fours_carried (λ w. s.read t rest w) words from to w (kind.empty t) (sym is) ∙ ap (λ fours. set (set fours to (four_at fours from)) from nothing) (sym (s.fours old)));
    }

pub carried_plain : (old new : Packed) (from to : ℕ) (w : Word) → IsPacked old → from < length old.words.items → to < from → is_tabled (word_at old.words.items to) ≡ false
    → w ≡ word_at old.words.items from → is_tabled w ≡ false → new.words.items ≡ set (set old.words.items to w) from empty_word
    → new.pointers ≡ old.pointers → new.groups ≡ old.groups → IsCarried from to old new
carried_plain old new from to w packed known before plain is off ew ep eg =
    let words = old.words.items in
    let target : to < length words = omega arith in
    let there : is_tabled (word_at words from) ≡ false = ap is_tabled (sym is) ∙ off in
    let long = length_twice words new.words.items from to w ew in
    record {
      packed = record {
        few = omega (arith, packed.few, long);
        pointers = rw (ew, ep) (off_twice pointer_place words old.pointers from to w packed.pointers known target (no_pointer (word_at words from) there) (no_pointer (word_at words to) plain) (no_pointer w off) refl);
        groups = rw (ew, eg) (off_twice group_place words old.groups from to w packed.groups known target (no_group (word_at words from) there) (no_group (word_at words to) plain) (no_group w off) refl);
      };
      is = rw (ew, ep, eg) (fours_carried (cells_in old) words from to w refl is);
    }

pub shifted : (from to : ℕ) (old between new : Packed) → from < length old.words.items → to < from → IsReleased to old between → IsCarried from to between new → IsCarried from to old new
shifted from to old between new known before first second =
    let at_from : four_at (fours_in between) from ≡ four_at (fours_in old) from =
    sym (get_or-set_other (fours_in between) to from nothing nothing (λ same. omega arith)) ∙ ap (λ fours. four_at fours from) (first.same nothing)
    ∙ get_or-set_other (fours_in old) to from nothing nothing (λ same. omega arith) in
    record {
      packed = second.packed;
      is = second.is ∙ ap (λ fours. set fours from nothing) (first.same (four_at (fours_in between) from) ∙ ap (set (fours_in old) to) at_from);
    }

pub replaced : (i : ℕ) (f : Four) (old between new : Packed) → IsReleased i old between → IsPut i f between new → IsPut i f old new
replaced i f old between new first second = record { packed = second.packed; is = second.is ∙ first.same f }

pub put_same : {f g : Four} (i : ℕ) (old new : Packed) → f ≡ g → IsPut i f old new → IsPut i g old new
put_same i old new same put = record { packed = put.packed; is = put.is ∙ ap (set (fours_in old) i) same }

-- ---- more words

pub fours_kept : (old new : Packed) → new.words.items ≡ old.words.items → new.pointers.values.items ≡ old.pointers.values.items → new.groups.values.items ≡ old.groups.values.items → fours_in new ≡ fours_in old
fours_kept old new ew ep eg = rw (ew, ep, eg) refl

pub packed_added : {T E : Type 0} (old new : Packed) (n many : ℕ) (r : Result T E) → many ≡ length old.words.items + n → IsPacked old → length old.words.items + n < 2 ^ 32
    → MatchResult r (λ _. new.words.items ≡ old.words.items ++ replicate n empty_word) (λ _. new.words.items ≡ old.words.items)
    → new.pointers ≡ old.pointers → new.groups ≡ old.groups → HasRoom many old.pointers → HasRoom many old.groups → IsPacked new
packed_added old new n many (Ok x) em packed few ew ep eg pointers groups =
    let words = old.words.items in
    let long : length new.words.items ≡ many = ap length ew ∙ length-append words (replicate n empty_word) ∙ ap (λ m. length words + m) (length-replicate n empty_word) ∙ sym em in
    record {
      few = omega (arith, few, long, em);
      pointers = record { owned = rw (ew, ep) (grown pointer_place words old.pointers.owners.items n packed.pointers.owned refl); room = rw (long, ep) pointers };
      groups = record { owned = rw (ew, eg) (grown group_place words old.groups.owners.items n packed.groups.owned refl); room = rw (long, eg) groups };
    }
packed_added old new n many (Err e) em packed few ew ep eg pointers groups = record { few = rw ew packed.few; pointers = rw (ew, ep) packed.pointers; groups = rw (ew, eg) packed.groups }

pub fours_added : {T E : Type 0} (fours : List Four) (old new : Packed) (n : ℕ) (r : Result T E) → fours_in old ≡ fours
    → MatchResult r (λ _. new.words.items ≡ old.words.items ++ replicate n empty_word) (λ _. new.words.items ≡ old.words.items)
    → new.pointers ≡ old.pointers → new.groups ≡ old.groups → MatchResult r (λ _. fours_in new ≡ fours ++ replicate n nothing) (λ _. fours_in new ≡ fours)
fours_added fours old new n (Ok x) same ew ep eg =
    rw (ew, ep, eg) (fours_grown (cells_in old) old.words.items n refl) ∙ ap (λ fours. fours ++ replicate n nothing) same
fours_added fours old new n (Err e) same ew ep eg = rw (ew, ep, eg) same
