-- A file of whose items a first part is read: what is read is declared in it, and it is the file of a first part of the text.
use Rattle.std.proofs.Common.{◌≡◌, ℕ, zero, suc, refl, sym, ap, ◌∙◌, subst, List, [], ◌∷◌, ◌++◌, length, take}
use Rattle.std.proofs.Common.{append_assoc, inl, inr}
use Rattle.std.specs.Prelude.{All, map, Some, slice_get}
use Rattle.c_ast.specs.Trees
use Rattle.c_erasure.specs.BrokenFiles.{IsFirstPart, IsFileUpTo}
use Rattle.c_erasure.specs.Files.{nodes_at, AreAscending, IsMade, ErasesItem}
use Rattle.c_erasure.specs.Marks.{Mark, marks_of_item, marks_of_file, firsts, tags_in, ends_in, defined_in, undefined_in, scope_beginnings}
use Rattle.c_erasure.specs.MentionPlaces.{mentions_of_item, mentions_of_file}
use Rattle.c_erasure.specs.Scopes.{FileScope, Bound}
use Rattle.c_erasure.specs.Checking.Files.{unread}
use Rattle.c_checking_laws.proofs.Agreement.{beginnings_append}
use Rattle.c_checking_laws.proofs.Extends.{kept}
use Rattle.c_checking_laws.proofs.WholeFiles.FileScopes.{continues_itself}
use Rattle.c_checking_laws.specs.TextOrder.TextOrder.{Rising, IsUnwritten, places_of_item}
use Rattle.c_checking_laws.proofs.WholeFiles.AddressesStay.{keeps_constants}
use Rattle.c_checking_laws.proofs.WholeFiles.FileFacts.{laid_file}
use Rattle.c_checking_laws.proofs.WholeFiles.Items.{places_in}
use Rattle.c_checking_laws.proofs.WholeFiles.Known.{IsKnown, none_new, made_left}
use Rattle.c_checking_laws.proofs.WholeFiles.Orders.{all_from_slices, made_ascend, none_begins_there, rising_in}
use Rattle.c_checking_laws.proofs.WholeFiles.Rises.{rising_front}
use Rattle.c_checking_laws.proofs.WholeFiles.SoundFiles.{AreFitItems, ascending_at, nothing_known}
use Rattle.c_checking_laws.proofs.WholeFiles.Stepping.{Stepped, IsFinal, defined_append}

-- ---- first parts of lists

front_taken : {X : Type 0} (xs ys : List X) → xs ≡ take (length xs) (xs ++ ys)
front_taken [] ys = refl
front_taken (x ∷ xs) ys = ap (λ z. x ∷ z) (front_taken xs ys)

first_part : {X : Type 0} (all xs ys whole : List X) → all ≡ xs → xs ++ ys ≡ whole → IsFirstPart all whole
first_part all xs ys whole e f = subst (λ all. IsFirstPart all whole) (sym e) (subst (IsFirstPart xs) f (front_taken xs ys))

made_at : (all : List ℕ) (n at : ℕ) → slice_get all n ≡ Some at → IsMade all at
made_at [] n at e = cc
made_at (p ∷ all) zero at e = let same : p ≡ at = cc in inl (sym same)
made_at (p ∷ all) (suc n) at e = inr (made_at all n at e)

map_there : {X : Type 0} (v : X → ℕ) (xs : List X) (k : ℕ) (x : X) → slice_get xs k ≡ Some x → slice_get (map v xs) k ≡ Some (v x)
map_there v [] k x e = cc
map_there v (y ∷ xs) zero x e = let same : y ≡ x = cc in ap (λ x. Some (v x)) same
map_there v (y ∷ xs) (suc k) x e = map_there v xs k x e

-- ---- several items

pub marks_append : (untagged : ℕ → List ℕ) (a b : List Trees.Item) → marks_of_file untagged (a ++ b) ≡ marks_of_file untagged a ++ marks_of_file untagged b
marks_append untagged [] b = refl
marks_append untagged (item ∷ a) b =
    ap (λ z. marks_of_item untagged item ++ z) (marks_append untagged a b)
    ∙ sym (append_assoc (marks_of_item untagged item) (marks_of_file untagged a) (marks_of_file untagged b))

pub places_append : (a b : List Trees.Item) → places_in (a ++ b) ≡ places_in a ++ places_in b
places_append [] b = refl
places_append (item ∷ a) b =
    ap (λ z. places_of_item item ++ z) (places_append a b) ∙ sym (append_assoc (places_of_item item) (places_in a) (places_in b))

pub mentions_append : (a b : List Trees.Item) → mentions_of_file (a ++ b) ≡ mentions_of_file a ++ mentions_of_file b
mentions_append [] b = refl
mentions_append (item ∷ a) b =
    ap (λ z. mentions_of_item item ++ z) (mentions_append a b)
    ∙ sym (append_assoc (mentions_of_item item) (mentions_of_file a) (mentions_of_file b))

-- ---- a file in which so much is read

module _ (file : ℕ) (untagged : ℕ → List ℕ) (items : List Trees.Item) (fit : AreFitItems untagged items) where
  abbrev all : List Mark
  all = marks_of_file untagged items

  abbrev start : FileScope
  start = unread file untagged items

  -- what stands behind is marks `v`, types `y` and places `l`
  module _ (u v : List Mark) (x y k l made : List ℕ) (Holds : FileScope → Type 0) (g : FileScope)
      (s : Stepped (nodes_at items) u x k made start Holds g) (marks_are : u ++ v ≡ all) (places_are : k ++ l ≡ places_in items) where
    known : IsKnown (nodes_at items) made none_new none_new g
    known = s.known [] (nothing_known (nodes_at items) file untagged items)

    rising : Rising 0 k
    rising = rising_front 0 k l (subst (Rising 0) (sym places_are) (rising_in items 0 fit.order.places))

    beginning : (n : ℕ) (b : Bound) → slice_get g.names n ≡ Some b → slice_get (scope_beginnings all) n ≡ Some b.from
    beginning n b e =
        subst (λ all. slice_get (scope_beginnings all) n ≡ Some b.from) marks_are
        (subst (λ all. slice_get all n ≡ Some b.from) (sym (beginnings_append u v))
        (kept (scope_beginnings u) (scope_beginnings v) n b.from
        (subst (λ all. slice_get all n ≡ Some b.from) s.names (map_there (λ b. b.from) g.names n b e))))

    pub final_so_far : IsFinal s.others g
    final_so_far = record {
      laid = laid_file g known.settled;
      none_begins = none_begins_there g 0 k s.objects s.others rising s.objects_parted s.objects_are;
      constants = λ b p. keeps_constants b g p;
      consistent = known.consistent;
      rising = λ i j a b l e f.
          ascending_at (scope_beginnings all) fit.beginnings i j a.from b.from l (beginning i a e) (beginning j b f);
    }

    pub declared_so_far : Holds g
    declared_so_far = s.holds g (continues_itself g) final_so_far

    pub file_up_to : ((at : ℕ) → IsUnwritten (untagged at)) → x ++ y ≡ mentions_of_file items → (before : List Trees.Item) → All (ErasesItem g) before
        → IsFileUpTo before items g
    file_up_to unwritten said_are before declared =
        let same : g.untagged ≡ untagged = s.continues.extends.untagged in
        record {
          untagged = λ at. subst (λ (names : ℕ → List ℕ). IsUnwritten (names at)) (sym same) (unwritten at);
          tags = subst (λ w. g.tags ≡ firsts [] (tags_in (marks_of_file w items))) (sym same) s.continues.extends.tags;
          ends = subst (λ w. g.ends ≡ ends_in (marks_of_file w items)) (sym same) s.continues.extends.ends;
          numbered = subst (λ w. g.numbered ≡ defined_in (marks_of_file w items) ++ undefined_in (marks_of_file w items)) (sym same)
              s.continues.extends.numbered;
          records = subst (λ w. IsFirstPart (map (λ r. r.tag) g.records) (defined_in (marks_of_file w items))) (sym same)
              (first_part _ (defined_in u) (defined_in v) (defined_in all) s.records (sym (defined_append u v) ∙ ap defined_in marks_are));
          names = subst (λ w. IsFirstPart (map (λ b. b.from) g.names) (scope_beginnings (marks_of_file w items))) (sym same)
              (first_part _ (scope_beginnings u) (scope_beginnings v) (scope_beginnings all) s.names
              (sym (beginnings_append u v) ∙ ap scope_beginnings marks_are));
          mentions = all_from_slices (λ m. IsMade (mentions_of_file items) m.at) g.mentions
              (λ n m e. subst (λ all. IsMade all m.at) said_are
              (made_left x y m.at (made_at x n m.at (subst (λ all. slice_get all n ≡ Some m.at) s.mentions (map_there (λ m. m.at) g.mentions n m e)))));
          consistent = known.consistent;
          objects_in_order = subst AreAscending (sym s.objects_are) (made_ascend 0 k s.objects s.others rising s.objects_parted);
          functions_in_order = subst AreAscending (sym s.functions_are)
              (made_ascend 0 k s.functions s.no_functions rising s.functions_parted);
          each_before = declared;
        }
