-- The file of a fault: what is read before is declared in it too, and it is the file of a first part of the text.
use Rattle.std.proofs.Common.{◌≡◌, ℕ, zero, suc, sym, ap, ◌∙◌, subst, List, [], ◌∷◌, ◌++◌}
use Rattle.std.proofs.Common.{inl, inr}
use Rattle.std.specs.Prelude.{All, map, Some, slice_get}
use Rattle.c_ast.specs.Trees
use Rattle.c_erasure.specs.BrokenFiles.{IsFileUpTo, IsBrokenItem, IsBrokenFileDeclaration, AreBrokenDeclarators}
use Rattle.c_erasure.specs.Broken.{Fault}
use Rattle.c_erasure.specs.Files.{nodes_at, ErasesItem}
use Rattle.c_erasure.specs.Marks.{Mark, marks_of_file, scope_beginnings}
use Rattle.c_erasure.specs.MentionPlaces.{mentions_of_file}
use Rattle.c_erasure.specs.Scopes.{FileScope, Bound}
use Rattle.c_erasure.specs.Specifiers.{Storage}
use Rattle.c_types.specs.Types.{CType}
use Rattle.c_erasure.specs.Checking.Files.{unread}
use Rattle.c_checking_laws.proofs.Extends.{kept, further}
use Rattle.c_checking_laws.proofs.Within.{ArePicked}
use Rattle.c_checking_laws.proofs.WholeFiles.Parts.{Parted, is_made, is_bytes, parted_then, none_left, NoneBegins}
use Rattle.c_checking_laws.specs.TextOrder.TextOrder.{Rising, IsUnwritten}
use Rattle.c_checking_laws.proofs.WholeFiles.AddressesStay.{keeps_constants}
use Rattle.c_checking_laws.proofs.WholeFiles.FileFacts.{laid_file}
use Rattle.c_checking_laws.proofs.WholeFiles.Items.{places_in}
use Rattle.c_checking_laws.proofs.WholeFiles.Known.{IsKnown, none_new}
use Rattle.c_checking_laws.proofs.WholeFiles.Orders.{none_begins_there, rising_in}
use Rattle.c_checking_laws.proofs.WholeFiles.SoundFiles.{AreFitItems, ascending_at, nothing_known}
use Rattle.c_checking_laws.proofs.WholeFiles.Stepping.{Stepped, IsFinal, all_bytes}
use Rattle.c_checking_units.proofs.FirstStops.UpTo.{UpTo, exactly_step, up_to_then, of_file, is_up_to}
use Rattle.c_checking_units.proofs.FirstStops.Behind.{GoesUpTo, same_additions}
use Rattle.c_checking_units.proofs.FirstStops.DeclaratorsStop.{AreStopped}
use Rattle.c_checking_units.proofs.FirstStops.FileDeclarations.{IsStoppedDeclaration}
use Rattle.c_checking_units.proofs.FirstStops.ItemStops.{IsStoppedItem}

-- ---- an item that stops in one file alone

are_broken : (g : FileScope) (words : Storage) (base : CType) (all : List Trees.InitDeclarator) (semicolon : ℕ) (fault : Fault)
    → AreStopped g g words base all semicolon fault → AreBrokenDeclarators g words base all semicolon fault
are_broken g words base [] semicolon fault h = h
are_broken g words base (d ∷ more) semicolon fault (inl h) = inl h
are_broken g words base (d ∷ more) semicolon fault (inr h) = inr (h.0, h.1, h.2, are_broken g words base more semicolon fault h.3)

is_broken_declaration : (g : FileScope) (d : Trees.Declaration) (fault : Fault) → IsStoppedDeclaration g g d fault → IsBrokenFileDeclaration g d fault
is_broken_declaration g d fault (inl h) = h
is_broken_declaration g d fault (inr h) = inr (inr (h.0, h.1, are_broken g _ h.0 d.all d.semicolon fault h.2))

pub is_broken_item : (g : FileScope) (item : Trees.Item) (fault : Fault) → IsStoppedItem g g item fault → IsBrokenItem g item fault
is_broken_item g (Trees.defines specs d left items right) fault h = h
is_broken_item g (Trees.declaration d) fault h = is_broken_declaration g d fault h

-- ---- places at which objects are made, and those at which none is

picked_parted : (w l : List ℕ) → ArePicked w l → (rest : List ℕ) × Parted l w rest
picked_parted [] l h = (l, all_bytes l)
picked_parted (x ∷ w) [] h = absurd h
picked_parted (x ∷ w) (y ∷ l) (inl h) =
    let p = picked_parted w l h.1 in (p.0, subst (λ x. Parted (y ∷ l) (x ∷ w) p.0) (sym h.0) (is_made y l w p.0 p.1))
picked_parted (x ∷ w) (y ∷ l) (inr h) = let p = picked_parted (x ∷ w) l h in (y ∷ p.0, is_bytes y l (x ∷ w) p.0 p.1)

map_there : {X : Type 0} (v : X → ℕ) (xs : List X) (k : ℕ) (x : X) → slice_get xs k ≡ Some x → slice_get (map v xs) k ≡ Some (v x)
map_there v [] k x e = cc
map_there v (y ∷ xs) zero x e = let same : y ≡ x = cc in ap (λ x. Some (v x)) same
map_there v (y ∷ xs) (suc k) x e = map_there v xs k x e

module _ (file : ℕ) (untagged : ℕ → List ℕ) (items : List Trees.Item) (fit : AreFitItems untagged items) where
  abbrev all : List Mark
  all = marks_of_file untagged items

  abbrev start : FileScope
  start = unread file untagged items

  -- behind what is read stand marks `v`, types `y` and places `l`, of which a first part is read in the file of the fault
  module _ (u v : List Mark) (x y k l made : List ℕ) (Holds : FileScope → Type 0) (g h : FileScope)
      (s : Stepped (nodes_at items) u x k made start Holds g) (marks_are : u ++ v ≡ all) (said_are : x ++ y ≡ mentions_of_file items)
      (places_are : k ++ l ≡ places_in items) (r : GoesUpTo (record { marks = v; said = y; made = l }) g h) where
    known : IsKnown (nodes_at items) made none_new none_new g
    known = s.known [] (nothing_known (nodes_at items) file untagged items)

    pub up_to_there : UpTo start (of_file untagged items) h
    up_to_there =
        subst (λ all. UpTo start all h) (same_additions (u ++ v) all (x ++ y) (mentions_of_file items) (k ++ l) (places_in items) marks_are said_are places_are)
        (up_to_then (record { marks = u; said = x; made = k }) (record { marks = v; said = y; made = l })
        (exactly_step s (λ e. known.consistent) (λ e. known.settled)) r.up_to)

    -- names begin to be in scope where the marks say so
    beginning : (n : ℕ) (b : Bound) → slice_get h.names n ≡ Some b → slice_get (scope_beginnings all) n ≡ Some b.from
    beginning n b e =
        let w = up_to_there.names in
        subst (λ all. slice_get all n ≡ Some b.from) (sym w.3)
        (kept w.0 w.1 n b.from (subst (λ all. slice_get all n ≡ Some b.from) w.2 (map_there (λ b. b.from) h.names n b e)))

    none_there : NoneBegins h s.others
    none_there =
        let w = r.up_to.objects in
        let p = picked_parted w.0 l w.2 in
        none_left h s.others p.0
        (none_begins_there h 0 (k ++ l) (s.objects ++ w.0) (s.others ++ p.0)
        (subst (Rising 0) (sym places_are) (rising_in items 0 fit.order.places)) (parted_then s.objects_parted p.1)
        (w.1 ∙ ap (λ z. z ++ w.0) s.objects_are))

    final_there : IsFinal s.others h
    final_there = record {
      laid = laid_file h (r.up_to.settled known.settled);
      none_begins = none_there;
      constants = λ b p. keeps_constants b h p;
      consistent = r.up_to.consistent known.consistent;
      rising = λ i j a b l e f.
          ascending_at (scope_beginnings all) fit.beginnings i j a.from b.from l (beginning i a e) (beginning j b f);
    }

    pub declared_there : Holds h
    declared_there = s.holds h r.continues final_there

    pub file_there : ((at : ℕ) → IsUnwritten (untagged at)) → (before : List Trees.Item) → All (ErasesItem h) before → IsFileUpTo before items h
    file_there unwritten before declared =
        is_up_to file untagged before items h (further s.continues.extends r.continues.extends) up_to_there unwritten
        (rising_in items 0 fit.order.places) declared
