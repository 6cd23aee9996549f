-- The part of a file that is found has all names, records and mentions of the whole one, where both are annotated files of the tree (C99 6.9).
use Rattle.std.proofs.Common.{◌≡◌, ℕ, suc, refl, sym, ap, ◌∙◌, subst, List, [], ◌∷◌, ◌++◌, length, append-nil, arith, length-append}
use Rattle.std.specs.Prelude.{map, Some, slice_get}
use Rattle.c_types.specs.Types.{Record}
use Rattle.c_ast.specs.Trees
use Rattle.c_erasure.specs.Files.{IsFileOf}
use Rattle.c_erasure.specs.Scopes.{Bound, AMention, FileScope}
use Rattle.c_erasure.specs.Checking.Files.{closed_file}
use Rattle.c_checking_laws.proofs.CompleteNodes.{some_is}
use Rattle.c_checking_laws.proofs.CompletePart.{Lists, part}
use Rattle.c_checking_laws.proofs.WholeFiles.CompleteObjects.{mapped_at}
use Rattle.c_checking_units.proofs.Filed.{IsFiled}

mapped_length : {X Y : Type 0} (v : X → Y) (xs : List X) → length (map v xs) ≡ length xs
mapped_length v [] = refl
mapped_length v (x ∷ xs) = let e = mapped_length v xs in omega (arith, e)

nothing_left : {X : Type 0} (more : List X) → length more ≡ 0 → more ≡ []
nothing_left [] e = refl
nothing_left (x ∷ more) e = absurd (omega (arith, e))

-- a first part that tells as much is all
all_of : {X Y : Type 0} (v : X → Y) (xs ys more : List X) → ys ≡ xs ++ more → map v xs ≡ map v ys → xs ≡ ys
all_of v xs ys more e m =
    let a = mapped_length v xs in
    let b = mapped_length v ys in
    let l = ap length m in
    let n = ap length e in
    let k = length-append xs more in
    let none = nothing_left more (omega (arith, a, b, l, n, k)) in
    sym (e ∙ ap (λ more. xs ++ more) none ∙ append-nil xs)

-- lists with the same elements are the same
same_lists : {X Y : Type 0} (v : X → Y) (xs ys : List X) → map v xs ≡ map v ys
    → ((k : ℕ) (a b : X) → slice_get xs k ≡ Some a → slice_get ys k ≡ Some b → a ≡ b) → xs ≡ ys
same_lists v [] [] m h = refl
same_lists v [] (y ∷ ys) m h = cc
same_lists v (x ∷ xs) [] m h = cc
same_lists v (x ∷ xs) (y ∷ ys) m h =
    let rest : map v xs ≡ map v ys = cc in
    ap (λ x. x ∷ xs) (h 0 x y refl refl) ∙ ap (λ z. y ∷ z) (same_lists v xs ys rest (λ k a b e f. h (suc k) a b e f))

module _ (g : FileScope) (items : List Trees.Item) (whole : IsFileOf items g) (c : Lists) (f : IsFiled g c)
    (found : IsFileOf items (closed_file (part g c)))
  where
    pub names_all : c.names ≡ g.names
    names_all = all_of (λ (b : Bound). b.from) c.names g.names f.extends.names.0 f.extends.names.1 (found.names ∙ sym whole.names)

    pub records_all : c.records ≡ g.records
    records_all = all_of (λ (r : Record). r.tag) c.records g.records f.extends.records.0 f.extends.records.1 (found.records ∙ sym whole.records)

    -- where the file speaks of one type at a place
    pub mentions_all : ((j k : ℕ) (a b : AMention) → slice_get g.mentions j ≡ Some a → slice_get g.mentions k ≡ Some b → a.at ≡ b.at → j ≡ k)
        → c.mentions ≡ g.mentions
    mentions_all apart = same_lists (λ (m : AMention). m.at) c.mentions g.mentions places one
      where
        places : map (λ (m : AMention). m.at) c.mentions ≡ map (λ (m : AMention). m.at) g.mentions
        places = found.mentions ∙ sym whole.mentions

        one : (k : ℕ) (a b : AMention) → slice_get c.mentions k ≡ Some a → slice_get g.mentions k ≡ Some b → a ≡ b
        one k a b e h =
            let there = f.extends.mentions a.kind a.ty a.at (k, e) in
            let told : slice_get (map (λ (m : AMention). m.at) g.mentions) k ≡ Some a.at =
            subst (λ all. slice_get all k ≡ Some a.at) places (mapped_at (λ (m : AMention). m.at) c.mentions k a e) in
            let same : b.at ≡ a.at = some_is b.at a.at (sym (mapped_at (λ (m : AMention). m.at) g.mentions k b h) ∙ told) in
            let number = apart k there.0 b a h there.1 same in
            sym (some_is b a (sym h ∙ ap (slice_get g.mentions) number ∙ there.1))
