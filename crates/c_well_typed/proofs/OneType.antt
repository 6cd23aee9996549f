-- Of units without a clash of names, each name with linkage has one type (C99 6.2.7).
use Rattle.std.proofs.Common.{◌≡◌, ◌∙◌, Bool, true, false, refl, sym, ap, subst, cond, List, [], ◌∷◌, ◌++◌, ℕ, inl, inr}
use Rattle.std.proofs.lemmas.Slice.Eq.{bytes_eq-Decides}
use Rattle.std.specs.Prelude.{is_some, get_or, flat_map}
use Rattle.std.specs.Str.{bytes_eq}
use Rattle.c_types.specs.Sameness.{same_type}
use Rattle.c_types.specs.Types.{CType, void}
use Rattle.c_types.proofs.SameTypes.{same_is, same_self}
use Rattle.c_numbers.specs.TypeNumbers.Renumbered.{renumbered}
use Rattle.c_typed.specs.declared.program.Object.{Object}
use Rattle.c_typed.specs.Programs.{FunctionData, UnitData}
use Rattle.c_link.specs.Joining.{all_tags, structure_in}
use Rattle.c_link.specs.Gaps.{Linked, linked_object_in, linked_function_in, linked_by, linked_in, of_name, trouble, HasNone, IsNameClash}
use Rattle.c_link.proofs.JoinedRecords.{IsAmong, among_left, among_right, among_flat}

split_at : {A : Type 0} (x : A) (all : List A) → IsAmong x all → (before after : List A) × (all ≡ before ++ x ∷ after)
split_at x [] h = absurd h
split_at x (y ∷ more) (inl e) = ([], more, ap (λ z. z ∷ more) (sym e))
split_at x (y ∷ more) (inr h) = let s = split_at x more h in (y ∷ s.0, s.1, ap (λ rest. y ∷ rest) s.2)

-- ---- the first of a name

name_append : (x : List ℕ) (before after : List Linked) (first : Linked) (rest : List Linked) → of_name x before ≡ first ∷ rest
    → (more : List Linked) × (of_name x (before ++ after) ≡ first ∷ more)
name_append x [] after first rest h = cc
name_append x (l ∷ before) after first rest h = go (bytes_eq l.name x) refl h (name_append x before after first rest)
  where
    go : (b : Bool) → bytes_eq l.name x ≡ b → cond b (l ∷ of_name x before) (of_name x before) ≡ first ∷ rest
        → (of_name x before ≡ first ∷ rest → (more : List Linked) × (of_name x (before ++ after) ≡ first ∷ more))
        → (more : List Linked) × (cond b (l ∷ of_name x (before ++ after)) (of_name x (before ++ after)) ≡ first ∷ more)
    go true e k f = let is : l ≡ first = cc in (of_name x (before ++ after), ap (λ l. l ∷ of_name x (before ++ after)) is)
    go false e k f = f k

name_after : (before after : List Linked) (l : Linked) → of_name l.name before ≡ []
    → (more : List Linked) × (of_name l.name (before ++ l ∷ after) ≡ l ∷ more)
name_after [] after l h =
    let itself = (bytes_eq-Decides l.name l.name).1 refl in
    (of_name l.name after, ap (λ b. cond b (l ∷ of_name l.name after) (of_name l.name after)) itself)
name_after (k ∷ before) after l h = go (bytes_eq k.name l.name) refl h (name_after before after l)
  where
    go : (b : Bool) → bytes_eq k.name l.name ≡ b → cond b (k ∷ of_name l.name before) (of_name l.name before) ≡ []
        → (of_name l.name before ≡ [] → (more : List Linked) × (of_name l.name (before ++ l ∷ after) ≡ l ∷ more))
        → (more : List Linked) × (cond b (k ∷ of_name l.name (before ++ l ∷ after)) (of_name l.name (before ++ l ∷ after)) ≡ l ∷ more)
    go true e q f = cc
    go false e q f = f q

module _ (units : List UnitData) (none : HasNone (IsNameClash units)) where
  -- one has the type of the first of its name
  type_of_first : (l : Linked) → IsAmong l (linked_in units) → (first : Linked) × (more : List Linked) × (of_name l.name (linked_in units) ≡ first ∷ more)
      × (l.ty ≡ first.ty)
  type_of_first l h =
      let s = split_at l (linked_in units) h in
      go s.0 s.1 s.2 (of_name l.name s.0) refl
    where
      same : (before after : List Linked) → linked_in units ≡ before ++ l ∷ after → (first : Linked) (rest : List Linked) → of_name l.name before ≡ first ∷ rest
          → (b : Bool) → same_type l.ty first.ty ≡ b → l.ty ≡ first.ty
      same before after e first rest k true t = same_is l.ty first.ty t
      same before after e first rest k false t =
          absurd (none (trouble l first) (before, after, l, first, rest, e, k, (λ q. let true_is_false = sym (same_self l.ty first.ty q) ∙ t in cc), refl))

      go : (before after : List Linked) → linked_in units ≡ before ++ l ∷ after → (found : List Linked) → of_name l.name before ≡ found
          → (first : Linked) × (more : List Linked) × (of_name l.name (linked_in units) ≡ first ∷ more) × (l.ty ≡ first.ty)
      go before after e [] k = let a = name_after before after l k in (l, a.0, ap (of_name l.name) e ∙ a.1, refl)
      go before after e (first ∷ rest) k =
          let a = name_append l.name before (l ∷ after) first rest k in
          (first, a.0, ap (of_name l.name) e ∙ a.1, same before after e first rest k (same_type l.ty first.ty) refl)

  first_is : (a b : Linked) (more others : List Linked) → a ∷ more ≡ b ∷ others → a ≡ b
  first_is a b more others e = cc

  one_type : (l k : Linked) → IsAmong l (linked_in units) → IsAmong k (linked_in units) → l.name ≡ k.name → l.ty ≡ k.ty
  one_type l k h g n =
      let a = type_of_first l h in
      let b = type_of_first k g in
      let is = first_is a.0 b.0 a.1 b.1 (sym a.2 ∙ ap (λ x. of_name x (linked_in units)) n ∙ b.2) in
      a.3 ∙ ap (λ (l : Linked). l.ty) is ∙ sym b.3

  -- ---- objects and functions

  abbrev tags : List (List ℕ)
  tags = all_tags units

  -- the type of what a unit declares, with the program's numbers
  abbrev pub program_type : UnitData → ℕ → CType
  program_type u i = renumbered (structure_in tags u) (get_or u.types i void)

  object_linked : (u : UnitData) → IsAmong u units → (o : Object) → IsAmong o u.objects → o.linked ≡ true
      → IsAmong (record { name = o.name; place = o.place; ty = program_type u o.ty; is_defined = is_some o.initial }) (linked_in units)
  object_linked u h o g l =
      let entry : Linked = record { name = o.name; place = o.place; ty = program_type u o.ty; is_defined = is_some o.initial } in
      let own : IsAmong entry (linked_object_in (structure_in tags u) u.types o) =
      subst (λ b. IsAmong entry (cond b (entry ∷ []) [])) (sym l) (inl refl) in
      let listed = among_flat (linked_object_in (structure_in tags u) u.types) o u.objects entry g own in
      among_flat (linked_by tags) u units entry h
      (among_left entry (flat_map (linked_object_in (structure_in tags u) u.types) u.objects) (flat_map (linked_function_in (structure_in tags u) u.types) u.functions) listed)

  function_linked : (u : UnitData) → IsAmong u units → (g : FunctionData) → IsAmong g u.functions → g.is_linked ≡ true
      → IsAmong (record { name = g.name; place = g.place; ty = program_type u g.ty; is_defined = is_some g.body }) (linked_in units)
  function_linked u h g i l =
      let entry : Linked = record { name = g.name; place = g.place; ty = program_type u g.ty; is_defined = is_some g.body } in
      let own : IsAmong entry (linked_function_in (structure_in tags u) u.types g) =
      subst (λ b. IsAmong entry (cond b (entry ∷ []) [])) (sym l) (inl refl) in
      let listed = among_flat (linked_function_in (structure_in tags u) u.types) g u.functions entry i own in
      among_flat (linked_by tags) u units entry h
      (among_right entry (flat_map (linked_object_in (structure_in tags u) u.types) u.objects) (flat_map (linked_function_in (structure_in tags u) u.types) u.functions) listed)

  pub object_type : (u v : UnitData) → IsAmong u units → IsAmong v units → (o p : Object) → IsAmong o u.objects → IsAmong p v.objects
      → o.linked ≡ true → p.linked ≡ true → o.name ≡ p.name → program_type u o.ty ≡ program_type v p.ty
  object_type u v h k o p i j l q n = one_type _ _ (object_linked u h o i l) (object_linked v k p j q) n

  pub function_type : (u v : UnitData) → IsAmong u units → IsAmong v units → (o p : FunctionData) → IsAmong o u.functions → IsAmong p v.functions
      → o.is_linked ≡ true → p.is_linked ≡ true → o.name ≡ p.name → program_type u o.ty ≡ program_type v p.ty
  function_type u v h k o p i j l q n = one_type _ _ (function_linked u h o i l) (function_linked v k p j q) n
