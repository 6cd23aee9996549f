-- What the checker answers for the tree of a text is its annotated file, where that has the steps of its items (C99 6.7, 6.9).
use Rattle.std.proofs.Common.{◌≡◌, ◌≢◌, ℕ, suc, ◌+◌, Bool, true, false, refl, sym, ap, ◌∙◌, subst, cond, List, [], ◌∷◌, length, arith}
use Rattle.std.proofs.Common.{inl, inr}
use Rattle.std.specs.List.{list_any}
use Rattle.std.specs.Option.{IsSome}
use Rattle.std.specs.Prelude.{◌⊎◌, ◌&&◌, Option, Some, None, Ok, slice_get, is_none}
use Rattle.c_tokens.specs.TokenPlaces.{TokensHavePlaces}
use Rattle.c_types.specs.Types.{CType, Record}
use Rattle.c_ast.specs.Laws.{TreesBeginFirst}
use Rattle.c_ast.specs.Trees
use Rattle.c_ast.specs.TreesOfFiles.{IsTreeOf}
use Rattle.c_typed.specs.Trees as Typed
use Rattle.c_erasure.specs.Files as Files
use Rattle.c_erasure.specs.Files.{IsFileOf, IsMade, declarations_of, is_defined, IsLeft, IsOpen, IsIntroduced, nodes_at}
use Rattle.c_erasure.specs.Literals.{made_by_file}
use Rattle.c_erasure.specs.Noted.{Noted}
use Rattle.lay_base.specs.declared.place.Place.{Place}
use Rattle.c_erasure.specs.Scopes.{ALocal, Bound, How, declares, tentative, defines, Entity, an_object, a_function, AnObject, AFunction, AMention, FileScope}
use Rattle.c_erasure.proofs.MarkPlaces.Ordered.{marks_are_in_order}
use Rattle.c_checking_laws.specs.TextOrder.TextOrder.{IsUnwritten, TextsAreInOrder}
use Rattle.c_erasure.specs.Checking.Answers.{◌>>=◌}
use Rattle.c_erasure.specs.Checking.Files.{is_tentative, settled, settled_from, closed_file, annotated}
use Rattle.c_checking_laws.proofs.CompleteNodes.{some_is}
use Rattle.c_checking_laws.proofs.CompletePart.{Lists, part}
use Rattle.c_checking_laws.proofs.Results.{ok}
use Rattle.c_checking_laws.proofs.WholeFiles.CompleteObjects.{mapped_at}
use Rattle.c_checking_laws.proofs.WholeFiles.FileScopes.{IsSameObject, IsSameFunction}
use Rattle.c_checking_laws.proofs.WholeFiles.Closing.{settled_is, object_closed, tentative_same}
use Rattle.c_checking_laws.proofs.WholeFiles.Known.{IsKnown, IsADeclaredObject, IsObjectKnown, IsFunctionKnown, HasNoDefinition, none_new}
use Rattle.c_checking_laws.proofs.WholeFiles.SoundFiles.{filed_known}
use Rattle.c_checking_laws.proofs.WholeFiles.TextFits.{text_is_fit, sound_text}
use Rattle.c_checking_units.proofs.AllFound.{names_all, records_all, mentions_all}
use Rattle.c_checking_units.proofs.Filed.{IsWholeFile, IsFiled}
use Rattle.c_checking_units.proofs.Items.{steps_of_items, file_found}
use Rattle.c_checking_units.proofs.Steps.{AreSteps}
use Rattle.c_checking_units.proofs.DeclaredPlaces.{none_made}
use Rattle.c_checking_units.proofs.FirstDeclared.{declared_first}
use Rattle.c_checking_units.proofs.SpokenItems.{mentions_apart}
use Rattle.c_checking_units.proofs.TracedItems.{declared_by_file}
use Rattle.c_checking_units.proofs.WholeFiles.{text_traced}

-- ---- lists

same_elements : {X : Type 0} (xs ys : List X) → length xs ≡ length ys
    → ((k : ℕ) (a b : X) → slice_get xs k ≡ Some a → slice_get ys k ≡ Some b → a ≡ b) → xs ≡ ys
same_elements [] [] l h = refl
same_elements [] (y ∷ ys) l h = absurd (omega (arith, l))
same_elements (x ∷ xs) [] l h = absurd (omega (arith, l))
same_elements (x ∷ xs) (y ∷ ys) l h =
    ap (λ x. x ∷ xs) (h 0 x y refl refl) ∙ ap (λ z. y ∷ z) (same_elements xs ys (omega (arith, l)) (λ k a b e f. h (suc k) a b e f))

settled_length : (names : List Bound) (n : ℕ) (xs : List AnObject) → length (settled_from names n xs) ≡ length xs
settled_length names n [] = refl
settled_length names n (x ∷ xs) = ap suc (settled_length names (n + 1) xs)

-- ---- what is declared, and not defined

undefined_by : (names : List Bound) (e : Entity) (all : List How) → declarations_of names e all → HasNoDefinition names e → is_defined all ≡ false
undefined_by [] e all d h = ap is_defined d
undefined_by (b ∷ names) e all (inl d) h =
    ap is_defined d.1.1 ∙ by_how b.how (h 0 b refl d.0) (undefined_by names e d.1.0 d.1.2 (λ k c f is. h (suc k) c f is))
  where
    by_how : (how : How) → how ≢ defines → is_defined d.1.0 ≡ false → is_defined (how ∷ d.1.0) ≡ false
    by_how declares n e = e
    by_how tentative n e = e
    by_how defines n e = absurd (n refl)
undefined_by (b ∷ names) e all (inr d) h = undefined_by names e all d.1 (λ k c f is. h (suc k) c f is)

-- ---- an object and a function are what they hold

abbrev object_of : List ℕ → Place → ℕ → CType → Bool → Option (List ℕ) → Option (Typed.Initializer Noted) → AnObject
object_of name place first ty linked literal initial =
    record { name = name; place = place; first = first; ty = ty; is_linked = linked; literal = literal; initial = initial }

object_is : (o p : AnObject) → p.name ≡ o.name → p.place ≡ o.place → p.first ≡ o.first → p.ty ≡ o.ty → p.is_linked ≡ o.is_linked
    → p.literal ≡ o.literal → p.initial ≡ o.initial → o ≡ p
object_is o p a b c d e f i =
    let same : object_of o.name o.place o.first o.ty o.is_linked o.literal o.initial ≡ object_of p.name p.place p.first p.ty p.is_linked p.literal p.initial =
    rw (a, b, c, d, e, f, i) refl in
    same

abbrev function_of : List ℕ → Place → ℕ → CType → Bool → List ALocal → List ALocal → Option (Typed.Statement Noted) → ℕ → AFunction
function_of name place first ty linked parameters locals body nodes =
    record {
      name = name;
      place = place;
      first = first;
      ty = ty;
      is_linked = linked;
      parameters = parameters;
      locals = locals;
      body = body;
      nodes = nodes;
    }

function_is : (o p : AFunction) → p.name ≡ o.name → p.place ≡ o.place → p.first ≡ o.first → p.ty ≡ o.ty → p.is_linked ≡ o.is_linked
    → p.parameters ≡ o.parameters → p.locals ≡ o.locals → p.body ≡ o.body → p.nodes ≡ o.nodes → o ≡ p
function_is o p a b c d e f i j k =
    let same : function_of o.name o.place o.first o.ty o.is_linked o.parameters o.locals o.body o.nodes
    ≡ function_of p.name p.place p.first p.ty p.is_linked p.parameters p.locals p.body p.nodes = rw (a, b, c, d, e, f, i, j, k) refl in
    same

-- it is zero where a declaration is tentative
left_same : (g : FileScope) (o p : AnObject) (known : Bool) → IsSameObject o p → o.initial ≡ None → o.place ≡ record { file = g.file; at = o.first }
    → IsLeft g p false known → (cond known (record o { initial = Some (Typed.parts []) }) o) ≡ p
left_same g o p true s i at l =
    let place : p.place ≡ o.place = l.0 ∙ ap (λ at. record { file = g.file; at = at }) s.first ∙ sym at in
    rw (sym s.name, sym s.first, sym s.ty, sym s.is_linked, sym s.literal, sym place, sym l.1) refl
left_same g o p false s i at l =
    let place : p.place ≡ o.place = l.0 ∙ ap (λ at. record { file = g.file; at = at }) s.first ∙ sym at in
    let initial : p.initial ≡ o.initial = l.1 ∙ sym i in
    object_is o p s.name place s.first s.ty s.is_linked s.literal initial

module _ (places : TokensHavePlaces) (first : TreesBeginFirst) (texts : TextsAreInOrder) (bytes : List ℕ) (items : List Trees.Item) (g : FileScope)
    (unwritten : (at : ℕ) → IsUnwritten (g.untagged at)) (tree : IsTreeOf bytes items) (h : IsFileOf items g) where
  -- each type of which the file speaks stands at its own place
  one_mention : (j k : ℕ) (a b : AMention) → slice_get g.mentions j ≡ Some a → slice_get g.mentions k ≡ Some b → a.at ≡ b.at → j ≡ k
  one_mention j k a b e f same =
      mentions_apart g.untagged bytes items tree j k a.at
      (subst (λ all. slice_get all j ≡ Some a.at) h.mentions (mapped_at (λ (m : AMention). m.at) g.mentions j a e))
      (subst (λ all. slice_get all k ≡ Some a.at) h.mentions (mapped_at (λ (m : AMention). m.at) g.mentions k b f ∙ ap Some (sym same)))

  -- of a part of the file with all of its names
  module _ (c : Lists) (f : IsFiled g c) (names : c.names ≡ g.names)
      (known : IsKnown (nodes_at items) (made_by_file items) none_new none_new (part g c)) where
    -- a declared object is none that the text makes
    declared_alone : (n : ℕ) (o p : AnObject) → IsADeclaredObject g.file c.names n o → slice_get g.objects n ≡ Some p → IsSameObject o p
        → IsMade (made_by_file items) p.first → ⊥
    declared_alone n o p k e s m =
        let d = k.declared in
        let bound = subst (λ all. slice_get all d.0 ≡ Some d.1) names d.2 in
        let place = declared_first g items h ((marks_are_in_order places).beginnings bytes items g.untagged tree) (IsMade (declared_by_file items))
        (text_traced places first texts bytes items g tree h) n o.ty p e (suc d.0) d.0 d.1 (omega arith) bound d.3 in
        none_made items 0 p.first (texts.order bytes items g.untagged tree).places place m

    object_same : (n : ℕ) (o p : AnObject) → slice_get c.objects n ≡ Some o → slice_get g.objects n ≡ Some p → IsSameObject o p → settled c.names n o ≡ p
    object_same n o p there whole s = by_initial o.initial refl
      where
        by_introduced : o.initial ≡ None → (k : IsADeclaredObject g.file c.names n o) → IsIntroduced g items n p → settled c.names n o ≡ p
        by_introduced i k (inl m) = absurd (declared_alone n o p k whole s m)
        by_introduced i k (inr d) =
            let l = k.left i in
            let are : declarations_of c.names (an_object n o.ty) d.0 =
            subst (λ t. declarations_of c.names (an_object n t) d.0) s.ty (subst (λ all. declarations_of all (an_object n p.ty) d.0) (sym names) d.2) in
            let none = undefined_by c.names (an_object n o.ty) d.0 are l.1 in
            let left : IsLeft g p false (Files.is_tentative d.0) = subst (λ b. IsLeft g p b (Files.is_tentative d.0)) none d.3 in
            let same : list_any (is_tentative n) c.names ≡ Files.is_tentative d.0 =
            tentative_same c.names n o.ty d.0 are (λ j b e u is. one_type j b e u is) in
            ap (λ z. cond (is_none z && list_any (is_tentative n) c.names) (record o { initial = Some (Typed.parts []) }) o) i
            ∙ ap (λ b. cond b (record o { initial = Some (Typed.parts []) }) o) same
            ∙ left_same g o p (Files.is_tentative d.0) s i l.0 left
          where
            one_type : (j : ℕ) (b : Bound) → slice_get c.names j ≡ Some b → (u : CType) → b.entity ≡ an_object n u → u ≡ o.ty
            one_type j b e u is =
                let q = known.objects_bound j b e n u is in
                sym q.3 ∙ ap (λ (o : AnObject). o.ty) (some_is q.0 o (sym q.1 ∙ there))

        by_kind : o.initial ≡ None → ⊥ ⊎ IsObjectKnown g.file c.names (made_by_file items) n o → settled c.names n o ≡ p
        by_kind i (inl k) = absurd k
        by_kind i (inr (inl k)) = let none_is_some = subst IsSome i k.1 in cc
        by_kind i (inr (inr k)) = by_introduced i k (h.objects n p whole)

        by_initial : (i : Option (Typed.Initializer Noted)) → o.initial ≡ i → settled c.names n o ≡ p
        by_initial None i = by_kind i (known.objects n o there)
        by_initial (Some x) i =
            ap (λ z. cond (is_none z && list_any (is_tentative n) c.names) (record o { initial = Some (Typed.parts []) }) o) i
            ∙ sym (s.settled (subst IsSome (sym i) refl))

    objects_all : length c.objects ≡ length g.objects → settled_from c.names 0 c.objects ≡ g.objects
    objects_all l =
        let size = settled_length c.names 0 c.objects in
        same_elements (settled_from c.names 0 c.objects) g.objects (omega (arith, l, size))
        (λ k a b e there.
        let z = Rattle.c_checking_laws.proofs.WholeFiles.Closing.closed_object (part g c) k a e in
        let q = f.objects k z.0 z.1 in
        z.2 ∙ object_same k z.0 b z.1 there (subst (IsSameObject z.0) (some_is q.0 b (sym q.1 ∙ there)) q.2))

    -- ---- functions

    function_same : (n : ℕ) (o p : AFunction) → slice_get c.functions n ≡ Some o → slice_get g.functions n ≡ Some p → IsSameFunction o p → o ≡ p
    function_same n o p there whole s = by_body o.body refl
      where
        by_known : o.body ≡ None → ⊥ ⊎ IsFunctionKnown (nodes_at items) g.file c.names n o → o ≡ p
        by_known i (inl k) = absurd k
        by_known i (inr k) =
            let l = k.left i in
            let d = h.functions n p whole in
            let are : declarations_of c.names (a_function n o.ty) d.0 =
            subst (λ t. declarations_of c.names (a_function n t) d.0) s.ty (subst (λ all. declarations_of all (a_function n p.ty) d.0) (sym names) d.2) in
            let none = undefined_by c.names (a_function n o.ty) d.0 are l.4 in
            let left : IsOpen g items p false = subst (IsOpen g items p) none d.3 in
            function_is o p s.name (left.3 ∙ ap (λ at. record { file = g.file; at = at }) s.first ∙ sym l.2) s.first s.ty s.is_linked
            (left.1 ∙ sym l.0) (left.2 ∙ sym l.1) (left.0 ∙ sym i) (left.4 ∙ ap (nodes_at items) s.first ∙ sym l.3)

        by_body : (i : Option (Typed.Statement Noted)) → o.body ≡ i → o ≡ p
        by_body None i = by_known i (known.functions n o there)
        by_body (Some x) i = sym (s.settled (subst IsSome (sym i) refl))

    functions_all : length c.functions ≡ length g.functions → c.functions ≡ g.functions
    functions_all l =
        same_elements c.functions g.functions l
        (λ k a b e there.
        let q = f.functions k a e in
        function_same k a b e there (subst (IsSameFunction a) (some_is q.0 b (sym q.1 ∙ there)) q.2))

  -- ---- the answer

  -- `IsWholeFile g` holds of each (`text_whole`)
  pub answer_is : (w : IsWholeFile g) → AreSteps g 0 0 0 0 (steps_of_items g w items) → annotated g.file g.untagged items ≡ Ok g
  unfolding annotated
  answer_is w steps =
      let z = file_found g w items tree.3.well_formed h steps in
      let c = z.lists in
      let f = z.ready.filed in
      let is = ap (λ r. r >>= λ f. ok (closed_file f)) z.is in
      let found = (sound_text places first texts g.file g.untagged bytes items (closed_file (part g c)) unwritten tree is).is_file in
      let known = filed_known g.file g.untagged items (text_is_fit places first texts g.untagged bytes items unwritten tree) (part g c) z.is in
      let names = names_all g items h c f found in
      let records = records_all g items h c f found in
      let mentions = mentions_all g items h c f found one_mention in
      let objects = objects_all c f names known z.ready.steps.0 in
      let functions = functions_all c f names known z.ready.steps.1 in
      is ∙ ap ok (whole c.names c.records (settled_from c.names 0 c.objects) c.functions c.mentions names records objects functions mentions)
    where
      whole : (names : List Bound) (records : List Record) (objects : List AnObject) (functions : List AFunction) (mentions : List AMention)
          → names ≡ g.names → records ≡ g.records → objects ≡ g.objects → functions ≡ g.functions → mentions ≡ g.mentions
          → part g (record { names = names; records = records; objects = objects; functions = functions; mentions = mentions }) ≡ g
      whole names records objects functions mentions a b d e f = rw (a, b, d, e, f) refl
