-- Functions at file scope: declared for the first time, or again (C99 6.7, 6.9.1).
use Rattle.std.proofs.Common.{◌≡◌, ◌≢◌, ℕ, zero, suc, refl, sym, ap, ◌∙◌, subst, List, [], ◌∷◌, ◌++◌, length}
use Rattle.std.proofs.Common.{append-nil, inl, inr}
use Rattle.std.proofs.lemmas.Bool.{and_parts}
use Rattle.std.proofs.lemmas.List.{map-append}
use Rattle.std.specs.Prelude.{◌⊎◌, map, Option, Some, None, Ok, slice_get, is_none, ◌&&◌}
use Rattle.std.specs.Option.{IsSome}
use Rattle.c_types.specs.Sameness.{same_type}
use Rattle.c_types.specs.Types.{CType}
use Rattle.c_types.proofs.SameTypes.{same_is}
use Rattle.c_ast.specs.declared.words.Spelling.{Spelling}
use Rattle.c_typed.specs.Trees as Typed
use Rattle.c_erasure.specs.Files.{IsMainType, bound}
use Rattle.c_erasure.specs.Noted.{Noted}
use Rattle.c_erasure.specs.Scopes.{FileScope, Bound, How, defines, Entity, typedef, enumerator, an_object, a_function, a_library_function, a_local, a_parameter}
use Rattle.c_erasure.specs.Scopes.{AFunction}
use Rattle.c_erasure.specs.Specifiers.{Storage}
use Rattle.c_erasure.specs.Checking.Declaring.{declared_among, with_bound}
use Rattle.c_erasure.specs.Checking.Files.{function_linked_before, function_linkage_agrees, new_function, with_new_function}
use Rattle.c_erasure.specs.Checking.Files.{known_function, function_of, defined_among}
use Rattle.c_checking_laws.proofs.Extends.{Extends, at_end}
use Rattle.c_checking_laws.proofs.Results.{given, chosen}
use Rattle.c_checking_laws.proofs.WholeFiles.FileScopes.{MayDeclare, IsTheFunction}
use Rattle.c_checking_laws.proofs.WholeFiles.Parts.{Parted, none, is_made, is_bytes}
use Rattle.c_checking_laws.proofs.WholeFiles.Known.{AreOthers, IsFunctionKnown, IsKnown, none_new, this_one, other_function, others_define_none}
use Rattle.c_checking_laws.proofs.WholeFiles.Known.{one_defines_none}
use Rattle.c_checking_laws.proofs.WholeFiles.Known.{no_definition_more, bound_more, definition_more}
use Rattle.c_checking_laws.proofs.WholeFiles.Names.{none_defines}
use Rattle.c_checking_laws.proofs.WholeFiles.Declaring.{IsBoundIn, bind_known}
use Rattle.c_checking_laws.proofs.WholeFiles.DeclaringFunctions.{new_function_known}

abbrev pub IsNewFunction : FileScope → Storage → Spelling → (place : ℕ) → CType → (nodes : ℕ) → ℕ × FileScope → Type 0
IsNewFunction f words x place t nodes z = (declared_among f.names x.text ≡ None)
    × ((length f.functions, with_new_function f (new_function f words x place t nodes)) ≡ z)

abbrev pub IsOldFunction : FileScope → Spelling → CType → ℕ × FileScope → Type 0
IsOldFunction f x t z = (a : Bound) × (declared_among f.names x.text ≡ Some a) × (a.entity ≡ a_function z.0 t) × (f ≡ z.1)

known_is : (f : FileScope) (words : Storage) (x : Spelling) (t : CType) (old : Bound) (e : Entity) → old.entity ≡ e → (z : ℕ × FileScope)
    → known_function f words x t old e ≡ Ok z → (old.entity ≡ a_function z.0 t) × (f ≡ z.1)
known_is f words x t old (a_function n u) e z h =
    chosen (same_type u t && function_linkage_agrees words (function_linked_before (slice_get f.functions n))) _ _ z
    ((old.entity ≡ a_function z.0 t) × (f ≡ z.1)) h
    (λ b h.
    let p = and_parts (same_type u t) (function_linkage_agrees words (function_linked_before (slice_get f.functions n))) b in
    given (λ (z : ℕ × FileScope). (old.entity ≡ a_function z.0 t) × (f ≡ z.1)) (n, f) z h (e ∙ ap (λ u. a_function n u) (same_is u t p.0), refl))
    (λ b h. cc)
known_is f words x t old (typedef u) e z h = cc
known_is f words x t old (enumerator v) e z h = cc
known_is f words x t old (an_object n u) e z h = cc
known_is f words x t old (a_library_function which) e z h = cc
known_is f words x t old (a_local n u) e z h = cc
known_is f words x t old (a_parameter u) e z h = cc

pub function_entered : (f : FileScope) (words : Storage) (x : Spelling) (place : ℕ) (t : CType) (nodes : ℕ) (o : Option Bound)
    → declared_among f.names x.text ≡ o → (z : ℕ × FileScope) → function_of f words x place t nodes o ≡ Ok z
    → IsNewFunction f words x place t nodes z ⊎ IsOldFunction f x t z
unfolding function_of
function_entered f words x place t nodes None e z h =
    inl (e, given (λ z. (length f.functions, with_new_function f (new_function f words x place t nodes)) ≡ z) _ z h refl)
function_entered f words x place t nodes (Some a) e z h = let k = known_is f words x t a a.entity refl z h in inr (a, e, k.0, k.1)

map_at : {X Y : Type 0} (v : X → Y) (xs : List X) (k : ℕ) (x : X) → slice_get xs k ≡ Some x → slice_get (map v xs) k ≡ Some (v x)
map_at v [] k x e = cc
map_at v (y ∷ xs) zero x e = let same : y ≡ x = cc in ap (λ x. Some (v x)) same
map_at v (y ∷ xs) (suc k) x e = map_at v xs k x e

one_function : (p q : AFunction) → Some p ≡ Some q → p ≡ q
one_function p q e = cc

module _ (nodes_at : ℕ → ℕ) (before : List ℕ) where
  old_function : (f : FileScope) (n : ℕ) → IsKnown nodes_at before none_new none_new f → (o : AFunction) → slice_get f.functions n ≡ Some o
      → IsFunctionKnown nodes_at f.file f.names n o
  old_function f n k o h = by_kind (k.functions n o h)
    where
      by_kind : ⊥ ⊎ IsFunctionKnown nodes_at f.file f.names n o → IsFunctionKnown nodes_at f.file f.names n o
      by_kind (inl i) = absurd i
      by_kind (inr i) = i

  -- a function in the making: its name is bound
  pub record FunctionInMaking (f : FileScope) (x : Spelling) (place : ℕ) (t : CType) (how : How) (from : ℕ) (n : ℕ) (f1 : FileScope) (o : AFunction)
      : Type 0 where
    pub same : f1 ≡ record f { functions = f1.functions }
    pub known : IsKnown nodes_at before none_new (this_one n) (with_bound f1 (bound x from how (a_function n t)))
    pub functions : List ℕ
    pub others : List ℕ
    pub parted : Parted (place ∷ []) functions others
    pub functions_are : map (λ o. o.first) f1.functions ≡ map (λ o. o.first) f.functions ++ functions
    pub undefined : (how ≡ defines) → o.body ≡ None
    pub as_declared : how ≢ defines → IsFunctionKnown nodes_at f.file (f.names ++ bound x from how (a_function n t) ∷ []) n o

  is_bound_in : (f : FileScope) (x : Spelling) (from n : ℕ) (t : CType) (how : How) (o : AFunction) → slice_get f.functions n ≡ Some o → o.name ≡ x.text
      → o.ty ≡ t → IsBoundIn f (bound x from how (a_function n t))
  is_bound_in f x from n t how o h name ty = record {
    fit = subst (λ t. slice_get (map (λ o. o.ty) f.functions) n ≡ Some t) ty (map_at (λ o. o.ty) f.functions n o h);
    object = λ m u e. cc;
    function = λ m u e.
        let i : n ≡ m = cc in
        let v : t ≡ u = cc in
        (o, subst (λ m. slice_get f.functions m ≡ Some o) i h, name, ty ∙ v);
    library = λ which e. cc;
  }

  pub new_function_in_making : (f : FileScope) (words : Storage) → MayDeclare words → (x : Spelling) (place : ℕ) (t : CType) (nodes : ℕ) (how : How) (from : ℕ)
      → nodes ≡ nodes_at place → IsMainType x.text t → IsKnown nodes_at before none_new none_new f → (n : ℕ × FileScope)
      → IsNewFunction f words x place t nodes n
      → (v : IsTheFunction f words x place t (is_none (declared_among f.names x.text)) n) → FunctionInMaking f x place t how from n.0 n.1 v.function
  new_function_in_making f words m x place t nodes how from counted main k n is v =
      let new = new_function f words x place t nodes in
      let f1 = with_new_function f new in
      let number : length f.functions ≡ n.0 = ap (λ (z : ℕ × FileScope). z.0) is.1 in
      let file : f1 ≡ n.1 = ap (λ (z : ℕ × FileScope). z.1) is.1 in
      let there = at_end f.functions new in
      let object : new ≡ v.function =
      one_function new v.function (sym there ∙ ap (λ (z : ℕ × FileScope). slice_get z.1.functions z.0) is.1 ∙ v.stands) in
      let b = bound x from how (a_function n.0 t) in
      let ext : Extends f f1 = subst (Extends f) (sym file) v.continues.extends in
      let k1 : IsKnown nodes_at before none_new (this_one n.0) n.1 =
      subst (λ n. IsKnown nodes_at before none_new (this_one n.0) n.1) is.1 (new_function_known nodes_at before f new ext k) in
      let others = other_function f.names f.functions k.functions_bound t in
      record {
        same = sym (subst (λ g. record f { functions = g.functions } ≡ g) file refl);
        known = bind_known nodes_at before none_new (this_one n.0) none_new (this_one n.0) n.1 b (λ j h. h) (λ j h. h) (λ j u e. cc)
            (λ j u e. let i : n.0 ≡ j = cc in sym i)
            (inl (subst (λ (g : FileScope). declared_among g.names x.text ≡ None) file is.0))
            (is_bound_in n.1 x from n.0 t how v.function v.stands v.name v.ty) k1;
        functions = place ∷ [];
        others = [];
        parted = is_made place [] [] [] none;
        functions_are = subst (λ (g : FileScope). map (λ o. o.first) g.functions ≡ map (λ o. o.first) f.functions ++ place ∷ []) file
            (map-append (λ o. o.first) f.functions (new ∷ []));
        undefined = λ d. ap (λ (o : AFunction). o.body) (sym object);
        as_declared = λ d. subst (IsFunctionKnown nodes_at f.file (f.names ++ b ∷ []) n.0) object (record {
          declared = (length f.names, b, at_end f.names b, refl);
          left = λ e. (
            refl,
            refl,
            refl,
            counted,
            no_definition_more f.names (b ∷ []) (a_function n.0 t)
                (others_define_none f.names (a_function n.0 t) (subst (λ n. AreOthers f.names (a_function n t)) number others))
                (one_defines_none b (a_function n.0 t) (λ e. d)),
          );
          defined = λ s. cc;
          main = main;
        });
      }

  pub old_function_in_making : (f : FileScope) (words : Storage) (x : Spelling) (place : ℕ) (t : CType) (how : How) (from : ℕ)
      → (how ≡ defines → defined_among f.names x.text ≡ None) → IsKnown nodes_at before none_new none_new f → (n : ℕ × FileScope) → IsOldFunction f x t n
      → (v : IsTheFunction f words x place t (is_none (declared_among f.names x.text)) n) → FunctionInMaking f x place t how from n.0 n.1 v.function
  old_function_in_making f words x place t how from once k n is v =
      let b = bound x from how (a_function n.0 t) in
      let there : slice_get f.functions n.0 ≡ Some v.function =
      subst (λ (g : FileScope). slice_get g.functions n.0 ≡ Some v.function) (sym is.3) v.stands in
      let o = old_function f n.0 k v.function there in
      record {
        same = subst (λ g. g ≡ record f { functions = g.functions }) is.3 refl;
        known = subst (λ g. IsKnown nodes_at before none_new (this_one n.0) (with_bound g b)) is.3
            (bind_known nodes_at before none_new none_new none_new (this_one n.0) f b (λ j h. h) (λ j h. absurd h) (λ j u e. cc)
            (λ j u e. let i : n.0 ≡ j = cc in sym i)
            (inr (record { first = is.0; declared = is.1; same = is.2; again = tt; once = once }))
            (is_bound_in f x from n.0 t how v.function there v.name v.ty) k);
        functions = [];
        others = place ∷ [];
        parted = is_bytes place [] [] [] none;
        functions_are = subst (λ (g : FileScope). map (λ o. o.first) g.functions ≡ map (λ o. o.first) f.functions ++ []) is.3 (sym (append-nil _));
        undefined = λ d. none_yet d there o (v.function.body) refl;
        as_declared = λ d. record {
          declared = bound_more f.names (b ∷ []) (a_function n.0 v.function.ty) o.declared;
          left = λ e.
              let l = o.left e in (
                l.0,
                l.1,
                l.2,
                l.3,
                no_definition_more f.names (b ∷ []) (a_function n.0 v.function.ty) l.4 (one_defines_none b (a_function n.0 v.function.ty) (λ e. d)),
              );
          defined = λ s. definition_more f.names (b ∷ []) (a_function n.0 v.function.ty) (o.defined s);
          main = o.main;
        };
      }
    where
      none_yet : how ≡ defines → slice_get f.functions n.0 ≡ Some v.function → IsFunctionKnown nodes_at f.file f.names n.0 v.function
          → (i : Option (Typed.Statement Noted)) → v.function.body ≡ i → i ≡ None
      none_yet d there o None e = refl
      none_yet d there o (Some i) e =
          let c = o.defined (subst IsSome (sym e) refl) in
          let q = k.functions_bound c.0 c.1 c.2 n.0 v.function.ty c.3 in
          let same : q.0 ≡ v.function = one_function q.0 v.function (sym q.1 ∙ there) in
          absurd (none_defines f.names x.text (once d) c.0 c.1 c.2 (sym q.2 ∙ ap (λ (o : AFunction). o.name) same ∙ v.name) c.4)
