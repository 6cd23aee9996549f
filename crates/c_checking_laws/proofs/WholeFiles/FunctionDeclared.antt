-- Declarators of typedefs and functions at file scope: what they add to the file, and what they declare (C99 6.7).
use Rattle.std.proofs.Common.{◌≡◌, ◌≢◌, ℕ, ◌<◌, true, false, refl, sym, ap, ◌∙◌, subst, List, [], ◌∷◌, ◌++◌}
use Rattle.std.proofs.Common.{append-nil, inl, inr}
use Rattle.std.proofs.lemmas.List.{map-append}
use Rattle.std.specs.Prelude.{◌⊎◌, map, Option, Some, None, Ok, slice_get, is_none, ◌&&◌}
use Rattle.c_types.specs.Types.{CType}
use Rattle.c_ast.specs.declared.words.Spelling.{Spelling}
use Rattle.c_typed.specs.declared.operators.LibraryFunction.{LibraryFunction}
use Rattle.c_typed.specs.Fits.{library_type}
use Rattle.c_types.specs.Sameness.{same_type}
use Rattle.c_erasure.specs.Erasure.{IsBound}
use Rattle.c_erasure.specs.Files.{IsMainType, IsOwnName, IsLinkage, function_storage, bound}
use Rattle.c_erasure.specs.Marks.{a_name}
use Rattle.c_erasure.specs.Scopes.{FileScope, Bound, declares, defines, Entity, typedef, enumerator, an_object, a_function, a_library_function, a_local}
use Rattle.c_erasure.specs.Scopes.{a_parameter, AnObject, AFunction, at_file_scope}
use Rattle.c_erasure.specs.Specifiers.{Storage}
use Rattle.c_erasure.specs.Checking.Declaring.{declared_among, with_bound}
use Rattle.c_erasure.specs.Checking.Files.{library_named, declare_typedef, function_of, declare_own, library_again, links, declare_library}
use Rattle.c_checking_laws.proofs.Results.{bound_ok, given, chosen}
use Rattle.c_checking_laws.proofs.WholeFiles.FileFunctions.{main_type_is}
use Rattle.c_checking_laws.proofs.WholeFiles.FileScopes.{Continues, continues_then, MayDeclare, typedef_declared, IsTheFunction, function_is}
use Rattle.c_checking_laws.proofs.WholeFiles.FileScopes.{IsFunctionDeclared}
use Rattle.c_checking_laws.proofs.WholeFiles.FileScopes.{bound_there, bound_put, first_later}
use Rattle.c_checking_laws.proofs.WholeFiles.Known.{IsFunctionKnown, IsKnown, none_new}
use Rattle.c_checking_laws.proofs.WholeFiles.Names.{declared_is, MayBind}
use Rattle.c_checking_laws.proofs.WholeFiles.Declaring.{IsBoundIn, bind_known}
use Rattle.c_checking_laws.proofs.WholeFiles.DeclaringFunctions.{settle_function}
use Rattle.c_checking_laws.proofs.WholeFiles.Stepping.{Stepped, all_bytes}
use Rattle.c_checking_laws.proofs.WholeFiles.ObjectSteps.{stands_for}
use Rattle.c_checking_laws.proofs.WholeFiles.FunctionSteps.{IsNewFunction, IsOldFunction, function_entered, FunctionInMaking, new_function_in_making}
use Rattle.c_checking_laws.proofs.WholeFiles.FunctionSteps.{old_function_in_making}

no_declares : declares ≢ defines
no_declares e = cc

module _ (nodes_at : ℕ → ℕ) where
  -- one more name, that stands for no object and no function of the file
  pub name_step : (f : FileScope) (b : Bound) (place : ℕ) (A : FileScope → Type 0) → ((n : ℕ) (t : CType) → b.entity ≡ an_object n t → ⊥)
      → ((n : ℕ) (t : CType) → b.entity ≡ a_function n t → ⊥) → ((before : List ℕ) → IsKnown nodes_at before none_new none_new f → MayBind f.names b)
      → IsBoundIn f b → ((h : FileScope) → Continues (with_bound f b) h → A h)
      → Stepped nodes_at (a_name b.from ∷ []) [] (place ∷ []) [] f A (with_bound f b)
  name_step f b place A o n may is holds = record {
    continues = bound_put f b;
    fit = tt;
    names = map-append (λ b. b.from) f.names (b ∷ []);
    records = sym (append-nil _);
    mentions = sym (append-nil _);
    objects = [];
    others = place ∷ [];
    objects_parted = all_bytes (place ∷ []);
    objects_are = sym (append-nil _);
    functions = [];
    no_functions = place ∷ [];
    functions_parted = all_bytes (place ∷ []);
    functions_are = sym (append-nil _);
    known = λ before k. subst (λ made. IsKnown nodes_at made none_new none_new (with_bound f b)) (sym (append-nil before))
        (bind_known nodes_at before none_new none_new none_new none_new f b (λ j h. h) (λ j h. h) o n (may before k) is k);
    holds = λ h c e. holds h c;
    typed = λ h c e n o there. inl there;
  }

  pub typedef_step : (f : FileScope) (x : Spelling) (place from : ℕ) (t : CType) (g : FileScope) → declare_typedef f x from t ≡ Ok g
      → IsOwnName x.text
      × Stepped nodes_at (a_name from ∷ []) [] (place ∷ []) [] f (λ h. IsBound (at_file_scope h) (bound x from defines (typedef t))) g
  typedef_step f x place from t g h =
      let d = typedef_declared f x from t g h in
      let b = bound x from defines (typedef t) in (
        d.own,
        subst (Stepped nodes_at (a_name from ∷ []) [] (place ∷ []) [] f (λ h. IsBound (at_file_scope h) b)) (sym d.file_is)
            (name_step f b place (λ h. IsBound (at_file_scope h) b) (λ n u e. cc) (λ n u e. cc) (λ before k. inl d.is_new)
            (record { fit = tt; object = λ n u e. cc; function = λ n u e. cc; library = λ which e. cc })
            (λ h c. bound_there f h b c.extends)),
      )

  -- ---- functions of the library

  again_is : (which : LibraryFunction) (o : Option Bound) → library_again which o ≡ true → (a : Bound) → o ≡ Some a
      → (other : LibraryFunction) × (a.entity ≡ a_library_function other)
  again_is which None h a e = cc
  again_is which (Some b) h a e = let same : b ≡ a = cc in subst (λ (a : Bound). (other : LibraryFunction) × (a.entity ≡ a_library_function other)) same
      (by_entity b.entity refl)
    where
      by_entity : (e : Entity) → b.entity ≡ e → (other : LibraryFunction) × (b.entity ≡ a_library_function other)
      by_entity (a_library_function other) g = (other, g)
      by_entity (typedef t) g = let f : library_again which (Some b) ≡ false = rw g refl in let false_is_true = sym f ∙ h in cc
      by_entity (enumerator v) g = let f : library_again which (Some b) ≡ false = rw g refl in let false_is_true = sym f ∙ h in cc
      by_entity (an_object n t) g = let f : library_again which (Some b) ≡ false = rw g refl in let false_is_true = sym f ∙ h in cc
      by_entity (a_function n t) g = let f : library_again which (Some b) ≡ false = rw g refl in let false_is_true = sym f ∙ h in cc
      by_entity (a_local n t) g = let f : library_again which (Some b) ≡ false = rw g refl in let false_is_true = sym f ∙ h in cc
      by_entity (a_parameter t) g = let f : library_again which (Some b) ≡ false = rw g refl in let false_is_true = sym f ∙ h in cc

  library_again_is : (f : FileScope) (words : Storage) (x : Spelling) (from : ℕ) (t : CType) (which : LibraryFunction) (g : FileScope)
      → declare_library f words x from t which ≡ Ok g
      → (library_again which (declared_among f.names x.text) ≡ true) × (with_bound f (bound x from declares (a_library_function which)) ≡ g)
  library_again_is f words x from t which g h =
      chosen (same_type t (library_type which) && links words) _ _ g
      ((library_again which (declared_among f.names x.text) ≡ true) × (with_bound f (bound x from declares (a_library_function which)) ≡ g)) h
      (λ b h. chosen (library_again which (declared_among f.names x.text)) _ _ g
      ((library_again which (declared_among f.names x.text) ≡ true) × (with_bound f (bound x from declares (a_library_function which)) ≡ g)) h
      (λ c h. (c, given (λ g. with_bound f (bound x from declares (a_library_function which)) ≡ g) _ g h refl)) (λ c h. cc))
      (λ b h. cc)

  pub library_step : (f : FileScope) (words : Storage) (x : Spelling) (place from : ℕ) (t : CType) (which : LibraryFunction)
      → library_named x.text ≡ Some which → (g : FileScope) → declare_library f words x from t which ≡ Ok g
      → Stepped nodes_at (a_name from ∷ []) [] (place ∷ []) [] f
      (λ h. IsBound (at_file_scope h) (bound x from declares (a_library_function which))) g
  library_step f words x place from t which named g h =
      let d = library_again_is f words x from t which g h in
      let b = bound x from declares (a_library_function which) in
      subst (Stepped nodes_at (a_name from ∷ []) [] (place ∷ []) [] f (λ h. IsBound (at_file_scope h) b)) d.1
      (name_step f b place (λ h. IsBound (at_file_scope h) b) (λ n u e. cc) (λ n u e. cc) (λ before k. may before k d.0 (declared_among f.names x.text) refl)
      (record { fit = tt; object = λ n u e. cc; function = λ n u e. cc; library = λ other e. let i : which ≡ other = cc in named ∙ ap Some i })
      (λ h c. bound_there f h b c.extends))
    where
      may : (before : List ℕ) → IsKnown nodes_at before none_new none_new f → library_again which (declared_among f.names x.text) ≡ true → (o : Option Bound)
          → declared_among f.names x.text ≡ o → MayBind f.names (bound x from declares (a_library_function which))
      may before k again None e = inl e
      may before k again (Some a) e =
          let d = declared_is f.names x.text a e in
          let o = again_is which (declared_among f.names x.text) again a e in
          let l = k.libraries_bound d.0 a d.1 o.0 o.1 in
          let both : Some o.0 ≡ Some which = sym l ∙ ap library_named d.2 ∙ named in
          let same : o.0 ≡ which = cc in
          inr (record {
            first = a;
            declared = e;
            same = o.1 ∙ ap a_library_function same;
            again = tt;
            once = λ d. absurd (no_declares d);
          })

  -- ---- functions of the file

  pub record MayDeclareFunction (f : FileScope) (words : Storage) (place nodes : ℕ) : Type 0 where
    pub may : MayDeclare words
    pub counted : nodes ≡ nodes_at place
    pub objects_before : (n : ℕ) (o : AnObject) → slice_get f.objects n ≡ Some o → o.first < place
    pub functions_before : (n : ℕ) (g : AFunction) → slice_get f.functions n ≡ Some g → g.first < place

  pub function_step : (before : List ℕ) (f : FileScope) (words : Storage) (x : Spelling) (place from : ℕ) (t : CType) (nodes : ℕ)
      → MayDeclareFunction f words place nodes → IsKnown nodes_at before none_new none_new f → (g : FileScope)
      → declare_own f words x place from t nodes ≡ Ok g
      → Stepped nodes_at (a_name from ∷ []) [] (place ∷ []) [] f
      (IsFunctionDeclared words x place from t (is_none (declared_among f.names x.text))) g
  function_step before f words x place from t nodes may k g h =
      let p = main_type_is x.text x.from t _ g h in
      let n = bound_ok (function_of f words x place t nodes (declared_among f.names x.text)) _ g p.0 in
      let v = function_is f words may.may x place t nodes (declared_among f.names x.text)
      (stands_for nodes_at before f x place k may.objects_before may.functions_before) n.0 n.1 in
      let e = function_entered f words x place t nodes (declared_among f.names x.text) refl n.0 n.1 in
      let b = bound x from declares (a_function n.0.0 t) in
      let i = in_making p.1 e v before k in
      let names : n.0.1.names ≡ f.names = ap (λ (g : FileScope). g.names) i.same in
      given (Stepped nodes_at (a_name from ∷ []) [] (place ∷ []) [] f (IsFunctionDeclared words x place from t (is_none (declared_among f.names x.text))))
      (with_bound n.0.1 b) g n.2 (record {
        continues = continues_then v.continues (bound_put n.0.1 b);
        fit = tt;
        names = map-append (λ b. b.from) n.0.1.names (b ∷ []) ∙ ap (λ all. map (λ b. b.from) all ++ from ∷ []) names;
        records = ap (λ (g : FileScope). map (λ r. r.tag) g.records) i.same ∙ sym (append-nil _);
        mentions = ap (λ (g : FileScope). map (λ m. m.at) g.mentions) i.same ∙ sym (append-nil _);
        objects = [];
        others = place ∷ [];
        objects_parted = all_bytes (place ∷ []);
        objects_are = ap (λ (g : FileScope). map (λ o. o.first) g.objects) i.same ∙ sym (append-nil _);
        functions = i.functions;
        no_functions = i.others;
        functions_parted = i.parted;
        functions_are = i.functions_are;
        known = λ before k. known_after n.0 v before k (in_making p.1 e v before k);
        holds = λ h c e.
            let q = (continues_then (bound_put n.0.1 b) c).functions n.0.0 v.function v.stands in
            record {
              number = n.0.0;
              function = q.0;
              stands = q.1;
              name = q.2.name ∙ v.name;
              ty = q.2.ty ∙ v.ty;
              linkage = subst (IsLinkage (function_storage words) (is_none (declared_among f.names x.text))) (sym q.2.is_linked) v.linkage;
              first_place = first_later (is_none (declared_among f.names x.text)) q.0.first v.function.first place q.2.first v.first_place;
              binds = bound_there n.0.1 h b c.extends;
            };
        typed = λ h c e m o there. inl (subst (λ (g : FileScope). slice_get g.objects m ≡ Some o) i.same there);
      })
    where
      in_making : IsMainType x.text t → {n : ℕ × FileScope} → IsNewFunction f words x place t nodes n ⊎ IsOldFunction f x t n
          → (v : IsTheFunction f words x place t (is_none (declared_among f.names x.text)) n) → (b : List ℕ) → IsKnown nodes_at b none_new none_new f
          → FunctionInMaking nodes_at b f x place t declares from n.0 n.1 v.function
      in_making main {n} (inl e) v b k = new_function_in_making nodes_at b f words may.may x place t nodes declares from may.counted main k n e v
      in_making main {n} (inr e) v b k = old_function_in_making nodes_at b f words x place t declares from (λ d. absurd (no_declares d)) k n e v

      known_after : (n : ℕ × FileScope) → (v : IsTheFunction f words x place t (is_none (declared_among f.names x.text)) n) → (before : List ℕ)
          → IsKnown nodes_at before none_new none_new f → FunctionInMaking nodes_at before f x place t declares from n.0 n.1 v.function
          → IsKnown nodes_at (before ++ []) none_new none_new (with_bound n.1 (bound x from declares (a_function n.0 t)))
      known_after n v before k i =
          let b = bound x from declares (a_function n.0 t) in
          let d = i.as_declared no_declares in
          let file : f.file ≡ n.1.file = sym (ap (λ (g : FileScope). g.file) i.same) in
          let names : f.names ≡ n.1.names = sym (ap (λ (g : FileScope). g.names) i.same) in
          let there = subst (λ names. IsFunctionKnown nodes_at n.1.file (names ++ b ∷ []) n.0 v.function) names
          (subst (λ file. IsFunctionKnown nodes_at file (f.names ++ b ∷ []) n.0 v.function) file d) in
          subst (λ made. IsKnown nodes_at made none_new none_new (with_bound n.1 b)) (sym (append-nil before))
          (settle_function nodes_at before none_new (with_bound n.1 b) n.0 v.function v.stands there i.known)
