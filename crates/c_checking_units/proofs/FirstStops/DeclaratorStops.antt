-- Where a declarator of the file scope stops, a rule is broken (C99 6.7, 6.9).
use Rattle.std.proofs.Common.{◌≡◌, ◌≢◌, ℕ, zero, suc, true, false, refl, sym, ap, ◌∙◌, cond, List}
use Rattle.std.proofs.Common.{inl, inr}
use Rattle.std.specs.Prelude.{◌⊎◌, Option, Some, None, Err}
use Rattle.lay_base.specs.declared.faults.Rule.TheVariants as R
use Rattle.c_types.specs.Objects.{is_object}
use Rattle.c_types.specs.Types.{CType, array}
use Rattle.c_ast.specs.declared.words.Spelling.{Spelling}
use Rattle.c_ast.specs.Trees
use Rattle.c_ast.specs.Places.{first}
use Rattle.c_erasure.specs.Broken.{IsTooBig}
use Rattle.c_erasure.specs.Initializers.{texts_of, length_of}
use Rattle.c_erasure.specs.Scopes.{Scope}
use Rattle.c_erasure.specs.Checking.Statements.{counted_array}
use Rattle.c_typed.specs.Conversions.{is_function}
use Rattle.c_typed.specs.Fits.{library_type}
use Rattle.c_typed.specs.declared.operators.LibraryFunction.{LibraryFunction}
use Rattle.c_typed.specs.declared.operators.LibraryFunction.TheVariants as L
use Rattle.c_typed.specs.declared.program.MentionKind.TheVariants.{Object, Named}
use Rattle.c_erasure.specs.Broken.{Fault, ill_typed}
use Rattle.c_erasure.specs.BrokenFiles.{IsAny, IsOld, IsDefinition, IsBrokenLibrary, IsBrokenMain, IsOtherwise, IsDefinedThere}
use Rattle.c_erasure.specs.BrokenFiles.{IsBrokenFileDeclarator}
use Rattle.c_erasure.specs.BrokenStatements.{IsEndless, IsBrokenInitial, HasNoConstants}
use Rattle.c_erasure.specs.Declarators.{declared_name, Shape, closed, open_array}
use Rattle.c_erasure.specs.Erasure.{Declares}
use Rattle.c_erasure.specs.Files.{may_stand_in_file, is_first}
use Rattle.c_erasure.specs.Scopes.{FileScope, at_file_scope, ended}
use Rattle.c_erasure.specs.Specifiers.{Storage, no_storage, a_typedef, is_extern, is_static, is_auto, is_register, several}
use Rattle.c_erasure.specs.Statements.{IsSized}
use Rattle.c_erasure.specs.Checking.Answers.{◌>>=◌}
use Rattle.c_erasure.specs.Checking.Declaring.{with_mention, object_at, declared_among}
use Rattle.c_erasure.specs.Checking.Files.{library_named, links, declare_typedef, declare_function, declare_own, declare_library, declare_object}
use Rattle.c_erasure.specs.Checking.Files.{without_value}
use Rattle.c_erasure.specs.Checking.Files.{declare_as, function_of}
use Rattle.c_erasure.specs.Checking.Finding.{complete}
use Rattle.c_erasure.specs.Checking.Statements.{sized_in}
use Rattle.c_checking_laws.proofs.Agreement.{AreBegun}
use Rattle.c_checking_laws.proofs.Extends.{Extends}
use Rattle.c_checking_laws.proofs.FaultDeclaring.{small_fault}
use Rattle.c_checking_laws.proofs.FaultResults.{same_fault, bound_err}
use Rattle.c_checking_laws.proofs.WholeFiles.FileScopes.{MayDeclare}
use Rattle.c_checking_laws.proofs.WholeFiles.Kept.{undeclared}
use Rattle.c_checking_laws.proofs.WholeFiles.Locals.{IsSizedOver}
use Rattle.c_checking_laws.proofs.WholeFiles.FirstNames.{none_visible}
use Rattle.c_checking_laws.proofs.WholeFiles.Known.{IsKnown, none_new}
use Rattle.c_checking_units.proofs.FirstStops.Tests.{named_is, own_fault, once_fault, value_fault, main_function_fault, IsTaken, IsTakenOtherwise}
use Rattle.c_checking_units.proofs.FirstStops.Tests.{old_of, otherwise_of, taken_by, function_of_fault, AreOwnFunctions}
use Rattle.c_checking_units.proofs.FirstStops.Tests.{library_fault}

-- the rules of a declarator whose type is known
abbrev pub IsRuled : FileScope → Storage → Trees.InitDeclarator → Spelling → CType → (from : ℕ) → Fault → Type 0
IsRuled f words d x t from fault = ((fault ≡ ill_typed R.Library x.from) × IsBrokenLibrary words t x.text)
    ⊎ ((fault ≡ ill_typed R.Main x.from) × IsBrokenMain f words t x)
    ⊎ ((fault ≡ ill_typed R.Incomplete x.from) × (words ≢ a_typedef) × (is_function t ≡ false) × (is_object (ended f.ends x.from) t ≡ false))
    ⊎ ((fault ≡ ill_typed R.Init x.from) × (d.value ≢ None) × ((words ≡ a_typedef) ⊎ (is_function t ≡ true)))
    ⊎ IsOtherwise f words t x from fault
    ⊎ ((d.value ≢ None) × IsOld f x from IsDefinition fault)
    ⊎ (IsDefinedThere f x t d.value × (IsBrokenInitial d.value (at_file_scope f) t fault ⊎ HasNoConstants d.value (at_file_scope f) t fault))

-- what is known of the declarator in a file, and in those that go on from it
pub record IsShaped (f : FileScope) (base : CType) (d : Trees.InitDeclarator) (x : Spelling) (t : CType) : Type 0 where
  pub name : declared_name d.declarator ≡ Some x
  pub shape : Shape
  pub declares : (g : FileScope) → Extends f g → Declares (at_file_scope g) d.declarator base shape
  pub sized : IsSizedOver f.records shape d.value t

module _ (f : FileScope) (words : Storage) (base : CType) (d : Trees.InitDeclarator) (x : Spelling) (t : CType) (from : ℕ) (fault : Fault)
    (name : declared_name d.declarator ≡ Some x) (shape : Shape) (declares : Declares (at_file_scope f) d.declarator base shape)
    (sized : IsSized (at_file_scope f) shape d.value t) where
  pub ruled_here : IsRuled f words d x t from fault → IsBrokenFileDeclarator f words base d from fault
  ruled_here r = inr (x, shape, name, declares, inr (t, sized, r))

  pub taken_here : AreBegun f.names from → IsTakenOtherwise f words t x fault → IsBrokenFileDeclarator f words base d from fault
  taken_here begun r = ruled_here (inr (inr (inr (inr (inl (otherwise_of f words t x from fault begun r))))))

  pub twice_here : AreBegun f.names from → d.value ≢ None → IsTaken f x IsDefinition fault → IsBrokenFileDeclarator f words base d from fault
  twice_here begun some r = ruled_here (inr (inr (inr (inr (inr (inl (some, old_of f x from IsDefinition fault begun r)))))))

-- ---- lengths that are left to an initializer

counted_fault : (s : Scope) (at : ℕ) (u : CType) (n : ℕ) (fault : Fault) → counted_array s.file.records at u n ≡ Err fault
    → ((n ≡ 0) × (fault ≡ ill_typed R.Init at)) ⊎ IsTooBig s (array u n) at fault
counted_fault s at u zero fault h = inl (refl, same_fault CType (ill_typed R.Init at) fault h)
counted_fault s at u (suc n) fault h = inr (small_fault s at (array u (suc n)) fault h)

pub sized_fault : (s : Scope) (at : ℕ) (shape : Shape) (value : Option (ℕ × Trees.Expression)) (fault : Fault)
    → sized_in s.file.records at shape value ≡ Err fault
    → IsEndless s shape value at fault
unfolding sized_in
sized_fault s at (closed t) value fault h = cc
sized_fault s at (open_array u) None fault h = same_fault CType (ill_typed R.Length at) fault h
sized_fault s at (open_array u) (Some value) fault h = counted_fault s (first value.1) u (length_of u (texts_of value.1) value.1) fault h

pub sized_here : (s : Scope) (shape : Shape) (value : Option (ℕ × Trees.Expression)) (t : CType) → IsSizedOver s.file.records shape value t
    → IsSized s shape value t
sized_here s (closed u) value t h = h
sized_here s (open_array u) None t h = h
sized_here s (open_array u) (Some value) t h = h

-- ---- a name that is declared nowhere is the first

first_name : (f : FileScope) (x : Spelling) → declared_among f.names x.text ≡ None → is_first f x ≡ true
first_name f x h = none_visible f.names x.text x.from (λ k b e n. absurd (undeclared f.names x.text h k b e n))

pub no_typedef : (words : Storage) → MayDeclare words → words ≢ a_typedef
no_typedef no_storage m e = cc
no_typedef is_extern m e = cc
no_typedef is_static m e = cc
no_typedef a_typedef m e = m
no_typedef is_auto m e = cc
no_typedef is_register m e = cc
no_typedef several m e = cc

pub main_linked : (f : FileScope) (words : Storage) → MayDeclare words → (x : Spelling) → links words ≡ true → declared_among f.names x.text ≡ None
    → (words ≡ no_storage) ⊎ ((words ≡ is_extern) × (is_first f x ≡ true))
main_linked f no_storage m x l n = inl refl
main_linked f is_extern m x l n = inr (refl, first_name f x n)
main_linked f is_static m x l n = cc
main_linked f a_typedef m x l n = absurd m
main_linked f is_auto m x l n = absurd m
main_linked f is_register m x l n = absurd m
main_linked f several m x l n = absurd m

library_functions : (which : LibraryFunction) → is_function (library_type which) ≡ true
library_functions L.Malloc = refl
library_functions L.Calloc = refl
library_functions L.Free = refl
library_functions L.Memcpy = refl
library_functions L.Memmove = refl
library_functions L.Memset = refl
library_functions L.Memcmp = refl
library_functions L.Putchar = refl
library_functions L.Getchar = refl
library_functions L.Exit = refl

pub no_library_type : (t : CType) → is_function t ≡ false → (which : LibraryFunction) → t ≢ library_type which
no_library_type t h which e =
    let true_is_false : true ≡ false = sym (library_functions which) ∙ ap is_function (sym e) ∙ h in
    cc

-- storage classes that may stand at file scope
pub by_storage : (words : Storage) → may_stand_in_file words ≡ true → (words ≡ a_typedef) ⊎ MayDeclare words
by_storage a_typedef m = inl refl
by_storage no_storage m = inr tt
by_storage is_extern m = inr tt
by_storage is_static m = inr tt
by_storage is_auto m = cc
by_storage is_register m = cc
by_storage several m = cc

pub declared_as : (words : Storage) → MayDeclare words
    → (before place from : ℕ) (x : Spelling) (t : CType) (d : Trees.InitDeclarator) (nodes : ℕ) (f : FileScope)
    → declare_as words before place from x t d nodes f
    ≡ cond (is_function t) (without_value x.from d.value (declare_function (with_mention
    (at_file_scope f) before Named t place f) words x place from t nodes
    (library_named x.text)))
    (object_at f.records (complete (at_file_scope f) x.from) x.from t
    >>= λ u. declare_object (with_mention (at_file_scope f) before Object u place f) words x place from u d.value)
declared_as no_storage m before place from x t d nodes f = refl
declared_as is_extern m before place from x t d nodes f = refl
declared_as is_static m before place from x t d nodes f = refl
declared_as a_typedef m before place from x t d nodes f = absurd m
declared_as is_auto m before place from x t d nodes f = absurd m
declared_as is_register m before place from x t d nodes f = absurd m
declared_as several m before place from x t d nodes f = absurd m

-- ---- typedefs and functions stop at once, in a file that has spoken of the type

module _ (f : FileScope) (base : CType) (d : Trees.InitDeclarator) (x : Spelling) (t : CType) (name : declared_name d.declarator ≡ Some x)
    (shape : Shape)
    (declares : Declares (at_file_scope f) d.declarator base shape) (sized : IsSized (at_file_scope f) shape d.value t) (from : ℕ) (begun : AreBegun f.names from) (fault : Fault) where
  pub typedef_stops : without_value x.from d.value (declare_typedef f x from t) ≡ Err fault → IsBrokenFileDeclarator f a_typedef base d from fault
  typedef_stops h =
      value_fault x.from d.value (declare_typedef f x from t) fault (IsBrokenFileDeclarator f a_typedef base d from fault) h
      (λ is some. ruled_here f a_typedef base d x t from fault name shape declares sized (inr (inr (inr (inl (is, some, inl refl))))))
      (λ none h. own_fault x.from (library_named x.text) _ fault (IsBrokenFileDeclarator f a_typedef base d from fault) h
      (λ which e is. ruled_here f a_typedef base d x t from fault name shape declares sized (inl (is, (which, named_is x.text which e, inl refl))))
      (λ own h. once_fault x (declared_among f.names x.text) _ fault (IsBrokenFileDeclarator f a_typedef base d from fault) h
      (λ old e is. taken_here f a_typedef base d x t from fault name shape declares sized begun (taken_by f x IsAny fault old e tt is))
      (λ e h. cc)))

  module _ (nodes_at : ℕ → ℕ) (before : List ℕ) (k : IsKnown nodes_at before none_new none_new f) (own_functions : AreOwnFunctions f.names)
      (words : Storage) (m : MayDeclare words) (is_one : is_function t ≡ true) where
    own_stops : (place nodes : ℕ) → library_named x.text ≡ None → declare_own f words x place from t nodes ≡ Err fault
        → IsBrokenFileDeclarator f words base d from fault
    own_stops place nodes own h =
        main_function_fault x.text x.from t _ fault (IsBrokenFileDeclarator f words base d from fault) h
        (λ is main other. ruled_here f words base d x t from fault name shape declares sized
        (inr (inl (is, (main, inl (no_typedef words m, is_one, other))))))
        (λ main_type h. bound_err (function_of f words x place t nodes (declared_among f.names x.text)) _ fault (IsBrokenFileDeclarator f words base d from fault) h
        (λ e. taken_here f words base d x t from fault name shape declares sized begun
        (function_of_fault f words m x place t nodes is_one k.functions_bound k.libraries_bound own (declared_among f.names x.text) refl fault e))
        (λ n e h. cc))

    library_stops : (which : LibraryFunction) → library_named x.text ≡ Some which → declare_library f words x from t which ≡ Err fault
        → IsBrokenFileDeclarator f words base d from fault
    library_stops which named h = by_part (library_fault f words m x from t which is_one named own_functions fault h)
      where
        by_part : ((fault ≡ ill_typed R.Library x.from) × IsBrokenLibrary words t x.text) ⊎ IsTakenOtherwise f words t x fault
            → IsBrokenFileDeclarator f words base d from fault
        by_part (inl b) = ruled_here f words base d x t from fault name shape declares sized (inl b)
        by_part (inr b) = taken_here f words base d x t from fault name shape declares sized begun b

    pub function_stops : (place nodes : ℕ)
        → without_value x.from d.value (declare_function f words x place from t nodes (library_named x.text)) ≡ Err fault
        → IsBrokenFileDeclarator f words base d from fault
    function_stops place nodes h =
        value_fault x.from d.value _ fault (IsBrokenFileDeclarator f words base d from fault) h
        (λ is some. ruled_here f words base d x t from fault name shape declares sized (inr (inr (inr (inl (is, some, inr is_one))))))
        (λ none h. by_name (library_named x.text) refl h)
      where
        by_name : (o : Option LibraryFunction) → library_named x.text ≡ o → declare_function f words x place from t nodes o ≡ Err fault
            → IsBrokenFileDeclarator f words base d from fault
        by_name None e h = own_stops place nodes e h
        by_name (Some which) e h = library_stops which e h
