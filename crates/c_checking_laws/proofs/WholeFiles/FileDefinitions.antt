-- A definition of a function stands for its item in each later file (C99 6.9.1).
use Rattle.std.proofs.Common.{◌≡◌, ℕ, sym, subst, List}
use Rattle.std.specs.Prelude.{◌⊎◌, Some, Ok, is_none}
use Rattle.c_types.specs.Types.{CType, CTypes, function}
use Rattle.c_ast.specs.declared.words.Spelling.{Spelling}
use Rattle.c_ast.specs.Trees
use Rattle.c_ast.specs.Places.{first_declarator}
use Rattle.c_typed.specs.declared.program.MentionKind.TheVariants.{Named}
use Rattle.c_erasure.specs.Declarators.{declared_name, closed}
use Rattle.c_erasure.specs.Erasure.{IsBound}
use Rattle.c_erasure.specs.Files.{is_first, IsLinkage, IsFirst, IsDefined, function_storage, parameters_of, bound}
use Rattle.c_erasure.specs.Marks.{marks_of_declarator}
use Rattle.c_erasure.specs.Scopes.{FileScope, a_function, defines, at_file_scope}
use Rattle.c_erasure.specs.Specifiers.{no_storage, is_extern, is_static, storage_of}
use Rattle.c_erasure.specs.Checking.Declaring.{declared_among, with_mention, mentions_in, Derivation, derived}
use Rattle.c_erasure.specs.Checking.Files.{Received}
use Rattle.c_erasure.specs.Checking.Finding.{derivations}
use Rattle.c_checking_laws.proofs.Extends.{Extends, further}
use Rattle.c_checking_laws.proofs.Agreement.{Ready}
use Rattle.c_checking_laws.proofs.InRange.{IsDeclaratorInRange}
use Rattle.c_checking_laws.proofs.Declared.{is_mentioned, before_mention}
use Rattle.c_checking_laws.proofs.FoundTypes.{FoundBase}
use Rattle.c_checking_laws.proofs.Sound.{sound_steps}
use Rattle.c_checking_laws.proofs.WholeFiles.FileScopes.{Continues}
use Rattle.c_checking_laws.proofs.WholeFiles.FileFunctions.{FoundFunction, IsFunctionDefined}

module _ (untagged : ℕ → List ℕ) (f : FileScope) (specs : Trees.Specifiers) (d : Trees.Declarator) (x : Spelling) (result : CType) (types : CTypes)
    (base : CType × FileScope) (steps : List Derivation × FileScope) where
  abbrev place_of : ℕ
  place_of = first_declarator d x.from

  -- the file that has spoken of the function's type
  abbrev pub spoken_of : FileScope
  spoken_of = with_mention (at_file_scope base.1) (mentions_in base.1) Named (function result types) place_of steps.1

  pub definition_stands : (left nodes : ℕ) (items : Trees.BlockItems) → declared_name d ≡ Some x
      → (storage_of specs ≡ no_storage) ⊎ (storage_of specs ≡ is_extern) ⊎ (storage_of specs ≡ is_static)
      → FoundBase untagged (at_file_scope f) specs base → IsDeclaratorInRange d → Ready (at_file_scope base.1) (marks_of_declarator untagged d)
      → derivations d (at_file_scope base.1) ≡ Ok steps → derived steps.1.records steps.0 base.0 ≡ Ok (closed (function result types)) → (p : Received) (g : FileScope)
      → FoundFunction untagged spoken_of (storage_of specs) x place_of left nodes result types (parameters_of d) items p g → (h : FileScope) → Continues g h
      → IsFunctionDefined untagged (storage_of specs) x place_of left nodes result types (parameters_of d) items
      (is_none (declared_among spoken_of.names x.text)) h
      → is_first h x ≡ is_none (declared_among spoken_of.names x.text) → IsDefined h specs d left items nodes
  definition_stands left nodes items name words b n r is_steps is_shape p g o later c q first =
      let s = at_file_scope base.1 in
      let v = sound_steps untagged d s n r steps is_steps in
      let back : Extends spoken_of later = further o.continues.extends c.extends in
      let before = before_mention s steps.1 later (mentions_in base.1) Named (function result types) place_of back in (
        base.0,
        result,
        types,
        x,
        q.number,
        q.the_function,
        q.bounds,
        b.holds later (further v.grew.extends before),
        name,
        words,
        v.holds later before steps.1.records before.records.0 before.records.1 base.0 (closed (function result types)) is_shape,
        o.own,
        is_mentioned s steps.1 later (mentions_in base.1) Named (function result types) place_of back,
        q.stands,
        q.name,
        q.ty,
        q.nodes_are,
        q.place_is,
        subst (λ b. IsLinkage (function_storage (storage_of specs)) b q.the_function.is_linked) (sym first) q.linkage,
        subst (λ b. IsFirst b q.the_function.first place_of) (sym first) q.first_place,
        subst (λ t. IsBound (at_file_scope later) (bound x left defines (a_function q.number t))) (sym q.ty) q.binds,
        q.parameters,
        q.body,
      )
