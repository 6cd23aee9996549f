-- Declarations of the file scope: what they declare is what is found (C99 6.7).
use Rattle.std.proofs.Common.{◌≡◌, ◌≢◌, ℕ, Bool, true, false, refl, sym, ap, ◌∙◌, cond, List, [], ◌∷◌, length, inl, inr}
use Rattle.std.specs.Prelude.{◌⊎◌, ◌&&◌, not, Ok}
use Rattle.lay_base.specs.declared.faults.Rule.TheVariants as R
use Rattle.c_types.specs.Types.{CType}
use Rattle.c_ast.specs.Places.{first_specifiers}
use Rattle.c_ast.specs.Trees
use Rattle.c_ast.specs.WellFormed.{IsDeclaration, AreSpecifiers}
use Rattle.c_erasure.specs.Erasure.{IsBase, IsOne}
use Rattle.c_erasure.specs.Files.{declares_tag, DeclaresSomething, ErasesItem}
use Rattle.c_erasure.specs.Scopes.{FileScope, at_file_scope}
use Rattle.c_erasure.specs.Specifiers.{storage_of}
use Rattle.c_erasure.specs.Checking.Answers.{◌>>=◌, refused}
use Rattle.c_erasure.specs.Checking.Declaring.{base_kind}
use Rattle.c_erasure.specs.Checking.Files.{is_empty, file_declarators, file_declaration}
use Rattle.c_erasure.specs.Checking.Finding.{base_type, one_of}
use Rattle.c_checking_laws.proofs.CompleteDeclarators.{base_complete}
use Rattle.c_checking_laws.proofs.CompletePart.{Lists, part}
use Rattle.c_checking_laws.proofs.CompleteTrees.{complete_one}
use Rattle.c_checking_laws.proofs.CompleteWalk.{walk_of_specifiers}
use Rattle.c_checking_laws.proofs.WholeFiles.Keeping.{keep_base}
use Rattle.c_checking_units.proofs.Declarators.{steps_of_declarators, declarators_found}
use Rattle.c_checking_units.proofs.Filed.{IsWholeFile}
use Rattle.c_checking_units.proofs.Names.{keeps_filed}
use Rattle.c_checking_units.proofs.ObjectDeclarators.{FoundFile}
use Rattle.c_checking_units.proofs.Steps.{Step, events, steps_at, At, IsReady}

something_declared : (d : Trees.Declaration) → DeclaresSomething d → (is_empty d.all && not (declares_tag d.specs)) ≡ false
something_declared d h = by_list d.all refl h
  where
    by_tag : (b : Bool) → (b && false) ≡ false
    by_tag true = refl
    by_tag false = refl

    by_list : (all : List Trees.InitDeclarator) → d.all ≡ all → (d.all ≢ []) ⊎ (declares_tag d.specs ≡ true)
        → (is_empty all && not (declares_tag d.specs)) ≡ false
    by_list (one ∷ more) e h = refl
    by_list [] e (inl h) = absurd (h e)
    by_list [] e (inr h) = ap (λ b. true && not b) h

module _ (g : FileScope) (w : IsWholeFile g) where
  pub record FoundBase (c : Lists) (specs : Trees.Specifiers) (t : CType) (rest : List Step) : Type 0 where
    pub lists : Lists
    pub is : base_type (base_kind specs) (first_specifiers specs) (part g c) (one_of specs (at_file_scope (part g c))) ≡ Ok (t, part g lists)
    pub ready : IsReady g lists rest

  pub base_found : (types : List (List ℕ)) (specs : Trees.Specifiers) (c : Lists) (t : CType) (rest : List Step) → AreSpecifiers types specs
      → IsReady g c (events (At (walk_of_specifiers g.untagged specs)) ∷ rest) → IsBase (IsOne (at_file_scope g) specs) specs t → FoundBase c specs t rest
  base_found types specs c t rest formed ready h =
      let z = base_complete g w.whole [] specs (complete_one g w.whole [] specs) (at_file_scope g) c t (λ x e i. cc)
      (record { extends = ready.filed.extends; follows = ready.steps.0 }) h in
      let kept = keep_base g.untagged types specs (at_file_scope (part g c)) refl (λ i. formed) (first_specifiers specs) (t, part g z.lists) z.is in
      let a = z.after in
      record {
        lists = z.lists;
        is = z.is;
        ready = record {
          filed = keeps_filed g c z.lists false _ ready.filed a.extends kept;
          steps = steps_at g _ _ _ (length c.functions) (length z.lists.names) (length z.lists.records) (length z.lists.objects)
              (length z.lists.functions) rest (sym a.names) (sym a.records) (sym a.objects) (sym (ap length a.functions)) ready.steps.1;
        };
      }

  abbrev pub steps_of_declaration : Trees.Declaration → List Step → List Step
  steps_of_declaration d rest = events (At (walk_of_specifiers g.untagged d.specs)) ∷ steps_of_declarators g w d.all d.semicolon rest

  pub declaration_found : (types : List (List ℕ)) (d : Trees.Declaration) (nodes : ℕ) (c : Lists) (rest : List Step) → IsDeclaration types d
      → IsReady g c (steps_of_declaration d rest) → ErasesItem g (Trees.declaration d) → FoundFile g w (file_declaration d (part g c) nodes) rest
  declaration_found types d nodes c rest formed ready h =
      let b = base_found types d.specs c h.0 (steps_of_declarators g w d.all d.semicolon rest) formed.0 ready h.2 in
      let z = declarators_found g w types true (storage_of d.specs) h.0 d.all d.semicolon nodes b.lists rest formed.1 b.ready h.4 in
      let some = something_declared d h.3 in
      record {
        lists = z.lists;
        is = ap (λ k. cond k (base_type (base_kind d.specs) (first_specifiers d.specs) (part g c) (one_of d.specs (at_file_scope (part g c)))
            >>= λ b. cond (is_empty d.all && not (declares_tag d.specs)) (refused R.Specifiers (first_specifiers d.specs))
            (file_declarators d.all b.1 (storage_of d.specs) b.0 d.semicolon nodes)) (refused R.Specifiers (first_specifiers d.specs))) h.1
            ∙ ap (λ r. r >>= λ b. cond (is_empty d.all && not (declares_tag d.specs)) (refused R.Specifiers (first_specifiers d.specs))
            (file_declarators d.all b.1 (storage_of d.specs) b.0 d.semicolon nodes)) b.is
            ∙ ap (λ k. cond k (refused R.Specifiers (first_specifiers d.specs))
            (file_declarators d.all (part g b.lists) (storage_of d.specs) h.0 d.semicolon nodes)) some ∙ z.is;
        ready = z.ready;
      }
