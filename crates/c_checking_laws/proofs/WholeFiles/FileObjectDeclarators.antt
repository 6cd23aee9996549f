-- Objects that a declarator of the file scope declares and may define (C99 6.9.2).
use Rattle.std.proofs.Common.{◌≡◌, ℕ, Bool, true, refl, sym, subst, List, length}
use Rattle.std.specs.Prelude.{Option, Some, None, Ok, slice_get, is_none}
use Rattle.c_types.specs.Objects.{is_object}
use Rattle.c_types.specs.Types.{CType, Record}
use Rattle.c_ast.specs.declared.words.Spelling.{Spelling}
use Rattle.c_ast.specs.Trees
use Rattle.c_erasure.specs.Erasure.{IsBound}
use Rattle.c_typed.specs.declared.program.MentionKind.TheVariants.{Object}
use Rattle.c_ast.specs.Places.{first_declarator}
use Rattle.c_erasure.specs.Declarators.{Shape}
use Rattle.c_erasure.specs.Files.{is_first, IsObject, IsOwnName, IsLinkage, IsFirst, IsDefinition, object_how, bound}
use Rattle.c_erasure.specs.Marks.{marks_of_declarator}
use Rattle.c_erasure.specs.Scopes.{FileScope, AnObject, an_object, at_file_scope, ended}
use Rattle.c_erasure.specs.Specifiers.{Storage}
use Rattle.c_erasure.specs.Checking.Declaring.{declared_among, with_mention, mentions_in, Derivation, derived, object_at}
use Rattle.c_erasure.specs.Checking.Finding.{derivations}
use Rattle.c_erasure.specs.Checking.Nodes.{is_complete}
use Rattle.c_erasure.specs.Checking.Statements.{sized_in}
use Rattle.c_checking_laws.proofs.Results.{given, only_if}
use Rattle.c_checking_laws.proofs.Extends.{Extends, further}
use Rattle.c_checking_laws.proofs.Agreement.{Ready}
use Rattle.c_checking_laws.proofs.InRange.{IsDeclaratorInRange}
use Rattle.c_checking_laws.proofs.NodesOfParts.{complete_is}
use Rattle.c_checking_laws.proofs.Declared.{is_mentioned, before_mention}
use Rattle.c_checking_laws.proofs.Sound.{sound_steps}
use Rattle.c_checking_laws.proofs.WholeFiles.Locals.{IsSizedOver, sized_so, sized_later}
use Rattle.c_checking_laws.proofs.WholeFiles.FileScopes.{Continues}

module _ (untagged : ℕ → List ℕ) where
  -- an object of a later file
  pub record IsObjectDeclared (words : Storage) (x : Spelling) (place from : ℕ) (t : CType) (value : Option (ℕ × Trees.Expression)) (first : Bool)
      (h : FileScope) : Type 0 where
    pub number : ℕ
    pub object : AnObject
    pub stands : slice_get h.objects number ≡ Some object
    pub name : object.name ≡ x.text
    pub ty : object.ty ≡ t
    pub literal : object.literal ≡ None
    pub linkage : IsLinkage words first object.is_linked
    pub first_place : IsFirst first object.first place
    pub binds : IsBound (at_file_scope h) (bound x from (object_how words value) (an_object number t))
    pub defined : IsDefinition (at_file_scope h) place t value object

-- an object is complete, also in the list of records
object_whole : (records : List Record) (count at : ℕ) (t u : CType) → object_at records count at t ≡ Ok u
    → (is_object count u ≡ true) × (is_object (length records) u ≡ true) × (t ≡ u)
unfolding object_at
object_whole records count at t u h =
    let c = only_if (is_complete records count t) _ _ _ u h in
    let d = complete_is records count t c.0 in
    given (λ u. (is_object count u ≡ true) × (is_object (length records) u ≡ true) × (t ≡ u)) t u c.1 (d.0, d.1, refl)

module _ (untagged : ℕ → List ℕ) (f : FileScope) (d : Trees.InitDeclarator) (x : Spelling) (u : CType) (steps : List Derivation × FileScope) where
  abbrev place_of : ℕ
  place_of = first_declarator d.declarator x.from

  -- the file that has spoken of the object's type
  abbrev pub spoken_of : FileScope
  spoken_of = with_mention (at_file_scope f) (mentions_in f) Object u place_of steps.1

  pub object_found : (words : Storage) (base : CType) (from : ℕ) → IsDeclaratorInRange d.declarator
      → Ready (at_file_scope f) (marks_of_declarator untagged d.declarator) → derivations d.declarator (at_file_scope f) ≡ Ok steps → (shape : Shape)
      → derived steps.1.records steps.0 base ≡ Ok shape → (t : CType) → sized_in steps.1.records x.from shape d.value ≡ Ok t
      → object_at steps.1.records (ended f.ends x.from) x.from t ≡ Ok u → (g : FileScope)
      → IsOwnName x.text → Continues spoken_of g → (h : FileScope) → Continues g h
      → IsObjectDeclared untagged words x place_of from u d.value (is_none (declared_among spoken_of.names x.text)) h
      → is_first h x ≡ is_none (declared_among spoken_of.names x.text) → IsObject h words base d x place_of from
  object_found words base from n r is_steps shape is_shape t is_sized is_object_type g own o later c q first =
      let s = at_file_scope f in
      let v = sound_steps untagged d.declarator s n r steps is_steps in
      let k = object_whole steps.1.records (ended f.ends x.from) x.from t u is_object_type in
      let back : Extends spoken_of later = further o.extends c.extends in
      let before = before_mention s steps.1 later (mentions_in f) Object u place_of back in (
        shape,
        u,
        q.number,
        q.object,
        v.holds later before steps.1.records before.records.0 before.records.1 base shape is_shape,
        sized_later before (at_file_scope later) refl shape d.value u k.1
            (subst (IsSizedOver steps.1.records shape d.value) k.2 (sized_so steps.1.records x.from shape d.value t is_sized)),
        subst (λ ends. is_object (ended ends x.from) u ≡ true) (sym (further v.grew.extends before).ends) k.0,
        own,
        is_mentioned s steps.1 later (mentions_in f) Object u place_of back,
        q.stands,
        q.name,
        q.ty,
        q.literal,
        subst (λ b. IsLinkage words b q.object.is_linked) (sym first) q.linkage,
        subst (λ b. IsFirst b q.object.first place_of) (sym first) q.first_place,
        q.binds,
        q.defined,
      )
