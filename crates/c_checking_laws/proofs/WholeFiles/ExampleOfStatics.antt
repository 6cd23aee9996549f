-- What completeness asks holds of `static int x = 1, *p = &x;` in a function: the two objects are found.
use Rattle.std.proofs.Common.{◌≡◌, ℕ, zero, suc, ◌+◌, ◌<◌, true, false, List, [], ◌∷◌, refl, ap, ◌∙◌, subst, arith, inl, inr}
use Rattle.std.proofs.lemmas.List.Elements.{All-nil, All-cons}
use Rattle.std.specs.Prelude.{codes, Some, None}
use Rattle.c_types.specs.declared.ty.IntKind.TheVariants.{Int}
use Rattle.c_types.specs.Types.{CType, integer, pointer}
use Rattle.c_ast.specs.declared.words.Spelling.{Spelling}
use Rattle.c_ast.specs.declared.operators.UnaryOp.TheVariants as U
use Rattle.c_ast.specs.Trees
use Rattle.c_typed.specs.declared.program.MentionKind.TheVariants.{Object}
use Rattle.c_typed.specs.InitialValues.{a_number, an_address}
use Rattle.c_typed.specs.Trees as Typed
use Rattle.c_erasure.specs.Declarators.{closed}
use Rattle.c_erasure.specs.Files.{IsTypedObject}
use Rattle.c_erasure.specs.Initializers.{IsInitializer}
use Rattle.c_erasure.specs.Noted.{Noted, Expression, an_object, a_value, value, way}
use Rattle.c_erasure.specs.Scopes.{AnObject, Bound, FileScope, Scope, Entity}
use Rattle.c_erasure.specs.Scopes as Scopes
use Rattle.c_erasure.specs.Statements.{DeclareAll, with_object}
use Rattle.c_erasure.specs.Checking.Statements.{declare_all}
use Rattle.c_checking_laws.proofs.CompleteNodes.{some_is}
use Rattle.c_checking_laws.proofs.CompleteFit.{IsFit}
use Rattle.c_checking_laws.proofs.CompletePart.{Lists, IsWhole, IsBefore}
use Rattle.c_checking_laws.proofs.CompleteStatements.{inner, outer, Seen}
use Rattle.c_checking_laws.proofs.CompleteBlocks.{FoundAll}
use Rattle.c_checking_laws.proofs.CompleteWhole.{is_whole}
use Rattle.c_checking_laws.proofs.WholeFiles.CompleteStaticLists.{AreTypedObjects, walk_in_block, walk_of_statics, statics_complete}

abbrev int : CType
int = integer Int

abbrev name_x : (at : ℕ) → Spelling
name_x at = record { from = at; to = at + 1; text = codes "x" }

abbrev name_p : Spelling
name_p = record { from = 39; to = 40; text = codes "p" }

abbrev one : Expression
one = value int (record { file = 0; at = 35 }) (Typed.constant 1)

-- the object with the number 0
abbrev the_x : Typed.Path Noted
the_x = way int (record { file = 0; at = 44 }) (Typed.object 0)

abbrev to_x : Expression
to_x = value (pointer int) (record { file = 0; at = 43 }) (Typed.address_of the_x)

abbrev object_x : AnObject
object_x = record {
  name = codes "x";
  place = record { file = 0; at = 31 };
  first = 31;
  ty = int;
  is_linked = false;
  literal = None;
  initial = Some (Typed.whole one);
}

abbrev object_p : AnObject
object_p = record {
  name = codes "p";
  place = record { file = 0; at = 38 };
  first = 38;
  ty = pointer int;
  is_linked = false;
  literal = None;
  initial = Some (Typed.whole to_x);
}

abbrev file : FileScope
file = record {
  file = 0;
  names = [];
  tags = [];
  records = [];
  ends = [];
  numbered = [];
  objects = object_x ∷ object_p ∷ [];
  functions = [];
  mentions = record { kind = Object; ty = int; at = 31 } ∷ record { kind = Object; ty = pointer int; at = 38 } ∷ [];
  untagged = λ at. [];
}

abbrev nothing : Lists
nothing = record { names = []; records = []; objects = []; functions = []; mentions = [] }

abbrev Later : ℕ → ℕ → Type 0
Later n m = n < m

file_is_whole : IsWhole file
file_is_whole = is_whole file (record {
  names_ascend = tt;
  names_consistent = tt;
  names_fit = λ x at e h. cc;
  objects_ascend = (All-cons (Later 31) 38 [] (omega arith) (All-nil (Later 31)), (All-nil (Later 38), tt));
  numbered_differ = tt;
  records_differ = tt;
  fields_differ = λ k r h. cc;
  fields_complete = λ k j r f h i. cc;
  records_small = λ i l. absurd (omega (arith, l));
})

typed : AreTypedObjects file
typed zero o i h k = by_object (some_is object_x o h)
  where
    by_object : object_x ≡ o → IsTypedObject file o.ty i
    by_object e =
        let s : Typed.whole one ≡ i = some_is (Typed.whole one) i (ap (λ (o : AnObject). o.initial) e ∙ k) in
        subst (λ (o : AnObject). IsTypedObject file o.ty i) e (subst (IsTypedObject file int) s ((Int, refl, refl), refl, (refl, refl)))
typed (suc zero) o i h k = by_object (some_is object_p o h)
  where
    by_object : object_p ≡ o → IsTypedObject file o.ty i
    by_object e =
        let s : Typed.whole to_x ≡ i = some_is (Typed.whole to_x) i (ap (λ (o : AnObject). o.initial) e ∙ k) in
        subst (λ (o : AnObject). IsTypedObject file o.ty i) e (subst (IsTypedObject file (pointer int)) s ((refl, refl), refl, (refl, refl)))
typed (suc (suc k)) o i h e = cc

abbrev declarators : List Trees.InitDeclarator
declarators =
    record {
      comma = None;
      declarator = Trees.named (name_x 31);
      value = Some (
        33,
        Trees.number
            (record { from = 35; to = 36; text = codes "1" }) 1 Int,
      );
    }
    ∷ record {
      comma = Some 36;
      declarator = Trees.pointer 38 [] (Trees.named name_p);
      value = Some (41, Trees.unary U.Address 43 (Trees.name (name_x 44)));
    } ∷ []

abbrev blocks : List (List Bound)
blocks = [] ∷ []

abbrev here : Scope
here = outer file file_is_whole [] blocks

abbrev after_x : Scope
after_x = with_object here (name_x 31) 0 int

abbrev after_p : Scope
after_p = with_object after_x name_p 1 (pointer int)

x_stands : IsInitializer (Trees.number (record { from = 35; to = 36; text = codes "1" }) 1 Int) after_x int (Typed.whole one)
x_stands = inl (one, refl, refl, inl (one, refl, refl, refl, (a_value one, refl, refl)))

p_stands : IsInitializer (Trees.unary U.Address 43 (Trees.name (name_x 44))) after_p (pointer int) (Typed.whole to_x)
p_stands = inl (
  to_x,
  refl,
  refl,
  inl (to_x, refl, refl, refl, (a_value to_x, refl, (an_object the_x, (pointer int, omega arith, refl), (Scopes.an_object 0 int, refl, refl)))),
)

they_stand : DeclareAll declarators here true int Typed.no_statements after_p
they_stand = (
  name_x 31,
  int,
  0,
  (closed int, refl, refl, refl, refl, refl, inr (0, refl)),
  (Typed.whole one, (x_stands, (a_number Int 1, refl)), refl),
  (
    name_p,
    pointer int,
    1,
    (closed (pointer int), refl, (record { bytes = omega arith; parts = omega arith }, refl), refl, refl, refl, inr (1, refl)),
    (Typed.whole to_x, (p_stands, (an_address (record { object = 0; offset = 0 }), refl)), refl),
    (refl, refl),
  ),
)

before : IsBefore file nothing (Seen file file_is_whole [] (walk_of_statics file declarators))
before = record {
  extends = record {
    file = refl;
    tags = refl;
    ends = refl;
    numbered = refl;
    untagged = refl;
    names = ([], refl);
    records = ([], refl);
    mentions = λ kind t at h. let e = h.1 in cc;
    types = λ n t h. cc;
    objects = λ n o h i. cc;
    functions = λ n t h. cc;
  };
  follows = ((object_x, refl, refl), (refl, ((object_p, refl, refl), (refl, (refl, ((λ k b h. cc, refl), tt))))));
}

fit : IsFit file nothing blocks
fit = record { complete = λ x e h. cc; blocks = λ x e h. cc; names = λ k n h l. cc }

statics_are_found : FoundAll file file_is_whole [] int (walk_in_block file file_is_whole typed [] int) blocks [] nothing
    (walk_of_statics file declarators)
    (declare_all declarators (inner file file_is_whole [] blocks [] nothing) true int) Typed.no_statements after_p
statics_are_found = statics_complete file file_is_whole typed [] int declarators blocks [] nothing int Typed.no_statements after_p fit before
    ([], refl) they_stand
