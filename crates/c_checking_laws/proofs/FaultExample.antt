-- What the theorem on faults asks holds of a file that begins with a structure: struct s{int a;void b;}
use Rattle.std.proofs.Common.{refl, subst, arith, ◌≡◌, ℕ, ◌+◌, List, [], ◌∷◌, zero, suc}
use Rattle.std.specs.Prelude.{Some, None, Err, codes, slice_get, false}
use Rattle.lay_base.specs.declared.faults.Rule.TheVariants as R
use Rattle.c_ast.specs.declared.words.Spelling.{Spelling}
use Rattle.c_ast.specs.declared.operators.SpecifierKeyword.TheVariants as S
use Rattle.c_ast.specs.Trees
use Rattle.c_erasure.specs.Broken.{ill_typed, IsBrokenSpecifier}
use Rattle.c_erasure.specs.Marks.{marks_of_specifier}
use Rattle.c_erasure.specs.Scopes.{FileScope, Scope, Tag, at_file_scope}
use Rattle.c_erasure.specs.Checking.Declaring.{number_among, derived, object_at}
use Rattle.c_erasure.specs.Checking.Finding.{one_of, specified, members, member_declarators, derivations}
use Rattle.c_checking_laws.proofs.FaultAdditions.{of_specifier}
use Rattle.c_checking_laws.proofs.FaultResults.{Up, Broken}
use Rattle.c_checking_laws.proofs.FaultPremises.{Prepared}
use Rattle.c_checking_laws.proofs.Faults.{faults_specifier}

abbrev word : List ℕ → (from to : ℕ) → Spelling
word x from to = record { from = from; to = to; text = x }

abbrev member : Trees.Specifiers → Spelling → (semicolon : ℕ) → Trees.MemberDeclarations → Trees.MemberDeclarations
member specs x semicolon more =
    Trees.and_member_declaration specs (Trees.and_member_declarator None (Trees.named x) Trees.no_member_declarators) semicolon more

abbrev tree : Trees.Specifier
tree = Trees.struct_body 0 (Some (word (codes "s") 7 8)) 8
    (member (Trees.and_specifier (Trees.plain S.Int 9) Trees.no_specifiers) (word (codes "a") 13 14) 14
    (member (Trees.and_specifier (Trees.plain S.Void 15) Trees.no_specifiers) (word (codes "b") 20 21) 21 Trees.no_member_declarations)) 22

abbrev untagged : ℕ → List ℕ
untagged at = []

abbrev tag : Tag
tag = record { name = codes "s"; place = 7; from = 7; is_enumeration = false }

-- what is known of the whole file before it is read
abbrev file : FileScope
file = record {
  file = 0;
  names = [];
  tags = tag ∷ [];
  records = [];
  ends = 22 ∷ [];
  numbered = codes "s" ∷ [];
  objects = [];
  functions = [];
  mentions = [];
  untagged = untagged;
}

abbrev scope : Scope
scope = at_file_scope file

refused : specified tree scope ≡ Err (ill_typed R.Incomplete 20)
unfolding specified members member_declarators derivations one_of derived object_at
refused = refl

one_alone : {X : Type 0} (x : X) (k : ℕ) (y : X) → slice_get (x ∷ []) k ≡ Some y → k ≡ 0
one_alone x zero y h = refl
one_alone x (suc k) y h = cc

from_none : (P : ℕ → Type 0) (k : ℕ) → P k → P (0 + k)
from_none P k h = let e : k ≡ 0 + k = omega arith in subst P e h

ready : Prepared untagged (22 ∷ []) scope (marks_of_specifier untagged tree)
ready = record {
  ready = record { names_fit = tt; blocks_fit = tt; ends_stand = λ i k right h. from_none (λ k. slice_get (22 ∷ []) k ≡ Some right) k h };
  ends_are = refl;
  untagged_are = refl;
  steady = record { tagged = λ k r h. cc; fields = λ k j r x h. cc; objects = λ n t h. cc };
  orderly = record {
    tags_ascend = λ j k t u l a b. let p = one_alone tag j t a in let q = one_alone tag k u b in absurd (omega (arith, l, p, q));
    tags_numbered = λ k t h e. let p : tag ≡ t = same_tag k t h in (0, numbered t p);
    ends_ascend = λ j k a b l c d. let p = one_alone 22 j a c in let q = one_alone 22 k b d in absurd (omega (arith, l, p, q));
  };
  locals_are = λ k t h. cc;
  tags_numbered = λ i j t h e. let p : tag ≡ t = same_tag j t h in (0, numbered t p);
  numbers_stand = λ i j name h. from_none (λ k. slice_get (codes "s" ∷ []) k ≡ Some name) j h;
  begun = λ i j from h. cc;
  ascending = λ i j k a b l c. cc;
}
  where
    same_tag : (k : ℕ) (t : Tag) → slice_get (tag ∷ []) k ≡ Some t → tag ≡ t
    same_tag zero t h = cc
    same_tag (suc k) t h = cc

    numbered : (t : Tag) → tag ≡ t → number_among (codes "s" ∷ []) t.name ≡ Some 0
    numbered t p = subst (λ (t : Tag). number_among (codes "s" ∷ []) t.name ≡ Some 0) p refl

-- a member of no type of objects
is_broken : Broken (Up scope (of_specifier untagged tree)) scope (λ s. IsBrokenSpecifier tree s (ill_typed R.Incomplete 20))
is_broken =
    faults_specifier untagged (22 ∷ []) (Up scope (of_specifier untagged tree)) tree scope 0 (tt, ((tt, tt), (tt, tt), ((tt, tt), (tt, tt), tt))) ready (omega arith)
    ((tt, (tt, omega arith, (word (codes "a") 13 14, refl), tt), (tt, (tt, omega arith, (word (codes "b") 20 21, refl), tt), tt))) (λ g w. w) refl
    (ill_typed R.Incomplete 20) refused
