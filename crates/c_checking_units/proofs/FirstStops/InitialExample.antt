-- What the theorem on faults of initializers asks holds of char s[2][3] = {"ab","abcd"}: the second text is too long, and the first one stands.
use Rattle.std.proofs.Common.{◌≡◌, ℕ, refl, List, [], ◌∷◌, inl, inr, arith}
use Rattle.std.specs.Prelude.{Some, None, Err, codes}
use Rattle.lay_base.specs.declared.faults.Rule.TheVariants as R
use Rattle.c_types.specs.declared.ty.IntKind.TheVariants.{Char}
use Rattle.c_types.specs.Types.{CType, integer, array}
use Rattle.c_tokens.specs.QuotedScan.{string_bytes}
use Rattle.c_ast.specs.Trees
use Rattle.c_erasure.specs.Broken.{ill_typed}
use Rattle.c_erasure.specs.BrokenStatements.{IsAmong, IsBrokenInitializer}
use Rattle.c_erasure.specs.Literals.{literals}
use Rattle.c_erasure.specs.Marks.{marks}
use Rattle.c_erasure.specs.Scopes.{FileScope, Scope, at_file_scope}
use Rattle.c_erasure.specs.Checking.Initializers.{initialized, elements, initializer}
use Rattle.c_checking_laws.proofs.FaultPremises.{Prepared}
use Rattle.c_checking_laws.proofs.FaultResults.{Up, Broken}
use Rattle.c_checking_laws.proofs.FaultAdditions.{of}
use Rattle.c_checking_laws.proofs.Extends.{itself}
use Rattle.c_checking_units.proofs.FirstStops.Clear.{AreFresh}
use Rattle.c_checking_units.proofs.FirstStops.Constants.{initializer_faults}

abbrev text : List ℕ → (from to : ℕ) → Trees.Expression
text x from to = Trees.texts (record { from = from; to = to; text = x } ∷ [])

abbrev tree : Trees.Expression
tree = Trees.braces 12 (Trees.and_argument None (text (codes "\"ab\"") 13 17)
    (Trees.and_argument (Some 17) (text (codes "\"abcd\"") 18 24) Trees.no_arguments)) None 24

abbrev type : CType
type = array (array (integer Char) 3) 2

abbrev untagged : ℕ → List ℕ
untagged at = []

abbrev file : FileScope
file = record {
  file = 0;
  names = [];
  tags = [];
  records = [];
  ends = [];
  numbered = [];
  objects = [];
  functions = [];
  mentions = [];
  untagged = untagged;
}

abbrev scope : Scope
scope = at_file_scope file

refused : initializer tree scope type ≡ Err (ill_typed R.Init 18)
unfolding initialized elements string_bytes
refused = refl

ready : Prepared untagged [] scope (marks untagged tree)
ready = record {
  ready = record { names_fit = tt; blocks_fit = tt; ends_stand = λ i k right h. cc };
  ends_are = refl;
  untagged_are = refl;
  steady = record { tagged = λ k r h. cc; fields = λ k j r x h. cc; objects = λ n t h. cc };
  orderly = record { tags_ascend = λ j k t u l a. cc; tags_numbered = λ k t h. cc; ends_ascend = λ j k a b l c. cc };
  locals_are = λ k t h. cc;
  tags_numbered = λ i j t h. cc;
  numbers_stand = λ i j name h. cc;
  begun = λ i j from h. cc;
  ascending = λ i j k a b l c. cc;
}

fresh : AreFresh file (literals tree)
fresh = record { apart = (λ i. different i, (λ i. i, tt)); none_at = λ n o h. cc }
  where
    different : IsAmong (18 ∷ []) 13 → ⊥
    different (inl e) = omega (arith, e)
    different (inr e) = e

-- a text that is too long for its row
is_broken : Broken (Up scope (of untagged tree)) scope (λ s. IsBrokenInitializer tree s type (ill_typed R.Init 18))
is_broken =
    initializer_faults untagged [] file tree scope 0 (tt, (tt, tt)) ready (omega arith) (tt, (tt, tt))
    (record { complete = λ k r h. cc; extends = itself file; same = refl }) fresh type refl (ill_typed R.Init 18) refused
