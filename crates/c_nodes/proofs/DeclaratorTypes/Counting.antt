-- What is counted among specifiers, from the last one to the first, and how it tells in which way a type is named.
use Rattle.std.proofs.Common.{◌≡◌, List, [], ◌∷◌, refl}
use Rattle.std.specs.Prelude.{if◌then◌else◌}
use Rattle.c_ast.specs.Trees
use Rattle.c_erasure.specs.Specifiers.{no_words, named_by, same_words, types_among, words_of}
use Rattle.c_erasure.specs.Checking.Declaring.{by_one, no_type, base_among, base_of_words}
use Rattle.c_nodes.specs.declared.declarator_types.words.Others.TheVariants as O
use Rattle.c_nodes.specs.DeclaratorTypes.WordViews.{specifier_added, others_in, one_more, other_added}

pub words_step : (s : Trees.Specifier) (more : Trees.Specifiers) → words_of (Trees.and_specifier s more) ≡ specifier_added s (words_of more)
words_step (Trees.plain word at) more = refl
words_step s more = refl

counted : (s : Trees.Specifier) (all : List Trees.Specifier) → others_in (s ∷ all) ≡ one_more (others_in all)
counted s [] = refl
counted s (t ∷ []) = refl
counted s (t ∷ u ∷ more) = refl

pub others_step : (s : Trees.Specifier) (more : Trees.Specifiers)
    → others_in (types_among (Trees.and_specifier s more)) ≡ other_added s (others_in (types_among more))
others_step (Trees.plain word at) more = refl
others_step (Trees.typename x) more = counted (Trees.typename x) (types_among more)
others_step (Trees.struct_named at x) more = counted (Trees.struct_named at x) (types_among more)
others_step (Trees.struct_body at x left all right) more = counted (Trees.struct_body at x left all right) (types_among more)
others_step (Trees.enum_named at x) more = counted (Trees.enum_named at x) (types_among more)
others_step (Trees.enum_body at x left all comma right) more = counted (Trees.enum_body at x left all comma right) (types_among more)

pub by_keywords : (all : List Trees.Specifier) (specs : Trees.Specifiers) → O.None ≡ others_in all
    → base_among all specs ≡ base_of_words (named_by (words_of specs))
by_keywords [] specs h = refl
by_keywords (s ∷ []) specs h = cc
by_keywords (s ∷ t ∷ more) specs h = cc

pub by_one_other : (all : List Trees.Specifier) (specs : Trees.Specifiers) → O.One ≡ others_in all
    → base_among all specs ≡ (if same_words (words_of specs) no_words then by_one else no_type)
by_one_other [] specs h = cc
by_one_other (s ∷ []) specs h = refl
by_one_other (s ∷ t ∷ more) specs h = cc

pub by_others : (all : List Trees.Specifier) (specs : Trees.Specifiers) → O.Several ≡ others_in all → base_among all specs ≡ no_type
by_others [] specs h = cc
by_others (s ∷ []) specs h = cc
by_others (s ∷ t ∷ more) specs h = refl
