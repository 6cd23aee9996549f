-- What each part of the text adds to a file at most.
use Rattle.std.proofs.Common.{ℕ, refl, sym, subst, List, [], ◌∷◌, ◌++◌, append-nil}
use Rattle.std.specs.Prelude.{Option, Some, None}
use Rattle.c_types.specs.Types.{CType}
use Rattle.c_ast.specs.declared.words.Spelling.{Spelling}
use Rattle.c_ast.specs.Trees
use Rattle.c_erasure.specs.Erasure.{with_parameter_if_named}
use Rattle.c_erasure.specs.Literals.{literals, literals_of_all}
use Rattle.c_erasure.specs.Marks.{marks, marks_of_all, marks_of_type, marks_of_specifiers, marks_of_specifier, marks_of_members, marks_of_member_declarators}
use Rattle.c_erasure.specs.Marks.{marks_of_enumerators, marks_of_value, marks_of_declarator}
use Rattle.c_erasure.specs.MentionPlaces.{spoken, spoken_of_all, spoken_of_type, spoken_of_specifiers, spoken_of_specifier, spoken_of_members, spoken_of_fields}
use Rattle.c_erasure.specs.MentionPlaces.{spoken_of_enumerators, spoken_of_value, spoken_of_declarator, spoken_of_list, spoken_of_parameters}
use Rattle.c_erasure.specs.Scopes.{FileScope, Scope}
use Rattle.c_checking_laws.proofs.FaultResults.{Allows}
use Rattle.c_checking_laws.proofs.Within.{Additions, both, within_inside}

abbrev pub nothing_added : Additions
nothing_added = record { marks = []; said = []; made = [] }

-- inside of parameter lists no names and structures are added
abbrev pub of_list : Trees.ParameterList → Additions
of_list all = record { marks = []; said = spoken_of_list all; made = [] }

abbrev pub of_parameters : Trees.Parameters → Additions
of_parameters all = record { marks = []; said = spoken_of_parameters all; made = [] }

module _ (untagged : ℕ → List ℕ) where
  abbrev pub of : Trees.Expression → Additions
  of a = record { marks = marks untagged a; said = spoken a; made = literals a }

  -- of which no literal is made an object
  abbrev pub of_constant : Trees.Expression → Additions
  of_constant a = record { marks = marks untagged a; said = spoken a; made = [] }

  abbrev pub of_all : Trees.Arguments → Additions
  of_all all = record { marks = marks_of_all untagged all; said = spoken_of_all all; made = literals_of_all all }

  abbrev pub of_type : Trees.TypeName → Additions
  of_type m = record { marks = marks_of_type untagged m; said = spoken_of_type m; made = [] }

  abbrev pub of_specifiers : Trees.Specifiers → Additions
  of_specifiers specs = record { marks = marks_of_specifiers untagged specs; said = spoken_of_specifiers specs; made = [] }

  abbrev pub of_specifier : Trees.Specifier → Additions
  of_specifier x = record { marks = marks_of_specifier untagged x; said = spoken_of_specifier x; made = [] }

  abbrev pub of_members : Trees.MemberDeclarations → Additions
  of_members all = record { marks = marks_of_members untagged all; said = spoken_of_members all; made = [] }

  abbrev pub of_fields : Trees.MemberDeclarators → ℕ → Additions
  of_fields all semicolon = record { marks = marks_of_member_declarators untagged all; said = spoken_of_fields all semicolon; made = [] }

  abbrev pub of_enumerators : Trees.Enumerators → ℕ → Additions
  of_enumerators all after = record { marks = marks_of_enumerators untagged all after; said = spoken_of_enumerators all; made = [] }

  abbrev pub of_value : Trees.EnumeratorValue → Additions
  of_value value = record { marks = marks_of_value untagged value; said = spoken_of_value value; made = [] }

  abbrev pub of_declarator : Trees.Declarator → Additions
  of_declarator d = record { marks = marks_of_declarator untagged d; said = spoken_of_declarator d; made = [] }

  -- with the mention of its type, which stands before those of its lengths and parameters
  abbrev pub behind_name : ℕ → Trees.Declarator → Additions
  behind_name at d = record { marks = marks_of_declarator untagged d; said = at ∷ spoken_of_declarator d; made = [] }

  pub allows_list : (May : FileScope → Type 0) (s : Scope) (d : Trees.Declarator) (all : Trees.ParameterList)
      → Allows May s (record { marks = marks_of_declarator untagged d; said = spoken_of_declarator d ++ spoken_of_list all; made = [] })
      → Allows May s (both (of_declarator d) (of_list all))
  allows_list May s d all m =
      subst (λ u. Allows May s (record { marks = u; said = spoken_of_declarator d ++ spoken_of_list all; made = [] }))
      (sym (append-nil (marks_of_declarator untagged d))) m

-- behind a parameter
pub allows_parameter : (May : FileScope → Type 0) (s : Scope) (x : Option Spelling) (t : CType) (y : List ℕ)
    → Allows May s (record { marks = []; said = y; made = [] })
    → Allows May (with_parameter_if_named s x t) (record { marks = []; said = y; made = [] })
allows_parameter May s None t y m = m
allows_parameter May s (Some x) t y m = λ g w. m g (within_inside [] refl w)
