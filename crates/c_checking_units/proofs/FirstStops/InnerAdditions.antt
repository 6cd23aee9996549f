-- What each part of a function adds to a file at most: mentions, and objects of its literals and `static` locals. No names and no structures are added.
use Rattle.std.specs.Prelude.{ℕ, Bool, List, [], ◌∷◌, ◌++◌, Option}
use Rattle.c_ast.specs.Trees
use Rattle.c_ast.specs.Places.{first_declarator}
use Rattle.c_erasure.specs.Literals.{literals, literals_if_any, literals_of_value, made_by, made_by_item, made_by_items, made_by_switch_item}
use Rattle.c_erasure.specs.Literals.{made_by_switch_items}
use Rattle.c_erasure.specs.Literals.{made_by_start, made_by_declaration}
use Rattle.c_erasure.specs.MentionPlaces.{spoken, spoken_by_value, spoken_of_specifiers, spoken_of_declarator, spoken_of_declarators, spoken_of_declaration}
use Rattle.c_erasure.specs.MentionPlaces.{spoken_if_some, spoken_of_start, spoken_of_labels, spoken_by, spoken_by_item, spoken_by_items, spoken_by_switch_item}
use Rattle.c_erasure.specs.MentionPlaces.{spoken_by_switch_items}
use Rattle.c_checking_laws.proofs.Within.{Additions}
use Rattle.c_checking_laws.proofs.WholeFiles.Declarations as Declared
use Rattle.c_checking_laws.proofs.WholeFiles.Declarations.{static_places}

-- of what a part adds, so much inside of a function
abbrev pub inner : Additions → Additions
inner all = record { marks = []; said = all.said; made = all.made }

abbrev pub at_value : Trees.Expression → Additions
at_value a = record { marks = []; said = spoken a; made = literals a }

abbrev pub at_if_any : Option Trees.Expression → Additions
at_if_any a = record { marks = []; said = spoken_if_some a; made = literals_if_any a }

abbrev pub at_initial : Option (ℕ × Trees.Expression) → Additions
at_initial value = record { marks = []; said = spoken_by_value value; made = literals_of_value value }

abbrev pub at_specifiers : Trees.Specifiers → Additions
at_specifiers specs = record { marks = []; said = spoken_of_specifiers specs; made = [] }

-- the declarator of a local, whose type is told at that byte
abbrev pub at_declarator : ℕ → Trees.Declarator → Additions
at_declarator at d = record { marks = []; said = at ∷ spoken_of_declarator d; made = [] }

-- a `static` object, which begins at that byte
abbrev pub at_object : Bool → ℕ → Option (ℕ × Trees.Expression) → Additions
at_object static at value = record { marks = []; said = spoken_by_value value; made = static_places static at ++ literals_of_value value }

abbrev pub at_named : Bool → ℕ → Trees.InitDeclarator → Additions
at_named static at d = record {
  marks = [];
  said = at ∷ spoken_of_declarator d.declarator ++ spoken_by_value d.value;
  made = static_places static at ++ literals_of_value d.value;
}

abbrev pub at_local : Bool → Trees.InitDeclarator → ℕ → Additions
at_local static d semicolon = at_named static (first_declarator d.declarator semicolon) d

abbrev pub at_locals : Bool → List Trees.InitDeclarator → ℕ → Additions
at_locals static all semicolon = record { marks = []; said = spoken_of_declarators all semicolon; made = Declared.made_by static all semicolon }

abbrev pub at_declaration : Trees.Declaration → Additions
at_declaration d = record { marks = []; said = spoken_of_declaration d; made = made_by_declaration d }

abbrev pub at_start : Trees.ForStart → Additions
at_start start = record { marks = []; said = spoken_of_start start; made = made_by_start start }

-- of the constant of a label no literal is made an object
abbrev pub at_labels : List Trees.Label → Additions
at_labels labels = record { marks = []; said = spoken_of_labels labels; made = [] }

abbrev pub at_statement : Trees.Statement → Additions
at_statement a = record { marks = []; said = spoken_by a; made = made_by a }

abbrev pub at_item : Trees.BlockItem → Additions
at_item e = record { marks = []; said = spoken_by_item e; made = made_by_item e }

abbrev pub at_items : Trees.BlockItems → Additions
at_items items = record { marks = []; said = spoken_by_items items; made = made_by_items items }

abbrev pub at_switch_item : Trees.SwitchItem → Additions
at_switch_item item = record { marks = []; said = spoken_by_switch_item item; made = made_by_switch_item item }

abbrev pub at_switch_items : Trees.SwitchItems → Additions
at_switch_items items = record { marks = []; said = spoken_by_switch_items items; made = made_by_switch_items items }
