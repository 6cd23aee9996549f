-- The marks of enumerators and of declarators, with the beginning of the scope of the one before them.
use Rattle.std.proofs.Common.{ℕ, Bool, true, false, List, ◌∷◌}
use Rattle.c_ast.specs.Trees
use Rattle.c_erasure.specs.Erasure.{comma_or}
use Rattle.c_erasure.specs.Marks.{Mark, a_name, after_declarator, marks_of_enumerators, marks_of_declarators}

abbrev pub marks_after : (ℕ → List ℕ) → (first : Bool) → Trees.Enumerators → ℕ → List Mark
marks_after u true all after = marks_of_enumerators u all after
marks_after u false all after = a_name (comma_or all after) ∷ marks_of_enumerators u all after

-- the same of declarators, where the scope of the one before them begins at the comma
abbrev pub marks_of_more : (ℕ → List ℕ) → (is_open : Bool) → List Trees.InitDeclarator → ℕ → List Mark
marks_of_more u false all semicolon = marks_of_declarators u all semicolon
marks_of_more u true all semicolon = a_name (after_declarator all semicolon) ∷ marks_of_declarators u all semicolon
