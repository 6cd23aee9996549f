-- What is read is spelled so, is well formed, and has that depth.
use Rattle.std.proofs.Common.{ℕ, zero, suc, List, refl, arith}
use Rattle.c_ast.specs.Spelling.{spelled_declarator}
use Rattle.c_ast.specs.WellFormed.{IsDeclarator}
use Rattle.c_ast.specs.Sizes.{depth_declarator}
use Rattle.c_grammar.specs.Reading.{Inner, none, around, at}
use Rattle.c_grammar.proofs.Fronts.{given}
use Rattle.c_grammar.proofs.Taken.{Took, IsSound}
use Rattle.c_grammar.proofs.ExpressionSound.{unary_expression_reads, operand_reads, operators_read, conditional_reads, assignment_reads, expression_reads}
use Rattle.c_grammar.proofs.SpecifierSound.{member_declaration_reads, enumerator_reads, specifiers_read}
use Rattle.c_grammar.proofs.DeclaratorSound.{declarator_reads}

pub none_sound : (types : List (List ℕ)) → IsSound types 0 none
none_sound types = record {
  expression = λ tokens w y h. cc;
  assignment = λ tokens w y h. cc;
  conditional = λ tokens w y h. cc;
  operators = λ least i j tokens w y h. cc;
  operand = λ tokens w y h. cc;
  unary = λ tokens w y h. cc;
  specifiers = λ tokens w y h. cc;
  member_declaration = λ tokens w y h. cc;
  enumerator = λ tokens w y h. cc;
  declarator = λ tokens w y h. given (Took spelled_declarator (IsDeclarator types) depth_declarator 0 tokens) _ y h
      (record { spelled_so = refl; well_formed = tt; deep = refl; within = omega arith; whole = w });
}

pub around_sound : (types : List (List ℕ)) (k : ℕ) (inner : Inner) → IsSound types k inner → IsSound types (suc k) (around types k inner)
around_sound types k inner sound = record {
  expression = expression_reads types k inner sound;
  assignment = assignment_reads types k inner sound;
  conditional = conditional_reads types k inner sound;
  operators = operators_read types k inner sound;
  operand = operand_reads types k inner sound;
  unary = unary_expression_reads types k inner sound;
  specifiers = specifiers_read types k inner sound;
  member_declaration = member_declaration_reads types k inner sound;
  enumerator = enumerator_reads types k inner sound;
  declarator = declarator_reads types k inner sound;
}

pub sound : (types : List (List ℕ)) (k : ℕ) → IsSound types k (at types k)
sound types zero = none_sound types
sound types (suc k) = around_sound types k (at types k) (sound types k)
