-- Parts of a text are parts of a front of it.
use Rattle.std.proofs.Common.{◌≡◌, ℕ, Bool, true, false, List, [], ◌∷◌, ◌++◌, refl, ap, sym, subst, ◌∙◌, append_assoc}
use Rattle.std.specs.Prelude.{◌&&◌, ◌==◌}
use Rattle.c_tokens.specs.declared.part.PartKind.{PartKind}
use Rattle.c_tokens.specs.declared.part.PartKind.TheVariants as P
use Rattle.c_tokens.specs.Words.{IsLongest}
use Rattle.c_tokens.specs.Parts.{Part, text_of, begins_comment, IsLineEnd, Stands, AreParts, begins_line_after_part}

-- before a front of what follows
end_before : (front rest : List ℕ) → IsLineEnd (front ++ rest) → IsLineEnd front
end_before [] rest h = tt
end_before (b ∷ front) rest h = h

and_false : (b : Bool) → (b && false) ≡ false
and_false true = refl
and_false false = refl

no_comment_before : (bytes rest : List ℕ) → begins_comment (bytes ++ rest) ≡ false → begins_comment bytes ≡ false
no_comment_before [] rest h = refl
no_comment_before (b ∷ []) rest h = and_false (b == 47)
no_comment_before (b ∷ c ∷ bytes) rest h = h

longest_before : (word front rest : List ℕ) → IsLongest word (front ++ rest) → IsLongest word front
longest_before word front rest h shape more after e w = h shape more (after ++ rest) (ap (λ l. l ++ rest) e ∙ append_assoc more after rest) w

pub stands_before : (begins_line : Bool) (kind : PartKind) (text front rest : List ℕ) → Stands begins_line kind text (front ++ rest)
    → Stands begins_line kind text front
stands_before begins_line P.White text front rest s = s
stands_before begins_line P.Comment text front rest s = s
stands_before begins_line P.LineComment text front rest s = (s.0, s.1, s.2, end_before front rest s.3)
stands_before begins_line P.Directive text front rest s = (s.0, s.1, s.2, s.3, s.4, end_before front rest s.5, s.6)
stands_before begins_line (P.Word shape) text front rest s =
    (s.0, longest_before text front rest s.1, no_comment_before (text ++ front) rest (ap begins_comment (append_assoc text front rest) ∙ s.2))

pub parts_before : (begins_line : Bool) (parts : List Part) (front rest : List ℕ) → AreParts begins_line parts (front ++ rest)
    → AreParts begins_line parts front
parts_before begins_line [] front rest a = tt
parts_before begins_line (part ∷ parts) front rest a =
    let whole = subst (Stands begins_line part.kind part.text) (sym (append_assoc (text_of parts) front rest)) a.0 in (
      stands_before begins_line part.kind part.text (text_of parts ++ front) rest whole,
      parts_before (begins_line_after_part begins_line part) parts front rest a.1,
    )
