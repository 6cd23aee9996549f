-- Comments, and the ends of lines, are found exactly.
use Rattle.std.proofs.Common.{◌≡◌, ℕ, suc, ◌+◌, Bool, true, false, ◌&&◌, ◌⊎◌, inl, inr, List, [], ◌∷◌, ◌++◌, length, Option, Some, None, refl, sym}
use Rattle.std.proofs.Common.{ap, subst, arith, ⊎_elim}
use Rattle.std.specs.Prelude.{◌==◌, option_map, not}
use Rattle.std.proofs.lemmas.Bool.{and_parts, and_right, or_from, or_parts, cond_both, eqb-true, not_from_true, not_from_false, not-true, not-false}
use Rattle.std.proofs.lemmas.Option.{same_Some}
use Rattle.c_tokens.specs.Characters.{is_line_feed, begins}
use Rattle.c_tokens.specs.Parts.{has_end, HasNoLineFeed, IsLineEnd}
use Rattle.c_lexer.specs.Scanning.{comment_length, line_length}
use Rattle.c_lexer.proofs.RunLengths.{run_read, run_taken}
use Rattle.c_lexer.proofs.Quotes.{counted}

abbrev is_slash : ℕ → Bool
is_slash b = b == 47

-- ---- with an end

one_byte_more : (found : Option ℕ) (n : ℕ) → found ≡ Some (n + 2) → option_map suc found ≡ Some (suc n + 2)
one_byte_more found n h = rw h (ap (λ m. Some m) (omega arith))

-- up to the first end; after a star or not
comment_read_from : (starred : Bool) (body rest : List ℕ) → has_end body ≡ false → (starred && begins is_slash body) ≡ false
    → comment_length starred (body ++ 42 ∷ 47 ∷ rest) ≡ Some (length body + 2)
comment_read_from true [] rest h s = refl
comment_read_from false [] rest h s = refl
comment_read_from starred (b ∷ body) rest h s =
    let o = or_parts (b == 42 && begins is_slash body) (has_end body) h in
    rw s (one_byte_more _ (length body) (comment_read_from (b == 42) body rest o.1 o.0))

pub comment_read : (body rest : List ℕ) → has_end body ≡ false → comment_length false (body ++ 42 ∷ 47 ∷ rest) ≡ Some (length body + 2)
comment_read body rest h = comment_read_from false body rest h refl

-- what stands before the first end, and after it
pub record Ended (bytes : List ℕ) (n : ℕ) : Type 0 where
  pub body : List ℕ
  pub rest : List ℕ
  pub is : bytes ≡ body ++ 42 ∷ 47 ∷ rest
  pub no_end : has_end body ≡ false
  pub size : n ≡ length body + 2

-- no slash stands at once after a star
record EndedFrom (starred : Bool) (bytes : List ℕ) (n : ℕ) : Type 0 where
  ended : Ended bytes n
  no_slash : (starred && begins is_slash ended.body) ≡ false

-- a slash at once, after a star, or an end further on
abbrev Ends : Bool → List ℕ → ℕ → Type 0
Ends starred bytes n = ((starred ≡ true) × (rest : List ℕ) × (bytes ≡ 47 ∷ rest) × (n ≡ 1)) ⊎ EndedFrom starred bytes n

-- the star that stands before the slash
end_here : (starred : Bool) (b : ℕ) (bytes : List ℕ) (n : ℕ) → (b == 42) ≡ true → ((rest : List ℕ) × (bytes ≡ 47 ∷ rest) × (n ≡ 1))
    → EndedFrom starred (b ∷ bytes) (suc n)
end_here starred b bytes n s (rest, e, one) =
    let first : b ≡ 42 = eqb-true b 42 s in
    record { ended = record { body = []; rest = rest; is = cc (first, e); no_end = refl; size = rw one refl }; no_slash = and_right starred false refl }

end_after : (starred : Bool) (b : ℕ) (bytes : List ℕ) (n : ℕ) → (starred && is_slash b) ≡ false → EndedFrom (b == 42) bytes n
    → EndedFrom starred (b ∷ bytes) (suc n)
end_after starred b bytes n s e =
    record {
      ended = record {
        body = b ∷ e.ended.body;
        rest = e.ended.rest;
        is = ap (λ l. b ∷ l) e.ended.is;
        no_end =
            or_from _ _ e.no_slash e.ended.no_end;
        size = let k = e.ended.size in omega (arith, k);
      };
      no_slash = s;
    }

ends_taken : (starred : Bool) (bytes : List ℕ) (n : ℕ) → comment_length starred bytes ≡ Some n → Ends starred bytes n
ends_taken starred [] n h = cc
ends_taken starred (b ∷ bytes) n h =
    cond_both (starred && is_slash b) (Some 1) (option_map suc (comment_length (b == 42) bytes)) (λ o. o ≡ Some n → Ends starred (b ∷ bytes) n)
    (λ s h. let a = and_parts starred (is_slash b) s in inl (a.0, bytes, ap (λ x. x ∷ bytes) (eqb-true b 47 a.1), sym (same_Some 1 n h)))
    (λ s h.
    let m = counted (comment_length (b == 42) bytes) n h in
    inr (subst (EndedFrom starred (b ∷ bytes)) m.2 (⊎_elim (λ e. end_here starred b bytes m.0 e.0 (e.1, e.2, e.3)) (end_after starred b bytes m.0 s)
    (ends_taken (b == 42) bytes m.0 m.1))))
    h

pub comment_taken : (bytes : List ℕ) (n : ℕ) → comment_length false bytes ≡ Some n → Ended bytes n
comment_taken bytes n h = ⊎_elim (λ e. let k = e.0 in cc) (λ e. e.ended) (ends_taken false bytes n h)

-- ---- without one

endless_read_from : (starred : Bool) (bytes : List ℕ) → has_end bytes ≡ false → (starred && begins is_slash bytes) ≡ false → comment_length starred bytes ≡ None
endless_read_from starred [] h s = refl
endless_read_from starred (b ∷ bytes) h s =
    let o = or_parts (b == 42 && begins is_slash bytes) (has_end bytes) h in
    rw (s, endless_read_from (b == 42) bytes o.1 o.0) refl

pub endless_read : (bytes : List ℕ) → has_end bytes ≡ false → comment_length false bytes ≡ None
endless_read bytes h = endless_read_from false bytes h refl

none_counted : (found : Option ℕ) → option_map suc found ≡ None → found ≡ None
none_counted None h = refl
none_counted (Some m) h = cc

endless_from : (starred : Bool) (bytes : List ℕ) → comment_length starred bytes ≡ None → (has_end bytes ≡ false) × ((starred && begins is_slash bytes) ≡ false)
endless_from starred [] h = (refl, and_right starred false refl)
endless_from starred (b ∷ bytes) h =
    cond_both (starred && is_slash b) (Some 1) (option_map suc (comment_length (b == 42) bytes)) (λ o. o ≡ None
    → (has_end (b ∷ bytes) ≡ false) × ((starred && is_slash b) ≡ false))
    (λ s h. cc)
    (λ s h. let r = endless_from (b == 42) bytes (none_counted _ h) in (or_from _ _ r.1 r.0, s))
    h

pub endless_taken : (bytes : List ℕ) → comment_length false bytes ≡ None → has_end bytes ≡ false
endless_taken bytes h = (endless_from false bytes h).0

-- ---- lines

abbrev goes_on_in_line : ℕ → Bool
goes_on_in_line b = not (is_line_feed b)

line_end : (rest : List ℕ) → IsLineEnd rest → begins goes_on_in_line rest ≡ false
line_end [] e = refl
line_end (b ∷ rest) e = not_from_true (is_line_feed b) e

end_of_line : (rest : List ℕ) → begins goes_on_in_line rest ≡ false → IsLineEnd rest
end_of_line [] h = tt
end_of_line (b ∷ rest) h = not-false (is_line_feed b) h

pub line_read : (body rest : List ℕ) → HasNoLineFeed body → IsLineEnd rest → line_length (body ++ rest) ≡ length body
line_read body rest h e = run_read goes_on_in_line body rest (λ k d l. not_from_false _ (h k d l)) (line_end rest e)

-- the bytes up to the end of the line
pub record Line (bytes : List ℕ) : Type 0 where
  pub body : List ℕ
  pub rest : List ℕ
  pub is : bytes ≡ body ++ rest
  pub within : HasNoLineFeed body
  pub ends : IsLineEnd rest
  pub size : line_length bytes ≡ length body

pub line_taken : (bytes : List ℕ) → Line bytes
line_taken bytes =
    let r = run_taken goes_on_in_line bytes in
    record { body = r.front; rest = r.rest; is = r.is; within = λ k d l. not-true _ (r.each k d l); ends = end_of_line r.rest r.stops; size = r.size }
