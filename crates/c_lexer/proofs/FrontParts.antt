-- The part at the front of a text is read exactly, and so is the fault where none stands.
use Rattle.std.proofs.Common.{◌≡◌, ◌<◌, ℕ, ◌+◌, Bool, true, false, ◌||◌, List, [], ◌∷◌, ◌++◌, take, drop, length, inl, inr, Option, Some, None}
use Rattle.std.proofs.Common.{Result, Ok, Err, refl, sym, ap, subst, ◌∙◌, arith, append_assoc, length-append, ⊎_elim}
use Rattle.std.specs.Prelude.{◌==◌, IsTrue, is_some, not}
use Rattle.std.proofs.lemmas.Bool.{and_parts, and_left, and_from, or_from, or_parts, or_cases, cond_both, cond-true, cond-false, eqb-true}
use Rattle.std.proofs.lemmas.Bool.Decides.{nat_tests}
use Rattle.std.proofs.Math.Seq.{take-append_seam}
use Rattle.c_tokens.specs.declared.directive.Directive.{Directive}
use Rattle.c_tokens.specs.declared.fault.FaultKind.{FaultKind}
use Rattle.c_tokens.specs.declared.fault.FaultKind.TheVariants as F
use Rattle.c_tokens.specs.declared.part.PartKind.{PartKind}
use Rattle.c_tokens.specs.declared.part.PartKind.TheVariants as P
use Rattle.c_tokens.specs.declared.part.Shape.{Shape}
use Rattle.c_tokens.specs.declared.part.Shape.TheVariants as S
use Rattle.c_tokens.specs.Characters.{is_white, begins}
use Rattle.c_tokens.specs.Quoted.{IsQuoted, IsInside}
use Rattle.c_tokens.specs.QuotedScan.{quoted_length}
use Rattle.c_tokens.specs.Directives.{IsDirective}
use Rattle.c_lexer.specs.DirectiveScan.{directive_in}
use Rattle.c_tokens.specs.Words.{IsWord}
use Rattle.c_tokens.specs.Parts.{has_end, begins_comment, HasNoLineFeed, IsLineEnd, Stands}
use Rattle.c_tokens.specs.Lexes.{IsUnclosed, HasFault}
use Rattle.c_lexer.specs.Scanning.{word_at, comment_length, line_length, closed, word_part, directive_part, slash_part, part_from, part_at}
use Rattle.c_lexer.proofs.RunLengths.{begins_byte}
use Rattle.c_lexer.proofs.Quotes.{quoted_read, quoted_taken, no_quoted}
use Rattle.c_lexer.proofs.DirectiveLines.{directive_read, directive_taken}
use Rattle.c_lexer.proofs.FrontWords.{IsUnquoted, begins_shape, word_begins, word_read, word_taken, quote_no_line_feed, quoted_longest}
use Rattle.c_lexer.proofs.Comments.{comment_read, comment_taken, endless_read, endless_taken, line_read, line_taken}

-- ---- what is read stands there

-- the part at the front, and what stands after it
pub record Standing (begins_line : Bool) (bytes : List ℕ) (kind : PartKind) (size : ℕ) : Type 0 where
  pub text : List ℕ
  pub rest : List ℕ
  pub is : bytes ≡ text ++ rest
  pub size_is : size ≡ length text
  pub stands : Stands begins_line kind text rest
  pub longer : 0 < size

-- what each answer says of the bytes
abbrev PartSays : Bool → List ℕ → Result (PartKind × ℕ) FaultKind → Type 0
PartSays begins_line bytes (Ok part) = Standing begins_line bytes part.0 part.1
PartSays begins_line bytes (Err F.BadByte) = Unit {0}
PartSays begins_line bytes (Err F.Unclosed) = IsUnclosed bytes
PartSays begins_line bytes (Err _) = ⊥

word_longer : (shape : Shape) (word : List ℕ) → IsWord shape word → 0 < length word
word_longer shape [] w = let h = word_begins shape [] w in cc
word_longer shape (b ∷ word) w = omega arith

word_says : (begins_line : Bool) (bytes : List ℕ) (found : Option (Shape × ℕ)) → begins_comment bytes ≡ false → word_at bytes ≡ found
    → PartSays begins_line bytes (word_part found)
word_says begins_line bytes None c h = tt
word_says begins_line bytes (Some word) c h =
    let w = word_taken bytes word.0 word.1 h in
    let size = w.size_is in
    record {
      text = w.word;
      rest = w.rest;
      is = w.is;
      size_is = size;
      stands =
          (w.can, w.longest, subst (λ l. begins_comment l ≡ false) w.is c);
      longer = omega (arith, size, word_longer word.0 w.word w.can);
    }

quoted_says : (begins_line : Bool) (quote : ℕ) (shape : Shape) (bytes : List ℕ) (found : Option ℕ) → IsTrue (quote == 34 || quote == 39)
    → ((word : List ℕ) → IsQuoted quote word → IsWord shape word) → (quote == 47) ≡ false → quoted_length quote false bytes ≡ found
    → PartSays begins_line (quote ∷ bytes) (closed (P.Word shape) 1 found)
quoted_says begins_line quote shape bytes None q can other h =
    inr (q, λ body after e inside. no_quoted quote false bytes body after (quote_no_line_feed quote q) h e inside)
quoted_says begins_line quote shape bytes (Some n) q can other h =
    let c = quoted_taken quote false bytes n h in
    let size = c.size in
    let word : List ℕ = quote ∷ c.body ++ quote ∷ [] in
    let quoted : IsQuoted quote word = (c.body, refl, c.inside) in
    record {
      text = word;
      rest = c.rest;
      is = ap (λ l. quote ∷ l) (c.is ∙ sym (append_assoc c.body (quote ∷ []) c.rest));
      size_is = omega (arith, size, length-append c.body (quote ∷ []));
      stands = (can word quoted, quoted_longest quote word c.rest q quoted, and_left _ _ other);
      longer = omega arith;
    }

some_directive : (found : Option Directive) → is_some found ≡ true → (d : Directive) × (found ≡ Some d)
some_directive None h = cc
some_directive (Some d) h = (d, refl)

directive_says : (begins_line : Bool) (bytes : List ℕ) → PartSays begins_line (35 ∷ bytes) (directive_part begins_line bytes)
directive_says begins_line bytes =
    let l = line_taken bytes in
    let size = l.size in
    let content : take (line_length bytes) bytes ≡ l.body = ap (λ n. take n bytes) size ∙ ap (take (length l.body)) l.is ∙ take-append_seam l.body l.rest in
    cond_both _ _ _ (PartSays begins_line (35 ∷ bytes))
    (λ h.
    let a = and_parts begins_line (is_some (directive_in (take (line_length bytes) bytes))) h in
    let d = some_directive _ a.1 in
    record {
      text = 35 ∷ l.body;
      rest = l.rest;
      is = ap (λ l. 35 ∷ l) l.is;
      size_is = omega (arith, size);
      stands = (l.body, d.0, refl, a.0, l.within, l.ends, directive_taken l.body d.0 (subst (λ l. directive_in l ≡ Some d.0) content d.1));
      longer = omega arith;
    })
    (λ h. tt)

comment_says : (begins_line : Bool) (bytes : List ℕ) (found : Option ℕ) → comment_length false bytes ≡ found
    → PartSays begins_line (47 ∷ 42 ∷ bytes) (closed P.Comment 2 found)
comment_says begins_line bytes None h = inl (refl, bytes, refl, endless_taken bytes h)
comment_says begins_line bytes (Some n) h =
    let c = comment_taken bytes n h in
    let size = c.size in
    record {
      text = 47 ∷ 42 ∷ c.body ++ 42 ∷ 47 ∷ [];
      rest = c.rest;
      is = ap (λ l. 47 ∷ 42 ∷ l) (c.is ∙ sym (append_assoc c.body (42 ∷ 47 ∷ []) c.rest));
      size_is = omega (arith, size, length-append c.body (42 ∷ 47 ∷ []));
      stands = (c.body, refl, c.no_end);
      longer = omega arith;
    }

line_comment_says : (begins_line : Bool) (bytes : List ℕ) → PartSays begins_line (47 ∷ 47 ∷ bytes) (Ok (P.LineComment, line_length bytes + 2))
line_comment_says begins_line bytes =
    let l = line_taken bytes in
    let size = l.size in
    record {
      text = 47 ∷ 47 ∷ l.body;
      rest = l.rest;
      is = ap (λ l. 47 ∷ 47 ∷ l) l.is;
      size_is = omega (arith, size);
      stands =
          (l.body, refl, l.within, l.ends);
      longer = omega arith;
    }

no_comment : (bytes : List ℕ) → begins (λ c. c == 42) bytes ≡ false → begins (λ c. c == 47) bytes ≡ false → begins_comment (47 ∷ bytes) ≡ false
no_comment [] s l = refl
no_comment (b ∷ bytes) s l = or_from _ _ s l

slash_says : (begins_line : Bool) (bytes : List ℕ) → PartSays begins_line (47 ∷ bytes) (slash_part (47 ∷ bytes))
slash_says begins_line bytes =
    cond_both (begins (λ c. c == 42) bytes) _ _ (PartSays begins_line (47 ∷ bytes))
    (λ s. let r = begins_byte 42 bytes s in subst (λ l. PartSays begins_line (47 ∷ l) (closed P.Comment 2 (comment_length false (drop 1 l))))
    (sym r.1) (comment_says begins_line r.0 _ refl))
    (λ s. cond_both (begins (λ c. c == 47) bytes) _ _ (PartSays begins_line (47 ∷ bytes))
    (λ l. let r = begins_byte 47 bytes l in subst (λ l. PartSays begins_line (47 ∷ l) (Ok (P.LineComment, line_length (drop 1 l) + 2))) (sym r.1)
    (line_comment_says begins_line r.0))
    (λ l. word_says begins_line (47 ∷ bytes) _ (no_comment bytes s l) refl))

white_says : (begins_line : Bool) (b : ℕ) (bytes : List ℕ) → is_white b ≡ true → Standing begins_line (b ∷ bytes) P.White 1
white_says begins_line b bytes h = record { text = b ∷ []; rest = bytes; is = refl; size_is = refl; stands = (b, refl, h); longer = omega arith }

-- at a byte that is known
at_byte : (begins_line : Bool) (b c : ℕ) (bytes : List ℕ) (r : ℕ → Result (PartKind × ℕ) FaultKind) → (b == c) ≡ true
    → PartSays begins_line (c ∷ bytes) (r c) → PartSays begins_line (b ∷ bytes) (r b)
at_byte begins_line b c bytes r e p = subst (λ b. PartSays begins_line (b ∷ bytes) (r b)) (sym (eqb-true b c e)) p

part_says : (begins_line : Bool) (bytes : List ℕ) → PartSays begins_line bytes (part_at begins_line bytes)
unfolding part_at
part_says begins_line [] = tt
part_says begins_line (b ∷ bytes) =
    let says : Result (PartKind × ℕ) FaultKind → Type 0 = PartSays begins_line (b ∷ bytes) in
    cond_both (is_white b) _ _ says (white_says begins_line b bytes)
    (λ _. cond_both (b == 47) _ _ says (λ e. at_byte begins_line b 47 bytes (λ b. slash_part (b ∷ bytes)) e (slash_says begins_line bytes))
    (λ slash. cond_both (b == 35) _ _ says (λ e. at_byte begins_line b 35 bytes (λ b. directive_part begins_line bytes) e (directive_says begins_line bytes))
    (λ _. cond_both (b == 39) _ _ says (λ e. at_byte begins_line b 39 bytes (λ b. closed (P.Word S.Character) 1 (quoted_length 39 false bytes)) e
    (quoted_says begins_line 39 S.Character bytes _ refl (λ word w. w) refl refl))
    (λ _. cond_both (b == 34) _ _ says (λ e. at_byte begins_line b 34 bytes (λ b. closed (P.Word S.Text) 1 (quoted_length 34 false bytes)) e
    (quoted_says begins_line 34 S.Text bytes _ refl (λ word w. w) refl refl))
    (λ _. word_says begins_line (b ∷ bytes) _ (and_left _ _ slash) refl)))))

pub part_taken : (begins_line : Bool) (bytes : List ℕ) (kind : PartKind) (size : ℕ) → part_at begins_line bytes ≡ Ok (kind, size)
    → Standing begins_line bytes kind size
part_taken begins_line bytes kind size h = subst (PartSays begins_line bytes) h (part_says begins_line bytes)

-- ---- what stands there is read

-- the part goes up to an end that was found
closed_read : (kind : PartKind) (front n size : ℕ) (found : Option ℕ) → found ≡ Some n → front + n ≡ size → closed kind front found ≡ Ok (kind, size)
closed_read kind front n size found h e = rw h (ap (λ m. Ok (kind, m)) e)

-- no white space, no quote, and no '#'
abbrev begins_unquoted : ℕ → Bool
begins_unquoted b = not (is_white b || b == 34 || b == 35 || b == 39)

comment_bytes : (bytes : List ℕ) → begins_comment (47 ∷ bytes) ≡ false → (begins (λ c. c == 42) bytes ≡ false) × (begins (λ c. c == 47) bytes ≡ false)
comment_bytes [] h = (refl, refl)
comment_bytes (b ∷ bytes) h = or_parts (b == 42) (b == 47) h

slash_read : (bytes : List ℕ) → begins_comment (47 ∷ bytes) ≡ false → slash_part (47 ∷ bytes) ≡ word_part (word_at (47 ∷ bytes))
slash_read bytes h = let e = comment_bytes bytes h in cond-false _ _ _ e.0 ∙ cond-false _ _ _ e.1

-- at such a byte no part but a word or a comment begins
unquoted_read : (begins_line : Bool) (b : ℕ) (bytes : List ℕ) → begins_unquoted b ≡ true → begins_comment (b ∷ bytes) ≡ false
    → part_from begins_line b bytes ≡ word_part (word_at (b ∷ bytes))
unquoted_read begins_line b bytes h c =
    let white : is_white b ≡ false = grind (arith, nat_tests) in
    let hash : (b == 35) ≡ false = grind (arith, nat_tests) in
    let single : (b == 39) ≡ false = grind (arith, nat_tests) in
    let double : (b == 34) ≡ false = grind (arith, nat_tests) in
    cond-false _ _ _ white
    ∙ cond_both (b == 47) (slash_part (b ∷ bytes)) _ (λ r. r ≡ word_part (word_at (b ∷ bytes)))
    (λ e. let same = eqb-true b 47 e in subst (λ b. slash_part (b ∷ bytes) ≡ word_part (word_at (b ∷ bytes))) (sym same)
    (slash_read bytes (subst (λ b. begins_comment (b ∷ bytes) ≡ false) same c)))
    (λ e. cond-false _ _ _ hash ∙ cond-false _ _ _ single ∙ cond-false _ _ _ double)

unquoted_begins : (shape : Shape) (b : ℕ) → IsUnquoted shape → begins_shape shape b ≡ true → begins_unquoted b ≡ true
unquoted_begins S.Name b u h = grind (arith, nat_tests)
unquoted_begins S.Number b u h = grind (arith, nat_tests)
unquoted_begins S.Character b u h = absurd u
unquoted_begins S.Text b u h = absurd u
unquoted_begins (S.Punctuator punctuator) b u h = grind (arith, nat_tests)

unquoted_word : (begins_line : Bool) (shape : Shape) (word rest : List ℕ) → IsUnquoted shape → Stands begins_line (P.Word shape) word rest
    → part_at begins_line (word ++ rest) ≡ Ok (P.Word shape, length word)
unfolding part_at
unquoted_word begins_line shape [] rest u s = let h = word_begins shape [] s.0 in cc
unquoted_word begins_line shape (b ∷ word) rest u s =
    unquoted_read begins_line b (word ++ rest) (unquoted_begins shape b u (word_begins shape (b ∷ word) s.0)) s.2
    ∙ ap word_part (word_read shape (b ∷ word) rest s.0 s.1 u)

quoted_size : (quote : ℕ) (body rest : List ℕ) → IsTrue (quote == 34 || quote == 39) → IsInside quote false body
    → quoted_length quote false (body ++ quote ∷ [] ++ rest) ≡ Some (length body + 1)
quoted_size quote body rest q inside = ap (quoted_length quote false) (append_assoc body (quote ∷ []) rest)
    ∙ quoted_read quote false body rest (quote_no_line_feed quote q) inside

quoted_word : (kind : PartKind) (quote : ℕ) (body rest : List ℕ) → IsTrue (quote == 34 || quote == 39) → IsInside quote false body
    → closed kind 1 (quoted_length quote false (body ++ quote ∷ [] ++ rest)) ≡ Ok (kind, length (quote ∷ body ++ quote ∷ []))
quoted_word kind quote body rest q inside = closed_read kind 1 (length body + 1) _ _ (quoted_size quote body rest q inside)
    (omega (arith, length-append body (quote ∷ [])))

comment_found : (body rest : List ℕ) → has_end body ≡ false → closed P.Comment 2 (comment_length false (body ++ 42 ∷ 47 ∷ [] ++ rest))
    ≡ Ok (P.Comment, length (47 ∷ 42 ∷ body ++ 42 ∷ 47 ∷ []))
comment_found body rest no_end =
    closed_read P.Comment 2 (length body + 2) _ _ (ap (comment_length false) (append_assoc body (42 ∷ 47 ∷ []) rest) ∙ comment_read body rest no_end)
    (omega (arith, length-append body (42 ∷ 47 ∷ [])))

same_size : (kind : PartKind) (m n : ℕ) → m ≡ n → ◌≡◌ {A = Result (PartKind × ℕ) FaultKind} (Ok (kind, m)) (Ok (kind, n))
same_size kind m n e = ap (λ k. Ok (kind, k)) e

line_comment_found : (body rest : List ℕ) → HasNoLineFeed body → IsLineEnd rest
    → ◌≡◌ {A = Result (PartKind × ℕ) FaultKind} (Ok (P.LineComment, line_length (body ++ rest) + 2)) (Ok (P.LineComment, length (47 ∷ 47 ∷ body)))
line_comment_found body rest within ends = let e = line_read body rest within ends in same_size P.LineComment _ _ (omega (arith, e))

directive_found : (begins_line : Bool) (content rest : List ℕ) (directive : Directive) → IsTrue begins_line → HasNoLineFeed content → IsLineEnd rest
    → IsDirective content directive → directive_part begins_line (content ++ rest) ≡ Ok (P.Directive, length (35 ∷ content))
directive_found begins_line content rest directive b within ends d =
    let size = line_read content rest within ends in
    let line : take (line_length (content ++ rest)) (content ++ rest) ≡ content = ap (λ n. take n (content ++ rest)) size ∙ take-append_seam content rest in
    let found = ap directive_in line ∙ directive_read content directive d in
    cond-true _ _ _ (and_from _ _ b (ap is_some found)) ∙ same_size P.Directive _ _ (omega (arith, size))

pub part_read : (begins_line : Bool) (kind : PartKind) (text rest : List ℕ) → Stands begins_line kind text rest → part_at begins_line (text ++ rest)
    ≡ Ok (kind, length text)
unfolding part_at
part_read begins_line P.White text rest (b, is, white) = rw (is, white) refl
part_read begins_line P.Comment text rest (body, is, no_end) = rw is (comment_found body rest no_end)
part_read begins_line P.LineComment text rest (body, is, within, ends) = rw is (line_comment_found body rest within ends)
part_read begins_line P.Directive text rest (content, directive, is, b, within, ends, d) =
    rw is (directive_found begins_line content rest directive b within ends d)
part_read begins_line (P.Word S.Name) text rest s = unquoted_word begins_line S.Name text rest tt s
part_read begins_line (P.Word S.Number) text rest s = unquoted_word begins_line S.Number text rest tt s
part_read begins_line (P.Word S.Character) text rest ((body, is, inside), longest, c) = rw is (quoted_word (P.Word S.Character) 39 body rest refl inside)
part_read begins_line (P.Word S.Text) text rest ((body, is, inside), longest, c) = rw is (quoted_word (P.Word S.Text) 34 body rest refl inside)
part_read begins_line (P.Word (S.Punctuator punctuator)) text rest s = unquoted_word begins_line (S.Punctuator punctuator) text rest tt s

-- ---- faults

unclosed_comment : (begins_line : Bool) (body : List ℕ) → has_end body ≡ false → part_at begins_line (47 ∷ 42 ∷ body) ≡ Err F.Unclosed
unfolding part_at
unclosed_comment begins_line body h = ap (closed P.Comment 2) (endless_read body h)

-- no bytes before a quote stand inside
abbrev NeverCloses : List ℕ → ℕ → Type 0
NeverCloses bytes quote = (body after : List ℕ) → bytes ≡ body ++ quote ∷ after → IsInside quote false body → ⊥

endless_quoted : (quote : ℕ) (bytes : List ℕ) → NeverCloses bytes quote → quoted_length quote false bytes ≡ None
endless_quoted quote bytes none = none_from (quoted_length quote false bytes) refl
  where
    none_from : (found : Option ℕ) → quoted_length quote false bytes ≡ found → found ≡ None
    none_from None h = refl
    none_from (Some n) h = let c = quoted_taken quote false bytes n h in absurd (none c.body c.rest c.is c.inside)

unclosed_text : (begins_line : Bool) (bytes : List ℕ) → NeverCloses bytes 34 → part_at begins_line (34 ∷ bytes) ≡ Err F.Unclosed
unfolding part_at
unclosed_text begins_line bytes none = ap (closed (P.Word S.Text) 1) (endless_quoted 34 bytes none)

unclosed_character : (begins_line : Bool) (bytes : List ℕ) → NeverCloses bytes 39 → part_at begins_line (39 ∷ bytes) ≡ Err F.Unclosed
unfolding part_at
unclosed_character begins_line bytes none = ap (closed (P.Word S.Character) 1) (endless_quoted 39 bytes none)

pub unclosed_read : (begins_line : Bool) (bytes : List ℕ) → IsUnclosed bytes → part_at begins_line bytes ≡ Err F.Unclosed
unclosed_read begins_line [] u = absurd u
unclosed_read begins_line (b ∷ bytes) (inl (slash, body, is, no_end)) =
    let e : b ∷ bytes ≡ 47 ∷ 42 ∷ body = cc (slash, is) in
    ap (part_at begins_line) e ∙ unclosed_comment begins_line body no_end
unclosed_read begins_line (b ∷ bytes) (inr (quote, none)) =
    ⊎_elim
    (λ e. let same = eqb-true b 34 e in ap (λ b. part_at begins_line (b ∷ bytes)) same ∙ unclosed_text begins_line bytes (subst (NeverCloses bytes) same none))
    (λ e. let same = eqb-true b 39 e in ap (λ b. part_at begins_line (b ∷ bytes)) same
    ∙ unclosed_character begins_line bytes (subst (NeverCloses bytes) same none))
    (or_cases (b == 34) (b == 39) quote)

pub fault_taken : (begins_line : Bool) (bytes : List ℕ) (fault : FaultKind) → (bytes ≡ [] → ⊥) → part_at begins_line bytes ≡ Err fault
    → HasFault fault begins_line bytes
fault_taken begins_line bytes F.BadByte n h = (
  n,
  (λ u. let e = unclosed_read begins_line bytes u in cc (e, h)),
  λ kind text rest is s. let e : part_at begins_line bytes
      ≡ Ok (kind, length text) = ap (part_at begins_line) is ∙ part_read begins_line kind text rest s in cc (e, h),
)
fault_taken begins_line bytes F.Unclosed n h = subst (PartSays begins_line bytes) h (part_says begins_line bytes)
fault_taken begins_line bytes F.BadLiteral n h = absurd (subst (PartSays begins_line bytes) h (part_says begins_line bytes))
fault_taken begins_line bytes F.TooWide n h = absurd (subst (PartSays begins_line bytes) h (part_says begins_line bytes))

bad_byte_from : (begins_line : Bool) (bytes : List ℕ) (r : Result (PartKind × ℕ) FaultKind) → PartSays begins_line bytes r
    → HasFault F.BadByte begins_line bytes → r ≡ Err F.BadByte
bad_byte_from begins_line bytes (Ok part) s h = absurd (h.2 part.0 s.text s.rest s.is s.stands)
bad_byte_from begins_line bytes (Err F.BadByte) s h = refl
bad_byte_from begins_line bytes (Err F.Unclosed) s h = absurd (h.1 s)
bad_byte_from begins_line bytes (Err F.BadLiteral) s h = absurd s
bad_byte_from begins_line bytes (Err F.TooWide) s h = absurd s

pub bad_byte_read : (begins_line : Bool) (bytes : List ℕ) → HasFault F.BadByte begins_line bytes → part_at begins_line bytes ≡ Err F.BadByte
bad_byte_read begins_line bytes h = bad_byte_from begins_line bytes (part_at begins_line bytes) (part_says begins_line bytes) h
