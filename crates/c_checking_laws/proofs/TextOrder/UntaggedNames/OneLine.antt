-- A place has one presumed line and file (C99 6.10.4), so a structure without a tag has one name.
use Rattle.std.proofs.Common.{◌≡◌, ◌≢◌, ℕ, ◌+◌, Bool, true, List, [], ◌∷◌, ◌++◌, take, drop, length, Option, Some, Ok, refl, sym, ap, ◌∙◌}
use Rattle.std.proofs.Common.{subst, arith, append-nil, length-append, inl, inr}
use Rattle.std.proofs.Math.Seq.{take-append_seam, drop-append_seam}
use Rattle.std.proofs.lemmas.List.Elements.{recursion_from_All}
use Rattle.std.specs.List.{AllByRecursion}
use Rattle.std.specs.Prelude.{◌⊎◌, filter, nat_le}
use Rattle.lay_base.specs.declared.faults.Keyword.TheVariants as W
use Rattle.c_tokens.specs.declared.directive.Directive.{Directive}
use Rattle.c_tokens.specs.declared.part.PartKind.{PartKind}
use Rattle.c_tokens.specs.declared.part.PartKind.TheVariants as P
use Rattle.c_tokens.specs.declared.presumed.Presumed.{Presumed}
use Rattle.c_tokens.specs.declared.presumed.Lines.{Lines}
use Rattle.c_tokens.specs.declared.token.TokenKind.{TokenKind}
use Rattle.c_tokens.specs.declared.token.TokenKind.TheVariants as K
use Rattle.c_tokens.specs.Directives.{IsDirective}
use Rattle.c_lexer.specs.DirectiveScan.{directive_in}
use Rattle.c_tokens.specs.Parts.{Part, text_of, Stands, AreParts, begins_line_after_part}
use Rattle.c_tokens.specs.Presuming.{first_lines, after_directive, Moves, Presumes, IsPresumed}
use Rattle.c_lexer.specs.Scanning.{part_at}
use Rattle.c_lexer.proofs.DirectiveLines.{directive_read}
use Rattle.c_lexer.proofs.Exactness.{parts_are_exact}
use Rattle.c_lexer.proofs.OneReading.{same_answer}
use Rattle.c_lexer.proofs.WholeTexts.{part_long}
use Rattle.c_ast.specs.Spelling.{Lexeme}
use Rattle.c_erasure.specs.Untagged.{Line, name_in, IsLineOf, AreOnLine, AreTags, place_of_struct, structs_in, tag_text}
use Rattle.c_checking_laws.proofs.TextOrder.UntaggedNames.Agreeing.{AgreeFor, AgreeAlong}

-- ---- a text has one list of parts

read : (b : Bool) (part : Part) (parts : List Part) → Stands b part.kind part.text (text_of parts ++ [])
    → part_at b (text_of (part ∷ parts)) ≡ Ok (part.kind, length part.text)
read b part parts s =
    ap (λ rest. part_at b (part.text ++ rest)) (sym (append-nil (text_of parts)))
    ∙ parts_are_exact.part_read b part.kind part.text (text_of parts ++ []) s

no_part : (b : Bool) (part : Part) (parts : List Part) → Stands b part.kind part.text (text_of parts ++ []) → text_of (part ∷ parts) ≡ [] → ⊥
no_part b part parts s e =
    let long = part_long parts_are_exact b part (text_of parts ++ []) s in
    let size = length-append part.text (text_of parts) in
    let none = ap length e in
    omega (arith, long, size, none)

one_part : (x y : Part) → x.kind ≡ y.kind → x.text ≡ y.text → x ≡ y
one_part x y k t =
    let made : (kind : PartKind) → List ℕ → Part = λ kind text. record { kind = kind; text = text } in
    let same : made x.kind x.text ≡ made y.kind y.text = rw (k, t) refl in
    same

first_text : (x y xs ys : List ℕ) → x ++ xs ≡ y ++ ys → length x ≡ length y → (x ≡ y) × (xs ≡ ys)
first_text x y xs ys e l =
    let front : take (length x) (x ++ xs) ≡ x = take-append_seam x xs in
    let back : drop (length x) (x ++ xs) ≡ xs = drop-append_seam x xs in
    let other_front : take (length y) (y ++ ys) ≡ y = take-append_seam y ys in
    let other_back : drop (length y) (y ++ ys) ≡ ys = drop-append_seam y ys in (
      sym front ∙ ap (take (length x)) e ∙ ap (λ n. take n (y ++ ys)) l ∙ other_front,
      sym back ∙ ap (drop (length x)) e ∙ ap (λ n. drop n (y ++ ys)) l ∙ other_back,
    )

one_list : (b : Bool) (xs ys : List Part) → text_of xs ≡ text_of ys → AreParts b xs [] → AreParts b ys [] → xs ≡ ys
one_list b [] [] e h k = refl
one_list b [] (y ∷ ys) e h k = absurd (no_part b y ys k.0 (sym e))
one_list b (x ∷ xs) [] e h k = absurd (no_part b x xs h.0 e)
one_list b (x ∷ xs) (y ∷ ys) e h k =
    let both = same_answer (part_at b (text_of (x ∷ xs))) (x.kind, length x.text) (y.kind, length y.text) (read b x xs h.0)
    (ap (part_at b) e ∙ read b y ys k.0) in
    let kinds : x.kind ≡ y.kind = ap (λ z. z.0) both in
    let sizes : length x.text ≡ length y.text = ap (λ z. z.1) both in
    let texts = first_text x.text y.text (text_of xs) (text_of ys) e sizes in
    let same = one_part x y kinds texts.0 in
    ap (λ x. x ∷ xs) same
    ∙ ap (λ all. y ∷ all) (one_list (begins_line_after_part b x) xs ys texts.1 h.1 (subst (λ z. AreParts (begins_line_after_part b z) ys []) (sym same) k.1))

-- ---- and so one line at its end

one_directive : (content : List ℕ) (d e : Directive) → IsDirective content d → IsDirective content e → d ≡ e
one_directive content d e h k = same (directive_in content) (directive_read content d h) (directive_read content e k)
  where
    same : (o : Option Directive) → o ≡ Some d → o ≡ Some e → d ≡ e
    same o a b = cc

one_move : (at : ℕ) (kind : PartKind) (text : List ℕ) (before a b : Lines) → Moves at kind text before a → Moves at kind text before b → a ≡ b
one_move at P.Directive text before a b h k =
    let contents : h.0 ≡ k.0 = tails (sym h.2 ∙ k.2) in
    let same = one_directive k.0 h.1 k.1 (subst (λ content. IsDirective content h.1) contents h.3) k.3 in
    h.4 ∙ ap (λ d. after_directive at d before) same ∙ sym k.4
  where
    tails : {c d : List ℕ} → 35 ∷ c ≡ 35 ∷ d → c ≡ d
    tails e = cc
one_move at P.White text before a b h k = h ∙ sym k
one_move at P.Comment text before a b h k = h ∙ sym k
one_move at P.LineComment text before a b h k = h ∙ sym k
one_move at (P.Word shape) text before a b h k = h ∙ sym k

one_end : (at : ℕ) (parts : List Part) (before a b : Lines) → Presumes at parts before a → Presumes at parts before b → a ≡ b
one_end at [] before a b h k = h ∙ sym k
one_end at (part ∷ parts) before a b h k =
    let same = one_move at part.kind part.text before h.0 k.0 h.1 k.1 in
    one_end (at + length part.text) parts k.0 a b (subst (λ after. Presumes (at + length part.text) parts after a) same h.2) k.2

one_presumed : (bytes : List ℕ) (p q : Presumed) → IsPresumed bytes p → IsPresumed bytes q → p ≡ q
one_presumed bytes p q h k =
    let parts = one_list true h.parts k.parts (sym h.bytes_are ∙ k.bytes_are) h.are_parts k.are_parts in
    let last = one_end 0 k.parts first_lines h.last k.last (subst (λ parts. Presumes 0 parts first_lines h.last) parts h.presumes) k.presumes in
    h.here ∙ ap (λ (lines : Lines). lines.here) last ∙ sym k.here

-- ---- names of structures without a tag

module _ (name bytes : List ℕ) where
  one_line : (at : ℕ) (a b : Line) → IsLineOf name bytes at a → IsLineOf name bytes at b → a ≡ b
  one_line at a b h k =
      h.2 ∙ ap (λ (p : Presumed). (name_in name bytes p, p.line)) (one_presumed (take at bytes) h.0 k.0 h.1 k.1) ∙ sym k.2

  one_count : (places : List ℕ) (line : Line) (j k : ℕ) → AreOnLine name bytes places line j → AreOnLine name bytes places line k → j ≡ k
  one_count [] line j k h i = h ∙ sym i
  one_count (at ∷ places) line j k h i =
      by_cases (one_line at h.0 i.0 h.2 i.2) (one_count places line h.1 i.1 h.3 i.3) h.4 i.4
    where
      by_cases : h.0 ≡ i.0 → h.1 ≡ i.1 → ((h.0 ≡ line) × (j ≡ h.1 + 1)) ⊎ ((h.0 ≢ line) × (j ≡ h.1))
          → ((i.0 ≡ line) × (k ≡ i.1 + 1)) ⊎ ((i.0 ≢ line) × (k ≡ i.1)) → j ≡ k
      by_cases s n (inl a) (inl b) = a.1 ∙ ap (λ n. n + 1) n ∙ sym b.1
      by_cases s n (inl a) (inr b) = absurd (b.0 (sym s ∙ a.0))
      by_cases s n (inr a) (inl b) = absurd (a.0 (s ∙ b.0))
      by_cases s n (inr a) (inr b) = a.1 ∙ n ∙ sym b.1

  -- what is said of a structure by each function
  abbrev pub IsTagAt : List ℕ → (ℕ → List ℕ) → ℕ → Type 0
  IsTagAt structs untagged at = (line : Line) × (k : ℕ) × IsLineOf name bytes at line
      × AreOnLine name bytes (filter (λ other. nat_le other at) structs) line k × (untagged at ≡ tag_text line k)

  one_tag : (structs : List ℕ) (u v : ℕ → List ℕ) (at : ℕ) → IsTagAt structs u at → IsTagAt structs v at → u at ≡ v at
  one_tag structs u v at h k =
      let line = one_line at h.0 k.0 h.2 k.2 in
      let count = one_count (filter (λ other. nat_le other at) structs) k.0 h.1 k.1
      (subst (λ line. AreOnLine name bytes (filter (λ other. nat_le other at) structs) line h.1) line h.3) k.3 in
      h.4 ∙ ap (λ line. tag_text line h.1) line ∙ ap (tag_text k.0) count ∙ sym k.4

  -- along the tokens that have them
  along : (structs : List ℕ) (u v : ℕ → List ℕ) (tokens : List Lexeme) → AllByRecursion (IsTagAt structs u) (structs_in tokens)
      → AllByRecursion (IsTagAt structs v) (structs_in tokens) → AgreeAlong u v tokens
  along structs u v [] h k = tt
  along structs u v (t ∷ tokens) h k = by_kind t.kind t.from h k (λ h k. along structs u v tokens h k)
    where
      by_kind : (kind : TokenKind) (at : ℕ) → AllByRecursion (IsTagAt structs u) (place_of_struct kind at ++ structs_in tokens)
          → AllByRecursion (IsTagAt structs v) (place_of_struct kind at ++ structs_in tokens)
          → (AllByRecursion (IsTagAt structs u) (structs_in tokens) → AllByRecursion (IsTagAt structs v) (structs_in tokens) → AgreeAlong u v tokens)
          → AgreeFor u v kind at × AgreeAlong u v tokens
      by_kind (K.Keyword W.Struct) at h k later = (one_tag structs u v at h.0 k.0, later h.1 k.1)
      by_kind kind at h k later = (tt, later h k)

  -- two functions that give the names of a file's structures agree there
  pub tags_agree : (tokens : List Lexeme) (u v : ℕ → List ℕ) → AreTags name bytes (structs_in tokens) u → AreTags name bytes (structs_in tokens) v
      → AgreeAlong u v tokens
  tags_agree tokens u v h k =
      along (structs_in tokens) u v tokens (recursion_from_All (IsTagAt (structs_in tokens) u) (structs_in tokens) h)
      (recursion_from_All (IsTagAt (structs_in tokens) v) (structs_in tokens) k)
