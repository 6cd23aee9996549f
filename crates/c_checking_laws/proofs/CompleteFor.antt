-- `for`: the typed statement is the one that is found, where declarations are (C99 6.8.5.3).
use Rattle.std.proofs.Common.{◌≡◌, ◌≢◌, ℕ, Bool, true, false, List, [], ◌∷◌, ◌++◌, length, length-append, refl, sym}
use Rattle.std.proofs.Common.{ap, ◌∙◌, subst, arith}
use Rattle.std.specs.Prelude.{Option, Some, None, Ok}
use Rattle.std.specs.Option.{option_map}
use Rattle.c_types.specs.Types.{CType}
use Rattle.c_ast.specs.Trees
use Rattle.c_ast.specs.Places.{first_specifiers}
use Rattle.c_typed.specs.Trees as Typed
use Rattle.c_typed.specs.Mapped.{of_types, mapped}
use Rattle.c_typed.specs.TypedStatements.{declared_by, all_declared, all_declared_by, IsCondition, IsEffect}
use Rattle.c_erasure.specs.Noted.{Expression}
use Rattle.c_erasure.specs.Scopes.{ALocal, Bound, FileScope, Scope, in_full, declared, inside}
use Rattle.c_erasure.specs.Specifiers.{Storage, no_storage, a_typedef, is_extern, is_static, is_auto, is_register, several, storage_of}
use Rattle.c_erasure.specs.Statements.{Statement, Statements, ErasesStatement, IsPlainIfAny, IsStart}
use Rattle.c_erasure.specs.Checking.Answers.{Answer, ◌>>=◌}
use Rattle.c_erasure.specs.Checking.Statements.{Performed, value_if_any, condition_if_any, unless_static, start_of}
use Rattle.c_erasure.specs.Checking.Statements.{local_declaration, leaving, performed}
use Rattle.c_checking_laws.proofs.Results.{ok}
use Rattle.c_checking_laws.proofs.CompleteNodes.{some}
use Rattle.c_checking_laws.proofs.CompleteWalk.{Event, walk}
use Rattle.c_checking_laws.proofs.CompletePart.{Lists, IsWhole, IsBefore, IsAfter, none_after}
use Rattle.c_checking_laws.proofs.CompleteFit.{IsFit, fit_after, fit_inside}
use Rattle.c_checking_laws.proofs.CompletePart.{left_seen, right_seen, then_seen}
use Rattle.c_checking_laws.proofs.CompleteStatements.{walk_of_statement, walk_of_start, walk_of_option, numbered_left, numbered_right}
use Rattle.c_checking_laws.proofs.CompleteStatements.{inner, outer, Seen, found_plain, found_condition, by_statement, AreNumbered}
use Rattle.c_checking_laws.proofs.CompleteBlocks.{FoundAll, CompletesDeclaration, Is, AreTypedHere}

unless_back : {A : Type 0} (at : ℕ) (v : Storage) (r : Answer A) → v ≢ is_static → unless_static at v r ≡ r
unless_back at no_storage r h = refl
unless_back at a_typedef r h = refl
unless_back at is_extern r h = refl
unless_back at is_static r h = absurd (h refl)
unless_back at is_auto r h = refl
unless_back at is_register r h = refl
unless_back at several r h = refl

module _ (g : FileScope) (w : IsWhole g) (ls : List ALocal) (result : CType) (own : Trees.Declaration → List Event) where
  -- ---- an expression, or none

  record FoundOption (b : List (List Bound)) (l : List ALocal) (c : Lists) (o : Option Trees.Expression) (r : Performed (Option Expression))
      (t : Option Expression) : Type 0 where
    pub lists : Lists
    pub is : r ≡ Ok (t, inner g w ls b l lists)
    pub after : IsAfter g c (Seen g w ls (walk_of_option g.untagged own o)) lists

  abbrev AsTyped : Option Expression → Option (Typed.Expression CType)
  AsTyped t = option_map (mapped (of_types (λ t. t.ty))) t

  test_complete : (o : Option Trees.Expression) (b : List (List Bound)) (l : List ALocal) (c : Lists) (t : Option Expression) → IsFit g c b
      → IsBefore g c (Seen g w ls (walk_of_option g.untagged own o)) → IsPlainIfAny o (outer g w ls b) t → IsCondition (declared (outer g w ls b)) (AsTyped t)
      → FoundOption b l c o (condition_if_any o (inner g w ls b l c)) t
  test_complete None b l c t f e h k = record { lists = c; is = ap (λ t. ok (t, inner g w ls b l c)) (sym h); after = none_after g c [] e refl refl refl }
  test_complete (Some a) b l c t f e h k =
      let k = subst (λ t. IsCondition (declared (outer g w ls b)) (AsTyped t)) h.1 k in
      let z = found_condition g w ls a b l c h.0 f e h.2 k.0 k.1 in
      record {
        lists = z.lists;
        is = ap (λ r. r >>= λ x. ok (some x.0, x.1)) z.is ∙ ap (λ t. ok (t, inner g w ls b l z.lists)) (sym h.1);
        after = z.after;
      }

  effect_complete : (o : Option Trees.Expression) (b : List (List Bound)) (l : List ALocal) (c : Lists) (t : Option Expression)
      → IsFit g c b
      → IsBefore g c (Seen g w ls (walk_of_option g.untagged own o)) → IsPlainIfAny o (outer g w ls b) t → IsEffect (declared (outer g w ls b)) (AsTyped t)
      → FoundOption b l c o (value_if_any o (inner g w ls b l c)) t
  effect_complete None b l c t f e h k = record { lists = c; is = ap (λ t. ok (t, inner g w ls b l c)) (sym h); after = none_after g c [] e refl refl refl }
  effect_complete (Some a) b l c t f e h k =
      let k = subst (λ t. IsEffect (declared (outer g w ls b)) (AsTyped t)) h.1 k in
      let z = found_plain g w ls a b l c h.0 f e h.2.0 k.0 in
      record {
        lists = z.lists;
        is = ap (λ r. r >>= λ x. ok (some x.0, x.1)) z.is
            ∙ ap (λ x. ok (some x, inner g w ls b l z.lists)) h.2.1 ∙ ap (λ t. ok (t, inner g w ls b l z.lists)) (sym h.1);
        after = z.after;
      }

  -- ---- what stands first

  start_complete : (start : Trees.ForStart) → ((d : Trees.Declaration) → CompletesDeclaration g w ls result own d)
      → (b : List (List Bound)) (l : List ALocal) (c : Lists) (all : Statements) (after : Scope) → IsFit g c b
      → IsBefore g c (Seen g w ls (walk_of_start g.untagged own start)) → (more : List ALocal) × (ls ≡ l ++ more)
      → IsStart start (outer g w ls b) all after → AreTypedHere g w ls result own b false false all → AreNumbered (length l) (all_declared_by all)
      → FoundAll g w ls result own b l c (walk_of_start g.untagged own start) (start_of start (inner g w ls b l c)) all after
  start_complete (Trees.starts_with None semicolon) d b l c all after f e p h k n = record {
    blocks = b;
    is_after = h.1;
    performs = record {
      lists = c;
      locals = l;
      is = ap (λ all. ok (all, inner g w ls b l c)) (sym h.0);
      after = none_after g c [] e refl refl refl;
      count = let m = ap length (ap all_declared_by h.0) in omega (arith, m);
      rest = p;
    };
    fit = f;
  }
  start_complete (Trees.starts_with (Some a) semicolon) d b l c all after f e p h k n =
      let k = subst (AreTypedHere g w ls result own b false false) h.1 k in
      let z = found_plain g w ls a b l c h.0 f e h.2.0 k.0.0 in
      record {
        blocks = b;
        is_after = h.3;
        performs = record {
          lists = z.lists;
          locals = l;
          is = ap (λ r. r >>= λ x. ok (Typed.and_statement (Typed.evaluate x.0) Typed.no_statements, x.1)) z.is
              ∙ ap (λ x. ok (Typed.and_statement (Typed.evaluate x) Typed.no_statements, inner g w ls b l z.lists)) h.2.1
              ∙ ap (λ all. ok (all, inner g w ls b l z.lists)) (sym h.1);
          after = z.after;
          count = let m = ap length (ap all_declared_by h.1) in omega (arith, m);
          rest = p;
        };
        fit = fit_after g c z.lists b (walk g.untagged a) z.after f;
      }
  start_complete (Trees.declares x) d b l c all after f e p h k n =
      let z = d x b l c all after false false f e p h.0 k n in
      let q = z.performs in
      record {
        blocks = z.blocks;
        is_after = z.is_after;
        performs = record {
          lists = q.lists;
          locals = q.locals;
          is = unless_back (first_specifiers x.specs) (storage_of x.specs) (local_declaration x (inner g w ls b l c)) h.1 ∙ q.is;
          after = q.after;
          count = q.count;
          rest = q.rest;
        };
        fit = z.fit;
      }

  for_joined : (at begin : ℕ) (start : Trees.ForStart) (test : Option Trees.Expression) (semicolon : ℕ) (step : Option Trees.Expression) (end : ℕ)
      (body : Trees.Statement) (loop switch : Bool) (s s1 s2 s3 s4 : Scope) (all : Statements) (t e : Option Expression) (x : Statement)
      → start_of start (inside s) ≡ Ok (all, s1) → condition_if_any test s1 ≡ Ok (t, s2) → value_if_any step s2 ≡ Ok (e, s3)
      → performed result body s3 true switch ≡ Ok (x, s4)
      → performed result (Trees.for at begin start test semicolon step end body) s loop switch ≡ Ok (Typed.for (declared_by all) all t e x, leaving s s4)
  unfolding performed
  for_joined at begin start test semicolon step end body loop switch s s1 s2 s3 s4 all t e x a b c d = rw (a, b, c, d) refl

  pub for_complete : (at begin : ℕ) (start : Trees.ForStart) (test : Option Trees.Expression) (semicolon : ℕ) (step : Option Trees.Expression) (end : ℕ)
      (body : Trees.Statement) → ((d : Trees.Declaration) → CompletesDeclaration g w ls result own d) → Is g w ls result own body
      → Is g w ls result own (Trees.for at begin start test semicolon step end body)
  for_complete at begin start test semicolon step end body d i b l c t loop switch f e p h k n =
      by_statement g w ls result own (Trees.for at begin start test semicolon step end body) b l c loop switch t _ h.5
      (λ k n.
      let w1 = walk_of_start g.untagged own start in
      let e3 = left_seen g true in_full c (walk_of_start g.untagged own start ++ walk_of_option g.untagged own test
      ++ walk_of_option g.untagged own step) (walk_of_statement g.untagged own body) e in
      let e2 = left_seen g true in_full c (walk_of_start g.untagged own start ++ walk_of_option g.untagged own test)
      (walk_of_option g.untagged own step) e3 in
      let e1 = left_seen g true in_full c (walk_of_start g.untagged own start) (walk_of_option g.untagged own test) e2 in
      let z = start_complete start d ([] ∷ b) l c h.0 h.1 (fit_inside g c b f) e1 p h.6 k.1
      (numbered_left (length l) (all_declared_by h.0) (all_declared h.4) n) in
      let q = z.performs in
      let r = test_complete test z.blocks q.locals q.lists h.2 z.fit
      (right_seen g true in_full c q.lists (walk_of_start g.untagged own start) (walk_of_option g.untagged own test) e2 q.after)
      (subst (λ s. IsPlainIfAny test s h.2) z.is_after h.7) k.2 in
      let a2 = then_seen g true in_full c q.lists r.lists (walk_of_start g.untagged own start) (walk_of_option g.untagged own test) q.after r.after in
      let fit2 = fit_after g q.lists r.lists z.blocks (walk_of_option g.untagged own test) r.after z.fit in
      let v = effect_complete step z.blocks q.locals r.lists h.3 fit2
      (right_seen g true in_full c r.lists (walk_of_start g.untagged own start ++ walk_of_option g.untagged own test)
      (walk_of_option g.untagged own step) e3 a2)
      (subst (λ s. IsPlainIfAny step s h.3) z.is_after h.8) k.3 in
      let a3 = then_seen g true in_full c r.lists v.lists (walk_of_start g.untagged own start ++ walk_of_option g.untagged own test)
      (walk_of_option g.untagged own step) a2 v.after in
      let fit3 = fit_after g r.lists v.lists z.blocks (walk_of_option g.untagged own step) v.after fit2 in
      let m = i z.blocks q.locals v.lists h.4 true switch fit3
      (right_seen g true in_full c v.lists (walk_of_start g.untagged own start ++ walk_of_option g.untagged own test
      ++ walk_of_option g.untagged own step) (walk_of_statement g.untagged own body) e a3)
      q.rest (subst (λ s. ErasesStatement body s h.4) z.is_after h.9) k.4
      (numbered_right (length l) (length q.locals) (all_declared_by h.0) (all_declared h.4) q.count n) in
      let y = length-append (all_declared_by h.0) (all_declared h.4) in
      record {
        lists = m.lists;
        locals = m.locals;
        is = for_joined at begin start test semicolon step end body loop switch (inner g w ls b l c) (inner g w ls z.blocks q.locals q.lists)
            (inner g w ls z.blocks q.locals r.lists) (inner g w ls z.blocks q.locals v.lists) (inner g w ls z.blocks m.locals m.lists)
            h.0 h.2 h.3 h.4 q.is r.is v.is m.is;
        after = then_seen g true in_full c v.lists m.lists (walk_of_start g.untagged own start ++ walk_of_option g.untagged own test
            ++ walk_of_option g.untagged own step) (walk_of_statement g.untagged own body) a3 m.after;
        count = omega (arith, q.count, m.count, y);
        rest = m.rest;
      }) k n
