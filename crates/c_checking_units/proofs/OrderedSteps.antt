-- The steps of a file stand in the order of its bytes, where its tokens come one after the other.
use Rattle.std.proofs.Common.{ℕ, suc, ◌+◌, ◌≤◌, ◌<◌, Bool, true, false, List, [], ◌∷◌, ◌++◌, Option, Some, None, sym, subst, arith}
use Rattle.std.specs.Prelude.{unwrap_or}
use Rattle.std.specs.List.{AllByRecursion}
use Rattle.c_checking_laws.proofs.CompleteLists.{froms_of}
use Rattle.c_tokens.specs.declared.punctuator.Punctuator.TheVariants as M
use Rattle.c_ast.specs.declared.words.Spelling.{Spelling}
use Rattle.c_ast.specs.Trees
use Rattle.c_ast.specs.Spelling.{Lexeme, punctuator, spelled_declarator, spelled_value, spelled_init_declarators, spelled_item, spelled_items}
use Rattle.c_ast.specs.Spelling.{spelled_declaration}
use Rattle.c_ast.specs.Spelling.{spelled_comma, spelled_block_items}
use Rattle.c_ast.specs.WellFormed.{IsComma, IsValue, AreInitDeclarators, IsDeclaration, IsItem, AreItems, types_after}
use Rattle.c_erasure.specs.Marks.{name_from, after_declarator}
use Rattle.c_erasure.specs.Scopes.{FileScope, in_full}
use Rattle.c_checking_laws.proofs.CompleteLocals.{walk_of_initializer, walk_of_initial}
use Rattle.c_checking_laws.proofs.CompleteOrder.{AreApart, AreInOrder, order_earlier, order_later, Walked, walked_specifiers}
use Rattle.c_checking_laws.proofs.CompleteWalk.{a_look, a_name, walk_of_declarator, walk_of_specifiers}
use Rattle.c_checking_units.proofs.Declarations.{steps_of_declaration}
use Rattle.c_checking_units.proofs.Declarators.{steps_if_named, steps_of_declarators}
use Rattle.c_checking_units.proofs.Definitions.{alone, steps_of_body, steps_if_defined, steps_of_definition}
use Rattle.c_checking_units.proofs.Filed.{IsWholeFile}
use Rattle.c_checking_units.proofs.Items.{steps_of_item, steps_of_items}
use Rattle.c_checking_units.proofs.Prepared.{steps_of_declarator}
use Rattle.c_checking_units.proofs.Steps.{Step, At}
use Rattle.c_checking_units.proofs.Following.{low_high, from_lower, from_both, froms_from, names_from}
use Rattle.c_checking_units.proofs.StepLists.{names_of, AreStepsInOrder}
use Rattle.c_checking_units.proofs.Walking.{apart_earlier, none, closed, filtered, walked_initializer, Behind, behind_name, name_there}
use Rattle.c_checking_units.proofs.Walking.{walked_items}

-- the tokens behind the comma or the semicolon at which declarators go on
abbrev behind_mark : List Trees.InitDeclarator → (semicolon : ℕ) → List Lexeme → List Lexeme
behind_mark [] semicolon rest = rest
behind_mark (d ∷ more) semicolon rest =
    spelled_declarator d.declarator (spelled_value d.value (spelled_init_declarators more (punctuator M.Semicolon semicolon ∷ rest)))

-- at a comma or the semicolon
behind_token : {low at to : ℕ} (tokens : List Lexeme) → low ≤ at → at < to → AreApart to tokens → (low ≤ at) × AreApart (suc at) tokens
behind_token {low} {at} {to} tokens l m h = (l, apart_earlier (suc at) to tokens (omega (arith, m)) h)

mark_apart : (types : List (List ℕ)) (all : List Trees.InitDeclarator) → AreInitDeclarators types false all → (semicolon low : ℕ) (rest : List Lexeme)
    → AreApart low (spelled_init_declarators all (punctuator M.Semicolon semicolon ∷ rest))
    → (low ≤ after_declarator all semicolon) × AreApart (suc (after_declarator all semicolon)) (behind_mark all semicolon rest)
mark_apart types [] w semicolon low rest h = behind_token _ h.0 h.1 h.2
mark_apart types (d ∷ more) w semicolon low rest h = by_comma d.comma w.0 h
  where
    by_comma : (c : Option ℕ) → IsComma false c
        → AreApart low (spelled_comma c (behind_mark (d ∷ more) semicolon rest))
        → (low ≤ unwrap_or c semicolon)
        × AreApart (suc (unwrap_or c semicolon)) (behind_mark (d ∷ more) semicolon rest)
    by_comma None w h = cc
    by_comma (Some comma) w h = behind_token _ h.0 h.1 h.2

-- a name is in scope from the token behind its declarator on, and what initializes it stands behind that
record Valued (g : FileScope) (low from : ℕ) (value : Option (ℕ × Trees.Expression)) (rest : List Lexeme) : Type 0 where
  named : low ≤ from
  walk : Walked (suc from) (walk_of_initial g.untagged g.objects value) rest

module _ (g : FileScope) (types : List (List ℕ)) where
  valued : (value : Option (ℕ × Trees.Expression)) → IsValue types value → (more : List Trees.InitDeclarator) → AreInitDeclarators types false more
      → (semicolon low : ℕ) (rest : List Lexeme)
      → AreApart low (spelled_value value (spelled_init_declarators more (punctuator M.Semicolon semicolon ∷ rest)))
      → Valued g low (name_from value (after_declarator more semicolon)) value (behind_mark more semicolon rest)
  valued None v more w semicolon low rest h =
      let m = mark_apart types more w semicolon low rest h in record { named = m.0; walk = none m.1 }
  valued (Some value) v more w semicolon low rest h =
      let t = behind_token _ h.0 h.1 h.2 in
      let q = walked_initializer g.untagged g.objects types value.1 v (suc value.0) _ t.1 in
      let m = mark_apart types more w semicolon q.high rest q.apart in
      record {
        named = h.0;
        walk = record {
          high = suc (after_declarator more semicolon);
          in_order = order_later (suc value.0) (walk_of_initializer g.untagged g.objects value.1) q.high (suc (after_declarator more semicolon))
              (let l = m.0 in omega (arith, l)) q.in_order;
          apart = m.1;
        };
      }

  -- ---- a declarator with its name and what initializes it

  ordered_declarator : (d : Trees.InitDeclarator) (x : Spelling) (from low : ℕ) (tokens rest : List Lexeme) (steps : List Step)
      → Behind g.untagged g.objects types low d.declarator x x.from tokens
      → ((m : ℕ) → AreApart m tokens → Valued g m from d.value rest) → ((m : ℕ) → AreApart m rest → AreStepsInOrder m steps)
      → AreStepsInOrder low (steps_of_declarator g d x from steps)
  ordered_declarator d x from low tokens rest steps b v next =
      let own = At (walk_of_declarator g.untagged d.declarator) in
      let initial = At (walk_of_initial g.untagged g.objects d.value) in
      let p : Walked (suc x.from) own tokens = filtered false in_full b.walk in
      let q = v p.high p.apart in
      let r : Walked (suc from) initial rest = filtered false in_full q.walk in
      let s = next r.high r.apart in
      let a = b.begins_from in
      let e = b.begins_before in
      let l = low_high (suc x.from) own p.high p.in_order in
      let h = low_high (suc from) initial r.high r.in_order in
      let n = q.named in
      let begins : low ≤ x.from = omega (arith, a, e) in
      let begun : AreInOrder x.from (a_look x.from ∷ own) p.high =
      (omega arith, order_earlier x.from (suc x.from) own p.high (omega arith) p.in_order) in
      let named : AreInOrder p.high (a_name from ∷ []) (suc from) = (n, omega arith) in
      let later : AllByRecursion (λ m. suc x.from ≤ m) (froms_of initial ++ names_of steps) =
      from_both (suc x.from) (froms_of initial) (names_of steps)
      (from_lower (suc x.from) (suc from) (froms_of initial) (omega (arith, l, n)) (froms_from (suc from) initial r.high r.in_order))
      (from_lower (suc x.from) r.high (names_of steps) (omega (arith, l, n, h)) (names_from r.high steps s)) in
      let all : AllByRecursion (λ m. suc x.from ≤ m) (froms_of own ++ (from ∷ (froms_of initial ++ names_of steps))) =
      from_both (suc x.from) (froms_of own) (from ∷ (froms_of initial ++ names_of steps)) (froms_from (suc x.from) own p.high p.in_order)
      (omega (arith, l, n), later) in
      (begins, (p.high, begun, (suc from, named, (r.high, r.in_order, s))), all)

module _ (g : FileScope) (w : IsWholeFile g) where
  ordered_declarators : (types : List (List ℕ)) (lead : Bool) (all : List Trees.InitDeclarator) → AreInitDeclarators types lead all
      → (semicolon low : ℕ) (rest : List Lexeme) (steps : List Step) → AreApart low (behind_mark all semicolon rest)
      → ((m : ℕ) → AreApart m rest → AreStepsInOrder m steps) → AreStepsInOrder low (steps_of_declarators g w all semicolon steps)
  ordered_declarators types lead [] f semicolon low rest steps h next = next low h
  ordered_declarators types lead (d ∷ more) f semicolon low rest steps h next =
      let x = name_there d.declarator f.2 in
      let from = name_from d.value (after_declarator more semicolon) in
      let tokens = spelled_value d.value (spelled_init_declarators more (punctuator M.Semicolon semicolon ∷ rest)) in
      let later = steps_of_declarators g w more semicolon steps in
      subst (λ o. AreStepsInOrder low (steps_if_named g w d o from later)) (sym x.1)
      (ordered_declarator g types d x.0 from low tokens (behind_mark more semicolon rest) later
      (behind_name g.untagged g.objects types d.declarator f.1 x.0 x.1 x.0.from low tokens h)
      (λ m a. valued g types d.value f.3 more f.4 semicolon m rest a)
      (λ m a. ordered_declarators types false more f.4 semicolon m rest steps a next))

  first_mark : (types : List (List ℕ)) (all : List Trees.InitDeclarator) → AreInitDeclarators types true all → (semicolon low : ℕ) (rest : List Lexeme)
      → AreApart low (spelled_init_declarators all (punctuator M.Semicolon semicolon ∷ rest)) → (m : ℕ) × (low ≤ m) × AreApart m (behind_mark all semicolon rest)
  first_mark types [] f semicolon low rest h = (semicolon + 1, (let l = h.0 in omega (arith, l)), h.2)
  first_mark types (d ∷ more) f semicolon low rest h = by_comma d.comma f.0 h
    where
      by_comma : (c : Option ℕ) → IsComma true c
          → AreApart low (spelled_comma c (behind_mark (d ∷ more) semicolon rest))
          → (m : ℕ) × (low ≤ m) × AreApart m (behind_mark (d ∷ more) semicolon rest)
      by_comma None w h = (low, omega arith, h)
      by_comma (Some comma) w h = (comma + 1, (let l = h.0 in omega (arith, l)), h.2)

  ordered_declaration : (types : List (List ℕ)) (d : Trees.Declaration) → IsDeclaration types d → (low : ℕ) (rest : List Lexeme) (steps : List Step)
      → AreApart low (spelled_declaration d rest) → ((m : ℕ) → AreApart m rest → AreStepsInOrder m steps)
      → AreStepsInOrder low (steps_of_declaration g w d steps)
  ordered_declaration types d f low rest steps h next =
      let p = filtered false in_full (walked_specifiers g.untagged types d.specs f.0 low _ h) in
      let m = first_mark types d.all f.1 d.semicolon p.high rest p.apart in (
        m.0,
        order_later low (At (walk_of_specifiers g.untagged d.specs)) p.high m.0 m.1 p.in_order,
        ordered_declarators types true d.all f.1 d.semicolon m.0 rest steps m.2 next,
      )

  ordered_definition : (types : List (List ℕ)) (specs : Trees.Specifiers) (d : Trees.Declarator) (left : ℕ) (items : Trees.BlockItems) (right : ℕ)
      → IsItem types (Trees.defines specs d left items right) → (low : ℕ) (rest : List Lexeme) (steps : List Step)
      → AreApart low (spelled_item (Trees.defines specs d left items right) rest) → ((m : ℕ) → AreApart m rest → AreStepsInOrder m steps)
      → AreStepsInOrder low (steps_of_definition g w specs d left items steps)
  ordered_definition types specs d left items right f low rest steps h next =
      let p = filtered false in_full (walked_specifiers g.untagged types specs f.0 low _ h) in
      let x = name_there d f.2 in
      let body = spelled_body in (
        p.high,
        p.in_order,
        subst (λ o. AreStepsInOrder p.high (steps_if_defined g w o d left items steps)) (sym x.1)
            (ordered_declarator g types (alone d) x.0 left p.high (punctuator M.OpenBrace left ∷ body) body (steps_of_body g w items steps)
            (behind_name g.untagged g.objects types d f.1 x.0 x.1 x.0.from p.high (punctuator M.OpenBrace left ∷ body) p.apart)
            opening inside),
      )
    where
      spelled_body : List Lexeme
      spelled_body = spelled_block_items items (punctuator M.CloseBrace right ∷ rest)

      opening : (m : ℕ) → AreApart m (punctuator M.OpenBrace left ∷ spelled_body) → Valued g m left None spelled_body
      opening m a = let t = behind_token _ a.0 a.1 a.2 in record { named = t.0; walk = none t.1 }

      inside : (m : ℕ) → AreApart m spelled_body → AreStepsInOrder m (steps_of_body g w items steps)
      inside m a =
          let q = closed (filtered true in_full (walked_items g types items f.3 m (punctuator M.CloseBrace right ∷ rest) a)) in
          (q.high, q.in_order, next q.high q.apart)

  ordered_item : (types : List (List ℕ)) (item : Trees.Item) → IsItem types item → (low : ℕ) (rest : List Lexeme) (steps : List Step)
      → AreApart low (spelled_item item rest) → ((m : ℕ) → AreApart m rest → AreStepsInOrder m steps)
      → AreStepsInOrder low (steps_of_item g w item steps)
  ordered_item types (Trees.defines specs d left items right) f low rest steps h next =
      ordered_definition types specs d left items right f low rest steps h next
  ordered_item types (Trees.declaration d) f low rest steps h next = ordered_declaration types d f low rest steps h next

  pub ordered_items : (types : List (List ℕ)) (items : List Trees.Item) → AreItems types items → (low : ℕ) → AreApart low (spelled_items items [])
      → AreStepsInOrder low (steps_of_items g w items)
  ordered_items types [] f low h = tt
  ordered_items types (item ∷ more) f low h =
      ordered_item types item f.0 low (spelled_items more []) (steps_of_items g w more) h
      (λ m a. ordered_items (types_after types item) more f.1 m a)
