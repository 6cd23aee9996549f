-- The annotated file of a file with many items (C99 6.4.5, 6.5.2.2, 6.5.16.1, 6.7.1, 6.7.7, 6.7.8, 6.8.4.2).
use Rattle.std.proofs.Common.{refl, sym, subst, ◌∙◌, inl, inr, zero, suc, ◌<◌, ◌≤◌, arith}
use Rattle.std.proofs.lemmas.List.Elements.{All-nil, All-cons, All-from_recursion}
use Rattle.std.specs.Str.{bytes_eq}
use Rattle.std.specs.Prelude.{◌≡◌, ◌≢◌, ℕ, List, [], ◌∷◌, map, true, false, Some, codes, slice_get, length}
use Rattle.c_types.specs.declared.ty.IntKind.TheVariants.{Char, Int, UInt}
use Rattle.c_types.specs.Types.{CType, void, pointer, array, structure, no_types, and_type}
use Rattle.c_types.specs.Layouts.{size_of as bytes_of}
use Rattle.c_types.specs.Limits.{greatest_size}
use Rattle.c_tokens.specs.QuotedScan.{string_bytes}
use Rattle.c_ast.specs.Trees
use Rattle.c_typed.specs.declared.operators.LibraryFunction.TheVariants as L
use Rattle.c_typed.specs.Trees as Typed
use Rattle.c_typed.specs.Conversions.{as_kind}
use Rattle.c_typed.specs.Parts.{itself, of_field}
use Rattle.c_typed.specs.InitialValues.{a_number, an_address, a_function}
use Rattle.c_typed.specs.TypedStatements.{IsTypedPart, AreTyped}
use Rattle.c_typed.specs.Mapped.{of_types, mapped_part}
use Rattle.c_erasure.specs.Noted.{Noted, value, way, an_object, a_value}
use Rattle.c_erasure.specs.Noted as Noted
use Rattle.c_erasure.specs.Scopes as Scopes
use Rattle.c_erasure.specs.Scopes.{Bound, Scope, defines, a_local, AnObject, at_file_scope, inside, declared}
use Rattle.c_erasure.specs.Declarators.{closed, open_array}
use Rattle.c_erasure.specs.Erasure.{Erases, Values, IsConstant}
use Rattle.c_erasure.specs.Initializers.{part_at, HasConstant, Part, IsNoObject}
use Rattle.c_erasure.specs.Statements.{with_variable, with_object, EraseItems}
use Rattle.c_erasure.specs.Files.{IsOwnName, IsMainType, IsDeclaredFunction, IsIntroduced, IsTypedObject, MayStandTogether, AreConsistent, IsFileOf}
use Rattle.c_erasure.specs.Files.{ErasesItem, in_body, without_notes}
use Rattle.c_erasure.proofs.ExampleParts.{differ, place, word, int, main_is_own, number, value_of_some, one_of_two, first_alone}
use Rattle.c_erasure.proofs.ManyItems.{one, name, digit, type_item, g_item, cd, t_item, s_item, main_items, main_item, items, char, g_type, s_field}
use Rattle.c_erasure.proofs.ManyItems.{f_field, the_record, the_type, ab_path, ab_value, g_value, t_parts, t_object, ab_object, cd_parts, s_object}
use Rattle.c_erasure.proofs.ManyItems.{size, n_value, n_object, k_path, the_k, stored, only_statement, second_arm, arms, switches, g_return, g_body}
use Rattle.c_erasure.proofs.ManyItems.{k_local, k_bound, g, t_path, declares_u, u_path, u_address, declares_p, p_path, the_p, p_target, copies, f_path}
use Rattle.c_erasure.proofs.ManyItems.{the_f, n_path, the_n, arguments, calls, after_copy, after_p, after_u, main_body, u_local, p_local, main_type}
use Rattle.c_erasure.proofs.ManyItems.{main_function, type_bound, g_bound, t_bound, s_bound, main_bound, file}

-- ---- it is that of the tree

type_is_own : IsOwnName (codes "T")
type_is_own L.Malloc = differ (codes "T") (codes "malloc") refl refl
type_is_own L.Calloc = differ (codes "T") (codes "calloc") refl refl
type_is_own L.Free = differ (codes "T") (codes "free") refl refl
type_is_own L.Memcpy = differ (codes "T") (codes "memcpy") refl refl
type_is_own L.Memmove = differ (codes "T") (codes "memmove") refl refl
type_is_own L.Memset = differ (codes "T") (codes "memset") refl refl
type_is_own L.Memcmp = differ (codes "T") (codes "memcmp") refl refl
type_is_own L.Putchar = differ (codes "T") (codes "putchar") refl refl
type_is_own L.Getchar = differ (codes "T") (codes "getchar") refl refl
type_is_own L.Exit = differ (codes "T") (codes "exit") refl refl

g_is_own : IsOwnName (codes "g")
g_is_own L.Malloc = differ (codes "g") (codes "malloc") refl refl
g_is_own L.Calloc = differ (codes "g") (codes "calloc") refl refl
g_is_own L.Free = differ (codes "g") (codes "free") refl refl
g_is_own L.Memcpy = differ (codes "g") (codes "memcpy") refl refl
g_is_own L.Memmove = differ (codes "g") (codes "memmove") refl refl
g_is_own L.Memset = differ (codes "g") (codes "memset") refl refl
g_is_own L.Memcmp = differ (codes "g") (codes "memcmp") refl refl
g_is_own L.Putchar = differ (codes "g") (codes "putchar") refl refl
g_is_own L.Getchar = differ (codes "g") (codes "getchar") refl refl
g_is_own L.Exit = differ (codes "g") (codes "exit") refl refl

t_is_own : IsOwnName (codes "t")
t_is_own L.Malloc = differ (codes "t") (codes "malloc") refl refl
t_is_own L.Calloc = differ (codes "t") (codes "calloc") refl refl
t_is_own L.Free = differ (codes "t") (codes "free") refl refl
t_is_own L.Memcpy = differ (codes "t") (codes "memcpy") refl refl
t_is_own L.Memmove = differ (codes "t") (codes "memmove") refl refl
t_is_own L.Memset = differ (codes "t") (codes "memset") refl refl
t_is_own L.Memcmp = differ (codes "t") (codes "memcmp") refl refl
t_is_own L.Putchar = differ (codes "t") (codes "putchar") refl refl
t_is_own L.Getchar = differ (codes "t") (codes "getchar") refl refl
t_is_own L.Exit = differ (codes "t") (codes "exit") refl refl

s_is_own : IsOwnName (codes "s")
s_is_own L.Malloc = differ (codes "s") (codes "malloc") refl refl
s_is_own L.Calloc = differ (codes "s") (codes "calloc") refl refl
s_is_own L.Free = differ (codes "s") (codes "free") refl refl
s_is_own L.Memcpy = differ (codes "s") (codes "memcpy") refl refl
s_is_own L.Memmove = differ (codes "s") (codes "memmove") refl refl
s_is_own L.Memset = differ (codes "s") (codes "memset") refl refl
s_is_own L.Memcmp = differ (codes "s") (codes "memcmp") refl refl
s_is_own L.Putchar = differ (codes "s") (codes "putchar") refl refl
s_is_own L.Getchar = differ (codes "s") (codes "getchar") refl refl
s_is_own L.Exit = differ (codes "s") (codes "exit") refl refl

type_defined : ErasesItem file type_item
type_defined = (
  the_type,
  refl,
  inr (
    refl,
    (
      (
        0,
        the_record,
        refl,
        refl,
        refl,
        refl,
        refl,
        refl,
        refl,
        (
          char,
          s_field ∷ [],
          f_field ∷ [],
          refl,
          refl,
          inl (refl, refl),
          (one (codes "s") 22, pointer char, [], refl, (record { bytes = omega arith; parts = omega arith }, refl), refl, inr (0, refl), refl, refl),
          (
            int,
            f_field ∷ [],
            [],
            refl,
            refl,
            inl (refl, refl),
            (
              one (codes "f") 31,
              pointer g_type,
              [],
              refl,
              (
                and_type int no_types,
                (int, closed int, no_types, refl, inl refl, inl (refl, refl), refl, refl, tt, inr (2, refl), refl),
                inl refl,
                record { bytes = omega arith; parts = omega arith },
                (record { bytes = omega arith; parts = omega arith }, refl),
              ),
              refl,
              inr (1, refl),
              refl,
              refl,
            ),
            refl,
          ),
        ),
        (All-cons (λ y. codes "s" ≢ y) (codes "f") [] (differ (codes "s") (codes "f") refl refl) (All-nil _), (All-nil _, tt)),
      ),
      refl,
    ),
  ),
  inl (λ e. cc),
  (one (codes "T") 41, refl, (the_type, refl, inr (3, refl), refl, type_is_own, (0, refl)), tt),
)

one_constant : (s : Scope) → IsConstant (Erases (digit (codes "1") 1 81)) (inside (in_body file (k_bound ∷ []) (k_local ∷ []))) Int 1
one_constant s = (number 81 1, (a_value (number 81 1), refl, refl), (Int, refl, refl), refl, refl, refl)

g_defined : ErasesItem file g_item
g_defined = (
  int,
  int,
  and_type int no_types,
  one (codes "g") 55,
  0,
  g,
  k_bound ∷ [],
  inl (refl, refl),
  refl,
  inr (inr refl),
  (
    and_type int no_types,
    (int, closed int, no_types, refl, inl refl, inl (refl, refl), refl, refl, refl, inr (5, refl), refl),
    inl refl,
    record { bytes = omega arith; parts = omega arith },
    refl,
  ),
  g_is_own,
  inr (4, refl),
  refl,
  refl,
  refl,
  refl,
  refl,
  refl,
  refl,
  (1, refl),
  (one (codes "k") 61, int, no_types, [], [], refl, refl, refl, refl, (refl, refl, refl)),
  (
    g_body,
    refl,
    (
      only_statement switches,
      only_statement g_return,
      in_body file (k_bound ∷ []) (k_local ∷ []),
      refl,
      (
        switches,
        refl,
        (
          the_k 72,
          Int,
          Typed.no_statements,
          arms,
          refl,
          (an_object (k_path 72), refl, (a_local 0 int, refl, refl)),
          refl,
          (
            1 ∷ [],
            0,
            only_statement (Typed.evaluate stored),
            Typed.no_statements,
            second_arm,
            inside (in_body file (k_bound ∷ []) (k_local ∷ [])),
            (
              (Int, 1, [], one_constant (at_file_scope file), refl, (refl, refl)),
              (
                Typed.evaluate stored,
                refl,
                (
                  stored,
                  refl,
                  (
                    (
                      a_value stored,
                      refl,
                      inl (int, k_path 84, number 88 2, refl, refl, (a_local 0 int, refl, refl), (a_value (number 88 2), refl, refl)),
                    ),
                    refl,
                  ),
                ),
              ),
              refl,
            ),
            (
              [],
              1,
              only_statement Typed.break,
              Typed.no_statements,
              Typed.no_arms,
              inside (in_body file (k_bound ∷ []) (k_local ∷ [])),
              ((0, refl, (refl, refl)), (Typed.break, refl, refl), refl),
              (refl, refl),
              (refl, omega arith, refl),
            ),
            (refl, omega arith, refl),
          ),
        ),
        refl,
      ),
      (
        only_statement g_return,
        Typed.no_statements,
        in_body file (k_bound ∷ []) (k_local ∷ []),
        refl,
        (g_return, refl, (the_k 115, refl, (an_object (k_path 115), refl, (a_local 0 int, refl, refl))), refl),
        refl,
      ),
    ),
    (
      (
        (refl, refl, refl, refl),
        refl,
        refl,
        (Int, refl, All-from_recursion (λ v. as_kind Int v ≡ v) (1 ∷ []) (refl, tt)),
        (tt, tt),
        omega arith,
        ((((refl, (Int, refl, refl), refl, refl, (refl, refl)), refl), tt), ((refl, tt), tt)),
      ),
      (((refl, refl, refl, refl), (refl, refl)), tt),
    ),
    refl,
  ),
)

t_defined : ErasesItem file t_item
unfolding string_bytes
t_defined = (
  the_type,
  refl,
  inr (refl, (refl, refl)),
  inl (λ e. cc),
  (
    one (codes "t") 121,
    refl,
    inr (
      closed the_type,
      the_type,
      0,
      t_object,
      refl,
      refl,
      refl,
      t_is_own,
      inr (6, refl),
      refl,
      refl,
      refl,
      refl,
      refl,
      refl,
      (2, refl),
      (
        Typed.parts t_parts,
        (
          inr (inr (
            t_parts,
            refl,
            inr (refl, refl),
            inr (inr (inl (
              0,
              the_record,
              refl,
              refl,
              (
                s_field,
                f_field ∷ [],
                part_at 0 (Typed.value ab_value),
                part_at 4 (Typed.value g_value),
                refl,
                refl,
                inl (ab_value, refl, refl, refl, (an_object ab_path, refl, (1, refl, refl))),
                (
                  f_field,
                  [],
                  part_at 4 (Typed.value g_value),
                  [],
                  refl,
                  refl,
                  inl (g_value, refl, refl, refl, (Noted.a_function (place 132) 0 g_type, refl, (Scopes.a_function 0 g_type, refl, refl))),
                  refl,
                ),
              ),
            ))),
          )),
          All-from_recursion (λ part. HasConstant (declared (at_file_scope file)) part.value) t_parts
              ((an_address (record { object = 1; offset = 0 }), refl), ((a_function 0, refl), tt)),
        ),
        refl,
        refl,
      ),
    ),
    tt,
  ),
)

cd_no_object : IsNoObject (at_file_scope file) (cd ∷ [])
cd_no_object = All-from_recursion (λ o. o.first ≢ 147) (t_object ∷ ab_object ∷ s_object ∷ n_object ∷ [])
    ((λ e. absurd (omega (arith, e))), ((λ e. absurd (omega (arith, e))), ((λ e. absurd (omega (arith, e))), ((λ e. absurd (omega (arith, e))), tt))))

s_defined : ErasesItem file s_item
unfolding string_bytes
s_defined = (
  char,
  refl,
  inl (refl, refl),
  inl (λ e. cc),
  (
    one (codes "s") 141,
    refl,
    inr (
      open_array char,
      array char 3,
      2,
      s_object,
      (refl, refl, refl),
      (refl, omega arith, record { bytes = omega arith; parts = omega arith }),
      refl,
      s_is_own,
      inr (7, refl),
      refl,
      refl,
      refl,
      refl,
      refl,
      refl,
      (3, refl),
      (
        Typed.parts cd_parts,
        (
          inr (inr (cd_parts, refl, inl refl, inr (inr (99 ∷ 100 ∷ 0 ∷ [], (Char, 3, refl, refl, inl (refl, omega arith)), cd_no_object, refl)))),
          All-from_recursion (λ part. HasConstant (declared (at_file_scope file)) part.value) cd_parts (tt, tt),
        ),
        refl,
        refl,
      ),
    ),
    tt,
  ),
)

abbrev in_main : Scope
in_main = in_body file [] (u_local ∷ p_local ∷ [])

abbrev with_n : Scope
with_n = with_object in_main (one (codes "n") 179) 3 int

abbrev with_u : Scope
with_u = with_variable with_n (one (codes "u") 195) 0 the_type

abbrev with_p : Scope
with_p = with_variable with_u (one (codes "p") 205) 1 (pointer the_type)

p_stands : (at : ℕ) → Values (Erases (name (codes "p") at) with_p) (the_p at)
p_stands at = (an_object (p_path at), refl, (a_local 1 (pointer the_type), refl, refl))

size_stands : Values (Erases (Trees.sizeof_expression 183 (name (codes "s") 190)) with_n) n_value
size_stands = (
  a_value size,
  refl,
  (
    array char 3,
    (
      an_object (way (array char 3) (place 190) (Typed.object 2)),
      (Scopes.an_object 2 (array char 3), refl, refl),
      refl,
      refl,
    ),
    (refl, inr (10, refl), refl, omega arith),
  ),
)

main_erased : EraseItems main_items in_main main_body
main_erased = (
  Typed.no_statements,
  main_body,
  with_n,
  refl,
  (
    int,
    inl (refl, refl),
    (λ e. cc),
    inl (
      refl,
      (
        one (codes "n") 179,
        int,
        3,
        (closed int, refl, refl, refl, refl, refl, inr (9, refl)),
        (Typed.whole n_value, (inl (n_value, refl, refl, inl (n_value, refl, refl, refl, size_stands)), (a_number Int 3, refl)), refl),
        (refl, refl),
      ),
    ),
  ),
  (
    only_statement declares_u,
    after_u,
    with_u,
    refl,
    (
      the_type,
      inr (refl, (refl, refl)),
      (λ e. cc),
      inr (
        inl refl,
        (
          one (codes "u") 195,
          the_type,
          0,
          Some (Typed.whole_record (t_path 199)),
          Typed.no_statements,
          (closed the_type, refl, refl, refl, refl, refl, inr (11, refl)),
          refl,
          refl,
          (
            Typed.whole_record (t_path 199),
            refl,
            inr (inl (t_path 199, refl, refl, refl, inr (inl (0, t_path 199, refl, refl, refl, (Scopes.an_object 0 the_type, refl, refl))))),
          ),
          (refl, refl),
        ),
      ),
    ),
    (
      only_statement declares_p,
      after_p,
      with_p,
      refl,
      (
        the_type,
        inr (refl, (refl, refl)),
        (λ e. cc),
        inr (
          inl refl,
          (
            one (codes "p") 205,
            pointer the_type,
            1,
            Some (Typed.whole u_address),
            Typed.no_statements,
            (closed (pointer the_type), refl, (record { bytes = omega arith; parts = omega arith }, refl), refl, refl, refl, inr (12, refl)),
            refl,
            refl,
            (
              Typed.whole u_address,
              refl,
              inl (
                u_address,
                refl,
                refl,
                inl (
                  u_address,
                  refl,
                  refl,
                  refl,
                  (a_value u_address, refl, (an_object u_path, (pointer the_type, omega arith, refl), (a_local 0 the_type, refl, refl))),
                ),
              ),
            ),
            (refl, refl),
          ),
        ),
      ),
      (
        only_statement (Typed.evaluate copies),
        after_copy,
        with_p,
        refl,
        (
          Typed.evaluate copies,
          refl,
          (
            copies,
            refl,
            (
              (
                a_value copies,
                refl,
                inr (inl (
                  void,
                  p_target,
                  t_path 218,
                  refl,
                  refl,
                  (the_p 214, inl (the_type, refl, refl), p_stands 214),
                  (Scopes.an_object 0 the_type, refl, refl),
                )),
              ),
              refl,
            ),
          ),
          refl,
        ),
        (
          after_copy,
          Typed.no_statements,
          with_p,
          refl,
          (
            Typed.return (Some calls),
            refl,
            (
              calls,
              refl,
              (
                a_value calls,
                refl,
                (
                  int,
                  an_object f_path,
                  arguments,
                  Typed.call_through the_f arguments,
                  (pointer g_type, the_type, the_p 228, 0, 1, (the_record, f_field, refl, refl, refl, refl), p_stands 228, refl),
                  (the_n, Typed.no_expressions, refl, (an_object n_path, refl, (Scopes.an_object 3 int, refl, refl)), refl),
                  (the_f, refl, refl),
                  refl,
                ),
              ),
            ),
            refl,
          ),
          refl,
        ),
      ),
    ),
  ),
)

main_typed : AreTyped (declared in_main) int false false (without_notes main_body)
main_typed = (
  (the_type, refl, refl, (0, refl, refl, refl)),
  (
    (pointer the_type, refl, refl, ((refl, refl), refl, (refl, refl))),
    (
      ((((refl, refl, refl, refl), refl, refl, refl), refl, refl, refl, (0, refl)), refl),
      (
        (
          (
            and_type int no_types,
            ((((refl, refl, refl, refl), refl, refl, refl), refl, refl), refl, refl, refl),
            refl,
            refl,
            ((refl, refl, refl, refl), (refl, refl), tt),
          ),
          (refl, refl),
        ),
        tt,
      ),
    ),
  ),
)

main_defined : ErasesItem file main_item
main_defined = (
  int,
  int,
  no_types,
  word (codes "main") 157 161,
  1,
  main_function,
  [],
  inl (refl, refl),
  refl,
  inl refl,
  (no_types, refl, inl refl, record { bytes = omega arith; parts = omega arith }, refl),
  main_is_own,
  inr (8, refl),
  refl,
  refl,
  refl,
  refl,
  refl,
  refl,
  refl,
  (4, refl),
  (refl, refl, refl),
  (main_body, refl, main_erased, main_typed, refl),
)

-- ---- and nothing else is declared

abbrev StandTogether : Bound → Bound → Type 0
StandTogether b c = c.name ≡ b.name → MayStandTogether b c

apart : (b c : Bound) → bytes_eq c.name c.name ≡ true → bytes_eq c.name b.name ≡ false → StandTogether b c
apart b c t f e = absurd (differ c.name b.name t f e)

consistent : AreConsistent file.names
consistent = (
  All-from_recursion (StandTogether type_bound) (g_bound ∷ t_bound ∷ s_bound ∷ main_bound ∷ []) (
    apart type_bound g_bound refl refl,
    (apart type_bound t_bound refl refl, (apart type_bound s_bound refl refl, (apart type_bound main_bound refl refl, tt))),
  ),
  (
    All-from_recursion (StandTogether g_bound) (t_bound ∷ s_bound ∷ main_bound ∷ [])
        (apart g_bound t_bound refl refl, (apart g_bound s_bound refl refl, (apart g_bound main_bound refl refl, tt))),
    (
      All-from_recursion (StandTogether t_bound) (s_bound ∷ main_bound ∷ []) (apart t_bound s_bound refl refl, (apart t_bound main_bound refl refl, tt)),
      (
        All-from_recursion (StandTogether s_bound) (main_bound ∷ []) (apart s_bound main_bound refl refl, tt),
        (All-nil _, tt),
      ),
    ),
  ),
)

one_of_four : {X : Type 0} (P : ℕ → X → Type 0) (a b c d : X) (n : ℕ) (y : X) → slice_get (a ∷ b ∷ c ∷ d ∷ []) n ≡ Some y
    → P 0 a → P 1 b → P 2 c → P 3 d → P n y
one_of_four P a b c d zero y e p q r s = subst (P 0) (value_of_some a y e) p
one_of_four P a b c d (suc zero) y e p q r s = subst (P 1) (value_of_some b y e) q
one_of_four P a b c d (suc (suc zero)) y e p q r s = subst (P 2) (value_of_some c y e) r
one_of_four P a b c d (suc (suc (suc zero))) y e p q r s = subst (P 3) (value_of_some d y e) s
one_of_four P a b c d (suc (suc (suc (suc n)))) y e p q r s = cc

other_object : Scopes.an_object 2 (array char 3) ≢ Scopes.an_object 0 the_type
other_object e = cc

other_function : Scopes.a_function 1 main_type ≢ Scopes.a_function 0 g_type
other_function e = cc

abbrev without : List Part → List (Typed.Part CType)
without = map (mapped_part (of_types (λ t. t.ty)))

abbrev g_part : Typed.Part CType
g_part = record { offset = 4; value = Typed.value (Typed.expression (pointer g_type) (place 132) (Typed.function_name 0)) }

t_typed : IsTypedObject file the_type (Typed.parts t_parts)
t_typed = (
  refl,
  All-from_recursion (IsTypedPart (declared (at_file_scope file)) the_type) (without t_parts) (
    (pointer char, of_field (pointer char) (pointer char) 0 0 0 refl (itself (pointer char)), ((refl, refl, refl), refl, (refl, refl))),
    ((pointer g_type, of_field (pointer g_type) (pointer g_type) 0 1 0 refl (itself (pointer g_type)), ((g_type, refl, refl), refl, (refl, refl))), tt),
  ),
  (All-from_recursion (λ next. 0 < next.offset) (g_part ∷ []) (omega arith, tt), (All-nil _, tt)),
)

text_typed : (bytes : List ℕ) → length bytes ≤ 3 → IsTypedObject file (array char 3) (Typed.parts (part_at 0 (Typed.text bytes)))
text_typed bytes l = (
  refl,
  All-from_recursion (IsTypedPart (declared (at_file_scope file)) (array char 3)) (without (part_at 0 (Typed.text bytes)))
      ((array char 3, itself (array char 3), (Char, 3, refl, refl, l)), tt),
  (All-nil _, tt),
)

abbrev IsInitialTyped : Typed.Initializer Noted → ℕ → AnObject → Type 0
IsInitialTyped i n o = o.initial ≡ Some i → IsTypedObject file o.ty i

given_initial : (o : AnObject) (i j : Typed.Initializer Noted) → o.initial ≡ Some j → IsTypedObject file o.ty j → o.initial ≡ Some i
    → IsTypedObject file o.ty i
given_initial o i j e w f = subst (IsTypedObject file o.ty) (value_of_some j i (sym e ∙ f)) w

is_file : IsFileOf items file
is_file = record {
  tags = refl;
  ends = refl;
  numbered = refl;
  records = refl;
  names = refl;
  mentions = refl;
  each_item = All-from_recursion (ErasesItem file) items (type_defined, (g_defined, (t_defined, (s_defined, (main_defined, tt)))));
  consistent = consistent;
  consistent_tags = (All-nil _, tt);
  defined_once = (All-nil _, tt);
  small = first_alone (λ n. bytes_of file.records (structure n) ≤ greatest_size) the_record (omega arith);
  objects_in_order = (
    All-from_recursion (λ m. 121 < m) (126 ∷ 141 ∷ 179 ∷ []) (omega arith, (omega arith, (omega arith, tt))),
    (
      All-from_recursion (λ m. 126 < m) (141 ∷ 179 ∷ []) (omega arith, (omega arith, tt)),
      (All-from_recursion (λ m. 141 < m) (179 ∷ []) (omega arith, tt), (All-nil _, tt)),
    ),
  );
  functions_in_order = (All-cons (λ m. 55 < m) 157 [] (omega arith) (All-nil _), (All-nil _, tt));
  objects = λ n o e. one_of_four (IsIntroduced file items) t_object ab_object s_object n_object n o e
      (inr (defines ∷ [], (λ e. cc), inr ((λ e. cc), inr ((λ e. cc), inl (refl, ([], refl, inr (other_object, inr ((λ e. cc), refl)))))), tt))
      (inl (inl refl))
      (inr (defines ∷ [], (λ e. cc), inr ((λ e. cc), inr ((λ e. cc), inr ((λ e. other_object (sym e)), inl (refl, ([], refl, inr ((λ e. cc), refl)))))), tt))
      (inl (inr (inr (inl refl))));
  functions = λ n h e. one_of_two (IsDeclaredFunction file items) g main_function n h e
      (defines ∷ [], (λ e. cc), inr ((λ e. cc), inl (refl, ([], refl, inr ((λ e. cc), inr ((λ e. cc), inr (other_function, refl)))))), tt)
      (defines ∷ [], (λ e. cc), inr ((λ e. cc), inr ((λ e. other_function (sym e)), inr ((λ e. cc), inr ((λ e. cc), inl (refl, ([], refl, refl)))))), tt);
  initialized = λ n o i e f. one_of_four (IsInitialTyped i) t_object ab_object s_object n_object n o e
      (given_initial t_object i (Typed.parts t_parts) refl t_typed)
      (given_initial ab_object i (Typed.parts (part_at 0 (Typed.text (97 ∷ 98 ∷ 0 ∷ [])))) refl (text_typed (97 ∷ 98 ∷ 0 ∷ []) (omega arith)))
      (given_initial s_object i (Typed.parts cd_parts) refl (text_typed (99 ∷ 100 ∷ 0 ∷ []) (omega arith)))
      (given_initial n_object i (Typed.whole n_value) refl (((UInt, refl, refl), refl, (λ e. cc), refl), refl, (refl, refl)))
      f;
  main_is_no_object = All-from_recursion (λ o. o.is_linked ≡ true → o.name ≢ codes "main") (t_object ∷ ab_object ∷ s_object ∷ n_object ∷ [])
      ((λ e. differ (codes "t") (codes "main") refl refl), ((λ e. cc), ((λ e. differ (codes "s") (codes "main") refl refl), ((λ e. cc), tt))));
  main = λ n h e. one_of_two (λ n h. IsMainType h.name h.ty) g main_function n h e (λ e. absurd (differ (codes "g") (codes "main") refl refl e)) (λ e. refl);
}
