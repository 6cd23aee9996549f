-- The tree of a file with many sorts of items, and its annotated file:
--     typedef struct {char *s; int (*f)(int);} T; static int g(int k){switch (k) {case 1: k = 2; default: break;} return k;} T t = {"ab", g};
--     char s[] = "cd"; int main(void){static int n = sizeof s; T u = t; T *p = &u; *p = t; return p->f(n);}
use Rattle.std.specs.Prelude.{ℕ, ◌+◌, List, [], ◌∷◌, Bool, true, false, Option, Some, None, codes}
use Rattle.c_types.specs.declared.ty.IntKind.TheVariants.{Char, Int, UInt}
use Rattle.c_types.specs.Types.{CType, void, integer, pointer, array, function, structure, no_types, and_type, Field, Record}
use Rattle.c_ast.specs.declared.words.Spelling.{Spelling}
use Rattle.c_ast.specs.declared.operators.AssignOp.TheVariants as A
use Rattle.c_ast.specs.declared.operators.UnaryOp.TheVariants as U
use Rattle.c_ast.specs.declared.operators.SpecifierKeyword.TheVariants as S
use Rattle.c_ast.specs.Trees
use Rattle.c_ast.specs.Sizes.{size_item}
use Rattle.c_typed.specs.declared.program.MentionKind.TheVariants.{Object, Named, Sizeof}
use Rattle.c_typed.specs.Trees as Typed
use Rattle.c_erasure.specs.Noted.{Noted, size_of, value, way, Expression}
use Rattle.c_erasure.specs.Scopes as Scopes
use Rattle.c_erasure.specs.Scopes.{Bound, Entity, defines, typedef, a_local, FileScope, AnObject, AFunction, ALocal}
use Rattle.c_erasure.specs.Erasure.{literal_object}
use Rattle.c_erasure.specs.Initializers.{part_at, Part}
use Rattle.c_erasure.proofs.ExampleParts.{place, word, int, ints, mention, number}

abbrev pub one : List ℕ → ℕ → Spelling
one x at = word x at (at + 1)

abbrev pub name : List ℕ → ℕ → Trees.Expression
name x at = Trees.name (one x at)

abbrev pub digit : List ℕ → ℕ → ℕ → Trees.Expression
digit x n at = Trees.number (one x at) n Int

abbrev pub words : Trees.Specifier → Trees.Specifiers
words s = Trees.and_specifier s Trees.no_specifiers

abbrev pub chars : ℕ → Trees.Specifiers
chars at = words (Trees.plain S.Char at)

abbrev pub static_ints : ℕ → ℕ → Trees.Specifiers
static_ints static at = Trees.and_specifier (Trees.plain S.Static static) (ints at)

abbrev pub alone : Trees.Declarator → Option (ℕ × Trees.Expression) → List Trees.InitDeclarator
alone d v = record { comma = None; declarator = d; value = v } ∷ []

abbrev pub declares : Trees.Specifiers → Trees.Declarator → Option (ℕ × Trees.Expression) → ℕ → Trees.Declaration
declares specs d v semicolon = record { specs = specs; all = alone d v; semicolon = semicolon }

-- ---- the tree

abbrev pub s_member : Trees.Declarator
s_member = Trees.pointer 21 [] (Trees.named (one (codes "s") 22))

abbrev pub f_member : Trees.Declarator
f_member = Trees.function (Trees.enclosed 29 (Trees.pointer 30 [] (Trees.named (one (codes "f") 31))) 32) 33
    (Trees.listed (Trees.and_parameter None (ints 34) Trees.nothing Trees.no_parameters)) 37

abbrev pub member_declarations : Trees.MemberDeclarations
member_declarations =
    Trees.and_member_declaration (chars 16) (Trees.and_member_declarator None s_member Trees.no_member_declarators) 23
    (Trees.and_member_declaration (ints 25) (Trees.and_member_declarator None f_member Trees.no_member_declarators) 38 Trees.no_member_declarations)

abbrev pub type_item : Trees.Item
type_item = Trees.declaration (declares
    (Trees.and_specifier (Trees.plain S.Typedef 0) (words (Trees.struct_body 8 None 15 member_declarations 39))) (Trees.named (one (codes "T") 41)) None 42)

abbrev pub stores : Trees.Expression
stores = Trees.assign (name (codes "k") 84) A.Plain 86 (digit (codes "2") 2 88)

abbrev pub second_switch_item : Trees.SwitchItem
second_switch_item = Trees.labelled (Trees.default 91 98 ∷ []) (Trees.break 100 105)

abbrev pub switch_items : Trees.SwitchItems
switch_items = Trees.and_switch_item (Trees.labelled (Trees.case 76 (digit (codes "1") 1 81) 82 ∷ []) (Trees.evaluate (Some stores) 89))
    (Trees.and_switch_item second_switch_item Trees.no_switch_items)

abbrev pub g_item : Trees.Item
g_item = Trees.defines (static_ints 44 51) (Trees.function (Trees.named (one (codes "g") 55)) 56
    (Trees.listed (Trees.and_parameter None (ints 57) (Trees.named (one (codes "k") 61)) Trees.no_parameters)) 62) 63
    (Trees.and_block_item (Trees.statement (Trees.switch 64 71 (name (codes "k") 72) 73 75 switch_items 106))
    (Trees.and_block_item (Trees.statement (Trees.return 108 (Some (name (codes "k") 115)) 116)) Trees.no_block_items)) 117

abbrev pub ab : Spelling
ab = word (codes "\"ab\"") 126 130

abbrev pub cd : Spelling
cd = word (codes "\"cd\"") 147 151

abbrev pub t_item : Trees.Item
t_item = Trees.declaration (declares (words (Trees.typename (one (codes "T") 119))) (Trees.named (one (codes "t") 121))
    (Some (
      123,
      Trees.braces 125 (Trees.and_argument None (Trees.texts (ab ∷ [])) (Trees.and_argument (Some 130) (name (codes "g") 132) Trees.no_arguments))
          None 133,
    )) 134)

abbrev pub s_item : Trees.Item
s_item = Trees.declaration (declares (chars 136) (Trees.array (Trees.named (one (codes "s") 141)) 142 Trees.no_expression 143)
    (Some (145, Trees.texts (cd ∷ []))) 151)

abbrev pub copies_tree : Trees.Expression
copies_tree = Trees.assign (Trees.unary U.Deref 213 (name (codes "p") 214)) A.Plain 216 (name (codes "t") 218)

abbrev pub main_items : Trees.BlockItems
main_items =
    Trees.and_block_item (Trees.local (declares (static_ints 168 175) (Trees.named (one (codes "n") 179))
    (Some (181, Trees.sizeof_expression 183 (name (codes "s") 190))) 191))
    (Trees.and_block_item (Trees.local (declares (words (Trees.typename (one (codes "T") 193))) (Trees.named (one (codes "u") 195))
    (Some (197, name (codes "t") 199)) 200))
    (Trees.and_block_item (Trees.local (declares (words (Trees.typename (one (codes "T") 202))) (Trees.pointer 204 [] (Trees.named (one (codes "p") 205)))
    (Some (207, Trees.unary U.Address 209 (name (codes "u") 210))) 211))
    (Trees.and_block_item (Trees.statement (Trees.evaluate (Some copies_tree) 219))
    (Trees.and_block_item (Trees.statement (Trees.return 221 (Some (Trees.call (Trees.arrow (name (codes "p") 228) 229 (one (codes "f") 231)) 232
    (Trees.and_argument None (name (codes "n") 233) Trees.no_arguments) 234)) 235))
    Trees.no_block_items))))

abbrev pub main_item : Trees.Item
main_item = Trees.defines (ints 153) (Trees.function (Trees.named (word (codes "main") 157 161)) 161 (Trees.void_alone 162) 166) 167 main_items 236

abbrev pub items : List Trees.Item
items = type_item ∷ g_item ∷ t_item ∷ s_item ∷ main_item ∷ []

-- ---- types and records

abbrev pub char : CType
char = integer Char

abbrev pub g_type : CType
g_type = function int (and_type int no_types)

abbrev pub s_field : Field
s_field = record { name = codes "s"; ty = pointer char; place = place 21 }

abbrev pub f_field : Field
f_field = record { name = codes "f"; ty = pointer g_type; place = place 29 }

-- the tag of a structure without one, by the byte of its `struct`
abbrev pub untagged : ℕ → List ℕ
untagged at = 64 ∷ at ∷ []

abbrev pub the_record : Record
the_record = record { tag = untagged 8; place = place 8; fields = s_field ∷ f_field ∷ [] }

abbrev pub the_type : CType
the_type = structure 0

-- ---- objects

abbrev pub ab_path : Typed.Path Noted
ab_path = way (array char 3) (place 126) (Typed.object 1)

abbrev pub ab_value : Expression
ab_value = value (pointer char) (place 126) (Typed.decay ab_path)

abbrev pub g_value : Expression
g_value = value (pointer g_type) (place 132) (Typed.function_name 0)

abbrev pub t_parts : List Part
t_parts = record { offset = 0; value = Typed.value ab_value } ∷ record { offset = 4; value = Typed.value g_value } ∷ []

abbrev pub file_object : List ℕ → ℕ → CType → Typed.Initializer Noted → Bool → AnObject
file_object x at t i linked = record { name = x; place = place at; first = at; ty = t; is_linked = linked; literal = None; initial = Some i }

abbrev pub t_object : AnObject
t_object = file_object (codes "t") 121 the_type (Typed.parts t_parts) true

abbrev pub ab_object : AnObject
ab_object = literal_object (place 126) (97 ∷ 98 ∷ 0 ∷ [])

abbrev pub cd_parts : List Part
cd_parts = part_at 0 (Typed.text (99 ∷ 100 ∷ 0 ∷ []))

abbrev pub s_object : AnObject
s_object = file_object (codes "s") 141 (array char 3) (Typed.parts cd_parts) true

abbrev pub size : Expression
size = Typed.expression (record { ty = integer UInt; note = size_of (array char 3) 183 }) (place 183) (Typed.constant 3)

abbrev pub n_value : Expression
n_value = value int (place 183) (Typed.convert size false)

abbrev pub n_object : AnObject
n_object = file_object (codes "n") 179 int (Typed.whole n_value) false

-- ---- functions

abbrev pub k_path : ℕ → Typed.Path Noted
k_path at = way int (place at) (Typed.local 0)

abbrev pub the_k : ℕ → Expression
the_k at = value int (place at) (Typed.load (k_path at))

abbrev pub stored : Expression
stored = value int (place 84) (Typed.assign (k_path 84) (number 88 2))

abbrev pub only_statement : Typed.Statement Noted → Typed.Statements Noted
only_statement s = Typed.and_statement s Typed.no_statements

abbrev pub second_arm : Typed.Arms Noted
second_arm = Typed.and_arm [] true (only_statement Typed.break) Typed.no_arms

abbrev pub arms : Typed.Arms Noted
arms = Typed.and_arm (1 ∷ []) false (only_statement (Typed.evaluate stored)) second_arm

abbrev pub switches : Typed.Statement Noted
switches = Typed.switch (the_k 72) [] arms

abbrev pub g_return : Typed.Statement Noted
g_return = Typed.return (Some (the_k 115))

abbrev pub g_body : Typed.Statements Noted
g_body = Typed.and_statement switches (only_statement g_return)

abbrev pub k_local : ALocal
k_local = record { name = codes "k"; ty = int }

abbrev pub k_bound : Bound
k_bound = record { name = codes "k"; place = 61; from = 62; how = defines; entity = a_local 0 int }

abbrev pub g : AFunction
g = record {
  name = codes "g";
  place = place 55;
  first = 55;
  ty = g_type;
  is_linked = false;
  parameters = k_local ∷ [];
  locals = [];
  body = Some (Typed.block [] g_body);
  nodes = (size_item g_item).nodes;
}

abbrev pub t_path : ℕ → Typed.Path Noted
t_path at = way the_type (place at) (Typed.object 0)

abbrev pub declares_u : Typed.Statement Noted
declares_u = Typed.declare 0 (Some (Typed.whole_record (t_path 199)))

abbrev pub u_path : Typed.Path Noted
u_path = way the_type (place 210) (Typed.local 0)

abbrev pub u_address : Expression
u_address = value (pointer the_type) (place 209) (Typed.address_of u_path)

abbrev pub declares_p : Typed.Statement Noted
declares_p = Typed.declare 1 (Some (Typed.whole u_address))

abbrev pub p_path : ℕ → Typed.Path Noted
p_path at = way (pointer the_type) (place at) (Typed.local 1)

abbrev pub the_p : ℕ → Expression
the_p at = value (pointer the_type) (place at) (Typed.load (p_path at))

abbrev pub p_target : Typed.Path Noted
p_target = way the_type (place 213) (Typed.deref (the_p 214))

abbrev pub copies : Expression
copies = value void (place 213) (Typed.copy_record p_target (t_path 218))

abbrev pub f_path : Typed.Path Noted
f_path = way (pointer g_type) (place 228) (Typed.member (way the_type (place 228) (Typed.deref (the_p 228))) 0 1)

abbrev pub the_f : Expression
the_f = value (pointer g_type) (place 228) (Typed.load f_path)

abbrev pub n_path : Typed.Path Noted
n_path = way int (place 233) (Typed.object 3)

abbrev pub the_n : Expression
the_n = value int (place 233) (Typed.load n_path)

abbrev pub arguments : Typed.Expressions Noted
arguments = Typed.and_expression the_n Typed.no_expressions

abbrev pub calls : Expression
calls = value int (place 228) (Typed.call_through the_f arguments)

abbrev pub after_copy : Typed.Statements Noted
after_copy = only_statement (Typed.return (Some calls))

abbrev pub after_p : Typed.Statements Noted
after_p = Typed.and_statement (Typed.evaluate copies) after_copy

abbrev pub after_u : Typed.Statements Noted
after_u = Typed.and_statement declares_p after_p

abbrev pub main_body : Typed.Statements Noted
main_body = Typed.and_statement declares_u after_u

abbrev pub u_local : ALocal
u_local = record { name = codes "u"; ty = the_type }

abbrev pub p_local : ALocal
p_local = record { name = codes "p"; ty = pointer the_type }

abbrev pub main_type : CType
main_type = function int no_types

abbrev pub main_function : AFunction
main_function = record {
  name = codes "main";
  place = place 157;
  first = 157;
  ty = main_type;
  is_linked = true;
  parameters = [];
  locals = u_local ∷ p_local ∷ [];
  body = Some (Typed.block (0 ∷ 1 ∷ []) main_body);
  nodes = (size_item main_item).nodes;
}

abbrev pub bound : List ℕ → ℕ → ℕ → Entity → Bound
bound x at from e = record { name = x; place = at; from = from; how = defines; entity = e }

abbrev pub type_bound : Bound
type_bound = bound (codes "T") 41 42 (typedef the_type)

abbrev pub g_bound : Bound
g_bound = bound (codes "g") 55 63 (Scopes.a_function 0 g_type)

abbrev pub t_bound : Bound
t_bound = bound (codes "t") 121 123 (Scopes.an_object 0 the_type)

abbrev pub s_bound : Bound
s_bound = bound (codes "s") 141 145 (Scopes.an_object 2 (array char 3))

abbrev pub main_bound : Bound
main_bound = bound (codes "main") 157 167 (Scopes.a_function 1 main_type)

abbrev pub file : FileScope
file = record {
  file = 0;
  names = type_bound ∷ g_bound ∷ t_bound ∷ s_bound ∷ main_bound ∷ [];
  tags = record { name = untagged 8; place = 8; from = 8; is_enumeration = false } ∷ [];
  records = the_record ∷ [];
  ends = 39 ∷ [];
  numbered = untagged 8 ∷ [];
  objects = t_object ∷ ab_object ∷ s_object ∷ n_object ∷ [];
  functions = g ∷ main_function ∷ [];
  mentions = mention Named (pointer char) 21 ∷ mention Named (pointer g_type) 29 ∷ mention Named int 34 ∷ mention Named the_type 41
      ∷ mention Named g_type 55 ∷ mention Named int 61 ∷ mention Object the_type 121 ∷ mention Object (array char 3) 141
      ∷ mention Named main_type 157 ∷ mention Object int 179 ∷ mention Sizeof (array char 3) 183 ∷ mention Object the_type 195
      ∷ mention Object (pointer the_type) 204 ∷ [];
  untagged = untagged;
}
