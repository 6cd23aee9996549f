-- Functions of the file scope: bound first, then defined by their bodies.
use Rattle.std.proofs.Common.{◌≡◌, ◌∙◌, ◌<◌, ℕ, List, [], Option, length, drop, take, map, refl, sym, ap, arith}
use Rattle.std.specs.Prelude.{Ok, Err, Some, None, Bool, true, false, not, ◌&&◌, if◌then◌else◌, slice_get}
use Rattle.std.proofs.lemmas.List.{at_drop_all, drop-map, take-map, take_all}
use Rattle.lay_base.specs.declared.place.Place.{Place}
use Rattle.lay_base.specs.declared.faults.Rule.TheVariants as R
use Rattle.c_types.specs.Sameness.{same_type}
use Rattle.c_types.specs.Types.{CType, CTypes, function}
use Rattle.c_ast.specs.declared.words.Spelling.{Spelling}
use Rattle.c_ast.specs.Trees
use Rattle.c_annotated.specs.declared.file.Local.{Local}
use Rattle.c_annotated.specs.FileViews.{local_of}
use Rattle.c_typed.specs.Trees as Typed
use Rattle.c_typed.specs.TypedStatements.{declared_by}
use Rattle.c_typed.specs.declared.operators.LibraryFunction.{LibraryFunction}
use Rattle.c_typed.specs.declared.program.MentionKind.TheVariants.{Named}
use Rattle.c_erasure.specs.Declarators.{closed}
use Rattle.c_erasure.specs.Erasure.{place_in}
use Rattle.c_erasure.specs.Files.{bound}
use Rattle.c_erasure.specs.Noted.{Noted}
use Rattle.c_erasure.specs.Scopes.{AFunction, ALocal, Bound, FileScope, a_function, at_file_scope, defines}
use Rattle.c_erasure.specs.Specifiers.{Storage}
use Rattle.c_erasure.specs.Statements.{Statements}
use Rattle.c_erasure.specs.Checking.Answers.{Answer, ◌>>=◌, Checked, refused}
use Rattle.c_erasure.specs.Checking.Declaring.{declared_among, with_bound, with_mention}
use Rattle.c_erasure.specs.Checking.Files.{Received, define_function, define_shape, defined_among, function_body, function_of, is_main, library_named}
use Rattle.c_erasure.specs.Checking.Files.{main_type, main_function, once, own_name, received_by, with_body}
use Rattle.c_externals.specs.Filing.{function_bound, functions_set}
use Rattle.c_externals.specs.Filing as Filing
use Rattle.c_check.specs.FileItems.Defined.{function_defined, function_if_named, with_definition}

pub first_are_all : {X : Type 0} (all : List X) (count : ℕ) → length all < count → all ≡ take count all
first_are_all all count h = sym (take_all count all (omega (arith, h)))

pub none_after : {X : Type 0} (all : List X) (count : ℕ) → length all < count → [] ≡ drop count all
none_after all count h = sym (at_drop_all (λ rest. rest) all count (omega (arith, h)))

-- the locals of a function as seen, parted at the number of its parameters
pub parted_locals : (functions : List AFunction) (n : ℕ) (place : Place) (nodes : ℕ) (all first rest : List Local) (count : ℕ) (body : Typed.Statement Noted)
    → first ≡ take count all → rest ≡ drop count all
    → Filing.functions_with functions n place nodes (map local_of first) (map local_of rest) body
    ≡ Filing.functions_with functions n place nodes (take count (map local_of all)) (drop count (map local_of all)) body
parted_locals functions n place nodes all first rest count body h k =
    ap (λ l. Filing.functions_with functions n place nodes l (map local_of rest) body) (ap (map local_of) h ∙ sym (take-map local_of count all))
    ∙ ap (λ l. Filing.functions_with functions n place nodes (take count (map local_of all)) l body) (ap (map local_of) k ∙ sym (drop-map local_of count all))

defined : (f : FileScope) (n place count nodes : ℕ) (all : Statements) (locals : List ALocal) (g : Option AFunction)
    → with_body f n place count nodes all locals g
    ≡ record f {
      functions = functions_set f.functions n
          (Filing.with_body (place_in (at_file_scope f) place) nodes (take count locals) (drop count locals) (Typed.block (declared_by all) all) g);
    }
defined f n place count nodes all locals None = refl
defined f n place count nodes all locals (Some g) = refl

pub body_defined : (f : FileScope) (n place count nodes : ℕ) (all : Statements) (locals : List ALocal)
    → with_body f n place count nodes all locals (slice_get f.functions n)
    ≡ with_definition f n place count nodes locals (Typed.block (declared_by all) all)
body_defined f n place count nodes all locals = defined f n place count nodes all locals (slice_get f.functions n)

module _ (words : Storage) (x : Spelling) (place left nodes : ℕ) (t result : CType) (items : Trees.BlockItems) (p : Received) where
  abbrev next : ℕ × FileScope → Answer FileScope
  next n = function_body n.1 n.0 place nodes result items p

  abbrev named : ℕ × FileScope → FileScope
  named n = with_bound n.1 (bound x left defines (a_function n.0 t))

  only_once : (n : ℕ × FileScope) (old : Option Bound)
      → once x old (function_body (named n) n.0 place nodes result items p) ≡ (once x old (Ok (n.0, named n)) >>= next)
  only_once n None = refl
  only_once n (Some old) = refl

  found : (f : FileScope) (r : Checked ℕ)
      → (r >>= λ n. once x (defined_among f.names x.text) (function_body (named n) n.0 place nodes result items p))
      ≡ ((r >>= λ n. once x (defined_among f.names x.text) (Ok (n.0, named n))) >>= next)
  found f (Err fault) = refl
  found f (Ok n) = only_once n (defined_among f.names x.text)

  tested : (b : Bool) (r : Answer FileScope) (s : Checked ℕ) → r ≡ (s >>= next)
      → (if b then refused R.Main x.from else r) ≡ ((if b then refused R.Main x.from else s) >>= next)
  tested true r s h = refl
  tested false r s h = h

  own : (which : Option LibraryFunction) (r : Answer FileScope) (s : Checked ℕ) → r ≡ (s >>= next)
      → own_name x.from which r ≡ (own_name x.from which s >>= next)
  own None r s h = h
  own (Some which) r s h = refl

  defined_in_turn : (f : FileScope)
      → own_name x.from (library_named x.text) (main_function x.text x.from t
      (function_of f words x place t nodes (declared_among f.names x.text) >>= λ n. once x (defined_among f.names x.text)
      (function_body (named n) n.0 place nodes result items p)))
      ≡ function_defined f words x place left nodes t result items p
  defined_in_turn f = own (library_named x.text) _ _ (tested (is_main x.text && not (same_type t main_type)) _ _
      (found f (function_of f words x place t nodes (declared_among f.names x.text))))

pub bound_then_defined : (f : FileScope) (words : Storage) (x : Spelling) (at place left nodes : ℕ) (result : CType) (types : CTypes)
    (items : Trees.BlockItems) (o : Option Received)
    → define_function f words x at place left nodes result types items o
    ≡ function_if_named f words x at place left nodes (function result types) result items o
bound_then_defined f words x at place left nodes result types items None = refl
bound_then_defined f words x at place left nodes result types items (Some p) =
    defined_in_turn words x place left nodes (function result types) result items p f

-- a function of a type, of which the file has spoken
pub typed_shape : (f g : FileScope) (words : Storage) (x : Spelling) (before at place left nodes : ℕ) (t result : CType) (types : CTypes)
    (list : Option Trees.ParameterList) (items : Trees.BlockItems)
    → t ≡ function result types → g ≡ with_mention (at_file_scope f) before Named t place f
    → define_shape f words x before at place left nodes (closed t) list items
    ≡ function_if_named g words x at place left nodes t result items (received_by list types)
typed_shape f g words x before at place left nodes t result types list items h k = rw (k, h)
    (bound_then_defined (with_mention (at_file_scope f) before Named (function result types) place f) words x at place left nodes result types items
    (received_by list types))
