-- Objects of the file scope: bound first, then defined by their initializers.
use Rattle.std.proofs.Common.{◌≡◌, ℕ, List, Option, refl}
use Rattle.std.specs.Prelude.{Ok, Err, Some, None, slice_get}
use Rattle.c_types.specs.Types.{CType}
use Rattle.c_ast.specs.declared.words.Spelling.{Spelling}
use Rattle.c_ast.specs.Trees
use Rattle.c_typed.specs.Trees as Typed
use Rattle.c_typed.specs.declared.operators.LibraryFunction.{LibraryFunction}
use Rattle.c_erasure.specs.Erasure.{place_in}
use Rattle.c_erasure.specs.Files.{bound, object_how}
use Rattle.c_erasure.specs.Noted.{Noted}
use Rattle.c_erasure.specs.Scopes.{AnObject, Bound, FileScope, an_object, at_file_scope}
use Rattle.c_erasure.specs.Specifiers.{Storage}
use Rattle.c_erasure.specs.Checking.Answers.{Answer, ◌>>=◌, Checked}
use Rattle.c_erasure.specs.Checking.Declaring.{declared_among, with_bound}
use Rattle.c_erasure.specs.Checking.Files.{declare_object, define_object, defined_among, defined_object, defined_once, library_named, object_of, once, own_name}
use Rattle.c_erasure.specs.Checking.Files.{with_definition}
use Rattle.c_externals.specs.Filing.{object_bound, objects_set, objects_with, with_initial}

abbrev with_objects : FileScope → List AnObject → FileScope
with_objects g all = record g { objects = all }

initialized : (f g : FileScope) (n place : ℕ) (i : Typed.Initializer Noted) (o : Option AnObject)
    → with_definition g n (defined_object f place i o) ≡ with_objects g (objects_set g.objects n (with_initial (place_in (at_file_scope f) place) i o))
initialized f g n place i None = refl
initialized f g n place i (Some o) = refl

pub object_initialized : (f g : FileScope) (n place : ℕ) (i : Typed.Initializer Noted)
    → with_definition g n (defined_object f place i (slice_get g.objects n))
    ≡ record g { objects = objects_with g.objects n (place_in (at_file_scope f) place) i }
object_initialized f g n place i = initialized f g n place i (slice_get g.objects n)

module _ (words : Storage) (x : Spelling) (place from : ℕ) (t : CType) where
  -- the object with that number, whose name is bound in the file
  abbrev named : Option (ℕ × Trees.Expression) → ℕ × FileScope → FileScope
  named value n = with_bound n.1 (bound x from (object_how words value) (an_object n.0 t))

  abbrev numbered : Option (ℕ × Trees.Expression) → ℕ × FileScope → Checked ℕ
  numbered value n = Ok (n.0, named value n)

  initial : (value : ℕ × Trees.Expression) (n : ℕ × FileScope) (old : Option Bound)
      → once x old (define_object (named (Some value) n) n.0 place (Some value) t)
      ≡ (once x old (numbered (Some value) n) >>= λ n. define_object n.1 n.0 place (Some value) t)
  initial value n None = refl
  initial value n (Some old) = refl

  found : (f : FileScope) (value : Option (ℕ × Trees.Expression)) (r : Checked ℕ)
      → (r >>= λ n. defined_once f x value (define_object (named value n) n.0 place value t))
      ≡ ((r >>= λ n. defined_once f x value (numbered value n)) >>= λ n. define_object n.1 n.0 place value t)
  found f value (Err fault) = refl
  found f None (Ok n) = refl
  found f (Some value) (Ok n) = initial value n (defined_among f.names x.text)

  own : (which : Option LibraryFunction) (r : Answer FileScope) (s : Checked ℕ) (next : ℕ × FileScope → Answer FileScope) → r ≡ (s >>= next)
      → own_name x.from which r ≡ (own_name x.from which s >>= next)
  own None r s next h = h
  own (Some which) r s next h = refl

  pub bound_then_defined : (f : FileScope) (value : Option (ℕ × Trees.Expression))
      → declare_object f words x place from t value ≡ (object_bound f words x place from t value >>= λ n. define_object n.1 n.0 place value t)
  bound_then_defined f value = own (library_named x.text) _ _ (λ n. define_object n.1 n.0 place value t)
      (found f value (object_of f words x place t (declared_among f.names x.text)))
