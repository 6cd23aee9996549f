-- Where the body of a function stops, it is broken (C99 6.9.1).
use Rattle.std.proofs.Common.{◌≡◌, ℕ, true, false, refl, subst, List, length}
use Rattle.std.specs.Prelude.{Some, Err, map, slice_get}
use Rattle.c_types.specs.Types.{CType, CTypes, function}
use Rattle.c_ast.specs.declared.words.Spelling.{Spelling}
use Rattle.c_ast.specs.Trees
use Rattle.c_erasure.specs.Broken.{Fault}
use Rattle.c_erasure.specs.BrokenFiles.{IsBrokenBody}
use Rattle.c_erasure.specs.BrokenStatements.{AreBrokenItems}
use Rattle.c_erasure.specs.Erasure.{IsBound}
use Rattle.c_erasure.specs.Files.{bound, in_body, parameters_of}
use Rattle.c_erasure.specs.Literals.{made_by_items}
use Rattle.c_erasure.specs.Scopes.{FileScope, a_function, at_file_scope, defines}
use Rattle.c_erasure.specs.Checking.Files.{Received, received_by}
use Rattle.c_erasure.specs.Checking.Statements.{items_in}
use Rattle.c_checking_laws.proofs.Agreement.{IsSteady}
use Rattle.c_checking_laws.proofs.Extends.{bound_stays}
use Rattle.c_checking_laws.proofs.FaultDeclaring.{IsOrderly}
use Rattle.c_checking_laws.proofs.FaultResults.{Reaches}
use Rattle.c_checking_laws.proofs.WholeFiles.Bodies.{IsReadyFile, parameters_are, body_within}
use Rattle.c_checking_laws.proofs.WholeFiles.Layouts.{IsLaid}
use Rattle.c_checking_laws.proofs.WholeFiles.StatementLaws.{AreItemsInRange}
use Rattle.c_checking_units.proofs.FirstStops.Clear.{AreFresh}
use Rattle.c_checking_units.proofs.FirstStops.InnerAdditions.{at_items}
use Rattle.c_checking_units.proofs.FirstStops.Stopped.{Inner}
use Rattle.c_checking_laws.proofs.Within.{Additions}
use Rattle.c_checking_units.proofs.FirstStops.DeclaredLocals.{AreObjectLocals}
use Rattle.c_checking_units.proofs.FirstStops.StatementStops.{items_stop}
use Rattle.c_checking_units.proofs.FirstStops.StatementTimely.{AreItemsTimely}

-- a file that goes on from that in which the function begins, in which its body is broken
pub record BodyIsBroken (k : Additions) (f : FileScope) (t : CType) (d : Trees.Declarator) (x : Spelling) (left : ℕ) (items : Trees.BlockItems)
    (fault : Fault) : Type 0 where
  pub file : FileScope
  pub reaches : Reaches (Inner f k) f true file
  pub is : IsBrokenBody file t d x left items fault

module _ (untagged : ℕ → List ℕ) where
  pub body_stops : (f : FileScope) (result : CType) (types : CTypes) (d : Trees.Declarator) (x : Spelling) (left : ℕ) (items : Trees.BlockItems)
      (p : Received) → received_by (parameters_of d) types ≡ Some p → (n : ℕ)
      → slice_get (map (λ g. g.ty) f.functions) n ≡ Some (function result types)
      → IsBound (at_file_scope f) (bound x left defines (a_function n (function result types))) → IsReadyFile untagged f → IsSteady f → IsOrderly f
      → IsLaid f → AreObjectLocals p.locals → AreItemsInRange f.ends (length f.records) items → AreItemsTimely untagged f.ends f items
      → AreFresh f (made_by_items items) → (fault : Fault) → items_in result items (in_body f p.bounds p.locals) false false ≡ Err fault
      → BodyIsBroken (at_items items) f (function result types) d x left items fault
  body_stops f result types d x left items p e n typed is ready steady orderly laid objects in_range timely fresh fault h =
      let parameters = parameters_are f (parameters_of d) types p e in
      let b = items_stop untagged f.ends f result items (in_body f p.bounds p.locals) false false (record {
        within = body_within untagged f p ready parameters.fit;
        ends_are = refl;
        steady = steady;
        orderly = orderly;
        locals_are = objects;
        laid = laid;
      }) in_range timely fresh fault h in
      record {
        file = b.file;
        reaches = b.reaches;
        is = (
          p.locals,
          b.goes.0,
          p.bounds,
          n,
          b.reaches.extends.functions n (function result types) typed,
          (is.0, bound_stays b.reaches.extends is.0 (bound x left defines (a_function n (function result types))) is.1),
          parameters.has,
          subst (λ locals. AreBrokenItems result items (in_body b.file p.bounds locals) false false fault) b.goes.1 b.is,
        );
      }
