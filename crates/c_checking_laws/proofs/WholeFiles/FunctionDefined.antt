-- Definitions of functions: what they add to the file, and what they define (C99 6.9.1).
use Rattle.std.proofs.Common.{◌≡◌, ℕ, suc, false, refl, sym, ap, ◌∙◌, subst, List, [], ◌∷◌, ◌++◌, length}
use Rattle.std.proofs.Common.{append-nil, length-append, arith, inl, inr}
use Rattle.std.proofs.lemmas.List.{map-append}
use Rattle.std.specs.Prelude.{◌⊎◌, map, Option, Some, None, Ok, slice_get, is_none}
use Rattle.std.specs.Option.{IsSome}
use Rattle.c_types.specs.Types.{CType, CTypes, function}
use Rattle.c_ast.specs.declared.words.Spelling.{Spelling}
use Rattle.c_ast.specs.Trees
use Rattle.c_erasure.specs.Files.{IsMainType, bound}
use Rattle.c_erasure.specs.Literals.{made_by_items}
use Rattle.c_erasure.specs.Marks.{a_name}
use Rattle.c_erasure.specs.MentionPlaces.{spoken_by_items}
use Rattle.c_erasure.specs.Scopes.{FileScope, defines, a_function, AnObject, AFunction}
use Rattle.c_erasure.specs.Specifiers.{Storage}
use Rattle.c_erasure.specs.Checking.Declaring.{declared_among, with_bound}
use Rattle.c_erasure.specs.Checking.Files.{Received, received_by, function_of, defined_function, define_function, defined_among}
use Rattle.c_checking_laws.proofs.Agreement.{fits_stay}
use Rattle.c_checking_laws.proofs.Extends.{Extends, further, kept, at_end}
use Rattle.c_checking_laws.proofs.WholeFiles.Bodies.{IsReadyFile}
use Rattle.c_checking_laws.proofs.WholeFiles.FileFunctions.{replaced_function, function_defined, IsFunctionDefined, FoundFunction, function_found}
use Rattle.c_checking_laws.proofs.WholeFiles.FileObjects.{set_same, set_types}
use Rattle.c_checking_laws.proofs.WholeFiles.FileScopes.{IsSameFunction, Continues, IsTheFunction}
use Rattle.c_checking_laws.proofs.Settled.{AreSettled, are_complete}
use Rattle.c_checking_laws.proofs.WholeFiles.Parts.{parted_then, none_right}
use Rattle.c_checking_laws.proofs.WholeFiles.Scoped.{records_same, IsInner, IsLater}
use Rattle.c_checking_laws.proofs.WholeFiles.StatementLaws.{AreItemsInRange}
use Rattle.c_checking_laws.proofs.WholeFiles.Known.{IsFunctionKnown, IsKnown, none_new, this_one, known_more}
use Rattle.c_checking_laws.proofs.WholeFiles.Making.{making_known}
use Rattle.c_checking_laws.proofs.WholeFiles.DeclaringFunctions.{replaced_function_known, settle_function}
use Rattle.c_checking_laws.proofs.WholeFiles.Stepping.{Stepped, all_bytes, IsWellHeld, held_so, made_held}
use Rattle.c_checking_laws.proofs.WholeFiles.ObjectSteps.{stands_for, made_of_parts, made_both}
use Rattle.c_checking_laws.proofs.WholeFiles.FunctionSteps.{IsNewFunction, IsOldFunction, function_entered, FunctionInMaking, new_function_in_making}
use Rattle.c_checking_laws.proofs.WholeFiles.FunctionSteps.{old_function_in_making}
use Rattle.c_checking_laws.proofs.WholeFiles.FunctionDeclared.{MayDeclareFunction}

no_longer : {X : Type 0} (xs ys zs : List X) → zs ≡ xs ++ ys → length zs ≡ length xs → ys ≡ []
no_longer xs [] zs e h = refl
no_longer xs (y ∷ ys) zs e h = absurd (let n = ap length e ∙ length-append xs (y ∷ ys) in omega (arith, n, h))

map_length : {X Y : Type 0} (v : X → Y) (xs : List X) → length (map v xs) ≡ length xs
map_length v [] = refl
map_length v (x ∷ xs) = ap suc (map_length v xs)

same_length : {X Y : Type 0} (v : X → Y) (xs ys : List X) → map v ys ≡ map v xs ++ [] → length ys ≡ length xs
same_length v xs ys e = sym (map_length v ys) ∙ ap length (e ∙ append-nil (map v xs)) ∙ map_length v xs

module _ (untagged : ℕ → List ℕ) (nodes_at : ℕ → ℕ) where
  abbrev pub DefinedFunction : FileScope → Storage → Spelling → (place left nodes : ℕ) → CType → CTypes → Option Trees.ParameterList → Trees.BlockItems
      → FileScope → Type 0
  DefinedFunction f words x place left nodes result types list items g =
      Stepped nodes_at (a_name left ∷ []) (spoken_by_items items) (place ∷ made_by_items items) (made_by_items items) f
      (λ h. IsFunctionDefined untagged words x place left nodes result types list items (is_none (declared_among f.names x.text)) h) g

  module _ (before : List ℕ) (f : FileScope) (words : Storage) (x : Spelling) (at place left nodes : ℕ) (result : CType) (types : CTypes)
      (list : Option Trees.ParameterList) (items : Trees.BlockItems) (p : Received) where
    abbrev InMaking : List ℕ → (n : ℕ × FileScope) → AFunction → Type 0
    InMaking b n o = FunctionInMaking nodes_at b f x place (function result types) defines left n.0 n.1 o

    in_making : MayDeclareFunction nodes_at f words place nodes → IsMainType x.text (function result types) → defined_among f.names x.text ≡ None
        → (n : ℕ × FileScope)
        → IsNewFunction f words x place (function result types) nodes n ⊎ IsOldFunction f x (function result types) n
        → (v : IsTheFunction f words x place (function result types) (is_none (declared_among f.names x.text)) n) → (b : List ℕ)
        → IsKnown nodes_at b none_new none_new f → InMaking b n v.function
    in_making may main once n (inl e) v b k =
        new_function_in_making nodes_at b f words may.may x place (function result types) nodes defines left may.counted main k n e v
    in_making may main once n (inr e) v b k =
        old_function_in_making nodes_at b f words x place (function result types) defines left (λ d. once) k n e v

    definition_step : MayDeclareFunction nodes_at f words place nodes → f.untagged ≡ untagged
        → (g : FileScope) → (o : FoundFunction untagged f words x place left nodes result types list items p g)
        → IsNewFunction f words x place (function result types) nodes o.number ⊎ IsOldFunction f x (function result types) o.number
        → IsMainType x.text (function result types) → IsKnown nodes_at before none_new none_new f
        → DefinedFunction f words x place left nodes result types list items g
    definition_step may same g o entered main k =
        let t = function result types in
        let b = bound x left defines (a_function o.number.0 t) in
        let f2 = with_bound o.number.1 b in
        let u = o.read in
        let after = o.all.1.file in
        let i = in_making may main o.once o.number entered o.the before k in
        let new = defined_function after place (length p.locals) nodes o.all.0 o.all.1.locals o.the.function in
        let there : slice_get after.functions o.number.0 ≡ Some o.the.function =
        subst (λ all. slice_get all o.number.0 ≡ Some o.the.function) (sym u.grows.functions) o.the.stands in
        let swap : Continues after (replaced_function after o.number.0 new) =
        function_defined after o.number.0 o.the.function new there (i.undefined refl) (same_function (i.undefined refl) o.all.1.file o.all.0 o.all.1.locals) in
        record {
          continues = o.continues;
          fit = tt;
          names = ap (λ (g : FileScope). map (λ b. b.from) g.names) o.file_is ∙ u.grows.names ∙ append-nil _
              ∙ map-append (λ b. b.from) o.number.1.names (b ∷ []) ∙ ap (λ (g : FileScope). map (λ b. b.from) g.names ++ left ∷ []) i.same;
          records = ap (λ (g : FileScope). map (λ r. r.tag) g.records) o.file_is ∙ u.grows.records
              ∙ ap (λ (g : FileScope). map (λ r. r.tag) g.records ++ []) i.same;
          mentions = ap (λ (g : FileScope). map (λ m. m.at) g.mentions) o.file_is ∙ u.grows.mentions
              ∙ ap (λ (g : FileScope). map (λ m. m.at) g.mentions ++ spoken_by_items items) i.same;
          objects = u.made;
          others = place ∷ u.texts;
          objects_parted = parted_then (all_bytes (place ∷ [])) u.parted;
          objects_are = ap (λ (g : FileScope). map (λ o. o.first) g.objects) o.file_is ∙ ap (λ all. map (λ o. o.first) all) u.grows.objects.1
              ∙ map-append (λ o. o.first) o.number.1.objects u.grows.objects.0
              ∙ ap (λ z. map (λ o. o.first) o.number.1.objects ++ z) u.grows.objects.2
              ∙ ap (λ (g : FileScope). map (λ o. o.first) g.objects ++ u.made) i.same;
          functions = i.functions ++ [];
          no_functions = i.others ++ made_by_items items;
          functions_parted = parted_then i.parted (all_bytes (made_by_items items));
          functions_are = ap (λ (g : FileScope). map (λ o. o.first) g.functions) o.file_is
              ∙ set_types (λ o. o.first) after.functions o.number.0 o.the.function new there refl
              ∙ ap (λ all. map (λ o. o.first) all) u.grows.functions ∙ i.functions_are
              ∙ ap (λ z. map (λ o. o.first) f.functions ++ z) (sym (append-nil i.functions));
          known = λ before k.
              let j = in_making may main o.once o.number entered o.the before k in
              let l = body_known before j.known in
              let m = known_more nodes_at (before ++ u.made) (before ++ made_by_items items) none_new (this_one o.number.0) after
              (made_both before u.made (made_by_items items) (made_of_parts (made_by_items items) u.made u.texts u.parted)) l in
              let r = replaced_function_known nodes_at (before ++ made_by_items items) none_new after o.number.0 o.the.function new there
              (same_function (j.undefined refl) o.all.1.file o.all.0 o.all.1.locals) swap.extends m in
              subst (IsKnown nodes_at (before ++ made_by_items items) none_new none_new) (sym o.file_is)
              (settle_function nodes_at (before ++ made_by_items items) none_new (replaced_function after o.number.0 new) o.number.0 new
              (set_same after.functions o.number.0 o.the.function new there) (settled u.extends) r);
          holds = λ h c e. o.holds h c (record {
            extends = further swap.extends (subst (λ g. Extends g h) o.file_is c.extends);
            locals = ([], sym (append-nil o.all.1.locals));
            laid = e.laid;
            none_begins = none_right h (place ∷ []) u.texts e.none_begins;
            constants = λ b from to. e.constants b to;
          });
          typed = λ h c e m q there. held h (record {
            extends = further swap.extends (subst (λ g. Extends g h) o.file_is c.extends);
            locals = ([], sym (append-nil o.all.1.locals));
            laid = e.laid;
            none_begins = none_right h (place ∷ []) u.texts e.none_begins;
            constants = λ b from to. e.constants b to;
          }) m q i.same (u.inner m q (subst (λ (g : FileScope). slice_get g.objects m ≡ Some q) o.file_is there));
        }
      where
        held : (h : FileScope)
            → IsLater (with_bound o.number.1 (bound x left defines (a_function o.number.0 (function result types)))) o.all.1 o.read.texts h o.all.1.locals
            → (m : ℕ) (q : AnObject) → o.number.1 ≡ record f { functions = o.number.1.functions }
            → (slice_get o.number.1.objects m ≡ Some q)
            ⊎ IsInner (with_bound o.number.1 (bound x left defines (a_function o.number.0 (function result types)))) o.all.1 o.read.texts q
            → (slice_get f.objects m ≡ Some q) ⊎ IsWellHeld h q
        held h later m q same (inl e) = inl (subst (λ (g : FileScope). slice_get g.objects m ≡ Some q) same e)
        held h later m q same (inr e) = inr (held_so h q e.initial e.initial_is (made_held h o.all.1.locals q.ty e.initial (e.typed h o.all.1.locals later)))

        same_function : o.the.function.body ≡ None → (file : FileScope) (all : Rattle.c_erasure.specs.Statements.Statements)
            (locals : List Rattle.c_erasure.specs.Scopes.ALocal)
            → IsSameFunction o.the.function (defined_function file place (length p.locals) nodes all locals o.the.function)
        same_function e file all locals =
            record { name = refl; first = refl; ty = refl; is_linked = refl; settled = λ s. absurd (no_body s) }
          where
            no_body : IsSome o.the.function.body → ⊥
            no_body s = let none_is_some = subst IsSome e s in cc

        settled : Extends (with_bound o.number.1 (bound x left defines (a_function o.number.0 (function result types)))) o.all.1.file
            → IsFunctionKnown nodes_at o.all.1.file.file o.all.1.file.names o.number.0
            (defined_function o.all.1.file place (length p.locals) nodes o.all.0 o.all.1.locals o.the.function)
        settled ext =
            let b = bound x left defines (a_function o.number.0 (function result types)) in
            let at = kept (o.number.1.names ++ b ∷ []) ext.names.0 (length o.number.1.names) b (at_end o.number.1.names b) in
            let there = subst (λ names. slice_get names (length o.number.1.names) ≡ Some b) (sym ext.names.1) at in
            let is = ap (λ t. a_function o.number.0 t) (sym o.the.ty) in
            record {
              declared = (length o.number.1.names, b, there, is);
              left = λ e. cc;
              defined = λ s. (length o.number.1.names, b, there, is, refl);
              main = λ e. o.the.ty ∙ main (sym o.the.name ∙ e);
            }

        body_known : (before : List ℕ)
            → IsKnown nodes_at before none_new (this_one o.number.0)
            (with_bound o.number.1 (bound x left defines (a_function o.number.0 (function result types))))
            → IsKnown nodes_at (before ++ o.read.made) none_new (this_one o.number.0) o.all.1.file
        body_known before k =
            let f2 = with_bound o.number.1 (bound x left defines (a_function o.number.0 (function result types))) in
            let u = o.read in
            let g = o.all.1.file in
            let none = no_longer f2.names u.extends.names.0 g.names u.extends.names.1 (same_length (λ b. b.from) f2.names g.names u.grows.names) in
            let names : g.names ≡ f2.names = u.extends.names.1 ∙ ap (λ z. f2.names ++ z) none ∙ append-nil f2.names in
            let records : g.records ≡ f2.records = records_same u.extends (same_length (λ r. r.tag) f2.records g.records u.grows.records) in
            making_known nodes_at none_new (this_one o.number.0) before (record {
              file = u.extends.file;
              functions = u.grows.functions;
              names = (u.extends.names.0, u.extends.names.1, λ j c e. let g : slice_get [] j ≡ Some c = subst (λ all. slice_get all j ≡ Some c) none e in cc);
              objects = u.grows.objects;
              new = λ m q e. one m q (u.inner m q e);
            })
            (subst (λ names. Rattle.c_checking_laws.proofs.Agreement.AreFit g [] names) (sym names) (fits_stay u.extends [] f2.names k.fits))
            (subst (λ numbered. AreSettled numbered g.records) (sym u.extends.numbered) (subst (AreSettled f2.numbered) (sym records) k.settled))
            u.within.whole
            (subst Rattle.c_erasure.specs.Files.AreConsistent (sym names) k.consistent) k
          where
            one : {f2 : FileScope} (m : ℕ) (q : AnObject)
                → (slice_get o.number.1.objects m ≡ Some q) ⊎ IsInner f2 o.all.1 o.read.texts q
                → (slice_get o.number.1.objects m ≡ Some q) ⊎ (IsSome q.initial × (q.is_linked ≡ false))
            one m q (inl e) = inl e
            one m q (inr e) = inr (subst IsSome (sym e.initial_is) refl, e.linked)

    pub function_defined_step : MayDeclareFunction nodes_at f words place nodes → f.untagged ≡ untagged → received_by list types ≡ Some p
        → AreItemsInRange f.ends (length f.records) items → IsKnown nodes_at before none_new none_new f → (g : FileScope)
        → define_function f words x at place left nodes result types items (Some p) ≡ Ok g
        → (o : FoundFunction untagged f words x place left nodes result types list items p g)
        × DefinedFunction f words x place left nodes result types list items g
    function_defined_step may same e range k g h =
        let k0 = stands_for nodes_at before f x place k may.objects_before may.functions_before in
        let o = function_found untagged f words may.may x at place left nodes result types list items p e k0 ready g h in (
          o,
          definition_step may same g o
              (function_entered f words x place (function result types) nodes (declared_among f.names x.text) refl o.number o.number_is)
              o.main k,
        )
      where
        ready : (n : ℕ × FileScope) → function_of f words x place (function result types) nodes (declared_among f.names x.text) ≡ Ok n
            → defined_among f.names x.text ≡ None → IsMainType x.text (function result types)
            → (v : IsTheFunction f words x place (function result types) (is_none (declared_among f.names x.text)) n)
            → IsReadyFile untagged (with_bound n.1 (bound x left defines (a_function n.0 (function result types))))
            × AreItemsInRange n.1.ends (length n.1.records) items
            × ((o : AFunction) → slice_get n.1.functions n.0 ≡ Some o → o.body ≡ None)
        ready n is once main v =
            let entered = function_entered f words x place (function result types) nodes (declared_among f.names x.text) refl n is in
            let i = in_making may main once n entered v before k in (
              record {
                names_fit = i.known.fits;
                complete = are_complete i.known.settled;
                whole = i.known.whole;
                same = ap (λ (g : FileScope). g.untagged) i.same ∙ same;
              },
              subst (λ (g : FileScope). AreItemsInRange g.ends (length g.records) items) (sym i.same) range,
              λ o there. ap (λ (o : AFunction). o.body) (one_function o v.function (sym there ∙ v.stands)) ∙ i.undefined refl,
            )
          where
            one_function : (p q : AFunction) → Some p ≡ Some q → p ≡ q
            one_function p q e = cc
