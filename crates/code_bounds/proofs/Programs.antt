-- The code of a program of files keeps within the parts of the address space.
use Rattle.std.proofs.Common.{◌≡◌, ◌≢◌, ℕ, zero, suc, ◌+◌, ◌*◌, ◌^◌, ◌≤◌, ◌<◌, Bool, List, [], ◌∷◌, ◌++◌, length, map, All, Option, Some, None, refl, sym}
use Rattle.std.proofs.Common.{ap, ◌∙◌, subst, arith}
use Rattle.std.proofs.Common.{slice_get, get_or, length-append}
use Rattle.std.proofs.lemmas.List.{length-map}
use Rattle.std.specs.Prelude.{fold, unwrap_or}
use Rattle.std.proofs.lemmas.List.Elements.{All-from_recursion}
use Rattle.std.specs.List.{AllByRecursion}
use Rattle.c_types.specs.Types.{CType, void}
use Rattle.c_types.specs.Layouts.{size_of}
use Rattle.std.specs.Int.{next_multiple_of}
use Rattle.std.specs.Prelude.{is_some, if◌then◌else◌}
use Rattle.c_typed.specs.declared.program.Initial.{Initial}
use Rattle.c_typed.specs.declared.program.Local.{Local}
use Rattle.c_typed.specs.declared.program.Object.{Object}
use Rattle.c_typed.specs.Programs.{FunctionData, ProgramData}
use Rattle.c_typed.specs.Trees.{Statement}
use Rattle.c_meaning.specs.Program.{all_locals, object_size, size_at, size_if_defined}
use Rattle.c_meaning.specs.Weights.{size_of_locals}
use Rattle.c_link.specs.Gaps.{local_bytes, object_bytes}
use Rattle.c_link.specs.Texts.{texts_in_body, texts_in_functions}
use Rattle.c_well_typed.specs.ProgramWeights.Bounds.{IsProgramBounded, ProgramsAreBounded}
use Rattle.c_well_typed.specs.ProgramWeights.Counted.{code, frame}
use Rattle.c_well_typed.specs.ProgramWeights.Weights.{weight_of_function, weight_of_functions}
use Rattle.c_well_typed.specs.Laws.{ProgramHasTypedFunctions}
use Rattle.c_well_typed.specs.WellTyped.{HasBody, IsTypedFunction, HaveTypedFunctions, of_program}
use Rattle.c_well_typed.specs.Within.{IsWithinLimits, ProgramsAreWithinLimits}
use Rattle.lower_tac.specs.Statements.{routines_from, code_if_any, lowered, parameter_of}
use Rattle.tac_ir.specs.Code.{Code, RoutineData, code_of, data_of}
use Rattle.tac_ir.specs.declared.step.Routine.{Routine}
use Rattle.tac_ir.specs.declared.step.Parameter.{Parameter}
use Rattle.tac_ir.specs.declared.step.Step.{Step}
use Rattle.tac_ir.specs.declared.step.Tac.{Tac}
use Rattle.code_bounds.specs.LoweredLaws.{IsRoutineOf, BytesAreLeft, FramesAreWithin, FramesWeighLess, TypedHaveScopes}
use Rattle.code_bounds.specs.Prices.{in_bytes, price_of_routines}
use Rattle.code_bounds.specs.Scopes.{HasScopes}
use Rattle.rv_code.specs.Frames.{end_from, frame_size, whole_words}
use Rattle.rv_code.specs.Programs.{IsSmall, all_texts_end, entries_end, first_entry, words_of_function}
use Rattle.code_bounds.specs.CompiledLaws.{CodeFits, CodeIsWithin, DataFits, ProgramsAreAsLong, FramesAreSmall, FunctionsArePaid, ProgramIsSmall, TextsAreWithin}
use Rattle.code_bounds.proofs.Frames.{all_at}
use Rattle.code_bounds.proofs.Routines.{some_same, Is, is_of}
use Rattle.code_bounds.proofs.Texts.{bytes_of_texts, function_adds}

-- ---- code

entries_paid : FunctionsArePaid → (at : ℕ) (all : List RoutineData) → entries_end at all ≤ at + price_of_routines in_bytes all
entries_paid paid at [] = omega arith
entries_paid paid at (g ∷ more) =
    let a = paid g in let b = entries_paid paid (at + 4 * words_of_function g) more in omega (arith, a, b)

pub code_is_within : FunctionsArePaid → BytesAreLeft → CodeIsWithin
code_is_within paid left p scopes main bounded =
    let a = entries_paid paid first_entry (lowered p).routines in
    let b = left p scopes main in_bytes (record { step = omega arith; wide = omega arith; argument = omega arith; parameter = omega arith }) in
    let d = bounded.code in omega (arith, a, b, d)

-- ---- a function of a program

one_weighs : (all : List FunctionData) (k : ℕ) (f : FunctionData) → slice_get all k ≡ Some f → weight_of_function code f ≤ weight_of_functions code all
one_weighs [] k f e = cc
one_weighs (g ∷ all) zero f e = let a : weight_of_function code g ≡ weight_of_function code f = ap (weight_of_function code) (some_same e) in omega (arith, a)
one_weighs (g ∷ all) (suc k) f e = let a = one_weighs all k f e in omega (arith, a)

one_has_texts : (all : List FunctionData) (k : ℕ) (f : FunctionData) → slice_get all k ≡ Some f → texts_in_body f.body ≤ texts_in_functions all
one_has_texts [] k f e = cc
one_has_texts (g ∷ all) zero f e =
    let a : texts_in_body g.body ≡ texts_in_body f.body = ap (λ (f : FunctionData). texts_in_body f.body) (some_same e) in omega (arith, a)
one_has_texts (g ∷ all) (suc k) f e = let a = one_has_texts all k f e in omega (arith, a)

type_is : (all : List CType) (n : ℕ) → get_or all n void ≡ unwrap_or (slice_get all n) void
type_is [] n = refl
type_is (t ∷ all) zero = refl
type_is (t ∷ all) (suc n) = type_is all n

locals_are : (p : ProgramData) (n : ℕ) (all : List Local) → fold (λ n l. n + size_of p.records (get_or p.types l.ty void)) n all ≡ n + size_of_locals p all
locals_are p n [] = omega arith
locals_are p n (l ∷ all) =
    let a = locals_are p (n + size_of p.records (get_or p.types l.ty void)) all in
    let b : size_of p.records (get_or p.types l.ty void) ≡ size_at p l.ty = ap (size_of p.records) (type_is p.types l.ty) in omega (arith, a, b)

each_few : (n : ℕ) (all : List (List ℕ)) → bytes_of_texts all ≤ n → AllByRecursion (λ t. length t ≤ n) all
each_few n [] h = tt
each_few n (t ∷ all) h = (omega (arith, h), each_few n all (omega (arith, h)))

-- ---- a function that is only declared has an empty frame

abbrev frame_by : (locals : List Bool) (parameters : List Parameter) (steps : List Step) → ℕ
frame_by locals parameters steps =
    frame_size (record { ty = 0; locals = locals; parameters = parameters; code = steps; labels = []; texts = [] })

bare_frame : (locals : List Bool) (parameters : List Parameter) (steps : List Step) → locals ≡ [] → parameters ≡ [] → steps ≡ []
    → frame_by locals parameters steps < 2 ^ 31
bare_frame [] [] [] e h k = let a : frame_by [] [] [] ≡ 16 = refl in omega (arith, a)
bare_frame (x ∷ locals) parameters steps e h k = cc
bare_frame [] (x ∷ parameters) steps e h k = cc
bare_frame [] [] (s ∷ steps) e h k = cc

-- ---- each function of a program

function_of : (p : ProgramData) (k : ℕ) (all : List FunctionData) (n : ℕ) (r : RoutineData) → slice_get (routines_from p k all) n ≡ Some r
    → (f : FunctionData) × (slice_get all n ≡ Some f)
function_of p k [] n r e = cc
function_of p k (f ∷ all) zero r e = (f, refl)
function_of p k (f ∷ all) (suc n) r e = function_of p (suc k) all n r e

module _ (p : ProgramData) (scopes : All HasScopes p.functions) (typed : HaveTypedFunctions (of_program p)) (bounded : IsProgramBounded p)
    (within : IsWithinLimits p) (small : FramesAreSmall) (frames : FramesAreWithin) (less : FramesWeighLess) where
  texts_fit : texts_in_functions p.functions ≤ 2 ^ 24
  texts_fit = let a = within.globals in omega (arith, a)

  module _ (r : RoutineData) (f : FunctionData) (i : IsRoutineOf p r f) where
    z : Is p r f
    z = is_of p r f i

    locals_kept : r.locals ≡ map (λ (l : Local). l.block) (all_locals f)
    locals_kept = ap (λ (r : RoutineData). r.locals) (sym z.is)

    parameters_kept : r.parameters ≡ map (parameter_of p) f.parameters
    parameters_kept = ap (λ (r : RoutineData). r.parameters) (sym z.is)

    few_texts : bytes_of_texts r.texts ≤ 2 ^ 24
    few_texts =
        let a = subst (λ (r : RoutineData). bytes_of_texts r.texts ≤ texts_in_body f.body) z.is (function_adds p z.at f f.body) in
        let b = one_has_texts p.functions i.number f i.function in
        let d = texts_fit in omega (arith, a, b, d)

    short_texts : All (λ (bytes : List ℕ). length bytes < 2 ^ 32) r.texts
    short_texts = All-from_recursion (λ (bytes : List ℕ). length bytes < 2 ^ 32) r.texts (shorter r.texts (each_few (2 ^ 24) r.texts few_texts))
      where
        shorter : (all : List (List ℕ)) → AllByRecursion (λ t. length t ≤ 2 ^ 24) all → AllByRecursion (λ t. length t < 2 ^ 32) all
        shorter [] h = tt
        shorter (t ∷ all) h = (let a = h.0 in omega (arith, a), shorter all h.1)

    -- four bytes for each node of the program at most
    light : weight_of_function frame f ≤ 2 ^ 23
    light =
        let a = less f in
        let b = one_weighs p.functions i.number f i.function in
        let d = bounded.code in
        let e = within.nodes in omega (arith, a, b, d, e)

    locals_fit : size_of_locals p (all_locals f) ≤ 2 ^ 24
    locals_fit =
        let a = all_at (λ (f : FunctionData). local_bytes p f ≤ 2 ^ 24) p.functions i.number f i.function within.frames in
        let b = locals_are p 0 (all_locals f) in omega (arith, a, b)

    of_body : (b : Option (Statement ℕ)) → f.body ≡ b → IsSmall r
    of_body None e =
        let own = all_at (IsTypedFunction (of_program p)) p.functions i.number f i.function typed.functions in
        let empty : (f.parameters ≡ []) × (f.locals ≡ []) = subst (HasBody (of_program p) f own.0 own.1) e own.5 in
        let none : r.parameters ≡ [] = parameters_kept ∙ ap (map (parameter_of p)) empty.0 in
        let bare : r.locals ≡ [] = locals_kept ∙ ap (λ (all : List Local). map (λ (l : Local). l.block) (all ++ f.locals)) empty.0
        ∙ ap (map (λ (l : Local). l.block)) empty.1 in
        let steps : r.code ≡ [] = ap (λ (r : RoutineData). r.code) (sym z.is) ∙ ap (λ (b : Option (Statement ℕ)). (code_if_any p z.at f b).code) e in
        let count : length r.parameters ≡ 0 = ap length none in
        record { frame = bare_frame r.locals r.parameters r.code bare none steps; parameters = omega (arith, count); texts = short_texts }
    of_body (Some body) e =
        let some : f.body ≢ None = subst (λ (b : Option (Statement ℕ)). b ≢ None) (sym e) (λ (q : Some body ≡ None). cc) in
        let own = all_at HasScopes p.functions i.number f i.function scopes in
        let a = small p r f i own some in
        let b = light in
        let d = locals_fit in
        let g = frames p r f i own some in
        let h : length r.parameters ≡ length (map (parameter_of p) f.parameters) = ap length parameters_kept in
        let j : length r.locals ≡ length (map (λ (l : Local). l.block) (all_locals f)) = ap length locals_kept in
        let k = length-map f.parameters (parameter_of p) in
        let m = length-map (all_locals f) (λ (l : Local). l.block) in
        let n = length-append f.parameters f.locals in
        record { frame = omega (arith, a, b, d); parameters = omega (arith, b, g, h, j, k, m, n); texts = short_texts }

  each_small : (n : ℕ) (r : RoutineData) → slice_get (lowered p).routines n ≡ Some r → IsSmall r
  each_small n r e =
      let own = function_of p 0 p.functions n r e in
      of_body r own.0 (record { number = n; routine = e; function = own.1 }) own.0.body refl

-- ---- the program

from_each : {A : Type 0} (P : A → Type 0) (all : List A) → ((n : ℕ) (x : A) → slice_get all n ≡ Some x → P x) → AllByRecursion P all
from_each P [] h = tt
from_each P (x ∷ all) h = (h 0 x refl, from_each P all (λ n y e. h (suc n) y e))

of_data : (all : List Routine) → AllByRecursion IsSmall (map data_of all) → AllByRecursion (λ (g : Routine). IsSmall (data_of g)) all
of_data [] h = tt
of_data (g ∷ all) h = (h.0, of_data all h.1)

pub program_is_small : (p : ProgramData) → ProgramHasTypedFunctions p → ProgramsAreBounded → ProgramsAreWithinLimits → TypedHaveScopes → CodeIsWithin
    → TextsAreWithin → FramesAreSmall → FramesAreWithin → FramesWeighLess → (t : Tac) (first_text : ℕ) → ProgramIsSmall p t first_text
program_is_small p typed bounds limits have_scopes code_within texts_within small frames less t first_text files is_program same low =
    let own = typed files is_program in
    let bounded = bounds files p is_program in
    let within = limits files p is_program in
    let scopes = have_scopes p own.0 in
    let routines : (code_of t).routines ≡ (lowered p).routines = ap (λ (c : Code). c.routines) same in
    let all = from_each IsSmall (lowered p).routines (each_small p scopes own.0 bounded within small frames less) in
    let a = code_within p scopes own.1 bounded in
    let b = within.nodes in
    let d = texts_within p first_text in
    let e = texts_fit p scopes own.0 bounded within small frames less in
    let g : entries_end first_entry (code_of t).routines ≡ entries_end first_entry (lowered p).routines = ap (entries_end first_entry) routines in
    let h : all_texts_end first_text (code_of t).routines ≡ all_texts_end first_text (lowered p).routines = ap (all_texts_end first_text) routines in
    record {
      each = All-from_recursion (λ (g : Routine). IsSmall (data_of g)) t.routines
          (of_data t.routines (subst (AllByRecursion IsSmall) (sym routines) all));
      code = omega (arith, a, b, g);
      texts = omega (arith, d, e, h, low);
    }

-- ---- the code and the data of a program

pub code_fits : (p : ProgramData) → ProgramHasTypedFunctions p → ProgramsAreBounded → ProgramsAreWithinLimits → TypedHaveScopes → CodeIsWithin
    → ProgramsAreAsLong → (t : Tac) → CodeFits p t
code_fits p typed bounds limits have_scopes code_within as_long t files is_program same stack_end objects texts =
    let own = typed files is_program in
    let a = code_within p (have_scopes p own.0) own.1 (bounds files p is_program) in
    let within = limits files p is_program in
    let b = within.nodes in
    let d = as_long (code_of t) stack_end objects texts in
    let e : entries_end first_entry (code_of t).routines ≡ entries_end first_entry (lowered p).routines
    = ap (λ (c : Code). entries_end first_entry c.routines) same in omega (arith, a, b, d, e)

one_object : (p : ProgramData) (o : Object) → whole_words (object_size p o) ≡ object_bytes p o
one_object p o = by_initial o.initial
  where
    by_initial : (i : Option (List Initial))
        → whole_words (size_if_defined i (size_at p o.ty)) ≡ (if is_some i then next_multiple_of (size_of p.records (get_or p.types o.ty void)) 4 else 0)
    by_initial None = omega arith
    by_initial (Some all) =
        let a : size_of p.records (get_or p.types o.ty void) ≡ size_at p o.ty = ap (size_of p.records) (type_is p.types o.ty) in omega (arith, a)

objects_end : (p : ProgramData) (n at : ℕ) (all : List Object) → end_from (n + at) (map (object_size p) all) ≡ fold (λ n o. n + object_bytes p o) n all + at
objects_end p n at [] = refl
objects_end p n at (o ∷ all) =
    let a : n + at + whole_words (object_size p o) ≡ n + object_bytes p o + at = (let b = one_object p o in omega (arith, b)) in
    ap (λ at. end_from at (map (object_size p) all)) a ∙ objects_end p (n + object_bytes p o) at all

pub data_fits : ProgramsAreWithinLimits → DataFits
data_fits limits files p is_program at =
    let within = limits files p is_program in
    let a = within.globals in
    let b = objects_end p 0 at p.objects in
    let d : end_from at (map (object_size p) p.objects) ≡ end_from (0 + at) (map (object_size p) p.objects)
    = (let q : at ≡ 0 + at = omega arith in ap (λ at. end_from at (map (object_size p) p.objects)) q) in omega (arith, a, b, d)
