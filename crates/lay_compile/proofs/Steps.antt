-- One file more: what holds of files still holds, and of which file a fault is the first.
use Rattle.std.proofs.Common.{◌≡◌, ◌∙◌, ℕ, suc, ◌+◌, List, [], ◌∷◌, ◌++◌, length, refl, ap, subst, arith, append_assoc}
use Rattle.std.specs.Prelude.{map}
use Rattle.lay_base.specs.declared.place.File.{File}
use Rattle.c_lexer.specs.declared.fault.LexFault.{LexFault}
use Rattle.c_typed.specs.Programs.{UnitData, unit_data}
use Rattle.c_link.specs.Programs.{AreUnitsOf, IsUnitOfFile}
use Rattle.lay_compile.specs.declared.stages.Reached.{Reached}
use Rattle.lay_compile.specs.declared.stages.Reached.TheVariants as R
use Rattle.lay_compile.specs.Front.{Stage, IsFile, HasTokens, HasTree, HasUnit, HasLexicalFault, Each, FirstFails}
use Rattle.lay_compile.specs.Reaching.{HaveReached}

pub each_after : (Is : Stage) (number : ℕ) (before : List File) (file : File) → Each Is number before → Is (number + length before) file
    → Each Is number (before ++ file ∷ [])
each_after Is number [] file h x = (subst (λ n. Is n file) (let e : number + 0 ≡ number = omega arith in e) x, tt)
each_after Is number (f ∷ more) file h x =
    (h.0, each_after Is (number + 1) more file h.1 (subst (λ n. Is n file) (let e : number + suc (length more) ≡ number + 1 + length more = omega arith in e) x))

pub units_after : (number : ℕ) (before : List File) (units : List UnitData) (file : File) (u : UnitData) → AreUnitsOf number before units
    → IsUnitOfFile (number + length before) file u → AreUnitsOf number (before ++ file ∷ []) (units ++ u ∷ [])
units_after number [] units file u h x =
    (u, [], ap (λ all. all ++ u ∷ []) h, subst (λ n. IsUnitOfFile n file u) (let e : number + 0 ≡ number = omega arith in e) x, refl)
units_after number (f ∷ more) units file u h x = (
  h.0,
  h.1 ++ u ∷ [],
  ap (λ all. all ++ u ∷ []) h.2,
  h.3,
  units_after (number + 1) more h.1 file u h.4
      (subst (λ n. IsUnitOfFile n file u) (let e : number + suc (length more) ≡ number + 1 + length more = omega arith in e) x),
)

pub each_also : (Is Also : Stage) → ((n : ℕ) (file : File) → Is n file → Also n file) → (number : ℕ) (files : List File) → Each Is number files
    → Each Also number files
each_also Is Also law number [] h = tt
each_also Is Also law number (file ∷ more) h = (law number file h.0, each_also Is Also law (number + 1) more h.1)

pub have_units : (number : ℕ) (files : List File) (units : List UnitData) → AreUnitsOf number files units → Each HasUnit number files
have_units number [] units h = tt
have_units number (file ∷ more) units h = ((h.0, h.3), have_units (number + 1) more h.1 h.4)

all_files : (number : ℕ) (files : List File) → Each IsFile number files
all_files number [] = tt
all_files number (file ∷ more) = (tt, all_files (number + 1) more)

pub unit_has_tree : (n : ℕ) (file : File) → HasUnit n file → HasTree n file
unit_has_tree n file u = (u.1.items, u.1.tree)

pub tree_has_tokens : (n : ℕ) (file : File) → HasTree n file → HasTokens n file
tree_has_tokens n file t = (t.1.0, t.1.1)

-- ---- one file more, after files from the first on

each_next : (Is : Stage) (before : List File) (file : File) → Each Is 0 before → Is (length before) file → Each Is 0 (before ++ file ∷ [])
each_next Is before file h x =
    each_after Is 0 before file h (subst (λ n. Is n file) (let e : length before ≡ 0 + length before = omega arith in e) x)

pub units_next : (before : List File) (units : List UnitData) (file : File) (u : UnitData) → AreUnitsOf 0 before units → IsUnitOfFile (length before) file u
    → AreUnitsOf 0 (before ++ file ∷ []) (units ++ u ∷ [])
units_next before units file u h x =
    units_after 0 before units file u h (subst (λ n. IsUnitOfFile n file u) (let e : length before ≡ 0 + length before = omega arith in e) x)

-- ---- the first file that fails a stage

pub fails_now : (Before Passes Fails : Stage) (before : List File) (file : File) → Each Before 0 before → Each Passes 0 before
    → Before (length before) file → Fails (length before) file → FirstFails Before Passes Fails (before ++ file ∷ [])
fails_now Before Passes Fails before file b p x f = record {
  before = each_next Before before file b x;
  passed = before;
  file = file;
  later = [];
  files_are = refl;
  passes = p;
  fails = f;
}

pub fails_still : (Before Passes Fails : Stage) (before : List File) (file : File) → FirstFails Before Passes Fails before → Before (length before) file
    → FirstFails Before Passes Fails (before ++ file ∷ [])
fails_still Before Passes Fails before file f x = record {
  before = each_next Before before file f.before x;
  passed = f.passed;
  file = f.file;
  later = f.later ++ file ∷ [];
  files_are = ap (λ all. all ++ file ∷ []) f.files_are ∙ append_assoc f.passed (f.file ∷ f.later) (file ∷ []);
  passes = f.passes;
  fails = f.fails;
}

pub fails_at_once : (fault : LexFault) (before : List File) (file : File) → Each HasTokens 0 before
    → (n : ℕ) → HasLexicalFault n fault (length before) file → (later : List File)
    → FirstFails IsFile HasTokens (HasLexicalFault n fault) (before ++ file ∷ later)
fails_at_once fault before file p n f later = record {
  before = all_files 0 (before ++ file ∷ later);
  passed = before;
  file = file;
  later = later;
  files_are = refl;
  passes = p;
  fails = f;
}

-- ---- files that have come so far have tokens

pub units_have_trees : (before : List File) (units : List UnitData) → AreUnitsOf 0 before units → Each HasTree 0 before
units_have_trees before units h = each_also HasUnit HasTree unit_has_tree 0 before (have_units 0 before units h)

pub trees_have_tokens : (before : List File) → Each HasTree 0 before → Each HasTokens 0 before
trees_have_tokens before h = each_also HasTree HasTokens tree_has_tokens 0 before h

pub reached_tokens : (before : List File) (reached : Reached) → HaveReached before reached → Each HasTokens 0 before
reached_tokens before (R.Units units) h = trees_have_tokens before (units_have_trees before (map unit_data units) h.0)
reached_tokens before (R.Trees fault) h = trees_have_tokens before h.before
reached_tokens before (R.Tokens fault) h = h.before
