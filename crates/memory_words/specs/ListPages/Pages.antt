-- A list in pages of equal size.
use Rattle.std.specs.Prelude.{◌≡◌, ℕ, ◌-◌, ◌≤◌, min, List, [], ◌∷◌, ◌++◌, length, refl, vec_capacity}
use Rattle.std.specs.Global.{Vec}
use Rattle.std.specs.Coded.{Coded, code_by, coded×, coded_ℕ, coded_list}

-- the items, and for how many there are pages
pub record Paged (T : Type 0) : Type 0 where
  pub items : List T
  pub room : ℕ

-- such a list is stored as the pair of its fields
abbrev pub paged_code : {T : Type 0} → Coded T → Coded (Paged T)
paged_code {T} code =
    code_by
    (List T × ℕ)
    (coded× (coded_list code) coded_ℕ)
    (λ list. (list.items, list.room))
    (λ pair. record { items = pair.0; room = pair.1 })
    (λ _. refl)

-- how many items a page has
abbrev pub page_size : ℕ
page_size = 32768

-- the items of the pages, one page after another
abbrev pub items_in : {T : Type 0} → List (Vec T) → List T
items_in [] = []
items_in (page ∷ pages) = page.items ++ items_in pages

-- so many items lie in pages with room for a page's items: the pages in front are full, those behind the last item are empty
abbrev pub IsPaged : {T : Type 0} → ℕ → List (Vec T) → Type 0
IsPaged count [] = count ≡ 0
IsPaged count (page ∷ pages) =
    (length page.items ≡ min page_size count) × (page_size ≤ vec_capacity page) × IsPaged (count - page_size) pages
