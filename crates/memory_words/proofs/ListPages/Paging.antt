-- What calls read and change in the pages is what they read and change in the items.
use Rattle.std.proofs.Common.{◌≡◌, ◌∙◌, sym, ap, subst, refl, ℕ, zero, suc, ◌+◌, ◌-◌, ◌*◌, ◌<◌, ◌≤◌, min, List, [], ◌∷◌, ◌++◌, length, get_or, set, take}
use Rattle.std.proofs.Common.{append_assoc, arith, length-append, length-set, vec_capacity, vec_len, Option, Some, None, MatchOption, ◌≢◌, ◌/◌, ◌%◌}
use Rattle.std.proofs.lemmas.List.{append-nil, get_or-append_right, get_or_append_left, set-append_left, set-append_right, get_or_read, set-get_or}
use Rattle.std.proofs.lemmas.List.{nil_from_length}
use Rattle.std.specs.Global.{Vec}
use Rattle.std.specs.Option.{option_to_list}
use Rattle.memory_words.specs.ListPages.Pages.{Paged, IsPaged, items_in, page_size}

module _ {T : Type 0} where
  -- the pages have as many items as the list
  pub count_in : (n : ℕ) (pages : List (Vec T)) → IsPaged n pages → length (items_in pages) ≡ n
  count_in n [] h = sym h
  count_in n (page ∷ pages) h =
      omega (arith, length-append page.items (items_in pages), h.0, count_in (n - page_size) pages h.2)

  -- and no more than they have room for
  pub within : (n : ℕ) (pages : List (Vec T)) → IsPaged n pages → n ≤ 32768 * length pages
  within n [] h = omega (arith, h)
  within n (page ∷ pages) h = omega (arith, within (n - page_size) pages h.2)

  -- a page has room, and the part of the items that its place says
  pub page_at : (n k : ℕ) (pages : List (Vec T)) (page : Vec T) → IsPaged n pages → k < length pages → page ≡ get_or pages k page → (length page.items ≡ min 32768 (n - 32768 * k)) × (32768 ≤ vec_capacity page)
  page_at n k [] page h l e = absurd (omega arith)
  page_at n zero (first ∷ pages) page h l e =
      let is : page ≡ first = e in
      (rw is (omega (arith, h.0)), rw is h.1)
  page_at n (suc k) (first ∷ pages) page h l e =
      let below = page_at (n - 32768) k pages page h.2 (omega arith) e in
      (omega (arith, below.0), below.1)

  -- where there are no more items, the pages are empty
  pub none_in : (n : ℕ) (pages : List (Vec T)) → IsPaged n pages → n ≡ 0 → items_in pages ≡ []
  none_in n pages h e = nil_from_length (items_in pages) (count_in n pages h ∙ e)

  -- an item of the list is one of the page that its place says
  pub item_at : (n i k j : ℕ) (pages : List (Vec T)) (page : Vec T) → IsPaged n pages → i < n → i ≡ 32768 * k + j → j < 32768 → page ≡ get_or pages k page → (d : T) → get_or (items_in pages) i d ≡ get_or page.items j d
  item_at n i k j [] page h i_in is small e d = absurd (omega (arith, h))
  item_at n i zero j (first ∷ pages) page h i_in is small e d =
      let same : i ≡ j = omega arith in
      let j_in : j < length first.items = omega (arith, h.0) in
      let is : page ≡ first = e in
      rw (is, same) (get_or_append_left first.items (items_in pages) d j j_in)
  item_at n i (suc k) j (first ∷ pages) page h i_in is small e d =
      get_or-append_right first.items (items_in pages) 32768 i d (omega (arith, h.0)) (omega arith)
      ∙ item_at (n - 32768) (i - 32768) k j pages page h.2 (omega arith) (omega arith) small e d

  -- and likewise where it is changed
  pub set_in : (n i k j : ℕ) (pages : List (Vec T)) (page new : Vec T) (x : T) → IsPaged n pages → i < n → i ≡ 32768 * k + j → j < 32768 → page ≡ get_or pages k page → new.items ≡ set page.items j x → items_in (set pages k new) ≡ set (items_in pages) i x
  set_in n i k j [] page new x h i_in is small e changed = absurd (omega (arith, h))
  set_in n i zero j (first ∷ pages) page new x h i_in is small e changed =
      let same : i ≡ j = omega arith in
      let j_in : j < length first.items = omega (arith, h.0) in
      let is : page ≡ first = e in
      rw (changed, is, same) (sym (set-append_left first.items (items_in pages) j x j_in))
  set_in n i (suc k) j (first ∷ pages) page new x h i_in is small e changed =
      ap (λ rest. first.items ++ rest) (set_in (n - 32768) (i - 32768) k j pages page new x h.2 (omega arith) (omega arith) small e changed)
      ∙ sym (set-append_right first.items (items_in pages) 32768 i x (omega (arith, h.0)) (omega arith))

  -- pages stay so where one of them gets another number of items
  pub paged_with : (n m k : ℕ) (pages : List (Vec T)) (new : Vec T) → IsPaged n pages → k < length pages → 32768 ≤ vec_capacity new → length new.items ≡ min 32768 (m - 32768 * k) → min (32768 * k) m ≡ min (32768 * k) n → m - 32768 * (k + 1) ≡ n - 32768 * (k + 1) → IsPaged m (set pages k new)
  paged_with n m k [] new h k_in room is before behind = absurd (omega arith)
  paged_with n m zero (first ∷ pages) new h k_in room is before behind =
      let same : m - 32768 ≡ n - 32768 = omega arith in
      (omega arith, room, subst (λ (q : ℕ). IsPaged q pages) (sym same) h.2)
  paged_with n m (suc k) (first ∷ pages) new h k_in room is before behind =
      (omega (arith, h.0), h.1, paged_with (n - 32768) (m - 32768) k pages new h.2 (omega arith) room (omega arith) (omega arith) (omega arith))

  -- the items where the last ones lie in a page
  pub last_in : (n k : ℕ) (pages : List (Vec T)) (new : Vec T) → IsPaged n pages → k < length pages → n ≤ 32768 * (k + 1) → items_in (set pages k new) ≡ items_in (take k pages) ++ new.items
  last_in n k [] new h k_in last = absurd (omega arith)
  last_in n zero (first ∷ pages) new h k_in last =
      rw (none_in (n - 32768) pages h.2 (omega arith)) (append-nil new.items)
  last_in n (suc k) (first ∷ pages) new h k_in last =
      ap (λ rest. first.items ++ rest) (last_in (n - 32768) k pages new h.2 (omega arith) (omega arith))
      ∙ sym (append_assoc first.items (items_in (take k pages)) new.items)

  pub last_at : (n k : ℕ) (pages : List (Vec T)) (page : Vec T) → IsPaged n pages → k < length pages → n ≤ 32768 * (k + 1) → page ≡ get_or pages k page → items_in pages ≡ items_in (take k pages) ++ page.items
  last_at n k pages page h k_in last e =
      ap items_in (sym (set-get_or pages k page) ∙ ap (set pages k) (sym e)) ∙ last_in n k pages page h k_in last

  -- an item is added behind the last one, in its page
  pub pushed_in : (n k : ℕ) (pages : List (Vec T)) (page new : Vec T) (x : T) → IsPaged n pages → k < length pages → n ≤ 32768 * (k + 1) → page ≡ get_or pages k page → new.items ≡ page.items ++ x ∷ [] → items_in (set pages k new) ≡ items_in pages ++ x ∷ []
  pushed_in n k pages page new x h k_in last e pushed =
      last_in n k pages new h k_in last
      ∙ (ap (λ more. items_in (take k pages) ++ more) pushed
      ∙ (sym (append_assoc (items_in (take k pages)) page.items (x ∷ []))
      ∙ ap (λ all. all ++ x ∷ []) (sym (last_at n k pages page h k_in last e))))

  -- the last item is taken off, in its page
  pub popped_in : (n k : ℕ) (pages : List (Vec T)) (page new : Vec T) (x : T) → IsPaged n pages → k < length pages → n ≤ 32768 * (k + 1) → page ≡ get_or pages k page → page.items ≡ new.items ++ x ∷ [] → items_in pages ≡ items_in (set pages k new) ++ x ∷ []
  popped_in n k pages page new x h k_in last e popped =
      last_at n k pages page h k_in last e
      ∙ (ap (λ more. items_in (take k pages) ++ more) popped
      ∙ (sym (append_assoc (items_in (take k pages)) new.items (x ∷ []))
      ∙ ap (λ all. all ++ x ∷ []) (sym (last_in n k pages new h k_in last))))

  -- a page more, behind the others
  pub paged_more : (n : ℕ) (pages : List (Vec T)) (new : Vec T) → IsPaged n pages → 32768 ≤ vec_capacity new → new.items ≡ [] → IsPaged n (pages ++ new ∷ [])
  paged_more n [] new h room empty = (ap length empty ∙ omega (arith, h), room, omega (arith, h))
  paged_more n (page ∷ pages) new h room empty = (h.0, h.1, paged_more (n - 32768) pages new h.2 room empty)

  pub items_more : (pages : List (Vec T)) (new : Vec T) → new.items ≡ [] → items_in (pages ++ new ∷ []) ≡ items_in pages
  items_more [] new empty = ap (λ more. more ++ []) empty
  items_more (page ∷ pages) new empty = ap (λ rest. page.items ++ rest) (items_more pages new empty)

  -- the last item is taken off, in its page, where a vector tells what it took
  pub one_less : (a b : ℕ) (taken : Option T) → MatchOption taken ((a ≡ 0) × (b ≡ 0)) (λ _. b + 1 ≡ a) → b ≡ a - 1
  one_less a b None h = omega (arith, h.0, h.1)
  one_less a b (Some x) h = omega (arith, h)

  pub paged_popped : (n : ℕ) (pages : List (Vec T)) (page new : Vec T) → IsPaged n pages → n ≢ 0 → page ≡ get_or pages ((n - 1) / 32768) page → vec_capacity new ≡ vec_capacity page → vec_len new ≡ vec_len page - 1 → IsPaged (n - 1) (set pages ((n - 1) / 32768) new)
  paged_popped n pages page new h some e room less =
      let k_in : (n - 1) / 32768 < length pages = omega (arith, within n pages h, some) in
      let at = page_at n ((n - 1) / 32768) pages page h k_in e in
      let long : length new.items ≡ min 32768 (n - 1 - 32768 * ((n - 1) / 32768)) = omega (arith, at.0, less, new.ok.0, page.ok.0, some) in
      paged_with n (n - 1) ((n - 1) / 32768) pages new h k_in (omega (arith, at.1, room)) long (omega (arith, some)) (omega (arith, some))

  pub popped_of : (n : ℕ) (pages : List (Vec T)) (page new : Vec T) (taken : Option T) (old : Paged T) (A : Type 0) → IsPaged n pages → n ≢ 0 → page ≡ get_or pages ((n - 1) / 32768) page → MatchOption taken ((vec_len page ≡ 0) × (vec_len new ≡ 0)) (λ _. vec_len new + 1 ≡ vec_len page) → page.items ≡ new.items ++ option_to_list taken → record { items = items_in pages; room = page_size * length pages } ≡ old → MatchOption taken A (λ last. (old.items ≡ items_in (set pages ((n - 1) / 32768) new) ++ last ∷ []) × (page_size * length (set pages ((n - 1) / 32768) new) ≡ old.room))
  popped_of n pages page new None old A h some e cases items is =
      let k_in : (n - 1) / 32768 < length pages = omega (arith, within n pages h, some) in
      let at = page_at n ((n - 1) / 32768) pages page h k_in e in
      absurd (omega (arith, at.0, cases.0, page.ok.0, some))
  popped_of n pages page new (Some x) old A h some e cases items is =
      let k_in : (n - 1) / 32768 < length pages = omega (arith, within n pages h, some) in
      let popped = popped_in n ((n - 1) / 32768) pages page new x h k_in (omega (arith, some)) e items in
      (rw (← is) popped, rw (← is, length-set) refl)

  -- where an item lies
  pub page_in : (n i : ℕ) (pages : Vec (Vec T)) → IsPaged n pages.items → i < n → i / 32768 < vec_len pages
  page_in n i pages h i_in = omega (arith, within n pages.items h, pages.ok.0)

  pub spot_in : (n i : ℕ) (pages : Vec (Vec T)) (page : Vec T) → IsPaged n pages.items → i < n → page ≡ get_or pages.items (i / 32768) page → i % 32768 < vec_len page
  spot_in n i pages page h i_in e =
      let k_in : i / 32768 < length pages.items = omega (arith, within n pages.items h) in
      let at = page_at n (i / 32768) pages.items page h k_in e in
      omega (arith, at.0, page.ok.0)

  pub item_of : (n i : ℕ) (pages : Vec (Vec T)) (page : Vec T) (x : T) → IsPaged n pages.items → i < n → page ≡ get_or pages.items (i / 32768) page → x ≡ get_or page.items (i % 32768) x → (d : T) → x ≡ get_or (items_in pages.items) i d
  item_of n i pages page x h i_in e is d =
      let j_in : i % 32768 < length page.items = omega (arith, spot_in n i pages page h i_in e, page.ok.0) in
      get_or_read page.items (i % 32768) x j_in is d
      ∙ sym (item_at n i (i / 32768) (i % 32768) pages.items page h i_in (omega arith) (omega arith) e d)

  -- pages stay so where an item is changed
  pub paged_set : (n i : ℕ) (pages : Vec (Vec T)) (page new : Vec T) → IsPaged n pages.items → i < n → page ≡ get_or pages.items (i / 32768) page → vec_capacity new ≡ vec_capacity page → length new.items ≡ length page.items → IsPaged n (set pages.items (i / 32768) new)
  paged_set n i pages page new h i_in e room long =
      let k_in : i / 32768 < length pages.items = omega (arith, within n pages.items h) in
      let at = page_at n (i / 32768) pages.items page h k_in e in
      paged_with n n (i / 32768) pages.items new h k_in (omega (arith, at.1, room)) (long ∙ at.0) refl refl
