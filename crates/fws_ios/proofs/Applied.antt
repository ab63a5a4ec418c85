-- What is applied at interfaces: at those of the site, and one list at each in a direction.
use Rattle.std.proofs.Common.{◌≡◌, ℕ, suc, ◌+◌, ◌≤◌, ◌<◌, min, max, Bool, true, false, ◌&&◌, ◌||◌, not, cond, nat_eq, nat_lt, nat_le, Option, Some, None, List, [], ◌∷◌, ◌++◌, length, filter, bytes_eq, IfSome, arith, refl, ap, ◌∙◌}
use Rattle.std.specs.List.{list_all}
use Rattle.std.proofs.lemmas.Bool.{and_parts, and_from, cond_both, ltb-true, lt-ltb, leb-true, le-leb, eqb-true, eqb-false, eq-eqb, ne_eqb}
use Rattle.fws_iv.specs.declared.iv.Iv.{Iv}
use Rattle.fws_iv.specs.Ivs.{with_range}
use Rattle.fws_net.specs.declared.packet.Lang.TheVariants.{Ios}
use Rattle.fws_net.specs.declared.site.Iface.{Iface}
use Rattle.fws_net.specs.declared.site.Site.{Site}
use Rattle.fws_net.specs.Faces.{name_in, named_from, entry_named}
use Rattle.fws_ios.specs.declared.config.IosGroup.{IosGroup}
use Rattle.fws_ios.specs.declared.draft.Marked.{Marked}
use Rattle.fws_ios.specs.FileText.{is_elsewhere, with_marked}
use Rattle.fws_ios.specs.Soundness.{is_entry, are_entries, are_single}
use Rattle.fws_ios.proofs.Lists.{all_longer, all_filtered}

-- Entries of the site

abbrev pub IsEntry : ℕ → ℕ → Type 0
IsEntry most n = is_entry most n ≡ true

entry_from : (most n : ℕ) → 0 < n → n ≤ most → IsEntry most n
entry_from most n low high = and_from (nat_lt 0 n) (nat_le n most) (lt-ltb 0 n low) (le-leb n most high)

named_within : (n : ℕ) (faces : List Iface) (name : List ℕ) → IfSome (named_from n Ios faces name) (λ entry. (n ≤ entry) × (entry < n + length faces))
named_within n [] name = tt
named_within n (face ∷ faces) name =
    cond_both (bytes_eq (name_in Ios face.names) name) (Some n) (named_from (suc n) Ios faces name)
    (λ o. IfSome o (λ entry. (n ≤ entry) × (entry < n + length (face ∷ faces))))
    (λ e. (omega arith, omega arith)) (λ e. wider (named_from (suc n) Ios faces name) (named_within (suc n) faces name))
  where
    wider : (o : Option ℕ) → IfSome o (λ entry. (suc n ≤ entry) × (entry < suc n + length faces)) → IfSome o (λ entry. (n ≤ entry) × (entry < n + length (face ∷ faces)))
    wider None h = tt
    wider (Some entry) h = (omega arith, omega arith)

pub entry_within : (site : Site) (name : List ℕ) → IfSome (entry_named Ios site name) (IsEntry (suc (length site.faces)))
entry_within site name =
    cond_both (bytes_eq (name_in Ios site.lo) name) (Some 1) (named_from 2 Ios site.faces name) (λ o. IfSome o (IsEntry (suc (length site.faces))))
    (λ e. entry_from (suc (length site.faces)) 1 (omega arith) (omega arith)) (λ e. within (named_from 2 Ios site.faces name) (named_within 2 site.faces name))
  where
    within : (o : Option ℕ) → IfSome o (λ entry. (2 ≤ entry) × (entry < 2 + length site.faces)) → IfSome o (IsEntry (suc (length site.faces)))
    within None h = tt
    within (Some entry) h = entry_from (suc (length site.faces)) entry (omega arith) (omega arith)

-- Sets of entries

module _ (most : ℕ) where
  abbrev Entries : List Iv → Type 0
  Entries set = are_entries most set ≡ true

  abbrev is_within : Iv → Bool
  is_within x = nat_lt 0 x.lo && nat_le x.hi most

  entries_from : (x : Iv) (xs : List Iv) → 0 < x.lo → x.hi ≤ most → Entries xs → Entries (x ∷ xs)
  entries_from x xs low high h = and_from (is_within x) (list_all is_within xs) (and_from (nat_lt 0 x.lo) (nat_le x.hi most) (lt-ltb 0 x.lo low) (le-leb x.hi most high)) h

  range_kept : (lo hi : ℕ) (set : List Iv) → 0 < lo → hi ≤ most → Entries set → Entries (with_range lo hi set)
  range_kept lo hi [] low high h = entries_from (record { lo = lo; hi = hi }) [] low high refl
  range_kept lo hi (x ∷ xs) low high h =
      let both = and_parts (is_within x) (list_all is_within xs) h in
      let ends = and_parts (nat_lt 0 x.lo) (nat_le x.hi most) both.0 in
      let from : 0 < x.lo = ltb-true 0 x.lo ends.0 in
      let to : x.hi ≤ most = leb-true x.hi most ends.1 in
      cond_both (nat_lt (hi + 1) x.lo) (record { lo = lo; hi = hi } ∷ x ∷ xs) _ Entries
      (λ e. entries_from (record { lo = lo; hi = hi }) (x ∷ xs) low high h)
      (λ e. cond_both (nat_lt (x.hi + 1) lo) (x ∷ with_range lo hi xs) (with_range (min lo x.lo) (max hi x.hi) xs) Entries
      (λ k. entries_from x (with_range lo hi xs) from to (range_kept lo hi xs low high both.1))
      (λ k. range_kept (min lo x.lo) (max hi x.hi) xs (omega arith) (omega arith) both.1))

  pub marked_kept : (outside : Bool) (set : List Iv) (ms : List Marked) → are_entries most set ≡ true → list_all (λ m. is_entry most m.face) ms ≡ true
      → are_entries most (with_marked outside set ms) ≡ true
  marked_kept outside set [] h k = h
  marked_kept outside set (m ∷ ms) h k =
      let both = and_parts (is_entry most m.face) (list_all (λ each. is_entry most each.face) ms) k in
      let ends = and_parts (nat_lt 0 m.face) (nat_le m.face most) both.0 in
      let on = cond outside m.outside (not m.outside) in
      marked_kept outside (cond on (with_range m.face m.face set) set) ms
      (cond_both on (with_range m.face m.face set) set Entries (λ e. range_kept m.face m.face set (ltb-true 0 m.face ends.0) (leb-true m.face most ends.1) h) (λ e. h))
      both.1

-- One list at an interface in a direction

nat_eq-sym : (a b : ℕ) → nat_eq a b ≡ nat_eq b a
nat_eq-sym a b = grind (arith, eqb-true, eqb-false, eq-eqb, ne_eqb)

directions_differ : (a b : Bool) → cond a (not b) b ≡ cond b (not a) a
directions_differ true true = refl
directions_differ true false = refl
directions_differ false true = refl
directions_differ false false = refl

-- each is elsewhere than the other
is_elsewhere-sym : (a b : IosGroup) → is_elsewhere a.face a.outward b ≡ is_elsewhere b.face b.outward a
is_elsewhere-sym a b =
    ap (λ x. not x || cond a.outward (not b.outward) b.outward) (nat_eq-sym b.face a.face) ∙ ap (λ x. not (nat_eq a.face b.face) || x) (directions_differ a.outward b.outward)

pub single_longer : (gs : List IosGroup) (g : IosGroup) → are_single gs ≡ true → list_all (is_elsewhere g.face g.outward) gs ≡ true → are_single (gs ++ g ∷ []) ≡ true
single_longer [] g h k = refl
single_longer (x ∷ gs) g h k =
    let both = and_parts (list_all (is_elsewhere x.face x.outward) gs) (are_single gs) h in
    let apart = and_parts (is_elsewhere g.face g.outward x) (list_all (is_elsewhere g.face g.outward) gs) k in
    and_from (list_all (is_elsewhere x.face x.outward) (gs ++ g ∷ [])) (are_single (gs ++ g ∷ []))
    (all_longer (is_elsewhere x.face x.outward) gs g both.0 (is_elsewhere-sym x g ∙ apart.0)) (single_longer gs g both.1 apart.1)

pub single_filtered : (test : IosGroup → Bool) (gs : List IosGroup) → are_single gs ≡ true → are_single (filter test gs) ≡ true
single_filtered test [] h = refl
single_filtered test (g ∷ gs) h =
    let both = and_parts (list_all (is_elsewhere g.face g.outward) gs) (are_single gs) h in
    cond_both (test g) (g ∷ filter test gs) (filter test gs) (λ xs. are_single xs ≡ true)
    (λ e. and_from (list_all (is_elsewhere g.face g.outward) (filter test gs)) (are_single (filter test gs))
    (all_filtered (is_elsewhere g.face g.outward) test gs both.0) (single_filtered test gs both.1))
    (λ e. single_filtered test gs both.1)
