-- How redirects are gathered.
use Rattle.std.proofs.Common.{◌≡◌, ℕ, ◌+◌, ◌<◌, ◌≤◌, List, [], ◌∷◌, ◌++◌, ◌⊎◌, inl, inr, sym, subst, arith, length, length-append}
use Rattle.std.proofs.lemmas.Bool.{cases_lt, both_ways}
use Rattle.std.proofs.lemmas.List.Elements.{Contains-append_left, Contains-push, Contains-push_cases}
use Rattle.std.specs.Prelude.{Contains}
use Rattle.fws_iv.specs.declared.iv.Iv.{Iv}
use Rattle.fws_iv.specs.Ivs.{has}
use Rattle.fws_place.specs.declared.redirect.Redirect.{Redirect}
use Rattle.fws_place.specs.Counts.{AreDifferent}
use Rattle.fws_place.specs.Exactly.{IsPut}
use Rattle.fws_place.specs.Gathered.{HasNone, IsGathered, IsNext, IsOfSide, IsOfSideBelow}

-- of the same redirects, said otherwise
pub gathered_as : (A B : Redirect → Type 0) (old new : List Redirect) → ((r : Redirect) → A r → B r) → (length new ≤ 4096 → (r : Redirect) → B r → A r)
    → IsGathered A old new → IsGathered B old new
gathered_as A B old new to from g = record {
  different = g.different;
  longer = g.longer;
  kept = g.kept;
  within = λ r h. elim (g.within r h) [ inl there ↦ inl there | inr here ↦ inr (to r here) ];
  covered = λ few r h. g.covered few r (from few r h);
}

-- first the ones, then the others
pub gathered_then : (A B : Redirect → Type 0) (old mid new : List Redirect) → IsGathered A old mid → IsGathered B mid new → IsGathered (λ r. A r ⊎ B r) old new
gathered_then A B old mid new g h =
    let first : length old ≤ length mid = g.longer in
    let more : length mid ≤ length new = h.longer in
    record {
      different = λ d. h.different (g.different d);
      longer = omega arith;
      kept = λ r there. h.kept r (g.kept r there);
      within = λ r there. elim (h.within r there) [
        | inl mid_there ↦ elim (g.within r mid_there) [ inl old_there ↦ inl old_there | inr a ↦ inr (inl a) ]
        | inr b ↦ inr (inr b)
      ];
      covered = λ few r either. elim either [ inl a ↦ h.kept r (g.covered (omega arith) r a) | inr b ↦ h.covered few r b ];
    }

-- one redirect
pub put_gathered : (old new : List Redirect) (x : Redirect) → IsPut old new x → IsGathered (λ r. r ≡ x) old new
put_gathered old new x is = elim is.put [
  | inl there ↦ subst (λ ks. IsGathered (λ r. r ≡ x) old ks) (sym there.0) (record {
    different = λ d. d;
    longer = omega arith;
    kept = λ r h. h;
    within = λ r h. inl h;
    covered = λ few r same. subst (λ y. Contains old y) (sym same) there.1;
  })
  | inr grown ↦ subst (λ ks. IsGathered (λ r. r ≡ x) old ks) (sym grown) (record {
    different = λ d. subst AreDifferent grown is.different;
    longer = omega (arith, length-append old (x ∷ []));
    kept = λ r h. Contains-append_left old (x ∷ []) r h;
    within = λ r h. elim (Contains-push_cases old x r h) [ inl there ↦ inl there | inr same ↦ inr (sym same) ];
    covered = λ few r same. subst (λ y. Contains (old ++ x ∷ []) y) (sym same) (Contains-push old x);
  })
]

-- Values of a side, one after another

pub gathered_none : (side : List Iv) (top : ℕ) (Of : ℕ → Redirect → Type 0) (old : List Redirect) → IsGathered (IsOfSideBelow 0 side top Of) old old
gathered_none side top Of old = record {
  different = λ d. d;
  longer = omega arith;
  kept = λ r h. h;
  within = λ r h. inl h;
  covered = λ few r h. absurd (let lt : h.0 < 0 = h.1 in omega arith);
}

-- those of one more value
pub gathered_more : (side : List Iv) (from top x : ℕ) (Of : ℕ → Redirect → Type 0) (old mid new : List Redirect) → IsNext side from top x
    → IsGathered (IsOfSideBelow from side top Of) old mid → IsGathered (Of x) mid new → IsGathered (IsOfSideBelow (x + 1) side top Of) old new
gathered_more side from top x Of old mid new next g h =
    gathered_as (λ r. IsOfSideBelow from side top Of r ⊎ Of x r) (IsOfSideBelow (x + 1) side top Of) old new to (λ few. back)
    (gathered_then (IsOfSideBelow from side top Of) (Of x) old mid new g h)
  where
    to : (r : Redirect) → IsOfSideBelow from side top Of r ⊎ Of x r → IsOfSideBelow (x + 1) side top Of r
    to r either = elim either [
      | inl old_one ↦ (old_one.0, (let lt : old_one.0 < from = old_one.1 in let le : from ≤ x = next.begun in omega arith), old_one.2, old_one.3, old_one.4)
      | inr new_one ↦ (x, omega arith, next.there, next.within, new_one)
    ]

    at : (r : Redirect) (y : ℕ) → Of y r → y ≡ x → Of x r
    at r y h e = subst (λ z. Of z r) e h

    back : (r : Redirect) → IsOfSideBelow (x + 1) side top Of r → IsOfSideBelow from side top Of r ⊎ Of x r
    back r h = by (cases_lt h.0 from) (cases_lt h.0 x)
      where
        by : (h.0 < from) ⊎ (from ≤ h.0) → (h.0 < x) ⊎ (x ≤ h.0) → IsOfSideBelow from side top Of r ⊎ Of x r
        by (inl low) other = inl (h.0, low, h.2, h.3, h.4)
        by (inr high) (inl below) = absurd (both_ways (has side h.0) (next.first h.0 high below) h.2)
        by (inr high) (inr above) = inr (at r h.0 h.4 (let lt : h.0 < x + 1 = h.1 in omega arith))

-- there is no further value
pub gathered_all : (side : List Iv) (from top : ℕ) (Of : ℕ → Redirect → Type 0) (old new : List Redirect) → HasNone side from top
    → IsGathered (IsOfSideBelow from side top Of) old new → IsGathered (IsOfSide side top Of) old new
gathered_all side from top Of old new none g =
    gathered_as (IsOfSideBelow from side top Of) (IsOfSide side top Of) old new (λ r h. (h.0, h.2, h.3, h.4)) (λ few. back) g
  where
    back : (r : Redirect) → IsOfSide side top Of r → IsOfSideBelow from side top Of r
    back r h = elim (cases_lt h.0 from) [
      | inl low ↦ (h.0, low, h.1, h.2, h.3)
      | inr high ↦ absurd (both_ways (has side h.0) (none h.0 high h.2) h.1)
    ]

-- there are too many
pub gathered_full : (side : List Iv) (from top : ℕ) (Of : ℕ → Redirect → Type 0) (old new : List Redirect) → 4096 < length new
    → IsGathered (IsOfSideBelow from side top Of) old new → IsGathered (IsOfSide side top Of) old new
gathered_full side from top Of old new many g =
    gathered_as (IsOfSideBelow from side top Of) (IsOfSide side top Of) old new (λ r h. (h.0, h.2, h.3, h.4)) (λ few. absurd (omega arith)) g
