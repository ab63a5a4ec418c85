-- What becomes of points whose classes become equal ones.
use Rattle.std.proofs.Common.{◌≡◌, ◌≢◌, ℕ, Bool, true, false, nat_eq, Option, List, slice_get, slice_index_or, bit_and, MatchBool, inl, inr, ◌⊎◌, refl, sym, ◌∙◌, ap, subst}
use Rattle.std.specs.Option.{option_map_or}
use Rattle.std.proofs.lemmas.Bool.{cases_Bool, and_parts, eqb-true, eqb-false, false≢true}
use Rattle.fws_box.specs.Sides.{IsWithin}
use Rattle.fws_net.specs.declared.outcome.Outcome.TheVariants as outcomes
use Rattle.fws_tree.specs.declared.canvas.Canvas.{Canvas}
use Rattle.fws_tree.specs.declared.mark.Mark.{Mark}
use Rattle.fws_tree.specs.Bits.{bits_in}
use Rattle.fws_tree.specs.Marks.{mark_at}
use Rattle.fws_tree.specs.Painted as painted
use Rattle.fws_tree.specs.Recoloured.{IsRecoloured}
use Rattle.fws_exec.specs.declared.hull.Hull.{Hull}
use Rattle.fws_exec.specs.declared.roll.Roll.{Roll}
use Rattle.fws_exec.specs.declared.sheet.Sheet.{Sheet}
use Rattle.fws_exec.specs.declared.spot.Class.{Class}
use Rattle.fws_exec.specs.declared.spot.Spot.{Spot}
use Rattle.fws_exec.specs.declared.spot.Spot.TheVariants.{Unused}
use Rattle.fws_exec.specs.Classes.{future, meant, transit_of}
use Rattle.fws_exec.specs.Hulls.{HasAt}
use Rattle.fws_exec.specs.Joined.{has_twin, is_joined, IsJoined, AreReleased}
use Rattle.fws_exec.specs.Sheets.{among, tops_in, class_at, IsFree, IsSheet, IsUsed, KeepsFutures, NoneComes}
use Rattle.fws_exec.proofs.Putting.{stands_of}

-- a sheet some of whose free classes are released is one
pub released_sheet : (test : ℕ → Bool) (mid new : Sheet) → new.canvas ≡ mid.canvas → ((n : ℕ) → test n ≡ true → IsFree mid n) → ((n : ℕ) → test n ≡ false → slice_get new.hulls.items n ≡ slice_get mid.hulls.items n) → AreReleased test mid.roll.classes.items new.roll.classes.items → IsSheet mid → IsSheet new
released_sheet test mid new canvas free hulls released sheet = record { used = released_used; hulled = released_hulled }
  where
    released_hulled : (p : List ℕ) → IsWithin (tops_in new) p → HasAt new.hulls.items (class_at new p) p
    released_hulled p w =
        let inside : IsWithin (tops_in mid) p = subst (λ (k : Canvas). IsWithin (painted.tops_of k) p) canvas w in
        let had = sheet.hulled p inside in
        subst (λ n. HasAt new.hulls.items n p) (sym (ap (λ k. painted.value_at k p) canvas)) (elim (cases_Bool (test (class_at mid p))) [
          | inl t ↦ absurd (free (class_at mid p) t p inside refl)
          | inr f ↦ (had.0, hulls (class_at mid p) f ∙ had.1, had.2)
        ])

    released_used : (p : List ℕ) → IsWithin (tops_in new) p → (c : Class) × IsUsed new.roll.classes.items (class_at new p) c
    released_used p w =
        let same : class_at new p ≡ class_at mid p = ap (λ k. painted.value_at k p) canvas in
        let inside : IsWithin (tops_in mid) p = subst (λ (k : Canvas). IsWithin (painted.tops_of k) p) canvas w in
        let before = sheet.used p inside in (
          before.0,
          subst (λ n. IsUsed new.roll.classes.items n before.0) (sym same) (
            elim (released (class_at mid p)) [
              | inl e ↦ e
              | inr h ↦ absurd (free (class_at mid p) h.0 p inside refl)
            ] ∙ before.1.0,
            before.1.1,
          ),
        )

pub released_kept : (test : ℕ → Bool) (old mid new : Sheet) → new.canvas ≡ mid.canvas → tops_in mid ≡ tops_in old → ((n : ℕ) → test n ≡ true → IsFree mid n) → AreReleased test mid.roll.classes.items new.roll.classes.items → KeepsFutures old mid → KeepsFutures old new
released_kept test old mid new canvas tops free released kept at next p w =
    ap (λ (o : Option Class). option_map_or (λ c. meant at next c.spot (transit_of c.progress p)) o outcomes.Drop)
    (ap (λ k. slice_get new.roll.classes.items (painted.value_at k p)) canvas ∙ elim (released (class_at mid p)) [
      | inl e ↦ e
      | inr h ↦ absurd (free (class_at mid p) h.0 p (subst (λ ts. IsWithin ts p) (sym tops) w) refl)
    ])
    ∙ kept at next p w

pub released_spots : (test : ℕ → Bool) (spot : Spot → Bool) (old new : List Class) → spot Unused ≡ false → AreReleased test old new → NoneComes spot old new
released_spots test spot old new out released n h = elim (released n) [
  | inl e ↦ ap (λ (o : Option Class). option_map_or (λ c. spot c.spot) o false) e ∙ h
  | inr k ↦ stands_of spot new n (record { spot = Unused; progress = k.1.0 }) k.1.1 ∙ out
]

-- what a recolouring does: a value stays where there is no label or no wanted bit, or is moved elsewhere
recoloured_cases : (moves : ℕ → ℕ → ℕ → Type 0) (values : List ℕ) (wanted x l z : ℕ) → IsRecoloured moves values wanted x l z
    → (((l ≡ 0) ⊎ (bit_and (bits_in values x) wanted ≡ 0)) × (z ≡ x)) ⊎ moves x l z
recoloured_cases moves values wanted x l z r = elim (cases_Bool (nat_eq l 0)) [
  | inl none ↦ inl (inl (eqb-true l 0 none), r.0 (eqb-true l 0 none))
  | inr some ↦ elim (cases_Bool (nat_eq (bit_and (bits_in values x) wanted) 0)) [
    | inl out ↦ inl (inr (eqb-true (bit_and (bits_in values x) wanted) 0 out), r.1 (eqb-true (bit_and (bits_in values x) wanted) 0 out))
    | inr met ↦ inr (r.2 (eqb-false l 0 some) (eqb-false (bit_and (bits_in values x) wanted) 0 met))
  ]
]

-- a class that became its twin, or stayed, is equal to the one before
joined_same : (twins : List ℕ) (classes : List Class) (x z : ℕ) → IsJoined twins classes x z → slice_get classes z ≡ slice_get classes x
joined_same twins classes x z joined = by (has_twin twins x) joined
  where
    by : (b : Bool) → MatchBool b ((has_twin twins z ≡ false) × (slice_get classes z ≡ slice_get classes x) × (slice_index_or twins x x ≡ z)) (z ≡ x) → slice_get classes z ≡ slice_get classes x
    by true g = g.1
    by false e = ap (λ n. slice_get classes n) e

joined_hull : (twins : List ℕ) (classes : List Class) (hulls : List Hull) (x z : ℕ) (p : List ℕ) → HasAt hulls x p → HasAt hulls (slice_index_or twins x x) p → IsJoined twins classes x z → HasAt hulls z p
joined_hull twins classes hulls x z p had taken joined = by (has_twin twins x) joined
  where
    by : (b : Bool) → MatchBool b ((has_twin twins z ≡ false) × (slice_get classes z ≡ slice_get classes x) × (slice_index_or twins x x ≡ z)) (z ≡ x) → HasAt hulls z p
    by true g = subst (λ n. HasAt hulls n p) g.2 taken
    by false e = subst (λ n. HasAt hulls n p) (sym e) had

joined_out : (twins : List ℕ) (classes : List Class) (x z : ℕ) → IsJoined twins classes x z → has_twin twins z ≡ false
joined_out twins classes x z joined = by (has_twin twins x) refl joined
  where
    by : (b : Bool) → has_twin twins x ≡ b → MatchBool b ((has_twin twins z ≡ false) × (slice_get classes z ≡ slice_get classes x) × (slice_index_or twins x x ≡ z)) (z ≡ x) → has_twin twins z ≡ false
    by true e g = g.0
    by false e f = ap (λ n. has_twin twins n) f ∙ e

-- a sheet whose classes became their twins is one
pub joined_sheet : (twins : List ℕ) (marks : List Mark) (values : List ℕ) (wanted : ℕ) (old new : Sheet) → new.roll ≡ old.roll → new.hulls ≡ old.hulls → tops_in new ≡ tops_in old
    → ((p : List ℕ) → IsWithin (tops_in old) p → IsRecoloured (λ x l z. IsJoined twins old.roll.classes.items x z) values wanted (class_at old p) (mark_at marks 0 p) (class_at new p))
    → ((p : List ℕ) → IsWithin (tops_in old) p → HasAt old.hulls.items (slice_index_or twins (class_at old p) (class_at old p)) p)
    → IsSheet old → IsSheet new
joined_sheet twins marks values wanted old new roll hulls tops recoloured taken sheet = record { used = joined_used; hulled = joined_hulled }
  where
    joined_used : (p : List ℕ) → IsWithin (tops_in new) p → (c : Class) × IsUsed new.roll.classes.items (class_at new p) c
    joined_used p w =
        let inside : IsWithin (tops_in old) p = subst (λ ts. IsWithin ts p) tops w in
        let before = sheet.used p inside in
        let equal : slice_get old.roll.classes.items (class_at new p) ≡ slice_get old.roll.classes.items (class_at old p) =
        elim (recoloured_cases (λ x l z. IsJoined twins old.roll.classes.items x z) values wanted (class_at old p) (mark_at marks 0 p) (class_at new p) (recoloured p inside)) [
          | inl stays ↦ ap (λ n. slice_get old.roll.classes.items n) stays.1
          | inr moves ↦ joined_same twins old.roll.classes.items (class_at old p) (class_at new p) moves
        ] in
        subst (λ (r : Roll). (c : Class) × IsUsed r.classes.items (class_at new p) c) (sym roll) (before.0, (equal ∙ before.1.0, before.1.1))

    joined_hulled : (p : List ℕ) → IsWithin (tops_in new) p → HasAt new.hulls.items (class_at new p) p
    joined_hulled p w =
        let inside : IsWithin (tops_in old) p = subst (λ ts. IsWithin ts p) tops w in
        subst (λ hs. HasAt hs (class_at new p) p) (sym (ap (λ v. v.items) hulls))
        (elim (recoloured_cases (λ x l z. IsJoined twins old.roll.classes.items x z) values wanted (class_at old p) (mark_at marks 0 p) (class_at new p) (recoloured p inside)) [
          | inl stays ↦ subst (λ n. HasAt old.hulls.items n p) (sym stays.1) (sheet.hulled p inside)
          | inr moves ↦ joined_hull twins old.roll.classes.items old.hulls.items (class_at old p) (class_at new p) p (sheet.hulled p inside) (taken p inside) moves
        ])

-- what becomes of each packet stays then
pub joined_kept : (twins : List ℕ) (marks : List Mark) (values : List ℕ) (wanted : ℕ) (old new : Sheet) → new.roll ≡ old.roll
    → ((p : List ℕ) → IsWithin (tops_in old) p → IsRecoloured (λ x l z. IsJoined twins old.roll.classes.items x z) values wanted (class_at old p) (mark_at marks 0 p) (class_at new p))
    → KeepsFutures old new
joined_kept twins marks values wanted old new roll recoloured at next p w =
    ap (λ (r : Roll). future at next r.classes.items (class_at new p) p) roll
    ∙ ap (λ (o : Option Class). option_map_or (λ c. meant at next c.spot (transit_of c.progress p)) o outcomes.Drop)
    (elim (recoloured_cases (λ x l z. IsJoined twins old.roll.classes.items x z) values wanted (class_at old p) (mark_at marks 0 p) (class_at new p) (recoloured p w)) [
      | inl stays ↦ ap (λ n. slice_get old.roll.classes.items n) stays.1
      | inr moves ↦ joined_same twins old.roll.classes.items (class_at old p) (class_at new p) moves
    ])

-- no point has a class that became its twin
pub joined_free : (twins joined : List ℕ) (marks : List Mark) (values : List ℕ) (wanted : ℕ) (old new : Sheet) → tops_in new ≡ tops_in old
    → ((p : List ℕ) → IsWithin (tops_in old) p → IsRecoloured (λ x l z. IsJoined twins old.roll.classes.items x z) values wanted (class_at old p) (mark_at marks 0 p) (class_at new p))
    → ((n : ℕ) → among joined n ≡ true → bit_and (bits_in values n) wanted ≢ 0)
    → ((n : ℕ) (p : List ℕ) → among joined n ≡ true → HasAt old.hulls.items n p → mark_at marks 0 p ≢ 0)
    → IsSheet old → (n : ℕ) → is_joined twins joined n ≡ true → IsFree new n
joined_free twins joined marks values wanted old new tops recoloured bits labelled sheet n is p w e =
    let inside : IsWithin (tops_in old) p = subst (λ ts. IsWithin ts p) tops w in
    let parts = and_parts (among joined n) (has_twin twins n) is in
    elim (recoloured_cases (λ x l z. IsJoined twins old.roll.classes.items x z) values wanted (class_at old p) (mark_at marks 0 p) (class_at new p) (recoloured p inside)) [
      | inl stays ↦ elim stays.0 [
        | inl none ↦ labelled n p parts.0 (subst (λ k. HasAt old.hulls.items k p) (sym stays.1 ∙ e) (sheet.hulled p inside)) none
        | inr out ↦ bits n parts.0 (ap (λ k. bit_and (bits_in values k) wanted) (sym (sym stays.1 ∙ e)) ∙ out)
      ]
      | inr moves ↦ false≢true (sym (joined_out twins old.roll.classes.items (class_at old p) (class_at new p) moves) ∙ ap (λ k. has_twin twins k) e ∙ parts.1)
    ]
