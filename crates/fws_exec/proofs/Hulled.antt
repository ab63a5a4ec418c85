-- Points that lie in the hulls of their classes.
use Rattle.std.proofs.Common.{◌≡◌, ◌≢◌, ℕ, Bool, true, false, nat_eq, MatchBool, bit_and, List, length, inl, inr, ◌⊎◌, refl, sym, ◌∙◌, ap, subst}
use Rattle.std.proofs.lemmas.Bool.{cases_Bool, eqb-true, eqb-false, false≢true}
use Rattle.fws_box.specs.Sides.{IsWithin}
use Rattle.fws_tree.specs.declared.canvas.Canvas.{Canvas}
use Rattle.fws_tree.specs.declared.mark.Mark.{Mark}
use Rattle.fws_tree.specs.Bits.{bits_in}
use Rattle.fws_tree.specs.Marks.{mark_at}
use Rattle.fws_tree.specs.Painted as painted
use Rattle.fws_tree.specs.Recoloured.{IsRecoloured}
use Rattle.fws_exec.specs.declared.going.Going.{Going}
use Rattle.fws_exec.specs.declared.hull.Hull.{Hull}
use Rattle.fws_exec.specs.declared.hulls.Change.{Change}
use Rattle.fws_exec.specs.declared.roll.Roll.{Roll}
use Rattle.fws_exec.specs.declared.sheet.Sheet.{Sheet}
use Rattle.fws_exec.specs.declared.spot.Class.{Class}
use Rattle.fws_exec.specs.Divided.{AreMoved}
use Rattle.fws_exec.specs.Goings.{IsGone}
use Rattle.fws_exec.specs.Hulls.{HasAt, HasPoint, HullsGrow, AreSettled, IsChange}
use Rattle.fws_exec.specs.Moving.{GoesTo, IsMoved}
use Rattle.fws_exec.specs.Sheets.{among, tops_in, class_at, Grows, IsSheet, IsUsed}
use Rattle.fws_exec.proofs.Moved.{same_used}

-- where canvas and hulls stay, points lie in the hulls of their classes as before
pub same_hulled : (old new : Sheet) → new.canvas ≡ old.canvas → new.hulls.items ≡ old.hulls.items → IsSheet old → (p : List ℕ) → IsWithin (tops_in new) p → HasAt new.hulls.items (class_at new p) p
same_hulled old new canvas hulls sheet p w =
    subst (λ hs. HasAt hs (class_at new p) p) (sym hulls)
    (subst (λ n. HasAt old.hulls.items n p) (sym (ap (λ k. painted.value_at k p) canvas)) (sheet.hulled p (subst (λ (k : Canvas). IsWithin (painted.tops_of k) p) canvas w)))

-- a class that went somewhere, or stayed, is used and has the point in its hull
moved_one : (going : Going) (called : ℕ → Bool) (changes : List Change) (area : Hull) (classes : List Class) (old new : List Hull) (x l z : ℕ) (p : List ℕ)
    → HullsGrow old new → AreSettled changes area old new → HasPoint area p → HasAt old x p → (c : Class) → IsUsed classes x c
    → IsMoved going called classes x l z → IsChange called changes x z → ((d : Class) × IsUsed classes z d) × HasAt new z p
moved_one going called changes area classes old new x l z p grow settled inside had c used moved change = by (called x) refl moved
  where
    by : (b : Bool) → called x ≡ b → MatchBool b (GoesTo going classes x l z) (z ≡ x) → ((d : Class) × IsUsed classes z d) × HasAt new z p
    by true e g = ((g.2.0, g.2.1), settled x z p (change e) had inside)
    by false e g = ((c, subst (λ n. IsUsed classes n c) (sym g) used), subst (λ n. HasAt new n p) (sym g) (grow x p had))

-- a sheet some of whose points moved is one, once the hulls are settled
pub moved_sheet : (going : Going) (called : ℕ → Bool) (changes : List Change) (area : Hull) (marks : List Mark) (values : List ℕ) (wanted : ℕ) (old new : Sheet)
    → Grows old.roll.classes.items new.roll.classes.items → tops_in new ≡ tops_in old
    → ((p : List ℕ) → IsWithin (tops_in old) p → IsRecoloured (λ x l z. IsMoved going called new.roll.classes.items x l z × IsChange called changes x z) values wanted (class_at old p) (mark_at marks 0 p) (class_at new p))
    → ((p : List ℕ) → length p ≡ 12 → mark_at marks 0 p ≢ 0 → HasPoint area p)
    → HullsGrow old.hulls.items new.hulls.items → AreSettled changes area old.hulls.items new.hulls.items → IsSheet old → IsSheet new
moved_sheet going called changes area marks values wanted old new grows tops recoloured covers grow settled sheet = record { used = λ p w. (both p w).0; hulled = λ p w. (both p w).1 }
  where
    both : (p : List ℕ) → IsWithin (tops_in new) p → ((d : Class) × IsUsed new.roll.classes.items (class_at new p) d) × HasAt new.hulls.items (class_at new p) p
    both p w =
        let inside : IsWithin (tops_in old) p = subst (λ ts. IsWithin ts p) tops w in
        let c = (sheet.used p inside).0 in
        let used = grows (class_at old p) c (sheet.used p inside).1 in
        let had = sheet.hulled p inside in
        let stays : class_at new p ≡ class_at old p → ((d : Class) × IsUsed new.roll.classes.items (class_at new p) d) × HasAt new.hulls.items (class_at new p) p =
        λ e. ((c, subst (λ n. IsUsed new.roll.classes.items n c) (sym e) used), subst (λ n. HasAt new.hulls.items n p) (sym e) (grow (class_at old p) p had)) in
        elim (cases_Bool (nat_eq (mark_at marks 0 p) 0)) [
          | inl none ↦ stays ((recoloured p inside).0 (eqb-true (mark_at marks 0 p) 0 none))
          | inr some ↦ elim (cases_Bool (nat_eq (bit_and (bits_in values (class_at old p)) wanted) 0)) [
            | inl out ↦ stays ((recoloured p inside).1 (eqb-true (bit_and (bits_in values (class_at old p)) wanted) 0 out))
            | inr met ↦ (
                let moves = (recoloured p inside).2 (eqb-false (mark_at marks 0 p) 0 some) (eqb-false (bit_and (bits_in values (class_at old p)) wanted) 0 met) in
                moved_one going called changes area new.roll.classes.items old.hulls.items new.hulls.items (class_at old p) (mark_at marks 0 p) (class_at new p) p grow settled (covers p had.2.twelve (eqb-false (mark_at marks 0 p) 0 some)) had c used moves.0 moves.1)
          ]
        ]

went : (going : Going) (called test : ℕ → Bool) (old new : List Class) (x l z : ℕ) (c : Class) → called x ≡ test x → Grows old new → IsUsed old x c → l ≢ 0 → IsMoved going called new x l z
    → ((test x ≡ true) × (l ≢ 0) × IsGone going l c.progress new z) ⊎ ((test x ≡ true → l ≡ 0) × (z ≡ x))
went going called test old new x l z c same grows used some moved = by (called x) refl moved
  where
    by : (b : Bool) → called x ≡ b → MatchBool b (GoesTo going new x l z) (z ≡ x) → ((test x ≡ true) × (l ≢ 0) × IsGone going l c.progress new z) ⊎ ((test x ≡ true → l ≡ 0) × (z ≡ x))
    by true e g = inl (sym same ∙ e, some, subst (λ (d : Class). IsGone going l d.progress new z) (same_used new x g.0 c g.1 (grows x c used)) g.2)
    by false e g = inr (λ t. absurd (false≢true (sym e ∙ same ∙ t)), g)

-- points of the called classes moved, and all others stayed
pub moved_all : (going : Going) (called : ℕ → Bool) (numbers : List ℕ) (changes : List Change) (marks : List Mark) (values : List ℕ) (wanted : ℕ) (old new : Sheet)
    → ((n : ℕ) → called n ≡ among numbers n) → ((n : ℕ) → among numbers n ≡ true → bit_and (bits_in values n) wanted ≢ 0) → Grows old.roll.classes.items new.roll.classes.items
    → ((p : List ℕ) → IsWithin (tops_in old) p → IsRecoloured (λ x l z. IsMoved going called new.roll.classes.items x l z × IsChange called changes x z) values wanted (class_at old p) (mark_at marks 0 p) (class_at new p))
    → AreMoved going (among numbers) (λ g p. mark_at marks 0 p) old new
moved_all going called numbers changes marks values wanted old new same bits grows recoloured p c w used =
    let r = recoloured p w in
    elim (cases_Bool (nat_eq (mark_at marks 0 p) 0)) [
      | inl none ↦ inr (λ a. eqb-true (mark_at marks 0 p) 0 none, r.0 (eqb-true (mark_at marks 0 p) 0 none))
      | inr some ↦ elim (cases_Bool (nat_eq (bit_and (bits_in values (class_at old p)) wanted) 0)) [
        | inl out ↦ inr (λ a. absurd (bits (class_at old p) a (eqb-true (bit_and (bits_in values (class_at old p)) wanted) 0 out)), r.1 (eqb-true (bit_and (bits_in values (class_at old p)) wanted) 0 out))
        | inr met ↦ went going called (among numbers) old.roll.classes.items new.roll.classes.items (class_at old p) (mark_at marks 0 p) (class_at new p) c (same (class_at old p)) grows used (eqb-false (mark_at marks 0 p) 0 some)
            (r.2 (eqb-false (mark_at marks 0 p) 0 some) (eqb-false (bit_and (bits_in values (class_at old p)) wanted) 0 met)).0
      ]
    ]

-- a sheet whose hulls grow stays one
pub grown_sheet : (old new : Sheet) → new.canvas ≡ old.canvas → new.roll ≡ old.roll → HullsGrow old.hulls.items new.hulls.items → IsSheet old → IsSheet new
grown_sheet old new canvas roll grow sheet = record { used = grown_used; hulled = grown_hulled }
  where
    grown_used : (p : List ℕ) → IsWithin (tops_in new) p → (c : Class) × IsUsed new.roll.classes.items (class_at new p) c
    grown_used p w =
        subst (λ (r : Roll). (c : Class) × IsUsed r.classes.items (class_at new p) c) (sym roll)
        (subst (λ n. (c : Class) × IsUsed old.roll.classes.items n c) (sym (ap (λ k. painted.value_at k p) canvas)) (sheet.used p (subst (λ (k : Canvas). IsWithin (painted.tops_of k) p) canvas w)))

    grown_hulled : (p : List ℕ) → IsWithin (tops_in new) p → HasAt new.hulls.items (class_at new p) p
    grown_hulled p w =
        subst (λ n. HasAt new.hulls.items n p) (sym (ap (λ k. painted.value_at k p) canvas)) (grow (class_at old p) p (sheet.hulled p (subst (λ (k : Canvas). IsWithin (painted.tops_of k) p) canvas w)))
