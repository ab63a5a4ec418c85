-- Trees whose values are images of another one's.
use Rattle.std.proofs.Common.{◌≡◌, ℕ, zero, suc, ◌≤◌, Some, List, [], ◌∷◌, slice_index, slice_set, sym, ◌∙◌, ap}
use Rattle.std.proofs.lemmas.Option.{same_Some}
use Rattle.fws_box.specs.Sides.{IsWithin}
use Rattle.fws_tree.specs.Plain.{Plain, value}
use Rattle.fws_tree_seen.specs.declared.seen.Seen.{Seen}
use Rattle.fws_tree_seen.specs.Shown.{IsTold}
use Rattle.fws_tree_seen.specs.SightLaws.{HasImages}

-- a field is changed
set_within : (tops x : List ℕ) (f v : ℕ) → IsWithin tops x → v ≤ slice_index tops f → IsWithin tops (slice_set x f v)
set_within [] [] f v within le = within
set_within [] (a ∷ x) f v within le = absurd within
set_within (top ∷ tops) [] f v within le = absurd within
set_within (top ∷ tops) (a ∷ x) zero v within le = (le, within.1)
set_within (top ∷ tops) (a ∷ x) (suc f) v within le = (within.0, set_within tops x f v within.1 le)

-- where the one doesn't change, the other doesn't
images_same : {L M : Type 0} (tops : List ℕ) (gives : L → M) (t : Plain L) (u : Plain M) → HasImages tops gives t u
    → (x y : List ℕ) → IsWithin tops x → IsWithin tops y → value t y ≡ value t x → value u y ≡ value u x
images_same tops gives t u images x y in_x in_y same =
    let at_x = images x in_x in
    let at_y = images y in_y in
    let leaf : at_y.0 ≡ at_x.0 = same_Some at_y.0 at_x.0 (sym at_y.1 ∙ same ∙ at_x.1) in
    at_y.2 ∙ ap (λ a. Some (gives a)) leaf ∙ sym at_x.2

pub told_images : {L M : Type 0} (seen : Seen) (tops : List ℕ) (gives : L → M) (t : Plain L) (u : Plain M) → HasImages tops gives t u → IsTold seen tops t → IsTold seen tops u
told_images seen tops gives t u images told = record {
  lacking = λ f x within lacks v le. images_same tops gives t u images x (slice_set x f v) within (set_within tops x f v within le) (told.lacking f x within lacks v le);
  unseen = λ f x low high hidden within v le. images_same tops gives t u images x (slice_set x f v) within (set_within tops x f v within le) (told.unseen f x low high hidden within v le);
}
