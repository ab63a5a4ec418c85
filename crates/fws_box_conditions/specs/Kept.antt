-- Boxes that are kept of others.
use Rattle.std.specs.Prelude.{◌≡◌, ℕ, ◌+◌, Bool, ◌&&◌, List, [], length, if◌then◌else◌}
use Rattle.fws_iv.specs.declared.iv.Iv.{Iv}
use Rattle.fws_box.specs.declared.pbox.PBox.{PBox}
use Rattle.fws_box.specs.Boxes.{box_hits}
use Rattle.fws_box.specs.Sides.{sides_have}

-- the new boxes have each point of the area at which the test holds once more than the old ones
abbrev pub Adds : List (List Iv) → (List ℕ → Bool) → List PBox → List PBox → Type 0
Adds area test old new = (p : List ℕ) → length p ≡ 12 → box_hits new p ≡ box_hits old p + (if sides_have area p && test p then 1 else 0)

-- the new boxes have each point at which the test holds as often as the old ones and these together
abbrev pub AddsThose : List PBox → (List ℕ → Bool) → List PBox → List PBox → Type 0
AddsThose boxes test old new = (p : List ℕ) → length p ≡ 12 → box_hits new p ≡ box_hits old p + (if test p then box_hits boxes p else 0)

-- the kept boxes have each point at which the test holds as often as these, and no other point
abbrev pub AreThose : List PBox → (List ℕ → Bool) → List PBox → Type 0
AreThose boxes test kept = AddsThose boxes test [] kept
