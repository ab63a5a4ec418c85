-- Areas of a site, and the boxes of an area where a test holds.
use Rattle.std.specs.Prelude.{◌≡◌, ℕ, Bool, true, ◌&&◌, List, length, if◌then◌else◌}
use Rattle.fws_iv.specs.declared.iv.Iv.{Iv}
use Rattle.fws_box.specs.declared.pbox.PBox.{PBox}
use Rattle.fws_box.specs.Boxes.{box_hits}
use Rattle.fws_box.specs.Sides.{sides_have, IsWithin}
use Rattle.fws_net.specs.declared.site.Site.{Site}
use Rattle.fws_net.specs.Points.{tops_of}

-- each point of the area is one of the site
abbrev pub IsOfSite : Site → List (List Iv) → Type 0
IsOfSite site area = (p : List ℕ) → length p ≡ 12 → sides_have area p ≡ true → IsWithin (tops_of site) p

-- boxes that have each point of the area at which the test holds once, and no other point
abbrev pub AreWhere : List (List Iv) → (List ℕ → Bool) → List PBox → Type 0
AreWhere area test boxes = (p : List ℕ) → length p ≡ 12 → box_hits boxes p ≡ (if sides_have area p && test p then 1 else 0)
