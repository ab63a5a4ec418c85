-- The whole ranges of a site.
use Rattle.std.proofs.Common.{◌≡◌, ℕ, Bool, true, false, ◌&&◌, ◌||◌, nat_le, List, [], ◌∷◌, length, refl, sym, ap, ◌∙◌, arith}
use Rattle.std.proofs.lemmas.Bool.{and_parts, leb-true}
use Rattle.fws_iv.specs.declared.iv.Iv.{Iv}
use Rattle.fws_iv.specs.Ivs.{has}
use Rattle.fws_box.specs.Sides.{sides_have, whole_sides, IsWithin}
use Rattle.fws_net.specs.declared.site.Site.{Site}
use Rattle.fws_net.specs.Points.{tops_of}
use Rattle.fws_box_conditions.specs.Areas.{IsOfSite}

pub or_false : (b : Bool) → (b || false) ≡ b
or_false true = refl
or_false false = refl

within : (tops p : List ℕ) → length p ≡ length tops → sides_have (whole_sides tops) p ≡ true → IsWithin tops p
within [] [] n h = tt
within [] (x ∷ p) n h = absurd (omega arith)
within (t ∷ tops) [] n h = absurd (omega arith)
within (t ∷ tops) (x ∷ p) n h =
    let both = and_parts (has (record { lo = 0; hi = t } ∷ []) x) (sides_have (whole_sides tops) p) h in
    let first = and_parts (nat_le 0 x) (nat_le x t) (sym (or_false (nat_le 0 x && nat_le x t)) ∙ both.0) in
    (leb-true x t first.1, within tops p (omega arith) both.1)

-- the whole ranges have the points of the site alone
pub all_of_site : (site : Site) (sides : List (List Iv)) → sides ≡ whole_sides (tops_of site) → IsOfSite site sides
all_of_site site sides e p n h = within (tops_of site) p n (ap (λ s. sides_have s p) (sym e) ∙ h)
