-- Kinds of points as sides.
use Rattle.std.proofs.Common.{◌≡◌, ℕ, ◌-◌, ◌^◌, ◌≤◌, nat_eq, List, [], ◌∷◌, sym, subst, arith}
use Rattle.std.proofs.lemmas.Bool.Decides.{nat_tests}
use Rattle.std.specs.Prelude.{slice_index}
use Rattle.fws_box.specs.Sides.{IsWithin}
use Rattle.fws_iv.specs.Ivs.{has}
use Rattle.fws_net.specs.declared.site.Site.{Site}
use Rattle.fws_net.specs.Points.{packet_of, tops_of}
use Rattle.fws_place.specs.Meaning.{point_of, rec_of}
use Rattle.fws_ios_put.proofs.Framing.{point_back}

-- TCP alone
pub six_alone : (n : ℕ) → has (record { lo = 6; hi = 6 } ∷ []) n ≡ nat_eq n 6
six_alone n = grind (arith, nat_tests)

-- a destination has 32 bits
pub destination_low : (site : Site) (x : List ℕ) → IsWithin (tops_of site) x → slice_index x 2 ≤ 2 ^ 32 - 1
destination_low site x w =
    let v : IsWithin (tops_of site) (point_of (packet_of x) (rec_of x)) = subst (λ (l : List ℕ). IsWithin (tops_of site) l) (sym (point_back site x w)) w in
    v.1.1.0
