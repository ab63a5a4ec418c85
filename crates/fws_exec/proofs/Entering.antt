-- Which packets are those of the host.
use Rattle.std.proofs.Common.{◌≡◌, ℕ, zero, suc, ◌<◌, ◌^◌, Bool, true, false, cond, nat_eq, Some, None, MatchOption, List, [], ◌∷◌, slice_index, refl, ◌∙◌, ap, subst, arith}
use Rattle.fws_box.specs.Sides.{IsWithin}
use Rattle.fws_net.specs.declared.condition.Lit.{Lit}
use Rattle.fws_net.specs.declared.site.Site.{Site}
use Rattle.fws_net.specs.declared.view.View.{View}
use Rattle.fws_net.specs.Conditions.{holds}
use Rattle.fws_net.specs.Points.{tops_of}
use Rattle.fws_net.specs.Routes.{IsSound}
use Rattle.fws_exec.specs.declared.spot.Spot.{Spot}
use Rattle.fws_exec.specs.declared.spot.Class.{Class}
use Rattle.fws_exec.specs.Sheets.{stands}

-- a condition that holds where no receiving interface is shown holds for the host's packets
pub host_test : (c : List Lit) (v : View) (entry : ℕ) → v.recv ≡ cond (nat_eq entry 0) None (Some entry) → MatchOption v.recv (holds c v ≡ true) (λ n. n < 2 ^ 32 → holds c v ≡ false) → entry < 2 ^ 32 → holds c v ≡ nat_eq entry 0
host_test c v entry shown told low =
    by (nat_eq entry 0) (subst (λ o. MatchOption o (holds c v ≡ true) (λ n. n < 2 ^ 32 → holds c v ≡ false)) shown told)
  where
    by : (b : Bool) → MatchOption (cond b None (Some entry)) (holds c v ≡ true) (λ n. n < 2 ^ 32 → holds c v ≡ false) → holds c v ≡ b
    by true h = h
    by false h = h low

pub entry_low : (site : Site) (p : List ℕ) → IsSound site → IsWithin (tops_of site) p → slice_index p 0 < 2 ^ 32
entry_low site [] sound w = absurd w
entry_low site (x ∷ p) sound w = let few = sound.few_faces in let le = w.0 in omega arith

-- the only class passes no test that its spot doesn't pass
pub only_stands : (test : Spot → Bool) (c : Class) (cs : List Class) (n : ℕ) → cs ≡ c ∷ [] → test c.spot ≡ false → stands test cs n ≡ false
only_stands test c cs n e h = ap (λ k. stands test k n) e ∙ by n
  where
    by : (n : ℕ) → stands test (c ∷ []) n ≡ false
    by zero = h
    by (suc n) = refl
