-- What `==` holds equal is equal: redirects. And what it is to put a value behind others unless it is there.
use Rattle.std.specs.Prelude.{◌≡◌, ◌⊎◌, ℕ, Bool, true, ◌&&◌, nat_eq, List, [], ◌∷◌, ◌++◌, Contains}
use Rattle.std.specs.Option.{option_eq}
use Rattle.std.proofs.lemmas.Bool.{and_parts, eqb-true}
use Rattle.fws_net.specs.declared.outcome.End.{End}
use Rattle.fws_tree.specs.LeafEquality.{option_exact}
use Rattle.fws_place.specs.declared.redirect.PublicEnd.{PublicEnd}
use Rattle.fws_place.specs.declared.redirect.Redirect.{Redirect}
use Rattle.fws_place.specs.Counts.{AreDifferent}

pub pair_exact : (p q : ℕ × ℕ) → (nat_eq p.0 q.0 && nat_eq p.1 q.1) ≡ true → p ≡ q
pair_exact p q h =
    let both = and_parts (nat_eq p.0 q.0) (nat_eq p.1 q.1) h in
    let first = eqb-true p.0 q.0 both.0 in
    let second = eqb-true p.1 q.1 both.1 in
    λ i. (first i, second i)

pub public_exact : (eq : ℕ × ℕ → ℕ × ℕ → Bool) → ((p q : ℕ × ℕ) → eq p q ≡ true → p ≡ q) → (x y : PublicEnd)
    → (nat_eq x.addr y.addr && option_eq eq x.service y.service) ≡ true → x ≡ y
public_exact eq exact x y h =
    let both = and_parts (nat_eq x.addr y.addr) (option_eq eq x.service y.service) h in
    let addr = eqb-true x.addr y.addr both.0 in
    let service = option_exact eq exact x.service y.service both.1 in
    λ i. record { addr = addr i; service = service i }

pub redirect_exact : (end_eq : End → End → Bool) → ((x y : End) → end_eq x y ≡ true → x ≡ y) → (public_eq : PublicEnd → PublicEnd → Bool)
    → ((x y : PublicEnd) → public_eq x y ≡ true → x ≡ y) → (x y : Redirect) → (end_eq x.local y.local && public_eq x.public y.public) ≡ true → x ≡ y
redirect_exact end_eq end_same public_eq public_same x y h =
    let both = and_parts (end_eq x.local y.local) (public_eq x.public y.public) h in
    let here = end_same x.local y.local both.0 in
    let there = public_same x.public y.public both.1 in
    λ i. record { local = here i; public = there i }

-- the value was put behind the others unless it was there, and now all are different
pub record IsPut {X : Type 0} (old new : List X) (x : X) : Type 0 where
  pub different : AreDifferent new
  pub put : ((new ≡ old) × Contains old x) ⊎ (new ≡ old ++ x ∷ [])
