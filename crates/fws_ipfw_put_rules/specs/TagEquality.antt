-- What `==` holds equal is equal: a number with a tag or none.
use Rattle.std.specs.Prelude.{◌≡◌, ℕ, true, ◌&&◌, nat_eq, Option}
use Rattle.std.specs.Option.{option_eq}
use Rattle.std.proofs.Common.{ap, ◌∙◌}
use Rattle.std.proofs.lemmas.Bool.{and_parts, eqb-true}
use Rattle.fws_tree.specs.LeafEquality.{option_exact}

pub with_tag_exact : {X : Type 0} (f : ℕ → Option ℕ → X) (n m : ℕ) (v w : Option ℕ) → (nat_eq n m && option_eq nat_eq v w) ≡ true → f n v ≡ f m w
with_tag_exact f n m v w h =
    let a = and_parts (nat_eq n m) (option_eq nat_eq v w) h in
    ap (λ k. f k v) (eqb-true n m a.0) ∙ ap (λ o. f m o) (option_exact nat_eq eqb-true v w a.1)
