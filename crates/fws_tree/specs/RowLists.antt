-- Lists that grow by others.
use Rattle.std.specs.Prelude.{◌≡◌, List, [], ◌++◌}
use Rattle.std.proofs.Common.{sym, ◌∙◌, ap, append_assoc}
use Rattle.std.proofs.lemmas.List.{append-nil}

-- by none it stays
pub more_none : {A : Type 0} (xs : List A) → xs ≡ xs ++ []
more_none xs = sym (append-nil xs)

-- by some, and then by others, it grows by both
pub more_then : {A : Type 0} (xs ys zs more others : List A) → ys ≡ xs ++ more → zs ≡ ys ++ others → zs ≡ xs ++ (more ++ others)
more_then xs ys zs more others e f = f ∙ ap (λ l. l ++ others) e ∙ append_assoc xs more others
