-- Parts of conditions.
use Rattle.std.proofs.Common.{◌≡◌, ◌≤◌, Option, Some, None, List, ◌++◌, refl, ◌∙◌, append_assoc}
use Rattle.std.specs.Prelude.{IfSome}
use Rattle.fws_iv.specs.declared.iv.Iv.{Iv}

pub if_some : (o : Option Iv) → ((part : Iv) → o ≡ Some part → part.lo ≤ part.hi) → IfSome o (λ range. range.lo ≤ range.hi)
if_some None h = tt
if_some (Some part) h = h part refl

-- six lists behind one another
pub six_lists : {X : Type 0} → (a b c d e f : List X) → a ++ b ++ c ++ d ++ e ++ f ≡ a ++ (b ++ (c ++ (d ++ (e ++ f))))
six_lists a b c d e f =
    append_assoc (a ++ b ++ c ++ d) e f ∙ append_assoc (a ++ b ++ c) d (e ++ f) ∙ append_assoc (a ++ b) c (d ++ (e ++ f)) ∙ append_assoc a b (c ++ (d ++ (e ++ f)))
