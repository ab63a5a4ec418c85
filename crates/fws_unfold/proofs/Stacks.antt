-- Frames and their starts, one behind the other.
use Rattle.std.proofs.Common.{◌≡◌, ℕ, List, [], ◌∷◌, ◌++◌, length, arith, refl, ap}
use Rattle.fws_unfold.specs.declared.frame.Frame.{Frame}
use Rattle.fws_unfold.specs.declared.stack.Call.{Call}
use Rattle.fws_unfold.specs.Stacks.{frame_of, joined}

pub joined_more : (calls : List Call) (starts : List (List ℕ)) (call : Call) (s : List ℕ) → length calls ≡ length starts
    → joined (calls ++ call ∷ []) (starts ++ s ∷ []) ≡ joined calls starts ++ frame_of call s ∷ []
joined_more [] [] call s same = refl
joined_more [] (x ∷ ss) call s same = absurd (omega arith)
joined_more (c ∷ cs) [] call s same = absurd (omega arith)
joined_more (c ∷ cs) (x ∷ ss) call s same = ap (λ (fs : List Frame). frame_of c x ∷ fs) (joined_more cs ss call s (omega arith))
