-- What a recolouring makes of the class of a point.
use Rattle.std.proofs.Common.{◌≡◌, ℕ, Bool, true, false, MatchBool, Some, List, slice_get, sym, subst}
use Rattle.fws_exec.specs.declared.going.Going.{Going}
use Rattle.fws_exec.specs.declared.spot.Class.{Class}
use Rattle.fws_exec.specs.Classes.{is_unused}
use Rattle.fws_exec.specs.Goings.{Goes}
use Rattle.fws_exec.specs.Moving.{GoesTo, IsMoved}
use Rattle.fws_exec.specs.Sheets.{IsUsed, Grows}

-- what has moved stays so while classes are added
pub moved_kept : (going : Going) (called : ℕ → Bool) (old new : List Class) (x l z : ℕ) → Grows old new → IsMoved going called old x l z → IsMoved going called new x l z
moved_kept going called old new x l z grows m = by (called x) m
  where
    by : (b : Bool) → MatchBool b (GoesTo going old x l z) (z ≡ x) → MatchBool b (GoesTo going new x l z) (z ≡ x)
    by true g = (g.0, grows x g.0 g.1, (g.2.0, grows z g.2.0 g.2.1, g.2.2))
    by false e = e

-- packets of a called class went to a class
pub moved_here : (going : Going) (called : ℕ → Bool) (old new : List Class) (x l z : ℕ) (d : Class) → called x ≡ true → Grows old new → ((c : Class) × IsUsed old x c × Goes going l c.progress d) → is_unused d.spot ≡ false → slice_get new z ≡ Some d
    → IsMoved going called new x l z
moved_here going called old new x l z d is grows gone used got = subst (λ b. MatchBool b (GoesTo going new x l z) (z ≡ x)) (sym is) (gone.0, grows x gone.0 gone.1, (d, (got, used), gone.2))
