-- What an answer says of a diagram that isn't unfolded.
use Rattle.std.specs.Prelude.{◌≡◌, Option, Some}
use Rattle.fws_ifcl.specs.declared.refusal.UnfoldRefusal.{UnfoldRefusal}
use Rattle.fws_ifcl.specs.declared.refusal.UnfoldRefusal.TheVariants as refusals
use Rattle.fws_unfold.specs.declared.answer.UnfoldAnswer.{UnfoldAnswer}
use Rattle.fws_unfold.specs.declared.answer.UnfoldAnswer.TheVariants.{Loop, Deep, Long, Memory}

-- the answer is the diagram's refusal; want of memory says nothing of it
abbrev pub Refuses : UnfoldAnswer → Option UnfoldRefusal → Type 0
Refuses (Loop c) refusal = refusal ≡ Some (refusals.Loop c)
Refuses (Deep c) refusal = refusal ≡ Some (refusals.Deep c)
Refuses (Long c) refusal = refusal ≡ Some (refusals.Long c)
Refuses Memory refusal = Unit {0}
