-- What a step of a value returned is what its definition gives, unless memory ran out.
use Rattle.std.specs.Prelude.{◌≡◌, Bool, Result, Ok, Err}
use Rattle.fws_net.specs.declared.answer.LineFault.{LineFault}
use Rattle.fws_net.specs.declared.cause.Cause.{Cause}
use Rattle.fws_net.specs.Reading.{FaultGiven}
use Rattle.fws_pf.specs.declared.value_draft.ValueDraft.{ValueDraft}

-- a value that was changed by a word, and whether it took the word
abbrev pub TakenGiven : Result Bool (LineFault Cause) → ValueDraft → Result (ValueDraft × Bool) Cause → Type 0
TakenGiven (Ok taken) new read = read ≡ Ok (new, taken)
TakenGiven (Err fault) new read = FaultGiven fault read
