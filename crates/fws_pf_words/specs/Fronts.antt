-- A value with further values ahead of its own.
use Rattle.std.specs.Prelude.{Bool, ◌&&◌, not, Option, Some, None, option_and_then, Result, Ok, Err, List, [], ◌∷◌, ◌++◌, if◌then◌else◌}
use Rattle.fws_num.specs.declared.word.Word.{Word}
use Rattle.fws_num.specs.Words.{is_sound}
use Rattle.fws_net.specs.declared.cause.Cause.{Cause}
use Rattle.fws_pf.specs.declared.value_draft.Item.{Item}
use Rattle.fws_pf.specs.declared.value_draft.ValueDraft.{ValueDraft}
use Rattle.fws_pf.specs.Values.{Setting, has_ended, value_step}

-- these items stand ahead
abbrev pub with_front : List Item → ValueDraft → ValueDraft
with_front front d = record d { items = front ++ d.items }

abbrev pub fronted : List Item → Result (ValueDraft × Bool) Cause → Result (ValueDraft × Bool) Cause
fronted front (Ok next) = Ok (with_front front next.0, next.1)
fronted front (Err cause) = Err cause

-- what became of a value that took a word and hasn't ended
abbrev pub going_on : Result (ValueDraft × Bool) Cause → Option ValueDraft
going_on (Ok next) = if next.1 && not (has_ended next.0.expects) then Some next.0 else None
going_on (Err cause) = None

abbrev pub word_within : Setting → Word → ValueDraft → Option ValueDraft
word_within setting w d = if is_sound w then going_on (value_step setting w d) else None

-- what becomes of a value by words that it takes and that don't end it
abbrev pub within : Setting → List Word → ValueDraft → Option ValueDraft
within setting [] d = Some d
within setting (w ∷ ws) d = option_and_then (within setting ws) (word_within setting w d)

-- a value ahead of its values
abbrev pub emptied : ValueDraft → ValueDraft
emptied d = record d { items = [] }
