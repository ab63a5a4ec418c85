-- Where a value is.
use Rattle.std.specs.Prelude.{ℕ, List, ◌++◌, take, drop}
use Rattle.fws_pf.specs.declared.value_draft.Item.{Item}
use Rattle.fws_pf.specs.declared.value_draft.ValueDraft.{ValueDraft}
use Rattle.fws_pf_words.specs.declared.long_value.Spot.{Spot}

-- a value at a place
abbrev pub at_spot : Spot → List Item → ValueDraft
at_spot s items = record { kind = s.kind; expects = s.expects; in_list = s.in_list; negated = s.negated; items = items }

abbrev pub spot_of : ValueDraft → Spot
spot_of d = record { kind = d.kind; expects = d.expects; in_list = d.in_list; negated = d.negated }

-- a value at another place, with a stretch of its values once more
abbrev pub came_again : ℕ → ℕ → Spot → ValueDraft → ValueDraft
came_again from count spot d = at_spot spot (d.items ++ take count (drop from d.items))
