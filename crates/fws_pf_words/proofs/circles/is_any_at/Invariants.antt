use Rattle.std.proofs.Common.{drop}
use Rattle.fws_pf_words.specs.Circles.{NamesOneOf}
use Rattle.fws_pf_words.specs.Members.{names_of}
use Rattle.fws_pf_words.proofs.circles.is_any_at.Given as goal

abbrev pub invariant-loop-item : goal.invariant-loop-item
invariant-loop-item l = NamesOneOf l.tables l.back.keys (names_of (drop l.item-index l.items)) → NamesOneOf l.tables l.back.keys (names_of l.items)
