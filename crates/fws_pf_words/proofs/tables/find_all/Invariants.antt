use Rattle.std.proofs.Common.{◌≡◌, drop}
use Rattle.fws_pf_words.specs.Members.{names_of}
use Rattle.fws_pf_words.specs.Reached.{with_places}
use Rattle.fws_pf_words.proofs.tables.find_all.Given as goal

abbrev pub invariant-loop-item : goal.invariant-loop-item
invariant-loop-item l = with_places l.tables l.places.keys (names_of (drop l.item-index l.items)) ≡ with_places l.tables l.fn.places.keys (names_of l.items)
