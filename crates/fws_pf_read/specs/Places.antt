-- The places of a rule: what they ask for, and how many conditions they make.
use Rattle.std.specs.Prelude.{ℕ, ◌*◌, Option, None, Some, List, ◌++◌}
use Rattle.fws_net.specs.declared.condition.Test.TheVariants as tests
use Rattle.fws_pf.specs.declared.rule_draft.Choice.{Choice}
use Rattle.fws_pf.specs.declared.rule_draft.Expects.{Expects}
use Rattle.fws_pf.specs.declared.rule_draft.Expects.TheVariants as expect
use Rattle.fws_pf.specs.declared.rule_draft.Place.{Place}
use Rattle.fws_pf.specs.declared.rule_draft.RuleDraft.{RuleDraft}
use Rattle.fws_pf.specs.declared.tables.Table.{Table}
use Rattle.fws_pf.specs.Drawn.{condition_count, value_choices}
use Rattle.fws_pf_words.specs.Limits.{place_size}

-- the place whose value the next word belongs to
abbrev pub value_place : Expects → Option Place
value_place (expect.Value place) = Some place
value_place _ = None

-- what a rule asks for by its interfaces, protocols, addresses and ports, ahead of the rest
abbrev pub with_places : List Table → RuleDraft → List Choice → List Choice
with_places tables d rest =
    value_choices tables tests.Via d.faces ++ value_choices tables tests.Proto d.protocols
    ++ value_choices tables tests.Src d.sources ++ value_choices tables tests.Sport d.source_ports
    ++ value_choices tables tests.Dst d.destinations ++ value_choices tables tests.Dport d.destination_ports ++ rest

-- how many conditions a rule has, by its lists
abbrev pub draft_count : RuleDraft → ℕ
draft_count d =
    place_size d.faces * place_size d.protocols * place_size d.sources * place_size d.source_ports * place_size d.destinations
    * place_size d.destination_ports * condition_count d.options
