-- Choices that are put one after another.
use Rattle.std.proofs.Common.{◌≡◌, List, [], ◌∷◌, ◌++◌, cond, ap, sym, ◌∙◌, append-nil, append_assoc}
use Rattle.fws_net.specs.declared.condition.Test.TheVariants as tests
use Rattle.fws_pf.specs.declared.rule_draft.Choice.{Choice}
use Rattle.fws_pf.specs.declared.rule_draft.RuleDraft.{RuleDraft}
use Rattle.fws_pf.specs.declared.tables.Table.{Table}
use Rattle.fws_pf.specs.Drawn.{choices, implied_flags, implies_flags, value_choices}
use Rattle.fws_pf.specs.RuleText.{only}
use Rattle.fws_pf_read.specs.Places.{with_places}

-- the choices of six places ahead of the rest
pub six_ahead : (a b c d e f rest : List Choice) → a ++ (b ++ (c ++ (d ++ (e ++ (f ++ rest))))) ≡ a ++ b ++ c ++ d ++ e ++ f ++ rest
six_ahead a b c d e f rest = sym (
    append_assoc (a ++ b ++ c ++ d ++ e) f rest ∙ append_assoc (a ++ b ++ c ++ d) e (f ++ rest) ∙ append_assoc (a ++ b ++ c) d (e ++ (f ++ rest))
    ∙ append_assoc (a ++ b) c (d ++ (e ++ (f ++ rest))) ∙ append_assoc a b (c ++ (d ++ (e ++ (f ++ rest)))))

three_ahead : (a b c : List Choice) → a ++ (b ++ (c ++ [])) ≡ a ++ b ++ c
three_ahead a b c = ap (λ (l : List Choice). a ++ (b ++ l)) (append-nil c) ∙ sym (append_assoc a b c)

-- what a rule implies is put behind its options, and these behind its places
pub choices_ahead : (tables : List Table) (d : RuleDraft)
    → with_places tables d (d.options ++ (cond (implies_flags d) (only implied_flags ∷ []) [] ++ [])) ≡ choices tables d
choices_ahead tables d =
    three_ahead
    (value_choices tables tests.Via d.faces ++ value_choices tables tests.Proto d.protocols
    ++ value_choices tables tests.Src d.sources ++ value_choices tables tests.Sport d.source_ports
    ++ value_choices tables tests.Dst d.destinations ++ value_choices tables tests.Dport d.destination_ports)
    d.options (cond (implies_flags d) (only implied_flags ∷ []) [])
