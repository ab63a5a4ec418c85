-- What a whole rule says: one rule for each choice of its lists, unless a check of the whole statement fails (pf.conf(5) of OpenBSD).
use Rattle.std.specs.Prelude.{ℕ, Bool, true, false, ◌&&◌, ◌||◌, not, nat_eq, nat_lt, Option, None, option_map, Result, Ok, Err, List, [], ◌∷◌, ◌++◌, length, if◌then◌else◌}
use Rattle.std.specs.List.{list_any}
use Rattle.std.specs.Option.{option_eq, option_map_or}
use Rattle.fws_net.specs.declared.cause.Cause.{Cause}
use Rattle.fws_net.specs.declared.cause.Checks.{Checks}
use Rattle.fws_net.specs.declared.condition.Lit.{Lit}
use Rattle.fws_net.specs.declared.outcome.End.{End}
use Rattle.fws_net.specs.Reading.{and_then}
use Rattle.fws_pf.specs.declared.rule_draft.Target.{Target}
use Rattle.fws_pf.specs.declared.tables.Table.{Table}
use Rattle.fws_pf.specs.declared.value_draft.Item.{Item}
use Rattle.fws_pf.specs.Drawn.{choices, condition_count, early, expanded_with, is_open, is_written, lacks_protocol, last_valued, maps_blocks, target_end}
use Rattle.fws_pfo.specs.declared.config.PfoRule.{PfoRule}
use Rattle.fws_pfo.specs.declared.rule_draft.PfoExpects.{PfoExpects}
use Rattle.fws_pfo.specs.declared.rule_draft.PfoExpects.TheVariants as own
use Rattle.fws_pfo.specs.declared.rule_draft.PfoRuleDraft.{PfoRuleDraft}
use Rattle.fws_pfo.specs.Drafts.{is_match, is_outward, is_pass, with_shared}

-- The end of the words

abbrev pub is_shared : PfoExpects → Bool
is_shared own.Shared = true
is_shared _ = false

-- a rule may end where what follows may be left out, and behind its end
abbrev pub may_end : PfoRuleDraft → Bool
may_end d = is_shared d.expects && (is_open d.shared.expects || is_written d.shared.expects)

abbrev pub closed : PfoRuleDraft → Result PfoRuleDraft Cause
closed d = if may_end d then Ok d else Err (early d.shared.expects)

-- the rule of all its words
abbrev pub rule_ended : PfoRuleDraft → Result PfoRuleDraft Cause
rule_ended d = and_then (last_valued d.shared.expects d.shared) (λ shared. closed (with_shared shared d))

-- Ends

abbrev pub same_end : End → End → Bool
same_end x y = nat_eq x.addr y.addr && (nat_eq x.len y.len && option_eq nat_eq x.port y.port)

-- ends, with one more unless it is among them
abbrev pub with_end : List End → End → List End
with_end ends e = if list_any (same_end e) ends then ends else ends ++ e ∷ []

-- the end that is held for the packets that a rule passes
abbrev pub held_end : PfoRuleDraft → Option End
held_end d = if is_pass d.kind then option_map target_end d.shared.target else None

-- the different ends of `pass` rules, with that of this one
abbrev pub ends_with : List End → PfoRuleDraft → List End
ends_with ends d = option_map_or (with_end ends) (held_end d) ends

-- Checks of the whole statement

-- the addresses over which an end is written
abbrev pub written_over : PfoRuleDraft → List Item
written_over d = if is_outward d.shared.way then d.shared.sources else d.shared.destinations

-- a network is mapped from other addresses than those of one network as large
abbrev pub maps_too_many : List Table → PfoRuleDraft → Bool
maps_too_many tables d =
    option_map_or (λ (t : Target). t.is_mapped && not (maps_blocks tables t.net.len (written_over d))) d.shared.target false

-- more than 200,000 rules of statements that make more than one, or more than 255 different ends
abbrev pub is_too_much : List Table → ℕ → List End → PfoRuleDraft → Bool
is_too_much tables expanded ends d =
    nat_lt 200000 (expanded_with expanded (condition_count (choices tables d.shared))) || nat_lt 255 (length (ends_with ends d))

abbrev pub rule_checks : List Table → ℕ → List End → PfoRuleDraft → Checks
rule_checks tables expanded ends d = record {
  left_out = maps_too_many tables d;
  backward = false;
  shape = lacks_protocol d.shared;
  expand = is_too_much tables expanded ends d;
}

-- Rules

-- the pass ends where the rule matches, which no `match` rule does
abbrev pub ends_pass : PfoRuleDraft → Bool
ends_pass d = not (is_match d.kind) && d.shared.quick

abbrev pub rule_of : PfoRuleDraft → List Lit → PfoRule
rule_of d cond = record {
  kind = d.kind;
  way = d.shared.way;
  quick = ends_pass d;
  cond = cond;
  tag = d.shared.tag;
  keep = is_pass d.kind && not d.shared.stateless;
  to = option_map target_end d.shared.target;
}
