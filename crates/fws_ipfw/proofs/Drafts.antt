-- What a rule does, word by word, fits.
use Rattle.std.proofs.Common.{◌≡◌, ℕ, Bool, true, false, ◌&&◌, ◌||◌, not, nat_le, Option, Some, None, is_some, Result, Ok, Err, List, [], ◌∷◌, ◌++◌, codes, bytes_eq, cond, ◌^◌, ◌-◌, IfOk, refl, ap}
use Rattle.std.specs.List.{list_any}
use Rattle.std.specs.Option.{option_map_or}
use Rattle.std.proofs.lemmas.Bool.{false≢true, and_from, or_left, or_right, not_from_false}
use Rattle.fws_num.specs.declared.word.Word.{Word}
use Rattle.fws_num.specs.Numbers.{dec_of}
use Rattle.fws_net.specs.declared.cause.Cause.{Cause}
use Rattle.fws_net.specs.declared.cause.Cause.TheVariants.{Syntax, LeftOut, NoName}
use Rattle.fws_net.specs.declared.condition.Lit.{Lit}
use Rattle.fws_net.specs.declared.condition.Test.TheVariants as tests
use Rattle.fws_net.specs.declared.site.Site.{Site}
use Rattle.fws_net.specs.Causes.{words_read}
use Rattle.fws_net.specs.Ports.{ports_of}
use Rattle.fws_net.specs.Reading.{and_then}
use Rattle.fws_rules.specs.Literals.{literals}
use Rattle.fws_ipfw.specs.declared.config.IpfwAct.{IpfwAct}
use Rattle.fws_ipfw.specs.declared.config.IpfwAct.TheVariants as acts
use Rattle.fws_ipfw.specs.declared.config.IpfwTag.{IpfwTag}
use Rattle.fws_ipfw.specs.declared.config.IpfwTag.TheVariants as tags
use Rattle.fws_ipfw.specs.declared.words.ActionWord.{ActionWord}
use Rattle.fws_ipfw.specs.declared.words.ActionWord.TheVariants as actions
use Rattle.fws_ipfw.specs.declared.words.TestOption.{TestOption}
use Rattle.fws_ipfw.specs.declared.draft.Defined.{Defined}
use Rattle.fws_ipfw.specs.declared.draft.Expects.{Expects}
use Rattle.fws_ipfw.specs.declared.draft.Expects.TheVariants as expect
use Rattle.fws_ipfw.specs.declared.draft.RuleDraft.{RuleDraft}
use Rattle.fws_ipfw.specs.Options.{action_word, test_option, misplaced, misspelled}
use Rattle.fws_ipfw.specs.RuleText.{fresh_rule, expecting, is, once, with_literals, acting, action_begun, action_step, skip_step, is_defined, instance_step, flow_step, with_protocol, protocol_step, tag_step, log_step, logged_step, amount_step, with_tag, tag_number_step, word_step, address_literals, address_step, source_step, destination_step, with_ports, ports_step, source_ports_step, test_begun, test_step, allows, keep_step, option_step, kept_flow_step, destination_ports_step, value_step, expected_step, rule_step, may_end, rule_draft}
use Rattle.fws_ipfw.specs.Soundness.{is_check, tag_fits, leaves_tags, is_everywhere}
use Rattle.fws_ipfw.specs.Values.{counted, protocol_value, addresses_of, bare_meaning, meaning_of}
use Rattle.fws_ipfw.proofs.Counted.{Within, counted_within}
use Rattle.fws_ipfw.proofs.Outcomes.{then_holds, then_known, either_holds, found_holds, known_holds, words_hold}

-- What holds of a rule so far

-- an act as words spell it: a skip that maybe goes back, and an instance that some line defines
abbrev pub act_spelled : List Defined → IpfwAct → Bool
act_spelled known (acts.Skip n) = nat_le n 65534
act_spelled known (acts.Nat n) = is_defined known n
act_spelled known _ = true

-- no more than the action was read
record Fresh (cond : List Lit) (puts : IpfwTag) (keeps : Bool) : Type 0 where
  lits : cond ≡ []
  tag : puts ≡ tags.Nothing
  keep : keeps ≡ false

-- any act but check-state
record Acting (known : List Defined) (does : IpfwAct) (puts : IpfwTag) (keeps : Bool) : Type 0 where
  act : act_spelled known does ≡ true
  other : is_check does ≡ false
  tag : tag_fits puts ≡ true
  keep : (not keeps || allows does) ≡ true

-- by what the next word is taken for
abbrev At : Expects → List Defined → RuleDraft → Type 0
At expect.Action known d = Fresh d.cond d.tag d.keep
At expect.SkipTo known d = Fresh d.cond d.tag d.keep
At expect.Instance known d = Fresh d.cond d.tag d.keep
At expect.Flow known d = Fresh d.cond d.tag d.keep × (d.act ≡ acts.Check)
At expect.Nothing known d = Fresh d.cond d.tag d.keep × (d.act ≡ acts.Check)
At _ known d = Acting known d.act d.tag d.keep

abbrev Begun : List Defined → RuleDraft → Type 0
Begun known d = At d.expects known d

-- Actions

act_begun : (known : List Defined) (act : IpfwAct) (lits : List Lit) (tag : IpfwTag) (keep : Bool) → act_spelled known act ≡ true → is_check act ≡ false → Fresh lits tag keep
    → Acting known act tag keep
act_begun known act lits tag keep e k h = record { act = e; other = k; tag = ap tag_fits h.tag; keep = ap (λ b. not b || allows act) h.keep }

action_begins : (known : List Defined) (word : ActionWord) (d : RuleDraft) → Fresh d.cond d.tag d.keep → Begun known (action_begun word d)
action_begins known actions.Allow d h = act_begun known acts.Allow d.cond d.tag d.keep refl refl h
action_begins known actions.Deny d h = act_begun known acts.Deny d.cond d.tag d.keep refl refl h
action_begins known actions.Unreach d h = act_begun known acts.Deny d.cond d.tag d.keep refl refl h
action_begins known actions.Count d h = act_begun known acts.Count d.cond d.tag d.keep refl refl h
action_begins known actions.SkipTo d h = h
action_begins known actions.Nat d h = h
action_begins known actions.CheckState d h = (h, refl)

action_fits : (known : List Defined) (text : List ℕ) (d : RuleDraft) → Fresh d.cond d.tag d.keep → IfOk (action_step text d) (Begun known)
action_fits known text d h =
    found_holds (Begun known) (action_word text) (λ word. Ok (action_begun word d)) (Err (misplaced text)) (λ word e. action_begins known word d h) tt

skip_fits : (known : List Defined) (text : List ℕ) (d : RuleDraft) → Fresh d.cond d.tag d.keep → IfOk (skip_step text d) (Begun known)
skip_fits known text d h =
    known_holds (Within 65534) (Begun known) (counted 65534 text) (λ n. Ok (acting (acts.Skip n) expect.Log d)) (Err Syntax) (counted_within 65534 text)
    (λ n k. act_begun known (acts.Skip n) d.cond d.tag d.keep k.1 refl h) tt

instance_fits : (known : List Defined) (text : List ℕ) (d : RuleDraft) → Fresh d.cond d.tag d.keep → IfOk (instance_step known text d) (Begun known)
instance_fits known text d h =
    found_holds (Begun known) (counted 65535 text) _ (Err Syntax)
    (λ n e. either_holds (Begun known) (is_defined known n) (Ok (acting (acts.Nat n) expect.Log d)) (Err NoName)
    (λ k. act_begun known (acts.Nat n) d.cond d.tag d.keep k refl h) (λ k. tt)) tt

flow_fits : (known : List Defined) (text : List ℕ) (d : RuleDraft) → Fresh d.cond d.tag d.keep × (d.act ≡ acts.Check) → IfOk (flow_step text d) (Begun known)
flow_fits known text d h = either_holds (Begun known) (is text (codes ":default")) (Ok (expecting expect.Nothing d)) (Err (misplaced text)) (λ e. h) (λ e. tt)

module _ (known : List Defined) where
  abbrev Acts : RuleDraft → Type 0
  Acts d = Acting known d.act d.tag d.keep

  -- Logging, tags and protocols

  protocol_fits : (text : List ℕ) (d : RuleDraft) → Acts d → IfOk (protocol_step text d) (Begun known)
  protocol_fits text d h = found_holds (Begun known) (protocol_value text) (λ protocol. Ok (with_protocol protocol d)) (Err (misspelled text)) (λ protocol e. h) tt

  tag_step_fits : (text : List ℕ) (d : RuleDraft) → Acts d → IfOk (tag_step text d) (Begun known)
  tag_step_fits text d h =
      either_holds (Begun known) (is text (codes "tag")) (Ok (expecting (expect.TagNumber true) d)) _ (λ e. h)
      (λ e. either_holds (Begun known) (is text (codes "untag")) (Ok (expecting (expect.TagNumber false) d)) (protocol_step text d) (λ k. h)
      (λ k. protocol_fits text d h))

  log_fits : (text : List ℕ) (d : RuleDraft) → Acts d → IfOk (log_step text d) (Begun known)
  log_fits text d h =
      either_holds (Begun known) (is text (codes "log")) (Ok (expecting expect.Logged d)) (tag_step text d) (λ e. h) (λ e. tag_step_fits text d h)

  logged_fits : (text : List ℕ) (d : RuleDraft) → Acts d → IfOk (logged_step text d) (Begun known)
  logged_fits text d h =
      either_holds (Begun known) (is text (codes "logamount")) (Ok (expecting expect.LogAmount d)) (tag_step text d) (λ e. h) (λ e. tag_step_fits text d h)

  amount_fits : (text : List ℕ) (d : RuleDraft) → Acts d → IfOk (amount_step text d) (Begun known)
  amount_fits text d h = either_holds (Begun known) (is_some (dec_of text (2 ^ 64 - 1))) (Ok (expecting expect.Tag d)) (Err Syntax) (λ e. h) (λ e. tt)

  tag_put : (adds : Bool) (n : ℕ) (d : RuleDraft) → Within 65534 n → Acts d → Begun known (with_tag adds n d)
  tag_put true n d k h = record { act = h.act; other = h.other; tag = and_from _ _ k.0 k.1; keep = h.keep }
  tag_put false n d k h = record { act = h.act; other = h.other; tag = and_from _ _ k.0 k.1; keep = h.keep }

  tag_number_fits : (adds : Bool) (text : List ℕ) (d : RuleDraft) → Acts d → IfOk (tag_number_step adds text d) (Begun known)
  tag_number_fits adds text d h =
      known_holds (Within 65534) (Begun known) (counted 65534 text) (λ n. Ok (with_tag adds n d)) (Err Syntax) (counted_within 65534 text)
      (λ n k. tag_put adds n d k h) tt

  -- Addresses and ports

  from_fits : (text : List ℕ) (d : RuleDraft) → Acts d → IfOk (word_step (codes "from") (expect.Source false) text d) (Begun known)
  from_fits text d h = either_holds (Begun known) (is text (codes "from")) (Ok (expecting (expect.Source false) d)) (Err (misplaced text)) (λ e. h) (λ e. tt)

  to_fits : (text : List ℕ) (d : RuleDraft) → Acts d → IfOk (word_step (codes "to") (expect.Destination false) text d) (Begun known)
  to_fits text d h = either_holds (Begun known) (is text (codes "to")) (Ok (expecting (expect.Destination false) d)) (Err (misplaced text)) (λ e. h) (λ e. tt)

  source_address_fits : (site : Site) (negated : Bool) (text : List ℕ) (d : RuleDraft) → Acts d
      → IfOk (address_step site tests.Src negated expect.SourcePorts text d) (Begun known)
  source_address_fits site negated text d h =
      found_holds (Begun known) (addresses_of site text) (λ set. Ok (expecting expect.SourcePorts (with_literals (address_literals tests.Src negated set) d)))
      (Err (misspelled text)) (λ set e. h) tt

  source_fits : (site : Site) (negated : Bool) (text : List ℕ) (d : RuleDraft) → Acts d → IfOk (source_step site negated text d) (Begun known)
  source_fits site true text d h = source_address_fits site true text d h
  source_fits site false text d h =
      either_holds (Begun known) (is text (codes "not")) (Ok (expecting (expect.Source true) d)) (address_step site tests.Src false expect.SourcePorts text d) (λ e. h)
      (λ e. source_address_fits site false text d h)

  destination_address_fits : (site : Site) (negated : Bool) (text : List ℕ) (d : RuleDraft) → Acts d
      → IfOk (address_step site tests.Dst negated expect.DestinationPorts text d) (Begun known)
  destination_address_fits site negated text d h =
      found_holds (Begun known) (addresses_of site text) (λ set. Ok (expecting expect.DestinationPorts (with_literals (address_literals tests.Dst negated set) d)))
      (Err (misspelled text)) (λ set e. h) tt

  destination_fits : (site : Site) (negated : Bool) (text : List ℕ) (d : RuleDraft) → Acts d → IfOk (destination_step site negated text d) (Begun known)
  destination_fits site true text d h = destination_address_fits site true text d h
  destination_fits site false text d h =
      either_holds (Begun known) (is text (codes "not")) (Ok (expecting (expect.Destination true) d)) (address_step site tests.Dst false expect.DestinationPorts text d)
      (λ e. h) (λ e. destination_address_fits site false text d h)

  -- ports of the source, behind which the destination comes
  source_ports_fit : (negated : Bool) (other : List ℕ → RuleDraft → Result RuleDraft Cause) (text : List ℕ) (d : RuleDraft) → Acts d → IfOk (other text d) (Begun known)
      → IfOk (ports_step tests.Sport negated expect.To other text d) (Begun known)
  source_ports_fit negated other text d h k =
      found_holds (Begun known) (ports_of 45 text) (λ set. Ok (with_ports tests.Sport negated expect.To set d)) (other text d) (λ set e. h) k

  -- ports of the destination, behind which options come
  destination_ports_fit : (negated : Bool) (other : List ℕ → RuleDraft → Result RuleDraft Cause) (text : List ℕ) (d : RuleDraft) → Acts d → IfOk (other text d) (Begun known)
      → IfOk (ports_step tests.Dport negated expect.Option other text d) (Begun known)
  destination_ports_fit negated other text d h k =
      found_holds (Begun known) (ports_of 45 text) (λ set. Ok (with_ports tests.Dport negated expect.Option set d)) (other text d) (λ set e. h) k

  behind_source_fits : (text : List ℕ) (d : RuleDraft) → Acts d → IfOk (source_ports_step text d) (Begun known)
  behind_source_fits text d h =
      either_holds (Begun known) (is text (codes "to")) (Ok (expecting (expect.Destination false) d)) _ (λ e. h)
      (λ e. either_holds (Begun known) (is text (codes "not")) (Ok (expecting expect.NegatedSourcePorts d)) (ports_step tests.Sport false expect.To (λ t e. Err (misspelled t)) text d)
      (λ k. h) (λ k. source_ports_fit false (λ t e. Err (misspelled t)) text d h tt))

  -- Options

  once_at : (b : Bool) (e : RuleDraft) (f : RuleDraft → Result RuleDraft Cause) → IfOk (f e) (Begun known) → IfOk (and_then (cond b (Err Syntax) (Ok e)) f) (Begun known)
  once_at true e f h = tt
  once_at false e f h = h

  once_fits : (text : List ℕ) (d : RuleDraft) (f : RuleDraft → Result RuleDraft Cause) → IfOk (f (record d { given = d.given ++ text ∷ [] })) (Begun known)
      → IfOk (and_then (once text d) f) (Begun known)
  once_fits text d f h = once_at (list_any (bytes_eq text) d.given) (record d { given = d.given ++ text ∷ [] }) f h

  begun_by : (negated : Bool) (option : TestOption) (bare : Option Lit) (d : RuleDraft) → Acts d
      → Begun known (option_map_or (λ lit. expecting expect.Option (with_literals (literals negated (Some lit)) d)) bare (expecting (expect.Value option negated) d))
  begun_by negated option None d h = h
  begun_by negated option (Some lit) d h = h

  test_fits : (negated : Bool) (cause : Cause) (text : List ℕ) (d : RuleDraft) → Acts d → IfOk (test_step negated cause text d) (Begun known)
  test_fits negated cause text d h =
      found_holds (Begun known) (test_option text) (λ option. and_then (once text d) (λ e. Ok (test_begun negated option e))) (Err cause)
      (λ option e. once_fits text d (λ e. Ok (test_begun negated option e)) (begun_by negated option (bare_meaning option) (record d { given = d.given ++ text ∷ [] }) h)) tt

  keep_fits : (text : List ℕ) (d : RuleDraft) → Acts d → IfOk (keep_step text d) (Begun known)
  keep_fits text d h =
      let next : RuleDraft → Result RuleDraft Cause = λ e. Ok (record e { keep = true; expects = expect.KeptFlow }) in
      either_holds (Begun known) (allows d.act) (and_then (once text d) next) (Err LeftOut)
      (λ e. once_fits text d next (record { act = h.act; other = h.other; tag = h.tag; keep = e })) (λ e. tt)

  option_fits : (cause : Cause) (text : List ℕ) (d : RuleDraft) → Acts d → IfOk (option_step cause text d) (Begun known)
  option_fits cause text d h =
      either_holds (Begun known) (is text (codes "not")) (Ok (expecting expect.Negated d)) _ (λ e. h)
      (λ e. either_holds (Begun known) (is text (codes "keep-state")) (keep_step text d) (test_step false cause text d) (λ k. keep_fits text d h)
      (λ k. test_fits false cause text d h))

  kept_flow_fits : (text : List ℕ) (d : RuleDraft) → Acts d → IfOk (kept_flow_step text d) (Begun known)
  kept_flow_fits text d h =
      either_holds (Begun known) (is text (codes ":default")) (Ok (expecting expect.Option d)) (option_step (misplaced text) text d) (λ e. h)
      (λ e. option_fits (misplaced text) text d h)

  behind_destination_fits : (text : List ℕ) (d : RuleDraft) → Acts d → IfOk (destination_ports_step text d) (Begun known)
  behind_destination_fits text d h =
      either_holds (Begun known) (is text (codes "not")) (Ok (expecting expect.NegatedDestinationPorts d)) _ (λ e. h)
      (λ e. destination_ports_fit false (λ t f. option_step (misspelled t) t f) text d h (option_fits (misspelled text) text d h))

  value_fits : (site : Site) (option : TestOption) (negated : Bool) (text : List ℕ) (d : RuleDraft) → Acts d → IfOk (value_step site option negated text d) (Begun known)
  value_fits site option negated text d h =
      then_holds (Begun known) (meaning_of site option text) (λ lit. Ok (expecting expect.Option (with_literals (literals negated (Some lit)) d))) (λ lit. h)

  -- Words

  expected_fits : (site : Site) (expects : Expects) (text : List ℕ) (d : RuleDraft) → At expects known d → IfOk (expected_step site known expects text d) (Begun known)
  expected_fits site expect.Action text d h = action_fits known text d h
  expected_fits site expect.Code text d h = h
  expected_fits site expect.SkipTo text d h = skip_fits known text d h
  expected_fits site expect.Instance text d h = instance_fits known text d h
  expected_fits site expect.Flow text d h = flow_fits known text d h
  expected_fits site expect.Nothing text d h = tt
  expected_fits site expect.Log text d h = log_fits text d h
  expected_fits site expect.Logged text d h = logged_fits text d h
  expected_fits site expect.LogAmount text d h = amount_fits text d h
  expected_fits site expect.Tag text d h = tag_step_fits text d h
  expected_fits site (expect.TagNumber adds) text d h = tag_number_fits adds text d h
  expected_fits site expect.Protocol text d h = protocol_fits text d h
  expected_fits site expect.From text d h = from_fits text d h
  expected_fits site (expect.Source negated) text d h = source_fits site negated text d h
  expected_fits site expect.SourcePorts text d h = behind_source_fits text d h
  expected_fits site expect.NegatedSourcePorts text d h = source_ports_fit true (λ t e. Err Syntax) text d h tt
  expected_fits site expect.To text d h = to_fits text d h
  expected_fits site (expect.Destination negated) text d h = destination_fits site negated text d h
  expected_fits site expect.DestinationPorts text d h = behind_destination_fits text d h
  expected_fits site expect.NegatedDestinationPorts text d h =
      destination_ports_fit true (λ t e. test_step true (misspelled t) t e) text d h (test_fits true (misspelled text) text d h)
  expected_fits site expect.Option text d h = option_fits (misplaced text) text d h
  expected_fits site expect.Negated text d h = test_fits true (misplaced text) text d h
  expected_fits site (expect.Value option negated) text d h = value_fits site option negated text d h
  expected_fits site expect.KeptFlow text d h = kept_flow_fits text d h

-- The whole rule

-- what holds of a rule that was read
pub record Drawn (known : List Defined) (d : RuleDraft) : Type 0 where
  pub act : act_spelled known d.act ≡ true
  pub tag : tag_fits d.tag ≡ true
  pub keep : (not d.keep || allows d.act) ≡ true
  pub check : (not (is_check d.act) || (is_everywhere d.cond && leaves_tags d.tag)) ≡ true

checking_drawn : (known : List Defined) (d : RuleDraft) → Fresh d.cond d.tag d.keep × (d.act ≡ acts.Check) → Drawn known d
checking_drawn known d h = record {
  act = ap (act_spelled known) h.1;
  tag = ap tag_fits h.0.tag;
  keep = ap (λ b. not b || allows d.act) h.0.keep;
  check = or_right (not (is_check d.act)) (is_everywhere d.cond && leaves_tags d.tag)
      (and_from (is_everywhere d.cond) (leaves_tags d.tag) (ap is_everywhere h.0.lits) (ap leaves_tags h.0.tag));
}

acting_drawn : (known : List Defined) (d : RuleDraft) → Acting known d.act d.tag d.keep → Drawn known d
acting_drawn known d h = record {
  act = h.act;
  tag = h.tag;
  keep = h.keep;
  check = or_left (not (is_check d.act)) (is_everywhere d.cond && leaves_tags d.tag) (not_from_false (is_check d.act) h.other);
}

drawn_at : (known : List Defined) (expects : Expects) (d : RuleDraft) → At expects known d → may_end expects ≡ true → Drawn known d
drawn_at known expect.Flow d h e = checking_drawn known d h
drawn_at known expect.Nothing d h e = checking_drawn known d h
drawn_at known expect.DestinationPorts d h e = acting_drawn known d h
drawn_at known expect.Option d h e = acting_drawn known d h
drawn_at known expect.KeptFlow d h e = acting_drawn known d h
drawn_at known _ d h e = absurd (false≢true e)

pub rule_is_drawn : (site : Site) (known : List Defined) (ws : List Word) → IfOk (rule_draft site known ws) (Drawn known)
rule_is_drawn site known ws =
    then_known (Begun known) (Drawn known) (words_read (rule_step site known) fresh_rule ws) (λ d. cond (may_end d.expects) (Ok d) (Err Syntax))
    (words_hold (Begun known) (rule_step site known) (λ d w h. expected_fits known site d.expects w.text d h) fresh_rule ws (record { lits = refl; tag = refl; keep = refl }))
    (λ d h. either_holds (Drawn known) (may_end d.expects) (Ok d) (Err Syntax) (λ e. drawn_at known d.expects d h e) (λ e. tt))
