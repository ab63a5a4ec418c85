-- The words of a generated rule are read as that rule.
use Rattle.std.proofs.Common.{◌≡◌, ℕ, true, false, cond, Option, Some, None, ok_or, Result, Ok, Err, List, [], ◌∷◌, map, codes, ap, ◌∙◌}
use Rattle.std.specs.List.{list_all}
use Rattle.fws_num.specs.declared.prefix.Prefix.{Prefix}
use Rattle.fws_num.specs.Numbers.{dec_of, prefix_of, split_once}
use Rattle.fws_num.specs.Protocols.{protocol_named}
use Rattle.fws_num.specs.Words.{is_printed, plain_word}
use Rattle.fws_net.specs.declared.cause.Cause.{Cause}
use Rattle.fws_net.specs.declared.cause.Cause.TheVariants.{Syntax}
use Rattle.fws_net.specs.declared.condition.Test.TheVariants.{Src, Dst, Dport, Proto}
use Rattle.fws_net.specs.declared.site.Site.{Site}
use Rattle.fws_net.specs.Causes.{words_read}
use Rattle.fws_net.specs.Faces.{prefix_parts}
use Rattle.fws_net.specs.Reading.{and_then}
use Rattle.fws_rules.specs.Literals.{literals, one, positive}
use Rattle.fws_ipt.specs.declared.config.IptTable.TheVariants.{Filter}
use Rattle.fws_ipt.specs.declared.config.IptGo.TheVariants.{Accept}
use Rattle.fws_ipt.specs.declared.config.IptRule.{IptRule}
use Rattle.fws_ipt.specs.declared.config.IptChain.{IptChain}
use Rattle.fws_ipt.specs.declared.draft.Expects.TheVariants as expect
use Rattle.fws_ipt.specs.declared.draft.RuleDraft.{RuleDraft}
use Rattle.fws_ipt.specs.declared.hook.Hook.{Hook}
use Rattle.fws_ipt.specs.declared.words.TestOption.TheVariants.{Source, Destination, DestinationPort}
use Rattle.fws_ipt.specs.Options.{is_module, other_keyword, target_word, test_option}
use Rattle.fws_ipt.specs.RuleText.{expected_step, fresh_rule, rule_made, rule_of, rule_step, with_destination, with_literals, with_source}
use Rattle.fws_ipt.specs.Values.{open_range, range_meaning}

-- the words of a rule behind its chain, between which two networks and a port stand
abbrev pub words_behind : List ℕ → List ℕ → List ℕ → List (List ℕ)
words_behind source target port =
    codes "-s" ∷ source ∷ codes "-d" ∷ target ∷ codes "-p" ∷ codes "tcp" ∷ codes "-m" ∷ codes "tcp" ∷ codes "--dport" ∷ port ∷
    codes "-j" ∷ codes "ACCEPT" ∷ []

-- the rule of two networks and a port
abbrev pub rule_with : Prefix → Prefix → ℕ → IptRule
rule_with source target port = record {
  cond =
      positive (Src (prefix_parts source)) ∷ positive (Dst (prefix_parts target)) ∷ positive (Proto (one 6 6)) ∷
      positive (Dport (one port port)) ∷ [];
  go = Accept;
}

-- what was read ahead of a value
abbrev ahead_of_source : RuleDraft
ahead_of_source = record fresh_rule { expects = expect.Value Source false; given = codes "-s" ∷ [] }

abbrev behind_source : Prefix → RuleDraft
behind_source net = record ahead_of_source {
  expects = expect.Keyword;
  cond = positive (Src (prefix_parts net)) ∷ [];
  source = Some net.len;
}

abbrev ahead_of_target : Prefix → RuleDraft
ahead_of_target source = record (behind_source source) { expects = expect.Value Destination false; given = codes "-s" ∷ codes "-d" ∷ [] }

abbrev behind_target : Prefix → Prefix → RuleDraft
behind_target source net = record (ahead_of_target source) {
  expects = expect.Keyword;
  cond = positive (Src (prefix_parts source)) ∷ positive (Dst (prefix_parts net)) ∷ [];
  destination = Some net.len;
}

abbrev ahead_of_port : Prefix → Prefix → RuleDraft
ahead_of_port source target = record (behind_target source target) {
  expects = expect.Value DestinationPort false;
  given = codes "-s" ∷ codes "-d" ∷ codes "-p" ∷ codes "--dport" ∷ [];
  cond = positive (Src (prefix_parts source)) ∷ positive (Dst (prefix_parts target)) ∷ positive (Proto (one 6 6)) ∷ [];
  protocol = Some 6;
  has_port = true;
}

abbrev behind_port : Prefix → Prefix → ℕ → RuleDraft
behind_port source target port = record (ahead_of_port source target) {
  expects = expect.Keyword;
  cond = (rule_with source target port).cond;
}

-- a port alone is a range
range_read : (text : List ℕ) (port : ℕ) → split_once 58 text ≡ None → dec_of text 65535 ≡ Some port → open_range text ≡ Some (port, port)
range_read text port whole spelled = rw (whole, spelled)

module _ (site : Site) (chains : List IptChain) (hook : Option Hook) (line : ℕ) where
  abbrev read : RuleDraft → List (List ℕ) → Result RuleDraft Cause
  read d texts = words_read (rule_step site Filter chains) d (map (plain_word line) texts)

  -- a word that is taken
  word_then : (text : List ℕ) (rest : List (List ℕ)) (d e : RuleDraft) → list_all is_printed text ≡ true → expected_step site Filter chains d.expects text d ≡ Ok e
      → read d (text ∷ rest) ≡ read e rest
  word_then text rest d e sound step =
      ap (λ b. and_then (cond b (expected_step site Filter chains d.expects text d) (Err Syntax)) (λ e. read e rest)) sound
      ∙ ap (λ o. and_then o (λ e. read e rest)) step

  source_then : (text : List ℕ) (rest : List (List ℕ)) (net : Prefix) → list_all is_printed text ≡ true → prefix_of text ≡ Some net
      → read fresh_rule (codes "-s" ∷ text ∷ rest) ≡ read (behind_source net) rest
  unfolding test_option
  source_then text rest net sound spelled =
      word_then text rest ahead_of_source (behind_source net) sound
      (ap (λ o. and_then (ok_or o Syntax) (λ net. Ok (with_literals (literals false (Some (positive (Src (prefix_parts net))))) (with_source false net ahead_of_source)))) spelled)

  target_then : (source : Prefix) (text : List ℕ) (rest : List (List ℕ)) (net : Prefix) → list_all is_printed text ≡ true → prefix_of text ≡ Some net
      → read (behind_source source) (codes "-d" ∷ text ∷ rest) ≡ read (behind_target source net) rest
  unfolding test_option
  target_then source text rest net sound spelled =
      word_then text rest (ahead_of_target source) (behind_target source net) sound
      (ap (λ o. and_then (ok_or o Syntax) (λ net. Ok (with_literals (literals false (Some (positive (Dst (prefix_parts net))))) (with_destination false net (ahead_of_target source))))) spelled)

  -- the protocol and the module are the same in every rule
  port_then : (source target : Prefix) (text : List ℕ) (rest : List (List ℕ)) (port : ℕ) → list_all is_printed text ≡ true → split_once 58 text ≡ None
      → dec_of text 65535 ≡ Some port
      → read (behind_target source target) (codes "-p" ∷ codes "tcp" ∷ codes "-m" ∷ codes "tcp" ∷ codes "--dport" ∷ text ∷ rest)
      ≡ read (behind_port source target port) rest
  unfolding test_option other_keyword is_module protocol_named
  port_then source target text rest port sound whole spelled =
      let d = ahead_of_port source target in
      word_then text rest d (behind_port source target port) sound
      (ap (λ range. and_then (range_meaning Dport range) (λ lit. Ok (with_literals (literals false lit) d))) (range_read text port whole spelled))

  pub rule_read : (source target port : List ℕ) (from to : Prefix) (number : ℕ) → list_all is_printed source ≡ true → list_all is_printed target ≡ true
      → list_all is_printed port ≡ true → prefix_of source ≡ Some from → prefix_of target ≡ Some to → split_once 58 port ≡ None → dec_of port 65535 ≡ Some number
      → rule_of site Filter hook chains (map (plain_word line) (words_behind source target port)) ≡ Ok (rule_with from to number)
  unfolding test_option target_word other_keyword
  rule_read source target port from to number source_sound target_sound port_sound source_spelled target_spelled port_whole port_spelled =
      let last = codes "-j" ∷ codes "ACCEPT" ∷ [] in
      let later = codes "-p" ∷ codes "tcp" ∷ codes "-m" ∷ codes "tcp" ∷ codes "--dport" ∷ port ∷ last in
      ap (λ o. and_then o (rule_made Filter hook))
      (source_then source (codes "-d" ∷ target ∷ later) from source_sound source_spelled
      ∙ target_then from target later to target_sound target_spelled
      ∙ port_then from to port last number port_sound port_whole port_spelled)
